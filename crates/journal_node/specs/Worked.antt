-- Examples that can be followed by hand: what a host lists, with which number, when its journal is full, and what a
-- loss of power leaves.
use Rattle.std.specs.Prelude.{◌≡◌, ℕ, ◌^◌, Bool, true, false, List, [], ◌∷◌, ◌++◌, map, replicate, Some, None}
use Rattle.block_codec.specs.Block.{BlockView}
use Rattle.disk_base.specs.declared.cut.CutChoice.{CutChoice}
use Rattle.disk_base.specs.declared.cut.CutChoice.TheVariants.{Fill, New, Old}
use Rattle.gem_spool.specs.declared.count.Count.{Count}
use Rattle.host_journal.specs.Fitting.{fit_in}
use Rattle.host_journal.specs.declared.listing.Fit.TheVariants as fit
use Rattle.host_node.specs.Host.{Kind}
use Rattle.message_end.specs.Core.{Command}
use Rattle.message_end.specs.Core.Command.{Halt, Note}
use Rattle.message_end.specs.Doings.{Doing}
use Rattle.message_end.specs.Doings.Doing.{Does, Gives, Says}
use Rattle.message_end.specs.Own.Own.{ReceivedMessage}
use Rattle.message_flow.specs.declared.message.Message.{Message}
use Rattle.spool_file.specs.File.{SpoolFile}
use Rattle.spool_works.specs.DiskWorks.DiskWork.{Reserve}
use Rattle.spool_works.specs.WorkedCalls.{file_with}
use Rattle.trace_log.specs.Log.Happening.{Listed, Listing, Received, StepEnded}
use Rattle.trace_log.specs.Names.{Record}
use Rattle.journal_node.specs.Journal.{file_behind, fit_of, listed_of, listing_commands, put_works, standing_of_file}
use Rattle.journal_node.specs.Law.{AreListed}
use Rattle.journal_node.specs.Works.{losses_of}

-- ---- what is listed

-- a message of a stream and function, with W or without, of two bytes and with system bytes 7
abbrev pub message_with : ℕ → ℕ → Bool → Message
message_with stream function wait =
    record { stream = stream; function = function; wait = wait; system = 7; body = 1 ∷ 0 ∷ [] }

abbrev pub record_with : ℕ → ℕ → Record
record_with stream function = record { stream = stream; function = function; system = 7; body = 1 ∷ 0 ∷ [] }

pub record ListsThreeKinds : Type 0 where
  pub alarm : listed_of (Some (message_with 5 1 true)) ≡ Some (record_with 5 1)
  pub report : listed_of (Some (message_with 6 11 true)) ≡ Some (record_with 6 11)
  pub terminal : listed_of (Some (message_with 10 1 true)) ≡ Some (record_with 10 1)
  -- also where no reply is awaited
  pub unasked : listed_of (Some (message_with 6 11 false)) ≡ Some (record_with 6 11)
  pub traced : listed_of (Some (message_with 6 1 true)) ≡ None
  pub asking : listed_of (Some (message_with 1 13 true)) ≡ None
  pub reply : listed_of (Some (message_with 6 12 false)) ≡ None
  pub nothing : listed_of None ≡ None

-- ---- with which number, and until when

abbrev pub report : Record
report = record_with 6 11

-- a journal of so many slots, empty
abbrev pub new_file : ℕ → SpoolFile
new_file slots = file_with (replicate slots false) []

abbrev pub behind_one : SpoolFile → SpoolFile
behind_one file = file_behind file (Some report)

abbrev pub full_file : SpoolFile
full_file = behind_one (behind_one (behind_one (new_file 3)))

abbrev pub commands_over : SpoolFile → List (Command Kind)
commands_over file = listing_commands (standing_of_file file) (Some report)

-- the numbers of a new journal of so many slots whose next number is this
abbrev pub count_over : ℕ → ℕ → Count
count_over slots next = record { version = 2; slots = slots; next = next; len = 0; used = 0 }

-- system bytes and text of so many bytes
abbrev pub long : ℕ → Record
long size = record { stream = 6; function = 11; system = 7; body = replicate size 0 }

pub record ListsUntilFull : Type 0 where
  pub first : commands_over (new_file 3) ≡ Note (Listing 0 report) ∷ Note (Listed 0 report) ∷ []
  pub third :
      commands_over (behind_one (behind_one (new_file 3))) ≡ Note (Listing 2 report) ∷ Note (Listed 2 report) ∷ []
  -- at the fourth the step ends, and nothing is noted of it
  pub fourth : commands_over full_file ≡ Halt ∷ []
  pub full : fit_of (standing_of_file full_file) report ≡ fit.Full
  -- a record of 9,000 bytes takes three of sixteen slots, and the next one has number 3
  pub long_one : fit_of (standing_of_file (new_file 16)) (long 8996) ≡ fit.Fits
  pub next : (standing_of_file (file_behind (new_file 16) (Some (long 8996)))).next ≡ 3
  -- a byte too much, and no number behind the last; where both are so the journal is full
  pub longest : fit_in (count_over 300 0) 1048576 ≡ fit.Fits
  pub too_long : fit_in (count_over 300 0) 1048577 ≡ fit.Full
  pub spent : fit_in (count_over 300 (2 ^ 63)) 6 ≡ fit.NumbersSpent
  pub both : fit_in (count_over 300 (2 ^ 63)) 1048577 ≡ fit.Full

-- ---- what a loss leaves

-- at each call of a put, the numbers that a start finds
abbrev pub left_at : CutChoice → List (List ℕ)
left_at choice =
    map (λ loss. map (λ message. message.number) (loss.left choice).list)
    (losses_of (λ file. file) (standing_of_file (behind_one (new_file 3))) [] (put_works (Some report))
    (Listing 1 report ∷ Listed 1 report ∷ StepEnded ∷ []))

pub record LosesWholeRecords : Type 0 where
  pub old : left_at Old ≡ replicate 5 (0 ∷ [])
  pub new : left_at New ≡ replicate 3 (0 ∷ []) ++ replicate 2 (0 ∷ 1 ∷ [])
  -- 5A opens the gate of a slot, and A5 doesn't
  pub opens : left_at (Fill 90) ≡ replicate 3 (0 ∷ []) ++ replicate 2 (0 ∷ 1 ∷ [])
  pub stays : left_at (Fill 165) ≡ replicate 5 (0 ∷ [])
  -- what is noted by then ends with its first line
  pub noted :
      map (λ loss. loss.front)
      (losses_of (λ file. file) (standing_of_file (new_file 3)) [] (put_works (Some report))
      (Received (message_with 6 11 true) ∷ Listing 0 report ∷ Listed 0 report ∷ StepEnded ∷ []))
      ≡ replicate 5 (Received (message_with 6 11 true) ∷ Listing 0 report ∷ [])
  -- the calls of a reserve, which comes first, leave no note of the step
  pub reserved :
      map (λ loss. loss.front)
      (losses_of (λ file. file) (standing_of_file (new_file 3)) [] (Reserve ∷ [])
      (Received (message_with 6 11 true) ∷ StepEnded ∷ []))
      ≡ replicate 5 []

-- ---- what a host may do

-- it receives a report, lists it and gives the reply to its line. Doings have the newest first
abbrev pub listed_first : BlockView → List Doing
listed_first block =
    Gives 0 1 block 0 ∷ Says (Listed 0 report) ∷ Says (Listing 0 report) ∷ Does (ReceivedMessage
    (message_with 6 11 true))
    ∷ []

-- or gives the reply before
abbrev pub given_first : BlockView → List Doing
given_first block =
    Says (Listed 0 report) ∷ Says (Listing 0 report) ∷ Gives 0 1 block 0 ∷ Does (ReceivedMessage
    (message_with 6 11 true))
    ∷ []

-- or ends the step without
abbrev pub ended_first : List Doing
ended_first = Says StepEnded ∷ Does (ReceivedMessage (message_with 6 11 true)) ∷ []

pub record ListsBeforeReplies : Type 0 where
  pub behind : (block : BlockView) → AreListed (listed_first block)
  pub before : (block : BlockView) → AreListed (given_first block) → ⊥
  pub never : AreListed ended_first → ⊥
