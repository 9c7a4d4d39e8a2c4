-- Runs and logs that can be followed by hand.
use Rattle.std.specs.Prelude.{◌≡◌, ℕ, List, [], ◌∷◌, ◌++◌, Some, None}
use Rattle.delivery.specs.Worked.{Scene, a_plan, does, moves_after, plans, transfer}
use Rattle.delivery.specs.Worked.Scene.{Block, One, Takes}
use Rattle.gl_base.specs.declared.side.Side.TheVariants.{Equipment, Host}
use Rattle.line_end.specs.Plan.{TimesFit}
use Rattle.line_end.specs.Step.{ack}
use Rattle.line_end.specs.Step.LineCall.{Tick}
use Rattle.line_order.specs.Acts.{HasNoSlip}
use Rattle.line_order.specs.Line.{new_line}
use Rattle.message_end.specs.Core.{Went}
use Rattle.message_end.specs.Core.Went.{Spent}
use Rattle.message_end.specs.Doings.Doing.{Calls}
use Rattle.message_end.specs.Log.{log_of}
use Rattle.message_end.specs.Moves.{Kind, Move, deeds_of}
use Rattle.message_end.specs.Moves.Kind.{Did, Started}
use Rattle.message_end.specs.Own.Own.{DrewNumber, ReceivedMessage, SentMessage}
use Rattle.message_flow.specs.declared.message.Message.{Message}
use Rattle.trace_log.specs.declared.names.Cause.TheVariants as cause
use Rattle.trace_log.specs.Log.{Happening}
use Rattle.trace_log.specs.Log.Happening.{EquipmentStarted, Gone, HostStarted, Leaving, Listed, Listing, Power, Received, Sent, StepEnded, Stored, Storing, Try, Wrote}
use Rattle.trace_log.specs.Names.{Record, Spooled}
use Rattle.spool_law.specs.Journal.{entry_of}
use Rattle.spool_law.specs.Listing.{AllStoredAreSpoolable, BeginsNoneEarly, KeepsListing, record_of}
use Rattle.spool_delivery.specs.Account.{folded, standing_of, taken_of}
use Rattle.spool_delivery.specs.Claims.{TakenInOrder, equipment_notes}
use Rattle.spool_delivery.specs.Laws.{IsSpoolTaken, KeepSpoolLaws}
use Rattle.spool_delivery.specs.Worked.{numbers, plain_policy, reply, report, says, sent_report}
use Rattle.journal_delivery.specs.Laws.{KeepJournalLaws}
use Rattle.journal_delivery.specs.Listed.{listed_log}

abbrev pub first_report : Message
first_report = sent_report 1 (65 ∷ [])

abbrev pub listed_report : Record
listed_report = record_of first_report

abbrev pub host_starts : List (ℕ × Spooled) → ℕ → Kind
host_starts found base = Started (HostStarted (Some (record { found = found; base = base }))) base

-- a report is put into the spool and tried, and the host receives and answers it
abbrev pub tried_first : List Scene
tried_first =
    One Equipment 0 (Started (EquipmentStarted [] 1) 1)
    ∷ One Host 0 (host_starts [] 0)
    ∷ One Equipment 0 (says (Storing 0 (report (65 ∷ []))))
    ∷ One Equipment 0 (says (Stored 0))
    ∷ One Equipment 1 (does (DrewNumber 1))
    ∷ One Equipment 1 (says (Try 0 1))
    ∷ One Equipment 1 (does (SentMessage first_report))
    ∷ Block Equipment 1 first_report 0 1
    ∷ transfer Equipment 2 first_report 1
    ++ One Host 4 (does (ReceivedMessage first_report))
    ∷ One Host 4 (does (SentMessage (reply 1)))
    ∷ []

-- the reply goes to the equipment, which confirms the report
abbrev pub confirms : ℕ → List Scene
confirms moment =
    Takes Equipment moment (ack ∷ [])
    ∷ Block Host moment (reply 1) 0 1
    ∷ transfer Host moment (reply 1) 1
    ++ One Equipment moment (does (ReceivedMessage (reply 1)))
    ∷ One Equipment moment (says (Leaving 0 cause.Confirmed None))
    ∷ One Equipment moment (says (Gone 0))
    ∷ []

-- ---- the host loses its power as it lists a report, and lists it again

-- it finds these records at its start; the equipment's T2 runs out, and it writes the report once more
abbrev pub restarted : List (ℕ × Spooled) → ℕ → List Scene
restarted found number =
    tried_first
    ++ One Host 4 (says (Listing 0 listed_report))
    ∷ One Host 4 (says Power)
    ∷ One Host 4 (host_starts found 4096)
    ∷ One Equipment 10003 (Did (Calls (Tick 10003)))
    ∷ transfer Equipment 10004 first_report 1
    ++ One Host 10006 (does (ReceivedMessage first_report))
    ∷ One Host 10006 (does (SentMessage (reply 1)))
    ∷ One Host 10006 (says (Listing number listed_report))
    ∷ One Host 10006 (says (Listed number listed_report))
    ∷ confirms 10007

abbrev pub restarted_moves : List (ℕ × Spooled) → ℕ → List Move
restarted_moves found number = moves_after (restarted found number) []

abbrev pub found_record : List (ℕ × Spooled)
found_record = (0, entry_of listed_report) ∷ []

-- whatever it finds all laws hold. Where it finds the number of what it was listing, it has listed the report twice,
-- which counts once; where it doesn't, once
pub record ListsAgain : Type 0 where
  pub fits : TimesFit a_plan.times
  pub no_slip :
      (found : List (ℕ × Spooled)) (number : ℕ)
      → HasNoSlip (new_line a_plan.times a_plan.times) (deeds_of (restarted_moves found number))
  pub laws :
      (found : List (ℕ × Spooled)) (number : ℕ) → KeepJournalLaws plain_policy plans (restarted_moves found number)
  pub received : numbers (taken_of (log_of (restarted_moves found_record 1))) ≡ 0 ∷ 0 ∷ []
  pub listed : numbers (taken_of (listed_log (log_of (restarted_moves found_record 1)))) ≡ 0 ∷ 0 ∷ []
  pub once : numbers (folded (taken_of (listed_log (log_of (restarted_moves found_record 1))))) ≡ 0 ∷ []
  pub lost : numbers (taken_of (listed_log (log_of (restarted_moves [] 0)))) ≡ 0 ∷ []
  pub gone : standing_of (listed_log (log_of (restarted_moves found_record 1))) ≡ []

-- ---- the reply goes out before the report is listed

abbrev pub answered_first : List Scene
answered_first =
    tried_first ++ confirms 7
    ++ One Host 8 (says (Listing 0 listed_report))
    ∷ One Host 8 (says Power)
    ∷ One Host 8 (host_starts [] 4096)
    ∷ []

abbrev pub answered_first_moves : List Move
answered_first_moves = moves_after answered_first []

-- all other laws hold, and the report is neither in the spool nor in the journal
pub record NeedsListing : Type 0 where
  pub spool : KeepSpoolLaws plain_policy plans answered_first_moves
  pub stored : AllStoredAreSpoolable (equipment_notes (log_of answered_first_moves))
  pub law : KeepsListing plans answered_first_moves → ⊥
  pub claim : IsSpoolTaken plain_policy (listed_log (log_of answered_first_moves)) → ⊥

-- ---- two reports are received before one is listed, and the second one is listed first

abbrev pub second_report : Message
second_report = sent_report 2 (66 ∷ [])

abbrev pub received_both : List Move
received_both =
    moves_after
    (One Equipment 0 (Started (EquipmentStarted [] 1) 1)
    ∷ One Equipment 0 (says (Storing 0 (report (65 ∷ []))))
    ∷ One Equipment 0 (says (Stored 0))
    ∷ One Equipment 0 (says (Storing 1 (report (66 ∷ []))))
    ∷ One Equipment 0 (says (Stored 1))
    ∷ One Equipment 1 (says (Try 0 1))
    ∷ One Equipment 2 (says (Leaving 0 cause.Overwritten (Some (report (67 ∷ [])))))
    ∷ One Equipment 2 (says (Gone 0))
    ∷ One Equipment 2 (says (Try 1 2))
    ∷ One Host 3 (does (ReceivedMessage first_report))
    ∷ One Host 4 (does (ReceivedMessage second_report))
    ∷ One Host 4 (says (Listing 0 (record_of second_report)))
    ∷ One Host 4 (says (Listed 0 (record_of second_report)))
    ∷ One Host 4 (says (Listing 1 listed_report))
    ∷ One Host 4 (says (Listed 1 listed_report))
    ∷ []) []

pub record ListsInTurn : Type 0 where
  pub law : KeepsListing plans received_both → ⊥
  pub claim : TakenInOrder (listed_log (log_of received_both)) → ⊥

-- ---- what is listed isn't what was received last

abbrev pub listed_another : List Move
listed_another =
    moves_after
    (One Host 0 (does (ReceivedMessage first_report)) ∷ One Host 0 (says (Listing 0 (record_of second_report))) ∷ []) []

abbrev pub listed_unbegun : List Move
listed_unbegun =
    moves_after
    (One Host 0 (does (ReceivedMessage first_report)) ∷ One Host 0 (says (Listed 0 listed_report)) ∷ []) []

pub record ListsWhatComes : Type 0 where
  pub another : KeepsListing plans listed_another → ⊥
  pub unbegun : KeepsListing plans listed_unbegun → ⊥

-- ---- a report is listed behind the step in which it was received, or behind the characters of that

abbrev pub host_says : Happening → Scene
host_says what = One Host 0 (says what)

abbrev pub received_then : List Scene → List Move
received_then scenes = moves_after (One Host 0 (does (ReceivedMessage first_report)) ∷ scenes) []

abbrev pub lists_it : List Scene
lists_it = host_says (Listing 0 listed_report) ∷ host_says (Listed 0 listed_report) ∷ []

pub record ListsInItsStep : Type 0 where
  pub in_time :
      KeepsListing plans (received_then (lists_it ++ host_says StepEnded ∷ host_says (Wrote (6 ∷ [])) ∷ []))
  pub late : KeepsListing plans (received_then (host_says StepEnded ∷ lists_it)) → ⊥
  pub written : KeepsListing plans (received_then (host_says (Wrote (6 ∷ [])) ∷ lists_it)) → ⊥

-- ---- a step ends early, for a record without room or for one that is on its way into the journal

abbrev pub ends_early : List Happening → Went (Unit {0}) Happening
ends_early notes = Spent (record { next = tt; notes = notes; written = [] })

pub record ListsNoneEarly : Type 0 where
  pub without_room : BeginsNoneEarly (ends_early (Received first_report ∷ Sent (reply 1) ∷ []))
  pub begun : BeginsNoneEarly (ends_early (Received first_report ∷ Listing 0 listed_report ∷ [])) → ⊥
