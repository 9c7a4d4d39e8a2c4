-- What the pieces of a step come to, as the code tells of them.
use Rattle.std.proofs.Common.{◌≡◌, refl, sym, ap, subst, ◌∙◌, inr, arith, ◌%◌, ◌-◌, ◌<◌, ◌+◌, true, ℕ, List, [], ◌∷◌, ◌++◌, append_assoc, length, length-append, take, Option, Some, None}
use Rattle.std.proofs.lemmas.Bool.Decides.{nat_tests}
use Rattle.std.specs.Prelude.{Result, Ok, Err}
use Rattle.disk_base.specs.declared.disk.Disk as disk
use Rattle.gem_spool.specs.declared.count.Count.{Count}
use Rattle.gem_spool.specs.declared.spool.GemSpool.{GemSpool}
use Rattle.gem_spool.specs.Standing.{count_of}
use Rattle.host_journal.specs.Fitting.{fit_in}
use Rattle.host_journal.specs.declared.listing.Fit.{Fit}
use Rattle.host_journal.specs.declared.listing.Fit.TheVariants as fit
use Rattle.host_node.specs.Calls.{HasBegun, HasStepped}
use Rattle.host_node.specs.Host.{HostOwn, Kind, host_machine}
use Rattle.host_node.specs.declared.calls.HostEnded.{HostEnded}
use Rattle.host_node.specs.declared.calls.HostEnded.TheVariants as host_ended
use Rattle.message_end.specs.Core.{Step}
use Rattle.message_end.specs.Ends.{Input}
use Rattle.message_end.specs.Parts.{Node}
use Rattle.message_flow.specs.declared.step.StepOut.{StepOut}
use Rattle.spool_law.specs.Journal.{entry_of}
use Rattle.spool_rule.specs.Rule.{is_spoolable}
use Rattle.trace_log.specs.declared.commands.HostCommand.{HostCommand}
use Rattle.trace_log.specs.Log.{Happening}
use Rattle.trace_log.specs.Names.{Record}
use Rattle.journal_node.specs.declared.journal_host.JournalEnded.{JournalEnded}
use Rattle.journal_node.specs.declared.journal_host.JournalEnded.TheVariants as ended
use Rattle.journal_node.specs.Amid.{Acts, ListsHeld, ListsOf, fit_on}
use Rattle.journal_node.specs.Held.{Held}
use Rattle.journal_node.specs.Journal.{listed_of}

-- ---- a record

pub spoolable-odd : (stream function : ℕ) → is_spoolable stream function ≡ true → function % 2 ≡ 1
spoolable-odd stream function is = grind (arith, nat_tests, is)

pub spoolable-low : (stream function : ℕ) → is_spoolable stream function ≡ true → stream < 128
spoolable-low stream function is = grind (arith, nat_tests, is)

pub fit-is :
    {D : Type 0} (g : GemSpool D) (listed : Record) (count : Count) (long : ℕ) (entry : List ℕ) (answer : Fit)
    → count ≡ count_of g.spool → long ≡ length entry → entry ≡ (entry_of listed).body → answer ≡ fit_in count long
    → fit_on g listed ≡ answer
fit-is g listed count long entry answer count_is long_is entry_is fits =
    ap (λ (c : Count). fit_in c (length (entry_of listed).body)) (sym count_is)
    ∙ ap (λ (n : ℕ). fit_in count n) (ap (λ (bytes : List ℕ). length bytes) (sym entry_is) ∙ sym long_is)
    ∙ sym fits

pub no-full : (answer : Fit) → answer ≡ fit.Full → answer ≡ fit.Fits → ⊥
no-full answer one two = absurd (cc)

pub no-spent : (answer : Fit) → answer ≡ fit.NumbersSpent → answer ≡ fit.Fits → ⊥
no-spent answer one two = absurd (cc)

-- ---- its notes

take-front : {X : Type 0} (xs ys : List X) → take (length xs) (xs ++ ys) ≡ xs
take-front [] ys = refl
take-front {X} (x ∷ xs) ys = ap (λ (rest : List X). x ∷ rest) (take-front xs ys)

pub take-last : {X : Type 0} (xs : List X) (a b : X)
    → take (length (xs ++ a ∷ b ∷ []) - 1) (xs ++ a ∷ b ∷ []) ≡ xs ++ a ∷ []
take-last {X} xs a b =
    ap (λ (n : ℕ). take n (xs ++ a ∷ b ∷ [])) shorter
    ∙ ap (λ (all : List X). take (length (xs ++ a ∷ [])) all) (sym (append_assoc xs (a ∷ []) (b ∷ [])))
    ∙ take-front (xs ++ a ∷ []) (b ∷ [])
  where
    shorter : length (xs ++ a ∷ b ∷ []) - 1 ≡ length (xs ++ a ∷ [])
    shorter =
        let both = length-append xs (a ∷ b ∷ []) in
        let one = length-append xs (a ∷ []) in
        omega (arith, both, one)

-- ---- a step

module _ {D : Type 0} (members : disk.Ghosts D) where
  -- what was noted alone tells of a listing that has failed
  pub lists-quiet :
      (listed : Option Record) (g : GemSpool D) (old mid new : StepOut) (end : JournalEnded D)
      → new.notes ≡ mid.notes → ListsOf members listed g old mid (Err end) → ListsOf members listed g old new (Err end)
  lists-quiet None g old mid new end same lists = absurd lists
  lists-quiet (Some listed) g old mid new (ended.JournalFull spent) same lists = (lists.0, same ∙ lists.1, lists.2)
  lists-quiet (Some listed) g old mid new (ended.NumbersSpent spent) same lists = (lists.0, same ∙ lists.1, lists.2)
  lists-quiet (Some listed) g old mid new (ended.DiskFailed spent) same lists = (lists.0, lists.1, same ∙ lists.2)
  lists-quiet (Some listed) g old mid new (ended.NoMemory spent) same lists = lists

  pub acts-with :
      (node next : Node HostOwn Kind) (g : GemSpool D) (input : Input HostCommand) (now : ℕ) (mid out : StepOut)
      (result : Result (Held D) (JournalEnded D)) → HasStepped (host_machine.act node input now) mid (Ok next)
      → ListsHeld members next g mid out result → Acts members node g input now out result
  acts-with node next g input now mid out (Ok k) stepped lists = record {
    mid = mid;
    stepped =
        subst (λ (n : Node HostOwn Kind). HasStepped (host_machine.act node input now) mid (Ok n))
        (sym lists.0) stepped;
    lists =
        subst (λ (n : Node HostOwn Kind). ListsOf members (listed_of n.own.delivered) g mid out (Ok k.journal))
        (sym lists.0) lists.1;
    line = lists.2;
  }
  acts-with node next g input now mid out (Err end) stepped lists =
      inr (record { mid = mid; next = next; stepped = stepped; lists = lists.0; quiet = lists.1 })

-- ---- a start

pub begun-quiet : (start : Step (Node HostOwn Kind) Happening) (out : StepOut) (end : HostEnded)
    → HasBegun start out (Err end) → out.line.items ≡ []
begun-quiet start out host_ended.NoMemory is = is
begun-quiet start out host_ended.NumbersSpent is = absurd is
