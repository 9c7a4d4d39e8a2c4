-- That some works behind others break where they break together.
use Rattle.std.proofs.Common.{◌≡◌, ◌∙◌, sym, ap, subst, arith, ◌+◌, ◌-◌, ◌<◌, zero, suc, ℕ, List, ◌++◌, length, Some}
use Rattle.std.proofs.lemmas.List.{length-map, map-append}
use Rattle.disk_base.specs.Calls.{DiskCall}
use Rattle.disk_base.specs.Faults.{DiskHealth}
use Rattle.disk_base.specs.Story.{Story}
use Rattle.disk_base.specs.declared.disk.Disk as disk
use Rattle.message_end.specs.Ends.{Loss, call_of}
use Rattle.message_flow.specs.declared.step.Note.{Note}
use Rattle.journal_node.specs.Stepping.{BreaksAt, HasBrokenAt, Passes, bytes_of, sizes_of}
use Rattle.spool_works.specs.Breaking.{HasPassed, IsGoingDisk}
use Rattle.journal_node.specs.Journal.{JournalView}
use Rattle.spool_file.specs.Logs.{written_by}
use Rattle.spool_works.proofs.BrokenPasses.{used-passes}
use Rattle.spool_works.proofs.Called.{made-then}
use Rattle.spool_works.proofs.CallPlaces.{call-before, call-behind}

-- ---- losses behind others

pub broken-before : (one two : List (Loss JournalView)) (call : ℕ) (after : Story) (notes : List Note)
    → HasBrokenAt one call after notes → HasBrokenAt (one ++ two) call after notes
broken-before one two call after notes is =
    record { loss = is.loss; is = call-before one two call is.loss is.is; left = is.left; noted = is.noted }

pub broken-behind :
    (one two : List (Loss JournalView)) (before now : DiskHealth) (after : Story) (notes : List Note)
    → HasPassed before now (length one) → HasBrokenAt two now.stop_in after notes
    → HasBrokenAt (one ++ two) before.stop_in after notes
broken-behind one two before now after notes passed is = record {
  loss = is.loss;
  is =
      subst (λ (k : ℕ). call_of k (one ++ two) ≡ Some is.loss) (place passed.nearer)
      (call-behind one two now.stop_in is.loss is.is);
  left = is.left;
  noted = is.noted;
}
  where
    some : (n : ℕ) → call_of n two ≡ Some is.loss → 0 < n
    some zero none = absurd (cc)
    some (suc n) one = omega arith

    place : now.stop_in ≡ before.stop_in - length one → length one + now.stop_in ≡ before.stop_in
    place near = let more = some now.stop_in is.is in omega (arith, near, more)

-- ---- calls that write what losses say

pub both-sized :
    (made more : List DiskCall) (one two : List (Loss JournalView)) → bytes_of made ≡ sizes_of one
    → bytes_of more ≡ sizes_of two → bytes_of (made ++ more) ≡ sizes_of (one ++ two)
both-sized made more one two first second =
    map-append (λ (call : DiskCall). length call.bytes) made more
    ∙ ap (λ (sizes : List ℕ). sizes ++ bytes_of more) first
    ∙ ap (λ (sizes : List ℕ). sizes_of one ++ sizes) second
    ∙ sym (map-append (λ (loss : Loss JournalView). loss.bytes) one two)

pub sized-many : (made : List DiskCall) (losses : List (Loss JournalView)) → bytes_of made ≡ sizes_of losses
    → length made ≡ length losses
sized-many made losses sized =
    sym (length-map made (λ (call : DiskCall). length call.bytes)) ∙ ap length sized
    ∙ length-map losses (λ (loss : Loss JournalView). loss.bytes)

module _ {D : Type 0} (members : disk.Ghosts D) where
  pub passes-both :
      (a b c : D) (one two : List (Loss JournalView)) → Passes members a one b → Passes members b two c
      → Passes members a (one ++ two) c
  passes-both a b c one two first second = record {
    made = first.made ++ second.made;
    sized = both-sized first.made second.made one two first.sized second.sized;
    are = made-then members a b c first.made second.made first.are second.are;
  }

  -- none of them is the planned one
  pub passed-by :
      (old new : D) (losses : List (Loss JournalView)) → Passes members old losses new
      → IsGoingDisk (members.health old) → HasPassed (members.health old) (members.health new) (length losses)
  passed-by old new losses is on =
      subst (λ (n : ℕ). HasPassed (members.health old) (members.health new) n) (sized-many is.made losses is.sized)
      (used-passes (members.health old) (members.health new) (length is.made) (written_by is.made) is.are.used on)

  -- the planned call is among the later ones
  pub breaks-behind :
      (a b c : D) (one two : List (Loss JournalView)) (notes : List Note) → IsGoingDisk (members.health a)
      → Passes members a one b → BreaksAt members b two c notes → BreaksAt members a (one ++ two) c notes
  breaks-behind a b c one two notes on first breaks t new images stopped =
      broken-behind one two (members.health a) (members.health b) t notes (passed-by a b one first on)
      (breaks t new images stopped)

  pub breaks-before :
      (a c : D) (one two : List (Loss JournalView)) (notes : List Note) → BreaksAt members a one c notes
      → BreaksAt members a (one ++ two) c notes
  breaks-before a c one two notes breaks t new images stopped =
      broken-before one two (members.health a).stop_in t notes (breaks t new images stopped)
