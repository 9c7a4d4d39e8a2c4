-- Notes that say nothing of a journal.
use Rattle.std.proofs.Common.{◌≡◌, refl, ap, ◌∙◌, ℕ, List, [], ◌∷◌, ◌++◌, Option, None, Some}
use Rattle.std.specs.List.{cons_option, filter_map}
use Rattle.journal_node.proofs.EarlyNotes.{first-notes}
use Rattle.journal_node.proofs.FreeNotes.{IsFree}
use Rattle.journal_node.specs.Journal.{first_parts}
use Rattle.host_node.specs.Host.{HostOwn, Kind}
use Rattle.journal_law.specs.Turns.{WriteInTurn}
use Rattle.message_end.specs.Core.{at_first, step_in}
use Rattle.message_end.specs.Course.{noted_behind}
use Rattle.message_end.specs.Ends.{Input}
use Rattle.message_end.specs.Parts.{Node, after_parts}
use Rattle.spool_law.specs.Journal.{as_stored}
use Rattle.trace_log.specs.declared.commands.HostCommand.{HostCommand}
use Rattle.trace_log.specs.Log.{Happening}

-- what is said of it
abbrev pub stored : List Happening → List Happening
stored = filter_map as_stored

-- nor of characters that were written
abbrev pub IsUnwritten : Happening → Type 0
IsUnwritten (Happening.Wrote characters) = ⊥
IsUnwritten _ = Unit {0}

abbrev pub AreUnwritten : List Happening → Type 0
AreUnwritten [] = Unit {0}
AreUnwritten (what ∷ notes) = IsUnwritten what × AreUnwritten notes

abbrev pub IsQuiet : Happening → Type 0
IsQuiet what = as_stored what ≡ None

abbrev pub AreQuiet : List Happening → Type 0
AreQuiet [] = Unit {0}
AreQuiet (what ∷ notes) = IsQuiet what × AreQuiet notes

pub quiet-both : (xs ys : List Happening) → AreQuiet xs → AreQuiet ys → AreQuiet (xs ++ ys)
quiet-both [] ys one two = two
quiet-both (x ∷ xs) ys one two = (one.0, quiet-both xs ys one.1 two)

pub quiet-more : (what : Happening) (before : List Happening) → IsQuiet what → stored (what ∷ before) ≡ stored before
quiet-more what before quiet = ap (λ (o : Option Happening). cons_option o (stored before)) quiet

pub quiet-behind : (notes before : List Happening) → AreQuiet notes → stored (noted_behind notes before) ≡ stored before
quiet-behind [] before quiet = refl
quiet-behind (what ∷ notes) before quiet =
    quiet-behind notes (what ∷ before) quiet.1 ∙ quiet-more what before quiet.0

-- those of a host's parts up to its input are such
pub first-quiet :
    (input : Input HostCommand) (now : ℕ) (node : Node HostOwn Kind)
    → AreQuiet (step_in (after_parts Some (first_parts input now) (at_first node))).notes
first-quiet input now node =
    first-notes AreQuiet (λ notes what free is. quiet-both notes (what ∷ []) is (one what free, tt))
    (λ notes message is. quiet-both notes (Happening.Received message ∷ []) is (refl, tt)) input now node tt
  where
    one : (what : Happening) → IsFree what → IsQuiet what
    one (Happening.HostStarted journal) free = absurd free
    one (Happening.Listing number listed) free = absurd free
    one (Happening.Listed number listed) free = absurd free
    one what free = refl

-- ---- characters

pub unwritten-both : (xs ys : List Happening) → AreUnwritten xs → AreUnwritten ys → AreUnwritten (xs ++ ys)
unwritten-both [] ys one two = two
unwritten-both (x ∷ xs) ys one two = (one.0, unwritten-both xs ys one.1 two)

pub first-unwritten :
    (input : Input HostCommand) (now : ℕ) (node : Node HostOwn Kind)
    → AreUnwritten (step_in (after_parts Some (first_parts input now) (at_first node))).notes
first-unwritten input now node =
    first-notes AreUnwritten (λ notes what free is. unwritten-both notes (what ∷ []) is (one what free, tt))
    (λ notes message is. unwritten-both notes (Happening.Received message ∷ []) is (tt, tt)) input now node tt
  where
    one : (what : Happening) → IsFree what → IsUnwritten what
    one (Happening.Wrote characters) free = absurd free
    one what free = tt

pub turn-more : (what : Happening) (before : List Happening) → IsUnwritten what → WriteInTurn before
    → WriteInTurn (what ∷ before)
turn-more (Happening.Wrote characters) before free turns = absurd free
turn-more what before free turns = turns

pub turns-behind : (said before : List Happening) → AreUnwritten said → WriteInTurn before
    → WriteInTurn (noted_behind said before)
turns-behind [] before free turns = turns
turns-behind (what ∷ said) before free turns =
    turns-behind said (what ∷ before) free.1 (turn-more what before free.0 turns)
