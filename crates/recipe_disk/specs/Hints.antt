-- What is kept in memory of slots, and what it tells of those of a file (this profile).
use Rattle.std.specs.Prelude.{◌≡◌, ◌+◌, ◌*◌, ◌%◌, ◌^◌, ◌<◌, ◌&&◌, ◌==◌, ℕ, Bool, true, false, nat_lt, List, fold, Option, None, Some, IfSome, Result, Ok, Err, if◌then◌else◌}
use Rattle.std.specs.List.{slice_index_or}
use Rattle.disk_base.specs.Story.{Story}
use Rattle.disk_base.specs.declared.disk.DiskAnswer.{DiskAnswer}
use Rattle.disk_base.specs.declared.disk.DiskAnswer.TheVariants.{Done, Failed}
use Rattle.spool_file.specs.Area.{first_at}
use Rattle.recipe_disk.specs.Reading.{is_sought}
use Rattle.recipe_disk.specs.Slot.{RecipeSlot, head_in, name_in, slot_in}
use Rattle.recipe_disk.specs.declared.head.Head.{Head}
use Rattle.recipe_disk.specs.declared.hints.Hint.{Hint}
use Rattle.recipe_disk.specs.declared.sought.Sought.{Sought}
use Rattle.recipe_disk.specs.declared.sought.Sought.TheVariants.{Name, Newer, Number}

-- the fingerprint of a name
unfoldable pub print_of : List ℕ → ℕ
print_of name = fold (λ print byte. (print * 16777619 + byte) % 2 ^ 32) 0 name

abbrev pub shut : Hint
shut = record { opened = false; print = 0; number = 0 }

abbrev pub hint_in : Head → Hint
hint_in head =
    if head.opened then record { opened = true; print = print_of (name_in head); number = head.number } else shut

-- those of the first n slots are these
abbrev pub AreHints : (ℕ → RecipeSlot) → ℕ → List Hint → Type 0
AreHints slot n hints = (k : ℕ) (d : Hint) → k < n → slice_index_or hints k d ≡ hint_in (slot k).head

-- so it is of the slots of a disk that tells its bytes
abbrev pub KnowsSlots : Option Story → ℕ → List Hint → Type 0
KnowsSlots told n hints = (s : Story) → told ≡ Some s → AreHints (slot_in s.now.bytes) n hints

abbrev pub KnowsUnless : (failed : Bool) → Option Story → ℕ → List Hint → Type 0
KnowsUnless true told n hints = Unit {0}
KnowsUnless false told n hints = KnowsSlots told n hints

-- and stays so behind what was done, unless the disk failed
abbrev pub StillKnows : (before after : Option Story) → ℕ → (hints now : List Hint) → DiskAnswer → Type 0
StillKnows before after n hints now Done = KnowsSlots before n hints → KnowsSlots after n now
StillKnows before after n hints now Failed = Unit {0}

-- ---- what is looked for

-- the fingerprint of its name, if it has one
abbrev pub sought_print : Sought → ℕ
sought_print (Number number) = 0
sought_print (Name name) = print_of name.now
sought_print (Newer name number) = print_of name.now

-- whether a slot of this hint may be such a one
abbrev pub may_be : Sought → ℕ → Hint → Bool
may_be (Number number) print hint = hint.number == number
may_be (Name name) print hint = hint.print == print
may_be (Newer name number) print hint = hint.print == print && nat_lt number hint.number

-- whether slot k is open and such a one, and the first one that is
abbrev pub is_there : Sought → List ℕ → ℕ → Bool
is_there sought bytes k = (head_in bytes k).opened && is_sought sought (head_in bytes k)

abbrev pub first_there : Sought → List ℕ → ℕ → Option ℕ
first_there sought bytes n = first_at (λ k. if is_there sought bytes k then Some k else None) n

-- a slot that was found is one of the first n
abbrev pub IsBelow : {E : Type 0} → ℕ → Result (Option ℕ) E → Type 0
IsBelow n (Ok found) = IfSome found (λ k. k < n)
IsBelow n (Err fault) = Unit {0}
