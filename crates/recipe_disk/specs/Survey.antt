-- What is looked for in the slots of a file: a name, a slot that is free, how many names there are, and the next number
-- (this profile).
use Rattle.std.specs.Prelude.{◌≡◌, ◌+◌, ◌^◌, ◌<◌, ◌≤◌, ℕ, zero, suc, ◌&&◌, Bool, bytes_eq, is_none, max, nat_le, not, if◌then◌else◌, List, Option, Some, None, IfSome, Result, Ok, Err}
use Rattle.spool_file.specs.Area.{first_at}
use Rattle.recipe_disk.specs.Slot.{RecipeSlot, fields_break, head_break, name_in}
use Rattle.recipe_disk.specs.declared.head.Head.{Head}
use Rattle.recipe_disk.specs.declared.survey.Survey.{Survey}

-- a head that is open with fields in their ranges, also over a disk that tells nothing
abbrev pub is_live : Head → Bool
is_live head = head.opened && is_none (fields_break head)

abbrev pub named_if : List ℕ → Head → ℕ → Option ℕ
named_if name head k = if is_live head && bytes_eq (name_in head) name then Some k else None

abbrev pub free_if : Head → ℕ → Option ℕ
free_if head k = if not head.opened then Some k else None

-- the counts with those of one head more
abbrev pub count_if : Head → ℕ → ℕ
count_if head count = if is_live head then count + 1 else count

abbrev pub behind_if : Head → ℕ → ℕ
behind_if head behind = if is_live head then max behind (head.number + 1) else behind

-- the first slot of a name, and the first one that isn't open
abbrev pub named_at : (ℕ → RecipeSlot) → List ℕ → ℕ → Option ℕ
named_at slot name n = first_at (λ k. named_if name (slot k).head k) n

abbrev pub free_at : (ℕ → RecipeSlot) → ℕ → Option ℕ
free_at slot n = first_at (λ k. free_if (slot k).head k) n

-- how many slots there are with recipes, and the number behind their greatest
abbrev pub live_count : (ℕ → RecipeSlot) → ℕ → ℕ
live_count slot zero = 0
live_count slot (suc k) = count_if (slot k).head (live_count slot k)

abbrev pub behind_live : (ℕ → RecipeSlot) → ℕ → ℕ
behind_live slot zero = 0
behind_live slot (suc k) = behind_if (slot k).head (behind_live slot k)

-- what is known of the first n slots
pub record IsSurvey (slot : ℕ → RecipeSlot) (name : List ℕ) (n : ℕ) (survey : Survey) : Type 0 where
  pub found : survey.found ≡ named_at slot name n
  pub free : survey.free ≡ free_at slot n
  pub count : survey.count ≡ live_count slot n
  pub next : survey.next ≡ behind_live slot n

-- the fields of n slots are in their ranges
abbrev pub HasFields : (ℕ → RecipeSlot) → ℕ → Type 0
HasFields slot n = (k : ℕ) → k < n → head_break (slot k).head ≡ None

-- its numbers are in their ranges, also over a disk that tells nothing
abbrev pub SurveyFits : {E : Type 0} → ℕ → Result Survey E → Type 0
SurveyFits slots (Ok survey) =
    (survey.count ≤ slots) × IfSome survey.found (λ k. k < slots) × IfSome survey.free (λ k. k < slots)
SurveyFits slots (Err fault) = Unit {0}

-- the slot for a recipe of the name, if there is space for it
abbrev pub place_for : ℕ → Survey → Option ℕ
place_for slots survey =
    if nat_le (2 ^ 63) survey.next then None
    else (if is_none survey.found && nat_le slots (survey.count + 1) then None
    else survey.free)
