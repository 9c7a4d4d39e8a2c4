-- What the calls of a keeper write (this profile).
use Rattle.std.specs.Prelude.{◌≡◌, ◌⊎◌, ◌+◌, ◌-◌, ◌≤◌, ℕ, Bool, true, false, List, [], ◌∷◌, ◌++◌, length, replicate, Option, None, Some}
use Rattle.std.specs.Int.{w32, w64, to_be_bytes}
use Rattle.std.specs.Option.{option_map}
use Rattle.disk_base.specs.Story.{Story}
use Rattle.disk_base.specs.Through.{Through}
use Rattle.disk_base.specs.declared.disk.Disk as disk
use Rattle.disk_base.specs.declared.disk.DiskAnswer.{DiskAnswer}
use Rattle.disk_base.specs.declared.disk.DiskAnswer.TheVariants.{Done, Failed}
use Rattle.gem_recipes.specs.Keeper.{AnswersDelete, AnswersPut, DeleteLeaves, PutLeaves, delete_failed, put_failed}
use Rattle.gem_recipes.specs.Recipes.{Recipes, RecipesFit, after_put, next_number, without}
use Rattle.gem_recipes.specs.declared.keeper.RecipeDrop.{RecipeDrop}
use Rattle.gem_recipes.specs.declared.keeper.RecipeDrop.TheVariants as deleting
use Rattle.gem_recipes.specs.declared.keeper.RecipePut.{RecipePut}
use Rattle.gem_recipes.specs.declared.keeper.RecipePut.TheVariants as putting
use Rattle.spool_slots.specs.Changes.{HasSettled}
use Rattle.recipe_disk.specs.File.{StandsFor, recipes_in, slots_in, recipes_break}
use Rattle.recipe_disk.specs.Map.{IsTidy}
use Rattle.recipe_disk.specs.Reading.{HasLooked, HasMade, IsAnyCall, delete_answer_of, put_answer_of}
use Rattle.recipe_disk.specs.Slot.{slot_in, slot_place}
use Rattle.recipe_disk.specs.Survey.{free_at, named_at}

-- ---- a file at rest

-- the bytes are settled, and stand for recipes of which each has one open slot
pub record Rests (slots : ℕ) (s : Story) : Type 0 where
  pub settled : s.now.loose ≡ []
  pub sound : recipes_break s.now.bytes ≡ None
  pub slots_are : slots ≡ slots_in s.now.bytes
  pub tidy : IsTidy (slot_in s.now.bytes) slots
  pub fits : RecipesFit slots (recipes_in s.now.bytes)

-- so it is on a disk that tells its bytes, and there is room for the slots on any
pub record IsKept {D : Type 0} (members : disk.Ghosts D) (on : D) (slots : ℕ) : Type 0 where
  pub some : 2 ≤ slots
  pub most : slots ≤ 4096
  pub inside : slot_place slots ≤ members.size_is on
  pub rests : (s : Story) → members.told on ≡ Some s → Rests slots s

abbrev pub IsKeptUnless : (failed : Bool) → Type 0 → Type 0
IsKeptUnless true Kept = Unit {0}
IsKeptUnless false Kept = Kept

-- the recipes that a disk tells
abbrev pub recipes_told : Option Story → Option Recipes
recipes_told told = option_map (λ s. recipes_in s.now.bytes) told

-- ---- what is written

-- a slot behind its gate: number, length of the name, 80 bytes for it, length of the body, body
abbrev pub parts_of : (number : ℕ) (name body : List ℕ) → List ℕ
parts_of number name body =
    to_be_bytes w64 number ++ (length name ∷ []) ++ name ++ replicate (80 - length name) 0
    ++ to_be_bytes w32 (length body) ++ body

-- places with the bytes that are written there, each with a sync: the parts of a recipe, and the gate that opens its
-- slot
abbrev pub open_writes : (slot number : ℕ) (name body : List ℕ) → List (ℕ × List ℕ)
open_writes slot number name body =
    (slot_place slot + 1, parts_of number name body) ∷ (slot_place slot, 90 ∷ []) ∷ []

abbrev pub close_write : ℕ → ℕ × List ℕ
close_write slot = (slot_place slot, 0 ∷ [])

abbrev pub close_writes : Option ℕ → List (ℕ × List ℕ)
close_writes None = []
close_writes (Some slot) = close_write slot ∷ []

-- and the gate that closes the slot of the old one
abbrev pub put_writes : (slot : ℕ) (old : Option ℕ) (number : ℕ) (name body : List ℕ) → List (ℕ × List ℕ)
put_writes slot old number name body = open_writes slot number name body ++ close_writes old

-- these were written, one behind the other, each with its sync, as far as that went
abbrev pub HasWritten : {D : Type 0} → disk.Ghosts D → D → D → List (ℕ × List ℕ) → DiskAnswer → Type 0
HasWritten members old new [] answer = (new ≡ old) × (answer ≡ Done)
HasWritten {D} members old new (write ∷ writes) answer =
    ((answer ≡ Failed) × HasSettled members old new write.0 write.1 Failed)
    ⊎ ((mid : D) × HasSettled members old mid write.0 write.1 Done × HasWritten members mid new writes answer)

-- the slots were looked over, and then this was written, as far as that went
abbrev pub HasChanged : {D : Type 0} → disk.Ghosts D → D → D → List (ℕ × List ℕ) → DiskAnswer → Type 0
HasChanged {D} members old new writes answer =
    (mid : D) × HasLooked members old mid Done × HasWritten members mid new writes answer

-- ---- images

-- whatever a crash at any moment of a call leaves stands for one of two maps, where the old one was told
abbrev pub HoldsEither : (slots : ℕ) → (before after : Option Story) → (Recipes → Recipes) → Type 0
HoldsEither slots before after changed =
    (s : Story) → before ≡ Some s → (t : Story) × (after ≡ Some t)
    × Through s t (λ image. StandsFor slots (recipes_in s.now.bytes) image
    ⊎ StandsFor slots (changed (recipes_in s.now.bytes)) image)

-- ---- the calls

-- the slot of a new recipe is the first one that isn't open, its number is the next one, and the old slot is that of
-- its name
pub record IsChosen (slots : ℕ) (name : List ℕ) (slot : ℕ) (old : Option ℕ) (number : ℕ) (s : Story) : Type 0 where
  pub free : free_at (slot_in s.now.bytes) slots ≡ Some slot
  pub old_is : old ≡ named_at (slot_in s.now.bytes) name slots
  pub number_is : number ≡ next_number (recipes_in s.now.bytes)

pub record HasPut {D : Type 0} (members : disk.Ghosts D) (old new : D) (slots : ℕ) (name body : List ℕ)
    (answer : DiskAnswer) : Type 0 where
  pub slot : ℕ
  pub replaced : Option ℕ
  pub number : ℕ
  pub chosen : (s : Story) → members.told old ≡ Some s → IsChosen slots name slot replaced number s
  pub changed : HasChanged members old new (put_writes slot replaced number name body) answer

-- a recipe was stored; or the slots were looked over and nothing was changed; or the disk failed at one of these
abbrev pub PutsCalls : {D : Type 0} → disk.Ghosts D → D → D → ℕ → List ℕ → List ℕ → RecipePut → Type 0
PutsCalls members old new slots name body putting.Stored = HasPut members old new slots name body Done
PutsCalls members old new slots name body putting.NoSpace = HasLooked members old new Done
PutsCalls members old new slots name body putting.TooLong = new ≡ old
PutsCalls members old new slots name body putting.Failed =
    HasLooked members old new Failed ⊎ HasPut members old new slots name body Failed

pub record HasDeleted {D : Type 0} (members : disk.Ghosts D) (old new : D) (slots : ℕ) (name : List ℕ)
    (answer : DiskAnswer) : Type 0 where
  pub slot : ℕ
  pub chosen : (s : Story) → members.told old ≡ Some s → named_at (slot_in s.now.bytes) name slots ≡ Some slot
  pub changed : HasChanged members old new (close_write slot ∷ []) answer

abbrev pub DeletesCalls : {D : Type 0} → disk.Ghosts D → D → D → ℕ → List ℕ → RecipeDrop → Type 0
DeletesCalls members old new slots name deleting.Dropped = HasDeleted members old new slots name Done
DeletesCalls members old new slots name deleting.Unknown = HasLooked members old new Done
DeletesCalls members old new slots name deleting.Failed =
    HasLooked members old new Failed ⊎ HasDeleted members old new slots name Failed

-- ---- what a call comes to: its answer, its calls, what a crash leaves, the recipes behind it, and its fault

pub record PutsOn {D : Type 0} (members : disk.Ghosts D) (old new : D) (slots : ℕ) (name body : List ℕ)
    (answer : RecipePut) : Type 0 where
  pub answers : AnswersPut slots name body (recipes_told (members.told old)) answer
  pub calls : PutsCalls members old new slots name body answer
  pub images : HoldsEither slots (members.told old) (members.told new) (after_put slots name body)
  pub leaves : PutLeaves slots name body (recipes_told (members.told old)) (recipes_told (members.told new)) answer
  pub kept : IsKeptUnless (put_failed answer) (IsKept members new slots)
  pub made : HasMade IsAnyCall members old new (put_answer_of answer)

pub record DeletesOn {D : Type 0} (members : disk.Ghosts D) (old new : D) (slots : ℕ) (name : List ℕ)
    (answer : RecipeDrop) : Type 0 where
  pub answers : AnswersDelete name (recipes_told (members.told old)) answer
  pub calls : DeletesCalls members old new slots name answer
  pub images : HoldsEither slots (members.told old) (members.told new) (without name)
  pub leaves : DeleteLeaves name (recipes_told (members.told old)) (recipes_told (members.told new)) answer
  pub kept : IsKeptUnless (delete_failed answer) (IsKept members new slots)
  pub made : HasMade IsAnyCall members old new (delete_answer_of answer)
