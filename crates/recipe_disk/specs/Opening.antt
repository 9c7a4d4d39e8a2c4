-- What opening a file of recipes does, and making one (this profile).
use Rattle.std.specs.Prelude.{◌≡◌, ◌⊎◌, ◌+◌, ◌<◌, ℕ, Bool, true, false, List, [], ◌∷◌, ◌++◌, length, replicate, Option, None, Some, Result, Ok, Err, refl}
use Rattle.std.specs.Coded.{Coded, code_by, coded×, coded_bool, coded_ℕ}
use Rattle.std.specs.FinMap.{empty}
use Rattle.std.specs.Int.{w32, to_be_bytes}
use Rattle.std.specs.Option.{option_map, unwrap_or}
use Rattle.std.proofs.Common.{ap, subst}
use Rattle.disk_base.specs.Calls.{DiskCall}
use Rattle.disk_base.specs.Story.{Story, with_sync}
use Rattle.disk_base.specs.Through.{Through}
use Rattle.disk_base.specs.declared.disk.CallKind.TheVariants.{Sync, Write}
use Rattle.disk_base.specs.declared.disk.Disk as disk
use Rattle.disk_base.specs.declared.disk.DiskAnswer.{DiskAnswer}
use Rattle.disk_base.specs.declared.disk.DiskAnswer.TheVariants.{Done, Failed}
use Rattle.gem_recipes.specs.Recipes.{Recipes, RecipesFit}
use Rattle.spool_file.specs.Added.{WritesOrSyncs}
use Rattle.spool_file.specs.Reading.{IsBreak}
use Rattle.spool_file.specs.declared.reading.NotSpool.{NotSpool}
use Rattle.recipe_disk.specs.Changes.{IsKept, Rests, recipes_told}
use Rattle.recipe_disk.specs.File.{StandsFor, front_in, magic, recipes_break, recipes_in, slots_in}
use Rattle.recipe_disk.specs.Map.{IsHolder}
use Rattle.recipe_disk.specs.Reading.{HasLooked, HasMade, IsReadCall}
use Rattle.recipe_disk.specs.Slot.{is_open, name_of, slot_in}
use Rattle.recipe_disk.specs.declared.recipe_disk.RecipeOpening.{RecipeOpening}
use Rattle.recipe_disk.specs.declared.recipe_disk.RecipeOpening.TheVariants as opening

-- ---- a store in hand

-- the disk, how many slots there are, and whether a call has failed
pub record RecipeView (D : Type 0) : Type 0 where
  pub disk : D
  pub slots : ℕ
  pub failed : Bool

abbrev pub recipe_code : {D : Type 0} → Coded D → Coded (RecipeView D)
recipe_code {D} code =
    code_by (D × (ℕ × Bool)) (coded× code (coded× coded_ℕ coded_bool)) (λ v. (v.disk, (v.slots, v.failed)))
    (λ p. record { disk = p.0; slots = p.1.0; failed = p.1.1 }) (λ _. refl)

-- it can be asked
pub record IsReady {D : Type 0} (members : disk.Ghosts D) (v : RecipeView D) : Type 0 where
  pub going : v.failed ≡ false
  pub kept : IsKept members v.disk v.slots

told_fits :
    (told : Option Story) (slots : ℕ) (recipes : Recipes) → ((s : Story) → told ≡ Some s → Rests slots s)
    → recipes_told told ≡ Some recipes → RecipesFit slots recipes
told_fits None slots recipes rests is = absurd cc
told_fits (Some s) slots recipes rests is =
    subst (RecipesFit slots) (ap (λ (o : Option Recipes). unwrap_or o empty) is) (rests s refl).fits

-- so what it tells is what so many slots may have
pub ready_fits :
    {D : Type 0} (members : disk.Ghosts D) (v : RecipeView D) (recipes : Recipes) → IsReady members v
    → recipes_told (members.told v.disk) ≡ Some recipes → RecipesFit v.slots recipes
ready_fits members v recipes ready is = told_fits (members.told v.disk) v.slots recipes ready.kept.rests is

-- ---- opening

-- a read, the write of a 0, or a sync
abbrev pub IsTidyCall : DiskCall → Type 0
IsTidyCall call = IsReadCall call ⊎ (((call.kind ≡ Write) × (call.bytes ≡ 0 ∷ [])) ⊎ (call.kind ≡ Sync))

-- the first n slots are closed, but those that are the newest of their names among all
abbrev pub AreHolders : (bytes : List ℕ) → (slots n : ℕ) → Type 0
AreHolders bytes slots n =
    (k : ℕ) → k < n → is_open (slot_in bytes k) ≡ true → IsHolder (slot_in bytes) slots (name_of (slot_in bytes k)) k

-- whatever a crash from one moment to another leaves stands for the recipes of the first one
abbrev pub KeepsThrough : (slots : ℕ) → (s t : Story) → Type 0
KeepsThrough slots s t = Through s t (StandsFor slots (recipes_in s.now.bytes))

-- a settled file keeps its recipes, and this comes to be so of its bytes
abbrev pub Tidies : Option Story → Option Story → ℕ → (Story → Story → Type 0) → Type 0
Tidies before after slots So =
    (s : Story) → before ≡ Some s → s.now.loose ≡ [] → StandsFor slots (recipes_in s.now.bytes) s.now.bytes
    → (t : Story) × (after ≡ Some t) × KeepsThrough slots s t × So s t

-- one slot more is a holder, or closed
abbrev pub TidiesOn : Option Story → Option Story → (slots k : ℕ) → DiskAnswer → Type 0
TidiesOn before after slots k Done =
    Tidies before after slots (λ s t. (t.now.loose ≡ [])
    × (AreHolders s.now.bytes slots k → AreHolders t.now.bytes slots (k + 1)))
TidiesOn before after slots k Failed = Tidies before after slots (λ s t. Unit {0})

-- the first n slots are
abbrev pub TidiesTo : Option Story → Option Story → (slots n : ℕ) → DiskAnswer → Type 0
TidiesTo before after slots n Done =
    Tidies before after slots (λ s t. (t.now.loose ≡ []) × AreHolders t.now.bytes slots n)
TidiesTo before after slots n Failed = Tidies before after slots (λ s t. Unit {0})

abbrev pub IsSyncCall : DiskCall → Type 0
IsSyncCall call = call.kind ≡ Sync

-- a sync, and then reads that find a break
abbrev pub Refuses : {D : Type 0} → disk.Ghosts D → D → D → NotSpool → Type 0
Refuses {D} members old new break =
    ((mid : D) × HasMade IsSyncCall members old mid Done × (members.told mid ≡ option_map with_sync (members.told old))
    × HasLooked members mid new Done)
    × ((s : Story) → members.told old ≡ Some s → IsBreak s.now.bytes (recipes_break s.now.bytes) break)

-- where the bytes stand for recipes, whatever a crash leaves behind the sync stands for them
abbrev pub KeepsSynced : (s t : Story) → Type 0
KeepsSynced s t =
    Through (with_sync s) t (λ image. recipes_break s.now.bytes ≡ None
    → StandsFor (slots_in s.now.bytes) (recipes_in s.now.bytes) image)

-- the store is ready, with the recipes for which the bytes stand; or they stand for none; or the disk failed
abbrev pub OpensRecipes : {D : Type 0} → disk.Ghosts D → D → Result (RecipeView D) (RecipeOpening D) → Type 0
OpensRecipes members old (Ok v) =
    IsReady members v × HasMade IsTidyCall members old v.disk Done
    × ((s : Story) → members.told old ≡ Some s → (recipes_break s.now.bytes ≡ None)
    × ((t : Story) × (members.told v.disk ≡ Some t) × KeepsSynced s t))
OpensRecipes members old (Err (opening.NotRecipes new break)) = Refuses members old new break
OpensRecipes members old (Err (opening.Failed new)) =
    HasMade IsTidyCall members old new Failed
    × ((s : Story) → members.told old ≡ Some s
    → (t : Story) × (members.told new ≡ Some t) × ((t ≡ s) ⊎ KeepsSynced s t))

-- ---- making a file

-- what stands before the slots of a new file
unfoldable pub first_page : ℕ → List ℕ
first_page slots = magic ++ to_be_bytes w32 slots ++ replicate 4084 0

-- the first n slots are closed, and length and front are as they were
pub record IsClosedTo (before after : Story) (n : ℕ) : Type 0 where
  pub long : length after.now.bytes ≡ length before.now.bytes
  pub front : front_in after.now.bytes ≡ front_in before.now.bytes
  pub closed : (k : ℕ) → k < n → is_open (slot_in after.now.bytes k) ≡ false

-- a disk that tells its bytes told them before, and closed the slots since
abbrev pub ClosesTo : Option Story → Option Story → ℕ → Type 0
ClosesTo before after n = (t : Story) → after ≡ Some t → (s : Story) × (before ≡ Some s) × IsClosedTo s t n

abbrev pub ClosesSlots : Option Story → Option Story → ℕ → DiskAnswer → Type 0
ClosesSlots before after n Done = ClosesTo before after n
ClosesSlots before after n Failed = Unit {0}

-- a disk that tells its bytes has a file without recipes
abbrev pub StandsEmpty : Option Story → ℕ → DiskAnswer → Type 0
StandsEmpty after slots Done =
    (t : Story) → after ≡ Some t → Rests slots t × (recipes_in t.now.bytes ≡ empty)
StandsEmpty after slots Failed = Unit {0}

-- the store is ready, without recipes; or the disk failed
abbrev pub FormatsRecipes : {D : Type 0} → disk.Ghosts D → D → ℕ → Result (RecipeView D) D → Type 0
FormatsRecipes members old slots (Ok v) =
    IsReady members v × HasMade WritesOrSyncs members old v.disk Done × (v.slots ≡ slots)
    × ((t : Story) → members.told v.disk ≡ Some t → recipes_in t.now.bytes ≡ empty)
FormatsRecipes members old slots (Err new) = HasMade WritesOrSyncs members old new Failed
