-- What a deletion leaves at every moment: the recipes with the one of that name or without it, and at last without it.
use Rattle.std.proofs.Common.{◌≡◌, refl, ap, ◌∙◌, ℕ, ◌+◌, ◌<◌, ◌≤◌, ◌==◌, ◌⊎◌, inl, inr, Bool, true, false, List, [], ◌∷◌, length, slice_index, Some, arith}
use Rattle.std.specs.FinMap.{remove}
use Rattle.disk_base.specs.Story.{Story}
use Rattle.disk_base.specs.declared.disk.Disk as disk
use Rattle.disk_base.specs.declared.disk.DiskAnswer.{DiskAnswer}
use Rattle.disk_base.specs.declared.disk.DiskAnswer.TheVariants.{Done, Failed}
use Rattle.gem_recipes.specs.Recipes.{Recipes, without}
use Rattle.recipe_disk.specs.Changes.{HasWritten, Rests, close_write}
use Rattle.recipe_disk.specs.File.{StandsFor, recipes_in}
use Rattle.recipe_disk.specs.Map.{recipes_below}
use Rattle.recipe_disk.specs.Slot.{is_open, name_of, slot_in, slot_place}
use Rattle.recipe_disk.proofs.Images.{Holds, IsBut, IsFile, closed_tidy, gone_file, open_kept, stands, written_but}
use Rattle.recipe_disk.proofs.Parts.{byte_there}
use Rattle.recipe_disk.proofs.Putting.{Changes, file_at, not_done, recipes_are, rests_of}
use Rattle.recipe_disk.proofs.Stories.{goes, goes_done, settled_at, settles_told}

module _ (slots q : ℕ) (name : List ℕ) (s : Story) (rests : Rests slots s) (below : q < slots) (opened : is_open (slot_in s.now.bytes q) ≡ true)
    (named : name_of (slot_in s.now.bytes q) ≡ name) where
  abbrev old : Recipes
  old = recipes_in s.now.bytes

  abbrev new : Recipes
  new = without name old

  abbrev Either : List ℕ → Type 0
  Either image = StandsFor slots old image ⊎ StandsFor slots new image

  file : IsFile slots s.now.bytes
  file = file_at slots s rests

  inside : slot_place q + 1 ≤ length s.now.bytes
  inside = let enough = file.inside in omega (arith, enough, below)

  to_new : (image : List ℕ) → Holds slots (remove (recipes_below (slot_in s.now.bytes) slots) (name_of (slot_in s.now.bytes q))) image → StandsFor slots new image
  to_new image is =
      stands slots new image (
        is.0,
        is.1
            ∙ ap (λ (r : Recipes). remove r (name_of (slot_in s.now.bytes q))) (recipes_are slots s rests)
            ∙ ap (remove old) named,
      )

  leaves : (image : List ℕ) → IsBut s.now.bytes (slot_place q) 1 image → Either image
  leaves image is = by (slice_index image (slot_place q) == 90) refl
    where
      by : (b : Bool) → (slice_index image (slot_place q) == 90) ≡ b → Either image
      by true test =
          let left = open_kept slots q s.now.bytes file below opened image is test in
          inl (stands slots old image (left.0, left.1 ∙ recipes_are slots s rests))
      by false test = inr (to_new image (gone_file slots q s.now.bytes file below opened image is test rests.tidy))

  abbrev t : Story
  t = settled_at (slot_place q) (0 ∷ []) s

  but : IsBut s.now.bytes (slot_place q) 1 t.now.bytes
  but = written_but s.now.bytes (0 ∷ []) (slot_place q) inside

  test : (slice_index t.now.bytes (slot_place q) == 90) ≡ false
  test = ap (λ (g : ℕ). g == 90) (byte_there s.now.bytes (0 ∷ []) (slot_place q) inside 0 0 refl)

  holds : Holds slots (remove (recipes_below (slot_in s.now.bytes) slots) (name_of (slot_in s.now.bytes q))) t.now.bytes
  holds = gone_file slots q s.now.bytes file below opened t.now.bytes but test rests.tidy

  pub delete_changes : {D : Type 0} (members : disk.Ghosts D) (a b : D) → members.told a ≡ Some s → (answer : DiskAnswer) → HasWritten members a b (close_write q ∷ []) answer →
      Changes slots new s (members.told b) answer
  delete_changes members a b told answer (inl failed) =
      let on = goes s rests.settled (slot_place q) (0 ∷ []) inside Either leaves (members.told b) Failed
      (settles_told (members.told a) (members.told b) s (slot_place q) (0 ∷ []) Failed told failed.1.told) in
      (on.0, on.1, on.2, λ done. absurd (not_done answer failed.0 done))
  delete_changes members a b told answer (inr rest) = (
    t,
    ap members.told rest.2.0 ∙ settles_told (members.told a) (members.told rest.0) s (slot_place q) (0 ∷ []) Done told rest.1.told,
    goes_done s rests.settled (slot_place q) (0 ∷ []) inside Either leaves,
    λ done. (
      rests_of slots t refl holds.0 (closed_tidy slots q s.now.bytes file below opened t.now.bytes but test rests.tidy),
      (to_new t.now.bytes holds).is,
    ),
  )
