-- What an opening comes to, by how far it went.
use Rattle.std.proofs.Common.{◌≡◌, refl, sym, ap, subst, ◌∙◌, ℕ, ◌≤◌, ◌⊎◌, inl, inr, false, List, None, Some, Ok, Err, arith}
use Rattle.std.proofs.lemmas.Bool.{cases_eq}
use Rattle.std.specs.Option.{option_map}
use Rattle.disk_base.specs.Story.{Story, with_sync}
use Rattle.disk_base.specs.declared.disk.Disk as disk
use Rattle.disk_base.specs.declared.disk.DiskAnswer.TheVariants.{Done, Failed}
use Rattle.disk_base.proofs.Moments.{only_now, starts, through_more}
use Rattle.disk_base.proofs.Told.{told_already}
use Rattle.spool_file.specs.Reading.{IsBreak}
use Rattle.spool_file.specs.declared.reading.NotSpool.{NotSpool}
use Rattle.recipe_disk.specs.Changes.{IsKept, Rests}
use Rattle.recipe_disk.specs.File.{StandsFor, recipes_break, recipes_in, slots_in}
use Rattle.recipe_disk.specs.Map.{IsTidy}
use Rattle.recipe_disk.specs.Opening.{AreHolders, IsSyncCall, IsTidyCall, KeepsSynced, KeepsThrough, OpensRecipes, TidiesTo}
use Rattle.recipe_disk.specs.Reading.{HasLooked, HasMade}
use Rattle.recipe_disk.specs.Slot.{slot_in, slot_place}
use Rattle.recipe_disk.specs.declared.recipe_disk.RecipeOpening.TheVariants as opening
use Rattle.recipe_disk.proofs.Images.{file_of}
use Rattle.recipe_disk.proofs.Made.{made_as, made_behind}
use Rattle.recipe_disk.proofs.Putting.{rests_of}
use Rattle.recipe_disk.proofs.Stories.{at_last, same_story}
use Rattle.recipe_disk.proofs.Closing.{tidy_looked}

-- slots of which each open one is the newest of its name
pub holders_tidy : (bytes : List ℕ) (slots : ℕ) → AreHolders bytes slots slots → IsTidy (slot_in bytes) slots
holders_tidy bytes slots are j k a b there here same = by (cases_eq j k)
  where
    by : (j ≡ k) ⊎ (j ≡ k → ⊥) → j ≡ k
    by (inl is) = is
    by (inr other) =
        let one = (are j a there).newest k b (λ is. other (sym is)) here (sym same) in
        let two = (are k b here).newest j a other there same in
        absurd (omega (arith, one, two))

module _ {D : Type 0} (members : disk.Ghosts D) (a b : D) (synced : members.told b ≡ option_map with_sync (members.told a)) (made : HasMade IsSyncCall members a b Done) where
  told_synced : (s : Story) → members.told a ≡ Some s → members.told b ≡ Some (with_sync s)
  told_synced s is = synced ∙ ap (option_map with_sync) is

  sync_made : HasMade IsTidyCall members a b Done
  sync_made = made_as members IsSyncCall IsTidyCall a b Done (λ call is. inr (inr is)) made

  -- the bytes as they were
  keeps_synced : (s : Story) → KeepsSynced s (with_sync s)
  keeps_synced s =
      starts (with_sync s) (λ image. recipes_break s.now.bytes ≡ None → StandsFor (slots_in s.now.bytes) (recipes_in s.now.bytes) image)
      (λ image left none.
      subst (StandsFor (slots_in s.now.bytes) (recipes_in s.now.bytes)) (sym (only_now (with_sync s).now image refl left))
      (record { sound = none; slots_are = refl; is = refl }))

  module _ (c : D) where
    pub opening_unread : HasLooked members b c Failed → OpensRecipes members a (Err (opening.Failed c))
    opening_unread looked = (
      made_behind members IsTidyCall a b c Failed sync_made (tidy_looked members b c Failed looked),
      λ s is. (with_sync s, looked.told ∙ told_synced s is, inr (keeps_synced s)),
    )

    pub opening_broken : (break : NotSpool) → HasLooked members b c Done →
        ((s : Story) → members.told b ≡ Some s → IsBreak s.now.bytes (recipes_break s.now.bytes) break) → OpensRecipes members a (Err (opening.NotRecipes c break))
    opening_broken break looked is_break = ((b, made, synced, looked), λ s is. is_break (with_sync s) (told_synced s is))

    module _ (looked : HasLooked members b c Done) (slots : ℕ) (some : 2 ≤ slots) (most : slots ≤ 4096) (fits : slot_place slots ≤ members.size_is b)
        (whole : (s : Story) → members.told b ≡ Some s → (recipes_break s.now.bytes ≡ None) × (slots ≡ slots_in s.now.bytes)) (d : D) where
      stand : (s : Story) → members.told a ≡ Some s → StandsFor slots (recipes_in s.now.bytes) s.now.bytes
      stand s is = let read = whole (with_sync s) (told_synced s is) in record { sound = read.0; slots_are = read.1; is = refl }

      told_c : (s : Story) → members.told a ≡ Some s → members.told c ≡ Some (with_sync s)
      told_c s is = looked.told ∙ told_synced s is

      keeps : (s t : Story) → members.told a ≡ Some s → KeepsThrough slots (with_sync s) t → KeepsSynced s t
      keeps s t is through =
          through_more (with_sync s) t (StandsFor slots (recipes_in s.now.bytes))
          (λ image. recipes_break s.now.bytes ≡ None → StandsFor (slots_in s.now.bytes) (recipes_in s.now.bytes) image)
          (λ image holds none. subst (λ n. StandsFor n (recipes_in s.now.bytes) image) (stand s is).slots_are holds) through

      pub opening_cut : HasMade IsTidyCall members c d Failed → TidiesTo (members.told c) (members.told d) slots slots Failed → OpensRecipes members a (Err (opening.Failed d))
      opening_cut tidied tidies = (
        made_behind members IsTidyCall a c d Failed
            (made_behind members IsTidyCall a b c Done sync_made (tidy_looked members b c Done looked)) tidied,
        λ s is. let on = tidies (with_sync s) (told_c s is) refl (stand s is) in (on.0, on.1, inr (keeps s on.0 is on.2)),
      )

      module _ (tidied : HasMade IsTidyCall members c d Done) (tidies : TidiesTo (members.told c) (members.told d) slots slots Done) where
        all_made : HasMade IsTidyCall members a d Done
        all_made =
            made_behind members IsTidyCall a c d Done
            (made_behind members IsTidyCall a b c Done sync_made (tidy_looked members b c Done looked)) tidied

        rests : (t : Story) → members.told d ≡ Some t → Rests slots t
        rests t told =
            let before = told_already (members.told a) (members.told d) t all_made.same_disk.2 told in
            let s = before.0 in
            let on = tidies (with_sync s) (told_c s before.1) refl (stand s before.1) in
            let last = at_last (with_sync s) on.0 (StandsFor slots (recipes_in s.now.bytes)) on.2 in
            subst (Rests slots) (same_story on.0 t (sym on.1 ∙ told))
            (rests_of slots on.0 on.3.0 (file_of slots on.0.now.bytes last.sound last.slots_are) (holders_tidy on.0.now.bytes slots on.3.1))

        kept : IsKept members d slots
        kept = record {
          some = some;
          most = most;
          inside = subst (λ n. slot_place slots ≤ n) (sym (tidied.size ∙ looked.made.size)) fits;
          rests = rests;
        }

        pub opening_done : OpensRecipes members a (Ok (record { disk = d; slots = slots; failed = false }))
        opening_done = (
          record { going = refl; kept = kept },
          all_made,
          λ s is.
              let on = tidies (with_sync s) (told_c s is) refl (stand s is) in
              ((stand s is).sound, (on.0, on.1, keeps s on.0 is on.2)),
        )

-- the sync failed
pub opening_unsynced : {D : Type 0} (members : disk.Ghosts D) (a b : D) → members.told b ≡ members.told a → HasMade IsSyncCall members a b Failed →
    OpensRecipes members a (Err (opening.Failed b))
opening_unsynced members a b same made = (
  made_as members IsSyncCall IsTidyCall a b Failed (λ call is. inr (inr is)) made,
  λ s is. (s, same ∙ is, inl refl),
)
