-- What the newest of some entries says, where entries leave that a later one speaks over.
use Rattle.std.proofs.Common.{◌≡◌, refl, sym, ◌∙◌, ap, Bool, true, false, cond, not, List, [], ◌∷◌, ◌++◌, filter, fold, Option, Some, None, is_some}
use Rattle.std.proofs.lemmas.List.Sums.{fold-append}
use Rattle.std.specs.Option.{unwrap_or}
use Rattle.setup_store.specs.declared.change.Change.{Change}
use Rattle.setup_store.specs.Entries.{Entry}
use Rattle.setup_store.specs.Kept.{change_by, kept, kept_by, takes_out, tells}
use Rattle.equipment_tables.specs.declared.plan.EquipmentPlan.{EquipmentPlan}
use Rattle.equipment_tables.specs.Past.{Entries}
use Rattle.equipment_tables.proofs.CountedChanges.{counted_by, run}

-- the oldest stands first
abbrev latest : {E X : Type 0} → (E → Option X) → X → List E → X
latest said first list = fold (λ so_far x. unwrap_or (said x) so_far) first list

-- what says nothing can leave
quiet_left :
    {E X : Type 0} (said : E → Option X) (stays : E → Bool) (first : X) (list : List E)
    → ((x : E) → stays x ≡ false → said x ≡ None) → latest said first (filter stays list) ≡ latest said first list
quiet_left said stays first [] quiet = refl
quiet_left said stays first (x ∷ list) quiet =
    go (quiet_left said stays first list quiet) (quiet_left said stays (unwrap_or (said x) first) list quiet) (stays x)
    refl
  where
    go : latest said first (filter stays list) ≡ latest said first list
        → latest said (unwrap_or (said x) first) (filter stays list) ≡ latest said (unwrap_or (said x) first) list
        → (b : Bool) → stays x ≡ b
        → latest said first (cond b (x ∷ filter stays list) (filter stays list))
        ≡ latest said (unwrap_or (said x) first) list
    go out in_it true on = in_it
    go out in_it false off =
        out
        ∙ ap (λ o. latest said (unwrap_or o first) list) (sym (quiet x off))

-- Something that is read of what counts, and what each change says of it. Where all that leaves speaks only of what the
-- new one speaks of, the list that is kept says what all of it and the new one say.
module _ {X : Type 0} (plan : EquipmentPlan) (at : Entries → X) (said : Option Change → Option X)
    (one : (o : Option Change) (e : Entries) → at (counted_by plan o e) ≡ unwrap_or (said o) (at e)) where
  abbrev by_entry : Entry → Option X
  by_entry x = said (change_by x)

  at_run : (list : List Entry) (e : Entries) → at (run plan e list) ≡ latest by_entry (at e) list
  at_run [] e = refl
  at_run (x ∷ list) e =
      at_run list (counted_by plan (change_by x) e) ∙ ap (λ v. latest by_entry v list) (one (change_by x) e)

  -- behind one more
  appended :
      (c : Change) (list : List Entry) (p : Entry) (v : X) → change_by p ≡ Some c
      → latest by_entry v (list ++ p ∷ []) ≡ unwrap_or (said (Some c)) (latest by_entry v list)
  appended c list p v is =
      fold-append (λ so_far x. unwrap_or (by_entry x) so_far) v list (p ∷ [])
      ∙ ap (λ o. unwrap_or (said o) (latest by_entry v list)) is

  kept_latest :
      (c : Change) (list : List Entry) (p : Entry) (v : X) → change_by p ≡ Some c
      → ((x : Entry) → takes_out c x ≡ true → is_some (said (Some c)) ≡ false → by_entry x ≡ None)
      → (tells c ≡ false → said (Some c) ≡ None)
      → latest by_entry v (kept list p) ≡ unwrap_or (said (Some c)) (latest by_entry v list)
  kept_latest c list p v is out quiet =
      ap (λ o. latest by_entry v (kept_by o list p)) is ∙ go (said (Some c)) refl (tells c) refl
    where
      stays : Entry → Bool
      stays x = not (takes_out c x)

      taken : (x : Entry) (b : Bool) → takes_out c x ≡ b → not b ≡ false → takes_out c x ≡ true
      taken x true is off = is
      taken x false is off = absurd (cc)

      same : said (Some c) ≡ None → latest by_entry v (filter stays list) ≡ latest by_entry v list
      same none =
          quiet_left by_entry stays v list
          (λ x off. out x (taken x (takes_out c x) refl off) (ap (λ (o : Option X). is_some o) none))

      go : (o : Option X) → said (Some c) ≡ o → (t : Bool) → tells c ≡ t
          → latest by_entry v (filter stays list ++ cond t (p ∷ []) [])
          ≡ unwrap_or (said (Some c)) (latest by_entry v list)
      go None none true on =
          appended c (filter stays list) p v is ∙ ap (unwrap_or (said (Some c))) (same none)
      go None none false off =
          fold-append (λ so_far x. unwrap_or (by_entry x) so_far) v (filter stays list) [] ∙ same none
          ∙ ap (λ o. unwrap_or o (latest by_entry v list)) (sym none)
      go (Some w) some true on =
          appended c (filter stays list) p v is
          ∙ ap (λ o. unwrap_or o (latest by_entry v (filter stays list))) some
          ∙ sym (ap (λ o. unwrap_or o (latest by_entry v list)) some)
      go (Some w) some false off = absurd (let none = sym some ∙ quiet off in cc)

  -- so the list that is kept says of it what all says that counted, and the new one
  pub kept_says :
      (c : Change) (list : List Entry) (p : Entry) (start e : Entries) → change_by p ≡ Some c
      → ((x : Entry) → takes_out c x ≡ true → is_some (said (Some c)) ≡ false → by_entry x ≡ None)
      → (tells c ≡ false → said (Some c) ≡ None) → at (run plan start list) ≡ at e
      → at (run plan start (kept list p)) ≡ at (counted_by plan (Some c) e)
  kept_says c list p start e is out quiet same =
      at_run (kept list p) start ∙ kept_latest c list p (at start) is out quiet
      ∙ ap (unwrap_or (said (Some c))) (sym (at_run list start) ∙ same) ∙ sym (one (Some c) e)
