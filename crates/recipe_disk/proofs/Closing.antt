-- Slots that are closed because a newer one has their name: what a crash leaves, and which slots stay.
use Rattle.std.proofs.Common.{◌≡◌, refl, sym, ap, subst, ◌∙◌, ℕ, ◌+◌, ◌<◌, ◌≤◌, ◌==◌, ◌⊎◌, inl, inr, ◌&&◌, Bool, true, false, bytes_eq, nat_lt, List, [], ◌∷◌, length, Option, Some, slice_index, arith}
use Rattle.std.proofs.lemmas.Bool.{and_parts}
use Rattle.std.proofs.lemmas.Bool.Decides.{nat_tests}
use Rattle.std.proofs.lemmas.Slice.Eq.{bytes_eq-Decides}
use Rattle.disk_base.specs.Settle.{Settles}
use Rattle.disk_base.specs.Story.{Story}
use Rattle.disk_base.specs.Through.{EachImage, Through}
use Rattle.disk_base.specs.declared.disk.Disk as disk
use Rattle.disk_base.specs.declared.disk.DiskAnswer.{DiskAnswer}
use Rattle.disk_base.specs.declared.disk.DiskAnswer.TheVariants.{Done, Failed}
use Rattle.disk_base.proofs.Moments.{only_now, starts, through_both}
use Rattle.spool_file.proofs.Firsts.{one_more}
use Rattle.spool_slots.specs.Changes.{HasSettled}
use Rattle.recipe_disk.specs.File.{StandsFor, recipes_in}
use Rattle.recipe_disk.specs.Map.{IsHolder, any_below}
use Rattle.recipe_disk.specs.Opening.{AreHolders, IsTidyCall, KeepsThrough, TidiesOn, TidiesTo}
use Rattle.recipe_disk.specs.Reading.{HasLooked, HasMade, IsReadCall}
use Rattle.recipe_disk.specs.Slot.{RecipeSlot, head_in, is_open, name_in, name_of, number_of, slot_in, slot_place}
use Rattle.recipe_disk.specs.declared.head.Head.{Head}
use Rattle.recipe_disk.proofs.Holders.{last_or, names_agree, not_both}
use Rattle.recipe_disk.proofs.Images.{Holds, IsBut, holds, open_kept, others, stale_file, stands, written_but}
use Rattle.recipe_disk.proofs.Made.{made_as, made_settled}
use Rattle.recipe_disk.proofs.Parts.{byte_there}
use Rattle.recipe_disk.proofs.Scanning.{any_some}
use Rattle.recipe_disk.proofs.Areas.{none_any}
use Rattle.recipe_disk.proofs.Stories.{at_last, goes, goes_done, settled_at, settles_told}

-- whether slot j has the name of slot k and a greater number
abbrev pub is_newer_at : List ℕ → Head → ℕ → Bool
is_newer_at bytes head j = (head_in bytes j).opened && (bytes_eq (name_in (head_in bytes j)) (name_in head) && nat_lt head.number (head_in bytes j).number)

-- one slot was closed, as far as that went
abbrev pub Closed : ℕ → ℕ → Story → Option Story → DiskAnswer → Type 0
Closed slots k s after Done =
    (t : Story) × (after ≡ Some t) × KeepsThrough slots s t
    × ((t.now.loose ≡ []) × (AreHolders s.now.bytes slots k → AreHolders t.now.bytes slots (k + 1)))
Closed slots k s after Failed = (t : Story) × (after ≡ Some t) × KeepsThrough slots s t × Unit {0}

module _ (slots : ℕ) (s : Story) (settled : s.now.loose ≡ []) (stand : StandsFor slots (recipes_in s.now.bytes) s.now.bytes) where
  abbrev S : ℕ → RecipeSlot
  S = slot_in s.now.bytes

  both : Holds slots (recipes_in s.now.bytes) s.now.bytes
  both = holds slots (recipes_in s.now.bytes) s.now.bytes stand

  rest_image : EachImage (StandsFor slots (recipes_in s.now.bytes)) s.now
  rest_image image left = subst (StandsFor slots (recipes_in s.now.bytes)) (sym (only_now s.now image settled left)) stand

  -- nothing was written
  pub stays : KeepsThrough slots s s
  stays = starts s (StandsFor slots (recipes_in s.now.bytes)) rest_image

  module _ (k : ℕ) (below : k < slots) where
    -- it isn't open
    pub holders_shut : is_open (S k) ≡ false → AreHolders s.now.bytes slots k → AreHolders s.now.bytes slots (k + 1)
    holders_shut shut are j under opened = by (last_or j k (subst (λ n. j < n) (sym (one_more k)) under))
      where
        by : (j ≡ k) ⊎ (j < k) → IsHolder S slots (name_of (S j)) j
        by (inl same) = absurd (not_both (is_open (S j)) opened (ap (λ i. is_open (S i)) same ∙ shut))
        by (inr less) = are j less opened

    -- it is the newest one of its name
    pub holders_newest : is_open (S k) ≡ true → any_below (is_newer_at s.now.bytes (head_in s.now.bytes k)) slots ≡ false →
        AreHolders s.now.bytes slots k → AreHolders s.now.bytes slots (k + 1)
    holders_newest opened none are j under there = by (last_or j k (subst (λ n. j < n) (sym (one_more k)) under))
      where
        not_more : (i : ℕ) → i < slots → is_open (S i) ≡ true → name_of (S i) ≡ name_of (S k) → nat_lt (number_of (S k)) (number_of (S i)) ≡ false
        not_more i i_below i_open named =
            let test = none_any (is_newer_at s.now.bytes (head_in s.now.bytes k)) slots i none i_below in
            sym (ap (λ b. b && (bytes_eq (name_of (S i)) (name_of (S k)) && nat_lt (number_of (S k)) (number_of (S i)))) i_open
            ∙ ap (λ b. b && nat_lt (number_of (S k)) (number_of (S i))) ((bytes_eq-Decides (name_of (S i)) (name_of (S k))).1 named))
            ∙ test

        less : (i : ℕ) → i < slots → (i ≡ k → ⊥) → is_open (S i) ≡ true → name_of (S i) ≡ name_of (S k) → number_of (S i) < number_of (S k)
        less i i_below other i_open named =
            let test = not_more i i_below i_open named in
            let apart : (number_of (S i) ≡ number_of (S k)) → ⊥ = λ same. other (both.0.area.differ i k i_below below i_open opened same) in
            let most : number_of (S i) ≤ number_of (S k) = grind (arith, nat_tests, test) in
            grind (arith, most, apart)

        here : IsHolder S slots (name_of (S k)) k
        here = record { below = below; opened = opened; named = refl; newest = less }

        by : (j ≡ k) ⊎ (j < k) → IsHolder S slots (name_of (S j)) j
        by (inl same) = subst (λ i. IsHolder S slots (name_of (S i)) i) (sym same) here
        by (inr earlier) = are j earlier there

    -- a newer one stands beside it
    module _ (opened : is_open (S k) ≡ true) (found : any_below (is_newer_at s.now.bytes (head_in s.now.bytes k)) slots ≡ true) where
      newer : (i : ℕ) × (i < slots) × (is_newer_at s.now.bytes (head_in s.now.bytes k) i ≡ true)
      newer = any_some (is_newer_at s.now.bytes (head_in s.now.bytes k)) slots found

      parts_open : (is_open (S newer.0) ≡ true) × ((bytes_eq (name_of (S newer.0)) (name_of (S k)) && nat_lt (number_of (S k)) (number_of (S newer.0))) ≡ true)
      parts_open = and_parts (is_open (S newer.0)) (bytes_eq (name_of (S newer.0)) (name_of (S k)) && nat_lt (number_of (S k)) (number_of (S newer.0))) newer.2

      parts_name : (bytes_eq (name_of (S newer.0)) (name_of (S k)) ≡ true) × (nat_lt (number_of (S k)) (number_of (S newer.0)) ≡ true)
      parts_name = and_parts (bytes_eq (name_of (S newer.0)) (name_of (S k))) (nat_lt (number_of (S k)) (number_of (S newer.0))) parts_open.1

      more : number_of (S k) < number_of (S newer.0)
      more = let test = parts_name.1 in grind (arith, nat_tests, test)

      apart : newer.0 ≡ k → ⊥
      apart same = let number : number_of (S newer.0) ≡ number_of (S k) = ap (λ j. number_of (S j)) same in omega (arith, number, more)

      inside : slot_place k + 1 ≤ length s.now.bytes
      inside = let enough = both.0.inside in omega (arith, enough, below)

      leaves : (image : List ℕ) → IsBut s.now.bytes (slot_place k) 1 image → StandsFor slots (recipes_in s.now.bytes) image
      leaves image is = by (slice_index image (slot_place k) == 90) refl
        where
          by : (b : Bool) → (slice_index image (slot_place k) == 90) ≡ b → StandsFor slots (recipes_in s.now.bytes) image
          by true test =
              let left = open_kept slots k s.now.bytes both.0 below opened image is test in
              stands slots (recipes_in s.now.bytes) image (left.0, left.1 ∙ both.1)
          by false test =
              let left = stale_file slots k s.now.bytes both.0 below opened image is test newer.0 newer.1 apart parts_open.0
              (names_agree (name_of (S newer.0)) (name_of (S k)) parts_name.0) more in
              stands slots (recipes_in s.now.bytes) image (left.0, left.1 ∙ both.1)

      abbrev t : Story
      t = settled_at (slot_place k) (0 ∷ []) s

      abbrev now : ℕ → RecipeSlot
      now = slot_in t.now.bytes

      but : IsBut s.now.bytes (slot_place k) 1 t.now.bytes
      but = written_but s.now.bytes (0 ∷ []) (slot_place k) inside

      shut : is_open (now k) ≡ false
      shut = ap (λ (g : ℕ). g == 90) (byte_there s.now.bytes (0 ∷ []) (slot_place k) inside 0 0 refl)

      beside : (j : ℕ) → j < slots → (j ≡ k → ⊥) → now j ≡ S j
      beside = others slots k s.now.bytes both.0 below (slot_place k) 0 1 (omega arith) (omega arith) t.now.bytes but

      not_k : (j : ℕ) → is_open (now j) ≡ true → j ≡ k → ⊥
      not_k j there here = not_both (is_open (now j)) there (ap (λ i. is_open (now i)) here ∙ shut)

      holder_kept : (j : ℕ) → j < slots → is_open (now j) ≡ true → IsHolder S slots (name_of (S j)) j → IsHolder now slots (name_of (now j)) j
      holder_kept j under there is =
          let it = beside j under (not_k j there) in record {
            below = under;
            opened = there;
            named = refl;
            newest = λ i less other i_open named.
                let same = beside i less (not_k i i_open) in
                subst (λ (x : RecipeSlot). number_of x < number_of (now j)) (sym same)
                (subst (λ (x : RecipeSlot). number_of (S i) < number_of x) (sym it)
                (is.newest i less other (ap is_open (sym same) ∙ i_open) (ap name_of (sym same) ∙ named ∙ ap name_of it)));
          }

      holders_closed : AreHolders s.now.bytes slots k → AreHolders t.now.bytes slots (k + 1)
      holders_closed are j under there = by (last_or j k (subst (λ n. j < n) (sym (one_more k)) under))
        where
          by : (j ≡ k) ⊎ (j < k) → IsHolder now slots (name_of (now j)) j
          by (inl same) = absurd (not_k j there same)
          by (inr less) =
              let within : j < slots = omega (arith, less, below) in
              holder_kept j within there (are j less (ap is_open (sym (beside j within (not_k j there))) ∙ there))

      pub closes_on : (before after : Option Story) (answer : DiskAnswer) → before ≡ Some s → Settles before (slot_place k) (0 ∷ []) after answer →
          Closed slots k s after answer
      closes_on before after Done told is = (
        t,
        settles_told before after s (slot_place k) (0 ∷ []) Done told is,
        goes_done s settled (slot_place k) (0 ∷ []) inside (StandsFor slots (recipes_in s.now.bytes)) leaves,
        (refl, holders_closed),
      )
      closes_on before after Failed told is =
          let on = goes s settled (slot_place k) (0 ∷ []) inside (StandsFor slots (recipes_in s.now.bytes)) leaves after Failed
          (settles_told before after s (slot_place k) (0 ∷ []) Failed told is) in
          (on.0, on.1, on.2, tt)

-- ---- the calls

pub tidy_looked : {D : Type 0} (members : disk.Ghosts D) (a b : D) (answer : DiskAnswer) → HasLooked members a b answer → HasMade IsTidyCall members a b answer
tidy_looked members a b answer looked = made_as members IsReadCall IsTidyCall a b answer (λ call is. inl is) looked.made

pub tidy_settled : {D : Type 0} (members : disk.Ghosts D) (a b : D) (at : ℕ) (answer : DiskAnswer) → HasSettled members a b at (0 ∷ []) answer → HasMade IsTidyCall members a b answer
tidy_settled members a b at answer settled =
    made_settled members IsTidyCall at (0 ∷ []) a b answer (λ _. inr (inl (refl, refl))) (λ _. inr (inr refl)) settled

-- ---- one slot behind others

-- what is there now stands for the recipes of before
moved : (slots : ℕ) (s t : Story) → KeepsThrough slots s t → StandsFor slots (recipes_in s.now.bytes) t.now.bytes
moved slots s t through = at_last s t (StandsFor slots (recipes_in s.now.bytes)) through

same_recipes_stand : (slots : ℕ) (s t : Story) → StandsFor slots (recipes_in s.now.bytes) t.now.bytes → StandsFor slots (recipes_in t.now.bytes) t.now.bytes
same_recipes_stand slots s t stand = record { sound = stand.sound; slots_are = stand.slots_are; is = refl }

renamed : (slots : ℕ) (s t u : Story) → StandsFor slots (recipes_in s.now.bytes) t.now.bytes → KeepsThrough slots t u → Through t u (StandsFor slots (recipes_in s.now.bytes))
renamed slots s t u stand through = subst (λ r. Through t u (StandsFor slots r)) stand.is through

-- what was so far, and then of one slot more
pub tidies_next : (before mid after : Option Story) (slots k : ℕ) → TidiesTo before mid slots k Done → TidiesOn mid after slots k Done → TidiesTo before after slots (k + 1) Done
tidies_next before mid after slots k first second s is settled stand =
    let one = first s is settled stand in
    let stand1 = moved slots s one.0 one.2 in
    let two = second one.0 one.1 one.3.0 (same_recipes_stand slots s one.0 stand1) in (
      two.0,
      two.1,
      through_both s one.0 two.0 (StandsFor slots (recipes_in s.now.bytes)) one.2 (renamed slots s one.0 two.0 stand1 two.2),
      (two.3.0, two.3.1 one.3.1),
    )

pub tidies_failed : (before mid after : Option Story) (slots k n : ℕ) → TidiesTo before mid slots k Done → TidiesOn mid after slots k Failed → TidiesTo before after slots n Failed
tidies_failed before mid after slots k n first second s is settled stand =
    let one = first s is settled stand in
    let stand1 = moved slots s one.0 one.2 in
    let two = second one.0 one.1 one.3.0 (same_recipes_stand slots s one.0 stand1) in (
      two.0,
      two.1,
      through_both s one.0 two.0 (StandsFor slots (recipes_in s.now.bytes)) one.2 (renamed slots s one.0 two.0 stand1 two.2),
      tt,
    )

-- ---- how a look at one slot ends

module _ (before after : Option Story) (slots k : ℕ) (below : k < slots) where
  pub on_unlooked : after ≡ before → TidiesOn before after slots k Failed
  on_unlooked same s is settled stand = (s, same ∙ is, stays slots s settled stand, tt)

  pub on_shut : after ≡ before → ((s : Story) → before ≡ Some s → is_open (slot_in s.now.bytes k) ≡ false) → TidiesOn before after slots k Done
  on_shut same shut s is settled stand =
      (s, same ∙ is, stays slots s settled stand, (settled, holders_shut slots s settled stand k below (shut s is)))

  pub on_newest : after ≡ before → ((s : Story) → before ≡ Some s → is_open (slot_in s.now.bytes k) ≡ true) →
      ((s : Story) → before ≡ Some s → any_below (is_newer_at s.now.bytes (head_in s.now.bytes k)) slots ≡ false) → TidiesOn before after slots k Done
  on_newest same opened none s is settled stand =
      (s, same ∙ is, stays slots s settled stand, (settled, holders_newest slots s settled stand k below (opened s is) (none s is)))

  pub on_stale : (mid : Option Story) (answer : DiskAnswer) → mid ≡ before → ((s : Story) → before ≡ Some s → is_open (slot_in s.now.bytes k) ≡ true) →
      ((s : Story) → before ≡ Some s → any_below (is_newer_at s.now.bytes (head_in s.now.bytes k)) slots ≡ true) →
      Settles mid (slot_place k) (0 ∷ []) after answer → TidiesOn before after slots k answer
  on_stale mid Done same opened found settles = λ s is settled stand.
      closes_on slots s settled stand k below (opened s is) (found s is) mid after Done (same ∙ is) settles
  on_stale mid Failed same opened found settles = λ s is settled stand.
      closes_on slots s settled stand k below (opened s is) (found s is) mid after Failed (same ∙ is) settles

-- what was looked for, by the head that was read
pub newer_found : (bytes name : List ℕ) (slots : ℕ) (head : Head) (k : ℕ) (found : Bool) → name ≡ name_in head → head ≡ head_in bytes k →
    found ≡ any_below (λ j. (head_in bytes j).opened && (bytes_eq (name_in (head_in bytes j)) name && nat_lt head.number (head_in bytes j).number)) slots →
    any_below (is_newer_at bytes (head_in bytes k)) slots ≡ found
newer_found bytes name slots head k found named is same =
    sym (same
    ∙ ap (λ (n : List ℕ). any_below (λ j. (head_in bytes j).opened && (bytes_eq (name_in (head_in bytes j)) n && nat_lt head.number (head_in bytes j).number)) slots) named
    ∙ ap (λ (h : Head). any_below (is_newer_at bytes h) slots) is)

-- none of no slots
pub tidies_none : (told : Option Story) (slots : ℕ) → TidiesTo told told slots 0 Done
tidies_none told slots s is settled stand =
    (s, is, stays slots s settled stand, (settled, λ k below. absurd (omega (arith, below))))
