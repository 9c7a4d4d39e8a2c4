-- What a put leaves at every moment: the old recipes or the new ones, and behind it the new ones, tidy.
use Rattle.std.proofs.Common.{◌≡◌, refl, sym, ap, subst, ◌∙◌, ℕ, ◌+◌, ◌-◌, ◌^◌, ◌<◌, ◌≤◌, ◌==◌, ◌⊎◌, inl, inr, Bool, true, false, List, [], ◌∷◌, drop, length, Option, None, Some, slice_index, if◌then◌else◌, arith, true≢false}
use Rattle.std.proofs.lemmas.Bool.{cases_eq}
use Rattle.std.proofs.lemmas.Bool.Decides.{nat_tests}
use Rattle.std.proofs.lemmas.List.{length-take, length-drop}
use Rattle.std.specs.FinMap.{contains_key, insert, len}
use Rattle.disk_base.specs.Story.{Story, bytes_at}
use Rattle.disk_base.specs.Through.{Through}
use Rattle.disk_base.specs.declared.disk.Disk as disk
use Rattle.disk_base.specs.declared.disk.DiskAnswer.{DiskAnswer}
use Rattle.disk_base.specs.declared.disk.DiskAnswer.TheVariants.{Done, Failed}
use Rattle.disk_base.proofs.Moments.{through_both, through_more}
use Rattle.gem_recipes.specs.Recipes.{EntryFits, IsPpid, Recipe, Recipes, RecipesFit, most_body, next_number, with_recipe}
use Rattle.recipe_disk.specs.Changes.{HasWritten, Rests, close_writes, parts_of, put_writes}
use Rattle.recipe_disk.specs.File.{StandsFor, recipes_in}
use Rattle.recipe_disk.specs.Map.{IsNoName, IsTidy, recipes_below}
use Rattle.recipe_disk.specs.Reading.{disk_failed}
use Rattle.recipe_disk.specs.Slot.{RecipeSlot, fields_break, head_break, head_in, is_open, name_of, number_of, recipe_of, slot_in, slot_place}
use Rattle.recipe_disk.specs.declared.head.Head.{Head}
use Rattle.recipe_disk.proofs.Holders.{not_both}
use Rattle.recipe_disk.proofs.Images.{Holds, IsBut, IsFile, file_none, file_of, gate_changed, gate_kept, gated, open_file, open_kept, others, parts_file, shut_file, stale_file, stands, written_but}
use Rattle.recipe_disk.proofs.Parts.{byte_there, length-parts, written_len, written_name, written_name_len, written_number, written_recipe}
use Rattle.recipe_disk.proofs.Stories.{goes, goes_done, settled_at, settles_told}
use Rattle.recipe_disk.proofs.Tidy.{all_below, behind_below, recipes_fit}

-- ---- a file at rest

pub file_at : (slots : ℕ) (s : Story) → Rests slots s → IsFile slots s.now.bytes
file_at slots s rests = file_of slots s.now.bytes rests.sound rests.slots_are

-- its recipes by its own number of slots
pub recipes_are : (slots : ℕ) (s : Story) → Rests slots s → recipes_below (slot_in s.now.bytes) slots ≡ recipes_in s.now.bytes
recipes_are slots s rests = ap (recipes_below (slot_in s.now.bytes)) rests.slots_are

-- fields that aren't broken
pub record FieldsFit (head : Head) : Type 0 where
  pub number : head.number < 2 ^ 63
  pub least : 1 ≤ head.name_len
  pub most : head.name_len ≤ 80
  pub body : head.body_len ≤ most_body

pub fields_fit : (head : Head) → fields_break head ≡ None → FieldsFit head
fields_fit head none = record {
  number = grind (arith, nat_tests, none);
  least = grind (arith, nat_tests, none);
  most = grind (arith, nat_tests, none);
  body = grind (arith, nat_tests, none);
}

pub fit_fields : (head : Head) → FieldsFit head → fields_break head ≡ None
fit_fields head is = grind (arith, nat_tests, is.number, is.least, is.most, is.body)

pub open_fits : (head : Head) → head_break head ≡ None → head.opened ≡ true → FieldsFit head
open_fits head none opened = fields_fit head (sym (ap (λ b. if b then fields_break head else None) opened) ∙ none)

-- a name has room for 80 bytes
area_long : (bytes : List ℕ) (k : ℕ) → slot_place k + 65536 ≤ length bytes → length (head_in bytes k).name ≡ 80
area_long bytes k inside =
    omega (
      arith,
      inside,
      length-take 80 (drop 9 (bytes_at bytes (slot_place k + 1) 93)),
      length-drop 9 (bytes_at bytes (slot_place k + 1) 93),
      length-take 93 (drop (slot_place k + 1) bytes),
      length-drop (slot_place k + 1) bytes,
    )

-- an open slot of a file
pub slot_fits : (slots : ℕ) (bytes : List ℕ) → IsFile slots bytes → (k : ℕ) → k < slots → is_open (slot_in bytes k) ≡ true →
    EntryFits (name_of (slot_in bytes k), recipe_of (slot_in bytes k))
slot_fits slots bytes file k below opened =
    let fit = open_fits (head_in bytes k) (file.area.fields k below) opened in
    let inside = file.inside in
    let area : length (head_in bytes k).name ≡ 80 = area_long bytes k (omega (arith, inside, below)) in
    record {
      name = record {
        least = let least = fit.least in let most = fit.most in omega (arith, least, most, area, length-take (head_in bytes k).name_len (head_in bytes k).name);
        most = let most = fit.most in omega (arith, most, length-take (head_in bytes k).name_len (head_in bytes k).name);
      };
      number = fit.number;
      body = let most = fit.body in omega (arith, most, length-take (head_in bytes k).body_len (bytes_at bytes (slot_place k + 94) most_body));
    }

-- so it rests where it is settled and tidy
pub rests_of : (slots : ℕ) (s : Story) → s.now.loose ≡ [] → IsFile slots s.now.bytes → IsTidy (slot_in s.now.bytes) slots → Rests slots s
rests_of slots s settled file tidy = record {
  settled = settled;
  sound = file_none slots s.now.bytes file;
  slots_are = file.slots_are;
  tidy = tidy;
  fits = subst (RecipesFit slots) (ap (recipes_below (slot_in s.now.bytes)) file.slots_are)
      (recipes_fit (slot_in s.now.bytes) slots tidy file.area (slot_fits slots s.now.bytes file));
}

-- ---- tidy slots, of which one was opened and the old one of its name closed

pub tidy_from : (slot now : ℕ → RecipeSlot) (n p : ℕ) (name : List ℕ) → IsTidy slot n → name_of (now p) ≡ name →
    ((k : ℕ) → k < n → (k ≡ p → ⊥) → is_open (now k) ≡ true → (now k ≡ slot k) × (name_of (slot k) ≡ name → ⊥)) → IsTidy now n
tidy_from slot now n p name tidy named others j k a b there here same = by (cases_eq j p) (cases_eq k p)
  where
    by : (j ≡ p) ⊎ (j ≡ p → ⊥) → (k ≡ p) ⊎ (k ≡ p → ⊥) → j ≡ k
    by (inl x) (inl y) = x ∙ sym y
    by (inl x) (inr other) =
        let it = others k b other here in
        absurd (it.1 (ap name_of (sym it.0) ∙ sym same ∙ ap (λ i. name_of (now i)) x ∙ named))
    by (inr other) (inl y) =
        let it = others j a other there in
        absurd (it.1 (ap name_of (sym it.0) ∙ same ∙ ap (λ i. name_of (now i)) y ∙ named))
    by (inr x) (inr y) =
        let one = others j a x there in
        let two = others k b y here in
        tidy j k a b (ap is_open (sym one.0) ∙ there) (ap is_open (sym two.0) ∙ here) (ap name_of (sym one.0) ∙ same ∙ ap name_of two.0)

-- ---- a put

-- the slot of the recipe that is replaced, if there is one
abbrev pub Replaces : ℕ → List ℕ → (ℕ → RecipeSlot) → Option ℕ → Type 0
Replaces slots name slot None = IsNoName slot slots name
Replaces slots name slot (Some q) = (q < slots) × (is_open (slot q) ≡ true) × (name_of (slot q) ≡ name)

pub not_done : (answer : DiskAnswer) → answer ≡ Failed → answer ≡ Done → ⊥
not_done answer failed done = true≢false (ap disk_failed (sym failed ∙ done))

-- what a change comes to: at every moment the old recipes or the new ones, and at last, where it is done, the new ones
abbrev pub Changes : ℕ → Recipes → Story → Option Story → DiskAnswer → Type 0
Changes slots new s after answer =
    (t : Story) × (after ≡ Some t)
    × Through s t (λ image. StandsFor slots (recipes_in s.now.bytes) image ⊎ StandsFor slots new image)
    × (answer ≡ Done → Rests slots t × (recipes_in t.now.bytes ≡ new))

module _ (slots p number : ℕ) (name body : List ℕ) (s : Story) (rests : Rests slots s) (below : p < slots)
    (shut : is_open (slot_in s.now.bytes p) ≡ false) (ppid : IsPpid name) (short : length body ≤ most_body)
    (number_is : number ≡ next_number (recipes_in s.now.bytes)) (low : number < 2 ^ 63)
    (space : contains_key (recipes_below (slot_in s.now.bytes) slots) name ≡ false → len (recipes_below (slot_in s.now.bytes) slots) < slots - 1) where
  abbrev S0 : ℕ → RecipeSlot
  S0 = slot_in s.now.bytes

  abbrev R : Recipes
  R = recipes_below S0 slots

  abbrev old : Recipes
  old = recipes_in s.now.bytes

  abbrev new : Recipes
  new = with_recipe name body old

  abbrev parts : List ℕ
  parts = parts_of number name body

  file0 : IsFile slots s.now.bytes
  file0 = file_at slots s rests

  to_old : (image : List ℕ) → Holds slots R image → StandsFor slots old image
  to_old image is = stands slots old image (is.0, is.1 ∙ recipes_are slots s rests)

  abbrev Either : List ℕ → Type 0
  Either image = StandsFor slots old image ⊎ StandsFor slots new image

  -- ---- the parts

  wide : number < 2 ^ 64
  wide = omega (arith, low)

  parts_long : length parts ≡ 93 + length body
  parts_long = length-parts number name body wide ppid.most short

  inside1 : slot_place p + 1 + length parts ≤ length s.now.bytes
  inside1 = let inside = file0.inside in omega (arith, inside, below, parts_long, short)

  parts_short : length parts ≤ 65535
  parts_short = omega (arith, parts_long, short)

  parts_leave : (image : List ℕ) → IsBut s.now.bytes (slot_place p + 1) (length parts) image → StandsFor slots old image
  parts_leave image is = to_old image (parts_file slots p s.now.bytes file0 below shut (length parts) parts_short image is)

  abbrev t1 : Story
  t1 = settled_at (slot_place p + 1) parts s

  abbrev S1 : ℕ → RecipeSlot
  S1 = slot_in t1.now.bytes

  but1 : IsBut s.now.bytes (slot_place p + 1) (length parts) t1.now.bytes
  but1 = written_but s.now.bytes parts (slot_place p + 1) inside1

  holds1 : Holds slots R t1.now.bytes
  holds1 = parts_file slots p s.now.bytes file0 below shut (length parts) parts_short t1.now.bytes but1

  shut1 : is_open (S1 p) ≡ false
  shut1 = gate_kept slots p s.now.bytes file0 below shut (length parts) parts_short t1.now.bytes but1

  other1 : (k : ℕ) → k < slots → (k ≡ p → ⊥) → S1 k ≡ S0 k
  other1 = others slots p s.now.bytes file0 below (slot_place p + 1) 1 (length parts) refl (omega (arith, parts_short)) t1.now.bytes but1

  name1 : name_of (S1 p) ≡ name
  name1 = written_name number name body wide ppid.most short s.now.bytes p inside1

  number1 : number_of (S1 p) ≡ number
  number1 = written_number number name body wide ppid.most short s.now.bytes p inside1

  recipe1 : recipe_of (S1 p) ≡ record { number = next_number old; body = body }
  recipe1 = written_recipe number name body wide ppid.most short s.now.bytes p inside1 ∙ ap (λ n. recipe_with n) number_is
    where
      recipe_with : ℕ → Recipe
      recipe_with n = record { number = n; body = body }

  sound1 : head_break (gated true (S1 p)).head ≡ None
  sound1 =
      let name_len = written_name_len number name body wide ppid.most short s.now.bytes p inside1 in
      let body_len = written_len number name body wide ppid.most short s.now.bytes p inside1 in
      let least = ppid.least in
      let most = ppid.most in
      fit_fields (S1 p).head (record {
        number = subst (λ n. n < 2 ^ 63) (sym number1) low;
        least = omega (arith, name_len, least);
        most = omega (arith, name_len, most);
        body = omega (arith, body_len, short);
      })

  beside_p : (slot : ℕ → RecipeSlot) → is_open (slot p) ≡ false → (k : ℕ) → is_open (slot k) ≡ true → k ≡ p → ⊥
  beside_p slot closed k there here = not_both (is_open (slot k)) there (ap (λ i. is_open (slot i)) here ∙ closed)

  -- its number is above all others
  above0 : (k : ℕ) → k < slots → is_open (S0 k) ≡ true → number_of (S0 k) < number
  above0 k under there =
      let less = all_below S0 slots rests.tidy slots k under (omega arith) there (file0.area.fields k under) in
      let next = behind_below S0 slots rests.tidy file0.area.fields slots (omega arith) in
      subst (λ n. number_of (S0 k) < n) (next ∙ ap next_number (recipes_are slots s rests) ∙ sym number_is) less

  above1 : (k : ℕ) → k < slots → is_open (S1 k) ≡ true → number_of (S1 k) < number_of (S1 p)
  above1 k under there =
      let it = other1 k under (beside_p S1 shut1 k there) in
      let less = above0 k under (ap is_open (sym it) ∙ there) in
      subst (λ n. number_of (S1 k) < n) (sym number1) (subst (λ (x : RecipeSlot). number_of x < number) (sym it) less)

  space1 : contains_key (recipes_below S1 slots) (name_of (S1 p)) ≡ false → len (recipes_below S1 slots) < slots - 1
  space1 none =
      subst (λ (r : Recipes). len r < slots - 1) (sym holds1.1)
      (space (ap (contains_key R) (sym name1) ∙ ap (λ (r : Recipes). contains_key r (name_of (S1 p))) (sym holds1.1) ∙ none))

  -- ---- the gate

  abbrev made : Recipes
  made = insert (recipes_below S1 slots) (name_of (S1 p)) (recipe_of (S1 p))

  made_is : made ≡ new
  made_is =
      ap (λ (r : Recipes). insert r (name_of (S1 p)) (recipe_of (S1 p))) (holds1.1 ∙ recipes_are slots s rests)
      ∙ ap (λ (n : List ℕ). insert old n (recipe_of (S1 p))) name1
      ∙ ap (insert old name) recipe1

  to_new : (image : List ℕ) → Holds slots made image → StandsFor slots new image
  to_new image is = stands slots new image (is.0, is.1 ∙ made_is)

  gate_leaves : (image : List ℕ) → IsBut t1.now.bytes (slot_place p) 1 image → Either image
  gate_leaves image is = by (slice_index image (slot_place p) == 90) refl
    where
      by : (b : Bool) → (slice_index image (slot_place p) == 90) ≡ b → Either image
      by true test = inr (to_new image (open_file slots p t1.now.bytes holds1.0 below shut1 sound1 above1 space1 image is test))
      by false test =
          let left = shut_file slots p t1.now.bytes holds1.0 below shut1 image is test in
          inl (to_old image (left.0, left.1 ∙ holds1.1))

  p_inside : (bytes : List ℕ) → IsFile slots bytes → (k : ℕ) → k < slots → slot_place k + 1 ≤ length bytes
  p_inside bytes file k under = let inside = file.inside in omega (arith, inside, under)

  abbrev t2 : Story
  t2 = settled_at (slot_place p) (90 ∷ []) t1

  abbrev S2 : ℕ → RecipeSlot
  S2 = slot_in t2.now.bytes

  but2 : IsBut t1.now.bytes (slot_place p) 1 t2.now.bytes
  but2 = written_but t1.now.bytes (90 ∷ []) (slot_place p) (p_inside t1.now.bytes holds1.0 p below)

  test2 : (slice_index t2.now.bytes (slot_place p) == 90) ≡ true
  test2 = ap (λ (g : ℕ). g == 90) (byte_there t1.now.bytes (90 ∷ []) (slot_place p) (p_inside t1.now.bytes holds1.0 p below) 90 0 refl)

  holds2 : Holds slots made t2.now.bytes
  holds2 = open_file slots p t1.now.bytes holds1.0 below shut1 sound1 above1 space1 t2.now.bytes but2 test2

  now2 : S2 p ≡ gated true (S1 p)
  now2 =
      let inside = holds1.0.inside in
      gate_changed t1.now.bytes t2.now.bytes p (omega (arith, inside, below)) but2 ∙ ap (λ b. gated b (S1 p)) test2

  name2 : name_of (S2 p) ≡ name
  name2 = ap name_of now2 ∙ name1

  other2 : (k : ℕ) → k < slots → (k ≡ p → ⊥) → S2 k ≡ S0 k
  other2 k under other =
      others slots p t1.now.bytes holds1.0 below (slot_place p) 0 1 (omega arith) (omega arith) t2.now.bytes but2 k under other
      ∙ other1 k under other

  -- ---- no recipe was replaced

  fresh_tidy : IsNoName S0 slots name → IsTidy S2 slots
  fresh_tidy none =
      tidy_from S0 S2 slots p name rests.tidy name2
      (λ k under other there. let it = other2 k under other in (it, none k under (ap is_open (sym it) ∙ there)))

  -- ---- or the slot of the old one is closed

  module _ (q : ℕ) (q_below : q < slots) (q_open : is_open (S0 q) ≡ true) (q_named : name_of (S0 q) ≡ name) where
    apart : q ≡ p → ⊥
    apart = beside_p S0 shut q q_open

    q_is : S2 q ≡ S0 q
    q_is = other2 q q_below apart

    q_there : is_open (S2 q) ≡ true
    q_there = ap is_open q_is ∙ q_open

    older : number_of (S2 q) < number_of (S2 p)
    older =
        subst (λ n. number_of (S2 q) < n) (sym (ap number_of now2 ∙ number1))
        (subst (λ (x : RecipeSlot). number_of x < number) (sym q_is) (above0 q q_below q_open))

    close_leaves : (image : List ℕ) → IsBut t2.now.bytes (slot_place q) 1 image → StandsFor slots new image
    close_leaves image is = by (slice_index image (slot_place q) == 90) refl
      where
        by : (b : Bool) → (slice_index image (slot_place q) == 90) ≡ b → StandsFor slots new image
        by true test =
            let left = open_kept slots q t2.now.bytes holds2.0 q_below q_there image is test in to_new image (left.0, left.1 ∙ holds2.1)
        by false test =
            let left = stale_file slots q t2.now.bytes holds2.0 q_below q_there image is test p below (λ same. apart (sym same))
            (ap is_open now2) (name2 ∙ sym (ap name_of q_is ∙ q_named)) older in
            to_new image (left.0, left.1 ∙ holds2.1)

    abbrev t3 : Story
    t3 = settled_at (slot_place q) (0 ∷ []) t2

    abbrev S3 : ℕ → RecipeSlot
    S3 = slot_in t3.now.bytes

    but3 : IsBut t2.now.bytes (slot_place q) 1 t3.now.bytes
    but3 = written_but t2.now.bytes (0 ∷ []) (slot_place q) (p_inside t2.now.bytes holds2.0 q q_below)

    test3 : (slice_index t3.now.bytes (slot_place q) == 90) ≡ false
    test3 = ap (λ (g : ℕ). g == 90) (byte_there t2.now.bytes (0 ∷ []) (slot_place q) (p_inside t2.now.bytes holds2.0 q q_below) 0 0 refl)

    other3 : (k : ℕ) → k < slots → (k ≡ q → ⊥) → S3 k ≡ S2 k
    other3 = others slots q t2.now.bytes holds2.0 q_below (slot_place q) 0 1 (omega arith) (omega arith) t3.now.bytes but3

    not_q : (k : ℕ) → is_open (S3 k) ≡ true → k ≡ q → ⊥
    not_q k there here = not_both (is_open (S3 k)) there (ap (λ i. is_open (S3 i)) here ∙ test3)

    replaced_tidy : IsTidy S3 slots
    replaced_tidy =
        tidy_from S0 S3 slots p name rests.tidy (ap name_of (other3 p below (λ same. apart (sym same))) ∙ name2)
        (λ k under other there.
        let it = other3 k under (not_q k there) ∙ other2 k under other in (
          it,
          λ named. not_q k there (rests.tidy k q under q_below (ap is_open (sym it) ∙ there) q_open (named ∙ sym q_named)),
        ))

    holds3 : StandsFor slots new t3.now.bytes
    holds3 = close_leaves t3.now.bytes but3

  -- ---- the calls

  module _ {D : Type 0} (members : disk.Ghosts D) (a b : D) (told : members.told a ≡ Some s) (answer : DiskAnswer) where
    old_through : (t : Story) → Through s t (StandsFor slots old) → Through s t Either
    old_through t through = through_more s t (StandsFor slots old) Either (λ image is. inl is) through

    upto1 : Through s t1 Either
    upto1 = old_through t1 (goes_done s rests.settled (slot_place p + 1) parts inside1 (StandsFor slots old) parts_leave)

    upto2 : Through s t2 Either
    upto2 =
        through_both s t1 t2 Either upto1
        (goes_done t1 refl (slot_place p) (90 ∷ []) (p_inside t1.now.bytes holds1.0 p below) Either gate_leaves)

    closed_on : (m : D) → members.told m ≡ Some t2 → (replaced : Option ℕ) → Replaces slots name S0 replaced → HasWritten members m b (close_writes replaced) answer →
        Changes slots new s (members.told b) answer
    closed_on m is None none written = (
      t2,
      ap members.told written.0 ∙ is,
      upto2,
      λ done. (rests_of slots t2 refl holds2.0 (fresh_tidy none), (to_new t2.now.bytes holds2).is),
    )
    closed_on m is (Some q) found (inl failed) =
        let on = goes t2 refl (slot_place q) (0 ∷ []) (p_inside t2.now.bytes holds2.0 q found.0) (StandsFor slots new) (close_leaves q found.0 found.1 found.2)
        (members.told b) Failed (settles_told (members.told m) (members.told b) t2 (slot_place q) (0 ∷ []) Failed is failed.1.told) in (
          on.0,
          on.1,
          through_both s t2 on.0 Either upto2 (through_more t2 on.0 (StandsFor slots new) Either (λ image stand. inr stand) on.2),
          λ done. absurd (not_done answer failed.0 done),
        )
    closed_on m is (Some q) found (inr rest) =
        let is3 = settles_told (members.told m) (members.told rest.0) t2 (slot_place q) (0 ∷ []) Done is rest.1.told in
        let through = goes_done t2 refl (slot_place q) (0 ∷ []) (p_inside t2.now.bytes holds2.0 q found.0) (StandsFor slots new) (close_leaves q found.0 found.1 found.2) in
        let stand = holds3 q found.0 found.1 found.2 in (
          t3 q found.0 found.1 found.2,
          ap members.told rest.2.0 ∙ is3,
          through_both s t2 (t3 q found.0 found.1 found.2) Either upto2
              (through_more t2 (t3 q found.0 found.1 found.2) (StandsFor slots new) Either (λ image stand. inr stand) through),
          λ done. (
            rests_of slots (t3 q found.0 found.1 found.2) refl (file_of slots (t3 q found.0 found.1 found.2).now.bytes stand.sound stand.slots_are)
                (replaced_tidy q found.0 found.1 found.2),
            stand.is,
          ),
        )

    opened_on : (m : D) → members.told m ≡ Some t1 → (replaced : Option ℕ) → Replaces slots name S0 replaced →
        HasWritten members m b ((slot_place p, 90 ∷ []) ∷ close_writes replaced) answer → Changes slots new s (members.told b) answer
    opened_on m is replaced found (inl failed) =
        let on = goes t1 refl (slot_place p) (90 ∷ []) (p_inside t1.now.bytes holds1.0 p below) Either gate_leaves
        (members.told b) Failed (settles_told (members.told m) (members.told b) t1 (slot_place p) (90 ∷ []) Failed is failed.1.told) in (
          on.0,
          on.1,
          through_both s t1 on.0 Either upto1 on.2,
          λ done. absurd (not_done answer failed.0 done),
        )
    opened_on m is replaced found (inr rest) =
        closed_on rest.0 (settles_told (members.told m) (members.told rest.0) t1 (slot_place p) (90 ∷ []) Done is rest.1.told) replaced found rest.2

    pub put_changes : (replaced : Option ℕ) → Replaces slots name S0 replaced → HasWritten members a b (put_writes p replaced number name body) answer →
        Changes slots new s (members.told b) answer
    put_changes replaced found (inl failed) =
        let on = goes s rests.settled (slot_place p + 1) parts inside1 (StandsFor slots old) parts_leave
        (members.told b) Failed (settles_told (members.told a) (members.told b) s (slot_place p + 1) parts Failed told failed.1.told) in (
          on.0,
          on.1,
          old_through on.0 on.2,
          λ done. absurd (not_done answer failed.0 done),
        )
    put_changes replaced found (inr rest) =
        opened_on rest.0 (settles_told (members.told a) (members.told rest.0) s (slot_place p + 1) parts Done told rest.1.told) replaced found rest.2
