-- The names that were read, and whether each is one.
use Rattle.std.proofs.Common.{◌≡◌, refl, sym, ap, subst, ◌∙◌, ℕ, ◌+◌, ◌<◌, ◌≤◌, ◌⊎◌, inl, inr, Bool, true, false, List, [], ◌∷◌, ◌++◌, All, drop, is_none, length, min, take, Option, None, Some, if◌then◌else◌, arith}
use Rattle.std.proofs.lemmas.Bool.{and_parts, cases_lt}
use Rattle.std.proofs.lemmas.List.Elements.{All-append, All-cons, All-nil}
use Rattle.std.proofs.lemmas.List.Sorted.{IsPermutation-insert, IsPermutation-push_more}
use Rattle.std.proofs.lemmas.List.{length-take, take-take, take_all}
use Rattle.std.specs.List.Sorted.{IsPermutation}
use Rattle.std.specs.List.{insert as put_at}
use Rattle.disk_base.specs.Story.{Story, bytes_at}
use Rattle.gem_recipes.specs.Recipes.{IsPpid, most_body, names_of}
use Rattle.gem_recipes.specs.declared.keeper.RecipeGet.{RecipeGet}
use Rattle.gem_recipes.specs.declared.keeper.RecipeGet.TheVariants as getting
use Rattle.recipe_disk.specs.Changes.{Rests}
use Rattle.recipe_disk.specs.Listing.{GivesBody, ReadsBody, names_with}
use Rattle.recipe_disk.specs.Map.{recipes_below}
use Rattle.recipe_disk.specs.Slot.{fields_break, head_in, is_open, name_in, slot_in, slot_place}
use Rattle.recipe_disk.specs.Survey.{is_live}
use Rattle.recipe_disk.specs.declared.head.Head.{Head}
use Rattle.recipe_disk.proofs.Names.{names_more, names_same, place_among}
use Rattle.recipe_disk.proofs.Putting.{fields_fit, file_at}
use Rattle.recipe_disk.proofs.Tidy.{live_is}

none_is : (o : Option ℕ) → is_none o ≡ true → o ≡ None
none_is None is = refl
none_is (Some n) is = absurd cc

-- the name of a live head
pub live_named : (head : Head) (name : List ℕ) → is_live head ≡ true → length name ≡ head.name_len → IsPpid name
live_named head name live long =
    let both = and_parts head.opened (is_none (fields_break head)) live in
    let fit = fields_fit head (none_is (fields_break head) both.1) in
    let least = fit.least in
    let most = fit.most in
    record { least = omega (arith, least, long); most = omega (arith, most, long) }

pub live_short : (head : Head) → is_live head ≡ true → head.name_len ≤ 80
live_short head live =
    let both = and_parts head.opened (is_none (fields_break head)) live in
    (fields_fit head (none_is (fields_break head) both.1)).most

-- of a file at rest
module _ (slots : ℕ) (s : Story) (rests : Rests slots s) (m : ℕ) (below : m < slots) (head : Head) (is : head ≡ head_in s.now.bytes m)
    (names : List (List ℕ)) (are : IsPermutation names (names_of (recipes_below (slot_in s.now.bytes) m))) where
  abbrev held : List (List ℕ)
  held = names_of (recipes_below (slot_in s.now.bytes) m)

  live_open : is_live head ≡ is_open (slot_in s.now.bytes m)
  live_open = ap is_live is ∙ live_is (head_in s.now.bytes m) ((file_at slots s rests).area.fields m below)

  by_life : (b : Bool) → is_live head ≡ b →
      IsPermutation (if b then names ++ name_in head ∷ [] else names) (names_of (recipes_below (slot_in s.now.bytes) (m + 1)))
  by_life true live =
      subst (IsPermutation (names ++ name_in head ∷ []))
      (ap (λ (n : List ℕ). put_at held (place_among n held) n) (ap name_in is)
      ∙ names_more (slot_in s.now.bytes) slots rests.tidy m below held refl (sym live_open ∙ live))
      (IsPermutation-push_more names held (put_at held (place_among (name_in head) held) (name_in head)) (name_in head) are
      (IsPermutation-insert held (place_among (name_in head) held) (name_in head)))
  by_life false dead =
      subst (IsPermutation names) (names_same (slot_in s.now.bytes) slots rests.tidy m below held refl (sym live_open ∙ dead)) are

  pub listed_next : IsPermutation (names_with head names) (names_of (recipes_below (slot_in s.now.bytes) (m + 1)))
  listed_next = by_life (is_live head) refl

-- what is put in is the name of a head that has a recipe
pub all_with : (head : Head) (name : List ℕ) (names : List (List ℕ)) → is_live head ≡ true → name ≡ name_in head → length name ≡ head.name_len → All IsPpid names →
    All IsPpid (names ++ name ∷ [])
all_with head name names live named long each =
    All-append IsPpid names (name ∷ []) each (All-cons IsPpid name [] (live_named head name live long) (All-nil IsPpid))

pub with_live : (head : Head) (name : List ℕ) (names : List (List ℕ)) → is_live head ≡ true → name ≡ name_in head → names ++ name ∷ [] ≡ names_with head names
with_live head name names live named =
    ap (λ (n : List ℕ). names ++ n ∷ []) named ∙ sym (ap (λ (b : Bool). if b then names ++ name_in head ∷ [] else names) live)

pub with_dead : (head : Head) (names : List (List ℕ)) → is_live head ≡ false → names ≡ names_with head names
with_dead head names dead = sym (ap (λ (b : Bool). if b then names ++ name_in head ∷ [] else names) dead)

-- ---- a body

-- of an area of so many bytes
cut_body : (bytes : List ℕ) (at n : ℕ) → bytes_at bytes at (min most_body n) ≡ take n (bytes_at bytes at most_body)
cut_body bytes at n = by (cases_lt most_body n)
  where
    by : (most_body < n) ⊎ (n ≤ most_body) → bytes_at bytes at (min most_body n) ≡ take n (bytes_at bytes at most_body)
    by (inl more) =
        let least : min most_body n ≡ most_body = omega (arith, more) in
        let long : length (bytes_at bytes at most_body) ≤ n = omega (arith, more, length-take most_body (drop at bytes)) in
        ap (λ (m : ℕ). bytes_at bytes at m) least ∙ sym (take_all n (bytes_at bytes at most_body) long)
    by (inr less) =
        let least : min most_body n ≡ n = omega (arith, less) in
        ap (λ (m : ℕ). bytes_at bytes at m) least ∙ sym (take-take n most_body (drop at bytes) less)

pub reads_body : (told mid : Option Story) (slot : ℕ) (head : Head) (place : ℕ) (answer : RecipeGet) → place ≡ slot_place slot → mid ≡ told →
    ((s : Story) → told ≡ Some s → head ≡ head_in s.now.bytes slot) → GivesBody mid (place + 94) (min most_body head.body_len) answer → ReadsBody told slot answer
reads_body told mid slot head place (getting.Found body) at same is gives = (
  (let long = gives.0 in omega (arith, long)),
  λ s here.
      gives.1 s (same ∙ here)
      ∙ ap (λ (n : ℕ). bytes_at s.now.bytes (n + 94) (min most_body head.body_len)) at
      ∙ cut_body s.now.bytes (slot_place slot + 94) head.body_len
      ∙ ap (λ (h : Head). take h.body_len (bytes_at s.now.bytes (slot_place slot + 94) most_body)) (is s here),
)
reads_body told mid slot head place getting.Unknown at same is gives = gives
reads_body told mid slot head place getting.Failed at same is gives = tt
reads_body told mid slot head place getting.NoMemory at same is gives = tt
