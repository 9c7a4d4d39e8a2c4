-- Lists read item by item.
use Rattle.std.proofs.Common.{◌≡◌, ℕ, ◌+◌, ◌<◌, ◌≤◌, List, [], ◌∷◌, ◌++◌, ◌^◌, drop, length, map, Option, Some, None, refl, sym, ap, ◌∙◌, append_assoc, arith}
use Rattle.std.specs.Option.{option_and_then, option_map}
use Rattle.std.proofs.lemmas.List.{append-nil}
use Rattle.secs_items.specs.declared.item.Item.{Item}
use Rattle.secs_items.specs.Spelling.{Spells, SpellsEach, SpellsFront}
use Rattle.gem_shapes.specs.Elements.{all_of, below, five_of, two_of}
use Rattle.gem_shapes.specs.Parts.{AreSpelled, Begins}

-- ---- L,2

-- what taking the front off tells: the item, and that the rest is spelled
abbrev pub IsFront : List ℕ → Item → List ℕ → Type 0
IsFront bytes found rest =
    (item : Item) (items : List Item) → SpellsEach Spells (item ∷ items) bytes → (found ≡ item) × SpellsEach Spells items rest

-- the first of some items stands at the front of their bytes
pub first_front : (item : Item) (items : List Item) (bytes : List ℕ) → (each : SpellsEach Spells (item ∷ items) bytes)
    → SpellsFront item bytes each.1
first_front item items bytes each = record { front = each.0; spelled = each.3; parts = each.2 }

pub begins : (o : Option (List Item)) (count : ℕ) (bytes : List ℕ) → AreSpelled o (Some (count, bytes)) → 0 < count → Begins bytes
begins None count bytes s some = absurd s
begins (Some []) count bytes s some = absurd (omega (arith, s.0, some))
begins (Some (i ∷ items)) count bytes s some = record { first = i; others = items; spelled = s.1 }

pub begins_second : (o : Option (List Item)) (count : ℕ) (bytes : List ℕ) (first : Item) (rest : List ℕ) → AreSpelled o (Some (count, bytes))
    → count ≡ 2 → IsFront bytes first rest → Begins rest
begins_second None count bytes first rest s both front = absurd s
begins_second (Some []) count bytes first rest s both front = absurd (omega (arith, s.0, both))
begins_second (Some (i ∷ [])) count bytes first rest s both front = absurd (omega (arith, s.0, both))
begins_second (Some (i ∷ j ∷ items)) count bytes first rest s both front =
    let f = front i (j ∷ items) s.1 in record { first = j; others = items; spelled = f.1 }

pub two_found : (o : Option (List Item)) (count : ℕ) (bytes : List ℕ) (first second : Item) (rest last : List ℕ) → AreSpelled o (Some (count, bytes))
    → count ≡ 2 → IsFront bytes first rest → IsFront rest second last → Some (first, second) ≡ option_and_then two_of o
two_found None count bytes first second rest last s both front behind = absurd s
two_found (Some []) count bytes first second rest last s both front behind = absurd (omega (arith, s.0, both))
two_found (Some (i ∷ [])) count bytes first second rest last s both front behind = absurd (omega (arith, s.0, both))
two_found (Some (i ∷ j ∷ [])) count bytes first second rest last s both front behind =
    let f = front i (j ∷ []) s.1 in
    let g = behind j [] f.1 in
    rw (f.0, g.0) refl
two_found (Some (i ∷ j ∷ k ∷ items)) count bytes first second rest last s both front behind = absurd (omega (arith, s.0, both))

-- the first of two
pub first_found :
    (o : Option (List Item)) (count : ℕ) (bytes : List ℕ) (first : Item) (rest : List ℕ)
    → AreSpelled o (Some (count, bytes)) → count ≡ 2 → IsFront bytes first rest
    → Some first ≡ option_map (λ (items : Item × Item). items.0) (option_and_then two_of o)
first_found None count bytes first rest s both front = absurd s
first_found (Some []) count bytes first rest s both front = absurd (omega (arith, s.0, both))
first_found (Some (i ∷ [])) count bytes first rest s both front = absurd (omega (arith, s.0, both))
first_found (Some (i ∷ j ∷ [])) count bytes first rest s both front = let f = front i (j ∷ []) s.1 in rw f.0 refl
first_found (Some (i ∷ j ∷ k ∷ items)) count bytes first rest s both front = absurd (omega (arith, s.0, both))

-- ---- L,5

-- behind these items so many more are spelled
pub record AreBehind (o : Option (List Item)) (before : List Item) (left : ℕ) (rest : List ℕ) : Type 0 where
  pub items : List Item
  pub all : o ≡ Some (before ++ items)
  pub long : length items ≡ left
  pub spelled : SpellsEach Spells items rest

pub five_before : (o : Option (List Item)) (count : ℕ) (bytes : List ℕ) → AreSpelled o (Some (count, bytes))
    → count ≡ 5 → AreBehind o [] 5 bytes
five_before None count bytes s five = absurd s
five_before (Some items) count bytes s five = record { items = items; all = refl; long = sym s.0 ∙ five; spelled = s.1 }

pub begins_behind : (o : Option (List Item)) (before : List Item) (left : ℕ) (rest : List ℕ)
    → AreBehind o before left rest → 0 < left → Begins rest
begins_behind o before left rest are more = go are.items are.long are.spelled
  where
    go : (items : List Item) → length items ≡ left → SpellsEach Spells items rest → Begins rest
    go [] long s = absurd (omega (arith, long, more))
    go (i ∷ items) long s = record { first = i; others = items; spelled = s }

pub one_more : (o : Option (List Item)) (before : List Item) (left : ℕ) (rest : List ℕ) (found : Item) (behind : List ℕ)
    → AreBehind o before (left + 1) rest → IsFront rest found behind → AreBehind o (before ++ found ∷ []) left behind
one_more o before left rest found behind are front = go are.items are.all are.long are.spelled
  where
    go : (items : List Item) → o ≡ Some (before ++ items) → length items ≡ left + 1 → SpellsEach Spells items rest
        → AreBehind o (before ++ found ∷ []) left behind
    go [] all long s = absurd (omega (arith, long))
    go (i ∷ items) all long s =
        let f = front i items s in
        record {
          items = items;
          all =
              all ∙ ap (λ (j : Item). Some (before ++ j ∷ items)) (sym f.0)
              ∙ ap Some (sym (append_assoc before (found ∷ []) items));
          long = omega (arith, long);
          spelled = f.1;
        }

pub five_found : (o : Option (List Item)) (a b c d e : Item) (rest : List ℕ)
    → AreBehind o (a ∷ b ∷ c ∷ d ∷ e ∷ []) 0 rest → Some (a, b, c, d, e) ≡ option_and_then five_of o
five_found o a b c d e rest are = go are.items are.long are.all
  where
    go : (items : List Item) → length items ≡ 0 → o ≡ Some ((a ∷ b ∷ c ∷ d ∷ e ∷ []) ++ items)
        → Some (a, b, c, d, e) ≡ option_and_then five_of o
    go [] long all = sym (ap (option_and_then five_of) all)
    go (i ∷ items) long all = absurd (omega (arith, long))

-- ---- L,n

-- what was read before, and what is still read
abbrev pub with_front : {T : Type 0} → List T → Option (List T) → Option (List T)
with_front front read = option_map (λ others. front ++ others) read

-- the items that are left of so many, in their bytes, and what was read of those before
pub record AreLeft {T : Type 0} (read : Item → Option T) (o : Option (List Item)) (count done : ℕ) (row : List T) (rest : List ℕ) : Type 0 where
  pub items : List Item
  pub spelled : SpellsEach Spells items rest
  pub counted : done + length items ≡ count
  pub so_far : with_front row (all_of (map read items)) ≡ option_and_then (λ all. all_of (map read all)) o

from_none : {T : Type 0} (read : Option (List T)) → with_front [] read ≡ read
from_none None = refl
from_none (Some others) = refl

pub starts : {T : Type 0} (read : Item → Option T) (o : Option (List Item)) (count : ℕ) (bytes : List ℕ) → AreSpelled o (Some (count, bytes))
    → AreLeft read o count 0 [] bytes
starts read None count bytes s = absurd s
starts read (Some items) count bytes s =
    record { items = items; spelled = s.1; counted = omega (arith, s.0); so_far = from_none (all_of (map read items)) }

pub goes_on : {T : Type 0} (read : Item → Option T) (o : Option (List Item)) (count done : ℕ) (row : List T) (rest : List ℕ)
    → AreLeft read o count done row rest → done < count → Begins rest
goes_on read o count done row rest left more =
    go left.items left.counted left.spelled
  where
    go : (items : List Item) → done + length items ≡ count → SpellsEach Spells items rest → Begins rest
    go [] counted s = absurd (omega (arith, counted, more))
    go (i ∷ items) counted s = record { first = i; others = items; spelled = s }

regroup : {T : Type 0} (row : List T) (value : T) (read : Option (List T))
    → with_front row (option_map (λ others. value ∷ others) read) ≡ with_front (row ++ value ∷ []) read
regroup row value None = refl
regroup row value (Some others) = ap Some (simp append_assoc)

read_some : {T : Type 0} (o : Option T) (value : T) (others : List (Option T)) → o ≡ Some value
    → all_of (o ∷ others) ≡ option_map (λ rest. value ∷ rest) (all_of others)
read_some o value others e = rw e refl

read_none : {T : Type 0} (o : Option T) (others : List (Option T)) → o ≡ None → all_of (o ∷ others) ≡ None
read_none o others e = rw e refl

pub steps : {T : Type 0} (read : Item → Option T) (o : Option (List Item)) (count done : ℕ) (row : List T) (rest : List ℕ) (found : Item) (value : T)
    (behind : List ℕ) → AreLeft read o count done row rest → done < count → IsFront rest found behind → read found ≡ Some value
    → AreLeft read o count (done + 1) (row ++ value ∷ []) behind
steps read o count done row rest found value behind left more front is =
    go left.items left.counted left.spelled left.so_far
  where
    go : (items : List Item) → done + length items ≡ count → SpellsEach Spells items rest
        → with_front row (all_of (map read items)) ≡ option_and_then (λ all. all_of (map read all)) o
        → AreLeft read o count (done + 1) (row ++ value ∷ []) behind
    go [] counted s so_far = absurd (omega (arith, counted, more))
    go (i ∷ items) counted s so_far =
        let f = front i items s in
        record {
          items = items;
          spelled = f.1;
          counted = omega (arith, counted);
          so_far =
              sym (regroup row value (all_of (map read items)))
              ∙ sym (ap (with_front row) (read_some (read i) value (map read items) (ap read (sym f.0) ∙ is))) ∙ so_far;
        }

pub breaks : {T : Type 0} (read : Item → Option T) (o : Option (List Item)) (count done : ℕ) (row : List T) (rest : List ℕ) (found : Item)
    (behind : List ℕ) → AreLeft read o count done row rest → done < count → IsFront rest found behind → read found ≡ None
    → None ≡ option_and_then (λ all. all_of (map read all)) o
breaks read o count done row rest found behind left more front is =
    go left.items left.counted left.spelled left.so_far
  where
    go : (items : List Item) → done + length items ≡ count → SpellsEach Spells items rest
        → with_front row (all_of (map read items)) ≡ option_and_then (λ all. all_of (map read all)) o
        → None ≡ option_and_then (λ all. all_of (map read all)) o
    go [] counted s so_far = absurd (omega (arith, counted, more))
    go (i ∷ items) counted s so_far =
        let f = front i items s in
        sym (ap (with_front row) (read_none (read i) (map read items) (ap read (sym f.0) ∙ is))) ∙ so_far

pub is_done : {T : Type 0} (read : Item → Option T) (o : Option (List Item)) (count done : ℕ) (row : List T) (rest : List ℕ)
    → AreLeft read o count done row rest → count ≤ done → Some row ≡ option_and_then (λ all. all_of (map read all)) o
is_done read o count done row rest left all =
    go left.items left.counted left.so_far
  where
    go : (items : List Item) → done + length items ≡ count
        → with_front row (all_of (map read items)) ≡ option_and_then (λ every. all_of (map read every)) o
        → Some row ≡ option_and_then (λ every. all_of (map read every)) o
    go [] counted so_far = ap Some (sym (append-nil row)) ∙ so_far
    go (i ∷ items) counted so_far = absurd (omega (arith, counted, all))

-- ---- the elements of one item

-- an element's number, where four bytes hold it
abbrev pub fits_in : {A : Type 0} → (A → ℕ) → A → Option ℕ
fits_in value n = below (2 ^ 32) (value n)

-- the elements that are left after so many, and what was read of those before
abbrev pub IsRead : {A T : Type 0} → (A → Option T) → List A → ℕ → List T → Type 0
IsRead read elements done row = with_front row (all_of (map read (drop done elements))) ≡ all_of (map read elements)

pub read_from : {A T : Type 0} (read : A → Option T) (elements : List A) → IsRead read elements 0 []
read_from read elements = from_none (all_of (map read elements))

pub read_on : {A T : Type 0} (read : A → Option T) (elements : List A) (done : ℕ) (row : List T) (element : A) (value : T)
    → drop done elements ≡ element ∷ drop (done + 1) elements → read element ≡ Some value → IsRead read elements done row
    → IsRead read elements (done + 1) (row ++ value ∷ [])
read_on {A} {T} read elements done row element value next is so_far =
    sym (regroup row value (all_of (map read (drop (done + 1) elements))))
    ∙ sym (ap (with_front row) (read_some (read element) value (map read (drop (done + 1) elements)) is))
    ∙ sym (ap (λ (left : List A). with_front row (all_of (map read left))) next) ∙ so_far

pub read_breaks : {A T : Type 0} (read : A → Option T) (elements : List A) (done : ℕ) (row : List T) (element : A)
    → drop done elements ≡ element ∷ drop (done + 1) elements → read element ≡ None → IsRead read elements done row
    → None ≡ all_of (map read elements)
read_breaks {A} {T} read elements done row element next is so_far =
    sym (ap (with_front row) (read_none (read element) (map read (drop (done + 1) elements)) is))
    ∙ sym (ap (λ (left : List A). with_front row (all_of (map read left))) next) ∙ so_far

pub read_all : {A T : Type 0} (read : A → Option T) (elements : List A) (done : ℕ) (row : List T)
    → drop done elements ≡ [] → IsRead read elements done row → Some row ≡ all_of (map read elements)
read_all {A} {T} read elements done row none so_far =
    ap Some (sym (append-nil row)) ∙ sym (ap (λ (left : List A). with_front row (all_of (map read left))) none) ∙ so_far
