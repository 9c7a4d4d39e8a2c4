-- Members of lists, and lists without some of their elements.
use Rattle.std.proofs.Common.{if◌then◌else◌, ◌≡◌, ◌⊎◌, inl, inr, refl, sym, ap, ◌∙◌, arith, Bool, true, false, cond, ◌==◌, zero, suc, ℕ, ◌<◌, ◌≤◌, List, [], ◌∷◌, ◌++◌, length, map, take, drop, Some}
use Rattle.std.proofs.lemmas.Bool.{eq-eqb, ne_eqb}
use Rattle.std.proofs.lemmas.Bool.Decides.{nat_tests}
use Rattle.message_flow.specs.declared.message.Message.{Message}
use Rattle.message_flow.specs.Message.{is_primary}
use Rattle.message_flow.specs.Outgoing.{without_first}
use Rattle.message_flow.proofs.Firsts.{without-first, removed}
use Rattle.message_end.specs.History.{AreApart, AreNew, Item}
use Rattle.message_end.specs.Own.{Has, sent_at}
use Rattle.message_end.proofs.Members.{has-drop}

-- ---- a message at a place

pub place-below :
    (place : ℕ) (sents : List Message) (message : Message) → sent_at place sents ≡ Some message
    → place < length sents
place-below place [] message is = cc
place-below place (m ∷ before) message is = go (place == length before) refl (place-below place before message) is
  where
    go : (here : Bool) → (place == length before) ≡ here
        → (sent_at place before ≡ Some message → place < length before)
        → (if here then Some m else sent_at place before) ≡ Some message
        → place < length (m ∷ before)
    go true same earlier is = let e : place ≡ length before = grind (arith, nat_tests, same) in omega arith
    go false other earlier is = let less = earlier is in omega arith

-- it stays there
pub sent-more :
    (place : ℕ) (sents : List Message) (message newer : Message) → sent_at place sents ≡ Some message
    → sent_at place (newer ∷ sents) ≡ Some message
sent-more place sents message newer is =
    let below = place-below place sents message is in
    let other : (place == length sents) ≡ false = ne_eqb place (length sents) (λ e. omega arith) in
    rw other is

-- the newest is at the last place
pub sent-newest : (sents : List Message) (newer : Message) → sent_at (length sents) (newer ∷ sents) ≡ Some newer
sent-newest sents newer =
    let same : (length sents == length sents) ≡ true = eq-eqb (length sents) (length sents) refl in rw same refl

pub has-sent :
    (place : ℕ) (sents : List Message) (message : Message) → sent_at place sents ≡ Some message → Has sents message
has-sent place [] message is = cc
has-sent place (m ∷ before) message is = go (place == length before) (has-sent place before message) is
  where
    go : (here : Bool) → (sent_at place before ≡ Some message → Has before message)
        → (if here then Some m else sent_at place before) ≡ Some message
        → Has (m ∷ before) message
    go true earlier is = let same : message ≡ m = cc in inl same
    go false earlier is = inr (earlier is)

-- primaries with the same system bytes stand at one place
pub one-place :
    (sents : List Message) → AreNew sents → (a b : ℕ) (m n : Message) → sent_at a sents ≡ Some m
    → sent_at b sents ≡ Some n
    → is_primary m ≡ true → is_primary n ≡ true → m.system ≡ n.system → a ≡ b
one-place [] new a b m n at_a at_b is_m is_n same = absurd (cc)
one-place (first ∷ before) new a b m n at_a at_b is_m is_n same =
    go (a == length before) (b == length before)
    (λ in_a in_b. one-place before new.1 a b m n in_a in_b is_m is_n same) refl refl at_a at_b
  where
    go : (p q : Bool) → (sent_at a before ≡ Some m → sent_at b before ≡ Some n → a ≡ b)
        → (a == length before) ≡ p → (b == length before) ≡ q
        → (if p then Some first else sent_at a before) ≡ Some m
        → (if q then Some first else sent_at b before) ≡ Some n
        → a ≡ b
    go true true earlier here_a here_b in_a in_b = grind (arith, nat_tests, here_a, here_b)
    go true false earlier here_a here_b in_a in_b =
        let f : first ≡ m = cc in
        absurd (new.0 (ap is_primary f ∙ is_m) n (has-sent b before n in_b) is_n (sym same ∙ sym (ap (λ
        (x : Message). x.system) f)))
    go false true earlier here_a here_b in_a in_b =
        let f : first ≡ n = cc in
        absurd (new.0 (ap is_primary f ∙ is_n) m (has-sent a before m in_a) is_m (same ∙ sym (ap (λ
        (x : Message). x.system) f)))
    go false false earlier here_a here_b in_a in_b = earlier in_a in_b

-- ---- members

pub has-snoc : {X : Type 0} (xs : List X) (y x : X) → Has (xs ++ y ∷ []) x → Has xs x ⊎ (x ≡ y)
has-snoc [] y x (inl same) = inr same
has-snoc [] y x (inr none) = absurd none
has-snoc (z ∷ xs) y x (inl same) = inl (inl same)
has-snoc {X} (z ∷ xs) y x (inr rest) = go (has-snoc xs y x rest)
  where
    go : Has xs x ⊎ (x ≡ y) → Has (z ∷ xs) x ⊎ (x ≡ y)
    go (inl is) = inl (inr is)
    go (inr is) = inr is

pub apart-snoc :
    (items : List Item) (new : Item) → AreApart items
    → ((item : Item) → Has items item → item.place ≡ new.place → ⊥)
    → AreApart (items ++ new ∷ [])
apart-snoc [] new apart differ = (λ other none same. none, tt)
apart-snoc (item ∷ items) new apart differ = (
  λ other has same. go other same (has-snoc items new other has),
  apart-snoc items new apart.1 (λ other has same. differ other (inr has) same),
)
  where
    go : (other : Item) → other.place ≡ item.place → Has items other ⊎ (other ≡ new) → ⊥
    go other same (inl has) = apart.0 other has same
    go other same (inr is) = differ item (inl refl) (sym same ∙ ap (λ (i : Item). i.place) is)

-- ---- without the first that passes

pub has-less : {X : Type 0} (test : X → Bool) (xs : List X) (x : X) → Has (without-first test xs) x → Has xs x
has-less test [] x has = has
has-less {X} test (y ∷ ys) x has = go (test y) (has-less test ys x) has
  where
    go : (passes : Bool) → (Has (without-first test ys) x → Has ys x)
        → Has (cond passes ys (y ∷ without-first test ys)) x → Has (y ∷ ys) x
    go true rest has = inr has
    go false rest (inl same) = inl same
    go false rest (inr has) = inr (rest has)

pub apart-less : (test : Item → Bool) (items : List Item) → AreApart items → AreApart (without-first test items)
apart-less test [] apart = apart
apart-less test (item ∷ items) apart = go (test item) (apart-less test items apart.1)
  where
    go : (passes : Bool) → AreApart (without-first test items)
        → AreApart (cond passes items (item ∷ without-first test items))
    go true rest = apart.1
    go false rest = (λ other has. apart.0 other (has-less test items other has), rest)

-- of those that pass, where all stand at one place, none is left
pub none-left :
    (test : Item → Bool) (items : List Item) → AreApart items
    → ((a b : Item) → Has items a → Has items b → test a ≡ true → test b ≡ true → a.place ≡ b.place)
    → (item : Item) → Has (without-first test items) item → test item ≡ false
none-left test [] apart one item has = absurd has
none-left test (first ∷ items) apart one item has =
    go (test first) refl (none-left test items apart.1 (λ a b has_a has_b. one a b (inr has_a) (inr has_b)) item) has
  where
    other : (passes : Bool) → test item ≡ passes → test first ≡ true → Has items item → test item ≡ false
    other false is first_passes has = is
    other true is first_passes has = absurd (apart.0 item has (one item first (inr has) (inl refl) is first_passes))

    go : (passes : Bool) → test first ≡ passes
        → (Has (without-first test items) item → test item ≡ false)
        → Has (cond passes items (first ∷ without-first test items)) item
        → test item ≡ false
    go true is rest has = other (test item) refl is has
    go false is rest (inl same) = ap test same ∙ is
    go false is rest (inr has) = rest has

pub map-less :
    {X Y : Type 0} (f : X → Y) (test : Y → Bool) (xs : List X)
    → without_first test (map f xs) ≡ map f (without-first (λ x. test (f x)) xs)
map-less {X} {Y} f test xs = removed test (map f xs) ∙ go xs
  where
    go : (xs : List X) → without-first test (map f xs) ≡ map f (without-first (λ x. test (f x)) xs)
    go [] = refl
    go (x ∷ xs) =
        elim (test (f x)) as (λ b. cond b (map f xs) (f x ∷ without-first test (map f xs))
        ≡ map f (cond b xs (x ∷ without-first (λ x. test (f x)) xs))) [
          | true ↦ refl
          | false ↦ ap (λ ys. f x ∷ ys) (go xs)
        ]

-- ---- without those from one place to another

abbrev pub cut : {X : Type 0} → ℕ → ℕ → List X → List X
cut a b xs = take a xs ++ drop b xs

pub has-cut : {X : Type 0} (a b : ℕ) (xs : List X) (x : X) → a ≤ b → Has (cut a b xs) x → Has xs x
has-cut zero b xs x least has = has-drop b xs x has
has-cut (suc a) zero xs x least has = absurd (omega arith)
has-cut (suc a) (suc b) [] x least has = absurd has
has-cut (suc a) (suc b) (y ∷ ys) x least (inl same) = inl same
has-cut (suc a) (suc b) (y ∷ ys) x least (inr has) = inr (has-cut a b ys x (omega arith) has)

apart-drop : (n : ℕ) (items : List Item) → AreApart items → AreApart (drop n items)
apart-drop zero items apart = apart
apart-drop (suc n) [] apart = apart
apart-drop (suc n) (item ∷ items) apart = apart-drop n items apart.1

pub apart-cut : (a b : ℕ) (items : List Item) → a ≤ b → AreApart items → AreApart (cut a b items)
apart-cut zero b items least apart = apart-drop b items apart
apart-cut (suc a) zero items least apart = absurd (omega arith)
apart-cut (suc a) (suc b) [] least apart = apart
apart-cut (suc a) (suc b) (item ∷ items) least apart =
    (λ other has. apart.0 other (has-cut a b items other (omega arith) has), apart-cut a b items (omega arith) apart.1)

map-drop : {X Y : Type 0} (f : X → Y) (n : ℕ) (xs : List X) → drop n (map f xs) ≡ map f (drop n xs)
map-drop f zero xs = refl
map-drop f (suc n) [] = refl
map-drop f (suc n) (x ∷ xs) = map-drop f n xs

pub map-cut :
    {X Y : Type 0} (f : X → Y) (a b : ℕ) (xs : List X) → a ≤ b → cut a b (map f xs) ≡ map f (cut a b xs)
map-cut f zero b xs least = map-drop f b xs
map-cut f (suc a) zero xs least = absurd (omega arith)
map-cut f (suc a) (suc b) [] least = refl
map-cut f (suc a) (suc b) (x ∷ xs) least = ap (λ ys. f x ∷ ys) (map-cut f a b xs (omega arith))
