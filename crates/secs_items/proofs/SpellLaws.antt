-- Whole inputs: what an input is read as is what it spells.
use Rattle.std.proofs.Common.{◌≡◌, ◌≢◌, ℕ, List, [], ◌∷◌, ◌++◌, ◌-◌, ◌⊎◌, inl, inr, length, Option, Some, None, Result, Ok, Err, refl, sym, ap, subst, ◌∙◌}
use Rattle.std.proofs.lemmas.List.{append-nil}
use Rattle.secs_items.specs.declared.encode_fault.EncodeFault.{EncodeFault}
use Rattle.secs_items.specs.declared.item.Item.{Item}
use Rattle.secs_items.specs.declared.item_fault.ItemFault.{ItemFault}
use Rattle.secs_items.specs.declared.item_fault.ItemFault.TheVariants as fault
use Rattle.std.specs.Prelude.{IfErr, IfOk, IsOkAnd, OnOk}
use Rattle.std.specs.List.{AllByRecursion}
use Rattle.secs_items.specs.Elements.{IsByte}
use Rattle.secs_items.specs.Encoding.{Encodes, encode_fault, fault_within}
use Rattle.secs_items.specs.Ranges.{InRange}
use Rattle.secs_items.specs.Reading.{Gives, ReadsOnly, first_fault, item_at}
use Rattle.secs_items.specs.Spelling.{Spells, SpellsFront, SpellsWithin, shortest_spelling}
use Rattle.secs_items.specs.Views.{ChecksOnly, Viewed}
use Rattle.secs_items.proofs.Faults.{read_fault, read_none, read_trailing}
use Rattle.secs_items.proofs.ItemLaws.{item_again, item_takes}
use Rattle.secs_items.proofs.Numbers.{IsBytes, bytes_fit}
use Rattle.secs_items.proofs.Shortest.{shortest_spells}

pub read_spells : (bytes : List ℕ) (item : Item) (rest : List ℕ) → IsBytes bytes → item_at (length bytes) 64 bytes ≡ Ok (item, rest) → rest ≡ []
    → Spells item bytes
unfolding Spells
read_spells bytes item rest fits e none =
    let t = item_takes (length bytes) 64 bytes (item, rest) fits e in
    let whole : t.front ≡ bytes = sym (append-nil t.front) ∙ ap (λ (r : List ℕ). t.front ++ r) (sym none) ∙ sym t.parts in
    subst (SpellsWithin 64 item) whole t.spelled

-- what is spelled is read, of whatever length the input is said to be
pub spells_front : (total : ℕ) (item : Item) (bytes more : List ℕ) → Spells item bytes → item_at total 64 (bytes ++ more) ≡ Ok (item, more)
unfolding Spells
spells_front total item bytes more s = item_again total 64 item bytes more s

pub spells_read : (total : ℕ) (item : Item) (bytes : List ℕ) → Spells item bytes → item_at total 64 bytes ≡ Ok (item, [])
spells_read total item bytes s = subst (λ (bs : List ℕ). item_at total 64 bs ≡ Ok (item, [])) (append-nil bytes) (spells_front total item bytes [] s)

same_read : (first second : Item) (more rest : List ℕ) → ◌≡◌ {A = Result (Item × List ℕ) ItemFault} (Ok (first, more)) (Ok (second, rest))
    → (more ≡ rest) × (first ≡ second)
same_read first second more rest e =
    let one : Item × List ℕ = (first, more) in
    let other : Item × List ℕ = (second, rest) in
    let same : one ≡ other = cc in
    (ap (λ (p : Item × List ℕ). p.1) same, ap (λ (p : Item × List ℕ). p.0) same)

pub no_prefix : (first second : Item) (bytes more : List ℕ) → Spells first bytes → Spells second (bytes ++ more) → (more ≡ []) × (first ≡ second)
no_prefix first second bytes more s t =
    same_read first second more [] (sym (spells_front 0 first bytes more s) ∙ spells_read 0 second (bytes ++ more) t)

pub one_value : (first second : Item) (bytes : List ℕ) → Spells first bytes → Spells second bytes → first ≡ second
one_value first second bytes s t =
    (same_read first second [] [] (sym (spells_read 0 first bytes s) ∙ spells_read 0 second bytes t)).1

pub spells_none : (item : Item) (bytes : List ℕ) → Spells item bytes → first_fault bytes ≡ None
spells_none item bytes s = read_none bytes item [] (spells_read (length bytes) item bytes s) refl

-- ---- what reading finds at the front

-- the item and the rest of what was found are those that reading gives
module _ {X : Type 0} (item_of : X → Item) (rest_of : X → List ℕ) (bytes : List ℕ) where
  abbrev Read : Result X ItemFault → Type 0
  Read result = Gives (λ x. (item_of x, rest_of x)) result (item_at (length bytes) 64 bytes)

  pub front_found : (result : Result X ItemFault) → IsBytes bytes → Read result
      → IfOk result (λ x. SpellsFront (item_of x) bytes (rest_of x))
  unfolding Spells
  front_found (Ok x) fits read =
      let t = item_takes (length bytes) 64 bytes (item_of x, rest_of x) fits read in
      record { front = t.front; spelled = t.spelled; parts = t.parts }
  front_found (Err e) fits read = tt

  there : (item : Item) (rest : List ℕ) → SpellsFront item bytes rest → item_at (length bytes) 64 bytes ≡ Ok (item, rest)
  there item rest s = ap (item_at (length bytes) 64) s.parts ∙ spells_front (length bytes) item s.front rest s.spelled

  ok_err : (read : Result (Item × List ℕ) ItemFault) (x : Item × List ℕ) (e : ItemFault) → read ≡ Ok x → read ≡ Err e → ⊥
  ok_err read x e ok err = cc

  pub front_only : (result : Result X ItemFault) → Read result → IfErr result (λ e. e ≢ fault.NoMemory)
      → (item : Item) (rest : List ℕ) → SpellsFront item bytes rest
      → IsOkAnd result (λ x. (item_of x ≡ item) × (rest_of x ≡ rest))
  front_only (Ok x) read named item rest s =
      let same = same_read (item_of x) item (rest_of x) rest (sym read ∙ there item rest s) in (same.1, same.0)
  front_only (Err e) read named item rest s =
      absurd (ok_err (item_at (length bytes) 64 bytes) (item, rest) e (there item rest s) (read named))

  pub front_fault : (result : Result X ItemFault) → Read result → IfErr result (λ e. e ≢ fault.NoMemory)
      → IfErr result (λ e. first_fault bytes ≡ Some e)
  front_fault (Ok x) read named = tt
  front_fault (Err e) read named = read_fault bytes e (read named)

pub shortest_is_spelled : (item : Item) → InRange item → encode_fault item ≡ None → Spells item (shortest_spelling item)
unfolding Spells encode_fault
shortest_is_spelled item ranges none = shortest_spells 64 0 item ranges none

-- what writing has shown of the item
pub spells_so : (r : Result (Unit {0}) EncodeFault) (item : Item) (at : ℕ) (old new : List ℕ)
    → Encodes (shortest_spelling item) (fault_within 64 at item) old new r → OnOk r (InRange item) → OnOk r (Spells item (shortest_spelling item))
unfolding Spells
spells_so (Ok u) item at old new puts ranges = shortest_spells 64 at item ranges puts.1
spells_so (Err e) item at old new puts ranges = tt

-- ---- what decoding answers

-- a fault that is not named is want of memory
memory : (e : ItemFault) → ((e ≢ fault.NoMemory) → ⊥) → e ≡ fault.NoMemory
memory (fault.Short at) h = absurd (h (λ (e : fault.Short at ≡ fault.NoMemory). cc))
memory (fault.BadCode at) h = absurd (h (λ (e : fault.BadCode at ≡ fault.NoMemory). cc))
memory (fault.NoLengthBytes at) h = absurd (h (λ (e : fault.NoLengthBytes at ≡ fault.NoMemory). cc))
memory (fault.Uneven at) h = absurd (h (λ (e : fault.Uneven at ≡ fault.NoMemory). cc))
memory (fault.TooDeep at) h = absurd (h (λ (e : fault.TooDeep at ≡ fault.NoMemory). cc))
memory (fault.Trailing at) h = absurd (h (λ (e : fault.Trailing at ≡ fault.NoMemory). cc))
memory fault.NoMemory h = refl

none_some : (e : ItemFault) → ◌≡◌ {A = Option ItemFault} None (Some e) → ⊥
none_some e h = cc

pub answers_only : (bytes : List ℕ) (result : Result Item ItemFault) → IfOk result (λ read. Spells read bytes)
    → IfErr result (λ e. e ≢ fault.NoMemory → first_fault bytes ≡ Some e) → (item : Item) → Spells item bytes → ReadsOnly item result
answers_only bytes (Ok read) found faulty item s = one_value read item bytes found s
answers_only bytes (Err e) found faulty item s = memory e (λ named. none_some e (sym (spells_none item bytes s) ∙ faulty named))

pub checks_only : (bytes : List ℕ) (result : Result Viewed ItemFault) → IfOk result (λ view. Spells view.item bytes)
    → IfErr result (λ e. first_fault bytes ≡ Some e) → (item : Item) → Spells item bytes → ChecksOnly item result
checks_only bytes (Ok view) found faulty item s = one_value view.item item bytes found s
checks_only bytes (Err e) found faulty item s = none_some e (sym (spells_none item bytes s) ∙ faulty)

-- ---- bytes without a fault

nothing : (bytes : List ℕ) → (bytes ≡ []) ⊎ (bytes ≡ [] → ⊥)
nothing [] = inl refl
nothing (b ∷ bytes) = inr (λ (e : b ∷ bytes ≡ []). cc)

ends_so : (bytes : List ℕ) (item : Item) (rest : List ℕ) → item_at (length bytes) 64 bytes ≡ Ok (item, rest) → IsBytes bytes
    → first_fault bytes ≡ None → (i : Item) × Spells i bytes
ends_so bytes item rest h fits none =
    elim (nothing rest) [
      | inl empty ↦ (item, read_spells bytes item rest fits h empty)
      | inr some ↦ absurd (none_some (fault.Trailing (length bytes - length rest)) (sym none ∙ read_trailing bytes item rest h some))
    ]

read_so : (bytes : List ℕ) (r : Result (Item × List ℕ) ItemFault) → item_at (length bytes) 64 bytes ≡ r → IsBytes bytes → first_fault bytes ≡ None
    → (i : Item) × Spells i bytes
read_so bytes (Ok x) h fits none = ends_so bytes x.0 x.1 h fits none
read_so bytes (Err e) h fits none = absurd (none_some e (sym none ∙ read_fault bytes e h))

-- bytes without a fault spell some item
pub none_spells : (bytes : List ℕ) → AllByRecursion IsByte bytes → first_fault bytes ≡ None → (item : Item) × Spells item bytes
none_spells bytes each none = read_so bytes (item_at (length bytes) 64 bytes) refl (bytes_fit bytes each) none
