-- What the numbers of an end keep as it goes on: each lemma over the fields that it speaks of.
use Rattle.std.proofs.Common.{◌≡◌, inl, inr, refl, sym, ap, ◌∙◌, arith, Bool, true, false, cond, ◌==◌, ℕ, ◌+◌, ◌^◌, ◌<◌, ◌≤◌, List, ◌∷◌, Some, None, Option}
use Rattle.std.proofs.lemmas.Bool.Decides.{nat_tests}
use Rattle.message_flow.specs.declared.message.Message.{Message}
use Rattle.message_flow.specs.Message.{is_primary}
use Rattle.transact.specs.Numbers.{NumbersView, after_draw, next_number, with_more}
use Rattle.message_end.specs.History.{AreNumbered, IsSpare, SpareIs}
use Rattle.message_end.specs.Own.{Has}

-- ---- numbers

pub numbers-sent :
    (base : ℕ) (drawn : List ℕ) (sents : List Message) (numbers : NumbersView) (message : Message)
    → message.system < numbers.next
    → (is_primary message ≡ true → (other : Message) → Has sents other → is_primary other ≡ true
    → other.system ≡ message.system → ⊥)
    → AreNumbered base drawn sents numbers → AreNumbered base drawn (message ∷ sents) numbers
numbers-sent base drawn sents numbers message below new is = record {
  left = is.left;
  least = is.least;
  above = is.above;
  below = λ other has primary. go other has primary;
  new = (new, is.new);
}
  where
    go : (other : Message) → Has (message ∷ sents) other → is_primary other ≡ true → other.system < numbers.next
    go other (inl same) primary = let e = ap (λ (m : Message). m.system) same in omega arith
    go other (inr has) primary = is.below other has primary

-- a reply is no primary
pub numbers-replied :
    (base : ℕ) (drawn : List ℕ) (sents : List Message) (numbers : NumbersView) (message : Message)
    → is_primary message ≡ false
    → AreNumbered base drawn sents numbers → AreNumbered base drawn (message ∷ sents) numbers
numbers-replied base drawn sents numbers message reply is = record {
  left = is.left;
  least = is.least;
  above = is.above;
  below = λ other has primary. go other has primary;
  new = ((λ primary. let e = sym primary ∙ reply in absurd (cc)), is.new);
}
  where
    go : (other : Message) → Has (message ∷ sents) other → is_primary other ≡ true → other.system < numbers.next
    go other (inl same) primary = let e = sym primary ∙ ap is_primary same ∙ reply in absurd (cc)
    go other (inr has) primary = is.below other has primary

pub numbers-more :
    (base count : ℕ) (drawn : List ℕ) (sents : List Message) (numbers : NumbersView)
    → AreNumbered base drawn sents numbers → AreNumbered base drawn sents (with_more count numbers)
numbers-more base count drawn sents numbers is = record {
  left =
      (let ordered =
      is.left.ordered in let four =
      is.left.four_bytes in record { ordered = omega arith; four_bytes = omega arith });
  least = is.least;
  above = is.above;
  below = is.below;
  new = is.new;
}

-- the next number is drawn
pub record IsDrawn
    (base : ℕ) (drawn : List ℕ) (sents : List Message) (numbers : NumbersView) (number : ℕ)
    : Type 0 where
  pub next : number ≡ numbers.next
  pub four_bytes : number < 2 ^ 32
  pub least : base ≤ number
  pub above : (earlier : ℕ) → Has drawn earlier → earlier < number
  pub free : (message : Message) → Has sents message → is_primary message ≡ true → message.system ≡ number → ⊥
  pub after : AreNumbered base (number ∷ drawn) sents (after_draw numbers)
  pub below : number < (after_draw numbers).next
  pub higher : numbers.next ≤ (after_draw numbers).next

pub numbers-drawn :
    (base : ℕ) (drawn : List ℕ) (sents : List Message) (numbers : NumbersView) (number : ℕ)
    → AreNumbered base drawn sents numbers → next_number numbers ≡ Some number
    → IsDrawn base drawn sents numbers number
numbers-drawn base drawn sents numbers number is e = go (numbers.next == numbers.end) refl e
  where
    later : number ≡ numbers.next → (after_draw numbers).next ≡ numbers.next + 1 → (earlier : ℕ)
        → Has (number ∷ drawn) earlier → earlier < (after_draw numbers).next
    later same next_is earlier (inl equal) = omega arith
    later same next_is earlier (inr has) = let below = is.above earlier has in omega arith

    go : (spent : Bool) → (numbers.next == numbers.end) ≡ spent → cond spent None (Some numbers.next) ≡ Some number
        → IsDrawn base drawn sents numbers number
    go true test none = absurd (cc)
    go false test some =
        let same : number ≡ numbers.next = cc in
        let ordered = is.left.ordered in
        let four = is.left.four_bytes in
        let less : numbers.next < numbers.end = grind (arith, nat_tests, test, ordered) in
        let left : after_draw numbers ≡ record { next = numbers.next + 1; end = numbers.end } = rw test refl in
        let next_is = ap (λ (n : NumbersView). n.next) left in
        let end_is = ap (λ (n : NumbersView). n.end) left in
        let least = is.least in
        record {
          next = same;
          four_bytes = omega arith;
          least = omega arith;
          above = λ earlier has. let below = is.above earlier has in omega arith;
          free = λ message has primary equal. let below = is.below message has primary in omega arith;
          after = record {
            left = record { ordered = omega arith; four_bytes = omega arith };
            least = omega arith;
            above = λ earlier has. later same next_is earlier has;
            below = λ message has primary. let below = is.below message has primary in omega arith;
            new = is.new;
          };
          below = omega arith;
          higher = omega arith;
        }

-- ---- the number that was drawn by itself

pub spare-none : (drawn : List ℕ) (sents : List Message) (numbers : NumbersView) → SpareIs drawn sents numbers None
spare-none drawn sents numbers = λ number is. absurd (cc)

pub spare-drawn :
    (drawn : List ℕ) (sents : List Message) (numbers : NumbersView) (kept : Option ℕ) (number : ℕ)
    → numbers.next ≤ (after_draw numbers).next → SpareIs drawn sents numbers kept
    → SpareIs (number ∷ drawn) sents (after_draw numbers) kept
spare-drawn drawn sents numbers kept number higher is = λ spare e.
    let old = is spare e in
    let below = old.below in
    record { drawn_is = inr old.drawn_is; below = omega arith; free = old.free }

pub spare-sent :
    (drawn : List ℕ) (sents : List Message) (numbers : NumbersView) (kept : Option ℕ) (message : Message)
    → (is_primary message ≡ true → (spare : ℕ) → kept ≡ Some spare → message.system ≡ spare → ⊥)
    → SpareIs drawn sents numbers kept → SpareIs drawn (message ∷ sents) numbers kept
spare-sent drawn sents numbers kept message other is = λ spare e. go spare e (is spare e)
  where
    go : (spare : ℕ) → kept ≡ Some spare → IsSpare drawn sents numbers spare
        → IsSpare drawn (message ∷ sents) numbers spare
    go spare e old = record {
      drawn_is = old.drawn_is;
      below = old.below;
      free = λ m has primary same. free m has primary same;
    }
      where
        free : (m : Message) → Has (message ∷ sents) m → is_primary m ≡ true → m.system ≡ spare → ⊥
        free m (inl here) primary same =
            other (sym (ap is_primary here) ∙ primary) spare e (sym (ap (λ (x : Message). x.system) here) ∙ same)
        free m (inr has) primary same = old.free m has primary same

pub spare-more :
    (drawn : List ℕ) (sents : List Message) (numbers : NumbersView) (kept : Option ℕ) (count : ℕ)
    → SpareIs drawn sents numbers kept → SpareIs drawn sents (with_more count numbers) kept
spare-more drawn sents numbers kept count is = λ spare e.
    let old = is spare e in
    record { drawn_is = old.drawn_is; below = old.below; free = old.free }
