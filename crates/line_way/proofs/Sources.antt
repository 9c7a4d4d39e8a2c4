-- Where characters come from, as more frames are written.
use Rattle.std.proofs.Common.{◌≡◌, ◌<◌, ◌⊎◌, zero, suc, ℕ, ◌+◌, List, [], ◌∷◌, ◌++◌, drop, map, refl, sym, ap, ◌∙◌, arith, inl, inr, add-one}
use Rattle.std.specs.List.{Contains}
use Rattle.line_order.specs.Acts.{changed}
use Rattle.line_order.specs.Characters as order
use Rattle.line_order.specs.Line.{WrittenFrame}
use Rattle.line_order.proofs.Given.{contains-cases, contains-more}
use Rattle.line_way.specs.declared.character.Character.{Character}
use Rattle.line_way.specs.declared.character.Source.{Source}
use Rattle.line_way.specs.declared.character.Source.TheVariants as source
use Rattle.line_way.specs.Kept.{control, framed_from, with_byte}
use Rattle.line_way.specs.Ways.{AreFrom, AreNumbered, IsFrom, bytes_of, character_of, characters_of}

pub from-one : (f : WrittenFrame) (frames : List WrittenFrame) (s : Source) → IsFrom frames s → IsFrom (f ∷ frames) s
from-one f frames (source.Frame at) is = record {
  frame = is.frame;
  is_written = contains-more f frames is.frame is.is_written;
  number = is.number;
  place = is.place;
}
from-one f frames source.Control is = tt
from-one f frames source.Noise is = tt

pub from-more : (f : WrittenFrame) (frames : List WrittenFrame) (cs : List Character) → AreFrom frames cs → AreFrom (f ∷ frames) cs
from-more f frames [] are = tt
from-more f frames (c ∷ cs) are = (from-one f frames c.source are.0, from-more f frames cs are.1)

pub from-append : (frames : List WrittenFrame) (xs ys : List Character) → AreFrom frames xs → AreFrom frames ys → AreFrom frames (xs ++ ys)
from-append frames [] ys are others = others
from-append frames (x ∷ xs) ys are others = (are.0, from-append frames xs ys are.1 others)

pub from-controls : (frames : List WrittenFrame) (bytes : List ℕ) → AreFrom frames (map control bytes)
from-controls frames [] = tt
from-controls frames (byte ∷ bytes) = (tt, from-controls frames bytes)

pub from-changed : (frames : List WrittenFrame) (place byte : ℕ) (cs : List Character) → AreFrom frames cs → AreFrom frames (with_byte place byte cs)
from-changed frames place byte [] are = tt
from-changed frames zero byte (c ∷ cs) are = (are.0, are.1)
from-changed frames (suc place) byte (c ∷ cs) are = (are.0, from-changed frames place byte cs are.1)

pub drop-rest : (place : ℕ) (all : List ℕ) (byte : ℕ) (bytes : List ℕ) → drop place all ≡ byte ∷ bytes → drop (place + 1) all ≡ bytes
drop-rest place all byte bytes at = ap (λ (n : ℕ). drop n all) (add-one place) ∙ go place all at
  where
    go : (place : ℕ) (all : List ℕ) → drop place all ≡ byte ∷ bytes → drop (suc place) all ≡ bytes
    go zero [] at = cc
    go zero (x ∷ all) at = cc
    go (suc place) [] at = cc
    go (suc place) (x ∷ all) at = go place all at

-- the characters of a frame are from it
pub from-framed : (frame : WrittenFrame) (frames : List WrittenFrame) (place : ℕ) (bytes : List ℕ) → Contains frames frame
    → drop place frame.bytes ≡ bytes → AreFrom frames (framed_from frame.number place bytes)
from-framed frame frames place [] member at = tt
from-framed frame frames place (byte ∷ bytes) member at = (
  record { frame = frame; is_written = member; number = refl; place = record { rest = bytes; stands = at; last = refl } },
  from-framed frame frames (place + 1) bytes member (drop-rest place frame.bytes byte bytes at),
)

-- as the line knows them
pub characters-append : (xs ys : List Character) → characters_of (xs ++ ys) ≡ characters_of xs ++ characters_of ys
characters-append [] ys = refl
characters-append (x ∷ xs) ys = ap (λ (rest : List order.Character). character_of x ∷ rest) (characters-append xs ys)

pub bytes-with : (cs : List Character) (next : Character)
    → bytes_of (characters_of (cs ++ next ∷ [])) ≡ bytes_of (characters_of cs) ++ next.byte ∷ []
bytes-with [] next = refl
bytes-with (c ∷ cs) next = ap (λ (rest : List ℕ). c.byte ∷ rest) (bytes-with cs next)

pub characters-controls : (bytes : List ℕ) → characters_of (map control bytes) ≡ map order.control bytes
characters-controls [] = refl
characters-controls (byte ∷ bytes) = ap (λ (rest : List order.Character). order.control byte ∷ rest) (characters-controls bytes)

pub characters-framed : (number place : ℕ) (bytes : List ℕ) → characters_of (framed_from number place bytes) ≡ order.framed_from number place bytes
characters-framed number place [] = refl
characters-framed number place (byte ∷ bytes) =
    ap (λ (rest : List order.Character). record { byte = byte; origin = order.Framed number place } ∷ rest)
    (characters-framed number (place + 1) bytes)

pub characters-changed : (place byte : ℕ) (cs : List Character) → characters_of (with_byte place byte cs) ≡ changed place byte (characters_of cs)
characters-changed place byte [] = refl
characters-changed zero byte (c ∷ cs) = refl
characters-changed (suc place) byte (c ∷ cs) =
    ap (λ (rest : List order.Character). character_of c ∷ rest) (characters-changed place byte cs)

-- a call's frame, if it writes one, gets a number of its own
pub numbered-more : (frames : List WrittenFrame) (count : ℕ) (f : WrittenFrame) → f.number ≡ count → AreNumbered frames count
    → AreNumbered (f ∷ frames) (count + 1)
numbered-more frames count f is are = record {
  below = λ g member. below g (contains-cases f frames g member);
  apart = λ g h one other. apart g h (contains-cases f frames g one) (contains-cases f frames h other);
}
  where
    below : (g : WrittenFrame) → (g ≡ f) ⊎ Contains frames g → g.number < count + 1
    below g (inl same) = omega (arith, is, ap (λ (x : WrittenFrame). x.number) same)
    below g (inr member) = omega (arith, are.below g member)

    apart : (g h : WrittenFrame) → (g ≡ f) ⊎ Contains frames g → (h ≡ f) ⊎ Contains frames h → g.number ≡ h.number → g ≡ h
    apart g h (inl one) (inl other) same = one ∙ sym other
    apart g h (inl one) (inr other) same =
        absurd (omega (arith, is, same, ap (λ (x : WrittenFrame). x.number) one, are.below h other))
    apart g h (inr one) (inl other) same =
        absurd (omega (arith, is, same, ap (λ (x : WrittenFrame). x.number) other, are.below g one))
    apart g h (inr one) (inr other) same = are.apart g h one other same

pub numbered-later : (frames : List WrittenFrame) (count : ℕ) → AreNumbered frames count → AreNumbered frames (count + 1)
numbered-later frames count are = record { below = λ g member. omega (arith, are.below g member); apart = are.apart }
