-- The characters on their way are bytes.
use Rattle.std.proofs.Common.{◌<◌, zero, suc, ℕ, ◌+◌, Bool, true, false, List, [], ◌∷◌, ◌++◌, drop, map, if◌then◌else◌, arith}
use Rattle.gl_base.specs.declared.side.Side.{Side}
use Rattle.gl_base.specs.declared.side.Side.TheVariants.{Equipment, Host}
use Rattle.line_end.specs.declared.event.Phase.{Phase}
use Rattle.line_end.specs.Step.{enq}
use Rattle.line_way.specs.declared.character.Character.{Character}
use Rattle.line_way.specs.Kept.{asks_first, control, direction_to, framed_from, has_frame, rest_of, with_byte, with_direction, written_as, ways_after}
use Rattle.line_way.specs.Ways.{Way, Ways}
use Rattle.end_pair.proofs.Bytes.{AreBytes}

abbrev pub AreByteCharacters : List Character → Type 0
AreByteCharacters [] = Unit {0}
AreByteCharacters (character ∷ rest) = (character.byte < 256) × AreByteCharacters rest

abbrev pub AreByteWays : Ways → Type 0
AreByteWays ways = AreByteCharacters ways.to_equipment.under_way × AreByteCharacters ways.to_host.under_way

pub bytes-to : (side : Side) (ways : Ways) → AreByteWays ways → AreByteCharacters (direction_to side ways).under_way
bytes-to Equipment ways are = are.0
bytes-to Host ways are = are.1

pub bytes-with :
    (side : Side) (way : Way) (ways : Ways) → AreByteCharacters way.under_way → AreByteWays ways
    → AreByteWays (with_direction side way ways)
bytes-with Equipment way ways new are = (new, are.1)
bytes-with Host way ways new are = (are.0, new)

append : (xs ys : List Character) → AreByteCharacters xs → AreByteCharacters ys → AreByteCharacters (xs ++ ys)
append [] ys one two = two
append (x ∷ xs) ys one two = (one.0, append xs ys one.1 two)

controls : (bytes : List ℕ) → AreBytes bytes → AreByteCharacters (map control bytes)
controls [] all = tt
controls (byte ∷ bytes) all = (all.0, controls bytes all.1)

framed : (number place : ℕ) (bytes : List ℕ) → AreBytes bytes → AreByteCharacters (framed_from number place bytes)
framed number place [] all = tt
framed number place (byte ∷ bytes) all =
    (all.0, framed number (place + 1) bytes all.1)

without-first : (bytes : List ℕ) → AreBytes bytes → AreBytes (drop 1 bytes)
without-first [] all = all
without-first (byte ∷ bytes) all = all.1

written : (number : ℕ) (bytes : List ℕ) → AreBytes bytes → AreByteCharacters (written_as number bytes)
written number bytes all = by_frame (has_frame bytes)
  where
    by_first : (b : Bool)
        → AreByteCharacters (if b then control enq ∷ framed_from number 0 (drop 1 bytes) else framed_from number 0
        bytes)
    by_first true = (omega arith, framed number 0 (drop 1 bytes) (without-first bytes all))
    by_first false = framed number 0 bytes all

    by_frame : (b : Bool)
        → AreByteCharacters
        (if b then (if asks_first bytes then control enq ∷ framed_from number 0 (drop 1 bytes) else framed_from number 0
        bytes)
        else map control bytes)
    by_frame true = by_first (asks_first bytes)
    by_frame false = controls bytes all

rest : (gives : Bool) (characters : List Character) → AreByteCharacters characters
    → AreByteCharacters (rest_of gives characters)
rest true [] all = tt
rest false [] all = tt
rest true (c ∷ cs) all = all.1
rest false (c ∷ cs) all = all

pub bytes-after :
    (side : Side) (gives : Bool) (phase : Phase) (bytes : List ℕ) (ways : Ways) → AreBytes bytes → AreByteWays ways
    → AreByteWays (ways_after side gives phase bytes ways)
bytes-after Equipment gives phase bytes ways new are = (
  rest gives ways.to_equipment.under_way are.0,
  append ways.to_host.under_way _ are.1
      (written ways.written bytes new),
)
bytes-after Host gives phase bytes ways new are = (
  append ways.to_equipment.under_way _ are.0 (written ways.written bytes new),
  rest gives ways.to_host.under_way
      are.1,
)

pub dropped : (n : ℕ) (characters : List Character) → AreByteCharacters characters
    → AreByteCharacters (drop n characters)
dropped zero characters are = are
dropped (suc n) [] are = tt
dropped (suc n) (c ∷ cs) are = dropped n cs are.1

pub with-byte : (place byte : ℕ) (characters : List Character) → byte < 256 → AreByteCharacters characters
    → AreByteCharacters (with_byte place byte characters)
with-byte place byte [] small are = tt
with-byte zero byte (c ∷ cs) small are = (small, are.1)
with-byte (suc place) byte (c ∷ cs) small are = (are.0, with-byte place byte cs small are.1)
