-- Each capture is pieces and an ending.
use Rattle.std.proofs.Common.{◌≡◌, ℕ, zero, suc, ◌+◌, ◌<◌, ◌≤◌, Bool, true, false, List, [], ◌∷◌, ◌++◌, length, drop, Option, Some, None, refl, sym, ap, ◌∙◌, arith, length-drop}
use Rattle.std.specs.Prelude.{All}
use Rattle.std.proofs.lemmas.List.{take-append-drop}
use Rattle.std.proofs.lemmas.List.Elements.{All-drop, All-take}
use Rattle.block_codec.specs.declared.frame.BlockFault.{BlockFault}
use Rattle.block_codec.specs.declared.frame.BlockFault.TheVariants as fault
use Rattle.block_codec.specs.Fault.{fault_of}
use Rattle.block_codec.proofs.Parts.{faultless-frame}
use Rattle.line_show.specs.Capture.{IsFront, Piece, ReadsFrom, break_of, front_frame, is_character, piece_bytes}
use Rattle.line_show.specs.declared.capture.Break.{Break}
use Rattle.line_show.specs.declared.capture.Break.TheVariants as break
use Rattle.line_show.specs.declared.capture.Ending.{Ending}
use Rattle.line_show.specs.declared.capture.Ending.TheVariants.{Whole, Broken}
use Rattle.line_show.specs.Capture.Piece.{Character, Framed}
use Rattle.line_show.proofs.Captures.{not_long}

abbrev AllBytes : List ℕ → Type 0
AllBytes bytes = All (λ byte. byte < 256) bytes

abbrev Read : ℕ → List ℕ → Type 0
Read place bytes = (pieces : List Piece) × (ending : Ending) × ReadsFrom place bytes pieces ending

-- what stands behind some bytes is read, at whatever place
abbrev ReadBehind : List ℕ → Type 0
ReadBehind bytes = (place : ℕ) → Read place bytes

-- every fault but of a frame that is too long is a break
break_named : (place end : ℕ) (found : BlockFault) → ((came : ℕ) → found ≡ fault.Long came → ⊥)
    → (named : Break) × (break_of place end found ≡ Some named)
break_named place end (fault.Length n) short = (break.Length place n, refl)
break_named place end (fault.Short came) short = (break.Short end, refl)
break_named place end (fault.Long came) short = absurd (short came refl)
break_named place end (fault.Sum got want) short = (break.Sum place want got, refl)

-- a piece in front, and what is read behind it
with_front : (place : ℕ) (bytes more : List ℕ) (piece : Piece) → IsFront bytes piece more → ReadBehind more
    → Read place bytes
with_front place bytes more piece front behind =
    let rest = behind (place + length (piece_bytes piece)) in (piece ∷ rest.0, rest.1, (more, front, rest.2))

-- where a fault is in front, a character stands there or a break ends the reading
at_fault : (place n : ℕ) (bytes : List ℕ) (found : BlockFault) → fault_of (front_frame (n ∷ bytes)) ≡ Some found
    → ReadBehind bytes
    → Read place (n ∷ bytes)
at_fault place n bytes found broken behind = go (is_character n) refl
  where
    go : (character : Bool) → is_character n ≡ character → Read place (n ∷ bytes)
    go true is = with_front place (n ∷ bytes) bytes (Character n)
        (record { stands = (is, (found, broken)); whole = refl }) behind
    go false isnt =
        let named = break_named place (place + length (n ∷ bytes)) found
        (λ came long. not_long (n ∷ bytes) came (broken ∙ ap Some long)) in (
          [],
          Broken named.0,
          (found, record { something = λ nothing. cc; no_character = isnt; broken = broken }, named.1),
        )

-- what is in front, once all that may stand behind it is read
from_front : (place n : ℕ) (bytes : List ℕ) → AllBytes (n ∷ bytes) → ReadBehind bytes
    → ReadBehind (drop (n + 3) (n ∷ bytes)) → Read place (n ∷ bytes)
from_front place n bytes all next behind = go (fault_of (front_frame (n ∷ bytes))) refl
  where
    go : (found : Option BlockFault) → fault_of (front_frame (n ∷ bytes)) ≡ found → Read place (n ∷ bytes)
    go (Some fault) broken = at_fault place n bytes fault broken next
    go None good =
        let frame = faultless-frame (front_frame (n ∷ bytes))
        (All-take (λ (byte : ℕ). byte < 256) (n + 3) (n ∷ bytes) all) good in
        let whole = sym (take-append-drop (n + 3) (n ∷ bytes))
        ∙ ap (λ (front : List ℕ). front ++ drop (n + 3) (n ∷ bytes)) frame.2 in
        with_front place (n ∷ bytes) (drop (n + 3) (n ∷ bytes)) (Framed frame.0)
        (record { stands = frame.1; whole = whole }) behind

pub reads : (fuel : ℕ) (bytes : List ℕ) → length bytes ≤ fuel → AllBytes bytes → ReadBehind bytes
reads fuel [] enough all = λ place. ([], Whole, refl)
reads zero (n ∷ bytes) enough all = absurd (omega arith)
reads (suc fuel) (n ∷ bytes) enough all = λ place.
    from_front place n bytes all
    (reads fuel bytes (omega arith) (All-drop (λ (byte : ℕ). byte < 256) 1 (n ∷ bytes) all))
    (reads fuel (drop (n + 3) (n ∷ bytes)) (omega (arith, length-drop (n + 3) (n ∷ bytes)))
    (All-drop (λ (byte : ℕ). byte < 256) (n + 3) (n ∷ bytes) all))
