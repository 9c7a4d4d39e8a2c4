-- Characters on their way over the line, and where they come from.
use Rattle.std.specs.Prelude.{ℕ, Bool, true, false, ◌+◌, ◌==◌, ◌&&◌, nat_lt, List, [], ◌∷◌, length, map, if◌then◌else◌}

-- it stands at a place, from 0, of the frame with a number; or it is what an end has written that is no frame; or no
-- end has written it (this profile)
pub data Origin : Type 0 where
  Framed : (frame place : ℕ) → Origin
  Control : Origin
  Noise : Origin

-- a character under way: what it is now, and where it comes from
pub record Character : Type 0 where
  pub byte : ℕ
  pub origin : Origin

abbrev pub control : ℕ → Character
control byte = record { byte = byte; origin = Control }

abbrev pub noise : ℕ → Character
noise byte = record { byte = byte; origin = Noise }

-- bytes that stand from a place on in the frame with a number
abbrev pub framed_from : ℕ → ℕ → List ℕ → List Character
framed_from number place [] = []
framed_from number place (byte ∷ bytes) =
    record { byte = byte; origin = Framed number place } ∷ framed_from number (place + 1) bytes

-- a call writes a frame, or at most one control character: a frame has 13 characters at least (SEMI E4, block)
abbrev pub writes_frame : List ℕ → Bool
writes_frame written = nat_lt 1 (length written)

-- what a call has written, as characters; a frame gets this number
abbrev pub written_as : ℕ → List ℕ → List Character
written_as number written =
    if writes_frame written then framed_from number 0 written
    else map control written

-- it stands at that place of that frame
abbrev pub is_from : ℕ → ℕ → Origin → Bool
is_from number place (Framed frame at) = frame == number && at == place
is_from number place Control = false
is_from number place Noise = false

-- the characters are these bytes from that place of that frame on: all of them, in order and unchanged
abbrev pub are_framed_from : ℕ → ℕ → List ℕ → List Character → Bool
are_framed_from number place [] [] = true
are_framed_from number place [] (character ∷ characters) = false
are_framed_from number place (byte ∷ bytes) [] = false
are_framed_from number place (byte ∷ bytes) (character ∷ characters) =
    character.byte == byte && is_from number place character.origin
    && are_framed_from number (place + 1) bytes characters
