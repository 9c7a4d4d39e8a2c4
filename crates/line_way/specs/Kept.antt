-- What the calls make of what is kept.
use Rattle.std.specs.Prelude.{◌≡◌, zero, suc, ℕ, Bool, true, false, not, ◌+◌, ◌==◌, ◌&&◌, nat_le, List, [], ◌∷◌, ◌++◌, length, map, drop, slice_index, Option, Some, None, if◌then◌else◌}
use Rattle.block_codec.specs.Protocol.{header_length, most_counted}
use Rattle.gl_base.specs.declared.side.Side.{Side}
use Rattle.gl_base.specs.declared.side.Side.TheVariants.{Equipment, Host}
use Rattle.line_end.specs.declared.event.Phase.{Phase}
use Rattle.line_end.specs.declared.event.Phase.TheVariants.{Idle, AwaitEot, AwaitAck, AwaitLength, Gathering, Settling}
use Rattle.line_end.specs.Frames.{is_frame}
use Rattle.line_end.specs.Step.{enq}
use Rattle.line_way.specs.declared.character.Character.{Character}
use Rattle.line_way.specs.declared.character.Source.{Source}
use Rattle.line_way.specs.declared.character.Source.TheVariants.{Frame, Control, Noise}
use Rattle.line_way.specs.declared.slip.Slip.{Slip}
use Rattle.line_way.specs.Slip.{first_frame}
use Rattle.line_way.specs.Ways.{Way, Ways, bytes_of, characters_of, is_end}

-- the direction to an end, and the other one
abbrev pub direction_to : Side → Ways → Way
direction_to Equipment ways = ways.to_equipment
direction_to Host ways = ways.to_host

abbrev pub direction_from : Side → Ways → Way
direction_from Equipment ways = ways.to_host
direction_from Host ways = ways.to_equipment

-- on a line on which nothing has happened
abbrev pub empty_way : Way
empty_way = record { under_way = []; gathered = [] }

abbrev pub new_ways : Ways
new_ways = record { to_equipment = empty_way; to_host = empty_way; written = 0 }

-- with these instead
abbrev pub with_direction : Side → Way → Ways → Ways
with_direction Equipment way ways = record ways { to_equipment = way }
with_direction Host way ways = record ways { to_host = way }

abbrev pub with_directions : Side → (to from : Way) → ℕ → Ways
with_directions Equipment to from count = record { to_equipment = to; to_host = from; written = count }
with_directions Host to from count = record { to_equipment = from; to_host = to; written = count }

abbrev pub control : ℕ → Character
control byte = record { byte = byte; source = Control }

abbrev pub noise : ℕ → Character
noise byte = record { byte = byte; source = Noise }

-- the bytes that stand from a place on in the frame with a number
abbrev pub framed_from : ℕ → ℕ → List ℕ → List Character
framed_from number place [] = []
framed_from number place (byte ∷ bytes) =
    record {
      byte = byte;
      source = Frame (record { frame = number; place = place; written = byte; is_last = is_end bytes });
    }
    ∷ framed_from number (place + 1) bytes

-- the most control characters of one step: at its deadline, at the character, and a first ENQ
abbrev pub most_controls : ℕ
most_controls = 3

-- more than these are a frame, or ENQ at the deadline and a frame behind it: no length byte is one
abbrev pub has_frame : List ℕ → Bool
has_frame written = not (nat_le (length written) most_controls)

abbrev pub asks_first : List ℕ → Bool
asks_first written = slice_index written 0 == enq

-- what a step has written, as characters; a frame gets this number
abbrev pub written_as : ℕ → List ℕ → List Character
written_as number written =
    if has_frame written then
    (if asks_first written then control enq ∷ framed_from number 0 (drop 1 written)
    else framed_from number 0 written)
    else map control written

abbrev pub count_after : ℕ → List ℕ → ℕ
count_after count written = if has_frame written then count + 1 else count

-- what an end keeps of a frame in a phase
abbrev pub still_gathered : Phase → List Character → List Character
still_gathered Idle characters = []
still_gathered AwaitEot characters = []
still_gathered AwaitAck characters = []
still_gathered AwaitLength characters = []
still_gathered Gathering characters = characters
still_gathered Settling characters = []

-- the next character, where one is given
abbrev pub given_of : Bool → List Character → List Character
given_of gives [] = []
given_of true (character ∷ rest) = character ∷ []
given_of false (character ∷ rest) = []

abbrev pub rest_of : Bool → List Character → List Character
rest_of gives [] = []
rest_of true (character ∷ rest) = rest
rest_of false (character ∷ rest) = character ∷ rest

-- a step took the next character, or none, and left the end in a phase
abbrev pub way_after : Bool → Phase → Way → Way
way_after gives phase way = record {
  under_way = rest_of gives way.under_way;
  gathered = still_gathered phase (way.gathered ++ given_of gives way.under_way);
}

abbrev pub with_written : ℕ → List ℕ → Way → Way
with_written number written way = record way { under_way = way.under_way ++ written_as number written }

abbrev pub ways_after : Side → Bool → Phase → List ℕ → Ways → Ways
ways_after side gives phase written ways =
    with_directions side (way_after gives phase (direction_to side ways))
    (with_written ways.written written (direction_from side ways)) (count_after ways.written written)

-- the characters of a frame, with the next one
abbrev pub gathered_with_next : Way → List Character
gathered_with_next way = way.gathered ++ given_of true way.under_way

abbrev pub without_next : Way → Way
without_next way = record way { under_way = drop 1 way.under_way }

-- another byte at a place; its source stays
abbrev pub with_byte : ℕ → ℕ → List Character → List Character
with_byte place byte [] = []
with_byte zero byte (character ∷ rest) = record character { byte = byte } ∷ rest
with_byte (suc place) byte (character ∷ rest) = character ∷ with_byte place byte rest

abbrev pub with_change : ℕ → ℕ → Way → Way
with_change place byte way = record way { under_way = with_byte place byte way.under_way }

abbrev pub with_noise : ℕ → Way → Way
with_noise byte way = record way { under_way = noise byte ∷ way.under_way }

abbrev pub with_noise_to : Side → ℕ → Ways → Ways
with_noise_to side byte ways = with_direction side (with_noise byte (direction_to side ways)) ways

-- nothing is under way, and the end has started anew
abbrev pub without_power : Side → Ways → Ways
without_power side ways =
    let from = direction_from side ways in
    with_directions side (record { under_way = []; gathered = [] }) (record from { under_way = [] }) ways.written

-- it stands at that place of that frame, with the byte that was written there, and isn't its last
abbrev pub stands_at : ℕ → ℕ → ℕ → Source → Bool
stands_at number place byte (Frame at) =
    at.frame == number && at.place == place && byte == at.written && not at.is_last
stands_at number place byte Control = false
stands_at number place byte Noise = false

-- so do they all, from a place on
abbrev pub are_front : ℕ → ℕ → List Character → Bool
are_front number place [] = true
are_front number place (character ∷ characters) =
    stands_at number place character.byte character.source && are_front number (place + 1) characters

-- with these in front of it, a character ends a frame of which all characters are there, unchanged and in order
abbrev pub ends_frame : List Character → ℕ → Source → Bool
ends_frame gathered byte (Frame at) =
    at.is_last && at.place == length gathered && byte == at.written && are_front at.frame 0 gathered
ends_frame gathered byte Control = false
ends_frame gathered byte Noise = false

abbrev pub is_whole : List Character → Character → Bool
is_whole gathered next = ends_frame gathered next.byte next.source

abbrev pub bytes_with : List Character → Character → List ℕ
bytes_with gathered next = bytes_of (characters_of (gathered ++ next ∷ []))

-- so many characters are all that a length byte announces, itself among them (SEMI E4, block)
abbrev pub is_complete : ℕ → ℕ → Bool
is_complete first count = nat_le header_length first && nat_le first most_counted && count == first + 3

-- as many characters as were announced, with the right sum
abbrev pub completes_block : List ℕ → Bool
completes_block bytes = is_complete (slice_index bytes 0) (length bytes) && is_frame bytes

abbrev pub makes_slip : List Character → List Character → Bool
makes_slip gathered [] = false
makes_slip gathered (next ∷ rest) = completes_block (bytes_with gathered next) && not (is_whole gathered next)

-- in that phase, where T1 has run out or not
abbrev pub makes_slip_in : Phase → Bool → Way → Bool
makes_slip_in Gathering false way = makes_slip way.gathered way.under_way
makes_slip_in Gathering true way = false
makes_slip_in Idle is_late way = false
makes_slip_in AwaitEot is_late way = false
makes_slip_in AwaitAck is_late way = false
makes_slip_in AwaitLength is_late way = false
makes_slip_in Settling is_late way = false

-- the answer, for what was gathered with the next character
abbrev pub IsSlipOf : Bool → List Character → Option Slip → Type 0
IsSlipOf is characters None = is ≡ false
IsSlipOf is characters (Some slip) =
    (is ≡ true) × (slip.frame ≡ first_frame (characters_of characters))
    × (slip.characters.items ≡ bytes_of (characters_of characters))

-- what a direction's next character makes, in that phase
abbrev pub IsSlipAt : Phase → Bool → Way → Option Slip → Type 0
IsSlipAt phase is_late way result = IsSlipOf (makes_slip_in phase is_late way) (gathered_with_next way) result
