-- Both directions of a line, and the line that they stand for.
use Rattle.std.specs.Prelude.{◌≡◌, ◌<◌, ℕ, Bool, true, false, List, [], ◌∷◌, map, drop, Option, Some, None}
use Rattle.std.specs.List.{Contains}
use Rattle.gl_base.specs.declared.side.Side.{Side}
use Rattle.line_end.specs.declared.plan.Times.{Times}
use Rattle.line_end.specs.Plan.{TimesFit}
use Rattle.line_end.specs.State.{IsLineState, LineState}
use Rattle.line_order.specs.Acts.{Act, line_after_deed}
use Rattle.line_order.specs.Characters as order
use Rattle.line_order.specs.Characters.Origin.{Framed, Control, Noise}
use Rattle.line_order.specs.Line.{Line, Station, WrittenFrame, new_line, seen_from}
use Rattle.line_way.specs.declared.character.Character.{Character}
use Rattle.line_way.specs.declared.character.FramePlace.{FramePlace}
use Rattle.line_way.specs.declared.character.Source.{Source}
use Rattle.line_way.specs.declared.character.Source.TheVariants as source

-- one direction: the characters on their way to an end, the next one first, and those that the end has gathered of a
-- frame
pub record Way : Type 0 where
  pub under_way : List Character
  pub gathered : List Character

-- both directions, and how many frames both ends have written
pub record Ways : Type 0 where
  pub to_equipment : Way
  pub to_host : Way
  pub written : ℕ

-- a character as the line knows it: what it is now, and where it comes from
abbrev pub origin_of : Source → order.Origin
origin_of (source.Frame at) = Framed at.frame at.place
origin_of source.Control = Control
origin_of source.Noise = Noise

abbrev pub character_of : Character → order.Character
character_of character = record { byte = character.byte; origin = origin_of character.source }

abbrev pub characters_of : List Character → List order.Character
characters_of characters = map character_of characters

abbrev pub bytes_of : List order.Character → List ℕ
bytes_of characters = map (λ (character : order.Character). character.byte) characters

-- nothing follows
abbrev pub is_end : List ℕ → Bool
is_end [] = true
is_end (byte ∷ bytes) = false

-- at its place of the frame this byte was written, and it is told whether that is the last one
pub record IsPlaceIn (bytes : List ℕ) (at : FramePlace) : Type 0 where
  pub rest : List ℕ
  pub stands : drop at.place bytes ≡ at.written ∷ rest
  pub last : at.is_last ≡ is_end rest

-- one of the frames has this number, and that byte at that place
pub record IsInFrame (frames : List WrittenFrame) (at : FramePlace) : Type 0 where
  pub frame : WrittenFrame
  pub is_written : Contains frames frame
  pub number : frame.number ≡ at.frame
  pub place : IsPlaceIn frame.bytes at

-- what is kept of a character's frame is true of a frame that was written
abbrev pub IsFrom : List WrittenFrame → Source → Type 0
IsFrom frames (source.Frame at) = IsInFrame frames at
IsFrom frames source.Control = Unit {0}
IsFrom frames source.Noise = Unit {0}

abbrev pub AreFrom : List WrittenFrame → List Character → Type 0
AreFrom frames [] = Unit {0}
AreFrom frames (character ∷ characters) = IsFrom frames character.source × AreFrom frames characters

-- each frame has a number of its own, below the count of both ends' frames
pub record AreNumbered (frames : List WrittenFrame) (count : ℕ) : Type 0 where
  pub below : (frame : WrittenFrame) → Contains frames frame → frame.number < count
  pub apart :
      (f g : WrittenFrame) → Contains frames f → Contains frames g → f.number ≡ g.number → f ≡ g

-- an end is in a state of the table, and these characters are those that it has gathered
pub record HasGathered (state : LineState) (gathered : List order.Character) : Type 0 where
  pub is_state : IsLineState state
  pub bytes : bytes_of gathered ≡ state.gathered

-- the direction is that of an end with this state, to which these characters are on their way and which has gathered
-- those, from an end that has written these frames
pub record IsWay
    (way : Way) (next last : List order.Character) (frames : List WrittenFrame) (state : LineState) (count : ℕ)
    : Type 0 where
  pub under_way : characters_of way.under_way ≡ next
  pub gathered : characters_of way.gathered ≡ last
  pub under_way_from : AreFrom frames way.under_way
  pub gathered_from : AreFrom frames way.gathered
  pub numbered : AreNumbered frames count
  pub has : HasGathered state last

abbrev pub IsWayOf : Way → Station → Station → ℕ → Type 0
IsWayOf way there here count = IsWay way there.under_way here.gathered there.frames here.state count

-- the two directions are those of the line
pub record StandsFor (ways : Ways) (line : Line) : Type 0 where
  pub to_equipment : IsWayOf ways.to_equipment line.host line.equipment line.written
  pub to_host : IsWayOf ways.to_host line.equipment line.host line.written
  pub count : ways.written ≡ line.written

-- a line on which nothing has happened, whatever its times
abbrev pub StandsForNew : Ways → Type 0
StandsForNew ways =
    (equipment host : Times) → TimesFit equipment → TimesFit host → StandsFor ways (new_line equipment host)

-- whatever line the directions stand for, after the deed they stand for the line after it
abbrev pub DoesDeed : Ways → Side → Act → Ways → Type 0
DoesDeed before side act after =
    (line : Line) → StandsFor before line
    → StandsFor after (line_after_deed line (record { side = side; act = act }))

-- the characters on their way to an end, the next one first
abbrev pub way_to : Side → Line → List order.Character
way_to side line = (seen_from side line).there.under_way

abbrev pub next_byte : List order.Character → Option ℕ
next_byte [] = None
next_byte (character ∷ rest) = Some character.byte

abbrev pub is_under_way : List order.Character → Bool
is_under_way [] = false
is_under_way (character ∷ rest) = true
