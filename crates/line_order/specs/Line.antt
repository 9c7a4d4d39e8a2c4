-- The two ends of a line, what is under way between them, and what became of it.
use Rattle.std.specs.Prelude.{ℕ, Bool, ◌-◌, ◌==◌, List, [], ◌∷◌, length, drop, Option, Some, None, if◌then◌else◌}
use Rattle.std.specs.List.{find}
use Rattle.block_codec.specs.Block.{BlockView}
use Rattle.gl_base.specs.declared.side.Side.{Side}
use Rattle.gl_base.specs.declared.side.Side.TheVariants.{Equipment, Host}
use Rattle.line_end.specs.declared.plan.Times.{Times}
use Rattle.line_end.specs.State.{LineState, new_state}
use Rattle.line_order.specs.Characters.{Character, are_framed_from}

-- a frame that an end has written: its number among the frames of both ends, from 0; the place of its block among those
-- that the end was given; its bytes
pub record WrittenFrame : Type 0 where
  pub number : ℕ
  pub place : ℕ
  pub bytes : List ℕ

-- a block that has arrived, the frame that it came in, and how many frames had been written at the power loss before
pub record Arrival : Type 0 where
  pub block : BlockView
  pub frame : WrittenFrame
  pub lost : ℕ

-- one end: its state; the characters that it has gathered, with their origins; the blocks given to `send` over all its
-- starts, and the frames that it has written, the newest first; the direction from it to the other end, the next
-- character first; the blocks that have arrived at it, the newest first
pub record Station : Type 0 where
  pub state : LineState
  pub gathered : List Character
  pub given : List BlockView
  pub frames : List WrittenFrame
  pub under_way : List Character
  pub arrived : List Arrival

-- the line: how many frames both ends have written, and how many of them before the last power loss
pub record Line : Type 0 where
  pub equipment : Station
  pub host : Station
  pub written : ℕ
  pub lost : ℕ

-- the line as one end sees it: that end here, the other one there
pub record View : Type 0 where
  pub here : Station
  pub there : Station
  pub written : ℕ
  pub lost : ℕ

abbrev pub seen_from : Side → Line → View
seen_from Equipment line =
    record { here = line.equipment; there = line.host; written = line.written; lost = line.lost }
seen_from Host line =
    record { here = line.host; there = line.equipment; written = line.written; lost = line.lost }

abbrev pub seen_by : Side → View → Line
seen_by Equipment view =
    record { equipment = view.here; host = view.there; written = view.written; lost = view.lost }
seen_by Host view =
    record { equipment = view.there; host = view.here; written = view.written; lost = view.lost }

-- an end at its first start
abbrev pub new_station : Side → Times → Station
new_station side times = record {
  state = new_state side times;
  gathered = [];
  given = [];
  frames = [];
  under_way = [];
  arrived = [];
}

-- a line on which nothing has happened
abbrev pub new_line : Times → Times → Line
new_line equipment host = record {
  equipment = new_station Equipment equipment;
  host = new_station Host host;
  written = 0;
  lost = 0;
}

-- the block at a place, from 0 for the one that was given first
abbrev pub given_at : ℕ → List BlockView → Option BlockView
given_at place [] = None
given_at place (block ∷ before) =
    if place == length before then Some block
    else given_at place before

-- the characters that were given last, so many of them
abbrev pub last_of : ℕ → List Character → List Character
last_of n characters = drop (length characters - n) characters

-- the characters are that frame, whole: each stands at its place as it was written, and no other is there
abbrev pub are_all_of : List Character → WrittenFrame → Bool
are_all_of characters frame = are_framed_from frame.number 0 frame.bytes characters

-- the written frame that these are all the characters of
abbrev pub whole_frame : List Character → List WrittenFrame → Option WrittenFrame
whole_frame characters frames = find (are_all_of characters) frames
