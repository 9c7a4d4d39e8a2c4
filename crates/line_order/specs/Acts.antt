-- What can happen on a line, and what it leaves.
use Rattle.std.specs.Prelude.{◌≡◌, zero, suc, ℕ, Bool, true, false, ◌+◌, ◌-◌, List, [], ◌∷◌, ◌++◌, length, map, Option, Some, None, if◌then◌else◌}
use Rattle.block_codec.specs.Block.{BlockView, IsBlock}
use Rattle.gl_base.specs.declared.side.Side.{Side}
use Rattle.gl_base.specs.declared.side.Side.TheVariants.{Equipment, Host}
use Rattle.line_end.specs.declared.event.LineEvent.{LineEvent}
use Rattle.line_end.specs.declared.event.LineEvent.TheVariants.{Nothing, Arrived, Sent, Failed, Refused}
use Rattle.line_end.specs.Runs.{CanCall, taken_by}
use Rattle.line_end.specs.State.{LineState, new_state}
use Rattle.line_end.specs.Step.{LineCall, Outcome, line_step}
use Rattle.line_end.specs.Step.LineCall.{Send, Resume, Cancel, Take, Tick}
use Rattle.line_order.specs.Characters.{Character, writes_frame, noise, written_as}
use Rattle.line_order.specs.Line.{Arrival, Line, Station, View, WrittenFrame, whole_frame, last_of, seen_by, seen_from}

-- what happens at an end: the next character on its way to it is handed to it, or is lost; the one at a place, from 0
-- for the next one, becomes another byte; a character is added in front of them; the layer above makes a call (a tick,
-- or its decision to send, resume or cancel; a character that it gives is noise); the end loses its power
pub data Act : Type 0 where
  Hand : (now : ℕ) → Act
  Lose : Act
  Change : (place byte : ℕ) → Act
  Add : (byte : ℕ) → Act
  Call : (call : LineCall) → Act
  PowerLoss : Act

-- an act at one of the ends
pub record Deed : Type 0 where
  pub side : Side
  pub act : Act

-- the blocks that an end was given, after a call
abbrev pub given_after : LineCall → List BlockView → List BlockView
given_after (Send block now) given = block ∷ given
given_after (Resume now) given = given
given_after Cancel given = given
given_after (Take byte now) given = given
given_after (Tick now) given = given

-- the frames, after a call has written this: a frame is of the block that was given last
abbrev pub frames_after : ℕ → List BlockView → List ℕ → List WrittenFrame → List WrittenFrame
frames_after number given written frames =
    if writes_frame written then record { number = number; place = length given - 1; bytes = written } ∷ frames
    else frames

abbrev pub number_after : ℕ → List ℕ → ℕ
number_after number written = if writes_frame written then number + 1 else number

-- what has arrived in whole frames, after a call has told this of characters that are that frame
abbrev pub arrived_after : ℕ → LineEvent → Option WrittenFrame → List Arrival → List Arrival
arrived_after lost (Arrived block) (Some frame) arrived =
    record { block = block; frame = frame; lost = lost } ∷ arrived
arrived_after lost (Arrived block) None arrived = arrived
arrived_after lost Nothing frame arrived = arrived
arrived_after lost Sent frame arrived = arrived
arrived_after lost Failed frame arrived = arrived
arrived_after lost (Refused cause) frame arrived = arrived

-- the characters that an end has for a frame, with those that a call gives it
abbrev pub received : Station → List Character → List Character
received station taken = station.gathered ++ taken

-- the end here after a call that gives it these characters: what it has gathered are the last of them (SEMI E4,
-- receive)
abbrev pub station_after : View → List Character → LineCall → Outcome → Station
station_after view taken call outcome = record {
  state = outcome.next;
  gathered = last_of (length outcome.next.gathered) (received view.here taken);
  given = given_after call view.here.given;
  frames = frames_after view.written view.here.given outcome.written view.here.frames;
  under_way = view.here.under_way ++ written_as view.written outcome.written;
  arrived =
      arrived_after view.lost outcome.event (whole_frame (received view.here taken) view.there.frames)
      view.here.arrived;
}

-- a call of the end here, one step of its table
abbrev pub called : List Character → LineCall → View → View
called taken call view =
    let outcome = line_step view.here.state call in record {
      here = station_after view taken call outcome;
      there = view.there;
      written = number_after view.written outcome.written;
      lost = view.lost;
    }

-- the other end, with this direction from it
abbrev pub with_way : List Character → View → View
with_way characters view = record view { there = record view.there { under_way = characters } }

-- the next of the characters on their way is handed over
abbrev pub handed : ℕ → List Character → View → View
handed now [] view = view
handed now (character ∷ rest) view = called (character ∷ []) (Take character.byte now) (with_way rest view)

abbrev pub without_first : List Character → List Character
without_first [] = []
without_first (character ∷ rest) = rest

-- another byte at a place; its origin stays
abbrev pub changed : ℕ → ℕ → List Character → List Character
changed place byte [] = []
changed zero byte (character ∷ rest) = record character { byte = byte } ∷ rest
changed (suc place) byte (character ∷ rest) = character ∷ changed place byte rest

-- the end here starts anew, and both directions are empty (this profile)
abbrev pub power_lost : View → View
power_lost view = record {
  here =
      record view.here {
        state = new_state view.here.state.side view.here.state.times;
        gathered = [];
        under_way = [];
      };
  there = record view.there { under_way = [] };
  written = view.written;
  lost = view.written;
}

abbrev pub act_here : Act → View → View
act_here (Hand now) view = handed now view.there.under_way view
act_here Lose view = with_way (without_first view.there.under_way) view
act_here (Change place byte) view = with_way (changed place byte view.there.under_way) view
act_here (Add byte) view = with_way (noise byte ∷ view.there.under_way) view
act_here (Call call) view = called (map noise (taken_by call)) call view
act_here PowerLoss view = power_lost view

-- one deed
abbrev pub line_after_deed : Line → Deed → Line
line_after_deed line deed = seen_by deed.side (act_here deed.act (seen_from deed.side line))

-- what the next of the characters on their way makes the end tell
abbrev pub event_in_hand : ℕ → List Character → LineState → LineEvent
event_in_hand now [] s = Nothing
event_in_hand now (character ∷ rest) s = (line_step s (Take character.byte now)).event

-- what the end tells in an act
abbrev pub event_here : Act → View → LineEvent
event_here (Hand now) view = event_in_hand now view.there.under_way view.here.state
event_here Lose view = Nothing
event_here (Change place byte) view = Nothing
event_here (Add byte) view = Nothing
event_here (Call call) view = (line_step view.here.state call).event
event_here PowerLoss view = Nothing

abbrev pub event_of : Line → Deed → LineEvent
event_of line deed = event_here deed.act (seen_from deed.side line)

-- a block arrives, and its characters are no frame's
abbrev pub is_slip : LineEvent → Option WrittenFrame → Bool
is_slip (Arrived block) None = true
is_slip (Arrived block) (Some frame) = false
is_slip Nothing frame = false
is_slip Sent frame = false
is_slip Failed frame = false
is_slip (Refused cause) frame = false

abbrev pub slips_in_call : List Character → LineCall → View → Bool
slips_in_call taken call view =
    is_slip (line_step view.here.state call).event (whole_frame (received view.here taken) view.there.frames)

abbrev pub slips_in_hand : ℕ → List Character → View → Bool
slips_in_hand now [] view = false
slips_in_hand now (character ∷ rest) view =
    slips_in_call (character ∷ []) (Take character.byte now) (with_way rest view)

-- the act makes a block arrive for which no frame of the other end was taken whole: of each frame a character is
-- missing, changed or out of its place, or another stands among them (this profile)
abbrev pub slips_here : Act → View → Bool
slips_here (Hand now) view = slips_in_hand now view.there.under_way view
slips_here Lose view = false
slips_here (Change place byte) view = false
slips_here (Add byte) view = false
slips_here (Call call) view = slips_in_call (map noise (taken_by call)) call view
slips_here PowerLoss view = false

abbrev pub slips : Line → Deed → Bool
slips line deed = slips_here deed.act (seen_from deed.side line)

-- a block to send is one
abbrev pub GivesBlock : LineCall → Type 0
GivesBlock (Send block now) = IsBlock block
GivesBlock (Resume now) = Unit {0}
GivesBlock Cancel = Unit {0}
GivesBlock (Take byte now) = Unit {0}
GivesBlock (Tick now) = Unit {0}

-- a call is made on its condition
abbrev pub CanAct : LineState → Act → Type 0
CanAct s (Hand now) = Unit {0}
CanAct s Lose = Unit {0}
CanAct s (Change place byte) = Unit {0}
CanAct s (Add byte) = Unit {0}
CanAct s (Call call) = CanCall s call × GivesBlock call
CanAct s PowerLoss = Unit {0}

-- the deed can be done
abbrev pub CanDo : Line → Deed → Type 0
CanDo line deed = CanAct (seen_from deed.side line).here.state deed.act

-- the line after the deeds. Lists of deeds have the newest first
abbrev pub line_after : Line → List Deed → Line
line_after start [] = start
line_after start (deed ∷ before) = line_after_deed (line_after start before) deed

-- each of the deeds could be done
abbrev pub IsRun : Line → List Deed → Type 0
IsRun start [] = Unit {0}
IsRun start (deed ∷ before) = CanDo (line_after start before) deed × IsRun start before

-- none of them was a slip
abbrev pub HasNoSlip : Line → List Deed → Type 0
HasNoSlip start [] = Unit {0}
HasNoSlip start (deed ∷ before) = (slips (line_after start before) deed ≡ false) × HasNoSlip start before

-- an end tells of a block that arrives, in front of those of which it has told before
abbrev pub told_after : LineEvent → List BlockView → List BlockView
told_after (Arrived block) told = block ∷ told
told_after Nothing told = told
told_after Sent told = told
told_after Failed told = told
told_after (Refused cause) told = told

-- what the end at one side has told of, after something was told at another or the same
abbrev pub told_at : Side → Side → LineEvent → List BlockView → List BlockView
told_at Equipment Equipment event told = told_after event told
told_at Host Host event told = told_after event told
told_at Equipment Host event told = told
told_at Host Equipment event told = told

-- the blocks of which the end at a side has told that they arrived, the newest first
abbrev pub blocks_told : Side → Line → List Deed → List BlockView
blocks_told side start [] = []
blocks_told side start (deed ∷ before) =
    told_at side deed.side (event_of (line_after start before) deed) (blocks_told side start before)
