-- What holds of a line at all times.
use Rattle.std.specs.Prelude.{◌≡◌, ◌<◌, ◌≤◌, ℕ, ◌-◌, ◌*◌, List, ◌++◌, length, map, Option, Some}
use Rattle.std.specs.List.{Contains}
use Rattle.block_codec.specs.Block.{BlockView, IsBlock}
use Rattle.block_codec.specs.Frame.{frame_bytes}
use Rattle.line_end.specs.State.{IsLineState}
use Rattle.line_order.specs.Characters.{Character}
use Rattle.line_order.specs.Laws.{ComesInOrder}
use Rattle.line_order.specs.Line.{Arrival, Station, View, WrittenFrame, given_at}
use Rattle.line_order.proofs.Flows.{Flows}

abbrev pub bytes_of : List Character → List ℕ
bytes_of characters = map (λ (character : Character). character.byte) characters

-- a written frame is that of a block that was given
pub record IsOwnFrame (given : List BlockView) (written : ℕ) (frame : WrittenFrame) : Type 0 where
  pub below : frame.number < written
  pub block : BlockView
  pub in_block : IsBlock block
  pub at : given_at frame.place given ≡ Some block
  pub framed : frame.bytes ≡ frame_bytes block

-- the held block is the one that was given last
pub record IsHeldBlock (given : List BlockView) (block : BlockView) : Type 0 where
  pub in_block : IsBlock block
  pub last : given_at (length given - 1) given ≡ Some block

-- an end writes frames of its blocks alone, and of none that was given before the block of an earlier frame
pub record IsSending (held : Option BlockView) (given : List BlockView) (frames : List WrittenFrame) (written : ℕ) : Type 0 where
  pub last : (block : BlockView) → held ≡ Some block → IsHeldBlock given block
  pub own : (f : WrittenFrame) → Contains frames f → IsOwnFrame given written f
  pub rises : (f g : WrittenFrame) → Contains frames f → Contains frames g → f.number < g.number → f.place ≤ g.place

-- what was gathered and what is under way is later than all that has arrived, and in the order of writing
pub record IsFlowing (gathered way : List Character) (arrived : List Arrival) (written lost : ℕ) : Type 0 where
  pub low : ℕ
  pub mid : ℕ
  pub before : (a : Arrival) → Contains arrived a → 300 * a.frame.number < low
  pub front : Flows gathered low mid
  pub back : Flows way mid (300 * written)
  pub since : 300 * lost ≤ mid

-- what has arrived came in frames of the other end, in order
pub record IsHearing (frames : List WrittenFrame) (given : List BlockView) (arrived : List Arrival) : Type 0 where
  pub own : (a : Arrival) → Contains arrived a → Contains frames a.frame
  pub in_order : ComesInOrder given arrived

-- one direction
pub record IsDirection (sender receiver : Station) (way : List Character) (written lost : ℕ) : Type 0 where
  pub sending : IsSending sender.state.held sender.given sender.frames written
  pub flowing : IsFlowing receiver.gathered way receiver.arrived written lost
  pub hearing : IsHearing sender.frames sender.given receiver.arrived

-- an end has gathered these characters
pub record IsTaking (station : Station) : Type 0 where
  pub is_state : IsLineState station.state
  pub bytes : bytes_of station.gathered ≡ station.state.gathered

-- both directions and both ends; some characters have left the line and are about to be taken by the end here
pub record IsSound (taken : List Character) (view : View) : Type 0 where
  pub out : IsDirection view.here view.there view.here.under_way view.written view.lost
  pub back : IsDirection view.there view.here (taken ++ view.there.under_way) view.written view.lost
  pub here_takes : IsTaking view.here
  pub there_takes : IsTaking view.there
