-- What each block of a capture is: it is received in its direction, behind all blocks of that direction before it.
use Rattle.std.specs.Prelude.{◌≡◌, Bool, true, false, List, [], ◌∷◌, ◌++◌, filter, map, None, if◌then◌else◌}
use Rattle.std.specs.Bool.{beq}
use Rattle.block_codec.specs.Block.{BlockView}
use Rattle.block_codec.specs.Protocol.{longest_text}
use Rattle.gl_base.specs.declared.side.Side.TheVariants.{Equipment, Host}
use Rattle.message_flow.specs.declared.flow.Flow.{Flow}
use Rattle.message_flow.specs.Entries.{FlowEntry, StandsFor}
use Rattle.message_flow.specs.Entries.FlowEntry.{Given}
use Rattle.message_flow.specs.History.{flow_at}
use Rattle.message_flow.specs.Receiver.{Receiver}
use Rattle.line_show.specs.Capture.{Piece}
use Rattle.line_show.specs.Capture.Piece.{Character, Framed}
use Rattle.line_show.specs.declared.receivers.Receivers.{Receivers}

-- who receives what goes from the equipment, or from the host: of every device, with the longest texts. T4 never runs
-- out: a capture has no clock, and each of its blocks comes at moment 0 (this profile)
abbrev pub receiver_in : Bool → Receiver
receiver_in from_equipment = record {
  side = if from_equipment then Host else Equipment;
  device = None;
  t4 = 120000;
  max_body = longest_text;
}

-- whether a block's R bit is this
abbrev pub has_r_bit : Bool → BlockView → Bool
has_r_bit from_equipment block = beq block.header.from_equipment from_equipment

-- the blocks of a direction, in their order
abbrev pub entries_in : Bool → List BlockView → List FlowEntry
entries_in from_equipment before = map (λ block. Given block 0) (filter (has_r_bit from_equipment) before)

-- what a block is behind these (SEMI E4, receive)
abbrev pub flow_in : List BlockView → BlockView → Flow
flow_in before block =
    flow_at (receiver_in block.header.from_equipment) (entries_in block.header.from_equipment before) block

-- the blocks so far, with those of one piece more
abbrev pub with_piece : List BlockView → Piece → List BlockView
with_piece before (Character byte) = before
with_piece before (Framed block) = before ++ block ∷ []

-- the two receivers have met these blocks
pub record HaveMet (receivers : Receivers) (before : List BlockView) : Type 0 where
  pub host : receivers.host.receiver ≡ receiver_in true
  pub host_met : StandsFor receivers.host (entries_in true before)
  pub equipment : receivers.equipment.receiver ≡ receiver_in false
  pub equipment_met : StandsFor receivers.equipment (entries_in false before)
