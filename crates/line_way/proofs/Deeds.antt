-- Deeds other than calls.
use Rattle.std.proofs.Common.{ℕ, List, [], refl, ap, ◌∙◌}
use Rattle.gl_base.specs.declared.side.Side.{Side}
use Rattle.gl_base.specs.declared.side.Side.TheVariants.{Equipment, Host}
use Rattle.line_end.specs.State.{LineState, new_state}
use Rattle.line_end.proofs.Kept.{kept-new}
use Rattle.line_order.specs.Acts.{changed, line_after_deed}
use Rattle.line_order.specs.Acts.Act.{Change, PowerLoss}
use Rattle.line_order.specs.Characters as order
use Rattle.line_order.specs.Line.{Line, WrittenFrame}
use Rattle.line_way.specs.Kept.{direction_to, with_change, with_direction, without_power}
use Rattle.line_way.specs.Ways.{IsWay, StandsFor, Way, Ways}
use Rattle.line_way.proofs.Sources.{characters-changed, from-changed}

change-way :
    (place byte : ℕ) (way : Way) (next last : List order.Character) (frames : List WrittenFrame) (state : LineState) (count : ℕ)
    → IsWay way next last frames state count
    → IsWay (with_change place byte way) (changed place byte next) last frames state count
change-way place byte way next last frames state count is = record {
  under_way = characters-changed place byte way.under_way ∙ ap (changed place byte) is.under_way;
  gathered = is.gathered;
  under_way_from = from-changed frames place byte way.under_way is.under_way_from;
  gathered_from = is.gathered_from;
  numbered = is.numbered;
  has = is.has;
}

pub change-stands :
    (side : Side) (place byte : ℕ) (ways : Ways) (line : Line) → StandsFor ways line
    → StandsFor (with_direction side (with_change place byte (direction_to side ways)) ways)
    (line_after_deed line (record { side = side; act = Change place byte }))
change-stands Equipment place byte ways line is = record {
  to_equipment =
      change-way place byte ways.to_equipment line.host.under_way line.equipment.gathered line.host.frames
      line.equipment.state line.written is.to_equipment;
  to_host = is.to_host;
  count = is.count;
}
change-stands Host place byte ways line is = record {
  to_equipment = is.to_equipment;
  to_host =
      change-way place byte ways.to_host line.equipment.under_way line.host.gathered line.equipment.frames line.host.state
      line.written is.to_host;
  count = is.count;
}

-- the direction to an end that starts anew
new-way :
    (side : Side) (way : Way) (next last : List order.Character) (frames : List WrittenFrame) (state : LineState) (count : ℕ)
    → IsWay way next last frames state count
    → IsWay (record { under_way = []; gathered = [] }) [] [] frames (new_state side state.times) count
new-way side way next last frames state count is = record {
  under_way = refl;
  gathered = refl;
  under_way_from = tt;
  gathered_from = tt;
  numbered = is.numbered;
  has = record { is_state = kept-new side state.times is.has.is_state.times; bytes = refl };
}

-- and the one to the other end
empty-way :
    (way : Way) (next last : List order.Character) (frames : List WrittenFrame) (state : LineState) (count : ℕ)
    → IsWay way next last frames state count → IsWay (record way { under_way = [] }) [] last frames state count
empty-way way next last frames state count is = record {
  under_way = refl;
  gathered = is.gathered;
  under_way_from = tt;
  gathered_from = is.gathered_from;
  numbered = is.numbered;
  has = is.has;
}

pub power-stands :
    (side : Side) (ways : Ways) (line : Line) → StandsFor ways line
    → StandsFor (without_power side ways) (line_after_deed line (record { side = side; act = PowerLoss }))
power-stands Equipment ways line is = record {
  to_equipment =
      new-way line.equipment.state.side ways.to_equipment line.host.under_way line.equipment.gathered line.host.frames
      line.equipment.state line.written is.to_equipment;
  to_host =
      empty-way ways.to_host line.equipment.under_way line.host.gathered line.equipment.frames line.host.state line.written
      is.to_host;
  count = is.count;
}
power-stands Host ways line is = record {
  to_equipment =
      empty-way ways.to_equipment line.host.under_way line.equipment.gathered line.host.frames line.equipment.state
      line.written is.to_equipment;
  to_host =
      new-way line.host.state.side ways.to_host line.equipment.under_way line.host.gathered line.equipment.frames
      line.host.state line.written is.to_host;
  count = is.count;
}
