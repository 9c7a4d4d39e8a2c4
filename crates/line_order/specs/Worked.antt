-- Runs of a line that can be followed by hand.
use Rattle.std.specs.Prelude.{◌≡◌, ℕ, true, false, List, [], ◌∷◌, ◌++◌, replicate}
use Rattle.block_codec.specs.Block.{BlockView}
use Rattle.gl_base.specs.declared.side.Side.TheVariants.{Equipment, Host}
use Rattle.line_end.specs.declared.event.LineEvent.TheVariants.{Arrived}
use Rattle.line_end.specs.declared.plan.Times.{Times}
use Rattle.line_end.specs.Plan.{TimesFit}
use Rattle.line_end.specs.Step.LineCall.{Send, Resume, Tick}
use Rattle.line_end.specs.Worked.{are_you_there, its_frame, times_with}
use Rattle.line_order.specs.Acts.{Act, Deed, HasNoSlip, IsRun, event_of, line_after, slips}
use Rattle.line_order.specs.Acts.Act.{Hand, Lose, Change, Add, Call, PowerLoss}
use Rattle.line_order.specs.Line.{Arrival, Line, new_line}

-- half a second, ten seconds, three retries, at both ends
abbrev pub times : Times
times = times_with 3

abbrev pub start : Line
start = new_line times times

abbrev pub at_equipment : Act → Deed
at_equipment act = record { side = Equipment; act = act }

abbrev pub at_host : Act → Deed
at_host act = record { side = Host; act = act }

-- the end is handed so many characters
abbrev pub equipment_takes : ℕ → ℕ → List Deed
equipment_takes n now = replicate n (at_equipment (Hand now))

abbrev pub host_takes : ℕ → ℕ → List Deed
host_takes n now = replicate n (at_host (Hand now))

-- an arrival of the block in the frame with a number, when so many were lost
abbrev pub arrival : ℕ → ℕ → Arrival
arrival number lost = record {
  block = are_you_there;
  frame = record { number = number; place = 0; bytes = its_frame };
  lost = lost;
}

-- the host sends a block. Its ENQ is lost, and it asks again; the frame arrives, but its ACK is lost, and the host asks
-- and sends a second time. From below upwards
abbrev pub retried : List Deed
retried =
    at_host (Hand 20005)
    ∷ equipment_takes 13 20004
    ++ at_host (Hand 20004)
    ∷ at_equipment (Hand 20003)
    ∷ at_host (Call (Tick 20002))
    ∷ at_host Lose
    ∷ equipment_takes 13 10003
    ++ at_host (Hand 10002)
    ∷ at_equipment (Hand 10001)
    ∷ at_host (Call (Tick 10000))
    ∷ at_equipment Lose
    ∷ at_host (Call (Send are_you_there 0))
    ∷ []

-- the block arrives twice, from the same place
pub record ArrivesTwice : Type 0 where
  pub fits : TimesFit times
  pub run : IsRun start retried
  pub slips_are : HasNoSlip start retried
  pub given : (line_after start retried).host.given ≡ are_you_there ∷ []
  pub arrived : (line_after start retried).equipment.arrived ≡ arrival 1 0 ∷ arrival 0 0 ∷ []
  pub under_way : (line_after start retried).host.under_way ≡ []
  pub held : (line_after start retried).host.state ≡ start.host.state

-- both ends ask. The host yields, takes the block, and asks again; when 5 characters of its frame are handed over the
-- equipment loses its power, and the rest of the frame is gone. The host asks once more, and sends to the new start
abbrev pub yielded : List Deed
yielded =
    host_takes 13 3 ++ at_equipment (Hand 2) ∷ at_equipment (Hand 1) ∷ at_host (Hand 1)
    ∷ at_host (Call (Send are_you_there 0)) ∷ at_equipment (Call (Send are_you_there 0)) ∷ []

abbrev pub restarted : List Deed
restarted =
    equipment_takes 13 10011
    ++ at_host (Hand 10010)
    ∷ at_equipment (Hand 10009)
    ∷ at_host (Call (Tick 10008))
    ∷ at_equipment PowerLoss
    ∷ equipment_takes 5 8
    ++ at_host (Hand 7)
    ∷ at_equipment (Hand 6)
    ∷ at_host (Call (Resume 5))
    ∷ at_equipment (Hand 4)
    ∷ yielded

-- each end has the other's block once; frame 1 was under way when power was lost, and frame 2 arrived
pub record OutlivesPowerLoss : Type 0 where
  pub run : IsRun start restarted
  pub slips_are : HasNoSlip start restarted
  pub at_host_are : (line_after start restarted).host.arrived ≡ arrival 0 0 ∷ []
  pub at_equipment_are : (line_after start restarted).equipment.arrived ≡ arrival 2 2 ∷ []
  pub written : (line_after start restarted).written ≡ 3

-- a host's block without W to a device, with a number as its system bytes
abbrev pub block_with : (device : ℕ) (system : ℕ) → List ℕ → BlockView
block_with device system body = record {
  header = record {
    from_equipment = false;
    device = device;
    wait = false;
    stream = 1;
    function = 1;
    last = true;
    number = 1;
    system = system;
  };
  body = body;
}

-- the host has written the frame of a block, and the equipment has granted it
abbrev pub granted : BlockView → List Deed
granted block = at_host (Hand 2) ∷ at_equipment (Hand 1) ∷ at_host (Call (Send block 0)) ∷ []

-- after these deeds a character makes this block arrive, and that is a slip
pub record Slips (block : BlockView) (deeds : List Deed) : Type 0 where
  pub run : IsRun start (at_equipment (Hand 3) ∷ deeds)
  pub before : HasNoSlip start deeds
  pub arrives : event_of (line_after start deeds) (at_equipment (Hand 3)) ≡ Arrived block
  pub slip : slips (line_after start deeds) (at_equipment (Hand 3)) ≡ true

-- 0B 00 00 01 01 80 01 00 00 00 7E 01 01 02: with 0A for 0B the block has no body, and 01 01 is its sum
abbrev pub one_changed : List Deed
one_changed = equipment_takes 12 3 ++ at_equipment (Change 0 10) ∷ granted (block_with 0 126 (1 ∷ []))

-- 0D 0A 00 01 01 80 01 00 00 00 01 01 ..: without the 0D the device's 0A is a length byte
abbrev pub one_lost : List Deed
one_lost = equipment_takes 12 3 ++ at_equipment Lose ∷ granted (block_with 2560 1 (0 ∷ 0 ∷ 132 ∷ []))

-- 0B 00 00 01 01 80 01 00 00 00 01 ..: with 0A in front, the 0B is the first of ten bytes
abbrev pub one_added : List Deed
one_added = equipment_takes 12 3 ++ at_equipment (Add 10) ∷ granted (block_with 0 0 (142 ∷ []))

-- what stands at the places of a block in the 13 characters that were taken instead
abbrev pub after_loss : BlockView
after_loss = record {
  header = record {
    from_equipment = false;
    device = 1;
    wait = false;
    stream = 1;
    function = 128;
    last = false;
    number = 256;
    system = 256;
  };
  body = [];
}

abbrev pub after_addition : BlockView
after_addition = record {
  header = record {
    from_equipment = false;
    device = 2816;
    wait = false;
    stream = 0;
    function = 1;
    last = false;
    number = 384;
    system = 16777216;
  };
  body = [];
}

-- the first character is lost, and an equal one added; it is changed, and changed back
abbrev pub replaced : List Deed
replaced = equipment_takes 12 3 ++ at_equipment (Add 10) ∷ at_equipment Lose ∷ granted are_you_there

abbrev pub changed_back : List Deed
changed_back =
    equipment_takes 13 3 ++ at_equipment (Change 0 10) ∷ at_equipment (Change 0 9) ∷ granted are_you_there

-- one character that is changed, lost or added can make a slip arrive. A block of which a character was replaced by an
-- equal one is a slip too, for that one isn't the frame's; where a character was changed and changed back it is none
pub record SlipsAreFound : Type 0 where
  pub changed : Slips (block_with 0 126 []) one_changed
  pub lost : Slips after_loss one_lost
  pub added : Slips after_addition one_added
  pub replaced_is : Slips are_you_there replaced
  pub back : IsRun start changed_back
  pub no_slip : HasNoSlip start changed_back
  pub arrived : (line_after start changed_back).equipment.arrived ≡ arrival 0 0 ∷ []
