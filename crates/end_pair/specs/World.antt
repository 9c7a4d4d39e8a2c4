-- The world of two ends and the line between them, under a schedule (this profile).
use Rattle.std.specs.Prelude.{zero, suc, ℕ, ◌+◌, ◌==◌, List, [], ◌∷◌, ◌++◌, drop, Option, Some, None, if◌then◌else◌}
use Rattle.disk_base.specs.declared.cut.CutChoice.{CutChoice}
use Rattle.disk_base.specs.declared.cut.CutChoice.TheVariants.{Old}
use Rattle.gl_base.specs.declared.side.Side.{Side}
use Rattle.gl_base.specs.declared.side.Side.TheVariants.{Equipment, Host}
use Rattle.line_schedule.specs.declared.event.Event.{Event}
use Rattle.line_schedule.specs.declared.event.Event.TheVariants as event
use Rattle.line_way.specs.Kept.{direction_to, new_ways, with_change, with_direction, with_noise_to, without_power}
use Rattle.line_way.specs.Ways.{Way, Ways, characters_of, is_under_way, next_byte}
use Rattle.message_end.specs.Core.{Step, Went as WentTo}
use Rattle.message_end.specs.Core.Went.{Goes, Spent}
use Rattle.message_end.specs.Ends.{Input, Machine, Reach, reach_behind, with_cut}
use Rattle.message_end.specs.Ends.Input.{Char, Command, Time}
use Rattle.trace_log.specs.Laws.{log_with}
use Rattle.trace_log.specs.Log.{Entry, Happening}
use Rattle.trace_log.specs.Log.Happening.{Power}
use Rattle.trace_log.specs.declared.commands.HostCommand.{HostCommand}
use Rattle.trace_log.specs.declared.commands.ToolCommand.{ToolCommand}
use Rattle.end_pair.specs.declared.answers.WorldStep.{WorldStep}
use Rattle.end_pair.specs.declared.answers.WorldStep.TheVariants.{Went, Slip, Turns, NumbersSpent, JournalFull, PowerLost, NoMemory}
use Rattle.end_pair.specs.Steps.{Stepped, entries_of, stepped}

-- both ends, both directions of the line between them, the moment in milliseconds, and how many steps the ends have
-- made; which end's power goes in the next event, and at which call of its disk, counted from 1, where any goes; how
-- far each end's disk goes; and what a loss of power leaves of the disk
pub record World (E H : Type 0) : Type 0 where
  pub equipment : E
  pub host : H
  pub ways : Ways
  pub moment : ℕ
  pub steps : ℕ
  pub cut : Option (Side × ℕ)
  pub reach : Reach
  pub host_reach : Reach
  pub choice : CutChoice

-- what some of a run leaves: the world, the entries that were made, the newest first, and how it went
pub record Piece (E H : Type 0) : Type 0 where
  pub world : World E H
  pub entries : List Entry
  pub went : WorldStep

-- nothing is noted
abbrev pub left_at : {E H : Type 0} → World E H → WorldStep → Piece E H
left_at world went = record { world = world; entries = []; went = went }

abbrev pub still : {E H : Type 0} → World E H → Piece E H
still world = left_at world Went

-- some of a run, and more of it where that went on
abbrev pub and_on : {E H : Type 0} → WorldStep → Piece E H → (World E H → Piece E H) → Piece E H
and_on Went piece more =
    let next = more piece.world in
    record { world = next.world; entries = next.entries ++ piece.entries; went = next.went }
and_on Slip piece more = piece
and_on Turns piece more = piece
and_on NumbersSpent piece more = piece
and_on JournalFull piece more = piece
and_on (PowerLost side) piece more = piece
and_on NoMemory piece more = piece

abbrev pub and_more : {E H : Type 0} → Piece E H → (World E H → Piece E H) → Piece E H
and_more piece more = and_on piece.went piece more

-- the most steps of ends that a run makes, and the most characters that one line of a schedule lets settle
abbrev pub most_steps : ℕ
most_steps = 4000000

abbrev pub most_settled : ℕ
most_settled = 65536

-- no step is left
abbrev pub turned_out : {E H : Type 0} → World E H → Piece E H
turned_out world = left_at world Turns

-- the characters on their way to an end are others
abbrev pub with_way : {E H : Type 0} → Side → Way → World E H → World E H
with_way side way world = record world { ways = with_direction side way world.ways }

abbrev pub way_to : {E H : Type 0} → Side → World E H → Way
way_to side world = direction_to side world.ways

-- so many of them are lost
abbrev pub lost : ℕ → Way → Way
lost n way = record way { under_way = drop n way.under_way }

abbrev pub lost_from : {E H : Type 0} → ℕ → Side → World E H → World E H
lost_from n side world = with_way side (lost n (way_to side world)) world

abbrev pub changed_at : {E H : Type 0} → Side → ℕ → ℕ → World E H → World E H
changed_at side place byte world = with_way side (with_change place byte (way_to side world)) world

abbrev pub added_to : {E H : Type 0} → Side → ℕ → World E H → World E H
added_to side byte world = record world { ways = with_noise_to side byte world.ways }

abbrev pub later : {E H : Type 0} → ℕ → World E H → World E H
later ms world = record world { moment = world.moment + ms }

-- ---- the power

-- an end has no power: the line is empty both ways, but frames go on to be numbered, and what the other end has
-- gathered stays with it
abbrev pub darkened : {E H : Type 0} → Side → World E H → World E H
darkened side world = record world { ways = without_power side world.ways }

-- what this end has, of what the equipment and the host have
abbrev pub of_side : {X : Type 0} → Side → (equipment host : X) → X
of_side Equipment equipment host = equipment
of_side Host equipment host = host

abbrev pub EndAt : Side → Type 0 → Type 0 → Type 0
EndAt Equipment E H = E
EndAt Host E H = H

-- the equipment, or the host, where this end is now that one
abbrev pub equipment_with : (E H : Type 0) (side : Side) → EndAt side E H → E → E
equipment_with E H Equipment end equipment = end
equipment_with E H Host end equipment = equipment

abbrev pub host_with : (E H : Type 0) (side : Side) → EndAt side E H → H → H
host_with E H Equipment end host = host
host_with E H Host end host = end

-- its disk goes so far
abbrev pub reach_at : {E H : Type 0} → Side → World E H → Reach
reach_at side world = of_side side world.reach world.host_reach

abbrev pub with_reach : {E H : Type 0} → Side → Reach → World E H → World E H
with_reach side reach world =
    record world { reach = of_side side reach world.reach; host_reach = of_side side world.host_reach reach }

-- its power is to go in the next event, and that of no other
abbrev pub planned : {E H : Type 0} → Side → ℕ → CutChoice → World E H → World E H
planned side call choice world = record world { cut = Some (side, call); choice = choice }

-- it is to go at this call of its disk
abbrev pub armed : {E H : Type 0} → Side → ℕ → World E H → Piece E H
armed side call world =
    still (record (with_reach side (with_cut call (reach_at side world)) world) { cut = None })

module _ {E H : Type 0} (e : Machine E ToolCommand) (h : Machine H HostCommand) where
  -- both ends have started, the equipment first
  abbrev pub at_start : Step E Happening → Step H Happening → Piece E H
  at_start equipment host = record {
    world =
        record {
          equipment = equipment.next;
          host = host.next;
          ways = new_ways;
          moment = 0;
          steps = 0;
          cut = None;
          reach = reach_behind (e.first_use equipment.next);
          host_reach = reach_behind (h.first_use host.next);
          choice = Old;
        };
    entries = log_with 0 Host host.notes (log_with 0 Equipment equipment.notes []);
    went = Went;
  }

  -- a step of the equipment, or of the host, is one of all steps
  abbrev pub with_equipment : World E H → Stepped E → Piece E H
  with_equipment world step = record {
    world =
        record {
          equipment = step.end;
          host = world.host;
          ways = step.ways;
          moment = world.moment;
          steps = world.steps + 1;
          cut = world.cut;
          reach = step.reach;
          host_reach = world.host_reach;
          choice = world.choice;
        };
    entries = step.entries;
    went = step.went;
  }

  abbrev pub with_host : World E H → Stepped H → Piece E H
  with_host world step = record {
    world =
        record {
          equipment = world.equipment;
          host = step.end;
          ways = step.ways;
          moment = world.moment;
          steps = world.steps + 1;
          cut = world.cut;
          reach = world.reach;
          host_reach = step.reach;
          choice = world.choice;
        };
    entries = step.entries;
    went = step.went;
  }

  abbrev pub equipment_makes : Input ToolCommand → World E H → Stepped E
  equipment_makes input world =
      stepped e Equipment world.moment world.reach world.choice input world.equipment world.ways

  abbrev pub equipment_stepped : Input ToolCommand → World E H → Piece E H
  equipment_stepped input world =
      if world.steps == most_steps then turned_out world else with_equipment world (equipment_makes input world)

  abbrev pub host_makes : Input HostCommand → World E H → Stepped H
  host_makes input world =
      stepped h Host world.moment world.host_reach world.choice input world.host world.ways

  abbrev pub host_stepped : Input HostCommand → World E H → Piece E H
  host_stepped input world =
      if world.steps == most_steps then turned_out world else with_host world (host_makes input world)

  -- the character is given to an end
  abbrev pub given_to : Side → ℕ → World E H → Piece E H
  given_to Equipment byte world = equipment_stepped (Char byte) world
  given_to Host byte world = host_stepped (Char byte) world

  -- the next character on its way to it, where there is one
  abbrev pub given_next : Side → Option ℕ → World E H → Piece E H
  given_next side (Some byte) world = given_to side byte world
  given_next side None world = still world

  abbrev pub given : Side → World E H → Piece E H
  given side world = given_next side (next_byte (characters_of (way_to side world).under_way)) world

  -- so many times
  abbrev pub given_times : ℕ → Side → World E H → Piece E H
  given_times zero side world = still world
  given_times (suc n) side world = and_more (given side world) (given_times n side)

  -- one character for the equipment where one is on its way there, otherwise one for the host
  abbrev pub settled : World E H → Piece E H
  settled world =
      if is_under_way (characters_of (way_to Equipment world).under_way) then given Equipment world
      else given Host world

  -- so many times, or until no character is left
  unfoldable pub settled_times : ℕ → World E H → Piece E H
  settled_times zero world = still world
  settled_times (suc n) world = and_more (settled world) (settled_times n)

  -- the equipment looks at the clock first, then the host
  abbrev pub both_stepped : World E H → Piece E H
  both_stepped world = and_more (equipment_stepped Time world) (host_stepped Time)

  -- what a line of a schedule has happen, as long as there is power
  abbrev pub happened : Event → World E H → Piece E H
  happened (event.To side n) world = given_times n side world
  happened (event.Lose side n) world = still (lost_from n side world)
  happened (event.Change side place byte) world = still (changed_at side place byte world)
  happened (event.Add side byte) world = still (added_to side byte world)
  happened event.Settle world = settled_times most_settled world
  happened (event.Wait ms) world = both_stepped (later ms world)
  happened (event.Tool command) world = equipment_stepped (Command command) world
  happened (event.Host command) world = host_stepped (Command command) world
  happened (event.Cut call choice) world = still (planned Equipment call choice world)
  happened (event.HostCut call choice) world = still (planned Host call choice world)

  -- an end has started anew: its disk has made no calls but those of the start, and none is planned
  abbrev pub reach_of : (side : Side) → EndAt side E H → Reach
  reach_of Equipment end = reach_behind (e.anew_use end)
  reach_of Host end = reach_behind (h.anew_use end)

  abbrev pub with_started : (side : Side) → EndAt side E H → World E H → World E H
  with_started side end world =
      record (with_reach side (reach_of side end) world) {
        equipment = equipment_with E H side end world.equipment;
        host = host_with E H side end world.host;
      }

  -- that an end has lost its power is noted, and it starts anew at the same moment with what is left of it, if there
  -- are numbers to start with
  abbrev pub started_anew : (side : Side) → World E H → WentTo (EndAt side E H) Happening → Piece E H
  started_anew side world (Goes step) = record {
    world = with_started side step.next world;
    entries = entries_of side world.moment (Power ∷ step.notes);
    went = Went;
  }
  started_anew side world (Spent step) = record {
    world = world;
    entries = entries_of side world.moment (Power ∷ step.notes);
    went = NumbersSpent;
  }

  abbrev pub restart_of : (side : Side) → World E H → WentTo (EndAt side E H) Happening
  restart_of Equipment world = e.restart world.equipment world.moment
  restart_of Host world = h.restart world.host world.moment

  abbrev pub again : Side → World E H → Piece E H
  again side world = started_anew side (darkened side world) (restart_of side world)

  -- and makes a step
  abbrev pub timed : Side → World E H → Piece E H
  timed Equipment world = equipment_stepped Time world
  timed Host world = host_stepped Time world

  abbrev pub without : Side → World E H → Piece E H
  without side world = and_more (again side world) (timed side)

  -- power that is lost in an event is lost for the rest of it, which isn't carried out; where the disk is asked less
  -- often than planned, it is lost at the event's end
  abbrev pub ended_by : (cut : Option Side) → WorldStep → Piece E H → Piece E H
  ended_by cut (PowerLost side) piece = and_on Went piece (without side)
  ended_by (Some side) Went piece = and_on Went piece (without side)
  ended_by None Went piece = piece
  ended_by cut Slip piece = piece
  ended_by cut Turns piece = piece
  ended_by cut NumbersSpent piece = piece
  ended_by cut JournalFull piece = piece
  ended_by cut NoMemory piece = piece

  -- a cut ends the power in the next event that isn't a cut itself
  abbrev pub met : Event → Option (Side × ℕ) → World E H → Piece E H
  met one None world = let piece = happened one world in ended_by None piece.went piece
  met one (Some (side, call)) world =
      let piece = and_more (armed side call world) (happened one) in ended_by (Some side) piece.went piece

  -- a cut in front of another one, of either end, is replaced by it, and the last one does nothing
  abbrev pub after_event : Event → World E H → Piece E H
  after_event (event.Cut call choice) world = happened (event.Cut call choice) world
  after_event (event.HostCut call choice) world = happened (event.HostCut call choice) world
  after_event one world = met one world.cut world

  -- one event after the other, as long as it goes on
  abbrev pub after_events : List Event → World E H → Piece E H
  after_events [] world = still world
  after_events (event ∷ events) world = and_more (after_event event world) (after_events events)

  -- both ends have started, and each has made its first step
  abbrev pub begun : Step E Happening → Step H Happening → Piece E H
  begun equipment host = and_more (at_start equipment host) both_stepped
