-- No event leaves an end without power.
use Rattle.std.proofs.Common.{◌≡◌, ℕ, ◌==◌, Bool, true, false, List, [], ◌∷◌, Option, Some, None, if◌then◌else◌, refl, ap, ◌∙◌}
use Rattle.disk_base.specs.declared.cut.CutChoice.{CutChoice}
use Rattle.gl_base.specs.declared.side.Side.{Side}
use Rattle.gl_base.specs.declared.side.Side.TheVariants.{Equipment, Host}
use Rattle.line_schedule.specs.declared.event.Event.{Event}
use Rattle.line_schedule.specs.declared.event.Event.TheVariants as event
use Rattle.line_way.specs.Ways.{Ways}
use Rattle.message_end.specs.Core.{Step, Went}
use Rattle.message_end.specs.Core.Went.{Goes, Spent}
use Rattle.message_end.specs.Ends.{Input, Machine, Reach}
use Rattle.message_end.proofs.Passing.{never-cut}
use Rattle.message_end.specs.Ends.Input.{Time}
use Rattle.trace_log.specs.Log.{Happening}
use Rattle.trace_log.specs.declared.commands.HostCommand.{HostCommand}
use Rattle.trace_log.specs.declared.commands.ToolCommand.{ToolCommand}
use Rattle.end_pair.specs.declared.answers.WorldStep.{WorldStep}
use Rattle.end_pair.specs.declared.answers.WorldStep.TheVariants as answer
use Rattle.end_pair.specs.Run.{piece_of}
use Rattle.end_pair.specs.Steps.{stepped}
use Rattle.end_pair.specs.World.{EndAt, Piece, World, after_event, after_events, and_more, and_on, armed, at_start, begun, both_stepped, darkened, ended_by, equipment_makes, equipment_stepped, happened, host_makes, host_stepped, met, most_steps, restart_of, started_anew, timed, turned_out, with_equipment, with_host, reach_at, without}
use Rattle.end_pair.proofs.Causes.{by-cause}

-- where no power is to go none is lost
pub unplanned :
    {S C : Type 0} (machine : Machine S C) (side : Side) (now : ℕ) (reach : Reach) (choice : CutChoice)
    (input : Input C) (s : S) (ways : Ways) → reach.cut ≡ 0 → (whose : Side)
    → (stepped machine side now reach choice input s ways).went ≡ answer.PowerLost whose → ⊥
unplanned machine side now reach choice input s ways none whose is =
    let causes = by-cause machine side now reach choice input s ways in
    let same : answer.PowerLost whose ≡ answer.PowerLost side = ap answer.PowerLost (causes.no_other_end whose is) in
    let cut = causes.lost.0 (is ∙ same) in
    never-cut reach (machine.losses s input now) none cut.1.0 cut.1.1

abbrev pub IsPoweredPiece : {E H : Type 0} → Piece E H → Type 0
IsPoweredPiece piece = (whose : Side) → piece.went ≡ answer.PowerLost whose → ⊥

powered-then :
    {E H : Type 0} (piece : Piece E H) (rest : World E H → Piece E H) → IsPoweredPiece piece
    → IsPoweredPiece (rest piece.world) → IsPoweredPiece (and_more piece rest)
powered-then piece rest one two = go piece.went refl
  where
    go : (went : WorldStep) → piece.went ≡ went → IsPoweredPiece (and_on went piece rest)
    go answer.Went is = two
    go answer.Slip is = one
    go answer.Turns is = one
    go answer.NumbersSpent is = one
    go answer.JournalFull is = one
    go (answer.PowerLost whose) is = one
    go answer.NoMemory is = one

module _ {E H : Type 0} (e : Machine E ToolCommand) (h : Machine H HostCommand) where
  -- a step of an end whose power isn't to go
  turn-powered : (world : World E H) (piece : Piece E H) (b : Bool) → IsPoweredPiece piece
      → IsPoweredPiece (if b then turned_out world else piece)
  turn-powered world piece true powered whose is = absurd (cc)
  turn-powered world piece false powered whose is = powered whose is

  step-powered : (input : Input ToolCommand) (world : World E H) → world.reach.cut ≡ 0
      → IsPoweredPiece (equipment_stepped e h input world)
  step-powered input world none =
      turn-powered world (with_equipment e h world (equipment_makes e h input world)) (world.steps == most_steps)
      (λ whose is.
      unplanned e Equipment world.moment world.reach world.choice input world.equipment world.ways none whose is)

  host-powered : (input : Input HostCommand) (world : World E H) → world.host_reach.cut ≡ 0
      → IsPoweredPiece (host_stepped e h input world)
  host-powered input world none =
      turn-powered world (with_host e h world (host_makes e h input world)) (world.steps == most_steps)
      (λ whose is.
      unplanned h Host world.moment world.host_reach world.choice input world.host world.ways none whose is)

  timed-powered : (side : Side) (world : World E H) → (reach_at side world).cut ≡ 0
      → IsPoweredPiece (timed e h side world)
  timed-powered Equipment world none = step-powered Time world none
  timed-powered Host world none = host-powered Time world none

  pub without-powered : (side : Side) (world : World E H) → IsPoweredPiece (without e h side world)
  without-powered side world = go side (restart_of e h side world)
    where
      go : (side : Side) (went : Went (EndAt side E H) Happening)
          → IsPoweredPiece (and_more (started_anew e h side (darkened side world) went) (timed e h side))
      go Equipment (Goes step) =
          timed-powered Equipment (started_anew e h Equipment (darkened Equipment world) (Goes step)).world refl
      go Host (Goes step) = timed-powered Host (started_anew e h Host (darkened Host world) (Goes step)).world refl
      go side (Spent step) = λ whose is. absurd (cc)

  ended-powered : (cut : Option Side) (piece : Piece E H) → IsPoweredPiece (ended_by e h cut piece.went piece)
  ended-powered cut piece = go cut piece.went refl
    where
      go : (cut : Option Side) (went : WorldStep) → piece.went ≡ went → IsPoweredPiece (ended_by e h cut went piece)
      go cut (answer.PowerLost side) is = without-powered side piece.world
      go (Some side) answer.Went is = without-powered side piece.world
      go None answer.Went is = λ whose dark. absurd (cc)
      go cut answer.Slip is = λ whose dark. absurd (cc)
      go cut answer.Turns is = λ whose dark. absurd (cc)
      go cut answer.NumbersSpent is = λ whose dark. absurd (cc)
      go cut answer.JournalFull is = λ whose dark. absurd (cc)
      go cut answer.NoMemory is = λ whose dark. absurd (cc)

  met-powered : (event : Event) (cut : Option (Side × ℕ)) (world : World E H) → IsPoweredPiece (met e h event cut world)
  met-powered event None world = ended-powered None (happened e h event world)
  met-powered event (Some (side, call)) world =
      ended-powered (Some side) (and_more (armed side call world) (happened e h event))

  pub event-powered : (event : Event) (world : World E H) → IsPoweredPiece (after_event e h event world)
  event-powered (event.To side n) world = met-powered (event.To side n) world.cut world
  event-powered (event.Lose side n) world = met-powered (event.Lose side n) world.cut world
  event-powered (event.Change side place byte) world = met-powered (event.Change side place byte) world.cut world
  event-powered (event.Add side byte) world = met-powered (event.Add side byte) world.cut world
  event-powered event.Settle world = met-powered event.Settle world.cut world
  event-powered (event.Wait ms) world = met-powered (event.Wait ms) world.cut world
  event-powered (event.Tool command) world = met-powered (event.Tool command) world.cut world
  event-powered (event.Host command) world = met-powered (event.Host command) world.cut world
  event-powered (event.Cut call choice) world = λ whose is. cc
  event-powered (event.HostCut call choice) world = λ whose is. cc

  events-powered : (events : List Event) (world : World E H) → IsPoweredPiece (after_events e h events world)
  events-powered [] world = λ whose is. cc
  events-powered (event ∷ events) world =
      powered-then (after_event e h event world) (after_events e h events) (event-powered event world)
      (events-powered events (after_event e h event world).world)

  -- a step of the equipment plans no loss of the host's power
  stays-uncut : (input : Input ToolCommand) (world : World E H)
      → (equipment_stepped e h input world).world.host_reach ≡ world.host_reach
  stays-uncut input world = go (world.steps == most_steps)
    where
      go : (b : Bool)
          → (if b then turned_out world
          else with_equipment e h world (equipment_makes e h input world)).world.host_reach
          ≡ world.host_reach
      go true = refl
      go false = refl

  pub first-powered : (equipment : Step E Happening) (host : Step H Happening)
      → IsPoweredPiece (both_stepped e h (at_start e h equipment host).world)
  first-powered equipment host =
      let world = (at_start e h equipment host).world in
      powered-then (equipment_stepped e h Time world) (host_stepped e h Time) (step-powered Time world refl)
      (host-powered Time (equipment_stepped e h Time world).world
      (ap (λ (reach : Reach). reach.cut) (stays-uncut Time world)))

  pub run-powered : (equipment : Step E Happening) (host : Step H Happening) (events : List Event)
      → IsPoweredPiece (piece_of e h equipment host events)
  run-powered equipment host events =
      powered-then (begun e h equipment host) (after_events e h events)
      (powered-then (at_start e h equipment host) (both_stepped e h) (λ whose is. cc) (first-powered equipment host))
      (events-powered events (begun e h equipment host).world)
