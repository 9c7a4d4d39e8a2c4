-- The log of a run as that of moves; and how many steps a run makes.
use Rattle.std.proofs.Common.{◌≡◌, ◌⊎◌, ◌≤◌, zero, suc, ℕ, ◌+◌, ◌==◌, Bool, true, false, List, [], ◌∷◌, ◌++◌, inl, inr, Option, Some, None, if◌then◌else◌, refl, sym, ap, ◌∙◌, append-nil, arith}
use Rattle.std.specs.List.{All}
use Rattle.std.proofs.lemmas.Bool.Decides.{nat_tests}
use Rattle.gl_base.specs.declared.side.Side.{Side}
use Rattle.gl_base.specs.declared.side.Side.TheVariants.{Equipment, Host}
use Rattle.line_schedule.specs.declared.event.Event.{Event}
use Rattle.line_schedule.specs.declared.event.Event.TheVariants as event
use Rattle.line_way.specs.Ways.{characters_of, is_under_way, next_byte}
use Rattle.message_end.specs.Core.{Step, Went}
use Rattle.message_end.specs.Core.Went.{Goes, Spent}
use Rattle.message_end.specs.Doings.{Doing}
use Rattle.message_end.specs.Ends.{Input, KeepsLaw, Machine}
use Rattle.message_end.specs.Ends.Input.{Char, Command, Time}
use Rattle.message_end.specs.Log.{log_of}
use Rattle.message_end.specs.Moves.{LinePlans, plan_at}
use Rattle.trace_log.specs.Log.{Entry, Happening}
use Rattle.trace_log.specs.Log.Entry.{Ended}
use Rattle.trace_log.specs.declared.commands.HostCommand.{HostCommand}
use Rattle.trace_log.specs.declared.commands.ToolCommand.{ToolCommand}
use Rattle.end_pair.specs.declared.answers.WorldStep.{WorldStep}
use Rattle.end_pair.specs.declared.answers.WorldStep.TheVariants as answer
use Rattle.end_pair.specs.Kept.{MayHappen}
use Rattle.end_pair.specs.Laws.{HasBytes, HasNoReach, IsOfMoves, RunsAreBounded}
use Rattle.end_pair.specs.Run.{closing, piece_of, whole_log}
use Rattle.end_pair.specs.Run as run
use Rattle.end_pair.specs.World.{EndAt, Piece, World, after_event, after_events, again, and_more, and_on, armed, at_start, begun, both_stepped, darkened, ended_by, equipment_makes, equipment_stepped, given, given_next, given_times, happened, host_makes, host_stepped, later, met, most_steps, restart_of, settled, settled_times, started_anew, still, timed, turned_out, way_to, with_equipment, with_host, without}
use Rattle.end_pair.proofs.Causes.{no-call}
use Rattle.end_pair.proofs.HeldSteps.{Good, same_moves}
use Rattle.end_pair.proofs.Holding.{run-is}

-- ---- the whole log

pub log-is :
    {S T : Type 0} (did_e : ℕ → List Doing → S → Type 0) (did_h : ℕ → List Doing → T → Type 0)
    (tool : ToolCommand → Type 0) (user : HostCommand → Type 0) (loses host_loses : Type 0) (first_e : Step S Happening)
    (first_h : Step T Happening)
    (e : Machine S ToolCommand) (h : Machine T HostCommand) (plans : LinePlans)
    (law_e : KeepsLaw (plan_at Equipment plans) did_e tool (Goes first_e) e)
    (law_h : KeepsLaw (plan_at Host plans) did_h user (Goes first_h) h)
    → (events : List Event) → All (MayHappen tool user loses host_loses) events → All HasBytes events
    → IsOfMoves did_e did_h plans (run.log_of e h first_e first_h events)
log-is {S} {T} did_e did_h tool user loses host_loses first_e first_h e h plans law_e law_h events may bytes =
    go piece.went refl
  where
    piece : Piece S T
    piece = piece_of e h first_e first_h events

    good : Good did_e did_h tool user first_e first_h e h plans law_e law_h piece []
    good = run-is did_e did_h tool user loses host_loses first_e first_h e h plans law_e law_h events may bytes

    of : IsOfMoves did_e did_h plans piece.entries
    of =
        same_moves did_e did_h tool user first_e first_h e h plans law_e law_h (piece.entries ++ []) piece.entries
        (sym (append-nil piece.entries)) good.of

    some : piece.entries ≡ whole_log piece → IsOfMoves did_e did_h plans (whole_log piece)
    some is =
        same_moves did_e did_h tool user first_e first_h e h plans law_e law_h piece.entries (whole_log piece)
        (sym is) of

    same : (how : WorldStep) → piece.went ≡ how → closing how piece.world.moment ≡ [] → piece.entries ≡ whole_log piece
    same how is none =
        sym (ap (λ (w : WorldStep). closing w piece.world.moment ++ piece.entries) is
        ∙ ap (λ (es : List Entry). es ++ piece.entries) none)

    go : (went : WorldStep) → piece.went ≡ went → IsOfMoves did_e did_h plans (whole_log piece)
    go answer.Went is = record {
      moves = of.moves;
      keep = of.keep;
      timely = of.timely;
      no_slip = of.no_slip;
      steps = of.steps;
      at_most_one = omega arith;
      last = Ended piece.world.moment ∷ [];
      no_notes = (tt, tt);
      is =
          ap (λ (w : WorldStep). closing w piece.world.moment ++ piece.entries) is
          ∙ ap (λ (es : List Entry). Ended piece.world.moment ∷ es)
          (of.is ∙ ap (λ (es : List Entry). es ++ log_of of.moves) (good.on is).0);
    }
    go answer.Slip is = some (same answer.Slip is refl)
    go answer.Turns is = some (same answer.Turns is refl)
    go answer.NumbersSpent is = some (same answer.NumbersSpent is refl)
    go answer.JournalFull is = some (same answer.JournalFull is refl)
    go (answer.PowerLost whose) is = some (same (answer.PowerLost whose) is refl)
    go answer.NoMemory is = some (same answer.NoMemory is refl)

-- ---- how many steps it makes

pub record IsBounded {S T : Type 0} (piece : Piece S T) : Type 0 where
  pub steps : piece.world.steps ≤ 4000000
  pub turns : piece.went ≡ answer.Turns → (piece.world.steps ≡ 4000000) ⊎ HasNoReach piece.world

module _ {S T : Type 0} (e : Machine S ToolCommand) (h : Machine T HostCommand) where
  abbrev Bounds : (World S T → Piece S T) → Type 0
  Bounds more = (world : World S T) → world.steps ≤ 4000000 → IsBounded (more world)

  still-bounds : Bounds still
  still-bounds world few = record { steps = few; turns = λ is. cc }

  bounded-then : (piece : Piece S T) (more : World S T → Piece S T) → IsBounded piece → Bounds more
      → IsBounded (and_more piece more)
  bounded-then piece more is bounds = go piece.went
    where
      go : (went : WorldStep) → IsBounded (and_on went piece more)
      go answer.Went = let next = bounds piece.world is.steps in record { steps = next.steps; turns = next.turns }
      go answer.Slip = is
      go answer.Turns = is
      go answer.NumbersSpent = is
      go answer.JournalFull = is
      go (answer.PowerLost whose) = is
      go answer.NoMemory = is

  bounds-then : (first more : World S T → Piece S T) → Bounds first → Bounds more
      → Bounds (λ world. and_more (first world) more)
  bounds-then first more one two world few = bounded-then (first world) more (one world few) two

  -- a step of either end is one of all steps, and is made where one is left
  turn-bounds :
      (world : World S T) (piece : Piece S T) → world.steps ≤ 4000000 → piece.world.steps ≡ world.steps + 1
      → (piece.went ≡ answer.Turns → HasNoReach piece.world)
      → IsBounded (if world.steps == most_steps then turned_out world else piece)
  turn-bounds world piece few counts full = go (world.steps == most_steps) refl
    where
      go : (b : Bool) → (world.steps == most_steps) ≡ b → IsBounded (if b then turned_out world else piece)
      go true is =
          let all : world.steps ≡ 4000000 = grind (arith, nat_tests) in
          record { steps = few; turns = λ turns. inl all }
      go false is =
          let fits : world.steps + 1 ≤ 4000000 = grind (arith, nat_tests) in
          record { steps = omega (arith, fits, counts); turns = λ turns. inr (full turns) }

  equipment-bounds : (input : Input ToolCommand) → Bounds (equipment_stepped e h input)
  equipment-bounds input world few =
      turn-bounds world (with_equipment e h world (equipment_makes e h input world)) few refl
      (λ crowded.
      inl (no-call e Equipment world.moment world.reach world.choice input world.equipment world.ways crowded))

  host-bounds : (input : Input HostCommand) → Bounds (host_stepped e h input)
  host-bounds input world few =
      turn-bounds world (with_host e h world (host_makes e h input world)) few refl
      (λ crowded.
      inr (no-call h Host world.moment world.host_reach world.choice input world.host world.ways crowded))

  given-bounds : (side : Side) → Bounds (given e h side)
  given-bounds side world few = go side (next_byte (characters_of (way_to side world).under_way))
    where
      go : (side : Side) (next : Option ℕ) → IsBounded (given_next e h side next world)
      go side None = still-bounds world few
      go Equipment (Some byte) = equipment-bounds (Char byte) world few
      go Host (Some byte) = host-bounds (Char byte) world few

  times-bounds : (n : ℕ) (side : Side) → Bounds (given_times e h n side)
  times-bounds zero side = still-bounds
  times-bounds (suc n) side = bounds-then (given e h side) (given_times e h n side) (given-bounds side)
      (times-bounds n side)

  settled-bounds : Bounds (settled e h)
  settled-bounds world few = go (is_under_way (characters_of (way_to Equipment world).under_way))
    where
      go : (b : Bool) → IsBounded (if b then given e h Equipment world else given e h Host world)
      go true = given-bounds Equipment world few
      go false = given-bounds Host world few

  settles-bounds : (n : ℕ) → Bounds (settled_times e h n)
  unfolding settled_times
  settles-bounds zero = still-bounds
  settles-bounds (suc n) = bounds-then (settled e h) (settled_times e h n) settled-bounds (settles-bounds n)

  both-bounds : Bounds (both_stepped e h)
  both-bounds = bounds-then (equipment_stepped e h Time) (host_stepped e h Time) (equipment-bounds Time)
      (host-bounds Time)

  happens-bounds : (event : Event) → Bounds (happened e h event)
  happens-bounds (event.To side n) = times-bounds n side
  happens-bounds (event.Lose side n) = λ world few. record { steps = few; turns = λ is. cc }
  happens-bounds (event.Change side place byte) = λ world few. record { steps = few; turns = λ is. cc }
  happens-bounds (event.Add side byte) = λ world few. record { steps = few; turns = λ is. cc }
  happens-bounds event.Settle = settles-bounds 65536
  happens-bounds (event.Wait ms) = λ world few. both-bounds (later ms world) few
  happens-bounds (event.Tool command) = equipment-bounds (Command command)
  happens-bounds (event.Host command) = host-bounds (Command command)
  happens-bounds (event.Cut call choice) = λ world few. record { steps = few; turns = λ is. cc }
  happens-bounds (event.HostCut call choice) = λ world few. record { steps = few; turns = λ is. cc }

  -- a start anew is no step
  started-bounds : (side : Side) (world : World S T) → world.steps ≤ 4000000 → (went : Went (EndAt side S T) Happening)
      → IsBounded (started_anew e h side world went)
  started-bounds side world few (Goes step) = record { steps = few; turns = λ is. cc }
  started-bounds side world few (Spent step) = record { steps = few; turns = λ is. cc }

  timed-bounds : (side : Side) → Bounds (timed e h side)
  timed-bounds Equipment = equipment-bounds Time
  timed-bounds Host = host-bounds Time

  without-bounds : (side : Side) → Bounds (without e h side)
  without-bounds side world few =
      bounded-then (again e h side world) (timed e h side)
      (started-bounds side (darkened side world) few (restart_of e h side world)) (timed-bounds side)

  ended-bounds : (cut : Option Side) (piece : Piece S T) → IsBounded piece
      → IsBounded (ended_by e h cut piece.went piece)
  ended-bounds cut piece is = go cut piece.went
    where
      again_is : (side : Side) → IsBounded (and_on answer.Went piece (without e h side))
      again_is side =
          let next = without-bounds side piece.world is.steps in record { steps = next.steps; turns = next.turns }

      go : (cut : Option Side) (went : WorldStep) → IsBounded (ended_by e h cut went piece)
      go cut (answer.PowerLost whose) = again_is whose
      go (Some side) answer.Went = again_is side
      go None answer.Went = is
      go cut answer.Slip = is
      go cut answer.Turns = is
      go cut answer.NumbersSpent = is
      go cut answer.JournalFull = is
      go cut answer.NoMemory = is

  met-bounds : (event : Event) (cut : Option (Side × ℕ)) → Bounds (met e h event cut)
  met-bounds event None world few = ended-bounds None (happened e h event world) (happens-bounds event world few)
  met-bounds event (Some (side, call)) world few =
      ended-bounds (Some side) (and_more (armed side call world) (happened e h event))
      (bounded-then (armed side call world) (happened e h event) (record { steps = few; turns = λ is. cc })
      (happens-bounds event))

  event-bounds : (event : Event) → Bounds (after_event e h event)
  event-bounds (event.To side n) = λ world. met-bounds (event.To side n) world.cut world
  event-bounds (event.Lose side n) = λ world. met-bounds (event.Lose side n) world.cut world
  event-bounds (event.Change side place byte) = λ world. met-bounds (event.Change side place byte) world.cut world
  event-bounds (event.Add side byte) = λ world. met-bounds (event.Add side byte) world.cut world
  event-bounds event.Settle = λ world. met-bounds event.Settle world.cut world
  event-bounds (event.Wait ms) = λ world. met-bounds (event.Wait ms) world.cut world
  event-bounds (event.Tool command) = λ world. met-bounds (event.Tool command) world.cut world
  event-bounds (event.Host command) = λ world. met-bounds (event.Host command) world.cut world
  event-bounds (event.Cut call choice) = happens-bounds (event.Cut call choice)
  event-bounds (event.HostCut call choice) = happens-bounds (event.HostCut call choice)

  events-bounds : (events : List Event) → Bounds (after_events e h events)
  events-bounds [] = still-bounds
  events-bounds (event ∷ events) = bounds-then (after_event e h event) (after_events e h events) (event-bounds event)
      (events-bounds events)

  run-bounds : (first_e : Step S Happening) (first_h : Step T Happening) (events : List Event)
      → IsBounded (piece_of e h first_e first_h events)
  run-bounds first_e first_h events =
      bounded-then (begun e h first_e first_h) (after_events e h events)
      (bounded-then (at_start e h first_e first_h) (both_stepped e h) (record { steps = omega arith; turns = λ is. cc })
      both-bounds)
      (events-bounds events)

pub runs-bounded : (S T : Type 0) → RunsAreBounded S T
runs-bounded S T e h equipment host events =
    let is = run-bounds e h equipment host events in (is.steps, is.turns)
