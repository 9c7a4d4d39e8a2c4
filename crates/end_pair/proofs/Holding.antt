-- What both ends have done, as moves, at each event and in the whole run.
use Rattle.std.specs.List.{All}
use Rattle.std.proofs.Common.{◌≡◌, ◌<◌, ◌≤◌, zero, suc, ℕ, Bool, true, false, List, [], ◌∷◌, ◌++◌, length, Option, Some, None, if◌then◌else◌, refl, sym, ap, subst, ◌∙◌, append_assoc, append-nil, arith}
use Rattle.disk_base.specs.declared.cut.CutChoice.{CutChoice}
use Rattle.gl_base.specs.declared.side.Side.{Side}
use Rattle.gl_base.specs.declared.side.Side.TheVariants.{Equipment, Host}
use Rattle.line_order.specs.Line.{Line, seen_from}
use Rattle.line_order.specs.Characters as order
use Rattle.line_schedule.specs.declared.event.Event.{Event}
use Rattle.line_schedule.specs.declared.event.Event.TheVariants as event
use Rattle.line_way.specs.declared.character.Character.{Character}
use Rattle.line_way.specs.Kept.{direction_to}
use Rattle.line_way.specs.Ways.{Ways, characters_of, is_under_way, next_byte}
use Rattle.message_end.specs.Core.{Step, Went}
use Rattle.message_end.specs.Core.Went.{Goes}
use Rattle.message_end.specs.Doings.{Doing}
use Rattle.message_end.specs.Ends.{Input, KeepsLaw, Machine, MayTake}
use Rattle.message_end.specs.Ends.Input.{Char, Command, Time}
use Rattle.message_end.specs.Log.{log_of}
use Rattle.message_end.specs.Moves.{IsNextByte, LinePlans, Move, line_of_moves, plan_at, seen_at}
use Rattle.trace_log.specs.Log.{Entry, Happening}
use Rattle.trace_log.specs.declared.commands.HostCommand.{HostCommand}
use Rattle.trace_log.specs.declared.commands.ToolCommand.{ToolCommand}
use Rattle.end_pair.specs.declared.answers.WorldStep.{WorldStep}
use Rattle.end_pair.specs.declared.answers.WorldStep.TheVariants as answer
use Rattle.end_pair.specs.Kept.{MayHappen}
use Rattle.end_pair.specs.InSteps.{AreAtStates}
use Rattle.end_pair.specs.Laws.{AreNoNotes, HasBytes, IsOfMoves}
use Rattle.end_pair.specs.Run.{piece_of}
use Rattle.end_pair.specs.World.{EndAt, Piece, World, added_to, after_event, after_events, again, and_more, and_on, armed, at_start, begun, both_stepped, changed_at, ended_by, equipment_stepped, given, given_next, given_times, happened, host_stepped, later, lost, lost_from, met, planned, restart_of, settled, settled_times, still, timed, way_to, without}
use Rattle.end_pair.proofs.ByteWays.{AreByteCharacters, AreByteWays, bytes-to}
use Rattle.end_pair.proofs.Doing.{IsNext}
use Rattle.end_pair.proofs.DoingMoves.{IsAt}
use Rattle.end_pair.proofs.EndedSteps.{cut-at-once}
use Rattle.end_pair.proofs.Fallen.{lost-between}
use Rattle.end_pair.proofs.Fates as fates
use Rattle.end_pair.proofs.HeldSteps as held
use Rattle.end_pair.proofs.Moved.{HasLostAll}
use Rattle.end_pair.proofs.Renamed.{IsLike, renamed_all}
use Rattle.end_pair.proofs.Starting as starting

module _ {S T : Type 0}
    (did_e : ℕ → List Doing → S → Type 0) (did_h : ℕ → List Doing → T → Type 0)
    (tool : ToolCommand → Type 0) (user : HostCommand → Type 0) (loses host_loses : Type 0)
    (first_e : Step S Happening) (first_h : Step T Happening)
    (e : Machine S ToolCommand) (h : Machine T HostCommand) (plans : LinePlans)
    (law_e : KeepsLaw (plan_at Equipment plans) did_e tool (Goes first_e) e)
    (law_h : KeepsLaw (plan_at Host plans) did_h user (Goes first_h) h) where
  -- the records and lemmas of `HeldSteps`, of these ends
  abbrev AreMade : List Move → S → T → Type 0
  AreMade = held.AreMade did_e did_h tool user first_e first_h e h plans law_e law_h

  abbrev Holds : World S T → List Move → Type 0
  Holds = held.Holds did_e did_h tool user first_e first_h e h plans law_e law_h

  abbrev Fallen : Side → World S T → List Move → Type 0
  Fallen = held.Fallen did_e did_h tool user first_e first_h e h plans law_e law_h

  abbrev did_at : (side : Side) → ℕ → List Doing → EndAt side S T → Type 0
  did_at = held.did_at did_e did_h tool user first_e first_h e h plans law_e law_h

  abbrev IsOtherAt : Side → World S T → List Move → Type 0
  IsOtherAt = held.IsOtherAt did_e did_h tool user first_e first_h e h plans law_e law_h

  abbrev pub Good : Piece S T → List Entry → Type 0
  Good = held.Good did_e did_h tool user first_e first_h e h plans law_e law_h

  abbrev Keeps : (World S T → Piece S T) → Type 0
  Keeps = held.Keeps did_e did_h tool user first_e first_h e h plans law_e law_h

  abbrev at-states : (moves : List Move) (s : S) (t : T) → IsAt did_e Equipment plans moves s
      → IsAt did_h Host plans moves t → AreAtStates did_e did_h plans moves
  at-states = held.at-states did_e did_h tool user first_e first_h e h plans law_e law_h

  abbrev with_last :
      (moves : List Move) (s : S) (t : T) (last log : List Entry) → AreMade moves s t → length last ≤ 1
      → AreNoNotes last → log ≡ last ++ log_of moves → IsOfMoves did_e did_h plans log
  with_last = held.with_last did_e did_h tool user first_e first_h e h plans law_e law_h

  abbrev same_moves :
      (log other : List Entry) → other ≡ log → IsOfMoves did_e did_h plans log → IsOfMoves did_e did_h plans other
  same_moves = held.same_moves did_e did_h tool user first_e first_h e h plans law_e law_h

  -- the lemmas of `Starting`
  again-keeps : (side : Side) (world : World S T) (moves : List Move) → Fallen side world moves
      → Good (again e h side world) (log_of moves)
  again-keeps = starting.again-keeps did_e did_h tool user first_e first_h e h plans law_e law_h

  abbrev started : List Move
  started = starting.started did_e did_h tool user first_e first_h e h plans law_e law_h

  start-holds : Holds (at_start e h first_e first_h).world started
  start-holds = starting.start-holds did_e did_h tool user first_e first_h e h plans law_e law_h

  start-log : (at_start e h first_e first_h).entries ≡ log_of started
  start-log = starting.start-log did_e did_h tool user first_e first_h e h plans law_e law_h

  goes-still : Keeps still
  goes-still = held.goes-still did_e did_h tool user first_e first_h e h plans law_e law_h

  good-then : (piece : Piece S T) (before : List Entry) (rest : World S T → Piece S T) → Good piece before → Keeps rest
      → Good (and_more piece rest) before
  good-then = held.good-then did_e did_h tool user first_e first_h e h plans law_e law_h

  keeps-then :
      (first rest : World S T → Piece S T) → Keeps first → Keeps rest → Keeps (λ world. and_more (first world) rest)
  keeps-then = held.keeps-then did_e did_h tool user first_e first_h e h plans law_e law_h

  equipment-keeps :
      (input : Input ToolCommand) → MayTake tool input → (world : World S T) (moves : List Move) → Holds world moves
      → IsNext (seen_at Equipment plans moves).there.under_way input
      → Good (equipment_stepped e h input world) (log_of moves)
  equipment-keeps = held.equipment-keeps did_e did_h tool user first_e first_h e h plans law_e law_h

  host-keeps :
      (input : Input HostCommand) → MayTake user input → (world : World S T) (moves : List Move) → Holds world moves
      → IsNext (seen_at Host plans moves).there.under_way input
      → Good (host_stepped e h input world) (log_of moves)
  host-keeps = held.host-keeps did_e did_h tool user first_e first_h e h plans law_e law_h

  -- ---- characters

  next-way : (side : Side) (ways : Ways) (line : Line) → (like : IsLike ways line)
      → characters_of (renamed_all like.name (direction_to side ways).under_way)
      ≡ (seen_from side line).there.under_way
  next-way Equipment ways line like = like.stands.to_equipment.under_way
  next-way Host ways line like = like.stands.to_host.under_way

  given-keeps : (side : Side) → Keeps (given e h side)
  given-keeps side world moves holds = go side (direction_to side world.ways).under_way refl
    where
      small :
          (side : Side) (c : Character) (cs : List Character) → (direction_to side world.ways).under_way ≡ c ∷ cs
          → c.byte < 256
      small side c cs is = (subst AreByteCharacters is (bytes-to side world.ways holds.bytes)).0

      next :
          (side : Side) (c : Character) (cs : List Character) → (direction_to side world.ways).under_way ≡ c ∷ cs
          → IsNextByte (seen_at side plans moves).there.under_way c.byte
      next side c cs is =
          subst (λ (cs : List order.Character). IsNextByte cs c.byte)
          (ap (λ (all : List Character). characters_of (renamed_all holds.stands.name all)) (sym is)
          ∙ next-way side world.ways (line_of_moves plans moves) holds.stands) refl

      go : (side : Side) (under_way : List Character) → (direction_to side world.ways).under_way ≡ under_way
          → Good (given_next e h side (next_byte (characters_of under_way)) world) (log_of moves)
      go side [] is = goes-still world moves holds
      go Equipment (c ∷ cs) is =
          equipment-keeps (Char c.byte) (small Equipment c cs is) world moves holds (next Equipment c cs is)
      go Host (c ∷ cs) is = host-keeps (Char c.byte) (small Host c cs is) world moves holds (next Host c cs is)

  times-keeps : (n : ℕ) (side : Side) → Keeps (given_times e h n side)
  times-keeps zero side = goes-still
  times-keeps (suc n) side =
      keeps-then (given e h side) (given_times e h n side) (given-keeps side) (times-keeps n side)

  settled-keeps : Keeps (settled e h)
  settled-keeps world moves holds = go (is_under_way (characters_of (way_to Equipment world).under_way))
    where
      go : (b : Bool) → Good (if b then given e h Equipment world else given e h Host world) (log_of moves)
      go true = given-keeps Equipment world moves holds
      go false = given-keeps Host world moves holds

  settles-keeps : (n : ℕ) → Keeps (settled_times e h n)
  unfolding settled_times
  settles-keeps zero = goes-still
  settles-keeps (suc n) = keeps-then (settled e h) (settled_times e h n) settled-keeps (settles-keeps n)

  both-keeps : Keeps (both_stepped e h)
  both-keeps =
      keeps-then (equipment_stepped e h Time) (host_stepped e h Time)
      (λ world moves holds. equipment-keeps Time tt world moves holds tt)
      (λ world moves holds. host-keeps Time tt world moves holds tt)

  -- ---- what becomes of characters

  losses-keep : (n : ℕ) (side : Side) → Keeps (λ world. still (lost_from n side world))
  losses-keep = fates.losses-keep did_e did_h tool user first_e first_h e h plans law_e law_h

  change-keeps : (side : Side) (place byte : ℕ) → byte < 256 → Keeps (λ world. still (changed_at side place byte world))
  change-keeps = fates.change-keeps did_e did_h tool user first_e first_h e h plans law_e law_h

  add-keeps : (side : Side) (byte : ℕ) → byte < 256 → Keeps (λ world. still (added_to side byte world))
  add-keeps = fates.add-keeps did_e did_h tool user first_e first_h e h plans law_e law_h

  later-keeps : (ms : ℕ) (more : World S T → Piece S T) → Keeps more → Keeps (λ world. more (later ms world))
  later-keeps ms more one world moves holds =
      one (later ms world) moves (record { made = holds.made; stands = holds.stands; bytes = holds.bytes })

  -- ---- the power goes

  -- at the end of what went on
  goes-dark : (side : Side) (world : World S T) (moves : List Move) → Holds world moves → Fallen side world moves
  goes-dark side world moves holds = record {
    keep = holds.made.keep;
    timely = holds.made.timely;
    clean = holds.made.clean;
    other = other side;
    before = moves;
    cut = record {
      done = [];
      is = refl;
      begun = cut-at-once world.moment;
      later = [];
      could = at-states moves world.equipment world.host holds.made.equipment holds.made.host;
    };
    steps = holds.made.steps;
    lost = lost_now side;
  }
    where
      other : (side : Side) → IsOtherAt side world moves
      other Equipment = holds.made.host
      other Host = holds.made.equipment

      lost_now : (side : Side)
          → HasLostAll (did_at side) side plans (restart_of e h side world) world.ways moves
      lost_now Equipment =
          lost-between did_e tool first_e e Equipment plans law_e world.moment moves world.equipment world.ways
          holds.made.equipment holds.stands
      lost_now Host =
          lost-between did_h user first_h h Host plans law_h world.moment moves world.host world.ways holds.made.host
          holds.stands

  timed-keeps : (side : Side) → Keeps (timed e h side)
  timed-keeps Equipment world moves holds = equipment-keeps Time tt world moves holds tt
  timed-keeps Host world moves holds = host-keeps Time tt world moves holds tt

  without-keeps : (side : Side) (world : World S T) (moves : List Move) → Fallen side world moves
      → Good (without e h side world) (log_of moves)
  without-keeps side world moves fallen =
      good-then (again e h side world) (log_of moves) (timed e h side) (again-keeps side world moves fallen)
      (timed-keeps side)

  -- behind a piece that is dark then
  good-without : (side : Side) (piece : Piece S T) (before : List Entry) (good : Good piece before)
      → (good.of.last ≡ []) × Fallen side piece.world good.of.moves
      → Good (and_on answer.Went piece (without e h side)) before
  good-without side piece before good at =
      let next = without-keeps side piece.world good.of.moves at.1 in
      let more = (without e h side piece.world).entries in
      record {
        of =
            same_moves (more ++ log_of good.of.moves) ((more ++ piece.entries) ++ before)
            (append_assoc more piece.entries before
            ∙ ap (λ (l : List Entry). more ++ l)
            (good.of.is ∙ ap (λ (l : List Entry). l ++ log_of good.of.moves) at.0)) next.of;
        on = next.on;
        fallen = next.fallen;
      }

  ended-good : (cut : Option Side) (piece : Piece S T) (before : List Entry) → Good piece before
      → Good (ended_by e h cut piece.went piece) before
  ended-good cut piece before good = go cut piece.went refl
    where
      go : (cut : Option Side) (went : WorldStep) → piece.went ≡ went → Good (ended_by e h cut went piece) before
      go cut (answer.PowerLost whose) is = good-without whose piece before good (good.fallen whose is)
      go (Some side) answer.Went is =
          let at = good.on is in
          good-without side piece before good (at.0, goes-dark side piece.world good.of.moves at.1)
      go None answer.Went is = good
      go cut answer.Slip is = good
      go cut answer.Turns is = good
      go cut answer.NumbersSpent is = good
      go cut answer.JournalFull is = good
      go cut answer.NoMemory is = good

  -- ---- events

  -- all of it but what the world itself keeps
  same-holds : (world other : World S T) (moves : List Move) → world.equipment ≡ other.equipment
      → world.host ≡ other.host → world.ways ≡ other.ways → Holds world moves → Holds other moves
  same-holds world other moves equipment host ways holds = record {
    made =
        subst (λ (s : S). AreMade moves s other.host) equipment
        (subst (λ (t : T). AreMade moves world.equipment t) host holds.made);
    stands = subst (λ (w : Ways). IsLike w (line_of_moves plans moves)) ways holds.stands;
    bytes = subst AreByteWays ways holds.bytes;
  }

  armed-keeps : (side : Side) (call : ℕ) → Keeps (armed side call)
  armed-keeps side call world moves holds =
      goes-still (armed side call world).world moves
      (same-holds world (armed side call world).world moves refl refl refl holds)

  planned-keeps : (side : Side) (call : ℕ) (choice : CutChoice)
      → Keeps (λ world. still (planned side call choice world))
  planned-keeps side call choice world moves holds =
      goes-still (planned side call choice world) moves
      (same-holds world (planned side call choice world) moves refl refl refl holds)

  happened-keeps : (event : Event) → MayHappen tool user loses host_loses event → HasBytes event
      → Keeps (happened e h event)
  happened-keeps (event.To side n) may bytes = times-keeps n side
  happened-keeps (event.Lose side n) may bytes = losses-keep n side
  happened-keeps (event.Change side place byte) may bytes = change-keeps side place byte bytes
  happened-keeps (event.Add side byte) may bytes = add-keeps side byte bytes
  happened-keeps event.Settle may bytes = settles-keeps 65536
  happened-keeps (event.Wait ms) may bytes = later-keeps ms (both_stepped e h) both-keeps
  happened-keeps (event.Tool command) may bytes =
      λ world moves holds. equipment-keeps (Command command) may world moves holds tt
  happened-keeps (event.Host command) may bytes =
      λ world moves holds. host-keeps (Command command) may world moves holds tt
  happened-keeps (event.Cut call choice) may bytes = planned-keeps Equipment call choice
  happened-keeps (event.HostCut call choice) may bytes = planned-keeps Host call choice

  met-keeps : (event : Event) → Keeps (happened e h event) → (cut : Option (Side × ℕ)) → Keeps (met e h event cut)
  met-keeps event keeps None world moves holds =
      ended-good None (happened e h event world) (log_of moves) (keeps world moves holds)
  met-keeps event keeps (Some (side, call)) world moves holds =
      ended-good (Some side) (and_more (armed side call world) (happened e h event)) (log_of moves)
      (good-then (armed side call world) (log_of moves) (happened e h event) (armed-keeps side call world moves holds)
      keeps)

  event-keeps : (event : Event) → MayHappen tool user loses host_loses event → HasBytes event
      → Keeps (after_event e h event)
  event-keeps (event.Cut call choice) may bytes = happened-keeps (event.Cut call choice) may bytes
  event-keeps (event.HostCut call choice) may bytes = happened-keeps (event.HostCut call choice) may bytes
  event-keeps (event.To side n) may bytes = λ world.
      met-keeps (event.To side n) (happened-keeps (event.To side n) may bytes) world.cut world
  event-keeps (event.Lose side n) may bytes = λ world.
      met-keeps (event.Lose side n) (happened-keeps (event.Lose side n) may bytes) world.cut world
  event-keeps (event.Change side place byte) may bytes = λ world.
      met-keeps (event.Change side place byte) (happened-keeps (event.Change side place byte) may bytes) world.cut world
  event-keeps (event.Add side byte) may bytes = λ world.
      met-keeps (event.Add side byte) (happened-keeps (event.Add side byte) may bytes) world.cut world
  event-keeps event.Settle may bytes = λ world.
      met-keeps event.Settle (happened-keeps event.Settle may bytes) world.cut world
  event-keeps (event.Wait ms) may bytes = λ world.
      met-keeps (event.Wait ms) (happened-keeps (event.Wait ms) may bytes) world.cut world
  event-keeps (event.Tool command) may bytes = λ world.
      met-keeps (event.Tool command) (happened-keeps (event.Tool command) may bytes) world.cut world
  event-keeps (event.Host command) may bytes = λ world.
      met-keeps (event.Host command) (happened-keeps (event.Host command) may bytes) world.cut world

  events-keep :
      (events : List Event) → All (MayHappen tool user loses host_loses) events → All HasBytes events → Keeps
      (after_events e h events)
  events-keep [] may bytes = goes-still
  events-keep (event ∷ events) may bytes =
      keeps-then (after_event e h event) (after_events e h events)
      (event-keeps event (may 0 event (omega arith)) (bytes 0 event (omega arith)))
      (events-keep events (λ k d within. may (suc k) d (omega (arith, within)))
      (λ k d within. bytes (suc k) d (omega (arith, within))))

  -- ---- the whole run

  pub run-is : (events : List Event) → All (MayHappen tool user loses host_loses) events → All HasBytes events
      → Good (piece_of e h first_e first_h events) []
  run-is events may bytes =
      good-then (begun e h first_e first_h) [] (after_events e h events)
      (good-then (at_start e h first_e first_h) [] (both_stepped e h) (record {
        of =
            with_last started first_e.next first_h.next [] ((at_start e h first_e first_h).entries ++ [])
            start-holds.made (omega arith) tt (append-nil (at_start e h first_e first_h).entries ∙ start-log);
        on = λ on. (refl, start-holds);
        fallen = λ whose lost. cc;
      }) both-keeps)
      (events-keep events may bytes)
