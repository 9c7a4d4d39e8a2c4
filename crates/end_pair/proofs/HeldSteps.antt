-- What both ends have done, as moves, and that a step of either keeps it.
use Rattle.std.specs.List.{slice_get}
use Rattle.std.proofs.Common.{◌≡◌, ◌⊎◌, ◌≤◌, zero, suc, ℕ, ◌==◌, Bool, true, false, List, [], ◌∷◌, ◌++◌, length, inl, inr, Option, Some, if◌then◌else◌, refl, sym, ap, ◌∙◌, append_assoc, arith}
use Rattle.disk_base.specs.declared.cut.CutChoice.{CutChoice}
use Rattle.gl_base.specs.declared.side.Side.{Side}
use Rattle.gl_base.specs.declared.side.Side.TheVariants.{Equipment, Host}
use Rattle.line_order.specs.Acts.{HasNoSlip}
use Rattle.line_order.specs.Line.{new_line}
use Rattle.line_way.specs.Ways.{Ways}
use Rattle.message_end.specs.Core.{Step, Went}
use Rattle.message_end.specs.Core.Went.{Goes, Spent}
use Rattle.message_end.specs.Doings.{Doing}
use Rattle.message_end.specs.Ends.{Input, KeepsLaw, Loss, Machine, MayTake, Passing, Reach, call_of, passing}
use Rattle.message_end.specs.Ends.Passing.{Cuts, Lacks, Passes}
use Rattle.message_end.proofs.Passing.{cut-place, lack-place}
use Rattle.message_end.specs.Log.{log_of}
use Rattle.message_end.specs.Moves.{AreTimely, KeepLaws, LinePlans, Move, deeds_of, line_of_moves, plan_at, seen_at}
use Rattle.message_end.specs.Own.{Has}
use Rattle.trace_log.specs.Log.{Entry, Happening}
use Rattle.trace_log.specs.declared.commands.HostCommand.{HostCommand}
use Rattle.trace_log.specs.declared.commands.ToolCommand.{ToolCommand}
use Rattle.end_pair.specs.declared.answers.WorldStep.{WorldStep}
use Rattle.end_pair.specs.declared.answers.WorldStep.TheVariants as answer
use Rattle.end_pair.specs.InSteps.{AreAtStates, AreOfCutStep, AreOfWholeStep, AreSteps, ComeInSteps, IsCutBehind, moves_with}
use Rattle.end_pair.specs.InSteps.AreSteps.{one_step}
use Rattle.end_pair.specs.InSteps.ComeInSteps.{at_a_step, in_a_step}
use Rattle.end_pair.specs.Laws.{AreNoNotes, IsOfMoves}
use Rattle.end_pair.specs.Steps.{Stepped, entries_of, made, made_by, slipped, slips, stopped_at, stopped_for}
use Rattle.end_pair.specs.World.{EndAt, Piece, World, and_more, and_on, equipment_stepped, host_stepped, most_steps, restart_of, still, turned_out, with_equipment, with_host}
use Rattle.end_pair.proofs.ByteWays.{AreByteWays}
use Rattle.end_pair.proofs.Causes.{early-powered, never-on, stopped-own}
use Rattle.end_pair.proofs.Doing.{IsNext}
use Rattle.end_pair.proofs.DoingMoves.{IsAt, other-is}
use Rattle.end_pair.proofs.Fallen.{has-fallen}
use Rattle.end_pair.proofs.Moved.{HasFallen, HasLostAll, HasStepped, HasStopped, has-made, has-slipped}
use Rattle.end_pair.proofs.Renamed.{IsLike}

module _ {S T : Type 0}
    (did_e : ℕ → List Doing → S → Type 0) (did_h : ℕ → List Doing → T → Type 0)
    (tool : ToolCommand → Type 0) (user : HostCommand → Type 0)
    (first_e : Step S Happening) (first_h : Step T Happening)
    (e : Machine S ToolCommand) (h : Machine T HostCommand) (plans : LinePlans)
    (law_e : KeepsLaw (plan_at Equipment plans) did_e tool (Goes first_e) e)
    (law_h : KeepsLaw (plan_at Host plans) did_h user (Goes first_h) h) where
  -- lawful moves, step by step, have left the ends in these states
  pub record AreMade (moves : List Move) (s : S) (t : T) : Type 0 where
    pub keep : KeepLaws plans moves
    pub timely : AreTimely moves
    pub clean : HasNoSlip (new_line plans.equipment.times plans.host.times) (deeds_of moves)
    pub equipment : IsAt did_e Equipment plans moves s
    pub host : IsAt did_h Host plans moves t
    pub steps : AreSteps did_e did_h plans moves

  -- the world is what these moves have made of it
  pub record Holds (world : World S T) (moves : List Move) : Type 0 where
    pub made : AreMade moves world.equipment world.host
    pub stands : IsLike world.ways (line_of_moves plans moves)
    pub bytes : AreByteWays world.ways

  -- the end of a side, and the other one
  abbrev pub did_at : (side : Side) → ℕ → List Doing → EndAt side S T → Type 0
  did_at Equipment = did_e
  did_at Host = did_h

  abbrev pub IsOtherAt : Side → World S T → List Move → Type 0
  IsOtherAt Equipment world moves = IsAt did_h Host plans moves world.host
  IsOtherAt Host world moves = IsAt did_e Equipment plans moves world.equipment

  -- an end has lost its power behind these moves, and so in a step that it had begun, or was to begin, behind those
  -- before
  pub record Fallen (side : Side) (world : World S T) (moves : List Move) : Type 0 where
    pub keep : KeepLaws plans moves
    pub timely : AreTimely moves
    pub clean : HasNoSlip (new_line plans.equipment.times plans.host.times) (deeds_of moves)
    pub other : IsOtherAt side world moves
    pub before : List Move
    pub cut : IsCutBehind did_e did_h plans side world.moment before moves
    pub steps : AreSteps did_e did_h plans before
    pub lost : HasLostAll (did_at side) side plans (restart_of e h side world) world.ways moves

  -- the entries of a piece, behind those before, are the log of some moves, and at most an entry that is no note
  pub record Good (piece : Piece S T) (before : List Entry) : Type 0 where
    pub of : IsOfMoves did_e did_h plans (piece.entries ++ before)
    pub on : piece.went ≡ answer.Went → (of.last ≡ []) × Holds piece.world of.moves
    pub fallen :
        (whose : Side) → piece.went ≡ answer.PowerLost whose → (of.last ≡ []) × Fallen whose piece.world of.moves

  abbrev pub Keeps : (World S T → Piece S T) → Type 0
  Keeps more = (world : World S T) (moves : List Move) → Holds world moves → Good (more world) (log_of moves)

  abbrev pub at-states : (moves : List Move) (s : S) (t : T) → IsAt did_e Equipment plans moves s
      → IsAt did_h Host plans moves t → AreAtStates did_e did_h plans moves
  at-states moves s t equipment host =
      record { state_of_equipment = s; state_of_host = t; equipment_did = equipment.is; host_did = host.is }

  -- a log of moves, with these entries behind it
  abbrev pub with_last :
      (moves : List Move) (s : S) (t : T) (last log : List Entry) → AreMade moves s t → length last ≤ 1
      → AreNoNotes last → log ≡ last ++ log_of moves → IsOfMoves did_e did_h plans log
  with_last moves s t last log made few no_notes is = record {
    moves = moves;
    keep = made.keep;
    timely = made.timely;
    no_slip = made.clean;
    steps = at_a_step made.steps;
    last = last;
    at_most_one = few;
    no_notes = no_notes;
    is = is;
  }

  -- the same log
  abbrev pub same_moves :
      (log other : List Entry) → other ≡ log → IsOfMoves did_e did_h plans log → IsOfMoves did_e did_h plans other
  same_moves log other same of = record {
    moves = of.moves;
    keep = of.keep;
    timely = of.timely;
    no_slip = of.no_slip;
    steps = of.steps;
    last = of.last;
    at_most_one = of.at_most_one;
    no_notes = of.no_notes;
    is = same ∙ of.is;
  }

  pub goes-still : (world : World S T) (moves : List Move) → Holds world moves → Good (still world) (log_of moves)
  goes-still world moves holds = record {
    of = with_last moves world.equipment world.host [] (log_of moves) holds.made (omega arith) tt refl;
    on = λ on. (refl, holds);
    fallen = λ whose lost. cc;
  }

  pub good-then : (piece : Piece S T) (before : List Entry) (rest : World S T → Piece S T) → Good piece before
      → Keeps rest
      → Good (and_more piece rest) before
  good-then piece before rest good two = go piece.went refl
    where
      go : (went : WorldStep) → piece.went ≡ went → Good (and_on went piece rest) before
      go answer.Went is =
          let at = good.on is in
          let next = two piece.world good.of.moves at.1 in
          let more = (rest piece.world).entries in
          record {
            of =
                same_moves (more ++ log_of good.of.moves) ((more ++ piece.entries) ++ before)
                (append_assoc more piece.entries before
                ∙ ap (λ (l : List Entry). more ++ l)
                (good.of.is ∙ ap (λ (l : List Entry). l ++ log_of good.of.moves) at.0)) next.of;
            on = next.on;
            fallen = next.fallen;
          }
      go answer.Slip is = good
      go answer.Turns is = good
      go answer.NumbersSpent is = good
      go answer.JournalFull is = good
      go (answer.PowerLost whose) is = good
      go answer.NoMemory is = good

  pub keeps-then :
      (first rest : World S T → Piece S T) → Keeps first → Keeps rest → Keeps (λ world. and_more (first world) rest)
  keeps-then first rest one two world moves holds =
      good-then (first world) (log_of moves) rest (one world moves holds) two

  -- no step is left
  goes-out : (world : World S T) (moves : List Move) → Holds world moves → Good (turned_out world) (log_of moves)
  goes-out world moves holds = record {
    of = with_last moves world.equipment world.host [] (log_of moves) holds.made (omega arith) tt refl;
    on = λ on. cc;
    fallen = λ whose lost. cc;
  }

  -- ---- steps

  -- a step of either end
  step-good :
      {X : Type 0} (did : ℕ → List Doing → X → Type 0) (side : Side) (step : Stepped X) (world : World S T)
      (moves : List Move) (s : S) (t : T) (n : ℕ) (cut : Option (Side × ℕ)) (reach host_reach : Reach)
      (choice : CutChoice)
      → Holds world moves → (is : HasStepped did side plans world.moment moves step)
      → IsAt did_e Equipment plans (moves_with side world.moment is.done moves) s
      → IsAt did_h Host plans (moves_with side world.moment is.done moves) t
      → ((whose : Side) → step.went ≡ answer.PowerLost whose → ⊥)
      → Good
      (record {
        world =
            record {
              equipment = s;
              host = t;
              ways = step.ways;
              moment = world.moment;
              steps = n;
              cut = cut;
              reach = reach;
              host_reach = host_reach;
              choice = choice;
            };
        entries = step.entries;
        went = step.went;
      })
      (log_of moves)
  step-good did side step world moves s t n cut reach host_reach choice holds is equipment host powered = record {
    of = record {
      moves = later;
      keep = is.are.keep;
      timely = is.are.timely;
      no_slip = is.are.no_slip;
      steps = steps is.how;
      last = is.last;
      at_most_one = is.few;
      no_notes = is.no_notes;
      is = log;
    };
    on = λ went. let on = is.on went in
        (on.0, record { made = made_so (is.ended went); stands = on.1; bytes = on.2 });
    fallen = λ whose lost. absurd (powered whose lost);
  }
    where
      now : ℕ
      now = world.moment

      later : List Move
      later = moves_with side now is.done moves

      states : AreAtStates did_e did_h plans later
      states = at-states later s t equipment host

      whole : AreOfWholeStep now is.done → AreSteps did_e did_h plans later
      whole ends = one_step later moves side now is.done refl ends states holds.made.steps

      steps : AreOfWholeStep now is.done ⊎ AreOfCutStep now is.done → ComeInSteps did_e did_h plans later
      steps (inl ends) = at_a_step (whole ends)
      steps (inr begun) =
          in_a_step moves side now
          (record { done = is.done; is = refl; begun = begun; later = []; could = states }) holds.made.steps

      made_so : AreOfWholeStep now is.done → AreMade later s t
      made_so ends = record {
        keep = is.are.keep;
        timely = is.are.timely;
        clean = is.are.no_slip;
        equipment = equipment;
        host = host;
        steps = whole ends;
      }

      log : step.entries ++ log_of moves ≡ is.last ++ log_of later
      log =
          ap (λ (es : List Entry). es ++ log_of moves) is.entries
          ∙ append_assoc is.last (entries_of side now is.noted) (log_of moves)
          ∙ ap (λ (es : List Entry). is.last ++ es) (sym is.are.log)

  made-powered :
      {X C : Type 0} (machine : Machine X C) (side : Side) (now : ℕ) (left : Reach) (input : Input C) (s : X)
      (ways : Ways) (went : Went X Happening) (whose : Side)
      → (made machine side now left input s ways went).went ≡ answer.PowerLost whose → ⊥
  made-powered machine side now left input s ways (Goes step) whose is = absurd (cc)
  made-powered machine side now left input s ways (Spent step) whose is =
      early-powered (machine.lacks_room s input now) whose is

  -- in which its disk has stopped it
  abbrev stopped_cut :
      {X : Type 0} (did : ℕ → List Doing → X → Type 0) (side : Side) (step : Stepped X) (now : ℕ) (moves : List Move)
      (is : HasStopped did side plans now moves step)
      → AreAtStates did_e did_h plans (moves_with side now is.later (moves_with side now is.done moves))
      → IsCutBehind did_e did_h plans side now moves (moves_with side now is.done moves)
  stopped_cut did side step now moves is states =
      record { done = is.done; is = refl; begun = is.begun; later = is.later; could = states }

  abbrev stopped_log :
      {X : Type 0} (did : ℕ → List Doing → X → Type 0) (side : Side) (step : Stepped X) (now : ℕ) (moves : List Move)
      (is : HasStopped did side plans now moves step)
      → IsCutBehind did_e did_h plans side now moves (moves_with side now is.done moves)
      → AreSteps did_e did_h plans moves → IsOfMoves did_e did_h plans (step.entries ++ log_of moves)
  stopped_log did side step now moves is cut steps = record {
    moves = moves_with side now is.done moves;
    keep = is.keep;
    timely = is.timely;
    no_slip = is.no_slip;
    steps = in_a_step moves side now cut steps;
    last = [];
    at_most_one = omega arith;
    no_notes = tt;
    is = is.entries;
  }

  -- whether its end's power is lost or a run ends there
  fallen-good :
      {X : Type 0} (did : ℕ → List Doing → X → Type 0) (side : Side) (step : Stepped X) (world after : World S T)
      (moves : List Move) → AreSteps did_e did_h plans moves → (is : HasStopped did side plans world.moment moves step)
      → IsCutBehind did_e did_h plans side world.moment moves (moves_with side world.moment is.done moves)
      → (step.went ≡ answer.Went → ⊥)
      → ((whose : Side) → step.went ≡ answer.PowerLost whose
      → Fallen whose after (moves_with side world.moment is.done moves))
      → Good (record { world = after; entries = step.entries; went = step.went }) (log_of moves)
  fallen-good did side step world after moves steps is cut stops fallen = record {
    of = stopped_log did side step world.moment moves is cut steps;
    on = λ went. absurd (stops went);
    fallen = λ whose lost. (refl, fallen whose lost);
  }

  equipment-fallen :
      (step : Stepped S) (world : World S T) (moves : List Move) → Holds world moves
      → HasFallen did_e e Equipment plans world.moment moves step → (step.went ≡ answer.Went → ⊥)
      → ((whose : Side) → step.went ≡ answer.PowerLost whose → whose ≡ Equipment)
      → Good (with_equipment e h world step) (log_of moves)
  equipment-fallen step world moves holds is stops own =
      fallen-good did_e Equipment step world (with_equipment e h world step).world moves holds.made.steps is.stopped cut
      stops fallen
    where
      now : ℕ
      now = world.moment

      by_then : List Move
      by_then = moves_with Equipment now is.stopped.done moves

      host : IsAt did_h Host plans by_then world.host
      host = other-is did_h Equipment plans now is.stopped.done moves world.host holds.made.host

      cut : IsCutBehind did_e did_h plans Equipment now moves by_then
      cut =
          stopped_cut did_e Equipment step now moves is.stopped
          (record {
            state_of_equipment = is.stopped.next;
            state_of_host = world.host;
            equipment_did = is.stopped.could;
            host_did = (other-is did_h Equipment plans now is.stopped.later by_then world.host host).is;
          })

      fallen : (whose : Side) → step.went ≡ answer.PowerLost whose
          → Fallen whose (with_equipment e h world step).world by_then
      fallen Equipment lost = record {
        keep = is.stopped.keep;
        timely = is.stopped.timely;
        clean = is.stopped.no_slip;
        other = host;
        before = moves;
        cut = cut;
        steps = holds.made.steps;
        lost = is.lost;
      }
      fallen Host lost = let same = own Host lost in absurd (cc)

  host-fallen :
      (step : Stepped T) (world : World S T) (moves : List Move) → Holds world moves
      → HasFallen did_h h Host plans world.moment moves step → (step.went ≡ answer.Went → ⊥)
      → ((whose : Side) → step.went ≡ answer.PowerLost whose → whose ≡ Host)
      → Good (with_host e h world step) (log_of moves)
  host-fallen step world moves holds is stops own =
      fallen-good did_h Host step world (with_host e h world step).world moves holds.made.steps is.stopped cut stops
      fallen
    where
      now : ℕ
      now = world.moment

      by_then : List Move
      by_then = moves_with Host now is.stopped.done moves

      equipment : IsAt did_e Equipment plans by_then world.equipment
      equipment = other-is did_e Host plans now is.stopped.done moves world.equipment holds.made.equipment

      cut : IsCutBehind did_e did_h plans Host now moves by_then
      cut =
          stopped_cut did_h Host step now moves is.stopped
          (record {
            state_of_equipment = world.equipment;
            state_of_host = is.stopped.next;
            equipment_did = (other-is did_e Host plans now is.stopped.later by_then world.equipment equipment).is;
            host_did = is.stopped.could;
          })

      fallen : (whose : Side) → step.went ≡ answer.PowerLost whose
          → Fallen whose (with_host e h world step).world by_then
      fallen Host lost = record {
        keep = is.stopped.keep;
        timely = is.stopped.timely;
        clean = is.stopped.no_slip;
        other = equipment;
        before = moves;
        cut = cut;
        steps = holds.made.steps;
        lost = is.lost;
      }
      fallen Equipment lost = let same = own Equipment lost in absurd (cc)

  some-same : {X : Type 0} (y x : X) → Some y ≡ Some x → x ≡ y
  some-same y x is = cc

  has-at : {X : Type 0} (xs : List X) (i : ℕ) (x : X) → slice_get xs i ≡ Some x → Has xs x
  has-at [] i x is = absurd (cc)
  has-at (y ∷ xs) zero x is = inl (some-same y x is)
  has-at (y ∷ xs) (suc i) x is = inr (has-at xs i x is)

  has-loss : {X : Type 0} (call : ℕ) (losses : List (Loss X)) (loss : Loss X) → call_of call losses ≡ Some loss
      → Has losses loss
  has-loss zero losses loss is = absurd (cc)
  has-loss (suc before) losses loss is = has-at losses before loss is

  -- a step, by whether it is a slip, and how far its calls come
  abbrev tool_step : Input ToolCommand → World S T → Bool → Passing S → Stepped S
  tool_step input world slip passed =
      if slip then slipped Equipment world.moment world.reach world.equipment world.ways
      else made_by e Equipment world.moment world.choice input world.equipment world.ways passed

  abbrev user_step : Input HostCommand → World S T → Bool → Passing T → Stepped T
  user_step input world slip passed =
      if slip then slipped Host world.moment world.host_reach world.host world.ways
      else made_by h Host world.moment world.choice input world.host world.ways passed

  pub equipment-keeps :
      (input : Input ToolCommand) → MayTake tool input → (world : World S T) (moves : List Move) → Holds world moves
      → IsNext (seen_at Equipment plans moves).there.under_way input
      → Good (equipment_stepped e h input world) (log_of moves)
  equipment-keeps input may world moves holds next =
      by_turn (world.steps == most_steps) (slips e Equipment world.moment input world.equipment world.ways)
      (passing world.reach losses) refl refl
    where
      losses : List (Loss S)
      losses = e.losses world.equipment input world.moment

      whole : (step : Stepped S) → (is : HasStepped did_e Equipment plans world.moment moves step)
          → ((whose : Side) → step.went ≡ answer.PowerLost whose → ⊥)
          → Good (with_equipment e h world step) (log_of moves)
      whole step is powered =
          step-good did_e Equipment step world moves step.end world.host _ _ _ _ _ holds is is.are.at
          (other-is did_h Equipment plans world.moment is.done moves world.host holds.made.host) powered

      stopped : slips e Equipment world.moment input world.equipment world.ways ≡ false → (is_lost : Bool)
          (loss : Loss S)
          (place : (call : ℕ) × (call_of call losses ≡ Some loss))
          → Good (with_equipment e h world
          (stopped_at Equipment world.moment world.choice world.ways (stopped_for Equipment is_lost) loss))
          (log_of moves)
      stopped slip_is is_lost loss place =
          equipment-fallen
          (stopped_at Equipment world.moment world.choice world.ways (stopped_for Equipment is_lost) loss)
          world moves holds
          (has-fallen did_e tool first_e e Equipment plans law_e world.moment world.choice moves world.equipment input
          world.ways may holds.made.keep holds.made.timely holds.made.clean holds.made.equipment next holds.stands
          slip_is loss (has-loss place.0 losses loss place.1) is_lost)
          (never-on Equipment is_lost) (stopped-own Equipment is_lost)

      by_turn : (turn slip : Bool) (passed : Passing S)
          → slips e Equipment world.moment input world.equipment world.ways ≡ slip
          → passing world.reach losses ≡ passed
          → Good (if turn then turned_out world else with_equipment e h world (tool_step input world slip passed))
          (log_of moves)
      by_turn true slip passed slip_is is = goes-out world moves holds
      by_turn false true passed slip_is is =
          whole (slipped Equipment world.moment world.reach world.equipment world.ways)
          (has-slipped did_e tool first_e e Equipment plans law_e world.moment moves world.reach world.equipment
          world.ways
          holds.made.keep holds.made.timely holds.made.clean holds.made.equipment) (λ whose is. cc)
      by_turn false false (Passes left) slip_is is =
          whole
          (made e Equipment world.moment left input world.equipment world.ways
          (e.act world.equipment input world.moment))
          (has-made did_e tool first_e e Equipment plans law_e world.moment moves left world.equipment input
          world.ways may
          holds.made.keep holds.made.timely holds.made.clean holds.made.equipment next holds.stands holds.bytes slip_is)
          (made-powered e Equipment world.moment left input world.equipment world.ways
          (e.act world.equipment input world.moment))
      by_turn false false (Cuts loss) slip_is is = stopped slip_is true loss (cut-place world.reach losses loss is)
      by_turn false false (Lacks loss) slip_is is = stopped slip_is false loss (lack-place world.reach losses loss is)

  pub host-keeps :
      (input : Input HostCommand) → MayTake user input → (world : World S T) (moves : List Move) → Holds world moves
      → IsNext (seen_at Host plans moves).there.under_way input
      → Good (host_stepped e h input world) (log_of moves)
  host-keeps input may world moves holds next =
      by_turn (world.steps == most_steps) (slips h Host world.moment input world.host world.ways)
      (passing world.host_reach losses) refl refl
    where
      losses : List (Loss T)
      losses = h.losses world.host input world.moment

      whole : (step : Stepped T) → (is : HasStepped did_h Host plans world.moment moves step)
          → ((whose : Side) → step.went ≡ answer.PowerLost whose → ⊥) → Good (with_host e h world step) (log_of moves)
      whole step is powered =
          step-good did_h Host step world moves world.equipment step.end _ _ _ _ _ holds is
          (other-is did_e Host plans world.moment is.done moves world.equipment holds.made.equipment) is.are.at powered

      stopped : slips h Host world.moment input world.host world.ways ≡ false → (is_lost : Bool) (loss : Loss T)
          (place : (call : ℕ) × (call_of call losses ≡ Some loss))
          → Good
          (with_host e h world (stopped_at Host world.moment world.choice world.ways (stopped_for Host is_lost) loss))
          (log_of moves)
      stopped slip_is is_lost loss place =
          host-fallen (stopped_at Host world.moment world.choice world.ways (stopped_for Host is_lost) loss) world
          moves holds
          (has-fallen did_h user first_h h Host plans law_h world.moment world.choice moves world.host input world.ways
          may holds.made.keep holds.made.timely holds.made.clean holds.made.host next holds.stands slip_is loss
          (has-loss place.0 losses loss place.1) is_lost)
          (never-on Host is_lost) (stopped-own Host is_lost)

      by_turn : (turn slip : Bool) (passed : Passing T)
          → slips h Host world.moment input world.host world.ways ≡ slip
          → passing world.host_reach losses ≡ passed
          → Good (if turn then turned_out world else with_host e h world (user_step input world slip passed))
          (log_of moves)
      by_turn true slip passed slip_is is = goes-out world moves holds
      by_turn false true passed slip_is is =
          whole (slipped Host world.moment world.host_reach world.host world.ways)
          (has-slipped did_h user first_h h Host plans law_h world.moment moves world.host_reach world.host world.ways
          holds.made.keep holds.made.timely holds.made.clean holds.made.host) (λ whose is. cc)
      by_turn false false (Passes left) slip_is is =
          whole (made h Host world.moment left input world.host world.ways (h.act world.host input world.moment))
          (has-made did_h user first_h h Host plans law_h world.moment moves left world.host input world.ways may
          holds.made.keep holds.made.timely holds.made.clean holds.made.host next holds.stands holds.bytes slip_is)
          (made-powered h Host world.moment left input world.host world.ways (h.act world.host input world.moment))
      by_turn false false (Cuts loss) slip_is is = stopped slip_is true loss (cut-place world.host_reach losses loss is)
      by_turn false false (Lacks loss) slip_is is =
          stopped slip_is false loss (lack-place world.host_reach losses loss is)
