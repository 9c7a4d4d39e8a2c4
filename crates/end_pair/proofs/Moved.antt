-- What an end does in a step keeps the laws, makes no slip, and is noted.
use Rattle.std.proofs.Common.{◌≡◌, ◌⊎◌, inl, inr, ◌≤◌, ℕ, false, List, [], ◌∷◌, ◌++◌, length, None, refl, sym, ap, subst, ◌∙◌, append-nil, arith}
use Rattle.std.proofs.lemmas.List.{append_cancel_left}
use Rattle.gl_base.specs.declared.side.Side.{Side}
use Rattle.line_end.specs.State.{LineState}
use Rattle.line_end.specs.Step.{LineCall, is_due}
use Rattle.line_order.specs.Acts.{Deed, HasNoSlip, IsRun, line_after, line_after_deed}
use Rattle.line_order.specs.Acts.Act.{PowerLoss}
use Rattle.line_order.specs.Line.{Line, new_line, seen_from}
use Rattle.line_way.specs.Kept.{ways_after, without_power}
use Rattle.line_way.specs.Step as way
use Rattle.line_way.specs.Step.{AreDecisions, step_deeds}
use Rattle.line_way.specs.Ways.{StandsFor, Ways}
use Rattle.line_way.proofs.Slipping.{slip-stands}
use Rattle.line_way.proofs.Steps.{step-stands}
use Rattle.message_end.specs.Core.{Step, Went}
use Rattle.message_end.specs.Core.Went.{Goes, Spent}
use Rattle.message_end.specs.Doings.{Doing, line_of, own_of}
use Rattle.message_end.specs.Drops.{AreDroppedAt}
use Rattle.message_end.specs.Ends.{AreBegunOf, AreOfStep, DoesMore, DoesStep, HasRestarted, Input, KeepsLaw, Machine, MayTake, OnStart, Reach, taking_calls, wrote}
use Rattle.message_end.specs.Ends.Input.{Char, Command, Time}
use Rattle.message_end.specs.Ends.IsOfWorld.{of_wrote}
use Rattle.message_end.specs.History.{noted_in, written_in}
use Rattle.message_end.specs.Log.{log_of}
use Rattle.message_end.specs.InStep.{EndsOnce, HasNoEnd}
use Rattle.message_end.specs.LineCalls.{calls_in}
use Rattle.message_end.specs.Moves.{AreTimely, KeepLaws, LinePlans, Move, deeds_of, Run, line_of_moves, plan_at, run_at, seen_at}
use Rattle.message_end.specs.Own.{whole_in}
use Rattle.message_end.proofs.Fronts.{noted-behind}
use Rattle.message_end.proofs.Starts.{AreSaidAtStart, said-calls, said-dropped}
use Rattle.trace_log.specs.Laws.{log_with}
use Rattle.trace_log.specs.Log.{Entry, Happening}
use Rattle.trace_log.specs.Log.Happening.{Wrote}
use Rattle.end_pair.specs.declared.answers.WorldStep.TheVariants as answer
use Rattle.end_pair.specs.InSteps.{AreOfCutStep, AreOfWholeStep, moves_with, with_wrote}
use Rattle.end_pair.specs.Laws.{AreNoNotes}
use Rattle.end_pair.specs.Steps.{Stepped, entries_of, gives, made, slip_of, slipped, slips}
use Rattle.end_pair.proofs.ByteWays.{AreByteWays, bytes-after}
use Rattle.end_pair.proofs.Bytes.{AreBytes, are-written, behind}
use Rattle.end_pair.proofs.Causes.{never-early}
use Rattle.end_pair.proofs.Doing.{AreDone, AreOnWay, IsNext, NoSlipIn, are-done, deeds_by, no-slip, no-slip-first, on-way-first, step-deeds, step-no-slip, step-on-way}
use Rattle.end_pair.proofs.DoingMoves.{IsAt, deeds-moves, keep-done, line-moves, log-done, log_with-behind, own-base, own-doings, timely-done}
use Rattle.end_pair.proofs.EndedSteps.{cut-at-once, of-cut-step, of-whole-step}
use Rattle.end_pair.proofs.Renamed.{IsLike, like-of, renamed, renamed-slips, renamed-step, renaming-step}

-- ---- a step

-- the doings of a step are moves
pub record AreMoves {S : Type 0}
    (did : ℕ → List Doing → S → Type 0) (side : Side) (plans : LinePlans) (now : ℕ) (moves : List Move) (next : S)
    (noted : List Happening) (done : List Doing) : Type 0 where
  pub keep : KeepLaws plans (moves_with side now done moves)
  pub timely : AreTimely (moves_with side now done moves)
  pub no_slip : HasNoSlip (new_line plans.equipment.times plans.host.times) (deeds_of (moves_with side now done moves))
  pub at : IsAt did side plans (moves_with side now done moves) next
  pub log : log_of (moves_with side now done moves) ≡ entries_of side now noted ++ log_of moves

-- what a step has left is what its moves have made, but for at most an entry that is no note; and where it goes on, it
-- has come to its end
pub record HasStepped {S : Type 0}
    (did : ℕ → List Doing → S → Type 0) (side : Side) (plans : LinePlans) (now : ℕ) (moves : List Move)
    (step : Stepped S)
    : Type 0 where
  pub done : List Doing
  pub noted : List Happening
  pub are : AreMoves did side plans now moves step.end noted done
  pub last : List Entry
  pub few : length last ≤ 1
  pub no_notes : AreNoNotes last
  pub entries : step.entries ≡ last ++ entries_of side now noted
  pub how : AreOfWholeStep now done ⊎ AreOfCutStep now done
  pub ended : step.went ≡ answer.Went → AreOfWholeStep now done
  pub on :
      step.went ≡ answer.Went
      → (last ≡ []) × IsLike step.ways (line_of_moves plans (moves_with side now done moves)) × AreByteWays step.ways

-- behind these moves this end has lost its power, which leaves the line so and the directions so: what starts anew then
-- does so lawfully
pub record HasLostAll {S : Type 0}
    (did : ℕ → List Doing → S → Type 0) (side : Side) (plans : LinePlans) (machine_restart : Went S Happening)
    (ways : Ways) (moves : List Move) : Type 0 where
  pub state :
      (seen_at side plans moves).here.state ≡ line_of (plan_at side plans) (run_at side plans moves).doings
  pub received : whole_in (own_of (plan_at side plans) (run_at side plans moves).doings) ≡ None
  pub starts :
      OnStart
      (HasRestarted (plan_at side plans) did (run_at side plans moves).base (run_at side plans moves).doings)
      machine_restart
  pub dark :
      IsLike (without_power side ways)
      (line_after_deed (line_of_moves plans moves) (record { side = side; act = PowerLoss }))

-- what a step has left in which a disk has stopped it is what its first moves have made, before its end, and could have
-- gone on to a state
pub record HasStopped {S : Type 0}
    (did : ℕ → List Doing → S → Type 0) (side : Side) (plans : LinePlans) (now : ℕ) (moves : List Move)
    (step : Stepped S)
    : Type 0 where
  pub done : List Doing
  pub later : List Doing
  pub next : S
  pub begun : AreOfCutStep now done
  pub keep : KeepLaws plans (moves_with side now done moves)
  pub timely : AreTimely (moves_with side now done moves)
  pub no_slip : HasNoSlip (new_line plans.equipment.times plans.host.times) (deeds_of (moves_with side now done moves))
  pub could :
      did (run_at side plans (moves_with side now later (moves_with side now done moves))).base
      (run_at side plans (moves_with side now later (moves_with side now done moves))).doings next
  pub entries : step.entries ++ log_of moves ≡ log_of (moves_with side now done moves)

-- so is what a step has left in which its end's power was lost
pub record HasFallen {S C : Type 0}
    (did : ℕ → List Doing → S → Type 0) (machine : Machine S C) (side : Side) (plans : LinePlans) (now : ℕ)
    (moves : List Move) (step : Stepped S)
    : Type 0 where
  pub stopped : HasStopped did side plans now moves step
  pub lost :
      HasLostAll did side plans (machine.restart step.end now) step.ways (moves_with side now stopped.done moves)

module _ {S C : Type 0} (did : ℕ → List Doing → S → Type 0) (takes : C → Type 0) (first : Step S Happening)
    (machine : Machine S C)
    (side : Side) (plans : LinePlans) (law : KeepsLaw (plan_at side plans) did takes (Goes first) machine) where
  are-moves :
      (now : ℕ) (moves : List Move) (next : S) (done : List Doing) (noted : List Happening)
      → KeepLaws plans moves → AreTimely moves
      → HasNoSlip (new_line plans.equipment.times plans.host.times) (deeds_of moves)
      → did (run_at side plans moves).base (done ++ (run_at side plans moves).doings) next
      → AreDroppedAt now done
      → AreDone (plan_at side plans) side (line_of_moves plans moves) (run_at side plans moves).doings done
      → AreOnWay side (line_of_moves plans moves) (calls_in done)
      → HasNoSlip (line_of_moves plans moves) (deeds_by side (calls_in done)) → noted_in done ≡ noted
      → AreMoves did side plans now moves next noted done
  are-moves now moves next done noted keep timely clean is drops are on quiet same = record {
    timely = timely-done side now done moves drops timely;
    keep =
        keep-done side plans now done moves
        (law.keeps (run_at side plans moves).base (done ++ (run_at side plans moves).doings) next is).lawful on keep;
    no_slip =
        subst (λ (ds : List Deed). HasNoSlip (new_line plans.equipment.times plans.host.times) ds)
        (sym (deeds-moves side now done moves))
        (no-slip side (calls_in done) (new_line plans.equipment.times plans.host.times) (deeds_of moves) quiet clean);
    at = record {
      is =
          subst (λ (b : ℕ). did b (run_at side plans (moves_with side now done moves)).doings next)
          (sym (own-base side plans now done moves))
          (subst (λ (ds : List Doing). did (run_at side plans moves).base ds next)
          (sym (own-doings side plans now done moves)) is);
      state =
          ap (λ (l : Line). (seen_from side l).here.state) (line-moves plans side now done moves) ∙ are.state
          ∙ ap (line_of (plan_at side plans)) (sym (own-doings side plans now done moves));
    };
    log =
        log-done side now done moves ∙ ap (λ (ns : List Happening). log_with now side ns (log_of moves)) same
        ∙ log_with-behind now side noted [] (log_of moves);
  }

  -- what an end says behind its start
  pub said-moves :
      (now : ℕ) (moves : List Move) (next : S) (said : List Doing) → AreSaidAtStart said → KeepLaws plans moves
      → AreTimely moves → HasNoSlip (new_line plans.equipment.times plans.host.times) (deeds_of moves)
      → (seen_at side plans moves).here.state ≡ line_of (plan_at side plans) (run_at side plans moves).doings
      → did (run_at side plans moves).base (said ++ (run_at side plans moves).doings) next
      → AreMoves did side plans now moves next (noted_in said) said
  said-moves now moves next said are keep timely clean state is =
      are-moves now moves next said (noted_in said) keep timely clean is (said-dropped now said are)
      (are-done (plan_at side plans) run.base side line run.doings said state
      (law.keeps run.base (said ++ run.doings) next is).lawful on)
      on (subst (λ (cs : List LineCall). HasNoSlip line (deeds_by side cs)) (sym (said-calls said are)) tt) refl
    where
      run : Run
      run = run_at side plans moves

      line : Line
      line = line_of_moves plans moves

      on : AreOnWay side line (calls_in said)
      on = subst (AreOnWay side line) (sym (said-calls said are)) tt

  -- a step's doings on the line
  record IsStepping (line : Line) (doings done : List Doing) (step : Step S Happening) : Type 0 where
    are : AreDone (plan_at side plans) side line doings done
    on : AreOnWay side line (calls_in done)
    quiet : HasNoSlip line (deeds_by side (calls_in done))
    noted : noted_in done ≡ step.notes
    written : way.written_in line (deeds_by side (calls_in done)) ≡ step.written

  is-stepping :
      (base now : ℕ) (line : Line) (doings : List Doing) (Such : List LineCall → Type 0) {Ends : List Doing → Type 0}
      (step : Step S Happening) (more : DoesMore (plan_at side plans) did base doings now Such Ends step)
      → (seen_from side line).here.state ≡ line_of (plan_at side plans) doings
      → AreOnWay side line (calls_in more.done) → HasNoSlip line (deeds_by side (calls_in more.done))
      → IsStepping line doings more.done step
  is-stepping base now line doings Such step more state on quiet = record {
    are = are;
    on = on;
    quiet = quiet;
    noted = append_cancel_left (noted_in doings) (noted_in more.done) step.notes (sym (noted-behind more.done doings)
        ∙ more.notes);
    written =
        append_cancel_left (written_in (plan_at side plans) doings)
        (way.written_in line (deeds_by side (calls_in more.done))) step.written
        (sym are.written ∙ more.written);
  }
    where
      are : AreDone (plan_at side plans) side line doings more.done
      are =
          are-done (plan_at side plans) base side line doings more.done state
          (law.keeps base (more.done ++ doings) step.next more.is).lawful on

  -- the calls of a step can be made, and make no slip
  pub calls-on : (now : ℕ) (line : Line) (input : Input C) (calls : List LineCall) → AreOfStep input now calls
      → IsNext (seen_from side line).there.under_way input → AreOnWay side line calls
  calls-on now line input calls of next =
      subst (AreOnWay side line) (sym of.are) (step-on-way side input now line of.decided of.decisions next)

  pub calls-quiet : (now : ℕ) (line : Line) (input : Input C) (calls : List LineCall) → AreOfStep input now calls
      → NoSlipIn side now line input → HasNoSlip line (deeds_by side calls)
  calls-quiet now line input calls of quiet =
      subst (λ (cs : List LineCall). HasNoSlip line (deeds_by side cs)) (sym of.are)
      (step-no-slip side input now line of.decided of.decisions quiet)

  -- ---- what was written is noted behind all else

  wrote-calls : (written : List ℕ) (done : List Doing) → calls_in (with_wrote written done) ≡ calls_in done
  wrote-calls [] done = refl
  wrote-calls (byte ∷ bytes) done = refl

  wrote-dropped : (now : ℕ) (written : List ℕ) (done : List Doing) → AreDroppedAt now done
      → AreDroppedAt now (with_wrote written done)
  wrote-dropped now [] done drops = drops
  wrote-dropped now (byte ∷ bytes) done drops = drops

  wrote-noted : (written : List ℕ) (done : List Doing) → noted_in (with_wrote written done) ≡ noted_in done
      ++ wrote written
  wrote-noted [] done = sym (append-nil (noted_in done))
  wrote-noted (byte ∷ bytes) done = refl

  wrote-did : (written : List ℕ) (base : ℕ) (done doings : List Doing) (next : S) → did base (done ++ doings) next
      → did base (with_wrote written done ++ doings) next
  wrote-did [] base done doings next is = is
  wrote-did (byte ∷ bytes) base done doings next is =
      law.says base (done ++ doings) next (Wrote (byte ∷ bytes)) is (of_wrote (byte ∷ bytes))

  wrote-done : (written : List ℕ) (line : Line) (doings done : List Doing) → AreDone (plan_at side plans) side line
      doings done
      → AreDone (plan_at side plans) side line doings (with_wrote written done)
  wrote-done [] line doings done are = are
  wrote-done (byte ∷ bytes) line doings done are = record { state = are.state; run = are.run; written = are.written }

  -- a step in which the numbers are spent
  spent-moves :
      (now : ℕ) (moves : List Move) (s : S) (input : Input C) (step : Step S Happening) → KeepLaws plans moves
      → AreTimely moves
      → HasNoSlip (new_line plans.equipment.times plans.host.times) (deeds_of moves) → IsAt did side plans moves s
      → IsNext (seen_at side plans moves).there.under_way input → NoSlipIn side now (line_of_moves plans moves) input
      → (more : DoesMore (plan_at side plans) did (run_at side plans moves).base (run_at side plans moves).doings now
      (AreBegunOf input now) HasNoEnd step)
      → AreMoves did side plans now moves step.next step.notes more.done
  spent-moves now moves s input step keep timely clean at next quiet more =
      are-moves now moves step.next more.done step.notes keep timely clean more.is more.drops are.are are.on are.quiet
      are.noted
    where
      line : Line
      line = line_of_moves plans moves

      are : IsStepping line (run_at side plans moves).doings more.done step
      are =
          is-stepping (run_at side plans moves).base now line (run_at side plans moves).doings (AreBegunOf input now)
          step more at.state
          (on-way-first side line more.calls.later (calls_in more.done)
          (calls-on now line input (more.calls.later ++ calls_in more.done) more.calls.whole next))
          (no-slip-first side line more.calls.later (calls_in more.done)
          (calls-quiet now line input (more.calls.later ++ calls_in more.done) more.calls.whole quiet))

  -- a step that goes on, with the characters that it has written
  record HasMoved (now : ℕ) (moves : List Move) (input : Input C) (ways : Ways) (step : Step S Happening) : Type 0 where
    done : List Doing
    are : AreMoves did side plans now moves step.next (step.notes ++ wrote step.written) done
    whole : AreOfWholeStep now done
    bytes : AreBytes step.written
    ways_are :
        StandsFor (ways_after side (gives input) (machine.line step.next).phase step.written ways)
        (line_of_moves plans (moves_with side now done moves))

  goes-moves :
      (now : ℕ) (moves : List Move) (s : S) (input : Input C) (ways : Ways) (step : Step S Happening)
      → KeepLaws plans moves
      → AreTimely moves → HasNoSlip (new_line plans.equipment.times plans.host.times) (deeds_of moves)
      → IsAt did side plans moves s
      → IsNext (seen_at side plans moves).there.under_way input → NoSlipIn side now (line_of_moves plans moves) input
      → StandsFor ways (line_of_moves plans moves)
      → DoesMore (plan_at side plans) did (run_at side plans moves).base (run_at side plans moves).doings now
      (AreOfStep input now) EndsOnce step
      → HasMoved now moves input ways step
  goes-moves now moves s input ways step keep timely clean at next quiet stands more = record {
    done = all;
    are =
        are-moves now moves step.next all (step.notes ++ wrote step.written) keep timely clean
        (wrote-did step.written run.base more.done run.doings step.next more.is)
        (wrote-dropped now step.written more.done more.drops) (wrote-done step.written line run.doings more.done
        are.are)
        (subst (AreOnWay side line) (sym (wrote-calls step.written more.done)) are.on)
        (subst (λ (cs : List LineCall). HasNoSlip line (deeds_by side cs)) (sym (wrote-calls step.written more.done))
        are.quiet)
        (wrote-noted step.written more.done ∙ ap (λ (ns : List Happening). ns ++ wrote step.written) are.noted);
    whole = of-whole-step input now more.done step.written more.calls more.ends;
    bytes =
        behind (written_in (plan_at side plans) run.doings) step.written
        (subst AreBytes more.written
        (are-written (plan_at side plans) run.base (more.done ++ run.doings)
        (law.keeps run.base (more.done ++ run.doings) step.next more.is).lawful).bytes);
    ways_are =
        subst (StandsFor (ways_after side (gives input) (machine.line step.next).phase step.written ways))
        (ap (line_after line) (sym deeds_are) ∙ ap (λ (cs : List LineCall). line_after line (deeds_by side cs))
        (sym (wrote-calls step.written more.done))
        ∙ sym (line-moves plans side now all moves))
        (step-stands side (gives input) (machine.line step.next).phase step.written ways line now more.calls.decided
        stands (record {
          decided = deeds.1;
          run = subst (IsRun line) deeds_are are.are.run;
          phase_is =
              ap (λ (ds : List Deed). (seen_from side (line_after line ds)).here.state.phase) (sym deeds_are)
              ∙ ap (λ (state : LineState). state.phase)
              (are.are.state ∙ sym (law.keeps run.base (more.done ++ run.doings) step.next more.is).line_is);
          written_is = ap (way.written_in line) (sym deeds_are) ∙ are.written;
        }));
  }
    where
      run : Run
      run = run_at side plans moves

      line : Line
      line = line_of_moves plans moves

      all : List Doing
      all = with_wrote step.written more.done

      are : IsStepping line run.doings more.done step
      are =
          is-stepping run.base now line run.doings (AreOfStep input now) step more at.state
          (calls-on now line input (calls_in more.done) more.calls next)
          (calls-quiet now line input (calls_in more.done) more.calls quiet)

      deeds :
          (deeds_by side (more.calls.decided ++ taking_calls input now) ≡ step_deeds side now (gives input)
          more.calls.decided)
          × AreDecisions more.calls.decided
      deeds = step-deeds side input now more.calls.decided more.calls.decisions

      deeds_are : deeds_by side (calls_in more.done) ≡ step_deeds side now (gives input) more.calls.decided
      deeds_are = ap (deeds_by side) more.calls.are ∙ deeds.0

  -- no slip was found before the step
  no-slip-in :
      (now : ℕ) (moves : List Move) (s : S) (input : Input C) (ways : Ways) → IsAt did side plans moves s
      → StandsFor ways (line_of_moves plans moves) → slips machine side now input s ways ≡ false
      → NoSlipIn side now (line_of_moves plans moves) input
  no-slip-in now moves s Time ways at stands none = tt
  no-slip-in now moves s (Command command) ways at stands none = tt
  no-slip-in now moves s (Char byte) ways at stands none =
      slip-stands side ways (line_of_moves plans moves) now (machine.line s).phase
      (is_due (machine.line s).deadline now) None stands
      (record {
        phase_is = ap (λ (state : LineState). state.phase) same;
        late = λ gathers. ap (λ (state : LineState). is_due state.deadline now) same;
      }) none
    where
      same : (seen_at side plans moves).here.state ≡ machine.line s
      same = at.state ∙ sym (law.keeps (run_at side plans moves).base (run_at side plans moves).doings s at.is).line_is

  -- the directions are those of the line but for the names of frames
  abbrev pub LikeMoves : Ways → List Move → Type 0
  LikeMoves ways moves = IsLike ways (line_of_moves plans moves)

  pub like-no-slip :
      (now : ℕ) (moves : List Move) (s : S) (input : Input C) (ways : Ways) → IsAt did side plans moves s
      → LikeMoves ways moves → slips machine side now input s ways ≡ false
      → NoSlipIn side now (line_of_moves plans moves) input
  like-no-slip now moves s input ways at like none =
      no-slip-in now moves s input (renamed like.name ways) at like.stands
      (renamed-slips machine like.name side now input s ways like.is ∙ none)

  -- a slip, found before it, leaves all as it was
  pub has-slipped :
      (now : ℕ) (moves : List Move) (reach : Reach) (s : S) (ways : Ways) → KeepLaws plans moves
      → AreTimely moves → HasNoSlip (new_line plans.equipment.times plans.host.times) (deeds_of moves)
      → IsAt did side plans moves s
      → HasStepped did side plans now moves (slipped side now reach s ways)
  has-slipped now moves reach s ways keep timely clean at = record {
    done = [];
    noted = [];
    are = record { keep = keep; timely = timely; no_slip = clean; at = at; log = refl };
    last = slip_of side now ways ∷ [];
    few = omega arith;
    no_notes = (tt, tt);
    entries = refl;
    how = inr (cut-at-once now);
    ended = λ on. cc;
    on = λ on. cc;
  }

  pub has-made :
      (now : ℕ) (moves : List Move) (left : Reach) (s : S) (input : Input C) (ways : Ways) → MayTake takes input
      → KeepLaws plans moves → AreTimely moves
      → HasNoSlip (new_line plans.equipment.times plans.host.times) (deeds_of moves)
      → IsAt did side plans moves s
      → IsNext (seen_at side plans moves).there.under_way input → LikeMoves ways moves
      → AreByteWays ways → slips machine side now input s ways ≡ false
      → HasStepped did side plans now moves (made machine side now left input s ways (machine.act s input now))
  has-made now moves left s input ways may keep timely clean at next like bytes none =
      by_went (like-no-slip now moves s input ways at like none) (machine.act s input now)
      (law.goes_on run.base run.doings s input now at.is may)
    where
      run : Run
      run = run_at side plans moves

      by_went : NoSlipIn side now (line_of_moves plans moves) input → (went : Went S Happening)
          → DoesStep (plan_at side plans) did run.base run.doings input now went
          → HasStepped did side plans now moves (made machine side now left input s ways went)
      by_went quiet (Goes step) more =
          let moved =
          goes-moves now moves s input (renamed like.name ways) step keep timely clean at next quiet like.stands more in
          record {
            done = moved.done;
            noted = step.notes ++ wrote step.written;
            are = moved.are;
            last = [];
            few = omega arith;
            no_notes = tt;
            entries = refl;
            how = inl moved.whole;
            ended = λ on. moved.whole;
            on = λ on. (
              refl,
              like-of ways (ways_after side (gives input) (machine.line step.next).phase step.written ways)
                  (line_of_moves plans moves) (line_of_moves plans (moves_with side now moved.done moves)) like
                  (renaming-step like.name side (gives input) (machine.line step.next).phase step.written ways like.is)
                  (subst (λ (w : Ways). StandsFor w (line_of_moves plans (moves_with side now moved.done moves)))
                  (sym (renamed-step like.name side (gives input) (machine.line step.next).phase step.written ways
                  like.is)) moved.ways_are),
              bytes-after side (gives input) (machine.line step.next).phase step.written ways moved.bytes bytes,
            );
          }
      by_went quiet (Spent step) more = record {
        done = more.done;
        noted = step.notes;
        are = spent-moves now moves s input step keep timely clean at next quiet more;
        last = [];
        few = omega arith;
        no_notes = tt;
        entries = refl;
        how = inr (of-cut-step input now more.done more.calls more.ends);
        ended = λ on. absurd (never-early (machine.lacks_room s input now) on);
        on = λ on. absurd (never-early (machine.lacks_room s input now) on);
      }
