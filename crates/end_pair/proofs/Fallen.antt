-- A step that a disk stops: what its end has done by then, as moves; and the line behind a loss of power.
use Rattle.std.proofs.Common.{◌≡◌, ◌⊎◌, inl, inr, ℕ, Bool, false, List, [], ◌∷◌, ◌++◌, sym, ap, subst, ◌∙◌}
use Rattle.std.proofs.lemmas.List.{append_cancel_left}
use Rattle.disk_base.specs.declared.cut.CutChoice.{CutChoice}
use Rattle.gl_base.specs.declared.side.Side.{Side}
use Rattle.line_end.specs.declared.event.Phase.{Phase}
use Rattle.line_end.specs.Step.{LineCall}
use Rattle.line_end.specs.Step.LineCall.{Take, Tick}
use Rattle.line_order.specs.Acts.{Deed, HasNoSlip, IsRun, line_after, line_after_deed}
use Rattle.line_order.specs.Acts.Act.{PowerLoss}
use Rattle.line_order.specs.Line.{Line, new_line, seen_from}
use Rattle.line_way.specs.Kept.{ways_after, without_power}
use Rattle.line_way.specs.Step as way
use Rattle.line_way.specs.Step.{AreDecisions, step_deeds}
use Rattle.line_way.specs.Ways.{StandsFor, Ways}
use Rattle.line_way.proofs.Deeds.{power-stands}
use Rattle.line_way.proofs.Steps.{step-stands}
use Rattle.message_end.specs.Core.{Step}
use Rattle.message_end.specs.Core.Went.{Goes}
use Rattle.message_end.specs.Doings.{Doing, line_of, own_of}
use Rattle.message_end.specs.Ends.{AreDecidedAt, AreOfStep, GoesSoFar, HasRestarted, Input, KeepsLaw, Loss, LosesAt, Machine, MayTake, OnStart, taking_calls}
use Rattle.message_end.specs.Ends.Input.{Char, Command, Time}
use Rattle.message_end.specs.History.{noted_in}
use Rattle.message_end.specs.InStep.{NoneEnds}
use Rattle.message_end.specs.Log.{log_of}
use Rattle.message_end.specs.LineCalls.{calls_in}
use Rattle.message_end.specs.Moves.{AreTimely, KeepLaws, LinePlans, Move, deeds_of, Run, line_of_moves, plan_at, run_at, seen_at}
use Rattle.message_end.specs.Own.{Has, whole_in}
use Rattle.message_end.proofs.Fronts.{noted-behind}
use Rattle.trace_log.specs.Laws.{log_with}
use Rattle.trace_log.specs.Log.{Happening}
use Rattle.end_pair.specs.InSteps.{moves_with}
use Rattle.end_pair.specs.Steps.{gives, slips, stopped_at, stopped_for}
use Rattle.end_pair.proofs.Doing.{AreDone, AreOnWay, IsNext, NoSlipIn, are-done, deeds_by, no-slip, no-slip-first, on-way-first, step-deeds}
use Rattle.end_pair.proofs.DoingMoves.{IsAt, deeds-moves, keep-done, line-moves, log-done, log_with-behind, own-base, own-doings, timely-done}
use Rattle.end_pair.proofs.EndedSteps.{none-done, of-cut-step}
use Rattle.end_pair.proofs.Moved.{HasFallen, HasLostAll, HasStopped, calls-on, calls-quiet, like-no-slip}
use Rattle.end_pair.proofs.Renamed.{IsLike, dark-like, renamed, renamed-dark, renaming-dark}

-- ---- the first calls of a step are none, the timer alone, or those of a step

tail-same : {X : Type 0} (x y : X) (xs ys : List X) → x ∷ xs ≡ y ∷ ys → xs ≡ ys
tail-same x y xs ys same = cc

none-left : {X : Type 0} (xs ys : List X) → xs ++ ys ≡ [] → ys ≡ []
none-left [] ys none = none
none-left (x ∷ xs) ys none = absurd (cc)

-- the calls of a step, or of one at a look at the clock
abbrev AreSome : {C : Type 0} → Input C → ℕ → List LineCall → Type 0
AreSome {C} input now calls = AreOfStep input now calls ⊎ AreOfStep {C = C} Time now calls

abbrev AreFew : {C : Type 0} → Input C → ℕ → List LineCall → Type 0
AreFew input now calls = (calls ≡ []) ⊎ AreSome input now calls

as-time : {C : Type 0} (input : Input C) (now : ℕ) (calls : List LineCall) → AreFew {C = C} Time now calls
    → AreFew input now calls
as-time input now calls (inl none) = inl none
as-time input now calls (inr (inl of)) = inr (inr of)
as-time input now calls (inr (inr of)) = inr (inr of)

-- a call that is taken off the front, where those behind it are some
begun-on :
    {C : Type 0} (input : Input C) (now : ℕ) (call : LineCall) (later calls : List LineCall)
    → ((other : Input C) → AreOfStep other now (later ++ calls) → AreFew other now calls) → (decided : List LineCall)
    → call ∷ (later ++ calls) ≡ decided ++ taking_calls input now → AreDecidedAt now decided → AreFew input now calls
begun-on input now call later calls rest (first ∷ decided) are decisions =
    rest input (record {
      decided = decided;
      are = tail-same call first (later ++ calls) (decided ++ taking_calls input now) are;
      decisions = decisions.1;
    })
begun-on (Char byte) now call later calls rest [] are decisions =
    as-time (Char byte) now calls
    (rest Time (record {
      decided = [];
      are = tail-same call (Take byte now) (later ++ calls) (Tick now ∷ []) are;
      decisions = tt;
    }))
begun-on Time now call later calls rest [] are decisions =
    inl (none-left later calls (tail-same call (Tick now) (later ++ calls) [] are))
begun-on (Command command) now call later calls rest [] are decisions =
    inl (none-left later calls (tail-same call (Tick now) (later ++ calls) [] are))

begun : {C : Type 0} (input : Input C) (now : ℕ) (later calls : List LineCall) → AreOfStep input now (later ++ calls)
    → AreFew input now calls
begun input now [] calls of = inr (inl of)
begun input now (call ∷ later) calls of =
    begun-on input now call later calls (λ other some. begun other now later calls some) of.decided of.are of.decisions

-- ---- the line without power

abbrev dark : Side → Line → Line
dark side line = line_after_deed line (record { side = side; act = PowerLoss })

-- the power goes where nothing was called since
dark-now : (side : Side) (ways : Ways) (line : Line) → IsLike ways line
    → IsLike (without_power side ways) (dark side line)
dark-now side ways line like = record {
  name = like.name;
  is = renaming-dark like.name side ways like.is;
  stands =
      subst (λ (w : Ways). StandsFor w (dark side line)) (sym (renamed-dark like.name side ways))
      (power-stands side (renamed like.name ways) line like.stands);
}

-- or behind calls of a step
dark-behind :
    {C : Type 0} (side : Side) (input : Input C) (now : ℕ) (calls : List LineCall) (ways : Ways) (line : Line)
    → IsLike ways line → IsRun line (deeds_by side calls) → AreOfStep input now calls
    → IsLike (without_power side ways) (dark side (line_after line (deeds_by side calls)))
dark-behind side input now calls ways line like run of =
    dark-like (gives input) phase written ways line (dark side after) like side
    (power-stands side (ways_after side (gives input) phase written (renamed like.name ways)) after
    (subst (λ (ds : List Deed).
    StandsFor (ways_after side (gives input) phase written (renamed like.name ways)) (line_after line ds))
    (sym deeds_are)
    (step-stands side (gives input) phase written (renamed like.name ways) line now of.decided like.stands
    (record {
      decided = deeds.1;
      run = subst (IsRun line) deeds_are run;
      phase_is =
          ap (λ (ds : List Deed). (seen_from side (line_after line ds)).here.state.phase) (sym deeds_are);
      written_is = ap (way.written_in line) (sym deeds_are);
    }))))
  where
    after : Line
    after = line_after line (deeds_by side calls)

    phase : Phase
    phase = (seen_from side after).here.state.phase

    written : List ℕ
    written = way.written_in line (deeds_by side calls)

    deeds :
        (deeds_by side (of.decided ++ taking_calls input now) ≡ step_deeds side now (gives input) of.decided)
        × AreDecisions of.decided
    deeds = step-deeds side input now of.decided of.decisions

    deeds_are : deeds_by side calls ≡ step_deeds side now (gives input) of.decided
    deeds_are = ap (deeds_by side) of.are ∙ deeds.0

dark-few :
    {C : Type 0} (side : Side) (input : Input C) (now : ℕ) (calls : List LineCall) (ways : Ways) (line : Line)
    → IsLike ways line → IsRun line (deeds_by side calls) → AreFew input now calls
    → IsLike (without_power side ways) (dark side (line_after line (deeds_by side calls)))
dark-few side input now calls ways line like run (inl none) =
    subst (λ (cs : List LineCall). IsLike (without_power side ways)
    (dark side (line_after line (deeds_by side cs))))
    (sym none) (dark-now side ways line like)
dark-few side input now calls ways line like run (inr (inl of)) = dark-behind side input now calls ways line like run of
dark-few {C} side input now calls ways line like run (inr (inr of)) =
    dark-behind {C = C} side Time now calls ways line like run of

-- ---- the step

module _ {S C : Type 0} (did : ℕ → List Doing → S → Type 0) (takes : C → Type 0) (first : Step S Happening)
    (machine : Machine S C) (side : Side) (plans : LinePlans)
    (law : KeepsLaw (plan_at side plans) did takes (Goes first) machine) (now : ℕ) (choice : CutChoice)
    (moves : List Move) (s : S) (input : Input C) (ways : Ways) (may : MayTake takes input)
    (keep : KeepLaws plans moves)
    (timely : AreTimely moves) (clean : HasNoSlip (new_line plans.equipment.times plans.host.times) (deeds_of moves))
    (at : IsAt did side plans moves s) (next : IsNext (seen_at side plans moves).there.under_way input)
    (like : IsLike ways (line_of_moves plans moves)) (none : slips machine side now input s ways ≡ false)
    (loss : Loss S) (has : Has (machine.losses s input now) loss) where
  abbrev run : Run
  run = run_at side plans moves

  abbrev line : Line
  line = line_of_moves plans moves

  abbrev pub loses : LosesAt (plan_at side plans) did run.base run.doings input now loss.front
      (machine.restart (loss.left choice) now)
  loses = law.loses run.base run.doings s input now at.is may loss has choice

  abbrev so_far : GoesSoFar (plan_at side plans) did run.base run.doings input now loss.front
  so_far = loses.so_far

  abbrev done : List Doing
  done = so_far.done

  abbrev after : List Move
  after = moves_with side now done moves

  abbrev all : List Move
  all = moves_with side now so_far.later after

  pub quiet : NoSlipIn side now line input
  quiet = like-no-slip did takes first machine side plans law now moves s input ways at like none

  pub on : AreOnWay side line (calls_in done)
  on =
      on-way-first side line so_far.calls.later (calls_in done)
      (calls-on did takes first machine side plans law now line input (so_far.calls.later ++ calls_in done)
      so_far.calls.whole next)

  pub are : AreDone (plan_at side plans) side line run.doings done
  are = are-done (plan_at side plans) run.base side line run.doings done at.state so_far.lawful on

  pub noted : noted_in done ≡ loss.front
  noted =
      append_cancel_left (noted_in run.doings) (noted_in done) loss.front
      (sym (noted-behind done run.doings) ∙ so_far.notes)

  abbrev pub has-stopped : (is_lost : Bool)
      → HasStopped did side plans now moves (stopped_at side now choice ways (stopped_for side is_lost) loss)
  has-stopped is_lost = record {
    done = done;
    later = so_far.later;
    next = so_far.next;
    begun = of-cut-step input now done so_far.calls (none-done done (subst NoneEnds (sym noted) loses.unended));
    keep = keep-done side plans now done moves so_far.lawful on keep;
    timely = timely-done side now done moves so_far.drops timely;
    no_slip =
        subst (λ (ds : List Deed). HasNoSlip (new_line plans.equipment.times plans.host.times) ds)
        (sym (deeds-moves side now done moves))
        (no-slip side (calls_in done) (new_line plans.equipment.times plans.host.times) (deeds_of moves)
        (no-slip-first side line so_far.calls.later (calls_in done)
        (calls-quiet did takes first machine side plans law now line input (so_far.calls.later ++ calls_in done)
        so_far.calls.whole quiet))
        clean);
    could =
        subst (λ (b : ℕ). did b (run_at side plans all).doings so_far.next)
        (sym (own-base side plans now so_far.later after ∙ own-base side plans now done moves))
        (subst (λ (ds : List Doing). did run.base ds so_far.next)
        (sym (own-doings side plans now so_far.later after
        ∙ ap (λ (ds : List Doing). so_far.later ++ ds) (own-doings side plans now done moves)))
        so_far.could);
    entries =
        sym (log-done side now done moves
        ∙ ap (λ (ns : List Happening). log_with now side ns (log_of moves)) noted
        ∙ log_with-behind now side loss.front [] (log_of moves));
  }

-- where its power is lost
module _ {S C : Type 0} (did : ℕ → List Doing → S → Type 0) (takes : C → Type 0) (first : Step S Happening)
    (machine : Machine S C) (side : Side) (plans : LinePlans)
    (law : KeepsLaw (plan_at side plans) did takes (Goes first) machine) (now : ℕ) (choice : CutChoice)
    (moves : List Move) (s : S) (input : Input C) (ways : Ways) (may : MayTake takes input)
    (keep : KeepLaws plans moves)
    (timely : AreTimely moves) (clean : HasNoSlip (new_line plans.equipment.times plans.host.times) (deeds_of moves))
    (at : IsAt did side plans moves s) (next : IsNext (seen_at side plans moves).there.under_way input)
    (like : IsLike ways (line_of_moves plans moves)) (none : slips machine side now input s ways ≡ false)
    (loss : Loss S) (has : Has (machine.losses s input now) loss) where
  abbrev lost : LosesAt (plan_at side plans) did (run_at side plans moves).base
      (run_at side plans moves).doings input now loss.front (machine.restart (loss.left choice) now)
  lost =
      loses did takes first machine side plans law now choice moves s input ways may keep timely clean at next like
      none loss has

  abbrev by_then : List Doing
  by_then = lost.so_far.done

  there : AreDone (plan_at side plans) side (line_of_moves plans moves) (run_at side plans moves).doings
      by_then
  there =
      are did takes first machine side plans law now choice moves s input ways may keep timely clean at next like
      none loss has

  pub has-fallen : (is_lost : Bool)
      → HasFallen did machine side plans now moves (stopped_at side now choice ways (stopped_for side is_lost) loss)
  has-fallen is_lost = record {
    stopped =
        has-stopped did takes first machine side plans law now choice moves s input ways may keep timely clean at
        next like none loss has is_lost;
    lost = record {
      state =
          ap (λ (l : Line). (seen_from side l).here.state) (line-moves plans side now by_then moves)
          ∙ there.state ∙ ap (line_of (plan_at side plans)) (sym (own-doings side plans now by_then moves));
      received =
          ap (λ (ds : List Doing). whole_in (own_of (plan_at side plans) ds))
          (own-doings side plans now by_then moves)
          ∙ lost.so_far.received;
      starts =
          subst (λ (b : ℕ).
          OnStart
          (HasRestarted (plan_at side plans) did b
          (run_at side plans (moves_with side now by_then moves)).doings)
          (machine.restart (loss.left choice) now)) (sym (own-base side plans now by_then moves))
          (subst (λ (ds : List Doing).
          OnStart (HasRestarted (plan_at side plans) did (run_at side plans moves).base ds)
          (machine.restart (loss.left choice) now))
          (sym (own-doings side plans now by_then moves)) lost.starts);
      dark =
          subst (λ (l : Line). IsLike (without_power side ways) (dark side l))
          (sym (line-moves plans side now by_then moves))
          (dark-few side input now (calls_in by_then) ways (line_of_moves plans moves) like there.run
          (begun input now lost.so_far.calls.later (calls_in by_then) lost.so_far.calls.whole));
    };
  }

-- and where nothing was done since a whole step
pub lost-between :
    {S C : Type 0} (did : ℕ → List Doing → S → Type 0) (takes : C → Type 0) (first : Step S Happening)
    (machine : Machine S C) (side : Side) (plans : LinePlans)
    (law : KeepsLaw (plan_at side plans) did takes (Goes first) machine) (now : ℕ) (moves : List Move) (s : S)
    (ways : Ways) → IsAt did side plans moves s → IsLike ways (line_of_moves plans moves)
    → HasLostAll did side plans (machine.restart s now) ways moves
lost-between did takes first machine side plans law now moves s ways at like = record {
  state = at.state;
  received = (law.keeps (run_at side plans moves).base (run_at side plans moves).doings s at.is).received;
  starts = law.restarts (run_at side plans moves).base (run_at side plans moves).doings s now at.is;
  dark = dark-now side ways (line_of_moves plans moves) like;
}
