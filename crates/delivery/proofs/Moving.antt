-- What a move keeps of two ends on their line.
use Rattle.std.specs.Prelude.{◌≡◌, ℕ, Bool, false, List, [], ◌∷◌, Option, Some, None, refl}
use Rattle.std.proofs.Common.{sym, ap, ◌∙◌, subst}
use Rattle.block_codec.specs.Block.{BlockView}
use Rattle.gl_base.specs.declared.side.Side.{Side}
use Rattle.line_end.specs.declared.plan.Times.{Times}
use Rattle.line_end.specs.Runs.{CanCall}
use Rattle.line_end.specs.State.{LineState, new_state}
use Rattle.line_end.specs.Step.{LineCall, line_step}
use Rattle.line_end.specs.Step.LineCall.{Cancel, Resume, Send, Take, Tick}
use Rattle.line_end.proofs.Small.{step_facts}
use Rattle.line_order.specs.Acts.{Act, CanAct, act_here, called, given_after, handed, received, slips_here, slips_in_call, slips_in_hand, with_way}
use Rattle.line_order.specs.Characters.{Character, writes_frame}
use Rattle.line_order.specs.Laws.{ComesInOrder}
use Rattle.line_order.specs.Line.{View, are_all_of, whole_frame}
use Rattle.line_order.proofs.Given.{found}
use Rattle.message_end.specs.Doings.{Doing, IsLawful, IsNoSend, MayCall, line_of, moment_of, own_of, with_call, with_frame}
use Rattle.message_end.specs.Doings.Doing.{Calls, Does, Gives, Says}
use Rattle.message_end.specs.Own.{Own}
use Rattle.message_end.specs.Own.Own.{DrewNumber, DroppedMessage, GaveBlock, HeardBlock, ReceivedMessage, SentMessage, WroteFrame}
use Rattle.message_end.specs.Plan.{EndPlan, receiver_of}
use Rattle.message_end.specs.Moves.{IsNextByte, Kind, MayMove, Run, act_of, act_of_call, act_of_doing, run_after}
use Rattle.message_end.specs.Moves.Kind.{Added, Changed, Did, Lost, Started}
use Rattle.message_end.proofs.LineKept.{side-kept, times-kept}
use Rattle.message_flow.specs.Laws.{BlocksMakeMessages}
use Rattle.delivery.proofs.Ends.{AreEnds, History, LineSide, history_of, line_side, turned-ends}
use Rattle.delivery.proofs.Steps.{beside_wrote, ends-drew, ends-dropped, ends-gave, ends-heard, ends-held, ends-received, ends-sent, ends-started, ends-wrote, part_wrote}

abbrev pub AreSeen : EndPlan → EndPlan → View → Run → Run → Type 0
AreSeen plan other view run theirs =
    AreEnds plan other (line_side view.here view.written view.lost) (line_side view.there view.written view.lost)
    (history_of plan run) (history_of other theirs)

-- the states of the line are those of the doings, and the tags fit
pub record Holds (plan other : EndPlan) (view : View) (run theirs : Run) : Type 0 where
  pub here_state : view.here.state ≡ line_of plan run.doings
  pub there_state : view.there.state ≡ line_of other theirs.doings
  pub ends : AreSeen plan other view run theirs

abbrev pub turned_view : View → View
turned_view view = record { here = view.there; there = view.here; written = view.written; lost = view.lost }

pub turned-holds : (plan other : EndPlan) (view : View) (run theirs : Run) → Holds plan other view run theirs
    → Holds other plan (turned_view view) theirs run
turned-holds plan other view run theirs is = record {
  here_state = is.there_state;
  there_state = is.here_state;
  ends =
      turned-ends plan other (line_side view.here view.written view.lost) (line_side view.there view.written view.lost)
      (history_of plan run) (history_of other theirs) is.ends;
}

abbrev pub acted : Option Act → View → View
acted None view = view
acted (Some act) view = act_here act view

abbrev pub slips_in : Option Act → View → Bool
slips_in None view = false
slips_in (Some act) view = slips_here act view

abbrev pub CanDoOne : LineState → Option Act → Type 0
CanDoOne s None = Unit {0}
CanDoOne s (Some act) = CanAct s act

-- ---- the acts of a lawful move can be done

can-call : (s : LineState) (call : LineCall) → IsNoSend call → CanCall s call
    → CanAct s (act_of_call call)
can-call s (Send block now) no_send can = absurd no_send
can-call s (Resume now) no_send can = (can, tt)
can-call s Cancel no_send can = (can, tt)
can-call s (Take byte now) no_send can = tt
can-call s (Tick now) no_send can = (can, tt)

can-do : (plan : EndPlan) (run : Run) (doing : Doing) → IsLawful plan run.base run.doings doing
    → CanDoOne (line_of plan run.doings) (act_of_doing doing)
can-do plan run (Does own) may = tt
can-do plan run (Gives place number block now) may = (may.can, may.in_block)
can-do plan run (Calls call) may = can-call (line_of plan run.doings) call may.no_send may.can
can-do plan run (Says what) may = tt

pub can-act : (plan : EndPlan) (way : List Character) (run : Run) (kind : Kind) (s : LineState)
    → s ≡ line_of plan run.doings
    → MayMove plan way run kind → CanDoOne s (act_of kind)
can-act plan way run (Did doing) s same may =
    subst (λ (state : LineState). CanDoOne state (act_of_doing doing)) (sym same)
    (can-do plan run doing may.0)
can-act plan way run (Started note base) s same may = tt
can-act plan way run Lost s same may = tt
can-act plan way run (Changed place byte) s same may = tt
can-act plan way run (Added byte) s same may = tt

-- ---- each kind of move

module _ (make : BlocksMakeMessages) (plan other : EndPlan) where
  own-step : (view : View) (run theirs : Run) (own : Own) → IsLawful plan run.base run.doings (Does own)
      → Holds plan other view run theirs
      → AreSeen plan other view (run_after plan view.here.arrived (Did (Does own)) run) theirs
  own-step view run theirs (DrewNumber number) may is =
      ends-drew plan other (line_side view.here view.written view.lost) (line_side view.there view.written view.lost)
      (history_of plan run) (history_of other theirs) is.ends number may.1.least
  own-step view run theirs (SentMessage message) may is =
      ends-sent plan other (line_side view.here view.written view.lost) (line_side view.there view.written view.lost)
      (history_of plan run) (history_of other theirs) is.ends make message may.1
  own-step view run theirs (GaveBlock place number) may is = absurd may.1
  own-step view run theirs (WroteFrame place number) may is = absurd may.1
  own-step view run theirs (HeardBlock block now flow) may is = absurd may.1
  own-step view run theirs (DroppedMessage header now) may is =
      ends-dropped plan other (line_side view.here view.written view.lost) (line_side view.there view.written view.lost)
      (history_of plan run) (history_of other theirs) is.ends make header now
  own-step view run theirs (ReceivedMessage message) may is =
      ends-received plan other (line_side view.here view.written view.lost)
      (line_side view.there view.written view.lost)
      (history_of plan run) (history_of other theirs) is.ends make message may.1

  given-same : (call : LineCall) (given : List BlockView) → IsNoSend call → given ≡ given_after call given
  given-same (Send block now) given no_send = absurd no_send
  given-same (Resume now) given no_send = refl
  given-same Cancel given no_send = refl
  given-same (Take byte now) given no_send = refl
  given-same (Tick now) given no_send = refl

  -- a call of the line that gives it no block
  called-step : (taken : List Character) (call : LineCall) (view : View) (run theirs : Run)
      → MayCall plan.side (line_of plan run.doings) (own_of plan run.doings) call
      → slips_in_call taken call view ≡ false
      → ComesInOrder (called taken call view).there.given (called taken call view).here.arrived
      → Holds plan other view run theirs
      → Holds plan other (called taken call view) (record run { doings = Calls call ∷ run.doings }) theirs
  called-step taken call view run theirs may slip order is = record {
    here_state = ap (λ (s : LineState). (line_step s call).next) is.here_state;
    there_state = is.there_state;
    ends =
        subst
        (λ (given : List BlockView). AreEnds plan other (record after { given = given })
        (line_side view.there (called taken call view).written view.lost)
        (history_of plan (record run { doings = Calls call ∷ run.doings })) (history_of other theirs))
        (given-same call view.here.given may.no_send)
        (subst
        (λ (s : LineState). AreEnds plan other after
        (line_side view.there (called taken call view).written view.lost)
        (record before { own = with_call (receiver_of plan) call s (own_of plan run.doings) })
        (history_of other theirs))
        is.here_state heard);
  }
    where
      s : LineState
      s = view.here.state

      before : History
      before = history_of plan run

      here : LineSide
      here = line_side view.here view.written view.lost

      there : LineSide
      there = line_side view.there view.written view.lost

      bytes : List ℕ
      bytes = (line_step view.here.state call).written

      after : LineSide
      after = record (line_side (called taken call view).here (called taken call view).written view.lost) {
        given = view.here.given;
      }

      at_state : MayCall plan.side view.here.state (own_of plan run.doings) call
      at_state =
          subst (λ (state : LineState). MayCall plan.side state (own_of plan run.doings) call) (sym is.here_state) may

      written : AreEnds plan other
          (part_wrote plan other here there before (history_of other theirs) is.ends
          (writes_frame (line_step view.here.state call).written) (line_step view.here.state call).written here)
          (beside_wrote plan other here there before (history_of other theirs) is.ends
          (writes_frame (line_step view.here.state call).written) here there)
          (record before { own = with_frame (writes_frame (line_step view.here.state call).written) before.own })
          (history_of other theirs)
      written =
          ends-wrote plan other here there before (history_of other theirs) is.ends make
          (line_step view.here.state call).written refl (step_facts view.here.state call).written at_state.frame

      held : AreEnds plan other
          (record (part_wrote plan other here there before (history_of other theirs) is.ends
          (writes_frame (line_step view.here.state call).written) (line_step view.here.state call).written here)
          { held = (line_step view.here.state call).next.held })
          (beside_wrote plan other here there before (history_of other theirs) is.ends
          (writes_frame (line_step view.here.state call).written) here there)
          (record before { own = with_frame (writes_frame (line_step view.here.state call).written) before.own })
          (history_of other theirs)
      held =
          ends-held plan other _ _ _ (history_of other theirs) written call
          (line_step view.here.state call).next.held may.no_send (step_facts view.here.state call).held

      heard : AreEnds plan other after (line_side view.there (called taken call view).written view.lost)
          (record before { own = with_call (receiver_of plan) call view.here.state (own_of plan run.doings) })
          (history_of other theirs)
      heard =
          ends-heard plan other _ _ _ (history_of other theirs) held make (line_step view.here.state call).event
          (whole_frame (received view.here taken) view.there.frames) (moment_of call) slip
          (λ frame is_found. (found (are_all_of (received view.here taken)) view.there.frames frame is_found).0) refl
          order

  pub move-step : (view : View) (run theirs : Run) (kind : Kind) → MayMove plan view.there.under_way run kind
      → slips_in (act_of kind) view ≡ false
      → ComesInOrder (acted (act_of kind) view).there.given (acted (act_of kind) view).here.arrived
      → Holds plan other view run theirs
      → Holds plan other (acted (act_of kind) view) (run_after plan view.here.arrived kind run) theirs
  move-step view run theirs (Did (Does own)) may slip order is = record {
    here_state = is.here_state;
    there_state = is.there_state;
    ends = own-step view run theirs own may.0 is;
  }
  move-step view run theirs (Did (Gives place number block now)) may slip order is = record {
    here_state = ap (λ (s : LineState). (line_step s (Send block now)).next) is.here_state;
    there_state = is.there_state;
    ends =
        ends-gave plan other (line_side view.here view.written view.lost) (line_side view.there view.written view.lost)
        (history_of plan run) (history_of other theirs) is.ends make place number block may.0.may may.0.is;
  }
  move-step view run theirs (Did (Says what)) may slip order is =
      record { here_state = is.here_state; there_state = is.there_state; ends = is.ends }
  move-step view run theirs (Did (Calls (Send block now))) may slip order is = absurd may.0.no_send
  move-step view run theirs (Did (Calls (Resume now))) may slip order is =
      called-step [] (Resume now) view run theirs may.0 slip order is
  move-step view run theirs (Did (Calls Cancel)) may slip order is =
      called-step [] Cancel view run theirs may.0 slip order is
  move-step view run theirs (Did (Calls (Take byte now))) may slip order is =
      go view.there.under_way refl may.1 slip order
    where
      Goal : View → Type 0
      Goal after = Holds plan other after (run_after plan view.here.arrived (Did (Calls (Take byte now))) run) theirs

      go : (way : List Character) → view.there.under_way ≡ way → IsNextByte way byte
          → slips_in_hand now way view ≡ false
          → ComesInOrder (handed now way view).there.given
          (handed now way view).here.arrived
          → Goal (handed now way view)
      go [] at next slip order = absurd next
      go (character ∷ rest) at next slip order =
          subst
          (λ (b : ℕ). Holds plan other (handed now (character ∷ rest) view)
          (record run { doings = Calls (Take b now) ∷ run.doings }) theirs)
          (sym next)
          (called-step (character ∷ []) (Take character.byte now) (with_way rest view) run theirs
          (subst (λ (b : ℕ). MayCall plan.side (line_of plan run.doings) (own_of plan run.doings) (Take b now)) next
          may.0)
          slip order (record { here_state = is.here_state; there_state = is.there_state; ends = is.ends }))
  move-step view run theirs (Did (Calls (Tick now))) may slip order is =
      called-step [] (Tick now) view run theirs may.0 slip order is
  move-step view run theirs (Started note base) may slip order is = record {
    here_state =
        ap (λ (side : Side). new_state side view.here.state.times)
        (ap (λ (s : LineState). s.side) is.here_state ∙ side-kept plan run.doings)
        ∙ ap (λ (times : Times). new_state plan.side times)
        (ap (λ (s : LineState). s.times) is.here_state ∙ times-kept plan run.doings);
    there_state = is.there_state;
    ends =
        ends-started plan other (line_side view.here view.written view.lost)
        (line_side view.there view.written view.lost)
        (history_of plan run) (history_of other theirs) is.ends base may.1.least may.1.above refl;
  }
  move-step view run theirs Lost may slip order is =
      record { here_state = is.here_state; there_state = is.there_state; ends = is.ends }
  move-step view run theirs (Changed place byte) may slip order is =
      record { here_state = is.here_state; there_state = is.there_state; ends = is.ends }
  move-step view run theirs (Added byte) may slip order is =
      record { here_state = is.here_state; there_state = is.there_state; ends = is.ends }
