-- Doings of an end, one after the other: the law, its line, and what it notes and writes. What it keeps beside is
-- apart.
use Rattle.std.proofs.Common.{◌≡◌, inl, inr, refl, sym, ap, ◌∙◌, subst, arith, Bool, true, false, ℕ, List, [], ◌∷◌, ◌++◌, length, Some, None, Option}
use Rattle.std.proofs.lemmas.Bool.Decides.{nat_tests}
use Rattle.std.proofs.lemmas.List.{append_assoc, append-nil}
use Rattle.std.proofs.lemmas.Option.{same_Some}
use Rattle.block_codec.specs.Block.{BlockView}
use Rattle.gl_base.specs.declared.side.Side.{Side}
use Rattle.line_end.specs.declared.event.LineEvent.{LineEvent}
use Rattle.line_end.specs.declared.event.LineEvent.TheVariants.{Arrived, Failed, Nothing, Refused, Sent}
use Rattle.line_end.specs.Laws.{IsOwn, StepsAreSmall}
use Rattle.line_end.specs.Runs.{CanCall}
use Rattle.line_end.specs.State.{LineState}
use Rattle.line_end.specs.Step.{LineCall, line_step}
use Rattle.line_end.specs.Step.LineCall.{Cancel, Send}
use Rattle.line_order.specs.Characters.{writes_frame}
use Rattle.message_flow.specs.declared.message.Message.{Message}
use Rattle.message_flow.specs.Entries.FlowEntry.{Given}
use Rattle.message_flow.specs.Message.{is_primary}
use Rattle.message_flow.specs.Receiver.{Receiver}
use Rattle.trace_log.specs.Log.{Happening}
use Rattle.message_end.specs.Core.{EndView, Step, calls, noted, with_end}
use Rattle.message_end.specs.Doings.{AreLawful, Doing, IsFrameUnanswered, IsInTurn, IsNoSend, IsPlain, MayCall, MayGiveBlock, MayWriteFrame, line_of, moment_of, own_of, with_call, with_frame, with_frame_of, with_hearing}
use Rattle.message_end.specs.Doings.Doing.{Calls, Does, Gives, Says}
use Rattle.message_end.specs.History.{Folds, HeldIs, IsHeldOf, folds_of, noted_in, notes_of_own, written_in}
use Rattle.message_end.specs.Own.{Giving, IsReplyTo, IsUnanswered, MayDo, Own, given_in, heard_in, sent_in, whole_in}
use Rattle.message_end.specs.Plan.{EndPlan, receiver_of}

pub record IsCourse
    {K : Type 0} (plan : EndPlan) (base : ℕ) (doings done : List Doing) (step : Step (EndView K) Happening)
    : Type 0 where
  pub lawful : AreLawful plan base (done ++ doings)
  pub line : step.next.line ≡ line_of plan (done ++ doings)
  pub notes : noted_in (done ++ doings) ≡ noted_in doings ++ step.notes
  pub written : written_in plan (done ++ doings) ≡ written_in plan doings ++ step.written

-- ---- what is read off the history

abbrev pub heard_more : BlockView → ℕ → Folds → Folds
heard_more block now f = record {
  drawn = f.drawn;
  sents = f.sents;
  gave = f.gave;
  heard = record { header = block.header; after = length f.sents } ∷ f.heard;
  entries = Given block now ∷ f.entries;
  asked = f.asked;
}

-- a frame changes nothing of it
pub folds-frame : (framed : Bool) (own : List Own) → folds_of (with_frame framed own) ≡ folds_of own
folds-frame false own = refl
folds-frame true own = go (given_in own)
  where
    go : (gave : List Giving) → folds_of (with_frame_of gave own) ≡ folds_of own
    go [] = refl
    go (giving ∷ before) = refl

abbrev pub folds_told : LineEvent → ℕ → Folds → Folds
folds_told (Arrived block) now f = heard_more block now f
folds_told Nothing now f = f
folds_told Sent now f = f
folds_told Failed now f = f
folds_told (Refused cause) now f = f

pub folds-call :
    (receiver : Receiver) (call : LineCall) (line : LineState) (own : List Own)
    → folds_of (with_call receiver call line own)
    ≡ folds_told (line_step line call).event (moment_of call) (folds_of own)
folds-call receiver call line own = go (line_step line call).event
  where
    framed : Bool
    framed = writes_frame (line_step line call).written

    go : (event : LineEvent)
        → folds_of (with_hearing receiver event (moment_of call) (with_frame framed own))
        ≡ folds_told event (moment_of call) (folds_of own)
    go (Arrived block) = ap (heard_more block (moment_of call)) (folds-frame framed own)
    go Nothing = folds-frame framed own
    go Sent = folds-frame framed own
    go Failed = folds-frame framed own
    go (Refused cause) = folds-frame framed own

-- no block has come with the call, so what was whole is so still
whole-frame : (framed : Bool) (own : List Own) → whole_in (with_frame framed own) ≡ whole_in own
whole-frame false own = refl
whole-frame true own = go (given_in own)
  where
    go : (gave : List Giving) → whole_in (with_frame_of gave own) ≡ whole_in own
    go [] = refl
    go (giving ∷ before) = refl

pub whole-call :
    (receiver : Receiver) (call : LineCall) (line : LineState) (own : List Own)
    → ((block : BlockView) → (line_step line call).event ≡ Arrived block → ⊥)
    → whole_in (with_call receiver call line own) ≡ whole_in own
whole-call receiver call line own none = go (line_step line call).event none
  where
    framed : Bool
    framed = writes_frame (line_step line call).written

    go : (event : LineEvent) → ((block : BlockView) → event ≡ Arrived block → ⊥)
        → whole_in (with_hearing receiver event (moment_of call) (with_frame framed own)) ≡ whole_in own
    go (Arrived block) none = absurd (none block refl)
    go Nothing none = whole-frame framed own
    go Sent none = whole-frame framed own
    go Failed none = whole-frame framed own
    go (Refused cause) none = whole-frame framed own

pub in-turn : (own : List Own) (doing : Doing) → whole_in own ≡ None → IsInTurn (whole_in own) doing
in-turn own doing none = subst (λ (o : Option Message). IsInTurn o doing) (sym none) tt

cancel-in-turn : (whole : Option Message) → IsInTurn whole (Calls Cancel)
cancel-in-turn None = tt
cancel-in-turn (Some message) = tt

-- ---- a frame is of an unanswered message

unanswered :
    (side : Side) (own : List Own) (block : BlockView) → IsHeldOf side (sent_in own) (given_in own) (heard_in own) block
    → (framed : Bool) → MayWriteFrame side framed own
unanswered side own block is false = tt
unanswered side own block is true =
    subst (λ (gave : List Giving). IsFrameUnanswered side gave own) (sym is.newest) of_newest
  where
    of_newest : IsUnanswered side own is.giving.place
    of_newest = λ message sent primary heard has reply.
        let same : is.message ≡ message = same_Some _ _ (sym is.sent ∙ sent) in
        is.open_is (ap is_primary same ∙ primary) heard has
        (subst (λ (m : Message). IsReplyTo side m heard.header) (sym same) reply)

may-write :
    (side : Side) (own : List Own) (held : Option BlockView) (written : List ℕ)
    → HeldIs side (sent_in own) (given_in own) (heard_in own) held → IsOwn held written
    → MayWriteFrame side (writes_frame written) own
may-write side own held written is (inl short) =
    let no_frame : writes_frame written ≡ false = grind (arith, nat_tests, short) in
    subst (λ (b : Bool). MayWriteFrame side b own) (sym no_frame) tt
may-write side own held written is (inr frame) =
    unanswered side own frame.0 (is frame.0 frame.1) (writes_frame written)

pub may-call :
    (small : StepsAreSmall) (plan : EndPlan) (own : List Own) (line : LineState) (call : LineCall)
    → whole_in own ≡ None
    → HeldIs plan.side (sent_in own) (given_in own) (heard_in own) line.held → IsNoSend call → CanCall line call
    → MayCall plan.side line own call
may-call small plan own line call none held no_send can = record {
  in_turn = in-turn own (Calls call) none;
  no_send = no_send;
  can = can;
  frame = may-write plan.side own line.held _ held (small line call).written;
}

-- ---- one more

pub course-said :
    {K : Type 0} (plan : EndPlan) (base : ℕ) (doings done : List Doing) (step : Step (EndView K) Happening)
    (what : Happening)
    → IsPlain what → whole_in (own_of plan (done ++ doings)) ≡ None → IsCourse plan base doings done step
    → IsCourse plan base doings (Says what ∷ done) (noted Some what step)
course-said plan base doings done step what plain none is = record {
  lawful = ((in-turn (own_of plan (done ++ doings)) (Says what) none, plain), is.lawful);
  line = is.line;
  notes = ap (λ ns. ns ++ what ∷ []) is.notes ∙ append_assoc (noted_in doings) step.notes (what ∷ []);
  written = is.written;
}

-- the end changes, but not its line
pub course-changed :
    {K : Type 0} (plan : EndPlan) (base : ℕ) (doings done : List Doing) (step : Step (EndView K) Happening)
    (e : EndView K)
    → e.line ≡ step.next.line → IsCourse plan base doings done step → IsCourse plan base doings done (with_end e step)
course-changed plan base doings done step e same is = record {
  lawful = is.lawful;
  line = same ∙ is.line;
  notes = is.notes;
  written = is.written;
}

-- it does something that is noted so, or not
pub course-did :
    {K : Type 0} (plan : EndPlan) (base : ℕ) (doings done : List Doing) (step : Step (EndView K) Happening) (own : Own)
    (notes : List Happening)
    → (is : IsCourse plan base doings done step) → IsInTurn (whole_in (own_of plan (done ++ doings))) (Does own)
    → MayDo (receiver_of plan) base (own_of plan (done ++ doings)) own
    → notes ≡ step.notes ++ notes_of_own own
    → IsCourse plan base doings (Does own ∷ done) (record { next = step.next; notes = notes; written = step.written })
course-did plan base doings done step own notes is in_turn may are = record {
  lawful = ((in_turn, may), is.lawful);
  line = is.line;
  notes =
      ap (λ ns. ns ++ notes_of_own own) is.notes ∙ append_assoc (noted_in doings) step.notes (notes_of_own own)
      ∙ ap (λ ns. noted_in doings ++ ns) (sym are);
  written = is.written;
}

-- a call of the line
pub course-called :
    {K : Type 0} (plan : EndPlan) (base : ℕ) (doings done : List Doing) (step : Step (EndView K) Happening)
    (call : LineCall)
    → (is : IsCourse plan base doings done step) → MayCall plan.side step.next.line (own_of plan (done ++ doings)) call
    → IsCourse plan base doings (Calls call ∷ done) (calls call step)
course-called plan base doings done step call is may = record {
  lawful = (subst (λ (l : LineState). MayCall plan.side l (own_of plan (done ++ doings)) call) is.line may, is.lawful);
  line = ap (λ (l : LineState). (line_step l call).next) is.line;
  notes = is.notes;
  written =
      ap (λ bytes. bytes ++ (line_step (line_of plan (done ++ doings)) call).written) is.written
      ∙ append_assoc (written_in plan doings) step.written _
      ∙ ap (λ (l : LineState). written_in plan doings ++ (step.written ++ (line_step l call).written)) (sym is.line);
}

-- a block is given to it
pub course-gave :
    {K : Type 0} (plan : EndPlan) (base : ℕ) (doings done : List Doing) (step : Step (EndView K) Happening)
    (place number : ℕ) (block : BlockView) (now : ℕ)
    → (is : IsCourse plan base doings done step)
    → MayGiveBlock plan step.next.line (own_of plan (done ++ doings)) place number block now
    → IsCourse plan base doings (Gives place number block now ∷ done) (calls (Send block now) step)
course-gave plan base doings done step place number block now is may = record {
  lawful = (
    subst (λ (l : LineState). MayGiveBlock plan l (own_of plan
        (done ++ doings)) place number block now) is.line may,
    is.lawful,
  );
  line = ap (λ (l : LineState). (line_step l (Send block now)).next) is.line;
  notes = is.notes;
  written =
      ap (λ bytes. bytes ++ (line_step (line_of plan (done ++ doings)) (Send block now)).written) is.written
      ∙ append_assoc (written_in plan doings) step.written _
      ∙ ap (λ (l : LineState). written_in plan doings ++ (step.written ++ (line_step l (Send block now)).written))
      (sym is.line);
}

-- the held block is dropped
pub course-cancelled :
    {K : Type 0} (plan : EndPlan) (base : ℕ) (doings done : List Doing) (step : Step (EndView K) Happening)
    (e : EndView K)
    → e.line ≡ (line_step step.next.line Cancel).next
    → (is : IsCourse plan base doings done step) → CanCall step.next.line Cancel
    → IsCourse plan base doings (Calls Cancel ∷ done) (with_end e step)
course-cancelled plan base doings done step e same is can = record {
  lawful = (
    subst (λ (l : LineState). MayCall plan.side l (own_of plan (done ++ doings)) Cancel) is.line
        (record {
          in_turn = cancel-in-turn (whole_in (own_of plan
              (done ++ doings)));
          no_send = tt;
          can = can;
          frame = tt;
        }),
    is.lawful,
  );
  line = same ∙ ap (λ (l : LineState). (line_step l Cancel).next) is.line;
  notes = is.notes;
  written = append-nil (written_in plan (done ++ doings)) ∙ is.written;
}
