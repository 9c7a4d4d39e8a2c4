-- What an end does in the step that it makes, note by note, and the end of a step.
use Rattle.std.proofs.Common.{◌≡◌, refl, sym, subst, ℕ, List, [], ◌∷◌, ◌++◌, Option, None}
use Rattle.message_flow.specs.declared.message.Message.{Message}
use Rattle.trace_log.specs.declared.names.Title.{Title}
use Rattle.trace_log.specs.Log.{Happening}
use Rattle.message_end.specs.Core.{EndView, MayNote, with_asked}
use Rattle.message_end.specs.Doings.{Doing, IsPlain, own_of}
use Rattle.message_end.specs.Doings.Doing.{Calls, Does, Gives, Says}
use Rattle.message_end.specs.History.{AreInSteps, AskedIs, IsHistoryOf, noted_in, notes_of_own}
use Rattle.message_end.specs.InStep.{AreOfOneStep, EndsOnce, HasNoEnd, IsNoEnd, NoneEnds, asked_behind, asked_in_step}
use Rattle.message_end.specs.Own.{Own}
use Rattle.message_end.specs.Own.Own.{DrewNumber, DroppedMessage, GaveBlock, HeardBlock, ReceivedMessage, SentMessage, WroteFrame}
use Rattle.message_end.specs.Plan.{EndPlan}
use Rattle.message_end.proofs.Courses.{in-turn}

-- a note of no message, with which no step ends
pub record IsQuietNote (what : Happening) : Type 0 where
  pub plain : IsPlain what
  pub no_end : IsNoEnd what
  pub asked : (asked : Option Message) → asked_behind what asked ≡ asked

pub quiet-note : (what : Happening) → MayNote what → IsQuietNote what
quiet-note (Happening.EquipmentStarted found base) may = absurd may
quiet-note (Happening.HostStarted journal) may = absurd may
quiet-note (Happening.Sent message) may = absurd may
quiet-note (Happening.Received message) may = absurd may
quiet-note Happening.StepEnded may = absurd may
quiet-note what may = record { plain = tt; no_end = tt; asked = λ asked. refl }

-- with such a note behind them
pub steps-said :
    (plan : EndPlan) (doings : List Doing) (title : Option Title) (what : Happening) → MayNote what
    → AreInSteps plan doings title → AreInSteps plan (Says what ∷ doings) title
steps-said plan doings title what may is = record {
  replies = (tt, is.replies);
  asked =
      subst (λ (newest : Option Message). AskedIs newest title)
      (sym ((quiet-note what may).asked (asked_in_step doings))) is.asked;
}

-- where none asks any more
pub steps-none :
    (plan : EndPlan) (doings : List Doing) (title : Option Title) → AreInSteps plan doings title
    → AreInSteps plan doings None
steps-none plan doings title is = record { replies = is.replies; asked = λ other none. absurd (cc) }

-- ---- the end of a step

pub history-ends :
    {K : Type 0} (plan : EndPlan) (base : ℕ) (doings : List Doing) (e : EndView K) → IsHistoryOf plan base doings e
    → IsHistoryOf plan base (Says Happening.StepEnded ∷ doings) (with_asked None e)
history-ends plan base doings e is = record {
  lawful = ((in-turn (own_of plan doings) (Says Happening.StepEnded) is.received, tt), is.lawful);
  line = is.line;
  received = is.received;
  core = record {
    line = is.core.line;
    numbers = is.core.numbers;
    spare = is.core.spare;
    outgoing = is.core.outgoing;
    waiting = is.core.waiting;
    held = is.core.held;
    asked = λ title none. absurd (cc);
    transactions = is.core.transactions;
    met = is.core.met;
  };
  steps = record { replies = (tt, is.steps.replies); asked = λ title none. absurd (cc) };
}

-- doings without one are of one step
pub of-one-step : (done : List Doing) → HasNoEnd done → AreOfOneStep done
of-one-step [] none = tt
of-one-step (Does own ∷ before) none = none
of-one-step (Gives place number block now ∷ before) none = none
of-one-step (Calls call ∷ before) none = none
of-one-step (Says what ∷ before) none = none.1

pub ends-of-one : (done : List Doing) → EndsOnce done → AreOfOneStep done
ends-of-one done is = subst AreOfOneStep (sym is.is) is.unended

-- so are the first ones of them
pub none-older : (later older : List Doing) → HasNoEnd (later ++ older) → HasNoEnd older
none-older [] older none = none
none-older (Does own ∷ later) older none = none-older later older none
none-older (Gives place number block now ∷ later) older none = none-older later older none
none-older (Calls call ∷ later) older none = none-older later older none
none-older (Says what ∷ later) older none = none-older later older none.1

pub one-older : (later older : List Doing) → AreOfOneStep (later ++ older) → AreOfOneStep older
one-older [] older one = one
one-older (doing ∷ later) older one = of-one-step older (none-older later older one)

-- and these with those before them
pub none-both : (later older : List Doing) → HasNoEnd later → HasNoEnd older → HasNoEnd (later ++ older)
none-both [] older first second = second
none-both (Does own ∷ later) older first second = none-both later older first second
none-both (Gives place number block now ∷ later) older first second = none-both later older first second
none-both (Calls call ∷ later) older first second = none-both later older first second
none-both (Says what ∷ later) older first second = (first.0, none-both later older first.1 second)

-- ---- the same of notes

none-behind : (first second : List Happening) → NoneEnds first → NoneEnds second → NoneEnds (first ++ second)
none-behind [] second one two = two
none-behind (what ∷ first) second one two = (one.0, none-behind first second one.1 two)

pub none-front : (front rest : List Happening) → NoneEnds (front ++ rest) → NoneEnds front
none-front [] rest none = tt
none-front (what ∷ front) rest none = (none.0, none-front front rest none.1)

own-none : (own : Own) → NoneEnds (notes_of_own own)
own-none (SentMessage message) = (tt, tt)
own-none (ReceivedMessage message) = (tt, tt)
own-none (DrewNumber number) = tt
own-none (GaveBlock place number) = tt
own-none (WroteFrame place number) = tt
own-none (HeardBlock block now flow) = tt
own-none (DroppedMessage header now) = tt

-- what is noted of doings without one
pub none-noted : (done : List Doing) → HasNoEnd done → NoneEnds (noted_in done)
none-noted [] none = tt
none-noted (Does own ∷ before) none =
    none-behind (noted_in before) (notes_of_own own) (none-noted before none) (own-none own)
none-noted (Gives place number block now ∷ before) none = none-noted before none
none-noted (Calls call ∷ before) none = none-noted before none
none-noted (Says what ∷ before) none =
    none-behind (noted_in before) (what ∷ []) (none-noted before none.1) (none.0, tt)
