-- What is kept so far in a step of an end, when T4 drops there, and what is read of replies and of blocks that come.
use Rattle.std.proofs.Common.{if◌then◌else◌, ◌≡◌, refl, sym, ap, ◌∙◌, subst, arith, Bool, true, false, ℕ, ◌+◌, ◌%◌, ◌==◌, ◌<◌, List, [], ◌∷◌, ◌++◌, None}
use Rattle.std.specs.Prelude.{◌||◌}
use Rattle.std.specs.Bool.{beq}
use Rattle.std.proofs.lemmas.Bool.{eq-eqb}
use Rattle.std.proofs.lemmas.Bool.Decides.{nat_tests}
use Rattle.std.proofs.lemmas.List.Elements.{All-cons, All-nil}
use Rattle.block_codec.specs.Block.{BlockView, IsBlock}
use Rattle.gl_base.specs.declared.side.Side.{Side}
use Rattle.gl_base.specs.declared.side.Side.TheVariants.{Equipment, Host}
use Rattle.gl_base.specs.Side.{other_side, r_bit_of}
use Rattle.line_end.specs.declared.event.LineEvent.{LineEvent}
use Rattle.line_end.specs.declared.event.LineEvent.TheVariants.{Arrived, Failed, Nothing, Refused, Sent}
use Rattle.line_end.specs.Laws.{StatesAreKept, StepsAreSmall}
use Rattle.line_end.specs.Plan.{LinePlanFits}
use Rattle.line_end.specs.State.{LineState}
use Rattle.line_end.specs.Step.{LineCall, line_step}
use Rattle.line_order.specs.Characters.{writes_frame}
use Rattle.message_flow.specs.declared.message.Message.{Message}
use Rattle.message_flow.specs.Assembly.{AssemblyView, with_block}
use Rattle.message_flow.specs.Blocks.{header_of}
use Rattle.message_flow.specs.Entries.{FlowEntry, blocks_in}
use Rattle.message_flow.specs.Entries.FlowEntry.{Given}
use Rattle.message_flow.specs.History.{flow_after, met_of}
use Rattle.message_flow.specs.Laws.{MessagesGoInBlocks, StandingGoesOn, WholeMessagesFit}
use Rattle.message_flow.specs.Receiver.{IsReceiver, Receiver}
use Rattle.trace_log.specs.Log.{Happening}
use Rattle.trace_log.specs.Names.{title_of}
use Rattle.message_end.specs.Core.{EndView, Command, Step, Went, and_then, reply_function, reply_of, reply_text, IsText}
use Rattle.message_end.specs.Core.Went.{Goes, Spent}
use Rattle.message_end.specs.Doings.{Doing, moment_of, own_of, with_call, with_frame, with_hearing}
use Rattle.message_end.specs.Doings.Doing.{Calls, Does, Gives, Says}
use Rattle.message_end.specs.Drops.{AllDrop, AllDropAt, AreDropped, Drops, IsDropped}
use Rattle.message_end.specs.History.{AreInSteps, Folds, IsCore, IsMet, folds_of}
use Rattle.message_end.specs.InStep.{HasNoEnd}
use Rattle.message_end.specs.Laws.{GoesOn}
use Rattle.message_end.specs.LineCalls.{calls_in}
use Rattle.message_end.specs.Own.{IsReplyTo, Own, entries_in, whole_in, whole_of}
use Rattle.message_end.specs.Own.Own.{DrewNumber, DroppedMessage, GaveBlock, HeardBlock, ReceivedMessage, SentMessage, WroteFrame}
use Rattle.message_end.specs.Plan.{EndPlan, receiver_of}
use Rattle.message_end.proofs.Courses.{IsCourse, folds-frame, folds_told}

-- what lower crates promise
pub record Laws : Type 0 where
  pub small : StepsAreSmall
  pub kept : StatesAreKept
  pub standing : StandingGoesOn
  pub whole : WholeMessagesFit
  pub in_blocks : MessagesGoInBlocks

-- the law is kept so far, the end is what its doings have made of it, T4 dropped messages at such moments alone, and
-- the calls of its line were so
pub record IsAt
    {K : Type 0} (plan : EndPlan) (base : ℕ) (doings : List Doing) (At : ℕ → Type 0) (Called : List LineCall → Type 0)
    (step : Step (EndView K) Happening)
    : Type 0 where
  pub done : List Doing
  pub called : Called (calls_in done)
  pub drops : AreDropped At done
  pub course : IsCourse plan base doings done step
  pub received : whole_in (own_of plan (done ++ doings)) ≡ None
  pub core : IsCore plan base (folds_of (own_of plan (done ++ doings))) step.next
  pub steps : AreInSteps plan (done ++ doings) step.next.asked
  pub unended : HasNoEnd done

-- also where the numbers are spent on the way
abbrev pub OnWent : {S N : Type 0} → (Step S N → Type 0) → Went S N → Type 0
OnWent P (Goes step) = P step
OnWent P (Spent step) = P step

-- the calls were these
abbrev pub Exactly : List LineCall → List LineCall → Type 0
Exactly made calls = calls ≡ made

pub at-such :
    {K : Type 0} {plan : EndPlan} {base : ℕ} {doings : List Doing} {At : ℕ → Type 0} (Called : List LineCall → Type 0)
    (made : List LineCall) (step : Step (EndView K) Happening)
    → Called made → IsAt plan base doings At (Exactly made) step → IsAt plan base doings At Called step
at-such Called made step so is = record {
  done = is.done;
  called = subst Called (sym is.called) so;
  drops = is.drops;
  course = is.course;
  received = is.received;
  core = is.core;
  steps = is.steps;
  unended = is.unended;
}

pub at-exactly :
    {K : Type 0} {plan : EndPlan} {base : ℕ} {doings : List Doing} {At : ℕ → Type 0} {Called : List LineCall → Type 0}
    (step : Step (EndView K) Happening)
    (is : IsAt plan base doings At Called step) → IsAt plan base doings At (Exactly (calls_in is.done)) step
at-exactly step is = record {
  done = is.done;
  called = refl;
  drops = is.drops;
  course = is.course;
  received = is.received;
  core = is.core;
  steps = is.steps;
  unended = is.unended;
}

-- it calls no line
abbrev pub CallsNone : {K : Type 0} → Command K → Type 0
CallsNone (Command.Tick now) = ⊥
CallsNone (Command.Take byte now) = ⊥
CallsNone (Command.Offer now) = ⊥
CallsNone _ = Unit {0}

abbrev pub AllCallNone : {K : Type 0} → List (Command K) → Type 0
AllCallNone [] = Unit {0}
AllCallNone (one ∷ commands) = CallsNone one × AllCallNone commands

-- ---- when T4 drops

-- a moment is the one at which all of these commands drop, where there is such a one
abbrev pub IsTheMoment : {K : Type 0} → List (Command K) → ℕ → Type 0
IsTheMoment commands at = (now : ℕ) → AllDropAt now commands → at ≡ now

own-dropped : {At Other : ℕ → Type 0} → ((at : ℕ) → At at → Other at) → (own : Own) → IsDropped At own
    → IsDropped Other own
own-dropped less (DrewNumber number) is = tt
own-dropped less (SentMessage message) is = tt
own-dropped less (ReceivedMessage message) is = tt
own-dropped less (DroppedMessage header now) is = less now is
own-dropped less (GaveBlock place number) is = tt
own-dropped less (WroteFrame place number) is = tt
own-dropped less (HeardBlock block now flow) is = tt

pub dropped-less :
    {At Other : ℕ → Type 0} → ((at : ℕ) → At at → Other at) → (done : List Doing) → AreDropped At done
    → AreDropped Other done
dropped-less less [] is = is
dropped-less less (Does own ∷ before) is = (own-dropped less own is.0, dropped-less less before is.1)
dropped-less less (Gives place number block now ∷ before) is = dropped-less less before is
dropped-less less (Calls call ∷ before) is = dropped-less less before is
dropped-less less (Says what ∷ before) is = dropped-less less before is

-- one of these commands drops at their moment
at-moment :
    {K : Type 0} (all : List (Command K)) (one : Command K)
    → ((now : ℕ) → AllDropAt now all → Drops (λ at. at ≡ now) one) → Drops (IsTheMoment all) one
at-moment all (Command.Note what) is = tt
at-moment all (Command.Primary unsent) is = tt
at-moment all Command.Draw is = tt
at-moment all (Command.DrawnPrimary unsent) is = tt
at-moment all (Command.More count) is = tt
at-moment all (Command.Reply body) is = tt
at-moment all Command.Abort is = tt
at-moment all (Command.Tick now) is = tt
at-moment all (Command.Take byte now) is = tt
at-moment all (Command.Offer now) is = tt
at-moment all (Command.DropDue now) is = is
at-moment all (Command.Expire now) is = tt
at-moment all (Command.Answer header) is = tt
at-moment all (Command.GiveUp header) is = tt
at-moment all (Command.End system) is = tt
at-moment all (Command.Recall header) is = tt
at-moment all (Command.Remove odd system) is = tt
at-moment all Command.DropFront is = tt
at-moment all Command.CloseStep is = tt
at-moment all Command.Halt is = tt

pub all-at-moment :
    {K : Type 0} (all commands : List (Command K)) → ((now : ℕ) → AllDropAt now all → AllDropAt now commands)
    → AllDrop (IsTheMoment all) commands
all-at-moment all [] is = tt
all-at-moment all (one ∷ commands) is = (
  at-moment all one (λ now drop. (is now drop).0),
  all-at-moment all commands (λ now drop. (is now drop).1),
)

-- it goes on from a step that has gone on
pub at-then :
    {K : Type 0} (P : Step (EndView K) Happening → Type 0) (went : Went (EndView K) Happening)
    (next : Step (EndView K) Happening → Went (EndView K) Happening)
    → OnWent P went → ((step : Step (EndView K) Happening) → P step → OnWent P (next step))
    → OnWent P (and_then went next)
at-then P (Goes step) next at more = more step at
at-then P (Spent step) next at more = at

-- T4 dropped at the moment of these commands, where they have one alone
pub goes-on :
    {K : Type 0} (plan : EndPlan) (base : ℕ) (doings : List Doing) (commands : List (Command K))
    (Called : List LineCall → Type 0) (step : Step (EndView K) Happening)
    → IsAt plan base doings (IsTheMoment commands) Called step → GoesOn plan base doings commands Called step
goes-on plan base doings commands Called step is = record {
  done = is.done;
  is = record {
    lawful = is.course.lawful;
    received = is.received;
    line = is.course.line;
    core = is.core;
    steps = is.steps;
  };
  notes = is.course.notes;
  written = is.course.written;
  calls = is.called;
  drops = λ now all. dropped-less (λ at the. the now all) is.done is.drops;
  unended = is.unended;
}

-- a function that a reply may have
pub record IsReply (asked function : ℕ) : Type 0 where
  pub even : (function % 2 == 1) ≡ false
  pub byte : function < 256
  pub is : ((function == asked + 1) || (function == 0)) ≡ true

pub reply-next : (asked : ℕ) → (asked % 2 == 1) ≡ true → asked < 256 → IsReply asked (reply_function asked)
reply-next asked odd below = record {
  even = grind (arith, nat_tests, odd);
  byte = omega arith;
  is = grind (arith, nat_tests, odd, below);
}

pub reply-abort : (asked : ℕ) → IsReply asked 0
reply-abort asked = record { even = refl; byte = omega arith; is = or-right (0 == asked + 1) }
  where
    or-right : (b : Bool) → (b || true) ≡ true
    or-right true = refl
    or-right false = refl

-- its text is one, too
pub text-of-reply : (function : ℕ) (body : List ℕ) → IsText body → IsText (reply_text function body)
text-of-reply function body is = go (function == 0)
  where
    go : (none : Bool) → IsText (if none then [] else body)
    go true = record { short = omega arith; bytes = All-nil (λ byte. byte < 256) }
    go false = is

-- it answers the primary that asked
pub replies-to :
    (side : Side) (asked : Message) (function : ℕ) (body : List ℕ) → IsReply asked.function function
    → IsReplyTo (other_side side) asked (header_of side 0 (reply_of (title_of asked) function body) 1)
replies-to side asked function body is =
    rw (eq-eqb asked.system asked.system refl, eq-eqb asked.stream asked.stream refl, bits side) is.is
  where
    bits : (side : Side) → beq (r_bit_of side) (r_bit_of (other_side side)) ≡ false
    bits Equipment = refl
    bits Host = refl

pub quiet : (event : LineEvent) (now : ℕ) (f : Folds) → ((block : BlockView) → event ≡ Arrived block → ⊥)
    → folds_told event now f ≡ f
quiet (Arrived block) now f none = absurd (none block refl)
quiet Nothing now f none = refl
quiet Sent now f none = refl
quiet Failed now f none = refl
quiet (Refused cause) now f none = refl

-- what is read off a history with a block
entries-frame : (framed : Bool) (own : List Own) → entries_in (with_frame framed own) ≡ entries_in own
entries-frame framed own = ap (λ (f : Folds). f.entries) (folds-frame framed own)

pub whole-told :
    (receiver : Receiver) (call : LineCall) (line : LineState) (own : List Own) (block : BlockView)
    → (line_step line call).event ≡ Arrived block
    → whole_in (with_call receiver call line own) ≡ whole_of (flow_after receiver (met_of receiver (entries_in own))
    block)
whole-told receiver call line own block told =
    ap (λ (ev : LineEvent). whole_in (with_hearing receiver ev (moment_of call) framed)) told
    ∙ ap (λ es. whole_of (flow_after receiver (met_of receiver es) block))
    (entries-frame (writes_frame (line_step line call).written) own)
  where
    framed : List Own
    framed = with_frame (writes_frame (line_step line call).written) own

pub receiver-fits : (plan : EndPlan) → LinePlanFits plan.line → IsReceiver (receiver_of plan)
receiver-fits plan fits = record {
  device = fits.device;
  t4_at_least = fits.t4_at_least;
  t4_at_most = fits.t4_at_most;
  max_body_at_least = fits.max_body_at_least;
  max_body_at_most = fits.max_body_at_most;
}

pub met-given :
    (standing : StandingGoesOn) (plan : EndPlan) (entries : List FlowEntry) (a : AssemblyView) (block : BlockView)
    (now : ℕ) → IsBlock block → IsMet plan entries a
    → IsMet plan (Given block now ∷ entries) (with_block a block now)
met-given standing plan entries a block now is_block is = record {
  receiver = is.receiver;
  stands = (standing a entries is.stands).given block now;
  blocks = All-cons IsBlock block (blocks_in entries) is_block is.blocks;
}
