-- Each command that calls the line keeps the law, also where a block comes with it.
use Rattle.std.proofs.Common.{if◌then◌else◌, ◌≡◌, inl, inr, refl, sym, ap, ◌∙◌, subst, arith, Bool, true, false, ℕ, ◌+◌, ◌&&◌, ◌<◌, List, [], ◌∷◌, ◌++◌, length, Some, None, Option}
use Rattle.std.specs.Prelude.{All, IsSome, ◌||◌}
use Rattle.std.proofs.lemmas.List.Elements.{All-cons, All-nil}
use Rattle.std.proofs.lemmas.Option.{same_Some}
use Rattle.block_codec.specs.Block.{BlockView, IsBlock}
use Rattle.block_codec.specs.declared.header.Header.{Header}
use Rattle.gl_base.specs.declared.side.Side.{Side}
use Rattle.line_end.specs.declared.event.LineEvent.{LineEvent}
use Rattle.line_end.specs.declared.event.LineEvent.TheVariants.{Arrived, Failed, Nothing, Refused, Sent}
use Rattle.line_end.specs.declared.event.Phase.{Phase}
use Rattle.line_end.specs.declared.event.Phase.TheVariants.{AwaitAck, AwaitEot, AwaitLength, Gathering, Idle, Settling}
use Rattle.line_end.specs.Plan.{LinePlanFits}
use Rattle.line_end.specs.Runs.{CanCall, taken_by}
use Rattle.line_end.specs.State.{CanSend, HoldsIdle, LineState}
use Rattle.line_end.specs.Step.{LineCall, line_step}
use Rattle.line_end.specs.Step.LineCall.{Cancel, Resume, Send}
use Rattle.message_flow.specs.declared.flow.Flow.{Flow}
use Rattle.message_flow.specs.declared.flow.Flow.TheVariants.{Part, Whole, Duplicate, Foreign, Unexpected, TooLong, Crowded}
use Rattle.message_flow.specs.declared.message.Message.{Message}
use Rattle.message_flow.specs.declared.waiting.Waiting.{Waiting}
use Rattle.message_flow.specs.Assembly.{flow_to, with_block}
use Rattle.message_flow.specs.Blocks.{header_of, numbered_block}
use Rattle.message_flow.specs.Entries.{FlowEntry}
use Rattle.message_flow.specs.History.{flow_after, met_of}
use Rattle.message_flow.specs.Message.{IsMessage, is_primary}
use Rattle.message_flow.specs.Outgoing.{OutgoingView, after_block, next_block_of, with_waiting}
use Rattle.message_flow.specs.Receiver.{Receiver}
use Rattle.secs_items.specs.Checking.{Checking}
use Rattle.trace_log.specs.declared.names.Title.{Title}
use Rattle.trace_log.specs.Log.{Happening}
use Rattle.trace_log.specs.Names.{title_of}
use Rattle.transact.specs.Transactions.{is_answered_by}
use Rattle.message_end.specs.Core.{EndView, Command, Step, with_end, with_line, with_outgoing, with_assembly, with_transactions, with_asked, calls, is_held_answered, is_waiting_answered, waiting_primary, without_answered, cancels, starts_t3, takes_back, asked_by, judges, hears, held_header, tells, takes, gives, offers}
use Rattle.message_end.specs.Doings.{Doing, IsInTurn, IsNoSend, line_of, own_of, with_call}
use Rattle.message_end.specs.Doings.Doing.{Calls, Does, Gives}
use Rattle.message_end.specs.Drops.{AreDropped}
use Rattle.message_end.specs.History.{AreInSteps, AreWaiting, Folds, HeldIs, IsAskedOf, IsCore, IsHeldOf, IsLine, IsOutgoingOf, folds_of}
use Rattle.message_end.specs.InStep.{HasNoEnd}
use Rattle.message_end.specs.LineCalls.{AreCallsOf, calls_in}
use Rattle.message_end.specs.Own.{Own, entries_in, sent_in, whole_in, whole_of}
use Rattle.message_end.specs.Own.Own.{ReceivedMessage}
use Rattle.message_end.specs.Plan.{EndPlan, receiver_of}
use Rattle.message_end.proofs.CallingNone.{at-said, at-transactions, at-waits}
use Rattle.message_end.proofs.Courses.{IsCourse, course-called, course-cancelled, course-changed, course-did, course-gave, folds-call, folds_told, heard_more, in-turn, may-call, whole-call}
use Rattle.message_end.proofs.Lines.{IsArrival, arrival, line-call, tick-arrives}
use Rattle.message_end.proofs.MessagesKept.{IsNext, held-answered, held-call, held-none, waiting-answered, waiting-gave}
use Rattle.message_end.proofs.Open.{open-acknowledged, open-started, open-timed}
use Rattle.message_end.proofs.Steps.{Exactly, IsAt, Laws, met-given, quiet, receiver-fits, whole-told}

module _ {K : Type 0} (laws : Laws) (plan : EndPlan) (base : ℕ) (fits : LinePlanFits plan.line) (doings : List Doing)
    (Moment : ℕ → Type 0) where
  abbrev AtMade : List LineCall → Step (EndView K) Happening → Type 0
  AtMade made step = IsAt plan base doings Moment (Exactly made) step

  abbrev own-in : {made : List LineCall} {step : Step (EndView K) Happening} → AtMade made step → List Own
  own-in is = own_of plan (is.done ++ doings)

  -- with the next state of the line, and nothing heard
  core-called :
      (f : Folds) (e : EndView K) (call : LineCall) → IsNoSend call → CanCall e.line call
      → All (λ byte. byte < 256) (taken_by call) → IsCore plan base f e
      → IsCore plan base f (with_line (line_step e.line call).next e)
  core-called f e call no_send can bytes is = record {
    line = line-call laws.small laws.kept e.line call is.line can bytes;
    numbers = is.numbers;
    spare = is.spare;
    outgoing = is.outgoing;
    waiting = is.waiting;
    held = held-call f.sents f.gave f.heard e.line.held _ call no_send (laws.small e.line call).held is.held;
    asked = is.asked;
    transactions = is.transactions;
    met = is.met;
  }

  called :
      (made : List LineCall) (call : LineCall) (step : Step (EndView K) Happening) → IsNoSend call
      → CanCall step.next.line call → (is : AtMade made step)
      → IsCourse plan base doings (Calls call ∷ is.done) (calls call step)
  called made call step no_send can is =
      course-called plan base doings is.done step call is.course
      (may-call laws.small plan (own-in is) step.next.line call is.received is.core.held no_send can)

  at-called :
      (made : List LineCall) (call : LineCall) (step : Step (EndView K) Happening) → IsNoSend call
      → CanCall step.next.line call → All (λ byte. byte < 256) (taken_by call)
      → ((block : BlockView) → (line_step step.next.line call).event ≡ Arrived block → ⊥)
      → AtMade made step → AtMade (call ∷ made) (calls call step)
  at-called made call step no_send can bytes none is = record {
    done = Calls call ∷ is.done;
    course = called made call step no_send can is;
    received = whole-call (receiver_of plan) call before own none_told ∙ is.received;
    called = ap (λ (calls : List LineCall). call ∷ calls) is.called;
    drops = is.drops;
    steps = record { replies = (tt, is.steps.replies); asked = is.steps.asked };
    unended = is.unended;
    core =
        let same : folds_of (with_call (receiver_of plan) call before own) ≡ folds_of own =
        folds-call (receiver_of plan) call before own ∙ quiet (line_step before call).event _ (folds_of own) none_told
        in
        subst (λ (f : Folds). IsCore plan base f (with_line (line_step step.next.line call).next step.next)) (sym same)
        (core-called (folds_of own) step.next call no_send can bytes is.core);
  }
    where
      own : List Own
      own = own-in is

      before : LineState
      before = line_of plan (is.done ++ doings)

      none_told : (block : BlockView) → (line_step before call).event ≡ Arrived block → ⊥
      none_told = λ block told. none block (ap (λ (l : LineState). (line_step l call).event) is.course.line ∙ told)

  pub tick-made :
      (made : List LineCall) (now : ℕ) (step : Step (EndView K) Happening) → AtMade made step
      → AtMade (LineCall.Tick now ∷ made) (calls (LineCall.Tick now) step)
  tick-made made now step is =
      at-called made (LineCall.Tick now) step tt tt (All-nil (λ byte. byte < 256))
      (λ block told. tick-arrives laws.small step.next.line now block told) is

  -- ---- the line's turn

  -- this command has made its calls
  pub record IsDone (made : List LineCall) (command : Command K) (step : Step (EndView K) Happening) : Type 0 where
    pub newer : List LineCall
    pub are : AreCallsOf command newer
    pub at : AtMade (newer ++ made) step

  -- the next block of the first message goes to the line
  at-gives :
      (made : List LineCall) (now : ℕ) (step : Step (EndView K) Happening) → step.next.line.phase ≡ Idle
      → step.next.line.held ≡ None → AtMade made step
      → let out = step.next.outgoing in
      IsDone made (Command.Offer now) (gives (next_block_of out.side out.device out.waiting).0 now
      (with_end (with_outgoing (with_waiting out (next_block_of out.side out.device out.waiting).1) step.next) step))
  at-gives made now step idle free is = go out.waiting is.core.waiting
    where
      out : OutgoingView
      out = step.next.outgoing

      own : List Own
      own = own-in is

      f : Folds
      f = folds_of own

      turned : List Waiting → EndView K
      turned waiting = with_outgoing (with_waiting out waiting) step.next

      go : (waiting : List Waiting) → AreWaiting plan.side f.sents f.gave f.heard waiting
          → IsDone made (Command.Offer now) (gives (next_block_of out.side out.device waiting).0 now
          (with_end (turned (next_block_of out.side out.device waiting).1) step))
      go [] are = record {
        newer = [];
        are = tt;
        at = at-waits laws plan base fits doings Moment (Exactly made) step [] is are;
      }
      go (first ∷ rest) are = record {
        newer = Send block now ∷ [];
        are = refl;
        at = record {
          done = Gives next.place (first.gone + 1) block now ∷ is.done;
          course = course-gave plan base doings is.done _ next.place (first.gone + 1) block now
              (course-changed plan base doings is.done step (turned (after_block first rest)) refl is.course)
              (record {
                in_turn = in-turn own (Gives next.place (first.gone + 1) block now) is.received;
                may = record {
                  message = first.message;
                  sent = next.sent;
                  next = next.next;
                  last = next.last;
                  once = next.once;
                };
                is = λ message sent.
                    let same : first.message ≡ message = same_Some _ _ (sym next.sent ∙ sent) in
                    ap (λ (s : Side). numbered_block s out.device first.message (first.gone + 1)) is.core.outgoing.side
                    ∙ ap (λ d. numbered_block plan.side d first.message (first.gone + 1)) is.core.outgoing.device
                    ∙ ap (λ (m : Message). numbered_block plan.side plan.line.device m (first.gone + 1)) same;
                can = can;
                in_block = laws.in_blocks out.side out.device first.message (first.gone + 1)
                    (subst (λ d. d < 32768) (sym is.core.outgoing.device) fits.device) next.fits (omega arith)
                    next.last;
              });
          received = is.received;
          called = ap (λ (calls : List LineCall). Send block now ∷ calls) is.called;
          drops = is.drops;
          steps = record { replies = (tt, is.steps.replies); asked = is.steps.asked };
          unended = is.unended;
          core = record {
            line = line-call laws.small laws.kept step.next.line (Send block now) is.core.line can
                (All-nil (λ byte. byte < 256));
            numbers = is.core.numbers;
            spare = is.core.spare;
            outgoing = record { side = is.core.outgoing.side; device = is.core.outgoing.device };
            waiting = next.after;
            held = λ held_block some.
                let same : block ≡ held_block = same_Some _ _ some in
                subst (λ (b : BlockView). IsHeldOf plan.side f.sents
                (record { place = next.place; number = first.gone + 1 } ∷ f.gave) f.heard b) same
                (record {
                  giving = record { place = next.place; number = first.gone + 1 };
                  before = f.gave;
                  message = first.message;
                  newest = refl;
                  sent = next.sent;
                  device = out.device;
                  header = ap (λ (s : Side). header_of s out.device first.message (first.gone + 1))
                      is.core.outgoing.side;
                  open_is = next.open_is;
                });
            asked = is.core.asked;
            transactions = is.core.transactions;
            met = is.core.met;
          };
        };
      }
        where
          block : BlockView
          block = numbered_block out.side out.device first.message (first.gone + 1)

          next : IsNext plan.side f.sents f.gave f.heard first rest
          next = waiting-gave f.sents f.gave f.heard first rest are

          can : CanSend step.next.line
          can = record { idle = idle; free = free }

  pub offer-made :
      (made : List LineCall) (now : ℕ) (step : Step (EndView K) Happening) (phase : Phase) (held : Option BlockView)
      → step.next.line.phase ≡ phase → step.next.line.held ≡ held → AtMade made step
      → IsDone made (Command.Offer now) (offers phase held now step)
  offer-made made now step Idle (Some block) idle holds is = record {
    newer = Resume now ∷ [];
    are = refl;
    at =
        at-called made (Resume now) step tt
        (record { idle = idle; block = subst (λ (o : Option BlockView). IsSome o) (sym holds) refl })
        (All-nil (λ byte. byte < 256)) (λ b told. absurd (cc)) is;
  }
  offer-made made now step Idle None idle free is = at-gives made now step idle free is
  offer-made made now step AwaitEot held at holds is = record { newer = []; are = tt; at = is }
  offer-made made now step AwaitAck held at holds is = record { newer = []; are = tt; at = is }
  offer-made made now step AwaitLength held at holds is = record { newer = []; are = tt; at = is }
  offer-made made now step Gathering held at holds is = record { newer = []; are = tt; at = is }
  offer-made made now step Settling held at holds is = record { newer = []; are = tt; at = is }

  -- ---- a block that has come

  -- it is kept so far, and this was heard last
  record IsHeard (made : List LineCall) (step : Step (EndView K) Happening) (whole : Option Message) : Type 0 where
    done : List Doing
    course : IsCourse plan base doings done step
    whole_is : whole_in (own_of plan (done ++ doings)) ≡ whole
    core : IsCore plan base (folds_of (own_of plan (done ++ doings))) step.next
    called : calls_in done ≡ made
    drops : AreDropped Moment done
    steps : AreInSteps plan (done ++ doings) step.next.asked
    unended : HasNoEnd done

  -- no message is whole
  abbrev at-no-whole : (made : List LineCall) (step : Step (EndView K) Happening) → IsHeard made step None
      → AtMade made step
  at-no-whole made step is =
      record {
        done = is.done;
        course = is.course;
        received = is.whole_is;
        core = is.core;
        called = is.called;
        drops = is.drops;
        steps = is.steps;
        unended = is.unended;
      }

  record IsHeardBy
      (made : List LineCall) (byte now : ℕ) (step : Step (EndView K) Happening) (whole : Option Message) : Type 0 where
    newer : List LineCall
    are : AreCallsOf {K = K} (Command.Take byte now) newer
    heard : IsHeard (newer ++ made) step whole

  -- a character has come, and with it a block: the receiver has it, and what it answers is taken back
  at-heard :
      (made : List LineCall) (byte now : ℕ) (step : Step (EndView K) Happening) (block : BlockView) → byte < 256
      → (line_step step.next.line (LineCall.Take byte now)).event ≡ Arrived block → (is : AtMade made step)
      → IsHeardBy made byte now (with_end (takes_back block.header now
      (with_assembly (with_block step.next.assembly block now) (calls (LineCall.Take byte now) step).next))
      (calls (LineCall.Take byte now) step))
      (whole_of (flow_after (receiver_of plan) (met_of (receiver_of plan) (entries_in (own-in is))) block))
  at-heard made byte now step block below told is = go (is_held_answered block.header taken.next.line.held) refl
    where
      call : LineCall
      call = LineCall.Take byte now

      own : List Own
      own = own-in is

      f : Folds
      f = folds_of own

      before : LineState
      before = line_of plan (is.done ++ doings)

      taken : Step (EndView K) Happening
      taken = calls call step

      waits : Bool
      waits = is_waiting_answered block.header step.next.outgoing
          (waiting_primary block.header.system step.next.outgoing)

      back : Bool → EndView K
      back held =
          with_outgoing (without_answered waits block.header.system step.next.outgoing)
          (with_transactions (starts_t3 (held || waits) block.header.system now step.next.transactions)
          (with_assembly (with_block step.next.assembly block now) taken.next))

      told_before : (line_step before call).event ≡ Arrived block
      told_before = ap (λ (l : LineState). (line_step l call).event) (sym is.course.line) ∙ told

      course : IsCourse plan base doings (Calls call ∷ is.done) taken
      course = called made call step tt tt is

      bytes : All (λ b. b < 256) (taken_by call)
      bytes = All-cons (λ b. b < 256) byte [] below (All-nil (λ b. b < 256))

      came : IsArrival step.next.line byte now block
      came = arrival laws.small step.next.line byte now block is.core.line below told

      line : IsLine taken.next.line
      line = line-call laws.small laws.kept step.next.line call is.core.line tt bytes

      held_is : HeldIs plan.side f.sents f.gave f.heard taken.next.line.held
      held_is = held-call f.sents f.gave f.heard step.next.line.held _ call tt (laws.small step.next.line call).held
          is.core.held

      outgoing_is : (answered : Bool)
          → IsOutgoingOf plan (without_answered answered block.header.system step.next.outgoing)
      outgoing_is true = record { side = is.core.outgoing.side; device = is.core.outgoing.device }
      outgoing_is false = is.core.outgoing

      folds_are : folds_of (with_call (receiver_of plan) call before own) ≡ heard_more block now f
      folds_are = folds-call (receiver_of plan) call before own ∙ ap (λ (ev : LineEvent). folds_told ev now f)
          told_before

      whole_is : whole_in (with_call (receiver_of plan) call before own)
          ≡ whole_of (flow_after (receiver_of plan) (met_of (receiver_of plan) (entries_in own)) block)
      whole_is = whole-told (receiver_of plan) call before own block told_before

      core : (held : Bool) (l : LineState) → IsLine l
          → HeldIs plan.side f.sents f.gave (record { header = block.header; after = length f.sents } ∷ f.heard) l.held
          → IsCore plan base (heard_more block now f) (with_line l (back held))
      core held l is_line holds = record {
        line = is_line;
        numbers = is.core.numbers;
        spare = is.core.spare;
        outgoing = outgoing_is waits;
        waiting = waiting-answered f.sents f.gave f.heard step.next.outgoing block.header is.core.outgoing.side
            is.core.numbers.new is.core.waiting;
        held = holds;
        asked = is.core.asked;
        transactions = open-started plan f.sents (held || waits) block.header.system now step.next.transactions
            is.core.transactions;
        met = met-given laws.standing plan f.entries step.next.assembly block now came.is_block is.core.met;
      }

      some : (o : Option BlockView) → is_held_answered block.header o ≡ true → IsSome o
      some None e = absurd (cc)
      some (Some b) e = refl

      go : (held : Bool) → is_held_answered block.header taken.next.line.held ≡ held
          → IsHeardBy made byte now (with_end (cancels held (back held)) taken)
          (whole_of (flow_after (receiver_of plan) (met_of (receiver_of plan) (entries_in own)) block))
      go false e = record {
        newer = call ∷ [];
        are = inl refl;
        heard = record {
          done = Calls call ∷ is.done;
          called = ap (λ (calls : List LineCall). call ∷ calls) is.called;
          drops = is.drops;
          steps = record { replies = (tt, is.steps.replies); asked = is.steps.asked };
          unended = is.unended;
          whole_is = whole_is;
          course = course-changed plan base doings _ taken (back false) refl course;
          core = subst (λ (g : Folds). IsCore plan base g (back false)) (sym folds_are)
              (core false taken.next.line line (held-answered f.sents f.gave f.heard taken.next.line.held block.header e
              held_is));
        };
      }
      go true e = record {
        newer = Cancel ∷ call ∷ [];
        are = inr refl;
        heard = record {
          done = Calls Cancel ∷ Calls call ∷ is.done;
          called = ap (λ (calls : List LineCall). Cancel ∷ call ∷ calls) is.called;
          drops = is.drops;
          steps = record { replies = (tt, (tt, is.steps.replies)); asked = is.steps.asked };
          unended = is.unended;
          whole_is = whole_is;
          course = course-cancelled plan base doings _ taken (cancels true (back true)) refl course can;
          core = subst (λ (g : Folds). IsCore plan base g (with_line (line_step taken.next.line Cancel).next
              (back true)))
              (sym folds_are)
              (core true (line_step taken.next.line Cancel).next
              (line-call laws.small laws.kept taken.next.line Cancel line can (All-nil (λ b. b < 256)))
              (held-none f.sents f.gave _));
        };
      }
        where
          can : HoldsIdle taken.next.line
          can = record { idle = came.idle; block = some taken.next.line.held e }

  -- what the block was
  at-judges :
      (made : List LineCall) (header : Header) (flow : Flow) (step : Step (EndView K) Happening)
      → ((message : Message) (check : Checking) → flow ≡ Whole message check → IsMessage message)
      → IsHeard made step (whole_of flow)
      → AtMade made (judges Some header flow step)
  at-judges made header Part step whole is =
      let at = at-no-whole made step is in
      at-transactions laws plan base fits doings Moment (Exactly made) step _ at
      (open-timed plan (sent_in (own_of plan (is.done ++ doings))) (is_answered_by header) None step.next.transactions
      is.core.transactions)
  at-judges made header (Whole message check) step whole is = record {
    done = Does (ReceivedMessage message) ∷ is.done;
    course = course-changed plan base doings _ _ (with_asked (asked_by message) step.next) refl
        (course-did plan base doings is.done step (ReceivedMessage message) _ is.course
        (subst (λ (o : Option Message). IsInTurn o (Does (ReceivedMessage message))) (sym is.whole_is) tt) is.whole_is
        refl);
    received = refl;
    called = is.called;
    drops = (tt, is.drops);
    steps = record {
      replies = (tt, is.steps.replies);
      asked = λ title e. asks (is_primary message) message.wait refl refl title e;
    };
    unended = is.unended;
    core = record {
      line = is.core.line;
      numbers = is.core.numbers;
      spare = is.core.spare;
      outgoing = is.core.outgoing;
      waiting = is.core.waiting;
      held = is.core.held;
      asked = λ title e. asks (is_primary message) message.wait refl refl title e;
      transactions = is.core.transactions;
      met = is.core.met;
    };
  }
    where
      asks : (primary wait : Bool) → is_primary message ≡ primary → message.wait ≡ wait → (title : Title)
          → (if primary && wait then Some (title_of message) else None) ≡ Some title
          → IsAskedOf (Some message) title
      asks false wait odd waits title e = absurd (cc)
      asks true false odd waits title e = absurd (cc)
      asks true true odd waits title e =
          record {
            message = message;
            is = refl;
            primary = odd;
            wait = waits;
            title = sym (same_Some _ _ e);
            fits = whole message check refl;
          }
  at-judges made header Duplicate step whole is =
      at-said laws plan base fits doings Moment (Exactly made) step (Happening.Duplicate header) tt
      (at-no-whole made step is)
  at-judges made header (Foreign address) step whole is =
      at-said laws plan base fits doings Moment (Exactly made) step (Happening.Foreign header) tt
      (at-no-whole made step is)
  at-judges made header Unexpected step whole is =
      at-said laws plan base fits doings Moment (Exactly made) step (Happening.Unexpected header) tt
      (at-no-whole made step is)
  at-judges made header TooLong step whole is =
      at-said laws plan base fits doings Moment (Exactly made) step (Happening.TooLongBlock header) tt
      (at-no-whole made step is)
  at-judges made header Crowded step whole is =
      at-said laws plan base fits doings Moment (Exactly made) step (Happening.Crowded header) tt
      (at-no-whole made step is)

  at-hears :
      (made : List LineCall) (byte now : ℕ) (step : Step (EndView K) Happening) (block : BlockView) → byte < 256
      → (line_step step.next.line (LineCall.Take byte now)).event ≡ Arrived block → AtMade made step
      → IsDone made (Command.Take byte now) (hears Some block now (calls (LineCall.Take byte now) step))
  at-hears made byte now step block below told is = record {
    newer = came.newer;
    are = came.are;
    at = at-judges (came.newer ++ made) block.header (flow_to step.next.assembly block) heard fits_whole came.heard;
  }
    where
      heard : Step (EndView K) Happening
      heard =
          with_end (takes_back block.header now
          (with_assembly (with_block step.next.assembly block now) (calls (LineCall.Take byte now) step).next))
          (calls (LineCall.Take byte now) step)

      entries : List FlowEntry
      entries = entries_in (own-in is)

      flow_is : flow_to step.next.assembly block ≡ flow_after (receiver_of plan) (met_of (receiver_of plan) entries)
          block
      flow_is =
          (laws.standing step.next.assembly entries is.core.met.stands).flow block
          ∙ ap (λ (r : Receiver). flow_after r (met_of r entries) block) is.core.met.receiver

      came : IsHeardBy made byte now heard (whole_of (flow_to step.next.assembly block))
      came =
          subst (λ (o : Option Message). IsHeardBy made byte now heard o) (sym (ap whole_of flow_is))
          (at-heard made byte now step block below told is)

      is_block : IsBlock block
      is_block = (arrival laws.small step.next.line byte now block is.core.line below told).is_block

      fits_whole :
          (message : Message) (check : Checking) → flow_to step.next.assembly block ≡ Whole message check
          → IsMessage message
      fits_whole message check e =
          (laws.whole (receiver_of plan) entries block message check (receiver-fits plan fits) is.core.met.blocks
          is_block
          (sym flow_is ∙ e)).0

  pub take-made :
      (made : List LineCall) (byte now : ℕ) (step : Step (EndView K) Happening) → byte < 256 → AtMade made step
      → IsDone made (Command.Take byte now) (takes Some byte now step)
  take-made made byte now step below is = go (line_step step.next.line (LineCall.Take byte now)).event refl
    where
      taken : ((block : BlockView) → (line_step step.next.line (LineCall.Take byte now)).event ≡ Arrived block → ⊥)
          → AtMade (LineCall.Take byte now ∷ made) (calls (LineCall.Take byte now) step)
      taken none =
          at-called made (LineCall.Take byte now) step tt tt
          (All-cons (λ b. b < 256) byte [] below (All-nil (λ b. b < 256))) none is

      done : {next : Step (EndView K) Happening} → AtMade (LineCall.Take byte now ∷ made) next
          → IsDone made (Command.Take byte now) next
      done at = record { newer = LineCall.Take byte now ∷ []; are = inl refl; at = at }

      go : (event : LineEvent) → (line_step step.next.line (LineCall.Take byte now)).event ≡ event
          → IsDone made (Command.Take byte now)
          (tells Some (held_header step.next.line.held) event now (calls (LineCall.Take byte now) step))
      go (Arrived block) e = at-hears made byte now step block below e is
      go Sent e =
          let at = taken (λ block told. let w = sym e ∙ told in absurd (cc)) in
          done (at-transactions laws plan base fits doings Moment (Exactly (LineCall.Take byte now ∷ made))
          (calls (LineCall.Take byte now) step) _ at
          (open-acknowledged plan (sent_in (own-in at)) (held_header step.next.line.held) now step.next.transactions
          at.core.transactions))
      go Nothing e = done (taken (λ block told. let w = sym e ∙ told in absurd (cc)))
      go Failed e = done (taken (λ block told. let w = sym e ∙ told in absurd (cc)))
      go (Refused cause) e = done (taken (λ block told. let w = sym e ∙ told in absurd (cc)))
