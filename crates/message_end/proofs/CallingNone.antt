-- Each command that calls no line keeps the law, and so does a list of them.
use Rattle.std.proofs.Common.{if◌then◌else◌, not, ◌≡◌, inl, refl, sym, ap, ◌∙◌, subst, arith, Bool, true, false, ℕ, ◌-◌, ◌^◌, ◌%◌, ◌==◌, ◌<◌, List, [], ◌∷◌, ◌++◌, length, Some, None, Option, nat_le}
use Rattle.std.specs.Prelude.{is_some}
use Rattle.std.specs.List.{find, suffix_len}
use Rattle.std.proofs.lemmas.List.{append-nil}
use Rattle.std.proofs.lemmas.List.Elements.{All-nil}
use Rattle.std.proofs.lemmas.Option.{same_Some}
use Rattle.block_codec.specs.declared.header.Header.{Header}
use Rattle.gl_base.specs.declared.side.Side.{Side}
use Rattle.gl_base.specs.Side.{other_side}
use Rattle.line_end.specs.Plan.{LinePlanFits}
use Rattle.line_end.specs.Step.{LineCall}
use Rattle.message_flow.specs.declared.message.Message.{Message}
use Rattle.message_flow.specs.declared.waiting.Waiting.{Waiting}
use Rattle.message_flow.specs.Assembly as assembly
use Rattle.message_flow.specs.Assembly.{header_so_far, without_due}
use Rattle.message_flow.specs.Blocks.{block_count, header_of}
use Rattle.message_flow.specs.Deadlines.{dropped_after}
use Rattle.message_flow.specs.History.{met_of}
use Rattle.message_flow.specs.Laws as flow_laws
use Rattle.message_flow.specs.Message.{IsMessage, is_primary}
use Rattle.message_flow.specs.Outgoing.{is_source_of, with_waiting}
use Rattle.message_flow.specs.Receiver.{Receiver}
use Rattle.message_flow.specs.Waiting.{is_named}
use Rattle.trace_log.specs.declared.names.Title.{Title}
use Rattle.trace_log.specs.Log.{Happening}
use Rattle.trace_log.specs.Names.{header_title, message_name, title_of}
use Rattle.transact.specs.declared.begun.Begun.{Begun}
use Rattle.transact.specs.Numbers.{after_draw, next_number, with_more}
use Rattle.transact.specs.Transactions as transactions
use Rattle.transact.specs.Transactions.{TransactionsView, has_system, is_answered_by}
use Rattle.message_end.specs.declared.unsent.Unsent.{Unsent}
use Rattle.message_end.specs.Core.{EndView, Command, Step, noted, with_end, with_outgoing, with_assembly, with_transactions, with_asked, with_numbers, unsent_name, primary_of, is_crowded_out, last_header_of, queues, sends, draws, keeps_drawn, primary, drawn_primary, reply_function, reply_of, replies, drops, without_begun, times_out, answers, carry, carried, IsText, IsUnsent, MayCarry, MayCarryAll, MayNote}
use Rattle.message_end.specs.Core.Went.{Goes}
use Rattle.message_end.specs.Doings.{Doing, own_of}
use Rattle.message_end.specs.Doings.Doing.{Does, Says}
use Rattle.message_end.specs.Drops.{AllDrop, Drops}
use Rattle.message_end.specs.History.{AreInSteps, AreTransactionsOf, AskedIs, AreWaiting, IsAskedOf, IsCore, IsSpare, folds_of}
use Rattle.message_end.specs.InStep.{asked_in_step}
use Rattle.message_end.specs.Own.{Has, IsReplyTo, Own, asked_after, asked_in, drawn_in, entries_in, sent_in}
use Rattle.message_end.specs.Own.Own.{DrewNumber, DroppedMessage, SentMessage}
use Rattle.message_end.specs.Plan.{EndPlan, receiver_of}
use Rattle.message_end.proofs.Courses.{IsCourse, course-changed, course-did, course-said, in-turn}
use Rattle.message_end.proofs.InSteps.{quiet-note, steps-none, steps-said}
use Rattle.message_end.proofs.MessagesKept.{held-sent, waiting-cut, waiting-less, waiting-sent}
use Rattle.message_end.proofs.NumbersKept.{IsDrawn, numbers-drawn, numbers-more, numbers-replied, numbers-sent, spare-drawn, spare-more, spare-none, spare-sent}
use Rattle.message_end.proofs.Open.{open-begins, open-less, open-sent}
use Rattle.message_end.proofs.Steps.{AllCallNone, CallsNone, IsAt, IsReply, Laws, OnWent, at-then, replies-to, reply-abort, reply-next, text-of-reply}

module _ {K : Type 0} (laws : Laws) (plan : EndPlan) (base : ℕ) (fits : LinePlanFits plan.line) (doings : List Doing)
    (Moment : ℕ → Type 0) (Called : List LineCall → Type 0) where
  abbrev At : Step (EndView K) Happening → Type 0
  At step = IsAt plan base doings Moment Called step

  abbrev own-of : {step : Step (EndView K) Happening} → At step → List Own
  own-of is = own_of plan (is.done ++ doings)

  -- ---- what changes no history

  pub at-said : (step : Step (EndView K) Happening) (what : Happening) → MayNote what → At step
      → At (noted Some what step)
  at-said step what may is = record {
    done = Says what ∷ is.done;
    course = course-said plan base doings is.done step what (quiet-note what may).plain is.received is.course;
    received = is.received;
    core = is.core;
    steps = steps-said plan (is.done ++ doings) step.next.asked what may is.steps;
    unended = ((quiet-note what may).no_end, is.unended);
    called = is.called;
    drops = is.drops;
  }

  abbrev at-changed :
      (step : Step (EndView K) Happening) (e : EndView K) → e.line ≡ step.next.line → (is : At step)
      → IsCore plan base (folds_of (own-of is)) e → AreInSteps plan (is.done ++ doings) e.asked
      → At (with_end e step)
  at-changed step e same is core steps = record {
    done = is.done;
    course = course-changed plan base doings is.done step e same is.course;
    received = is.received;
    core = core;
    steps = steps;
    unended = is.unended;
    called = is.called;
    drops = is.drops;
  }

  pub at-transactions :
      (step : Step (EndView K) Happening) (t : TransactionsView K) → (is : At step)
      → AreTransactionsOf plan (sent_in (own-of is)) t
      → At (with_end (with_transactions t step.next) step)
  at-transactions step t is open_is = at-changed step (with_transactions t step.next) refl is (record {
    line = is.core.line;
    numbers = is.core.numbers;
    spare = is.core.spare;
    outgoing = is.core.outgoing;
    waiting = is.core.waiting;
    held = is.core.held;
    asked = is.core.asked;
    transactions = open_is;
    met = is.core.met;
  }) is.steps

  -- fewer messages wait
  pub at-waits :
      (step : Step (EndView K) Happening) (waiting : List Waiting) → (is : At step)
      → AreWaiting plan.side (folds_of (own-of is)).sents (folds_of (own-of is)).gave
      (folds_of (own-of is)).heard waiting
      → At (with_end (with_outgoing (with_waiting step.next.outgoing waiting) step.next) step)
  at-waits step waiting is are =
      at-changed step (with_outgoing (with_waiting step.next.outgoing waiting) step.next) refl is (record {
        line = is.core.line;
        numbers = is.core.numbers;
        spare = is.core.spare;
        outgoing = record { side = is.core.outgoing.side; device = is.core.outgoing.device };
        waiting = are;
        held = is.core.held;
        asked = is.core.asked;
        transactions = is.core.transactions;
        met = is.core.met;
      }) is.steps

  -- ---- numbers, and messages that go out

  -- a number may be a primary's
  record IsReady (own : List Own) (e : EndView K) (system : ℕ) : Type 0 where
    drawn_is : Has (drawn_in own) system
    below : system < e.numbers.next
    four_bytes : system < 2 ^ 32
    free : (message : Message) → Has (sent_in own) message → is_primary message ≡ true → message.system ≡ system → ⊥
    apart : (spare : ℕ) → e.drawn ≡ Some spare → system ≡ spare → ⊥

  -- a number is drawn
  record IsAfterDraw (step : Step (EndView K) Happening) (number : ℕ) : Type 0 where
    at : At (with_end (with_numbers (after_draw step.next.numbers) step.next) step)
    ready : IsReady (own-of at) (with_numbers (after_draw step.next.numbers) step.next) number

  after-draw :
      (step : Step (EndView K) Happening) (number : ℕ) → At step → next_number step.next.numbers ≡ Some number
      → IsAfterDraw step number
  after-draw step number is e = record {
    at = record {
      done = Does (DrewNumber number) ∷ is.done;
      course = course-changed plan base doings _ _ (with_numbers (after_draw step.next.numbers) step.next) refl did;
      received = is.received;
      called = is.called;
      drops = (tt, is.drops);
      steps = record { replies = (tt, is.steps.replies); asked = is.steps.asked };
      unended = is.unended;
      core = record {
        line = is.core.line;
        numbers = new.after;
        spare = spare-drawn (drawn_in own) (sent_in own) step.next.numbers step.next.drawn number new.higher
            is.core.spare;
        outgoing = is.core.outgoing;
        waiting = is.core.waiting;
        held = is.core.held;
        asked = is.core.asked;
        transactions = is.core.transactions;
        met = is.core.met;
      };
    };
    ready = record {
      drawn_is = inl refl;
      below = new.below;
      four_bytes = new.four_bytes;
      free = new.free;
      apart = λ spare kept same.
          let old = is.core.spare spare kept in let below = old.below in let next = new.next in omega arith;
    };
  }
    where
      own : List Own
      own = own-of is

      new : IsDrawn base (drawn_in own) (sent_in own) step.next.numbers number
      new = numbers-drawn base (drawn_in own) (sent_in own) step.next.numbers number is.core.numbers e

      did : IsCourse plan base doings (Does (DrewNumber number) ∷ is.done) step
      did = course-did plan base doings is.done step (DrewNumber number) step.notes is.course
          (in-turn own (Does (DrewNumber number)) is.received)
          (record { least = new.least; above = new.above }) (sym (append-nil step.notes))

  message-of :
      (unsent : Unsent K) (system : ℕ) → IsUnsent unsent → system < 2 ^ 32 → IsMessage (primary_of unsent system)
  message-of unsent system is below = record {
    fits = record { stream = is.stream; body = is.body.short };
    function = is.function;
    system = below;
    bytes = is.body.bytes;
  }

  -- a primary goes out under such a number
  at-sends :
      (unsent : Unsent K) (system : ℕ) (step : Step (EndView K) Happening) → IsUnsent unsent → (is : At step)
      → IsReady (own-of is) step.next system
      → At (sends Some unsent system step)
  at-sends unsent system step asks is ready = record {
    done = Does (SentMessage message) ∷ is.done;
    course = course-changed plan base doings _ _ after refl
        (course-did plan base doings is.done step (SentMessage message) _ is.course
        (in-turn own (Does (SentMessage message)) is.received)
        (record {
          primary = λ odd. record {
            drawn = ready.drawn_is;
            new = λ sent has primary same. ready.free sent has primary same;
          };
          reply = λ even. let e = sym asks.odd ∙ even in absurd (cc);
        })
        refl);
    received = is.received;
    called = is.called;
    drops = (tt, is.drops);
    steps = record {
      replies = ((λ even. let e = sym asks.odd ∙ even in absurd (cc)), is.steps.replies);
      asked =
          subst (λ (b : Bool). AskedIs (asked_after b (asked_in_step (is.done ++ doings))) step.next.asked)
          (sym asks.odd) is.steps.asked;
    };
    unended = is.unended;
    core = record {
      line = is.core.line;
      numbers = numbers-sent base (drawn_in own) (sent_in own) step.next.numbers message ready.below
          (λ odd other has primary same. ready.free other has primary same) is.core.numbers;
      spare = spare-sent (drawn_in own) (sent_in own) step.next.numbers step.next.drawn message
          (λ odd spare kept same. ready.apart spare kept same) is.core.spare;
      outgoing = record { side = is.core.outgoing.side; device = is.core.outgoing.device };
      waiting = waiting-sent (sent_in own) _ _ step.next.outgoing.waiting message
          (message-of unsent system asks ready.four_bytes) is.core.waiting;
      held = held-sent (sent_in own) _ _ step.next.line.held message is.core.held;
      asked = subst (λ (b : Bool). AskedIs (asked_after b (asked_in own)) step.next.asked) (sym asks.odd) is.core.asked;
      transactions = open-begins plan (sent_in own) unsent.kind _ message step.next.transactions asks.odd refl last
          is.core.transactions;
      met = is.core.met;
    };
  }
    where
      message : Message
      message = primary_of unsent system

      last : last_header_of step.next.outgoing message ≡ header_of plan.side plan.line.device message
          (block_count message)
      last =
          ap (λ (side : Side). header_of side step.next.outgoing.device message (block_count message))
          is.core.outgoing.side
          ∙ ap (λ device. header_of plan.side device message (block_count message)) is.core.outgoing.device

      own : List Own
      own = own-of is

      after : EndView K
      after = (sends Some unsent system step).next

  at-primary :
      (unsent : Unsent K) (step : Step (EndView K) Happening) → IsUnsent unsent → At step
      → OnWent At (primary Some unsent step)
  at-primary unsent step asks is = go (is_crowded_out (is_some unsent.kind) step.next)
    where
      draw : (next : Option ℕ) → next_number step.next.numbers ≡ next → OnWent At (draws next (sends Some unsent) step)
      draw None e = is
      draw (Some number) e =
          let drawn = after-draw step number is e in
          at-sends unsent number (with_end (with_numbers (after_draw step.next.numbers) step.next) step) asks drawn.at
          drawn.ready

      go : (crowded : Bool)
          → OnWent At (if crowded then Goes (noted Some (Happening.Full (unsent_name unsent)) step)
          else draws (next_number step.next.numbers) (sends Some unsent) step)
      go true = at-said step (Happening.Full (unsent_name unsent)) tt is
      go false = draw (next_number step.next.numbers) refl

  -- a number is drawn by itself
  at-draw : (step : Step (EndView K) Happening) → At step
      → OnWent At (draws (next_number step.next.numbers) keeps_drawn step)
  at-draw step is = go (next_number step.next.numbers) refl
    where
      go : (next : Option ℕ) → next_number step.next.numbers ≡ next → OnWent At (draws next keeps_drawn step)
      go None e = is
      go (Some number) e =
          let drawn = after-draw step number is e in
          let core = drawn.at.core in
          let ready = drawn.ready in
          at-changed (with_end (with_numbers (after_draw step.next.numbers) step.next) step) _ refl drawn.at (record {
            line = core.line;
            numbers = core.numbers;
            spare = λ spare kept.
                let same : number ≡ spare = same_Some _ _ kept in
                subst (λ (n : ℕ). IsSpare (drawn_in (own-of drawn.at)) (sent_in (own-of drawn.at))
                (after_draw step.next.numbers) n) same
                (record { drawn_is = ready.drawn_is; below = ready.below; free = ready.free });
            outgoing = core.outgoing;
            waiting = core.waiting;
            held = core.held;
            asked = core.asked;
            transactions = core.transactions;
            met = core.met;
          }) drawn.at.steps

  at-drawn-primary :
      (unsent : Unsent K) (step : Step (EndView K) Happening) → IsUnsent unsent → At step
      → At (drawn_primary Some unsent step.next.drawn step)
  at-drawn-primary unsent step asks is = go step.next.drawn refl
    where
      own : List Own
      own = own-of is

      choose : (crowded : Bool) (number : ℕ) → step.next.drawn ≡ Some number
          → At (if crowded then noted Some (Happening.Full (unsent_name unsent)) step
          else sends Some unsent number (with_end (record step.next { drawn = None }) step))
      choose true number kept = at-said step (Happening.Full (unsent_name unsent)) tt is
      choose false number kept =
          let spare = is.core.spare number kept in
          let below = spare.below in
          let four = is.core.numbers.left.four_bytes in
          let ordered = is.core.numbers.left.ordered in
          let without = at-changed step (record step.next { drawn = None }) refl is (record {
            line = is.core.line;
            numbers = is.core.numbers;
            spare = spare-none (drawn_in own) (sent_in own) step.next.numbers;
            outgoing = is.core.outgoing;
            waiting = is.core.waiting;
            held = is.core.held;
            asked = is.core.asked;
            transactions = is.core.transactions;
            met = is.core.met;
          }) is.steps in
          at-sends unsent number (with_end (record step.next { drawn = None }) step) asks without (record {
            drawn_is = spare.drawn_is;
            below = below;
            four_bytes = omega arith;
            free = spare.free;
            apart = λ other none same. absurd (cc);
          })

      go : (drawn : Option ℕ) → step.next.drawn ≡ drawn → At (drawn_primary Some unsent drawn step)
      go None e = is
      go (Some number) e = choose (is_crowded_out (is_some unsent.kind) step.next) number e

  at-more :
      (count : ℕ) (step : Step (EndView K) Happening) → At step
      → At (with_end (with_numbers (with_more count step.next.numbers) step.next) step)
  at-more count step is = at-changed step (with_numbers (with_more count step.next.numbers) step.next) refl is (record {
    line = is.core.line;
    numbers = numbers-more base count _ _ step.next.numbers is.core.numbers;
    spare = spare-more _ _ step.next.numbers step.next.drawn count is.core.spare;
    outgoing = is.core.outgoing;
    waiting = is.core.waiting;
    held = is.core.held;
    asked = is.core.asked;
    transactions = is.core.transactions;
    met = is.core.met;
  }) is.steps

  -- ---- replies

  at-replies :
      (function : ℕ → ℕ) (body : List ℕ) (step : Step (EndView K) Happening)
      → ((asked : ℕ) → (asked % 2 == 1) ≡ true → asked < 256 → IsReply asked (function asked)) → IsText body → At step
      → At (replies Some step.next.asked function body step)
  at-replies function body step may text is = go step.next.asked refl
    where
      own : List Own
      own = own-of is

      answers : (newest : Option Message) (title : Title) (asked : IsAskedOf newest title)
          → IsReplyTo (other_side plan.side) asked.message
          (header_of plan.side 0 (reply_of title (function title.name.function) body) 1)
      answers newest title asked =
          subst (λ (t : Title). IsReplyTo (other_side plan.side) asked.message
          (header_of plan.side 0 (reply_of t (function t.name.function) body) 1)) (sym asked.title)
          (replies-to plan.side asked.message (function asked.message.function) body
          (may asked.message.function asked.primary asked.fits.function))

      choose : (full : Bool) (title : Title) → step.next.asked ≡ Some title
          → let message = reply_of title (function title.name.function) body in
          At (if full then noted Some (Happening.Full (message_name message))
          (with_end (with_asked None step.next) step)
          else queues Some message (with_end (with_asked None step.next) step))
      choose true title e =
          at-said (with_end (with_asked None step.next) step) (Happening.Full _) tt
          (at-changed step (with_asked None step.next) refl is (record {
            line = is.core.line;
            numbers = is.core.numbers;
            spare = is.core.spare;
            outgoing = is.core.outgoing;
            waiting = is.core.waiting;
            held = is.core.held;
            asked = λ title none. absurd (cc);
            transactions = is.core.transactions;
            met = is.core.met;
          }) (steps-none plan (is.done ++ doings) step.next.asked is.steps))
      choose false title e =
          let asked = is.core.asked title e in
          let message = reply_of title (function title.name.function) body in
          let of_title : title ≡ title_of asked.message = asked.title in
          let reply : IsReply asked.message.function (function asked.message.function) =
          may asked.message.function asked.primary asked.fits.function in
          let reply_is : IsReply asked.message.function (function title.name.function) =
          subst (λ (t : Title). IsReply asked.message.function (function t.name.function)) (sym of_title) reply in
          let answers_it = answers (asked_in own) title asked in
          let here = is.steps.asked title e in
          let secondary : is_primary message ≡ false = reply_is.even in
          let fits_is : IsMessage message = record {
            fits = record {
              stream = subst (λ (t : Title). t.name.stream < 128) (sym of_title) asked.fits.fits.stream;
              body = (text-of-reply (function title.name.function) body text).short;
            };
            function = reply_is.byte;
            system = subst (λ (t : Title). t.system < 2 ^ 32) (sym of_title) asked.fits.system;
            bytes = (text-of-reply (function title.name.function) body text).bytes;
          } in
          record {
            done = Does (SentMessage message) ∷ is.done;
            course = course-changed plan base doings _ _
                (queues Some message (with_end (with_asked None step.next) step)).next refl
                (course-did plan base doings is.done step (SentMessage message) _ is.course
                (in-turn own (Does (SentMessage message)) is.received)
                (record {
                  primary = λ odd. let wrong = sym odd ∙ secondary in absurd (cc);
                  reply = λ even. record {
                    asked = asked.message;
                    newest = asked.is;
                    primary = asked.primary;
                    wait = asked.wait;
                    reply = answers_it;
                  };
                })
                refl);
            received = is.received;
            called = is.called;
            drops = (tt, is.drops);
            steps = record {
              replies = (
                (λ even. record {
                  asked = here.message;
                  newest = here.is;
                  primary = here.primary;
                  wait = here.wait;
                  reply = answers (asked_in_step (is.done ++ doings)) title here;
                }),
                is.steps.replies,
              );
              asked = λ title none. absurd (cc);
            };
            unended = is.unended;
            core = record {
              line = is.core.line;
              numbers = numbers-replied base (drawn_in own) (sent_in own) step.next.numbers message secondary
                  is.core.numbers;
              spare = spare-sent (drawn_in own) (sent_in own) step.next.numbers step.next.drawn message
                  (λ odd spare kept same. let wrong = sym odd ∙ secondary in absurd (cc)) is.core.spare;
              outgoing = record { side = is.core.outgoing.side; device = is.core.outgoing.device };
              waiting = waiting-sent (sent_in own) _ _ step.next.outgoing.waiting message fits_is is.core.waiting;
              held = held-sent (sent_in own) _ _ step.next.line.held message is.core.held;
              asked = λ title none. absurd (cc);
              transactions = open-sent plan (sent_in own) message step.next.transactions is.core.transactions;
              met = is.core.met;
            };
          }

      go : (asked : Option Title) → step.next.asked ≡ asked → At (replies Some asked function body step)
      go None e = is
      go (Some title) e = choose (nat_le 128 (length step.next.outgoing.waiting)) title e

  -- ---- timers and transactions

  at-drops :
      (now : ℕ) (step : Step (EndView K) Happening) (found : Option Header)
      → header_so_far (find (assembly.is_due now) step.next.assembly.partials) ≡ found → Moment now → At step
      → At (drops Some found now step)
  at-drops now step None e at is = is
  at-drops now step (Some header) e at is = at-said _ (Happening.DroppedByT4 header) tt (record {
    done = Does (DroppedMessage header now) ∷ is.done;
    course = course-changed plan base doings _ _ (with_assembly (without_due now step.next.assembly) step.next) refl
        (course-did plan base doings is.done step (DroppedMessage header now) step.notes is.course
        (in-turn own (Does (DroppedMessage header now)) is.received) due (sym (append-nil step.notes)));
    received = is.received;
    called = is.called;
    drops = (at, is.drops);
    steps = record { replies = (tt, is.steps.replies); asked = is.steps.asked };
    unended = is.unended;
    core = record {
      line = is.core.line;
      numbers = is.core.numbers;
      spare = is.core.spare;
      outgoing = is.core.outgoing;
      waiting = is.core.waiting;
      held = is.core.held;
      asked = is.core.asked;
      transactions = is.core.transactions;
      met = record {
        receiver = is.core.met.receiver;
        stands = goes.dropped now header (sym (goes.due now) ∙ e);
        blocks = is.core.met.blocks;
      };
    };
  })
    where
      goes : flow_laws.GoesOn step.next.assembly (entries_in (own-of is))
      goes = laws.standing step.next.assembly (entries_in (own-of is)) is.core.met.stands

      own : List Own
      own = own-of is

      due : dropped_after (receiver_of plan) (met_of (receiver_of plan) (entries_in own)) now ≡ Some header
      due =
          ap (λ (r : Receiver). dropped_after r (met_of r (entries_in own)) now) (sym is.core.met.receiver)
          ∙ sym (goes.due now) ∙ e

  at-times-out :
      (test : Begun K → Bool) (found : Option (Begun K)) (step : Step (EndView K) Happening) → At step
      → At (times_out Some test found step)
  at-times-out test None step is = is
  at-times-out test (Some begun) step is =
      at-said (with_end (without_begun test step.next) step) (Happening.TimedOut (header_title begun.header)) tt
      (at-transactions step _ is (open-less plan (sent_in (own-of is)) test step.next.transactions
      is.core.transactions))

  at-answers :
      (header : Header) (found : Option (Begun K)) (step : Step (EndView K) Happening) → At step
      → At (answers Some header found step)
  at-answers header None step is = at-said step (Happening.Stranger (header_title header)) tt is
  at-answers header (Some begun) step is =
      at-transactions step _ is
      (open-less plan (sent_in (own-of is)) (is_answered_by header) step.next.transactions is.core.transactions)

  -- ---- all commands that call no line

  pub at-carry :
      (one : Command K) (step : Step (EndView K) Happening) → CallsNone one → Drops Moment one → MayCarry one → At step
      → OnWent At (carry Some one step)
  at-carry (Command.Note what) step none at may is = at-said step what may is
  at-carry (Command.Primary unsent) step none at may is = at-primary unsent step may is
  at-carry Command.Draw step none at may is = at-draw step is
  at-carry (Command.DrawnPrimary unsent) step none at may is = at-drawn-primary unsent step may is
  at-carry (Command.More count) step none at may is = at-more count step is
  at-carry (Command.Reply body) step none at may is = at-replies reply_function body step reply-next may is
  at-carry Command.Abort step none at may is =
      at-replies (λ function. 0) [] step (λ asked odd below. reply-abort asked)
      (record { short = omega arith; bytes = All-nil (λ byte. byte < 256) }) is
  at-carry (Command.Tick now) step none at may is = absurd none
  at-carry (Command.Take byte now) step none at may is = absurd none
  at-carry (Command.Offer now) step none at may is = absurd none
  at-carry (Command.DropDue now) step none at may is = at-drops now step _ refl at is
  at-carry (Command.Expire now) step none at may is = at-times-out (transactions.is_due now) _ step is
  at-carry (Command.Answer header) step none at may is = at-answers header _ step is
  at-carry (Command.GiveUp header) step none at may is = at-times-out (is_answered_by header) _ step is
  at-carry (Command.End system) step none at may is =
      at-transactions step _ is
      (open-less plan (sent_in (own-of is)) (has_system system) step.next.transactions is.core.transactions)
  at-carry (Command.Recall header) step none at may is =
      let test = is_source_of step.next.outgoing header in
      let xs = step.next.outgoing.waiting in
      let s = suffix_len (λ w. not (test w)) xs in
      at-waits step _ is (waiting-cut _ _ _ xs (length xs - s - 1) (length xs - s) (omega arith) is.core.waiting)
  at-carry (Command.Remove primary system) step none at may is =
      at-waits step _ is (waiting-less _ _ _ step.next.outgoing.waiting (is_named primary system) is.core.waiting)
  at-carry Command.DropFront step none at may is =
      at-waits step _ is (waiting-cut _ _ _ step.next.outgoing.waiting 0 1 (omega arith) is.core.waiting)
  at-carry Command.CloseStep step none at may is = absurd may
  at-carry Command.Halt step none at may is = is

  pub at-carried :
      (commands : List (Command K)) (step : Step (EndView K) Happening) → AllCallNone commands → AllDrop Moment commands
      → MayCarryAll commands → At step → OnWent At (carried Some commands step)
  at-carried [] step none moments may is = is
  at-carried (one ∷ commands) step none moments may is =
      at-then At (carry Some one step) (carried Some commands) (at-carry one step none.0 moments.0 may.0 is)
      (λ next at. at-carried commands next none.1 moments.1 may.1 at)
