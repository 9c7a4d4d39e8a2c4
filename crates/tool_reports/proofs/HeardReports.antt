-- That what the host asks for is answered by what holds then.
use Rattle.std.proofs.Common.{◌≡◌, refl, sym, ap, subst, ◌∙◌, Bool, true, false, ℕ, ◌==◌, ◌≤◌, ◌+◌, ◌&&◌, nat_le, List, [], ◌∷◌, length, Option, Some, None, if◌then◌else◌}
use Rattle.gem_shapes.specs.Answers.{code_item}
use Rattle.gem_shapes.specs.Requests.{shape_of}
use Rattle.gem_shapes.specs.declared.primary.Primary.TheVariants as primary
use Rattle.gem_shapes.specs.declared.request.Request.{Request}
use Rattle.gem_shapes.specs.declared.request.Request.TheVariants as request
use Rattle.gem_shapes.specs.declared.request.TablesRequest.{TablesRequest}
use Rattle.gem_states.specs.declared.control.ControlIn.{ControlIn}
use Rattle.gem_states.specs.declared.control.ControlIn.TheVariants as control_in
use Rattle.gem_trace.specs.declared.request.TraceRequest.{TraceRequest}
use Rattle.message_flow.specs.declared.message.Message.{Message}
use Rattle.setup_law.proofs.Notes.{request-rests}
use Rattle.setup_law.specs.Setup.{list_in}
use Rattle.trace_log.specs.declared.commands.ToolCommand.{ToolCommand}
use Rattle.trace_log.specs.declared.names.Title.{Title}
use Rattle.trace_log.specs.Log.{Happening, Past}
use Rattle.trace_log.specs.Names.{message_name, title_of}
use Rattle.message_end.specs.Core.{carried, noted, queues, replies, reply_function, reply_of, reply_text, with_asked, with_end}
use Rattle.message_end.specs.Core.Command.{Note, Reply}
use Rattle.message_end.specs.Duties.{all_done}
use Rattle.equipment_tables.specs.declared.answers.Answer.{Answer as Text}
use Rattle.equipment_tables.specs.declared.answers.Answer.TheVariants as answer
use Rattle.equipment_tables.specs.declared.plan.EquipmentPlan.{EquipmentPlan}
use Rattle.equipment_tables.specs.Answers.{answer_of, event_item, lines_of, report_item_of, spelled_body}
use Rattle.equipment_tables.specs.Laws.{TablesAreLookedBackFor}
use Rattle.equipment_tables.specs.Plan.{EquipmentPlanFits}
use Rattle.equipment_tables.specs.Requests.{asked_by, request_of}
use Rattle.equipment_tables.specs.Tables.{TablesState, asked_after}
use Rattle.tool_step.specs.Messages.{answer_turn, control_request_turn, established_turn, request_turn}
use Rattle.tool_step.specs.Own.{OwnView, ToolCommands, ToolDuty, ToolTurn, is_local, turn_before, turn_of, with_ledger, with_tables}
use Rattle.tool_step.specs.Spooling.{booked_turn, purge_turn, rsda_duties, transmit_turn}
use Rattle.spool_ledger.specs.Activity.{rsda_of}
use Rattle.spool_ledger.specs.Storing.{all_out}
use Rattle.spool_ledger.specs.Unloading.{fresh, with_unload}
use Rattle.tool_reports.specs.Reported.{HoldsItsValues, IsTextOf, count_of, count_of_events, is_of, past_in, reports_in, tables_in}
use Rattle.tool_step.specs.Sampling.{tiaack_code, tiaack_in, trace_turn}
use Rattle.tool_step.specs.Sent as sent
use Rattle.tool_step.specs.Setup.{next_setup}
use Rattle.gem_shapes.proofs.RecipeRequests.{asks_recipes}
use Rattle.tool_law.proofs.CommandWalks.{abort-are, long-are, answers-are}
use Rattle.tool_law.proofs.TurnWalks.{before-of, established-of, control-request-of}
use Rattle.tool_law.proofs.LedgerLines.{all-out-lines}
use Rattle.tool_reports.proofs.HeldReports.{Any, any-lasts, Ends, noted-so, plain-at, so_far}
use Rattle.tool_reports.proofs.QuietReports.{Holds, IsSpelledSo, holds-as, setup-is, spelled-so}
use Rattle.tool_reports.proofs.PlainTurns.{spool-quiet, states-stay, lines-silent, IsPlain, stays, itself, booked-stays, booked-plain, count_waiting}
use Rattle.tool_reports.proofs.QuietNotes.{AreSettled, IsAsBefore, never-live, quiet-note, settled-more, still-rests}
use Rattle.tool_reports.proofs.SetupRequests.{to-keep-is}
use Rattle.tool_reports.proofs.SilentCommands.{common-silent, AreSilentDuties}
use Rattle.message_end.proofs.Parts.{either-then}
use Rattle.tool_law.proofs.CoreSteps.{CoreStep}
use Rattle.tool_reports.proofs.HostReports.{AsksOf, asks-none, MayReply, other-silent, lines-quiet, IsNamed, requested, event_asked, report_asked}

module _
    (plan : EquipmentPlan) (fits : EquipmentPlanFits plan) (looked : TablesAreLookedBackFor)
    (start : List Happening) (said : List ToolCommand) (before : List Happening) where
  -- a request leaves the tables that it asks for
  pub asked-tables :
      (asks : Request) (message : Message) (own : OwnView) (notes : List Happening) → own.tables ≡ tables_in plan notes
      → request_of message.stream message.function message.body ≡ Some asks
      → (requested asks own).tables ≡ tables_in plan (Happening.Recorded (Past.Asked message) ∷ notes)
  asked-tables asks message own notes tables is =
      ap (λ (t : TablesState). asked_after (Some asks) t) tables
      ∙ sym (ap (λ (r : Option Request). asked_after r (tables_in plan notes)) is)
      ∙ sym (looked.next plan (past_in notes) (Past.Asked message) fits)

  -- one of which nothing is to be kept is noted right behind its delivery
  pub asked-noted :
      {drawn : Option ℕ} (asks : Request) (message : Message) (own : OwnView) (notes earlier : List Happening)
      → Holds plan start said own drawn notes
      → notes ≡ Happening.Received message ∷ earlier
      → request_of message.stream message.function message.body ≡ Some asks → next_setup asks message own ≡ None
      → Holds plan start said (requested asks own) drawn (Happening.Recorded (Past.Asked message) ∷ notes)
  asked-noted asks message own notes earlier holds newest is none = record {
    plan_is = holds.plan_is;
    kept_is = holds.kept_is;
    tables_are = asked-tables asks message own notes holds.tables_are is;
    events_are = holds.events_are;
    commanded = holds.commanded;
    waits = holds.waits;
    live = holds.live;
    tried = holds.tried;
    settled =
        settled-more plan start (Happening.Recorded (Past.Asked message)) notes tt refl (earlier, newest) refl
        (λ held at.
        request-rests plan held (list_in held notes) message notes
        (sym (to-keep-is plan held notes own holds.tables_are (setup-is own notes holds held) asks message is) ∙ none)
        at)
        holds.settled;
  }

  -- ---- requests of which nothing is said

  module _
      (message : Message) (Fact : List Happening → Type 0)
      (lasts : (old new : List Happening) → IsAsBefore old new → Fact old → Fact new)
      (may : MayReply Fact message) where
    abbrev Plain : OwnView → ToolTurn → Type 0
    Plain own turn = IsPlain (AsksOf message) (asks-none message) Fact lasts own turn

    abbrev SilentOf : List ToolDuty → Type 0
    SilentOf duties = AreSilentDuties (AsksOf message) (asks-none message) Fact lasts duties

    pub answers-of : (text : Text) → SilentOf (sent.answer_duties text message)
    answers-of text =
        answers-are (common-silent (AsksOf message) (asks-none message) Fact lasts) text message
        (other-silent message Fact lasts may)

    control-request-plain : (input : ControlIn) (own : OwnView)
        → Plain (with_tables own.tables own) (control_request_turn input message own)
    control-request-plain input own =
        let is : Plain own (control_request_turn input message own) =
        control-request-of (common-silent (AsksOf message) (asks-none message) Fact lasts) states-stay input message
        (other-silent message Fact lasts may) own
        in
        record {
          duties = is.duties;
          keeps = record {
            plan_is = refl;
            kept_is = refl;
            tables_are = refl;
            events_are = refl;
            fewer = is.keeps.fewer;
            live = is.keeps.live;
          };
        }

    answer-plain : (asks : TablesRequest) (own : OwnView)
        → Plain (requested (request.OfTables asks) own) (answer_turn asks message own)
    answer-plain asks own = record {
      duties = (
        (λ e.
            lines-silent (AsksOf message) (asks-none message) Fact lasts (lines_of own.tables (is_local own) asks)
            (lines-quiet own.tables (is_local own) asks)),
        answers-of (answer_of own.tables (is_local own) own.plan.line.max_body asks),
      );
      keeps = itself (requested (request.OfTables asks) own);
    }

    -- S6F23
    rsda-of : (own : OwnView) → SilentOf (rsda_duties message own)
    rsda-of own = answers-of (sent.text_of own (code_item (rsda_of own.ledger)))

    transmit-plain : (own : OwnView) → Plain own (transmit_turn message own)
    transmit-plain own = go (rsda_of own.ledger == 0)
      where
        begins : OwnView
        begins = with_ledger (with_unload (Some fresh) own.ledger) own

        go : (may : Bool)
            → Plain own
            (if may then turn_of begins (rsda_duties message own) else turn_of own (rsda_duties message own))
        go true = record {
          duties = rsda-of own;
          keeps = booked-stays own (with_unload (Some fresh) own.ledger);
        }
        go false = record { duties = rsda-of own; keeps = itself own }

    purge-plain : (own : OwnView) → Plain own (purge_turn message own)
    purge-plain own = go (rsda_of own.ledger == 0)
      where
        go : (may : Bool)
            → Plain own
            (if may then turn_before (rsda_duties message own) (booked_turn (all_out own.ledger) own)
            else turn_of own (rsda_duties message own))
        go true =
            before-of own (rsda_duties message own)
            (booked_turn (all_out own.ledger) own) (rsda-of own)
            (booked-plain (AsksOf message) (asks-none message) Fact lasts own (all_out own.ledger)
            (all-out-lines spool-quiet own.ledger))
        go false = record { duties = rsda-of own; keeps = itself own }

    -- S2F23
    trace-plain : (asked : TraceRequest) (now : ℕ) (own : OwnView) → Plain own (trace_turn asked now message own)
    trace-plain asked now own = record {
      duties = answers-of (sent.text_of own (code_item (tiaack_code (tiaack_in asked own))));
      keeps = stays own (trace_turn asked now message own).own refl refl refl refl refl refl;
    }

    -- (what the recipes are asked for waits for them)
    request-plain : (asks : Request) (now : ℕ) (own : OwnView) → asks_recipes asks ≡ false
        → Plain (requested asks own) (request_turn asks now message own)
    request-plain (request.OfRecipes asked) now own none = absurd (cc)
    request-plain (request.OfTables asked) now own none = answer-plain asked own
    request-plain request.GoOffline now own none = control-request-plain control_in.RequestOffline own
    request-plain request.GoOnline now own none = control-request-plain control_in.RequestOnline own
    request-plain request.Establish now own none = record {
      duties = abort-are (common-silent (AsksOf message) (asks-none message) Fact lasts) message;
      keeps = itself own;
    }
    request-plain request.TransmitSpool now own none = transmit-plain own
    request-plain request.PurgeSpool now own none = purge-plain own
    request-plain (request.Trace trid dsper total group svids) now own none =
        trace-plain (record { trid = trid; dsper = dsper; total = total; group = group; svids = svids }) now own

    pub established-plain : (now : ℕ) (own : OwnView) → Plain own (established_turn now message own)
    established-plain now own =
        established-of (common-silent (AsksOf message) (asks-none message) Fact lasts) states-stay
        (λ body. (refl, refl)) message (other-silent message Fact lasts may) now own

    -- a turn of which nothing is said, behind the primary
    pub request-keeps :
        (asks : Request) (now : ℕ) (own : OwnView) (step : CoreStep) → asks_recipes asks ≡ false
        → AsksOf message step.next.asked → Fact (so_far plan start said before step)
        → Holds plan start said (requested asks own) step.next.drawn (so_far plan start said before step)
        → Ends plan start said before (request_turn asks now message own).own
        (all_done Some (request_turn asks now message own).duties step)
    request-keeps asks now own step none it fact holds =
        plain-at plan start said before (AsksOf message) (asks-none message) Fact lasts (requested asks own)
        (request_turn asks now message own) step (request-plain asks now own none) it fact holds

  -- ---- reports that are asked for

  -- the reply with this text may be sent behind these notes
  pub record MayAnswer (message : Message) (text : List ℕ) (notes : List Happening) : Type 0 where
    pub no_event : is_of 6 11 (reply_of (title_of message) (reply_function message.function) text) ≡ false
    pub values : HoldsItsValues plan (reply_of (title_of message) (reply_function message.function) text) notes

  answer-sent :
      {drawn : Option ℕ} (message : Message) (text : List ℕ) (own : OwnView) (notes : List Happening)
      → Holds plan start said own drawn notes
      → MayAnswer message text notes
      → Holds plan start said own drawn
      (Happening.Sent (reply_of (title_of message) (reply_function message.function) text) ∷ notes)
  answer-sent message text own notes holds may = record {
    plan_is = holds.plan_is;
    kept_is = holds.kept_is;
    tables_are = holds.tables_are;
    events_are = holds.events_are;
    commanded = holds.commanded;
    waits = λ body.
        subst
        (λ (b : Bool).
        count_of body
        (if b then (reply_of (title_of message) (reply_function message.function) text).body ∷ reports_in notes
        else reports_in notes)
        + count_waiting body own.for_grant ≤ count_of_events plan body notes)
        (sym
        (never-live (reply_of (title_of message) (reply_function message.function) text) notes may.no_event))
        (holds.waits body);
    live = holds.live;
    tried = holds.tried;
    settled =
        settled-more plan start
        (Happening.Sent (reply_of (title_of message) (reply_function message.function) text)) notes tt refl may.values
        refl
        (still-rests plan (Happening.Sent (reply_of (title_of message) (reply_function message.function) text)) notes
        refl)
        holds.settled;
  }

  reply-at :
      (message : Message) (text : List ℕ) (own : OwnView) (step : CoreStep) → AsksOf message step.next.asked
      → Holds plan start said own step.next.drawn (so_far plan start said before step)
      → MayAnswer message text (so_far plan start said before step)
      → Ends plan start said before own (carried Some (Reply text ∷ []) step)
  reply-at message text own step asks holds may = go step.next.asked asks
    where
      out : Title → Message
      out title = reply_of title (reply_function title.name.function) text

      sends : (title : Title) → title ≡ title_of message
          → Holds plan start said own step.next.drawn (Happening.Sent (out title)
          ∷ so_far plan start said before step)
      sends title is =
          subst (λ (t : Title). Holds plan start said own step.next.drawn
          (Happening.Sent (out t) ∷ so_far plan start said before step)) (sym is)
          (answer-sent message text own (so_far plan start said before step) holds may)

      replied : Title → Bool → CoreStep
      replied title full =
          if full then noted Some (Happening.Full (message_name (out title)))
          (with_end (with_asked None step.next) step)
          else queues Some (out title) (with_end (with_asked None step.next) step)

      room : (title : Title) → title ≡ title_of message → (full : Bool)
          → Holds plan start said own (replied title full).next.drawn (so_far plan start said before
          (replied title full))
      room title is true =
          noted-so plan start said before own (Happening.Full (message_name (out title))) step
          (holds-as plan start said own (so_far plan start said before step)
          (Happening.Full (message_name (out title)) ∷ so_far plan start said before step) holds
          (quiet-note (Happening.Full (message_name (out title))) tt (so_far plan start said before step)))
      room title is false = noted-so plan start said before own (Happening.Sent (out title)) step (sends title is)

      go : (asked : Option Title) → AsksOf message asked
          → Holds plan start said own (replies Some asked reply_function text step).next.drawn
          (so_far plan start said before (replies Some asked reply_function text step))
      go None it = holds
      go (Some title) it = room title (it title refl).0 (nat_le 128 (length step.next.outgoing.waiting))

  pub answered-at :
      (message : Message) (text : Text) (own : OwnView) (step : CoreStep) → AsksOf message step.next.asked
      → Holds plan start said own step.next.drawn (so_far plan start said before step)
      → ((body : List ℕ) → text ≡ answer.Body body → message.wait ≡ true
      → MayAnswer message body (so_far plan start said before step))
      → Ends plan start said before own (all_done Some (sent.answer_duties text message) step)
  answered-at message text own step asks holds may = by_text text refl
    where
      silent : (duties : List ToolDuty) → AreSilentDuties (AsksOf message) (asks-none message) Any any-lasts duties
          → Ends plan start said before own (all_done Some duties step)
      silent duties are =
          plain-at plan start said before (AsksOf message) (asks-none message) Any any-lasts own
          (record { own = own; duties = duties })
          step
          (record { duties = are; keeps = itself own }) asks tt holds

      commands_by : List ℕ → Bool → Bool → ToolCommands
      commands_by body wait room =
          if wait then if room then Reply body ∷ [] else Note (Happening.Full (sent.reply_name message)) ∷ [] else []

      loud : (body : List ℕ) → text ≡ answer.Body body → (wait room : Bool) → message.wait ≡ wait
          → Ends plan start said before own (carried Some (commands_by body wait room) step)
      loud body is true true waits = reply-at message body own step asks holds (may body is waits)
      loud body is true false waits =
          noted-so plan start said before own (Happening.Full (sent.reply_name message)) step
          (holds-as plan start said own (so_far plan start said before step)
          (Happening.Full (sent.reply_name message) ∷ so_far plan start said before step) holds
          (quiet-note (Happening.Full (sent.reply_name message)) tt (so_far plan start said before step)))
      loud body is false room waits = holds

      by_text : (t : Text) → text ≡ t → Ends plan start said before own
          (all_done Some (sent.answer_duties t message) step)
      by_text (answer.Body body) is =
          either-then (λ next. Holds plan start said own next.next.drawn (so_far plan start said before next))
          (λ next. AreSettled plan start (so_far plan start said before next))
          (λ next. Holds plan start said own next.next.drawn (so_far plan start said before next))
          (carried Some (sent.body_duty body message step.next) step) (all_done Some [])
          (loud body is message.wait (sent.has_room step.next) refl) (λ next at. at)
      by_text answer.TooLong is =
          silent (sent.long_duties message)
          (long-are (common-silent (AsksOf message) (asks-none message) Any any-lasts) message)

  -- S6F15 and S6F19, noted just now
  pub event-answer :
      (ceid max : ℕ) (message : Message) (own : OwnView) (text : List ℕ) (notes : List Happening) (earlier : List
      Past)
      → IsNamed primary.S6F15 message
      → asked_by (shape_of primary.S6F15) message.body ≡ Some (event_asked ceid)
      → own.tables ≡ tables_in plan notes → past_in notes ≡ Past.Asked message ∷ earlier → message.wait ≡ true
      → spelled_body max (event_item own.tables ceid 0) ≡ answer.Body text → MayAnswer message text notes
  event-answer ceid max message own text notes earlier is asks tables newest waits spelled = record {
    no_event = named_so 11;
    values = record {
      s6f11 = λ e. let f = never-live out notes (named_so 11) in absurd (cc);
      s6f16 = λ e. (
        ceid,
        record {
          primary = message;
          earlier = earlier;
          newest = newest;
          stream = is.stream;
          function_is = is.function;
          system = refl;
          asks = asks;
          body = subst (λ (t : List ℕ). IsTextOf (event_item (tables_in plan notes) ceid 0) t) (sym body_is)
              (subst (λ (t : TablesState). IsTextOf (event_item t ceid 0) text) tables
              (record { spelled = so.spelled; shortest = so.shortest }));
        },
      );
      s6f20 = λ e. let f = named_so 20 in absurd (cc);
      reply = λ e. record {
        primary = message;
        earlier = earlier;
        newest = newest;
        awaited = waits;
        stream = refl;
        function = refl;
        wait = refl;
        system = refl;
      };
    };
  }
    where
      so : IsSpelledSo (event_item own.tables ceid 0) text
      so = spelled-so max (event_item own.tables ceid 0) text spelled

      out : Message
      out = reply_of (title_of message) (reply_function message.function) text

      named_so : (function : ℕ) → is_of 6 function out ≡ ((6 == 6) && (16 == function))
      named_so function =
          ap (λ (s : ℕ). (s == 6) && (reply_function message.function == function)) is.stream
          ∙ ap (λ (f : ℕ). (6 == 6) && (reply_function f == function)) is.function

      body_is : out.body ≡ text
      body_is = ap (λ (f : ℕ). reply_text (reply_function f) text) is.function

  pub report-answer :
      (rptid max : ℕ) (message : Message) (own : OwnView) (text : List ℕ) (notes : List Happening) (earlier : List
      Past)
      → IsNamed primary.S6F19 message → asked_by (shape_of primary.S6F19) message.body ≡ Some (report_asked rptid)
      → own.tables ≡ tables_in plan notes → past_in notes ≡ Past.Asked message ∷ earlier → message.wait ≡ true
      → spelled_body max (report_item_of own.tables rptid) ≡ answer.Body text → MayAnswer message text notes
  report-answer rptid max message own text notes earlier is asks tables newest waits spelled = record {
    no_event = named_so 11;
    values = record {
      s6f11 = λ e. let f = never-live out notes (named_so 11) in absurd (cc);
      s6f16 = λ e. let f = named_so 16 in absurd (cc);
      s6f20 = λ e. (
        rptid,
        record {
          primary = message;
          earlier = earlier;
          newest = newest;
          stream = is.stream;
          function_is = is.function;
          system = refl;
          asks = asks;
          body = subst (λ (t : List ℕ). IsTextOf (report_item_of (tables_in plan notes) rptid) t) (sym body_is)
              (subst (λ (t : TablesState). IsTextOf (report_item_of t rptid) text) tables
              (record { spelled = so.spelled; shortest = so.shortest }));
        },
      );
      reply = λ e. record {
        primary = message;
        earlier = earlier;
        newest = newest;
        awaited = waits;
        stream = refl;
        function = refl;
        wait = refl;
        system = refl;
      };
    };
  }
    where
      so : IsSpelledSo (report_item_of own.tables rptid) text
      so = spelled-so max (report_item_of own.tables rptid) text spelled

      out : Message
      out = reply_of (title_of message) (reply_function message.function) text

      named_so : (function : ℕ) → is_of 6 function out ≡ ((6 == 6) && (20 == function))
      named_so function =
          ap (λ (s : ℕ). (s == 6) && (reply_function message.function == function)) is.stream
          ∙ ap (λ (f : ℕ). (6 == 6) && (reply_function f == function)) is.function

      body_is : out.body ≡ text
      body_is = ap (λ (f : ℕ). reply_text (reply_function f) text) is.function
