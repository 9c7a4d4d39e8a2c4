-- That a whole message, and a reply, leave reports as they hold.
use Rattle.std.proofs.Common.{◌≡◌, refl, sym, ap, subst, ◌∙◌, Bool, true, false, not, ℕ, ◌%◌, ◌==◌, ◌&&◌, List, ◌∷◌, Option, Some, None, if◌then◌else◌}
use Rattle.std.specs.Option.{option_and_then, option_map}
use Rattle.block_codec.specs.declared.header.Header.{Header}
use Rattle.gem_shapes.specs.Elements.{identifier}
use Rattle.gem_shapes.specs.Primaries.{is_known, primary_with}
use Rattle.gem_shapes.specs.Requests.{shape_of}
use Rattle.gem_shapes.specs.declared.primary.Primary.{Primary}
use Rattle.gem_shapes.specs.declared.primary.Primary.TheVariants as primary
use Rattle.gem_shapes.specs.declared.request.Request.{Request}
use Rattle.gem_shapes.specs.declared.request.Request.TheVariants as request
use Rattle.gem_shapes.specs.declared.request.TablesRequest.{TablesRequest}
use Rattle.gem_shapes.specs.declared.request.TablesRequest.TheVariants as tables_request
use Rattle.gem_states.specs.declared.comms.CommsIn.TheVariants as comms_in
use Rattle.gem_states.specs.declared.control.ControlIn.TheVariants as control_in
use Rattle.message_flow.specs.declared.message.Message.{Message}
use Rattle.message_flow.specs.Message.{is_primary}
use Rattle.secs_items.specs.declared.item.Item.{Item}
use Rattle.gem_shapes.proofs.ReportPrimaries.{asks_for_report, each_primary}
use Rattle.setup_store.specs.Entries.{Entry, bytes_of, has_room, is_kept}
use Rattle.setup_store.specs.Kept.{kept}
use Rattle.trace_log.specs.declared.commands.ToolCommand.{ToolCommand}
use Rattle.trace_log.specs.Log.{Happening, Past}
use Rattle.transact.specs.declared.transactions.Match.{Match}
use Rattle.transact.specs.declared.transactions.Match.TheVariants as match
use Rattle.transact.specs.Transactions.{match_of}
use Rattle.message_end.specs.Calls.{answered_by}
use Rattle.message_end.specs.Core.{EndView, noted}
use Rattle.message_end.specs.Core.Command.{Answer}
use Rattle.message_end.specs.Duties.{all_done}
use Rattle.message_end.specs.Parts.{core_after}
use Rattle.equipment_tables.specs.declared.plan.EquipmentPlan.{EquipmentPlan}
use Rattle.equipment_tables.specs.Answers.{event_item, report_item_of, spelled_body}
use Rattle.equipment_tables.specs.Laws.{TablesAreLookedBackFor}
use Rattle.equipment_tables.specs.Plan.{EquipmentPlanFits}
use Rattle.equipment_tables.specs.Requests.{asked_by, item_in, request_of}
use Rattle.equipment_tables.specs.Setup.{accepts_request, primary_of}
use Rattle.tool_step.specs.declared.kind.Kind.{Kind}
use Rattle.tool_step.specs.declared.kind.Kind.TheVariants as kind
use Rattle.tool_step.specs.Codes.{is_accepted_in, is_granted_in}
use Rattle.tool_step.specs.Messages.{dropped_turn, error_turn, established_turn, heard_turn, is_establish_request, is_online_request, kept_turn, known_turn, message_turn, offline_turn, primary_turn, read_turn, recorded_turn, request_turn, requested_turn, stray_turn, unkept_turn}
use Rattle.tool_step.specs.Own.{OwnView, ToolTurn, is_communicating, is_enabled_in as is_comms_enabled, is_online, waiting_report, waiting_data, without_grant, without_waiting_data}
use Rattle.tool_step.specs.Recipes.{takes_stream}
use Rattle.tool_step.specs.Replies.{granted_turn, loss_turn, matched_turn, reply_turn, secondary_turn}
use Rattle.tool_step.specs.Setup.{next_kept, next_setup}
use Rattle.tool_step.specs.Spooling.{grant_given_turn}
use Rattle.spool_ledger.specs.Unloading.{confirmed}
use Rattle.gem_shapes.proofs.RecipeRequests.{each_request}
use Rattle.tool_law.proofs.TurnWalks.{nothing-of, dropped-of, stray-of, offline-of, error-of}
use Rattle.tool_law.proofs.LedgerLines.{confirmed-lines}
use Rattle.tool_reports.proofs.SilentCommands.{common-silent}
use Rattle.tool_reports.proofs.LeavingReports.{leave-given-keeps, loss-keeps}
use Rattle.tool_reports.specs.Reported.{past_in}
use Rattle.tool_step.specs.States as states
use Rattle.tool_reports.proofs.HeldReports.{Any, any-lasts, Ends, Free, Keeps, granted-keeps, led-at, noted-so, plain, plain-at, so_far}
use Rattle.tool_reports.proofs.QuietReports.{Holds}
use Rattle.tool_reports.proofs.PlainSamples.{granted-trace-plain}
use Rattle.tool_reports.proofs.PlainTurns.{spool-quiet, states-stay, stays, itself, booked-plain, comms-plain, control-plain}
use Rattle.tool_step.specs.Sampling.{granted_trace_turn}
use Rattle.tool_reports.proofs.QuietNotes.{one-behind}
use Rattle.tool_law.proofs.CoreSteps.{CoreStep}
use Rattle.tool_reports.proofs.HostReports.{AsksOf, asks-none, IsNewest, newest-lasts, IsOther, may-behind, may-establish, named, is-other, requested, event_asked, report_asked}
use Rattle.tool_reports.proofs.OwedReplies.{EndsOwing, ends-owing, keep-owing, recipes-owing, unkept-keeps}
use Rattle.tool_reports.proofs.HeardReports.{asked-noted, established-plain, request-keeps, answered-at, event-answer, report-answer}

module _
    (plan : EquipmentPlan) (fits : EquipmentPlanFits plan) (looked : TablesAreLookedBackFor)
    (start : List Happening) (said : List ToolCommand) (before : List Happening) where
  -- ---- a whole message, delivered just now

  module _ (message : Message) (own : OwnView) (earlier : List Happening) (step : CoreStep)
      (it : AsksOf message step.next.asked)
      (newest : so_far plan start said before step ≡ Happening.Received message ∷ earlier)
      (holds : Holds plan start said own step.next.drawn (so_far plan start said before step)) where
    abbrev KeptBy : ToolTurn → Type 0
    KeptBy turn = (EndsOwing plan fits looked start said before) turn.own (all_done Some turn.duties step)

    owing : (turn : ToolTurn) → Ends plan start said before turn.own (all_done Some turn.duties step) → KeptBy turn
    owing turn is = (ends-owing plan fits looked start said before) turn.own (all_done Some turn.duties step) is

    errs : (function : ℕ) → (function % 2 == 1) ≡ true → (header : Header) → KeptBy (error_turn function header own)
    errs function odd header =
        owing (error_turn function header own)
        (plain plan start said before own (error_turn function header own)
        (error-of (common-silent Free tt Any any-lasts) states-stay function (λ body. (refl, odd)) header own) step
        holds)

    -- the step behind the note of the request
    abbrev next : CoreStep
    next = noted Some (Happening.Recorded (Past.Asked message)) step

    next-past :
        past_in (so_far plan start said before next)
        ≡ Past.Asked message ∷ past_in (so_far plan start said before step)
    next-past = ap past_in (one-behind step.notes (Happening.Recorded (Past.Asked message)) before)

    next-holds : (asks : Request) → request_of message.stream message.function message.body ≡ Some asks
        → next_setup asks message own ≡ None
        → Holds plan start said (requested asks own) next.next.drawn (so_far plan start said before next)
    next-holds asks is none =
        noted-so plan start said before (requested asks own) (Happening.Recorded (Past.Asked message)) step
        ((asked-noted plan fits looked start said before) asks message own
        (so_far plan start said before step) earlier holds newest is none)

    abbrev read_by : ℕ → Option Request → Header → ToolTurn
    read_by now read header = read_turn now read header message own

    -- of a primary that no report answers
    others :
        (p : Primary) (now : ℕ) (header : Header) (read : Option Request)
        → primary_with message.stream message.function ≡ Some p → asks_for_report p ≡ false
        → asked_by (shape_of p) message.body ≡ read → KeptBy (read_by now read header)
    others p now header None with_p not_one is = errs 7 refl header
    others p now header (Some asks) with_p not_one is = heard (next_setup asks message own) refl
      where
        other : IsOther message
        other = is-other p message (named p message with_p) not_one

        found : request_of message.stream message.function message.body ≡ Some asks
        found =
            ap (λ (found : Option Primary). option_and_then (λ q. asked_by (shape_of q) message.body) found) with_p
            ∙ is

        -- one of which nothing is to be kept
        Recorded : Request → Type 0
        Recorded one =
            request_of message.stream message.function message.body ≡ Some one → next_setup one message own ≡ None
            → KeptBy (recorded_turn message (request_turn one now message own))

        recorded : (one : Request) → Recorded one
        recorded =
            each_request Recorded
            (λ asked found none.
            (recipes-owing plan fits looked start said before) asked message own next it
            (past_in (so_far plan start said before step), next-past) other
            (next-holds (request.OfRecipes asked) found none))
            (λ one apart found none.
            owing (recorded_turn message (request_turn one now message own))
            ((request-keeps plan fits looked start said before) message (IsNewest message) (newest-lasts message)
            (may-behind message other) one now own next apart it
            (past_in (so_far plan start said before step), next-past) (next-holds one found none)))

        heard : (list : Option (List Entry)) → next_setup asks message own ≡ list
            → KeptBy (heard_turn list now asks message own)
        heard None none = recorded asks found none
        heard (Some list) some = go (has_room (bytes_of list)) refl
          where
            go : (room : Bool) → has_room (bytes_of list) ≡ room → KeptBy (kept_turn room list asks message own)
            go true room =
                (keep-owing plan fits looked start said before) list asks message own earlier step it newest found other
                some room holds
            go false room =
                owing (unkept_turn message own) ((unkept-keeps plan fits looked start said before) message own step it
                other holds)

    -- a request that changes no setup
    asks-none-kept : (asks : TablesRequest) → accepts_request own.tables asks ≡ false
        → next_kept asks message own ≡ None
    asks-none-kept asks none = go (is_kept message.stream message.function) (accepts_request own.tables asks) none
      where
        go : (kind accepted : Bool) → accepted ≡ false
            → (if kind && accepted then option_map (λ (l : List Entry). kept l (primary_of message)) own.setup
            else None)
            ≡ None
        go true true e = absurd (cc)
        go true false e = refl
        go false accepted e = refl

    answers-one :
        (asks : TablesRequest) (now : ℕ) → accepts_request own.tables asks ≡ false
        → KeptBy (recorded_turn message (request_turn (request.OfTables asks) now message own))
        → KeptBy (requested_turn now (request.OfTables asks) message own)
    answers-one asks now none is =
        subst (λ (list : Option (List Entry)). KeptBy (heard_turn list now (request.OfTables asks) message own))
        (sym (asks-none-kept asks none)) is

    for-event :
        (now : ℕ) (header : Header) → primary_with message.stream message.function ≡ Some primary.S6F15
        → KeptBy (read_by now (asked_by (shape_of primary.S6F15) message.body) header)
    for-event now header with_p = by_item (item_in message.body) refl
      where
        found : request_of message.stream message.function message.body
            ≡ asked_by (shape_of primary.S6F15) message.body
        found = ap (λ (found : Option Primary). option_and_then (λ q. asked_by (shape_of q) message.body) found)
            with_p

        holds-event : (ceid : ℕ) → asked_by (shape_of primary.S6F15) message.body ≡ Some (event_asked ceid)
            → Holds plan start said (requested (event_asked ceid) own) next.next.drawn
            (so_far plan start said before next)
        holds-event ceid is =
            next-holds (event_asked ceid) (found ∙ is) (asks-none-kept (tables_request.EventReport ceid) refl)

        by_ceid : (ceid : Option ℕ)
            → asked_by (shape_of primary.S6F15) message.body ≡ option_map event_asked ceid
            → KeptBy (read_by now (option_map event_asked ceid) header)
        by_ceid None is = errs 7 refl header
        by_ceid (Some ceid) is =
            answers-one (tables_request.EventReport ceid) now refl
            (owing (recorded_turn message (request_turn (event_asked ceid) now message own))
            ((answered-at plan fits looked start said before) message
            (spelled_body own.plan.line.max_body (event_item own.tables ceid 0))
            (requested (event_asked ceid) own) next it (holds-event ceid is)
            (λ body spelled waits.
            (event-answer plan fits looked start said before) ceid own.plan.line.max_body message own body
            (so_far plan start said before next)
            (past_in (so_far plan start said before step)) (named primary.S6F15 message with_p) is
            (holds-event ceid is).tables_are next-past waits spelled)))

        by_item : (o : Option Item) → item_in message.body ≡ o
            → KeptBy (read_by now (option_and_then (λ item. option_map event_asked (identifier item)) o) header)
        by_item None is = errs 7 refl header
        by_item (Some item) is =
            by_ceid (identifier item)
            (ap (λ (o : Option Item). option_and_then (λ item. option_map event_asked (identifier item)) o)
            is)

    for-report :
        (now : ℕ) (header : Header) → primary_with message.stream message.function ≡ Some primary.S6F19
        → KeptBy (read_by now (asked_by (shape_of primary.S6F19) message.body) header)
    for-report now header with_p = by_item (item_in message.body) refl
      where
        found : request_of message.stream message.function message.body
            ≡ asked_by (shape_of primary.S6F19) message.body
        found = ap (λ (found : Option Primary). option_and_then (λ q. asked_by (shape_of q) message.body) found)
            with_p

        holds-report : (rptid : ℕ) → asked_by (shape_of primary.S6F19) message.body ≡ Some (report_asked rptid)
            → Holds plan start said (requested (report_asked rptid) own) next.next.drawn
            (so_far plan start said before next)
        holds-report rptid is =
            next-holds (report_asked rptid) (found ∙ is) (asks-none-kept (tables_request.Report rptid) refl)

        by_rptid : (rptid : Option ℕ)
            → asked_by (shape_of primary.S6F19) message.body ≡ option_map report_asked rptid
            → KeptBy (read_by now (option_map report_asked rptid) header)
        by_rptid None is = errs 7 refl header
        by_rptid (Some rptid) is =
            answers-one (tables_request.Report rptid) now refl
            (owing (recorded_turn message (request_turn (report_asked rptid) now message own))
            ((answered-at plan fits looked start said before) message
            (spelled_body own.plan.line.max_body (report_item_of own.tables rptid))
            (requested (report_asked rptid) own) next it (holds-report rptid is)
            (λ body spelled waits.
            (report-answer plan fits looked start said before) rptid own.plan.line.max_body message own body
            (so_far plan start said before next)
            (past_in (so_far plan start said before step)) (named primary.S6F19 message with_p) is
            (holds-report rptid is).tables_are next-past waits spelled)))

        by_item : (o : Option Item) → item_in message.body ≡ o
            → KeptBy (read_by now (option_and_then (λ item. option_map report_asked (identifier item)) o) header)
        by_item None is = errs 7 refl header
        by_item (Some item) is =
            by_rptid (identifier item)
            (ap (λ (o : Option Item). option_and_then (λ item. option_map report_asked (identifier item)) o) is)

    abbrev KeepsFor : ℕ → Header → Primary → Type 0
    KeepsFor now header p =
        primary_with message.stream message.function ≡ Some p
        → KeptBy (read_by now (asked_by (shape_of p) message.body) header)

    by-primary : (p : Primary) (now : ℕ) (header : Header) → KeepsFor now header p
    by-primary p now header =
        each_primary (KeepsFor now header) (for-event now header) (for-report now header)
        (λ q other is. others q now header (asked_by (shape_of q) message.body) is other refl) p

    read-keeps : (now : ℕ) (header : Header)
        → KeptBy (read_by now (request_of message.stream message.function message.body) header)
    read-keeps now header = go (primary_with message.stream message.function) refl
      where
        go : (found : Option Primary) → primary_with message.stream message.function ≡ found
            → KeptBy (read_by now (option_and_then (λ q. asked_by (shape_of q) message.body) found) header)
        go None is = errs 7 refl header
        go (Some p) is = by-primary p now header is

    known-keeps : (now : ℕ) (header : Header) → KeptBy (known_turn now header message own)
    known-keeps now header = go (not (takes_stream own message.stream)) (not (is_known message.stream message.function))
      where
        turn_by : Bool → Bool → ToolTurn
        turn_by strange unknown =
            if strange then error_turn 3 header own else if unknown then error_turn 5 header own
            else read_by now (request_of message.stream message.function message.body) header

        go : (strange unknown : Bool) → KeptBy (turn_by strange unknown)
        go true unknown = errs 3 refl header
        go false true = errs 5 refl header
        go false false = read-keeps now header

    primary-keeps : (now : ℕ) (header : Header) → KeptBy (primary_turn now header message own)
    primary-keeps now header =
        go (is_establish_request message) refl (not (is_communicating own))
        (not (is_online own) && not (is_online_request message))
      where
        turn_by : Bool → Bool → Bool → ToolTurn
        turn_by establishing silent offline =
            if establishing then established_turn now message own else if silent then stray_turn now message own
            else if offline then offline_turn message own else known_turn now header message own

        go : (establishing : Bool) → is_establish_request message ≡ establishing → (silent offline : Bool)
            → KeptBy (turn_by establishing silent offline)
        go true is silent offline =
            owing (established_turn now message own)
            (plain-at plan start said before (AsksOf message) (asks-none message) Any any-lasts own
            (established_turn now message own) step
            ((established-plain plan fits looked start said before) message Any any-lasts (may-establish message is) now
            own)
            it tt holds)
        go false is true offline =
            owing (stray_turn now message own)
            (plain plan start said before own (stray_turn now message own)
            (stray-of (common-silent Free tt Any any-lasts) states-stay (λ body. (refl, refl)) now message own) step
            holds)
        go false is false true =
            owing (offline_turn message own)
            (plain plan start said before own (offline_turn message own)
            (offline-of (common-silent Free tt Any any-lasts) states-stay message own) step holds)
        go false is false false = known-keeps now header

  -- ---- a reply

  replied-keeps :
      (now : ℕ) (kind : Kind) (system : ℕ) (body : List ℕ) (own : OwnView) (e : EndView Kind)
      → Keeps plan start said before own (reply_turn now kind system body own e)
  replied-keeps now kind.Establish system body own e = go (is_accepted_in body)
    where
      go : (accepted : Bool)
          → Keeps plan start said before own
          (if accepted then states.comms_turn comms_in.Accepted now own
          else loss_turn now kind.Establish system own e)
      go true = plain plan start said before own (states.comms_turn comms_in.Accepted now own)
          (comms-plain Free tt Any any-lasts
          comms_in.Accepted now own)
      go false = loss-keeps plan start said before now kind.Establish system own e
  replied-keeps now kind.Attempt system body own e =
      plain plan start said before own (states.control_turn control_in.AttemptDone own)
      (control-plain Free tt Any any-lasts
      control_in.AttemptDone own)
  replied-keeps now kind.Grant system body own e = go (is_granted_in body)
    where
      go : (granted : Bool)
          → Keeps plan start said before own
          (if granted then granted_turn (waiting_report system own) (without_grant system own) e
          else loss_turn now kind.Grant system own e)
      go true = granted-keeps plan start said before system own e
      go false = loss-keeps plan start said before now kind.Grant system own e
  replied-keeps now kind.Report system body own e = loss-keeps plan start said before now kind.Report system own e
  replied-keeps now kind.Unload system body own e =
      plain plan start said before own (reply_turn now kind.Unload system body own e)
      (booked-plain Free tt Any any-lasts own (confirmed own.ledger) (confirmed-lines spool-quiet own.ledger))
  replied-keeps now kind.UnloadGrant system body own e = go (is_granted_in body)
    where
      go : (granted : Bool)
          → Keeps plan start said before own
          (if granted then grant_given_turn own e else loss_turn now kind.UnloadGrant system own e)
      go true = leave-given-keeps plan start said before own e
      go false = loss-keeps plan start said before now kind.UnloadGrant system own e
  replied-keeps now kind.Trace system body own e = loss-keeps plan start said before now kind.Trace system own e
  replied-keeps now kind.TraceGrant system body own e = go (is_granted_in body)
    where
      go : (granted : Bool)
          → Keeps plan start said before own
          (if granted then granted_trace_turn (waiting_data system own) (without_waiting_data system own)
          else loss_turn now kind.TraceGrant system own e)
      go true =
          plain plan start said before own (granted_trace_turn (waiting_data system own)
          (without_waiting_data system own))
          (granted-trace-plain Free tt Any any-lasts own (without_waiting_data system own)
          (stays own (without_waiting_data system own) refl refl refl refl refl refl)
          (waiting_data system own))
      go false = loss-keeps plan start said before now kind.TraceGrant system own e

  matched-keeps :
      (now : ℕ) (found : Match Kind) (message : Message) (own : OwnView) (e : EndView Kind)
      → Keeps plan start said before own (matched_turn now found message own e)
  matched-keeps now (match.Reply kind) message own e = replied-keeps now kind message.system message.body own e
  matched-keeps now (match.Abort kind) message own e =
      loss-keeps plan start said before now kind message.system own e
  matched-keeps now match.Stranger message own e =
      plain plan start said before own (matched_turn now match.Stranger message own e)
      (nothing-of own own (itself own))

  secondary-keeps :
      (now : ℕ) (header : Header) (message : Message) (own : OwnView) (e : EndView Kind)
      → Keeps plan start said before own (secondary_turn now header message own e)
  secondary-keeps now header message own e step holds =
      led-at plan start said before (Answer header) own
      (matched_turn now (match_of header (answered_by e header)) message own (core_after (Answer header) e)) step tt
      (matched-keeps now (match_of header (answered_by e header)) message own (core_after (Answer header) e)) holds

  -- ---- all of them

  pub message-keeps :
      (now : ℕ) (header : Header) (message : Message) (own : OwnView) (e : EndView Kind) (earlier : List Happening)
      (step : CoreStep)
      → AsksOf message step.next.asked → so_far plan start said before step ≡ Happening.Received message ∷ earlier
      → Holds plan start said own step.next.drawn (so_far plan start said before step)
      → (EndsOwing plan fits looked start said before) (message_turn now header message own e).own
      (all_done Some (message_turn now header message own e).duties step)
  message-keeps now header message own e earlier step it newest holds =
      go (not (is_comms_enabled own.comms.state)) (is_primary message)
    where
      owing : (turn : ToolTurn) → Ends plan start said before turn.own (all_done Some turn.duties step)
          → (EndsOwing plan fits looked start said before) turn.own (all_done Some turn.duties step)
      owing turn is = (ends-owing plan fits looked start said before) turn.own (all_done Some turn.duties step) is

      turn_by : Bool → Bool → ToolTurn
      turn_by disabled odd =
          if disabled then dropped_turn message own else if odd then primary_turn now header message own
          else secondary_turn now header message own e

      go : (disabled odd : Bool)
          → (EndsOwing plan fits looked start said before) (turn_by disabled odd).own
          (all_done Some (turn_by disabled odd).duties step)
      go true odd =
          owing (dropped_turn message own)
          (plain plan start said before own (dropped_turn message own)
          (dropped-of (common-silent Free tt Any any-lasts) states-stay message own) step holds)
      go false true = primary-keeps message own earlier step it newest holds now header
      go false false =
          owing (secondary_turn now header message own e) (secondary-keeps now header message own e step holds)
