-- What a step is given: the traces that run behind it are those of the history.
use Rattle.std.proofs.Common.{◌≡◌, refl, sym, ap, subst, ◌∙◌, ◌&&◌, ◌≤◌, not, Bool, true, false, ℕ, List, [], ◌∷◌, ◌++◌, append_assoc, length, Option, Some, None, if◌then◌else◌}
use Rattle.std.specs.List.{cons_option}
use Rattle.block_codec.specs.declared.header.Header.{Header}
use Rattle.gem_shapes.specs.Answers.{code_item}
use Rattle.gem_shapes.specs.Primaries.{is_known}
use Rattle.gem_shapes.specs.declared.request.Request.{Request}
use Rattle.gem_shapes.specs.declared.request.Request.TheVariants as request
use Rattle.gem_shapes.specs.declared.request.TablesRequest.{TablesRequest}
use Rattle.gem_states.specs.declared.comms.CommsIn.TheVariants as comms_in
use Rattle.gem_states.specs.declared.control.ControlIn.TheVariants as control_in
use Rattle.gem_trace.specs.declared.request.Tiaack.{Tiaack}
use Rattle.gem_trace.specs.declared.request.Tiaack.TheVariants as tiaack
use Rattle.gem_trace.specs.declared.request.TraceRequest.{TraceRequest}
use Rattle.gem_trace.specs.History.{Look, TraceEntry, traces_at}
use Rattle.gem_trace.specs.History.TraceEntry.{Set, Step}
use Rattle.gem_trace.specs.Laws.{FewTracesRun, WhatRunsIsLookedBackFor}
use Rattle.gem_trace.specs.Settings.{tiaack_of}
use Rattle.gem_trace.specs.Traces.{Running}
use Rattle.gem_vars.specs.Tables.{VarsTable}
use Rattle.message_flow.specs.declared.flow.Flow.{Flow}
use Rattle.message_flow.specs.declared.flow.Flow.TheVariants as flow
use Rattle.message_flow.specs.declared.message.Message.{Message}
use Rattle.message_flow.specs.Message.{is_primary}
use Rattle.secs_items.specs.declared.item.Item.{Item}
use Rattle.setup_store.specs.Entries.{Entry, bytes_of, has_room}
use Rattle.trace_log.specs.declared.commands.ToolCommand.{ToolCommand}
use Rattle.trace_log.specs.Log.{Happening, Past}
use Rattle.transact.specs.declared.transactions.Match.{Match}
use Rattle.transact.specs.declared.transactions.Match.TheVariants as match
use Rattle.transact.specs.Transactions.{match_of}
use Rattle.message_end.specs.Calls.{answered_by, took_at}
use Rattle.message_end.specs.declared.end.Took.{Took}
use Rattle.message_end.specs.declared.end.Took.TheVariants as took
use Rattle.message_end.specs.Core.{EndView, carried}
use Rattle.message_end.specs.Core.Command.{Answer, Halt, Note, Take}
use Rattle.message_end.specs.Ends.{Input}
use Rattle.message_end.specs.Ends.Input.{Char, Command as Told, Time}
use Rattle.message_end.specs.Duties.{all_done}
use Rattle.message_end.specs.Parts.{core_after, led_turn}
use Rattle.message_end.proofs.Parts.{OnEither, either-less, either-then}
use Rattle.equipment_tables.specs.Requests.{request_of}
use Rattle.tool_step.specs.declared.kind.Kind.{Kind}
use Rattle.tool_step.specs.declared.kind.Kind.TheVariants as kind
use Rattle.tool_step.specs.Codes.{is_accepted_in, is_granted_in}
use Rattle.tool_step.specs.Messages.{dropped_turn, error_turn, established_turn, is_establish_request, is_online_request, heard_turn, keep_turn, kept_turn, known_turn, message_turn, offline_turn, primary_turn, read_turn, request_turn, requested_turn, stray_turn, unkept_turn}
use Rattle.tool_step.specs.Own.{OwnView, ToolTurn, is_communicating, is_enabled_in, is_online, quiet_turn, turn_of, waiting_report, waiting_data, without_grant, without_report, without_waiting_data}
use Rattle.tool_step.specs.Recipes.{asked_of, takes_stream}
use Rattle.tool_step.specs.Replies.{granted_turn, given_up_turn, loss_turn, matched_turn, reply_turn, secondary_turn}
use Rattle.tool_step.specs.Sampling.{granted_trace_turn, running_by, tiaack_code, tiaack_in, trace_turn}
use Rattle.tool_step.specs.Sent as sent
use Rattle.tool_step.specs.Setup.{next_kept}
use Rattle.tool_step.specs.Spooling.{confirmed_turn, grant_given_turn}
use Rattle.tool_step.specs.States as states
use Rattle.tool_step.specs.Step.{failed_turn, flow_turn, input_part, is_spent, long_turn, took_turn}
use Rattle.tool_step.specs.Tool.{command_turn, told_turn}
use Rattle.tool_law.proofs.CoreSteps.{CoreStep}
use Rattle.tool_reports.specs.Sampled.{setting_by, setting_in, setting_of}
use Rattle.tool_traces.proofs.IdleMessages.{abort-turn-idle, answer-idle, command-idle, confirmed-idle, control-request-idle, dropped-idle, error-idle, established-idle, given-idle, given-up-idle, grant-idle, keep-idle, loss-idle, offline-idle, purge-idle, recipes-idle, stray-idle, transmit-idle, unkept-idle}
use Rattle.tool_traces.proofs.IdleNotes.{Reads, reads-asked}
use Rattle.tool_law.proofs.TurnWalks.{fixed-of, led-of, nothing-of}
use Rattle.tool_traces.proofs.IdleTurns.{IsIdleTurn, answers-idle, comms-idle, control-idle, errors-idle, itself, kept, leaving-idle}
use Rattle.tool_traces.proofs.TracedTurns.{FewSent, Keeps, Traced, granted-keeps, idle-keeps, led-keeps}

module _ (before : List Happening) (look : Look) (past : List TraceEntry) (due : List Item)
    (looked : WhatRunsIsLookedBackFor) (bound : FewTracesRun) where
  -- the traces behind the samples of the step
  abbrev pub run : List Running
  run = traces_at (past ++ Step look ∷ [])

  -- before the input nothing was asked for, and these run; each S6F1 that was due has had its turn
  pub record Fresh (running : List Running) (made : List Item) (asked : List TraceEntry) : Type 0 where
    pub none : asked ≡ []
    pub runs : running ≡ run
    pub most : length running ≤ 16
    pub all : made ≡ []

  -- and behind it, with what was asked for
  pub record Follows (running : List Running) (made : List Item) (asked : List TraceEntry) : Type 0 where
    pub runs : running ≡ traces_at (past ++ Step look ∷ asked)
    pub most : length running ≤ 16
    pub all : made ≡ []

  abbrev pub IsFresh : OwnView → CoreStep → Type 0
  IsFresh own step = Traced before look run Fresh due own step

  abbrev pub IsFollowed : OwnView → CoreStep → Type 0
  IsFollowed own step = Traced before look run Follows due own step

  abbrev Few : CoreStep → Type 0
  Few step = FewSent before look run due step

  -- an input is taken so
  abbrev pub Takes : OwnView → ToolTurn → Type 0
  Takes own turn = (step : CoreStep) → IsFresh own step
      → OnEither (IsFollowed turn.own) Few (all_done Some turn.duties step)

  follows : (own : OwnView) (step : CoreStep) → IsFresh own step → IsFollowed own step
  follows own step so = record {
    sent = so.sent;
    asked = so.asked;
    reads = so.reads;
    runs = record {
      runs =
          so.runs.runs
          ∙ ap (λ (asked : List TraceEntry). traces_at (past ++ Step look ∷ asked)) (sym so.runs.none);
      most = so.runs.most;
      all = so.runs.all;
    };
    odd = so.odd;
    few = so.few;
  }

  of-keeps : (own : OwnView) (turn : ToolTurn) → Keeps before look run Fresh due own turn → Takes own turn
  of-keeps own turn keeps step so =
      either-less (IsFresh turn.own) Few (IsFollowed turn.own) Few (all_done Some turn.duties step) (keeps step so)
      (λ next now_so. follows turn.own next now_so) (λ next few. few)

  of-idle : (own : OwnView) (turn : ToolTurn) → IsIdleTurn own turn → Takes own turn
  of-idle own turn idle = of-keeps own turn (idle-keeps before look run Fresh due own turn idle)

  -- ---- S2F23

  sets : (asked : TraceRequest) (code : Tiaack) → code ≡ tiaack_of look.vars run asked
      → running_by code asked look.now run
      ≡ traces_at (past ++ Step look ∷ cons_option (setting_by code asked look.now) [])
  sets asked tiaack.Done is =
      looked.next run (past ++ Step look ∷ []) (Set asked look.now) refl
      ∙ ap traces_at (append_assoc past (Step look ∷ []) (Set asked look.now ∷ []))
  sets asked tiaack.TooMany is = refl
  sets asked tiaack.NoMore is = refl
  sets asked tiaack.BadPeriod is = refl
  sets asked (tiaack.Unknown svid) is = refl
  sets asked tiaack.BadGroup is = refl

  few-run : (asked : TraceRequest) (code : Tiaack) → code ≡ tiaack_of look.vars run asked → length run ≤ 16
      → length (running_by code asked look.now run) ≤ 16
  few-run asked tiaack.Done is most = bound.set look.vars run asked look.now most (sym is)
  few-run asked tiaack.TooMany is most = most
  few-run asked tiaack.NoMore is most = most
  few-run asked tiaack.BadPeriod is most = most
  few-run asked (tiaack.Unknown svid) is most = most
  few-run asked tiaack.BadGroup is most = most

  -- what runs then
  runs-by : (asked : TraceRequest) (own : OwnView) → own.tables.vars ≡ look.vars → own.tracing.running ≡ run
      → running_by (tiaack_in asked own) asked look.now own.tracing.running
      ≡ running_by (tiaack_of look.vars run asked) asked look.now run
  runs-by asked own vars is =
      ap (λ (r : List Running). running_by (tiaack_of own.tables.vars r asked) asked look.now r) is
      ∙ ap (λ (v : VarsTable). running_by (tiaack_of v run asked) asked look.now run) vars

  -- behind the note that it was asked for
  noted : (message : Message) (own : OwnView) (step : CoreStep) → (so : IsFresh own step)
      → Reads before look run so.sent (setting_in look run (Happening.Recorded (Past.Asked message)))
      (step.notes ++ Happening.Recorded (Past.Asked message) ∷ [])
  noted message own step so =
      reads-asked before look run so.sent step.notes message
      (subst (λ (asked : List TraceEntry). Reads before look run so.sent asked step.notes) so.runs.none so.reads)

  -- a request that is no S2F23
  others : (found : Option Request) (message : Message) (own : OwnView) (turn : ToolTurn)
      → request_of message.stream message.function message.body ≡ found
      → cons_option (setting_of found look run) [] ≡ [] → IsIdleTurn own turn
      → Takes own (led_turn (Note (Happening.Recorded (Past.Asked message))) turn)
  others found message own turn is none idle step so =
      of-idle own turn idle (record step { notes = step.notes ++ Happening.Recorded (Past.Asked message) ∷ [] })
      (record {
        sent = so.sent;
        asked = [];
        reads =
            subst
            (λ (asked : List TraceEntry). Reads before look run so.sent asked
            (step.notes ++ Happening.Recorded (Past.Asked message) ∷ []))
            (ap (λ (f : Option Request). cons_option (setting_of f look run) []) is ∙ none)
            (noted message own step so);
        runs = record { none = refl; runs = so.runs.runs; most = so.runs.most; all = so.runs.all };
        odd = so.odd;
        few = so.few;
      })

  setting : (asked : TraceRequest) (message : Message) (own : OwnView) → own.tables.vars ≡ look.vars
      → request_of message.stream message.function message.body
      ≡ Some (request.Trace asked.trid asked.dsper asked.total asked.group asked.svids)
      → Takes own
      (led_turn (Note (Happening.Recorded (Past.Asked message))) (trace_turn asked look.now message own))
  setting asked message own vars is step so =
      idle-keeps before look run Follows due (trace_turn asked look.now message own).own
      (trace_turn asked look.now message own)
      (record {
        duties = answers-idle (sent.text_of own (code_item (tiaack_code (tiaack_in asked own)))) message;
        keeps = itself (trace_turn asked look.now message own).own;
      })
      (record step { notes = step.notes ++ Happening.Recorded (Past.Asked message) ∷ [] })
      (record {
        sent = so.sent;
        asked = cons_option (setting_by (tiaack_of look.vars run asked) asked look.now) [];
        reads =
            subst
            (λ (entries : List TraceEntry). Reads before look run so.sent entries
            (step.notes ++ Happening.Recorded (Past.Asked message) ∷ []))
            (ap (λ (f : Option Request). cons_option (setting_of f look run) []) is)
            (noted message own step so);
        runs = record {
          runs = runs-by asked own vars so.runs.runs ∙ sets asked (tiaack_of look.vars run asked) refl;
          most =
              subst (λ (r : List Running). length r ≤ 16) (sym (runs-by asked own vars so.runs.runs))
              (few-run asked (tiaack_of look.vars run asked) refl
              (subst (λ (r : List Running). length r ≤ 16) so.runs.runs so.runs.most));
          all = so.runs.all;
        };
        odd = so.odd;
        few = so.few;
      })

  -- ---- requests

  -- by the list that is to be kept behind one that changes the setup
  set-up-takes : (list : Option (List Entry)) (asked : TablesRequest) (message : Message) (own : OwnView)
      → request_of message.stream message.function message.body ≡ Some (request.OfTables asked)
      → Takes own (heard_turn list look.now (request.OfTables asked) message own)
  set-up-takes None asked message own is =
      others (Some (request.OfTables asked)) message own (request_turn (request.OfTables asked) look.now message own) is
      refl (answer-idle asked message own)
  set-up-takes (Some list) asked message own is = go (has_room (bytes_of list))
    where
      go : (room : Bool) → Takes own (kept_turn room list (request.OfTables asked) message own)
      go true =
          others (Some (request.OfTables asked)) message own (keep_turn list (request.OfTables asked) message own) is
          refl (keep-idle list (request.OfTables asked) message own)
      go false = of-idle own (unkept_turn message own) (unkept-idle message own)

  request-takes : (asked : Request) (message : Message) (own : OwnView) → own.tables.vars ≡ look.vars
      → request_of message.stream message.function message.body ≡ Some asked
      → Takes own (requested_turn look.now asked message own)
  request-takes (request.OfTables asked) message own vars is =
      set-up-takes (next_kept asked message own) asked message own is
  request-takes (request.OfRecipes asked) message own vars is =
      others (Some (request.OfRecipes asked)) message own
      (request_turn (request.OfRecipes asked) look.now message own) is refl (recipes-idle (asked_of asked) message own)
  request-takes request.Establish message own vars is =
      others (Some request.Establish) message own (request_turn request.Establish look.now message own) is refl
      (abort-turn-idle message own)
  request-takes request.GoOffline message own vars is =
      others (Some request.GoOffline) message own (request_turn request.GoOffline look.now message own) is refl
      (control-request-idle control_in.RequestOffline message own)
  request-takes request.GoOnline message own vars is =
      others (Some request.GoOnline) message own (request_turn request.GoOnline look.now message own) is refl
      (control-request-idle control_in.RequestOnline message own)
  request-takes request.TransmitSpool message own vars is =
      others (Some request.TransmitSpool) message own (request_turn request.TransmitSpool look.now message own) is refl
      (transmit-idle message own)
  request-takes request.PurgeSpool message own vars is =
      others (Some request.PurgeSpool) message own (request_turn request.PurgeSpool look.now message own) is refl
      (purge-idle message own)
  request-takes (request.Trace trid dsper total group svids) message own vars is =
      setting (record { trid = trid; dsper = dsper; total = total; group = group; svids = svids }) message own vars is

  read-takes : (found : Option Request) (header : Header) (message : Message) (own : OwnView)
      → own.tables.vars ≡ look.vars → request_of message.stream message.function message.body ≡ found
      → Takes own (read_turn look.now found header message own)
  read-takes None header message own vars is =
      of-idle own (error_turn 7 header own) (error-idle 7 header own)
  read-takes (Some asked) header message own vars is = request-takes asked message own vars is

  known-takes : (header : Header) (message : Message) (own : OwnView) → own.tables.vars ≡ look.vars
      → Takes own (known_turn look.now header message own)
  known-takes header message own vars = go (takes_stream own message.stream) (is_known message.stream message.function)
    where
      go : (stream function : Bool)
          → Takes own
          (if not stream then error_turn 3 header own
          else if not function then error_turn 5 header own
          else read_turn look.now (request_of message.stream message.function message.body) header message own)
      go false function = of-idle own (error_turn 3 header own) (error-idle 3 header own)
      go true false = of-idle own (error_turn 5 header own) (error-idle 5 header own)
      go true true =
          read-takes (request_of message.stream message.function message.body) header message own vars refl

  primary-takes : (header : Header) (message : Message) (own : OwnView) → own.tables.vars ≡ look.vars
      → Takes own (primary_turn look.now header message own)
  primary-takes header message own vars =
      go (is_establish_request message) (is_communicating own) (is_online own) (is_online_request message)
    where
      go : (establishes communicating online asks : Bool)
          → Takes own
          (if establishes then established_turn look.now message own
          else if not communicating then stray_turn look.now message own
          else if not online && not asks then offline_turn message own
          else known_turn look.now header message own)
      go true communicating online asks =
          of-idle own (established_turn look.now message own) (established-idle look.now message own)
      go false false online asks = of-idle own (stray_turn look.now message own) (stray-idle look.now message own)
      go false true false false = of-idle own (offline_turn message own) (offline-idle message own)
      go false true false true = known-takes header message own vars
      go false true true asks = known-takes header message own vars

  -- ---- replies

  reply-keeps : (answered : Kind) (system : ℕ) (body : List ℕ) (own : OwnView) (e : EndView Kind)
      → Keeps before look run Fresh due own (reply_turn look.now answered system body own e)
  reply-keeps kind.Establish system body own e = go (is_accepted_in body)
    where
      go : (accepted : Bool)
          → Keeps before look run Fresh due own
          (if accepted then states.comms_turn comms_in.Accepted look.now own
          else loss_turn look.now kind.Establish system own e)
      go true =
          idle-keeps before look run Fresh due own (states.comms_turn comms_in.Accepted look.now own)
          (comms-idle comms_in.Accepted look.now own)
      go false =
          idle-keeps before look run Fresh due own (loss_turn look.now kind.Establish system own e)
          (loss-idle look.now kind.Establish system own e)
  reply-keeps kind.Attempt system body own e =
      idle-keeps before look run Fresh due own (states.control_turn control_in.AttemptDone own)
      (control-idle control_in.AttemptDone own)
  reply-keeps kind.Grant system body own e = go (is_granted_in body)
    where
      go : (granted : Bool)
          → Keeps before look run Fresh due own
          (if granted then granted_turn (waiting_report system own) (without_grant system own) e
          else loss_turn look.now kind.Grant system own e)
      go true =
          idle-keeps before look run Fresh due own
          (granted_turn (waiting_report system own) (without_grant system own) e) (grant-idle system own e)
      go false =
          idle-keeps before look run Fresh due own (loss_turn look.now kind.Grant system own e)
          (loss-idle look.now kind.Grant system own e)
  reply-keeps kind.Report system body own e =
      idle-keeps before look run Fresh due own (quiet_turn (without_report system own))
      (nothing-of own (without_report system own) (kept own (without_report system own) refl))
  reply-keeps kind.Unload system body own e =
      idle-keeps before look run Fresh due own (confirmed_turn own) (confirmed-idle own)
  reply-keeps kind.UnloadGrant system body own e = go (is_granted_in body)
    where
      go : (granted : Bool)
          → Keeps before look run Fresh due own
          (if granted then grant_given_turn own e else loss_turn look.now kind.UnloadGrant system own e)
      go true = idle-keeps before look run Fresh due own (grant_given_turn own e) (given-idle own e)
      go false =
          idle-keeps before look run Fresh due own (loss_turn look.now kind.UnloadGrant system own e)
          (loss-idle look.now kind.UnloadGrant system own e)
  reply-keeps kind.Trace system body own e =
      idle-keeps before look run Fresh due own (quiet_turn own) (nothing-of own own (itself own))
  reply-keeps kind.TraceGrant system body own e = go (is_granted_in body)
    where
      go : (granted : Bool)
          → Keeps before look run Fresh due own
          (if granted then granted_trace_turn (waiting_data system own) (without_waiting_data system own)
          else loss_turn look.now kind.TraceGrant system own e)
      go true = granted-keeps before look run Fresh due system own
      go false =
          idle-keeps before look run Fresh due own (loss_turn look.now kind.TraceGrant system own e)
          (loss-idle look.now kind.TraceGrant system own e)

  matched-keeps : (found : Match Kind) (message : Message) (own : OwnView) (e : EndView Kind)
      → Keeps before look run Fresh due own (matched_turn look.now found message own e)
  matched-keeps (match.Reply answered) message own e = reply-keeps answered message.system message.body own e
  matched-keeps (match.Abort answered) message own e =
      idle-keeps before look run Fresh due own (loss_turn look.now answered message.system own e)
      (loss-idle look.now answered message.system own e)
  matched-keeps match.Stranger message own e =
      idle-keeps before look run Fresh due own (quiet_turn own) (nothing-of own own (itself own))

  secondary-keeps : (header : Header) (message : Message) (own : OwnView) (e : EndView Kind)
      → Keeps before look run Fresh due own (secondary_turn look.now header message own e)
  secondary-keeps header message own e =
      led-keeps before look run Fresh due own (Answer header)
      (matched_turn look.now (match_of header (answered_by e header)) message own (core_after (Answer header) e)) tt
      (matched-keeps (match_of header (answered_by e header)) message own (core_after (Answer header) e))

  message-takes : (header : Header) (message : Message) (own : OwnView) (e : EndView Kind)
      → own.tables.vars ≡ look.vars → Takes own (message_turn look.now header message own e)
  message-takes header message own e vars = go (is_enabled_in own.comms.state) (is_primary message)
    where
      go : (enabled asks : Bool)
          → Takes own
          (if not enabled then dropped_turn message own
          else if asks then primary_turn look.now header message own
          else secondary_turn look.now header message own e)
      go false asks = of-idle own (dropped_turn message own) (dropped-idle message own)
      go true true = primary-takes header message own vars
      go true false =
          of-keeps own (secondary_turn look.now header message own e) (secondary-keeps header message own e)

  -- ---- a character

  long-idle : (spent : Bool) (header : Header) (own : OwnView) (turn : ToolTurn) → IsIdleTurn own turn
      → IsIdleTurn own (long_turn spent header own turn)
  long-idle true header own turn is = fixed-of own own (Halt ∷ []) (itself own) (tt, tt)
  long-idle false header own turn is =
      record { duties = ((errors-idle 11 header own).0, is.duties); keeps = is.keeps }

  flow-takes : (header : Header) (came : Flow) (own : OwnView) (e : EndView Kind) → own.tables.vars ≡ look.vars
      → Takes own (flow_turn look.now header came own e)
  flow-takes header flow.Part own e vars = of-idle own (quiet_turn own) (nothing-of own own (itself own))
  flow-takes header (flow.Whole message check) own e vars = message-takes header message own e vars
  flow-takes header flow.Duplicate own e vars = of-idle own (quiet_turn own) (nothing-of own own (itself own))
  flow-takes header (flow.Foreign address) own e vars =
      of-idle own (turn_of own (sent.error_duty 1 header own ∷ []))
      (record { duties = errors-idle 1 header own; keeps = itself own })
  flow-takes header flow.Unexpected own e vars =
      of-idle own (given_up_turn look.now header own e) (given-up-idle look.now header own e)
  flow-takes header flow.TooLong own e vars =
      of-idle own (long_turn (is_spent e) header own (given_up_turn look.now header own e))
      (long-idle (is_spent e) header own (given_up_turn look.now header own e) (given-up-idle look.now header own e))
  flow-takes header flow.Crowded own e vars =
      of-idle own (given_up_turn look.now header own e) (given-up-idle look.now header own e)

  took-takes : (found : Took) (own : OwnView) (e : EndView Kind) → own.tables.vars ≡ look.vars
      → Takes own (took_turn look.now found own e)
  took-takes took.Nothing own e vars = of-idle own (quiet_turn own) (nothing-of own own (itself own))
  took-takes (took.Failed header) own e vars =
      of-idle own (failed_turn look.now (Some header) own e)
      (leaving-idle comms_in.SendFailed (Some header) look.now own e)
  took-takes (took.Came header came) own e vars = flow-takes header came own e vars

  -- a turn behind a command
  led-takes : (own : OwnView) (byte : ℕ) (turn : ToolTurn) → Takes own turn
      → Takes own (led_turn (Take byte look.now) turn)
  led-takes own byte turn takes step so =
      either-then (IsFresh own) Few (IsFollowed turn.own) (carried Some (Take byte look.now ∷ []) step)
      (all_done Some turn.duties)
      (led-keeps before look run Fresh due own (Take byte look.now) (quiet_turn own) tt
      (idle-keeps before look run Fresh due own (quiet_turn own) (nothing-of own own (itself own))) step so)
      (λ next now_so. takes next now_so)

  -- ---- what a step is given

  pub input-takes : (input : Input ToolCommand) (own : OwnView) (e : EndView Kind) → own.tables.vars ≡ look.vars
      → Takes own (input_part input look.now own e)
  input-takes (Char byte) own e vars =
      led-takes own byte (took_turn look.now (took_at e byte look.now) own (core_after (Take byte look.now) e))
      (took-takes (took_at e byte look.now) own (core_after (Take byte look.now) e) vars)
  input-takes Time own e vars = of-idle own (quiet_turn own) (nothing-of own own (itself own))
  input-takes (Told command) own e vars =
      of-idle own (told_turn command look.now own e)
      (led-of own (Note (Happening.Recorded (Past.Commanded command))) (command_turn command look.now own e) tt
      (command-idle command look.now own e))
