-- What a command of the tool leaves of what holds.
use Rattle.std.proofs.Common.{◌≡◌, refl, sym, ap, subst, ◌∙◌, ◌<◌, Bool, true, false, ℕ, nat_eq, nat_le, List, [], ◌∷◌, length, Option, Some, None, if◌then◌else◌}
use Rattle.std.specs.Bool.{beq}
use Rattle.std.specs.Map.{lookup, set_value}
use Rattle.std.specs.Option.{option_map_or}
use Rattle.std.specs.Prelude.{filter, is_some}
use Rattle.std.proofs.lemmas.Map.Steps.{set_value_same}
use Rattle.gem_alarms.specs.declared.alarm.Alarm.{Alarm}
use Rattle.gem_alarms.specs.declared.alarms.AlarmStep.{AlarmStep}
use Rattle.gem_alarms.specs.declared.alarms.AlarmStep.TheVariants as alarm_step
use Rattle.gem_alarms.specs.Alarms.{AlarmTable, alarm_in, step_for, step_of, with_set}
use Rattle.gem_reports.specs.Reporting.{is_enabled_in, is_planned}
use Rattle.gem_states.specs.declared.comms.CommsIn.TheVariants as comms_in
use Rattle.gem_states.specs.declared.control.ControlIn.TheVariants as control_in
use Rattle.gem_tables.specs.Rows.{with_row}
use Rattle.gem_vars.specs.declared.settings.Setting.{Setting}
use Rattle.gem_vars.specs.Settings.{refusal_of}
use Rattle.message_flow.proofs.Keys.{beq-true}
use Rattle.secs_items.specs.declared.item.Item.{Item}
use Rattle.setup_law.proofs.Notes.{command-rests}
use Rattle.setup_law.specs.Setup.{list_in}
use Rattle.setup_store.specs.Entries.{Entry}
use Rattle.trace_log.specs.declared.commands.ToolCommand.{ToolCommand}
use Rattle.trace_log.specs.declared.commands.ToolCommand.TheVariants as tool
use Rattle.trace_log.specs.Log.{Happening, Past}
use Rattle.transact.specs.Numbers.{next_number}
use Rattle.message_end.specs.Core.{EndView, is_crowded_out, noted}
use Rattle.message_end.specs.Core.Command.{Note, Primary}
use Rattle.message_end.specs.Duties.{all_done}
use Rattle.message_end.specs.Parts.{fixed_turn, led_turn}
use Rattle.equipment_tables.specs.declared.answers.Answer.{Answer as Text}
use Rattle.equipment_tables.specs.declared.answers.Answer.TheVariants as answer
use Rattle.equipment_tables.specs.declared.plan.EquipmentPlan.{EquipmentPlan}
use Rattle.equipment_tables.specs.Answers.{alarm_item_of, event_item}
use Rattle.equipment_tables.specs.Laws.{TablesAreLookedBackFor}
use Rattle.equipment_tables.specs.Past.{tables_at}
use Rattle.equipment_tables.specs.Plan.{EquipmentPlanFits}
use Rattle.equipment_tables.specs.Tables.{TablesState, after_command, alarm_after, set_by}
use Rattle.tool_step.specs.declared.kind.Kind.{Kind}
use Rattle.tool_step.specs.Own.{OwnView, ToolTurn, event_report, is_communicating, is_online, quiet_turn, with_tables}
use Rattle.tool_step.specs.Reports.{judged_turn, made_turn, text_turn, unreported_turn}
use Rattle.tool_step.specs.Spooling.{is_spooled, stored_turn}
use Rattle.trace_log.specs.Names.{Spooled}
use Rattle.message_end.specs.Own.{Has}
use Rattle.tool_reports.specs.Reported.{Happened, IsReported, brought_by, commands_in, due_behind, events_in, is_brought, is_reported_by, next_dataid, past_in, reports_in, tables_in, tries_in}
use Rattle.tool_step.specs.Sent as sent
use Rattle.tool_step.specs.States as states
use Rattle.tool_step.specs.Tool.{alarm_report_turn, alarm_turn, command_turn, enabled_turn, known_event_turn, refused_turn, set_turn, told_turn, with_event}
use Rattle.tool_law.proofs.TurnWalks.{nothing-of, fixed-of, note-of, online-of}
use Rattle.tool_reports.proofs.SilentCommands.{common-silent}
use Rattle.tool_reports.proofs.HeldReports.{Any, any-lasts, Ends, Free, noted-so, plain, reports-at, so_far, stored-keeps}
use Rattle.tool_reports.proofs.QuietReports.{HasSpare, Holds, brought-settled, due-of, event-noted, event-spare, holds-less, waits-as, with-waiting}
use Rattle.tool_reports.proofs.LeavingReports.{leaving-keeps}
use Rattle.tool_reports.proofs.PlainTurns.{states-stay, IsPlain, itself, report-plain, comms-plain, control-plain, count_waiting, at-most, owing_none}
use Rattle.tool_reports.proofs.QuietNotes.{one-behind, settled-more}
use Rattle.tool_law.proofs.CoreSteps.{CoreStep}

-- ---- an alarm that doesn't change

abbrev IsNoChange : AlarmStep → Type 0
IsNoChange alarm_step.Unknown = Unit {0}
IsNoChange alarm_step.Same = Unit {0}
IsNoChange (alarm_step.Changed enabled) = ⊥

pub alarm-stays :
    (table : AlarmTable) (alid : ℕ) (is_set : Bool) (step : AlarmStep) → step_of table alid is_set ≡ step
    → IsNoChange step → with_row alid (with_set is_set) table ≡ table
alarm-stays table alid is_set step is no_change = go (lookup (nat_eq alid) table) refl is
  where
    as_set : (alarm : Alarm) → alarm.is_set ≡ is_set → with_set is_set alarm ≡ alarm
    as_set alarm same = ap (λ (b : Bool). with_set b alarm) (sym same)

    found : (alarm : Alarm) → lookup (nat_eq alid) table ≡ Some alarm → (same : Bool) → beq alarm.is_set is_set ≡ same
        → (if same then alarm_step.Same else alarm_step.Changed alarm.is_enabled) ≡ step
        → set_value (nat_eq alid) table (with_set is_set alarm) ≡ table
    found alarm at true same e =
        set_value_same (nat_eq alid) table (with_set is_set alarm)
        (at ∙ ap Some (sym (as_set alarm (beq-true alarm.is_set is_set same))))
    found alarm at false other e = absurd (subst IsNoChange (sym e) no_change)

    go : (o : Option Alarm) → lookup (nat_eq alid) table ≡ o
        → option_map_or (step_for is_set) o alarm_step.Unknown ≡ step
        → option_map_or (λ row. set_value (nat_eq alid) table (with_set is_set row)) o table ≡ table
    go None at e = refl
    go (Some alarm) at e = found alarm at (beq alarm.is_set is_set) refl e

-- ---- an alarm that is there

abbrev is_known : AlarmStep → Bool
is_known alarm_step.Unknown = false
is_known alarm_step.Same = true
is_known (alarm_step.Changed enabled) = true

is-there :
    (table : AlarmTable) (alid : ℕ) (is_set : Bool) (step : AlarmStep) → step_of table alid is_set ≡ step
    → is_some (alarm_in table alid) ≡ is_known step
is-there table alid is_set step is = go (alarm_in table alid) is
  where
    known : (alarm : Alarm) (same : Bool)
        → (if same then alarm_step.Same else alarm_step.Changed alarm.is_enabled) ≡ step → true ≡ is_known step
    known alarm true e = ap is_known e
    known alarm false e = ap is_known e

    go : (o : Option Alarm) → option_map_or (step_for is_set) o alarm_step.Unknown ≡ step → is_some o ≡ is_known step
    go None e = ap is_known e
    go (Some alarm) e = known alarm (beq alarm.is_set is_set) e

-- ---- notes that commands bring

-- one of which nothing is read, where no event happens
record IsOutcome (what : Happening) : Type 0 where
  past : (notes : List Happening) → past_in (what ∷ notes) ≡ past_in notes
  kept : (held : Option (List Entry)) (notes : List Happening) → list_in held (what ∷ notes) ≡ list_in held notes
  events : (notes : List Happening) → events_in (what ∷ notes) ≡ events_in notes
  reports : (notes : List Happening) → reports_in (what ∷ notes) ≡ reports_in notes
  next : (notes : List Happening) → next_dataid (what ∷ notes) ≡ next_dataid notes
  tries : (notes : List Happening) → tries_in (what ∷ notes) ≡ tries_in notes
  kind : is_brought what ≡ true
  right : (plan : EquipmentPlan) (notes : List Happening) → IsReported plan what notes
  none : (plan : EquipmentPlan) (notes : List Happening) → due_behind plan (what ∷ notes) ≡ None

set-outcome : (vid : ℕ) → IsOutcome (Happening.Set vid)
set-outcome vid = record {
  past = λ notes. refl;
  kept = λ held notes. refl;
  events = λ notes. refl;
  reports = λ notes. refl;
  next = λ notes. refl;
  tries = λ notes. refl;
  kind = refl;
  right = λ plan notes. tt;
  none = λ plan notes. refl;
}

alarm-outcome : (alid : ℕ) (is_set : Bool) → IsOutcome (Happening.Alarm alid is_set)
alarm-outcome alid is_set = record {
  past = λ notes. refl;
  kept = λ held notes. refl;
  events = λ notes. refl;
  reports = λ notes. refl;
  next = λ notes. refl;
  tries = λ notes. refl;
  kind = refl;
  right = λ plan notes. tt;
  none = λ plan notes. refl;
}

refused-outcome : IsOutcome Happening.Refused
refused-outcome = record {
  past = λ notes. refl;
  kept = λ held notes. refl;
  events = λ notes. refl;
  reports = λ notes. refl;
  next = λ notes. refl;
  tries = λ notes. refl;
  kind = refl;
  right = λ plan notes. tt;
  none = λ plan notes. refl;
}

-- ---- commands

-- with the tables as a command leaves them
abbrev pub commanded : ToolCommand → OwnView → OwnView
commanded command own = with_tables (after_command command own.tables) own

-- as it is noted
abbrev recorded : ToolCommand → Happening
recorded command = Happening.Recorded (Past.Commanded command)

module _
    (plan : EquipmentPlan) (fits : EquipmentPlanFits plan) (looked : TablesAreLookedBackFor)
    (start : List Happening) (said : List ToolCommand) (before : List Happening) where
  -- ---- an event

  asked-keeps :
      (asked : Text) (text : List ℕ) (own : OwnView) (e : EndView Kind) (step : CoreStep)
      → Holds plan start said own step.next.drawn (so_far plan start said before step)
      → HasSpare plan own (so_far plan start said before step) text
      → Ends plan start said before (sent.asking_turn asked text own e).own
      (all_done Some (sent.asking_turn asked text own e).duties step)
  asked-keeps (answer.Body asked) text own e step holds spare =
      plain plan start said before (sent.granted_own text own e)
      (fixed_turn (sent.granted_own text own e) (Primary (sent.grant_request asked) ∷ []))
      (fixed-of (sent.granted_own text own e) (sent.granted_own text own e)
      (Primary (sent.grant_request asked) ∷ []) (itself (sent.granted_own text own e))
      ((refl, refl), tt))
      step (go (is_crowded_out true e))
    where
      go : (crowded : Bool)
          → Holds plan start said (if crowded then own else sent.with_asked (next_number e.numbers) text own)
          step.next.drawn (so_far plan start said before step)
      go true = holds
      go false = with-waiting plan start said own (so_far plan start said before step) text (next_number e.numbers)
          holds spare
  asked-keeps answer.TooLong text own e step holds spare = holds

  event-keeps :
      (dataid : ℕ) (text : List ℕ) (own : OwnView) (e : EndView Kind) (step : CoreStep)
      → Holds plan start said own step.next.drawn (so_far plan start said before step)
      → HasSpare plan own (so_far plan start said before step) text
      → Ends plan start said before (sent.event_turn dataid text own e).own
      (all_done Some (sent.event_turn dataid text own e).duties step)
  event-keeps dataid text own e step holds spare = go (nat_le (length text) 244)
    where
      turn_by : Bool → ToolTurn
      turn_by alone =
          if alone then sent.going_turn (event_report text) own e else sent.grant_turn dataid text own e

      go : (alone : Bool) → Ends plan start said before (turn_by alone).own (all_done Some (turn_by alone).duties step)
      go true = reports-at plan start said before own text e step holds spare
      go false =
          asked-keeps (sent.text_of own (sent.grant_item dataid (length text))) text own e step holds spare

  -- what becomes of a report of an event
  abbrev going : ℕ → OwnView → EndView Kind → Spooled → ToolTurn
  going dataid own e message = sent.event_turn dataid message.body own e

  made-keeps :
      (dataid : ℕ) (text : List ℕ) (own : OwnView) (e : EndView Kind) (step : CoreStep)
      → Holds plan start said own step.next.drawn (so_far plan start said before step)
      → HasSpare plan own (so_far plan start said before step) text
      → Ends plan start said before (made_turn (going dataid own e) (event_report text) own).own
      (all_done Some (made_turn (going dataid own e) (event_report text) own).duties step)
  made-keeps dataid text own e step holds spare = go (is_spooled (event_report text) own) (is_communicating own)
    where
      turn_by : Bool → Bool → ToolTurn
      turn_by spooled communicating =
          if spooled then stored_turn (event_report text) own
          else if communicating then going dataid own e (event_report text)
          else unreported_turn states.event_name own

      go : (spooled communicating : Bool)
          → Ends plan start said before (turn_by spooled communicating).own
          (all_done Some (turn_by spooled communicating).duties step)
      go true communicating = stored-keeps plan start said before own text step holds spare
      go false true = event-keeps dataid text own e step holds spare
      go false false =
          plain plan start said before own (unreported_turn states.event_name own)
          (note-of own own (Happening.Dropped states.event_name) (itself own) tt) step holds

  text-keeps :
      (dataid : ℕ) (text : Text) (own : OwnView) (e : EndView Kind) (step : CoreStep)
      → Holds plan start said own step.next.drawn (so_far plan start said before step)
      → ((body : List ℕ) → text ≡ answer.Body body → HasSpare plan own (so_far plan start said before step) body)
      → Ends plan start said before (judged_turn event_report (going dataid own e) text own).own
      (all_done Some (judged_turn event_report (going dataid own e) text own).duties step)
  text-keeps dataid text own e step holds spare = online (is_online own)
    where
      by_text : (t : Text) → text ≡ t
          → Ends plan start said before (text_turn event_report (going dataid own e) t own).own
          (all_done Some (text_turn event_report (going dataid own e) t own).duties step)
      by_text (answer.Body body) is = made-keeps dataid body own e step holds (spare body is)
      by_text answer.TooLong is =
          plain plan start said before own (fixed_turn own (Note (Happening.TooLong states.event_name) ∷ []))
          (note-of own own (Happening.TooLong states.event_name) (itself own) tt) step holds

      online_turn_by : Bool → ToolTurn
      online_turn_by b =
          if b then text_turn event_report (going dataid own e) text own else unreported_turn states.event_name own

      online : (b : Bool) → Ends plan start said before (online_turn_by b).own
          (all_done Some (online_turn_by b).duties step)
      online true = by_text text refl
      online false =
          plain plan start said before own (unreported_turn states.event_name own)
          (note-of own own (Happening.Dropped states.event_name) (itself own) tt) step holds

-- ---- a command as it is noted, in a step before which the tool has said this

module _
    (plan : EquipmentPlan) (fits : EquipmentPlanFits plan) (looked : TablesAreLookedBackFor)
    (start : List Happening) (said : List ToolCommand) (before : List Happening) where
  -- the tables as the command leaves them are those that are looked back for
  told-tables :
      {drawn : Option ℕ} (command : ToolCommand) (own : OwnView) (notes : List Happening)
      → Holds plan start said own drawn notes
      → after_command command own.tables ≡ tables_in plan (recorded command ∷ notes)
  told-tables command own notes holds =
      ap (λ (t : TablesState). after_command command t) holds.tables_are
      ∙ sym (looked.next plan (past_in notes) (Past.Commanded command) fits)

  -- behind the command and the note that it brings
  abbrev behind : ToolCommand → Happening → CoreStep → CoreStep
  behind command what step = noted Some what (noted Some (recorded command) step)

  behind-is :
      (command : ToolCommand) (what : Happening) (step : CoreStep)
      → so_far plan start said before (behind command what step)
      ≡ what ∷ recorded command ∷ so_far plan start said before step
  behind-is command what step =
      one-behind (noted Some (recorded command) step).notes what before
      ∙ ap (λ (notes : List Happening). what ∷ notes) (one-behind step.notes (recorded command) before)

  behind-so :
      (command : ToolCommand) (what : Happening) (own : OwnView) (step : CoreStep)
      → Holds plan start (command ∷ said) own step.next.drawn (what ∷ recorded command ∷ so_far plan start said before
      step)
      → Holds plan start (command ∷ said) own (behind command what step).next.drawn
      (so_far plan start said before (behind command what step))
  behind-so command what own step holds =
      subst (λ (notes : List Happening). Holds plan start (command ∷ said) own step.next.drawn notes)
      (sym (behind-is command what step)) holds

  -- ---- a command that brings none of these notes

  other-noted :
      {drawn : Option ℕ} (command : ToolCommand) (own : OwnView) (notes : List Happening)
      → brought_by own.tables own.events command ≡ None → after_command command own.tables ≡ own.tables
      → Holds plan start said own drawn notes → Holds plan start (command ∷ said) own drawn (recorded command ∷ notes)
  other-noted command own notes none same holds = record {
    plan_is = holds.plan_is;
    kept_is = holds.kept_is;
    tables_are = sym same ∙ told-tables command own notes holds;
    events_are = holds.events_are;
    commanded = ap (λ (cs : List ToolCommand). command ∷ cs) holds.commanded;
    waits = holds.waits;
    live = holds.live;
    tried = holds.tried;
    settled =
        settled-more plan start (recorded command) notes tt refl tt (due-of plan start said own command notes holds
        ∙ none)
        (λ held at. command-rests plan held (list_in held notes) command notes at) holds.settled;
  }

  other-keeps :
      (command : ToolCommand) (own : OwnView) (turn : ToolTurn) (step : CoreStep)
      → brought_by own.tables own.events command ≡ None → after_command command own.tables ≡ own.tables
      → IsPlain Free tt Any any-lasts own turn → Holds plan start said own step.next.drawn
      (so_far plan start said before step)
      → Ends plan start (command ∷ said) before turn.own
      (all_done Some (led_turn (Note (recorded command)) turn).duties step)
  other-keeps command own turn step none same is holds =
      plain plan start (command ∷ said) before own turn is (noted Some (recorded command) step)
      (noted-so plan start (command ∷ said) before own (recorded command) step
      (other-noted command own (so_far plan start said before step) none same holds))

  -- ---- a command with what came of it, where no event happens

  outcome-noted :
      {drawn : Option ℕ} (command : ToolCommand) (what : Happening) (own : OwnView) (notes : List Happening)
      → IsOutcome what
      → brought_by own.tables own.events command ≡ Some what → Holds plan start said own drawn notes
      → Holds plan start (command ∷ said) (commanded command own) drawn (what ∷ recorded command ∷ notes)
  outcome-noted command what own notes is brings holds = record {
    plan_is = holds.plan_is;
    kept_is = λ held. holds.kept_is held ∙ ap owing_none (sym (is.kept held (recorded command ∷ notes)));
    tables_are =
        told-tables command own notes holds
        ∙ ap (λ (past : List Past). tables_at plan past) (sym (is.past (recorded command ∷ notes)));
    events_are = holds.events_are ∙ sym (is.next (recorded command ∷ notes));
    commanded =
        ap commands_in (is.past (recorded command ∷ notes))
        ∙ ap (λ (cs : List ToolCommand). command ∷ cs) holds.commanded;
    waits =
        waits-as plan own.for_grant notes (what ∷ recorded command ∷ notes) (is.reports (recorded command ∷ notes))
        (is.events (recorded command ∷ notes)) holds.waits;
    live = λ one has event.
        subst (λ (happened : List Happened). 0 < length (filter (is_reported_by plan one.message.body) happened))
        (sym (is.events (recorded command ∷ notes))) (holds.live one has event);
    tried = λ number drawn.
        subst (λ (tries : List ℕ). Has tries number) (sym (is.tries (recorded command ∷ notes)))
        (holds.tried number drawn);
    settled =
        brought-settled plan start said own command what notes holds brings is.kind
        (is.right plan (recorded command ∷ notes)) (is.none plan (recorded command ∷ notes));
  }

  -- the tables stay as they were
  unchanged-noted :
      {drawn : Option ℕ} (command : ToolCommand) (what : Happening) (own : OwnView) (notes : List Happening)
      → IsOutcome what
      → brought_by own.tables own.events command ≡ Some what → after_command command own.tables ≡ own.tables
      → Holds plan start said own drawn notes → Holds plan start (command ∷ said) own drawn
      (what ∷ recorded command ∷ notes)
  unchanged-noted command what own notes is brings same holds =
      holds-less plan start (command ∷ said) (commanded command own) own (what ∷ recorded command ∷ notes)
      (outcome-noted command what own notes is brings holds)
      (record {
        plan_is = refl;
        kept_is = refl;
        tables_are = sym same;
        events_are = refl;
        fewer = λ body. at-most (count_waiting body own.for_grant);
        live = λ one has is. has;
      })

  refused-keeps :
      (command : ToolCommand) (own : OwnView) (step : CoreStep)
      → brought_by own.tables own.events command ≡ Some Happening.Refused
      → after_command command own.tables ≡ own.tables
      → Holds plan start said own step.next.drawn (so_far plan start said before step)
      → Ends plan start (command ∷ said) before own
      (all_done Some (led_turn (Note (recorded command)) (refused_turn own)).duties step)
  refused-keeps command own step brings same holds =
      behind-so command Happening.Refused own step
      (unchanged-noted command Happening.Refused own (so_far plan start said before step) refused-outcome brings same
      holds)

  -- ---- variables

  set-keeps :
      (refusal : Option Setting) (vid : ℕ) (value : Item) (own : OwnView) (step : CoreStep)
      → refusal_of own.tables.vars vid value ≡ refusal
      → Holds plan start said own step.next.drawn (so_far plan start said before step)
      → Ends plan start (tool.Set vid value ∷ said) before (set_turn refusal vid value own).own
      (all_done Some
      (led_turn (Note (recorded (tool.Set vid value))) (set_turn refusal vid value own)).duties step)
  set-keeps (Some refusal) vid value own step is holds =
      refused-keeps (tool.Set vid value) own step
      (ap (λ (r : Option Setting). Some (if is_some r then Happening.Refused else Happening.Set vid)) is)
      (ap (λ (r : Option Setting). set_by r vid value own.tables) is) holds
  set-keeps None vid value own step is holds =
      behind-so (tool.Set vid value) (Happening.Set vid) (commanded (tool.Set vid value) own) step
      (outcome-noted (tool.Set vid value) (Happening.Set vid) own (so_far plan start said before step) (set-outcome vid)
      (ap (λ (r : Option Setting). Some (if is_some r then Happening.Refused else Happening.Set vid)) is) holds)

  -- ---- alarms

  alarm-brings :
      (found : AlarmStep) (alid : ℕ) (is_set : Bool) (own : OwnView) → step_of own.tables.alarms alid is_set ≡ found
      → brought_by own.tables own.events (tool.Alarm alid is_set)
      ≡ Some (if is_known found then Happening.Alarm alid is_set else Happening.Refused)
  alarm-brings found alid is_set own is =
      ap (λ (b : Bool). Some (if b then Happening.Alarm alid is_set else Happening.Refused))
      (is-there own.tables.alarms alid is_set found is)

  alarm-same :
      (found : AlarmStep) (alid : ℕ) (is_set : Bool) (own : OwnView) → step_of own.tables.alarms alid is_set ≡ found
      → IsNoChange found → after_command (tool.Alarm alid is_set) own.tables ≡ own.tables
  alarm-same found alid is_set own is no_change =
      ap (λ (alarms : AlarmTable). record own.tables { alarms = alarms })
      (alarm-stays own.tables.alarms alid is_set found is no_change)

  alarm-keeps :
      (found : AlarmStep) (alid : ℕ) (is_set : Bool) (own : OwnView) (e : EndView Kind) (step : CoreStep)
      → step_of own.tables.alarms alid is_set ≡ found
      → Holds plan start said own step.next.drawn (so_far plan start said before step)
      → Ends plan start (tool.Alarm alid is_set ∷ said) before (alarm_turn found alid is_set own e).own
      (all_done Some
      (led_turn (Note (recorded (tool.Alarm alid is_set))) (alarm_turn found alid is_set own e)).duties step)
  alarm-keeps alarm_step.Unknown alid is_set own e step is holds =
      refused-keeps (tool.Alarm alid is_set) own step (alarm-brings alarm_step.Unknown alid is_set own is)
      (alarm-same alarm_step.Unknown alid is_set own is tt) holds
  alarm-keeps alarm_step.Same alid is_set own e step is holds =
      behind-so (tool.Alarm alid is_set) (Happening.Alarm alid is_set) own step
      (unchanged-noted (tool.Alarm alid is_set) (Happening.Alarm alid is_set) own (so_far plan start said before step)
      (alarm-outcome alid is_set) (alarm-brings alarm_step.Same alid is_set own is)
      (alarm-same alarm_step.Same alid is_set own is tt) holds)
  alarm-keeps (alarm_step.Changed enabled) alid is_set own e step is holds =
      plain plan start (tool.Alarm alid is_set ∷ said) before changed (alarm_report_turn enabled alid changed e)
      (go enabled)
      (behind (tool.Alarm alid is_set) (Happening.Alarm alid is_set) step)
      (behind-so (tool.Alarm alid is_set) (Happening.Alarm alid is_set) changed step
      (outcome-noted (tool.Alarm alid is_set) (Happening.Alarm alid is_set) own (so_far plan start said before step)
      (alarm-outcome alid is_set) (alarm-brings (alarm_step.Changed enabled) alid is_set own is) holds))
    where
      changed : OwnView
      changed = with_tables (alarm_after alid is_set own.tables) own

      go : (enabled : Bool) → IsPlain Free tt Any any-lasts changed (alarm_report_turn enabled alid changed e)
      go true =
          report-plain Free tt Any any-lasts sent.alarm_report (λ body. (refl, refl)) (λ body. refl)
          (sent.text_of changed (alarm_item_of changed.tables alid)) changed e
      go false = nothing-of changed changed (itself changed)

  -- ---- events

  happened-keeps :
      (known : Bool) (ceid : ℕ) (own : OwnView) (e : EndView Kind) (step : CoreStep)
      → is_planned own.tables.reports ceid ≡ known → Holds plan start said own step.next.drawn
      (so_far plan start said before step)
      → Ends plan start (tool.Event ceid ∷ said) before (known_event_turn known ceid own e).own
      (all_done Some (led_turn (Note (recorded (tool.Event ceid))) (known_event_turn known ceid own e)).duties step)
  happened-keeps false ceid own e step is holds =
      refused-keeps (tool.Event ceid) own step
      (ap (λ (b : Bool). Some (if b then Happening.Event ceid own.events else Happening.Refused)) is) refl holds
  happened-keeps true ceid own e step planned holds = go (is_enabled_in own.tables.reports ceid) refl
    where
      next : CoreStep
      next = behind (tool.Event ceid) (Happening.Event ceid own.events) step

      noted_event : Holds plan start (tool.Event ceid ∷ said) (with_event own) next.next.drawn
          (so_far plan start said before next)
      noted_event =
          behind-so (tool.Event ceid) (Happening.Event ceid own.events) (with_event own) step
          (event-noted plan start said own ceid (so_far plan start said before step) holds planned)

      go : (enabled : Bool) → is_enabled_in own.tables.reports ceid ≡ enabled
          → Ends plan start (tool.Event ceid ∷ said) before (enabled_turn enabled ceid own.events (with_event own)
          e).own
          (all_done Some (enabled_turn enabled ceid own.events (with_event own) e).duties next)
      go true is =
          text-keeps plan fits looked start (tool.Event ceid ∷ said) before own.events
          (sent.text_of own (event_item own.tables ceid own.events)) (with_event own) e next noted_event
          (λ body text.
          subst (λ (ns : List Happening). HasSpare plan (with_event own) ns body)
          (sym (behind-is (tool.Event ceid) (Happening.Event ceid own.events) step))
          (event-spare plan start said own ceid own.plan.line.max_body body (so_far plan start said before step) holds
          is text))
      go false is =
          plain plan start (tool.Event ceid ∷ said) before (with_event own) (quiet_turn (with_event own))
          (nothing-of (with_event own) (with_event own) (itself (with_event own))) next noted_event

  -- ---- all of them

  pub told-keeps :
      (command : ToolCommand) (now : ℕ) (own : OwnView) (e : EndView Kind) (step : CoreStep)
      → Holds plan start said own step.next.drawn (so_far plan start said before step)
      → Ends plan start (command ∷ said) before (told_turn command now own e).own
      (all_done Some (told_turn command now own e).duties step)
  told-keeps (tool.Set vid value) now own e step holds =
      set-keeps (refusal_of own.tables.vars vid value) vid value own step refl holds
  told-keeps (tool.Event ceid) now own e step holds =
      happened-keeps (is_planned own.tables.reports ceid) ceid own e step refl holds
  told-keeps (tool.Alarm alid is_set) now own e step holds =
      alarm-keeps (step_of own.tables.alarms alid is_set) alid is_set own e step refl holds
  told-keeps tool.Enable now own e step holds =
      other-keeps tool.Enable own (command_turn tool.Enable now own e) step refl refl
      (comms-plain Free tt Any any-lasts comms_in.Enable now own) holds
  told-keeps tool.Disable now own e step holds =
      leaving-keeps plan start (tool.Disable ∷ said) before comms_in.Disable None now own e
      (noted Some (recorded tool.Disable) step)
      (noted-so plan start (tool.Disable ∷ said) before own (recorded tool.Disable) step
      (other-noted tool.Disable own (so_far plan start said before step) refl refl holds))
  told-keeps tool.Online now own e step holds =
      other-keeps tool.Online own (command_turn tool.Online now own e) step refl refl
      (online-of (common-silent Free tt Any any-lasts) states-stay (refl, refl) own e) holds
  told-keeps tool.Offline now own e step holds =
      other-keeps tool.Offline own (command_turn tool.Offline now own e) step refl refl
      (control-plain Free tt Any any-lasts control_in.Offline own) holds
  told-keeps tool.Local now own e step holds =
      other-keeps tool.Local own (command_turn tool.Local now own e) step refl refl
      (control-plain Free tt Any any-lasts control_in.ToLocal own) holds
  told-keeps tool.Remote now own e step holds =
      other-keeps tool.Remote own (command_turn tool.Remote now own e) step refl refl
      (control-plain Free tt Any any-lasts control_in.ToRemote own) holds
  told-keeps (tool.Terminal tid text) now own e step holds =
      other-keeps (tool.Terminal tid text) own (command_turn (tool.Terminal tid text) now own e) step refl refl
      (report-plain Free tt Any any-lasts sent.terminal_report (λ body. (refl, refl)) (λ body. refl)
      (sent.text_of own (sent.terminal_item tid text)) own e) holds
