-- A trace of two samples, from what the host asks for to its S6F1, that can be followed by hand.
use Rattle.std.specs.Prelude.{◌≡◌, ℕ, true, false, List, [], ◌∷◌, codes, replicate, None, Some}
use Rattle.gem_states.specs.declared.comms.CommsState.TheVariants.{WaitCra}
use Rattle.gem_states.specs.declared.control.ControlState.TheVariants.{EquipmentOffline}
use Rattle.gem_trace.specs.declared.request.TraceRequest.{TraceRequest}
use Rattle.gem_trace.specs.Traces.{Running}
use Rattle.message_flow.specs.declared.message.Message.{Message}
use Rattle.secs_items.specs.declared.item.Item.{Item}
use Rattle.secs_items.specs.declared.item.Item.TheVariants as item
use Rattle.trace_log.specs.Log.{Happening}
use Rattle.trace_log.specs.Names.{Spooled}
use Rattle.message_end.specs.Core.{EndView, at_first, step_in}
use Rattle.message_end.specs.Parts.{after_turn}
use Rattle.equipment_tables.specs.declared.answers.Answer.TheVariants as answer
use Rattle.equipment_tables.specs.Tables.{set_by}
use Rattle.tool_step.specs.declared.kind.Kind.{Kind}
use Rattle.tool_step.specs.Equipment.{EquipmentView}
use Rattle.tool_step.specs.Own.{OwnView, ToolTurn, waiting_data, with_comms, with_control, with_tables, without_waiting_data}
use Rattle.tool_step.specs.Sampling.{granted_trace_turn, data_inquiry_turn, running_by, with_samples_taken, sampled_text_turn, sampled_turn, tiaack_code, tiaack_in, trace_data_turn, trace_name, denied_data_turn, with_running}
use Rattle.tool_step.specs.Reports.{judged_turn}
use Rattle.tool_step.specs.Sent.{text_of}
use Rattle.tool_step.specs.Step.{deadline_of}
use Rattle.tool_step.specs.WorkedSpool.{on_spool, plan_with, with_host}

-- ---- what the host asks for

-- TRID 1, with this period, two samples, so many of them in each S6F1, and of one variable
abbrev pub asks_for : List ℕ → (group svid : ℕ) → TraceRequest
asks_for period group svid =
    record { trid = 1; dsper = period; total = 2; group = group; svids = svid ∷ [] }

abbrev pub each_second : List ℕ
each_second = codes "000001"

abbrev pub two_of_one : TraceRequest
two_of_one = asks_for each_second 2 1

-- variable 1 is 7, and the host is there
abbrev pub at_host : EquipmentView
at_host = with_host (on_spool (plan_with 1 0) [])

abbrev pub host_own : OwnView
host_own = at_host.node.own

-- the TIAACK, and what runs when it is asked for at 0
abbrev pub answered : TraceRequest → ℕ
answered asked = tiaack_code (tiaack_in asked host_own)

abbrev pub own_after : TraceRequest → OwnView
own_after asked =
    with_running (running_by (tiaack_in asked host_own) asked 0 host_own.tracing.running) host_own

-- ---- its samples

abbrev pub running_with : (due taken : ℕ) → List Item → Running
running_with due taken values = record {
  trid = 1;
  period = 1000;
  total = 2;
  group = 2;
  svids = 1 ∷ [];
  due = due;
  taken = taken;
  values = values;
}

-- the first sample is taken, the variable is set to 9, which isn't refused, and the second is taken
abbrev pub own_first : OwnView
own_first = record (own_after two_of_one) {
  tracing = with_samples_taken host_own.tables.vars 1000 (own_after two_of_one).tracing;
}

abbrev pub own_set : OwnView
own_set = with_tables (set_by None 1 (item.U4 (9 ∷ [])) host_own.tables) own_first

-- TRID 1, SMPLN 2, no STIME, and both values
abbrev pub seven_and_nine : Item
seven_and_nine =
    item.L (item.U4 (1 ∷ []) ∷ item.U4 (2 ∷ []) ∷ item.A []
    ∷ item.L (item.U4 (7 ∷ []) ∷ item.U4 (9 ∷ []) ∷ []) ∷ [])

-- the answers by their codes; the first S6F1 comes with the second sample, and has both values; and what is refused
-- sets no trace
pub record TracesAreWorked : Type 0 where
  pub taken : answered two_of_one ≡ 0
  pub period : answered (asks_for (codes "000060") 2 1) ≡ 3
  pub group : answered (asks_for each_second 3 1) ≡ 5
  pub unknown : answered (asks_for each_second 2 99) ≡ 4
  pub many : answered (record two_of_one { svids = replicate 257 1 }) ≡ 1
  pub full :
      tiaack_code (tiaack_in two_of_one
      (with_running (replicate 16 (record (running_with 1000 0 []) { trid = 2 })) host_own))
      ≡ 2
  pub none : (own_after (asks_for each_second 2 99)).tracing.running ≡ []
  pub runs : (own_after two_of_one).tracing.running ≡ running_with 1000 0 [] ∷ []
  pub due : deadline_of (record at_host.node { own = own_after two_of_one }) ≡ Some 1000
  pub early :
      with_samples_taken host_own.tables.vars 999 (own_after two_of_one).tracing ≡ (own_after two_of_one).tracing
  pub first : own_first.tracing.running ≡ running_with 2000 1 (item.U4 (7 ∷ []) ∷ []) ∷ []
  pub no_data : own_first.tracing.made ≡ []
  pub both : (with_samples_taken own_set.tables.vars 2000 own_set.tracing).made ≡ seven_and_nine ∷ []
  pub over : (with_samples_taken own_set.tables.vars 2000 own_set.tracing).running ≡ []

-- ---- what becomes of an S6F1

abbrev pub own_off_line : OwnView
own_off_line = with_control (record { state = EquipmentOffline; is_local = false }) host_own

abbrev pub own_alone : OwnView
own_alone = with_comms (record { state = WaitCra; deadline = None }) host_own

-- what is noted of a turn
abbrev pub noted : ToolTurn → List Happening
noted turn = (step_in (after_turn Some turn (at_first at_host.node))).notes

-- a primary with W under the first number
abbrev pub primary : ℕ → List ℕ → Message
primary function body = record { stream = 6; function = function; wait = true; system = 0; body = body }

-- one that waits for S6F6
abbrev pub own_waiting : OwnView
own_waiting = (data_inquiry_turn (answer.Body (5 ∷ [])) (7 ∷ []) host_own at_host.node.core).own

-- an S6F1 as a report, which no rule covers
abbrev pub trace_report : List ℕ → Spooled
trace_report body = record { stream = 6; function = 1; body = body }

-- it goes the way of such a report: where the host is there, alone or behind S6F5; else it is dropped; and so is one
-- without a grant
pub record TraceDataGoes : Type 0 where
  pub as_a_report :
      (sample : Item) (own : OwnView) (e : EndView Kind)
      → sampled_turn sample own e
      ≡ judged_turn trace_report (λ message. trace_data_turn message.body own e) (text_of own sample) own
  pub goes :
      noted (sampled_text_turn (answer.Body (7 ∷ [])) host_own at_host.node.core)
      ≡ Happening.Sent (primary 1 (7 ∷ [])) ∷ []
  pub alone :
      noted (sampled_text_turn (answer.Body (7 ∷ [])) own_alone at_host.node.core) ≡ Happening.Dropped trace_name ∷ []
  pub long : noted (sampled_text_turn answer.TooLong host_own at_host.node.core) ≡ Happening.TooLong trace_name ∷ []
  pub off_line :
      (body : Item) → noted (sampled_turn body own_off_line at_host.node.core) ≡ Happening.Dropped trace_name ∷ []
  pub inquires :
      noted (data_inquiry_turn (answer.Body (5 ∷ [])) (7 ∷ []) host_own at_host.node.core)
      ≡ Happening.Sent (primary 5 (5 ∷ [])) ∷ []
  pub waits : own_waiting.tracing.for_grant ≡ record { system = 0; body = 7 ∷ [] } ∷ []
  pub granted :
      noted (granted_trace_turn (waiting_data 0 own_waiting) (without_waiting_data 0 own_waiting))
      ≡ Happening.Sent (primary 1 (7 ∷ [])) ∷ []
  pub denied : noted (denied_data_turn (without_waiting_data 0 own_waiting)) ≡ Happening.Denied trace_name ∷ []
