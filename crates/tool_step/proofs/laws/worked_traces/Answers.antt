-- The worked turns compute; and an S6F1 has the turn of a report, since no rule covers it.

use Rattle.std.proofs.Common.{◌≡◌, refl, ◌&&◌, Bool, true, false, ℕ, List, [], if◌then◌else◌}
use Rattle.spool_rule.specs.Rule.{covered}
use Rattle.secs_items.specs.declared.item.Item.{Item}
use Rattle.trace_log.specs.Names.{Spooled, spooled_name}
use Rattle.message_end.specs.Core.{EndView}
use Rattle.equipment_tables.specs.declared.answers.Answer.{Answer}
use Rattle.equipment_tables.specs.declared.answers.Answer.TheVariants as answer
use Rattle.tool_step.specs.declared.kind.Kind.{Kind}
use Rattle.tool_step.specs.Own.{OwnView, is_communicating, is_online}
use Rattle.tool_step.specs.Reports.{judged_turn, text_turn, unreported_turn}
use Rattle.tool_step.specs.Sampling.{sampled_text_turn, sampled_turn, trace_data_turn, trace_name}
use Rattle.tool_step.specs.Sent.{text_of}
use Rattle.tool_step.specs.Spooling.{stored_turn}
use Rattle.tool_step.specs.WorkedTraces.{trace_report}
use Rattle.tool_step.proofs.laws.worked_traces.Goals as goal

pub returns-clause-traces : goal.returns-clause-traces
returns-clause-traces c = record {
  taken = refl;
  period = refl;
  group = refl;
  unknown = refl;
  many = refl;
  full = refl;
  none = refl;
  runs = refl;
  due = refl;
  early = refl;
  first = refl;
  no_data = refl;
  both = refl;
  over = refl;
}

as-a-report : (sample : Item) (own : OwnView) (e : EndView Kind)
    → sampled_turn sample own e
    ≡ judged_turn trace_report (λ (message : Spooled). trace_data_turn message.body own e) (text_of own sample) own
as-a-report sample own e = go (is_online own) (text_of own sample)
  where
    goes : (body : List ℕ) (active communicating : Bool)
        → (if communicating then trace_data_turn body own e else unreported_turn trace_name own)
        ≡ (if active && covered own.tables.rule 6 1 then stored_turn (trace_report body) own
        else if communicating then trace_data_turn body own e
        else unreported_turn (spooled_name (trace_report body)) own)
    goes body true true = refl
    goes body true false = refl
    goes body false true = refl
    goes body false false = refl

    by_text : (text : Answer)
        → sampled_text_turn text own e
        ≡ text_turn trace_report (λ (message : Spooled). trace_data_turn message.body own e) text own
    by_text (answer.Body body) = goes body own.ledger.is_active (is_communicating own)
    by_text answer.TooLong = refl

    go : (online : Bool) (text : Answer)
        → (if online then sampled_text_turn text own e else unreported_turn trace_name own)
        ≡ (if online then text_turn trace_report (λ (message : Spooled). trace_data_turn message.body own e) text own
        else unreported_turn (spooled_name (trace_report [])) own)
    go true text = by_text text
    go false text = refl

pub returns-clause-data : goal.returns-clause-data
returns-clause-data c = record {
  as_a_report = as-a-report;
  goes = refl;
  alone = refl;
  long = refl;
  off_line = λ body. refl;
  inquires = refl;
  waits = refl;
  granted = refl;
  denied = refl;
}
