-- That the samples draw no system bytes, and the turn of each S6F1 one at most.
use Rattle.std.proofs.Common.{Bool, true, false, ℕ, List, [], ◌∷◌, length, Option, Some, None, if◌then◌else◌, nat_le}
use Rattle.secs_items.specs.declared.item.Item.{Item}
use Rattle.trace_log.specs.Log.{Happening}
use Rattle.message_end.specs.Core.{EndView}
use Rattle.equipment_tables.specs.declared.answers.Answer.{Answer as Text}
use Rattle.equipment_tables.specs.declared.answers.Answer.TheVariants as answer
use Rattle.tool_step.specs.declared.kind.Kind.{Kind}
use Rattle.tool_step.specs.Own.{OwnView, is_communicating, is_online}
use Rattle.tool_step.specs.Reports.{unreported_turn}
use Rattle.tool_step.specs.Sampling.{first_turn, granted_trace_turn, data_inquiry_own, data_inquiry_turn, made_part, sampled_text_turn, sampled_turn, sampling, trace_data, trace_data_turn, trace_grant_turn, trace_inquiry, trace_name, trace_sent_turn, with_made}
use Rattle.tool_step.specs.Sent as sent
use Rattle.tool_step.specs.Spooling.{dataid_in}
use Rattle.tool_law.proofs.Drawing.{Needs, needs-none}
use Rattle.tool_law.proofs.DrawnTurns.{note-need, primary-need}

pub sampling-need : (now : ℕ) (own : OwnView) (e : EndView Kind) → Needs 1 false (sampling now own e).duties
sampling-need now own e = needs-none 1

inquired-need : (asked : Text) (body : List ℕ) (own : OwnView) (e : EndView Kind)
    → Needs 1 false (data_inquiry_turn asked body own e).duties
inquired-need (answer.Body text) body own e = primary-need (data_inquiry_own body own e) (trace_inquiry text)
inquired-need answer.TooLong body own e = needs-none 1

data-need : (body : List ℕ) (own : OwnView) (e : EndView Kind) → Needs 1 false (trace_data_turn body own e).duties
data-need body own e = go (nat_le (length body) 244)
  where
    go : (alone : Bool)
        → Needs 1 false (if alone then trace_sent_turn body own else trace_grant_turn body own e).duties
    go true = primary-need own (trace_data body)
    go false = inquired-need (sent.text_of own (sent.grant_item (dataid_in body) (length body))) body own e

sampled-text-need : (text : Text) (own : OwnView) (e : EndView Kind)
    → Needs 1 false (sampled_text_turn text own e).duties
sampled-text-need (answer.Body body) own e = go (is_communicating own)
  where
    go : (communicating : Bool)
        → Needs 1 false (if communicating then trace_data_turn body own e else unreported_turn trace_name own).duties
    go true = data-need body own e
    go false = note-need own (Happening.Dropped trace_name)
sampled-text-need answer.TooLong own e = note-need own (Happening.TooLong trace_name)

sampled-need : (item : Item) (own : OwnView) (e : EndView Kind) → Needs 1 false (sampled_turn item own e).duties
sampled-need item own e = go (is_online own)
  where
    go : (online : Bool)
        → Needs 1 false
        (if online then sampled_text_turn (sent.text_of own item) own e else unreported_turn trace_name own).duties
    go true = sampled-text-need (sent.text_of own item) own e
    go false = note-need own (Happening.Dropped trace_name)

pub made-need : (own : OwnView) (e : EndView Kind) → Needs 1 false (made_part own e).duties
made-need own e = go own.tracing.made
  where
    go : (made : List Item) → Needs 1 false (first_turn made own e).duties
    go [] = needs-none 1
    go (item ∷ items) = sampled-need item (with_made items own) e

pub granted-trace-need : (waiting : Option (List ℕ)) (own : OwnView)
    → Needs 1 false (granted_trace_turn waiting own).duties
granted-trace-need None own = needs-none 1
granted-trace-need (Some body) own = primary-need own (trace_data body)
