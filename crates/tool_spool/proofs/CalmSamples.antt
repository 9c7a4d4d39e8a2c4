-- The turns of samples and of their S6F1 leave the spool as it is.
use Rattle.std.proofs.Common.{refl, ◌∙◌, Bool, true, false, ℕ, List, [], ◌∷◌, length, Option, Some, None, if◌then◌else◌, nat_le}
use Rattle.gem_shapes.specs.Answers.{code_item}
use Rattle.gem_trace.specs.declared.request.TraceRequest.{TraceRequest}
use Rattle.message_flow.specs.declared.message.Message.{Message}
use Rattle.secs_items.specs.declared.item.Item.{Item}
use Rattle.trace_log.specs.Log.{Happening}
use Rattle.transact.specs.Numbers.{next_number}
use Rattle.message_end.specs.Core.{EndView, is_crowded_out}
use Rattle.message_end.specs.Core.Command.{Primary}
use Rattle.equipment_tables.specs.declared.answers.Answer.{Answer as Text}
use Rattle.equipment_tables.specs.declared.answers.Answer.TheVariants as answer
use Rattle.tool_step.specs.declared.kind.Kind.{Kind}
use Rattle.tool_step.specs.Own.{OwnView, ToolTurn, is_communicating, is_online}
use Rattle.tool_step.specs.Reports.{unreported_turn}
use Rattle.tool_step.specs.Sampling.{first_turn, granted_trace_turn, data_inquiry_own, data_inquiry_turn, made_part, sampled_text_turn, sampled_turn, sampling, tiaack_code, tiaack_in, trace_data, trace_data_turn, trace_grant_turn, trace_inquiry, trace_name, trace_sent_turn, trace_turn, denied_data_turn, with_data_inquiry, with_made}
use Rattle.tool_step.specs.Sent as sent
use Rattle.tool_step.specs.Spooling.{dataid_in}
use Rattle.tool_law.proofs.TurnWalks.{fixed-of, note-of, nothing-of}
use Rattle.tool_spool.proofs.CalmParts.{IsCalmTurn, answers-calm, common-calm, like-as, likes, too-long-calm, unreported-calm}
use Rattle.tool_spool.proofs.ShelvedTurns.{IsLikeIt}

-- ---- S2F23

pub trace-calm : (asked : TraceRequest) (now : ℕ) (message : Message) (own : OwnView)
    → IsCalmTurn own (trace_turn asked now message own)
trace-calm asked now message own = record {
  duties = answers-calm (sent.text_of own (code_item (tiaack_code (tiaack_in asked own)))) message;
  keeps = like-as own (trace_turn asked now message own).own refl refl refl;
}

-- ---- samples

pub sampling-calm : (now : ℕ) (own : OwnView) (e : EndView Kind) → IsCalmTurn own (sampling now own e)
sampling-calm now own e =
    nothing-of own (sampling now own e).own (like-as own (sampling now own e).own refl refl refl)

-- ---- S6F1

trace-sent-calm : (body : List ℕ) (own : OwnView) → IsCalmTurn own (trace_sent_turn body own)
trace-sent-calm body own = fixed-of own own (Primary (trace_data body) ∷ []) (likes own) (refl, tt)

inquired-calm : (asked : Text) (body : List ℕ) (own : OwnView) (e : EndView Kind)
    → IsCalmTurn own (data_inquiry_turn asked body own e)
inquired-calm (answer.Body text) body own e =
    fixed-of own (data_inquiry_own body own e) (Primary (trace_inquiry text) ∷ [])
    (go (is_crowded_out true e) (next_number e.numbers)) (refl, tt)
  where
    go : (crowded : Bool) (next : Option ℕ) → IsLikeIt own (if crowded then own else with_data_inquiry next body own)
    go true next = likes own
    go false None = likes own
    go false (Some system) = like-as own (with_data_inquiry (Some system) body own) refl refl refl
inquired-calm answer.TooLong body own e = nothing-of own own (likes own)

data-calm : (body : List ℕ) (own : OwnView) (e : EndView Kind) → IsCalmTurn own (trace_data_turn body own e)
data-calm body own e = go (nat_le (length body) 244)
  where
    go : (alone : Bool) → IsCalmTurn own (if alone then trace_sent_turn body own else trace_grant_turn body own e)
    go true = trace-sent-calm body own
    go false = inquired-calm (sent.text_of own (sent.grant_item (dataid_in body) (length body))) body own e

text-calm : (text : Text) (own : OwnView) (e : EndView Kind) → IsCalmTurn own (sampled_text_turn text own e)
text-calm (answer.Body body) own e = go (is_communicating own)
  where
    go : (communicating : Bool)
        → IsCalmTurn own (if communicating then trace_data_turn body own e else unreported_turn trace_name own)
    go true = data-calm body own e
    go false = unreported-calm trace_name own
text-calm answer.TooLong own e = too-long-calm trace_name own

sampled-calm : (item : Item) (own : OwnView) (e : EndView Kind) → IsCalmTurn own (sampled_turn item own e)
sampled-calm item own e = go (is_online own)
  where
    go : (online : Bool)
        → IsCalmTurn own
        (if online then sampled_text_turn (sent.text_of own item) own e else unreported_turn trace_name own)
    go true = text-calm (sent.text_of own item) own e
    go false = unreported-calm trace_name own

-- the same spool, and the same reports
with-less : (own other : OwnView) (turn : ToolTurn) → IsLikeIt own other → IsCalmTurn other turn → IsCalmTurn own turn
with-less own other turn first is = record {
  duties = is.duties;
  keeps = record {
    ledger = is.keeps.ledger ∙ first.ledger;
    owed = is.keeps.owed ∙ first.owed;
    reports = λ are. is.keeps.reports (first.reports are);
  };
}

pub made-calm : (own : OwnView) (e : EndView Kind) → IsCalmTurn own (made_part own e)
made-calm own e = go own.tracing.made
  where
    go : (made : List Item) → IsCalmTurn own (first_turn made own e)
    go [] = nothing-of own own (likes own)
    go (item ∷ items) =
        with-less own (with_made items own) (sampled_turn item (with_made items own) e)
        (like-as own (with_made items own) refl refl refl) (sampled-calm item (with_made items own) e)

-- ---- one that waits for S6F6

pub untraced-calm : (own other : OwnView) → IsLikeIt own other → IsCalmTurn own (denied_data_turn other)
untraced-calm own other like =
    note-of own other (Happening.Denied trace_name) like (common-calm.denied trace_name)

pub granted-trace-calm : (waiting : Option (List ℕ)) (own other : OwnView) → IsLikeIt own other
    → IsCalmTurn own (granted_trace_turn waiting other)
granted-trace-calm None own other like = nothing-of own other like
granted-trace-calm (Some body) own other like =
    with-less own other (trace_sent_turn body other) like (trace-sent-calm body other)
