-- The turns of samples and of their S6F1 say nothing of reports.
use Rattle.std.proofs.Common.{refl, Bool, true, false, ℕ, List, [], ◌∷◌, length, Option, Some, None, if◌then◌else◌, nat_le}
use Rattle.secs_items.specs.declared.item.Item.{Item}
use Rattle.trace_log.specs.declared.names.Title.{Title}
use Rattle.trace_log.specs.Log.{Happening}
use Rattle.transact.specs.Numbers.{next_number}
use Rattle.message_end.specs.Core.{EndView, is_crowded_out}
use Rattle.message_end.specs.Core.Command.{Note, Primary}
use Rattle.message_end.specs.Parts.{fixed_turn}
use Rattle.equipment_tables.specs.declared.answers.Answer.{Answer as Text}
use Rattle.equipment_tables.specs.declared.answers.Answer.TheVariants as answer
use Rattle.tool_step.specs.declared.kind.Kind.{Kind}
use Rattle.tool_step.specs.Own.{OwnView, is_communicating, is_online}
use Rattle.tool_step.specs.Reports.{unreported_turn}
use Rattle.tool_step.specs.Sampling.{first_turn, granted_trace_turn, data_inquiry_own, data_inquiry_turn, made_part, sampled_text_turn, sampled_turn, sampling, trace_data, trace_data_turn, trace_grant_turn, trace_inquiry, trace_name, trace_sent_turn, denied_data_turn, with_data_inquiry, with_made}
use Rattle.tool_step.specs.Sent as sent
use Rattle.tool_step.specs.Spooling.{dataid_in}
use Rattle.tool_law.proofs.TurnWalks.{nothing-of, fixed-of, note-of}
use Rattle.tool_reports.proofs.PlainTurns.{IsPlain, IsNoMore, stays, itself}
use Rattle.tool_reports.proofs.QuietNotes.{IsAsBefore, IsQuietNote}

module _
    (Asks : Option Title → Type 0) (none : Asks None) (Fact : List Happening → Type 0)
    (lasts : (old new : List Happening) → IsAsBefore old new → Fact old → Fact new) where
  pub sampling-plain : (now : ℕ) (own : OwnView) (e : EndView Kind)
      → IsPlain Asks none Fact lasts own (sampling now own e)
  sampling-plain now own e =
      nothing-of own (sampling now own e).own (stays own (sampling now own e).own refl refl refl refl refl refl)

  -- of an own that keeps no more
  module _ (own other : OwnView) (less : IsNoMore own other) where
    noted-plain : (what : Happening) → IsQuietNote what
        → IsPlain Asks none Fact lasts own (fixed_turn other (Note what ∷ []))
    noted-plain what quiet = note-of own other what less quiet

    sent-plain : (body : List ℕ) → IsPlain Asks none Fact lasts own (trace_sent_turn body other)
    sent-plain body =
        fixed-of own other (Primary (trace_data body) ∷ []) less ((refl, refl), tt)

    pub untraced-plain : IsPlain Asks none Fact lasts own (denied_data_turn other)
    untraced-plain = noted-plain (Happening.Denied trace_name) tt

    pub granted-trace-plain : (waiting : Option (List ℕ))
        → IsPlain Asks none Fact lasts own (granted_trace_turn waiting other)
    granted-trace-plain None = nothing-of own other less
    granted-trace-plain (Some body) = sent-plain body

    inquired-less : (body : List ℕ) (e : EndView Kind) → IsNoMore own (data_inquiry_own body other e)
    inquired-less body e = go (is_crowded_out true e) (next_number e.numbers)
      where
        go : (crowded : Bool) (next : Option ℕ)
            → IsNoMore own (if crowded then other else with_data_inquiry next body other)
        go true next = less
        go false None = less
        go false (Some system) = record {
          plan_is = less.plan_is;
          kept_is = less.kept_is;
          tables_are = less.tables_are;
          events_are = less.events_are;
          fewer = less.fewer;
          live = less.live;
        }

    inquired-plain : (asked : Text) (body : List ℕ) (e : EndView Kind)
        → IsPlain Asks none Fact lasts own (data_inquiry_turn asked body other e)
    inquired-plain (answer.Body text) body e =
        fixed-of own (data_inquiry_own body other e) (Primary (trace_inquiry text) ∷ [])
        (inquired-less body e) ((refl, refl), tt)
    inquired-plain answer.TooLong body e = nothing-of own other less

    data-plain : (body : List ℕ) (e : EndView Kind)
        → IsPlain Asks none Fact lasts own (trace_data_turn body other e)
    data-plain body e = go (nat_le (length body) 244)
      where
        go : (alone : Bool)
            → IsPlain Asks none Fact lasts own
            (if alone then trace_sent_turn body other else trace_grant_turn body other e)
        go true = sent-plain body
        go false = inquired-plain (sent.text_of other (sent.grant_item (dataid_in body) (length body))) body e

    text-plain : (text : Text) (e : EndView Kind)
        → IsPlain Asks none Fact lasts own (sampled_text_turn text other e)
    text-plain (answer.Body body) e = go (is_communicating other)
      where
        go : (communicating : Bool)
            → IsPlain Asks none Fact lasts own
            (if communicating then trace_data_turn body other e else unreported_turn trace_name other)
        go true = data-plain body e
        go false = noted-plain (Happening.Dropped trace_name) tt
    text-plain answer.TooLong e = noted-plain (Happening.TooLong trace_name) tt

    sampled-plain : (item : Item) (e : EndView Kind) → IsPlain Asks none Fact lasts own (sampled_turn item other e)
    sampled-plain item e = go (is_online other)
      where
        go : (online : Bool)
            → IsPlain Asks none Fact lasts own
            (if online then sampled_text_turn (sent.text_of other item) other e
            else unreported_turn trace_name other)
        go true = text-plain (sent.text_of other item) e
        go false = noted-plain (Happening.Dropped trace_name) tt

  pub made-plain : (own : OwnView) (e : EndView Kind) → IsPlain Asks none Fact lasts own (made_part own e)
  made-plain own e = go own.tracing.made
    where
      go : (made : List Item) → IsPlain Asks none Fact lasts own (first_turn made own e)
      go [] = nothing-of own own (itself own)
      go (item ∷ items) =
          sampled-plain own (with_made items own)
          (stays own (with_made items own) refl refl refl refl refl refl) item e
