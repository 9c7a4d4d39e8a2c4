-- The turns of samples and of their S6F1 keep what is kept sound.
use Rattle.std.proofs.Common.{refl, Bool, true, false, ℕ, List, [], ◌∷◌, length, Option, Some, None, if◌then◌else◌, nat_le}
use Rattle.std.specs.List.{find}
use Rattle.std.specs.Option.{option_map}
use Rattle.std.specs.Prelude.{◌≡◌, IfSome}
use Rattle.message_flow.proofs.Firsts.{All-find}
use Rattle.secs_items.specs.declared.item.Item.{Item}
use Rattle.trace_log.specs.Log.{Happening}
use Rattle.transact.specs.Numbers.{next_number}
use Rattle.message_end.specs.Core.{EndView, IsText, is_crowded_out}
use Rattle.message_end.specs.Core.Command.{Primary}
use Rattle.equipment_tables.specs.declared.answers.Answer.{Answer as Text}
use Rattle.equipment_tables.specs.declared.answers.Answer.TheVariants as text
use Rattle.equipment_tables.specs.declared.plan.EquipmentPlan.{EquipmentPlan}
use Rattle.equipment_tables.specs.Plan.{EquipmentPlanFits}
use Rattle.tool_step.specs.declared.kind.Kind.{Kind}
use Rattle.tool_step.specs.Grants.{GrantView}
use Rattle.tool_step.specs.Own.{OwnView, is_communicating, is_granted_by, is_online, waiting_data}
use Rattle.tool_step.specs.Reports.{unreported_turn}
use Rattle.tool_step.specs.Sampling.{first_turn, granted_trace_turn, data_inquiry_own, data_inquiry_turn, made_part, sampled_text_turn, sampled_turn, sampling, trace_data, trace_data_turn, trace_grant_turn, trace_inquiry, trace_name, trace_sent_turn, with_data_inquiry, with_made}
use Rattle.tool_step.specs.Sent as sent
use Rattle.tool_step.specs.Spooling.{dataid_in}
use Rattle.spool_ledger.specs.Ledger.{Numbered}
use Rattle.tool_law.proofs.MildCommands.{IsSpelled, may-inquire, may-trace}
use Rattle.tool_law.proofs.QuietTurns.{Sound, Quiet, text-is, kept, fixed-quiet, nothing-quiet, note-quiet}
use Rattle.tool_law.proofs.SpoolSound.{All-snoc}

module _ (plan : EquipmentPlan) (TriedIs : Option ℕ → Type 0) (fits : EquipmentPlanFits plan) (slots : ℕ)
    (stood : Numbered)
  where
    -- ---- the samples

    pub sampling-quiet : (now : ℕ) (own : OwnView) (e : EndView Kind) → (Sound plan TriedIs fits slots stood) own
        → (Quiet plan TriedIs fits slots stood) (sampling now own e)
    sampling-quiet now own e sound =
        (nothing-quiet plan TriedIs fits slots stood) (sampling now own e).own
        ((kept plan TriedIs fits slots stood) own (sampling now own e).own sound refl refl refl refl refl refl)

    -- ---- S6F1

    dropped-quiet : (own : OwnView) → (Sound plan TriedIs fits slots stood) own
        → (Quiet plan TriedIs fits slots stood) (unreported_turn trace_name own)
    dropped-quiet own sound =
        (note-quiet plan TriedIs fits slots stood) own (Happening.Dropped trace_name) sound tt

    trace-sent-quiet : (body : List ℕ) → IsText body → (own : OwnView) → (Sound plan TriedIs fits slots stood) own
        → (Quiet plan TriedIs fits slots stood) (trace_sent_turn body own)
    trace-sent-quiet body is own sound =
        (fixed-quiet plan TriedIs fits slots stood) own (Primary (trace_data body) ∷ []) sound
        ((tt, may-trace body is), tt)

    inquired-sound : (body : List ℕ) → IsText body → (own : OwnView) (e : EndView Kind)
        → (Sound plan TriedIs fits slots stood) own
        → (Sound plan TriedIs fits slots stood) (data_inquiry_own body own e)
    inquired-sound body is own e sound = go (is_crowded_out true e) (next_number e.numbers)
      where
        go : (crowded : Bool) (next : Option ℕ)
            → (Sound plan TriedIs fits slots stood) (if crowded then own else with_data_inquiry next body own)
        go true next = sound
        go false None = sound
        go false (Some system) = record {
          plan_is = sound.plan_is;
          texts = sound.texts;
          traced =
              All-snoc (λ (one : GrantView). IsText one.body) own.tracing.for_grant
              (record { system = system; body = body }) sound.traced is;
          reports = sound.reports;
          ledger = sound.ledger;
          tried_is = sound.tried_is;
        }

    inquired-quiet :
        (asked : Text) → IsSpelled asked → (body : List ℕ) → IsText body → (own : OwnView) (e : EndView Kind)
        → (Sound plan TriedIs fits slots stood) own
        → (Quiet plan TriedIs fits slots stood) (data_inquiry_turn asked body own e)
    inquired-quiet (text.Body asked) may body is own e sound =
        (fixed-quiet plan TriedIs fits slots stood) (data_inquiry_own body own e) (Primary (trace_inquiry asked) ∷ [])
        (inquired-sound body is own e sound)
        ((tt, may-inquire asked may), tt)
    inquired-quiet text.TooLong may body is own e sound = (nothing-quiet plan TriedIs fits slots stood) own sound

    data-quiet : (body : List ℕ) → IsText body → (own : OwnView) (e : EndView Kind)
        → (Sound plan TriedIs fits slots stood) own
        → (Quiet plan TriedIs fits slots stood) (trace_data_turn body own e)
    data-quiet body is own e sound = go (nat_le (length body) 244)
      where
        go : (alone : Bool)
            → (Quiet plan TriedIs fits slots stood)
            (if alone then trace_sent_turn body own else trace_grant_turn body own e)
        go true = trace-sent-quiet body is own sound
        go false =
            inquired-quiet (sent.text_of own (sent.grant_item (dataid_in body) (length body)))
            ((text-is plan TriedIs fits slots stood) own sound (sent.grant_item (dataid_in body) (length body))) body is
            own e sound

    sampled-text-quiet : (asked : Text) → IsSpelled asked → (own : OwnView) (e : EndView Kind)
        → (Sound plan TriedIs fits slots stood) own
        → (Quiet plan TriedIs fits slots stood) (sampled_text_turn asked own e)
    sampled-text-quiet (text.Body body) is own e sound = go (is_communicating own)
      where
        go : (communicating : Bool)
            → (Quiet plan TriedIs fits slots stood)
            (if communicating then trace_data_turn body own e else unreported_turn trace_name own)
        go true = data-quiet body is own e sound
        go false = dropped-quiet own sound
    sampled-text-quiet text.TooLong is own e sound =
        (note-quiet plan TriedIs fits slots stood) own (Happening.TooLong trace_name) sound tt

    sampled-quiet : (item : Item) (own : OwnView) (e : EndView Kind) → (Sound plan TriedIs fits slots stood) own
        → (Quiet plan TriedIs fits slots stood) (sampled_turn item own e)
    sampled-quiet item own e sound = go (is_online own)
      where
        go : (online : Bool)
            → (Quiet plan TriedIs fits slots stood)
            (if online then sampled_text_turn (sent.text_of own item) own e else unreported_turn trace_name own)
        go true =
            sampled-text-quiet (sent.text_of own item) ((text-is plan TriedIs fits slots stood) own sound item) own e
            sound
        go false = dropped-quiet own sound

    pub made-quiet : (own : OwnView) (e : EndView Kind) → (Sound plan TriedIs fits slots stood) own
        → (Quiet plan TriedIs fits slots stood) (made_part own e)
    made-quiet own e sound = go own.tracing.made
      where
        go : (made : List Item) → (Quiet plan TriedIs fits slots stood) (first_turn made own e)
        go [] = (nothing-quiet plan TriedIs fits slots stood) own sound
        go (item ∷ items) =
            sampled-quiet item (with_made items own) e
            ((kept plan TriedIs fits slots stood) own (with_made items own) sound refl refl refl refl refl refl)

    -- ---- one that waits for S6F6

    pub waiting-trace-is : (own : OwnView) (system : ℕ) → (Sound plan TriedIs fits slots stood) own
        → IfSome (waiting_data system own) IsText
    waiting-trace-is own system sound = go (find (is_granted_by system) own.tracing.for_grant) refl
      where
        go : (found : Option GrantView) → find (is_granted_by system) own.tracing.for_grant ≡ found
            → IfSome (option_map (λ (one : GrantView). one.body) found) IsText
        go None is = tt
        go (Some one) is =
            All-find (is_granted_by system) (λ one. IsText one.body) own.tracing.for_grant one sound.traced is

    pub granted-trace-quiet : (waiting : Option (List ℕ)) → IfSome waiting IsText → (own : OwnView)
        → (Sound plan TriedIs fits slots stood) own
        → (Quiet plan TriedIs fits slots stood) (granted_trace_turn waiting own)
    granted-trace-quiet None is own sound = (nothing-quiet plan TriedIs fits slots stood) own sound
    granted-trace-quiet (Some body) is own sound = trace-sent-quiet body is own sound
