-- That what comes behind the works of a step leaves the spool as the disk has it.
use Rattle.std.proofs.Common.{◌≡◌, refl, ◌∙◌, ◌&&◌, Bool, true, false, ℕ, List, [], ◌∷◌, length, Option, Some, None, if◌then◌else◌}
use Rattle.std.specs.Option.{option_map}
use Rattle.trace_log.specs.Log.{Happening}
use Rattle.trace_log.specs.Names.{Spooled}
use Rattle.transact.specs.Numbers.{next_number}
use Rattle.message_end.specs.Core.{EndView, Step, Went, and_then, is_crowded_out, step_in}
use Rattle.message_end.specs.Core.Command.{Draw, Remove}
use Rattle.message_end.specs.Core.Went.{Goes, Spent}
use Rattle.message_end.specs.Duties.{all_done}
use Rattle.message_end.specs.Parts.{Node, after_parts, core_after, core_step, went_with, with_own, leads}
use Rattle.equipment_tables.specs.declared.answers.Answer.{Answer}
use Rattle.equipment_tables.specs.declared.answers.Answer.TheVariants as answer
use Rattle.equipment_tables.specs.Tables.{most_transmitted}
use Rattle.spool_ledger.specs.Activity.{changed, is_done}
use Rattle.spool_ledger.specs.Ledger.{LedgerView, quiet}
use Rattle.spool_ledger.specs.Unloading.{after_next, next_number as spool_next_number, taken_up, trying, unload_next, with_unload}
use Rattle.spool_ledger.specs.declared.unload.Unload.{Unload}
use Rattle.tool_step.specs.declared.kind.Kind.{Kind}
use Rattle.tool_step.specs.Own.{OwnView, ToolPart, ToolTurn, is_communicating, unowed, with_ledger, with_tried}
use Rattle.tool_step.specs.declared.owed.Owed.{Owed}
use Rattle.tool_step.specs.declared.owed.Owed.TheVariants.{Answered, Keep, Recipes}
use Rattle.tool_step.specs.Sent.{grant_item, text_of}
use Rattle.tool_step.specs.Spooling.{dataid_in, end_of_spooling, inquiry_turn, needs_grant, sent_turn, taking_turn, tried_turn, unload_part, unloaded_own, unloading_turn, waiting_text, stopped_turn}
use Rattle.tool_step.specs.Step.{answering, last_parts, owed_turn}

-- ---- what comes behind them

-- the list stays, and what is owed
pub record HasRested (old new : LedgerView) : Type 0 where
  pub slots : new.slots ≡ old.slots
  pub stood : new.stood ≡ old.stood
  pub first : new.first ≡ old.first
  pub sizes : new.sizes ≡ old.sizes
  pub works : new.works ≡ old.works

rested-then : (a b c : LedgerView) → HasRested a b → HasRested b c → HasRested a c
rested-then a b c first second = record {
  slots = second.slots ∙ first.slots;
  stood = second.stood ∙ first.stood;
  first = second.first ∙ first.first;
  sizes = second.sizes ∙ first.sizes;
  works = second.works ∙ first.works;
}

same-rests : (v : LedgerView) → HasRested v v
same-rests v = record { slots = refl; stood = refl; first = refl; sizes = refl; works = refl }

unload-rests : (unload : Option Unload) (v : LedgerView) → HasRested v (with_unload unload v)
unload-rests unload v = record { slots = refl; stood = refl; first = refl; sizes = refl; works = refl }

crowded-rests : (crowded : Bool) (own : OwnView)
    → HasRested own.ledger (if crowded then unloaded_own own else own).ledger
crowded-rests true own = unload-rests None own.ledger
crowded-rests false own = same-rests own.ledger

leave-rests : (text : Answer) (own : OwnView) (e : EndView Kind)
    → HasRested own.ledger (inquiry_turn text own e).own.ledger
leave-rests (answer.Body text) own e = crowded-rests (is_crowded_out true e) own
leave-rests answer.TooLong own e = unload-rests None own.ledger

sent-rests : (message : Spooled) (own : OwnView) (e : EndView Kind)
    → HasRested own.ledger (sent_turn message own e).own.ledger
sent-rests message own e = go (needs_grant message)
  where
    go : (needs : Bool)
        → HasRested own.ledger
        (if needs then inquiry_turn (text_of own (grant_item (dataid_in message.body) (length message.body))) own e
        else unloading_turn message own e).own.ledger
    go true = leave-rests (text_of own (grant_item (dataid_in message.body) (length message.body))) own e
    go false = crowded-rests (is_crowded_out true e) own

taking-rests : (number : Option ℕ) (oldest : Option Spooled) (own : OwnView) (e : EndView Kind)
    → HasRested own.ledger (taking_turn number oldest own e).own.ledger
taking-rests None oldest own e = same-rests own.ledger
taking-rests (Some number) None own e = same-rests own.ledger
taking-rests (Some number) (Some message) own e = go own.tried
  where
    tries : (system : Option ℕ) (after : EndView Kind)
        → HasRested own.ledger (tried_turn system number message own after).own.ledger
    tries None after = same-rests own.ledger
    tries (Some system) after =
        let booked = taken_up number system (waiting_text message) own.ledger in
        rested-then own.ledger booked.next _
        (unload-rests (option_map (trying number (waiting_text message)) own.ledger.unload) own.ledger)
        (sent-rests message (with_tried system (with_ledger booked.next own)) after)

    go : (last : Option ℕ)
        → HasRested own.ledger
        (stopped_turn last (λ later. leads Draw (tried_turn (next_number later.numbers) number message own) later)
        e).own.ledger
    go None = tries (next_number e.numbers) (core_after Draw e)
    go (Some last) =
        tries (next_number (core_after (Remove true last) e).numbers)
        (core_after Draw (core_after (Remove true last) e))

unload-part-rests : (oldest : Option Spooled) (own : OwnView) (e : EndView Kind)
    → HasRested own.ledger (unload_part oldest own e).own.ledger
unload-part-rests oldest own e =
    let most = most_transmitted own.tables in
    let next = after_next most own.ledger in
    rested-then own.ledger next _
    (unload-rests (unload_next most own.ledger own.ledger.unload) own.ledger)
    (taking-rests (spool_next_number most own.ledger) oldest (with_ledger next own) e)

ending-rests : (own : OwnView) (e : EndView Kind) → HasRested own.ledger (end_of_spooling own e).own.ledger
ending-rests own e = go (is_communicating own && own.ledger.is_active && is_done own.ledger)
  where
    go : (ends : Bool) → HasRested own.ledger (if ends then changed false own.ledger else quiet own.ledger).next
    go true = record { slots = refl; stood = refl; first = refl; sizes = refl; works = refl }
    go false = same-rests own.ledger

abbrev AllRest : List ToolPart → Type 0
AllRest [] = Unit {0}
AllRest (part ∷ parts) =
    ((own : OwnView) (e : EndView Kind) → HasRested own.ledger (part own e).own.ledger) × AllRest parts

parts-rest : (parts : List ToolPart) → AllRest parts → (step : Step (Node OwnView Kind) Happening)
    → HasRested step.next.own.ledger (step_in (after_parts Some parts step)).next.own.ledger
parts-rest [] all step = same-rests step.next.own.ledger
parts-rest (part ∷ parts) all step =
    go (all_done Some turn.duties (core_step step)) (λ next. parts-rest parts all.1 next)
  where
    turn : ToolTurn
    turn = part step.next.own step.next.core

    first : HasRested step.next.own.ledger turn.own.ledger
    first = all.0 step.next.own step.next.core

    go : (went : Went (EndView Kind) Happening)
        → ((next : Step (Node OwnView Kind) Happening)
        → HasRested next.next.own.ledger (step_in (after_parts Some parts next)).next.own.ledger)
        → HasRested step.next.own.ledger
        (step_in (and_then (went_with turn.own went) (after_parts Some parts))).next.own.ledger
    go (Goes next) more =
        rested-then step.next.own.ledger turn.own.ledger _ first (more (with_own turn.own next))
    go (Spent next) more = first

answering-rests : (own : OwnView) (e : EndView Kind) → HasRested own.ledger (answering own e).own.ledger
answering-rests own e = go own.owed
  where
    go : (owed : Option Owed) → HasRested own.ledger (owed_turn owed (unowed own)).own.ledger
    go None = same-rests own.ledger
    go (Some (Keep primary)) = same-rests own.ledger
    go (Some (Recipes asked primary)) = same-rests own.ledger
    go (Some (Answered given primary)) = same-rests own.ledger

pub last-rested :
    (oldest : Option Spooled) (now : ℕ) (step : Step (Node OwnView Kind) Happening)
    → HasRested step.next.own.ledger (step_in (after_parts Some (last_parts oldest now) step)).next.own.ledger
last-rested oldest now step =
    parts-rest (last_parts oldest now) (
      answering-rests,
      (
        unload-part-rests oldest,
        (ending-rests, ((λ own e. same-rests own.ledger), ((λ own e. same-rests own.ledger), tt))),
      ),
    ) step
