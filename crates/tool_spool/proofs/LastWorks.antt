-- What the last parts of a step leave of the works.
use Rattle.std.proofs.Common.{◌≡◌, refl, sym, ap, ◌∙◌, ◌+◌, ◌&&◌, nat_lt, Bool, true, false, ℕ, List, [], ◌∷◌, ◌++◌, length, Option, Some, None, if◌then◌else◌}
use Rattle.std.specs.List.{find}
use Rattle.block_codec.specs.Block.{BlockView}
use Rattle.block_codec.specs.declared.header.Header.{Header}
use Rattle.gem_states.specs.declared.comms.CommsIn.TheVariants as comms_in
use Rattle.gem_states.specs.declared.comms.CommsState.{CommsState}
use Rattle.gem_states.specs.declared.comms.CommsState.TheVariants as comms_state
use Rattle.gem_states.specs.Comms.{CommsOutcome, CommsView, comms_row}
use Rattle.message_flow.specs.declared.flow.Flow.TheVariants as flow
use Rattle.message_flow.specs.declared.message.Message.{Message}
use Rattle.message_flow.specs.Assembly as assembly
use Rattle.message_flow.specs.Key.{is_given}
use Rattle.message_flow.specs.Receiver.{address_of, is_foreign}
use Rattle.message_flow.specs.Assembly.{AssemblyView, flow_behind, flow_to, header_so_far, message_of, whole_with}
use Rattle.secs_items.specs.Checking.{Checking, check_of}
use Rattle.trace_log.specs.Log.{Happening}
use Rattle.trace_log.specs.Names.{Spooled}
use Rattle.transact.specs.Numbers.{next_number}
use Rattle.message_end.specs.Core.{EndView, Step, Went, and_then, carried, carry, draws, is_crowded_out, noted, sends, unsent_name}
use Rattle.message_end.specs.Core.Command.{Draw, Note, Primary}
use Rattle.message_end.specs.Core.Went.{Goes, Spent}
use Rattle.message_end.specs.Parts.{leads}
use Rattle.spool_ledger.specs.Activity.{changed, is_done}
use Rattle.spool_ledger.specs.Ledger.{quiet}
use Rattle.spool_ledger.specs.Unloading.{after_next, next_number as next_unloaded}
use Rattle.gem_spool.specs.declared.works.Work.{Work}
use Rattle.equipment_tables.specs.declared.answers.Answer.{Answer as Text}
use Rattle.equipment_tables.specs.declared.answers.Answer.TheVariants as answer
use Rattle.equipment_tables.specs.Tables.{delay_of, most_transmitted}
use Rattle.tool_step.specs.declared.kind.Kind.{Kind}
use Rattle.tool_step.specs.declared.kind.Kind.TheVariants as kind
use Rattle.tool_step.specs.declared.owed.Owed.{Owed}
use Rattle.tool_step.specs.declared.owed.Owed.TheVariants.{Answered, Keep, Recipes}
use Rattle.tool_step.specs.Own.{OwnView, ToolTurn, is_communicating, is_communicating_in, quiet_turn, unowed, with_ledger}
use Rattle.tool_step.specs.Step.{answering, owed_turn}
use Rattle.tool_step.specs.Replies.{loss_turn, timeout_turn}
use Rattle.tool_step.specs.Sent as sent
use Rattle.tool_step.specs.Spooling.{dataid_in, end_of_spooling, inquiry_turn, needs_grant, sent_turn, stopped_turn, taking_turn, tried_turn, unload_part, unloaded_own, unloading_turn}
use Rattle.tool_step.specs.States as states
use Rattle.message_end.proofs.Parts.{OnEither}
use Rattle.tool_law.proofs.CoreSteps.{CoreStep}
use Rattle.tool_spool.proofs.UnloadOpen.{HasHeader}

-- ---- steps in their course

pub both-either :
    {S N : Type 0} (P Q R T : Step S N → Type 0) (went : Went S N) → OnEither P R went → OnEither Q T went
    → OnEither (λ s. P s × Q s) (λ s. R s × T s) went
both-either P Q R T (Goes step) one two = (one, two)
both-either P Q R T (Spent step) one two = (one, two)

-- ---- what a block is

pub whole-header :
    (a : AssemblyView) (block : BlockView) (message : Message) (check : Checking)
    → flow_to a block ≡ flow.Whole message check → HasHeader block.header message
whole-header a block message check is =
    given (is_given a.last block.header) (is_foreign a.receiver block.header) is
  where
    inj : (x y : Message) (c d : Checking) → flow.Whole x c ≡ flow.Whole y d → x ≡ y
    inj x y c d e = cc

    behind : (next long last crowded : Bool) (body : List ℕ)
        → (if next then
        (if long then flow.TooLong
        else if last then whole_with (message_of block.header body)
        else if crowded then flow.Crowded
        else flow.Part)
        else flow.Unexpected)
        ≡ flow.Whole message check → HasHeader block.header message
    behind false long last crowded body e = absurd (cc)
    behind true true last crowded body e = absurd (cc)
    behind true false true crowded body e =
        let same = sym (inj (message_of block.header body) message (check_of body) check e) in
        record {
          system = ap (λ (m : Message). m.system) same;
          stream = ap (λ (m : Message). m.stream) same;
          function = ap (λ (m : Message). m.function) same;
          wait = ap (λ (m : Message). m.wait) same;
        }
    behind true false false true body e = absurd (cc)
    behind true false false false body e = absurd (cc)

    given : (given foreign : Bool)
        → (if given then flow.Duplicate
        else if foreign then flow.Foreign (address_of block.header)
        else flow_behind a.receiver (header_so_far (find (assembly.has_key block.header) a.partials))
        (assembly.body_so_far (find (assembly.has_key block.header) a.partials)) (length a.partials) block)
        ≡ flow.Whole message check → HasHeader block.header message
    given true foreign e = absurd (cc)
    given false true e = absurd (cc)
    given false false e =
        behind
        (assembly.is_next (header_so_far (find (assembly.has_key block.header) a.partials)) block.header)
        (nat_lt a.receiver.max_body
        (length (assembly.body_so_far (find (assembly.has_key block.header) a.partials)) + length block.body))
        block.header.last
        (assembly.is_crowded (header_so_far (find (assembly.has_key block.header) a.partials)) (length a.partials))
        (assembly.body_so_far (find (assembly.has_key block.header) a.partials) ++ block.body) e

-- an error about a block leaves the transactions as they are
pub error-stays :
    (function : ℕ) (header : Header) (own : OwnView) (step : CoreStep)
    → OnEither (λ (next : CoreStep). next.next.transactions.begun ≡ step.next.transactions.begun)
    (λ (next : CoreStep). Unit {0}) (carried Some (sent.error_duty function header own step.next) step)
error-stays function header own step = go (is_communicating own) (sent.has_room step.next)
  where
    Stays : Went (EndView Kind) Happening → Type 0
    Stays went =
        OnEither (λ (next : CoreStep). next.next.transactions.begun ≡ step.next.transactions.begun)
        (λ (next : CoreStep). Unit {0}) went

    one : (went : Went (EndView Kind) Happening) → Stays went → Stays (and_then went (carried Some []))
    one (Goes next) is = is
    one (Spent next) is = is

    draw : (number : Option ℕ) (body : List ℕ)
        → Stays (draws number (sends Some (sent.error_primary function body)) step)
    draw None body = tt
    draw (Some number) body = refl

    crowded : (body : List ℕ) (is : Bool)
        → Stays
        (if is then Goes (noted Some (Happening.Full (unsent_name (sent.error_primary function body))) step)
        else draws (next_number step.next.numbers) (sends Some (sent.error_primary function body)) step)
    crowded body true = refl
    crowded body false = draw (next_number step.next.numbers) body

    by_text : (text : Text) → Stays (carried Some (sent.primary_commands (sent.error_primary function) text) step)
    by_text (answer.Body body) =
        one (carry Some (Primary (sent.error_primary function body)) step)
        (crowded body (is_crowded_out false step.next))
    by_text answer.TooLong = refl

    go : (communicating room : Bool)
        → Stays
        (carried Some
        (if communicating then
        (if room then sent.primary_commands (sent.error_primary function) (sent.text_of own (sent.error_item header))
        else Note (Happening.Full (sent.error_name function)) ∷ []) else []) step)
    go true true = by_text (sent.text_of own (sent.error_item header))
    go true false = refl
    go false room = refl

-- ---- while the communication stands no reply that is missed puts anything

same-state : (comms : CommsState) → is_communicating_in comms ≡ true → states.is_same_comms comms comms ≡ true
same-state comms_state.Disabled is = absurd (cc)
same-state comms_state.WaitCra is = absurd (cc)
same-state comms_state.WaitDelay is = absurd (cc)
same-state comms_state.Communicating is = refl

denied-stays :
    (state : CommsState) (comms : CommsView) (delay now : ℕ) → is_communicating_in state ≡ true
    → (comms_row state comms_in.Denied comms delay now).next.state ≡ comms.state
denied-stays comms_state.Disabled comms delay now is = absurd (cc)
denied-stays comms_state.WaitCra comms delay now is = absurd (cc)
denied-stays comms_state.WaitDelay comms delay now is = absurd (cc)
denied-stays comms_state.Communicating comms delay now is = refl

loss-owes :
    (now : ℕ) (lost : Kind) (system : ℕ) (own : OwnView) (e : EndView Kind) → is_communicating own ≡ true
    → ((loss_turn now lost system own e).own.ledger.stood ≡ own.ledger.stood)
    × ((loss_turn now lost system own e).own.ledger.works ≡ own.ledger.works)
loss-owes now kind.Establish system own e is =
    go (states.is_same_comms own.comms.state outcome.next.state)
    (ap (λ (state : CommsState). states.is_same_comms own.comms.state state)
    (denied-stays own.comms.state own.comms (delay_of own.tables) now is)
    ∙ same-state own.comms.state is)
  where
    outcome : CommsOutcome
    outcome = states.comms_outcome comms_in.Denied now own

    parted : ToolTurn
    parted =
        states.parted_turn outcome (states.begins_spooling own.comms.state outcome.next.state)
        (states.activity_of outcome own) None own e

    go : (same : Bool) → same ≡ true
        → ((if same then quiet_turn own else parted).own.ledger.stood ≡ own.ledger.stood)
        × ((if same then quiet_turn own else parted).own.ledger.works ≡ own.ledger.works)
    go true same = (refl, refl)
    go false same = absurd (cc)
loss-owes now kind.Attempt system own e is = (refl, refl)
loss-owes now kind.Grant system own e is = (refl, refl)
loss-owes now kind.Report system own e is = (refl, refl)
loss-owes now kind.Unload system own e is = (refl, refl)
loss-owes now kind.UnloadGrant system own e is = (refl, refl)
loss-owes now kind.Trace system own e is = (refl, refl)
loss-owes now kind.TraceGrant system own e is = (refl, refl)

pub timeout-owes :
    (now : ℕ) (primary : Option (Header × Kind)) (own : OwnView) (e : EndView Kind) → is_communicating own ≡ true
    → ((timeout_turn now primary own e).own.ledger.stood ≡ own.ledger.stood)
    × ((timeout_turn now primary own e).own.ledger.works ≡ own.ledger.works)
timeout-owes now None own e is = (refl, refl)
timeout-owes now (Some primary) own e is = loss-owes now primary.1 primary.0.system own e is

-- ---- what the last parts leave of the works

abbrev pub works_of : ToolTurn → List Work
works_of turn = turn.own.ledger.works

pub answering-works : (own : OwnView) (e : EndView Kind) → works_of (answering own e) ≡ own.ledger.works
answering-works own e = go own.owed
  where
    go : (owed : Option Owed) → works_of (owed_turn owed (unowed own)) ≡ own.ledger.works
    go None = refl
    go (Some (Keep primary)) = refl
    go (Some (Recipes asked primary)) = refl
    go (Some (Answered given primary)) = refl

ended-works : (crowded : Bool) (own : OwnView)
    → (if crowded then unloaded_own own else own).ledger.works ≡ own.ledger.works
ended-works true own = refl
ended-works false own = refl

pub unload-works : (oldest : Option Spooled) (own : OwnView) (e : EndView Kind)
    → works_of (unload_part oldest own e) ≡ own.ledger.works
unload-works oldest own e = go (next_unloaded (most_transmitted own.tables) own.ledger) oldest
  where
    on : OwnView
    on = with_ledger (after_next (most_transmitted own.tables) own.ledger) own

    leaves : (text : Text) (own : OwnView) (e : EndView Kind) → works_of (inquiry_turn text own e) ≡ own.ledger.works
    leaves (answer.Body text) own e = ended-works (is_crowded_out true e) own
    leaves answer.TooLong own e = refl

    sends-it : (message : Spooled) (own : OwnView) (e : EndView Kind)
        → works_of (sent_turn message own e) ≡ own.ledger.works
    sends-it message own e = by (needs_grant message)
      where
        by : (needs : Bool)
            → works_of
            (if needs
            then inquiry_turn (sent.text_of own (sent.grant_item (dataid_in message.body) (length message.body))) own e
            else unloading_turn message own e)
            ≡ own.ledger.works
        by true = leaves (sent.text_of own (sent.grant_item (dataid_in message.body) (length message.body))) own e
        by false = ended-works (is_crowded_out true e) own

    tries : (drawn : Option ℕ) (number : ℕ) (message : Spooled) (e : EndView Kind)
        → works_of (tried_turn drawn number message on e) ≡ own.ledger.works
    tries None number message e = refl
    tries (Some system) number message e = sends-it message _ e

    go : (number : Option ℕ) (oldest : Option Spooled) → works_of (taking_turn number oldest on e) ≡ own.ledger.works
    go None oldest = refl
    go (Some number) None = refl
    go (Some number) (Some message) = stop on.tried
      where
        stop : (tried : Option ℕ)
            → works_of
            (stopped_turn tried
            (λ later. leads Draw (tried_turn (next_number later.numbers) number message on) later) e)
            ≡ own.ledger.works
        stop None = tries (next_number e.numbers) number message _
        stop (Some system) = tries (next_number e.numbers) number message _

pub rested-works : (own : OwnView) (e : EndView Kind) → works_of (end_of_spooling own e) ≡ own.ledger.works
rested-works own e = go (is_communicating own && own.ledger.is_active && is_done own.ledger)
  where
    go : (ends : Bool) → (if ends then changed false own.ledger else quiet own.ledger).next.works ≡ own.ledger.works
    go true = refl
    go false = refl
