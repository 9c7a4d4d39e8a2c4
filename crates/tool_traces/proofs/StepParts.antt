-- The parts of a step, one after the other, and what each leaves of the tables.
use Rattle.std.proofs.Common.{◌≡◌, refl, ◌||◌, not, Bool, true, false, ℕ, zero, suc, List, [], ◌∷◌, ◌++◌, replicate, nat_le, length, Option, Some, None, if◌then◌else◌}
use Rattle.std.specs.Option.{option_map}
use Rattle.block_codec.specs.declared.header.Header.{Header}
use Rattle.gem_states.specs.declared.comms.CommsIn.{CommsIn}
use Rattle.gem_states.specs.declared.comms.CommsIn.TheVariants as comms_in
use Rattle.secs_items.specs.declared.item.Item.{Item}
use Rattle.trace_log.specs.Log.{Happening}
use Rattle.transact.specs.Numbers.{next_number}
use Rattle.transact.specs.Transactions.{primary_of as title_of_begun}
use Rattle.message_end.specs.Calls.{answered_by}
use Rattle.message_end.specs.Core.{EndView, Step, Went, is_crowded_out}
use Rattle.message_end.specs.Core.Went.{Goes, Spent}
use Rattle.message_end.specs.Duties.{all_done}
use Rattle.message_end.specs.Parts.{Node, after_parts, after_turn, core_step, went_with, with_own}
use Rattle.message_end.proofs.Parts.{OnEither, either-then}
use Rattle.tool_step.specs.declared.kind.Kind.{Kind}
use Rattle.tool_step.specs.declared.kind.Kind.TheVariants as kind
use Rattle.tool_step.specs.Own.{OwnView, ToolPart, ToolTurn, is_communicating, is_online, quiet_turn}
use Rattle.tool_step.specs.Replies.{given_up_by_t4, loss_turn, timeout_turn}
use Rattle.tool_step.specs.Reports.{unreported_turn}
use Rattle.tool_step.specs.Sampling.{first_turn, data_inquiry_turn, sampled_text_turn, trace_data_turn, trace_grant_turn, trace_name, trace_sent_turn, with_data_inquiry, with_made}
use Rattle.tool_step.specs.Sent as sent
use Rattle.tool_step.specs.Spooling.{dataid_in}
use Rattle.tool_step.specs.States as states
use Rattle.tool_step.specs.Step.{begun, beginning, failed_turn}
use Rattle.equipment_tables.specs.declared.answers.Answer.{Answer as Text}
use Rattle.equipment_tables.specs.declared.answers.Answer.TheVariants as answer
use Rattle.tool_law.proofs.CoreSteps.{CoreStep}

abbrev pub NodeStep : Type 0
NodeStep = Step (Node OwnView Kind) Happening

-- ---- tables that stay

leaving-tables : (input : CommsIn) (failed : Option Header) (now : ℕ) (own : OwnView) (e : EndView Kind)
    → (states.end_of_talk input failed now own e).own.tables ≡ own.tables
leaving-tables input failed now own e =
    go (states.is_same_comms own.comms.state (states.comms_outcome input now own).next.state)
  where
    go : (same : Bool)
        → (if same then quiet_turn own
        else states.parted_turn (states.comms_outcome input now own)
        (states.begins_spooling own.comms.state (states.comms_outcome input now own).next.state)
        (states.activity_of (states.comms_outcome input now own) own) failed own e).own.tables
        ≡ own.tables
    go true = refl
    go false = refl

loss-tables : (now : ℕ) (lost : Kind) (system : ℕ) (own : OwnView) (e : EndView Kind)
    → (loss_turn now lost system own e).own.tables ≡ own.tables
loss-tables now kind.Establish system own e = leaving-tables comms_in.Denied None now own e
loss-tables now kind.Attempt system own e = refl
loss-tables now kind.Grant system own e = refl
loss-tables now kind.Report system own e = refl
loss-tables now kind.Unload system own e = refl
loss-tables now kind.UnloadGrant system own e = refl
loss-tables now kind.Trace system own e = refl
loss-tables now kind.TraceGrant system own e = refl

pub timeout-tables : (now : ℕ) (found : Option (Header × Kind)) (own : OwnView) (e : EndView Kind)
    → (timeout_turn now found own e).own.tables ≡ own.tables
timeout-tables now None own e = refl
timeout-tables now (Some primary) own e = loss-tables now primary.1 primary.0.system own e

pub by-t4-tables : (now : ℕ) (found : Option Header) (own : OwnView) (e : EndView Kind)
    → (given_up_by_t4 now found own e).own.tables ≡ own.tables
by-t4-tables now None own e = refl
by-t4-tables now (Some header) own e =
    timeout-tables now (option_map title_of_begun (answered_by e header)) own _

pub failed-tables : (now : ℕ) (failed : Option Header) (own : OwnView) (e : EndView Kind)
    → (failed_turn now failed own e).own.tables ≡ own.tables
failed-tables now None own e = refl
failed-tables now (Some header) own e = leaving-tables comms_in.SendFailed (Some header) now own e

pub begin-tables : (now : ℕ) (own : OwnView) (e : EndView Kind) → (beginning now own e).own.tables ≡ own.tables
begin-tables now own e = go (own.has_begun || not own.plan.enable)
  where
    go : (over : Bool)
        → (if over then quiet_turn (begun own) else states.comms_turn comms_in.Enable now (begun own)).own.tables
        ≡ own.tables
    go true = refl
    go false = refl

inquired-tables : (asked : Text) (body : List ℕ) (own : OwnView) (e : EndView Kind)
    → (data_inquiry_turn asked body own e).own.tables ≡ own.tables
inquired-tables answer.TooLong body own e = refl
inquired-tables (answer.Body text) body own e = go (is_crowded_out true e) (next_number e.numbers)
  where
    go : (crowded : Bool) (next : Option ℕ)
        → (if crowded then own else with_data_inquiry next body own).tables ≡ own.tables
    go true next = refl
    go false None = refl
    go false (Some system) = refl

pub made-tables : (made : List Item) (own : OwnView) (e : EndView Kind)
    → (first_turn made own e).own.tables ≡ own.tables
made-tables [] own e = refl
made-tables (item ∷ items) own e = go (is_online own) (sent.text_of own item)
  where
    goes : (body : List ℕ) (alone : Bool)
        → (if alone then trace_sent_turn body (with_made items own)
        else trace_grant_turn body (with_made items own) e).own.tables
        ≡ own.tables
    goes body true = refl
    goes body false =
        inquired-tables
        (sent.text_of (with_made items own) (sent.grant_item (dataid_in body) (length body))) body
        (with_made items own) e

    by : (text : Text) → (sampled_text_turn text (with_made items own) e).own.tables ≡ own.tables
    by answer.TooLong = refl
    by (answer.Body body) = communicating (is_communicating own)
      where
        communicating : (is : Bool)
            → (if is then trace_data_turn body (with_made items own) e
            else unreported_turn trace_name (with_made items own)).own.tables
            ≡ own.tables
        communicating true = goes body (nat_le (length body) 244)
        communicating false = refl

    go : (online : Bool) (text : Text)
        → (if online then sampled_text_turn text (with_made items own) e
        else unreported_turn trace_name (with_made items own)).own.tables
        ≡ own.tables
    go true text = by text
    go false text = refl

-- ---- parts in their order

-- each of these keeps it, unless the numbers are spent
abbrev pub AllKeep : (P Q : NodeStep → Type 0) → List ToolPart → Type 0
AllKeep P Q [] = Unit {0}
AllKeep P Q (part ∷ parts) =
    ((step : NodeStep) → P step → OnEither P Q (after_turn Some (part step.next.own step.next.core) step))
    × AllKeep P Q parts

pub both-keep : (P Q : NodeStep → Type 0) (first second : List ToolPart) → AllKeep P Q first → AllKeep P Q second
    → AllKeep P Q (first ++ second)
both-keep P Q [] second one two = two
both-keep P Q (part ∷ first) second one two = (one.0, both-keep P Q first second one.1 two)

pub many-keep : (P Q : NodeStep → Type 0) (n : ℕ) (part : ToolPart)
    → ((step : NodeStep) → P step → OnEither P Q (after_turn Some (part step.next.own step.next.core) step))
    → AllKeep P Q (replicate n part)
many-keep P Q zero part one = tt
many-keep P Q (suc n) part one = (one, many-keep P Q n part one)

pub parts-then : (P Q R : NodeStep → Type 0) (parts rest : List ToolPart) → AllKeep P Q parts → (step : NodeStep)
    → P step → ((last : NodeStep) → P last → OnEither R Q (after_parts Some rest last))
    → OnEither R Q (after_parts Some (parts ++ rest) step)
parts-then P Q R [] rest all step so more = more step so
parts-then P Q R (part ∷ parts) rest all step so more =
    either-then P Q R (after_turn Some (part step.next.own step.next.core) step) (after_parts Some (parts ++ rest))
    (all.0 step so) (λ next at. parts-then P Q R parts rest all.1 next at more)

-- so many parts, each of which leaves one less to be done
pub counted-then :
    (P : ℕ → NodeStep → Type 0) (Q R : NodeStep → Type 0) (part : ToolPart) (rest : List ToolPart)
    → ((n : ℕ) (step : NodeStep) → P (suc n) step
    → OnEither (P n) Q (after_turn Some (part step.next.own step.next.core) step))
    → (n : ℕ) (step : NodeStep) → P n step
    → ((last : NodeStep) → P zero last → OnEither R Q (after_parts Some rest last))
    → OnEither R Q (after_parts Some (replicate n part ++ rest) step)
counted-then P Q R part rest one zero step so more = more step so
counted-then P Q R part rest one (suc n) step so more =
    either-then (P n) Q R (after_turn Some (part step.next.own step.next.core) step)
    (after_parts Some (replicate n part ++ rest)) (one n step so)
    (λ next at. counted-then P Q R part rest one n next at more)

-- what a turn does of the core, as one of the end
pub as-node : (turn : ToolTurn) (step : NodeStep) (P Q : NodeStep → Type 0) (C D : CoreStep → Type 0)
    → OnEither C D (all_done Some turn.duties (core_step step))
    → ((next : NodeStep) → next.next.own ≡ turn.own → C (core_step next) → P next)
    → ((next : NodeStep) → D (core_step next) → Q next) → OnEither P Q (after_turn Some turn step)
as-node turn step P Q C D is goes spent = go (all_done Some turn.duties (core_step step)) is
  where
    go : (went : Went (EndView Kind) Happening) → OnEither C D went → OnEither P Q (went_with turn.own went)
    go (Goes next) at = goes (with_own turn.own next) refl at
    go (Spent next) at = spent (with_own turn.own next) at
