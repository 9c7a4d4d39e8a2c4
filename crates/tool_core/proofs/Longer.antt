-- A block made its message too long: that the error is told first changes nothing of what is given up.
use Rattle.std.proofs.Common.{◌≡◌, refl, sym, ap, subst, ◌∙◌, Bool, true, false, ℕ, List, [], ◌∷◌, Option, Some, None, if◌then◌else◌}
use Rattle.std.specs.Prelude.{Result}
use Rattle.std.specs.List.{find}
use Rattle.std.specs.Option.{option_map}
use Rattle.block_codec.specs.declared.header.Header.{Header}
use Rattle.message_flow.specs.declared.step.Note.{Note as Line}
use Rattle.message_flow.specs.declared.step.StepOut.{StepOut}
use Rattle.trace_log.specs.Log.{Happening}
use Rattle.trace_log.specs.Text.{printed_note}
use Rattle.transact.specs.declared.begun.Begun.{Begun}
use Rattle.transact.specs.Numbers.{next_number}
use Rattle.transact.specs.Transactions.{TransactionsView, is_answered_by, primary_of, without_first}
use Rattle.message_end.specs.declared.end.Stop.{Stop}
use Rattle.message_end.specs.declared.unsent.Unsent.{Unsent}
use Rattle.message_end.specs.Calls.{answered_by}
use Rattle.message_end.specs.Core.{EndView, Step, Went, and_then, at_first, carried, draws, is_crowded_out, noted, sends, times_out, unsent_name, with_transactions}
use Rattle.message_end.specs.Core.Command.{GiveUp, Note, Primary}
use Rattle.message_end.specs.Core.Went.{Goes, Spent}
use Rattle.message_end.specs.Duties.{all_done}
use Rattle.message_end.specs.Parts.{Takes, core_after, led_turn, next_of, on_the_way, went_with}
use Rattle.equipment_tables.specs.declared.answers.Answer.{Answer}
use Rattle.equipment_tables.specs.declared.answers.Answer.TheVariants as answer
use Rattle.tool_step.specs.declared.kind.Kind.{Kind}
use Rattle.tool_step.specs.declared.kind.Kind.TheVariants as kind
use Rattle.tool_step.specs.Own.{OwnView, ToolCommands, ToolTurn, is_communicating, turn_of}
use Rattle.tool_step.specs.Replies.{given_up_turn, timeout_turn}
use Rattle.tool_step.specs.Sent.{error_duty, error_item, error_name, error_primary, has_room, primary_commands, text_of}
use Rattle.tool_core.proofs.Taking.{turned}
use Rattle.tool_core.proofs.Turned.{HasTaken, ToolNode, behind}

-- ---- what is given up goes by the transactions

timed_same :
    (now : ℕ) (primary : Option (Header × Kind)) (own : OwnView) (one other : EndView Kind)
    → one.transactions ≡ other.transactions → timeout_turn now primary own one ≡ timeout_turn now primary own other
timed_same now None own one other same = refl
timed_same now (Some (header, kind.Establish)) own one other same =
    ap (λ (t : TransactionsView Kind). timeout_turn now (Some (header, kind.Establish)) own
    (with_transactions t one)) same
timed_same now (Some (header, kind.Attempt)) own one other same = refl
timed_same now (Some (header, kind.Grant)) own one other same = refl
timed_same now (Some (header, kind.Report)) own one other same = refl
timed_same now (Some (header, kind.Unload)) own one other same = refl
timed_same now (Some (header, kind.UnloadGrant)) own one other same = refl
timed_same now (Some (header, kind.Trace)) own one other same = refl
timed_same now (Some (header, kind.TraceGrant)) own one other same = refl

behind_same :
    (header : Header) (one other : EndView Kind) → one.transactions ≡ other.transactions
    → (core_after (GiveUp header) one).transactions ≡ (core_after (GiveUp header) other).transactions
behind_same header one other same =
    ap
    (λ (t : TransactionsView Kind).
    (times_out Some (is_answered_by header) (find (is_answered_by header) t.begun) (at_first one)).next.transactions)
    same
    ∙ go (find (is_answered_by header) other.transactions.begun)
  where
    go : (begun : Option (Begun Kind))
        → (times_out Some (is_answered_by header) begun (at_first one)).next.transactions
        ≡ (times_out Some (is_answered_by header) begun (at_first other)).next.transactions
    go None = same
    go (Some begun) = ap (λ (t : TransactionsView Kind). without_first (is_answered_by header) t) same

pub given_up_same :
    (now : ℕ) (header : Header) (own : OwnView) (one other : EndView Kind) → one.transactions ≡ other.transactions
    → given_up_turn now header own one ≡ given_up_turn now header own other
given_up_same now header own one other same =
    ap
    (λ (t : TransactionsView Kind). led_turn (GiveUp header)
    (timeout_turn now (option_map primary_of (find (is_answered_by header) t.begun)) own
    (core_after (GiveUp header) one)))
    same
    ∙ ap (λ (turn : ToolTurn). led_turn (GiveUp header) turn)
    (timed_same now (option_map primary_of (answered_by other header)) own (core_after (GiveUp header) one)
    (core_after (GiveUp header) other) (behind_same header one other same))

-- ---- an error that is told begins no transaction

sent_still :
    (function : ℕ) (body : List ℕ) (step : Step (EndView Kind) Line)
    → (next_of (carried printed_note (Primary (error_primary function body) ∷ []) step)).transactions
    ≡ step.next.transactions
sent_still function body step = go (is_crowded_out false step.next) (next_number step.next.numbers)
  where
    unsent : Unsent Kind
    unsent = error_primary function body

    go : (crowded : Bool) (number : Option ℕ)
        → (next_of (and_then
        (if crowded then Goes (noted printed_note (Happening.Full (unsent_name unsent)) step)
        else draws number (sends printed_note unsent) step) (carried printed_note []))).transactions
        ≡ step.next.transactions
    go true number = refl
    go false None = refl
    go false (Some number) = refl

told_still :
    (function : ℕ) (header : Header) (own : OwnView) (step : Step (EndView Kind) Line)
    → (next_of (all_done printed_note (error_duty function header own ∷ []) step)).transactions
    ≡ step.next.transactions
told_still function header own step =
    go (is_communicating own) (has_room step.next) (text_of own (error_item header))
  where
    ends : (commands : ToolCommands)
        → (next_of (carried printed_note commands step)).transactions ≡ step.next.transactions
        → (next_of (and_then (carried printed_note commands step) (all_done printed_note []))).transactions
        ≡ step.next.transactions
    ends commands still = at (carried printed_note commands step) still
      where
        at : (went : Went (EndView Kind) Line) → (next_of went).transactions ≡ step.next.transactions
            → (next_of (and_then went (all_done printed_note []))).transactions ≡ step.next.transactions
        at (Goes next) is = is
        at (Spent next) is = is

    go : (communicating room : Bool) (text : Answer)
        → (next_of (and_then
        (carried printed_note
        (if communicating then
        (if room then primary_commands (error_primary function) text
        else Note (Happening.Full (error_name function)) ∷ [])
        else []) step)
        (all_done printed_note []))).transactions
        ≡ step.next.transactions
    go false room text = refl
    go true false text = refl
    go true true (answer.Body body) =
        ends (Primary (error_primary function body) ∷ []) (sent_still function body step)
    go true true answer.TooLong = refl

core_next :
    (own : OwnView) (went : Went (EndView Kind) Line) → (next_of (went_with own went)).core ≡ next_of went
core_next own (Goes step) = refl
core_next own (Spent step) = refl

-- the error is told, and what is given up then is what is given up now
pub given_up_behind :
    (A : Type 0) (now function : ℕ) (header : Header) (old middle new : ToolNode) (out out_middle out_new : StepOut)
    (result : Result A Stop)
    → HasTaken (turn_of old.own (error_duty function header old.own ∷ [])) old out middle out_middle
    → Takes (given_up_turn now header middle.own middle.core) middle out_middle new out_new result
    → Takes
    (turn_of (given_up_turn now header old.own old.core).own
    (error_duty function header old.own ∷ (given_up_turn now header old.own old.core).duties))
    old out new out_new result
given_up_behind A now function header old middle new out out_middle out_new result taken is =
    let first : ToolTurn = turn_of old.own (error_duty function header old.own ∷ []) in
    let still : middle.core.transactions ≡ old.core.transactions =
    sym (ap (λ (w : Went ToolNode Line). (next_of w).core.transactions) taken)
    ∙ ap (λ (e : EndView Kind). e.transactions)
    (core_next old.own (all_done printed_note (error_duty function header old.own ∷ []) (on_the_way old.core out)))
    ∙ told_still function header old.own (on_the_way old.core out) in
    behind first (given_up_turn now header old.own old.core) old middle new out out_middle out_new result taken
    (subst (λ (turn : ToolTurn). Takes turn middle out_middle new out_new result)
    (ap (λ (own : OwnView). given_up_turn now header own middle.core)
    (sym (turned first old middle out out_middle taken))
    ∙ given_up_same now header old.own middle.core old.core still)
    is)
