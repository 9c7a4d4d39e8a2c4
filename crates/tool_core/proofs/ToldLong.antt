-- A block made its message too long: where a number is left the host can be told.
use Rattle.std.proofs.Common.{◌≡◌, ◌-◌, ◌==◌, refl, sym, subst, arith, Bool, true, false, ℕ, List, [], ◌∷◌, Option, Some, None, if◌then◌else◌}
use Rattle.std.proofs.lemmas.Bool.Decides.{nat_tests}
use Rattle.std.specs.Prelude.{Result, Err}
use Rattle.block_codec.specs.declared.header.Header.{Header}
use Rattle.message_flow.specs.declared.step.StepOut.{StepOut}
use Rattle.trace_log.specs.Log.{Happening}
use Rattle.trace_log.specs.Text.{printed_note}
use Rattle.transact.specs.Numbers.{NumbersView, next_number}
use Rattle.message_end.specs.declared.end.Stop.{Stop}
use Rattle.message_end.specs.declared.end.Stop.TheVariants as stop
use Rattle.message_end.specs.Core.{and_then, carried, draws, is_crowded_out, noted, sends, unsent_name}
use Rattle.message_end.specs.Core.Command.{Note as NoteThis}
use Rattle.message_end.specs.Core.Went.{Goes, Spent}
use Rattle.message_end.specs.Duties.{all_done}
use Rattle.message_end.specs.Parts.{Takes, on_the_way, went_with}
use Rattle.equipment_tables.specs.declared.answers.Answer.{Answer}
use Rattle.equipment_tables.specs.declared.answers.Answer.TheVariants as answer
use Rattle.tool_step.specs.Own.{OwnView, ToolTurn, is_communicating, turn_of}
use Rattle.tool_step.specs.Sent.{error_duty, error_item, error_name, error_primary, has_room, primary_commands, text_of}
use Rattle.tool_step.specs.Step.{is_spent, long_turn}
use Rattle.tool_core.proofs.Turned.{ToolNode}

apart : (next end : ℕ) → (next == end) ≡ true → (end - next == 0) ≡ false → ⊥
apart next end same left = grind (arith, nat_tests, same, left)

-- a number is left then
number_left : (numbers : NumbersView) → (numbers.end - numbers.next == 0) ≡ false → next_number numbers ≡ None → ⊥
number_left numbers left = go (numbers.next == numbers.end) refl
  where
    go : (b : Bool) → (numbers.next == numbers.end) ≡ b → (if b then None else Some numbers.next) ≡ None → ⊥
    go true same none = apart numbers.next numbers.end same left
    go false same none = absurd (cc)

-- so an error that is told doesn't end the step
error_goes :
    (A : Type 0) (function : ℕ) (header : Header) (own : OwnView) (old new : ToolNode) (out out_new : StepOut)
    → is_spent old.core ≡ false
    → Takes {A = A} (turn_of own (error_duty function header own ∷ [])) old out new out_new (Err stop.NumbersSpent) → ⊥
error_goes A function header own old new out out_new left =
    go (is_communicating own) (has_room old.core) (text_of own (error_item header))
  where
    sent : (body : List ℕ) (crowded : Bool) (number : Option ℕ) → (number ≡ None → ⊥)
        → went_with own (and_then (and_then
        (if crowded then Goes (noted printed_note (Happening.Full (unsent_name (error_primary function body)))
        (on_the_way old.core out))
        else draws number (sends printed_note (error_primary function body)) (on_the_way old.core out))
        (carried printed_note [])) (all_done printed_note []))
        ≡ Spent (on_the_way new out_new) → ⊥
    sent body true number some is = absurd (cc)
    sent body false None some is = some refl
    sent body false (Some number) some is = absurd (cc)

    go : (communicating room : Bool) (text : Answer)
        → went_with own (and_then (carried printed_note
        (if communicating then
        (if room then primary_commands (error_primary function) text
        else NoteThis (Happening.Full (error_name function)) ∷ [])
        else []) (on_the_way old.core out)) (all_done printed_note []))
        ≡ Spent (on_the_way new out_new) → ⊥
    go false room text is = absurd (cc)
    go true false text is = absurd (cc)
    go true true (answer.Body body) is =
        sent body (is_crowded_out false old.core) (next_number old.core.numbers) (number_left old.core.numbers left) is
    go true true answer.TooLong is = absurd (cc)

-- where a number is left the host is told, and what is given up is given up
pub long_goes :
    {A : Type 0} (header : Header) (given : ToolTurn) (old new : ToolNode) (out out_new : StepOut)
    (result : Result A Stop)
    → is_spent old.core ≡ false
    → Takes (turn_of given.own (error_duty 11 header old.own ∷ given.duties)) old out new out_new result
    → Takes (long_turn (is_spent old.core) header old.own given) old out new out_new result
long_goes header given old new out out_new result left is =
    subst (λ (b : Bool). Takes (long_turn b header old.own given) old out new out_new result) (sym left) is

-- where the host couldn't be told, memory was wanting
pub long_stops :
    (A B : Type 0) (header : Header) (turn : ToolTurn) (old new : ToolNode) (out out_new : StepOut) (end : Stop)
    → is_spent old.core ≡ false
    → Takes {A = A} (turn_of old.own (error_duty 11 header old.own ∷ [])) old out new out_new (Err end)
    → Takes {A = B} turn old out new out_new (Err end)
long_stops A B header turn old new out out_new stop.NoMemory left is = tt
long_stops A B header turn old new out out_new stop.Full left is = absurd is
long_stops A B header turn old new out out_new stop.DiskFailed left is = absurd is
long_stops A B header turn old new out out_new stop.NumbersSpent left is =
    absurd (error_goes A 11 header old.own old new out out_new left is)

-- where none is left, that ends the step
pub long_spent :
    (A : Type 0) (header : Header) (given : ToolTurn) (old : ToolNode) (out : StepOut) → is_spent old.core ≡ true
    → Takes {A = A} (long_turn (is_spent old.core) header old.own given) old out old out (Err stop.NumbersSpent)
long_spent A header given old out none =
    subst
    (λ (b : Bool). Takes {A = A} (long_turn b header old.own given) old out old out (Err stop.NumbersSpent))
    (sym none) refl
