-- How turns are taken one behind the other.
use Rattle.std.proofs.Common.{◌≡◌, refl, sym, ap, subst, ◌∙◌, arith, ◌<◌, ℕ, zero, suc, List, [], ◌∷◌, ◌++◌, replicate}
use Rattle.std.specs.Prelude.{Result, Err}
use Rattle.block_codec.specs.declared.header.Header.{Header}
use Rattle.message_flow.specs.declared.step.Note.{Note}
use Rattle.message_flow.specs.declared.step.StepOut.{StepOut}
use Rattle.trace_log.specs.Text.{printed_note}
use Rattle.message_end.specs.declared.end.Stop.{Stop}
use Rattle.message_end.specs.declared.end.Stop.TheVariants as stop
use Rattle.message_end.specs.Core.{Command, EndView, Step, Went, and_then, carried, carry}
use Rattle.message_end.specs.Core.Went.{Goes, Spent}
use Rattle.message_end.specs.Duties.{Duty, all_done}
use Rattle.message_end.specs.Parts.{ComesTo, Takes, TakesAll, after_parts, after_turn, core_after, fixed_turn, leads, next_of, on_the_way, went_with}
use Rattle.message_end.proofs.Carrying.{carried_append, done_append}
use Rattle.message_end.proofs.Parts.{leads-behind}
use Rattle.tool_step.specs.declared.kind.Kind.{Kind}
use Rattle.tool_step.specs.Own.{OwnView, ToolPart, ToolTurn, turn_of}
use Rattle.tool_step.specs.Replies.{told_turn}
use Rattle.tool_step.specs.Sent.{error_duty}
use Rattle.tool_core.proofs.Turned.{HasTaken, ToolNode, behind}

-- ---- turns

abbrev node : OwnView → EndView Kind → ToolNode
node own e = record { own = own; core = e }

-- commands that went on, and the others
pub commands_then :
    {A : Type 0} (own : OwnView) (first second : List (Command Kind)) (old middle new : ToolNode)
    (out out_middle out_new : StepOut) (result : Result A Stop)
    → carried printed_note first (on_the_way old.core out) ≡ Goes (on_the_way middle.core out_middle)
    → Takes (fixed_turn own second) middle out_middle new out_new result
    → Takes (fixed_turn own (first ++ second)) old out new out_new result
commands_then own first second old middle new out out_middle out_new result first_is is =
    subst (λ (w : Went (EndView Kind) Note). ComesTo (went_with own (and_then w (all_done printed_note [])))
    new out_new result)
    (sym (carried_append printed_note first second (on_the_way old.core out)
    ∙ ap (λ (w : Went (EndView Kind) Note). and_then w (carried printed_note second)) first_is))
    is

-- duties that end the step, and no others
pub duties_end :
    (A B : Type 0) (own : OwnView) (first second : List (Duty Kind)) (old new : ToolNode)
    (out out_new : StepOut) (end : Stop)
    → Takes {A = A} (record { own = own; duties = first }) old out new out_new (Err end)
    → Takes {A = B} (record { own = own; duties = first ++ second }) old out new out_new (Err end)
duties_end A B own first second old new out out_new stop.NoMemory is = tt
duties_end A B own first second old new out out_new stop.Full is = absurd is
duties_end A B own first second old new out out_new stop.DiskFailed is = absurd is
duties_end A B own first second old new out out_new stop.NumbersSpent is =
    ap (λ (w : Went (EndView Kind) Note). went_with own w)
    (done_append printed_note first second (on_the_way old.core out))
    ∙ go (all_done printed_note first (on_the_way old.core out)) is
  where
    go : (went : Went (EndView Kind) Note) → went_with own went ≡ Spent (on_the_way new out_new)
        → went_with own (and_then went (all_done printed_note second)) ≡ Spent (on_the_way new out_new)
    go (Goes step) other = absurd (cc)
    go (Spent step) same = same

-- what is kept behind a turn that was taken
pub turned :
    (turn : ToolTurn) (old new : ToolNode) (out out_new : StepOut)
    → HasTaken turn old out new out_new → turn.own ≡ new.own
turned turn old new out out_new is = go (all_done printed_note turn.duties (on_the_way old.core out)) is
  where
    go : (went : Went (EndView Kind) Note) → went_with turn.own went ≡ Goes (on_the_way new out_new)
        → turn.own ≡ new.own
    go (Goes step) same = ap (λ (w : Went ToolNode Note). (next_of w).own) same
    go (Spent step) other = absurd (cc)

-- an error that is told behind a turn that was taken
pub told_so :
    {A : Type 0} (header : Header) (turn : ToolTurn) (old middle new : ToolNode) (out out_middle out_new : StepOut)
    (result : Result A Stop)
    → HasTaken turn old out middle out_middle
    → Takes (turn_of middle.own (error_duty 9 header middle.own ∷ [])) middle out_middle new out_new result
    → Takes (told_turn header turn) old out new out_new result
told_so header turn old middle new out out_middle out_new result taken is =
    behind turn (turn_of turn.own (error_duty 9 header turn.own ∷ [])) old middle new out
    out_middle out_new result taken
    (subst
    (λ (own : OwnView). Takes (turn_of own (error_duty 9 header own ∷ [])) middle out_middle new out_new result)
    (sym (turned turn old middle out out_middle taken)) is)

-- a turn behind a command
pub leads_so :
    {A : Type 0} (own : OwnView) (lead : Command Kind) (turn : EndView Kind → ToolTurn) (old middle : EndView Kind)
    (out out_middle : StepOut) (new : ToolNode) (out_new : StepOut) (result : Result A Stop)
    → carry printed_note lead (on_the_way old out) ≡ Goes (on_the_way middle out_middle)
    → core_after lead old ≡ middle
    → Takes (turn middle) (node own middle) out_middle new out_new result
    → Takes (leads lead turn old) (node own old) out new out_new result
leads_so own lead turn old middle out out_middle new out_new result goes same is =
    subst (λ (w : Went ToolNode Note). ComesTo w new out_new result)
    (sym (leads-behind printed_note lead turn (on_the_way (node own old) out) (on_the_way middle out_middle) goes
    same))
    is

-- a part with nothing to do has nothing to do many times
pub many_still :
    (n : ℕ) (part : ToolPart) (step : Step ToolNode Note)
    → after_turn printed_note (part step.next.own step.next.core) step ≡ Goes step
    → after_parts printed_note (replicate n part) step ≡ Goes step
many_still zero part step still = refl
many_still (suc n) part step still =
    ap (λ (w : Went ToolNode Note). and_then w (after_parts printed_note (replicate n part))) still
    ∙ many_still n part step still

-- a part that ends the step, many times
pub many_stop :
    (A B : Type 0) (n most : ℕ) (part : ToolPart) (first middle new : ToolNode) (out out_middle out_new : StepOut)
    (end : Stop)
    → 0 < n
    → after_parts printed_note (replicate n part) (on_the_way middle out_middle)
    ≡ after_parts printed_note (replicate most part) (on_the_way first out)
    → Takes {A = A} (part middle.own middle.core) middle out_middle new out_new (Err end)
    → TakesAll {A = B} (replicate most part) first out new out_new (Err end)
many_stop A B n most part first middle new out out_middle out_new stop.NoMemory some same is = tt
many_stop A B n most part first middle new out out_middle out_new stop.Full some same is = absurd is
many_stop A B n most part first middle new out out_middle out_new stop.DiskFailed some same is = absurd is
many_stop A B n most part first middle new out out_middle out_new stop.NumbersSpent some same is =
    sym same ∙ go n some
  where
    go : (m : ℕ) → 0 < m
        → after_parts printed_note (replicate m part) (on_the_way middle out_middle) ≡ Spent (on_the_way new out_new)
    go zero none = absurd (omega arith)
    go (suc m) one = ap (λ (w : Went ToolNode Note). and_then w (after_parts printed_note (replicate m part))) is
