-- How the parts of a step follow one another, and lines a turn.
use Rattle.std.proofs.Common.{◌≡◌, refl, sym, ap, subst, ◌∙◌, ℕ, List, [], ◌∷◌, ◌++◌, Option, Some, None}
use Rattle.std.specs.Prelude.{Result, Ok, Err, map}
use Rattle.std.specs.List.{filter_map}
use Rattle.std.specs.Option.{option_to_list}
use Rattle.std.proofs.lemmas.List.{append-nil, append_assoc}
use Rattle.message_flow.specs.declared.step.Note.{Note}
use Rattle.message_flow.specs.declared.step.StepOut.{StepOut}
use Rattle.trace_log.specs.Log.{Happening}
use Rattle.trace_log.specs.Text.{printed_note}
use Rattle.message_end.specs.declared.end.Stop.{Stop}
use Rattle.message_end.specs.declared.end.Stop.TheVariants.{DiskFailed, Full, NoMemory, NumbersSpent}
use Rattle.message_end.specs.Core.{Command, EndView, Step, Went, and_then, carried, carry}
use Rattle.message_end.specs.Core.Command.{Note as NoteThis}
use Rattle.message_end.specs.Core.Went.{Goes, Spent}
use Rattle.message_end.specs.Duties.{all_done}
use Rattle.message_end.specs.Parts.{ComesTo, Takes, after_parts, after_turn, core_after, core_step, leads, on_the_way, went_with}
use Rattle.message_end.proofs.Parts.{leads-behind}
use Rattle.tool_step.specs.declared.kind.Kind.{Kind}
use Rattle.tool_core.specs.Calls.{IsReached, Reaches, ReachesAll}
use Rattle.tool_step.specs.Own.{OwnView, ToolDuty, ToolPart, ToolTurn, turn_of}
use Rattle.tool_core.proofs.Turned.{HasTaken, ToolNode}

abbrev pub node : OwnView → EndView Kind → ToolNode
node own core = record { own = own; core = core }

-- ---- the parts of a step

parts_both :
    (first second : List ToolPart) (step : Step ToolNode Note)
    → after_parts printed_note (first ++ second) step
    ≡ and_then (after_parts printed_note first step) (after_parts printed_note second)
parts_both [] second step = refl
parts_both (part ∷ first) second step =
    go (after_turn printed_note (part step.next.own step.next.core) step) (λ next. parts_both first second next)
  where
    go : (went : Went ToolNode Note)
        → ((next : Step ToolNode Note)
        → after_parts printed_note (first ++ second) next
        ≡ and_then (after_parts printed_note first next) (after_parts printed_note second))
        → and_then went (after_parts printed_note (first ++ second))
        ≡ and_then (and_then went (after_parts printed_note first)) (after_parts printed_note second)
    go (Goes next) more = more next
    go (Spent next) more = refl

pub reached :
    (A : Type 0) (went : Went ToolNode Note) (new : ToolNode) (out : StepOut) (result : Result A Stop)
    → ComesTo went new out result → IsReached went new out result
reached A went new out (Ok done) is = is
reached A went new out (Err NumbersSpent) is = record { own = new.own; ledger = refl; is = is }
reached A went new out (Err Full) is = absurd is
reached A went new out (Err DiskFailed) is = absurd is
reached A went new out (Err NoMemory) is = tt

-- parts, and those behind them
pub parts_go :
    (A : Type 0) (first second : List ToolPart) (old middle new : ToolNode) (out out_middle out_new : StepOut)
    (result : Result A Stop)
    → after_parts printed_note first (on_the_way old out) ≡ Goes (on_the_way middle out_middle)
    → IsReached (after_parts printed_note second (on_the_way middle out_middle)) new out_new result
    → IsReached (after_parts printed_note (first ++ second) (on_the_way old out)) new out_new result
parts_go A first second old middle new out out_middle out_new result goes is =
    subst (λ (w : Went ToolNode Note). IsReached w new out_new result)
    (sym (parts_both first second (on_the_way old out)
    ∙ ap (λ (w : Went ToolNode Note). and_then w (after_parts printed_note second)) goes))
    is

-- parts that end the step
pub parts_stop :
    (A B : Type 0) (first second : List ToolPart) (old new : ToolNode) (out out_new : StepOut) (end : Stop)
    → IsReached {A = A} (after_parts printed_note first (on_the_way old out)) new out_new (Err end)
    → IsReached {A = B} (after_parts printed_note (first ++ second) (on_the_way old out)) new out_new (Err end)
parts_stop A B first second old new out out_new NoMemory is = tt
parts_stop A B first second old new out out_new Full is = absurd is
parts_stop A B first second old new out out_new DiskFailed is = absurd is
parts_stop A B first second old new out out_new NumbersSpent is = record {
  own = is.own;
  ledger = is.ledger;
  is =
      parts_both first second (on_the_way old out)
      ∙ ap (λ (w : Went ToolNode Note). and_then w (after_parts printed_note second)) is.is;
}

-- a part, and those behind it
pub first_goes :
    (A : Type 0) (part : ToolPart) (rest : List ToolPart) (old middle new : ToolNode) (out out_middle out_new : StepOut)
    (result : Result A Stop)
    → HasTaken (part old.own old.core) old out middle out_middle
    → ReachesAll rest middle out_middle new out_new result
    → ReachesAll (part ∷ rest) old out new out_new result
first_goes A part rest old middle new out out_middle out_new result goes is =
    subst (λ (w : Went ToolNode Note). IsReached w new out_new result)
    (sym (ap (λ (w : Went ToolNode Note). and_then w (after_parts printed_note rest)) goes))
    is

-- a part that ends the step
pub first_stops :
    (A B : Type 0) (part : ToolPart) (rest : List ToolPart) (old new : ToolNode) (out out_new : StepOut) (end : Stop)
    → Reaches {A = A} (part old.own old.core) old out new out_new (Err end)
    → ReachesAll {A = B} (part ∷ rest) old out new out_new (Err end)
first_stops A B part rest old new out out_new NoMemory is = tt
first_stops A B part rest old new out out_new Full is = absurd is
first_stops A B part rest old new out out_new DiskFailed is = absurd is
first_stops A B part rest old new out out_new NumbersSpent is = record {
  own = is.own;
  ledger = is.ledger;
  is = ap (λ (w : Went ToolNode Note). and_then w (after_parts printed_note rest)) is.is;
}

-- the last part
pub last_part :
    (A : Type 0) (part : ToolPart) (old new : ToolNode) (out out_new : StepOut) (result : Result A Stop)
    → Reaches (part old.own old.core) old out new out_new result
    → ReachesAll (part ∷ []) old out new out_new result
last_part A part old new out out_new (Ok done) is =
    ap (λ (w : Went ToolNode Note). and_then w (after_parts printed_note [])) is
last_part A part old new out out_new (Err end) is = first_stops A A part [] old new out out_new end is

-- ---- a part behind a command

-- which is decided by what the core is then
pub leads_reached :
    (A : Type 0) (own : OwnView) (lead : Command Kind) (turn : EndView Kind → ToolTurn) (old middle : EndView Kind)
    (out out_middle : StepOut) (new : ToolNode) (out_new : StepOut) (result : Result A Stop)
    → carry printed_note lead (on_the_way old out) ≡ Goes (on_the_way middle out_middle)
    → core_after lead old ≡ middle
    → Reaches (turn middle) (node own middle) out_middle new out_new result
    → Reaches (leads lead turn old) (node own old) out new out_new result
leads_reached A own lead turn old middle out out_middle new out_new result goes same is =
    subst (λ (w : Went ToolNode Note). IsReached w new out_new result)
    (sym (leads-behind printed_note lead turn (on_the_way (node own old) out) (on_the_way middle out_middle) goes same))
    is

-- a command that draws no number, and for which memory was wanting
pub leads_stopped :
    (A B : Type 0) (own : OwnView) (lead : Command Kind) (turn : EndView Kind → ToolTurn) (old : EndView Kind)
    (new : ToolNode) (out out_new : StepOut) (step : Step (EndView Kind) Note) (end : Stop)
    → carry printed_note lead (on_the_way old out) ≡ Goes step
    → ComesTo {A = A} (carry printed_note lead (on_the_way old out)) new.core out_new (Err end)
    → Reaches {A = B} (leads lead turn old) (node own old) out new out_new (Err end)
leads_stopped A B own lead turn old new out out_new step NoMemory goes is = tt
leads_stopped A B own lead turn old new out out_new step Full goes is = absurd is
leads_stopped A B own lead turn old new out out_new step DiskFailed goes is = absurd is
leads_stopped A B own lead turn old new out out_new step NumbersSpent goes is = absurd (cc)

-- ---- lines

pub lines_carried :
    (lines : List Happening) (step : Step (EndView Kind) Note)
    → carried printed_note (map NoteThis lines) step
    ≡ Goes (record step { notes = step.notes ++ filter_map printed_note lines })
lines_carried [] step =
    ap (λ (notes : List Note). Goes (record step { notes = notes })) (sym (append-nil step.notes))
lines_carried (line ∷ lines) step =
    lines_carried lines (record step { notes = step.notes ++ option_to_list (printed_note line) })
    ∙ ap (λ (notes : List Note). Goes (record step { notes = notes })) (go (printed_note line) refl)
  where
    go : (o : Option Note) → printed_note line ≡ o
        → (step.notes ++ option_to_list (printed_note line)) ++ filter_map printed_note lines
        ≡ step.notes ++ filter_map printed_note (line ∷ lines)
    go None is = rw is (ap (λ (notes : List Note). notes ++ filter_map printed_note lines) (append-nil step.notes))
    go (Some note) is = rw is (append_assoc step.notes (note ∷ []) (filter_map printed_note lines))

-- a turn behind lines that were noted
pub behind_lines :
    (A : Type 0) (own : OwnView) (lines : List Happening) (duties : List ToolDuty) (old middle new : ToolNode)
    (out out_middle out_new : StepOut) (result : Result A Stop)
    → middle.core ≡ old.core → out_middle.notes ≡ out.notes ++ filter_map printed_note lines
    → out_middle.line.items ≡ out.line.items
    → Takes (turn_of own duties) middle out_middle new out_new result
    → Takes (turn_of own ((λ e. map NoteThis lines) ∷ duties)) old out new out_new result
behind_lines A own lines duties old middle new out out_middle out_new result core notes line is =
    subst (λ (w : Went ToolNode Note). ComesTo w new out_new result)
    (ap (λ (e : EndView Kind). went_with own (all_done printed_note duties
    (record { next = e; notes = out_middle.notes; written = out_middle.line.items }))) core
    ∙ ap (λ (ns : List Note). went_with own (all_done printed_note duties
    (record { next = old.core; notes = ns; written = out_middle.line.items }))) notes
    ∙ ap (λ (written : List ℕ). went_with own (all_done printed_note duties
    (record { next = old.core; notes = out.notes ++ filter_map printed_note lines; written = written }))) line
    ∙ ap (λ (w : Went (EndView Kind) Note). went_with own (and_then w (all_done printed_note duties)))
    (sym (lines_carried lines (core_step (on_the_way old out)))))
    is
