-- The turns of the equipment, as its code takes them.
use Rattle.std.proofs.Common.{◌≡◌, refl, sym, ap, subst, ◌∙◌, Bool, true, List, [], ◌∷◌, ◌++◌, if◌then◌else◌}
use Rattle.std.specs.Prelude.{Result}
use Rattle.std.proofs.lemmas.List.{append-nil}
use Rattle.message_flow.specs.declared.message.Message.{Message}
use Rattle.message_flow.specs.declared.step.Note.{Note}
use Rattle.message_flow.specs.declared.step.StepOut.{StepOut}
use Rattle.trace_log.specs.Log.{Happening, Past}
use Rattle.trace_log.specs.Log.Happening.{Recorded}
use Rattle.trace_log.specs.Text.{note_of, printed_note}
use Rattle.message_end.specs.declared.end.Stop.{Stop}
use Rattle.message_end.specs.Core.{EndView, Went, and_then}
use Rattle.message_end.specs.Core.Command.{Note as NoteThis}
use Rattle.message_end.specs.Core.Went.{Goes, Spent}
use Rattle.message_end.specs.Duties.{all_done}
use Rattle.message_end.specs.Parts.{ComesTo, Node, Takes, after_turn, core_step, led_turn, on_the_way, went_with}
use Rattle.message_end.proofs.Carrying.{done_append}
use Rattle.tool_step.specs.declared.kind.Kind.{Kind}
use Rattle.tool_step.specs.Own.{OwnView, ToolTurn, turn_of}
use Rattle.tool_step.specs.Sent.{abort_duty, long_duties, reply_name}

abbrev pub ToolNode : Type 0
ToolNode = Node OwnView Kind

-- the turn was taken, and the step goes on
abbrev pub HasTaken : ToolTurn → ToolNode → StepOut → ToolNode → StepOut → Type 0
HasTaken turn old out_old new out_new =
    after_turn printed_note turn (on_the_way old out_old) ≡ Goes (on_the_way new out_new)

-- what was done of the core
core_went : Went ToolNode Note → Went (EndView Kind) Note
core_went (Goes step) = Goes (core_step step)
core_went (Spent step) = Spent (core_step step)

went-core : (own : OwnView) (went : Went (EndView Kind) Note) → core_went (went_with own went) ≡ went
unfolding core_went
went-core own (Goes step) = refl
went-core own (Spent step) = refl

-- what the core did in a turn that was taken
taken-core :
    (turn : ToolTurn) (old new : ToolNode) (out_old out_new : StepOut) → HasTaken turn old out_old new out_new
    → all_done printed_note turn.duties (core_step (on_the_way old out_old)) ≡ Goes (core_step (on_the_way new out_new))
unfolding core_went
taken-core turn old new out_old out_new taken =
    sym (went-core turn.own (all_done printed_note turn.duties (core_step (on_the_way old out_old))))
    ∙ ap core_went taken

-- a turn behind one that was taken
pub behind :
    {A : Type 0} (first second : ToolTurn) (old middle new : ToolNode) (out_old out_middle out_new : StepOut)
    (result : Result A Stop)
    → HasTaken first old out_old middle out_middle → Takes second middle out_middle new out_new result
    → Takes (turn_of second.own (first.duties ++ second.duties)) old out_old new out_new result
behind first second old middle new out_old out_middle out_new result taken is =
    subst (λ (w : Went ToolNode Note). ComesTo w new out_new result)
    (sym (ap (λ (w : Went (EndView Kind) Note). went_with second.own w)
    (done_append printed_note first.duties second.duties (core_step (on_the_way old out_old))
    ∙ ap (λ (w : Went (EndView Kind) Note). and_then w (all_done printed_note second.duties))
    (taken-core first old middle out_old out_middle taken))))
    is

-- what counts when the equipment looks back is read as no note
pub recorded :
    {A : Type 0} (past : Past) (turn : ToolTurn) (old new : ToolNode) (out_old out_new : StepOut)
    (result : Result A Stop)
    → Takes turn old out_old new out_new result
    → Takes (led_turn (NoteThis (Recorded past)) turn) old out_old new out_new result
recorded past turn old new out_old out_new result is =
    subst
    (λ (notes : List Note). ComesTo
    (went_with turn.own (all_done printed_note turn.duties
    (record { next = old.core; notes = notes; written = out_old.line.items })))
    new out_new result)
    (sym (append-nil out_old.notes))
    is

-- an answer that is too long is noted, and function 0 goes behind the note
pub long_so :
    {A : Type 0} (message : Message) (old new : ToolNode) (out_old out_new : StepOut) (notes : List Note)
    (result : Result A Stop)
    → message.wait ≡ true
    → notes ≡ out_old.notes ++ note_of (Happening.TooLong (reply_name message)) ∷ []
    → Takes (turn_of old.own (abort_duty message ∷ [])) old (record { line = out_old.line; notes = notes }) new out_new
    result
    → Takes (turn_of old.own (long_duties message)) old out_old new out_new result
long_so message old new out_old out_new notes result waits noted is =
    behind (first message.wait) (turn_of old.own (abort_duty message ∷ [])) old old new out_old
    (record { line = out_old.line; notes = notes }) out_new result taken is
  where
    first : Bool → ToolTurn
    first wait =
        turn_of old.own
        ((λ e. if wait then NoteThis (Happening.TooLong (reply_name message)) ∷ [] else []) ∷ [])

    taken : HasTaken (first message.wait) old out_old old (record { line = out_old.line; notes = notes })
    taken =
        ap (λ (wait : Bool). after_turn printed_note (first wait) (on_the_way old out_old)) waits
        ∙ ap (λ (ns : List Note). Goes (on_the_way old (record { line = out_old.line; notes = ns }))) (sym noted)
