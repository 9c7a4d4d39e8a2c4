-- Reports that were judged, as their turns.
use Rattle.std.proofs.Common.{◌≡◌, sym, ap, subst, ◌∙◌, true, ℕ, List}
use Rattle.std.specs.Prelude.{Result, Err}
use Rattle.message_flow.specs.declared.step.StepOut.{StepOut}
use Rattle.trace_log.specs.Names.{Spooled}
use Rattle.message_end.specs.declared.end.Stop.{Stop}
use Rattle.message_end.specs.declared.end.Stop.TheVariants.{DiskFailed, Full, NoMemory, NumbersSpent}
use Rattle.message_end.specs.Parts.{Takes}
use Rattle.equipment_tables.specs.declared.answers.Answer.{Answer}
use Rattle.tool_core.specs.Judged.{IsJudged, IsJudgedSo, MayGo}
use Rattle.tool_step.specs.Own.{ToolTurn, is_online}
use Rattle.tool_step.specs.Reports.{judged_turn, text_turn}
use Rattle.tool_core.proofs.Texts.{made_going, on_line}
use Rattle.tool_core.proofs.Turned.{ToolNode}

-- one that is to be sent, and was
pub judged_goes :
    (report : List ℕ → Spooled) (going : Spooled → ToolTurn) (text wanted : Answer) (body : List ℕ)
    (old middle new : ToolNode) (out out_middle out_new : StepOut) (result : Result (Unit {0}) Stop)
    → text ≡ wanted → MayGo report text old out middle out_middle body
    → Takes (going (report body)) middle out_middle new out_new result
    → Takes (judged_turn report going wanted old.own) old out new out_new result
judged_goes report going text wanted body old middle new out out_middle out_new result same may is =
    subst (λ (t : ToolTurn). Takes t old out new out_new result)
    (sym (on_line report going wanted old.own may.online
    ∙ ap (λ (a : Answer). text_turn report going a old.own) (sym same ∙ may.is)
    ∙ made_going going (report body) old.own may.unspooled may.communicating))
    (subst (λ (o : StepOut). Takes (going (report body)) old o new out_new result) may.out
    (subst (λ (s : ToolNode). Takes (going (report body)) s out_middle new out_new result) may.same is))

-- one with which nothing is left to do
pub judged_done :
    (report : List ℕ → Spooled) (going : Spooled → ToolTurn) (text wanted : Answer)
    (old new : ToolNode) (out out_new : StepOut) (result : Result (Unit {0}) Stop)
    → text ≡ wanted → IsJudgedSo report text old out new out_new result
    → Takes (judged_turn report going wanted old.own) old out new out_new result
judged_done report going text wanted old new out out_new result same is =
    subst (λ (a : Answer). Takes (judged_turn report going a old.own) old out new out_new result) same (is going)

-- where judging it ends the step
pub judged_stops :
    (report : List ℕ → Spooled) (going : Spooled → ToolTurn) (text wanted : Answer)
    (old new : ToolNode) (out out_new : StepOut) (end : Stop)
    → text ≡ wanted → IsJudged report text old out new out_new (Err end)
    → Takes {A = Unit {0}} (judged_turn report going wanted old.own) old out new out_new (Err end)
judged_stops report going text wanted old new out out_new NoMemory same is = tt
judged_stops report going text wanted old new out out_new Full same is = absurd is
judged_stops report going text wanted old new out out_new DiskFailed same is = absurd is
judged_stops report going text wanted old new out out_new NumbersSpent same is =
    judged_done report going text wanted old new out out_new (Err NumbersSpent) same is

-- a turn that is taken whatever becomes of a report that is to be sent
pub so_judged :
    (report : List ℕ → Spooled) (text : Answer) (turn : ToolTurn) (old new : ToolNode) (out out_new : StepOut)
    (result : Result (Unit {0}) Stop)
    → is_online old.own ≡ true
    → ((going : Spooled → ToolTurn) → text_turn report going text old.own ≡ turn)
    → Takes turn old out new out_new result
    → IsJudgedSo report text old out new out_new result
so_judged report text turn old new out out_new result online same is = λ going.
    subst (λ (t : ToolTurn). Takes t old out new out_new result)
    (sym (on_line report going text old.own online ∙ same going)) is

-- where it ends the step
pub stops_judged :
    (report : List ℕ → Spooled) (text : Answer) (turn : ToolTurn) (old new : ToolNode) (out out_new : StepOut)
    (end : Stop)
    → is_online old.own ≡ true
    → ((going : Spooled → ToolTurn) → text_turn report going text old.own ≡ turn)
    → Takes {A = Unit {0}} turn old out new out_new (Err end)
    → IsJudged report text old out new out_new (Err end)
stops_judged report text turn old new out out_new NoMemory online same is = tt
stops_judged report text turn old new out out_new Full online same is = absurd is
stops_judged report text turn old new out out_new DiskFailed online same is = absurd is
stops_judged report text turn old new out out_new NumbersSpent online same is =
    so_judged report text turn old new out out_new (Err NumbersSpent) online same is
