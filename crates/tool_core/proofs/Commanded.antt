-- What comes of a report that was judged, as the commands of the tool do it.
use Rattle.std.proofs.Common.{◌≡◌, sym, subst, ℕ, List, Bool, true, Option, Some, None}
use Rattle.std.specs.Prelude.{Result, Ok, Err}
use Rattle.message_flow.specs.declared.step.StepOut.{StepOut}
use Rattle.trace_log.specs.Names.{Spooled}
use Rattle.message_end.specs.declared.end.Stop.{Stop}
use Rattle.message_end.specs.Core.{EndView}
use Rattle.message_end.specs.Parts.{Takes}
use Rattle.equipment_tables.specs.Answers.{alarm_item_of}
use Rattle.equipment_tables.specs.declared.answers.Answer.{Answer}
use Rattle.tool_step.specs.declared.kind.Kind.{Kind}
use Rattle.tool_core.specs.Judged.{IsJudged, MayGo}
use Rattle.tool_step.specs.Own.{OwnView, ToolTurn}
use Rattle.tool_step.specs.Reports.{judged_turn}
use Rattle.tool_step.specs.Sent.{alarm_report, going_turn, text_of}
use Rattle.tool_step.specs.Tool.{alarm_report_turn}
use Rattle.tool_core.proofs.Judging.{judged_done, judged_goes, judged_stops}
use Rattle.tool_core.proofs.Turned.{HasTaken, ToolNode}

-- a report that is to be sent, and was, by what the end is then
pub judged_sent :
    (report : List ℕ → Spooled) (going : Spooled → OwnView → EndView Kind → ToolTurn) (text wanted : Answer)
    (found : Option (List ℕ)) (body : List ℕ) (old middle new : ToolNode) (out out_middle out_new : StepOut)
    (result : Result (Unit {0}) Stop)
    → text ≡ wanted → IsJudged report text old out middle out_middle (Ok found) → found ≡ Some body
    → Takes (going (report body) middle.own middle.core) middle out_middle new out_new result
    → Takes (judged_turn report (λ message. going message old.own old.core) wanted old.own) old out new out_new result
judged_sent report going text wanted found body old middle new out out_middle out_new result same judged some is =
    let may : MayGo report text old out middle out_middle body =
    subst (λ (f : Option (List ℕ)). IsJudged report text old out middle out_middle (Ok f)) some judged in
    judged_goes report (λ message. going message old.own old.core) text wanted body old middle new out out_middle
    out_new result same may
    (subst (λ (s : ToolNode). Takes (going (report body) s.own s.core) middle out_middle new out_new result) may.same
    is)

-- one with which nothing is left to do
pub judged_none :
    (report : List ℕ → Spooled) (going : Spooled → ToolTurn) (text wanted : Answer) (found : Option (List ℕ))
    (old new : ToolNode) (out out_new : StepOut)
    → text ≡ wanted → IsJudged report text old out new out_new (Ok found) → found ≡ None
    → HasTaken (judged_turn report going wanted old.own) old out new out_new
judged_none report going text wanted found old new out out_new same judged none =
    judged_done report going text wanted old new out out_new (Ok tt) same
    (subst (λ (f : Option (List ℕ)). IsJudged report text old out new out_new (Ok f)) none judged)

-- an alarm that is enabled
pub alarm_none :
    (enabled : Bool) (alid : ℕ) (text : Answer) (found : Option (List ℕ)) (old new : ToolNode) (out out_new : StepOut)
    → enabled ≡ true → text ≡ text_of old.own (alarm_item_of old.own.tables alid)
    → IsJudged alarm_report text old out new out_new (Ok found) → found ≡ None
    → HasTaken (alarm_report_turn enabled alid old.own old.core) old out new out_new
alarm_none enabled alid text found old new out out_new on same judged none =
    subst (λ (b : Bool). HasTaken (alarm_report_turn b alid old.own old.core) old out new out_new) (sym on)
    (judged_none alarm_report (λ message. going_turn message old.own old.core) text
    (text_of old.own (alarm_item_of old.own.tables alid)) found old new out out_new same judged none)

pub alarm_stops :
    (enabled : Bool) (alid : ℕ) (text : Answer) (old new : ToolNode) (out out_new : StepOut) (end : Stop)
    → enabled ≡ true → text ≡ text_of old.own (alarm_item_of old.own.tables alid)
    → IsJudged alarm_report text old out new out_new (Err end)
    → Takes {A = Unit {0}} (alarm_report_turn enabled alid old.own old.core) old out new out_new (Err end)
alarm_stops enabled alid text old new out out_new end on same judged =
    subst (λ (b : Bool). Takes {A = Unit {0}} (alarm_report_turn b alid old.own old.core) old out new out_new (Err end))
    (sym on)
    (judged_stops alarm_report (λ message. going_turn message old.own old.core) text
    (text_of old.own (alarm_item_of old.own.tables alid)) old new out out_new end same judged)
