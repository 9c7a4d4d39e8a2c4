-- What becomes of a report that the equipment has made.
use Rattle.std.specs.Prelude.{ℕ, List, [], ◌∷◌, if◌then◌else◌}
use Rattle.trace_log.specs.declared.names.Name.{Name}
use Rattle.trace_log.specs.Log.{Happening}
use Rattle.trace_log.specs.Names.{Spooled, spooled_name}
use Rattle.message_end.specs.Core.{EndView}
use Rattle.message_end.specs.Core.Command.{Note}
use Rattle.message_end.specs.Parts.{fixed_turn}
use Rattle.tool_step.specs.declared.kind.Kind.{Kind}
use Rattle.tool_step.specs.Own.{OwnView, ToolTurn, is_communicating, is_online}
use Rattle.tool_step.specs.Sent.{going_turn}
use Rattle.tool_step.specs.Spooling.{is_spooled, stored_turn}
use Rattle.equipment_tables.specs.declared.answers.Answer.{Answer}
use Rattle.equipment_tables.specs.declared.answers.Answer.TheVariants as answer

-- one of this name is dropped
abbrev pub unreported_turn : Name → OwnView → ToolTurn
unreported_turn name own = fixed_turn own (Note (Happening.Dropped name) ∷ [])

-- while the spool is active it goes there, where the rule covers it; else to the host, where the communication is
-- established (SEMI E30, spooling; SEMI E30, establishing communications)
abbrev pub made_turn : (Spooled → ToolTurn) → Spooled → OwnView → ToolTurn
made_turn going message own =
    if is_spooled message own then stored_turn message own
    else if is_communicating own then going message
    else unreported_turn (spooled_name message) own

abbrev pub text_turn : (List ℕ → Spooled) → (Spooled → ToolTurn) → Answer → OwnView → ToolTurn
text_turn report going (answer.Body body) own = made_turn going (report body) own
text_turn report going answer.TooLong own = fixed_turn own (Note (Happening.TooLong (spooled_name (report []))) ∷ [])

-- off-line a report is dropped, whatever its text; else one that is too long (SEMI E30, OFF-LINE; the order is this
-- profile's)
abbrev pub judged_turn : (List ℕ → Spooled) → (Spooled → ToolTurn) → Answer → OwnView → ToolTurn
judged_turn report going text own =
    if is_online own then text_turn report going text own else unreported_turn (spooled_name (report [])) own

-- one that goes alone
abbrev pub report_turn : (List ℕ → Spooled) → Answer → OwnView → EndView Kind → ToolTurn
report_turn report text own e = judged_turn report (λ message. going_turn message own e) text own
