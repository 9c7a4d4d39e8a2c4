use Rattle.std.proofs.Common.{sym, ap, ◌∙◌, [], ◌∷◌, ◌++◌}
use Rattle.message_flow.specs.declared.step.Note.{Note}
use Rattle.tool_core.specs.Node.{node_of}
use Rattle.equipment_tables.specs.Tables.{state_of}
use Rattle.tool_core.proofs.Alarms.{same_so}
use Rattle.tool_core.proofs.own.Tool.alarm.Goals as goal

pub returns-in_ok-push-in-Same-clause-does : goal.returns-in_ok-push-in-Same-clause-does
returns-in_ok-push-in-Same-clause-does c =
    same_so c.args.alid c.args.is_set (node_of c.args.self.now) (state_of c.change.new.self) c.args.out.now
    c.push-in-Same.new.self (sym c.change.ensures.step ∙ c.in-Same.is) c.change.ensures.table
    (c.in_ok-push-in-Same.ensures.ok
    ∙ ap (λ (note : Note). c.args.out.now.notes ++ note ∷ []) c.in_ok-alarm_note-in-Same.ensures)
