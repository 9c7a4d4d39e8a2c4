use Rattle.equipment_tables.specs.Tables.{state_of}
use Rattle.tool_core.specs.Node.{own_of}
use Rattle.tool_core.proofs.Keeping.{keeps}
use Rattle.tool_core.proofs.own.Tool.keep.Goals as goal

pub returns-clause-does : goal.returns-clause-does
returns-clause-does c =
    keeps c.args.list c.args.request.now c.args.message.now c.untold.result (own_of c.args.self.now.own)
    c.args.self.now.core (state_of c.change.new.tables) c.args.out.now c.note_keeping.new.out c.in_ok-change.ensures
    c.untold.ensures (c.in_ok-note_keeping.ensures.notes c.args.message.now c.of.ensures)
    c.note_keeping.ensures.line
