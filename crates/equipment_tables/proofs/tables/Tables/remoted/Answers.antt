-- The answer is the one for the item that the parameters show.

use Rattle.std.proofs.Common.{◌≡◌, IfOk, subst}
use Rattle.equipment_tables.specs.Answers.{remoted_of_item}
use Rattle.equipment_tables.specs.Tables.{TablesView, state_of}
use Rattle.equipment_tables.proofs.RemoteAnswers.{item_answered}
use Rattle.equipment_tables.proofs.tables.Tables.remoted.Goals as goal

pub returns : goal.returns
returns c =
    subst (λ (v : TablesView). IfOk c.command.result (λ remoted. remoted ≡
    remoted_of_item (state_of v) c.args.is_local c.args.name.now c.args.params.now.item)) c.self.view_is
    (item_answered c.self.inside.remote c.args.is_local c.args.name.now c.args.params.now.item c.requires.0
    c.requires.1 c.command.result (c.command.ensures c.requires.0 c.requires.1))
