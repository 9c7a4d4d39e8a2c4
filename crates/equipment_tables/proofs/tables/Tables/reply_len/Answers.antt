-- The length is that of the one reply that these parameters have.

use Rattle.std.proofs.Common.{◌≡◌, IfOk, subst, length}
use Rattle.secs_items.specs.Measures.{capped}
use Rattle.secs_items.specs.Spelling.{shortest_spelling}
use Rattle.equipment_tables.specs.Answers.{remoted_of_item}
use Rattle.equipment_tables.specs.RemoteAnswers.{remoted_by}
use Rattle.equipment_tables.specs.Tables.{TablesView, state_of}
use Rattle.equipment_tables.proofs.RemoteAnswers.{answers_so, item_measured}
use Rattle.equipment_tables.proofs.tables.Tables.reply_len.Goals as goal

pub returns : goal.returns
returns c =
    let all = c.requires.0 in
    let answer = remoted_by c.self.inside.remote c.args.is_local c.args.name.now all in
    subst (λ (v : TablesView). IfOk c.reply_len.result (λ len. len ≡ capped (length (shortest_spelling
    (remoted_of_item (state_of v) c.args.is_local c.args.name.now c.args.params.now.item).reply)))) c.self.view_is
    (item_measured c.self.inside.remote c.args.is_local c.args.name.now c.args.params.now.item all c.requires.1
    c.reply_len.result
    (c.reply_len.ensures all answer c.requires.1
    (answers_so c.self.inside.remote c.args.is_local c.args.name.now all)))
