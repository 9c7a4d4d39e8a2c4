-- It is owed to the recipes, or they aren't asked for it.

use Rattle.std.proofs.Common.{◌∙◌, sym}
use Rattle.tool_core.specs.Node.{own_of}
use Rattle.tool_core.proofs.Owing.{owes, owes_none}
use Rattle.tool_step.specs.Recipes.{asked_of}
use Rattle.tool_core.proofs.own.Tool.ask_recipes.Goals as goal

pub returns-then-not-is_asked-clause-does : goal.returns-then-not-is_asked-clause-does
returns-then-not-is_asked-clause-does c =
    owes_none (asked_of c.args.request.now) c.in_ok-asked.asked c.args.message.now (own_of c.args.self.now.own)
    c.args.self.now.core c.args._out.now c.in_ok-asked.ensures (sym c.is_asked.ensures ∙ c.if-not-is_asked.true)

pub returns-clause-does : goal.returns-clause-does
returns-clause-does c =
    owes (asked_of c.args.request.now) c.in_ok-asked.asked c.args.message.now c.untold.result
    (own_of c.args.self.now.own) c.args.self.now.core c.args._out.now c.in_ok-asked.ensures c.untold.ensures
    (sym c.is_asked.ensures ∙ c.if-not-is_asked.false)
