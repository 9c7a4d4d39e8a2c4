-- The names so far have their items.

use Rattle.std.proofs.Common.{◌≡◌, map, take}
use Rattle.secs_items.specs.declared.item.Item.TheVariants as item
use Rattle.tool_core.proofs.recipes.names_item.Given as goal

abbrev pub invariant-loop-name : goal.invariant-loop-name
invariant-loop-name l = l.items ≡ map item.A (take l.name-index l.names)
