-- The names so far are copied.

use Rattle.std.proofs.Common.{◌≡◌, take}
use Rattle.tool_core.proofs.recipes.own_names.Given as goal

abbrev pub invariant-loop-name : goal.invariant-loop-name
invariant-loop-name l = l.owned ≡ take l.name-index l.names
