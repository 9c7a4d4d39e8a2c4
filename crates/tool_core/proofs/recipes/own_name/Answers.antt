-- A name in a message is a name.

use Rattle.tool_core.proofs.recipes.own_name.Goals as goal

pub of-requires : goal.of-requires
of-requires c = record { least = c.bytes.ensures.is.0; most = c.bytes.ensures.is.1 }
