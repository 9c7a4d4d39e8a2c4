-- What the table gives at a key is what stands there.

use Rattle.toml.proofs.Views.{table_get}
use Rattle.gem_config.proofs.found.member.Goals as goal

pub returns : goal.returns
returns c = table_get c.get.result c.args.key.now c.args.members.now.entries c.get.ensures.value
