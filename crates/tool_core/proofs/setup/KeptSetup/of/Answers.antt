-- What breaks nowhere was spelled.
use Rattle.std.proofs.Common.{subst}
use Rattle.setup_store.specs.Laws.{AreBytes}
use Rattle.tool_core.proofs.KeptLists.{spells}
use Rattle.tool_core.proofs.setup.KeptSetup.of.Goals as goal

pub invariant_of-result : goal.invariant_of-result
invariant_of-result c = (
  spells c.args.bytes c.lists_are_read_as_spelled.ensures (subst AreBytes c.as_slice.ensures c.are_bytes.ensures)
      c.requires.list,
  c.requires.room,
)
