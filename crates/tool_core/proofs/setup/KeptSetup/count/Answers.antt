use Rattle.std.proofs.Common.{arith}
use Rattle.tool_core.proofs.KeptLists.{all_counted, counts_from, one_counted}
use Rattle.tool_core.proofs.setup.KeptSetup.count.Goals as goal

pub entries-preserved : goal.entries-preserved
entries-preserved c =
    one_counted c.args.self.now c.entries.count c.entries.rest.now c.lists_are_read_as_spelled.ensures
    c.entries.invariant _ c.in-Some.ensures.there (omega (arith, c.in-Some.ensures.within))

pub returns : goal.returns
returns c =
    all_counted c.args.self.now c.entries.count c.entries.rest.now c.lists_are_read_as_spelled.ensures
    c.entries.invariant (c.first_entry.ensures.none c.in_default.is)
