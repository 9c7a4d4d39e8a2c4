-- The built-in constants and the plan's have ECIDs apart from those before, so that each is put.

use Rattle.std.proofs.Common.{◌∙◌}
use Rattle.gem_vars.proofs.Constants.{first_apart, own_apart}
use Rattle.gem_vars.proofs.vars.Vars.new.Goals as goal

pub put_constants-requires : goal.put_constants-requires
put_constants-requires c =
    first_apart c.new-constants.result.entries c.as_slice.result.now c.args.plan.now.built_in
    c.new-constants.ensures.empty (c.as_slice.ensures ∙ c.in_ok-built_in.ensures)

pub put_constants-requires-2 : goal.put_constants-requires-2
put_constants-requires-2 c =
    own_apart c.args.plan.now c.new-constants.result.entries c.put_constants.new.constants.entries
    c.as_slice.result.now c.as_slice-2.result.now c.requires c.new-constants.ensures.empty
    (c.as_slice.ensures ∙ c.in_ok-built_in.ensures) c.as_slice-2.ensures c.in_ok-put_constants.ensures
