-- One value more comes behind those so far, where its variable is known.

use Rattle.std.proofs.Common.{sym, ◌∙◌, ap, List, [], ◌++◌, get_or, arith}
use Rattle.std.specs.List.{cons_option}
use Rattle.secs_items.specs.declared.item.Item.{Item}
use Rattle.gem_vars.specs.Tables.{value_in}
use Rattle.gem_reports.proofs.Spelled.{values_more}
use Rattle.gem_reports.proofs.bodies.values_item.Goals as goal

pub loop-vid-preserved : goal.loop-vid-preserved
loop-vid-preserved c =
    let value = value_in c.args.vars.now in
    let i = c.loop-vid.vid-index in
    c.in_ok-push_value.ensures
    ∙ ap (λ (items : List Item). items ++ cons_option (value (get_or c.args.vids.now i 0)) []) c.loop-vid.invariant
    ∙ sym (values_more value c.args.vids.now i 0 (omega arith))
