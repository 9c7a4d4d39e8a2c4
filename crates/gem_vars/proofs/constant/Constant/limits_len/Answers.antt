-- The lengths of the parts make that of the row.

use Rattle.std.proofs.Common.{refl, ap, List, ℕ, length, arith}
use Rattle.secs_items.specs.declared.item.Item.TheVariants as item
use Rattle.secs_items.specs.Items.{number_item}
use Rattle.secs_items.specs.Spelling.{shortest_spelling}
use Rattle.gem_vars.proofs.Sizes.{known_limits_together, limit_parts}
use Rattle.gem_vars.proofs.constant.Constant.limits_len.Goals as goal

pub returns : goal.returns
returns c = λ ecid.
    let known = c.args.self.now in
    let together = known_limits_together ecid known.name known.min known.max known.default known.units in
    let name = ap (λ (t : List ℕ). length (shortest_spelling (item.A t))) c.as_slice-name.ensures in
    let units = ap (λ (t : List ℕ). length (shortest_spelling (item.A t))) c.as_slice-units.ensures in
    c.list_len.ensures
    (limit_parts ecid known.name (number_item known.min) (number_item known.max) (number_item known.default) known.units)
    refl (omega (arith, together, name, units, c.texts_len.ensures))
