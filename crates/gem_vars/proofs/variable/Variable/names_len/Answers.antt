-- The lengths of the parts make that of the row.

use Rattle.std.proofs.Common.{refl, ap, List, ℕ, length, arith}
use Rattle.secs_items.specs.declared.item.Item.TheVariants as item
use Rattle.secs_items.specs.Spelling.{shortest_spelling}
use Rattle.gem_vars.proofs.Sizes.{name_parts, names_together}
use Rattle.gem_vars.proofs.variable.Variable.names_len.Goals as goal

pub returns : goal.returns
returns c = λ vid.
    let known = c.args.self.now in
    let name = ap (λ (t : List ℕ). length (shortest_spelling (item.A t))) c.as_slice-name.ensures in
    let units = ap (λ (t : List ℕ). length (shortest_spelling (item.A t))) c.as_slice-units.ensures in
    c.list_len.ensures (name_parts vid known.name known.units) refl
    (omega (arith, names_together vid known.name known.units, name, units, c.texts_len.ensures))
