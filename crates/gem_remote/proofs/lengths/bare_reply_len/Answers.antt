-- The lengths of the parts make that of the reply.

use Rattle.std.proofs.Common.{refl, sym, [], ◌∷◌, arith}
use Rattle.secs_items.specs.declared.item.Item.TheVariants as item
use Rattle.gem_shapes.specs.Answers.{code_item}
use Rattle.gem_remote.proofs.Measured.{coded_together}
use Rattle.gem_remote.proofs.lengths.bare_reply_len.Goals as goal

pub returns : goal.returns
returns c = λ hcack items size.
    let inner = c.list_len-refusals.ensures items (sym size.0) size.1 in
    c.list_len.ensures (code_item hcack ∷ item.L items ∷ []) refl
    (omega (arith, coded_together hcack (item.L items), inner, c.saturating_add.ensures))
