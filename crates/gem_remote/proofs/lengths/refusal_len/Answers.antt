-- The lengths of the parts make that of the refusal.

use Rattle.std.proofs.Common.{refl, [], ◌∷◌, arith}
use Rattle.secs_items.specs.declared.item.Item.TheVariants as item
use Rattle.gem_shapes.specs.Answers.{code_item}
use Rattle.gem_remote.proofs.Measured.{named_together}
use Rattle.gem_remote.proofs.lengths.refusal_len.Goals as goal

pub returns : goal.returns
returns c = λ name cpack same.
    c.list_len.ensures (item.A name ∷ code_item cpack ∷ []) refl
    (omega (arith, named_together cpack (item.A name), c.text_len.ensures name same, c.saturating_add.ensures))
