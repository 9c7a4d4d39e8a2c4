-- Head and characters make the length of the text.

use Rattle.std.proofs.Common.{◌≡◌, ◌+◌, ◌*◌, length, arith}
use Rattle.secs_items.specs.declared.kind.Kind.TheVariants as kind
use Rattle.secs_items.specs.Measures.{capped}
use Rattle.secs_items.specs.Spelling.{shortest_head}
use Rattle.secs_items.proofs.SpelledLengths.{length-text}
use Rattle.secs_items.proofs.measures.text_len.Goals as goal

pub returns : goal.returns
returns c text same =
    let whole = length-text text in
    let measured : c.leaf_len.result ≡ capped (length (shortest_head kind.A (1 * length text)) + 1 * length text) =
    rw same c.leaf_len.ensures in
    omega (arith, whole, measured)
