-- Head and items make the length of the list.

use Rattle.std.proofs.Common.{◌≡◌, ◌*◌, length, arith}
use Rattle.secs_items.specs.declared.kind.Kind.TheVariants as kind
use Rattle.secs_items.specs.Spelling.{shortest_head}
use Rattle.secs_items.proofs.SpelledLengths.{length-list}
use Rattle.secs_items.proofs.measures.list_len.Goals as goal

pub returns : goal.returns
returns c items same all =
    let whole = length-list items in
    let head : c.head_len.result ≡ length (shortest_head kind.L (1 * length items)) = rw same c.head_len.ensures in
    omega (arith, whole, head, all, c.saturating_add.ensures)
