-- The bytes that were read are the cell's, so their value is its value.

use Rattle.std.proofs.Common.{◌≡◌, ℕ, List, length, ap, ◌∙◌, arith, rules}
use Rattle.disk_base.specs.Story.{bytes_at}
use Rattle.gate_cell.specs.Cell.{cell_of}
use Rattle.gate_cell.proofs.Values.{is_read}
use Rattle.gate_cell.proofs.cell.read_cell.Goals as goal

pub returns-in-Done-clause-value : goal.returns-in-Done-clause-value
returns-in-Done-clause-value g c = λ s told.
    let size = g.met.D.Disk.sized c.args.disk.now s told in
    let long : length c.read.new.into ≡ 17 = search rules in
    let cell = c.in-Done.ensures.bytes s told ∙ ap (λ (n : ℕ). bytes_at s.now.bytes c.args.at n) long in
    is_read s c.args.at c.value_of.result (omega (arith, size, c.requires))
    (c.value_of.ensures ∙ ap (λ (bytes : List ℕ). (cell_of bytes).value) cell)
