-- At first none is marked.

use Rattle.std.proofs.Common.{◌≡◌, ◌∙◌, ◌+◌, ◌≤◌, ℕ, List, Bool, [], ap, refl, length}
use Rattle.disk_base.specs.Cut.{marks_at, marks_of}
use Rattle.disk_base.proofs.Around.{none_at}
use Rattle.disk_base.proofs.cut.mark_calls.Goals as goal

pub loop-entries-init : goal.loop-entries-init
loop-entries-init c =
    let marks = c.args.marks.now in
    let none : (size : ℕ) → c.args.from + length marks ≤ size → marks_at size c.args.from marks ≡ marks_of size [] =
    λ size within.
    ap (λ (ms : List Bool). marks_at size c.args.from ms) c.requires.fresh
    ∙ none_at size c.args.from (length marks) within in
    (c.requires.held, ([], none, refl), refl)
