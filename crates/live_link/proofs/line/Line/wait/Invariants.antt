-- Nothing has come of the input yet, and what it has left is kept.

use Rattle.std.specs.Prelude.{◌≡◌, []}
use Rattle.std.specs.Io.KnownBytes.{Keeps}
use Rattle.live_link.proofs.line.Line.wait.Given as goal

abbrev pub invariant-looks : goal.invariant-looks
invariant-looks g l =
    (l.input.bytes ≡ [])
    × Keeps (g.I.Read.remaining l.fn.input.source) (g.I.Read.remaining l.input.source)
