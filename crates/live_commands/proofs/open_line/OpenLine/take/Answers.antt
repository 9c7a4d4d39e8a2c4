-- By where an LF stands first.

use Rattle.std.proofs.Common.{◌+◌, Some, None, sym, subst}
use Rattle.live_commands.specs.Coming.{Standing, TakesLine}
use Rattle.live_commands.proofs.Finding.{line_open, line_taken}
use Rattle.live_commands.proofs.open_line.OpenLine.take.Goals as goal

pub returns-in-Some : goal.returns-in-Some
returns-in-Some c =
    subst (λ (to : Standing). TakesLine c.args.self.now c.args.bytes.now to (Some (c.in-Some.at + 1)))
    (sym c.keep.ensures.new)
    (line_taken c.args.bytes.now c.args.self.now c.in-Some.at (sym c.in-Some.ensures.place) c.in-Some.ensures.within
    c.keep.ensures.kept)

pub returns-in-None : goal.returns-in-None
returns-in-None c =
    subst (λ (to : Standing). TakesLine c.args.self.now c.args.bytes.now to None) (sym c.keep-in-None.ensures.new)
    (line_open c.args.bytes.now c.args.self.now (sym c.in-None.ensures.place) c.keep-in-None.ensures.kept)
