-- As many bytes are put as there is room for, which are those that are kept.

use Rattle.std.proofs.Common.{◌≡◌, ap, subst, ◌∙◌, arith, rules}
use Rattle.live_commands.specs.Coming.{Standing, kept, with_bytes}
use Rattle.live_commands.proofs.Kept.{kept_put, kept_short}
use Rattle.live_commands.proofs.open_line.OpenLine.keep.Goals as goal

pub returns-clause-new : goal.returns-clause-new
returns-clause-new c =
    let s = c.self.inside in
    kept_put s.number s.bytes.items c.args.bytes.now c.extend_from_slice.new.self.items
    (omega (arith, c.self.invariant.0, s.bytes.ok.0)) (search rules)
    ∙ ap (with_bytes c.args.bytes.now) c.self.view_is

pub returns-clause-kept : goal.returns-clause-kept
returns-clause-kept c =
    let s = c.self.inside in
    subst (λ (t : Standing). kept t.line ≡ t.line) c.self.view_is
    (kept_short s.bytes.items (omega (arith, c.self.invariant.0, s.bytes.ok.0)))
