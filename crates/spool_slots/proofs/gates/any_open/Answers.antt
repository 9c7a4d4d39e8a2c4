-- The first open one tells, and with none left none is.

use Rattle.std.proofs.Common.{◌≡◌, ℕ, ◌∙◌, false, slice_index, refl, ap, sym, subst, arith}
use Rattle.disk_base.proofs.Moments.{neither}
use Rattle.spool_file.specs.Area.{any_below}
use Rattle.spool_file.proofs.Firsts.{any_at, one_more}
use Rattle.spool_slots.specs.Losses.{opens}
use Rattle.spool_slots.proofs.gates.any_open.Goals as goal

pub loop-place-init : goal.loop-place-init
loop-place-init c = refl

pub loop-place-preserved : goal.loop-place-preserved
loop-place-preserved c =
    let place = c.loop-place.place in
    subst (λ (n : ℕ). any_below (λ p. opens (slice_index c.args.gates.now p)) n ≡ false) (one_more place)
    (neither (any_below (λ p. opens (slice_index c.args.gates.now p)) place) (opens (slice_index c.args.gates.now place))
    c.loop-place.invariant (ap opens (sym c.gate_at.ensures) ∙ sym c.is_open.ensures ∙ c.if-is_open.false))

pub returns-then-is_open : goal.returns-then-is_open
returns-then-is_open c =
    sym (any_at (λ p. opens (slice_index c.args.gates.now p)) c.args.size c.loop-place.place c.loop-place-test.true
    (ap opens (sym c.gate_at.ensures) ∙ sym c.is_open.ensures ∙ c.if-is_open.true))

pub returns : goal.returns
returns c =
    let end : c.loop-place.place ≡ c.args.size = omega (arith, c.loop-place-test.false, c.loop-place.auto.place-end) in
    sym (subst (λ (n : ℕ). any_below (λ p. opens (slice_index c.args.gates.now p)) n ≡ false) end c.loop-place.invariant)
