-- One trace more is settled, and there was room for its body.

use Rattle.std.proofs.Common.{sym, ◌∙◌, ap, subst, ◌+◌, ◌++◌, ◌≤◌, length}
use Rattle.std.specs.Prelude.{set, vec_capacity}
use Rattle.std.specs.Option.{option_to_list}
use Rattle.gem_trace.specs.declared.trace.Trace.{Trace}
use Rattle.gem_trace.specs.Kept.{body_read, settled}
use Rattle.gem_trace.proofs.Settling.{AreSettled, one_settled, room_at}
use Rattle.gem_trace.proofs.traces.settle_each.Goals as goal

pub settle-requires-clause-room : goal.settle-requires-clause-room
settle-requires-clause-room c =
    subst
    (λ (t : Trace). length (c.loop-i.bodies.items ++ option_to_list (body_read c.args.now t))
    ≤ vec_capacity c.loop-i.bodies) c.index-running-i.is
    (room_at c.args.now c.args.running.now c.loop-i.i c.loop-i.running c.loop-i.bodies.items
    (vec_capacity c.loop-i.bodies) c.loop-i.invariant c.index-running-i.result c.loop-i-test.true
    c.index-running-i.is)

pub loop-i-preserved : goal.loop-i-preserved
loop-i-preserved c =
    subst
    (λ (t : Trace). AreSettled c.args.now c.args.running.now (c.loop-i.i + 1) (set c.loop-i.running c.loop-i.i t)
    c.settle.new.bodies.items (vec_capacity c.settle.new.bodies))
    (sym (c.settle.ensures.trace ∙ ap (settled c.args.now) (sym c.index-running-i.is)))
    (subst
    (AreSettled c.args.now c.args.running.now (c.loop-i.i + 1)
    (set c.loop-i.running c.loop-i.i (settled c.args.now c.index-running-i.result)) c.settle.new.bodies.items)
    (sym c.settle.ensures.capacity)
    (one_settled c.args.now c.args.running.now c.loop-i.i c.loop-i.running c.loop-i.bodies.items
    (vec_capacity c.loop-i.bodies) c.loop-i.invariant c.index-running-i.result c.loop-i-test.true
    c.index-running-i.is c.settle.new.bodies.items
    (c.settle.ensures.bodies
    ∙ ap (λ (t : Trace). c.loop-i.bodies.items ++ option_to_list (body_read c.args.now t))
    (sym c.index-running-i.is))))
