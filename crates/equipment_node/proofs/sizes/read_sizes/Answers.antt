-- One message more was read, or one ends the reading.

use Rattle.std.proofs.Common.{◌+◌, ◌-◌, ℕ, List, sym, subst, arith}
use Rattle.equipment_node.proofs.ReadSizes.{IsUnderWay, all-read, none-read, one-failed, one-lacks, one-read}
use Rattle.equipment_node.proofs.sizes.read_sizes.Goals as goal

pub messages-init : goal.messages-init
messages-init g c =
    subst (λ (n : ℕ). IsUnderWay g.D.Disk c.args.spool.now c.args.spool.now n c.used-left.result 0 c.new-sizes.result)
    (sym c.first-number.ensures.first)
    (subst
    (λ (sizes : List ℕ).
    IsUnderWay g.D.Disk c.args.spool.now c.args.spool.now c.args.spool.now.first c.used-left.result 0 sizes)
    (sym c.new-sizes.ensures)
    (none-read g.D.Disk c.args.spool.now c.len-count.ensures.rests c.used-left.result c.len-count.ensures.from
    c.len-count.ensures.none c.used-left.ensures.used))

pub returns-in_default : goal.returns-in_default
returns-in_default g c =
    one-failed g.D.Disk c.args.spool.now c.len-count.ensures.rests c.messages.spool c.messages.number c.messages.left
    c.messages.at c.messages.sizes c.messages.invariant
    (omega (arith, c.messages-test.true, c.len-count.ensures.len)) c.read_size.new.spool c.in_default.ensures

pub overflow_cast-size : goal.overflow_cast-size
overflow_cast-size g c = let short = c.in-Some.ensures.short in omega (arith, short)

pub returns-in_default-push : goal.returns-in_default-push
returns-in_default-push g c =
    one-lacks g.D.Disk c.args.spool.now c.len-count.ensures.rests c.messages.spool c.messages.number c.messages.left
    c.messages.at c.messages.sizes c.messages.invariant
    (omega (arith, c.messages-test.true, c.len-count.ensures.len)) c.read_size.new.spool c.in-Some.size _
    (omega (arith, c.len-count.ensures.len)) c.in-Some.ensures

pub messages-preserved : goal.messages-preserved
messages-preserved g c =
    subst
    (λ (n : ℕ).
    IsUnderWay g.D.Disk c.args.spool.now c.read_size.new.spool (c.messages.number + n)
    (c.messages.left - c.in-Some.size) (c.messages.at + 1) c.push.new.self)
    (sym c.from-number.ensures)
    (subst
    (λ (sizes : List ℕ).
    IsUnderWay g.D.Disk c.args.spool.now c.read_size.new.spool (c.messages.number + c.in-Some.size)
    (c.messages.left - c.in-Some.size) (c.messages.at + 1) sizes)
    (sym c.in-Ok.ensures.ok)
    (one-read g.D.Disk c.args.spool.now c.len-count.ensures.rests c.messages.spool c.messages.number c.messages.left
    c.messages.at c.messages.sizes c.messages.invariant
    (omega (arith, c.messages-test.true, c.len-count.ensures.len)) c.read_size.new.spool c.in-Some.size _
    (omega (arith, c.len-count.ensures.len)) c.in-Some.ensures))

pub returns : goal.returns
returns g c =
    all-read g.D.Disk c.args.spool.now c.len-count.ensures.rests c.messages.spool c.messages.number c.messages.left
    c.messages.at c.messages.sizes c.messages.invariant
    (omega (arith, c.messages-test.false, c.messages.auto.at-end, c.len-count.ensures.len))
