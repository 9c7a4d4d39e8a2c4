-- Where there are as many slots as messages, each message takes one.
use Rattle.std.proofs.Common.{◌≡◌, ◌-◌, ◌<◌, ◌∙◌, sym, ap, arith, nat_eq, IsTrue, ℕ}
use Rattle.std.proofs.lemmas.Bool.Decides.{nat_tests}
use Rattle.gem_spool.specs.declared.count.Count.{Count}
use Rattle.disk_tests.proofs.Singles.{first-size, oldest-size}
use Rattle.disk_tests.proofs.list_works.has_single.Goals as goal

pub returns-then-len-clause-size : goal.returns-then-len-clause-size
returns-then-len-clause-size g c = λ single some.
    let used = ap (λ (x : Count). x.used) c.count-used.ensures.count in
    let len = c.len.ensures.len in
    let same = c.if-len.true in
    let is : c.count-used.result.used ≡ c.args.len = grind (arith, nat_tests, single) in
    first-size g.D.Disk c.args.spool.now.spool c.len.ensures.stands (omega (arith, used, len, same, is))
    (omega (arith, len, same, some))

pub returns-then-len-clause-oldest : goal.returns-then-len-clause-oldest
returns-then-len-clause-oldest g c = λ single some s told more.
    let used = ap (λ (x : Count). x.used) c.count-used.ensures.count in
    let len = c.len.ensures.len in
    let same = c.if-len.true in
    let is : c.count-used.result.used ≡ c.args.len = grind (arith, nat_tests, single) in
    oldest-size g.D.Disk c.args.spool.now.spool c.len.ensures.stands (omega (arith, used, len, same, is))
    (omega (arith, len, same, some)) s told more
