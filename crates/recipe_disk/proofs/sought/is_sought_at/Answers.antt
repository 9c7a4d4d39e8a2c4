-- A slot that can't be such a one by its hint isn't; the head decides of any other.
use Rattle.std.proofs.Common.{◌≡◌, ◌∙◌, ◌&&◌, ap, arith, false, sym}
use Rattle.recipe_disk.specs.Reading.{is_sought}
use Rattle.recipe_disk.specs.declared.head.Head.{Head}
use Rattle.recipe_disk.proofs.Hinted.{there_by_hint}
use Rattle.recipe_disk.proofs.sought.is_sought_at.Goals as goal

pub returns-then-not-may_be-clause-found : goal.returns-then-not-may_be-clause-found
returns-then-not-may_be-clause-found g c s told is =
    let nay : c.may_be.result ≡ false = grind (arith, c.if-not-may_be.true) in
    there_by_hint c.args.sought s.now.bytes c.args.slot c.args.print c.args.hint c.may_be.result c.requires.print is c.may_be.ensures nay

pub returns-in-Ok-clause-found : goal.returns-in-Ok-clause-found
returns-in-Ok-clause-found g c s told is =
    c.is_sought.ensures
    ∙ ap (λ (h : Head). h.opened && is_sought c.args.sought h) (c.in-Ok.ensures.head s told)
