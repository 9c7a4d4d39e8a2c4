-- The parts and the gate are written, and the hint is that of the recipe.
use Rattle.std.proofs.Common.{◌≡◌, arith, length, rules, set, subst, sym}
use Rattle.recipe_disk.specs.Hints.{KnowsSlots}
use Rattle.recipe_disk.specs.declared.hints.Hint.{Hint}
use Rattle.recipe_disk.proofs.Hinted.{known_opened}
use Rattle.recipe_disk.proofs.settling.settle_recipe.Goals as goal

pub returns-clause-known : goal.returns-clause-known
returns-clause-known g c n few known =
    let long : length c.args.hints.now ≡ 4096 = search rules in
    subst (λ (h : Hint). KnowsSlots (g.D.Disk.told c.settle_gate.new.disk) n (set c.args.hints.now c.args.slot h)) (sym c.hint_for.ensures.hint)
    (known_opened (g.D.Disk.told c.args.disk.now) (g.D.Disk.size_is c.args.disk.now) n c.args.slot c.args.hints.now
    (λ s is. g.met.D.Disk.sized c.args.disk.now s is) few c.requires.within (omega (arith, long, c.requires.most)) known
    c.args.recipe.now.number c.args.recipe.now.name.now c.args.recipe.now.body.now c.hint_for.ensures.number c.requires.name c.requires.body
    (g.D.Disk.told c.settle_parts.new.disk) (g.D.Disk.told c.settle_gate.new.disk) c.in-Done.ensures.told c.in-Done-settle_gate.ensures.told)
