use Rattle.std.proofs.Common.{subst, sym}
use Rattle.std.specs.Prelude.{Ok, Err}
use Rattle.equipment_node.specs.Held.{Begins}
use Rattle.equipment_node.specs.StartCalls.{CallsInStart}
use Rattle.equipment_node.proofs.StartOffering.{begun-with, unbegun-with, uncalled-with}
use Rattle.equipment_node.proofs.equipment.Equipment.start.Goals as goal

pub returns-in-Ok-clause-begins : goal.returns-in-Ok-clause-begins
returns-in-Ok-clause-begins g c s told =
    subst (λ h. Begins g.D.Disk g.K.RecipeKeeper c.args.plan.now s c.start_without.new.out (Ok h))
    (sym c.kept_by.ensures)
    (begun-with g.D.Disk g.K.RecipeKeeper c.args.keeper c.in-Ok.equipment c.args.plan.now s.now.bytes
    c.start_without.new.out (c.in-Ok.ensures.begins s told))

pub returns-in-Err-clause-begins : goal.returns-in-Err-clause-begins
returns-in-Err-clause-begins g c s told =
    subst (λ why. Begins g.D.Disk g.K.RecipeKeeper c.args.plan.now s c.start_without.new.out (Err why))
    (sym c.unstarted_by.ensures)
    (unbegun-with g.D.Disk g.K.RecipeKeeper c.args.keeper c.args.plan.now s c.start_without.new.out c.in-Err.why
    (c.in-Err.ensures.begins s told))

pub returns-in-Ok-clause-calls : goal.returns-in-Ok-clause-calls
returns-in-Ok-clause-calls g c s told =
    subst (λ h. CallsInStart g.D.Disk c.args.raw.disk s.now.bytes (Ok h)) (sym c.kept_by.ensures)
    (c.in-Ok.ensures.calls s told)

pub returns-in-Err-clause-calls : goal.returns-in-Err-clause-calls
returns-in-Err-clause-calls g c s told =
    subst (λ why. CallsInStart g.D.Disk c.args.raw.disk s.now.bytes (Err why)) (sym c.unstarted_by.ensures)
    (uncalled-with g.D.Disk g.K.RecipeKeeper c.args.keeper c.args.raw.disk s.now.bytes c.in-Err.why
    (c.in-Err.ensures.calls s told))
