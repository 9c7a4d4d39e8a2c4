-- The plans of made rounds fit and are run; without memory for them nothing is written.

use Rattle.std.proofs.Common.{refl, sym, subst, inl}
use Rattle.equipment_tables.specs.Plan.{PlansFit}
use Rattle.gemline_app.proofs.FittingMade.{made_fit, over_made}
use Rattle.gemline_app.proofs.make.make.Goals as goal

pub make_over-requires : goal.make_over-requires
make_over-requires g c = subst PlansFit (sym c.in-Ok.ensures) made_fit

pub returns-in-Ok : goal.returns-in-Ok
returns-in-Ok g c = over_made _ _ _ _ c.in-Ok.ensures c.make_over.ensures

pub returns-in-Err : goal.returns-in-Err
returns-in-Err g c = inl (refl, record { received = refl; health = refl })
