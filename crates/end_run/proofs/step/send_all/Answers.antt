-- The characters are sent or not, with the fault that is counted.

use Rattle.std.proofs.Common.{refl, rules, ◌<◌, length}
use Rattle.end_run.proofs.Stepping.{send_fails}
use Rattle.end_run.proofs.step.send_all.Goals as goal

pub returns-in-Failed-clause-does : goal.returns-in-Failed-clause-does
returns-in-Failed-clause-does g c =
    let some : 0 < length c.args.characters.now = search rules in
    λ received health s room stop.
    send_fails _ _ _ _ c.args.characters.now some c.in-Failed.ensures.told c.in-Failed.ensures.moment
    c.in-Failed.ensures.cause

pub returns-in-Failed-clause-counts : goal.returns-in-Failed-clause-counts
returns-in-Failed-clause-counts g c = λ out disk. (c.in-Failed.ensures.cause.rose, refl, refl)

pub returns-in-Done-clause-counts : goal.returns-in-Done-clause-counts
returns-in-Done-clause-counts g c = λ out disk. (c.in-Done.ensures.cause.same, refl, refl)
