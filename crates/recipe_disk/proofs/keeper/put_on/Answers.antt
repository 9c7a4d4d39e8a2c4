-- Each end is by what was found and written.
use Rattle.std.proofs.Common.{◌∙◌, ◌≤◌, arith, length, subst, sym}
use Rattle.gem_recipes.specs.Recipes.{most_body}
use Rattle.recipe_disk.specs.Slot.{slot_place}
use Rattle.recipe_disk.proofs.Hinted.{known_looked}
use Rattle.recipe_disk.proofs.Keeping.{put_failed, put_no_space, put_not_looked, put_stored, put_too_long}
use Rattle.recipe_disk.proofs.keeper.put_on.Goals as goal

pub returns-then-body-gt-BODY_MOST-clause-done : goal.returns-then-body-gt-BODY_MOST-clause-done
returns-then-body-gt-BODY_MOST-clause-done g c = put_too_long g.D.Disk c.args.slots _ c.args.name.now c.requires.name c.requires.kept c.args.body.now (omega (arith, c.if-body-gt-BODY_MOST.true))

pub returns-in-Err-clause-done : goal.returns-in-Err-clause-done
returns-in-Err-clause-done g c =
    put_not_looked g.D.Disk c.args.slots _ c.args.name.now c.requires.name c.requires.kept _ c.args.body.now c.in-Err.ensures.looked

pub returns-in-None-clause-done : goal.returns-in-None-clause-done
returns-in-None-clause-done g c =
    let short : length c.args.body.now ≤ most_body = omega (arith, c.if-body-gt-BODY_MOST.false) in
    put_no_space g.D.Disk c.args.slots _ c.args.name.now c.requires.name c.requires.kept _ c.in-Ok.survey c.in-Ok.ensures.looked c.in-Ok.ensures.survey
    c.args.body.now short (sym c.place.ensures ∙ c.in-None.is)

pub returns-in-Done-clause-done : goal.returns-in-Done-clause-done
returns-in-Done-clause-done g c =
    let short : length c.args.body.now ≤ most_body = omega (arith, c.if-body-gt-BODY_MOST.false) in
    put_stored g.D.Disk c.args.slots _ c.args.name.now c.requires.name c.requires.kept _ c.in-Ok.survey c.in-Ok.ensures.looked c.in-Ok.ensures.survey
    c.in-Some.slot c.args.body.now short (sym c.place.ensures ∙ c.in-Some.is) _ c.in-Done.ensures.written

pub returns-in-Failed-clause-done : goal.returns-in-Failed-clause-done
returns-in-Failed-clause-done g c =
    let short : length c.args.body.now ≤ most_body = omega (arith, c.if-body-gt-BODY_MOST.false) in
    put_failed g.D.Disk c.args.slots _ c.args.name.now c.requires.name c.requires.kept _ c.in-Ok.survey c.in-Ok.ensures.looked c.in-Ok.ensures.survey
    c.in-Some.slot c.args.body.now short (sym c.place.ensures ∙ c.in-Some.is) _ c.in-Failed.ensures.written

pub returns-in-None-clause-known : goal.returns-in-None-clause-known
returns-in-None-clause-known g c = known_looked _ _ _ _ c.in-Ok.ensures.looked.told c.requires.known

pub returns-in-Done-clause-known : goal.returns-in-Done-clause-known
returns-in-Done-clause-known g c =
    c.in-Done.ensures.known c.args.slots
    (subst (λ n. slot_place c.args.slots ≤ n) (sym c.in-Ok.ensures.looked.made.size) c.requires.kept.inside)
    (known_looked _ _ _ _ c.in-Ok.ensures.looked.told c.requires.known)
