use Rattle.std.proofs.Common.{◌∙◌, true, false, refl, subst, sym, inr}
use Rattle.std.specs.Prelude.{Err}
use Rattle.gem_recipes.specs.Asking.{has_failed}
use Rattle.gem_recipes.specs.Keeper.{HasKeeperCause, IsSoundUnless}
use Rattle.gem_recipes.specs.declared.asking.Unanswered.{Unanswered}
use Rattle.tool_core.specs.Node.{node_of, own_of}
use Rattle.tool_core.specs.Serving.{ServesOwed}
use Rattle.tool_step.specs.Recipes.{owes_recipes}
use Rattle.equipment_node.specs.Amid.{done_last}
use Rattle.equipment_node.proofs.Offering.{none-owed-of}
use Rattle.equipment_node.proofs.KeeperSteps.{can-be-if, holds-served, last-at, last-served, node-served, own-served}
use Rattle.equipment_node.proofs.KeeperSteps.{served-offers, served-ready, stays-by, was-asked}
use Rattle.equipment_node.proofs.serving.serve_last.Goals as goal

-- ---- it has answered, or wasn't asked

pub end_with-requires : goal.end_with-requires
end_with-requires g c = record {
  now = c.requires.now;
  room = c.requires.room;
  ready =
      served-ready g.D.Disk c.args.spool.spool (node_of c.args.tool.now) (node_of c.serve.new.self) c.requires.ready
      c.in-Ok.ensures.own;
  can = c.requires.can;
}

pub serve-requires : goal.serve-requires
serve-requires g c owes = c.requires.keeper.sound (c.requires.keeper.asks owes)

pub returns-in-Ok-clause-keeper : goal.returns-in-Ok-clause-keeper
returns-in-Ok-clause-keeper g c =
    can-be-if g.K.RecipeKeeper c.args.keeper.now c.serve.new.keeper (own_of c.args.tool.now.own)
    (own_of c.serve.new.self.own) (own_of c.end_with.new.tool.own) c.end_with.result c.requires.keeper
    (stays-by g.K.RecipeKeeper c.args.keeper.now c.serve.new.keeper false c.in-Ok.ensures.same c.in-Ok.ensures.sound
    c.in-Ok.ensures.cause)
    (served-offers (own_of c.args.tool.now.own) (own_of c.serve.new.self.own) c.in-Ok.ensures.own)
    c.end_with.ensures.offers

pub returns-in-Ok-clause-ends : goal.returns-in-Ok-clause-ends
returns-in-Ok-clause-ends g c kept tells =
    last-served g.D.Disk kept c.args.spool (done_last c.args.oldest c.args.now) (node_of c.args.tool.now)
    (node_of c.serve.new.self) (node_of c.end_with.new.tool) c.args.out.now c.end_with.new.out c.end_with.result
    (node-served (node_of c.args.tool.now) (node_of c.serve.new.self) kept
    (own-served g.K.RecipeKeeper c.args.keeper.now c.serve.new.keeper (own_of c.args.tool.now.own)
    (own_of c.serve.new.self.own) kept c.requires.keeper tells c.in-Ok.ensures.serves c.in-Ok.ensures.none)
    c.in-Ok.ensures.core)
    c.end_with.ensures.ends

pub returns-in-Ok-clause-recipes : goal.returns-in-Ok-clause-recipes
returns-in-Ok-clause-recipes g c kept is =
    holds-served g.K.RecipeKeeper kept (own_of c.args.tool.now.own) c.serve.new.keeper c.end_with.result
    (c.in-Ok.ensures.serves kept is).1

pub returns-in-Ok-clause-stays : goal.returns-in-Ok-clause-stays
returns-in-Ok-clause-stays g c =
    last-at g.D.Disk g.K.RecipeKeeper c.args.keeper.now c.serve.new.keeper c.args.spool
    (done_last c.args.oldest c.args.now) (node_of c.serve.new.self) (node_of c.end_with.new.tool) c.args.out.now
    c.end_with.new.out c.end_with.result
    (stays-by g.K.RecipeKeeper c.args.keeper.now c.serve.new.keeper false c.in-Ok.ensures.same c.in-Ok.ensures.sound
    c.in-Ok.ensures.cause)
    c.end_with.ensures.ends

pub returns-in-Ok-clause-unasked : goal.returns-in-Ok-clause-unasked
returns-in-Ok-clause-unasked g c none =
    (c.in-Ok.ensures.none
    (none-owed-of g.K.RecipeKeeper c.args.keeper.now (own_of c.args.tool.now.own) c.requires.keeper
    (sym c.requires.keeper.offers ∙ none))).2

-- ---- it has failed

pub returns-in-Err-Failed-clause-ends : goal.returns-in-Err-Failed-clause-ends
returns-in-Err-Failed-clause-ends g c kept tells = (
  c.retire.ensures.disk,
  was-asked (owes_recipes (own_of c.args.tool.now.own).owed) c.in-Err-Failed.field-0 (λ none.
      (c.in-Err-Failed.ensures.none none).0),
  refl,
)

pub returns-in-Err-Failed-clause-recipes : goal.returns-in-Err-Failed-clause-recipes
returns-in-Err-Failed-clause-recipes g c kept is =
    inr
    (subst
    (λ (why : Unanswered).
    ServesOwed g.K.RecipeKeeper kept (own_of c.args.tool.now.own) (own_of c.serve.new.self.own) c.serve.new.keeper
    (Err why))
    c.in-Err-Failed.field-0-is (c.in-Err-Failed.ensures.serves kept is))

pub returns-in-Err-Failed-clause-stays : goal.returns-in-Err-Failed-clause-stays
returns-in-Err-Failed-clause-stays g c = (
  c.retire.ensures.disk,
  stays-by g.K.RecipeKeeper c.args.keeper.now c.serve.new.keeper true c.in-Err-Failed.ensures.same
      (subst
      (λ (why : Unanswered).
      g.K.RecipeKeeper.sound c.args.keeper.now
      → IsSoundUnless (has_failed {A = Unit {0}} (Err why)) (g.K.RecipeKeeper.sound c.serve.new.keeper))
      c.in-Err-Failed.field-0-is c.in-Err-Failed.ensures.sound)
      (subst
      (λ (why : Unanswered).
      HasKeeperCause (has_failed {A = Unit {0}} (Err why)) (g.K.RecipeKeeper.faults c.args.keeper.now)
      (g.K.RecipeKeeper.faults c.serve.new.keeper))
      c.in-Err-Failed.field-0-is c.in-Err-Failed.ensures.cause),
)

pub returns-in-Err-Failed-clause-unasked : goal.returns-in-Err-Failed-clause-unasked
returns-in-Err-Failed-clause-unasked g c none =
    (c.in-Err-Failed.ensures.none
    (none-owed-of g.K.RecipeKeeper c.args.keeper.now (own_of c.args.tool.now.own) c.requires.keeper
    (sym c.requires.keeper.offers ∙ none))).2
