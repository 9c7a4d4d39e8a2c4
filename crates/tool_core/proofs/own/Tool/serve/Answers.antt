-- The keeper answers what is owed to it, if anything is.

use Rattle.std.proofs.Common.{◌∙◌, ap, refl, Some, sym}
use Rattle.tool_core.specs.Node.{own_of}
use Rattle.tool_step.specs.declared.owed.Owed.TheVariants.{Answered, Keep}
use Rattle.tool_step.specs.Recipes.{owes_recipes}
use Rattle.tool_core.proofs.Served.{asks, serves_given, serves_not, serves_nothing, stays}
use Rattle.tool_core.proofs.own.Tool.serve.Goals as goal

pub answer_by-requires : goal.answer_by-requires
answer_by-requires g c =
    c.requires
    (ap owes_recipes (sym c.take.ensures.value ∙ c.in-Some-Recipes.is ∙ ap Some c.in-Some-Recipes.field-0-is))

pub returns-in-Ok-clause-serves : goal.returns-in-Ok-clause-serves
returns-in-Ok-clause-serves g c =
    λ kept is.
    serves_given g.K.RecipeKeeper kept (own_of c.args.self.now.own) c.args.keeper.now c.answer_by.new.keeper
    c.in-Some-Recipes.asked c.in-Some-Recipes.primary c.in-Ok.given is
    (sym c.take.ensures.value ∙ c.in-Some-Recipes.is ∙ ap Some c.in-Some-Recipes.field-0-is)
    c.in-Ok.ensures.serves c.in-Ok.ensures.keeper.0

pub returns-in-Err-clause-serves : goal.returns-in-Err-clause-serves
returns-in-Err-clause-serves g c =
    λ kept is.
    serves_not g.K.RecipeKeeper kept (own_of c.args.self.now.own)
    (record (own_of c.args.self.now.own) { owed = c.take.new.self }) c.args.keeper.now c.answer_by.new.keeper
    c.in-Some-Recipes.asked c.in-Some-Recipes.primary c.in-Err.why is
    (sym c.take.ensures.value ∙ c.in-Some-Recipes.is ∙ ap Some c.in-Some-Recipes.field-0-is)
    c.in-Err.ensures.serves c.in-Err.ensures.keeper.0

pub returns-in-Some-Keep-clause-serves : goal.returns-in-Some-Keep-clause-serves
returns-in-Some-Keep-clause-serves g c =
    λ kept is.
    serves_nothing g.K.RecipeKeeper kept (own_of c.args.self.now.own) c.args.keeper.now
    (Some (Keep c.in-Some-Keep.primary)) is
    (sym c.take.ensures.value ∙ c.in-Some-Keep.is ∙ ap Some c.in-Some-Keep.field-0-is) refl

pub returns-in-Some-Answered-clause-serves : goal.returns-in-Some-Answered-clause-serves
returns-in-Some-Answered-clause-serves g c =
    λ kept is.
    serves_nothing g.K.RecipeKeeper kept (own_of c.args.self.now.own) c.args.keeper.now
    (Some (Answered c.in-Some-Answered.given c.in-Some-Answered.primary)) is
    (sym c.take.ensures.value ∙ c.in-Some-Answered.is ∙ ap Some c.in-Some-Answered.field-0-is) refl

pub returns-in-None-clause-serves : goal.returns-in-None-clause-serves
returns-in-None-clause-serves g c =
    λ kept is.
    serves_nothing g.K.RecipeKeeper kept (own_of c.args.self.now.own) c.args.keeper.now c.take.new.self is
    (sym c.take.ensures.value ∙ c.in-None.is ∙ sym c.take.ensures.after) (ap owes_recipes c.take.ensures.after)

pub returns-in-Ok-clause-none : goal.returns-in-Ok-clause-none
returns-in-Ok-clause-none g c =
    asks (own_of c.args.self.now.own).owed c.in-Some-Recipes.asked c.in-Some-Recipes.primary
    (sym c.take.ensures.value ∙ c.in-Some-Recipes.is ∙ ap Some c.in-Some-Recipes.field-0-is)

pub returns-in-Err-clause-none : goal.returns-in-Err-clause-none
returns-in-Err-clause-none g c =
    asks (own_of c.args.self.now.own).owed c.in-Some-Recipes.asked c.in-Some-Recipes.primary
    (sym c.take.ensures.value ∙ c.in-Some-Recipes.is ∙ ap Some c.in-Some-Recipes.field-0-is)

pub returns-in-Some-Keep-clause-none : goal.returns-in-Some-Keep-clause-none
returns-in-Some-Keep-clause-none g c =
    λ none. (
      refl,
      stays (own_of c.args.self.now.own)
          (sym c.take.ensures.value ∙ c.in-Some-Keep.is ∙ ap Some c.in-Some-Keep.field-0-is),
      refl,
    )

pub returns-in-Some-Answered-clause-none : goal.returns-in-Some-Answered-clause-none
returns-in-Some-Answered-clause-none g c =
    λ none. (
      refl,
      stays (own_of c.args.self.now.own)
          (sym c.take.ensures.value ∙ c.in-Some-Answered.is ∙ ap Some c.in-Some-Answered.field-0-is),
      refl,
    )

pub returns-in-None-clause-none : goal.returns-in-None-clause-none
returns-in-None-clause-none g c =
    λ none. (
      refl,
      stays (own_of c.args.self.now.own) (sym c.take.ensures.value ∙ c.in-None.is ∙ sym c.take.ensures.after),
      refl,
    )
