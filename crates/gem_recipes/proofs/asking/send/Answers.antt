-- What the put of the recipe came to.

use Rattle.gem_recipes.specs.declared.keeper.RecipePut.TheVariants.{Failed, NoSpace, Stored, TooLong}
use Rattle.gem_recipes.proofs.Serving.{sent_by}
use Rattle.gem_recipes.proofs.asking.send.Goals as goal

pub returns-in-Stored-clause-serves : goal.returns-in-Stored-clause-serves
returns-in-Stored-clause-serves g c =
    sent_by (g.K.RecipeKeeper.slots c.args.keeper.now) c.args.name.now c.bytes.result.now c.args.body.now
    c.as_slice.result.now (g.K.RecipeKeeper.told c.args.keeper.now) (g.K.RecipeKeeper.told c.put.new.self) Stored
    c.bytes.ensures.bytes c.as_slice.ensures c.in-Stored.ensures.answer c.in-Stored.ensures.told

pub returns-in-TooLong-clause-serves : goal.returns-in-TooLong-clause-serves
returns-in-TooLong-clause-serves g c =
    sent_by (g.K.RecipeKeeper.slots c.args.keeper.now) c.args.name.now c.bytes.result.now c.args.body.now
    c.as_slice.result.now (g.K.RecipeKeeper.told c.args.keeper.now) (g.K.RecipeKeeper.told c.put.new.self) TooLong
    c.bytes.ensures.bytes c.as_slice.ensures c.in-TooLong.ensures.answer c.in-TooLong.ensures.told

pub returns-in-NoSpace-clause-serves : goal.returns-in-NoSpace-clause-serves
returns-in-NoSpace-clause-serves g c =
    sent_by (g.K.RecipeKeeper.slots c.args.keeper.now) c.args.name.now c.bytes.result.now c.args.body.now
    c.as_slice.result.now (g.K.RecipeKeeper.told c.args.keeper.now) (g.K.RecipeKeeper.told c.put.new.self) NoSpace
    c.bytes.ensures.bytes c.as_slice.ensures c.in-NoSpace.ensures.answer c.in-NoSpace.ensures.told

pub returns-in-Failed-clause-serves : goal.returns-in-Failed-clause-serves
returns-in-Failed-clause-serves g c =
    sent_by (g.K.RecipeKeeper.slots c.args.keeper.now) c.args.name.now c.bytes.result.now c.args.body.now
    c.as_slice.result.now (g.K.RecipeKeeper.told c.args.keeper.now) (g.K.RecipeKeeper.told c.put.new.self) Failed
    c.bytes.ensures.bytes c.as_slice.ensures c.in-Failed.ensures.answer c.in-Failed.ensures.told
