-- What is too long is refused, and all else has what its put would have.

use Rattle.std.proofs.Common.{arith}
use Rattle.gem_recipes.specs.declared.asking.RecipesAsked.TheVariants as asking
use Rattle.gem_recipes.specs.Requests.{most_length}
use Rattle.gem_recipes.proofs.Serving.{full_inquiry, long_inquiry, none_made, passes, space_inquiry, stays_under}
use Rattle.gem_recipes.proofs.asking.inquire.Goals as goal

pub returns-then-length-gt-MOST_LENGTH-clause-serves : goal.returns-then-length-gt-MOST_LENGTH-clause-serves
returns-then-length-gt-MOST_LENGTH-clause-serves g c =
    long_inquiry (g.K.RecipeKeeper.slots c.args.keeper.now) c.args.name.now c.args.length
    (g.K.RecipeKeeper.told c.args.keeper.now)
    (passes most_length c.args.length (omega (arith, c.if-length-gt-MOST_LENGTH.true)))

pub returns-in-Stored-clause-serves : goal.returns-in-Stored-clause-serves
returns-in-Stored-clause-serves g c =
    space_inquiry (g.K.RecipeKeeper.slots c.args.keeper.now) c.args.name.now c.bytes.result.now c.args.length
    (g.K.RecipeKeeper.told c.args.keeper.now) (g.K.RecipeKeeper.told c.room.new.self) c.bytes.ensures.bytes
    (stays_under most_length c.args.length (omega (arith, c.if-length-gt-MOST_LENGTH.false)))
    c.in-Stored.ensures.answer c.in-Stored.ensures.told

pub returns-in-NoSpace-clause-serves : goal.returns-in-NoSpace-clause-serves
returns-in-NoSpace-clause-serves g c =
    full_inquiry (g.K.RecipeKeeper.slots c.args.keeper.now) c.args.name.now c.bytes.result.now c.args.length
    (g.K.RecipeKeeper.told c.args.keeper.now) (g.K.RecipeKeeper.told c.room.new.self) c.bytes.ensures.bytes
    (stays_under most_length c.args.length (omega (arith, c.if-length-gt-MOST_LENGTH.false)))
    c.in-NoSpace.ensures.answer c.in-NoSpace.ensures.told

pub returns-in-TooLong-clause-serves : goal.returns-in-TooLong-clause-serves
returns-in-TooLong-clause-serves g c = absurd c.in-TooLong.ensures.answer

pub returns-in-Failed-clause-serves : goal.returns-in-Failed-clause-serves
returns-in-Failed-clause-serves g c =
    none_made (g.K.RecipeKeeper.slots c.args.keeper.now) (asking.Inquire c.args.name.now c.args.length)
    (g.K.RecipeKeeper.told c.args.keeper.now) (g.K.RecipeKeeper.told c.room.new.self) c.in-Failed.ensures.told
