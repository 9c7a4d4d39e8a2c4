-- The call on the disk, and the flag.
use Rattle.std.proofs.Common.{◌∙◌, ap, refl, subst, sym}
use Rattle.gem_recipes.specs.Keeper.{AnswersRoom, HasKeeperCause, put_failed}
use Rattle.recipe_disk.specs.Changes.{recipes_told}
use Rattle.recipe_disk.specs.Opening.{IsReady, RecipeView}
use Rattle.recipe_disk.specs.Reading.{HasLooked, put_answer_of}
use Rattle.recipe_disk.proofs.Ready.{known_behind, known_ready, put_fails, kept_unless, ready_unless, same_cause}
use Rattle.recipe_disk.proofs.keeper.RecipeDiskRecipeKeeper.room.Goals as goal

pub room_for-answer-requires-clause-kept : goal.room_for-answer-requires-clause-kept
room_for-answer-requires-clause-kept g c = (subst (IsReady g.D.Disk) (sym c.self.view_is) c.requires.sound).kept

pub returns-clause-answer : goal.returns-clause-answer
returns-clause-answer g c =
    subst (λ (v : RecipeView g.row.D.Denot). AnswersRoom v.slots c.args.name.now (recipes_told (g.D.Disk.told v.disk)) c.room_for-answer.result) c.self.view_is c.room_for-answer.ensures.answer

pub returns-clause-told : goal.returns-clause-told
returns-clause-told g c =
    ap recipes_told c.room_for-answer.ensures.looked.told ∙ ap (λ (v : RecipeView g.row.D.Denot). recipes_told (g.D.Disk.told v.disk)) c.self.view_is

pub returns-clause-same : goal.returns-clause-same
returns-clause-same g c = (ap (λ (v : RecipeView g.row.D.Denot). v.slots) c.self.view_is, refl)

pub returns-clause-sound : goal.returns-clause-sound
returns-clause-sound g c =
    ready_unless g.D.Disk _ _ c.has_put_failed-self-inside.ensures
    (kept_unless g.D.Disk _ _ _ (subst (IsReady g.D.Disk) (sym c.self.view_is) c.requires.sound).kept _ _ c.room_for-answer.ensures.looked)

pub returns-clause-cause : goal.returns-clause-cause
returns-clause-cause g c =
    subst (λ (v : RecipeView g.row.D.Denot). HasKeeperCause (put_failed c.room_for-answer.result) (g.D.Disk.health v.disk).faults (g.D.Disk.health c.room_for-answer.new.disk).faults)
    c.self.view_is (same_cause _ _ _ _ (put_fails c.room_for-answer.result) c.room_for-answer.ensures.looked.made.cause)

pub returns-clause-looked : goal.returns-clause-looked
returns-clause-looked g c =
    subst (λ (v : RecipeView g.row.D.Denot). HasLooked g.D.Disk v.disk c.room_for-answer.new.disk (put_answer_of c.room_for-answer.result)) c.self.view_is c.room_for-answer.ensures.looked

pub room_for-answer-requires-clause-known : goal.room_for-answer-requires-clause-known
room_for-answer-requires-clause-known g c =
    known_ready c.self.inside.failed _ _ _ (subst (IsReady g.D.Disk) (sym c.self.view_is) c.requires.sound).going c.self.invariant

pub invariant_of-self : goal.invariant_of-self
invariant_of-self g c =
    known_behind c.has_put_failed-self-inside.result _ _ _ _ c.room_for-answer.ensures.looked.told
    (known_ready c.self.inside.failed _ _ _ (subst (IsReady g.D.Disk) (sym c.self.view_is) c.requires.sound).going c.self.invariant)
