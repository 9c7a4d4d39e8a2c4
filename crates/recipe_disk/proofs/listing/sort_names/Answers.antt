-- Each comparison is that of the bytes.
use Rattle.std.proofs.Common.{rules}
use Rattle.std.proofs.lemmas.List.Sorted.{answers_always}
use Rattle.std.specs.Ordering.{is_lt}
use Rattle.gem_recipes.specs.Recipes.{by_bytes}
use Rattle.recipe_disk.proofs.Rising.{order}
use Rattle.recipe_disk.proofs.listing.sort_names.Goals as goal

pub returns-clause-order : goal.returns-clause-order
returns-clause-order c =
    c.sort_unstable_by.ensures.sorted (λ name other. is_lt (by_bytes name other)) order (answers_always _ _ _ (λ f a r g h. search rules))
