-- The zeros are the first of a row of them.
use Rattle.std.proofs.Common.{◌∙◌, ◌++◌, ℕ, List, ap}
use Rattle.std.proofs.lemmas.List.{take-replicate}
use Rattle.recipe_disk.proofs.Fresh.{from_ok}
use Rattle.recipe_disk.proofs.settling.push_zeros.Goals as goal

pub returns : goal.returns
returns c =
    from_ok _ _ c.unwrap.ensures c.try_extend_from_slice.ensures.ok
    ∙ ap (λ (xs : List ℕ). c.args.parts.now.items ++ xs) (take-replicate c.args.count 80 0 c.requires.count)
