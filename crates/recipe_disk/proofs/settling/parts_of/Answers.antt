-- Number, length of the name, its area, length of the body and the body are the parts of the definition.
use Rattle.std.proofs.Common.{◌≡◌, ◌∙◌, ◌-◌, ◌∷◌, ◌++◌, ℕ, List, [], ap, length, replicate, rules}
use Rattle.std.specs.Int.{w32, w64, to_be_bytes}
use Rattle.recipe_disk.proofs.Fresh.{from_ok}
use Rattle.recipe_disk.proofs.settling.parts_of.Goals as goal

pub returns : goal.returns
returns c =
    let none : c.new-parts.result.items ≡ [] = search rules in
    let number : c.to_be_bytes.result ≡ to_be_bytes w64 c.args.recipe.now.number = search rules in
    let count : c.to_be_bytes-2.result ≡ to_be_bytes w32 (length c.args.recipe.now.body.now) = search rules in
    let name = c.args.recipe.now.name.now in
    let first = from_ok _ _ c.unwrap.ensures c.try_extend_from_slice.ensures.ok in
    let third = from_ok _ _ c.unwrap-2.ensures c.try_extend_from_slice-2.ensures.ok in
    let fifth = from_ok _ _ c.unwrap-3.ensures c.try_extend_from_slice-3.ensures.ok in
    let last = from_ok _ _ c.unwrap-4.ensures c.try_extend_from_slice-4.ensures.ok in
    last
    ∙ ap (λ (xs : List ℕ). xs ++ c.args.recipe.now.body.now)
    (fifth
    ∙ ap (λ (xs : List ℕ). xs ++ c.to_be_bytes-2.result)
    (c.push_zeros.ensures
    ∙ ap (λ (xs : List ℕ). xs ++ replicate (80 - length name) 0)
    (third
    ∙ ap (λ (xs : List ℕ). xs ++ name)
    (c.push.ensures.items
    ∙ ap (λ (xs : List ℕ). xs ++ (length name ∷ []))
    (first ∙ ap (λ (xs : List ℕ). xs ++ c.to_be_bytes.result) none ∙ number))))
    ∙ ap (λ (xs : List ℕ). to_be_bytes w64 c.args.recipe.now.number ++ (length name ∷ []) ++ name ++ replicate (80 - length name) 0 ++ xs) count)
