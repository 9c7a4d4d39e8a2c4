-- The text is made of its parts, or it has more bytes than may be sent.

use Rattle.std.proofs.Common.{◌<◌, ◌∷◌, ◌++◌, [], ◌∙◌, ap, List, ℕ, arith, length, nat_lt, sym}
use Rattle.std.specs.List.{list_all}
use Rattle.tool_core.proofs.RecipeTexts.{made_text, past_text}
use Rattle.tool_core.proofs.recipes.recipe_text.Goals as goal

pub returns-then-is_longer-clause-is : goal.returns-then-is_longer-clause-is
returns-then-is_longer-clause-is c =
    let long = ap (λ (one : List ℕ). length one) c.bytes-bytes.ensures.bytes in
    let short : length c.args.name.now < 256 = omega (arith, c.bytes-bytes.ensures.is.most, long) in
    past_text c.args.max_body c.args.name.now c.bytes-bytes.result.now c.args.body.now c.bytes-bytes.ensures.bytes short
    (sym c.if-is_longer.ensures)

pub returns-clause-is : goal.returns-clause-is
returns-clause-is c =
    let long = ap (λ (one : List ℕ). length one) c.bytes-bytes.ensures.bytes in
    let short : length c.args.name.now < 256 = omega (arith, c.bytes-bytes.ensures.is.most, long) in
    (made_text c.args.max_body c.args.name.now c.bytes-bytes.result.now c.args.body.now c.extend-2.new.self
    c.bytes-bytes.ensures.bytes short (sym c.if-is_longer.ensures)
    (c.in_ok-extend-2.ensures.ok
    ∙ ap (λ (one : List ℕ). one ++ c.args.body.now)
    (c.in_ok-extend.ensures.ok
    ∙ ap (λ (one : List ℕ). one ++ c.bytes-bytes.result.now)
    (c.in_ok-text.ensures ∙ ap (λ n. 1 ∷ 2 ∷ 65 ∷ n ∷ []) c.short_len.ensures)))
    (ap (list_all (λ byte. nat_lt byte 256)) (sym c.as_slice.ensures) ∙ c.are_bytes.ensures)).0

pub returns-clause-within : goal.returns-clause-within
returns-clause-within c =
    let long = ap (λ (one : List ℕ). length one) c.bytes-bytes.ensures.bytes in
    let short : length c.args.name.now < 256 = omega (arith, c.bytes-bytes.ensures.is.most, long) in
    (made_text c.args.max_body c.args.name.now c.bytes-bytes.result.now c.args.body.now c.extend-2.new.self
    c.bytes-bytes.ensures.bytes short (sym c.if-is_longer.ensures)
    (c.in_ok-extend-2.ensures.ok
    ∙ ap (λ (one : List ℕ). one ++ c.args.body.now)
    (c.in_ok-extend.ensures.ok
    ∙ ap (λ (one : List ℕ). one ++ c.bytes-bytes.result.now)
    (c.in_ok-text.ensures ∙ ap (λ n. 1 ∷ 2 ∷ 65 ∷ n ∷ []) c.short_len.ensures)))
    (ap (list_all (λ byte. nat_lt byte 256)) (sym c.as_slice.ensures) ∙ c.are_bytes.ensures)).1
