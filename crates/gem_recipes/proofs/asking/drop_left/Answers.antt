-- A name that is left goes with its recipe; one that isn't has none.

use Rattle.std.proofs.Common.{◌∙◌, ap, List, ℕ, subst, sym}
use Rattle.gem_recipes.specs.Asking.{DropsOne, has_name}
use Rattle.gem_recipes.proofs.Names.{left_behind, left_on, none_gone, taken_out}
use Rattle.gem_recipes.proofs.asking.drop_left.Goals as goal

pub returns-then-there-clause-drops : goal.returns-then-there-clause-drops
returns-then-there-clause-drops g c =
    λ are.
    let k = g.K.RecipeKeeper in
    subst (λ (name : List ℕ). DropsOne name (k.told c.args.keeper.now) (k.told c.drop_one.new.keeper) c.drop_one.result)
    c.bytes-bytes.ensures.bytes c.drop_one.ensures.drops

pub returns-then-there-clause-left : goal.returns-then-there-clause-left
returns-then-there-clause-left g c =
    λ are.
    let k = g.K.RecipeKeeper in
    let had = has_name (λ one. one.now) c.args.left.now in
    let has = has_name (λ one. one.now) c.remove-there.new.self in
    left_on (k.told c.args.keeper.now) (k.told c.drop_one.new.keeper) c.args.name.now had has c.drop_one.result are
    (λ one. taken_out (has one) (had one) c.args.name.now c.bytes-bytes.result.now one c.bytes-bytes.ensures.bytes
    (c.remove-there.ensures.updates.0 (record { ref_ptr = (0, 0); now = one })))
    (subst (λ (name : List ℕ). DropsOne name (k.told c.args.keeper.now) (k.told c.drop_one.new.keeper)
    c.drop_one.result)
    c.bytes-bytes.ensures.bytes c.drop_one.ensures.drops)

pub returns-else-there-clause-drops : goal.returns-else-there-clause-drops
returns-else-there-clause-drops g c =
    λ are.
    let had = has_name (λ one. one.now) c.args.left.now in
    none_gone (g.K.RecipeKeeper.told c.args.keeper.now) c.args.name.now had are
    (ap had (sym c.bytes-bytes.ensures.bytes) ∙ sym c.remove-there.ensures.test ∙ c.if-there.false)

pub returns-else-there-clause-left : goal.returns-else-there-clause-left
returns-else-there-clause-left g c =
    λ are.
    let told = g.K.RecipeKeeper.told c.args.keeper.now in
    let had = has_name (λ one. one.now) c.args.left.now in
    let has = has_name (λ one. one.now) c.remove-there.new.self in
    left_behind told told c.args.name.now had has are
    (λ one. taken_out (has one) (had one) c.args.name.now c.bytes-bytes.result.now one c.bytes-bytes.ensures.bytes
    (c.remove-there.ensures.updates.0 (record { ref_ptr = (0, 0); now = one })))
    (none_gone told c.args.name.now had are
    (ap had (sym c.bytes-bytes.ensures.bytes) ∙ sym c.remove-there.ensures.test ∙ c.if-there.false))
