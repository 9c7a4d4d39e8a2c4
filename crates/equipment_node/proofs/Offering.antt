-- That what a host is offered stays in a step, and that the keeper can be asked further.
use Rattle.std.proofs.Common.{◌≡◌, refl, sym, ap, subst, ◌∙◌, Bool, true, false, ℕ, Option, Some, None, if◌then◌else◌}
use Rattle.std.specs.FinMap.{empty}
use Rattle.std.specs.Option.{unwrap_or}
use Rattle.std.specs.Prelude.{IfOk, Result, Ok, Err}
use Rattle.disk_base.specs.declared.disk.Disk as disk
use Rattle.gem_recipes.specs.Recipes.{Recipes}
use Rattle.gem_recipes.specs.declared.keeper.RecipeKeeper as keeper
use Rattle.gem_spool.specs.declared.spool.GemSpool.{GemSpool}
use Rattle.message_end.specs.Core.{Went, step_in}
use Rattle.message_end.specs.Parts.{Node, on_the_way}
use Rattle.message_flow.specs.declared.step.Note.{Note}
use Rattle.message_flow.specs.declared.step.StepOut.{StepOut}
use Rattle.tool_core.specs.Serving.{IsKept as IsRecipes}
use Rattle.tool_law.proofs.Asides.{taking-stays}
use Rattle.tool_law.proofs.Offers.{AllKeepOffer, IsOffered, KeepsOffer, itself, last-offered, of-aside, offered-after}
use Rattle.tool_law.proofs.Offers.{offered-then}
use Rattle.tool_step.specs.declared.kind.Kind.{Kind}
use Rattle.tool_step.specs.Own.{OwnView}
use Rattle.tool_step.specs.Recipes.{RecipesView, no_recipes, owes_recipes}
use Rattle.tool_step.specs.Taking.{taking}
use Rattle.trace_log.specs.Names.{Spooled}
use Rattle.trace_log.specs.Text.{printed_note}
use Rattle.equipment_node.specs.Amid.{DoesLast, asked_node, done_last, settled_node}
use Rattle.equipment_node.specs.Keeping.{CanBeAsked, KeeperStays, TellsOffered, recipes_of}

-- ---- the pieces of a step

pub offers-still : (own other : OwnView) → other ≡ own → IsOffered own other
offers-still own other same = subst (λ (o : OwnView). IsOffered own o) (sym same) (itself own)

-- behind the works, and where the number of the next message was asked for
pub settled-offers : (old new : Node OwnView Kind) → new ≡ settled_node old → IsOffered old.own new.own
settled-offers old new is =
    subst (λ (n : Node OwnView Kind). IsOffered old.own n.own) (sym is)
    (record { same = refl; keeps = λ offered. offered })

pub asked-offers : (old new : Node OwnView Kind) → new.own ≡ (asked_node old).own → IsOffered old.own new.own
asked-offers old new is =
    subst (λ (o : OwnView). IsOffered old.own o) (sym is) (record { same = refl; keeps = λ offered. offered })

pub offers-then :
    {R E : Type 0} (one two three : OwnView) (result : Result R E) → IsOffered one two
    → IfOk result (λ r. IsOffered two three) → IfOk result (λ r. IsOffered one three)
offers-then one two three (Ok r) first second = offered-then one two three first second
offers-then one two three (Err end) first second = tt

pub offers-if :
    {R E : Type 0} (one two : OwnView) (result : Result R E) → IsOffered one two
    → IfOk result (λ r. IsOffered one two)
offers-if one two (Ok r) is = is
offers-if one two (Err end) is = tt

taking-offers : (oldest : Option (ℕ × Spooled)) → KeepsOffer (taking oldest)
taking-offers None own e = itself own
taking-offers (Some oldest) own e = of-aside own _ (taking-stays (Some oldest.0) (Some oldest.1) own e)

last-parts-offer : (oldest : Option (ℕ × Spooled)) (now : ℕ) → AllKeepOffer (done_last oldest now)
last-parts-offer oldest now =
    let parts = last-offered None now in (parts.0, (taking-offers oldest, parts.1.1))

pub last-offers :
    {D : Type 0} (members : disk.Ghosts D) (g : GemSpool D) (oldest : Option (ℕ × Spooled)) (now : ℕ)
    (old new : Node OwnView Kind) (out after : StepOut)
    → DoesLast members g (done_last oldest now) old out new after (Ok g) → IsOffered old.own new.own
last-offers members g oldest now old new out after does =
    subst (λ (w : Went (Node OwnView Kind) Note). IsOffered old.own (step_in w).next.own) does.1
    (offered-after printed_note (done_last oldest now) (last-parts-offer oldest now) (on_the_way old out))

-- ---- the keeper

abbrev told_in : {K : Type 0} → keeper.Ghosts K → K → RecipesView
told_in keepers k = record { slots = keepers.slots k; map = unwrap_or (keepers.told k) empty }

recipes-told : {K : Type 0} (keepers : keeper.Ghosts K) (k : K) → keepers.offers_is k ≡ true
    → recipes_of keepers k ≡ told_in keepers k
recipes-told keepers k offers =
    ap (λ (b : Bool). unwrap_or (if b then Some (told_in keepers k) else None) no_recipes) offers

pub stays-still : {K : Type 0} (keepers : keeper.Ghosts K) (k : K) → KeeperStays false keepers k k
stays-still keepers k = record { slots = refl; offers = refl; sound = λ sound. sound; cause = refl }

pub asked-on :
    {K : Type 0} (keepers : keeper.Ghosts K) (before after : K) (own other : OwnView)
    → CanBeAsked keepers before own → KeeperStays false keepers before after → IsOffered own other
    → CanBeAsked keepers after other
asked-on keepers before after own other can stays is = record {
  offers = stays.offers ∙ can.offers ∙ sym is.same;
  sound = λ offers. stays.sound (can.sound (sym is.same ∙ offers));
  asks = is.keeps can.asks;
}

-- what it tells are the recipes of the equipment, where a host is offered any
pub kept-as-told :
    {K : Type 0} (keepers : keeper.Ghosts K) (k : K) → keepers.offers_is k ≡ true → TellsOffered keepers k
    → IsRecipes keepers k (recipes_of keepers k)
kept-as-told keepers k offers tells = record {
  map =
      (tells offers).1
      ∙ ap (λ (told : Option Recipes). Some (unwrap_or told empty)) (sym (tells offers).1)
      ∙ ap (λ (kept : RecipesView). Some kept.map) (sym (recipes-told keepers k offers));
  slots = ap (λ (kept : RecipesView). kept.slots) (sym (recipes-told keepers k offers));
}

-- and what it keeps then it tells
pub told-as-kept :
    {K : Type 0} (keepers : keeper.Ghosts K) (k : K) (kept : RecipesView) → keepers.offers_is k ≡ true
    → IsRecipes keepers k kept → kept ≡ recipes_of keepers k
told-as-kept keepers k kept offers is =
    ap (λ (n : ℕ). record { slots = n; map = kept.map }) (sym is.slots)
    ∙ ap (λ (told : Option Recipes). record { slots = keepers.slots k; map = unwrap_or told empty }) (sym is.map)
    ∙ sym (recipes-told keepers k offers)

pub none-told : {K : Type 0} (keepers : keeper.Ghosts K) (k : K) → keepers.offers_is k ≡ false
    → recipes_of keepers k ≡ no_recipes
none-told keepers k offers =
    ap (λ (b : Bool). unwrap_or (if b then Some (told_in keepers k) else None) no_recipes) offers

-- where no host is offered recipes, none are asked for
pub none-owed-of : {K : Type 0} (keepers : keeper.Ghosts K) (k : K) (own : OwnView) → CanBeAsked keepers k own
    → own.offers ≡ false → owes_recipes own.owed ≡ false
none-owed-of keepers k own can none = go (owes_recipes own.owed) can.asks
  where
    never : ◌≡◌ {A = Bool} false true → ⊥
    never is = cc

    go : (owes : Bool) → (owes ≡ true → own.offers ≡ true) → owes ≡ false
    go true asks = absurd (never (sym none ∙ asks refl))
    go false asks = refl
