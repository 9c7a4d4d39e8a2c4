-- The name of one slot more, if it has a recipe; the slots so far were read.
use Rattle.std.proofs.Common.{◌≡◌, ◌∙◌, ◌+◌, All, List, ℕ, ap, arith, refl, subst, sym}
use Rattle.std.proofs.lemmas.List.Elements.{All-nil}
use Rattle.std.proofs.lemmas.List.Sorted.{All-permutation, IsPermutation-refl}
use Rattle.std.specs.List.Sorted.{IsPermutation}
use Rattle.disk_base.specs.declared.disk.DiskAnswer.TheVariants.{Done, Failed}
use Rattle.gem_recipes.specs.Keeper.{IsOf}
use Rattle.gem_recipes.specs.Recipes.{IsPpid, names_of}
use Rattle.recipe_disk.specs.Changes.{recipes_told}
use Rattle.recipe_disk.specs.Map.{recipes_below}
use Rattle.recipe_disk.specs.Slot.{slot_in}
use Rattle.recipe_disk.proofs.Keeping.{of_told}
use Rattle.recipe_disk.proofs.Listed.{listed_next}
use Rattle.recipe_disk.proofs.Made.{looked_behind, looked_none}
use Rattle.recipe_disk.proofs.Names.{none_named}
use Rattle.recipe_disk.proofs.Putting.{recipes_are}
use Rattle.recipe_disk.proofs.Rising.{sorted_names}
use Rattle.recipe_disk.proofs.listing.read_names.Goals as goal

pub loop-slot-init : goal.loop-slot-init
loop-slot-init g c = (
  λ s is.
      subst (λ (names : List (List ℕ)). IsPermutation names (names_of (recipes_below (slot_in s.now.bytes) 0))) (none_named (slot_in s.now.bytes) ∙ sym c.new-names.ensures.items)
      (IsPermutation-refl (names_of (recipes_below (slot_in s.now.bytes) 0))),
  looked_none g.D.Disk _,
  refl,
  subst (All IsPpid) (sym c.new-names.ensures.items) (All-nil IsPpid),
)

pub loop-slot-preserved : goal.loop-slot-preserved
loop-slot-preserved g c = (
  λ s is.
      subst (λ (names : List (List ℕ)). IsPermutation names (names_of (recipes_below (slot_in s.now.bytes) (c.loop-slot.slot + 1)))) (sym c.in-Ok-put_name.ensures.names)
      (listed_next c.args.slots s (c.requires.rests s is) c.loop-slot.slot c.loop-slot-test.true c.in-Ok.head
      (c.in-Ok.ensures.head s (c.loop-slot.invariant.1.told ∙ is)) c.loop-slot.names.items (c.loop-slot.invariant.0 s is)),
  looked_behind g.D.Disk _ _ _ Done c.loop-slot.invariant.1 c.in-Ok.ensures.looked,
  c.in-Ok.ensures.looked.made.size ∙ c.loop-slot.invariant.2,
  c.in-Ok-put_name.ensures.each c.loop-slot.invariant.3,
)

pub returns-in-Err-clause-looked : goal.returns-in-Err-clause-looked
returns-in-Err-clause-looked g c = looked_behind g.D.Disk _ _ _ Failed c.loop-slot.invariant.1 c.in-Err.ensures.looked

pub returns-in-Err-put_name-clause-looked : goal.returns-in-Err-put_name-clause-looked
returns-in-Err-put_name-clause-looked g c = looked_behind g.D.Disk _ _ _ Done c.loop-slot.invariant.1 c.in-Ok.ensures.looked

pub returns-clause-names : goal.returns-clause-names
returns-clause-names g c =
    let end : c.loop-slot.slot ≡ c.args.slots = omega (arith, c.loop-slot-test.false, c.loop-slot.auto.slot-end) in
    subst (λ (names : List (List ℕ)). All IsPpid names × IsOf (recipes_told (g.D.Disk.told c.args.disk.now)) names_of names) (sym c.from_vec.ensures) (
      All-permutation IsPpid _ _ c.sort_names.ensures.same c.loop-slot.invariant.3,
      of_told (g.D.Disk.told c.args.disk.now) names_of c.sort_names.new.names.items
          (λ s is.
          ap names_of (sym (recipes_are c.args.slots s (c.requires.rests s is)))
          ∙ sorted_names (slot_in s.now.bytes) c.args.slots (c.requires.rests s is).tidy c.loop-slot.names.items c.sort_names.new.names.items
          (subst (λ n. IsPermutation c.loop-slot.names.items (names_of (recipes_below (slot_in s.now.bytes) n))) end (c.loop-slot.invariant.0 s is))
          c.sort_names.ensures.same c.sort_names.ensures.order),
    )
