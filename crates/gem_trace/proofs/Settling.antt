-- The loop of the second pass.
use Rattle.std.proofs.Common.{◌≡◌, refl, sym, ◌∙◌, ap, arith, ℕ, ◌+◌, ◌<◌, ◌≤◌, List, [], ◌∷◌, ◌++◌, drop, get_or, length, map, take, Option, Some, None}
use Rattle.std.specs.Prelude.{set}
use Rattle.std.specs.List.{cons_option}
use Rattle.std.specs.Option.{option_to_list}
use Rattle.std.proofs.lemmas.List.{length-append, take-append-drop, take_all, take_more}
use Rattle.std.proofs.lemmas.List.Edits.{map_over_more}
use Rattle.std.proofs.lemmas.List.Elements.{filter_map-append}
use Rattle.secs_items.specs.declared.item.Item.{Item}
use Rattle.gem_trace.specs.declared.trace.Trace.{Trace}
use Rattle.gem_trace.specs.Kept.{bodies_read, body_read, settled}
use Rattle.gem_trace.proofs.Reading.{left_at, map_over_all}

as_list : {A : Type 0} (o : Option A) → cons_option o [] ≡ option_to_list o
as_list None = refl
as_list (Some x) = refl

-- the traces up to a place are settled, with their bodies, and there is room for all
pub record AreSettled (now : ℕ) (traces : List Trace) (i : ℕ) (running : List Trace) (bodies : List Item) (capacity : ℕ)
    : Type 0 where
  pub taken : running ≡ map (settled now) (take i traces) ++ drop i traces
  pub brought : bodies ≡ bodies_read now (take i traces)
  pub room : length (bodies_read now traces) ≤ capacity

module _ (now : ℕ) (traces : List Trace) where
  fewer : (n : ℕ) → length (bodies_read now (take n traces)) ≤ length (bodies_read now traces)
  fewer n =
      let whole : bodies_read now traces ≡ bodies_read now (take n traces) ++ bodies_read now (drop n traces) =
      ap (bodies_read now) (sym (take-append-drop n traces))
      ∙ filter_map-append (body_read now) (take n traces) (drop n traces) in
      let long = ap length whole ∙ length-append (bodies_read now (take n traces)) (bodies_read now (drop n traces)) in
      omega arith

  pub none_settled :
      (bodies : List Item) (capacity : ℕ) → bodies ≡ [] → length (bodies_read now traces) ≤ capacity
      → AreSettled now traces 0 traces bodies capacity
  none_settled bodies capacity none room = record { taken = refl; brought = none; room = room }

  module _ (i : ℕ) (running : List Trace) (bodies : List Item) (capacity : ℕ)
      (are : AreSettled now traces i running bodies capacity) where
    module _ (trace : Trace) (less : i < length traces) (at : trace ≡ get_or running i trace) where
      brought_more : bodies ++ option_to_list (body_read now trace) ≡ bodies_read now (take (i + 1) traces)
      brought_more =
          let same = left_at (settled now) traces running i trace less are.taken at in
          ap (λ (bs : List Item). bs ++ option_to_list (body_read now trace)) are.brought
          ∙ sym
          (ap (bodies_read now) (take_more traces i trace less)
          ∙ ap (λ (t : Trace). bodies_read now (take i traces ++ t ∷ [])) (sym same)
          ∙ filter_map-append (body_read now) (take i traces) (trace ∷ [])
          ∙ ap (λ (bs : List Item). bodies_read now (take i traces) ++ bs) (as_list (body_read now trace)))

      pub room_at : length (bodies ++ option_to_list (body_read now trace)) ≤ capacity
      room_at =
          let same = ap length brought_more in
          let less = fewer (i + 1) in
          let room = are.room in
          omega arith

      pub one_settled :
          (more : List Item) → more ≡ bodies ++ option_to_list (body_read now trace)
          → AreSettled now traces (i + 1) (set running i (settled now trace)) more capacity
      one_settled more is = record {
        taken = map_over_more (settled now) traces running i trace less are.taken at;
        brought = is ∙ brought_more;
        room = are.room;
      }

    pub all_settled : length traces ≤ i → (running ≡ map (settled now) traces) × (bodies ≡ bodies_read now traces)
    all_settled all = (
      map_over_all (settled now) traces running i all are.taken,
      are.brought ∙ ap (bodies_read now) (take_all i traces all),
    )
