-- The worked requests of the recipes, by what the answer rests on, and computed from there.
use Rattle.std.proofs.Common.{◌≡◌, refl, sym, ◌∙◌, ap, ◌++◌, ◌==◌, Bool, true, false, cond, nat_lt, ℕ, List, [], ◌∷◌, length, Some, None, if◌then◌else◌}
use Rattle.std.specs.Option.{unwrap_or}
use Rattle.equipment_tables.proofs.Bodies.{body_is}
use Rattle.equipment_tables.specs.declared.answers.Answer.{Answer}
use Rattle.equipment_tables.specs.declared.answers.Answer.TheVariants as answer
use Rattle.equipment_tables.specs.Answers.{spelled_body}
use Rattle.gem_recipes.specs.declared.asking.RecipesAnswer.TheVariants as given
use Rattle.gem_recipes.specs.declared.keeper.RecipePut.{RecipePut}
use Rattle.gem_recipes.specs.declared.keeper.RecipePut.TheVariants.{NoSpace, Stored}
use Rattle.gem_recipes.specs.Asking.{after_changes}
use Rattle.gem_recipes.specs.History.RecipeChange.{Deletes, Stores}
use Rattle.gem_recipes.specs.Recipes.{put_answer, with_recipe}
use Rattle.gem_recipes.specs.Requests.{ackc7_of}
use Rattle.gem_recipes.specs.Worked.{first, one_byte, second}
use Rattle.gem_shapes.specs.Asked.{request_of}
use Rattle.gem_shapes.specs.declared.request.Request.{Request}
use Rattle.message_flow.specs.declared.message.Message.{Message}
use Rattle.message_end.specs.Core.{Step, Went, step_in}
use Rattle.message_end.specs.Core.Went.{Goes, Spent}
use Rattle.message_end.specs.Parts.{Node, after_parts, closes}
use Rattle.secs_items.specs.declared.item.Item.{out-Item}
use Rattle.secs_items.specs.declared.item.Item.TheFolds.{fold-roll-Item}
use Rattle.secs_items.specs.declared.item.Item.TheOpen.{Item-F}
use Rattle.secs_items.specs.declared.item.Item.TheVariants as item
use Rattle.secs_items.specs.declared.item.Item.TheVariants.{rolls-A, rolls-L}
use Rattle.secs_items.specs.declared.item.Item.TheViews.{out-roll-Item}
use Rattle.secs_items.specs.Encoding.{encode_fault}
use Rattle.secs_items.specs.Reading.{after_item, format_at, head_at, item_at, size_at}
use Rattle.secs_items.specs.Spelling.{shortest_layer, shortest_spelling}
use Rattle.setup_store.proofs.WorkedLists.{out_L}
use Rattle.spool_file.specs.Sizes.{slots_for}
use Rattle.trace_log.specs.Log.{Happening}
use Rattle.tool_step.specs.declared.kind.Kind.{Kind}
use Rattle.tool_step.specs.Equipment.{EquipmentView, done_step, ended_step, node_step, oldest_of, parts_done, went_with_file}
use Rattle.tool_step.specs.Messages.{read_turn}
use Rattle.tool_step.specs.Own.{OwnView, turn_of, unowed, untold}
use Rattle.tool_step.specs.Recipes.{RecipesView, bounded_text, recipe_text, recipes_body}
use Rattle.tool_step.specs.Sent.{answer_duties}
use Rattle.tool_step.specs.Spooling.{end_of_spooling, unload_part}
use Rattle.tool_step.specs.Step.{last_parts, offer}
use Rattle.tool_step.specs.WorkedRecipes.{RecipesAreServed, asked, asks, deleted, deletes, inquired, inquires, listed, lists, sending, sends, sent, with_recipes}
use Rattle.tool_step.specs.WorkedSetup.{begun_at}
use Rattle.tool_step.proofs.SetupRuns.{text_is}

-- ---- what is read

out_A : (xs : List ℕ) → out-Item (item.A xs) ≡ Item-F.A xs
out_A xs = ap out-Item (sym (rolls-A xs)) ∙ out-roll-Item (Item-F.A xs)

reads_sent : request_of 7 3 (sent true).body ≡ Some sends
unfolding after_item item_at head_at format_at size_at
reads_sent = simp (out_L, out_A) refl

-- ---- texts

spells_first : shortest_spelling (item.A first) ≡ 65 ∷ 2 ∷ 65 ∷ 49 ∷ []
spells_first =
    ap shortest_spelling (sym (rolls-A first)) ∙ fold-roll-Item (List ℕ) shortest_layer (Item-F.A first)

spells_none : shortest_spelling (item.L []) ≡ 1 ∷ 0 ∷ []
spells_none = ap shortest_spelling (sym (rolls-L [])) ∙ fold-roll-Item (List ℕ) shortest_layer (Item-F.L [])

spells_one : shortest_spelling (item.L (item.A first ∷ [])) ≡ 1 ∷ 1 ∷ 65 ∷ 2 ∷ 65 ∷ 49 ∷ []
spells_one =
    ap shortest_spelling (sym (rolls-L (item.A first ∷ [])))
    ∙ fold-roll-Item (List ℕ) shortest_layer (Item-F.L (item.A first ∷ []))
    ∙ ap (λ (spelled : List ℕ). 1 ∷ 1 ∷ (spelled ++ [])) spells_first

none_faulty : encode_fault (item.L []) ≡ None
unfolding encode_fault
none_faulty = simp out_L refl

one_faulty : encode_fault (item.L (item.A first ∷ [])) ≡ None
unfolding encode_fault
one_faulty = simp (out_L, out_A) refl

text_of_none : spelled_body 4096 (item.L []) ≡ answer.Body (1 ∷ 0 ∷ [])
text_of_none =
    sym (body_is 4096 (item.L []) (1 ∷ 0 ∷ [])
    (ap (λ (bytes : List ℕ). nat_lt 4096 (length bytes)) spells_none) none_faulty refl (sym spells_none))

text_of_one : spelled_body 4096 (item.L (item.A first ∷ [])) ≡ answer.Body (1 ∷ 1 ∷ 65 ∷ 2 ∷ 65 ∷ 49 ∷ [])
text_of_one =
    sym (body_is 4096 (item.L (item.A first ∷ [])) (1 ∷ 1 ∷ 65 ∷ 2 ∷ 65 ∷ 49 ∷ [])
    (ap (λ (bytes : List ℕ). nat_lt 4096 (length bytes)) spells_one) one_faulty refl (sym spells_one))

text_of_recipe :
    bounded_text 4096 (recipe_text first one_byte)
    ≡ answer.Body (1 ∷ 2 ∷ 65 ∷ 2 ∷ 65 ∷ 49 ∷ 33 ∷ 1 ∷ 2 ∷ [])
text_of_recipe = ap (λ (spelled : List ℕ). bounded_text 4096 (1 ∷ 2 ∷ (spelled ++ one_byte))) spells_first

-- ---- steps

-- the step in which this is asked, up to where the recipes have answered
abbrev done : Request → Message → RecipesView → Step EquipmentView Happening
done asks message kept = done_step (step_in (begun_at asks message (with_recipes kept)))

-- what is noted of it as a whole, by the text of the answer
abbrev noted : Request → Message → RecipesView → Answer → List Happening
noted asks message kept text =
    let step = done asks message kept in
    (step_in (parts_done
    ((λ own e. turn_of (unowed own) (answer_duties text (untold message)))
    ∷ unload_part (oldest_of step.next) ∷ end_of_spooling ∷ offer 0 ∷ closes ∷ []) step)).notes

-- the last parts leave the recipes as they are
parts-recipes : (s : EquipmentView) (went : Went (Node OwnView Kind) Happening)
    → (step_in (went_with_file s went)).next.recipes ≡ s.recipes
parts-recipes s (Goes step) = refl
parts-recipes s (Spent step) = refl

ended-recipes : (step : Step EquipmentView Happening) → (step_in (ended_step 0 step)).next.recipes ≡ step.next.recipes
ended-recipes step = parts-recipes step.next (after_parts Some (last_parts (oldest_of step.next) 0) (node_step step))

-- ---- by what the answer rests on

abbrev put_text : RecipePut → Answer
put_text put = recipes_body 4096 (given.Code (unwrap_or (ackc7_of put) 0))

abbrev grant_text : Bool → Answer
grant_text space = recipes_body 4096 (given.Code (if space then 0 else 2))

abbrev left_by : RecipesView → RecipePut → RecipesView
left_by kept put = record kept {
  map = after_changes (cond (unwrap_or (ackc7_of put) 0 == 0) (Stores first one_byte ∷ []) []) kept.map;
}

abbrev left_by_code : RecipesView → ℕ → RecipesView
left_by_code kept value = record kept {
  map = after_changes (cond (value == 0) (Deletes (second ∷ []) ∷ []) []) kept.map;
}

with-it :
    (wait : Bool) (kept : RecipesView) → put_answer kept.slots first one_byte kept.map ≡ Stored
    → (sending wait kept).next.recipes ≡ record kept { map = with_recipe first one_byte kept.map }
with-it true kept is = ended-recipes (done sends (sent true) kept) ∙ ap (left_by kept) is
with-it false kept is = ended-recipes (done sends (sent false) kept) ∙ ap (left_by kept) is

as-before :
    (wait : Bool) (kept : RecipesView) → put_answer kept.slots first one_byte kept.map ≡ NoSpace
    → (sending wait kept).next.recipes ≡ kept
as-before true kept is = ended-recipes (done sends (sent true) kept) ∙ ap (left_by kept) is
as-before false kept is = ended-recipes (done sends (sent false) kept) ∙ ap (left_by kept) is

-- behind W, by the text
by_text :
    (asks : Request) (message : Message) (kept : RecipesView) {text whole : Answer} → text ≡ whole
    → noted asks message kept text ≡ noted asks message kept whole
by_text asks message kept is = ap (noted asks message kept) is

pub recipes-are-served : RecipesAreServed
unfolding slots_for
recipes-are-served = record {
  offered = λ header kept. ap (λ r. read_turn 0 r header (sent true) (with_recipes kept).node.own) reads_sent;
  not_offered = λ header. refl;
  stored = λ kept is. by_text sends (sent true) kept (ap put_text is ∙ text_is 0 refl);
  unasked = λ kept is. by_text sends (sent false) kept (ap put_text is ∙ text_is 0 refl);
  with_it = with-it;
  full = λ kept is. by_text sends (sent true) kept (ap put_text is ∙ text_is 3 refl);
  as_before = as-before;
  stops = λ kept. refl;
  granted = λ kept is. by_text inquires inquired kept (ap grant_text is ∙ text_is 0 refl);
  not_granted = λ kept is. by_text inquires inquired kept (ap grant_text is ∙ text_is 2 refl);
  found =
      λ kept is. by_text asks (asked true) kept
      (ap (λ body. recipes_body 4096 (given.Body first body)) is ∙ text_of_recipe);
  unknown =
      λ kept is. by_text asks (asked true) kept
      (ap (λ body. recipes_body 4096 (given.Body first body)) is ∙ text_of_none);
  unwanted = λ kept. refl;
  not_asked = λ kept. refl;
  dropped =
      λ kept is. by_text deletes deleted kept
      (ap (λ value. recipes_body 4096 (given.Code value)) is ∙ text_is 0 refl);
  without_it = λ kept is. ended-recipes (done deletes deleted kept) ∙ ap (left_by_code kept) is;
  not_dropped =
      λ kept is. by_text deletes deleted kept
      (ap (λ value. recipes_body 4096 (given.Code value)) is ∙ text_is 4 refl);
  not_changed = λ kept is. ended-recipes (done deletes deleted kept) ∙ ap (left_by_code kept) is;
  named =
      λ kept is. by_text lists listed kept
      (ap (λ names. recipes_body 4096 (given.Names names)) is ∙ text_of_one);
  none =
      λ kept is. by_text lists listed kept
      (ap (λ names. recipes_body 4096 (given.Names names)) is ∙ text_of_none);
}
