-- The recipes of the equipment: what a host asks of them, and the text that answers it (SEMI E30, process program
-- management).
use Rattle.std.specs.Prelude.{ℕ, Bool, true, false, not, ◌==◌, ◌&&◌, ◌||◌, List, [], ◌∷◌, ◌++◌, length, map, nat_lt, Option, Some, None, if◌then◌else◌}
use Rattle.equipment_tables.specs.declared.answers.Answer.{Answer}
use Rattle.equipment_tables.specs.declared.answers.Answer.TheVariants as answer
use Rattle.equipment_tables.specs.Answers.{spelled_body}
use Rattle.gem_recipes.specs.Asking.{answer_to, is_change, map_after}
use Rattle.gem_recipes.specs.Recipes.{Recipes}
use Rattle.gem_recipes.specs.declared.asking.RecipesAnswer.{RecipesAnswer}
use Rattle.gem_recipes.specs.declared.asking.RecipesAnswer.TheVariants as given
use Rattle.gem_recipes.specs.declared.asking.RecipesAsked.{RecipesAsked}
use Rattle.gem_recipes.specs.declared.asking.RecipesAsked.TheVariants as asking
use Rattle.gem_shapes.specs.Answers.{code_item}
use Rattle.gem_shapes.specs.Primaries.{is_known_stream}
use Rattle.gem_shapes.specs.declared.request.RecipesRequest.{RecipesRequest}
use Rattle.gem_shapes.specs.declared.request.RecipesRequest.TheVariants as request
use Rattle.message_flow.specs.declared.message.Message.{Message}
use Rattle.secs_items.specs.declared.item.Item.TheVariants as item
use Rattle.secs_items.specs.Spelling.{shortest_spelling}
use Rattle.std.specs.FinMap.{empty}
use Rattle.std.specs.List.{list_all}
use Rattle.tool_step.specs.declared.owed.Owed.{Owed}
use Rattle.tool_step.specs.declared.owed.Owed.TheVariants.{Answered, Recipes as OfRecipes}
use Rattle.tool_step.specs.Own.{OwnView, ToolTurn, owing, quiet_turn, untold}

-- what keeps recipes: its slots, and the recipes in them
pub record RecipesView : Type 0 where
  pub slots : ℕ
  pub map : Recipes

abbrev pub no_recipes : RecipesView
no_recipes = record { slots = 0; map = empty }

-- stream 7 is taken where a host is offered recipes (this profile)
abbrev pub takes_stream : OwnView → ℕ → Bool
takes_stream own stream = is_known_stream stream && (own.offers || not (stream == 7))

-- ---- what is asked

abbrev pub asked_of : RecipesRequest → RecipesAsked
asked_of (request.Inquire name long) = asking.Inquire name long
asked_of (request.Send name body) = asking.Send name body
asked_of (request.Ask name) = asking.Ask name
asked_of (request.Delete names) = asking.Delete names
asked_of request.List = asking.List

-- it is asked behind the works of the step, and the primary answered behind that; what changes nothing and wants no
-- answer isn't asked (this profile)
abbrev pub recipes_turn : RecipesAsked → Message → OwnView → ToolTurn
recipes_turn asked message own =
    if message.wait || is_change asked then quiet_turn (owing (OfRecipes asked (untold message)) own)
    else quiet_turn own

-- ---- what is answered

-- what is owed once the recipes have answered
abbrev pub answered_by : RecipesView → Option Owed → Option Owed
answered_by kept (Some (OfRecipes asked primary)) = Some (Answered (answer_to kept.slots asked kept.map) primary)
answered_by kept owed = owed

abbrev pub recipes_behind : Option Owed → RecipesView → RecipesView
recipes_behind (Some (OfRecipes asked primary)) kept = record kept { map = map_after kept.slots asked kept.map }
recipes_behind owed kept = kept

abbrev pub owes_recipes : Option Owed → Bool
owes_recipes (Some (OfRecipes asked primary)) = true
owes_recipes owed = false

-- S7F6: L,2 PPID PPBODY, of which the body is the bytes that are kept (SEMI E5, S7F6)
abbrev pub recipe_text : (name body : List ℕ) → List ℕ
recipe_text name body = 1 ∷ 2 ∷ (shortest_spelling (item.A name) ++ body)

-- a text, unless it has more bytes than may be sent, or they are none (this profile)
abbrev pub bounded_text : ℕ → List ℕ → Answer
bounded_text max_body bytes =
    if nat_lt max_body (length bytes) || not (list_all (λ byte. nat_lt byte 256) bytes) then answer.TooLong
    else answer.Body bytes

-- PPGNT or ACKC7; the recipe, or L,0 where its name is unknown; the names (SEMI E5, S7F2, S7F4, S7F6, S7F18, S7F20)
abbrev pub recipes_body : ℕ → RecipesAnswer → Answer
recipes_body max_body (given.Code code) = spelled_body max_body (code_item code)
recipes_body max_body (given.Body name None) = spelled_body max_body (item.L [])
recipes_body max_body (given.Body name (Some body)) = bounded_text max_body (recipe_text name body)
recipes_body max_body (given.Names names) = spelled_body max_body (item.L (map item.A names))

abbrev pub recipes_text : OwnView → RecipesAnswer → Answer
recipes_text own answered = recipes_body own.plan.line.max_body answered
