-- What a host asks of the recipes, and is answered, in steps that can be followed by hand: of the recipes only that is
-- known which the answer rests on.
use Rattle.std.specs.Prelude.{◌≡◌, ℕ, Bool, true, false, List, [], ◌∷◌, None, Some}
use Rattle.block_codec.specs.declared.header.Header.{Header}
use Rattle.gem_recipes.specs.declared.keeper.RecipePut.TheVariants.{NoSpace, Stored}
use Rattle.gem_recipes.specs.History.{after_change}
use Rattle.gem_recipes.specs.History.RecipeChange.{Deletes}
use Rattle.gem_recipes.specs.Recipes.{body_of, has_space, names_of, put_answer, with_recipe}
use Rattle.gem_recipes.specs.Requests.{delete_ackc7_of}
use Rattle.gem_recipes.specs.Worked.{first, one_byte, second}
use Rattle.gem_shapes.specs.declared.request.RecipesRequest.TheVariants as recipes_request
use Rattle.gem_shapes.specs.declared.request.Request.{Request}
use Rattle.gem_shapes.specs.declared.request.Request.TheVariants as request
use Rattle.message_flow.specs.declared.message.Message.{Message}
use Rattle.trace_log.specs.Log.{Happening, Past}
use Rattle.message_end.specs.Core.{Step}
use Rattle.tool_step.specs.Disk.{unserved}
use Rattle.tool_step.specs.Equipment.{EquipmentView, offering}
use Rattle.tool_step.specs.Messages.{error_turn, primary_turn}
use Rattle.tool_step.specs.Recipes.{RecipesView}
use Rattle.tool_step.specs.WorkedSetup.{begun_at, heard, tool_with, turn_at}

-- a primary of stream 7, with or without W, and a reply
abbrev pub primary : Bool → ℕ → List ℕ → Message
primary wait function body = record { stream = 7; function = function; wait = wait; system = 5; body = body }

abbrev pub reply : ℕ → List ℕ → Message
reply function body = record { stream = 7; function = function; wait = false; system = 5; body = body }

-- by a code of one byte
abbrev pub code : ℕ → ℕ → Message
code function value = reply function (33 ∷ 1 ∷ value ∷ [])

-- a tool that offers a host these
abbrev pub with_recipes : RecipesView → EquipmentView
with_recipes kept = offering kept (tool_with None)

-- what is noted in a step in which this is answered, or nothing is
abbrev pub replied : Message → Message → List Happening
replied asked answered =
    Happening.Recorded (Past.Asked asked) ∷ Happening.Sent answered ∷ Happening.StepEnded ∷ []

abbrev pub silent : Message → List Happening
silent asked = Happening.Recorded (Past.Asked asked) ∷ Happening.StepEnded ∷ []

-- ---- S7F3

-- L,2 of the name and a B of one byte
abbrev pub sent : Bool → Message
sent wait = primary wait 3 (1 ∷ 2 ∷ 65 ∷ 2 ∷ 65 ∷ 49 ∷ 33 ∷ 1 ∷ 2 ∷ [])

abbrev pub sends : Request
sends = request.OfRecipes (recipes_request.Send first one_byte)

abbrev pub sending : Bool → RecipesView → Step EquipmentView Happening
sending wait kept = heard sends (sent wait) (with_recipes kept)

-- ---- the others

-- L,2 of the name and a U1
abbrev pub inquired : Message
inquired = primary true 1 (1 ∷ 2 ∷ 65 ∷ 2 ∷ 65 ∷ 49 ∷ 165 ∷ 1 ∷ 3 ∷ [])

abbrev pub inquires : Request
inquires = request.OfRecipes (recipes_request.Inquire first 3)

abbrev pub inquiring : RecipesView → Step EquipmentView Happening
inquiring kept = heard inquires inquired (with_recipes kept)

abbrev pub asked : Bool → Message
asked wait = primary wait 5 (65 ∷ 2 ∷ 65 ∷ 49 ∷ [])

abbrev pub asks : Request
asks = request.OfRecipes (recipes_request.Ask first)

abbrev pub asking : Bool → RecipesView → Step EquipmentView Happening
asking wait kept = heard asks (asked wait) (with_recipes kept)

-- L,1 of the other name
abbrev pub deleted : Message
deleted = primary true 17 (1 ∷ 1 ∷ 65 ∷ 2 ∷ 65 ∷ 50 ∷ [])

abbrev pub deletes : Request
deletes = request.OfRecipes (recipes_request.Delete (second ∷ []))

abbrev pub deleting : RecipesView → Step EquipmentView Happening
deleting kept = heard deletes deleted (with_recipes kept)

abbrev pub listed : Message
listed = primary true 19 []

abbrev pub lists : Request
lists = request.OfRecipes recipes_request.List

abbrev pub listing : RecipesView → Step EquipmentView Happening
listing kept = heard lists listed (with_recipes kept)

pub record RecipesAreServed : Type 0 where
  -- stream 7 is taken where recipes are offered, and its text is read
  pub offered :
      (header : Header) (kept : RecipesView)
      → primary_turn 0 header (sent true) (with_recipes kept).node.own
      ≡ turn_at sends (sent true) (with_recipes kept)
  pub not_offered :
      (header : Header)
      → primary_turn 0 header (sent true) (tool_with None).node.own ≡ error_turn 3 header (tool_with None).node.own
  -- it is stored where there is space, and answered by ACKC7, without W by nothing
  pub stored :
      (kept : RecipesView) → put_answer kept.slots first one_byte kept.map ≡ Stored
      → (sending true kept).notes ≡ replied (sent true) (code 4 0)
  pub unasked :
      (kept : RecipesView) → put_answer kept.slots first one_byte kept.map ≡ Stored
      → (sending false kept).notes ≡ silent (sent false)
  pub with_it :
      (wait : Bool) (kept : RecipesView) → put_answer kept.slots first one_byte kept.map ≡ Stored
      → (sending wait kept).next.recipes ≡ record kept { map = with_recipe first one_byte kept.map }
  pub full :
      (kept : RecipesView) → put_answer kept.slots first one_byte kept.map ≡ NoSpace
      → (sending true kept).notes ≡ replied (sent true) (code 4 3)
  pub as_before :
      (wait : Bool) (kept : RecipesView) → put_answer kept.slots first one_byte kept.map ≡ NoSpace
      → (sending wait kept).next.recipes ≡ kept
  -- where the recipes fail, no answer goes
  pub stops :
      (kept : RecipesView)
      → unserved (begun_at sends (sent true) (with_recipes kept))
      ≡ (Happening.Recorded (Past.Asked (sent true)) ∷ []) ∷ []
  -- PPGNT by the space there is
  pub granted :
      (kept : RecipesView) → has_space kept.slots first kept.map ≡ true
      → (inquiring kept).notes ≡ replied inquired (code 2 0)
  pub not_granted :
      (kept : RecipesView) → has_space kept.slots first kept.map ≡ false
      → (inquiring kept).notes ≡ replied inquired (code 2 2)
  -- a body comes as it is kept, behind its name, or L,0; without W nothing is asked
  pub found :
      (kept : RecipesView) → body_of first kept.map ≡ Some one_byte
      → (asking true kept).notes
      ≡ replied (asked true) (reply 6 (1 ∷ 2 ∷ 65 ∷ 2 ∷ 65 ∷ 49 ∷ 33 ∷ 1 ∷ 2 ∷ []))
  pub unknown :
      (kept : RecipesView) → body_of first kept.map ≡ None
      → (asking true kept).notes ≡ replied (asked true) (reply 6 (1 ∷ 0 ∷ []))
  pub unwanted : (kept : RecipesView) → (asking false kept).notes ≡ silent (asked false)
  pub not_asked : (kept : RecipesView) → unserved (begun_at asks (asked false) (with_recipes kept)) ≡ []
  -- a name that is known is deleted, and one that isn't refuses that
  pub dropped :
      (kept : RecipesView) → delete_ackc7_of (second ∷ []) kept.map ≡ 0
      → (deleting kept).notes ≡ replied deleted (code 18 0)
  pub without_it :
      (kept : RecipesView) → delete_ackc7_of (second ∷ []) kept.map ≡ 0
      → (deleting kept).next.recipes ≡ record kept { map = after_change (Deletes (second ∷ [])) kept.map }
  pub not_dropped :
      (kept : RecipesView) → delete_ackc7_of (second ∷ []) kept.map ≡ 4
      → (deleting kept).notes ≡ replied deleted (code 18 4)
  pub not_changed :
      (kept : RecipesView) → delete_ackc7_of (second ∷ []) kept.map ≡ 4 → (deleting kept).next.recipes ≡ kept
  -- all names, or that there is none
  pub named :
      (kept : RecipesView) → names_of kept.map ≡ first ∷ []
      → (listing kept).notes ≡ replied listed (reply 20 (1 ∷ 1 ∷ 65 ∷ 2 ∷ 65 ∷ 49 ∷ []))
  pub none :
      (kept : RecipesView) → names_of kept.map ≡ [] → (listing kept).notes ≡ replied listed (reply 20 (1 ∷ 0 ∷ []))
