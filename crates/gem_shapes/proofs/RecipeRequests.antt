-- Which requests are put to the recipes, and that only stream 7 has them: for laws of the crates above, which tell them
-- from all others.
use Rattle.std.proofs.Common.{◌≡◌, refl, sym, ap, ◌∙◌, ◌==◌, Bool, true, false, cond, ℕ, List, Option, Some, None}
use Rattle.std.specs.Option.{option_and_then, option_map}
use Rattle.std.proofs.lemmas.Bool.{eqb-true}
use Rattle.secs_items.specs.declared.item.Item.{Item}
use Rattle.gem_shapes.specs.declared.primary.Primary.{Primary}
use Rattle.gem_shapes.specs.declared.primary.Primary.TheVariants as primary
use Rattle.gem_shapes.specs.declared.request.RecipesRequest.{RecipesRequest}
use Rattle.gem_shapes.specs.declared.request.Request.{Request}
use Rattle.gem_shapes.specs.declared.request.Request.TheVariants as request
use Rattle.gem_shapes.specs.declared.request.TablesRequest.{TablesRequest}
use Rattle.gem_shapes.specs.declared.request.TablesRequest.TheVariants as tables_request
use Rattle.gem_shapes.specs.Asked.{asked_by, is_nothing, item_in, request_of}
use Rattle.gem_shapes.specs.Elements.{both, code, each, flag, identifier, identifier_or_all, identifiers, setting, small_number, text}
use Rattle.gem_shapes.specs.Primaries.{primary_with, stream_and_function}
use Rattle.gem_shapes.specs.Requests.{Shape, definition, enables, item_shape, linking, parameters, rule_entry, shape_of, spool_request, trace_request}
use Rattle.gem_shapes.specs.Requests.Shape.{Nothing}
use Rattle.gem_shapes.proofs.Primaries.{found_has}

abbrev pub asks_recipes : Request → Bool
asks_recipes (request.OfRecipes asked) = true
asks_recipes _ = false

-- what holds of these, and of each other one, holds of all
pub each_request :
    (Holds : Request → Type 0) → ((asked : RecipesRequest) → Holds (request.OfRecipes asked))
    → ((asks : Request) → asks_recipes asks ≡ false → Holds asks) → (asks : Request) → Holds asks
each_request Holds recipes other (request.OfRecipes asked) = recipes asked
each_request Holds recipes other (request.OfTables asked) = other (request.OfTables asked) refl
each_request Holds recipes other request.Establish = other request.Establish refl
each_request Holds recipes other request.GoOffline = other request.GoOffline refl
each_request Holds recipes other request.GoOnline = other request.GoOnline refl
each_request Holds recipes other request.TransmitSpool = other request.TransmitSpool refl
each_request Holds recipes other request.PurgeSpool = other request.PurgeSpool refl
each_request Holds recipes other (request.Trace trid dsper total group svids) =
    other (request.Trace trid dsper total group svids) refl

-- ---- shapes that put none to them

abbrev AsksNone : Shape → Type 0
AsksNone shape = (body : List ℕ) (asks : Request) → asked_by shape body ≡ Some asks → asks_recipes asks ≡ false

of_one : (one asks : Request) → asks_recipes one ≡ false → ◌≡◌ {A = Option Request} (Some one) (Some asks)
    → asks_recipes asks ≡ false
of_one one asks none is = let same : one ≡ asks = cc in ap asks_recipes (sym same) ∙ none

of_item :
    (read : Item → Option Request)
    → ((item : Item) (asks : Request) → read item ≡ Some asks → asks_recipes asks ≡ false)
    → (o : Option Item) (asks : Request) → option_and_then read o ≡ Some asks → asks_recipes asks ≡ false
of_item read each None asks is = absurd (cc)
of_item read each (Some item) asks is = each item asks is

of_made :
    {T : Type 0} (make : T → Request) → ((t : T) → asks_recipes (make t) ≡ false) → (o : Option T) (asks : Request)
    → option_map make o ≡ Some asks → asks_recipes asks ≡ false
of_made make each None asks is = absurd (cc)
of_made make each (Some t) asks is = of_one (make t) asks (each t) is

tables_none : {T : Type 0} (make : T → TablesRequest) (read : Item → Option T) → AsksNone (item_shape make read)
tables_none make read body asks is =
    of_item (λ item. option_map (λ t. request.OfTables (make t)) (read item))
    (λ item one found. of_made (λ t. request.OfTables (make t)) (λ t. refl) (read item) one found)
    (item_in body) asks is

nothing_none : (one : Request) → asks_recipes one ≡ false → AsksNone (Nothing one)
nothing_none one none body asks is = go (is_nothing body) is
  where
    go : (b : Bool) → cond b (Some one) None ≡ Some asks → asks_recipes asks ≡ false
    go true here = of_one one asks none here
    go false here = absurd (cc)

trace_none : AsksNone (shape_of primary.S2F23)
trace_none body asks is =
    of_item trace_request (λ item one found. of_made _ (λ x. refl) _ one found) (item_in body) asks is

spool_none : AsksNone (shape_of primary.S6F23)
spool_none body asks is =
    of_item (λ item. option_and_then spool_request (small_number item))
    (λ item one found. of_number (small_number item) one found) (item_in body) asks is
  where
    by_code : (none one : Bool) (asked : Request)
        → cond none (Some request.TransmitSpool) (cond one (Some request.PurgeSpool) None) ≡ Some asked
        → asks_recipes asked ≡ false
    by_code true one asked here = of_one request.TransmitSpool asked refl here
    by_code false true asked here = of_one request.PurgeSpool asked refl here
    by_code false false asked here = absurd (cc)

    of_number : (o : Option ℕ) (asked : Request) → option_and_then spool_request o ≡ Some asked
        → asks_recipes asked ≡ false
    of_number None asked here = absurd (cc)
    of_number (Some n) asked here = by_code (n == 0) (n == 1) asked here

apart : (p : Primary) → ((stream_and_function p).0 == 7) ≡ false → AsksNone (shape_of p)
apart primary.S1F1 other = nothing_none (request.OfTables tables_request.AreYouThere) refl
apart primary.S1F3 other = tables_none tables_request.StatusValues (each identifier)
apart primary.S1F11 other = tables_none tables_request.StatusNames (each identifier)
apart primary.S1F13 other = λ body asks is. of_one request.Establish asks refl is
apart primary.S1F15 other = nothing_none request.GoOffline refl
apart primary.S1F17 other = nothing_none request.GoOnline refl
apart primary.S2F13 other = tables_none tables_request.ConstantValues (each identifier)
apart primary.S2F15 other = tables_none tables_request.SetConstants (each (both identifier setting))
apart primary.S2F23 other = trace_none
apart primary.S2F29 other = tables_none tables_request.ConstantNames (each identifier)
apart primary.S2F33 other = tables_none (λ x. tables_request.Define x.0 x.1) (both identifier (each definition))
apart primary.S2F35 other = tables_none (λ x. tables_request.Link x.0 x.1) (both identifier (each linking))
apart primary.S2F37 other = tables_none (λ x. tables_request.EnableEvents x.0 x.1) (both flag (each identifier))
apart primary.S2F39 other = tables_none (λ x. tables_request.Announce x.0 x.1) (both identifier identifier)
apart primary.S2F41 other = tables_none (λ x. tables_request.Command x.0 x.1) (both text parameters)
apart primary.S2F43 other = tables_none tables_request.ReplaceRule (each rule_entry)
apart primary.S5F3 other =
    tables_none (λ x. tables_request.EnableAlarms (enables x.0) x.1) (both code identifier_or_all)
apart primary.S5F5 other = tables_none tables_request.Alarms identifiers
apart primary.S5F7 other = nothing_none (request.OfTables tables_request.EnabledAlarms) refl
apart primary.S6F15 other = tables_none tables_request.EventReport identifier
apart primary.S6F19 other = tables_none tables_request.Report identifier
apart primary.S6F23 other = spool_none
apart primary.S7F1 other = absurd (cc)
apart primary.S7F3 other = absurd (cc)
apart primary.S7F5 other = absurd (cc)
apart primary.S7F17 other = absurd (cc)
apart primary.S7F19 other = absurd (cc)
apart primary.S10F3 other = tables_none (λ x. tables_request.Display x.0 x.1) (both code text)
apart primary.S10F5 other = tables_none (λ x. tables_request.DisplayLines x.0 x.1) (both code (each text))

-- ---- the stream

pub recipes_stream :
    (stream function : ℕ) (body : List ℕ) (asks : Request) → request_of stream function body ≡ Some asks
    → asks_recipes asks ≡ true → stream ≡ 7
recipes_stream stream function body asks is of = go (primary_with stream function) refl is
  where
    go : (o : Option Primary) → primary_with stream function ≡ o
        → option_and_then (λ p. asked_by (shape_of p) body) o ≡ Some asks → stream ≡ 7
    go None found here = absurd (cc)
    go (Some p) found here = by ((stream_and_function p).0 == 7) refl
      where
        by : (b : Bool) → ((stream_and_function p).0 == 7) ≡ b → stream ≡ 7
        by true seven = (found_has stream function p found).0 ∙ eqb-true (stream_and_function p).0 7 seven
        by false other = let none = apart p other body asks here in absurd (cc)
