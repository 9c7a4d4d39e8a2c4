-- What the body of a primary asks for, by its shape (SEMI E5).
use Rattle.std.specs.Prelude.{◌≡◌, ℕ, ◌%◌, Bool, ◌==◌, nat_le, if◌then◌else◌, List, [], ◌∷◌, drop, length, Option, Some, None, Result, Ok, Err, ◌⊎◌}
use Rattle.std.specs.Option.{option_and_then, option_map}
use Rattle.secs_items.specs.declared.item.Item.{Item}
use Rattle.secs_items.specs.declared.item.Item.TheVariants as item
use Rattle.secs_items.specs.declared.item_fault.ItemFault.{ItemFault}
use Rattle.secs_items.specs.Limits.{max_depth}
use Rattle.secs_items.specs.Reading.{after_item}
use Rattle.secs_items.specs.Spelling.{Spells}
use Rattle.gem_shapes.specs.declared.entries.Definition.{Definition}
use Rattle.gem_shapes.specs.declared.entries.Linking.{Linking}
use Rattle.gem_shapes.specs.declared.entries.RuleEntry.{RuleEntry}
use Rattle.gem_shapes.specs.declared.primary.Primary.{Primary}
use Rattle.gem_shapes.specs.declared.primary.Primary.TheVariants as primary
use Rattle.gem_shapes.specs.declared.request.Request.{Request}
use Rattle.gem_shapes.specs.declared.request.Request.TheVariants as request
use Rattle.gem_shapes.specs.declared.request.TablesRequest.{TablesRequest}
use Rattle.gem_shapes.specs.declared.request.TablesRequest.TheVariants as tables_request
use Rattle.gem_shapes.specs.declared.request.RecipesRequest.{RecipesRequest}
use Rattle.gem_shapes.specs.declared.request.RecipesRequest.TheVariants as recipes_request
use Rattle.gem_shapes.specs.Elements.{anything, both, code, each, five, flag, identifier, identifier_or_all, identifiers, ppid, setting, small_number, text}
use Rattle.gem_shapes.specs.Primaries.{primary_with}

-- an entry of S2F33: L,2 RPTID L,b VID
abbrev pub definition : Item → Option Definition
definition item = option_map (λ x. record { rptid = x.0; vids = x.1 }) (both identifier (each identifier) item)

-- an entry of S2F35: L,2 CEID L,b RPTID
abbrev pub linking : Item → Option Linking
linking item = option_map (λ x. record { ceid = x.0; rptids = x.1 }) (both identifier (each identifier) item)

-- an entry of S2F43: L,2 STRID L,n FCNID
abbrev pub rule_entry : Item → Option RuleEntry
rule_entry item =
    option_map (λ x. record { stream = x.0; functions = x.1 }) (both small_number (each small_number) item)

-- the second part of S2F41 as it is, where it has its shape: L,n (L,2 CPNAME CPVAL) with any item as CPVAL
abbrev pub parameters : Item → Option Item
parameters item = option_map (λ _. item) (each (both text anything) item)

-- the bit of ALED that says that the alarm is to be enabled (SEMI E5, ALED)
abbrev pub enables : ℕ → Bool
enables aled = nat_le 128 aled

-- RSDC: 0 transmits the spool, 1 purges it (SEMI E5, RSDC)
abbrev pub spool_request : ℕ → Option Request
spool_request rsdc =
    if rsdc == 0 then Some request.TransmitSpool
    else if rsdc == 1 then Some request.PurgeSpool
    else None

-- S2F23: L,5 TRID DSPER TOTSMP REPGSZ L,n SVID, of which DSPER is any A (SEMI E5, S2F23)
abbrev pub trace_request : Item → Option Request
trace_request item =
    option_map (λ x. request.Trace x.0 x.1 x.2 x.3 x.4)
    (five identifier text identifier identifier (each identifier) item)

-- ---- bytes of items in a body

-- behind the head of an item, of which the first byte says how many others there are (SEMI E5, item header)
abbrev pub behind_head : List ℕ → List ℕ
behind_head [] = []
behind_head (format ∷ bytes) = drop (format % 4) bytes

-- what is left behind something that was read; none where that isn't there
abbrev pub left_behind : Result (List ℕ) ItemFault → List ℕ
left_behind (Ok rest) = rest
left_behind (Err e) = []

abbrev pub behind_item : List ℕ → List ℕ
behind_item bytes = left_behind (after_item (length bytes) max_depth bytes)

-- the bytes behind the first item of a list
abbrev pub behind_first : List ℕ → List ℕ
behind_first bytes = behind_item (behind_head bytes)

-- S7F3: L,2 PPID PPBODY, of which the body is the bytes behind the name (SEMI E5, S7F3; that these are kept as they
-- came is this profile's)
abbrev pub sent : Item → List ℕ → Option Request
sent item behind =
    option_map (λ x. request.OfRecipes (recipes_request.Send x.0 behind)) (both ppid anything item)

-- The shape of a body: anything at all; nothing, as no byte or as an empty list (this profile); one item; or one list,
-- with the bytes behind its first item.
pub data Shape : Type 0 where
  Anything : (asked : Request) → Shape
  Nothing : (asked : Request) → Shape
  OneItem : (read : Item → Option Request) → Shape
  ListAndBytes : (read : Item → List ℕ → Option Request) → Shape

-- one item, of which the request of the tables is made
abbrev pub item_shape : {T : Type 0} → (T → TablesRequest) → (Item → Option T) → Shape
item_shape make read = OneItem (λ item. option_map (λ x. request.OfTables (make x)) (read item))

-- so of the recipes
abbrev pub recipes_shape : {T : Type 0} → (T → RecipesRequest) → (Item → Option T) → Shape
recipes_shape make read = OneItem (λ item. option_map (λ x. request.OfRecipes (make x)) (read item))

-- what one item is read as, where the shape is one item
abbrev pub request_in : Shape → Item → Option Request
request_in (OneItem read) item = read item
request_in _ item = None

abbrev pub shape_of : Primary → Shape
shape_of primary.S1F1 = Nothing (request.OfTables tables_request.AreYouThere)
shape_of primary.S1F3 = item_shape tables_request.StatusValues (each identifier)
shape_of primary.S1F11 = item_shape tables_request.StatusNames (each identifier)
shape_of primary.S1F13 = Anything request.Establish
shape_of primary.S1F15 = Nothing request.GoOffline
shape_of primary.S1F17 = Nothing request.GoOnline
shape_of primary.S2F13 = item_shape tables_request.ConstantValues (each identifier)
shape_of primary.S2F15 = item_shape tables_request.SetConstants (each (both identifier setting))
shape_of primary.S2F23 = OneItem trace_request
shape_of primary.S2F29 = item_shape tables_request.ConstantNames (each identifier)
shape_of primary.S2F33 = item_shape (λ x. tables_request.Define x.0 x.1) (both identifier (each definition))
shape_of primary.S2F35 = item_shape (λ x. tables_request.Link x.0 x.1) (both identifier (each linking))
shape_of primary.S2F37 = item_shape (λ x. tables_request.EnableEvents x.0 x.1) (both flag (each identifier))
shape_of primary.S2F39 = item_shape (λ x. tables_request.Announce x.0 x.1) (both identifier identifier)
shape_of primary.S2F41 = item_shape (λ x. tables_request.Command x.0 x.1) (both text parameters)
shape_of primary.S2F43 = item_shape tables_request.ReplaceRule (each rule_entry)
shape_of primary.S5F3 = item_shape (λ x. tables_request.EnableAlarms (enables x.0) x.1) (both code identifier_or_all)
shape_of primary.S5F5 = item_shape tables_request.Alarms identifiers
shape_of primary.S5F7 = Nothing (request.OfTables tables_request.EnabledAlarms)
shape_of primary.S6F15 = item_shape tables_request.EventReport identifier
shape_of primary.S6F19 = item_shape tables_request.Report identifier
shape_of primary.S6F23 = OneItem (λ item. option_and_then spool_request (small_number item))
shape_of primary.S7F1 = recipes_shape (λ x. recipes_request.Inquire x.0 x.1) (both ppid identifier)
shape_of primary.S7F3 = ListAndBytes sent
shape_of primary.S7F5 = recipes_shape recipes_request.Ask ppid
shape_of primary.S7F17 = recipes_shape recipes_request.Delete (each ppid)
shape_of primary.S7F19 = Nothing (request.OfRecipes recipes_request.List)
shape_of primary.S10F3 = item_shape (λ x. tables_request.Display x.0 x.1) (both code text)
shape_of primary.S10F5 = item_shape (λ x. tables_request.DisplayLines x.0 x.1) (both code (each text))

-- no byte, or an empty list
abbrev pub IsNothing : List ℕ → Type 0
IsNothing body = (body ≡ []) ⊎ Spells (item.L []) body

-- the body is one item that is read as this
abbrev pub IsAskedByItem : (Item → Option Request) → List ℕ → Request → Type 0
IsAskedByItem read body request = (item : Item) × Spells item body × (read item ≡ Some request)

-- the body is of this shape and asks for this
abbrev pub FitsShape : Shape → List ℕ → Request → Type 0
FitsShape (Anything asked) body request = request ≡ asked
FitsShape (Nothing asked) body request = IsNothing body × (request ≡ asked)
FitsShape (OneItem read) body request = IsAskedByItem read body request
FitsShape (ListAndBytes read) body request = IsAskedByItem (λ item. read item (behind_first body)) body request

-- a primary's body asks for this; one that isn't known asks for nothing
abbrev pub AsksFor : Option Primary → List ℕ → Request → Type 0
AsksFor None body request = ⊥
AsksFor (Some primary) body request = FitsShape (shape_of primary) body request

-- the message asks the equipment for this
abbrev pub Asks : ℕ → ℕ → List ℕ → Request → Type 0
Asks stream function = AsksFor (primary_with stream function)

-- What was found is what is asked for, and where nothing was found, nothing is.
abbrev pub IsFound : (Request → Type 0) → Option Request → Type 0
IsFound IsAsked (Some request) = IsAsked request
IsFound IsAsked None = (request : Request) → IsAsked request → ⊥
