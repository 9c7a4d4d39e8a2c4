-- What a message asks the equipment for, as a function of its bytes.
use Rattle.std.specs.Prelude.{◌||◌, ◌==◌, ℕ, Bool, false, List, length, Option, Some, None, Result, Ok, Err, if◌then◌else◌}
use Rattle.std.specs.Option.{option_and_then, option_map_or}
use Rattle.secs_items.specs.declared.item.Item.{Item, out-Item}
use Rattle.secs_items.specs.declared.item_fault.ItemFault.{ItemFault}
use Rattle.secs_items.specs.Limits.{max_depth}
use Rattle.secs_items.specs.Reading.{item_at}
use Rattle.gem_shapes.specs.declared.request.Request.{Request}
use Rattle.gem_shapes.specs.Elements.{is_empty_list}
use Rattle.gem_shapes.specs.Primaries.{primary_with}
use Rattle.gem_shapes.specs.Requests.{Shape, behind_first, shape_of}
use Rattle.gem_shapes.specs.Requests.Shape.{Anything, ListAndBytes, Nothing, OneItem}

-- the item that was read, where no bytes are left
abbrev pub whole_item : Result (Item × List ℕ) ItemFault → Option Item
whole_item (Ok x) = if length x.1 == 0 then Some x.0 else None
whole_item (Err e) = None

-- the item that the bytes are, if they are one
abbrev pub item_in : List ℕ → Option Item
item_in bytes = whole_item (item_at (length bytes) max_depth bytes)

-- no byte, or an empty list (this profile)
abbrev pub is_nothing : List ℕ → Bool
is_nothing body = (length body == 0) || option_map_or (λ item. is_empty_list (out-Item item)) (item_in body) false

-- what a body of a shape asks for, if it is of that shape
abbrev pub asked_by : Shape → List ℕ → Option Request
asked_by (Anything asked) body = Some asked
asked_by (Nothing asked) body = if is_nothing body then Some asked else None
asked_by (OneItem read) body = option_and_then read (item_in body)
asked_by (ListAndBytes read) body = option_and_then (λ item. read item (behind_first body)) (item_in body)

-- what a message asks for; nothing where the equipment takes no such primary, or where the body isn't of its shape
abbrev pub request_of : ℕ → ℕ → List ℕ → Option Request
request_of stream function body =
    option_and_then (λ primary. asked_by (shape_of primary) body) (primary_with stream function)
