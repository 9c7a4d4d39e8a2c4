-- Which items have a spelling, and where the first stands that has none.
use Rattle.std.specs.Prelude.{◌≡◌, ◌≢◌, ℕ, zero, suc, ◌+◌, ◌-◌, ◌*◌, List, [], ◌∷◌, ◌++◌, length, nat_lt, if◌then◌else◌, Option, Some, None, Result, Ok, Err}
use Rattle.std.specs.List.{flat_map}
use Rattle.std.specs.Option.{option_or}
use Rattle.gl_base.specs.Rows.{Grows}
use Rattle.secs_items.specs.declared.encode_fault.EncodeFault.{EncodeFault}
use Rattle.secs_items.specs.declared.encode_fault.EncodeFault.TheVariants as fault
use Rattle.secs_items.specs.declared.item.Item.{Item, out-Item}
use Rattle.secs_items.specs.declared.kind.Kind.{Kind}
use Rattle.secs_items.specs.Kinds.{is_list, unit_of}
use Rattle.secs_items.specs.Layers.{kind_of, length_of, items_of}
use Rattle.secs_items.specs.Limits.{max_depth, max_length}
use Rattle.secs_items.specs.Spelling.{shortest_head, shortest_spelling}

-- an item whose length three bytes don't hold, before which stand at bytes
abbrev pub long_fault : ℕ → ℕ → Option EncodeFault
long_fault at n = if nat_lt max_length n then Some (fault.TooLong at) else None

-- the first fault of items one after another, before which stand at bytes, where faulty says what each has at its place
abbrev pub first_of : (ℕ → Item → Option EncodeFault) → ℕ → List Item → Option EncodeFault
first_of faulty at [] = None
first_of faulty at (item ∷ items) =
    option_or (faulty at item) (first_of faulty (at + length (shortest_spelling item)) items)

-- The first fault, in the spelling's order, of an item before which stand at bytes and in which lists may nest so
-- deep. A list that stands too deep has that fault before any other.
abbrev pub fault_within : ℕ → ℕ → Item → Option EncodeFault
fault_within zero at item =
    let x = out-Item item in
    if is_list (kind_of x) then Some (fault.TooDeep at) else long_fault at (length_of x)
fault_within (suc depth) at item =
    let x = out-Item item in
    option_or (long_fault at (length_of x))
    (first_of (fault_within depth) (at + length (shortest_head (kind_of x) (length_of x))) (items_of x))

-- the first fault of an item, if it has no spelling; no list stands in more than 63 others (this profile)
unfoldable pub encode_fault : Item → Option EncodeFault
encode_fault = fault_within max_depth 0

-- What a step of writing has done: all was put at the end, or the row has grown and, unless memory ran out, the fault
-- is the first one.
abbrev pub Encodes : List ℕ → Option EncodeFault → List ℕ → List ℕ → Result (Unit {0}) EncodeFault → Type 0
Encodes spelling first old new (Ok _) = (new ≡ old ++ spelling) × (first ≡ None)
Encodes spelling first old new (Err e) = Grows old new × (e ≢ fault.NoMemory → first ≡ Some e)

-- an item, or items one after another, in which lists may nest so deep; the whole spelling begins at the start
abbrev pub EncodesItem : Item → ℕ → ℕ → List ℕ → List ℕ → Result (Unit {0}) EncodeFault → Type 0
EncodesItem item depth start old = Encodes (shortest_spelling item) (fault_within depth (length old - start) item) old

abbrev pub EncodesItems : List Item → ℕ → ℕ → List ℕ → List ℕ → Result (Unit {0}) EncodeFault → Type 0
EncodesItems items depth start old =
    Encodes (flat_map shortest_spelling items) (first_of (fault_within depth) (length old - start) items) old

-- the head of so many items or elements, and the head with content behind it, of an item before which stand at bytes
abbrev pub EncodesHead : Kind → ℕ → ℕ → List ℕ → List ℕ → Result (Unit {0}) EncodeFault → Type 0
EncodesHead kind count at = Encodes (shortest_head kind (unit_of kind * count)) (long_fault at (unit_of kind * count))

abbrev pub EncodesLeaf : Kind → ℕ → List ℕ → ℕ → List ℕ → List ℕ → Result (Unit {0}) EncodeFault → Type 0
EncodesLeaf kind count content at =
    Encodes (shortest_head kind (unit_of kind * count) ++ content) (long_fault at (unit_of kind * count))

-- the head with such elements behind it
abbrev pub EncodesElements :
    {T : Type 0} → (T → List ℕ) → Kind → List T → ℕ → List ℕ → List ℕ → Result (Unit {0}) EncodeFault → Type 0
EncodesElements bytes_of kind elements = EncodesLeaf kind (length elements) (flat_map bytes_of elements)
