-- The item that a body spells, as the host reads it.
use Rattle.std.proofs.Common.{◌≡◌, refl, sym, ap, false, ℕ, List, [], ◌∷◌, length, Some}
use Rattle.std.specs.Prelude.{Result, Ok, Err}
use Rattle.std.specs.Option.{option_map_or}
use Rattle.secs_items.specs.declared.item.Item.{Item}
use Rattle.secs_items.specs.declared.item_fault.ItemFault.{ItemFault}
use Rattle.secs_items.specs.Limits.{max_depth}
use Rattle.secs_items.specs.Reading.{first_fault, item_at}
use Rattle.secs_items.specs.Spelling.{Spells}
use Rattle.secs_items.proofs.Faults.{read_none}
use Rattle.secs_items.proofs.SpellLaws.{spells_read}
use Rattle.host_node.specs.Replies.{establishes_item, is_established_by, whole_item}

pub established : (item : Item) (body : List ℕ) → Spells item body → establishes_item item ≡ is_established_by body
established item body spelled =
    ap (λ (read : Result (Item × List ℕ) ItemFault). option_map_or establishes_item (whole_item read) false)
    (sym (spells_read (length body) item body spelled))

-- what has a fault spells no item
pub faulty : (body : List ℕ) (fault : ItemFault) → first_fault body ≡ Some fault → false ≡ is_established_by body
faulty body fault is = go (item_at (length body) max_depth body) refl
  where
    go : (read : Result (Item × List ℕ) ItemFault) → item_at (length body) max_depth body ≡ read
        → false ≡ option_map_or establishes_item (whole_item read) false
    go (Err e) same = refl
    go (Ok (item, [])) same = let none = read_none body item [] same refl in absurd (cc)
    go (Ok (item, b ∷ rest)) same = refl
