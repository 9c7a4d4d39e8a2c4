-- The codes by which replies of the host accept.
use Rattle.std.specs.Prelude.{ℕ, Bool, false, ◌==◌, List, [], ◌∷◌}
use Rattle.std.specs.Option.{option_map_or}
use Rattle.secs_items.specs.declared.item.Item.{Item}
use Rattle.gem_shapes.specs.Elements.{anything, both, code}
use Rattle.equipment_tables.specs.Requests.{item_in}

-- L,2 of COMMACK 0, B of one byte, and anything (SEMI E5, S1F14)
abbrev pub is_accepting : Item → Bool
is_accepting whole = option_map_or (λ parts. parts.0 == 0) (both code anything whole) false

abbrev pub is_accepted_in : List ℕ → Bool
is_accepted_in body = option_map_or is_accepting (item_in body) false

-- two items, of which the first one is B of one byte 00
abbrev pub is_zero_in : List Item → Bool
is_zero_in (first ∷ second ∷ []) = option_map_or (λ commack. commack == 0) (code first) false
is_zero_in _ = false

-- GRANT6 0, B of one byte (SEMI E5, S6F6)
abbrev pub is_granting : Item → Bool
is_granting whole = option_map_or (λ grant. grant == 0) (code whole) false

abbrev pub is_granted_in : List ℕ → Bool
is_granted_in body = option_map_or is_granting (item_in body) false
