-- Bodies of answers that several messages share.
use Rattle.std.specs.Prelude.{ℕ, List, [], ◌∷◌}
use Rattle.secs_items.specs.declared.item.Item.{Item}
use Rattle.secs_items.specs.declared.item.Item.TheVariants as item

-- an answer code, as EAC and DRACK: B of one element (SEMI E5)
abbrev pub code_item : ℕ → Item
code_item code = item.B (code ∷ [])

abbrev pub pair_item : Item → Item → Item
pair_item first second = item.L (first ∷ second ∷ [])

-- MDLN and SOFTREV (SEMI E5, S1F2 and S1F13; S1F14 has it as its second item)
abbrev pub identity_item : List ℕ → List ℕ → Item
identity_item mdln softrev = pair_item (item.A mdln) (item.A softrev)
