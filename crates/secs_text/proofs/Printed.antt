-- The text of a list.
use Rattle.std.proofs.Common.{◌≡◌, ℕ, List, [], ◌∷◌, ◌++◌, map, refl, sym, ap, ◌∙◌}
use Rattle.secs_items.specs.declared.item.Item.{Item}
use Rattle.secs_items.specs.declared.item.Item.TheOpen.{Item-F}
use Rattle.secs_items.specs.declared.item.Item.TheFolds.{fold-roll-Item}
use Rattle.secs_items.specs.declared.item.Item.TheVariants as item
use Rattle.secs_items.specs.declared.item.Item.TheVariants.{rolls-L}
use Rattle.secs_text.specs.Text.{spaced_texts, text_layer, text_of}

pub spaced_texts-map : (items : List Item) → spaced_texts (λ (text : List ℕ). text) (map text_of items) ≡ spaced_texts text_of items
spaced_texts-map [] = refl
spaced_texts-map (i ∷ items) = ap (λ (s : List ℕ). (32 ∷ text_of i) ++ s) (spaced_texts-map items)

pub text_L : (items : List Item) → text_of (item.L items) ≡ 60 ∷ 76 ∷ [] ++ spaced_texts text_of items ++ 62 ∷ []
text_L items =
    ap text_of (sym (rolls-L items)) ∙ fold-roll-Item (List ℕ) text_layer (Item-F.L items)
    ∙ ap (λ (s : List ℕ). 60 ∷ 76 ∷ [] ++ s ++ 62 ∷ []) (spaced_texts-map items)
