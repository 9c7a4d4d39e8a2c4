-- The bytes of the host's replies.
use Rattle.std.proofs.Common.{◌≡◌, sym, ap, ◌∙◌, ℕ, List, [], ◌∷◌}
use Rattle.secs_items.specs.declared.item.Item.TheOpen.{Item-F}
use Rattle.secs_items.specs.declared.item.Item.TheFolds.{fold-roll-Item}
use Rattle.secs_items.specs.declared.item.Item.TheVariants.{rolls-B, rolls-L}
use Rattle.secs_items.specs.Spelling.{shortest_layer, shortest_spelling}
use Rattle.gem_shapes.specs.Answers.{code_item, pair_item}
use Rattle.host_node.specs.Replies.{no_identity}

pub spelled_code : shortest_spelling (code_item 0) ≡ 33 ∷ 1 ∷ 0 ∷ []
spelled_code =
    ap shortest_spelling (sym (rolls-B (0 ∷ [])))
    ∙ fold-roll-Item (List ℕ) shortest_layer (Item-F.B (0 ∷ []))

pub spelled_nothing : shortest_spelling no_identity ≡ 1 ∷ 0 ∷ []
spelled_nothing =
    ap shortest_spelling (sym (rolls-L [])) ∙ fold-roll-Item (List ℕ) shortest_layer (Item-F.L [])

pub spelled_established :
    shortest_spelling (pair_item (code_item 0) no_identity) ≡ 1 ∷ 2 ∷ 33 ∷ 1 ∷ 0 ∷ 1 ∷ 0 ∷ []
spelled_established =
    ap shortest_spelling (sym (rolls-L (code_item 0 ∷ no_identity ∷ [])))
    ∙ fold-roll-Item (List ℕ) shortest_layer (Item-F.L (code_item 0 ∷ no_identity ∷ []))
    ∙ ap (λ (code : List ℕ). shortest_layer (Item-F.L (code ∷ shortest_spelling no_identity ∷ []))) spelled_code
    ∙ ap (λ (none : List ℕ). shortest_layer (Item-F.L ((33 ∷ 1 ∷ 0 ∷ []) ∷ none ∷ []))) spelled_nothing
