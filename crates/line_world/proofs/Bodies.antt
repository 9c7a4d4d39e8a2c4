-- The bytes of what the host asks for.
use Rattle.std.proofs.Common.{◌≡◌, sym, ap, ◌∙◌, ℕ, List, [], ◌∷◌}
use Rattle.secs_items.specs.declared.item.Item.{Item}
use Rattle.secs_items.specs.declared.item.Item.TheFolds.{fold-roll-Item}
use Rattle.secs_items.specs.declared.item.Item.TheOpen.{Item-F}
use Rattle.secs_items.specs.declared.item.Item.TheVariants as item
use Rattle.secs_items.specs.declared.item.Item.TheVariants.{rolls-Bool, rolls-L, rolls-U1, rolls-U4}
use Rattle.secs_items.specs.Spelling.{shortest_layer, shortest_spelling}
use Rattle.line_world.specs.Make.{enables_all, one_u4, pairs_of, sends_all}

abbrev list_bytes : List (List ℕ) → List ℕ
list_bytes parts = shortest_layer (Item-F.L parts)

abbrev u4_bytes : ℕ → List ℕ
u4_bytes n = shortest_layer (Item-F.U4 (n ∷ []))

spelled-u4 : (n : ℕ) → shortest_spelling (one_u4 n) ≡ u4_bytes n
spelled-u4 n =
    ap shortest_spelling (sym (rolls-U4 (n ∷ []))) ∙ fold-roll-Item (List ℕ) shortest_layer (Item-F.U4 (n ∷ []))

spelled-none : shortest_spelling (item.L []) ≡ list_bytes []
spelled-none = ap shortest_spelling (sym (rolls-L [])) ∙ fold-roll-Item (List ℕ) shortest_layer (Item-F.L [])

spelled-one : (one : Item) (bytes : List ℕ) → shortest_spelling one ≡ bytes
    → shortest_spelling (item.L (one ∷ [])) ≡ list_bytes (bytes ∷ [])
spelled-one one bytes is =
    ap shortest_spelling (sym (rolls-L (one ∷ []))) ∙ fold-roll-Item (List ℕ) shortest_layer (Item-F.L (one ∷ []))
    ∙ ap (λ (part : List ℕ). list_bytes (part ∷ [])) is

spelled-two :
    (one two : Item) (first second : List ℕ) → shortest_spelling one ≡ first → shortest_spelling two ≡ second
    → shortest_spelling (item.L (one ∷ two ∷ [])) ≡ list_bytes (first ∷ second ∷ [])
spelled-two one two first second is then =
    ap shortest_spelling (sym (rolls-L (one ∷ two ∷ [])))
    ∙ fold-roll-Item (List ℕ) shortest_layer (Item-F.L (one ∷ two ∷ []))
    ∙ ap (λ (part : List ℕ). list_bytes (part ∷ shortest_spelling two ∷ [])) is
    ∙ ap (λ (part : List ℕ). list_bytes (first ∷ part ∷ [])) then

spelled-pairs :
    (dataid one other : ℕ)
    → shortest_spelling (pairs_of dataid one other)
    ≡ list_bytes (u4_bytes dataid
    ∷ list_bytes (list_bytes (u4_bytes one ∷ list_bytes (u4_bytes other ∷ []) ∷ []) ∷ []) ∷ [])
spelled-pairs dataid one other =
    spelled-two (one_u4 dataid) _ _ _ (spelled-u4 dataid)
    (spelled-one _ _
    (spelled-two (one_u4 one) _ _ _ (spelled-u4 one) (spelled-one (one_u4 other) _ (spelled-u4 other))))

abbrev pub s2f33_bytes : List ℕ
s2f33_bytes =
    1 ∷ 2 ∷ 177 ∷ 4 ∷ 0 ∷ 0 ∷ 0 ∷ 1 ∷ 1 ∷ 1 ∷ 1 ∷ 2 ∷ 177 ∷ 4 ∷ 0 ∷ 0 ∷ 0 ∷ 10 ∷ 1 ∷ 1 ∷ 177 ∷ 4 ∷ 0 ∷ 0 ∷ 0 ∷ 1 ∷ []

abbrev pub s2f35_bytes : List ℕ
s2f35_bytes =
    1 ∷ 2 ∷ 177 ∷ 4 ∷ 0 ∷ 0 ∷ 0 ∷ 2 ∷ 1 ∷ 1 ∷ 1 ∷ 2 ∷ 177 ∷ 4 ∷ 0 ∷ 0 ∷ 0 ∷ 1 ∷ 1 ∷ 1 ∷ 177 ∷ 4 ∷ 0 ∷ 0 ∷ 0 ∷ 10 ∷ []

abbrev pub s2f37_bytes : List ℕ
s2f37_bytes = 1 ∷ 2 ∷ 37 ∷ 1 ∷ 1 ∷ 1 ∷ 0 ∷ []

abbrev pub s6f23_bytes : List ℕ
s6f23_bytes = 165 ∷ 1 ∷ 0 ∷ []

pub spelled-s2f33 : shortest_spelling (pairs_of 1 10 1) ≡ s2f33_bytes
spelled-s2f33 = spelled-pairs 1 10 1

pub spelled-s2f35 : shortest_spelling (pairs_of 2 1 10) ≡ s2f35_bytes
spelled-s2f35 = spelled-pairs 2 1 10

pub spelled-s2f37 : shortest_spelling enables_all ≡ s2f37_bytes
spelled-s2f37 =
    spelled-two (item.Bool (1 ∷ [])) (item.L []) _ _
    (ap shortest_spelling (sym (rolls-Bool (1 ∷ [])))
    ∙ fold-roll-Item (List ℕ) shortest_layer (Item-F.Bool (1 ∷ [])))
    spelled-none

pub spelled-s6f23 : shortest_spelling sends_all ≡ s6f23_bytes
spelled-s6f23 =
    ap shortest_spelling (sym (rolls-U1 (0 ∷ []))) ∙ fold-roll-Item (List ℕ) shortest_layer (Item-F.U1 (0 ∷ []))
