-- The texts of the host's replies.
use Rattle.std.proofs.Common.{◌≡◌, sym, ap, ◌∙◌, true, false, Bool, ℕ, List, [], ◌∷◌, Some, None, Option, if◌then◌else◌}
use Rattle.std.specs.Option.{option_map}
use Rattle.secs_items.specs.Spelling.{shortest_spelling}
use Rattle.gem_shapes.specs.Answers.{code_item, pair_item}
use Rattle.host_node.specs.Replies.{is_acknowledged, is_establishing, is_question, no_identity, reply_item}
use Rattle.host_node.specs.Spelled.{spelled_code, spelled_established, spelled_nothing}

module _ (stream function : ℕ) where
  text-by : (question establishing acknowledged : Bool) → Option (List ℕ)
  text-by question establishing acknowledged =
      option_map shortest_spelling
      (if question then Some no_identity
      else if establishing then Some (pair_item (code_item 0) no_identity)
      else if acknowledged then Some (code_item 0) else None)

  pub to_question :
      is_question stream function ≡ true → Some (1 ∷ 0 ∷ []) ≡ option_map shortest_spelling
      (reply_item stream function)
  unfolding text-by
  to_question is =
      ap Some (sym spelled_nothing)
      ∙ ap (λ (b : Bool). text-by b (is_establishing stream function) (is_acknowledged stream function)) (sym is)

  pub to_establishing :
      is_question stream function ≡ false → is_establishing stream function ≡ true
      → Some (1 ∷ 2 ∷ 33 ∷ 1 ∷ 0 ∷ 1 ∷ 0 ∷ []) ≡ option_map shortest_spelling (reply_item stream function)
  unfolding text-by
  to_establishing none is =
      ap Some (sym spelled_established)
      ∙ ap (λ (b : Bool). text-by false b (is_acknowledged stream function)) (sym is)
      ∙ ap (λ (b : Bool). text-by b (is_establishing stream function) (is_acknowledged stream function)) (sym none)

  pub to_acknowledged :
      is_question stream function ≡ false → is_establishing stream function ≡ false
      → is_acknowledged stream function ≡ true
      → Some (33 ∷ 1 ∷ 0 ∷ []) ≡ option_map shortest_spelling (reply_item stream function)
  unfolding text-by
  to_acknowledged none other is =
      ap Some (sym spelled_code)
      ∙ ap (λ (b : Bool). text-by false false b) (sym is)
      ∙ ap (λ (b : Bool). text-by false b (is_acknowledged stream function)) (sym other)
      ∙ ap (λ (b : Bool). text-by b (is_establishing stream function) (is_acknowledged stream function)) (sym none)
