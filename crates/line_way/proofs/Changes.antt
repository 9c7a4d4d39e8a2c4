-- A byte that is written at a place.
use Rattle.std.proofs.Common.{◌≡◌, ◌<◌, ◌≤◌, zero, suc, ℕ, List, [], ◌∷◌, length, slice_index_or, refl, ap, arith}
use Rattle.std.specs.Prelude.{slice_set}
use Rattle.line_way.specs.declared.character.Character.{Character}
use Rattle.line_way.specs.Kept.{with_byte}

-- the character there is set with another byte
pub set_is : (place byte : ℕ) (characters : List Character) (x : Character) → place < length characters
    → x ≡ slice_index_or characters place x
    → slice_set characters place (record x { byte = byte }) ≡ with_byte place byte characters
set_is place byte [] x within is = absurd (omega arith)
set_is zero byte (c ∷ cs) x within is = ap (λ (y : Character). record y { byte = byte } ∷ cs) is
set_is (suc place) byte (c ∷ cs) x within is =
    ap (λ (rest : List Character). c ∷ rest) (set_is place byte cs x (omega arith) is)

-- none is there
pub none_is : (place byte : ℕ) (characters : List Character) → length characters ≤ place
    → with_byte place byte characters ≡ characters
none_is place byte [] past = refl
none_is zero byte (c ∷ cs) past = absurd (omega arith)
none_is (suc place) byte (c ∷ cs) past = ap (λ (rest : List Character). c ∷ rest) (none_is place byte cs (omega arith))
