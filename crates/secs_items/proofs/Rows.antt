-- What `==` says of two rows of numbers or of raw floats.
use Rattle.std.proofs.Common.{◌≡◌, ℕ, ℤ, Bool, List, int_eq, eqb, sym, ap, ◌∙◌}
use Rattle.std.specs.Bool.{Decides}
use Rattle.std.specs.Cmp.Lexicographic.{pointwise}
use Rattle.std.proofs.lemmas.Bool.Decides.{Decides-int_eq}
use Rattle.std.proofs.lemmas.Slice.Eq.{bytes_eq-Decides, slice_eq-Decides}
use Rattle.secs_items.specs.declared.item.Item.{Item, out-Item}
use Rattle.secs_items.specs.declared.item.Item.TheOpen.{Item-F}
use Rattle.secs_items.specs.declared.item.Item.TheVariants as item
use Rattle.secs_items.proofs.Layers.{out_F4, out_F8}

pub signed_rows : (xs ys : List ℤ) (r : Bool) → r ≡ pointwise int_eq xs ys → Decides r (xs ≡ ys)
signed_rows xs ys r e = slice_eq-Decides Decides-int_eq xs ys r e

raw_rows : (xs ys : List (List ℕ)) (r : Bool) → r ≡ pointwise (pointwise eqb) xs ys → Decides r (xs ≡ ys)
raw_rows xs ys r e = slice_eq-Decides bytes_eq-Decides xs ys r e

-- two items of raw floats are equal exactly where their rows are
pub raw_equal : (make : List (List ℕ) → Item) (i j : Item) (xs ys first_rows other_rows : List (List ℕ)) (r : Bool) → (make xs ≡ make ys → xs ≡ ys) → i ≡ make xs
    → j ≡ make ys → first_rows ≡ xs → other_rows ≡ ys → r ≡ pointwise (pointwise eqb) first_rows other_rows → Decides r (i ≡ j)
raw_equal make i j xs ys first_rows other_rows r rows first second one other e =
    let decides = raw_rows xs ys r (rw (← one, ← other) e) in
    (λ yes. first ∙ ap make (decides.0 yes) ∙ sym second, λ same. decides.1 (rows (sym first ∙ same ∙ second)))

pub rows_F4 : (xs ys : List (List ℕ)) → item.F4 xs ≡ item.F4 ys → xs ≡ ys
rows_F4 xs ys e = let opened : Item-F.F4 xs ≡ Item-F.F4 ys = sym (out_F4 xs) ∙ ap out-Item e ∙ out_F4 ys in cc

pub rows_F8 : (xs ys : List (List ℕ)) → item.F8 xs ≡ item.F8 ys → xs ≡ ys
rows_F8 xs ys e = let opened : Item-F.F8 xs ≡ Item-F.F8 ys = sym (out_F8 xs) ∙ ap out-Item e ∙ out_F8 ys in cc
