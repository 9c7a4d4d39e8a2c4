-- The test of two items tells whether they are equal.
use Rattle.std.proofs.Common.{◌≡◌, refl, sym, ◌∙◌, ap, subst, ℕ, ℤ, pos, negsuc, Bool, true, false, ◌&&◌, ◌==◌, List, [], ◌∷◌, map, nat_eq, Some, arith}
use Rattle.std.specs.Bool.{Decides}
use Rattle.std.specs.Cmp.Lexicographic.{bytes_decides, pointwise, pointwise_decides}
use Rattle.std.proofs.lemmas.Bool.{eqb-true}
use Rattle.secs_items.specs.declared.item.Item.{Item, out-Item}
use Rattle.secs_items.specs.declared.item.Item.TheFolds.{fold-roll-Item, ind-Item, map-Item}
use Rattle.secs_items.specs.declared.item.Item.TheOpen.{Item-F}
use Rattle.secs_items.specs.declared.item.Item.TheViews.{out-roll-Item, roll-Item, roll-out-Item}
use Rattle.secs_items.specs.declared.kind.Kind.{Kind}
use Rattle.secs_items.specs.declared.kind.Kind.TheVariants as kind
use Rattle.secs_items.specs.Kinds.{code_of, kind_with}
use Rattle.secs_items.specs.Layers.{items_of, kind_of}
use Rattle.equipment_tables.specs.SameItems.{each_passes, element_rows, is_same_item, same_layer, signed_row}

-- ---- one layer, from what the test compares

first_row : List (List ℕ) → List ℕ
first_row [] = []
first_row (row ∷ rows) = row

signed_from : List ℕ → ℤ
signed_from [] = pos 0
signed_from (n ∷ []) = pos n
signed_from (n ∷ m ∷ row) = negsuc n

signed_again : (numbers : List ℤ) → map signed_from (map signed_row numbers) ≡ numbers
unfolding signed_from
signed_again [] = refl
signed_again (pos n ∷ numbers) = ap (λ (zs : List ℤ). pos n ∷ zs) (signed_again numbers)
signed_again (negsuc n ∷ numbers) = ap (λ (zs : List ℤ). negsuc n ∷ zs) (signed_again numbers)

layer_from : Kind → List (List ℕ) → List Item → Item-F Item
layer_from kind.L rows items = Item-F.L items
layer_from kind.B rows items = Item-F.B (first_row rows)
layer_from kind.Bool rows items = Item-F.Bool (first_row rows)
layer_from kind.A rows items = Item-F.A (first_row rows)
layer_from kind.J rows items = Item-F.J (first_row rows)
layer_from kind.I1 rows items = Item-F.I1 (map signed_from rows)
layer_from kind.I2 rows items = Item-F.I2 (map signed_from rows)
layer_from kind.I4 rows items = Item-F.I4 (map signed_from rows)
layer_from kind.I8 rows items = Item-F.I8 (map signed_from rows)
layer_from kind.U1 rows items = Item-F.U1 (first_row rows)
layer_from kind.U2 rows items = Item-F.U2 (first_row rows)
layer_from kind.U4 rows items = Item-F.U4 (first_row rows)
layer_from kind.U8 rows items = Item-F.U8 (first_row rows)
layer_from kind.F4 rows items = Item-F.F4 rows
layer_from kind.F8 rows items = Item-F.F8 rows

layer_again : (x : Item-F Item) → layer_from (kind_of x) (element_rows x) (items_of x) ≡ x
unfolding layer_from first_row
layer_again (Item-F.L xs) = refl
layer_again (Item-F.B xs) = refl
layer_again (Item-F.Bool xs) = refl
layer_again (Item-F.A xs) = refl
layer_again (Item-F.J xs) = refl
layer_again (Item-F.I1 xs) = ap (λ (zs : List ℤ). Item-F.I1 zs) (signed_again xs)
layer_again (Item-F.I2 xs) = ap (λ (zs : List ℤ). Item-F.I2 zs) (signed_again xs)
layer_again (Item-F.I4 xs) = ap (λ (zs : List ℤ). Item-F.I4 zs) (signed_again xs)
layer_again (Item-F.I8 xs) = ap (λ (zs : List ℤ). Item-F.I8 zs) (signed_again xs)
layer_again (Item-F.U1 xs) = refl
layer_again (Item-F.U2 xs) = refl
layer_again (Item-F.U4 xs) = refl
layer_again (Item-F.U8 xs) = refl
layer_again (Item-F.F4 xs) = refl
layer_again (Item-F.F8 xs) = refl

-- ---- the kinds by their codes

kind_again : (k : Kind) → kind_with (code_of k) ≡ Some k
kind_again kind.L = refl
kind_again kind.B = refl
kind_again kind.Bool = refl
kind_again kind.A = refl
kind_again kind.J = refl
kind_again kind.I1 = refl
kind_again kind.I2 = refl
kind_again kind.I4 = refl
kind_again kind.I8 = refl
kind_again kind.U1 = refl
kind_again kind.U2 = refl
kind_again kind.U4 = refl
kind_again kind.U8 = refl
kind_again kind.F4 = refl
kind_again kind.F8 = refl

pub same_kind : (k l : Kind) → (code_of k == code_of l) ≡ true → k ≡ l
same_kind k l test =
    let some : Some k ≡ Some l =
    sym (kind_again k) ∙ ap kind_with (eqb-true (code_of k) (code_of l) test) ∙ kind_again l in
    cc

-- ---- what becomes of a layer whose items are changed

record IsMapped {A B : Type 0} (f : A → B) (x : Item-F A) : Type 0 where
  pub kind : kind_of (map-Item A B f x) ≡ kind_of x
  pub rows : element_rows (map-Item A B f x) ≡ element_rows x
  pub items : items_of (map-Item A B f x) ≡ map f (items_of x)

mapped : {A B : Type 0} (f : A → B) (x : Item-F A) → IsMapped f x
mapped f (Item-F.L xs) = record { kind = refl; rows = refl; items = refl }
mapped f (Item-F.B xs) = record { kind = refl; rows = refl; items = refl }
mapped f (Item-F.Bool xs) = record { kind = refl; rows = refl; items = refl }
mapped f (Item-F.A xs) = record { kind = refl; rows = refl; items = refl }
mapped f (Item-F.J xs) = record { kind = refl; rows = refl; items = refl }
mapped f (Item-F.I1 xs) = record { kind = refl; rows = refl; items = refl }
mapped f (Item-F.I2 xs) = record { kind = refl; rows = refl; items = refl }
mapped f (Item-F.I4 xs) = record { kind = refl; rows = refl; items = refl }
mapped f (Item-F.I8 xs) = record { kind = refl; rows = refl; items = refl }
mapped f (Item-F.U1 xs) = record { kind = refl; rows = refl; items = refl }
mapped f (Item-F.U2 xs) = record { kind = refl; rows = refl; items = refl }
mapped f (Item-F.U4 xs) = record { kind = refl; rows = refl; items = refl }
mapped f (Item-F.U8 xs) = record { kind = refl; rows = refl; items = refl }
mapped f (Item-F.F4 xs) = record { kind = refl; rows = refl; items = refl }
mapped f (Item-F.F8 xs) = record { kind = refl; rows = refl; items = refl }

-- ---- the test

abbrev Tells : Item → Type 0
Tells i = (j : Item) → Decides (is_same_item i j) (i ≡ j)

and_true : (a b : Bool) → (a && b) ≡ true → (a ≡ true) × (b ≡ true)
and_true true b is = (refl, is)
and_true false b is = absurd (cc)

both_true : (a b : Bool) → a ≡ true → b ≡ true → (a && b) ≡ true
both_true a b one other = ap (λ c. c && b) one ∙ other

abbrev whole : (i : Item) × Tells i → Item
whole e = e.0

each_tells :
    (es : List ((i : Item) × Tells i)) (js : List Item)
    → Decides (each_passes (map is_same_item (map whole es)) js) (map whole es ≡ js)
each_tells [] [] = (λ _. refl, λ _. refl)
each_tells [] (j ∷ js) = (λ is. absurd (cc), λ is. absurd (cc))
each_tells (e ∷ es) [] = (λ is. absurd (cc), λ is. absurd (cc))
each_tells (e ∷ es) (j ∷ js) =
    let one = e.1 j in
    let others = each_tells es js in
    let test = is_same_item e.0 j in
    let tests = each_passes (map is_same_item (map whole es)) js in (
      λ is.
          let both = and_true test tests is in
          ap (λ i. i ∷ map whole es) (one.0 both.0) ∙ ap (λ is. j ∷ is) (others.0 both.1),
      λ is.
          let first : e.0 ≡ j = cc in
          let rest : map whole es ≡ js = cc in
          both_true test tests (one.1 first) (others.1 rest),
    )

-- the layers are equal, by what the test compares
layers_equal :
    (x y : Item-F Item) → kind_of x ≡ kind_of y → element_rows x ≡ element_rows y → items_of x ≡ items_of y → x ≡ y
layers_equal x y kinds rows items =
    sym (layer_again x)
    ∙ ap (λ k. layer_from k (element_rows x) (items_of x)) kinds
    ∙ ap (λ r. layer_from (kind_of y) r (items_of x)) rows
    ∙ ap (layer_from (kind_of y) (element_rows y)) items
    ∙ layer_again y

rows_tell : (xs ys : List (List ℕ)) → Decides (pointwise (pointwise nat_eq) xs ys) (xs ≡ ys)
rows_tell = pointwise_decides bytes_decides

-- the test, of what it compares
abbrev compared : Kind → List (List ℕ) → List (Item → Bool) → Item-F Item → Bool
compared k rows tests y =
    code_of k == code_of (kind_of y) && pointwise (pointwise nat_eq) rows (element_rows y)
    && each_passes tests (items_of y)

compared_tells :
    (x y : Item-F Item) (es : List ((i : Item) × Tells i)) → map whole es ≡ items_of x
    → Decides (compared (kind_of x) (element_rows x) (map is_same_item (items_of x)) y) (x ≡ y)
compared_tells x y es are =
    let kinds = code_of (kind_of x) == code_of (kind_of y) in
    let rows = pointwise (pointwise nat_eq) (element_rows x) (element_rows y) in
    let tests = each_passes (map is_same_item (items_of x)) (items_of y) in
    let each : Decides tests (items_of x ≡ items_of y) =
    subst (λ is. Decides (each_passes (map is_same_item is) (items_of y)) (is ≡ items_of y)) are
    (each_tells es (items_of y)) in (
      λ is.
          let all = and_true (kinds && rows) tests is in
          let two = and_true kinds rows all.0 in
          layers_equal x y (same_kind (kind_of x) (kind_of y) two.0)
          ((rows_tell (element_rows x) (element_rows y)).0 two.1) (each.0 all.1),
      λ same.
          both_true (kinds && rows) tests
          (both_true kinds rows (same_code (kind_of x) (kind_of y) (ap kind_of same))
          ((rows_tell (element_rows x) (element_rows y)).1 (ap element_rows same)))
          (each.1 (ap items_of same)),
    )
  where
    code_itself : (n : ℕ) → (n == n) ≡ true
    code_itself n = grind (arith)

    same_code : (k l : Kind) → k ≡ l → (code_of k == code_of l) ≡ true
    same_code k l is = ap (λ m. code_of k == code_of m) (sym is) ∙ code_itself (code_of k)

same_test :
    (x : Item-F Item) (j : Item)
    → is_same_item (roll-Item x) j
    ≡ compared (kind_of x) (element_rows x) (map is_same_item (items_of x)) (out-Item j)
same_test x j =
    let m = mapped is_same_item x in
    ap (λ (test : Item → Bool). test j) (fold-roll-Item (Item → Bool) same_layer x)
    ∙ ap (λ k. compared k (element_rows (map-Item Item (Item → Bool) is_same_item x))
    (items_of (map-Item Item (Item → Bool) is_same_item x)) (out-Item j)) m.kind
    ∙ ap (λ r. compared (kind_of x) r (items_of (map-Item Item (Item → Bool) is_same_item x)) (out-Item j)) m.rows
    ∙ ap (λ ts. compared (kind_of x) (element_rows x) ts (out-Item j)) m.items

pub tells : (i : Item) → Tells i
tells = ind-Item Tells (λ x y is j.
    let m = mapped whole y in
    let are : map whole (items_of y) ≡ items_of x = sym m.items ∙ ap items_of is in
    let test = compared_tells x (out-Item j) (items_of y) are in
    subst (λ (b : Bool). Decides b (roll-Item x ≡ j)) (sym (same_test x j)) (
      λ passes. ap roll-Item (test.0 passes) ∙ roll-out-Item j,
      λ same. test.1 (sym (out-roll-Item x) ∙ ap out-Item same),
    ))
