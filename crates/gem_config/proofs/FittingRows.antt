-- The elements of a plan file's arrays fit, and are told apart.
use Rattle.std.proofs.Common.{◌≡◌, refl, sym, ap, subst, ◌∙◌, ℕ, ◌+◌, ◌≤◌, Bool, true, false, cond, not, List, [], ◌∷◌, ◌++◌, length, map, Option, Some, None, Ok, nat_eq, nat_le, arith}
use Rattle.std.specs.Prelude.{All}
use Rattle.std.specs.List.{IsDistinct, list_any}
use Rattle.std.proofs.lemmas.Bool.Decides.{nat_tests}
use Rattle.std.proofs.lemmas.Cmp.{nat_eq_equiv}
use Rattle.std.proofs.lemmas.List.{length-append, map-append}
use Rattle.std.proofs.lemmas.List.Elements.{All-append, All-cons, All-nil}
use Rattle.std.proofs.lemmas.Map.Keys.{IsDistinct-push}
use Rattle.toml.specs.Data.{Data, Items, no_items, item, Members, as_array, get_member}
use Rattle.toml.specs.Text.{are_tables}
use Rattle.gem_config.specs.declared.fault.ConfigWhat.TheVariants.{Kind, Range, Repeated}
use Rattle.gem_config.specs.Reading.{Read, SectionView, at, key_of, refused}
use Rattle.gem_config.specs.Rows.{count_of, elements, elements_in, elements_of, own, row_after, rows_from, rows_in, section_of}
use Rattle.gem_config.specs.Sections.{greatest}
use Rattle.gem_config.specs.Values.{of_kind}
use Rattle.gem_config.proofs.Fitting.{between, needed_step, opened, same_Ok}

-- ---- how many elements

counted : (name : List ℕ) (most : ℕ) (ds : Items) (b c : Bool) (es : Items) → are_tables ds ≡ b
    → nat_le (count_of ds) most ≡ c
    → cond (not b) (refused name Kind) (cond c (Ok ds) (refused name Range)) ≡ Ok es → count_of es ≤ most
counted name most ds false c es is few e = absurd cc
counted name most ds true false es is few e = absurd cc
counted name most ds true true es is few e =
    let fits : count_of ds ≤ most = grind (arith, nat_tests) in
    subst (λ x. count_of x ≤ most) (same_Ok ds es e) fits

pub few_in : (name : List ℕ) (most : ℕ) (held : Option Data) (es : Items) → elements_in name most held ≡ Ok es
    → count_of es ≤ most
few_in name most None es e = subst (λ x. count_of x ≤ most) (same_Ok no_items es e) (omega arith)
few_in name most (Some d) es e =
    let o = opened (of_kind name (as_array d)) (elements_of name most) es e in
    counted name most o.0 (are_tables o.0) (nat_le (count_of o.0) most) es refl refl o.2

-- ---- each element

module _ {A : Type 0} (row_of : ℕ → SectionView → Read A) (name key : List ℕ) (least : ℕ) (id_of : A → ℕ)
    (Fits : A → Type 0)
    (fits_row : (id : ℕ) (element : SectionView) (row : A) → least ≤ id → row_of id element ≡ Ok row
    → Fits row × (id_of row ≡ id)) where
  -- the rows so far fit, and those taken are theirs, each once
  pub record AreRows (taken : List ℕ) (rows : List A) : Type 0 where
    pub theirs : taken ≡ map id_of rows
    pub distinct : IsDistinct nat_eq taken
    pub fit : All Fits rows

  owned : (taken : List ℕ) (k : List ℕ) (id said : ℕ) (b : Bool) → list_any (nat_eq id) taken ≡ b
      → cond b (refused k Repeated) (Ok id) ≡ Ok said → (b ≡ false) × (id ≡ said)
  owned taken k id said true is e = absurd cc
  owned taken k id said false is e = (refl, cc)

  more_rows : (taken : List ℕ) (rows : List A) (id : ℕ) (row : A) → AreRows taken rows
      → list_any (nat_eq id) taken ≡ false → Fits row → id_of row ≡ id → AreRows (taken ++ id ∷ []) (rows ++ row ∷ [])
  more_rows taken rows id row are fresh fits same = record {
    theirs = ap (λ t. t ++ id ∷ []) are.theirs ∙ ap (λ i. map id_of rows ++ i ∷ []) (sym same)
        ∙ sym (map-append id_of rows (row ∷ []));
    distinct = IsDistinct-push nat_eq_equiv taken id are.distinct fresh;
    fit = All-append Fits rows (row ∷ []) are.fit (All-cons Fits row [] fits (All-nil Fits));
  }

  one_row : (taken : List ℕ) (rows : List A) (d : Data) (x : List ℕ × A) → AreRows taken rows
      → row_after row_of name key least taken d ≡ Ok x → AreRows x.0 (rows ++ x.1 ∷ [])
  unfolding row_after
  one_row taken rows d x are e =
      let element = opened (section_of name d) _ x e in
      let said = needed_step least greatest (at element.0 key) _ x element.2 in
      let id = opened (own taken (key_of name key) said.0) _ x said.2 in
      let mine = owned taken (key_of name key) said.0 id.0 (list_any (nat_eq said.0) taken) refl id.1 in
      let row = opened (row_of id.0 element.0) _ x id.2 in
      let low = (between least greatest said.0 said.1).0 in
      let fresh = subst (λ i. list_any (nat_eq i) taken ≡ false) mine.1 mine.0 in
      let fits = fits_row id.0 element.0 row.0 (subst (λ i. least ≤ i) mine.1 low) row.1 in
      subst (λ y. AreRows y.0 (rows ++ y.1 ∷ [])) (same_Ok _ x row.2)
      (more_rows taken rows id.0 row.0 are fresh fits.0 fits.1)

  -- all rows fit and are told apart, and there are as many more as elements
  pub all_rows : (taken : List ℕ) (rows : List A) (ds : Items) (out : List A) → AreRows taken rows
      → rows_from row_of name key least taken rows ds ≡ Ok out
      → All Fits out × IsDistinct nat_eq (map id_of out) × (length out ≡ length rows + count_of ds)
  all_rows taken rows no_items out are e =
      subst (λ o. All Fits o × IsDistinct nat_eq (map id_of o) × (length o ≡ length rows + 0)) (same_Ok rows out e)
      (are.fit, subst (λ t. IsDistinct nat_eq t) are.theirs are.distinct, omega arith)
  all_rows taken rows (item d ds) out are e =
      let o = opened (row_after row_of name key least taken d) _ out e in
      let more = all_rows o.0.0 (rows ++ o.0.1 ∷ []) ds out (one_row taken rows d o.0 are o.1) o.2 in
      (more.0, more.1, omega (arith, more.2, length-append rows (o.0.1 ∷ [])))

  pub rows_fit : (most : ℕ) (document : Members) (out : List A) → rows_in row_of name key least most document ≡ Ok out
      → (length out ≤ most) × All Fits out × IsDistinct nat_eq (map id_of out)
  unfolding IsDistinct
  rows_fit most document out e =
      let o = opened (elements name most document) _ out e in
      let none : AreRows [] [] = record { theirs = refl; distinct = tt; fit = All-nil Fits } in
      let all = all_rows [] [] o.0 out none o.2 in
      (omega (arith, few_in name most (get_member name document) o.0 o.1, all.2), all.0, all.1)
