-- The refusals of parameters, one after another.
use Rattle.std.proofs.Common.{◌≡◌, refl, sym, ◌∙◌, ap, subst, true, false, cond, ℕ, ◌+◌, ◌<◌, List, [], ◌∷◌, ◌++◌, map, length, drop, get_or, drop-cons, drop_of_length-le, ◌≤◌, add-one, append_assoc, arith}
use Rattle.std.specs.Prelude.{◌==◌, if◌then◌else◌}
use Rattle.std.proofs.lemmas.List.{append-nil, get_or-map, length-map}
use Rattle.secs_items.specs.declared.item.Item.{Item, out-Item}
use Rattle.secs_items.specs.declared.item.Item.TheOpen.{Item-F}
use Rattle.secs_items.specs.declared.item.Item.TheViews.{out-roll-Item}
use Rattle.secs_items.specs.declared.item.Item.TheVariants as item
use Rattle.secs_items.specs.declared.item.Item.TheVariants.{rolls-A, rolls-L}
use Rattle.secs_items.specs.Layers.{items_of}
use Rattle.gem_remote.specs.declared.plan.ParamPlan.{ParamPlan}
use Rattle.gem_remote.specs.Commands.{AreRefusals, HasRefusals, Param, PutsRefusal, param_item, params_item, refusal_item}

-- with the refusals of the parameters that are left, these items are those of all refusals
abbrev pub Completes : List ParamPlan → List Param → List Item → List (List ℕ × ℕ) → Type 0
Completes plans all items rest =
    (whole : List (List ℕ × ℕ)) × AreRefusals plans all whole
    × (items ++ map refusal_item rest ≡ map refusal_item whole)

-- the items of a list, and the characters of a text
pub inside_L : (xs ys : List Item) → item.L xs ≡ item.L ys → xs ≡ ys
inside_L xs ys same =
    let one = ap out-Item (sym (rolls-L xs)) ∙ out-roll-Item (Item-F.L xs) in
    let other = ap out-Item (sym (rolls-L ys)) ∙ out-roll-Item (Item-F.L ys) in
    ap items_of (sym one ∙ ap out-Item same ∙ other)

text_of : Item-F Item → List ℕ
text_of (Item-F.A text) = text
text_of _ = []

pub inside_A : (xs ys : List ℕ) → item.A xs ≡ item.A ys → xs ≡ ys
unfolding text_of
inside_A xs ys same =
    let one = ap out-Item (sym (rolls-A xs)) ∙ out-roll-Item (Item-F.A xs) in
    let other = ap out-Item (sym (rolls-A ys)) ∙ out-roll-Item (Item-F.A ys) in
    ap text_of (sym one ∙ ap out-Item same ∙ other)

-- the refusal of one parameter in front of those of the others
front :
    (items : List Item) (name : List ℕ) (cpack : ℕ) (rest : List (List ℕ × ℕ))
    → (items ++ (if cpack == 0 then [] else refusal_item (name, cpack) ∷ [])) ++ map refusal_item rest
    ≡ items ++ map refusal_item (if cpack == 0 then rest else (name, cpack) ∷ rest)
front items name cpack rest =
    append_assoc items (if cpack == 0 then [] else refusal_item (name, cpack) ∷ []) (map refusal_item rest)
    ∙ ap (λ (xs : List Item). items ++ xs) (elim (cpack == 0)
    as (λ b. cond b [] (refusal_item (name, cpack) ∷ []) ++ map refusal_item rest
    ≡ map refusal_item (cond b rest ((name, cpack) ∷ rest)))
    [ true ↦ refl | false ↦ refl ])

-- one parameter more
pub refusals_more :
    (plans : List ParamPlan) (all : List Param) (i : ℕ) (d : Param) (items now : List Item) → i < length all
    → PutsRefusal plans (get_or all i d) items now
    → ((rest : List (List ℕ × ℕ)) → AreRefusals plans (drop i all) rest → Completes plans all items rest)
    → (rest : List (List ℕ × ℕ)) → AreRefusals plans (drop (i + 1) all) rest → Completes plans all now rest
refusals_more plans all i d items now within put so_far rest are =
    let p = get_or all i d in
    let opened = drop-cons all i d within ∙ ap (λ n. p ∷ drop n all) (sym (add-one i)) in
    let longer : List (List ℕ × ℕ) = if put.0 == 0 then rest else (p.name, put.0) ∷ rest in
    let before = so_far longer
    (subst (λ ps. AreRefusals plans ps longer) (sym opened) (put.0, rest, put.1, are, refl)) in (
      before.0,
      before.1,
      ap (λ (xs : List Item). xs ++ map refusal_item rest) put.2 ∙ front items p.name put.0 rest ∙ before.2,
    )

abbrev pub no_param : Param
no_param = record { name = []; value = item.L [] }

-- a parameter of the list stands at its place
pub record IsParamAt (all : List Param) (i : ℕ) (x : Item) : Type 0 where
  pub within : i < length all
  pub is : x ≡ param_item (get_or all i no_param)

pub param_at :
    (all : List Param) (params items : List Item) (i : ℕ) (x : Item) → item.L params ≡ params_item all
    → items ≡ params → i < length items → x ≡ get_or items i x → IsParamAt all i x
param_at all params items i x whole same within is =
    let e : items ≡ map param_item all = same ∙ inside_L params (map param_item all) whole in
    let less : i < length all =
    omega (arith, ap (λ (xs : List Item). length xs) e, length-map all param_item, within) in
    record {
      within = less;
      is = is ∙ ap (λ (xs : List Item). get_or xs i x) e ∙ get_or-map param_item all i no_param x less;
    }

-- none is left
pub refusals_whole :
    (plans : List ParamPlan) (all : List Param) (i : ℕ) (items : List Item) → length all ≤ i
    → ((rest : List (List ℕ × ℕ)) → AreRefusals plans (drop i all) rest → Completes plans all items rest)
    → HasRefusals plans all items
refusals_whole plans all i items past so_far =
    let none : drop i all ≡ [] = drop_of_length-le all past in
    let whole = so_far [] (subst (λ ps. AreRefusals plans ps []) (sym none) refl) in
    (whole.0, whole.1, sym (append-nil items) ∙ whole.2)

pub none_listed : (params : List Item) (all : List Param) → item.L params ≡ params_item all → length params ≡ length all
none_listed params all whole =
    ap (λ (xs : List Item). length xs) (inside_L params (map param_item all) whole) ∙ length-map all param_item
