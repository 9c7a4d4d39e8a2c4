-- How long the replies are, and that there is one reply for each list of parameters.
use Rattle.std.specs.Prelude.{min}
use Rattle.std.proofs.Common.{◌≡◌, refl, sym, ◌∙◌, ap, Bool, true, false, cond, inl, inr, ℕ, ◌+◌, ◌-◌, ◌^◌, ◌<◌, List, [], ◌∷◌, ◌++◌, map, length, length-append, drop, get_or, Option, Some, None, arith}
use Rattle.std.specs.Prelude.{◌==◌, if◌then◌else◌}
use Rattle.secs_items.specs.declared.item.Item.{Item}
use Rattle.secs_items.specs.Measures.{capped}
use Rattle.secs_items.specs.Spelling.{shortest_spelling}
use Rattle.secs_items.proofs.SpelledLengths.{length-byte, together, together-append, together-cons}
use Rattle.gem_shapes.specs.Answers.{code_item}
use Rattle.gem_remote.specs.declared.plan.CommandPlan.{CommandPlan}
use Rattle.gem_remote.specs.declared.plan.ParamPlan.{ParamPlan}
use Rattle.gem_remote.specs.declared.remote.Remoted.{Remoted}
use Rattle.gem_remote.specs.Commands.{AnswersFor, AreRefusals, HasRefusals, HasRefusalSize, IsCpackFor, IsCpackOf, IsSizeOf, Param, planned_answer, refusal_item, refusal_items, remoted_of, remoted_with}
use Rattle.gem_remote.proofs.Refusing.{Completes, refusals_more}

-- a code beside another item
pub coded_together :
    (code : ℕ) (other : Item)
    → together (code_item code ∷ other ∷ []) ≡ 3 + length (shortest_spelling other)
coded_together code other =
    let a = together-cons (code_item code) (other ∷ []) in
    let b = together-cons other [] in
    omega (arith, a, b, length-byte code)

pub named_together :
    (code : ℕ) (other : Item)
    → together (other ∷ code_item code ∷ []) ≡ length (shortest_spelling other) + 3
named_together code other =
    let a = together-cons other (code_item code ∷ []) in
    let b = together-cons (code_item code) [] in
    omega (arith, a, b, length-byte code)

one_cpack_of : (plan : ParamPlan) (value : Item) (a b : ℕ) → IsCpackOf plan value a → IsCpackOf plan value b → a ≡ b
one_cpack_of plan value a b (inl x) (inl y) = x.0 ∙ sym y.0
one_cpack_of plan value a b (inl x) (inr (inl y)) = absurd (x.1.other y.1.same)
one_cpack_of plan value a b (inl x) (inr (inr y)) = absurd (x.1.other y.1.same)
one_cpack_of plan value a b (inr (inl x)) (inl y) = absurd (y.1.other x.1.same)
one_cpack_of plan value a b (inr (inl x)) (inr (inl y)) = x.0 ∙ sym y.0
one_cpack_of plan value a b (inr (inl x)) (inr (inr y)) = absurd (x.1.outside y.1.inside)
one_cpack_of plan value a b (inr (inr x)) (inl y) = absurd (y.1.other x.1.same)
one_cpack_of plan value a b (inr (inr x)) (inr (inl y)) = absurd (y.1.outside x.1.inside)
one_cpack_of plan value a b (inr (inr x)) (inr (inr y)) = x.0 ∙ sym y.0

one_cpack :
    (plan : Option ParamPlan) (value : Item) (a b : ℕ) → IsCpackFor plan value a → IsCpackFor plan value b → a ≡ b
one_cpack None value a b x y = x ∙ sym y
one_cpack (Some plan) value a b x y = one_cpack_of plan value a b x y

same_refusals :
    (plans : List ParamPlan) (all : List Param) (xs ys : List (List ℕ × ℕ)) → AreRefusals plans all xs
    → AreRefusals plans all ys → xs ≡ ys
same_refusals plans [] xs ys x y = x ∙ sym y
same_refusals plans (p ∷ all) xs ys x y =
    let code = one_cpack _ p.value x.0 y.0 x.2 y.2 in
    let others = same_refusals plans all x.1 y.1 x.3 y.3 in
    x.4
    ∙ ap (λ (n : ℕ). if n == 0 then x.1 else (p.name, n) ∷ x.1) code
    ∙ ap (λ (rest : List (List ℕ × ℕ)). if y.0 == 0 then rest else (p.name, y.0) ∷ rest) others
    ∙ sym y.4

-- the answer has its refusals, and some HCACK
with_code :
    (later : Bool) (refusals : List (List ℕ × ℕ))
    → (hcack : ℕ) × (planned_answer later refusals ≡ remoted_of hcack refusals)
with_code later [] = (if later then 4 else 0, refl)
with_code later (refusal ∷ refusals) = (3, refl)

-- the length of the reply with the refusals that were measured
pub reply_measured :
    (command : CommandPlan) (all : List Param) (answer : Remoted) (items : List Item) (len : ℕ)
    → HasRefusals command.params all items → AnswersFor (Some command) all answer
    → ((hcack : ℕ) → len ≡ capped (length (shortest_spelling (remoted_with hcack items).reply)))
    → len ≡ capped (length (shortest_spelling answer.reply))
reply_measured command all answer items len has answers measured =
    let same = same_refusals command.params all has.0 answers.0 has.1 answers.1 in
    let code = with_code command.later answers.0 in
    let are = has.2 ∙ ap (map refusal_item) same in
    measured code.0
    ∙ ap (λ (xs : List Item). capped (length (shortest_spelling (remoted_with code.0 xs).reply))) are
    ∙ ap (λ (a : Remoted). capped (length (shortest_spelling a.reply))) (sym code.1 ∙ sym answers.2)

-- the refusals so far have been measured
pub record AreMeasured (plans : List ParamPlan) (all : List Param) (i count len : ℕ) : Type 0 where
  pub items : List Item
  pub count_is : count ≡ length items
  pub len_is : len ≡ capped (together items)
  pub completes : (rest : List (List ℕ × ℕ)) → AreRefusals plans (drop i all) rest → Completes plans all items rest

sized :
    (param : Param) (cpack : ℕ) (size : ℕ × ℕ) → size.0 ≡ (if cpack == 0 then 0 else 1)
    → size.1 ≡ (if cpack == 0 then 0 else capped (length (shortest_spelling (refusal_item (param.name, cpack)))))
    → IsSizeOf (refusal_items param cpack) size
sized param cpack size = go (cpack == 0)
  where
    refusal : Item
    refusal = refusal_item (param.name, cpack)

    go : (b : Bool) → size.0 ≡ cond b 0 1 → size.1 ≡ cond b 0 (capped (length (shortest_spelling refusal)))
        → IsSizeOf (cond b [] (refusal ∷ [])) size
    go true count len = (count, len)
    go false count len = (count, let one = together-cons refusal [] in omega (arith, one, len))

pub measured_more :
    (plans : List ParamPlan) (all : List Param) (i : ℕ) (d : Param) (count len : ℕ) (size : ℕ × ℕ) (now : ℕ)
    → i < length all → HasRefusalSize plans (get_or all i d) size → now ≡ min (len + size.1) (2 ^ 64 - 1)
    → AreMeasured plans all i count len → AreMeasured plans all (i + 1) (count + size.0) now
measured_more plans all i d count len size now within has added so_far =
    let p = get_or all i d in
    let more = refusal_items p has.0 in
    let longer = together-append so_far.items more in
    let counted = length-append so_far.items more in
    let count_is = so_far.count_is in
    let len_is = so_far.len_is in
    let one = sized p has.0 size has.2 has.3 in
    let one_count = one.0 in
    let one_len = one.1 in
    record {
      items = so_far.items ++ more;
      count_is = omega (arith, counted, count_is, one_count);
      len_is = omega (arith, longer, len_is, one_len, added);
      completes = refusals_more plans all i d so_far.items (so_far.items ++ more) within (has.0, has.1, refl)
          so_far.completes;
    }

-- before any
pub none_measured : (plans : List ParamPlan) (all : List Param) → AreMeasured plans all 0 0 0
none_measured plans all =
    record { items = []; count_is = refl; len_is = refl; completes = λ rest are. (rest, are, refl) }
