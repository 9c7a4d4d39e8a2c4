-- One step of reading an item, behind its name.
use Rattle.std.proofs.Common.{◌≡◌, ℕ, zero, suc, ◌-◌, false, List, length, Result, Ok, Err, refl, sym, subst, arith}
use Rattle.secs_items.specs.declared.item.Item.{Item}
use Rattle.secs_items.specs.declared.item.Item.TheVariants as item
use Rattle.secs_items.specs.declared.kind.Kind.{Kind}
use Rattle.secs_items.specs.declared.kind.Kind.TheVariants as kind
use Rattle.secs_items.specs.Kinds.{is_list}
use Rattle.secs_text.specs.declared.text_fault.TextFault.{TextFault}
use Rattle.secs_text.specs.declared.text_fault.TextFault.TheVariants as fault
use Rattle.secs_text.specs.Grammar.{Kept}
use Rattle.secs_text.specs.Reading.{Gives, Reader, syntax_fault, elements_at, elements_of, item_at, item_of, kind_at}

pub item_no_kind : (depth total : ℕ) (bytes : List ℕ) (e : TextFault) → kind_at total bytes ≡ Err e → item_at Kept depth total bytes ≡ Err e
unfolding item_at
item_no_kind zero total bytes e h = rw h refl
item_no_kind (suc depth) total bytes e h = rw h refl

pub item_deep : (depth total : ℕ) (bytes : List ℕ) (k : Kind) (rest : List ℕ) → kind_at total bytes ≡ Ok (k, rest) → k ≡ kind.L → depth ≡ 0
    → item_at Kept depth total bytes ≡ Err (fault.TooDeep (total - length bytes))
unfolding item_at
item_deep zero total bytes k rest h l none = rw (h, l) refl
item_deep (suc depth) total bytes k rest h l none = absurd (omega (arith, none))

pub item_list : (depth total : ℕ) (bytes : List ℕ) (k : Kind) (rest : List ℕ) → kind_at total bytes ≡ Ok (k, rest) → k ≡ kind.L → (depth ≡ 0 → ⊥)
    → item_at Kept depth total bytes ≡ item_of item.L (elements_at (item_at Kept (depth - 1)) total rest)
unfolding item_at elements_of
item_list zero total bytes k rest h l deep = absurd (deep refl)
item_list (suc depth) total bytes k rest h l deep =
    let less : suc depth - 1 ≡ depth = omega arith in
    rw (less, h, l) refl

not_list : (k : Kind) → (k ≡ kind.L → ⊥) → is_list k ≡ false
not_list kind.L other = absurd (other refl)
not_list kind.B other = refl
not_list kind.Bool other = refl
not_list kind.A other = refl
not_list kind.J other = refl
not_list kind.I1 other = refl
not_list kind.I2 other = refl
not_list kind.I4 other = refl
not_list kind.I8 other = refl
not_list kind.U1 other = refl
not_list kind.U2 other = refl
not_list kind.U4 other = refl
not_list kind.U8 other = refl
not_list kind.F4 other = refl
not_list kind.F8 other = refl

-- the reader of items in a list, where lists may still nest so deep
abbrev inner : ℕ → Reader Item
inner zero = λ total bytes. syntax_fault total bytes
inner (suc depth) = item_at Kept depth

leaf_step : (depth total : ℕ) (bytes : List ℕ) (k : Kind) (rest : List ℕ) → kind_at total bytes ≡ Ok (k, rest) → (k ≡ kind.L → ⊥)
    → item_at Kept depth total bytes ≡ elements_of Kept (inner depth) k total rest
unfolding item_at
leaf_step zero total bytes k rest h other = rw (h, not_list k other) refl
leaf_step (suc depth) total bytes k rest h other = rw h refl

pub gives_leaf : {X : Type 0} (view : X → Item × List ℕ) (result : Result X TextFault) (depth total : ℕ) (bytes : List ℕ) (k : Kind) (rest : List ℕ)
    → kind_at total bytes ≡ Ok (k, rest) → (k ≡ kind.L → ⊥)
    → ((one : Reader Item) → Gives view result (elements_of Kept one k total rest)) → Gives view result (item_at Kept depth total bytes)
gives_leaf view result depth total bytes k rest h other gives =
    subst (Gives view result) (sym (leaf_step depth total bytes k rest h other)) (gives (inner depth))
