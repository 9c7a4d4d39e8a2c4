-- The view of bytes that a check found whole: their head, and the rest as its content.
use Rattle.std.proofs.Common.{◌≡◌, ℕ, ◌-◌, ◌/◌, List, [], ◌∷◌, length, Option, Some, None, Result, Ok, Err, refl, sym, subst, ◌∙◌, arith}
use Rattle.std.proofs.Math.Seq.{take-length}
use Rattle.secs_items.specs.declared.item_fault.ItemFault.{ItemFault}
use Rattle.secs_items.specs.declared.verdict.Verdict.TheVariants as verdict
use Rattle.secs_items.specs.Checking.{verdict_by, verdict_of}
use Rattle.secs_items.specs.Kinds.{unit_of}
use Rattle.secs_items.specs.Reading.{Head, after_content, after_item, fault_after, first_fault, head_at}
use Rattle.secs_items.proofs.ItemSteps.{after_head, after_no_head}
use Rattle.secs_items.proofs.Numbers.{IsBytes}
use Rattle.secs_items.proofs.ViewSteps.{IsFront, ok_err, view_front}

pub no_fault : (bytes : List ℕ) → verdict_of bytes ≡ verdict.Whole → first_fault bytes ≡ None
no_fault [] whole = absurd cc
no_fault (byte ∷ bytes) whole = by_fault (first_fault (byte ∷ bytes)) whole
  where
    by_fault : (o : Option ItemFault) → verdict_by o ≡ verdict.Whole → o ≡ None
    by_fault None e = refl
    by_fault (Some f) e = absurd cc

none_left : (total : ℕ) (r : Result (List ℕ) ItemFault) → fault_after total r ≡ None → r ≡ Ok []
none_left total (Ok []) e = refl
none_left total (Ok (b ∷ rest)) e = absurd cc
none_left total (Err f) e = absurd cc

whole_item : (bytes : List ℕ) → verdict_of bytes ≡ verdict.Whole → after_item (length bytes) 64 bytes ≡ Ok []
unfolding first_fault
whole_item bytes whole = none_left (length bytes) (after_item (length bytes) 64 bytes) (no_fault bytes whole)

-- they have a head
pub has_head : (bytes : List ℕ) (e : ItemFault) → verdict_of bytes ≡ verdict.Whole → head_at (length bytes) 64 bytes ≡ Err e → ⊥
has_head bytes e whole none =
    ok_err (after_item (length bytes) 64 bytes) [] e (whole_item bytes whole) (after_no_head (length bytes) 64 bytes e none)

-- all behind the head is content
pub whole_front : (bytes : List ℕ) (h : Head) (count inner : ℕ) → IsBytes bytes → verdict_of bytes ≡ verdict.Whole
    → head_at (length bytes) 64 bytes ≡ Ok h → count ≡ h.size / unit_of h.kind → inner ≡ 63
    → IsFront (length bytes) 64 bytes h [] count inner h.rest
whole_front bytes h count inner fits whole head counted less =
    let n = length bytes in
    let passed : after_content (after_item n (64 - 1)) h ≡ Ok [] =
    sym (after_head n 64 bytes h (λ listed. omega arith) head) ∙ whole_item bytes whole in
    subst (IsFront n 64 bytes h [] count inner) (take-length h.rest)
    (view_front n 64 bytes h [] count inner (length h.rest) fits head passed (omega arith) counted less)
