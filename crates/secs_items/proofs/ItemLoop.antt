-- Reading items one after the other, as a loop does.
use Rattle.std.proofs.Common.{◌≡◌, ℕ, suc, ◌-◌, ◌+◌, ◌≤◌, ◌<◌, List, [], ◌∷◌, ◌++◌, Result, Ok, Err, refl, sym, ap, ◌∙◌, append_assoc, arith}
use Rattle.std.proofs.lemmas.List.{append-nil}
use Rattle.secs_items.specs.declared.item.Item.{Item}
use Rattle.secs_items.specs.declared.item_fault.ItemFault.{ItemFault}
use Rattle.secs_items.specs.Reading.{◌>>=◌, items_at}

abbrev pub Reader : Type 0
Reader = List ℕ → Result (Item × List ℕ) ItemFault

-- what was read before, and what is still read
abbrev pub with_front : List Item → Result (List Item × List ℕ) ItemFault → Result (List Item × List ℕ) ItemFault
with_front front read = read >>= λ x. Ok (front ++ x.0, x.1)

regroup : (front : List Item) (n : Item) (read : Result (List Item × List ℕ) ItemFault)
    → with_front front (read >>= λ x. Ok (n ∷ x.0, x.1)) ≡ with_front (front ++ n ∷ []) read
regroup front n (Ok x) = ap (λ (ns : List Item). Ok (ns, x.1)) (simp append_assoc)
regroup front n (Err f) = refl

pub goes_on : (one : Reader) (front : List Item) (count i : ℕ) (bytes : List ℕ) (n : Item) (after : List ℕ) (total : Result (List Item × List ℕ) ItemFault)
    → i < count → one bytes ≡ Ok (n, after)
    → with_front front (items_at one (count - i) bytes) ≡ total → with_front (front ++ n ∷ []) (items_at one (count - (i + 1)) after) ≡ total
goes_on one front count i bytes n after total lt h so_far =
    let k : count - i ≡ suc (count - (i + 1)) = omega arith in
    let step : with_front front (items_at one (count - i) bytes) ≡ with_front (front ++ n ∷ []) (items_at one (count - (i + 1)) after) =
    rw (k, h) (regroup front n (items_at one (count - (i + 1)) after)) in
    sym step ∙ so_far

pub ends : (one : Reader) (e : ItemFault) (front : List Item) (count i : ℕ) (bytes : List ℕ) (total : Result (List Item × List ℕ) ItemFault)
    → i < count → one bytes ≡ Err e
    → with_front front (items_at one (count - i) bytes) ≡ total → total ≡ Err e
ends one e front count i bytes total lt h so_far =
    let k : count - i ≡ suc (count - (i + 1)) = omega arith in
    let step : with_front front (items_at one (count - i) bytes) ≡ Err e = rw (k, h) refl in
    sym so_far ∙ step

pub is_done : (one : Reader) (front : List Item) (count i : ℕ) (bytes : List ℕ) (total : Result (List Item × List ℕ) ItemFault) → count ≤ i
    → with_front front (items_at one (count - i) bytes) ≡ total → total ≡ Ok (front, bytes)
is_done one front count i bytes total le so_far =
    let k : count - i ≡ 0 = omega arith in
    let step : with_front front (items_at one (count - i) bytes) ≡ Ok (front, bytes) =
    rw k (ap (λ (ns : List Item). Ok (ns, bytes)) (append-nil front)) in
    sym so_far ∙ step
