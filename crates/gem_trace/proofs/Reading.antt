-- The loop of the first pass.
use Rattle.std.proofs.Common.{◌≡◌, refl, sym, ◌∙◌, ap, arith, subst, ℕ, ◌+◌, ◌<◌, ◌≤◌, List, ◌++◌, drop, get_or, length, map, take, OnErr, OnOk, Result, Ok, Err}
use Rattle.std.specs.Prelude.{All, set}
use Rattle.std.proofs.lemmas.List.{append-nil, drop_all, drop_more, get_or_at, length-map, length-take, length-take-le, map-set, set-get_or, take_all, take_at}
use Rattle.std.proofs.lemmas.List.Elements.{All-get_or, All-set}
use Rattle.secs_items.specs.declared.item.Item.{Item}
use Rattle.gem_vars.specs.Tables.{VarsTable}
use Rattle.gem_trace.specs.declared.trace.Trace.{Trace}
use Rattle.gem_trace.specs.Kept.{IsKept, seen, with_reading}
use Rattle.gem_trace.proofs.Passes.{amid_kept, amid_unseen}

-- an element that a loop has yet to change
pub left_at :
    {X : Type 0} (f : X → X) (xs ys : List X) (i : ℕ) (x : X) → i < length xs → ys ≡ map f (take i xs) ++ drop i xs
    → x ≡ get_or ys i x → x ≡ get_or xs i x
left_at f xs ys i x less is at =
    let long : length (map f (take i xs)) ≡ i = length-map (take i xs) f ∙ length-take-le i xs (omega arith) in
    at ∙ ap (λ zs. get_or zs i x) is ∙ ap (λ zs. get_or (map f (take i xs) ++ zs) i x) (drop_more xs i x less)
    ∙ get_or_at (map f (take i xs)) (get_or xs i x) (drop (i + 1) xs) x i long

-- and what all have
pub kept_at :
    {X : Type 0} (P : X → Type 0) (f : X → X) (xs ys : List X) (i : ℕ) (x : X) → All P xs → i < length xs
    → ys ≡ map f (take i xs) ++ drop i xs → x ≡ get_or ys i x → P x
kept_at P f xs ys i x all less is at =
    subst P (sym (left_at f xs ys i x less is at)) (All-get_or P xs i x less all)

-- all are changed
pub map_over_all :
    {X : Type 0} (f : X → X) (xs ys : List X) (i : ℕ) → length xs ≤ i → ys ≡ map f (take i xs) ++ drop i xs
    → ys ≡ map f xs
map_over_all f xs ys i all is =
    is ∙ ap (λ zs. map f (take i xs) ++ zs) (drop_all i xs all) ∙ append-nil (map f (take i xs))
    ∙ ap (map f) (take_all i xs all)

pub on_err : {A E P : Type 0} (result : Result A E) → P → OnErr result P
on_err (Ok value) holds = tt
on_err (Err error) holds = holds

-- those in front are left
pub front_left : {X : Type 0} (xs ys zs : List X) → zs ≡ xs ++ ys → take (length xs) zs ≡ xs
front_left xs ys zs is = ap (take (length xs)) is ∙ take_at xs ys (length xs) refl

-- ---- the first pass, of which nothing is seen

module _ (vars : VarsTable) (now : ℕ) (traces : List Trace) (kept : All IsKept traces) (i : ℕ) (running : List Trace)
    (are : running ≡ map (with_reading vars now) (take i traces) ++ drop i traces) where
  pub read_unseen : map seen running ≡ map seen traces
  read_unseen = ap (map seen) are ∙ amid_unseen vars now i traces kept

  pub read_kept : All IsKept running
  read_kept = subst (All IsKept) (sym are) (amid_kept vars now i traces kept)

  -- one fails
  pub one_failed :
      (trace left : Trace) → trace ≡ get_or running i trace → seen left ≡ seen trace
      → map seen (set running i left) ≡ map seen traces
  one_failed trace left at same =
      map-set seen running i left
      ∙ ap (set (map seen running) i) same
      ∙ sym (map-set seen running i trace)
      ∙ ap (λ (t : Trace). map seen (set running i t)) at
      ∙ ap (map seen) (set-get_or running i trace)
      ∙ read_unseen

  pub failed_kept : (left : Trace) → IsKept left → All IsKept (set running i left)
  failed_kept left is = All-set IsKept running i left is read_kept

-- ---- one trace, where its readings were put or memory ran out on the way

pub still_there :
    {A E : Type 0} (result : Result A E) (front more left : List Item)
    → OnOk result (left ≡ front ++ more) → OnErr result (take (length front) left ≡ front)
    → take (length front) left ≡ front
still_there (Ok value) front more left ok err = front_left front more left ok
still_there (Err error) front more left ok err = err

module _ (trace : Trace) (left : List Item) (kept : IsKept trace)
    (there : take (length (take trace.held trace.values)) left ≡ take trace.held trace.values) where
  same_front : take trace.held left ≡ take trace.held trace.values
  same_front =
      subst (λ (n : ℕ). take n left ≡ take trace.held trace.values)
      (length-take-le trace.held trace.values kept.held) there

  pub still_seen : seen (record trace { values = left }) ≡ seen trace
  still_seen = ap (λ (vs : List Item). record (seen trace) { values = vs }) same_front

  pub still_kept : IsKept (record trace { values = left })
  still_kept = record {
    runs = kept.runs;
    group = kept.group;
    short = kept.short;
    held =
        let long = length-take-le trace.held trace.values kept.held in
        let cut = length-take trace.held left in
        let same = ap length same_front in
        omega arith;
  }
