-- How often power may be lost in a step, and what is noted by then: proofs, which stand here since an impl cites them.
use Rattle.std.proofs.Common.{◌≡◌, ◌∙◌, refl, sym, ap, subst, ◌⊎◌, inl, inr, arith, ◌+◌, ℕ, List, [], ◌∷◌, ◌++◌, append_assoc, length, map}
use Rattle.std.proofs.lemmas.List.Sums.{sum_by-append, sum_by-cons}
use Rattle.std.specs.List.{sum_by}
use Rattle.gem_spool.specs.Standing.{Standing}
use Rattle.message_end.specs.Core.{step_in}
use Rattle.message_end.specs.Ends.{Loss}
use Rattle.message_end.specs.Own.{Has}
use Rattle.trace_log.specs.Log.{Happening}
use Rattle.spool_works.specs.DiskWorks.{DiskWork, all_bytes, all_calls, bytes_of, calls_of, front_at, fronts_of}
use Rattle.spool_works.specs.DiskWorks.{lines_behind, lines_up_to, standing_behind, standings_behind}
use Rattle.spool_works.proofs.EachFront.{all_behind, all_up_to}
use Rattle.tool_step.specs.Disk.{standing_in, unserved, works_of}
use Rattle.tool_step.specs.Equipment.{EquipmentView, begun_step}
use Rattle.tool_step.specs.Losses.{LossesAreCounted, loss_at, losses_of}
use Rattle.spool_works.specs.WorkLosses.{calls_at, lost_calls}
use Rattle.gem_spool.specs.Updates.{Left}
use Rattle.message_end.proofs.Members.{has-either, has-front}
use Rattle.spool_works.proofs.LossCounts.{AllOf, Each, length-both, lost-bytes, lost-count, lost-each}

-- ---- all works of a step

module _ (s : EquipmentView) where
  both-count :
      (st : Standing) (one : DiskWork) (front : List Happening) (rest : List (Loss EquipmentView)) (n : ℕ)
      → length rest ≡ n → length (map (loss_at s front) (lost_calls st one) ++ rest) ≡ calls_of st one + n
  both-count st one front rest n is =
      let both = length-both (loss_at s front) (lost_calls st one) rest in
      let calls = lost-count st one in
      omega (arith, both, calls, is)

  -- and the bytes that they write
  abbrev written : List (Loss EquipmentView) → ℕ
  written losses = sum_by (λ (loss : Loss EquipmentView). loss.bytes) losses

  map-bytes : (front : List Happening) (lost : List (ℕ × Left))
      → written (map (loss_at s front) lost) ≡ sum_by (λ (call : ℕ × Left). call.0) lost
  map-bytes front [] = refl
  map-bytes front (call ∷ lost) =
      sum_by-cons (λ (loss : Loss EquipmentView). loss.bytes) (loss_at s front call) (map (loss_at s front) lost)
      ∙ ap (λ (n : ℕ). call.0 + n) (map-bytes front lost)
      ∙ sym (sum_by-cons (λ (one : ℕ × Left). one.0) call lost)

  -- one by one
  pub map-sizes : (front : List Happening) (lost : List (ℕ × Left))
      → map (λ (loss : Loss EquipmentView). loss.bytes) (map (loss_at s front) lost)
      ≡ map (λ (call : ℕ × Left). call.0) lost
  map-sizes front [] = refl
  map-sizes front (call ∷ lost) = ap (λ (sizes : List ℕ). call.0 ∷ sizes) (map-sizes front lost)

  both-bytes :
      (st : Standing) (one : DiskWork) (front : List Happening) (rest : List (Loss EquipmentView)) (n : ℕ)
      → written rest ≡ n → written (map (loss_at s front) (lost_calls st one) ++ rest) ≡ bytes_of st one + n
  both-bytes st one front rest n is =
      let both =
      sum_by-append (λ (loss : Loss EquipmentView). loss.bytes) (map (loss_at s front) (lost_calls st one)) rest in
      let here = map-bytes front (lost_calls st one) in
      let bytes = lost-bytes st one in
      omega (arith, both, here, bytes, is)

  pub losses-bytes :
      (works : List DiskWork) (st : Standing) (before notes : List Happening)
      → written (losses_of s st before works notes) ≡ all_bytes st works
  losses-bytes [] st before notes = refl
  losses-bytes (one ∷ works) st before notes =
      both-bytes st one (front_at one before notes)
      (losses_of s (standing_behind st one) (lines_up_to one before notes) works (lines_behind one notes))
      (all_bytes (standing_behind st one) works)
      (losses-bytes works (standing_behind st one) (lines_up_to one before notes) (lines_behind one notes))

  pub losses-count :
      (works : List DiskWork) (st : Standing) (before notes : List Happening)
      → length (losses_of s st before works notes) ≡ all_calls st works
  losses-count [] st before notes = refl
  losses-count (one ∷ works) st before notes =
      both-count st one (front_at one before notes)
      (losses_of s (standing_behind st one) (lines_up_to one before notes) works (lines_behind one notes))
      (all_calls (standing_behind st one) works)
      (losses-count works (standing_behind st one) (lines_up_to one before notes) (lines_behind one notes))

  -- those of two lists of works, one behind the other
  pub losses-both :
      (xs ys : List DiskWork) (st : Standing) (before notes : List Happening)
      → losses_of s st before (xs ++ ys) notes
      ≡ losses_of s st before xs notes
      ++ losses_of s (standings_behind st xs) (all_up_to xs before notes) ys (all_behind xs notes)
  losses-both [] ys st before notes = refl
  losses-both (x ∷ xs) ys st before notes =
      ap (λ (rest : List (Loss EquipmentView)). map (loss_at s (front_at x before notes)) (lost_calls st x) ++ rest)
      (losses-both xs ys (standing_behind st x) (lines_up_to x before notes) (lines_behind x notes))
      ∙ sym
      (append_assoc (map (loss_at s (front_at x before notes)) (lost_calls st x))
      (losses_of s (standing_behind st x) (lines_up_to x before notes) xs (lines_behind x notes))
      (losses_of s (standings_behind st (x ∷ xs)) (all_up_to (x ∷ xs) before notes) ys (all_behind (x ∷ xs) notes)))

  -- ---- what is noted by then

  pub same-front :
      (front : List Happening) (calls : List (ℕ × Left)) (loss : Loss EquipmentView)
      → Has (map (loss_at s front) calls) loss → loss.front ≡ front
  same-front front [] loss has = absurd has
  same-front front (left ∷ calls) loss (inl same) = ap (λ (one : Loss EquipmentView). one.front) same
  same-front front (left ∷ calls) loss (inr has) = same-front front calls loss has

  first-or-later :
      (front : List Happening) (calls : List (ℕ × Left)) (rest : List (Loss EquipmentView))
      (fronts : List (List Happening)) (loss : Loss EquipmentView) → (Has rest loss → Has fronts loss.front)
      → Has (map (loss_at s front) calls ++ rest) loss → Has (front ∷ fronts) loss.front
  first-or-later front calls rest fronts loss more has = go (has-either (map (loss_at s front) calls) rest loss has)
    where
      go : Has (map (loss_at s front) calls) loss ⊎ Has rest loss → Has (front ∷ fronts) loss.front
      go (inl has) = inl (same-front front calls loss has)
      go (inr has) = inr (more has)

  losses-fronts :
      (works : List DiskWork) (st : Standing) (before notes : List Happening) (loss : Loss EquipmentView)
      → Has (losses_of s st before works notes) loss → Has (fronts_of before works notes) loss.front
  losses-fronts [] st before notes loss has = absurd has
  losses-fronts (one ∷ works) st before notes loss has =
      first-or-later (front_at one before notes) (lost_calls st one)
      (losses_of s (standing_behind st one) (lines_up_to one before notes) works (lines_behind one notes))
      (fronts_of (lines_up_to one before notes) works (lines_behind one notes)) loss
      (losses-fronts works (standing_behind st one) (lines_up_to one before notes) (lines_behind one notes) loss) has

-- ---- each loss of a step

-- of each call of these works, with what is noted by then
abbrev pub AtEach :
    (List Happening → Left → Type 0) → Standing → List Happening → List DiskWork → List Happening → Type 0
AtEach P st before [] notes = Unit {0}
AtEach P st before (one ∷ works) notes =
    Each (P (front_at one before notes)) (calls_at st one)
    × AtEach P (standing_behind st one) (lines_up_to one before notes) works (lines_behind one notes)

-- a loss is at a call of which this holds
pub record IsAtCall (P : List Happening → Left → Type 0) (s : EquipmentView) (loss : Loss EquipmentView) : Type 0 where
  pub bytes : ℕ
  pub left : Left
  pub is : loss ≡ loss_at s loss.front (bytes, left)
  pub at : P loss.front left

module _ (P : List Happening → Left → Type 0) (s : EquipmentView) where
  abbrev Q : List Happening → ℕ × Left → Type 0
  Q front lost = P front lost.1

  one-call :
      (front : List Happening) (calls : List (ℕ × Left)) (loss : Loss EquipmentView) → AllOf (Q front) calls
      → Has (map (loss_at s front) calls) loss → IsAtCall P s loss
  one-call front [] loss each has = absurd has
  one-call front (lost ∷ calls) loss each (inl same) =
      subst (λ (one : Loss EquipmentView). IsAtCall P s one) (sym same)
      (record { bytes = lost.0; left = lost.1; is = refl; at = each.0 })
  one-call front (lost ∷ calls) loss each (inr has) = one-call front calls loss each.1 has

  one-or-later :
      (front : List Happening) (calls : List (ℕ × Left)) (rest : List (Loss EquipmentView)) (loss : Loss EquipmentView)
      → AllOf (Q front) calls → (Has rest loss → IsAtCall P s loss) → Has (map (loss_at s front) calls ++ rest) loss
      → IsAtCall P s loss
  one-or-later front calls rest loss each more has = go (has-either (map (loss_at s front) calls) rest loss has)
    where
      go : Has (map (loss_at s front) calls) loss ⊎ Has rest loss → IsAtCall P s loss
      go (inl has) = one-call front calls loss each has
      go (inr has) = more has

  pub at-call :
      (works : List DiskWork) (st : Standing) (before notes : List Happening) (loss : Loss EquipmentView)
      → AtEach P st before works notes → Has (losses_of s st before works notes) loss → IsAtCall P s loss
  at-call [] st before notes loss each has = absurd has
  at-call (one ∷ works) st before notes loss each has =
      one-or-later (front_at one before notes) (lost_calls st one)
      (losses_of s (standing_behind st one) (lines_up_to one before notes) works (lines_behind one notes)) loss
      (lost-each (P (front_at one before notes)) st one each.0)
      (at-call works (standing_behind st one) (lines_up_to one before notes) (lines_behind one notes) loss each.1) has

pub losses-counted : LossesAreCounted
losses-counted s input now = (
  (
    losses-count s (works_of s input now) (standing_in s) [] (step_in (begun_step s input now)).notes,
    losses-bytes s (works_of s input now) (standing_in s) [] (step_in (begun_step s input now)).notes,
  ),
  λ loss has.
      has-front (fronts_of [] (works_of s input now) (step_in (begun_step s input now)).notes)
      (unserved (begun_step s input now)) loss.front
      (losses-fronts s (works_of s input now) (standing_in s) [] (step_in (begun_step s input now)).notes loss has),
)
