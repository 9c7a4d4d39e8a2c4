-- That a journal's disk of which little was asked has room for more.
use Rattle.std.proofs.Common.{◌≡◌, ◌⊎◌, inl, inr, refl, sym, ap, subst, ◌∙◌, arith, ◌+◌, ◌≤◌, ℕ, List, [], ◌∷◌, ◌++◌, length, map}
use Rattle.std.proofs.Math.Nat.{min-le_right}
use Rattle.std.proofs.lemmas.List.Sums.{sum_by-append, sum_by-cons}
use Rattle.std.specs.List.{sum_by}
use Rattle.gem_spool.specs.Standing.{Standing}
use Rattle.gem_spool.specs.Updates.{Left}
use Rattle.journal_node.specs.End.{machine}
use Rattle.journal_node.specs.Journal.{JournalView, noted_by, standing_in}
use Rattle.journal_node.specs.Works.{asks, left_as, loss_at, losses, losses_of, works_of}
use Rattle.line_world.proofs.FewCalls.{IsRoomy, finds-room}
use Rattle.message_end.specs.Ends.{Asked, Loss}
use Rattle.spool_works.specs.DiskWorks.{DiskWork, all_bytes, all_calls, front_at, lines_behind, lines_up_to, standing_behind}
use Rattle.spool_works.specs.WorkLosses.{lost_calls}
use Rattle.spool_works.proofs.LossCounts.{length-both, lost-bytes, lost-count}
use Rattle.trace_log.specs.Log.{Happening}
use Rattle.journal_world.specs.FewCalls.{FewCallsFindRoom}

-- ---- power may be lost once at each call

abbrev written : List (Loss JournalView) → ℕ
written losses = sum_by (λ (loss : Loss JournalView). loss.bytes) losses

module _ (s : JournalView) where
  losses-count : (works : List DiskWork) (st : Standing) (before notes : List Happening)
      → length (losses_of (left_as s) st before works notes) ≡ all_calls st works
  losses-count [] st before notes = refl
  losses-count (one ∷ works) st before notes =
      let rest =
      losses_of (left_as s) (standing_behind st one) (lines_up_to one before notes) works (lines_behind one notes)
      in
      let both = length-both (loss_at (left_as s) (front_at one before notes)) (lost_calls st one) rest in
      let here = lost-count st one in
      let more =
      losses-count works (standing_behind st one) (lines_up_to one before notes) (lines_behind one notes)
      in
      omega (arith, both, here, more)

  -- and the calls write as many bytes
  map-bytes : (front : List Happening) (lost : List (ℕ × Left))
      → written (map (loss_at (left_as s) front) lost) ≡ sum_by (λ (call : ℕ × Left). call.0) lost
  map-bytes front [] = refl
  map-bytes front (call ∷ lost) =
      sum_by-cons (λ (loss : Loss JournalView). loss.bytes) (loss_at (left_as s) front call)
      (map (loss_at (left_as s) front) lost)
      ∙ ap (λ (n : ℕ). call.0 + n) (map-bytes front lost)
      ∙ sym (sum_by-cons (λ (one : ℕ × Left). one.0) call lost)

  losses-bytes : (works : List DiskWork) (st : Standing) (before notes : List Happening)
      → written (losses_of (left_as s) st before works notes) ≡ all_bytes st works
  losses-bytes [] st before notes = refl
  losses-bytes (one ∷ works) st before notes =
      let front = front_at one before notes in
      let rest =
      losses_of (left_as s) (standing_behind st one) (lines_up_to one before notes) works (lines_behind one notes)
      in
      let both =
      sum_by-append (λ (loss : Loss JournalView). loss.bytes) (map (loss_at (left_as s) front) (lost_calls st one)) rest
      in
      let here = map-bytes front (lost_calls st one) in
      let bytes = lost-bytes st one in
      let more =
      losses-bytes works (standing_behind st one) (lines_up_to one before notes) (lines_behind one notes)
      in
      omega (arith, both, here, bytes, more)

-- ---- the room

module _ (start : JournalView) (most : start.file.slots ≤ 1024) where
  first-roomy : IsRoomy (machine.first_use start)
  first-roomy = record { calls = omega (arith, most); bytes = omega (arith, most) }

  anew-roomy : IsRoomy (machine.anew_use start)
  anew-roomy =
      let last = min-le_right start.file.slots 257 in record { calls = omega (arith, most, last); bytes = omega arith }

  roomy : (used : Asked) → (used ≡ machine.first_use start) ⊎ (used ≡ machine.anew_use start) → IsRoomy used
  roomy used (inl is) = subst IsRoomy (sym is) first-roomy
  roomy used (inr is) = subst IsRoomy (sym is) anew-roomy

pub few-find-room : {E : Type 0} → FewCallsFindRoom E
few-find-room start used world input of most calls bytes full =
    let s = world.host in
    let works = works_of s input world.moment in
    let notes = noted_by s input world.moment in
    finds-room used (roomy start most used of) world.host_reach (losses s input world.moment)
    (asks s input world.moment) (losses-count s works (standing_in s) [] notes)
    (losses-bytes s works (standing_in s) [] notes) calls bytes full.1.0 full.1.1
