-- The cause of a call's answer, by its count of faults.
use Rattle.std.proofs.Common.{ℕ, refl, inl, inr, arith}
use Rattle.disk_base.specs.Faults.{HasCause, IsPlanned}
use Rattle.disk_base.specs.declared.disk.DiskAnswer.{DiskAnswer}
use Rattle.disk_base.specs.declared.disk.DiskAnswer.TheVariants.{Done, Failed}
use Rattle.disk_base.proofs.Stretches.{none_planned}
use Rattle.file_disk.specs.FileDisk.{Counts, file_health}

-- no call is to fail
unplanned : (faults : ℕ) → IsPlanned (file_health faults) 1 → ⊥
unplanned faults (inl due) = absurd (omega (arith, due.0))
unplanned faults (inr (inl due)) = absurd (omega (arith, due.0))
unplanned faults (inr (inr (stopped, some))) = absurd cc

pub counted : (before now n : ℕ) (Lacking : Type 0) (answer : DiskAnswer) → Counts before now answer
    → HasCause (file_health before) (file_health now) 1 n Lacking answer
counted before now n Lacking Done same = record {
  same = same;
  calls_left = omega arith;
  room_left = omega arith;
  calls_kept = omega arith;
  room_kept = omega arith;
  fail_left = refl;
  stop_left = refl;
  unplanned = unplanned before;
  going = refl;
  exact = refl;
  counted = λ goes. let exact = goes.exact in cc;
  room_is = λ goes. let exact = goes.exact in cc;
  bounds_kept = refl;
}
counted before now n Lacking Failed rose = record {
  rose = rose;
  made = 0;
  few = omega arith;
  unplanned = none_planned (file_health before);
  lacking = λ one. absurd (omega (arith, one));
  stays = λ stopped. absurd cc;
  stops = λ stopped. absurd cc;
  last = λ goes stopped. absurd cc;
  bounds_kept = refl;
  calls_kept = omega arith;
  room_kept = omega arith;
}
