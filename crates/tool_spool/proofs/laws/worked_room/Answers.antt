use Rattle.std.proofs.Common.{◌≡◌, ◌⊎◌, ℕ, Some, None, inl, inr, refl, ap, arith}
use Rattle.trace_log.specs.Names.{Spooled}
use Rattle.tool_spool.specs.WorkedRoom.{alarm, event}
use Rattle.tool_spool.proofs.laws.worked_room.Goals as goal

-- the room that was made for a report isn't used by something else
not-used : (report : Spooled) → (Some report ≡ None) ⊎ ⊥ → ⊥
not-used report (inl none) = cc
not-used report (inr none) = none

abbrev function-of : Spooled → ℕ
function-of message = message.function

-- nor by another message
not-by : (Some event ≡ None) ⊎ (Some event ≡ Some alarm) → ⊥
not-by (inl none) = cc
not-by (inr same) =
    let one : 11 ≡ 1 = ap function-of (some-same event alarm same) in absurd (omega (arith, one))
  where
    some-same : (x y : Spooled) → Some x ≡ Some y → x ≡ y
    some-same x y is = cc

pub returns : goal.returns
returns c = record {
  put = λ oldest report. (inl tt, (inr refl, (inl tt, (inl tt, (inl tt, tt)))));
  used = λ oldest report. tt;
  discarded = λ oldest report made. not-used report made.0;
  apart = λ oldest report made. not-used report made.0;
  left = λ oldest report used. not-used report (inl used);
  two = λ oldest second report.
      (inl tt, (inr refl, (inl tt, (inr refl, (inl tt, (inl tt, (inl tt, tt)))))));
  another = λ oldest made. not-by made.0;
}
