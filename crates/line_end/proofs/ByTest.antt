-- What holds of both outcomes of a test.
use Rattle.std.specs.Prelude.{Bool, true, false, if◌then◌else◌}
use Rattle.line_end.specs.Step.{Outcome}

pub by_test : (P : Outcome → Type 0) (test : Bool) {x y : Outcome} → P x → P y → P (if test then x else y)
by_test P true first second = first
by_test P false first second = second
