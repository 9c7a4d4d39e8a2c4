-- The check of no bytes.

use Rattle.std.proofs.Common.{ℕ, List, ap, sym, ◌∙◌}
use Rattle.secs_items.specs.declared.point.Point.TheVariants as point
use Rattle.secs_items.specs.Checking.{stands_at}
use Rattle.secs_items.proofs.CheckLaws.{check_none}
use Rattle.secs_items.proofs.body_check.BodyCheck.new.Goals as goal

pub returns : goal.returns
returns c = ap (λ (lists : List ℕ). stands_at 0 lists point.Format) c.none.ensures ∙ sym check_none
