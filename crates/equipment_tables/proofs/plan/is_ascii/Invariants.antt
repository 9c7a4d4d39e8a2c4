-- The characters so far are of ASCII.

use Rattle.std.proofs.Common.{ℕ, ◌<◌, get_or}
use Rattle.equipment_tables.specs.Plan.{IsAscii}
use Rattle.equipment_tables.proofs.plan.is_ascii.Given as goal

abbrev pub invariant-loop-character : goal.invariant-loop-character
invariant-loop-character l = (k : ℕ) (d : ℕ) → k < l.character-index → IsAscii (get_or l.text k d)
