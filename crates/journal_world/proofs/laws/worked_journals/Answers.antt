-- What isn't so of what is listed, or of the host's notes, isn't so of the log.

use Rattle.std.proofs.Common.{◌≡◌, ℕ, ap, arith}
use Rattle.journal_law.proofs.Worked.{not-nothing}
use Rattle.spool_delivery.proofs.Examples.{first_number}
use Rattle.journal_world.proofs.laws.worked_journals.Goals as goal

not-one : ◌≡◌ {A = ℕ} 0 1 → ⊥
not-one is = omega (arith, is)

pub returns : goal.returns
returns c = record {
  unlisted = λ plans slots safe. safe.listed.kept.0.cause.0;
  out_of_order = λ plans slots safe. not-one (ap first_number safe.listed.taken.0.is);
  lost = λ plans slots safe. not-nothing _ safe.journal.0;
}
