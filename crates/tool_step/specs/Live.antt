-- The reports that the host hasn't answered yet.
use Rattle.std.specs.Prelude.{ℕ}
use Rattle.trace_log.specs.Names.{Spooled}

-- a report that was sent, with the system bytes of its transaction
pub record ReportView : Type 0 where
  pub system : ℕ
  pub message : Spooled
