use Rattle.std.proofs.Common.{◌≡◌, ◌++◌, length}
use Rattle.gem_states.specs.Control.{control_next}
use Rattle.gem_states.specs.declared.control.ControlIn.TheVariants.{AttemptFailed}
use Rattle.trace_log.specs.Text.{printed_note}
use Rattle.message_end.specs.Core.{carried}
use Rattle.message_end.specs.Endings.{ends_begun}
use Rattle.message_end.specs.Parts.{on_the_way}
use Rattle.tool_core.specs.Ending.{all_stored, ends_with}
use Rattle.tool_core.specs.Node.{own_of}
use Rattle.tool_step.specs.Own.{with_control}
use Rattle.tool_step.specs.States.{control_after_loss}
use Rattle.tool_core.proofs.own.Tool.end_begun.Given as goal

abbrev pub invariant-transactions : goal.invariant-transactions
invariant-transactions l = record {
  done : carried printed_note (ends_begun (ends_with l.active (own_of l.initial.self.own)) l.self.core)
      (on_the_way l.self.core l.out)
      ≡ carried printed_note (ends_begun (ends_with l.active (own_of l.initial.self.own)) l.initial.self.core)
      (on_the_way l.initial.self.core l.initial.out);
  after : control_after_loss l.self.own.control l.self.core
      ≡ control_after_loss l.initial.self.own.control l.initial.self.core;
  alike : control_next l.self.own.control AttemptFailed ≡ control_next l.initial.self.own.control AttemptFailed;
  stored : l.reports.items ++ all_stored l.active (own_of l.initial.self.own) l.self.core
      ≡ all_stored l.active (own_of l.initial.self.own) l.initial.self.core;
  own : own_of l.self.own ≡ with_control l.self.own.control (own_of l.initial.self.own);
  line : l.out.line ≡ l.initial.out.line;
}

abbrev pub decreases-transactions : goal.decreases-transactions
decreases-transactions l = length l.self.core.transactions.begun
