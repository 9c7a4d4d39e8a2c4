-- What is left has as much to end as all had at first, and the equipment keeps beside its core what it kept.

use Rattle.std.proofs.Common.{◌≡◌, ◌-◌, length}
use Rattle.std.specs.Prelude.{drop}
use Rattle.message_flow.specs.declared.step.StepOut.{StepOut}
use Rattle.trace_log.specs.Text.{printed_note}
use Rattle.message_end.specs.Core.{carried}
use Rattle.message_end.specs.Parts.{on_the_way}
use Rattle.tool_core.specs.Node.{own_of}
use Rattle.tool_core.proofs.OwnS1F13.{all_requests}
use Rattle.tool_core.proofs.own.Tool.end_own_s1f13.Given as goal

abbrev pub invariant-requests : goal.invariant-requests
invariant-requests l = record {
  done : (out : StepOut)
      → carried printed_note (all_requests (drop l.place l.self.core.transactions.begun)) (on_the_way l.self.core out)
      ≡ carried printed_note (all_requests l.initial.self.core.transactions.begun) (on_the_way l.initial.self.core out);
  own : own_of l.self.own ≡ own_of l.initial.self.own;
}

abbrev pub decreases-requests : goal.decreases-requests
decreases-requests l = length l.self.core.transactions.begun - l.place
