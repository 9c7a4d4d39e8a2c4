-- What is left comes to what all of it does.
use Rattle.std.proofs.Common.{◌≡◌, ◌≤◌, replicate}
use Rattle.trace_log.specs.Text.{printed_note}
use Rattle.message_end.specs.Parts.{after_parts, on_the_way}
use Rattle.tool_core.specs.Node.{node_of}
use Rattle.tool_core.specs.Late.{late_part}
use Rattle.tool_core.proofs.own.Tool.end_some_late.Given as goal

abbrev pub invariant-overdue : goal.invariant-overdue
invariant-overdue l = record {
  done : after_parts printed_note (replicate l.left (late_part l.late l.now)) (on_the_way (node_of l.self) l.out)
      ≡ after_parts printed_note (replicate l.most (late_part l.late l.now))
      (on_the_way (node_of l.initial.self) l.initial.out);
  line : l.out.line ≡ l.initial.out.line;
  few : l.left ≤ l.most;
}

abbrev pub decreases-overdue : goal.decreases-overdue
decreases-overdue l = l.left
