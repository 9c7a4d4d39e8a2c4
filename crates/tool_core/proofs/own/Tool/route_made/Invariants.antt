-- What is left comes to what all of it does.
use Rattle.std.proofs.Common.{◌≡◌, ◌≤◌, replicate}
use Rattle.trace_log.specs.Text.{printed_note}
use Rattle.message_end.specs.Parts.{after_parts, on_the_way}
use Rattle.tool_core.specs.Node.{node_of}
use Rattle.tool_step.specs.Sampling.{made_part}
use Rattle.tool_core.proofs.own.Tool.route_made.Given as goal

abbrev pub invariant-made : goal.invariant-made
invariant-made l = record {
  done : after_parts printed_note (replicate l.left made_part) (on_the_way (node_of l.self) l.out)
      ≡ after_parts printed_note (replicate 16 made_part) (on_the_way (node_of l.initial.self) l.initial.out);
  line : l.out.line ≡ l.initial.out.line;
  few : l.left ≤ 16;
}

abbrev pub decreases-made : goal.decreases-made
decreases-made l = l.left
