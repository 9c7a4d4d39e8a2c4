use Rattle.std.proofs.Common.{◌≡◌, length}
use Rattle.message_end.specs.Parts.{on_the_way}
use Rattle.tool_core.specs.Node.{node_of}
use Rattle.tool_core.proofs.Storing.{stores_step}
use Rattle.tool_core.proofs.own.Tool.store_all.Given as goal

abbrev pub invariant-reports : goal.invariant-reports
invariant-reports l = record {
  same : stores_step l.reports.items (on_the_way (node_of l.self) l.out)
      ≡ stores_step l.initial.reports.items (on_the_way (node_of l.initial.self) l.initial.out);
  line : l.out.line ≡ l.initial.out.line;
}

abbrev pub decreases-reports : goal.decreases-reports
decreases-reports l = length l.reports.items
