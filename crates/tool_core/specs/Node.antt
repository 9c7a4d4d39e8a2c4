-- What a value of the program is as an end.
use Rattle.std.specs.Prelude.{drop}
use Rattle.message_end.specs.Parts.{Node}
use Rattle.tool_step.specs.declared.kind.Kind.{Kind}
use Rattle.tool_core.specs.declared.own.Own.{Own}
use Rattle.tool_core.specs.declared.own.Tool.{Tool}
use Rattle.tool_core.specs.declared.own.Tracing.{Tracing}
use Rattle.tool_step.specs.Own.{OwnView, TracingView}
use Rattle.equipment_tables.specs.Tables.{state_of}

-- what has not had its turn is what stands behind those that had
abbrev pub tracing_of : Tracing → TracingView
tracing_of tracing = record {
  running = tracing.running;
  made = drop tracing.routed tracing.made;
  for_grant = tracing.for_grant.items;
}

abbrev pub own_of : Own → OwnView
own_of own = record {
  plan = own.plan;
  tables = state_of own.tables;
  setup = own.setup;
  comms = own.comms;
  control = own.control;
  for_grant = own.for_grant.items;
  reports = own.reports.items;
  ledger = own.ledger;
  tried = own.tried;
  owed = own.owed;
  offers = own.offers;
  tracing = tracing_of own.tracing;
  events = own.events;
  has_begun = own.has_begun;
}

abbrev pub node_of : Tool → Node OwnView Kind
node_of tool = record { own = own_of tool.own; core = tool.core }
