-- The names that words give a run, as code has them.
use Rattle.tool_app.specs.Outcome.{Named}
use Rattle.tool_app.specs.declared.reporting.Names.{Names}

abbrev pub named : Names → Named
named names = record { plan = names.plan.now; address = names.address.now; spool = names.spool.now }
