-- The laws of the crates below, each as its own function has it.

use Rattle.line_world.proofs.laws.laws_hold.Goals as goal

pub returns : goal.returns
returns c = record {
  deliver = c.ends_deliver.ensures;
  take = c.spool_is_taken_in_order.ensures;
  reports = c.reports_are_of_their_events.ensures;
  kept = c.spool_is_kept.ensures.notes;
  left = c.messages_leave_in_step.ensures;
  used = c.overwrites_for_puts.ensures;
  set_up = c.setup_is_kept.ensures;
  told = c.kept_setup_holds.ensures;
  tables = c.tables_are_looked_back_for.ensures;
  running = c.what_runs_is_looked_back_for.ensures;
  few = c.few_traces_run.ensures;
}
