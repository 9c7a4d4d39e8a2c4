use Rattle.tool_traces.proofs.TracedCourses.{traces-so}
use Rattle.tool_traces.proofs.laws.traces_are_sampled.Goals as goal

pub returns : goal.returns
returns c = λ plan file fits can meetings.
    traces-so plan fits c.tables_are_looked_back_for.ensures c.what_runs_is_looked_back_for.ensures
    c.few_traces_run.ensures file can meetings
