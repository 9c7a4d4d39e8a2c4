use Rattle.tool_reports.proofs.Reporting.{steps-so, tables-so}
use Rattle.tool_reports.proofs.laws.tables_are_what_was_set.Goals as goal

pub returns-clause-between : goal.returns-clause-between
returns-clause-between c = λ plan file fits can meetings.
    tables-so plan fits c.tables_are_looked_back_for.ensures file can meetings

pub returns-clause-within : goal.returns-clause-within
returns-clause-within c = λ plan file fits can meetings.
    steps-so plan fits c.tables_are_looked_back_for.ensures file can meetings
