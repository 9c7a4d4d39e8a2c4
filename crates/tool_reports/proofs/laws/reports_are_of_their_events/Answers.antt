use Rattle.tool_reports.proofs.Reporting.{reports-so}
use Rattle.tool_reports.proofs.laws.reports_are_of_their_events.Goals as goal

pub returns : goal.returns
returns c = λ plan file fits can meetings.
    reports-so plan fits c.tables_are_looked_back_for.ensures file can meetings
