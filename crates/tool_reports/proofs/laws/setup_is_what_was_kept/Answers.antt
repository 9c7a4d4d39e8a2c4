use Rattle.tool_reports.proofs.Reporting.{setup-so}
use Rattle.tool_reports.proofs.laws.setup_is_what_was_kept.Goals as goal

pub returns : goal.returns
returns c = λ plan file fits can meetings.
    setup-so plan fits c.tables_are_looked_back_for.ensures file can meetings
