use Rattle.journal_law.proofs.Worked.{forgets-it, has-room, writes-behind}
use Rattle.journal_law.proofs.laws.worked_journals.Goals as goal

pub returns-clause-room : goal.returns-clause-room
returns-clause-room c = has-room

pub returns-clause-forgets : goal.returns-clause-forgets
returns-clause-forgets c = forgets-it

pub returns-clause-turns : goal.returns-clause-turns
returns-clause-turns c = writes-behind
