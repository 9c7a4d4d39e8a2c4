-- The runs, by the lemmas of `Examples`.

use Rattle.journal_delivery.proofs.Examples.{lists-again, lists-in-its-step, lists-in-turn, lists-none-early, lists-what-comes, needs-listing}
use Rattle.journal_delivery.proofs.laws.worked_journals.Goals as goal

pub returns-clause-again : goal.returns-clause-again
returns-clause-again c = lists-again c.messages_go_in_blocks.ensures

pub returns-clause-first : goal.returns-clause-first
returns-clause-first c = needs-listing c.messages_go_in_blocks.ensures

pub returns-clause-turn : goal.returns-clause-turn
returns-clause-turn c = lists-in-turn

pub returns-clause-comes : goal.returns-clause-comes
returns-clause-comes c = lists-what-comes

pub returns-clause-step : goal.returns-clause-step
returns-clause-step c = lists-in-its-step

pub returns-clause-early : goal.returns-clause-early
returns-clause-early c = lists-none-early
