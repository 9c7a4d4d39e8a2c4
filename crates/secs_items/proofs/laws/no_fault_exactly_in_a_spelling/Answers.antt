-- The law, by the lemmas of `SpellLaws`.

use Rattle.secs_items.proofs.SpellLaws.{none_spells, spells_none}
use Rattle.secs_items.proofs.laws.no_fault_exactly_in_a_spelling.Goals as goal

pub returns-clause-spelled : goal.returns-clause-spelled
returns-clause-spelled c = spells_none

pub returns-clause-only : goal.returns-clause-only
returns-clause-only c = none_spells
