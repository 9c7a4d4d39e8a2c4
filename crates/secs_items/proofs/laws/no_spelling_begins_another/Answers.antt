-- The law, by the lemmas of `SpellLaws`.

use Rattle.secs_items.proofs.SpellLaws.{no_prefix, one_value}
use Rattle.secs_items.proofs.laws.no_spelling_begins_another.Goals as goal

pub returns-clause-whole : goal.returns-clause-whole
returns-clause-whole c = λ first second bytes more s t. (no_prefix first second bytes more s t).0

pub returns-clause-alone : goal.returns-clause-alone
returns-clause-alone c = one_value
