-- The law, by the lemmas of `Verdicts`.

use Rattle.secs_items.proofs.Verdicts.{broken_is, empty_is, spelled_whole, whole_spelled}
use Rattle.secs_items.proofs.verdict_laws.verdicts_tell_of_spellings.Goals as goal

pub returns-clause-spelled : goal.returns-clause-spelled
returns-clause-spelled c = spelled_whole

pub returns-clause-whole : goal.returns-clause-whole
returns-clause-whole c = whole_spelled

pub returns-clause-empty : goal.returns-clause-empty
returns-clause-empty c = empty_is

pub returns-clause-broken : goal.returns-clause-broken
returns-clause-broken c = broken_is
