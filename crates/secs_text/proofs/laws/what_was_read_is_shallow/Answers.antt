-- The law, by the lemmas of `Shallow`.

use Rattle.secs_text.proofs.Shallow.{bytes_shallow, text_shallow}
use Rattle.secs_text.proofs.laws.what_was_read_is_shallow.Goals as goal

pub returns-clause-text : goal.returns-clause-text
returns-clause-text c = text_shallow

pub returns-clause-bytes : goal.returns-clause-bytes
returns-clause-bytes c = bytes_shallow
