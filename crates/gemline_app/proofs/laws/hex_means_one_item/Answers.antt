-- The law, by the lemmas of `Due` and `ReadBack`.

use Rattle.gemline_app.proofs.Due.{one_bytes}
use Rattle.gemline_app.proofs.ReadBack.{one_hex_item}
use Rattle.gemline_app.proofs.laws.hex_means_one_item.Goals as goal

pub returns-clause-bytes : goal.returns-clause-bytes
returns-clause-bytes c = one_bytes

pub returns-clause-item : goal.returns-clause-item
returns-clause-item c = one_hex_item
