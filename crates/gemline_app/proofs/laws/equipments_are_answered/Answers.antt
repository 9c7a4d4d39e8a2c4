-- The law, by the lemmas of `FiledAnswered`.

use Rattle.gemline_app.proofs.FiledAnswered.{equipments_answered}
use Rattle.gemline_app.proofs.laws.equipments_are_answered.Goals as goal

pub returns : goal.returns
returns c = equipments_answered
