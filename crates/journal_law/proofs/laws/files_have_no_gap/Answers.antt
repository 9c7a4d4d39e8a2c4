use Rattle.journal_law.proofs.Numbers.{files-gapless}
use Rattle.journal_law.proofs.laws.files_have_no_gap.Goals as goal

pub returns : goal.returns
returns c = files-gapless
