-- The byte at the break is that of the file.

use Rattle.std.proofs.Common.{◌∙◌, ℕ, List, ap}
use Rattle.std.specs.List.{slice_get}
use Rattle.spool_file.proofs.Starts.{got_front}
use Rattle.spool_file.proofs.front.break_at.Goals as goal

pub returns-clause-got : goal.returns-clause-got
returns-clause-got c bytes is =
    c.byte_at.ensures ∙ ap (λ (xs : List ℕ). slice_get xs c.args.at) is ∙ got_front bytes c.args.at 47 c.requires
