-- The script is the one that the bytes of the input mean.

use Rattle.std.proofs.Common.{List, subst, ℕ}
use Rattle.gemline_app.specs.Linked.{ScriptAnswers}
use Rattle.gemline_app.proofs.Hosting.{script_is_read}
use Rattle.gemline_app.proofs.inputs.script_in.Goals as goal

pub returns-in-Ok : goal.returns-in-Ok
returns-in-Ok g c =
    script_is_read c.args.side _ _ c.script_of.result c.in-Ok.ensures
    (subst (λ (bytes : List ℕ). ScriptAnswers c.args.side bytes c.script_of.result) c.as_slice.ensures
    c.script_of.ensures)
