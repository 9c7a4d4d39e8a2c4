-- Hex that means bytes is answered by what these spell; other input is refused.

use Rattle.std.proofs.Common.{List, ℕ, sym, subst}
use Rattle.gemline_app.specs.Gemline.{HexRefuses, ItemAnswers}
use Rattle.gemline_app.specs.declared.outcome.Outcome.{Outcome}
use Rattle.gemline_app.proofs.Carrying.{hex_answers, hex_refusal}
use Rattle.gemline_app.proofs.HexLaws.{read_means}
use Rattle.gemline_app.proofs.spelling.printed.Goals as goal

pub returns-in-Ok : goal.returns-in-Ok
returns-in-Ok c =
    hex_answers _ _ _ (read_means _ _ c.in-Ok.ensures)
    (subst (λ (bytes : List ℕ). ItemAnswers bytes c.printed_item.result) c.as_slice.ensures c.printed_item.ensures)

pub returns-in-Err : goal.returns-in-Err
returns-in-Err c =
    subst (λ (refusal : Outcome). HexRefuses c.args.digits.now refusal) (sym c.refusal_of.ensures)
    (hex_refusal _ _ c.in-Err.ensures)
