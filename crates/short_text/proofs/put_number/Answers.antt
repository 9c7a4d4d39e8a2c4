-- A number below 10 is its one digit.

use Rattle.std.proofs.Common.{ap, sym, ◌∙◌, ◌++◌, List, ℕ}
use Rattle.std.proofs.lemmas.Fmt.{decimal_digit}
use Rattle.short_text.proofs.put_number.Goals as goal

pub returns-then-number-lt10-clause-items : goal.returns-then-number-lt10-clause-items
returns-then-number-lt10-clause-items g c =
    c.push.ensures.items
    ∙ ap (λ (t : List ℕ). c.args.line.now.items ++ t) (sym (decimal_digit c.args.number c.if-number-lt10.true))
