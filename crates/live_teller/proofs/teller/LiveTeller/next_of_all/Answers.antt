-- News of the line is told first, or else the next line is.

use Rattle.std.proofs.Common.{ℕ, List, ◌∷◌, sym, ap, ◌∙◌}
use Rattle.end_run.specs.Commands.Telling.{Says}
use Rattle.live_teller.specs.Callers.{address_of}
use Rattle.live_teller.specs.Stages.{here_from, here_of, telling_at}
use Rattle.live_teller.specs.declared.teller.Stage.TheVariants.{Lines}
use Rattle.live_teller.proofs.Going.{news_first, next_of_same, no_news}
use Rattle.live_teller.proofs.teller.LiveTeller.next_of_all.Goals as goal

pub returns-in-Some-clause-next : goal.returns-in-Some-clause-next
returns-in-Some-clause-next g c =
    let more = here_from g.B.Beside Lines c.args.self.now in
    news_first (g.B.Beside.host c.args.self.now.beside) (address_of c.in-Some.caller) more c.in-Some.ensures.0
    ∙ ap (λ (text : List ℕ). Says text ∷ more) (sym c.host_line-reply.ensures)

pub returns-in-None-clause-next : goal.returns-in-None-clause-next
returns-in-None-clause-next g c =
    let b = g.B.Beside in
    let new = c.next_of_lines.new.self in
    next_of_same c.next_of_lines.result (telling_at new.at) _ _ (here_of b new)
    (no_news (b.host c.args.self.now.beside) (here_from b Lines c.args.self.now) c.in-None.ensures)
    c.next_of_lines.ensures.next
