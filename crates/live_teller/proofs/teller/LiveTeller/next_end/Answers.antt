-- The last line is what the open one asks for.

use Rattle.std.proofs.Common.{◌≡◌, ℕ, List, subst, ◌∙◌}
use Rattle.live_commands.specs.Coming.{behind_left, closed}
use Rattle.live_teller.specs.Stages.{here_of, telling_at}
use Rattle.live_teller.proofs.Going.{last_left, next_of_same}
use Rattle.live_teller.proofs.teller.LiveTeller.next_end.Goals as goal

pub returns-clause-next : goal.returns-clause-next
returns-clause-next g c =
    let b = g.B.Beside in
    let t = c.args.self.now in
    let new = c.next_of_last.new.self in
    next_of_same c.next_of_last.result (telling_at new.at) _ _ (here_of b new)
    (last_left (b.host t.beside) (b.ended t.beside) c.end.new.self t.reader.here _ _ c.bytes.ensures c.end.ensures.asked)
    c.next_of_last.ensures.next

pub returns-clause-stands : goal.returns-clause-stands
returns-clause-stands g c =
    c.next_of_last.ensures.stands
    ∙ subst (λ (bytes : List ℕ). behind_left c.end.new.self bytes ≡ closed c.args.self.now.reader.here) c.bytes.ensures
    c.end.ensures.stands
