-- The last line, or the stop behind it.

use Rattle.std.proofs.Common.{◌≡◌, ℕ, List, ◌∷◌, subst}
use Rattle.end_run.specs.Commands.Telling.{Stops}
use Rattle.live_teller.specs.Stages.{left_at, telling_at}
use Rattle.live_teller.specs.declared.teller.Stage.TheVariants.{Last, Over}
use Rattle.live_teller.proofs.Going.{goes_on_last, stands_same, stops}
use Rattle.live_teller.proofs.teller.LiveTeller.next_of_last.Goals as goal

pub returns-then-found-clause-next : goal.returns-then-found-clause-next
returns-then-found-clause-next g c =
    let b = g.B.Beside in
    let t = c.args.self.now in
    let later = c.next_line.new.reader in
    subst
    (λ (bytes : List ℕ).
    left_at Last (b.host t.beside) (b.ended t.beside) t.reader bytes
    ≡ telling_at c.next_line.new.at ∷ left_at Last (b.host t.beside) (b.ended t.beside) later bytes) c.bytes.ensures
    (goes_on_last _ t.reader later c.bytes.result.now c.in_ok-found.ensures.stands
    (rw c.if-found.true at c.in_ok-found.ensures.next))

pub returns-then-found-clause-stands : goal.returns-then-found-clause-stands
returns-then-found-clause-stands g c =
    let t = c.args.self.now in
    stands_same Last (g.B.Beside.ended t.beside) t.reader c.next_line.new.reader _ _ c.bytes.ensures
    c.in_ok-found.ensures.stands

pub returns-clause-next : goal.returns-clause-next
returns-clause-next g c =
    let b = g.B.Beside in
    let t = c.args.self.now in
    let later = c.next_line.new.reader in
    subst
    (λ (bytes : List ℕ).
    left_at Last (b.host t.beside) (b.ended t.beside) t.reader bytes
    ≡ Stops ∷ left_at Over (b.host t.beside) (b.ended t.beside) later bytes) c.bytes.ensures
    (stops t.reader c.bytes.result.now (rw c.if-found.false at c.in_ok-found.ensures.next) later
    (c.in_ok-found.ensures.last c.if-found.false))

pub returns-clause-stands : goal.returns-clause-stands
returns-clause-stands g c =
    let t = c.args.self.now in
    stands_same Last (g.B.Beside.ended t.beside) t.reader c.next_line.new.reader _ _ c.bytes.ensures
    c.in_ok-found.ensures.stands
