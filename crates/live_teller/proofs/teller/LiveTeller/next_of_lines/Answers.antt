-- The next line, or what is behind the last one.

use Rattle.std.proofs.Common.{◌≡◌, ℕ, List, [], ◌∷◌, true, sym, subst, ◌∙◌}
use Rattle.live_teller.specs.Stages.{here_of, left_at, telling_at}
use Rattle.live_teller.specs.Tellings.{end_told}
use Rattle.live_teller.specs.declared.teller.Stage.TheVariants.{Lines}
use Rattle.live_teller.proofs.Going.{ends, goes_on, next_of_same, none_left, stands_ended, stands_same}
use Rattle.live_teller.proofs.teller.LiveTeller.next_of_lines.Goals as goal

pub returns-then-found-clause-next : goal.returns-then-found-clause-next
returns-then-found-clause-next g c =
    let b = g.B.Beside in
    let t = c.args.self.now in
    let later = c.next_line.new.reader in
    subst
    (λ (bytes : List ℕ).
    left_at Lines (b.host t.beside) (b.ended t.beside) t.reader bytes
    ≡ telling_at c.next_line.new.at ∷ left_at Lines (b.host t.beside) (b.ended t.beside) later bytes) c.bytes.ensures
    (goes_on _ t.reader later c.bytes.result.now c.in_ok-found.ensures.stands
    (rw c.if-found.true at c.in_ok-found.ensures.next) (b.ended t.beside))

pub returns-then-found-clause-stands : goal.returns-then-found-clause-stands
returns-then-found-clause-stands g c =
    let t = c.args.self.now in
    stands_same Lines (g.B.Beside.ended t.beside) t.reader c.next_line.new.reader _ _ c.bytes.ensures
    c.in_ok-found.ensures.stands

pub returns-then-ended-clause-next : goal.returns-then-ended-clause-next
returns-then-ended-clause-next g c =
    let b = g.B.Beside in
    let t = c.args.self.now in
    let later = c.next_line.new.reader in
    next_of_same c.next_end.result (telling_at c.next_end.new.self.at) _ _ (here_of b c.next_end.new.self)
    (subst
    (λ (bytes : List ℕ).
    left_at Lines (b.host t.beside) (b.ended t.beside) t.reader bytes ≡ end_told true later.here) c.bytes.ensures
    (ends t.reader c.bytes.result.now (rw c.if-found.false at c.in_ok-found.ensures.next) later (b.ended t.beside)
    (c.in_ok-found.ensures.last c.if-found.false) (sym c.has_ended-ended.ensures ∙ c.if-ended.true)
    (c.in_ok-found.ensures.through c.if-found.false)))
    c.next_end.ensures.next

pub returns-then-ended-clause-stands : goal.returns-then-ended-clause-stands
returns-then-ended-clause-stands g c =
    let t = c.args.self.now in
    c.next_end.ensures.stands
    ∙ stands_ended (g.B.Beside.ended t.beside) t.reader c.next_line.new.reader (g.B.Beside.bytes t.beside)
    (sym c.has_ended-ended.ensures ∙ c.if-ended.true) (c.in_ok-found.ensures.last c.if-found.false)
    (c.in_ok-found.ensures.through c.if-found.false)

pub returns-clause-next : goal.returns-clause-next
returns-clause-next g c =
    let b = g.B.Beside in
    let t = c.args.self.now in
    subst (λ (bytes : List ℕ). left_at Lines (b.host t.beside) (b.ended t.beside) t.reader bytes ≡ []) c.bytes.ensures
    (none_left t.reader c.bytes.result.now (rw c.if-found.false at c.in_ok-found.ensures.next) (b.ended t.beside)
    (sym c.has_ended-ended.ensures ∙ c.if-ended.false))

pub returns-clause-stands : goal.returns-clause-stands
returns-clause-stands g c =
    let t = c.args.self.now in
    stands_same Lines (g.B.Beside.ended t.beside) t.reader c.next_line.new.reader _ _ c.bytes.ensures
    c.in_ok-found.ensures.stands
