-- From where it stands, and with nothing more to come than before.

use Rattle.std.proofs.Common.{ℕ, List, sym, ap, subst, ◌∙◌}
use Rattle.std.specs.Prelude.{IfOk}
use Rattle.std.specs.Option.{option_map}
use Rattle.end_run.specs.Told.{IsNext}
use Rattle.live_commands.specs.Coming.{Standing}
use Rattle.live_teller.specs.Stages.{behind_from, here_from, here_of, left_at, telling_at}
use Rattle.live_teller.specs.Tellings.{told_by}
use Rattle.live_teller.specs.declared.teller.Stage.{Stage}
use Rattle.live_teller.specs.declared.teller.Stage.TheVariants.{Over}
use Rattle.live_teller.proofs.Going.{coming_same, stands_same}
use Rattle.live_teller.proofs.teller.LiveTellerTeller.next.Goals as goal

pub returns-in-Host-clause-next : goal.returns-in-Host-clause-next
returns-in-Host-clause-next g c =
    let b = g.B.Beside in
    let t = c.args.self.now in
    let new = c.next_of_all.new.self in
    subst
    (λ (stage : Stage). IfOk c.next_of_all.result (IsNext (here_from b stage t) (telling_at new.at) (here_of b new)))
    (sym c.in-Host.is) c.next_of_all.ensures.next

pub returns-in-Host-clause-coming : goal.returns-in-Host-clause-coming
returns-in-Host-clause-coming g c =
    let t = c.args.self.now in
    coming_same g.B.Beside t c.next_of_all.new.self
    (c.next_of_all.ensures.stands ∙ ap (λ (stage : Stage). behind_from g.B.Beside stage t) (sym c.in-Host.is))
    c.next_of_all.ensures.beside

pub returns-in-Lines-clause-next : goal.returns-in-Lines-clause-next
returns-in-Lines-clause-next g c =
    let b = g.B.Beside in
    let t = c.args.self.now in
    let new = c.next_of_lines.new.self in
    subst
    (λ (stage : Stage). IfOk c.next_of_lines.result (IsNext (here_from b stage t) (telling_at new.at) (here_of b new)))
    (sym c.in-Lines.is) c.next_of_lines.ensures.next

pub returns-in-Lines-clause-coming : goal.returns-in-Lines-clause-coming
returns-in-Lines-clause-coming g c =
    let t = c.args.self.now in
    coming_same g.B.Beside t c.next_of_lines.new.self
    (c.next_of_lines.ensures.stands ∙ ap (λ (stage : Stage). behind_from g.B.Beside stage t) (sym c.in-Lines.is))
    c.next_of_lines.ensures.beside

pub returns-in-Last-clause-next : goal.returns-in-Last-clause-next
returns-in-Last-clause-next g c =
    let b = g.B.Beside in
    let t = c.args.self.now in
    let new = c.next_of_last.new.self in
    subst
    (λ (stage : Stage). IfOk c.next_of_last.result (IsNext (here_from b stage t) (telling_at new.at) (here_of b new)))
    (sym c.in-Last.is) c.next_of_last.ensures.next

pub returns-in-Last-clause-coming : goal.returns-in-Last-clause-coming
returns-in-Last-clause-coming g c =
    let t = c.args.self.now in
    coming_same g.B.Beside t c.next_of_last.new.self
    (c.next_of_last.ensures.stands ∙ ap (λ (stage : Stage). behind_from g.B.Beside stage t) (sym c.in-Last.is))
    c.next_of_last.ensures.beside

pub returns-in-Over-clause-next : goal.returns-in-Over-clause-next
returns-in-Over-clause-next g c =
    let b = g.B.Beside in
    let t = c.args.self.now in
    let later = c.next_line.new.reader in
    let at = telling_at c.next_line.new.at in
    subst
    (λ (stage : Stage).
    IfOk c.next_line.result
    (IsNext (left_at stage (b.host t.beside) (b.ended t.beside) t.reader (b.bytes t.beside)) at
    (left_at stage (b.host t.beside) (b.ended t.beside) later (b.bytes t.beside))))
    (sym c.in-Over.is)
    (subst
    (λ (bytes : List ℕ).
    IfOk c.next_line.result
    (IsNext (left_at Over (b.host t.beside) (b.ended t.beside) t.reader bytes) at
    (left_at Over (b.host t.beside) (b.ended t.beside) later bytes))) c.bytes.ensures c.next_line.ensures.next)

pub returns-in-Over-clause-coming : goal.returns-in-Over-clause-coming
returns-in-Over-clause-coming g c =
    let b = g.B.Beside in
    let t = c.args.self.now in
    ap (λ (s : Standing). option_map (told_by s) (b.to_come t.beside))
    (stands_same t.stage (b.ended t.beside) t.reader c.next_line.new.reader _ _ c.bytes.ensures
    c.next_line.ensures.stands)
