-- What was to come has come, behind what was passed over.

use Rattle.std.proofs.Common.{◌≡◌, ℕ, Bool, List, subst}
use Rattle.std.specs.Option.{option_map}
use Rattle.end_run.specs.Told.{Brings}
use Rattle.live_commands.specs.Coming.{Standing, behind_left}
use Rattle.live_teller.specs.Stages.{left_at, stands_at}
use Rattle.live_teller.specs.Tellings.{stands_after, told_by}
use Rattle.live_teller.specs.declared.teller.Stage.TheVariants.{Host}
use Rattle.live_teller.proofs.Telling.{brings_it, may_answer}
use Rattle.live_teller.proofs.teller.LiveTellerTeller.wait.Goals as goal

pub returns-clause-time : goal.returns-clause-time
returns-clause-time g c =
    let b = g.B.Beside in
    let beside = c.wait.new.self in
    may_answer c.pass_over.new.reader.here c.wait.new.reader (b.host beside) (b.ended beside) (b.bytes beside) _ _ _
    c.wait.ensures.came

pub returns-clause-came : goal.returns-clause-came
returns-clause-came g c =
    let b = g.B.Beside in
    let t = c.args.self.now in
    let beside = c.wait.new.self in
    let here = c.pass_over.new.reader.here in
    let is = subst (λ (bytes : List ℕ). here ≡ stands_after c.ends_still-ends.result (behind_left t.reader bytes))
    c.bytes.ensures c.pass_over.ensures.here in
    let stands = subst (λ (ends : Bool). here ≡ stands_after ends (behind_left t.reader (b.bytes t.beside)))
    c.ends_still-ends.ensures is in
    subst
    (λ (s : Standing).
    Brings (option_map (told_by s) (b.to_come t.beside))
    (left_at Host (b.host beside) (b.ended beside) c.wait.new.reader (b.bytes beside))
    (option_map (told_by (stands_at Host (b.ended beside) c.wait.new.reader (b.bytes beside))) (b.to_come beside))) stands
    (brings_it here c.wait.new.reader (b.host beside) (b.ended beside) (b.bytes beside) _ _ _ c.wait.ensures.came)
