use Rattle.std.proofs.Common.{subst, sym}
use Rattle.std.specs.Prelude.{Err}
use Rattle.message_end.specs.Ends.{input_of}
use Rattle.journal_node.specs.Held.{IsIn, Moves}
use Rattle.journal_node.specs.Stepping.{BreaksBy, CallsInStep, EndsBack, StepHandsBack}
use Rattle.journal_node.proofs.HandingBack.{step-back, unopened-back}
use Rattle.journal_node.proofs.StepBreaks.{step-breaks, unopened-breaks}
use Rattle.journal_node.proofs.StepCalled.{step-called, unopened-called}
use Rattle.journal_node.proofs.StepDone.{moved-by-cause, not-opened, step-moves}
use Rattle.journal_node.proofs.journal_host.JournalHost.step.Goals as goal

pub returns-in-Ok-clause-moves : goal.returns-in-Ok-clause-moves
returns-in-Ok-clause-moves g c in_state =
    let was = subst (λ h. IsIn g.D.Disk h) (sym c.self.view_is) in_state in
    subst (λ h. Moves g.D.Disk h (input_of c.args.input) c.args.now c.act.new.out c.act.result) c.self.view_is
    (step-moves g.D.Disk (record { host = c.self.inside.host; journal = c.self.inside.journal })
    (input_of c.args.input) c.args.now c.reserve.new.host c.in-Ok.journal c.act.new.out c.act.result
    c.self.invariant was c.in-Ok.ensures.opens c.act.ensures)

pub returns-in-Err-clause-moves : goal.returns-in-Err-clause-moves
returns-in-Err-clause-moves g c in_state =
    let was = subst (λ h. IsIn g.D.Disk h) (sym c.self.view_is) in_state in
    subst (λ h. Moves g.D.Disk h (input_of c.args.input) c.args.now c.args.out.now (Err c.in-Err.ended)) c.self.view_is
    (not-opened g.D.Disk (record { host = c.self.inside.host; journal = c.self.inside.journal })
    (input_of c.args.input) c.args.now c.reserve.new.host c.args.out.now c.in-Err.ended c.requires.out was
    c.in-Err.ensures.opens)

pub returns-in-Ok-clause-causes : goal.returns-in-Ok-clause-causes
returns-in-Ok-clause-causes g c in_state =
    moved-by-cause g.D.Disk c.args.self (input_of c.args.input) c.args.now c.act.new.out c.act.result
    (returns-in-Ok-clause-moves g c in_state)

pub returns-in-Err-clause-causes : goal.returns-in-Err-clause-causes
returns-in-Err-clause-causes g c in_state =
    moved-by-cause g.D.Disk c.args.self (input_of c.args.input) c.args.now c.args.out.now (Err c.in-Err.ended)
    (returns-in-Err-clause-moves g c in_state)

pub returns-in-Ok-clause-disk : goal.returns-in-Ok-clause-disk
returns-in-Ok-clause-disk g c =
    subst (λ h. StepHandsBack g.D.Disk h.journal.spool.disk c.act.result) c.self.view_is
    (step-back g.D.Disk c.self.inside.host c.reserve.new.host c.self.inside.journal c.in-Ok.journal
    (input_of c.args.input) c.args.now c.act.new.out c.act.result c.in-Ok.ensures.opens c.act.ensures)

pub returns-in-Err-clause-disk : goal.returns-in-Err-clause-disk
returns-in-Err-clause-disk g c =
    subst (λ h. EndsBack g.D.Disk h.journal.spool.disk c.in-Err.ended) c.self.view_is
    (unopened-back g.D.Disk c.self.inside.host c.reserve.new.host c.self.inside.journal c.in-Err.ended
    c.in-Err.ensures.opens)

pub returns-in-Ok-clause-calls : goal.returns-in-Ok-clause-calls
returns-in-Ok-clause-calls g c in_state =
    let was = subst (λ h. IsIn g.D.Disk h) (sym c.self.view_is) in_state in
    subst (λ h. CallsInStep g.D.Disk h (input_of c.args.input) c.args.now c.act.result) c.self.view_is
    (step-called g.D.Disk (record { host = c.self.inside.host; journal = c.self.inside.journal })
    (input_of c.args.input) c.args.now was c.reserve.new.host c.in-Ok.journal c.act.new.out c.act.result
    c.self.invariant c.in-Ok.ensures.opens c.act.ensures)

pub returns-in-Err-clause-calls : goal.returns-in-Err-clause-calls
returns-in-Err-clause-calls g c in_state =
    let was = subst (λ h. IsIn g.D.Disk h) (sym c.self.view_is) in_state in
    subst (λ h. CallsInStep g.D.Disk h (input_of c.args.input) c.args.now (Err c.in-Err.ended)) c.self.view_is
    (unopened-called g.D.Disk (record { host = c.self.inside.host; journal = c.self.inside.journal })
    (input_of c.args.input) c.args.now was c.reserve.new.host c.in-Err.ended c.in-Err.ensures.opens)

pub returns-in-Ok-clause-breaks : goal.returns-in-Ok-clause-breaks
returns-in-Ok-clause-breaks g c in_state =
    let was = subst (λ h. IsIn g.D.Disk h) (sym c.self.view_is) in_state in
    subst (λ h. BreaksBy g.D.Disk h (input_of c.args.input) c.args.now c.act.new.out.notes c.act.result)
    c.self.view_is
    (step-breaks g.D.Disk (record { host = c.self.inside.host; journal = c.self.inside.journal })
    (input_of c.args.input) c.args.now was c.reserve.new.host c.in-Ok.journal c.act.new.out c.act.result
    c.self.invariant c.in-Ok.ensures.opens c.act.ensures)

pub returns-in-Err-clause-breaks : goal.returns-in-Err-clause-breaks
returns-in-Err-clause-breaks g c in_state =
    let was = subst (λ h. IsIn g.D.Disk h) (sym c.self.view_is) in_state in
    subst (λ h. BreaksBy g.D.Disk h (input_of c.args.input) c.args.now c.args.out.now.notes (Err c.in-Err.ended))
    c.self.view_is
    (unopened-breaks g.D.Disk (record { host = c.self.inside.host; journal = c.self.inside.journal })
    (input_of c.args.input) c.args.now was c.reserve.new.host c.args.out.now.notes c.in-Err.ended
    c.requires.out.notes c.in-Err.ensures.opens)
