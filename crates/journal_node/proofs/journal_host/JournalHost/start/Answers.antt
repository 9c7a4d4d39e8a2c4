use Rattle.std.proofs.Common.{subst, sym}
use Rattle.std.specs.Prelude.{Err}
use Rattle.journal_node.specs.Starting.{Begins, CallsInStart, FindsFile, StartHandsBack}
use Rattle.journal_node.proofs.StartCalled.{looked-only, over-called}
use Rattle.journal_node.proofs.Starts.{begun-by-cause, found, not-found, not-taken, over-begins, start-back, start-sure, untaken-back}
use Rattle.journal_node.proofs.journal_host.JournalHost.start.Goals as goal

pub returns-in-Ok-clause-begins : goal.returns-in-Ok-clause-begins
returns-in-Ok-clause-begins g c s told =
    over-begins g.D.Disk c.args.raw.disk s told c.in-Ok.spool c.in-Ok.ensures c.args.plan c.start_over.new.out
    c.start_over.result c.start_over.ensures

pub returns-in-Err-clause-begins : goal.returns-in-Err-clause-begins
returns-in-Err-clause-begins g c s told =
    subst (λ e. Begins g.D.Disk c.args.plan s c.args.out.now (Err e)) (sym c.why_not.ensures)
    (not-taken g.D.Disk c.args.raw.disk s told c.args.plan c.args.out.now c.in-Err.unknown c.requires.out
    c.in-Err.ensures)

pub returns-in-Ok-clause-spent : goal.returns-in-Ok-clause-spent
returns-in-Ok-clause-spent g c s told =
    begun-by-cause g.D.Disk c.args.plan s c.start_over.new.out c.start_over.result
    (returns-in-Ok-clause-begins g c s told)

pub returns-in-Err-clause-spent : goal.returns-in-Err-clause-spent
returns-in-Err-clause-spent g c s told =
    begun-by-cause g.D.Disk c.args.plan s c.args.out.now (Err c.why_not.result)
    (returns-in-Err-clause-begins g c s told)

pub returns-in-Ok-clause-calls : goal.returns-in-Ok-clause-calls
returns-in-Ok-clause-calls g c s told =
    over-called g.D.Disk c.args.raw.disk s told c.in-Ok.spool c.in-Ok.ensures c.args.plan c.start_over.new.out
    c.start_over.result c.start_over.ensures

pub returns-in-Err-clause-calls : goal.returns-in-Err-clause-calls
returns-in-Err-clause-calls g c s told =
    subst (λ e. CallsInStart g.D.Disk c.args.raw.disk s.now.bytes (Err e)) (sym c.why_not.ensures)
    (looked-only g.D.Disk c.args.raw.disk s told c.in-Err.unknown c.in-Err.ensures)

pub returns-in-Ok-clause-disk : goal.returns-in-Ok-clause-disk
returns-in-Ok-clause-disk g c =
    start-back g.D.Disk c.args.raw.disk c.args.plan c.in-Ok.spool c.start_over.new.out c.start_over.result
    c.in-Ok.ensures c.start_over.ensures

pub returns-in-Err-clause-disk : goal.returns-in-Err-clause-disk
returns-in-Err-clause-disk g c =
    subst (λ e. StartHandsBack g.D.Disk c.args.raw.disk (Err e)) (sym c.why_not.ensures)
    (untaken-back g.D.Disk c.args.raw.disk c.in-Err.unknown c.in-Err.ensures)

pub returns-in-Ok-clause-finds : goal.returns-in-Ok-clause-finds
returns-in-Ok-clause-finds g c s told = found s c.start_over.result (c.in-Ok.ensures.1 s told).0.sound

pub returns-in-Err-clause-finds : goal.returns-in-Err-clause-finds
returns-in-Err-clause-finds g c s told =
    subst (λ e. FindsFile s (Err e)) (sym c.why_not.ensures) (not-found s c.in-Err.unknown)

pub returns-in-Ok-clause-keeps : goal.returns-in-Ok-clause-keeps
returns-in-Ok-clause-keeps g c =
    start-sure g.D.Disk c.args.raw.disk c.args.plan c.in-Ok.spool c.start_over.new.out c.start_over.result
    c.in-Ok.ensures c.start_over.ensures
