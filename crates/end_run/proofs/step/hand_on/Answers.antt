-- The lines are written, and then the characters sent; each way in which that ends, with the fault that is counted.

use Rattle.std.proofs.Common.{List, ℕ, [], ◌∷◌, ◌++◌, None, ap, refl, subst, sym, ◌∙◌}
use Rattle.gl_base.specs.Sending.{WroteShort, WroteText}
use Rattle.gl_base.specs.Told.{sink_told}
use Rattle.trace_log.specs.Text.{text_of}
use Rattle.end_run.specs.Acts.Act.{Writes}
use Rattle.end_run.specs.Outcome.{Does}
use Rattle.end_run.specs.Scenes.{beside}
use Rattle.end_run.specs.Steps.{sends}
use Rattle.end_run.proofs.Doing.{does_behind}
use Rattle.end_run.proofs.Stepping.{part_none, short_fails, wrote_did}
use Rattle.end_run.specs.Counts.{counted}
use Rattle.end_run.proofs.Counting.{counts_behind}
use Rattle.end_run.proofs.step.hand_on.Goals as goal

pub returns-in_default-clause-does : goal.returns-in_default-clause-does
returns-in_default-clause-does g c = λ s room stop entries same. part_none _ _

pub returns-in_default-copy_out-clause-does : goal.returns-in_default-copy_out-clause-does
returns-in_default-copy_out-clause-does g c =
    λ s room stop entries same.
    short_fails _ _ _ entries (text_of entries ++ c.args.reply.now) (sends c.args.step.now.line.items)
    (subst (λ (text : List ℕ). WroteShort (sink_told g.W.Sink c.args.out.now c.copy_out.new.out) text)
    (c.as_slice.ensures ∙ c.in-Ok.ensures ∙ ap (λ (text : List ℕ). text ++ c.args.reply.now) (sym same))
    c.in_default-copy_out.ensures)

pub returns-clause-does : goal.returns-clause-does
returns-clause-does g c =
    λ s room stop entries same.
    let text = text_of entries ++ c.args.reply.now in
    does_behind _ (Writes entries text ∷ [])
    (wrote_did _ _ _ entries text
    (subst (λ (text : List ℕ). WroteText (sink_told g.W.Sink c.args.out.now c.copy_out.new.out) text)
    (c.as_slice.ensures ∙ c.in-Ok.ensures ∙ ap (λ (text : List ℕ). text ++ c.args.reply.now) (sym same))
    c.in-Done.ensures))
    None (sends c.args.step.now.line.items) c.send_all.result
    (subst
    (λ (characters : List ℕ). Does (beside g.L.Link (g.W.Sink.received c.copy_out.new.out)
    (g.W.Sink.health c.copy_out.new.out) s room stop c.args.link.now)
    (beside g.L.Link (g.W.Sink.received c.copy_out.new.out)
    (g.W.Sink.health c.copy_out.new.out) s room stop c.send_all.new.link) None (sends characters) c.send_all.result)
    c.as_slice-2.ensures.value (c.send_all.ensures.does _ _ s room stop))

pub returns-in_default-clause-counts : goal.returns-in_default-clause-counts
returns-in_default-clause-counts g c = λ disk. (refl, refl, refl)

pub returns-in_default-copy_out-clause-counts : goal.returns-in_default-copy_out-clause-counts
returns-in_default-copy_out-clause-counts g c =
    λ disk. (refl, c.in_default-copy_out.ensures.fault.rose, refl)

pub returns-clause-counts : goal.returns-clause-counts
returns-clause-counts g c =
    λ disk.
    counts_behind (counted g.L.Link g.W.Sink c.args.link.now c.args.out.now disk)
    (counted g.L.Link g.W.Sink c.args.link.now c.copy_out.new.out disk)
    (counted g.L.Link g.W.Sink c.send_all.new.link c.copy_out.new.out disk) c.send_all.result
    (refl, c.in-Done.ensures.health.same, refl)
    (c.send_all.ensures.counts (g.W.Sink.health c.copy_out.new.out).faults disk)
