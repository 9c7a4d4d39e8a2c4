-- The lines of both starts and of the first steps, and what ends a run there.

use Rattle.std.proofs.Common.{List, ℕ, subst, sym}
use Rattle.message_end.specs.Core.{step_in}
use Rattle.trace_log.specs.Text.{text_of}
use Rattle.end_pair.specs.declared.answers.WorldStep.TheVariants.{Went}
use Rattle.end_pair.specs.Kept.{PutPart, Puts}
use Rattle.end_pair.specs.World.{World, at_start, both_stepped, later}
use Rattle.end_pair.proofs.Ending.{powered_by}
use Rattle.message_end.proofs.LogText.{text_of-append}
use Rattle.end_pair.proofs.Pieces.{put_before, puts_behind}
use Rattle.end_pair.proofs.Powered.{first-powered}
use Rattle.end_pair.proofs.world.World.start.Goals as goal

pub returns-in-Err-clause-lines : goal.returns-in-Err-clause-lines
returns-in-Err-clause-lines g c =
    let e = g.E.End in
    let h = g.H.End in
    let begins = at_start e.machine h.machine (step_in (e.start c.args.equipment.now c.args.equipment_store))
    (step_in (h.start c.args.host.now c.args.host_store)) in
    let both = both_stepped e.machine h.machine begins.world in
    subst (λ (t : List ℕ). PutPart t c.args.lines.now c.at_start.new.lines)
    (sym (text_of-append both.entries begins.entries))
    (put_before (text_of begins.entries) (text_of both.entries) c.args.lines.now c.at_start.new.lines
    c.in-Err.ensures.part)

pub returns-in-Went-clause-lines : goal.returns-in-Went-clause-lines
returns-in-Went-clause-lines g c =
    let e = g.E.End in
    let h = g.H.End in
    let begins = at_start e.machine h.machine (step_in (e.start c.args.equipment.now c.args.equipment_store))
    (step_in (h.start c.args.host.now c.args.host_store)) in
    let both = both_stepped e.machine h.machine begins.world in
    let puts : Puts both.went (text_of both.entries) c.at_start.new.lines c.step_both.new.lines Went =
    subst (λ (w : World e.State h.State). Puts (both_stepped e.machine h.machine (later 0 w)).went
    (text_of (both_stepped e.machine h.machine (later 0 w)).entries) c.at_start.new.lines c.step_both.new.lines Went)
    c.in-Ok.ensures.world c.in-Went.ensures.puts
    in
    subst (λ (t : List ℕ). Puts both.went t c.args.lines.now c.step_both.new.lines Went)
    (sym (text_of-append both.entries begins.entries))
    (puts_behind both.went Went (text_of begins.entries) (text_of both.entries) c.args.lines.now c.at_start.new.lines
    c.step_both.new.lines c.in-Ok.ensures.lines puts)

pub returns-in_default : goal.returns-in_default
returns-in_default g c =
    let e = g.E.End in
    let h = g.H.End in
    let begins = at_start e.machine h.machine (step_in (e.start c.args.equipment.now c.args.equipment_store))
    (step_in (h.start c.args.host.now c.args.host_store)) in
    let both = both_stepped e.machine h.machine begins.world in
    let puts : Puts both.went (text_of both.entries) c.at_start.new.lines c.step_both.new.lines c.step_both.result =
    subst (λ (w : World e.State h.State). Puts (both_stepped e.machine h.machine (later 0 w)).went
    (text_of (both_stepped e.machine h.machine (later 0 w)).entries) c.at_start.new.lines c.step_both.new.lines
    c.step_both.result)
    c.in-Ok.ensures.world c.step_both.ensures.puts
    in
    record {
      world = tt;
      lines =
          subst (λ (t : List ℕ). Puts both.went t c.args.lines.now c.step_both.new.lines c.step_both.result)
          (sym (text_of-append both.entries begins.entries))
          (puts_behind both.went c.step_both.result (text_of begins.entries) (text_of both.entries) c.args.lines.now
          c.at_start.new.lines c.step_both.new.lines c.in-Ok.ensures.lines puts);
      stops = c.in_default.not-Went;
      powered =
          powered_by both.went (text_of both.entries) c.at_start.new.lines c.step_both.new.lines c.step_both.result
          (first-powered e.machine h.machine (step_in (e.start c.args.equipment.now c.args.equipment_store))
          (step_in (h.start c.args.host.now c.args.host_store))) puts;
    }
