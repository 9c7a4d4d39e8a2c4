-- The lines of both starts stand one behind the other, in part where memory runs out.

use Rattle.std.proofs.Common.{◌++◌, List, ℕ, ap, append_assoc, subst, sym, ◌∙◌}
use Rattle.gl_base.specs.declared.side.Side.TheVariants.{Equipment, Host}
use Rattle.message_end.specs.Core.{step_in}
use Rattle.trace_log.specs.Text.{text_of}
use Rattle.end_pair.specs.Kept.{PutPart}
use Rattle.end_pair.specs.Steps.{entries_of}
use Rattle.end_pair.proofs.Pieces.{put_before, put_behind}
use Rattle.end_pair.proofs.Texts.{start_text}
use Rattle.end_pair.proofs.world.World.at_start.Goals as goal

pub returns-in-Err-clause-part : goal.returns-in-Err-clause-part
returns-in-Err-clause-part g c =
    let e = (step_in (g.E.End.start c.args.equipment.now c.args.equipment_store)).notes in
    let h = (step_in (g.H.End.start c.args.host.now c.args.host_store)).notes in
    subst (λ (t : List ℕ). PutPart t c.args.lines.now c.start_end.new.lines) (sym (start_text e h))
    (put_before (text_of (entries_of Equipment 0 e)) (text_of (entries_of Host 0 h)) c.args.lines.now
    c.start_end.new.lines c.in-Err.ensures.part)

pub returns-in-Err-start_end-clause-part : goal.returns-in-Err-start_end-clause-part
returns-in-Err-start_end-clause-part g c =
    let e = (step_in (g.E.End.start c.args.equipment.now c.args.equipment_store)).notes in
    let h = (step_in (g.H.End.start c.args.host.now c.args.host_store)).notes in
    subst (λ (t : List ℕ). PutPart t c.args.lines.now c.start_end-2.new.lines) (sym (start_text e h))
    (put_behind (text_of (entries_of Equipment 0 e)) (text_of (entries_of Host 0 h)) c.args.lines.now
    c.start_end.new.lines c.start_end-2.new.lines
    c.in-Ok.ensures.lines c.in-Err-start_end.ensures.part)

pub returns-clause-lines : goal.returns-clause-lines
returns-clause-lines g c =
    let e = (step_in (g.E.End.start c.args.equipment.now c.args.equipment_store)).notes in
    let h = (step_in (g.H.End.start c.args.host.now c.args.host_store)).notes in
    c.in-Ok-start_end.ensures.lines
    ∙ ap (λ (t : List ℕ). t ++ text_of (entries_of Host 0 h)) c.in-Ok.ensures.lines
    ∙ append_assoc c.args.lines.now (text_of (entries_of Equipment 0 e)) (text_of (entries_of Host 0 h))
    ∙ ap (λ (t : List ℕ). c.args.lines.now ++ t) (sym (start_text e h))
