-- One text more is noted behind those so far.

use Rattle.std.proofs.Common.{◌∙◌, ap, List, ℕ, arith}
use Rattle.trace_log.specs.Log.Happening.{Display}
use Rattle.trace_log.specs.Text.{note_of}
use Rattle.equipment_tables.proofs.Notes.{texts_more}
use Rattle.equipment_tables.proofs.answers.note_texts.Goals as goal

pub loop-text-preserved : goal.loop-text-preserved
loop-text-preserved c =
    let text = ap (λ (t : List ℕ). note_of (Display c.args.tid t)) (c.bytes.ensures ∙ c.text-item.is) in
    texts_more c.args.tid c.args.texts.now c.loop-text.text-index _ c.args.notes.now c.loop-text.notes c.push.new.self
    c.in_ok-display_note.field-0 (omega arith) c.loop-text.invariant c.in_ok-push.ensures.ok
    (c.in_ok-display_note.ensures ∙ text)
