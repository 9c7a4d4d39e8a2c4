use Rattle.std.proofs.Common.{List, [], ◌∷◌, ◌++◌, append_assoc, ap, ◌∙◌}
use Rattle.message_flow.specs.declared.step.Note.{Note}
use Rattle.spool_law.specs.Listing.{record_of}
use Rattle.trace_log.specs.Log.Happening.{Listing}
use Rattle.trace_log.specs.Text.{note_of}
use Rattle.journal_node.proofs.disk_step.note_both.Goals as goal

pub returns-clause-notes : goal.returns-clause-notes
returns-clause-notes c =
    let one = c.in_ok-listing_note.field-0 in
    let two = c.in_ok-listed_note.field-0 in
    let message = c.args.message.now in
    c.in_ok-push-2.ensures.ok
    ∙ ap (λ (notes : List Note). notes ++ two ∷ []) c.in_ok-push.ensures.ok
    ∙ append_assoc c.args.out.now.notes (one ∷ []) (two ∷ [])
    ∙ ap (λ (note : Note). c.args.out.now.notes ++ note ∷ two ∷ [])
    (c.in_ok-listing_note.ensures message.system message.body)
    ∙ ap
    (λ (note : Note). c.args.out.now.notes ++ note_of (Listing c.args.number (record_of message)) ∷ note ∷ [])
    (c.in_ok-listed_note.ensures (record_of message))
