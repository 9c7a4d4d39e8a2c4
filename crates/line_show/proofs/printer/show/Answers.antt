-- The lines by how it ends: with the capture, at a break, for want of memory, or at a write. Past each piece the rest
-- goes on.

use Rattle.std.proofs.Common.{◌∙◌, ◌+◌, length, refl, sym, ap}
use Rattle.std.proofs.lemmas.Bool.{eqb-true}
use Rattle.std.proofs.lemmas.List.{nil_from_length}
use Rattle.line_show.specs.declared.capture.Ending.TheVariants.{Broken, Whole}
use Rattle.line_show.proofs.Showing.{at_memory, past_piece, shown_to_ending, shown_to_fault, shown_to_memory}
use Rattle.line_show.proofs.printer.show.Goals as goal

pub returns-then-is_empty-clause-lines : goal.returns-then-is_empty-clause-lines
returns-then-is_empty-clause-lines g c =
    let rest = c.split_at.result.1.now in
    let none = nil_from_length rest (eqb-true (length rest) 0 (sym c.is_empty.ensures ∙ c.if-is_empty.true)) in
    shown_to_ending _ _ _ _ Whole _ (sym c.split_at.ensures.back ∙ none) c.pieces.invariant c.finish.ensures

pub returns-in-Some-clause-lines : goal.returns-in-Some-clause-lines
returns-in-Some-clause-lines g c =
    shown_to_ending _ _ _ _ (Broken c.in-Some.found) _ c.in-Some.ensures.broken c.pieces.invariant c.finish-in-Some.ensures

pub pieces-preserved : goal.pieces-preserved
pieces-preserved g c =
    past_piece _ _ _ _ _ _ _ _ (c.in-None.ensures.piece refl) c.in-Ok.ensures.met c.in-Ok.ensures.lines
    (ap (λ n. c.pieces.at + n) (c.piece_size-at.ensures.size _)) c.pieces.invariant

pub returns-in-Err-NoMemory-clause-lines : goal.returns-in-Err-NoMemory-clause-lines
returns-in-Err-NoMemory-clause-lines g c =
    shown_to_memory _ _ _ _ _
    (at_memory _ _ _ _ _ _ c.in-Err-NoMemory.field-0 c.pieces.invariant c.in-Err-NoMemory.ensures.lines c.in-Err-NoMemory.field-0-is)
    c.finish-in-Err-NoMemory.ensures

pub returns-in-Err-WriteFailed-clause-lines : goal.returns-in-Err-WriteFailed-clause-lines
returns-in-Err-WriteFailed-clause-lines g c =
    shown_to_fault _ _ _ _ _ _ c.in-Err-WriteFailed.field-0 c.pieces.invariant c.in-Err-WriteFailed.ensures.lines c.in-Err-WriteFailed.field-0-is
    (c.in-None.ensures.piece refl)
