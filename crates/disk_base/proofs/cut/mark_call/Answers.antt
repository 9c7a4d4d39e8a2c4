-- A part of the marks is marked, and so it is among all marks.

use Rattle.std.proofs.Common.{◌≡◌, ℕ, ◌+◌, ◌-◌, ◌≤◌, ◌∙◌, true, List, Bool, length, replicate, ap, sym, subst, arith}
use Rattle.std.proofs.lemmas.List.{length-replicate}
use Rattle.disk_base.specs.Cut.{marks_at, marks_of}
use Rattle.disk_base.specs.Log.{IsHeld, loose_under}
use Rattle.disk_base.specs.Story.{with_part}
use Rattle.disk_base.specs.declared.disk.CallKind.{CallKind}
use Rattle.disk_base.specs.declared.disk.CallKind.TheVariants.{Write}
use Rattle.disk_base.proofs.Around.{part_of_marks}
use Rattle.disk_base.proofs.cut.mark_call.Goals as goal

pub returns-in-Write-clause-marks : goal.returns-in-Write-clause-marks
returns-in-Write-clause-marks c = λ size loose within are.
    let from = c.args.from in
    let at = c.args.at in
    let marks = c.args.marks.now in
    let part = replicate c.args.count true in
    let held : IsHeld from (from + length marks) Write at c.args.count =
    subst (λ (kind : CallKind). IsHeld from (from + length marks) kind at c.args.count) c.in-Write.is c.requires in
    let fits : (at - from) + length part ≤ length marks =
    omega (arith, held.0, held.1, length-replicate c.args.count true) in
    let here : from + (at - from) ≡ at = omega (arith, held.0) in
    ap (λ (ms : List Bool). marks_at size from ms) c.mark_part.ensures.marks
    ∙ part_of_marks size from marks part (at - from) fits
    ∙ ap (λ (n : ℕ). with_part (marks_at size from marks) n part) here
    ∙ ap (λ (ms : List Bool). with_part ms at part) are
    ∙ ap (λ (kind : CallKind). marks_of size (loose_under kind at c.args.count loose)) (sym c.in-Write.is)
