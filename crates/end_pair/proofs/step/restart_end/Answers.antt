-- The lines of a restart, whole or in part: that of the lost power, and then those of the start.

use Rattle.std.proofs.Common.{◌≡◌, ◌++◌, false, List, Err, subst}
use Rattle.std.specs.List.{flat_map}
use Rattle.message_end.specs.Core.{step_in}
use Rattle.message_end.specs.Ends.{Leaves}
use Rattle.message_end.specs.declared.end.Stop.{Stop}
use Rattle.message_flow.specs.declared.step.Note.{Note}
use Rattle.trace_log.specs.Text.{note_line}
use Rattle.end_pair.specs.Kept.{PutPart, Puts}
use Rattle.end_pair.specs.declared.answers.WorldStep.TheVariants as answer
use Rattle.end_pair.proofs.Restarting.{again_goes, again_part, again_spent, power_first, power_none}
use Rattle.end_pair.proofs.step.restart_end.Goals as goal

pub returns-in_default-clause-lines : goal.returns-in_default-clause-lines
returns-in_default-clause-lines g c =
    power_none c.notes_are_lines.ensures c.args.side c.args.now
    (step_in (g.E.End.anew c.args.end.now c.args.choice c.args.now)).notes c.args.lines.now c.put_power.new.lines
    c.in_default.ensures.err

pub returns-in-Err-NumbersSpent-clause-lines : goal.returns-in-Err-NumbersSpent-clause-lines
returns-in-Err-NumbersSpent-clause-lines g c =
    let e = g.E.End in
    let went = e.anew c.args.end.now c.args.choice c.args.now in
    again_spent c.notes_are_lines.ensures c.args.side c.args.now went c.restart.new.out c.args.lines.now c.put_power.new.lines
    c.put_spent.new.lines c.in-Ok.ensures.ok
    (subst
    (λ (why : Stop). Leaves e.machine.start_stops false went (e.means c.restart.new.self) c.restart.new.out (Err why))
    c.in-Err-NumbersSpent.field-0-is c.in-Err-NumbersSpent.ensures.start).0
    c.put_spent.result
    (subst (λ (notes : List Note).
    Puts answer.NumbersSpent (flat_map (note_line c.args.now c.args.side) notes) c.put_power.new.lines
    c.put_spent.new.lines c.put_spent.result)
    c.as_slice.ensures c.put_spent.ensures.puts)

pub returns-in-Err-NoMemory-clause-lines : goal.returns-in-Err-NoMemory-clause-lines
returns-in-Err-NoMemory-clause-lines g c =
    power_first c.notes_are_lines.ensures c.args.side c.args.now
    (step_in (g.E.End.anew c.args.end.now c.args.choice c.args.now)).notes c.args.lines.now c.put_power.new.lines
    c.in-Ok.ensures.ok

pub returns-in_default-put_notes-clause-lines : goal.returns-in_default-put_notes-clause-lines
returns-in_default-put_notes-clause-lines g c =
    let e = g.E.End in
    again_part c.notes_are_lines.ensures c.args.side c.args.now (e.anew c.args.end.now c.args.choice c.args.now) c.restart.new.out
    c.args.lines.now c.put_power.new.lines c.put_notes.new.lines c.in-Ok.ensures.ok (e.means c.restart.new.self)
    c.in-Ok-restart.ensures.start
    (subst (λ (notes : List Note).
    PutPart (flat_map (note_line c.args.now c.args.side) notes) c.put_power.new.lines c.put_notes.new.lines)
    c.as_slice-2.ensures c.in_default-put_notes.ensures.err)

pub returns-clause-lines : goal.returns-clause-lines
returns-clause-lines g c =
    let e = g.E.End in
    again_goes c.notes_are_lines.ensures c.args.side c.args.now (e.anew c.args.end.now c.args.choice c.args.now) c.restart.new.out
    c.args.lines.now c.put_power.new.lines c.put_notes.new.lines c.in-Ok.ensures.ok (e.means c.restart.new.self)
    c.in-Ok-restart.ensures.start
    (subst (λ (notes : List Note).
    c.put_notes.new.lines ≡ c.put_power.new.lines ++ flat_map (note_line c.args.now c.args.side) notes)
    c.as_slice-2.ensures c.in-Ok-put_notes.ensures.ok)
