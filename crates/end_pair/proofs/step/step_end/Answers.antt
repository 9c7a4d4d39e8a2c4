-- A step by how it ends: whole, for want of memory, or at a call of its disk.

use Rattle.std.proofs.Common.{◌≡◌, ◌∙◌, Bool, false, List, Err, subst, sym}
use Rattle.std.specs.List.{flat_map}
use Rattle.message_end.specs.Ends.{EndsBy, HasStoppedAt, input_of, passing}
use Rattle.message_end.specs.declared.end.Stop.{Stop}
use Rattle.message_flow.specs.declared.step.Note.{Note}
use Rattle.trace_log.specs.Text.{note_line}
use Rattle.end_pair.specs.Kept.{Puts}
use Rattle.end_pair.specs.Steps.{stepped, stopped_for}
use Rattle.end_pair.proofs.Stepping.{part_step, reach_left, slips_not, stop_left, stop_never, stop_step, stop_ways}
use Rattle.end_pair.proofs.Stepping.{uncut_going, whole_step}
use Rattle.end_pair.proofs.step.step_end.Goals as goal

pub returns-in_default-clause-lines : goal.returns-in_default-clause-lines
returns-in_default-clause-lines g c = λ choice.
    let e = g.E.End in
    part_step e.machine c.args.side c.args.now (e.reach c.args.end.now) choice (input_of c.args.input)
    (e.means c.args.end.now) c.args.ways.now c.notes_are_lines.ensures
    (slips_not e.machine c.args.side c.args.now (e.reach c.args.end.now) choice (input_of c.args.input)
    (e.means c.args.end.now) c.args.ways.now _ c.is_character-gives.ensures c.in-None.ensures)
    (e.reach c.step.new.self) c.in-Ok.ensures.ends.0 c.step.new.out (e.means c.step.new.self) c.in-Ok.ensures.step
    c.args.lines.now
    c.put_step.new.lines c.in_default.ensures.err

pub returns-in-Ok-step-clause-lines : goal.returns-in-Ok-step-clause-lines
returns-in-Ok-step-clause-lines g c = λ choice.
    let e = g.E.End in
    (whole_step e.machine c.args.side c.args.now (e.reach c.args.end.now) choice
    (input_of c.args.input) (e.means c.args.end.now) c.args.ways.now c.notes_are_lines.ensures
    (slips_not e.machine c.args.side c.args.now (e.reach c.args.end.now) choice (input_of c.args.input)
    (e.means c.args.end.now) c.args.ways.now _ c.is_character-gives.ensures c.in-None.ensures)
    (e.reach c.step.new.self) c.in-Ok.ensures.ends.0 c.step.new.out (e.means c.step.new.self) c.in-Ok.ensures.step
    c.args.lines.now
    c.put_step.new.lines c.in-Ok-put_step.ensures.ok).0

pub returns-in-Ok-step-clause-reach : goal.returns-in-Ok-step-clause-reach
returns-in-Ok-step-clause-reach g c = λ choice.
    let e = g.E.End in
    reach_left e.machine c.args.side c.args.now (e.reach c.args.end.now) choice (input_of c.args.input)
    (e.means c.args.end.now) c.args.ways.now
    (slips_not e.machine c.args.side c.args.now (e.reach c.args.end.now) choice (input_of c.args.input)
    (e.means c.args.end.now) c.args.ways.now _ c.is_character-gives.ensures c.in-None.ensures)
    (e.reach c.step.new.self) c.in-Ok.ensures.ends.0

pub returns-clause-lines : goal.returns-clause-lines
returns-clause-lines g c = λ choice.
    let e = g.E.End in
    (whole_step e.machine c.args.side c.args.now (e.reach c.args.end.now) choice
    (input_of c.args.input) (e.means c.args.end.now) c.args.ways.now c.notes_are_lines.ensures
    (slips_not e.machine c.args.side c.args.now (e.reach c.args.end.now) choice (input_of c.args.input)
    (e.means c.args.end.now) c.args.ways.now _ c.is_character-gives.ensures c.in-None.ensures)
    (e.reach c.step.new.self) c.in-Ok.ensures.ends.0 c.step.new.out (e.means c.step.new.self) c.in-Ok.ensures.step
    c.args.lines.now
    c.put_step.new.lines c.in-Ok-put_step.ensures.ok).1

pub returns-in-Err-DiskFailed-clause-lines : goal.returns-in-Err-DiskFailed-clause-lines
returns-in-Err-DiskFailed-clause-lines g c = λ choice.
    let e = g.E.End in
    let losses = e.machine.losses (e.means c.args.end.now) (input_of c.args.input) c.args.now in
    let none = slips_not e.machine c.args.side c.args.now (e.reach c.args.end.now) choice
    (input_of c.args.input) (e.means c.args.end.now) c.args.ways.now _ c.is_character-gives.ensures c.in-None.ensures in
    let stopped =
    subst (λ (is_lost : Bool).
    HasStoppedAt e.machine (passing (e.reach c.args.end.now) losses) is_lost (e.anew c.step.new.self) c.step.new.out)
    (sym c.has_stopped-is_lost.ensures)
    (subst (λ (why : Stop). EndsBy e.machine losses (e.reach c.args.end.now) (e.reach c.step.new.self)
    (e.stopped c.step.new.self) (e.anew c.step.new.self) c.step.new.out (Err why))
    c.in-Err-DiskFailed.field-0-is c.in-Err-DiskFailed.ensures.ends)
    in
    stop_step e.machine c.args.side c.args.now (e.reach c.args.end.now) choice (input_of c.args.input)
    (e.means c.args.end.now) c.args.ways.now c.notes_are_lines.ensures none c.has_stopped-is_lost.result
    (e.anew c.step.new.self) c.step.new.out stopped
    c.args.lines.now c.put_stopped.new.lines c.put_stopped.result
    (subst (λ (notes : List Note).
    Puts (stopped_for c.args.side c.has_stopped-is_lost.result) (flat_map (note_line c.args.now c.args.side) notes)
    c.args.lines.now c.put_stopped.new.lines c.put_stopped.result)
    c.as_slice-in-Err-DiskFailed.ensures c.put_stopped.ensures.puts)

pub returns-in-Err-DiskFailed-clause-end : goal.returns-in-Err-DiskFailed-clause-end
returns-in-Err-DiskFailed-clause-end g c = λ choice.
    let e = g.E.End in
    let losses = e.machine.losses (e.means c.args.end.now) (input_of c.args.input) c.args.now in
    let none = slips_not e.machine c.args.side c.args.now (e.reach c.args.end.now) choice
    (input_of c.args.input) (e.means c.args.end.now) c.args.ways.now _ c.is_character-gives.ensures c.in-None.ensures in
    let stopped =
    subst (λ (is_lost : Bool).
    HasStoppedAt e.machine (passing (e.reach c.args.end.now) losses) is_lost (e.anew c.step.new.self) c.step.new.out)
    (sym c.has_stopped-is_lost.ensures)
    (subst (λ (why : Stop). EndsBy e.machine losses (e.reach c.args.end.now) (e.reach c.step.new.self)
    (e.stopped c.step.new.self) (e.anew c.step.new.self) c.step.new.out (Err why))
    c.in-Err-DiskFailed.field-0-is c.in-Err-DiskFailed.ensures.ends)
    in
    stop_left e.machine c.args.side c.args.now (e.reach c.args.end.now) choice (input_of c.args.input)
    (e.means c.args.end.now) c.args.ways.now none c.has_stopped-is_lost.result (e.anew c.step.new.self) c.step.new.out
    (e.means c.step.new.self
    ≡ (stepped e.machine c.args.side c.args.now (e.reach c.args.end.now) choice
    (input_of c.args.input) (e.means c.args.end.now) c.args.ways.now).end)
    _ c.args.lines.now c.put_stopped.new.lines stopped c.put_stopped.result c.put_stopped.ensures.puts

pub returns-in-Err-DiskFailed-clause-ways : goal.returns-in-Err-DiskFailed-clause-ways
returns-in-Err-DiskFailed-clause-ways g c = λ choice.
    let e = g.E.End in
    let losses = e.machine.losses (e.means c.args.end.now) (input_of c.args.input) c.args.now in
    let none = slips_not e.machine c.args.side c.args.now (e.reach c.args.end.now) choice
    (input_of c.args.input) (e.means c.args.end.now) c.args.ways.now _ c.is_character-gives.ensures c.in-None.ensures in
    let stopped =
    subst (λ (is_lost : Bool).
    HasStoppedAt e.machine (passing (e.reach c.args.end.now) losses) is_lost (e.anew c.step.new.self) c.step.new.out)
    (sym c.has_stopped-is_lost.ensures)
    (subst (λ (why : Stop). EndsBy e.machine losses (e.reach c.args.end.now) (e.reach c.step.new.self)
    (e.stopped c.step.new.self) (e.anew c.step.new.self) c.step.new.out (Err why))
    c.in-Err-DiskFailed.field-0-is c.in-Err-DiskFailed.ensures.ends)
    in
    stop_ways e.machine c.args.side c.args.now (e.reach c.args.end.now) choice (input_of c.args.input)
    (e.means c.args.end.now) c.args.ways.now none c.has_stopped-is_lost.result (e.anew c.step.new.self) c.step.new.out
    stopped c.put_stopped.result

pub returns-in-Err-DiskFailed-clause-reach : goal.returns-in-Err-DiskFailed-clause-reach
returns-in-Err-DiskFailed-clause-reach g c = λ choice.
    let e = g.E.End in
    stop_never c.args.side c.has_stopped-is_lost.result
    (e.reach c.step.new.self
    ≡ (stepped e.machine c.args.side c.args.now (e.reach c.args.end.now) choice (input_of c.args.input)
    (e.means c.args.end.now) c.args.ways.now).reach)
    _ c.args.lines.now c.put_stopped.new.lines c.put_stopped.result c.put_stopped.ensures.puts

pub returns-in-Err-DiskFailed-clause-going : goal.returns-in-Err-DiskFailed-clause-going
returns-in-Err-DiskFailed-clause-going g c =
    stop_never c.args.side c.has_stopped-is_lost.result (g.E.End.stopped c.step.new.self ≡ false) _ c.args.lines.now
    c.put_stopped.new.lines c.put_stopped.result c.put_stopped.ensures.puts

pub returns-in-Err-DiskFailed-clause-powered : goal.returns-in-Err-DiskFailed-clause-powered
returns-in-Err-DiskFailed-clause-powered g c = λ uncut.
    let e = g.E.End in
    let losses = e.machine.losses (e.means c.args.end.now) (input_of c.args.input) c.args.now in
    let stopped =
    subst (λ (why : Stop). EndsBy e.machine losses (e.reach c.args.end.now) (e.reach c.step.new.self)
    (e.stopped c.step.new.self) (e.anew c.step.new.self) c.step.new.out (Err why))
    c.in-Err-DiskFailed.field-0-is c.in-Err-DiskFailed.ensures.ends
    in
    c.put_stopped.ensures.powered
    (c.has_stopped-is_lost.ensures
    ∙ uncut_going e.machine (e.reach c.args.end.now) losses uncut (e.stopped c.step.new.self)
    (e.anew c.step.new.self) c.step.new.out stopped)
