-- One gate more is noted at its place; each look is a call of the row.

use Rattle.std.proofs.Common.{◌≡◌, ℕ, ◌+◌, ◌<◌, ◌∙◌, List, length, slice_index, refl, ap, sym, subst, arith}
use Rattle.std.proofs.lemmas.List.{length-set}
use Rattle.disk_base.specs.declared.disk.DiskAnswer.TheVariants.{Done}
use Rattle.spool_slots.specs.Calls.{gate_look, number_place}
use Rattle.spool_slots.proofs.Carrying.{carries_none, one_more_row, rows_to, some_rows}
use Rattle.spool_slots.proofs.Looking.{noted}
use Rattle.spool_slots.proofs.gates.look_at_gates.Goals as goal

pub loop-place-init : goal.loop-place-init
loop-place-init g c =
    (refl, refl, carries_none g.D.Disk c.args.disk.now, refl, λ s told p below. absurd (omega (arith, below)))

pub loop-place-preserved : goal.loop-place-preserved
loop-place-preserved g c =
    let place = c.loop-place.place in
    let number = c.args.number in
    let look = c.in-Is.ensures in
    let before = c.loop-place.invariant in
    let within : place < length c.loop-place.gates = omega (arith, c.loop-place-test.true, c.requires.long, before.3) in (
      look.row.made.size ∙ before.0,
      look.told ∙ before.1,
      one_more_row g.D.Disk (λ p. gate_look c.args.slots (number + p)) c.args.disk.now c.loop-place.disk
          c.look_at_gate.new.disk place Done before.2 look.row,
      ap (length {A = ℕ}) c.note_gate.ensures ∙ length-set c.loop-place.gates place c.in-Is.gate ∙ before.3,
      λ s told p below.
          subst (λ (gates : List ℕ). slice_index gates p ≡ slice_index s.now.bytes (number_place c.args.slots (number + p)))
          (sym c.note_gate.ensures)
          (noted c.loop-place.gates place c.in-Is.gate
          (λ q. slice_index s.now.bytes (number_place c.args.slots (number + q))) within
          (look.seen s (before.1 ∙ told)) (before.4 s told) p below),
    )

pub returns-in-Failed : goal.returns-in-Failed
returns-in-Failed g c =
    let look = c.in-Failed.ensures in
    let before = c.loop-place.invariant in
    record {
      told = look.told ∙ before.1;
      seen = tt;
      row = some_rows g.D.Disk (λ p. gate_look c.args.slots (c.args.number + p)) c.args.disk.now c.loop-place.disk
          c.look_at_gate.new.disk c.loop-place.place c.args.size c.loop-place-test.true before.2 look.row;
    }

pub returns : goal.returns
returns g c =
    let before = c.loop-place.invariant in
    let end : c.loop-place.place ≡ c.args.size = omega (arith, c.loop-place-test.false, c.loop-place.auto.place-end) in
    record {
      told = before.1;
      seen = λ s told p below. before.4 s told p (omega (arith, below, end));
      row = rows_to g.D.Disk (λ p. gate_look c.args.slots (c.args.number + p)) c.args.disk.now c.loop-place.disk
          c.loop-place.place c.args.size end before.2;
    }
