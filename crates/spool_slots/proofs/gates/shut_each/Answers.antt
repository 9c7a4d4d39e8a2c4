-- Each step has its calls.

use Rattle.std.proofs.Common.{◌≡◌, ℕ, ◌+◌, ◌∙◌, refl, subst, arith}
use Rattle.disk_base.specs.declared.disk.DiskAnswer.TheVariants.{Done, Failed}
use Rattle.spool_slots.specs.Calls.{gate_shut}
use Rattle.spool_slots.specs.Carried.{CarriesOut}
use Rattle.spool_slots.specs.Losses.{opens}
use Rattle.spool_slots.specs.Put.{shut_step}
use Rattle.spool_slots.proofs.Carrying.{carries_none, one_more_row, rows_to, some_rows}
use Rattle.spool_slots.proofs.gates.shut_each.Goals as goal

pub loop-place-init : goal.loop-place-init
loop-place-init g c = (refl, carries_none g.D.Disk c.args.disk.now)

pub loop-place-preserved : goal.loop-place-preserved
loop-place-preserved g c =
    let place = c.loop-place.place in
    let step = subst (λ (gate : ℕ). CarriesOut g.D.Disk c.loop-place.disk c.shut_gate.new.disk
    (gate_shut c.args.slots (c.args.number + place) (opens gate)) Done) c.gate_at.ensures c.in-Done.ensures in (
      step.made.size ∙ c.loop-place.invariant.0,
      one_more_row g.D.Disk (shut_step c.args.slots c.args.number c.args.gates.now) c.args.disk.now c.loop-place.disk
          c.shut_gate.new.disk place Done c.loop-place.invariant.1 step,
    )

pub returns-in-Failed : goal.returns-in-Failed
returns-in-Failed g c =
    let place = c.loop-place.place in
    some_rows g.D.Disk (shut_step c.args.slots c.args.number c.args.gates.now) c.args.disk.now c.loop-place.disk
    c.shut_gate.new.disk place c.args.size c.loop-place-test.true c.loop-place.invariant.1
    (subst (λ (gate : ℕ). CarriesOut g.D.Disk c.loop-place.disk c.shut_gate.new.disk
    (gate_shut c.args.slots (c.args.number + place) (opens gate)) Failed) c.gate_at.ensures c.in-Failed.ensures)

pub returns : goal.returns
returns g c =
    let end : c.loop-place.place ≡ c.args.size = omega (arith, c.loop-place-test.false, c.loop-place.auto.place-end) in
    rows_to g.D.Disk (shut_step c.args.slots c.args.number c.args.gates.now) c.args.disk.now c.loop-place.disk
    c.loop-place.place c.args.size end c.loop-place.invariant.1
