-- A 00 where it is open, and else no call.

use Rattle.std.proofs.Common.{Bool, [], ◌∷◌, ◌∙◌, refl, sym, subst}
use Rattle.disk_base.specs.declared.disk.DiskAnswer.TheVariants.{Done}
use Rattle.spool_slots.specs.Calls.{gate_shut, number_place}
use Rattle.spool_slots.specs.Carried.{CarriesOut}
use Rattle.spool_slots.proofs.Carrying.{carries_none, write_as}
use Rattle.spool_slots.proofs.gates.shut_gate.Goals as goal

pub returns-then-is_open : goal.returns-then-is_open
returns-then-is_open g c =
    subst (λ (b : Bool). CarriesOut g.D.Disk c.args.disk.now c.write_at.new.disk (gate_shut c.args.slots c.args.number b)
    c.write_at.result) (sym (sym c.is_open.ensures ∙ c.if-is_open.true))
    (write_as g.D.Disk c.args.disk.now c.write_at.new.disk c.number_place.result
    (number_place c.args.slots c.args.number) (0 ∷ []) (0 ∷ []) c.write_at.result c.number_place.ensures.place refl
    c.write_at.ensures)

pub returns : goal.returns
returns g c =
    subst (λ (b : Bool). CarriesOut g.D.Disk c.args.disk.now c.args.disk.now (gate_shut c.args.slots c.args.number b) Done)
    (sym (sym c.is_open.ensures ∙ c.if-is_open.false)) (carries_none g.D.Disk c.args.disk.now)
