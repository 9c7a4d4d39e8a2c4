-- The byte that was read is the gate.

use Rattle.std.proofs.Common.{ℕ, [], ◌∷◌, arith, subst}
use Rattle.disk_base.specs.Calls.{read_call}
use Rattle.disk_base.specs.declared.disk.DiskAnswer.TheVariants.{Done, Failed}
use Rattle.spool_slots.specs.Carried.{CarriesOut}
use Rattle.spool_slots.proofs.Looking.{first_byte}
use Rattle.spool_slots.proofs.gates.look_at_gate.Goals as goal

pub returns-in-Failed : goal.returns-in-Failed
returns-in-Failed g c = record {
  told = c.in-Failed.ensures.told;
  seen = tt;
  row = subst (λ (at : ℕ). CarriesOut g.D.Disk c.args.disk.now c.read_at.new.disk (read_call at 1 Done ∷ []) Failed)
      c.number_place.ensures.place c.in-Failed.ensures.row;
}

pub returns-in-Done : goal.returns-in-Done
returns-in-Done g c = record {
  told = c.in-Done.ensures.told;
  seen = λ s told. first_byte s.now.bytes c.read_at.new.into c.number_place.result _ c.number_place.ensures.place
      (c.in-Done.ensures.bytes s told) (omega (arith, c.read_at.auto.into));
  row = subst (λ (at : ℕ). CarriesOut g.D.Disk c.args.disk.now c.read_at.new.disk (read_call at 1 Done ∷ []) Done)
      c.number_place.ensures.place c.in-Done.ensures.row;
}
