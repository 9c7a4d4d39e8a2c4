-- Bytes of the area were written, or that failed: the list stands at every moment.

use Rattle.std.proofs.Common.{◌+◌, ℕ, Ok, subst, sym}
use Rattle.disk_base.specs.declared.disk.DiskAnswer.TheVariants.{Done, Failed}
use Rattle.spool_slots.specs.Changes.{HasSettled}
use Rattle.spool_slots.specs.Setup.{HasWritten, WritesArea}
use Rattle.spool_slots.specs.Spool.{SpoolView, in_hand}
use Rattle.spool_slots.proofs.Setups.{has_known, writes, written, written_spool}
use Rattle.spool_slots.proofs.spool.Spool.write_area.Goals as goal

pub taken_up-requires : goal.taken_up-requires
taken_up-requires g c =
    let k = c.self.inside.known in
    let d = c.self.inside.disk in
    let d' = c.settle.new.disk in
    written_spool g.D.Disk d d' k c.self.invariant (λ s told. g.met.D.Disk.sized d s told)
    (has_known g.D.Disk c.args.self d k c.self.view_is c.requires.area) c.args.at c.args.bytes.now c.requires.within
    (subst (λ (n : ℕ). HasSettled g.D.Disk d d' (n + c.args.at) c.args.bytes.now Done) c.slot_place.ensures (record {
      told = c.in-Done.ensures.told;
      size = c.in-Done.ensures.size;
      calls = c.in-Done.ensures.calls;
      listed = λ going. c.in-Done.ensures.listed going;
      cause = c.in-Done.ensures.cause;
      same_disk = c.in-Done.ensures.same_disk;
    }))

pub returns-in-Done : goal.returns-in-Done
returns-in-Done g c =
    let k = c.self.inside.known in
    let d = c.self.inside.disk in
    let d' = c.settle.new.disk in
    subst (λ (w : SpoolView g.row.D.Denot). WritesArea g.D.Disk c.args.self c.args.at c.args.bytes.now (Ok w))
    (sym c.taken_up.ensures)
    (subst (λ (v : SpoolView g.row.D.Denot). WritesArea g.D.Disk v c.args.at c.args.bytes.now (Ok (in_hand d' k)))
    c.self.view_is
    (writes g.D.Disk d d' k c.self.invariant (λ s told. g.met.D.Disk.sized d s told)
    (has_known g.D.Disk c.args.self d k c.self.view_is c.requires.area) c.args.at c.args.bytes.now c.requires.within
    (subst (λ (n : ℕ). HasSettled g.D.Disk d d' (n + c.args.at) c.args.bytes.now Done) c.slot_place.ensures (record {
      told = c.in-Done.ensures.told;
      size = c.in-Done.ensures.size;
      calls = c.in-Done.ensures.calls;
      listed = λ going. c.in-Done.ensures.listed going;
      cause = c.in-Done.ensures.cause;
      same_disk = c.in-Done.ensures.same_disk;
    }))))

pub returns-in-Failed : goal.returns-in-Failed
returns-in-Failed g c =
    let k = c.self.inside.known in
    let d = c.self.inside.disk in
    let d' = c.settle.new.disk in
    subst (λ (v : SpoolView g.row.D.Denot). HasWritten g.D.Disk v d' c.args.at c.args.bytes.now Failed) c.self.view_is
    (written g.D.Disk d d' k c.self.invariant (λ s told. g.met.D.Disk.sized d s told)
    (has_known g.D.Disk c.args.self d k c.self.view_is c.requires.area) c.args.at c.args.bytes.now c.requires.within
    Failed
    (subst (λ (n : ℕ). HasSettled g.D.Disk d d' (n + c.args.at) c.args.bytes.now Failed) c.slot_place.ensures (record {
      told = c.in-Failed.ensures.told;
      size = c.in-Failed.ensures.size;
      calls = c.in-Failed.ensures.calls;
      listed = λ going. c.in-Failed.ensures.listed going;
      cause = c.in-Failed.ensures.cause;
      same_disk = c.in-Failed.ensures.same_disk;
    })))
