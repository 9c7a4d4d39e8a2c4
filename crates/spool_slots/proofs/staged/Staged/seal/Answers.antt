-- The gate was opened, so the message is on the list; or that failed, and what a crash finds goes by the gate.

use Rattle.std.proofs.Common.{◌==◌, ◌∙◌, Ok, ap, sym, subst}
use Rattle.disk_base.specs.declared.disk.DiskAnswer.TheVariants.{Failed}
use Rattle.spool_file.specs.declared.recovery.Known.{Known}
use Rattle.spool_slots.specs.Changes.{HasSealed, Seals}
use Rattle.spool_slots.specs.Files.{sealed_in}
use Rattle.spool_slots.specs.Losses.{IsSure, LeavesByGate}
use Rattle.spool_slots.specs.Spool.{IsSpool, SpoolView, StagedView, in_hand, next_slot}
use Rattle.spool_slots.proofs.Lasting.{more, seal_does, seal_spool, seals}
use Rattle.spool_slots.proofs.Lost.{seal_loss}
use Rattle.spool_slots.proofs.staged.Staged.seal.Goals as goal

pub taken_up-requires : goal.taken_up-requires
taken_up-requires g c =
    subst (λ (n : Known). IsSpool g.D.Disk (in_hand c.settle_gate.new.disk n)) (sym c.with_one_more.ensures)
    (seal_spool g.D.Disk c.self.inside.disk c.settle_gate.new.disk c.self.inside.known c.self.inside.size
    c.self.invariant c.in-Done.ensures)

pub returns-in-Done : goal.returns-in-Done
returns-in-Done g c =
    let k = c.self.inside.known in
    let size = c.self.inside.size in
    let d = c.self.inside.disk in
    let d' = c.settle_gate.new.disk in
    subst (λ (w : SpoolView g.row.D.Denot). Seals g.D.Disk c.args.self (Ok w))
    (sym (c.taken_up.ensures ∙ ap (λ (n : Known). in_hand d' n) c.with_one_more.ensures))
    (subst (λ (v : StagedView g.row.D.Denot).
    Seals g.D.Disk v (Ok (in_hand d' (more g.D.Disk d d' k size c.self.invariant)))) c.self.view_is
    (seals g.D.Disk d d' k size c.self.invariant c.in-Done.ensures))

pub returns-in-Failed : goal.returns-in-Failed
returns-in-Failed g c =
    let k = c.self.inside.known in
    let size = c.self.inside.size in
    let d = c.self.inside.disk in
    let d' = c.settle_gate.new.disk in
    subst (λ (v : StagedView g.row.D.Denot). HasSealed g.D.Disk v.spool d' Failed
    × (IsSure (g.D.Disk.health v.spool.disk) (g.D.Disk.health d') 2 1 →
    LeavesByGate (g.D.Disk.told v.spool.disk) (g.D.Disk.told d') (λ gate. gate == 90) (sealed_in (next_slot v.spool))))
    c.self.view_is (
      seal_does g.D.Disk d d' k size c.self.invariant Failed c.in-Failed.ensures,
      seal_loss g.D.Disk d d' k size c.self.invariant c.failed_settle_has_written.ensures
          c.cut_leaves_the_chosen_byte.ensures (λ s told. g.met.D.Disk.calls_told d s told) c.in-Failed.ensures,
    )
