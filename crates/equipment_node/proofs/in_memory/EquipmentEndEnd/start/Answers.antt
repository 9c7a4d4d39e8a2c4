use Rattle.std.proofs.Common.{ap, refl, subst, sym, ◌∙◌, ◌++◌}
use Rattle.std.specs.Prelude.{Err}
use Rattle.disk_base.specs.contracts.mem_disk.MemDiskDisk.TheImpl.{ghosts}
use Rattle.gem_spool.specs.Standing.{standing_of}
use Rattle.spool_file.specs.Format.{empty_file}
use Rattle.message_end.specs.declared.end.Stop.{Stop}
use Rattle.message_end.specs.Parts.{Node}
use Rattle.message_end.specs.Ends.{IsNotStopped}
use Rattle.equipment_node.specs.declared.in_memory.EquipmentEnd.{EquipmentEnd}
use Rattle.tool_step.specs.declared.kind.Kind.{Kind}
use Rattle.tool_step.specs.Equipment.{started_on}
use Rattle.tool_step.specs.Own.{OwnView}
use Rattle.equipment_node.specs.MadeReady.{ready_calls}
use Rattle.equipment_node.specs.StartCalls.{reserve_calls}
use Rattle.equipment_node.specs.StartOver.{IsFresh}
use Rattle.equipment_node.specs.StartSetup.{setup_looks}
use Rattle.equipment_node.proofs.FromDisk.{bounded-by, first-reach, seated-power, start-file-is}
use Rattle.equipment_node.proofs.Seated.{start-gone, start-in, start-whole, started-ends}
use Rattle.equipment_node.proofs.StartOffering.{offers-none}
use Rattle.equipment_node.proofs.in_memory.EquipmentEndEnd.start.Goals as goal

pub returns-in-Ok-start_over-clause-start : goal.returns-in-Ok-start_over-clause-start
returns-in-Ok-start_over-clause-start c =
    let store = c.args.store in
    start-gone ghosts c.args.plan.now c.requires.plan (standing_of ghosts store).file c.in-Ok-start_over.equipment
    c.start_over.new.out
    (c.in-Ok-start_over.ensures.starts (record { told = (store.disk.story, refl); first = c.requires.store.first })).1

pub returns-in-Ok-start_over-clause-reach : goal.returns-in-Ok-start_over-clause-reach
returns-in-Ok-start_over-clause-reach c =
    let store = c.args.store in
    let h = c.in-Ok-start_over.equipment in
    let file = (standing_of ghosts store).file in
    let fresh : IsFresh ghosts store = record { told = (store.disk.story, refl); first = c.requires.store.first } in
    let started = (c.in-Ok-start_over.ensures.starts fresh).1 in
    first-reach h
    (start-in ghosts c.args.plan.now c.requires.plan file h c.start_over.new.out started c.requires.store.can
    (offers-none h.keeper))
    (c.in-Ok-start_over.ensures.keeps c.requires.store.sure) store.disk file c.requires.store.version
    (c.in-Ok-start_over.ensures.calls fresh) c.requires.store.bounded c.requires.store.asked
    (start-file-is c.args.plan.now file h c.start_over.new.out started)

pub returns-in-Ok-start_over-clause-sound : goal.returns-in-Ok-start_over-clause-sound
returns-in-Ok-start_over-clause-sound c =
    let store = c.args.store in
    let h = c.in-Ok-start_over.equipment in
    let file = (standing_of ghosts store).file in
    let fresh : IsFresh ghosts store = record { told = (store.disk.story, refl); first = c.requires.store.first } in
    let started = (c.in-Ok-start_over.ensures.starts fresh).1 in
    seated-power h
    (start-in ghosts c.args.plan.now c.requires.plan file h c.start_over.new.out started c.requires.store.can
    (offers-none h.keeper))
    (c.in-Ok-start_over.ensures.keeps c.requires.store.sure) c.of.result
    (bounded-by store.disk h.spool.spool.disk ((setup_looks file ++ ready_calls file) ++ reserve_calls file)
    (c.in-Ok-start_over.ensures.calls fresh) c.requires.store.bounded)
    c.stops_in.ensures.fitted
    (ap (λ (n : Node OwnView Kind). n.own.plan) started.node_is ∙ sym (c.of.ensures ∙ c.in-Ok.ensures))

pub returns-in-Err-clause-start : goal.returns-in-Err-clause-start
returns-in-Err-clause-start c =
    let store = c.args.store in
    started-ends ghosts c.args.plan.now c.start_over.new.out {E = EquipmentEnd} store.disk (standing_of ghosts store).file
    (λ end. (started_on c.args.plan.now (empty_file 0)).next) c.in-Err.why
    (c.in-Err.ensures.starts (record { told = (store.disk.story, refl); first = c.requires.store.first }))
    c.stop_at_start.result c.stop_at_start.ensures

pub returns-in-Err-clause-whole : goal.returns-in-Err-clause-whole
returns-in-Err-clause-whole c =
    subst (λ (e : Stop). IsNotStopped {R = EquipmentEnd} (Err e)) (sym c.stop_at_start.ensures)
    (start-whole EquipmentEnd c.in-Err.why)
