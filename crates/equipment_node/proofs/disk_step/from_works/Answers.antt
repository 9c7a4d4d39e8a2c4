use Rattle.std.proofs.Common.{[], ap, sym}
use Rattle.std.specs.Prelude.{Ok, Err}
use Rattle.tool_core.specs.Node.{node_of, own_of}
use Rattle.tool_step.specs.Equipment.{EquipmentView, begun_step, kept_step, settled_step}
use Rattle.tool_step.specs.Setup.{to_keep}
use Rattle.equipment_node.specs.Amid.{disk_worked, opened}
use Rattle.message_end.specs.Core.{Went, step_in}
use Rattle.trace_log.specs.Log.{Happening}
use Rattle.tool_step.specs.Losses.{losses_of}
use Rattle.spool_works.specs.DiskCalls.{disk_in}
use Rattle.tool_step.specs.Disk.{standing_in, works_behind}
use Rattle.equipment_node.proofs.HandingBack.{worked-then, works-back}
use Rattle.equipment_node.proofs.Offering.{offers-then, settled-offers}
use Rattle.equipment_node.proofs.OverDisk.{area-kept, at-settled, carry-failed, ends-acts}
use Rattle.equipment_node.proofs.Readying.{settled-owes, settled-ready}
use Rattle.equipment_node.proofs.StepCalls.{behind-called, behind-stops, ended-called}
use Rattle.equipment_node.proofs.StepBreaks.{behind-breaks, behind-broken, ended-breaks}
use Rattle.equipment_node.proofs.Working.{works-so}
use Rattle.equipment_node.proofs.disk_step.from_works.Goals as goal

pub carry_out-requires : goal.carry_out-requires
carry_out-requires g c = record { counted = c.requires.ready.counted; holds = c.requires.ready.holds }

pub from_read-requires : goal.from_read-requires
from_read-requires g c = record {
  ready =
      settled-ready g.D.Disk c.args.spool c.in-Ok.spool (to_keep (node_of c.args.tool.now).own)
      (node_of c.args.tool.now) (node_of c.carry_out.new.tool) c.requires.ready c.in-Ok.ensures.node c.in-Ok.ensures.fit
      c.in-Ok.ensures.works.0 c.in-Ok.ensures.holds;
  owes = settled-owes (node_of c.args.tool.now) (node_of c.carry_out.new.tool) c.in-Ok.ensures.node;
}

pub returns-in-Ok-clause-acts : goal.returns-in-Ok-clause-acts
returns-in-Ok-clause-acts g c s input now begun begin =
    works-so g.D.Disk s input now (kept_step (settled_step begun.step)) (node_of c.from_read.new.tool)
    c.carry_out.new.out c.from_read.result begun.recipes
    (sym (ap (λ (w : Went EquipmentView Happening). (step_in w).next.node.own.owed) begun.is))
    (ends-acts g.D.Disk s input now begin.went c.args.spool (node_of c.args.tool.now) c.args.out.now begun
    begin.clear begin.told c.requires.ready.counted c.in-Ok.ensures.fit)
    (c.from_read.ensures.reads (kept_step (settled_step begun.step)) c.carry_out.new.out now
    (at-settled g.D.Disk s input now begin.went c.args.spool (node_of c.args.tool.now) c.args.out.now begun
    begin.clear begin.told c.requires.ready.counted c.in-Ok.ensures.fit c.in-Ok.spool (node_of c.carry_out.new.tool)
    c.carry_out.new.out
    (area-kept g.D.Disk s input now (node_of c.args.tool.now) c.args.out.now begun begin.area)
    c.in-Ok.ensures.works.0 c.in-Ok.ensures.node c.in-Ok.ensures.works.1))

pub returns-in-Err-clause-acts : goal.returns-in-Err-clause-acts
returns-in-Err-clause-acts g c s input now begun begin =
    carry-failed g.D.Disk s input now begin.went c.args.spool (node_of c.args.tool.now) c.args.out.now begun
    begin.clear begin.told c.requires.ready.counted c.in-Err.ensures.fit (node_of c.carry_out.new.tool)
    c.carry_out.new.out c.in-Err.ended c.in-Err.ensures.works

pub returns-in-Ok-clause-calls : goal.returns-in-Ok-clause-calls
returns-in-Ok-clause-calls g c s input now begun begin =
    let area = area-kept g.D.Disk s input now (node_of c.args.tool.now) c.args.out.now begun begin.area in
    behind-called g.D.Disk s input now c.args.spool begin.clear begin.told disk_worked begin.went c.in-Ok.spool
    (node_of c.args.tool.now) c.args.out.now begun c.from_read.result c.requires.ready.counted c.in-Ok.ensures.fit area
    c.in-Ok.ensures.works.0
    (c.from_read.ensures.calls (kept_step (settled_step begun.step)) c.carry_out.new.out
    (at-settled g.D.Disk s input now begin.went c.args.spool (node_of c.args.tool.now) c.args.out.now begun
    begin.clear begin.told c.requires.ready.counted c.in-Ok.ensures.fit c.in-Ok.spool (node_of c.carry_out.new.tool)
    c.carry_out.new.out area c.in-Ok.ensures.works.0 c.in-Ok.ensures.node c.in-Ok.ensures.works.1))

pub returns-in-Err-clause-calls : goal.returns-in-Err-clause-calls
returns-in-Err-clause-calls g c s input now begun begin =
    ended-called g.D.Disk disk_in disk_worked c.args.spool.spool.disk (standing_in (opened s))
    (works_behind (begun_step s input now)) c.in-Err.ended
    (behind-stops g.D.Disk s input now c.args.spool begin.clear begin.told (node_of c.args.tool.now)
    c.args.out.now c.carry_out.new.out begun c.in-Err.ended c.requires.ready.counted c.in-Err.ensures.fit
    c.in-Err.ensures.works)

pub returns-in-Ok-clause-disk : goal.returns-in-Ok-clause-disk
returns-in-Ok-clause-disk g c =
    worked-then g.D.Disk c.args.spool.spool.disk c.in-Ok.spool.spool.disk c.from_read.result
    (works-back g.D.Disk c.args.spool _ (to_keep (node_of c.args.tool.now).own) c.args.out.now c.carry_out.new.out
    (Ok c.in-Ok.spool) c.in-Ok.ensures.works)
    c.from_read.ensures.disk

pub returns-in-Err-clause-disk : goal.returns-in-Err-clause-disk
returns-in-Err-clause-disk g c =
    works-back g.D.Disk c.args.spool _ (to_keep (node_of c.args.tool.now).own) c.args.out.now c.carry_out.new.out
    (Err c.in-Err.ended) c.in-Err.ensures.works

pub returns-in-Ok-clause-breaks : goal.returns-in-Ok-clause-breaks
returns-in-Ok-clause-breaks g c s input now begun begin =
    let area = area-kept g.D.Disk s input now (node_of c.args.tool.now) c.args.out.now begun begin.area in
    behind-breaks g.D.Disk s input now c.args.spool begin.clear begin.told disk_worked begin.went c.in-Ok.spool
    (node_of c.args.tool.now) c.args.out.now begun c.carry_out.new.out.notes c.from_read.result
    c.requires.ready.counted c.in-Ok.ensures.fit area c.in-Ok.ensures.works.0
    (c.from_read.ensures.breaks (kept_step (settled_step begun.step)) c.carry_out.new.out
    (at-settled g.D.Disk s input now begin.went c.args.spool (node_of c.args.tool.now) c.args.out.now begun
    begin.clear begin.told c.requires.ready.counted c.in-Ok.ensures.fit c.in-Ok.spool (node_of c.carry_out.new.tool)
    c.carry_out.new.out area c.in-Ok.ensures.works.0 c.in-Ok.ensures.node c.in-Ok.ensures.works.1) s)

pub returns-in-Err-clause-breaks : goal.returns-in-Err-clause-breaks
returns-in-Err-clause-breaks g c s input now begun begin =
    ended-breaks g.D.Disk disk_in disk_worked c.args.spool.spool.disk
    (losses_of s (standing_in (opened s)) [] (works_behind (begun_step s input now))
    (step_in (begun_step s input now)).notes)
    c.carry_out.new.out.notes c.in-Err.ended
    (behind-broken g.D.Disk s input now c.args.spool begin.clear begin.told (node_of c.args.tool.now)
    c.args.out.now c.carry_out.new.out begun c.in-Err.ended c.requires.ready.counted c.in-Err.ensures.fit
    c.in-Err.ensures.works)

pub returns-in-Ok-clause-offers : goal.returns-in-Ok-clause-offers
returns-in-Ok-clause-offers g c =
    offers-then (own_of c.args.tool.now.own) (own_of c.carry_out.new.tool.own) (own_of c.from_read.new.tool.own)
    c.from_read.result
    (settled-offers (node_of c.args.tool.now) (node_of c.carry_out.new.tool) c.in-Ok.ensures.node)
    c.from_read.ensures.offers
