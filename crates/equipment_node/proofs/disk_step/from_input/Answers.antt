use Rattle.std.proofs.Common.{◌≤◌, [], subst, sym}
use Rattle.arrayvec.specs.ArrayVec.{array_vec_len}
use Rattle.message_end.specs.Core.{step_in}
use Rattle.spool_works.specs.DiskCalls.{disk_in}
use Rattle.tool_step.specs.Disk.{standing_in, works_behind}
use Rattle.tool_step.specs.Equipment.{begun_step}
use Rattle.tool_step.specs.Losses.{losses_of}
use Rattle.equipment_node.specs.Amid.{disk_worked, opened}
use Rattle.message_end.specs.Ends.{input_of}
use Rattle.tool_core.specs.Node.{node_of, own_of}
use Rattle.equipment_node.proofs.FirstParts.{begun-of, first-offers, first-ready, spent-counted, stops-of}
use Rattle.equipment_node.proofs.HandingBack.{reached-not-failed}
use Rattle.equipment_node.proofs.Offering.{offers-then}
use Rattle.equipment_node.proofs.Opened.{opened-so}
use Rattle.equipment_node.proofs.StepBreaks.{ended-breaks}
use Rattle.equipment_node.proofs.StepCalls.{ended-called}
use Rattle.equipment_node.proofs.Working.{has-room}
use Rattle.equipment_node.proofs.disk_step.from_input.Goals as goal

pub from_works-requires : goal.from_works-requires
from_works-requires g c = record {
  ready =
      first-ready (input_of c.args.input) c.args.now (node_of c.args.tool.now) (node_of c.do_first.new.self)
      c.args.out.now c.do_first.new.out c.requires.out c.requires.ready.sound g.D.Disk c.args.spool.spool
      c.requires.ready c.in-Ok.ensures.does;
}

pub returns-in-Ok-clause-room : goal.returns-in-Ok-clause-room
returns-in-Ok-clause-room g c =
    has-room c.from_works.result c.from_works.new.out
    (subst (λ line. array_vec_len line ≤ 514) (sym c.from_works.ensures.line) c.in-Ok.ensures.at_most)

pub returns-in-Ok-clause-acts : goal.returns-in-Ok-clause-acts
returns-in-Ok-clause-acts g c s begin =
    c.from_works.ensures.acts s (input_of c.args.input) c.args.now
    (begun-of (input_of c.args.input) c.args.now (node_of c.args.tool.now) (node_of c.do_first.new.self)
    c.args.out.now c.do_first.new.out c.requires.out c.requires.ready.sound g.D.Disk s c.args.spool begin
    c.in-Ok.ensures.does)
    (opened-so g.D.Disk s (node_of c.args.tool.now) c.args.spool begin)

pub end_early-requires : goal.end_early-requires
end_early-requires g c = record {
  counted = λ same.
      spent-counted (input_of c.args.input) c.args.now (node_of c.args.tool.now) (node_of c.do_first.new.self)
      c.args.out.now c.do_first.new.out c.requires.out c.requires.ready.sound g.D.Disk c.args.spool.spool
      c.requires.ready c.in-Err.stop c.in-Err.ensures.does same;
  holds = c.requires.ready.holds;
}

pub returns-in-Err-clause-acts : goal.returns-in-Err-clause-acts
returns-in-Err-clause-acts g c s begin =
    c.end_early.ensures.acts s (input_of c.args.input) c.args.now
    (stops-of (input_of c.args.input) c.args.now (node_of c.args.tool.now) (node_of c.do_first.new.self)
    c.args.out.now c.do_first.new.out c.requires.out c.requires.ready.sound g.D.Disk s c.args.spool begin
    c.in-Err.stop c.in-Err.ensures.does)
    (opened-so g.D.Disk s (node_of c.args.tool.now) c.args.spool begin)

pub returns-in-Ok-clause-calls : goal.returns-in-Ok-clause-calls
returns-in-Ok-clause-calls g c s begin =
    c.from_works.ensures.calls s (input_of c.args.input) c.args.now
    (begun-of (input_of c.args.input) c.args.now (node_of c.args.tool.now) (node_of c.do_first.new.self)
    c.args.out.now c.do_first.new.out c.requires.out c.requires.ready.sound g.D.Disk s c.args.spool begin
    c.in-Ok.ensures.does)
    (opened-so g.D.Disk s (node_of c.args.tool.now) c.args.spool begin)

pub returns-in-Err-clause-calls : goal.returns-in-Err-clause-calls
returns-in-Err-clause-calls g c s begin =
    ended-called g.D.Disk disk_in disk_worked c.args.spool.spool.disk (standing_in (opened s))
    (works_behind (begun_step s (input_of c.args.input) c.args.now)) c.end_early.result
    (c.end_early.ensures.calls s (input_of c.args.input) c.args.now
    (stops-of (input_of c.args.input) c.args.now (node_of c.args.tool.now) (node_of c.do_first.new.self)
    c.args.out.now c.do_first.new.out c.requires.out c.requires.ready.sound g.D.Disk s c.args.spool begin
    c.in-Err.stop c.in-Err.ensures.does)
    (opened-so g.D.Disk s (node_of c.args.tool.now) c.args.spool begin))

pub returns-in-Ok-clause-disk : goal.returns-in-Ok-clause-disk
returns-in-Ok-clause-disk g c = c.from_works.ensures.disk

pub returns-in-Err-clause-disk : goal.returns-in-Err-clause-disk
returns-in-Err-clause-disk g c =
    c.end_early.ensures.disk
    (reached-not-failed _ (node_of c.do_first.new.self) c.do_first.new.out c.in-Err.stop c.in-Err.ensures.does)

pub returns-in-Ok-clause-breaks : goal.returns-in-Ok-clause-breaks
returns-in-Ok-clause-breaks g c s begin =
    c.from_works.ensures.breaks s (input_of c.args.input) c.args.now
    (begun-of (input_of c.args.input) c.args.now (node_of c.args.tool.now) (node_of c.do_first.new.self)
    c.args.out.now c.do_first.new.out c.requires.out c.requires.ready.sound g.D.Disk s c.args.spool begin
    c.in-Ok.ensures.does)
    (opened-so g.D.Disk s (node_of c.args.tool.now) c.args.spool begin)

pub returns-in-Err-clause-breaks : goal.returns-in-Err-clause-breaks
returns-in-Err-clause-breaks g c s begin =
    ended-breaks g.D.Disk disk_in disk_worked c.args.spool.spool.disk
    (losses_of s (standing_in (opened s)) [] (works_behind (begun_step s (input_of c.args.input) c.args.now))
    (step_in (begun_step s (input_of c.args.input) c.args.now)).notes)
    c.end_early.new.out.notes c.end_early.result
    (c.end_early.ensures.breaks s (input_of c.args.input) c.args.now
    (stops-of (input_of c.args.input) c.args.now (node_of c.args.tool.now) (node_of c.do_first.new.self)
    c.args.out.now c.do_first.new.out c.requires.out c.requires.ready.sound g.D.Disk s c.args.spool begin
    c.in-Err.stop c.in-Err.ensures.does)
    (opened-so g.D.Disk s (node_of c.args.tool.now) c.args.spool begin))

pub returns-in-Ok-clause-offers : goal.returns-in-Ok-clause-offers
returns-in-Ok-clause-offers g c =
    offers-then (own_of c.args.tool.now.own) (own_of c.do_first.new.self.own) (own_of c.from_works.new.tool.own)
    c.from_works.result
    (first-offers (input_of c.args.input) c.args.now (node_of c.args.tool.now) (node_of c.do_first.new.self)
    c.args.out.now c.do_first.new.out c.requires.out c.requires.ready.sound c.in-Ok.ensures.does)
    c.from_works.ensures.offers
