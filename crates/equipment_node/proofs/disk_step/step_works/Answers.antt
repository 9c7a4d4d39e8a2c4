use Rattle.std.proofs.Common.{◌∙◌}
use Rattle.message_end.specs.Ends.{input_of}
use Rattle.spool_works.specs.DiskCalls.{disk_in}
use Rattle.tool_core.specs.Node.{node_of, own_of}
use Rattle.tool_step.specs.Disk.{standing_in, works_of}
use Rattle.tool_step.specs.Losses.{losses}
use Rattle.equipment_node.specs.Amid.{disk_worked}
use Rattle.equipment_node.proofs.HandingBack.{worked-then}
use Rattle.equipment_node.proofs.Offering.{offers-still, offers-then}
use Rattle.equipment_node.proofs.StepCalls.{ended-called, not-called, step-called}
use Rattle.equipment_node.proofs.StepBreaks.{ended-breaks, step-breaks, unopened-breaks}
use Rattle.equipment_node.proofs.Unopened.{not-opened}
use Rattle.equipment_node.proofs.disk_step.step_works.Goals as goal

pub from_input-requires : goal.from_input-requires
from_input-requires g c = record {
  now = c.requires.now;
  input = c.requires.input;
  out = record {
    line = c.in-Ok.ensures.line ∙ c.requires.out.line;
    notes = c.in-Ok.ensures.notes ∙ c.requires.out.notes;
  };
  ready = c.in-Ok.ensures.ready;
}

pub returns-in-Ok-clause-acts : goal.returns-in-Ok-clause-acts
returns-in-Ok-clause-acts g c s node_is on told =
    c.from_input.ensures.acts s (c.in-Ok.ensures.opens s node_is on told)

pub returns-in-Err-clause-acts : goal.returns-in-Err-clause-acts
returns-in-Err-clause-acts g c s node_is on told =
    not-opened g.D.Disk s (input_of c.args.input) c.args.now (node_of c.reserve.new.tool) (node_of c.reserve.new.tool)
    c.reserve.new.out c.in-Err.ended (c.in-Err.ensures.notes ∙ c.requires.out.notes) on.clear.owes
    (c.in-Err.ensures.opens s node_is on told)

pub returns-in-Ok-clause-calls : goal.returns-in-Ok-clause-calls
returns-in-Ok-clause-calls g c s node_is on told =
    let begin = c.in-Ok.ensures.opens s node_is on told in
    step-called g.D.Disk s (input_of c.args.input) c.args.now disk_worked c.args.spool.spool.disk
    c.in-Ok.spool.spool.disk c.from_input.result begin.went (c.in-Ok.ensures.calls s node_is on told)
    (c.from_input.ensures.calls s begin)

pub returns-in-Err-clause-calls : goal.returns-in-Err-clause-calls
returns-in-Err-clause-calls g c s node_is on told =
    ended-called g.D.Disk disk_in disk_worked c.args.spool.spool.disk (standing_in s)
    (works_of s (input_of c.args.input) c.args.now) c.in-Err.ended
    (not-called g.D.Disk s (input_of c.args.input) c.args.now c.args.spool.spool.disk (node_of c.reserve.new.tool)
    c.in-Err.ended on.clear.owes (c.in-Err.ensures.opens s node_is on told)
    (c.in-Err.ensures.calls s node_is on told))

pub returns-in-Ok-clause-disk : goal.returns-in-Ok-clause-disk
returns-in-Ok-clause-disk g c =
    worked-then g.D.Disk c.args.spool.spool.disk c.in-Ok.spool.spool.disk c.from_input.result c.in-Ok.ensures.disk
    c.from_input.ensures.disk

pub returns-in-Err-clause-disk : goal.returns-in-Err-clause-disk
returns-in-Err-clause-disk g c = c.in-Err.ensures.disk

pub returns-in-Ok-clause-breaks : goal.returns-in-Ok-clause-breaks
returns-in-Ok-clause-breaks g c s node_is on told =
    let begin = c.in-Ok.ensures.opens s node_is on told in
    step-breaks g.D.Disk s (input_of c.args.input) c.args.now disk_worked c.args.spool.spool.disk
    c.in-Ok.spool.spool.disk c.from_input.new.out.notes c.from_input.result begin.went
    (c.in-Ok.ensures.breaks s node_is on told c.requires.out.notes) (c.from_input.ensures.breaks s begin)

pub returns-in-Err-clause-breaks : goal.returns-in-Err-clause-breaks
returns-in-Err-clause-breaks g c s node_is on told =
    ended-breaks g.D.Disk disk_in disk_worked c.args.spool.spool.disk (losses s (input_of c.args.input) c.args.now)
    c.reserve.new.out.notes c.in-Err.ended
    (unopened-breaks g.D.Disk s (input_of c.args.input) c.args.now c.args.spool.spool.disk c.reserve.new.out.notes
    (node_of c.reserve.new.tool) c.in-Err.ended on.clear.owes (c.in-Err.ensures.opens s node_is on told)
    (c.in-Err.ensures.breaks s node_is on told c.requires.out.notes))

pub returns-in-Ok-clause-offers : goal.returns-in-Ok-clause-offers
returns-in-Ok-clause-offers g c =
    offers-then (own_of c.args.tool.now.own) (own_of c.reserve.new.tool.own) (own_of c.from_input.new.tool.own)
    c.from_input.result
    (offers-still (own_of c.args.tool.now.own) (own_of c.reserve.new.tool.own) c.in-Ok.ensures.own)
    c.from_input.ensures.offers
