use Rattle.std.proofs.Common.{refl, ap, subst, ◌∙◌, ℕ, Option}
use Rattle.gem_spool.specs.Spool.{ReservesFrom}
use Rattle.gem_spool.specs.Standing.{Stands}
use Rattle.gem_spool.specs.Works.{standing_after_reserve}
use Rattle.message_end.specs.Core.{Command, EndView}
use Rattle.message_end.specs.Parts.{Node, core_after}
use Rattle.tool_step.specs.declared.kind.Kind.{Kind}
use Rattle.tool_step.specs.Disk.{standing_in}
use Rattle.tool_step.specs.Equipment.{with_core}
use Rattle.tool_core.specs.Node.{node_of}
use Rattle.tool_step.specs.Own.{OwnView}
use Rattle.equipment_node.proofs.HandingBack.{kept-at, kept-then, reserved-back, unreserved-back}
use Rattle.equipment_node.proofs.Opened.{at-last, mark-failed, marked-out, more-core, opened-more}
use Rattle.equipment_node.proofs.Readying.{reserved-ready}
use Rattle.equipment_node.proofs.StepCalls.{reserve-made, reserve-spent, reserve-stops}
use Rattle.equipment_node.proofs.StepBreaks.{marked-out-breaks, reserve-breaks, reserved-breaks}
use Rattle.equipment_node.proofs.disk_step.reserve_more.Goals as goal

pub returns-in-Ok-default-Some-clause-opens : goal.returns-in-Ok-default-Some-clause-opens
returns-in-Ok-default-Some-clause-opens g c s node_is needs on told =
    let made =
    subst
    (λ (b : Option ℕ). ReservesFrom g.D.Disk c.args.spool c.in-Ok-default-Some.spool b)
    c.in-Ok-default-Some.field-0-1-is c.in-Ok-default-Some.ensures.reserve in
    opened-more g.D.Disk s _ c.args.spool c.in-Ok-default-Some.spool _
    (ap (λ (core : EndView Kind). with_core core (node_of c.args.tool.now))
    (more-core c.args.tool.now.core c.more.new.self c.args.out.now c.more.new.out c.more.ensures)
    ∙ ap (λ (node : Node OwnView Kind). with_core (core_after (Command.More 4096) node.core) node) node_is)
    needs on.clear told on.made.did.sound.area made
    (subst
    (λ (b : Option ℕ).
    Stands g.D.Disk c.in-Ok-default-Some.spool.spool (standing_after_reserve b (standing_in s)))
    c.in-Ok-default-Some.field-0-1-is (c.in-Ok-default-Some.ensures.stands (standing_in s) on.clear.stands))
    (λ t is. c.in-Ok-default-Some.ensures.moments (standing_in s) on.clear.stands t is)

pub returns-in-Ok-default-Some-clause-ready : goal.returns-in-Ok-default-Some-clause-ready
returns-in-Ok-default-Some-clause-ready g c =
    let made =
    subst
    (λ (b : Option ℕ). ReservesFrom g.D.Disk c.args.spool c.in-Ok-default-Some.spool b)
    c.in-Ok-default-Some.field-0-1-is c.in-Ok-default-Some.ensures.reserve in
    reserved-ready g.D.Disk c.args.spool c.in-Ok-default-Some.spool _ (node_of c.args.tool.now) _ c.requires.ready refl
    made c.in-Ok-default-Some.ensures.list

pub returns-in-Ok-default-None-clause-opens : goal.returns-in-Ok-default-None-clause-opens
returns-in-Ok-default-None-clause-opens g c s node_is needs on told =
    let made =
    subst
    (λ (b : Option ℕ). ReservesFrom g.D.Disk c.args.spool c.in-Ok-default-None.spool b)
    c.in-Ok-default-None.field-0-1-is c.in-Ok-default-None.ensures.reserve in
    marked-out g.D.Disk s c.args.spool c.in-Ok-default-None.spool c.retire.result needs on.clear made
    c.retire.ensures.disk

pub returns-in-Err-clause-opens : goal.returns-in-Err-clause-opens
returns-in-Err-clause-opens g c s node_is needs on told = (
  mark-failed g.D.Disk s c.args.spool needs on.clear c.in-Err.ensures.reserve.0,
  λ t is.
      at-last told.0 _ _ t (c.in-Err.ensures.moments (standing_in s) on.clear.stands told.0 told.1) is,
)

pub returns-in-Ok-default-Some-clause-calls : goal.returns-in-Ok-default-Some-clause-calls
returns-in-Ok-default-Some-clause-calls g c s node_is needs on told =
    let made =
    subst
    (λ (b : Option ℕ). ReservesFrom g.D.Disk c.args.spool c.in-Ok-default-Some.spool b)
    c.in-Ok-default-Some.field-0-1-is c.in-Ok-default-Some.ensures.reserve in
    reserve-made g.D.Disk s c.args.spool needs on.clear told c.in-Ok-default-Some.spool _ made

pub returns-in-Ok-default-None-clause-calls : goal.returns-in-Ok-default-None-clause-calls
returns-in-Ok-default-None-clause-calls g c s node_is needs on told =
    let made =
    subst
    (λ (b : Option ℕ). ReservesFrom g.D.Disk c.args.spool c.in-Ok-default-None.spool b)
    c.in-Ok-default-None.field-0-1-is c.in-Ok-default-None.ensures.reserve in
    reserve-spent g.D.Disk s c.args.spool needs on.clear told c.in-Ok-default-None.spool c.retire.result made
    c.retire.ensures.disk

pub returns-in-Err-clause-calls : goal.returns-in-Err-clause-calls
returns-in-Err-clause-calls g c s node_is needs on told =
    reserve-stops g.D.Disk s c.args.spool needs on.clear told c.in-Err.spent c.in-Err.ensures.reserve

pub returns-in-Ok-default-Some-clause-disk : goal.returns-in-Ok-default-Some-clause-disk
returns-in-Ok-default-Some-clause-disk g c =
    reserved-back g.D.Disk c.args.spool c.in-Ok-default-Some.spool _ c.in-Ok-default-Some.ensures.reserve

pub returns-in-Ok-default-None-clause-disk : goal.returns-in-Ok-default-None-clause-disk
returns-in-Ok-default-None-clause-disk g c =
    kept-then g.D.Disk c.args.spool.spool.disk c.in-Ok-default-None.spool.spool.disk c.retire.result.disk
    (reserved-back g.D.Disk c.args.spool c.in-Ok-default-None.spool _ c.in-Ok-default-None.ensures.reserve)
    (kept-at g.D.Disk c.in-Ok-default-None.spool.spool.disk c.retire.result.disk c.retire.ensures.disk)

pub returns-in-Err-clause-disk : goal.returns-in-Err-clause-disk
returns-in-Err-clause-disk g c = unreserved-back g.D.Disk c.args.spool c.in-Err.spent c.in-Err.ensures.reserve

pub returns-in-Ok-default-Some-clause-breaks : goal.returns-in-Ok-default-Some-clause-breaks
returns-in-Ok-default-Some-clause-breaks g c s node_is needs on told noted =
    let made =
    subst
    (λ (b : Option ℕ). ReservesFrom g.D.Disk c.args.spool c.in-Ok-default-Some.spool b)
    c.in-Ok-default-Some.field-0-1-is c.in-Ok-default-Some.ensures.reserve in
    reserved-breaks g.D.Disk s c.args.spool needs on.clear told c.in-Ok-default-Some.spool _ made

pub returns-in-Ok-default-None-clause-breaks : goal.returns-in-Ok-default-None-clause-breaks
returns-in-Ok-default-None-clause-breaks g c s node_is needs on told noted =
    let made =
    subst
    (λ (b : Option ℕ). ReservesFrom g.D.Disk c.args.spool c.in-Ok-default-None.spool b)
    c.in-Ok-default-None.field-0-1-is c.in-Ok-default-None.ensures.reserve in
    marked-out-breaks g.D.Disk s c.args.spool needs on.clear told c.in-Ok-default-None.spool c.retire.result made
    c.retire.ensures.disk

pub returns-in-Err-clause-breaks : goal.returns-in-Err-clause-breaks
returns-in-Err-clause-breaks g c s node_is needs on told noted =
    reserve-breaks g.D.Disk s c.args.spool c.in-Err.spent c.args.out.now.notes needs on.clear told
    c.in-Err.ensures.reserve noted
