use Rattle.std.proofs.Common.{◌∙◌, ℕ, List, ap, subst, sym}
use Rattle.gem_spool.specs.Standing.{standing_of}
use Rattle.spool_file.specs.File.{SpoolFile}
use Rattle.spool_file.specs.declared.recovery.Known.{Known}
use Rattle.tool_step.specs.Setup.{setup_in}
use Rattle.equipment_node.specs.StartOver.{StartsOver}
use Rattle.equipment_node.specs.StartSizes.{AreSizes}
use Rattle.equipment_node.proofs.Beginning.{over-upgraded, unready-over}
use Rattle.equipment_node.proofs.HandingBack.{start-then}
use Rattle.equipment_node.proofs.MadeReady.{ready-sure}
use Rattle.equipment_node.proofs.StartCalled.{ready-moves, unready-moves}
use Rattle.equipment_node.proofs.equipment.start_found.Goals as goal

pub start_ready-requires : goal.start_ready-requires
start_ready-requires g c = record {
  plan = c.requires.plan;
  out = c.requires.out;
  version = ap (λ (k : Known). k.version) c.in-Ok.ensures.known;
  sizes =
      subst (λ (sizes : List ℕ). AreSizes g.D.Disk c.in-Ok.spool.spool sizes) (sym c.as_slice.ensures)
      c.in-Ok.ensures.sized;
  holds = c.in-Ok.ensures.holds c.requires.holds;
}

pub returns-in-Ok-clause-starts : goal.returns-in-Ok-clause-starts
returns-in-Ok-clause-starts g c fresh setup_is =
    let ready = c.in-Ok.ensures in
    over-upgraded g.D.Disk c.args.plan.now (standing_of g.D.Disk c.args.spool).file c.start_ready.new.out
    c.start_ready.result
    (subst
    (λ (f : SpoolFile). StartsOver g.D.Disk c.args.plan.now f c.start_ready.new.out c.start_ready.result)
    (ready.file fresh) (c.start_ready.ensures.starts (ready.fresh fresh)
    (setup_is ∙ ap (λ (f : SpoolFile). setup_in f) (sym (ready.file fresh)))))

pub returns-in-Ok-clause-calls : goal.returns-in-Ok-clause-calls
returns-in-Ok-clause-calls g c fresh =
    ready-moves g.D.Disk c.args.spool _ _ c.in-Ok.ensures fresh c.start_ready.result
    (c.start_ready.ensures.calls (c.in-Ok.ensures.fresh fresh))

pub returns-in-Ok-clause-disk : goal.returns-in-Ok-clause-disk
returns-in-Ok-clause-disk g c =
    start-then g.D.Disk c.args.spool.disk _ c.start_ready.result c.in-Ok.ensures.kept c.start_ready.ensures.disk

pub returns-in-Ok-clause-keeps : goal.returns-in-Ok-clause-keeps
returns-in-Ok-clause-keeps g c =
    ready-sure g.D.Disk c.args.spool _ _ c.in-Ok.ensures c.start_ready.result c.start_ready.ensures.keeps

pub returns-in-Err-clause-starts : goal.returns-in-Err-clause-starts
returns-in-Err-clause-starts g c fresh setup_is =
    unready-over g.D.Disk c.args.plan.now c.args.spool.disk (standing_of g.D.Disk c.args.spool).file c.args.out.now
    c.requires.out c.in-Err.why (c.in-Err.ensures.1 fresh)

pub returns-in-Err-clause-calls : goal.returns-in-Err-clause-calls
returns-in-Err-clause-calls g c fresh =
    unready-moves g.D.Disk c.args.spool.disk (standing_of g.D.Disk c.args.spool).file c.in-Err.why
    (c.in-Err.ensures.1 fresh)

pub returns-in-Err-clause-disk : goal.returns-in-Err-clause-disk
returns-in-Err-clause-disk g c = c.in-Err.ensures.0
