use Rattle.std.proofs.Common.{◌∙◌, ap, inl, refl, sym}
use Rattle.message_end.specs.Ends.{input_of}
use Rattle.message_end.specs.Parts.{Node}
use Rattle.spool_works.specs.DiskCalls.{HasCalled, HasMade, all_disk_calls, disk_in}
use Rattle.tool_core.specs.Node.{node_of, own_of}
use Rattle.tool_step.specs.Disk.{standing_in, works_of}
use Rattle.tool_step.specs.Losses.{losses}
use Rattle.tool_step.specs.Own.{OwnView}
use Rattle.tool_step.specs.declared.kind.Kind.{Kind}
use Rattle.equipment_node.specs.Amid.{disk_worked}
use Rattle.equipment_node.specs.Breaking.{BreaksBy, Passes}
use Rattle.equipment_node.proofs.Offering.{asked-on, stays-still}
use Rattle.equipment_node.proofs.KeeperSteps.{ended-both, ended-by, holds-owed, served-both}
use Rattle.equipment_node.proofs.StepBreaks.{ended-breaks, serves-breaks}
use Rattle.equipment_node.proofs.StepCalls.{ended-called, serves-called}
use Rattle.equipment_node.proofs.disk_step.whole_step.Goals as goal

-- ---- the works are done

pub serve_last-requires : goal.serve_last-requires
serve_last-requires g c = record {
  now = c.requires.now;
  room = c.in-Ok.ensures.room;
  ready = c.in-Ok.ensures.ready;
  keeper =
      asked-on g.K.RecipeKeeper c.args.keeper.now c.args.keeper.now (own_of c.args.tool.now.own)
      (own_of c.step_works.new.tool.own) c.requires.keeper (stays-still g.K.RecipeKeeper c.args.keeper.now)
      c.in-Ok.ensures.offers;
  can = c.in-Ok.ensures.can;
}

pub returns-in-Ok-clause-acts : goal.returns-in-Ok-clause-acts
returns-in-Ok-clause-acts g c s node_is on told keeps =
    (c.in-Ok.ensures.acts s node_is on told).1 (node_of c.serve_last.new.tool) c.serve_last.new.out
    c.serve_last.result
    (c.serve_last.ensures.ends s.recipes (λ offers.
    keeps
    (ap (λ (n : Node OwnView Kind). n.own.offers) (sym node_is) ∙ sym c.in-Ok.ensures.offers.same ∙ offers)))

pub returns-in-Ok-clause-recipes : goal.returns-in-Ok-clause-recipes
returns-in-Ok-clause-recipes g c s node_is on told is =
    holds-owed g.K.RecipeKeeper s.recipes (own_of c.step_works.new.tool.own) _ c.serve_last.new.keeper
    c.serve_last.result (c.in-Ok.ensures.acts s node_is on told).0 (c.serve_last.ensures.recipes s.recipes is)

pub returns-in-Ok-clause-calls : goal.returns-in-Ok-clause-calls
returns-in-Ok-clause-calls g c s node_is on told =
    serves-called g.D.Disk g.K.RecipeKeeper c.args.keeper.now c.serve_last.new.keeper c.args.spool.spool.disk
    c.in-Ok.spool.spool.disk (standing_in s) (works_of s (input_of c.args.input) c.args.now) c.serve_last.result
    (c.in-Ok.ensures.calls s node_is on told) c.serve_last.ensures.stays

pub returns-in-Ok-clause-breaks : goal.returns-in-Ok-clause-breaks
returns-in-Ok-clause-breaks g c s node_is on told =
    serves-breaks g.D.Disk g.K.RecipeKeeper c.args.keeper.now c.serve_last.new.keeper c.args.spool.spool.disk
    c.in-Ok.spool.spool.disk (losses s (input_of c.args.input) c.args.now) c.serve_last.new.out.notes
    c.serve_last.result (c.in-Ok.ensures.breaks s node_is on told) c.serve_last.ensures.stays

pub returns-in-Ok-clause-back : goal.returns-in-Ok-clause-back
returns-in-Ok-clause-back g c =
    served-both g.D.Disk g.K.RecipeKeeper c.args.spool.spool.disk c.in-Ok.spool.spool.disk c.args.keeper.now
    c.serve_last.new.keeper c.serve_last.result c.in-Ok.ensures.disk c.serve_last.ensures.stays

pub returns-in-Ok-clause-unasked : goal.returns-in-Ok-clause-unasked
returns-in-Ok-clause-unasked g c = c.serve_last.ensures.unasked

-- ---- or they aren't

pub returns-in-Err-clause-acts : goal.returns-in-Err-clause-acts
returns-in-Err-clause-acts g c s node_is on told keeps = c.in-Err.ensures.acts s node_is on told

pub returns-in-Err-clause-recipes : goal.returns-in-Err-clause-recipes
returns-in-Err-clause-recipes g c s node_is on told is = inl is

pub returns-in-Err-clause-calls : goal.returns-in-Err-clause-calls
returns-in-Err-clause-calls g c s node_is on told =
    let standing = standing_in s in
    let works = works_of s (input_of c.args.input) c.args.now in
    ended-by g.D.Disk g.K.RecipeKeeper c.args.spool.spool.disk c.args.keeper.now
    (HasCalled g.D.Disk disk_in c.args.spool.spool.disk standing works)
    (λ disk. HasMade g.D.Disk c.args.spool.spool.disk disk (all_disk_calls standing works)) c.in-Err.ended
    (ended-called g.D.Disk disk_worked disk_in c.args.spool.spool.disk standing works c.in-Err.ended
    (c.in-Err.ensures.calls s node_is on told))

pub returns-in-Err-clause-breaks : goal.returns-in-Err-clause-breaks
returns-in-Err-clause-breaks g c s node_is on told =
    let lost = losses s (input_of c.args.input) c.args.now in
    ended-by g.D.Disk g.K.RecipeKeeper c.args.spool.spool.disk c.args.keeper.now
    (BreaksBy g.D.Disk disk_in c.args.spool.spool.disk lost c.step_works.new.out.notes)
    (Passes g.D.Disk c.args.spool.spool.disk lost) c.in-Err.ended
    (ended-breaks g.D.Disk disk_worked disk_in c.args.spool.spool.disk lost c.step_works.new.out.notes c.in-Err.ended
    (c.in-Err.ensures.breaks s node_is on told))

pub returns-in-Err-clause-back : goal.returns-in-Err-clause-back
returns-in-Err-clause-back g c =
    ended-both g.D.Disk g.K.RecipeKeeper c.args.spool.spool.disk c.args.keeper.now c.in-Err.ended
    c.in-Err.ensures.disk

pub returns-in-Err-clause-unasked : goal.returns-in-Err-clause-unasked
returns-in-Err-clause-unasked g c none = refl
