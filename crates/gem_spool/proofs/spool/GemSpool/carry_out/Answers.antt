-- Each work has its turn, is done or fails there; with all done the spool is as told.

use Rattle.std.proofs.Common.{◌≡◌, List, take, subst}
use Rattle.std.proofs.lemmas.List.{take_all}
use Rattle.gem_spool.specs.Works.{DoesAll}
use Rattle.gem_spool.specs.declared.works.Work.{Work}
use Rattle.gem_spool.proofs.Carrying.{carried, has_size, has_turn, turn_done, turn_failed}
use Rattle.gem_spool.proofs.spool.GemSpool.carry_out.Goals as goal

pub work-requires : goal.work-requires
work-requires g c = record {
  due = has_turn g.D.Disk c.args.self c.args.works.now c.works.at c.works.spool c.works.invariant
      c.index-works-at.result c.index-works-at.is c.works-test.true c.requires.due;
  sized = has_size g.D.Disk c.args.self c.args.works.now c.works.at c.works.spool c.works.invariant
      c.index-works-at.result c.index-works-at.is c.works-test.true c.requires.sized;
}

pub works-preserved : goal.works-preserved
works-preserved g c =
    turn_done g.D.Disk c.args.self c.args.works.now c.works.at c.works.spool c.works.invariant
    c.index-works-at.result c.index-works-at.is c.works-test.true c.in-Ok.after c.in-Ok.ensures

pub returns-in-Err : goal.returns-in-Err
returns-in-Err g c =
    turn_failed g.D.Disk c.args.self c.args.works.now c.works.at c.works.spool c.works.invariant
    c.index-works-at.result c.index-works-at.is c.works-test.true c.requires.sized c.in-Err.spent c.in-Err.ensures

pub returns : goal.returns
returns g c =
    let all : take c.works.at c.args.works.now ≡ c.args.works.now =
    take_all c.works.at c.args.works.now c.works-test.false in
    carried g.D.Disk c.args.self c.args.works.now c.works.spool c.requires.sized
    (subst (λ (ys : List Work). DoesAll g.D.Disk c.args.self ys c.works.spool) all c.works.invariant)
