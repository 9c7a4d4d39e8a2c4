use Rattle.std.proofs.Common.{◌+◌, ◌≤◌, ◌^◌, ℕ, ap, sym, subst, ◌∙◌, Option}
use Rattle.gem_spool.specs.Spool.{ReservesFrom}
use Rattle.gem_spool.specs.Standing.{Stands, standing_of}
use Rattle.gem_spool.specs.Works.{standing_after_reserve}
use Rattle.equipment_node.proofs.Beginning.{none-left, reserved-sized, start-failed, started}
use Rattle.equipment_node.proofs.HandingBack.{kept-at, kept-then, reserved-back, seated-back, start-then}
use Rattle.equipment_node.proofs.HandingBack.{unreserved-back}
use Rattle.equipment_node.proofs.Readying.{reserved-holds}
use Rattle.equipment_node.proofs.StartCalled.{mark-moved, mark-stays, move-stops}
use Rattle.equipment_node.proofs.Standings.{start-sure}
use Rattle.equipment_node.proofs.equipment.start_ready.Goals as goal

pub start_with-requires : goal.start_with-requires
start_with-requires g c =
    let done =
    subst (λ (b : Option ℕ). ReservesFrom g.D.Disk c.args.spool c.in-Ok.spool b) c.in-Some.is
    c.in-Ok.ensures.reserve in
    record {
      plan = c.requires.plan;
      numbers = subst (λ (n : ℕ). n + 4096 ≤ 2 ^ 32) (sym done.0.1) done.0.0.0;
      version = ap (λ v. v.version) done.0.2 ∙ c.requires.version;
      sizes =
          reserved-sized g.D.Disk c.args.spool c.in-Ok.spool c.args.sizes.now c.in-Some.base done c.in-Ok.ensures.list
          c.requires.sizes;
      holds = reserved-holds g.D.Disk c.args.spool c.in-Ok.spool c.in-Some.base done c.requires.holds;
    }

pub returns-in-Some-clause-starts : goal.returns-in-Some-clause-starts
returns-in-Some-clause-starts g c fresh setup_is =
    started g.D.Disk c.args.plan.now c.args.spool c.args.sizes.now c.requires.version c.requires.sizes fresh
    c.len.ensures.stands c.args.out.now c.start_with.new.out c.requires.out c.args.setup setup_is c.in-Ok.spool
    c.in-Some.base
    (subst (λ (b : Option ℕ). ReservesFrom g.D.Disk c.args.spool c.in-Ok.spool b) c.in-Some.is
    c.in-Ok.ensures.reserve)
    (subst
    (λ (b : Option ℕ).
    Stands g.D.Disk c.in-Ok.spool.spool (standing_after_reserve b (standing_of g.D.Disk c.args.spool.spool)))
    c.in-Some.is
    (c.in-Ok.ensures.stands (standing_of g.D.Disk c.args.spool.spool) c.len.ensures.stands))
    (λ s is. c.in-Ok.ensures.moments (standing_of g.D.Disk c.args.spool.spool) c.len.ensures.stands s is)
    c.start_with.ensures.line c.start_with.result c.start_with.ensures.starts

pub returns-in-None-clause-starts : goal.returns-in-None-clause-starts
returns-in-None-clause-starts g c fresh setup_is =
    none-left g.D.Disk c.args.plan.now c.args.spool c.args.sizes.now c.requires.version c.requires.sizes fresh
    c.len.ensures.stands c.args.out.now c.args.out.now c.requires.out c.in-Ok.spool c.retire.result
    (subst (λ (b : Option ℕ). ReservesFrom g.D.Disk c.args.spool c.in-Ok.spool b) c.in-None.is
    c.in-Ok.ensures.reserve)
    c.retire.ensures.disk

pub returns-in-Err-clause-starts : goal.returns-in-Err-clause-starts
returns-in-Err-clause-starts g c fresh setup_is =
    start-failed g.D.Disk c.args.plan.now c.args.spool c.args.sizes.now c.requires.version c.requires.sizes fresh
    c.len.ensures.stands c.args.out.now c.args.out.now c.requires.out c.in-Err.spent
    (λ s is. c.in-Err.ensures.moments (standing_of g.D.Disk c.args.spool.spool) c.len.ensures.stands s is)

pub returns-in-Some-clause-calls : goal.returns-in-Some-clause-calls
returns-in-Some-clause-calls g c fresh =
    mark-moved g.D.Disk c.args.spool (standing_of g.D.Disk c.args.spool.spool) c.len.ensures.stands fresh.told
    c.args.plan.now c.in-Ok.spool c.args.setup c.args.sizes.now c.in-Some.base c.in-Some.base c.args.out.now
    c.start_with.new.out c.start_with.result
    (subst (λ (b : Option ℕ). ReservesFrom g.D.Disk c.args.spool c.in-Ok.spool b) c.in-Some.is
    c.in-Ok.ensures.reserve)
    c.start_with.ensures.starts

pub returns-in-None-clause-calls : goal.returns-in-None-clause-calls
returns-in-None-clause-calls g c fresh =
    mark-stays g.D.Disk c.args.spool (standing_of g.D.Disk c.args.spool.spool) c.len.ensures.stands fresh.told
    c.in-Ok.spool c.retire.result
    (subst (λ (b : Option ℕ). ReservesFrom g.D.Disk c.args.spool c.in-Ok.spool b) c.in-None.is
    c.in-Ok.ensures.reserve)
    c.retire.ensures.disk

pub returns-in-Err-clause-calls : goal.returns-in-Err-clause-calls
returns-in-Err-clause-calls g c fresh =
    move-stops g.D.Disk c.args.spool (standing_of g.D.Disk c.args.spool.spool) c.len.ensures.stands fresh.told
    c.in-Err.spent c.in-Err.ensures.reserve

pub returns-in-Some-clause-disk : goal.returns-in-Some-clause-disk
returns-in-Some-clause-disk g c =
    start-then g.D.Disk c.args.spool.spool.disk c.in-Ok.spool.spool.disk c.start_with.result
    (reserved-back g.D.Disk c.args.spool c.in-Ok.spool _ c.in-Ok.ensures.reserve)
    (seated-back g.D.Disk c.args.plan.now c.in-Ok.spool c.args.setup c.args.sizes.now c.in-Some.base c.args.out.now
    c.start_with.new.out c.start_with.result c.start_with.ensures.starts)

pub returns-in-None-clause-disk : goal.returns-in-None-clause-disk
returns-in-None-clause-disk g c =
    kept-then g.D.Disk c.args.spool.spool.disk c.in-Ok.spool.spool.disk c.retire.result.disk
    (reserved-back g.D.Disk c.args.spool c.in-Ok.spool _ c.in-Ok.ensures.reserve)
    (kept-at g.D.Disk c.in-Ok.spool.spool.disk c.retire.result.disk c.retire.ensures.disk)

pub returns-in-Err-clause-disk : goal.returns-in-Err-clause-disk
returns-in-Err-clause-disk g c = unreserved-back g.D.Disk c.args.spool c.in-Err.spent c.in-Err.ensures.reserve

pub returns-in-Some-clause-keeps : goal.returns-in-Some-clause-keeps
returns-in-Some-clause-keeps g c =
    start-sure g.D.Disk c.args.spool c.in-Ok.spool c.in-Some.base
    (subst (λ (b : Option ℕ). ReservesFrom g.D.Disk c.args.spool c.in-Ok.spool b) c.in-Some.is
    c.in-Ok.ensures.reserve)
    c.args.plan.now c.args.setup c.args.sizes.now c.in-Some.base c.args.out.now c.start_with.new.out
    c.start_with.result c.start_with.ensures.starts
