-- What the calls of whole works pass: the planned one isn't among them, and the spool stands as they leave it.
use Rattle.std.proofs.Common.{◌≡◌, ℕ, inl, inr, arith, Some, Ok}
use Rattle.disk_base.specs.Faults.{DiskHealth, IsUsed}
use Rattle.disk_base.specs.Story.{Story}
use Rattle.disk_base.specs.declared.disk.Disk as disk
use Rattle.disk_base.proofs.Stretches.{lists_on}
use Rattle.gem_spool.proofs.Amid.{does_amid}
use Rattle.gem_spool.proofs.Called.{does_makes}
use Rattle.gem_spool.proofs.Doing.{does_stands}
use Rattle.gem_spool.specs.declared.spool.GemSpool.{GemSpool}
use Rattle.gem_spool.specs.Standing.{Standing, Stands}
use Rattle.gem_spool.specs.Works.{Does, IsSized, bytes_of, calls_of, standing_after}
use Rattle.gem_spool.specs.declared.works.Work.{Work}
use Rattle.spool_slots.specs.Spool.{SpoolView}
use Rattle.spool_works.specs.Breaking.{HasPassed, IsGoingDisk}

pub used-passes : (h k : DiskHealth) (calls n : ℕ) → IsUsed h k calls n → IsGoingDisk h → HasPassed h k calls
used-passes h k calls n used goes = record {
  passes = λ among. used.unplanned (inr (inl among));
  nearer = used.stop_left;
  on = record {
    fails_not = let left = used.fail_left in let none = goes.fails_not in omega (arith, left, none);
    going = lists_on h k calls n used goes.going;
  };
}

module _ {D : Type 0} (members : disk.Ghosts D) where
  -- how a spool stands on a disk that goes on
  pub record IsOver (v : SpoolView D) (st : Standing) (s : Story) : Type 0 where
    pub stands : Stands members v st
    pub told : members.told v.disk ≡ Some s
    pub goes : IsGoingDisk (members.health v.disk)

  -- some calls more have been made, and it stands so
  pub record HasComeTo (v w : SpoolView D) (calls : ℕ) (st : Standing) : Type 0 where
    pub mid : Story
    pub over : IsOver w st mid
    pub passed : HasPassed (members.health v.disk) (members.health w.disk) calls

  pub work-passes :
      (g h : GemSpool D) (one : Work) (st : Standing) (s : Story) → IsOver g.spool st s → IsSized st.file.list one
      → Does members g one (Ok h)
      → HasComeTo g.spool h.spool (calls_of st one) (standing_after st one)
  work-passes g h one st s is sized does =
      let mid = does_amid members g h one st is.stands does s is.told in
      record {
        mid = mid.0;
        over = record { stands = does_stands members g h one st is.stands sized does; told = mid.1; goes = passed.on };
        passed = passed;
      }
    where
      passed : HasPassed (members.health g.spool.disk) (members.health h.spool.disk) (calls_of st one)
      passed =
          used-passes (members.health g.spool.disk) (members.health h.spool.disk) (calls_of st one) (bytes_of st one)
          (does_makes members g h one st is.stands s is.told does).cause is.goes
