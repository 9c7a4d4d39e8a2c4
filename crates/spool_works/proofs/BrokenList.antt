-- What a crash leaves where a planned call has stopped the disk in one of many works.
use Rattle.std.proofs.Common.{◌≡◌, subst, arith, zero, suc, ◌+◌, ◌<◌, true, ℕ, List, [], ◌∷◌, ◌++◌, length}
use Rattle.std.proofs.Common.{length-append, Some, Err}
use Rattle.disk_base.specs.Cut.{image_of}
use Rattle.disk_base.specs.Story.{Story}
use Rattle.disk_base.specs.declared.cut.CutChoice.{CutChoice}
use Rattle.disk_base.specs.declared.disk.Disk as disk
use Rattle.gem_spool.specs.declared.spool.GemSpool.{GemSpool}
use Rattle.gem_spool.specs.Updates.{Left}
use Rattle.gem_spool.specs.Standing.{Standing}
use Rattle.gem_spool.specs.Works.{AreSized, Does, DoesAll, standing_after, standings_after}
use Rattle.gem_spool.specs.declared.works.Work.{Work}
use Rattle.gem_spool.specs.declared.works.Work.TheVariants as work
use Rattle.spool_file.specs.File.{StandsFor}
use Rattle.spool_slots.specs.declared.states.Spent.{Spent}
use Rattle.message_end.specs.Ends.{call_of}
use Rattle.spool_works.specs.Breaking.{HasLeftAt, LeavesImages}
use Rattle.spool_works.proofs.BrokenPasses.{IsOver, work-passes}
use Rattle.spool_works.proofs.BrokenWorks.{drop-left, purge-left}
use Rattle.spool_works.proofs.BrokenPuts.{put-left}
use Rattle.spool_works.proofs.LossCounts.{calls-count}
use Rattle.spool_works.specs.DiskWorks.DiskWork.{Change}
use Rattle.spool_works.specs.WorkLosses.{calls_at}

-- the calls of works, one after the other
abbrev pub works_left : Standing → List Work → List Left
works_left st [] = []
works_left st (one ∷ works) = calls_at st (Change one) ++ works_left (standing_after st one) works

module _ {D : Type 0} (members : disk.Ghosts D) (spent : Spent D) (t : Story) (new : members.told spent.disk ≡ Some t)
    (images : LeavesImages t) (stopped : (members.health spent.disk).stopped ≡ true) where
  -- at the first work
  pub work-breaks :
      (g : GemSpool D) (one : Work) (st : Standing) (s : Story) → IsOver members g.spool st s
      → Does members g one (Err spent) → HasLeftAt (calls_at st (Change one)) (members.health g.spool.disk).stop_in t
  work-breaks g (work.Put stream function body) st s is does =
      put-left members g.spool st spent s t is.stands is.told new images is.goes stopped stream function body does.0
      does.1
  work-breaks g (work.DropOldest slots) st s is does =
      drop-left members g.spool st spent s t is.stands is.told new images is.goes stopped slots does
  work-breaks g work.Purge st s is does =
      purge-left members g.spool st spent s t is.stands is.told new images is.goes stopped does

  -- or behind some that were done, at one of its own calls
  pub record HasPlace (xs : List Work) (one : Work) (st : Standing) (stop : ℕ) : Type 0 where
    pub left : Left
    pub call : ℕ
    pub is : call_of call (calls_at (standings_after st xs) (Change one)) ≡ Some left
    pub place : length (works_left st xs) + call ≡ stop
    pub at : (choice : CutChoice) → StandsFor (image_of choice t) (left choice)

  pub works-break :
      (xs : List Work) (g before : GemSpool D) (one : Work) (st : Standing) (s : Story)
      → IsOver members g.spool st s → AreSized st.next st.file.list xs → DoesAll members g xs before
      → Does members before one (Err spent) → HasPlace xs one st (members.health g.spool.disk).stop_in
  works-break [] g before one st s is sized same fails =
      let at = work-breaks g one st s is (subst (λ (x : GemSpool D). Does members x one (Err spent)) same fails) in
      record {
        left = at.left;
        call = (members.health g.spool.disk).stop_in;
        is = at.is;
        place = omega arith;
        at = at.at;
      }
  works-break (x ∷ xs) g before one st s is sized (u, does, more) fails =
      let comes = work-passes members g u x st s is sized.0 does in
      let at = works-break xs u before one (standing_after st x) comes.mid comes.over sized.1 more fails in
      record {
        left = at.left;
        call = at.call;
        is = at.is;
        place =
            let long = calls-count st (Change x) in
            let both = length-append (calls_at st (Change x)) (works_left (standing_after st x) xs) in
            let near = comes.passed.nearer in let place = at.place in
            let some =
            planned at.call (calls_at (standings_after (standing_after st x) xs) (Change one)) at.left at.is in
            omega (arith, long, both, near, place, some);
        at = at.at;
      }
    where
      planned : (k : ℕ) (calls : List Left) (left : Left) → call_of k calls ≡ Some left → 0 < k
      planned zero calls left none = absurd (cc)
      planned (suc k) calls left some = omega arith
