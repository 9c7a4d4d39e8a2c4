-- What each loss of a step leaves: a journal of version 2, and the plan.
use Rattle.std.proofs.Common.{ap, ◌∙◌, Bool, true, false, ℕ, List, [], ◌∷◌, ◌++◌, Option, Some, None, not, ◌&&◌}
use Rattle.std.proofs.Common.{if◌then◌else◌}
use Rattle.disk_base.specs.declared.cut.CutChoice.{CutChoice}
use Rattle.disk_base.specs.contracts.mem_disk.MemDiskDisk.TheImpl.{ghosts}
use Rattle.filed_end.specs.Breaking.{IsLeftOver}
use Rattle.gem_spool.specs.Standing.{Standing}
use Rattle.gem_spool.specs.Updates.{Left}
use Rattle.journal_end.specs.Filed.{MayHold, form}
use Rattle.journal_node.specs.Journal.{JournalView, act, is_marked_out, listed_of, needs_numbers, noted_by, put_of}
use Rattle.journal_node.specs.Journal.{put_works, standing_in}
use Rattle.journal_node.specs.Works.{left_as, losses, works_behind, works_of}
use Rattle.journal_node.proofs.WorkFronts.{AtEach, at-call}
use Rattle.message_end.specs.Core.{Went}
use Rattle.message_end.specs.Core.Went.{Goes, Spent}
use Rattle.message_end.specs.Ends.{Input, Loss}
use Rattle.message_end.specs.Own.{Has}
use Rattle.spool_works.specs.DiskWorks.{DiskWork, standing_behind}
use Rattle.spool_works.specs.DiskWorks.DiskWork.{Change, Reserve}
use Rattle.spool_works.proofs.EachLoss.{each-work}
use Rattle.trace_log.specs.declared.commands.HostCommand.{HostCommand}
use Rattle.trace_log.specs.Log.{Happening}
use Rattle.trace_log.specs.Names.{Record}

-- whatever is noted by then
abbrev LeavesTwo : List Happening → Left → Type 0
LeavesTwo front left = (choice : CutChoice) → MayHold (left choice)

abbrev AllTwo : Standing → List Happening → List DiskWork → List Happening → Type 0
AllTwo st before works notes = AtEach LeavesTwo st before works notes

put-two : (listed : Option Record) (st : Standing) (before notes : List Happening) → MayHold st.file
    → AllTwo st before (put_works listed) notes
put-two None st before notes two = tt
put-two (Some listed) st before notes two =
    (each-work MayHold st (Change (put_of listed)) two (λ gates. two) two, tt)

behind-two : (went : Went JournalView Happening) (st : Standing) (before notes : List Happening) → MayHold st.file
    → AllTwo st before (works_behind went) notes
behind-two (Goes step) st before notes two = put-two (listed_of step.next.node.own.delivered) st before notes two
behind-two (Spent step) st before notes two = tt

module _ (s : JournalView) (two : MayHold s.file) (input : Input HostCommand) (now : ℕ) where
  abbrev reserve_by : Bool → List DiskWork
  reserve_by reserves = if reserves then Reserve ∷ [] else []

  step-by :
      (reserves : Bool)
      → AllTwo (standing_in s) [] (reserve_by reserves ++ works_behind (act s input now)) (noted_by s input now)
  step-by true = (
    each-work MayHold (standing_in s) Reserve two (λ gates. two) two,
    behind-two (act s input now) (standing_behind (standing_in s) Reserve) [] (noted_by s input now) two,
  )
  step-by false = behind-two (act s input now) (standing_in s) [] (noted_by s input now) two

  step-two : AllTwo (standing_in s) [] (works_of s input now) (noted_by s input now)
  step-two = step-by (needs_numbers s && not (is_marked_out s.file.mark.value))

  pub left-over : (loss : Loss JournalView) → Has (losses s input now) loss → (choice : CutChoice)
      → IsLeftOver (form ghosts) MayHold s (loss.left choice)
  left-over loss has choice =
      let at =
      at-call (left_as s) LeavesTwo (works_of s input now) (standing_in s) [] (noted_by s input now) loss step-two has
      in
      record {
        may = ap (λ (one : Loss JournalView). (one.left choice).file.version) at.is ∙ at.at choice;
        plan_is = ap (λ (one : Loss JournalView). (one.left choice).node.own.plan) at.is;
      }
