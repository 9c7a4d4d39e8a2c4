-- A start over a journal that was made one of version 2.
use Rattle.std.proofs.Common.{◌≡◌, ap, ◌∙◌, inl, inr}
use Rattle.std.specs.Prelude.{Result, Ok, Err}
use Rattle.disk_base.specs.declared.disk.Disk as disk
use Rattle.gem_spool.specs.declared.spool.GemSpool.{GemSpool}
use Rattle.gem_spool.specs.Standing.{Stands, standing_of}
use Rattle.line_end.specs.declared.plan.HostPlan.{HostPlan}
use Rattle.message_flow.specs.declared.step.StepOut.{StepOut}
use Rattle.spool_slots.specs.Spool.{SpoolView}
use Rattle.journal_node.specs.declared.journal_host.JournalStarting.{JournalStarting}
use Rattle.journal_node.specs.declared.journal_host.JournalStarting.TheVariants as starting
use Rattle.journal_node.specs.Amid.{HasUpgraded, StartsOn, StartsOver}
use Rattle.journal_node.specs.Held.{Held}
use Rattle.journal_node.specs.Starting.{UpgradesOnce}

module _ {D : Type 0} (members : disk.Ghosts D) where
  pub version-two : (v w : SpoolView D) → UpgradesOnce members v (Ok w) → w.version ≡ 2
  version-two v w (inl (two, same)) = ap (λ (x : SpoolView D). x.version) same ∙ two
  version-two v w (inr (one, ups)) = ap (λ (x : SpoolView D). x.version) ups.1

  pub over-ready :
      (plan : HostPlan) (v w : SpoolView D) (g : GemSpool D) (out : StepOut)
      (result : Result (Held D) (JournalStarting D)) → UpgradesOnce members v (Ok w) → g.spool ≡ w
      → Stands members w (standing_of members w) → StartsOn members plan g out result
      → StartsOver members plan v out result
  over-ready plan v w g out result up made stands on = go result on
    where
      has : (result : Result (Held D) (JournalStarting D)) → StartsOn members plan g out result
          → HasUpgraded members plan v out result
      has result on = record { w = w; g = g; up = up; made = made; stands = stands; on = on }

      go : (result : Result (Held D) (JournalStarting D)) → StartsOn members plan g out result
          → StartsOver members plan v out result
      go (Ok k) on = has (Ok k) on
      go (Err (starting.NoMemory spent)) on = has (Err (starting.NoMemory spent)) on
      go (Err (starting.NumbersSpent spent)) on = has (Err (starting.NumbersSpent spent)) on
      go (Err (starting.DiskFailed spent)) on = inl (has (Err (starting.DiskFailed spent)) on)
      go (Err (starting.NotSpool raw break)) on = absurd on
