-- From a disk that has taken its file to the disk as it was.
use Rattle.std.proofs.Common.{◌≡◌, subst, ℕ, Option}
use Rattle.disk_base.specs.Story.{Story}
use Rattle.gl_base.specs.Told.{SinkTold}
use Rattle.equipment_tables.specs.declared.plan.EquipmentPlan.{EquipmentPlan}
use Rattle.gemline_app.specs.Filed.{BytesTold}
use Rattle.gemline_app.specs.LinkTold.{LinkTold}
use Rattle.gemline_app.specs.declared.outcome.Outcome.{Outcome}
use Rattle.tool_app.specs.Tool.{BesideTold, SpoolComes}

abbrev parts : Option Story → Option Story → ℕ → ℕ → BytesTold
parts before after faults faults_after =
    record { before = before; after = after; faults = faults; faults_after = faults_after }

module _ (plan : EquipmentPlan) (beside : BesideTold) (link : LinkTold) (out : SinkTold) (outcome : Outcome) where
  -- equal disks
  pub spool_same :
      {before before' after after' : Option Story} {a a' b b' : ℕ}
      → before ≡ before' → after ≡ after' → a ≡ a' → b ≡ b'
      → SpoolComes plan beside (parts before after a b) link out outcome
      → SpoolComes plan beside (parts before' after' a' b') link out outcome
  spool_same {before} {before'} {after} {after'} {a} {a'} {b} {b'} one two three four comes =
      subst (λ (n : ℕ). SpoolComes plan beside (parts before' after' a' n) link out outcome) four
      (subst (λ (n : ℕ). SpoolComes plan beside (parts before' after' n b) link out outcome) three
      (subst (λ (t : Option Story). SpoolComes plan beside (parts before' t a b) link out outcome) two
      (subst (λ (t : Option Story). SpoolComes plan beside (parts t after a b) link out outcome) one comes)))
