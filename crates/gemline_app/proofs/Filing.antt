-- From a disk that has taken its file to the disk as it was.
use Rattle.std.proofs.Common.{◌≡◌, subst, ℕ, List, Option}
use Rattle.disk_base.specs.Story.{Story}
use Rattle.gl_base.specs.Told.{SinkTold}
use Rattle.end_run.specs.Scenes.{StopAt}
use Rattle.end_run.specs.Script.{ScriptLine}
use Rattle.gemline_app.specs.Filed.{BytesTold, Filed, SpoolRuns}
use Rattle.gemline_app.specs.LinkTold.{LinkTold}
use Rattle.gemline_app.specs.declared.outcome.Outcome.{Outcome}

abbrev parts : Option Story → Option Story → ℕ → ℕ → BytesTold
parts before after faults faults_after =
    record { before = before; after = after; faults = faults; faults_after = faults_after }

module _ {P S C : Type 0} (filed : Filed P S C) (HoldsLeft : S → Option (StopAt S C) → Option Story → Type 0)
    (plan : P) (lines : List ScriptLine) (polls : ℕ) (link : LinkTold) (out : SinkTold)
  where
    abbrev Ran : BytesTold → Outcome → Type 0
    Ran disk outcome = SpoolRuns filed HoldsLeft plan lines polls disk link out outcome

    -- equal disks and outcomes
    pub spool_same :
        {before before' after after' : Option Story} {a a' b b' : ℕ} {o o' : Outcome}
        → before ≡ before' → after ≡ after' → a ≡ a' → b ≡ b' → o ≡ o' → Ran (parts before after a b) o
        → Ran (parts before' after' a' b') o'
    spool_same {before} {before'} {after} {after'} {a} {a'} {b} {b'} {o} {o'} one two three four five runs =
        subst (λ (x : Outcome). Ran (parts before' after' a' b') x) five
        (subst (λ (n : ℕ). Ran (parts before' after' a' n) o) four
        (subst (λ (n : ℕ). Ran (parts before' after' n b) o) three
        (subst (λ (t : Option Story). Ran (parts before' t a b) o) two
        (subst (λ (t : Option Story). Ran (parts t after a b) o) one runs))))
