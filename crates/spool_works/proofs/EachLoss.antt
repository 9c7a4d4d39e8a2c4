-- What holds of the file before a work, and of what stands behind each gate of it, holds of what each loss leaves.
use Rattle.std.proofs.Common.{Bool, true, false, ℕ, ◌+◌, length, List, [], ◌∷◌, ◌++◌, map}
use Rattle.disk_base.specs.Calls.{DiskCall}
use Rattle.disk_base.specs.declared.cut.CutChoice.{CutChoice}
use Rattle.gem_spool.specs.Updates.{Commit, Left, Update, behind_commit, behind_update, by_gate, closing_losses}
use Rattle.gem_spool.specs.Updates.{commit_losses, losses_in, stays}
use Rattle.gem_spool.specs.Updates.Commit.{ByGate, ByGates, Nothing}
use Rattle.gem_spool.specs.Standing.{Standing}
use Rattle.gem_spool.specs.Works.{purge_updates, standing_after}
use Rattle.gem_spool.specs.declared.works.Work.TheVariants as work
use Rattle.spool_file.specs.File.{SpoolFile}
use Rattle.spool_file.specs.Sizes.{slots_for}
use Rattle.spool_file.specs.Slot.{Message}
use Rattle.spool_slots.specs.Calls.{synced}
use Rattle.spool_slots.specs.Files.{gates_shut, with_gates}
use Rattle.spool_slots.specs.Losses.{file_left, gate_counts, gates_left}
use Rattle.spool_works.specs.DiskWorks.{DiskWork, updates_at, standing_behind}
use Rattle.spool_works.specs.DiskWorks.DiskWork.{Change, Keep, ReadOldest, Reserve}
use Rattle.spool_works.specs.WorkLosses.{calls_at}
use Rattle.spool_works.proofs.LossCounts.{Each}

module _ (Good : SpoolFile → Type 0) where
  -- whatever becomes of the disk
  abbrev pub LeavesGood : Left → Type 0
  LeavesGood left = (choice : CutChoice) → Good (left choice)

  -- whichever gates are open
  abbrev pub IsGoodBar : SpoolFile → Type 0
  IsGoodBar file = (gates : List Bool) → Good (with_gates gates file)

  abbrev pub IsGoodBehind : Standing → Commit → Type 0
  IsGoodBehind st Nothing = Unit {0}
  IsGoodBehind st (ByGate gate) = Good gate.behind.file
  IsGoodBehind st (ByGates gates) = Good gates.behind.file × IsGoodBar st.file

  abbrev pub AreGoodBehind : Standing → List Update → Type 0
  AreGoodBehind st [] = Unit {0}
  AreGoodBehind st (update ∷ updates) =
      IsGoodBehind st update.commit × AreGoodBehind (behind_update st update) updates

  -- ---- updates

  each-both : (xs ys : List Left) → Each LeavesGood xs → Each LeavesGood ys → Each LeavesGood (xs ++ ys)
  each-both [] ys first second = second
  each-both (x ∷ xs) ys first second = (first.0, each-both xs ys first.1 second)

  early-good : (st : Standing) (calls : List DiskCall) → Good st.file → Each LeavesGood (map (λ call. stays st) calls)
  early-good st [] is = tt
  early-good st (call ∷ calls) is = (λ choice. is, early-good st calls is)

  gate-good : (means : ℕ → Bool) (done undone : Standing) → Good done.file → Good undone.file
      → LeavesGood (by_gate means done undone)
  gate-good means done undone is is_not choice = go (gate_counts choice means)
    where
      go : (counts : Bool) → Good (file_left counts done.file undone.file)
      go true = is
      go false = is_not

  closing-good : (st : Standing) (marks : ℕ → List Bool) (m : ℕ) (calls : List DiskCall) → IsGoodBar st.file
      → Each LeavesGood (closing_losses st marks m calls)
  closing-good st marks m [] bar = tt
  closing-good st marks m (call ∷ calls) bar =
      (λ choice. bar (gates_left choice (marks (m + 1)) st.file.gates), closing-good st marks (m + 1) calls bar)

  commit-good : (st : Standing) (commit : Commit) → Good st.file → IsGoodBehind st commit
      → Each LeavesGood (commit_losses st commit)
  commit-good st Nothing is behind = tt
  commit-good st (ByGate gate) is behind =
      let good = gate-good gate.means gate.behind st behind is in (good, (good, tt))
  commit-good st (ByGates gates) is behind = closing-good st gates.marks 0 (synced gates.calls) behind.1

  next-good : (st : Standing) (commit : Commit) → Good st.file → IsGoodBehind st commit
      → Good (behind_commit st commit).file
  next-good st Nothing is behind = is
  next-good st (ByGate gate) is behind = behind
  next-good st (ByGates gates) is behind = behind.0

  pub each-left : (updates : List Update) (st : Standing) → Good st.file → AreGoodBehind st updates
      → Each LeavesGood (losses_in st updates)
  each-left [] st is behind = tt
  each-left (update ∷ updates) st is behind =
      each-both (map (λ call. stays st) update.early ++ commit_losses st update.commit)
      (losses_in (behind_update st update) updates)
      (each-both (map (λ call. stays st) update.early) (commit_losses st update.commit) (early-good st update.early is)
      (commit-good st update.commit is behind.0))
      (each-left updates (behind_update st update) (next-good st update.commit is behind.0) behind.1)

  -- ---- works

  module _ (st : Standing) where
    purge-good : (list : List Message) → Good (standing_after st work.Purge).file
        → AreGoodBehind st (purge_updates list st)
    purge-good [] after = tt
    purge-good (message ∷ list) after = (after, tt)

    behind-good : (one : DiskWork) → IsGoodBar st.file → Good (standing_behind st one).file
        → AreGoodBehind st (updates_at st one)
    behind-good Reserve bar after = (after, tt)
    behind-good (Keep bytes) bar after = (tt, (after, tt))
    behind-good (ReadOldest slots) bar after = (tt, tt)
    behind-good (Change (work.Put stream function body)) bar after =
        ((bar (gates_shut st.file.slots st.next (slots_for (length body)) st.file.gates), bar), (after, tt))
    behind-good (Change (work.DropOldest slots)) bar after = (after, tt)
    behind-good (Change work.Purge) bar after = purge-good st.file.list after

    -- a put may have closed some stale gates by then
    pub each-work : (one : DiskWork) → Good st.file → IsGoodBar st.file → Good (standing_behind st one).file
        → Each LeavesGood (calls_at st one)
    each-work one is bar after = each-left (updates_at st one) st is (behind-good one bar after)
