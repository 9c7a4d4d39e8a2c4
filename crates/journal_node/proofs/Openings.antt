-- What the calls below say of a reserve, as the code tells of it.
use Rattle.std.proofs.Common.{◌≡◌, sym, ap, subst, ◌∙◌, arith, ◌+◌, ◌-◌, ◌≤◌, ◌^◌, nat_le, true, false, ℕ, Option, Some, None}
use Rattle.std.proofs.lemmas.Bool.Decides.{nat_tests}
use Rattle.disk_base.specs.Story.{Story}
use Rattle.disk_base.specs.Through.{GoesThrough}
use Rattle.disk_base.specs.declared.disk.Disk as disk
use Rattle.gem_spool.specs.declared.spool.GemSpool.{GemSpool}
use Rattle.gem_spool.specs.Spool.{ReservesFrom}
use Rattle.gem_spool.specs.Standing.{Standing, Stands}
use Rattle.gem_spool.specs.Works.{IsMarked, standing_after_reserve}
use Rattle.host_node.specs.Calls.{refilled}
use Rattle.host_node.specs.Host.{HostOwn, Kind}
use Rattle.line_end.specs.declared.plan.HostPlan.{HostPlan}
use Rattle.message_end.specs.Ends.{IsEmpty}
use Rattle.message_end.specs.Parts.{Node}
use Rattle.message_flow.specs.declared.step.StepOut.{StepOut}
use Rattle.spool_slots.specs.declared.states.Spent.{Spent as Device}
use Rattle.std.specs.Prelude.{Result, Ok, Err}
use Rattle.journal_node.specs.declared.journal_host.JournalStarting.{JournalStarting}
use Rattle.journal_node.specs.declared.journal_host.JournalStarting.TheVariants as starting
use Rattle.journal_node.specs.Amid.{HasEnough, HasFew, HasMoved, HasNoMark, HasNone, HasReserved, StartsOn, StartsWith}
use Rattle.journal_node.specs.Held.{Held, IsReady}

pub enough : (node : Node HostOwn Kind) → true ≡ nat_le 128 (node.core.numbers.end - node.core.numbers.next)
    → HasEnough node
enough node is = grind (arith, nat_tests, is)

pub few : (node : Node HostOwn Kind) → false ≡ nat_le 128 (node.core.numbers.end - node.core.numbers.next) → HasFew node
few node is = grind (arith, nat_tests, is)

module _ {D : Type 0} (members : disk.Ghosts D) (g h : GemSpool D) where
  -- what a call answers of its base, by what that is
  abbrev Reserves : Option ℕ → Type 0
  Reserves answer = ReservesFrom members g h answer

  abbrev StandsBy : Option ℕ → Type 0
  StandsBy answer = (st : Standing) → Stands members g.spool st → Stands members h.spool
      (standing_after_reserve answer st)

  abbrev Passes : Type 0
  Passes =
      (st : Standing) → Stands members g.spool st → (s : Story) → members.told g.spool.disk ≡ Some s
      → GoesThrough s (members.told h.spool.disk) (IsMarked st)

  module _ (answer : Option ℕ) (base : ℕ) (is : answer ≡ Some base) (done : Reserves answer) where
    made : Reserves (Some base)
    made = subst Reserves is done

    pub most : base + 4096 ≤ 2 ^ 32
    most = subst (λ (n : ℕ). n + 4096 ≤ 2 ^ 32) (sym made.0.1) made.0.0.0

    pub follows : (node : Node HostOwn Kind) → IsReady g.spool node → base ≡ node.core.numbers.end
    follows node ready = made.0.1 ∙ sym ready.mark

    pub version-then : g.spool.version ≡ 2 → h.spool.version ≡ 2
    version-then version = ap (λ v. v.version) made.0.2 ∙ version

    pub mark-then : h.spool.mark ≡ base + 4096
    mark-then = ap (λ v. v.mark) made.0.2 ∙ ap (λ (n : ℕ). n + 4096) (sym made.0.1)

    pub opens-with : (old new : Node HostOwn Kind) → HasFew old → new ≡ refilled base old → StandsBy answer → Passes
        → HasReserved members old g new h
    opens-with old new is_few more stands moments = record {
      few = is_few;
      base = base;
      more = more;
      reserve = made;
      stands = subst StandsBy is stands;
      moments = moments;
    }

    pub ready-then : (old new : Node HostOwn Kind) → IsReady g.spool old → new ≡ refilled base old → IsReady h.spool new
    ready-then old new ready more = record {
      version = version-then ready.version;
      mark = ap (λ n. n.core.numbers.end) more ∙ sym mark-then;
    }

    pub starts-with :
        (plan : HostPlan) (out : StepOut) (result : Result (Held D) (JournalStarting D)) → StandsBy answer → Passes
        → StartsWith plan h base out result → HasMoved members plan g out result
    starts-with plan out result stands moments starts = record {
      base = base;
      h = h;
      reserve = made;
      stands = subst StandsBy is stands;
      moments = moments;
      starts = starts;
    }

    -- whatever comes of it
    pub goes-on :
        (plan : HostPlan) (out : StepOut) (result : Result (Held D) (JournalStarting D)) → StandsBy answer → Passes
        → StartsWith plan h base out result → StartsOn members plan g out result
    goes-on plan out (Ok k) stands moments starts = starts-with plan out (Ok k) stands moments starts
    goes-on plan out (Err (starting.NoMemory spent)) stands moments starts =
        starts-with plan out (Err (starting.NoMemory spent)) stands moments starts
    goes-on plan out (Err (starting.NumbersSpent spent)) stands moments starts = absurd starts
    goes-on plan out (Err (starting.DiskFailed spent)) stands moments starts = absurd starts
    goes-on plan out (Err (starting.NotSpool raw break)) stands moments starts = absurd starts

  module _ (answer : Option ℕ) (is : answer ≡ None) (done : Reserves answer) (spent : Device D)
      (same : spent.disk ≡ h.spool.disk)
    where
      none-made : Reserves None
      none-made = subst Reserves is done

      none-same : spent.disk ≡ g.spool.disk
      none-same = same ∙ ap (λ (x : GemSpool D). x.spool.disk) none-made.0

      pub opens-without : (old : Node HostOwn Kind) → HasFew old → HasNone old g spent
      opens-without old is_few = record { few = is_few; none = none-made.1; same_disk = none-same }

      pub starts-without : (out : StepOut) → IsEmpty out → HasNoMark g out spent
      starts-without out empty = record { none = none-made.1; same_disk = none-same; empty = empty }
