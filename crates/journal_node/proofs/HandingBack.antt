-- That each call hands back the device of the journal.
use Rattle.std.proofs.Common.{◌≡◌, refl, sym, subst, ◌∙◌, inl, inr, ℕ, List, [], ◌∷◌, Option, Some, None}
use Rattle.std.specs.Prelude.{Result, Ok, Err}
use Rattle.disk_base.specs.Faults.{Rose}
use Rattle.disk_base.specs.SameDisk.{IsSameDisk}
use Rattle.disk_base.specs.declared.disk.Disk as disk
use Rattle.disk_base.proofs.Stretches.{same_then}
use Rattle.gem_spool.specs.Spool.{ReservesFrom, ReservesMore}
use Rattle.gem_spool.specs.Works.{Does, DoesAll, HasCarried, HasUndone}
use Rattle.gem_spool.specs.declared.spool.GemSpool.{GemSpool}
use Rattle.gem_spool.specs.declared.works.Work.{Work}
use Rattle.gem_spool.specs.declared.works.Work.TheVariants as work
use Rattle.host_node.specs.Host.{HostOwn, Kind}
use Rattle.message_end.specs.Ends.{Input}
use Rattle.message_end.specs.Parts.{Node}
use Rattle.message_flow.specs.declared.step.StepOut.{StepOut}
use Rattle.spool_slots.specs.Changes.{Clears}
use Rattle.spool_slots.specs.Spool.{SpoolView}
use Rattle.spool_slots.specs.declared.states.Spent.{Spent}
use Rattle.spool_works.specs.HandedBack.{HasFailed, IsKept}
use Rattle.trace_log.specs.declared.commands.HostCommand.{HostCommand}
use Rattle.trace_log.specs.Names.{Record}
use Rattle.journal_node.specs.declared.journal_host.JournalEnded.{JournalEnded}
use Rattle.journal_node.specs.declared.journal_host.JournalEnded.TheVariants as ended
use Rattle.journal_node.specs.Amid.{Acts, ListsOf, Opens, entry_works}
use Rattle.journal_node.specs.Held.{Held}
use Rattle.journal_node.specs.Journal.{listed_of}
use Rattle.journal_node.specs.Stepping.{EndsBack, StepHandsBack}

module _ {D : Type 0} (members : disk.Ghosts D) where
  abbrev Same : D → D → Type 0
  Same old new = IsSameDisk members old new

  pub kept-still : (a : D) → IsKept members a a
  kept-still a = record { same_disk = (refl, refl, refl); count = refl }

  pub kept-at : (a b : D) → b ≡ a → IsKept members a b
  kept-at a b is = subst (λ (x : D). IsKept members a x) (sym is) (kept-still a)

  pub kept-then : (a b c : D) → IsKept members a b → IsKept members b c → IsKept members a c
  kept-then a b c one two =
      record { same_disk = same_then one.same_disk two.same_disk; count = two.count ∙ one.count }

  pub failed-then : (a b c : D) → IsKept members a b → HasFailed members b c → HasFailed members a c
  failed-then a b c one two = record {
    same_disk = same_then one.same_disk two.same_disk;
    rose = subst (λ (n : ℕ). Rose n (members.health c).faults) one.count two.rose;
  }

  -- ---- a work

  cleared-same : (v w : SpoolView D) → Clears members v (Ok w) → Same v.disk w.disk
  cleared-same v w (inl (none, at_first, same, empty)) =
      subst (λ (x : SpoolView D). Same v.disk x.disk) (sym same) (refl, refl, refl)
  cleared-same v w (inr (moves, is)) = moves.1.0.same_disk

  work-same : (g h : GemSpool D) (one : Work) → Does members g one (Ok h) → Same g.spool.disk h.spool.disk
  work-same g h (work.Put stream function body) does =
      let both = does.1 in same_then both.1.0.made.same_disk both.2.0.disk.same_disk
  work-same g h (work.DropOldest slots) does = does.0.0.made.same_disk
  work-same g h work.Purge does = cleared-same g.spool h.spool does.0

  work-failed-same :
      (g : GemSpool D) (spent : Spent D) (one : Work) → Does members g one (Err spent) → Same g.spool.disk spent.disk
  work-failed-same g spent (work.Put stream function body) (put, inl staged) = staged.0.made.same_disk
  work-failed-same g spent (work.Put stream function body) (put, inr (u, staged, sealed)) =
      same_then staged.0.made.same_disk sealed.0.disk.same_disk
  work-failed-same g spent (work.DropOldest slots) does = does.0.made.same_disk
  work-failed-same g spent work.Purge does = does.1.0.same_disk

  works-same : (works : List Work) (g h : GemSpool D) → DoesAll members g works h → Same g.spool.disk h.spool.disk
  works-same [] g h is = subst (λ (x : GemSpool D). Same g.spool.disk x.spool.disk) (sym is) (refl, refl, refl)
  works-same (one ∷ works) g h (u, first, more) = same_then (work-same g u one first) (works-same works u h more)

  -- ---- the put

  put-back : (g h : GemSpool D) (listed : Record) → HasCarried members g (entry_works listed) h
      → IsKept members g.spool.disk h.spool.disk
  put-back g h listed is = record {
    same_disk = works-same
        (entry_works listed) g h is.done;
    count = is.goes_on.cause.same;
  }

  put-undone : (g : GemSpool D) (listed : Record) (spent : Spent D)
      → HasUndone members g (entry_works listed) (record { at = 0; spent = spent })
      → HasFailed members g.spool.disk spent.disk
  put-undone g listed spent is = record {
    same_disk =
        subst (λ (x : GemSpool D). Same x.spool.disk spent.disk) is.done
        (work-failed-same is.before spent is.failed is.fails);
    rose = is.goes_on.cause.rose;
  }

  lists-back :
      (listed : Option Record) (node : Node HostOwn Kind) (g h : GemSpool D) (mid out : StepOut)
      → ListsOf members listed g mid out (Ok h) → IsKept members g.spool.disk h.spool.disk
  lists-back None node g h mid out lists =
      subst (λ (x : GemSpool D). IsKept members g.spool.disk x.spool.disk) (sym lists.0) (kept-still g.spool.disk)
  lists-back (Some listed) node g h mid out lists = put-back g h listed lists.1

  unlisted-back :
      (listed : Option Record) (g : GemSpool D) (mid out : StepOut) (end : JournalEnded D)
      → ListsOf members listed g mid out (Err end) → EndsBack members g.spool.disk end
  unlisted-back None g mid out end lists = absurd lists
  unlisted-back (Some listed) g mid out (ended.JournalFull spent) lists = kept-at g.spool.disk spent.disk lists.2
  unlisted-back (Some listed) g mid out (ended.NumbersSpent spent) lists = kept-at g.spool.disk spent.disk lists.2
  unlisted-back (Some listed) g mid out (ended.DiskFailed spent) lists = put-undone g listed spent lists.1
  unlisted-back (Some listed) g mid out (ended.NoMemory spent) lists = kept-at g.spool.disk spent.disk lists

  -- ---- a step

  acts-back :
      (node : Node HostOwn Kind) (g : GemSpool D) (input : Input HostCommand) (now : ℕ) (out : StepOut)
      (result : Result (Held D) (JournalEnded D)) → Acts members node g input now out result
      → StepHandsBack members g.spool.disk result
  acts-back node g input now out (Ok k) acts =
      lists-back (listed_of k.host.own.delivered) k.host g k.journal acts.mid out acts.lists
  acts-back node g input now out (Err end) (inr not_listed) =
      unlisted-back (listed_of not_listed.next.own.delivered) g not_listed.mid out end not_listed.lists
  acts-back node g input now out (Err (ended.NoMemory spent)) (inl ends) = kept-at g.spool.disk spent.disk ends.1
  acts-back node g input now out (Err (ended.NumbersSpent spent)) (inl ends) = kept-at g.spool.disk spent.disk ends.1
  acts-back node g input now out (Err (ended.JournalFull spent)) (inl ends) = absurd ends
  acts-back node g input now out (Err (ended.DiskFailed spent)) (inl ends) = absurd ends

  reserved-back : (g h : GemSpool D) (base : ℕ) → ReservesFrom members g h (Some base)
      → IsKept members g.spool.disk h.spool.disk
  reserved-back g h base done = record { same_disk = done.0.0.1.0.same_disk; count = done.0.0.1.0.cause.same }

  unreserved-back : (g : GemSpool D) (spent : Spent D) → ReservesMore members g (Err spent)
      → HasFailed members g.spool.disk spent.disk
  unreserved-back g spent done = record { same_disk = done.1.0.same_disk; rose = done.1.0.cause.rose }

  opens-back :
      (old new : Node HostOwn Kind) (g h : GemSpool D) → Opens members old g new (Ok h)
      → IsKept members g.spool.disk h.spool.disk
  opens-back old new g h (inl (enough, same, is)) =
      subst (λ (x : GemSpool D). IsKept members g.spool.disk x.spool.disk) (sym is) (kept-still g.spool.disk)
  opens-back old new g h (inr is) = reserved-back g h is.base is.reserve

  back-then :
      (a b : D) (result : Result (Held D) (JournalEnded D)) → IsKept members a b → StepHandsBack members b result
      → StepHandsBack members a result
  back-then a b (Ok k) one two = kept-then a b k.journal.spool.disk one two
  back-then a b (Err (ended.NoMemory spent)) one two = kept-then a b spent.disk one two
  back-then a b (Err (ended.DiskFailed spent)) one two = failed-then a b spent.disk one two
  back-then a b (Err (ended.NumbersSpent spent)) one two = kept-then a b spent.disk one two
  back-then a b (Err (ended.JournalFull spent)) one two = kept-then a b spent.disk one two

  pub step-back :
      (old node : Node HostOwn Kind) (g h : GemSpool D) (input : Input HostCommand) (now : ℕ) (out : StepOut)
      (result : Result (Held D) (JournalEnded D)) → Opens members old g node (Ok h)
      → Acts members node h input now out result → StepHandsBack members g.spool.disk result
  step-back old node g h input now out result opens acts =
      back-then g.spool.disk h.spool.disk result (opens-back old node g h opens)
      (acts-back node h input now out result acts)

  pub unopened-back :
      (old new : Node HostOwn Kind) (g : GemSpool D) (end : JournalEnded D) → Opens members old g new (Err end)
      → EndsBack members g.spool.disk end
  unopened-back old new g (ended.NumbersSpent spent) opens = kept-at g.spool.disk spent.disk opens.same_disk
  unopened-back old new g (ended.DiskFailed spent) opens = unreserved-back g spent opens.reserve
  unopened-back old new g (ended.JournalFull spent) opens = absurd opens
  unopened-back old new g (ended.NoMemory spent) opens = absurd opens
