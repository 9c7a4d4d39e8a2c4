-- That a step over a disk that stops breaks at the planned call, and one whose disk goes on misses the call that fails.
use Rattle.std.proofs.Common.{◌≡◌, refl, sym, ap, subst, inl, inr, arith, zero, suc, ℕ, ◌+◌, ◌&&◌, not, Bool, true, false, List, [], ◌∷◌, ◌++◌, map, Some, if◌then◌else◌}
use Rattle.std.proofs.lemmas.Bool.Decides.{nat_tests}
use Rattle.std.specs.List.{slice_get}
use Rattle.std.specs.Prelude.{Result, Ok, Err}
use Rattle.disk_base.specs.Story.{Story}
use Rattle.disk_base.specs.declared.disk.Disk as disk
use Rattle.gem_spool.proofs.Called.{fails_makes}
use Rattle.gem_spool.specs.declared.spool.GemSpool.{GemSpool}
use Rattle.gem_spool.specs.declared.works.Work.{Work}
use Rattle.gem_spool.specs.Standing.{Standing}
use Rattle.gem_spool.specs.Works.{Does}
use Rattle.host_node.specs.Host.{HostOwn, Kind}
use Rattle.message_end.specs.Ends.{Input, Loss, call_of, printed}
use Rattle.message_end.specs.Parts.{Node}
use Rattle.message_flow.specs.declared.step.Note.{Note}
use Rattle.message_flow.specs.declared.step.StepOut.{StepOut}
use Rattle.spool_slots.specs.declared.states.Spent.{Spent as Device}
use Rattle.spool_works.specs.Breaking.{HasLeftAt, IsGoingDisk}
use Rattle.spool_works.specs.DiskCalls.{HasMade, all_disk_calls, disk_calls}
use Rattle.spool_works.specs.DiskWorks.{DiskWork, standings_behind, up_to_change}
use Rattle.spool_works.specs.DiskWorks.DiskWork.{Change, Reserve}
use Rattle.spool_works.specs.WorkLosses.{calls_at, lost_calls}
use Rattle.spool_works.proofs.BrokenList.{work-breaks}
use Rattle.spool_works.proofs.BrokenWorks.{reserve-left}
use Rattle.spool_works.proofs.Called.{failed-all, mark-stops}
use Rattle.spool_works.proofs.LossCounts.{lost-call}
use Rattle.trace_log.specs.declared.commands.HostCommand.{HostCommand}
use Rattle.trace_log.specs.Log.{Happening}
use Rattle.journal_node.specs.declared.journal_host.JournalEnded.{JournalEnded}
use Rattle.journal_node.specs.declared.journal_host.JournalEnded.TheVariants as ended
use Rattle.journal_node.specs.Amid.{Acts, HasOpened, Opens, opened}
use Rattle.journal_node.specs.Held.{Held, IsIn, IsReady, view_in}
use Rattle.journal_node.specs.Journal.{JournalView, act, is_marked_out, needs_numbers, noted_by, put_of, standing_in}
use Rattle.journal_node.specs.Stepping.{BreaksAt, BreaksBy, CallsInStep, HasBrokenAt, HasMissedAt, Passes}
use Rattle.journal_node.specs.Works.{left_as, loss_at, losses, losses_of, reserve_works, works_behind, works_of}
use Rattle.journal_node.proofs.Broken.{breaks-behind, breaks-before, broken-before, passed-by}
use Rattle.journal_node.proofs.Missed.{missed-before, missed-behind, missed-work, passes-works}
use Rattle.journal_node.proofs.OnDisk.{few-needs, opens}
use Rattle.journal_node.proofs.StepCalled.{reserve-made, step-called, unopened-called, works-by}
use Rattle.journal_node.proofs.StepMoves.{puts-then, reserved-behind}

-- ---- losses

get-map : {X Y : Type 0} (f : X → Y) (xs : List X) (n : ℕ) (x : X) → slice_get xs n ≡ Some x
    → slice_get (map f xs) n ≡ Some (f x)
get-map f [] n x is = absurd (cc)
get-map f (y ∷ xs) zero x is = ap (λ z. Some (f z)) (let same : y ≡ x = cc in same)
get-map f (y ∷ xs) (suc n) x is = get-map f xs n x is

call-map : {X Y : Type 0} (f : X → Y) (xs : List X) (n : ℕ) (x : X) → call_of n xs ≡ Some x
    → call_of n (map f xs) ≡ Some (f x)
call-map f xs zero x is = absurd (cc)
call-map f xs (suc n) x is = get-map f xs n x is

broken-of :
    (s : JournalView) (one : DiskWork) (st : Standing) (front : List Happening) (call : ℕ) (t : Story)
    (notes : List Note) → notes ≡ printed front → HasLeftAt (calls_at st one) call t
    → HasBrokenAt (map (loss_at (left_as s) front) (lost_calls st one)) call t notes
broken-of s one st front call t notes noted at =
    let lost = lost-call st one call at.left at.is in
    record {
      loss = loss_at (left_as s) front (lost.0, at.left);
      is = call-map (loss_at (left_as s) front) (lost_calls st one) call (lost.0, at.left) lost.1;
      left = at.at;
      noted = noted;
    }

abbrev reserve_by : Bool → List DiskWork
reserve_by is = if is then Reserve ∷ [] else []

losses-reserve :
    (s : JournalView) (is : Bool) (works : List DiskWork) (st : Standing) (notes : List Happening)
    → losses_of (left_as s) st [] (reserve_by is ++ works) notes
    ≡ losses_of (left_as s) st [] (reserve_by is) []
    ++ losses_of (left_as s) (standings_behind st (reserve_by is)) [] works notes
losses-reserve s true works st notes = refl
losses-reserve s false works st notes = refl

only-one : {X : Type 0} (x y : X) → slice_get (x ∷ []) 0 ≡ Some y → x ≡ y
only-one x y is = cc

module _ {D : Type 0} (members : disk.Ghosts D) (h : Held D) (input : Input HostCommand) (now : ℕ)
    (on : IsIn members h)
  where
    abbrev s : JournalView
    s = view_in members h

    abbrev old : D
    old = h.journal.spool.disk

    abbrev begun : Standing
    begun = standing_in s

    abbrev noted : List Happening
    noted = noted_by s input now

    abbrev All : Type 0
    All = List (Loss JournalView)

    abbrev reserve_losses : List DiskWork → All
    reserve_losses works = losses_of (left_as s) begun [] works []

    -- the losses of a step are those of the reserve, and those behind it
    losses-parted :
        losses s input now
        ≡ reserve_losses (reserve_works s)
        ++ losses_of (left_as s) (standings_behind begun (reserve_works s)) [] (works_behind (act s input now)) noted
    losses-parted =
        losses-reserve s (needs_numbers s && not (is_marked_out s.file.mark.value)) (works_behind (act s input now))
        begun noted

    -- all of its calls were made
    all-passed : (new : D) → HasMade members old new (all_disk_calls begun (works_of s input now))
        → Passes members old (losses s input now) new
    all-passed new made = passes-works members s old new (works_of s input now) begun [] noted made

    abbrev Breaks : All → Device D → List Note → Type 0
    Breaks lost spent notes =
        (IsGoingDisk (members.health old) → BreaksAt members old lost spent.disk notes)
        × HasMissedAt members old spent.disk lost notes

    module _ (node : Node HostOwn Kind) (g : GemSpool D) (at : HasOpened members s node g)
        (made : HasMade members old g.spool.disk (all_disk_calls begun (reserve_works s)))
      where
        abbrev st : Standing
        st = standing_in (opened s)

        passed : Passes members old (reserve_losses (reserve_works s)) g.spool.disk
        passed = passes-works members s old g.spool.disk (reserve_works s) begun [] [] made

        -- the disk has failed in the put
        put-breaks :
            (spent : Device D) (notes : List Note) (one : Work) → Does members g one (Err spent)
            → notes ≡ printed (up_to_change noted)
            → Breaks
            (reserve_losses (reserve_works s) ++ losses_of (left_as s) st [] (Change one ∷ []) noted) spent notes
        put-breaks spent notes one fails noted_is = (
          λ goes.
              breaks-behind members old g.spool.disk spent.disk (reserve_losses (reserve_works s)) (lost
              ++ []) notes goes
              passed
              (λ t new images stopped.
              broken-before lost [] (members.health g.spool.disk).stop_in t notes
              (broken-of s (Change one) st (up_to_change noted) (members.health g.spool.disk).stop_in t notes noted_is
              (work-breaks members spent t new images stopped g one st at.on.told.0
              (record {
                stands = at.on.stands;
                told = at.on.told.1;
                goes = (passed-by members old g.spool.disk (reserve_losses (reserve_works s)) passed goes).on;
              })
              fails))),
          missed-behind members old g.spool.disk spent.disk (reserve_losses (reserve_works s)) (lost ++ []) notes passed
              (missed-before members g.spool.disk spent.disk lost [] notes
              (missed-work members s st (Change one) (up_to_change noted) g.spool.disk spent.disk notes noted_is
              (failed-all members g.spool.disk spent.disk (disk_calls st (Change one))
              (fails_makes members g one spent st at.on.stands at.on.told.0 at.on.told.1 fails)))),
        )
          where
            lost : All
            lost = map (loss_at (left_as s) (up_to_change noted)) (lost_calls st (Change one))

        acts-breaks : (out : StepOut) (result : Result (Held D) (JournalEnded D))
            → Acts members node g input now out result → CallsInStep members h input now result
            → BreaksBy members h input now out.notes result
        acts-breaks out (Ok k) acts calls = all-passed k.journal.spool.disk calls
        acts-breaks out (Err (ended.NumbersSpent spent)) acts calls = all-passed spent.disk calls
        acts-breaks out (Err (ended.JournalFull spent)) acts calls = all-passed spent.disk calls
        acts-breaks out (Err (ended.NoMemory spent)) acts calls = tt
        acts-breaks out (Err (ended.DiskFailed spent)) (inl ends) calls = absurd ends
        acts-breaks out (Err (ended.DiskFailed spent)) (inr unlisted) calls =
            let puts = puts-then members s node g at input now out spent unlisted in
            let undone = puts.2 in
            subst (λ (all : All). Breaks all spent out.notes) (sym losses-parted)
            (subst
            (λ (works : List DiskWork).
            Breaks
            (reserve_losses (reserve_works s)
            ++ losses_of (left_as s) (standings_behind begun (reserve_works s)) [] works noted) spent out.notes)
            (sym puts.1)
            (subst
            (λ (x : Standing).
            Breaks
            (reserve_losses (reserve_works s) ++ losses_of (left_as s) x [] (Change (put_of puts.0) ∷ []) noted) spent
            out.notes)
            (sym (reserved-behind members s node g at input now))
            (put-breaks spent out.notes (put_of puts.0)
            (subst (λ (one : Work). Does members g one (Err spent))
            (sym (only-one (put_of puts.0) undone.failed undone.is))
            (subst (λ (x : GemSpool D). Does members x undone.failed (Err spent)) undone.done undone.fails))
            puts.3)))

    pub step-breaks :
        (node : Node HostOwn Kind) (g : GemSpool D) (out : StepOut) (result : Result (Held D) (JournalEnded D))
        → IsReady h.journal.spool h.host → Opens members h.host h.journal node (Ok g)
        → Acts members node g input now out result → BreaksBy members h input now out.notes result
    step-breaks node g out result ready is acts =
        acts-breaks node g (opens members s refl h.host node h.journal g refl on ready is)
        (reserve-made members h input now on node g is) out result acts
        (step-called members h input now on node g out result ready is acts)

    -- it hasn't numbers enough
    pub unopened-breaks :
        (node : Node HostOwn Kind) (notes : List Note) (end : JournalEnded D) → notes ≡ []
        → Opens members h.host h.journal node (Err end) → BreaksBy members h input now notes (Err end)
    unopened-breaks node notes (ended.NumbersSpent spent) none is =
        all-passed spent.disk (unopened-called members h input now on node (ended.NumbersSpent spent) is)
    unopened-breaks node notes (ended.DiskFailed spent) none is =
        let most = is.reserve.0 in
        let mark = on.stands.mark in
        let room : is_marked_out s.file.mark.value ≡ false = grind (arith, nat_tests, most, mark) in
        subst (λ (all : All). Breaks all spent notes) (sym losses-parted)
        (subst
        (λ (works : List DiskWork).
        Breaks
        (reserve_losses works
        ++ losses_of (left_as s) (standings_behind begun works) [] (works_behind (act s input now)) noted) spent notes)
        (sym (works-by members h input now on true false (few-needs members s refl h.host refl is.few) room)) (
          λ goes.
              breaks-before members old spent.disk (lost ++ []) rest notes
              (λ t new images stopped.
              broken-before lost [] (members.health old).stop_in t notes
              (broken-of s Reserve begun [] (members.health old).stop_in t notes none
              (reserve-left members h.journal.spool begun spent on.told.0 t on.stands on.told.1 new images goes stopped
              is.reserve))),
          missed-before members old spent.disk (lost ++ []) rest notes
              (missed-before members old spent.disk lost [] notes
              (missed-work members s begun Reserve [] old spent.disk notes none
              (mark-stops members h.journal.spool spent.disk begun on.stands on.told.0 on.told.1 is.reserve))),
        ))
      where
        lost : All
        lost = map (loss_at (left_as s) []) (lost_calls begun Reserve)

        rest : All
        rest = losses_of (left_as s) (standings_behind begun (Reserve ∷ [])) [] (works_behind (act s input now)) noted
    unopened-breaks node notes (ended.JournalFull spent) none is = absurd is
    unopened-breaks node notes (ended.NoMemory spent) none is = absurd is
