-- That a step over a disk that stops breaks at the planned call.
use Rattle.std.proofs.Common.{◌≡◌, inr, refl, sym, ap, subst, ◌∙◌, ◌&&◌, not, Bool, true, false, ℕ, List, [], ◌∷◌}
use Rattle.std.proofs.Common.{◌++◌, append-nil, map, Option, Some, None, is_some}
use Rattle.std.specs.Prelude.{Result, Ok, Err}
use Rattle.disk_base.specs.declared.disk.Disk as disk
use Rattle.disk_base.specs.declared.disk.DiskAnswer.TheVariants.{Done, Failed}
use Rattle.gem_spool.specs.declared.spool.GemSpool.{GemSpool}
use Rattle.gem_spool.specs.declared.works.Work.{Work}
use Rattle.gem_spool.specs.declared.count.Count.{Count}
use Rattle.gem_spool.specs.Oldest.{HasReadSlots, oldest_looks}
use Rattle.gem_spool.specs.Spool.{ReservesFrom}
use Rattle.gem_spool.specs.Standing.{Standing, Stands}
use Rattle.gem_spool.specs.Works.{AreSized}
use Rattle.message_flow.specs.declared.step.Note.{Note}
use Rattle.message_flow.specs.declared.step.StepOut.{StepOut}
use Rattle.spool_slots.specs.Changes.{Reserves}
use Rattle.spool_slots.specs.Spool.{SpoolView}
use Rattle.spool_slots.specs.declared.states.Reserving.TheVariants as reserving
use Rattle.spool_slots.specs.declared.states.Spent.{Spent as Device}
use Rattle.trace_log.specs.declared.commands.ToolCommand.{ToolCommand}
use Rattle.trace_log.specs.Log.{Happening}
use Rattle.message_end.specs.Core.{Step, Went, at_first, step_in}
use Rattle.message_end.specs.Core.Went.{Goes}
use Rattle.message_end.specs.Ends.{Input, Loss, call_of, printed}
use Rattle.message_end.specs.Parts.{Node}
use Rattle.equipment_tables.specs.Tables.{most_transmitted}
use Rattle.spool_ledger.specs.Ledger.{LedgerView, carried_out}
use Rattle.spool_ledger.specs.Sizes.{oldest_of}
use Rattle.spool_ledger.specs.Unloading.{next_number}
use Rattle.spool_works.specs.declared.ended.Ended.{Ended}
use Rattle.spool_works.specs.declared.ended.Ended.TheVariants as ended
use Rattle.tool_step.specs.declared.kind.Kind.{Kind}
use Rattle.gem_recipes.specs.declared.keeper.RecipeKeeper as keeper
use Rattle.equipment_node.specs.Keeping.{ByDisk, ServesAt}
use Rattle.equipment_node.specs.Amid.{Carries, HasCut, IsBegun, IsBegunSpent, IsCounted, Opens, WorksFit}
use Rattle.equipment_node.specs.Amid.{opened}
use Rattle.equipment_node.specs.Breaking.{BreaksAt, BreaksBy, Passes}
use Rattle.spool_works.specs.Breaking.{IsGoingDisk}
use Rattle.equipment_node.specs.Cut.{cut_at, noted_to}
use Rattle.spool_works.specs.DiskWorks.{DiskWork, standings_behind}
use Rattle.tool_step.specs.Disk.{read_works, reserve_works, standing_in, works_behind}
use Rattle.spool_works.specs.DiskWorks.DiskWork.{Change, ReadOldest, Reserve}
use Rattle.spool_works.specs.DiskCalls.{HasFailedIn, disk_calls, disk_in}
use Rattle.spool_works.specs.WorkLosses.{lost_calls}
use Rattle.tool_step.specs.Equipment.{EquipmentView, begun_step, is_marked_out, needs_numbers, reserving as opening}
use Rattle.tool_step.specs.Equipment.{kept_step, kept_view, settled, settled_step}
use Rattle.tool_step.specs.Setup.{to_keep}
use Rattle.tool_step.specs.Losses.{loss_at, losses, losses_of}
use Rattle.tool_step.specs.Own.{OwnView}
use Rattle.equipment_node.specs.Stepping.{IsClear, IsTold}
use Rattle.equipment_node.proofs.Standings.{opened-behind}
use Rattle.equipment_node.proofs.Broken.{breaks-before, breaks-behind, broken-before, passed-by, passes-both}
use Rattle.equipment_node.proofs.Missed.{missed-at, missed-before, missed-behind, missed-work, passes-works}
use Rattle.spool_works.proofs.Called.{look-stops, made-same, mark-stops}
use Rattle.spool_works.proofs.OwedLosses.{owed-left}
use Rattle.spool_works.proofs.OwedWorks.{owed-fails, owed-made}
use Rattle.spool_works.specs.Owed.{CarriesOwed, owed_works}
use Rattle.equipment_node.proofs.BrokenSteps.{loss-of, same-some}
use Rattle.spool_works.proofs.BrokenWorks.{read-left, reserve-left}
use Rattle.equipment_node.proofs.Cutting.{cut-noted, owed-front}
use Rattle.equipment_node.proofs.Opened.{mark-failed}
use Rattle.equipment_node.proofs.OverDisk.{done-standing, keeps-by, takes-settled}
use Rattle.equipment_node.proofs.Sizing.{sized-standing}
use Rattle.equipment_node.proofs.StepCalls.{below, first-is, looked-all, none-left, none-needed, none-owed}
use Rattle.equipment_node.proofs.StepCalls.{reserve-made}
use Rattle.equipment_node.proofs.BreakPlaces.{broken-of, read_by, losses-read, losses-reserve}

-- ---- over a disk

module _ {D : Type 0} (members : disk.Ghosts D) where
  -- no call was made
  pub passes-none : (old new : D) → new ≡ old → Passes members old [] new
  passes-none old new same =
      record { made = []; sized = refl; are = made-same members old new same }

  -- some were made, and then others
  pub breaks-then :
      {R : Type 0} (disk_of : R → D) (old mid : D) (one two : List (Loss EquipmentView)) (notes : List Note)
      (result : Result R (Ended D)) → Passes members old one mid
      → BreaksBy members disk_of mid two notes result → BreaksBy members disk_of old (one ++ two) notes result
  breaks-then disk_of old mid one two notes (Ok r) first later =
      passes-both members old mid (disk_of r) one two first later
  breaks-then disk_of old mid one two notes (Err (ended.NumbersSpent spent)) first later =
      passes-both members old mid spent.disk one two first later
  breaks-then disk_of old mid one two notes (Err (ended.DiskFailed spent)) first later = (
    λ on.
        breaks-behind members old mid spent.disk one two notes on first
        (later.0 (passed-by members old mid one first on).on),
    missed-behind members old mid spent.disk one two notes first later.1,
  )
  breaks-then disk_of old mid one two notes (Err (ended.NoMemory spent)) first later = tt

  -- the last parts make no call
  pub serves-breaks :
      {K : Type 0} (keepers : keeper.Ghosts K) (before after : K) (old at : D) (losses : List (Loss EquipmentView))
      (notes : List Note) (result : Result (GemSpool D) (Ended D)) → Passes members old losses at
      → ServesAt keepers before after at result
      → ByDisk keepers before after (BreaksBy members disk_in old losses notes) (Passes members old losses) result
  serves-breaks keepers before after old at losses notes (Ok g) passes is =
      subst (λ (d : D). Passes members old losses d) (sym is.0) passes
  serves-breaks keepers before after old at losses notes (Err (ended.NumbersSpent spent)) passes is =
      subst (λ (d : D). Passes members old losses d) (sym is.0) passes
  serves-breaks keepers before after old at losses notes (Err (ended.DiskFailed spent)) passes is =
      inr (is.1.cause, subst (λ (d : D). Passes members old losses d) (sym is.0) passes)
  serves-breaks keepers before after old at losses notes (Err (ended.NoMemory spent)) passes is = tt

  -- where it ends, it breaks so whatever would have been handed back
  pub ended-breaks :
      {Q R : Type 0} (one : Q → D) (other : R → D) (old : D) (losses : List (Loss EquipmentView)) (notes : List Note)
      (end : Ended D) → BreaksBy members one old losses notes (Err end)
      → BreaksBy members other old losses notes (Err end)
  ended-breaks one other old losses notes (ended.NumbersSpent spent) breaks = breaks
  ended-breaks one other old losses notes (ended.DiskFailed spent) breaks = breaks
  ended-breaks one other old losses notes (ended.NoMemory spent) breaks = breaks

  -- ---- system bytes that aren't reserved

  module _ (s : EquipmentView) where
    abbrev reserve_losses : List DiskWork → List (Loss EquipmentView)
    reserve_losses works = losses_of s (standing_in s) [] works []

    pub unreserved-breaks : (old : D) → needs_numbers s ≡ false
        → Passes members old (reserve_losses (reserve_works s)) old
    unreserved-breaks old enough =
        subst (λ (works : List DiskWork). Passes members old (reserve_losses works) old)
        (none-needed members s enough) (passes-none old old refl)

    module _ (g : GemSpool D) (needs : needs_numbers s ≡ true) (clear : IsClear members g.spool s)
        (told : IsTold (members.told g.spool.disk))
      where
        pub reserved-breaks : (h : GemSpool D) (base : ℕ) → ReservesFrom members g h (Some base)
            → Passes members g.spool.disk (reserve_losses (reserve_works s)) h.spool.disk
        reserved-breaks h base done =
            passes-works members s g.spool.disk h.spool.disk (reserve_works s) (standing_in s) [] []
            (reserve-made members s g needs clear told h base done)

        pub marked-out-breaks :
            (h : GemSpool D) (spent : Device D) → ReservesFrom members g h None → spent.disk ≡ h.spool.disk
            → Passes members g.spool.disk (reserve_losses (reserve_works s)) spent.disk
        marked-out-breaks h spent done same =
            subst
            (λ (works : List DiskWork). Passes members g.spool.disk (reserve_losses works) spent.disk)
            (none-left members s g needs clear told h done)
            (passes-none g.spool.disk spent.disk (same ∙ ap (λ (x : GemSpool D). x.spool.disk) done.0))

  -- ---- works

  -- they were all done
  pub carried-passes :
      (s : EquipmentView) (g h : GemSpool D) (works : List Work) (setup : Option (List ℕ)) (st : Standing)
      (notes : List Happening) → Stands members g.spool st → IsTold (members.told g.spool.disk)
      → AreSized st.next st.file.list works → (is_some setup ≡ true → is_some st.file.setup.bytes ≡ true)
      → CarriesOwed members g works setup (Ok h)
      → Passes members g.spool.disk (losses_of s st [] (owed_works works setup) notes) h.spool.disk
  carried-passes s g h works setup st notes stands told sized area carried =
      passes-works members s g.spool.disk h.spool.disk (owed_works works setup) st [] notes
      (owed-made members g works st stands sized told.0 told.1 setup area h carried)

  -- the oldest message was read
  pub looked-passes :
      (s : EquipmentView) (v w : SpoolView D) (slots : ℕ) (st : Standing) (notes : List Happening)
      → Stands members v st → HasReadSlots members v w (oldest_looks v slots) Done
      → Passes members v.disk (losses_of s st [] (ReadOldest slots ∷ []) notes) w.disk
  looked-passes s v w slots st notes stands looked =
      passes-works members s v.disk w.disk (ReadOldest slots ∷ []) st [] notes
      (looked-all members st v stands slots w looked)

  -- the disk failed as system bytes were reserved
  pub reserve-breaks :
      (s : EquipmentView) (g : GemSpool D) (spent : Device D) (notes : List Note) → needs_numbers s ≡ true
      → IsClear members g.spool s → IsTold (members.told g.spool.disk)
      → Reserves members g.spool (Err (reserving.Failed spent)) → notes ≡ []
      → BreaksBy members disk_in g.spool.disk (reserve_losses s (reserve_works s)) notes (Err (ended.DiskFailed spent))
  reserve-breaks s g spent notes needs clear told done noted =
      subst
      (λ (works : List DiskWork).
      BreaksBy members disk_in g.spool.disk (reserve_losses s works) notes (Err (ended.DiskFailed spent)))
      (sym (mark-failed members s g needs clear done.0)) (
        λ goes t new images stopped.
            broken-before (lost Reserve) [] (members.health g.spool.disk).stop_in t notes
            (broken-of s Reserve (standing_in s) [] (members.health g.spool.disk).stop_in t notes noted
            (reserve-left members g.spool (standing_in s) spent told.0 t clear.stands told.1 new images goes stopped
            done)),
        missed-before members g.spool.disk spent.disk (lost Reserve) [] notes
            (missed-work members s (standing_in s) Reserve [] g.spool.disk spent.disk notes noted
            (mark-stops members g.spool spent.disk (standing_in s) clear.stands told.0 told.1 done)),
      )
    where
      lost : DiskWork → List (Loss EquipmentView)
      lost one = map (loss_at s []) (lost_calls (standing_in s) one)

  -- as the oldest message was read
  pub look-breaks :
      (s : EquipmentView) (v w : SpoolView D) (slots : ℕ) (spent : Device D) (st : Standing) (front : List Happening)
      (notes : List Note) → Stands members v st → IsTold (members.told v.disk) → notes ≡ printed front
      → HasReadSlots members v w (oldest_looks v slots) Failed → spent.disk ≡ w.disk
      → BreaksBy members disk_in v.disk (losses_of s st [] (ReadOldest slots ∷ []) front) notes
      (Err (ended.DiskFailed spent))
  look-breaks s v w slots spent st front notes stands told noted looked here = (
    λ goes t new images stopped.
        broken-before lost [] (members.health v.disk).stop_in t notes
        (broken-of s (ReadOldest slots) st front (members.health v.disk).stop_in t notes noted
        (read-left members v st spent told.0 t stands told.1 new images goes stopped slots w (sym here)
        (sym (ap (λ (c : Count). c.slots) stands.count)) (first-is members st v stands) looked)),
    missed-before members v.disk spent.disk lost [] notes
        (missed-work members s st (ReadOldest slots) front v.disk spent.disk notes noted
        (subst (λ (d : D). HasFailedIn members v.disk d (disk_calls st (ReadOldest slots))) (sym here)
        (look-stops members v w st slots stands.count (below members st v stands) looked))),
  )
    where
      lost : List (Loss EquipmentView)
      lost = map (loss_at s front) (lost_calls st (ReadOldest slots))

  -- in one of the works, whatever comes behind them
  cut-breaks :
      (s : EquipmentView) (g : GemSpool D) (works : List Work) (setup : Option (List ℕ)) (more : List DiskWork)
      (st : Standing) (front : List Happening) (out after : StepOut) (spent : Device D) → Stands members g.spool st
      → IsTold (members.told g.spool.disk) → AreSized st.next st.file.list works → out.notes ≡ printed front
      → HasCut members g works setup out after spent → IsGoingDisk (members.health g.spool.disk)
      → BreaksAt members g.spool.disk (losses_of s st [] (owed_works works setup ++ more) front) spent.disk after.notes
  cut-breaks s g works setup more st front out after spent stands told sized noted cut goes =
      λ t new images stopped.
      let place =
      owed-left members g works st told.0 (record { stands = stands; told = told.1; goes = goes }) sized
      (record { at = cut.at; spent = spent }) t new images stopped setup cut.undone in
      let loss =
      loss-of s (owed_works works setup) more cut.at place.one st [] front place.call place.left place.is_one place.is
      in
      record {
        loss = loss_at s loss.front (loss.bytes, place.left);
        is =
            subst
            (λ (k : ℕ).
            call_of k (losses_of s st [] (owed_works works setup ++ more) front)
            ≡ Some (loss_at s loss.front (loss.bytes, place.left))) place.place loss.is;
        left = place.at;
        noted =
            cut.notes
            ∙ ap (cut_at cut.at) noted
            ∙ sym (cut-noted cut.at front)
            ∙ ap printed
            (same-some (noted_to cut.at front) loss.front
            (sym (owed-front works setup more [] front cut.at place.one place.is_one) ∙ loss.noted));
      }

  carry-breaks :
      (s : EquipmentView) (g : GemSpool D) (works : List Work) (setup : Option (List ℕ)) (more : List DiskWork)
      (st : Standing) (front : List Happening) (out after : StepOut) (end : Ended D) → Stands members g.spool st
      → IsTold (members.told g.spool.disk) → AreSized st.next st.file.list works → out.notes ≡ printed front
      → Carries members g works setup out after (Err end)
      → BreaksBy members disk_in g.spool.disk (losses_of s st [] (owed_works works setup ++ more) front) after.notes
      (Err end)
  carry-breaks s g works setup more st front out after (ended.DiskFailed spent) stands told sized noted cut =
      let at =
      owed-fails members g works st stands sized told.0 told.1 setup (record { at = cut.at; spent = spent }) cut.undone
      in (
        cut-breaks s g works setup more st front out after spent stands told sized noted cut,
        missed-at members s (owed_works works setup) more cut.at at.one g.spool.disk at.mid spent.disk st [] front
            (noted_to cut.at front) after.notes at.is at.made at.fails
            (owed-front works setup more [] front cut.at at.one at.is)
            (cut.notes ∙ ap (cut_at cut.at) noted ∙ sym (cut-noted cut.at front)),
      )
  carry-breaks s g works setup more st front out after (ended.NumbersSpent spent) stands told sized noted cut =
      absurd cut
  carry-breaks s g works setup more st front out after (ended.NoMemory spent) stands told sized noted cut = absurd cut

  -- ---- a step

  module _ (s : EquipmentView) (input : Input ToolCommand) (now : ℕ) where
    abbrev noted : List Happening
    noted = (step_in (begun_step s input now)).notes

    abbrev behind : List DiskWork
    behind = works_behind (begun_step s input now)

    -- the losses of a step are those of the reserve, and those behind it
    losses-parted :
        losses s input now
        ≡ reserve_losses s (reserve_works s)
        ++ losses_of s (standings_behind (standing_in s) (reserve_works s)) [] behind noted
    losses-parted =
        losses-reserve s (needs_numbers s && not (is_marked_out s.file.mark.value)) behind (standing_in s) noted

    -- all that it owes, and what it reads behind
    all-owed :
        (step : Step EquipmentView Happening)
        → works_behind (Goes step)
        ≡ owed_works step.next.node.own.ledger.works (to_keep step.next.node.own) ++ read_works (Goes step)
    all-owed step =
        ap
        (λ (keep : List DiskWork).
        map Change step.next.node.own.ledger.works ++ keep ++ read_works (Goes step))
        (keeps-by members s input now (to_keep step.next.node.own))

    -- all of it
    pub step-breaks :
        {R : Type 0} (disk_of : R → D) (old mid : D) (notes : List Note) (result : Result R (Ended D))
        → opening s ≡ Goes (at_first (opened s)) → Passes members old (reserve_losses s (reserve_works s)) mid
        → BreaksBy members disk_of mid (losses_of s (standing_in (opened s)) [] behind noted) notes result
        → BreaksBy members disk_of old (losses s input now) notes result
    step-breaks disk_of old mid notes result went first later =
        subst (λ (all : List (Loss EquipmentView)). BreaksBy members disk_of old all notes result) (sym losses-parted)
        (breaks-then disk_of old mid (reserve_losses s (reserve_works s))
        (losses_of s (standings_behind (standing_in s) (reserve_works s)) [] behind noted) notes result first
        (subst (λ (st : Standing). BreaksBy members disk_of mid (losses_of s st [] behind noted) notes result)
        (sym (opened-behind s went)) later))

    -- nothing comes behind a reserve that isn't made
    pub unopened-breaks :
        (old : D) (notes : List Note) (node : Node OwnView Kind) (end : Ended D)
        → carried_out s.node.own.ledger ≡ s.node.own.ledger → Opens members s node (Err end)
        → BreaksBy members disk_in old (reserve_losses s (reserve_works s)) notes (Err end)
        → BreaksBy members disk_in old (losses s input now) notes (Err end)
    unopened-breaks old notes node (ended.NumbersSpent spent) owes opens breaks =
        subst (λ (all : List (Loss EquipmentView)). Passes members old all spent.disk)
        (sym
        (losses-parted
        ∙ ap
        (λ (works : List DiskWork).
        reserve_losses s (reserve_works s)
        ++ losses_of s (standings_behind (standing_in s) (reserve_works s)) [] works noted)
        (none-owed members s input now opens.0 owes)
        ∙ append-nil (reserve_losses s (reserve_works s)))) breaks
    unopened-breaks old notes node (ended.DiskFailed spent) owes opens breaks =
        subst
        (λ (all : List (Loss EquipmentView)).
        BreaksBy members disk_in old all notes (Err (ended.DiskFailed spent))) (sym losses-parted) (
          λ on. breaks-before members old spent.disk (reserve_losses s (reserve_works s)) later notes (breaks.0 on),
          missed-before members old spent.disk (reserve_losses s (reserve_works s)) later notes breaks.1,
        )
      where
        later : List (Loss EquipmentView)
        later = losses_of s (standings_behind (standing_in s) (reserve_works s)) [] behind noted
    unopened-breaks old notes node (ended.NoMemory spent) owes opens breaks = tt

    module _ (g : GemSpool D) (clear : IsClear members g.spool (opened s)) (told : IsTold (members.told g.spool.disk))
      where
        abbrev stood : Standing
        stood = standing_in (opened s)

        abbrev behind_losses : Went EquipmentView Happening → List (Loss EquipmentView)
        behind_losses w = losses_of s stood [] (works_behind w) (step_in w).notes

        sized : (ledger : LedgerView) → IsCounted members g.spool ledger → WorksFit ledger
            → AreSized stood.next stood.file.list ledger.works
        sized ledger counted fit = sized-standing members g.spool stood ledger clear.stands told counted fit

        -- the works, and what comes behind them
        pub behind-breaks :
            {R : Type 0} (disk_of : R → D) (went : opening s ≡ Goes (at_first (opened s))) (h : GemSpool D)
            (node : Node OwnView Kind) (out : StepOut) (begun : IsBegun s input now node out) (notes : List Note)
            (result : Result R (Ended D))
            → IsCounted members g.spool node.own.ledger → WorksFit node.own.ledger
            → (is_some (to_keep node.own) ≡ true → is_some (opened s).file.setup.bytes ≡ true)
            → CarriesOwed members g node.own.ledger.works (to_keep node.own) (Ok h)
            → BreaksBy members disk_of h.spool.disk
            (losses_of s (standing_in (kept_view (settled begun.step.next))) []
            (read_works (Goes (kept_step (settled_step begun.step)))) begun.step.notes) notes result
            → BreaksBy members disk_of g.spool.disk (behind_losses (begun_step s input now)) notes result
        behind-breaks disk_of went h node out begun notes result counted fit area carried last =
            subst
            (λ (w : Went EquipmentView Happening). BreaksBy members disk_of g.spool.disk (behind_losses w) notes result)
            (sym begun.is)
            (subst
            (λ (works : List DiskWork).
            BreaksBy members disk_of g.spool.disk (losses_of s stood [] works begun.step.notes) notes result)
            (sym (all-owed begun.step))
            (subst
            (λ (all : List (Loss EquipmentView)). BreaksBy members disk_of g.spool.disk all notes result)
            (sym (losses-read s owed oldest reads stood [] begun.step.notes))
            (breaks-then disk_of g.spool.disk h.spool.disk (losses_of s stood [] owed begun.step.notes)
            (losses_of s (standings_behind stood owed) [] (read_by oldest reads) begun.step.notes) notes result
            (carried-passes s g h works setup stood begun.step.notes clear.stands told
            (sized begun.step.next.node.own.ledger counted-is fit-is) area-is carried-is)
            (subst
            (λ (x : Standing).
            BreaksBy members disk_of h.spool.disk (losses_of s x [] (read_by oldest reads) begun.step.notes) notes
            result)
            (sym standing)
            (subst
            (λ (b : Bool).
            BreaksBy members disk_of h.spool.disk
            (losses_of s (standing_in (kept_view (settled begun.step.next))) [] (read_by oldest b) begun.step.notes)
            notes result)
            (takes-settled members s input now begun.step.next) last)))))
          where
            ledger-is : node.own.ledger ≡ begun.step.next.node.own.ledger
            ledger-is = ap (λ (n : Node OwnView Kind). n.own.ledger) (sym begun.node_is)

            works : List Work
            works = begun.step.next.node.own.ledger.works

            setup : Option (List ℕ)
            setup = to_keep begun.step.next.node.own

            owed : List DiskWork
            owed = owed_works works setup

            oldest : ℕ
            oldest = oldest_of begun.step.next.node.own.ledger.sizes

            reads : Bool
            reads =
                is_some (next_number (most_transmitted begun.step.next.node.own.tables) begun.step.next.node.own.ledger)

            area-is : is_some setup ≡ true → is_some stood.file.setup.bytes ≡ true
            area-is =
                subst
                (λ (n : Node OwnView Kind).
                is_some (to_keep n.own) ≡ true → is_some (opened s).file.setup.bytes ≡ true) (sym begun.node_is) area

            carried-is : CarriesOwed members g works setup (Ok h)
            carried-is =
                subst (λ (n : Node OwnView Kind). CarriesOwed members g n.own.ledger.works (to_keep n.own) (Ok h))
                (sym begun.node_is) carried

            counted-is : IsCounted members g.spool begun.step.next.node.own.ledger
            counted-is = subst (λ (l : LedgerView). IsCounted members g.spool l) ledger-is counted

            fit-is : WorksFit begun.step.next.node.own.ledger
            fit-is = subst WorksFit ledger-is fit

            standing : standings_behind stood owed ≡ standing_in (kept_view (settled begun.step.next))
            standing =
                done-standing members s input now went (Goes begun.step) begun.is setup
                (keeps-by members s input now setup) g h clear told counted-is fit-is begun.file

        -- a number was wanting, and the works were done
        pub spent-breaks :
            (h : GemSpool D) (node : Node OwnView Kind) (out : StepOut) (begun : IsBegunSpent s input now node out)
            (notes : List Note) (spent : Device D) → IsCounted members g.spool node.own.ledger
            → WorksFit node.own.ledger → CarriesOwed members g node.own.ledger.works None (Ok h)
            → spent.disk ≡ h.spool.disk
            → BreaksBy members disk_in g.spool.disk (behind_losses (begun_step s input now)) notes
            (Err (ended.NumbersSpent spent))
        spent-breaks h node out begun notes spent counted fit carried same =
            subst (λ (w : Went EquipmentView Happening). Passes members g.spool.disk (behind_losses w) spent.disk)
            (sym begun.is)
            (subst (λ (all : List (Loss EquipmentView)). Passes members g.spool.disk all spent.disk)
            (sym (losses-read s (owed_works works None) 0 false stood [] begun.step.notes))
            (passes-both members g.spool.disk h.spool.disk spent.disk
            (losses_of s stood [] (owed_works works None) begun.step.notes) []
            (carried-passes s g h works None stood begun.step.notes clear.stands told
            (subst (λ (l : LedgerView). AreSized stood.next stood.file.list l.works) (sym begun.ledger)
            (sized node.own.ledger counted fit)) (λ some. absurd (cc))
            (subst (λ (l : LedgerView). CarriesOwed members g l.works None (Ok h)) (sym begun.ledger) carried))
            (passes-none h.spool.disk spent.disk same)))
          where
            works : List Work
            works = begun.step.next.node.own.ledger.works

        -- the disk failed at one of them
        pub behind-broken :
            (node : Node OwnView Kind) (out after : StepOut) (begun : IsBegun s input now node out) (end : Ended D)
            → IsCounted members g.spool node.own.ledger → WorksFit node.own.ledger
            → Carries members g node.own.ledger.works (to_keep node.own) out after (Err end)
            → BreaksBy members disk_in g.spool.disk (behind_losses (begun_step s input now)) after.notes (Err end)
        behind-broken node out after begun end counted fit cut =
            subst
            (λ (w : Went EquipmentView Happening).
            BreaksBy members disk_in g.spool.disk (behind_losses w) after.notes (Err end))
            (sym begun.is)
            (subst
            (λ (works : List DiskWork).
            BreaksBy members disk_in g.spool.disk (losses_of s stood [] works begun.step.notes) after.notes (Err end))
            (sym (all-owed begun.step))
            (carry-breaks s g begun.step.next.node.own.ledger.works (to_keep begun.step.next.node.own)
            (read_works (Goes begun.step)) stood begun.step.notes out after end clear.stands told
            (subst (λ (n : Node OwnView Kind). AreSized stood.next stood.file.list n.own.ledger.works)
            (sym begun.node_is) (sized node.own.ledger counted fit))
            begun.notes
            (subst
            (λ (n : Node OwnView Kind). Carries members g n.own.ledger.works (to_keep n.own) out after (Err end))
            (sym begun.node_is) cut)))

        pub spent-broken :
            (node : Node OwnView Kind) (out after : StepOut) (begun : IsBegunSpent s input now node out) (end : Ended D)
            → IsCounted members g.spool node.own.ledger → WorksFit node.own.ledger
            → Carries members g node.own.ledger.works None out after (Err end)
            → BreaksBy members disk_in g.spool.disk (behind_losses (begun_step s input now)) after.notes (Err end)
        spent-broken node out after begun end counted fit cut =
            subst
            (λ (w : Went EquipmentView Happening).
            BreaksBy members disk_in g.spool.disk (behind_losses w) after.notes (Err end))
            (sym begun.is)
            (carry-breaks s g begun.step.next.node.own.ledger.works None [] stood begun.step.notes out after end
            clear.stands told
            (subst (λ (l : LedgerView). AreSized stood.next stood.file.list l.works) (sym begun.ledger)
            (sized node.own.ledger counted fit))
            begun.notes
            (subst (λ (l : LedgerView). Carries members g l.works None out after (Err end)) (sym begun.ledger) cut))

  -- ---- the next message is asked for, or none

  pub reads-breaks :
      (s : EquipmentView) (t : Step EquipmentView Happening) {R : Type 0} (disk_of : R → D) (old : D)
      (notes : List Note) (result : Result R (Ended D)) (number : Option ℕ)
      → next_number (most_transmitted t.next.node.own.tables) t.next.node.own.ledger ≡ number
      → BreaksBy members disk_of old
      (losses_of s (standing_in t.next) [] (read_by (oldest_of t.next.node.own.ledger.sizes) (is_some number)) t.notes)
      notes result
      → BreaksBy members disk_of old (losses_of s (standing_in t.next) [] (read_works (Goes t)) t.notes) notes result
  reads-breaks s t disk_of old notes result number is breaks =
      subst
      (λ (n : Option ℕ).
      BreaksBy members disk_of old
      (losses_of s (standing_in t.next) [] (read_by (oldest_of t.next.node.own.ledger.sizes) (is_some n)) t.notes)
      notes result)
      (sym is) breaks
