-- That the calls of the disk in a step are those of its works.
use Rattle.std.proofs.Common.{◌≡◌, inr, refl, sym, ap, subst, ◌∙◌, arith, ℕ, zero, suc, ◌<◌, ◌≤◌, ◌==◌, ◌&&◌, ◌||◌}
use Rattle.std.proofs.Common.{nat_le, nat_lt, not, Bool, true, false, List, [], ◌∷◌, ◌++◌, append-nil, append_assoc}
use Rattle.std.proofs.Common.{length, map, Option, Some, None, is_some, if◌then◌else◌}
use Rattle.std.proofs.lemmas.Bool.Decides.{nat_tests}
use Rattle.std.specs.Prelude.{Result, Ok, Err, is_none}
use Rattle.disk_base.specs.Calls.{DiskCall}
use Rattle.disk_base.specs.declared.disk.Disk as disk
use Rattle.disk_base.specs.declared.disk.DiskAnswer.TheVariants.{Done, Failed}
use Rattle.gem_spool.specs.declared.count.Count.{Count}
use Rattle.gem_spool.specs.declared.spool.GemSpool.{GemSpool}
use Rattle.gem_spool.specs.declared.works.Work.{Work}
use Rattle.gem_spool.specs.Oldest.{HasReadSlots, HasReadSome, oldest_looks}
use Rattle.gem_spool.specs.Spool.{ReservesFrom}
use Rattle.gem_spool.specs.Standing.{Standing, Stands, count_in}
use Rattle.gem_spool.specs.Works.{AreSized, oldest_in}
use Rattle.message_flow.specs.declared.step.StepOut.{StepOut}
use Rattle.spool_file.proofs.Runs.{chain_up}
use Rattle.spool_slots.specs.Changes.{Reserves}
use Rattle.spool_slots.specs.Spool.{SpoolView}
use Rattle.spool_slots.specs.declared.states.Reserving.TheVariants as reserving
use Rattle.spool_slots.specs.declared.states.Spent.{Spent as Device}
use Rattle.trace_log.specs.declared.commands.ToolCommand.{ToolCommand}
use Rattle.trace_log.specs.Log.{Happening}
use Rattle.message_end.specs.Core.{Step, Went, and_then, at_first}
use Rattle.message_end.specs.Core.Went.{Goes, Spent}
use Rattle.message_end.specs.Ends.{Input}
use Rattle.message_end.specs.Parts.{Node}
use Rattle.equipment_tables.specs.Tables.{most_transmitted}
use Rattle.spool_ledger.specs.Ledger.{LedgerView, carried_out}
use Rattle.spool_ledger.specs.Sizes.{oldest_of}
use Rattle.spool_ledger.specs.Unloading.{is_over, next_number, number_next}
use Rattle.spool_ledger.specs.declared.unload.Unload.{Unload}
use Rattle.spool_ledger.proofs.Widths.{widths-long}
use Rattle.spool_works.specs.declared.ended.Ended.{Ended}
use Rattle.spool_works.specs.declared.ended.Ended.TheVariants as ended
use Rattle.tool_step.specs.declared.kind.Kind.{Kind}
use Rattle.gem_recipes.specs.declared.keeper.RecipeKeeper as keeper
use Rattle.equipment_node.specs.Keeping.{ByDisk, ServesAt}
use Rattle.equipment_node.specs.Amid.{Carries, IsBegun, IsBegunSpent, IsCounted, Opens, WorksFit, opened}
use Rattle.spool_works.specs.DiskWorks.{DiskWork, standings_behind}
use Rattle.tool_step.specs.Disk.{read_works, reserve_works, standing_in, works_behind, works_of}
use Rattle.spool_works.specs.DiskWorks.DiskWork.{Change, Keep, ReadOldest, Reserve}
use Rattle.spool_works.specs.DiskCalls.{AreFirstReads, HasBegunWorks, HasCalled, HasFailedIn, HasMade}
use Rattle.spool_works.specs.DiskCalls.{all_disk_calls, disk_calls, disk_in}
use Rattle.tool_step.specs.Equipment.{EquipmentView, begun_step, is_marked_out, needs_numbers, parts_done}
use Rattle.tool_step.specs.Equipment.{kept_step, kept_view, reserving as opening, settled, settled_step}
use Rattle.tool_step.specs.Setup.{to_keep}
use Rattle.tool_step.specs.Own.{OwnView}
use Rattle.tool_step.specs.Step.{first_parts}
use Rattle.equipment_node.specs.Stepping.{IsClear, IsTold}
use Rattle.equipment_node.proofs.Standings.{opened-behind}
use Rattle.spool_works.proofs.Called.{failed-before, failed-behind, look-begun, look-made}
use Rattle.spool_works.proofs.Called.{look-stops, made-same, made-then, mark-made, mark-stops}
use Rattle.equipment_node.proofs.Opened.{mark-failed}
use Rattle.spool_works.proofs.OwedWorks.{behind-both, both-calls, owed-made, owed-stops}
use Rattle.spool_works.specs.Owed.{CarriesOwed, owed_works}
use Rattle.equipment_node.proofs.OverDisk.{done-standing, keeps-by, takes-settled}
use Rattle.equipment_node.proofs.Sizing.{sized-standing}

-- ---- works behind others

module _ {D : Type 0} (members : disk.Ghosts D) where
  module _ (old mid : D) (st : Standing) (xs : List DiskWork)
      (one : HasMade members old mid (all_disk_calls st xs))
    where
      all-behind :
          (new : D) (ys : List DiskWork) → HasMade members mid new (all_disk_calls (standings_behind st xs) ys)
          → HasMade members old new (all_disk_calls st (xs ++ ys))
      all-behind new ys two =
          subst (λ (calls : List DiskCall). HasMade members old new calls) (sym (both-calls st xs ys))
          (made-then members old mid new (all_disk_calls st xs) (all_disk_calls (standings_behind st xs) ys)
          one two)

      called-then :
          {R : Type 0} (disk_of : R → D) (ys : List DiskWork) (result : Result R (Ended D))
          → HasCalled members disk_of mid (standings_behind st xs) ys result
          → HasCalled members disk_of old st (xs ++ ys) result
      called-then disk_of ys (Ok r) two = all-behind (disk_of r) ys two
      called-then disk_of ys (Err (ended.NumbersSpent spent)) two = all-behind spent.disk ys two
      called-then disk_of ys (Err (ended.DiskFailed spent)) two =
          subst (λ (calls : List DiskCall). HasFailedIn members old spent.disk calls) (sym (both-calls st xs ys))
          (failed-behind members old mid spent.disk (all_disk_calls st xs)
          (all_disk_calls (standings_behind st xs) ys) one two)
      called-then disk_of ys (Err (ended.NoMemory spent)) two = record {
        first = xs ++ two.first;
        rest = two.rest;
        are = ap (λ (all : List DiskWork). xs ++ all) two.are ∙ sym (append_assoc xs two.first two.rest);
        reads = two.reads;
        are_reads =
            subst (λ (at : Standing). AreFirstReads at two.rest two.reads) (sym (behind-both st xs two.first))
            two.are_reads;
        made =
            subst (λ (calls : List DiskCall). HasMade members old spent.disk calls)
            (sym (append_assoc (all_disk_calls st xs) (all_disk_calls (standings_behind st xs) two.first) two.reads)
            ∙ ap (λ (calls : List DiskCall). calls ++ two.reads) (sym (both-calls st xs two.first)))
            (made-then members old mid spent.disk (all_disk_calls st xs)
            (all_disk_calls (standings_behind st xs) two.first ++ two.reads) one two.made);
      }

  called-wider :
      (old new : D) (st : Standing) (xs ys : List DiskWork)
      → HasFailedIn members old new (all_disk_calls st xs)
      → HasFailedIn members old new (all_disk_calls st (xs ++ ys))
  called-wider old new st xs ys is =
      subst (λ (calls : List DiskCall). HasFailedIn members old new calls) (sym (both-calls st xs ys))
      (failed-before members old new (all_disk_calls st xs) (all_disk_calls (standings_behind st xs) ys) is)

  none-begun :
      (old new : D) (st : Standing) (works : List DiskWork) → new ≡ old
      → HasBegunWorks members old new st works
  none-begun old new st works same = record {
    first = [];
    rest = works;
    are = refl;
    reads = [];
    are_reads = none st works;
    made = made-same members old new same;
  }
    where
      none : (st : Standing) (works : List DiskWork) → AreFirstReads st works []
      none st [] = refl
      none st (Reserve ∷ works) = refl
      none st (Change one ∷ works) = refl
      none st (Keep bytes ∷ works) = refl
      none st (ReadOldest slots ∷ works) = (0, omega arith, refl)

  -- ---- system bytes

  module _ (s : EquipmentView) where
    pub none-needed : needs_numbers s ≡ false → [] ≡ reserve_works s
    none-needed enough =
        sym (ap (λ (b : Bool). if b && not (is_marked_out s.file.mark.value) then Reserve ∷ [] else []) enough)

    pub not-reserved : (old : D) → needs_numbers s ≡ false
        → HasMade members old old (all_disk_calls (standing_in s) (reserve_works s))
    not-reserved old enough =
        subst (λ (works : List DiskWork). HasMade members old old (all_disk_calls (standing_in s) works))
        (none-needed enough) (made-same members old old refl)

    module _ (g : GemSpool D) (needs : needs_numbers s ≡ true) (clear : IsClear members g.spool s)
        (told : IsTold (members.told g.spool.disk))
      where
        pub reserve-made :
            (h : GemSpool D) (base : ℕ) → ReservesFrom members g h (Some base)
            → HasMade members g.spool.disk h.spool.disk (all_disk_calls (standing_in s) (reserve_works s))
        reserve-made h base done =
            subst
            (λ (works : List DiskWork).
            HasMade members g.spool.disk h.spool.disk (all_disk_calls (standing_in s) works))
            (sym (mark-failed members s g needs clear done.0.0.0))
            (mark-made members g.spool h.spool.disk (standing_in s) clear.stands told.0 told.1 done.0.0)

        pub reserve-stops :
            (spent : Device D) → Reserves members g.spool (Err (reserving.Failed spent))
            → HasFailedIn members g.spool.disk spent.disk (all_disk_calls (standing_in s) (reserve_works s))
        reserve-stops spent done =
            subst
            (λ (works : List DiskWork).
            HasFailedIn members g.spool.disk spent.disk (all_disk_calls (standing_in s) works))
            (sym (mark-failed members s g needs clear done.0))
            (mark-stops members g.spool spent.disk (standing_in s) clear.stands told.0 told.1 done)

        is-out : (h : GemSpool D) → ReservesFrom members g h None → is_marked_out s.file.mark.value ≡ true
        is-out h done = let none = done.1 in let mark = clear.stands.mark in grind (arith, nat_tests, none, mark)

        pub none-left : (h : GemSpool D) → ReservesFrom members g h None → [] ≡ reserve_works s
        none-left h done =
            sym (ap (λ (b : Bool). if b && not (is_marked_out s.file.mark.value) then Reserve ∷ [] else []) needs
            ∙ ap (λ (b : Bool). if true && not b then Reserve ∷ [] else []) (is-out h done))

        pub reserve-spent :
            (h : GemSpool D) (spent : Device D) → ReservesFrom members g h None → spent.disk ≡ h.spool.disk
            → HasMade members g.spool.disk spent.disk (all_disk_calls (standing_in s) (reserve_works s))
        reserve-spent h spent done same =
            subst
            (λ (works : List DiskWork).
            HasMade members g.spool.disk spent.disk (all_disk_calls (standing_in s) works))
            (none-left h done)
            (made-same members g.spool.disk spent.disk (same ∙ ap (λ (x : GemSpool D). x.spool.disk) done.0))

  -- ---- a step

  module _ (s : EquipmentView) (input : Input ToolCommand) (now : ℕ) where
    -- all of it
    pub step-called :
        {R : Type 0} (disk_of : R → D) (old mid : D) (result : Result R (Ended D))
        → opening s ≡ Goes (at_first (opened s))
        → HasMade members old mid (all_disk_calls (standing_in s) (reserve_works s))
        → HasCalled members disk_of mid (standing_in (opened s)) (works_behind (begun_step s input now)) result
        → HasCalled members disk_of old (standing_in s) (works_of s input now) result
    step-called disk_of old mid result went first later =
        called-then old mid (standing_in s) (reserve_works s) first disk_of (works_behind (begun_step s input now))
        result
        (subst
        (λ (st : Standing).
        HasCalled members disk_of mid st (works_behind (begun_step s input now)) result)
        (sym (opened-behind s went)) later)

    -- nothing is owed where no system bytes are left
    pub none-owed : opening s ≡ Spent (at_first s) → carried_out s.node.own.ledger ≡ s.node.own.ledger
        → works_behind (begun_step s input now) ≡ []
    none-owed spent owes =
        ap (λ (w : Went EquipmentView Happening). works_behind (and_then w (parts_done (first_parts input now)))) spent
        ∙ ap (λ (works : List Work). (map Change works ++ []) ++ []) (sym (ap (λ (l : LedgerView). l.works) owes))

    pub not-called :
        (old : D) (node : Node OwnView Kind) (end : Ended D)
        → carried_out s.node.own.ledger ≡ s.node.own.ledger → Opens members s node (Err end)
        → HasCalled members disk_in old (standing_in s) (reserve_works s) (Err end)
        → HasCalled members disk_in old (standing_in s) (works_of s input now) (Err end)
    not-called old node (ended.NumbersSpent spent) owes opens called =
        all-behind old spent.disk (standing_in s) (reserve_works s) called spent.disk
        (works_behind (begun_step s input now))
        (subst
        (λ (works : List DiskWork).
        HasMade members spent.disk spent.disk
        (all_disk_calls (standings_behind (standing_in s) (reserve_works s)) works))
        (sym (none-owed opens.0 owes)) (made-same members spent.disk spent.disk refl))
    not-called old node (ended.DiskFailed spent) owes opens called =
        called-wider old spent.disk (standing_in s) (reserve_works s) (works_behind (begun_step s input now))
        called
    not-called old node (ended.NoMemory spent) owes opens called = absurd opens

    -- the disk failed at a work
    carry-stops :
        (g : GemSpool D) (works : List Work) (setup : Option (List ℕ)) (rest : List DiskWork) (st : Standing)
        (out after : StepOut) (end : Ended D) → Stands members g.spool st → IsTold (members.told g.spool.disk)
        → AreSized st.next st.file.list works → Carries members g works setup out after (Err end)
        → HasCalled members disk_in g.spool.disk st (owed_works works setup ++ rest) (Err end)
    carry-stops g works setup rest st out after (ended.DiskFailed spent) stands told sized cut =
        called-wider g.spool.disk spent.disk st (owed_works works setup) rest
        (owed-stops members g works st stands sized told.0 told.1 setup (record { at = cut.at; spent = spent }) cut.undone)
    carry-stops g works setup rest st out after (ended.NumbersSpent spent) stands told sized cut = absurd cut
    carry-stops g works setup rest st out after (ended.NoMemory spent) stands told sized cut = absurd cut

    module _ (g : GemSpool D) (clear : IsClear members g.spool (opened s)) (told : IsTold (members.told g.spool.disk))
      where
        abbrev stood : Standing
        stood = standing_in (opened s)

        sized : (ledger : LedgerView) → IsCounted members g.spool ledger → WorksFit ledger
            → AreSized stood.next stood.file.list ledger.works
        sized ledger counted fit = sized-standing members g.spool stood ledger clear.stands told counted fit

        -- the works, and what comes behind them
        pub behind-called :
            {R : Type 0} (disk_of : R → D) (went : opening s ≡ Goes (at_first (opened s))) (h : GemSpool D)
            (node : Node OwnView Kind) (out : StepOut) (begun : IsBegun s input now node out)
            (result : Result R (Ended D))
            → IsCounted members g.spool node.own.ledger → WorksFit node.own.ledger
            → (is_some (to_keep node.own) ≡ true → is_some (opened s).file.setup.bytes ≡ true)
            → CarriesOwed members g node.own.ledger.works (to_keep node.own) (Ok h)
            → HasCalled members disk_of h.spool.disk (standing_in (kept_view (settled begun.step.next)))
            (read_works (Goes (kept_step (settled_step begun.step)))) result
            → HasCalled members disk_of g.spool.disk stood (works_behind (begun_step s input now)) result
        behind-called disk_of went h node out begun result counted fit area carried last =
            subst
            (λ (w : Went EquipmentView Happening).
            HasCalled members disk_of g.spool.disk stood (works_behind w) result) (sym begun.is)
            (subst
            (λ (keep : List DiskWork).
            HasCalled members disk_of g.spool.disk stood
            (map Change works ++ keep ++ read_works (Goes begun.step)) result)
            (sym (keeps-by members s input now setup))
            (called-then g.spool.disk h.spool.disk stood (owed_works works setup)
            (owed-made members g works stood clear.stands
            (sized begun.step.next.node.own.ledger counted-is fit-is) told.0 told.1 setup area-is h carried-is) disk_of
            (read_works (Goes begun.step)) result
            (subst
            (λ (x : Standing).
            HasCalled members disk_of h.spool.disk x (read_works (Goes begun.step)) result)
            (sym standing)
            (subst
            (λ (b : Bool).
            HasCalled members disk_of h.spool.disk (standing_in (kept_view (settled begun.step.next)))
            (if b then ReadOldest (oldest_of begun.step.next.node.own.ledger.sizes) ∷ [] else []) result)
            (takes-settled members s input now begun.step.next) last))))
          where
            ledger-is : node.own.ledger ≡ begun.step.next.node.own.ledger
            ledger-is = ap (λ (n : Node OwnView Kind). n.own.ledger) (sym begun.node_is)

            works : List Work
            works = begun.step.next.node.own.ledger.works

            setup : Option (List ℕ)
            setup = to_keep begun.step.next.node.own

            area-is : is_some (to_keep begun.step.next.node.own) ≡ true → is_some (opened s).file.setup.bytes ≡ true
            area-is =
                subst
                (λ (n : Node OwnView Kind).
                is_some (to_keep n.own) ≡ true → is_some (opened s).file.setup.bytes ≡ true) (sym begun.node_is) area

            carried-is : CarriesOwed members g works (to_keep begun.step.next.node.own) (Ok h)
            carried-is =
                subst (λ (n : Node OwnView Kind). CarriesOwed members g n.own.ledger.works (to_keep n.own) (Ok h))
                (sym begun.node_is) carried

            counted-is : IsCounted members g.spool begun.step.next.node.own.ledger
            counted-is = subst (λ (l : LedgerView). IsCounted members g.spool l) ledger-is counted

            fit-is : WorksFit begun.step.next.node.own.ledger
            fit-is = subst WorksFit ledger-is fit

            standing : standings_behind stood (owed_works works setup)
                ≡ standing_in (kept_view (settled begun.step.next))
            standing =
                done-standing members s input now went (Goes begun.step) begun.is
                (to_keep begun.step.next.node.own)
                (keeps-by members s input now (to_keep begun.step.next.node.own)) g h clear told counted-is fit-is
                begun.file

        pub behind-stops :
            (node : Node OwnView Kind) (out after : StepOut) (begun : IsBegun s input now node out) (end : Ended D)
            → IsCounted members g.spool node.own.ledger → WorksFit node.own.ledger
            → Carries members g node.own.ledger.works (to_keep node.own) out after (Err end)
            → HasCalled members disk_in g.spool.disk stood (works_behind (begun_step s input now)) (Err end)
        behind-stops node out after begun end counted fit cut =
            subst
            (λ (w : Went EquipmentView Happening).
            HasCalled members disk_in g.spool.disk stood (works_behind w) (Err end)) (sym begun.is)
            (subst
            (λ (keep : List DiskWork).
            HasCalled members disk_in g.spool.disk stood
            (map Change begun.step.next.node.own.ledger.works ++ keep ++ read_works (Goes begun.step)) (Err end))
            (sym (keeps-by members s input now (to_keep begun.step.next.node.own)))
            (carry-stops g begun.step.next.node.own.ledger.works (to_keep begun.step.next.node.own)
            (read_works (Goes begun.step)) stood out after end clear.stands told
            (subst (λ (n : Node OwnView Kind). AreSized stood.next stood.file.list n.own.ledger.works)
            (sym begun.node_is) (sized node.own.ledger counted fit))
            (subst
            (λ (n : Node OwnView Kind). Carries members g n.own.ledger.works (to_keep n.own) out after (Err end))
            (sym begun.node_is)
            cut)))

        -- a number was wanting
        pub spent-stops :
            (node : Node OwnView Kind) (out after : StepOut) (begun : IsBegunSpent s input now node out) (end : Ended D)
            → IsCounted members g.spool node.own.ledger → WorksFit node.own.ledger
            → Carries members g node.own.ledger.works None out after (Err end)
            → HasCalled members disk_in g.spool.disk stood (works_behind (begun_step s input now)) (Err end)
        spent-stops node out after begun end counted fit cut =
            subst
            (λ (w : Went EquipmentView Happening).
            HasCalled members disk_in g.spool.disk stood (works_behind w) (Err end)) (sym begun.is)
            (carry-stops g begun.step.next.node.own.ledger.works None [] stood out after end clear.stands told
            (subst (λ (l : LedgerView). AreSized stood.next stood.file.list l.works) (sym begun.ledger)
            (sized node.own.ledger counted fit))
            (subst (λ (l : LedgerView). Carries members g l.works None out after (Err end)) (sym begun.ledger) cut))

        pub spent-called :
            (h : GemSpool D) (node : Node OwnView Kind) (out : StepOut) (begun : IsBegunSpent s input now node out)
            (spent : Device D) → IsCounted members g.spool node.own.ledger → WorksFit node.own.ledger
            → CarriesOwed members g node.own.ledger.works None (Ok h) → spent.disk ≡ h.spool.disk
            → HasCalled members disk_in g.spool.disk stood (works_behind (begun_step s input now))
            (Err (ended.NumbersSpent spent))
        spent-called h node out begun spent counted fit carried same =
            subst
            (λ (w : Went EquipmentView Happening).
            HasMade members g.spool.disk spent.disk (all_disk_calls stood (works_behind w))) (sym begun.is)
            (all-behind g.spool.disk h.spool.disk stood (owed_works works None)
            (owed-made members g works stood clear.stands
            (subst (λ (l : LedgerView). AreSized stood.next stood.file.list l.works) (sym begun.ledger)
            (sized node.own.ledger counted fit)) told.0 told.1 None (λ some. absurd (cc)) h carried-is) spent.disk []
            (made-same members h.spool.disk spent.disk same))
          where
            works : List Work
            works = begun.step.next.node.own.ledger.works

            carried-is : CarriesOwed members g works None (Ok h)
            carried-is =
                subst (λ (l : LedgerView). CarriesOwed members g l.works None (Ok h)) (sym begun.ledger) carried

        -- memory was wanting
        pub none-called :
            (spent : Device D) → spent.disk ≡ g.spool.disk
            → HasCalled members disk_in g.spool.disk stood (works_behind (begun_step s input now))
            (Err (ended.NoMemory spent))
        none-called spent same =
            none-begun g.spool.disk spent.disk stood (works_behind (begun_step s input now)) same

  -- ---- what comes behind the works

  -- the last parts make no call
  pub serves-called :
      {K : Type 0} (keepers : keeper.Ghosts K) (before after : K) (old at : D) (st : Standing) (works : List DiskWork)
      (result : Result (GemSpool D) (Ended D)) → HasMade members old at (all_disk_calls st works)
      → ServesAt keepers before after at result
      → ByDisk keepers before after (HasCalled members disk_in old st works)
      (λ (d : D). HasMade members old d (all_disk_calls st works)) result
  serves-called keepers before after old at st works (Ok g) made is =
      subst (λ (d : D). HasMade members old d (all_disk_calls st works)) (sym is.0) made
  serves-called keepers before after old at st works (Err (ended.NumbersSpent spent)) made is =
      subst (λ (d : D). HasMade members old d (all_disk_calls st works)) (sym is.0) made
  serves-called keepers before after old at st works (Err (ended.DiskFailed spent)) made is =
      inr (is.1.cause, subst (λ (d : D). HasMade members old d (all_disk_calls st works)) (sym is.0) made)
  serves-called keepers before after old at st works (Err (ended.NoMemory spent)) made is = record {
    first = works;
    rest = [];
    are = sym (append-nil works);
    reads = [];
    are_reads = refl;
    made =
        subst (λ (calls : List DiskCall). HasMade members old spent.disk calls)
        (sym (append-nil (all_disk_calls st works)))
        (subst (λ (d : D). HasMade members old d (all_disk_calls st works)) (sym is.0) made);
  }

  -- where it ends, the calls are the same whatever would have been handed back
  pub ended-called :
      {Q R : Type 0} (one : Q → D) (other : R → D) (old : D) (st : Standing) (works : List DiskWork) (end : Ended D)
      → HasCalled members one old st works (Err end) → HasCalled members other old st works (Err end)
  ended-called one other old st works (ended.NumbersSpent spent) called = called
  ended-called one other old st works (ended.DiskFailed spent) called = called
  ended-called one other old st works (ended.NoMemory spent) called = called

  module _ (st : Standing) (v : SpoolView D) (stands : Stands members v st) where
    pub below : v.first ≤ v.next
    below = let up = chain_up v.first v.next st.file.list stands.chain in omega (arith, up)

    pub first-is : oldest_in (count_in st) ≡ v.first
    first-is =
        let used = ap (λ (c : Count). c.used) stands.count in
        let next = ap (λ (c : Count). c.next) stands.count in
        let least = below in
        omega (arith, used, next, least)

    module _ (slots : ℕ) where
      pub looked-all : (w : SpoolView D) → HasReadSlots members v w (oldest_looks v slots) Done
          → HasMade members v.disk w.disk (all_disk_calls st (ReadOldest slots ∷ []))
      looked-all w looked =
          subst (λ (calls : List DiskCall). HasMade members v.disk w.disk calls)
          (sym (append-nil (disk_calls st (ReadOldest slots))))
          (look-made members v w st slots stands.count below looked)

      pub look-called :
          (w : SpoolView D) (spent : Device D) → HasReadSlots members v w (oldest_looks v slots) Failed
          → spent.disk ≡ w.disk
          → HasCalled members disk_in v.disk st (ReadOldest slots ∷ []) (Err (ended.DiskFailed spent))
      look-called w spent looked same =
          subst (λ (d : D). HasFailedIn members v.disk d (all_disk_calls st (ReadOldest slots ∷ []))) (sym same)
          (subst (λ (calls : List DiskCall). HasFailedIn members v.disk w.disk calls)
          (sym (append-nil (disk_calls st (ReadOldest slots))))
          (look-stops members v w st slots stands.count below looked))

      -- some first slots were read, and there was no memory for the message
      pub unread-called :
          (w : SpoolView D) (spent : Device D) → HasReadSome members v w (oldest_looks v) slots → spent.disk ≡ w.disk
          → HasCalled members disk_in v.disk st (ReadOldest slots ∷ []) (Err (ended.NoMemory spent))
      unread-called w spent some same =
          subst (λ (d : D). HasBegunWorks members v.disk d st (ReadOldest slots ∷ [])) (sym same)
          (look-begun members v w st slots stands.count below some)

    pub some-there : v.len ≡ 0 → 0 < length st.file.list → ⊥
    some-there none some =
        let len = ap (λ (c : Count). c.len) stands.count in omega (arith, none, some, len)

  module _ (t : Step EquipmentView Happening) {R : Type 0} (disk_of : R → D) (old : D) (result : Result R (Ended D))
    where
      abbrev most : ℕ
      most = most_transmitted t.next.node.own.tables

      abbrev oldest : ℕ
      oldest = oldest_of t.next.node.own.ledger.sizes

      abbrev read_by : Option ℕ → List DiskWork
      read_by number = if is_some number then ReadOldest oldest ∷ [] else []

      -- the next message is asked for, or none
      pub reads-by :
          (number : Option ℕ) → next_number most t.next.node.own.ledger ≡ number
          → HasCalled members disk_of old (standing_in t.next) (read_by number) result
          → HasCalled members disk_of old (standing_in t.next) (read_works (Goes t)) result
      reads-by number is called =
          subst
          (λ (n : Option ℕ).
          HasCalled members disk_of old (standing_in t.next) (if is_some n then ReadOldest oldest ∷ [] else []) result)
          (sym is) called

-- it is asked for only where there is one
some-left : (most : ℕ) (v : LedgerView) (n : ℕ) → next_number most v ≡ Some n → 0 < length v.sizes
some-left most v n some = go v.unload some
  where
    goes-on : (none over : Bool) → (if none && not over then Some v.first else None) ≡ Some n → over ≡ false
    goes-on true true is = absurd (cc)
    goes-on true false is = refl
    goes-on false over is = absurd (cc)

    left : (zero rest : Bool) → (zero || rest) ≡ false → zero ≡ false
    left true rest is = absurd (cc)
    left false rest is = refl

    above : (len : ℕ) → (len == 0) ≡ false → 0 < len
    above zero is = absurd (cc)
    above (suc len) is = omega arith

    go : (unload : Option Unload) → number_next most v unload ≡ Some n → 0 < length v.sizes
    go None is = absurd (cc)
    go (Some unload) is =
        let not_over = goes-on (is_none unload.tried) (is_over most v unload) is in
        above (length v.sizes) (left (length v.sizes == 0) (nat_lt 0 most && nat_le most unload.confirmed) not_over)

pub some-asked :
    {D : Type 0} (members : disk.Ghosts D) (v : SpoolView D) (t : Step EquipmentView Happening) (n : ℕ)
    → IsClear members v t.next → next_number (most_transmitted t.next.node.own.tables) t.next.node.own.ledger ≡ Some n
    → 0 < length t.next.file.list
some-asked members v t n clear some =
    let left = some-left (most_transmitted t.next.node.own.tables) t.next.node.own.ledger n some in
    let len = ap (λ (sizes : List ℕ). length sizes) clear.sizes_are in
    let long = widths-long t.next.file.list in
    omega (arith, left, len, long)
