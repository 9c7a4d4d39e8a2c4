-- That works carried out in turn make what they say, and cost what they do.
use Rattle.std.proofs.Common.{◌≡◌, inl, inr, ℕ, suc, ◌+◌, ◌<◌, List, [], ◌∷◌, ◌++◌, append_assoc, drop, length, Option}
use Rattle.std.proofs.Common.{None, Some, Ok, Err, refl, sym, ap, subst, take, get_or, ◌∙◌, arith}
use Rattle.std.proofs.Math.Seq.{drop-cons, take-suc}
use Rattle.std.proofs.lemmas.List.{take-append-drop}
use Rattle.std.proofs.lemmas.Option.{slice_get-get_or}
use Rattle.std.specs.List.{slice_get}
use Rattle.disk_base.specs.Faults.{DiskHealth, HasCause, IsUsed}
use Rattle.disk_base.specs.Story.{Story}
use Rattle.disk_base.specs.Through.{EachImage, GoesThrough}
use Rattle.disk_base.specs.declared.disk.Disk as disk
use Rattle.disk_base.specs.declared.disk.DiskAnswer.{DiskAnswer}
use Rattle.disk_base.specs.declared.disk.DiskAnswer.TheVariants.{Done, Failed}
use Rattle.disk_base.proofs.Moments.{only_now, starts, through_both, through_more}
use Rattle.disk_base.proofs.Stretches.{fault_behind, used_behind, used_none}
use Rattle.gem_spool.proofs.Amid.{does_amid, fails_amid, way_behind, way_more}
use Rattle.gem_spool.proofs.Called.{does_cost, fails_cost}
use Rattle.gem_spool.proofs.Doing.{does_active, does_count, does_list, does_mark, does_stands, does_told, due_at, next_is}
use Rattle.gem_spool.proofs.Doing.{same_file, sized_at, sized_front}
use Rattle.gem_spool.specs.Spool.{HasList}
use Rattle.gem_spool.specs.declared.count.Count.{Count}
use Rattle.gem_spool.specs.Standing.{Standing, Stands, count_of}
use Rattle.gem_spool.specs.Works.{AreDue, AreSized, AreSizedOn, Costs, Does, DoesAll, GoesOn, HasCarried, HasNumbers}
use Rattle.gem_spool.specs.Works.{HasUndone, IsAmid, IsDue, IsOnWay, IsSized, all_bytes, all_calls, bytes_of, calls_of}
use Rattle.gem_spool.specs.Works.{count_after, counts_after, list_after, lists_after, next_after, standing_after}
use Rattle.gem_spool.specs.Works.{standings_after}
use Rattle.gem_spool.specs.declared.spool.GemSpool.{GemSpool}
use Rattle.gem_spool.specs.declared.works.Work.{Work}
use Rattle.spool_file.specs.File.{SpoolFile, StandsFor, file_in}
use Rattle.spool_file.specs.Slot.{Message}
use Rattle.spool_slots.specs.Spool.{SpoolView}
use Rattle.spool_slots.specs.declared.states.Spent.{Spent}

calls_more : (st : Standing) (xs : List Work) (one : Work) →
    all_calls st (xs ++ one ∷ []) ≡ all_calls st xs + calls_of (standings_after st xs) one
calls_more st [] one = omega arith
calls_more st (x ∷ xs) one = omega (arith, calls_more (standing_after st x) xs one)

bytes_more : (st : Standing) (xs : List Work) (one : Work) →
    all_bytes st (xs ++ one ∷ []) ≡ all_bytes st xs + bytes_of (standings_after st xs) one
bytes_more st [] one = omega arith
bytes_more st (x ∷ xs) one = omega (arith, bytes_more (standing_after st x) xs one)

-- one work more, with what it costs from some standing of its numbers
costs_more : (c : Count) (xs : List Work) (one : Work) (calls bytes : ℕ) → Costs c xs calls bytes → (st : Standing) →
    HasNumbers (counts_after c xs) st → Costs c (xs ++ one ∷ []) (calls + calls_of st one) (bytes + bytes_of st one)
costs_more c [] one calls bytes none st count =
    let few = none.0 in
    let short = none.1 in
    (st, count, (0, 0, (refl, refl), omega (arith, few), omega (arith, short)))
costs_more c (x ∷ xs) one calls bytes (by, is, (more, longer, rest, few, short)) st count = (
  by,
  is,
  (
    more + calls_of st one,
    longer + bytes_of st one,
    costs_more (count_after c x) xs one more longer rest st count,
    omega (arith, few),
    omega (arith, short),
  ),
)

module _ {D : Type 0} (members : disk.Ghosts D) where
  pub does_more : (g : GemSpool D) (xs : List Work) (u : GemSpool D) (one : Work) (h : GemSpool D) →
      DoesAll members g xs u → Does members u one (Ok h) → DoesAll members g (xs ++ one ∷ []) h
  does_more g [] u one h is done = (h, subst (λ (x : GemSpool D). Does members x one (Ok h)) is done, refl)
  does_more g (x ∷ xs) u one h (v, first, rest) done = (v, first, does_more v xs u one h rest done)

  pub all_count : (g : GemSpool D) (works : List Work) (h : GemSpool D) → DoesAll members g works h →
      count_of h.spool ≡ counts_after (count_of g.spool) works
  all_count g [] h is = ap (λ (x : GemSpool D). count_of x.spool) is
  all_count g (one ∷ works) h (u, done, rest) =
      all_count u works h rest ∙ ap (λ (c : Count). counts_after c works) (does_count members g u one done)

  pub all_mark : (g : GemSpool D) (works : List Work) (h : GemSpool D) → DoesAll members g works h →
      h.spool.mark ≡ g.spool.mark
  all_mark g [] h is = ap (λ (x : GemSpool D). x.spool.mark) is
  all_mark g (one ∷ works) h (u, done, rest) = all_mark u works h rest ∙ does_mark members g u one done

  pub all_active : (g : GemSpool D) (works : List Work) (h : GemSpool D) → DoesAll members g works h →
      h.active ≡ g.active
  all_active g [] h is = ap (λ (x : GemSpool D). x.active) is
  all_active g (one ∷ works) h (u, done, rest) = all_active u works h rest ∙ does_active members g u one done

  pub all_list : (g : GemSpool D) (works : List Work) (h : GemSpool D) → DoesAll members g works h →
      (list : List Message) → HasList members g.spool list →
      HasList members h.spool (lists_after g.spool.next list works)
  all_list g [] h is list has = subst (λ (x : GemSpool D). HasList members x.spool list) (sym is) has
  all_list g (one ∷ works) h (u, done, rest) list has =
      let next : u.spool.next ≡ next_after g.spool.next one =
      ap (λ (c : Count). c.next) (does_count members g u one done) in
      subst (λ (n : ℕ). HasList members h.spool (lists_after n (list_after g.spool.next list one) works)) next
      (all_list u works h rest (list_after g.spool.next list one) (does_list members g u one done list has))

  pub all_stands : (g : GemSpool D) (works : List Work) (h : GemSpool D) → DoesAll members g works h →
      (st : Standing) → Stands members g.spool st → AreSized st.next st.file.list works →
      Stands members h.spool (standings_after st works)
  all_stands g [] h is st stands sized = subst (λ (x : GemSpool D). Stands members x.spool st) (sym is) stands
  all_stands g (one ∷ works) h (u, done, rest) st stands sized =
      all_stands u works h rest (standing_after st one) (does_stands members g u one st stands sized.0 done) sized.1

  pub all_way : (g : GemSpool D) (works : List Work) (h : GemSpool D) → DoesAll members g works h → (st : Standing) →
      Stands members g.spool st → AreSized st.next st.file.list works → (s : Story) → members.told g.spool.disk ≡ Some s →
      GoesThrough s (members.told h.spool.disk) (IsOnWay st works)
  all_way g [] h is st stands sized s told = (
    s,
    ap (λ (x : GemSpool D). members.told x.spool.disk) is ∙ told,
    starts s (IsOnWay st []) (λ image left.
        subst (λ (bytes : List ℕ). StandsFor bytes st.file)
        (sym (only_now s.now image (stands.file s told).settled left)) (stands.file s told).stands),
  )
  all_way g (one ∷ works) h (u, done, rest) st stands sized s told =
      let first = does_amid members g u one st stands done s told in
      let now = does_stands members g u one st stands sized.0 done in
      let last = all_way u works h rest (standing_after st one) now sized.1 first.0 first.1 in (
        last.0,
        last.1,
        through_both s first.0 last.0 (IsOnWay st (one ∷ works))
            (through_more s first.0 (IsAmid st one) (IsOnWay st (one ∷ works)) (λ image left. inl left) first.2)
            (through_more first.0 last.0 (IsOnWay (standing_after st one) works) (IsOnWay st (one ∷ works))
            (λ image left. inr left) last.2),
      )

  -- what they cost together
  record HasCosts (g : GemSpool D) (works : List Work) (after : D) (said : DiskAnswer) : Type 0 where
    pub made : ℕ
    pub wrote : ℕ
    pub cause : HasCause (members.health g.spool.disk) (members.health after) made wrote
        ((members.health g.spool.disk).room < wrote) said
    pub costs : Costs (count_of g.spool) works made wrote
    pub are : (st : Standing) → Stands members g.spool st → AreSized st.next st.file.list works → (s : Story) →
        members.told g.spool.disk ≡ Some s → (made ≡ all_calls st works) × (wrote ≡ all_bytes st works)

  all_costs : (g : GemSpool D) (works : List Work) (h : GemSpool D) → DoesAll members g works h →
      HasCosts g works h.spool.disk Done
  all_costs g [] h is = record {
    made = 0;
    wrote = 0;
    cause = subst (λ (health : DiskHealth). IsUsed (members.health g.spool.disk) health 0 0)
        (sym (ap (λ (x : GemSpool D). members.health x.spool.disk) is)) (used_none (members.health g.spool.disk));
    costs = (refl, refl);
    are = λ st stands sized s told. (refl, refl);
  }
  all_costs g (one ∷ works) h (u, done, rest) =
      let first = does_cost members g u one done in
      let more = all_costs u works h rest in record {
        made = calls_of first.by one + more.made;
        wrote = bytes_of first.by one + more.wrote;
        cause = used_behind (members.health g.spool.disk) (members.health u.spool.disk) (calls_of first.by one)
            (bytes_of first.by one) first.cause (members.health h.spool.disk) more.made more.wrote
            (calls_of first.by one + more.made) (bytes_of first.by one + more.wrote) refl refl more.cause;
        costs = (
          first.by,
          first.count,
          (
            more.made,
            more.wrote,
            subst (λ (c : Count). Costs c works more.made more.wrote) (does_count members g u one done) more.costs,
            refl,
            refl,
          ),
        );
        are = λ st stands sized s told.
            let here = first.are st stands s told in
            let mid = does_amid members g u one st stands done s told in
            let there =
            more.are (standing_after st one) (does_stands members g u one st stands sized.0 done) sized.1 mid.0 mid.1 in
            (omega (arith, here.0, there.0), omega (arith, here.1, there.1));
      }

  -- ---- what the disk tells

  abbrev story_or : Story → Option Story → Story
  story_or other None = other
  story_or other (Some s) = s

  -- a disk that tells its bytes told them before
  all_told : (g : GemSpool D) (works : List Work) (h : GemSpool D) → DoesAll members g works h → (t : Story) →
      members.told h.spool.disk ≡ Some t → (s : Story) × (members.told g.spool.disk ≡ Some s)
  all_told g [] h is t told = (t, sym (ap (λ (x : GemSpool D). members.told x.spool.disk) is) ∙ told)
  all_told g (one ∷ works) h (u, done, rest) t told =
      let mid = all_told u works h rest t told in does_told members g u one done mid.0 mid.1

  -- and the works free what they say
  sized_of : (v : SpoolView D) (works : List Work) → AreSizedOn members v works → (st : Standing) →
      Stands members v st → (s : Story) → members.told v.disk ≡ Some s → AreSized st.next st.file.list works
  sized_of v works sized st stands s told =
      subst (λ (n : ℕ). AreSized n st.file.list works) (next_is members v st stands)
      (subst (λ (f : SpoolFile). AreSized v.next f.list works) (sym (same_file members v st stands s told))
      (sized s told))

  -- ---- and the one that failed

  module _ (g : GemSpool D) (xs : List Work) (u : GemSpool D) (all : DoesAll members g xs u) (one : Work)
      (spent : Spent D) (fails : Does members u one (Err spent)) (sized : AreSizedOn members g.spool (xs ++ one ∷ []))
    where
      abbrev All : Standing → Type 0
      All st = AreSized st.next st.file.list (xs ++ one ∷ [])

      abbrev Front : Standing → Type 0
      Front st = AreSized st.next st.file.list xs

      are_all : (st : Standing) → Stands members g.spool st → (s : Story) → members.told g.spool.disk ≡ Some s → All st
      are_all st stands s told = sized_of g.spool (xs ++ one ∷ []) sized st stands s told

      are_front : (st : Standing) → Stands members g.spool st → (s : Story) → members.told g.spool.disk ≡ Some s →
          Front st
      are_front st stands s told =
          sized_front st.next st.file.list xs (one ∷ []) (are_all st stands s told)

      undone_costs : HasCosts g (xs ++ one ∷ []) spent.disk Failed
      undone_costs =
          let front = all_costs g xs u all in
          let last = fails_cost members u one spent fails in record {
            made = front.made + calls_of last.by one;
            wrote = front.wrote + bytes_of last.by one;
            cause = fault_behind (members.health g.spool.disk) (members.health u.spool.disk) front.made front.wrote
                front.cause (members.health spent.disk) (calls_of last.by one) (front.made + calls_of last.by one)
                ((members.health u.spool.disk).room < bytes_of last.by one)
                ((members.health g.spool.disk).room < front.wrote + bytes_of last.by one) (omega arith)
                (λ less. let left = front.cause.room_left in omega (arith, less, left)) last.cause;
            costs = costs_more (count_of g.spool) xs one front.made front.wrote front.costs last.by
                (subst (λ (c : Count). HasNumbers c last.by) (all_count g xs u all) last.count);
            are = λ st stands every s told.
                let some = sized_front st.next st.file.list xs (one ∷ []) every in
                let first = front.are st stands some s told in
                let mid = all_way g xs u all st stands some s told in
                let there = last.are (standings_after st xs) (all_stands g xs u all st stands some) mid.0 mid.1 in
                let calls = calls_more st xs one in
                let bytes = bytes_more st xs one in
                (omega (arith, first.0, there.0, calls), omega (arith, first.1, there.1, bytes));
          }

      last_way : (st : Standing) → Stands members g.spool st → Front st → (s : Story) →
          members.told u.spool.disk ≡ Some s → GoesThrough s (members.told spent.disk) (IsAmid (standings_after st xs) one)
      last_way st stands front s told =
          fails_amid members u one spent (standings_after st xs) (all_stands g xs u all st stands front) fails s told

      pub undone_way : (st : Standing) → Stands members g.spool st → (s : Story) → members.told g.spool.disk ≡ Some s →
          GoesThrough s (members.told spent.disk) (IsOnWay st (xs ++ one ∷ []))
      undone_way st stands s told =
          let front = are_front st stands s told in
          let first = all_way g xs u all st stands front s told in
          let last = last_way st stands front first.0 first.1 in (
            last.0,
            last.1,
            through_both s first.0 last.0 (IsOnWay st (xs ++ one ∷ []))
                (through_more s first.0 (IsOnWay st xs) (IsOnWay st (xs ++ one ∷ []))
                (λ image left. way_more st xs (one ∷ []) image left) first.2)
                (through_more first.0 last.0 (IsAmid (standings_after st xs) one) (IsOnWay st (xs ++ one ∷ []))
                (λ image left. way_behind st xs (one ∷ []) image (inl left)) last.2),
          )

      last_left : (st : Standing) → Stands members g.spool st → (s t : Story) → members.told g.spool.disk ≡ Some s →
          members.told spent.disk ≡ Some t → EachImage (IsAmid (standings_after st xs) one) t.now
      last_left st stands s t told told' =
          let front = are_front st stands s told in
          let first = all_way g xs u all st stands front s told in
          let last = last_way st stands front first.0 first.1 in
          let is : last.0 ≡ t = ap (story_or t) (sym last.1 ∙ told') in
          subst (λ (r : Story). EachImage (IsAmid (standings_after st xs) one) r.now) is last.2.last

      undone : (works : List Work) (at : ℕ) → xs ≡ take at works → slice_get works at ≡ Some one →
          HasUndone members g works (record { at = at; spent = spent })
      undone works at front is = record {
        failed = one;
        is = is;
        before = u;
        done = subst (λ (ys : List Work). DoesAll members g ys u) front all;
        fails = fails;
        goes_on = subst (λ (ys : List Work). GoesOn members g (ys ++ one ∷ []) spent.disk Failed) front
            (record {
              images = undone_way;
              made = undone_costs.made;
              wrote = undone_costs.wrote;
              cause = undone_costs.cause;
              costs = undone_costs.costs;
              are = λ st stands s told. undone_costs.are st stands (are_all st stands s told) s told;
            });
        left = subst (λ (ys : List Work). (st : Standing) → Stands members g.spool st → (s t : Story) →
            members.told g.spool.disk ≡ Some s → members.told spent.disk ≡ Some t →
            EachImage (IsAmid (standings_after st ys) one) t.now) front last_left;
      }

  pub carried : (g : GemSpool D) (works : List Work) (h : GemSpool D) → AreSizedOn members g.spool works →
      DoesAll members g works h → HasCarried members g works h
  carried g works h sized all = let spent = all_costs g works h all in record {
    done = all;
    count = all_count g works h all;
    mark = all_mark g works h all;
    active = all_active g works h all;
    goes_on = record {
      images = λ st stands s told. all_way g works h all st stands (sized_of g.spool works sized st stands s told) s told;
      made = spent.made;
      wrote = spent.wrote;
      cause = spent.cause;
      costs = spent.costs;
      are = λ st stands s told. spent.are st stands (sized_of g.spool works sized st stands s told) s told;
    };
    list = all_list g works h all;
    stands = all_stands g works h all;
  }

  -- ---- a turn, with those before it done

  module _ (g : GemSpool D) (works : List Work) (at : ℕ) (u : GemSpool D) (all : DoesAll members g (take at works) u)
      (one : Work) (is : one ≡ get_or works at one) (within : at < length works) where
    abbrev xs : List Work
    xs = take at works

    abbrev rest : List Work
    rest = drop (suc at) works

    parts : works ≡ xs ++ one ∷ rest
    parts =
        sym (take-append-drop at works)
        ∙ ap (λ (more : List Work). xs ++ more) (drop-cons works at one within)
        ∙ ap (λ (x : Work). xs ++ x ∷ rest) (sym is)

    pub has_turn : AreDue (count_of g.spool) works → IsDue (count_of u.spool) one
    has_turn due =
        subst (λ (c : Count). IsDue c one) (sym (all_count g xs u all))
        (due_at (count_of g.spool) xs one rest
        (subst (λ (ys : List Work). AreDue (count_of g.spool) ys) parts due))

    -- it frees what it says
    pub has_size : AreSizedOn members g.spool works → AreSizedOn members u.spool (one ∷ [])
    has_size sized t told =
        let old = all_told g xs u all t told in
        let list = (file_in old.0.now.bytes).list in
        let has : HasList members g.spool list = record {
          is = λ s told_s. ap (λ (x : Story). (file_in x.now.bytes).list) (ap (story_or s) (sym told_s ∙ old.1));
        } in
        let now = (all_list g xs u all list has).is t told in (
          subst (λ (l : List Message). IsSized l one) (sym now)
              (sized_at g.spool.next list xs one rest
              (subst (λ (ys : List Work). AreSized g.spool.next list ys) parts (sized old.0 old.1))),
          tt,
        )

    pub turn_done : (h : GemSpool D) → Does members u one (Ok h) → DoesAll members g (take (at + 1) works) h
    turn_done h done =
        let more : suc at ≡ at + 1 = omega arith in
        let front : xs ++ one ∷ [] ≡ take (at + 1) works =
        ap (λ (x : Work). xs ++ x ∷ []) is ∙ sym (take-suc works at one within)
        ∙ ap (λ (n : ℕ). take n works) more in
        subst (λ (ys : List Work). DoesAll members g ys h) front (does_more g xs u one h all done)

    pub turn_failed : AreSizedOn members g.spool works → (spent : Spent D) → Does members u one (Err spent) →
        HasUndone members g works (record { at = at; spent = spent })
    turn_failed sized spent fails =
        undone g xs u all one spent fails
        (λ s told. sized_front g.spool.next (file_in s.now.bytes).list (xs ++ one ∷ []) rest
        (subst (λ (ys : List Work). AreSized g.spool.next (file_in s.now.bytes).list ys)
        (parts ∙ sym (append_assoc xs (one ∷ []) rest)) (sized s told))) works at refl
        (slice_get-get_or works at one within ∙ ap (λ (x : Work). Some x) (sym is))
