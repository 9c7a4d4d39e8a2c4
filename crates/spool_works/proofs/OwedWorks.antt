-- What a step owes to the disk, carried out: what stands behind it, its calls, and what is left where it stops.
use Rattle.std.proofs.Common.{◌≡◌, refl, sym, ap, subst, ◌∙◌, inl, inr, ℕ, List, [], ◌∷◌, ◌++◌, append-nil, append_assoc}
use Rattle.std.proofs.Common.{length, map, take, is_some, Bool, true, false, Option, Some, None, Result, Ok, Err, suc, zero}
use Rattle.std.specs.List.{slice_get}
use Rattle.disk_base.specs.Calls.{DiskCall}
use Rattle.disk_base.specs.Faults.{Rose}
use Rattle.disk_base.specs.Story.{Story}
use Rattle.disk_base.specs.Through.{EachImage}
use Rattle.disk_base.specs.declared.disk.Disk as disk
use Rattle.disk_base.specs.declared.disk.DiskAnswer.TheVariants.{Failed}
use Rattle.disk_base.proofs.Stretches.{same_then}
use Rattle.disk_base.proofs.Told.{told_already, told_still}
use Rattle.gem_spool.specs.Standing.{Standing, Stands, file_told, standing_of}
use Rattle.gem_spool.specs.Works.{AreSized, AreSizedOn, Does, DoesAll, HasCarried, standing_after}
use Rattle.gem_spool.specs.Works.{standings_after}
use Rattle.gem_spool.proofs.Amid.{does_amid}
use Rattle.gem_spool.proofs.Called.{does_makes, fails_makes}
use Rattle.gem_spool.proofs.Doing.{does_stands}
use Rattle.gem_spool.specs.declared.spool.GemSpool.{GemSpool}
use Rattle.gem_spool.specs.declared.works.Undone.{Undone}
use Rattle.gem_spool.specs.declared.works.Work.{Work}
use Rattle.setup_store.specs.Copies.{names_list}
use Rattle.setup_store.specs.OnDisk.{HoldsKept, IsWithout}
use Rattle.spool_file.specs.File.{SpoolFile, file_in}
use Rattle.spool_file.specs.Setup.{Setup}
use Rattle.spool_slots.specs.Spool.{known_of}
use Rattle.spool_slots.specs.declared.states.Spent.{Spent}
use Rattle.spool_works.specs.DiskCalls.{HasFailedIn, HasMade, all_disk_calls, disk_calls}
use Rattle.spool_works.specs.DiskWorks.{DiskWork, IsAmidWork, standing_behind, standings_behind}
use Rattle.spool_works.specs.DiskWorks.DiskWork.{Change, Keep}
use Rattle.spool_works.specs.HandedBack.{HasFailed, IsKept}
use Rattle.spool_works.specs.KeptSetup.{KeepsSetup}
use Rattle.spool_works.specs.Owed.{CarriesOwed, KeepsOwed, keep_by, owed_works}
use Rattle.spool_works.proofs.BrokenWorks.{story-inj}
use Rattle.spool_works.proofs.Called.{all-failed, all-made, failed-all, failed-before, failed-behind, made-all}
use Rattle.spool_works.proofs.Called.{made-same, made-then}
use Rattle.spool_works.proofs.HandingBack.{carried-back, same-still, undone-back}
use Rattle.spool_works.proofs.KeepCalls.{keep-amid, keep-made, keep-stands, keep-stops}

-- no change of the list changes the setup
pub setup-stays : (st : Standing) (works : List Work) → (standings_after st works).file.setup ≡ st.file.setup
setup-stays st [] = refl
setup-stays st (one ∷ works) = setup-stays (standing_after st one) works

-- the calls of two lists of works
pub both-calls : (st : Standing) (xs ys : List DiskWork) →
    all_disk_calls st (xs ++ ys) ≡ all_disk_calls st xs ++ all_disk_calls (standings_behind st xs) ys
both-calls st [] ys = refl
both-calls st (x ∷ xs) ys =
    ap (λ (calls : List DiskCall). disk_calls st x ++ calls) (both-calls (standing_behind st x) xs ys)
    ∙ sym (append_assoc (disk_calls st x) (all_disk_calls (standing_behind st x) xs)
    (all_disk_calls (standings_behind st (x ∷ xs)) ys))

-- what stands behind changes, and behind two lists
pub behind-changes : (st : Standing) (works : List Work) →
    standings_behind st (map Change works) ≡ standings_after st works
behind-changes st [] = refl
behind-changes st (one ∷ works) = behind-changes (standing_after st one) works

pub behind-both : (st : Standing) (xs ys : List DiskWork) →
    standings_behind st (xs ++ ys) ≡ standings_behind (standings_behind st xs) ys
behind-both st [] ys = refl
behind-both st (x ∷ xs) ys = behind-both (standing_behind st x) xs ys

pub behind-owed : (st : Standing) (works : List Work) (setup : Option (List ℕ)) →
    standings_behind st (owed_works works setup) ≡ standings_behind (standings_after st works) (keep_by setup)
behind-owed st works setup =
    behind-both st (map Change works) (keep_by setup)
    ∙ ap (λ (x : Standing). standings_behind x (keep_by setup)) (behind-changes st works)

-- ---- places among them

pub get-front : {X : Type 0} (xs more : List X) (at : ℕ) (x : X) → slice_get xs at ≡ Some x →
    slice_get (xs ++ more) at ≡ Some x
get-front [] more at x is = absurd (cc)
get-front (one ∷ xs) more zero x is = is
get-front (one ∷ xs) more (suc at) x is = get-front xs more at x is

pub get-behind : {X : Type 0} (xs more : List X) → slice_get (xs ++ more) (length xs) ≡ slice_get more 0
get-behind [] more = refl
get-behind (one ∷ xs) more = get-behind xs more

abbrev changed : Option Work → Option DiskWork
changed None = None
changed (Some x) = Some (Change x)

pub get-changed : (works : List Work) (at : ℕ) (one : Work) → slice_get works at ≡ Some one →
    slice_get (map Change works) at ≡ Some (Change one)
get-changed [] at one is = absurd (cc)
get-changed (first ∷ works) zero one is = ap changed is
get-changed (first ∷ works) (suc at) one is = get-changed works at one is

pub map-long : (works : List Work) → length (map Change works) ≡ length works
map-long [] = refl
map-long (one ∷ works) = ap suc (map-long works)

-- what stands before the change at a place, and before what comes behind all
pub taken-changes : (st : Standing) (works : List Work) (rest : List DiskWork) (at : ℕ) (one : Work) →
    slice_get works at ≡ Some one →
    standings_behind st (take at (map Change works ++ rest)) ≡ standings_after st (take at works)
taken-changes st [] rest at one is = absurd (cc)
taken-changes st (first ∷ works) rest zero one is = refl
taken-changes st (first ∷ works) rest (suc at) one is = taken-changes (standing_after st first) works rest at one is

pub taken-all : (st : Standing) (works : List Work) (rest : List DiskWork) →
    standings_behind st (take (length works) (map Change works ++ rest)) ≡ standings_after st works
taken-all st [] rest = refl
taken-all st (one ∷ works) rest = taken-all (standing_after st one) works rest

take-changes : (works : List Work) (rest : List DiskWork) (at : ℕ) (one : Work) → slice_get works at ≡ Some one →
    take at (map Change works ++ rest) ≡ map Change (take at works)
take-changes [] rest at one is = absurd (cc)
take-changes (first ∷ works) rest zero one is = refl
take-changes (first ∷ works) rest (suc at) one is =
    ap (λ (ws : List DiskWork). Change first ∷ ws) (take-changes works rest at one is)

take-all-changes : (works : List Work) (rest : List DiskWork) →
    take (length works) (map Change works ++ rest) ≡ map Change works
take-all-changes [] rest = refl
take-all-changes (one ∷ works) rest = ap (λ (ws : List DiskWork). Change one ∷ ws) (take-all-changes works rest)

sized-first : (n : ℕ) (st : Standing) (works : List Work) → AreSized st.next st.file.list works →
    AreSized st.next st.file.list (take n works)
sized-first zero st works is = tt
sized-first (suc n) st [] is = tt
sized-first (suc n) st (one ∷ works) is = (is.0, sized-first n (standing_after st one) works is.1)

module _ {D : Type 0} (members : disk.Ghosts D) where
  -- changes were done, and the next one failed
  changes-fail : (works : List Work) (g before : GemSpool D) (one : Work) (spent : Spent D) (st : Standing) →
      Stands members g.spool st → (s : Story) → members.told g.spool.disk ≡ Some s →
      AreSized st.next st.file.list works → DoesAll members g works before → Does members before one (Err spent) →
      HasMade members g.spool.disk before.spool.disk (all_disk_calls st (map Change works))
      × HasFailedIn members before.spool.disk spent.disk (disk_calls (standings_after st works) (Change one))
  changes-fail [] g before one spent st stands s told sized same fails = (
    made-same members g.spool.disk before.spool.disk (ap (λ (x : GemSpool D). x.spool.disk) same),
    subst (λ (x : GemSpool D). HasFailedIn members x.spool.disk spent.disk (disk_calls st (Change one))) (sym same)
        (failed-all members g.spool.disk spent.disk (disk_calls st (Change one))
        (fails_makes members g one spent st stands s told
        (subst (λ (x : GemSpool D). Does members x one (Err spent)) same fails))),
  )
  changes-fail (x ∷ works) g before one spent st stands s told sized (u, does, more) fails =
      let amid = does_amid members g u x st stands does s told in
      let rest = changes-fail works u before one spent (standing_after st x)
      (does_stands members g u x st stands sized.0 does) amid.0 amid.1 sized.1 more fails in (
        made-then members g.spool.disk u.spool.disk before.spool.disk (disk_calls st (Change x))
            (all_disk_calls (standing_after st x) (map Change works))
            (made-all members g.spool.disk u.spool.disk (disk_calls st (Change x))
            (does_makes members g u x st stands s told does)) rest.0,
        rest.1,
      )

  -- what is held of the setup is held behind changes
  pub carried-holds : (g u : GemSpool D) (works : List Work) →
      Stands members g.spool (standing_of members g.spool) → AreSizedOn members g.spool works →
      HasCarried members g works u → HoldsKept members g.spool → HoldsKept members u.spool
  carried-holds g u works stands sized carried holds t there =
      let st = standing_of members g.spool in
      let told = told_already (members.told g.spool.disk) (members.told u.spool.disk) t
      (carried-back members g u works carried).same_disk.2 there in
      let s = told.0 in
      let is : st.file ≡ file_in s.now.bytes = ap (λ (o : Option Story). file_told o (known_of g.spool)) told.1 in
      let behind = carried.stands st stands
      (subst (λ (f : SpoolFile). AreSized st.next f.list works) (sym is) (sized s told.1)) in
      let same : (file_in t.now.bytes).setup ≡ (file_in s.now.bytes).setup =
      ap (λ (f : SpoolFile). f.setup) (sym (behind.file t there).stands.is)
      ∙ setup-stays st works
      ∙ ap (λ (f : SpoolFile). f.setup) is in
      subst (λ (x : Setup). HoldsBy x) (sym same) (holds s told.1)
    where
      HoldsBy : Setup → Type 0
      HoldsBy x = is_some x.bytes ≡ true → names_list x.cell.value ≡ true

  module _ (g : GemSpool D) (works : List Work) (st : Standing) (stands : Stands members g.spool st)
      (sized : AreSized st.next st.file.list works) (s : Story) (told : members.told g.spool.disk ≡ Some s) where
    abbrev mid : Standing
    mid = standings_after st works

    calls-are : (setup : Option (List ℕ)) → all_disk_calls st (owed_works works setup)
        ≡ all_disk_calls st (map Change works) ++ all_disk_calls mid (keep_by setup)
    calls-are setup =
        both-calls st (map Change works) (keep_by setup)
        ∙ ap (λ (x : Standing). all_disk_calls st (map Change works) ++ all_disk_calls x (keep_by setup))
        (behind-changes st works)

    -- ---- behind the changes

    module _ (u : GemSpool D) (carried : HasCarried members g works u) where
      mid-stands : Stands members u.spool mid
      mid-stands = carried.stands st stands sized

      mid-told : (t : Story) × (members.told u.spool.disk ≡ Some t)
      mid-told = let through = carried.goes_on.images st stands s told in (through.0, through.1)

      mid-made : HasMade members g.spool.disk u.spool.disk (all_disk_calls st (map Change works))
      mid-made = all-made members g works u st stands s told sized carried.done

      -- where the file has an area it has one still
      without-none : is_some st.file.setup.bytes ≡ true → IsWithout members u.spool → ⊥
      without-none some without =
          let t = mid-told.0 in
          let none : mid.file.setup.bytes ≡ None =
          ap (λ (f : SpoolFile). f.setup.bytes) (mid-stands.file t mid-told.1).stands.is
          ∙ without.1 t mid-told.1 in
          both some
          (ap (λ (x : Setup). is_some x.bytes) (sym (setup-stays st works))
          ∙ ap (λ (bytes : Option (List ℕ)). is_some bytes) none)
        where
          both : {b : Bool} → b ≡ true → b ≡ false → ⊥
          both one two = cc

    -- ---- all was done

    owed-done : (setup : Option (List ℕ)) → (is_some setup ≡ true → is_some st.file.setup.bytes ≡ true) →
        (u h : GemSpool D) → HasCarried members g works u → KeepsOwed members u setup (length works) (Ok h) →
        Stands members h.spool (standings_behind mid (keep_by setup))
        × HasMade members u.spool.disk h.spool.disk (all_disk_calls mid (keep_by setup))
    owed-done None area u h carried same = (
      subst (λ (x : GemSpool D). Stands members x.spool mid) (sym same) (mid-stands u carried),
      made-same members u.spool.disk h.spool.disk (ap (λ (x : GemSpool D). x.spool.disk) same),
    )
    owed-done (Some bytes) area u h carried (inl kept) =
        let t = mid-told u carried in (
          keep-stands members u.spool mid (mid-stands u carried) t.0 t.1 bytes h.spool kept.0,
          subst (λ (calls : List DiskCall). HasMade members u.spool.disk h.spool.disk calls)
              (sym (append-nil (disk_calls mid (Keep bytes))))
              (keep-made members u.spool mid (mid-stands u carried) t.0 t.1 bytes h.spool.disk kept.0.2),
        )
    owed-done (Some bytes) area u h carried (inr none) = absurd (without-none u carried (area refl) none.0)

    module _ (setup : Option (List ℕ)) (area : is_some setup ≡ true → is_some st.file.setup.bytes ≡ true) where
      pub owed-stands : (h : GemSpool D) → CarriesOwed members g works setup (Ok h) →
          Stands members h.spool (standings_behind st (owed_works works setup))
      owed-stands h (u, carried, keeps) =
          subst (λ (x : Standing). Stands members h.spool x) (sym (behind-owed st works setup))
          (owed-done setup area u h carried keeps).0

      pub owed-made : (h : GemSpool D) → CarriesOwed members g works setup (Ok h) →
          HasMade members g.spool.disk h.spool.disk (all_disk_calls st (owed_works works setup))
      owed-made h (u, carried, keeps) =
          subst (λ (calls : List DiskCall). HasMade members g.spool.disk h.spool.disk calls) (sym (calls-are setup))
          (made-then members g.spool.disk u.spool.disk h.spool.disk (all_disk_calls st (map Change works))
          (all_disk_calls mid (keep_by setup)) (mid-made u carried) (owed-done setup area u h carried keeps).1)

    -- ---- the disk failed

    keep-failed : (setup : Option (List ℕ)) (u : GemSpool D) (undone : Undone D) → HasCarried members g works u →
        KeepsOwed members u setup (length works) (Err undone) →
        HasFailedIn members u.spool.disk undone.spent.disk (all_disk_calls mid (keep_by setup))
    keep-failed None u undone carried keeps = absurd keeps
    keep-failed (Some bytes) u undone carried keeps =
        let t = mid-told u carried in
        subst (λ (calls : List DiskCall). HasFailedIn members u.spool.disk undone.spent.disk calls)
        (sym (append-nil (disk_calls mid (Keep bytes))))
        (keep-stops members u.spool mid (mid-stands u carried) t.0 t.1 bytes undone.spent.disk keeps.0.2)

    pub owed-stops : (setup : Option (List ℕ)) (undone : Undone D) → CarriesOwed members g works setup (Err undone) →
        HasFailedIn members g.spool.disk undone.spent.disk (all_disk_calls st (owed_works works setup))
    owed-stops setup undone (inl is) =
        subst (λ (calls : List DiskCall). HasFailedIn members g.spool.disk undone.spent.disk calls)
        (sym (calls-are setup))
        (failed-before members g.spool.disk undone.spent.disk (all_disk_calls st (map Change works))
        (all_disk_calls mid (keep_by setup))
        (all-failed members g works undone.at is.failed is.before undone.spent st stands s told sized is.is is.done
        is.fails))
    owed-stops setup undone (inr (u, carried, keeps)) =
        subst (λ (calls : List DiskCall). HasFailedIn members g.spool.disk undone.spent.disk calls)
        (sym (calls-are setup))
        (failed-behind members g.spool.disk u.spool.disk undone.spent.disk (all_disk_calls st (map Change works))
        (all_disk_calls mid (keep_by setup)) (mid-made u carried) (keep-failed setup u undone carried keeps))

    -- at which of them, behind those that were done
    pub record HasFailedAt (setup : Option (List ℕ)) (undone : Undone D) : Type 0 where
      pub mid : D
      pub one : DiskWork
      pub is : slice_get (owed_works works setup) undone.at ≡ Some one
      pub made : HasMade members g.spool.disk mid (all_disk_calls st (take undone.at (owed_works works setup)))
      pub fails : HasFailedIn members mid undone.spent.disk
          (disk_calls (standings_behind st (take undone.at (owed_works works setup))) one)

    pub owed-fails : (setup : Option (List ℕ)) (undone : Undone D) → CarriesOwed members g works setup (Err undone) →
        HasFailedAt setup undone
    owed-fails setup undone (inl is) =
        let first = take undone.at works in
        let both = changes-fail first g is.before is.failed undone.spent st stands s told
        (sized-first undone.at st works sized) is.done is.fails in
        let taken = take-changes works (keep_by setup) undone.at is.failed is.is in
        record {
          mid = is.before.spool.disk;
          one = Change is.failed;
          is = get-front (map Change works) (keep_by setup) undone.at (Change is.failed)
              (get-changed works undone.at is.failed is.is);
          made = subst (λ (ws : List DiskWork). HasMade members g.spool.disk is.before.spool.disk (all_disk_calls st ws))
              (sym taken) both.0;
          fails = subst (λ (x : Standing). HasFailedIn members is.before.spool.disk undone.spent.disk
              (disk_calls x (Change is.failed)))
              (sym (taken-changes st works (keep_by setup) undone.at is.failed is.is)) both.1;
        }
    owed-fails None undone (inr (u, carried, keeps)) = absurd keeps
    owed-fails (Some bytes) undone (inr (u, carried, keeps)) =
        let t = mid-told u carried in
        let all = owed_works works (Some bytes) in
        record {
          mid = u.spool.disk;
          one = Keep bytes;
          is =
              ap (λ (n : ℕ). slice_get all n) (keeps.1 ∙ sym (map-long works))
              ∙ get-behind (map Change works) (Keep bytes ∷ []);
          made = subst (λ (ws : List DiskWork). HasMade members g.spool.disk u.spool.disk (all_disk_calls st ws))
              (sym (ap (λ (n : ℕ). take n all) keeps.1 ∙ take-all-changes works (Keep bytes ∷ []))) (mid-made u carried);
          fails = subst (λ (x : Standing). HasFailedIn members u.spool.disk undone.spent.disk (disk_calls x (Keep bytes)))
              (sym (ap (λ (n : ℕ). standings_behind st (take n all)) keeps.1
              ∙ taken-all st works (Keep bytes ∷ [])))
              (keep-stops members u.spool mid (mid-stands u carried) t.0 t.1 bytes undone.spent.disk keeps.0.2);
        }

    -- the work at which it failed, and that a crash leaves the spool amid it
    pub record HasStoppedAt (setup : Option (List ℕ)) (undone : Undone D) : Type 0 where
      pub one : DiskWork
      pub is : slice_get (owed_works works setup) undone.at ≡ Some one
      pub amid : (t : Story) → members.told undone.spent.disk ≡ Some t →
          EachImage (IsAmidWork (standings_behind st (take undone.at (owed_works works setup))) one) t.now

    pub owed-amid : (setup : Option (List ℕ)) (undone : Undone D) → CarriesOwed members g works setup (Err undone) →
        HasStoppedAt setup undone
    owed-amid setup undone (inl is) = record {
      one = Change is.failed;
      is = get-front (map Change works) (keep_by setup) undone.at (Change is.failed)
          (get-changed works undone.at is.failed is.is);
      amid = λ t there.
          subst (λ (x : Standing). EachImage (IsAmidWork x (Change is.failed)) t.now)
          (sym (taken-changes st works (keep_by setup) undone.at is.failed is.is)) (is.left st stands s t told there);
    }
    owed-amid None undone (inr (u, carried, keeps)) = absurd keeps
    owed-amid (Some bytes) undone (inr (u, carried, keeps)) = record {
      one = Keep bytes;
      is =
          ap (λ (n : ℕ). slice_get (owed_works works (Some bytes)) n) (keeps.1 ∙ sym (map-long works))
          ∙ get-behind (map Change works) (Keep bytes ∷ []);
      amid = λ t there.
          let mid-story = mid-told u carried in
          let goes = keep-amid members u.spool mid (mid-stands u carried) mid-story.0 mid-story.1 bytes
          undone.spent.disk Failed keeps.0.2 in
          subst (λ (x : Standing). EachImage (IsAmidWork x (Keep bytes)) t.now)
          (sym (ap (λ (n : ℕ). standings_behind st (take n (owed_works works (Some bytes)))) keeps.1
          ∙ taken-all st works (Keep bytes ∷ [])))
          (subst (λ (x : Story). EachImage (IsAmidWork mid (Keep bytes)) x.now)
          (story-inj goes.0 t (sym goes.1 ∙ there)) goes.2.last);
    }

  -- as the code has it
  pub owed-then : (g u : GemSpool D) (works : List Work) (setup : Option (List ℕ))
      (done : Result (GemSpool D) (Undone D)) → HasCarried members g works u →
      KeepsOwed members u setup (length works) done → CarriesOwed members g works setup done
  owed-then g u works setup (Ok h) carried keeps = (u, carried, keeps)
  owed-then g u works setup (Err undone) carried keeps = inr (u, carried, keeps)

  -- ---- the device is handed back

  keeps-back : (u h : GemSpool D) (bytes : List ℕ) → KeepsSetup members u bytes (Ok h) →
      IsKept members u.spool.disk h.spool.disk
  keeps-back u h bytes (inl kept) = record { same_disk = kept.0.2.same_disk; count = kept.0.2.cause.same }
  keeps-back u h bytes (inr none) =
      subst (λ (x : GemSpool D). IsKept members u.spool.disk x.spool.disk) (sym none.1)
      (record { same_disk = same-still members u.spool.disk; count = refl })

  pub owed-back : (g h : GemSpool D) (works : List Work) (setup : Option (List ℕ)) →
      CarriesOwed members g works setup (Ok h) → IsKept members g.spool.disk h.spool.disk
  owed-back g h works None (u, carried, same) =
      subst (λ (x : GemSpool D). IsKept members g.spool.disk x.spool.disk) (sym same) (carried-back members g u works carried)
  owed-back g h works (Some bytes) (u, carried, keeps) =
      let one = carried-back members g u works carried in
      let two = keeps-back u h bytes keeps in
      record { same_disk = same_then one.same_disk two.same_disk; count = two.count ∙ one.count }

  -- and tells its bytes still
  pub owed-told : (g h : GemSpool D) (works : List Work) (setup : Option (List ℕ)) →
      CarriesOwed members g works setup (Ok h) → (s : Story) → members.told g.spool.disk ≡ Some s →
      (t : Story) × (members.told h.spool.disk ≡ Some t)
  owed-told g h works setup carries s told =
      told_still (members.told g.spool.disk) (members.told h.spool.disk) s
      (owed-back g h works setup carries).same_disk.2 told

  pub owed-failed : (g : GemSpool D) (works : List Work) (setup : Option (List ℕ)) (undone : Undone D) →
      CarriesOwed members g works setup (Err undone) → HasFailed members g.spool.disk undone.spent.disk
  owed-failed g works setup undone (inl is) = undone-back members g works undone is
  owed-failed g works None undone (inr (u, carried, keeps)) = absurd keeps
  owed-failed g works (Some bytes) undone (inr (u, carried, keeps)) =
      let one = carried-back members g u works carried in
      record {
        same_disk = same_then one.same_disk keeps.0.2.same_disk;
        rose = subst (λ (n : ℕ). Rose n (members.health undone.spent.disk).faults) one.count keeps.0.2.cause.rose;
      }
