-- What a crash leaves where a planned call has stopped the disk in what a step owes to it.
use Rattle.std.proofs.Common.{◌≡◌, refl, sym, ap, subst, ◌∙◌, inl, inr, arith, zero, suc, ◌+◌, ◌<◌, true, ℕ, List, []}
use Rattle.std.proofs.Common.{◌∷◌, ◌++◌, ◌⊎◌, ◌-◌, ◌≤◌, length, length-append, map, take, Option, Some, None, Err}
use Rattle.std.proofs.lemmas.Bool.{cases_lt}
use Rattle.std.specs.List.{slice_get}
use Rattle.disk_base.specs.Cut.{image_of}
use Rattle.disk_base.specs.Faults.{DiskHealth}
use Rattle.disk_base.specs.Story.{Story}
use Rattle.disk_base.specs.declared.cut.CutChoice.{CutChoice}
use Rattle.disk_base.specs.declared.disk.Disk as disk
use Rattle.gem_spool.specs.declared.spool.GemSpool.{GemSpool}
use Rattle.gem_spool.specs.declared.works.Undone.{Undone}
use Rattle.gem_spool.specs.declared.works.Work.{Work}
use Rattle.gem_spool.specs.Standing.{Standing}
use Rattle.gem_spool.specs.Updates.{Left}
use Rattle.gem_spool.specs.Works.{AreSized, DoesAll, standing_after, standings_after}
use Rattle.message_end.specs.Ends.{call_of}
use Rattle.spool_file.specs.File.{StandsFor}
use Rattle.spool_works.specs.Breaking.{HasPassed, LeavesImages}
use Rattle.spool_works.specs.DiskWorks.{DiskWork, standing_behind, standings_behind}
use Rattle.spool_works.specs.DiskWorks.DiskWork.{Change, Keep}
use Rattle.spool_works.specs.Owed.{CarriesOwed, keep_by, owed_works}
use Rattle.spool_works.specs.WorkLosses.{calls_at}
use Rattle.spool_works.proofs.BrokenList.{works-break, works_left}
use Rattle.spool_works.proofs.BrokenPasses.{HasComeTo, IsOver, work-passes}
use Rattle.spool_works.proofs.KeepCalls.{keep-left}
use Rattle.spool_works.proofs.LossCounts.{calls-count}
use Rattle.spool_works.proofs.OwedWorks.{get-behind, get-changed, get-front, map-long, taken-all, taken-changes}

-- calls of a disk that goes on, behind others
passed-both : (a b c : DiskHealth) (n m : ℕ) → HasPassed a b n → HasPassed b c m → HasPassed a c (n + m)
passed-both a b c n m one two = record {
  passes = λ among.
      let near = one.nearer in
      two.passes (
        absurd-or (λ less. one.passes (among.0, less)) (cases_lt n a.stop_in) near,
        let most = among.1 in omega (arith, near, most),
      );
  nearer = let near = one.nearer in let more = two.nearer in omega (arith, near, more);
  on = two.on;
}
  where
    absurd-or : (a.stop_in ≤ n → ⊥) → (n < a.stop_in) ⊎ (a.stop_in ≤ n) → b.stop_in ≡ a.stop_in - n → 0 < b.stop_in
    absurd-or none (inl more) near = omega (arith, more, near)
    absurd-or none (inr less) near = absurd (none less)

-- the calls of works, one after the other
abbrev pub lefts_of : Standing → List DiskWork → List Left
lefts_of st [] = []
lefts_of st (one ∷ works) = calls_at st one ++ lefts_of (standing_behind st one) works

lefts-changes : (st : Standing) (works : List Work) → lefts_of st (map Change works) ≡ works_left st works
lefts-changes st [] = refl
lefts-changes st (one ∷ works) =
    ap (λ (calls : List Left). calls_at st (Change one) ++ calls) (lefts-changes (standing_after st one) works)

-- up to the change at a place, and up to what comes behind all
lefts-taken : (st : Standing) (works : List Work) (rest : List DiskWork) (at : ℕ) (one : Work) →
    slice_get works at ≡ Some one →
    lefts_of st (take at (map Change works ++ rest)) ≡ works_left st (take at works)
lefts-taken st [] rest at one is = absurd (cc)
lefts-taken st (first ∷ works) rest zero one is = refl
lefts-taken st (first ∷ works) rest (suc at) one is =
    ap (λ (calls : List Left). calls_at st (Change first) ++ calls)
    (lefts-taken (standing_after st first) works rest at one is)

lefts-all : (st : Standing) (works : List Work) (rest : List DiskWork) →
    lefts_of st (take (length works) (map Change works ++ rest)) ≡ works_left st works
lefts-all st [] rest = refl
lefts-all st (one ∷ works) rest =
    ap (λ (calls : List Left). calls_at st (Change one) ++ calls) (lefts-all (standing_after st one) works rest)

module _ {D : Type 0} (members : disk.Ghosts D) where
  -- all changes are passed
  pub all-pass : (works : List Work) (g u : GemSpool D) (st : Standing) (s : Story) → IsOver members g.spool st s →
      AreSized st.next st.file.list works → DoesAll members g works u →
      HasComeTo members g.spool u.spool (length (works_left st works)) (standings_after st works)
  all-pass [] g u st s is sized same =
      subst (λ (x : GemSpool D). HasComeTo members g.spool x.spool 0 st) (sym same) (record {
        mid = s;
        over = is;
        passed = record {
          passes = λ among. let some = among.0 in let most = among.1 in omega (arith, some, most);
          nearer = omega arith;
          on = is.goes;
        };
      })
  all-pass (x ∷ works) g u st s is sized (m, does, more) =
      let first = work-passes members g m x st s is sized.0 does in
      let rest = all-pass works m u (standing_after st x) first.mid first.over sized.1 more in
      let long = length-append (calls_at st (Change x)) (works_left (standing_after st x) works) in
      let here = calls-count st (Change x) in
      record {
        mid = rest.mid;
        over = rest.over;
        passed = subst (λ (n : ℕ). HasPassed (members.health g.spool.disk) (members.health u.spool.disk) n)
            (omega (arith, long, here))
            (passed-both (members.health g.spool.disk) (members.health m.spool.disk) (members.health u.spool.disk) _ _
            first.passed rest.passed);
      }

  module _ (works : List Work) (setup : Option (List ℕ)) (st : Standing) (undone : Undone D) (stop : ℕ) (t : Story)
    where
      -- it stopped at a call of one of the works, and a crash leaves what is said of that call
      pub record HasOwedPlace : Type 0 where
        pub one : DiskWork
        pub is_one : slice_get (owed_works works setup) undone.at ≡ Some one
        pub left : Left
        pub call : ℕ
        pub is : call_of call (calls_at (standings_behind st (take undone.at (owed_works works setup))) one) ≡ Some left
        pub place : length (lefts_of st (take undone.at (owed_works works setup))) + call ≡ stop
        pub at : (choice : CutChoice) → StandsFor (image_of choice t) (left choice)

  module _ (g : GemSpool D) (works : List Work) (st : Standing) (s : Story) (is : IsOver members g.spool st s)
      (sized : AreSized st.next st.file.list works) (undone : Undone D) (t : Story)
      (new : members.told undone.spent.disk ≡ Some t) (images : LeavesImages t)
      (stopped : (members.health undone.spent.disk).stopped ≡ true) where
    abbrev stop : ℕ
    stop = (members.health g.spool.disk).stop_in

    sized-first : (n : ℕ) (next : Standing) (ws : List Work) → AreSized next.next next.file.list ws →
        AreSized next.next next.file.list (take n ws)
    sized-first zero next ws is = tt
    sized-first (suc n) next [] is = tt
    sized-first (suc n) next (x ∷ ws) is = (is.0, sized-first n (standing_after next x) ws is.1)

    pub owed-left : (setup : Option (List ℕ)) → CarriesOwed members g works setup (Err undone) →
        HasOwedPlace works setup st undone stop t
    owed-left setup (inl failed) =
        let place = works-break members undone.spent t new images stopped (take undone.at works) g failed.before
        failed.failed st s is (sized-first undone.at st works sized) failed.done failed.fails in
        record {
          one = Change failed.failed;
          is_one = get-front (map Change works) (keep_by setup) undone.at (Change failed.failed)
              (get-changed works undone.at failed.failed failed.is);
          left = place.left;
          call = place.call;
          is = subst (λ (x : Standing). call_of place.call (calls_at x (Change failed.failed)) ≡ Some place.left)
              (sym (taken-changes st works (keep_by setup) undone.at failed.failed failed.is)) place.is;
          place = ap (λ (calls : List Left). length calls + place.call)
              (lefts-taken st works (keep_by setup) undone.at failed.failed failed.is) ∙ place.place;
          at = place.at;
        }
    owed-left None (inr (u, carried, keeps)) = absurd keeps
    owed-left (Some bytes) (inr (u, carried, keeps)) =
        let comes = all-pass works g u st s is sized carried.done in
        let mid = standings_after st works in
        let place = keep-left members u.spool mid undone.spent comes.mid t comes.over.stands comes.over.told new images
        comes.over.goes stopped bytes keeps.0.2 keeps.0.3 in
        let front = owed_works works (Some bytes) in
        record {
          one = Keep bytes;
          is_one =
              ap (λ (n : ℕ). slice_get front n) (keeps.1 ∙ sym (map-long works))
              ∙ get-behind (map Change works) (Keep bytes ∷ []);
          left = place.left;
          call = (members.health u.spool.disk).stop_in;
          is = subst (λ (x : Standing).
              call_of (members.health u.spool.disk).stop_in (calls_at x (Keep bytes)) ≡ Some place.left)
              (sym (ap (λ (n : ℕ). standings_behind st (take n front)) keeps.1
              ∙ taken-all st works (Keep bytes ∷ []))) place.is;
          place =
              let same = ap (λ (n : ℕ). length (lefts_of st (take n front))) keeps.1
              ∙ ap (λ (calls : List Left). length calls) (lefts-all st works (Keep bytes ∷ [])) in
              let near = comes.passed.nearer in
              let some = planned (members.health u.spool.disk).stop_in (calls_at mid (Keep bytes)) place.left place.is in
              omega (arith, same, near, some);
          at = place.at;
        }
      where
        planned : (k : ℕ) (calls : List Left) (left : Left) → call_of k calls ≡ Some left → 0 < k
        planned zero calls left none = absurd (cc)
        planned (suc k) calls left some = omega arith
