-- That the calls which works make are theirs.
use Rattle.std.proofs.Common.{◌≡◌, refl, sym, ap, subst, ◌∙◌, ◌⊎◌, inl, inr, arith, ℕ, zero, suc, ◌+◌, ◌<◌, ◌≤◌}
use Rattle.std.proofs.Common.{List, [], ◌∷◌, ◌++◌, append_assoc, append-nil, length, length-append, map, take, Option}
use Rattle.std.proofs.Common.{Some, None}
use Rattle.std.specs.Prelude.{Err}
use Rattle.std.specs.List.{slice_get}
use Rattle.disk_base.specs.Calls.{DiskCall, Logs, with_call}
use Rattle.disk_base.specs.Faults.{DiskFault, IsLeftOut}
use Rattle.disk_base.specs.Story.{Story}
use Rattle.disk_base.specs.declared.disk.Disk as disk
use Rattle.disk_base.specs.declared.disk.DiskAnswer.{DiskAnswer}
use Rattle.disk_base.specs.declared.disk.DiskAnswer.TheVariants.{Done, Failed}
use Rattle.disk_base.proofs.Stretches.{fault_behind, fault_wider, left_out_behind, used_behind, used_none}
use Rattle.gate_cell.specs.Cell.{Cell}
use Rattle.gem_spool.specs.declared.count.Count.{Count}
use Rattle.gem_spool.specs.declared.spool.GemSpool.{GemSpool}
use Rattle.gem_spool.specs.declared.works.Work.{Work}
use Rattle.gem_spool.specs.Standing.{Standing, Stands, count_in, count_of}
use Rattle.gem_spool.specs.Updates.{calls_in, cell_update}
use Rattle.gem_spool.specs.Oldest.{HasReadSlots, HasReadSome, oldest_looks, slot_looks}
use Rattle.gem_spool.specs.Works.{AreSized, Does, DoesAll, oldest_in, reserved, standing_after}
use Rattle.gem_spool.proofs.Amid.{does_amid}
use Rattle.gem_spool.proofs.Called.{does_makes, fails_makes}
use Rattle.gem_spool.proofs.Doing.{does_stands, same_file}
use Rattle.gem_spool.proofs.Stays.{moved_is}
use Rattle.spool_file.specs.File.{SpoolFile}
use Rattle.spool_file.specs.Front.{mark_cell}
use Rattle.spool_file.specs.Logs.{LogsAll, MakesAll, answered, written_by}
use Rattle.spool_file.proofs.Making.{written_both}
use Rattle.spool_slots.specs.Changes.{MovesMark}
use Rattle.spool_slots.specs.Files.{reserved_in}
use Rattle.spool_slots.specs.Spool.{SpoolView}
use Rattle.spool_slots.specs.declared.states.Spent.{Spent as Device}
use Rattle.spool_slots.proofs.Settling.{makes_moved}
use Rattle.spool_works.specs.DiskCalls.{HasBegunWorks, HasFailedIn, HasMade, all_disk_calls, disk_calls, failing}
use Rattle.spool_works.specs.DiskCalls.{with_calls}
use Rattle.spool_works.specs.DiskWorks.DiskWork.{Change, ReadOldest, Reserve}

-- ---- lists of calls

pub with-none : (told : Option (List DiskCall)) → told ≡ with_calls [] told
with-none None = refl
with-none (Some all) = ap (λ (calls : List DiskCall). Some calls) (sym (append-nil all))

pub with-both : (xs ys : List DiskCall) (told : Option (List DiskCall))
    → with_calls ys (with_calls xs told) ≡ with_calls (xs ++ ys) told
with-both xs ys None = refl
with-both xs ys (Some all) = ap (λ (calls : List DiskCall). Some calls) (append_assoc all xs ys)

all-done : (calls : List DiskCall) (LeftOut : ℕ → ℕ → Type 0) (before after : Option (List DiskCall))
    → LogsAll calls LeftOut before after Done → after ≡ with_calls calls before
all-done [] LeftOut before after is = is ∙ with-none before
all-done (call ∷ calls) LeftOut before after is =
    all-done calls LeftOut (with_call call before) after is ∙ with-both (call ∷ []) calls before

-- ---- calls behind others

-- one failed behind others, and is listed unless it was left out
abbrev IsListed : Option (List DiskCall) → Option (List DiskCall) → List DiskCall → DiskCall → Type 0 → Type 0
IsListed before after first failed LeftOut =
    (after ≡ with_calls (first ++ failing failed ∷ []) before) ⊎ (LeftOut × (after ≡ with_calls first before))

module _ {D : Type 0} (members : disk.Ghosts D) where
  pub made-same : (old new : D) → new ≡ old → HasMade members old new []
  made-same old new same =
      subst (λ (d : D). HasMade members old d []) (sym same)
      (record { listed = with-none (members.calls old); used = used_none (members.health old) })

  pub made-then :
      (a b c : D) (xs ys : List DiskCall) → HasMade members a b xs → HasMade members b c ys
      → HasMade members a c (xs ++ ys)
  made-then a b c xs ys one two = record {
    listed = two.listed ∙ ap (with_calls ys) one.listed ∙ with-both xs ys (members.calls a);
    used = used_behind (members.health a) (members.health b) (length xs) (written_by xs) one.used (members.health c)
        (length ys) (written_by ys) (length (xs ++ ys)) (written_by (xs ++ ys)) (sym (length-append xs ys))
        (sym (written_both xs ys)) two.used;
  }

  pub failed-behind :
      (a b c : D) (xs ys : List DiskCall) → HasMade members a b xs → HasFailedIn members b c ys
      → HasFailedIn members a c (xs ++ ys)
  failed-behind a b c xs ys one two = record {
    first = xs ++ two.first;
    failed = two.failed;
    rest = two.rest;
    are = ap (λ (all : List DiskCall). xs ++ all) two.are ∙ sym (append_assoc xs two.first (two.failed ∷ two.rest));
    listed = go two.listed;
    fault = fault_behind (members.health a) (members.health b) (length xs) (written_by xs) one.used (members.health c)
        (length ys) (length (xs ++ ys)) ((members.health b).room < written_by ys)
        ((members.health a).room < written_by (xs ++ ys)) (let long = length-append xs ys in omega (arith, long))
        (λ less.
        let left = one.used.room_left in
        let wrote = written_both xs ys in
        omega (arith, less, left, wrote)) two.fault;
  }
    where
      made : (calls : List DiskCall) → members.calls c ≡ with_calls calls (members.calls b)
          → members.calls c ≡ with_calls (xs ++ calls) (members.calls a)
      made calls is = is ∙ ap (with_calls calls) one.listed ∙ with-both xs calls (members.calls a)

      go : IsListed (members.calls b) (members.calls c) two.first two.failed
          (IsLeftOut (members.health b) (members.health c) (length two.first)
          (written_by two.first + length two.failed.bytes))
          → IsListed (members.calls a) (members.calls c) (xs ++ two.first) two.failed
          (IsLeftOut (members.health a) (members.health c) (length (xs ++ two.first))
          (written_by (xs ++ two.first) + length two.failed.bytes))
      go (inl is) =
          inl (made (two.first ++ failing two.failed ∷ []) is
          ∙ ap (λ (all : List DiskCall). with_calls all (members.calls a))
          (sym (append_assoc xs two.first (failing two.failed ∷ []))))
      go (inr (out, is)) =
          inr (
            left_out_behind (members.health a) (members.health b) (length xs) (written_by xs) one.used
                (members.health c) (length two.first) (written_by two.first + length two.failed.bytes)
                (length (xs ++ two.first))
                (written_by (xs ++ two.first) + length two.failed.bytes) (sym (length-append xs two.first))
                (let long = written_both xs two.first in omega (arith, long)) out,
            made two.first is,
          )

  pub failed-before :
      (a c : D) (xs ys : List DiskCall) → HasFailedIn members a c xs → HasFailedIn members a c (xs ++ ys)
  failed-before a c xs ys is = record {
    first = is.first;
    failed = is.failed;
    rest = is.rest ++ ys;
    are = ap (λ (all : List DiskCall). all ++ ys) is.are ∙ append_assoc is.first (is.failed ∷ is.rest) ys;
    listed = is.listed;
    fault = fault_wider (members.health a) (members.health c) (length xs) (length (xs ++ ys))
        ((members.health a).room < written_by xs) ((members.health a).room < written_by (xs ++ ys))
        (let long = length-append xs ys in omega (arith, long))
        (λ less. let wrote = written_both xs ys in omega (arith, less, wrote)) is.fault;
  }

  -- ---- calls in a row

  module _ (old new : D) (calls : List DiskCall) where
    abbrev Makes : DiskAnswer → Type 0
    Makes said =
        MakesAll (members.health old) (members.health new) (members.calls old) (members.calls new) calls said

    abbrev LeftOut : ℕ → ℕ → Type 0
    LeftOut = IsLeftOut (members.health old) (members.health new)

    -- all of them
    pub made-all : Makes Done → HasMade members old new calls
    made-all is = record {
      listed = all-done calls LeftOut (members.calls old) (members.calls new) is.logs;
      used = is.cause;
    }

    -- up to one that failed
    stops-in :
        DiskFault (members.health old) (members.health new) (length calls)
        ((members.health old).room < written_by calls)
        → (first rest : List DiskCall) (mid : Option (List DiskCall)) (C : ℕ → ℕ → Type 0)
        → ((made n all both : ℕ) → all ≡ length first + made → both ≡ written_by first + n → C made n
        → LeftOut all both)
        → mid ≡ with_calls first (members.calls old) → calls ≡ first ++ rest
        → LogsAll rest C mid (members.calls new) Failed → HasFailedIn members old new calls
    stops-in fault first [] mid C more same are none = absurd none
    stops-in fault first (call ∷ rest) mid C more same are (inl logs) = record {
      first = first;
      failed = call;
      rest = rest;
      are = are;
      listed = go logs;
      fault = fault;
    }
      where
        go : Logs (answered call) (C 0 (length call.bytes)) mid (members.calls new) Failed
            → IsListed (members.calls old) (members.calls new) first call
            (LeftOut (length first) (written_by first + length call.bytes))
        go (inl (out, stays)) = inr (more 0 (length call.bytes) _ _ (omega arith) refl out, stays ∙ same)
        go (inr added) =
            inl (added ∙ ap (with_call (failing call)) same ∙ with-both first (failing call ∷ []) (members.calls old))
    stops-in fault first (call ∷ rest) mid C more same are (inr logs) =
        stops-in fault (first ++ call ∷ []) rest (with_call call mid) (λ made n. C (1 + made) (length call.bytes + n))
        (λ made n all both is_all is_both.
        let long = length-append first (call ∷ []) in
        let wrote = written_both first (call ∷ []) in
        more (1 + made) (length call.bytes + n) all both (omega (arith, is_all, long)) (omega (arith, is_both, wrote)))
        (ap (with_call call) same ∙ with-both first (call ∷ []) (members.calls old))
        (are ∙ sym (append_assoc first (call ∷ []) rest)) logs

    pub failed-all : Makes Failed → HasFailedIn members old new calls
    failed-all is =
        stops-in is.cause [] calls (members.calls old) LeftOut
        (λ made n all both is_all is_both out.
        left_out_behind (members.health old) (members.health old) 0 0 (used_none (members.health old))
        (members.health new) made n all both (omega (arith, is_all)) (omega (arith, is_both)) out)
        (with-none (members.calls old)) refl is.logs

  -- ---- works

  pub all-made :
      (g : GemSpool D) (works : List Work) (h : GemSpool D) (st : Standing) → Stands members g.spool st → (s : Story)
      → members.told g.spool.disk ≡ Some s → AreSized st.next st.file.list works → DoesAll members g works h
      → HasMade members g.spool.disk h.spool.disk (all_disk_calls st (map Change works))
  all-made g [] h st stands s told sized is =
      made-same g.spool.disk h.spool.disk (ap (λ (x : GemSpool D). x.spool.disk) is)
  all-made g (one ∷ works) h st stands s told sized (u, done, rest) =
      let mid = does_amid members g u one st stands done s told in
      made-then g.spool.disk u.spool.disk h.spool.disk (disk_calls st (Change one))
      (all_disk_calls (standing_after st one) (map Change works))
      (made-all g.spool.disk u.spool.disk (disk_calls st (Change one))
      (does_makes members g u one st stands s told done))
      (all-made u works h (standing_after st one) (does_stands members g u one st stands sized.0 done) mid.0 mid.1
      sized.1 rest)

  pub all-failed :
      (g : GemSpool D) (works : List Work) (at : ℕ) (one : Work) (before : GemSpool D) (spent : Device D)
      (st : Standing) → Stands members g.spool st → (s : Story) → members.told g.spool.disk ≡ Some s
      → AreSized st.next st.file.list works → slice_get works at ≡ Some one → DoesAll members g (take at works) before
      → Does members before one (Err spent)
      → HasFailedIn members g.spool.disk spent.disk (all_disk_calls st (map Change works))
  all-failed g [] at one before spent st stands s told sized is done fails = absurd (cc)
  all-failed g (x ∷ works) zero one before spent st stands s told sized is done fails =
      failed-before g.spool.disk spent.disk (disk_calls st (Change x))
      (all_disk_calls (standing_after st x) (map Change works))
      (failed-all g.spool.disk spent.disk (disk_calls st (Change x))
      (fails_makes members g x spent st stands s told
      (subst (λ (w : Work). Does members g w (Err spent)) (sym (same is))
      (subst (λ (y : GemSpool D). Does members y one (Err spent)) done fails))))
    where
      same : Some x ≡ Some one → x ≡ one
      same is = cc
  all-failed g (x ∷ works) (suc at) one before spent st stands s told sized is (u, first, rest) fails =
      let mid = does_amid members g u x st stands first s told in
      failed-behind g.spool.disk u.spool.disk spent.disk (disk_calls st (Change x))
      (all_disk_calls (standing_after st x) (map Change works))
      (made-all g.spool.disk u.spool.disk (disk_calls st (Change x)) (does_makes members g u x st stands s told first))
      (all-failed u works at one before spent (standing_after st x) (does_stands members g u x st stands sized.0 first)
      mid.0 mid.1 sized.1 is rest fails)

  -- ---- the mark

  module _ (v : SpoolView D) (after : D) (st : Standing) (stands : Stands members v st) (s : Story)
      (told : members.told v.disk ≡ Some s)
    where
      -- the calls for the cell that the bytes have are those for what is kept
      mark-makes : (said : DiskAnswer) → MovesMark members v after said
          → Makes v.disk after (disk_calls st Reserve) said
      mark-makes said is =
          subst (λ (calls : List DiskCall). Makes v.disk after calls said)
          (ap (λ (cell : Cell). calls_in (cell_update mark_cell cell (v.mark + 4096) (reserved st) ∷ []))
          (sym (ap (λ (f : SpoolFile). f.mark) (same_file members v st stands s told)))
          ∙ ap (λ (n : ℕ). calls_in (cell_update mark_cell st.file.mark (n + 4096) (reserved st) ∷ [])) stands.mark)
          (makes_moved members v.disk after mark_cell (v.mark + 4096) reserved_in said
          (moved_is members v.disk after mark_cell (v.mark + 4096) reserved_in said is.1) s told)

      pub mark-made : MovesMark members v after Done → HasMade members v.disk after (disk_calls st Reserve)
      mark-made is = made-all v.disk after (disk_calls st Reserve) (mark-makes Done is)

      pub mark-stops : MovesMark members v after Failed → HasFailedIn members v.disk after (disk_calls st Reserve)
      mark-stops is = failed-all v.disk after (disk_calls st Reserve) (mark-makes Failed is)

  -- ---- the oldest message

  module _ (v w : SpoolView D) (st : Standing) (slots : ℕ) (count : count_of v ≡ count_in st) (below : v.first ≤ v.next)
    where
      look-is : oldest_looks v slots ≡ disk_calls st (ReadOldest slots)
      look-is =
          let first : v.first ≡ oldest_in (count_of v) = omega (arith, below) in
          ap (λ (n : ℕ). slot_looks v.slots n slots) first
          ∙ ap (λ (c : Count). slot_looks c.slots (oldest_in c) slots) count
          ∙ sym (append-nil (slot_looks st.file.slots (oldest_in (count_in st)) slots))
          ∙ sym (append-nil (slot_looks st.file.slots (oldest_in (count_in st)) slots ++ []))

      pub look-made : HasReadSlots members v w (oldest_looks v slots) Done
          → HasMade members v.disk w.disk (disk_calls st (ReadOldest slots))
      look-made reads =
          subst (λ (calls : List DiskCall). HasMade members v.disk w.disk calls) look-is
          (made-all v.disk w.disk (oldest_looks v slots) reads.made.calls)

      pub look-stops : HasReadSlots members v w (oldest_looks v slots) Failed
          → HasFailedIn members v.disk w.disk (disk_calls st (ReadOldest slots))
      look-stops reads =
          subst (λ (calls : List DiskCall). HasFailedIn members v.disk w.disk calls) look-is
          (failed-all v.disk w.disk (oldest_looks v slots) reads.made.calls)

  -- memory ran out amid its slots
  pub look-begun : (v w : SpoolView D) (st : Standing) (slots : ℕ) → count_of v ≡ count_in st → v.first ≤ v.next
      → HasReadSome members v w (oldest_looks v) slots → HasBegunWorks members v.disk w.disk st (ReadOldest slots ∷ [])
  look-begun v w st slots count below some = record {
    first = [];
    rest = ReadOldest slots ∷ [];
    are = refl;
    reads = disk_calls st (ReadOldest some.made);
    are_reads = (some.made, some.few, refl);
    made = look-made v w st some.made count below some.reads;
  }
