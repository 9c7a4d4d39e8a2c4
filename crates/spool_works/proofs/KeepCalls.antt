-- A keep of the setup: its calls are those of its updates, and what it leaves where it is done, and where it stops.
use Rattle.std.proofs.Common.{◌≡◌, ◌⊎◌, refl, sym, ap, subst, ◌∙◌, inl, inr, arith, ◌+◌, ◌-◌, ◌<◌, ◌≤◌, true}
use Rattle.std.proofs.Common.{ℕ, List, [], ◌∷◌, ◌++◌, append-nil, length, map, Some, Ok, ⊎_elim}
use Rattle.std.proofs.lemmas.Bool.{cases_lt}
use Rattle.std.proofs.lemmas.List.{length-map}
use Rattle.disk_base.specs.Calls.{DiskCall}
use Rattle.disk_base.specs.Cut.{image_of}
use Rattle.disk_base.specs.Faults.{IsAmong}
use Rattle.disk_base.specs.Story.{Story}
use Rattle.disk_base.specs.Through.{GoesThrough}
use Rattle.disk_base.specs.declared.disk.Disk as disk
use Rattle.disk_base.specs.declared.disk.DiskAnswer.{DiskAnswer}
use Rattle.disk_base.specs.declared.disk.DiskAnswer.TheVariants.{Done, Failed}
use Rattle.disk_base.proofs.Moments.{through_more}
use Rattle.gate_cell.specs.Cell.{cell_in, copy_bytes, spare_place}
use Rattle.gem_spool.specs.declared.count.Count.{Count}
use Rattle.gem_spool.specs.Standing.{Standing, Stands}
use Rattle.gem_spool.specs.Updates.{Left, by_gate, reads, stays, syncs, writes}
use Rattle.gem_spool.proofs.Doing.{same_file}
use Rattle.message_end.specs.Ends.{call_of}
use Rattle.setup_store.specs.Copies.{keep_calls, kept_in, list_calls, many_bytes, many_calls, many_early, value_calls}
use Rattle.setup_store.specs.Copies.{value_with, with_kept}
use Rattle.setup_store.specs.OnDisk.{HasKept, HasLostKeep, Keeps}
use Rattle.spool_file.specs.File.{Ends, SpoolFile, StandsFor, file_in}
use Rattle.spool_file.specs.Logs.{MakesAll}
use Rattle.spool_file.specs.Setup.{setup_cell}
use Rattle.spool_slots.specs.Changes.{IsSameOr}
use Rattle.spool_slots.specs.Losses.{file_left, gate_counts, names_spare}
use Rattle.spool_slots.specs.Spool.{SpoolView}
use Rattle.spool_slots.specs.declared.states.Spent.{Spent}
use Rattle.spool_works.specs.Breaking.{HasLeftAt, IsGoingDisk, LeavesImages}
use Rattle.spool_works.specs.DiskCalls.{HasFailedIn, HasMade, disk_calls}
use Rattle.spool_works.specs.DiskWorks.{IsAmidWork, calls_of, set_up}
use Rattle.spool_works.specs.DiskWorks.DiskWork.{Keep}
use Rattle.spool_works.specs.WorkLosses.{calls_at}
use Rattle.spool_works.proofs.BrokenPasses.{HasComeTo, used-passes}
use Rattle.spool_works.proofs.BrokenWorks.{any-same, by-cause, either-among, file-is, left-same, one-of-two}
use Rattle.spool_works.proofs.BrokenWorks.{planned-stop, sure}
use Rattle.spool_works.proofs.CallPlaces.{call-before, call-behind}
use Rattle.spool_works.proofs.Called.{failed-all, made-all}

-- ---- its calls

-- those of what stands are those of the bytes
module _ {D : Type 0} (members : disk.Ghosts D) (v : SpoolView D) (st : Standing) (stands : Stands members v st)
    (s : Story) (told : members.told v.disk ≡ Some s) (bytes : List ℕ) where
  file-told : st.file ≡ file_in s.now.bytes
  file-told = same_file members v st stands s told

  calls-are : keep_calls v.slots (cell_in s.now.bytes setup_cell) bytes ≡ disk_calls st (Keep bytes)
  calls-are =
      let cell = st.file.setup.cell in
      ap (λ (f : SpoolFile). keep_calls v.slots f.setup.cell bytes) (sym file-told)
      ∙ ap (λ (c : Count). keep_calls c.slots cell bytes) stands.count
      ∙ ap (λ (row : List DiskCall). row ++ value_calls setup_cell cell (value_with cell.value bytes))
      (sym (append-nil (list_calls st.file.slots cell.value bytes)))

  module _ (after : D) where
    keep-makes : (said : DiskAnswer) → HasKept members v after bytes said →
        MakesAll (members.health v.disk) (members.health after) (members.calls v.disk) (members.calls after)
        (disk_calls st (Keep bytes)) said
    keep-makes said kept =
        subst (λ (calls : List DiskCall). MakesAll (members.health v.disk) (members.health after) (members.calls v.disk)
        (members.calls after) calls said) calls-are (kept.calls s told)

    pub keep-made : HasKept members v after bytes Done → HasMade members v.disk after (disk_calls st (Keep bytes))
    keep-made kept = made-all members v.disk after (disk_calls st (Keep bytes)) (keep-makes Done kept)

    pub keep-stops : HasKept members v after bytes Failed →
        HasFailedIn members v.disk after (disk_calls st (Keep bytes))
    keep-stops kept = failed-all members v.disk after (disk_calls st (Keep bytes)) (keep-makes Failed kept)

    -- ---- what it leaves

    -- amid it the setup that was kept, or the new one
    pub keep-amid : (said : DiskAnswer) → HasKept members v after bytes said →
        GoesThrough s (members.told after) (IsAmidWork st (Keep bytes))
    keep-amid said kept =
        let goes = kept.images s told in (
          goes.0,
          goes.1,
          through_more s goes.0 (IsSameOr (kept_in bytes) s.now.bytes) (IsAmidWork st (Keep bytes))
              (λ image. ⊎_elim
              (λ same. inl (subst (λ (f : SpoolFile). StandsFor image f) (sym file-told) same))
              (λ new. inr (inr (subst (λ (f : SpoolFile). StandsFor image (with_kept bytes f)) (sym file-told) new))))
              goes.2,
        )

  -- and behind it the new one
  pub keep-stands : (w : SpoolView D) → Keeps members v bytes (Ok w) → Stands members w (set_up bytes st)
  keep-stands w keeps =
      let is = keeps.3 in
      subst (λ (x : SpoolView D). Stands members x (set_up bytes st)) (sym is)
      (record {
        count = stands.count;
        mark = stands.mark;
        chain = stands.chain;
        file = λ t there.
            subst (λ (f : SpoolFile). Ends t (with_kept bytes f)) (sym file-told) (keeps.4 s t told there);
      })

  pub keep-comes : (w : SpoolView D) → IsGoingDisk (members.health v.disk) → Keeps members v bytes (Ok w) →
      HasComeTo members v w (calls_of st (Keep bytes)) (set_up bytes st)
  keep-comes w going keeps =
      let kept = keeps.2 in
      let passed = used-passes (members.health v.disk) (members.health w.disk) (calls_of st (Keep bytes)) _
      (keep-makes w.disk Done kept).cause going in
      let there = kept.images s told in
      record {
        mid = there.0;
        over = record { stands = keep-stands w keeps; told = there.1; goes = passed.on };
        passed = passed;
      }

-- ---- where it stops

-- the calls before the write of the gate, and behind them two that leave what the gate says
abbrev early-calls : Standing → List ℕ → List DiskCall
early-calls st bytes =
    let cell = st.file.setup.cell in
    list_calls st.file.slots cell.value bytes
    ++ reads (setup_cell + 16) 1
    ∷ writes (spare_place setup_cell cell) (copy_bytes (value_with cell.value bytes))
    ∷ syncs
    ∷ []

abbrev the-gate : Standing → List ℕ → Left
the-gate st bytes = by_gate (names_spare st.file.setup.cell) (set_up bytes st) st

losses-are : (st : Standing) (bytes : List ℕ) → calls_at st (Keep bytes)
    ≡ map (λ call. stays st) (early-calls st bytes) ++ the-gate st bytes ∷ the-gate st bytes ∷ []
losses-are st [] = refl
losses-are st (byte ∷ more) = refl

early-long : (st : Standing) (bytes : List ℕ) → length (early-calls st bytes) ≡ many_early bytes
early-long st [] = refl
early-long st (byte ∷ more) = refl

-- one of so many that leave the same, or one of two behind them
module _ (calls : List DiskCall) (stay gate : Left) (n : ℕ) (long : length calls ≡ n) (call : ℕ) where
  abbrev all : List Left
  all = map (λ one. stay) calls ++ gate ∷ gate ∷ []

  early-one : IsAmong call n → call_of call all ≡ Some stay
  early-one among =
      call-before (map (λ one. stay) calls) (gate ∷ gate ∷ []) call stay
      (any-same stay calls call (subst (IsAmong call) (sym long) among))

  late-one : IsAmong call (n + 2) → (IsAmong call n → ⊥) → call_of call all ≡ Some gate
  late-one among late = go (either-among (call - n) 2)
    where
      few : call ≤ n → ⊥
      few less = late (among.0, less)

      behind : n < call
      behind = go (cases_lt n call)
        where
          go : (n < call) ⊎ (call ≤ n) → n < call
          go (inl more) = more
          go (inr less) = absurd (few less)

      go : IsAmong (call - n) 2 ⊎ (IsAmong (call - n) 2 → ⊥) → call_of call all ≡ Some gate
      go (inr not) = absurd (not (omega (arith, behind), let most = among.1 in omega (arith, most, behind)))
      go (inl is) =
          let same : length (map (λ one. stay) calls) + (call - n) ≡ call =
          (let both = length-map calls (λ (one : DiskCall). stay) in omega (arith, both, long, behind)) in
          subst (λ (k : ℕ). call_of k all ≡ Some gate) same
          (call-behind (map (λ one. stay) calls) (gate ∷ gate ∷ []) (call - n) gate (one-of-two (call - n) gate is))

module _ {D : Type 0} (members : disk.Ghosts D) (v : SpoolView D) (st : Standing) (spent : Spent D) (s t : Story)
    (is : Stands members v st) (old : members.told v.disk ≡ Some s) (new : members.told spent.disk ≡ Some t)
    (images : LeavesImages t) (goes : IsGoingDisk (members.health v.disk))
    (stopped : (members.health spent.disk).stopped ≡ true) (bytes : List ℕ) where
  pub keep-left : HasKept members v spent.disk bytes Failed → HasLostKeep members v spent.disk bytes →
      HasLeftAt (calls_at st (Keep bytes)) (members.health v.disk).stop_in t
  keep-left kept lost =
      subst (λ (calls : List Left). HasLeftAt calls stop t) (sym (losses-are st bytes))
      (go (either-among stop (many_early bytes)))
    where
      stop : ℕ
      stop = (members.health v.disk).stop_in

      row : List DiskCall
      row = early-calls st bytes

      gate : Left
      gate = the-gate st bytes

      long : length row ≡ many_early bytes
      long = early-long st bytes

      same : st.file ≡ file_in s.now.bytes
      same = file-is members v st spent s t is old new images goes stopped

      go : IsAmong stop (many_early bytes) ⊎ (IsAmong stop (many_early bytes) → ⊥) →
          HasLeftAt (map (λ call. stays st) row ++ gate ∷ gate ∷ []) stop t
      go (inl early) = record {
        left = stays st;
        is = early-one row (stays st) gate (many_early bytes) long stop early;
        at = left-same members v st spent s t is old new images goes stopped (lost.early (inr (inl early)));
      }
      go (inr late) = record {
        left = gate;
        is = late-one row (stays st) gate (many_early bytes) long stop
            (by-cause members v st spent s t is old new images goes stopped (many_calls bytes) _ kept.cause) late;
        at = λ choice.
            subst (λ (f : SpoolFile). StandsFor (image_of choice t)
            (file_left (gate_counts choice (names_spare f.setup.cell)) (with_kept bytes f) f)) (sym same)
            (lost.late (sure members v st spent s t is old new images goes stopped (many_calls bytes) (many_bytes bytes))
            (λ planned. late (planned-stop members v st spent s t is old new images goes stopped (many_early bytes)
            planned)) s t old new choice);
      }
