-- What a crash leaves where a planned call has stopped the disk in a put, at each of its calls.
use Rattle.std.proofs.Common.{◌≡◌, ◌⊎◌, refl, sym, ap, subst, ◌∙◌, inl, inr, arith, ◌+◌, ◌-◌, ◌<◌, Bool, true, false}
use Rattle.std.proofs.Common.{ℕ, zero, suc, List, [], ◌∷◌, ◌++◌, length, length-append, map, nat_le, replicate, Some}
use Rattle.std.proofs.Common.{Ok, Err}
use Rattle.std.proofs.lemmas.Bool.Decides.{nat_tests}
use Rattle.std.proofs.lemmas.List.{length-map}
use Rattle.disk_base.specs.Calls.{DiskCall}
use Rattle.disk_base.specs.Cut.{image_of}
use Rattle.disk_base.specs.Faults.{DiskFault, DiskHealth, IsAmong, IsPlanned, IsUsed}
use Rattle.disk_base.specs.Story.{Story}
use Rattle.disk_base.specs.declared.cut.CutChoice.{CutChoice}
use Rattle.disk_base.specs.declared.disk.Disk as disk
use Rattle.disk_base.specs.declared.disk.DiskAnswer.TheVariants.{Failed}
use Rattle.disk_base.proofs.Stretches.{lists_on}
use Rattle.gem_spool.specs.Spool.{HasPut, StagesAndSeals, numbered, put_in}
use Rattle.gem_spool.specs.Standing.{Standing, Stands}
use Rattle.gem_spool.specs.Updates.{Left, by_gate, by_gates, closing_losses, stays}
use Rattle.gem_spool.specs.Works.{stale_gates, standing_after, unstale}
use Rattle.gem_spool.specs.declared.count.Count.{Count}
use Rattle.gem_spool.specs.declared.works.Work.TheVariants as work
use Rattle.gem_spool.proofs.Doing.{put_file, same_file}
use Rattle.gem_spool.proofs.Putting.{sealed_is}
use Rattle.spool_file.specs.File.{SpoolFile, StandsFor, file_in}
use Rattle.spool_file.specs.Logs.{written_by}
use Rattle.spool_file.specs.Sizes.{slots_for}
use Rattle.spool_slots.specs.Calls.{gate_look, gate_looks, gate_shuts, part_calls, shut_calls, stage_calls, synced}
use Rattle.spool_slots.specs.Changes.{HasLostStage, Seals, Stages, open_gates}
use Rattle.spool_slots.specs.Files.{sealed_in, shut_in, with_gates, with_shut}
use Rattle.spool_slots.specs.Losses.{IsSure, file_left, gate_counts, gates_left, opens, shut_marks}
use Rattle.spool_slots.specs.Spool.{SpoolView, StagedView, next_slot}
use Rattle.spool_slots.specs.declared.states.Spent.{Spent}
use Rattle.message_end.specs.Ends.{call_of}
use Rattle.spool_slots.proofs.Lost.{sure_stopped}
use Rattle.spool_works.specs.Breaking.{HasLeftAt, IsGoingDisk, LeavesImages}
use Rattle.spool_works.specs.DiskWorks.DiskWork.{Change}
use Rattle.spool_works.specs.WorkLosses.{calls_at}
use Rattle.spool_works.proofs.BrokenWorks.{any-same, by-cause, either-among, left-same, one-of-two, planned-stop, sure}
use Rattle.spool_works.proofs.CallPlaces.{call-before, call-behind}
use Rattle.spool_works.proofs.LossCounts.{closing-count}

-- ---- the calls

looks-long : (slots number n : ℕ) → length (gate_looks slots number n) ≡ n
looks-long slots number zero = refl
looks-long slots number (suc n) =
    let both = length-append (gate_looks slots number n) (gate_look slots (number + n)) in
    let before = looks-long slots number n in
    omega (arith, both, before)

-- one that isn't among so many comes behind them
past-all : (stop calls : ℕ) → 0 < stop → (IsAmong stop calls → ⊥) → calls < stop
past-all stop calls some none = go (nat_le stop calls) refl
  where
    go : (within : Bool) → nat_le stop calls ≡ within → calls < stop
    go true e = absurd (none (some, grind (arith, nat_tests, e)))
    go false e = grind (arith, nat_tests, e)

-- where gates are closed, so many of them are marked at each call
closing-at : (st : Standing) (marks : ℕ → List Bool) (m : ℕ) (calls : List DiskCall) (call : ℕ)
    → IsAmong call (length calls)
    → call_of call (closing_losses st marks m calls) ≡ Some (by_gates (marks (m + call)) st)
closing-at st marks m calls zero among = absurd (let some = among.0 in omega (arith, some))
closing-at st marks m [] (suc n) among = absurd (let most = among.1 in omega (arith, most))
closing-at st marks m (one ∷ calls) (suc zero) among = refl
closing-at st marks m (one ∷ calls) (suc (suc n)) among =
    let same : m + 1 + suc n ≡ m + suc (suc n) = omega arith in
    let most = among.1 in
    subst (λ (k : ℕ). call_of (suc n) (closing_losses st marks (m + 1) calls) ≡ Some (by_gates (marks k) st)) same
    (closing-at st marks (m + 1) calls (suc n) (omega arith, omega (arith, most)))

module _ (st : Standing) (stream function : ℕ) (body : List ℕ) where
  abbrev size : ℕ
  size = slots_for (length body)

  abbrev stale : List Bool
  stale = stale_gates st size

  abbrev done : Standing
  done = standing_after st (work.Put stream function body)

  abbrev shuts : List DiskCall
  shuts = synced (gate_shuts st.file.slots st.next stale)

  abbrev parts : List DiskCall
  parts = part_calls st.file.slots st.next stream function body

  abbrev marks : ℕ → List Bool
  marks m = shut_marks st.file.slots st.next stale m (replicate st.file.slots false)

  abbrev gate : Left
  gate = by_gate opens done (unstale st size)

  abbrev calls : List Left
  calls = calls_at st (Change (work.Put stream function body))

  -- those of each kind
  abbrev looked : List Left
  looked = map (λ call. stays st) (gate_looks st.file.slots st.next size)

  abbrev shut : List Left
  shut = closing_losses st marks 0 shuts

  abbrev written : List Left
  written = map (λ call. stays (unstale st size)) parts

  looked-long : length looked ≡ size
  looked-long =
      length-map (gate_looks st.file.slots st.next size) (λ (call : DiskCall). stays st)
      ∙ looks-long st.file.slots st.next size

  before-long : length (looked ++ shut) ≡ size + length shuts
  before-long =
      let both = length-append looked shut in
      let looks = looked-long in
      let closing = closing-count st marks 0 shuts in
      omega (arith, both, looks, closing)

  written-long : length written ≡ length parts
  written-long = length-map parts (λ (call : DiskCall). stays (unstale st size))

  at-look : (k : ℕ) → IsAmong k size → call_of k calls ≡ Some (stays st)
  at-look k among =
      let looks = looks-long st.file.slots st.next size in
      let most = among.1 in
      call-before (looked ++ shut) ((written ++ gate ∷ gate ∷ []) ++ []) k (stays st)
      (call-before looked shut k (stays st)
      (any-same (stays st) (gate_looks st.file.slots st.next size) k (among.0, omega (arith, most, looks))))

  at-shut : (m : ℕ) → IsAmong m (length shuts) → call_of (size + m) calls ≡ Some (by_gates (marks m) st)
  at-shut m among =
      call-before (looked ++ shut) ((written ++ gate ∷ gate ∷ []) ++ []) (size + m) (by_gates (marks m) st)
      (subst (λ (n : ℕ). call_of (n + m) (looked ++ shut) ≡ Some (by_gates (marks m) st)) looked-long
      (call-behind looked shut m (by_gates (marks m) st)
      (let same : 0 + m ≡ m = omega arith in
      subst (λ (k : ℕ). call_of m shut ≡ Some (by_gates (marks k) st)) same (closing-at st marks 0 shuts m among))))

  behind-shut : (k : ℕ) (left : Left) → call_of k (written ++ gate ∷ gate ∷ []) ≡ Some left
      → call_of (size + length shuts + k) calls ≡ Some left
  behind-shut k left is =
      subst (λ (n : ℕ). call_of (n + k) calls ≡ Some left) before-long
      (call-behind (looked ++ shut) ((written ++ gate ∷ gate ∷ []) ++ []) k left
      (call-before (written ++ gate ∷ gate ∷ []) [] k left is))

  at-part : (k : ℕ) → IsAmong k (length parts)
      → call_of (size + length shuts + k) calls ≡ Some (stays (unstale st size))
  at-part k among =
      behind-shut k (stays (unstale st size))
      (call-before written (gate ∷ gate ∷ []) k (stays (unstale st size))
      (any-same (stays (unstale st size)) parts k among))

  at-gate : (k : ℕ) → IsAmong k 2 → call_of (size + length shuts + (length parts + k)) calls ≡ Some gate
  at-gate k among =
      behind-shut (length parts + k) gate
      (subst (λ (n : ℕ). call_of (n + k) (written ++ gate ∷ gate ∷ []) ≡ Some gate) written-long
      (call-behind written (gate ∷ gate ∷ []) k gate (one-of-two k gate among)))

module _ {D : Type 0} (members : disk.Ghosts D) (v : SpoolView D) (st : Standing) (spent : Spent D) (s t : Story)
    (is : Stands members v st) (old : members.told v.disk ≡ Some s) (new : members.told spent.disk ≡ Some t)
    (images : LeavesImages t) (goes : IsGoingDisk (members.health v.disk))
    (stopped : (members.health spent.disk).stopped ≡ true) (stream function : ℕ) (body : List ℕ)
  where
    abbrev health : DiskHealth
    health = members.health v.disk

    abbrev stop : ℕ
    stop = health.stop_in

    abbrev n : ℕ
    n = slots_for (length body)

    abbrev gates : List Bool
    gates = stale_gates st n

    abbrev closing : List DiskCall
    closing = synced (gate_shuts st.file.slots st.next gates)

    abbrev writing : List DiskCall
    writing = part_calls st.file.slots st.next stream function body

    abbrev staging : List Bool → List DiskCall
    staging open_gates = stage_calls v.slots v.next open_gates stream function body

    file-is : st.file ≡ file_in s.now.bytes
    file-is = same_file members v st is s old

    -- which gates are open in the bytes is which are so in the file
    gates-are : open_gates v.next n (file_in s.now.bytes) ≡ gates
    gates-are =
        ap (open_gates v.next n) (sym file-is) ∙ ap (λ (c : Count). open_gates c.next n st.file) is.count

    shut-is : shut_in v.next n s.now.bytes ≡ (unstale st n).file
    shut-is = ap (with_shut v.next n) (sym file-is) ∙ ap (λ (c : Count). with_shut c.next n st.file) is.count

    marked-is : (choice : CutChoice) (m : ℕ)
        → with_gates
        (gates_left choice (shut_marks v.slots v.next gates m (replicate v.slots false)) (file_in s.now.bytes).gates)
        (file_in s.now.bytes)
        ≡ by_gates (marks st stream function body m) st choice
    marked-is choice m =
        ap
        (λ (c : Count). with_gates
        (gates_left choice (shut_marks c.slots c.next gates m (replicate c.slots false)) (file_in s.now.bytes).gates)
        (file_in s.now.bytes)) is.count
        ∙ ap (λ (f : SpoolFile). with_gates (gates_left choice (marks st stream function body m) f.gates) f)
        (sym file-is)

    -- how many calls there are up to the parts, and up to the gate
    shut-long : length gates ≡ n → length (shut_calls v.slots v.next gates) ≡ n + length closing
    shut-long long =
        ap (λ (c : Count). length (shut_calls c.slots c.next gates)) is.count
        ∙ (let both = length-append (gate_looks st.file.slots st.next (length gates)) closing in
        let looks = looks-long st.file.slots st.next (length gates) in
        omega (arith, both, looks, long))

    stage-long : length gates ≡ n → length (staging gates) ≡ n + length closing + length writing
    stage-long long =
        let both = length-append (shut_calls v.slots v.next gates) (part_calls v.slots v.next stream function body) in
        let same : length (part_calls v.slots v.next stream function body) ≡ length writing =
        ap (λ (c : Count). length (part_calls c.slots c.next stream function body)) is.count in
        let shuts = shut-long long in
        omega (arith, both, same, shuts)

    are-long : HasPut members v stream function body spent.disk Failed → length gates ≡ n
    are-long put = ap length (sym (put.stale_is s old ∙ gates-are)) ∙ put.long

    planned : (calls : ℕ) → IsPlanned health calls → IsAmong stop calls
    planned calls = planned-stop members v st spent s t is old new images goes stopped calls

    fits : (calls n : ℕ) → IsSure health (members.health spent.disk) calls n
    fits = sure members v st spent s t is old new images goes stopped

    abbrev At : Type 0
    At = HasLeftAt (calls_at st (Change (work.Put stream function body))) stop t

    -- ---- the stage has failed

    module _ (long : length gates ≡ n) (lost : HasLostStage members v spent.disk gates (staging gates)) where
      looks-left : IsAmong stop n → At
      looks-left early = record {
        left = stays st;
        is = at-look st stream function body stop early;
        at =
            let most = early.1 in
            left-same members v st spent s t is old new images goes stopped
            (lost.early (inr (inl (early.0, omega (arith, most, long)))));
      }

      shut-left : n < stop → IsAmong stop (n + length closing) → At
      shut-left past among = record {
        left = by_gates (marks st stream function body (stop - n)) st;
        is =
            let here : n + (stop - n) ≡ stop = omega (arith, past) in
            let most = among.1 in
            subst
            (λ (k : ℕ).
            call_of k (calls_at st (Change (work.Put stream function body)))
            ≡ Some (by_gates (marks st stream function body (stop - n)) st)) here
            (at-shut st stream function body (stop - n) (omega (arith, past), omega (arith, past, most)));
        at = λ choice.
            let most = among.1 in
            let shuts = shut-long long in
            subst (StandsFor (image_of choice t)) (marked-is choice (stop - n))
            (lost.shutting (stop - n) (omega (arith, past, most, shuts, long)) (fits _ _)
            (inr (inl (among.0, omega (arith, past, long))))
            (λ before. let far = (planned (length gates + (stop - n - 1)) before).1 in omega (arith, past, long, far))
            s t old new choice);
      }

      parts-left : n + length closing < stop → IsAmong stop (n + length closing + length writing) → At
      parts-left past among = record {
        left = stays (unstale st n);
        is =
            let here : n + length closing + (stop - (n + length closing)) ≡ stop = omega (arith, past) in
            let most = among.1 in
            subst
            (λ (k : ℕ).
            call_of k (calls_at st (Change (work.Put stream function body))) ≡ Some (stays (unstale st n))) here
            (at-part st stream function body (stop - (n + length closing))
            (omega (arith, past), omega (arith, past, most)));
        at = λ choice.
            let shuts = shut-long long in
            subst (StandsFor (image_of choice t))
            (ap (λ (k : ℕ). shut_in v.next k s.now.bytes) long ∙ shut-is)
            (lost.late (fits _ _)
            (λ before. let far = (planned (length (shut_calls v.slots v.next gates)) before).1 in
            omega (arith, past, shuts, far)) s t old new (image_of choice t) (images choice));
      }

      stage-left : IsAmong stop (n + length closing + length writing) → At
      stage-left among = go (either-among stop n) (either-among stop (n + length closing))
        where
          go : IsAmong stop n ⊎ (IsAmong stop n → ⊥)
              → IsAmong stop (n + length closing) ⊎ (IsAmong stop (n + length closing) → ⊥) → At
          go (inl early) second = looks-left early
          go (inr late) (inl second) = shut-left (past-all stop n among.0 late) second
          go (inr late) (inr last) = parts-left (past-all stop (n + length closing) among.0 last) among

    -- ---- the gate has

    module _ (long : length gates ≡ n) (u : StagedView D) (staged : Stages members v stream function body (Ok u))
        (seals : Seals members u (Err spent)) (put : HasPut members v stream function body spent.disk Failed)
        (used : IsUsed health (members.health u.spool.disk) (length (staging gates)) (written_by (staging gates)))
      where
        mid : (m : Story) × (members.told u.spool.disk ≡ Some m)
        mid = let all = staged.0.images s old in (all.0, all.1)

        eqs : (shut_in v.next n s.now.bytes ≡ file_in mid.0.now.bytes)
            × (sealed_in (next_slot u.spool) mid.0.now.bytes ≡ put_in (numbered v stream function body) s.now.bytes)
        eqs = sealed_is members v stream function body put.fits u staged s mid.0 old mid.1

        rest : IsSure (members.health u.spool.disk) (members.health spent.disk) 2 1
        rest =
            sure_stopped (members.health u.spool.disk) (members.health spent.disk)
            (lists_on health (members.health u.spool.disk) _ _ used goes.going) stopped 2 1

        behind-stage : IsAmong stop (length (staging gates) + 2)
        behind-stage = at (seals.0.disk.cause.stops stopped)
          where
            on : (members.health u.spool.disk).stopped ≡ true → health.stopped ≡ false → ⊥
            on now before = let going = used.going in cc

            at : ((members.health u.spool.disk).stopped ≡ true)
                ⊎ ((members.health u.spool.disk).stop_in ≡ seals.0.disk.cause.made + 1)
                → IsAmong stop (length (staging gates) + 2)
            at (inl now) = absurd (on now goes.going.on)
            at (inr here) =
                let left = used.stop_left in
                let few = seals.0.disk.cause.few in
                (omega (arith, here, left), omega (arith, here, left, few))

        gate-left : At
        gate-left = record {
          left = gate st stream function body;
          is =
              let past =
              past-all stop (length (staging gates)) behind-stage.0 (λ early. used.unplanned (inr (inl early))) in
              let all = stage-long long in
              let most = behind-stage.1 in
              let here :
              n + length closing + (length writing + (stop - (n + length closing + length writing))) ≡ stop =
              omega (arith, past, all) in
              subst
              (λ (k : ℕ).
              call_of k (calls_at st (Change (work.Put stream function body))) ≡ Some (gate st stream function body))
              here
              (at-gate st stream function body (stop - (n + length closing + length writing))
              (omega (arith, past, all), omega (arith, past, all, most)));
          at = λ choice.
              subst
              (λ (f : SpoolFile).
              StandsFor (image_of choice t) (file_left (gate_counts choice opens) f (unstale st n).file))
              (eqs.1 ∙ put_file members v st stream function body is s old)
              (subst
              (λ (f : SpoolFile).
              StandsFor (image_of choice t)
              (file_left (gate_counts choice opens) (sealed_in (next_slot u.spool) mid.0.now.bytes) f))
              (sym eqs.0 ∙ shut-is) (seals.1 rest mid.0 t mid.1 new choice));
        }

    -- ---- whichever has

    pub put-left : HasPut members v stream function body spent.disk Failed
        → StagesAndSeals members v stream function body (Err spent) → At
    put-left put (inl (failed, loses)) =
        stage-left (are-long put)
        (subst (λ (open_gates : List Bool). HasLostStage members v spent.disk open_gates (staging open_gates)) gates-are
        (loses s old))
        (let all = stage-long (are-long put) in
        let among =
        by-cause members v st spent s t is old new images goes stopped (length (staging gates)) _
        (subst
        (λ (open_gates : List Bool).
        DiskFault health (members.health spent.disk) (length (staging open_gates))
        (health.room < written_by (staging open_gates))) (failed.stale_is s old ∙ gates-are) failed.made.calls.cause) in
        let most = among.1 in
        (among.0, omega (arith, all, most)))
    put-left put (inr (u, staged, seals)) =
        gate-left (are-long put) u staged seals put
        (subst
        (λ (open_gates : List Bool).
        IsUsed health (members.health u.spool.disk) (length (staging open_gates)) (written_by (staging open_gates)))
        (staged.0.stale_is s old ∙ gates-are) staged.0.made.calls.cause)
