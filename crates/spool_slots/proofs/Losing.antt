-- What a crash leaves of a put up to its last gate, by the call at which the disk was to fail.
use Rattle.std.proofs.Common.{◌≡◌, ◌⊎◌, inl, inr, ℕ, zero, suc, ◌+◌, ◌-◌, ◌%◌, ◌<◌, ◌≤◌, ◌==◌, Bool, true, false, List, []}
use Rattle.std.proofs.Common.{◌∷◌, ◌++◌, get_or, length, length-append, replicate, slice_index, take, Ok, Option, None, Some, ◌∙◌}
use Rattle.std.proofs.Common.{refl, sym, ap, subst, arith}
use Rattle.std.proofs.lemmas.Bool.{cases_lt}
use Rattle.std.proofs.lemmas.Bool.Decides.{nat_tests}
use Rattle.std.specs.Option.{option_map}
use Rattle.disk_base.specs.Calls.{DiskCall, sync_call}
use Rattle.disk_base.specs.Cut.{image_of}
use Rattle.disk_base.specs.Faults.{DiskHealth, IsPlanned}
use Rattle.disk_base.specs.Listed.{next_story}
use Rattle.disk_base.specs.Story.{Story}
use Rattle.disk_base.specs.Through.{EachImage}
use Rattle.disk_base.specs.declared.cut.CutChoice.{CutChoice}
use Rattle.disk_base.specs.declared.disk.Disk as disk
use Rattle.disk_base.specs.declared.disk.DiskAnswer.TheVariants.{Done, Failed}
use Rattle.disk_base.proofs.Stretches.{planned_before, planned_behind, used_behind}
use Rattle.spool_file.specs.File.{StandsFor, file_in, gates_below}
use Rattle.spool_file.specs.Logs.{answered, written_by}
use Rattle.spool_file.specs.Sizes.{slots_for}
use Rattle.spool_file.specs.Slot.{slot_in, slot_place}
use Rattle.spool_file.specs.declared.recovery.Known.{Known}
use Rattle.spool_file.proofs.Making.{written_both}
use Rattle.spool_file.proofs.Others.{IsOfRow}
use Rattle.spool_slots.specs.Calls.{gate_look, gate_looks, gate_shuts, part_calls, shut_calls, stage_calls, synced}
use Rattle.spool_slots.specs.Carried.{story_behind}
use Rattle.spool_slots.specs.Changes.{HasLostStage, HasRoomFor, HasStaged, LosesStage, Stages, open_gates}
use Rattle.spool_slots.specs.Files.{shut_in, with_gates}
use Rattle.spool_slots.specs.Losses.{IsSure, LeavesGates, gates_left, opens, shut_marks}
use Rattle.spool_slots.specs.Put.{AreGates, FailsAtLooks, FailsAtShuts, GoesToParts, HasPut, IsOpenGate, opens_in}
use Rattle.spool_slots.specs.Put.{shut_steps}
use Rattle.spool_slots.specs.Spool.{IsSpool, IsStagedSpool, Rests, in_hand, staged}
use Rattle.spool_slots.proofs.Carrying.{sure_less}
use Rattle.spool_slots.proofs.GatesLeft.{gates_now, image_long, image_same, none_shut, not_loose, shuts_marked}
use Rattle.spool_slots.proofs.GatesLeft.{IsShutTo}
use Rattle.spool_slots.proofs.Going.{IsBut}
use Rattle.spool_slots.proofs.Lost.{planned_wider, sure_behind}
use Rattle.spool_slots.proofs.Putting.{putting_stands}
use Rattle.spool_slots.proofs.Rows.{opens_by_file}
use Rattle.spool_slots.proofs.Shuts.{length-bools, open_at, opens_at, opens_bools, shuts_are, shuts_write}
use Rattle.spool_slots.proofs.Shuts.{stopped_shuts}
use Rattle.spool_slots.proofs.StagedPuts.{behind_stands, length-open, looks_hold, looks_staged, open_putting, parts_go}
use Rattle.spool_slots.proofs.StagedPuts.{not_failed, parts_staged, seen_is, seen_open, shut_told, shuts_staged}
use Rattle.spool_slots.proofs.StagedPuts.{staged_spool, stages}

length-looks : (slots number n : ℕ) → length (gate_looks slots number n) ≡ n
length-looks slots number zero = refl
length-looks slots number (suc n) =
    omega (
      arith,
      length-append (gate_looks slots number n) (gate_look slots (number + n)),
      length-looks slots number n,
    )

written-looks : (slots number n : ℕ) → written_by (gate_looks slots number n) ≡ 0
written-looks slots number zero = refl
written-looks slots number (suc n) =
    omega (
      arith,
      written_both (gate_looks slots number n) (gate_look slots (number + n)),
      written-looks slots number n,
    )

-- the row that failed had a sync behind it
synced_split : (xs before rest : List DiskCall) (call : DiskCall) → synced xs ≡ before ++ call ∷ rest →
    xs ++ sync_call Done ∷ [] ≡ before ++ call ∷ rest
synced_split [] before rest call split =
    let none = ap (length {A = DiskCall}) split in
    absurd (omega (arith, none, length-append before (call ∷ rest)))
synced_split (x ∷ xs) before rest call split = split

abbrev story_or : Story → Option Story → Story
story_or other None = other
story_or other (Some s) = s

same_story : (o : Option Story) (s t : Story) → o ≡ Some s → o ≡ Some t → s ≡ t
same_story o s t one two = ap (story_or s) (sym one ∙ two)

module _ {D : Type 0} (members : disk.Ghosts D) (d d' : D) (k : Known) (is : IsSpool members (in_hand d k))
    (stream function : ℕ) (body : List ℕ) (room : HasRoomFor (in_hand d k) (length body)) (s : Story)
    (told : members.told d ≡ Some s) where
  abbrev size : ℕ
  size = slots_for (length body)

  abbrev bytes : List ℕ
  bytes = s.now.bytes

  abbrev stale : List Bool
  stale = open_gates k.next size (file_in bytes)

  abbrev parts : List DiskCall
  parts = part_calls k.slots k.next stream function body

  abbrev looks : List DiskCall
  looks = gate_looks k.slots k.next size

  abbrev zeros : List DiskCall
  zeros = gate_shuts k.slots k.next stale

  abbrev calls : List DiskCall
  calls = stage_calls k.slots k.next stale stream function body

  abbrev shut_all : List DiskCall
  shut_all = shut_calls k.slots k.next stale

  abbrev now : DiskHealth
  now = members.health d

  rests : Rests s k
  rests = is.rests s told

  stale_long : length stale ≡ size
  stale_long = length-open k.next size (file_in bytes)

  looks_long : length looks ≡ size
  looks_long = length-looks k.slots k.next size

  shut_long : length shut_all ≡ size + length (synced zeros)
  shut_long =
      omega (
        arith,
        length-append (gate_looks k.slots k.next (length stale)) (synced zeros),
        length-looks k.slots k.next (length stale),
        stale_long,
      )

  calls_long : length calls ≡ size + length (synced zeros) + length parts
  calls_long = omega (arith, length-append shut_all parts, shut_long)

  calls_wrote : written_by calls ≡ written_by (synced zeros) + written_by parts
  calls_wrote =
      omega (
        arith,
        written_both shut_all parts,
        written_both (gate_looks k.slots k.next (length stale)) (synced zeros),
        written-looks k.slots k.next (length stale),
      )

  abbrev Lost : Type 0
  Lost = HasLostStage members (in_hand d k) d' stale calls

  -- ---- a look failed

  looks_lost_at : FailsAtLooks members d d' k.slots k.next size Failed → Lost
  looks_lost_at fails =
      let stop = fails.looks.goes in
      let split = ap (length {A = DiskCall}) stop.split in
      let long = length-append stop.before (stop.call ∷ stop.rest) in
      let among : length stop.before + 1 ≤ size = omega (arith, split, long, looks_long) in
      let wrote = written-looks k.slots k.next size in
      let planned : IsSure now (members.health d') (length calls) (written_by calls) →
      IsPlanned now (length stop.before + 1) =
      λ sure. stop.planned (sure_less now (members.health d') (length looks) (written_by looks) (length calls)
      (written_by calls) (omega (arith, looks_long, calls_long)) (omega (arith, wrote)) sure) in
      record {
        early = λ early t told'. looks_hold members d d' k is stream function body room t told' fails.told;
        shutting = λ m within sure due none. absurd (none (planned_wider now (length stop.before + 1)
            (length stale + (m - 1)) (omega (arith, among, stale_long)) (planned sure)));
        late = λ sure none. absurd (none (planned_wider now (length stop.before + 1) (length shut_all)
            (omega (arith, among, shut_long)) (planned sure)));
      }

  -- ---- a 00 failed, or their sync

  module _ (gates : List ℕ) (are : AreGates (members.told d) k.slots k.next size gates) where
    abbrev steps : List DiskCall
    steps = shut_steps k.slots k.next size gates

    stale_is : seen_open members d d' k is stream function body room gates ≡ stale
    stale_is = seen_is members d d' k is stream function body room s told gates are

    steps_are : steps ≡ zeros
    steps_are =
        shuts_are k.slots k.next (λ p. opens (slice_index gates p)) size ∙ ap (gate_shuts k.slots k.next) stale_is

    synced_long : length (synced steps) ≡ length (synced zeros)
    synced_long = ap (λ (row : List DiskCall). length (synced row)) steps_are

    synced_wrote : written_by (synced steps) ≡ written_by (synced zeros)
    synced_wrote = ap (λ (row : List DiskCall). written_by (synced row)) steps_are

    -- the gates of its slots that were open
    abbrev Was : ℕ → Type 0
    Was j = (get_or bytes (slot_place j) 0 ≡ 90) × IsOfRow k.slots k.next size j

    seen_at : (p : ℕ) → p < size → get_or stale p false ≡ opens_at bytes k.slots (k.next + p)
    seen_at p below =
        ap (λ (all : List Bool). get_or all p false)
        (opens_by_file bytes (subst (λ (n : ℕ). 1 ≤ n) rests.slots_are is.some) k.next size
        ∙ ap (λ (n : ℕ). opens_in bytes n k.next size) (sym rests.slots_are))
        ∙ open_at bytes k.slots k.next size p below

    was_open : (p : ℕ) → p < length stale → get_or stale p false ≡ true → Was ((k.next + p) % k.slots)
    was_open p below there =
        let less : p < size = omega (arith, below, stale_long) in
        let test : (get_or bytes (slot_place ((k.next + p) % k.slots)) 0 == 90) ≡ true = sym (seen_at p less) ∙ there in
        (grind (arith, nat_tests, test), (p, less, refl))

    opens_long : length (opens_in bytes k.slots k.next size) ≡ size
    opens_long =
        ap (length {A = Bool}) (opens_bools bytes k.slots k.next size)
        ∙ length-bools (λ p. opens_at bytes k.slots (k.next + p)) size

    -- m of them were written
    module _ (m : ℕ) (t : Story) (written : story_behind (take m zeros) s ≡ t) (choice : CutChoice) where
      abbrev marks : List Bool
      marks = shut_marks k.slots k.next stale m (replicate k.slots false)

      abbrev image : List ℕ
      image = image_of choice t

      marked : IsShutTo k.slots Was bytes marks t
      marked =
          subst (IsShutTo k.slots Was bytes marks) written
          (shuts_marked k.slots k.next Was bytes stale m (replicate k.slots false) s is.some rests.inside was_open
          (none_shut k.slots Was s rests.settled))

      image_but : IsBut (IsOpenGate k.slots k.next (opens_in bytes k.slots k.next size)) bytes image
      image_but = record {
        long = image_long k.slots Was bytes marks t choice marked;
        kept = λ place none. image_same k.slots Was bytes marks t choice marked place
            (not_loose k.slots Was bytes marks t choice marked place (λ j below same was. none (as_open j place same was)));
      } where
        as_open : (j place : ℕ) → place ≡ slot_place j → Was j →
            IsOpenGate k.slots k.next (opens_in bytes k.slots k.next size) place
        as_open j place same was =
            let row = was.1 in
            let test : opens_at bytes k.slots (k.next + row.0) ≡ true =
            ap (λ (i : ℕ). get_or bytes (slot_place i) 0 == 90) (sym row.2) ∙ grind (arith, nat_tests, was.0) in (
              row.0,
              omega (arith, row.1, opens_long),
              open_at bytes k.slots k.next size row.0 row.1 ∙ test,
              same ∙ ap slot_place row.2,
            )

      left_stands : StandsFor image (with_gates (gates_left choice marks (file_in bytes).gates) (file_in bytes))
      left_stands =
          subst (λ (all : List Bool). StandsFor image (with_gates all (file_in bytes)))
          (gates_now k.slots Was bytes marks t choice marked rests.inside (λ j was. was.0)
          ∙ ap (λ (n : ℕ). gates_left choice marks (gates_below (slot_in bytes) n)) rests.slots_are)
          (putting_stands s k rests is.room size room.free image
          (open_putting members d d' k is stream function body room s told image image_but))

    module _ (fails : FailsAtShuts members d d' k.slots k.next size gates Failed) where
      abbrev looked : DiskHealth
      looked = members.health fails.looked

      abbrev before : List DiskCall
      before = fails.shuts.goes.before

      among : length before + 1 ≤ length (synced zeros)
      among =
          omega (
            arith,
            ap (length {A = DiskCall}) fails.shuts.goes.split,
            length-append before (fails.shuts.goes.call ∷ fails.shuts.goes.rest),
            synced_long,
          )

      sure_there : IsSure now (members.health d') (length calls) (written_by calls) →
          IsSure looked (members.health d') (length (synced steps)) (written_by (synced steps))
      sure_there sure =
          let wrote = written-looks k.slots k.next size in
          sure_behind now looked (members.health d') (length looks) (written_by looks) fails.looks.made.calls.cause
          (length (synced steps)) (written_by (synced steps)) (length calls) (written_by calls)
          (omega (arith, looks_long, synced_long, calls_long)) (omega (arith, wrote, synced_wrote, calls_wrote)) sure

      planned_there : IsSure now (members.health d') (length calls) (written_by calls) →
          IsPlanned now (size + (length before + 1))
      planned_there sure =
          planned_before now looked (length looks) (written_by looks) fails.looks.made.calls.cause (length before + 1)
          (size + (length before + 1)) (omega (arith, looks_long)) (fails.shuts.goes.planned (sure_there sure))

      -- which one it was
      which : (m : ℕ) → IsSure now (members.health d') (length calls) (written_by calls) →
          IsPlanned now (length stale + m) → (IsPlanned now (length stale + (m - 1)) → ⊥) → m ≡ suc (length before)
      which m sure due none = by_less (cases_lt m (suc (length before))) where
        by_more : suc (length before) ≤ m → (suc (length before) < m) ⊎ (m ≤ suc (length before)) →
            m ≡ suc (length before)
        by_more from (inl behind) =
            absurd (none (planned_wider now (size + (length before + 1)) (length stale + (m - 1))
            (omega (arith, behind, stale_long)) (planned_there sure)))
        by_more from (inr to) = omega (arith, from, to)

        by_less : (m < suc (length before)) ⊎ (suc (length before) ≤ m) → m ≡ suc (length before)
        by_less (inl early) =
            absurd (fails.shuts.goes.unplanned
            (planned_behind now looked (length looks) (written_by looks) fails.looks.made.calls.cause (length before)
            (size + length before) (omega (arith, looks_long))
            (planned_wider now (length stale + m) (size + length before) (omega (arith, early, stale_long)) due)))
        by_less (inr from) = by_more from (cases_lt (suc (length before)) m)

      split_there : zeros ++ sync_call Done ∷ [] ≡ before ++ fails.shuts.goes.call ∷ fails.shuts.goes.rest
      split_there =
          synced_split zeros before fails.shuts.goes.rest fails.shuts.goes.call
          (ap synced (sym steps_are) ∙ fails.shuts.goes.split)

      told_there : (m : ℕ) → m ≡ suc (length before) → IsSure now (members.health d') (length calls) (written_by calls) →
          members.told d' ≡ Some (story_behind (take m zeros) s)
      told_there m here sure =
          fails.shuts.goes.listed (sure_there sure)
          ∙ ap (λ (o : Option Story).
          option_map (λ (u : Story). next_story (story_behind before u) (answered fails.shuts.goes.call Failed)) o)
          (fails.told ∙ told)
          ∙ ap Some (stopped_shuts zeros before fails.shuts.goes.call fails.shuts.goes.rest s
          (shuts_write k.slots k.next stale) split_there)
          ∙ ap (λ (n : ℕ). Some (story_behind (take n zeros) s)) (sym here)

      leaves : (m : ℕ) → m ≡ suc (length before) → IsSure now (members.health d') (length calls) (written_by calls) →
          LeavesGates (members.told d) (members.told d') (shut_marks k.slots k.next stale m (replicate k.slots false))
      leaves m here sure s' t told_s told_t choice =
          let written = same_story (members.told d') (story_behind (take m zeros) s) t (told_there m here sure) told_t in
          subst (λ (u : Story). StandsFor (image_of choice t)
          (with_gates (gates_left choice (shut_marks k.slots k.next stale m (replicate k.slots false))
          (file_in u.now.bytes).gates) (file_in u.now.bytes)))
          (same_story (members.told d) s s' told told_s) (left_stands m t written choice)

      shuts_lost_at : Lost
      shuts_lost_at = record {
        early = λ early. absurd (fails.looks.made.calls.cause.unplanned
            (planned_wider now (length stale) (length looks) (omega (arith, stale_long, looks_long)) early));
        shutting = λ m within sure due none. leaves m (which m sure due none) sure;
        late = λ sure none. absurd (none (planned_wider now (size + (length before + 1)) (length shut_all)
            (omega (arith, among, shut_long)) (planned_there sure)));
      }

    -- ---- what came behind them failed

    module _ (goes : GoesToParts members d d' k.slots k.next size gates parts Failed) where
      unplanned : IsPlanned now (length shut_all) → ⊥
      unplanned planned =
          (used_behind now (members.health goes.looked) (length looks) (written_by looks) goes.looks.made.calls.cause
          (members.health goes.shut) (length (synced steps)) (written_by (synced steps)) (length shut_all)
          (written_by looks + written_by (synced steps)) (omega (arith, looks_long, synced_long, shut_long)) refl
          goes.shuts.made.calls.cause).unplanned planned

      late_there : (u t : Story) → members.told d ≡ Some u → members.told d' ≡ Some t →
          EachImage (λ image. StandsFor image (shut_in k.next (length stale) u.now.bytes)) t.now
      late_there u t told_u told_t =
          let here = shut_told members d d' k is stream function body room s told gates are goes.looked goes.shut goes.told
          goes.shuts in
          let went = parts_go members d d' k is stream function body room s told gates are goes.shut Failed here
          goes.parts in
          subst (λ (v : Story). EachImage (λ image. StandsFor image (shut_in k.next (length stale) v.now.bytes)) t.now)
          (same_story (members.told d) s u told told_u)
          (subst (λ (v : Story). EachImage (λ image. StandsFor image (shut_in k.next (length stale) bytes)) v.now)
          (same_story (members.told d') went.0 t went.1 told_t)
          (λ image left. subst (λ (n : ℕ). StandsFor image (shut_in k.next n bytes)) (sym stale_long)
          (behind_stands members d d' k is stream function body room s told gates are image (went.2.last image left))))

      parts_lost_at : Lost
      parts_lost_at = record {
        early = λ early. absurd (unplanned
            (planned_wider now (length stale) (length shut_all) (omega (arith, stale_long, shut_long)) early));
        shutting = λ m within sure due none. absurd (unplanned
            (planned_wider now (length stale + m) (length shut_all) within due));
        late = λ sure none. late_there;
      }

-- so of a put that failed
pub stage_lost : {D : Type 0} (members : disk.Ghosts D) (d d' : D) (k : Known) (is : IsSpool members (in_hand d k))
    (stream function : ℕ) (body : List ℕ) (room : HasRoomFor (in_hand d k) (length body)) →
    HasPut members d d' k.slots k.next (slots_for (length body)) (part_calls k.slots k.next stream function body) Failed →
    LosesStage members (in_hand d k) stream function body d'
stage_lost members d d' k is stream function body room put s told = by_way put.goes where
  by_way : FailsAtLooks members d d' k.slots k.next (slots_for (length body)) Failed
      ⊎ (AreGates (members.told d) k.slots k.next (slots_for (length body)) put.gates
      × (FailsAtShuts members d d' k.slots k.next (slots_for (length body)) put.gates Failed
      ⊎ GoesToParts members d d' k.slots k.next (slots_for (length body)) put.gates
      (part_calls k.slots k.next stream function body) Failed)) →
      HasLostStage members (in_hand d k) d' (open_gates k.next (slots_for (length body)) (file_in s.now.bytes))
      (stage_calls k.slots k.next (open_gates k.next (slots_for (length body)) (file_in s.now.bytes)) stream function body)
  by_way (inl fails) = looks_lost_at members d d' k is stream function body room s told fails
  by_way (inr (are, inl fails)) =
      shuts_lost_at members d d' k is stream function body room s told put.gates are fails
  by_way (inr (are, inr goes)) =
      parts_lost_at members d d' k is stream function body room s told put.gates are goes

pub stage_failed : {D : Type 0} (members : disk.Ghosts D) (d d' : D) (k : Known) (is : IsSpool members (in_hand d k))
    (stream function : ℕ) (body : List ℕ) (room : HasRoomFor (in_hand d k) (length body)) →
    HasPut members d d' k.slots k.next (slots_for (length body)) (part_calls k.slots k.next stream function body) Failed →
    HasStaged members (in_hand d k) stream function body d' Failed
stage_failed members d d' k is stream function body room put = by_way put.goes where
  by_way : FailsAtLooks members d d' k.slots k.next (slots_for (length body)) Failed
      ⊎ (AreGates (members.told d) k.slots k.next (slots_for (length body)) put.gates
      × (FailsAtShuts members d d' k.slots k.next (slots_for (length body)) put.gates Failed
      ⊎ GoesToParts members d d' k.slots k.next (slots_for (length body)) put.gates
      (part_calls k.slots k.next stream function body) Failed)) →
      HasStaged members (in_hand d k) stream function body d' Failed
  by_way (inl fails) = looks_staged members d d' k is stream function body room fails.told fails.looks
  by_way (inr (are, inl fails)) = shuts_staged members d d' k is stream function body room put.gates are fails
  by_way (inr (are, inr goes)) = parts_staged members d d' k is stream function body room put.gates Failed are goes

-- and of one that was done
module _ {D : Type 0} (members : disk.Ghosts D) (d d' : D) (k : Known) (is : IsSpool members (in_hand d k))
    (stream function : ℕ) (body : List ℕ) (room : HasRoomFor (in_hand d k) (length body)) (few : stream < 128)
    (odd : function % 2 ≡ 1) where
  pub spool_done : HasPut members d d' k.slots k.next (slots_for (length body))
      (part_calls k.slots k.next stream function body) Done →
      IsStagedSpool members (staged d' k (slots_for (length body)))
  spool_done put = by_way put.goes where
    by_way : FailsAtLooks members d d' k.slots k.next (slots_for (length body)) Done
        ⊎ (AreGates (members.told d) k.slots k.next (slots_for (length body)) put.gates
        × (FailsAtShuts members d d' k.slots k.next (slots_for (length body)) put.gates Done
        ⊎ GoesToParts members d d' k.slots k.next (slots_for (length body)) put.gates
        (part_calls k.slots k.next stream function body) Done)) →
        IsStagedSpool members (staged d' k (slots_for (length body)))
    by_way (inl fails) = absurd (not_failed fails.failed)
    by_way (inr (are, inl fails)) = absurd (not_failed fails.failed)
    by_way (inr (are, inr goes)) =
        staged_spool members d d' k is stream function body room put.gates are goes few odd

  pub stage_done : HasPut members d d' k.slots k.next (slots_for (length body))
      (part_calls k.slots k.next stream function body) Done →
      Stages members (in_hand d k) stream function body (Ok (staged d' k (slots_for (length body))))
  stage_done put = by_way put.goes where
    by_way : FailsAtLooks members d d' k.slots k.next (slots_for (length body)) Done
        ⊎ (AreGates (members.told d) k.slots k.next (slots_for (length body)) put.gates
        × (FailsAtShuts members d d' k.slots k.next (slots_for (length body)) put.gates Done
        ⊎ GoesToParts members d d' k.slots k.next (slots_for (length body)) put.gates
        (part_calls k.slots k.next stream function body) Done)) →
        Stages members (in_hand d k) stream function body (Ok (staged d' k (slots_for (length body))))
    by_way (inl fails) = absurd (not_failed fails.failed)
    by_way (inr (are, inl fails)) = absurd (not_failed fails.failed)
    by_way (inr (are, inr goes)) = stages members d d' k is stream function body room put.gates are goes few odd
