-- That the calls which a work makes are those of its updates, and what works cost over any disk.
use Rattle.std.proofs.Common.{◌≡◌, inl, inr, ℕ, zero, suc, ◌+◌, ◌-◌, ◌%◌, ◌<◌, ◌≤◌, Bool, false, List, []}
use Rattle.std.proofs.Common.{◌∷◌, ◌++◌, append-nil, append_assoc, length, replicate, get_or, None, Some, Ok, Err, refl}
use Rattle.std.proofs.Common.{sym, ap, subst, ◌∙◌, arith}
use Rattle.std.proofs.Math.ListN.{set}
use Rattle.std.proofs.lemmas.List.{get_or-set_other, get_or-set_same, length-replicate, length-set}
use Rattle.std.proofs.lemmas.Nat.{mod_below}
use Rattle.disk_base.specs.Calls.{DiskCall}
use Rattle.disk_base.specs.Faults.{HasCause}
use Rattle.disk_base.specs.Story.{Story}
use Rattle.disk_base.specs.declared.disk.Disk as disk
use Rattle.disk_base.specs.declared.disk.DiskAnswer.{DiskAnswer}
use Rattle.disk_base.specs.declared.disk.DiskAnswer.TheVariants.{Done, Failed}
use Rattle.disk_base.proofs.Stretches.{used_none}
use Rattle.gate_cell.specs.Cell.{Cell}
use Rattle.gem_spool.proofs.Amid.{purge_one}
use Rattle.gem_spool.proofs.Doing.{len_is, next_is, same_file}
use Rattle.gem_spool.proofs.Putting.{HasRoomIn, room_is}
use Rattle.gem_spool.proofs.Stays.{blanks_len, moved_is, sizes_len}
use Rattle.gem_spool.specs.declared.count.Count.{Count}
use Rattle.gem_spool.specs.declared.spool.GemSpool.{GemSpool}
use Rattle.gem_spool.specs.declared.works.Work.{Work}
use Rattle.gem_spool.specs.declared.works.Work.TheVariants as work
use Rattle.gem_spool.specs.Updates.{Update, calls_in, cell_update}
use Rattle.gem_spool.specs.Spool.{HasPut, put_calls}
use Rattle.gem_spool.specs.Standing.{Standing, Stands, count_of, file_told, sizes_of}
use Rattle.gem_spool.specs.Works.{Does, HasNumbers, bytes_of, calls_of, oldest_in, purge_updates, stale_gates, updates_of}
use Rattle.spool_file.specs.File.{SpoolFile}
use Rattle.spool_file.specs.Front.{floor_cell}
use Rattle.spool_file.specs.Logs.{MakesAll, written_by}
use Rattle.spool_file.specs.Sizes.{slots_for}
use Rattle.spool_file.specs.Slot.{Message}
use Rattle.spool_file.proofs.BodySizes.{some_slots}
use Rattle.spool_file.proofs.Making.{makes_none}
use Rattle.spool_file.proofs.Runs.{chain_up, places_differ}
use Rattle.spool_slots.specs.Calls.{byte_calls, drop_calls, gate_looks, gate_shuts, number_place, part_calls, synced}
use Rattle.spool_slots.specs.Changes.{Clears, HasDropped, MovesFloor, open_gates}
use Rattle.spool_slots.specs.Files.{cleared_in}
use Rattle.spool_slots.specs.Spool.{SpoolView, known_of}
use Rattle.spool_slots.specs.declared.states.Spent.{Spent}
use Rattle.spool_slots.proofs.Settling.{length_copy, makes_moved}

-- ---- the calls of the updates

length-open : (number n : ℕ) (file : SpoolFile) → length (open_gates number n file) ≡ n
length-open number zero file = refl
length-open number (suc n) file = ap suc (length-open (number + 1) n file)

-- those of a put go by which of its gates are stale
pub put_calls_are : (st : Standing) (stream function : ℕ) (body : List ℕ) →
    calls_in (updates_of st (work.Put stream function body))
    ≡ put_calls st.file.slots st.next (stale_gates st (slots_for (length body))) stream function body
put_calls_are st stream function body =
    let size = slots_for (length body) in
    let slots = st.file.slots in
    let shuts = synced (gate_shuts slots st.next (stale_gates st size)) in
    let parts = part_calls slots st.next stream function body in
    let gate = byte_calls (number_place slots st.next) 90 in
    let long = length-open st.next size st.file in
    ap (λ (n : ℕ). (gate_looks slots st.next n ++ shuts) ++ ((parts ++ gate) ++ [])) (sym long)
    ∙ ap (λ (rest : List DiskCall). (gate_looks slots st.next (length (stale_gates st size)) ++ shuts) ++ rest)
    (append-nil (parts ++ gate))
    ∙ sym (append_assoc (gate_looks slots st.next (length (stale_gates st size)) ++ shuts) parts gate)

-- and those of a purge by whether there is a message
pub purge_none : (st : Standing) (P : List Update → Type 0) → length st.file.list ≡ 0 → P [] →
    P (updates_of st work.Purge)
purge_none st P none is = go st.file.list none
  where
    go : (list : List Message) → length list ≡ 0 → P (purge_updates list st)
    go [] none = is
    go (message ∷ list) none = absurd (omega (arith, none))

record Asks (st : Standing) (one : Work) (many long : ℕ) : Type 0 where
  pub calls : calls_of st one ≡ many
  pub bytes : bytes_of st one ≡ long

purge_asks_none : (st : Standing) → length st.file.list ≡ 0 → Asks st work.Purge 0 0
purge_asks_none st none =
    let both =
    purge_none st (λ (made : List Update). (length (calls_in made) ≡ 0) × (written_by (calls_in made) ≡ 0)) none
    (refl, refl) in
    record { calls = both.0; bytes = both.1 }

purge_asks_some : (st : Standing) → 0 < length st.file.list → Asks st work.Purge 5 9
purge_asks_some st some =
    let both =
    purge_one st (λ (updates : List Update). (length (calls_in updates) ≡ 5) × (written_by (calls_in updates) ≡ 9)) some
    (λ message list. (refl, let copy = length_copy st.next in omega (arith, copy))) in
    record { calls = both.0; bytes = both.1 }

-- ---- where the disk tells its bytes

module _ {D : Type 0} (members : disk.Ghosts D) where
  abbrev Makes : D → D → List DiskCall → DiskAnswer → Type 0
  Makes old new calls said =
      MakesAll (members.health old) (members.health new) (members.calls old) (members.calls new) calls said

  module _ (v : SpoolView D) (after : D) (said : DiskAnswer) (st : Standing) (stands : Stands members v st) (s : Story)
      (told : members.told v.disk ≡ Some s)
    where
      put_same : (stream function : ℕ) (body : List ℕ) (put : HasPut members v stream function body after said) →
          put_calls v.slots v.next put.stale stream function body
          ≡ calls_in (updates_of st (work.Put stream function body))
      put_same stream function body put =
          let size = slots_for (length body) in
          ap (λ (stale : List Bool). put_calls v.slots v.next stale stream function body)
          (put.stale_is s told ∙ ap (open_gates v.next size) (sym (same_file members v st stands s told)))
          ∙ ap (λ (c : Count). put_calls c.slots c.next (open_gates c.next size st.file) stream function body)
          stands.count
          ∙ sym (put_calls_are st stream function body)

      put_makes : (stream function : ℕ) (body : List ℕ) → HasPut members v stream function body after said →
          Makes v.disk after (calls_in (updates_of st (work.Put stream function body))) said
      put_makes stream function body put =
          subst (λ (calls : List DiskCall). Makes v.disk after calls said) (put_same stream function body put) put.makes

      drop_makes : (slots : ℕ) → HasDropped members v after said →
          Makes v.disk after (calls_in (updates_of st (work.DropOldest slots))) said
      drop_makes slots drop =
          let up = chain_up v.first v.next st.file.list stands.chain in
          let first : v.first ≡ oldest_in (count_of v) = omega (arith, up) in
          subst (λ (calls : List DiskCall). Makes v.disk after calls said)
          (ap (λ (n : ℕ). drop_calls (number_place v.slots n)) first
          ∙ ap (λ (c : Count). drop_calls (number_place c.slots (oldest_in c))) stands.count)
          drop.made.calls

      purge_makes : MovesFloor members v after said → Makes v.disk after (calls_in (updates_of st work.Purge)) said
      purge_makes moved =
          purge_one st (λ (updates : List Update). Makes v.disk after (calls_in updates) said)
          (subst (λ (n : ℕ). 0 < n) (len_is members v st stands) moved.0)
          (λ message list. subst (λ (calls : List DiskCall). Makes v.disk after calls said)
          (ap (λ (cell : Cell). calls_in (cell_update floor_cell cell v.next st ∷ []))
          (sym (ap (λ (f : SpoolFile). f.floor) (same_file members v st stands s told)))
          ∙ ap (λ (n : ℕ). calls_in (cell_update floor_cell st.file.floor n st ∷ [])) (next_is members v st stands))
          (makes_moved members v.disk after floor_cell v.next (cleared_in v.next) said
          (moved_is members v.disk after floor_cell v.next (cleared_in v.next) said moved.1) s told))

  pub does_makes : (g h : GemSpool D) (one : Work) (st : Standing) → Stands members g.spool st → (s : Story) →
      members.told g.spool.disk ≡ Some s → Does members g one (Ok h) →
      Makes g.spool.disk h.spool.disk (calls_in (updates_of st one)) Done
  does_makes g h (work.Put stream function body) st stands s told done =
      put_makes g.spool h.spool.disk Done st stands s told stream function body done.0
  does_makes g h (work.DropOldest slots) st stands s told done =
      drop_makes g.spool h.spool.disk Done st stands s told slots done.0.0
  does_makes g h work.Purge st stands s told done = go done.0
    where
      go : Clears members g.spool (Ok h.spool) →
          Makes g.spool.disk h.spool.disk (calls_in (updates_of st work.Purge)) Done
      go (inl none) =
          purge_none st (λ (updates : List Update). Makes g.spool.disk h.spool.disk (calls_in updates) Done)
          (sym (len_is members g.spool st stands) ∙ none.0)
          (subst (λ (d : D). Makes g.spool.disk d [] Done) (sym (ap (λ (x : SpoolView D). x.disk) none.2))
          (makes_none (members.health g.spool.disk) (members.calls g.spool.disk)))
      go (inr moved) = purge_makes g.spool h.spool.disk Done st stands s told moved.0

  pub fails_makes : (g : GemSpool D) (one : Work) (spent : Spent D) (st : Standing) → Stands members g.spool st →
      (s : Story) → members.told g.spool.disk ≡ Some s → Does members g one (Err spent) →
      Makes g.spool.disk spent.disk (calls_in (updates_of st one)) Failed
  fails_makes g (work.Put stream function body) spent st stands s told failed =
      put_makes g.spool spent.disk Failed st stands s told stream function body failed.0
  fails_makes g (work.DropOldest slots) spent st stands s told failed =
      drop_makes g.spool spent.disk Failed st stands s told slots failed.0
  fails_makes g work.Purge spent st stands s told failed = purge_makes g.spool spent.disk Failed st stands s told failed

-- ---- over any disk

-- gates of so many slots, of which those of slots in a row are open as a list says
abbrev gates_with : (slots number : ℕ) → List Bool → List Bool
gates_with slots number [] = replicate slots false
gates_with slots number (is_open ∷ rest) = set (gates_with slots (number + 1) rest) (number % slots) is_open

module _ (slots : ℕ) (some : 1 ≤ slots) where
  length-with : (number : ℕ) (all : List Bool) → length (gates_with slots number all) ≡ slots
  length-with number [] = length-replicate slots false
  length-with number (is_open ∷ rest) =
      length-set (gates_with slots (number + 1) rest) (number % slots) is_open ∙ length-with (number + 1) rest

  with_at : (number : ℕ) (all : List Bool) (p : ℕ) → p < length all → length all ≤ slots →
      get_or (gates_with slots number all) ((number + p) % slots) false ≡ get_or all p false
  with_at number [] p below fits = absurd (omega (arith, below))
  with_at number (is_open ∷ rest) zero below fits =
      let here : number + 0 ≡ number = omega arith in
      let long = length-with (number + 1) rest in
      let within = mod_below number slots (omega (arith, some)) in
      ap (λ (n : ℕ). get_or (gates_with slots number (is_open ∷ rest)) (n % slots) false) here
      ∙ get_or-set_same (gates_with slots (number + 1) rest) (number % slots) is_open false (omega (arith, within, long))
  with_at number (is_open ∷ rest) (suc p) below fits =
      let next : number + suc p ≡ number + 1 + p = omega arith in
      get_or-set_other (gates_with slots (number + 1) rest) (number % slots) ((number + suc p) % slots) is_open false
      (λ same. places_differ (number + suc p) number number slots (omega arith) (omega (arith, below, fits)) (omega arith)
      (omega (arith, some)) (λ is. omega (arith, is)) same)
      ∙ ap (λ (n : ℕ). get_or (gates_with slots (number + 1) rest) (n % slots) false) next
      ∙ with_at (number + 1) rest p (omega (arith, below)) (omega (arith, fits))

-- so of a file with such gates
open_as : (file : SpoolFile) (number : ℕ) (all : List Bool) →
    ((p : ℕ) → p < length all → get_or file.gates ((number + p) % file.slots) false ≡ get_or all p false) →
    open_gates number (length all) file ≡ all
open_as file number [] are = refl
open_as file number (is_open ∷ rest) are =
    let here : number + 0 ≡ number = omega arith in
    let first : get_or file.gates (number % file.slots) false ≡ is_open =
    subst (λ (n : ℕ). get_or file.gates (n % file.slots) false ≡ is_open) here (are 0 (omega arith)) in
    ap (λ (b : Bool). b ∷ open_gates (number + 1) (length rest) file) first
    ∙ ap (λ (more : List Bool). is_open ∷ more) (open_as file (number + 1) rest (λ p below.
    let next : number + suc p ≡ number + 1 + p = omega arith in
    subst (λ (n : ℕ). get_or file.gates (n % file.slots) false ≡ get_or rest p false) next
    (are (suc p) (omega (arith, below)))))

module _ {D : Type 0} (members : disk.Ghosts D) where
  -- some file of these numbers, with such gates
  abbrev found : List Bool → SpoolView D → Standing
  found gates v = record { next = v.next; file = record (file_told None (known_of v)) { gates = gates } }

  found_count : (gates : List Bool) (v : SpoolView D) → HasNumbers (count_of v) (found gates v)
  found_count gates v = (
    refl,
    refl,
    sym (blanks_len v.first (sizes_of v.len (v.next - v.first)) ∙ sizes_len v.len (v.next - v.first)),
  )

  -- a work costs what it does from some standing of its numbers, and from the one that the disk tells
  pub record HasCost (v : SpoolView D) (one : Work) (after : D) (said : DiskAnswer) : Type 0 where
    pub by : Standing
    pub count : HasNumbers (count_of v) by
    pub cause : HasCause (members.health v.disk) (members.health after) (calls_of by one) (bytes_of by one)
        ((members.health v.disk).room < bytes_of by one) said
    pub are : (st : Standing) → Stands members v st → (s : Story) → members.told v.disk ≡ Some s →
        (calls_of by one ≡ calls_of st one) × (bytes_of by one ≡ bytes_of st one)

  module _ (v : SpoolView D) (after : D) (said : DiskAnswer) where
    put_cost : (stream function : ℕ) (body : List ℕ) → HasPut members v stream function body after said →
        HasCost v (work.Put stream function body) after said
    put_cost stream function body put = record {
      by = by;
      count = found_count gates v;
      cause = (subst (λ (calls : List DiskCall). Makes members v.disk after calls said) list put.makes).cause;
      are = λ st stands s told.
          let both = sym list ∙ put_same members v after said st stands s told stream function body put in
          (ap length both, ap written_by both);
    }
      where
        size : ℕ
        size = slots_for (length body)

        gates : List Bool
        gates = gates_with v.slots v.next put.stale

        by : Standing
        by = found gates v

        long : length put.stale ≡ slots_for (length body)
        long = put.long

        room : HasRoomIn (count_of v) (length body)
        room = room_is (count_of v) (length body) put.fits

        some : 1 ≤ v.slots
        some = let least = some_slots (length body) in omega (arith, least, room.free)

        stale_is : stale_gates by (slots_for (length body)) ≡ put.stale
        stale_is =
            ap (λ (n : ℕ). open_gates v.next n by.file) (sym long)
            ∙ open_as by.file v.next put.stale (λ p below. with_at v.slots some v.next put.stale p below
            (omega (arith, long, room.free)))

        list : put_calls v.slots v.next put.stale stream function body
            ≡ calls_in (updates_of by (work.Put stream function body))
        list =
            ap (λ (stale : List Bool). put_calls v.slots v.next stale stream function body) (sym stale_is)
            ∙ sym (put_calls_are by stream function body)

    drop_cost : (slots : ℕ) → HasDropped members v after said → HasCost v (work.DropOldest slots) after said
    drop_cost slots drop = record {
      by = found [] v;
      count = found_count [] v;
      cause = drop.made.calls.cause;
      are = λ st stands s told. (refl, refl);
    }

    asked : (calls bytes : ℕ) → HasCause (members.health v.disk) (members.health after) calls bytes
        ((members.health v.disk).room < bytes) said →
        ((st : Standing) → v.len ≡ length st.file.list → Asks st work.Purge calls bytes) →
        HasCost v work.Purge after said
    asked calls bytes cause asks = record {
      by = found [] v;
      count = found_count [] v;
      cause =
          subst (λ (n : ℕ). HasCause (members.health v.disk) (members.health after) n (bytes_of by work.Purge)
          ((members.health v.disk).room < bytes_of by work.Purge) said) (sym mine.calls)
          (subst (λ (n : ℕ). HasCause (members.health v.disk) (members.health after) calls n
          ((members.health v.disk).room < n) said) (sym mine.bytes) cause);
      are = λ st stands s told.
          let told = asks st (len_is members v st stands) in
          (mine.calls ∙ sym told.calls, mine.bytes ∙ sym told.bytes);
    }
      where
        by : Standing
        by = found [] v

        mine : Asks by work.Purge calls bytes
        mine = asks by (found_count [] v).2

    purge_cost : MovesFloor members v after said → HasCost v work.Purge after said
    purge_cost moved =
        asked 5 9 (moved_is members v.disk after floor_cell v.next (cleared_in v.next) said moved.1).cause
        (λ st len. purge_asks_some st (subst (λ (n : ℕ). 0 < n) len moved.0))

  pub does_cost : (g h : GemSpool D) (one : Work) → Does members g one (Ok h) →
      HasCost g.spool one h.spool.disk Done
  does_cost g h (work.Put stream function body) done =
      put_cost g.spool h.spool.disk Done stream function body done.0
  does_cost g h (work.DropOldest slots) done = drop_cost g.spool h.spool.disk Done slots done.0.0
  does_cost g h work.Purge done = go done.0
    where
      go : Clears members g.spool (Ok h.spool) → HasCost g.spool work.Purge h.spool.disk Done
      go (inl none) =
          asked g.spool h.spool.disk Done 0 0
          (subst (λ (d : D). HasCause (members.health g.spool.disk) (members.health d) 0 0
          ((members.health g.spool.disk).room < 0) Done) (sym (ap (λ (x : SpoolView D). x.disk) none.2))
          (used_none (members.health g.spool.disk)))
          (λ st len. purge_asks_none st (sym len ∙ none.0))
      go (inr moved) = purge_cost g.spool h.spool.disk Done moved.0

  pub fails_cost : (g : GemSpool D) (one : Work) (spent : Spent D) → Does members g one (Err spent) →
      HasCost g.spool one spent.disk Failed
  fails_cost g (work.Put stream function body) spent failed =
      put_cost g.spool spent.disk Failed stream function body failed.0
  fails_cost g (work.DropOldest slots) spent failed = drop_cost g.spool spent.disk Failed slots failed.0
  fails_cost g work.Purge spent failed = purge_cost g.spool spent.disk Failed failed
