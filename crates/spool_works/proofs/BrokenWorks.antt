-- What a crash leaves where a planned call has stopped the disk in a work of the spool, at each of its calls.
use Rattle.std.proofs.Common.{◌≡◌, ◌⊎◌, refl, sym, ap, subst, ◌∙◌, inl, inr, arith, nat_lt, nat_le, zero, suc, ◌+◌, ◌<◌}
use Rattle.std.proofs.Common.{Bool, true, false, ℕ, List, [], ◌∷◌, ◌++◌, length, map, Some, Err}
use Rattle.std.proofs.lemmas.Bool.Decides.{nat_tests}
use Rattle.disk_base.specs.Calls.{DiskCall}
use Rattle.disk_base.specs.Cut.{image_of}
use Rattle.disk_base.specs.Faults.{DiskFault, DiskHealth, IsAmong, IsPlanned}
use Rattle.disk_base.specs.Story.{Story}
use Rattle.disk_base.specs.Through.{EachImage, GoesThrough}
use Rattle.disk_base.specs.declared.cut.CutChoice.{CutChoice}
use Rattle.disk_base.specs.declared.disk.Disk as disk
use Rattle.disk_base.specs.declared.disk.DiskAnswer.TheVariants.{Failed}
use Rattle.disk_base.proofs.Moments.{only_now}
use Rattle.gate_cell.specs.Cell.{Cell, cell_in}
use Rattle.gem_spool.specs.Oldest.{HasReadSlots, oldest_looks, slot_looks}
use Rattle.gem_spool.specs.Standing.{Standing, Stands, count_in}
use Rattle.gem_spool.specs.Updates.{Left, Update, by_gate, cell_update, losses_in, stays}
use Rattle.gem_spool.specs.Works.{floor_above, oldest_in, reserved, standing_after}
use Rattle.gem_spool.specs.declared.works.Work.TheVariants as work
use Rattle.gem_spool.proofs.Amid.{purge_one}
use Rattle.gem_spool.proofs.Doing.{len_is, next_is, same_file}
use Rattle.spool_file.specs.File.{SpoolFile, StandsFor, file_in}
use Rattle.spool_file.specs.Front.{floor_cell, mark_cell}
use Rattle.spool_file.specs.Logs.{written_by}
use Rattle.spool_file.specs.Slot.{Message}
use Rattle.spool_slots.specs.Changes.{Clears, DropsSized, HoldsThrough, IsSame, Moves, Reserves}
use Rattle.spool_slots.specs.Files.{cleared_in, reserved_in, with_floor_moved, with_mark_moved, without_first}
use Rattle.spool_slots.specs.Losses.{IsSure, closes, file_left, gate_counts, names_spare}
use Rattle.spool_slots.specs.Spool.{SpoolView}
use Rattle.spool_slots.specs.declared.states.Dropping.TheVariants as dropping
use Rattle.spool_slots.specs.declared.states.Reserving.TheVariants as reserving
use Rattle.spool_slots.specs.declared.states.Spent.{Spent}
use Rattle.message_end.specs.Ends.{call_of}
use Rattle.spool_slots.proofs.Lost.{sure_stopped}
use Rattle.spool_works.specs.Breaking.{HasLeftAt, IsGoingDisk, LeavesImages}
use Rattle.spool_works.specs.DiskWorks.DiskWork.{Change, ReadOldest, Reserve}
use Rattle.spool_works.specs.WorkLosses.{calls_at}
use Rattle.spool_works.proofs.CallPlaces.{call-before}

-- ---- which call it was

-- one of two, or of five
pub one-of-two : (call : ℕ) (left : Left) → IsAmong call 2 → call_of call (left ∷ left ∷ []) ≡ Some left
one-of-two zero left among = absurd (let some = among.0 in omega (arith, some))
one-of-two (suc zero) left among = refl
one-of-two (suc (suc zero)) left among = refl
one-of-two (suc (suc (suc n))) left among = absurd (let most = among.1 in omega (arith, most))

-- one, and two behind it
first-one : (call : ℕ) (one two : Left) → IsAmong call 1 → call_of call (one ∷ two ∷ two ∷ []) ≡ Some one
first-one zero one two among = absurd (let some = among.0 in omega (arith, some))
first-one (suc zero) one two among = refl
first-one (suc (suc n)) one two among = absurd (let most = among.1 in omega (arith, most))

behind-one : (call : ℕ) (one two : Left) → (IsAmong call 1 → ⊥) → IsAmong call 3
    → call_of call (one ∷ two ∷ two ∷ []) ≡ Some two
behind-one zero one two late among = absurd (let some = among.0 in omega (arith, some))
behind-one (suc zero) one two late among = absurd (late (omega arith, omega arith))
behind-one (suc (suc zero)) one two late among = refl
behind-one (suc (suc (suc zero))) one two late among = refl
behind-one (suc (suc (suc (suc n)))) one two late among = absurd (let most = among.1 in omega (arith, most))

-- of calls that all leave the same
pub any-same : (left : Left) (calls : List DiskCall) (call : ℕ) → IsAmong call (length calls)
    → call_of call (map (λ one. left) calls) ≡ Some left
any-same left calls zero among = absurd (let some = among.0 in omega (arith, some))
any-same left [] (suc n) among = absurd (let most = among.1 in omega (arith, most))
any-same left (one ∷ calls) (suc zero) among = refl
any-same left (one ∷ calls) (suc (suc n)) among =
    any-same left calls (suc n) (omega arith, let most = among.1 in omega (arith, most))

first-three : (call : ℕ) (one two : Left) → IsAmong call 3
    → call_of call (one ∷ one ∷ one ∷ two ∷ two ∷ []) ≡ Some one
first-three zero one two among = absurd (let some = among.0 in omega (arith, some))
first-three (suc zero) one two among = refl
first-three (suc (suc zero)) one two among = refl
first-three (suc (suc (suc zero))) one two among = refl
first-three (suc (suc (suc (suc n)))) one two among = absurd (let most = among.1 in omega (arith, most))

last-two : (call : ℕ) (one two : Left) → (IsAmong call 3 → ⊥) → IsAmong call 5
    → call_of call (one ∷ one ∷ one ∷ two ∷ two ∷ []) ≡ Some two
last-two zero one two not among = absurd (let some = among.0 in omega (arith, some))
last-two (suc zero) one two not among = absurd (not (omega arith, omega arith))
last-two (suc (suc zero)) one two not among = absurd (not (omega arith, omega arith))
last-two (suc (suc (suc zero))) one two not among = absurd (not (omega arith, omega arith))
last-two (suc (suc (suc (suc zero)))) one two not among = refl
last-two (suc (suc (suc (suc (suc zero))))) one two not among = refl
last-two (suc (suc (suc (suc (suc (suc n)))))) one two not among = absurd (let most = among.1 in omega (arith, most))

pub only-one : (call : ℕ) (left : Left) → IsAmong call 1 → call_of call (left ∷ []) ≡ Some left
only-one zero left among = absurd (let some = among.0 in omega (arith, some))
only-one (suc zero) left among = refl
only-one (suc (suc n)) left among = absurd (let most = among.1 in omega (arith, most))

pub either-among : (call calls : ℕ) → IsAmong call calls ⊎ (IsAmong call calls → ⊥)
either-among call calls = go (nat_lt 0 call) (nat_le call calls) refl refl
  where
    go : (some most : Bool) → nat_lt 0 call ≡ some → nat_le call calls ≡ most
        → IsAmong call calls ⊎ (IsAmong call calls → ⊥)
    go true true e f = inl (grind (arith, nat_tests, e), grind (arith, nat_tests, f))
    go true false e f = inr (λ among. let most = among.1 in grind (arith, nat_tests, f, most))
    go false most e f = inr (λ among. let some = among.0 in grind (arith, nat_tests, e, some))

pub story-inj : (a b : Story) → Some a ≡ Some b → a ≡ b
story-inj a b same = cc

module _ {D : Type 0} (members : disk.Ghosts D) (v : SpoolView D) (st : Standing) (spent : Spent D) (s t : Story)
    (is : Stands members v st) (old : members.told v.disk ≡ Some s) (new : members.told spent.disk ≡ Some t)
    (images : LeavesImages t) (goes : IsGoingDisk (members.health v.disk))
    (stopped : (members.health spent.disk).stopped ≡ true) where
  abbrev pub health : DiskHealth
  health = members.health v.disk

  pub file-is : st.file ≡ file_in s.now.bytes
  file-is = same_file members v st is s old

  not-both : health.stopped ≡ true → health.stopped ≡ false → ⊥
  not-both one two = cc

  -- only the planned call fails
  pub planned-stop : (calls : ℕ) → IsPlanned health calls → IsAmong health.stop_in calls
  planned-stop calls (inl fails) =
      absurd (let some = fails.0 in let none = goes.fails_not in omega (arith, some, none))
  planned-stop calls (inr (inl stops)) = stops
  planned-stop calls (inr (inr stops)) = absurd (not-both stops.0 goes.going.on)

  -- and the fault came there
  pub by-cause :
      (calls : ℕ) (Lacking : Type 0) → DiskFault health (members.health spent.disk) calls Lacking
      → IsAmong health.stop_in calls
  by-cause calls Lacking fault = go (fault.stops stopped)
    where
      go : (health.stopped ≡ true) ⊎ (health.stop_in ≡ fault.made + 1) → IsAmong health.stop_in calls
      go (inl before) = absurd (not-both before goes.going.on)
      go (inr at) = let few = fault.few in (omega (arith, at), omega (arith, at, few))

  pub sure : (calls n : ℕ) → IsSure health (members.health spent.disk) calls n
  sure = sure_stopped health (members.health spent.disk) goes.going stopped

  -- what every crash leaves
  pub each-left : (P : List ℕ → Type 0) → GoesThrough s (members.told spent.disk) P → (choice : CutChoice)
      → P (image_of choice t)
  each-left P through choice =
      subst (λ (u : Story). EachImage P u.now) (sym (story-inj t through.0 (sym new ∙ through.1))) through.2.last
      (image_of choice t) (images choice)

  through-of : (P : List ℕ → List ℕ → Type 0) → HoldsThrough (members.told v.disk) (members.told spent.disk) P
      → GoesThrough s (members.told spent.disk) (P s.now.bytes)
  through-of P holds = let is = holds s old in (is.0, is.1, is.2)

  -- what is left where nothing of the work is done
  pub left-same : HoldsThrough (members.told v.disk) (members.told spent.disk) IsSame → (choice : CutChoice)
      → StandsFor (image_of choice t) st.file
  left-same holds choice =
      subst (StandsFor (image_of choice t)) (sym file-is)
      (each-left (λ (image : List ℕ). StandsFor image (file_in s.now.bytes)) (through-of IsSame holds) choice)

  -- ---- a message leaves

  pub drop-left : (slots : ℕ) → DropsSized members v slots (Err (dropping.Failed spent))
      → HasLeftAt (calls_at st (Change (work.DropOldest slots))) health.stop_in t
  drop-left slots drops = go (either-among health.stop_in 1)
    where
      gate : Left
      gate = by_gate closes (standing_after st (work.DropOldest slots)) st

      go : IsAmong health.stop_in 1 ⊎ (IsAmong health.stop_in 1 → ⊥)
          → HasLeftAt (calls_at st (Change (work.DropOldest slots))) health.stop_in t
      go (inl early) = record {
        left = stays st;
        is = first-one health.stop_in (stays st) gate early;
        at = left-same (drops.1.early (inr (inl early)));
      }
      go (inr late) = record {
        left = gate;
        is = behind-one health.stop_in (stays st) gate late (by-cause 3 _ drops.0.made.calls.cause);
        at = λ choice.
            subst (StandsFor (image_of choice t))
            (ap (λ (f : SpoolFile). file_left (gate_counts choice closes) (without_first f) f) (sym file-is))
            (drops.1.late (sure 3 1) (λ planned. late (planned-stop 1 planned)) s t old new choice);
      }

  -- ---- a cell gets another value

  module _ (at value : ℕ) (cell : Cell) (there : cell ≡ cell_in s.now.bytes at) (moved : SpoolFile → SpoolFile) where
    abbrev one : Standing → Update
    one behind = cell_update at cell value behind

    pub cell-left : (behind : Standing) → behind.file ≡ moved st.file
        → Moves members v.disk spent.disk at value (λ bytes. moved (file_in bytes)) Failed
        → HasLeftAt (losses_in st (one behind ∷ [])) health.stop_in t
    cell-left behind file moves = go (either-among health.stop_in 3)
      where
        among : IsAmong health.stop_in 5
        among = by-cause 5 _ moves.0.cause

        gate : Left
        gate = by_gate (names_spare cell) behind st

        go : IsAmong health.stop_in 3 ⊎ (IsAmong health.stop_in 3 → ⊥)
            → HasLeftAt (losses_in st (one behind ∷ [])) health.stop_in t
        go (inl early) = record {
          left = stays st;
          is = first-three health.stop_in (stays st) gate early;
          at = left-same (moves.1.early (inr (inl early)));
        }
        go (inr late) = record {
          left = gate;
          is = last-two health.stop_in (stays st) gate late among;
          at = λ choice.
              subst (λ (f : SpoolFile).
              StandsFor (image_of choice t) (file_left (gate_counts choice (names_spare cell)) f st.file)) (sym file)
              (subst (λ (f : SpoolFile).
              StandsFor (image_of choice t) (file_left (gate_counts choice (names_spare cell)) (moved f) f))
              (sym file-is)
              (subst (λ (c : Cell). StandsFor (image_of choice t)
              (file_left (gate_counts choice (names_spare c)) (moved (file_in s.now.bytes)) (file_in s.now.bytes)))
              (sym there)
              (moves.1.late (sure 5 9) (λ planned. late (planned-stop 3 planned)) s t old
              new choice)));
        }

  -- the mark
  pub reserve-left : Reserves members v (Err (reserving.Failed spent))
      → HasLeftAt (calls_at st Reserve) health.stop_in t
  reserve-left reserves =
      cell-left mark_cell (st.file.mark.value + 4096) st.file.mark (ap (λ (f : SpoolFile). f.mark) file-is)
      with_mark_moved (reserved st) refl
      (subst (λ (n : ℕ). Moves members v.disk spent.disk mark_cell (n + 4096) reserved_in Failed) is.mark reserves.1)

  -- the floor
  pub purge-left : Clears members v (Err spent) → HasLeftAt (calls_at st (Change work.Purge)) health.stop_in t
  purge-left clears =
      purge_one st (λ (updates : List Update). HasLeftAt (losses_in st updates) health.stop_in t) some
      (λ message list.
      cell-left floor_cell st.next st.file.floor (ap (λ (f : SpoolFile). f.floor) file-is) (with_floor_moved st.next)
      (standing_after st work.Purge) (cleared some)
      (subst (λ (n : ℕ). Moves members v.disk spent.disk floor_cell n (cleared_in n) Failed) (next_is members v st is)
      clears.1))
    where
      some : 0 < length st.file.list
      some = subst (λ (n : ℕ). 0 < n) (len_is members v st is) clears.0

      cleared : 0 < length st.file.list → (standing_after st work.Purge).file ≡ with_floor_moved st.next st.file
      cleared some = go st.file.list some
        where
          go : (list : List Message) → 0 < length list
              → record (with_floor_moved st.next st.file) { floor = floor_above st.next list st.file.floor }
              ≡ with_floor_moved st.next st.file
          go [] none = absurd (omega (arith, none))
          go (message ∷ list) some = refl

  -- ---- the oldest message is read

  pub read-left : (slots : ℕ) (w : SpoolView D) → w.disk ≡ spent.disk → st.file.slots ≡ v.slots
      → oldest_in (count_in st) ≡ v.first → HasReadSlots members v w (oldest_looks v slots) Failed
      → HasLeftAt (calls_at st (ReadOldest slots)) health.stop_in t
  read-left slots w same all first reads = record {
    left = stays st;
    is =
        call-before (map (λ one. stays st) looks ++ []) [] health.stop_in (stays st)
        (call-before (map (λ one. stays st) looks) [] health.stop_in (stays st)
        (any-same (stays st) looks health.stop_in (by-cause (length looks) _ fault)));
    at = λ choice.
        let image : image_of choice t ≡ s.now.bytes =
        subst (λ (u : Story). image_of choice t ≡ u.now.bytes) here
        (only_now t.now (image_of choice t)
        (subst (λ (u : Story). u.now.loose ≡ []) (sym here) (is.file s old).settled) (images choice)) in
        subst (λ (bytes : List ℕ). StandsFor bytes st.file) (sym image) (is.file s old).stands;
  }
    where
      looks : List DiskCall
      looks = slot_looks st.file.slots (oldest_in (count_in st)) slots

      looks-are : oldest_looks v slots ≡ looks
      looks-are =
          ap (λ (k : ℕ). slot_looks v.slots k slots) (sym first)
          ∙ ap (λ (n : ℕ). slot_looks n (oldest_in (count_in st)) slots) (sym all)

      fault : DiskFault health (members.health spent.disk) (length looks) (health.room < written_by looks)
      fault =
          subst (λ (d : D). DiskFault health (members.health d) (length looks) (health.room < written_by looks)) same
          (subst (λ (calls : List DiskCall).
          DiskFault health (members.health w.disk) (length calls) (health.room < written_by calls)) looks-are
          reads.made.calls.cause)

      here : t ≡ s
      here =
          story-inj t s
          (sym new ∙ ap (λ (d : D). members.told d) (sym same) ∙ reads.told ∙ old)
