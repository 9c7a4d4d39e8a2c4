-- What a crash leaves of a gate that was written and not synced.
use Rattle.std.proofs.Common.{◌≡◌, ℕ, if◌then◌else◌, ◌+◌, ◌%◌, ◌<◌, ◌≤◌, ◌==◌, Bool, true, false, not, List, [], ◌∷◌, length}
use Rattle.std.proofs.Common.{slice_index, Option, Some, None, refl, sym, ap, subst, ◌∙◌, arith, ⊎_elim}
use Rattle.disk_base.specs.Calls.{DiskCall}
use Rattle.disk_base.specs.Cut.{chosen_byte, image_of}
use Rattle.disk_base.specs.Faults.{DiskHealth, GoesAsListed, IsLeftOut, IsPlanned, IsUsed}
use Rattle.disk_base.specs.Listed.{AsListed}
use Rattle.disk_base.specs.Settle.{LogsBoth}
use Rattle.disk_base.specs.Story.{Story, with_part, with_write}
use Rattle.disk_base.specs.declared.cut.CutChoice.{CutChoice}
use Rattle.disk_base.specs.declared.cut.CutChoice.TheVariants.{Old, New, Fill, First}
use Rattle.disk_base.specs.declared.disk.Disk as disk
use Rattle.disk_base.specs.declared.disk.DiskAnswer.TheVariants.{Failed}
use Rattle.disk_base.proofs.Stretches.{both_wider, left_out_behind, lists_on, planned_before, used_none}
use Rattle.spool_file.specs.File.{SpoolFile, StandsFor, file_in}
use Rattle.spool_file.specs.Slot.{slot_place}
use Rattle.spool_file.specs.declared.recovery.Known.{Known}
use Rattle.spool_slots.specs.Changes.{HasSettled}
use Rattle.spool_slots.specs.Files.{dropped_in, sealed_in}
use Rattle.spool_slots.specs.Losses.{IsSure, LeavesByGate, LeavesByte, closes, file_left, gate_counts, opens}
use Rattle.spool_slots.specs.Spool.{IsSpool, IsStagedSpool, Rests, in_hand, staged}
use Rattle.spool_slots.proofs.Lasting.{closed, drop_open, gate_within, less_stands, more_stands, opened, place_below}
use Rattle.spool_slots.proofs.Lasting.{seal_shut}

-- a call planned among some is planned among more
pub planned_wider : (h : DiskHealth) (n all : ℕ) → n ≤ all → IsPlanned h n → IsPlanned h all
planned_wider h n all less is = planned_before h h 0 0 (used_none h) n all (omega (arith, less)) is

-- behind calls that were made
pub sure_behind : (a b c : DiskHealth) (n x : ℕ) → IsUsed a b n x → (calls m all both : ℕ) → n + calls ≤ all →
    x + m ≤ both → IsSure a c all both → IsSure b c calls m
sure_behind a b c n x used calls m all both few short sure = record {
  going = lists_on a b n x used sure.going;
  listed = λ made k before less is. sure.listed (n + made) (x + k) (omega (arith, few, before)) (omega (arith, short, less))
      (left_out_behind a b n x used c made k (n + made) (x + k) refl (omega arith) is);
}

-- a disk that has stopped has left none out
pub sure_stopped : (a c : DiskHealth) → GoesAsListed a → c.stopped ≡ true → (calls n : ℕ) → IsSure a c calls n
sure_stopped a c going stopped calls n = record {
  going = going;
  listed = λ made m before less is. both (sym is.going ∙ stopped) going.on;
} where
  both : a.stopped ≡ true → a.stopped ≡ false → ⊥
  both one two = cc

-- nor one that has room for the calls up to one that is to fail
pub sure_up_to : (a c : DiskHealth) → GoesAsListed a → (place calls n : ℕ) → IsPlanned a place → place ≤ a.calls →
    n ≤ a.room → IsSure a c calls n
sure_up_to a c going place calls n planned fits enough = record {
  going = going;
  listed = λ made m before less is. ⊎_elim
      (λ none. is.unplanned (planned_wider a place made (omega (arith, none, fits)) planned))
      (λ none. omega (arith, none, less, enough)) is.crowded;
}

-- the byte that is left
pub left_by : (means : ℕ → Bool) (choice : CutChoice) (old new : ℕ) → means old ≡ false → means new ≡ true →
    means (chosen_byte choice old new) ≡ gate_counts choice means
left_by means Old old new was is = was
left_by means New old new was is = is
left_by means (Fill byte) old new was is = refl
left_by means (First n) old new was is = by_first (n == 0) where
  by_first : (b : Bool) → means (if b then old else new) ≡ not b
  by_first true = was
  by_first false = is

abbrev story_or : Story → Option Story → Story
story_or other None = other
story_or other (Some s) = s

-- two laws of disks
abbrev pub HasWrittenLaw : Type 0
HasWrittenLaw = (s : Story) (at : ℕ) (bytes : List ℕ) (all : List DiskCall) (after : Option Story)
    (calls : Option (List DiskCall)) →
    LogsBoth at bytes (λ made n. ⊥) (Some all) calls Failed → AsListed (Some s) (Some all) after calls →
    after ≡ Some (with_write at bytes s)

abbrev pub ChosenLaw : Type 0
ChosenLaw = (choice : CutChoice) (s : Story) (at byte : ℕ) → s.now.loose ≡ [] → at < length s.now.bytes →
    image_of choice (with_write at (byte ∷ []) s) ≡ with_part s.now.bytes at
    (chosen_byte choice (slice_index s.now.bytes at) byte ∷ [])

-- one byte was written, on a disk that lists its calls
pub byte_left : HasWrittenLaw → ChosenLaw → {D : Type 0} (members : disk.Ghosts D) (d d' : D) (at byte : ℕ) →
    ((s : Story) → members.told d ≡ Some s → (all : List DiskCall) × (members.calls d ≡ Some all)) →
    ((s : Story) → members.told d ≡ Some s → s.now.loose ≡ []) →
    ((s : Story) → members.told d ≡ Some s → at < length s.now.bytes) →
    HasSettled members d d' at (byte ∷ []) Failed → IsSure (members.health d) (members.health d') 2 1 →
    LeavesByte (members.told d) (members.told d') at byte
byte_left has_written one_byte_left members d d' at byte called settled inside done sure s t told told' choice =
    let all = called s told in
    let logs : LogsBoth at (byte ∷ []) (λ made n. ⊥) (Some all.0) (members.calls d') Failed =
    subst (λ (o : Option (List DiskCall)). LogsBoth at (byte ∷ []) (λ made n. ⊥) o (members.calls d') Failed) all.1
    (both_wider at (byte ∷ []) (IsLeftOut (members.health d) (members.health d')) (λ made n. ⊥) (members.calls d)
    (members.calls d') Failed sure.listed done.calls) in
    let listed : AsListed (Some s) (Some all.0) (members.told d') (members.calls d') =
    subst (λ (o : Option (List DiskCall)). AsListed (Some s) o (members.told d') (members.calls d')) all.1
    (subst (λ (o : Option Story). AsListed o (members.calls d) (members.told d') (members.calls d')) told
    (done.listed sure.going)) in
    let written : members.told d' ≡ Some (with_write at (byte ∷ []) s) =
    has_written s at (byte ∷ []) all.0 (members.told d') (members.calls d') logs listed in
    let same : with_write at (byte ∷ []) s ≡ t = ap (λ (o : Option Story). story_or t o) (sym written ∙ told') in
    ap (λ (u : Story). image_of choice u) (sym same) ∙ one_byte_left choice s at byte (settled s told) (inside s told)

-- where it is a gate, its byte decides
pub by_byte : (before after : Option Story) (at gate : ℕ) (means : ℕ → Bool) (changed : List ℕ → SpoolFile) →
    ((s : Story) → before ≡ Some s → means (slice_index s.now.bytes at) ≡ false) → means gate ≡ true →
    ((s : Story) → before ≡ Some s → (other : ℕ) →
    StandsFor (with_part s.now.bytes at (other ∷ []))
    (file_left (means other) (changed s.now.bytes) (file_in s.now.bytes))) →
    LeavesByte before after at gate → LeavesByGate before after means changed
by_byte before after at gate means changed was is stands left s t told told' choice =
    let old = slice_index s.now.bytes at in
    subst (λ (i : List ℕ). StandsFor i
    (file_left (gate_counts choice means) (changed s.now.bytes) (file_in s.now.bytes)))
    (sym (left s t told told' choice))
    (subst (λ (b : Bool). StandsFor (with_part s.now.bytes at (chosen_byte choice old gate ∷ []))
    (file_left b (changed s.now.bytes) (file_in s.now.bytes)))
    (left_by means choice old gate (was s told) is) (stands s told (chosen_byte choice old gate)))

-- the gate of the next message's slot
module _ {D : Type 0} (members : disk.Ghosts D) (d d' : D) (k : Known) (size : ℕ)
    (is : IsStagedSpool members (staged d k size)) where
  abbrev slot : ℕ
  slot = k.next % k.slots

  module _ (s : Story) (told : members.told d ≡ Some s) where
    r : Rests s k
    r = is.spool.rests s told

    by_gate : (gate : ℕ) (b : Bool) → (gate == 90) ≡ b →
        StandsFor (with_part s.now.bytes (slot_place slot) (gate ∷ []))
        (file_left b (sealed_in slot s.now.bytes) (file_in s.now.bytes))
    by_gate gate true test = more_stands s k r is.spool.room size (is.parts s told) is.some is.free gate test
    by_gate gate false test = seal_shut s k r is.spool.room size (is.parts s told) is.some is.free gate test

  module _ (written : HasWrittenLaw) (left : ChosenLaw)
      (called : (s : Story) → members.told d ≡ Some s → (all : List DiskCall) × (members.calls d ≡ Some all)) where
    pub seal_loss : HasSettled members d d' (slot_place slot) (90 ∷ []) Failed →
        IsSure (members.health d) (members.health d') 2 1 →
        LeavesByGate (members.told d) (members.told d') opens (sealed_in slot)
    seal_loss done sure =
        by_byte (members.told d) (members.told d') (slot_place slot) 90 opens (sealed_in slot)
        (λ s told. closed s k (r s told) is.spool.room size (is.parts s told) is.some is.free) refl
        (λ s told other. by_gate s told other (opens other) refl)
        (byte_left written left members d d' (slot_place slot) 90 called (λ s told. (r s told).settled)
        (λ s told. let within = gate_within s k slot (r s told) (place_below s k (r s told) is.spool.room k.next) in
        omega (arith, within)) done sure)

-- and that of the oldest message's
module _ {D : Type 0} (members : disk.Ghosts D) (d d' : D) (k : Known) (is : IsSpool members (in_hand d k))
    (one : 0 < k.len) where
  abbrev oldest_slot : ℕ
  oldest_slot = k.first % k.slots

  module _ (s : Story) (told : members.told d ≡ Some s) where
    drop_by_gate : (gate : ℕ) (b : Bool) → (gate == 90) ≡ b →
        StandsFor (with_part s.now.bytes (slot_place oldest_slot) (gate ∷ []))
        (file_left (not b) (dropped_in s.now.bytes) (file_in s.now.bytes))
    drop_by_gate gate true test = drop_open s k (is.rests s told) is.room one gate test
    drop_by_gate gate false test = less_stands s k (is.rests s told) is.room one gate test

  -- its byte is what a crash leaves
  pub drop_loss : LeavesByte (members.told d) (members.told d') (slot_place oldest_slot) 0 →
      LeavesByGate (members.told d) (members.told d') closes dropped_in
  drop_loss left =
      by_byte (members.told d) (members.told d') (slot_place oldest_slot) 0 closes dropped_in
      (λ s told. ap not (opened s k (is.rests s told) is.room one)) refl
      (λ s told other. drop_by_gate s told other (opens other) refl) left
