-- What the parts of a put do up to its last gate: looks at the gates of its slots, their closing, and the message's parts
-- (this profile).
use Rattle.std.specs.Prelude.{◌≡◌, ◌⊎◌, ℕ, zero, suc, ◌+◌, ◌<◌, List, [], ◌∷◌, length, slice_index, Bool, false}
use Rattle.std.specs.Prelude.{get_or, true, ◌%◌, Option, Some}
use Rattle.disk_base.specs.Calls.{DiskCall}
use Rattle.disk_base.specs.Story.{Story}
use Rattle.disk_base.specs.declared.disk.Disk as disk
use Rattle.disk_base.specs.declared.disk.DiskAnswer.{DiskAnswer}
use Rattle.disk_base.specs.declared.disk.DiskAnswer.TheVariants.{Done, Failed}
use Rattle.spool_file.specs.Logs.{calls_below}
use Rattle.spool_slots.specs.Calls.{gate_look, gate_looks, gate_shut, number_place, synced}
use Rattle.spool_slots.specs.Carried.{CarriesOut}
use Rattle.spool_slots.specs.Losses.{opens}
use Rattle.spool_slots.specs.declared.gates.GateAnswer.{GateAnswer}
use Rattle.spool_slots.specs.declared.gates.GateAnswer.TheVariants as gate

-- of the slots of n numbers in a row, from a number on, which gates are open
abbrev pub opens_in : List ℕ → (slots number n : ℕ) → List Bool
opens_in bytes slots number zero = []
opens_in bytes slots number (suc n) =
    opens (slice_index bytes (number_place slots number)) ∷ opens_in bytes slots (number + 1) n

-- ---- the looks

-- whether the disk failed
abbrev pub gate_answer : GateAnswer → DiskAnswer
gate_answer (gate.Is byte) = Done
gate_answer gate.Failed = Failed

-- the gate at a place was read
abbrev pub SeesGate : Option Story → (place : ℕ) → GateAnswer → Type 0
SeesGate told place (gate.Is byte) = (s : Story) → told ≡ Some s → byte ≡ slice_index s.now.bytes place
SeesGate told place gate.Failed = Unit {0}

pub record HasSeenGate {D : Type 0} (members : disk.Ghosts D) (old new : D) (slots number : ℕ) (answer : GateAnswer) :
    Type 0 where
  pub told : members.told new ≡ members.told old
  pub seen : SeesGate (members.told old) (number_place slots number) answer
  pub row : CarriesOut members old new (gate_look slots number) (gate_answer answer)

-- those of n numbers in a row
abbrev pub AreGates : Option Story → (slots number n : ℕ) → List ℕ → Type 0
AreGates told slots number n gates =
    (s : Story) → told ≡ Some s → (p : ℕ) → p < n →
    slice_index gates p ≡ slice_index s.now.bytes (number_place slots (number + p))

abbrev pub SeesGates : Option Story → (slots number n : ℕ) → List ℕ → DiskAnswer → Type 0
SeesGates told slots number n gates Done = AreGates told slots number n gates
SeesGates told slots number n gates Failed = Unit {0}

pub record HasSeenGates {D : Type 0} (members : disk.Ghosts D) (old new : D) (slots number n : ℕ) (gates : List ℕ)
    (answer : DiskAnswer) : Type 0 where
  pub told : members.told new ≡ members.told old
  pub seen : SeesGates (members.told old) slots number n gates answer
  pub row : CarriesOut members old new (gate_looks slots number n) answer

-- ---- the 00s, by the gates that were read

abbrev pub shut_step : (slots number : ℕ) → List ℕ → (p : ℕ) → List DiskCall
shut_step slots number gates p = gate_shut slots (number + p) (opens (slice_index gates p))

abbrev pub shut_steps : (slots number n : ℕ) → List ℕ → List DiskCall
shut_steps slots number n gates = calls_below (shut_step slots number gates) n

-- ---- all of it, with the disk between: it failed at the looks, at the 00s, or none of these did

pub record FailsAtLooks {D : Type 0} (members : disk.Ghosts D) (old new : D) (slots number n : ℕ) (answer : DiskAnswer) :
    Type 0 where
  pub failed : answer ≡ Failed
  pub told : members.told new ≡ members.told old
  pub looks : CarriesOut members old new (gate_looks slots number n) Failed

pub record FailsAtShuts {D : Type 0} (members : disk.Ghosts D) (old new : D) (slots number n : ℕ) (gates : List ℕ)
    (answer : DiskAnswer) : Type 0 where
  pub failed : answer ≡ Failed
  pub looked : D
  pub told : members.told looked ≡ members.told old
  pub looks : CarriesOut members old looked (gate_looks slots number n) Done
  pub shuts : CarriesOut members looked new (synced (shut_steps slots number n gates)) Failed

pub record GoesToParts {D : Type 0} (members : disk.Ghosts D) (old new : D) (slots number n : ℕ) (gates : List ℕ)
    (row : List DiskCall) (answer : DiskAnswer) : Type 0 where
  pub looked : D
  pub shut : D
  pub told : members.told looked ≡ members.told old
  pub looks : CarriesOut members old looked (gate_looks slots number n) Done
  pub shuts : CarriesOut members looked shut (synced (shut_steps slots number n gates)) Done
  pub parts : CarriesOut members shut new row answer

-- the gates that were read, and how far it went
pub record HasPut {D : Type 0} (members : disk.Ghosts D) (old new : D) (slots number n : ℕ) (row : List DiskCall)
    (answer : DiskAnswer) : Type 0 where
  pub gates : List ℕ
  pub goes : FailsAtLooks members old new slots number n answer
      ⊎ (AreGates (members.told old) slots number n gates
      × (FailsAtShuts members old new slots number n gates answer
      ⊎ GoesToParts members old new slots number n gates row answer))

-- ---- what may change in the bytes

-- a place is that of a gate which is open, of the slots of numbers in a row
abbrev pub IsOpenGate : (slots number : ℕ) → List Bool → (place : ℕ) → Type 0
IsOpenGate slots number gates place =
    (p : ℕ) × (p < length gates) × (get_or gates p false ≡ true) × (place ≡ number_place slots (number + p))

-- it is in one of the slots of n numbers in a row, behind its gate
abbrev pub IsBehindGate : (slots number n place : ℕ) → Type 0
IsBehindGate slots number n place =
    (p : ℕ) × (p < n) × (number_place slots (number + p) < place) × (place < number_place slots (number + p) + 4096)

-- bytes of which others differ in the slots of n numbers in a row alone, at gates that were open and behind gates
pub record IsPutting (slots number n : ℕ) (bytes image : List ℕ) : Type 0 where
  pub long : length image ≡ length bytes
  pub kept : (place : ℕ) → (IsBehindGate slots number n place → ⊥) →
      (IsOpenGate slots number (opens_in bytes slots number n) place → ⊥) →
      slice_index image place ≡ slice_index bytes place
  -- where a part may be there, the gates are closed
  pub closed : ((p : ℕ) → p < n → opens (slice_index image (number_place slots (number + p))) ≡ false)
      ⊎ ((place : ℕ) → IsBehindGate slots number n place → slice_index image place ≡ slice_index bytes place)

-- where the slots differ
abbrev pub DifferInRow : (slots number n : ℕ) → Type 0
DifferInRow slots number n = (p q : ℕ) → p < n → q < n → (number + p) % slots ≡ (number + q) % slots → p ≡ q
