-- What is said of the messages of a log. The newest entry comes first: what stands before an entry is the rest of the
-- list.
use Rattle.std.specs.Prelude.{◌≡◌, ℕ, Bool, true, false, ◌==◌, ◌%◌, ◌&&◌, List, [], ◌∷◌, All, if◌then◌else◌}
use Rattle.std.specs.List.{Contains}
use Rattle.gl_base.specs.declared.side.Side.{Side}
use Rattle.gl_base.specs.Side.{is_same_side, other_side}
use Rattle.message_flow.specs.declared.message.Message.{Message}
use Rattle.message_flow.specs.Message.{is_primary}
use Rattle.trace_log.specs.Log.{Entry, Happening}
use Rattle.trace_log.specs.Log.Entry.{Noted}
use Rattle.trace_log.specs.Log.Happening.{EquipmentStarted, HostStarted, Sent, Received}

abbrev pub is_start : Happening → Bool
is_start (EquipmentStarted found base) = true
is_start (HostStarted journal) = true
is_start _ = false

abbrev pub starts : Side → Entry → Bool
starts side (Noted moment end what) = is_same_side side end && is_start what
starts side _ = false

-- what was noted since the last start of an end
abbrev pub since_start : Side → List Entry → List Entry
since_start side [] = []
since_start side (entry ∷ before) = if starts side entry then [] else entry ∷ since_start side before

-- their system bytes are equal, and their functions are both odd or both even (SEMI E5, system bytes)
abbrev pub is_same_key : Message → Message → Bool
is_same_key one other = one.system == other.system && one.function % 2 == other.function % 2

-- the end has noted a delivery with the system bytes and the parity of this message
abbrev pub delivers_like : Side → Message → Entry → Bool
delivers_like side message (Noted moment end (Received other)) = is_same_side side end && is_same_key message other
delivers_like side message _ = false

-- the end has noted the sending of a primary with the system bytes of this message
abbrev pub sends_like : Side → Message → Entry → Bool
sends_like side message (Noted moment end (Sent other)) =
    is_same_side side end && is_primary other && message.system == other.system
sends_like side message _ = false

-- the end has noted the sending of this very message, equal in every field
pub record WasSent (side : Side) (message : Message) (before : List Entry) : Type 0 where
  pub moment : ℕ
  pub entry : Contains before (Noted moment side (Sent message))

-- a message that is delivered to an end was sent by the other one before, and is the only one with its system bytes and
-- the parity of its function since that end's start (this profile)
pub record IsDelivery (side : Side) (message : Message) (before : List Entry) : Type 0 where
  pub sent : WasSent (other_side side) message before
  pub once : All (λ entry. delivers_like side message entry ≡ false) (since_start side before)

-- the system bytes of a primary are new, over all starts of the end that sends it (SEMI E5, system bytes; this profile)
abbrev pub IsSending : Side → Message → List Entry → Type 0
IsSending side message before = is_primary message ≡ true → All (λ entry. sends_like side message entry ≡ false) before

abbrev pub GoesOn : Entry → List Entry → Type 0
GoesOn (Noted moment side (Received message)) before = IsDelivery side message before
GoesOn (Noted moment side (Sent message)) before = IsSending side message before
GoesOn _ before = Unit {0}

-- every entry agrees with all entries before it: a message comes in only where the other end has sent this very message
-- and none with its key has come in since the receiver's start; a primary goes out with new system bytes (this profile)
abbrev pub Delivered : List Entry → Type 0
Delivered [] = Unit {0}
Delivered (entry ∷ before) = GoesOn entry before × Delivered before
