-- What each call does to the spool of the equipment (this profile).
use Rattle.std.specs.Prelude.{◌≡◌, ◌⊎◌, Bool, true, false, nat_lt, if◌then◌else◌, ℕ, ◌+◌, ◌^◌, ◌<◌, List, [], ◌∷◌}
use Rattle.std.specs.Prelude.{◌++◌, drop, length, Option, Some, None, Result, Ok, Err}
use Rattle.disk_base.specs.Calls.{DiskCall}
use Rattle.disk_base.specs.Story.{Story}
use Rattle.disk_base.specs.declared.disk.Disk as disk
use Rattle.disk_base.specs.declared.disk.DiskAnswer.{DiskAnswer}
use Rattle.disk_base.specs.declared.disk.DiskAnswer.TheVariants.{Done, Failed}
use Rattle.gem_spool.specs.declared.count.Count.{Count}
use Rattle.gem_spool.specs.Standing.{count_of}
use Rattle.gem_spool.specs.declared.spool.GemSpool.{GemSpool}
use Rattle.gem_spool.specs.declared.spool.PutAnswer.{PutAnswer}
use Rattle.gem_spool.specs.declared.spool.PutAnswer.TheVariants as answer
use Rattle.gem_spool.specs.declared.spool.Room.{Room}
use Rattle.gem_spool.specs.declared.spool.Room.TheVariants as room
use Rattle.spool_file.specs.File.{Ends, SpoolFile, StandsFor, file_in}
use Rattle.spool_file.specs.Logs.{MakesAll}
use Rattle.spool_file.specs.Sizes.{slots_for}
use Rattle.spool_file.specs.Slot.{Message, width}
use Rattle.spool_slots.specs.Calls.{byte_calls, number_place, stage_calls}
use Rattle.spool_slots.specs.Changes.{Clears, Drops, HoldsThrough, IsSameBar, Reserves, Seals, Stages, open_gates}
use Rattle.spool_slots.specs.Files.{shut_in, with_message}
use Rattle.spool_slots.specs.Spool.{SpoolView, StagedView, in_hand, known_of, message_size}
use Rattle.spool_slots.specs.declared.states.Dropping.TheVariants as dropping
use Rattle.spool_slots.specs.declared.states.Reserving.TheVariants as reserving
use Rattle.spool_slots.specs.declared.states.Spent.{Spent}
use Rattle.spool_slots.specs.declared.states.Staging.TheVariants as staging

-- what there is room for: the first of three limits that a message of this size passes, or none
abbrev pub room_by : Count → Option ℕ → Room
room_by c None = room.TooLong
room_by c (Some size) =
    if nat_lt (2 ^ 63) (c.next + size) then room.NumbersSpent
    else (if nat_lt c.slots (c.used + size) then room.Full
    else room.Fits)

-- and one with a body of this length
abbrev pub room_in : Count → ℕ → Room
room_in c long = room_by c (message_size c.version c.slots long)

abbrev pub room_for : {D : Type 0} → SpoolView D → ℕ → Room
room_for v long = room_in (count_of v) long

-- the messages in hand, where the disk tells its bytes
pub record HasList {D : Type 0} (members : disk.Ghosts D) (v : SpoolView D) (list : List Message) : Type 0 where
  pub is : (s : Story) → members.told v.disk ≡ Some s → (file_in s.now.bytes).list ≡ list

-- ---- put

-- the message that is put, with its number
abbrev pub numbered : {D : Type 0} → SpoolView D → ℕ → ℕ → List ℕ → Message
numbered v stream function body =
    record { number = v.next; stream = stream; function = function; body = body }

-- the file with a message more, the gates of whose slots were closed before
abbrev pub put_in : Message → List ℕ → SpoolFile
put_in message bytes = with_message message (shut_in message.number (width message) bytes)

-- bytes stand for the list as it was, where gates of the slots may be closed by now, or with the message at its end
abbrev pub IsPutting : Message → List ℕ → List ℕ → Type 0
IsPutting message bytes image = IsSameBar bytes image ⊎ StandsFor image (put_in message bytes)

-- the calls of a put: those of its staging, by which gates of its slots are open, and its first gate with a sync
abbrev pub put_calls : (slots number : ℕ) → List Bool → (stream function : ℕ) → List ℕ → List DiskCall
put_calls slots number stale stream function body =
    stage_calls slots number stale stream function body ++ byte_calls (number_place slots number) 90

-- a message was staged, and its gate opened, as far as that went
abbrev pub StagesAndSeals : {D : Type 0} → disk.Ghosts D → SpoolView D → ℕ → ℕ → List ℕ →
    Result (SpoolView D) (Spent D) → Type 0
StagesAndSeals {D} members v stream function body (Ok w) =
    (u : StagedView D) × Stages members v stream function body (Ok u) × Seals members u (Ok w)
StagesAndSeals {D} members v stream function body (Err spent) =
    Stages members v stream function body (Err (staging.Failed spent))
    ⊎ ((u : StagedView D) × Stages members v stream function body (Ok u) × Seals members u (Err spent))

-- a crash leaves the list as it was, or with the message at its end; these calls were made, or up to one that failed
pub record HasPut {D : Type 0} (members : disk.Ghosts D) (v : SpoolView D) (stream function : ℕ) (body : List ℕ)
    (after : D) (answer : DiskAnswer) : Type 0 where
  pub fits : room_for v (length body) ≡ room.Fits
  pub images : HoldsThrough (members.told v.disk) (members.told after)
      (IsPutting (numbered v stream function body))
  -- which gates of its slots were open, also where the disk tells nothing
  pub stale : List Bool
  pub long : length stale ≡ slots_for (length body)
  pub stale_is : (s : Story) → members.told v.disk ≡ Some s →
      stale ≡ open_gates v.next (slots_for (length body)) (file_in s.now.bytes)
  pub makes : MakesAll (members.health v.disk) (members.health after) (members.calls v.disk) (members.calls after)
      (put_calls v.slots v.next stale stream function body) answer

-- the message stands at the end of the list; or nothing was done, since there is no room
abbrev pub PutsInto : {D : Type 0} → disk.Ghosts D → GemSpool D → ℕ → ℕ → List ℕ → GemSpool D → PutAnswer → Type 0
PutsInto members g stream function body h (answer.Stored number) =
    HasPut members g.spool stream function body h.spool.disk Done
    × StagesAndSeals members g.spool stream function body (Ok h.spool) × (number ≡ g.spool.next)
    × (h ≡ record {
      spool = in_hand h.spool.disk (record (known_of g.spool) {
        next = g.spool.next + slots_for (length body);
        len = g.spool.len + 1;
      });
      active = g.active;
    })
    × ((s t : Story) → members.told g.spool.disk ≡ Some s → members.told h.spool.disk ≡ Some t →
    Ends t (put_in (numbered g.spool stream function body) s.now.bytes))
PutsInto members g stream function body h answer.Full =
    (h ≡ g) × (room_for g.spool (length body) ≡ room.Full)
PutsInto members g stream function body h answer.TooLong =
    (h ≡ g) × (room_for g.spool (length body) ≡ room.TooLong)
PutsInto members g stream function body h answer.NumbersSpent =
    (h ≡ g) × (room_for g.spool (length body) ≡ room.NumbersSpent)

-- the list behind a put
abbrev pub list_after_put : PutAnswer → Message → List Message → List Message
list_after_put (answer.Stored number) message list = list ++ message ∷ []
list_after_put answer.Full message list = list
list_after_put answer.TooLong message list = list
list_after_put answer.NumbersSpent message list = list

-- where the disk failed, how far it went, and what a loss leaves of the call that it was
abbrev pub Puts : {D : Type 0} → disk.Ghosts D → GemSpool D → ℕ → ℕ → List ℕ →
    Result (GemSpool D × PutAnswer) (Spent D) → Type 0
Puts members g stream function body (Ok r) = PutsInto members g stream function body r.0 r.1
Puts members g stream function body (Err spent) =
    HasPut members g.spool stream function body spent.disk Failed
    × StagesAndSeals members g.spool stream function body (Err spent)

-- a message that fits was put, and has the next number; or the disk failed
abbrev pub Stores : {D : Type 0} → disk.Ghosts D → GemSpool D → ℕ → ℕ → List ℕ → Result (GemSpool D) (Spent D) → Type 0
Stores members g stream function body (Ok h) =
    PutsInto members g stream function body h (answer.Stored g.spool.next)
Stores members g stream function body (Err spent) = Puts members g stream function body (Err spent)

-- ---- confirm

-- the oldest message was dropped, which has that number; or nothing was done, since none or another one is the oldest
abbrev pub ConfirmsIn : {D : Type 0} → disk.Ghosts D → GemSpool D → ℕ → GemSpool D → Bool → Type 0
ConfirmsIn members g number h true =
    (0 < g.spool.len) × (g.spool.first ≡ number) × (h.active ≡ g.active) × Drops members g.spool (Ok h.spool)
ConfirmsIn members g number h false = (h ≡ g) × ((g.spool.len ≡ 0) ⊎ (g.spool.first ≡ number → ⊥))

abbrev pub Confirms : {D : Type 0} → disk.Ghosts D → GemSpool D → ℕ → Result (GemSpool D × Bool) (Spent D) → Type 0
Confirms members g number (Ok r) = ConfirmsIn members g number r.0 r.1
Confirms members g number (Err spent) =
    (g.spool.first ≡ number) × Drops members g.spool (Err (dropping.Failed spent))

-- the list behind a confirm
abbrev pub list_after_confirm : Bool → List Message → List Message
list_after_confirm true list = drop 1 list
list_after_confirm false list = list

-- ---- purge

-- the list is empty, and the switch as it was; or that failed
abbrev pub PurgesAll : {D : Type 0} → disk.Ghosts D → GemSpool D → Result (GemSpool D) (Spent D) → Type 0
PurgesAll members g (Ok h) = Clears members g.spool (Ok h.spool) × (h.active ≡ g.active)
PurgesAll members g (Err spent) = Clears members g.spool (Err spent)

-- ---- reserve

-- the mark was moved on, or there is none left
abbrev pub ReservesFrom : {D : Type 0} → disk.Ghosts D → GemSpool D → GemSpool D → Option ℕ → Type 0
ReservesFrom members g h (Some base) =
    Reserves members g.spool (Ok (h.spool, base)) × (h.active ≡ g.active)
ReservesFrom members g h None = (h ≡ g) × (2 ^ 32 < g.spool.mark + 4096)

abbrev pub ReservesMore : {D : Type 0} → disk.Ghosts D → GemSpool D → Result (GemSpool D × Option ℕ) (Spent D) → Type 0
ReservesMore members g (Ok r) = ReservesFrom members g r.0 r.1
ReservesMore members g (Err spent) = Reserves members g.spool (Err (reserving.Failed spent))
