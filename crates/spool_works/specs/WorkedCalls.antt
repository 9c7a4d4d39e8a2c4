-- Calls of the disk that can be followed by hand, what is kept behind them, and what a loss leaves at each.
use Rattle.std.specs.Prelude.{◌≡◌, ℕ, Bool, true, false, List, [], ◌∷◌, ◌++◌, length, map, replicate, Some}
use Rattle.disk_base.specs.Calls.{DiskCall}
use Rattle.disk_base.specs.declared.cut.CutChoice.{CutChoice}
use Rattle.disk_base.specs.declared.cut.CutChoice.TheVariants.{Fill, First, New, Old}
use Rattle.gate_cell.specs.Cell.{Cell}
use Rattle.gem_spool.specs.declared.works.Work.TheVariants.{DropOldest, Purge, Put}
use Rattle.gem_spool.specs.Standing.{Standing}
use Rattle.gem_spool.specs.Updates.{reads, syncs, writes}
use Rattle.spool_file.specs.File.{SpoolFile}
use Rattle.spool_file.specs.Slot.{Message}
use Rattle.spool_slots.specs.Files.{with_mark}
use Rattle.spool_works.specs.DiskWorks.{DiskWork, standings_behind}
use Rattle.spool_works.specs.DiskWorks.DiskWork.{Change, ReadOldest, Reserve}
use Rattle.spool_works.specs.DiskCalls.{all_disk_calls}
use Rattle.spool_works.specs.WorkLosses.{calls_at}

-- ---- what stands before them

abbrev pub plain : ℕ → Message
plain number = record { number = number; stream = 5; function = 1; body = [] }

-- a cell of which the first or the second copy counts
abbrev pub first_copy : ℕ → Cell
first_copy value = record { value = value; second = false }

abbrev pub second_copy : ℕ → Cell
second_copy value = record { value = value; second = true }

-- messages in slots of which these are open, with mark 4,096 and floor 0
abbrev pub file_with : List Bool → List Message → SpoolFile
file_with gates list = record {
  version = 2;
  slots = length gates;
  gates = gates;
  mark = second_copy 4096;
  floor = first_copy 0;
  setup = record { cell = first_copy 0; bytes = Some [] };
  list = list;
}

-- messages 5 and 6, and 7 is the next number
abbrev pub two_in : List Bool → Standing
two_in gates = record { next = 7; file = file_with gates (plain 5 ∷ plain 6 ∷ []) }

-- the slots of three stand at 4,096, 8,192 and 12,288, and those of messages 5, 6 and 7 are the last, the first and the
-- second one
abbrev pub of_three : Standing
of_three = two_in (true ∷ false ∷ true ∷ [])

-- of two slots both are open, and message 7 takes the slot of message 5
abbrev pub of_two : Standing
of_two = two_in (true ∷ true ∷ [])

-- one slot alone, with message 6
abbrev pub of_one : Standing
of_one = record { next = 7; file = file_with (true ∷ []) (plain 6 ∷ []) }

-- three slots, full
abbrev pub full_of_three : Standing
full_of_three =
    record { next = 3; file = file_with (true ∷ true ∷ true ∷ []) (plain 0 ∷ plain 1 ∷ plain 2 ∷ []) }

-- behind a drop, and behind a purge
abbrev pub dropped_one : Standing
dropped_one = standings_behind of_one (Change (DropOldest 1) ∷ [])

abbrev pub purged_three : Standing
purged_three = standings_behind full_of_three (Change Purge ∷ [])

-- ---- the calls

-- S5F1 with two bytes, as message 7 and as message 3
abbrev pub alarm : ℕ → List ℕ
alarm number = 0 ∷ 0 ∷ 0 ∷ 0 ∷ 0 ∷ 0 ∷ 0 ∷ number ∷ 133 ∷ 1 ∷ 0 ∷ 0 ∷ 0 ∷ 2 ∷ 1 ∷ 2 ∷ []

abbrev pub put_alarm : DiskWork
put_alarm = Change (Put 5 1 (1 ∷ 2 ∷ []))

pub record CallsOfWorks : Type 0 where
  pub puts :
      all_disk_calls of_three (put_alarm ∷ [])
      ≡ reads 8192 1 ∷ writes 8193 (alarm 7) ∷ syncs ∷ writes 8192 (90 ∷ []) ∷ syncs ∷ []
  pub drops :
      all_disk_calls of_three (Change (DropOldest 1) ∷ [])
      ≡ reads 12299 4 ∷ writes 12288 (0 ∷ []) ∷ syncs ∷ []
  -- the floor becomes 3
  pub purges :
      all_disk_calls full_of_three (Change Purge ∷ [])
      ≡ reads 45 1 ∷ writes 37 (0 ∷ 0 ∷ 0 ∷ 0 ∷ 0 ∷ 0 ∷ 0 ∷ 3 ∷ []) ∷ syncs ∷ writes 45 (1 ∷ []) ∷ syncs ∷ []
  -- and the next message finds the gate of message 0, which is stale
  pub puts_then :
      all_disk_calls purged_three (put_alarm ∷ [])
      ≡ reads 4096 1
      ∷ writes 4096 (0 ∷ [])
      ∷ syncs
      ∷ writes 4097 (alarm 3)
      ∷ syncs
      ∷ writes 4096 (90 ∷ [])
      ∷ syncs
      ∷ []
  -- of an empty list nothing is purged
  pub purges_none : all_disk_calls purged_three (Change Purge ∷ []) ≡ []
  pub tries : all_disk_calls of_three (ReadOldest 1 ∷ []) ≡ reads 12288 4096 ∷ []
  -- one reserve is written over the first copy, and another one over the second
  pub reserves :
      all_disk_calls of_three (Reserve ∷ Reserve ∷ [])
      ≡ reads 28 1 ∷ writes 12 (0 ∷ 0 ∷ 0 ∷ 0 ∷ 0 ∷ 0 ∷ 32 ∷ 0 ∷ []) ∷ syncs ∷ writes 28 (0 ∷ []) ∷ syncs
      ∷ reads 28 1 ∷ writes 20 (0 ∷ 0 ∷ 0 ∷ 0 ∷ 0 ∷ 0 ∷ 48 ∷ 0 ∷ []) ∷ syncs ∷ writes 28 (1 ∷ []) ∷ syncs ∷ []
  pub overwrites :
      all_disk_calls of_two (Change (DropOldest 1) ∷ put_alarm ∷ [])
      ≡ reads 8203 4
      ∷ writes 8192 (0 ∷ [])
      ∷ syncs
      ∷ reads 8192 1
      ∷ writes 8193 (alarm 7)
      ∷ syncs
      ∷ writes 8192 (90 ∷ [])
      ∷ syncs
      ∷ []
  -- in one slot, too, the put finds the gate that the drop has closed
  pub overwrites_one :
      all_disk_calls of_one (Change (DropOldest 1) ∷ put_alarm ∷ [])
      ≡ reads 4107 4
      ∷ writes 4096 (0 ∷ [])
      ∷ syncs
      ∷ reads 4096 1
      ∷ writes 4097 (alarm 7)
      ∷ syncs
      ∷ writes 4096 (90 ∷ [])
      ∷ syncs
      ∷ []

-- ---- a message of several slots

-- a body of so many bytes
abbrev pub zeros : ℕ → List ℕ
zeros size = replicate size 0

-- sixteen slots, empty, and a body that takes three
abbrev pub of_sixteen : Standing
of_sixteen = record { next = 0; file = file_with (replicate 16 false) [] }

abbrev pub put_long : DiskWork
put_long = Change (Put 5 1 (zeros 9000))

-- three slots with messages 1 and 2 behind the one that was dropped, and a body that takes two
abbrev pub dropped_two : Standing
dropped_two =
    standings_behind (record { next = 2; file = file_with (true ∷ true ∷ false ∷ []) (plain 0 ∷ plain 1 ∷ []) })
    (Change (DropOldest 1) ∷ [])

-- four slots, full until they were purged
abbrev pub purged_four : Standing
purged_four =
    standings_behind
    (record { next = 4; file = file_with (replicate 4 true) (plain 0 ∷ plain 1 ∷ plain 2 ∷ plain 3 ∷ []) })
    (Change Purge ∷ [])

-- where a call is, and how many bytes it writes
abbrev pub places_of : List DiskCall → List (ℕ × ℕ)
places_of calls = map (λ call. (call.at, length call.bytes)) calls

pub record CallsOfLongWorks : Type 0 where
  pub nine :
      places_of (all_disk_calls of_sixteen (put_long ∷ []))
      ≡ (4096, 0) ∷ (8192, 0) ∷ (12288, 0) ∷ (4097, 4095) ∷ (8207, 4081) ∷ (12303, 838) ∷ (0, 0) ∷ (4096, 1) ∷ (0, 0)
      ∷ []
  pub next : (standings_behind of_sixteen (put_long ∷ [])).next ≡ 3
  pub opened :
      (standings_behind of_sixteen (put_long ∷ [])).file.gates ≡ true ∷ replicate 15 false
  -- a list that wraps: slots 2 and 0
  pub wraps :
      places_of (all_disk_calls dropped_two (Change (Put 5 1 (zeros 5000)) ∷ []))
      ≡ (12288, 0) ∷ (4096, 0) ∷ (12289, 4095) ∷ (4111, 919) ∷ (0, 0) ∷ (12288, 1) ∷ (0, 0) ∷ []
  -- three of four stale gates are closed first
  pub stale :
      places_of (all_disk_calls purged_four (put_long ∷ []))
      ≡ (4096, 0) ∷ (8192, 0) ∷ (12288, 0) ∷ (4096, 1) ∷ (8192, 1) ∷ (12288, 1) ∷ (0, 0)
      ∷ (4097, 4095) ∷ (8207, 4081) ∷ (12303, 838) ∷ (0, 0) ∷ (4096, 1) ∷ (0, 0) ∷ []
  pub tries :
      places_of (all_disk_calls of_sixteen (put_long ∷ ReadOldest 3 ∷ []))
      ≡ places_of (all_disk_calls of_sixteen (put_long ∷ []))
      ++ (4096, 0) ∷ (8192, 0) ∷ (12288, 0) ∷ []
  pub drops :
      places_of (all_disk_calls of_sixteen (put_long ∷ Change (DropOldest 3) ∷ []))
      ≡ places_of (all_disk_calls of_sixteen (put_long ∷ []))
      ++ (4107, 0) ∷ (4096, 1) ∷ (0, 0) ∷ []

-- ---- what is kept behind them

-- the slots that are open go with the works, and mark and floor with their copies
pub record KeptBehindWorks : Type 0 where
  pub put :
      (standings_behind of_three (Change (Put 5 1 (1 ∷ 2 ∷ [])) ∷ [])).file.gates ≡ true ∷ true ∷ true ∷ []
  pub dropped : (standings_behind of_three (Change (DropOldest 1) ∷ [])).file.gates ≡ true ∷ false ∷ false ∷ []
  -- a purge leaves each gate as it is
  pub purged :
      (standings_behind of_three (Change Purge ∷ [])).file
      ≡ record (file_with (true ∷ false ∷ true ∷ []) []) { floor = second_copy 7 }
  pub reserved : (standings_behind of_three (Reserve ∷ [])).file.mark ≡ first_copy 8192
  -- in one slot the gate that a drop closes is the one that a put opens
  pub overwritten :
      (standings_behind of_one (Change (DropOldest 1) ∷ Change (Put 5 1 []) ∷ [])).file
      ≡ file_with (true ∷ []) (plain 7 ∷ [])

-- ---- what a loss leaves at each

-- of the file that is left at each call of a work, by what becomes of what isn't settled: the numbers of its messages,
-- which of its slots are open, and its mark
abbrev pub numbers_left : Standing → DiskWork → CutChoice → List (List ℕ)
numbers_left st one choice = map (λ left. map (λ message. message.number) (left choice).list) (calls_at st one)

abbrev pub gates_left : Standing → DiskWork → CutChoice → List (List Bool)
gates_left st one choice = map (λ left. (left choice).gates) (calls_at st one)

abbrev pub marks_left : Standing → CutChoice → List ℕ
marks_left st choice = map (λ left. (left choice).mark.value) (calls_at st Reserve)

-- so many first calls leave the one, and so many more the other
abbrev pub then_left : {X : Type 0} → ℕ → X → ℕ → X → List X
then_left before one behind other = replicate before one ++ replicate behind other

-- the same three slots, where the first copy of the mark counts
abbrev pub of_other_copy : Standing
of_other_copy = record { next = 7; file = with_mark (first_copy 4096) of_three.file }

pub record LossesOfWorks : Type 0 where
  -- 5A at the gate of a slot opens it, and A5 closes it
  pub put_5A : numbers_left of_three put_alarm (Fill 90) ≡ then_left 3 (5 ∷ 6 ∷ []) 2 (5 ∷ 6 ∷ 7 ∷ [])
  pub put_A5 : numbers_left of_three put_alarm (Fill 165) ≡ replicate 5 (5 ∷ 6 ∷ [])
  -- one slot that overwrites
  pub drop_5A : numbers_left of_one (Change (DropOldest 1)) (Fill 90) ≡ replicate 3 (6 ∷ [])
  pub drop_A5 : numbers_left of_one (Change (DropOldest 1)) (Fill 165) ≡ then_left 1 (6 ∷ []) 2 []
  pub put_then_5A : numbers_left dropped_one put_alarm (Fill 90) ≡ then_left 3 [] 2 (7 ∷ [])
  pub put_then_A5 : numbers_left dropped_one put_alarm (Fill 165) ≡ replicate 5 []
  -- a gate of the floor's cell that is odd names the second copy, which is the new one
  pub purge_old : numbers_left full_of_three (Change Purge) Old ≡ replicate 5 (0 ∷ 1 ∷ 2 ∷ [])
  pub purge_5A : numbers_left full_of_three (Change Purge) (Fill 90) ≡ replicate 5 (0 ∷ 1 ∷ 2 ∷ [])
  pub purge_new : numbers_left full_of_three (Change Purge) New ≡ then_left 3 (0 ∷ 1 ∷ 2 ∷ []) 2 []
  pub purge_A5 : numbers_left full_of_three (Change Purge) (Fill 165) ≡ then_left 3 (0 ∷ 1 ∷ 2 ∷ []) 2 []
  -- of a put over a stale gate this is open behind the read, by what becomes of its 00 for two calls, then closed, and
  -- at the last two calls open where the message stands
  pub stale_old :
      gates_left purged_three put_alarm Old
      ≡ then_left 3 (true ∷ true ∷ true ∷ []) 4 (false ∷ true ∷ true ∷ [])
  pub stale_new :
      gates_left purged_three put_alarm New
      ≡ (true ∷ true ∷ true ∷ []) ∷ then_left 4 (false ∷ true ∷ true ∷ []) 2 (true ∷ true ∷ true ∷ [])
  -- no loss but at its last gate leaves the message
  pub stale_5A : numbers_left purged_three put_alarm (Fill 90) ≡ then_left 5 [] 2 (3 ∷ [])
  -- a mark whose second copy counts moves to the first one, which an even gate names, and the other way round
  pub second_5A : marks_left of_three (Fill 90) ≡ then_left 3 4096 2 8192
  pub second_A5 : marks_left of_three (Fill 165) ≡ replicate 5 4096
  pub first_5A : marks_left of_other_copy (Fill 90) ≡ replicate 5 4096
  pub first_A5 : marks_left of_other_copy (Fill 165) ≡ then_left 3 4096 2 8192
  -- a put that was stopped at one of its last two calls is done where the gate counts
  pub long_old : numbers_left of_sixteen put_long Old ≡ replicate 9 []
  pub long_new : numbers_left of_sixteen put_long New ≡ then_left 7 [] 2 (0 ∷ [])
  -- of three stale gates that are closed the first ones are, as many as the choice has bytes for
  pub shut_first :
      gates_left purged_four put_long (First 1)
      ≡ replicate 3 (replicate 4 true)
      ++ replicate 4 (false ∷ replicate 3 true)
      ++ then_left 4 (false ∷ false ∷ false ∷ true ∷ []) 2 (true ∷ false ∷ false ∷ true ∷ [])
  pub shut_old :
      gates_left purged_four put_long Old
      ≡ then_left 7 (replicate 4 true) 6 (false ∷ false ∷ false ∷ true ∷ [])
