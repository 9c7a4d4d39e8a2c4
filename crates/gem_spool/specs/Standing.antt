-- How the spool in hand stands: its file, and the number of the next message (this profile).
use Rattle.std.specs.Prelude.{◌≡◌, ℕ, zero, suc, ◌+◌, ◌*◌, ◌-◌, false, List, [], ◌∷◌, length, replicate, sum_by, Option}
use Rattle.std.specs.Prelude.{Some, None}
use Rattle.disk_base.specs.Story.{Story}
use Rattle.disk_base.specs.declared.disk.Disk as disk
use Rattle.gem_spool.specs.declared.count.Count.{Count}
use Rattle.spool_file.specs.File.{Ends, SpoolFile, file_in}
use Rattle.spool_file.specs.Run.{IsChainFrom}
use Rattle.spool_file.specs.Slot.{Message, width}
use Rattle.spool_file.specs.declared.recovery.Known.{Known}
use Rattle.spool_slots.specs.Spool.{SpoolView, known_of}

-- the numbers that decide what can be done
abbrev pub count_of : {D : Type 0} → SpoolView D → Count
count_of v = record { version = v.version; slots = v.slots; next = v.next; len = v.len; used = v.next - v.first }

-- the number of the next message, and all that a loss of power keeps
pub record Standing : Type 0 where
  pub next : ℕ
  pub file : SpoolFile

abbrev pub count_in : Standing → Count
count_in st = record {
  version = st.file.version;
  slots = st.file.slots;
  next = st.next;
  len = length st.file.list;
  used = sum_by width st.file.list;
}

-- a spool in hand stands so; where its disk tells its bytes, they do, whatever a crash leaves
pub record Stands {D : Type 0} (members : disk.Ghosts D) (v : SpoolView D) (st : Standing) : Type 0 where
  pub count : count_of v ≡ count_in st
  pub mark : v.mark ≡ st.file.mark.value
  pub chain : IsChainFrom v.first v.next st.file.list
  pub file : (s : Story) → members.told v.disk ≡ Some s → Ends s st.file

-- a message that takes so many slots, in place of one that a disk doesn't tell, and those of these sizes in a row
abbrev pub blank : (number size : ℕ) → Message
blank number size = record { number = number; stream = 0; function = 1; body = replicate (4081 * size) 0 }

abbrev pub blanks : ℕ → List ℕ → List Message
blanks first [] = []
blanks first (size ∷ sizes) = blank first size ∷ blanks (first + size) sizes

-- so many sizes that come to a sum: each is 1 but the last one, which is the rest
abbrev pub sizes_of : (len used : ℕ) → List ℕ
sizes_of zero used = []
sizes_of (suc zero) used = used ∷ []
sizes_of (suc (suc len)) used = 1 ∷ sizes_of (suc len) (used - 1)

-- the file that a disk tells; where it tells none, one of so many messages and this mark, in which no slot is open, the
-- floor is the first number, the first copy of each cell counts, and no setup is kept
abbrev pub file_told : Option Story → Known → SpoolFile
file_told None known = record {
  version = known.version;
  slots = known.slots;
  gates = replicate known.slots false;
  mark = record { value = known.mark; second = false };
  floor = record { value = known.first; second = false };
  setup = record { cell = record { value = 0; second = false }; bytes = None };
  list = blanks known.first (sizes_of known.len (known.next - known.first));
}
file_told (Some s) known = file_in s.now.bytes

-- how a spool stands, by what its disk tells
abbrev pub standing_of : {D : Type 0} → disk.Ghosts D → SpoolView D → Standing
standing_of members v = record { next = v.next; file = file_told (members.told v.disk) (known_of v) }
