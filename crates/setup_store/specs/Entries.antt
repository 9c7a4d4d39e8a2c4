-- A list of kept primaries, and the bytes that spell it (this profile).
use Rattle.std.specs.Prelude.{◌≡◌, ◌<◌, ◌+◌, ◌-◌, ◌^◌, ◌==◌, ◌&&◌, ◌||◌, not, ℕ, zero, suc, Bool, List, [], ◌∷◌, ◌++◌, length, take, drop, flat_map, nat_lt, slice_index, All, IsTrue, Option, Some, None, Result, Ok, Err, if◌then◌else◌}
use Rattle.std.specs.Int.{w32, from_be_bytes, to_be_bytes}
use Rattle.spool_file.specs.declared.reading.NotSpool.{NotSpool}
use Rattle.trace_log.specs.Names.{KeptPrimary}
use Rattle.setup_store.specs.declared.entry.EntryView.{EntryView}

-- a primary of the host that is kept
abbrev pub Entry : Type 0
Entry = KeptPrimary

-- what the program has of an entry
abbrev pub entry_of : EntryView → Entry
entry_of view = record { stream = view.stream; function = view.function; body = view.body.now }

abbrev pub is_kept_stream : ℕ → Bool
is_kept_stream stream = stream == 2 || stream == 5

-- S2F15, S2F33, S2F35, S2F37, S2F43 and S5F3 are kept
abbrev pub is_kept : ℕ → ℕ → Bool
is_kept stream function =
    (stream == 2 && (function == 15 || function == 33 || function == 35 || function == 37 || function == 43))
    || (stream == 5 && function == 3)

-- one of the six, with a body whose length four bytes can say
pub record IsEntry (entry : Entry) : Type 0 where
  pub kept : IsTrue (is_kept entry.stream entry.function)
  pub short : length entry.body < 2 ^ 32

-- stream, function, the body's length as four bytes with the high byte first, and the body
abbrev pub entry_bytes : Entry → List ℕ
entry_bytes entry = entry.stream ∷ entry.function ∷ to_be_bytes w32 (length entry.body) ++ entry.body

abbrev pub bytes_of : List Entry → List ℕ
bytes_of entries = flat_map entry_bytes entries

-- these are the bytes of these entries
pub record AreBytesOf (entries : List Entry) (bytes : List ℕ) : Type 0 where
  pub each : All IsEntry entries
  pub spelled : bytes_of entries ≡ bytes

-- ---- from left to right

-- Parameters: how many bytes the whole list has; those from the place on. No entry has there the byte with this number.
abbrev pub bad_byte : ℕ → List ℕ → ℕ → NotSpool
bad_byte total bytes k = record { at = total - length bytes + k; got = Some (slice_index bytes k) }

-- the list ends within an entry, whatever stands behind it
abbrev pub ends_at : ℕ → NotSpool
ends_at total = record { at = total; got = None }

-- where the first six bytes break
abbrev pub head_break : ℕ → List ℕ → Option NotSpool
head_break total bytes =
    if length bytes == 0 then Some (ends_at total)
    else if not (is_kept_stream (slice_index bytes 0)) then Some (bad_byte total bytes 0)
    else if length bytes == 1 then Some (ends_at total)
    else if not (is_kept (slice_index bytes 0) (slice_index bytes 1)) then Some (bad_byte total bytes 1)
    else if nat_lt (length bytes) 6 then Some (ends_at total)
    else None

-- the number that the four bytes of the length are
abbrev pub body_length : List ℕ → ℕ
body_length bytes = from_be_bytes w32 (take 4 (drop 2 bytes))

-- behind a whole head: the entry and the bytes behind it
abbrev pub behind_head : ℕ → List ℕ → Result (Entry × List ℕ) NotSpool
behind_head total bytes =
    if nat_lt (length (drop 6 bytes)) (body_length bytes) then Err (ends_at total)
    else Ok (
      record {
        stream = slice_index bytes 0;
        function = slice_index bytes 1;
        body = take (body_length bytes) (drop 6 bytes);
      },
      drop (body_length bytes) (drop 6 bytes),
    )

abbrev pub first_by : Option NotSpool → ℕ → List ℕ → Result (Entry × List ℕ) NotSpool
first_by (Some e) total bytes = Err e
first_by None total bytes = behind_head total bytes

-- the entry in front, and the bytes behind it; or the first byte that no list of entries has there
abbrev pub first_in : ℕ → List ℕ → Result (Entry × List ℕ) NotSpool
first_in total bytes = first_by (head_break total bytes) total bytes

abbrev pub with_first : Entry → Result (List Entry) NotSpool → Result (List Entry) NotSpool
with_first entry (Ok entries) = Ok (entry ∷ entries)
with_first entry (Err e) = Err e

abbrev pub behind_first :
    (List ℕ → Result (List Entry) NotSpool) → Result (Entry × List ℕ) NotSpool → Result (List Entry) NotSpool
behind_first read (Ok x) = with_first x.0 (read x.1)
behind_first read (Err e) = Err e

-- at most so many entries
abbrev pub entries_within : ℕ → ℕ → List ℕ → Result (List Entry) NotSpool
entries_within zero total bytes = Ok []
entries_within (suc more) total bytes =
    if length bytes == 0 then Ok [] else behind_first (entries_within more total) (first_in total bytes)

-- the entries of a list, or where it breaks; there are no more than bytes
abbrev pub entries_in : List ℕ → Result (List Entry) NotSpool
entries_in bytes = entries_within (length bytes) (length bytes) bytes

abbrev pub break_of : Result (List Entry) NotSpool → Option NotSpool
break_of (Ok entries) = None
break_of (Err e) = Some e

-- ---- room

-- how many bytes of a list are kept
abbrev pub most_kept : ℕ
most_kept = 262144

abbrev pub has_room : List ℕ → Bool
has_room bytes = not (nat_lt most_kept (length bytes))
