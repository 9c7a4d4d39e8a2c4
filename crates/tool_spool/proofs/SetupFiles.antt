-- The list that a file keeps is read as it was kept.
use Rattle.std.proofs.Common.{◌≡◌, refl, ap, subst, arith, ◌≤◌, Bool, true, false, cond, not, if◌then◌else◌, ◌==◌, ℕ, zero, suc, nat_lt, List, [], ◌∷◌, length, length-append, take, drop, filter, All, Option, Some, None, Result, Ok, Err}
use Rattle.std.proofs.lemmas.Bool.Decides.{nat_tests}
use Rattle.std.proofs.lemmas.List.Elements.{All-append, All-cons, All-filter, All-head, All-nil, All-tail}
use Rattle.std.specs.Int.{w32, to_be_bytes}
use Rattle.std.specs.Prelude.{slice_index}
use Rattle.std.specs.Option.{option_map}
use Rattle.message_flow.specs.declared.message.Message.{Message}
use Rattle.setup_law.specs.Setup.{with_kept}
use Rattle.setup_store.specs.Copies.{with_kept as kept_as}
use Rattle.setup_store.specs.Entries.{Entry, IsEntry, bad_byte, behind_first, body_length, bytes_of, ends_at, entries_within, entry_bytes, first_by, first_in, has_room, is_kept, is_kept_stream, with_first}
use Rattle.setup_store.specs.Laws.{ListsAreReadAsSpelled}
use Rattle.setup_store.specs.Kept.{change_by, kept, kept_by, takes_out, tells}
use Rattle.setup_store.specs.declared.change.Change.{Change}
use Rattle.spool_file.specs.File.{SpoolFile}
use Rattle.spool_file.specs.declared.reading.NotSpool.{NotSpool}
use Rattle.equipment_tables.specs.Setup.{primary_of}
use Rattle.tool_step.specs.Setup.{entries_of, list_of, setup_in}

-- it is one of the six that are kept
abbrev pub HasKind : Entry → Type 0
HasKind entry = is_kept entry.stream entry.function ≡ true

-- ---- what is read

-- what stands in front is read as an entry of some kind
abbrev read_so : Entry × List ℕ → Result (Entry × List ℕ) NotSpool
read_so x = Ok x

kind-of : (total : ℕ) (bytes : List ℕ) (x : Entry × List ℕ) → first_in total bytes ≡ Ok x → HasKind x.0
kind-of total bytes x read =
    go (length bytes == 0) (is_kept_stream stream) (length bytes == 1) (is_kept stream function)
    (nat_lt (length bytes) 6) refl read
  where
    stream : ℕ
    stream = slice_index bytes 0

    function : ℕ
    function = slice_index bytes 1

    entry : Entry
    entry = record { stream = stream; function = function; body = take (body_length bytes) (drop 6 bytes) }

    rest : List ℕ
    rest = drop (body_length bytes) (drop 6 bytes)

    same : (one two : Entry × List ℕ) → read_so one ≡ read_so two → one ≡ two
    same one two e = cc

    behind : (short : Bool) → is_kept stream function ≡ true
        → (if short then Err (ends_at total) else Ok (entry, rest)) ≡ Ok x → HasKind x.0
    behind true kind is = absurd (cc)
    behind false kind is = subst (λ (y : Entry × List ℕ). HasKind y.0) (same (entry, rest) x is) kind

    go : (a b c d e : Bool) → is_kept stream function ≡ d
        → first_by
        (if a then Some (ends_at total) else if not b then Some (bad_byte total bytes 0)
        else if c then Some (ends_at total) else if not d then Some (bad_byte total bytes 1)
        else if e then Some (ends_at total) else None) total bytes
        ≡ Ok x
        → HasKind x.0
    go true b c d e kind is = absurd (cc)
    go false false c d e kind is = absurd (cc)
    go false true true d e kind is = absurd (cc)
    go false true false false e kind is = absurd (cc)
    go false true false true true kind is = absurd (cc)
    go false true false true false kind is =
        behind (nat_lt (length (drop 6 bytes)) (body_length bytes)) kind is

kinds-read : (n total : ℕ) (bytes : List ℕ) → All HasKind (entries_of (entries_within n total bytes))
kinds-read zero total bytes = All-nil HasKind
kinds-read (suc n) total bytes = go (length bytes == 0) (λ rest. kinds-read n total rest)
  where
    more : (entry : Entry) (read : Result (List Entry) NotSpool) → HasKind entry → All HasKind (entries_of read)
        → All HasKind (entries_of (with_first entry read))
    more entry (Ok entries) kind all = All-cons HasKind entry entries kind all
    more entry (Err e) kind all = All-nil HasKind

    by : (first : Result (Entry × List ℕ) NotSpool) → first_in total bytes ≡ first
        → ((rest : List ℕ) → All HasKind (entries_of (entries_within n total rest)))
        → All HasKind (entries_of (behind_first (entries_within n total) first))
    by (Ok x) is later =
        more x.0 (entries_within n total x.1) (kind-of total bytes x is) (later x.1)
    by (Err e) is later = All-nil HasKind

    go : (empty : Bool) → ((rest : List ℕ) → All HasKind (entries_of (entries_within n total rest)))
        → All HasKind
        (entries_of (cond empty (Ok []) (behind_first (entries_within n total) (first_in total bytes))))
    go true later = All-nil HasKind
    go false later = by (first_in total bytes) refl later

-- of whatever a file holds
pub kinds-in : (file : SpoolFile) (list : List Entry) → setup_in file ≡ Some list → All HasKind list
kinds-in file list is = go file.setup.bytes is
  where
    go : (bytes : Option (List ℕ)) → option_map list_of bytes ≡ Some list → All HasKind list
    go None e = absurd (cc)
    go (Some bytes) e =
        subst (All HasKind) (same (list_of bytes) list e) (kinds-read (length bytes) (length bytes) bytes)
      where
        same : (one two : List Entry) → Some one ≡ Some two → one ≡ two
        same one two e = cc

-- ---- what is kept

kinds-kept : (list : List Entry) (primary : Entry) → All HasKind list → HasKind primary
    → All HasKind (kept list primary)
kinds-kept list primary all kind = go (change_by primary)
  where
    last : (b : Bool) → All HasKind (cond b (primary ∷ []) [])
    last true = All-cons HasKind primary [] kind (All-nil HasKind)
    last false = All-nil HasKind

    go : (change : Option Change) → All HasKind (kept_by change list primary)
    go None = all
    go (Some change) =
        All-append HasKind (filter (λ old. not (takes_out change old)) list) (cond (tells change) (primary ∷ []) [])
        (All-filter (λ old. not (takes_out change old)) HasKind list all) (last (tells change))

pub kinds-with :
    (list : Option (List Entry)) (message : Message) (new : List Entry)
    → ((old : List Entry) → list ≡ Some old → All HasKind old) → HasKind (primary_of message)
    → with_kept message list ≡ Some new → All HasKind new
kinds-with None message new all kind is = absurd (cc)
kinds-with (Some old) message new all kind is =
    subst (All HasKind) (same (kept old (primary_of message)) new is)
    (kinds-kept old (primary_of message) (all old refl) kind)
  where
    same : (one two : List Entry) → Some one ≡ Some two → one ≡ two
    same one two e = cc

-- ---- and read again

few : (bytes : List ℕ) → has_room bytes ≡ true → length bytes ≤ 262144
few bytes room = go (nat_lt 262144 (length bytes)) refl room
  where
    go : (over : Bool) → nat_lt 262144 (length bytes) ≡ over → not over ≡ true → length bytes ≤ 262144
    go true e is = absurd (cc)
    go false e is = grind (arith, nat_tests, e)

are-entries : (list : List Entry) → All HasKind list → length (bytes_of list) ≤ 262144 → All IsEntry list
are-entries [] kinds most = All-nil IsEntry
are-entries (entry ∷ list) kinds most =
    let both = length-append (entry_bytes entry) (bytes_of list) in
    let own = length-append (to_be_bytes w32 (length entry.body)) entry.body in
    All-cons IsEntry entry list
    (record { kept = All-head HasKind entry list kinds; short = omega (arith, most, both, own) })
    (are-entries list (All-tail HasKind entry list kinds) (omega (arith, most, both)))

-- with this list kept, the file tells it
pub kept-in : ListsAreReadAsSpelled → (list : List Entry) (file : SpoolFile) → All HasKind list
    → has_room (bytes_of list) ≡ true → setup_in (kept_as (bytes_of list) file) ≡ Some list
kept-in lists list file kinds room =
    ap (λ (read : Result (List Entry) NotSpool). Some (entries_of read))
    (lists.read list (are-entries list kinds (few (bytes_of list) room)))
