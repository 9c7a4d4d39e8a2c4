-- A list is read as it was spelled.
use Rattle.std.proofs.Common.{◌≡◌, refl, sym, ◌∙◌, ap, subst, Bool, true, false, cond, not, ◌&&◌, ◌||◌, ◌==◌, ℕ, zero, suc, ◌+◌, ◌<◌, ◌≤◌, ◌^◌, List, [], ◌∷◌, ◌++◌, length, take, drop, nat_lt, Some, None, Result, Ok, Err, All, inl, inr, append_assoc, length-append, length-drop, arith}
use Rattle.std.proofs.lemmas.Bool.{cases_lt, eqb-true, false_from_ne_true, le-ltb, ltb-false}
use Rattle.std.proofs.lemmas.List.{get_or-drop, get_or-take, get_or_past, length-take-le, take-append-drop}
use Rattle.std.proofs.lemmas.List.Elements.{All-cons, All-head, All-nil, All-tail}
use Rattle.std.proofs.lemmas.Nat.{be_bytes_4, from_be_bytes-to_be_bytes_4}
use Rattle.std.proofs.Math.Seq.{drop-append_seam, take-append_seam}
use Rattle.std.specs.Int.{w32, from_be_bytes, to_be_bytes}
use Rattle.spool_file.specs.declared.reading.NotSpool.{NotSpool}
use Rattle.setup_store.specs.Entries.{AreBytesOf, Entry, IsEntry, bad_byte, behind_first, break_of, bytes_of, ends_at, entries_in, entries_within, entry_bytes, first_by, first_in, head_break, is_kept, is_kept_stream, with_first}
use Rattle.setup_store.specs.Laws.{AreBytes}

-- ---- what stands in front

some_long : {A : Type 0} (x : A) (xs : List A) → (length (x ∷ xs) == 0) ≡ false
some_long x xs = false_from_ne_true (length (x ∷ xs) == 0) (λ e. omega (arith, eqb-true (length (x ∷ xs)) 0 e))

pub kept_stream : (stream function : ℕ) → is_kept stream function ≡ true → is_kept_stream stream ≡ true
kept_stream stream function kept =
    go (stream == 2) (stream == 5)
    (function == 15 || function == 33 || function == 35 || function == 37 || function == 43) (function == 3) kept
  where
    go : (a b x y : Bool) → ((a && x) || (b && y)) ≡ true → (a || b) ≡ true
    go true b x y is = refl
    go false true x y is = refl
    go false false x y is = absurd (cc)

-- an entry's two bytes and at least four more
whole_head :
    (total stream function : ℕ) (tail : List ℕ) → is_kept stream function ≡ true → 4 ≤ length tail
    → head_break total (stream ∷ function ∷ tail) ≡ None
whole_head total stream function tail kept long =
    let bytes : List ℕ = stream ∷ function ∷ tail in
    let some = some_long stream (function ∷ tail) in
    let two : (length bytes == 1) ≡ false =
    false_from_ne_true (length bytes == 1) (λ e. omega (arith, eqb-true (length bytes) 1 e)) in
    let six : nat_lt (length bytes) 6 ≡ false = le-ltb (length bytes) 6 (omega arith) in
    rw (some, kept_stream stream function kept, two, kept, six) refl

drop_front : (n : ℕ) (front rest : List ℕ) → length front ≡ n → drop n (front ++ rest) ≡ rest
drop_front n front rest long = ap (λ k. drop k (front ++ rest)) (sym long) ∙ drop-append_seam front rest

take_front : (n : ℕ) (front rest : List ℕ) → length front ≡ n → take n (front ++ rest) ≡ front
take_front n front rest long = ap (λ k. take k (front ++ rest)) (sym long) ∙ take-append_seam front rest

-- what a body's length and the bytes behind it make of the bytes behind a head
abbrev pub cut : ℕ → ℕ → ℕ → ℕ → List ℕ → Result (Entry × List ℕ) NotSpool
cut total stream function n rest =
    cond (nat_lt (length rest) n) (Err (ends_at total))
    (Ok (record { stream = stream; function = function; body = take n rest }, drop n rest))

cut_whole :
    (total : ℕ) (entry : Entry) (more : List ℕ)
    → cut total entry.stream entry.function (length entry.body) (entry.body ++ more) ≡ Ok (entry, more)
cut_whole total entry more =
    let n = length entry.body in
    let rest = entry.body ++ more in
    let long : nat_lt (length rest) n ≡ false = le-ltb (length rest) n (omega (arith, length-append entry.body more)) in
    ap (λ b. cond b (Err (ends_at total))
    (Ok (record { stream = entry.stream; function = entry.function; body = take n rest }, drop n rest))) long
    ∙ (λ j. Ok (
      record {
        stream = entry.stream;
        function = entry.function;
        body = take_front n entry.body more refl j;
      },
      drop_front n entry.body more refl j,
    ))

length_bytes : (n : ℕ) → length (to_be_bytes w32 n) ≡ 4
length_bytes n = refl

-- an entry that stands in front is read
pub first_spelled :
    (total : ℕ) (entry : Entry) (more : List ℕ) → IsEntry entry
    → first_in total (entry_bytes entry ++ more) ≡ Ok (entry, more)
first_spelled total entry more is =
    let n = length entry.body in
    let four = to_be_bytes w32 n in
    let tail = (four ++ entry.body) ++ more in
    let parts : tail ≡ four ++ (entry.body ++ more) = append_assoc four entry.body more in
    let rest : drop 4 tail ≡ entry.body ++ more =
    ap (λ l. drop 4 l) parts ∙ drop_front 4 four (entry.body ++ more) (length_bytes n) in
    let number : from_be_bytes w32 (take 4 tail) ≡ n =
    ap (λ l. from_be_bytes w32 (take 4 l)) parts
    ∙ ap (from_be_bytes w32) (take_front 4 four (entry.body ++ more) (length_bytes n))
    ∙ from_be_bytes-to_be_bytes_4 n is.short in
    let long : 4 ≤ length tail =
    omega (arith, length-append (four ++ entry.body) more, length-append four entry.body, length_bytes n) in
    ap (λ b. first_by b total (entry.stream ∷ entry.function ∷ tail))
    (whole_head total entry.stream entry.function tail is.kept long)
    ∙ ap (λ k. cut total entry.stream entry.function k (drop 4 tail)) number
    ∙ ap (cut total entry.stream entry.function n) rest
    ∙ cut_whole total entry more

-- ---- all of a list

reads :
    (entries : List Entry) (n total : ℕ) → All IsEntry entries → length entries ≤ n
    → entries_within n total (bytes_of entries) ≡ Ok entries
reads [] zero total all few = refl
reads [] (suc n) total all few = refl
reads (e ∷ entries) zero total all few = absurd (omega (arith, few))
reads (e ∷ entries) (suc n) total all few =
    ap (λ b. cond b (Ok []) (behind_first (entries_within n total) (first_in total (bytes_of (e ∷ entries)))))
    (some_long e.stream (e.function ∷ (to_be_bytes w32 (length e.body) ++ e.body) ++ bytes_of entries))
    ∙ ap (behind_first (entries_within n total))
    (first_spelled total e (bytes_of entries) (All-head IsEntry e entries all))
    ∙ ap (with_first e) (reads entries n total (All-tail IsEntry e entries all) (omega (arith, few)))

-- each entry has bytes
many : (entries : List Entry) → length entries ≤ length (bytes_of entries)
many [] = omega arith
many (e ∷ entries) =
    omega (arith, many entries, length-append (entry_bytes e) (bytes_of entries))

pub read_as_spelled :
    (entries : List Entry) → All IsEntry entries → entries_in (bytes_of entries) ≡ Ok entries
read_as_spelled entries all = reads entries (length (bytes_of entries)) (length (bytes_of entries)) all (many entries)

-- ---- what was read was spelled so

-- bytes that a first entry was read of
pub record IsCut (total : ℕ) (bytes : List ℕ) (x : Entry × List ℕ) : Type 0 where
  pub stream : ℕ
  pub function : ℕ
  pub tail : List ℕ
  pub placed : stream ∷ function ∷ tail ≡ bytes
  pub kept : is_kept stream function ≡ true
  pub long : 4 ≤ length tail
  pub read : cut total stream function (from_be_bytes w32 (take 4 tail)) (drop 4 tail) ≡ Ok x

pub first_cut : (total : ℕ) (bytes : List ℕ) (x : Entry × List ℕ) → first_in total bytes ≡ Ok x → IsCut total bytes x
first_cut total [] x read = absurd (cc)
first_cut total (stream ∷ []) x read = go (is_kept_stream stream) read
  where
    go : (b : Bool)
        → first_by (cond (not b) (Some (bad_byte total (stream ∷ []) 0)) (Some (ends_at total))) total (stream ∷ [])
        ≡ Ok x → IsCut total (stream ∷ []) x
    go true is = absurd (cc)
    go false is = absurd (cc)
first_cut total (stream ∷ function ∷ tail) x read =
    go (length bytes == 0) (is_kept_stream stream) (length bytes == 1) (is_kept stream function) refl
    (nat_lt (length bytes) 6) refl read
  where
    bytes : List ℕ
    bytes = stream ∷ function ∷ tail

    go : (a b c d : Bool) → is_kept stream function ≡ d → (e : Bool) → nat_lt (length bytes) 6 ≡ e
        → first_by
        (cond a (Some (ends_at total))
        (cond (not b) (Some (bad_byte total bytes 0))
        (cond c (Some (ends_at total))
        (cond (not d) (Some (bad_byte total bytes 1))
        (cond e (Some (ends_at total)) None))))) total bytes ≡ Ok x
        → IsCut total bytes x
    go true b c d kept e long is = absurd (cc)
    go false false c d kept e long is = absurd (cc)
    go false true true d kept e long is = absurd (cc)
    go false true false false kept e long is = absurd (cc)
    go false true false true kept true long is = absurd (cc)
    go false true false true kept false long is =
        let six = ltb-false (length bytes) 6 long in
        record {
          stream = stream;
          function = function;
          tail = tail;
          placed = refl;
          kept = kept;
          long = omega (arith, six);
          read = is;
        }

-- an entry takes bytes
pub takes : (total : ℕ) (bytes : List ℕ) (x : Entry × List ℕ) → IsCut total bytes x → length x.1 < length bytes
takes total bytes x is = go (nat_lt (length rest) n) is.read
  where
    rest : List ℕ
    rest = drop 4 is.tail

    n : ℕ
    n = from_be_bytes w32 (take 4 is.tail)

    entry : Entry
    entry = record { stream = is.stream; function = is.function; body = take n rest }

    go : (b : Bool) → cond b (Err (ends_at total)) (Ok (entry, drop n rest)) ≡ Ok x → length x.1 < length bytes
    go true read = absurd (cc)
    go false read =
        let same : ◌≡◌ {A = Entry × List ℕ} (entry, drop n rest) x = cc in
        let all : length (is.stream ∷ is.function ∷ is.tail) ≡ length bytes = ap (λ (l : List ℕ). length l) is.placed in
        subst (λ (y : Entry × List ℕ). length y.1 < length bytes) same
        (omega (arith, length-drop n rest, length-drop 4 is.tail, all))

pub below : (bytes : List ℕ) → AreBytes bytes → from_be_bytes w32 bytes < 2 ^ 32
below bytes are = let a = are 0 in let b = are 1 in let c = are 2 in let d = are 3 in omega arith

pub are_behind : (n : ℕ) (bytes : List ℕ) → AreBytes bytes → AreBytes (drop n bytes)
are_behind n bytes are i = subst (λ k. k < 256) (sym (get_or-drop n bytes i 0)) (are (n + i))

pub are_before : (n : ℕ) (bytes : List ℕ) → AreBytes bytes → n ≤ length bytes → AreBytes (take n bytes)
are_before n bytes are long i = elim (cases_lt i n) [
  | inl low ↦ subst (λ k. k < 256) (sym (get_or-take n bytes i 0 low)) (are i)
  | inr high ↦
      subst (λ k. k < 256)
      (sym (get_or_past (take n bytes) i 0 (omega (arith, length-take-le n bytes long, high)))) (omega arith)
]

-- what a first entry is that was read
pub record IsFirst (bytes : List ℕ) (entry : Entry) (rest : List ℕ) : Type 0 where
  pub is : IsEntry entry
  pub spelled : entry_bytes entry ++ rest ≡ bytes

pub first_is :
    (total : ℕ) (bytes : List ℕ) (x : Entry × List ℕ) → AreBytes bytes → IsCut total bytes x
    → IsFirst bytes x.0 x.1
first_is total bytes x are is = go (nat_lt (length rest) n) refl is.read
  where
    four : List ℕ
    four = take 4 is.tail

    rest : List ℕ
    rest = drop 4 is.tail

    n : ℕ
    n = from_be_bytes w32 four

    entry : Entry
    entry = record { stream = is.stream; function = is.function; body = take n rest }

    are_four : AreBytes four
    are_four =
        are_before 4 is.tail (are_behind 2 (is.stream ∷ is.function ∷ is.tail) (subst AreBytes (sym is.placed) are))
        is.long

    go : (b : Bool) → nat_lt (length rest) n ≡ b → cond b (Err (ends_at total)) (Ok (entry, drop n rest)) ≡ Ok x
        → IsFirst bytes x.0 x.1
    go true short read = absurd (cc)
    go false enough read =
        let same : ◌≡◌ {A = Entry × List ℕ} (entry, drop n rest) x = cc in
        let body_long : length (take n rest) ≡ n = length-take-le n rest (ltb-false (length rest) n enough) in
        let number : to_be_bytes w32 (length (take n rest)) ≡ four =
        ap (to_be_bytes w32) body_long ∙ be_bytes_4 four n (length-take-le 4 is.tail is.long) are_four refl in
        subst (λ (y : Entry × List ℕ). IsFirst bytes y.0 y.1) same (record {
          is = record { kept = is.kept; short = subst (λ k. k < 2 ^ 32) (sym body_long) (below four are_four) };
          spelled =
              ap (λ l. is.stream ∷ is.function ∷ l)
              (append_assoc (to_be_bytes w32 (length (take n rest))) (take n rest) (drop n rest)
              ∙ ap (λ l. l ++ (take n rest ++ drop n rest)) number
              ∙ ap (λ l. four ++ l) (take-append-drop n rest) ∙ take-append-drop 4 is.tail)
              ∙ is.placed;
        })

nothing_left : (bytes : List ℕ) → length bytes ≤ 0 → bytes ≡ []
nothing_left [] none = refl
nothing_left (b ∷ bytes) none = absurd (omega (arith, none))

none_there : (bytes : List ℕ) → (length bytes == 0) ≡ true → bytes ≡ []
none_there bytes none = nothing_left bytes (let same = eqb-true (length bytes) 0 none in omega (arith, same))

pub are_rest : (front rest : List ℕ) → AreBytes (front ++ rest) → AreBytes rest
are_rest front rest are =
    subst AreBytes (drop-append_seam front rest) (are_behind (length front) (front ++ rest) are)

pub spelled_so :
    (n total : ℕ) (bytes : List ℕ) (entries : List Entry) → AreBytes bytes → length bytes ≤ n
    → entries_within n total bytes ≡ Ok entries → AreBytesOf entries bytes
spelled_so zero total bytes entries are few read =
    let same : ◌≡◌ {A = List Entry} [] entries = cc in
    subst (λ (es : List Entry). AreBytesOf es bytes) same
    (record { each = All-nil IsEntry; spelled = sym (nothing_left bytes few) })
spelled_so (suc n) total bytes entries are few read =
    go (λ rest others. spelled_so n total rest others) (length bytes == 0) refl (first_in total bytes) refl read
  where
    Next : Type 0
    Next =
        (rest : List ℕ) (others : List Entry) → AreBytes rest → length rest ≤ n
        → entries_within n total rest ≡ Ok others → AreBytesOf others rest

    none : length bytes ≤ 0 → ◌≡◌ {A = List Entry} [] entries → AreBytesOf entries bytes
    none empty same =
        subst (λ (es : List Entry). AreBytesOf es bytes) same
        (record { each = All-nil IsEntry; spelled = sym (nothing_left bytes empty) })

    some :
        Next → (x : Entry × List ℕ) → first_in total bytes ≡ Ok x → (r : Result (List Entry) NotSpool)
        → entries_within n total x.1 ≡ r → with_first x.0 r ≡ Ok entries → AreBytesOf entries bytes
    some next x first (Err e) rest is = absurd (cc)
    some next x first (Ok others) rest is =
        let same : ◌≡◌ {A = List Entry} (x.0 ∷ others) entries = cc in
        let cut_so = first_cut total bytes x first in
        let one = first_is total bytes x are cut_so in
        let shorter = takes total bytes x cut_so in
        let behind =
        next x.1 others (are_rest (entry_bytes x.0) x.1 (subst AreBytes (sym one.spelled) are))
        (omega (arith, shorter, few)) rest in
        subst (λ (es : List Entry). AreBytesOf es bytes) same (record {
          each = All-cons IsEntry x.0 others one.is behind.each;
          spelled = ap (λ l. entry_bytes x.0 ++ l) behind.spelled ∙ one.spelled;
        })

    go : Next → (b : Bool) → (length bytes == 0) ≡ b → (r : Result (Entry × List ℕ) NotSpool)
        → first_in total bytes ≡ r
        → cond b (Ok []) (behind_first (entries_within n total) r) ≡ Ok entries → AreBytesOf entries bytes
    go next true empty r first is = none (let same = eqb-true (length bytes) 0 empty in omega (arith, same)) (cc)
    go next false long (Err e) first is = absurd (cc)
    go next false long (Ok x) first is = some next x first (entries_within n total x.1) refl is

-- ---- a loop over a list

-- it doesn't matter how many entries there may be, where there may be one a byte
enough :
    (n m total : ℕ) (bytes : List ℕ) → length bytes ≤ n → length bytes ≤ m
    → entries_within n total bytes ≡ entries_within m total bytes
enough zero zero total bytes few fewer = refl
enough zero (suc m) total bytes few fewer =
    let none = nothing_left bytes few in
    ap (entries_within zero total) none ∙ sym (ap (entries_within (suc m) total) none)
enough (suc n) zero total bytes few fewer =
    let none = nothing_left bytes fewer in
    ap (entries_within (suc n) total) none ∙ sym (ap (entries_within zero total) none)
enough (suc n) (suc m) total bytes few fewer = go (λ rest. enough n m total rest) (first_in total bytes) refl
  where
    go : ((rest : List ℕ) → length rest ≤ n → length rest ≤ m
        → entries_within n total rest ≡ entries_within m total rest)
        → (r : Result (Entry × List ℕ) NotSpool) → first_in total bytes ≡ r
        → cond (length bytes == 0) (Ok []) (behind_first (entries_within n total) r)
        ≡ cond (length bytes == 0) (Ok []) (behind_first (entries_within m total) r)
    go next (Err e) first = refl
    go next (Ok x) first =
        let shorter = takes total bytes x (first_cut total bytes x first) in
        ap (λ rest. cond (length bytes == 0) (Ok []) (with_first x.0 rest))
        (next x.1 (omega (arith, shorter, few)) (omega (arith, shorter, fewer)))

break_behind :
    (entry : Entry) (r : Result (List Entry) NotSpool) → break_of (with_first entry r) ≡ break_of r
break_behind entry (Ok entries) = refl
break_behind entry (Err e) = refl

-- what is left behind an entry breaks where all does
pub breaks_behind :
    (total : ℕ) (bytes : List ℕ) (x : Entry × List ℕ) → first_in total bytes ≡ Ok x
    → break_of (entries_within (length x.1) total x.1) ≡ break_of (entries_within (length bytes) total bytes)
breaks_behind total [] x first = absurd (cc)
breaks_behind total (b ∷ bytes) x first =
    let shorter = takes total (b ∷ bytes) x (first_cut total (b ∷ bytes) x first) in
    sym
    (ap (λ t. break_of (cond t (Ok [])
    (behind_first (entries_within (length bytes) total) (first_in total (b ∷ bytes)))))
    (some_long b bytes)
    ∙ ap (λ r. break_of (behind_first (entries_within (length bytes) total) r)) first
    ∙ break_behind x.0 (entries_within (length bytes) total x.1)
    ∙ ap break_of (enough (length bytes) (length x.1) total x.1 (omega (arith, shorter)) (omega arith)))

-- a break of what is left
pub breaks_here :
    (total : ℕ) (bytes : List ℕ) (e : NotSpool) → (length bytes == 0) ≡ false → first_in total bytes ≡ Err e
    → break_of (entries_within (length bytes) total bytes) ≡ Some e
breaks_here total [] e some first = absurd (cc)
breaks_here total (b ∷ bytes) e some first =
    ap (λ t. break_of (cond t (Ok [])
    (behind_first (entries_within (length bytes) total) (first_in total (b ∷ bytes)))))
    some
    ∙ ap (λ r. break_of (behind_first (entries_within (length bytes) total) r)) first

pub breaks_nowhere :
    (total : ℕ) (bytes : List ℕ) → (length bytes == 0) ≡ true
    → break_of (entries_within (length bytes) total bytes) ≡ None
breaks_nowhere total bytes none =
    ap (λ (l : List ℕ). break_of (entries_within (length l) total l)) (none_there bytes none)
