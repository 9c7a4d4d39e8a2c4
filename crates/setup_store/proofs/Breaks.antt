-- Where a list breaks: what stands before can go on, with the byte there nothing can.
use Rattle.std.proofs.Common.{◌≡◌, refl, sym, ◌∙◌, ap, subst, Bool, true, false, cond, not, ◌&&◌, ◌||◌, ◌==◌, ℕ, zero, suc, ◌+◌, ◌-◌, ◌<◌, ◌≤◌, ◌^◌, List, [], ◌∷◌, ◌++◌, length, take, drop, get_or, replicate, nat_lt, slice_get, All, Option, Some, None, Result, Ok, Err, inl, inr, append_assoc, length-append, arith}
use Rattle.std.proofs.lemmas.Bool.{cases_lt, eqb-true, ltb-false, ltb-true}
use Rattle.std.proofs.lemmas.List.{append-nil, get_or-replicate, get_or_append_left, get_or-append-add, get_or_past, length-replicate, length-take-le, take-append-drop, take_all}
use Rattle.std.proofs.lemmas.List.Elements.{All-cons, All-head, All-nil, All-tail}
use Rattle.std.proofs.lemmas.Option.{slice_get_past}
use Rattle.std.proofs.lemmas.Nat.{be_bytes_4}
use Rattle.std.proofs.Math.Seq.{take-append-add}
use Rattle.std.specs.Int.{w32, from_be_bytes, to_be_bytes}
use Rattle.spool_file.specs.declared.reading.NotSpool.{NotSpool}
use Rattle.setup_store.specs.Entries.{Entry, IsEntry, bad_byte, behind_first, bytes_of, ends_at, entries_in, entries_within, entry_bytes, first_by, first_in, is_kept, is_kept_stream, with_first}
use Rattle.setup_store.specs.Laws.{AreBytes, BreaksAt, CanGoOn, CannotGoOn}
use Rattle.setup_store.proofs.ReadLists.{are_before, are_behind, are_rest, below, first_cut, first_is, first_spelled, kept_stream, takes}

-- ---- what can go on

nothing_yet : CanGoOn []
nothing_yet = record { entries = []; more = []; are = record { each = All-nil IsEntry; spelled = refl } }

-- one entry
one_entry : (entry : Entry) (front more : List ℕ) → IsEntry entry → entry_bytes entry ≡ front ++ more → CanGoOn front
one_entry entry front more is spelled = record {
  entries = entry ∷ [];
  more = more;
  are = record {
    each = All-cons IsEntry entry [] is (All-nil IsEntry);
    spelled = append-nil (entry_bytes entry) ∙ spelled;
  };
}

after_stream : (stream : ℕ) → is_kept_stream stream ≡ true → CanGoOn (stream ∷ [])
after_stream stream kept = go (stream == 2) refl
  where
    with_function : (function : ℕ) → is_kept stream function ≡ true → CanGoOn (stream ∷ [])
    with_function function is =
        one_entry (record { stream = stream; function = function; body = [] }) (stream ∷ [])
        (function ∷ 0 ∷ 0 ∷ 0 ∷ 0 ∷ []) (record { kept = is; short = omega arith }) refl

    go : (b : Bool) → (stream == 2) ≡ b → CanGoOn (stream ∷ [])
    go true two = with_function 15 (ap (λ b. (b && true) || (stream == 5 && false)) two)
    go false other =
        let five : (stream == 5) ≡ true = sym (ap (λ b. b || stream == 5) other) ∙ kept in
        with_function 3 (ap (λ b. (b && false) || (stream == 5 && true)) other ∙ ap (λ b. b && true) five)

are_joined : (xs ys : List ℕ) → AreBytes xs → AreBytes ys → AreBytes (xs ++ ys)
are_joined xs ys front rest i = elim (cases_lt i (length xs)) [
  | inl low ↦ subst (λ k. k < 256) (sym (get_or_append_left xs ys 0 i low)) (front i)
  | inr high ↦
      let n : i ≡ length xs + (i - length xs) = omega (arith, high) in
      subst (λ k. k < 256)
      (sym (ap (λ k. get_or (xs ++ ys) k 0) n ∙ get_or-append-add xs ys (i - length xs) 0)) (rest (i - length xs))
]

zeros : (n : ℕ) → AreBytes (replicate n 0)
zeros n i = elim (cases_lt i n) [
  | inl low ↦ subst (λ k. k < 256) (sym (get_or-replicate n i 0 0 low)) (omega arith)
  | inr high ↦
      subst (λ k. k < 256) (sym (get_or_past (replicate n 0) i 0 (omega (arith, length-replicate {A = ℕ} n 0, high))))
      (omega arith)
]

-- four bytes of a length, and some of the body
amid_body :
    (stream function : ℕ) (four rest : List ℕ) → is_kept stream function ≡ true → AreBytes four → length four ≡ 4
    → length rest ≤ from_be_bytes w32 four → CanGoOn (stream ∷ function ∷ four ++ rest)
amid_body stream function four rest kept are long few =
    let n = from_be_bytes w32 four in
    let more = replicate (n - length rest) 0 in
    let all : length (rest ++ more) ≡ n =
    omega (arith, length-append rest more, length-replicate {A = ℕ} (n - length rest) 0, few) in
    one_entry (record { stream = stream; function = function; body = rest ++ more })
    (stream ∷ function ∷ four ++ rest) more
    (record { kept = kept; short = subst (λ k. k < 2 ^ 32) (sym all) (below four are) })
    (ap (λ l. stream ∷ function ∷ l)
    (ap (λ k. to_be_bytes w32 k ++ (rest ++ more)) all
    ∙ ap (λ l. l ++ (rest ++ more)) (be_bytes_4 four n long are refl)
    ∙ sym (append_assoc four rest more)))

-- fewer than four bytes of a length
amid_length :
    (stream function : ℕ) (tail : List ℕ) → is_kept stream function ≡ true → AreBytes tail → length tail < 4
    → CanGoOn (stream ∷ function ∷ tail)
amid_length stream function tail kept are short =
    let more = replicate (4 - length tail) 0 in
    let long : length (tail ++ more) ≡ 4 =
    omega (arith, length-append tail more, length-replicate {A = ℕ} (4 - length tail) 0, short) in
    let whole =
    amid_body stream function (tail ++ more) [] kept (are_joined tail more are (zeros (4 - length tail))) long
    (omega arith) in
    record {
      entries = whole.entries;
      more = more ++ whole.more;
      are = record {
        each = whole.are.each;
        spelled =
            whole.are.spelled
            ∙ ap (λ l. stream ∷ function ∷ l)
            (ap (λ l. l ++ whole.more) (append-nil (tail ++ more)) ∙ append_assoc tail more whole.more);
      };
    }

-- ---- what cannot

wrong_stream : (stream : ℕ) → is_kept_stream stream ≡ false → CanGoOn (stream ∷ []) → ⊥
wrong_stream stream wrong on = go on.entries on.are.each on.are.spelled
  where
    go : (entries : List Entry) → All IsEntry entries → bytes_of entries ≡ stream ∷ on.more → ⊥
    go [] each spelled = cc
    go (e ∷ entries) each spelled =
        let same : e.stream ≡ stream = cc in
        let kept = kept_stream e.stream e.function (All-head IsEntry e entries each).kept in
        let here : true ≡ false = sym kept ∙ ap is_kept_stream same ∙ wrong in
        cc

wrong_function :
    (stream function : ℕ) → is_kept stream function ≡ false → CanGoOn (stream ∷ function ∷ []) → ⊥
wrong_function stream function wrong on = go on.entries on.are.each on.are.spelled
  where
    go : (entries : List Entry) → All IsEntry entries → bytes_of entries ≡ stream ∷ function ∷ on.more → ⊥
    go [] each spelled = cc
    go (e ∷ entries) each spelled =
        let first : e.stream ≡ stream = cc in
        let second : e.function ≡ function = cc in
        let here : true ≡ false =
        sym (All-head IsEntry e entries each).kept ∙ ap (λ s. is_kept s e.function) first
        ∙ ap (is_kept stream) second ∙ wrong in
        cc

-- ---- a break of the first entry

-- a break so many bytes behind the place, of which this many are left of the list
record IsBroken (total : ℕ) (bytes : List ℕ) (e : NotSpool) : Type 0 where
  k : ℕ
  place : e.at ≡ total - length bytes + k
  within : k ≤ length bytes
  breaks : BreaksAt bytes k e.got

at_end : (total : ℕ) (bytes : List ℕ) → length bytes ≤ total → CanGoOn bytes → IsBroken total bytes (ends_at total)
at_end total bytes within on = record {
  k = length bytes;
  place = omega (arith, within);
  within = omega arith;
  breaks = record {
    before = subst CanGoOn (sym (take_all (length bytes) bytes (omega arith))) on;
    there = sym (slice_get_past bytes (length bytes) (omega arith));
    behind = refl;
  };
}

at_stream :
    (total stream : ℕ) (rest : List ℕ) → is_kept_stream stream ≡ false
    → IsBroken total (stream ∷ rest) (bad_byte total (stream ∷ rest) 0)
at_stream total stream rest wrong = record {
  k = 0;
  place = refl;
  within = omega arith;
  breaks = record { before = nothing_yet; there = refl; behind = wrong_stream stream wrong };
}

first_broken :
    (total : ℕ) (bytes : List ℕ) (e : NotSpool) → length bytes ≤ total → AreBytes bytes
    → (length bytes == 0) ≡ false → first_in total bytes ≡ Err e → IsBroken total bytes e
first_broken total [] e within are some broken = absurd (cc)
first_broken total (stream ∷ []) e within are some broken = go (is_kept_stream stream) refl broken
  where
    go : (b : Bool) → is_kept_stream stream ≡ b
        → first_by (cond (not b) (Some (bad_byte total (stream ∷ []) 0)) (Some (ends_at total))) total (stream ∷ [])
        ≡ Err e → IsBroken total (stream ∷ []) e
    go true kept is =
        let same : ends_at total ≡ e = cc in
        subst (IsBroken total (stream ∷ [])) same (at_end total (stream ∷ []) within (after_stream stream kept))
    go false wrong is =
        let same : bad_byte total (stream ∷ []) 0 ≡ e = cc in
        subst (IsBroken total (stream ∷ [])) same (at_stream total stream [] wrong)
first_broken total (stream ∷ function ∷ tail) e within are some broken =
    go (length bytes == 0) some (is_kept_stream stream) refl (length bytes == 1) refl (is_kept stream function) refl
    (nat_lt (length bytes) 6) refl broken
  where
    bytes : List ℕ
    bytes = stream ∷ function ∷ tail

    are_tail : AreBytes tail
    are_tail = are_behind 2 bytes are

    ends : CanGoOn bytes → ends_at total ≡ e → IsBroken total bytes e
    ends on same = subst (IsBroken total bytes) same (at_end total bytes within on)

    entry : Entry
    entry = record {
      stream = stream;
      function = function;
      body = take (from_be_bytes w32 (take 4 tail)) (drop 4 tail);
    }

    body :
        is_kept stream function ≡ true → 4 ≤ length tail → (b : Bool)
        → nat_lt (length (drop 4 tail)) (from_be_bytes w32 (take 4 tail)) ≡ b
        → cond {A = Result (Entry × List ℕ) NotSpool} b (Err (ends_at total))
        (Ok (entry, drop (from_be_bytes w32 (take 4 tail)) (drop 4 tail))) ≡ Err e
        → IsBroken total bytes e
    body kept long false enough is = absurd (cc)
    body kept long true short is =
        let few = ltb-true (length (drop 4 tail)) (from_be_bytes w32 (take 4 tail)) short in
        ends
        (subst (λ (l : List ℕ). CanGoOn (stream ∷ function ∷ l)) (take-append-drop 4 tail)
        (amid_body stream function (take 4 tail) (drop 4 tail) kept (are_before 4 tail are_tail long)
        (length-take-le 4 tail long) (omega (arith, few)))) (cc)

    go : (a : Bool) → a ≡ false → (b : Bool) → is_kept_stream stream ≡ b → (c : Bool) → (length bytes == 1) ≡ c
        → (d : Bool) → is_kept stream function ≡ d → (f : Bool) → nat_lt (length bytes) 6 ≡ f
        → first_by
        (cond a (Some (ends_at total))
        (cond (not b) (Some (bad_byte total bytes 0))
        (cond c (Some (ends_at total))
        (cond (not d) (Some (bad_byte total bytes 1))
        (cond f (Some (ends_at total)) None))))) total bytes ≡ Err e
        → IsBroken total bytes e
    go true none b stands c one d kept f six is = absurd (cc)
    go false none false wrong c one d kept f six is =
        let same : bad_byte total bytes 0 ≡ e = cc in
        subst (IsBroken total bytes) same (at_stream total stream (function ∷ tail) wrong)
    go false none true stands true one d kept f six is =
        absurd (let long = eqb-true (length bytes) 1 one in omega (arith, long))
    go false none true stands false two false wrong f six is =
        let same : bad_byte total bytes 1 ≡ e = cc in
        subst (IsBroken total bytes) same (record {
          k = 1;
          place = refl;
          within = omega arith;
          breaks = record {
            before = after_stream stream stands;
            there = refl;
            behind = wrong_function stream function wrong;
          };
        })
    go false none true stands false two true kept true six is =
        let few = ltb-true (length bytes) 6 six in
        ends (amid_length stream function tail kept are_tail (omega (arith, few))) (cc)
    go false none true stands false two true kept false six is =
        body kept (let long = ltb-false (length bytes) 6 six in omega (arith, long))
        (nat_lt (length (drop 4 tail)) (from_be_bytes w32 (take 4 tail))) refl is

-- ---- behind entries

get_behind :
    (xs ys : List ℕ) (k n : ℕ) → n ≡ length xs + k → slice_get (xs ++ ys) n ≡ slice_get ys k
get_behind [] ys k n is = ap (slice_get ys) (omega (arith, is))
get_behind (x ∷ xs) ys k zero is = absurd (omega (arith, is))
get_behind (x ∷ xs) ys k (suc n) is = get_behind xs ys k n (omega (arith, is))

-- what goes on behind an entry
goes_behind :
    (entry : Entry) (front : List ℕ) → IsEntry entry → CanGoOn front → CanGoOn (entry_bytes entry ++ front)
goes_behind entry front is on = record {
  entries = entry ∷ on.entries;
  more = on.more;
  are = record {
    each = All-cons IsEntry entry on.entries is on.are.each;
    spelled =
        ap (λ l. entry_bytes entry ++ l) on.are.spelled ∙ sym (append_assoc (entry_bytes entry) front on.more);
  };
}

-- and what goes on with an entry in front goes on behind it
goes_without :
    (entry : Entry) (front : List ℕ) → IsEntry entry → CanGoOn (entry_bytes entry ++ front) → CanGoOn front
goes_without entry front is on =
    go on.entries on.are.each (on.are.spelled ∙ append_assoc (entry_bytes entry) front on.more)
  where
    rest : List ℕ
    rest = front ++ on.more

    go : (entries : List Entry) → All IsEntry entries → bytes_of entries ≡ entry_bytes entry ++ rest → CanGoOn front
    go [] each spelled = absurd (cc)
    go (e ∷ entries) each spelled =
        let read : ◌≡◌ {A = Result (Entry × List ℕ) NotSpool} (Ok (e, bytes_of entries)) (Ok (entry, rest)) =
        sym (first_spelled 0 e (bytes_of entries) (All-head IsEntry e entries each)) ∙ ap (first_in 0) spelled
        ∙ first_spelled 0 entry rest is in
        let same : ◌≡◌ {A = Entry × List ℕ} (e, bytes_of entries) (entry, rest) = cc in
        record {
          entries = entries;
          more = on.more;
          are = record {
            each = All-tail IsEntry e entries each;
            spelled = ap (λ (x : Entry × List ℕ). x.1) same;
          };
        }

breaks_on :
    (entry : Entry) (rest : List ℕ) (k : ℕ) (got : Option ℕ) → IsEntry entry → BreaksAt rest k got
    → BreaksAt (entry_bytes entry ++ rest) (length (entry_bytes entry) + k) got
breaks_on entry rest k got is breaks = record {
  before = subst CanGoOn (sym taken) (goes_behind entry (take k rest) is breaks.before);
  there = breaks.there ∙ sym (get_behind front rest k (length front + k) refl);
  behind = go got breaks.behind;
}
  where
    front : List ℕ
    front = entry_bytes entry

    taken : take (length front + k) (front ++ rest) ≡ front ++ take k rest
    taken = take-append-add front rest k

    go : (o : Option ℕ) → CannotGoOn rest k o → CannotGoOn (front ++ rest) (length front + k) o
    go None all = omega (arith, all, length-append front rest)
    go (Some byte) none = λ on.
        none (goes_without entry (take k rest ++ byte ∷ []) is
        (subst CanGoOn (ap (λ (l : List ℕ). l ++ byte ∷ []) taken ∙ append_assoc front (take k rest) (byte ∷ [])) on))

broken_within :
    (n total : ℕ) (bytes : List ℕ) (e : NotSpool) → length bytes ≤ n → length bytes ≤ total → AreBytes bytes
    → entries_within n total bytes ≡ Err e → IsBroken total bytes e
broken_within zero total bytes e few within are broken = absurd (cc)
broken_within (suc n) total bytes e few within are broken =
    go (λ rest f. broken_within n total rest f) (length bytes == 0) refl (first_in total bytes) refl broken
  where
    Next : Type 0
    Next =
        (rest : List ℕ) (f : NotSpool) → length rest ≤ n → length rest ≤ total → AreBytes rest
        → entries_within n total rest ≡ Err f → IsBroken total rest f

    behind :
        Next → (x : Entry × List ℕ) → first_in total bytes ≡ Ok x → (r : Result (List Entry) NotSpool)
        → entries_within n total x.1 ≡ r → with_first x.0 r ≡ Err e → IsBroken total bytes e
    behind next x first (Ok entries) rest is = absurd (cc)
    behind next x first (Err f) rest is =
        let same : f ≡ e = cc in
        let cut_so = first_cut total bytes x first in
        let one = first_is total bytes x are cut_so in
        let shorter = takes total bytes x cut_so in
        let left =
        next x.1 f (omega (arith, shorter, few)) (omega (arith, shorter, within))
        (are_rest (entry_bytes x.0) x.1 (subst AreBytes (sym one.spelled) are)) rest in
        let all : length (entry_bytes x.0) + length x.1 ≡ length bytes =
        sym (length-append (entry_bytes x.0) x.1) ∙ ap (λ (l : List ℕ). length l) one.spelled in
        subst (IsBroken total bytes) same (record {
          k = length (entry_bytes x.0) + left.k;
          place = omega (arith, left.place, left.within, all, within);
          within = omega (arith, left.within, all);
          breaks =
              subst (λ (l : List ℕ). BreaksAt l (length (entry_bytes x.0) + left.k) f.got) one.spelled
              (breaks_on x.0 x.1 left.k f.got one.is left.breaks);
        })

    go : Next → (b : Bool) → (length bytes == 0) ≡ b → (r : Result (Entry × List ℕ) NotSpool)
        → first_in total bytes ≡ r
        → cond b (Ok []) (behind_first (entries_within n total) r) ≡ Err e → IsBroken total bytes e
    go next true none r first is = absurd (cc)
    go next false some (Ok x) first is = behind next x first (entries_within n total x.1) refl is
    go next false some (Err f) first is =
        let same : f ≡ e = cc in
        first_broken total bytes e within are some (first ∙ ap (λ (g : NotSpool). Err g) same)

pub broken_there :
    (bytes : List ℕ) (e : NotSpool) → AreBytes bytes → entries_in bytes ≡ Err e → BreaksAt bytes e.at e.got
broken_there bytes e are broken =
    let is = broken_within (length bytes) (length bytes) bytes e (omega arith) (omega arith) are broken in
    let at : is.k ≡ e.at = let place = is.place in omega (arith, place) in
    subst (λ k. BreaksAt bytes k e.got) at is.breaks
