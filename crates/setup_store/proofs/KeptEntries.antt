-- What a loop over a list leaves, and which identifiers are among others.
use Rattle.std.proofs.Common.{◌≡◌, refl, sym, ◌∙◌, ap, subst, Bool, true, false, cond, not, ◌&&◌, ◌||◌, ◌==◌, ℕ, ◌+◌, ◌<◌, List, [], ◌∷◌, ◌++◌, length, take, filter, get_or, nat_eq, Option, Some, None, All, Result, Ok, Err, append_assoc, arith}
use Rattle.std.proofs.lemmas.Bool.{eqb-true, false_from_ne_true}
use Rattle.std.proofs.lemmas.Cmp.{nat_eq_equiv}
use Rattle.std.proofs.lemmas.Grind.{flat_map-append}
use Rattle.std.proofs.lemmas.List.{append-nil}
use Rattle.std.proofs.lemmas.List.Folds.{list_any_more}
use Rattle.std.proofs.lemmas.List.Elements.{All-append, All-cons, All-filter, All-head, All-nil, All-tail}
use Rattle.std.specs.List.{list_all, list_any}
use Rattle.std.specs.Prelude.{IfOk, IsErr}
use Rattle.spool_file.specs.declared.reading.NotSpool.{NotSpool}
use Rattle.setup_store.specs.Entries.{AreBytesOf, Entry, IsEntry, bytes_of, entry_bytes, first_in}
use Rattle.setup_store.specs.declared.change.Change.{Change}
use Rattle.setup_store.specs.Kept.{HasSame, are_among, change_by, covers, kept, kept_by, takes_out, tells}
use Rattle.setup_store.proofs.ReadLists.{first_spelled}

-- ---- a loop over a list

-- what is left out of the entries is written, but for those that still stand in the rest
pub record IsAmid (stays : Entry → Bool) (entries : List Entry) (out rest : List ℕ) : Type 0 where
  pub left : List Entry
  pub are : AreBytesOf left rest
  pub so_far : out ++ bytes_of (filter stays left) ≡ bytes_of (filter stays entries)

pub begins :
    (stays : Entry → Bool) (entries : List Entry) (list : List ℕ) → AreBytesOf entries list
    → IsAmid stays entries [] list
begins stays entries list are = record { left = entries; are = are; so_far = refl }

first_left :
    (total : ℕ) (left : List Entry) (rest : List ℕ) (x : Entry × List ℕ) → AreBytesOf left rest
    → first_in total rest ≡ Ok x → (others : List Entry) × (left ≡ x.0 ∷ others) × AreBytesOf others x.1
first_left total [] rest x are first =
    let none : first_in total [] ≡ Ok x = ap (first_in total) are.spelled ∙ first in
    absurd (cc)
first_left total (e ∷ others) rest x are first =
    let is = All-head IsEntry e others are.each in
    let read : ◌≡◌ {A = Result (Entry × List ℕ) NotSpool} (Ok (e, bytes_of others)) (Ok x) =
    sym (first_spelled total e (bytes_of others) is) ∙ ap (first_in total) are.spelled ∙ first in
    let same : ◌≡◌ {A = Entry × List ℕ} (e, bytes_of others) x = cc in (
      others,
      ap (λ (y : Entry × List ℕ). y.0 ∷ others) same,
      record {
        each = All-tail IsEntry e others are.each;
        spelled = ap (λ (y : Entry × List ℕ). y.1) same;
      },
    )

module _ (stays : Entry → Bool) (entries : List Entry) (out rest : List ℕ) (total : ℕ) (x : Entry × List ℕ)
    (amid : IsAmid stays entries out rest) (first : first_in total rest ≡ Ok x) where
  -- the first of what is left stays, or doesn't
  pub stays_on : stays x.0 ≡ true → IsAmid stays entries (out ++ entry_bytes x.0) x.1
  stays_on on =
      let found = first_left total amid.left rest x amid.are first in
      record {
        left = found.0;
        are = found.2;
        so_far =
            append_assoc out (entry_bytes x.0) (bytes_of (filter stays found.0))
            ∙ ap (λ b. out ++ bytes_of (cond b (x.0 ∷ filter stays found.0) (filter stays found.0))) (sym on)
            ∙ ap (λ (l : List Entry). out ++ bytes_of (filter stays l)) (sym found.1) ∙ amid.so_far;
      }

  pub goes_out : stays x.0 ≡ false → IsAmid stays entries out x.1
  goes_out off =
      let found = first_left total amid.left rest x amid.are first in
      record {
        left = found.0;
        are = found.2;
        so_far =
            ap (λ b. out ++ bytes_of (cond b (x.0 ∷ filter stays found.0) (filter stays found.0))) (sym off)
            ∙ ap (λ (l : List Entry). out ++ bytes_of (filter stays l)) (sym found.1) ∙ amid.so_far;
      }

-- where no entry stands in front, none is left
pub ends :
    (stays : Entry → Bool) (entries : List Entry) (out rest : List ℕ) (total : ℕ) → IsAmid stays entries out rest
    → IsErr (first_in total rest) → out ≡ bytes_of (filter stays entries)
ends stays entries out rest total amid none = go amid.left amid.are amid.so_far
  where
    go : (left : List Entry) → AreBytesOf left rest
        → out ++ bytes_of (filter stays left) ≡ bytes_of (filter stays entries)
        → out ≡ bytes_of (filter stays entries)
    go [] are so_far = sym (append-nil out) ∙ so_far
    go (e ∷ others) are so_far =
        absurd (let no =
        subst (λ (r : Result (Entry × List ℕ) NotSpool). IsErr r)
        (ap (first_in total) (sym are.spelled)
        ∙ first_spelled total e (bytes_of others) (All-head IsEntry e others are.each)) none in cc)

-- ---- numbers

or_true : (b : Bool) → (b || true) ≡ true
or_true true = refl
or_true false = refl

or_false : (b : Bool) → (b || false) ≡ b
or_false true = refl
or_false false = refl

-- one number more is put in
pub one_more :
    (old new all : List ℕ) (i k : ℕ) → i < length all → get_or all i k ≡ k
    → ((n : ℕ) → list_any (nat_eq n) new ≡ cond (nat_eq k n) true (list_any (nat_eq n) old))
    → HasSame old (take i all) → HasSame new (take (i + 1) all)
one_more old new all i k low here put same n =
    put n ∙ ap (cond (nat_eq k n) true) (same n) ∙ go (nat_eq k n) (nat_eq_equiv.symm n k)
    ∙ ap (λ m. list_any (nat_eq n) (take i all) || nat_eq n m) (sym here)
    ∙ sym (list_any_more (nat_eq n) all i k low)
  where
    go : (b : Bool) → nat_eq n k ≡ b
        → cond b true (list_any (nat_eq n) (take i all)) ≡ (list_any (nat_eq n) (take i all) || nat_eq n k)
    go true same = sym (ap (λ b. list_any (nat_eq n) (take i all) || b) same ∙ or_true _)
    go false same = sym (ap (λ b. list_any (nat_eq n) (take i all) || b) same ∙ or_false _)

pub among_same :
    (ids all others : List ℕ) → HasSame ids all → are_among ids others ≡ are_among all others
among_same ids all others same =
    ap (λ test. not (length others == 0) && list_all test others) (λ j id. same id j)

-- the same numbers, so none or some
pub none_same : (ids all : List ℕ) → HasSame ids all → (length ids == 0) ≡ (length all == 0)
none_same [] [] same = refl
none_same [] (n ∷ all) same =
    let none : false ≡ (nat_eq n n || list_any (nat_eq n) all) = same n in
    absurd (let one : nat_eq n n ≡ true = nat_eq_equiv.refl n in cc)
none_same (n ∷ ids) [] same =
    let none : (nat_eq n n || list_any (nat_eq n) ids) ≡ false = same n in
    absurd (let one : nat_eq n n ≡ true = nat_eq_equiv.refl n in cc)
none_same (n ∷ ids) (m ∷ all) same =
    false_from_ne_true (length (n ∷ ids) == 0) (λ e. omega (arith, eqb-true (length (n ∷ ids)) 0 e))
    ∙ sym (false_from_ne_true (length (m ∷ all) == 0) (λ e. omega (arith, eqb-true (length (m ∷ all)) 0 e)))

-- none stand for all, in the set as in the list
pub all_covered :
    (ids all others : List ℕ) → HasSame ids all → (length ids == 0) ≡ true
    → true ≡ ((length all == 0) || are_among all others)
all_covered ids all others same none =
    sym (ap (λ b. b || are_among all others) (sym (none_same ids all same) ∙ none))

pub some_covered :
    {E : Type 0} (r : Result Bool E) (ids all others : List ℕ) → HasSame ids all → (length ids == 0) ≡ false
    → IfOk r (λ b. b ≡ are_among all others) → IfOk r (λ b. b ≡ ((length all == 0) || are_among all others))
some_covered (Err e) ids all others same some is = tt
some_covered (Ok b) ids all others same some is =
    is ∙ sym (ap (λ t. t || are_among all others) (sym (none_same ids all same) ∙ some))

-- an entry of the change's function is taken out where it is covered
pub taken :
    {E : Type 0} (r : Result Bool E) (change : Change) (old : Entry) (ids : List ℕ) (of : Bool)
    → takes_out change old ≡ (of && covers ids old) → of ≡ true → IfOk r (λ b. b ≡ covers ids old)
    → IfOk r (λ b. b ≡ takes_out change old)
taken (Err e) change old ids of is same covered = tt
taken (Ok b) change old ids of is same covered =
    covered ∙ sym (ap (λ t. t && covers ids old) same) ∙ sym is

-- ---- the new one

pub told_last :
    (left next : List ℕ) (entries : List Entry) (p : Entry) (tells : Bool) → left ≡ bytes_of entries
    → next ≡ left ++ entry_bytes p → tells ≡ true → next ≡ bytes_of (entries ++ cond tells (p ∷ []) [])
told_last left next entries p tells is put on =
    put ∙ ap (λ l. l ++ entry_bytes p) is ∙ ap (λ l. bytes_of entries ++ l) (sym (append-nil (entry_bytes p)))
    ∙ sym (flat_map-append entry_bytes entries (p ∷ []))
    ∙ ap (λ b. bytes_of (entries ++ cond b (p ∷ []) [])) (sym on)

pub untold :
    (left : List ℕ) (entries : List Entry) (p : Entry) (tells : Bool) → left ≡ bytes_of entries → tells ≡ false
    → left ≡ bytes_of (entries ++ cond tells (p ∷ []) [])
untold left entries p tells is off =
    is ∙ ap (λ (l : List Entry). bytes_of l) (sym (append-nil entries))
    ∙ ap (λ b. bytes_of (entries ++ cond b (p ∷ []) [])) (sym off)

-- ---- what is kept are entries

pub stay_entries :
    (entries : List Entry) (primary : Entry) → All IsEntry entries → IsEntry primary
    → All IsEntry (kept entries primary)
stay_entries entries primary all is = go (change_by primary)
  where
    last : (b : Bool) → All IsEntry (cond b (primary ∷ []) [])
    last true = All-cons IsEntry primary [] is (All-nil IsEntry)
    last false = All-nil IsEntry

    go : (o : Option Change) → All IsEntry (kept_by o entries primary)
    go None = all
    go (Some change) =
        All-append IsEntry (filter (λ old. not (takes_out change old)) entries) (cond (tells change) (primary ∷ []) [])
        (All-filter (λ old. not (takes_out change old)) IsEntry entries all) (last (tells change))
