-- The log of a disk in memory: its calls, and the bytes that they leave.
use Rattle.std.proofs.Common.{◌≡◌, ℕ, zero, suc, ◌+◌, ◌≤◌, List, [], ◌∷◌, ◌++◌, length, take, drop, fold, refl, sym, ap, subst, ◌∙◌, arith, length-append}
use Rattle.std.proofs.lemmas.List.{take_all, drop_all, take-append-le, drop-append-le, length-drop, length-take-le}
use Rattle.std.proofs.lemmas.List.Sums.{sum_by-cons}
use Rattle.disk_base.specs.Calls.{DiskCall, written_of}
use Rattle.disk_base.specs.Log.{AreLogged, AreSized, AreWithin, call_of, calls_of, loose_after, loose_behind, loose_under}
use Rattle.disk_base.specs.declared.log.LoggedCall.{LoggedCall}

pub within_of_logged : (size : ℕ) (entries : List LoggedCall) (written : List ℕ) → AreLogged size entries written → AreWithin size entries written
within_of_logged size [] written are = tt
within_of_logged size (entry ∷ entries) written are = (are.0, are.1, within_of_logged size entries _ are.2)

pub sized_of_within : (size : ℕ) (entries : List LoggedCall) (written : List ℕ) → AreWithin size entries written → AreSized size entries
sized_of_within size [] written are = tt
sized_of_within size (entry ∷ entries) written are = (are.1, sized_of_within size entries _ are.2)

-- the first ones of a log
pub within_take : (n size : ℕ) (entries : List LoggedCall) (written : List ℕ) → AreWithin size entries written → AreWithin size (take n entries) written
within_take zero size entries written are = tt
within_take (suc n) size [] written are = tt
within_take (suc n) size (entry ∷ entries) written are = (are.0, are.1, within_take n size entries _ are.2)

pub sized_take : (n size : ℕ) (entries : List LoggedCall) → AreSized size entries → AreSized size (take n entries)
sized_take zero size entries are = tt
sized_take (suc n) size [] are = tt
sized_take (suc n) size (entry ∷ entries) are = (are.0, sized_take n size entries are.1)

pub sized_drop : (n size : ℕ) (entries : List LoggedCall) → AreSized size entries → AreSized size (drop n entries)
sized_drop zero size entries are = are
sized_drop (suc n) size [] are = tt
sized_drop (suc n) size (entry ∷ entries) are = sized_drop n size entries are.1

pub calls_take : (n : ℕ) (entries : List LoggedCall) (written : List ℕ) → calls_of (take n entries) written ≡ take n (calls_of entries written)
calls_take zero entries written = refl
calls_take (suc n) [] written = refl
calls_take (suc n) (entry ∷ entries) written = ap (λ calls. call_of entry (take entry.count written) ∷ calls) (calls_take n entries _)

pub length-calls : (entries : List LoggedCall) (written : List ℕ) → length (calls_of entries written) ≡ length entries
length-calls [] written = refl
length-calls (entry ∷ entries) written = ap suc (length-calls entries _)

-- the calls of a log write all of its bytes
pub written_is : (size : ℕ) (entries : List LoggedCall) (written : List ℕ) → AreLogged size entries written →
    written_of (calls_of entries written) ≡ length written
written_is size [] written are = sym (ap length are)
written_is size (entry ∷ entries) written are =
    let front : length (take entry.count written) ≡ entry.count = length-take-le entry.count written are.0 in
    let rest = written_is size entries (drop entry.count written) are.2 in
    let behind = length-drop entry.count written in
    sum_by-cons (λ (call : DiskCall). length call.bytes) (call_of entry (take entry.count written)) (calls_of entries (drop entry.count written))
    ∙ omega (arith, front, rest, behind, are.0)

-- the ranges of the calls are those of the log
pub loose_same : (n m size : ℕ) (loose : List (ℕ × ℕ)) (entries : List LoggedCall) (written : List ℕ) → AreWithin size entries written →
    fold loose_after loose (drop n (take m (calls_of entries written))) ≡ fold loose_behind loose (drop n (take m entries))
loose_same zero zero size loose entries written are = refl
loose_same (suc n) zero size loose entries written are = refl
loose_same zero (suc m) size loose [] written are = refl
loose_same (suc n) (suc m) size loose [] written are = refl
loose_same (suc n) (suc m) size loose (entry ∷ entries) written are = loose_same n m size loose entries _ are.2
loose_same zero (suc m) size loose (entry ∷ entries) written are =
    let long : length (take entry.count written) ≡ entry.count = length-take-le entry.count written are.0 in
    ap (λ (count : ℕ). fold loose_after (loose_under entry.kind entry.at count loose) (take m (calls_of entries (drop entry.count written)))) long
    ∙ loose_same zero m size (loose_behind loose entry) entries _ are.2

-- one call more in the log
pub record IsPushed (size : ℕ) (entries : List LoggedCall) (written : List ℕ) (entry : LoggedCall) (bytes : List ℕ) : Type 0 where
  pub logged : AreLogged size (entries ++ entry ∷ []) (written ++ bytes)
  pub calls : calls_of (entries ++ entry ∷ []) (written ++ bytes) ≡ calls_of entries written ++ call_of entry bytes ∷ []

pub pushed : (size : ℕ) (entries : List LoggedCall) (written : List ℕ) (entry : LoggedCall) (bytes : List ℕ) → AreLogged size entries written →
    entry.count ≡ length bytes → entry.at + entry.count ≤ size → IsPushed size entries written entry bytes
pushed size [] written entry bytes are count within =
    let whole : written ++ bytes ≡ bytes = ap (λ (w : List ℕ). w ++ bytes) are in
    let front : take entry.count bytes ≡ bytes = take_all entry.count bytes (omega (arith, count)) in
    let back : drop entry.count bytes ≡ [] = drop_all entry.count bytes (omega (arith, count)) in
    record {
      logged = subst (λ w. AreLogged size (entry ∷ []) w) (sym whole) (omega (arith, count), within, back);
      calls = ap (λ w. calls_of (entry ∷ []) w) whole ∙ ap (λ (b : List ℕ). call_of entry b ∷ []) front;
    }
pushed size (first ∷ entries) written entry bytes are count within =
    let rest : IsPushed size entries (drop first.count written) entry bytes = pushed size entries (drop first.count written) entry bytes are.2 count within in
    let behind : drop first.count (written ++ bytes) ≡ drop first.count written ++ bytes = drop-append-le first.count written bytes are.0 in
    let front : take first.count (written ++ bytes) ≡ take first.count written = take-append-le first.count written bytes are.0 in
    record {
      logged = (
        omega (arith, are.0, length-append written bytes),
        are.1,
        subst (λ w. AreLogged size (entries ++ entry ∷ []) w) (sym behind) rest.logged,
      );
      calls = ap (λ w. call_of first (take first.count (written ++ bytes)) ∷ calls_of (entries ++ entry ∷ []) w) behind
          ∙ ap (λ (b : List ℕ). call_of first b ∷ calls_of (entries ++ entry ∷ []) (drop first.count written ++ bytes)) front
          ∙ ap (λ calls. call_of first (take first.count written) ∷ calls) rest.calls;
    }
