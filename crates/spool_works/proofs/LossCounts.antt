-- How often power may be lost in a work: once at each of its calls.
use Rattle.std.proofs.Common.{◌≡◌, ◌∙◌, refl, sym, ap, subst, inl, inr, arith, zero, suc, ◌+◌, ℕ, Bool, List, []}
use Rattle.std.proofs.Common.{◌∷◌, ◌++◌, length, length-append, map, Option, Some}
use Rattle.std.proofs.lemmas.List.{length-map}
use Rattle.std.proofs.lemmas.List.Sums.{sum_by-cons}
use Rattle.std.proofs.lemmas.Slice.Zip.{firsts-zip, length-zip}
use Rattle.std.specs.List.{sum_by, zip}
use Rattle.std.specs.Prelude.{slice_get}
use Rattle.disk_base.specs.Calls.{DiskCall}
use Rattle.gem_spool.specs.Updates.{Commit, Left, Update, behind_update, calls_in, closing_losses, commit_calls}
use Rattle.gem_spool.specs.Updates.{commit_losses, losses_in, stays}
use Rattle.gem_spool.specs.Updates.Commit.{ByGate, ByGates, Nothing}
use Rattle.gem_spool.specs.Standing.{Standing}
use Rattle.message_end.specs.Ends.{call_of}
use Rattle.message_end.specs.Own.{Has}
use Rattle.spool_file.specs.Logs.{written_by}
use Rattle.spool_slots.specs.Calls.{synced}
use Rattle.spool_works.specs.DiskCalls.{disk_calls}
use Rattle.spool_works.specs.DiskWorks.{DiskWork, bytes_of, calls_of, updates_at}
use Rattle.spool_works.specs.WorkLosses.{calls_at, lost_calls}

-- ---- lists

pub length-both : {X Y : Type 0} (f : X → Y) (one : List X) (two : List Y)
    → length (map f one ++ two) ≡ length one + length two
length-both f [] two = omega arith
length-both f (x ∷ one) two = let rest = length-both f one two in omega (arith, rest)

-- of each of them
abbrev pub AllOf : {X : Type 0} → (X → Type 0) → List X → Type 0
AllOf P [] = Unit {0}
AllOf P (x ∷ xs) = P x × AllOf P xs

-- of each of these calls
abbrev pub Each : (Left → Type 0) → List Left → Type 0
Each P [] = Unit {0}
Each P (left ∷ calls) = P left × Each P calls

-- ---- the calls of a work

pub closing-count : (st : Standing) (marks : ℕ → List Bool) (m : ℕ) (calls : List DiskCall)
    → length (closing_losses st marks m calls) ≡ length calls
closing-count st marks m [] = refl
closing-count st marks m (call ∷ calls) = ap suc (closing-count st marks (m + 1) calls)

commit-count : (st : Standing) (commit : Commit) → length (commit_losses st commit) ≡ length (commit_calls commit)
commit-count st Nothing = refl
commit-count st (ByGate gate) = refl
commit-count st (ByGates gates) = closing-count st gates.marks 0 (synced gates.calls)

updates-count : (updates : List Update) (st : Standing) → length (losses_in st updates) ≡ length (calls_in updates)
updates-count [] st = refl
updates-count (update ∷ updates) st =
    let stay = map (λ call. stays st) update.early in
    let early = length-both (λ call. stays st) update.early (commit_losses st update.commit) in
    let left = length-append (stay ++ commit_losses st update.commit) (losses_in (behind_update st update) updates) in
    let made = length-append update.early (commit_calls update.commit) in
    let all = length-append (update.early ++ commit_calls update.commit) (calls_in updates) in
    let gate = commit-count st update.commit in
    let rest = updates-count updates (behind_update st update) in
    omega (arith, early, left, made, all, gate, rest)

pub calls-count : (st : Standing) (one : DiskWork) → length (calls_at st one) ≡ calls_of st one
calls-count st one = updates-count (updates_at st one) st

-- so it is with the bytes that each call writes, which are those of the work
abbrev pub sizes : List DiskCall → List ℕ
sizes calls = map (λ (call : DiskCall). length call.bytes) calls

abbrev writes : Standing → DiskWork → List ℕ
writes st one = sizes (disk_calls st one)

same-count : (st : Standing) (one : DiskWork) → length (writes st one) ≡ length (calls_at st one)
same-count st one =
    let long = length-map (disk_calls st one) (λ (call : DiskCall). length call.bytes) in
    let calls = calls-count st one in
    omega (arith, long, calls)

zip-long : {X Y : Type 0} (ns : List X) (ys : List Y) → length ns ≡ length ys → length (zip ns ys) ≡ length ys
zip-long ns ys same = let long = length-zip ns ys in omega (arith, long, same)

zip-sum : (calls : List DiskCall) (lefts : List Left) → length calls ≡ length lefts
    → sum_by (λ (lost : ℕ × Left). lost.0) (zip (sizes calls) lefts)
    ≡ written_by calls
zip-sum [] lefts same = refl
zip-sum (call ∷ calls) [] same = absurd (omega (arith, same))
zip-sum (call ∷ calls) (left ∷ lefts) same =
    let rest = zip-sum calls lefts (omega (arith, same)) in
    sum_by-cons (λ (lost : ℕ × Left). lost.0) (length call.bytes, left)
    (zip (sizes calls) lefts)
    ∙ omega (arith, rest)

pub lost-sizes : (st : Standing) (one : DiskWork)
    → map (λ (lost : ℕ × Left). lost.0) (lost_calls st one) ≡ sizes (disk_calls st one)
lost-sizes st one = firsts-zip (writes st one) (calls_at st one) (sym (same-count st one))

pub lost-count : (st : Standing) (one : DiskWork) → length (lost_calls st one) ≡ calls_of st one
lost-count st one = zip-long (writes st one) (calls_at st one) (same-count st one) ∙ calls-count st one

pub lost-bytes : (st : Standing) (one : DiskWork)
    → sum_by (λ (lost : ℕ × Left). lost.0) (lost_calls st one) ≡ bytes_of st one
lost-bytes st one = zip-sum (disk_calls st one) (calls_at st one) (sym (calls-count st one))

-- and what holds of what is left at each call holds of it there
zip-each : (P : Left → Type 0) (ns : List ℕ) (lefts : List Left) → Each P lefts
    → AllOf (λ (lost : ℕ × Left). P lost.1) (zip ns lefts)
zip-each P [] lefts each = tt
zip-each P (n ∷ ns) [] each = tt
zip-each P (n ∷ ns) (left ∷ lefts) each = (each.0, zip-each P ns lefts each.1)

pub lost-each : (P : Left → Type 0) (st : Standing) (one : DiskWork) → Each P (calls_at st one)
    → AllOf (λ (lost : ℕ × Left). P lost.1) (lost_calls st one)
lost-each P st one each = zip-each P (writes st one) (calls_at st one) each

-- the one at a call has its bytes beside it
abbrev beside : {X Y : Type 0} → X → Y → Option (X × Y)
beside x y = Some (x, y)

zip-get : {X Y : Type 0} (ns : List X) (ys : List Y) (n : ℕ) (y : Y) → length ns ≡ length ys → slice_get ys n ≡ Some y
    → (x : X) × (slice_get (zip ns ys) n ≡ Some (x, y))
zip-get ns [] n y same is = absurd (cc)
zip-get [] (z ∷ ys) n y same is = absurd (omega (arith, same))
zip-get (x ∷ ns) (z ∷ ys) zero y same is = (x, ap (beside x) (let one : z ≡ y = cc in one))
zip-get (x ∷ ns) (z ∷ ys) (suc n) y same is = zip-get ns ys n y (omega (arith, same)) is

pub lost-call : (st : Standing) (one : DiskWork) (call : ℕ) (left : Left) → call_of call (calls_at st one) ≡ Some left
    → (n : ℕ) × (call_of call (lost_calls st one) ≡ Some (n, left))
lost-call st one zero left none = absurd (cc)
lost-call st one (suc before) left is = zip-get (writes st one) (calls_at st one) before left (same-count st one) is

-- the one beside a call, behind those beside the calls before it
pub record IsBeside (lost : List (ℕ × Left)) (first : List DiskCall) (call : DiskCall) : Type 0 where
  pub before : List (ℕ × Left)
  pub left : Left
  pub rest : List (ℕ × Left)
  pub are : lost ≡ before ++ (length call.bytes, left) ∷ rest
  pub sized : map (λ (one : ℕ × Left). one.0) before ≡ sizes first

zip-beside : (first rest : List DiskCall) (call : DiskCall) (lefts : List Left)
    → length (first ++ call ∷ rest) ≡ length lefts → IsBeside (zip (sizes (first ++ call ∷ rest)) lefts) first call
zip-beside [] rest call [] same = absurd (omega (arith, same))
zip-beside [] rest call (left ∷ lefts) same =
    record { before = []; left = left; rest = zip (sizes rest) lefts; are = refl; sized = refl }
zip-beside (one ∷ first) rest call [] same = absurd (omega (arith, same))
zip-beside (one ∷ first) rest call (left ∷ lefts) same =
    let is = zip-beside first rest call lefts (omega (arith, same)) in
    record {
      before = (length one.bytes, left) ∷ is.before;
      left = is.left;
      rest = is.rest;
      are = ap (λ (lost : List (ℕ × Left)). (length one.bytes, left) ∷ lost) is.are;
      sized = ap (λ (ns : List ℕ). length one.bytes ∷ ns) is.sized;
    }

pub beside-call : (st : Standing) (one : DiskWork) (first : List DiskCall) (call : DiskCall) (rest : List DiskCall)
    → disk_calls st one ≡ first ++ call ∷ rest → IsBeside (lost_calls st one) first call
beside-call st one first call rest are =
    subst (λ (calls : List DiskCall). IsBeside (zip (sizes calls) (calls_at st one)) first call) (sym are)
    (zip-beside first rest call (calls_at st one) (sym (ap length are) ∙ sym (calls-count st one)))

-- the one at a call is among them
get-has : {X : Type 0} (calls : List X) (n : ℕ) (x : X) → slice_get calls n ≡ Some x → Has calls x
get-has [] n x is = absurd (cc)
get-has (y ∷ calls) zero x is = inl (let same : x ≡ y = cc in same)
get-has (y ∷ calls) (suc n) x is = inr (get-has calls n x is)

pub has-call : {X : Type 0} (call : ℕ) (calls : List X) (x : X) → call_of call calls ≡ Some x → Has calls x
has-call zero calls x is = absurd (cc)
has-call (suc before) calls x is = get-has calls before x is
