-- What holds of the open transactions as one is added, taken out or with_deadline.
use Rattle.std.proofs.Common.{◌≡◌, refl, sym, ◌∙◌, ap, arith, ℕ, zero, suc, Bool, true, false, cond, ◌<◌, List, [], ◌∷◌, ◌++◌, length, get_or, set, Option, Some}
use Rattle.std.specs.List.{AllPairs, list_any, position, position_or_len, remove}
use Rattle.std.proofs.lemmas.List.Elements.{All-append, All-drop, All-push, All-set, All-take}
use Rattle.std.proofs.lemmas.List.Quantifiers.{all_pairs_push, all_pairs_remove}
use Rattle.std.proofs.lemmas.Bool.{eq-eqb}
use Rattle.std.proofs.lemmas.List.{length-append, length-set}
use Rattle.std.proofs.lemmas.List.Folds.{list_any_at}
use Rattle.std.proofs.lemmas.List.Edits.{length-remove}
use Rattle.block_codec.specs.declared.header.Header.{Header}
use Rattle.transact.specs.declared.begun.Begun.{Begun}
use Rattle.transact.specs.Matching.{AwaitsReply}
use Rattle.transact.specs.Transactions.{AreApart, IsOpen, IsTransactions, TransactionsView, has_system, system_of, with_deadline, with_found}
use Rattle.transact.proofs.Places.{found, position-some}

-- one is taken out
pub less-keeps :
    {K : Type 0} (t3 : ℕ) (begun rest : List (Begun K)) (place : ℕ) → IsTransactions (record { t3 = t3; begun = begun })
    → place < length begun → rest ≡ remove begun place → IsTransactions (record { t3 = t3; begun = rest })
less-keeps t3 begun rest place is within e = rw e (record {
  few = (let few = is.few in let l = length-remove begun place within in omega arith);
  primaries =
      All-append IsOpen _ _ (All-take IsOpen place begun is.primaries) (All-drop IsOpen (suc place) begun is.primaries);
  distinct = all_pairs_remove AreApart begun place within is.distinct;
})

-- where none has these system bytes, each is apart from the new one
pub apart :
    {K : Type 0} (begun : List (Begun K)) (one : Begun K) → list_any (has_system (system_of one)) begun ≡ false
    → (k : ℕ) (d : Begun K) → k < length begun → AreApart (get_or begun k d) one
apart begun one new k d within same =
    let found = list_any_at (has_system (system_of one)) begun k d within (eq-eqb _ _ same) in
    absurd (cc)

-- one is added whose system bytes are new, or memory runs out
pub more-keeps :
    {K : Type 0} (t3 : ℕ) (begun now : List (Begun K)) (one : Begun K) (ok : Bool)
    → IsTransactions (record { t3 = t3; begun = begun }) → AwaitsReply one.header
    → list_any (has_system (system_of one)) begun ≡ false → length begun < 64
    → now ≡ cond ok (begun ++ one ∷ []) begun → IsTransactions (record { t3 = t3; begun = now })
more-keeps t3 begun now one true is awaits new short e = rw e (record {
  few = simp length-append (omega arith);
  primaries = All-push IsOpen begun _ is.primaries awaits;
  distinct = all_pairs_push AreApart begun _ is.distinct (apart begun one new);
})
more-keeps t3 begun now one false is awaits new short e = rw e is

-- a write of one with the same system bytes changes none
same-system :
    {K : Type 0} (begun : List (Begun K)) (place k : ℕ) (one other d : Begun K)
    → system_of one ≡ system_of (get_or begun place other)
    → system_of (get_or (set begun place one) k d) ≡ system_of (get_or begun k d)
same-system [] place k one other d same = refl
same-system (x ∷ xs) zero zero one other d same = same
same-system (x ∷ xs) zero (suc k) one other d same = refl
same-system (x ∷ xs) (suc place) zero one other d same = refl
same-system (x ∷ xs) (suc place) (suc k) one other d same = same-system xs place k one other d same

pub apart-set :
    {K : Type 0} (begun : List (Begun K)) (place : ℕ) (one other : Begun K)
    → system_of one ≡ system_of (get_or begun place other)
    → AllPairs AreApart begun → AllPairs AreApart (set begun place one)
apart-set begun place one other same all i j d less within equal =
    all i j d less (rw (← length-set begun place one) within)
    (sym (same-system begun place i one other d same) ∙ equal ∙ same-system begun place j one other d same)

-- one is changed, and not its header
pub timed-keeps :
    {K : Type 0} (t3 : ℕ) (begun now : List (Begun K)) (place : ℕ) (one other : Begun K)
    → IsTransactions (record { t3 = t3; begun = begun })
    → place < length begun → one.header ≡ (get_or begun place other).header → now ≡ set begun place one
    → IsTransactions (record { t3 = t3; begun = now })
timed-keeps t3 begun now place one other is within at e = rw e (record {
  few = (let few = is.few in simp length-set (omega arith));
  primaries = All-set IsOpen begun place one (rw at (is.primaries place other within)) is.primaries;
  distinct = apart-set begun place one other (ap (λ (h : Header). h.system) at) is.distinct;
})

-- what is written at the place of the first that passes is as the definition says
pub timed-is :
    {K : Type 0} (test : Begun K → Bool) (t3 : ℕ) (begun : List (Begun K)) (now : TransactionsView K)
    (place : ℕ) (one : Begun K) (deadline : Option ℕ)
    → record { t3 = t3; begun = begun } ≡ now → one ≡ get_or begun place one
    → Some place ≡ position test now.begun
    → record { t3 = t3; begun = set begun place (record one { deadline = deadline }) }
    ≡ with_deadline test deadline now
timed-is {K} test t3 begun now place one deadline is at h =
    let placed = h ∙ ap (λ (v : TransactionsView K). position test v.begun) (sym is) in
    let place-is = position-some test begun place placed in
    let first = found test begun place one place-is ∙ ap (λ b. Some b) (sym at) in
    let written = ap (λ o. with_found o (position_or_len test begun) deadline begun) first
    ∙ ap (λ n. set begun n (record one { deadline = deadline })) (sym place-is.is) in
    ap (λ (bs : List (Begun K)). record { t3 = t3; begun = bs }) (sym written)
    ∙ ap (with_deadline test deadline) is
