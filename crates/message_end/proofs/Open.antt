-- Open transactions, as one begins, ends, or has its deadline changed.
use Rattle.std.proofs.Common.{◌≡◌, ◌⊎◌, inl, inr, refl, sym, ap, ◌∙◌, subst, arith, Bool, true, false, zero, suc, ℕ, ◌<◌, List, [], ◌∷◌, length, get_or, set, Some, None, Option, nat_le, if◌then◌else◌}
use Rattle.std.specs.Prelude.{is_some}
use Rattle.std.specs.List.{AllPairs, find, list_any, position_or_len, remove}
use Rattle.std.proofs.lemmas.List.Quantifiers.{all_pairs_push, all_pairs_remove}
use Rattle.std.proofs.lemmas.Bool.{ne_eqb}
use Rattle.std.proofs.lemmas.Bool.Decides.{nat_tests}
use Rattle.std.proofs.lemmas.Option.{same_Some}
use Rattle.block_codec.specs.declared.header.Header.{Header}
use Rattle.message_flow.specs.declared.message.Message.{Message}
use Rattle.message_flow.specs.Blocks.{block_count, header_of}
use Rattle.message_flow.specs.Message.{is_primary}
use Rattle.transact.specs.declared.begun.Begun.{Begun}
use Rattle.transact.specs.declared.transactions.Beginning.TheVariants.{Full, Same}
use Rattle.transact.specs.History.{begun_with}
use Rattle.transact.specs.Transactions.{AreApart, TransactionsView, has_system, new_begun, refusal_of, system_of, with_deadline, with_found, without_first}
use Rattle.transact.proofs.Firsts.{find-within, removed, with-none}
use Rattle.transact.proofs.Kept.{apart, apart-set}
use Rattle.transact.proofs.Places.{found}
use Rattle.message_end.specs.Core.{acknowledges, starts_t3, with_begun}
use Rattle.message_end.specs.History.{AreTransactionsOf, IsTransactionOf}
use Rattle.message_end.specs.Laws.{HasNoPrimary}
use Rattle.message_end.specs.Own.{Has}
use Rattle.message_end.specs.Plan.{EndPlan}
use Rattle.message_end.proofs.Members.{found-in}
use Rattle.message_end.proofs.Lists.{has-cut, has-snoc}

-- one is written over another
has-set : {X : Type 0} (xs : List X) (place : ℕ) (y x : X) → Has (set xs place y) x → Has xs x ⊎ (x ≡ y)
has-set [] place y x has = inl has
has-set (z ∷ xs) zero y x (inl same) = inr same
has-set (z ∷ xs) zero y x (inr has) = inl (inr has)
has-set (z ∷ xs) (suc place) y x (inl same) = inl (inl same)
has-set {X} (z ∷ xs) (suc place) y x (inr rest) = go (has-set xs place y x rest)
  where
    go : Has xs x ⊎ (x ≡ y) → Has (z ∷ xs) x ⊎ (x ≡ y)
    go (inl has) = inl (inr has)
    go (inr same) = inr same

module _ {K : Type 0} (plan : EndPlan) (sents : List Message) where
  -- a message is sent
  pub open-sent :
      (message : Message) (t : TransactionsView K) → AreTransactionsOf plan sents t
      → AreTransactionsOf plan (message ∷ sents) t
  open-sent message t is = record {
    t3 = is.t3;
    each = λ begun has.
        let old = is.each begun has in
        record {
          message = old.message;
          sent = inr old.sent;
          primary = old.primary;
          wait = old.wait;
          header = old.header;
        };
    apart = is.apart;
  }

  -- one ends
  pub open-less :
      (test : Begun K → Bool) (t : TransactionsView K) → AreTransactionsOf plan sents t → AreTransactionsOf plan sents
      (without_first test t)
  open-less test t is = record {
    t3 = is.t3;
    each = λ begun has. is.each begun (has-cut place (suc place) t.begun begun (omega arith) has);
    apart = go (find test t.begun) refl;
  }
    where
      place : ℕ
      place = position_or_len test t.begun

      go : (one : Option (Begun K)) → find test t.begun ≡ one → AllPairs AreApart (remove t.begun place)
      go None none =
          subst (λ (begun : List (Begun K)). AllPairs AreApart begun)
          (sym (removed test t.begun ∙ with-none test None t.begun none)) is.apart
      go (Some one) e = all_pairs_remove AreApart t.begun place (find-within test t.begun one e) is.apart

  -- T3 starts or stops
  pub open-timed :
      (test : Begun K → Bool) (deadline : Option ℕ) (t : TransactionsView K) → AreTransactionsOf plan sents t
      → AreTransactionsOf plan sents (with_deadline test deadline t)
  open-timed test deadline t is = go (find test t.begun) refl
    where
      place : ℕ
      place = position_or_len test t.begun

      go : (one : Option (Begun K)) → find test t.begun ≡ one
          → AreTransactionsOf plan sents (record t { begun = with_found one place deadline t.begun })
      go None none = is
      go (Some one) e = record {
        t3 = is.t3;
        each = λ begun has. each begun (has-set t.begun place new begun has);
        apart = apart-set t.begun place new one same is.apart;
      }
        where
          new : Begun K
          new = record one { deadline = deadline }

          same : system_of new ≡ system_of (get_or t.begun place one)
          same =
              ap (λ (b : Begun K). system_of b)
              (same_Some _ _ (sym e ∙ found test t.begun place one
              (record { is = refl; within = find-within test t.begun one e })))

          old : IsTransactionOf plan sents one
          old = is.each one (found-in test t.begun one e).0

          of_new : IsTransactionOf plan sents new
          of_new = record {
            message = old.message;
            sent = old.sent;
            primary = old.primary;
            wait = old.wait;
            header = old.header;
          }

          each : (begun : Begun K) → Has t.begun begun ⊎ (begun ≡ new) → IsTransactionOf plan sents begun
          each begun (inl has) = is.each begun has
          each begun (inr is_new) = subst (λ (b : Begun K). IsTransactionOf plan sents b) (sym is_new) of_new

  pub open-started :
      (starts : Bool) (system now : ℕ) (t : TransactionsView K) → AreTransactionsOf plan sents t
      → AreTransactionsOf plan sents (starts_t3 starts system now t)
  open-started true system now t is = open-timed (has_system system) _ t is
  open-started false system now t is = is

  pub open-acknowledged :
      (held : Option Header) (now : ℕ) (t : TransactionsView K) → AreTransactionsOf plan sents t
      → AreTransactionsOf plan sents (acknowledges held now t)
  open-acknowledged None now t is = is
  open-acknowledged (Some header) now t is = open-started _ header.system now t is

-- one begins, unless it is refused
pub open-begins :
    {K : Type 0} (plan : EndPlan) (sents : List Message) (kind : Option K) (header : Header) (message : Message)
    (t : TransactionsView K)
    → is_primary message ≡ true → message.wait ≡ is_some kind
    → header ≡ header_of plan.side plan.line.device message (block_count message)
    → AreTransactionsOf plan sents t → AreTransactionsOf plan (message ∷ sents) (with_begun kind header t)
open-begins plan sents None header message t primary wait last is = open-sent plan sents message t is
open-begins {K} plan sents (Some kind) header message t primary wait last is =
    go (list_any (has_system header.system) t.begun) refl (nat_le 64 (length t.begun))
  where
    one : Begun K
    one = new_begun header kind

    same : AreTransactionsOf plan (message ∷ sents) t
    same = open-sent plan sents message t is

    each : (begun : Begun K) → Has t.begun begun ⊎ (begun ≡ one) → IsTransactionOf plan (message ∷ sents) begun
    each begun (inl has) = same.each begun has
    each begun (inr is_one) = subst (λ (b : Begun K). IsTransactionOf plan (message ∷ sents) b) (sym is_one)
        (record { message = message; sent = inl refl; primary = primary; wait = wait; header = last })

    go : (again : Bool) → list_any (has_system header.system) t.begun ≡ again → (full : Bool)
        → AreTransactionsOf plan (message ∷ sents) (record t {
          begun = begun_with (if again then Some (Same header.system) else if full then Some Full else None) header kind
              t;
        })
    go true e full = same
    go false e true = same
    go false e false = record {
      t3 = same.t3;
      each = λ begun has. each begun (has-snoc t.begun one begun has);
      apart = all_pairs_push AreApart t.begun one same.apart (apart t.begun one e);
    }

-- ---- why none is refused

none-any : {X : Type 0} (test : X → Bool) (xs : List X) → ((x : X) → Has xs x → test x ≡ false)
    → list_any test xs ≡ false
none-any test [] none = refl
none-any test (x ∷ xs) none = rw (none x (inl refl)) (none-any test xs (λ y has. none y (inr has)))

pub not-refused :
    {K : Type 0} (plan : EndPlan) (sents : List Message) (t : TransactionsView K) (header : Header)
    → AreTransactionsOf plan sents t → HasNoPrimary header.system sents → length t.begun < 64
    → refusal_of t header ≡ None
not-refused {K} plan sents t header is none room =
    let free : list_any (has_system header.system) t.begun ≡ false =
    none-any (has_system header.system) t.begun (λ begun has. other begun (is.each begun has)) in
    let few : nat_le 64 (length t.begun) ≡ false = grind (arith, nat_tests, room) in
    rw (free, few) refl
  where
    other : (begun : Begun K) → IsTransactionOf plan sents begun → has_system header.system begun ≡ false
    other begun of =
        ne_eqb begun.header.system header.system
        (λ same. none of.message of.sent of.primary (sym (ap (λ (h : Header). h.system) of.header) ∙ same))
