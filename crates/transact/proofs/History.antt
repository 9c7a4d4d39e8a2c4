-- The look-back over the events is what the calls keep, call by call.
use Rattle.std.proofs.Common.{◌≡◌, refl, sym, ◌∙◌, ap, arith, Bool, true, false, cond, ◌||◌, ℕ, ◌+◌, ◌==◌, List, [], ◌∷◌, ◌++◌, Option, Some, None, get_or, length, nat_le}
use Rattle.std.specs.Prelude.{◌≢◌, fold}
use Rattle.std.specs.List.{AllPairs, cons_option, filter_map, find, list_any, position_or_len}
use Rattle.std.specs.Option.{option_and_then, option_map, option_to_list}
use Rattle.std.proofs.lemmas.List.{append_assoc, append-nil}
use Rattle.std.proofs.lemmas.Bool.{eq-eqb, ne_eqb}
use Rattle.std.proofs.lemmas.List.Folds.{find_at, list_any-append}
use Rattle.std.proofs.lemmas.List.Quantifiers.{all_pairs_push, all_pairs_remove}
use Rattle.std.proofs.lemmas.Option.{slice_get-get_or}
use Rattle.std.proofs.lemmas.List.Sums.{fold-append}
use Rattle.block_codec.specs.declared.header.Header.{Header}
use Rattle.transact.specs.declared.begun.Begun.{Begun}
use Rattle.transact.specs.declared.transactions.Beginning.{Beginning}
use Rattle.transact.specs.declared.transactions.Beginning.TheVariants.{Full, Same}
use Rattle.transact.specs.History.{Call, Event, after_call, begin_event, begun_and_not_ended, event_of, events_of, is_end, begun_with, open_of, next_deadline}
use Rattle.transact.specs.History.Call.{Answer, Begin, End, ReplyBegan, Sent, Tick}
use Rattle.transact.specs.History.Event.{Began, Ended, TimerStarted, TimerStopped}
use Rattle.transact.specs.Laws.{OpenAreBegunAndNotEnded, no_transactions}
use Rattle.transact.specs.Transactions.{AreApart, TransactionsView, has_system, is_answered_by, is_due, new_begun, refusal_of, system_of, with_deadline, with_found, without_first}
use Rattle.transact.proofs.Firsts.{changes-one, filter_map-same, find-within, removed, replaced, with-first, with-none}
use Rattle.transact.proofs.Kept.{apart, apart-set}

-- what an event does to one that is open
abbrev step : {K : Type 0} → ℕ → Event K → Begun K → Option (Begun K)
step t3 (Began header kind) one = Some one
step t3 (TimerStarted system now) one =
    Some (cond (system_of one == system) (record one { deadline = Some (now + t3) }) one)
step t3 (TimerStopped system) one = Some (cond (system_of one == system) (record one { deadline = None }) one)
step t3 (Ended system) one = cond (system_of one == system) None (Some one)

-- and the one that it begins
abbrev new_of : {K : Type 0} → Event K → List (Begun K)
new_of (Began header kind) = new_begun header kind ∷ []
new_of (TimerStarted system now) = []
new_of (TimerStopped system) = []
new_of (Ended system) = []

abbrev begun-with : {K : Type 0} → Header → K → Option ℕ → Begun K
begun-with header kind deadline = record { header = header; kind = kind; deadline = deadline }

left-step :
    {K : Type 0} (t3 : ℕ) (first event : Event K) (later : List (Event K))
    → open_of t3 first (later ++ event ∷ []) ≡ option_and_then (step t3 event) (open_of t3 first later)
left-step {K} t3 (Began header kind) event later =
    rw (list_any-append (is_end header.system) later (event ∷ []))
    (rw (fold-append (next_deadline t3 header.system) None later (event ∷ []))
    (go (list_any (is_end header.system) later) (fold (next_deadline t3 header.system) None later) event))
  where
    go : (b : Bool) (deadline : Option ℕ) (event : Event K)
        → cond (b || (is_end header.system event || false)) None
        (Some (begun-with header kind (next_deadline t3 header.system deadline event)))
        ≡ option_and_then (step t3 event) (cond b None (Some (begun-with header kind deadline)))
    go true deadline event = refl
    go false deadline (Began other more) = refl
    go false deadline (TimerStarted system now) = elim (header.system == system) as (λ b.
        Some (begun-with header kind (cond b (Some (now + t3)) deadline))
        ≡ Some (cond b (begun-with header kind (Some (now + t3))) (begun-with header kind deadline)))
        [ true ↦ refl | false ↦ refl ]
    go false deadline (TimerStopped system) = elim (header.system == system) as (λ b.
        Some (begun-with header kind (cond b None deadline))
        ≡ Some (cond b (begun-with header kind None) (begun-with header kind deadline)))
        [ true ↦ refl | false ↦ refl ]
    go false deadline (Ended system) = elim (header.system == system) as (λ b.
        cond (b || false) None (Some (begun-with header kind deadline))
        ≡ cond b None (Some (begun-with header kind deadline)))
        [ true ↦ refl | false ↦ refl ]
left-step t3 (TimerStarted other now) event later = refl
left-step t3 (TimerStopped other) event later = refl
left-step t3 (Ended other) event later = refl

append-option : {X : Type 0} (o : Option X) (xs ys : List X) → cons_option o (xs ++ ys) ≡ cons_option o xs ++ ys
append-option None xs ys = refl
append-option (Some x) xs ys = refl

filter-option :
    {X : Type 0} (f : X → Option X) (o : Option X) (xs : List X)
    → filter_map f (cons_option o xs) ≡ cons_option (option_and_then f o) (filter_map f xs)
filter-option f None xs = refl
filter-option f (Some x) xs = refl

-- one more event
pub one-more-event :
    {K : Type 0} (t3 : ℕ) (events : List (Event K)) (event : Event K)
    → begun_and_not_ended t3 (events ++ event ∷ [])
    ≡ filter_map (step t3 event) (begun_and_not_ended t3 events) ++ new_of event
one-more-event t3 [] (Began header kind) = refl
one-more-event t3 [] (TimerStarted system now) = refl
one-more-event t3 [] (TimerStopped system) = refl
one-more-event t3 [] (Ended system) = refl
one-more-event t3 (first ∷ events) event =
    let before = begun_and_not_ended t3 events in
    let was = open_of t3 first events in
    let is = option_and_then (step t3 event) was in
    ap (λ o. cons_option o (begun_and_not_ended t3 (events ++ event ∷ []))) (left-step t3 first event events)
    ∙ ap (cons_option is) (one-more-event t3 events event)
    ∙ append-option is _ (new_of event)
    ∙ ap (λ xs. xs ++ new_of event) (sym (filter-option (step t3 event) was before))

-- what an event does to all that are open, if there is one
abbrev stepped : {K : Type 0} → ℕ → Option (Event K) → List (Begun K) → List (Begun K)
stepped t3 None begun = begun
stepped t3 (Some event) begun = filter_map (step t3 event) begun ++ new_of event

looked-back :
    {K : Type 0} (t3 : ℕ) (events : List (Event K)) (o : Option (Event K))
    → begun_and_not_ended t3 (events ++ option_to_list o) ≡ stepped t3 o (begun_and_not_ended t3 events)
looked-back t3 events None = ap (begun_and_not_ended t3) (append-nil events)
looked-back t3 events (Some event) = one-more-event t3 events event

-- a call keeps the transactions apart, and does what it tells
record Keeps {K : Type 0} (t now : TransactionsView K) (told : Option (Event K)) : Type 0 where
  apart : AllPairs AreApart now.begun
  t3 : now.t3 ≡ t.t3
  is : now.begun ≡ stepped t.t3 told t.begun

-- one ends
ends :
    {K : Type 0} (t : TransactionsView K) (test : Begun K → Bool) (o : Option (Begun K))
    → AllPairs AreApart t.begun → find test t.begun ≡ o
    → Keeps t (without_first test t) (option_map (λ one. Ended (system_of one)) o)
ends t test None all h =
    let same = removed test t.begun ∙ with-none test None t.begun h in
    record { apart = rw same all; t3 = refl; is = same }
ends {K} t test (Some one) all h =
    let event : Event K = Ended (system_of one) in
    let gone : step t.t3 event one ≡ None =
    ap (λ b. cond b None (Some one)) (eq-eqb (system_of one) (system_of one) refl) in
    let differ : (y : Begun K) → system_of y ≢ system_of one → step t.t3 event y ≡ Some y =
    λ y differs. ap (λ b. cond b None (Some y)) (ne_eqb (system_of y) (system_of one) differs) in
    record {
      apart =
          all_pairs_remove AreApart t.begun (position_or_len test t.begun) (find-within test t.begun one h) all;
      t3 = refl;
      is = removed test t.begun ∙ ap (λ o. with-first test o t.begun) (sym gone)
          ∙ changes-one AreApart test (step t.t3 event) t.begun one
          (λ y differs. differ y (λ same. differs (sym same))) differ all h
          ∙ sym (append-nil _);
    }

-- one gets another deadline, or none
times :
    {K : Type 0} (t : TransactionsView K) (test : Begun K → Bool) (o : Option (Begun K)) (deadline : Option ℕ)
    (event : ℕ → Event K)
    → ((system : ℕ) (one : Begun K)
    → step t.t3 (event system) one ≡ Some (cond (system_of one == system) (record one { deadline = deadline }) one))
    → ((system : ℕ) → new_of (event system) ≡ []) → AllPairs AreApart t.begun → find test t.begun ≡ o
    → Keeps t (with_deadline test deadline t) (option_map (λ one. event (system_of one)) o)
times t test None deadline event does new all h =
    let same = ap (λ o. with_found o (position_or_len test t.begun) deadline t.begun) h in
    record { apart = rw same all; t3 = refl; is = same }
times {K} t test (Some one) deadline event does new all h =
    let begun = t.begun in
    let at = position_or_len test begun in
    let written = ap (λ o. with_found o at deadline begun) h in
    let here = find_at test begun ∙ slice_get-get_or begun at one (find-within test begun one h) in
    let read : one ≡ get_or begun at one = cc in
    let now = record one { deadline = deadline } in
    let becomes : step t.t3 (event (system_of one)) one ≡ Some now =
    does (system_of one) one ∙ ap (λ b. Some (cond b now one)) (eq-eqb (system_of one) (system_of one) refl) in
    let differ : (y : Begun K) → system_of y ≢ system_of one → step t.t3 (event (system_of one)) y ≡ Some y =
    λ y differs. does (system_of one) y
    ∙ ap (λ b. Some (cond b (record y { deadline = deadline }) y)) (ne_eqb (system_of y) (system_of one) differs) in
    record {
      apart = rw written (apart-set begun at now one (ap system_of read) all);
      t3 = refl;
      is = written ∙ replaced test now begun ∙ ap (λ o. with-first test o begun) (sym becomes)
          ∙ changes-one AreApart test (step t.t3 (event (system_of one))) begun one
          (λ y differs. differ y (λ same. differs (sym same))) differ all h
          ∙ sym (append-nil _)
          ∙ ap (λ xs. filter_map (step t.t3 (event (system_of one))) begun ++ xs) (sym (new (system_of one)));
    }

-- one begins
begins :
    {K : Type 0} (t : TransactionsView K) (header : Header) (kind : K) (o : Option Beginning)
    → AllPairs AreApart t.begun → (o ≡ None → list_any (has_system header.system) t.begun ≡ false)
    → Keeps t (record t { begun = begun_with o header kind t }) (begin_event o header kind)
begins t header kind None all new = record {
  apart =
      all_pairs_push AreApart t.begun (new_begun header kind) all (apart t.begun (new_begun header kind) (new refl));
  t3 = refl;
  is =
      ap (λ xs. xs ++ new_begun header kind ∷ [])
      (sym (filter_map-same (λ one. Some one) t.begun (λ k d within. refl)));
}
begins t header kind (Some refusal) all new = record { apart = all; t3 = refl; is = refl }

new-system :
    {K : Type 0} (t : TransactionsView K) (header : Header) → refusal_of t header ≡ None
    → list_any (has_system header.system) t.begun ≡ false
new-system {K} t header h = go (list_any (has_system header.system) t.begun) h
  where
    go : (b : Bool) → cond b (Some (Same header.system)) (cond (nat_le 64 (length t.begun)) (Some Full) None) ≡ None
        → b ≡ false
    go true is = absurd (cc)
    go false is = refl

each-call :
    {K : Type 0} (t : TransactionsView K) (call : Call K)
    → AllPairs AreApart t.begun → Keeps t (after_call t call) (event_of t call)
each-call t (Begin header kind) all = begins t header kind (refusal_of t header) all (new-system t header)
each-call t (Sent system now) all =
    times t (has_system system) (find (has_system system) t.begun) (Some (now + t.t3)) (λ other. TimerStarted other now)
    (λ other one. refl) (λ other. refl) all refl
each-call t (ReplyBegan header) all =
    times t (is_answered_by header) (find (is_answered_by header) t.begun) None (λ other. TimerStopped other)
    (λ other one. refl) (λ other. refl) all refl
each-call t (Answer header) all = ends t (is_answered_by header) (find (is_answered_by header) t.begun) all refl
each-call t (End system) all = ends t (has_system system) (find (has_system system) t.begun) all refl
each-call t (Tick now) all = ends t (is_due now) (find (is_due now) t.begun) all refl

joined-events : {X : Type 0} (xs ys : List X) (o : Option X) → (xs ++ option_to_list o) ++ ys ≡ xs ++ cons_option o ys
joined-events xs ys None = ap (λ zs. zs ++ ys) (append-nil xs)
joined-events xs ys (Some x) = append_assoc xs (x ∷ []) ys

all-calls :
    {K : Type 0} (t : TransactionsView K) (events : List (Event K)) (calls : List (Call K)) → AllPairs AreApart t.begun
    → t.begun ≡ begun_and_not_ended t.t3 events
    → (fold after_call t calls).begun ≡ begun_and_not_ended t.t3 (events ++ events_of t calls)
all-calls t events [] all is = is ∙ ap (begun_and_not_ended t.t3) (sym (append-nil events))
all-calls t events (call ∷ calls) all is =
    let keeps = each-call t call all in
    let more = events ++ option_to_list (event_of t call) in
    let now = keeps.is ∙ ap (stepped t.t3 (event_of t call)) is ∙ sym (looked-back t.t3 events (event_of t call)) in
    all-calls (after_call t call) more calls keeps.apart (now ∙ ap (λ t3. begun_and_not_ended t3 more) (sym keeps.t3))
    ∙ ap (λ t3. begun_and_not_ended t3 (more ++ events_of (after_call t call) calls)) keeps.t3
    ∙ ap (begun_and_not_ended t.t3) (joined-events events (events_of (after_call t call) calls) (event_of t call))

pub open-are : {K : Type 0} → OpenAreBegunAndNotEnded K
open-are {K} t3 calls = all-calls (no_transactions t3) [] calls (λ i j d less within. absurd (omega arith)) refl
