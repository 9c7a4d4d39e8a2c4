-- What holds of the account of a log is what is claimed.
use Rattle.std.specs.Prelude.{◌≡◌, ◌&&◌, ◌==◌, ℕ, Bool, true, false, not, List, [], ◌∷◌, ◌++◌, cond, filter, map, length, Option, Some, None, option_map, if◌then◌else◌, refl}
use Rattle.std.proofs.Common.{sym, ap, ◌∙◌, subst, arith, inl, inr, append_assoc, append-nil}
use Rattle.std.proofs.lemmas.Bool.Decides.{nat_tests}
use Rattle.std.proofs.lemmas.List.Elements.{filter-append}
use Rattle.message_end.specs.Own.{Has}
use Rattle.trace_log.specs.declared.names.Cause.{Cause}
use Rattle.trace_log.specs.declared.names.Cause.TheVariants as cause
use Rattle.trace_log.specs.Log.{Entry}
use Rattle.trace_log.specs.Names.{Spooled}
use Rattle.spool_law.specs.Shelf.{Change, IsAtRest, IsFirst, IsOverwrittenFor, MayChange, MayHaveGone, MayLeave, MayStore, Shelf, Policy, shelf_of}
use Rattle.spool_law.specs.Shelf.Change.{Finds, HasGone, HasStored, Leaves, Other, Receives, Sends, Stores, Tries}
use Rattle.spool_delivery.specs.Account.{Account, Put, Removal, Turn, account_of, counted, counts, folded, is_among, is_unconfirmed, turn_of, was_given_up}
use Rattle.spool_delivery.specs.Account.Turn.{Changes, Quiet, Takes}
use Rattle.spool_delivery.specs.Claims.{HasCause, IsFirstPut, IsGone, IsKeptBy, IsPutBehind, IsQuiet, IsStored, IsTakenInOrder, LeavesFirst, SpoolIsKept, TakenInOrder, equipment_notes, numbered}
use Rattle.spool_delivery.specs.Laws.{IsSpoolTaken}
use Rattle.spool_delivery.proofs.Facts.{AreFacts, HasNew, IsFact, IsNewIn, IsTakenFor, IsBacked}
use Rattle.spool_delivery.proofs.Folded.{among-at, among-not, place_of}
use Rattle.message_end.proofs.Members.{has-map}
use Rattle.spool_delivery.proofs.Lists.{Rising, filter-all, filter-alike, filter-none, rising-across}
use Rattle.spool_delivery.proofs.Sound.{IsGoneOrFirst, put_of}
use Rattle.spool_delivery.proofs.Tied.{IsSound, IsTied, at-rest, first-put, found-of, sound-at}

-- ---- what is claimed of what stands

first-of : (shelf : Shelf) (account : Account) (number : ℕ) → IsTied shelf account → IsFirst shelf.stands number
    → IsFirstPut account.standing number
first-of shelf account number tied first =
    let it = first-put shelf.stands account.standing number tied.stands first in
    record { put = it.0; rest = it.1; first = it.2; number_is = it.3 }

quiet-of : (shelf : Shelf) (account : Account) → IsTied shelf account → IsAtRest shelf → IsQuiet account
quiet-of shelf account tied rest = record {
  none_stored = at-rest shelf.storing account.storing rest.none_stored tied.storing;
  none_leaves = sym tied.leaving ∙ rest.none_leaves;
}

put-behind : (policy : Policy) (shelf : Shelf) (account : Account) (number : ℕ) (message : Spooled)
    → IsTied shelf account → MayStore policy shelf number message → IsPutBehind policy account number message
put-behind policy shelf account number message tied may = record {
  quiet = quiet-of shelf account tied may.rest;
  above = λ one has.
      may.above (numbered one)
      (subst (λ (ss : List (ℕ × Spooled)). Has ss (numbered one)) (sym tied.stands)
      (has-map numbered account.standing one has));
  room = subst (λ (ss : List (ℕ × Spooled)). policy.has_room ss message ≡ true) tied.stands may.room;
}

stored-put : (one : Option (ℕ × Spooled)) (account : Account) (number : ℕ) (message : Spooled)
    → one ≡ Some (number, message) → one ≡ option_map numbered account.storing → IsStored account number
stored-put one account number message is tied = go account.storing refl (sym is ∙ tied)
  where
    same : (x y : ℕ × Spooled) → Some x ≡ Some y → x ≡ y
    same x y equal = cc

    go : (storing : Option Put) → account.storing ≡ storing → Some (number, message) ≡ option_map numbered storing
        → IsStored account number
    go None here equal = cc
    go (Some put) here equal = record {
      put = put;
      is = here;
      number_is = sym (ap (λ (w : ℕ × Spooled). w.0) (same (number, message) (numbered put) equal));
    }

gone-first : (shelf : Shelf) (account : Account) (number : ℕ) → IsTied shelf account → MayHaveGone shelf number
    → IsGone account number
gone-first shelf account number tied may = record {
  cause = may.cause;
  is = sym tied.leaving ∙ may.is;
  first = first-of shelf account number tied may.first;
}

leaves-first : (policy : Policy) (before : List Entry) (number : ℕ) (why : Cause) (room_for : Option Spooled)
    → IsTied (shelf_of (equipment_notes before)) (account_of before)
    → MayLeave policy (equipment_notes before) number why room_for → IsTakenFor why (account_of before)
    → LeavesFirst policy before number why room_for
leaves-first policy before number why room_for tied may taken =
    let it = first-put (shelf_of (equipment_notes before)).stands
    (account_of before).standing number tied.stands may.first in
    record {
      quiet = quiet-of (shelf_of (equipment_notes before)) (account_of before) tied may.rest;
      put = it.0;
      rest = it.1;
      first = it.2;
      number_is = it.3;
      cause = of why room_for may taken it.0 it.1 it.2;
    }
  where
    of : (why : Cause) (room_for : Option Spooled) → MayLeave policy (equipment_notes before) number why room_for
        → IsTakenFor why (account_of before) → (put : Put) (rest : List Put)
        → (account_of before).standing ≡ put ∷ rest → HasCause policy before put why room_for
    of cause.Confirmed room_for may taken put rest first = (taken put rest first, may.cause.1)
    of cause.Purged room_for may taken put rest first = may.cause
    of cause.Overwritten room_for may taken put rest first =
        subst (λ (ss : List (ℕ × Spooled)). IsOverwrittenFor policy (equipment_notes before) ss room_for) tied.stands
        may.cause

kept-change : (policy : Policy) (before : List Entry) (change : Change)
    → IsTied (shelf_of (equipment_notes before)) (account_of before)
    → MayChange policy (equipment_notes before) change → IsBacked change (account_of before) → HasNew change before
    → IsKeptBy policy (Changes change) before
kept-change policy before (Finds found) tied may taken new =
    found-of (shelf_of (equipment_notes before)) (account_of before) found tied may
kept-change policy before (Leaves number why room_for) tied may taken new =
    leaves-first policy before number why room_for tied may taken
kept-change policy before (Stores number message) tied may taken new =
    put-behind policy (shelf_of (equipment_notes before)) (account_of before) number message tied may
kept-change policy before (HasStored number) tied may taken new =
    stored-put (shelf_of (equipment_notes before)).storing (account_of before) number may.message may.is tied.storing
kept-change policy before (HasGone number) tied may taken new =
    gone-first (shelf_of (equipment_notes before)) (account_of before) number tied may
kept-change policy before (Tries number system) tied may taken new =
    record {
      first = first-of (shelf_of (equipment_notes before)) (account_of before) number tied may;
      new = new.0;
      untried = new.1;
    }
kept-change policy before (Sends message) tied may carries new = carries
kept-change policy before (Receives message) tied may taken new = tt
kept-change policy before Other tied may taken new = tt

kept-turn : (policy : Policy) (before : List Entry) (turn : Turn)
    → IsTied (shelf_of (equipment_notes before)) (account_of before)
    → IsFact policy turn (equipment_notes before) (account_of before) → IsNewIn turn before
    → IsKeptBy policy turn before
kept-turn policy before (Changes change) tied fact new = kept-change policy before change tied fact.0 fact.1 new
kept-turn policy before (Takes message) tied fact new = tt
kept-turn policy before Quiet tied fact new = tt

spool-is-kept : (policy : Policy) (log : List Entry) → AreFacts policy log → SpoolIsKept policy log
spool-is-kept policy [] facts = tt
spool-is-kept policy (entry ∷ before) facts = (
  kept-turn policy before (turn_of entry) (sound-at policy before facts.1).tied facts.0.0 facts.0.1,
  spool-is-kept policy before facts.1,
)

-- ---- what is claimed of what is taken

given-up : (removed : List Removal) (put : Put) → Has (map put_of removed) put
    → ((one : Removal) → Has removed one → one.cause ≡ cause.Confirmed → one.put.place ≡ put.place → ⊥)
    → was_given_up removed put ≡ true
given-up [] put is none = absurd is
given-up (one ∷ removed) put (inl same) none =
    let at : one.put.place ≡ put.place = ap place_of (sym same) in
    let test : (one.put.place == put.place) ≡ true = grind (arith, nat_tests) in
    go one.cause refl test (none one (inl refl))
  where
    go : (why : Cause) → one.cause ≡ why → (one.put.place == put.place) ≡ true
        → (one.cause ≡ cause.Confirmed → one.put.place ≡ put.place → ⊥)
        → was_given_up (one ∷ removed) put ≡ true
    go cause.Confirmed is test not_so = absurd (not_so is (ap place_of (sym same)))
    go cause.Purged is test not_so = both is test
      where
        both : one.cause ≡ cause.Purged → (one.put.place == put.place) ≡ true → was_given_up (one ∷ removed) put ≡ true
        both is test =
            ap (λ (b : Bool). if b && is_unconfirmed one.cause then true else was_given_up removed put) test
            ∙ ap (λ (c : Cause). if is_unconfirmed c then true else was_given_up removed put) is
    go cause.Overwritten is test not_so =
        ap (λ (b : Bool). if b && is_unconfirmed one.cause then true else was_given_up removed put) test
        ∙ ap (λ (c : Cause). if is_unconfirmed c then true else was_given_up removed put) is
given-up (one ∷ removed) put (inr has) none =
    go (one.put.place == put.place && is_unconfirmed one.cause)
    (given-up removed put has (λ other there. none other (inr there)))
  where
    go : (test : Bool) → was_given_up removed put ≡ true
        → (if test then true else was_given_up removed put) ≡ true
    go true later = refl
    go false later = later

not-given-up : (removed : List Removal) (put : Put)
    → ((one : Put) → Has (map put_of removed) one → one.place ≡ put.place → ⊥) → was_given_up removed put ≡ false
not-given-up [] put apart = refl
not-given-up (one ∷ removed) put apart =
    let differs = apart one.put (inl refl) in
    let test : (one.put.place == put.place) ≡ false = grind (arith, nat_tests) in
    ap (λ (b : Bool). if b && is_unconfirmed one.cause then true else was_given_up removed put) test
    ∙ not-given-up removed put (λ other has. apart other (inr has))

in-order : (count : ℕ) (account : Account) → IsSound count account → IsTakenInOrder account
in-order count a sound = go a.standing sound.queued.queue refl
  where
    gone : List Put
    gone = map put_of a.removed

    taken : Put → Bool
    taken = is_among a.taken

    rising : (standing : List Put) → a.puts ≡ gone ++ standing → Rising place_of (gone ++ standing)
    rising standing queue = subst (λ (ps : List Put). Rising place_of ps) queue sound.queued.rising

    -- a put that is gone counts where it was taken
    gone-count : (put : Put) → Has gone put → counts a put ≡ taken put
    gone-count put has = by (taken put) refl
      where
        by : (found : Bool) → taken put ≡ found
            → (if found then true else not (was_given_up a.removed put)) ≡ found
        by true is = refl
        by false is =
            ap not (given-up a.removed put has (λ one there for_it at.
            never (sym (among-at a.taken one.put put (sound.caused.each one there for_it) at) ∙ is)))
          where
            never : true ≡ false → ⊥
            never is = cc

    -- a put that stands counts
    standing-count : (standing : List Put) → a.puts ≡ gone ++ standing → (put : Put) → Has standing put
        → counts a put ≡ true
    standing-count standing queue put has = by (taken put)
      where
        by : (found : Bool) → (if found then true else not (was_given_up a.removed put)) ≡ true
        by true = refl
        by false =
            ap not (not-given-up a.removed put (λ one there at.
            let under = rising-across place_of gone standing (rising standing queue) one put there has in
            omega (arith, under, at)))

    counted-are : (standing : List Put) → a.puts ≡ gone ++ standing → counted a ≡ filter taken gone ++ standing
    counted-are standing queue =
        ap (λ (ps : List Put). filter (counts a) ps) queue
        ∙ filter-append (counts a) gone standing
        ∙ ap (λ (ps : List Put). ps ++ filter (counts a) standing) (filter-alike (counts a) taken gone gone-count)
        ∙ ap (λ (ps : List Put). filter taken gone ++ ps)
        (filter-all (counts a) standing (standing-count standing queue))

    folded-are : (standing : List Put) → a.puts ≡ gone ++ standing
        → folded a.taken ≡ filter taken gone ++ filter taken standing
    folded-are standing queue =
        sound.are_taken.folded_are
        ∙ ap (λ (ps : List Put). filter taken ps) queue
        ∙ filter-append taken gone standing

    go : (standing : List Put) → a.puts ≡ gone ++ standing → a.standing ≡ standing → IsTakenInOrder a
    go [] queue same = record {
      later = [];
      is =
          counted-are [] queue ∙ sym (ap (λ (ps : List Put). ps ++ []) (folded-are [] queue)
          ∙ append-nil (filter taken gone ++ []));
    }
    go (put ∷ rest) queue same = by (taken put) refl
      where
        none : filter taken rest ≡ []
        none =
            filter-none taken rest (λ one has. among-not a.taken one (λ other there at.
            let under =
            (subst (λ (ss : List Put). IsGoneOrFirst a.puts ss other) same (sound.are_taken.each other there)).first one
            has
            in omega (arith, under, at)))

        by : (found : Bool) → taken put ≡ found → IsTakenInOrder a
        by true is = record {
          later = rest;
          is =
              counted-are (put ∷ rest) queue
              ∙ sym (ap (λ (ps : List Put). ps ++ rest) (folded-are (put ∷ rest) queue
              ∙ ap (λ (b : Bool). filter taken gone ++ cond b (put ∷ filter taken rest) (filter taken rest)) is
              ∙ ap (λ (ps : List Put). filter taken gone ++ put ∷ ps) none)
              ∙ append_assoc (filter taken gone) (put ∷ []) rest);
        }
        by false is = record {
          later = put ∷ rest;
          is =
              counted-are (put ∷ rest) queue
              ∙ sym (ap (λ (ps : List Put). ps ++ put ∷ rest) (folded-are (put ∷ rest) queue
              ∙ ap (λ (b : Bool). filter taken gone ++ cond b (put ∷ filter taken rest) (filter taken rest)) is
              ∙ ap (λ (ps : List Put). filter taken gone ++ ps) none
              ∙ append-nil (filter taken gone)));
        }

taken-in-order : (policy : Policy) (log : List Entry) → AreFacts policy log → TakenInOrder log
taken-in-order policy [] facts = tt
taken-in-order policy (entry ∷ before) facts = (
  in-order (length (entry ∷ before)) (account_of (entry ∷ before)) (sound-at policy (entry ∷ before) facts).sound,
  taken-in-order policy before facts.1,
)

pub spool-is-taken : (policy : Policy) (log : List Entry) → AreFacts policy log → IsSpoolTaken policy log
spool-is-taken policy log facts =
    record { kept = spool-is-kept policy log facts; taken = taken-in-order policy log facts }
