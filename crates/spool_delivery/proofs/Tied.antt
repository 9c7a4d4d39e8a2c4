-- The account of a log is tied to the shelf of the equipment's notes, and sound, entry by entry.
use Rattle.std.specs.Prelude.{◌≡◌, ◌<◌, ◌≤◌, zero, suc, ℕ, Bool, true, false, List, [], ◌∷◌, ◌++◌, filter, map, take, drop, length, Option, Some, None, option_map, option_to_list, refl}
use Rattle.std.proofs.Common.{sym, ap, ◌∙◌, subst, arith, append-nil}
use Rattle.std.proofs.lemmas.List.{length-map}
use Rattle.gl_base.specs.declared.side.Side.TheVariants.{Equipment, Host}
use Rattle.message_end.specs.Own.{Has}
use Rattle.message_flow.specs.declared.message.Message.{Message}
use Rattle.message_flow.specs.Message.{is_primary}
use Rattle.trace_log.specs.declared.names.Cause.{Cause}
use Rattle.trace_log.specs.declared.names.Cause.TheVariants as cause
use Rattle.trace_log.specs.Log.{Entry, Happening}
use Rattle.trace_log.specs.Log.Entry.{Ended, Noted, Slipped}
use Rattle.trace_log.specs.Names.{Spooled}
use Rattle.spool_law.specs.Shelf.{Change, IsFirst, IsFoundOf, MayChange, Shelf, Policy, change_of, leaving_of, shelf_changed, shelf_of, stored_if}
use Rattle.spool_law.specs.Shelf.Change.{Finds, HasGone, HasStored, Leaves, Other, Receives, Sends, Stores, Tries}
use Rattle.spool_delivery.specs.Account.{Account, Put, Removal, Try, account_after, account_changed, account_of, account_taken, is_found, is_lost, leaving_puts, new_account, puts_found, removed_for, taken_with, tried_with, turn_of, turn_of_host}
use Rattle.spool_delivery.specs.Claims.{equipment_notes, numbered, with_note_of}
use Rattle.spool_delivery.proofs.Facts.{AreFacts, IsFact, IsTakenBehind, IsBacked}
use Rattle.spool_delivery.proofs.Found.{IsNamed, found-are, lost-are, stored-found}
use Rattle.message_end.proofs.Members.{has-map}
use Rattle.spool_delivery.proofs.Sound.{AreSound, map-append, moved, moved-named, sound-gone, sound-later, sound-leaves, sound-stored, sound-stores, sound-takes, sound-tries, stored-is}

-- ---- what a start finds, as puts

pub record IsFoundAs
    (standing : List Put) (storing : Option Put) (leaving : Option Cause) (found : List (ℕ × Spooled))
    : Type 0 where
  pub missing : ℕ
  pub stored : Bool
  pub few : missing ≤ leaving_of leaving (length standing)
  pub is : found ≡ map numbered (drop missing standing ++ stored_if stored storing)

stored-numbered : (stored : Bool) (storing : Option Put)
    → stored_if stored (option_map numbered storing) ≡ map numbered (stored_if stored storing)
stored-numbered true None = refl
stored-numbered true (Some put) = refl
stored-numbered false storing = refl

left-numbered : (missing : ℕ) (stored : Bool) (standing : List Put) (storing : Option Put)
    → drop missing (map numbered standing) ++ stored_if stored (option_map numbered storing)
    ≡ map numbered (drop missing standing ++ stored_if stored storing)
left-numbered zero stored standing storing =
    ap (λ (ss : List (ℕ × Spooled)). map numbered standing ++ ss) (stored-numbered stored storing)
    ∙ sym (map-append numbered standing (stored_if stored storing))
left-numbered (suc missing) stored [] storing = stored-numbered stored storing
left-numbered (suc missing) stored (put ∷ standing) storing = left-numbered missing stored standing storing

found-as : (standing : List Put) (storing : Option Put) (leaving : Option Cause) (found : List (ℕ × Spooled))
    → IsFoundOf (map numbered standing) (option_map numbered storing) leaving found
    → IsFoundAs standing storing leaving found
found-as standing storing leaving found is = record {
  missing = is.missing;
  stored = is.stored;
  few = subst (λ (n : ℕ). is.missing ≤ leaving_of leaving n) (length-map standing numbered) is.at_most;
  is = is.is ∙ left-numbered is.missing is.stored standing storing;
}

sound-finds : (count next : ℕ) → count < next → (stores : List Put) (storing : Option Put) (puts standing : List Put)
    (leaving : Option Cause) (removed : List Removal) (tries : List Try) (taken : List Put)
    (found : List (ℕ × Spooled))
    → AreSound count stores storing puts standing leaving removed tries taken
    → IsFoundAs standing storing leaving found
    → AreSound next stores None (puts ++ filter (is_found found) (option_to_list storing))
    (puts_found stores found) None
    (removed ++ removed_for leaving (filter (is_lost found) (leaving_puts leaving standing))) tries taken
sound-finds count next more stores storing puts standing leaving removed tries taken found is it = result
  where
    behind : List Put
    behind = stored_if it.stored storing

    puts_are : filter (is_found found) (option_to_list storing) ≡ behind
    puts_are =
        subst (λ (f : List (ℕ × Spooled)). filter (is_found f) (option_to_list storing) ≡ behind) (sym it.is)
        (stored-found it.missing standing storing it.stored is.named.above)

    standing_are : puts_found stores found ≡ drop it.missing standing ++ behind
    standing_are =
        subst (λ (f : List (ℕ × Spooled)). puts_found stores f ≡ drop it.missing standing ++ behind) (sym it.is)
        (found-are stores (drop it.missing standing ++ behind)
        (moved-named count next more stores storing puts standing leaving removed tries taken is it.missing it.stored
        it.few).named)

    lost : filter (is_lost found) (leaving_puts leaving standing) ≡ take it.missing standing
    lost =
        subst
        (λ (f : List (ℕ × Spooled)). filter (is_lost f) (leaving_puts leaving standing) ≡ take it.missing standing)
        (sym it.is)
        (lost-are it.missing (leaving_of leaving (length standing)) standing behind it.few is.named.rising
        (λ put one h k. is.named.above one (stored-is it.stored storing one k) put h))

    result : AreSound next stores None (puts ++ filter (is_found found) (option_to_list storing))
        (puts_found stores found) None
        (removed ++ removed_for leaving (filter (is_lost found) (leaving_puts leaving standing))) tries taken
    result =
        moved count next more stores storing puts standing leaving removed tries taken is it.missing it.stored it.few
        (puts ++ filter (is_found found) (option_to_list storing)) (puts_found stores found)
        (removed ++ removed_for leaving (filter (is_lost found) (leaving_puts leaving standing)))
        (ap (λ (ps : List Put). puts ++ ps) puts_are) standing_are
        (ap (λ (ps : List Put). removed ++ removed_for leaving ps) lost)

found-numbered : (count : ℕ) (stores : List Put) (storing : Option Put) (puts standing : List Put)
    (leaving : Option Cause) (removed : List Removal) (tries : List Try) (taken : List Put)
    (found : List (ℕ × Spooled))
    → AreSound count stores storing puts standing leaving removed tries taken
    → IsFoundAs standing storing leaving found → found ≡ map numbered (puts_found stores found)
found-numbered count stores storing puts standing leaving removed tries taken found is it =
    it.is
    ∙ ap (λ (ps : List Put). map numbered ps)
    (sym (subst (λ (f : List (ℕ × Spooled)). puts_found stores f ≡ left) (sym it.is) (found-are stores left named)))
  where
    left : List Put
    left = drop it.missing standing ++ stored_if it.stored storing

    named : (put : Put) → Has left put → IsNamed stores put
    named =
        (moved-named count (suc count) (omega arith) stores storing puts standing leaving removed tries taken is
        it.missing it.stored it.few).named

-- ---- the shelf of the notes is that of the account

pub record IsTied (shelf : Shelf) (account : Account) : Type 0 where
  pub stands : shelf.stands ≡ map numbered account.standing
  pub storing : shelf.storing ≡ option_map numbered account.storing
  pub leaving : shelf.leaving ≡ account.leaving

abbrev pub IsSound : ℕ → Account → Type 0
IsSound count a = AreSound count a.stores a.storing a.puts a.standing a.leaving a.removed a.tries a.taken

pub found-of : (shelf : Shelf) (account : Account) (found : List (ℕ × Spooled)) → IsTied shelf account
    → IsFoundOf shelf.stands shelf.storing shelf.leaving found
    → IsFoundOf (map numbered account.standing) (option_map numbered account.storing) account.leaving found
found-of shelf account found tied is =
    subst
    (λ (l : Option Cause). IsFoundOf (map numbered account.standing) (option_map numbered account.storing) l found)
    tied.leaving
    (subst (λ (o : Option (ℕ × Spooled)). IsFoundOf (map numbered account.standing) o shelf.leaving found) tied.storing
    (subst (λ (ss : List (ℕ × Spooled)). IsFoundOf ss shelf.storing shelf.leaving found) tied.stands is))

as-found : (shelf : Shelf) (account : Account) (found : List (ℕ × Spooled)) → IsTied shelf account
    → IsFoundOf shelf.stands shelf.storing shelf.leaving found
    → IsFoundAs account.standing account.storing account.leaving found
as-found shelf account found tied is =
    found-as account.standing account.storing account.leaving found (found-of shelf account found tied is)

list-numbered : (storing : Option Put) → option_to_list (option_map numbered storing) ≡ map numbered (option_to_list
    storing)
list-numbered None = refl
list-numbered (Some put) = refl

drop-numbered : (n : ℕ) (puts : List Put) → drop n (map numbered puts) ≡ map numbered (drop n puts)
drop-numbered zero puts = refl
drop-numbered (suc n) [] = refl
drop-numbered (suc n) (put ∷ puts) = drop-numbered n puts

tied-changed : (policy : Policy) (notes : List Happening) (change : Change) (count : ℕ) (account : Account)
    → IsTied (shelf_of notes) account → IsSound count account → MayChange policy notes change
    → IsTied (shelf_changed change (shelf_of notes)) (account_changed count change account)
tied-changed policy notes (Finds found) count account tied sound may = record {
  stands =
      found-numbered count account.stores account.storing account.puts account.standing account.leaving account.removed
      account.tries account.taken found sound (as-found (shelf_of notes) account found tied may);
  storing = refl;
  leaving = refl;
}
tied-changed policy notes (Stores number message) count account tied sound may =
    record { stands = tied.stands; storing = refl; leaving = tied.leaving }
tied-changed policy notes (HasStored number) count account tied sound may = record {
  stands =
      ap (λ (ss : List (ℕ × Spooled)). ss ++ option_to_list (shelf_of notes).storing) tied.stands
      ∙ ap (λ (o : Option (ℕ × Spooled)). map numbered account.standing ++ option_to_list o) tied.storing
      ∙ ap (λ (ss : List (ℕ × Spooled)). map numbered account.standing ++ ss) (list-numbered account.storing)
      ∙ sym (map-append numbered account.standing (option_to_list account.storing));
  storing = refl;
  leaving = tied.leaving;
}
tied-changed policy notes (Leaves number why room_for) count account tied sound may =
    record { stands = tied.stands; storing = tied.storing; leaving = refl }
tied-changed policy notes (HasGone number) count account tied sound may = record {
  stands =
      ap (λ (ss : List (ℕ × Spooled)). drop (leaving_of (shelf_of notes).leaving (length ss)) ss) tied.stands
      ∙ ap
      (λ (l : Option Cause). drop (leaving_of l (length (map numbered account.standing)))
      (map numbered account.standing)) tied.leaving
      ∙ ap (λ (n : ℕ). drop (leaving_of account.leaving n) (map numbered account.standing))
      (length-map account.standing numbered)
      ∙ drop-numbered (leaving_of account.leaving (length account.standing)) account.standing;
  storing = tied.storing;
  leaving = refl;
}
tied-changed policy notes (Tries number system) count account tied sound may =
    record { stands = tied.stands; storing = tied.storing; leaving = tied.leaving }
tied-changed policy notes (Sends message) count account tied sound may = tied
tied-changed policy notes (Receives message) count account tied sound may = tied
tied-changed policy notes Other count account tied sound may = tied

-- ---- a change

storing-some : (one : Option (ℕ × Spooled)) (storing : Option Put) (it : ℕ × Spooled) → one ≡ Some it
    → one ≡ option_map numbered storing → storing ≡ None → ⊥
storing-some one storing it is tied none =
    let same = ap (λ (o : Option Put). option_map numbered o) none in
    cc

pub at-rest : (one : Option (ℕ × Spooled)) (storing : Option Put) → one ≡ None → one ≡ option_map numbered storing
    → storing ≡ None
at-rest one None none tied = refl
at-rest one (Some put) none tied = absurd (never (sym none ∙ tied))
  where
    never : None ≡ option_map numbered (Some put) → ⊥
    never is = cc

sound-changed : (policy : Policy) (notes : List Happening) (change : Change) (count next : ℕ) → count < next
    → (account : Account) → IsTied (shelf_of notes) account → IsSound count account → MayChange policy notes change
    → IsBacked change account → IsSound next (account_changed count change account)
sound-changed policy notes (Finds found) count next more a tied sound may confirmed =
    sound-finds count next more a.stores a.storing a.puts a.standing a.leaving a.removed a.tries a.taken found sound
    (as-found (shelf_of notes) a found tied may)
sound-changed policy notes (Stores number message) count next more a tied sound may confirmed =
    sound-stores count next more a.stores (record { place = count; number = number; message = message }) a.puts
    a.standing
    a.leaving a.removed a.tries a.taken (sym tied.leaving ∙ may.rest.none_leaves) refl
    (λ one has.
    may.above (numbered one)
    (subst (λ (ss : List (ℕ × Spooled)). Has ss (numbered one)) (sym tied.stands)
    (has-map numbered a.standing one has)))
    a.storing sound
sound-changed policy notes (HasStored number) count next more a tied sound may confirmed =
    sound-stored count next more a.stores a.storing a.puts a.standing a.leaving a.removed a.tries a.taken
    (storing-some (shelf_of notes).storing a.storing (number, may.message) may.is tied.storing) sound
sound-changed policy notes (Leaves number cause.Confirmed room_for) count next more a tied sound may confirmed =
    sound-leaves count next more a.stores a.storing a.puts a.standing a.leaving a.removed a.tries a.taken
    cause.Confirmed (at-rest (shelf_of notes).storing a.storing may.rest.none_stored tied.storing) (λ same. confirmed)
    sound
sound-changed policy notes (Leaves number cause.Purged room_for) count next more a tied sound may confirmed =
    sound-leaves count next more a.stores a.storing a.puts a.standing a.leaving a.removed a.tries a.taken
    cause.Purged (at-rest (shelf_of notes).storing a.storing may.rest.none_stored tied.storing) (λ same. cc) sound
sound-changed policy notes (Leaves number cause.Overwritten room_for) count next more a tied sound may confirmed =
    sound-leaves count next more a.stores a.storing a.puts a.standing a.leaving a.removed a.tries a.taken
    cause.Overwritten (at-rest (shelf_of notes).storing a.storing may.rest.none_stored tied.storing) (λ same. cc) sound
sound-changed policy notes (HasGone number) count next more a tied sound may confirmed =
    sound-gone count next more a.stores a.storing a.puts a.standing a.leaving a.removed a.tries a.taken
    (λ none. let tie = tied.leaving in let some = may.is in cc) sound
sound-changed policy notes (Tries number system) count next more a tied sound may confirmed =
    sound-tries count next more a.stores a.storing a.puts a.standing a.leaving a.removed a.tries a.taken number system
    sound
sound-changed policy notes (Sends message) count next more a tied sound may confirmed =
    sound-later count next more a.stores a.storing a.puts a.standing a.leaving a.removed a.tries a.taken sound
sound-changed policy notes (Receives message) count next more a tied sound may confirmed =
    sound-later count next more a.stores a.storing a.puts a.standing a.leaving a.removed a.tries a.taken sound
sound-changed policy notes Other count next more a tied sound may confirmed =
    sound-later count next more a.stores a.storing a.puts a.standing a.leaving a.removed a.tries a.taken sound

-- ---- the host takes

sound-taken : (message : Message) (count next : ℕ) → count < next → (account : Account) → IsSound count account
    → IsTakenBehind message account → IsSound next (account_taken message account)
sound-taken message count next more a sound behind = go (is_primary message) refl
  where
    Goal : List Put → Type 0
    Goal taken = AreSound next a.stores a.storing a.puts a.standing a.leaving a.removed a.tries taken

    none : Goal (a.taken ++ [])
    none =
        subst Goal (sym (append-nil a.taken))
        (sound-later count next more a.stores a.storing a.puts a.standing a.leaving a.removed a.tries a.taken sound)

    tried : is_primary message ≡ true → (put : Option Put) → tried_with message.system a.tries ≡ put
        → Goal (a.taken ++ option_to_list put)
    tried primary None is = none
    tried primary (Some put) is =
        sound-takes count next more a.stores a.storing a.puts a.standing a.leaving a.removed a.tries a.taken put
        message.system is (λ one has. behind put primary is one has) sound

    go : (primary : Bool) → is_primary message ≡ primary → Goal (a.taken ++ taken_with primary message a)
    go false is = none
    go true is = tried is (tried_with message.system a.tries) refl

-- ---- over a log

pub record IsAt (count : ℕ) (notes : List Happening) (account : Account) : Type 0 where
  pub tied : IsTied (shelf_of notes) account
  pub sound : IsSound count account

new-sound : IsSound 0 new_account
new-sound = record {
  queued = record {
    queue = refl;
    rising = tt;
    below = λ put is. absurd is;
    storing_below = λ put is. cc;
    storing_last = λ put is. cc;
  };
  named = record {
    rising = tt;
    above = λ put is. cc;
    named = λ put is. absurd is;
    storing_named = λ put is. cc;
  };
  tried = λ one is. absurd is;
  are_taken = record { each = λ put is. absurd is; falls = tt; folded_are = refl };
  caused = record { each = λ one is. absurd is; pending = λ is. cc };
  resting = λ why is. refl;
}

later-at : (count next : ℕ) → count < next → (notes : List Happening) (account : Account) → IsAt count notes account
    → IsAt next notes account
later-at count next more notes a is = record {
  tied = is.tied;
  sound = sound-later count next more a.stores a.storing a.puts a.standing a.leaving a.removed a.tries a.taken is.sound;
}

-- an entry is a turn
host-at : (policy : Policy) (what : Happening) (count next : ℕ) → count < next → (notes : List Happening)
    (account : Account)
    → IsFact policy (turn_of_host what) notes account → IsAt count notes account
    → IsAt next notes (account_after count (turn_of_host what) account)
host-at policy (Happening.Received message) count next more notes a fact is = record {
  tied = record { stands = is.tied.stands; storing = is.tied.storing; leaving = is.tied.leaving };
  sound = sound-taken message count next more a is.sound fact;
}
host-at policy what count next more notes a fact is = later-at count next more notes a is

entry-at : (policy : Policy) (entry : Entry) (count next : ℕ) → count < next → (notes : List Happening)
    (account : Account)
    → IsFact policy (turn_of entry) notes account → IsAt count notes account
    → IsAt next (with_note_of entry notes) (account_after count (turn_of entry) account)
entry-at policy (Noted moment Equipment what) count next more notes a fact is = record {
  tied = tied-changed policy notes (change_of what) count a is.tied is.sound fact.0;
  sound = sound-changed policy notes (change_of what) count next more a is.tied is.sound fact.0 fact.1;
}
entry-at policy (Noted moment Host what) count next more notes a fact is = host-at policy what count next more notes a
    fact is
entry-at policy (Slipped moment side frame characters) count next more notes a fact is = later-at count next more notes
    a is
entry-at policy (Ended moment) count next more notes a fact is = later-at count next more notes a is

pub sound-at : (policy : Policy) (log : List Entry) → AreFacts policy log
    → IsAt (length log) (equipment_notes log) (account_of log)
sound-at policy [] facts = record { tied = record { stands = refl; storing = refl; leaving = refl }; sound = new-sound }
sound-at policy (entry ∷ before) facts =
    entry-at policy entry (length before) (length (entry ∷ before)) (omega arith) (equipment_notes before)
    (account_of before) facts.0.0 (sound-at policy before facts.1)

-- ---- the first that stands

pub first-put : (stands : List (ℕ × Spooled)) (standing : List Put) (number : ℕ) → stands ≡ map numbered standing
    → IsFirst stands number
    → (put : Put) × (rest : List Put) × (standing ≡ put ∷ rest) × (put.number ≡ number)
first-put stands [] number tied first =
    absurd (subst (λ (ss : List (ℕ × Spooled)). IsFirst ss number) tied first)
first-put stands (put ∷ rest) number tied first =
    (put, rest, refl, subst (λ (ss : List (ℕ × Spooled)). IsFirst ss number) tied first)
