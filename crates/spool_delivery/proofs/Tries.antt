-- Tries, by the account of a log.
use Rattle.std.specs.Prelude.{◌≡◌, ◌≢◌, ◌<◌, ◌≤◌, ◌⊎◌, ◌==◌, ℕ, Bool, true, false, List, [], ◌∷◌, ◌++◌, map, Option, Some, None, option_to_list, if◌then◌else◌, refl}
use Rattle.std.proofs.Common.{sym, ap, ◌∙◌, subst, arith, inl, inr}
use Rattle.std.proofs.lemmas.Bool.Decides.{nat_tests}
use Rattle.message_end.specs.Own.{Has}
use Rattle.message_flow.specs.declared.message.Message.{Message}
use Rattle.message_flow.specs.Message.{is_primary}
use Rattle.trace_log.specs.Log.{Happening}
use Rattle.trace_log.specs.Names.{Spooled}
use Rattle.spool_law.specs.Shelf.{Change, MayChange, MaySendTried, Shelf, Told, Tried, Policy, shelf_changed, shelf_of, told_first, told_with}
use Rattle.spool_law.specs.Shelf.Change.{Finds, HasGone, HasStored, Leaves, Other, Receives, Sends, Stores, Tries}
use Rattle.spool_law.specs.Tries.{tried_behind}
use Rattle.spool_delivery.specs.Account.{Account, Put, Try, account_changed, tried_first, tried_with}
use Rattle.spool_delivery.specs.Claims.{CarriesPut, numbered}
use Rattle.spool_delivery.proofs.Tied.{IsSound, IsTied, first-put}
use Rattle.spool_delivery.proofs.Folded.{place_of}
use Rattle.message_end.proofs.Members.{has-either}
use Rattle.spool_delivery.proofs.Lists.{Rising, rising-across}
use Rattle.spool_delivery.proofs.Sound.{IsGoneOrFirst, put_of}

abbrev pub new_try : ℕ → Put → Try
new_try system put = record { system = system; put = put }

-- no put of an older try is behind one of a newer one
abbrev pub TriesFall : List Try → Type 0
TriesFall [] = Unit {0}
TriesFall (one ∷ before) = ((old : Try) → Has before old → old.put.place ≤ one.put.place) × TriesFall before

-- the put of a try stands first
pub record IsFirstTried (tried : Tried) (standing : List Put) (tries : List Try) : Type 0 where
  pub put : Put
  pub rest : List Put
  pub first : standing ≡ put ∷ rest
  pub named : tried_with tried.system tries ≡ Some put

abbrev pub FirstTried : Option Tried → List Put → List Try → Type 0
FirstTried tried standing tries = (t : Tried) → tried ≡ Some t → IsFirstTried t standing tries

-- ---- a try names what stands first

pub tried-is : (standing : List Put) (put : Put) (rest : List Put) (number system : ℕ) (tries : List Try)
    → standing ≡ put ∷ rest → put.number ≡ number → tried_first standing number system tries ≡ new_try system put
    ∷ tries
tried-is standing put rest number system tries first at =
    let test : (put.number == number) ≡ true = grind (arith, nat_tests) in
    ap (λ (ss : List Put). tried_first ss number system tries) first
    ∙ ap (λ (b : Bool). if b then new_try system put ∷ tries else tries) test

pub tried-new : (system : ℕ) (put : Put) (tries : List Try) → tried_with system (new_try system put ∷ tries) ≡ Some put
tried-new system put tries =
    let test : (system == system) ≡ true = grind (arith, nat_tests) in
    ap (λ (b : Bool). if b then Some put else tried_with system tries) test

pub tried-other : (system other : ℕ) (put : Put) (tries : List Try) → other ≢ system
    → tried_with other (new_try system put ∷ tries) ≡ tried_with other tries
tried-other system other put tries apart =
    let test : (system == other) ≡ false = grind (arith, nat_tests) in
    ap (λ (b : Bool). if b then Some put else tried_with other tries) test

-- no older try is of a put behind
older-below : (puts : List Put) (gone : List Put) (put : Put) (rest : List Put) (old : Put)
    → Rising place_of (gone ++ put ∷ rest) → puts ≡ gone ++ put ∷ rest → IsGoneOrFirst puts (put ∷ rest) old
    → old.place ≤ put.place
older-below puts gone put rest old rising queue is =
    go (has-either gone (put ∷ rest) old (subst (λ (ps : List Put). Has ps old) queue is.has))
  where
    go : Has gone old ⊎ Has (put ∷ rest) old → old.place ≤ put.place
    go (inl has) =
        let under = rising-across place_of gone (put ∷ rest) rising old put has (inl refl) in omega (arith, under)
    go (inr (inl same)) = let at = ap place_of same in omega (arith, at)
    go (inr (inr has)) = let over = is.first old has in omega (arith, over)

falls-new : (count : ℕ) (account : Account) → IsSound count account → (put : Put) (rest : List Put)
    → account.standing ≡ put ∷ rest → (old : Try) → Has account.tries old → old.put.place ≤ put.place
falls-new count account sound put rest first old has =
    older-below account.puts (map put_of account.removed) put rest old.put
    (subst (λ (ps : List Put). Rising place_of ps) queue sound.queued.rising) queue
    (subst (λ (ss : List Put). IsGoneOrFirst account.puts ss old.put) first (sound.tried old has))
  where
    queue : account.puts ≡ map put_of account.removed ++ put ∷ rest
    queue = sound.queued.queue ∙ ap (λ (ss : List Put). map put_of account.removed ++ ss) first

-- ---- what a change makes of tries

abbrev pub AllFresh : Change → List Message → Type 0
AllFresh (Tries number system) sent = (m : Message) → Has sent m → is_primary m ≡ true → m.system ≢ system
AllFresh _ sent = Unit {0}

abbrev pub IsUntried : Change → List Try → Type 0
IsUntried (Tries number system) tries = tried_with system tries ≡ None
IsUntried _ tries = Unit {0}

abbrev pub DrawnFor : Change → List ℕ → Type 0
DrawnFor (Tries number system) drawn = Has drawn system
DrawnFor _ drawn = Unit {0}

-- a try with system bytes of no message sent
pub record IsNewTry (now before : List Try) (sent : List Message) : Type 0 where
  pub system : ℕ
  pub put : Put
  pub are : now ≡ new_try system put ∷ before
  pub fresh : (m : Message) → Has sent m → is_primary m ≡ true → m.system ≢ system

pub tries-go : (policy : Policy) (notes : List Happening) (change : Change) (place : ℕ) (account : Account)
    (sent : List Message)
    → IsTied (shelf_of notes) account → MayChange policy notes change → AllFresh change sent
    → ((account_changed place change account).tries ≡ account.tries)
    ⊎ IsNewTry (account_changed place change account).tries account.tries sent
tries-go policy notes (Finds found) place account sent tied may fresh = inl refl
tries-go policy notes (Stores number message) place account sent tied may fresh = inl refl
tries-go policy notes (HasStored number) place account sent tied may fresh = inl refl
tries-go policy notes (Leaves number why room_for) place account sent tied may fresh = inl refl
tries-go policy notes (HasGone number) place account sent tied may fresh = inl refl
tries-go policy notes (Tries number system) place account sent tied may fresh =
    let it = first-put (shelf_of notes).stands account.standing number tied.stands may in
    inr (record {
      system = system;
      put = it.0;
      are = tried-is account.standing it.0 it.1 number system account.tries it.2 it.3;
      fresh = fresh;
    })
tries-go policy notes (Sends message) place account sent tied may fresh = inl refl
tries-go policy notes (Receives message) place account sent tied may fresh = inl refl
tries-go policy notes Other place account sent tied may fresh = inl refl

pub taken-stays : (change : Change) (place : ℕ) (account : Account)
    → (account_changed place change account).taken ≡ account.taken
taken-stays (Finds found) place account = refl
taken-stays (Stores number message) place account = refl
taken-stays (HasStored number) place account = refl
taken-stays (Leaves number why room_for) place account = refl
taken-stays (HasGone number) place account = refl
taken-stays (Tries number system) place account = refl
taken-stays (Sends message) place account = refl
taken-stays (Receives message) place account = refl
taken-stays Other place account = refl

abbrev TriesAre : Shelf → Account → Type 0
TriesAre shelf account = TriesFall account.tries × FirstTried shelf.tried account.standing account.tries

none-tried : (standing : List Put) (tries : List Try) → FirstTried None standing tries
none-tried standing tries t is = cc

pub tries-are : (policy : Policy) (notes : List Happening) (change : Change) (count : ℕ) (account : Account)
    → IsTied (shelf_of notes) account → IsSound count account → MayChange policy notes change
    → TriesFall account.tries → FirstTried (shelf_of notes).tried account.standing account.tries
    → TriesFall (account_changed count change account).tries
    × FirstTried (shelf_changed change (shelf_of notes)).tried (account_changed count change account).standing
    (account_changed count change account).tries
tries-are policy notes (Finds found) count a tied sound may falls first =
    (falls, none-tried (account_changed count (Finds found) a).standing a.tries)
tries-are policy notes (Stores number message) count a tied sound may falls first = (falls, first)
tries-are policy notes (HasStored number) count a tied sound may falls first = (falls, more)
  where
    more : FirstTried (shelf_of notes).tried (a.standing ++ option_to_list a.storing) a.tries
    more t is =
        let it = first t is in
        record {
          put = it.put;
          rest = it.rest ++ option_to_list a.storing;
          first = ap (λ (ss : List Put). ss ++ option_to_list a.storing) it.first;
          named = it.named;
        }
tries-are policy notes (Leaves number why room_for) count a tied sound may falls first = (falls, first)
tries-are policy notes (HasGone number) count a tied sound may falls first =
    (falls, none-tried (account_changed count (HasGone number) a).standing a.tries)
tries-are policy notes (Tries number system) count a tied sound may falls first =
    (subst TriesFall (sym are) (falls-new count a sound it.0 it.1 it.2, falls), now)
  where
    it : (put : Put) × (rest : List Put) × (a.standing ≡ put ∷ rest) × (put.number ≡ number)
    it = first-put (shelf_of notes).stands a.standing number tied.stands may

    are : tried_first a.standing number system a.tries ≡ new_try system it.0 ∷ a.tries
    are = tried-is a.standing it.0 it.1 number system a.tries it.2 it.3

    now : FirstTried (Some (record { number = number; system = system })) a.standing
        (tried_first a.standing number system a.tries)
    now t is =
        record {
          put = it.0;
          rest = it.1;
          first = it.2;
          named =
              ap (λ (ts : List Try). tried_with t.system ts) are
              ∙ ap (λ (s : ℕ). tried_with s (new_try system it.0 ∷ a.tries)) (sym (same t is))
              ∙ tried-new system it.0 a.tries;
        }
      where
        same : (t : Tried) → Some (record { number = number; system = system }) ≡ Some t → system ≡ t.system
        same t is = ap (λ (w : Tried). w.system) (some-is (record { number = number; system = system }) t is)
          where
            some-is : (x y : Tried) → Some x ≡ Some y → x ≡ y
            some-is x y is = cc
tries-are policy notes (Sends message) count a tied sound may falls first = (falls, first)
tries-are policy notes (Receives message) count a tied sound may falls first = (falls, first)
tries-are policy notes Other count a tied sound may falls first = (falls, first)

-- ---- the tries of this start

abbrev pub system_of_try : Try → ℕ
system_of_try one = one.system

abbrev pub told_of : Try → Told
told_of one = record { system = one.system; message = one.put.message }

-- those of this start are with numbers that were drawn, and those before lie below its base
pub record AreOfStart (base : ℕ) (drawn now : List ℕ) (told : List Told) (tries : List Try) : Type 0 where
  pub older : List ℕ
  pub are : map system_of_try tries ≡ now ++ older
  pub below : (s : ℕ) → Has older s → s < base
  pub drawn_are : (s : ℕ) → Has now s → Has drawn s
  pub told_before : List Told
  pub told_are : map told_of tries ≡ told ++ told_before
  pub told_below : (one : Told) → Has told_before one → one.system < base
  pub told_drawn : (one : Told) → Has told one → Has drawn one.system

abbrev pub IsNoStart : Change → Type 0
IsNoStart (Finds found) = ⊥
IsNoStart _ = Unit {0}

told-is : (stands : List (ℕ × Spooled)) (put : Put) (rest : List Put) (system : ℕ) (told : List Told)
    → stands ≡ map numbered (put ∷ rest) → told_first stands system told ≡ told_of (new_try system put) ∷ told
told-is stands put rest system told is = ap (λ (ss : List (ℕ × Spooled)). told_first ss system told) is

pub of-start : (policy : Policy) (notes : List Happening) (change : Change) (place : ℕ) (account : Account)
    (base : ℕ) (drawn now : List ℕ)
    → IsNoStart change → IsTied (shelf_of notes) account → MayChange policy notes change → DrawnFor change drawn
    → AreOfStart base drawn now (shelf_of notes).told account.tries
    → AreOfStart base drawn (tried_behind change now) (shelf_changed change (shelf_of notes)).told
    (account_changed place change account).tries
of-start policy notes (Finds found) place account base drawn now no_start tied may fresh is = absurd no_start
of-start policy notes (Stores number message) place account base drawn now no_start tied may fresh is = is
of-start policy notes (HasStored number) place account base drawn now no_start tied may fresh is = is
of-start policy notes (Leaves number why room_for) place account base drawn now no_start tied may fresh is = is
of-start policy notes (HasGone number) place account base drawn now no_start tied may fresh is = is
of-start policy notes (Tries number system) place account base drawn now no_start tied may fresh is = record {
  older = is.older;
  are = ap (λ (ts : List Try). map system_of_try ts) are ∙ ap (λ (ss : List ℕ). system ∷ ss) is.are;
  below = is.below;
  drawn_are = λ s has. go s has;
  told_before = is.told_before;
  told_are =
      ap (λ (ts : List Try). map told_of ts) are
      ∙ ap (λ (ts : List Told). told_of (new_try system it.0) ∷ ts) is.told_are
      ∙ ap (λ (ts : List Told). ts ++ is.told_before) (sym told_now);
  told_below = is.told_below;
  told_drawn = λ one has. told_so one (subst (λ (ts : List Told). Has ts one) told_now has);
}
  where
    it : (put : Put) × (rest : List Put) × (account.standing ≡ put ∷ rest) × (put.number ≡ number)
    it = first-put (shelf_of notes).stands account.standing number tied.stands may

    are : tried_first account.standing number system account.tries ≡ new_try system it.0 ∷ account.tries
    are = tried-is account.standing it.0 it.1 number system account.tries it.2 it.3

    told_now : told_first (shelf_of notes).stands system (shelf_of notes).told
        ≡ told_of (new_try system it.0) ∷ (shelf_of notes).told
    told_now =
        told-is (shelf_of notes).stands it.0 it.1 system (shelf_of notes).told
        (tied.stands ∙ ap (λ (ps : List Put). map numbered ps) it.2)

    go : (s : ℕ) → Has (system ∷ now) s → Has drawn s
    go s (inl same) = subst (λ (n : ℕ). Has drawn n) (sym same) fresh
    go s (inr has) = is.drawn_are s has

    told_so : (one : Told) → Has (told_of (new_try system it.0) ∷ (shelf_of notes).told) one → Has drawn one.system
    told_so one (inl same) = subst (λ (t : Told). Has drawn t.system) (sym same) fresh
    told_so one (inr has) = is.told_drawn one has
of-start policy notes (Sends message) place account base drawn now no_start tied may fresh is = is
of-start policy notes (Receives message) place account base drawn now no_start tied may fresh is = is
of-start policy notes Other place account base drawn now no_start tied may fresh is = is

-- in a start none is of it yet
pub of-new-start : (base base_now : ℕ) (drawn now : List ℕ) (told : List Told) (tries : List Try) → base ≤ base_now
    → ((n : ℕ) → Has drawn n → n < base_now) → AreOfStart base drawn now told tries
    → AreOfStart base_now [] [] [] tries
of-new-start base base_now drawn now told tries least above is = record {
  older = now ++ is.older;
  are = is.are;
  below = λ s has. go s (has-either now is.older s has);
  drawn_are = λ s none. absurd none;
  told_before = told ++ is.told_before;
  told_are = is.told_are;
  told_below = λ one has. told_go one (has-either told is.told_before one has);
  told_drawn = λ one none. absurd none;
}
  where
    go : (s : ℕ) → Has now s ⊎ Has is.older s → s < base_now
    go s (inl has) = above s (is.drawn_are s has)
    go s (inr has) = let under = is.below s has in omega (arith, under, least)

    told_go : (one : Told) → Has told one ⊎ Has is.told_before one → one.system < base_now
    told_go one (inl has) = above one.system (is.told_drawn one has)
    told_go one (inr has) = let under = is.told_below one has in omega (arith, under, least)

-- ---- no two tries have the same system bytes

untried-with : (system : ℕ) (tries : List Try)
    → ((s : ℕ) → Has (map system_of_try tries) s → s ≡ system → ⊥) → tried_with system tries ≡ None
untried-with system [] apart = refl
untried-with system (one ∷ before) apart =
    let differs = apart one.system (inl refl) in
    let test : (one.system == system) ≡ false = grind (arith, nat_tests) in
    ap (λ (b : Bool). if b then Some one.put else tried_with system before) test
    ∙ untried-with system before (λ s has. apart s (inr has))

-- a number that was drawn in this start, and that no try of it has had
pub untried-in : (base : ℕ) (drawn now : List ℕ) (told : List Told) (tries : List Try) (system : ℕ)
    → AreOfStart base drawn now told tries → ((n : ℕ) → Has drawn n → base ≤ n) → Has drawn system
    → (Has now system → ⊥) → tried_with system tries ≡ None
untried-in base drawn now told tries system is least drawn_for untried =
    untried-with system tries (λ s has at.
    go s (has-either now is.older s (subst (λ (ss : List ℕ). Has ss s) is.are has)) at)
  where
    go : (s : ℕ) → Has now s ⊎ Has is.older s → s ≡ system → ⊥
    go s (inl has) at = untried (subst (λ (n : ℕ). Has now n) at has)
    go s (inr has) at =
        let under = is.below s has in let over = least system drawn_for in omega (arith, at, under, over)

-- ---- what goes out with the system bytes of a try

tried-told : (system : ℕ) (tries : List Try) (put : Put) → tried_with system tries ≡ Some put
    → told_with system (map told_of tries) ≡ Some put.message
tried-told system [] put is = cc
tried-told system (one ∷ before) put is = go (one.system == system) (tried-told system before put) is
  where
    go : (test : Bool) → (tried_with system before ≡ Some put → told_with system (map told_of before)
        ≡ Some put.message)
        → (if test then Some one.put else tried_with system before) ≡ Some put
        → (if test then Some one.put.message else told_with system (map told_of before)) ≡ Some put.message
    go true later found = ap (λ (p : Put). Some p.message) (some-is found)
      where
        some-is : Some one.put ≡ Some put → one.put ≡ put
        some-is same = cc
    go false later found = later found

told-none : (system : ℕ) (told : List Told) (message : Spooled)
    → ((one : Told) → Has told one → one.system ≡ system → ⊥) → told_with system told ≡ Some message → ⊥
told-none system [] message apart is = cc
told-none system (one ∷ told) message apart is =
    let differs = apart one (inl refl) in
    let test : (one.system == system) ≡ false = grind (arith, nat_tests) in
    told-none system told message (λ other has. apart other (inr has))
    (sym (ap (λ (b : Bool). if b then Some one.message else told_with system told) test) ∙ is)

told-front : (system : ℕ) (told before : List Told) (message : Spooled)
    → ((one : Told) → Has before one → one.system ≡ system → ⊥) → told_with system (told ++ before) ≡ Some message
    → told_with system told ≡ Some message
told-front system [] before message apart is = absurd (told-none system before message apart is)
told-front system (one ∷ told) before message apart is =
    go (one.system == system) (told-front system told before message apart) is
  where
    go : (test : Bool)
        → (told_with system (told ++ before) ≡ Some message → told_with system told ≡ Some message)
        → (if test then Some one.message else told_with system (told ++ before)) ≡ Some message
        → (if test then Some one.message else told_with system told) ≡ Some message
    go true later found = found
    go false later found = later found

pub carries-put : (base : ℕ) (drawn now : List ℕ) (told : List Told) (account : Account) (message : Message)
    → MaySendTried told message → AreOfStart base drawn now told account.tries
    → ((n : ℕ) → Has drawn n → base ≤ n) → (is_primary message ≡ true → Has drawn message.system)
    → CarriesPut account message
carries-put base drawn now told account message may is least drawn_for primary put tried =
    may primary put.message
    (told-front message.system told is.told_before put.message (λ one has at. apart one at (is.told_below one has))
    (sym (ap (λ (ts : List Told). told_with message.system ts) is.told_are)
    ∙ tried-told message.system account.tries put tried))
  where
    apart : (one : Told) → one.system ≡ message.system → one.system < base → ⊥
    apart one at low = let high = least message.system (drawn_for primary) in omega (arith, at, low, high)
