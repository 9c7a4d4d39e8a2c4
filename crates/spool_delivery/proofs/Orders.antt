-- The order in which what was tried is given to the line.
use Rattle.std.specs.Prelude.{◌≡◌, ◌≢◌, ◌<◌, ◌≤◌, ◌⊎◌, ◌+◌, ◌==◌, ℕ, Bool, true, false, List, [], ◌∷◌, ◌++◌, length, map, Some, if◌then◌else◌, refl}
use Rattle.std.proofs.Common.{sym, ap, ◌∙◌, subst, arith, inl, inr, length-append}
use Rattle.std.proofs.lemmas.Bool.Decides.{nat_tests}
use Rattle.delivery.specs.Order.{giving_at}
use Rattle.message_end.specs.Own.{Giving, Has, sent_at}
use Rattle.message_flow.specs.declared.message.Message.{Message}
use Rattle.message_flow.specs.Message.{is_primary}
use Rattle.spool_law.specs.Shelf.{Told}
use Rattle.spool_law.specs.Tries.{IsNewest, MayGiveTried}
use Rattle.spool_delivery.specs.Account.{Put, Try, tried_with}
use Rattle.spool_delivery.proofs.Folded.{place_of}
use Rattle.message_end.proofs.Members.{has-either, has-map}
use Rattle.message_end.proofs.Lists.{place-below, has-sent, sent-more}
use Rattle.spool_delivery.proofs.Sound.{tried-member}
use Rattle.spool_delivery.proofs.Tries.{AreOfStart, IsNewTry, TriesFall, system_of_try, tried-other}

-- ---- look-ups by place

pub sent-less : (place : ℕ) (sent : List Message) (new m : Message) → place < length sent
    → sent_at place (new ∷ sent) ≡ Some m → sent_at place sent ≡ Some m
sent-less place sent new m under is =
    let test : (place == length sent) ≡ false = grind (arith, nat_tests) in
    sym (ap (λ (b : Bool). if b then Some new else sent_at place sent) test) ∙ is

pub sent-front : (place : ℕ) (sent before : List Message) (m : Message) → sent_at place sent ≡ Some m
    → sent_at (length before + place) (sent ++ before) ≡ Some m
sent-front place [] before m is = cc
sent-front place (message ∷ sent) before m is = go (place == length sent) refl (sent-front place sent before m) is
  where
    long : length (sent ++ before) ≡ length sent + length before
    long = length-append sent before

    go : (test : Bool) → (place == length sent) ≡ test
        → (sent_at place sent ≡ Some m → sent_at (length before + place) (sent ++ before) ≡ Some m)
        → (if test then Some message else sent_at place sent) ≡ Some m
        → (if (length before + place) == length (sent ++ before) then Some message
        else sent_at (length before + place) (sent ++ before))
        ≡ Some m
    go true equal later found =
        let at : place ≡ length sent = grind (arith, nat_tests) in
        let whole : (length before + place) ≡ length (sent ++ before) = omega (arith, at, long) in
        let test : ((length before + place) == length (sent ++ before)) ≡ true = grind (arith, nat_tests) in
        ap
        (λ (b : Bool). if b then Some message else sent_at (length before + place) (sent ++ before)) test ∙ found
    go false differs later found =
        let under = place-below place sent m found in
        let less : (length before + place) < length (sent ++ before) = omega (arith, under, long) in
        let test : ((length before + place) == length (sent ++ before)) ≡ false = grind (arith, nat_tests) in
        ap
        (λ (b : Bool). if b then Some message else sent_at (length before + place) (sent ++ before)) test
        ∙ later found

given-place : (place : ℕ) (given : List Giving) (g : Giving) → giving_at place given ≡ Some g → place < length given
given-place place [] g is = cc
given-place place (giving ∷ before) g is = go (place == length before) refl (given-place place before g) is
  where
    go : (test : Bool) → (place == length before) ≡ test → (giving_at place before ≡ Some g → place < length before)
        → (if test then Some giving else giving_at place before) ≡ Some g → place < length (giving ∷ before)
    go true equal later found = let at : place ≡ length before = grind (arith, nat_tests) in omega (arith, at)
    go false differs later found = let under = later found in omega (arith, under)

pub given-has : (place : ℕ) (given : List Giving) (g : Giving) → giving_at place given ≡ Some g → Has given g
given-has place [] g is = cc
given-has place (giving ∷ before) g is = go (place == length before) (given-has place before g) is
  where
    go : (test : Bool) → (giving_at place before ≡ Some g → Has before g)
        → (if test then Some giving else giving_at place before) ≡ Some g → Has (giving ∷ before) g
    go true later found = inl (same found)
      where
        same : Some giving ≡ Some g → g ≡ giving
        same found = cc
    go false later found = inr (later found)

-- ---- the block given at a place is of a message of a try

pub record IsPutGiven (given : List Giving) (sent : List Message) (tries : List Try) (place : ℕ) (put : Put) : Type 0
  where
    pub giving : Giving
    pub is : giving_at place given ≡ Some giving
    pub message : Message
    pub sent_is : sent_at giving.place sent ≡ Some message
    pub primary : is_primary message ≡ true
    pub tried : tried_with message.system tries ≡ Some put

-- what was given earlier is of no later put
abbrev pub AreGivenInOrder : List Giving → List Message → List Try → Type 0
AreGivenInOrder given sent tries =
    (p q : ℕ) (u w : Put) → IsPutGiven given sent tries p u → IsPutGiven given sent tries q w → p ≤ q
    → u.place ≤ w.place

pub record IsTakenAt (places : List ℕ) (given : List Giving) (sent : List Message) (tries : List Try) (put : Put)
    : Type 0 where
  pub place : ℕ
  pub has : Has places place
  pub is : IsPutGiven given sent tries place put

-- each put that was taken ended with a block at a place where the host has received
abbrev pub AreTakenAt : List ℕ → List Giving → List Message → List Try → List Put → Type 0
AreTakenAt places given sent tries taken = (put : Put) → Has taken put → IsTakenAt places given sent tries put

-- ---- a message more is sent

put-sent : (given : List Giving) (sent : List Message) (tries : List Try) (new : Message) (place : ℕ) (put : Put)
    → IsPutGiven given sent tries place put → IsPutGiven given (new ∷ sent) tries place put
put-sent given sent tries new place put is = record {
  giving = is.giving;
  is = is.is;
  message = is.message;
  sent_is = sent-more is.giving.place sent is.message new is.sent_is;
  primary = is.primary;
  tried = is.tried;
}

abbrev pub AllPlaced : List Giving → List Message → Type 0
AllPlaced given sent = (g : Giving) → Has given g → g.place < length sent

put-unsent : (given : List Giving) (sent : List Message) (tries : List Try) (new : Message) (place : ℕ) (put : Put)
    → AllPlaced given sent → IsPutGiven given (new ∷ sent) tries place put → IsPutGiven given sent tries place put
put-unsent given sent tries new place put placed is = record {
  giving = is.giving;
  is = is.is;
  message = is.message;
  sent_is =
      sent-less is.giving.place sent new is.message
      (placed is.giving (given-has place given is.giving is.is)) is.sent_is;
  primary = is.primary;
  tried = is.tried;
}

pub order-sent : (given : List Giving) (sent : List Message) (tries : List Try) (new : Message) → AllPlaced given sent
    → AreGivenInOrder given sent tries → AreGivenInOrder given (new ∷ sent) tries
order-sent given sent tries new placed order p q u w at_p at_q up_to =
    order p q u w (put-unsent given sent tries new p u placed at_p) (put-unsent given sent tries new q w placed at_q)
    up_to

pub taken-sent : (places : List ℕ) (given : List Giving) (sent : List Message) (tries : List Try) (new : Message)
    (taken : List Put)
    → AreTakenAt places given sent tries taken → AreTakenAt places given (new ∷ sent) tries taken
taken-sent places given sent tries new taken are put has =
    let it = are put has in
    record { place = it.place; has = it.has; is = put-sent given sent tries new it.place put it.is }

-- ---- a try more

put-tried : (given : List Giving) (sent : List Message) (now tries : List Try) (place : ℕ) (put : Put)
    → IsNewTry now tries sent → IsPutGiven given sent tries place put → IsPutGiven given sent now place put
put-tried given sent now tries place put new is = record {
  giving = is.giving;
  is = is.is;
  message = is.message;
  sent_is = is.sent_is;
  primary = is.primary;
  tried =
      ap (λ (ts : List Try). tried_with is.message.system ts) new.are
      ∙ tried-other new.system is.message.system new.put tries
      (new.fresh is.message (has-sent is.giving.place sent is.message is.sent_is) is.primary)
      ∙ is.tried;
}

put-untried : (given : List Giving) (sent : List Message) (now tries : List Try) (place : ℕ) (put : Put)
    → IsNewTry now tries sent → IsPutGiven given sent now place put → IsPutGiven given sent tries place put
put-untried given sent now tries place put new is = record {
  giving = is.giving;
  is = is.is;
  message = is.message;
  sent_is = is.sent_is;
  primary = is.primary;
  tried =
      sym (ap (λ (ts : List Try). tried_with is.message.system ts) new.are
      ∙ tried-other new.system is.message.system new.put tries
      (new.fresh is.message (has-sent is.giving.place sent is.message is.sent_is) is.primary))
      ∙ is.tried;
}

pub order-tried : (given : List Giving) (sent : List Message) (now tries : List Try) → IsNewTry now tries sent
    → AreGivenInOrder given sent tries → AreGivenInOrder given sent now
order-tried given sent now tries new order p q u w at_p at_q up_to =
    order p q u w (put-untried given sent now tries p u new at_p) (put-untried given sent now tries q w new at_q) up_to

pub taken-tried : (places : List ℕ) (given : List Giving) (sent : List Message) (now tries : List Try)
    (taken : List Put)
    → IsNewTry now tries sent → AreTakenAt places given sent tries taken → AreTakenAt places given sent now taken
taken-tried places given sent now tries taken new are put has =
    let it = are put has in
    record { place = it.place; has = it.has; is = put-tried given sent now tries it.place put new it.is }

-- ---- a block more is given

put-given : (given : List Giving) (sent : List Message) (tries : List Try) (new : Giving) (place : ℕ) (put : Put)
    → IsPutGiven given sent tries place put → IsPutGiven (new ∷ given) sent tries place put
put-given given sent tries new place put is =
    let under = given-place place given is.giving is.is in
    let test : (place == length given) ≡ false = grind (arith, nat_tests) in
    record {
      giving = is.giving;
      is = ap (λ (b : Bool). if b then Some new else giving_at place given) test ∙ is.is;
      message = is.message;
      sent_is = is.sent_is;
      primary = is.primary;
      tried = is.tried;
    }

put-old : (given : List Giving) (sent : List Message) (tries : List Try) (new : Giving) (place : ℕ) (put : Put)
    → place < length given → IsPutGiven (new ∷ given) sent tries place put → IsPutGiven given sent tries place put
put-old given sent tries new place put under is =
    let test : (place == length given) ≡ false = grind (arith, nat_tests) in
    record {
      giving = is.giving;
      is = sym (ap (λ (b : Bool). if b then Some new else giving_at place given) test) ∙ is.is;
      message = is.message;
      sent_is = is.sent_is;
      primary = is.primary;
      tried = is.tried;
    }

-- no try is of a put behind
abbrev pub IsLatest : List Try → Put → Type 0
IsLatest tries put = (one : Try) → Has tries one → one.put.place ≤ put.place

-- where the message of a block is of a try, it is of the last one
abbrev pub IsOfLatest : Giving → List Message → List Try → Type 0
IsOfLatest giving sent tries =
    (m : Message) (put : Put) → sent_at giving.place sent ≡ Some m → is_primary m ≡ true
    → tried_with m.system tries ≡ Some put → IsLatest tries put

pub order-given : (given : List Giving) (sent : List Message) (tries : List Try) (new : Giving)
    → IsOfLatest new sent tries → AreGivenInOrder given sent tries → AreGivenInOrder (new ∷ given) sent tries
order-given given sent tries new latest order p q u w at_p at_q up_to = go (q == length given) refl
  where
    go : (test : Bool) → (q == length given) ≡ test → u.place ≤ w.place
    go true equal =
        let first = tried-member at_p.message.system tries u at_p.tried in
        let under =
        latest at_q.message w
        (subst (λ (g : Giving). sent_at g.place sent ≡ Some at_q.message) (newest equal at_q.is) at_q.sent_is)
        at_q.primary at_q.tried first.0 first.1 in
        let same = ap place_of first.2 in
        omega (arith, under, same)
      where
        newest : (q == length given) ≡ true
            → (if q == length given then Some new else giving_at q given) ≡ Some at_q.giving → at_q.giving ≡ new
        newest test found =
            let it = sym (ap (λ (b : Bool). if b then Some new else giving_at q given) test) ∙ found in cc
    go false differs =
        let below = given-place q (new ∷ given) at_q.giving at_q.is in
        let apart : q ≢ length given = grind (arith, nat_tests) in
        let under_q : q < length given = omega (arith, below, apart) in
        let under_p : p < length given = omega (arith, under_q, up_to) in
        order p q u w (put-old given sent tries new p u under_p at_p) (put-old given sent tries new q w under_q at_q)
        up_to

pub taken-given : (places : List ℕ) (given : List Giving) (sent : List Message) (tries : List Try) (new : Giving)
    (taken : List Put)
    → AreTakenAt places given sent tries taken → AreTakenAt places (new ∷ given) sent tries taken
taken-given places given sent tries new taken are put has =
    let it = are put has in
    record { place = it.place; has = it.has; is = put-given given sent tries new it.place put it.is }

-- the last try is the latest
latest-is : (tries : List Try) (now older : List ℕ) (system : ℕ) (put : Put) → TriesFall tries
    → map system_of_try tries ≡ now ++ older → IsNewest now system → tried_with system tries ≡ Some put
    → IsLatest tries put
latest-is tries [] older system put falls are newest tried = absurd newest
latest-is [] (s ∷ now) older system put falls are newest tried = cc
latest-is (first ∷ tries) (s ∷ now) older system put falls are newest tried = go
  where
    heads : (x y : ℕ) (xs ys : List ℕ) → x ∷ xs ≡ y ∷ ys → x ≡ y
    heads x y xs ys is = cc

    at : first.system ≡ s
    at = heads first.system s (map system_of_try tries) (now ++ older) are

    test : (first.system == system) ≡ true
    test = let here = at in let there = newest in grind (arith, nat_tests)

    is : first.put ≡ put
    is = some-is (sym (ap (λ (b : Bool). if b then Some first.put else tried_with system tries) test) ∙ tried)
      where
        some-is : Some first.put ≡ Some put → first.put ≡ put
        some-is same = cc

    go : (one : Try) → Has (first ∷ tries) one → one.put.place ≤ put.place
    go one (inl same) =
        let here = ap (λ (t : Try). t.put.place) same in let there = ap place_of is in omega (arith, here, there)
    go one (inr has) = let under = falls.0 one has in let there = ap place_of is in omega (arith, under, there)

-- so a block that may be given is of the last try, if of any
pub of-latest : (base : ℕ) (drawn now : List ℕ) (told : List Told) (tries : List Try) (sent before : List Message)
    (given : Giving)
    (place : ℕ) (message : Message)
    → given.place ≡ length before + place → sent_at place sent ≡ Some message → MayGiveTried sent now place
    → TriesFall tries → AreOfStart base drawn now told tries
    → ((n : ℕ) → Has drawn n → base ≤ n)
    → ((m : Message) → Has sent m → is_primary m ≡ true → Has drawn m.system)
    → IsOfLatest given (sent ++ before) tries
of-latest base drawn now told tries sent before given place message here at may falls start least drawn_are m put
    sent_is
    primary tried =
    latest-is tries now start.older m.system put falls start.are (may m its primary (go of_try)) tried
  where
    some-is : {X : Type 0} (x y : X) → Some x ≡ Some y → x ≡ y
    some-is x y is = cc

    whole : sent_at given.place (sent ++ before) ≡ Some message
    whole =
        ap (λ (p : ℕ). sent_at p (sent ++ before)) here ∙ sent-front place sent before message at

    its : sent_at place sent ≡ Some m
    its = at ∙ ap (λ (w : Message). Some w) (some-is message m (sym whole ∙ sent_is))

    one : (t : Try) × Has tries t × (t.put ≡ put) × (t.system ≡ m.system)
    one = tried-member m.system tries put tried

    of_try : Has now m.system ⊎ Has start.older m.system
    of_try =
        has-either now start.older m.system
        (subst (λ (s : ℕ). Has (now ++ start.older) s) one.3
        (subst (λ (ss : List ℕ). Has ss one.0.system) start.are (has-map system_of_try tries one.0 one.1)))

    go : Has now m.system ⊎ Has start.older m.system → Has now m.system
    go (inl has) = has
    go (inr old) =
        let low = start.below m.system old in
        let high = least m.system (drawn_are m (has-sent place sent m its) primary) in
        absurd (never low high)
      where
        never : m.system < base → base ≤ m.system → ⊥
        never low high = omega (arith, low, high)
