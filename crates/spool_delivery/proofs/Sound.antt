-- What holds of the account of a log.
use Rattle.std.specs.Prelude.{◌≡◌, ◌<◌, ◌≤◌, ◌⊎◌, ◌==◌, zero, suc, ℕ, Bool, true, false, List, [], ◌∷◌, ◌++◌, filter, map, take, drop, length, Option, Some, None, option_to_list, if◌then◌else◌, refl}
use Rattle.std.proofs.Common.{sym, ap, ◌∙◌, subst, arith, inl, inr, append_assoc, append-nil}
use Rattle.std.proofs.lemmas.Bool.Decides.{nat_tests}
use Rattle.std.proofs.lemmas.List.{take-append-drop}
use Rattle.std.proofs.lemmas.List.Elements.{filter-append}
use Rattle.message_end.specs.Own.{Has}
use Rattle.trace_log.specs.declared.names.Cause.{Cause}
use Rattle.trace_log.specs.declared.names.Cause.TheVariants as cause
use Rattle.spool_law.specs.Shelf.{leaving_of, stored_if}
use Rattle.spool_delivery.specs.Account.{Put, Removal, Try, folded, is_among, leaving_puts, named_by, removal_for, removed_for, staying_puts, tried_first, tried_with}
use Rattle.spool_delivery.proofs.Folded.{AllBefore, AllUpTo, NeverFalls, among-not, falls-more, fold-more, number_of, place_of}
use Rattle.spool_delivery.proofs.Found.{IsNamed, too-few}
use Rattle.message_end.proofs.Members.{has-back, has-drop, has-either, has-front, has-mapped}
use Rattle.spool_delivery.proofs.Lists.{Rising, behind_first, behind-moved, filter-none, rising-append, rising-back, rising-drop}

abbrev pub put_of : Removal → Put
put_of one = one.put

-- ---- the parts

-- what was put has left or stands, in order; every place is below this one
pub record AreQueued (count : ℕ) (puts : List Put) (removed : List Removal) (standing : List Put) (storing : Option Put)
    : Type 0 where
  pub queue : puts ≡ map put_of removed ++ standing
  pub rising : Rising place_of puts
  pub below : (put : Put) → Has puts put → put.place < count
  pub storing_below : (put : Put) → storing ≡ Some put → put.place < count
  pub storing_last : (put : Put) → storing ≡ Some put → AllBefore puts put

-- the numbers that stand rise, and name their puts
pub record AreNamed (stores standing : List Put) (storing : Option Put) : Type 0 where
  pub rising : Rising number_of standing
  pub above : (put : Put) → storing ≡ Some put → (one : Put) → Has standing one → one.number < put.number
  pub named : (put : Put) → Has standing put → IsNamed stores put
  pub storing_named : (put : Put) → storing ≡ Some put → IsNamed stores put

-- it has left, or stands first
pub record IsGoneOrFirst (puts standing : List Put) (put : Put) : Type 0 where
  pub has : Has puts put
  pub first : (one : Put) → Has (behind_first standing) one → put.place < one.place

abbrev pub AreTried : List Put → List Put → List Try → Type 0
AreTried puts standing tries = (one : Try) → Has tries one → IsGoneOrFirst puts standing one.put

pub record AreTaken (puts standing taken : List Put) : Type 0 where
  pub each : (put : Put) → Has taken put → IsGoneOrFirst puts standing put
  pub falls : NeverFalls taken
  pub folded_are : folded taken ≡ filter (is_among taken) puts

pub record AreCaused (removed : List Removal) (leaving : Option Cause) (standing taken : List Put) : Type 0 where
  pub each : (one : Removal) → Has removed one → one.cause ≡ cause.Confirmed → Has taken one.put
  pub pending :
      leaving ≡ Some cause.Confirmed → (put : Put) (rest : List Put) → standing ≡ put ∷ rest → Has taken put

abbrev pub AreResting : Option Cause → Option Put → Type 0
AreResting leaving storing = (why : Cause) → leaving ≡ Some why → storing ≡ None

pub record AreSound
    (count : ℕ) (stores : List Put) (storing : Option Put) (puts standing : List Put) (leaving : Option Cause)
    (removed : List Removal) (tries : List Try) (taken : List Put)
    : Type 0 where
  pub queued : AreQueued count puts removed standing storing
  pub named : AreNamed stores standing storing
  pub tried : AreTried puts standing tries
  pub are_taken : AreTaken puts standing taken
  pub caused : AreCaused removed leaving standing taken
  pub resting : AreResting leaving storing

-- ---- the place of the next entry

pub later-queued : (count next : ℕ) (puts : List Put) (removed : List Removal) (standing : List Put)
    (storing : Option Put)
    → count < next → AreQueued count puts removed standing storing → AreQueued next puts removed standing storing
later-queued count next puts removed standing storing more is = record {
  queue = is.queue;
  rising = is.rising;
  below = λ put has. let under = is.below put has in omega (arith, more, under);
  storing_below = λ put same. let under = is.storing_below put same in omega (arith, more, under);
  storing_last = is.storing_last;
}

-- ---- some leave from the front, and the one that was being stored may come behind

none-some : {X : Type 0} (x : X) → None ≡ Some x → ⊥
none-some x is = cc

pub stored-is : {X : Type 0} (stored : Bool) (storing : Option X) (x : X) → Has (stored_if stored storing) x
    → storing ≡ Some x
stored-is true None x is = absurd is
stored-is true (Some y) x (inl same) = ap Some (sym same)
stored-is true (Some y) x (inr is) = absurd is
stored-is false storing x is = absurd is

stored-rising : {X : Type 0} (key : X → ℕ) (stored : Bool) (storing : Option X) → Rising key (stored_if stored storing)
stored-rising key true None = tt
stored-rising key true (Some x) = (λ y is. absurd is, tt)
stored-rising key false storing = tt

removed-puts : (why : Cause) (puts : List Put) → map put_of (map (removal_for why) puts) ≡ puts
removed-puts why [] = refl
removed-puts why (put ∷ puts) = ap (λ (ps : List Put). put ∷ ps) (removed-puts why puts)

pub map-append : {X Y : Type 0} (f : X → Y) (xs ys : List X) → map f (xs ++ ys) ≡ map f xs ++ map f ys
map-append f [] ys = refl
map-append f (x ∷ xs) ys = ap (λ zs. f x ∷ zs) (map-append f xs ys)

too-few-two : (n : ℕ) → suc (suc n) ≤ 1 → ⊥
too-few-two n few = omega (arith, few)

gone-are : (leaving : Option Cause) (missing : ℕ) (standing : List Put) → missing ≤ leaving_of leaving (length standing)
    → map put_of (removed_for leaving (take missing standing)) ≡ take missing standing
gone-are None zero standing few = refl
gone-are None (suc missing) standing few = absurd (too-few missing few)
gone-are (Some why) missing standing few = removed-puts why (take missing standing)

new-caused : (leaving : Option Cause) (missing : ℕ) (standing taken : List Put)
    → missing ≤ leaving_of leaving (length standing)
    → (leaving ≡ Some cause.Confirmed → (put : Put) (rest : List Put) → standing ≡ put ∷ rest → Has taken put)
    → (one : Removal) → Has (removed_for leaving (take missing standing)) one → one.cause ≡ cause.Confirmed
    → Has taken one.put
new-caused None missing standing taken few pending one is for_it = absurd is
new-caused (Some cause.Confirmed) zero standing taken few pending one is for_it = absurd is
new-caused (Some cause.Confirmed) (suc missing) [] taken few pending one is for_it = absurd is
new-caused (Some cause.Confirmed) (suc zero) (put ∷ rest) taken few pending one (inl same) for_it =
    subst (λ (r : Removal). Has taken r.put) (sym same) (pending refl put rest refl)
new-caused (Some cause.Confirmed) (suc zero) (put ∷ rest) taken few pending one (inr is) for_it = absurd is
new-caused (Some cause.Confirmed) (suc (suc missing)) (put ∷ rest) taken few pending one has for_it =
    absurd (too-few-two missing few)
new-caused (Some cause.Purged) missing standing taken few pending one has for_it =
    let it = has-mapped (removal_for cause.Purged) (take missing standing) one has in
    let same = ap (λ (r : Removal). r.cause) it.2 in cc
new-caused (Some cause.Overwritten) missing standing taken few pending one has for_it =
    let it = has-mapped (removal_for cause.Overwritten) (take missing standing) one has in
    let same = ap (λ (r : Removal). r.cause) it.2 in cc

module _
    (count next : ℕ) (more : count < next) (stores : List Put) (storing : Option Put) (puts standing : List Put)
    (leaving : Option Cause) (removed : List Removal) (tries : List Try) (taken : List Put)
    (is : AreSound count stores storing puts standing leaving removed tries taken)
    (missing : ℕ) (stored : Bool) (few : missing ≤ leaving_of leaving (length standing))
  where
    abbrev behind : List Put
    behind = stored_if stored storing

    abbrev left : List Put
    left = drop missing standing ++ behind

    abbrev gone : List Removal
    gone = removed ++ removed_for leaving (take missing standing)

    moved-queued : AreQueued next (puts ++ behind) gone left None
    moved-queued = record {
      queue =
          ap (λ (ps : List Put). ps ++ behind) is.queued.queue
          ∙ ap (λ (ps : List Put). (map put_of removed ++ ps) ++ behind) (sym (take-append-drop missing standing))
          ∙ ap (λ (ps : List Put). ps ++ behind)
          (sym (append_assoc (map put_of removed) (take missing standing) (drop missing standing)))
          ∙ append_assoc (map put_of removed ++ take missing standing) (drop missing standing) behind
          ∙ ap (λ (ps : List Put). (map put_of removed ++ ps) ++ left) (sym (gone-are leaving missing standing few))
          ∙ ap (λ (ps : List Put). ps ++ left)
          (sym (map-append put_of removed (removed_for leaving (take missing standing))));
      rising =
          rising-append place_of puts behind is.queued.rising (stored-rising place_of stored storing)
          (λ x y h k. is.queued.storing_last y (stored-is stored storing y k) x h);
      below = λ put has. under put (has-either puts behind put has);
      storing_below = λ put same. absurd (none-some put same);
      storing_last = λ put same. absurd (none-some put same);
    }
      where
        under : (put : Put) → Has puts put ⊎ Has behind put → put.place < next
        under put (inl has) = let low = is.queued.below put has in omega (arith, more, low)
        under put (inr has) =
            let low = is.queued.storing_below put (stored-is stored storing put has) in omega (arith, more, low)

    pub moved-named : AreNamed stores left None
    moved-named = record {
      rising =
          rising-append number_of (drop missing standing) behind
          (rising-drop number_of missing standing is.named.rising) (stored-rising number_of stored storing)
          (λ x y h k. is.named.above y (stored-is stored storing y k) x (has-drop missing standing x h));
      above = λ put same. absurd (none-some put same);
      named = λ put has. name put (has-either (drop missing standing) behind put has);
      storing_named = λ put same. absurd (none-some put same);
    }
      where
        name : (put : Put) → Has (drop missing standing) put ⊎ Has behind put → IsNamed stores put
        name put (inl has) = is.named.named put (has-drop missing standing put has)
        name put (inr has) = is.named.storing_named put (stored-is stored storing put has)

    moved-first : (put : Put) → IsGoneOrFirst puts standing put → IsGoneOrFirst (puts ++ behind) left put
    moved-first put it = record {
      has = has-front puts behind put it.has;
      first = λ one has. over one (behind-moved missing standing behind one has);
    }
      where
        over : (one : Put) → Has (behind_first standing) one ⊎ Has behind one → put.place < one.place
        over one (inl has) = it.first one has
        over one (inr has) = is.queued.storing_last one (stored-is stored storing one has) put it.has

    moved-taken : AreTaken (puts ++ behind) left taken
    moved-taken = record {
      each = λ put has. moved-first put (is.are_taken.each put has);
      falls = is.are_taken.falls;
      folded_are =
          is.are_taken.folded_are
          ∙ sym (filter-append (is_among taken) puts behind
          ∙ ap (λ (ps : List Put). filter (is_among taken) puts ++ ps)
          (filter-none (is_among taken) behind (λ put has. among-not taken put (λ one h at. apart put has one h at)))
          ∙ append-nil (filter (is_among taken) puts));
    }
      where
        apart : (put : Put) → Has behind put → (one : Put) → Has taken one → one.place ≡ put.place → ⊥
        apart put has one h at =
            let under = is.queued.storing_last put (stored-is stored storing put has) one
            (is.are_taken.each one h).has in
            omega (arith, under, at)

    moved-caused : AreCaused gone None left taken
    moved-caused = record {
      each = λ one has for_it. of one (has-either removed (removed_for leaving (take missing standing)) one has) for_it;
      pending = λ same. absurd (none-some cause.Confirmed same);
    }
      where
        of : (one : Removal) → Has removed one ⊎ Has (removed_for leaving (take missing standing)) one
            → one.cause ≡ cause.Confirmed → Has taken one.put
        of one (inl has) for_it = is.caused.each one has for_it
        of one (inr has) for_it = new-caused leaving missing standing taken few is.caused.pending one has for_it

    pub moved : (puts_now standing_now : List Put) (removed_now : List Removal) → puts_now ≡ puts ++ behind
        → standing_now ≡ left → removed_now ≡ gone
        → AreSound next stores None puts_now standing_now None removed_now tries taken
    moved puts_now standing_now removed_now puts_are standing_are removed_are =
        subst (λ (ps : List Put). AreSound next stores None ps standing_now None removed_now tries taken) (sym puts_are)
        (subst (λ (ss : List Put). AreSound next stores None (puts ++ behind) ss None removed_now tries taken)
        (sym standing_are)
        (subst (λ (rs : List Removal). AreSound next stores None (puts ++ behind) left None rs tries taken)
        (sym removed_are)
        (record {
          queued = moved-queued;
          named = moved-named;
          tried = λ one has. moved-first one.put (is.tried one has);
          are_taken = moved-taken;
          caused = moved-caused;
          resting = λ why same. absurd (none-some why same);
        })))

-- ---- a message was stored, or is gone

pub sound-stored : (count next : ℕ) → count < next → (stores : List Put) (storing : Option Put)
    (puts standing : List Put)
    (leaving : Option Cause) (removed : List Removal) (tries : List Try) (taken : List Put)
    → (storing ≡ None → ⊥)
    → AreSound count stores storing puts standing leaving removed tries taken
    → AreSound next stores None (puts ++ option_to_list storing) (standing ++ option_to_list storing) leaving removed
    tries taken
sound-stored count next more stores storing puts standing (Some why) removed tries taken some is =
    absurd (some (is.resting why refl))
sound-stored count next more stores storing puts standing None removed tries taken some is =
    moved count next more stores storing puts standing None removed tries taken is 0 true (omega arith)
    (puts ++ option_to_list storing) (standing ++ option_to_list storing) removed refl refl (sym (append-nil removed))

pub sound-gone : (count next : ℕ) → count < next → (stores : List Put) (storing : Option Put) (puts standing : List Put)
    (leaving : Option Cause) (removed : List Removal) (tries : List Try) (taken : List Put)
    → (leaving ≡ None → ⊥)
    → AreSound count stores storing puts standing leaving removed tries taken
    → AreSound next stores storing puts (staying_puts leaving standing) None
    (removed ++ removed_for leaving (leaving_puts leaving standing)) tries taken
sound-gone count next more stores storing puts standing None removed tries taken some is = absurd (some refl)
sound-gone count next more stores storing puts standing (Some why) removed tries taken some is =
    subst
    (λ (o : Option Put). AreSound next stores o puts (staying_puts (Some why) standing) None
    (removed ++ removed_for (Some why) (leaving_puts (Some why) standing)) tries taken)
    (sym (is.resting why refl))
    (moved count next more stores storing puts standing (Some why) removed tries taken is
    (leaving_of (Some why) (length standing)) false (omega arith) puts (staying_puts (Some why) standing)
    (removed ++ removed_for (Some why) (leaving_puts (Some why) standing)) (sym (append-nil puts))
    (sym (append-nil (staying_puts (Some why) standing))) refl)

-- ---- a message is to be stored

number-other : (number other : ℕ) → other < number → (number == other) ≡ false
number-other number other less = grind (arith, nat_tests)

number-same : (number : ℕ) → (number == number) ≡ true
number-same number = grind (arith, nat_tests)

pub sound-stores : (count next : ℕ) → count < next → (stores : List Put) (put : Put) (puts standing : List Put)
    (leaving : Option Cause) (removed : List Removal) (tries : List Try) (taken : List Put)
    → leaving ≡ None → put.place ≡ count → ((one : Put) → Has standing one → one.number < put.number)
    → (storing : Option Put) → AreSound count stores storing puts standing leaving removed tries taken
    → AreSound next (put ∷ stores) (Some put) puts standing leaving removed tries taken
sound-stores count next more stores put puts standing leaving removed tries taken rests here above storing is = record {
  queued = record {
    queue = is.queued.queue;
    rising = is.queued.rising;
    below = λ one has. let under = is.queued.below one has in omega (arith, under, more);
    storing_below = λ one same. let at = ap place_of (it one same) in omega (arith, at, here, more);
    storing_last = λ one same before has.
        let at = ap place_of (it one same) in let under = is.queued.below before has in omega (arith, at, here, under);
  };
  named = record {
    rising = is.named.rising;
    above = λ one same before has.
        let at = ap number_of (it one same) in let under = above before has in omega (arith, at, under);
    named = λ one has.
        ap (λ (b : Bool). if b then Some put else named_in one.number) (number-other put.number one.number
        (above one has))
        ∙ is.named.named one has;
    storing_named = λ one same.
        subst (λ (p : Put). IsNamed (put ∷ stores) p) (it one same)
        (ap (λ (b : Bool). if b then Some put else named_in put.number) (number-same put.number));
  };
  tried = is.tried;
  are_taken = is.are_taken;
  caused = is.caused;
  resting = λ why same. absurd (none-some why (sym rests ∙ same));
}
  where
    named_in : ℕ → Option Put
    named_in number = named_by number stores

    it : (one : Put) → Some put ≡ Some one → put ≡ one
    it one same = cc

-- ---- a message is leaving

some-same : {X : Type 0} (x y : X) → Some x ≡ Some y → x ≡ y
some-same x y same = cc

pub sound-leaves : (count next : ℕ) → count < next → (stores : List Put) (storing : Option Put)
    (puts standing : List Put)
    (leaving : Option Cause) (removed : List Removal) (tries : List Try) (taken : List Put) (why : Cause)
    → storing ≡ None
    → (why ≡ cause.Confirmed → (put : Put) (rest : List Put) → standing ≡ put ∷ rest → Has taken put)
    → AreSound count stores storing puts standing leaving removed tries taken
    → AreSound next stores storing puts standing (Some why) removed tries taken
sound-leaves count next more stores storing puts standing leaving removed tries taken why rests confirmed is = record {
  queued = later-queued count next puts removed standing storing more is.queued;
  named = is.named;
  tried = is.tried;
  are_taken = is.are_taken;
  caused = record {
    each = is.caused.each;
    pending = λ same put rest first. confirmed (some-same why cause.Confirmed same) put rest first;
  };
  resting = λ other same. rests;
}

-- ---- a try

pub first-is : (puts : List Put) (removed : List Removal) (put : Put) (rest : List Put) → Rising place_of puts
    → puts ≡ map put_of removed ++ put ∷ rest → IsGoneOrFirst puts (put ∷ rest) put
first-is puts removed put rest rising queue = record {
  has = subst (λ (ps : List Put). Has ps put) (sym queue) (has-back (map put_of removed) (put ∷ rest) put (inl refl));
  first = λ one has.
      (rising-back place_of (map put_of removed) (put ∷ rest)
      (subst (λ (ps : List Put). Rising place_of ps) queue rising)).0
      one has;
}

tries-more : (puts standing : List Put) (removed : List Removal) (number system : ℕ) (tries : List Try)
    → Rising place_of puts → puts ≡ map put_of removed ++ standing → AreTried puts standing tries
    → AreTried puts standing (tried_first standing number system tries)
tries-more puts [] removed number system tries rising queue are = are
tries-more puts (put ∷ rest) removed number system tries rising queue are = go (put.number == number)
  where
    go : (test : Bool)
        → AreTried puts (put ∷ rest) (if test then record { system = system; put = put } ∷ tries else tries)
    go false = are
    go true = member
      where
        member : AreTried puts (put ∷ rest) (record { system = system; put = put } ∷ tries)
        member one (inl same) =
            subst (λ (p : Put). IsGoneOrFirst puts (put ∷ rest) p) (sym (ap (λ (t : Try). t.put) same))
            (first-is puts removed put rest rising queue)
        member one (inr has) = are one has

pub sound-tries : (count next : ℕ) → count < next → (stores : List Put) (storing : Option Put)
    (puts standing : List Put)
    (leaving : Option Cause) (removed : List Removal) (tries : List Try) (taken : List Put) (number system : ℕ)
    → AreSound count stores storing puts standing leaving removed tries taken
    → AreSound next stores storing puts standing leaving removed (tried_first standing number system tries) taken
sound-tries count next more stores storing puts standing leaving removed tries taken number system is = record {
  queued = later-queued count next puts removed standing storing more is.queued;
  named = is.named;
  tried = tries-more puts standing removed number system tries is.queued.rising is.queued.queue is.tried;
  are_taken = is.are_taken;
  caused = is.caused;
  resting = is.resting;
}

-- ---- the host takes

pub tried-member : (system : ℕ) (tries : List Try) (put : Put) → tried_with system tries ≡ Some put
    → (one : Try) × Has tries one × (one.put ≡ put) × (one.system ≡ system)
tried-member system [] put is = cc
tried-member system (one ∷ before) put is = go (one.system == system) refl (tried-member system before put) is
  where
    Found : List Try → Type 0
    Found within = (it : Try) × Has within it × (it.put ≡ put) × (it.system ≡ system)

    go : (test : Bool) → (one.system == system) ≡ test → (tried_with system before ≡ Some put → Found before)
        → (if test then Some one.put else tried_with system before) ≡ Some put → Found (one ∷ before)
    go true equal later found = let same : one.put ≡ put = cc in (one, inl refl, same, grind (arith, nat_tests))
    go false equal later found = let it = later found in (it.0, inr it.1, it.2, it.3)

taken-more : (puts standing taken : List Put) (put : Put) → Rising place_of puts → AreTaken puts standing taken
    → IsGoneOrFirst puts standing put → AllUpTo taken put → AreTaken puts standing (taken ++ put ∷ [])
taken-more puts standing taken put rising are it up_to = record {
  each = λ one has. go one (has-either taken (put ∷ []) one has);
  falls = falls-more taken put are.falls up_to;
  folded_are = fold-more taken put puts rising it.has are.falls up_to are.folded_are;
}
  where
    go : (one : Put) → Has taken one ⊎ Has (put ∷ []) one → IsGoneOrFirst puts standing one
    go one (inl has) = are.each one has
    go one (inr (inl same)) = subst (λ (p : Put). IsGoneOrFirst puts standing p) (sym same) it
    go one (inr (inr is)) = absurd is

caused-more : (removed : List Removal) (leaving : Option Cause) (standing taken more : List Put)
    → AreCaused removed leaving standing taken → AreCaused removed leaving standing (taken ++ more)
caused-more removed leaving standing taken more is = record {
  each = λ one has for_it. has-front taken more one.put (is.each one has for_it);
  pending = λ same put rest first. has-front taken more put (is.pending same put rest first);
}

pub sound-takes : (count next : ℕ) → count < next → (stores : List Put) (storing : Option Put)
    (puts standing : List Put)
    (leaving : Option Cause) (removed : List Removal) (tries : List Try) (taken : List Put) (put : Put) (system : ℕ)
    → tried_with system tries ≡ Some put → AllUpTo taken put
    → AreSound count stores storing puts standing leaving removed tries taken
    → AreSound next stores storing puts standing leaving removed tries (taken ++ put ∷ [])
sound-takes count next more stores storing puts standing leaving removed tries taken put system found up_to is =
    let it = tried-member system tries put found in
    let first = subst (λ (p : Put). IsGoneOrFirst puts standing p) it.2 (is.tried it.0 it.1) in
    record {
      queued = later-queued count next puts removed standing storing more is.queued;
      named = is.named;
      tried = is.tried;
      are_taken = taken-more puts standing taken put is.queued.rising is.are_taken first up_to;
      caused = caused-more removed leaving standing taken (put ∷ []) is.caused;
      resting = is.resting;
    }

pub sound-later : (count next : ℕ) → count < next → (stores : List Put) (storing : Option Put)
    (puts standing : List Put)
    (leaving : Option Cause) (removed : List Removal) (tries : List Try) (taken : List Put)
    → AreSound count stores storing puts standing leaving removed tries taken
    → AreSound next stores storing puts standing leaving removed tries taken
sound-later count next more stores storing puts standing leaving removed tries taken is = record {
  queued = later-queued count next puts removed standing storing more is.queued;
  named = is.named;
  tried = is.tried;
  are_taken = is.are_taken;
  caused = is.caused;
  resting = is.resting;
}
