-- Reads, and more reads.
use Rattle.std.proofs.Common.{◌≡◌, ◌⊎◌, ℕ, zero, suc, subst, ◌+◌, ◌<◌, ◌≤◌, inl, inr, List, [], ◌∷◌, ◌++◌}
use Rattle.std.proofs.Common.{get_or, length-append, append_assoc, append-nil, Option, Some, None, refl, sym, ap, ◌∙◌}
use Rattle.std.proofs.Common.{arith}
use Rattle.std.proofs.lemmas.Bool.{cases_eq}
use Rattle.std.proofs.lemmas.List.Elements.{All-append}
use Rattle.std.specs.List.{All}
use Rattle.std.specs.Option.{option_map}
use Rattle.disk_base.specs.Calls.{DiskCall, Logs, read_call}
use Rattle.disk_base.specs.Faults.{DiskHealth, HasCause, IsLeftOut}
use Rattle.disk_base.specs.declared.disk.CallKind.TheVariants.{Read}
use Rattle.disk_base.specs.declared.disk.DiskAnswer.{DiskAnswer}
use Rattle.disk_base.specs.declared.disk.DiskAnswer.TheVariants.{Done, Failed}
use Rattle.disk_base.proofs.Stretches.{cause_behind, fault_wider, used_none}
use Rattle.spool_file.specs.Logs.{LogsAll, MakesAll, calls_below}
use Rattle.spool_file.specs.Reading.{FrontSays, reading_answer}
use Rattle.spool_file.specs.Reads.{HasRead, looks_at, start_look}
use Rattle.spool_file.specs.declared.front.Front.{Front}
use Rattle.spool_file.specs.declared.reading.Reading.{Reading}
use Rattle.spool_file.specs.declared.reading.Reading.TheVariants as reading
use Rattle.spool_file.proofs.Making.{makes_before, makes_then}

pub nothing_more : (calls : Option (List DiskCall)) → calls ≡ option_map (λ (all : List DiskCall). all ++ []) calls
nothing_more None = refl
nothing_more (Some all) = ap Some (sym (append-nil all))

pub both_more : (first last : List DiskCall) (calls : Option (List DiskCall)) →
    option_map (λ (all : List DiskCall). all ++ last) (option_map (λ (all : List DiskCall). all ++ first) calls)
    ≡ option_map (λ (all : List DiskCall). all ++ (first ++ last)) calls
both_more first last None = refl
both_more first last (Some all) = ap Some (append_assoc all first last)

pub none_read : (a : DiskHealth) (k : Option (List DiskCall)) → HasRead a a k k 0 Done
none_read a k = record {
  made = 0;
  few = omega arith;
  cause = used_none a;
  more = [];
  calls = nothing_more k;
  reads = λ i d below. absurd (omega (arith, below));
  short = omega arith;
}

-- a list of one read
read_alone : (call : DiskCall) → call.kind ≡ Read → All (λ (c : DiskCall). c.kind ≡ Read) (call ∷ [])
read_alone call is i d below =
    let first : i ≡ 0 = omega (arith, below) in subst (λ (n : ℕ). (get_or (call ∷ []) n d).kind ≡ Read) (sym first) is

module _ {a b : DiskHealth} {k l : Option (List DiskCall)} where
  -- a read by its call
  pub one_read : (at there size long : ℕ) (answer : DiskAnswer) → at ≡ there → size ≡ long → HasCause a b 1 0 ⊥ answer →
      Logs (read_call at size) (IsLeftOut a b 0 0) k l answer → MakesAll a b k l (read_call there long Done ∷ []) answer
  one_read at there size long answer is same cause logs =
      subst (λ (n : ℕ). MakesAll a b k l (read_call there n Done ∷ []) answer) same
      (subst (λ (p : ℕ). MakesAll a b k l (read_call p size Done ∷ []) answer) is (made answer cause logs)) where
        made : (answer : DiskAnswer) → HasCause a b 1 0 ⊥ answer →
            Logs (read_call at size) (IsLeftOut a b 0 0) k l answer →
            MakesAll a b k l (read_call at size Done ∷ []) answer
        made Done cause logs = record { cause = cause; logs = logs }
        made Failed cause logs =
            record {
              cause = fault_wider a b 1 1 ⊥ (a.room < 0) (omega arith) (λ none. absurd none) cause;
              logs =
                  inl logs;
            }

  pub read_of : (at size : ℕ) (answer : DiskAnswer) → MakesAll a b k l (read_call at size Done ∷ []) answer →
      HasRead a b k l 1 answer
  read_of at size Done is = record {
    made = 1;
    few = omega arith;
    cause = is.cause;
    more = read_call at size Done ∷ [];
    calls = is.logs;
    reads = read_alone (read_call at size Done) refl;
    short = omega arith;
  }
  read_of at size Failed is = by_log is.logs where
    cause : HasCause a b 1 0 ⊥ Failed
    cause = fault_wider a b 1 1 (a.room < 0) ⊥ (omega arith) (λ less. omega (arith, less)) is.cause

    by_log : LogsAll (read_call at size Done ∷ []) (IsLeftOut a b) k l Failed → HasRead a b k l 1 Failed
    by_log (inl (inl none)) = record {
      made = 1;
      few = omega arith;
      cause = cause;
      more = [];
      calls = none.1 ∙ nothing_more k;
      reads = λ i d below. absurd (omega (arith, below));
      short = omega arith;
    }
    by_log (inl (inr logs)) = record {
      made = 1;
      few = omega arith;
      cause = cause;
      more = read_call at size Failed ∷ [];
      calls = logs;
      reads = read_alone (read_call at size Failed) refl;
      short = omega arith;
    }
    by_log (inr none) = absurd none

pub read_behind : (a b c : DiskHealth) (k l m : Option (List DiskCall)) (most other all : ℕ) (answer : DiskAnswer) →
    most + other ≤ all →
    HasRead a b k l most Done → HasRead b c l m other answer → HasRead a c k m all answer
read_behind a b c k l m most other all answer sum first second = record {
  made = first.made + second.made;
  few = omega (arith, sum, first.few, second.few);
  cause = cause_behind a b first.made 0 first.cause c second.made 0 (first.made + second.made) 0 ⊥ ⊥ answer refl refl
      (λ none. none) second.cause;
  more = first.more ++ second.more;
  calls = second.calls ∙ ap (option_map (λ (all : List DiskCall). all ++ second.more)) first.calls
      ∙ both_more first.more second.more k;
  reads = All-append (λ (call : DiskCall). call.kind ≡ Read) first.more second.more first.reads second.reads;
  short = omega (arith, length-append first.more second.more, first.short, second.short);
}

pub read_wider : (a b : DiskHealth) (k l : Option (List DiskCall)) (most all : ℕ) (answer : DiskAnswer) → most ≤ all →
    HasRead a b k l most answer →
    HasRead a b k l all answer
read_wider a b k l most all answer wide is = record {
  made = is.made;
  few = omega (arith, wide, is.few);
  cause = is.cause;
  more = is.more;
  calls = is.calls;
  reads = is.reads;
  short = is.short;
}

-- reads behind the calls that were listed before
pub read_from : {a b : DiskHealth} {k l m : Option (List DiskCall)} {most : ℕ} {answer : DiskAnswer} → l ≡ k →
    HasRead a b l m most answer →
    HasRead a b k m most answer
read_from {a} {b} {k} {l} {m} {most} {answer} same is =
    subst (λ (o : Option (List DiskCall)). HasRead a b o m most answer) same is

-- a reading of the front that isn't a fault of the disk
pub front_looked : (front : List ℕ) (size : ℕ) (r : Reading Front) {a b : DiskHealth} {k l : Option (List DiskCall)}
    {calls : List DiskCall} →
    FrontSays front size r → MakesAll a b k l calls Done → MakesAll a b k l calls (reading_answer r)
front_looked front size (reading.Whole found) says is = is
front_looked front size (reading.Broken break) says is = is
front_looked front size reading.Failed says is = absurd says

-- the calls of some first steps, and of one more
module _ (calls : ℕ → List DiskCall) where
  pub calls_on : (n : ℕ) → calls_below calls (n + 1) ≡ calls_below calls n ++ calls n
  calls_on n = let more : n + 1 ≡ suc n = omega arith in ap (calls_below calls) more

  calls_among : (k n : ℕ) → (k ≡ n) ⊎ (k ≡ n → ⊥) → k < suc n →
      (k < n → (rest : List DiskCall) × (calls_below calls n ≡ (calls_below calls k ++ calls k) ++ rest)) →
      (rest : List DiskCall) × (calls_below calls (suc n) ≡ (calls_below calls k ++ calls k) ++ rest)
  calls_among k n (inl same) below before = (
    [],
    ap (λ (i : ℕ). calls_below calls i ++ calls i) (sym same) ∙ sym (append-nil (calls_below calls k ++ calls k)),
  )
  calls_among k n (inr other) below before =
      let r = before (grind (arith, below, other)) in (
        r.0 ++ calls n,
        ap (λ (all : List DiskCall). all ++ calls n) r.1
            ∙ append_assoc (calls_below calls k ++ calls k) r.0 (calls n),
      )

  -- they are the first ones of all
  pub calls_first : (k n : ℕ) → k < n →
      (rest : List DiskCall) × (calls_below calls n ≡ (calls_below calls k ++ calls k) ++ rest)
  calls_first k zero below = absurd (omega (arith, below))
  calls_first k (suc n) below = calls_among k n (cases_eq k n) below (calls_first k n)

  pub calls_to : {a b : DiskHealth} {k l : Option (List DiskCall)} {answer : DiskAnswer} (n all : ℕ) → n ≡ all →
      MakesAll a b k l (calls_below calls n) answer → MakesAll a b k l (calls_below calls all) answer
  calls_to {a} {b} {k} {l} {answer} n all same is = subst (λ i. MakesAll a b k l (calls_below calls i) answer) same is

  module _ (a b c : DiskHealth) (k l m : Option (List DiskCall)) where
    pub one_more_step : (n : ℕ) (answer : DiskAnswer) → MakesAll a b k l (calls_below calls n) Done →
        MakesAll b c l m (calls n) answer → MakesAll a c k m (calls_below calls (n + 1)) answer
    one_more_step n answer first second =
        subst (λ (all : List DiskCall). MakesAll a c k m all answer) (sym (calls_on n))
        (makes_then a b c k l m (calls_below calls n) (calls n) answer first second)

    -- those of all, up to one that failed
    pub some_steps : (n all : ℕ) → n < all → MakesAll a b k l (calls_below calls n) Done →
        MakesAll b c l m (calls n) Failed → MakesAll a c k m (calls_below calls all) Failed
    some_steps n all below first second =
        let rest = calls_first n all below in
        subst (λ (all : List DiskCall). MakesAll a c k m all Failed) (sym rest.1)
        (makes_before a c k m (calls_below calls n ++ calls n) rest.0
        (makes_then a b c k l m (calls_below calls n) (calls n) Failed first second))

-- the reads of the slots at some first places
module _ (slot_of : ℕ → ℕ) where
  abbrev look : ℕ → List DiskCall
  look n = start_look (slot_of n)

  pub looks_to : {a b : DiskHealth} {k l : Option (List DiskCall)} {answer : DiskAnswer} (n all : ℕ) → n ≡ all →
      MakesAll a b k l (looks_at slot_of n) answer → MakesAll a b k l (looks_at slot_of all) answer
  looks_to {a} {b} {k} {l} {answer} n all same is = subst (λ i. MakesAll a b k l (looks_at slot_of i) answer) same is

  module _ (a b c : DiskHealth) (k l m : Option (List DiskCall)) where
    pub one_more_look : (n j : ℕ) (answer : DiskAnswer) → j ≡ slot_of n → MakesAll a b k l (looks_at slot_of n) Done →
        MakesAll b c l m (start_look j) answer → MakesAll a c k m (looks_at slot_of (n + 1)) answer
    one_more_look n j answer is first second =
        one_more_step look a b c k l m n answer first
        (subst (λ (i : ℕ). MakesAll b c l m (start_look i) answer) is second)

    pub some_looks : (n j all : ℕ) → j ≡ slot_of n → n < all → MakesAll a b k l (looks_at slot_of n) Done →
        MakesAll b c l m (start_look j) Failed → MakesAll a c k m (looks_at slot_of all) Failed
    some_looks n j all is below first second =
        some_steps look a b c k l m n all below first
        (subst (λ (i : ℕ). MakesAll b c l m (start_look i) Failed) is second)
