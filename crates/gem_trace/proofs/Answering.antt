-- What an accepted S2F23 says, and how many traces run.
use Rattle.std.proofs.Common.{◌≡◌, refl, ap, arith, Bool, true, false, cond, ◌||◌, not, ℕ, ◌*◌, ◌<◌, ◌≤◌, ◌==◌, List, [], ◌∷◌, filter, filter_map, length, nat_lt, is_none, option_map, option_to_list, Option, Some, None}
use Rattle.std.specs.List.{cons_option}
use Rattle.std.proofs.lemmas.Bool.{leb-false}
use Rattle.std.proofs.lemmas.Bool.Decides.{nat_tests}
use Rattle.std.proofs.lemmas.List.{length-append}
use Rattle.gem_vars.specs.Tables.{VarsTable}
use Rattle.gem_trace.specs.declared.request.TraceRequest.{TraceRequest}
use Rattle.gem_trace.specs.declared.request.Tiaack.TheVariants as tiaack
use Rattle.gem_trace.specs.Period.{period_of}
use Rattle.gem_trace.specs.Settings.{answer_of, answer_to_svids, first_unknown, is_bad_group, is_full_for, tiaack_of}
use Rattle.gem_trace.specs.Traces.{Running, after_samples, after_setting, bodies_due, body_due, after_step, first_trace, others, set_trace}

done_says :
    (bad many : Bool) (unknown : Option ℕ) (full : Bool)
    → cond bad tiaack.BadGroup (cond many tiaack.TooMany (answer_to_svids unknown full)) ≡ tiaack.Done
    → (bad ≡ false) × (full ≡ false)
done_says true many unknown full is = absurd (cc)
done_says false true unknown full is = absurd (cc)
done_says false false (Some svid) full is = absurd (cc)
done_says false false None true is = absurd (cc)
done_says false false None false is = (refl, refl)

module _ (vars : VarsTable) (running : List Running) (request : TraceRequest)
    (done : answer_of vars running request ≡ tiaack.Done) where
  both : (is_bad_group request ≡ false) × (is_full_for request.trid running ≡ false)
  both =
      done_says (is_bad_group request) (nat_lt 256 (length request.svids)) (first_unknown vars request.svids)
      (is_full_for request.trid running) done

  pub group_of_done : 0 < request.group
  group_of_done = go (request.group == 0) refl both.0
    where
      go : (none : Bool) → (request.group == 0) ≡ none
          → ((none || nat_lt request.total request.group) || nat_lt 4096 (request.group * length request.svids)) ≡ false
          → 0 < request.group
      go true is bad = absurd (cc)
      go false some bad = grind (arith, nat_tests)

  pub room_of_done : length (others request.trid running) < 16
  room_of_done = leb-false 16 (length (others request.trid running)) both.1

no-longer : {X Y : Type 0} (f : X → Option Y) (xs : List X) → length (filter_map f xs) ≤ length xs
no-longer f [] = omega arith
no-longer {X} {Y} f (x ∷ xs) = go (f x) (no-longer f xs)
  where
    go : (o : Option Y) → length (filter_map f xs) ≤ length xs
        → length (cons_option o (filter_map f xs)) ≤ length (x ∷ xs)
    go None less = omega arith
    go (Some y) less = omega arith

fewer : {X : Type 0} (test : X → Bool) (xs : List X) → length (filter test xs) ≤ length xs
fewer test [] = omega arith
fewer test (x ∷ xs) = go (test x) (fewer test xs)
  where
    go : (b : Bool) → length (filter test xs) ≤ length xs
        → length (cond b (x ∷ filter test xs) (filter test xs)) ≤ length (x ∷ xs)
    go true less = omega arith
    go false less = omega arith

one-at-most : {X : Type 0} (o : Option X) → length (option_to_list o) ≤ 1
one-at-most None = omega arith
one-at-most (Some x) = omega arith

pub few_set :
    (vars : VarsTable) (running : List Running) (request : TraceRequest) (now : ℕ) → length running ≤ 16
    → tiaack_of vars running request ≡ tiaack.Done → length (after_setting request now running) ≤ 16
few_set vars running request now few done = go (request.total == 0) refl (is_none (period_of request.dsper)) done
  where
    rest : List Running
    rest = others request.trid running

    go : (none : Bool) → (request.total == 0) ≡ none → (short : Bool)
        → cond none tiaack.Done (cond short tiaack.BadPeriod (answer_of vars running request)) ≡ tiaack.Done
        → length (after_setting request now running) ≤ 16
    go true none short is =
        let long = length-append rest (option_to_list (set_trace request now)) in
        let less = fewer (λ (trace : Running). not (trace.trid == request.trid)) running in
        let empty : length (option_to_list (set_trace request now)) ≡ 0 =
        ap (λ (b : Bool). length
        (option_to_list (cond b None (option_map (first_trace request now) (period_of request.dsper))))) none in
        omega arith
    go false none true is = absurd (cc)
    go false none false is =
        let long = length-append rest (option_to_list (set_trace request now)) in
        let less = room_of_done vars running request is in
        let one = one-at-most (set_trace request now) in
        omega arith

pub few_left :
    (vars : VarsTable) (now : ℕ) (running : List Running) → length (after_samples vars now running) ≤ length running
few_left vars now running = no-longer (after_step vars now) running

pub few_bodies :
    (vars : VarsTable) (now : ℕ) (running : List Running) → length (bodies_due vars now running) ≤ length running
few_bodies vars now running = no-longer (body_due vars now) running
