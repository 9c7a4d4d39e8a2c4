-- The traces after one entry more.
use Rattle.std.proofs.Common.{◌≡◌, refl, sym, ◌∙◌, ap, arith, Bool, true, false, cond, ◌&&◌, ◌||◌, not, ℕ, zero, suc, ◌+◌, ◌-◌, ◌%◌, ◌==◌, List, [], ◌∷◌, ◌++◌, drop, length, nat_le, Option, Some, None}
use Rattle.std.specs.List.{cons_option, filter_map, list_any}
use Rattle.std.specs.Option.{option_and_then, option_map, option_to_list}
use Rattle.std.proofs.lemmas.Bool.{eqb-true, le-leb, leb-true}
use Rattle.std.proofs.lemmas.Bool.Decides.{nat_tests}
use Rattle.std.proofs.lemmas.List.{append-nil, length-append}
use Rattle.std.proofs.lemmas.Grind.{flat_map-append}
use Rattle.std.proofs.lemmas.List.Elements.{filter_map-append}
use Rattle.std.proofs.lemmas.List.Folds.{list_any-append}
use Rattle.secs_items.specs.declared.item.Item.{Item}
use Rattle.gem_trace.specs.declared.request.TraceRequest.{TraceRequest}
use Rattle.gem_trace.specs.History.{Look, TraceEntry, bodies_at, body_behind, body_of, last_of, look_of, names, samples_of, sampled, since_last_body, trace_behind, traces_at, values_of, with_samples}
use Rattle.gem_trace.specs.History.TraceEntry.{Set, Step}
use Rattle.gem_trace.specs.Laws.{after_entry}
use Rattle.gem_trace.specs.Traces.{Running, after_step, bodies_due, body_due, body_item, ends_group, first_trace, others, readings, set_trace, with_sample}
use Rattle.gem_trace.specs.Period.{period_of}
use Rattle.gem_trace.proofs.Groups.{due_after, last-is, one-sample, since-more}

-- what an entry makes of one trace
abbrev pub step : TraceEntry → Running → Option Running
step (Set request now) trace = cond (trace.trid == request.trid) None (Some trace)
step (Step look) trace = after_step look.vars look.now trace

-- and the one that it sets
abbrev pub new_of : TraceEntry → List Running
new_of (Set request now) = option_to_list (set_trace request now)
new_of (Step look) = []

append-option : {X : Type 0} (o : Option X) (xs ys : List X) → cons_option o (xs ++ ys) ≡ cons_option o xs ++ ys
append-option None xs ys = refl
append-option (Some x) xs ys = refl

filter-option :
    {X Y : Type 0} (f : X → Option Y) (o : Option X) (xs : List X)
    → filter_map f (cons_option o xs) ≡ cons_option (option_and_then f o) (filter_map f xs)
filter-option f None xs = refl
filter-option f (Some x) xs = refl

-- the values with those of a sample more, unless an S6F1 was made of them
values-more :
    (first : Running) (samples : List Look) (look : Look)
    → values_of first.svids (since_last_body first.group (samples ++ look ∷ []))
    ≡ cond ((length samples + 1) % first.group == 0) []
    (values_of first.svids (since_last_body first.group samples) ++ readings look.vars first.svids)
values-more first samples look =
    ap (values_of first.svids) (since-more first.group samples look) ∙ go ((length samples + 1) % first.group == 0)
  where
    since : List Look
    since = since_last_body first.group samples

    go : (b : Bool) → values_of first.svids (cond b [] (since ++ look ∷ []))
        ≡ cond b [] (values_of first.svids since ++ readings look.vars first.svids)
    go true = refl
    go false =
        flat_map-append (λ (l : Look). readings l.vars first.svids) since (look ∷ [])
        ∙ ap (λ vs. values_of first.svids since ++ vs) (append-nil (readings look.vars first.svids))

module _ (first : Running) (set_at : ℕ) (samples : List Look) (look : Look) where
  longer : length (samples ++ look ∷ []) ≡ length samples + 1
  longer = length-append samples (look ∷ [])

  abbrev was : Running
  was = with_samples first set_at samples

  -- a trace that goes on behind a sample
  goes-on :
      (length samples + 1 == first.total) ≡ false
      → with_samples first set_at (samples ++ look ∷ []) ≡ with_sample look.vars look.now was
  goes-on more =
      ap (λ (d : ℕ). with_all (d + first.period) (length (samples ++ look ∷ [])) after) (last-is set_at samples look)
      ∙ ap (λ (n : ℕ). with_all (look.now + first.period) n after) longer
      ∙ ap (with_all (look.now + first.period) (length samples + 1))
      (values-more first samples look ∙ go ((length samples + 1) % first.group == 0))
    where
      with_all : ℕ → ℕ → List Item → Running
      with_all due taken values = record first { due = due; taken = taken; values = values }

      after : List Item
      after = values_of first.svids (since_last_body first.group (samples ++ look ∷ []))

      all : List Item
      all = values_of first.svids (since_last_body first.group samples) ++ readings look.vars first.svids

      go : (b : Bool) → cond b [] all ≡ cond (b || (length samples + 1 == first.total)) [] all
      go true = refl
      go false = sym (ap (λ (e : Bool). cond e [] all) more)

  -- a sample is taken
  taken :
      (last : Bool) → (length samples + 1 == first.total) ≡ last → nat_le first.total (length samples) ≡ false
      → sampled first set_at (samples ++ look ∷ []) ≡ cond last None (Some (with_sample look.vars look.now was))
  taken last is runs = go last is
    where
      runs-by : Bool → Option Running
      runs-by over = cond over None (Some (with_samples first set_at (samples ++ look ∷ [])))

      go : (b : Bool) → (length samples + 1 == first.total) ≡ b
          → sampled first set_at (samples ++ look ∷ []) ≡ cond b None (Some (with_sample look.vars look.now was))
      go true same =
          let all : length samples + 1 ≡ first.total = eqb-true (length samples + 1) first.total same in
          let long = longer in
          ap runs-by (le-leb first.total (length (samples ++ look ∷ [])) (omega arith))
      go false other =
          let under : nat_le first.total (length samples + 1) ≡ false = grind (arith, nat_tests) in
          ap runs-by (ap (nat_le first.total) longer ∙ under) ∙ ap (λ (t : Running). Some t) (goes-on other)

  -- a trace behind a step, with a sample more where one is due
  sampled-more :
      sampled first set_at (samples ++ cond (due_after first.period set_at samples look) (look ∷ []) [])
      ≡ option_and_then (after_step look.vars look.now) (sampled first set_at samples)
  sampled-more = go (nat_le first.total (length samples)) refl (due_after first.period set_at samples look) refl
    where
      stepped : Bool → Option Running
      stepped due =
          cond due (cond (length samples + 1 == first.total) None (Some (with_sample look.vars look.now was))) (Some was)

      go : (over : Bool) → nat_le first.total (length samples) ≡ over
          → (due : Bool) → due_after first.period set_at samples look ≡ due
          → sampled first set_at (samples ++ cond due (look ∷ []) [])
          ≡ option_and_then (after_step look.vars look.now) (cond over None (Some was))
      go true over due is =
          let all = leb-true first.total (length samples) over in
          let long = length-append samples (cond due (look ∷ []) []) in
          ap (λ (b : Bool). cond b None (Some (with_samples first set_at (samples ++ cond due (look ∷ []) []))))
          (le-leb first.total (length (samples ++ cond due (look ∷ []) [])) (omega arith))
      go false over false is =
          ap (sampled first set_at) (append-nil samples) ∙ ap (λ (b : Bool). cond b None (Some was)) over
          ∙ sym (ap stepped is)
      go false over true is = taken (length samples + 1 == first.total) refl over ∙ sym (ap stepped is)

-- a trace behind an S2F23
sampled-named :
    (first : Running) (set_at : ℕ) (samples : List Look) (request : TraceRequest) (now : ℕ)
    → option_and_then (step (Set request now)) (sampled first set_at samples)
    ≡ cond (first.trid == request.trid) None (sampled first set_at samples)
sampled-named first set_at samples request now =
    go (nat_le first.total (length samples)) (first.trid == request.trid) refl
  where
    was : Running
    was = with_samples first set_at samples

    go : (over named : Bool) → (first.trid == request.trid) ≡ named
        → option_and_then (step (Set request now)) (cond over None (Some was))
        ≡ cond named None (cond over None (Some was))
    go true true is = refl
    go true false is = refl
    go false named is = ap (λ (b : Bool). cond b None (Some was)) is

behind-more :
    (later : List TraceEntry) (entry : TraceEntry) (set_at : ℕ) (first : Running)
    → trace_behind (later ++ entry ∷ []) set_at first ≡ option_and_then (step entry) (trace_behind later set_at first)
behind-more later (Set request now) set_at first =
    ap (λ (g : Bool). by g (filter_map look_of (later ++ Set request now ∷ [])))
    (list_any-append (names first.trid) later (Set request now ∷ []))
    ∙ ap (by (list_any (names first.trid) later || (first.trid == request.trid || false)))
    (filter_map-append look_of later (Set request now ∷ []) ∙ append-nil (filter_map look_of later))
    ∙ go (list_any (names first.trid) later) (first.trid == request.trid)
    (sampled-named first set_at (samples_of first.period set_at (filter_map look_of later)) request now)
  where
    by : Bool → List Look → Option Running
    by gone looks = cond gone None (sampled first set_at (samples_of first.period set_at looks))

    was : Option Running
    was = sampled first set_at (samples_of first.period set_at (filter_map look_of later))

    go : (gone named : Bool) → option_and_then (step (Set request now)) was ≡ cond named None was
        → cond (gone || (named || false)) None was ≡ option_and_then (step (Set request now)) (cond gone None was)
    go true named is = refl
    go false true is = sym is
    go false false is = sym is
behind-more later (Step look) set_at first =
    ap (λ (g : Bool). by g (filter_map look_of (later ++ Step look ∷ [])))
    (list_any-append (names first.trid) later (Step look ∷ []))
    ∙ ap (by (list_any (names first.trid) later || (false || false)))
    (filter_map-append look_of later (Step look ∷ []))
    ∙ ap (λ (ls : List Look). cond (list_any (names first.trid) later || (false || false)) None (sampled first set_at ls))
    (one-sample first.period set_at (filter_map look_of later) look)
    ∙ go (list_any (names first.trid) later) (sampled-more first set_at samples look)
  where
    by : Bool → List Look → Option Running
    by gone looks = cond gone None (sampled first set_at (samples_of first.period set_at looks))

    samples : List Look
    samples = samples_of first.period set_at (filter_map look_of later)

    more : List Look
    more = samples ++ cond (due_after first.period set_at samples look) (look ∷ []) []

    go : (gone : Bool) → sampled first set_at more ≡ option_and_then (step (Step look)) (sampled first set_at samples)
        → cond (gone || (false || false)) None (sampled first set_at more)
        ≡ option_and_then (step (Step look)) (cond gone None (sampled first set_at samples))
    go true is = refl
    go false is = is

none-left : (n : ℕ) → drop {A = Look} n [] ≡ []
none-left zero = refl
none-left (suc n) = refl

-- a trace that was set just now
new-is :
    (request : TraceRequest) (now : ℕ)
    → cons_option (option_and_then (trace_behind [] now) (set_trace request now)) []
    ≡ option_to_list (set_trace request now)
new-is request now = go (request.total == 0) refl (period_of request.dsper)
  where
    set_with : ℕ → List Look → Running
    set_with period looks = record (first_trace request now period) { values = values_of request.svids looks }

    set_by : Bool → Option ℕ → Option Running
    set_by none period = cond none None (option_map (first_trace request now) period)

    go : (none : Bool) → (request.total == 0) ≡ none → (period : Option ℕ)
        → cons_option (option_and_then (trace_behind [] now) (set_by none period)) []
        ≡ option_to_list (set_by none period)
    go true is period = refl
    go false is None = refl
    go false is (Some period) =
        let runs : nat_le request.total 0 ≡ false = grind (arith, nat_tests) in
        ap (λ (b : Bool). cons_option (cond b None (Some (set_with period (drop (0 - 0 % request.group) [])))) []) runs
        ∙ ap (λ (ls : List Look). set_with period ls ∷ []) (none-left (0 - 0 % request.group))

one-more-entry :
    (past : List TraceEntry) (entry : TraceEntry)
    → traces_at (past ++ entry ∷ []) ≡ filter_map (step entry) (traces_at past) ++ new_of entry
one-more-entry [] (Set request now) = new-is request now
one-more-entry [] (Step look) = refl
one-more-entry (Step before ∷ past) entry = one-more-entry past entry
one-more-entry (Set request now ∷ past) entry = go (set_trace request now) (one-more-entry past entry)
  where
    go : (o : Option Running) → traces_at (past ++ entry ∷ []) ≡ filter_map (step entry) (traces_at past) ++ new_of entry
        → cons_option (option_and_then (trace_behind (past ++ entry ∷ []) now) o) (traces_at (past ++ entry ∷ []))
        ≡ filter_map (step entry) (cons_option (option_and_then (trace_behind past now) o) (traces_at past))
        ++ new_of entry
    go None is = is
    go (Some first) is =
        let was = trace_behind past now first in
        ap (λ o. cons_option o (traces_at (past ++ entry ∷ []))) (behind-more past entry now first)
        ∙ ap (cons_option (option_and_then (step entry) was)) is
        ∙ append-option (option_and_then (step entry) was) (filter_map (step entry) (traces_at past)) (new_of entry)
        ∙ ap (λ ts. ts ++ new_of entry) (sym (filter-option (step entry) was (traces_at past)))

-- the traces that an S2F23 leaves
others-are :
    (request : TraceRequest) (now : ℕ) (running : List Running)
    → others request.trid running ≡ filter_map (step (Set request now)) running
others-are request now [] = refl
others-are request now (trace ∷ running) =
    let rest = others request.trid running in
    elim (trace.trid == request.trid) as (λ b.
    cond (not b) (trace ∷ rest) rest
    ≡ cons_option (cond b None (Some trace)) (filter_map (step (Set request now)) running))
    [ true ↦ others-are request now running | false ↦ ap (λ ts. trace ∷ ts) (others-are request now running) ]

pub entry_after :
    (past : List TraceEntry) (entry : TraceEntry) → after_entry (traces_at past) entry ≡ traces_at (past ++ entry ∷ [])
entry_after past (Set request now) =
    ap (λ ts. ts ++ option_to_list (set_trace request now)) (others-are request now (traces_at past))
    ∙ sym (one-more-entry past (Set request now))
entry_after past (Step look) =
    sym (append-nil (filter_map (step (Step look)) (traces_at past))) ∙ sym (one-more-entry past (Step look))

-- ---- the S6F1 that are due behind a history

-- of a trace with these samples
body-is :
    (first : Running) (set_at : ℕ) (samples : List Look) (look : Look)
    → body_due look.vars look.now (with_samples first set_at samples) ≡ body_of first set_at samples look
body-is first set_at samples look =
    ap (λ (vs : List Item). body (nat_le (last_of set_at samples + first.period) look.now
    && ends_group first (length samples + 1)) vs)
    (sym
    (flat_map-append (λ (l : Look). readings l.vars first.svids) (since_last_body first.group samples) (look ∷ [])
    ∙ ap (λ (vs : List Item). values_of first.svids (since_last_body first.group samples) ++ vs)
    (append-nil (readings look.vars first.svids))))
  where
    body : Bool → List Item → Option Item
    body due values = cond due (Some (body_item first.trid (length samples + 1) values)) None

-- of one that was set
behind-is :
    (later : List TraceEntry) (set_at : ℕ) (look : Look) (first : Running)
    → option_and_then (body_due look.vars look.now) (trace_behind later set_at first)
    ≡ body_behind later set_at look first
behind-is later set_at look first =
    go (list_any (names first.trid) later) (nat_le first.total (length samples))
  where
    samples : List Look
    samples = samples_of first.period set_at (filter_map look_of later)

    go : (named over : Bool)
        → option_and_then (body_due look.vars look.now)
        (cond named None (cond over None (Some (with_samples first set_at samples))))
        ≡ cond (named || over) None (body_of first set_at samples look)
    go true over = refl
    go false true = refl
    go false false = body-is first set_at samples look

pub bodies_are :
    (past : List TraceEntry) (look : Look) → bodies_due look.vars look.now (traces_at past) ≡ bodies_at past look
bodies_are [] look = refl
bodies_are (Step before ∷ past) look = bodies_are past look
bodies_are (Set request now ∷ past) look = go (set_trace request now) (bodies_are past look)
  where
    go : (o : Option Running) → bodies_due look.vars look.now (traces_at past) ≡ bodies_at past look
        → bodies_due look.vars look.now (cons_option (option_and_then (trace_behind past now) o) (traces_at past))
        ≡ cons_option (option_and_then (body_behind past now look) o) (bodies_at past look)
    go None is = is
    go (Some first) is =
        filter-option (body_due look.vars look.now) (trace_behind past now first) (traces_at past)
        ∙ ap (λ (o : Option Item). cons_option o (bodies_due look.vars look.now (traces_at past)))
        (behind-is past now look first)
        ∙ ap (cons_option (body_behind past now look first)) is
