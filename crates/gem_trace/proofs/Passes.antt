-- The two passes of a step, over one trace and over all.
use Rattle.std.proofs.Common.{◌≡◌, refl, sym, ◌∙◌, ap, arith, Bool, true, false, cond, ◌&&◌, ℕ, zero, suc, ◌+◌, ◌≤◌, ◌==◌, List, [], ◌∷◌, ◌++◌, count_by, drop, filter, is_some, length, map, nat_le, nat_lt, take, Option, Some, None}
use Rattle.std.specs.Prelude.{All}
use Rattle.std.specs.List.{cons_option}
use Rattle.std.specs.Option.{option_map}
use Rattle.std.proofs.lemmas.Bool.{eqb-true, le-ltb, lt-ltb, ltb-true}
use Rattle.std.proofs.lemmas.Bool.Decides.{nat_tests}
use Rattle.std.proofs.lemmas.List.{length-append, length-map, length-take-le, take-append-le, take_all}
use Rattle.std.proofs.lemmas.List.Elements.{All-append, All-cons, All-drop, All-head, All-nil, All-tail, All-take}
use Rattle.std.proofs.lemmas.List.Sums.{length-filter}
use Rattle.secs_items.specs.declared.item.Item.{Item}
use Rattle.gem_vars.specs.Tables.{VarsTable}
use Rattle.gem_trace.specs.declared.trace.Trace.{Trace}
use Rattle.gem_trace.specs.Kept.{IsKept, bodies_read, body_front, body_read, brings_body, ends_next, goes_on, is_other, seen, settled, with_front, with_reading, with_taken}
use Rattle.gem_trace.specs.Traces.{Running, after_samples, after_step, bodies_due, body_due, body_item, others, readings, with_sample}

-- it goes on or has come to its last
at_last :
    {A : Type 0} (n total : ℕ) (x : A) → n ≤ total
    → cond (nat_lt n total) (Some x) None ≡ cond (n == total) None (Some x)
at_last n total x less = go (n == total) refl
  where
    go : (b : Bool) → (n == total) ≡ b → cond (nat_lt n total) (Some x) None ≡ cond b None (Some x)
    go true is =
        let same = eqb-true n total is in
        ap (λ (t : Bool). cond t (Some x) None) (le-ltb n total (omega arith))
    go false is = ap (λ (t : Bool). cond t (Some x) None) (lt-ltb n total (grind (arith, nat_tests)))

-- ---- one trace

abbrev shown : Trace → Option Running
shown t = cond (goes_on t) (Some (seen t)) None

-- the values held, with those of a sample
abbrev all_values : VarsTable → Trace → List Item
all_values vars trace = take trace.held trace.values ++ readings vars trace.svids

abbrev front_by : Bool → Trace → Option (List Item)
front_by ends trace = cond ends (Some (body_front trace.trid (trace.taken + 1))) None

-- the trace with its sample, by whether an S6F1 is due with it
abbrev read_trace : VarsTable → Trace → Bool → Trace
read_trace vars trace ends = record trace { values = all_values vars trace; front = front_by ends trace }

module _ (vars : VarsTable) (now : ℕ) (trace : Trace) (kept : IsKept trace) where
  held_long : length (take trace.held trace.values) ≡ trace.held
  held_long = length-take-le trace.held trace.values kept.held

  held_front : take trace.held (all_values vars trace) ≡ take trace.held trace.values
  held_front =
      let long = held_long in
      take-append-le trace.held (take trace.held trace.values) (readings vars trace.svids) (omega arith)
      ∙ take_all trace.held (take trace.held trace.values) (omega arith)

  -- the first pass isn't seen
  pub reading_unseen : seen (with_reading vars now trace) ≡ seen trace
  reading_unseen = go (nat_le trace.due now)
    where
      go : (due : Bool) → seen (cond due (read_trace vars trace (ends_next trace)) trace) ≡ seen trace
      go false = refl
      go true = ap (λ (vs : List Item). record (seen trace) { values = vs }) held_front

  pub reading_kept : IsKept (with_reading vars now trace)
  reading_kept = go (nat_le trace.due now)
    where
      go : (due : Bool) → IsKept (cond due (read_trace vars trace (ends_next trace)) trace)
      go false = kept
      go true = record {
        runs = kept.runs;
        group = kept.group;
        short = kept.short;
        held =
            let long = length-append (take trace.held trace.values) (readings vars trace.svids) in
            let front = held_long in
            omega arith;
      }

  -- a sample that is due, with or without S6F1
  abbrev sampled : List Item → Running
  sampled values = record (seen trace) { due = now + trace.period; taken = trace.taken + 1; values = values }

  abbrev left_of : Bool → List Item
  left_of ends = cond ends [] (all_values vars trace)

  after-is :
      (ends : Bool) → nat_le trace.due now ≡ true → ends_next trace ≡ ends
      → after_step vars now (seen trace) ≡ cond (trace.taken + 1 == trace.total) None (Some (sampled (left_of ends)))
  after-is ends due is =
      ap (λ (b : Bool). cond b
      (cond (trace.taken + 1 == trace.total) None (Some (with_sample vars now (seen trace))))
      (Some (seen trace))) due
      ∙ ap (λ (b : Bool). cond (trace.taken + 1 == trace.total) None (Some (sampled (left_of b)))) is

  -- a trace with these values, once it is taken
  abbrev taking : List Item → Trace
  taking values = record trace {
    due = now + trace.period;
    taken = trace.taken + 1;
    values = values;
    held = length values;
    front = None;
  }

  shown-is :
      (values : List Item)
      → shown (taking values) ≡ cond (trace.taken + 1 == trace.total) None (Some (sampled values))
  shown-is values =
      let runs = kept.runs in
      at_last (trace.taken + 1) trace.total (seen (taking values)) (omega arith)
      ∙ ap (λ (vs : List Item). cond (trace.taken + 1 == trace.total) None (Some (sampled vs)))
      (take_all (length values) values (omega arith))

  -- both passes are a step of what is seen
  pub passes_one : shown (settled now (with_reading vars now trace)) ≡ after_step vars now (seen trace)
  passes_one = go (nat_le trace.due now) (ends_next trace) refl refl
    where
      settles : Trace → Bool → Trace
      settles t due = cond due (with_taken now t) t

      left_by : Bool → List Item
      left_by ends = cond (is_some (front_by ends trace)) [] (all_values vars trace)

      go : (due ends : Bool) → nat_le trace.due now ≡ due → ends_next trace ≡ ends
          → shown (settled now (cond due (read_trace vars trace ends) trace)) ≡ after_step vars now (seen trace)
      go false ends due is =
          ap (λ (b : Bool). shown (settles trace b)) due
          ∙ ap (λ (b : Bool). cond b (Some (seen trace)) None) (lt-ltb trace.taken trace.total kept.runs)
          ∙ sym (ap (λ (b : Bool). cond b
          (cond (trace.taken + 1 == trace.total) None (Some (with_sample vars now (seen trace))))
          (Some (seen trace))) due)
      go true true due is =
          ap (λ (b : Bool). shown (settles (read_trace vars trace true) b)) due
          ∙ shown-is (left_by true)
          ∙ sym (after-is true due is)
      go true false due is =
          ap (λ (b : Bool). shown (settles (read_trace vars trace false) b)) due
          ∙ shown-is (left_by false)
          ∙ sym (after-is false due is)

-- what the second pass brings is the S6F1 that is due
body_is_due :
    (vars : VarsTable) (now : ℕ) (trace : Trace)
    → body_read now (with_reading vars now trace) ≡ body_due vars now (seen trace)
body_is_due vars now trace = go (nat_le trace.due now) (ends_next trace) refl
  where
    body : Item
    body = body_item trace.trid (trace.taken + 1) (all_values vars trace)

    go : (due ends : Bool) → nat_le trace.due now ≡ due
        → body_read now (cond due (read_trace vars trace ends) trace) ≡ cond (due && ends) (Some body) None
    go false ends due =
        ap (λ (b : Bool). cond b (option_map (with_front trace.values) trace.front) None) due
    go true true due = ap (λ (b : Bool). cond b (Some body) None) due
    go true false due = ap (λ (b : Bool). cond {A = Option Item} b None None) due

settled_kept : (now : ℕ) (trace : Trace) → IsKept trace → goes_on (settled now trace) ≡ true → IsKept (settled now trace)
settled_kept now trace kept = go (nat_le trace.due now)
  where
    go : (b : Bool) → goes_on (cond b (with_taken now trace) trace) ≡ true → IsKept (cond b (with_taken now trace) trace)
    go true is = record {
      runs = ltb-true (trace.taken + 1) trace.total is;
      group = kept.group;
      short = kept.short;
      held = omega arith;
    }
    go false is = kept

-- ---- all traces

pub passes_all :
    (vars : VarsTable) (now : ℕ) (traces : List Trace) → All IsKept traces
    → map seen (filter goes_on (map (settled now) (map (with_reading vars now) traces)))
    ≡ after_samples vars now (map seen traces)
passes_all vars now [] kept = refl
passes_all vars now (trace ∷ traces) kept =
    go (goes_on (settled now (with_reading vars now trace)))
    ∙ ap (λ (o : Option Running). cons_option o (map seen rest))
    (passes_one vars now trace (All-head IsKept trace traces kept))
    ∙ ap (cons_option (after_step vars now (seen trace)))
    (passes_all vars now traces (All-tail IsKept trace traces kept))
  where
    one : Trace
    one = settled now (with_reading vars now trace)

    rest : List Trace
    rest = filter goes_on (map (settled now) (map (with_reading vars now) traces))

    go : (b : Bool)
        → map seen (cond b (one ∷ rest) rest) ≡ cons_option (cond b (Some (seen one)) None) (map seen rest)
    go true = refl
    go false = refl

pub bodies_are_due :
    (vars : VarsTable) (now : ℕ) (traces : List Trace)
    → bodies_read now (map (with_reading vars now) traces) ≡ bodies_due vars now (map seen traces)
bodies_are_due vars now [] = refl
bodies_are_due vars now (trace ∷ traces) =
    ap (λ (o : Option Item). cons_option o (bodies_read now (map (with_reading vars now) traces)))
    (body_is_due vars now trace)
    ∙ ap (cons_option (body_due vars now (seen trace))) (bodies_are_due vars now traces)

pub bodies_counted :
    (now : ℕ) (traces : List Trace) → count_by (brings_body now) traces ≡ length (bodies_read now traces)
bodies_counted now traces = sym (length-filter (brings_body now) traces) ∙ as-many traces
  where
    as-many : (ts : List Trace) → length (filter (brings_body now) ts) ≡ length (bodies_read now ts)
    as-many [] = refl
    as-many (trace ∷ ts) = go (nat_le trace.due now) trace.front (as-many ts)
      where
        bring : List Trace
        bring = filter (brings_body now) ts

        go : (due : Bool) (front : Option (List Item)) → length bring ≡ length (bodies_read now ts)
            → length (cond (due && is_some front) (trace ∷ bring) bring)
            ≡ length (cons_option (cond due (option_map (with_front trace.values) front) None) (bodies_read now ts))
        go false front is = is
        go true None is = is
        go true (Some items) is = ap (λ n. suc n) is

pub all_settled_kept :
    (now : ℕ) (traces : List Trace) → All IsKept traces → All IsKept (filter goes_on (map (settled now) traces))
all_settled_kept now [] kept = All-nil IsKept
all_settled_kept now (trace ∷ traces) kept =
    go (goes_on (settled now trace)) refl (all_settled_kept now traces (All-tail IsKept trace traces kept))
  where
    rest : List Trace
    rest = filter goes_on (map (settled now) traces)

    go : (b : Bool) → goes_on (settled now trace) ≡ b → All IsKept rest
        → All IsKept (cond b (settled now trace ∷ rest) rest)
    go true is more =
        All-cons IsKept (settled now trace) rest
        (settled_kept now trace (All-head IsKept trace traces kept) is) more
    go false is more = more

pub all_readings_kept :
    (vars : VarsTable) (now : ℕ) (traces : List Trace) → All IsKept traces
    → All IsKept (map (with_reading vars now) traces)
all_readings_kept vars now [] kept = All-nil IsKept
all_readings_kept vars now (trace ∷ traces) kept =
    All-cons IsKept (with_reading vars now trace) (map (with_reading vars now) traces)
    (reading_kept vars now trace (All-head IsKept trace traces kept))
    (all_readings_kept vars now traces (All-tail IsKept trace traces kept))

-- where the first pass has come to a place
pub amid_kept :
    (vars : VarsTable) (now i : ℕ) (traces : List Trace) → All IsKept traces
    → All IsKept (map (with_reading vars now) (take i traces) ++ drop i traces)
amid_kept vars now i traces kept =
    All-append IsKept (map (with_reading vars now) (take i traces)) (drop i traces)
    (all_readings_kept vars now (take i traces) (All-take IsKept i traces kept))
    (All-drop IsKept i traces kept)

pub amid_unseen :
    (vars : VarsTable) (now i : ℕ) (traces : List Trace) → All IsKept traces
    → map seen (map (with_reading vars now) (take i traces) ++ drop i traces) ≡ map seen traces
amid_unseen vars now zero traces kept = refl
amid_unseen vars now (suc i) [] kept = refl
amid_unseen vars now (suc i) (trace ∷ traces) kept =
    ap (λ (t : Running). t ∷ map seen (map (with_reading vars now) (take i traces) ++ drop i traces))
    (reading_unseen vars now trace (All-head IsKept trace traces kept))
    ∙ ap (λ (ts : List Running). seen trace ∷ ts)
    (amid_unseen vars now i traces (All-tail IsKept trace traces kept))

-- ---- the traces of other TRIDs, and when samples are due

pub others_seen :
    (trid : ℕ) (traces : List Trace) → others trid (map seen traces) ≡ map seen (filter (is_other trid) traces)
others_seen trid [] = refl
others_seen trid (trace ∷ traces) = go (is_other trid trace) (others_seen trid traces)
  where
    go : (b : Bool) → others trid (map seen traces) ≡ map seen (filter (is_other trid) traces)
        → cond b (seen trace ∷ others trid (map seen traces)) (others trid (map seen traces))
        ≡ map seen (cond b (trace ∷ filter (is_other trid) traces) (filter (is_other trid) traces))
    go true is = ap (λ (ts : List Running). seen trace ∷ ts) is
    go false is = is

pub dues_seen : (traces : List Trace) → map (λ (t : Running). t.due) (map seen traces) ≡ map (λ (t : Trace). t.due) traces
dues_seen [] = refl
dues_seen (trace ∷ traces) = ap (λ (ds : List ℕ). trace.due ∷ ds) (dues_seen traces)

pub counted :
    (trid : ℕ) (traces : List Trace)
    → count_by (is_other trid) traces ≡ length (others trid (map seen traces))
counted trid traces =
    sym (length-filter (is_other trid) traces) ∙ sym (length-map (filter (is_other trid) traces) seen)
    ∙ ap length (sym (others_seen trid traces))
