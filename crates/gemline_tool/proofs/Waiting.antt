-- A wait over what comes beside a link answers as one of the link does, and loses nothing of the input.
use Rattle.std.proofs.Common.{◌≡◌, ℕ, ◌<◌, ◌≤◌, ◌⊎◌, inl, inr, Bool, true, false, not, eqb, ltb, ◌&&◌, ◌||◌, List, [], ◌∷◌, ◌++◌, Option, None, refl, sym, ap, subst, ◌∙◌, arith}
use Rattle.std.proofs.lemmas.Bool.{eqb-false, eqb-true, false≢true, ltb-false}
use Rattle.gl_base.specs.Events.{IsMomentFrom, moment_after}
use Rattle.gl_base.specs.Link.{HasPollCause, IsCarriedOn, told_after_poll}
use Rattle.gl_base.specs.declared.link.LinkIn.{LinkIn}
use Rattle.gl_base.specs.declared.link.LinkIn.TheVariants.{Char, Quiet, Closed, Failed}
use Rattle.end_run.specs.Acts.{MayAnswer}
use Rattle.end_run.specs.Commands.{is_any}
use Rattle.end_run.specs.Commands.Telling.{Stops}
use Rattle.line_schedule.specs.Reading.{is_passed_over}
use Rattle.live_commands.specs.Coming.{GoesThrough, Passes, Reading, Standing, asked_at_end, asked_left, asked_with, behind}
use Rattle.live_commands.specs.Commands.{Numbered}
use Rattle.live_commands.proofs.Cutting.{asked_cut, stands_cut}
use Rattle.live_link.specs.Waits.{CountsWait, IsTimelyWith, called_health}
use Rattle.live_teller.specs.Tellings.{HasCome, ToolTelling, end_told, host_told, tellings_of, told_with}
use Rattle.gemline_tool.specs.News.{host_of, waits_on}

-- ---- parts of the input

pub none_passed : (s : Standing) → Passes s [] s
none_passed s = record { asked = refl; stands = refl }

module _ (from here : Standing) (fed part bytes : List ℕ) (r : Reading) (passes : Passes from fed here)
    (goes : GoesThrough here part r bytes) where
  -- a part that comes behind bytes with which nothing came
  pub goes_behind : GoesThrough from (fed ++ part) r bytes
  goes_behind = record {
    asked =
        asked_cut from fed part
        ∙ ap (λ (asked : List Numbered). asked ++ asked_with (behind from fed) part) passes.asked
        ∙ ap (λ (s : Standing). asked_with s part) passes.stands
        ∙ goes.asked;
    stands = stands_cut from fed part ∙ ap (λ (s : Standing). behind s part) passes.stands ∙ goes.stands;
    counts = goes.counts;
  }

  -- one in which no line ends that counts
  pub passes_behind : r.found ≡ false → Passes from (fed ++ part) r.here
  passes_behind none =
      record { asked = goes_behind.asked ∙ rw none refl; stands = goes_behind.stands ∙ rw none refl }

-- with bytes with which nothing came a reader that stands behind them goes through them
pub passes_through : (from : Standing) (fed bytes : List ℕ) (r : Reading) → Passes from fed r.here → r.found ≡ false
    → GoesThrough from fed r bytes
passes_through from fed bytes r passes none = record {
  asked = passes.asked ∙ sym (rw none refl);
  stands = passes.stands ∙ sym (rw none refl);
  counts = λ found. absurd (false≢true (sym none ∙ found));
}

-- ---- whether anything has come

parts_none : (first second : List ToolTelling) → is_any (first ++ second) ≡ false
    → (is_any first ≡ false) × (is_any second ≡ false)
parts_none [] second none = (refl, none)
parts_none (telling ∷ first) second none = absurd cc

any_behind : (first second : List ToolTelling) → is_any second ≡ true → is_any (first ++ second) ≡ true
any_behind [] second any = any
any_behind (telling ∷ first) second any = refl

no_news : {A : Type 0} (news : Bool) (caller : Option A) (address : List ℕ)
    → is_any (host_told (host_of news caller address)) ≡ false → news ≡ false
no_news false caller address none = refl
no_news true caller address none = absurd cc

found_told : (r : Reading) (bytes : List ℕ) → r.found ≡ true → is_passed_over r.here.line ≡ false
    → is_any (tellings_of (asked_left r bytes)) ≡ true
found_told r bytes found counts = rw (found, counts) refl

no_line : (r : Reading) (bytes : List ℕ) → (r.found ≡ true → is_passed_over r.here.line ≡ false)
    → is_any (tellings_of (asked_left r bytes)) ≡ false → r.found ≡ false
no_line r bytes counts none = go r.found refl where
  go : (found : Bool) → r.found ≡ found → r.found ≡ false
  go false is = is
  go true is = absurd (false≢true (sym none ∙ found_told r bytes is (counts is)))

no_end : (here : Standing) (ended : Bool) → is_any (end_told ended here) ≡ false → ended ≡ false
no_end here false none = refl
no_end here true none =
    absurd (false≢true (sym none ∙ any_behind (tellings_of (asked_at_end here)) (Stops ∷ []) refl))

-- where nothing is told, neither a line that counts nor news nor an end has come
none_came : {A : Type 0} (here : Standing) (fed bytes : List ℕ) (r : Reading) (news ended : Bool)
    (caller : Option A) (address : List ℕ) → GoesThrough here fed r bytes
    → is_any (told_with here (record { host = host_of news caller address; bytes = fed; ended = ended })) ≡ false
    → (r.found || (news || ended)) ≡ false
none_came here fed bytes r news ended caller address goes none =
    let first = parts_none (host_told (host_of news caller address)) _ none in
    let later = parts_none (tellings_of (asked_with here fed)) _ first.1 in
    let line = no_line r bytes goes.counts
    (ap (λ (asked : List Numbered). is_any (tellings_of asked)) (sym goes.asked) ∙ later.0) in
    rw (line, no_news news caller address first.0, no_end (behind here fed) ended later.1) refl

-- ---- what is answered

-- a quiet one that brings nothing
quiet_answers : (before until moment : ℕ) → IsMomentFrom before moment → (less same : Bool) → ltb moment until ≡ less
    → eqb moment before ≡ same → (less && (same && true)) ≡ false → (until ≤ moment) ⊎ (before < moment)
quiet_answers before until moment from false same less_is same_is on = inl (omega (arith, ltb-false moment until less_is))
quiet_answers before until moment from true false less_is same_is on =
    inr (omega (arith, eqb-false moment before same_is, from.0))
quiet_answers before until moment from true true less_is same_is on = absurd cc

pub first_false : (first second : Bool) → (first || second) ≡ false → first ≡ false
first_false false second none = refl
first_false true second none = absurd cc

-- a wait goes on where nothing has come, at the moment of the answer before, with no fault
pub goes_on : (before until m : ℕ) (any : Bool) (answer : LinkIn) → waits_on before until any answer ≡ true
    → (any ≡ false) × (moment_after m answer ≡ before)
goes_on before until m any (Char byte moment) on = absurd cc
goes_on before until m any (Quiet moment) on = go (ltb moment until) (eqb moment before) any refl refl on where
  go : (less same some : Bool) → eqb moment before ≡ same → any ≡ some → (less && (same && not some)) ≡ true
      → (any ≡ false) × (moment ≡ before)
  go false same some same_is some_is on = absurd cc
  go true false some same_is some_is on = absurd cc
  go true true true same_is some_is on = absurd cc
  go true true false same_is some_is on = (some_is, eqb-true moment before same_is)
goes_on before until m any Closed on = absurd cc
goes_on before until m any Failed on = absurd cc

pub no_fault : (before until : ℕ) (any : Bool) (answer : LinkIn) → waits_on before until any answer ≡ true
    → (faults now : ℕ) → CountsWait faults now answer → now ≡ faults
no_fault before until any (Char byte moment) on faults now counts = counts
no_fault before until any (Quiet moment) on faults now counts = counts
no_fault before until any Closed on faults now counts = counts
no_fault before until any Failed on faults now counts = absurd cc

-- an answer that isn't waited on for may come, early where something is told
may_answer : (before until : ℕ) (any early some : Bool) (answer : LinkIn) → waits_on before until any answer ≡ false
    → IsTimelyWith early until before answer → (some ≡ false → any ≡ false) → MayAnswer some until before answer
may_answer before until any early true (Char byte moment) on timely none = timely
may_answer before until any early false (Char byte moment) on timely none = timely
may_answer before until any early true (Quiet moment) on timely none = timely.0
may_answer before until any early false (Quiet moment) on timely none = (
  timely.0,
  quiet_answers before until moment timely.0 (ltb moment until) (eqb moment before) refl refl (rw (none refl) at on),
)
may_answer before until any early true Closed on timely none = tt
may_answer before until any early false Closed on timely none = tt
may_answer before until any early true Failed on timely none = tt
may_answer before until any early false Failed on timely none = tt

failed_may : (before until : ℕ) (some : Bool) → MayAnswer some until before Failed
failed_may before until true = tt
failed_may before until false = tt

-- a wait comes with all that has come by its answer
pub comes_with :
    {A : Type 0} (here : Standing) (r : Reading) (fed bytes : List ℕ) (news ended : Bool) (caller : Option A)
    (address : List ℕ) (early any : Bool) (start before moment until : ℕ) (answer : LinkIn)
    → before ≡ start → moment ≡ before → any ≡ (r.found || (news || ended))
    → waits_on before until any answer ≡ false → IsTimelyWith early until moment answer → GoesThrough here fed r bytes
    → HasCome None None here r (host_of news caller address) ended bytes (λ some. MayAnswer some until start answer)
comes_with here r fed bytes news ended caller address early any start before moment until answer start_is same any_is on
    timely goes =
    let some = is_any (told_with here (record { host = host_of news caller address; bytes = fed; ended = ended })) in
    record {
      fed = fed;
      brings = refl;
      reads = goes;
      may = subst (λ (m : ℕ). MayAnswer some until m answer) start_is
          (may_answer before until any early some answer on
          (subst (λ (m : ℕ). IsTimelyWith early until m answer) same timely)
          (λ none. any_is ∙ none_came here fed bytes r news ended caller address goes none));
    }

-- a wait that fails comes with the bytes with which nothing came
pub fails_with :
    (here : Standing) (r : Reading) (fed bytes : List ℕ) (host : Option (Option (List ℕ))) (ended : Bool)
    (before until : ℕ) (answer : LinkIn) → answer ≡ Failed → GoesThrough here fed r bytes
    → HasCome None None here r host ended bytes (λ any. MayAnswer any until before answer)
fails_with here r fed bytes host ended before until answer is goes =
    let any = is_any (told_with here (record { host = host; bytes = fed; ended = ended })) in
    record {
      fed = fed;
      brings = refl;
      reads = goes;
      may = subst (λ (a : LinkIn). MayAnswer any until before a) (sym is) (failed_may before until any);
    }

carried : (before now : ℕ) → now ≡ before → IsCarriedOn (called_health before) (called_health now) 1
carried before now same = record { same = same; relied = λ relied. absurd cc; used = omega arith }

-- each fault of a wait is one of the link's
pub wait_cause : (before now : ℕ) (answer : LinkIn) → CountsWait before now answer
    → HasPollCause (called_health before) (called_health now) answer
wait_cause before now (Char byte moment) same = carried before now same
wait_cause before now (Quiet moment) same = carried before now same
wait_cause before now Closed same = carried before now same
wait_cause before now Failed rose =
    record { rose = rose; lacking = λ relied. absurd cc; relied = λ relied. absurd cc }

-- of a link that tells nothing
pub none_told : (until : ℕ) (answer : LinkIn) → None ≡ told_after_poll until answer None
none_told until (Char byte moment) = refl
none_told until (Quiet moment) = refl
none_told until Closed = refl
none_told until Failed = refl
