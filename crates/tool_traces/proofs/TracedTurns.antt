-- What is kept of the traces from turn to turn: which run, and that no more S6F1 were sent, wait or are still to be
-- routed than were due.
use Rattle.std.proofs.Common.{◌≡◌, refl, sym, ap, subst, ◌∙◌, arith, ◌+◌, ◌≤◌, ◌&&◌, Bool, true, false, not, ℕ, List, [], ◌∷◌, ◌++◌, length, nat_le, Option, Some, None, if◌then◌else◌}
use Rattle.std.specs.List.{find}
use Rattle.std.specs.Option.{option_map}
use Rattle.std.specs.Prelude.{bytes_eq, filter, is_some}
use Rattle.gem_trace.specs.History.{Look, TraceEntry}
use Rattle.gem_trace.specs.Traces.{Running}
use Rattle.message_flow.proofs.Firsts.{removed}
use Rattle.secs_items.specs.declared.encode_fault.EncodeFault.{EncodeFault}
use Rattle.secs_items.specs.declared.item.Item.{Item}
use Rattle.secs_items.specs.Spelling.{shortest_spelling}
use Rattle.trace_log.specs.Log.{Happening}
use Rattle.transact.specs.Numbers.{next_number}
use Rattle.message_end.specs.Core.{Command, EndView, Went, carried, carry, draws, is_crowded_out, noted, primary_of, sends, unsent_name}
use Rattle.message_end.specs.Core.Command.{Note, Primary}
use Rattle.message_end.specs.Core.Went.{Goes}
use Rattle.message_end.specs.Duties.{all_done}
use Rattle.message_end.specs.Parts.{fixed_turn, led_turn}
use Rattle.message_end.proofs.Parts.{OnEither, either-less, either-then}
use Rattle.equipment_tables.specs.declared.answers.Answer.{Answer as Text}
use Rattle.equipment_tables.specs.declared.answers.Answer.TheVariants as answer
use Rattle.equipment_tables.specs.Answers.{spelled_body}
use Rattle.tool_step.specs.declared.kind.Kind.{Kind}
use Rattle.tool_step.specs.Grants.{GrantView}
use Rattle.tool_step.specs.Own.{OwnView, ToolTurn, is_communicating, is_granted_by, is_online, waiting_data, without_waiting_data}
use Rattle.tool_step.specs.Reports.{unreported_turn}
use Rattle.tool_step.specs.Sampling.{first_turn, granted_trace_turn, data_inquiry_own, data_inquiry_turn, made_part, sampled_text_turn, sampled_turn, trace_data, trace_data_turn, trace_grant_turn, trace_inquiry, trace_name, trace_sent_turn, with_data_inquiry, with_made}
use Rattle.tool_step.specs.Sent as sent
use Rattle.tool_step.specs.Spooling.{dataid_in}
use Rattle.tool_law.proofs.CoreSteps.{CoreStep}
use Rattle.tool_reports.specs.Reported.{count_of}
use Rattle.tool_reports.specs.Sampled.{is_text_of}
use Rattle.tool_reports.proofs.PlainTurns.{count_waiting}
use Rattle.tool_reports.proofs.QuietNotes.{counted, counted-last, one}
use Rattle.tool_reports.proofs.QuietReports.{IsSpelledSo, found-waiting, spelled-so}
use Rattle.tool_traces.proofs.IdleCommands.{IsIdleCommand, IsOdd, ReadsStep, carried-idle, done-idle}
use Rattle.tool_traces.proofs.IdleNotes.{IsIdleNote, Reads, idle-note, reads-idle, reads-sent}
use Rattle.tool_law.proofs.TurnWalks.{fixed-of, note-of}
use Rattle.tool_traces.proofs.IdleTurns.{IsIdleTurn, KeepsTraces, itself, untraced-kept}

-- how many of these have this text
abbrev pub count_items : List ℕ → List Item → ℕ
count_items body items = length (filter (is_text_of body) items)

-- what an item is spelled as is its text
text-counts : (max : ℕ) (item : Item) (text body : List ℕ) → spelled_body max item ≡ answer.Body text
    → one (bytes_eq body text) ≡ one (is_text_of body item)
text-counts max item text body is =
    let so : IsSpelledSo item text = spelled-so max item text is in
    ap (λ (t : List ℕ). one (bytes_eq body t)) so.shortest
    ∙ sym
    (ap (λ (fault : Option EncodeFault). one (not (is_some fault) && bytes_eq body (shortest_spelling item)))
    so.spelled)

pub counted-both : {X : Type 0} (test : X → Bool) (xs ys : List X)
    → length (filter test (xs ++ ys)) ≡ length (filter test xs) + length (filter test ys)
counted-both test [] ys = omega (arith)
counted-both test (x ∷ xs) ys =
    let first = counted test x (xs ++ ys) in
    let again = counted test x xs in
    let rest = counted-both test xs ys in
    omega (arith, first, again, rest)

module _ (before : List Happening) (look : Look) (run : List Running) (due : List Item) where
  -- where the numbers are spent, or a step is stopped: no more were sent than were due
  pub record FewSent (step : CoreStep) : Type 0 where
    pub sent : List (List ℕ)
    pub asked : List TraceEntry
    pub reads : Reads before look run sent asked step.notes
    pub few : (body : List ℕ) → count_of body sent ≤ count_items body due

module _ (before : List Happening) (look : Look) (run : List Running)
    (Runs : List Running → List Item → List TraceEntry → Type 0) (due : List Item) where
  -- by this turn
  pub record Traced (own : OwnView) (step : CoreStep) : Type 0 where
    pub sent : List (List ℕ)
    pub asked : List TraceEntry
    pub reads : Reads before look run sent asked step.notes
    pub runs : Runs own.tracing.running own.tracing.made asked
    pub odd : IsOdd step.next.asked
    pub few :
        (body : List ℕ)
        → count_of body sent
        + (count_waiting body own.tracing.for_grant + count_items body own.tracing.made) ≤ count_items body due

  abbrev pub Ends : OwnView → Went (EndView Kind) Happening → Type 0
  Ends own went = OnEither (Traced own) (FewSent before look run due) went

  abbrev pub Keeps : OwnView → ToolTurn → Type 0
  Keeps own turn = (step : CoreStep) → Traced own step → Ends turn.own (all_done Some turn.duties step)

  pub few-of : (own : OwnView) (step : CoreStep) → Traced own step → FewSent before look run due step
  few-of own step so = record {
    sent = so.sent;
    asked = so.asked;
    reads = so.reads;
    few = λ body. let all = so.few body in omega (arith, all);
  }

  -- an own that keeps them, with as much read
  pub still : (own other : OwnView) (step next : CoreStep) → KeepsTraces own other → (so : Traced own step)
      → ReadsStep before look run so.sent so.asked next → Traced other next
  still own other step next keeps so reads = record {
    sent = so.sent;
    asked = so.asked;
    reads = reads.0;
    runs =
        subst (λ (made : List Item). Runs other.tracing.running made so.asked) (sym keeps.made)
        (subst (λ (r : List Running). Runs r own.tracing.made so.asked) (sym keeps.running) so.runs);
    odd = reads.1;
    few = λ body.
        let all = so.few body in
        let fewer = keeps.fewer body in
        let same = ap (λ (made : List Item). count_items body made) keeps.made in
        omega (arith, all, fewer, same);
  }

  pub idle-keeps : (own : OwnView) (turn : ToolTurn) → IsIdleTurn own turn → Keeps own turn
  idle-keeps own turn idle step so =
      either-less (ReadsStep before look run so.sent so.asked) (ReadsStep before look run so.sent so.asked)
      (Traced turn.own) (FewSent before look run due) (all_done Some turn.duties step)
      (done-idle before look run so.sent so.asked turn.duties step idle.duties (so.reads, so.odd))
      (λ next reads. still own turn.own step next idle.keeps so reads)
      (λ next reads. few-of turn.own next (still own turn.own step next idle.keeps so reads))

  -- a turn behind a command
  pub led-keeps : (own : OwnView) (lead : Command Kind) (turn : ToolTurn) → IsIdleCommand lead → Keeps own turn
      → Keeps own (led_turn lead turn)
  led-keeps own lead turn idle keeps step so =
      either-then (Traced own) (FewSent before look run due) (Traced turn.own) (carried Some (lead ∷ []) step)
      (all_done Some turn.duties)
      (either-less (ReadsStep before look run so.sent so.asked) (ReadsStep before look run so.sent so.asked)
      (Traced own) (FewSent before look run due) (carried Some (lead ∷ []) step)
      (carried-idle before look run so.sent so.asked (lead ∷ []) step (idle, tt) (so.reads, so.odd))
      (λ next reads. still own own step next (itself own) so reads)
      (λ next reads. few-of own next (still own own step next (itself own) so reads)))
      (λ next now_so. keeps next now_so)

  -- ---- an S6F1 goes

  -- one with this text less waits, or is to be routed
  pub record HasSpare (own : OwnView) (step : CoreStep) (text : List ℕ) : Type 0 where
    pub sent : List (List ℕ)
    pub asked : List TraceEntry
    pub reads : Reads before look run sent asked step.notes
    pub runs : Runs own.tracing.running own.tracing.made asked
    pub odd : IsOdd step.next.asked
    pub few :
        (body : List ℕ)
        → count_of body sent
        + (count_waiting body own.tracing.for_grant + (count_items body own.tracing.made + one (bytes_eq body text)))
        ≤ count_items body due

  without-spare : (own : OwnView) (step : CoreStep) (text : List ℕ) → HasSpare own step text → Traced own step
  without-spare own step text spare = record {
    sent = spare.sent;
    asked = spare.asked;
    reads = spare.reads;
    runs = spare.runs;
    odd = spare.odd;
    few = λ body. let all = spare.few body in omega (arith, all);
  }

  -- a turn of one command
  alone : (own : OwnView) (command : Command Kind) (step : CoreStep) → Ends own (carry Some command step)
      → Ends own (all_done Some ((λ (e : EndView Kind). command ∷ []) ∷ []) step)
  alone own command step so =
      either-then (Traced own) (FewSent before look run due) (Traced own) (carried Some (command ∷ []) step)
      (all_done Some [])
      (either-then (Traced own) (FewSent before look run due) (Traced own) (carry Some command step)
      (carried Some []) so (λ next now_so. now_so)) (λ next now_so. now_so)

  sent-keeps : (text : List ℕ) (own : OwnView) (step : CoreStep) → HasSpare own step text
      → Ends own (all_done Some (trace_sent_turn text own).duties step)
  sent-keeps text own step spare =
      alone own (Primary (trace_data text)) step
      (go (is_crowded_out true step.next) (next_number step.next.numbers))
    where
      go : (crowded : Bool) (next : Option ℕ)
          → Ends own
          (if crowded then Goes (noted Some (Happening.Full (unsent_name (trace_data text))) step)
          else draws next (sends Some (trace_data text)) step)
      go true next = record {
        sent = spare.sent;
        asked = spare.asked;
        reads =
            reads-idle before look run spare.sent spare.asked step.notes
            (Happening.Full (unsent_name (trace_data text)))
            (idle-note (Happening.Full (unsent_name (trace_data text))) tt) spare.reads;
        runs = spare.runs;
        odd = spare.odd;
        few = λ body. let all = spare.few body in omega (arith, all);
      }
      go false None = few-of own step (without-spare own step text spare)
      go false (Some number) =
          let more =
          reads-sent before look run (primary_of (trace_data text) number) spare.sent spare.asked step.notes refl
          spare.reads in
          record {
            sent = more.more;
            asked = spare.asked;
            reads = more.reads;
            runs = spare.runs;
            odd = spare.odd;
            few = λ body.
                let all = spare.few body in
                let few = more.few body in
                omega (arith, all, few);
          }

  -- or it waits for a grant
  inquired-keeps : (asked : Text) (text : List ℕ) (own : OwnView) (e : EndView Kind) (step : CoreStep)
      → HasSpare own step text
      → Ends (data_inquiry_turn asked text own e).own (all_done Some (data_inquiry_turn asked text own e).duties step)
  inquired-keeps answer.TooLong text own e step spare = without-spare own step text spare
  inquired-keeps (answer.Body inquiry) text own e step spare =
      idle-keeps (data_inquiry_own text own e)
      (fixed_turn (data_inquiry_own text own e) (Primary (trace_inquiry inquiry) ∷ []))
      (fixed-of (data_inquiry_own text own e) (data_inquiry_own text own e) (Primary (trace_inquiry inquiry) ∷ [])
      (itself (data_inquiry_own text own e)) (refl, tt)) step
      (go (is_crowded_out true e) (next_number e.numbers))
    where
      go : (crowded : Bool) (next : Option ℕ) → Traced (if crowded then own else with_data_inquiry next text own) step
      go true next = without-spare own step text spare
      go false None = without-spare own step text spare
      go false (Some system) = record {
        sent = spare.sent;
        asked = spare.asked;
        reads = spare.reads;
        runs = spare.runs;
        odd = spare.odd;
        few = λ body.
            let all = spare.few body in
            let more =
            counted-last (λ (one : GrantView). bytes_eq body one.body) own.tracing.for_grant
            (record { system = system; body = text }) in
            omega (arith, all, more);
      }

  data-keeps : (text : List ℕ) (own : OwnView) (e : EndView Kind) (step : CoreStep) → HasSpare own step text
      → Ends (trace_data_turn text own e).own (all_done Some (trace_data_turn text own e).duties step)
  data-keeps text own e step spare = go (nat_le (length text) 244)
    where
      go : (alone_goes : Bool)
          → Ends (if alone_goes then trace_sent_turn text own else trace_grant_turn text own e).own
          (all_done Some (if alone_goes then trace_sent_turn text own else trace_grant_turn text own e).duties step)
      go true = sent-keeps text own step spare
      go false =
          inquired-keeps (sent.text_of own (sent.grant_item (dataid_in text) (length text))) text own e step spare

  -- one that a sample has brought
  pub sampled-keeps :
      (item : Item) (own : OwnView) (e : EndView Kind) (step : CoreStep)
      → ((text : List ℕ) → sent.text_of own item ≡ answer.Body text → HasSpare own step text) → Traced own step
      → Ends (sampled_turn item own e).own (all_done Some (sampled_turn item own e).duties step)
  sampled-keeps item own e step spare so = go (is_online own)
    where
      noted-keeps : (what : Happening) → IsIdleNote what
          → Ends own (all_done Some (fixed_turn own (Note what ∷ [])).duties step)
      noted-keeps what idle =
          idle-keeps own (fixed_turn own (Note what ∷ [])) (note-of own own what (itself own) idle) step so

      by : (text : List ℕ) (communicating : Bool) → sent.text_of own item ≡ answer.Body text
          → Ends (if communicating then trace_data_turn text own e else unreported_turn trace_name own).own
          (all_done Some (if communicating then trace_data_turn text own e else unreported_turn trace_name own).duties
          step)
      by text true is = data-keeps text own e step (spare text is)
      by text false is = noted-keeps (Happening.Dropped trace_name) tt

      with_text : (text : Text) → sent.text_of own item ≡ text
          → Ends (sampled_text_turn text own e).own (all_done Some (sampled_text_turn text own e).duties step)
      with_text (answer.Body text) is = by text (is_communicating own) is
      with_text answer.TooLong is = noted-keeps (Happening.TooLong trace_name) tt

      go : (online : Bool)
          → Ends
          (if online then sampled_text_turn (sent.text_of own item) own e else unreported_turn trace_name own).own
          (all_done Some
          (if online then sampled_text_turn (sent.text_of own item) own e else unreported_turn trace_name own).duties
          step)
      go true = with_text (sent.text_of own item) refl
      go false = noted-keeps (Happening.Dropped trace_name) tt

  -- ---- one that has waited goes

  pub granted-keeps : (system : ℕ) (own : OwnView)
      → Keeps own (granted_trace_turn (waiting_data system own) (without_waiting_data system own))
  granted-keeps system own step so = go (find (is_granted_by system) own.tracing.for_grant) refl
    where
      go : (found : Option GrantView) → find (is_granted_by system) own.tracing.for_grant ≡ found
          → Ends
          (granted_trace_turn (option_map (λ (one : GrantView). one.body) found)
          (without_waiting_data system own)).own
          (all_done Some
          (granted_trace_turn (option_map (λ (one : GrantView). one.body) found)
          (without_waiting_data system own)).duties
          step)
      go None is =
          still own (without_waiting_data system own) step step (untraced-kept own system) so (so.reads, so.odd)
      go (Some waiting) is =
          sent-keeps waiting.body (without_waiting_data system own) step
          (record {
            sent = so.sent;
            asked = so.asked;
            reads = so.reads;
            runs = so.runs;
            odd = so.odd;
            few = λ body.
                let all = so.few body in
                let left =
                ap (λ (rest : List GrantView). count_waiting body rest)
                (removed (is_granted_by system) own.tracing.for_grant) in
                let found_one = found-waiting (is_granted_by system) own.tracing.for_grant waiting body is in
                omega (arith, all, left, found_one);
          })

-- ---- each that is due has its turn

module _ (before : List Happening) (look : Look) (run : List Running)
    (Runs Later : List Running → List Item → List TraceEntry → Type 0) (due : List Item)
    (less : (running : List Running) (item : Item) (items : List Item) (asked : List TraceEntry)
    → Runs running (item ∷ items) asked → Later running items asked)
    (none : (running : List Running) (asked : List TraceEntry) → Runs running [] asked → Later running [] asked) where
  first-keeps : (made : List Item) (own : OwnView) (e : EndView Kind) (step : CoreStep) → own.tracing.made ≡ made
      → Traced before look run Runs due own step
      → Ends before look run Later due (first_turn made own e).own
      (all_done Some (first_turn made own e).duties step)
  first-keeps [] own e step is so = record {
    sent = so.sent;
    asked = so.asked;
    reads = so.reads;
    runs =
        subst (λ (made : List Item). Later own.tracing.running made so.asked) (sym is)
        (none own.tracing.running so.asked
        (subst (λ (made : List Item). Runs own.tracing.running made so.asked) is so.runs));
    odd = so.odd;
    few = so.few;
  }
  first-keeps (item ∷ items) own e step is so =
      sampled-keeps before look run Later due item (with_made items own) e step
      (λ text spelled. record {
        sent = so.sent;
        asked = so.asked;
        reads = so.reads;
        runs = fewer;
        odd = so.odd;
        few = λ body.
            let all = so.few body in
            let first = ap (λ (made : List Item). count_items body made) is in
            let counts = counted (is_text_of body) item items in
            let same = text-counts own.plan.line.max_body item text body spelled in
            omega (arith, all, first, counts, same);
      })
      (record {
        sent = so.sent;
        asked = so.asked;
        reads = so.reads;
        runs = fewer;
        odd = so.odd;
        few = λ body.
            let all = so.few body in
            let first = ap (λ (made : List Item). count_items body made) is in
            let counts = counted (is_text_of body) item items in
            omega (arith, all, first, counts);
      })
    where
      fewer : Later own.tracing.running items so.asked
      fewer =
          less own.tracing.running item items so.asked
          (subst (λ (made : List Item). Runs own.tracing.running made so.asked) is so.runs)

  -- the first of those that are due
  pub made-keeps : (own : OwnView) (e : EndView Kind) (step : CoreStep) → Traced before look run Runs due own step
      → Ends before look run Later due (made_part own e).own (all_done Some (made_part own e).duties step)
  made-keeps own e step so = first-keeps own.tracing.made own e step refl so

-- ---- a sample

-- the traces run on by their samples, and what these bring is due
pub sampled-so :
    (before : List Happening) (look : Look) (run : List Running)
    (Runs Later : List Running → List Item → List TraceEntry → Type 0) (due more : List Item) (own other : OwnView)
    (step : CoreStep) → Traced before look run Runs due own step
    → other.tracing.for_grant ≡ own.tracing.for_grant → other.tracing.made ≡ more
    → ((asked : List TraceEntry) → Runs own.tracing.running own.tracing.made asked
    → Later other.tracing.running other.tracing.made asked)
    → Traced before look run Later (more ++ due) other step
sampled-so before look run Runs Later due more own other step so waiting made runs = record {
  sent = so.sent;
  asked = so.asked;
  reads = so.reads;
  runs = runs so.asked so.runs;
  odd = so.odd;
  few = λ body.
      let all = so.few body in
      let same = ap (λ (w : List GrantView). count_waiting body w) waiting in
      let new = ap (λ (m : List Item). count_items body m) made in
      let both = counted-both (is_text_of body) more due in
      omega (arith, all, same, new, both);
}
