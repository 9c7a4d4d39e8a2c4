-- The parts of a step: what is due, the samples, the input, and what comes behind the works of the disk.
use Rattle.std.proofs.Common.{◌≡◌, refl, sym, ap, subst, ◌∙◌, arith, ◌&&◌, ◌||◌, not, nat_eq, Bool, true, false, ℕ, zero, suc, List, [], ◌∷◌, ◌++◌, append_assoc, append-nil, replicate, length, Option, Some, None, if◌then◌else◌, ◌≤◌}
use Rattle.std.specs.List.{list_any}
use Rattle.std.specs.Prelude.{is_some}
use Rattle.std.proofs.lemmas.Cmp.{nat_eq_equiv}
use Rattle.std.proofs.lemmas.List.Concat.{flat_map-append}
use Rattle.block_codec.specs.declared.header.Header.{Header}
use Rattle.gem_states.specs.declared.comms.CommsIn.TheVariants as comms_in
use Rattle.gem_trace.specs.History.{Look, TraceEntry, bodies_at, traces_at}
use Rattle.gem_trace.specs.History.TraceEntry.{Step as Sample}
use Rattle.gem_trace.specs.Laws.{FewTracesRun, WhatRunsIsLookedBackFor}
use Rattle.gem_trace.specs.Traces.{Running, after_samples, bodies_due}
use Rattle.gem_vars.specs.Tables.{VarsTable}
use Rattle.message_flow.specs.declared.message.Message.{Message}
use Rattle.message_flow.specs.Outgoing.{with_waiting, without_first}
use Rattle.message_flow.specs.Waiting.{is_named}
use Rattle.secs_items.specs.declared.item.Item.{Item}
use Rattle.trace_log.specs.declared.commands.ToolCommand.{ToolCommand}
use Rattle.trace_log.specs.Log.{Happening}
use Rattle.trace_log.specs.Names.{Spooled}
use Rattle.transact.specs.Numbers.{after_draw, next_number}
use Rattle.message_end.specs.Calls.{dropped_now, due_now, failed_at}
use Rattle.message_end.specs.Core.{EndView, Went, and_then, carried, carry, drawn_primary, draws, is_crowded_out, keeps_drawn, noted, primary_of, sends, unsent_name, waits, with_end}
use Rattle.message_end.specs.Core.Command.{Draw, DrawnPrimary, Offer, Tick}
use Rattle.message_end.specs.Course.{noted_behind}
use Rattle.message_end.specs.Duties.{all_done}
use Rattle.message_end.specs.Ends.{Input}
use Rattle.message_end.specs.Parts.{after_parts, after_turn, closes, core_after, core_step, fixed_turn, leads}
use Rattle.message_end.proofs.Parts.{OnEither, either-then}
use Rattle.equipment_tables.specs.Tables.{TablesState, most_transmitted}
use Rattle.spool_ledger.specs.Activity.{rested}
use Rattle.spool_ledger.specs.Unloading.{after_next, next_number as next_of, taken_up}
use Rattle.tool_step.specs.declared.kind.Kind.{Kind}
use Rattle.tool_step.specs.Own.{OwnView, ToolPart, ToolTurn, is_communicating, quiet_turn, with_ledger, with_tried}
use Rattle.tool_step.specs.Replies.{block_timer, reply_timer}
use Rattle.tool_step.specs.Sampling.{made_part, sample_parts, sampling}
use Rattle.tool_step.specs.Sent as sent
use Rattle.tool_step.specs.Spooling.{dataid_in, end_of_spooling, inquiry_turn, needs_grant, sent_turn, stopped_turn, taking_turn, tried_turn, unload_part, unloaded, unloaded_own, unloading_turn, waiting_text}
use Rattle.tool_step.specs.States as states
use Rattle.tool_step.specs.Step.{answering, begun, beginning, delay_timer, failed_turn, first_parts, input_part, last_parts, late_parts, line_timer, offer}
use Rattle.equipment_tables.specs.declared.answers.Answer.{Answer as Text}
use Rattle.equipment_tables.specs.declared.answers.Answer.TheVariants as answer
use Rattle.tool_law.proofs.CoreSteps.{CoreStep}
use Rattle.tool_reports.specs.Reported.{is_of, tries_in}
use Rattle.tool_reports.specs.Sampled.{datas_in, is_data, is_text_of, setting_in, settings_in}
use Rattle.tool_reports.proofs.QuietNotes.{one-behind}
use Rattle.tool_traces.proofs.IdleCommands.{ReadsStep}
use Rattle.tool_traces.proofs.IdleMessages.{after-idle, answering-idle, block-timer-idle, reply-timer-idle}
use Rattle.tool_traces.proofs.IdleNotes.{AreSound, Reads, amid-more, idle-note, reads-idle}
use Rattle.tool_law.proofs.LedgerLines.{rested-lines}
use Rattle.tool_law.proofs.TurnWalks.{fixed-of, led-of, nothing-of}
use Rattle.tool_traces.proofs.IdleTurns.{IsIdleTurn, KeepsTraces, booked-idle, comms-idle, itself, kept, leaving-idle, spool-idle}
use Rattle.tool_traces.proofs.TracedMessages.{Follows, Fresh, input-takes, run}
use Rattle.tool_traces.proofs.TracedTurns.{FewSent, Keeps, Traced, counted-both, few-of, idle-keeps, made-keeps, sampled-so, still}
use Rattle.tool_traces.proofs.StepParts.{AllKeep, NodeStep, as-node, begin-tables, both-keep, by-t4-tables, counted-then, failed-tables, made-tables, many-keep, parts-then, timeout-tables}

-- with these system bytes a message of the spool has gone out
abbrev has_tried : ℕ → List ℕ → Bool
has_tried system tries = list_any (nat_eq system) tries

-- as when it was tried last
first-tried : (system : ℕ) (tries : List ℕ) → has_tried system (system ∷ tries) ≡ true
first-tried system tries =
    ap (λ (b : Bool). b || list_any (nat_eq system) tries) (nat_eq_equiv.refl system)

module _ (before : List Happening) (look : Look) (past : List TraceEntry) (due : List Item)
    (looked : WhatRunsIsLookedBackFor) (bound : FewTracesRun) where
  -- ---- before the samples

  pub record Older (running : List Running) (made : List Item) (asked : List TraceEntry) : Type 0 where
    pub none : asked ≡ []
    pub runs : running ≡ traces_at past
    pub most : length running ≤ 16

  -- behind them, while so many S6F1 at most have had no turn
  record Sampled (n : ℕ) (running : List Running) (made : List Item) (asked : List TraceEntry) : Type 0 where
    none : asked ≡ []
    runs : running ≡ traces_at (past ++ Sample look ∷ [])
    most : length running ≤ 16
    left : length made ≤ n

  abbrev pub all_due : List Item
  all_due = bodies_at past look ++ due

  abbrev the_run : List Running
  the_run = run before look past all_due looked bound

  abbrev IsFew : List Item → NodeStep → Type 0
  IsFew items step = FewSent before look the_run items (core_step step)

  pub record AtFirst (step : NodeStep) : Type 0 where
    pub so : Traced before look the_run Older due step.next.own (core_step step)
    pub vars : step.next.own.tables.vars ≡ look.vars

  record AtSampled (n : ℕ) (step : NodeStep) : Type 0 where
    so : Traced before look the_run (Sampled n) all_due step.next.own (core_step step)
    vars : step.next.own.tables.vars ≡ look.vars

  pub record AtInput (step : NodeStep) : Type 0 where
    pub so :
        Traced before look the_run (Fresh before look past all_due looked bound) all_due step.next.own (core_step step)
    pub vars : step.next.own.tables.vars ≡ look.vars

  abbrev pub AtEnd : NodeStep → Type 0
  AtEnd step =
      Traced before look the_run (Follows before look past all_due looked bound) all_due step.next.own (core_step step)

  -- what was sent up to a place of the step
  abbrev pub AtSpent : NodeStep → Type 0
  AtSpent step = IsFew all_due step

  few-more : (items more : List Item) (step : CoreStep) → FewSent before look the_run items step
      → FewSent before look the_run (more ++ items) step
  few-more items more step few = record {
    sent = few.sent;
    asked = few.asked;
    reads = few.reads;
    few = λ body.
        let all = few.few body in
        let both = counted-both (is_text_of body) more items in
        omega (arith, all, both);
  }

  -- a part of what is due
  due-keeps :
      (part : ToolPart) → ((own : OwnView) (e : EndView Kind) → IsIdleTurn own (part own e))
      → ((own : OwnView) (e : EndView Kind) → (part own e).own.tables ≡ own.tables) → (step : NodeStep)
      → AtFirst step → OnEither AtFirst AtSpent (after_turn Some (part step.next.own step.next.core) step)
  due-keeps part idle tables step at =
      as-node (part step.next.own step.next.core) step AtFirst AtSpent
      (Traced before look the_run Older due (part step.next.own step.next.core).own)
      (FewSent before look the_run due)
      (idle-keeps before look the_run Older due step.next.own (part step.next.own step.next.core)
      (idle step.next.own step.next.core) (core_step step) at.so)
      (λ next same so. record {
        so = subst (λ (own : OwnView). Traced before look the_run Older due own (core_step next)) (sym same) so;
        vars =
            ap (λ (own : OwnView). own.tables.vars) same
            ∙ ap (λ (t : TablesState). t.vars) (tables step.next.own step.next.core) ∙ at.vars;
      })
      (λ next few. few-more due (bodies_at past look) (core_step next) few)

  tick-idle : (now : ℕ) (own : OwnView) (e : EndView Kind) → IsIdleTurn own (line_timer now own e)
  tick-idle now own e =
      led-of own (Tick now) (failed_turn now (failed_at e now) own (core_after (Tick now) e)) tt
      (go (failed_at e now))
    where
      go : (failed : Option Header) → IsIdleTurn own (failed_turn now failed own (core_after (Tick now) e))
      go None = nothing-of own own (itself own)
      go (Some header) = leaving-idle comms_in.SendFailed (Some header) now own (core_after (Tick now) e)

  begin-idle : (now : ℕ) (own : OwnView) (e : EndView Kind) → IsIdleTurn own (beginning now own e)
  begin-idle now own e = go (own.has_begun || not own.plan.enable)
    where
      go : (over : Bool)
          → IsIdleTurn own
          (if over then quiet_turn (begun own) else states.comms_turn comms_in.Enable now (begun own))
      go true = nothing-of own (begun own) (kept own (begun own) refl)
      go false =
          after-idle own (begun own) (states.comms_turn comms_in.Enable now (begun own))
          (kept own (begun own) refl) (comms-idle comms_in.Enable now (begun own))

  late-keep : (now : ℕ) → AllKeep AtFirst AtSpent (late_parts now)
  unfolding late_parts
  late-keep now =
      both-keep AtFirst AtSpent (replicate 16 (block_timer now)) (replicate 64 (reply_timer now))
      (many-keep AtFirst AtSpent 16 (block_timer now)
      (due-keeps (block_timer now) (block-timer-idle now) (λ own e. by-t4-tables now (dropped_now e now) own _)))
      (many-keep AtFirst AtSpent 64 (reply_timer now)
      (due-keeps (reply_timer now) (reply-timer-idle now) (λ own e. timeout-tables now (due_now e now) own _)))

  timers-keep : (now : ℕ) → AllKeep AtFirst AtSpent (beginning now ∷ line_timer now ∷ late_parts now)
  timers-keep now = (
    due-keeps (beginning now) (begin-idle now) (begin-tables now),
    (
      due-keeps (line_timer now) (tick-idle now) (λ own e. failed-tables now (failed_at e now) own _),
      late-keep now,
    ),
  )

  delay-keeps : (now : ℕ) (step : NodeStep) → AtFirst step
      → OnEither AtFirst AtSpent (after_turn Some (delay_timer now step.next.own step.next.core) step)
  delay-keeps now step at =
      due-keeps (delay_timer now) (λ own e. comms-idle comms_in.Time now own) (λ own e. refl) step at

  -- ---- the samples

  sampling-keeps : (step : NodeStep) → AtFirst step
      → OnEither (AtSampled 16) AtSpent (after_turn Some (sampling look.now step.next.own step.next.core) step)
  sampling-keeps step at = record {
    so =
        sampled-so before look the_run Older (Sampled 16) due (bodies_at past look) step.next.own
        (sampling look.now step.next.own step.next.core).own (core_step step) at.so refl
        (ap (λ (r : List Running). bodies_due step.next.own.tables.vars look.now r) at.so.runs.runs
        ∙ ap (λ (v : VarsTable). bodies_due v look.now (traces_at past)) at.vars
        ∙ looked.bodies (traces_at past) past look refl)
        (λ asked older.
        let left = bound.left step.next.own.tables.vars look.now step.next.own.tracing.running in
        let bodies = bound.bodies step.next.own.tables.vars look.now step.next.own.tracing.running in
        let most = older.most in
        record {
          none = older.none;
          runs =
              ap (λ (r : List Running). after_samples step.next.own.tables.vars look.now r) older.runs
              ∙ ap (λ (v : VarsTable). after_samples v look.now (traces_at past)) at.vars
              ∙ looked.next (traces_at past) past (Sample look) refl;
          most = omega (arith, left, most);
          left = omega (arith, bodies, most);
        });
    vars = at.vars;
  }

  made-part-keeps : (n : ℕ) (step : NodeStep) → AtSampled (suc n) step
      → OnEither (AtSampled n) AtSpent (after_turn Some (made_part step.next.own step.next.core) step)
  made-part-keeps n step at =
      as-node (made_part step.next.own step.next.core) step (AtSampled n) AtSpent
      (Traced before look the_run (Sampled n) all_due (made_part step.next.own step.next.core).own)
      (FewSent before look the_run all_due)
      (made-keeps before look the_run (Sampled (suc n)) (Sampled n) all_due one-less none-left step.next.own
      step.next.core (core_step step) at.so)
      (λ next same so. record {
        so =
            subst (λ (own : OwnView). Traced before look the_run (Sampled n) all_due own (core_step next)) (sym same)
            so;
        vars =
            ap (λ (own : OwnView). own.tables.vars) same
            ∙ ap (λ (t : TablesState). t.vars) (made-tables step.next.own.tracing.made step.next.own step.next.core)
            ∙ at.vars;
      })
      (λ next few. few)
    where
      one-less : (running : List Running) (item : Item) (items : List Item) (asked : List TraceEntry)
          → Sampled (suc n) running (item ∷ items) asked → Sampled n running items asked
      one-less running item items asked so =
          let left = so.left in
          record { none = so.none; runs = so.runs; most = so.most; left = omega (arith, left) }

      none-left : (running : List Running) (asked : List TraceEntry)
          → Sampled (suc n) running [] asked → Sampled n running [] asked
      none-left running asked so =
          record { none = so.none; runs = so.runs; most = so.most; left = omega (arith) }

  no-items : (made : List Item) → length made ≤ 0 → made ≡ []
  no-items [] none = refl
  no-items (item ∷ made) none = absurd (omega (arith, none))

  -- each has had its turn
  all-made : (step : NodeStep) → AtSampled zero step → AtInput step
  all-made step at = record {
    so =
        record {
          sent = at.so.sent;
          asked = at.so.asked;
          reads = at.so.reads;
          runs = record {
            none = at.so.runs.none;
            runs = at.so.runs.runs;
            most = at.so.runs.most;
            all = no-items step.next.own.tracing.made at.so.runs.left;
          };
          odd = at.so.odd;
          few = at.so.few;
        };
    vars = at.vars;
  }

  -- ---- what the step is given

  input-keeps : (input : Input ToolCommand) (step : NodeStep) → AtInput step
      → OnEither AtEnd AtSpent (after_turn Some (input_part input look.now step.next.own step.next.core) step)
  input-keeps input step at =
      as-node (input_part input look.now step.next.own step.next.core) step AtEnd AtSpent
      (Traced before look the_run (Follows before look past all_due looked bound) all_due
      (input_part input look.now step.next.own step.next.core).own) (FewSent before look the_run all_due)
      (input-takes before look past all_due looked bound input step.next.own step.next.core at.vars (core_step step)
      at.so)
      (λ next same so.
      subst
      (λ (own : OwnView). Traced before look the_run (Follows before look past all_due looked bound) all_due own
      (core_step next)) (sym same) so)
      (λ next few. few)

  behind-samples : (input : Input ToolCommand) (step : NodeStep) → AtFirst step
      → OnEither AtEnd AtSpent (after_parts Some (sample_parts look.now ++ input_part input look.now ∷ []) step)
  unfolding sample_parts
  behind-samples input step at =
      either-then (AtSampled 16) AtSpent AtEnd
      (after_turn Some (sampling look.now step.next.own step.next.core) step)
      (after_parts Some (replicate 16 made_part ++ input_part input look.now ∷ [])) (sampling-keeps step at)
      (λ next sampled.
      counted-then AtSampled AtSpent AtEnd made_part (input_part input look.now ∷ []) made-part-keeps 16 next sampled
      (λ last given.
      either-then AtEnd AtSpent AtEnd
      (after_turn Some (input_part input look.now last.next.own last.next.core) last) (after_parts Some [])
      (input-keeps input last (all-made last given)) (λ end at_end. at_end)))

  pub first-keeps : (input : Input ToolCommand) (step : NodeStep) → AtFirst step
      → OnEither AtEnd AtSpent (after_parts Some (first_parts input look.now) step)
  first-keeps input step at =
      subst
      (λ (rest : List ToolPart). OnEither AtEnd AtSpent
      (after_parts Some (beginning look.now ∷ line_timer look.now ∷ rest) step))
      (sym
      (append_assoc (late_parts look.now) (delay_timer look.now ∷ sample_parts look.now)
      (input_part input look.now ∷ [])))
      (parts-then AtFirst AtSpent AtEnd (beginning look.now ∷ line_timer look.now ∷ late_parts look.now)
      (delay_timer look.now ∷ (sample_parts look.now ++ input_part input look.now ∷ [])) (timers-keep look.now) step at
      (λ last at_delay.
      either-then AtFirst AtSpent AtEnd (after_turn Some (delay_timer look.now last.next.own last.next.core) last)
      (after_parts Some (sample_parts look.now ++ input_part input look.now ∷ [])) (delay-keeps look.now last at_delay)
      (λ next at_samples. behind-samples input next at_samples)))

  -- ---- behind the works of the disk

  abbrev EndsWell : OwnView → Went (EndView Kind) Happening → Type 0
  EndsWell own went =
      OnEither (Traced before look the_run (Follows before look past all_due looked bound) all_due own)
      (FewSent before look the_run all_due) went

  abbrev KeepsWell : OwnView → ToolTurn → Type 0
  KeepsWell own turn = Keeps before look the_run (Follows before look past all_due looked bound) all_due own turn

  abbrev IsWell : OwnView → CoreStep → Type 0
  IsWell own step = Traced before look the_run (Follows before look past all_due looked bound) all_due own step

  idle-well : (own : OwnView) (turn : ToolTurn) → IsIdleTurn own turn → KeepsWell own turn
  idle-well own turn idle =
      idle-keeps before look the_run (Follows before look past all_due looked bound) all_due own turn idle

  last-part : (part : ToolPart) → ((own : OwnView) (e : EndView Kind) (step : CoreStep) → step.next ≡ e
      → IsWell own step → EndsWell (part own e).own (all_done Some (part own e).duties step)) → (step : NodeStep)
      → AtEnd step → OnEither AtEnd AtSpent (after_turn Some (part step.next.own step.next.core) step)
  last-part part keeps step at =
      as-node (part step.next.own step.next.core) step AtEnd AtSpent (IsWell (part step.next.own step.next.core).own)
      (FewSent before look the_run all_due) (keeps step.next.own step.next.core (core_step step) refl at)
      (λ next same so. subst (λ (own : OwnView). IsWell own (core_step next)) (sym same) so) (λ next few. few)

  -- a message of the spool that goes out is none of those that are counted, by its try
  tried-none : (message : Spooled) (system : ℕ) (notes : List Happening)
      → has_tried system (tries_in (noted_behind notes before)) ≡ true
      → is_data (primary_of (unloaded message) system) (noted_behind notes before) ≡ false
  tried-none message system notes tried =
      ap (λ (b : Bool). is_of 6 1 (primary_of (unloaded message) system) && not b) tried
      ∙ never (is_of 6 1 (primary_of (unloaded message) system))
    where
      never : (a : Bool) → (a && false) ≡ false
      never true = refl
      never false = refl

  reads-tried :
      (message : Spooled) (system : ℕ) (sent_now : List (List ℕ)) (asked : List TraceEntry) (notes : List Happening)
      → has_tried system (tries_in (noted_behind notes before)) ≡ true
      → Reads before look the_run sent_now asked notes
      → Reads before look the_run sent_now asked
      (notes ++ Happening.Sent (primary_of (unloaded message) system) ∷ [])
  reads-tried message system sent_now asked notes tried so =
      let out : Message = primary_of (unloaded message) system in
      record {
        datas =
            ap datas_in (one-behind notes (Happening.Sent out) before)
            ∙ ap
            (λ (b : Bool). if b then out.body ∷ datas_in (noted_behind notes before)
            else datas_in (noted_behind notes before)) (tried-none message system notes tried)
            ∙ so.datas;
        asks =
            flat_map-append (setting_in look the_run) notes (Happening.Sent out ∷ [])
            ∙ append-nil (settings_in notes look the_run) ∙ so.asks;
        amid = amid-more notes (Happening.Sent out ∷ []) so.amid (tt, tt);
        sound =
            subst AreSound (sym (one-behind notes (Happening.Sent out) before))
            (((λ one_is. let none = tried-none message system notes tried in absurd (cc)), so.sound.0), so.sound.1);
      }

  -- it goes under the number that was drawn for it
  unloading-well :
      (message : Spooled) (system : ℕ) (own : OwnView) (e : EndView Kind) (step : CoreStep)
      → step.next.drawn ≡ Some system → has_tried system (tries_in (noted_behind step.notes before)) ≡ true
      → IsWell own step
      → EndsWell (unloading_turn message own e).own (all_done Some (unloading_turn message own e).duties step)
  unloading-well message system own e step drawn tried so =
      either-then (IsWell left) (FewSent before look the_run all_due) (IsWell left)
      (carried Some (DrawnPrimary (unloaded message) ∷ []) step) (all_done Some [])
      (either-then (IsWell left) (FewSent before look the_run all_due) (IsWell left)
      (carry Some (DrawnPrimary (unloaded message)) step) (carried Some [])
      (subst
      (λ (d : Option ℕ). IsWell left (drawn_primary Some (unloaded message) d step)) (sym drawn)
      (go (is_crowded_out (is_some (unloaded message).kind) step.next))) (λ next now_so. now_so))
      (λ next now_so. now_so)
    where
      left : OwnView
      left = if is_crowded_out true e then unloaded_own own else own

      keeps : (crowded : Bool) → KeepsTraces own (if crowded then unloaded_own own else own)
      keeps true = kept own (unloaded_own own) refl
      keeps false = itself own

      with_notes : (next : CoreStep) → ReadsStep before look the_run so.sent so.asked next → IsWell left next
      with_notes next reads =
          still before look the_run (Follows before look past all_due looked bound) all_due own left step next
          (keeps (is_crowded_out true e)) so reads

      go : (crowded : Bool)
          → IsWell left
          (if crowded then noted Some (Happening.Full (unsent_name (unloaded message))) step
          else sends Some (unloaded message) system (with_end (record step.next { drawn = None }) step))
      go true =
          with_notes (noted Some (Happening.Full (unsent_name (unloaded message))) step) (
            reads-idle before look the_run so.sent so.asked step.notes
                (Happening.Full (unsent_name (unloaded message)))
                (idle-note (Happening.Full (unsent_name (unloaded message))) tt) so.reads,
            so.odd,
          )
      go false =
          with_notes (sends Some (unloaded message) system (with_end (record step.next { drawn = None }) step))
          (reads-tried message system so.sent so.asked step.notes tried so.reads, so.odd)

  out-well :
      (message : Spooled) (system : ℕ) (own : OwnView) (e : EndView Kind) (step : CoreStep)
      → step.next.drawn ≡ Some system → has_tried system (tries_in (noted_behind step.notes before)) ≡ true
      → IsWell own step → EndsWell (sent_turn message own e).own (all_done Some (sent_turn message own e).duties step)
  out-well message system own e step drawn tried so = go (needs_grant message)
    where
      inquiry : (text : Text) → IsIdleTurn own (inquiry_turn text own e)
      inquiry answer.TooLong = nothing-of own (unloaded_own own) (kept own (unloaded_own own) refl)
      inquiry (answer.Body text) = record { duties = ((λ f. (refl, tt)), tt); keeps = crowds (is_crowded_out true e) }
        where
          crowds : (crowded : Bool) → KeepsTraces own (if crowded then unloaded_own own else own)
          crowds true = kept own (unloaded_own own) refl
          crowds false = itself own

      asked : Text
      asked = sent.text_of own (sent.grant_item (dataid_in message.body) (length message.body))

      go : (needs : Bool)
          → EndsWell (if needs then inquiry_turn asked own e else unloading_turn message own e).own
          (all_done Some (if needs then inquiry_turn asked own e else unloading_turn message own e).duties step)
      go true = idle-well own (inquiry_turn asked own e) (inquiry asked) step so
      go false = unloading-well message system own e step drawn tried so

  taken-well :
      (number : ℕ) (message : Spooled) (own : OwnView) (e : EndView Kind) (step : CoreStep) (drawn : Option ℕ)
      → IsWell own step
      → EndsWell (tried_turn drawn number message own e).own
      (and_then (and_then (draws drawn keeps_drawn step) (carried Some []))
      (all_done Some (tried_turn drawn number message own e).duties))
  taken-well number message own e step None so =
      few-of before look the_run (Follows before look past all_due looked bound) all_due own step so
  taken-well number message own e step (Some system) so =
      out-well message system tried_own e (noted Some (Happening.Try number system) next) refl
      (ap (λ (notes : List Happening). has_tried system (tries_in notes))
      (one-behind step.notes (Happening.Try number system) before)
      ∙ first-tried system (tries_in (noted_behind step.notes before)))
      (still before look the_run (Follows before look past all_due looked bound) all_due own tried_own step
      (noted Some (Happening.Try number system) next) (kept own tried_own refl) so (
        reads-idle before look the_run so.sent so.asked step.notes (Happening.Try number system)
            (idle-note (Happening.Try number system) tt) so.reads,
        so.odd,
      ))
    where
      tried_own : OwnView
      tried_own = with_tried system (with_ledger (taken_up number system (waiting_text message) own.ledger).next own)

      next : CoreStep
      next = keeps_drawn system (with_end (record step.next { numbers = after_draw step.next.numbers }) step)

  unload-well : (oldest : Option Spooled) (own : OwnView) (step : CoreStep) → IsWell own step
      → EndsWell (unload_part oldest own step.next).own
      (all_done Some (unload_part oldest own step.next).duties step)
  unload-well oldest own step so = go (next_of most own.ledger) oldest
    where
      most : ℕ
      most = most_transmitted own.tables

      on : OwnView
      on = with_ledger (after_next most own.ledger) own

      held : IsWell on step
      held =
          still before look the_run (Follows before look past all_due looked bound) all_due own on step step
          (kept own on refl) so (so.reads, so.odd)

      go : (number : Option ℕ) (oldest : Option Spooled)
          → EndsWell (taking_turn number oldest on step.next).own
          (all_done Some (taking_turn number oldest on step.next).duties step)
      go None oldest = held
      go (Some number) None = held
      go (Some number) (Some message) = by on.tried
        where
          by : (last : Option ℕ)
              → let turn = stopped_turn last
              (λ later. leads Draw (tried_turn (next_number later.numbers) number message on) later) step.next in
              EndsWell turn.own (all_done Some turn.duties step)
          by None = taken-well number message on (core_after Draw step.next) step (next_number step.next.numbers) held
          by (Some last) =
              let removed =
              waits
              (with_waiting step.next.outgoing (without_first (is_named true last) step.next.outgoing.waiting)) step in
              taken-well number message on (core_after Draw removed.next) removed (next_number removed.next.numbers)
              (still before look the_run (Follows before look past all_due looked bound) all_due on on step removed
              (itself on) held (held.reads, held.odd))

  -- ---- the last parts

  -- the end of the step is noted behind all that it has noted else
  pub record AtClosed (step : NodeStep) : Type 0 where
    pub last : CoreStep
    pub is : Traced before look the_run (Follows before look past all_due looked bound) all_due step.next.own last
    pub notes : step.notes ≡ last.notes ++ Happening.StepEnded ∷ []
    pub asked : step.next.core.asked ≡ None

  closes-keep : (step : NodeStep) → AtEnd step
      → OnEither AtClosed AtSpent (after_turn Some (closes step.next.own step.next.core) step)
  closes-keep step at = record { last = core_step step; is = at; notes = refl; asked = refl }

  pub last-keeps : (oldest : Option Spooled) (now : ℕ) (step : NodeStep) → AtEnd step
      → OnEither AtClosed AtSpent (after_parts Some (last_parts oldest now) step)
  last-keeps oldest now step at =
      parts-then AtEnd AtSpent AtClosed (answering ∷ unload_part oldest ∷ end_of_spooling ∷ offer now ∷ [])
      (closes ∷ []) (
        idle-part answering (λ own e. answering-idle own e),
        (
          last-part (unload_part oldest)
              (λ own e core is so.
              subst
              (λ (f : EndView Kind). EndsWell (unload_part oldest own f).own
              (all_done Some (unload_part oldest own f).duties core)) is (unload-well oldest own core so)),
          (
            idle-part end_of_spooling
                (λ own e.
                booked-idle own (rested (is_communicating own) own.ledger)
                (rested-lines spool-idle (is_communicating own) own.ledger)),
            (
              idle-part (offer now)
                  (λ own e.
                  led-of own (Offer now) (fixed_turn own []) tt (fixed-of own own [] (itself own) tt)),
              tt,
            ),
          ),
        ),
      ) step at
      (λ last at_last.
      either-then AtClosed AtSpent AtClosed (after_turn Some (closes last.next.own last.next.core) last)
      (after_parts Some []) (closes-keep last at_last) (λ next closed. closed))
    where
      idle-part : (part : ToolPart) → ((own : OwnView) (e : EndView Kind) → IsIdleTurn own (part own e))
          → (step : NodeStep) → AtEnd step
          → OnEither AtEnd AtSpent (after_turn Some (part step.next.own step.next.core) step)
      idle-part part idle =
          last-part part (λ own e core is so. idle-well own (part own e) (idle own e) core so)
