-- That the answer to a change of the setup, which waits for its keeping, is that of the newest request.
use Rattle.std.proofs.Common.{◌≡◌, refl, sym, ap, subst, ◌∙◌, Bool, true, false, not, ℕ, ◌==◌, ◌&&◌, ◌||◌, List, [], ◌∷◌, ◌++◌, Option, Some, None, if◌then◌else◌}
use Rattle.std.specs.Option.{option_map}
use Rattle.std.specs.Prelude.{bytes_eq}
use Rattle.std.proofs.lemmas.Bool.{eqb-true}
use Rattle.gem_recipes.specs.Asking.{is_change}
use Rattle.gem_shapes.specs.Answers.{code_item}
use Rattle.gem_shapes.specs.declared.request.RecipesRequest.{RecipesRequest}
use Rattle.gem_shapes.specs.declared.request.Request.{Request}
use Rattle.gem_shapes.specs.declared.request.Request.TheVariants as request
use Rattle.gem_shapes.specs.declared.request.TablesRequest.{TablesRequest}
use Rattle.message_flow.specs.declared.message.Message.{Message}
use Rattle.secs_items.specs.Spelling.{shortest_spelling}
use Rattle.setup_law.proofs.Notes.{Rests, kept-rests}
use Rattle.setup_law.specs.Setup.{list_in, with_kept}
use Rattle.setup_store.specs.Entries.{Entry, bytes_of, has_room, is_kept}
use Rattle.setup_store.specs.Kept.{kept}
use Rattle.spool_ledger.specs.Ledger.{LedgerView}
use Rattle.trace_log.specs.declared.commands.ToolCommand.{ToolCommand}
use Rattle.trace_log.specs.declared.names.Title.{Title}
use Rattle.trace_log.specs.Log.{Happening, Past}
use Rattle.trace_log.specs.Names.{title_of}
use Rattle.message_end.specs.Core.{EndView, Went, noted, reply_function, reply_of, reply_text}
use Rattle.message_end.specs.Core.Went.{Goes, Spent}
use Rattle.message_end.specs.Duties.{all_done}
use Rattle.message_end.proofs.Parts.{OnEither}
use Rattle.equipment_tables.specs.declared.answers.Answer.{Answer as Text}
use Rattle.equipment_tables.specs.declared.answers.Answer.TheVariants as answer
use Rattle.equipment_tables.specs.declared.plan.EquipmentPlan.{EquipmentPlan}
use Rattle.equipment_tables.specs.Laws.{TablesAreLookedBackFor}
use Rattle.equipment_tables.specs.Plan.{EquipmentPlanFits}
use Rattle.equipment_tables.specs.Requests.{request_of}
use Rattle.equipment_tables.specs.Setup.{accepts_request, primary_of}
use Rattle.tool_step.specs.declared.kind.Kind.{Kind}
use Rattle.tool_step.specs.declared.owed.Owed.{Owed}
use Rattle.tool_step.specs.declared.owed.Owed.TheVariants.{Answered, Keep, Recipes as OfRecipes}
use Rattle.tool_step.specs.Messages.{keep_turn, recorded_turn, unkept_duties, unkept_turn}
use Rattle.tool_step.specs.Equipment.{served_own}
use Rattle.tool_step.specs.Own.{OwnView, ToolTurn, owing, quiet_turn, turn_of, unowed, untold, with_ledger, with_tables}
use Rattle.tool_step.specs.Recipes.{RecipesView, answered_by, asked_of, recipes_text, recipes_turn}
use Rattle.tool_step.specs.Sent as sent
use Rattle.tool_step.specs.Setup.{accepted_item, has_space_code, next_kept, next_setup, no_space}
use Rattle.tool_step.specs.Step.{answering, owed_turn}
use Rattle.tool_law.proofs.CommandWalks.{abort-are}
use Rattle.tool_law.proofs.CoreSteps.{CoreStep}
use Rattle.tool_reports.specs.Reported.{is_answer, past_in}
use Rattle.tool_reports.proofs.HeardReports.{MayAnswer, answered-at, asked-tables, answers-of}
use Rattle.tool_reports.proofs.HeldReports.{Any, Ends, any-lasts, plain-at, so_far}
use Rattle.tool_reports.proofs.HostReports.{AsksOf, IsNewest, IsOther, asks-none, may-behind, newest-lasts}
use Rattle.tool_reports.proofs.PlainTurns.{booked-stays, itself, owing_none}
use Rattle.tool_reports.proofs.QuietNotes.{AreResting, AreSettled, IsNone, none-of, nothing-said, one-behind, placed-more}
use Rattle.tool_reports.proofs.QuietReports.{Holds, equal-bytes, holds-less, setup-is, spelled-so}
use Rattle.tool_reports.proofs.SetupRequests.{to-keep-is}
use Rattle.tool_reports.proofs.SilentCommands.{common-silent}

-- ---- what waits for the works

-- the newest request that counts asks still, and no report answers it
pub record IsAwaited (primary : Message) (asked : Option Title) (notes : List Happening) : Type 0 where
  pub asker : Message
  pub untold_is : primary ≡ untold asker
  pub newest : IsNewest asker notes
  pub asks : AsksOf asker asked
  pub other : IsOther asker

abbrev pub IsOwed : Option Owed → Option Title → List Happening → Type 0
IsOwed None asked notes = Unit {0}
IsOwed (Some (Keep primary)) asked notes = IsAwaited primary asked notes
IsOwed (Some (OfRecipes asking primary)) asked notes = IsAwaited primary asked notes
IsOwed (Some (Answered given primary)) asked notes = IsAwaited primary asked notes

-- it holds but for what is asked of an object outside, which has its request
pub record HoldsOwing (plan : EquipmentPlan) (start : List Happening) (said : List ToolCommand) (own : OwnView)
    (core : EndView Kind)
    (notes : List Happening) : Type 0 where
  pub holds : Holds plan start said (unowed own) core.drawn notes
  pub owed : IsOwed own.owed core.asked notes

-- where nothing is asked, nothing waits
pub none-owing :
    (plan : EquipmentPlan) (start : List Happening) (said : List ToolCommand) (own : OwnView) (core : EndView Kind)
    (notes : List Happening)
    → Holds plan start said own core.drawn notes → HoldsOwing plan start said own core notes
none-owing plan start said own core notes is = record {
  holds = record {
    plan_is = is.plan_is;
    kept_is = λ held. ap (λ (kept : Option Owed × Option (List Entry)). owing_none kept.1) (is.kept_is held);
    tables_are = is.tables_are;
    events_are = is.events_are;
    commanded = is.commanded;
    waits = is.waits;
    live = is.live;
    tried = is.tried;
    settled = is.settled;
  };
  owed =
      subst (λ (owed : Option Owed). IsOwed owed core.asked notes)
      (sym (ap (λ (kept : Option Owed × Option (List Entry)). kept.0) (is.kept_is None))) tt;
}

-- with another ledger
pub booked-owing :
    (plan : EquipmentPlan) (start : List Happening) (said : List ToolCommand) (own : OwnView) (ledger : LedgerView)
    (core : EndView Kind)
    (notes : List Happening)
    → HoldsOwing plan start said own core notes → HoldsOwing plan start said (with_ledger ledger own) core notes
booked-owing plan start said own ledger core notes is = record {
  holds =
      holds-less plan start said (unowed own) (with_ledger ledger (unowed own)) notes is.holds
      (booked-stays (unowed own) ledger);
  owed = is.owed;
}

-- and once the recipes have answered
pub served-owing :
    (plan : EquipmentPlan) (start : List Happening) (said : List ToolCommand) (own : OwnView) (kept : RecipesView)
    (core : EndView Kind) (notes : List Happening)
    → HoldsOwing plan start said own core notes → HoldsOwing plan start said (served_own kept own) core notes
served-owing plan start said own kept core notes is = record { holds = is.holds; owed = go own.owed is.owed }
  where
    go : (owed : Option Owed) → IsOwed owed core.asked notes → IsOwed (answered_by kept owed) core.asked notes
    go None waits = waits
    go (Some (Keep primary)) waits = waits
    go (Some (OfRecipes asking primary)) waits = waits
    go (Some (Answered given primary)) waits = waits

-- ---- the list that is kept

-- the primary is one of those that are kept, and the list is that behind it
pub record IsKeptSo (list : List Entry) (message : Message) (own : OwnView) : Type 0 where
  pub is : option_map (λ (l : List Entry). kept l (primary_of message)) own.setup ≡ Some list
  pub kind : is_kept message.stream message.function ≡ true

kept-so : (list : List Entry) (asked : TablesRequest) (message : Message) (own : OwnView)
    → next_kept asked message own ≡ Some list → IsKeptSo list message own
kept-so list asked message own is =
    go (is_kept message.stream message.function) (accepts_request own.tables asked) refl is
  where
    behind : Option (List Entry)
    behind = option_map (λ (l : List Entry). kept l (primary_of message)) own.setup

    go : (kind accepted : Bool) → is_kept message.stream message.function ≡ kind
        → (if kind && accepted then behind else None) ≡ Some list → IsKeptSo list message own
    go true true kind is = record { is = is; kind = kind }
    go true false kind is = absurd (cc)
    go false accepted kind is = absurd (cc)

pub next-so : (list : List Entry) (asks : Request) (message : Message) (own : OwnView)
    → next_setup asks message own ≡ Some list → IsKeptSo list message own
next-so list (request.OfTables asked) message own is = kept-so list asked message own is
next-so list _ message own is = absurd (cc)

-- ---- a reply that tells of no space

module _ (message : Message) (body : List ℕ) where
  -- to such a primary
  abbrev reply_to : ℕ → ℕ → Message
  reply_to stream function = record {
    stream = stream;
    function = reply_function function;
    wait = false;
    system = message.system;
    body = reply_text (reply_function function) body;
  }

  no-space-said : has_space_code message ≡ true → body ≡ shortest_spelling (code_item 1)
      → is_answer (reply_of (title_of message) (reply_function message.function) body) ≡ false
  no-space-said coded short =
      go (message.stream == 2) (message.function == 33) (message.function == 35) refl refl refl coded
    where
      same : bytes_eq body (shortest_spelling (code_item 1)) ≡ true
      same = subst (λ (text : List ℕ). bytes_eq body text ≡ true) short (equal-bytes body)

      go : (a b c : Bool) → (message.stream == 2) ≡ a → (message.function == 33) ≡ b → (message.function == 35) ≡ c
          → (a && (b || c)) ≡ true → is_answer (reply_to message.stream message.function) ≡ false
      go true true c is_two is_one is_other all =
          ap (λ (s : ℕ). is_answer (reply_to s message.function)) (eqb-true message.stream 2 is_two)
          ∙ ap (λ (f : ℕ). is_answer (reply_to 2 f)) (eqb-true message.function 33 is_one)
          ∙ ap (λ (b : Bool). not b) same
      go true false true is_two is_one is_other all =
          ap (λ (s : ℕ). is_answer (reply_to s message.function)) (eqb-true message.stream 2 is_two)
          ∙ ap (λ (f : ℕ). is_answer (reply_to 2 f)) (eqb-true message.function 35 is_other)
          ∙ ap (λ (b : Bool). not b) same
      go true false false is_two is_one is_other all = absurd (cc)
      go false b c is_two is_one is_other all = absurd (cc)

module _
    (plan : EquipmentPlan) (fits : EquipmentPlanFits plan) (looked : TablesAreLookedBackFor)
    (start : List Happening) (said : List ToolCommand) (before : List Happening) where
  -- ---- turns

  abbrev pub EndsOwing : OwnView → Went (EndView Kind) Happening → Type 0
  EndsOwing own went =
      OnEither (λ (step : CoreStep). HoldsOwing plan start said own step.next (so_far plan start said before step))
      (λ (step : CoreStep). AreSettled plan start (so_far plan start said before step)) went

  pub ends-owing : (own : OwnView) (went : Went (EndView Kind) Happening) → Ends plan start said before own went
      → EndsOwing own went
  ends-owing own (Goes step) is = none-owing plan start said own step.next (so_far plan start said before step) is
  ends-owing own (Spent step) is = is

  -- the change is kept, behind its request
  pub keep-owing :
      (list : List Entry) (asks : Request) (message : Message) (own : OwnView) (earlier : List Happening)
      (step : CoreStep)
      → AsksOf message step.next.asked → so_far plan start said before step ≡ Happening.Received message ∷ earlier
      → request_of message.stream message.function message.body ≡ Some asks → IsOther message
      → next_setup asks message own ≡ Some list → has_room (bytes_of list) ≡ true
      → Holds plan start said own step.next.drawn (so_far plan start said before step)
      → EndsOwing (keep_turn list asks message own).own
      (all_done Some (recorded_turn message (keep_turn list asks message own)).duties step)
  keep-owing list asks message own earlier step it newest is other some room holds =
      subst (λ (notes : List Happening). HoldsOwing plan start said on step.next notes) (sym behind) (record {
        holds = record {
          plan_is = holds.plan_is;
          kept_is = λ held. ap owing_none (sym kept_so.is ∙ ap (with_kept message) (setup-is own past holds held));
          tables_are = (asked-tables plan fits looked start said before) asks message own past holds.tables_are is;
          events_are = holds.events_are;
          commanded = holds.commanded;
          waits = holds.waits;
          live = holds.live;
          tried = holds.tried;
          settled = record {
            placed =
                placed-more plan (Happening.Kept message) (Happening.Keeping message ∷ notes) tt refl tt refl
                (placed-more plan (Happening.Keeping message) notes tt refl tt refl
                (placed-more plan (Happening.Recorded (Past.Asked message)) past tt refl (earlier, newest) refl
                holds.settled.placed));
            rests = λ held keeps. rests held (list_in held past) refl (holds.settled.rests held keeps);
          };
        };
        owed = record {
          asker = message;
          untold_is = refl;
          newest = (past_in past, refl);
          asks = it;
          other = other;
        };
      })
    where
      on : OwnView
      on = (keep_turn list asks message own).own

      past : List Happening
      past = so_far plan start said before step

      notes : List Happening
      notes = Happening.Recorded (Past.Asked message) ∷ past

      kept_so : IsKeptSo list message own
      kept_so = next-so list asks message own some

      rests : (held at : Option (List Entry)) → list_in held past ≡ at → Rests plan held at past
          → AreResting plan held (Happening.Kept message ∷ Happening.Keeping message ∷ notes)
      rests held None is_none at =
          let none = sym kept_so.is ∙ ap (with_kept message) (setup-is own past holds held ∙ is_none) in
          absurd (cc)
      rests held (Some l) is_some at =
          subst
          (λ (o : Option (List Entry)).
          Rests plan held (with_kept message o) (Happening.Kept message ∷ Happening.Keeping message ∷ notes))
          (sym is_some)
          (kept-rests plan held l list message past
          (sym (to-keep-is plan held past own holds.tables_are (setup-is own past holds held) asks message is) ∙ some)
          room at)

      recorded : List Happening
      recorded = step.notes ++ Happening.Recorded (Past.Asked message) ∷ []

      keeping : List Happening
      keeping = recorded ++ Happening.Keeping message ∷ []

      behind : so_far plan start said before
          (noted Some (Happening.Kept message)
          (noted Some (Happening.Keeping message) (noted Some (Happening.Recorded (Past.Asked message)) step)))
          ≡ Happening.Kept message ∷ Happening.Keeping message ∷ notes
      behind =
          one-behind keeping (Happening.Kept message) before
          ∙ ap (λ (ns : List Happening). Happening.Kept message ∷ ns)
          (one-behind recorded (Happening.Keeping message) before
          ∙ ap (λ (ns : List Happening). Happening.Keeping message ∷ ns)
          (one-behind step.notes (Happening.Recorded (Past.Asked message)) before))

  -- there is no room for it
  pub unkept-keeps :
      (message : Message) (own : OwnView) (step : CoreStep) → AsksOf message step.next.asked → IsOther message
      → Holds plan start said own step.next.drawn (so_far plan start said before step)
      → Ends plan start said before (unkept_turn message own).own (all_done Some (unkept_turn message own).duties step)
  unkept-keeps message own step it other holds = go (has_space_code message) refl
    where
      answer_may : has_space_code message ≡ true → (body : List ℕ)
          → sent.text_of own (code_item no_space) ≡ answer.Body body → message.wait ≡ true
          → (MayAnswer plan fits looked start said before) message body (so_far plan start said before step)
      answer_may coded body spelled waits =
          let out = reply_of (title_of message) (reply_function message.function) body in
          let none : IsNone out = none-of out other in
          record {
            no_event = none.s6f11;
            values =
                nothing-said plan out (so_far plan start said before step) none
                (no-space-said message body coded
                (spelled-so own.plan.line.max_body (code_item no_space) body spelled).shortest);
          }

      go : (coded : Bool) → has_space_code message ≡ coded
          → Ends plan start said before own (all_done Some (unkept_duties coded message own) step)
      go true coded =
          (answered-at plan fits looked start said before) message (sent.text_of own (code_item no_space)) own step it
          holds
          (answer_may coded)
      go false coded =
          plain-at plan start said before (AsksOf message) (asks-none message) Any any-lasts own
          (turn_of own (sent.abort_duty message ∷ [])) step
          (record {
            duties = abort-are (common-silent (AsksOf message) (asks-none message) Any any-lasts) message;
            keeps = itself own;
          })
          it tt holds

  -- what is asked of the recipes waits for them
  pub recipes-owing :
      (asked : RecipesRequest) (message : Message) (own : OwnView) (step : CoreStep) → AsksOf message step.next.asked
      → IsNewest message (so_far plan start said before step) → IsOther message
      → Holds plan start said (with_tables own.tables own) step.next.drawn (so_far plan start said before step)
      → EndsOwing (recipes_turn (asked_of asked) message own).own
      (all_done Some (recipes_turn (asked_of asked) message own).duties step)
  recipes-owing asked message own step it newest other holds = go (message.wait || is_change (asked_of asked))
    where
      none :
          HoldsOwing plan start said (with_tables own.tables own) step.next (so_far plan start said before step)
      none =
          none-owing plan start said (with_tables own.tables own) step.next (so_far plan start said before step) holds

      turn_by : Bool → ToolTurn
      turn_by asks =
          if asks then quiet_turn (owing (OfRecipes (asked_of asked) (untold message)) own) else quiet_turn own

      go : (asks : Bool) → EndsOwing (turn_by asks).own (all_done Some (turn_by asks).duties step)
      go true = record {
        holds = none.holds;
        owed = record { asker = message; untold_is = refl; newest = newest; asks = it; other = other };
      }
      go false = record { holds = none.holds; owed = none.owed }

  -- ---- the answer

  -- what waited is answered, and nothing waits any more
  pub answering-keeps :
      (own : OwnView) (step : CoreStep) → HoldsOwing plan start said own step.next (so_far plan start said before step)
      → Ends plan start said before (answering own step.next).own (all_done Some (answering own step.next).duties step)
  answering-keeps own step is = go own.owed is.owed
    where
      answered :
          (primary : Message) (text : Message → Text)
          → IsAwaited primary step.next.asked (so_far plan start said before step)
          → Ends plan start said before (unowed own) (all_done Some (sent.answer_duties (text primary) primary) step)
      answered primary text tells =
          subst
          (λ (m : Message).
          Ends plan start said before (unowed own) (all_done Some (sent.answer_duties (text m) m) step))
          (sym tells.untold_is)
          (plain-at plan start said before (AsksOf (untold tells.asker)) (asks-none (untold tells.asker))
          (IsNewest tells.asker) (newest-lasts tells.asker) (unowed own)
          (turn_of (unowed own) (sent.answer_duties (text (untold tells.asker)) (untold tells.asker))) step
          (record {
            duties =
                (answers-of plan fits looked start said before) (untold tells.asker) (IsNewest tells.asker)
                (newest-lasts tells.asker) (may-behind tells.asker tells.other) (text (untold tells.asker));
            keeps = itself (unowed own);
          })
          tells.asks tells.newest is.holds)

      go : (owed : Option Owed) → IsOwed owed step.next.asked (so_far plan start said before step)
          → Ends plan start said before (owed_turn owed (unowed own)).own
          (all_done Some (owed_turn owed (unowed own)).duties step)
      go None tells = is.holds
      go (Some (OfRecipes asking primary)) tells = is.holds
      go (Some (Answered given primary)) tells = answered primary (λ m. recipes_text (unowed own) given) tells
      go (Some (Keep primary)) tells =
          answered primary (λ m. sent.text_of (unowed own) (accepted_item m)) tells
