-- What the turns of the equipment keep of the spool as it is noted.
use Rattle.std.proofs.Common.{◌≡◌, refl, sym, ap, subst, ◌∙◌, inl, inr, arith, ◌<◌, ◌==◌, ◌&&◌, Bool, true, false, ℕ, List, [], ◌∷◌, ◌++◌, length, Option, Some, None, cond, if◌then◌else◌}
use Rattle.std.proofs.lemmas.Bool.Decides.{nat_tests}
use Rattle.std.proofs.lemmas.List.Elements.{All-cons, All-nil}
use Rattle.std.specs.List.{cons_option, filter_map, find}
use Rattle.std.specs.Option.{option_map}
use Rattle.std.specs.Prelude.{All, IfSome, flat_map}
use Rattle.block_codec.specs.declared.header.Header.{Header}
use Rattle.gem_states.specs.Comms.{CommsOutcome}
use Rattle.gem_states.specs.Control.{ControlView, control_next}
use Rattle.gem_states.specs.declared.comms.CommsIn.{CommsIn}
use Rattle.gem_states.specs.declared.comms.CommsIn.TheVariants as comms_in
use Rattle.gem_states.specs.declared.control.ControlIn.{ControlIn}
use Rattle.gem_states.specs.declared.control.ControlIn.TheVariants as control_in
use Rattle.message_flow.proofs.Firsts.{removed, without-first}
use Rattle.trace_log.specs.Log.{Happening, Past}
use Rattle.trace_log.specs.Names.{Spooled, spooled_name}
use Rattle.transact.specs.declared.begun.Begun.{Begun}
use Rattle.transact.specs.Transactions.{TransactionsView, has_system, primary_of as primary_with_kind, system_of, without_first as without}
use Rattle.message_end.specs.Core.{Command, EndView, Went, carried, carry, step_in, times_out, with_end, without_begun}
use Rattle.message_end.specs.Core.Command.{Halt, Remove}
use Rattle.message_end.specs.Core.Went.{Goes, Spent}
use Rattle.message_end.specs.Course.{noted_behind}
use Rattle.message_end.specs.Duties.{all_done}
use Rattle.message_end.specs.Endings.{ends_begun, ends_failed, ends_one, ends_open, ends_waiting, is_of_open, notes_failed}
use Rattle.message_end.proofs.Carrying.{carried_append, done_append}
use Rattle.spool_law.specs.Shelf.{shelf_of}
use Rattle.spool_ledger.specs.Activity.{activated}
use Rattle.spool_ledger.specs.Ledger.{Booked, LedgerView}
use Rattle.spool_ledger.specs.Unloading.{tried_in, with_unload}
use Rattle.spool_file.specs.Slot.{Message as Put}
use Rattle.equipment_tables.specs.declared.answers.Answer.{Answer as Text}
use Rattle.equipment_tables.specs.declared.answers.Answer.TheVariants as answer
use Rattle.equipment_tables.specs.declared.plan.EquipmentPlan.{EquipmentPlan}
use Rattle.equipment_tables.specs.Past.{tables_at}
use Rattle.equipment_tables.specs.Tables.{may_spool, overwrites}
use Rattle.tool_step.specs.declared.kind.Kind.{Kind}
use Rattle.tool_step.specs.declared.kind.Kind.TheVariants as kind
use Rattle.tool_step.specs.Grants.{GrantView}
use Rattle.tool_step.specs.Live.{ReportView}
use Rattle.tool_step.specs.Own.{OwnView, ToolCommands, ToolDuty, ToolTurn, event_report, is_communicating, is_granted_by, is_online, is_report_of, quiet_turn, sent_report, turn_before, waiting_report, with_comms, with_ledger, without_grant, without_report, without_waiting_data}
use Rattle.tool_step.specs.Replies.{loss_turn, timeout_turn}
use Rattle.tool_reports.specs.Reported.{tables_in}
use Rattle.tool_step.specs.Reports.{judged_turn, text_turn, unreported_turn}
use Rattle.tool_step.specs.Sampling.{notes_data_unsent}
use Rattle.tool_step.specs.Sent as sent
use Rattle.tool_step.specs.Spooling.{Stores, is_spooled, lines_commands, stored_turn, stores_all, stores_commands, unloaded_own}
use Rattle.tool_spool.specs.SpoolKept.{policy_of}
use Rattle.tool_step.specs.States as states
use Rattle.tool_spool.proofs.CalmCommands.{AreCalm, AreCalmDuties}
use Rattle.tool_spool.proofs.CalmSamples.{untraced-calm}
use Rattle.tool_spool.proofs.CalmParts.{IsCalmTurn, common-calm, control-calm, errors-calm, like-as, likes, states-like, too-long-calm, unreported-calm, unreported-like}
use Rattle.tool_spool.proofs.CalmTurns.{IsCalmRun, IsReady, carried-run, done-run, ready-behind, runs-both}
use Rattle.tool_reports.proofs.QuietReports.{has-found}
use Rattle.tool_spool.proofs.KeptLedger.{IsKeptBy, IsPutWell}
use Rattle.tool_spool.proofs.KeptUnload.{activated-kept, activated-unload}
use Rattle.tool_law.proofs.CommandWalks.{are-both, comms-noted, open-are, request-are}
use Rattle.tool_law.proofs.Drawing.{Any, IsFree, duties-go, free-goes, goes-either}
use Rattle.tool_law.proofs.DrawnTurns.{common-free, noted-free}
use Rattle.tool_law.proofs.TurnWalks.{denied-of}
use Rattle.message_end.proofs.Growing.{behind-both}
use Rattle.tool_spool.proofs.ShelvedTurns.{ArePutWell, Ends, IsSpentAt, Shelves, booked-keeps, calm-keeps, like-it, lines-carried, once, put-keeps, run-keeps, same-under, spent-at, stores-kept, stores-unload}
use Rattle.message_end.proofs.Parts.{OnEither, either-then, either-less}
use Rattle.tool_law.proofs.CoreSteps.{CoreStep}
use Rattle.tool_spool.proofs.TakenTurns.{end-keeps}
use Rattle.tool_spool.proofs.UnloadOpen.{IsLess, Open, asks_grant, found-fewer, none-behind, unloads_in}

-- ---- reports that are put

-- what is put of the open transactions are primaries
all-well : (left : OwnView) (spools : Bool) (begun : List (Begun Kind)) → ArePutWell left.reports
    → All IsPutWell (filter_map (states.stored_of spools left) begun)
all-well left spools [] are = All-nil IsPutWell
all-well left spools (first ∷ begun) are =
    more (states.stored_of spools left first) (of spools) (all-well left spools begun are)
  where
    one_of : (message : Option Spooled) → IfSome message IsPutWell → IfSome (states.stored_one left message) IsPutWell
    one_of None is = tt
    one_of (Some message) is = by (is_spooled message left)
      where
        by : (spooled : Bool) → IfSome (if spooled then Some message else None) IsPutWell
        by true = is
        by false = tt

    live : (found : Option ReportView) → find (is_report_of (system_of first)) left.reports ≡ found
        → IfSome (option_map (λ (one : ReportView). one.message) found) IsPutWell
    live None is = tt
    live (Some one) is = are one (has-found (is_report_of (system_of first)) left.reports one is)

    waiting : (found : Option GrantView)
        → IfSome (option_map (λ (one : GrantView). event_report one.body) found) IsPutWell
    waiting None = tt
    waiting (Some one) = (refl, omega arith)

    of_kind : (lost : Kind) → IfSome (states.stored_by left lost (system_of first)) IsPutWell
    of_kind kind.Report =
        one_of (sent_report (system_of first) left) (live (find (is_report_of (system_of first)) left.reports) refl)
    of_kind kind.Grant =
        one_of (waiting_report (system_of first) left) (waiting (find (is_granted_by (system_of first)) left.for_grant))
    of_kind kind.Unload = tt
    of_kind kind.UnloadGrant = tt
    of_kind kind.Establish = tt
    of_kind kind.Attempt = tt
    of_kind kind.Trace = tt
    of_kind kind.TraceGrant = tt

    of : (spools : Bool) → IfSome (states.stored_of spools left first) IsPutWell
    of true = of_kind first.kind
    of false = tt

    more : (found : Option Spooled) → IfSome found IsPutWell
        → All IsPutWell (filter_map (states.stored_of spools left) begun)
        → All IsPutWell (cons_option found (filter_map (states.stored_of spools left) begun))
    more None is rest = rest
    more (Some message) is rest = All-cons IsPutWell message (filter_map (states.stored_of spools left) begun) is rest

-- ---- all open transactions end

either-both :
    (P Q R T : CoreStep → Type 0) (went : Went (EndView Kind) Happening) → OnEither P R went → OnEither Q T went
    → OnEither (λ s. P s × Q s) (λ s. R s × T s) went
either-both P Q R T (Goes step) one two = (one, two)
either-both P Q R T (Spent step) one two = (one, two)

abbrev Nothing : CoreStep → Type 0
Nothing step = Unit {0}

-- notes alone
abbrev LeavesCore : ToolCommands → Type 0
LeavesCore commands =
    (step : CoreStep) → OnEither (λ (next : CoreStep). next.next ≡ step.next) Nothing (carried Some commands step)

leaves-both : (one two : ToolCommands) → LeavesCore one → LeavesCore two → LeavesCore (one ++ two)
leaves-both one two first second step =
    subst (OnEither (λ (next : CoreStep). next.next ≡ step.next) Nothing) (sym (carried_append Some one two step))
    (either-then (λ (next : CoreStep). next.next ≡ step.next) Nothing (λ (next : CoreStep). next.next ≡ step.next)
    (carried Some one step) (carried Some two) (first step)
    (λ mid same.
    either-less (λ (next : CoreStep). next.next ≡ mid.next) Nothing (λ (next : CoreStep). next.next ≡ step.next) Nothing
    (carried Some two mid) (second mid) (λ next later. later ∙ same) (λ next none. tt)))

control-leaves : (input : ControlIn) (control : ControlView) → LeavesCore (states.control_commands input control)
control-leaves input control step =
    go (states.is_same_control control.state (control_next control input).state)
  where
    go : (same : Bool)
        → OnEither (λ (next : CoreStep). next.next ≡ step.next) Nothing
        (carried Some
        (if same then []
        else Command.Note (Happening.Control (states.control_named (control_next control input).state)) ∷ []) step)
    go true = refl
    go false = refl

unless-leaves : (stored : Option Spooled) (commands : ToolCommands) → LeavesCore commands
    → LeavesCore (states.unless_stored stored commands)
unless-leaves None commands is = is
unless-leaves (Some message) commands is = λ step. refl

failed-leaves : (header : Header) → LeavesCore (notes_failed header)
failed-leaves header step = refl

unsent-leaves : LeavesCore states.notes_unsent
unsent-leaves step = refl

ending-leaves : (control : ControlView) (stored : Option Spooled) (lost : Kind) (header : Header)
    → LeavesCore (states.ending_commands control stored lost header)
ending-leaves control stored kind.Establish header = failed-leaves header
ending-leaves control stored kind.Attempt header =
    leaves-both (notes_failed header) (states.control_commands control_in.AttemptFailed control) (failed-leaves header)
    (control-leaves control_in.AttemptFailed control)
ending-leaves control stored kind.Report header = unless-leaves stored (notes_failed header) (failed-leaves header)
ending-leaves control stored kind.Grant header =
    leaves-both (notes_failed header) (states.unless_stored stored states.notes_unsent) (failed-leaves header)
    (unless-leaves stored states.notes_unsent unsent-leaves)
ending-leaves control stored kind.Unload header = failed-leaves header
ending-leaves control stored kind.UnloadGrant header =
    leaves-both (notes_failed header) states.notes_unsent (failed-leaves header) unsent-leaves
ending-leaves control stored kind.Trace header = failed-leaves header
ending-leaves control stored kind.TraceGrant header =
    leaves-both (notes_failed header) notes_data_unsent (failed-leaves header) (λ step. refl)

same-number : (n : ℕ) → (n == n) ≡ true
same-number n = grind (arith, nat_tests)

abbrev NoneBegun : CoreStep → Type 0
NoneBegun step = step.next.transactions.begun ≡ []

-- behind the end of a transaction, its primary waits no longer
abbrev ended : ℕ → CoreStep → CoreStep
ended system step =
    step_in (carry Some (Remove true system) (with_end (without_begun (has_system system) step.next) step))

ends-all :
    (spools : Bool) (left : OwnView) (begun : List (Begun Kind)) (step : CoreStep)
    → step.next.transactions.begun ≡ begun
    → OnEither NoneBegun Nothing (carried Some (flat_map (ends_one (states.ends_report spools left)) begun) step)
ends-all spools left [] step is = is
ends-all spools left (first ∷ begun) step is =
    subst (OnEither NoneBegun Nothing)
    (sym
    (carried_append Some (states.ends_report spools left first)
    (flat_map (ends_one (states.ends_report spools left)) begun) (ended (system_of first) step)))
    (either-then (λ (next : CoreStep). next.next ≡ (ended (system_of first) step).next) Nothing NoneBegun
    (carried Some (states.ends_report spools left first) (ended (system_of first) step))
    (carried Some (flat_map (ends_one (states.ends_report spools left)) begun))
    (ending-leaves left.control (states.stored_of spools left first) first.kind first.header
    (ended (system_of first) step))
    (λ mid same. ends-all spools left begun mid (ap (λ (e : EndView Kind). e.transactions.begun) same ∙ gone)))
  where
    gone : (ended (system_of first) step).next.transactions.begun ≡ begun
    gone =
        removed (has_system (system_of first)) step.next.transactions.begun
        ∙ ap (λ (bs : List (Begun Kind)). without-first (has_system (system_of first)) bs) is
        ∙ ap (λ (b : Bool). cond b begun (first ∷ without-first (has_system (system_of first)) begun))
        (same-number (system_of first))

less-none : (old new : Open) → IsLess old new → old ≡ [] → new ≡ []
less-none old new (inl same) none = same ∙ none
less-none old new (inr less) none =
    let long = ap (λ (o : Open). length o) none in absurd (omega (arith, less, long))

pub ended-fewer : (test : Begun Kind → Bool) (t : TransactionsView Kind) (found : Begun Kind) (flag : Bool)
    → find test t.begun ≡ Some found → asks_grant found.kind ≡ Some flag
    → length (unloads_in (without test t).begun) < length (unloads_in t.begun)
ended-fewer test t found flag is of =
    subst (λ (bs : List (Begun Kind)). length (unloads_in bs) < length (unloads_in t.begun))
    (sym (removed test t.begun))
    (found-fewer test t.begun found flag is of)

-- ---- turns

module _ (plan : EquipmentPlan) (slots : ℕ) (list : List Put) (base before : List Happening) where
  abbrev pub so_far : CoreStep → List Happening
  so_far step = noted_behind step.notes before

  abbrev pub ShelvesAt : OwnView → CoreStep → Type 0
  ShelvesAt own step = Shelves plan slots list base before own step.next (so_far step)

  -- with the tables as they are looked back for
  pub record HoldsAt (own : OwnView) (step : CoreStep) : Type 0 where
    pub shelves : Shelves plan slots list base before own step.next (noted_behind step.notes before)
    pub at : tables_in plan (noted_behind step.notes before) ≡ own.tables

  abbrev pub IsRight : OwnView → CoreStep → Type 0
  IsRight own step = IsSpentAt plan slots list base before own.ledger (so_far step)

  abbrev EndsAt : OwnView → Went (EndView Kind) Happening → Type 0
  EndsAt own went = OnEither (HoldsAt own) (IsRight own) went

  abbrev pub TurnEnds : ToolTurn → CoreStep → Type 0
  TurnEnds turn step = Ends plan slots list base before turn.own (all_done Some turn.duties step)

  -- ---- calm ones

  pub calm-turn : (own : OwnView) (turn : ToolTurn) (step : CoreStep) → IsCalmTurn own turn → ShelvesAt own step
      → TurnEnds turn step
  calm-turn own turn step calm holds =
      calm-keeps plan slots list base before false own turn.own turn.duties step calm.keeps calm.duties holds

  pub calm-at : (own : OwnView) (commands : ToolCommands) (step : CoreStep) → AreCalm false commands → HoldsAt own step
      → EndsAt own (carried Some commands step)
  calm-at own commands step calm holds =
      either-less (IsCalmRun false before step) (IsCalmRun false before step) (HoldsAt own) (IsRight own)
      (carried Some commands step)
      (carried-run false before commands step calm
      (record { drawn = holds.shelves.drawn; asks = holds.shelves.asks }))
      (λ next run. record {
        shelves = run-keeps plan slots list base before false own step next run holds.shelves;
        at = ap (λ (past : List Past). tables_at plan past) run.notes.past ∙ holds.at;
      })
      (λ next run.
      spent-at plan slots list base before own.ledger (so_far next) holds.shelves.is holds.shelves.all
      (run.notes.shelved (policy_of plan slots) own.ledger list base holds.shelves.shelved))

  -- ---- calls of the ledger

  lines-at :
      (own : OwnView) (next : LedgerView) (lines : List Happening) (step : CoreStep)
      → IsKeptBy plan slots list base own.ledger (so_far step) next lines → next.unload ≡ own.ledger.unload
      → HoldsAt own step → EndsAt (with_ledger next own) (carried Some (lines_commands lines) step)
  lines-at own next lines step kept same holds =
      subst (EndsAt (with_ledger next own)) (sym (lines-carried lines step))
      (record {
        shelves =
            subst (Ends plan slots list base before (with_ledger next own)) (lines-carried lines step)
            (booked-keeps plan slots list base before own next lines step kept
            (same-under plan slots list base before own next step.next (so_far step) same holds.shelves) holds.shelves);
        at = ap (tables_in plan) (behind-both step.notes lines before) ∙ kept.tables ∙ holds.at;
      })

  stores-at :
      (own : OwnView) (messages : List Spooled) (more : ToolCommands) (step : CoreStep) → All IsPutWell messages
      → AreCalm false more → HoldsAt own step
      → EndsAt (with_ledger (stores_all (overwrites own.tables) messages own.ledger).next own)
      (carried Some (stores_commands (stores_all (overwrites own.tables) messages own.ledger) more) step)
  stores-at own messages more step well calm holds =
      subst (EndsAt put)
      (sym (carried_append Some (lines_commands stores.lines) (if stores.is_spent then Halt ∷ [] else more) step))
      (either-then (HoldsAt put) (IsRight put) (HoldsAt put) (carried Some (lines_commands stores.lines) step)
      (carried Some (if stores.is_spent then Halt ∷ [] else more))
      (lines-at own stores.next stores.lines step
      (stores-kept plan slots list base before messages own.ledger (so_far step) own.tables well holds.shelves.is
      holds.shelves.all holds.shelves.shelved holds.at)
      (stores-unload plan slots list base before (overwrites own.tables) messages own.ledger) holds)
      (λ next at. go stores.is_spent next at))
    where
      stores : Stores
      stores = stores_all (overwrites own.tables) messages own.ledger

      put : OwnView
      put = with_ledger stores.next own

      go : (spent : Bool) (next : CoreStep) → HoldsAt put next
          → EndsAt put (carried Some (if spent then Halt ∷ [] else more) next)
      go true next at =
          spent-at plan slots list base before put.ledger (so_far next) at.shelves.is at.shelves.all at.shelves.shelved
      go false next at = calm-at put more next calm at

  -- ---- the communication is left

  -- all open messages end, and no transaction of the spool is open then
  abbrev IsEnded : CoreStep → CoreStep → Type 0
  IsEnded step next = IsCalmRun false before step next × (unloads_in next.next.transactions.begun ≡ [])

  begun-ended :
      (spools : Bool) (left : OwnView) (rest : List ToolDuty) (step : CoreStep)
      → AreCalmDuties false (ends_begun (states.ends_report spools left) ∷ rest) → IsReady false before step
      → OnEither (IsEnded step) (IsCalmRun false before step)
      (all_done Some (ends_begun (states.ends_report spools left) ∷ rest) step)
  begun-ended spools left rest step calm ready =
      either-then (λ mid. IsCalmRun false before step mid × NoneBegun mid) (IsCalmRun false before step) (IsEnded step)
      (carried Some first step) (all_done Some rest)
      (either-less (λ mid. IsCalmRun false before step mid × NoneBegun mid)
      (λ mid. IsCalmRun false before step mid × Nothing mid) (λ mid. IsCalmRun false before step mid × NoneBegun mid)
      (IsCalmRun false before step) (carried Some first step)
      (either-both (IsCalmRun false before step) NoneBegun (IsCalmRun false before step) Nothing
      (carried Some first step) (carried-run false before first step (calm.0 step.next) ready)
      (ends-all spools left step.next.transactions.begun step refl)) (λ mid so. so) (λ mid so. so.0))
      (λ mid so.
      either-less (IsCalmRun false before mid) (IsCalmRun false before mid) (IsEnded step) (IsCalmRun false before step)
      (all_done Some rest mid)
      (done-run false before rest mid calm.1 (ready-behind false before step mid ready so.0))
      (λ next run. (
        runs-both false before step mid next so.0 run,
        less-none (unloads_in mid.next.transactions.begun) (unloads_in next.next.transactions.begun) run.core.less
            (ap (λ (bs : List (Begun Kind)). unloads_in bs) so.1),
      ))
      (λ next run. runs-both false before step mid next so.0 run))
    where
      first : ToolCommands
      first = ends_begun (states.ends_report spools left) step.next

  open-ended :
      (spools : Bool) (left : OwnView) (e : EndView Kind) (failed : Option Header) (step : CoreStep)
      → IsReady false before step
      → OnEither (IsEnded step) (IsCalmRun false before step)
      (all_done Some (ends_open (states.ends_report spools left) e failed) step)
  open-ended spools left e None step ready =
      begun-ended spools left (ends_waiting ∷ []) step (open-are common-calm spools left e None) ready
  open-ended spools left e (Some header) step ready =
      begun-ended spools left (ends_failed (is_of_open e header) header ∷ ends_waiting ∷ []) step
      (open-are common-calm spools left e (Some header)) ready

  parted-keeps :
      (outcome : CommsOutcome) (spools enabled : Bool) (failed : Option Header) (own : OwnView) (e : EndView Kind)
      (step : CoreStep) → HoldsAt own step
      → TurnEnds (states.parted_turn outcome spools (activated enabled (with_unload None own.ledger)) failed own e) step
  parted-keeps outcome spools enabled failed own e step holds =
      subst (Ends plan slots list base before last_own)
      (sym (done_append Some opens ((λ later. states.left_commands outcome activity stores own) ∷ []) step))
      (either-then (HoldsAt (unloaded_own own)) (IsRight last_own) (ShelvesAt last_own) (all_done Some opens step)
      (all_done Some ((λ later. states.left_commands outcome activity stores own) ∷ []))
      (goes-either (HoldsAt (unloaded_own own)) Any (IsRight last_own) (all_done Some opens step)
      (duties-go opens step (open-are common-free spools left e failed))
      (either-less (IsEnded step) (IsCalmRun false before step) (HoldsAt (unloaded_own own)) Any
      (all_done Some opens step)
      (open-ended spools left e failed step (record { drawn = holds.shelves.drawn; asks = holds.shelves.asks }))
      (λ next so. record {
        shelves =
            end-keeps plan slots list base before own next.next (so_far next) so.1
            (run-keeps plan slots list base before false own step next so.0 holds.shelves);
        at = ap (λ (past : List Past). tables_at plan past) so.0.notes.past ∙ holds.at;
      })
      (λ next run. tt)))
      (λ next at.
      once plan slots list base before last_own (states.left_commands outcome activity stores own) next
      (behind next at)))
    where
      activity : Booked
      activity = activated enabled (with_unload None own.ledger)

      left : OwnView
      left = with_ledger activity.next (with_comms outcome.next own)

      messages : List Spooled
      messages = filter_map (states.stored_of spools left) e.transactions.begun

      stores : Stores
      stores = stores_all (overwrites own.tables) messages activity.next

      last_own : OwnView
      last_own = with_ledger stores.next (states.without_open left e)

      opens : List ToolDuty
      opens = ends_open (states.ends_report spools left) e failed

      on : OwnView
      on = with_ledger activity.next own

      first : ToolCommands
      first = states.comms_lines own.comms.state outcome.next.state ++ lines_commands activity.lines

      rest : ToolCommands
      rest = stores_commands stores (states.request_commands outcome.output own)

      first-at : (next : CoreStep) → HoldsAt (unloaded_own own) next → EndsAt on (carried Some first next)
      first-at next at =
          subst (EndsAt on)
          (sym
          (carried_append Some (states.comms_lines own.comms.state outcome.next.state) (lines_commands activity.lines)
          next))
          (either-then (HoldsAt (unloaded_own own)) (IsRight on) (HoldsAt on)
          (carried Some (states.comms_lines own.comms.state outcome.next.state) next)
          (carried Some (lines_commands activity.lines))
          (goes-either (HoldsAt (unloaded_own own)) (IsRight (unloaded_own own)) (IsRight on)
          (carried Some (states.comms_lines own.comms.state outcome.next.state) next)
          (free-goes (states.comms_lines own.comms.state outcome.next.state) next
          (comms-noted common-free own.comms.state outcome.next.state))
          (calm-at (unloaded_own own) (states.comms_lines own.comms.state outcome.next.state) next
          (comms-noted common-calm own.comms.state outcome.next.state) at))
          (λ mid kept.
          lines-at (unloaded_own own) activity.next activity.lines mid
          (activated-kept plan slots list base (with_unload None own.ledger) (so_far mid) kept.shelves.is
          kept.shelves.shelved
          enabled) (activated-unload enabled (with_unload None own.ledger)) kept))

      rest-at : (next : CoreStep) → HoldsAt on next → Ends plan slots list base before last_own (carried Some rest next)
      rest-at next at =
          either-less (HoldsAt (with_ledger stores.next on)) (IsRight (with_ledger stores.next on)) (ShelvesAt last_own)
          (IsRight last_own)
          (carried Some rest next)
          (stores-at on messages (states.request_commands outcome.output own) next
          (all-well left spools e.transactions.begun holds.shelves.reports)
          (request-are common-calm (λ body. refl) outcome.output own) at)
          (λ last kept.
          like-it plan slots list base before (with_ledger stores.next on) last_own last.next (so_far last)
          (record { ledger = refl; owed = refl; reports = λ are one has. absurd has }) kept.shelves)
          (λ last kept. kept)

      behind : (next : CoreStep) → HoldsAt (unloaded_own own) next
          → Ends plan slots list base before last_own
          (carried Some (states.left_commands outcome activity stores own) next)
      behind next at =
          subst (Ends plan slots list base before last_own) (sym (carried_append Some first rest next))
          (either-then (HoldsAt on) (IsRight last_own) (ShelvesAt last_own) (carried Some first next)
          (carried Some rest)
          (goes-either (HoldsAt on) (IsRight on) (IsRight last_own) (carried Some first next)
          (free-goes first next
          (are-both IsFree (states.comms_lines own.comms.state outcome.next.state) (lines_commands activity.lines)
          (comms-noted common-free own.comms.state outcome.next.state) (noted-free activity.lines)))
          (first-at next at))
          (λ mid kept. rest-at mid kept))

  pub leaving-keeps :
      (input : CommsIn) (failed : Option Header) (now : ℕ) (own : OwnView) (e : EndView Kind) (step : CoreStep)
      → HoldsAt own step → TurnEnds (states.end_of_talk input failed now own e) step
  leaving-keeps input failed now own e step holds = go (states.is_same_comms own.comms.state outcome.next.state)
    where
      outcome : CommsOutcome
      outcome = states.comms_outcome input now own

      begins : Bool
      begins = states.begins_spooling own.comms.state outcome.next.state

      go : (same : Bool)
          → TurnEnds
          (if same then quiet_turn own
          else states.parted_turn outcome begins (states.activity_of outcome own) failed own e) step
      go true = holds.shelves
      go false = parted-keeps outcome begins (begins && may_spool own.tables) failed own e step holds

  -- ---- transactions that are lost

  -- where the transaction was of the spool no other one of it is open
  abbrev pub IsNoneLeft : Kind → CoreStep → Type 0
  IsNoneLeft lost step = (flag : Bool) → asks_grant lost ≡ Some flag → unloads_in step.next.transactions.begun ≡ []

  pub loss-keeps :
      (now : ℕ) (lost : Kind) (system : ℕ) (own : OwnView) (e : EndView Kind) (step : CoreStep) → IsNoneLeft lost step
      → HoldsAt own step → TurnEnds (loss_turn now lost system own e) step
  loss-keeps now kind.Establish system own e step none holds = leaving-keeps comms_in.Denied None now own e step holds
  loss-keeps now kind.Attempt system own e step none holds =
      calm-turn own (states.control_turn control_in.AttemptFailed own) step (control-calm control_in.AttemptFailed own)
      holds.shelves
  loss-keeps now kind.Grant system own e step none holds =
      calm-turn own (loss_turn now kind.Grant system own e) step
      (denied-of common-calm states-like own (without_grant system own)
      (like-as own (without_grant system own) refl refl refl)) holds.shelves
  loss-keeps now kind.Report system own e step none holds =
      like-it plan slots list base before own (without_report system own) step.next (so_far step)
      (unreported-like own system) holds.shelves
  loss-keeps now kind.Unload system own e step none holds =
      end-keeps plan slots list base before own step.next (so_far step) (none false refl) holds.shelves
  loss-keeps now kind.UnloadGrant system own e step none holds =
      calm-turn (unloaded_own own) (loss_turn now kind.UnloadGrant system own e) step
      (denied-of common-calm states-like (unloaded_own own) (unloaded_own own) (likes (unloaded_own own)))
      (end-keeps plan slots list base before own step.next (so_far step) (none true refl) holds.shelves)
  loss-keeps now kind.Trace system own e step none holds = holds.shelves
  loss-keeps now kind.TraceGrant system own e step none holds =
      calm-turn own (loss_turn now kind.TraceGrant system own e) step
      (untraced-calm own (without_waiting_data system own) (like-as own (without_waiting_data system own) refl refl refl))
      holds.shelves

  pub before-keeps :
      (turn : ToolTurn) (duties : List ToolDuty) (step : CoreStep) → AreCalmDuties false duties → TurnEnds turn step
      → TurnEnds (turn_before duties turn) step
  before-keeps turn duties step calm ends =
      subst (Ends plan slots list base before turn.own) (sym (done_append Some turn.duties duties step))
      (either-then (ShelvesAt turn.own) (IsRight turn.own) (ShelvesAt turn.own) (all_done Some turn.duties step)
      (all_done Some duties) ends
      (λ next holds.
      calm-keeps plan slots list base before false turn.own turn.own duties next (likes turn.own) calm holds))

  -- ---- no reply

  -- it ends, and what is told of it is decided behind that
  pub lost-keeps :
      (now : ℕ) (test : Begun Kind → Bool) (own : OwnView) (e : EndView Kind) (step : CoreStep) → HoldsAt own step
      → HoldsAt own (times_out Some test (find test step.next.transactions.begun) step)
      → TurnEnds (timeout_turn now (option_map primary_with_kind (find test step.next.transactions.begun)) own e)
      (times_out Some test (find test step.next.transactions.begun) step)
  lost-keeps now test own e step holds behind = go (find test step.next.transactions.begun) refl behind
    where
      go : (found : Option (Begun Kind)) → find test step.next.transactions.begun ≡ found
          → HoldsAt own (times_out Some test found step)
          → TurnEnds (timeout_turn now (option_map primary_with_kind found) own e) (times_out Some test found step)
      go None is at = at.shelves
      go (Some begun) is at =
          before-keeps (loss_turn now begun.kind begun.header.system own e)
          (sent.error_duty 9 begun.header (loss_turn now begun.kind begun.header.system own e).own ∷ [])
          (times_out Some test (Some begun) step)
          (errors-calm 9 begun.header (loss_turn now begun.kind begun.header.system own e).own)
          (loss-keeps now begun.kind begun.header.system own e (times_out Some test (Some begun) step)
          (λ flag of.
          none-behind (tried_in own.ledger.unload) own.ledger.first (shelf_of (so_far step)) step.next.drawn
          (unloads_in step.next.transactions.begun) (unloads_in (without test step.next.transactions).begun)
          holds.shelves.under_way (ended-fewer test step.next.transactions begun flag is of)) at)

  -- ---- reports

  pub judged-keeps :
      (report : List ℕ → Spooled) (going : Spooled → ToolTurn) (text : Text) (own : OwnView) (step : CoreStep)
      → ((body : List ℕ) → IsPutWell (report body)) → ((body : List ℕ) → IsCalmTurn own (going (report body)))
      → HoldsAt own step → TurnEnds (judged_turn report going text own) step
  judged-keeps report going text own step well calm holds = online (is_online own)
    where
      made : (body : List ℕ) (spooled communicating : Bool)
          → TurnEnds
          (if spooled then stored_turn (report body) own
          else if communicating then going (report body)
          else unreported_turn (spooled_name (report body)) own) step
      made body true communicating =
          put-keeps plan slots list base before own (report body) step (well body) holds.at holds.shelves
      made body false true = calm-turn own (going (report body)) step (calm body) holds.shelves
      made body false false =
          calm-turn own (unreported_turn (spooled_name (report body)) own) step
          (unreported-calm (spooled_name (report body)) own) holds.shelves

      by_text : (text : Text) → TurnEnds (text_turn report going text own) step
      by_text (answer.Body body) = made body (is_spooled (report body) own) (is_communicating own)
      by_text answer.TooLong =
          calm-turn own (text_turn report going answer.TooLong own) step
          (too-long-calm (spooled_name (report [])) own) holds.shelves

      online : (is : Bool)
          → TurnEnds
          (if is then text_turn report going text own else unreported_turn (spooled_name (report [])) own) step
      online true = by_text text
      online false =
          calm-turn own (unreported_turn (spooled_name (report [])) own) step
          (unreported-calm (spooled_name (report [])) own) holds.shelves
