-- The turns that leave the spool as it is: what they do is calm, the ledger stays, and the reports may be put.
use Rattle.std.proofs.Common.{◌≡◌, refl, sym, subst, inl, inr, ◌⊎◌, arith, Bool, false, ℕ, List, [], ◌∷◌, map, Some}
use Rattle.block_codec.specs.declared.header.Header.{Header}
use Rattle.gem_shapes.specs.Answers.{code_item}
use Rattle.gem_shapes.specs.declared.request.TablesRequest.{TablesRequest}
use Rattle.gem_states.specs.declared.comms.CommsIn.{CommsIn}
use Rattle.gem_states.specs.declared.control.ControlIn.{ControlIn}
use Rattle.message_flow.proofs.Firsts.{removed}
use Rattle.message_flow.specs.declared.message.Message.{Message}
use Rattle.trace_log.specs.declared.names.Name.{Name}
use Rattle.trace_log.specs.Log.{Happening}
use Rattle.trace_log.specs.Names.{Spooled}
use Rattle.message_end.specs.Core.{EndView}
use Rattle.message_end.specs.Core.Command.{CloseStep, Note, Offer}
use Rattle.message_end.specs.Own.{Has}
use Rattle.message_end.specs.Parts.{fixed_turn, led_turn}
use Rattle.equipment_tables.specs.declared.answers.Answer.{Answer as Text}
use Rattle.equipment_tables.specs.Answers.{answer_of, lines_of}
use Rattle.equipment_tables.specs.Tables.{TablesState, tables_after}
use Rattle.equipment_tables.proofs.Lines.{lines_hold}
use Rattle.spool_ledger.specs.Activity.{rsda_of}
use Rattle.tool_step.specs.declared.kind.Kind.{Kind}
use Rattle.tool_step.specs.Live.{ReportView}
use Rattle.tool_step.specs.Messages.{answer_turn, control_request_turn, error_turn}
use Rattle.tool_step.specs.Own.{OwnView, ToolTurn, event_report, is_local, is_report_of, with_comms, with_report, with_tables, without_report}
use Rattle.tool_step.specs.Reports.{unreported_turn}
use Rattle.tool_step.specs.Sent as sent
use Rattle.tool_step.specs.Spooling.{rsda_duties}
use Rattle.tool_step.specs.States as states
use Rattle.tool_step.specs.Tool.{refused_turn}
use Rattle.tool_law.proofs.CommandWalks.{HasCommon, answers-are, errors-are}
use Rattle.tool_law.proofs.TurnWalks.{IsTurnOf, KeepsStates, comms-of, control-of, control-request-of, error-of, event-of, fixed-of, going-of, led-of, note-of}
use Rattle.tool_spool.proofs.CalmCommands.{AreCalm, AreCalmDuties, IsCalm}
use Rattle.tool_spool.proofs.KeptLedger.{IsPutWell}
use Rattle.message_end.proofs.Lists.{has-snoc, has-less}
use Rattle.tool_spool.proofs.ShelvedTurns.{ArePutWell, IsLikeIt}

abbrev pub IsCalmTurn : OwnView → ToolTurn → Type 0
IsCalmTurn own turn = IsTurnOf (IsCalm false) IsLikeIt own turn

-- ---- what the equipment keeps

pub like-as : (own new : OwnView) → new.ledger ≡ own.ledger → new.owed ≡ own.owed → new.reports ≡ own.reports
    → IsLikeIt own new
like-as own new ledger owed same = record { ledger = ledger; owed = owed; reports = subst ArePutWell (sym same) }

pub likes : (own : OwnView) → IsLikeIt own own
likes own = like-as own own refl refl refl

pub unreported-like : (own : OwnView) (system : ℕ) → IsLikeIt own (without_report system own)
unreported-like own system = record {
  ledger = refl;
  owed = refl;
  reports = λ are one has.
      are one
      (has-less (is_report_of system) own.reports one
      (subst (λ (live : List ReportView). Has live one) (removed (is_report_of system) own.reports) has));
}

-- a report that may be put was sent
pub reported-like : (own : OwnView) (system : ℕ) (message : Spooled) → IsPutWell message
    → IsLikeIt own (with_report system message own)
reported-like own system message well = record {
  ledger = refl;
  owed = refl;
  reports = λ are one has. go are one (has-snoc own.reports (record { system = system; message = message }) one has);
}
  where
    go : ArePutWell own.reports → (one : ReportView)
        → Has own.reports one ⊎ (one ≡ record { system = system; message = message }) → IsPutWell one.message
    go are one (inl has) = are one has
    go are one (inr same) = subst (λ (r : ReportView). IsPutWell r.message) (sym same) well

pub states-like : KeepsStates IsLikeIt
states-like = record {
  itself = λ own. likes own;
  comms = λ own next. like-as own (with_comms next own) refl refl refl;
  control = λ own other next like. record { ledger = like.ledger; owed = like.owed; reports = like.reports };
}

-- ---- commands

pub common-calm : HasCommon (IsCalm false)
common-calm = record {
  comms = λ state. ((λ told. tt), ((λ notes. refl), refl));
  control = λ state. ((λ told. tt), ((λ notes. refl), refl));
  failed = λ title. ((λ told. tt), ((λ notes. refl), refl));
  dropped = λ name. ((λ told. tt), ((λ notes. refl), refl));
  denied = λ name. ((λ told. tt), ((λ notes. refl), refl));
  too_long = λ name. ((λ told. tt), ((λ notes. refl), refl));
  full = λ name. ((λ told. tt), ((λ notes. refl), refl));
  ends = λ system. tt;
  removes = λ system. tt;
  recalls = λ header. tt;
  drops = tt;
  aborts = tt;
}

-- ---- what is sent

pub errors-calm : (function : ℕ) (header : Header) (own : OwnView)
    → AreCalmDuties false (sent.error_duty function header own ∷ [])
errors-calm function header own = errors-are common-calm function (λ body. tt) header own

pub going-calm : (message : Spooled) → IsPutWell message → (own : OwnView) (e : EndView Kind)
    → IsCalmTurn own (sent.going_turn message own e)
going-calm message well own e =
    going-of common-calm states-like message refl own (λ system. reported-like own system message well) e

pub event-calm : (dataid : ℕ) (body : List ℕ) (own : OwnView) (e : EndView Kind)
    → IsCalmTurn own (sent.event_turn dataid body own e)
event-calm dataid body own e =
    event-of common-calm states-like dataid body (λ text. refl) own
    (λ system. like-as own (sent.with_asked (Some system) body own) refl refl refl) e
    (going-calm (event_report body) (refl, omega arith) own e)

pub unreported-calm : (name : Name) (own : OwnView) → IsCalmTurn own (unreported_turn name own)
unreported-calm name own = note-of own own (Happening.Dropped name) (likes own) (common-calm.dropped name)

pub too-long-calm : (name : Name) (own : OwnView)
    → IsCalmTurn own (fixed_turn own (Note (Happening.TooLong name) ∷ []))
too-long-calm name own = note-of own own (Happening.TooLong name) (likes own) (common-calm.too_long name)

-- ---- the states

pub comms-calm : (input : CommsIn) (now : ℕ) (own : OwnView) → IsCalmTurn own (states.comms_turn input now own)
comms-calm input now own = comms-of common-calm states-like (λ body. refl) input now own

pub control-calm : (input : ControlIn) (own : OwnView) → IsCalmTurn own (states.control_turn input own)
control-calm input own = control-of common-calm states-like input own

-- ---- replies

pub answers-calm : (answer : Text) (message : Message) → AreCalmDuties false (sent.answer_duties answer message)
answers-calm answer message = answers-are common-calm answer message (λ body. tt)

-- ---- messages

pub error-turn-calm : (function : ℕ) (header : Header) (own : OwnView) → IsCalmTurn own (error_turn function header own)
error-turn-calm function header own = error-of common-calm states-like function (λ body. tt) header own

pub control-request-calm : (input : ControlIn) (message : Message) (own : OwnView)
    → IsCalmTurn own (control_request_turn input message own)
control-request-calm input message own =
    control-request-of common-calm states-like input message (λ body. tt) own

-- lines of which nothing is read
abbrev AreOther : List Happening → Type 0
AreOther lines = AreCalm false (map Note lines)

lines-other : (t : TablesState) (is_local : Bool) (request : TablesRequest)
    → AreOther (lines_of t is_local request)
lines-other =
    lines_hold AreOther tt (λ name. (((λ told. tt), ((λ notes. refl), refl)), tt))
    (λ tid text lines rest. (((λ told. tt), ((λ notes. refl), refl)), rest))

pub answer-calm : (asks : TablesRequest) (message : Message) (own : OwnView)
    → IsCalmTurn own (answer_turn asks message own)
answer-calm asks message own = record {
  duties = (
    (λ e. lines-other own.tables (is_local own) asks),
    answers-calm (answer_of own.tables (is_local own) own.plan.line.max_body asks) message,
  );
  keeps = like-as own (with_tables (tables_after asks own.tables) own) refl refl refl;
}

pub rsda-calm : (message : Message) (own : OwnView) → AreCalmDuties false (rsda_duties message own)
rsda-calm message own = answers-calm (sent.text_of own (code_item (rsda_of own.ledger))) message

-- ---- commands of the tool

pub refused-calm : (own : OwnView) → IsCalmTurn own (refused_turn own)
refused-calm own = note-of own own Happening.Refused (likes own) ((λ told. tt), ((λ notes. refl), refl))

-- ---- the line's turn

pub offer-calm : (now : ℕ) (own : OwnView) → IsCalmTurn own (led_turn (Offer now) (fixed_turn own []))
offer-calm now own = led-of own (Offer now) (fixed_turn own []) tt (fixed-of own own [] (likes own) tt)

pub closes-calm : (own : OwnView) → IsCalmTurn own (fixed_turn own (CloseStep ∷ []))
closes-calm own = fixed-of own own (CloseStep ∷ []) (likes own) (tt, tt)
