-- Turns that say nothing of reports.
use Rattle.std.proofs.Common.{◌≡◌, refl, sym, ap, subst, inl, inr, ◌⊎◌, arith, ◌≤◌, ◌%◌, ◌==◌, Bool, true, false, ℕ, List, [], ◌∷◌, length, Option, None, cond}
use Rattle.std.specs.Prelude.{bytes_eq, filter}
use Rattle.gem_shapes.proofs.ReportPrimaries.{is_report}
use Rattle.gem_states.specs.declared.comms.CommsIn.{CommsIn}
use Rattle.gem_states.specs.declared.control.ControlIn.{ControlIn}
use Rattle.message_flow.proofs.Firsts.{removed, without-first}
use Rattle.setup_store.specs.Entries.{Entry}
use Rattle.trace_log.specs.declared.names.Title.{Title}
use Rattle.trace_log.specs.Log.{Happening}
use Rattle.trace_log.specs.Names.{Spooled}
use Rattle.message_end.specs.declared.unsent.Unsent.{Unsent}
use Rattle.message_end.specs.Core.{EndView}
use Rattle.message_end.specs.Own.{Has}
use Rattle.message_end.proofs.Lists.{has-less, has-snoc}
use Rattle.equipment_tables.specs.declared.answers.Answer.{Answer as Text}
use Rattle.tool_step.specs.Grants.{GrantView}
use Rattle.tool_step.specs.declared.kind.Kind.{Kind}
use Rattle.tool_step.specs.declared.owed.Owed.{Owed}
use Rattle.tool_step.specs.Live.{ReportView}
use Rattle.tool_step.specs.Own.{OwnView, ToolTurn, is_granted_by, is_report_of, with_comms, with_ledger, with_report, without_grant, without_report, with_tried}
use Rattle.tool_reports.specs.Reported.{is_event_report}
use Rattle.tool_step.specs.Reports.{report_turn}
use Rattle.tool_step.specs.Spooling.{booked_turn, lines_commands, stored_turn}
use Rattle.equipment_tables.specs.Tables.{overwrites}
use Rattle.spool_ledger.specs.Ledger.{Booked, LedgerView}
use Rattle.tool_step.specs.Sent as sent
use Rattle.tool_step.specs.States as states
use Rattle.tool_reports.proofs.QuietNotes.{IsAsBefore, IsQuietNote, counted}
use Rattle.tool_law.proofs.CommandWalks.{AllAre, HasCommon, lines-are}
use Rattle.tool_law.proofs.LedgerLines.{HasSpoolNotes, stored-lines}
use Rattle.tool_law.proofs.TurnWalks.{IsTurnOf, KeepsStates, booked-of, comms-of, control-of, going-of, judged-of, stored-of}
use Rattle.tool_reports.proofs.SilentCommands.{AreSilent, IsSilent, common-silent}

-- ---- what the law reads of what the equipment keeps

-- how many S6F11 with this text wait for its grant
abbrev pub count_waiting : List ℕ → List GrantView → ℕ
count_waiting body waiting = length (filter (λ one. bytes_eq body one.body) waiting)

-- what it asks of an object outside, and the setup that it keeps; and where it asks nothing
abbrev pub kept_of : OwnView → Option Owed × Option (List Entry)
kept_of own = (own.owed, own.setup)

abbrev pub owing_none : Option (List Entry) → Option Owed × Option (List Entry)
owing_none setup = (None, setup)

-- the same is kept, with no more S6F11 that wait, or were sent
pub record IsNoMore (own other : OwnView) : Type 0 where
  pub plan_is : other.plan ≡ own.plan
  pub kept_is : kept_of other ≡ kept_of own
  pub tables_are : other.tables ≡ own.tables
  pub events_are : other.events ≡ own.events
  pub fewer : (body : List ℕ) → count_waiting body other.for_grant ≤ count_waiting body own.for_grant
  pub live :
      (one : ReportView) → Has other.reports one → is_event_report one.message ≡ true → Has own.reports one

pub at-most : (n : ℕ) → n ≤ n
at-most n = omega arith

pub fewer-without :
    (test : GrantView → Bool) (waiting : List GrantView) (body : List ℕ)
    → count_waiting body (without-first test waiting) ≤ count_waiting body waiting
fewer-without test [] body = at-most (count_waiting body [])
fewer-without test (first ∷ waiting) body = go (test first) (fewer-without test waiting body)
  where
    passes : GrantView → Bool
    passes = λ one. bytes_eq body one.body

    go : (b : Bool) → count_waiting body (without-first test waiting) ≤ count_waiting body waiting
        → count_waiting body (cond b waiting (first ∷ without-first test waiting)) ≤ count_waiting body (first
        ∷ waiting)
    go true rest = let more = counted passes first waiting in omega (arith, more)
    go false rest =
        let more = counted passes first waiting in
        let less = counted passes first (without-first test waiting) in
        omega (arith, more, less, rest)

pub ungranted : (own : OwnView) (system : ℕ) → IsNoMore own (without_grant system own)
ungranted own system = record {
  plan_is = refl;
  kept_is = refl;
  tables_are = refl;
  events_are = refl;
  fewer = λ body.
      subst (λ (waiting : List GrantView). count_waiting body waiting ≤ count_waiting body own.for_grant)
      (sym (removed (is_granted_by system) own.for_grant))
      (fewer-without (is_granted_by system) own.for_grant body);
  live = λ one has is. has;
}

pub unreported : (own : OwnView) (system : ℕ) → IsNoMore own (without_report system own)
unreported own system = record {
  plan_is = refl;
  kept_is = refl;
  tables_are = refl;
  events_are = refl;
  fewer = λ body. at-most (count_waiting body own.for_grant);
  live = λ one has is.
      has-less (is_report_of system) own.reports one
      (subst (λ (live : List ReportView). Has live one) (removed (is_report_of system) own.reports) has);
}

-- a report that is no S6F11 was sent
pub reported : (own : OwnView) (system : ℕ) (message : Spooled) → is_event_report message ≡ false
    → IsNoMore own (with_report system message own)
reported own system message none = record {
  plan_is = refl;
  kept_is = refl;
  tables_are = refl;
  events_are = refl;
  fewer = λ body. at-most (count_waiting body own.for_grant);
  live = λ one has is. go one (has-snoc own.reports (record { system = system; message = message }) one has) is;
}
  where
    go : (one : ReportView) → Has own.reports one ⊎ (one ≡ record { system = system; message = message })
        → is_event_report one.message ≡ true → Has own.reports one
    go one (inl has) is = has
    go one (inr same) is =
        let other = ap (λ (r : ReportView). is_event_report r.message) same in absurd (cc)

-- the same own but for its states, its ledger and its traces
pub stays : (own other : OwnView) → other.plan ≡ own.plan → kept_of other ≡ kept_of own → other.tables ≡ own.tables
    → other.events ≡ own.events → other.for_grant ≡ own.for_grant → other.reports ≡ own.reports → IsNoMore own other
stays own other plan kept tables events waiting reports = record {
  plan_is = plan;
  kept_is = kept;
  tables_are = tables;
  events_are = events;
  fewer = λ body.
      subst (λ (all : List GrantView). count_waiting body all ≤ count_waiting body own.for_grant) (sym waiting)
      (at-most (count_waiting body own.for_grant));
  live = λ one has is. subst (λ (all : List ReportView). Has all one) reports has;
}

pub itself : (own : OwnView) → IsNoMore own own
itself own = stays own own refl refl refl refl refl refl

pub booked-stays : (own : OwnView) (ledger : LedgerView) → IsNoMore own (with_ledger ledger own)
booked-stays own ledger = stays own (with_ledger ledger own) refl refl refl refl refl refl

pub tried-stays : (own : OwnView) (ledger : LedgerView) (system : ℕ)
    → IsNoMore own (with_tried system (with_ledger ledger own))
tried-stays own ledger system = stays own (with_tried system (with_ledger ledger own)) refl refl refl refl refl refl

pub states-stay : KeepsStates IsNoMore
states-stay = record {
  itself = λ own. itself own;
  comms = λ own next. stays own (with_comms next own) refl refl refl refl refl refl;
  control = λ own other next less. record {
    plan_is = less.plan_is;
    kept_is = less.kept_is;
    tables_are = less.tables_are;
    events_are = less.events_are;
    fewer = less.fewer;
    live = less.live;
  };
}

-- ---- lines of the spool

abbrev pub AreQuietLines : List Happening → Type 0
AreQuietLines lines = AllAre IsQuietNote lines

pub spool-quiet : HasSpoolNotes IsQuietNote
spool-quiet = record {
  spool = λ active. tt;
  stored = λ number. tt;
  leaving = λ number cause room_for. tt;
  gone = λ number. tt;
  discarded = λ name. tt;
  too_long = λ name. tt;
}

-- a primary of which nothing is said
abbrev pub IsNoReport : Unsent Kind → Type 0
IsNoReport unsent =
    (is_report unsent.stream unsent.function ≡ false) × ((unsent.function % 2 == 1) ≡ true)

-- ---- turns

module _
    (Asks : Option Title → Type 0) (none : Asks None) (Fact : List Happening → Type 0)
    (lasts : (old new : List Happening) → IsAsBefore old new → Fact old → Fact new) where
  common : HasCommon (IsSilent Asks none Fact lasts)
  common = common-silent Asks none Fact lasts

  abbrev pub IsPlain : OwnView → ToolTurn → Type 0
  IsPlain own turn = IsTurnOf (IsSilent Asks none Fact lasts) IsNoMore own turn

  pub lines-silent : (lines : List Happening) → AreQuietLines lines
      → AreSilent Asks none Fact lasts (lines_commands lines)
  lines-silent lines are = lines-are (IsSilent Asks none Fact lasts) IsQuietNote (λ what is. is) lines are

  -- a change of the ledger with lines of which nothing is said
  pub booked-plain : (own : OwnView) (booked : Booked) → AreQuietLines booked.lines
      → IsPlain own (booked_turn booked own)
  booked-plain own booked are =
      booked-of (IsSilent Asks none Fact lasts) IsNoMore IsQuietNote (λ what is. is) booked-stays own booked are

  stored-plain : (message : Spooled) → is_event_report message ≡ false → (own : OwnView)
      → IsPlain own (stored_turn message own)
  stored-plain message is_none own =
      stored-of (IsSilent Asks none Fact lasts) IsNoMore IsQuietNote (λ what is. is) booked-stays tt message own
      (itself own) (stored-lines spool-quiet (overwrites own.tables) message own.ledger (λ number. is_none))

  -- a report that is no S6F11
  pub report-plain :
      (report : List ℕ → Spooled) → ((body : List ℕ) → IsNoReport (sent.live_report (report body)))
      → ((body : List ℕ) → is_event_report (report body) ≡ false) → (text : Text) (own : OwnView) (e : EndView Kind)
      → IsPlain own (report_turn report text own e)
  report-plain report other no_event text own e =
      judged-of common states-stay report (λ (message : Spooled). sent.going_turn message own e) text own
      (λ body. stored-plain (report body) (no_event body) own)
      (λ body.
      going-of common states-stay (report body) (other body) own
      (λ system. reported own system (report body) (no_event body)) e)

  -- ---- the states

  pub comms-plain : (input : CommsIn) (now : ℕ) (own : OwnView) → IsPlain own (states.comms_turn input now own)
  comms-plain input now own = comms-of common states-stay (λ body. (refl, refl)) input now own

  pub control-plain : (input : ControlIn) (own : OwnView) → IsPlain own (states.control_turn input own)
  control-plain input own = control-of common states-stay input own
