use Rattle.std.proofs.Common.{refl, sym, ap, subst, ◌∙◌, ◌++◌, Option}
use Rattle.std.proofs.lemmas.List.{append-nil}
use Rattle.gem_states.specs.declared.control.ControlIn.TheVariants.{AttemptFailed}
use Rattle.trace_log.specs.Names.{Spooled}
use Rattle.message_end.specs.Endings.{notes_failed}
use Rattle.message_end.specs.Parts.{AreCarried}
use Rattle.tool_step.specs.declared.kind.Kind.{Kind}
use Rattle.tool_step.specs.Own.{ToolCommands}
use Rattle.tool_step.specs.Sampling.{notes_data_unsent}
use Rattle.tool_step.specs.States.{control_commands, ending_commands, notes_unsent, unless_stored}
use Rattle.tool_core.proofs.Lost.{noted_alike, noted_then}
use Rattle.tool_core.proofs.own.Own.end_one.Goals as goal

pub returns-in-Establish-clause-notes : goal.returns-in-Establish-clause-notes
returns-in-Establish-clause-notes c =
    noted_alike c.note_failed.result c.args.first c.args.self.now.control (notes_failed c.args.header.now)
    (λ was. ending_commands was c.args.stored.now c.args.kind c.args.header.now) c.args.out.now c.note_failed.new.out
    (λ was. ap (λ (k : Kind). ending_commands was c.args.stored.now k c.args.header.now) c.in-Establish.is)
    c.note_failed.ensures.notes

pub returns-in-Unload-clause-notes : goal.returns-in-Unload-clause-notes
returns-in-Unload-clause-notes c =
    noted_alike c.note_failed-in-Unload.result c.args.first c.args.self.now.control (notes_failed c.args.header.now)
    (λ was. ending_commands was c.args.stored.now c.args.kind c.args.header.now) c.args.out.now
    c.note_failed-in-Unload.new.out
    (λ was. ap (λ (k : Kind). ending_commands was c.args.stored.now k c.args.header.now) c.in-Unload.is)
    c.note_failed-in-Unload.ensures.notes

pub returns-in_ok-note_failed-in-Attempt-clause-notes : goal.returns-in_ok-note_failed-in-Attempt-clause-notes
returns-in_ok-note_failed-in-Attempt-clause-notes c =
    noted_then c.lose_attempt.result c.args.first c.args.self.now.control (notes_failed c.args.header.now)
    (λ was. control_commands AttemptFailed was)
    (λ was. ending_commands was c.args.stored.now c.args.kind c.args.header.now) c.args.out.now
    c.note_failed-in-Attempt.new.out c.lose_attempt.new.out
    (λ was. ap (λ (k : Kind). ending_commands was c.args.stored.now k c.args.header.now) c.in-Attempt.is)
    c.in_ok-note_failed-in-Attempt.ensures.notes c.lose_attempt.ensures.notes

pub returns-in-None-clause-notes : goal.returns-in-None-clause-notes
returns-in-None-clause-notes c =
    noted_alike c.note_failed-in-None.result c.args.first c.args.self.now.control (notes_failed c.args.header.now)
    (λ was. ending_commands was c.args.stored.now c.args.kind c.args.header.now) c.args.out.now
    c.note_failed-in-None.new.out
    (λ was. ap (λ (k : Kind). ending_commands was c.args.stored.now k c.args.header.now) c.in-Report.is
    ∙ ap (λ (o : Option Spooled). unless_stored o (notes_failed c.args.header.now)) c.in-None.is)
    c.note_failed-in-None.ensures.notes

pub returns-in-Some-stored-clause-notes : goal.returns-in-Some-stored-clause-notes
returns-in-Some-stored-clause-notes c = λ was e alike.
    subst
    (λ (commands : ToolCommands). AreCarried commands e c.args.out.now e c.note_failed-in-Grant.new.out)
    (sym (ap (λ (k : Kind). ending_commands was c.args.stored.now k c.args.header.now) c.in-Grant.is
    ∙ ap (λ (o : Option Spooled). notes_failed c.args.header.now ++ unless_stored o notes_unsent) c.in-Some-stored.is
    ∙ append-nil (notes_failed c.args.header.now)))
    (c.in_ok-note_failed-in-Grant.ensures.notes e)

pub returns-in-None-stored-clause-notes : goal.returns-in-None-stored-clause-notes
returns-in-None-stored-clause-notes c =
    noted_then c.note_unsent.result c.args.first c.args.self.now.control (notes_failed c.args.header.now)
    (λ was. notes_unsent) (λ was. ending_commands was c.args.stored.now c.args.kind c.args.header.now) c.args.out.now
    c.note_failed-in-Grant.new.out c.note_unsent.new.out
    (λ was. ap (λ (k : Kind). ending_commands was c.args.stored.now k c.args.header.now) c.in-Grant.is
    ∙ ap (λ (o : Option Spooled). notes_failed c.args.header.now ++ unless_stored o notes_unsent) c.in-None-stored.is)
    c.in_ok-note_failed-in-Grant.ensures.notes
    (noted_alike c.note_unsent.result c.args.first c.args.self.now.control notes_unsent (λ was. notes_unsent)
    c.note_failed-in-Grant.new.out c.note_unsent.new.out (λ was. refl) c.note_unsent.ensures.notes)

pub returns-in_ok-note_failed-in-UnloadGrant-clause-notes : goal.returns-in_ok-note_failed-in-UnloadGrant-clause-notes
returns-in_ok-note_failed-in-UnloadGrant-clause-notes c =
    noted_then c.note_unsent-in-UnloadGrant.result c.args.first c.args.self.now.control
    (notes_failed c.args.header.now) (λ was. notes_unsent)
    (λ was. ending_commands was c.args.stored.now c.args.kind c.args.header.now) c.args.out.now
    c.note_failed-in-UnloadGrant.new.out c.note_unsent-in-UnloadGrant.new.out
    (λ was. ap (λ (k : Kind). ending_commands was c.args.stored.now k c.args.header.now) c.in-UnloadGrant.is)
    c.in_ok-note_failed-in-UnloadGrant.ensures.notes
    (noted_alike c.note_unsent-in-UnloadGrant.result c.args.first c.args.self.now.control notes_unsent
    (λ was. notes_unsent) c.note_failed-in-UnloadGrant.new.out c.note_unsent-in-UnloadGrant.new.out (λ was. refl)
    c.note_unsent-in-UnloadGrant.ensures.notes)

pub returns-in-Trace-clause-notes : goal.returns-in-Trace-clause-notes
returns-in-Trace-clause-notes c =
    noted_alike c.note_failed-in-Trace.result c.args.first c.args.self.now.control (notes_failed c.args.header.now)
    (λ was. ending_commands was c.args.stored.now c.args.kind c.args.header.now) c.args.out.now
    c.note_failed-in-Trace.new.out
    (λ was. ap (λ (k : Kind). ending_commands was c.args.stored.now k c.args.header.now) c.in-Trace.is)
    c.note_failed-in-Trace.ensures.notes

pub returns-in_ok-note_failed-in-TraceGrant-clause-notes : goal.returns-in_ok-note_failed-in-TraceGrant-clause-notes
returns-in_ok-note_failed-in-TraceGrant-clause-notes c =
    noted_then c.note_data_unsent.result c.args.first c.args.self.now.control (notes_failed c.args.header.now)
    (λ was. notes_data_unsent) (λ was. ending_commands was c.args.stored.now c.args.kind c.args.header.now)
    c.args.out.now c.note_failed-in-TraceGrant.new.out c.note_data_unsent.new.out
    (λ was. ap (λ (k : Kind). ending_commands was c.args.stored.now k c.args.header.now) c.in-TraceGrant.is)
    c.in_ok-note_failed-in-TraceGrant.ensures.notes
    (noted_alike c.note_data_unsent.result c.args.first c.args.self.now.control notes_data_unsent
    (λ was. notes_data_unsent) c.note_failed-in-TraceGrant.new.out c.note_data_unsent.new.out (λ was. refl)
    c.note_data_unsent.ensures.notes)
