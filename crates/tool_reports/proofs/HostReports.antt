-- What a message of the host leaves of what holds.
use Rattle.std.proofs.Common.{◌≡◌, refl, sym, ap, subst, ◌∙◌, Bool, true, false, not, ℕ, ◌%◌, ◌==◌, ◌&&◌, List, ◌∷◌, Option, Some, None, if◌then◌else◌}
use Rattle.std.proofs.lemmas.Bool.{eqb-true}
use Rattle.gem_shapes.specs.Primaries.{has_function, primaries, primary_with, stream_and_function}
use Rattle.gem_shapes.specs.declared.primary.Primary.{Primary}
use Rattle.gem_shapes.specs.declared.request.Request.{Request}
use Rattle.gem_shapes.specs.declared.request.Request.TheVariants as request
use Rattle.gem_shapes.specs.declared.request.TablesRequest.{TablesRequest}
use Rattle.gem_shapes.specs.declared.request.TablesRequest.TheVariants as tables_request
use Rattle.gem_shapes.proofs.ReportPrimaries.{asks_for_report, is_report, other_reply}
use Rattle.message_flow.specs.declared.message.Message.{Message}
use Rattle.trace_log.specs.declared.names.Title.{Title}
use Rattle.trace_log.specs.Log.{Happening, Past}
use Rattle.trace_log.specs.Names.{title_of}
use Rattle.message_end.specs.Core.{reply_function, reply_of}
use Rattle.message_end.specs.Core.Command.{Reply}
use Rattle.message_end.proofs.Members.{found-in}
use Rattle.equipment_tables.specs.Answers.{lines_of}
use Rattle.equipment_tables.specs.Tables.{TablesState, asked_after}
use Rattle.equipment_tables.proofs.Lines.{lines_hold}
use Rattle.tool_step.specs.Messages.{is_establish_request}
use Rattle.tool_step.specs.Own.{OwnView, with_tables}
use Rattle.tool_reports.specs.Reported.{is_no_space, past_in, reports_in}
use Rattle.tool_reports.proofs.HeldReports.{Any}
use Rattle.tool_reports.proofs.QuietNotes.{IsAsBefore, IsNone, never-live, none-of, none-sent, IsQuietNote, settled-more, still-rests}
use Rattle.tool_law.proofs.CommandWalks.{AllAre}
use Rattle.tool_reports.proofs.SilentCommands.{IsSilent}

-- ---- who asks

-- the newest primary is this one, if any asks still, and it awaits a reply
abbrev pub AsksOf : Message → Option Title → Type 0
AsksOf message asked =
    (title : Title) → asked ≡ Some title → (title ≡ title_of message) × (message.wait ≡ true)

pub asks-none : (message : Message) → AsksOf message None
asks-none message title is = absurd (cc)

-- a reply to it is none of which something is said
abbrev pub IsOther : Message → Type 0
IsOther message = is_report message.stream (reply_function message.function) ≡ false

-- behind notes of which this holds a reply to the message, which has W, leaves all as it is, whatever its text
abbrev pub MayReply : (List Happening → Type 0) → Message → Type 0
MayReply Fact message =
    (body : List ℕ) (notes : List Happening) → message.wait ≡ true → Fact notes
    → IsAsBefore notes (Happening.Sent (reply_of (title_of message) (reply_function message.function) body) ∷ notes)

pub other-silent :
    (message : Message) (Fact : List Happening → Type 0)
    (lasts : (old new : List Happening) → IsAsBefore old new → Fact old → Fact new)
    → MayReply Fact message → (body : List ℕ)
    → IsSilent (AsksOf message) (asks-none message) Fact lasts (Reply body)
other-silent message Fact lasts may body = λ title asks notes fact.
    subst
    (λ (t : Title).
    IsAsBefore notes (Happening.Sent (reply_of t (reply_function t.name.function) body) ∷ notes))
    (sym (asks title refl).0) (may body notes (asks title refl).1 fact)

-- the message is the newest entry of the history
abbrev pub IsNewest : Message → List Happening → Type 0
IsNewest message notes = (earlier : List Past) × (past_in notes ≡ Past.Asked message ∷ earlier)

pub newest-lasts : (message : Message) (old new : List Happening) → IsAsBefore old new → IsNewest message old
    → IsNewest message new
newest-lasts message old new same fact = (fact.0, same.past ∙ fact.1)

pub may-behind : (message : Message) → IsOther message → MayReply (IsNewest message) message
may-behind message other body notes waits fact = record {
  past = refl;
  kept = λ held. refl;
  events = refl;
  reports =
      ap (λ (b : Bool). if b then out.body ∷ reports_in notes else reports_in notes)
      (never-live out notes none.s6f11);
  next = refl;
  tries = refl;
  keeps = λ plan start so.
      settled-more plan start (Happening.Sent out) notes tt refl
      (record {
        s6f11 = λ is. let e = never-live out notes none.s6f11 in absurd (cc);
        s6f16 = λ is. let e = none.s6f16 in absurd (cc);
        s6f20 = λ is. let e = none.s6f20 in absurd (cc);
        reply = λ is. record {
          primary = message;
          earlier = fact.0;
          newest = fact.1;
          awaited = waits;
          stream = refl;
          function = refl;
          wait = refl;
          system = refl;
        };
      })
      refl (still-rests plan (Happening.Sent out) notes refl) so;
}
  where
    out : Message
    out = reply_of (title_of message) (reply_function message.function) body

    none : IsNone out
    none = none-of out other

pub may-establish : (message : Message) → is_establish_request message ≡ true → MayReply Any message
may-establish message is body notes waits any =
    go (message.stream == 1) (message.function == 13) refl refl is
  where
    out : Message
    out = reply_of (title_of message) (reply_function message.function) body

    go : (a b : Bool) → (message.stream == 1) ≡ a → (message.function == 13) ≡ b → (a && b) ≡ true
        → IsAsBefore notes (Happening.Sent out ∷ notes)
    go true true ea eb all =
        none-sent out
        (none-of out
        (ap (λ (s : ℕ). is_report s (reply_function message.function)) (eqb-true message.stream 1 ea)))
        (ap
        (λ (s : ℕ).
        ((not (reply_function message.function % 2 == 1) && not (reply_function message.function == 0))
        && not ((s == 1) && (reply_function message.function == 14))) && not (is_no_space out))
        (eqb-true message.stream 1 ea)
        ∙ ap
        (λ (f : ℕ).
        ((not (reply_function f % 2 == 1) && not (reply_function f == 0))
        && not ((1 == 1) && (reply_function f == 14))) && not (is_no_space out))
        (eqb-true message.function 13 eb)) notes
    go true false ea eb all = absurd (cc)
    go false b ea eb all = absurd (cc)

-- ---- what is noted on the way

pub lines-quiet : (t : TablesState) (is_local : Bool) (request : TablesRequest)
    → AllAre IsQuietNote (lines_of t is_local request)
lines-quiet =
    lines_hold (AllAre IsQuietNote) tt (λ name. (tt, tt))
    (λ tid text lines rest. (tt, rest))

pub record IsNamed (p : Primary) (message : Message) : Type 0 where
  pub stream : message.stream ≡ (stream_and_function p).0
  pub function : message.function ≡ (stream_and_function p).1

pub named : (p : Primary) (message : Message) → primary_with message.stream message.function ≡ Some p
    → IsNamed p message
named p message is =
    both ((stream_and_function p).0 == message.stream) ((stream_and_function p).1 == message.function) refl refl
    (found-in (has_function message.stream message.function) primaries p is).1
  where
    both : (a b : Bool) → ((stream_and_function p).0 == message.stream) ≡ a
        → ((stream_and_function p).1 == message.function) ≡ b → (a && b) ≡ true → IsNamed p message
    both true true ea eb all = record {
      stream = sym (eqb-true (stream_and_function p).0 message.stream ea);
      function = sym (eqb-true (stream_and_function p).1 message.function eb);
    }
    both true false ea eb all = absurd (cc)
    both false b ea eb all = absurd (cc)

pub is-other : (p : Primary) (message : Message) → IsNamed p message → asks_for_report p ≡ false → IsOther message
is-other p message is other =
    ap (λ (s : ℕ). is_report s (reply_function message.function)) is.stream
    ∙ ap (λ (f : ℕ). is_report (stream_and_function p).0 (reply_function f)) is.function
    ∙ other_reply p other

-- ---- requests

-- S6F15 and S6F19
abbrev pub event_asked : ℕ → Request
event_asked ceid = request.OfTables (tables_request.EventReport ceid)

abbrev pub report_asked : ℕ → Request
report_asked rptid = request.OfTables (tables_request.Report rptid)

-- with the tables as a request leaves them
abbrev pub requested : Request → OwnView → OwnView
requested request own = with_tables (asked_after (Some request) own.tables) own
