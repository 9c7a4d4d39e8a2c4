-- Notes that are read otherwise.
use Rattle.std.proofs.Common.{if◌then◌else◌, ◌≡◌, refl, sym, ap, ◌∙◌, Bool, true, false, ℕ, List, [], ◌∷◌, ◌++◌, Some, None, Option}
use Rattle.std.specs.List.{cons_option, filter_map}
use Rattle.std.specs.Option.{option_to_list}
use Rattle.std.proofs.lemmas.List.Elements.{filter_map-append}
use Rattle.trace_log.specs.Log.{Happening}
use Rattle.message_end.specs.declared.unsent.Unsent.{Unsent}
use Rattle.message_end.specs.Core.{EndView, Command, Step, Went, and_then, at_first, noted, with_end, with_asked, with_numbers, with_outgoing, calls, unsent_name, primary_of, is_crowded_out, queues, sends, draws, keeps_drawn, primary, drawn_primary, reply_function, reply_of, replies, judges, tells, gives, held_header, offers, drops, times_out, answers, carry, carried}
use Rattle.message_end.specs.Laws.{NotesAreRead, read_as, went_as}
use Rattle.std.specs.Prelude.{is_some, nat_le, length}
use Rattle.std.specs.List.{find}
use Rattle.block_codec.specs.Block.{BlockView}
use Rattle.block_codec.specs.declared.header.Header.{Header}
use Rattle.line_end.specs.declared.event.LineEvent.{LineEvent}
use Rattle.line_end.specs.declared.event.LineEvent.TheVariants.{Arrived, Failed, Nothing, Refused, Sent}
use Rattle.line_end.specs.declared.event.Phase.{Phase}
use Rattle.line_end.specs.declared.event.Phase.TheVariants.{AwaitAck, AwaitEot, AwaitLength, Gathering, Idle, Settling}
use Rattle.line_end.specs.Step.{LineCall}
use Rattle.message_flow.specs.declared.flow.Flow.{Flow}
use Rattle.message_flow.specs.declared.flow.Flow.TheVariants.{Part, Whole, Duplicate, Foreign, Unexpected, TooLong, Crowded}
use Rattle.message_flow.specs.declared.message.Message.{Message}
use Rattle.message_flow.specs.Assembly as assembly
use Rattle.message_flow.specs.Assembly.{flow_to, header_so_far}
use Rattle.message_flow.specs.Outgoing.{next_block_of, next_turn}
use Rattle.trace_log.specs.declared.names.Title.{Title}
use Rattle.trace_log.specs.Names.{header_title, message_name}
use Rattle.transact.specs.declared.begun.Begun.{Begun}
use Rattle.transact.specs.Numbers.{after_draw, next_number}
use Rattle.transact.specs.Transactions as transactions
use Rattle.transact.specs.Transactions.{is_answered_by}
use Rattle.message_end.specs.Core.Went.{Goes, Spent}

module _ {K N : Type 0} (say : Happening → Option N) where
  abbrev read : Step (EndView K) Happening → Step (EndView K) N
  read step = read_as say step

  read-noted :
      (what : Happening) (step : Step (EndView K) Happening) → noted say what (read step) ≡ read (noted Some what step)
  read-noted what step =
      ap (λ (ns : List N). record { next = step.next; notes = ns; written = step.written })
      (ap (λ (ns : List N). filter_map say step.notes ++ ns) (one (say what))
      ∙ sym (filter_map-append say step.notes (what ∷ [])))
    where
      one : (o : Option N) → option_to_list o ≡ cons_option o []
      one None = refl
      one (Some n) = refl

  read-draws :
      (next : Option ℕ) (f : ℕ → Step (EndView K) N → Step (EndView K) N)
      (g : ℕ → Step (EndView K) Happening → Step (EndView K) Happening) (step : Step (EndView K) Happening)
      → ((number : ℕ) (s : Step (EndView K) Happening) → f number (read s) ≡ read (g number s))
      → draws next f (read step) ≡ went_as say (draws next g step)
  read-draws None f g step same = refl
  read-draws (Some number) f g step same =
      ap (λ (s : Step (EndView K) N). Goes s)
      (same number (with_end (with_numbers (after_draw step.next.numbers) step.next) step))

  read-primary :
      (unsent : Unsent K) (step : Step (EndView K) Happening)
      → primary say unsent (read step) ≡ went_as say (primary Some unsent step)
  read-primary unsent step = go (is_crowded_out (is_some unsent.kind) step.next)
    where
      go : (crowded : Bool)
          → (if crowded then Goes (noted say (Happening.Full (unsent_name unsent)) (read step))
          else draws (next_number step.next.numbers) (sends say unsent) (read step))
          ≡ went_as say (if crowded then Goes (noted Some (Happening.Full (unsent_name unsent)) step)
          else draws (next_number step.next.numbers) (sends Some unsent) step)
      go true = ap (λ (s : Step (EndView K) N). Goes s) (read-noted (Happening.Full (unsent_name unsent)) step)
      go false = read-draws (next_number step.next.numbers) (sends say unsent) (sends Some unsent) step
          (λ number s. read-noted (Happening.Sent (primary_of unsent number)) _)

  read-drawn :
      (unsent : Unsent K) (drawn : Option ℕ) (step : Step (EndView K) Happening)
      → drawn_primary say unsent drawn (read step) ≡ read (drawn_primary Some unsent drawn step)
  read-drawn unsent None step = refl
  read-drawn unsent (Some number) step = go (is_crowded_out (is_some unsent.kind) step.next)
    where
      go : (crowded : Bool)
          → (if crowded then noted say (Happening.Full (unsent_name unsent)) (read step)
          else sends say unsent number (with_end (record step.next { drawn = None }) (read step)))
          ≡ read (if crowded then noted Some (Happening.Full (unsent_name unsent)) step
          else sends Some unsent number (with_end (record step.next { drawn = None }) step))
      go true = read-noted (Happening.Full (unsent_name unsent)) step
      go false = read-noted (Happening.Sent (primary_of unsent number)) _

  read-replies :
      (asked : Option Title) (function : ℕ → ℕ) (body : List ℕ) (step : Step (EndView K) Happening)
      → replies say asked function body (read step) ≡ read (replies Some asked function body step)
  read-replies None function body step = refl
  read-replies (Some title) function body step = go (nat_le 128 (length step.next.outgoing.waiting))
    where
      message : Message
      message = reply_of title (function title.name.function) body

      go : (full : Bool)
          → (if full then noted say (Happening.Full (message_name message)) (with_end (with_asked None step.next)
          (read step))
          else queues say message (with_end (with_asked None step.next) (read step)))
          ≡ read (if full then noted Some (Happening.Full (message_name message)) (with_end
          (with_asked None step.next) step)
          else queues Some message (with_end (with_asked None step.next) step))
      go true = read-noted (Happening.Full (message_name message)) _
      go false = read-noted (Happening.Sent message) _

  read-judges :
      (header : Header) (flow : Flow) (step : Step (EndView K) Happening)
      → judges say header flow (read step) ≡ read (judges Some header flow step)
  read-judges header Part step = refl
  read-judges header (Whole message check) step = read-noted (Happening.Received message) _
  read-judges header Duplicate step = read-noted (Happening.Duplicate header) step
  read-judges header (Foreign address) step = read-noted (Happening.Foreign header) step
  read-judges header Unexpected step = read-noted (Happening.Unexpected header) step
  read-judges header TooLong step = read-noted (Happening.TooLongBlock header) step
  read-judges header Crowded step = read-noted (Happening.Crowded header) step

  read-tells :
      (held : Option Header) (event : LineEvent) (now : ℕ) (step : Step (EndView K) Happening)
      → tells say held event now (read step) ≡ read (tells Some held event now step)
  read-tells held (Arrived block) now step =
      read-judges block.header (flow_to step.next.assembly block) _
  read-tells held Sent now step = refl
  read-tells held Nothing now step = refl
  read-tells held Failed now step = refl
  read-tells held (Refused cause) now step = refl

  read-gives :
      (block : Option BlockView) (now : ℕ) (step : Step (EndView K) Happening)
      → gives block now (read step) ≡ read (gives block now step)
  read-gives None now step = refl
  read-gives (Some block) now step = refl

  read-offers :
      (phase : Phase) (held : Option BlockView) (now : ℕ) (step : Step (EndView K) Happening)
      → offers phase held now (read step) ≡ read (offers phase held now step)
  read-offers Idle (Some block) now step = refl
  read-offers Idle None now step =
      let out = step.next.outgoing in
      read-gives (next_block_of out.side out.device out.waiting).0 now
      (with_end (with_outgoing (next_turn out) step.next) step)
  read-offers AwaitEot held now step = refl
  read-offers AwaitAck held now step = refl
  read-offers AwaitLength held now step = refl
  read-offers Gathering held now step = refl
  read-offers Settling held now step = refl

  read-drops :
      (found : Option Header) (now : ℕ) (step : Step (EndView K) Happening)
      → drops say found now (read step) ≡ read (drops Some found now step)
  read-drops None now step = refl
  read-drops (Some header) now step = read-noted (Happening.DroppedByT4 header) _

  read-times-out :
      (test : Begun K → Bool) (found : Option (Begun K)) (step : Step (EndView K) Happening)
      → times_out say test found (read step) ≡ read (times_out Some test found step)
  read-times-out test None step = refl
  read-times-out test (Some begun) step = read-noted (Happening.TimedOut (header_title begun.header)) _

  read-answers :
      (header : Header) (found : Option (Begun K)) (step : Step (EndView K) Happening)
      → answers say header found (read step) ≡ read (answers Some header found step)
  read-answers header None step = read-noted (Happening.Stranger (header_title header)) step
  read-answers header (Some begun) step = refl

  goes : {s t : Step (EndView K) N} → s ≡ t → Goes s ≡ Goes t
  goes same = ap (λ (x : Step (EndView K) N). Goes x) same

  read-carry :
      (one : Command K) (step : Step (EndView K) Happening)
      → carry say one (read step) ≡ went_as say (carry Some one step)
  read-carry (Command.Note what) step = goes (read-noted what step)
  read-carry (Command.Primary unsent) step = read-primary unsent step
  read-carry Command.Draw step =
      read-draws (next_number step.next.numbers) keeps_drawn keeps_drawn step (λ number s. refl)
  read-carry (Command.DrawnPrimary unsent) step = goes (read-drawn unsent step.next.drawn step)
  read-carry (Command.More count) step = refl
  read-carry (Command.Reply body) step = goes (read-replies step.next.asked reply_function body step)
  read-carry Command.Abort step = goes (read-replies step.next.asked (λ function. 0) [] step)
  read-carry (Command.Tick now) step = refl
  read-carry (Command.Take byte now) step =
      goes (read-tells (held_header step.next.line.held) _ now (calls (LineCall.Take byte now) step))
  read-carry (Command.Offer now) step = goes (read-offers step.next.line.phase step.next.line.held now step)
  read-carry (Command.DropDue now) step =
      goes (read-drops (header_so_far (find (assembly.is_due now) step.next.assembly.partials)) now step)
  read-carry (Command.Expire now) step = goes (read-times-out (transactions.is_due now) _ step)
  read-carry (Command.Answer header) step = goes (read-answers header _ step)
  read-carry (Command.GiveUp header) step = goes (read-times-out (is_answered_by header) _ step)
  read-carry (Command.End system) step = refl
  read-carry (Command.Recall header) step = refl
  read-carry (Command.Remove primary system) step = refl
  read-carry Command.DropFront step = refl
  read-carry Command.CloseStep step = goes (read-noted Happening.StepEnded (with_end (with_asked None step.next) step))
  read-carry Command.Halt step = refl

  pub read-carried :
      (commands : List (Command K)) (step : Step (EndView K) Happening)
      → carried say commands (read step) ≡ went_as say (carried Some commands step)
  read-carried [] step = refl
  read-carried (one ∷ commands) step =
      ap (λ (w : Went (EndView K) N). and_then w (carried say commands)) (read-carry one step)
      ∙ go (carry Some one step) (λ next. read-carried commands next)
    where
      go : (went : Went (EndView K) Happening)
          → ((next : Step (EndView K) Happening)
          → carried say commands (read next) ≡ went_as say (carried Some commands next))
          → and_then (went_as say went) (carried say commands) ≡ went_as say (and_then went (carried Some commands))
      go (Goes next) more = more next
      go (Spent next) more = refl

pub read-all : {K N : Type 0} → NotesAreRead K N
read-all {K} {N} = λ say commands e. read-carried {K = K} {N = N} say commands (at_first e)
