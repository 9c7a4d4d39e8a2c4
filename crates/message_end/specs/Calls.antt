-- What the calls of an end say: each is a command, carried out.
use Rattle.std.specs.Prelude.{◌≡◌, ◌<◌, ◌≤◌, ◌%◌, ℕ, Bool, not, is_some, min, map, length, IfSome, Option, Some, None, Result, Ok, Err}
use Rattle.std.specs.List.{filter_map, find, reduce}
use Rattle.std.specs.Option.{option_map}
use Rattle.block_codec.specs.Block.{BlockView}
use Rattle.block_codec.specs.Header.{Fits}
use Rattle.block_codec.specs.Protocol.{longest_text}
use Rattle.block_codec.specs.declared.header.Header.{Header}
use Rattle.gl_base.specs.declared.side.Side.{Side}
use Rattle.line_end.specs.declared.event.LineEvent.{LineEvent}
use Rattle.line_end.specs.declared.event.LineEvent.TheVariants.{Arrived, Failed, Nothing, Refused, Sent}
use Rattle.line_end.specs.declared.plan.LinePlan.{LinePlan}
use Rattle.line_end.specs.Step.{line_step}
use Rattle.line_end.specs.Step.LineCall.{Take, Tick}
use Rattle.message_flow.specs.declared.step.Note.{Note}
use Rattle.message_flow.specs.declared.step.StepOut.{StepOut}
use Rattle.message_flow.specs.Assembly as assembly
use Rattle.message_flow.specs.Assembly.{WholeFits, WholeIsChecked, flow_to, header_so_far}
use Rattle.trace_log.specs.Text.{printed_note}
use Rattle.transact.specs.declared.begun.Begun.{Begun}
use Rattle.transact.specs.Numbers.{NumbersView}
use Rattle.transact.specs.Transactions as transactions
use Rattle.transact.specs.Transactions.{deadline_of, is_answered_by, primary_of}
use Rattle.message_end.specs.declared.end.Stop.{Stop}
use Rattle.message_end.specs.declared.end.Stop.TheVariants.{DiskFailed, Full, NoMemory, NumbersSpent}
use Rattle.message_end.specs.declared.end.Took.{Took}
use Rattle.message_end.specs.declared.end.Took.TheVariants as took
use Rattle.message_end.specs.declared.unsent.Unsent.{Unsent}
use Rattle.message_end.specs.Core.{Command, EndView, Step, Went, carry, held_header, is_crowded_out, is_waiting_answered, waiting_primary, with_begun, with_transactions}
use Rattle.message_end.specs.Core.Went.{Goes, Spent}
use Rattle.message_end.specs.Laws.{new_end}

-- the end in the course of a step, with what was noted and written so far
abbrev pub in_step : {K : Type 0} → EndView K → StepOut → Step (EndView K) Note
in_step e out = record { next = e; notes = out.notes; written = out.line.items }

-- unless memory runs out, this is what comes of it. A core has no disk, and no store that could be full
abbrev pub Does : {A K : Type 0} → Went (EndView K) Note → EndView K → StepOut → Result A Stop → Type 0
Does went new out (Ok done) = went ≡ Goes (in_step new out)
Does went new out (Err NumbersSpent) = went ≡ Spent (in_step new out)
Does went new out (Err Full) = ⊥
Does went new out (Err DiskFailed) = ⊥
Does went new out (Err NoMemory) = Unit {0}

-- the command is carried out
abbrev pub Carries :
    {A K : Type 0} → Command K → EndView K → StepOut → EndView K → StepOut → Result A Stop → Type 0
Carries command old out_old new out_new result =
    Does (carry printed_note command (in_step old out_old)) new out_new result

-- by a call that can't fail
abbrev pub IsCarried : {K : Type 0} → Command K → EndView K → StepOut → EndView K → StepOut → Type 0
IsCarried command old out_old new out_new =
    carry printed_note command (in_step old out_old) ≡ Goes (in_step new out_new)

-- a part of a command is carried out
abbrev pub Becomes :
    {A K : Type 0} → (Step (EndView K) Note → Step (EndView K) Note) → EndView K → StepOut → EndView K → StepOut
    → Result A Stop → Type 0
Becomes part old out_old new out_new result = Does (Goes (part (in_step old out_old))) new out_new result

-- its transaction begins, unless it is refused
abbrev pub Begins : {K : Type 0} → K → Header → EndView K → EndView K → Type 0
Begins kind header old new = new ≡ with_transactions (with_begun (Some kind) header old.transactions) old

-- a reply to the primary that asks can be sent
pub record IsEnd {K : Type 0} (e : EndView K) : Type 0 where
  pub stream : IfSome e.asked (λ title. title.name.stream < 128)

-- an end at its start
abbrev pub IsNew : {K : Type 0} → Side → LinePlan → NumbersView → EndView K → Type 0
IsNew side plan numbers e = e ≡ new_end (record { side = side; line = plan }) numbers

-- a primary that can be sent
pub record FitsLine {K : Type 0} (unsent : Unsent K) : Type 0 where
  pub stream : unsent.stream < 128
  pub odd : unsent.function % 2 ≡ 1
  pub short : length unsent.body ≤ longest_text

-- the header of the block that failed
abbrev pub failed_header : LineEvent → Option BlockView → Option Header
failed_header Failed held = held_header held
failed_header Nothing held = None
failed_header Sent held = None
failed_header (Arrived block) held = None
failed_header (Refused cause) held = None

abbrev pub failed_at : {K : Type 0} → EndView K → ℕ → Option Header
failed_at e now = failed_header (line_step e.line (Tick now)).event e.line.held

-- what a character has brought
abbrev pub failed_as : Option Header → Took
failed_as None = took.Nothing
failed_as (Some header) = took.Failed header

abbrev pub took_by : {K : Type 0} → EndView K → LineEvent → Took
took_by e (Arrived block) = took.Came block.header (flow_to e.assembly block)
took_by e Failed = failed_as (held_header e.line.held)
took_by e Nothing = took.Nothing
took_by e Sent = took.Nothing
took_by e (Refused cause) = took.Nothing

abbrev pub took_at : {K : Type 0} → EndView K → ℕ → ℕ → Took
took_at e byte now = took_by e (line_step e.line (Take byte now)).event

-- a message that has come whole is one that blocks can carry
abbrev pub IsGood : Took → Type 0
IsGood (took.Came header flow) = WholeFits longest_text flow
IsGood _ = Unit {0}

-- the check that has come with it is that of its text
abbrev pub IsChecked : Took → Type 0
IsChecked (took.Came header flow) = WholeIsChecked flow
IsChecked _ = Unit {0}

-- the header of a block that has come fits
abbrev pub HasHeader : Took → Type 0
HasHeader (took.Came header flow) = Fits header
HasHeader _ = Unit {0}

-- what T4 and T3 end now, and what a header answers
abbrev pub dropped_now : {K : Type 0} → EndView K → ℕ → Option Header
dropped_now e now = header_so_far (find (assembly.is_due now) e.assembly.partials)

abbrev pub due_now : {K : Type 0} → EndView K → ℕ → Option (Header × K)
due_now e now = option_map primary_of (find (transactions.is_due now) e.transactions.begun)

abbrev pub answered_by : {K : Type 0} → EndView K → Header → Option (Begun K)
answered_by e header = find (is_answered_by header) e.transactions.begun

-- when an end acts next by itself: the least moment of the line's, of T4 and of T3
abbrev pub least : Option ℕ → Option ℕ → Option ℕ
least None other = other
least (Some one) None = Some one
least (Some one) (Some other) = Some (min one other)

abbrev pub deadline_of_end : {K : Type 0} → EndView K → Option ℕ
deadline_of_end e =
    least e.line.deadline
    (least (reduce min (map (λ partial. partial.deadline) e.assembly.partials))
    (reduce min (filter_map deadline_of e.transactions.begun)))

-- a primary goes out
abbrev pub is_sent : {K : Type 0} → Unsent K → EndView K → Bool
is_sent unsent e = not (is_crowded_out (is_some unsent.kind) e)

-- its block is answered by one with this header
abbrev pub is_waiting_for : {K : Type 0} → Header → EndView K → Bool
is_waiting_for header e = is_waiting_answered header e.outgoing (waiting_primary header.system e.outgoing)

-- a character has brought this block
abbrev pub IsCame : {K : Type 0} → EndView K → BlockView → Took → Type 0
IsCame e block brought = brought ≡ took.Came block.header (flow_to e.assembly block)
