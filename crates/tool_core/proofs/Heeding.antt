-- How a message is heeded, as the code does it.
use Rattle.std.proofs.Common.{◌≡◌, refl, sym, ap, subst, ◌∙◌, Bool, true, false, not, ◌&&◌, ℕ, List, [], ◌∷◌, ◌++◌, Option, Some, None, if◌then◌else◌}
use Rattle.std.specs.Prelude.{Result, Ok, Err, IfOk, map}
use Rattle.std.specs.List.{filter_map}
use Rattle.block_codec.specs.declared.header.Header.{Header}
use Rattle.gem_shapes.specs.declared.request.Request.{Request}
use Rattle.gem_shapes.specs.Primaries.{is_known}
use Rattle.gem_states.specs.declared.comms.CommsIn.TheVariants.{HostRequest}
use Rattle.message_flow.specs.declared.message.Message.{Message}
use Rattle.message_flow.specs.declared.step.Note.{Note}
use Rattle.message_flow.specs.declared.step.StepOut.{StepOut}
use Rattle.setup_store.specs.Entries.{Entry, bytes_of, has_room}
use Rattle.trace_log.specs.declared.names.Name.{Name}
use Rattle.trace_log.specs.Log.{Happening, Past}
use Rattle.trace_log.specs.Names.{message_name}
use Rattle.trace_log.specs.Text.{printed_note}
use Rattle.message_end.specs.declared.end.Stop.{Stop}
use Rattle.message_end.specs.Core.{EndView, Went, and_then, carried, carry}
use Rattle.message_end.specs.Core.Command.{End, Note as NoteThis, Remove}
use Rattle.message_end.specs.Core.Went.{Goes}
use Rattle.message_end.specs.Parts.{Takes, on_the_way}
use Rattle.equipment_tables.specs.declared.answers.Answer.{Answer}
use Rattle.equipment_tables.specs.Requests.{request_of}
use Rattle.equipment_tables.specs.Tables.{TablesState}
use Rattle.tool_step.specs.declared.kind.Kind.{Kind}
use Rattle.tool_step.specs.declared.kind.Kind.TheVariants as kind
use Rattle.tool_step.specs.Recipes.{takes_stream}
use Rattle.tool_step.specs.Messages.{dropped_turn, error_turn, established_duties, established_turn, heard_turn, is_establish_request, is_online_request, keep_turn, kept_turn, known_turn, offline_turn, own_s1f13_commands, own_s1f13_duty, primary_turn, read_turn, request_turn, requested_turn, stray_turn, unkept_turn}
use Rattle.tool_step.specs.Own.{OwnView, ToolDuty, ToolTurn, is_communicating, is_online, turn_of, with_tables}
use Rattle.tool_step.specs.Reports.{unreported_turn}
use Rattle.tool_step.specs.Sent.{answer_duties}
use Rattle.tool_step.specs.States.{comms_turn}
use Rattle.tool_core.proofs.Following.{behind_lines, node}
use Rattle.tool_core.proofs.Taking.{duties_end, turned}
use Rattle.tool_core.proofs.Turned.{HasTaken, ToolNode, behind, recorded}

-- duties behind a turn that was taken, which rest on what is kept then
pub behind_so :
    (A : Type 0) (first : ToolTurn) (duties : OwnView → List ToolDuty) (old middle new : ToolNode)
    (out out_middle out_new : StepOut) (result : Result A Stop)
    → HasTaken first old out middle out_middle
    → Takes (turn_of middle.own (duties middle.own)) middle out_middle new out_new result
    → Takes (turn_of first.own (first.duties ++ duties first.own)) old out new out_new result
behind_so A first duties old middle new out out_middle out_new result taken is =
    behind first (turn_of first.own (duties first.own)) old middle new out out_middle out_new result taken
    (subst (λ (own : OwnView). Takes (turn_of own (duties own)) middle out_middle new out_new result)
    (sym (turned first old middle out out_middle taken)) is)

-- the tables have carried a request out, and answered it
pub answered :
    (A : Type 0) (own : OwnView) (core : EndView Kind) (tables wanted : TablesState) (text asked : Answer)
    (lines : List Happening) (message : Message) (new : ToolNode) (out out_new : StepOut) (notes : List Note)
    (result : Result A Stop)
    → tables ≡ wanted → text ≡ asked → notes ≡ out.notes ++ filter_map printed_note lines
    → Takes (turn_of (with_tables tables own) (answer_duties text message)) (node (with_tables tables own) core)
    (record { line = out.line; notes = notes }) new out_new result
    → Takes (turn_of (with_tables wanted own) ((λ e. map NoteThis lines) ∷ answer_duties asked message)) (node own core)
    out new out_new result
answered A own core tables wanted text asked lines message new out out_new notes result same_tables same_text noted is =
    behind_lines A (with_tables wanted own) lines (answer_duties asked message) (node own core)
    (node (with_tables wanted own) core) new out (record { line = out.line; notes = notes })
    out_new result refl noted refl
    (subst
    (λ (t : TablesState). Takes (turn_of (with_tables t own) (answer_duties asked message))
    (node (with_tables t own) core) (record { line = out.line; notes = notes }) new out_new result)
    same_tables
    (subst
    (λ (a : Answer). Takes (turn_of (with_tables tables own) (answer_duties a message))
    (node (with_tables tables own) core) (record { line = out.line; notes = notes }) new out_new result)
    same_text is))

-- the equipment's own S1F13 has ended
pub request_ended :
    (what : Kind) (system : ℕ) (old middle new : EndView Kind) (out : StepOut) → what ≡ kind.Establish
    → carry printed_note (End system) (on_the_way old out) ≡ Goes (on_the_way middle out)
    → carry printed_note (Remove true system) (on_the_way middle out) ≡ Goes (on_the_way new out)
    → carried printed_note (own_s1f13_commands what system) (on_the_way old out) ≡ Goes (on_the_way new out)
request_ended what system old middle new out is ended removed =
    ap (λ (k : Kind). carried printed_note (own_s1f13_commands k system) (on_the_way old out)) is
    ∙ ap (λ (w : Went (EndView Kind) Note). and_then w (carried printed_note (Remove true system ∷ []))) ended
    ∙ ap (λ (w : Went (EndView Kind) Note). and_then w (carried printed_note [])) removed

-- a message was dropped, under its name
pub dropped_so :
    {E : Type 0} (message : Message) (name : Name) → name ≡ message_name message → (s : ToolNode)
    (out out_new : StepOut) (result : Result (Unit {0}) E)
    → IfOk result (λ done. (t : ToolNode) → HasTaken (unreported_turn name t.own) t out t out_new)
    → IfOk result (λ done. HasTaken (dropped_turn message s.own) s out s out_new)
dropped_so message name named s out out_new (Ok done) noted =
    subst (λ (n : Name). HasTaken (unreported_turn n s.own) s out s out_new) named (noted s)
dropped_so message name named s out out_new (Err e) noted = tt

-- S1F13 is answered where it has established the communication
pub established_ok :
    (A : Type 0) (now : ℕ) (message : Message) (old first second new : ToolNode) (out out_second out_new : StepOut)
    (result : Result A Stop)
    → HasTaken (turn_of old.own (own_s1f13_duty ∷ [])) old out first out
    → HasTaken (comms_turn HostRequest now first.own) first out second out_second
    → Takes (turn_of second.own (established_duties message second.own)) second out_second new out_new result
    → Takes (established_turn now message old.own) old out new out_new result
established_ok A now message old first second new out out_second out_new result ended met is =
    let turn = comms_turn HostRequest now old.own in
    behind (turn_of old.own (own_s1f13_duty ∷ []))
    (turn_of turn.own (turn.duties ++ established_duties message old.own)) old first new out out out_new result ended
    (subst
    (λ (own : OwnView). let met_turn : ToolTurn = comms_turn HostRequest now own in
    Takes (turn_of met_turn.own (met_turn.duties ++ established_duties message own)) first out new out_new result)
    (sym (turned (turn_of old.own (own_s1f13_duty ∷ [])) old first out out ended))
    (behind_so A (comms_turn HostRequest now first.own) (λ own. established_duties message own) first second new out
    out_second out_new result met is))

pub established_err :
    (A B : Type 0) (now : ℕ) (message : Message) (old first new : ToolNode) (out out_new : StepOut) (end : Stop)
    → HasTaken (turn_of old.own (own_s1f13_duty ∷ [])) old out first out
    → Takes {A = A} (comms_turn HostRequest now first.own) first out new out_new (Err end)
    → Takes {A = B} (established_turn now message old.own) old out new out_new (Err end)
established_err A B now message old first new out out_new end ended met =
    let turn = comms_turn HostRequest now old.own in
    behind {A = B} (turn_of old.own (own_s1f13_duty ∷ []))
    (turn_of turn.own (turn.duties ++ established_duties message old.own)) old first new out out out_new (Err end) ended
    (subst
    (λ (own : OwnView). let met_turn : ToolTurn = comms_turn HostRequest now own in
    Takes {A = B} (turn_of met_turn.own (met_turn.duties ++ established_duties message own))
    first out new out_new (Err end))
    (sym (turned (turn_of old.own (own_s1f13_duty ∷ [])) old first out out ended))
    (let met_turn : ToolTurn = comms_turn HostRequest now first.own in
    duties_end A B met_turn.own met_turn.duties (established_duties message first.own) first new out out_new end met))

-- a request was read
abbrev judged_by : ℕ → Header → Message → OwnView → Bool → Bool → Option Request → ToolTurn
judged_by now header message own stream function asked =
    if not stream then error_turn 3 header own
    else if not function then error_turn 5 header own
    else read_turn now asked header message own

pub read_so :
    (A : Type 0) (now : ℕ) (header : Header) (message : Message) (found : Option Request) (asked : Request)
    (old new : ToolNode) (out out_new : StepOut) (result : Result A Stop)
    → takes_stream old.own message.stream ≡ true → is_known message.stream message.function ≡ true
    → found ≡ request_of message.stream message.function message.body → found ≡ Some asked
    → Takes (requested_turn now asked message old.own) old out new out_new result
    → Takes (known_turn now header message old.own) old out new out_new result
read_so A now header message found asked old new out out_new result stream function read is does =
    subst (λ (turn : ToolTurn). Takes turn old out new out_new result)
    (sym (ap (λ (b : Bool). judged_by now header message old.own b (is_known message.stream message.function)
    (request_of message.stream message.function message.body)) stream
    ∙ ap (λ (b : Bool). judged_by now header message old.own true b
    (request_of message.stream message.function message.body)) function
    ∙ ap (λ (o : Option Request). judged_by now header message old.own true true o) (sym read ∙ is)))
    does

-- ---- by what is to be kept behind it

module _
    (A : Type 0) (now : ℕ) (asked : Request) (message : Message) (list : Option (List Entry)) (old new : ToolNode)
    (out out_new : StepOut) (result : Result A Stop) where
  pub heard_same : list ≡ None → Takes (request_turn asked now message old.own) old out new out_new result
      → Takes (heard_turn list now asked message old.own) old out new out_new result
  heard_same none does =
      subst (λ (l : Option (List Entry)). Takes (heard_turn l now asked message old.own) old out new out_new result)
      (sym none)
      (recorded (Past.Asked message) (request_turn asked now message old.own) old new out out_new result does)

  pub heard_kept :
      (kept : List Entry) → list ≡ Some kept → has_room (bytes_of kept) ≡ true
      → Takes (keep_turn kept asked message old.own) old out new out_new result
      → Takes (heard_turn list now asked message old.own) old out new out_new result
  heard_kept kept is room does =
      subst (λ (l : Option (List Entry)). Takes (heard_turn l now asked message old.own) old out new out_new result)
      (sym is)
      (subst (λ (b : Bool). Takes (kept_turn b kept asked message old.own) old out new out_new result) (sym room)
      (recorded (Past.Asked message) (keep_turn kept asked message old.own) old new out out_new result does))

  pub heard_over :
      (over : List Entry) → list ≡ Some over → has_room (bytes_of over) ≡ false
      → Takes (unkept_turn message old.own) old out new out_new result
      → Takes (heard_turn list now asked message old.own) old out new out_new result
  heard_over over is room does =
      subst (λ (l : Option (List Entry)). Takes (heard_turn l now asked message old.own) old out new out_new result)
      (sym is)
      (subst (λ (b : Bool). Takes (kept_turn b over asked message old.own) old out new out_new result) (sym room)
      does)

-- S1F13 is looked at first
abbrev primary_by : ℕ → Header → Message → OwnView → Bool → ToolTurn
primary_by now header message own first =
    if first then established_turn now message own
    else if not (is_communicating own) then stray_turn now message own
    else if not (is_online own) && not (is_online_request message) then offline_turn message own
    else known_turn now header message own

pub establishes_so :
    (A : Type 0) (now : ℕ) (header : Header) (message : Message) (old new : ToolNode) (out out_new : StepOut)
    (result : Result A Stop)
    → is_establish_request message ≡ true
    → Takes (established_turn now message old.own) old out new out_new result
    → Takes (primary_turn now header message old.own) old out new out_new result
establishes_so A now header message old new out out_new result is does =
    subst (λ (b : Bool). Takes (primary_by now header message old.own b) old out new out_new result) (sym is) does
