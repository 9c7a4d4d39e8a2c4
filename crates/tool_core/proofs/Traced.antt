-- S2F23 as the code carries it out; the S6F1 that a sample brought, by how many of them have had their turn; and the
-- one that waits for S6F6.
use Rattle.std.proofs.Common.{◌≡◌, ◌≢◌, refl, sym, ap, subst, ◌∙◌, arith, Bool, false, ℕ, zero, suc, ◌+◌, List, [], ◌∷◌, Option, Some, None, if◌then◌else◌}
use Rattle.std.specs.Prelude.{IfOk, drop, Result, Ok, Err}
use Rattle.std.specs.List.{find, slice_get}
use Rattle.std.specs.Option.{option_map}
use Rattle.gem_shapes.specs.Answers.{code_item}
use Rattle.gem_trace.specs.declared.request.TraceRequest.{TraceRequest}
use Rattle.gem_trace.specs.declared.request.Tiaack.{Tiaack}
use Rattle.gem_trace.specs.declared.request.Tiaack.TheVariants as tiaack
use Rattle.gem_trace.specs.Traces.{Running, after_setting}
use Rattle.message_flow.specs.declared.message.Message.{Message}
use Rattle.message_flow.specs.declared.step.StepOut.{StepOut}
use Rattle.secs_items.specs.declared.item.Item.{Item}
use Rattle.trace_log.specs.Names.{Spooled}
use Rattle.trace_log.specs.Text.{printed_note}
use Rattle.message_end.specs.declared.end.Stop.{Stop}
use Rattle.message_end.specs.Core.{EndView}
use Rattle.message_end.specs.Core.Command.{Primary}
use Rattle.message_end.specs.Core.Went.{Goes}
use Rattle.message_end.specs.declared.unsent.Unsent.{Unsent}
use Rattle.message_end.specs.Parts.{Takes, fixed_turn, after_turn, on_the_way}
use Rattle.equipment_tables.specs.declared.answers.Answer.{Answer}
use Rattle.equipment_tables.specs.declared.answers.Answer.TheVariants as answer
use Rattle.tool_step.specs.declared.kind.Kind.{Kind}
use Rattle.tool_step.specs.Grants.{GrantView}
use Rattle.tool_step.specs.Own.{OwnView, event_report, is_communicating, is_granted_by, is_online, turn_of, waiting_data, without_waiting_data}
use Rattle.tool_step.specs.Reports.{unreported_turn}
use Rattle.tool_step.specs.Sampling.{first_turn, granted_trace_turn, running_by, sampled_text_turn, tiaack_code, tiaack_in, trace_data, trace_data_turn, trace_name, trace_sent_turn, trace_turn, with_made, with_running}
use Rattle.tool_step.specs.Sent.{answer_duties, text_of}
use Rattle.tool_core.proofs.Turned.{HasTaken, ToolNode}

-- ---- S2F23

-- what runs then
pub set_so : (answer : Tiaack) (request : TraceRequest) (now : ℕ) (old new : List Running)
    → (answer ≡ tiaack.Done → new ≡ after_setting request now old) → (answer ≢ tiaack.Done → new ≡ old)
    → new ≡ running_by answer request now old
set_so tiaack.Done request now old new taken refused = taken refl
set_so tiaack.TooMany request now old new taken refused = refused (λ is. cc)
set_so tiaack.NoMore request now old new taken refused = refused (λ is. cc)
set_so tiaack.BadPeriod request now old new taken refused = refused (λ is. cc)
set_so (tiaack.Unknown svid) request now old new taken refused = refused (λ is. cc)
set_so tiaack.BadGroup request now old new taken refused = refused (λ is. cc)

pub set_kept :
    {E : Type 0} (result : Result Tiaack E) (request : TraceRequest) (now : ℕ) (old new : List Running) (own : OwnView)
    → IfOk result (λ (answer : Tiaack). answer ≡ tiaack.Done → new ≡ after_setting request now old)
    → IfOk result (λ (answer : Tiaack). answer ≢ tiaack.Done → new ≡ old)
    → IfOk result (λ (answer : Tiaack). with_running new own ≡ with_running (running_by answer request now old) own)
set_kept (Ok answer) request now old new own taken refused =
    ap (λ (running : List Running). with_running running own) (set_so answer request now old new taken refused)
set_kept (Err error) request now old new own taken refused = tt

-- the answer to it goes, with this kept beside the core
abbrev Answered :
    {A : Type 0} → Message → ToolNode → StepOut → StepOut → Result A Stop → OwnView → Answer → EndView Kind → Type 0
Answered message new out out_new result own text core =
    Takes (turn_of own (answer_duties text message)) (record { own = own; core = core }) out new out_new result

abbrev with_answer : TraceRequest → ℕ → Tiaack → OwnView → OwnView
with_answer request now answer own = with_running (running_by answer request now own.tracing.running) own

-- it is set, and answered
pub set_and_answered :
    {A : Type 0} (request : TraceRequest) (now : ℕ) (message : Message) (own own_set : OwnView)
    (core core_set : EndView Kind) (answer : Tiaack) (text : Answer) (new : ToolNode) (out out_new : StepOut)
    (result : Result A Stop)
    → answer ≡ tiaack_in request own
    → own_set ≡ with_answer request now answer own
    → core_set ≡ core
    → text ≡ text_of own (code_item (tiaack_code answer))
    → Answered message new out out_new result own_set text core_set
    → Takes (trace_turn request now message own) (record { own = own; core = core }) out new out_new result
set_and_answered {A} request now message own to core core_to answer text new out out_new result is set same by so =
    subst
    (λ (a : Tiaack). Answered message new out out_new result (with_answer request now a own)
    (text_of own (code_item (tiaack_code a))) core) is
    (subst
    (λ (c : EndView Kind). Answered message new out out_new result (with_answer request now answer own)
    (text_of own (code_item (tiaack_code answer))) c) same
    (subst
    (λ (t : Answer). Answered message new out out_new result (with_answer request now answer own) t core_to) by
    (subst (λ (o : OwnView). Answered message new out out_new result o text core_to) set so)))

-- ---- S6F1

-- one without communication is dropped
pub dropped_here : (text : Answer) (body : List ℕ) (own : OwnView) (core : EndView Kind) → text ≡ answer.Body body
    → is_communicating own ≡ false → sampled_text_turn text own core ≡ unreported_turn trace_name own
dropped_here text body own core is none =
    ap (λ (t : Answer). sampled_text_turn t own core) is
    ∙ ap (λ (b : Bool). if b then trace_data_turn body own core else unreported_turn trace_name own) none

-- which one is the next, and that none is left
left_behind : (made : List Item) (routed : ℕ) (item : Item) → slice_get made routed ≡ Some item
    → drop routed made ≡ item ∷ drop (suc routed) made
left_behind [] zero item is = absurd cc
left_behind [] (suc n) item is = absurd cc
left_behind (one ∷ made) zero item is =
    let same : one ≡ item = cc in
    ap (λ (i : Item). i ∷ made) same
left_behind (one ∷ made) (suc n) item is = left_behind made n item is

one_left : (made : List Item) (routed : ℕ) (item : Item) → slice_get made routed ≡ Some item
    → drop routed made ≡ item ∷ drop (routed + 1) made
one_left made routed item is =
    let next : suc routed ≡ routed + 1 = omega arith in
    left_behind made routed item is ∙ ap (λ (n : ℕ). item ∷ drop n made) next

none_left : (read : Item → Answer) (made : List Item) (routed : ℕ) → None ≡ option_map read (slice_get made routed)
    → drop routed made ≡ []
none_left read [] zero is = refl
none_left read [] (suc n) is = refl
none_left read (one ∷ made) zero is = absurd cc
none_left read (one ∷ made) (suc n) is = none_left read made n is

-- with none left nothing is done
pub none_routed : (node : ToolNode) (made : List Item) (routed : ℕ) (out : StepOut)
    → node.own.tracing.made ≡ drop routed made → None ≡ option_map (text_of node.own) (slice_get made routed)
    → HasTaken (first_turn node.own.tracing.made node.own node.core) node out node out
none_routed node made routed out is none =
    ap (λ (left : List Item). after_turn printed_note (first_turn left node.own node.core) (on_the_way node out))
    (is ∙ none_left (text_of node.own) made routed none)

-- where one is left it has the turn of its text
pub first_routed :
    {A : Type 0} (old new : ToolNode) (made : List Item) (routed : ℕ) (text : Answer) (out out_new : StepOut)
    (result : Result A Stop)
    → old.own.tracing.made ≡ drop routed made
    → Some text ≡ option_map (text_of old.own) (slice_get made routed)
    → Takes
    (if is_online old.own then sampled_text_turn text (with_made (drop (routed + 1) made) old.own) old.core
    else unreported_turn trace_name (with_made (drop (routed + 1) made) old.own)) old out new out_new result
    → Takes (first_turn old.own.tracing.made old.own old.core) old out new out_new result
first_routed {A} old new made routed text out out_new result is text_is taken =
    go (slice_get made routed) refl text_is
  where
    go : (at : Option Item) → slice_get made routed ≡ at → Some text ≡ option_map (text_of old.own) at
        → Takes (first_turn old.own.tracing.made old.own old.core) old out new out_new result
    go None found none = absurd cc
    go (Some item) found some =
        let same : text ≡ text_of old.own item = cc in
        subst (λ (left : List Item). Takes (first_turn left old.own old.core) old out new out_new result)
        (sym (is ∙ one_left made routed item found))
        (subst
        (λ (t : Answer). Takes
        (if is_online old.own then sampled_text_turn t (with_made (drop (routed + 1) made) old.own) old.core
        else unreported_turn trace_name (with_made (drop (routed + 1) made) old.own)) old out new out_new result)
        same taken)

-- ---- the one that waits for S6F6

-- it is kept as the code keeps an S6F11
abbrev waiting_as : ℕ → OwnView → Option Spooled
waiting_as system own =
    option_map (λ (one : GrantView). event_report one.body) (find (is_granted_by system) own.tracing.for_grant)

text_read : (found : Option GrantView)
    → option_map (λ (message : Spooled). message.body) (option_map (λ (one : GrantView). event_report one.body) found)
    ≡ option_map (λ (one : GrantView). one.body) found
text_read None = refl
text_read (Some one) = refl

waits_so : (system : ℕ) (own : OwnView) (waiting : Option Spooled) → waiting ≡ waiting_as system own
    → waiting_data system own ≡ option_map (λ (message : Spooled). message.body) waiting
waits_so system own waiting is =
    sym (text_read (find (is_granted_by system) own.tracing.for_grant))
    ∙ ap (option_map (λ (message : Spooled). message.body)) (sym is)

-- it goes
pub granted_sent :
    {A : Type 0} (system : ℕ) (own left : OwnView) (core : EndView Kind) (waiting : Spooled) (body : List ℕ)
    (unsent : Unsent Kind) (new : ToolNode) (out out_new : StepOut) (result : Result A Stop)
    → left ≡ without_waiting_data system own → Some waiting ≡ waiting_as system own → body ≡ waiting.body
    → unsent ≡ trace_data body
    → Takes (fixed_turn left (Primary unsent ∷ [])) (record { own = left; core = core }) out new out_new result
    → Takes (granted_trace_turn (waiting_data system own) (without_waiting_data system own))
    (record { own = own; core = core }) out new out_new result
granted_sent {A} system own left core waiting body unsent new out out_new result left_is is text data_is taken =
    subst
    (λ (one : Option (List ℕ)). Takes (granted_trace_turn one (without_waiting_data system own))
    (record { own = own; core = core }) out new out_new result) (sym (waits_so system own (Some waiting) is))
    (subst
    (λ (o : OwnView). Takes (trace_sent_turn waiting.body o) (record { own = own; core = core }) out new out_new
    result) left_is
    (subst
    (λ (b : List ℕ). Takes (trace_sent_turn b left) (record { own = own; core = core }) out new out_new result) text
    (subst
    (λ (u : Unsent Kind). Takes (fixed_turn left (Primary u ∷ [])) (record { own = own; core = core }) out new out_new
    result) data_is taken)))

-- there is none
pub granted_nothing :
    (system : ℕ) (own left : OwnView) (core : EndView Kind) (out : StepOut) → left ≡ without_waiting_data system own
    → None ≡ waiting_as system own
    → HasTaken (granted_trace_turn (waiting_data system own) (without_waiting_data system own))
    (record { own = own; core = core }) out (record { own = left; core = core }) out
granted_nothing system own left core out left_is is =
    ap
    (λ (one : Option (List ℕ)). after_turn printed_note (granted_trace_turn one (without_waiting_data system own))
    (on_the_way (record { own = own; core = core }) out)) (waits_so system own None is)
    ∙ ap (λ (o : OwnView). Goes (on_the_way (record { own = o; core = core }) out)) (sym left_is)
