-- The turns of the host, as its code takes them.
use Rattle.std.proofs.Common.{◌≡◌, sym, ap, subst, ◌∙◌, List, [], ◌∷◌}
use Rattle.std.specs.Prelude.{Result}
use Rattle.message_flow.specs.declared.step.Note.{Note}
use Rattle.message_flow.specs.declared.step.StepOut.{StepOut}
use Rattle.trace_log.specs.Text.{printed_note}
use Rattle.message_end.specs.declared.end.Stop.{Stop}
use Rattle.message_end.specs.Core.{Command, EndView, Went, and_then, carry}
use Rattle.message_end.specs.Core.Went.{Goes}
use Rattle.message_end.specs.Duties.{Duty, all_done}
use Rattle.message_end.specs.Parts.{AreDone, ComesTo, Takes, core_after, leads, on_the_way, went_with}
use Rattle.message_end.proofs.Carrying.{done_append}
use Rattle.message_end.proofs.Parts.{leads-behind}
use Rattle.host_node.specs.declared.comms.HostComms.{HostComms}
use Rattle.host_node.specs.Calls.{HostNode}
use Rattle.host_node.specs.Host.{HostOwn, HostTurn, Kind, ends_in, enters, notes_comms}

abbrev pub node : HostOwn → EndView Kind → HostNode
node own core = record { own = own; core = core }

-- a turn behind a command
pub leads_so :
    {A : Type 0} (own : HostOwn) (lead : Command Kind) (turn : EndView Kind → HostTurn) (old middle : EndView Kind)
    (out out_middle : StepOut) (new : HostNode) (out_new : StepOut) (result : Result A Stop)
    → carry printed_note lead (on_the_way old out) ≡ Goes (on_the_way middle out_middle)
    → core_after lead old ≡ middle
    → Takes (turn middle) (node own middle) out_middle new out_new result
    → Takes (leads lead turn old) (node own old) out new out_new result
leads_so own lead turn old middle out out_middle new out_new result goes same is =
    subst (λ (w : Went HostNode Note). ComesTo w new out_new result)
    (sym (leads-behind printed_note lead turn (on_the_way (node own old) out) (on_the_way middle out_middle) goes
    same))
    is

-- the state is entered behind what is done
pub ends_so :
    {A : Type 0} (own : HostOwn) (next : HostComms) (first : List (Duty Kind)) (old middle : EndView Kind)
    (out out_middle : StepOut) (new : HostNode) (out_new : StepOut) (result : Result A Stop)
    → AreDone first old out middle out_middle
    → Takes (enters own next []) (node own middle) out_middle new out_new result
    → Takes (ends_in own next first) (node own old) out new out_new result
ends_so own next first old middle out out_middle new out_new result done is =
    subst (λ (w : Went HostNode Note). ComesTo w new out_new result)
    (ap (λ (w : Went (EndView Kind) Note).
    went_with (record own { comms = next }) (and_then w (all_done printed_note (notes_comms own.comms next ∷ []))))
    (sym done)
    ∙ ap (λ (w : Went (EndView Kind) Note). went_with (record own { comms = next }) w)
    (sym (done_append printed_note first (notes_comms own.comms next ∷ []) (on_the_way old out))))
    is
