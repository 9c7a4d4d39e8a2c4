-- A block whose message is open, and one whose message isn't: what it is, and the open messages then.

use Rattle.std.proofs.Common.{◌≡◌, sym, ◌∙◌, ap, ◌+◌, false, List, get_or, Some, None}
use Rattle.std.specs.List.{position}
use Rattle.std.proofs.lemmas.List.{get_or_default}
use Rattle.std.proofs.lemmas.Result.{IfOk-weaker}
use Rattle.message_flow.specs.declared.partial.Partial.{Partial}
use Rattle.message_flow.specs.Assembly.{has_key, new_partial}
use Rattle.message_flow.specs.Key.{is_given}
use Rattle.message_flow.specs.Receiver.{is_foreign}
use Rattle.message_flow.proofs.Found.{find-none, found-place, position-some}
use Rattle.message_flow.proofs.Judging.{after_first-is, after_next-is, flow_of-found}
use Rattle.message_flow.proofs.assembly.Assembly.judge.Goals as goal

pub returns-in-Some-clause-flow : goal.returns-in-Some-clause-flow
returns-in-Some-clause-flow c =
    let s = c.args.self.now in
    let b = c.args.block.now in
    let given : is_given s.last b.header ≡ false =
    rw (← c.header-header.ensures.value) (sym c.is_given.ensures ∙ c.if-is_given.false) in
    let foreign : is_foreign s.receiver b.header ≡ false =
    rw (← c.header-header.ensures.value) (sym c.is_foreign.ensures ∙ c.if-is_foreign.false) in
    let e : position (has_key b.header) s.partials ≡ Some c.in-Some.place =
    rw (← c.header-header.ensures.value) (sym c.place_of.ensures ∙ c.in-Some.is) in
    let at = position-some (has_key b.header) s.partials c.in-Some.place e in
    let p = get_or s.partials c.in-Some.place (new_partial b 0) in
    let is = get_or_default s.partials c.in-Some.place (new_partial b 0) p at.within in
    let found = found-place (has_key b.header) s.partials c.in-Some.place (new_partial b 0) at in
    IfOk-weaker c.go_on.result _ _
    (λ flow h. h ∙ sym (flow_of-found s.receiver s.last s.partials b (Some p) given foreign found))
    (c.go_on.ensures.flow p is)

pub returns-in-Some-clause-partials : goal.returns-in-Some-clause-partials
returns-in-Some-clause-partials c =
    let s = c.args.self.now in
    let b = c.args.block.now in
    let e : position (has_key b.header) s.partials ≡ Some c.in-Some.place =
    rw (← c.header-header.ensures.value) (sym c.place_of.ensures ∙ c.in-Some.is) in
    let at = position-some (has_key b.header) s.partials c.in-Some.place e in
    let p = get_or s.partials c.in-Some.place (new_partial b 0) in
    let is = get_or_default s.partials c.in-Some.place (new_partial b 0) p at.within in
    let found = found-place (has_key b.header) s.partials c.in-Some.place (new_partial b 0) at in
    IfOk-weaker c.go_on.result _ _
    (λ flow h. h ∙ ap (λ (ps : List Partial). record s { partials = ps })
    (after_next-is s.partials c.in-Some.place p b (c.args.now + s.receiver.t4) flow at.is found))
    (c.go_on.ensures.partials p is)

pub returns-in-None-clause-flow : goal.returns-in-None-clause-flow
returns-in-None-clause-flow c =
    let s = c.args.self.now in
    let b = c.args.block.now in
    let given : is_given s.last b.header ≡ false =
    rw (← c.header-header.ensures.value) (sym c.is_given.ensures ∙ c.if-is_given.false) in
    let foreign : is_foreign s.receiver b.header ≡ false =
    rw (← c.header-header.ensures.value) (sym c.is_foreign.ensures ∙ c.if-is_foreign.false) in
    let e : position (has_key b.header) s.partials ≡ None =
    rw (← c.header-header.ensures.value) (sym c.place_of.ensures ∙ c.in-None.is) in
    let none = find-none (has_key b.header) s.partials e in
    IfOk-weaker c.begin.result _ _
    (λ flow h. h ∙ sym (flow_of-found s.receiver s.last s.partials b None given foreign none)) c.begin.ensures.flow

pub returns-in-None-clause-partials : goal.returns-in-None-clause-partials
returns-in-None-clause-partials c =
    let s = c.args.self.now in
    let b = c.args.block.now in
    let e : position (has_key b.header) s.partials ≡ None =
    rw (← c.header-header.ensures.value) (sym c.place_of.ensures ∙ c.in-None.is) in
    let none = find-none (has_key b.header) s.partials e in
    IfOk-weaker c.begin.result _ _
    (λ flow h. h ∙ ap (λ (ps : List Partial). record s { partials = ps })
    (after_first-is s.partials b (c.args.now + s.receiver.t4) flow none))
    c.begin.ensures.partials
