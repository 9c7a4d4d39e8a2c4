-- The first message that is due goes, found by its place, and the assembly stands for the drop.

use Rattle.std.proofs.Common.{◌≡◌, refl, sym, ◌∙◌, ap, rules, List, get_or, Some, None}
use Rattle.std.specs.List.{find, remove}
use Rattle.message_flow.specs.declared.partial.Partial.{Partial}
use Rattle.message_flow.specs.Assembly.{AssemblyView, is_due}
use Rattle.message_flow.proofs.Deadlines.{dropped_stands}
use Rattle.message_flow.proofs.Found.{find-none, found-place, position-some}
use Rattle.message_flow.proofs.Standing.{stands_dropped}
use Rattle.message_flow.proofs.assembly.Assembly.tick.Goals as goal

pub returns-in_err-place-clause-answer : goal.returns-in_err-place-clause-answer
returns-in_err-place-clause-answer c =
    let none : find (is_due c.args.now) c.args.self.now.partials ≡ None =
    find-none (is_due c.args.now) c.args.self.now.partials (sym c.first_due.ensures ∙ c.in_err-place.was) in
    rw none (search rules)

pub returns-clause-answer : goal.returns-clause-answer
returns-clause-answer c =
    let s = c.args.self.now in
    let at = position-some (is_due c.args.now) s.partials c.in_ok-place.place
    (sym c.first_due.ensures ∙ c.in_ok-place.was) in
    let same = ap (λ (v : AssemblyView). v.partials) c.self.view_is in
    let value = c.remove.ensures.value
    ∙ ap (λ (ps : List Partial). get_or ps c.in_ok-place.place c.remove.result) same in
    let found = found-place (is_due c.args.now) s.partials c.in_ok-place.place c.remove.result at in
    rw (found ∙ ap (λ (p : Partial). Some p) (sym value)) refl

pub returns-clause-stands : goal.returns-clause-stands
returns-clause-stands c = λ entries stands.
    let s = c.args.self.now in
    let at = position-some (is_due c.args.now) s.partials c.in_ok-place.place
    (sym c.first_due.ensures ∙ c.in_ok-place.was) in
    let same = ap (λ (v : AssemblyView). v.partials) c.self.view_is in
    let value = c.remove.ensures.value
    ∙ ap (λ (ps : List Partial). get_or ps c.in_ok-place.place c.remove.result) same in
    let found = found-place (is_due c.args.now) s.partials c.in_ok-place.place c.remove.result at in
    stands_dropped s _ entries c.args.now c.remove.result stands (found ∙ ap (λ (p : Partial). Some p) (sym value))
    (ap (λ (v : AssemblyView). v.receiver) c.self.view_is) (ap (λ (v : AssemblyView). v.last) c.self.view_is)
    (c.remove.ensures.items ∙ ap (λ (ps : List Partial). remove ps c.in_ok-place.place) same
    ∙ ap (remove s.partials) at.is)

pub returns-in_err-place-clause-dropped : goal.returns-in_err-place-clause-dropped
returns-in_err-place-clause-dropped c = λ entries stands.
    returns-in_err-place-clause-answer c ∙ dropped_stands c.args.self.now entries c.args.now stands

pub returns-clause-dropped : goal.returns-clause-dropped
returns-clause-dropped c = λ entries stands.
    returns-clause-answer c ∙ dropped_stands c.args.self.now entries c.args.now stands
