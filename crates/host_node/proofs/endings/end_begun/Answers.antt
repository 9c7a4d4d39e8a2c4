-- One transaction ends with its note, and there are fewer; with none left all have ended.

use Rattle.std.proofs.Common.{rules, refl, sym, ap, subst, ◌∙◌, Option}
use Rattle.block_codec.specs.declared.header.Header.{Header}
use Rattle.message_end.specs.Core.{EndView}
use Rattle.message_end.specs.Core.Went.{Goes}
use Rattle.message_end.specs.Endings.{EndsFirst, notes_failed}
use Rattle.message_end.specs.Parts.{on_the_way}
use Rattle.message_end.proofs.Ended.{begun_ended, failed_noted, noted_out, none_begun}
use Rattle.host_node.specs.Host.{Kind, fails}
use Rattle.host_node.proofs.endings.end_begun.Goals as goal

pub transactions-smaller : goal.transactions-smaller
transactions-smaller c =
    let one =
    begun_ended fails (λ primary. notes_failed primary.0) c.in-Some.primary c.transactions.core c.end_first.new.self
    c.transactions.out (noted_out c.transactions.out c.push.new.self) (λ begun. refl)
    (subst (λ (o : Option (Header × Kind)). EndsFirst o c.transactions.core c.end_first.new.self) c.in-Some.is
    c.end_first.ensures)
    (failed_noted c.in-Some.primary.0 c.end_first.new.self c.transactions.out c.push.new.self (search rules)) in
    one.fewer

pub transactions-preserved : goal.transactions-preserved
transactions-preserved c =
    let one =
    begun_ended fails (λ primary. notes_failed primary.0) c.in-Some.primary c.transactions.core c.end_first.new.self
    c.transactions.out (noted_out c.transactions.out c.push.new.self) (λ begun. refl)
    (subst (λ (o : Option (Header × Kind)). EndsFirst o c.transactions.core c.end_first.new.self) c.in-Some.is
    c.end_first.ensures)
    (failed_noted c.in-Some.primary.0 c.end_first.new.self c.transactions.out c.push.new.self (search rules)) in
    record { done = one.same ∙ c.transactions.invariant.done; line = c.transactions.invariant.line }

pub returns-clause-does : goal.returns-clause-does
returns-clause-does c =
    let none =
    subst (λ (o : Option (Header × Kind)). EndsFirst o c.transactions.core c.end_first.new.self) c.in_default.is
    c.end_first.ensures in
    sym c.transactions.invariant.done ∙ none_begun fails c.transactions.core c.transactions.out none.none
    ∙ ap (λ (e : EndView Kind). Goes (on_the_way e c.transactions.out)) (sym none.same)
