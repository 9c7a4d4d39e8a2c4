-- The message that leaves is the last that passes the test, and none does for a last block.

use Rattle.std.proofs.Common.{◌≡◌, ◌∙◌, subst, sym, rules, true}
use Rattle.std.specs.List.{list_any, remove}
use Rattle.message_flow.specs.Outgoing.{IsOutgoing, is_source_of, without_last}
use Rattle.message_flow.proofs.Places.{last-out, none-last, some-last}
use Rattle.message_flow.proofs.Queue.{none-ended}
use Rattle.message_flow.proofs.outgoing.Outgoing.recall.Goals as goal

pub returns-in-Some-clause-found : goal.returns-in-Some-clause-found
returns-in-Some-clause-found c =
    let s = c.args.self.now in
    let test = is_source_of s c.args.header.now in
    let any : list_any test s.waiting ≡ true = some-last test s.waiting c.in-Some.place c.in-Some.ensures in
    rw any (search rules)

pub returns-in-Some-clause-ended : goal.returns-in-Some-clause-ended
returns-in-Some-clause-ended c = λ last.
    let is : IsOutgoing c.args.self.now = subst IsOutgoing c.self.view_is c.self.invariant in
    returns-in-Some-clause-found c ∙ none-ended c.args.self.now c.args.header.now is last

pub returns-in-Some-clause-rest : goal.returns-in-Some-clause-rest
returns-in-Some-clause-rest c =
    let s = c.args.self.now in
    let test = is_source_of s c.args.header.now in
    let out : remove s.waiting c.in-Some.place ≡ without_last test s.waiting =
    last-out test s.waiting c.in-Some.place c.in-Some.ensures in
    rw (← out) (search rules)

pub returns-in-None-clause-found : goal.returns-in-None-clause-found
returns-in-None-clause-found c =
    let s = c.args.self.now in
    sym (none-last (is_source_of s c.args.header.now) s.waiting c.in-None.ensures)
