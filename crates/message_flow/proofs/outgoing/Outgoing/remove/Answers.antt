-- One is found exactly where some waiting message passes the test.

use Rattle.std.proofs.Common.{◌≡◌, ◌∙◌, sym, rules, true}
use Rattle.std.specs.List.{list_any}
use Rattle.message_flow.specs.Waiting.{is_named}
use Rattle.message_flow.proofs.Places.{no-place, some-place}
use Rattle.message_flow.proofs.outgoing.Outgoing.remove.Goals as goal

pub returns-in-Some-clause-found : goal.returns-in-Some-clause-found
returns-in-Some-clause-found c =
    let waiting = c.args.self.now.waiting in
    let test = is_named c.args.primary c.args.system in
    let any : list_any test waiting ≡ true =
    some-place test waiting c.in-Some.place (sym c.place_of.ensures ∙ c.in-Some.is) in
    rw any (search rules)

pub returns-in-None-clause-found : goal.returns-in-None-clause-found
returns-in-None-clause-found c =
    sym (no-place (is_named c.args.primary c.args.system) c.args.self.now.waiting
    (sym c.place_of.ensures ∙ c.in-None.is))
