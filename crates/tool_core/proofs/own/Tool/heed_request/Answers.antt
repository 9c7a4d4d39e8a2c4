use Rattle.std.proofs.Common.{◌≡◌, subst, true, false, List, Option}
use Rattle.setup_store.specs.Entries.{Entry}
use Rattle.tool_step.specs.Setup.{next_setup}
use Rattle.tool_core.specs.Node.{node_of, own_of}
use Rattle.tool_core.specs.Setup.{IsNext}
use Rattle.tool_core.proofs.Heeding.{heard_kept, heard_over, heard_same}
use Rattle.tool_core.proofs.own.Tool.heed_request.Goals as goal

pub returns-in-Same-clause-does : goal.returns-in-Same-clause-does
returns-in-Same-clause-does c =
    let list : Option (List Entry) = next_setup c.args.request.now c.args.message.now (own_of c.args.self.now.own) in
    heard_same (Unit {0}) c.args.now c.args.request.now c.args.message.now list (node_of c.args.self.now)
    (node_of c.fulfil.new.self) c.args.out.now c.fulfil.new.out c.fulfil.result
    (subst (IsNext list) c.in-Same.is c.in_ok-next.ensures) c.fulfil.ensures.does

pub returns-in-Kept-clause-does : goal.returns-in-Kept-clause-does
returns-in-Kept-clause-does c =
    let list : Option (List Entry) = next_setup c.args.request.now c.args.message.now (own_of c.args.self.now.own) in
    let kept = subst (IsNext list) c.in-Kept.is c.in_ok-next.ensures in
    heard_kept (Unit {0}) c.args.now c.args.request.now c.args.message.now list (node_of c.args.self.now)
    (node_of c.keep.new.self) c.args.out.now c.keep.new.out c.keep.result c.in-Kept.list kept.0 kept.1
    c.keep.ensures.does

pub returns-in-Over-clause-does : goal.returns-in-Over-clause-does
returns-in-Over-clause-does c =
    let list : Option (List Entry) = next_setup c.args.request.now c.args.message.now (own_of c.args.self.now.own) in
    let over = subst (IsNext list) c.in-Over.is c.in_ok-next.ensures in
    heard_over (Unit {0}) c.args.now c.args.request.now c.args.message.now list (node_of c.args.self.now)
    (node_of c.refuse.new.self) c.args.out.now c.refuse.new.out c.refuse.result over.0 over.1 over.2
    c.refuse.ensures.does
