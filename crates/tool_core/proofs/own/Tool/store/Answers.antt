use Rattle.std.proofs.Common.{subst}
use Rattle.trace_log.specs.Names.{Spooled}
use Rattle.spool_ledger.specs.Storing.{Books, stored}
use Rattle.tool_core.specs.Node.{own_of}
use Rattle.tool_core.proofs.Storing.{stored_so}
use Rattle.tool_core.proofs.own.Tool.store.Goals as goal

pub returns-clause-does : goal.returns-clause-does
returns-clause-does c =
    stored_so c.args.report c.overwrites-overwrites.result (own_of c.args.self.now.own) c.args.self.now.core
    c.store.new.self c.args.out.now c.store.new.out c.store.result c.overwrites-overwrites.ensures
    (subst
    (λ (message : Spooled). Books
    (stored c.overwrites-overwrites.result message c.args.self.now.own.ledger)
    c.args.self.now.own.ledger
    c.args.out.now
    c.store.new.self
    c.store.new.out
    c.store.result)
    c.report.view_is c.store.ensures.books)
    c.store.ensures.line
