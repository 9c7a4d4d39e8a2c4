use Rattle.std.proofs.Common.{Bool, Some, None, refl, subst, sym, if◌then◌else◌}
use Rattle.std.specs.Prelude.{Ok}
use Rattle.spool_law.specs.Listing.{record_of}
use Rattle.journal_node.specs.Amid.{ListsOf}
use Rattle.journal_node.proofs.disk_step.list_message.Goals as goal

pub list_one-requires : goal.list_one-requires
list_one-requires g c = record { version = c.requires.version; listed = sym c.if-is_listed.ensures }

pub returns-then-is_listed-clause-lists : goal.returns-then-is_listed-clause-lists
returns-then-is_listed-clause-lists g c =
    subst
    (λ (b : Bool).
    ListsOf g.D.Disk (if b then Some (record_of c.args.message.now) else None) c.args.journal c.args.out.now
    c.list_one.new.out c.list_one.result)
    c.if-is_listed.ensures c.list_one.ensures.lists

pub returns-clause-lists : goal.returns-clause-lists
returns-clause-lists g c =
    subst
    (λ (b : Bool).
    ListsOf g.D.Disk (if b then Some (record_of c.args.message.now) else None) c.args.journal c.args.out.now
    c.args.out.now (Ok c.args.journal))
    c.if-is_listed.ensures (refl, refl)
