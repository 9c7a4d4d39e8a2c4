use Rattle.std.proofs.Common.{refl, subst}
use Rattle.std.specs.Prelude.{Ok}
use Rattle.journal_node.specs.Amid.{ListsOf}
use Rattle.journal_node.specs.Journal.{listed_of}
use Rattle.journal_node.proofs.disk_step.list.Goals as goal

pub returns-in-Some-clause-lists : goal.returns-in-Some-clause-lists
returns-in-Some-clause-lists g c =
    subst
    (λ d. ListsOf g.D.Disk (listed_of d) c.args.journal c.args.out.now c.list_message.new.out c.list_message.result)
    c.in-Some.ensures c.list_message.ensures.lists

pub returns-in-None-clause-lists : goal.returns-in-None-clause-lists
returns-in-None-clause-lists g c =
    subst (λ d. ListsOf g.D.Disk (listed_of d) c.args.journal c.args.out.now c.args.out.now (Ok c.args.journal))
    c.in-None.ensures (refl, refl)
