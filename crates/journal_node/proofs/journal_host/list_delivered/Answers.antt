use Rattle.std.proofs.Common.{refl, rules, sym, ◌∙◌}
use Rattle.journal_node.specs.Journal.{listed_of}
use Rattle.journal_node.proofs.Acting.{lists-quiet}
use Rattle.journal_node.proofs.journal_host.list_delivered.Goals as goal

pub invariant_of-result : goal.invariant_of-result
invariant_of-result g c = record {
  version = c.in-Ok.ensures.version;
  mark = c.requires.ready.mark ∙ sym c.in-Ok.ensures.mark;
}

pub returns-in-Ok : goal.returns-in-Ok
returns-in-Ok g c = (refl, c.in-Ok.ensures.lists, c.in-Ok.ensures.line)

pub returns-in-Err : goal.returns-in-Err
returns-in-Err g c = (
  lists-quiet g.D.Disk (listed_of c.args.host.own.delivered) c.args.journal c.args.out.now c.list.new.out _
      c.in-Err.ended
      refl c.in-Err.ensures.lists,
  search rules,
)
