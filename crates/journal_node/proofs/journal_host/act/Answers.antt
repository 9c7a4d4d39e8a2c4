use Rattle.std.proofs.Common.{inl, subst}
use Rattle.std.specs.Prelude.{Err}
use Rattle.host_node.specs.Calls.{HasStepped}
use Rattle.host_node.specs.Host.{host_machine}
use Rattle.message_end.specs.Ends.{input_of}
use Rattle.journal_node.proofs.Acting.{acts-with}
use Rattle.journal_node.proofs.NumbersStay.{ready-behind}
use Rattle.journal_node.proofs.journal_host.act.Goals as goal

pub list_delivered-requires : goal.list_delivered-requires
list_delivered-requires g c =
    record {
      ready =
          ready-behind c.args.journal.spool c.args.host c.in-Ok.host (input_of c.args.input) c.args.now c.step.new.out
          c.requires.ready c.in-Ok.ensures;
    }

pub returns-in-Ok : goal.returns-in-Ok
returns-in-Ok g c =
    acts-with g.D.Disk c.args.host c.in-Ok.host c.args.journal (input_of c.args.input) c.args.now c.step.new.out
    c.list_delivered.new.out c.list_delivered.result c.in-Ok.ensures c.list_delivered.ensures

pub returns-in-Err-NoMemory : goal.returns-in-Err-NoMemory
returns-in-Err-NoMemory g c =
    inl (
      subst
          (λ e. HasStepped (host_machine.act c.args.host (input_of c.args.input) c.args.now) c.step.new.out (Err e))
          c.in-Err-NoMemory.field-0-is c.in-Err-NoMemory.ensures,
      c.retire.ensures.disk,
    )

pub returns-in-Err-NumbersSpent : goal.returns-in-Err-NumbersSpent
returns-in-Err-NumbersSpent g c =
    inl (
      subst
          (λ e. HasStepped (host_machine.act c.args.host (input_of c.args.input) c.args.now) c.step.new.out (Err e))
          c.in-Err-NumbersSpent.field-0-is c.in-Err-NumbersSpent.ensures,
      c.retire-in-Err-NumbersSpent.ensures.disk,
    )
