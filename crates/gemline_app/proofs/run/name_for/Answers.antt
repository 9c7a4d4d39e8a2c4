-- The file of `host` and that of `equipment` is the plan, and `replay` has two.

use Rattle.std.proofs.Common.{◌∙◌, Some, ap, sym}
use Rattle.command_words.specs.Asked.{asked_by}
use Rattle.command_words.specs.declared.command.Command.{Command}
use Rattle.gemline_app.specs.Words.{name_in}
use Rattle.gemline_app.proofs.run.name_for.Goals as goal

pub returns-in-Host : goal.returns-in-Host
returns-in-Host c =
    c.plan_name-in-Host.ensures.host c.in-Host.address.now c.in-Host.polls
    ∙ sym (ap (λ (command : Command). name_in (Some (asked_by command)) c.args.which) c.in-Host.is)

pub returns-in-Equipment : goal.returns-in-Equipment
returns-in-Equipment c =
    c.plan_name.ensures.equipment c.in-Equipment.address.now c.in-Equipment.spool.now c.in-Equipment.polls
    ∙ sym (ap (λ (command : Command). name_in (Some (asked_by command)) c.args.which) c.in-Equipment.is)

pub returns-in-JournalHost : goal.returns-in-JournalHost
returns-in-JournalHost c =
    c.plan_name-in-JournalHost.ensures.journal c.in-JournalHost.address.now c.in-JournalHost.journal.now
    c.in-JournalHost.polls
    ∙ sym (ap (λ (command : Command). name_in (Some (asked_by command)) c.args.which) c.in-JournalHost.is)

pub returns-in-JournalReplay : goal.returns-in-JournalReplay
returns-in-JournalReplay c =
    c.one_name-in-JournalReplay.ensures.journal c.in-JournalReplay.slots
    ∙ sym (ap (λ (command : Command). name_in (Some (asked_by command)) c.args.which) c.in-JournalReplay.is)
