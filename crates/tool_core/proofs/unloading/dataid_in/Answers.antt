use Rattle.std.proofs.Common.{ap, sym, ◌∙◌, ℕ, Option}
use Rattle.std.specs.Option.{option_and_then, unwrap_or}
use Rattle.secs_items.specs.declared.item.Item.{Item}
use Rattle.tool_step.specs.Spooling.{first_number}
use Rattle.tool_core.proofs.Reading.{faulty_item, spelled_item}
use Rattle.tool_core.proofs.unloading.dataid_in.Goals as goal

pub returns-in-Ok : goal.returns-in-Ok
returns-in-Ok c =
    c.unwrap_or.ensures
    ∙ ap (λ (number : Option ℕ). unwrap_or number 0) c.first_number.ensures
    ∙ ap (λ (item : Option Item). unwrap_or (option_and_then first_number item) 0)
    (sym (spelled_item c.in-Ok.view.item c.args.body.now c.in-Ok.ensures.found))

pub returns-in-Err : goal.returns-in-Err
returns-in-Err c =
    ap (λ (item : Option Item). unwrap_or (option_and_then first_number item) 0)
    (sym (faulty_item c.args.body.now c.in-Err.field-0 c.in-Err.ensures.fault))
