-- A known constant has the length of a number, an unknown one that of an empty list.

use Rattle.std.proofs.Common.{◌≡◌, sym, ◌∙◌, ap, length, [], Some, None}
use Rattle.std.specs.Option.{option_map_or}
use Rattle.secs_items.specs.declared.item.Item.TheVariants as item
use Rattle.secs_items.specs.Items.{number_item}
use Rattle.secs_items.specs.Measures.{capped}
use Rattle.secs_items.specs.Spelling.{shortest_spelling}
use Rattle.secs_items.proofs.SpelledLengths.{length-number}
use Rattle.gem_vars.specs.Tables.{constant_in}
use Rattle.gem_vars.proofs.Sizes.{empty_long}
use Rattle.gem_vars.proofs.vars.Vars.constant_len.Goals as goal

pub returns-in-Some : goal.returns-in-Some
returns-in-Some c =
    let some : constant_in c.args.self.now c.args.ecid ≡ Some c.in-Some.field-0 = sym c.constant.ensures ∙ c.in-Some.is in
    ap capped (sym (length-number c.in-Some.field-0))
    ∙ ap (λ o. capped (length (shortest_spelling (option_map_or number_item o (item.L []))))) (sym some)

pub returns-in-None : goal.returns-in-None
returns-in-None c =
    let none : constant_in c.args.self.now c.args.ecid ≡ None = sym c.constant.ensures ∙ c.in-None.is in
    ap capped (sym empty_long)
    ∙ ap (λ o. capped (length (shortest_spelling (option_map_or number_item o (item.L []))))) (sym none)
