-- A text that parses is a document, and its meaning decides.

use Rattle.std.proofs.Common.{◌≡◌, Some, sym, ap, ◌∙◌}
use Rattle.toml.specs.Parse.{parse_document}
use Rattle.toml.specs.View.{table_view}
use Rattle.gem_config.specs.Plans.{IsDocument}
use Rattle.gem_config.proofs.Meaning.{by_document}
use Rattle.gem_config.proofs.plans.read_plans.Goals as goal

pub returns-in-Ok-table_from_str : goal.returns-in-Ok-table_from_str
returns-in-Ok-table_from_str c =
    let text = c.in-Ok.ensures.cases in
    let document = table_view c.in-Ok-table_from_str.document in
    let parsed : parse_document c.args.text.now ≡ Some document =
    ap parse_document (sym text.0) ∙ c.in-Ok-table_from_str.ensures.ok in
    let is : IsDocument c.args.text.now document = record { utf8 = text.1; parsed = parsed } in
    by_document c.args.text.now document is c.plans_of.result c.plans_of.ensures
