-- The command of a name is simple and free, so what `clap` makes of the words is what the forms say.

use Rattle.std.proofs.Common.{◌∙◌, ap, map, string_bytes}
use Rattle.clap.specs.Words.{app_of, is_simple_and_free}
use Rattle.command_words.proofs.ParsedWords.{parsed_for}
use Rattle.command_words.proofs.SimpleForms.{is_simple_for}
use Rattle.command_words.proofs.parsing.matches_for.Goals as goal

pub parse-requires : goal.parse-requires
parse-requires c = ap is_simple_and_free c.in-Ok.ensures ∙ is_simple_for c.args.name

pub returns-in-Ok : goal.returns-in-Ok
returns-in-Ok c =
    parsed_for c.args.name (app_of c.in-Ok.command) c.in-Ok.ensures (map string_bytes c.args.words.now) c.parse.result
    c.parse.ensures
