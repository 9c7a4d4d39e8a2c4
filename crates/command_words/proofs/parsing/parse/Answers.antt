-- What `clap` promises of a simple command: the kinds of its arguments, and the matches.

use Rattle.clap.specs.Words.{app_of}
use Rattle.command_words.proofs.ParsedWords.{simple_of}
use Rattle.command_words.proofs.parsing.parse.Goals as goal

pub returns-in-Ok : goal.returns-in-Ok
returns-in-Ok c =
    (c.in-Ok.ensures.kinds c.requires, (c.in-Ok.ensures.matches (simple_of (app_of c.args.command) c.requires)).0)
