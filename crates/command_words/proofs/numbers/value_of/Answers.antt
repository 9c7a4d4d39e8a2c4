-- What was parsed is the number that the digits mean.

use Rattle.std.proofs.Common.{◌∙◌}
use Rattle.command_words.proofs.ParsedNumbers.{numeral_read}
use Rattle.command_words.proofs.numbers.value_of.Goals as goal

pub returns : goal.returns
returns c =
    c.ok.ensures.value ∙ numeral_read c.args.digits.now c.parse.result c.requires c.parse.ensures.value.0
