-- The eight digits are those of the four bytes.

use Rattle.short_text.proofs.Hex.{word_digits}
use Rattle.short_text.proofs.hex_word.Goals as goal

pub returns : goal.returns
returns c =
    word_digits _ _ _ _ c.to_be_bytes.result c.to_be_bytes.ensures
    c.hex_digit.ensures c.hex_digit-2.ensures c.hex_digit-3.ensures c.hex_digit-4.ensures
    c.hex_digit-5.ensures c.hex_digit-6.ensures c.hex_digit-7.ensures c.hex_digit-8.ensures
