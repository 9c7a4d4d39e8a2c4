-- The numbers that code has read.
use Rattle.std.specs.Prelude.{Option}
use Rattle.std.specs.Prelude.{ℤ}
use Rattle.secs_text.specs.declared.numbers.Number as code
use Rattle.secs_text.specs.Reading.{value_of}

abbrev pub number_view : code.Number → Option ℤ
number_view n = value_of n.negative n.magnitude
