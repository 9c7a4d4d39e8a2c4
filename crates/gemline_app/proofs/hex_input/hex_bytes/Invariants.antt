-- The bytes so far, and what the rest is behind them.

use Rattle.std.proofs.Common.{◌≡◌, ◌-◌, ◌<◌, ◌≤◌, length, None}
use Rattle.std.specs.Prelude.{IfSome}
use Rattle.gemline_app.specs.HexReading.{with_front, bytes_from}
use Rattle.gemline_app.proofs.hex_input.hex_bytes.Given as goal

abbrev pub invariant-digits : goal.invariant-digits
invariant-digits l = record {
  read : with_front l.bytes (bytes_from l.high (length l.input - length l.rest) l.rest) ≡ bytes_from None 0 l.input;
  within : length l.rest ≤ length l.input;
  small : IfSome l.high (λ digit. digit < 16);
}

abbrev pub decreases-digits : goal.decreases-digits
decreases-digits l = length l.rest
