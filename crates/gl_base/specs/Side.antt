-- The two ends of a line (SEMI E4).
use Rattle.std.specs.Prelude.{Bool, true, false, ℕ}
use Rattle.gl_base.specs.declared.side.Side.{Side}
use Rattle.gl_base.specs.declared.side.Side.TheVariants.{Equipment, Host}

-- the end at the other end of the line
abbrev pub other_side : Side → Side
other_side Equipment = Host
other_side Host = Equipment

abbrev pub is_same_side : Side → Side → Bool
is_same_side Equipment Equipment = true
is_same_side Equipment Host = false
is_same_side Host Equipment = false
is_same_side Host Host = true

-- the R bit of the headers that it sends, which is set where a block goes from the equipment to the host
abbrev pub r_bit_of : Side → Bool
r_bit_of Equipment = true
r_bit_of Host = false

-- its letter in schedules and traces: E or H (this profile)
abbrev pub side_letter : Side → ℕ
side_letter Equipment = 69
side_letter Host = 72
