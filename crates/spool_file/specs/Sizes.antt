-- How many slots a body takes, and which bodies a file has no room for (this profile).
use Rattle.std.specs.Prelude.{ℕ, ◌+◌, ◌/◌, ◌==◌, Bool, ◌||◌, nat_lt, if◌then◌else◌}

-- how many slots a body of this length takes: each has room for 4,081 bytes of it, and each message has one
unfoldable pub slots_for : ℕ → ℕ
slots_for long = if long == 0 then 1 else (long + 4080) / 4081

-- the most bytes of a body, by the file's version: in version 1 each takes one slot
abbrev pub body_most : ℕ → ℕ
body_most version = if version == 1 then 4081 else 1048576

-- whether a file of so many slots has no room for a body of this length, though it were empty
abbrev pub is_too_long : (version slots long : ℕ) → Bool
is_too_long version slots long = nat_lt (body_most version) long || nat_lt slots (slots_for long)
