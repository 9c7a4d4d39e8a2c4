-- What bounds items and their bytes.
use Rattle.std.specs.Prelude.{ℕ}

-- how deep lists may nest (this profile)
abbrev pub max_depth : ℕ
max_depth = 64

-- what three length bytes hold
abbrev pub max_length : ℕ
max_length = 16777215
