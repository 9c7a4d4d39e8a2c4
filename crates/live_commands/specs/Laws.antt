-- What holds of each row of bytes that comes in parts (this profile).
use Rattle.std.specs.Prelude.{◌≡◌, ℕ, List, ◌++◌}
use Rattle.std.specs.List.{concat}
use Rattle.live_commands.specs.Coming.{Standing, asked_in_parts, asked_with, at_start, behind}
use Rattle.live_commands.specs.Commands.{commands_of}

-- however it is cut, the same commands come of it
abbrev pub PartsAreCommands : Type 0
PartsAreCommands = (parts : List (List ℕ)) → asked_in_parts at_start parts ≡ commands_of (concat parts)

-- and each with the same bytes
pub record ComesByBytes : Type 0 where
  pub asked :
      (s : Standing) (first second : List ℕ)
      → asked_with s (first ++ second) ≡ asked_with s first ++ asked_with (behind s first) second
  pub stands : (s : Standing) (first second : List ℕ) → behind s (first ++ second) ≡ behind (behind s first) second
