-- The commands that a schedule or a script gives to the ends (this profile).
use Rattle.std.specs.Prelude.{◌≡◌, ℕ, ◌<◌, ◌≤◌, ◌%◌, List, All}
use Rattle.secs_items.specs.Limits.{max_depth}
use Rattle.secs_items.specs.Measures.{depth_of}
use Rattle.trace_log.specs.declared.commands.HostCommand.{HostCommand}
use Rattle.trace_log.specs.declared.commands.HostCommand.TheVariants.{Send}
use Rattle.trace_log.specs.declared.commands.ToolCommand.{ToolCommand}
use Rattle.trace_log.specs.declared.commands.ToolCommand.TheVariants.{Set}

-- an item that a variable is set to has no list in 64 others, as items that are read
abbrev pub ToolCommandFits : ToolCommand → Type 0
ToolCommandFits (Set vid item) = depth_of item ≤ max_depth
ToolCommandFits _ = Unit {0}

-- what the host sends is a primary, of a stream from 1 to 127
pub record IsPrimaryName (stream function : ℕ) : Type 0 where
  pub at_least : 1 ≤ stream
  pub at_most : stream ≤ 127
  pub odd : function % 2 ≡ 1

-- and its function and its text are bytes
pub record MayBeSent (stream function : ℕ) (body : List ℕ) : Type 0 where
  pub name : IsPrimaryName stream function
  pub byte : function < 256
  pub bytes : All (λ byte. byte < 256) body

abbrev pub HostCommandFits : HostCommand → Type 0
HostCommandFits (Send stream function wait body) = MayBeSent stream function body
HostCommandFits _ = Unit {0}
