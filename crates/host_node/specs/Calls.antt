-- The host as a value by itself: how it starts and steps, and the numbers that it has (this profile).
use Rattle.std.specs.Prelude.{◌≡◌, ℕ, ◌+◌, [], Result, Ok, Err}
use Rattle.message_flow.specs.declared.step.StepOut.{StepOut}
use Rattle.trace_log.specs.Log.{Happening}
use Rattle.message_end.specs.Core.{Step, Went, with_numbers}
use Rattle.message_end.specs.Core.Went.{Goes}
use Rattle.message_end.specs.Ends.{HasGone, HasSpent}
use Rattle.message_end.specs.Parts.{Node}
use Rattle.host_node.specs.declared.calls.HostEnded.{HostEnded}
use Rattle.host_node.specs.declared.calls.HostEnded.TheVariants as ended
use Rattle.host_node.specs.Host.{HostOwn, Kind}

abbrev pub HostNode : Type 0
HostNode = Node HostOwn Kind

-- a start as this host, with nothing noted
abbrev pub unnoted : HostNode → Step HostNode Happening
unnoted host = record { next = host; notes = []; written = [] }

-- it has started so; or memory ran out, which is the only ending of a start
abbrev pub HasBegun : Step HostNode Happening → StepOut → Result HostNode HostEnded → Type 0
HasBegun start out (Ok host) = HasGone (Goes start) host out
HasBegun start out (Err ended.NoMemory) = out.line.items ≡ []
HasBegun start out (Err ended.NumbersSpent) = ⊥

-- it has gone on; or it had to draw a number where none was left; or memory ran out. Where it has ended nothing is sent
abbrev pub HasStepped : Went HostNode Happening → StepOut → Result HostNode HostEnded → Type 0
HasStepped went out (Ok host) = HasGone went host out
HasStepped went out (Err ended.NumbersSpent) = HasSpent went out
HasStepped went out (Err ended.NoMemory) = out.line.items ≡ []

-- with the 4,096 numbers from the first on, behind those that are left
abbrev pub refilled : ℕ → HostNode → HostNode
refilled first host = record {
  own = host.own;
  core = with_numbers (record { next = host.core.numbers.next; end = first + 4096 }) host.core;
}
