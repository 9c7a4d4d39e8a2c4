-- What the calls of an assembly say of all entries that it stands for, the oldest first.
use Rattle.std.specs.Prelude.{◌≡◌, ℕ, List, [], ◌∷◌, ◌++◌, Option, Result, IfOk, IfSome, OnOk}
use Rattle.block_codec.specs.Block.{BlockView}
use Rattle.block_codec.specs.declared.header.Header.{Header}
use Rattle.message_flow.specs.declared.flow.Flow.{Flow}
use Rattle.message_flow.specs.Assembly.{AssemblyView}
use Rattle.message_flow.specs.Deadlines.{IsDeadlineAt, dropped_at}
use Rattle.message_flow.specs.Entries.{FlowEntry, StandsFor}
use Rattle.message_flow.specs.Entries.FlowEntry.{Dropped, Given}
use Rattle.message_flow.specs.History.{checked_at, flow_at}
use Rattle.secs_items.specs.Checking.{Checking}

-- what is answered is what the block is after the entries
abbrev pub IsFlowAt : {E : Type 0} → AssemblyView → BlockView → Result Flow E → Type 0
IsFlowAt old block result =
    (entries : List FlowEntry) → StandsFor old entries → IfOk result (λ flow. flow ≡ flow_at old.receiver entries block)

-- the assembly stands for the entries with the block behind them
abbrev pub StandsWithBlock : {E : Type 0} → AssemblyView → AssemblyView → BlockView → ℕ → Result Flow E → Type 0
StandsWithBlock old new block now result =
    (entries : List FlowEntry) → StandsFor old entries → OnOk result (StandsFor new (entries ++ Given block now ∷ []))

-- what is answered is the check of the text so far of the header's key after the entries
abbrev pub IsCheckedAt : AssemblyView → Header → Option Checking → Type 0
IsCheckedAt assembly header result =
    (entries : List FlowEntry) → StandsFor assembly entries → result ≡ checked_at assembly.receiver entries header

-- what is answered is the header of the message that T4 drops after the entries
abbrev pub IsDroppedAt : AssemblyView → ℕ → Option Header → Type 0
IsDroppedAt old now result =
    (entries : List FlowEntry) → StandsFor old entries → result ≡ dropped_at old.receiver entries now

-- the assembly stands for the entries with the drop behind them
abbrev pub StandsWithDrop : AssemblyView → AssemblyView → ℕ → Option Header → Type 0
StandsWithDrop old new now result =
    (entries : List FlowEntry) → StandsFor old entries
    → IfSome result (λ header. StandsFor new (entries ++ Dropped header now ∷ []))

-- what is answered is the deadline after the entries
abbrev pub IsNextDeadline : AssemblyView → Option ℕ → Type 0
IsNextDeadline assembly result =
    (entries : List FlowEntry) → StandsFor assembly entries → IsDeadlineAt assembly.receiver entries result
