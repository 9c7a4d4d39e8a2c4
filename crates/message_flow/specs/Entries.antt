-- What a receiver has met, and what it keeps of it.
use Rattle.std.specs.Prelude.{◌≡◌, ℕ, ◌+◌, List, [], ◌∷◌, Option, Some, None}
use Rattle.std.specs.List.{fold}
use Rattle.block_codec.specs.Block.{BlockView}
use Rattle.block_codec.specs.declared.header.Header.{Header}
use Rattle.message_flow.specs.declared.flow.Flow.{Flow}
use Rattle.message_flow.specs.declared.partial.Partial.{Partial}
use Rattle.message_flow.specs.Assembly.{AssemblyView, flow_of, partials_after, without_key}
use Rattle.message_flow.specs.Receiver.{Receiver}

-- a block was given, or T4 dropped the message whose last block had this header, each at its moment
pub data FlowEntry : Type 0 where
  Given : (block : BlockView) (now : ℕ) → FlowEntry
  Dropped : (header : Header) (now : ℕ) → FlowEntry

-- the blocks that were given, in the order of the entries
abbrev pub blocks_in : List FlowEntry → List BlockView
blocks_in [] = []
blocks_in (Given block now ∷ entries) = block ∷ blocks_in entries
blocks_in (Dropped header now ∷ entries) = blocks_in entries

pub record Kept : Type 0 where
  pub last : Option Header
  pub partials : List Partial

-- what is kept after one entry more
abbrev pub next_kept : Receiver → Kept → FlowEntry → Kept
next_kept receiver kept (Given block now) = record {
  last = Some block.header;
  partials = partials_after kept.partials block (now + receiver.t4) (flow_of receiver kept.last kept.partials block);
}
next_kept receiver kept (Dropped header now) = record { last = kept.last; partials = without_key header kept.partials }

-- what is kept of all entries, the oldest first
abbrev pub kept_after : Receiver → List FlowEntry → Kept
kept_after receiver entries = fold (next_kept receiver) (record { last = None; partials = [] }) entries

-- what a block is, by what is kept of these entries
abbrev pub flow_kept : Receiver → List FlowEntry → BlockView → Flow
flow_kept receiver entries block =
    flow_of receiver (kept_after receiver entries).last (kept_after receiver entries).partials block

-- the assembly keeps of these entries, the oldest first: the header of the block that was given last, and the open
-- messages
pub record StandsFor (assembly : AssemblyView) (entries : List FlowEntry) : Type 0 where
  pub last : assembly.last ≡ (kept_after assembly.receiver entries).last
  pub partials : assembly.partials ≡ (kept_after assembly.receiver entries).partials
