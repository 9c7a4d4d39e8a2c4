-- Runs that can be followed by hand.
use Rattle.std.specs.Prelude.{◌≡◌, ◌<◌, ◌≤◌, ℕ, true, false, List, [], ◌∷◌, replicate, reverse, Some}
use Rattle.block_codec.specs.Block.{BlockView}
use Rattle.gl_base.specs.declared.side.Side.TheVariants.{Equipment, Host}
use Rattle.message_flow.specs.declared.flow.Flow.TheVariants.{Part, Duplicate, Unexpected}
use Rattle.message_flow.specs.declared.message.Message.{Message}
use Rattle.message_flow.specs.Arrivals.{CanBegin, HaveCome, is_given_since}
use Rattle.message_flow.specs.Assembly.{whole_with}
use Rattle.message_flow.specs.Blocks.{block_count, header_of, numbered_block}
use Rattle.message_flow.specs.Entries.{FlowEntry}
use Rattle.message_flow.specs.Entries.FlowEntry.{Given}
use Rattle.message_flow.specs.History.{flow_at}
use Rattle.message_flow.specs.Receiver.{IsReceiver, Receiver}

-- a host of device 0 with T4 of 45 seconds
abbrev pub a_host : Receiver
a_host = record { side = Host; device = Some 0; t4 = 45000; max_body = 1048576 }

-- event reports with these system bytes and 489 bytes of text: three blocks
abbrev pub report : ℕ → Message
report system = record { stream = 6; function = 11; wait = true; system = system; body = replicate 489 7 }

-- their blocks as the equipment sends them
abbrev pub block : ℕ → ℕ → BlockView
block system number = numbered_block Equipment 0 (report system) number

-- block 1, the same again, block 1 of another message, and block 2
abbrev pub once : List FlowEntry
once = Given (block 1 1) 0 ∷ []

abbrev pub twice : List FlowEntry
twice = Given (block 1 1) 1 ∷ once

abbrev pub mixed : List FlowEntry
mixed = Given (block 2 1) 2 ∷ twice

abbrev pub all_but_last : List FlowEntry
all_but_last = Given (block 1 2) 3 ∷ mixed

pub record ComesInThree : Type 0 where
  pub receiver : IsReceiver a_host
  pub begins : CanBegin a_host Equipment 0 (report 1) []
  pub comes : HaveCome a_host Equipment 0 (report 1) all_but_last 2 true
  pub more : 2 < block_count (report 1)
  pub first : flow_at a_host [] (block 1 1) ≡ Part
  pub again : flow_at a_host (reverse once) (block 1 1) ≡ Duplicate
  pub second : flow_at a_host (reverse mixed) (block 1 2) ≡ Part
  pub last : flow_at a_host (reverse all_but_last) (block 1 3) ≡ whole_with (report 1)

-- block 3 comes after block 1
pub record LacksOne : Type 0 where
  pub within : 2 ≤ block_count (report 1)
  pub missed : is_given_since (header_of Equipment 0 (report 1) 1) 2 (Given (block 1 3) 3 ∷ mixed) ≡ false
  pub told : flow_at a_host (reverse mixed) (block 1 3) ≡ Unexpected
