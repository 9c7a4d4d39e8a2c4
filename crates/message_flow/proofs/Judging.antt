-- What a block is and what is kept then, once its message has been looked for.
use Rattle.std.proofs.Common.{◌≡◌, refl, sym, ◌∙◌, false, ℕ, List, length, Option, Some, None}
use Rattle.std.specs.List.{find, position_or_len}
use Rattle.block_codec.specs.Block.{BlockView}
use Rattle.block_codec.specs.declared.header.Header.{Header}
use Rattle.message_flow.specs.declared.flow.Flow.{Flow}
use Rattle.message_flow.specs.declared.flow.Flow.TheVariants.{Part, Whole, Duplicate, Foreign, Unexpected, TooLong, Crowded}
use Rattle.message_flow.specs.declared.partial.Partial.{Partial}
use Rattle.message_flow.specs.Assembly.{after_first, after_next, body_so_far, flow_of, has_key, header_so_far, flow_behind, partials_after, without_key}
use Rattle.message_flow.specs.Key.{is_given}
use Rattle.message_flow.specs.Receiver.{Receiver, is_foreign}
use Rattle.message_flow.proofs.Firsts.{removed}
use Rattle.message_flow.proofs.Found.{without-none}

pub flow_of-found :
    (receiver : Receiver) (last : Option Header) (partials : List Partial) (block : BlockView) (found : Option Partial)
    → is_given last block.header ≡ false → is_foreign receiver block.header ≡ false
    → find (has_key block.header) partials ≡ found
    → flow_of receiver last partials block
    ≡ flow_behind receiver (header_so_far found) (body_so_far found) (length partials) block
flow_of-found receiver last partials block found given foreign e = rw (given, foreign, e) refl

pub after_next-is :
    (partials : List Partial) (place : ℕ) (found : Partial) (block : BlockView) (deadline : ℕ) (flow : Flow)
    → place ≡ position_or_len (has_key block.header) partials → find (has_key block.header) partials ≡ Some found
    → after_next partials place found block deadline flow ≡ partials_after partials block deadline flow
after_next-is partials place found block deadline Part at e = rw (at, e) refl
after_next-is partials place found block deadline (Whole message check) at e = rw at refl
after_next-is partials place found block deadline Duplicate at e = refl
after_next-is partials place found block deadline (Foreign address) at e = refl
after_next-is partials place found block deadline Unexpected at e = rw at refl
after_next-is partials place found block deadline TooLong at e = rw at refl
after_next-is partials place found block deadline Crowded at e = refl

without_key-none :
    (header : Header) (partials : List Partial) → find (has_key header) partials ≡ None
    → partials ≡ without_key header partials
without_key-none header partials e = sym (removed (has_key header) partials ∙ without-none (has_key header) partials e)

pub after_first-is :
    (partials : List Partial) (block : BlockView) (deadline : ℕ) (flow : Flow)
    → find (has_key block.header) partials ≡ None
    → after_first partials block deadline flow ≡ partials_after partials block deadline flow
after_first-is partials block deadline Part e = rw e refl
after_first-is partials block deadline (Whole message check) e = without_key-none block.header partials e
after_first-is partials block deadline Duplicate e = refl
after_first-is partials block deadline (Foreign address) e = refl
after_first-is partials block deadline Unexpected e = without_key-none block.header partials e
after_first-is partials block deadline TooLong e = without_key-none block.header partials e
after_first-is partials block deadline Crowded e = refl
