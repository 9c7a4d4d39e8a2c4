-- A whole message fits, and its check is that of its text.
use Rattle.std.proofs.Common.{◌≡◌, refl, arith, Bool, true, false, cond, ℕ, ◌+◌, ◌≤◌, List, ◌++◌, length, nat_lt, Option}
use Rattle.std.proofs.lemmas.Bool.{ltb-false}
use Rattle.std.proofs.lemmas.List.{length-append}
use Rattle.std.specs.List.{find}
use Rattle.block_codec.specs.Block.{BlockView}
use Rattle.block_codec.specs.Header.{Fits}
use Rattle.block_codec.specs.declared.header.Header.{Header}
use Rattle.message_flow.specs.declared.flow.Flow.{Flow}
use Rattle.message_flow.specs.declared.flow.Flow.TheVariants.{Part, Duplicate, Foreign, Unexpected, TooLong, Crowded}
use Rattle.message_flow.specs.declared.message.Message.{Message}
use Rattle.message_flow.specs.declared.partial.Partial.{Partial}
use Rattle.message_flow.specs.Assembly.{WholeFits, WholeIsChecked, body_so_far, flow_behind, flow_of, has_key, header_so_far, is_crowded, is_next, message_of, whole_with}
use Rattle.message_flow.specs.Key.{is_given}
use Rattle.message_flow.specs.Receiver.{IsReceiver, Receiver, address_of, is_foreign}

pub behind-fits :
    (receiver : Receiver) (before : Option Header) (body : List ℕ) (count : ℕ) (block : BlockView) → IsReceiver receiver
    → Fits block.header → WholeFits receiver.max_body (flow_behind receiver before body count block)
behind-fits receiver before body count block is fits = follow (is_next before block.header)
  where
    ended : (last : Bool) → length body + length block.body ≤ receiver.max_body
        → WholeFits receiver.max_body
        (cond last (whole_with (message_of block.header (body ++ block.body)))
        (cond (is_crowded before count) Crowded Part))
    ended true short =
        let e = length-append body block.body in
        let most = is.max_body_at_most in
        (record { stream = fits.stream; body = rw e (omega arith) }, rw e short)
    ended false short = elim (is_crowded before count) as
        (λ c. WholeFits receiver.max_body (cond c Crowded Part)) [ true ↦ tt | false ↦ tt ]

    enough : (long : Bool) → nat_lt receiver.max_body (length body + length block.body) ≡ long
        → WholeFits receiver.max_body
        (cond long TooLong
        (cond block.header.last (whole_with (message_of block.header (body ++ block.body)))
        (cond (is_crowded before count) Crowded Part)))
    enough true e = tt
    enough false e = ended block.header.last (ltb-false _ _ e)

    follow : (next : Bool) → WholeFits receiver.max_body
        (cond next
        (cond (nat_lt receiver.max_body (length body + length block.body)) TooLong
        (cond block.header.last (whole_with (message_of block.header (body ++ block.body)))
        (cond (is_crowded before count) Crowded Part)))
        Unexpected)
    follow true = enough _ refl
    follow false = tt

-- a block that is a duplicate or foreign, and otherwise what one is that fits
pub chosen-fits :
    (max_body : ℕ) (address : ℕ) (given foreign : Bool) (flow : Flow) → WholeFits max_body flow
    → WholeFits max_body (cond given Duplicate (cond foreign (Foreign address) flow))
chosen-fits max_body address true foreign flow fits = tt
chosen-fits max_body address false true flow fits = tt
chosen-fits max_body address false false flow fits = fits

pub flow-fits :
    (receiver : Receiver) (last : Option Header) (partials : List Partial) (block : BlockView) → IsReceiver receiver
    → Fits block.header → WholeFits receiver.max_body (flow_of receiver last partials block)
flow-fits receiver last partials block is fits =
    chosen-fits receiver.max_body (address_of block.header) (is_given last block.header)
    (is_foreign receiver block.header) _
    (behind-fits receiver _ _ (length partials) block is fits)

checked-by :
    (address : ℕ) (message : Message) (given foreign follows long last crowded : Bool)
    → WholeIsChecked
    (cond given Duplicate (cond foreign (Foreign address)
    (cond follows (cond long TooLong (cond last (whole_with message) (cond crowded Crowded Part))) Unexpected)))
checked-by address message true foreign follows long last crowded = tt
checked-by address message false true follows long last crowded = tt
checked-by address message false false false long last crowded = tt
checked-by address message false false true true last crowded = tt
checked-by address message false false true false true crowded = refl
checked-by address message false false true false false true = tt
checked-by address message false false true false false false = tt

pub flow-checked :
    (receiver : Receiver) (last : Option Header) (partials : List Partial) (block : BlockView)
    → WholeIsChecked (flow_of receiver last partials block)
flow-checked receiver last partials block =
    let found = find (has_key block.header) partials in
    checked-by (address_of block.header) (message_of block.header (body_so_far found ++ block.body))
    (is_given last block.header) (is_foreign receiver block.header) (is_next (header_so_far found) block.header)
    (nat_lt receiver.max_body (length (body_so_far found) + length block.body)) block.header.last
    (is_crowded (header_so_far found) (length partials))
