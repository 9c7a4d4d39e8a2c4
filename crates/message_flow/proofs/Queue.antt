-- What is kept of the messages that wait, as one leaves or has its turn.
use Rattle.std.proofs.Common.{◌≡◌, refl, ◌∙◌, sym, Bool, true, false, ◌==◌, ℕ, ◌+◌, List, ◌++◌, drop, take, set, arith}
use Rattle.std.specs.Bool.{beq}
use Rattle.std.specs.List.{list_any}
use Rattle.std.proofs.lemmas.Bool.{and_left, and_right, ne_eqb}
use Rattle.std.proofs.lemmas.Bool.Decides.{nat_tests}
use Rattle.std.proofs.lemmas.List.{drop-set-lt, length-append, length-drop, length-take, length-set}
use Rattle.std.proofs.lemmas.List.Elements.{All-append, All-drop, All-set, All-take, All-weaker}
use Rattle.std.proofs.lemmas.List.Folds.{list_any_none}
use Rattle.block_codec.specs.declared.header.Header.{Header}
use Rattle.gl_base.specs.declared.side.Side.{Side}
use Rattle.message_flow.specs.declared.waiting.Waiting.{Waiting}
use Rattle.message_flow.specs.Blocks.{block_count}
use Rattle.message_flow.specs.Outgoing.{IsOutgoing, OutgoingView, is_source_of}
use Rattle.message_flow.specs.Waiting.{IsWaiting}

-- the first message leaves
pub front-left :
    (side : Side) (device : ℕ) (waiting rest : List Waiting)
    → IsOutgoing (record { side = side; device = device; waiting = waiting }) → rest ≡ drop 1 waiting
    → IsOutgoing (record { side = side; device = device; waiting = rest })
front-left side device waiting rest is e = record {
  device = is.device;
  waiting = rw e (All-drop IsWaiting 1 waiting is.waiting);
  few = rw e (simp length-drop (omega arith));
}

-- the first message has had its turn, and leaves
pub front-gone :
    (side : Side) (device : ℕ) (waiting rest : List Waiting) (first : Waiting)
    → IsOutgoing (record { side = side; device = device; waiting = waiting })
    → rest ≡ drop 1 (set waiting 0 first)
    → IsOutgoing (record { side = side; device = device; waiting = rest })
front-gone side device waiting rest first is e =
    front-left side device waiting rest is (e ∙ drop-set-lt 1 waiting 0 first (omega arith))

-- a message whose last block has not gone has a block left
pub one-more-gone :
    (first : Waiting) (last : Bool) → IsWaiting first → last ≡ (first.gone + 1 == block_count first.message)
    → last ≡ false → IsWaiting (record { message = first.message; gone = first.gone + 1 })
one-more-gone first last is e more = record {
  fits = is.fits;
  left = (let left = is.left in let h = sym e ∙ more in grind (arith, nat_tests, h, left));
}

-- the first message has had its turn
pub front-turned :
    (side : Side) (device : ℕ) (waiting rest : List Waiting) (first : Waiting)
    → IsOutgoing (record { side = side; device = device; waiting = waiting }) → IsWaiting first
    → rest ≡ drop 1 (set waiting 0 first) ++ take 1 (set waiting 0 first)
    → IsOutgoing (record { side = side; device = device; waiting = rest })
front-turned side device waiting rest first is is_waiting e =
    let all = All-set IsWaiting waiting 0 first is_waiting is.waiting in
    record {
      device = is.device;
      waiting = rw e (All-append IsWaiting _ _ (All-drop IsWaiting 1 _ all) (All-take IsWaiting 1 _ all));
      few = rw e (simp (length-append, length-drop, length-take, length-set) (omega arith));
    }

-- the last block that has gone of a message that waits hasn't the E bit
no-end :
    (outgoing : OutgoingView) (header : Header) → header.last ≡ true → (w : Waiting) → IsWaiting w
    → is_source_of outgoing header w ≡ false
no-end outgoing header last w is =
    let left = is.left in
    let open_still : (w.gone == block_count w.message) ≡ false =
    ne_eqb w.gone (block_count w.message) (λ e. omega arith) in
    let differ : beq (w.gone == block_count w.message) header.last ≡ false = rw (open_still, last) refl in
    and_left _ _ (and_right _ _ differ)

pub none-ended :
    (outgoing : OutgoingView) (header : Header) → IsOutgoing outgoing → header.last ≡ true
    → list_any (is_source_of outgoing header) outgoing.waiting ≡ false
none-ended outgoing header is last =
    list_any_none (is_source_of outgoing header) outgoing.waiting
    (All-weaker IsWaiting (λ w. is_source_of outgoing header w ≡ false)
    (no-end outgoing header last) outgoing.waiting is.waiting)
