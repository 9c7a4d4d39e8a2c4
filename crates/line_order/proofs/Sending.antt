-- The direction from an end, over a call of that end.
use Rattle.std.specs.Prelude.{◌≡◌, ◌<◌, ◌≤◌, ◌⊎◌, ℕ, Bool, true, false, ◌+◌, ◌-◌, ◌*◌, List, ◌∷◌, ◌++◌, length, map, Option, Some, if◌then◌else◌, refl}
use Rattle.std.specs.List.{Contains}
use Rattle.std.proofs.Common.{sym, ap, subst, arith, inl, inr}
use Rattle.std.proofs.lemmas.Bool.Decides.{nat_tests}
use Rattle.block_codec.specs.Block.{BlockView, IsBlock}
use Rattle.block_codec.specs.Frame.{frame_bytes}
use Rattle.block_codec.proofs.Frames.{length-frame_bytes}
use Rattle.line_end.specs.Laws.{IsHeld, IsOwn}
use Rattle.line_end.specs.State.{LineState}
use Rattle.line_end.specs.Step.{LineCall, line_step}
use Rattle.line_end.specs.Step.LineCall.{Send, Resume, Cancel, Take, Tick}
use Rattle.line_end.proofs.Small.{step_facts}
use Rattle.line_order.specs.Acts.{GivesBlock, frames_after, given_after, number_after}
use Rattle.line_order.specs.Characters.{Character, control, framed_from, writes_frame, written_as}
use Rattle.line_order.specs.Laws.{IsGiven}
use Rattle.line_order.specs.Line.{Arrival, WrittenFrame}
use Rattle.line_order.proofs.Flows.{flows-append, flows-control, flows-frame}
use Rattle.line_order.proofs.Given.{contains-cases, contains-more, given_at-below, given_at-last, given_at-more}
use Rattle.line_order.proofs.Sound.{IsFlowing, IsHearing, IsHeldBlock, IsOwnFrame, IsSending}

-- numbers only rise
pub number-rises : (number : ℕ) (written : List ℕ) → number ≤ number_after number written
number-rises number written = go (writes_frame written)
  where
    go : (long : Bool) → number ≤ (if long then number + 1 else number)
    go true = omega arith
    go false = omega arith

pub own-later :
    (given : List BlockView) (written later : ℕ) (f : WrittenFrame) → written ≤ later → IsOwnFrame given written f
    → IsOwnFrame given later f
own-later given written later f less own = record {
  below = omega (arith, own.below);
  block = own.block;
  in_block = own.in_block;
  at = own.at;
  framed = own.framed;
}

pub sending-later :
    (held : Option BlockView) (given : List BlockView) (frames : List WrittenFrame) (written later : ℕ) → written ≤ later
    → IsSending held given frames written → IsSending held given frames later
sending-later held given frames written later less is = record {
  last = is.last;
  own = λ f member. own-later given written later f less (is.own f member);
  rises = is.rises;
}

-- a frame of the held block is written
pub sending-frame :
    (held : Option BlockView) (given : List BlockView) (frames : List WrittenFrame) (number : ℕ) (bytes : List ℕ)
    (block : BlockView) → held ≡ Some block → bytes ≡ frame_bytes block → IsSending held given frames number
    → IsSending held given (record { number = number; place = length given - 1; bytes = bytes } ∷ frames) (number + 1)
sending-frame held given frames number bytes block holds framed is = record {
  last = is.last;
  own = λ f member. own f (contains-cases new frames f member);
  rises = λ f g in_f in_g less. rises f g (contains-cases new frames f in_f) (contains-cases new frames g in_g) less;
}
  where
    new : WrittenFrame
    new = record { number = number; place = length given - 1; bytes = bytes }

    own : (f : WrittenFrame) → (f ≡ new) ⊎ Contains frames f → IsOwnFrame given (number + 1) f
    own f (inl same) =
        let last = is.last block holds in
        let it : IsOwnFrame given (number + 1) new = record {
          below = omega arith;
          block = block;
          in_block = last.in_block;
          at = last.last;
          framed = framed;
        }
        in
        subst (λ (w : WrittenFrame). IsOwnFrame given (number + 1) w) (sym same) it
    own f (inr member) = own-later given number (number + 1) f (omega arith) (is.own f member)

    rises : (f g : WrittenFrame) → (f ≡ new) ⊎ Contains frames f → (g ≡ new) ⊎ Contains frames g → f.number < g.number
        → f.place ≤ g.place
    rises f g (inl f_new) (inl g_new) less =
        let f_number = ap (λ (w : WrittenFrame). w.number) f_new in
        let g_number = ap (λ (w : WrittenFrame). w.number) g_new in
        absurd (omega arith)
    rises f g (inl f_new) (inr in_g) less =
        let f_number = ap (λ (w : WrittenFrame). w.number) f_new in
        let below = (is.own g in_g).below in
        absurd (omega arith)
    rises f g (inr in_f) (inl g_new) less =
        let own_f = is.own f in_f in
        let below = given_at-below f.place given own_f.block own_f.at in
        let place = ap (λ (w : WrittenFrame). w.place) g_new in
        omega arith
    rises f g (inr in_f) (inr in_g) less = is.rises f g in_f in_g less

-- a call writes no frame, or that of the held block
pub sending-wrote :
    (held : Option BlockView) (given : List BlockView) (frames : List WrittenFrame) (number : ℕ) (written : List ℕ)
    → IsOwn held written → IsSending held given frames number
    → IsSending held given (frames_after number given written frames) (number_after number written)
sending-wrote held given frames number written wrote is = go (writes_frame written) refl wrote
  where
    go : (long : Bool) → writes_frame written ≡ long → IsOwn held written
        → IsSending held given
        (if long then record { number = number; place = length given - 1; bytes = written } ∷ frames else frames)
        (if long then number + 1 else number)
    go false long own = is
    go true long (inl short) = absurd (grind (arith, nat_tests))
    go true long (inr (block, holds, framed)) = sending-frame held given frames number written block holds framed is

-- it may be given a block, or drop the one that it holds
pub sending-given :
    (held : Option BlockView) (given : List BlockView) (frames : List WrittenFrame) (number : ℕ) (block : BlockView)
    → IsBlock block → IsSending held given frames number → IsSending (Some block) (block ∷ given) frames number
sending-given held given frames number block in_block is = record {
  last = λ b same.
      let it : block ≡ b = cc in
      subst (λ (x : BlockView). IsHeldBlock (block ∷ given) x) it
      (record { in_block = in_block; last = given_at-last block given });
  own = λ f member. let own = is.own f member in record {
    below = own.below;
    block = own.block;
    in_block = own.in_block;
    at = given_at-more f.place given own.block block own.at;
    framed = own.framed;
  };
  rises = is.rises;
}

pub sending-held :
    (held new : Option BlockView) (call : LineCall) (given : List BlockView) (frames : List WrittenFrame) (number : ℕ)
    → ((block : BlockView) (now : ℕ) → call ≡ Send block now → ⊥) → IsHeld held call new
    → IsSending held given frames number → IsSending new given frames number
sending-held held new call given frames number other (inl same) is =
    subst (λ (h : Option BlockView). IsSending h given frames number) (sym same) is
sending-held held new call given frames number other (inr (inl none)) is =
    record { last = λ block holds. cc; own = is.own; rises = is.rises }
sending-held held new call given frames number other (inr (inr (block, now, sent, holds))) is =
    absurd (other block now sent)

pub sending-call :
    (s : LineState) (call : LineCall) (given : List BlockView) (frames : List WrittenFrame) (number : ℕ) → GivesBlock call
    → IsSending s.held given frames number
    → IsSending (line_step s call).next.held (given_after call given) frames number
sending-call s (Send block now) given frames number gives is = sending-given s.held given frames number block gives is
sending-call s (Resume now) given frames number gives is =
    sending-held s.held _ (Resume now) given frames number (λ block at same. cc) (step_facts s (Resume now)).held is
sending-call s Cancel given frames number gives is =
    sending-held s.held _ Cancel given frames number (λ block at same. cc) (step_facts s Cancel).held is
sending-call s (Take byte now) given frames number gives is =
    sending-held s.held _ (Take byte now) given frames number (λ block at same. cc) (step_facts s (Take byte now)).held is
sending-call s (Tick now) given frames number gives is =
    sending-held s.held _ (Tick now) given frames number (λ block at same. cc) (step_facts s (Tick now)).held is

-- what it writes comes behind all that is under way
pub flowing-wrote :
    (held : Option BlockView) (given : List BlockView) (frames : List WrittenFrame) (number : ℕ) (written : List ℕ)
    (gathered way : List Character) (arrived : List Arrival) (lost : ℕ)
    → IsOwn held written → IsSending held given frames number → IsFlowing gathered way arrived number lost
    → IsFlowing gathered (way ++ written_as number written) arrived (number_after number written) lost
flowing-wrote held given frames number written gathered way arrived lost wrote sends is =
    go (writes_frame written) refl wrote
  where
    go : (long : Bool) → writes_frame written ≡ long → IsOwn held written
        → IsFlowing gathered (way ++ (if long then framed_from number 0 written else map control written)) arrived
        (if long then number + 1 else number) lost
    go false long own = record {
      low = is.low;
      mid = is.mid;
      before = is.before;
      front = is.front;
      back =
          flows-append way (map control written) is.mid (300 * number) (300 * number) is.back
          (flows-control written (300 * number) (300 * number) (omega arith));
      since = is.since;
    }
    go true long (inl short) = absurd (grind (arith, nat_tests))
    go true long (inr (block, holds, framed)) =
        let most = (sends.last block holds).in_block.at_most_244 in
        let size = length-frame_bytes block in
        let same = ap length framed in
        record {
          low = is.low;
          mid = is.mid;
          before = is.before;
          front = is.front;
          back =
              flows-append way (framed_from number 0 written) is.mid (300 * number) (300 * (number + 1)) is.back
              (flows-frame number 0 written (300 * number) (300 * (number + 1)) (omega arith) (omega arith));
          since = is.since;
        }

-- what has arrived was given, whatever is given and written later
pub hearing-frames :
    (frames : List WrittenFrame) (given : List BlockView) (arrived : List Arrival) (number : ℕ) (written : List ℕ)
    → IsHearing frames given arrived → IsHearing (frames_after number given written frames) given arrived
hearing-frames frames given arrived number written is = go (writes_frame written)
  where
    go : (long : Bool)
        → IsHearing
        (if long then record { number = number; place = length given - 1; bytes = written } ∷ frames else frames)
        given arrived
    go false = is
    go true = record { own = λ a member. contains-more _ frames a.frame (is.own a member); in_order = is.in_order }

pub given-more : (given : List BlockView) (block : BlockView) (a : Arrival) → IsGiven given a → IsGiven (block ∷ given) a
given-more given block a is =
    record { block = given_at-more a.frame.place given a.block block is.block; since = is.since }

pub hearing-call :
    (call : LineCall) (frames : List WrittenFrame) (given : List BlockView) (arrived : List Arrival)
    → IsHearing frames given arrived → IsHearing frames (given_after call given) arrived
hearing-call (Send block now) frames given arrived is = record {
  own = is.own;
  in_order = record {
    order = is.in_order.order;
    blocks = λ k d within. given-more given block _ (is.in_order.blocks k d within);
  };
}
hearing-call (Resume now) frames given arrived is = is
hearing-call Cancel frames given arrived is = is
hearing-call (Take byte now) frames given arrived is = is
hearing-call (Tick now) frames given arrived is = is
