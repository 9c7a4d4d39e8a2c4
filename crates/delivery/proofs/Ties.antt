-- How the blocks and frames of an end on the line fit the tagged end.
use Rattle.std.specs.Prelude.{◌≡◌, ◌⊎◌, ◌<◌, ◌≤◌, ◌+◌, ◌-◌, ℕ, List, [], ◌∷◌, length, map, Option, Some, None, refl}
use Rattle.std.specs.List.{Contains}
use Rattle.std.proofs.Common.{sym, ap, ◌∙◌, subst, arith, inl, inr}
use Rattle.std.proofs.lemmas.List.{length-map}
use Rattle.block_codec.specs.Block.{BlockView}
use Rattle.line_end.specs.Laws.{IsHeld}
use Rattle.line_end.specs.Step.{LineCall}
use Rattle.line_order.specs.Line.{WrittenFrame}
use Rattle.line_order.proofs.Given.{contains-cases}
use Rattle.message_end.specs.Doings.{IsNoSend}
use Rattle.message_end.specs.Own.{Has}
use Rattle.message_end.specs.Plan.{EndPlan}
use Rattle.delivery.proofs.Fitting.{given_place}
use Rattle.delivery.proofs.Lists.{ArePlaced}
use Rattle.delivery.proofs.Tags.{TaggedBlock, TaggedMessage, view_of}

-- the block that was given last is of a message of this start
abbrev pub NewestIsOf : List TaggedMessage → List TaggedBlock → Type 0
NewestIsOf sent [] = ⊥
NewestIsOf sent (block ∷ before) = Has sent block.of

pub record IsBlockAt (blocks : List TaggedBlock) (place : ℕ) : Type 0 where
  pub block : TaggedBlock
  pub has : Has blocks block
  pub at : block.place ≡ place

-- a frame that was written since the last loss is of one of these blocks
pub record IsFrameAt (frames : List TaggedBlock) (written lost : ℕ) (frame : WrittenFrame) : Type 0 where
  pub below : frame.number < written
  pub present : lost ≤ frame.number → IsBlockAt frames frame.place

pub record IsTied
    (plan : EndPlan) (held : Option BlockView) (line_given : List BlockView) (line_frames : List WrittenFrame)
    (written lost : ℕ) (sent : List TaggedMessage) (given frames : List TaggedBlock)
    : Type 0 where
  pub given_are : line_given ≡ map (view_of plan) given
  pub placed : ArePlaced given_place 0 given
  pub held_is : (block : BlockView) → held ≡ Some block → NewestIsOf sent given
  pub frames_are : (frame : WrittenFrame) → Contains line_frames frame → IsFrameAt frames written lost frame

module _ (plan : EndPlan) where
  pub tied-sent : (held : Option BlockView) (line_given : List BlockView) (line_frames : List WrittenFrame) (written
      lost : ℕ)
      (sent : List TaggedMessage) (given frames : List TaggedBlock) (message : TaggedMessage)
      → IsTied plan held line_given line_frames written lost sent given frames
      → IsTied plan held line_given line_frames written lost (message ∷ sent) given frames
  tied-sent held line_given line_frames written lost sent given frames message is = record {
    given_are = is.given_are;
    placed = is.placed;
    held_is = λ block holds. more given (is.held_is block holds);
    frames_are = is.frames_are;
  }
    where
      more : (given : List TaggedBlock) → NewestIsOf sent given → NewestIsOf (message ∷ sent) given
      more [] none = none
      more (block ∷ before) has = inr has

  pub tied-gave : (held : Option BlockView) (line_given : List BlockView) (line_frames : List WrittenFrame) (written
      lost : ℕ)
      (sent : List TaggedMessage) (given frames : List TaggedBlock) (block : TaggedBlock) (view : BlockView)
      → block.place ≡ length given → Has sent block.of → view ≡ view_of plan block
      → IsTied plan held line_given line_frames written lost sent given frames
      → IsTied plan (Some view) (view ∷ line_given) line_frames written lost sent (block ∷ given) frames
  tied-gave held line_given line_frames written lost sent given frames block view at has same is = record {
    given_are =
        ap (λ (w : BlockView). w ∷ line_given) same
        ∙ ap (λ (ws : List BlockView). view_of plan block ∷ ws) is.given_are;
    placed = (omega (arith, at), is.placed);
    held_is = λ other holds. has;
    frames_are = is.frames_are;
  }

  pub tied-held : (held : Option BlockView) (line_given : List BlockView) (line_frames : List WrittenFrame) (written
      lost : ℕ)
      (sent : List TaggedMessage) (given frames : List TaggedBlock) (call : LineCall) (next : Option BlockView)
      → IsNoSend call → IsHeld held call next
      → IsTied plan held line_given line_frames written lost sent given frames
      → IsTied plan next line_given line_frames written lost sent given frames
  tied-held held line_given line_frames written lost sent given frames call next no_send holds is = record {
    given_are = is.given_are;
    placed = is.placed;
    held_is = λ block now. go block now holds;
    frames_are = is.frames_are;
  }
    where
      go : (block : BlockView) → next ≡ Some block → IsHeld held call next → NewestIsOf sent given
      go block now (inl same) = is.held_is block (sym same ∙ now)
      go block now (inr (inl none)) = let never : None ≡ Some block = sym none ∙ now in cc
      go block now (inr (inr sends)) = absurd (subst IsNoSend sends.2 no_send)

  -- more frames are written by the other end
  pub tied-later : (held : Option BlockView) (line_given : List BlockView) (line_frames : List WrittenFrame)
      (written lost later : ℕ) (sent : List TaggedMessage) (given frames : List TaggedBlock)
      → written ≤ later
      → IsTied plan held line_given line_frames written lost sent given frames
      → IsTied plan held line_given line_frames later lost sent given frames
  tied-later held line_given line_frames written lost later sent given frames rises is = record {
    given_are = is.given_are;
    placed = is.placed;
    held_is = is.held_is;
    frames_are = λ frame has. let it = is.frames_are frame has in let below = it.below in record {
      below = omega (arith, below, rises);
      present = it.present;
    };
  }

  -- the frame of the block that was given last is written
  pub tied-wrote : (held : Option BlockView) (line_given : List BlockView) (line_frames : List WrittenFrame) (written
      lost : ℕ)
      (sent : List TaggedMessage) (given frames : List TaggedBlock) (block : TaggedBlock) (before : List TaggedBlock)
      (bytes : List ℕ)
      → given ≡ block ∷ before
      → IsTied plan held line_given line_frames written lost sent given frames
      → IsTied plan held line_given
      (record { number = written; place = length line_given - 1; bytes = bytes } ∷ line_frames) (written + 1) lost sent
      given (block ∷ frames)
  tied-wrote held line_given line_frames written lost sent given frames block before bytes newest is = record {
    given_are = is.given_are;
    placed = is.placed;
    held_is = is.held_is;
    frames_are = λ frame has. cases frame (contains-cases new line_frames frame has);
  }
    where
      new : WrittenFrame
      new = record { number = written; place = length line_given - 1; bytes = bytes }

      placed : ArePlaced given_place 0 (block ∷ before)
      placed = subst (ArePlaced given_place 0) newest is.placed

      at : block.place ≡ length line_given - 1
      at =
          let long : length line_given ≡ length (block ∷ before) =
          ap length is.given_are ∙ length-map given (view_of plan) ∙ ap length newest
          in
          let here = placed.0 in
          omega (arith, long, here)

      cases : (frame : WrittenFrame) → (frame ≡ new) ⊎ Contains line_frames frame
          → IsFrameAt (block ∷ frames) (written + 1) lost frame
      cases frame (inl same) =
          let number : frame.number ≡ written = ap (λ (f : WrittenFrame). f.number) same in
          record {
            below = omega (arith, number);
            present = λ since. record {
              block = block;
              has = inl refl;
              at = at ∙ ap (λ (f : WrittenFrame). f.place) (sym same);
            };
          }
      cases frame (inr has) =
          let it = is.frames_are frame has in
          let below = it.below in
          record {
            below = omega (arith, below);
            present = λ since. let old = it.present since in record {
              block = old.block;
              has = inr old.has;
              at =
                  old.at;
            };
          }

  -- an end has lost its power: what was written before is lost
  pub tied-lost : (held : Option BlockView) (line_given : List BlockView) (line_frames : List WrittenFrame) (written
      lost : ℕ)
      (sent : List TaggedMessage) (given frames : List TaggedBlock)
      → IsTied plan held line_given line_frames written lost sent given frames
      → IsTied plan held line_given line_frames written written sent given []
  tied-lost held line_given line_frames written lost sent given frames is = record {
    given_are = is.given_are;
    placed = is.placed;
    held_is = is.held_is;
    frames_are = λ frame has. let below = (is.frames_are frame has).below in record {
      below = below;
      present = λ since. absurd (omega (arith, below, since));
    };
  }

  -- it is this end, which holds nothing then
  pub tied-started : (line_given : List BlockView) (line_frames : List WrittenFrame) (written lost : ℕ)
      (sent : List TaggedMessage) (given frames : List TaggedBlock) (held : Option BlockView)
      → IsTied plan held line_given line_frames written lost sent given frames
      → IsTied plan None line_given line_frames written lost [] given frames
  tied-started line_given line_frames written lost sent given frames held is = record {
    given_are = is.given_are;
    placed = is.placed;
    held_is = λ block holds. cc;
    frames_are = is.frames_are;
  }
