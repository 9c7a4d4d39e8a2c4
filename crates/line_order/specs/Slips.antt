-- What becomes of a block that arrives.
use Rattle.std.specs.Prelude.{◌≡◌, ◌≢◌, ◌↔◌, true, false, List, ◌∷◌}
use Rattle.std.specs.List.{Contains}
use Rattle.block_codec.specs.Block.{BlockView}
use Rattle.line_end.specs.declared.event.LineEvent.TheVariants.{Arrived}
use Rattle.line_end.specs.Step.{LineCall, line_step}
use Rattle.line_order.specs.Acts.{called, received, slips_in_call}
use Rattle.line_order.specs.Characters.{Character, framed_from}
use Rattle.line_order.specs.Line.{View, WrittenFrame}

-- the characters are one of these frames, whole: each stands at its place as it was written, and no other is there
-- (this profile)
pub record AreWhole (characters : List Character) (frames : List WrittenFrame) (frame : WrittenFrame) : Type 0 where
  pub written : Contains frames frame
  pub same : characters ≡ framed_from frame.number 0 frame.bytes

-- a block arrives at the end here, and its characters are no frame's of the other end (this profile)
pub record IsSlip (taken : List Character) (call : LineCall) (view : View) : Type 0 where
  pub block : BlockView
  pub arrives : (line_step view.here.state call).event ≡ Arrived block
  pub foreign : (frame : WrittenFrame) → AreWhole (received view.here taken) view.there.frames frame → ⊥

-- the block is put in front of those that have arrived, with its frame
pub record IsPutIn (block : BlockView) (taken : List Character) (call : LineCall) (view : View) : Type 0 where
  pub frame : WrittenFrame
  pub whole : AreWhole (received view.here taken) view.there.frames frame
  pub arrived :
      (called taken call view).here.arrived
      ≡ record { block = block; frame = frame; lost = view.lost } ∷ view.here.arrived

-- of a call that gives an end some characters: it is found to be a slip exactly where it is one; every other block that
-- arrives is put in; and nothing else is
pub record IsJudged (taken : List Character) (call : LineCall) (view : View) : Type 0 where
  pub slip : slips_in_call taken call view ≡ true ↔ IsSlip taken call view
  pub whole :
      (block : BlockView) → (line_step view.here.state call).event ≡ Arrived block
      → slips_in_call taken call view ≡ false → IsPutIn block taken call view
  pub none :
      ((block : BlockView) → (line_step view.here.state call).event ≢ Arrived block)
      → (called taken call view).here.arrived ≡ view.here.arrived

abbrev pub ArrivalsAreJudged : Type 0
ArrivalsAreJudged = (taken : List Character) (call : LineCall) (view : View) → IsJudged taken call view
