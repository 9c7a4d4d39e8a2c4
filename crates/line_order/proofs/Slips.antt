-- A block that arrives is a slip, or is put in front of those that have arrived.
use Rattle.std.specs.Prelude.{◌≡◌, ◌≢◌, ◌||◌, ℕ, Bool, true, false, List, [], ◌∷◌, Option, Some, None, refl}
use Rattle.std.proofs.Common.{sym, ap, ◌∙◌, subst}
use Rattle.block_codec.specs.Block.{BlockView}
use Rattle.line_end.specs.declared.event.LineEvent.{LineEvent}
use Rattle.line_end.specs.declared.event.LineEvent.TheVariants.{Nothing, Arrived, Sent, Failed, Refused}
use Rattle.line_end.specs.Step.{LineCall, line_step}
use Rattle.line_order.specs.Acts.{Deed, HasNoSlip, arrived_after, is_slip, line_after, received, slips, slips_in_call}
use Rattle.line_order.specs.Characters.{Character}
use Rattle.line_order.specs.Line.{Arrival, Line, View, WrittenFrame, are_all_of, whole_frame}
use Rattle.line_order.specs.Slips.{ArrivalsAreJudged, AreWhole, IsPutIn, IsSlip}
use Rattle.line_order.proofs.Flows.{are_framed_from-same, are_framed_from-self}
use Rattle.line_order.proofs.Given.{found, not_found}

-- the frame that is found is one
pub found-whole :
    (characters : List Character) (frames : List WrittenFrame) (frame : WrittenFrame)
    → whole_frame characters frames ≡ Some frame → AreWhole characters frames frame
found-whole characters frames frame is =
    let it = found (are_all_of characters) frames frame is in
    record { written = it.0; same = are_framed_from-same frame.number 0 frame.bytes characters it.1 }

-- and where none is found, there is none
pub not_found-whole :
    (characters : List Character) (frames : List WrittenFrame) (frame : WrittenFrame)
    → whole_frame characters frames ≡ None → AreWhole characters frames frame → ⊥
not_found-whole characters frames frame is whole =
    let fails = not_found (are_all_of characters) frames frame is whole.written in
    let passes : are_all_of characters frame ≡ true =
    subst (λ (xs : List Character). are_all_of xs frame ≡ true) (sym whole.same) (are_framed_from-self frame.number 0 frame.bytes)
    in
    cc

pub slip-from :
    (taken : List Character) (call : LineCall) (view : View) → slips_in_call taken call view ≡ true → IsSlip taken call view
slip-from taken call view =
    go (line_step view.here.state call).event (whole_frame (received view.here taken) view.there.frames) refl refl
  where
    go : (event : LineEvent) (frame : Option WrittenFrame) → (line_step view.here.state call).event ≡ event
        → whole_frame (received view.here taken) view.there.frames ≡ frame → is_slip event frame ≡ true
        → IsSlip taken call view
    go (Arrived block) None told is slips = record {
      block = block;
      arrives = told;
      foreign = λ frame. not_found-whole (received view.here taken) view.there.frames frame is;
    }
    go (Arrived block) (Some frame) told is slips = cc
    go Nothing frame told is slips = cc
    go Sent frame told is slips = cc
    go Failed frame told is slips = cc
    go (Refused cause) frame told is slips = cc

pub slip-to :
    (taken : List Character) (call : LineCall) (view : View) → IsSlip taken call view → slips_in_call taken call view ≡ true
slip-to taken call view slip = go (whole_frame (received view.here taken) view.there.frames) refl
  where
    go : (frame : Option WrittenFrame) → whole_frame (received view.here taken) view.there.frames ≡ frame
        → slips_in_call taken call view ≡ true
    go None is =
        ap (λ (event : LineEvent). is_slip event (whole_frame (received view.here taken) view.there.frames)) slip.arrives
        ∙ ap (is_slip (Arrived slip.block)) is
    go (Some frame) is =
        absurd (slip.foreign frame (found-whole (received view.here taken) view.there.frames frame is))

pub put_in :
    (taken : List Character) (call : LineCall) (view : View) (block : BlockView)
    → (line_step view.here.state call).event ≡ Arrived block → slips_in_call taken call view ≡ false
    → IsPutIn block taken call view
put_in taken call view block told slips = go (whole_frame (received view.here taken) view.there.frames) refl
  where
    noted : LineEvent → Option WrittenFrame → List Arrival
    noted event frame = arrived_after view.lost event frame view.here.arrived

    judged : is_slip (Arrived block) (whole_frame (received view.here taken) view.there.frames) ≡ false
    judged =
        ap (λ (event : LineEvent). is_slip event (whole_frame (received view.here taken) view.there.frames)) (sym told)
        ∙ slips

    go : (frame : Option WrittenFrame) → whole_frame (received view.here taken) view.there.frames ≡ frame
        → IsPutIn block taken call view
    go None is =
        let other : is_slip (Arrived block) None ≡ false = ap (is_slip (Arrived block)) (sym is) ∙ judged in
        cc
    go (Some frame) is = record {
      frame = frame;
      whole = found-whole (received view.here taken) view.there.frames frame is;
      arrived =
          ap (λ (event : LineEvent). noted event (whole_frame (received view.here taken) view.there.frames)) told
          ∙ ap (λ (it : Option WrittenFrame). noted (Arrived block) it) is;
    }

pub quiet :
    (event : LineEvent) (frame : Option WrittenFrame) (lost : ℕ) (arrived : List Arrival)
    → ((block : BlockView) → event ≢ Arrived block) → arrived_after lost event frame arrived ≡ arrived
quiet (Arrived block) frame lost arrived other = absurd (other block refl)
quiet Nothing frame lost arrived other = refl
quiet Sent frame lost arrived other = refl
quiet Failed frame lost arrived other = refl
quiet (Refused cause) frame lost arrived other = refl

pub judged : ArrivalsAreJudged
judged taken call view = record {
  slip = (slip-from taken call view, slip-to taken call view);
  whole = put_in taken call view;
  none = quiet (line_step view.here.state call).event _ view.lost view.here.arrived;
}

-- whether one of the deeds was a slip
abbrev pub has_slip : Line → List Deed → Bool
has_slip start [] = false
has_slip start (deed ∷ before) = slips (line_after start before) deed || has_slip start before

pub neither : (a b : Bool) → (a || b) ≡ false → (a ≡ false) × (b ≡ false)
neither true b none = cc
neither false true none = cc
neither false false none = (refl, refl)

pub no_slip : (start : Line) (deeds : List Deed) → has_slip start deeds ≡ false → HasNoSlip start deeds
no_slip start [] none = tt
no_slip start (deed ∷ before) none =
    let both = neither (slips (line_after start before) deed) (has_slip start before) none in
    (both.0, no_slip start before both.1)
