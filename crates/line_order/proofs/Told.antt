-- Up to the first slip what has arrived is what the ends have told.
use Rattle.std.specs.Prelude.{◌≡◌, ℕ, false, List, [], ◌∷◌, map, Option, Some, None, refl}
use Rattle.std.proofs.Common.{ap, ◌∙◌}
use Rattle.gl_base.specs.declared.side.Side.{Side}
use Rattle.gl_base.specs.declared.side.Side.TheVariants.{Equipment, Host}
use Rattle.line_end.specs.declared.event.LineEvent.{LineEvent}
use Rattle.line_end.specs.declared.event.LineEvent.TheVariants.{Nothing, Arrived, Sent, Failed, Refused}
use Rattle.line_end.specs.declared.plan.Times.{Times}
use Rattle.line_end.specs.Runs.{taken_by}
use Rattle.line_end.specs.Step.{line_step}
use Rattle.line_end.specs.Step.LineCall.{Take}
use Rattle.line_order.specs.Acts.{Act, Deed, HasNoSlip, act_here, arrived_after, blocks_told, event_here, event_in_hand, handed, is_slip, line_after, received, slips_here, slips_in_hand, told_after}
use Rattle.line_order.specs.Acts.Act.{Hand, Lose, Change, Add, Call, PowerLoss}
use Rattle.line_order.specs.Characters.{Character, noise}
use Rattle.line_order.specs.Laws.{TellsArrivals, blocks_of}
use Rattle.line_order.specs.Line.{Arrival, Line, View, WrittenFrame, new_line, seen_from, whole_frame}

-- what arrives is told, where it is no slip
pub told-arrived :
    (event : LineEvent) (frame : Option WrittenFrame) (lost : ℕ) (arrived : List Arrival) → is_slip event frame ≡ false
    → blocks_of (arrived_after lost event frame arrived) ≡ told_after event (blocks_of arrived)
told-arrived (Arrived block) (Some frame) lost arrived slips = refl
told-arrived (Arrived block) None lost arrived slips = cc
told-arrived Nothing frame lost arrived slips = refl
told-arrived Sent frame lost arrived slips = refl
told-arrived Failed frame lost arrived slips = refl
told-arrived (Refused cause) frame lost arrived slips = refl

-- an act at the end here, and none there
abbrev pub TellsHere : Act → View → Type 0
TellsHere act view =
    (blocks_of (act_here act view).here.arrived ≡ told_after (event_here act view) (blocks_of view.here.arrived))
    × ((act_here act view).there.arrived ≡ view.there.arrived)

pub told-act : (act : Act) (view : View) → slips_here act view ≡ false → TellsHere act view
told-act (Hand now) view slips = (go view.there.under_way slips, there view.there.under_way)
  where
    go : (way : List Character) → slips_in_hand now way view ≡ false
        → blocks_of (handed now way view).here.arrived
        ≡ told_after (event_in_hand now way view.here.state) (blocks_of view.here.arrived)
    go [] none = refl
    go (c ∷ rest) none =
        told-arrived (line_step view.here.state (Take c.byte now)).event
        (whole_frame (received view.here (c ∷ [])) view.there.frames) view.lost view.here.arrived none

    there : (way : List Character) → (handed now way view).there.arrived ≡ view.there.arrived
    there [] = refl
    there (c ∷ rest) = refl
told-act Lose view slips = (refl, refl)
told-act (Change place byte) view slips = (refl, refl)
told-act (Add byte) view slips = (refl, refl)
told-act (Call call) view slips = (
  told-arrived (line_step view.here.state call).event
      (whole_frame (received view.here (map noise (taken_by call))) view.there.frames) view.lost view.here.arrived slips,
  refl,
)
told-act PowerLoss view slips = (refl, refl)

-- both ends
abbrev pub AreTold : Line → Line → List Deed → Type 0
AreTold line start deeds =
    (blocks_of line.equipment.arrived ≡ blocks_told Equipment start deeds)
    × (blocks_of line.host.arrived ≡ blocks_told Host start deeds)

pub told-deed :
    (side : Side) (act : Act) (start : Line) (before : List Deed)
    → slips_here act (seen_from side (line_after start before)) ≡ false
    → AreTold (line_after start before) start before
    → AreTold (line_after start (record { side = side; act = act } ∷ before)) start (record { side = side; act = act } ∷ before)
told-deed Equipment act start before slips told =
    let view = seen_from Equipment (line_after start before) in
    let both = told-act act view slips in
    (both.0 ∙ ap (told_after (event_here act view)) told.0, ap blocks_of both.1 ∙ told.1)
told-deed Host act start before slips told =
    let view = seen_from Host (line_after start before) in
    let both = told-act act view slips in
    (ap blocks_of both.1 ∙ told.0, both.0 ∙ ap (told_after (event_here act view)) told.1)

pub told-run : (equipment host : Times) (deeds : List Deed) → HasNoSlip (new_line equipment host) deeds
    → AreTold (line_after (new_line equipment host) deeds) (new_line equipment host) deeds
told-run equipment host [] none = (refl, refl)
told-run equipment host (deed ∷ before) none =
    told-deed deed.side deed.act (new_line equipment host) before none.0 (told-run equipment host before none.1)

pub tells : TellsArrivals
tells equipment host deeds none = told-run equipment host deeds none
