-- What one call of an end leaves of both directions.
use Rattle.std.proofs.Common.{◌≡◌, ◌≢◌, ◌<◌, ◌-◌, ℕ, ◌+◌, Bool, true, false, List, [], ◌∷◌, ◌++◌, length, map, Some, None, if◌then◌else◌, refl, sym, ap, subst, ◌∙◌, arith, length-append}
use Rattle.std.proofs.lemmas.List.{length-map}
use Rattle.block_codec.specs.Block.{BlockView}
use Rattle.line_end.specs.declared.event.Phase.{Phase}
use Rattle.line_end.specs.declared.event.Phase.TheVariants.{Idle, AwaitEot, AwaitAck, AwaitLength, Gathering, Settling}
use Rattle.line_end.specs.Runs.{CanCall, taken_by}
use Rattle.line_end.specs.State.{IsLineState, LineState}
use Rattle.line_end.specs.Step.{LineCall, line_step}
use Rattle.line_end.proofs.Arrivals.{Follows, follows, further, granted, nothing_pends, pending, pending_in}
use Rattle.line_end.proofs.Kept.{kept}
use Rattle.line_order.specs.Acts.{called, frames_after, number_after}
use Rattle.line_order.specs.Characters as order
use Rattle.line_order.specs.Characters.{writes_frame}
use Rattle.line_order.specs.Line.{View, WrittenFrame, last_of}
use Rattle.line_order.proofs.Calls.{Gathers, gathers, last-all, last-none}
use Rattle.line_order.proofs.Given.{contains-first}
use Rattle.line_order.proofs.Receiving.{kept-bytes}
use Rattle.line_way.specs.declared.character.Character.{Character}
use Rattle.line_way.specs.Kept.{control, framed_from, still_gathered}
use Rattle.line_way.specs.Ways.{AreFrom, AreNumbered, IsWay, Way, bytes_of, characters_of}
use Rattle.line_way.proofs.Sources.{characters-append, characters-controls, characters-framed, from-append, from-controls, from-framed, from-more, numbered-later, numbered-more}

-- the directions to the end here and to the other one are those of the view
pub record HasWays (to from : Way) (view : View) : Type 0 where
  pub to_here : IsWay to view.there.under_way view.here.gathered view.there.frames view.here.state view.written
  pub to_there : IsWay from view.here.under_way view.there.gathered view.here.frames view.there.state view.written

-- what one call has written
abbrev pub call_written : ℕ → List ℕ → List Character
call_written number written = if writes_frame written then framed_from number 0 written else map control written

-- of a frame that begins, or goes on, the end has all that came
pub pending-gathered : (s : LineState) (g : List ℕ) → IsLineState s → pending s ≡ Some g → s.gathered ≡ g
pending-gathered s g is pends = go s.phase refl
  where
    at : (phase : Phase) → s.phase ≡ phase → pending_in phase s.gathered ≡ Some g
    at phase here = sym (ap (λ (p : Phase). pending_in p s.gathered) here) ∙ pends

    go : (phase : Phase) → s.phase ≡ phase → s.gathered ≡ g
    go Idle here = let none = at Idle here in cc
    go AwaitEot here = let none = at AwaitEot here in cc
    go AwaitAck here = let none = at AwaitAck here in cc
    go Settling here = let none = at Settling here in cc
    go AwaitLength here =
        let empty = is.ungathered (λ other. cc) in
        let none = at AwaitLength here in
        cc
    go Gathering here = let all = at Gathering here in cc

-- what was gathered goes on with what was taken
pub goes-on : (s : LineState) (call : LineCall) → IsLineState s → IsLineState (line_step s call).next
    → (line_step s call).next.phase ≡ Gathering
    → (pending s ≡ Some s.gathered) × ((line_step s call).next.gathered ≡ s.gathered ++ taken_by call)
goes-on s call is is_next gathering = go (follows s call)
  where
    next : LineState
    next = (line_step s call).next

    all : pending next ≡ Some next.gathered
    all = ap (λ (p : Phase). pending_in p next.gathered) gathering

    go : Follows s call (line_step s call) → (pending s ≡ Some s.gathered) × (next.gathered ≡ s.gathered ++ taken_by call)
    go (nothing_pends none) = let both : None ≡ Some next.gathered = sym none ∙ all in cc
    go (granted written empty) =
        let none : [] ≡ next.gathered = cc in
        let some : 0 < length next.gathered = (is_next.gathering gathering).some in
        absurd (omega (arith, some, ap length none))
    go (further g was more) =
        let whole : next.gathered ≡ g ++ taken_by call = cc in
        let same : s.gathered ≡ g = pending-gathered s g is was in
        (was ∙ ap Some (sym same), whole ∙ ap (λ (front : List ℕ). front ++ taken_by call) (sym same))

-- what is kept of the characters are the last of them, as many as the end has gathered
pub kept-last :
    (s : LineState) (call : LineCall) (before given : List Character) → IsLineState s → IsLineState (line_step s call).next
    → bytes_of (characters_of before) ≡ s.gathered → bytes_of (characters_of given) ≡ taken_by call
    → characters_of (still_gathered (line_step s call).next.phase (before ++ given))
    ≡ last_of (length (line_step s call).next.gathered) (characters_of before ++ characters_of given)
kept-last s call before given is is_next bytes taken = go next.phase refl
  where
    next : LineState
    next = (line_step s call).next

    all : List order.Character
    all = characters_of before ++ characters_of given

    at : (phase : Phase) → next.phase ≡ phase
        → characters_of (still_gathered next.phase (before ++ given)) ≡ characters_of (still_gathered phase (before ++ given))
    at phase here = ap (λ (p : Phase). characters_of (still_gathered p (before ++ given))) here

    dropped : next.phase ≢ Gathering → [] ≡ last_of (length next.gathered) all
    dropped other =
        sym (ap (λ (g : List ℕ). last_of (length g) all) (is_next.ungathered other) ∙ last-none all)

    go : (phase : Phase) → next.phase ≡ phase
        → characters_of (still_gathered next.phase (before ++ given)) ≡ last_of (length next.gathered) all
    go Idle here = at Idle here ∙ dropped (λ other. cc)
    go AwaitEot here = at AwaitEot here ∙ dropped (λ other. cc)
    go AwaitAck here = at AwaitAck here ∙ dropped (λ other. cc)
    go AwaitLength here = at AwaitLength here ∙ dropped (λ other. cc)
    go Settling here = at Settling here ∙ dropped (λ other. cc)
    go Gathering here =
        let grown : next.gathered ≡ s.gathered ++ taken_by call = (goes-on s call is is_next here).1 in
        let one : length s.gathered ≡ length (characters_of before) =
        ap length (sym bytes) ∙ length-map (characters_of before) (λ (c : order.Character). c.byte)
        in
        let two : length (taken_by call) ≡ length (characters_of given) =
        ap length (sym taken) ∙ length-map (characters_of given) (λ (c : order.Character). c.byte)
        in
        let size : length all ≡ length next.gathered =
        omega (arith, one, two, length-append (characters_of before) (characters_of given), ap length grown, length-append s.gathered (taken_by call))
        in
        at Gathering here ∙ characters-append before given
        ∙ sym (ap (λ (n : ℕ). last_of n all) (sym size) ∙ last-all all)

-- the frames of the end, after a call has written this
frames-from : (number : ℕ) (given : List BlockView) (written : List ℕ) (frames : List WrittenFrame) (cs : List Character)
    → AreFrom frames cs → AreFrom (frames_after number given written frames) cs
frames-from number given written frames cs are = go (writes_frame written)
  where
    frame : WrittenFrame
    frame = record { number = number; place = length given - 1; bytes = written }

    go : (b : Bool) → AreFrom (if b then frame ∷ frames else frames) cs
    go true = from-more frame frames cs are
    go false = are

frames-written : (number : ℕ) (given : List BlockView) (written : List ℕ) (frames : List WrittenFrame)
    → AreFrom (frames_after number given written frames) (call_written number written)
frames-written number given written frames = go (writes_frame written)
  where
    frame : WrittenFrame
    frame = record { number = number; place = length given - 1; bytes = written }

    go : (b : Bool) → AreFrom (if b then frame ∷ frames else frames) (if b then framed_from number 0 written else map control written)
    go true = from-framed frame (frame ∷ frames) 0 written (contains-first frame frames) refl
    go false = from-controls frames written

frames-numbered : (number : ℕ) (given : List BlockView) (written : List ℕ) (frames : List WrittenFrame)
    → AreNumbered frames number → AreNumbered (frames_after number given written frames) (number_after number written)
frames-numbered number given written frames are = go (writes_frame written)
  where
    frame : WrittenFrame
    frame = record { number = number; place = length given - 1; bytes = written }

    go : (b : Bool) → AreNumbered (if b then frame ∷ frames else frames) (if b then number + 1 else number)
    go true = numbered-more frames number frame refl are
    go false = are

others-numbered : (number : ℕ) (written : List ℕ) (frames : List WrittenFrame) → AreNumbered frames number
    → AreNumbered frames (number_after number written)
others-numbered number written frames are = go (writes_frame written)
  where
    go : (b : Bool) → AreNumbered frames (if b then number + 1 else number)
    go true = numbered-later frames number are
    go false = are

characters-written : (number : ℕ) (written : List ℕ) → characters_of (call_written number written) ≡ order.written_as number written
characters-written number written = go (writes_frame written)
  where
    go : (b : Bool) → characters_of (if b then framed_from number 0 written else map control written)
        ≡ (if b then order.framed_from number 0 written else map order.control written)
    go true = characters-framed number 0 written
    go false = characters-controls written

-- a call that gives the end these characters
pub call-ways :
    (given : List Character) (call : LineCall) (to from : Way) (view : View) → bytes_of (characters_of given) ≡ taken_by call
    → AreFrom view.there.frames given → CanCall view.here.state call → HasWays to from view
    → HasWays
    (record { under_way = to.under_way; gathered = still_gathered (line_step view.here.state call).next.phase (to.gathered ++ given) })
    (record { under_way = from.under_way ++ call_written view.written (line_step view.here.state call).written; gathered = from.gathered })
    (called (characters_of given) call view)
call-ways given call to from view taken given_from can is = record {
  to_here = record {
    under_way = is.to_here.under_way;
    gathered = gathered;
    under_way_from = is.to_here.under_way_from;
    gathered_from = kept_from next.phase;
    numbered = others-numbered view.written written view.there.frames is.to_here.numbered;
    has = record { is_state = is_next; bytes = keeps };
  };
  to_there = record {
    under_way =
        characters-append from.under_way (call_written view.written written)
        ∙ ap (λ (way : List order.Character). way ++ characters_of (call_written view.written written)) is.to_there.under_way
        ∙ ap (λ (more : List order.Character). view.here.under_way ++ more) (characters-written view.written written);
    gathered = is.to_there.gathered;
    under_way_from =
        from-append (frames_after view.written view.here.given written view.here.frames) from.under_way
        (call_written view.written written)
        (frames-from view.written view.here.given written view.here.frames from.under_way is.to_there.under_way_from)
        (frames-written view.written view.here.given written view.here.frames);
    gathered_from = frames-from view.written view.here.given written view.here.frames from.gathered is.to_there.gathered_from;
    numbered = frames-numbered view.written view.here.given written view.here.frames is.to_there.numbered;
    has = is.to_there.has;
  };
}
  where
    s : LineState
    s = view.here.state

    next : LineState
    next = (line_step view.here.state call).next

    written : List ℕ
    written = (line_step view.here.state call).written

    is_state : IsLineState view.here.state
    is_state = is.to_here.has.is_state

    is_next : IsLineState (line_step view.here.state call).next
    is_next = kept view.here.state call is_state can

    before : bytes_of (characters_of to.gathered) ≡ view.here.state.gathered
    before = ap bytes_of is.to_here.gathered ∙ is.to_here.has.bytes

    last : List order.Character
    last = last_of (length (line_step view.here.state call).next.gathered) (view.here.gathered ++ characters_of given)

    gathered : characters_of (still_gathered (line_step view.here.state call).next.phase (to.gathered ++ given)) ≡ last
    gathered =
        kept-last view.here.state call to.gathered given is_state is_next before taken
        ∙ ap (λ (front : List order.Character). last_of (length (line_step view.here.state call).next.gathered) (front ++ characters_of given))
        is.to_here.gathered

    both : AreFrom view.there.frames (to.gathered ++ given)
    both = from-append view.there.frames to.gathered given is.to_here.gathered_from given_from

    kept_from : (phase : Phase) → AreFrom view.there.frames (still_gathered phase (to.gathered ++ given))
    kept_from Idle = tt
    kept_from AwaitEot = tt
    kept_from AwaitAck = tt
    kept_from AwaitLength = tt
    kept_from Settling = tt
    kept_from Gathering = both

    gathers_bytes : Gathers (bytes_of view.here.gathered) (bytes_of (characters_of given)) (line_step view.here.state call).next.gathered
    gathers_bytes =
        subst (λ (xs : List ℕ). Gathers (bytes_of view.here.gathered) xs (line_step view.here.state call).next.gathered) (sym taken)
        (subst (λ (xs : List ℕ). Gathers xs (taken_by call) (line_step view.here.state call).next.gathered)
        (sym is.to_here.has.bytes) (gathers view.here.state call is_state))

    keeps : bytes_of last ≡ (line_step view.here.state call).next.gathered
    keeps = (kept-bytes view.here.gathered (characters_of given) (line_step view.here.state call).next.gathered gathers_bytes).1
