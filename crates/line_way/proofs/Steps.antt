-- After a step the directions stand for the line after its deeds.
use Rattle.std.proofs.Common.{◌≡◌, ◌≢◌, ◌≤◌, ◌⊎◌, ℕ, Bool, true, false, List, [], ◌∷◌, ◌++◌, length, map, Some, refl, sym, ap, subst, ◌∙◌, arith, inl, inr, append-nil, append_assoc, length-append}
use Rattle.std.proofs.lemmas.List.{map-append}
use Rattle.block_codec.specs.Frame.{frame_bytes}
use Rattle.gl_base.specs.declared.side.Side.{Side}
use Rattle.gl_base.specs.declared.side.Side.TheVariants.{Equipment, Host}
use Rattle.line_end.specs.declared.event.Phase.{Phase}
use Rattle.line_end.specs.declared.event.Phase.TheVariants.{Idle, AwaitEot, AwaitAck, AwaitLength, Gathering, Settling}
use Rattle.line_end.specs.Runs.{CanCall, taken_by}
use Rattle.line_end.specs.State.{IsLineState, LineState}
use Rattle.line_end.specs.Step.{enq, LineCall, Outcome, line_step}
use Rattle.line_end.specs.Step.LineCall.{Send, Resume, Cancel, Take, Tick}
use Rattle.line_end.proofs.Arrivals.{pending, pending_in}
use Rattle.line_end.proofs.Kept.{kept}
use Rattle.line_order.specs.Acts.{IsRun, act_here, called, handed, line_after, number_after, with_way}
use Rattle.line_order.specs.Acts.Act.{Hand, Call}
use Rattle.line_order.specs.Characters as order
use Rattle.line_order.specs.Line.{Line, View, seen_by, seen_from}
use Rattle.line_way.specs.declared.character.Character.{Character}
use Rattle.line_way.specs.Kept.{control, count_after, still_gathered, given_of, rest_of, way_after, ways_after, written_as}
use Rattle.line_way.specs.Step.{AreDecisions, DoesStep, IsDecision, step_deeds, written_here, written_in, written_in_hand}
use Rattle.line_way.specs.Ways.{AreFrom, Way, Ways, bytes_of, characters_of, character_of}
use Rattle.line_way.proofs.Calls.{HasWays, call-ways, call_written, goes-on}
use Rattle.line_way.proofs.Stepping.{IsDecided, IsTaken, decided, few-written, frame-written, one-written, taken, ticked}

abbrev pub way_with : List Character → List Character → Way
way_with under_way gathered = record { under_way = under_way; gathered = gathered }

-- the directions after some calls of a step, which have written this; an idle end has not written a frame in it
pub record AreStepped (to from : Way) (count : ℕ) (gives : Bool) (written : List ℕ) (view : View) : Type 0 where
  pub ways :
      HasWays (way_after gives view.here.state.phase to)
      (way_with (from.under_way ++ written_as count written) from.gathered) view
  pub count_is : count_after count written ≡ view.written
  pub room : view.here.state.phase ≡ Idle → length written ≤ 2

dropped : (phase : Phase) (cs : List Character) → phase ≢ Gathering → still_gathered phase cs ≡ []
dropped Idle cs other = refl
dropped AwaitEot cs other = refl
dropped AwaitAck cs other = refl
dropped AwaitLength cs other = refl
dropped Settling cs other = refl
dropped Gathering cs other = absurd (other refl)

-- the directions are the same, told otherwise
ways-same : (to to' from from' : Way) (view : View) → to ≡ to' → from ≡ from' → HasWays to from view → HasWays to' from' view
ways-same to to' from from' view one two is =
    subst (λ (t : Way). HasWays t from' view) one (subst (λ (f : Way). HasWays to f view) two is)

with-gathered : (under_way gathered gathered' : List Character) → gathered ≡ gathered' → way_with under_way gathered ≡ way_with under_way gathered'
with-gathered under_way gathered gathered' same = ap (way_with under_way) same

with-under_way : (under_way under_way' gathered : List Character) → under_way ≡ under_way' → way_with under_way gathered ≡ way_with under_way' gathered
with-under_way under_way under_way' gathered same = ap (λ (way : List Character). way_with way gathered) same

-- few characters, and one more call's
more-controls : (count number : ℕ) (way : List Character) (written more : List ℕ) → length written ≤ 2 → length more ≤ 1
    → ((way ++ written_as count written) ++ call_written number more ≡ way ++ written_as count (written ++ more))
    × (count_after count (written ++ more) ≡ count_after count written) × (number_after number more ≡ number)
more-controls count number way written more few one =
    let first = few-written count written (omega (arith, few)) in
    let all = few-written count (written ++ more) (omega (arith, few, one, length-append written more)) in
    let last = one-written number more one in (
      ap (λ (cs : List Character). (way ++ cs) ++ call_written number more) first.0
          ∙ ap (λ (cs : List Character). (way ++ map control written) ++ cs) last.0
          ∙ append_assoc way (map control written) (map control more)
          ∙ ap (λ (cs : List Character). way ++ cs) (sym (map-append control written more) ∙ sym all.0),
      all.1 ∙ sym first.1,
      last.1,
    )

-- and takes no character
taken_none : (call : LineCall) → IsDecision call → [] ≡ taken_by call
taken_none (Send block now) is = refl
taken_none (Resume now) is = refl
taken_none Cancel is = refl
taken_none (Take byte now) is = absurd is
taken_none (Tick now) is = absurd is

-- a decided call
decided-stepped :
    (to from : Way) (count : ℕ) (gives : Bool) (written : List ℕ) (call : LineCall) (view : View) → IsDecision call
    → CanCall view.here.state call → AreStepped to from count gives written view
    → AreStepped to from count gives (written ++ (line_step view.here.state call).written) (called [] call view)
decided-stepped to from count gives written call view is can are = record {
  ways =
      ways-same _ (way_after gives next to) _ (way_with (from.under_way ++ written_as count (written ++ more)) from.gathered)
      (called [] call view)
      (with-gathered (rest_of gives to.under_way) _ (still_gathered next (to.gathered ++ given_of gives to.under_way))
      (dropped next _ facts.other ∙ sym (dropped next _ facts.other)))
      (with-under_way _ _ from.gathered controls.0)
      (call-ways [] call (way_after gives view.here.state.phase to)
      (way_with (from.under_way ++ written_as count written) from.gathered) view (taken_none call is) tt can are.ways);
  count_is = controls.1 ∙ are.count_is ∙ sym controls.2;
  room = λ idle.
      omega (arith, few, length-append written more, ap length (facts.still idle));
}
  where
    more : List ℕ
    more = (line_step view.here.state call).written

    next : Phase
    next = (line_step view.here.state call).next.phase

    facts : IsDecided view.here.state (line_step view.here.state call)
    facts = decided view.here.state call is can

    few : length written ≤ 2
    few = are.room facts.idle

    controls :
        ((from.under_way ++ written_as count written) ++ call_written view.written (line_step view.here.state call).written
        ≡ from.under_way ++ written_as count (written ++ (line_step view.here.state call).written))
        × (count_after count (written ++ (line_step view.here.state call).written) ≡ count_after count written)
        × (number_after view.written (line_step view.here.state call).written ≡ view.written)
    controls = more-controls count view.written from.under_way written (line_step view.here.state call).written few facts.few

-- the timer
rest-false : (cs : List Character) → rest_of false cs ≡ cs
rest-false [] = refl
rest-false (c ∷ cs) = refl

given-false : (cs : List Character) → given_of false cs ≡ []
given-false [] = refl
given-false (c ∷ cs) = refl

pub record IsTimed (to from : Way) (now : ℕ) (view : View) : Type 0 where
  pub ways :
      HasWays (way_with to.under_way (still_gathered (line_step view.here.state (Tick now)).next.phase (to.gathered ++ [])))
      (way_with (from.under_way ++ map control (line_step view.here.state (Tick now)).written) from.gathered)
      (called [] (Tick now) view)
  pub number : number_after view.written (line_step view.here.state (Tick now)).written ≡ view.written

timed : (to from : Way) (now : ℕ) (view : View) → HasWays to from view → IsTimed to from now view
timed to from now view is =
    let written : List ℕ = (line_step view.here.state (Tick now)).written in
    let one = one-written view.written (line_step view.here.state (Tick now)).written (ticked view.here.state now).few in
    record {
      ways =
          ways-same _ _ _ _ (called [] (Tick now) view) refl
          (with-under_way _ _ from.gathered (ap (λ (cs : List Character). from.under_way ++ cs) one.0))
          (call-ways [] (Tick now) to from view refl tt tt is);
      number = one.1;
    }

-- a step that gives no character
waited-stepped : (to from : Way) (count now : ℕ) (view : View) → count ≡ view.written → HasWays to from view
    → AreStepped to from count false (line_step view.here.state (Tick now)).written (called [] (Tick now) view)
waited-stepped to from count now view count_is is = record {
  ways =
      ways-same _ _ _ _ (called [] (Tick now) view)
      (with-under_way _ _ _ (sym (rest-false to.under_way))
      ∙ with-gathered _ _ _
      (ap (λ (cs : List Character). still_gathered (line_step view.here.state (Tick now)).next.phase (to.gathered ++ cs)) (sym (given-false to.under_way))))
      (with-under_way _ _ from.gathered (ap (λ (cs : List Character). from.under_way ++ cs) (sym few.0)))
      (timed to from now view is).ways;
  count_is = few.1 ∙ count_is ∙ sym (timed to from now view is).number;
  room = λ idle. omega (arith, (ticked view.here.state now).few);
}
  where
    few :
        (written_as count (line_step view.here.state (Tick now)).written ≡ map control (line_step view.here.state (Tick now)).written)
        × (count_after count (line_step view.here.state (Tick now)).written ≡ count)
    few = few-written count (line_step view.here.state (Tick now)).written (omega (arith, (ticked view.here.state now).few))

-- what a character makes an end write, behind what its timer did
pub record HandWrites (count number : ℕ) (way : List Character) (first more : List ℕ) (phase : Phase) : Type 0 where
  pub under_way : (way ++ map control first) ++ call_written number more ≡ way ++ written_as count (first ++ more)
  pub count_is : count_after count (first ++ more) ≡ number_after number more
  pub room : phase ≡ Idle → length (first ++ more) ≤ 2

hand-writes :
    (count number : ℕ) (way : List Character) (first : List ℕ) (s : LineState) (o : Outcome) → number ≡ count → length first ≤ 1
    → (s.phase ≡ AwaitEot → (first ≡ []) ⊎ (first ≡ enq ∷ [])) → IsTaken s o
    → HandWrites count number way first o.written o.next.phase
hand-writes count number way first s o same few asks (inl one) =
    let none = few-written count first (omega (arith, few)) in
    let controls = more-controls count number way first o.written (omega (arith, few)) one in
    record {
      under_way =
          ap (λ (cs : List Character). (way ++ cs) ++ call_written number o.written) (sym none.0) ∙ controls.0;
      count_is = controls.1 ∙ none.1 ∙ sym same ∙ sym controls.2;
      room = λ idle. omega (arith, few, one, length-append first o.written);
    }
hand-writes count number way first s o same few asks (inr frame) =
    let all = frame-written count first frame.block (asks frame.before) in
    record {
      under_way =
          ap (λ (bytes : List ℕ). (way ++ map control first) ++ call_written number bytes) frame.frame
          ∙ ap (λ (n : ℕ). (way ++ map control first) ++ call_written n (frame_bytes frame.block)) same
          ∙ append_assoc way (map control first) (call_written count (frame_bytes frame.block))
          ∙ ap (λ (cs : List Character). way ++ cs) (sym all.0)
          ∙ ap (λ (bytes : List ℕ). way ++ written_as count (first ++ bytes)) (sym frame.frame);
      count_is =
          ap (λ (bytes : List ℕ). count_after count (first ++ bytes)) frame.frame ∙ all.1
          ∙ ap (λ (n : ℕ). number_after n (frame_bytes frame.block)) (sym same)
          ∙ ap (λ (bytes : List ℕ). number_after number bytes) (sym frame.frame);
      room = λ idle. let both : AwaitAck ≡ Idle = sym frame.after ∙ idle in cc;
    }

-- what the timer left of a frame that the character goes on with
none-gathered : (s : LineState) (cs : List Character) → IsLineState s → bytes_of (characters_of cs) ≡ s.gathered → s.phase ≡ AwaitLength
    → cs ≡ []
none-gathered s [] is bytes at = refl
none-gathered s (c ∷ cs) is bytes at =
    let empty : s.gathered ≡ [] = is.ungathered (λ other. cc) in
    let all : bytes_of (characters_of (c ∷ cs)) ≡ [] = bytes ∙ empty in
    cc

timer-keeps :
    (s : LineState) (cs : List Character) (now : ℕ) → IsLineState s → bytes_of (characters_of cs) ≡ s.gathered
    → pending (line_step s (Tick now)).next ≡ Some (line_step s (Tick now)).next.gathered
    → still_gathered (line_step s (Tick now)).next.phase (cs ++ []) ≡ cs
timer-keeps s cs now is bytes pends = go next.phase refl
  where
    next : LineState
    next = (line_step s (Tick now)).next

    at : (phase : Phase) → next.phase ≡ phase → still_gathered next.phase (cs ++ []) ≡ still_gathered phase (cs ++ [])
    at phase here = ap (λ (p : Phase). still_gathered p (cs ++ [])) here

    none : (phase : Phase) → next.phase ≡ phase → pending_in phase next.gathered ≡ Some next.gathered
    none phase here = sym (ap (λ (p : Phase). pending_in p next.gathered) here) ∙ pends

    go : (phase : Phase) → next.phase ≡ phase → still_gathered next.phase (cs ++ []) ≡ cs
    go Idle here = let other = none Idle here in cc
    go AwaitEot here = let other = none AwaitEot here in cc
    go AwaitAck here = let other = none AwaitAck here in cc
    go Settling here = let other = none Settling here in cc
    go AwaitLength here = at AwaitLength here ∙ sym (none-gathered s cs is bytes ((ticked s now).in_length here))
    go Gathering here = at Gathering here ∙ append-nil cs

-- a step that gives a character
handed-stepped :
    (to from : Way) (count now : ℕ) (view : View) → count ≡ view.written → HasWays to from view
    → let after = called [] (Tick now) view in
    AreStepped to from count true
    ((line_step view.here.state (Tick now)).written ++ written_in_hand now view.there.under_way after.here.state)
    (handed now view.there.under_way after)
handed-stepped to from count now view count_is is = go to.under_way refl
  where
    after : View
    after = called [] (Tick now) view

    first : List ℕ
    first = (line_step view.here.state (Tick now)).written

    s : LineState
    s = (line_step view.here.state (Tick now)).next

    Done : List order.Character → Type 0
    Done next =
        AreStepped to from count true
        ((line_step view.here.state (Tick now)).written ++ written_in_hand now next (called [] (Tick now) view).here.state)
        (handed now next (called [] (Tick now) view))

    time : IsTimed to from now view
    time = timed to from now view is

    one_way : (gives : Bool) (phase : Phase) → List Character → Way
    one_way gives phase under_way = way_with (rest_of gives under_way) (still_gathered phase (to.gathered ++ given_of gives under_way))

    none : to.under_way ≡ [] → Done []
    none empty =
        let waits = waited-stepped to from count now view count_is is in
        let same : way_after false (line_step view.here.state (Tick now)).next.phase to ≡ way_after true (line_step view.here.state (Tick now)).next.phase to =
        ap (one_way false (line_step view.here.state (Tick now)).next.phase) empty
        ∙ sym (ap (one_way true (line_step view.here.state (Tick now)).next.phase) empty)
        in
        let more : (line_step view.here.state (Tick now)).written ≡ (line_step view.here.state (Tick now)).written ++ [] =
        sym (append-nil (line_step view.here.state (Tick now)).written)
        in
        subst (λ (written : List ℕ). AreStepped to from count true written (called [] (Tick now) view)) more
        (record {
          ways = ways-same _ _ _ _ (called [] (Tick now) view) same refl waits.ways;
          count_is = waits.count_is;
          room = waits.room;
        })

    some : (c : Character) (rest : List Character) → to.under_way ≡ c ∷ rest → Done (character_of c ∷ characters_of rest)
    some c rest is_next = record {
      ways = ways-same _ _ _ _ _ kept_is (with-under_way _ _ from.gathered writes.under_way) hand;
      count_is = writes.count_is;
      room = writes.room;
    }
      where
        o : Outcome
        o = line_step (line_step view.here.state (Tick now)).next (Take c.byte now)

        before : List Character
        before = still_gathered (line_step view.here.state (Tick now)).next.phase (to.gathered ++ [])

        passed : View
        passed = with_way (characters_of rest) (called [] (Tick now) view)

        from_all : AreFrom view.there.frames (c ∷ rest)
        from_all = subst (λ (cs : List Character). AreFrom view.there.frames cs) is_next time.ways.to_here.under_way_from

        left : HasWays (way_with rest before) (way_with (from.under_way ++ map control (line_step view.here.state (Tick now)).written) from.gathered) passed
        left = record {
          to_here = record {
            under_way = refl;
            gathered = time.ways.to_here.gathered;
            under_way_from = from_all.1;
            gathered_from = time.ways.to_here.gathered_from;
            numbered = time.ways.to_here.numbered;
            has = time.ways.to_here.has;
          };
          to_there = time.ways.to_there;
        }

        hand :
            HasWays (way_with rest (still_gathered o.next.phase (before ++ c ∷ [])))
            (way_with ((from.under_way ++ map control (line_step view.here.state (Tick now)).written) ++ call_written passed.written o.written) from.gathered)
            (called (character_of c ∷ []) (Take c.byte now) passed)
        hand =
            call-ways (c ∷ []) (Take c.byte now) (way_with rest before)
            (way_with (from.under_way ++ map control (line_step view.here.state (Tick now)).written) from.gathered) passed refl
            (from_all.0, tt) tt left

        writes : HandWrites count passed.written from.under_way (line_step view.here.state (Tick now)).written o.written o.next.phase
        writes =
            hand-writes count passed.written from.under_way (line_step view.here.state (Tick now)).written
            (line_step view.here.state (Tick now)).next o (time.number ∙ sym count_is) (ticked view.here.state now).few
            (ticked view.here.state now).asks (taken (line_step view.here.state (Tick now)).next c.byte now)

        is_state : IsLineState (line_step view.here.state (Tick now)).next
        is_state = time.ways.to_here.has.is_state

        bytes : bytes_of (characters_of to.gathered) ≡ view.here.state.gathered
        bytes = ap bytes_of is.to_here.gathered ∙ is.to_here.has.bytes

        kept_is : way_with rest (still_gathered o.next.phase (before ++ c ∷ [])) ≡ way_after true o.next.phase to
        kept_is =
            with-gathered rest _ _ (go o.next.phase refl)
            ∙ sym (ap (one_way true o.next.phase) is_next)
          where
            go : (phase : Phase) → o.next.phase ≡ phase
                → still_gathered o.next.phase (before ++ c ∷ []) ≡ still_gathered o.next.phase (to.gathered ++ c ∷ [])
            go Gathering here =
                let goes = goes-on (line_step view.here.state (Tick now)).next (Take c.byte now) is_state
                (kept (line_step view.here.state (Tick now)).next (Take c.byte now) is_state tt) here
                in
                ap (λ (cs : List Character). still_gathered o.next.phase (cs ++ c ∷ []))
                (timer-keeps view.here.state to.gathered now is.to_here.has.is_state bytes goes.0)
            go Idle here = dropped o.next.phase _ (λ other. cc) ∙ sym (dropped o.next.phase _ (λ other. cc))
            go AwaitEot here = dropped o.next.phase _ (λ other. cc) ∙ sym (dropped o.next.phase _ (λ other. cc))
            go AwaitAck here = dropped o.next.phase _ (λ other. cc) ∙ sym (dropped o.next.phase _ (λ other. cc))
            go AwaitLength here = dropped o.next.phase _ (λ other. cc) ∙ sym (dropped o.next.phase _ (λ other. cc))
            go Settling here = dropped o.next.phase _ (λ other. cc) ∙ sym (dropped o.next.phase _ (λ other. cc))

    go : (under_way : List Character) → to.under_way ≡ under_way → Done view.there.under_way
    go [] empty =
        subst Done (sym (ap characters_of empty) ∙ is.to_here.under_way) (none empty)
    go (c ∷ rest) next =
        subst Done (sym (ap characters_of next) ∙ is.to_here.under_way) (some c rest next)

-- the line as the end sees it
seen-again : (side : Side) (view : View) (P : View → Type 0) → P view → P (seen_from side (seen_by side view))
seen-again Equipment view P p = p
seen-again Host view P p = p

-- all of a step
stepped :
    (to from : Way) (count : ℕ) (side : Side) (line : Line) (now : ℕ) (gives : Bool) (calls : List LineCall) → AreDecisions calls
    → IsRun line (step_deeds side now gives calls) → count ≡ (seen_from side line).written → HasWays to from (seen_from side line)
    → AreStepped to from count gives (written_in line (step_deeds side now gives calls))
    (seen_from side (line_after line (step_deeds side now gives calls)))
stepped to from count side line now false [] are run count_is is =
    seen-again side (called [] (Tick now) (seen_from side line))
    (λ (v : View). AreStepped to from count false (line_step (seen_from side line).here.state (Tick now)).written v)
    (waited-stepped to from count now (seen_from side line) count_is is)
stepped to from count side line now true [] are run count_is is =
    seen-again side (called [] (Tick now) (seen_from side line))
    (λ (v : View). AreStepped to from count true ((line_step (seen_from side line).here.state (Tick now)).written ++ written_here (Hand now) v) (seen_from side (seen_by side (act_here (Hand now) v))))
    (seen-again side (act_here (Hand now) (called [] (Tick now) (seen_from side line)))
    (λ (v : View). AreStepped to from count true ((line_step (seen_from side line).here.state (Tick now)).written ++ written_here (Hand now) (called [] (Tick now) (seen_from side line))) v)
    (handed-stepped to from count now (seen_from side line) count_is is))
stepped to from count side line now gives (call ∷ before) are run count_is is =
    let earlier : Line = line_after line (step_deeds side now gives before) in
    let view : View = seen_from side earlier in
    let written : List ℕ = written_in line (step_deeds side now gives before) ++ (line_step view.here.state call).written in
    seen-again side (act_here (Call call) view) (λ (v : View). AreStepped to from count gives written v)
    (subst (λ (bytes : List ℕ). AreStepped to from count gives written (called (map order.noise bytes) call view)) (taken_none call are.0)
    (decided-stepped to from count gives (written_in line (step_deeds side now gives before)) call view are.0 run.0.0
    (stepped to from count side line now gives before are.1 run.1 count_is is)))

-- the directions that are left stand for the line
left-ways :
    (to from : Way) (count : ℕ) (gives : Bool) (phase : Phase) (written made : List ℕ) (view : View) → view.here.state.phase ≡ phase
    → made ≡ written → AreStepped to from count gives made view
    → HasWays (way_after gives phase to) (way_with (from.under_way ++ written_as count written) from.gathered) view
    × (count_after count written ≡ view.written)
left-ways to from count gives phase written made view phase_is written_is are = (
  ways-same _ _ _ _ view (ap (λ (p : Phase). way_after gives p to) phase_is)
      (with-under_way _ _ from.gathered (ap (λ (bytes : List ℕ). from.under_way ++ written_as count bytes) written_is)) are.ways,
  ap (count_after count) (sym written_is) ∙ are.count_is,
)

pub step-stands :
    (side : Side) (gives : Bool) (phase : Phase) (written : List ℕ) (ways : Ways)
    → DoesStep ways side gives phase written (ways_after side gives phase written ways)
step-stands Equipment gives phase written ways line now calls stands step =
    let all = stepped ways.to_equipment ways.to_host ways.written Equipment line now gives calls step.decided step.run stands.count
    (record { to_here = stands.to_equipment; to_there = stands.to_host })
    in
    let left = left-ways _ _ _ gives phase written _ _ step.phase_is step.written_is all in
    record { to_equipment = left.0.to_here; to_host = left.0.to_there; count = left.1 }
step-stands Host gives phase written ways line now calls stands step =
    let all = stepped ways.to_host ways.to_equipment ways.written Host line now gives calls step.decided step.run stands.count
    (record { to_here = stands.to_host; to_there = stands.to_equipment })
    in
    let left = left-ways _ _ _ gives phase written _ _ step.phase_is step.written_is all in
    record { to_equipment = left.0.to_there; to_host = left.0.to_here; count = left.1 }
