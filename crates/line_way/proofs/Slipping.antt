-- The slip that is told before a step is the one that the step makes.
use Rattle.std.proofs.Common.{◌≡◌, ◌≢◌, ◌<◌, ◌≤◌, ℕ, ◌+◌, ◌==◌, ◌&&◌, Bool, true, false, not, List, [], ◌∷◌, ◌++◌, length, Option, Some, None, if◌then◌else◌, nat_lt, slice_index, refl, sym, ap, subst, ◌∙◌, arith, append-nil, length-append}
use Rattle.std.specs.Option.{is_some}
use Rattle.std.proofs.lemmas.Bool.Decides.{nat_tests}
use Rattle.std.proofs.lemmas.List.{length-map, map-append}
use Rattle.block_codec.specs.Block.{BlockView}
use Rattle.gl_base.specs.declared.side.Side.{Side}
use Rattle.gl_base.specs.declared.side.Side.TheVariants.{Equipment, Host}
use Rattle.line_end.specs.declared.event.LineCause.{LineCause}
use Rattle.line_end.specs.declared.event.LineEvent.{LineEvent}
use Rattle.line_end.specs.declared.event.LineEvent.TheVariants as event
use Rattle.line_end.specs.declared.event.Phase.{Phase}
use Rattle.line_end.specs.declared.event.Phase.TheVariants.{Idle, AwaitEot, AwaitAck, AwaitLength, Gathering, Settling}
use Rattle.line_end.specs.Frames.{block_in, is_frame, sum_cause}
use Rattle.line_end.specs.State.{IsBegun, LineState}
use Rattle.line_end.specs.Step.{Outcome, is_due, line_row, line_step, quietly, refuses_at_last}
use Rattle.line_end.specs.Step as row
use Rattle.line_end.specs.Step.LineCall.{Take, Tick}
use Rattle.line_end.specs.Step.LineInput.{Deadline, Character}
use Rattle.line_end.proofs.Small.{step_facts}
use Rattle.line_order.specs.Acts.{called, is_slip, received, slips_here, slips_in_hand}
use Rattle.line_order.specs.Acts.Act.{Hand}
use Rattle.line_order.specs.Characters as order
use Rattle.line_order.specs.Line.{Line, View, WrittenFrame, last_of, seen_from, whole_frame}
use Rattle.line_order.proofs.Calls.{last-all}
use Rattle.line_way.specs.declared.character.Character as own
use Rattle.line_way.specs.declared.slip.Slip.{Slip}
use Rattle.line_way.specs.Kept.{IsSlipOf, bytes_with, completes_block, gathered_with_next, given_of, is_complete, is_whole, makes_slip, makes_slip_in, direction_to}
use Rattle.line_way.specs.Slip.{IsSlipOfStep, IsWaiting, first_frame, next_of, received_in_step, slips_in_step}
use Rattle.line_way.specs.Ways.{AreFrom, StandsFor, Way, Ways, bytes_of, character_of, characters_of}
use Rattle.line_way.proofs.Calls.{HasWays}
use Rattle.line_way.proofs.Marks.{whole-same}
use Rattle.line_way.proofs.Sources.{characters-append}

-- what is no block that arrives is no slip
quiet-event : (told : LineEvent) (frame : Option WrittenFrame) → ((block : BlockView) → told ≢ event.Arrived block) → is_slip told frame ≡ false
quiet-event event.Nothing frame none = refl
quiet-event event.Sent frame none = refl
quiet-event event.Failed frame none = refl
quiet-event (event.Refused cause) frame none = refl
quiet-event (event.Arrived block) frame none = absurd (none block refl)

-- after a deadline an end gathers nothing
late-phase : (phase : Phase) (s : LineState) (now : ℕ) → s.phase ≡ phase → (line_row phase Deadline s now).next.phase ≢ Gathering
late-phase Idle s now is = λ gathers. let both : Idle ≡ Gathering = sym is ∙ gathers in cc
late-phase AwaitEot s now is = fails (s.try_number == s.times.rty + 1)
  where
    fails : (b : Bool) → (if b then row.ends_with event.Failed s else row.asks (record s { try_number = s.try_number + 1 }) now).next.phase ≢ Gathering
    fails true = λ gathers. cc
    fails false = λ gathers. cc
late-phase AwaitAck s now is = fails (s.try_number == s.times.rty + 1)
  where
    fails : (b : Bool) → (if b then row.ends_with event.Failed s else row.asks (record s { try_number = s.try_number + 1 }) now).next.phase ≢ Gathering
    fails true = λ gathers. cc
    fails false = λ gathers. cc
late-phase AwaitLength s now is = λ gathers. cc
late-phase Gathering s now is = λ gathers. cc
late-phase Settling s now is = go s.cause
  where
    go : (cause : Option LineCause) → (refuses_at_last cause s).next.phase ≢ Gathering
    go None = λ gathers. let both : Settling ≡ Gathering = sym is ∙ gathers in cc
    go (Some cause) = λ gathers. cc

-- only where T1 has not run out an end goes on to gather behind its timer
pub gathers-on : (s : LineState) (now : ℕ) → (line_step s (Tick now)).next.phase ≡ Gathering
    → (s.phase ≡ Gathering) × (is_due s.deadline now ≡ false)
gathers-on s now = go (is_due s.deadline now)
  where
    go : (due : Bool) → (if due then line_row s.phase Deadline s now else quietly s).next.phase ≡ Gathering
        → (s.phase ≡ Gathering) × (due ≡ false)
    go true gathers = absurd (late-phase s.phase s now refl gathers)
    go false gathers = (gathers, refl)

-- the last character of a frame that goes on, with all that came
all-came : (all : List ℕ) → 10 ≤ slice_index all 0 → slice_index all 0 ≤ 254 → length all ≤ slice_index all 0 + 3
    → is_complete (slice_index all 0) (length all) ≡ not (nat_lt (length all) (slice_index all 0 + 3))
all-came all low high most = grind (arith, nat_tests)

-- a row of the table, with its answer
slip-row : (t f w : Bool) (a b c : Outcome) (block : BlockView) (frame : Option WrittenFrame) → a.event ≡ event.Nothing
    → b.event ≡ event.Arrived block → c.event ≡ event.Nothing → w ≡ is_some frame
    → is_slip (if t then a else (if f then b else c)).event frame ≡ ((not t && f) && not w)
slip-row true f w a b c block frame one two three same = ap (λ (told : LineEvent). is_slip told frame) one
slip-row false false w a b c block frame one two three same = ap (λ (told : LineEvent). is_slip told frame) three
slip-row false true w a b c block None one two three same = ap (λ (told : LineEvent). is_slip told None) two ∙ sym (ap not same)
slip-row false true w a b c block (Some frame) one two three same =
    ap (λ (told : LineEvent). is_slip told (Some frame)) two ∙ sym (ap not same)

first-same : (bytes : List ℕ) (byte : ℕ) → 0 < length bytes → slice_index (bytes ++ byte ∷ []) 0 ≡ slice_index bytes 0
first-same [] byte some = absurd (omega (arith, some))
first-same (b ∷ bytes) byte some = refl

came : (bytes : List ℕ) (byte : ℕ) → IsBegun bytes
    → is_complete (slice_index (bytes ++ byte ∷ []) 0) (length (bytes ++ byte ∷ []))
    ≡ not (nat_lt (length (bytes ++ byte ∷ [])) (slice_index (bytes ++ byte ∷ []) 0 + 3))
came bytes byte is =
    let same = first-same bytes byte is.some in
    all-came (bytes ++ byte ∷ []) (omega (arith, same, is.at_least_10)) (omega (arith, same, is.at_most_254))
    (omega (arith, same, is.missing, length-append bytes (byte ∷ [])))

-- while T1 has not run out
module _ (to from : Way) (now : ℕ) (view : View) (is : HasWays to from view) (gathering : view.here.state.phase ≡ Gathering) (timely : is_due view.here.state.deadline now ≡ false) where
  abbrev after : View
  after = called [] (Tick now) view

  quiet : line_step view.here.state (Tick now) ≡ quietly view.here.state
  quiet = ap (λ (due : Bool). if due then line_row view.here.state.phase Deadline view.here.state now else quietly view.here.state) timely

  state_is : after.here.state ≡ view.here.state
  state_is = ap (λ (o : Outcome). o.next) quiet

  gathered_is : after.here.gathered ≡ characters_of to.gathered
  gathered_is =
      let long : length (line_step view.here.state (Tick now)).next.gathered ≡ length view.here.gathered =
      ap (λ (o : Outcome). length o.next.gathered) quiet ∙ sym (ap length is.to_here.has.bytes)
      ∙ length-map view.here.gathered (λ (c : order.Character). c.byte)
      in
      ap (λ (cs : List order.Character). last_of (length (line_step view.here.state (Tick now)).next.gathered) cs) (append-nil view.here.gathered)
      ∙ ap (λ (n : ℕ). last_of n view.here.gathered) long ∙ last-all view.here.gathered ∙ sym is.to_here.gathered

  bytes_are : (c : own.Character) → bytes_with to.gathered c ≡ view.here.state.gathered ++ c.byte ∷ []
  bytes_are c =
      ap bytes_of (characters-append to.gathered (c ∷ []))
      ∙ map-append (λ (x : order.Character). x.byte) (characters_of to.gathered) (character_of c ∷ [])
      ∙ ap (λ (bytes : List ℕ). bytes ++ c.byte ∷ []) (ap bytes_of is.to_here.gathered ∙ is.to_here.has.bytes)

  in_row : (c : own.Character) (rest : List own.Character) → AreFrom view.there.frames (c ∷ rest)
      → is_slip (line_step view.here.state (Take c.byte now)).event (whole_frame (characters_of to.gathered ++ character_of c ∷ []) view.there.frames)
      ≡ makes_slip to.gathered (c ∷ rest)
  in_row c rest are =
      let all : List ℕ = view.here.state.gathered ++ c.byte ∷ [] in
      let frame : Option WrittenFrame = whole_frame (characters_of to.gathered ++ character_of c ∷ []) view.there.frames in
      let complete = came view.here.state.gathered c.byte (is.to_here.has.is_state.gathering gathering) in
      ap (λ (phase : Phase). is_slip (line_row phase (Character c.byte) view.here.state now).event frame) gathering
      ∙ slip-row (nat_lt (length all) (slice_index all 0 + 3)) (is_frame all) (is_whole to.gathered c)
      (row.gathers all view.here.state now) (row.arrives (block_in all) view.here.state)
      (row.settles (sum_cause all) view.here.state now) (block_in all) frame refl refl refl
      (whole-same view.there.frames view.written to.gathered c is.to_here.numbered is.to_here.gathered_from are.0)
      ∙ ap (λ (t : Bool). (t && is_frame all) && not (is_whole to.gathered c)) (sym complete)
      ∙ ap (λ (bytes : List ℕ). completes_block bytes && not (is_whole to.gathered c)) (sym (bytes_are c))

  timely-slip : slips_here (Hand now) after ≡ makes_slip to.gathered to.under_way
  timely-slip = go to.under_way refl
    where
      go : (cs : List own.Character) → to.under_way ≡ cs → slips_in_hand now view.there.under_way after ≡ makes_slip to.gathered to.under_way
      go [] none =
          ap (λ (way : List order.Character). slips_in_hand now way after) (sym is.to_here.under_way ∙ ap characters_of none)
          ∙ sym (ap (makes_slip to.gathered) none)
      go (c ∷ rest) next =
          let are : AreFrom view.there.frames (c ∷ rest) = subst (λ (cs : List own.Character). AreFrom view.there.frames cs) next is.to_here.under_way_from in
          ap (λ (way : List order.Character). slips_in_hand now way after) (sym is.to_here.under_way ∙ ap characters_of next)
          ∙ ap (λ (x : LineState). is_slip (line_step x (Take c.byte now)).event (whole_frame (after.here.gathered ++ character_of c ∷ []) view.there.frames)) state_is
          ∙ ap (λ (g : List order.Character). is_slip (line_step view.here.state (Take c.byte now)).event (whole_frame (g ++ character_of c ∷ []) view.there.frames)) gathered_is
          ∙ in_row c rest are ∙ sym (ap (makes_slip to.gathered) next)

  timely-received : received after.here (next_of view.there.under_way) ≡ characters_of (gathered_with_next to)
  timely-received =
      ap (λ (g : List order.Character). g ++ next_of view.there.under_way) gathered_is
      ∙ ap (λ (way : List order.Character). characters_of to.gathered ++ next_of way) (sym is.to_here.under_way)
      ∙ ap (λ (cs : List order.Character). characters_of to.gathered ++ cs) (next-of to.under_way)
      ∙ sym (characters-append to.gathered (given_of true to.under_way))
    where
      next-of : (cs : List own.Character) → next_of (characters_of cs) ≡ characters_of (given_of true cs)
      next-of [] = refl
      next-of (c ∷ cs) = refl

-- nothing arrives where the end gathers nothing behind its timer
none-slips : (now : ℕ) (view : View) → ((line_step view.here.state (Tick now)).next.phase ≢ Gathering)
    → slips_here (Hand now) (called [] (Tick now) view) ≡ false
none-slips now view other = go view.there.under_way
  where
    after : View
    after = called [] (Tick now) view

    go : (way : List order.Character) → slips_in_hand now way (called [] (Tick now) view) ≡ false
    go [] = refl
    go (c ∷ rest) =
        quiet-event (line_step after.here.state (Take c.byte now)).event
        (whole_frame (received after.here (c ∷ [])) view.there.frames)
        (λ block told. other ((step_facts after.here.state (Take c.byte now)).arrived block told).0)

pub record IsSlipping (to : Way) (now : ℕ) (phase : Phase) (is_late : Bool) (view : View) : Type 0 where
  pub same : slips_here (Hand now) (called [] (Tick now) view) ≡ makes_slip_in phase is_late to
  pub characters :
      makes_slip_in phase is_late to ≡ true
      → received (called [] (Tick now) view).here (next_of view.there.under_way) ≡ characters_of (gathered_with_next to)

slipping : (to from : Way) (now : ℕ) (phase : Phase) (is_late : Bool) (view : View) → HasWays to from view → view.here.state.phase ≡ phase
    → (phase ≡ Gathering → is_due view.here.state.deadline now ≡ is_late) → IsSlipping to now phase is_late view
slipping to from now phase is_late view is phase_is late_is = go phase is_late phase_is late_is
  where
    none : (phase : Phase) (is_late : Bool) → view.here.state.phase ≡ phase → phase ≢ Gathering
        → slips_here (Hand now) (called [] (Tick now) view) ≡ false
    none phase is_late at other =
        none-slips now view (λ gathers. other (sym at ∙ (gathers-on view.here.state now gathers).0))

    go : (phase : Phase) (is_late : Bool) → view.here.state.phase ≡ phase
        → (phase ≡ Gathering → is_due view.here.state.deadline now ≡ is_late) → IsSlipping to now phase is_late view
    go Gathering false at late = record {
      same = timely-slip to from now view is at (late refl);
      characters = λ _. timely-received to from now view is at (late refl);
    }
    go Gathering true at late = record {
      same =
          none-slips now view (λ gathers.
          let both : true ≡ false = sym (late refl) ∙ (gathers-on view.here.state now gathers).1 in cc);
      characters = λ it. cc;
    }
    go Idle is_late at late = record { same = none Idle is_late at (λ other. cc); characters = λ it. cc }
    go AwaitEot is_late at late = record { same = none AwaitEot is_late at (λ other. cc); characters = λ it. cc }
    go AwaitAck is_late at late = record { same = none AwaitAck is_late at (λ other. cc); characters = λ it. cc }
    go AwaitLength is_late at late = record { same = none AwaitLength is_late at (λ other. cc); characters = λ it. cc }
    go Settling is_late at late = record { same = none Settling is_late at (λ other. cc); characters = λ it. cc }

-- the answer
slip-answer :
    (side : Side) (to : Way) (line : Line) (now : ℕ) (phase : Phase) (is_late : Bool) (result : Option Slip)
    → slips_in_step side now line ≡ makes_slip_in phase is_late to
    → (makes_slip_in phase is_late to ≡ true → received_in_step side now line ≡ characters_of (gathered_with_next to))
    → IsSlipOf (makes_slip_in phase is_late to) (gathered_with_next to) result → IsSlipOfStep side now line result
slip-answer side to line now phase is_late None same are none = same ∙ none
slip-answer side to line now phase is_late (Some slip) same are some =
    let whole = are some.0 in
    (same ∙ some.0, some.1 ∙ sym (ap first_frame whole), some.2 ∙ sym (ap bytes_of whole))

pub slip-stands :
    (side : Side) (ways : Ways) (line : Line) (now : ℕ) (phase : Phase) (is_late : Bool) (result : Option Slip) → StandsFor ways line
    → IsWaiting line side now phase is_late
    → IsSlipOf (makes_slip_in phase is_late (direction_to side ways)) (gathered_with_next (direction_to side ways)) result
    → IsSlipOfStep side now line result
slip-stands Equipment ways line now phase is_late result stands waits told =
    let is = slipping ways.to_equipment ways.to_host now phase is_late (seen_from Equipment line)
    (record { to_here = stands.to_equipment; to_there = stands.to_host }) waits.phase_is waits.late
    in
    slip-answer Equipment ways.to_equipment line now phase is_late result is.same is.characters told
slip-stands Host ways line now phase is_late result stands waits told =
    let is = slipping ways.to_host ways.to_equipment now phase is_late (seen_from Host line)
    (record { to_here = stands.to_host; to_there = stands.to_equipment }) waits.phase_is waits.late
    in
    slip-answer Host ways.to_host line now phase is_late result is.same is.characters told
