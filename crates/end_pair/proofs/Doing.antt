-- What an end does in a step, as moves on the line.
use Rattle.std.proofs.Common.{◌≡◌, ◌≢◌, ℕ, false, List, [], ◌∷◌, ◌++◌, Option, refl, sym, ap, subst, ◌∙◌, append_assoc, append-nil}
use Rattle.block_codec.specs.Block.{BlockView}
use Rattle.gl_base.specs.declared.side.Side.{Side}
use Rattle.gl_base.specs.declared.side.Side.TheVariants.{Equipment, Host}
use Rattle.line_end.specs.declared.event.LineEvent.{LineEvent}
use Rattle.line_end.specs.declared.event.LineEvent.TheVariants as told
use Rattle.line_end.specs.Runs.{CanCall, taken_by}
use Rattle.line_end.specs.State.{LineState}
use Rattle.line_end.specs.Step.{LineCall, line_step}
use Rattle.line_end.specs.Step.LineCall.{Cancel, Resume, Send, Take, Tick}
use Rattle.line_order.specs.Acts.{CanAct, Deed, GivesBlock, HasNoSlip, IsRun, act_here, handed, is_slip, line_after, line_after_deed, slips}
use Rattle.line_order.specs.Characters.{Character}
use Rattle.line_order.specs.Line.{Line, View, WrittenFrame, seen_by, seen_from}
use Rattle.line_order.proofs.Calls.{arrives}
use Rattle.line_way.specs.Step as way
use Rattle.line_way.specs.Step.{AreDecisions, step_deeds, written_here}
use Rattle.message_end.specs.Doings.{AreLawful, Doing, IsNoSend, line_of}
use Rattle.message_end.specs.Doings.Doing.{Calls, Does, Gives, Says}
use Rattle.message_end.specs.Ends.{AreDecidedAt, Input, taking_calls}
use Rattle.message_end.specs.Ends.Input.{Char, Command, Time}
use Rattle.message_end.specs.History.{written_in}
use Rattle.message_end.specs.LineCalls.{calls_in}
use Rattle.message_end.specs.Moves.{IsCallOnWay, IsNextByte, act_of_call}
use Rattle.message_end.specs.Plan.{EndPlan}
use Rattle.end_pair.specs.Steps.{gives}

-- ---- calls as deeds

abbrev pub call_deed : Side → LineCall → Deed
call_deed side call = record { side = side; act = act_of_call call }

abbrev pub deeds_with : Side → List LineCall → List Deed → List Deed
deeds_with side [] deeds = deeds
deeds_with side (call ∷ before) deeds = call_deed side call ∷ deeds_with side before deeds

abbrev pub deeds_by : Side → List LineCall → List Deed
deeds_by side calls = deeds_with side calls []

pub line-after :
    (side : Side) (calls : List LineCall) (start : Line) (deeds : List Deed)
    → line_after start (deeds_with side calls deeds) ≡ line_after (line_after start deeds) (deeds_by side calls)
line-after side [] start deeds = refl
line-after side (call ∷ before) start deeds =
    ap (λ (l : Line). line_after_deed l (call_deed side call)) (line-after side before start deeds)

pub no-slip :
    (side : Side) (calls : List LineCall) (start : Line) (deeds : List Deed)
    → HasNoSlip (line_after start deeds) (deeds_by side calls) → HasNoSlip start deeds
    → HasNoSlip start (deeds_with side calls deeds)
no-slip side [] start deeds some all = all
no-slip side (call ∷ before) start deeds some all = (
  ap (λ (l : Line). slips l (call_deed side call)) (line-after side before start deeds) ∙ some.0,
  no-slip side before start deeds some.1 all,
)

-- ---- the line as the end sees it

pub seen-again : (side : Side) (view : View) → seen_from side (seen_by side view) ≡ view
seen-again Equipment view = refl
seen-again Host view = refl

pub seen-after :
    (side : Side) (call : LineCall) (line : Line)
    → seen_from side (line_after_deed line (call_deed side call)) ≡ act_here (act_of_call call) (seen_from side line)
seen-after side call line = seen-again side (act_here (act_of_call call) (seen_from side line))

-- a call is one that can be made on the line as it is
abbrev pub AreOnWay : Side → Line → List LineCall → Type 0
AreOnWay side line [] = Unit {0}
AreOnWay side line (call ∷ before) =
    IsCallOnWay (seen_from side (line_after line (deeds_by side before))).there.under_way call
    × AreOnWay side line before

-- what a call makes of the state, and what it writes
state-in :
    (call : LineCall) (view : View) → IsCallOnWay view.there.under_way call
    → ((act_here (act_of_call call) view).here.state ≡ (line_step view.here.state call).next)
    × (written_here (act_of_call call) view ≡ (line_step view.here.state call).written)
state-in (Send block now) view on = (refl, refl)
state-in (Resume now) view on = (refl, refl)
state-in Cancel view on = (refl, refl)
state-in (Tick now) view on = (refl, refl)
state-in (Take byte now) view on = go view.there.under_way on
  where
    go : (under_way : List Character) → IsNextByte under_way byte
        → ((handed now under_way view).here.state ≡ (line_step view.here.state (Take byte now)).next)
        × (way.written_in_hand now under_way view.here.state ≡ (line_step view.here.state (Take byte now)).written)
    go [] none = absurd none
    go (character ∷ rest) same = (
      ap (λ (b : ℕ). (line_step view.here.state (Take b now)).next) (sym same),
      ap (λ (b : ℕ). (line_step view.here.state (Take b now)).written) (sym same),
    )

-- ---- a run of doings

-- what doings are on a line where the end has done others before
pub record AreDone (plan : EndPlan) (side : Side) (line : Line) (doings done : List Doing) : Type 0 where
  pub state : (seen_from side (line_after line (deeds_by side (calls_in done)))).here.state ≡ line_of plan
      (done ++ doings)
  pub run : IsRun line (deeds_by side (calls_in done))
  pub written :
      written_in plan (done ++ doings)
      ≡ written_in plan doings ++ way.written_in line (deeds_by side (calls_in done))

call-done :
    (plan : EndPlan) (side : Side) (line : Line) (doings before : List Doing) (call : LineCall)
    → AreDone plan side line doings before
    → CanCall (line_of plan (before ++ doings)) call → GivesBlock call
    → IsCallOnWay (seen_from side (line_after line (deeds_by side (calls_in before)))).there.under_way call
    → ((seen_from side (line_after line (deeds_by side (call ∷ calls_in before)))).here.state
    ≡ (line_step (line_of plan (before ++ doings)) call).next)
    × IsRun line (deeds_by side (call ∷ calls_in before))
    × (written_in plan (before ++ doings) ++ (line_step (line_of plan (before ++ doings)) call).written
    ≡ written_in plan doings ++ way.written_in line (deeds_by side (call ∷ calls_in before)))
call-done plan side line doings before call are can block on = (
  ap (λ (v : View). v.here.state) (seen-after side call here) ∙ facts.0
      ∙ ap (λ (s : LineState). (line_step s call).next) are.state,
  (able call can block, are.run),
  ap (λ (w : List ℕ). w ++ (line_step (line_of plan (before ++ doings)) call).written) are.written
      ∙ append_assoc (written_in plan doings) (way.written_in line (deeds_by side (calls_in before))) _
      ∙ ap (λ (w : List ℕ). written_in plan doings ++ (way.written_in line (deeds_by side (calls_in before)) ++ w))
      (sym (facts.1 ∙ ap (λ (s : LineState). (line_step s call).written) are.state)),
)
  where
    here : Line
    here = line_after line (deeds_by side (calls_in before))

    facts :
        ((act_here (act_of_call call) (seen_from side here)).here.state ≡ (line_step (seen_from side here).here.state
        call).next)
        × (written_here (act_of_call call) (seen_from side here) ≡ (line_step (seen_from side here).here.state
        call).written)
    facts = state-in call (seen_from side here) on

    able : (c : LineCall) → CanCall (line_of plan (before ++ doings)) c → GivesBlock c
        → CanAct (seen_from side here).here.state (act_of_call c)
    able (Send b now) can block = (subst (λ (s : LineState). CanCall s (Send b now)) (sym are.state) can, block)
    able (Resume now) can block = (subst (λ (s : LineState). CanCall s (Resume now)) (sym are.state) can, block)
    able Cancel can block = (subst (λ (s : LineState). CanCall s Cancel) (sym are.state) can, block)
    able (Tick now) can block = (can, block)
    able (Take byte now) can block = tt

no-block : (call : LineCall) → IsNoSend call → GivesBlock call
no-block (Send block now) none = absurd none
no-block (Resume now) none = tt
no-block Cancel none = tt
no-block (Take byte now) none = tt
no-block (Tick now) none = tt

pub are-done :
    (plan : EndPlan) (base : ℕ) (side : Side) (line : Line) (doings done : List Doing)
    → (seen_from side line).here.state ≡ line_of plan doings → AreLawful plan base (done ++ doings)
    → AreOnWay side line (calls_in done) → AreDone plan side line doings done
are-done plan base side line doings [] state lawful on =
    record { state = state; run = tt; written = sym (append-nil (written_in plan doings)) }
are-done plan base side line doings (Does own ∷ before) state lawful on =
    let are = are-done plan base side line doings before state lawful.1 on in
    record { state = are.state; run = are.run; written = are.written }
are-done plan base side line doings (Says what ∷ before) state lawful on =
    let are = are-done plan base side line doings before state lawful.1 on in
    record { state = are.state; run = are.run; written = are.written }
are-done plan base side line doings (Gives place number block now ∷ before) state lawful on =
    let are = are-done plan base side line doings before state lawful.1 on.1 in
    let one = call-done plan side line doings before (Send block now) are lawful.0.can lawful.0.in_block on.0 in
    record { state = one.0; run = one.1; written = one.2 }
are-done plan base side line doings (Calls call ∷ before) state lawful on =
    let are = are-done plan base side line doings before state lawful.1 on.1 in
    let one = call-done plan side line doings before call are lawful.0.can (no-block call lawful.0.no_send) on.0 in
    record { state = one.0; run = one.1; written = one.2 }

-- ---- the calls of a step

pub step-deeds :
    {C : Type 0} (side : Side) (input : Input C) (now : ℕ) (decided : List LineCall) → AreDecidedAt now decided
    → (deeds_by side (decided ++ taking_calls input now) ≡ step_deeds side now (gives input) decided)
    × AreDecisions decided
step-deeds side (Char byte) now [] are = (refl, tt)
step-deeds side Time now [] are = (refl, tt)
step-deeds side (Command command) now [] are = (refl, tt)
step-deeds side input now (Send block at ∷ before) are =
    let rest = step-deeds side input now before are.1 in
    (ap (λ (ds : List Deed). call_deed side (Send block at) ∷ ds) rest.0, (tt, rest.1))
step-deeds side input now (Resume at ∷ before) are =
    let rest = step-deeds side input now before are.1 in
    (ap (λ (ds : List Deed). call_deed side (Resume at) ∷ ds) rest.0, (tt, rest.1))
step-deeds side input now (Cancel ∷ before) are =
    let rest = step-deeds side input now before are.1 in
    (ap (λ (ds : List Deed). call_deed side Cancel ∷ ds) rest.0, (tt, rest.1))
step-deeds side input now (Take byte at ∷ before) are = absurd are.0
step-deeds side input now (Tick at ∷ before) are = absurd are.0

-- the character that is given is the next on its way
abbrev pub IsNext : {C : Type 0} → List Character → Input C → Type 0
IsNext under_way (Char byte) = IsNextByte under_way byte
IsNext under_way Time = Unit {0}
IsNext under_way (Command command) = Unit {0}

pub step-on-way :
    {C : Type 0} (side : Side) (input : Input C) (now : ℕ) (line : Line) (decided : List LineCall)
    → AreDecidedAt now decided
    → IsNext (seen_from side line).there.under_way input → AreOnWay side line (decided ++ taking_calls input now)
step-on-way side (Char byte) now line [] are next =
    (subst (λ (v : View). IsNextByte v.there.under_way byte) (sym (seen-after side (Tick now) line)) next, (tt, tt))
step-on-way side Time now line [] are next = (tt, tt)
step-on-way side (Command command) now line [] are next = (tt, tt)
step-on-way side input now line (Send block at ∷ before) are next =
    (tt, step-on-way side input now line before are.1 next)
step-on-way side input now line (Resume at ∷ before) are next = (tt, step-on-way side input now line before are.1 next)
step-on-way side input now line (Cancel ∷ before) are next = (tt, step-on-way side input now line before are.1 next)
step-on-way side input now line (Take byte at ∷ before) are next = absurd are.0
step-on-way side input now line (Tick at ∷ before) are next = absurd are.0

-- no block arrives but with a character
quiet : (event : LineEvent) (frame : Option WrittenFrame) → ((block : BlockView) → event ≢ told.Arrived block)
    → is_slip event frame ≡ false
quiet told.Nothing frame none = refl
quiet told.Sent frame none = refl
quiet told.Failed frame none = refl
quiet (told.Refused cause) frame none = refl
quiet (told.Arrived block) frame none = absurd (none block refl)

nothing-arrives : (s : LineState) (call : LineCall) (block : BlockView) → taken_by call ≡ []
    → (line_step s call).event ≢ told.Arrived block
nothing-arrives s call block none event =
    let arrival = arrives s call block event in
    let both : [] ≡ arrival.byte ∷ [] = sym none ∙ arrival.taken in cc

-- the step's character makes no slip
abbrev pub NoSlipIn : {C : Type 0} → Side → ℕ → Line → Input C → Type 0
NoSlipIn side now line (Char byte) = slips (line_after_deed line (call_deed side (Tick now)))
    (call_deed side (Take byte now)) ≡ false
NoSlipIn side now line Time = Unit {0}
NoSlipIn side now line (Command command) = Unit {0}

tick-quiet : (side : Side) (now : ℕ) (line : Line) → slips line (call_deed side (Tick now)) ≡ false
tick-quiet side now line =
    quiet (line_step (seen_from side line).here.state (Tick now)).event _
    (λ block. nothing-arrives (seen_from side line).here.state (Tick now) block refl)

-- the first ones of calls
pub on-way-first : (side : Side) (line : Line) (later calls : List LineCall) → AreOnWay side line (later ++ calls)
    → AreOnWay side line calls
on-way-first side line [] calls on = on
on-way-first side line (call ∷ later) calls on = on-way-first side line later calls on.1

pub no-slip-first : (side : Side) (line : Line) (later calls : List LineCall)
    → HasNoSlip line (deeds_by side (later ++ calls))
    → HasNoSlip line (deeds_by side calls)
no-slip-first side line [] calls quiet = quiet
no-slip-first side line (call ∷ later) calls quiet = no-slip-first side line later calls quiet.1

pub step-no-slip :
    {C : Type 0} (side : Side) (input : Input C) (now : ℕ) (line : Line) (decided : List LineCall)
    → AreDecidedAt now decided
    → NoSlipIn side now line input → HasNoSlip line (deeds_by side (decided ++ taking_calls input now))
step-no-slip side (Char byte) now line [] are none = (none, (tick-quiet side now line, tt))
step-no-slip side Time now line [] are none = (tick-quiet side now line, tt)
step-no-slip side (Command command) now line [] are none = (tick-quiet side now line, tt)
step-no-slip side input now line (Send block at ∷ before) are none =
    (refl, step-no-slip side input now line before are.1 none)
step-no-slip side input now line (Resume at ∷ before) are none =
    (refl, step-no-slip side input now line before are.1 none)
step-no-slip side input now line (Cancel ∷ before) are none = (refl, step-no-slip side input now line before are.1 none)
step-no-slip side input now line (Take byte at ∷ before) are none = absurd are.0
step-no-slip side input now line (Tick at ∷ before) are none = absurd are.0
