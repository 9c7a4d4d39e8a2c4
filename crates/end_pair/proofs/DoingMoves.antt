-- What an end does, as moves: the laws hold of them, they are noted, and they have made the end and not the other one.
use Rattle.std.proofs.Common.{◌≡◌, ℕ, List, [], ◌∷◌, ◌++◌, refl, sym, ap, subst, ◌∙◌, append-nil}
use Rattle.gl_base.specs.declared.side.Side.{Side}
use Rattle.gl_base.specs.declared.side.Side.TheVariants.{Equipment, Host}
use Rattle.gl_base.specs.Side.{other_side}
use Rattle.line_end.specs.State.{LineState}
use Rattle.line_end.specs.Step.{LineCall}
use Rattle.line_end.specs.Step.LineCall.{Cancel, Resume, Send, Take, Tick}
use Rattle.line_order.specs.Acts.{Deed, act_here, handed, line_after}
use Rattle.line_order.specs.Characters.{Character}
use Rattle.line_order.specs.Line.{Line, View, new_line, seen_from}
use Rattle.message_end.specs.Doings.{AreLawful, Doing, IsLawful, line_of}
use Rattle.message_end.specs.Doings.Doing.{Calls, Does, Gives, Says}
use Rattle.message_end.specs.Drops.{AreDroppedAt}
use Rattle.message_end.specs.History.{noted_in, notes_of_own}
use Rattle.message_end.specs.Log.{log_of, noted_of_own, with_note}
use Rattle.message_end.specs.LineCalls.{calls_in}
use Rattle.message_end.specs.Moves.{AreTimely, IsOnWay, KeepLaws, LinePlans, Move, act_of_call, deeds_of, Run, line_of_moves, plan_at, run_at, seen_at}
use Rattle.message_end.specs.Own.{Own}
use Rattle.message_end.specs.Own.Own.{DrewNumber, DroppedMessage, GaveBlock, HeardBlock, ReceivedMessage, SentMessage, WroteFrame}
use Rattle.message_end.specs.Plan.{EndPlan}
use Rattle.trace_log.specs.Laws.{log_with}
use Rattle.trace_log.specs.Log.{Entry, Happening}
use Rattle.trace_log.specs.Log.Entry.{Noted}
use Rattle.trace_log.specs.Log.Happening.{Received, Sent}
use Rattle.end_pair.specs.InSteps.{moves_with}
use Rattle.end_pair.proofs.Doing.{AreOnWay, call_deed, deeds_by, deeds_with, line-after, seen-after}

-- ---- doings as moves

pub deeds-moves :
    (side : Side) (now : ℕ) (done : List Doing) (moves : List Move)
    → deeds_of (moves_with side now done moves) ≡ deeds_with side (calls_in done) (deeds_of moves)
deeds-moves side now [] moves = refl
deeds-moves side now (Does own ∷ before) moves = deeds-moves side now before moves
deeds-moves side now (Says what ∷ before) moves = deeds-moves side now before moves
deeds-moves side now (Gives place number block at ∷ before) moves =
    ap (λ (ds : List Deed). call_deed side (Send block at) ∷ ds) (deeds-moves side now before moves)
deeds-moves side now (Calls call ∷ before) moves =
    ap (λ (ds : List Deed). call_deed side call ∷ ds) (deeds-moves side now before moves)

pub line-moves :
    (plans : LinePlans) (side : Side) (now : ℕ) (done : List Doing) (moves : List Move)
    → line_of_moves plans (moves_with side now done moves)
    ≡ line_after (line_of_moves plans moves) (deeds_by side (calls_in done))
line-moves plans side now done moves =
    ap (line_after (new_line plans.equipment.times plans.host.times)) (deeds-moves side now done moves)
    ∙ line-after side (calls_in done) (new_line plans.equipment.times plans.host.times) (deeds_of moves)

pub own-base :
    (side : Side) (plans : LinePlans) (now : ℕ) (done : List Doing) (moves : List Move)
    → (run_at side plans (moves_with side now done moves)).base ≡ (run_at side plans moves).base
own-base side plans now [] moves = refl
own-base Equipment plans now (doing ∷ before) moves = own-base Equipment plans now before moves
own-base Host plans now (doing ∷ before) moves = own-base Host plans now before moves

pub own-doings :
    (side : Side) (plans : LinePlans) (now : ℕ) (done : List Doing) (moves : List Move)
    → (run_at side plans (moves_with side now done moves)).doings ≡ done ++ (run_at side plans moves).doings
own-doings side plans now [] moves = refl
own-doings Equipment plans now (doing ∷ before) moves =
    ap (λ (ds : List Doing). doing ∷ ds) (own-doings Equipment plans now before moves)
own-doings Host plans now (doing ∷ before) moves =
    ap (λ (ds : List Doing). doing ∷ ds) (own-doings Host plans now before moves)

-- ---- the laws

pub keep-done :
    (side : Side) (plans : LinePlans) (now : ℕ) (done : List Doing) (moves : List Move)
    → AreLawful (plan_at side plans) (run_at side plans moves).base (done ++ (run_at side plans moves).doings)
    → AreOnWay side (line_of_moves plans moves) (calls_in done) → KeepLaws plans moves
    → KeepLaws plans (moves_with side now done moves)
keep-done side plans now [] moves lawful on keep = keep
keep-done side plans now (doing ∷ before) moves lawful on keep =
    ((is_lawful, on_way doing on), keep-done side plans now before moves lawful.1 (on_before doing on) keep)
  where
    earlier : List Move
    earlier = moves_with side now before moves

    is_lawful : IsLawful (plan_at side plans) (run_at side plans earlier).base (run_at side plans earlier).doings doing
    is_lawful =
        subst (λ (b : ℕ). IsLawful (plan_at side plans) b (run_at side plans earlier).doings doing)
        (sym (own-base side plans now before moves))
        (subst (λ (ds : List Doing). IsLawful (plan_at side plans) (run_at side plans moves).base ds doing)
        (sym (own-doings side plans now before moves)) lawful.0)

    on_way : (doing : Doing) → AreOnWay side (line_of_moves plans moves) (calls_in (doing ∷ before))
        → IsOnWay (seen_at side plans earlier).there.under_way doing
    on_way (Does own) on = tt
    on_way (Says what) on = tt
    on_way (Gives place number block at) on = tt
    on_way (Calls call) on =
        subst (λ (l : Line). IsOnWay (seen_from side l).there.under_way (Calls call))
        (sym (line-moves plans side now before moves)) on.0

    on_before : (doing : Doing) → AreOnWay side (line_of_moves plans moves) (calls_in (doing ∷ before))
        → AreOnWay side (line_of_moves plans moves) (calls_in before)
    on_before (Does own) on = on
    on_before (Says what) on = on
    on_before (Gives place number block at) on = on.1
    on_before (Calls call) on = on.1

-- what T4 drops in a step is dropped at the moment of its moves
pub timely-done :
    (side : Side) (now : ℕ) (done : List Doing) (moves : List Move) → AreDroppedAt now done → AreTimely moves
    → AreTimely (moves_with side now done moves)
timely-done side now [] moves drops timely = timely
timely-done side now (Does own ∷ before) moves drops timely =
    (drops.0, timely-done side now before moves drops.1 timely)
timely-done side now (Gives place number block at ∷ before) moves drops timely =
    (tt, timely-done side now before moves drops timely)
timely-done side now (Calls call ∷ before) moves drops timely = (tt, timely-done side now before moves drops timely)
timely-done side now (Says what ∷ before) moves drops timely = (tt, timely-done side now before moves drops timely)

-- ---- the log

log_with-snoc : (now : ℕ) (side : Side) (noted : List Happening) (what : Happening) (log : List Entry)
    → log_with now side (noted ++ what ∷ []) log ≡ Noted now side what ∷ log_with now side noted log
log_with-snoc now side [] what log = refl
log_with-snoc now side (first ∷ rest) what log = log_with-snoc now side rest what (Noted now side first ∷ log)

pub log_with-behind : (now : ℕ) (side : Side) (noted : List Happening) (newer log : List Entry)
    → log_with now side noted (newer ++ log) ≡ log_with now side noted newer ++ log
log_with-behind now side [] newer log = refl
log_with-behind now side (first ∷ rest) newer log = log_with-behind now side rest (Noted now side first ∷ newer) log

log-own :
    (side : Side) (now : ℕ) (before : List Doing) (earlier log : List Entry) (own : Own)
    → log ≡ log_with now side (noted_in before) earlier
    → with_note now side (noted_of_own own) log ≡ log_with now side (noted_in before ++ notes_of_own own) earlier
log-own side now before earlier log own same = go own
  where
    none : log ≡ log_with now side (noted_in before ++ []) earlier
    none = same ∙ ap (λ (ns : List Happening). log_with now side ns earlier) (sym (append-nil (noted_in before)))

    some : (what : Happening) → Noted now side what ∷ log ≡ log_with now side (noted_in before ++ what ∷ []) earlier
    some what =
        ap (λ (l : List Entry). Noted now side what ∷ l) same
        ∙ sym (log_with-snoc now side (noted_in before) what earlier)

    go : (own : Own) → with_note now side (noted_of_own own) log ≡ log_with now side
        (noted_in before ++ notes_of_own own) earlier
    go (SentMessage message) = some (Sent message)
    go (ReceivedMessage message) = some (Received message)
    go (DrewNumber number) = none
    go (GaveBlock place number) = none
    go (WroteFrame place number) = none
    go (HeardBlock block at flow) = none
    go (DroppedMessage header at) = none

pub log-done :
    (side : Side) (now : ℕ) (done : List Doing) (moves : List Move)
    → log_of (moves_with side now done moves) ≡ log_with now side (noted_in done) (log_of moves)
log-done side now [] moves = refl
log-done side now (Gives place number block at ∷ before) moves = log-done side now before moves
log-done side now (Calls call ∷ before) moves = log-done side now before moves
log-done side now (Says what ∷ before) moves =
    ap (λ (l : List Entry). Noted now side what ∷ l) (log-done side now before moves)
    ∙ sym (log_with-snoc now side (noted_in before) what (log_of moves))
log-done side now (Does own ∷ before) moves =
    log-own side now before (log_of moves) (log_of (moves_with side now before moves)) own
    (log-done side now before moves)

-- ---- the end, and the other one

-- its doings have made the end what it is, and its line
pub record HasBecome {S : Type 0}
    (did : ℕ → List Doing → S → Type 0) (plan : EndPlan) (run : Run) (line : LineState) (s : S) : Type 0 where
  pub is : did run.base run.doings s
  pub state : line ≡ line_of plan run.doings

-- these moves have
abbrev pub IsAt : {S : Type 0} → (ℕ → List Doing → S → Type 0) → Side → LinePlans → List Move → S → Type 0
IsAt did side plans moves s =
    HasBecome did (plan_at side plans) (run_at side plans moves) (seen_at side plans moves).here.state s

there-state : (call : LineCall) (view : View) → (act_here (act_of_call call) view).there.state ≡ view.there.state
there-state (Send block now) view = refl
there-state (Resume now) view = refl
there-state Cancel view = refl
there-state (Tick now) view = refl
there-state (Take byte now) view = go view.there.under_way
  where
    go : (under_way : List Character) → (handed now under_way view).there.state ≡ view.there.state
    go [] = refl
    go (character ∷ rest) = refl

other-state :
    (side : Side) (calls : List LineCall) (line : Line)
    → (seen_from side (line_after line (deeds_by side calls))).there.state ≡ (seen_from side line).there.state
other-state side [] line = refl
other-state side (call ∷ before) line =
    ap (λ (v : View). v.there.state) (seen-after side call (line_after line (deeds_by side before)))
    ∙ there-state call (seen_from side (line_after line (deeds_by side before)))
    ∙ other-state side before line

pub other-run :
    (side : Side) (plans : LinePlans) (now : ℕ) (done : List Doing) (moves : List Move)
    → run_at (other_side side) plans (moves_with side now done moves) ≡ run_at (other_side side) plans moves
other-run side plans now [] moves = refl
other-run Equipment plans now (doing ∷ before) moves = other-run Equipment plans now before moves
other-run Host plans now (doing ∷ before) moves = other-run Host plans now before moves

here-there : (side : Side) (line : Line)
    → (seen_from (other_side side) line).here.state ≡ (seen_from side line).there.state
here-there Equipment line = refl
here-there Host line = refl

pub other-is :
    {S : Type 0} (did : ℕ → List Doing → S → Type 0) (side : Side) (plans : LinePlans) (now : ℕ)
    (done : List Doing) (moves : List Move) (s : S)
    → IsAt did (other_side side) plans moves s → IsAt did (other_side side) plans (moves_with side now done moves) s
other-is did side plans now done moves s at = record {
  is = subst (λ (r : Run). did r.base r.doings s) (sym run) at.is;
  state =
      here-there side (line_of_moves plans (moves_with side now done moves))
      ∙ ap (λ (l : Line). (seen_from side l).there.state) (line-moves plans side now done moves)
      ∙ other-state side (calls_in done) (line_of_moves plans moves)
      ∙ sym (here-there side (line_of_moves plans moves)) ∙ at.state
      ∙ ap (λ (r : Run). line_of (plan_at (other_side side) plans) r.doings) (sym run);
}
  where
    run : run_at (other_side side) plans (moves_with side now done moves) ≡ run_at (other_side side) plans moves
    run = other-run side plans now done moves
