-- Runs are played forward, so that each state of the line is computed once.
use Rattle.std.specs.Prelude.{◌≡◌, ◌<◌, ◌&&◌, not, ℕ, Bool, true, false, List, [], ◌∷◌, ◌++◌, length, map, Option, Some, None, refl}
use Rattle.std.proofs.Common.{sym, ap, ◌∙◌, subst, arith}
use Rattle.gl_base.specs.declared.side.Side.{Side}
use Rattle.gl_base.specs.declared.side.Side.TheVariants.{Equipment, Host}
use Rattle.line_end.specs.declared.plan.Times.{Times}
use Rattle.line_end.specs.State.{LineState, new_state}
use Rattle.line_end.specs.Step.{line_step}
use Rattle.line_end.specs.Step.LineCall.{Cancel, Resume, Send, Take, Tick}
use Rattle.line_order.specs.Acts.{Act, Deed, HasNoSlip, handed, line_after}
use Rattle.line_order.specs.Characters.{Character}
use Rattle.line_order.specs.Line.{Arrival, Line, View, new_line, seen_by, seen_from}
use Rattle.message_end.specs.Doings.{MayCall, MayGiveBlock, line_of, own_of, with_call}
use Rattle.message_end.specs.Doings.Doing.{Calls, Does, Gives, Says}
use Rattle.message_end.specs.Own.{given_in, sent_in}
use Rattle.message_end.specs.Own.Own.{GaveBlock}
use Rattle.message_end.specs.Plan.{EndPlan, block_of, receiver_of}
use Rattle.message_end.specs.Moves.{IsNextByte, Kind, LinePlans, MayMove, Move, Run, act_of, behind, deeds_of, line_of_moves, places_with, plan_at, run_after, run_at, seen_at, with_act}
use Rattle.message_end.specs.Moves.Kind.{Added, Changed, Did, Lost, Started}
use Rattle.message_flow.specs.Laws.{MessagesGoInBlocks}
use Rattle.delivery.specs.Worked.{Scene, moves_after, scene_after, plans, takes_after}
use Rattle.delivery.specs.Worked.Scene.{Block, One, Takes}
use Rattle.delivery.proofs.Ends.{History, history_of}
use Rattle.message_end.proofs.LineKept.{side-kept, times-kept}
use Rattle.delivery.proofs.Moving.{acted, slips_in}
use Rattle.delivery.proofs.Runs.{seen-acted}
use Rattle.line_order.proofs.Flows.{both-true}
use Rattle.delivery.proofs.Tests.{can-give, can_give, IsTakenOnWay, MayPlay, is_on_way, kind-allowed, kind_allowed, not-true, on-way}

-- ---- one end

abbrev pub history_after : EndPlan → LineState → List Arrival → Kind → History → History
history_after plan s arrived (Did (Does own)) h =
    record h { own = own ∷ h.own; places = places_with arrived (Does own) h.places }
history_after plan s arrived (Did (Gives place number block now)) h = record h { own = GaveBlock place number ∷ h.own }
history_after plan s arrived (Did (Calls call)) h = record h { own = with_call (receiver_of plan) call s h.own }
history_after plan s arrived (Did (Says what)) h = h
history_after plan s arrived (Started note base) h = record {
  base = base;
  own = [];
  places = [];
  sent_before = sent_in h.own ++ h.sent_before;
  given_before = map (behind (length h.sent_before)) (given_in h.own) ++ h.given_before;
  places_before = h.places ++ h.places_before;
}
history_after plan s arrived Lost h = h
history_after plan s arrived (Changed place byte) h = h
history_after plan s arrived (Added byte) h = h

history-after : (plan : EndPlan) (s : LineState) (arrived : List Arrival) (kind : Kind) (run : Run)
    → s ≡ line_of plan run.doings
    → history_of plan (run_after plan arrived kind run) ≡ history_after plan s arrived kind (history_of plan run)
history-after plan s arrived (Did (Does own)) run same = refl
history-after plan s arrived (Did (Gives place number block now)) run same = refl
history-after plan s arrived (Did (Calls call)) run same =
    ap
    (λ (state : LineState). record (history_of plan run) {
      own = with_call (receiver_of plan) call state (own_of plan run.doings);
    })
    (sym same)
history-after plan s arrived (Did (Says what)) run same = refl
history-after plan s arrived (Started note base) run same = refl
history-after plan s arrived Lost run same = refl
history-after plan s arrived (Changed place byte) run same = refl
history-after plan s arrived (Added byte) run same = refl

may-move : (plan : EndPlan) (s : LineState) (way : List Character) (run : Run) (kind : Kind)
    → s ≡ line_of plan run.doings
    → IsTakenOnWay way kind → MayPlay plan s way (history_of plan run) kind → MayMove plan way run kind
may-move plan s way run (Did (Does own)) same on_way may = (may, on_way)
may-move plan s way run (Did (Gives place number block now)) same on_way may = (
  subst (λ (state : LineState). MayGiveBlock plan state (own_of plan run.doings) place number block now) same may,
  on_way,
)
may-move plan s way run (Did (Calls call)) same on_way may =
    (subst (λ (state : LineState). MayCall plan.side state (own_of plan run.doings) call) same may, on_way)
may-move plan s way run (Did (Says what)) same on_way may = (may, on_way)
may-move plan s way run (Started note base) same on_way may =
    (may.0, record { least = may.1; above = may.2 })
may-move plan s way run Lost same on_way may = tt
may-move plan s way run (Changed place byte) same on_way may = tt
may-move plan s way run (Added byte) same on_way may = tt

-- the state of its line goes on with its doings
state-taken : (plan : EndPlan) (view : View) (run : Run) (byte now : ℕ) (way : List Character)
    → view.here.state ≡ line_of plan run.doings → IsNextByte way byte
    → (handed now way view).here.state ≡ line_of plan (Calls (Take byte now) ∷ run.doings)
state-taken plan view run byte now [] same next = absurd next
state-taken plan view run byte now (character ∷ rest) same next =
    ap (λ (s : LineState). (line_step s (Take character.byte now)).next) same
    ∙ ap (λ (b : ℕ). (line_step (line_of plan run.doings) (Take b now)).next) (sym next)

state-after : (plan : EndPlan) (view : View) (run : Run) (kind : Kind) → view.here.state ≡ line_of plan run.doings
    → IsTakenOnWay view.there.under_way kind
    → (acted (act_of kind) view).here.state ≡ line_of plan (run_after plan view.here.arrived kind run).doings
state-after plan view run (Did (Does own)) same on_way = same
state-after plan view run (Did (Gives place number block now)) same on_way =
    ap (λ (s : LineState). (line_step s (Send block now)).next) same
state-after plan view run (Did (Says what)) same on_way = same
state-after plan view run (Did (Calls (Send block now))) same on_way =
    ap (λ (s : LineState). (line_step s (Send block now)).next) same
state-after plan view run (Did (Calls (Resume now))) same on_way =
    ap (λ (s : LineState). (line_step s (Resume now)).next) same
state-after plan view run (Did (Calls Cancel)) same on_way = ap (λ (s : LineState). (line_step s Cancel).next) same
state-after plan view run (Did (Calls (Take byte now))) same on_way =
    state-taken plan view run byte now view.there.under_way same on_way
state-after plan view run (Did (Calls (Tick now))) same on_way =
    ap (λ (s : LineState). (line_step s (Tick now)).next) same
state-after plan view run (Started note base) same on_way =
    ap (λ (side : Side). new_state side view.here.state.times)
    (ap (λ (s : LineState). s.side) same ∙ side-kept plan run.doings)
    ∙ ap (λ (times : Times). new_state plan.side times)
    (ap (λ (s : LineState). s.times) same ∙ times-kept plan run.doings)
state-after plan view run Lost same on_way = same
state-after plan view run (Changed place byte) same on_way = same
state-after plan view run (Added byte) same on_way = same

-- what the other end's move leaves of a state
other-state : (act : Option Act) (view : View) → (acted act view).there.state ≡ view.there.state
other-state None view = refl
other-state (Some (Act.Hand now)) view = go view.there.under_way
  where
    go : (way : List Character) → (handed now way view).there.state ≡ view.there.state
    go [] = refl
    go (character ∷ rest) = refl
other-state (Some Act.Lose) view = refl
other-state (Some (Act.Change place byte)) view = refl
other-state (Some (Act.Add byte)) view = refl
other-state (Some (Act.Call call)) view = refl
other-state (Some Act.PowerLoss) view = refl

-- ---- both ends

pub record Play : Type 0 where
  pub line : Line
  pub equipment : History
  pub host : History

abbrev pub played_by : Side → Play → History
played_by Equipment play = play.equipment
played_by Host play = play.host

module _ (both_plans : LinePlans) where
  abbrev pub move_played : Side → Kind → Play → Play
  move_played Equipment kind play = record {
    line = seen_by Equipment (acted (act_of kind) (seen_from Equipment play.line));
    equipment =
        history_after (plan_at Equipment both_plans) play.line.equipment.state play.line.equipment.arrived kind
        play.equipment;
    host = play.host;
  }
  move_played Host kind play = record {
    line = seen_by Host (acted (act_of kind) (seen_from Host play.line));
    equipment = play.equipment;
    host = history_after (plan_at Host both_plans) play.line.host.state play.line.host.arrived kind play.host;
  }

  -- the play stands for these moves
  pub record StandsForMoves (play : Play) (moves : List Move) : Type 0 where
    pub line_is : line_of_moves both_plans moves ≡ play.line
    pub equipment_is : history_of (plan_at Equipment both_plans) (run_at Equipment both_plans moves) ≡ play.equipment
    pub host_is : history_of (plan_at Host both_plans) (run_at Host both_plans moves) ≡ play.host
    pub equipment_state :
        (seen_at Equipment both_plans moves).here.state
        ≡ line_of (plan_at Equipment both_plans) (run_at Equipment both_plans moves).doings
    pub host_state : (seen_at Host both_plans moves).here.state ≡ line_of (plan_at Host both_plans) (run_at Host
        both_plans moves).doings
    pub no_slip : HasNoSlip (new_line both_plans.equipment.times both_plans.host.times) (deeds_of moves)

  slip-on : (side : Side) (act : Option Act) (start : Line) (deeds : List Deed)
      → slips_in act (seen_from side (line_after start deeds)) ≡ false → HasNoSlip start deeds
      → HasNoSlip start (with_act side act deeds)
  slip-on side None start deeds none before = before
  slip-on side (Some act) start deeds none before = (none, before)

  line-on : (side : Side) (act : Option Act) (start : Line) (deeds : List Deed)
      → line_after start (with_act side act deeds) ≡ seen_by side (acted act (seen_from side (line_after start deeds)))
  line-on Equipment None start deeds = refl
  line-on Host None start deeds = refl
  line-on side (Some act) start deeds = refl

  -- what a move of an end has to be on the line
  abbrev pub GoesOn : Side → Kind → Play → Type 0
  GoesOn side kind play =
      (slips_in (act_of kind) (seen_from side play.line) ≡ false)
      × IsTakenOnWay (seen_from side play.line).there.under_way kind

  pub stands-on : (side : Side) (moment : ℕ) (kind : Kind) (play : Play) (moves : List Move) → GoesOn side kind play
      → StandsForMoves play moves
      → StandsForMoves (move_played side kind play) (record { side = side; moment = moment; kind = kind } ∷ moves)
  stands-on Equipment moment kind play moves goes is = record {
    line_is =
        line-on Equipment (act_of kind) (new_line both_plans.equipment.times both_plans.host.times) (deeds_of moves)
        ∙ ap (λ (line : Line). seen_by Equipment (acted (act_of kind) (seen_from Equipment line))) is.line_is;
    equipment_is =
        history-after (plan_at Equipment both_plans) (seen_at Equipment both_plans moves).here.state
        (seen_at Equipment both_plans moves).here.arrived kind (run_at Equipment both_plans moves) is.equipment_state
        ∙ ap
        (λ (line : Line). history_after (plan_at Equipment both_plans) line.equipment.state line.equipment.arrived kind
        (history_of (plan_at Equipment both_plans) (run_at Equipment both_plans moves)))
        is.line_is
        ∙ ap (history_after (plan_at Equipment both_plans) play.line.equipment.state play.line.equipment.arrived kind)
        is.equipment_is;
    host_is = is.host_is;
    equipment_state =
        ap (λ (view : View). view.here.state)
        (seen-acted Equipment (act_of kind) (new_line both_plans.equipment.times both_plans.host.times) (deeds_of
        moves))
        ∙ state-after (plan_at Equipment both_plans) (seen_at Equipment both_plans moves) (run_at Equipment
        both_plans moves) kind
        is.equipment_state
        (subst (λ (line : Line). IsTakenOnWay line.host.under_way kind) (sym is.line_is) goes.1);
    host_state =
        ap (λ (view : View). view.there.state)
        (seen-acted Equipment (act_of kind) (new_line both_plans.equipment.times both_plans.host.times) (deeds_of
        moves))
        ∙ other-state (act_of kind) (seen_at Equipment both_plans moves) ∙ is.host_state;
    no_slip =
        slip-on Equipment (act_of kind) (new_line both_plans.equipment.times both_plans.host.times) (deeds_of moves)
        (subst (λ (line : Line). slips_in (act_of kind) (seen_from Equipment line) ≡ false) (sym is.line_is) goes.0)
        is.no_slip;
  }
  stands-on Host moment kind play moves goes is = record {
    line_is =
        line-on Host (act_of kind) (new_line both_plans.equipment.times both_plans.host.times) (deeds_of moves)
        ∙ ap (λ (line : Line). seen_by Host (acted (act_of kind) (seen_from Host line))) is.line_is;
    equipment_is = is.equipment_is;
    host_is =
        history-after (plan_at Host both_plans) (seen_at Host both_plans moves).here.state (seen_at Host both_plans
        moves).here.arrived
        kind (run_at Host both_plans moves) is.host_state
        ∙ ap
        (λ (line : Line). history_after (plan_at Host both_plans) line.host.state line.host.arrived kind
        (history_of (plan_at Host both_plans) (run_at Host both_plans moves)))
        is.line_is
        ∙ ap (history_after (plan_at Host both_plans) play.line.host.state play.line.host.arrived kind) is.host_is;
    equipment_state =
        ap (λ (view : View). view.there.state)
        (seen-acted Host (act_of kind) (new_line both_plans.equipment.times both_plans.host.times) (deeds_of moves))
        ∙ other-state (act_of kind) (seen_at Host both_plans moves) ∙ is.equipment_state;
    host_state =
        ap (λ (view : View). view.here.state)
        (seen-acted Host (act_of kind) (new_line both_plans.equipment.times both_plans.host.times) (deeds_of moves))
        ∙ state-after (plan_at Host both_plans) (seen_at Host both_plans moves) (run_at Host both_plans moves) kind
        is.host_state
        (subst (λ (line : Line). IsTakenOnWay line.equipment.under_way kind) (sym is.line_is) goes.1);
    no_slip =
        slip-on Host (act_of kind) (new_line both_plans.equipment.times both_plans.host.times) (deeds_of moves)
        (subst (λ (line : Line). slips_in (act_of kind) (seen_from Host line) ≡ false) (sym is.line_is) goes.0)
        is.no_slip;
  }

  -- ---- with the law

  abbrev pub MayBePlayed : Side → Kind → Play → Type 0
  MayBePlayed side kind play =
      MayPlay (plan_at side both_plans) (seen_from side play.line).here.state (seen_from side play.line).there.under_way
      (played_by side play) kind

  law-here : (side : Side) (kind : Kind) (play : Play) (moves : List Move) → GoesOn side kind play
      → MayBePlayed side kind play → StandsForMoves play moves
      → MayMove (plan_at side both_plans) (seen_at side both_plans moves).there.under_way (run_at side both_plans
      moves) kind
  law-here Equipment kind play moves goes may is =
      may-move (plan_at Equipment both_plans) (seen_at Equipment both_plans moves).here.state
      (seen_at Equipment both_plans moves).there.under_way (run_at Equipment both_plans moves) kind is.equipment_state
      (subst (λ (line : Line). IsTakenOnWay line.host.under_way kind) (sym is.line_is) goes.1)
      (subst
      (λ (line : Line). MayPlay (plan_at Equipment both_plans) line.equipment.state line.host.under_way
      (history_of (plan_at Equipment both_plans) (run_at Equipment both_plans moves)) kind)
      (sym is.line_is)
      (subst
      (λ (h : History). MayPlay (plan_at Equipment both_plans) play.line.equipment.state play.line.host.under_way h
      kind)
      (sym is.equipment_is) may))
  law-here Host kind play moves goes may is =
      may-move (plan_at Host both_plans) (seen_at Host both_plans moves).here.state (seen_at Host both_plans
      moves).there.under_way
      (run_at Host both_plans moves) kind is.host_state
      (subst (λ (line : Line). IsTakenOnWay line.equipment.under_way kind) (sym is.line_is) goes.1)
      (subst
      (λ (line : Line). MayPlay (plan_at Host both_plans) line.host.state line.equipment.under_way
      (history_of (plan_at Host both_plans) (run_at Host both_plans moves)) kind)
      (sym is.line_is)
      (subst (λ (h : History). MayPlay (plan_at Host both_plans) play.line.host.state play.line.equipment.under_way h
      kind)
      (sym is.host_is) may))

  -- ---- tests

  abbrev pub goes_on : Side → Kind → Play → Bool
  goes_on side kind play =
      not (slips_in (act_of kind) (seen_from side play.line))
      && is_on_way (seen_from side play.line).there.under_way kind

  abbrev pub may_be_played : Side → Kind → Play → Bool
  may_be_played side kind play =
      goes_on side kind play
      && kind_allowed (plan_at side both_plans) (seen_from side play.line).here.state (played_by side play) kind

  pub goes-on : (side : Side) (kind : Kind) (play : Play) → goes_on side kind play ≡ true → GoesOn side kind play
  goes-on side kind play is =
      let parts =
      both-true (not (slips_in (act_of kind) (seen_from side play.line)))
      (is_on_way (seen_from side play.line).there.under_way kind) is
      in (
        not-true (slips_in (act_of kind) (seen_from side play.line)) parts.0,
        on-way (seen_from side play.line).there.under_way kind parts.1,
      )

  -- a family of laws that each lawful move keeps
  abbrev pub Keeps : (List Move → Type 0) → Type 0
  Keeps L =
      (move : Move) (before : List Move)
      → MayMove (plan_at move.side both_plans) (seen_at move.side both_plans before).there.under_way
      (run_at move.side both_plans before) move.kind
      → L before → L (move ∷ before)

  pub record Stands (L : List Move → Type 0) (play : Play) (moves : List Move) : Type 0 where
    pub moves_are : StandsForMoves play moves
    pub laws : L moves

  move-on : (L : List Move → Type 0) → Keeps L → (side : Side) (moment : ℕ) (kind : Kind) (play : Play) (moves : List
      Move)
      → goes_on side kind play ≡ true → MayBePlayed side kind play → Stands L play moves
      → Stands L (move_played side kind play) (record { side = side; moment = moment; kind = kind } ∷ moves)
  move-on L keeps side moment kind play moves goes may is = record {
    moves_are = stands-on side moment kind play moves (goes-on side kind play goes) is.moves_are;
    laws =
        keeps (record { side = side; moment = moment; kind = kind }) moves
        (law-here side kind play moves (goes-on side kind play goes) may is.moves_are) is.laws;
  }

  one-on : (L : List Move → Type 0) → Keeps L → (side : Side) (moment : ℕ) (kind : Kind) (play : Play) (moves : List
      Move)
      → may_be_played side kind play ≡ true → Stands L play moves
      → Stands L (move_played side kind play) (record { side = side; moment = moment; kind = kind } ∷ moves)
  one-on L keeps side moment kind play moves may is =
      let parts =
      both-true (goes_on side kind play)
      (kind_allowed (plan_at side both_plans) (seen_from side play.line).here.state (played_by side play) kind) may
      in
      move-on L keeps side moment kind play moves parts.0
      (kind-allowed (plan_at side both_plans) (seen_from side play.line).here.state
      (seen_from side play.line).there.under_way (played_by side play) kind parts.1) is

  -- ---- characters one after another

  abbrev pub takes_played : Side → ℕ → List ℕ → Play → Play
  takes_played side moment [] play = play
  takes_played side moment (byte ∷ bytes) play =
      takes_played side moment bytes (move_played side (Did (Calls (Take byte moment))) play)

  abbrev pub takes_may : Side → ℕ → List ℕ → Play → Bool
  takes_may side moment [] play = true
  takes_may side moment (byte ∷ bytes) play =
      may_be_played side (Did (Calls (Take byte moment))) play
      && takes_may side moment bytes (move_played side (Did (Calls (Take byte moment))) play)

  takes-on : (L : List Move → Type 0) → Keeps L → (side : Side) (moment : ℕ) (bytes : List ℕ) (play : Play) (moves :
      List Move)
      → takes_may side moment bytes play ≡ true → Stands L play moves
      → Stands L (takes_played side moment bytes play) (takes_after side moment bytes moves)
  takes-on L keeps side moment [] play moves may is = is
  takes-on L keeps side moment (byte ∷ bytes) play moves may is =
      let parts =
      both-true (may_be_played side (Did (Calls (Take byte moment))) play)
      (takes_may side moment bytes (move_played side (Did (Calls (Take byte moment))) play)) may
      in
      takes-on L keeps side moment bytes (move_played side (Did (Calls (Take byte moment))) play)
      (record { side = side; moment = moment; kind = Did (Calls (Take byte moment)) } ∷ moves) parts.1
      (one-on L keeps side moment (Did (Calls (Take byte moment))) play moves parts.0 is)

-- ---- the scenes of a worked run

abbrev pub scene_played : Scene → Play → Play
scene_played (One side moment kind) play = move_played plans side kind play
scene_played (Block side moment message place number) play =
    move_played plans side (Did (Gives place number (block_of (plan_at side plans) message number) moment)) play
scene_played (Takes side moment bytes) play = takes_played plans side moment bytes play

abbrev pub scene_may : Scene → Play → Bool
scene_may (One side moment kind) play = may_be_played plans side kind play
scene_may (Block side moment message place number) play =
    goes_on plans side (Did (Gives place number (block_of (plan_at side plans) message number) moment)) play
    && can_give (seen_from side play.line).here.state (played_by side play).own place number message
scene_may (Takes side moment bytes) play = takes_may plans side moment bytes play

abbrev pub played : List Scene → Play → Play
played [] play = play
played (scene ∷ scenes) play = played scenes (scene_played scene play)

abbrev pub all_may : List Scene → Play → Bool
all_may [] play = true
all_may (scene ∷ scenes) play = scene_may scene play && all_may scenes (scene_played scene play)

device-fits : (side : Side) → (plan_at side plans).line.device < 32768
device-fits Equipment = omega arith
device-fits Host = omega arith

scene-on : MessagesGoInBlocks → (L : List Move → Type 0) → Keeps plans L
    → (scene : Scene) (play : Play) (moves : List Move)
    → scene_may scene play ≡ true → Stands plans L play moves
    → Stands plans L (scene_played scene play) (scene_after scene moves)
scene-on blocks L keeps (One side moment kind) play moves may is = one-on plans L keeps side moment kind play moves
    may is
scene-on blocks L keeps (Takes side moment bytes) play moves may is =
    takes-on plans L keeps side moment bytes play moves may is
scene-on blocks L keeps (Block side moment message place number) play moves may is =
    let tests =
    both-true (goes_on plans side (Did (Gives place number (block_of (plan_at side plans) message number) moment)) play)
    (can_give (seen_from side play.line).here.state (played_by side play).own place number message) may
    in
    move-on plans L keeps side moment
    (Did (Gives place number (block_of (plan_at side plans) message number) moment)) play moves tests.0
    (can-give blocks (plan_at side plans) (seen_from side play.line).here.state (played_by side play).own place number
    moment message (device-fits side) tests.1) is

pub plays-on : MessagesGoInBlocks → (L : List Move → Type 0) → Keeps plans L
    → (scenes : List Scene) (play : Play) (moves : List Move)
    → all_may scenes play ≡ true → Stands plans L play moves → Stands plans L (played scenes play) (moves_after scenes
    moves)
plays-on blocks L keeps [] play moves may is = is
plays-on blocks L keeps (scene ∷ scenes) play moves may is =
    let both = both-true (scene_may scene play) (all_may scenes (scene_played scene play)) may in
    plays-on blocks L keeps scenes (scene_played scene play) (scene_after scene moves) both.1
    (scene-on blocks L keeps scene play moves both.0 is)
