-- A law over moves, in worked runs: it is shown at those scenes alone of which it says something.
use Rattle.std.specs.Prelude.{◌≡◌, ℕ, Bool, true, false, List, [], ◌∷◌, refl}
use Rattle.gl_base.specs.declared.side.Side.{Side}
use Rattle.line_end.specs.Step.{LineCall}
use Rattle.line_end.specs.Step.LineCall.{Take}
use Rattle.message_end.specs.Doings.Doing.{Calls, Gives}
use Rattle.message_end.specs.Moves.{Kind, Move, plan_at}
use Rattle.message_end.specs.Moves.Kind.{Did}
use Rattle.message_end.specs.Plan.{block_of}
use Rattle.delivery.specs.Worked.{Scene, moves_after, plans, scene_after, takes_after}
use Rattle.delivery.specs.Worked.Scene.{Block, One, Takes}

-- what the law asks of a move, at those before it; and of which moves it asks anything, which calls of the line aren't
module _
    (MayAt : Side → List Move → Kind → Type 0) (asks : Side → Kind → Bool)
    (unasked : (side : Side) (before : List Move) (kind : Kind) → asks side kind ≡ false → MayAt side before kind)
    (no_call : (side : Side) (call : LineCall) → asks side (Did (Calls call)) ≡ false)
  where
    abbrev pub Kept : List Move → Type 0
    Kept [] = Unit {0}
    Kept (move ∷ before) = MayAt move.side before move.kind × Kept before

    abbrev With : Bool → Type 0 → Type 0 → Type 0
    With true here later = here × later
    With false here later = later

    abbrev pub AllMay : List Scene → List Move → Type 0
    AllMay [] before = Unit {0}
    AllMay (One side moment kind ∷ scenes) before =
        With (asks side kind) (MayAt side before kind) (AllMay scenes (scene_after (One side moment kind) before))
    AllMay (Block side moment message place number ∷ scenes) before =
        let kind : Kind = Did (Gives place number (block_of (plan_at side plans) message number) moment) in
        With (asks side kind) (MayAt side before kind)
        (AllMay scenes (scene_after (Block side moment message place number) before))
    AllMay (Takes side moment bytes ∷ scenes) before = AllMay scenes (takes_after side moment bytes before)

    takes-keep : (side : Side) (moment : ℕ) (bytes : List ℕ) (before : List Move) → Kept before
        → Kept (takes_after side moment bytes before)
    takes-keep side moment [] before kept = kept
    takes-keep side moment (byte ∷ bytes) before kept =
        takes-keep side moment bytes
        (record { side = side; moment = moment; kind = Did (Calls (Take byte moment)) } ∷ before)
        (unasked side before (Did (Calls (Take byte moment))) (no_call side (Take byte moment)), kept)

    -- what is asked of a move, and what is left to be shown
    asked : (side : Side) (before : List Move) (kind : Kind) (later : Type 0)
        → With (asks side kind) (MayAt side before kind) later → MayAt side before kind × later
    asked side before kind later = go (asks side kind) refl
      where
        go : (asked : Bool) → asks side kind ≡ asked → With asked (MayAt side before kind) later
            → MayAt side before kind × later
        go true is may = may
        go false is rest = (unasked side before kind is, rest)

    pub kept-after : (scenes : List Scene) (before : List Move) → AllMay scenes before → Kept before
        → Kept (moves_after scenes before)
    kept-after [] before may kept = kept
    kept-after (One side moment kind ∷ scenes) before may kept =
        let it = asked side before kind (AllMay scenes (scene_after (One side moment kind) before)) may in
        kept-after scenes (scene_after (One side moment kind) before) it.1 (it.0, kept)
    kept-after (Block side moment message place number ∷ scenes) before may kept =
        let it =
        asked side before (Did (Gives place number (block_of (plan_at side plans) message number) moment))
        (AllMay scenes (scene_after (Block side moment message place number) before)) may
        in
        kept-after scenes (scene_after (Block side moment message place number) before) it.1 (it.0, kept)
    kept-after (Takes side moment bytes ∷ scenes) before may kept =
        kept-after scenes (takes_after side moment bytes before) may (takes-keep side moment bytes before kept)
