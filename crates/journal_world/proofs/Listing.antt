-- The host lists what it owes its journal before anything else, at each move of a run.
use Rattle.std.proofs.Common.{◌≡◌, refl, ℕ, List, [], ◌∷◌, Option, None, Some, sym, subst}
use Rattle.end_pair.specs.InSteps.{AreAtStates, AreSteps, ComeInSteps, IsCutBehind, IsFate, moves_with, power_at, started_at, starts_with}
use Rattle.end_pair.specs.InSteps.AreSteps.{both_start, line_changes, one_step, starts_anew}
use Rattle.end_pair.specs.InSteps.ComeInSteps.{at_a_step, in_a_step, without_power}
use Rattle.end_pair.specs.Noted.{noted_by}
use Rattle.gl_base.specs.declared.side.Side.{Side}
use Rattle.gl_base.specs.declared.side.Side.TheVariants.{Equipment, Host}
use Rattle.journal_law.specs.Turns.{AreEnded, WriteInTurn}
use Rattle.journal_node.specs.Journal.{JournalView}
use Rattle.journal_node.specs.Law.{AreListed, DidOf, MayDoOwing}
use Rattle.line_end.specs.declared.plan.HostPlan.{HostPlan}
use Rattle.message_end.specs.Doings.{Doing}
use Rattle.message_end.specs.Doings.Doing.{Calls, Does, Gives, Says}
use Rattle.message_end.specs.Log.{log_of, noted_at, with_note}
use Rattle.message_end.specs.Moves.{Kind, LinePlans, Move, run_at}
use Rattle.message_end.specs.Moves.Kind.{Added, Changed, Did, Lost, Started}
use Rattle.message_end.specs.Own.{Own}
use Rattle.message_end.specs.Own.Own.{DrewNumber, DroppedMessage, GaveBlock, HeardBlock, ReceivedMessage, SentMessage, WroteFrame}
use Rattle.spool_law.specs.Listing.{KeepsListing, MayDoListing, MayListAt, Owed, owed_in}
use Rattle.spool_law.specs.Listing.Owed.{Nothing}
use Rattle.trace_log.specs.Log.{Happening}

module _ (plans : LinePlans) where
  abbrev doings_at : List Move → List Doing
  doings_at moves = (run_at Host plans moves).doings

  -- ---- at each move, but for what has been written

  abbrev MayMoveOwing : Side → List Move → Kind → Type 0
  MayMoveOwing Equipment before kind = Unit {0}
  MayMoveOwing Host before (Did doing) = MayDoOwing (owed_in (doings_at before)) doing
  MayMoveOwing Host before (Started note base) = Unit {0}
  MayMoveOwing Host before Lost = Unit {0}
  MayMoveOwing Host before (Changed place byte) = Unit {0}
  MayMoveOwing Host before (Added byte) = Unit {0}

  abbrev pub KeepsOwing : List Move → Type 0
  KeepsOwing [] = Unit {0}
  KeepsOwing (move ∷ before) = MayMoveOwing move.side before move.kind × KeepsOwing before

  module _ {S : Type 0} (equipment : ℕ → List Doing → S → Type 0) (plan : HostPlan) where
    abbrev At : List Move → Type 0
    At = AreAtStates equipment (DidOf plan) plans

    abbrev SoFar : List Move → Type 0
    SoFar moves = AreListed (doings_at moves)

    law : (moves : List Move) → At moves → SoFar moves
    law moves at = at.host_did.listed

    back :
        (side : Side) (moment : ℕ) (doing : Doing) (rest : List Move)
        → SoFar (record { side = side; moment = moment; kind = Did doing } ∷ rest)
        → SoFar rest
        × (KeepsOwing rest → KeepsOwing (record { side = side; moment = moment; kind = Did doing } ∷ rest))
    back Equipment moment doing rest listed = (listed, λ kept. (tt, kept))
    back Host moment doing rest listed = (listed.1, λ kept. (listed.0, kept))

    doings-back :
        (side : Side) (moment : ℕ) (done : List Doing) (before : List Move)
        → SoFar (moves_with side moment done before)
        → SoFar before × (KeepsOwing before → KeepsOwing (moves_with side moment done before))
    doings-back side moment [] before so_far = (so_far, λ each. each)
    doings-back side moment (doing ∷ done) before so_far =
        let one = back side moment doing (moves_with side moment done before) so_far in
        let rest = doings-back side moment done before one.0 in
        (rest.0, λ each. one.1 (rest.1 each))

    cut-keeps :
        (side : Side) (moment : ℕ) (before moves : List Move)
        → IsCutBehind equipment (DidOf plan) plans side moment before moves → KeepsOwing before → KeepsOwing moves
    cut-keeps side moment before moves cut each =
        let whole = law (moves_with side moment cut.later moves) cut.could in
        let so_far = (doings-back side moment cut.later moves whole).0 in
        subst KeepsOwing (sym cut.is) ((doings-back side moment cut.done before (subst SoFar cut.is so_far)).1 each)

    fate-may : (side : Side) (kind : Kind) (rest : List Move) → IsFate kind → MayMoveOwing side rest kind
    fate-may Equipment kind rest fate = tt
    fate-may Host (Did doing) rest fate = absurd fate
    fate-may Host (Started note base) rest fate = tt
    fate-may Host Lost rest fate = tt
    fate-may Host (Changed place byte) rest fate = tt
    fate-may Host (Added byte) rest fate = tt

    start-may : (side : Side) (note : Happening) (base : ℕ) (rest : List Move)
        → MayMoveOwing side rest (Started note base)
    start-may Equipment note base rest = tt
    start-may Host note base rest = tt

    power-may : (side : Side) (rest : List Move) → MayMoveOwing side rest (Did (Says Happening.Power))
    power-may Equipment rest = tt
    power-may Host rest = tt

    steps-keep : (moves : List Move) → AreSteps equipment (DidOf plan) plans moves → KeepsOwing moves
    steps-keep moves (both_start _ note note_there base base_there said said_there is start start_there of of_there
        at) =
        let there = starts_with Equipment 0 note base said [] in
        let whole = subst SoFar is (law moves at) in
        let host = doings-back Host 0 said_there (started_at Host 0 note_there base_there ∷ there) whole in
        let tool = doings-back Equipment 0 said (started_at Equipment 0 note base ∷ []) in
        subst KeepsOwing (sym is) (host.1 (start-may Host note_there base_there there, (tool (fresh said)).1 (tt, tt)))
      where
        -- before it the host has done nothing
        fresh : (said : List Doing) → SoFar (moves_with Equipment 0 said (started_at Equipment 0 note base ∷ []))
        fresh [] = tt
        fresh (doing ∷ said) = fresh said
    steps-keep moves (one_step _ before side moment done is step at steps) =
        subst KeepsOwing (sym is)
        ((doings-back side moment done before (subst SoFar is (law moves at))).1 (steps-keep before steps))
    steps-keep moves (line_changes _ before side moment kind is fate steps) =
        subst KeepsOwing (sym is) (fate-may side kind before fate, steps-keep before steps)
    steps-keep moves (starts_anew _ cut before side moment note base said is start of is_cut at steps) =
        subst KeepsOwing (sym is)
        ((doings-back side moment said (started_at side moment note base ∷ (power_at side moment ∷ cut))
        (subst SoFar is (law moves at))).1 (
          start-may side note base (power_at side moment ∷ cut),
          (power-may side cut, cut-keeps side moment before cut is_cut (steps-keep before steps)),
        ))

    pub owing-kept : (moves : List Move) → ComeInSteps equipment (DidOf plan) plans moves → KeepsOwing moves
    owing-kept moves (at_a_step steps) = steps-keep moves steps
    owing-kept moves (in_a_step before side moment cut steps) =
        cut-keeps side moment before moves cut (steps-keep before steps)
    owing-kept moves (without_power dark before side moment is cut steps) =
        subst KeepsOwing (sym is)
        (power-may side dark, cut-keeps side moment before dark cut (steps-keep before steps))

  -- ---- what has been written

  abbrev notes_at : List Move → List Happening
  notes_at moves = noted_by Host (log_of moves)

  -- where the newest note is the end of a step nothing is owed
  owes-none : (moves : List Move) → KeepsOwing moves → AreEnded (notes_at moves) → owed_in (doings_at moves) ≡ Nothing
  owes-none [] kept ended = refl
  owes-none (move ∷ before) kept ended =
      go move.side move.kind (λ rest. owes-none before kept.1 rest) kept.0 ended
    where
      own-so : (own : Own) → (AreEnded (notes_at before) → owed_in (doings_at before) ≡ Nothing)
          → AreEnded (notes_at (record { side = Host; moment = move.moment; kind = Did (Does own) } ∷ before))
          → owed_in (Does own ∷ doings_at before) ≡ Nothing
      own-so (SentMessage message) rest ended = absurd ended
      own-so (ReceivedMessage message) rest ended = absurd ended
      own-so (DrewNumber number) rest ended = rest ended
      own-so (GaveBlock place number) rest ended = rest ended
      own-so (WroteFrame place number) rest ended = rest ended
      own-so (HeardBlock block now flow) rest ended = rest ended
      own-so (DroppedMessage header now) rest ended = rest ended

      says-so : (what : Happening) → (AreEnded (notes_at before) → owed_in (doings_at before) ≡ Nothing)
          → MayDoOwing (owed_in (doings_at before)) (Says what) → AreEnded (what ∷ notes_at before)
          → owed_in (Says what ∷ doings_at before) ≡ Nothing
      says-so Happening.StepEnded rest may ended = may
      says-so (Happening.HostStarted journal) rest may ended = refl
      says-so (Happening.Wrote characters) rest may ended = rest ended
      says-so Happening.Power rest may ended = rest ended
      says-so what rest may ended = absurd ended

      go : (side : Side) (kind : Kind) → (AreEnded (notes_at before) → owed_in (doings_at before) ≡ Nothing)
          → MayMoveOwing side before kind
          → AreEnded (notes_at (record { side = side; moment = move.moment; kind = kind } ∷ before))
          → owed_in (doings_at (record { side = side; moment = move.moment; kind = kind } ∷ before)) ≡ Nothing
      go Host (Did (Does own)) rest may ended = own-so own rest ended
      go Host (Did (Gives place number block now)) rest may ended = rest ended
      go Host (Did (Calls call)) rest may ended = rest ended
      go Host (Did (Says what)) rest may ended = says-so what rest may ended
      go Host (Started note base) rest may ended = refl
      go Host Lost rest may ended = rest ended
      go Host (Changed place byte) rest may ended = rest ended
      go Host (Added byte) rest may ended = rest ended
      go Equipment (Did (Does own)) rest may ended = rest (tool-own own ended)
        where
          tool-own : (own : Own)
              → AreEnded (notes_at (record { side = Equipment; moment = move.moment; kind = Did (Does own) } ∷ before))
              → AreEnded (notes_at before)
          tool-own (SentMessage message) ended = ended
          tool-own (ReceivedMessage message) ended = ended
          tool-own (DrewNumber number) ended = ended
          tool-own (GaveBlock place number) ended = ended
          tool-own (WroteFrame place number) ended = ended
          tool-own (HeardBlock block now flow) ended = ended
          tool-own (DroppedMessage header now) ended = ended
      go Equipment (Did (Gives place number block now)) rest may ended = rest ended
      go Equipment (Did (Calls call)) rest may ended = rest ended
      go Equipment (Did (Says what)) rest may ended = rest ended
      go Equipment (Started note base) rest may ended = rest ended
      go Equipment Lost rest may ended = rest ended
      go Equipment (Changed place byte) rest may ended = rest ended
      go Equipment (Added byte) rest may ended = rest ended

  -- a move less keeps it
  turns-less : (side : Side) (moment : ℕ) (noted : Option Happening) (before : List Move)
      → WriteInTurn (noted_by Host (with_note moment side noted (log_of before)))
      → WriteInTurn (notes_at before)
  turns-less side moment None before turns = turns
  turns-less Equipment moment (Some what) before turns = turns
  turns-less Host moment (Some what) before turns = less what turns
    where
      less : (what : Happening) → WriteInTurn (what ∷ notes_at before) → WriteInTurn (notes_at before)
      less (Happening.Wrote characters) turns = turns.1
      less what turns = turns

  pub listing-kept : (moves : List Move) → KeepsOwing moves → WriteInTurn (notes_at moves) → KeepsListing plans moves
  listing-kept [] kept turns = tt
  listing-kept (move ∷ before) kept turns = (
    one move.side move.kind kept.0 turns,
    listing-kept before kept.1 (turns-less move.side move.moment (noted_at move.side move.kind) before turns),
  )
    where
      says-one : (what : Happening) → MayDoOwing (owed_in (doings_at before)) (Says what)
          → WriteInTurn (what ∷ notes_at before) → MayDoListing (owed_in (doings_at before)) (Says what)
      says-one (Happening.Wrote characters) may turns = owes-none before kept.1 turns.0
      says-one what may turns = may

      one : (side : Side) (kind : Kind) → MayMoveOwing side before kind
          → WriteInTurn (notes_at (record { side = side; moment = move.moment; kind = kind } ∷ before))
          → MayListAt side plans before kind
      one Equipment kind may turns = tt
      one Host (Did (Does own)) may turns = may
      one Host (Did (Gives place number block now)) may turns = may
      one Host (Did (Calls call)) may turns = may
      one Host (Did (Says what)) may turns = says-one what may turns
      one Host (Started note base) may turns = tt
      one Host Lost may turns = tt
      one Host (Changed place byte) may turns = tt
      one Host (Added byte) may turns = tt
