-- Runs over a link in examples that can be followed by hand: one that is a course of its end, and others that are none.
-- Entries have the newest first.
use Rattle.std.specs.Prelude.{ℕ, false, ◌+◌, List, [], ◌∷◌, Some, None}
use Rattle.gl_base.specs.declared.side.Side.TheVariants as side
use Rattle.line_end.specs.State.{LineState}
use Rattle.message_end.specs.Core.{Step, Went}
use Rattle.message_end.specs.Core.Went.{Goes}
use Rattle.message_end.specs.Ends.{Input, Machine, none_asked}
use Rattle.message_end.specs.Ends.Input.{Time}
use Rattle.trace_log.specs.Log.{Entry, Happening}
use Rattle.trace_log.specs.Log.Entry.{Noted}
use Rattle.trace_log.specs.Text.{text_of}
use Rattle.end_run.specs.Acts.{Act}
use Rattle.end_run.specs.Acts.Act.{Connects, Stands, Writes}
use Rattle.end_run.specs.Pieces.{Piece}
use Rattle.end_run.specs.declared.ending.Ending.TheVariants as ending
use Rattle.link_courses.specs.Courses.{IsCourse}

-- ---- an end

-- one that counts its steps, and notes the number of each; whatever its line is
abbrev pub counts : ℕ → Input (Unit {0}) → ℕ → Went ℕ Happening
counts s input now =
    Goes (record { next = s + 1; notes = Happening.Set s ∷ Happening.StepEnded ∷ []; written = [] })

abbrev pub begins : Step ℕ Happening
begins = record { next = 0; notes = Happening.HostStarted None ∷ []; written = [] }

abbrev pub counter : LineState → Machine ℕ (Unit {0})
counter line = record {
  act = counts;
  restart = λ s now. Goes begins;
  line = λ s. line;
  lacks_room = λ s input now. false;
  stops = λ s input now. [];
  start_stops = [];
  asks = λ s input now. none_asked;
  start_asks = none_asked;
  losses = λ s input now. [];
  first_use = λ s. none_asked;
  anew_use = λ s. none_asked;
}

-- ---- its acts

abbrev pub CountsAct : Type 0
CountsAct = Act ℕ (Unit {0})

abbrev pub writes : List Entry → CountsAct
writes entries = Writes entries (text_of entries)

-- a step with time, at a moment, of so many before; and its entries
abbrev pub stands : ℕ → ℕ → CountsAct
stands now before =
    Stands (record { side = side.Host; moment = now; state = before; input = Time }) [] none_asked (Some (before + 1))

abbrev pub noted_at : ℕ → ℕ → List Entry
noted_at now before =
    Noted now side.Host Happening.StepEnded ∷ Noted now side.Host (Happening.Set before) ∷ []

abbrev pub closed_at : ℕ → List Entry
closed_at now = Noted now side.Host Happening.Closed ∷ []

abbrev pub opens : List CountsAct → List CountsAct
opens acts = writes (Noted 0 side.Host (Happening.HostStarted None) ∷ []) ∷ Connects ∷ acts

abbrev pub goes_on : ℕ → List CountsAct → Piece ℕ (Unit {0})
goes_on end acts = record { end = end; acts = opens acts; ended = None }

abbrev pub closes : ℕ → List CountsAct → Piece ℕ (Unit {0})
closes end acts = record { end = end; acts = opens acts; ended = Some ending.Closed }

-- ---- runs

-- two steps, and the peer closes the connection
abbrev pub whole : Piece ℕ (Unit {0})
whole = closes 2 (stands 0 0 ∷ writes (noted_at 0 0) ∷ stands 5 1 ∷ writes (noted_at 5 1) ∷ writes (closed_at 5) ∷ [])

-- it notes what no step has made; the notes of a step twice; nothing of a step; or that of another end
abbrev pub invented : Piece ℕ (Unit {0})
invented = goes_on 1 (stands 0 0 ∷ writes (Noted 0 side.Host (Happening.Set 9) ∷ noted_at 0 0) ∷ [])

abbrev pub repeated : Piece ℕ (Unit {0})
repeated = goes_on 1 (stands 0 0 ∷ writes (noted_at 0 0) ∷ writes (noted_at 0 0) ∷ [])

abbrev pub forgotten : Piece ℕ (Unit {0})
forgotten = goes_on 2 (stands 0 0 ∷ writes (noted_at 0 0) ∷ stands 5 1 ∷ [])

abbrev pub of_other : Piece ℕ (Unit {0})
of_other =
    goes_on 1 (stands 0 0 ∷ writes (noted_at 0 0) ∷ writes (Noted 0 side.Equipment Happening.StepEnded ∷ []) ∷ [])

-- the closing amid the steps, and where the run goes on; and a run that ends so without it
abbrev pub closed_amid : Piece ℕ (Unit {0})
closed_amid =
    closes 2 (stands 0 0 ∷ writes (noted_at 0 0) ∷ writes (closed_at 0) ∷ stands 5 1 ∷ writes (noted_at 5 1) ∷ [])

abbrev pub closed_early : Piece ℕ (Unit {0})
closed_early = goes_on 1 (stands 0 0 ∷ writes (noted_at 0 0) ∷ writes (closed_at 0) ∷ [])

abbrev pub unclosed : Piece ℕ (Unit {0})
unclosed = closes 1 (stands 0 0 ∷ writes (noted_at 0 0) ∷ [])

-- the end is left another than its steps have made it
abbrev pub elsewhere : Piece ℕ (Unit {0})
elsewhere = goes_on 7 (stands 0 0 ∷ writes (noted_at 0 0) ∷ [])

abbrev pub IsItsCourse : LineState → Piece ℕ (Unit {0}) → Type 0
IsItsCourse line run = IsCourse (counter line) begins side.Host run

pub record TellsItsCourse : Type 0 where
  pub noted : (line : LineState) → IsItsCourse line whole
  pub of_no_step : (line : LineState) → IsItsCourse line invented → ⊥
  pub twice : (line : LineState) → IsItsCourse line repeated → ⊥
  pub nothing : (line : LineState) → IsItsCourse line forgotten → ⊥
  pub of_no_other : (line : LineState) → IsItsCourse line of_other → ⊥
  pub amid : (line : LineState) → IsItsCourse line closed_amid → ⊥
  pub early : (line : LineState) → IsItsCourse line closed_early → ⊥
  pub missing : (line : LineState) → IsItsCourse line unclosed → ⊥
  pub other_end : (line : LineState) → IsItsCourse line elsewhere → ⊥
