-- What comes of an event at the end of which there is power again.
use Rattle.std.proofs.Common.{◌≡◌, ℕ, List, refl, sym, ap, subst, ◌∙◌, append-nil, Option, None, Some}
use Rattle.disk_base.specs.declared.cut.CutChoice.{CutChoice}
use Rattle.gl_base.specs.declared.side.Side.{Side}
use Rattle.line_schedule.specs.declared.event.Event.{Event}
use Rattle.line_schedule.specs.declared.event.Event.TheVariants as events
use Rattle.trace_log.specs.declared.commands.HostCommand.{HostCommand}
use Rattle.trace_log.specs.declared.commands.ToolCommand.{ToolCommand}
use Rattle.end_pair.specs.declared.answers.WorldStep.{WorldStep}
use Rattle.end_pair.specs.declared.answers.WorldStep.TheVariants.{Went, Slip, Turns, NumbersSpent, JournalFull, PowerLost, NoMemory}
use Rattle.end_pair.specs.Kept.{IsDark, IsPowered, KeptEnd, Makes, Puts, seen}
use Rattle.end_pair.specs.World.{Piece, World, after_event, and_more, and_on, armed, ended_by, happened, met, still, without}
use Rattle.end_pair.proofs.Pieces.{comes_more, comes_on}

-- a text that was put for how it went was put for power where that has some
pub powered_by : (how : WorldStep) (text old lines : List ℕ) (result : WorldStep)
    → ((whose : Side) → how ≡ PowerLost whose → ⊥)
    → Puts how text old lines result → IsPowered result
powered_by how text old lines (PowerLost whose) powered puts = powered whose puts.0
powered_by how text old lines Went powered puts = tt
powered_by how text old lines Slip powered puts = tt
powered_by how text old lines Turns powered puts = tt
powered_by how text old lines NumbersSpent powered puts = tt
powered_by how text old lines JournalFull powered puts = tt
powered_by how text old lines NoMemory powered puts = tt

module _ {E H S T : Type 0} (e : KeptEnd E S ToolCommand) (h : KeptEnd H T HostCommand) where
  abbrev see : World E H → World S T
  see = seen e.means h.means

  abbrev lost_by : Side → World S T → Piece S T
  lost_by = without e.machine h.machine

  abbrev ended : Option Side → WorldStep → Piece S T → Piece S T
  ended = ended_by e.machine h.machine

  -- it was lost on the way
  pub ends_lost :
      (cut : Option Side) (whose : Side) (piece : Piece S T) (mid new : World E H) (old between lines : List ℕ)
      (answer : WorldStep)
      → Makes e h piece mid old between (PowerLost whose)
      → ((left : World S T) → IsDark e h whose mid left → Makes e h (lost_by whose left) new between lines answer)
      → Makes e h (ended cut piece.went piece) new old lines answer
  ends_lost cut whose piece mid new old between lines answer one over =
      subst (λ (p : Piece S T). Makes e h p new old lines answer)
      (sym (ap (λ (w : WorldStep). ended cut w piece) one.puts.0 ∙ by_cut cut))
      (comes_on see (IsDark e h) piece (lost_by whose) new old between lines answer one.puts.1
      (over piece.world one.world))
    where
      by_cut : (cut : Option Side) → ended cut (PowerLost whose) piece ≡ and_on Went piece (lost_by whose)
      by_cut None = refl
      by_cut (Some side) = refl

  -- or at the end
  pub ends_cut :
      (side : Side) (piece : Piece S T) (mid dark new : World E H) (old between lines : List ℕ) (answer : WorldStep)
      → Makes e h piece mid old between Went → IsDark e h side dark (see mid)
      → ((left : World S T) → IsDark e h side dark left → Makes e h (lost_by side left) new between lines answer)
      → Makes e h (ended (Some side) piece.went piece) new old lines answer
  ends_cut side piece mid dark new old between lines answer one is_dark over =
      subst (λ (p : Piece S T). Makes e h p new old lines answer)
      (sym (ap (λ (w : WorldStep). ended (Some side) w piece) one.puts.0))
      (comes_on see (IsDark e h) piece (lost_by side) new old between lines answer one.puts.1
      (over piece.world (subst (IsDark e h side dark) one.world is_dark)))

  abbrev pub planned_at : Side → ℕ → Event → World S T → Piece S T
  planned_at side call event world = and_more (armed side call world) (happened e.machine h.machine event)

  -- its power is to go at a call
  pub planned_comes :
      (side : Side) (call : ℕ) (event : Event) (was mid new : World E H) (old lines : List ℕ) (answer : WorldStep)
      → see mid ≡ (armed side call (see was)).world
      → Makes e h (happened e.machine h.machine event (see mid)) new old lines answer
      → Makes e h (planned_at side call event (see was)) new old lines answer
  planned_comes side call event was mid new old lines answer same here =
      comes_more see (IsDark e h) (armed side call (see was)) (happened e.machine h.machine event) mid new old old lines
      answer (record { puts = (refl, sym (append-nil old)); world = same }) here

  -- an event that is no cut meets what was planned
  pub meets : (event : Event) (world : World S T)
      → ((call : ℕ) (choice : CutChoice) → event ≡ events.Cut call choice → ⊥)
      → ((call : ℕ) (choice : CutChoice) → event ≡ events.HostCut call choice → ⊥)
      → after_event e.machine h.machine event world ≡ met e.machine h.machine event world.cut world
  meets (events.Cut call choice) world other host = absurd (other call choice refl)
  meets (events.HostCut call choice) world other host = absurd (host call choice refl)
  meets (events.To side n) world other host = refl
  meets (events.Lose side n) world other host = refl
  meets (events.Change side place byte) world other host = refl
  meets (events.Add side byte) world other host = refl
  meets events.Settle world other host = refl
  meets (events.Wait ms) world other host = refl
  meets (events.Tool command) world other host = refl
  meets (events.Host command) world other host = refl

  -- nothing is put
  pub still_comes : (now : World E H) (left : World S T) (lines : List ℕ) → see now ≡ left
      → Makes e h (still left) now lines lines Went
  still_comes now left lines same = record { puts = (refl, sym (append-nil lines)); world = same }
