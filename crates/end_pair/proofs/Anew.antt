-- An end starts anew behind a loss of power.
use Rattle.std.proofs.Common.{◌≡◌, ◌≢◌, ◌⊎◌, ℕ, List, ◌∷◌, inl, inr, Option, None, Some, refl, sym, ap, subst, ◌∙◌}
use Rattle.gl_base.specs.declared.side.Side.{Side}
use Rattle.gl_base.specs.declared.side.Side.TheVariants.{Equipment, Host}
use Rattle.line_way.specs.Kept.{without_power}
use Rattle.line_way.specs.Ways.{Ways}
use Rattle.message_end.specs.Core.{Went as WentTo, step_in}
use Rattle.message_end.specs.Core.Went.{Goes, Spent}
use Rattle.message_end.specs.Ends.{Machine, Reach, reach_behind}
use Rattle.trace_log.specs.Log.{Happening}
use Rattle.trace_log.specs.Log.Happening.{Power}
use Rattle.trace_log.specs.Text.{text_of}
use Rattle.trace_log.specs.declared.commands.HostCommand.{HostCommand}
use Rattle.trace_log.specs.declared.commands.ToolCommand.{ToolCommand}
use Rattle.end_pair.specs.declared.answers.WorldStep.{WorldStep}
use Rattle.end_pair.specs.declared.answers.WorldStep.TheVariants.{Went, Slip, Turns, NumbersSpent, JournalFull, PowerLost, NoMemory}
use Rattle.end_pair.specs.Kept.{Comes, IfLeft, IfWent, IsDark, KeptEnd, Makes, PutPart, Puts, gone, seen}
use Rattle.end_pair.specs.Steps.{entries_of}
use Rattle.end_pair.specs.World.{EndAt, Piece, World, again, and_on, darkened, ended_by, restart_of, started_anew, with_started, without}
use Rattle.end_pair.proofs.Pieces.{more_text, put_before}
use Rattle.end_pair.proofs.Turning.{same-world}

-- ---- no more comes of a piece that has ended otherwise

module _ {V S T : Type 0} (see : V → World S T) (Dark : Side → V → World S T → Type 0)
    (e : Machine S ToolCommand) (h : Machine T HostCommand) (cut : Option Side) (piece : Piece S T) where
  abbrev ended : WorldStep → Piece S T
  ended went = ended_by e h cut went piece

  -- it is as it was, or more comes behind it
  abbrev IsEither : Piece S T → Type 0
  IsEither whole = (whole ≡ piece) ⊎ ((side : Side) × (whole ≡ and_on Went piece (without e h side)))

  either : (went : WorldStep) → IsEither (ended went)
  either went = go cut went
    where
      go : (cut : Option Side) (went : WorldStep) → IsEither (ended_by e h cut went piece)
      go (Some side) Went = inr (side, refl)
      go None Went = inl refl
      go cut (PowerLost whose) = inr (whose, refl)
      go cut Slip = inl refl
      go cut Turns = inl refl
      go cut NumbersSpent = inl refl
      go cut JournalFull = inl refl
      go cut NoMemory = inl refl

  part : (old lines : List ℕ) → PutPart (text_of piece.entries) old lines → (whole : Piece S T) → IsEither whole
      → PutPart (text_of whole.entries) old lines
  part old lines put whole (inl is) = subst (λ (p : Piece S T). PutPart (text_of p.entries) old lines) (sym is) put
  part old lines put whole (inr (side, is)) =
      let text = more_text Went piece (without e h side) in
      subst (λ (p : Piece S T). PutPart (text_of p.entries) old lines) (sym is)
      (subst (λ (t : List ℕ). PutPart t old lines) (sym text.1)
      (put_before (text_of piece.entries) text.0 old lines put))

  pub comes_ended :
      (new : V) (old lines : List ℕ) (answer : WorldStep) → ((whose : Side) → answer ≢ PowerLost whose)
      → (cut ≡ None) ⊎ (answer ≢ Went)
      → Comes see Dark piece new old lines answer → Comes see Dark (ended piece.went) new old lines answer
  comes_ended new old lines answer powered stops here = go answer powered stops here
    where
      whole : (how : WorldStep) → piece.went ≡ how → ended how ≡ piece → ended piece.went ≡ piece
      whole how is same = ap ended is ∙ same

      keeps : (answer : WorldStep) → ended piece.went ≡ piece → Comes see Dark piece new old lines answer
          → Comes see Dark (ended piece.went) new old lines answer
      keeps answer same here = subst (λ (p : Piece S T). Comes see Dark p new old lines answer) (sym same) here

      uncut : cut ≡ None → ended Went ≡ piece
      uncut is = ap (λ (c : Option Side). ended_by e h c Went piece) is

      go : (answer : WorldStep) → ((whose : Side) → answer ≢ PowerLost whose) → (cut ≡ None) ⊎ (answer ≢ Went)
          → Comes see Dark piece new old lines answer → Comes see Dark (ended piece.went) new old lines answer
      go Went powered (inl is) here = keeps Went (whole Went here.puts.0 (uncut is)) here
      go Went powered (inr stops) here = absurd (stops refl)
      go (PowerLost whose) powered stops here = absurd (powered whose refl)
      go Slip powered stops here = keeps Slip (whole Slip here.puts.0 refl) here
      go Turns powered stops here = keeps Turns (whole Turns here.puts.0 refl) here
      go NumbersSpent powered stops here = keeps NumbersSpent (whole NumbersSpent here.puts.0 refl) here
      go JournalFull powered stops here = keeps JournalFull (whole JournalFull here.puts.0 refl) here
      go NoMemory powered stops here =
          record { puts = part old lines here.puts (ended piece.went) (either piece.went); world = tt }

-- ---- the start itself

module _ {E H S T : Type 0} (e : KeptEnd E S ToolCommand) (h : KeptEnd H T HostCommand) where
  abbrev see : World E H → World S T
  see = seen e.means h.means

  module _ (side : Side) (left : World S T) (now : World E H) where
    abbrev started : WentTo (EndAt side S T) Happening → Piece S T
    started went = started_anew e.machine h.machine side (darkened side left) went

    -- the world is that of the end's start
    abbrev pub IsStarted : WentTo (EndAt side S T) Happening → Type 0
    IsStarted went = see now ≡ with_started e.machine h.machine side (step_in went).next (darkened side left)

    powered : (went : WentTo (EndAt side S T) Happening) (whose : Side) → gone went ≡ PowerLost whose → ⊥
    powered (Goes step) whose is = absurd (cc)
    powered (Spent step) whose is = absurd (cc)

    world_for : (went : WentTo (EndAt side S T) Happening) (text old lines : List ℕ) (answer : WorldStep)
        → Puts (gone went) text old lines answer → IfWent answer (IsStarted went)
        → IfLeft answer (see now ≡ (started went).world) (λ whose. IsDark e h whose now (started went).world)
    world_for (Goes step) text old lines Went puts is = is
    world_for (Spent step) text old lines Went puts is = let other = puts.0 in absurd (cc)
    world_for went text old lines (PowerLost whose) puts is = absurd (powered went whose puts.0)
    world_for went text old lines Slip puts is = tt
    world_for went text old lines Turns puts is = tt
    world_for went text old lines NumbersSpent puts is = tt
    world_for went text old lines JournalFull puts is = tt
    world_for went text old lines NoMemory puts is = tt

    puts_for : (went : WentTo (EndAt side S T) Happening) (moment : ℕ) (old lines : List ℕ) (answer : WorldStep)
        → moment ≡ left.moment
        → Puts (gone went) (text_of (entries_of side moment (Power ∷ (step_in went).notes))) old lines answer
        → Puts (started went).went (text_of (started went).entries) old lines answer
    puts_for (Goes step) moment old lines answer same puts =
        subst (λ (m : ℕ). Puts Went (text_of (entries_of side m (Power ∷ step.notes))) old lines answer) same puts
    puts_for (Spent step) moment old lines answer same puts =
        subst (λ (m : ℕ). Puts NumbersSpent (text_of (entries_of side m (Power ∷ step.notes))) old lines answer) same
        puts

    again-comes :
        (went : WentTo (EndAt side S T) Happening) (moment : ℕ) (old lines : List ℕ) (answer : WorldStep)
        → moment ≡ left.moment → went ≡ restart_of e.machine h.machine side left
        → Puts (gone went) (text_of (entries_of side moment (Power ∷ (step_in went).notes))) old lines answer
        → IfWent answer (IsStarted went) → Makes e h (again e.machine h.machine side left) now old lines answer
    again-comes went moment old lines answer same is puts world =
        subst (λ (w : WentTo (EndAt side S T) Happening). Makes e h (started w) now old lines answer) is (record {
          puts = puts_for went moment old lines answer same puts;
          world = world_for went (text_of (entries_of side moment (Power ∷ (step_in went).notes))) old lines answer puts
              world;
        })

  both-went : (P Q R : Type 0) (answer : WorldStep) → (P → Q → R) → IfWent answer P → IfWent answer Q → IfWent answer R
  both-went P Q R Went make one two = make one two
  both-went P Q R (PowerLost whose) make one two = tt
  both-went P Q R Slip make one two = tt
  both-went P Q R Turns make one two = tt
  both-went P Q R NumbersSpent make one two = tt
  both-went P Q R JournalFull make one two = tt
  both-went P Q R NoMemory make one two = tt

  module _ (was : World E H) (left : World S T) (ways : Ways) (reach : Reach) where
    -- of the equipment
    pub equipment_again :
        (tool : E) (old lines : List ℕ) (answer : WorldStep) → IsDark e h Equipment was left
        → ways ≡ without_power Equipment was.ways
        → let went = e.anew was.equipment was.choice was.moment in
        Puts (gone went) (text_of (entries_of Equipment was.moment (Power ∷ (step_in went).notes))) old lines answer
        → IfWent answer (e.means tool ≡ (step_in went).next)
        → IfWent answer (reach ≡ reach_behind (e.machine.anew_use (e.means tool)))
        → Makes e h (again e.machine h.machine Equipment left)
        (record was { equipment = tool; ways = ways; reach = reach }) old lines answer
    equipment_again tool old lines answer dark emptied puts end plans =
        let went = e.anew was.equipment was.choice was.moment in
        let now : World E H = record was { equipment = tool; ways = ways; reach = reach } in
        again-comes Equipment left now went was.moment old lines answer dark.moment
        (dark.ends.0 was.moment ∙ ap (e.machine.restart left.equipment) dark.moment) puts
        (both-went (e.means tool ≡ (step_in went).next) (reach ≡ reach_behind (e.machine.anew_use (e.means tool)))
        (IsStarted Equipment left now went) answer
        (λ same uses.
        same-world (see now)
        (with_started e.machine h.machine Equipment (step_in went).next (darkened Equipment left)) same
        dark.ends.1.end_is (emptied ∙ ap (without_power Equipment) dark.ways) dark.moment dark.steps dark.cut
        (uses ∙ ap (λ (s : S). reach_behind (e.machine.anew_use s)) same) dark.ends.1.reach_is dark.choice) end plans)

    -- of the host
    pub host_again :
        (other : H) (old lines : List ℕ) (answer : WorldStep) → IsDark e h Host was left
        → ways ≡ without_power Host was.ways
        → let went = h.anew was.host was.choice was.moment in
        Puts (gone went) (text_of (entries_of Host was.moment (Power ∷ (step_in went).notes))) old lines answer
        → IfWent answer (h.means other ≡ (step_in went).next)
        → IfWent answer (reach ≡ reach_behind (h.machine.anew_use (h.means other)))
        → Makes e h (again e.machine h.machine Host left)
        (record was { host = other; ways = ways; host_reach = reach }) old lines answer
    host_again other old lines answer dark emptied puts end plans =
        let went = h.anew was.host was.choice was.moment in
        let now : World E H = record was { host = other; ways = ways; host_reach = reach } in
        again-comes Host left now went was.moment old lines answer dark.moment
        (dark.ends.0 was.moment ∙ ap (h.machine.restart left.host) dark.moment) puts
        (both-went (h.means other ≡ (step_in went).next) (reach ≡ reach_behind (h.machine.anew_use (h.means other)))
        (IsStarted Host left now went) answer
        (λ same uses.
        same-world (see now) (with_started e.machine h.machine Host (step_in went).next (darkened Host left))
        dark.ends.1.end_is same (emptied ∙ ap (without_power Host) dark.ways) dark.moment dark.steps dark.cut
        dark.ends.1.reach_is (uses ∙ ap (λ (s : T). reach_behind (h.machine.anew_use s)) same) dark.choice) end plans)
