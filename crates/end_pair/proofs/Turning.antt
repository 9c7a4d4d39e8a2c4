-- A step of one end, as the world's.
use Rattle.std.proofs.Common.{◌≡◌, ℕ, ◌+◌, ◌==◌, Bool, List, append-nil, if◌then◌else◌, refl, sym, ap, subst, ◌∙◌, Option}
use Rattle.std.proofs.lemmas.Bool.{eq-eqb, ne_eqb}
use Rattle.disk_base.specs.declared.cut.CutChoice.{CutChoice}
use Rattle.gl_base.specs.declared.side.Side.{Side}
use Rattle.gl_base.specs.declared.side.Side.TheVariants.{Equipment, Host}
use Rattle.line_way.specs.Ways.{Ways}
use Rattle.message_end.specs.Ends.{Input, Reach}
use Rattle.trace_log.specs.Text.{text_of}
use Rattle.trace_log.specs.declared.commands.HostCommand.{HostCommand}
use Rattle.trace_log.specs.declared.commands.ToolCommand.{ToolCommand}
use Rattle.end_pair.specs.declared.answers.WorldStep.{WorldStep}
use Rattle.end_pair.specs.declared.answers.WorldStep.TheVariants.{Went, Slip, Turns, NumbersSpent, JournalFull, PowerLost, NoMemory}
use Rattle.end_pair.specs.Kept.{IfLeft, IfWent, IsDark, KeptEnd, Makes, Puts, StartsAlike, seen}
use Rattle.end_pair.specs.Steps.{Stepped, stepped}
use Rattle.end_pair.specs.World.{Piece, World, equipment_makes, equipment_stepped, host_makes, host_stepped, most_steps, turned_out, with_equipment, with_host}
use Rattle.end_pair.proofs.Causes.{by-cause}

-- a world is what each part of it is
pub same-world :
    {S T : Type 0} (one two : World S T) → one.equipment ≡ two.equipment → one.host ≡ two.host → one.ways ≡ two.ways
    → one.moment ≡ two.moment → one.steps ≡ two.steps → one.cut ≡ two.cut → one.reach ≡ two.reach
    → one.host_reach ≡ two.host_reach → one.choice ≡ two.choice → one ≡ two
same-world {S} {T} one two equipment host ways moment steps cut reach host_reach choice =
    ap (λ (s : S). record one { equipment = s }) equipment
    ∙ ap (λ (t : T). record one { equipment = two.equipment; host = t }) host
    ∙ ap (λ (w : Ways). record one { equipment = two.equipment; host = two.host; ways = w }) ways
    ∙ ap (λ (m : ℕ). record one { equipment = two.equipment; host = two.host; ways = two.ways; moment = m }) moment
    ∙ ap
    (λ (n : ℕ).
    record two {
      steps = n;
      cut = one.cut;
      reach = one.reach;
      host_reach = one.host_reach;
      choice = one.choice;
    }) steps
    ∙ ap
    (λ (c : Option (Side × ℕ)).
    record two {
      cut = c;
      reach = one.reach;
      host_reach = one.host_reach;
      choice = one.choice;
    }) cut
    ∙ ap (λ (r : Reach). record two { reach = r; host_reach = one.host_reach; choice = one.choice }) reach
    ∙ ap (λ (r : Reach). record two { host_reach = r; choice = one.choice }) host_reach
    ∙ ap (λ (o : CutChoice). record two { choice = o }) choice

module _ {E H S T : Type 0} (e : KeptEnd E S ToolCommand) (h : KeptEnd H T HostCommand) where
  abbrev see : World E H → World S T
  see = seen e.means h.means

  -- ---- no step is left

  out-comes : (world : World S T) (piece : Piece S T) (now : World E H) (lines : List ℕ) → world.steps ≡ most_steps
      → Makes e h (if world.steps == most_steps then turned_out world else piece) now lines lines Turns
  out-comes world piece now lines out =
      subst (λ (b : Bool). Makes e h (if b then turned_out world else piece) now lines lines Turns)
      (sym (eq-eqb world.steps most_steps out)) (record { puts = (refl, sym (append-nil lines)); world = tt })

  pub equipment_out : (input : Input ToolCommand) (world : World S T) (now : World E H) (lines : List ℕ)
      → world.steps ≡ most_steps → Makes e h (equipment_stepped e.machine h.machine input world) now lines lines Turns
  equipment_out input world now lines out =
      out-comes world (with_equipment e.machine h.machine world (equipment_makes e.machine h.machine input world)) now
      lines out

  pub host_out : (input : Input HostCommand) (world : World S T) (now : World E H) (lines : List ℕ)
      → world.steps ≡ most_steps → Makes e h (host_stepped e.machine h.machine input world) now lines lines Turns
  host_out input world now lines out =
      out-comes world (with_host e.machine h.machine world (host_makes e.machine h.machine input world)) now lines out

  -- ---- one is left

  step-comes : (world : World S T) (piece : Piece S T) (now : World E H) (old lines : List ℕ) (answer : WorldStep)
      → (world.steps ≡ most_steps → ⊥) → Makes e h piece now old lines answer
      → Makes e h (if world.steps == most_steps then turned_out world else piece) now old lines answer
  step-comes world piece now old lines answer more makes =
      subst (λ (b : Bool). Makes e h (if b then turned_out world else piece) now old lines answer)
      (sym (ne_eqb world.steps most_steps more)) makes

  -- what the code says that a step of an end leaves
  abbrev pub LeavesEnd :
      {V R C : Type 0} → KeptEnd V R C → CutChoice → V → Ways → Stepped R → Reach → WorldStep → Type 0
  LeavesEnd one choice end ways step reach answer =
      IfLeft answer (one.means end ≡ step.end)
      (λ whose. StartsAlike one.anew one.machine.restart choice end step.end)
      × IfLeft answer (ways ≡ step.ways) (λ whose. ways ≡ step.ways) × IfWent answer (reach ≡ step.reach)

  -- that a step loses the power of its own end alone
  abbrev IsOwn : {R : Type 0} → Side → Stepped R → Type 0
  IsOwn side step = (whose : Side) → step.went ≡ PowerLost whose → whose ≡ side

  -- of the equipment
  module _ (step : Stepped S) (was : World E H) (moved : ℕ) (tool : E) (ways : Ways) (reach : Reach) where
    abbrev tool_now : World E H
    tool_now =
        record was {
          equipment = tool;
          ways = ways;
          moment = moved;
          steps = was.steps + 1;
          reach = reach;
        }

    abbrev moved_on : World S T
    moved_on = record (see was) { moment = moved }

    abbrev tool_piece : Piece S T
    tool_piece = with_equipment e.machine h.machine moved_on step

    tool_world : (text old lines : List ℕ) (answer : WorldStep) → IsOwn Equipment step
        → Puts step.went text old lines answer → LeavesEnd e was.choice tool ways step reach answer
        → IfLeft answer (see tool_now ≡ tool_piece.world) (λ whose. IsDark e h whose tool_now tool_piece.world)
    tool_world text old lines Went own puts leaves =
        same-world (see tool_now) tool_piece.world leaves.0 refl leaves.1 refl refl refl leaves.2 refl refl
    tool_world text old lines (PowerLost Equipment) own puts leaves = record {
      ends = (leaves.0, record { end_is = refl; reach_is = refl });
      ways = leaves.1;
      moment = refl;
      steps = refl;
      cut = refl;
      choice = refl;
    }
    tool_world text old lines (PowerLost Host) own puts leaves = let same = own Host puts.0 in absurd (cc)
    tool_world text old lines Slip own puts leaves = tt
    tool_world text old lines Turns own puts leaves = tt
    tool_world text old lines NumbersSpent own puts leaves = tt
    tool_world text old lines JournalFull own puts leaves = tt
    tool_world text old lines NoMemory own puts leaves = tt

  pub equipment_comes :
      (input : Input ToolCommand) (was : World E H) (moved : ℕ) (tool : E) (ways : Ways) (reach : Reach)
      (old lines : List ℕ) (answer : WorldStep)
      → let step = stepped e.machine Equipment moved was.reach was.choice input (e.means was.equipment) was.ways in
      (was.steps ≡ most_steps → ⊥) → Puts step.went (text_of step.entries) old lines answer
      → LeavesEnd e was.choice tool ways step reach answer
      → Makes e h (equipment_stepped e.machine h.machine input (record (see was) { moment = moved }))
      (tool_now (equipment_makes e.machine h.machine input (record (see was) { moment = moved })) was moved tool ways
      reach) old lines answer
  equipment_comes input was moved tool ways reach old lines answer more puts leaves =
      let step : Stepped S =
      stepped e.machine Equipment moved was.reach was.choice input (e.means was.equipment) was.ways in
      step-comes (record (see was) { moment = moved }) (tool_piece step was moved tool ways reach)
      (tool_now step was moved tool ways reach) old lines answer more
      (record {
        puts = puts;
        world =
            tool_world step was moved tool ways reach (text_of step.entries) old lines answer
            (by-cause e.machine Equipment moved was.reach was.choice input (e.means was.equipment)
            was.ways).no_other_end puts leaves;
      })

  -- of the host
  module _ (step : Stepped T) (was : World E H) (other : H) (ways : Ways) (reach : Reach) where
    abbrev user_now : World E H
    user_now = record was { host = other; ways = ways; steps = was.steps + 1; host_reach = reach }

    abbrev user_piece : Piece S T
    user_piece = with_host e.machine h.machine (see was) step

    user_world : (text old lines : List ℕ) (answer : WorldStep) → IsOwn Host step
        → Puts step.went text old lines answer → LeavesEnd h was.choice other ways step reach answer
        → IfLeft answer (see user_now ≡ user_piece.world) (λ whose. IsDark e h whose user_now user_piece.world)
    user_world text old lines Went own puts leaves =
        same-world (see user_now) user_piece.world refl leaves.0 leaves.1 refl refl refl refl leaves.2 refl
    user_world text old lines (PowerLost Host) own puts leaves = record {
      ends = (leaves.0, record { end_is = refl; reach_is = refl });
      ways = leaves.1;
      moment = refl;
      steps = refl;
      cut = refl;
      choice = refl;
    }
    user_world text old lines (PowerLost Equipment) own puts leaves =
        let same = own Equipment puts.0 in absurd (cc)
    user_world text old lines Slip own puts leaves = tt
    user_world text old lines Turns own puts leaves = tt
    user_world text old lines NumbersSpent own puts leaves = tt
    user_world text old lines JournalFull own puts leaves = tt
    user_world text old lines NoMemory own puts leaves = tt

  pub host_comes :
      (input : Input HostCommand) (was : World E H) (other : H) (ways : Ways) (reach : Reach)
      (old lines : List ℕ) (answer : WorldStep)
      → let step = stepped h.machine Host was.moment was.host_reach was.choice input (h.means was.host) was.ways in
      (was.steps ≡ most_steps → ⊥) → Puts step.went (text_of step.entries) old lines answer
      → LeavesEnd h was.choice other ways step reach answer
      → Makes e h (host_stepped e.machine h.machine input (see was))
      (user_now (host_makes e.machine h.machine input (see was)) was other ways reach) old lines answer
  host_comes input was other ways reach old lines answer more puts leaves =
      let step : Stepped T =
      stepped h.machine Host was.moment was.host_reach was.choice input (h.means was.host) was.ways in
      step-comes (see was) (user_piece step was other ways reach) (user_now step was other ways reach) old lines
      answer more
      (record {
        puts = puts;
        world =
            user_world step was other ways reach (text_of step.entries) old lines answer
            (by-cause h.machine Host was.moment was.host_reach was.choice input (h.means was.host)
            was.ways).no_other_end puts leaves;
      })
