-- How a run goes, and what the newest entry of its log is.
use Rattle.std.proofs.Common.{◌≡◌, ◌≢◌, ◌⊎◌, zero, suc, ℕ, ◌==◌, Bool, true, false, List, [], ◌∷◌, ◌++◌, Option, Some, None, inl, inr, if◌then◌else◌, refl, sym, ◌∙◌}
use Rattle.disk_base.specs.declared.cut.CutChoice.{CutChoice}
use Rattle.gl_base.specs.declared.side.Side.{Side}
use Rattle.gl_base.specs.declared.side.Side.TheVariants.{Equipment, Host}
use Rattle.line_schedule.specs.declared.event.Event.{Event}
use Rattle.line_schedule.specs.declared.event.Event.TheVariants as event
use Rattle.line_way.specs.Ways.{Ways, characters_of, is_under_way, next_byte}
use Rattle.message_end.specs.Core.{Step, Went}
use Rattle.message_end.specs.Core.Went.{Goes, Spent}
use Rattle.message_end.specs.Ends.{Input, Machine, Passing, Reach, passing, wrote}
use Rattle.message_end.specs.Ends.Passing.{Cuts, Lacks, Passes}
use Rattle.message_end.specs.Ends.Input.{Char, Command, Time}
use Rattle.trace_log.specs.Laws.{log_with}
use Rattle.trace_log.specs.Log.{Entry, Happening}
use Rattle.trace_log.specs.Log.Entry.{Ended, Noted, Slipped}
use Rattle.trace_log.specs.Log.Happening.{Power}
use Rattle.trace_log.specs.declared.commands.HostCommand.{HostCommand}
use Rattle.trace_log.specs.declared.commands.ToolCommand.{ToolCommand}
use Rattle.end_pair.specs.declared.answers.WorldStep.{WorldStep}
use Rattle.end_pair.specs.declared.answers.WorldStep.TheVariants as answer
use Rattle.end_pair.specs.Laws.{AreNotes, AreNotesBefore, EndsOneWay, IsEnd, IsSlip, NeverLacksRoom, OnNewest}
use Rattle.end_pair.specs.Run.{closing, piece_of, whole_log}
use Rattle.end_pair.specs.Steps.{Stepped, entries_of, made, made_by, slipped, slips, spent_for, stepped, stopped_for}
use Rattle.end_pair.specs.World.{EndAt, Piece, World, after_event, after_events, again, and_more, and_on, armed, at_start, begun, both_stepped, darkened, ended_by, equipment_makes, equipment_stepped, given, given_next, given_times, happened, host_makes, host_stepped, later, met, most_steps, restart_of, settled, settled_times, started_anew, still, timed, turned_out, way_to, with_equipment, with_host, without}
use Rattle.end_pair.proofs.Powered.{IsPoweredPiece, run-powered}

-- ---- entries

both-notes : (one two : List Entry) → AreNotes one → AreNotes two → AreNotes (one ++ two)
both-notes [] two first second = second
both-notes (entry ∷ one) two (is, first) second = (is, both-notes one two first second)

-- what ends have noted
noted-notes : (now : ℕ) (side : Side) (notes : List Happening) (log : List Entry) → AreNotes log
    → AreNotes (log_with now side notes log)
noted-notes now side [] log are = are
noted-notes now side (what ∷ notes) log are = noted-notes now side notes (Noted now side what ∷ log) (tt, are)

notes-before : (log : List Entry) → AreNotes log → AreNotesBefore log
notes-before [] are = tt
notes-before (entry ∷ log) (is, are) = are

-- none of them is a slip or the end
no-slip : (log : List Entry) → AreNotes log → OnNewest IsSlip log → ⊥
no-slip [] are newest = newest
no-slip (Noted moment side what ∷ log) (is, are) newest = newest
no-slip (Slipped moment side frame characters ∷ log) (is, are) newest = is
no-slip (Ended moment ∷ log) (is, are) newest = is

no-end : (log : List Entry) → AreNotes log → OnNewest IsEnd log → ⊥
no-end [] are newest = newest
no-end (Noted moment side what ∷ log) (is, are) newest = newest
no-end (Slipped moment side frame characters ∷ log) (is, are) newest = is
no-end (Ended moment ∷ log) (is, are) newest = is

-- a slip isn't the end
slip-no-end : (log : List Entry) → OnNewest IsSlip log → OnNewest IsEnd log → ⊥
slip-no-end [] slip end = end
slip-no-end (Noted moment side what ∷ log) slip end = end
slip-no-end (Slipped moment side frame characters ∷ log) slip end = end
slip-no-end (Ended moment ∷ log) slip end = slip

-- a slip is the newest entry, and all before it are notes
pub record HasSlipped (entries : List Entry) : Type 0 where
  pub newest : OnNewest IsSlip entries
  pub before : AreNotesBefore entries

slipped-behind : (one two : List Entry) → OnNewest IsSlip one → AreNotesBefore one → AreNotes two
    → HasSlipped (one ++ two)
slipped-behind [] two newest before notes = absurd newest
slipped-behind (entry ∷ one) two newest before notes =
    record { newest = newest; before = both-notes one two before notes }

-- without a slip, and with steps, numbers and room left, a run is carried out
pub carried-out :
    (went : WorldStep) (log : List Entry) → EndsOneWay went log → (OnNewest IsSlip log → ⊥) → went ≢ answer.Turns
    → went ≢ answer.NumbersSpent → went ≢ answer.JournalFull → went ≡ answer.Went
carried-out went log ends no_slip no_turns no_numbers no_full = go ends.how
  where
    go : (went ≡ answer.Went)
        ⊎ ((went ≡ answer.Slip)
        ⊎ ((went ≡ answer.Turns) ⊎ ((went ≡ answer.NumbersSpent) ⊎ (went ≡ answer.JournalFull))))
        → went ≡ answer.Went
    go (inl whole) = whole
    go (inr (inl slip)) = absurd (no_slip (ends.slip.0 slip))
    go (inr (inr (inl turns))) = absurd (no_turns turns)
    go (inr (inr (inr (inl spent)))) = absurd (no_numbers spent)
    go (inr (inr (inr (inr full)))) = absurd (no_full full)

-- ---- a step

-- what some of a run has noted, by how it went, and what it can't have come to; where no end has a store of its own, it
-- isn't full
pub record IsSo (NoStore : Type 0) (entries : List Entry) (went : WorldStep) : Type 0 where
  pub slip : went ≡ answer.Slip → HasSlipped entries
  pub notes : went ≢ answer.Slip → AreNotes entries
  pub no_fault : went ≢ answer.NoMemory
  pub not_full : NoStore → went ≢ answer.JournalFull

-- only notes are made
only-notes :
    (NoStore : Type 0) (entries : List Entry) (how : WorldStep) → AreNotes entries → how ≢ answer.Slip
    → how ≢ answer.NoMemory → (NoStore → how ≢ answer.JournalFull) → IsSo NoStore entries how
only-notes NoStore entries how are no_slip no_memory not_full = record {
  slip = λ is. absurd (no_slip is);
  notes = λ other. are;
  no_fault = no_memory;
  not_full = not_full;
}

-- of all ends where it is so of one
of-both : (NoStore Both : Type 0) (entries : List Entry) (went : WorldStep) → (Both → NoStore)
    → IsSo NoStore entries went → IsSo Both entries went
of-both NoStore Both entries went one so = record {
  slip = so.slip;
  notes = so.notes;
  no_fault = so.no_fault;
  not_full = λ both. so.not_full (one both);
}

module _ {S C : Type 0} (machine : Machine S C) (side : Side) (now : ℕ) (reach : Reach) (choice : CutChoice)
    (input : Input C) (s : S) (ways : Ways) where
  abbrev IsSoStep : Stepped S → Type 0
  IsSoStep step = IsSo (NeverLacksRoom machine) step.entries step.went

  spent-so : (entries : List Entry) → AreNotes entries → (lacks_room : Bool)
      → machine.lacks_room s input now ≡ lacks_room
      → IsSo (NeverLacksRoom machine) entries (spent_for lacks_room)
  spent-so entries are false is =
      only-notes (NeverLacksRoom machine) entries answer.NumbersSpent are (λ is. cc) (λ is. cc) (λ never is. cc)
  spent-so entries are true is =
      only-notes (NeverLacksRoom machine) entries answer.JournalFull are (λ is. cc) (λ is. cc)
      (λ never full. let not = sym is ∙ never s input now in absurd (cc))

  made-so : (left : Reach) (went : Went S Happening) → IsSoStep (made machine side now left input s ways went)
  made-so left (Goes step) =
      only-notes (NeverLacksRoom machine) (entries_of side now (step.notes ++ wrote step.written)) answer.Went
      (noted-notes now side (step.notes ++ wrote step.written) [] tt) (λ is. cc) (λ is. cc) (λ never is. cc)
  made-so left (Spent step) =
      spent-so (entries_of side now step.notes) (noted-notes now side step.notes [] tt)
      (machine.lacks_room s input now) refl

  stopped-so : (entries : List Entry) → AreNotes entries → (is_lost : Bool)
      → IsSo (NeverLacksRoom machine) entries (stopped_for side is_lost)
  stopped-so entries are true =
      only-notes (NeverLacksRoom machine) entries (answer.PowerLost side) are (λ is. cc) (λ is. cc) (λ never is. cc)
  stopped-so entries are false =
      only-notes (NeverLacksRoom machine) entries answer.Turns are (λ is. cc) (λ is. cc) (λ never is. cc)

  by-so : (passed : Passing S) → IsSoStep (made_by machine side now choice input s ways passed)
  by-so (Passes left) = made-so left (machine.act s input now)
  by-so (Cuts loss) =
      stopped-so (entries_of side now loss.front) (noted-notes now side loss.front [] tt) true
  by-so (Lacks loss) =
      stopped-so (entries_of side now loss.front) (noted-notes now side loss.front [] tt) false

  step-so : IsSoStep (stepped machine side now reach choice input s ways)
  step-so = go (slips machine side now input s ways)
    where
      go : (b : Bool)
          → IsSoStep (if b then slipped side now reach s ways
          else made_by machine side now choice input s ways (passing reach (machine.losses s input now)))
      go true = record {
        slip = λ is. record { newest = tt; before = tt };
        notes = λ other. absurd (other refl);
        no_fault = λ is. cc;
        not_full = λ never is. cc;
      }
      go false = by-so (passing reach (machine.losses s input now))

-- ---- a run

module _ {S T : Type 0} (e : Machine S ToolCommand) (h : Machine T HostCommand) where
  abbrev NoStores : Type 0
  NoStores = NeverLacksRoom e × NeverLacksRoom h

  abbrev pub IsSoPiece : Piece S T → Type 0
  IsSoPiece piece = IsSo NoStores piece.entries piece.went

  notes-only : (entries : List Entry) (how : WorldStep) → AreNotes entries → how ≢ answer.Slip → how ≢ answer.NoMemory
      → how ≢ answer.JournalFull → IsSo NoStores entries how
  notes-only entries how are no_slip no_memory not_full =
      only-notes NoStores entries how are no_slip no_memory (λ none. not_full)

  abbrev Keeps : (World S T → Piece S T) → Type 0
  Keeps more = (world : World S T) → IsSoPiece (more world)

  still-keeps : Keeps still
  still-keeps world = notes-only [] answer.Went tt (λ is. cc) (λ is. cc) (λ is. cc)

  out-keeps : Keeps turned_out
  out-keeps world = notes-only [] answer.Turns tt (λ is. cc) (λ is. cc) (λ is. cc)

  -- behind what has noted no slip
  kept-on : (piece : Piece S T) (more : World S T → Piece S T) → AreNotes piece.entries → Keeps more
      → IsSoPiece (and_on answer.Went piece more)
  kept-on piece more notes keeps = record {
    slip = λ is.
        let slip = next.slip is in
        slipped-behind (more piece.world).entries piece.entries slip.newest slip.before notes;
    notes = λ other. both-notes (more piece.world).entries piece.entries (next.notes other) notes;
    no_fault = next.no_fault;
    not_full = next.not_full;
  }
    where
      next : IsSoPiece (more piece.world)
      next = keeps piece.world

  kept-then : (piece : Piece S T) (more : World S T → Piece S T) → IsSoPiece piece → Keeps more
      → IsSoPiece (and_more piece more)
  kept-then piece more so keeps = go piece.went refl
    where
      go : (went : WorldStep) → piece.went ≡ went → IsSoPiece (and_on went piece more)
      go answer.Went is = kept-on piece more (so.notes (λ slip. cc)) keeps
      go answer.Slip is = so
      go answer.Turns is = so
      go answer.NumbersSpent is = so
      go answer.JournalFull is = so
      go (answer.PowerLost whose) is = so
      go answer.NoMemory is = so

  keeps-then : (first more : World S T → Piece S T) → Keeps first → Keeps more
      → Keeps (λ world. and_more (first world) more)
  keeps-then first more one two world = kept-then (first world) more (one world) two

  equipment-keeps : (input : Input ToolCommand) → Keeps (equipment_stepped e h input)
  equipment-keeps input world = go (world.steps == most_steps)
    where
      step : Stepped S
      step = equipment_makes e h input world

      go : (b : Bool) → IsSoPiece (if b then turned_out world else with_equipment e h world step)
      go true = out-keeps world
      go false =
          of-both (NeverLacksRoom e) NoStores step.entries step.went (λ both. both.0)
          (step-so e Equipment world.moment world.reach world.choice input world.equipment world.ways)

  host-keeps : (input : Input HostCommand) → Keeps (host_stepped e h input)
  host-keeps input world = go (world.steps == most_steps)
    where
      step : Stepped T
      step = host_makes e h input world

      go : (b : Bool) → IsSoPiece (if b then turned_out world else with_host e h world step)
      go true = out-keeps world
      go false =
          of-both (NeverLacksRoom h) NoStores step.entries step.went (λ both. both.1)
          (step-so h Host world.moment world.host_reach world.choice input world.host world.ways)

  given-keeps : (side : Side) → Keeps (given e h side)
  given-keeps side world = go side (next_byte (characters_of (way_to side world).under_way))
    where
      go : (side : Side) (next : Option ℕ) → IsSoPiece (given_next e h side next world)
      go side None = still-keeps world
      go Equipment (Some byte) = equipment-keeps (Char byte) world
      go Host (Some byte) = host-keeps (Char byte) world

  times-keep : (n : ℕ) (side : Side) → Keeps (given_times e h n side)
  times-keep zero side = still-keeps
  times-keep (suc n) side =
      keeps-then (given e h side) (given_times e h n side) (given-keeps side) (times-keep n side)

  settled-keeps : Keeps (settled e h)
  settled-keeps world = go (is_under_way (characters_of (way_to Equipment world).under_way))
    where
      go : (b : Bool) → IsSoPiece (if b then given e h Equipment world else given e h Host world)
      go true = given-keeps Equipment world
      go false = given-keeps Host world

  settles-keep : (n : ℕ) → Keeps (settled_times e h n)
  unfolding settled_times
  settles-keep zero = still-keeps
  settles-keep (suc n) = keeps-then (settled e h) (settled_times e h n) settled-keeps (settles-keep n)

  both-keep : Keeps (both_stepped e h)
  both-keep =
      keeps-then (equipment_stepped e h Time) (host_stepped e h Time) (equipment-keeps Time) (host-keeps Time)

  -- nothing is noted
  quiet-keeps : IsSo NoStores [] answer.Went
  quiet-keeps = notes-only [] answer.Went tt (λ is. cc) (λ is. cc) (λ is. cc)

  happens-keeps : (event : Event) → Keeps (happened e h event)
  happens-keeps (event.To side n) = times-keep n side
  happens-keeps (event.Lose side n) = λ world. quiet-keeps
  happens-keeps (event.Change side place byte) = λ world. quiet-keeps
  happens-keeps (event.Add side byte) = λ world. quiet-keeps
  happens-keeps event.Settle = settles-keep 65536
  happens-keeps (event.Wait ms) = λ world. both-keep (later ms world)
  happens-keeps (event.Tool command) = equipment-keeps (Command command)
  happens-keeps (event.Host command) = host-keeps (Command command)
  happens-keeps (event.Cut call choice) = λ world. quiet-keeps
  happens-keeps (event.HostCut call choice) = λ world. quiet-keeps

  started-so : (side : Side) (world : World S T) (went : Went (EndAt side S T) Happening)
      → IsSoPiece (started_anew e h side world went)
  started-so side world (Goes step) =
      notes-only (entries_of side world.moment (Power ∷ step.notes)) answer.Went
      (noted-notes world.moment side (Power ∷ step.notes) [] tt) (λ is. cc) (λ is. cc) (λ is. cc)
  started-so side world (Spent step) =
      notes-only (entries_of side world.moment (Power ∷ step.notes)) answer.NumbersSpent
      (noted-notes world.moment side (Power ∷ step.notes) [] tt) (λ is. cc) (λ is. cc) (λ is. cc)

  timed-keeps : (side : Side) → Keeps (timed e h side)
  timed-keeps Equipment = equipment-keeps Time
  timed-keeps Host = host-keeps Time

  without-keeps : (side : Side) → Keeps (without e h side)
  without-keeps side world =
      kept-then (again e h side world) (timed e h side)
      (started-so side (darkened side world) (restart_of e h side world)) (timed-keeps side)

  ended-so : (cut : Option Side) (piece : Piece S T) → IsSoPiece piece → IsSoPiece (ended_by e h cut piece.went piece)
  ended-so cut piece so = go cut piece.went refl
    where
      again_so : (side : Side) → piece.went ≢ answer.Slip → IsSoPiece (and_on answer.Went piece (without e h side))
      again_so side other = kept-on piece (without e h side) (so.notes other) (without-keeps side)

      go : (cut : Option Side) (went : WorldStep) → piece.went ≡ went → IsSoPiece (ended_by e h cut went piece)
      go cut (answer.PowerLost whose) is = again_so whose (λ slip. cc)
      go (Some side) answer.Went is = again_so side (λ slip. cc)
      go None answer.Went is = so
      go cut answer.Slip is = so
      go cut answer.Turns is = so
      go cut answer.NumbersSpent is = so
      go cut answer.JournalFull is = so
      go cut answer.NoMemory is = so

  met-keeps : (event : Event) (cut : Option (Side × ℕ)) → Keeps (met e h event cut)
  met-keeps event None world = ended-so None (happened e h event world) (happens-keeps event world)
  met-keeps event (Some (side, call)) world =
      ended-so (Some side) (and_more (armed side call world) (happened e h event))
      (kept-then (armed side call world) (happened e h event) quiet-keeps (happens-keeps event))

  event-keeps : (event : Event) → Keeps (after_event e h event)
  event-keeps (event.To side n) = λ world. met-keeps (event.To side n) world.cut world
  event-keeps (event.Lose side n) = λ world. met-keeps (event.Lose side n) world.cut world
  event-keeps (event.Change side place byte) = λ world. met-keeps (event.Change side place byte) world.cut world
  event-keeps (event.Add side byte) = λ world. met-keeps (event.Add side byte) world.cut world
  event-keeps event.Settle = λ world. met-keeps event.Settle world.cut world
  event-keeps (event.Wait ms) = λ world. met-keeps (event.Wait ms) world.cut world
  event-keeps (event.Tool command) = λ world. met-keeps (event.Tool command) world.cut world
  event-keeps (event.Host command) = λ world. met-keeps (event.Host command) world.cut world
  event-keeps (event.Cut call choice) = happens-keeps (event.Cut call choice)
  event-keeps (event.HostCut call choice) = happens-keeps (event.HostCut call choice)

  events-keep : (events : List Event) → Keeps (after_events e h events)
  events-keep [] = still-keeps
  events-keep (event ∷ events) =
      keeps-then (after_event e h event) (after_events e h events) (event-keeps event) (events-keep events)

  start-so : (equipment : Step S Happening) (host : Step T Happening) → IsSoPiece (at_start e h equipment host)
  start-so equipment host =
      notes-only (log_with 0 Host host.notes (log_with 0 Equipment equipment.notes [])) answer.Went
      (noted-notes 0 Host host.notes (log_with 0 Equipment equipment.notes [])
      (noted-notes 0 Equipment equipment.notes [] tt))
      (λ is. cc) (λ is. cc) (λ is. cc)

  run-so : (equipment : Step S Happening) (host : Step T Happening) (events : List Event)
      → IsSoPiece (piece_of e h equipment host events)
  run-so equipment host events =
      kept-then (begun e h equipment host) (after_events e h events)
      (kept-then (at_start e h equipment host) (both_stepped e h) (start-so equipment host) both-keep)
      (events-keep events)

  -- with the entry of the end behind them, where it is carried out
  ends-so : (piece : Piece S T) → IsSoPiece piece → IsPoweredPiece piece → EndsOneWay piece.went (whole_log piece)
  ends-so piece so powered = go piece.went refl
    where
      unlogged : (how : WorldStep) → AreNotes piece.entries → how ≢ answer.Went → how ≢ answer.Slip
          → (how ≡ answer.Turns) ⊎ ((how ≡ answer.NumbersSpent) ⊎ (how ≡ answer.JournalFull))
          → EndsOneWay how piece.entries
      unlogged how are no_whole no_slip is = record {
        how = inr (inr is);
        whole = (λ whole. absurd (no_whole whole), λ end. absurd (no-end piece.entries are end));
        slip = (λ slip. absurd (no_slip slip), λ slip. absurd (no-slip piece.entries are slip));
        notes = notes-before piece.entries are;
      }

      go : (went : WorldStep) → piece.went ≡ went
          → EndsOneWay went (closing went piece.world.moment ++ piece.entries)
      go answer.Went is = record {
        how = inl refl;
        whole = (λ whole. tt, λ end. refl);
        slip = (λ slip. absurd (cc), λ slip. absurd slip);
        notes = so.notes (λ slip. cc);
      }
      go answer.Slip is =
          let slip = so.slip is in
          record {
            how = inr (inl refl);
            whole = (λ whole. absurd (cc), λ end. absurd (slip-no-end piece.entries slip.newest end));
            slip = (λ is. slip.newest, λ newest. refl);
            notes = slip.before;
          }
      go answer.Turns is =
          unlogged answer.Turns (so.notes (λ slip. cc)) (λ is. cc) (λ is. cc) (inl refl)
      go answer.NumbersSpent is =
          unlogged answer.NumbersSpent (so.notes (λ slip. cc)) (λ is. cc) (λ is. cc) (inr (inl refl))
      go answer.JournalFull is =
          unlogged answer.JournalFull (so.notes (λ slip. cc)) (λ is. cc) (λ is. cc) (inr (inr refl))
      go (answer.PowerLost whose) is = absurd (powered whose is)
      go answer.NoMemory is = absurd (so.no_fault is)

  pub five-ways : (equipment : Step S Happening) (host : Step T Happening) (events : List Event)
      → let piece = piece_of e h equipment host events in EndsOneWay piece.went (whole_log piece)
  five-ways equipment host events =
      ends-so (piece_of e h equipment host events) (run-so equipment host events)
      (run-powered e h equipment host events)

  -- with no store of an end's own none is full
  pub not-full : (equipment : Step S Happening) (host : Step T Happening) (events : List Event) → NeverLacksRoom e
      → NeverLacksRoom h → (piece_of e h equipment host events).went ≢ answer.JournalFull
  not-full equipment host events none none_there =
      (run-so equipment host events).not_full (none, none_there)
