-- What both ends note in a run, and when, is what their own courses bring.
use Rattle.std.proofs.Common.{◌≡◌, ◌≢◌, refl, sym, ap, subst, ◌∙◌, zero, suc, ℕ, ◌==◌, Bool, true, false, List, [], ◌∷◌, ◌++◌, append_assoc, append-nil, Option, Some, None, if◌then◌else◌}
use Rattle.gl_base.specs.declared.side.Side.{Side}
use Rattle.gl_base.specs.declared.side.Side.TheVariants.{Equipment, Host}
use Rattle.line_schedule.specs.declared.event.Event.{Event}
use Rattle.line_schedule.specs.declared.event.Event.TheVariants as event
use Rattle.line_way.specs.Ways.{characters_of, is_under_way, next_byte}
use Rattle.message_end.specs.Core.{Step, Went, step_in}
use Rattle.message_end.specs.Core.Went.{Goes, Spent}
use Rattle.message_end.specs.Course.{noted_behind}
use Rattle.message_end.specs.Course.Course.{Reached}
use Rattle.message_end.specs.Ends.{Input, Machine}
use Rattle.message_end.specs.Ends.Input.{Char, Command, Time}
use Rattle.trace_log.specs.Laws.{log_with}
use Rattle.trace_log.specs.Log.{Entry, Happening}
use Rattle.trace_log.specs.Log.Happening.{Power}
use Rattle.trace_log.specs.declared.commands.HostCommand.{HostCommand}
use Rattle.trace_log.specs.declared.commands.ToolCommand.{ToolCommand}
use Rattle.end_pair.specs.declared.answers.WorldStep.{WorldStep}
use Rattle.end_pair.specs.declared.answers.WorldStep.TheVariants as answer
use Rattle.end_pair.specs.Noted.{AreOfCourses, TimedNotes, noted_by, timed_behind, timed_by}
use Rattle.end_pair.specs.Run.{closing, log_of, piece_of}
use Rattle.end_pair.specs.Steps.{Stepped, entries_of}
use Rattle.end_pair.specs.World.{EndAt, Piece, World, added_to, after_event, after_events, again, and_more, and_on, armed, at_start, begun, both_stepped, changed_at, darkened, ended_by, equipment_makes, equipment_stepped, given, given_next, given_times, happened, host_makes, host_stepped, later, lost_from, met, most_steps, planned, settled, settled_times, started_anew, still, timed, turned_out, way_to, with_equipment, with_host, with_started, without}
use Rattle.end_pair.proofs.EndNoting.{HasAgain, HasNoted, IsAsNoted, IsBroken, IsNoted, IsReached, again-broken, again-goes, again-noted, again-reached, behind-other, noted-other, noted-own, other-entries, reached-noted, stays-reached, step-noted, timed-other, timed-own}
use Rattle.end_pair.proofs.Causes.{by-cause}
use Rattle.end_pair.proofs.Powered.{run-powered}

-- ---- both ends

module _ {E H : Type 0}
    (e : Machine E ToolCommand) (h : Machine H HostCommand) (equipment : Step E Happening) (host : Step H Happening)
  where
    pub record AreReached (world : World E H) (log : List Entry) : Type 0 where
      pub equipment_is : IsReached equipment e Equipment world.equipment log
      pub host_is : IsReached host h Host world.host log

    pub record AreNoted (log : List Entry) : Type 0 where
      pub equipment_is : IsNoted equipment e Equipment log
      pub host_is : IsNoted host h Host log

    -- an end has lost its power in a step
    abbrev AreBroken : Side → World E H → List Entry → Type 0
    AreBroken Equipment world log =
        IsBroken equipment e Equipment world.moment world.choice world.equipment log
        × IsReached host h Host world.host log
    AreBroken Host world log =
        IsReached equipment e Equipment world.equipment log
        × IsBroken host h Host world.moment world.choice world.host log

    pub record Good (piece : Piece E H) (before : List Entry) : Type 0 where
      pub noted : ((whose : Side) → piece.went ≢ answer.PowerLost whose) → AreNoted (piece.entries ++ before)
      pub on : piece.went ≡ answer.Went → AreReached piece.world (piece.entries ++ before)
      pub broken :
          (whose : Side) → piece.went ≡ answer.PowerLost whose → AreBroken whose piece.world (piece.entries ++ before)

    abbrev Keeps : (World E H → Piece E H) → Type 0
    Keeps more = (world : World E H) (log : List Entry) → AreReached world log → Good (more world) log

    noted-both : (world : World E H) (log : List Entry) → AreReached world log → AreNoted log
    noted-both world log at = record {
      equipment_is = reached-noted equipment e Equipment world.equipment log at.equipment_is;
      host_is = reached-noted host h Host world.host log at.host_is;
    }

    -- both ends are where they were
    goes-still : (world other : World E H) (log : List Entry) → other.equipment ≡ world.equipment
        → other.host ≡ world.host → AreReached world log → Good (still other) log
    goes-still world other log same_e same_h at = record {
      noted = λ other. noted-both world log at;
      on = λ on. record {
        equipment_is =
            subst (λ (s : E). IsReached equipment e Equipment s log) (sym same_e) at.equipment_is;
        host_is = subst (λ (s : H). IsReached host h Host s log) (sym same_h) at.host_is;
      };
      broken = λ whose dark. absurd (cc);
    }

    goes-out : (world : World E H) (log : List Entry) → AreReached world log → Good (turned_out world) log
    goes-out world log at =
        record {
          noted = λ other. noted-both world log at;
          on = λ on. absurd (cc);
          broken = λ whose dark. absurd (cc);
        }

    good-then :
        (piece : Piece E H) (before : List Entry) (rest : World E H → Piece E H) → Good piece before → Keeps rest
        → Good (and_more piece rest) before
    good-then piece before rest good keeps = go piece.went refl
      where
        go : (went : WorldStep) → piece.went ≡ went → Good (and_on went piece rest) before
        go answer.Went is =
            let next = keeps piece.world (piece.entries ++ before) (good.on is) in
            let same = append_assoc (rest piece.world).entries piece.entries before in
            record {
              noted = λ other. subst (λ (l : List Entry). AreNoted l) (sym same) (next.noted other);
              on = λ on. subst (λ (l : List Entry). AreReached (rest piece.world).world l) (sym same) (next.on on);
              broken = λ whose dark.
                  subst (λ (l : List Entry). AreBroken whose (rest piece.world).world l) (sym same)
                  (next.broken whose dark);
            }
        go answer.Slip is = good
        go answer.Turns is = good
        go answer.NumbersSpent is = good
        go answer.JournalFull is = good
        go (answer.PowerLost whose) is = good
        go answer.NoMemory is = good

    keeps-then : (first rest : World E H → Piece E H) → Keeps first → Keeps rest
        → Keeps (λ world. and_more (first world) rest)
    keeps-then first rest one two world log at = good-then (first world) log rest (one world log at) two

    equipment-keeps : (input : Input ToolCommand) → Keeps (equipment_stepped e h input)
    equipment-keeps input world log at = go (world.steps == most_steps)
      where
        step : Stepped E
        step = equipment_makes e h input world

        is : HasNoted equipment e Equipment step world.moment world.choice log
        is =
            step-noted equipment e Equipment world.moment world.reach world.choice input world.equipment
            world.ways log at.equipment_is

        other : IsAsNoted Host (step.entries ++ log) log
        other =
            other-entries e Equipment Host refl world.moment world.reach world.choice input world.equipment
            world.ways log

        host_at : IsReached host h Host world.host (step.entries ++ log)
        host_at = stays-reached host h Host world.host log (step.entries ++ log) other at.host_is

        own : (whose : Side) → step.went ≡ answer.PowerLost whose → whose ≡ Equipment
        own =
            (by-cause e Equipment world.moment world.reach world.choice input world.equipment
            world.ways).no_other_end

        broken : (whose : Side) → step.went ≡ answer.PowerLost whose
            → AreBroken whose (with_equipment e h world step).world (step.entries ++ log)
        broken Equipment dark = (is.broken dark, host_at)
        broken Host dark = let same = own Host dark in absurd (cc)

        go : (b : Bool) → Good (if b then turned_out world else with_equipment e h world step) log
        go true = goes-out world log at
        go false = record {
          noted = λ powered. record {
            equipment_is = is.noted powered;
            host_is = reached-noted host h Host world.host (step.entries ++ log) host_at;
          };
          on = λ on. record { equipment_is = is.on on; host_is = host_at };
          broken = broken;
        }

    host-keeps : (input : Input HostCommand) → Keeps (host_stepped e h input)
    host-keeps input world log at = go (world.steps == most_steps)
      where
        step : Stepped H
        step = host_makes e h input world

        is : HasNoted host h Host step world.moment world.choice log
        is =
            step-noted host h Host world.moment world.host_reach world.choice input world.host world.ways log
            at.host_is

        other : IsAsNoted Equipment (step.entries ++ log) log
        other =
            other-entries h Host Equipment refl world.moment world.host_reach world.choice input world.host
            world.ways log

        equipment_at : IsReached equipment e Equipment world.equipment (step.entries ++ log)
        equipment_at =
            stays-reached equipment e Equipment world.equipment log (step.entries ++ log) other at.equipment_is

        own : (whose : Side) → step.went ≡ answer.PowerLost whose → whose ≡ Host
        own =
            (by-cause h Host world.moment world.host_reach world.choice input world.host world.ways).no_other_end

        broken : (whose : Side) → step.went ≡ answer.PowerLost whose
            → AreBroken whose (with_host e h world step).world (step.entries ++ log)
        broken Host dark = (equipment_at, is.broken dark)
        broken Equipment dark = let same = own Equipment dark in absurd (cc)

        go : (b : Bool) → Good (if b then turned_out world else with_host e h world step) log
        go true = goes-out world log at
        go false = record {
          noted = λ powered. record {
            equipment_is = reached-noted equipment e Equipment world.equipment (step.entries ++ log) equipment_at;
            host_is = is.noted powered;
          };
          on = λ on. record { equipment_is = equipment_at; host_is = is.on on };
          broken = broken;
        }

    -- ---- events

    given-keeps : (side : Side) → Keeps (given e h side)
    given-keeps side world log at = go side (next_byte (characters_of (way_to side world).under_way))
      where
        go : (side : Side) (byte : Option ℕ) → Good (given_next e h side byte world) log
        go side None = goes-still world world log refl refl at
        go Equipment (Some byte) = equipment-keeps (Char byte) world log at
        go Host (Some byte) = host-keeps (Char byte) world log at

    still-keeps : Keeps still
    still-keeps world log at = goes-still world world log refl refl at

    times-keeps : (n : ℕ) (side : Side) → Keeps (given_times e h n side)
    times-keeps zero side = still-keeps
    times-keeps (suc n) side =
        keeps-then (given e h side) (given_times e h n side) (given-keeps side) (times-keeps n side)

    settled-keeps : Keeps (settled e h)
    settled-keeps world log at = go (is_under_way (characters_of (way_to Equipment world).under_way))
      where
        go : (b : Bool) → Good (if b then given e h Equipment world else given e h Host world) log
        go true = given-keeps Equipment world log at
        go false = given-keeps Host world log at

    settles-keeps : (n : ℕ) → Keeps (settled_times e h n)
    unfolding settled_times
    settles-keeps zero = still-keeps
    settles-keeps (suc n) = keeps-then (settled e h) (settled_times e h n) settled-keeps (settles-keeps n)

    both-keeps : Keeps (both_stepped e h)
    both-keeps =
        keeps-then (equipment_stepped e h Time) (host_stepped e h Time) (equipment-keeps Time) (host-keeps Time)

    happens-keeps : (event : Event) → Keeps (happened e h event)
    happens-keeps (event.To side n) = times-keeps n side
    happens-keeps (event.Lose side n) = λ world log at. goes-still world (lost_from n side world) log refl refl at
    happens-keeps (event.Change side place byte) =
        λ world log at. goes-still world (changed_at side place byte world) log refl refl at
    happens-keeps (event.Add side byte) = λ world log at. goes-still world (added_to side byte world) log refl refl at
    happens-keeps event.Settle = settles-keeps 65536
    happens-keeps (event.Wait ms) =
        λ world log at.
        both-keeps (later ms world) log
        (record { equipment_is = at.equipment_is; host_is = at.host_is })
    happens-keeps (event.Tool command) = equipment-keeps (Command command)
    happens-keeps (event.Host command) = host-keeps (Command command)
    happens-keeps (event.Cut call choice) = λ world log at.
        goes-still world (planned Equipment call choice world) log refl refl at
    happens-keeps (event.HostCut call choice) = λ world log at.
        goes-still world (planned Host call choice world) log refl refl at

    -- without power, an end starts anew
    started-good :
        (side : Side) (world : World E H) (went : Went (EndAt side E H) Happening) (log : List Entry)
        → AreNoted (entries_of side world.moment (Power ∷ (step_in went).notes) ++ log)
        → ((step : Step (EndAt side E H) Happening) → went ≡ Goes step
        → AreReached (with_started e h side step.next world)
        (entries_of side world.moment (Power ∷ step.notes) ++ log))
        → Good (started_anew e h side world went) log
    started-good side world (Goes step) log noted on =
        record { noted = λ powered. noted; on = λ is. on step refl; broken = λ whose dark. absurd (cc) }
    started-good side world (Spent step) log noted on =
        record { noted = λ powered. noted; on = λ is. absurd (cc); broken = λ whose dark. absurd (cc) }

    equipment-again :
        (world : World E H) (log : List Entry)
        → HasAgain equipment e Equipment world.moment (e.restart world.equipment world.moment) log
        → IsReached host h Host world.host log → Good (again e h Equipment world) log
    equipment-again world log is host_at =
        started-good Equipment (darkened Equipment world) went log (record {
          equipment_is = again-noted equipment e Equipment world.moment went log is;
          host_is = reached-noted host h Host world.host (entries (step_in went).notes ++ log)
              (there (step_in went).notes);
        })
        (λ step same. record {
          equipment_is =
              again-goes equipment e Equipment world.moment step log
              (subst (λ (w : Went E Happening). HasAgain equipment e Equipment world.moment w log) same is);
          host_is = there step.notes;
        })
      where
        went : Went E Happening
        went = e.restart world.equipment world.moment

        entries : List Happening → List Entry
        entries notes = entries_of Equipment world.moment (Power ∷ notes)

        there : (notes : List Happening) → IsReached host h Host world.host (entries notes ++ log)
        there notes =
            stays-reached host h Host world.host log (entries notes ++ log)
            (behind-other world.moment Equipment Host refl (Power ∷ notes) log) host_at

    host-again :
        (world : World E H) (log : List Entry)
        → HasAgain host h Host world.moment (h.restart world.host world.moment) log
        → IsReached equipment e Equipment world.equipment log → Good (again e h Host world) log
    host-again world log is equipment_at =
        started-good Host (darkened Host world) went log (record {
          equipment_is =
              reached-noted equipment e Equipment world.equipment (entries (step_in went).notes ++ log)
              (there (step_in went).notes);
          host_is = again-noted host h Host world.moment went log is;
        })
        (λ step same. record {
          equipment_is = there step.notes;
          host_is =
              again-goes host h Host world.moment step log
              (subst (λ (w : Went H Happening). HasAgain host h Host world.moment w log) same is);
        })
      where
        went : Went H Happening
        went = h.restart world.host world.moment

        entries : List Happening → List Entry
        entries notes = entries_of Host world.moment (Power ∷ notes)

        there : (notes : List Happening) → IsReached equipment e Equipment world.equipment (entries notes ++ log)
        there notes =
            stays-reached equipment e Equipment world.equipment log (entries notes ++ log)
            (behind-other world.moment Host Equipment refl (Power ∷ notes) log) equipment_at

    again-keeps : (side : Side) → Keeps (again e h side)
    again-keeps Equipment world log at =
        equipment-again world log
        (again-reached equipment e Equipment world.moment world.equipment log at.equipment_is) at.host_is
    again-keeps Host world log at =
        host-again world log (again-reached host h Host world.moment world.host log at.host_is) at.equipment_is

    again-from : (side : Side) (world : World E H) (log : List Entry) → AreBroken side world log
        → Good (again e h side world) log
    again-from Equipment world log at =
        equipment-again world log
        (again-broken equipment e Equipment world.moment world.choice world.equipment log at.0) at.1
    again-from Host world log at =
        host-again world log (again-broken host h Host world.moment world.choice world.host log at.1) at.0

    timed-keeps : (side : Side) → Keeps (timed e h side)
    timed-keeps Equipment = equipment-keeps Time
    timed-keeps Host = host-keeps Time

    without-keeps : (side : Side) → Keeps (without e h side)
    without-keeps side = keeps-then (again e h side) (timed e h side) (again-keeps side) (timed-keeps side)

    without-broken : (side : Side) (world : World E H) (log : List Entry) → AreBroken side world log
        → Good (without e h side world) log
    without-broken side world log at =
        good-then (again e h side world) log (timed e h side) (again-from side world log at) (timed-keeps side)

    -- a piece that went on, and what follows
    went-then :
        (piece : Piece E H) (before : List Entry) (rest : World E H → Piece E H)
        → Good (rest piece.world) (piece.entries ++ before) → Good (and_on answer.Went piece rest) before
    went-then piece before rest next = record {
      noted = λ other. subst (λ (l : List Entry). AreNoted l) (sym same) (next.noted other);
      on = λ on. subst (λ (l : List Entry). AreReached (rest piece.world).world l) (sym same) (next.on on);
      broken = λ whose dark.
          subst (λ (l : List Entry). AreBroken whose (rest piece.world).world l) (sym same) (next.broken whose dark);
    }
      where
        same : ((rest piece.world).entries ++ piece.entries) ++ before ≡ (rest piece.world).entries
            ++ (piece.entries ++ before)
        same = append_assoc (rest piece.world).entries piece.entries before

    ended-good : (cut : Option Side) (piece : Piece E H) (before : List Entry) → Good piece before
        → Good (ended_by e h cut piece.went piece) before
    ended-good cut piece before good = go cut piece.went refl
      where
        go : (cut : Option Side) (went : WorldStep) → piece.went ≡ went → Good (ended_by e h cut went piece) before
        go cut (answer.PowerLost whose) is =
            went-then piece before (without e h whose)
            (without-broken whose piece.world (piece.entries ++ before) (good.broken whose is))
        go (Some side) answer.Went is =
            went-then piece before (without e h side)
            (without-keeps side piece.world (piece.entries ++ before) (good.on is))
        go None answer.Went is = good
        go cut answer.Slip is = good
        go cut answer.Turns is = good
        go cut answer.NumbersSpent is = good
        go cut answer.JournalFull is = good
        go cut answer.NoMemory is = good

    armed-keeps : (side : Side) (call : ℕ) → Keeps (armed side call)
    armed-keeps side call world log at = goes-still world (armed side call world).world log refl refl at

    met-keeps : (event : Event) (cut : Option (Side × ℕ)) → Keeps (met e h event cut)
    met-keeps event None world log at = ended-good None (happened e h event world) log
        (happens-keeps event world log at)
    met-keeps event (Some (side, call)) world log at =
        ended-good (Some side) (and_more (armed side call world) (happened e h event)) log
        (good-then (armed side call world) log (happened e h event) (armed-keeps side call world log at)
        (happens-keeps event))

    event-keeps : (event : Event) → Keeps (after_event e h event)
    event-keeps (event.To side n) = λ world. met-keeps (event.To side n) world.cut world
    event-keeps (event.Lose side n) = λ world. met-keeps (event.Lose side n) world.cut world
    event-keeps (event.Change side place byte) = λ world. met-keeps (event.Change side place byte) world.cut world
    event-keeps (event.Add side byte) = λ world. met-keeps (event.Add side byte) world.cut world
    event-keeps event.Settle = λ world. met-keeps event.Settle world.cut world
    event-keeps (event.Wait ms) = λ world. met-keeps (event.Wait ms) world.cut world
    event-keeps (event.Tool command) = λ world. met-keeps (event.Tool command) world.cut world
    event-keeps (event.Host command) = λ world. met-keeps (event.Host command) world.cut world
    event-keeps (event.Cut call choice) = happens-keeps (event.Cut call choice)
    event-keeps (event.HostCut call choice) = happens-keeps (event.HostCut call choice)

    events-keep : (events : List Event) → Keeps (after_events e h events)
    events-keep [] = still-keeps
    events-keep (event ∷ events) =
        keeps-then (after_event e h event) (after_events e h events) (event-keeps event) (events-keep events)

    -- ---- the start, and the end

    start-good : Good (at_start e h equipment host) []
    start-good = record {
      noted = λ other. noted-both (at_start e h equipment host).world ((at_start e h equipment host).entries ++ []) at;
      on = λ on. at;
      broken = λ whose dark. absurd (cc);
    }
      where
        first : List Entry
        first = log_with 0 Equipment equipment.notes []

        entries : List Entry
        entries = log_with 0 Host host.notes first

        equipment_notes : noted_by Equipment (entries ++ []) ≡ noted_behind equipment.notes []
        equipment_notes =
            ap (λ (l : List Entry). noted_by Equipment l) (append-nil entries)
            ∙ noted-other 0 Host Equipment refl host.notes first ∙ noted-own 0 Equipment equipment.notes []

        host_notes : noted_by Host (entries ++ []) ≡ noted_behind host.notes []
        host_notes =
            ap (λ (l : List Entry). noted_by Host l) (append-nil entries) ∙ noted-own 0 Host host.notes first
            ∙ ap (λ (ns : List Happening). noted_behind host.notes ns)
            (noted-other 0 Equipment Host refl equipment.notes [])

        at : AreReached (at_start e h equipment host).world (entries ++ [])
        at = record {
          equipment_is = record {
            met = [];
            is = ap (λ (ns : List Happening). Reached equipment.next ns) (sym equipment_notes);
            timed =
                ap (λ (l : List Entry). timed_by Equipment l) (append-nil entries)
                ∙ timed-other 0 Host Equipment refl host.notes first ∙ timed-own 0 Equipment equipment.notes [];
          };
          host_is = record {
            met = [];
            is = ap (λ (ns : List Happening). Reached host.next ns) (sym host_notes);
            timed =
                ap (λ (l : List Entry). timed_by Host l) (append-nil entries) ∙ timed-own 0 Host host.notes first
                ∙ ap (λ (timed : TimedNotes). timed_behind 0 host.notes timed)
                (timed-other 0 Equipment Host refl equipment.notes []);
          };
        }

    run-good : (events : List Event) → Good (piece_of e h equipment host events) []
    run-good events =
        good-then (begun e h equipment host) [] (after_events e h events)
        (good-then (at_start e h equipment host) [] (both_stepped e h) start-good both-keeps) (events-keep events)

    pub entries-noted : (events : List Event) → AreOfCourses e h equipment host (log_of e h equipment host events)
    entries-noted events =
        go (piece_of e h equipment host events).went (piece_of e h equipment host events).world.moment
        (subst (λ (l : List Entry). AreNoted l) (append-nil (piece_of e h equipment host events).entries)
        ((run-good events).noted (run-powered e h equipment host events)))
      where
        of_noted : (log : List Entry) → AreNoted log → AreOfCourses e h equipment host log
        of_noted log noted = record {
          equipment_met = noted.equipment_is.met;
          host_met = noted.host_is.met;
          equipment_noted = noted.equipment_is.is;
          host_noted = noted.host_is.is;
          equipment_timed = noted.equipment_is.timed;
          host_timed = noted.host_is.timed;
        }

        go : (went : WorldStep) (now : ℕ) → AreNoted (piece_of e h equipment host events).entries
            → AreOfCourses e h equipment host (closing went now ++ (piece_of e h equipment host events).entries)
        go answer.Went now noted = record {
          equipment_met = noted.equipment_is.met;
          host_met = noted.host_is.met;
          equipment_noted = noted.equipment_is.is;
          host_noted = noted.host_is.is;
          equipment_timed = noted.equipment_is.timed;
          host_timed = noted.host_is.timed;
        }
        go answer.Slip now noted = of_noted (piece_of e h equipment host events).entries noted
        go answer.Turns now noted = of_noted (piece_of e h equipment host events).entries noted
        go (answer.PowerLost whose) now noted = of_noted (piece_of e h equipment host events).entries noted
        go answer.NumbersSpent now noted = of_noted (piece_of e h equipment host events).entries noted
        go answer.JournalFull now noted = of_noted (piece_of e h equipment host events).entries noted
        go answer.NoMemory now noted = of_noted (piece_of e h equipment host events).entries noted
