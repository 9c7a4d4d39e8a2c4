-- Ends that start, as moves: both at first, and one that has lost its power; with what each notes behind its start.
use Rattle.std.proofs.Common.{◌≡◌, ◌<◌, ◌≤◌, ℕ, List, [], ◌∷◌, ◌++◌, Option, refl, sym, ap, subst, ◌∙◌, append-nil, arith}
use Rattle.gl_base.specs.declared.side.Side.{Side}
use Rattle.gl_base.specs.declared.side.Side.TheVariants.{Equipment, Host}
use Rattle.line_end.specs.State.{LineState, new_state}
use Rattle.line_end.specs.Step.{LineCall}
use Rattle.line_end.specs.declared.plan.Times.{Times}
use Rattle.line_order.specs.Acts.{HasNoSlip, line_after, line_after_deed}
use Rattle.line_order.specs.Acts.Act.{PowerLoss}
use Rattle.line_order.specs.Line.{Line, new_line, seen_from}
use Rattle.message_flow.specs.declared.message.Message.{Message}
use Rattle.message_end.specs.Core.{Step, Went}
use Rattle.message_end.specs.Core.Went.{Goes, Spent}
use Rattle.message_end.specs.Doings.{Doing, IsInTurn, line_of, own_of}
use Rattle.message_end.specs.Doings.Doing.{Says}
use Rattle.message_end.specs.Ends.{HasRestarted, KeepsLaw, Machine, OnStart}
use Rattle.message_end.specs.History.{noted_in}
use Rattle.message_end.specs.Log.{log_of}
use Rattle.message_end.specs.Moves.{AreTimely, IsHigher, KeepLaws, LinePlans, Move, Run, deeds_of, line_of_moves, plan_at, run_at, seen_at}
use Rattle.message_end.specs.Own.{Has, drawn_in}
use Rattle.message_end.specs.Plan.{EndPlan}
use Rattle.message_end.specs.Starts.{IsStartOf}
use Rattle.message_end.proofs.LineKept.{side-kept, times-kept}
use Rattle.message_end.proofs.Starts.{AreSaidAtStart, said-calls, said-of-start}
use Rattle.trace_log.specs.Laws.{log_with}
use Rattle.trace_log.specs.Log.{Entry, Happening}
use Rattle.trace_log.specs.Log.Entry.{Noted}
use Rattle.trace_log.specs.Log.Happening.{Power}
use Rattle.trace_log.specs.declared.commands.HostCommand.{HostCommand}
use Rattle.trace_log.specs.declared.commands.ToolCommand.{ToolCommand}
use Rattle.end_pair.specs.InSteps.{moves_with, power_at, started_at, starts_with}
use Rattle.end_pair.specs.InSteps.AreSteps.{both_start, starts_anew}
use Rattle.end_pair.specs.InSteps.ComeInSteps.{without_power}
use Rattle.end_pair.specs.Steps.{entries_of}
use Rattle.end_pair.specs.World.{EndAt, World, again, at_start, darkened, restart_of, started_anew, with_started}
use Rattle.end_pair.proofs.ByteWays.{AreByteWays}
use Rattle.end_pair.proofs.Doing.{deeds_by}
use Rattle.end_pair.proofs.DoingMoves.{IsAt, line-moves, log-done, log_with-behind, other-is, other-run}
use Rattle.end_pair.proofs.HeldSteps as held
use Rattle.end_pair.proofs.LineDeeds.{new-stands}
use Rattle.end_pair.proofs.Moved.{AreMoves, said-moves}
use Rattle.end_pair.proofs.Renamed.{IsLike}

module _ {S T : Type 0}
    (did_e : ℕ → List Doing → S → Type 0) (did_h : ℕ → List Doing → T → Type 0)
    (tool : ToolCommand → Type 0) (user : HostCommand → Type 0)
    (first_e : Step S Happening) (first_h : Step T Happening)
    (e : Machine S ToolCommand) (h : Machine T HostCommand) (plans : LinePlans)
    (law_e : KeepsLaw (plan_at Equipment plans) did_e tool (Goes first_e) e)
    (law_h : KeepsLaw (plan_at Host plans) did_h user (Goes first_h) h) where
  -- the records of `HeldSteps`, of these ends
  abbrev pub AreMade : List Move → S → T → Type 0
  AreMade = held.AreMade did_e did_h tool user first_e first_h e h plans law_e law_h

  abbrev pub Holds : World S T → List Move → Type 0
  Holds = held.Holds did_e did_h tool user first_e first_h e h plans law_e law_h

  abbrev pub Fallen : Side → World S T → List Move → Type 0
  Fallen = held.Fallen did_e did_h tool user first_e first_h e h plans law_e law_h

  abbrev pub did_at : (side : Side) → ℕ → List Doing → EndAt side S T → Type 0
  did_at = held.did_at did_e did_h tool user first_e first_h e h plans law_e law_h

  -- ---- what is said behind a start

  -- the line stays as it is
  said-line :
      (side : Side) (now : ℕ) (said : List Doing) (moves : List Move) → AreSaidAtStart said
      → line_of_moves plans (moves_with side now said moves) ≡ line_of_moves plans moves
  said-line side now said moves are =
      line-moves plans side now said moves
      ∙ ap (λ (cs : List LineCall). line_after (line_of_moves plans moves) (deeds_by side cs)) (said-calls said are)

  -- an end has started behind these moves, and done nothing else yet
  record IsFresh (side : Side) (moves : List Move) (base : ℕ) : Type 0 where
    keep : KeepLaws plans moves
    timely : AreTimely moves
    clean : HasNoSlip (new_line plans.equipment.times plans.host.times) (deeds_of moves)
    state : (seen_at side plans moves).here.state ≡ line_of (plan_at side plans) []
    doings : (run_at side plans moves).doings ≡ []
    base_is : (run_at side plans moves).base ≡ base

  said-at :
      (side : Side) (now : ℕ) (moves : List Move) (base : ℕ) (next : EndAt side S T) (said : List Doing)
      → AreSaidAtStart said → IsFresh side moves base → did_at side base said next
      → AreMoves (did_at side) side plans now moves next (noted_in said) said
  said-at side now moves base next said are fresh is = go side next fresh is
    where
      so :
          {X : Type 0} (did : ℕ → List Doing → X → Type 0) (side : Side) (next : X) → IsFresh side moves base
          → did base said next → did (run_at side plans moves).base (said ++ (run_at side plans moves).doings) next
      so did side next fresh is =
          subst (λ (b : ℕ). did b (said ++ (run_at side plans moves).doings) next) (sym fresh.base_is)
          (subst (λ (ds : List Doing). did base (said ++ ds) next) (sym fresh.doings)
          (subst (λ (ds : List Doing). did base ds next) (sym (append-nil said)) is))

      state_so : (side : Side) → IsFresh side moves base
          → (seen_at side plans moves).here.state ≡ line_of (plan_at side plans) (run_at side plans moves).doings
      state_so side fresh =
          fresh.state ∙ ap (λ (ds : List Doing). line_of (plan_at side plans) ds) (sym fresh.doings)

      go : (side : Side) (next : EndAt side S T) → IsFresh side moves base → did_at side base said next
          → AreMoves (did_at side) side plans now moves next (noted_in said) said
      go Equipment next fresh is =
          said-moves did_e tool first_e e Equipment plans law_e now moves next said are fresh.keep fresh.timely
          fresh.clean (state_so Equipment fresh) (so did_e Equipment next fresh is)
      go Host next fresh is =
          said-moves did_h user first_h h Host plans law_h now moves next said are fresh.keep fresh.timely fresh.clean
          (state_so Host fresh) (so did_h Host next fresh is)

  -- ---- an end has lost its power

  -- that is noted
  abbrev with_power : Side → ℕ → List Move → List Move
  with_power side now moves = power_at side now ∷ moves

  -- and it starts anew
  abbrev with_start : Side → ℕ → Happening → ℕ → List Move → List Move
  with_start side now note base moves = started_at side now note base ∷ with_power side now moves

  keep-power : (side : Side) (world : World S T) (moves : List Move) (now : ℕ) → Fallen side world moves
      → KeepLaws plans (with_power side now moves)
  keep-power side world moves now fallen = (
    (
      (subst (λ (m : Option Message). IsInTurn m (Says Power)) (sym fallen.lost.received) tt, tt),
      tt,
    ),
    fallen.keep,
  )

  -- its numbers lie above all that were drawn before
  is-higher :
      (side : Side) (moves : List Move) (now base : ℕ) → (run_at side plans moves).base ≤ base
      → ((drawn : ℕ) → Has (drawn_in (own_of (plan_at side plans) (run_at side plans moves).doings)) drawn
      → drawn < base)
      → IsHigher (plan_at side plans) (run_at side plans (with_power side now moves)) base
  is-higher Equipment moves now base least above = record { least = least; above = above }
  is-higher Host moves now base least above = record { least = least; above = above }

  plan-side : (side : Side) → (plan_at side plans).side ≡ side
  plan-side Equipment = refl
  plan-side Host = refl

  -- the state of its line then
  fresh-state : (plan : EndPlan) (doings : List Doing) (s : LineState) → s ≡ line_of plan doings
      → new_state s.side s.times ≡ line_of plan []
  fresh-state plan doings s is =
      ap (λ (l : LineState). new_state l.side l.times) is
      ∙ ap (λ (side : Side). new_state side (line_of plan doings).times) (side-kept plan doings)
      ∙ ap (λ (times : Times). new_state plan.side times) (times-kept plan doings)

  is-fresh :
      (side : Side) (world : World S T) (moves : List Move) (now : ℕ) (note : Happening) (base : ℕ)
      → Fallen side world moves → IsStartOf (plan_at side plans).side note base
      → IsHigher (plan_at side plans) (run_at side plans (with_power side now moves)) base
      → IsFresh side (with_start side now note base moves) base
  is-fresh Equipment world moves now note base fallen starts higher = record {
    keep = ((starts, higher), keep-power Equipment world moves now fallen);
    timely = (tt, (tt, fallen.timely));
    clean = (refl, fallen.clean);
    state =
        fresh-state (plan_at Equipment plans) (run_at Equipment plans moves).doings
        (seen_at Equipment plans moves).here.state fallen.lost.state;
    doings = refl;
    base_is = refl;
  }
  is-fresh Host world moves now note base fallen starts higher = record {
    keep = ((starts, higher), keep-power Host world moves now fallen);
    timely = (tt, (tt, fallen.timely));
    clean = (refl, fallen.clean);
    state =
        fresh-state (plan_at Host plans) (run_at Host plans moves).doings (seen_at Host plans moves).here.state
        fallen.lost.state;
    doings = refl;
    base_is = refl;
  }

  -- both ends then
  record AreStarted (world : World S T) (moves : List Move) : Type 0 where
    equipment : IsAt did_e Equipment plans moves world.equipment
    host : IsAt did_h Host plans moves world.host
    bytes : AreByteWays world.ways

  are-started :
      (side : Side) (world : World S T) (moves : List Move) (note : Happening) (base : ℕ) (said : List Doing)
      (end : EndAt side S T) → Fallen side world moves
      → IsAt (did_at side) side plans
      (starts_with side world.moment note base said (with_power side world.moment moves)) end
      → AreStarted (with_started e h side end (darkened side world))
      (starts_with side world.moment note base said (with_power side world.moment moves))
  are-started Equipment world moves note base said end fallen at = record {
    equipment = at;
    host =
        other-is did_h Equipment plans world.moment said (with_start Equipment world.moment note base moves) world.host
        (record { is = fallen.other.is; state = fallen.other.state });
    bytes = (tt, tt);
  }
  are-started Host world moves note base said end fallen at = record {
    equipment =
        other-is did_e Host plans world.moment said (with_start Host world.moment note base moves) world.equipment
        (record { is = fallen.other.is; state = fallen.other.state });
    host = at;
    bytes = (tt, tt);
  }

  pub again-keeps : (side : Side) (world : World S T) (moves : List Move) → Fallen side world moves
      → held.Good did_e did_h tool user first_e first_h e h plans law_e law_h (again e h side world) (log_of moves)
  again-keeps side world moves fallen = go (restart_of e h side world) fallen.lost.starts
    where
      now : ℕ
      now = world.moment

      run : Run
      run = run_at side plans moves

      go : (went : Went (EndAt side S T) Happening)
          → OnStart (HasRestarted (plan_at side plans) (did_at side) run.base run.doings) went
          → held.Good did_e did_h tool user first_e first_h e h plans law_e law_h
          (started_anew e h side (darkened side world) went) (log_of moves)
      go (Spent step) none = record {
        of = record {
          moves = with_power side now moves;
          keep = keep-power side world moves now fallen;
          timely = (tt, fallen.timely);
          no_slip = fallen.clean;
          steps = without_power moves fallen.before side now refl fallen.cut fallen.steps;
          last = [];
          at_most_one = omega arith;
          no_notes = tt;
          is = ap (λ (notes : List Happening). entries_of side now (Power ∷ notes) ++ log_of moves) none;
        };
        on = λ on. cc;
        fallen = λ whose lost. cc;
      }
      go (Goes step) starts = record {
        of =
            held.with_last did_e did_h tool user first_e first_h e h plans law_e law_h all world_now.equipment
            world_now.host [] (entries_of side now (Power ∷ step.notes) ++ log_of moves) made_so (omega arith) tt log;
        on = λ on. (refl, record { made = made_so; stands = stands; bytes = at.bytes });
        fallen = λ whose lost. cc;
      }
        where
          note : Happening
          note = starts.started.note

          base : ℕ
          base = starts.started.base

          said : List Doing
          said = starts.started.said

          said_so : AreSaidAtStart said
          said_so = said-of-start said starts.started.of_start

          begun : List Move
          begun = with_start side now note base moves

          all : List Move
          all = starts_with side now note base said (with_power side now moves)

          starts_so : IsStartOf side note base
          starts_so =
              subst (λ (which : Side). IsStartOf which note base) (plan-side side) starts.started.of_side

          world_now : World S T
          world_now = with_started e h side step.next (darkened side world)

          above : (drawn : ℕ) → Has (drawn_in (own_of (plan_at side plans) run.doings)) drawn → drawn < base
          above drawn has =
              let low = starts.above drawn has in
              let least = starts.started.above in
              omega (arith, low, least)

          least : run.base ≤ base
          least =
              let low = starts.no_lower in
              let least = starts.started.above in
              omega (arith, low, least)

          more : AreMoves (did_at side) side plans now begun step.next (noted_in said) said
          more =
              said-at side now begun base step.next said said_so
              (is-fresh side world moves now note base fallen starts.started.of_side
              (is-higher side moves now base least above))
              starts.started.is

          at : AreStarted world_now all
          at = are-started side world moves note base said step.next fallen more.at

          made_so : AreMade all world_now.equipment world_now.host
          made_so = record {
            keep = more.keep;
            timely = more.timely;
            clean = more.no_slip;
            equipment = at.equipment;
            host = at.host;
            steps =
                starts_anew all moves fallen.before side now note base said refl starts_so starts.started.of_start
                fallen.cut
                (held.at-states did_e did_h tool user first_e first_h e h plans law_e law_h all world_now.equipment
                world_now.host at.equipment at.host)
                fallen.steps;
          }

          stands : IsLike world_now.ways (line_of_moves plans all)
          stands =
              subst (IsLike world_now.ways) (sym (said-line side now said begun said_so)) fallen.lost.dark

          log : entries_of side now (Power ∷ step.notes) ++ log_of moves ≡ log_of all
          log =
              ap (λ (notes : List Happening). entries_of side now (Power ∷ notes) ++ log_of moves)
              starts.started.notes
              ∙ sym (log_with-behind now side (noted_in said) (Noted now side note ∷ Noted now side Power ∷ [])
              (log_of moves))
              ∙ sym (log-done side now said begun)

  -- ---- both start

  abbrev pub note_e : Happening
  note_e = law_e.starts.note

  abbrev pub note_h : Happening
  note_h = law_h.starts.note

  abbrev pub said_e : List Doing
  said_e = law_e.starts.said

  abbrev pub said_h : List Doing
  said_h = law_h.starts.said

  -- the equipment starts, says what it says, and then the host starts
  abbrev pub first_move : List Move
  first_move = started_at Equipment 0 note_e law_e.starts.base ∷ []

  abbrev pub one_started : List Move
  one_started = moves_with Equipment 0 said_e first_move

  abbrev pub host_started : List Move
  host_started = started_at Host 0 note_h law_h.starts.base ∷ one_started

  abbrev pub started : List Move
  started = starts_with Host 0 note_h law_h.starts.base said_h one_started

  said_so_e : AreSaidAtStart said_e
  said_so_e = said-of-start said_e law_e.starts.of_start

  said_so_h : AreSaidAtStart said_h
  said_so_h = said-of-start said_h law_h.starts.of_start

  started_e : AreMoves did_e Equipment plans 0 first_move first_e.next (noted_in said_e) said_e
  started_e =
      said-at Equipment 0 first_move law_e.starts.base first_e.next said_e said_so_e
      (record {
        keep = ((law_e.starts.of_side, record { least = omega arith; above = λ drawn has. absurd has }), tt);
        timely = (tt, tt);
        clean = (refl, tt);
        state = refl;
        doings = refl;
        base_is = refl;
      })
      law_e.starts.is

  -- the line as both have started
  line_so : line_of_moves plans one_started ≡ line_of_moves plans first_move
  line_so = said-line Equipment 0 said_e first_move said_so_e

  abbrev both_lines : Line → Line
  both_lines line = line_after_deed line (record { side = Host; act = PowerLoss })

  started_h : AreMoves did_h Host plans 0 host_started first_h.next (noted_in said_h) said_h
  started_h =
      said-at Host 0 host_started law_h.starts.base first_h.next said_h said_so_h
      (record {
        keep = (
          (
            law_h.starts.of_side,
            subst (λ (run : Run). IsHigher (plan_at Host plans) run law_h.starts.base)
                (sym (other-run Equipment plans 0 said_e first_move))
                (record { least = omega arith; above = λ drawn has. absurd has }),
          ),
          started_e.keep,
        );
        timely = (tt, started_e.timely);
        clean = (refl, started_e.no_slip);
        state = ap (λ (line : Line). (seen_from Host (both_lines line)).here.state) line_so;
        doings = refl;
        base_is = refl;
      })
      law_h.starts.is

  pub start-holds : Holds (at_start e h first_e first_h).world started
  start-holds = record {
    made = record {
      keep = started_h.keep;
      timely = started_h.timely;
      clean = started_h.no_slip;
      equipment = equipment;
      host = started_h.at;
      steps =
          both_start started note_e note_h law_e.starts.base law_h.starts.base said_e said_h refl law_e.starts.of_side
          law_h.starts.of_side law_e.starts.of_start law_h.starts.of_start
          (held.at-states did_e did_h tool user first_e first_h e h plans law_e law_h started first_e.next first_h.next
          equipment started_h.at);
    };
    stands =
        subst (IsLike (at_start e h first_e first_h).world.ways)
        (sym (said-line Host 0 said_h host_started said_so_h ∙ ap both_lines line_so))
        (record {
          name = λ n. n;
          is = record { rises = λ a b less. less; next = λ n least. refl };
          stands = new-stands plans.equipment.times plans.host.times law_e.fits.times law_h.fits.times;
        });
    bytes = (tt, tt);
  }
    where
      equipment : IsAt did_e Equipment plans started first_e.next
      equipment =
          other-is did_e Host plans 0 said_h host_started first_e.next
          (record { is = started_e.at.is; state = started_e.at.state })

  pub start-log : (at_start e h first_e first_h).entries ≡ log_of started
  start-log =
      ap (λ (ns : List Happening). log_with 0 Host ns (log_with 0 Equipment first_e.notes [])) law_h.starts.notes
      ∙ ap
      (λ (ns : List Happening).
      log_with 0 Host (note_h ∷ noted_in said_h) (log_with 0 Equipment ns []))
      law_e.starts.notes
      ∙ ap (λ (log : List Entry). log_with 0 Host (noted_in said_h) (Noted 0 Host note_h ∷ log))
      (sym (log-done Equipment 0 said_e first_move))
      ∙ sym (log-done Host 0 said_h host_started)
