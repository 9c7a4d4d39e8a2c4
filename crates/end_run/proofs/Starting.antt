-- The start of a run.
use Rattle.std.proofs.Common.{◌≡◌, ℕ, List, [], ◌∷◌, ◌++◌, append-nil, Option, Some, None, refl, sym, subst, ◌∙◌}
use Rattle.gl_base.specs.Link.{IsCarriedOn, LinkContents, LinkFault, LinkHealth}
use Rattle.gl_base.specs.Sending.{WroteText}
use Rattle.gl_base.specs.Sink.{SinkHealth}
use Rattle.gl_base.specs.declared.link.LinkIn.{LinkIn}
use Rattle.gl_base.specs.declared.side.Side.{Side}
use Rattle.message_end.specs.Core.{Step}
use Rattle.message_end.specs.Ends.{Machine}
use Rattle.message_end.specs.Ends.Input.{Time}
use Rattle.trace_log.specs.Log.{Entry, Happening}
use Rattle.trace_log.specs.Text.{text_of}
use Rattle.end_run.specs.declared.ending.Ending.{Ending}
use Rattle.end_run.specs.declared.ending.Ending.TheVariants.{Closed, DiskFailed, Full, LinkFailed, NoMemory, NumbersSpent, Stopped, Turns, WriteFailed}
use Rattle.end_run.specs.Acts.{taken_of}
use Rattle.end_run.specs.Acts.Act.{Connects, Writes}
use Rattle.end_run.specs.Calls.{StopsAtStart}
use Rattle.end_run.specs.Commands.{Commands}
use Rattle.end_run.specs.Outcome.{AreToCome, Linked, Runs, RunsOver}
use Rattle.end_run.specs.Pieces.{Piece}
use Rattle.end_run.specs.Run.{begun, commanded_run, polled}
use Rattle.end_run.specs.Scenes.{Scene, written}
use Rattle.end_run.specs.Steps.{entries_at, started, stepped}
use Rattle.end_run.proofs.Doing.{runs_more, runs_stop}
use Rattle.end_run.proofs.Joining.{lists_still, room_none}
use Rattle.end_run.proofs.Polling.{comes_behind, more-none, rest_comes, rest_of, stepped-none}
use Rattle.end_run.proofs.Stepping.{none_wrote, part_none, short_fails, with_link, with_out}

-- memory ran out before the first act
pub nothing_runs : {S C : Type 0} (a : Scene S C) (run : List LinkIn → Piece S C) → RunsOver a a run NoMemory
nothing_runs a run = record {
  answers = rest_of a.contents;
  to_come = rest_comes a.contents;
  runs = part_none a (run (rest_of a.contents)).acts;
}

-- ---- up to the first step

module _ {S C : Type 0} (machine : Machine S C) (side : Side) (start : Step S Happening) where
  abbrev pub entries : List Entry
  entries = entries_at side 0 start.notes

  -- what is written of it
  abbrev pub lines : List ℕ
  lines = text_of entries ++ []

  -- it has ended with the start, before the first step
  start_stops : (a b : Scene S C) (how : Ending) → Runs a b (started side start) (Some how)
      → Runs a b (begun machine side start) (Some how)
  start_stops a b how runs = runs_stop a b (started side start) (stepped machine side 0 Time) how runs

  module _ (a : Scene S C) (text : List ℕ) (is : text_of entries ≡ text) (r' : Option (List ℕ)) (k' : SinkHealth) where
    same_text : text ≡ lines
    same_text = sym (append-nil (text_of entries) ∙ is)

    -- it stopped at the lines of its start
    pub start_falls : (how : Ending) → StopsAtStart (written a (with_out a r' k')) text how
        → Runs a (with_out a r' k') (begun machine side start) (Some how)
    start_falls how falls =
        start_stops a (with_out a r' k') how
        (go how (subst (λ (t : List ℕ). StopsAtStart (written a (with_out a r' k')) t how) same_text falls))
      where
        go : (how : Ending) → StopsAtStart (written a (with_out a r' k')) lines how
            → Runs a (with_out a r' k') (started side start) (Some how)
        go WriteFailed short = short_fails a r' k' entries lines (Connects ∷ []) short
        go NoMemory none = none_wrote a r' k' entries lines (Connects ∷ []) none
        go Stopped falls = absurd falls
        go Closed falls = absurd falls
        go Turns falls = absurd falls
        go NumbersSpent falls = absurd falls
        go Full falls = absurd falls
        go DiskFailed falls = absurd falls
        go LinkFailed falls = absurd falls

    module _ (l' : Option LinkContents) (m' : ℕ) (h' : LinkHealth) (same : l' ≡ a.contents) (anew : m' ≡ 0)
        (text_wrote : WroteText (written a (with_out a r' k')) text) where
      -- the scene behind the call of connect
      abbrev pub called : Scene S C
      called = with_link (with_out a r' k') l' m' h'

      wrote : WroteText (written a called) (lines ++ [])
      wrote =
          subst (λ (t : List ℕ). WroteText (written a called) t) (same_text ∙ sym (append-nil lines)) text_wrote

      linked : Linked a called (Writes entries lines ∷ Connects ∷ [])
      linked = record {
        listed = lists_still a.contents l' (Writes entries lines ∷ Connects ∷ []) refl refl same;
        clock = anew;
        timely = (tt, (tt, tt));
      }

      -- it didn't connect
      pub connects_not : LinkFault a.link h' 0 → Runs a called (begun machine side start) (Some LinkFailed)
      connects_not fault = start_stops a called LinkFailed (record {
        done = Writes entries lines ∷ [];
        failed = Connects;
        later = [];
        whole = refl;
        part = Connects ∷ [];
        cut = refl;
        linked = linked;
        fault = fault;
        wrote = wrote;
        end = record { end = refl; stop = refl };
      })

      -- it did
      pub start_runs : IsCarriedOn a.link h' 0 → Runs a called (started side start) None
      start_runs carried = (
        refl,
        record {
          made = record { linked = linked; carried = carried; wrote = wrote };
          end = refl;
          room = room_none a.room;
          stop = refl;
        },
      )

-- ---- and on

module _ {S C Q : Type 0} (machine : Machine S C) (due : S → Option ℕ) (commands : Commands Q C) (side : Side)
    (start : Step S Happening) (coming : Q) (polls : ℕ) where
  -- all of the run, by the answers
  abbrev pub all_of : List LinkIn → Piece S C
  all_of answers = commanded_run machine due commands side start coming polls answers

  -- a run that ended before its first poll
  pub ends_early : (a b : Scene S C) (how : Ending) → Runs a b (begun machine side start) (Some how)
      → RunsOver a b all_of how
  ends_early a b how runs = record {
    answers = rest_of a.contents;
    to_come = rest_comes a.contents;
    runs =
        runs_stop a b (begun machine side start)
        (polled machine due commands side polls coming 0 (rest_of a.contents)) how runs;
  }

  -- one that went on
  pub runs_on :
      (a b c : Scene S C) (s : S) (how : Ending) → Runs a b (begun machine side start) None
      → s ≡ (begun machine side start).end
      → RunsOver b c (λ answers. polled machine due commands side polls coming 0 answers s) how
      → RunsOver a c all_of how
  runs_on a b c s how runs is_s over = record {
    answers = over.answers;
    to_come =
        subst (λ (answers : List LinkIn). AreToCome a.contents (answers ++ over.answers)) none
        (comes_behind a.contents b.contents first.acts over.answers runs.1.made.linked.listed over.to_come);
    runs =
        runs_more c first (polled machine due commands side polls coming 0 over.answers) s (Some how) runs is_s
        over.runs;
  }
    where
      first : Piece S C
      first = begun machine side start

      none : taken_of first.acts ≡ []
      none =
          more-none machine side (started side start) (stepped machine side 0 Time) refl
          (stepped-none machine side 0 Time)
