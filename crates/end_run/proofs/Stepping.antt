-- One step of an end, as the code makes it.
use Rattle.std.proofs.Common.{◌≡◌, ◌≢◌, inl, inr, ℕ, ◌<◌, Bool, true, false, List, [], ◌∷◌, ◌++◌, length, map, take, Option, Some, None, refl, sym, ap, subst, ◌∙◌, append_assoc, append-nil, arith}
use Rattle.std.specs.List.{flat_map}
use Rattle.std.proofs.lemmas.Grind.{flat_map-append}
use Rattle.std.proofs.lemmas.List.{length-map}
use Rattle.std.proofs.lemmas.List.Elements.{filter_map-append}
use Rattle.gl_base.specs.Link.{IsCarriedOn, LinkContents, LinkFault, LinkHealth, entries_of, told_after_send}
use Rattle.gl_base.specs.Sending.{WroteShort, WroteText}
use Rattle.gl_base.specs.Sink.{SinkHealth}
use Rattle.gl_base.specs.Told.{SinkTold}
use Rattle.gl_base.specs.declared.link.LinkEntry.{LinkEntry}
use Rattle.gl_base.specs.declared.link.LinkEntry.TheVariants.{Sent}
use Rattle.gl_base.specs.declared.side.Side.{Side}
use Rattle.gl_base.proofs.Appending.{wrote_nothing}
use Rattle.message_end.specs.declared.end.Stop.{Stop}
use Rattle.message_end.specs.declared.end.Stop.TheVariants as stop
use Rattle.message_end.specs.Core.{Step, Went, step_in}
use Rattle.message_end.specs.Core.Went.{Goes, Spent}
use Rattle.message_end.specs.Ends.{Asked, Input, HasGone, HasSpent, HasStopped, IsFront, IsLeft as LeavesRoom, IsShort, asked_both, none_asked, printed, wrote}
use Rattle.message_end.proofs.Members.{has-map}
use Rattle.message_flow.specs.declared.step.Note.{Note}
use Rattle.message_flow.specs.declared.step.StepOut.{StepOut}
use Rattle.trace_log.specs.Laws.{NotesAreLines, log_with}
use Rattle.trace_log.specs.Log.{Entry, Happening}
use Rattle.trace_log.specs.Log.Entry.{Noted}
use Rattle.trace_log.specs.Text.{note_line, printed_note, text_of}
use Rattle.end_run.specs.declared.ending.Ending.{Ending}
use Rattle.end_run.specs.declared.ending.Ending.TheVariants.{Closed, DiskFailed, Full, LinkFailed, NoMemory, NumbersSpent, Stopped, Turns, WriteFailed}
use Rattle.end_run.specs.Acts.{Act, StepAt, list_of}
use Rattle.end_run.specs.Acts.Act.{Sends, Stands, Writes}
use Rattle.end_run.specs.Calls.{EndsWith, IsExact, PutsAsCan}
use Rattle.end_run.specs.Outcome.{Comes, Did, DiskFails, Does, IsSpent, Linked, Lists, Made, MadePart, PutsLast, Runs, WriteFails, stop_for}
use Rattle.end_run.specs.Scenes.{Scene, StopAt, written}
use Rattle.end_run.specs.Steps.{entries_at, made, notes_at, sends, spent_for, stands}
use Rattle.end_run.proofs.Doing.{does_behind}
use Rattle.end_run.proofs.Joining.{carried_none, did_none, did_step, goes_none, lists_still, made_both, made_none, made_step, room_none, with_end}

-- ---- the lines of a step

pub noted_text : NotesAreLines → (side : Side) (now : ℕ) (noted : List Happening)
    → text_of (entries_at side now noted) ≡ flat_map (note_line now side) (printed noted)
noted_text law side now noted = law now side noted []

pub step_text : NotesAreLines → (side : Side) (now : ℕ) (noted : List Happening) (written : List ℕ)
    → text_of (entries_at side now (noted ++ wrote written))
    ≡ flat_map (note_line now side) (printed noted) ++ flat_map (note_line now side) (printed (wrote written))
step_text law side now noted written =
    noted_text law side now (noted ++ wrote written)
    ∙ ap (flat_map (note_line now side)) (filter_map-append printed_note noted (wrote written))
    ∙ flat_map-append (note_line now side) (printed noted) (printed (wrote written))

-- ---- nothing but writing

-- nothing was done, and memory ran out
pub part_none : {S C : Type 0} {how : Option Ending} (a : Scene S C) (acts : List (Act S C)) → MadePart how a a acts
part_none a acts = record {
  done = [];
  later = acts;
  whole = refl;
  made = made_none a a.end a.room a.stop;
  end = inl (goes_none a);
}

-- the same scene with more at the output
abbrev pub with_out : {S C : Type 0} → Scene S C → Option (List ℕ) → SinkHealth → Scene S C
with_out a received out = record a { received = received; out = out }

module _ {S C : Type 0} (a : Scene S C) (r' : Option (List ℕ)) (k' : SinkHealth) (entries : List Entry) (text : List ℕ)
  where
    linked_out : Linked a (with_out a r' k') []
    linked_out = record { listed = lists_still a.contents a.contents [] refl refl refl; clock = refl; timely = tt }

    pub wrote_made : WroteText (written a (with_out a r' k')) text → Made a (with_out a r' k') (Writes entries text ∷ [])
    wrote_made text_wrote = record {
      linked = record {
        listed = lists_still a.contents a.contents (Writes entries text ∷ []) refl refl refl;
        clock = refl;
        timely = (tt, tt);
      };
      carried = carried_none a.link;
      wrote = subst (λ (t : List ℕ). WroteText (written a (with_out a r' k')) t) (sym (append-nil text)) text_wrote;
    }

    pub wrote_did : WroteText (written a (with_out a r' k')) text → Did a (with_out a r' k') (Writes entries text ∷ [])
    wrote_did text_wrote = record { made = wrote_made text_wrote; end = refl; room = room_none a.room; stop = refl }

    pub short_fails : {how : Option Ending} (more : List (Act S C)) → WroteShort (written a (with_out a r' k')) text
        → WriteFails how a (with_out a r' k') (Writes entries text ∷ more)
    short_fails more short = record {
      done = [];
      entries = entries;
      text = text;
      later = more;
      whole = refl;
      linked = linked_out;
      carried = carried_none a.link;
      count = short.count;
      short = short.short;
      received = short.received;
      fault = short.fault;
      end = inl (record { end = refl; stop = refl });
    }

    -- nothing was written, for want of memory
    pub none_wrote : {how : Option Ending} (more : List (Act S C)) → WroteText (written a (with_out a r' k')) []
        → MadePart how a (with_out a r' k') (Writes entries text ∷ more)
    none_wrote more none = record {
      done = [];
      later = Writes entries text ∷ more;
      whole = refl;
      made = record { linked = linked_out; carried = carried_none a.link; wrote = none };
      end = inl (record { end = refl; stop = refl });
    }

    -- these lines are the last of a run
    pub ends_does : (how result : Ending) → how ≢ NumbersSpent → how ≢ Full → EndsWith (written a (with_out a r' k')) text how result
        → Does a (with_out a r' k') (Some how) (Writes entries text ∷ []) (Some result)
    ends_does how Stopped other full ends = (ap Some ends.0, wrote_did ends.1)
    ends_does how Closed other full ends = (ap Some ends.0, wrote_did ends.1)
    ends_does how Turns other full ends = (ap Some ends.0, wrote_did ends.1)
    ends_does how NumbersSpent other full ends = absurd (other ends.0)
    ends_does how Full other full ends = absurd (full ends.0)
    ends_does how DiskFailed other full ends = absurd ends
    ends_does how LinkFailed other full ends = absurd ends
    ends_does how WriteFailed other full short = short_fails [] short
    ends_does how NoMemory other full none = none_wrote [] none

-- the same of an ending that is exact
pub ends_exact : (out : SinkTold) (text : List ℕ) (how : Ending) → IsExact how → WroteText out text
    → EndsWith out text how how
ends_exact out text Stopped exact written = (refl, written)
ends_exact out text Closed exact written = (refl, written)
ends_exact out text Turns exact written = (refl, written)
ends_exact out text NumbersSpent exact written = (refl, written)
ends_exact out text Full exact written = (refl, written)
ends_exact out text DiskFailed exact written = absurd exact
ends_exact out text LinkFailed exact written = absurd exact
ends_exact out text WriteFailed exact written = absurd exact
ends_exact out text NoMemory exact written = absurd exact

-- ---- nothing but sending

-- the same scene with another link
abbrev pub with_link : {S C : Type 0} → Scene S C → Option LinkContents → ℕ → LinkHealth → Scene S C
with_link a contents moment link = record a { contents = contents; moment = moment; link = link }

module _ {S C : Type 0} (a : Scene S C) (l' : Option LinkContents) (m' : ℕ) (h' : LinkHealth) where
  abbrev sending : List ℕ → List (Act S C)
  sending characters = Sends characters ∷ []

  sent_listed : (l : Option LinkContents) (characters : List ℕ) → l' ≡ told_after_send characters l
      → Lists l (sending characters) l'
  sent_listed None characters is = is
  sent_listed (Some contents) characters is =
      subst (λ (after : Option LinkContents). Lists (Some contents) (sending characters) after) (sym is) (record {
        entries = ap (λ (es : List LinkEntry). contents.entries ++ es) (sym (append-nil (entries_of characters)));
        left = refl;
      })

  sent_length : (characters : List ℕ) → length (list_of (sending characters)) ≡ length characters
  sent_length characters = ap length (append-nil (entries_of characters)) ∙ length-map characters Sent

  sent_linked : (characters : List ℕ) → l' ≡ told_after_send characters a.contents → m' ≡ a.moment
      → Linked a (with_link a l' m' h') (Sends characters ∷ [])
  sent_linked characters told clock = record
      { listed = sent_listed a.contents characters told; clock = clock; timely = (tt, tt) }

  pub none_sent_does : (characters : List ℕ) → characters ≡ [] → Does a a None (sends characters) None
  none_sent_does characters none =
      subst (λ (cs : List ℕ). Does a a None (sends cs) None) (sym none) (refl, did_none a)

  pub all_sent_does : (characters : List ℕ) → 0 < length characters → l' ≡ told_after_send characters a.contents
      → m' ≡ a.moment → IsCarriedOn a.link h' (length characters)
      → Does a (with_link a l' m' h') None (sends characters) None
  all_sent_does [] some told clock cause = absurd (omega (arith, some))
  all_sent_does (byte ∷ bytes) some told clock cause = (
    refl,
    record {
      made = record {
        linked = sent_linked (byte ∷ bytes) told clock;
        carried = subst (λ (n : ℕ). IsCarriedOn a.link h' n) (sym (sent_length (byte ∷ bytes))) cause;
        wrote = wrote_nothing;
      };
      end = refl;
      room = room_none a.room;
      stop = refl;
    },
  )

  pub send_fails : (characters : List ℕ) → 0 < length characters
      → ((n : ℕ) × (n < length characters) × (l' ≡ told_after_send (take n characters) a.contents))
      → m' ≡ a.moment → LinkFault a.link h' (length characters)
      → Does a (with_link a l' m' h') None (sends characters) (Some LinkFailed)
  send_fails [] some part clock fault = absurd (omega (arith, some))
  send_fails (byte ∷ bytes) some part clock fault = record {
    done = [];
    failed = Sends (byte ∷ bytes);
    later = [];
    whole = refl;
    part = Sends (take part.0 (byte ∷ bytes)) ∷ [];
    cut = (part.0, part.1, refl);
    linked = sent_linked (take part.0 (byte ∷ bytes)) part.2 clock;
    fault = subst (λ (n : ℕ). LinkFault a.link h' n) (sym (length-map (byte ∷ bytes) Sent)) fault;
    wrote = wrote_nothing;
    end = record { end = refl; stop = refl };
  }

-- ---- a step

-- entries of more notes stand in front of those of the first ones
front_log : (side : Side) (now : ℕ) (noted : List Happening) (log : List Entry)
    → log_with now side noted log ≡ log_with now side noted [] ++ log
front_log side now [] log = refl
front_log side now (what ∷ noted) log =
    front_log side now noted (Noted now side what ∷ log)
    ∙ sym (append_assoc (log_with now side noted []) (Noted now side what ∷ []) log)
    ∙ ap (λ (es : List Entry). es ++ log) (sym (front_log side now noted (Noted now side what ∷ [])))

both_log : (side : Side) (now : ℕ) (first more : List Happening) (log : List Entry)
    → log_with now side (first ++ more) log ≡ log_with now side more (log_with now side first log)
both_log side now [] more log = refl
both_log side now (what ∷ first) more log = both_log side now first more (Noted now side what ∷ log)

entries_both : (side : Side) (now : ℕ) (first more : List Happening)
    → entries_at side now (first ++ more) ≡ entries_at side now more ++ entries_at side now first
entries_both side now first more =
    both_log side now first more [] ∙ front_log side now more (entries_at side now first)

-- a text was put as far as could be, and nothing else was done
puts_last : {S C : Type 0} (a : Scene S C) (end : S) (room : Asked) (stop : Option (StopAt S C))
    (r' : Option (List ℕ)) (k' : SinkHealth) (text : List ℕ)
    → PutsAsCan (written a (with_out a r' k')) text
    → PutsLast a (with_out (with_end a end room stop) r' k') [] text
puts_last a end room stop r' k' text (inl all) = inl all
puts_last a end room stop r' k' text (inr (inl short)) =
    inr (inl (record
    { count = short.count; short = short.short; received = short.received; fault = short.fault }))
puts_last a end room stop r' k' text (inr (inr none)) = inr (inr none)

-- what ends a step early, by how the run ends with it
never_stops : (lacks_room : Bool) → spent_for lacks_room ≡ Stopped → ⊥
never_stops true is = absurd (cc)
never_stops false is = absurd (cc)

never_closes : (lacks_room : Bool) → spent_for lacks_room ≡ Closed → ⊥
never_closes true is = absurd (cc)
never_closes false is = absurd (cc)

never_turns : (lacks_room : Bool) → spent_for lacks_room ≡ Turns → ⊥
never_turns true is = absurd (cc)
never_turns false is = absurd (cc)

module _ {S C : Type 0} (law : NotesAreLines) (at : StepAt S C) (stops : List (List Happening)) (asked : Asked)
    (lacks_room : Bool) (reply : List ℕ) (went : Went S Happening) (out : StepOut) where
  -- it goes on, and its lines are these
  gone_text : (next : S) (gone : HasGone went next out)
      → text_of (entries_at at.side at.moment (gone.step.notes ++ wrote gone.step.written))
      ≡ flat_map (note_line at.moment at.side) out.notes ++ flat_map (note_line at.moment at.side) (printed
      (wrote out.line.items))
  gone_text next gone =
      step_text law at.side at.moment gone.step.notes gone.step.written
      ∙ ap (λ (ns : List Note). flat_map (note_line at.moment at.side) ns
      ++ flat_map (note_line at.moment at.side) (printed (wrote gone.step.written))) (sym gone.notes)
      ∙ ap (λ (w : List ℕ). flat_map (note_line at.moment at.side) out.notes
      ++ flat_map (note_line at.moment at.side) (printed (wrote w))) (sym gone.written)

  pub gone_runs :
      (a c : Scene S C) (next : S) (room : Asked) (gone : HasGone went next out) → LeavesRoom a.room asked room
      → (result : Option Ending)
      → ((entries : List Entry) → text_of entries
      ≡ flat_map (note_line at.moment at.side) out.notes ++ flat_map (note_line at.moment at.side) (printed
      (wrote out.line.items))
      → Does (with_end a next room a.stop) c None (Writes entries (text_of entries ++ reply) ∷ sends out.line.items) result)
      → Runs a c (made at stops asked lacks_room reply went) result
  gone_runs a c next room gone used result does =
      let entries : List Entry = entries_at at.side at.moment (gone.step.notes ++ wrote gone.step.written) in
      let first : Act S C = stands at stops asked (Some gone.step.next) in
      subst (λ (went : Went S Happening). Runs a c (made at stops asked lacks_room reply went) result) (sym gone.is)
      (subst (λ (w : List ℕ). Does a c None (first ∷ Writes entries (text_of entries ++ reply) ∷ sends w) result)
      gone.written
      (does_behind c (first ∷ [])
      (did_step a next room at (map (entries_at at.side at.moment) stops) asked (Some gone.step.next)
      (sym gone.next_is) used) None
      (Writes entries (text_of entries ++ reply) ∷ sends out.line.items) result
      (does entries (gone_text next gone))))

  pub gone_end : (next : S) → HasGone went next out → next ≡ (made at stops asked lacks_room reply went).end
  gone_end next gone =
      sym gone.next_is ∙ ap (λ (went : Went S Happening). (made at stops asked lacks_room reply went).end) (sym gone.is)

  -- the end is known behind it
  pub gone_comes :
      {E : Type 0} (known : E → Type 0) (left : S → Input C → ℕ → StepOut → Stop → E → Type 0) (end : E)
      (a : Scene S C) (c : Option (StopAt S C) → Scene S C) (next : S) (room : Asked) → (c None).end ≡ next
      → (gone : HasGone went next out) → LeavesRoom a.room asked room → known end → (result : Option Ending)
      → ((entries : List Entry) → text_of entries
      ≡ flat_map (note_line at.moment at.side) out.notes
      ++ flat_map (note_line at.moment at.side) (printed (wrote out.line.items))
      → Does (with_end a next room a.stop) (c None) None
      (Writes entries (text_of entries ++ reply) ∷ sends out.line.items) result)
      → Comes known left end a c (made at stops asked lacks_room reply went) result
  gone_comes known left end a c next room is gone used so None does =
      (gone_runs a (c None) next room gone used None does, so, is ∙ gone_end next gone)
  gone_comes known left end a c next room is gone used so (Some how) does =
      (None, so, gone_runs a (c None) next room gone used (Some how) does)

  -- memory runs out in it
  pub lacks_memory : (a : Scene S C) → at.state ≡ a.end → (end : S) (room : Asked)
      → Runs a (with_end a end room (Some (record { at = at; out = out; why = stop.NoMemory })))
      (made at stops asked lacks_room reply went) (Some NoMemory)
  lacks_memory a here end room = go went
    where
      all : List (List Entry)
      all = map (entries_at at.side at.moment) stops

      lacks : {how : Option Ending} (left : Option S) (more : List (Act S C))
          → MadePart how a (with_end a end room (Some (record { at = at; out = out; why = stop.NoMemory })))
          (Stands at all asked left ∷ more)
      lacks left more = record {
        done = [];
        later = Stands at all asked left ∷ more;
        whole = refl;
        made = made_none a end room (Some (record { at = at; out = out; why = stop.NoMemory }));
        end = inr (inr (record {
          at = at;
          stops = all;
          asked = asked;
          end = left;
          more = more;
          whole = refl;
          before = here;
          out = out;
          stop = refl;
        }));
      }

      go : (went : Went S Happening)
          → Runs a (with_end a end room (Some (record { at = at; out = out; why = stop.NoMemory })))
          (made at stops asked lacks_room reply went) (Some NoMemory)
      go (Goes step) =
          lacks (Some step.next)
          (notes_at at.side at.moment (step.notes ++ wrote step.written) reply ∷ sends step.written)
      go (Spent step) = lacks None (notes_at at.side at.moment step.notes [] ∷ [])

  -- it has stopped, and this is what is seen behind it
  module _ (a : Scene S C) (here : at.state ≡ a.end) (end : S) (room : Asked) (r' : Option (List ℕ)) (k' : SinkHealth)
    where
      abbrev pub stopped : Stop → Scene S C
      stopped why = with_out (with_end a end room (Some (record { at = at; out = out; why = why }))) r' k'

      -- it ends early: its lines are the last
      spent_does :
          (store : Bool) (entries : List Entry) (text : List ℕ) (result : Ending)
          → EndsWith (written a (with_out a r' k')) text (spent_for store) result
          → Does a (stopped (stop_for store)) (Some (spent_for store))
          (stands at stops asked None ∷ Writes entries text ∷ []) (Some result)
      spent_does store entries text result ends = go result ends
        where
          all : List (List Entry)
          all = map (entries_at at.side at.moment) stops

          stop_at : Option (StopAt S C)
          stop_at = Some (record { at = at; out = out; why = stop_for store })

          linked : Linked a (stopped (stop_for store)) (Stands at all asked None ∷ [])
          linked = record {
            listed = lists_still a.contents a.contents (Stands at all asked None ∷ []) refl refl refl;
            clock = refl;
            timely = (tt, tt);
          }

          begun : Made a (with_end a end room stop_at) (Stands at all asked None ∷ [])
          begun = made_step a end room stop_at at all asked None

          spent : (more : List (Act S C))
              → IsSpent (Some (spent_for store)) a (stopped (stop_for store)) (Stands at all asked None ∷ more)
          spent more = record {
            first = [];
            at = at;
            stops = all;
            asked = asked;
            later = more;
            whole = refl;
            before = here;
            out = out;
            lacks_room = store;
            ended = refl;
            stop = refl;
          }

          done : WroteText (written a (with_out a r' k')) text
              → Made a (stopped (stop_for store)) (Stands at all asked None ∷ Writes entries text ∷ [])
          done wrote =
              made_both (stopped (stop_for store)) (Stands at all asked None ∷ []) [] (Writes entries text ∷ []) begun
              (wrote_made (with_end a end room stop_at) r' k' entries text wrote)

          go : (result : Ending) → EndsWith (written a (with_out a r' k')) text (spent_for store) result
              → Does a (stopped (stop_for store)) (Some (spent_for store))
              (Stands at all asked None ∷ Writes entries text ∷ []) (Some result)
          go NumbersSpent ends = (ap Some ends.0, done ends.1, spent (Writes entries text ∷ []))
          go Full ends = (ap Some ends.0, done ends.1, spent (Writes entries text ∷ []))
          go WriteFailed short = record {
            done = Stands at all asked None ∷ [];
            entries = entries;
            text = text;
            later = [];
            whole = refl;
            linked = linked;
            carried = carried_none a.link;
            count = short.count;
            short = short.short;
            received = short.received;
            fault = short.fault;
            end = inr (spent []);
          }
          go NoMemory none = record {
            done = Stands at all asked None ∷ [];
            later = Writes entries text ∷ [];
            whole = refl;
            made = record { linked = linked; carried = carried_none a.link; wrote = none };
            end = inr (inl (spent []));
          }
          go Stopped ends = absurd (never_stops store ends.0)
          go Closed ends = absurd (never_closes store ends.0)
          go Turns ends = absurd (never_turns store ends.0)
          go DiskFailed ends = absurd ends
          go LinkFailed ends = absurd ends

      pub spent_runs : (store : Bool) → lacks_room ≡ store → (spent : HasSpent went out) (result : Ending)
          → EndsWith (written a (with_out a r' k')) (flat_map
          (note_line at.moment at.side) out.notes) (spent_for store) result
          → Runs a (stopped (stop_for store)) (made at stops asked lacks_room reply went) (Some result)
      spent_runs store is spent result ends =
          subst (λ (f : Bool). Runs a (stopped (stop_for store)) (made at stops asked f reply went) (Some result)) (sym is)
          (subst
          (λ (went : Went S Happening). Runs a (stopped (stop_for store)) (made at stops asked store reply went)
          (Some result))
          (sym spent.is)
          (spent_does store (entries_at at.side at.moment spent.step.notes)
          (text_of (entries_at at.side at.moment spent.step.notes) ++ []) result
          (subst (λ (t : List ℕ). EndsWith (written a (with_out a r' k')) t (spent_for store) result)
          (sym (append-nil (text_of (entries_at at.side at.moment spent.step.notes))
          ∙ noted_text law at.side at.moment spent.step.notes
          ∙ ap (flat_map (note_line at.moment at.side)) (sym spent.notes)))
          ends)))

      -- the disk stops it, whatever it was to write then
      disk_stops :
          (halt : HasStopped stops went out) (left : Option S) (noted : List Happening) (text : List ℕ)
          (more : List (Act S C))
          → IsFront halt.front noted → IsShort a.room asked
          → PutsAsCan (written a (with_out a r' k')) (flat_map (note_line at.moment at.side) out.notes)
          → DiskFails a (stopped stop.DiskFailed)
          (stands at stops asked left ∷ Writes (entries_at at.side at.moment noted) text ∷ more)
      disk_stops halt left noted text more first short puts = record {
        done = [];
        at = at;
        stops = map (entries_at at.side at.moment) stops;
        asked = asked;
        end = left;
        newer = entries_at at.side at.moment first.rest;
        entries = entries_at at.side at.moment halt.front;
        text = text;
        later = more;
        whole =
            ap (λ (es : List Entry). stands at stops asked left ∷ Writes es text ∷ more)
            (ap (entries_at at.side at.moment) first.whole ∙ entries_both at.side at.moment halt.front first.rest);
        before = here;
        front = halt.front;
        noted = refl;
        out = out;
        notes = halt.notes;
        stop = refl;
        may = has-map (entries_at at.side at.moment) stops halt.front halt.may;
        linked = record { listed = lists_still a.contents a.contents [] refl refl refl; clock = refl; timely = tt };
        carried = carried_none a.link;
        put =
            puts_last a end room _ r' k' (text_of (entries_at at.side at.moment halt.front))
            (subst (λ (t : List ℕ). PutsAsCan (written a (with_out a r' k')) t)
            (ap (flat_map (note_line at.moment at.side)) halt.notes
            ∙ sym (noted_text law at.side at.moment halt.front)) puts);
        short = none_asked_yet short;
      }
        where
          none_asked_yet : IsShort a.room asked → IsShort a.room (asked_both none_asked asked)
          none_asked_yet (inl few) = inl (omega (arith, few))
          none_asked_yet (inr few) = inr (omega (arith, few))

      pub stopped_runs :
          HasStopped stops went out → IsShort a.room asked
          → PutsAsCan (written a (with_out a r' k')) (flat_map (note_line at.moment at.side) out.notes)
          → Runs a (stopped stop.DiskFailed) (made at stops asked lacks_room reply went) (Some DiskFailed)
      stopped_runs halt short puts = go went halt.first
        where
          front_more : (notes last : List Happening) → IsFront halt.front notes → IsFront halt.front (notes ++ last)
          front_more notes last first = record {
            rest = first.rest ++ last;
            whole =
                ap (λ (ns : List Happening). ns ++ last) first.whole ∙ append_assoc halt.front first.rest last;
          }

          go : (went : Went S Happening) → IsFront halt.front (step_in went).notes
              → Runs a (stopped stop.DiskFailed) (made at stops asked lacks_room reply went) (Some DiskFailed)
          go (Goes step) first =
              disk_stops halt (Some step.next) (step.notes ++ wrote step.written)
              (text_of (entries_at at.side at.moment (step.notes ++ wrote step.written)) ++ reply) (sends step.written)
              (front_more step.notes (wrote step.written) first) short puts
          go (Spent step) first =
              disk_stops halt None step.notes (text_of (entries_at at.side at.moment step.notes) ++ []) [] first short
              puts

-- ---- a start

-- its lines are those of its notes
pub start_text : {S : Type 0} → NotesAreLines → (side : Side) (start : Step S Happening) (notes : List Note)
    → printed start.notes ≡ notes → text_of (entries_at side 0 start.notes) ≡ flat_map (note_line 0 side) notes
start_text law side start notes are = noted_text law side 0 start.notes ∙ ap (flat_map (note_line 0 side)) are
