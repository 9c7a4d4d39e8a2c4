-- That what the output has of a run are the lines of what its course notes, or of what comes first of it.
use Rattle.std.proofs.Common.{◌≡◌, inl, inr, refl, sym, ap, subst, ◌∙◌, ℕ, List, [], ◌∷◌, ◌++◌, All, take, drop, append_assoc, append-nil, Option, Some}
use Rattle.std.proofs.lemmas.List.Elements.{All-cons, All-nil}
use Rattle.std.proofs.lemmas.List.{take-append-drop}
use Rattle.gl_base.specs.Sink.{with_bytes}
use Rattle.gl_base.specs.declared.link.LinkIn.{LinkIn}
use Rattle.gl_base.specs.declared.side.Side.{Side}
use Rattle.message_end.specs.Core.{Step}
use Rattle.message_end.specs.Course.{course_of, notes_of}
use Rattle.message_end.specs.Ends.{Machine}
use Rattle.trace_log.specs.Log.{Entry, Happening}
use Rattle.trace_log.specs.Text.{text_of}
use Rattle.end_pair.specs.Noted.{noted_by}
use Rattle.end_run.specs.Acts.{Act, lines_of, log_of}
use Rattle.end_run.specs.Acts.Act.{Stands, Writes}
use Rattle.end_run.specs.Commands.{Telling}
use Rattle.end_run.specs.Commands.Telling.{IsOther, Says, Stops, Tells}
use Rattle.end_run.specs.Outcome.{Does, PutsLast, RunsOver}
use Rattle.end_run.specs.Pieces.{Piece}
use Rattle.end_run.specs.Run.{commanded_run}
use Rattle.end_run.specs.Scenes.{Scene}
use Rattle.end_run.specs.declared.ending.Ending.{Ending}
use Rattle.end_run.specs.declared.ending.Ending.TheVariants.{Closed, DiskFailed, Full, LinkFailed, NoMemory, NumbersSpent, Stopped, Turns, WriteFailed}
use Rattle.link_courses.specs.Courses.{AreNotesOf, IsCourse, met_by, with_closing}
use Rattle.end_run.proofs.Joining.{lines_of-append}
use Rattle.link_courses.specs.Noting.{AnyReply, AreThere, AreWritten, EndsAsDue, HasDone, HasNoted, HasPart, IsFirstOf, NoReply, RepliesSo, RunsNoteCourses, WriteSo}
use Rattle.link_courses.proofs.Coming.{are-courses}
use Rattle.link_courses.proofs.Lists.{log-both, noted-both, own-tail}
use Rattle.link_courses.proofs.Writing.{lines-alone, run-writes, write-both, write-front}

-- ---- logs of some first acts

-- the log of all acts has that of the first ones behind what comes later
record IsTail (whole log : List Entry) : Type 0 where
  later : List Entry
  is : whole ≡ later ++ log

done-tail : {S C : Type 0} (acts done later : List (Act S C)) → acts ≡ done ++ later
    → IsTail (log_of acts) (log_of done)
done-tail acts done later is = record { later = log_of later; is = ap log_of is ∙ log-both done later }

-- of what an act writes, some entries come first
writes-tail :
    {S C : Type 0} (acts done later : List (Act S C)) (newer entries : List Entry) (text : List ℕ)
    → acts ≡ done ++ Writes (newer ++ entries) text ∷ later → IsTail (log_of acts) (entries ++ log_of done)
writes-tail acts done later newer entries text is = record {
  later = log_of later ++ newer;
  is =
      ap log_of is ∙ log-both done (Writes (newer ++ entries) text ∷ later)
      ∙ append_assoc (log_of later) (newer ++ entries) (log_of done)
      ∙ ap (λ (l : List Entry). log_of later ++ l) (append_assoc newer entries (log_of done))
      ∙ sym (append_assoc (log_of later) newer (entries ++ log_of done));
}

-- ---- texts

module _ (before after : Option (List ℕ)) (lines text : List ℕ) where
  all-part : after ≡ with_bytes before (lines ++ text) → HasPart before after (lines ++ text)
  all-part is =
      record { front = lines ++ text; rest = []; whole = sym (append-nil (lines ++ text)); received = is }

  short-part : (count : ℕ) → after ≡ with_bytes before (lines ++ take count text)
      → HasPart before after (lines ++ text)
  short-part count is = record {
    front = lines ++ take count text;
    rest = drop count text;
    whole =
        ap (λ (t : List ℕ). lines ++ t) (sym (take-append-drop count text))
        ∙ sym (append_assoc lines (take count text) (drop count text));
    received = is;
  }

  none-part : after ≡ with_bytes before lines → HasPart before after (lines ++ text)
  none-part is = record { front = lines; rest = text; whole = refl; received = is }

put-part :
    {S C : Type 0} (a b : Scene S C) (lines text : List ℕ) → PutsLast a b lines text
    → HasPart a.received b.received (lines ++ text)
put-part a b lines text (inl all) = all-part a.received b.received lines text all.received
put-part a b lines text (inr (inl short)) =
    short-part a.received b.received lines text short.count short.received
put-part a b lines text (inr (inr none)) = none-part a.received b.received lines text none.received

-- ---- by how it ended

module _ {S C : Type 0} (Such : List ℕ → Type 0) (none : Such []) (machine : Machine S C) (start : Step S Happening)
    (side : Side) (run : List LinkIn → Piece S C) (a b : Scene S C)
    (course : (answers : List LinkIn) → IsCourse machine start side (run answers))
    (writes : (answers : List LinkIn) → WriteSo Such (run answers).acts) where
  abbrev all_notes : List LinkIn → List Happening
  all_notes answers =
      with_closing (run answers).ended (notes_of (course_of start machine (met_by (run answers).acts)))

  first-notes : (answers : List LinkIn) (log : List Entry) → IsTail (log_of (run answers).acts) log
      → IsFirstOf (all_notes answers) (noted_by side log)
  first-notes answers log tail = record {
    later = noted_by side tail.later;
    is =
        sym (course answers).noted ∙ ap (λ (l : List Entry). noted_by side l) tail.is
        ∙ noted-both side tail.later log;
  }

  own-notes : (answers : List LinkIn) (log : List Entry) → IsTail (log_of (run answers).acts) log
      → AreNotesOf side log
  own-notes answers log tail =
      own-tail side tail.later log (subst (AreNotesOf side) tail.is (course answers).notes)

  abbrev Done : Ending → Type 0
  Done result = HasDone Such machine start side run a b result

  -- all of it was done
  all-done : (result : Ending) (over : RunsOver a b run result) → EndsAsDue result (run over.answers).ended
      → AreThere result (all_notes over.answers) (noted_by side (log_of (run over.answers).acts))
      → AreWritten result a.received b.received (lines_of (run over.answers).acts)
      → Done result
  all-done result over due there written = record {
    answers = over.answers;
    to_come = over.to_come;
    done = (run over.answers).acts;
    notes = (course over.answers).notes;
    there = there;
    due = due;
    lines = writes over.answers;
    written = written;
  }

  -- these acts were done, with which all of it begins
  front-done : (result : Ending) (over : RunsOver a b run result) (done later : List (Act S C))
      → (run over.answers).acts ≡ done ++ later → EndsAsDue result (run over.answers).ended
      → (IsFirstOf (all_notes over.answers) (noted_by side (log_of done))
      → AreThere result (all_notes over.answers) (noted_by side (log_of done)))
      → AreWritten result a.received b.received (lines_of done)
      → Done result
  front-done result over done later whole due there written =
      let tail = done-tail (run over.answers).acts done later whole in
      record {
        answers = over.answers;
        to_come = over.to_come;
        done = done;
        notes = own-notes over.answers (log_of done) tail;
        there = there (first-notes over.answers (log_of done) tail);
        due = due;
        lines = write-front Such done later (subst (WriteSo Such) whole (writes over.answers));
        written = written;
      }

  by-ending :
      (result : Ending) (over : RunsOver a b run result)
      → Does a b (run over.answers).ended (run over.answers).acts (Some result)
      → Done result
  by-ending Stopped over does =
      all-done Stopped over does.0 (course over.answers).noted does.1.made.wrote.received
  by-ending Closed over does =
      all-done Closed over does.0 (course over.answers).noted does.1.made.wrote.received
  by-ending Turns over does = all-done Turns over does.0 (course over.answers).noted does.1.made.wrote.received
  by-ending NumbersSpent over does =
      all-done NumbersSpent over does.0 (course over.answers).noted does.1.wrote.received
  by-ending Full over does = all-done Full over does.0 (course over.answers).noted does.1.wrote.received
  by-ending DiskFailed over does =
      let acts = (run over.answers).acts in
      let stand : Act S C = Stands does.at does.stops does.asked does.end in
      let last : Act S C = Writes does.entries (text_of does.entries ++ []) in
      let done = does.done ++ stand ∷ [] in
      let more : acts ≡ done ++ Writes (does.newer ++ does.entries) does.text ∷ does.later =
      does.whole
      ∙ sym (append_assoc does.done (stand ∷ []) (Writes (does.newer ++ does.entries) does.text ∷ does.later))
      in
      let log : log_of (done ++ last ∷ []) ≡ does.entries ++ log_of done = log-both done (last ∷ []) in
      let tail =
      subst (IsTail (log_of acts)) (sym log) (writes-tail acts done does.later does.newer does.entries does.text more)
      in
      let stood : lines_of (done ++ last ∷ []) ≡ lines_of does.done ++ text_of does.entries =
      lines_of-append done (last ∷ [])
      ∙ ap (λ (t : List ℕ). t ++ lines_of (last ∷ []))
      (lines_of-append does.done (stand ∷ []) ∙ append-nil (lines_of does.done))
      ∙ ap (λ (t : List ℕ). lines_of does.done ++ t)
      (append-nil (text_of does.entries ++ []) ∙ append-nil (text_of does.entries))
      in
      let whole =
      subst (WriteSo Such) more (writes over.answers)
      in
      record {
        answers = over.answers;
        to_come = over.to_come;
        done = done ++ last ∷ [];
        notes = own-notes over.answers (log_of (done ++ last ∷ [])) tail;
        there = first-notes over.answers (log_of (done ++ last ∷ [])) tail;
        due = tt;
        lines =
            write-both Such done (last ∷ [])
            (write-front Such done (Writes (does.newer ++ does.entries) does.text ∷ does.later) whole)
            (([], refl, none), tt);
        written =
            subst (HasPart a.received b.received) (sym stood)
            (put-part a b (lines_of does.done) (text_of does.entries) does.put);
      }
  by-ending LinkFailed over does =
      front-done LinkFailed over does.done (does.failed ∷ does.later) does.whole tt (λ first. first)
      does.wrote.received
  by-ending WriteFailed over does =
      let last : Act S C = Writes does.entries does.text in
      let stood : lines_of (does.done ++ last ∷ []) ≡ lines_of does.done ++ does.text =
      lines_of-append does.done (last ∷ [])
      ∙ ap (λ (t : List ℕ). lines_of does.done ++ t) (append-nil does.text)
      in
      front-done WriteFailed over (does.done ++ last ∷ []) does.later
      (does.whole ∙ sym (append_assoc does.done (last ∷ []) does.later)) tt (λ first. first)
      (subst (HasPart a.received b.received) (sym stood)
      (short-part a.received b.received (lines_of does.done) does.text does.count does.received))
  by-ending NoMemory over does =
      front-done NoMemory over does.done does.later does.whole tt (λ first. first) does.made.wrote.received

  pub has-done : (result : Ending) → RunsOver a b run result → Done result
  has-done result over = by-ending result over over.runs

-- of a run in which nothing is replied
pub has-noted :
    {S C : Type 0} (machine : Machine S C) (start : Step S Happening) (side : Side) (run : List LinkIn → Piece S C)
    (a b : Scene S C) → ((answers : List LinkIn) → IsCourse machine start side (run answers))
    → ((answers : List LinkIn) → WriteSo NoReply (run answers).acts) → (result : Ending) → RunsOver a b run result
    → HasNoted machine start side run a b result
has-noted machine start side run a b course writes result over =
    let is = has-done NoReply refl machine start side run a b course writes result over in
    record {
      answers = is.answers;
      to_come = is.to_come;
      log = log_of is.done;
      notes = is.notes;
      there = is.there;
      due = is.due;
      written =
          subst (AreWritten result a.received b.received) (lines-alone is.done is.lines) is.written;
    }

pub any-reply : {C : Type 0} (tellings : List (Telling C)) → All (RepliesSo AnyReply) tellings
any-reply [] = All-nil (RepliesSo AnyReply)
any-reply (Tells command reply ∷ tellings) =
    All-cons (RepliesSo AnyReply) (Tells command reply) tellings tt (any-reply tellings)
any-reply (Says text ∷ tellings) = All-cons (RepliesSo AnyReply) (Says text) tellings tt (any-reply tellings)
any-reply (Stops ∷ tellings) = All-cons (RepliesSo AnyReply) Stops tellings tt (any-reply tellings)
any-reply (IsOther ∷ tellings) = All-cons (RepliesSo AnyReply) IsOther tellings tt (any-reply tellings)

pub note-courses : {S C Q : Type 0} → RunsNoteCourses S C Q
note-courses machine due commands side start coming polls a b result over =
    has-done AnyReply tt machine start side (commanded_run machine due commands side start coming polls) a b
    (are-courses machine due commands side start coming polls)
    (run-writes AnyReply tt machine due commands (λ now coming. any-reply (commands.come now coming)) side start coming
    polls)
    result over

-- ---- all of them, or the first ones

pub there-first : (result : Ending) (whole noted : List Happening) → AreThere result whole noted → IsFirstOf whole noted
there-first Stopped whole noted there = record { later = []; is = sym there }
there-first Closed whole noted there = record { later = []; is = sym there }
there-first Turns whole noted there = record { later = []; is = sym there }
there-first NumbersSpent whole noted there = record { later = []; is = sym there }
there-first Full whole noted there = record { later = []; is = sym there }
there-first DiskFailed whole noted there = there
there-first LinkFailed whole noted there = there
there-first WriteFailed whole noted there = there
there-first NoMemory whole noted there = there
