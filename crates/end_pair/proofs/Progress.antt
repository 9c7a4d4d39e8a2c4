-- How far a run has come, and what of it went out.
use Rattle.std.proofs.Common.{◌≡◌, ◌≢◌, ℕ, ◌+◌, ◌<◌, List, [], ◌∷◌, ◌++◌, length, drop, get_or, Option, None, refl, sym, ap, subst, ◌∙◌, append_assoc, append-nil, drop-cons, add-one}
use Rattle.gl_base.specs.Sending.{IsUnderWay, Passes, WrotePart, WroteShort, WroteText}
use Rattle.gl_base.specs.Sink.{SinkHealth}
use Rattle.gl_base.specs.Told.{SinkTold}
use Rattle.gl_base.specs.declared.copying.SinkAnswer.{SinkAnswer}
use Rattle.gl_base.specs.declared.copying.SinkAnswer.TheVariants.{Done, Failed}
use Rattle.gl_base.proofs.Appending.{copies_behind, cut_before, part_before, passes_behind, told, under_way_first}
use Rattle.gl_base.specs.declared.side.Side.{Side}
use Rattle.line_schedule.specs.declared.event.Event.{Event}
use Rattle.trace_log.specs.Log.{Entry}
use Rattle.trace_log.specs.Log.Entry.{Ended}
use Rattle.trace_log.specs.Text.{entry_text, text_of}
use Rattle.end_pair.specs.declared.answers.RunEnd.{RunEnd}
use Rattle.end_pair.specs.declared.answers.RunEnd.TheVariants as end
use Rattle.end_pair.specs.declared.answers.WorldStep.{WorldStep}
use Rattle.end_pair.specs.declared.answers.WorldStep.TheVariants.{Went, Slip, Turns, NumbersSpent, JournalFull, PowerLost, NoMemory}
use Rattle.end_pair.specs.Kept.{Comes, IfWent, IsPowered, Puts}
use Rattle.end_pair.specs.Run.{Ends, HandsBack, Runs, closing, whole_log}
use Rattle.end_pair.specs.World.{Piece, World, and_more, still}
use Rattle.message_end.proofs.LogText.{text_of-append}
use Rattle.end_pair.proofs.Pieces.{Leads, comes_behind, comes_stop, leads_done, leads_on, leads_stop, left_none, left_of, put_none, puts_shift}

-- a world is what it means, and none is dark
abbrev pub as_seen : (S T : Type 0) → World S T → World S T
as_seen S T world = world

abbrev pub NoDark : (S T : Type 0) → Side → World S T → World S T → Type 0
NoDark S T side now left = Unit {0}

-- what an event comes to, at the end of which there is power
pub of_event :
    {S T : Type 0} (piece : Piece S T) (world : World S T) (old lines : List ℕ) (answer : WorldStep)
    → IsPowered answer → Puts piece.went (text_of piece.entries) old lines answer
    → IfWent answer (world ≡ piece.world) → Comes (as_seen S T) (NoDark S T) piece world old lines answer
of_event {S} {T} piece world old lines answer powered puts is = record {
  puts = puts;
  world = left_of (world ≡ piece.world) (λ side. NoDark S T side world piece.world) answer powered is;
}

-- what was sent and what the page holds, the lines behind it, and what is left of the run
pub record IsAt {S T : Type 0} (whole left : Piece S T) (lines page : List ℕ) (out : SinkTold) : Type 0 where
  pub text : List ℕ
  pub under : IsUnderWay out text page
  pub leads : Leads (as_seen S T) (NoDark S T) left (text ++ lines) whole []

-- at the start
pub at_first :
    {was : Option (List ℕ)} {a : SinkHealth} {S T : Type 0} (first : Piece S T) (more : World S T → Piece S T)
    (world : World S T) (empty lines page : List ℕ)
    → page ≡ [] → empty ≡ [] → world ≡ first.world → Puts first.went (text_of first.entries) empty lines Went
    → IsAt (and_more first more) (more world) lines page (told was was a a)
at_first {was} {a} {S} {T} first more world empty lines page no_page none is_world puts = record {
  text = [];
  under = under_way_first page no_page;
  leads =
      leads_on (as_seen S T) (NoDark S T) first more world [] lines (and_more first more) []
      (record {
        puts = (puts.0, puts.1 ∙ ap (λ (t : List ℕ). t ++ text_of first.entries) none);
        world = is_world;
      })
      (λ new after answer comes. comes);
}

module _ {was mid : Option (List ℕ)} {a b : SinkHealth} (now : Option (List ℕ)) (c : SinkHealth) {S T : Type 0}
    (whole left : Piece S T) (lines page : List ℕ) (here : IsAt whole left lines page (told was mid a b)) where
  -- the lines are put to the page
  put : (slice page' : List ℕ) (answer : SinkAnswer) → slice ≡ lines
      → Passes (told mid now b c) (page ++ slice) page' answer → Passes (told was now a c) (here.text ++ lines) page'
      answer
  put slice page' answer is_slice passes =
      passes_behind now c here.text page lines page' answer here.under
      (subst (λ (s : List ℕ). Passes (told mid now b c) (page ++ s) page' answer) is_slice passes)

  -- the next event is carried out
  pub past_event :
      (slice page' empty lines' : List ℕ) (first : Piece S T) (more : World S T → Piece S T) (world' : World S T)
      → slice ≡ lines → IsUnderWay (told mid now b c) (page ++ slice) page' → empty ≡ [] → left ≡ and_more first more
      → Comes (as_seen S T) (NoDark S T) first world' empty lines' Went
      → IsAt whole (more world') lines' page' (told was now a c)
  past_event slice page' empty lines' first more world' is_slice passes none is_left comes = record {
    text = here.text ++ lines;
    under = put slice page' Done is_slice passes;
    leads =
        leads_on (as_seen S T) (NoDark S T) first more world' (here.text ++ lines)
        ((here.text ++ lines) ++ lines') whole []
        (subst (λ (t : List ℕ). Comes (as_seen S T) (NoDark S T) first world' t ((here.text ++ lines) ++ lines') Went)
        (ap (λ (t : List ℕ). (here.text ++ lines) ++ t) none ∙ append-nil (here.text ++ lines))
        (comes_behind (as_seen S T) (NoDark S T) first world' (here.text ++ lines) empty lines' Went comes))
        (subst (λ (p : Piece S T). Leads (as_seen S T) (NoDark S T) p (here.text ++ lines) whole []) is_left
        here.leads);
  }

-- ---- the end of it

-- a text behind what was on its way
ends_behind :
    {was mid : Option (List ℕ)} {a b : SinkHealth} (now : Option (List ℕ)) (c : SinkHealth) (text page lines : List ℕ)
    (how : WorldStep) (result : RunEnd)
    → IsUnderWay (told was mid a b) text page → Ends (told mid now b c) (page ++ lines) how result
    → Ends (told was now a c) (text ++ lines) how result
ends_behind {was} {mid} {a} {b} now c text page lines how result under ends = go result ends
  where
    same : under.sent ++ (page ++ lines) ≡ text ++ lines
    same = sym (append_assoc under.sent page lines) ∙ ap (λ (t : List ℕ). t ++ lines) (sym under.whole)

    wrote : WroteText (told mid now b c) (page ++ lines) → WroteText (told was now a c) (text ++ lines)
    wrote more =
        subst (λ (t : List ℕ). WroteText (told was now a c) t) same
        (copies_behind now c under.sent (page ++ lines) Done under.wrote more)

    go : (result : RunEnd) → Ends (told mid now b c) (page ++ lines) how result
        → Ends (told was now a c) (text ++ lines) how result
    go end.Whole ends = (ends.0, wrote ends.1)
    go end.Slip ends = (ends.0, wrote ends.1)
    go end.Turns ends = (ends.0, wrote ends.1)
    go end.NumbersSpent ends = (ends.0, wrote ends.1)
    go end.JournalFull ends = (ends.0, wrote ends.1)
    go end.NoMemory ends = (ends.0, wrote ends.1)
    go end.WriteFailed short =
        subst (λ (t : List ℕ). WroteShort (told was now a c) t) same
        (copies_behind now c under.sent (page ++ lines) Failed under.wrote short)

module _ {S T : Type 0} (whole : Piece S T) where
  whole_text : text_of (whole_log whole) ≡ text_of whole.entries ++ text_of (closing whole.went whole.world.moment)
  whole_text = text_of-append (closing whole.went whole.world.moment) whole.entries

  -- where it ends before the end there is no line of that
  cut_off : (how : WorldStep) → whole.went ≡ how → closing how whole.world.moment ≡ []
      → text_of (whole_log whole) ≡ text_of whole.entries
  cut_off how is none =
      whole_text
      ∙ ap (λ (w : WorldStep). text_of whole.entries ++ text_of (closing w whole.world.moment)) is
      ∙ ap (λ (es : List Entry). text_of whole.entries ++ text_of es) none
      ∙ append-nil (text_of whole.entries)

  -- all that was put so far stands in front of it
  front : (sofar : List ℕ) (answer : WorldStep) → Puts whole.went (text_of whole.entries) [] sofar answer
      → (rest : List ℕ) × (text_of (whole_log whole) ≡ sofar ++ rest)
  front sofar answer puts = go answer puts
    where
      tail : List ℕ
      tail = text_of (closing whole.went whole.world.moment)

      all : sofar ≡ text_of whole.entries → text_of (whole_log whole) ≡ sofar ++ tail
      all is = whole_text ∙ ap (λ (t : List ℕ). t ++ tail) (sym is)

      go : (answer : WorldStep) → Puts whole.went (text_of whole.entries) [] sofar answer
          → (rest : List ℕ) × (text_of (whole_log whole) ≡ sofar ++ rest)
      go Went puts = (tail, all puts.1)
      go Slip puts = (tail, all puts.1)
      go Turns puts = (tail, all puts.1)
      go NumbersSpent puts = (tail, all puts.1)
      go JournalFull puts = (tail, all puts.1)
      go (PowerLost whose) puts = (tail, all puts.1)
      go NoMemory part = (
        part.rest ++ tail,
        whole_text ∙ ap (λ (t : List ℕ). t ++ tail) (part.whole ∙ ap (λ (t : List ℕ). t ++ part.rest) (sym part.lines))
            ∙ append_assoc sofar part.rest tail,
      )

  -- it went on no further
  pub runs_stop :
      (out : SinkTold) (world : World S T) (sofar : List ℕ) (answer : WorldStep)
      (result : RunEnd)
      → answer ≢ Went → Comes (as_seen S T) (NoDark S T) whole world [] sofar answer → Ends out sofar answer
      result
      → Runs out (text_of (whole_log whole)) whole.went result
  runs_stop out world sofar answer result stops comes ends = go result ends
    where
      puts_as : (w : WorldStep) → answer ≡ w → Puts whole.went (text_of whole.entries) [] sofar w
      puts_as w is = subst (λ (v : WorldStep). Puts whole.went (text_of whole.entries) [] sofar v) is comes.puts

      text : (how : WorldStep) → whole.went ≡ how → closing how whole.world.moment ≡ [] → sofar ≡ text_of whole.entries
          → WroteText out sofar → WroteText out (text_of (whole_log whole))
      text how is none same wrote =
          subst (λ (t : List ℕ). WroteText out t) (same ∙ sym (cut_off how is none)) wrote

      go : (result : RunEnd) → Ends out sofar answer result → Runs out (text_of (whole_log whole)) whole.went result
      go end.Whole ends = absurd (stops ends.0)
      go end.Slip ends = let puts = puts_as Slip ends.0 in (puts.0, text Slip puts.0 refl puts.1 ends.1)
      go end.Turns ends = let puts = puts_as Turns ends.0 in (puts.0, text Turns puts.0 refl puts.1 ends.1)
      go end.NumbersSpent ends = let puts = puts_as NumbersSpent ends.0 in (
        puts.0,
        text NumbersSpent puts.0 refl puts.1
            ends.1,
      )
      go end.JournalFull ends = let puts = puts_as JournalFull ends.0 in (
        puts.0,
        text JournalFull puts.0 refl puts.1
            ends.1,
      )
      go end.NoMemory ends =
          let more = front sofar answer comes.puts in
          subst (λ (t : List ℕ). WrotePart out t) (sym more.1) (part_before sofar more.0 ends.1)
      go end.WriteFailed short =
          let more = front sofar answer comes.puts in
          subst (λ (t : List ℕ). WroteShort out t) (sym more.1) (cut_before sofar more.0 short)

  -- the schedule is carried out: with the line of the end, or some of it
  pub runs_closed : (out : SinkTold) (world : World S T) (sofar all : List ℕ)
      (answer : WorldStep) (result : RunEnd)
      → Comes (as_seen S T) (NoDark S T) whole world [] sofar Went → Puts Went
      (entry_text (Ended whole.world.moment)) sofar all answer
      → Ends out all answer result
      → Runs out (text_of (whole_log whole)) whole.went result
  runs_closed out world sofar all answer result comes puts ends = go result ends
    where
      line : List ℕ
      line = entry_text (Ended whole.world.moment)

      trace_is : text_of (whole_log whole) ≡ sofar ++ line
      trace_is =
          whole_text
          ∙ ap (λ (w : WorldStep). text_of whole.entries ++ text_of (closing w whole.world.moment)) comes.puts.0
          ∙ ap (λ (t : List ℕ). t ++ line) (sym comes.puts.1)

      puts_as : (w : WorldStep) → answer ≡ w → Puts Went line sofar all w
      puts_as w is = subst (λ (v : WorldStep). Puts Went line sofar all v) is puts

      more : (rest : List ℕ) × (text_of (whole_log whole) ≡ all ++ rest)
      more = parts answer puts
        where
          parts : (answer : WorldStep) → Puts Went line sofar all answer → (rest : List ℕ)
              × (text_of (whole_log whole) ≡ all ++ rest)
          parts Went puts = ([], trace_is ∙ sym puts.1 ∙ sym (append-nil all))
          parts Slip puts = ([], trace_is ∙ sym puts.1 ∙ sym (append-nil all))
          parts Turns puts = ([], trace_is ∙ sym puts.1 ∙ sym (append-nil all))
          parts NumbersSpent puts = ([], trace_is ∙ sym puts.1 ∙ sym (append-nil all))
          parts JournalFull puts = ([], trace_is ∙ sym puts.1 ∙ sym (append-nil all))
          parts (PowerLost whose) puts = ([], trace_is ∙ sym puts.1 ∙ sym (append-nil all))
          parts NoMemory part = (
            part.rest,
            trace_is ∙ ap (λ (t : List ℕ). sofar ++ t) part.whole ∙ sym (append_assoc sofar part.front part.rest)
                ∙ ap (λ (t : List ℕ). t ++ part.rest) (sym part.lines),
          )

      go : (result : RunEnd) → Ends out all answer result → Runs out (text_of (whole_log whole)) whole.went result
      go end.Whole ends =
          (comes.puts.0, subst (λ (t : List ℕ). WroteText out t) ((puts_as Went ends.0).1 ∙ sym trace_is) ends.1)
      go end.Slip ends = let puts = puts_as Slip ends.0 in cc
      go end.Turns ends = let puts = puts_as Turns ends.0 in cc
      go end.NumbersSpent ends = let puts = puts_as NumbersSpent ends.0 in cc
      go end.JournalFull ends = let puts = puts_as JournalFull ends.0 in cc
      go end.NoMemory ends = subst (λ (t : List ℕ). WrotePart out t) (sym more.1) (part_before all more.0 ends.1)
      go end.WriteFailed short = subst (λ (t : List ℕ). WroteShort out t) (sym more.1) (cut_before all more.0 short)

module _ {was mid : Option (List ℕ)} {a b : SinkHealth} (now after : Option (List ℕ)) (c d : SinkHealth) {S T : Type 0}
    (whole left : Piece S T) (lines page : List ℕ) (here : IsAt whole left lines page (told was mid a b)) where
  -- an event went on no further
  pub stopped :
      (slice page' empty lines' slice' : List ℕ) (first : Piece S T) (more : World S T → Piece S T) (world' : World S T)
      (answer : WorldStep) (result : RunEnd)
      → slice ≡ lines → IsUnderWay (told mid now b c) (page ++ slice) page' → empty ≡ [] → left ≡ and_more first more
      → answer ≢ Went → Comes (as_seen S T) (NoDark S T) first world' empty lines' answer → slice' ≡ lines'
      → Ends (told now after c d) (page' ++ slice') answer result
      → Runs (told was after a d) (text_of (whole_log whole)) whole.went result
  stopped slice page' empty lines' slice' first more world' answer result is_slice passes none is_left stops comes
      is_slice' ends =
      runs_stop whole (told was after a d) world' (text ++ lines') answer result stops comes_whole ends_whole
    where
      text : List ℕ
      text = here.text ++ lines

      comes_whole : Comes (as_seen S T) (NoDark S T) whole world' [] (text ++ lines') answer
      comes_whole =
          leads_stop (as_seen S T) (NoDark S T) first more world' text (text ++ lines') answer whole [] stops
          (subst (λ (t : List ℕ). Comes (as_seen S T) (NoDark S T) first world' t (text ++ lines') answer)
          (ap (λ (t : List ℕ). text ++ t) none ∙ append-nil text)
          (comes_behind (as_seen S T) (NoDark S T) first world' text empty lines' answer comes))
          (subst (λ (p : Piece S T). Leads (as_seen S T) (NoDark S T) p text whole []) is_left here.leads)

      ends_whole : Ends (told was after a d) (text ++ lines') answer result
      ends_whole =
          ends_behind after d text page' lines' answer result
          (put now c whole left lines page here slice page' Done is_slice passes)
          (subst (λ (s : List ℕ). Ends (told now after c d) (page' ++ s) answer result) is_slice' ends)

-- the run went on no further before the first event
pub never_began :
    {S T : Type 0} (out : SinkTold) (first : Piece S T) (more : World S T → Piece S T)
    (empty page lines slice : List ℕ) (how : WorldStep) (result : RunEnd)
    → empty ≡ [] → page ≡ [] → slice ≡ lines → Puts first.went (text_of first.entries) empty lines how → how ≢ Went
    → IsPowered how → Ends out (page ++ slice) how result
    → Runs out (text_of (whole_log (and_more first more))) (and_more first more).went result
never_began {S} {T} out first more empty page lines slice how result no_lines no_page is_slice puts stops powered ends =
    runs_stop (and_more first more) out first.world lines how result stops
    (comes_stop (as_seen S T) (NoDark S T) first more first.world [] lines how stops (record {
      puts = subst (λ (t : List ℕ). Puts first.went (text_of first.entries) t lines how) no_lines puts;
      world = left_none (first.world ≡ first.world) (λ side. NoDark S T side first.world first.world) how stops
          powered;
    }))
    (subst (λ (t : List ℕ). Ends out t how result) (ap (λ (t : List ℕ). t ++ slice) no_page ∙ is_slice) ends)

-- a write failed before the next event
pub put_failed :
    {was mid : Option (List ℕ)} {a b : SinkHealth} (now : Option (List ℕ)) (c : SinkHealth) {S T : Type 0}
    (whole left : Piece S T) (lines page slice page' : List ℕ)
    (here : IsAt whole left lines page (told was mid a b)) → slice ≡ lines
    → Passes (told mid now b c) (page ++ slice) page' Failed
    → Runs (told was now a c) (text_of (whole_log whole)) whole.went end.WriteFailed
put_failed {was} {mid} {a} {b} now c whole left lines page slice page' here is_slice passes =
    let text = here.text ++ lines in
    let more =
    front whole text NoMemory
    (here.leads left.world text NoMemory (record { puts = put_none (text_of left.entries) text; world = tt })).puts in
    subst (λ (t : List ℕ). WroteShort (told was now a c) t) (sym more.1)
    (cut_before (here.text ++ lines) more.0 (put now c whole left lines page here slice page' Failed is_slice passes))

-- the schedule is carried out, and the line of the end was put
pub closed :
    {was mid : Option (List ℕ)} {a b : SinkHealth} (now : Option (List ℕ)) (c : SinkHealth) {S T : Type 0}
    (whole left : Piece S T) (lines page : List ℕ) (here : IsAt whole left lines page (told was mid a b))
    (world : World S T) (lines' slice : List ℕ) (moment : ℕ) (answer : WorldStep) (result : RunEnd)
    → left ≡ still world → moment ≡ world.moment → Puts Went (entry_text (Ended moment)) lines lines' answer
    → slice ≡ lines' → Ends (told mid now b c) (page ++ slice) answer result
    → Runs (told was now a c) (text_of (whole_log whole)) whole.went result × (world ≡ whole.world)
closed {was} {mid} {a} {b} now c {S} {T} whole left lines page here world lines' slice moment answer result is_left
    is_moment puts is_slice ends = (
      runs_closed whole (told was now a c) world (here.text ++ lines) (here.text ++ lines') answer result comes
          (subst (λ (m : ℕ). Puts Went (entry_text (Ended m)) (here.text ++ lines) (here.text ++ lines') answer)
          (is_moment ∙ ap (λ (w : World S T). w.moment) comes.world)
          (puts_shift Went (entry_text (Ended moment)) here.text lines lines' answer puts))
          (ends_behind now c here.text page lines' answer result here.under
          (subst (λ (s : List ℕ). Ends (told mid now b c) (page ++ s) answer result) is_slice ends)),
      comes.world,
    )
  where
    comes : Comes (as_seen S T) (NoDark S T) whole world [] (here.text ++ lines) Went
    comes =
        leads_done (as_seen S T) (NoDark S T) world (here.text ++ lines) whole []
        (subst (λ (p : Piece S T). Leads (as_seen S T) (NoDark S T) p (here.text ++ lines) whole []) is_left here.leads)

pub next_event : (items events : List Event) (i : ℕ) (item : Event) → items ≡ events → i < length items
    → item ≡ get_or items i item → drop i events ≡ item ∷ drop (i + 1) events
next_event items events i item same below is =
    subst (λ (xs : List Event). drop i xs ≡ item ∷ drop (i + 1) xs) same
    (drop-cons items i item below ∙ ap (λ (k : ℕ). get_or items i item ∷ drop k items) (sym (add-one i))
    ∙ ap (λ (e : Event). e ∷ drop (i + 1) items) (sym is))

-- no world is handed back
pub kept_back : {W V : Type 0} (show : W → V) (world : V) (out : SinkTold) (text : List ℕ) (how : WorldStep)
    (result : RunEnd)
    → how ≢ Went → Ends out text how result → HandsBack show world result None
kept_back show world out text how end.Whole stops ends = absurd (stops ends.0)
kept_back show world out text how end.Slip stops ends = tt
kept_back show world out text how end.Turns stops ends = tt
kept_back show world out text how end.NumbersSpent stops ends = tt
kept_back show world out text how end.JournalFull stops ends = tt
kept_back show world out text how end.NoMemory stops ends = tt
kept_back show world out text how end.WriteFailed stops ends = tt

pub kept : {W V : Type 0} (show : W → V) (world : V) (result : RunEnd) → result ≢ end.Whole
    → HandsBack show world result None
kept show world end.Whole other = absurd (other refl)
kept show world end.Slip other = tt
kept show world end.Turns other = tt
kept show world end.NumbersSpent other = tt
kept show world end.JournalFull other = tt
kept show world end.NoMemory other = tt
kept show world end.WriteFailed other = tt
