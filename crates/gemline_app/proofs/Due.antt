-- Which outcome is due, and when another one comes in its place.
use Rattle.std.proofs.Common.{◌≡◌, ◌⊎◌, ◌≤◌, ℕ, true, List, length, Option, Some, None, Result, Ok, Err, refl, sym, ap, subst, ◌∙◌, inl, inr, arith}
use Rattle.command_words.specs.Asked.{Asked, Drop, Equipment, Format, Host, JournalHost, JournalReplay, Make, Replay, Show, Spell, SpellHex, Spool}
use Rattle.command_words.specs.Words.{asked_of}
use Rattle.gl_base.specs.Sink.{with_bytes}
use Rattle.gl_base.specs.Told.{FilesTold, SinkTold, SourceTold}
use Rattle.gl_base.specs.declared.input.Input.TheVariants as input
use Rattle.line_show.specs.Capture.{Piece, Reads}
use Rattle.line_show.specs.Lines.{lines_of}
use Rattle.line_show.specs.Show.{HasStopCause, Shows}
use Rattle.line_show.specs.declared.capture.Ending.{Ending}
use Rattle.line_show.specs.declared.capture.Ending.TheVariants.{Whole, Broken}
use Rattle.line_show.specs.declared.printer.Stop.{Stop}
use Rattle.line_show.specs.declared.printer.Stop.TheVariants as stop
use Rattle.secs_items.specs.declared.item_fault.ItemFault.{ItemFault}
use Rattle.secs_items.proofs.SpellLaws.{spells_none}
use Rattle.secs_text.specs.Faults.{HasFault}
use Rattle.secs_text.specs.declared.text_fault.TextFault.{TextFault}
use Rattle.secs_text.proofs.FaultLaws.{no_fault_read}
use Rattle.secs_text.proofs.FaultPlaces.{one_fault}
use Rattle.spool_show.specs.Told.{DiskTold}
use Rattle.gemline_app.specs.LinkTold.{LinkTold}
use Rattle.gemline_app.specs.Gemline.{ComesFrom, HexRefuses, IsRun, RunComes, TextRefuses, WasPrinted, WasShown, WasSpelled, WasWritten}
use Rattle.gemline_app.specs.Inputs.{InputRefuses}
use Rattle.gemline_app.specs.HexInput.{HexMeans}
use Rattle.gemline_app.specs.Laws.{BytesAsk, CaptureAsks, HexAsks, Hinders, IsDue, TextAsks}
use Rattle.gemline_app.specs.Outcome.{outcome_of_show, status_of}
use Rattle.gemline_app.specs.Spelling.{text_place}
use Rattle.gemline_app.specs.Words.{capture_limit, item_limit}
use Rattle.gemline_app.specs.declared.outcome.Outcome.{Outcome}
use Rattle.gemline_app.specs.declared.outcome.Outcome.TheVariants.{Done, Usage, BadFrame, BadText, BadHex, BadItem, BadLine, Longer, FileLonger, FileFailed, ReadFailed, NoMemory, WriteFailed, TurnsSpent, NumbersSpent, Slip, DiskFailed, NotSpool, BadPlan, BadScript, LinkFailed, JournalFull}
use Rattle.gemline_app.proofs.HexLaws.{means_read, one_break}
use Rattle.gemline_app.proofs.EquipmentDue.{equipment_due}
use Rattle.gemline_app.proofs.HostDue.{host_due}
use Rattle.gemline_app.proofs.InputDue.{input_due, read_of}
use Rattle.gemline_app.proofs.JournalDue.{journal_due}
use Rattle.gemline_app.proofs.MakeDue.{make_due}
use Rattle.gemline_app.proofs.ReplayDue.{Comes, replay_due}
use Rattle.gemline_app.proofs.SpoolDue.{dropped_due, formatted_due, listed_due}

-- ---- a command of its whole input

shown_due : (source : SourceTold) (files : FilesTold) (disk : DiskTold) (link : LinkTold) (out : SinkTold)
    (capture : List ℕ) (pieces : List Piece) (ending : Ending) (outcome due : Outcome) (result : Result Ending Stop)
    → outcome ≡ outcome_of_show result → Shows out capture result → HasStopCause out result
    → Reads capture pieces ending → due ≡ outcome_of_show (Ok ending) → Comes source files disk link out outcome due
shown_due source files disk link out capture pieces ending outcome due (Ok found) is shows cause reads is_due =
    inl (is ∙ ap (λ (e : Ending). outcome_of_show (Ok e)) (shows pieces ending reads).0 ∙ sym is_due)
shown_due source files disk link out capture pieces ending outcome due (Err stop.NoMemory) is shows cause reads is_due =
    inr (subst (Hinders source files disk link out) (sym is) tt)
shown_due source files disk link out capture pieces ending outcome due (Err stop.WriteFailed) is shows cause reads
    is_due =
    inr (subst (Hinders source files disk link out) (sym is) cause)

-- a line was written, or a write failed
written_due : (source : SourceTold) (files : FilesTold) (disk : DiskTold) (link : LinkTold) (out : SinkTold)
    (line : List ℕ) (outcome : Outcome) → WasWritten line out outcome
    → Comes source files disk link out outcome Done
written_due source files disk link out line Done written = inl refl
written_due source files disk link out line Usage written = absurd written
written_due source files disk link out line (BadFrame named) written = absurd written
written_due source files disk link out line (BadText at) written = absurd written
written_due source files disk link out line (BadHex at) written = absurd written
written_due source files disk link out line (BadItem fault) written = absurd written
written_due source files disk link out line Longer written = absurd written
written_due source files disk link out line ReadFailed written = absurd written
written_due source files disk link out line NoMemory written = absurd written
written_due source files disk link out line WriteFailed written = inr written.fault.rose
written_due source files disk link out line (BadLine number) written = absurd written
written_due source files disk link out line (FileLonger which) written = absurd written
written_due source files disk link out line (FileFailed which) written = absurd written
written_due source files disk link out line TurnsSpent written = absurd written
written_due source files disk link out line NumbersSpent written = absurd written
written_due source files disk link out line DiskFailed written = absurd written
written_due source files disk link out line (NotSpool at) written = absurd written
written_due source files disk link out line Slip written = absurd written
written_due source files disk link out line (BadPlan key what) written = absurd written
written_due source files disk link out line (BadScript number) written = absurd written
written_due source files disk link out line LinkFailed written = absurd written
written_due source files disk link out line JournalFull written = absurd written

-- what a text is refused for
text_refused : (text : List ℕ) (refusal : Outcome) → TextRefuses text refusal →
    (refusal ≡ NoMemory) ⊎ ((fault : TextFault) × HasFault text fault × (refusal ≡ BadText (text_place fault)))
text_refused text Done refuses = absurd refuses
text_refused text Usage refuses = absurd refuses
text_refused text (BadFrame named) refuses = absurd refuses
text_refused text (BadText at) (fault, is, place) = inr (fault, is, ap (λ p. BadText p) place)
text_refused text (BadHex at) refuses = absurd refuses
text_refused text (BadItem fault) refuses = absurd refuses
text_refused text Longer refuses = absurd refuses
text_refused text ReadFailed refuses = absurd refuses
text_refused text NoMemory refuses = inl refl
text_refused text WriteFailed refuses = absurd refuses
text_refused text (BadLine number) refuses = absurd refuses
text_refused text (FileLonger which) refuses = absurd refuses
text_refused text (FileFailed which) refuses = absurd refuses
text_refused text TurnsSpent refuses = absurd refuses
text_refused text NumbersSpent refuses = absurd refuses
text_refused text DiskFailed refuses = absurd refuses
text_refused text (NotSpool at) refuses = absurd refuses
text_refused text Slip refuses = absurd refuses
text_refused text (BadPlan key what) refuses = absurd refuses
text_refused text (BadScript number) refuses = absurd refuses
text_refused text LinkFailed refuses = absurd refuses
text_refused text JournalFull refuses = absurd refuses

pub hex_refused : (digits : List ℕ) (refusal : Outcome) → HexRefuses digits refusal →
    (refusal ≡ NoMemory) ⊎ HexAsks digits refusal
hex_refused digits Done refuses = absurd refuses
hex_refused digits Usage refuses = absurd refuses
hex_refused digits (BadFrame named) refuses = absurd refuses
hex_refused digits (BadText at) refuses = absurd refuses
hex_refused digits (BadHex at) broken = inr (inr (at, broken, refl))
hex_refused digits (BadItem fault) (bytes, means, is) = inr (inl (bytes, means, inr (fault, is, refl)))
hex_refused digits Longer refuses = absurd refuses
hex_refused digits ReadFailed refuses = absurd refuses
hex_refused digits NoMemory refuses = inl refl
hex_refused digits WriteFailed refuses = absurd refuses
hex_refused digits (BadLine number) refuses = absurd refuses
hex_refused digits (FileLonger which) refuses = absurd refuses
hex_refused digits (FileFailed which) refuses = absurd refuses
hex_refused digits TurnsSpent refuses = absurd refuses
hex_refused digits NumbersSpent refuses = absurd refuses
hex_refused digits DiskFailed refuses = absurd refuses
hex_refused digits (NotSpool at) refuses = absurd refuses
hex_refused digits Slip refuses = absurd refuses
hex_refused digits (BadPlan key what) refuses = absurd refuses
hex_refused digits (BadScript number) refuses = absurd refuses
hex_refused digits LinkFailed refuses = absurd refuses
hex_refused digits JournalFull refuses = absurd refuses

-- a text asks for one outcome
one_text : (text : List ℕ) (a b : Outcome) → TextAsks text a → TextAsks text b → a ≡ b
one_text text a b (inl (item, reads, is)) (inl (item', reads', is')) = is ∙ sym is'
one_text text a b (inl (item, reads, is)) (inr (fault, has, is')) = absurd (no_fault_read text item fault reads has)
one_text text a b (inr (fault, has, is)) (inl (item, reads, is')) = absurd (no_fault_read text item fault reads has)
one_text text a b (inr (fault, has, is)) (inr (fault', has', is')) =
    is ∙ ap (λ (f : TextFault). BadText (text_place f)) (one_fault text fault fault' has has') ∙ sym is'

one_item : (bytes : List ℕ) (a b : Outcome) → BytesAsk bytes a → BytesAsk bytes b → a ≡ b
one_item bytes a b (inl (item, spelled, is)) (inl (item', spelled', is')) = is ∙ sym is'
one_item bytes a b (inl (item, spelled, is)) (inr (fault, some, is')) = let none = spells_none item bytes spelled in cc
one_item bytes a b (inr (fault, some, is)) (inl (item, spelled, is')) = let none = spells_none item bytes spelled in cc
one_item bytes a b (inr (fault, some, is)) (inr (fault', some', is')) =
    let same : fault ≡ fault' = cc in
    is ∙ ap (λ (f : ItemFault). BadItem f) same ∙ sym is'

pub one_bytes : (digits bytes bytes' : List ℕ) → HexMeans bytes digits → HexMeans bytes' digits → bytes ≡ bytes'
one_bytes digits bytes bytes' means means' =
    let both : Ok bytes ≡ Ok bytes' = sym (means_read digits bytes means) ∙ means_read digits bytes' means' in
    cc

one_hex : (digits : List ℕ) (a b : Outcome) → HexAsks digits a → HexAsks digits b → a ≡ b
one_hex digits a b (inl (bytes, means, asks)) (inl (bytes', means', asks')) =
    one_item bytes a b asks
    (subst (λ (all : List ℕ). BytesAsk all b) (sym (one_bytes digits bytes bytes' means means')) asks')
one_hex digits a b (inl (bytes, means, asks)) (inr (at, broken, is')) = absurd (broken.unread bytes means)
one_hex digits a b (inr (at, broken, is)) (inl (bytes, means, asks)) = absurd (broken.unread bytes means)
one_hex digits a b (inr (at, broken, is)) (inr (at', broken', is')) =
    is ∙ ap (λ p. BadHex p) (one_break digits at at' broken broken') ∙ sym is'

-- an outcome that is a refusal for want of memory hinders, another one is what is asked for
refused_due : (source : SourceTold) (files : FilesTold) (disk : DiskTold) (link : LinkTold) (out : SinkTold)
    (outcome refusal due : Outcome) (A : Outcome → Type 0) → outcome ≡ refusal
    → ((a b : Outcome) → A a → A b → a ≡ b) → (refusal ≡ NoMemory) ⊎ A refusal → A due
    → Comes source files disk link out outcome due
refused_due source files disk link out outcome refusal due A is one (inl memory) asks =
    inr (subst (Hinders source files disk link out) (sym (is ∙ memory)) tt)
refused_due source files disk link out outcome refusal due A is one (inr why) asks = inl (is ∙ one refusal due why asks)

pub text_why : (text : List ℕ) (refusal : Outcome) → TextRefuses text refusal
    → (refusal ≡ NoMemory) ⊎ TextAsks text refusal
text_why text refusal refuses =
    elim (text_refused text refusal refuses) [ inl memory ↦ inl memory | inr why ↦ inr (inr why) ]

line_due : (source : SourceTold) (files : FilesTold) (disk : DiskTold) (link : LinkTold) (out : SinkTold)
    (line : List ℕ) (outcome due : Outcome) → WasWritten line out outcome
    → due ≡ Done → Comes source files disk link out outcome due
line_due source files disk link out line outcome due written is =
    subst (Comes source files disk link out outcome) (sym is)
    (written_due source files disk link out line outcome written)

spelled_due : (text : List ℕ) (source : SourceTold) (files : FilesTold) (disk : DiskTold) (link : LinkTold)
    (out : SinkTold) (outcome due : Outcome)
    → WasSpelled text out outcome → TextAsks text due → Comes source files disk link out outcome due
spelled_due text source files disk link out outcome due (Ok line, (item, reads, is), written) asks =
    line_due source files disk link out line outcome due written (one_text text due Done asks (inl (item, reads, refl)))
spelled_due text source files disk link out outcome due (Err refusal, refuses, (is, untouched)) asks =
    refused_due source files disk link out outcome refusal due (TextAsks text) is (one_text text)
    (text_why text refusal refuses) asks

printed_due : (digits : List ℕ) (source : SourceTold) (files : FilesTold) (disk : DiskTold) (link : LinkTold)
    (out : SinkTold) (outcome due : Outcome)
    → WasPrinted digits out outcome → HexAsks digits due → Comes source files disk link out outcome due
printed_due digits source files disk link out outcome due (Ok line, (item, (bytes, means, spelled), is), written) asks =
    line_due source files disk link out line outcome due written
    (one_hex digits due Done asks (inl (bytes, means, inl (item, spelled, refl))))
printed_due digits source files disk link out outcome due (Err refusal, refuses, (is, untouched)) asks =
    refused_due source files disk link out outcome refusal due (HexAsks digits) is (one_hex digits)
    (hex_refused digits refusal refuses) asks

captured_due : (capture : List ℕ) (source : SourceTold) (files : FilesTold) (disk : DiskTold) (link : LinkTold)
    (out : SinkTold) (outcome due : Outcome)
    → WasShown capture out outcome → CaptureAsks capture due → Comes source files disk link out outcome due
captured_due capture source files disk link out outcome due was (pieces, ending, reads, is) =
    shown_due source files disk link out capture pieces ending outcome due was.result was.outcome_is was.shown
    was.cause reads is

-- ---- a run

comes_due : (asked : Option Asked) (source : SourceTold) (files : FilesTold) (disk : DiskTold) (link : LinkTold)
    (out : SinkTold) (outcome due : Outcome)
    → ComesFrom asked source files disk link out outcome → IsDue asked source files disk link due
    → Comes source files disk link out outcome due
comes_due None source files disk link out outcome due refused is = inl (refused.refused ∙ sym is)
comes_due (Some Show) source files disk link out outcome due (files_unread, unused, uncalled, comes) is_due =
    input_due capture_limit WasShown CaptureAsks source files disk link out outcome due
    (λ capture was asks. captured_due capture source files disk link out outcome due was asks) comes is_due
comes_due (Some Spell) source files disk link out outcome due (files_unread, unused, uncalled, comes) is_due =
    input_due item_limit WasSpelled TextAsks source files disk link out outcome due
    (λ text was asks. spelled_due text source files disk link out outcome due was asks) comes is_due
comes_due (Some SpellHex) source files disk link out outcome due (files_unread, unused, uncalled, comes) is_due =
    input_due item_limit WasPrinted HexAsks source files disk link out outcome due
    (λ digits was asks. printed_due digits source files disk link out outcome due was asks) comes is_due
comes_due (Some (Replay plan schedule)) source files disk link out outcome due (unread, unused, uncalled, comes)
    (bytes, told, is_due) =
    replay_due source files disk link out None plan schedule bytes outcome due told comes is_due
comes_due (Some (JournalReplay plan schedule slots)) source files disk link out outcome due
    (unread, unused, uncalled, comes) (bytes, told, is_due) =
    replay_due source files disk link out (Some slots) plan schedule bytes outcome due told comes is_due
comes_due (Some (Equipment plan address spool polls)) source files disk link out outcome due (comes, connects, tells)
    is_due =
    equipment_due source files disk link out plan spool polls outcome due comes is_due
comes_due (Some (Host plan address polls)) source files disk link out outcome due (unused, comes, connects) is_due =
    host_due source files disk link out plan polls outcome due comes is_due
comes_due (Some (JournalHost plan address journal polls)) source files disk link out outcome due
    (comes, connects, tells) is_due =
    journal_due source files disk link out plan journal polls outcome due comes is_due
comes_due (Some (Format spool slots)) source files disk link out outcome due (unread, files_unread, uncalled, was)
    is_due =
    formatted_due source files disk link out spool slots outcome due was is_due
comes_due (Some (Spool spool)) source files disk link out outcome due (unread, files_unread, uncalled, was) is_due =
    listed_due source files disk link out spool outcome due was is_due
comes_due (Some (Drop spool count)) source files disk link out outcome due (unread, files_unread, uncalled, was)
    is_due =
    dropped_due source files disk link out spool count outcome due was is_due
comes_due (Some (Make rounds)) source files disk link out outcome due (unread, files_unread, unused, uncalled, comes)
    is_due =
    make_due source files disk link out rounds outcome due comes is_due

-- memory that runs out over the words hinders every outcome
run_due : (asked : Option Asked) (source : SourceTold) (files : FilesTold) (disk : DiskTold) (link : LinkTold)
    (out : SinkTold) (outcome due : Outcome)
    → RunComes asked source files disk link out outcome → IsDue asked source files disk link due
    → Comes source files disk link out outcome due
run_due asked source files disk link out outcome due (inl refused) is_due =
    inr (subst (Hinders source files disk link out) (sym refused.refused) tt)
run_due asked source files disk link out outcome due (inr comes) is_due =
    comes_due asked source files disk link out outcome due comes is_due

pub due_outcome : (words : List (List ℕ)) (source : SourceTold) (files : FilesTold) (disk : DiskTold) (link : LinkTold)
    (out err : SinkTold) (status : ℕ) (due : Outcome)
    → (run : IsRun words source files disk link out err status) → IsDue (asked_of words) source files disk link due
    → (run.outcome ≡ due) ⊎ Hinders source files disk link out run.outcome
due_outcome words source files disk link out err status due run is_due =
    run_due (asked_of words) source files disk link out run.outcome due run.comes is_due

-- ---- over objects that do not fail

module _ (source : SourceTold) (files : FilesTold) (disk : DiskTold) (link : LinkTold) (out : SinkTold)
    (capture : List ℕ) (pieces : List Piece)
    (told : source.before ≡ Some capture) (within : length capture ≤ 16777216)
    (reliable : source.health.reliable ≡ true)
    (reads : Reads capture pieces Whole) (room : length (lines_of pieces) ≤ out.health.room) where
  abbrev Ends : Outcome → Type 0
  Ends outcome =
      (status_of outcome ≡ 71) ⊎ ((status_of outcome ≡ 0) × (out.after ≡ with_bytes out.before (lines_of pieces)))

  by_result : (result : Result Ending Stop) (outcome : Outcome) → outcome ≡ outcome_of_show result
      → Shows out capture result → Ends outcome
  by_result (Ok Whole) outcome is shows = rw is (inr (refl, (shows pieces Whole reads).1.received))
  by_result (Ok (Broken named)) outcome is shows = let no = (shows pieces Whole reads).0 in cc
  by_result (Err stop.NoMemory) outcome is shows = rw is (inl refl)
  by_result (Err stop.WriteFailed) outcome is shows =
      let crowded = (shows pieces Whole reads).fault.crowded in absurd (omega arith)

  unread_ends : (outcome : Outcome) → InputRefuses 16777216 source outcome → Ends outcome
  unread_ends Longer was = let past = (read_of 16777216 source capture input.Longer told was).0 in absurd (omega arith)
  unread_ends ReadFailed was = let no = was.cause.unreliable in cc
  unread_ends NoMemory was = inl refl
  unread_ends Done was = absurd was
  unread_ends Usage was = absurd was
  unread_ends (BadFrame named) was = absurd was
  unread_ends (BadText at) was = absurd was
  unread_ends (BadHex at) was = absurd was
  unread_ends (BadItem fault) was = absurd was
  unread_ends WriteFailed was = absurd was
  unread_ends (BadLine number) was = absurd was
  unread_ends (FileLonger which) was = absurd was
  unread_ends (FileFailed which) was = absurd was
  unread_ends TurnsSpent was = absurd was
  unread_ends NumbersSpent was = absurd was
  unread_ends DiskFailed was = absurd was
  unread_ends (NotSpool at) was = absurd was
  unread_ends Slip was = absurd was
  unread_ends (BadPlan key what) was = absurd was
  unread_ends (BadScript number) was = absurd was
  unread_ends LinkFailed was = absurd was
  unread_ends JournalFull was = absurd was

  show_ends : (outcome : Outcome) → RunComes (Some Show) source files disk link out outcome → Ends outcome
  show_ends outcome (inl refused) = inl (ap status_of refused.refused)
  show_ends outcome (inr (files_unread, unused, uncalled, inl (refuses, untouched))) = unread_ends outcome refuses
  show_ends outcome (inr (files_unread, unused, uncalled, inr (whole, read, done))) =
      let same = (read_of 16777216 source capture (input.Whole whole) told read).1 in
      by_result done.result outcome done.outcome_is
      (subst (λ (all : List ℕ). Shows out all done.result) same done.shown)

pub whole_capture : (words : List (List ℕ)) (source : SourceTold) (files : FilesTold) (disk : DiskTold)
    (link : LinkTold) (out err : SinkTold) (status : ℕ)
    → IsRun words source files disk link out err status → asked_of words ≡ Some Show
    → (capture : List ℕ) (pieces : List Piece) → source.before ≡ Some capture → length capture ≤ 16777216
    → source.health.reliable ≡ true → Reads capture pieces Whole → length (lines_of pieces) ≤ out.health.room
    → (status ≡ 71) ⊎ ((status ≡ 0) × (out.after ≡ with_bytes out.before (lines_of pieces)))
whole_capture words source files disk link out err status run shows capture pieces told within reliable reads room =
    rw run.status_is (show_ends source files disk link out capture pieces told within reliable reads room run.outcome
    (subst (λ (asked : Option Asked). RunComes asked source files disk link out run.outcome) shows run.comes))
