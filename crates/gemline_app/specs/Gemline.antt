-- What a run of the program is, by its words and what the outside tells (this profile).
use Rattle.std.specs.Prelude.{◌≡◌, ◌⊎◌, ℕ, List, Option, Some, None, Result, Ok, Err}
use Rattle.command_words.specs.Asked.{Asked, Drop, Equipment, Format, Host, JournalHost, JournalReplay, Make, Replay, Show, Spell, SpellHex, Spool}
use Rattle.command_words.specs.Words.{asked_of}
use Rattle.disk_base.specs.Disk.{TellsAsBefore}
use Rattle.gl_base.specs.Sending.{Sends, WroteShort, WroteText}
use Rattle.gl_base.specs.Told.{FilesTold, SinkTold, SourceTold}
use Rattle.gl_base.specs.declared.input.Input.TheVariants as input
use Rattle.gl_base.specs.declared.copying.SinkAnswer.{SinkAnswer}
use Rattle.gl_base.specs.declared.side.Side.TheVariants as side
use Rattle.line_show.specs.Show.{HasStopCause, Shows}
use Rattle.line_show.specs.declared.capture.Ending.{Ending}
use Rattle.line_show.specs.declared.printer.Stop.{Stop}
use Rattle.secs_items.specs.Reading.{first_fault}
use Rattle.secs_items.specs.declared.item.Item.{Item}
use Rattle.secs_items.specs.Spelling.{Spells}
use Rattle.secs_text.specs.Faults.{HasFault}
use Rattle.secs_text.specs.Grammar.{ReadsAs}
use Rattle.secs_text.specs.declared.text_fault.TextFault.{TextFault}
use Rattle.spool_drop.specs.Dropping.{DropsMessages}
use Rattle.spool_show.specs.Formatting.{FormatsSpool}
use Rattle.spool_show.specs.Showing.{ShowsSpool}
use Rattle.spool_show.specs.Told.{DiskTold}
use Rattle.gemline_app.specs.HexInput.{HexMeans, IsHexBreak}
use Rattle.gemline_app.specs.Equipment.{EquipmentComes}
use Rattle.gemline_app.specs.Host.{HostComes}
use Rattle.gemline_app.specs.Inputs.{InputRefuses, IsUnread, WasRead}
use Rattle.gemline_app.specs.Journal.{JournalComes}
use Rattle.gemline_app.specs.LinkTold.{ConnectsOnce, IsUncalled, LinkTold}
use Rattle.gemline_app.specs.Make.{MakeComes}
use Rattle.gemline_app.specs.Outcome.{line_of, name_of, outcome_of_show, status_of}
use Rattle.gemline_app.specs.Spelling.{HexSpells, spelled_line, text_line, text_place}
use Rattle.gemline_app.specs.Replay.{ReplayComes}
use Rattle.gemline_app.specs.Spool.{EndedAs, IsUnused}
use Rattle.gemline_app.specs.Words.{capture_limit, item_limit}
use Rattle.gemline_app.specs.Written.{AreUnread, IsUntouched}
use Rattle.gemline_app.specs.declared.outcome.Outcome.{Outcome}
use Rattle.gemline_app.specs.declared.outcome.Outcome.TheVariants.{Done, Usage, BadText, BadHex, BadItem, NoMemory, WriteFailed}

-- the capture was shown, and showing it came to this
pub record WasShown (capture : List ℕ) (out : SinkTold) (outcome : Outcome) : Type 0 where
  pub result : Result Ending Stop
  pub outcome_is : outcome ≡ outcome_of_show result
  pub shown : Shows out capture result
  pub cause : HasStopCause out result

-- why a text is refused: it has a fault, or memory ran out
abbrev pub TextRefuses : List ℕ → Outcome → Type 0
TextRefuses text (BadText at) = (fault : TextFault) × HasFault text fault × (at ≡ text_place fault)
TextRefuses text NoMemory = Unit {0}
TextRefuses text _ = ⊥

-- why bytes are refused that are to spell an item
abbrev pub ItemRefuses : List ℕ → Outcome → Type 0
ItemRefuses bytes (BadItem fault) = first_fault bytes ≡ Some fault
ItemRefuses bytes NoMemory = Unit {0}
ItemRefuses bytes _ = ⊥

-- why hex is refused that is to be the bytes of an item
abbrev pub HexRefuses : List ℕ → Outcome → Type 0
HexRefuses digits (BadHex at) = IsHexBreak digits at
HexRefuses digits (BadItem fault) = (bytes : List ℕ) × HexMeans bytes digits × (first_fault bytes ≡ Some fault)
HexRefuses digits NoMemory = Unit {0}
HexRefuses digits _ = ⊥

-- what `spell` answers of a text: the line to write, whose bytes `view` tells, or a refusal
abbrev pub SpellAnswers : {T : Type 0} → (T → List ℕ) → List ℕ → Result T Outcome → Type 0
SpellAnswers view text (Ok line) = (item : Item) × ReadsAs text item × (view line ≡ spelled_line item)
SpellAnswers view text (Err refusal) = TextRefuses text refusal

-- what `spell --hex` answers of bytes
abbrev pub ItemAnswers : List ℕ → Result (List ℕ) Outcome → Type 0
ItemAnswers bytes (Ok line) = (item : Item) × Spells item bytes × (line ≡ text_line item)
ItemAnswers bytes (Err refusal) = ItemRefuses bytes refusal

-- and of their hex
abbrev pub HexAnswers : List ℕ → Result (List ℕ) Outcome → Type 0
HexAnswers digits (Ok line) = (item : Item) × HexSpells item digits × (line ≡ text_line item)
HexAnswers digits (Err refusal) = HexRefuses digits refusal

-- what writing a line came to
abbrev pub WasWritten : List ℕ → SinkTold → Outcome → Type 0
WasWritten line out Done = WroteText out line
WasWritten line out WriteFailed = WroteShort out line
WasWritten line out _ = ⊥

-- a line was written, or a refusal is the outcome and nothing was written
abbrev pub WasAnswered : Result (List ℕ) Outcome → SinkTold → Outcome → Type 0
WasAnswered (Ok line) out outcome = WasWritten line out outcome
WasAnswered (Err refusal) out outcome = (outcome ≡ refusal) × IsUntouched out

abbrev pub WasSpelled : List ℕ → SinkTold → Outcome → Type 0
WasSpelled text out outcome =
    (answer : Result (List ℕ) Outcome) × SpellAnswers (λ line. line) text answer × WasAnswered answer out outcome

abbrev pub WasPrinted : List ℕ → SinkTold → Outcome → Type 0
WasPrinted digits out outcome =
    (answer : Result (List ℕ) Outcome) × HexAnswers digits answer × WasAnswered answer out outcome

-- what a command over the input came to: this, of the whole of it, or it was not read whole and nothing was written
abbrev pub ComesOnInput : ℕ → (List ℕ → SinkTold → Outcome → Type 0) → SourceTold → SinkTold → Outcome → Type 0
ComesOnInput limit Was source out outcome =
    (InputRefuses limit source outcome × IsUntouched out)
    ⊎ ((bytes : List ℕ) × WasRead limit source (input.Whole bytes) × Was bytes out outcome)

-- the words are refused: nothing is read and nothing written
pub record IsRefused (refusal : Outcome) (source : SourceTold) (files : FilesTold) (disk : DiskTold)
    (link : LinkTold) (out : SinkTold)
    (outcome : Outcome) : Type 0 where
  pub refused : outcome ≡ refusal
  pub input : IsUnread source
  pub unread : AreUnread files
  pub unused : IsUnused disk
  pub uncalled : IsUncalled link
  pub written : IsUntouched out

-- what each outcome comes from: the command of the words, if they are one's, and what it reads
abbrev pub ComesFrom : Option Asked → SourceTold → FilesTold → DiskTold → LinkTold → SinkTold → Outcome → Type 0
ComesFrom None source files disk link out outcome = IsRefused Usage source files disk link out outcome
ComesFrom (Some Show) source files disk link out outcome =
    AreUnread files × IsUnused disk × IsUncalled link × ComesOnInput capture_limit WasShown source out outcome
ComesFrom (Some Spell) source files disk link out outcome =
    AreUnread files × IsUnused disk × IsUncalled link × ComesOnInput item_limit WasSpelled source out outcome
ComesFrom (Some SpellHex) source files disk link out outcome =
    AreUnread files × IsUnused disk × IsUncalled link × ComesOnInput item_limit WasPrinted source out outcome
ComesFrom (Some (Replay plan schedule)) source files disk link out outcome =
    IsUnread source × IsUnused disk × IsUncalled link × ReplayComes None plan schedule files out outcome
ComesFrom (Some (JournalReplay plan schedule slots)) source files disk link out outcome =
    IsUnread source × IsUnused disk × IsUncalled link × ReplayComes (Some slots) plan schedule files out outcome
ComesFrom (Some (Equipment plan address spool polls)) source files disk link out outcome =
    EquipmentComes plan spool polls source files disk link out outcome × ConnectsOnce side.Equipment address link
    × TellsAsBefore disk.before disk.after
ComesFrom (Some (Host plan address polls)) source files disk link out outcome =
    IsUnused disk × HostComes plan polls source files link out outcome × ConnectsOnce side.Host address link
ComesFrom (Some (JournalHost plan address journal polls)) source files disk link out outcome =
    JournalComes plan journal polls source files disk link out outcome × ConnectsOnce side.Host address link
    × TellsAsBefore disk.before disk.after
ComesFrom (Some (Format spool slots)) source files disk link out outcome =
    IsUnread source × AreUnread files × IsUncalled link × EndedAs (FormatsSpool spool slots disk out) outcome
ComesFrom (Some (Spool spool)) source files disk link out outcome =
    IsUnread source × AreUnread files × IsUncalled link × EndedAs (ShowsSpool spool disk out) outcome
ComesFrom (Some (Drop spool count)) source files disk link out outcome =
    IsUnread source × AreUnread files × IsUncalled link × EndedAs (DropsMessages spool count disk out) outcome
ComesFrom (Some (Make rounds)) source files disk link out outcome =
    IsUnread source × AreUnread files × IsUnused disk × IsUncalled link × MakeComes rounds out outcome

-- what a run comes from: the words, unless memory runs out over them
abbrev pub RunComes : Option Asked → SourceTold → FilesTold → DiskTold → LinkTold → SinkTold → Outcome → Type 0
RunComes asked source files disk link out outcome =
    IsRefused NoMemory source files disk link out outcome ⊎ ComesFrom asked source files disk link out outcome

-- the bytes went to a sink, all of them or, where a write failed, a part
abbrev pub WereSent : List ℕ → SinkTold → Type 0
WereSent bytes err = (answer : SinkAnswer) × Sends err bytes answer

-- a run: its outcome, which comes only from its cause and gives the status and the line on the sink of errors
pub record IsRun (words : List (List ℕ)) (source : SourceTold) (files : FilesTold) (disk : DiskTold) (link : LinkTold)
    (out err : SinkTold) (status : ℕ) : Type 0 where
  pub outcome : Outcome
  pub status_is : status ≡ status_of outcome
  pub comes : RunComes (asked_of words) source files disk link out outcome
  pub line : WereSent (line_of (name_of (asked_of words) outcome) outcome) err
