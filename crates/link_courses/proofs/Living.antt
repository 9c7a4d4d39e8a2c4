-- That each run of the tool that lives keeps the laws of the equipment, over a disk that tells its bytes.
use Rattle.std.proofs.Common.{◌≡◌, ◌⊎◌, ◌<◌, refl, sym, subst, ◌==◌, ℕ, Bool, true, false, List, [], ◌∷◌, ◌++◌, inl, inr, Option, Some, None, All, if◌then◌else◌}
use Rattle.std.specs.Option.{option_map}
use Rattle.std.proofs.lemmas.List.Elements.{All-append, All-cons, All-head, All-nil, All-tail}
use Rattle.disk_base.specs.Story.{Story}
use Rattle.gl_base.specs.Faults.{one_more}
use Rattle.gl_base.specs.Told.{FilesTold, SinkTold}
use Rattle.gl_base.specs.declared.side.Side.TheVariants as side
use Rattle.line_schedule.specs.Reading.{is_passed_over}
use Rattle.trace_log.specs.Commands.{ToolCommandFits}
use Rattle.equipment_tables.specs.declared.plan.Plans.{Plans}
use Rattle.spool_show.specs.Told.{DiskTold}
use Rattle.tool_law.specs.Laws.{EquipmentKeepsItsLaw}
use Rattle.tool_reports.specs.Laws.{ReportsAreOfTheirEvents}
use Rattle.tool_spool.specs.LeavesInStep.{MessagesLeaveInStep}
use Rattle.tool_spool.specs.MadeRoom.{OverwritesForPuts}
use Rattle.tool_spool.specs.SetupKept.{SetupIsKept}
use Rattle.tool_spool.specs.SpoolKept.{SpoolIsKeptFrom}
use Rattle.end_run.specs.Commands.{IsTaken, as_it_comes, behind_first, first_of}
use Rattle.end_run.specs.Commands.Telling.{Says, Stops}
use Rattle.end_run.specs.Told.{AreNone, GoesBy, MayCome}
use Rattle.gemline_app.specs.Equipment.{equipment_due, linked_machine}
use Rattle.gemline_app.specs.Filed.{bytes_told}
use Rattle.gemline_app.specs.Files.{PlansAre}
use Rattle.gemline_app.specs.LinkTold.{LinkTold}
use Rattle.gemline_app.specs.Linked.{IsIdle}
use Rattle.gemline_app.specs.declared.outcome.Outcome.{Outcome}
use Rattle.live_commands.specs.Coming.{Standing, asked_at_end, asked_with, asked_with_byte, at_start, behind, behind_byte}
use Rattle.live_commands.specs.Commands.{AsksFits, Numbered, asked_by}
use Rattle.live_commands.specs.declared.asks.Asks.{Asks}
use Rattle.live_commands.specs.declared.asks.Asks.TheVariants as asks
use Rattle.live_commands.proofs.Fitting.{asks_fits}
use Rattle.live_teller.specs.Came.{Came}
use Rattle.live_teller.specs.Tellings.{ToolTelling, end_told, host_line, host_told, stands_behind, telling_of, tellings_of, told_by, told_with}
use Rattle.tool_app.specs.Run.{most_polls}
use Rattle.tool_app.specs.Tool.{BesideTold, CameLive, FileComes, ToolComes}
use Rattle.gemline_app.proofs.StartBreaks.{spool-sound}
use Rattle.link_courses.specs.Lawful.{GiveBytes}
use Rattle.link_courses.specs.Noting.{AnyReply}
use Rattle.link_courses.specs.Tool.{AreTaken, ToolRanLawfully, ToolsKeepTheirLaws}
use Rattle.link_courses.proofs.Given.{BringsTaken, run-given}
use Rattle.link_courses.proofs.Noting.{any-reply}
use Rattle.link_courses.proofs.Tools.{sound-keeps}

-- ---- what is told of an input is what a tool takes

abbrev Taken : ToolTelling → Type 0
Taken = IsTaken ToolCommandFits

abbrev Fits : Numbered → Type 0
Fits one = AsksFits one.1

telling-taken : (number : ℕ) (one : Asks) → AsksFits one → Taken (telling_of (number, one))
telling-taken number (asks.Command command) fits = fits
telling-taken number asks.Stop fits = tt
telling-taken number (asks.Nothing at) fits = tt

tellings-taken : (all : List Numbered) → All Fits all → All Taken (tellings_of all)
tellings-taken [] fits = All-nil Taken
tellings-taken (one ∷ all) fits =
    All-cons Taken (telling_of one) (tellings_of all) (telling-taken one.0 one.1 (All-head Fits one all fits))
    (tellings-taken all (All-tail Fits one all fits))

line-fits : (s : Standing) → All Fits (asked_at_end s)
line-fits s = go (is_passed_over s.line)
  where
    go : (passed : Bool) → All Fits (if passed then [] else (one_more s.number, asked_by s.line) ∷ [])
    go true = All-nil Fits
    go false =
        All-cons Fits (one_more s.number, asked_by s.line) [] (asks_fits (asked_by s.line) s.line refl) (All-nil Fits)

byte-fits : (s : Standing) (byte : ℕ) → All Fits (asked_with_byte s byte)
byte-fits s byte = go (byte == 10)
  where
    go : (ends : Bool) → All Fits (if ends then asked_at_end s else [])
    go true = line-fits s
    go false = All-nil Fits

bytes-fit : (s : Standing) (bytes : List ℕ) → All Fits (asked_with s bytes)
bytes-fit s [] = All-nil Fits
bytes-fit s (byte ∷ bytes) =
    All-append Fits (asked_with_byte s byte) (asked_with (behind_byte s byte) bytes) (byte-fits s byte)
    (bytes-fit (behind_byte s byte) bytes)

host-taken : (host : Option (Option (List ℕ))) → All Taken (host_told host)
host-taken None = All-nil Taken
host-taken (Some host) = All-cons Taken (Says (host_line host)) [] tt (All-nil Taken)

end-taken : (ended : Bool) (s : Standing) → All Taken (end_told ended s)
end-taken false s = All-nil Taken
end-taken true s =
    All-append Taken (tellings_of (asked_at_end s)) (Stops ∷ []) (tellings-taken (asked_at_end s) (line-fits s))
    (All-cons Taken Stops [] tt (All-nil Taken))

answer-taken : (s : Standing) (came : Came) → All Taken (told_with s came)
answer-taken s came =
    let asked = tellings_of (asked_with s came.bytes) in
    let ends = end_told came.ended (behind s came.bytes) in
    All-append Taken (host_told came.host) (asked ++ ends) (host-taken came.host)
    (All-append Taken asked ends (tellings-taken (asked_with s came.bytes) (bytes-fit s came.bytes))
    (end-taken came.ended (behind s came.bytes)))

none-taken : (coming : List (List ToolTelling)) → AreNone coming → AreTaken coming
none-taken [] none = tt
none-taken (here ∷ coming) none =
    (subst (All Taken) (sym none.0) (All-nil Taken), none-taken coming none.1)

all-taken : (s : Standing) (all : List Came) (coming : List (List ToolTelling)) → GoesBy (told_by s all) coming
    → AreTaken coming
all-taken s [] coming goes = none-taken coming goes
all-taken s (came ∷ all) [] goes = absurd goes
all-taken s (came ∷ all) (here ∷ coming) goes =
    (subst (All Taken) (sym goes.0) (answer-taken s came), all-taken (stands_behind s came) all coming goes.1)

may-taken : (told : Option (List Came)) (coming : List (List ToolTelling))
    → MayCome (option_map (told_by at_start) told) coming → (came : List Came) → told ≡ Some came → AreTaken coming
may-taken told coming may came is =
    all-taken at_start came coming
    (subst (λ (t : Option (List Came)). MayCome (option_map (told_by at_start) t) coming) is may)

-- ---- as it comes

first-taken : (coming : List (List ToolTelling)) → AreTaken coming → All Taken (first_of coming)
first-taken [] taken = All-nil Taken
first-taken (here ∷ coming) taken = taken.0

later-taken : (coming : List (List ToolTelling)) → AreTaken coming → AreTaken (behind_first coming)
later-taken [] taken = tt
later-taken (here ∷ coming) taken = taken.1

brings-taken : BringsTaken as_it_comes ToolCommandFits AreTaken
brings-taken = record {
  come = λ now coming taken. first-taken coming taken;
  later = λ now coming taken. later-taken coming taken;
}

-- ---- a run keeps the laws

module _ (law : EquipmentKeepsItsLaw) (reports : ReportsAreOfTheirEvents) (spool : SpoolIsKeptFrom)
    (leaves : MessagesLeaveInStep) (room : OverwritesForPuts) (set_up : SetupIsKept) where
  module _ (beside : BesideTold) (files : FilesTold) (disk : DiskTold) (link : LinkTold) (out : SinkTold) (s : Story)
      (told : disk.before ≡ Some s) (bytes : All (λ byte. byte < 256) s.now.bytes) (plan : List ℕ)
      (outcome : Outcome) where
    abbrev KeptOr : Type 0
    KeptOr = IsIdle link out ⊎ ToolRanLawfully plan s.now.bytes beside files link out outcome

    live-kept : (plans : Plans) → PlansAre plan files plans
        → CameLive plans.equipment beside (bytes_told disk) link out outcome → KeptOr
    live-kept plans are came =
        let over = came.was.ran s told in
        let ran = over.ran in
        inr (record {
          plans = plans;
          plans_are = are;
          ended = came.ended;
          outcome_is = came.outcome_is;
          coming = ran.coming;
          may = ran.may;
          taken = may-taken beside.coming ran.coming ran.may;
          ran =
              sound-keeps law reports spool leaves room set_up plans.equipment are.is.fits.equipment s.now.bytes
              (spool-sound s.now.bytes (came.was.sound s told)) bytes as_it_comes ran.coming most_polls AnyReply tt
              (λ now coming. any-reply (first_of coming)) (λ answers. GiveBytes answers × AreTaken ran.coming)
              (λ start answers given.
              run-given linked_machine equipment_due as_it_comes side.Equipment ToolCommandFits AreTaken brings-taken
              start ran.coming most_polls answers given.1 given.0)
              link out came.ended over.start over.started ran.left ran.room ran.stop ran.runs;
        })

    file-kept : (plans : Plans) → PlansAre plan files plans → (name : List ℕ)
        → FileComes plans.equipment name beside disk link out outcome → KeptOr
    file-kept plans are name (inl none) = inl none.idle
    file-kept plans are name (inr (is, inl (refuses, idle))) = inl idle
    file-kept plans are name (inr (is, inr came)) = live-kept plans are came

    comes-kept : (name : List ℕ) → ToolComes plan name beside files disk link out outcome → KeptOr
    comes-kept name (inl (refuses, idle)) = inl idle.1
    comes-kept name (inr (plans, are, comes)) = file-kept plans are name comes

  pub live-keep : ToolsKeepTheirLaws
  live-keep plan name beside files disk link out outcome comes bytes s told =
      comes-kept beside files disk link out s told (bytes s told) plan outcome name comes
