-- That each run of the host over a link keeps the law of an end.
use Rattle.std.proofs.Common.{◌≡◌, ◌⊎◌, ◌++◌, refl, subst, ℕ, List, inl, inr, Option, Some}
use Rattle.command_words.specs.Asked.{Asked, Host}
use Rattle.gl_base.specs.Told.{FilesTold, SinkTold, SourceTold}
use Rattle.gl_base.specs.declared.input.Input.TheVariants as input
use Rattle.gl_base.specs.declared.link.LinkIn.{LinkIn}
use Rattle.gl_base.specs.declared.side.Side.TheVariants as side
use Rattle.line_end.specs.Plan.{HostPlanFits}
use Rattle.line_end.specs.declared.plan.HostPlan.{HostPlan}
use Rattle.line_schedule.specs.Lines.{lines_of}
use Rattle.line_schedule.specs.Script.{IsScript, IsToldLine, LineFits, moment_of_line}
use Rattle.line_schedule.proofs.Ranges.{line_fits}
use Rattle.line_schedule.proofs.Telling.{all_fit}
use Rattle.message_end.specs.Course.{course_of, notes_of}
use Rattle.message_end.specs.Parts.{Did, Node}
use Rattle.trace_log.specs.Commands.{HostCommandFits}
use Rattle.trace_log.specs.Log.{Happening}
use Rattle.trace_log.specs.declared.commands.HostCommand.{HostCommand}
use Rattle.equipment_tables.specs.declared.plan.Plans.{Plans}
use Rattle.spool_show.specs.Told.{DiskTold}
use Rattle.host_node.specs.Host.{HasPlan, HostOwn, Kind, end_plan, host_machine}
use Rattle.host_node.specs.Lawful.{host_lawful}
use Rattle.end_pair.specs.Noted.{noted_by}
use Rattle.end_run.specs.Pieces.{Piece}
use Rattle.end_run.specs.Script.{AreTold, ScriptLine, by_script}
use Rattle.end_run.specs.Sides.{told_host}
use Rattle.end_run.proofs.Sides.{are_told}
use Rattle.gemline_app.specs.Files.{PlansAre}
use Rattle.gemline_app.specs.Gemline.{RunComes}
use Rattle.gemline_app.specs.Host.{HostComes, WasRun, host_due, host_run, host_start}
use Rattle.gemline_app.specs.Inputs.{WasRead}
use Rattle.gemline_app.specs.LinkTold.{LinkTold}
use Rattle.gemline_app.specs.Linked.{IsIdle, after_run, before_run}
use Rattle.gemline_app.specs.Words.{script_limit}
use Rattle.gemline_app.specs.declared.outcome.Outcome.{Outcome}
use Rattle.link_courses.specs.Courses.{met_by, with_closing}
use Rattle.link_courses.specs.Host.{AreAny, HostRanInCourse, HostRanLawfully, HostsKeepTheirLaws}
use Rattle.link_courses.specs.Lawful.{GiveBytes, KeepsLawOfEnd}
use Rattle.link_courses.specs.Noting.{HasNoted, NoReply}
use Rattle.link_courses.proofs.Coming.{run-so}
use Rattle.link_courses.proofs.Given.{run-given, script-brings}
use Rattle.link_courses.proofs.Lawful.{first-done}
use Rattle.link_courses.proofs.Noting.{has-noted, there-first}
use Rattle.link_courses.proofs.Replying.{replies-noted}
use Rattle.link_courses.proofs.Writing.{host-silent, run-writes, script-silent}

module _ (plan : HostPlan) (fits : HostPlanFits plan) (lines : List ScriptLine)
    (told : AreTold told_host HostCommandFits lines) (polls : ℕ) where
  abbrev run : List LinkIn → Piece (Node HostOwn Kind) HostCommand
  run answers = host_run plan lines polls answers

  abbrev whole : List LinkIn → List Happening
  whole answers =
      with_closing (run answers).ended (notes_of (course_of (host_start plan) host_machine (met_by (run answers).acts)))

  first-lawful : (answers : List LinkIn) (later noted : List Happening) → whole answers ≡ later ++ noted
      → GiveBytes answers → KeepsLawOfEnd (end_plan plan) AreAny noted
  first-lawful answers later noted is bytes =
      let done =
      first-done (end_plan plan) (Did (HasPlan plan) (end_plan plan)) HostCommandFits (host_start plan) host_machine
      (host_lawful plan tt fits tt) AreAny (λ base doings s did. tt) (λ doing before any. tt) (λ doings any. tt)
      (run answers).ended (met_by (run answers).acts) later noted
      (run-given host_machine host_due (by_script told_host) side.Host HostCommandFits
      (AreTold told_host HostCommandFits) (script-brings told_host HostCommandFits) (host_start plan) lines polls
      answers told bytes) is
      in
      record { done = done; replies = replies-noted (end_plan plan) AreAny noted done }

  was-so : (link : LinkTold) (out : SinkTold) (outcome : Outcome) (was : WasRun plan lines polls link out outcome)
      → HostRanInCourse plan lines polls link out was.ended
  was-so link out outcome was =
      let a = before_run link out (host_start plan).next in
      let b = after_run link out was.left was.room was.stop in
      let noted : HasNoted host_machine (host_start plan) side.Host (host_run plan lines polls) a b was.ended =
      has-noted host_machine (host_start plan) side.Host (host_run plan lines polls) a b
      (run-so host_machine (host_start plan) side.Host host_due (by_script told_host) lines polls)
      (run-writes NoReply refl host_machine host_due (by_script told_host) (script-silent told_host host-silent)
      side.Host (host_start plan) lines polls)
      was.ended was.runs
      in
      let first = there-first was.ended (whole noted.answers) (noted_by side.Host noted.log) noted.there in
      record {
        left = was.left;
        room = was.room;
        stop = was.stop;
        noted = noted;
        lawful = first-lawful noted.answers first.later (noted_by side.Host noted.log) first.is;
      }

lines-told : (text : List ℕ) (lines : List ScriptLine) → IsScript side.Host text lines
    → AreTold told_host HostCommandFits lines
lines-told text lines is =
    are_told (lines_of text) 0 lines is.tell
    (all_fit (IsToldLine side.Host) moment_of_line LineFits
    (λ least line spelled there. line_fits side.Host line spelled there.0) 0 (lines_of text) lines is.tell).0

-- ---- by its words

module _ (source : SourceTold) (files : FilesTold) (disk : DiskTold) (link : LinkTold) (out : SinkTold) (plan : List ℕ)
    (polls : ℕ) (outcome : Outcome) where
  abbrev KeptOr : Type 0
  KeptOr = IsIdle link out ⊎ HostRanLawfully plan polls source files link out outcome

  run-kept :
      (plans : Plans) → PlansAre plan files plans → (text : List ℕ) → WasRead script_limit source (input.Whole text)
      → (lines : List ScriptLine) → IsScript side.Host text lines
      → WasRun plans.host lines polls link out outcome → KeptOr
  run-kept plans are text read lines script was = inr (record {
    plans = plans;
    plans_are = are;
    text = text;
    read = read;
    lines = lines;
    script = script;
    ended = was.ended;
    outcome_is = was.outcome_is;
    ran = was-so plans.host are.is.fits.host lines (lines-told text lines script) polls link out outcome was;
  })

  comes-kept : HostComes plan polls source files link out outcome → KeptOr
  comes-kept (inl (refuses, unread, idle)) = inl idle
  comes-kept (inr (plans, are, inl (refuses, idle))) = inl idle
  comes-kept (inr (plans, are, inr (text, read, runs))) = elim runs.because [
    | inl found ↦ run-kept plans are text read found.0 found.1 found.2
    | inr fault ↦ inl fault.3
  ]

  words-kept : (address : List ℕ)
      → RunComes (Some (Host plan address polls)) source files disk link out outcome → KeptOr
  words-kept address (inl none) = inl (record { uncalled = none.uncalled; written = none.written })
  words-kept address (inr (unused, comes, connects)) = comes-kept comes

pub hosts-keep : HostsKeepTheirLaws
hosts-keep words source files disk link out err status plan address polls run asks =
    words-kept source files disk link out plan polls run.outcome address
    (subst (λ (asked : Option Asked). RunComes asked source files disk link out run.outcome) asks run.comes)
