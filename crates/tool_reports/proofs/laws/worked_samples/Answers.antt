-- What the host has asked for is read off the notes, and the rest computes.

use Rattle.tool_reports.specs.Sampled.{due_in}
use Rattle.tool_reports.specs.WorkedSampled.{asked, steps_of, the_plan}
use Rattle.tool_reports.proofs.WorkedSteps.{asked-due, asked-is, data-is, never-again, never-early, never-over-start, never-refused, never-spooled, never-unawaited, of-one, sent-one}
use Rattle.tool_reports.proofs.laws.worked_samples.Goals as goal

pub returns : goal.returns
returns c = record {
  due = λ message s6f1 is. asked-due message s6f1 is;
  holds = λ message s6f1 is named are.
      let of = are.each s6f1.body (sent-one message s6f1 named) in
      of-one (due_in the_plan (steps_of (asked message s6f1))) s6f1.body (asked-due message s6f1 is) of.item of.due
      of.text;
  is = λ message s6f1 is named text. asked-is message s6f1 is named text;
  unawaited = λ s6f1 named none are. never-unawaited s6f1 named none are;
  unasked = λ s6f1 named are. (are.each s6f1.body (data-is s6f1 named)).due;
  early = λ message s6f1 is named are. never-early message s6f1 is named are;
  refused = λ message s6f1 is named are. never-refused message s6f1 is named are;
  over_start = λ message s6f1 named are. never-over-start message s6f1 named are;
  unspooled = λ body are. never-spooled body are;
  once = λ message s6f1 other is one two are. never-again message s6f1 other is one two are;
}
