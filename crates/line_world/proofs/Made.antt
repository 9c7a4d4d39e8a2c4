-- What the run of made rounds comes to.
use Rattle.std.proofs.Common.{◌≡◌, ℕ, List, [], Ok, Err, Result, subst, sym}
use Rattle.end_pair.specs.Run as pair
use Rattle.end_pair.specs.declared.answers.RunEnd.{RunEnd}
use Rattle.end_pair.specs.declared.answers.RunEnd.TheVariants as end
use Rattle.end_pair.specs.declared.answers.WorldStep.{WorldStep}
use Rattle.end_pair.specs.declared.answers.WorldStep.TheVariants as went
use Rattle.tool_step.specs.End as equipment
use Rattle.equipment_tables.specs.declared.plan.Plans.{Plans}
use Rattle.gl_base.specs.Sending.{WroteText}
use Rattle.gl_base.specs.Told.{SinkTold}
use Rattle.host_node.specs.Host as host
use Rattle.message_end.specs.Core.{Step}
use Rattle.trace_log.specs.Log.{Happening}
use Rattle.line_world.specs.Make.{make_events, make_schedule, summary_of}
use Rattle.line_world.specs.Making.{Counted, MakesRounds, SummaryEnds, end_made, summary_text}
use Rattle.line_world.specs.Run.{EquipmentView, equipment_start, host_start, trace_text}
use Rattle.line_world.specs.declared.counting.Counts.{Counts}
use Rattle.line_world.proofs.Summed.{summary-is}

module _ (plans : Plans) (rounds : ℕ) (out : SinkTold) where
  abbrev CountedAs : Step EquipmentView Happening → Result Counts WorldStep → Type 0
  CountedAs first result =
      Counted
      (pair.piece_of equipment.machine host.host_machine first (host_start plans.host) (make_events rounds)) result

  -- over the start that the value has
  stops-made :
      (first : Step EquipmentView Happening) → first ≡ equipment_start plans → (stop : WorldStep)
      → CountedAs first (Err stop) → WroteText out [] → MakesRounds out plans rounds (end_made stop)
  stops-made first is stop counted nothing =
      go stop (subst (λ (s : Step EquipmentView Happening). CountedAs s (Err stop)) is counted)
    where
      go : (stop : WorldStep) → CountedAs (equipment_start plans) (Err stop)
          → MakesRounds out plans rounds (end_made stop)
      go went.Went counted = absurd counted
      go went.Slip counted = (counted, nothing)
      go went.Turns counted = (counted, nothing)
      go went.NumbersSpent counted = (counted, nothing)
      go went.JournalFull counted = (counted, nothing)
      go (went.PowerLost side) counted = absurd counted
      go went.NoMemory counted = nothing

  pub stops-as :
      (first : Step EquipmentView Happening) → first ≡ equipment_start plans → (stop : WorldStep) (result : RunEnd)
      → result ≡ end_made stop → CountedAs first (Err stop) → WroteText out [] → MakesRounds out plans rounds result
  stops-as first is stop result named counted nothing =
      subst (λ (end : RunEnd). MakesRounds out plans rounds end) (sym named) (stops-made first is stop counted nothing)

  pub writes-made :
      (first : Step EquipmentView Happening) → first ≡ equipment_start plans → (counts : Counts) (result : RunEnd)
      → CountedAs first (Ok counts) → SummaryEnds out (summary_text rounds counts) result
      → MakesRounds out plans rounds result
  writes-made first is counts result counted ends =
      go result
      (subst (λ (text : List ℕ). SummaryEnds out text result)
      (summary-is rounds (trace_text plans (make_schedule rounds)) counts whole.1) ends)
    where
      whole : CountedAs (equipment_start plans) (Ok counts)
      whole = subst (λ (s : Step EquipmentView Happening). CountedAs s (Ok counts)) is counted

      go : (result : RunEnd)
          → SummaryEnds out (summary_of rounds (trace_text plans (make_schedule rounds))) result
          → MakesRounds out plans rounds result
      go end.Whole ends = (whole.0, ends)
      go end.WriteFailed ends = (whole.0, ends)
      go end.Slip ends = absurd ends
      go end.Turns ends = absurd ends
      go end.NumbersSpent ends = absurd ends
      go end.JournalFull ends = absurd ends
      go end.NoMemory ends = absurd ends
