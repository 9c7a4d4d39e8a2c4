-- That the first step of a start has numbers to draw.
use Rattle.std.proofs.Common.{◌≡◌, ◌≢◌, ◌+◌, refl, sym, ap, subst, ◌∙◌, arith, Bool, true, false, not, ℕ, ◌==◌, List, [], ◌∷◌, ◌++◌, Option, Some, None, if◌then◌else◌}
use Rattle.std.proofs.lemmas.Bool.Decides.{nat_tests}
use Rattle.gem_states.specs.Comms.{asks}
use Rattle.trace_log.specs.Log.{Happening}
use Rattle.trace_log.specs.declared.names.CommsName.TheVariants as comms_name
use Rattle.transact.specs.Numbers.{next_number, numbers_from}
use Rattle.message_end.specs.Core.{Step, Went, and_then, at_first, carried, draws, noted, sends}
use Rattle.message_end.specs.Core.Went.{Goes, Spent}
use Rattle.message_end.specs.Core.Command.{Note}
use Rattle.message_end.specs.Duties.{all_done}
use Rattle.message_end.specs.Ends.Input.{Time}
use Rattle.message_end.specs.Parts.{Node, after_parts, after_turn, core_step, fixed_turn, went_with}
use Rattle.equipment_tables.specs.declared.answers.Answer.{Answer as Text}
use Rattle.equipment_tables.specs.declared.answers.Answer.TheVariants as text
use Rattle.tool_step.specs.declared.kind.Kind.{Kind}
use Rattle.equipment_tables.specs.declared.plan.EquipmentPlan.{EquipmentPlan}
use Rattle.equipment_tables.specs.Answers.{identity_of}
use Rattle.tool_step.specs.Own.{OwnView, ToolPart, ToolTurn, quiet_turn, with_comms}
use Rattle.tool_step.specs.Sampling.{sample_parts}
use Rattle.tool_step.specs.Sent as sent
use Rattle.tool_step.specs.Equipment.{EquipmentView, act, ended_step, is_marked_out, needs_numbers, parts_done, reserved, settled_went, started_on, went_with_file}
use Rattle.tool_step.specs.Step.{begun, delay_timer, first_parts, input_part, late_parts, line_timer}
use Rattle.spool_file.specs.File.{SpoolFile}

module _ (plan : EquipmentPlan) (file : SpoolFile) where
  first-view : EquipmentView
  first-view = (started_on plan file).next

  first-own : OwnView
  first-own = begun first-view.node.own

  asking-own : OwnView
  asking-own = with_comms asks.next first-own

  rest-parts : List ToolPart
  rest-parts = line_timer 0 ∷ ((late_parts 0 ++ delay_timer 0 ∷ sample_parts 0) ++ input_part Time 0 ∷ [])

  -- S1F13 under a number, if there is one
  asking-went : List ℕ → Option ℕ → Went (Node OwnView Kind) Happening
  asking-went body next =
      went_with asking-own
      (and_then (and_then (draws next (sends Some (sent.establish_request body))
      (noted Some (Happening.Comms comms_name.WaitCra) (core_step (at_first first-view.node)))) (carried Some []))
      (all_done Some []))

  -- what comes of the first turn
  first-turn : (over : Bool) (body : Text) → ToolTurn
  first-turn over body =
      if over then quiet_turn first-own
      else fixed_turn asking-own
      (Note (Happening.Comms comms_name.WaitCra) ∷ sent.primary_commands sent.establish_request body)

  -- and of the step
  first-act : Went (Node OwnView Kind) Happening → Went EquipmentView Happening
  first-act went =
      and_then (settled_went (went_with_file first-view (and_then went (after_parts Some rest-parts)))) (ended_step 0)

  never-both : true ≡ false → ⊥
  never-both both = absurd (cc)

  abbrev does_go : Went EquipmentView Happening → Bool
  does_go (Goes step) = true
  does_go (Spent step) = false

  goes-by :
      (over : Bool) (body : Text) (step : Step EquipmentView Happening)
      → first-act (after_turn Some (first-turn over body) (at_first first-view.node)) ≢ Spent step
  unfolding late_parts sample_parts first-act first-turn first-view first-own asking-own rest-parts asking-went
  goes-by true body step same = never-both (ap does_go same)
  goes-by false text.TooLong step same = never-both (ap does_go same)
  goes-by false (text.Body body) step same =
      subst
      (λ (went : Went (Node OwnView Kind) Happening). first-act went ≢ Spent step)
      (ap (asking-went body) (sym drawn))
      (λ other. never-both (ap does_go other)) same
    where
      mark : ℕ
      mark = file.mark.value

      drawn : next_number (numbers_from mark 4096) ≡ Some mark
      drawn = go (mark == mark + 4096) refl
        where
          go : (none : Bool) → (mark == mark + 4096) ≡ none → (if none then None else Some mark) ≡ Some mark
          go true is = absurd (grind (arith, nat_tests, is))
          go false is = refl

  pub first-goes :
      (step : Step EquipmentView Happening) → act (started_on plan file).next Time 0 ≢ Spent step
  unfolding late_parts sample_parts first-act first-turn first-view first-own asking-own rest-parts asking-went
  first-goes step same =
      goes-by (not plan.enable) (sent.text_of first-own (identity_of first-own.tables)) step (starts-by ∙ same)
    where
      starts-by :
          first-act
          (after_turn Some (first-turn (not plan.enable) (sent.text_of first-own (identity_of first-own.tables)))
          (at_first first-view.node)) ≡ act first-view Time 0
      starts-by = go (needs_numbers first-view) refl
        where
          go : (needs : Bool) → needs_numbers first-view ≡ needs
              → first-act
              (after_turn Some (first-turn (not plan.enable) (sent.text_of first-own (identity_of first-own.tables)))
              (at_first first-view.node))
              ≡ and_then (settled_went (and_then
              (if needs then if is_marked_out first-view.file.mark.value then Spent (at_first first-view)
              else Goes (at_first (reserved first-view)) else Goes (at_first first-view))
              (parts_done (first_parts Time 0)))) (ended_step 0)
          go true is = absurd (grind (arith, nat_tests, is))
          go false is = refl
