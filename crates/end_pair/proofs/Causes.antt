-- Why a step ends a run, or an event.
use Rattle.std.proofs.Common.{◌≡◌, ℕ, Bool, true, false, if◌then◌else◌, refl, sym, ap, subst, ◌∙◌}
use Rattle.disk_base.specs.declared.cut.CutChoice.{CutChoice}
use Rattle.gl_base.specs.declared.side.Side.{Side}
use Rattle.line_way.specs.Ways.{Ways}
use Rattle.message_end.specs.Core.{Went}
use Rattle.message_end.specs.Core.Went.{Goes, Spent}
use Rattle.message_end.specs.Ends.{Input, IsPassed, Machine, Passing, Reach, passing}
use Rattle.message_end.specs.Ends.Passing.{Cuts, Lacks, Passes}
use Rattle.trace_log.specs.Log.{Happening}
use Rattle.end_pair.specs.declared.answers.WorldStep.TheVariants as answer
use Rattle.end_pair.specs.Laws.{EndsByCause}
use Rattle.end_pair.specs.Steps.{Stepped, made, made_by, no_reach, slipped, slips, spent_for, stepped, stopped_for}

-- a disk that stops a step doesn't let it go on
pub never-on : (side : Side) (is_cut : Bool) → stopped_for side is_cut ≡ answer.Went → ⊥
never-on side true is = absurd (cc)
never-on side false is = absurd (cc)

-- nor does what ends it early, and no power is lost with that
pub never-early : (lacks_room : Bool) → spent_for lacks_room ≡ answer.Went → ⊥
never-early true is = absurd (cc)
never-early false is = absurd (cc)

pub early-powered : (lacks_room : Bool) (whose : Side) → spent_for lacks_room ≡ answer.PowerLost whose → ⊥
early-powered true whose is = absurd (cc)
early-powered false whose is = absurd (cc)

-- and a power that is lost is that of the step's own end
same-end : (one other : Side) → answer.PowerLost one ≡ answer.PowerLost other → other ≡ one
same-end one other same = cc

pub stopped-own : (side : Side) (is_cut : Bool) (whose : Side) → stopped_for side is_cut ≡ answer.PowerLost whose
    → whose ≡ side
stopped-own side true whose is = same-end side whose is
stopped-own side false whose is = absurd (cc)

module _ {S C : Type 0} (machine : Machine S C) (side : Side) (now : ℕ) (reach : Reach) (choice : CutChoice)
    (input : Input C) (s : S) (ways : Ways) where
  abbrev found : Bool
  found = slips machine side now input s ways

  abbrev passed : Passing S
  passed = passing reach (machine.losses s input now)

  abbrev here : Stepped S
  here = stepped machine side now reach choice input s ways

  abbrev Ends : Type 0
  Ends = EndsByCause machine side now reach choice input s ways

  how-slip : found ≡ true → here.went ≡ answer.Slip
  how-slip is =
      ap (λ (b : Bool). (if b then slipped side now reach s ways else made_by machine side now choice input s ways
      passed).went) is

  pub how-by : found ≡ false → (how : Passing S) → passed ≡ how
      → here ≡ made_by machine side now choice input s ways how
  how-by none how is =
      ap (λ (b : Bool). if b then slipped side now reach s ways else made_by machine side now choice input s ways
      passed) none
      ∙ ap (λ (p : Passing S). made_by machine side now choice input s ways p) is

  how-made : found ≡ false → (left : Reach) → passed ≡ Passes left → (went : Went S Happening)
      → machine.act s input now ≡ went → here.went ≡ (made machine side now left input s ways went).went
  how-made none left whole went is =
      ap (λ (step : Stepped S). step.went) (how-by none (Passes left) whole)
      ∙ ap (λ (w : Went S Happening). (made machine side now left input s ways w).went) is

  pub by-cause : Ends
  by-cause = by_slip found refl
    where
      by_went : found ≡ false → (left : Reach) → passed ≡ Passes left → (went : Went S Happening)
          → machine.act s input now ≡ went → Ends
      by_went none left whole (Goes step) is =
          let how = how-made none left whole (Goes step) is in
          record {
            slip = (λ slip. cc, λ slip. cc);
            lost = (λ lost. cc, λ cause. let both = sym whole ∙ cause.1.1 in cc);
            crowded = (λ crowded. cc, λ cause. let both = sym whole ∙ cause.1.1 in cc);
            spent = (λ spent. cc, λ cause. let both = sym is ∙ cause.0.1.1.1 in cc);
            full = (λ full. cc, λ cause. let both = sym is ∙ cause.0.1.1.1 in cc);
            no_other = λ other. cc;
            no_other_end = λ other lost. let both = sym how ∙ lost in absurd (cc);
          }
      by_went none left whole (Spent step) is =
          by_room (machine.lacks_room s input now) refl (how-made none left whole (Spent step) is)
        where
          all : IsPassed passed
          all = subst IsPassed (sym whole) tt

          by_room : (b : Bool) → machine.lacks_room s input now ≡ b
              → here.went ≡ spent_for (machine.lacks_room s input now)
              → Ends
          by_room false room is_made =
              let how : here.went ≡ answer.NumbersSpent = is_made ∙ ap spent_for room in
              record {
                slip = (λ slip. cc, λ slip. cc);
                lost = (λ lost. cc, λ cause. let both = sym whole ∙ cause.1.1 in cc);
                crowded = (λ crowded. cc, λ cause. let both = sym whole ∙ cause.1.1 in cc);
                spent = (λ spent. ((none, (all, (step, is))), room), λ cause. how);
                full = (λ full. cc, λ cause. let other = cause.1 in cc);
                no_other = λ other. cc;
                no_other_end = λ other lost. let both = sym how ∙ lost in absurd (cc);
              }
          by_room true lacks_room is_made =
              let how : here.went ≡ answer.JournalFull = is_made ∙ ap spent_for lacks_room in
              record {
                slip = (λ slip. cc, λ slip. cc);
                lost = (λ lost. cc, λ cause. let both = sym whole ∙ cause.1.1 in cc);
                crowded = (λ crowded. cc, λ cause. let both = sym whole ∙ cause.1.1 in cc);
                spent = (λ spent. cc, λ cause. let other = cause.1 in cc);
                full = (λ full. ((none, (all, (step, is))), lacks_room), λ cause. how);
                no_other = λ other. cc;
                no_other_end = λ other lost. let both = sym how ∙ lost in absurd (cc);
              }

      stopped-not : (how : Passing S) → passed ≡ how → IsPassed passed → IsPassed how
      stopped-not how is all = subst IsPassed is all

      by_passing : found ≡ false → (how : Passing S) → passed ≡ how → Ends
      by_passing none (Passes left) whole = by_went none left whole (machine.act s input now) refl
      by_passing none (Cuts loss) is =
          let how : here.went ≡ answer.PowerLost side =
          ap (λ (step : Stepped S). step.went) (how-by none (Cuts loss) is) in
          record {
            slip = (λ slip. cc, λ slip. cc);
            lost = (λ lost. (none, (loss, is)), λ cause. how);
            crowded = (λ crowded. cc, λ cause. let both = sym is ∙ cause.1.1 in cc);
            spent = (λ spent. cc, λ cause. absurd (stopped-not (Cuts loss) is cause.0.1.0));
            full = (λ full. cc, λ cause. absurd (stopped-not (Cuts loss) is cause.0.1.0));
            no_other = λ other. cc;
            no_other_end = λ other lost. same-end side other (sym how ∙ lost);
          }
      by_passing none (Lacks loss) is =
          let how : here.went ≡ answer.Turns =
          ap (λ (step : Stepped S). step.went) (how-by none (Lacks loss) is) in
          record {
            slip = (λ slip. cc, λ slip. cc);
            lost = (λ lost. cc, λ cause. let both = sym is ∙ cause.1.1 in cc);
            crowded = (λ crowded. (none, (loss, is)), λ cause. how);
            spent = (λ spent. cc, λ cause. absurd (stopped-not (Lacks loss) is cause.0.1.0));
            full = (λ full. cc, λ cause. absurd (stopped-not (Lacks loss) is cause.0.1.0));
            no_other = λ other. cc;
            no_other_end = λ other lost. let both = sym how ∙ lost in absurd (cc);
          }

      by_slip : (b : Bool) → found ≡ b → Ends
      by_slip true is =
          let how = how-slip is in
          record {
            slip = (λ slip. is, λ slip. how);
            lost = (λ lost. cc, λ cause. let other = cause.0 in cc);
            crowded = (λ crowded. cc, λ cause. let other = cause.0 in cc);
            spent = (λ spent. cc, λ cause. let other = cause.0.0 in cc);
            full = (λ full. cc, λ cause. let other = cause.0.0 in cc);
            no_other = λ other. cc;
            no_other_end = λ other lost. let both = sym how ∙ lost in absurd (cc);
          }
      by_slip false is = by_passing is passed refl

  -- where its disk has no room for a call, that goes no further
  pub no-call : here.went ≡ answer.Turns → here.reach ≡ no_reach
  no-call crowded =
      let cause = by-cause.crowded.0 crowded in
      ap (λ (step : Stepped S). step.reach) (how-by cause.0 (Lacks cause.1.0) cause.1.1)
