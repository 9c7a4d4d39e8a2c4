-- The steps that are read off notes with their moments are those that were made, and what is said of S6F1 holds at each
-- note of them.
use Rattle.std.proofs.Common.{◌≡◌, refl, sym, ap, subst, ◌∙◌, arith, ℕ, List, [], ◌∷◌, ◌++◌, append_assoc, append-nil}
use Rattle.trace_log.specs.Log.{Happening}
use Rattle.end_pair.specs.Noted.{TimedNotes, timed_behind}
use Rattle.message_end.specs.Course.{noted_behind}
use Rattle.equipment_tables.specs.declared.plan.EquipmentPlan.{EquipmentPlan}
use Rattle.tool_reports.specs.Reported.{count_of}
use Rattle.tool_reports.specs.Sampled.{AreSampled, Stepped, datas_in}
use Rattle.line_world.specs.Cuts.{AreSampledSoFar, Stage, stage_behind, stage_with, stage_within, steps_by, steps_in, steps_with, untimed, with_note}
use Rattle.line_world.specs.Cuts.Stage.{Between, Stepping}
use Rattle.tool_traces.specs.Steps.{stepped, with_step}
use Rattle.tool_traces.proofs.IdleNotes.{AreAmid, AreSound, IsAmid, datas-grow, sound-before}
use Rattle.tool_traces.proofs.TracedCourses.{AreFew, IsFewAmid, sampled-so}

pub untimed-behind : (now : ℕ) (notes : List Happening) (before : TimedNotes)
    → untimed (timed_behind now notes before) ≡ noted_behind notes (untimed before)
untimed-behind now [] before = refl
untimed-behind now (what ∷ notes) before = untimed-behind now notes ((now, what) ∷ before)

-- the last of some notes is the newest
pub timed-end : (now : ℕ) (front : List Happening) (last : Happening) (before : TimedNotes)
    → timed_behind now (front ++ last ∷ []) before ≡ (now, last) ∷ timed_behind now front before
timed-end now [] last before = refl
timed-end now (what ∷ front) last before = timed-end now front last ((now, what) ∷ before)

-- ---- one note more

pub amid-stage : (what : Happening) (stage : Stage) → IsAmid what → stage_with what stage ≡ stage_within stage
amid-stage (Happening.EquipmentStarted found base) stage is = absurd is
amid-stage Happening.StepEnded stage is = absurd is
amid-stage (Happening.Wrote characters) stage is = absurd is
amid-stage Happening.Power stage is = absurd is
amid-stage what stage is = refl

pub amid-with : (now : ℕ) (what : Happening) (before : TimedNotes) (steps : List Stepped) → IsAmid what
    → steps_with now what before steps ≡ steps_by (stage_behind before) now what before steps
amid-with now (Happening.EquipmentStarted found base) before steps is = absurd is
amid-with now (Happening.Wrote characters) before steps is = absurd is
amid-with now Happening.Power before steps is = absurd is
amid-with now what before steps is = refl

-- ---- a step under way

-- these notes of it stand last, and it has begun behind those
record IsOpen (now : ℕ) (before done : List Happening) (steps : List Stepped) (timed : TimedNotes) : Type 0 where
  under_way : stage_behind timed ≡ Stepping
  is : steps_in timed ≡ stepped now before done ∷ steps

open-first : (now : ℕ) (what : Happening) (timed : TimedNotes) → IsAmid what → stage_behind timed ≡ Between
    → IsOpen now (untimed timed) (what ∷ []) (steps_in timed) ((now, what) ∷ timed)
open-first now what timed amid begins = record {
  under_way = amid-stage what (stage_behind timed) amid ∙ ap stage_within begins;
  is =
      amid-with now what timed (steps_in timed) amid
      ∙ ap (λ (stage : Stage). steps_by stage now what timed (steps_in timed)) begins;
}

-- one more is of it, be it its end
more-with : (now : ℕ) (before done : List Happening) (steps : List Stepped) (what : Happening) (timed : TimedNotes)
    → IsOpen now before done steps timed
    → steps_by (stage_behind timed) now what timed (steps_in timed)
    ≡ stepped now before (done ++ what ∷ []) ∷ steps
more-with now before done steps what timed begun =
    ap (λ (stage : Stage). steps_by stage now what timed (steps_in timed)) begun.under_way
    ∙ ap (λ (all : List Stepped). with_note what all) begun.is

open-more : (now : ℕ) (before done : List Happening) (steps : List Stepped) (what : Happening) (timed : TimedNotes)
    → IsAmid what → IsOpen now before done steps timed
    → IsOpen now before (done ++ what ∷ []) steps ((now, what) ∷ timed)
open-more now before done steps what timed amid begun = record {
  under_way = amid-stage what (stage_behind timed) amid ∙ ap stage_within begun.under_way;
  is = amid-with now what timed (steps_in timed) amid ∙ more-with now before done steps what timed begun;
}

open-all : (now : ℕ) (before done : List Happening) (steps : List Stepped) (notes : List Happening)
    (timed : TimedNotes) → AreAmid notes → IsOpen now before done steps timed
    → IsOpen now before (done ++ notes) steps (timed_behind now notes timed)
open-all now before done steps [] timed amid begun =
    subst (λ (all : List Happening). IsOpen now before all steps timed) (sym (append-nil done)) begun
open-all now before done steps (what ∷ notes) timed amid begun =
    subst
    (λ (all : List Happening). IsOpen now before all steps (timed_behind now notes ((now, what) ∷ timed)))
    (append_assoc done (what ∷ []) notes)
    (open-all now before (done ++ what ∷ []) steps notes ((now, what) ∷ timed) amid.1
    (open-more now before done steps what timed amid.0 begun))

-- ---- all notes of a step

-- those before its end
pub amid-steps : (now : ℕ) (notes : List Happening) (timed : TimedNotes) → AreAmid notes
    → stage_behind timed ≡ Between
    → steps_in (timed_behind now notes timed) ≡ with_step now (untimed timed) notes (steps_in timed)
amid-steps now [] timed amid begins = refl
amid-steps now (what ∷ notes) timed amid begins =
    (open-all now (untimed timed) (what ∷ []) (steps_in timed) notes ((now, what) ∷ timed) amid.1
    (open-first now what timed amid.0 begins)).is

-- with its end
pub whole-steps : (now : ℕ) (notes : List Happening) (timed : TimedNotes) → AreAmid notes
    → stage_behind timed ≡ Between
    → steps_in ((now, Happening.StepEnded) ∷ timed_behind now notes timed)
    ≡ stepped now (untimed timed) (notes ++ Happening.StepEnded ∷ []) ∷ steps_in timed
whole-steps now [] timed amid begins =
    ap (λ (stage : Stage). steps_by stage now Happening.StepEnded timed (steps_in timed)) begins
whole-steps now (what ∷ notes) timed amid begins =
    more-with now (untimed timed) (what ∷ notes) (steps_in timed) Happening.StepEnded
    (timed_behind now notes ((now, what) ∷ timed))
    (open-all now (untimed timed) (what ∷ []) (steps_in timed) notes ((now, what) ∷ timed) amid.1
    (open-first now what timed amid.0 begins))

-- ---- what is said of S6F1, at each of them

module _ (plan : EquipmentPlan) where
  -- of a step of which some notes stand, by what is said of it with more
  less-few : (now : ℕ) (before done all : List Happening) (steps : List Stepped) (notes rest : List Happening)
      → AreAmid rest → AreFew plan (stepped now before all ∷ steps) (noted_behind rest notes)
      → AreFew plan (stepped now before done ∷ steps) notes
  less-few now before done all steps notes rest amid few = record {
    sound = sound-before rest notes few.sound;
    few = λ body.
        let most = few.few body in
        let grow = datas-grow body rest notes amid in
        omega (arith, most, grow);
  }

  open-so-far : (now : ℕ) (before done : List Happening) (steps : List Stepped) (rest : List Happening)
      (timed : TimedNotes) → AreAmid rest → IsOpen now before done steps timed
      → AreFew plan (stepped now before (done ++ rest) ∷ steps) (noted_behind rest (untimed timed))
      → AreSampledSoFar plan timed → AreSampledSoFar plan (timed_behind now rest timed)
  open-so-far now before done steps [] timed amid begun few so_far = so_far
  open-so-far now before done steps (what ∷ rest) timed amid begun few so_far =
      open-so-far now before (done ++ what ∷ []) steps rest ((now, what) ∷ timed) amid.1 next
      (subst
      (λ (all : List Happening). AreFew plan (stepped now before all ∷ steps)
      (noted_behind rest (what ∷ untimed timed))) (sym (append_assoc done (what ∷ []) rest)) few) (
        subst (λ (all : List Stepped). AreSampled plan (what ∷ untimed timed) all) (sym next.is)
            (sampled-so plan (stepped now before (done ++ what ∷ []) ∷ steps) (what ∷ untimed timed)
            (less-few now before (done ++ what ∷ []) (done ++ what ∷ rest) steps (what ∷ untimed timed) rest amid.1
            few)),
        so_far,
      )
    where
      next : IsOpen now before (done ++ what ∷ []) steps ((now, what) ∷ timed)
      next = open-more now before done steps what timed amid.0 begun

  -- those before the end of a step
  pub amid-so-far : (now : ℕ) (notes : List Happening) (timed : TimedNotes) → stage_behind timed ≡ Between
      → IsFewAmid plan (steps_in timed) (untimed timed) now notes → AreSampledSoFar plan timed
      → AreSampledSoFar plan (timed_behind now notes timed)
  amid-so-far now [] timed begins so so_far = so_far
  amid-so-far now (what ∷ rest) timed begins so so_far =
      open-so-far now (untimed timed) (what ∷ []) (steps_in timed) rest ((now, what) ∷ timed) so.amid.1 first so.few (
        subst (λ (all : List Stepped). AreSampled plan (what ∷ untimed timed) all) (sym first.is)
            (sampled-so plan (stepped now (untimed timed) (what ∷ []) ∷ steps_in timed) (what ∷ untimed timed)
            (less-few now (untimed timed) (what ∷ []) (what ∷ rest) (steps_in timed) (what ∷ untimed timed) rest
            so.amid.1 so.few)),
        so_far,
      )
    where
      first : IsOpen now (untimed timed) (what ∷ []) (steps_in timed) ((now, what) ∷ timed)
      first = open-first now what timed so.amid.0 begins

  -- and all of one that goes on
  pub whole-so-far : (now : ℕ) (notes : List Happening) (timed : TimedNotes) → stage_behind timed ≡ Between
      → IsFewAmid plan (steps_in timed) (untimed timed) now notes → AreSampledSoFar plan timed
      → AreSampledSoFar plan ((now, Happening.StepEnded) ∷ timed_behind now notes timed)
  whole-so-far now notes timed begins so so_far = (
    subst (λ (all : List Stepped). AreSampled plan (Happening.StepEnded ∷ untimed (timed_behind now notes timed)) all)
        (sym (whole-steps now notes timed so.amid begins))
        (sampled-so plan
        (stepped now (untimed timed) (notes ++ Happening.StepEnded ∷ []) ∷ steps_in timed)
        (Happening.StepEnded ∷ untimed (timed_behind now notes timed))
        (ended (untimed (timed_behind now notes timed)) (untimed-behind now notes timed))),
    amid-so-far now notes timed begins so so_far,
  )
    where
      ended : (all : List Happening) → all ≡ noted_behind notes (untimed timed)
          → AreFew plan (stepped now (untimed timed) (notes ++ Happening.StepEnded ∷ []) ∷ steps_in timed)
          (Happening.StepEnded ∷ all)
      ended all is = record {
        sound = subst AreSound (sym is) so.few.sound;
        few = λ body.
            let most = so.few.few body in
            let same = ap (λ (ns : List Happening). count_of body (datas_in ns)) is in
            omega (arith, most, same);
      }
