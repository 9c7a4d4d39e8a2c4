-- One hint more; all of them tell what is known of the slots.
use Rattle.std.proofs.Common.{◌≡◌, ◌∙◌, ◌<◌, ◌≤◌, not, ap, arith, refl, subst, sym}
use Rattle.std.specs.Prelude.{IfSome}
use Rattle.recipe_disk.specs.declared.survey.Survey.{Survey}
use Rattle.recipe_disk.proofs.Hinted.{HasCounts, counts_next}
use Rattle.recipe_disk.proofs.Surveys.{bound_by, count_by}
use Rattle.recipe_disk.proofs.survey.survey_of.Goals as goal

pub loop-slot-init : goal.loop-slot-init
loop-slot-init c =
    let none = c.new-survey.ensures in
    let least : 0 ≤ 0 = omega arith in (
      λ slot are sound. record {
        free = ap (λ (v : Survey). v.free) none;
        count = ap (λ (v : Survey). v.count) none;
        next = ap (λ (v : Survey). v.next) none;
      },
      ap (λ (v : Survey). v.found) none,
      subst (λ (v : Survey). v.count ≤ 0) (sym none) least,
      subst (λ (v : Survey). IfSome v.free (λ k. k < 0)) (sym none) tt,
    )

pub loop-slot-preserved : goal.loop-slot-preserved
loop-slot-preserved c = (
  λ slot are sound.
      counts_next slot c.loop-slot.slot c.hint_at-hint.result
      (c.hint_at-hint.ensures ∙ are c.loop-slot.slot c.hint_at-hint.result c.loop-slot-test.true) (sound c.loop-slot.slot c.loop-slot-test.true)
      c.loop-slot.survey c.with_hint-survey.result (c.loop-slot.invariant.0 slot are sound)
      c.with_hint-survey.ensures.free c.with_hint-survey.ensures.count c.with_hint-survey.ensures.next,
  c.with_hint-survey.ensures.found ∙ c.loop-slot.invariant.1,
  count_by _ _ _ _ c.with_hint-survey.ensures.count c.loop-slot.invariant.2,
  bound_by _ _ _ _ c.with_hint-survey.ensures.free c.loop-slot.invariant.3,
)

pub returns-clause-survey : goal.returns-clause-survey
returns-clause-survey c slot name are sound found =
    let end : c.loop-slot.slot ≡ c.args.slots = omega (arith, c.loop-slot-test.false, c.loop-slot.auto.slot-end) in
    let counts = subst (λ n. HasCounts slot n c.loop-slot.survey) end (c.loop-slot.invariant.0 slot are sound) in record {
      found = c.loop-slot.invariant.1 ∙ found;
      free = counts.free;
      count = counts.count;
      next = counts.next;
    }
