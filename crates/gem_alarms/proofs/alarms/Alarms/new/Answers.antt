-- One alarm more is put as the plan has it.

use Rattle.std.proofs.Common.{◌≡◌, ◌∙◌, ap, ℕ, List, [], get_or, false, arith}
use Rattle.indexmap.specs.IndexMap.{insert_entry}
use Rattle.std.specs.Prelude.{nat_eq}
use Rattle.gem_tables.proofs.Putting.{put_more}
use Rattle.gem_alarms.specs.declared.alarm.Alarm.{Alarm}
use Rattle.gem_alarms.specs.declared.plan.AlarmPlan.{AlarmPlan}
use Rattle.gem_alarms.specs.History.{alarm_after, alarms_at}
use Rattle.gem_alarms.proofs.alarms.Alarms.new.Goals as goal

pub loop-planned-preserved : goal.loop-planned-preserved
loop-planned-preserved c =
    let p = c.planned-item.result in
    let i = c.loop-planned.planned-index in
    let text = c.in_ok-of.ensures ∙ c.as_slice.ensures in
    let alarm : Alarm = record {
      category = p.category;
      text = c.in_ok-of.field-0;
      is_enabled = p.enabled;
      is_set = false;
    } in
    let is : alarm ≡ alarm_after [] (get_or c.args.plan.now i p) =
    ap (λ (t : List ℕ). record { category = p.category; text = t; is_enabled = p.enabled; is_set = false }) text
    ∙ ap (alarm_after []) c.planned-item.is in
    put_more (λ (q : AlarmPlan). q.alid) (alarm_after []) c.args.plan.now i p alarm c.loop-planned.alarms.entries
    c.insert.new.self.entries (alarms_at c.args.plan.now []) (omega arith) is
    (c.in_ok-insert.ensures.entries
    ∙ ap (λ (q : AlarmPlan). insert_entry nat_eq c.loop-planned.alarms.entries q.alid alarm) c.planned-item.is)
    c.loop-planned.invariant
