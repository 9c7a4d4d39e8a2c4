-- A call that is refused, one behind a stop, and one that is made: state and answer are those of the call that is due,
-- and it stays a disk.

use Rattle.std.proofs.Common.{◌≡◌, ◌∙◌, ◌+◌, length, false, true, refl, sym, ap, subst, rules}
use Rattle.std.proofs.lemmas.List.{with_items_is}
use Rattle.std.specs.Vec.{with_items}
use Rattle.disk_base.specs.Kept.{disk_state}
use Rattle.disk_base.specs.Log.{bytes_under, call_of}
use Rattle.disk_base.specs.MemDisk.{DiskState, after_call, answer_due, answer_of, call_due, spare_now}
use Rattle.disk_base.specs.declared.disk.DiskAnswer.{DiskAnswer}
use Rattle.disk_base.specs.declared.disk.DiskAnswer.TheVariants.{Failed}
use Rattle.disk_base.specs.declared.log.LoggedCall.{LoggedCall}
use Rattle.disk_base.specs.declared.mem_disk.MemDisk.TheInside.{Inside}
use Rattle.disk_base.proofs.Made.{IsListed, HasRoom, answers, due_is, full_is, late_kept, late_state, made_kept, made_state, refused}
use Rattle.disk_base.proofs.mem_disk.MemDisk.call.Goals as goal

pub returns-then-is_crowded-clause-answer : goal.returns-then-is_crowded-clause-answer
returns-then-is_crowded-clause-answer c =
    let crowded = c.is_crowded.ensures.crowded in
    let full = full_is c.self.inside c.spare_now-spare.result (length c.args.bytes.now) true (c.spare_now-spare.ensures.is ∙ ap spare_now (sym c.self.view_is)) (search rules) (search rules) in
    subst (λ (s : DiskState). Failed ≡ answer_of (call_due c.args.kind c.args.at c.args.size c.args.bytes.now s) s) c.self.view_is
    (sym (answers c.self.inside (length c.args.bytes.now) (answer_due c.args.kind c.args.size (disk_state c.self.inside)) true full))

pub returns-then-is_crowded-clause-state : goal.returns-then-is_crowded-clause-state
returns-then-is_crowded-clause-state c =
    let crowded = c.is_crowded.ensures.crowded in
    let full = full_is c.self.inside c.spare_now-spare.result (length c.args.bytes.now) true (c.spare_now-spare.ensures.is ∙ ap spare_now (sym c.self.view_is)) (search rules) (search rules) in
    let d : Inside = record c.self.inside { plan = c.refuse.new.self; faults = c.saturating_add-self-inside.result } in
    subst (λ (s : DiskState). disk_state d ≡ after_call (call_due c.args.kind c.args.at c.args.size c.args.bytes.now s) s) c.self.view_is (refused c.self.inside d _ (search rules) full)

pub invariant_of-self-then-stopped : goal.invariant_of-self-then-stopped
invariant_of-self-then-stopped c =
    let crowded = c.is_crowded.ensures.crowded in
    let full = full_is c.self.inside c.spare_now-spare.result (length c.args.bytes.now) false (c.spare_now-spare.ensures.is ∙ ap spare_now (sym c.self.view_is)) (search rules) (search rules) in
    let entry : LoggedCall = record {
      kind = c.args.kind;
      at = c.args.at;
      size = c.args.size;
      count = length c.args.bytes.now;
      answer = c.judge-answer.result;
    } in
    let d : Inside = record {
      base = c.self.inside.base;
      bytes = c.self.inside.bytes;
      entries = c.push.new.self;
      written = c.extend_from_slice.new.self;
      most = c.self.inside.most;
      room = c.self.inside.room;
      spare_calls = c.self.inside.spare_calls;
      spare_bytes = c.self.inside.spare_bytes;
      live = c.self.inside.live;
      synced = c.self.inside.synced;
      plan = c.step-planned.new.self;
      faults = c.faults_after-self-inside.result;
      file = c.self.inside.file;
    } in
    let listed : IsListed c.self.inside d entry c.args.bytes.now = record {
      base = refl;
      entries = search rules;
      written = search rules;
      used = search rules;
      most = refl;
      room = refl;
      spare = refl;
      plan = c.step-planned.ensures.plan;
      faults = c.faults_after-self-inside.ensures;
      file = refl;
      count = refl;
      within = search rules;
      enough = full;
    } in
    let room : HasRoom d = record {
      entries = search rules;
      entries_room = search rules;
      written = search rules;
      written_room = search rules;
    } in
    late_kept c.self.inside d entry c.args.bytes.now c.self.invariant listed (search rules, search rules, search rules) c.if-stopped.true refl refl refl room

pub returns-then-stopped-clause-state : goal.returns-then-stopped-clause-state
returns-then-stopped-clause-state c =
    let crowded = c.is_crowded.ensures.crowded in
    let full = full_is c.self.inside c.spare_now-spare.result (length c.args.bytes.now) false (c.spare_now-spare.ensures.is ∙ ap spare_now (sym c.self.view_is)) (search rules) (search rules) in
    let entry : LoggedCall = record {
      kind = c.args.kind;
      at = c.args.at;
      size = c.args.size;
      count = length c.args.bytes.now;
      answer = c.judge-answer.result;
    } in
    let d : Inside = record {
      base = c.self.inside.base;
      bytes = c.self.inside.bytes;
      entries = c.push.new.self;
      written = c.extend_from_slice.new.self;
      most = c.self.inside.most;
      room = c.self.inside.room;
      spare_calls = c.self.inside.spare_calls;
      spare_bytes = c.self.inside.spare_bytes;
      live = c.self.inside.live;
      synced = c.self.inside.synced;
      plan = c.step-planned.new.self;
      faults = c.faults_after-self-inside.result;
      file = c.self.inside.file;
    } in
    let listed : IsListed c.self.inside d entry c.args.bytes.now = record {
      base = refl;
      entries = search rules;
      written = search rules;
      used = search rules;
      most = refl;
      room = refl;
      spare = refl;
      plan = c.step-planned.ensures.plan;
      faults = c.faults_after-self-inside.ensures;
      file = refl;
      count = refl;
      within = search rules;
      enough = full;
    } in
    let due : c.judge-answer.result ≡ answer_due c.args.kind c.args.size (disk_state c.self.inside) =
    due_is c.self.inside c.args.kind c.args.size _ c.step-planned.result c.judge-answer.result c.self.invariant (search rules) c.step-planned.ensures.answer c.judge-answer.ensures in
    let is = late_state c.self.inside d entry c.args.bytes.now c.self.invariant listed (search rules, search rules, search rules) c.if-stopped.true refl in
    let answered = is ∙ ap (λ (a : DiskAnswer). after_call (call_of (record entry { answer = a }) c.args.bytes.now) (disk_state c.self.inside)) due in
    subst (λ (s : DiskState). disk_state d ≡ after_call (call_due c.args.kind c.args.at c.args.size c.args.bytes.now s) s) c.self.view_is answered

pub invariant_of-self-2 : goal.invariant_of-self-2
invariant_of-self-2 c =
    let crowded = c.is_crowded.ensures.crowded in
    let full = full_is c.self.inside c.spare_now-spare.result (length c.args.bytes.now) false (c.spare_now-spare.ensures.is ∙ ap spare_now (sym c.self.view_is)) (search rules) (search rules) in
    let entry : LoggedCall = record {
      kind = c.args.kind;
      at = c.args.at;
      size = c.args.size;
      count = length c.args.bytes.now;
      answer = c.judge-answer.result;
    } in
    let d : Inside = record {
      base = c.self.inside.base;
      bytes = with_items c.self.inside.bytes c.run_call.new.bytes;
      entries = c.push.new.self;
      written = c.extend_from_slice.new.self;
      most = c.self.inside.most;
      room = c.self.inside.room;
      spare_calls = c.self.inside.spare_calls;
      spare_bytes = c.self.inside.spare_bytes;
      live = c.self.inside.live + 1;
      synced = c.count_settled-self-inside.result;
      plan = c.step-planned.new.self;
      faults = c.faults_after-self-inside.result;
      file = c.self.inside.file;
    } in
    let listed : IsListed c.self.inside d entry c.args.bytes.now = record {
      base = refl;
      entries = search rules;
      written = search rules;
      used = search rules;
      most = refl;
      room = refl;
      spare = refl;
      plan = c.step-planned.ensures.plan;
      faults = c.faults_after-self-inside.ensures;
      file = refl;
      count = refl;
      within = search rules;
      enough = full;
    } in
    let room : HasRoom d = record {
      entries = search rules;
      entries_room = search rules;
      written = search rules;
      written_room = search rules;
    } in
    let changed : c.run_call.new.bytes ≡ bytes_under c.args.kind c.args.at c.args.bytes.now c.self.inside.bytes.items = search rules in
    let is = with_items_is c.self.inside.bytes c.run_call.new.bytes (search rules) ∙ changed in
    made_kept c.self.inside d entry c.args.bytes.now c.self.invariant listed (search rules, search rules, search rules) c.if-stopped.false refl is (search rules) (search rules) room

pub returns-clause-answer : goal.returns-clause-answer
returns-clause-answer c =
    let crowded = c.is_crowded.ensures.crowded in
    let full = full_is c.self.inside c.spare_now-spare.result (length c.args.bytes.now) false (c.spare_now-spare.ensures.is ∙ ap spare_now (sym c.self.view_is)) (search rules) (search rules) in
    let due : c.judge-answer.result ≡ answer_due c.args.kind c.args.size (disk_state c.self.inside) =
    due_is c.self.inside c.args.kind c.args.size _ c.step-planned.result c.judge-answer.result c.self.invariant (search rules) c.step-planned.ensures.answer c.judge-answer.ensures in
    subst (λ (s : DiskState). c.judge-answer.result ≡ answer_of (call_due c.args.kind c.args.at c.args.size c.args.bytes.now s) s) c.self.view_is
    (due ∙ sym (answers c.self.inside (length c.args.bytes.now) (answer_due c.args.kind c.args.size (disk_state c.self.inside)) false full))

pub returns-clause-state : goal.returns-clause-state
returns-clause-state c =
    let crowded = c.is_crowded.ensures.crowded in
    let full = full_is c.self.inside c.spare_now-spare.result (length c.args.bytes.now) false (c.spare_now-spare.ensures.is ∙ ap spare_now (sym c.self.view_is)) (search rules) (search rules) in
    let entry : LoggedCall = record {
      kind = c.args.kind;
      at = c.args.at;
      size = c.args.size;
      count = length c.args.bytes.now;
      answer = c.judge-answer.result;
    } in
    let d : Inside = record {
      base = c.self.inside.base;
      bytes = with_items c.self.inside.bytes c.run_call.new.bytes;
      entries = c.push.new.self;
      written = c.extend_from_slice.new.self;
      most = c.self.inside.most;
      room = c.self.inside.room;
      spare_calls = c.self.inside.spare_calls;
      spare_bytes = c.self.inside.spare_bytes;
      live = c.self.inside.live + 1;
      synced = c.count_settled-self-inside.result;
      plan = c.step-planned.new.self;
      faults = c.faults_after-self-inside.result;
      file = c.self.inside.file;
    } in
    let listed : IsListed c.self.inside d entry c.args.bytes.now = record {
      base = refl;
      entries = search rules;
      written = search rules;
      used = search rules;
      most = refl;
      room = refl;
      spare = refl;
      plan = c.step-planned.ensures.plan;
      faults = c.faults_after-self-inside.ensures;
      file = refl;
      count = refl;
      within = search rules;
      enough = full;
    } in
    let due : c.judge-answer.result ≡ answer_due c.args.kind c.args.size (disk_state c.self.inside) =
    due_is c.self.inside c.args.kind c.args.size _ c.step-planned.result c.judge-answer.result c.self.invariant (search rules) c.step-planned.ensures.answer c.judge-answer.ensures in
    let is = made_state c.self.inside d entry c.args.bytes.now c.self.invariant listed (search rules, search rules, search rules) c.if-stopped.false refl in
    let answered = is ∙ ap (λ (a : DiskAnswer). after_call (call_of (record entry { answer = a }) c.args.bytes.now) (disk_state c.self.inside)) due in
    subst (λ (s : DiskState). disk_state d ≡ after_call (call_due c.args.kind c.args.at c.args.size c.args.bytes.now s) s) c.self.view_is answered
