-- A file that was made stands empty, and each fault has its cause, by the calls before it.

use Rattle.std.proofs.Common.{◌≡◌, refl, inl, inr, ◌∙◌, ◌+◌, ◌<◌, ℕ, List, length, ap, arith}
use Rattle.std.specs.Option.{option_map}
use Rattle.disk_base.specs.Calls.{sync_call, write_call}
use Rattle.disk_base.specs.Story.{with_write}
use Rattle.disk_base.specs.declared.disk.DiskAnswer.TheVariants.{Done, Failed}
use Rattle.disk_base.proofs.Stretches.{fault_behind, fault_wider, used_behind}
use Rattle.spool_file.specs.Added.{WritesOrSyncs}
use Rattle.spool_file.specs.Format.{first_page}
use Rattle.spool_file.proofs.Added.{adds_behind, adds_done, adds_failed}
use Rattle.spool_file.proofs.Fresh.{page_long}
use Rattle.spool_file.proofs.Made.{stands_empty}
use Rattle.spool_file.proofs.format.write_empty.Goals as goal

pub returns-in-Done-sync-clause-told : goal.returns-in-Done-sync-clause-told
returns-in-Done-sync-clause-told g c =
    let bytes : c.deref.result.now ≡ first_page c.args.slots = c.deref.ensures.0 ∙ c.first_page.ensures in
    stands_empty (g.D.Disk.told c.args.disk.now) _ _ _ _ c.args.slots (g.D.Disk.size_is c.args.disk.now)
    (λ s is. g.met.D.Disk.sized c.args.disk.now s is) c.requires.some c.requires.most c.requires.size
    (c.in-Done.ensures.told ∙ ap (λ (b : List ℕ). option_map (with_write 0 b) (g.D.Disk.told c.args.disk.now)) bytes)
    c.in-Done-close_slots.ensures.told c.in-Done-clear_area.ensures.told c.in-Done-sync.ensures.told

pub returns-in-Done-sync-clause-cause : goal.returns-in-Done-sync-clause-cause
returns-in-Done-sync-clause-cause g c =
    let n = c.args.slots in
    let bytes : c.deref.result.now ≡ first_page n = c.deref.ensures.0 ∙ c.first_page.ensures in
    let long : length c.deref.result.now ≡ 4096 = ap length bytes ∙ page_long n in
    let two = used_behind _ _ 1 (length c.deref.result.now) c.in-Done.ensures.cause _ n n (n + 1) (n + 4096) (omega arith) (omega (arith, long)) c.in-Done-close_slots.ensures.cause in
    let three = used_behind _ _ (n + 1) (n + 4096) two _ 32 524288 (n + 33) (n + 528384) (omega arith) (omega arith) c.in-Done-clear_area.ensures.cause in
    used_behind _ _ (n + 33) (n + 528384) three _ 1 0 (n + 34) (n + 528384) (omega arith) (omega arith) c.in-Done-sync.ensures.cause

pub returns-in-Failed-sync-clause-cause : goal.returns-in-Failed-sync-clause-cause
returns-in-Failed-sync-clause-cause g c =
    let n = c.args.slots in
    let bytes : c.deref.result.now ≡ first_page n = c.deref.ensures.0 ∙ c.first_page.ensures in
    let long : length c.deref.result.now ≡ 4096 = ap length bytes ∙ page_long n in
    let two = used_behind _ _ 1 (length c.deref.result.now) c.in-Done.ensures.cause _ n n (n + 1) (n + 4096) (omega arith) (omega (arith, long)) c.in-Done-close_slots.ensures.cause in
    let three = used_behind _ _ (n + 1) (n + 4096) two _ 32 524288 (n + 33) (n + 528384) (omega arith) (omega arith) c.in-Done-clear_area.ensures.cause in
    fault_behind _ _ (n + 33) (n + 528384) three _ 1 (n + 34) _ ((g.D.Disk.health c.args.disk.now).room < n + 528384) (omega arith) (λ none. absurd none) c.in-Failed-sync.ensures.cause

pub returns-in-Failed-close_slots-clause-cause : goal.returns-in-Failed-close_slots-clause-cause
returns-in-Failed-close_slots-clause-cause g c =
    let n = c.args.slots in
    let bytes : c.deref.result.now ≡ first_page n = c.deref.ensures.0 ∙ c.first_page.ensures in
    let long : length c.deref.result.now ≡ 4096 = ap length bytes ∙ page_long n in
    fault_behind _ _ 1 (length c.deref.result.now) c.in-Done.ensures.cause _ n (n + 34) _ ((g.D.Disk.health c.args.disk.now).room < n + 528384) (omega arith)
    (λ less. omega (arith, less, long, c.in-Done.ensures.cause.room_left)) c.in-Failed-close_slots.ensures.cause

pub returns-in-Failed-clause-cause : goal.returns-in-Failed-clause-cause
returns-in-Failed-clause-cause g c =
    let n = c.args.slots in
    let bytes : c.deref.result.now ≡ first_page n = c.deref.ensures.0 ∙ c.first_page.ensures in
    let long : length c.deref.result.now ≡ 4096 = ap length bytes ∙ page_long n in
    fault_wider _ _ 1 (n + 34) _ ((g.D.Disk.health c.args.disk.now).room < n + 528384) (omega arith) (λ less. omega (arith, less, long)) c.in-Failed.ensures.cause

-- the calls, as far as they went
pub returns-in-Done-sync-clause-calls : goal.returns-in-Done-sync-clause-calls
returns-in-Done-sync-clause-calls g c =
    let page = adds_done WritesOrSyncs (write_call 0 c.deref.result.now Done) (inl refl) c.in-Done.ensures.calls in
    adds_behind WritesOrSyncs (adds_behind WritesOrSyncs (adds_behind WritesOrSyncs page c.in-Done-close_slots.ensures.calls)
    c.in-Done-clear_area.ensures.calls)
    (adds_done WritesOrSyncs (sync_call Done) (inr refl) c.in-Done-sync.ensures.calls)

pub returns-in-Failed-sync-clause-calls : goal.returns-in-Failed-sync-clause-calls
returns-in-Failed-sync-clause-calls g c =
    let page = adds_done WritesOrSyncs (write_call 0 c.deref.result.now Done) (inl refl) c.in-Done.ensures.calls in
    adds_behind WritesOrSyncs (adds_behind WritesOrSyncs (adds_behind WritesOrSyncs page c.in-Done-close_slots.ensures.calls)
    c.in-Done-clear_area.ensures.calls)
    (adds_failed WritesOrSyncs (sync_call Failed) (inr refl) c.in-Failed-sync.ensures.calls)

pub returns-in-Failed-close_slots-clause-calls : goal.returns-in-Failed-close_slots-clause-calls
returns-in-Failed-close_slots-clause-calls g c =
    let page = adds_done WritesOrSyncs (write_call 0 c.deref.result.now Done) (inl refl) c.in-Done.ensures.calls in
    adds_behind WritesOrSyncs page c.in-Failed-close_slots.ensures.calls

pub returns-in-Failed-clause-calls : goal.returns-in-Failed-clause-calls
returns-in-Failed-clause-calls g c =
    adds_failed WritesOrSyncs (write_call 0 c.deref.result.now Failed) (inl refl) c.in-Failed.ensures.calls

pub returns-in-Failed-clear_area-clause-cause : goal.returns-in-Failed-clear_area-clause-cause
returns-in-Failed-clear_area-clause-cause g c =
    let n = c.args.slots in
    let bytes : c.deref.result.now ≡ first_page n = c.deref.ensures.0 ∙ c.first_page.ensures in
    let long : length c.deref.result.now ≡ 4096 = ap length bytes ∙ page_long n in
    let two = used_behind _ _ 1 (length c.deref.result.now) c.in-Done.ensures.cause _ n n (n + 1) (n + 4096) (omega arith) (omega (arith, long)) c.in-Done-close_slots.ensures.cause in
    fault_behind _ _ (n + 1) (n + 4096) two _ 32 (n + 34) _ ((g.D.Disk.health c.args.disk.now).room < n + 528384) (omega arith)
    (λ less. omega (arith, less, two.room_left)) c.in-Failed-clear_area.ensures.cause

pub returns-in-Failed-clear_area-clause-calls : goal.returns-in-Failed-clear_area-clause-calls
returns-in-Failed-clear_area-clause-calls g c =
    let page = adds_done WritesOrSyncs (write_call 0 c.deref.result.now Done) (inl refl) c.in-Done.ensures.calls in
    adds_behind WritesOrSyncs (adds_behind WritesOrSyncs page c.in-Done-close_slots.ensures.calls)
    c.in-Failed-clear_area.ensures.calls
