-- That what a disk in memory lists has found room, and which of it is the last.
use Rattle.std.proofs.Common.{◌≡◌, ℕ, suc, ◌-◌, List, [], ◌∷◌, ◌++◌, length, get_or, vec_len, ap, ◌∙◌, arith, length-append}
use Rattle.disk_base.specs.Calls.{DiskCall}
use Rattle.disk_base.specs.Kept.{IsMemDisk, disk_state}
use Rattle.disk_base.specs.Log.{calls_of}
use Rattle.disk_base.specs.MemDisk.{HasFitted}
use Rattle.disk_base.specs.declared.disk.DiskAnswer.{DiskAnswer}
use Rattle.disk_base.specs.declared.disk.DiskAnswer.TheVariants.{Done}
use Rattle.disk_base.specs.declared.log.LoggedCall.{LoggedCall}
use Rattle.disk_base.specs.declared.mem_disk.MemDisk.TheInside.{Inside}
use Rattle.disk_base.proofs.Logs.{length-calls, written_is}

pub fitted_of : (d : Inside) → IsMemDisk d → vec_len d.entries ≡ length d.entries.items → vec_len d.written ≡ length d.written.items →
    HasFitted (disk_state d)
fitted_of d is entries written =
    let long = length-calls d.entries.items d.written.items in
    record {
      used = omega (arith, written, written_is (length d.bytes.items) d.entries.items d.written.items is.logged);
      within = omega (arith, is.live, long);
      going = λ on. (omega (arith, is.all on, long), omega (arith, (is.fits on).0, entries, long), (is.fits on).1);
      stopped = is.fitted;
    }

-- ---- the last one

abbrev first_answer : List DiskCall → DiskAnswer
first_answer [] = Done
first_answer (call ∷ calls) = call.answer

abbrev behind_first : List DiskCall → List DiskCall
behind_first [] = []
behind_first (call ∷ calls) = calls

pub answer_last : (entries : List LoggedCall) (written : List ℕ) (front : List DiskCall) (call : DiskCall) (d : LoggedCall) →
    calls_of entries written ≡ front ++ call ∷ [] → (get_or entries (length entries - 1) d).answer ≡ call.answer
answer_last [] written front call d is =
    let none = ap length is in let one = length-append front (call ∷ []) in absurd (omega (arith, none, one))
answer_last (entry ∷ []) written [] call d is = ap first_answer is
answer_last (entry ∷ []) written (other ∷ front) call d is =
    let none = ap length is in let one = length-append front (call ∷ []) in absurd (omega (arith, none, one))
answer_last (entry ∷ next ∷ entries) written [] call d is =
    let more = ap length is in absurd (omega (arith, more))
answer_last (entry ∷ next ∷ entries) written (other ∷ front) call d is =
    let place : length (entry ∷ next ∷ entries) - 1 ≡ suc (length (next ∷ entries) - 1) = omega arith in
    ap (λ (k : ℕ). (get_or (entry ∷ next ∷ entries) k d).answer) place
    ∙ answer_last (next ∷ entries) _ front call d (ap behind_first is)
