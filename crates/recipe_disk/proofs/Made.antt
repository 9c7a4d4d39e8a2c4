-- What one call of a disk, and calls behind others, come to.
use Rattle.std.proofs.Common.{◌≡◌, refl, subst, ◌∙◌, ℕ, inl, inr, Bool, true, false, List, Option}
use Rattle.disk_base.specs.Calls.{DiskCall, Logs, read_call, sync_call, write_call}
use Rattle.disk_base.specs.Faults.{DiskHealth, HasCause, IsLeftOut}
use Rattle.disk_base.specs.SameDisk.{IsSameDisk}
use Rattle.disk_base.specs.Settle.{LogsBoth}
use Rattle.disk_base.specs.declared.disk.Disk as disk
use Rattle.disk_base.specs.declared.disk.DiskAnswer.{DiskAnswer}
use Rattle.disk_base.specs.declared.disk.DiskAnswer.TheVariants.{Done, Failed}
use Rattle.disk_base.proofs.Stretches.{same_then}
use Rattle.gem_recipes.specs.Keeper.{HasKeeperCause}
use Rattle.gl_base.specs.Faults.{Rose}
use Rattle.spool_file.specs.Added.{OnlyAdds}
use Rattle.spool_file.proofs.Added.{adds_as, adds_behind, adds_done, adds_failed, adds_none}
use Rattle.spool_slots.specs.Changes.{HasSettled}
use Rattle.recipe_disk.specs.Reading.{HasLooked, HasMade, IsReadCall, disk_failed}

pub cause_of : (a b : DiskHealth) (n x : ℕ) (L : Type 0) (answer : DiskAnswer) → HasCause a b n x L answer → HasKeeperCause (disk_failed answer) a.faults b.faults
cause_of a b n x L Done is = is.same
cause_of a b n x L Failed is = record { by_one = is.rose.by_one; later = is.rose.later }

cause_behind : (failed : Bool) (a b c : ℕ) → b ≡ a → HasKeeperCause failed b c → HasKeeperCause failed a c
cause_behind false a b c same is = is ∙ same
cause_behind true a b c same is = subst (λ n. Rose n c) same is

module _ {D : Type 0} (members : disk.Ghosts D) where
  pub made_none : (Is : DiskCall → Type 0) (a : D) → HasMade Is members a a Done
  made_none Is a = record { size = refl; calls = adds_none Is _; cause = refl; same_disk = (refl, refl, refl) }

  pub made_behind : (Is : DiskCall → Type 0) (a b c : D) (answer : DiskAnswer) → HasMade Is members a b Done → HasMade Is members b c answer → HasMade Is members a c answer
  made_behind Is a b c answer first second = record {
    size = second.size ∙ first.size;
    calls = adds_behind Is first.calls second.calls;
    cause = cause_behind (disk_failed answer) _ _ _ first.cause second.cause;
    same_disk = same_then first.same_disk second.same_disk;
  }

  -- calls that are such ones are others, too
  pub made_as : (Is Other : DiskCall → Type 0) (a b : D) (answer : DiskAnswer) → ((call : DiskCall) → Is call → Other call) → HasMade Is members a b answer →
      HasMade Other members a b answer
  made_as Is Other a b answer into made = record {
    size = made.size;
    calls = adds_as Is Other into made.calls;
    cause = made.cause;
    same_disk = made.same_disk;
  }

  calls_of : (Is : DiskCall → Type 0) (call : DiskAnswer → DiskCall) (LeftOut : Type 0) (before after : Option (List DiskCall)) (answer : DiskAnswer) →
      ((answer : DiskAnswer) → Is (call answer)) → Logs call LeftOut before after answer → OnlyAdds Is before after
  calls_of Is call LeftOut before after Done is logs = adds_done Is (call Done) (is Done) logs
  calls_of Is call LeftOut before after Failed is logs = adds_failed Is (call Failed) (is Failed) logs

  -- one call
  pub made_one : (Is : DiskCall → Type 0) (call : DiskAnswer → DiskCall) (x : ℕ) (L : Type 0) (a b : D) (answer : DiskAnswer) →
      ((answer : DiskAnswer) → Is (call answer)) → members.size_is b ≡ members.size_is a →
      Logs call (IsLeftOut (members.health a) (members.health b) 0 x) (members.calls a) (members.calls b) answer →
      HasCause (members.health a) (members.health b) 1 x L answer → IsSameDisk members a b → HasMade Is members a b answer
  made_one Is call x L a b answer is size logs cause same = record {
    size = size;
    calls = calls_of Is call (IsLeftOut (members.health a) (members.health b) 0 x) (members.calls a) (members.calls b) answer is logs;
    cause = cause_of (members.health a) (members.health b) 1 x L answer cause;
    same_disk = same;
  }

  -- a read
  pub looked_one : (at size : ℕ) (a b : D) (answer : DiskAnswer) → members.told b ≡ members.told a → members.size_is b ≡ members.size_is a →
      Logs (read_call at size) (IsLeftOut (members.health a) (members.health b) 0 0) (members.calls a) (members.calls b) answer →
      HasCause (members.health a) (members.health b) 1 0 ⊥ answer → IsSameDisk members a b → HasLooked members a b answer
  looked_one at size a b answer told same_size logs cause same = record {
    told = told;
    made = made_one IsReadCall (read_call at size) 0 ⊥ a b answer (λ _. refl) same_size logs cause same;
  }

  pub looked_none : (a : D) → HasLooked members a a Done
  looked_none a = record { told = refl; made = made_none IsReadCall a }

  pub looked_behind : (a b c : D) (answer : DiskAnswer) → HasLooked members a b Done → HasLooked members b c answer → HasLooked members a c answer
  looked_behind a b c answer first second = record {
    told = second.told ∙ first.told;
    made = made_behind IsReadCall a b c answer first.made second.made;
  }

  -- a write with its sync
  settled_calls : (Is : DiskCall → Type 0) (at : ℕ) (bytes : List ℕ) (LeftOut : ℕ → ℕ → Type 0) (before after : Option (List DiskCall)) (answer : DiskAnswer) →
      ((answer : DiskAnswer) → Is (write_call at bytes answer)) → ((answer : DiskAnswer) → Is (sync_call answer)) →
      LogsBoth at bytes LeftOut before after answer → OnlyAdds Is before after
  settled_calls Is at bytes LeftOut before after Done writes syncs logs =
      adds_behind Is (adds_done Is (write_call at bytes Done) (writes Done) refl) (adds_done Is (sync_call Done) (syncs Done) logs)
  settled_calls Is at bytes LeftOut before after Failed writes syncs (inl logs) = adds_failed Is (write_call at bytes Failed) (writes Failed) logs
  settled_calls Is at bytes LeftOut before after Failed writes syncs (inr logs) =
      adds_behind Is (adds_done Is (write_call at bytes Done) (writes Done) refl) (adds_failed Is (sync_call Failed) (syncs Failed) logs)

  pub made_settled : (Is : DiskCall → Type 0) (at : ℕ) (bytes : List ℕ) (a b : D) (answer : DiskAnswer) →
      ((answer : DiskAnswer) → Is (write_call at bytes answer)) → ((answer : DiskAnswer) → Is (sync_call answer)) →
      HasSettled members a b at bytes answer → HasMade Is members a b answer
  made_settled Is at bytes a b answer writes syncs settled = record {
    size = settled.size;
    calls = settled_calls Is at bytes (IsLeftOut (members.health a) (members.health b)) (members.calls a) (members.calls b) answer writes syncs settled.calls;
    cause = cause_of (members.health a) (members.health b) 2 _ _ answer settled.cause;
    same_disk = settled.same_disk;
  }
