-- That an end goes on with its power, and that a start over what its disk was left with finds what the bytes say.
use Rattle.std.proofs.Common.{◌≡◌, refl, sym, ap, subst, ◌∙◌, false, ℕ, List, [], Option, Some, None, length}
use Rattle.std.specs.Prelude.{Ok, Err}
use Rattle.disk_base.specs.Cut.{image_of, settled_before, settled_if}
use Rattle.disk_base.specs.MemDisk.{DiskState, HasFitted, after_cut}
use Rattle.disk_base.specs.declared.cut.CutChoice.{CutChoice}
use Rattle.disk_base.proofs.Marks.{AreIn, image_is}
use Rattle.disk_base.proofs.Moments.{only_now}
use Rattle.message_flow.specs.declared.step.StepOut.{StepOut}
use Rattle.spool_file.specs.File.{SpoolFile, file_in}
use Rattle.trace_log.specs.Log.{Happening}
use Rattle.message_end.specs.declared.end.Stop.{Stop}
use Rattle.message_end.specs.declared.end.Stop.TheVariants as stop
use Rattle.message_end.specs.Core.{Went}
use Rattle.message_end.specs.Ends.{IsNotStopped, Leaves, Starts, reach_behind}
use Rattle.filed_end.specs.Form.{Form, HasPower, Stands, disk_reach, with_stop}
use Rattle.filed_end.specs.InMemory.{IsLost, IsStartable, IsWhole, StartsAnew, anew_over, disk_of, file_cut}
use Rattle.filed_end.specs.InMemory.{starts_over, state_in}

-- where another call is planned, what is listed has found room still
pub fitted-armed : (disk : DiskState) (call : ℕ) → HasFitted disk → HasFitted (with_stop call disk)
fitted-armed disk call is = record {
  used = is.used;
  within = is.within;
  going = λ on. is.going on;
  stopped = λ stopped. is.stopped stopped;
}

-- of a lost disk, whatever is chosen
pub cut-startable : (MayHold : SpoolFile → Type 0) (lost : DiskState) → IsLost MayHold lost → (choice : CutChoice)
    → IsStartable MayHold (after_cut choice lost)
cut-startable MayHold lost is choice = record {
  may = is.may choice;
  unasked = refl;
  bounded = is.bounded;
  sure = record { fails_not = refl; stops_not = refl; going = refl };
}

module _ {N P S C : Type 0} (form : Form N P S C) (CanStep : N → Type 0) (MayHold : SpoolFile → Type 0) where
  pub armed-power : (plan : P) (h k : N) (call : ℕ) → HasPower form CanStep plan h → CanStep k
      → form.disk k ≡ with_stop call (form.disk h) → form.view k ≡ form.view h → HasPower form CanStep plan k
  armed-power plan h k call is can disk_is view_is = record {
    can_step = can;
    fails_not = ap (λ (d : DiskState). d.plan.fail_in) disk_is ∙ is.fails_not;
    going = ap (λ (d : DiskState). d.plan.stopped) disk_is ∙ is.going;
    bounded =
        (ap (λ (d : DiskState). d.most) disk_is ∙ is.bounded.0, ap (λ (d : DiskState). d.room) disk_is ∙ is.bounded.1);
    fitted = subst HasFitted (sym disk_is) (fitted-armed (form.disk h) call is.fitted);
    plan_is = ap form.plan view_is ∙ is.plan_is;
  }

  pub power-in :
      (plan : P) (going : Option N) (lost : Option DiskState) (h : N) → going ≡ Some h
      → IsWhole form CanStep MayHold plan going lost → HasPower form CanStep plan h × (lost ≡ None)
  power-in plan going lost h same is =
      go lost (subst (λ (o : Option N). IsWhole form CanStep MayHold plan o lost) same is)
    where
      go : (lost : Option DiskState) → IsWhole form CanStep MayHold plan (Some h) lost
          → HasPower form CanStep plan h × (lost ≡ None)
      go None is = (is, refl)
      go (Some lost) is = absurd is

  -- ---- a start anew

  -- it doesn't go on
  pub not-anew :
      (plan : P) (went : Went S Happening) (going : Option N) → going ≡ None → (out : StepOut) (why : Stop)
      → Starts {E = N} form.machine.start_stops went form.view out (Err why)
      → IsNotStopped {R = N} (Err why) → (unmet : ℕ)
      → StartsAnew form CanStep MayHold plan went going unmet out (Err why)
  not-anew plan went going gone out why starts whole unmet = record {
    start = leaves why starts;
    whole = stays why whole;
    reach = tt;
    sound = subst (λ (o : Option N). IsWhole form CanStep MayHold plan o None) (sym gone) tt;
  }
    where
      leaves : (why : Stop) → Starts {E = N} form.machine.start_stops went form.view out (Err why)
          → Leaves form.machine.start_stops false went (state_in form plan going) out (Err why)
      leaves stop.NoMemory starts = starts
      leaves stop.DiskFailed starts = starts
      leaves stop.NumbersSpent starts = (starts, refl)
      leaves stop.Full starts = absurd starts

      stays : (why : Stop) → IsNotStopped {R = N} (Err why) → IsNotStopped {R = Unit {0}} (Err why)
      stays stop.NoMemory whole = whole
      stays stop.DiskFailed whole = whole
      stays stop.NumbersSpent whole = whole
      stays stop.Full whole = whole

  -- nor does it where memory is wanting
  pub never-anew :
      (plan : P) (went : Went S Happening) (going : Option N) → going ≡ None → (out : StepOut) → out.line.items ≡ []
      → (unmet : ℕ) → StartsAnew form CanStep MayHold plan went going unmet out (Err stop.NoMemory)
  never-anew plan went going gone out quiet unmet =
      not-anew plan went going gone out stop.NoMemory quiet tt unmet

  pub anew-on :
      (plan : P) (disk : DiskState) (h : N) (unmet : ℕ) (out : StepOut)
      → Starts form.machine.start_stops (starts_over form plan disk) form.view out (Ok h)
      → HasPower form CanStep plan h → disk_reach (form.disk h) ≡ reach_behind (form.machine.anew_use (form.view h))
      → StartsAnew form CanStep MayHold plan (starts_over form plan disk) (Some h) unmet out (Ok tt)
  anew-on plan disk h unmet out starts power reach =
      record { start = starts; whole = tt; reach = reach; sound = power }

  -- ---- what a disk is left with

  module _ (restarts : (s : S) (now : ℕ) → form.machine.restart s now ≡ form.starts (form.plan s) (form.file s))
      (stands : (h : N) → CanStep h → Stands form MayHold h)
    where
      -- a disk that nothing is asked of keeps its bytes
      module _ (plan : P) (h : N) (is : HasPower form CanStep plan h) where
        same-image : (choice : CutChoice) → image_of choice (form.disk h).story ≡ (form.disk h).story.now.bytes
        same-image choice =
            let story = (form.disk h).story in
            let settled = (stands h is.can_step).ends.settled in
            only_now story.now (image_of choice story) settled
            (image_is choice story (subst (AreIn (length story.now.bytes)) (sym settled) tt)
            (ap (λ (loose : List (ℕ × ℕ)). length (settled_if loose story.now.bytes (settled_before story.past)))
            settled))

        same-cut : (choice : CutChoice) → file_cut (form.disk h) choice ≡ form.file (form.view h)
        same-cut choice = ap file_in (same-image choice) ∙ sym (stands h is.can_step).ends.stands.is

        power-lost : IsLost MayHold (form.disk h)
        power-lost = record {
          may = λ choice. subst MayHold (sym (same-cut choice)) (stands h is.can_step).may;
          bounded = is.bounded;
        }

        power-anew : (choice : CutChoice) (now : ℕ)
            → starts_over form plan (after_cut choice (form.disk h)) ≡ anew_over form plan (Some h) None choice now
        power-anew choice now =
            ap (λ (file : SpoolFile). form.starts plan file) (same-cut choice)
            ∙ ap (λ (p : P). form.starts p (form.file (form.view h))) (sym is.plan_is)
            ∙ sym (restarts (form.view h) now)

      -- whichever disk there is, a start anew finds what it is left with
      module _ (plan : P) (disk : DiskState) (choice : CutChoice) (now : ℕ) where
        -- it is lost then, and a start over what it is left with is the start anew
        abbrev IsAnew : DiskState → Option N → Option DiskState → Type 0
        IsAnew d going lost =
            IsLost MayHold d
            × (starts_over form plan (after_cut choice d) ≡ anew_over form plan going lost choice now)

        pub anew-of :
            (going : Option N) (lost : Option DiskState) → IsWhole form CanStep MayHold plan going lost
            → disk_of form lost going ≡ Some disk → IsAnew disk going lost
        anew-of None (Some lost) is same =
            subst (λ (d : DiskState). IsAnew d None (Some lost)) (let one : lost ≡ disk = cc in one) (is, refl)
        anew-of (Some h) (Some lost) is same = absurd is
        anew-of (Some h) None is same =
            subst (λ (d : DiskState). IsAnew d (Some h) None) (let one : form.disk h ≡ disk = cc in one)
            (power-lost plan h is, power-anew plan h is choice now)
        anew-of None None is same = absurd (cc)

        -- by what was taken out of it
        pub is-anew :
            (going going_taken : Option N) (lost lost_taken found : Option DiskState)
            → found ≡ disk_of form lost_taken going_taken → lost_taken ≡ lost → going_taken ≡ going
            → found ≡ Some disk → IsWhole form CanStep MayHold plan going lost → IsAnew disk going lost
        is-anew going going_taken lost lost_taken found found_is lost_is going_is some is =
            anew-of going lost is
            (sym (found_is ∙ ap (λ (o : Option DiskState). disk_of form o going_taken) lost_is
            ∙ ap (λ (o : Option N). disk_of form lost o) going_is) ∙ some)
