-- Rows of disk calls that are carried out: one call, and one row behind another.
use Rattle.std.proofs.Common.{◌≡◌, inl, inr, ⊎_elim, ℕ, ◌+◌, ◌<◌, ◌≤◌, List, [], ◌∷◌, ◌++◌, append_assoc, length}
use Rattle.std.proofs.Common.{length-append, Option, Some, None, ◌∙◌, refl, sym, ap, subst, arith}
use Rattle.std.proofs.lemmas.List.{append_cancel_left}
use Rattle.std.proofs.lemmas.List.Sums.{fold-append}
use Rattle.std.specs.Option.{option_map}
use Rattle.disk_base.specs.Calls.{DiskCall, Logs, read_call, sync_call, with_call, write_call}
use Rattle.disk_base.specs.Disk.{Syncs, Writes}
use Rattle.disk_base.specs.Faults.{DiskFault, DiskHealth, GoesAsListed, HasCause, IsLeftOut}
use Rattle.disk_base.specs.Listed.{AsListed, next_story}
use Rattle.disk_base.specs.SameDisk.{IsSameDisk}
use Rattle.disk_base.specs.Story.{Story, with_write}
use Rattle.disk_base.specs.declared.disk.Disk as disk
use Rattle.disk_base.specs.declared.disk.DiskAnswer.{DiskAnswer}
use Rattle.disk_base.specs.declared.disk.DiskAnswer.TheVariants.{Done, Failed}
use Rattle.disk_base.proofs.Listings.{listed_behind}
use Rattle.disk_base.proofs.Stretches.{fault_wider, lists_on, none_planned, planned_before, planned_behind}
use Rattle.disk_base.proofs.Stretches.{planned_or_left_out, same_then}
use Rattle.spool_file.specs.Logs.{LogsAll, answered, calls_below, written_by}
use Rattle.spool_file.proofs.Making.{makes_as, makes_before, makes_none, makes_then, written_both}
use Rattle.spool_file.proofs.Stretches.{calls_first, calls_on, nothing_more}
use Rattle.spool_slots.specs.Calls.{synced}
use Rattle.spool_slots.specs.Carried.{CarriesOut, FailsBy, IsStopped, story_behind}
use Rattle.spool_slots.specs.Changes.{HasMade}
use Rattle.spool_slots.specs.Losses.{IsSure}
use Rattle.spool_slots.proofs.Lost.{sure_behind}

pub same_told : (told : Option Story) → option_map (λ (s : Story). s) told ≡ told
same_told None = refl
same_told (Some s) = refl

both_told : (xs ys : List DiskCall) (told : Option Story) →
    option_map (story_behind ys) (option_map (story_behind xs) told) ≡ option_map (story_behind (xs ++ ys)) told
both_told xs ys None = refl
both_told xs ys (Some s) = ap Some (sym (fold-append next_story s xs ys))

-- a call that failed, behind some and then more
abbrev failed_behind : List DiskCall → DiskCall → Story → Story
failed_behind before call s = next_story (story_behind before s) (answered call Failed)

both_failed : (xs ys : List DiskCall) (call : DiskCall) (told : Option Story) →
    option_map (failed_behind ys call) (option_map (story_behind xs) told)
    ≡ option_map (failed_behind (xs ++ ys) call) told
both_failed xs ys call None = refl
both_failed xs ys call (Some s) =
    ap (λ (u : Story). Some (next_story u (answered call Failed))) (sym (fold-append next_story s xs ys))

pub sure_less : (a c : DiskHealth) (calls n all both : ℕ) → calls ≤ all → n ≤ both → IsSure a c all both →
    IsSure a c calls n
sure_less a c calls n all both few short sure = record {
  going = sure.going;
  listed = λ made m before less. sure.listed made m (omega (arith, few, before)) (omega (arith, short, less));
}

-- one call in the list, with its answer
abbrev LogsOne : DiskCall → DiskHealth → DiskHealth → (before after : Option (List DiskCall)) → DiskAnswer → Type 0
LogsOne call a c before after Done = after ≡ with_call call before
LogsOne call a c before after Failed =
    Logs (answered call) (IsLeftOut a c 0 (length call.bytes)) before after Failed

logged : (call : DiskCall) (a c : DiskHealth) (before after : Option (List DiskCall)) (answer : DiskAnswer) →
    LogsOne call a c before after answer → LogsAll (call ∷ []) (IsLeftOut a c) before after answer
logged call a c before after Done logs = logs
logged call a c before after Failed logs = inl logs

no_room : (a c : DiskHealth) → DiskFault a c 1 ⊥ → DiskFault a c 1 (a.room < 0)
no_room a c fault = fault_wider a c 1 1 ⊥ (a.room < 0) (omega arith) (λ none. absurd none) fault

abbrev calls_or : List DiskCall → Option (List DiskCall) → List DiskCall
calls_or other None = other
calls_or other (Some calls) = calls

module _ {D : Type 0} (members : disk.Ghosts D) where
  -- ---- one row behind another

  module _ (a b c : D) (xs ys : List DiskCall) where
    pub made_then : (answer : DiskAnswer) → HasMade members a b xs Done → HasMade members b c ys answer →
        HasMade members a c (xs ++ ys) answer
    made_then answer one two = record {
      size = two.size ∙ one.size;
      calls = makes_then (members.health a) (members.health b) (members.health c) (members.calls a) (members.calls b)
          (members.calls c) xs ys answer one.calls two.calls;
      listed = λ going. listed_behind (one.listed going)
          (two.listed (lists_on (members.health a) (members.health b) (length xs) (written_by xs) one.calls.cause going));
      same_disk = same_then one.same_disk two.same_disk;
    }

    stopped_then : CarriesOut members a b xs Done → IsStopped members b c ys → IsStopped members a c (xs ++ ys)
    stopped_then one two =
        let used = one.made.calls.cause in
        let long = length-append xs two.before in
        let all = length-append xs ys in
        let wrote = written_both xs ys in
        let behind = sure_behind (members.health a) (members.health b) (members.health c) (length xs) (written_by xs) used
        (length ys) (written_by ys) (length (xs ++ ys)) (written_by (xs ++ ys)) (omega (arith, all)) (omega (arith, wrote)) in
        record {
          before = xs ++ two.before;
          call = two.call;
          rest = two.rest;
          split = ap (λ (calls : List DiskCall). xs ++ calls) two.split
              ∙ sym (append_assoc xs two.before (two.call ∷ two.rest));
          unplanned = λ planned. two.unplanned
              (planned_behind (members.health a) (members.health b) (length xs) (written_by xs) used (length two.before)
              (length (xs ++ two.before)) (sym long) planned);
          told = subst (λ (o : Option Story). FailsBy two.call.kind two.call.at two.call.bytes o (members.told c))
              (ap (λ (o : Option Story). option_map (story_behind two.before) o) one.goes
              ∙ both_told xs two.before (members.told a)) two.told;
          planned = λ sure.
              planned_before (members.health a) (members.health b) (length xs) (written_by xs) used (length two.before + 1)
              (length (xs ++ two.before) + 1) (omega (arith, long)) (two.planned (behind sure));
          listed = λ sure. two.listed (behind sure)
              ∙ ap (λ (o : Option Story). option_map (failed_behind two.before two.call) o) one.goes
              ∙ both_failed xs two.before two.call (members.told a);
        }

    pub carries_then : (answer : DiskAnswer) → CarriesOut members a b xs Done → CarriesOut members b c ys answer →
        CarriesOut members a c (xs ++ ys) answer
    carries_then Done one two = record {
      made = made_then Done one.made two.made;
      goes = two.goes ∙ ap (λ (o : Option Story). option_map (story_behind ys) o) one.goes
          ∙ both_told xs ys (members.told a);
    }
    carries_then Failed one two =
        record { made = made_then Failed one.made two.made; goes = stopped_then one two.goes }

  -- one of a row, whatever was to come behind it
  module _ (a c : D) (xs ys : List DiskCall) where
    pub made_before : HasMade members a c xs Failed → HasMade members a c (xs ++ ys) Failed
    made_before one = record {
      size = one.size;
      calls = makes_before (members.health a) (members.health c) (members.calls a) (members.calls c) xs ys one.calls;
      listed = one.listed;
      same_disk = one.same_disk;
    }

    pub carries_before : CarriesOut members a c xs Failed → CarriesOut members a c (xs ++ ys) Failed
    carries_before one =
        let is = one.goes in
        let all = length-append xs ys in
        let wrote = written_both xs ys in
        let less = sure_less (members.health a) (members.health c) (length xs) (written_by xs) (length (xs ++ ys))
        (written_by (xs ++ ys)) (omega (arith, all)) (omega (arith, wrote)) in
        record {
          made = made_before one.made;
          goes = record {
            before = is.before;
            call = is.call;
            rest = is.rest ++ ys;
            split = ap (λ (calls : List DiskCall). calls ++ ys) is.split
                ∙ append_assoc is.before (is.call ∷ is.rest) ys;
            unplanned = is.unplanned;
            told = is.told;
            planned = λ sure. is.planned (less sure);
            listed = λ sure. is.listed (less sure);
          };
        }

  -- no call at all
  pub carries_none : (a : D) → CarriesOut members a a [] Done
  carries_none a = record {
    made = record {
      size = refl;
      calls = makes_none (members.health a) (members.calls a);
      listed = λ going. record {
        more = [];
        calls = nothing_more (members.calls a);
        told = sym (same_told (members.told a));
      };
      same_disk = (refl, refl, refl);
    };
    goes = sym (same_told (members.told a));
  }

  -- ---- one call

  module _ (a c : D) (call : DiskCall) (made : HasMade members a c (call ∷ []) Failed) where
    stopped_one : FailsBy call.kind call.at call.bytes (members.told a) (members.told c) →
        (IsSure (members.health a) (members.health c) (length (call ∷ [])) (written_by (call ∷ [])) →
        members.told c ≡ option_map (λ s. next_story s (answered call Failed)) (members.told a)) →
        CarriesOut members a c (call ∷ []) Failed
    stopped_one fails listed =
        let fault = made.calls.cause in
        record {
          made = made;
          goes = record {
            before = [];
            call = call;
            rest = [];
            split = refl;
            unplanned = none_planned (members.health a);
            told = subst (λ (o : Option Story). FailsBy call.kind call.at call.bytes o (members.told c))
                (sym (same_told (members.told a))) fails;
            planned = λ sure. ⊎_elim (λ is. is)
                (λ out. absurd (sure.listed fault.made (written_by (call ∷ [])) fault.few (omega arith) out))
                (planned_or_left_out (members.health a) (members.health c) (length (call ∷ [])) (written_by (call ∷ []))
                sure.going.on fault);
            listed = listed;
          };
        }

  module _ (a c : D) (size : members.size_is c ≡ members.size_is a)
      (listed : GoesAsListed (members.health a) →
      AsListed (members.told a) (members.calls a) (members.told c) (members.calls c))
      (same : IsSameDisk members a c) where
    made_one : (call : DiskCall) (answer : DiskAnswer) →
        HasCause (members.health a) (members.health c) 1 (length call.bytes)
        ((members.health a).room < length call.bytes) answer →
        LogsOne call (members.health a) (members.health c) (members.calls a) (members.calls c) answer →
        HasMade members a c (call ∷ []) answer
    made_one call answer cause logs = record {
      size = size;
      calls = makes_as (members.health a) (members.health c) (members.calls a) (members.calls c) (call ∷ []) answer 1
          (length call.bytes) refl (omega arith) cause
          (logged call (members.health a) (members.health c) (members.calls a) (members.calls c) answer logs);
      listed = listed;
      same_disk = same;
    }

    pub carries_read : (at long : ℕ) (answer : DiskAnswer) → members.told c ≡ members.told a →
        HasCause (members.health a) (members.health c) 1 0 ⊥ answer →
        Logs (read_call at long) (IsLeftOut (members.health a) (members.health c) 0 0) (members.calls a) (members.calls c)
        answer → CarriesOut members a c (read_call at long Done ∷ []) answer
    carries_read at long Done told cause logs = record {
      made = made_one (read_call at long Done) Done cause logs;
      goes = told ∙ sym (same_told (members.told a));
    }
    carries_read at long Failed told cause logs =
        stopped_one a c (read_call at long Done)
        (made_one (read_call at long Done) Failed (no_room (members.health a) (members.health c) cause) logs) told
        (λ sure. told ∙ sym (same_told (members.told a)))

    pub carries_sync : (answer : DiskAnswer) → Syncs (members.told a) (members.told c) answer →
        HasCause (members.health a) (members.health c) 1 0 ⊥ answer →
        Logs sync_call (IsLeftOut (members.health a) (members.health c) 0 0) (members.calls a) (members.calls c) answer →
        CarriesOut members a c (sync_call Done ∷ []) answer
    carries_sync Done told cause logs = record { made = made_one (sync_call Done) Done cause logs; goes = told }
    carries_sync Failed told cause logs =
        stopped_one a c (sync_call Done)
        (made_one (sync_call Done) Failed (no_room (members.health a) (members.health c) cause) logs) told
        (λ sure. told ∙ sym (same_told (members.told a)))

    module _ (called : (s : Story) → members.told a ≡ Some s → (all : List DiskCall) × (members.calls a ≡ Some all))
        (at : ℕ) (bytes : List ℕ) where
      -- one that is in the list has written its bytes, also where it failed
      by_told : (told : Option Story) → told ≡ members.told a →
          members.calls c ≡ with_call (write_call at bytes Failed) (members.calls a) →
          AsListed (members.told a) (members.calls a) (members.told c) (members.calls c) →
          members.told c ≡ option_map (with_write at bytes) told
      by_told None is logs as_listed =
          as_listed.told ∙ ap (λ (o : Option Story). option_map (story_behind as_listed.more) o) (sym is)
      by_told (Some s) is logs as_listed =
          let all = called s (sym is) in
          let more : as_listed.more ≡ write_call at bytes Failed ∷ [] =
          append_cancel_left all.0 as_listed.more (write_call at bytes Failed ∷ [])
          (ap (calls_or all.0) (
          sym (ap (λ (o : Option (List DiskCall)). option_map (λ (k : List DiskCall). k ++ as_listed.more) o) all.1)
          ∙ sym as_listed.calls ∙ logs
          ∙ ap (with_call (write_call at bytes Failed)) all.1)) in
          as_listed.told ∙ ap (λ (o : Option Story). option_map (story_behind as_listed.more) o) (sym is)
          ∙ ap (λ (calls : List DiskCall). Some (story_behind calls s)) more

      written : Logs (write_call at bytes) (IsLeftOut (members.health a) (members.health c) 0 (length bytes))
          (members.calls a) (members.calls c) Failed →
          IsSure (members.health a) (members.health c) (length (write_call at bytes Done ∷ []))
          (written_by (write_call at bytes Done ∷ [])) →
          members.told c ≡ option_map (with_write at bytes) (members.told a)
      written (inl left) sure = absurd (sure.listed 0 (length bytes) (omega arith) (omega arith) left.0)
      written (inr logs) sure = by_told (members.told a) refl logs (listed sure.going)

      pub carries_write : (answer : DiskAnswer) → Writes (members.told a) at bytes (members.told c) answer →
          HasCause (members.health a) (members.health c) 1 (length bytes) ((members.health a).room < length bytes) answer →
          Logs (write_call at bytes) (IsLeftOut (members.health a) (members.health c) 0 (length bytes)) (members.calls a)
          (members.calls c) answer → CarriesOut members a c (write_call at bytes Done ∷ []) answer
      carries_write Done told cause logs =
          record { made = made_one (write_call at bytes Done) Done cause logs; goes = told }
      carries_write Failed told cause logs =
          stopped_one a c (write_call at bytes Done) (made_one (write_call at bytes Done) Failed cause logs) told
          (written logs)

  -- ---- the calls of some steps in a row

  module _ (calls : ℕ → List DiskCall) where
    pub one_more_row : (a b c : D) (n : ℕ) (answer : DiskAnswer) → CarriesOut members a b (calls_below calls n) Done →
        CarriesOut members b c (calls n) answer → CarriesOut members a c (calls_below calls (n + 1)) answer
    one_more_row a b c n answer first second =
        subst (λ (row : List DiskCall). CarriesOut members a c row answer) (sym (calls_on calls n))
        (carries_then a b c (calls_below calls n) (calls n) answer first second)

    pub some_rows : (a b c : D) (n all : ℕ) → n < all → CarriesOut members a b (calls_below calls n) Done →
        CarriesOut members b c (calls n) Failed → CarriesOut members a c (calls_below calls all) Failed
    some_rows a b c n all below first second =
        let rest = calls_first calls n all below in
        subst (λ (row : List DiskCall). CarriesOut members a c row Failed) (sym rest.1)
        (carries_before a c (calls_below calls n ++ calls n) rest.0
        (carries_then a b c (calls_below calls n) (calls n) Failed first second))

    pub rows_to : (a c : D) (n all : ℕ) → n ≡ all → CarriesOut members a c (calls_below calls n) Done →
        CarriesOut members a c (calls_below calls all) Done
    rows_to a c n all same is = subst (λ i. CarriesOut members a c (calls_below calls i) Done) same is

  -- ---- a sync behind some calls, where there are any

  pub synced_failed : (a c : D) (xs : List DiskCall) → CarriesOut members a c xs Failed →
      CarriesOut members a c (synced xs) Failed
  synced_failed a c [] one =
      let stop = one.goes in
      let all = ap (length {A = DiskCall}) stop.split in
      let long = length-append stop.before (stop.call ∷ stop.rest) in
      absurd (omega (arith, all, long))
  synced_failed a c (x ∷ xs) one = carries_before a c (x ∷ xs) (sync_call Done ∷ []) one

  pub synced_some : (a b c : D) (xs : List DiskCall) (answer : DiskAnswer) → (xs ≡ [] → ⊥) →
      CarriesOut members a b xs Done → CarriesOut members b c (sync_call Done ∷ []) answer →
      CarriesOut members a c (synced xs) answer
  synced_some a b c [] answer some one two = absurd (some refl)
  synced_some a b c (x ∷ xs) answer some one two =
      carries_then a b c (x ∷ xs) (sync_call Done ∷ []) answer one two

  pub synced_none : (a c : D) (xs : List DiskCall) → xs ≡ [] → CarriesOut members a c xs Done →
      CarriesOut members a c (synced xs) Done
  synced_none a c xs none one =
      subst (λ (row : List DiskCall). CarriesOut members a c row Done) (none ∙ sym (ap synced none)) one

  -- a write, said otherwise
  pub write_as : (a c : D) (at place : ℕ) (bytes part : List ℕ) (answer : DiskAnswer) → at ≡ place → bytes ≡ part →
      CarriesOut members a c (write_call at bytes Done ∷ []) answer →
      CarriesOut members a c (write_call place part Done ∷ []) answer
  write_as a c at place bytes part answer here same one =
      subst (λ (b : List ℕ). CarriesOut members a c (write_call place b Done ∷ []) answer) same
      (subst (λ (p : ℕ). CarriesOut members a c (write_call p bytes Done ∷ []) answer) here one)
