-- That the list which is kept tells the setup that holds.
use Rattle.std.proofs.Common.{◌≡◌, refl, sym, ◌∙◌, ap, subst, inl, inr, Bool, true, false, cond, List, [], ◌∷◌, ◌++◌, Option, Some, None}
use Rattle.std.proofs.lemmas.List.{append-nil, append_assoc}
use Rattle.std.proofs.lemmas.List.Sums.{fold-append}
use Rattle.std.specs.Option.{option_map_or, unwrap_or}
use Rattle.gem_reports.specs.Laws.{ReportsGoByWhatStands}
use Rattle.message_flow.specs.declared.message.Message.{Message}
use Rattle.setup_store.specs.declared.change.Change.{Change as SetupChange}
use Rattle.setup_store.specs.Entries.{Entry}
use Rattle.setup_store.specs.Kept.{change_by, kept}
use Rattle.trace_log.specs.Log.{Happening, Past}
use Rattle.trace_log.specs.Log.Past.{Asked, Commanded}
use Rattle.equipment_tables.specs.declared.plan.EquipmentPlan.{EquipmentPlan}
use Rattle.equipment_tables.specs.Past.{Entries as Counted, entries_at, entry_counts, tables_by}
use Rattle.equipment_tables.specs.Requests.{request_of}
use Rattle.equipment_tables.specs.Setup.{KeptTellsTheSame, accepts, accepts_primary, asked_of, carried_out, kept_behind, primary_of, setup_of}
use Rattle.equipment_tables.proofs.CountedChanges.{accepted_is, asked_counted, carried, counted_by, refused, run}
use Rattle.setup_law.specs.Setup.{Change, Due, IsNext, IsSetup, IsStart, KeepsSetup, MayChange, change_of, due_behind, due_behind_request, due_in, is_accepted, list_behind, list_by, list_in, past_in, with_kept}
use Rattle.setup_law.specs.Setup.Change.{Counts, Finds, HasKept, Keeps, Other, Refuses, Starts}
use Rattle.setup_law.specs.Setup.Due.{AKeep, AStart, ASetup, Anything, Entries, ItsEnd}
use Rattle.setup_law.specs.Tables.{KeptSetupHolds, told_by}

-- ---- what stands behind the notes, by what is due

-- of the list that a start has found these were carried out, and those are left
pub record IsCarried (plan : EquipmentPlan) (left : List Entry) (list : Option (List Entry)) (past : List Past) : Type 0
  where
    pub done : List Entry
    pub all : (l : List Entry) → list ≡ Some l → l ≡ done ++ left
    pub counts : entries_at plan past ≡ run plan (entries_at plan []) done

-- what counts is what a start has carried out, and what came since; and what is kept is what that leaves
pub record IsHeld (plan : EquipmentPlan) (list : Option (List Entry)) (past : List Past) : Type 0 where
  pub found : List Entry
  pub since : List Past
  pub counts : entries_at plan past ≡ entries_at plan (since ++ carried_out found)
  pub list_is : (l : List Entry) → list ≡ Some l → l ≡ kept_behind kept plan found since

abbrev pub Holds : EquipmentPlan → Due → Option (List Entry) → List Past → Type 0
Holds plan AStart list past = Unit {0}
Holds plan ASetup list past = past ≡ []
Holds plan (Entries left) list past = IsCarried plan left list past
Holds plan (AKeep primary) list past = IsHeld plan (with_kept primary list) past
Holds plan (ItsEnd primary) list past = IsHeld plan (with_kept primary list) past
Holds plan Anything list past = IsHeld plan list past

-- what counts behind one note more
abbrev past_behind : Change → List Past → List Past
past_behind Starts past = []
past_behind (Counts one) past = one ∷ past
past_behind _ past = past

past-is : (what : Happening) (before : List Happening)
    → past_in (what ∷ before) ≡ past_behind (change_of what) (past_in before)
past-is (Happening.EquipmentStarted found base) before = refl
past-is (Happening.Recorded past) before = refl
past-is what before = refl

the_some : (l m : List Entry) → Some l ≡ Some m → m ≡ l
the_some l m is = ap (λ (o : Option (List Entry)). unwrap_or o []) (sym is)

-- an entry that is refused doesn't count
refused_entry : ReportsGoByWhatStands → (plan : EquipmentPlan) (entry : Entry) (e : Counted)
    → accepts_primary (tables_by plan e) entry ≡ false → counted_by plan (change_by entry) e ≡ e
refused_entry law plan entry e not = go (change_by entry) not
  where
    go : (o : Option SetupChange) → option_map_or (accepts (tables_by plan e)) o false ≡ false
        → counted_by plan o e ≡ e
    go None not = refl
    go (Some c) not = refused plan c e (sym (accepted_is law plan c e) ∙ not)

-- ---- one note more

module _ (law : ReportsGoByWhatStands) (plan : EquipmentPlan) (held : Option (List Entry)) (before : List Happening)
  where
    abbrev HoldsBehind : Change → Due → Type 0
    HoldsBehind c due =
        Holds plan (due_behind c (list_by plan held before c) due) (list_behind c (list_in held before))
        (past_behind c (past_in before))

    on_start : (c : Change) → IsStart c → HoldsBehind c AStart
    on_start Starts is = refl
    on_start _ is = absurd is

    on_setup : (c : Change) → past_in before ≡ [] → IsSetup held before c → HoldsBehind c ASetup
    on_setup (Finds found) none is = record {
      done = [];
      all = λ l same. ap (λ (o : Option (List Entry)). unwrap_or o []) (sym same);
      counts = ap (entries_at plan) none;
    }
    on_setup _ none is = absurd is

    -- the next entry counts, or is refused
    on_entry : (entry : Entry) (left : List Entry) → IsCarried plan (entry ∷ left) (list_in held before) (past_in before)
        → (b : Bool) → is_accepted plan before entry ≡ b
        → HoldsBehind (change_of (cond b (Happening.Recorded (asked_of entry)) Happening.Refused)) (Entries (entry ∷ left))
    on_entry entry left at true is = record {
      done = at.done ++ entry ∷ [];
      all = λ l same. at.all l same ∙ sym (append_assoc at.done (entry ∷ []) left);
      counts =
          asked_counted plan (request_of entry.stream entry.function entry.body) (entries_at plan (past_in before))
          ∙ ap (counted_by plan (change_by entry)) at.counts
          ∙ sym (fold-append (λ so_far x. counted_by plan (change_by x) so_far) (entries_at plan []) at.done
          (entry ∷ []));
    }
    on_entry entry left at false is = record {
      done = at.done ++ entry ∷ [];
      all = λ l same. at.all l same ∙ sym (append_assoc at.done (entry ∷ []) left);
      counts =
          sym (refused_entry law plan entry (entries_at plan (past_in before)) is)
          ∙ ap (counted_by plan (change_by entry)) at.counts
          ∙ sym (fold-append (λ so_far x. counted_by plan (change_by x) so_far) (entries_at plan []) at.done
          (entry ∷ []));
    }

    on_entries : (left : List Entry) (what : Happening) → IsNext plan held before (Entries left) what
        → IsCarried plan left (list_in held before) (past_in before) → HoldsBehind (change_of what) (Entries left)
    on_entries [] what is at =
        let ended : HoldsBehind Other (Entries []) = record {
          found = at.done;
          since = [];
          counts = at.counts ∙ sym (carried plan at.done []);
          list_is = λ l same. at.all l same ∙ append-nil at.done;
        } in
        subst (λ w. HoldsBehind (change_of w) (Entries [])) (sym is) ended
    on_entries (entry ∷ left) what is at =
        subst (λ w. HoldsBehind (change_of w) (Entries (entry ∷ left))) (sym is)
        (on_entry entry left at (is_accepted plan before entry) refl)

    -- a request of the host, which is accepted or not
    on_request : (request : Message) (list : Option (List Entry)) → IsHeld plan list (past_in before)
        → (b : Bool) → is_accepted plan before (primary_of request) ≡ b
        → Holds plan (due_behind_request (Asked request) (cond b (with_kept request list) None)) list
        (Asked request ∷ past_in before)
    on_request request list at b is = go b (tested ∙ is) list at.list_is
      where
        tables : List Past → Bool
        tables past = accepts_primary (tables_by plan (entries_at plan past)) (primary_of request)

        tested : tables (at.since ++ carried_out at.found) ≡ tables (past_in before)
        tested = ap (λ (e : Counted). accepts_primary (tables_by plan e) (primary_of request)) (sym at.counts)

        counted : entries_at plan (Asked request ∷ past_in before)
            ≡ entries_at plan ((Asked request ∷ at.since) ++ carried_out at.found)
        counted = ap (entry_counts plan (Asked request)) at.counts

        behind : (b : Bool) → tables (at.since ++ carried_out at.found) ≡ b
            → kept_behind kept plan at.found (Asked request ∷ at.since)
            ≡ cond b (kept (kept_behind kept plan at.found at.since) (primary_of request))
            (kept_behind kept plan at.found at.since)
        behind b test =
            ap (λ t. cond t (kept (kept_behind kept plan at.found at.since) (primary_of request))
            (kept_behind kept plan at.found at.since)) test

        go : (b : Bool) → tables (at.since ++ carried_out at.found) ≡ b → (list : Option (List Entry))
            → ((l : List Entry) → list ≡ Some l → l ≡ kept_behind kept plan at.found at.since)
            → Holds plan (due_behind_request (Asked request) (cond b (with_kept request list) None)) list
            (Asked request ∷ past_in before)
        go false test list is = record {
          found = at.found;
          since = Asked request ∷ at.since;
          counts = counted;
          list_is = λ l same. is l same ∙ sym (behind false test);
        }
        go true test None is = record {
          found = at.found;
          since = Asked request ∷ at.since;
          counts = counted;
          list_is = λ l same. absurd (cc);
        }
        go true test (Some list) is = record {
          found = at.found;
          since = Asked request ∷ at.since;
          counts = counted;
          list_is = λ l same.
              the_some (kept list (primary_of request)) l same
              ∙ ap (λ k. kept k (primary_of request)) (is list refl) ∙ sym (behind true test);
        }

    on_anything : (c : Change) → MayChange plan held before c → IsHeld plan (list_in held before) (past_in before)
        → HoldsBehind c Anything
    on_anything Starts may at = refl
    on_anything (Finds found) may at = absurd may
    on_anything Refuses may at = at
    on_anything (Counts (Commanded command)) may at = record {
      found = at.found;
      since = Commanded command ∷ at.since;
      counts = ap (entry_counts plan (Commanded command)) at.counts;
      list_is = at.list_is;
    }
    on_anything (Counts (Asked request)) may at =
        on_request request (list_in held before) at (is_accepted plan before (primary_of request)) refl
    on_anything (Keeps primary) may at = absurd may
    on_anything (HasKept primary) may at = absurd may
    on_anything Other may at = at

    on_note : (what : Happening) (due : Due) → IsNext plan held before due what
        → Holds plan due (list_in held before) (past_in before) → HoldsBehind (change_of what) due
    on_note what AStart is at = on_start (change_of what) is
    on_note what ASetup is at = on_setup (change_of what) at is
    on_note what (Entries left) is at = on_entries left what is at
    on_note what (AKeep primary) is at = subst (λ w. HoldsBehind (change_of w) (AKeep primary)) (sym is) at
    on_note what (ItsEnd primary) (inl is) at = subst (λ w. HoldsBehind (change_of w) (ItsEnd primary)) (sym is) at
    on_note what (ItsEnd primary) (inr is) at = subst (λ w. HoldsBehind (change_of w) (ItsEnd primary)) (sym is) tt
    on_note what Anything is at = on_anything (change_of what) is at

pub holds : ReportsGoByWhatStands → (plan : EquipmentPlan) (held : Option (List Entry)) (notes : List Happening)
    → KeepsSetup plan held notes → Holds plan (due_in plan held notes) (list_in held notes) (past_in notes)
holds law plan held [] keeps = tt
holds law plan held (what ∷ before) keeps =
    subst (Holds plan (due_in plan held (what ∷ before)) (list_in held (what ∷ before))) (sym (past-is what before))
    (on_note law plan held before what (due_in plan held before) keeps.0 (holds law plan held before keeps.1))

-- ---- what that tells

pub kept_holds : ReportsGoByWhatStands → KeptTellsTheSame → KeptSetupHolds
kept_holds law same plan held notes keeps list is =
    go (due_in plan held notes) (holds law plan held notes keeps) is
  where
    told : (o : Option (List Entry)) → IsHeld plan o (past_in notes) → o ≡ Some list
        → setup_of (tables_by plan (entries_at plan (past_in notes)))
        ≡ setup_of (tables_by plan (entries_at plan (carried_out list)))
    told o at is =
        ap (λ (e : Counted). setup_of (tables_by plan e)) at.counts ∙ sym (same plan at.found at.since)
        ∙ ap (λ (l : List Entry). setup_of (tables_by plan (entries_at plan (carried_out l)))) (sym (at.list_is list is))

    go : (due : Due) → Holds plan due (list_in held notes) (past_in notes)
        → told_by due (list_in held notes) ≡ Some list
        → setup_of (tables_by plan (entries_at plan (past_in notes)))
        ≡ setup_of (tables_by plan (entries_at plan (carried_out list)))
    go (AKeep primary) at is = told (with_kept primary (list_in held notes)) at is
    go (ItsEnd primary) at is = told (with_kept primary (list_in held notes)) at is
    go Anything at is = told (list_in held notes) at is
    go AStart at is = absurd (cc)
    go ASetup at is = absurd (cc)
    go (Entries left) at is = absurd (cc)
