-- That a start which carries its setup out has the tables, and keeps the list, that its notes tell.
use Rattle.std.proofs.Common.{◌≡◌, refl, sym, ap, subst, ◌∙◌, Bool, true, false, ℕ, List, [], ◌∷◌, Option, None, if◌then◌else◌}
use Rattle.std.specs.Prelude.{drop}
use Rattle.setup_law.specs.Setup.{list_in}
use Rattle.setup_store.specs.Entries.{Entry}
use Rattle.trace_log.specs.Log.{Happening}
use Rattle.trace_log.specs.Names.{Spooled}
use Rattle.message_end.specs.Course.{noted_behind}
use Rattle.equipment_tables.specs.declared.plan.EquipmentPlan.{EquipmentPlan}
use Rattle.equipment_tables.specs.Laws.{TablesAreLookedBackFor}
use Rattle.equipment_tables.specs.Plan.{EquipmentPlanFits}
use Rattle.equipment_tables.specs.Setup.{accepts_primary, asked_of}
use Rattle.equipment_tables.specs.Tables.{TablesState, after_past, planned_tables}
use Rattle.tool_step.specs.Equipment.{setup_lines}
use Rattle.tool_step.specs.Setup.{carried_line, carried_lines, found_list, set_up, tables_with}
use Rattle.tool_reports.specs.Reported.{IsInPlace, Reported, commands_in, due_behind, events_in, next_dataid, past_in, reports_in, tables_in, to_carry}
use Rattle.tool_reports.proofs.QuietNotes.{AreInPlace, one-behind}
use Rattle.tool_reports.proofs.RefusedEntries.{refused-entry}

module _ (plan : EquipmentPlan) (fits : EquipmentPlanFits plan) (looked : TablesAreLookedBackFor)
    (setup : Option (List Entry)) where
  -- this is left to be carried out, and the tables have come to this: nothing else is read off the notes yet
  pub record IsCarrying (left : List Entry) (t : TablesState) (notes : List Happening) : Type 0 where
    pub to_do : to_carry notes ≡ left
    pub tables_are : tables_in plan notes ≡ t
    pub reported : Reported plan notes
    pub none_due : due_behind plan notes ≡ None
    pub kept : (held : Option (List Entry)) → list_in held notes ≡ setup
    pub commands : commands_in (past_in notes) ≡ []
    pub events : events_in notes ≡ []
    pub reports : reports_in notes ≡ []
    pub next : next_dataid notes ≡ 0

  one-carried :
      (entry : Entry) (left : List Entry) (t : TablesState) (notes : List Happening)
      → IsCarrying (entry ∷ left) t notes → IsCarrying left (tables_with t entry) (carried_line t entry ∷ notes)
  one-carried entry left t notes is = go (accepts_primary t entry) refl
    where
      line : Bool → Happening
      line accepted = if accepted then Happening.Recorded (asked_of entry) else Happening.Refused

      in_place : IsInPlace plan (to_carry notes) (carried_line t entry) notes
      in_place =
          subst (λ (l : List Entry). IsInPlace plan l (carried_line t entry) notes) (sym is.to_do)
          (ap (λ (at : TablesState). carried_line at entry) (sym is.tables_are))

      go : (accepted : Bool) → accepts_primary t entry ≡ accepted
          → IsCarrying left (tables_with t entry) (carried_line t entry ∷ notes)
      go accepted same =
          subst (λ (what : Happening). IsCarrying left (tables_with t entry) (what ∷ notes))
          (ap line (sym same))
          (by accepted same
          (subst (λ (what : Happening). IsInPlace plan (to_carry notes) what notes) (ap line same) in_place))
        where
          by : (accepted : Bool) → accepts_primary t entry ≡ accepted
              → IsInPlace plan (to_carry notes) (line accepted) notes
              → IsCarrying left (tables_with t entry) (line accepted ∷ notes)
          by true same placed = record {
            to_do = ap (λ (l : List Entry). drop 1 l) is.to_do;
            tables_are =
                looked.next plan (past_in notes) (asked_of entry) fits
                ∙ ap (λ (at : TablesState). after_past (asked_of entry) at) is.tables_are;
            reported = (placed, is.reported);
            none_due = refl;
            kept = is.kept;
            commands = is.commands;
            events = is.events;
            reports = is.reports;
            next = is.next;
          }
          by false same placed = record {
            to_do = ap (λ (l : List Entry). drop 1 l) is.to_do;
            tables_are = is.tables_are ∙ sym (refused-entry t entry same);
            reported = (placed, is.reported);
            none_due = refl;
            kept = is.kept;
            commands = is.commands;
            events = is.events;
            reports = is.reports;
            next = is.next;
          }

  all-carried :
      (list : List Entry) (t : TablesState) (notes : List Happening) → IsCarrying list t notes
      → IsCarrying [] (set_up t list) (noted_behind (carried_lines t list) notes)
  all-carried [] t notes is = is
  all-carried (entry ∷ list) t notes is =
      all-carried list (tables_with t entry) (carried_line t entry ∷ notes) (one-carried entry list t notes is)

  -- behind the end of the start
  pub start-carried :
      (found : List (ℕ × Spooled)) (base : ℕ) (before : List Happening) → AreInPlace plan before
      → IsCarrying [] (set_up (planned_tables plan) (found_list setup))
      (noted_behind (setup_lines plan setup) (Happening.EquipmentStarted found base ∷ before))
  start-carried found base before so =
      subst (IsCarrying [] (set_up (planned_tables plan) (found_list setup)))
      (sym (one-behind (Happening.Setup setup ∷ lines) Happening.StepEnded first)) (record {
        to_do = refl;
        tables_are = all.tables_are;
        reported = (
          subst (λ (l : List Entry). IsInPlace plan l Happening.StepEnded done) (sym all.to_do)
              (sym all.none_due, tt),
          all.reported,
        );
        none_due = refl;
        kept = all.kept;
        commands = all.commands;
        events = all.events;
        reports = all.reports;
        next = all.next;
      })
    where
      lines : List Happening
      lines = carried_lines (planned_tables plan) (found_list setup)

      first : List Happening
      first = Happening.EquipmentStarted found base ∷ before

      done : List Happening
      done = noted_behind lines (Happening.Setup setup ∷ first)

      started : Reported plan first
      started = (
        subst (λ (l : List Entry). IsInPlace plan l (Happening.EquipmentStarted found base) before)
            (sym so.none_left) (sym so.none_due, tt),
        so.reported,
      )

      all : IsCarrying [] (set_up (planned_tables plan) (found_list setup)) done
      all =
          all-carried (found_list setup) (planned_tables plan) (Happening.Setup setup ∷ first) (record {
            to_do = refl;
            tables_are = looked.first plan;
            reported = ((refl, (found, base, before, refl)), started);
            none_due = refl;
            kept = λ held. refl;
            commands = refl;
            events = refl;
            reports = refl;
            next = refl;
          })
