-- That the notes of a start, which carries out the setup that it has found, keep the law of the setup.
use Rattle.std.proofs.Common.{◌≡◌, refl, sym, ◌∙◌, ap, subst, Bool, true, false, cond, ℕ, List, [], ◌∷◌, ◌++◌, Option, Some, None}
use Rattle.std.specs.Option.{unwrap_or}
use Rattle.setup_law.specs.Setup.{Due, IsFoundOf, IsNext, KeepsSetup, carried_line, due_in, keeping_in, list_in, past_in, tables_in}
use Rattle.setup_law.specs.Setup.Due.{AStart, Anything, Entries}
use Rattle.setup_law.proofs.Notes.{MayStart, Rests, carried-rests, carried_behind}
use Rattle.setup_store.specs.Entries.{Entry}
use Rattle.trace_log.specs.Log.{Happening}
use Rattle.trace_log.specs.Names.{Spooled}
use Rattle.message_end.specs.Course.{noted_behind}
use Rattle.equipment_tables.specs.declared.plan.EquipmentPlan.{EquipmentPlan}
use Rattle.equipment_tables.specs.Laws.{TablesAreLookedBackFor}
use Rattle.equipment_tables.specs.Plan.{EquipmentPlanFits}
use Rattle.equipment_tables.specs.Setup.{accepts_primary, asked_of}
use Rattle.equipment_tables.specs.Tables.{TablesState, planned_tables}
use Rattle.tool_step.specs.Equipment.{setup_lines}
use Rattle.tool_step.specs.Setup.{carried_lines, found_list, tables_with}
use Rattle.tool_reports.proofs.RefusedEntries.{refused-entry}

module _ (plan : EquipmentPlan) (fits : EquipmentPlanFits plan) (looked : TablesAreLookedBackFor)
    (held : Option (List Entry))
  where
    -- one entry more
    carried-tables : (entry : Entry) (notes : List Happening)
        → tables_in plan (carried_line (tables_in plan notes) entry ∷ notes) ≡ tables_with (tables_in plan notes) entry
    carried-tables entry notes = go (accepts_primary (tables_in plan notes) entry) refl
      where
        go : (b : Bool) → accepts_primary (tables_in plan notes) entry ≡ b
            → tables_in plan (cond b (Happening.Recorded (asked_of entry)) Happening.Refused ∷ notes)
            ≡ tables_with (tables_in plan notes) entry
        go true is = looked.next plan (past_in notes) (asked_of entry) fits
        go false is = sym (refused-entry (tables_in plan notes) entry is)

    -- the lines of a start are those that the law asks for
    lines-are : (list : List Entry) (t : TablesState) (notes : List Happening) → tables_in plan notes ≡ t
        → noted_behind (carried_lines t list ++ Happening.StepEnded ∷ []) notes ≡ carried_behind plan held list notes
    lines-are [] t notes is = refl
    lines-are (entry ∷ list) t notes is =
        let line : carried_line t entry ≡ carried_line (tables_in plan notes) entry =
        ap (λ (s : TablesState). carried_line s entry) (sym is) in
        lines-are list (tables_with t entry) (carried_line t entry ∷ notes)
        (ap (λ w. tables_in plan (w ∷ notes)) line ∙ carried-tables entry notes
        ∙ ap (λ (s : TablesState). tables_with s entry) is)
        ∙ ap (λ w. carried_behind plan held list (w ∷ notes)) line

    module _ (found : Option (List Entry)) (spooled : List (ℕ × Spooled)) (base : ℕ) (notes : List Happening) where
      -- it may find what was kept
      pub start-keeps :
          MayStart plan held (due_in plan held notes) → KeepsSetup plan held notes
          → IsFoundOf (list_in held notes) (keeping_in notes) found
          → KeepsSetup plan held (Happening.Setup found ∷ Happening.EquipmentStarted spooled base ∷ notes)
      start-keeps may keeps is = (is, (started (due_in plan held notes) may, keeps))
        where
          started : (due : Due) → MayStart plan held due
              → IsNext plan held notes due (Happening.EquipmentStarted spooled base)
          started AStart may = tt
          started Anything may = tt
          started _ may = absurd may

      -- and behind its end the equipment rests, with what it has found
      pub found-rests :
          KeepsSetup plan held (Happening.Setup found ∷ Happening.EquipmentStarted spooled base ∷ notes)
          → Rests plan held found
          (noted_behind (setup_lines plan found) (Happening.EquipmentStarted spooled base ∷ notes))
      found-rests keeps =
          subst (Rests plan held found)
          (sym (lines-are (found_list found) (planned_tables plan) first (looked.first plan)))
          (carried-rests plan held (found_list found) found first (record {
            keeps = keeps;
            due_is = ap Entries (sym (same found));
            list_is = refl;
            keeping_is = refl;
          }))
        where
          first : List Happening
          first = Happening.Setup found ∷ Happening.EquipmentStarted spooled base ∷ notes

          same : (found : Option (List Entry)) → found_list found ≡ unwrap_or found []
          same None = refl
          same (Some list) = refl
