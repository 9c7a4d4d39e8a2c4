-- A change of the setup is kept.
use Rattle.std.proofs.Common.{◌≡◌, refl, sym, subst, List, [], ◌∷◌, ◌++◌, Some}
use Rattle.std.specs.Prelude.{Ok}
use Rattle.gem_shapes.specs.declared.request.Request.{Request}
use Rattle.message_flow.specs.declared.message.Message.{Message}
use Rattle.message_flow.specs.declared.step.StepOut.{StepOut}
use Rattle.setup_store.specs.Entries.{Entry}
use Rattle.trace_log.specs.Log.Happening.{Keeping, Kept}
use Rattle.trace_log.specs.Text.{note_of}
use Rattle.message_end.specs.Core.{EndView}
use Rattle.equipment_tables.specs.Tables.{TablesState, asked_after}
use Rattle.tool_step.specs.declared.kind.Kind.{Kind}
use Rattle.tool_step.specs.declared.owed.Owed.TheVariants.{Keep}
use Rattle.tool_step.specs.Messages.{keep_turn}
use Rattle.tool_step.specs.Own.{OwnView, owing, untold, with_setup, with_tables}
use Rattle.tool_core.proofs.Following.{behind_lines, node}
use Rattle.tool_core.proofs.Turned.{HasTaken}

-- the tables are changed, the list is what is kept, and that is owed to the file
pub keeps :
    (list : List Entry) (asked : Request) (message primary : Message) (own : OwnView) (core : EndView Kind)
    (tables : TablesState) (out out_new : StepOut)
    → tables ≡ asked_after (Some asked) own.tables → primary ≡ untold message
    → out_new.notes ≡ out.notes ++ note_of (Keeping message) ∷ note_of (Kept message) ∷ []
    → out_new.line ≡ out.line
    → HasTaken (keep_turn list asked message own) (node own core) out
    (node (owing (Keep primary) (with_setup list (with_tables tables own))) core) out_new
keeps list asked message primary own core tables out out_new changed left noted quiet =
    subst
    (λ (t : TablesState). HasTaken (keep_turn list asked message own) (node own core) out
    (node (owing (Keep primary) (with_setup list (with_tables t own))) core) out_new)
    (sym changed)
    (subst
    (λ (m : Message). HasTaken (keep_turn list asked message own) (node own core) out
    (node (owing (Keep m) (with_setup list (with_tables (asked_after (Some asked) own.tables) own))) core) out_new)
    (sym left)
    (behind_lines (Unit {0}) behind (Keeping message ∷ Kept message ∷ []) [] (node own core) (node behind core)
    (node behind core) out out_new out_new (Ok tt) refl noted (λ j. (quiet j).items) refl))
  where
    behind : OwnView
    behind = owing (Keep (untold message)) (with_setup list (with_tables (asked_after (Some asked) own.tables) own))
