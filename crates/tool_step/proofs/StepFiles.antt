-- What works and a step make of the file: a step changes it by its works alone, and no work changes its slots.
use Rattle.std.proofs.Common.{◌≡◌, refl, sym, ap, subst, ◌∙◌, Bool, true, false, ℕ, List, [], ◌∷◌, Option, Some, None, if◌then◌else◌}
use Rattle.std.specs.Option.{option_map_or}
use Rattle.gate_cell.specs.Cell.{Cell}
use Rattle.gem_spool.specs.Standing.{Standing}
use Rattle.gem_spool.specs.Works.{lists_after, standing_after, standings_after}
use Rattle.gem_spool.specs.declared.works.Work.{Work}
use Rattle.message_end.specs.Core.{Went, and_then, at_first, step_in}
use Rattle.message_end.specs.Core.Went.{Goes, Spent}
use Rattle.message_end.specs.Ends.{Input}
use Rattle.message_end.specs.Parts.{Node, after_parts}
use Rattle.spool_ledger.specs.Ledger.{LedgerView, stood_count}
use Rattle.spool_file.specs.File.{SpoolFile}
use Rattle.spool_slots.specs.Files.{with_mark_moved}
use Rattle.trace_log.specs.declared.commands.ToolCommand.{ToolCommand}
use Rattle.trace_log.specs.Log.{Happening}
use Rattle.tool_step.specs.declared.kind.Kind.{Kind}
use Rattle.tool_step.specs.Equipment.{EquipmentView, act, begun_step, done_step, ended_step, is_marked_out, needs_numbers, node_step, oldest_of, parts_done, reserved, settled, settled_file, settled_list, settled_went, went_with_file}
use Rattle.setup_store.specs.Copies.{with_kept}
use Rattle.tool_step.specs.Own.{OwnView}
use Rattle.tool_step.specs.Setup.{kept_file, to_keep}
use Rattle.tool_step.specs.Step.{first_parts, last_parts}

-- ---- works

pub lists-behind : (st : Standing) (works : List Work)
    → (standings_after st works).file.list ≡ lists_after st.next st.file.list works
lists-behind st [] = refl
lists-behind st (one ∷ works) = lists-behind (standing_after st one) works

slots-behind : (st : Standing) (works : List Work) → (standings_after st works).file.slots ≡ st.file.slots
slots-behind st [] = refl
slots-behind st (one ∷ works) = slots-behind (standing_after st one) works

version-behind : (st : Standing) (works : List Work) → (standings_after st works).file.version ≡ st.file.version
version-behind st [] = refl
version-behind st (one ∷ works) = version-behind (standing_after st one) works

mark-behind : (st : Standing) (works : List Work) → (standings_after st works).file.mark ≡ st.file.mark
mark-behind st [] = refl
mark-behind st (one ∷ works) = mark-behind (standing_after st one) works

-- those that a ledger owes
module _ (ledger : LedgerView) (file : SpoolFile) where
  abbrev stood : Standing
  stood = record { next = (stood_count ledger).next; file = file }

  pub settled-list-is : (settled_file ledger file).list ≡ settled_list ledger file.list
  settled-list-is = lists-behind stood ledger.works

  pub settled-slots : (settled_file ledger file).slots ≡ file.slots
  settled-slots = slots-behind stood ledger.works

  pub settled-version : (settled_file ledger file).version ≡ file.version
  settled-version = version-behind stood ledger.works

  pub settled-mark : (settled_file ledger file).mark.value ≡ file.mark.value
  settled-mark = ap (λ (cell : Cell). cell.value) (mark-behind stood ledger.works)

-- ---- a step

-- parts leave it as it is
pub parts-file : (s : EquipmentView) (went : Went (Node OwnView Kind) Happening)
    → (step_in (went_with_file s went)).next.file ≡ s.file
parts-file s (Goes step) = refl
parts-file s (Spent step) = refl

-- what comes behind the works
pub ended-file : (went : Went EquipmentView Happening) (now : ℕ)
    → (step_in (and_then (settled_went went) (ended_step now))).next.file ≡ (step_in (settled_went went)).next.file
ended-file (Goes step) now =
    let done = done_step step in
    parts-file done.next (after_parts Some (last_parts (oldest_of done.next) now) (node_step done))
ended-file (Spent step) now = refl

-- the setup that is kept behind them is the only thing that this changes
pub kept-same :
    {X : Type 0} (field : SpoolFile → X) (own : OwnView) (file : SpoolFile)
    → ((bytes : List ℕ) (other : SpoolFile) → field (with_kept bytes other) ≡ field other)
    → field (kept_file own file) ≡ field file
kept-same field own file same = go (to_keep own)
  where
    go : (found : Option (List ℕ))
        → field (option_map_or (λ (bytes : List ℕ). with_kept bytes file) found file) ≡ field file
    go None = refl
    go (Some bytes) = same bytes file

pub works-same :
    {X : Type 0} (field : SpoolFile → X) (went : Went EquipmentView Happening)
    → ((bytes : List ℕ) (other : SpoolFile) → field (with_kept bytes other) ≡ field other)
    → field (step_in (settled_went went)).next.file ≡ field (settled (step_in went).next).file
works-same field (Goes step) same =
    kept-same field (settled step.next).node.own (settled step.next).file same
works-same field (Spent step) same = refl

-- what comes before them moves its mark on, or leaves it as it is
pub begun-file : (P : SpoolFile → Type 0) (s : EquipmentView) (input : Input ToolCommand) (now : ℕ) → P s.file
    → P (with_mark_moved s.file) → P (step_in (begun_step s input now)).next.file
begun-file P s input now is moved = go (needs_numbers s) (is_marked_out s.file.mark.value)
  where
    go : (needs spent : Bool)
        → P (step_in (and_then
        (if needs then if spent then Spent (at_first s) else Goes (at_first (reserved s)) else Goes (at_first s))
        (parts_done (first_parts input now)))).next.file
    go true true = is
    go true false =
        subst P
        (sym (parts-file (reserved s) (after_parts Some (first_parts input now) (at_first (reserved s).node)))) moved
    go false spent =
        subst P (sym (parts-file s (after_parts Some (first_parts input now) (at_first s.node)))) is

pub act-slots : (s : EquipmentView) (input : Input ToolCommand) (now : ℕ)
    → (step_in (act s input now)).next.file.slots ≡ s.file.slots
act-slots s input now =
    ap (λ (file : SpoolFile). file.slots) (ended-file (begun_step s input now) now)
    ∙ works-same (λ (file : SpoolFile). file.slots) (begun_step s input now) (λ bytes other. refl)
    ∙ settled-slots (step_in (begun_step s input now)).next.node.own.ledger (step_in (begun_step s input now)).next.file
    ∙ begun-file (λ (file : SpoolFile). file.slots ≡ s.file.slots) s input now refl refl

pub act-version : (s : EquipmentView) (input : Input ToolCommand) (now : ℕ)
    → (step_in (act s input now)).next.file.version ≡ s.file.version
act-version s input now =
    ap (λ (file : SpoolFile). file.version) (ended-file (begun_step s input now) now)
    ∙ works-same (λ (file : SpoolFile). file.version) (begun_step s input now) (λ bytes other. refl)
    ∙ settled-version (step_in (begun_step s input now)).next.node.own.ledger
    (step_in (begun_step s input now)).next.file
    ∙ begun-file (λ (file : SpoolFile). file.version ≡ s.file.version) s input now refl refl
