-- Changes of the setup that are kept, where the spool is spoken of: their two lines stand behind all lines of the list.
use Rattle.std.proofs.Common.{◌≡◌, refl, sym, ap, subst, ◌∙◌, inl, inr, ◌⊎◌, List, [], ◌∷◌, ◌++◌, Bool, true, false, ℕ, Option, Some, None, ◌||◌, if◌then◌else◌}
use Rattle.gem_shapes.specs.Answers.{code_item}
use Rattle.gem_recipes.specs.declared.asking.RecipesAsked.{RecipesAsked}
use Rattle.gem_recipes.specs.Asking.{is_change}
use Rattle.message_flow.specs.declared.message.Message.{Message}
use Rattle.setup_store.specs.Entries.{Entry, bytes_of, has_room, is_kept}
use Rattle.trace_log.specs.Log.{Happening}
use Rattle.message_end.specs.Core.{EndView}
use Rattle.message_end.specs.Course.{noted_behind}
use Rattle.message_end.specs.Duties.{all_done}
use Rattle.message_end.proofs.Parts.{OnEither, either-less}
use Rattle.spool_law.specs.Shelf.{Change, IsAtRest, MayChange, Policy, change_of, shelf_changed, shelf_of}
use Rattle.spool_law.specs.Shelf.Change.{Other}
use Rattle.spool_ledger.specs.Unloading.{tried_in}
use Rattle.spool_file.specs.Slot.{Message as Put}
use Rattle.equipment_tables.specs.declared.plan.EquipmentPlan.{EquipmentPlan}
use Rattle.tool_step.specs.declared.kind.Kind.{Kind}
use Rattle.tool_step.specs.declared.owed.Owed.{Owed}
use Rattle.tool_step.specs.declared.owed.Owed.TheVariants.{Answered, Keep, Recipes as OfRecipes}
use Rattle.tool_step.specs.Equipment.{setup_lines}
use Rattle.tool_step.specs.Messages.{unkept_duties, unkept_turn}
use Rattle.tool_step.specs.Own.{OwnView, ToolTurn, owing, quiet_turn, turn_of, unowed, untold}
use Rattle.tool_step.specs.Recipes.{recipes_text, recipes_turn}
use Rattle.tool_step.specs.Sent as sent
use Rattle.tool_step.specs.Setup.{accepted_item, bytes_to_keep, has_space_code, no_space, to_keep}
use Rattle.tool_step.specs.Step.{answering, owed_turn}
use Rattle.tool_law.proofs.CommandWalks.{AllAre, abort-are}
use Rattle.tool_law.proofs.CoreSteps.{CoreStep}
use Rattle.tool_law.proofs.SetupStarts.{AreLines, are-lines, found_lines, no-change}
use Rattle.tool_law.proofs.TurnWalks.{nothing-of}
use Rattle.tool_law.proofs.WorkLines.{lines-none}
use Rattle.tool_spool.proofs.CalmCommands.{AreDrawn}
use Rattle.tool_spool.proofs.CalmParts.{IsCalmTurn, answers-calm, common-calm, likes}
use Rattle.tool_spool.proofs.FromStarts.{KeepsOn}
use Rattle.tool_spool.proofs.PairedLines.{told-none}
use Rattle.tool_spool.proofs.ShelvedTurns.{IsSpentAt, Shelves}
use Rattle.tool_spool.proofs.SpoolTurns.{TurnEnds}
use Rattle.tool_spool.proofs.UnloadOpen.{IsOpen, unloads_in}
use Rattle.tool_spool.specs.LeavesInStep.{MayChangeInStep}
use Rattle.tool_spool.specs.MadeRoom.{IsRoomUsed, IsUsedBy}
use Rattle.tool_spool.specs.SpoolKept.{policy_of}

-- ---- turns without the spool

-- one for which there is no room
pub unkept-calm : (message : Message) (own : OwnView) → IsCalmTurn own (unkept_turn message own)
unkept-calm message own = go (has_space_code message)
  where
    go : (coded : Bool) → IsCalmTurn own (turn_of own (unkept_duties coded message own))
    go true = record {
      duties = answers-calm (sent.text_of own (code_item no_space)) message;
      keeps = likes own;
    }
    go false = record { duties = abort-are common-calm message; keeps = likes own }

-- the answer that has waited
pub answering-calm : (own : OwnView) (e : EndView Kind) → IsCalmTurn (unowed own) (answering own e)
answering-calm own e = go own.owed
  where
    go : (owed : Option Owed) → IsCalmTurn (unowed own) (owed_turn owed (unowed own))
    go None = nothing-of (unowed own) (unowed own) (likes (unowed own))
    go (Some (OfRecipes asked primary)) = nothing-of (unowed own) (unowed own) (likes (unowed own))
    go (Some (Answered given primary)) = record {
      duties = answers-calm (recipes_text (unowed own) given) primary;
      keeps = likes (unowed own);
    }
    go (Some (Keep primary)) = record {
      duties = answers-calm (sent.text_of (unowed own) (accepted_item primary)) primary;
      keeps = likes (unowed own);
    }

-- ---- what a start notes of its setup

-- lines that say nothing of the spool
abbrev pub AreAside : List Happening → Type 0
AreAside lines = AllAre (λ (what : Happening). change_of what ≡ Other) lines

lines-aside : (lines more : List Happening) → AreLines lines → AreAside more → AreAside (lines ++ more)
lines-aside [] more are aside = aside
lines-aside (what ∷ lines) more are aside = (no-change what are.0, lines-aside lines more are.1 aside)

pub setup-aside : (plan : EquipmentPlan) (setup : Option (List Entry)) → AreAside (setup_lines plan setup)
setup-aside plan setup =
    lines-aside (found_lines plan setup) (Happening.StepEnded ∷ []) (are-lines plan setup) (refl, tt)

-- ---- the two lines

-- this list is to be kept, with this primary, which is one of those that are; and there is room for it
pub record IsToKeep (own : OwnView) (message : Message) : Type 0 where
  pub list : List Entry
  pub owed : own.owed ≡ Some (Keep (untold message))
  pub setup : own.setup ≡ Some list
  pub room : has_room (bytes_of list) ≡ true
  pub kind : is_kept message.stream message.function ≡ true

-- they leave all that is said of the list
pub kept-on : (policy : Policy) (message : Message) (notes : List Happening) → IsRoomUsed notes → KeepsOn policy notes
    → KeepsOn policy (Happening.Kept message ∷ Happening.Keeping message ∷ notes)
kept-on policy message notes closed kept = inr (tt, inl tt, tt, inr (tt, inl closed, tt, kept))

module _ (plan : EquipmentPlan) (slots : ℕ) (list : List Put) (base before : List Happening) where
  -- they stand behind what holds, and are of a list that is to be kept in this step
  pub record ShelvesKept (own : OwnView) (core : EndView Kind) (notes : List Happening) : Type 0 where
    pub message : Message
    pub earlier : List Happening
    pub noted : notes ≡ Happening.Kept message ∷ Happening.Keeping message ∷ earlier
    pub shelves : Shelves plan slots list base before (unowed own) core earlier
    pub kept : IsToKeep own message

  -- or nothing is to be kept in it, whatever is asked
  pub record ShelvesUnkept (own : OwnView) (core : EndView Kind) (notes : List Happening) : Type 0 where
    pub shelves : Shelves plan slots list base before (unowed own) core notes
    pub none : to_keep own ≡ None

  abbrev pub ShelvesOwing : OwnView → EndView Kind → List Happening → Type 0
  ShelvesOwing own core notes = ShelvesUnkept own core notes ⊎ ShelvesKept own core notes

  -- where nothing is asked any more
  pub unowed-shelves : (own : OwnView) (core : EndView Kind) (notes : List Happening)
      → Shelves plan slots list base before own core notes → Shelves plan slots list base before (unowed own) core notes
  unowed-shelves own core notes holds = record {
    is = holds.is;
    all = holds.all;
    shelved = holds.shelved;
    drawn = holds.drawn;
    asks = holds.asks;
    under_way = holds.under_way;
    reports = holds.reports;
    owes = refl;
  }

  pub unkept : (own : OwnView) (core : EndView Kind) (notes : List Happening)
      → Shelves plan slots list base before own core notes → ShelvesOwing own core notes
  unkept own core notes holds = inl (record {
    shelves = unowed-shelves own core notes holds;
    none = ap (λ (owed : Option Owed). bytes_to_keep owed own.setup) holds.owes;
  })

  abbrev pub TurnOwes : ToolTurn → CoreStep → Type 0
  TurnOwes turn step =
      OnEither (λ (next : CoreStep). ShelvesOwing turn.own next.next (noted_behind next.notes before))
      (λ (next : CoreStep). IsSpentAt plan slots list base before turn.own.ledger (noted_behind next.notes before))
      (all_done Some turn.duties step)

  pub turn-owes : (turn : ToolTurn) (step : CoreStep) → TurnEnds plan slots list base before turn step
      → TurnOwes turn step
  turn-owes turn step ends =
      either-less
      (λ (next : CoreStep). Shelves plan slots list base before turn.own next.next (noted_behind next.notes before))
      (λ (next : CoreStep). IsSpentAt plan slots list base before turn.own.ledger (noted_behind next.notes before))
      (λ (next : CoreStep). ShelvesOwing turn.own next.next (noted_behind next.notes before))
      (λ (next : CoreStep). IsSpentAt plan slots list base before turn.own.ledger (noted_behind next.notes before))
      (all_done Some turn.duties step) ends
      (λ next at. unkept turn.own next.next (noted_behind next.notes before) at) (λ next at. at)

  -- what is asked of the recipes waits for them
  pub recipes-owe :
      (asked : RecipesAsked) (message : Message) (own : OwnView) (step : CoreStep)
      → Shelves plan slots list base before own step.next (noted_behind step.notes before)
      → TurnOwes (recipes_turn asked message own) step
  recipes-owe asked message own step holds = go (message.wait || is_change asked)
    where
      notes : List Happening
      notes = noted_behind step.notes before

      go : (asks : Bool)
          → TurnOwes
          (if asks then quiet_turn (owing (OfRecipes asked (untold message)) own) else quiet_turn own) step
      go true = inl (record { shelves = unowed-shelves own step.next notes holds; none = refl })
      go false = unkept own step.next notes holds

  -- behind the works, which leave nothing owed, any note that says nothing of the spool leaves it as it is
  pub over-note :
      (own : OwnView) (core : EndView Kind) (what : Happening) (notes : List Happening) → change_of what ≡ Other
      → own.ledger.works ≡ [] → Shelves plan slots list base before own core notes
      → Shelves plan slots list (what ∷ notes) before own core (what ∷ notes)
  over-note own core what notes other none holds = record {
    is = holds.is;
    all = holds.all;
    shelved = record {
      kept = inr (
        as-other (MayChange (policy_of plan slots) notes) tt,
        inl holds.shelved.closed,
        as-other (MayChangeInStep (policy_of plan slots) notes) tt,
        holds.shelved.kept,
      );
      rest = as-other (λ change. IsAtRest (shelf_changed change (shelf_of notes))) holds.shelved.rest;
      stands =
          ap (λ (change : Change). (shelf_changed change (shelf_of notes)).stands) other ∙ holds.shelved.stands;
      chain = holds.shelved.chain;
      sizes = holds.shelved.sizes;
      lines = lines-none own.ledger list (what ∷ notes) none;
      told = told-none own.ledger list (what ∷ notes) none;
      closed = as-other (λ change. IsUsedBy change notes) tt;
    };
    drawn =
        as-other (λ change. AreDrawn (shelf_changed change (shelf_of notes)).told core.numbers.next) holds.drawn;
    asks = holds.asks;
    under_way =
        as-other
        (λ change.
        IsOpen (tried_in own.ledger.unload) own.ledger.first (shelf_changed change (shelf_of notes)) core.drawn
        (unloads_in core.transactions.begun))
        holds.under_way;
    reports = holds.reports;
    owes = holds.owes;
  }
    where
      as-other : (P : Change → Type 0) → P Other → P (change_of what)
      as-other P is = subst P (sym other) is
