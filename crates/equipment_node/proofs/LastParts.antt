-- That the parts behind the works come to the end of a step.
use Rattle.std.proofs.Common.{◌≡◌, inr, refl, sym, ap, subst, ◌∙◌, arith, ℕ, ◌+◌, ◌<◌, ◌≤◌, ◌%◌, List, [], ◌∷◌}
use Rattle.std.proofs.Common.{length, Option, Some, None}
use Rattle.std.specs.Prelude.{Result, Ok, Err, sum}
use Rattle.std.specs.List.{slice_get}
use Rattle.std.specs.Option.{option_map}
use Rattle.disk_base.specs.Story.{Story}
use Rattle.disk_base.specs.declared.disk.Disk as disk
use Rattle.gem_spool.specs.Oldest.{ReadsOldest, message_in}
use Rattle.gem_spool.specs.declared.count.Count.{Count}
use Rattle.gem_spool.specs.declared.kept.Kept.{Kept}
use Rattle.gem_spool.specs.declared.spool.GemSpool.{GemSpool}
use Rattle.gem_spool.specs.declared.works.Work.{Work}
use Rattle.gem_spool.specs.Standing.{Standing, Stands}
use Rattle.message_flow.specs.declared.step.Note.{Note}
use Rattle.message_flow.specs.declared.step.StepOut.{StepOut}
use Rattle.spool_file.specs.File.{SpoolFile, file_in}
use Rattle.spool_file.specs.Slot.{Message}
use Rattle.spool_slots.specs.Spool.{SpoolView}
use Rattle.trace_log.specs.Log.{Happening}
use Rattle.trace_log.specs.Names.{Spooled}
use Rattle.trace_log.specs.Text.{printed_note}
use Rattle.message_end.specs.Core.{EndView, Step, Went, and_then, step_in}
use Rattle.message_end.specs.Core.Went.{Goes, Spent}
use Rattle.message_end.specs.Laws.{read_as, went_as}
use Rattle.message_end.specs.Duties.{all_done}
use Rattle.message_end.specs.Parts.{Node, after_parts, after_turn, closes, core_step, on_the_way, went_with, with_own}
use Rattle.message_end.proofs.Leaving.{read-parts}
use Rattle.spool_ledger.specs.Ledger.{LedgerView, Numbered, carried_out}
use Rattle.spool_ledger.specs.Sizes.{oldest_of as oldest_size}
use Rattle.spool_ledger.specs.Unloading.{next_number}
use Rattle.equipment_tables.specs.Tables.{most_transmitted}
use Rattle.spool_works.specs.declared.ended.Ended.{Ended}
use Rattle.spool_works.specs.declared.ended.Ended.TheVariants as ended
use Rattle.tool_step.specs.declared.kind.Kind.{Kind}
use Rattle.equipment_node.specs.Amid.{DoesLast, EndsSo, HasEnded, HasEndedSpent, IsAt, Keeps, ServesLast, asked_node}
use Rattle.equipment_node.specs.Amid.{done_last, served_node}
use Rattle.tool_step.specs.Disk.{standing_in}
use Rattle.tool_step.specs.Equipment.{EquipmentView, file_step, node_step, oldest_of, served_step, with_node}
use Rattle.tool_step.specs.Equipment.{went_with_file}
use Rattle.spool_works.specs.Found.{spooled_of}
use Rattle.tool_step.specs.Own.{OwnView, ToolDuty, ToolPart, ToolTurn, turn_of, unowed}
use Rattle.tool_step.specs.declared.owed.Owed.{Owed}
use Rattle.tool_step.specs.declared.owed.Owed.TheVariants.{Answered, Keep, Recipes}
use Rattle.tool_step.specs.Recipes.{owes_recipes, recipes_text}
use Rattle.tool_step.specs.Sent.{answer_duties, text_of}
use Rattle.tool_step.specs.Setup.{accepted_item}
use Rattle.tool_step.specs.Spooling.{end_of_spooling, taking_turn, unload_part}
use Rattle.tool_step.specs.Step.{last_parts, offer, owed_turn}
use Rattle.equipment_node.specs.Stepping.{IsClear, IsTold}
use Rattle.tool_step.specs.Taking.{taking}
use Rattle.spool_file.proofs.Contents.{IsHeld}
use Rattle.equipment_node.proofs.Found.{oldest-good}
use Rattle.equipment_node.proofs.OnDisk.{kept-of}
use Rattle.equipment_node.proofs.Staying.{HasRested, last-rested}

same-step : {S : Type 0} {a b : Step S Note} → Goes a ≡ Goes b → a ≡ b
same-step same = cc

same-spent : {S : Type 0} {a b : Step S Note} → Spent a ≡ Spent b → a ≡ b
same-spent same = cc

-- ---- the spool, where the list stays

still-standing :
    (s : EquipmentView) (node : Node OwnView Kind) → HasRested s.node.own.ledger node.own.ledger
    → standing_in s ≡ standing_in (with_node s node)
still-standing s node rested =
    ap (λ (n : ℕ). record { next = n + sum s.node.own.ledger.sizes; file = s.file }) (sym rested.first)
    ∙ ap (λ (sizes : List ℕ). record { next = node.own.ledger.first + sum sizes; file = s.file }) (sym rested.sizes)

abbrev listed : ℕ → List ℕ → Numbered
listed first sizes = record { first = first; sizes = sizes }

owes-none : (v : LedgerView) → listed v.first v.sizes ≡ v.stood → [] ≡ v.works → carried_out v ≡ v
owes-none v stood works =
    ap (λ (list : Numbered). record v { stood = list; works = [] }) stood
    ∙ ap (λ (all : List Work). record v { stood = v.stood; works = all }) works

module _ {D : Type 0} (members : disk.Ghosts D) where
  still-clear :
      (v : SpoolView D) (s : EquipmentView) (node : Node OwnView Kind)
      → HasRested s.node.own.ledger node.own.ledger → IsClear members v s → IsClear members v (with_node s node)
  still-clear v s node rested clear = record {
    stands = subst (λ (st : Standing). Stands members v st) (still-standing s node rested) clear.stands;
    owes =
        owes-none node.own.ledger
        (ap (λ (n : ℕ). listed n node.own.ledger.sizes) rested.first
        ∙ ap (λ (sizes : List ℕ). listed s.node.own.ledger.first sizes) rested.sizes
        ∙ ap (λ (l : LedgerView). l.stood) clear.owes ∙ sym rested.stood)
        (ap (λ (l : LedgerView). l.works) clear.owes ∙ sym rested.works);
    sizes_are = clear.sizes_are ∙ sym rested.sizes;
    slots_are = clear.slots_are ∙ sym rested.slots;
    version_is = clear.version_is;
  }

  -- ---- the parts

  -- what the last parts alone come to
  abbrev LastSo : ℕ → Step EquipmentView Happening → Node OwnView Kind → StepOut
      → Result (GemSpool D) (Ended D) → Type 0
  LastSo now t node out (Ok g) = HasEnded members now t node out g
  LastSo now t node out (Err (ended.NumbersSpent spent)) = HasEndedSpent members now t out spent
  LastSo now t node out (Err (ended.DiskFailed spent)) = ⊥
  LastSo now t node out (Err (ended.NoMemory spent)) = Keeps members spent (standing_in t.next)

  -- one went as the other, but for what is kept beside the core where the numbers are spent
  abbrev pub GoesAs : Went (Node OwnView Kind) Note → Went (Node OwnView Kind) Note → Type 0
  GoesAs (Goes step) other = other ≡ Goes step
  GoesAs (Spent step) other = (last : Step (Node OwnView Kind) Note) × (other ≡ Spent last) × (last.notes ≡ step.notes)

  goes-same : (one other : Went (Node OwnView Kind) Note) → one ≡ other → GoesAs one other
  goes-same (Goes step) other same = sym same
  goes-same (Spent step) other same = (step, sym same, refl)

  -- what waits is answered, whether the number of the next message was asked for before that or not
  module _ (now : ℕ) (n : Node OwnView Kind) (out : StepOut) (oldest : Option (ℕ × Spooled)) (there : Option Spooled)
      (same : (e : EndView Kind) → unload_part there (unowed n.own) e ≡ taking oldest (unowed (asked_node n).own) e)
    where
      abbrev rest : List ToolPart
      rest = end_of_spooling ∷ offer now ∷ closes ∷ []

      behind : (went : Went (EndView Kind) Note)
          → GoesAs (and_then (went_with (unowed (asked_node n).own) went) (after_parts printed_note (taking oldest ∷ rest)))
          (and_then (went_with (unowed n.own) went) (after_parts printed_note (unload_part there ∷ rest)))
      behind (Spent next) = (with_own (unowed n.own) next, refl, refl)
      behind (Goes next) =
          goes-same (after_parts printed_note (taking oldest ∷ rest) (with_own (unowed (asked_node n).own) next))
          (after_parts printed_note (unload_part there ∷ rest) (with_own (unowed n.own) next))
          (sym
          (ap
          (λ (turn : ToolTurn).
          and_then (after_turn printed_note turn (with_own (unowed n.own) next)) (after_parts printed_note rest))
          (same next.next)))

      pub answered-first :
          GoesAs (after_parts printed_note (done_last oldest now) (on_the_way (asked_node n) out))
          (after_parts printed_note (last_parts there now) (on_the_way n out))
      answered-first = go n.own.owed
        where
          turned : (duties : List ToolDuty)
              → GoesAs
              (and_then (after_turn printed_note (turn_of (unowed (asked_node n).own) duties) (on_the_way (asked_node n) out))
              (after_parts printed_note (taking oldest ∷ rest)))
              (and_then (after_turn printed_note (turn_of (unowed n.own) duties) (on_the_way n out))
              (after_parts printed_note (unload_part there ∷ rest)))
          turned duties = behind (all_done printed_note duties (core_step (on_the_way n out)))

          go : (owed : Option Owed)
              → GoesAs
              (and_then (after_turn printed_note (owed_turn owed (unowed (asked_node n).own)) (on_the_way (asked_node n) out))
              (after_parts printed_note (taking oldest ∷ rest)))
              (and_then (after_turn printed_note (owed_turn owed (unowed n.own)) (on_the_way n out))
              (after_parts printed_note (unload_part there ∷ rest)))
          go None = turned []
          go (Some (Recipes asked primary)) = turned []
          go (Some (Answered given primary)) = turned (answer_duties (recipes_text n.own given) primary)
          go (Some (Keep primary)) = turned (answer_duties (text_of n.own (accepted_item primary)) primary)

  module _ (now : ℕ) (t : Step EquipmentView Happening) (mid new : Node OwnView Kind) (out after : StepOut)
      (g : GemSpool D) (oldest : Option (ℕ × Spooled)) (at : IsAt members t t.next.node out g)
      (asked : mid ≡ asked_node t.next.node)
      (same : (e : EndView Kind)
      → unload_part (oldest_of t.next) (unowed t.next.node.own) e
      ≡ taking oldest (unowed (asked_node t.next.node).own) e)
    where
      abbrev parts : List ToolPart
      parts = last_parts (oldest_of t.next) now

      abbrev went : Went (Node OwnView Kind) Happening
      went = after_parts Some parts (node_step t)

      start : on_the_way t.next.node out ≡ read_as printed_note (node_step t)
      start =
          ap (λ (notes : List Note). record { next = t.next.node; notes = notes; written = out.line.items }) at.notes
          ∙ ap (λ (written : List ℕ). record {
            next = t.next.node;
            notes = (read_as {N = Note} printed_note (node_step t)).notes;
            written = written;
          }) at.written

      read : after_parts printed_note parts (on_the_way t.next.node out) ≡ went_as printed_note went
      read =
          ap (after_parts printed_note parts) start
          ∙ read-parts {S = OwnView} {K = Kind} {N = Note} printed_note parts (node_step t)

      -- what the code came to, as the parts of the definition come to it
      come-to : (came : Went (Node OwnView Kind) Note)
          → after_parts printed_note (done_last oldest now) (on_the_way mid out) ≡ came
          → GoesAs came (went_as printed_note went)
      come-to came is =
          subst (λ (w : Went (Node OwnView Kind) Note). GoesAs came w) read
          (subst
          (λ (w : Went (Node OwnView Kind) Note). GoesAs w (after_parts printed_note parts (on_the_way t.next.node out)))
          (ap (λ (node : Node OwnView Kind). after_parts printed_note (done_last oldest now) (on_the_way node out))
          (sym asked) ∙ is) (answered-first now t.next.node out oldest (oldest_of t.next) same))

      last-done :
          (result : Result (GemSpool D) (Ended D))
          → DoesLast members g (done_last oldest now) mid out new after result
          → LastSo now t new after result
      last-done (Ok h) does = go went refl (come-to (Goes (on_the_way new after)) does.1)
        where
          go : (w : Went (Node OwnView Kind) Happening) → went ≡ w
              → went_as printed_note w ≡ Goes (on_the_way new after) → LastSo now t new after (Ok h)
          go (Goes step) is whole = record {
            step = file_step t.next step;
            is = ap (went_with_file t.next) is;
            at = record {
              node_is = sym (ap (λ (x : Step (Node OwnView Kind) Note). x.next) (same-step whole));
              clear =
                  subst (λ (g2 : GemSpool D). IsClear members g2.spool (with_node t.next step.next)) (sym does.0)
                  (still-clear g.spool t.next step.next
                  (subst
                  (λ (w2 : Went (Node OwnView Kind) Happening). HasRested t.next.node.own.ledger (step_in w2).next.own.ledger)
                  is (last-rested (oldest_of t.next) now (node_step t)))
                  at.clear);
              told = subst (λ (g2 : GemSpool D). (s : Story) × (members.told g2.spool.disk ≡ Some s)) (sym does.0) at.told;
              notes = sym (ap (λ (x : Step (Node OwnView Kind) Note). x.notes) (same-step whole));
              written = sym (ap (λ (x : Step (Node OwnView Kind) Note). x.written) (same-step whole));
            };
          }
          go (Spent step) is whole = absurd (cc)
      last-done (Err (ended.NumbersSpent spent)) does = go went refl came.1
        where
          came : GoesAs (Spent (on_the_way (record new { own = does.1.own }) after)) (went_as printed_note went)
          came = come-to (Spent (on_the_way (record new { own = does.1.own }) after)) does.1.is

          go : (w : Went (Node OwnView Kind) Happening) → went ≡ w
              → went_as printed_note w ≡ Spent came.0
              → LastSo now t new after (Err (ended.NumbersSpent spent))
          go (Goes step) is whole = absurd (cc)
          go (Spent step) is whole = record {
            step = file_step t.next step;
            is = ap (went_with_file t.next) is;
            notes = sym (ap (λ (x : Step (Node OwnView Kind) Note). x.notes) (same-spent whole) ∙ came.2);
            keeps =
                kept-of members g.spool (standing_in (with_node t.next step.next)) spent does.0
                (subst (λ (st : Standing). Stands members g.spool st)
                (still-standing t.next step.next
                (subst
                (λ (w2 : Went (Node OwnView Kind) Happening). HasRested t.next.node.own.ledger (step_in w2).next.own.ledger)
                is (last-rested (oldest_of t.next) now (node_step t))))
                at.clear.stands);
          }
      last-done (Err (ended.DiskFailed spent)) does = absurd does
      last-done (Err (ended.NoMemory spent)) does =
          kept-of members g.spool (standing_in t.next) spent does at.clear.stands

  -- the recipes are asked, and then they are done
  module _ (now : ℕ) (t : Step EquipmentView Happening) (mid new : Node OwnView Kind) (out after : StepOut)
      (g : GemSpool D) (oldest : Option (ℕ × Spooled)) (at : IsAt members t t.next.node out g)
      (asked : mid ≡ asked_node t.next.node)
      (same : (e : EndView Kind)
      → unload_part (oldest_of t.next) (unowed t.next.node.own) e
      ≡ taking oldest (unowed (asked_node t.next.node).own) e)
    where
      served-at : IsAt members (served_step t) (served_step t).next.node out g
      served-at = record {
        node_is = refl;
        clear = record {
          stands = at.clear.stands;
          owes = at.clear.owes;
          sizes_are = at.clear.sizes_are;
          slots_are = at.clear.slots_are;
          version_is = at.clear.version_is;
        };
        told = at.told;
        notes = at.notes;
        written = at.written;
      }

      done : (result : Result (GemSpool D) (Ended D))
          → DoesLast members g (done_last oldest now) (served_node t.next.recipes mid) out new after result
          → LastSo now (served_step t) new after result
      done =
          last-done now (served_step t) (served_node t.next.recipes mid) new out after g oldest served-at
          (ap (served_node t.next.recipes) asked) same

      pub served-done :
          (result : Result (GemSpool D) (Ended D))
          → ServesLast members t.next.recipes g (done_last oldest now) mid out new after result
          → EndsSo members now t new after result
      served-done (Ok h) does = done (Ok h) does
      served-done (Err (ended.NumbersSpent spent)) does = done (Err (ended.NumbersSpent spent)) does
      served-done (Err (ended.DiskFailed spent)) does = (
        inr (ap (λ (n : Node OwnView Kind). owes_recipes n.own.owed) (sym asked) ∙ does.1),
        does.2 ∙ at.notes,
        kept-of members g.spool (standing_in t.next) spent does.0 at.clear.stands,
      )
      served-done (Err (ended.NoMemory spent)) does =
          kept-of members g.spool (standing_in t.next) spent does at.clear.stands

  -- ---- how they begin

  -- none is asked for
  pub none-asked :
      (t : Step EquipmentView Happening)
      → next_number (most_transmitted t.next.node.own.tables) t.next.node.own.ledger ≡ None
      → (e : EndView Kind) → unload_part (oldest_of t.next) (unowed t.next.node.own) e
      ≡ taking None (unowed (asked_node t.next.node).own) e
  none-asked t none e =
      ap (λ (number : Option ℕ).
      taking_turn number (oldest_of t.next) (unowed (asked_node t.next.node).own) e) none

  -- none is there
  pub none-there :
      (t : Step EquipmentView Happening) (number : ℕ)
      → next_number (most_transmitted t.next.node.own.tables) t.next.node.own.ledger ≡ Some number
      → slice_get t.next.file.list 0 ≡ None
      → (e : EndView Kind) → unload_part (oldest_of t.next) (unowed t.next.node.own) e
      ≡ taking None (unowed (asked_node t.next.node).own) e
  none-there t number some none e =
      ap (λ (n : Option ℕ). taking_turn n (oldest_of t.next) (unowed (asked_node t.next.node).own) e) some
      ∙ ap (λ (m : Option Message).
      taking_turn (Some number) (option_map spooled_of m) (unowed (asked_node t.next.node).own) e) none

  pub one-there :
      (t : Step EquipmentView Happening) (number : ℕ) (m : Message) (report : Spooled)
      → next_number (most_transmitted t.next.node.own.tables) t.next.node.own.ledger ≡ Some number
      → slice_get t.next.file.list 0 ≡ Some m → report ≡ spooled_of m
      → (e : EndView Kind) → unload_part (oldest_of t.next) (unowed t.next.node.own) e
      ≡ taking (Some (number, report)) (unowed (asked_node t.next.node).own) e
  one-there t number m report some is same e =
      ap (λ (n : Option ℕ). taking_turn n (oldest_of t.next) (unowed (asked_node t.next.node).own) e) some
      ∙ ap (λ (x : Option Message).
      taking_turn (Some number) (option_map spooled_of x) (unowed (asked_node t.next.node).own) e) is
      ∙ ap (λ (x : Spooled). taking_turn (Some number) (Some x) (unowed (asked_node t.next.node).own) e) (sym same)

  -- a message was read: it is the first one of the list, and can go
  module _ (t : Step EquipmentView Happening) (number : ℕ) (v w : SpoolView D) (kept : Kept) (report : Spooled)
      (clear : IsClear members v t.next) (told : IsTold (members.told v.disk))
      (some : next_number (most_transmitted t.next.node.own.tables) t.next.node.own.ledger ≡ Some number)
      (slots : ℕ) (reads : ReadsOldest members v w slots (Ok kept))
      (is : kept.stream < 128 → kept.function % 2 ≡ 1 → length kept.body ≤ 1048576
      → report ≡ record { stream = kept.stream; function = kept.function; body = kept.body })
    where
      first : slice_get (file_in told.0.now.bytes).list 0 ≡ Some (message_in v.first kept)
      first = reads.2 told.0 told.1

      good : IsHeld (message_in v.first kept)
      good =
          oldest-good told.0.now.bytes t.next.file (message_in v.first kept)
          (clear.stands.file told.0 told.1).stands first

      pub read-there :
          (e : EndView Kind) → unload_part (oldest_of t.next) (unowed t.next.node.own) e
          ≡ taking (Some (number, report)) (unowed (asked_node t.next.node).own) e
      read-there e =
          one-there t number (message_in v.first kept) report some
          (ap (λ (file : SpoolFile). slice_get file.list 0) (clear.stands.file told.0 told.1).stands.is ∙ first)
          (is good.stream good.odd good.short) e

  -- the list is empty
  pub no-list : (t : Step EquipmentView Happening) (v : SpoolView D) → IsClear members v t.next → v.len ≡ 0
      → slice_get t.next.file.list 0 ≡ None
  no-list t v clear none = go t.next.file.list (sym (ap (λ (n : Count). n.len) clear.stands.count) ∙ none)
    where
      go : (list : List Message) → length list ≡ 0 → slice_get list 0 ≡ None
      go [] none = refl
      go (m ∷ list) none = absurd (omega (arith, none))

  -- a step so far, as the code has it before it asks for the next message
  pub with-node : (t : Step EquipmentView Happening) (node : Node OwnView Kind) (out : StepOut) (g : GemSpool D)
      → IsAt members t node out g → IsAt members t t.next.node out g
  with-node t node out g at =
      record { node_is = refl; clear = at.clear; told = at.told; notes = at.notes; written = at.written }

  -- a read leaves the spool as it is
  pub read-at : (t : Step EquipmentView Happening) (out : StepOut) (g h : GemSpool D)
      → IsAt members t t.next.node out g → Stands members h.spool (standing_in t.next)
      → members.told h.spool.disk ≡ members.told g.spool.disk → IsAt members t t.next.node out h
  read-at t out g h at stands same = record {
    node_is = refl;
    clear = record {
      stands = stands;
      owes = at.clear.owes;
      sizes_are = at.clear.sizes_are;
      slots_are = at.clear.slots_are;
      version_is = at.clear.version_is;
    };
    told = (at.told.0, same ∙ at.told.1);
    notes = at.notes;
    written = at.written;
  }

-- what was asked for
pub asked-is :
    (old new : Node OwnView Kind) (t : Step EquipmentView Happening) → old ≡ t.next.node
    → new.own ≡ (asked_node old).own → new.core ≡ old.core → new ≡ asked_node t.next.node
asked-is old new t same own core =
    ap (λ (o : OwnView). record { own = o; core = new.core }) own
    ∙ ap (λ (e : EndView Kind). record { own = (asked_node old).own; core = e }) core
    ∙ ap asked_node same

-- which leaves the oldest message as it is
pub asked-oldest :
    (old new : Node OwnView Kind) (t : Step EquipmentView Happening) → old ≡ t.next.node
    → new.own ≡ (asked_node old).own → new.core ≡ old.core
    → oldest_size new.own.ledger.sizes ≡ oldest_size t.next.node.own.ledger.sizes
asked-oldest old new t same own core =
    ap (λ (n : Node OwnView Kind). oldest_size n.own.ledger.sizes) (asked-is old new t same own core)

pub number-is :
    (old : Node OwnView Kind) (t : Step EquipmentView Happening) → old ≡ t.next.node → (number : Option ℕ)
    → number ≡ next_number (most_transmitted old.own.tables) old.own.ledger
    → next_number (most_transmitted t.next.node.own.tables) t.next.node.own.ledger ≡ number
number-is old t same number is =
    sym (is ∙ ap (λ (n : Node OwnView Kind). next_number (most_transmitted n.own.tables) n.own.ledger) same)
