-- That system bytes are reserved as a step begins.
use Rattle.std.proofs.Common.{◌≡◌, refl, sym, ap, subst, ◌∙◌, arith, ◌+◌, ◌-◌, ◌^◌, ◌≤◌, nat_le, nat_lt, ◌&&◌, not, ◌∷◌}
use Rattle.std.proofs.Common.{Bool, true, false, is_some, ℕ, List, [], Option, Some, None, if◌then◌else◌}
use Rattle.std.proofs.lemmas.Bool.Decides.{nat_tests}
use Rattle.disk_base.specs.Story.{Story}
use Rattle.disk_base.specs.Through.{EachImage, GoesThrough}
use Rattle.disk_base.specs.declared.disk.Disk as disk
use Rattle.gem_spool.specs.declared.spool.GemSpool.{GemSpool}
use Rattle.gem_spool.specs.Spool.{ReservesFrom}
use Rattle.gem_spool.specs.Standing.{Stands}
use Rattle.gem_spool.specs.Works.{IsMarked, reserved as marked}
use Rattle.message_flow.specs.declared.step.Note.{Note}
use Rattle.message_flow.specs.declared.step.StepOut.{StepOut}
use Rattle.spool_slots.specs.declared.states.Spent.{Spent as Device}
use Rattle.message_end.specs.Calls.{IsCarried}
use Rattle.message_end.specs.Core.{Command, EndView, Step, at_first}
use Rattle.message_end.specs.Core.Went.{Goes, Spent}
use Rattle.message_end.specs.Parts.{Node, core_after}
use Rattle.transact.specs.Numbers.{NumbersView}
use Rattle.tool_step.specs.declared.kind.Kind.{Kind}
use Rattle.equipment_node.specs.Amid.{HasOpened, Keeps, opened}
use Rattle.tool_step.specs.Disk.{reserve_works, standing_in}
use Rattle.spool_works.specs.DiskWorks.DiskWork.{Reserve}
use Rattle.tool_step.specs.Equipment.{EquipmentView, is_marked_out, needs_numbers, reserved, reserving, with_core}
use Rattle.tool_step.specs.Own.{OwnView}
use Rattle.equipment_node.specs.Stepping.{IsClear, IsMade, IsTold}
use Rattle.equipment_node.proofs.OnDisk.{kept-of}

-- as many are left as a step may need
abbrev pub has_enough : NumbersView → Bool
has_enough numbers = nat_le 128 (numbers.end - numbers.next)

pub no-need :
    (s : EquipmentView) (node : Node OwnView Kind) → node ≡ s.node → has_enough node.core.numbers ≡ true
    → needs_numbers s ≡ false
no-need s node same enough = go s.node.core.numbers (ap (λ (n : Node OwnView Kind). has_enough n.core.numbers) (sym same) ∙ enough)
  where
    go : (numbers : NumbersView) → has_enough numbers ≡ true → nat_lt numbers.end (numbers.next + 128) ≡ false
    go numbers is = grind (arith, nat_tests, is)

pub need :
    (s : EquipmentView) (node : Node OwnView Kind) → node ≡ s.node → has_enough node.core.numbers ≡ false
    → s.node.core.numbers.next ≤ s.node.core.numbers.end → needs_numbers s ≡ true
need s node same few ordered = go s.node.core.numbers (ap (λ (n : Node OwnView Kind). has_enough n.core.numbers) (sym same) ∙ few) ordered
  where
    go : (numbers : NumbersView) → has_enough numbers ≡ false → numbers.next ≤ numbers.end
        → nat_lt numbers.end (numbers.next + 128) ≡ true
    go numbers is ordered = grind (arith, nat_tests, is, ordered)

pub made-ordered : (s : EquipmentView) → IsMade s → s.node.core.numbers.next ≤ s.node.core.numbers.end
made-ordered s made = made.did.is.core.numbers.left.ordered

module _ {D : Type 0} (members : disk.Ghosts D) (s : EquipmentView) where
  needs-by : (needs : Bool) → needs_numbers s ≡ needs → opened s ≡ (if needs then reserved s else s)
  needs-by needs is = ap (λ (b : Bool). if b then reserved s else s) is

  reserving-by : (needs out : Bool) → needs_numbers s ≡ needs → is_marked_out s.file.mark.value ≡ out
      → reserving s
      ≡ (if needs then if out then Spent (at_first s) else Goes (at_first (reserved s)) else Goes (at_first s))
  reserving-by needs out is marks =
      ap (λ (b : Bool).
      if b then if is_marked_out s.file.mark.value then Spent (at_first s) else Goes (at_first (reserved s))
      else Goes (at_first s)) is
      ∙ ap (λ (b : Bool).
      if needs then if b then Spent (at_first s) else Goes (at_first (reserved s)) else Goes (at_first s)) marks

  -- a setup is kept where the file has an area
  abbrev HasArea : EquipmentView → Type 0
  HasArea x = is_some x.node.own.setup ≡ is_some x.file.setup.bytes

  pub opened-plain :
      (node : Node OwnView Kind) (g : GemSpool D) → node ≡ s.node → needs_numbers s ≡ false
      → IsClear members g.spool s → IsTold (members.told g.spool.disk) → HasArea s
      → HasOpened members s node g
  opened-plain node g node_is few clear told area =
      let same = needs-by false few in
      record {
        went =
            reserving-by false (is_marked_out s.file.mark.value) few refl
            ∙ ap (λ (x : EquipmentView). Goes (at_first x)) (sym same);
        node_is = node_is ∙ ap (λ (x : EquipmentView). x.node) (sym same);
        clear = subst (λ (x : EquipmentView). IsClear members g.spool x) (sym same) clear;
        area =
            subst (λ (x : EquipmentView). is_some s.node.own.setup ≡ is_some x.file.setup.bytes) (sym same) area;
        told = told;
      }

  -- there is room for more
  room-left : (g : GemSpool D) → IsClear members g.spool s → g.spool.mark + 4096 ≤ 2 ^ 32
      → is_marked_out s.file.mark.value ≡ false
  room-left g clear left = let same = clear.stands.mark in grind (arith, nat_tests, left, same)

  pub opened-more :
      (node : Node OwnView Kind) (g h : GemSpool D) (base : ℕ)
      → node ≡ with_core (core_after (Command.More 4096) s.node.core) s.node → needs_numbers s ≡ true
      → IsClear members g.spool s → IsTold (members.told g.spool.disk) → HasArea s
      → ReservesFrom members g h (Some base)
      → Stands members h.spool (marked (standing_in s))
      → ((t : Story) → members.told g.spool.disk ≡ Some t → GoesThrough t (members.told h.spool.disk) (IsMarked (standing_in s)))
      → HasOpened members s node h
  opened-more node g h base node_is needs clear told area done stands moments =
      let same = needs-by true needs in
      let through = moments told.0 told.1 in
      record {
        went =
            reserving-by true false needs (room-left g clear done.0.0.0)
            ∙ ap (λ (x : EquipmentView). Goes (at_first x)) (sym same);
        node_is = node_is ∙ ap (λ (x : EquipmentView). x.node) (sym same);
        clear =
            subst (λ (x : EquipmentView). IsClear members h.spool x) (sym same)
            (record {
              stands = stands;
              owes = clear.owes;
              sizes_are = clear.sizes_are;
              slots_are = clear.slots_are;
              version_is = clear.version_is;
            });
        area =
            subst (λ (x : EquipmentView). is_some s.node.own.setup ≡ is_some x.file.setup.bytes) (sym same) area;
        told = (through.0, through.1);
      }

  -- the recipes stay
  pub opened-recipes : (opened s).recipes ≡ s.recipes
  opened-recipes = go (needs_numbers s)
    where
      go : (needs : Bool) → (if needs then reserved s else s).recipes ≡ s.recipes
      go true = refl
      go false = refl

  -- by its definition
  pub opened-so : (node : Node OwnView Kind) (g : GemSpool D) → HasOpened members s node g
      → HasOpened members s (opened s).node g
  opened-so node g begin = record {
    went = begin.went;
    node_is = refl;
    clear = begin.clear;
    area = begin.area;
    told = begin.told;
  }

  pub marked-out :
      (g h : GemSpool D) (spent : Device D) → needs_numbers s ≡ true → IsClear members g.spool s
      → ReservesFrom members g h None → spent.disk ≡ h.spool.disk
      → (reserving s ≡ Spent (at_first s)) × Keeps members spent (standing_in s)
  marked-out g h spent needs clear done same = (
    reserving-by true true needs
        (let none = done.1 in let mark = clear.stands.mark in grind (arith, nat_tests, none, mark)),
    kept-of members g.spool (standing_in s) spent (same ∙ ap (λ (x : GemSpool D). x.spool.disk) done.0) clear.stands,
  )

  pub mark-failed :
      (g : GemSpool D) → needs_numbers s ≡ true → IsClear members g.spool s → g.spool.mark + 4096 ≤ 2 ^ 32
      → reserve_works s ≡ Reserve ∷ []
  mark-failed g needs clear left =
      ap (λ (b : Bool). if b && not (is_marked_out s.file.mark.value) then Reserve ∷ [] else []) needs
      ∙ ap (λ (b : Bool). if true && not b then Reserve ∷ [] else []) (room-left g clear left)

same-story : (a b : Story) → Some a ≡ Some b → a ≡ b
same-story a b same = cc

-- whatever was left at the end of a stretch
pub at-last : (s : Story) (after : Option Story) (P : List ℕ → Type 0) (t : Story) → GoesThrough s after P
    → after ≡ Some t
    → EachImage P t.now
at-last s after P t through is =
    subst (λ (x : Story). EachImage P x.now) (same-story through.0 t (sym through.1 ∙ is)) through.2.last

-- ---- what the core does for it

goes-same : {K : Type 0} {a b : Step (EndView K) Note} → Goes a ≡ Goes b → a ≡ b
goes-same same = cc

module _ (old new : EndView Kind) (out_old out_new : StepOut)
    (is : IsCarried (Command.More 4096) old out_old new out_new) where
  pub more-core : new ≡ core_after (Command.More 4096) old
  more-core = sym (ap (λ (x : Step (EndView Kind) Note). x.next) (goes-same is))
