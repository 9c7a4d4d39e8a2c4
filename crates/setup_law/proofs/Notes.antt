-- One note more: what keeps the law, and what stands behind it.
use Rattle.std.proofs.Common.{◌≡◌, refl, sym, ◌∙◌, ap, subst, inl, inr, Bool, true, false, cond, ℕ, List, [], ◌∷◌, Option, Some, None}
use Rattle.std.specs.Option.{unwrap_or}
use Rattle.message_flow.specs.declared.message.Message.{Message}
use Rattle.setup_store.specs.Entries.{Entry}
use Rattle.trace_log.specs.Log.{Happening}
use Rattle.trace_log.specs.Log.Past.{Asked, Commanded}
use Rattle.trace_log.specs.Names.{Spooled}
use Rattle.trace_log.specs.declared.commands.ToolCommand.{ToolCommand}
use Rattle.equipment_tables.specs.declared.plan.EquipmentPlan.{EquipmentPlan}
use Rattle.equipment_tables.specs.Setup.{asked_of}
use Rattle.setup_law.specs.Setup.{Change, Due, HasRoom, IsFoundOf, IsNext, KeepsSetup, MayChange, carried_line, change_of, due_behind, due_behind_request, due_in, is_accepted, keeping_behind, keeping_in, list_behind, list_by, list_in, tables_in, to_keep, with_kept}
use Rattle.setup_law.specs.Setup.Change.{Other}
use Rattle.setup_law.specs.Setup.Due.{AKeep, AStart, ASetup, Anything, Entries, ItsEnd}

module _ (plan : EquipmentPlan) (held : Option (List Entry)) where
  -- the law holds so far, and this is due, with this list, and with this primary being kept
  pub record Stands (due : Due) (list : Option (List Entry)) (keeping : Option Message) (notes : List Happening)
      : Type 0 where
    pub keeps : KeepsSetup plan held notes
    pub due_is : due_in plan held notes ≡ due
    pub list_is : list_in held notes ≡ list
    pub keeping_is : keeping_in notes ≡ keeping

  -- between two steps
  abbrev pub Rests : Option (List Entry) → List Happening → Type 0
  Rests list notes = Stands Anything list None notes

  -- a note that is allowed where that is due
  one-more : (due : Due) (list : Option (List Entry)) (keeping : Option Message) (what : Happening)
      (notes : List Happening) → Stands due list keeping notes → IsNext plan held notes due what
      → Stands (due_behind (change_of what) (list_by plan held notes (change_of what)) due)
      (list_behind (change_of what) list) (keeping_behind (change_of what) keeping) (what ∷ notes)
  one-more due list keeping what notes at may = record {
    keeps = (subst (λ d. IsNext plan held notes d what) (sym at.due_is) may, at.keeps);
    due_is = ap (due_behind (change_of what) (list_by plan held notes (change_of what))) at.due_is;
    list_is = ap (list_behind (change_of what)) at.list_is;
    keeping_is = ap (keeping_behind (change_of what)) at.keeping_is;
  }

  -- ---- notes of something else

  -- of nothing of the setup
  pub other-rests : (list : Option (List Entry)) (what : Happening) (notes : List Happening) → change_of what ≡ Other
      → Rests list notes → Rests list (what ∷ notes)
  other-rests list what notes is at =
      let next : (c : Change) → c ≡ Other → MayChange plan held notes c =
      λ c same. subst (MayChange plan held notes) (sym same) tt in
      let more = one-more Anything list None what notes at (next (change_of what) is) in
      record {
        keeps = more.keeps;
        due_is =
            more.due_is ∙ ap (λ c. due_behind c (list_by plan held notes c) Anything) is;
        list_is = more.list_is ∙ ap (λ c. list_behind c list) is;
        keeping_is = more.keeping_is ∙ ap (λ c. keeping_behind c None) is;
      }

  -- a command of the tool that counts, or is refused
  pub command-rests : (list : Option (List Entry)) (command : ToolCommand) (notes : List Happening) → Rests list notes
      → Rests list (Happening.Recorded (Commanded command) ∷ notes)
  command-rests list command notes at =
      one-more Anything list None (Happening.Recorded (Commanded command)) notes at tt

  pub refused-rests : (list : Option (List Entry)) (notes : List Happening) → Rests list notes
      → Rests list (Happening.Refused ∷ notes)
  refused-rests list notes at = one-more Anything list None Happening.Refused notes at tt

  -- ---- a request of the host

  -- one that isn't to be kept: it isn't accepted, or there is no room for any list
  pub request-rests : (list : Option (List Entry)) (request : Message) (notes : List Happening)
      → to_keep plan held notes (Asked request) ≡ None → Rests list notes
      → Rests list (Happening.Recorded (Asked request) ∷ notes)
  request-rests list request notes none at =
      let more = one-more Anything list None (Happening.Recorded (Asked request)) notes at
      (subst HasRoom (sym none) tt) in
      record {
        keeps = more.keeps;
        due_is = more.due_is ∙ ap (due_behind_request (Asked request)) none;
        list_is = more.list_is;
        keeping_is = more.keeping_is;
      }

  -- one that is, and for whose list there is room: it counts, it is being kept, it is kept
  module _ (list kept_list : List Entry) (request : Message) (notes : List Happening)
      (is : to_keep plan held notes (Asked request) ≡ Some kept_list) (room : HasRoom (Some kept_list))
      (at : Rests (Some list) notes)
    where
      pub counts : Stands (AKeep request) (Some list) None (Happening.Recorded (Asked request) ∷ notes)
      counts =
          let more = one-more Anything (Some list) None (Happening.Recorded (Asked request)) notes at
          (subst HasRoom (sym is) room) in
          record {
            keeps = more.keeps;
            due_is = more.due_is ∙ ap (due_behind_request (Asked request)) is;
            list_is = more.list_is;
            keeping_is = more.keeping_is;
          }

      pub being-kept : Stands (ItsEnd request) (Some list) (Some request)
          (Happening.Keeping request ∷ Happening.Recorded (Asked request) ∷ notes)
      being-kept =
          one-more (AKeep request) (Some list) None (Happening.Keeping request)
          (Happening.Recorded (Asked request) ∷ notes) counts refl

      pub kept-rests : Rests (with_kept request (Some list))
          (Happening.Kept request ∷ Happening.Keeping request ∷ Happening.Recorded (Asked request) ∷ notes)
      kept-rests =
          one-more (ItsEnd request) (Some list) (Some request) (Happening.Kept request)
          (Happening.Keeping request ∷ Happening.Recorded (Asked request) ∷ notes) being-kept (inl refl)

      -- power is lost meanwhile
      pub cut-off : Stands AStart (Some list) (Some request)
          (Happening.Power ∷ Happening.Keeping request ∷ Happening.Recorded (Asked request) ∷ notes)
      cut-off =
          one-more (ItsEnd request) (Some list) (Some request) Happening.Power
          (Happening.Keeping request ∷ Happening.Recorded (Asked request) ∷ notes) being-kept (inr refl)

  -- ---- a start

  -- the notes of a list that is carried out, and the end of the step
  abbrev pub carried_behind : List Entry → List Happening → List Happening
  carried_behind [] notes = Happening.StepEnded ∷ notes
  carried_behind (entry ∷ left) notes = carried_behind left (carried_line (tables_in plan notes) entry ∷ notes)

  entry-counts : (entry : Entry) (left : List Entry) (list : Option (List Entry)) (notes : List Happening)
      → Stands (Entries (entry ∷ left)) list None notes
      → Stands (Entries left) list None (carried_line (tables_in plan notes) entry ∷ notes)
  entry-counts entry left list notes at = go (is_accepted plan notes entry) refl
    where
      line : Bool → Happening
      line b = cond b (Happening.Recorded (asked_of entry)) Happening.Refused

      go : (b : Bool) → line b ≡ line (is_accepted plan notes entry) → Stands (Entries left) list None (line b ∷ notes)
      go true is = one-more (Entries (entry ∷ left)) list None (line true) notes at is
      go false is = one-more (Entries (entry ∷ left)) list None (line false) notes at is

  pub carried-rests : (left : List Entry) (list : Option (List Entry)) (notes : List Happening)
      → Stands (Entries left) list None notes → Rests list (carried_behind left notes)
  carried-rests [] list notes at = one-more (Entries []) list None Happening.StepEnded notes at refl
  carried-rests (entry ∷ left) list notes at =
      carried-rests left list (carried_line (tables_in plan notes) entry ∷ notes) (entry-counts entry left list notes at)

  -- behind anything between two steps, a loss within a keep, and nothing at all
  abbrev pub MayStart : Due → Type 0
  MayStart AStart = Unit {0}
  MayStart Anything = Unit {0}
  MayStart _ = ⊥

  pub start-rests :
      (due : Due) (list : Option (List Entry)) (keeping : Option Message) (found : Option (List Entry))
      (spooled : List (ℕ × Spooled)) (base : ℕ) (notes : List Happening) → MayStart due
      → Stands due list keeping notes → IsFoundOf list keeping found
      → Rests found
      (carried_behind (unwrap_or found []) (Happening.Setup found ∷ Happening.EquipmentStarted spooled base ∷ notes))
  start-rests due list keeping found spooled base notes may at is =
      carried-rests (unwrap_or found []) found
      (Happening.Setup found ∷ Happening.EquipmentStarted spooled base ∷ notes)
      (one-more ASetup list keeping (Happening.Setup found) (Happening.EquipmentStarted spooled base ∷ notes)
      (started due may at) found-there)
    where
      started : (due : Due) → MayStart due → Stands due list keeping notes
          → Stands ASetup list keeping (Happening.EquipmentStarted spooled base ∷ notes)
      started AStart may at =
          one-more AStart list keeping (Happening.EquipmentStarted spooled base) notes at tt
      started Anything may at =
          one-more Anything list keeping (Happening.EquipmentStarted spooled base) notes at tt
      started _ may at = absurd may

      found-there : IsFoundOf (list_in held (Happening.EquipmentStarted spooled base ∷ notes))
          (keeping_in (Happening.EquipmentStarted spooled base ∷ notes)) found
      found-there =
          subst (λ l. IsFoundOf l (keeping_in notes) found) (sym at.list_is)
          (subst (λ k. IsFoundOf list k found) (sym at.keeping_is) is)

  -- the first one, over a file that held this list
  pub first-stands : Stands AStart held None []
  first-stands = record { keeps = tt; due_is = refl; list_is = refl; keeping_is = refl }
