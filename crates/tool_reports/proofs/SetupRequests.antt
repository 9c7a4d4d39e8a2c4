-- What a step keeps of a request is what the law of the setup asks for.
use Rattle.std.proofs.Common.{◌≡◌, refl, sym, ◌∙◌, ap, Bool, true, false, cond, ◌&&◌, List, Option, Some, None}
use Rattle.std.specs.Option.{option_and_then, option_map_or}
use Rattle.gem_shapes.specs.declared.request.Request.{Request}
use Rattle.gem_shapes.specs.declared.request.Request.TheVariants as request
use Rattle.gem_shapes.specs.declared.request.TablesRequest.{TablesRequest}
use Rattle.message_flow.specs.declared.message.Message.{Message}
use Rattle.setup_law.specs.Setup.{list_in, tables_in, to_keep, with_kept}
use Rattle.setup_store.specs.declared.change.Change.{Change}
use Rattle.setup_store.specs.declared.change.Change.TheVariants as change
use Rattle.setup_store.specs.Entries.{Entry, is_kept}
use Rattle.setup_store.specs.Kept.{change_by, change_in, change_of}
use Rattle.trace_log.specs.Log.{Happening}
use Rattle.trace_log.specs.Log.Past.{Asked}
use Rattle.equipment_tables.specs.declared.plan.EquipmentPlan.{EquipmentPlan}
use Rattle.equipment_tables.specs.Requests.{request_of}
use Rattle.equipment_tables.specs.Setup.{accepts, accepts_primary, accepts_request, primary_of}
use Rattle.equipment_tables.specs.Tables.{TablesState}
use Rattle.equipment_tables.proofs.ChangeFunctions.{place_of, placed}
use Rattle.tool_step.specs.Own.{OwnView}
use Rattle.tool_step.specs.Setup.{next_setup}

-- what changes the setup is one of the six
six : (d : Change) → is_kept (place_of d).0 (place_of d).1 ≡ true
six (change.Constants list) = refl
six (change.Definitions list) = refl
six (change.Linkings list) = refl
six (change.Events on ceids) = refl
six (change.Rule list) = refl
six (change.Alarms on alid) = refl

change-kept : (x : Entry) (d : Change) → change_by x ≡ Some d → is_kept x.stream x.function ≡ true
change-kept x d is =
    let place = placed x d is in
    ap (λ n. is_kept n x.function) place.0 ∙ ap (is_kept (place_of d).0) place.1 ∙ six d

module _ (plan : EquipmentPlan) (held : Option (List Entry)) (notes : List Happening) (own : OwnView)
    (tables : own.tables ≡ tables_in plan notes) (setup : own.setup ≡ list_in held notes)
  where
    -- the list behind a request is the one that the law asks for, or none
    pub to-keep-is : (asks : Request) (message : Message)
        → request_of message.stream message.function message.body ≡ Some asks
        → next_setup asks message own ≡ to_keep plan held notes (Asked message)
    to-keep-is asks message is = by asks is
      where
        accepted : (o : Option Request) → request_of message.stream message.function message.body ≡ o
            → option_map_or (accepts (tables_in plan notes)) (option_and_then change_in o) false
            ≡ accepts_primary (tables_in plan notes) (primary_of message)
        accepted o is =
            ap (λ (q : Option Request).
            option_map_or (accepts (tables_in plan notes)) (option_and_then change_in q) false) (sym is)

        none : (list : Option (List Entry)) → (b : Bool) → false ≡ b → None ≡ cond b (with_kept message list) None
        none list b is = ap (λ t. cond t (with_kept message list) None) is

        of_tables : (asked : TablesRequest) → change_by (primary_of message) ≡ change_of asked
            → (is_kept message.stream message.function && accepts_request own.tables asked)
            ≡ accepts_request own.tables asked
        of_tables asked is = go (change_of asked) is
          where
            go : (o : Option Change) → change_by (primary_of message) ≡ o
                → (is_kept message.stream message.function && option_map_or (accepts own.tables) o false)
                ≡ option_map_or (accepts own.tables) o false
            go None is = neither (is_kept message.stream message.function)
              where
                neither : (b : Bool) → (b && false) ≡ false
                neither true = refl
                neither false = refl
            go (Some d) is =
                ap (λ b. b && accepts own.tables d) (change-kept (primary_of message) d is)

        by : (asks : Request) → request_of message.stream message.function message.body ≡ Some asks
            → next_setup asks message own ≡ to_keep plan held notes (Asked message)
        by (request.OfTables asked) is =
            ap (λ b. cond b (with_kept message own.setup) None)
            (of_tables asked (ap (λ (q : Option Request). option_and_then change_in q) is)
            ∙ ap (λ (t : TablesState). accepts_request t asked) tables
            ∙ accepted (Some (request.OfTables asked)) is)
            ∙ ap (λ list. cond (accepts_primary (tables_in plan notes) (primary_of message)) (with_kept message list)
            None)
            setup
        by (request.OfRecipes asked) is = none (list_in held notes) _ (accepted (Some (request.OfRecipes asked)) is)
        by request.Establish is = none (list_in held notes) _ (accepted (Some request.Establish) is)
        by request.GoOffline is = none (list_in held notes) _ (accepted (Some request.GoOffline) is)
        by request.GoOnline is = none (list_in held notes) _ (accepted (Some request.GoOnline) is)
        by request.TransmitSpool is = none (list_in held notes) _ (accepted (Some request.TransmitSpool) is)
        by request.PurgeSpool is = none (list_in held notes) _ (accepted (Some request.PurgeSpool) is)
        by (request.Trace trid dsper total group svids) is =
            none (list_in held notes) _ (accepted (Some (request.Trace trid dsper total group svids)) is)
