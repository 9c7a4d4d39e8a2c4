-- That a start with a keeper of recipes is the one without, with the recipes that a host is offered then.
use Rattle.std.proofs.Common.{◌≡◌, refl, sym, ap, subst, ◌∙◌, Bool, true, false, ℕ, List, Option, Some, None}
use Rattle.std.proofs.Common.{if◌then◌else◌}
use Rattle.std.specs.FinMap.{empty}
use Rattle.std.specs.Option.{unwrap_or}
use Rattle.std.specs.Prelude.{Err}
use Rattle.disk_base.specs.Story.{Story}
use Rattle.disk_base.specs.declared.disk.Disk as disk
use Rattle.message_flow.specs.declared.step.StepOut.{StepOut}
use Rattle.spool_file.specs.File.{SpoolFile, file_in}
use Rattle.spool_slots.specs.Spool.{SpoolView}
use Rattle.trace_log.specs.Log.{Happening}
use Rattle.message_end.specs.Core.{Step, at_first}
use Rattle.message_end.specs.Core.Went.{Goes, Spent}
use Rattle.message_end.specs.Ends.{HasGone}
use Rattle.message_end.specs.Parts.{Node}
use Rattle.equipment_tables.specs.declared.plan.EquipmentPlan.{EquipmentPlan}
use Rattle.gem_recipes.specs.contracts.no_recipes.NoRecipesRecipeKeeper.TheImpl.{ghosts as no_keepers}
use Rattle.gem_recipes.specs.declared.keeper.RecipeKeeper as keeper
use Rattle.gem_recipes.specs.declared.no_recipes.NoRecipes.{NoRecipes}
use Rattle.setup_store.specs.Entries.{Entry}
use Rattle.spool_ledger.specs.Ledger.{LedgerView}
use Rattle.tool_core.specs.Starting.{new_node}
use Rattle.tool_step.specs.declared.kind.Kind.{Kind}
use Rattle.tool_step.specs.Equipment.{EquipmentView, is_marked_out, offering, started_on, starts, unstarted}
use Rattle.tool_step.specs.Own.{OwnView}
use Rattle.tool_step.specs.Recipes.{RecipesView, no_recipes}
use Rattle.equipment_node.specs.declared.equipment.Starting.{Starting}
use Rattle.equipment_node.specs.declared.equipment.Starting.TheVariants as starting
use Rattle.equipment_node.specs.Held.{Begins, HasBegunOn, Held, IsIn, kept_by, unstarted_by, view_in}
use Rattle.equipment_node.specs.Keeping.{CanBeAsked, TellsOffered, no_keeper, offered_by, offering_went, recipes_of}
use Rattle.equipment_node.specs.Keeping.{starts_with}
use Rattle.equipment_node.specs.StartCalls.{CallsInStart}
use Rattle.equipment_node.specs.Stepping.{IsOn}

never : {A : Type 0} → ◌≡◌ {A = Bool} false true → A
never is = absurd (cc)

-- ---- of one that offers none

pub offers-none : (k : NoRecipes) → TellsOffered no_keepers k
offers-none k offers = never offers

start-offers-none :
    (plan : EquipmentPlan) (file : SpoolFile) (step : Step EquipmentView Happening) → starts plan file ≡ Goes step
    → step.next.node.own.offers ≡ false
start-offers-none plan file step = go (is_marked_out file.mark.value)
  where
    same-step : {a b : Step EquipmentView Happening} → Goes a ≡ Goes b → a ≡ b
    same-step same = cc

    go : (out : Bool)
        → (if out then Spent (at_first (unstarted plan file)) else Goes (started_on plan file)) ≡ Goes step
        → step.next.node.own.offers ≡ false
    go true is = absurd (cc)
    go false is = ap (λ (x : Step EquipmentView Happening). x.next.node.own.offers) (sym (same-step is))

pub new-asked :
    (plan : EquipmentPlan) (setup : Option (List Entry)) (ledger : LedgerView) (base : ℕ) (node : Node OwnView Kind)
    → node ≡ new_node plan setup ledger base → CanBeAsked no_keepers no_keeper node.own
new-asked plan setup ledger base node is =
    subst (λ (n : Node OwnView Kind). CanBeAsked no_keepers no_keeper n.own) (sym is)
    (record { offers = refl; sound = λ offers. tt; asks = λ owes. never owes })

-- ---- with a keeper

-- the same, but for what a host is offered
abbrev with_offer : Bool → RecipesView → EquipmentView → EquipmentView
with_offer offers kept s = record {
  node = record s.node { own = record s.node.own { offers = offers } };
  file = s.file;
  recipes = kept;
}

offered-on :
    {D : Type 0} (members : disk.Ghosts D) (v : SpoolView D) (offers : Bool) (kept : RecipesView) (s : EquipmentView)
    → IsOn members v s → IsOn members v (with_offer offers kept s)
offered-on members v offers kept s is =
    let did = is.made.did in
    record {
      clear = record {
        stands = is.clear.stands;
        owes = is.clear.owes;
        sizes_are = is.clear.sizes_are;
        slots_are = is.clear.slots_are;
        version_is = is.clear.version_is;
      };
      made = record {
        plan = is.made.plan;
        fits = is.made.fits;
        base = is.made.base;
        doings = is.made.doings;
        did = record {
          sound = record {
            own = record {
              plan_is = did.sound.own.plan_is;
              texts = did.sound.own.texts;
              traced = did.sound.own.traced;
              reports = did.sound.own.reports;
              ledger = did.sound.own.ledger;
            };
            list = did.sound.list;
            mark = did.sound.mark;
            area = did.sound.area;
          };
          is = did.is;
          tried = did.tried;
          turn = did.turn;
          last = did.last;
        };
      };
    }

module _
    {D K : Type 0} (members : disk.Ghosts D) (keepers : keeper.Ghosts K) (k : K) (h : Held D NoRecipes)
  where
    abbrev kept : Held D K
    kept = kept_by keepers k h

    gone-with :
        (plan : EquipmentPlan) (file : SpoolFile) (out : StepOut)
        → HasGone (starts plan file) (view_in members no_keepers h) out
        → HasGone (starts_with (offered_by keepers k) plan file) (view_in members keepers kept) out
    gone-with plan file out gone = go (keepers.offers_is k) refl
      where
        s : EquipmentView
        s = view_in members no_keepers h

        recipes : RecipesView
        recipes = record { slots = keepers.slots k; map = unwrap_or (keepers.told k) empty }

        GoneTo : Bool → Option RecipesView → Type 0
        GoneTo b o = HasGone (starts_with o plan file) (with_offer b (unwrap_or o no_recipes) s) out

        by_offer : (b : Bool) → b ≡ keepers.offers_is k → GoneTo b (if b then Some recipes else None)
            → GoneTo b (offered_by keepers k)
        by_offer b same = subst (GoneTo b) (ap (λ (x : Bool). if x then Some recipes else None) same)

        none : s.node.own.offers ≡ false
        none =
            ap (λ (v : EquipmentView). v.node.own.offers) (sym gone.next_is)
            ∙ start-offers-none plan file gone.step gone.is

        go : (b : Bool) → b ≡ keepers.offers_is k → GoneTo b (offered_by keepers k)
        go true same =
            by_offer true same
            (record {
              step = record gone.step { next = offering recipes gone.step.next };
              is = ap (offering_went recipes) gone.is;
              next_is = ap (offering recipes) gone.next_is;
              notes = gone.notes;
              written = gone.written;
            })
        go false same =
            by_offer false same
            (record {
              step = gone.step;
              is = gone.is;
              next_is = gone.next_is ∙ ap (λ (b : Bool). with_offer b no_recipes s) none;
              notes = gone.notes;
              written = gone.written;
            })

    in-with : IsIn members no_keepers h → TellsOffered keepers k → IsIn members keepers kept
    in-with inside tells = record {
      on =
          offered-on members h.spool.spool (keepers.offers_is k) (recipes_of keepers k)
          (view_in members no_keepers h) inside.on;
      told = inside.told;
      kept = tells;
    }

    pub begun-with :
        (plan : EquipmentPlan) (bytes : List ℕ) (out : StepOut) → HasBegunOn members no_keepers plan bytes out h
        → HasBegunOn members keepers plan bytes out kept
    begun-with plan bytes out begun = record {
      gone = gone-with plan (file_in bytes) out begun.gone;
      in_state = λ are tells. in-with (begun.in_state are (offers-none h.keeper)) tells;
      can_go = λ can tells. in-with (begun.can_go can (offers-none h.keeper)) tells;
    }

-- ---- where it doesn't start

module _ {D K : Type 0} (members : disk.Ghosts D) (keepers : keeper.Ghosts K) (k : K) where
  pub unbegun-with :
      (plan : EquipmentPlan) (s : Story) (out : StepOut) (why : Starting D NoRecipes)
      → Begins members no_keepers plan s out (Err why) → Begins members keepers plan s out (Err (unstarted_by k why))
  unbegun-with plan s out (starting.NoMemory spent none) is = is
  unbegun-with plan s out (starting.NotSpool raw break none) is = is
  unbegun-with plan s out (starting.DiskFailed spent none) is = is
  unbegun-with plan s out (starting.NumbersSpent spent none) is = is

  pub uncalled-with :
      (old : D) (bytes : List ℕ) (why : Starting D NoRecipes) → CallsInStart members old bytes (Err why)
      → CallsInStart members old bytes (Err (unstarted_by k why))
  uncalled-with old bytes (starting.NoMemory spent none) is = is
  uncalled-with old bytes (starting.NotSpool raw break none) is = is
  uncalled-with old bytes (starting.DiskFailed spent none) is = is
  uncalled-with old bytes (starting.NumbersSpent spent none) is = is
