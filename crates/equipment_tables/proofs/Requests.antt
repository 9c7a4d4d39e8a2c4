-- What is known of a request.
use Rattle.std.proofs.Common.{◌≡◌, refl, sym, subst, ℕ, Bool, true, false, cond, ◌==◌, List, Option, Some, None, Result, Ok, Err}
use Rattle.std.specs.Option.{option_and_then, option_map, option_zip}
use Rattle.std.specs.Prelude.{IfOk, IfSome}
use Rattle.secs_items.specs.declared.item.Item.{Item}
use Rattle.gem_remote.specs.Laws.{ParametersAreRead}
use Rattle.gem_shapes.specs.declared.primary.Primary.{Primary}
use Rattle.gem_shapes.specs.declared.primary.Primary.TheVariants as primary
use Rattle.gem_shapes.specs.declared.request.Request.{Request}
use Rattle.gem_shapes.specs.declared.request.Request.TheVariants as request
use Rattle.gem_shapes.specs.declared.request.RecipesRequest.{RecipesRequest}
use Rattle.gem_shapes.specs.declared.request.RecipesRequest.TheVariants as recipes_request
use Rattle.gem_shapes.specs.declared.request.TablesRequest.{TablesRequest}
use Rattle.gem_shapes.specs.declared.request.TablesRequest.TheVariants as tables_request
use Rattle.gem_shapes.specs.Elements.{anything, both, code, each, five, flag, identifier, identifier_or_all, identifiers, ppid, setting, small_number, text, two}
use Rattle.gem_shapes.specs.Primaries.{primary_with}
use Rattle.gem_shapes.specs.Requests.{Asks, AsksFor, IsFound, behind_first, definition, enables, linking, parameters, rule_entry, spool_request}
use Rattle.equipment_tables.specs.Requests.{IsAsked, IsAskedOfTables}

made :
    {T : Type 0} (make : T → TablesRequest) → ((t : T) → IsAskedOfTables (make t)) → (o : Option T) (r : Request)
    → option_map (λ t. request.OfTables (make t)) o ≡ Some r → IsAsked r
made make each None r is = absurd (cc)
made make each (Some t) r is = let same : request.OfTables (make t) ≡ r = cc in subst IsAsked same (each t)

recipes_made :
    {T : Type 0} (make : T → RecipesRequest) (o : Option T) (r : Request)
    → option_map (λ t. request.OfRecipes (make t)) o ≡ Some r → IsAsked r
recipes_made make None r is = absurd (cc)
recipes_made make (Some t) r is = let same : request.OfRecipes (make t) ≡ r = cc in subst IsAsked same tt

spooled : (o : Option ℕ) (r : Request) → option_and_then spool_request o ≡ Some r → IsAsked r
spooled None r is = absurd (cc)
spooled (Some n) r is = go (n == 0) (n == 1) is
  where
    go : (b c : Bool) → cond b (Some request.TransmitSpool) (cond c (Some request.PurgeSpool) None) ≡ Some r
        → IsAsked r
    go true c here = let same : request.TransmitSpool ≡ r = cc in subst IsAsked same tt
    go false true here = let same : request.PurgeSpool ≡ r = cc in subst IsAsked same tt
    go false false here = absurd (cc)

traced :
    (o : Option (ℕ × List ℕ × ℕ × ℕ × List ℕ)) (r : Request)
    → option_map (λ x. request.Trace x.0 x.1 x.2 x.3 x.4) o ≡ Some r → IsAsked r
traced None r is = absurd (cc)
traced (Some x) r is = let same : request.Trace x.0 x.1 x.2 x.3 x.4 ≡ r = cc in subst IsAsked same tt

abbrev command_of : List ℕ × Item → Request
command_of x = request.OfTables (tables_request.Command x.0 x.1)

commanded :
    (are : ParametersAreRead) (i : Item) (r : Request)
    → option_map command_of (both text parameters i) ≡ Some r → IsAsked r
commanded are i r is = go (two i) is
  where
    of_two : (n : Option (List ℕ)) (p : Item) (o : Option Item) → parameters p ≡ o
        → option_map command_of (option_zip n o) ≡ Some r → IsAsked r
    of_two None p o given here = absurd (cc)
    of_two (Some name) p None given here = absurd (cc)
    of_two (Some name) p (Some params) given here =
        let same : request.OfTables (tables_request.Command name params) ≡ r = cc in
        subst IsAsked same (are.listed p params given)

    go : (o : Option (Item × Item))
        → option_map command_of
        (option_and_then (λ items. option_zip (text items.0) (parameters items.1)) o) ≡ Some r
        → IsAsked r
    go None here = absurd (cc)
    go (Some items) here = of_two (text items.0) items.1 (parameters items.1) refl here

asked_for : (are : ParametersAreRead) (p : Primary) (body : List ℕ) (r : Request) → AsksFor (Some p) body r → IsAsked r
asked_for are primary.S1F1 body r fits = subst IsAsked (sym fits.1) tt
asked_for are primary.S1F3 body r fits = made tables_request.StatusValues (λ t. tt) (each identifier fits.0) r fits.2
asked_for are primary.S1F11 body r fits = made tables_request.StatusNames (λ t. tt) (each identifier fits.0) r fits.2
asked_for are primary.S1F13 body r fits = subst IsAsked (sym fits) tt
asked_for are primary.S1F15 body r fits = subst IsAsked (sym fits.1) tt
asked_for are primary.S1F17 body r fits = subst IsAsked (sym fits.1) tt
asked_for are primary.S2F13 body r fits = made tables_request.ConstantValues (λ t. tt) (each identifier fits.0) r fits.2
asked_for are primary.S2F15 body r fits =
    made tables_request.SetConstants (λ t. tt) (each (both identifier setting) fits.0) r fits.2
asked_for are primary.S2F23 body r fits =
    traced (five identifier text identifier identifier (each identifier) fits.0) r fits.2
asked_for are primary.S2F29 body r fits = made tables_request.ConstantNames (λ t. tt) (each identifier fits.0) r fits.2
asked_for are primary.S2F33 body r fits =
    made (λ x. tables_request.Define x.0 x.1) (λ t. tt) (both identifier (each definition) fits.0) r fits.2
asked_for are primary.S2F35 body r fits =
    made (λ x. tables_request.Link x.0 x.1) (λ t. tt) (both identifier (each linking) fits.0) r fits.2
asked_for are primary.S2F37 body r fits =
    made (λ x. tables_request.EnableEvents x.0 x.1) (λ t. tt) (both flag (each identifier) fits.0) r fits.2
asked_for are primary.S2F39 body r fits =
    made (λ x. tables_request.Announce x.0 x.1) (λ t. tt) (both identifier identifier fits.0) r fits.2
asked_for are primary.S2F41 body r fits = commanded are fits.0 r fits.2
asked_for are primary.S2F43 body r fits = made tables_request.ReplaceRule (λ t. tt) (each rule_entry fits.0) r fits.2
asked_for are primary.S5F3 body r fits =
    made (λ x. tables_request.EnableAlarms (enables x.0) x.1) (λ t. tt) (both code identifier_or_all fits.0) r fits.2
asked_for are primary.S5F5 body r fits = made tables_request.Alarms (λ t. tt) (identifiers fits.0) r fits.2
asked_for are primary.S5F7 body r fits = subst IsAsked (sym fits.1) tt
asked_for are primary.S6F15 body r fits = made tables_request.EventReport (λ t. tt) (identifier fits.0) r fits.2
asked_for are primary.S6F19 body r fits = made tables_request.Report (λ t. tt) (identifier fits.0) r fits.2
asked_for are primary.S6F23 body r fits = spooled (small_number fits.0) r fits.2
asked_for are primary.S7F1 body r fits =
    recipes_made (λ x. recipes_request.Inquire x.0 x.1) (both ppid identifier fits.0) r fits.2
asked_for are primary.S7F3 body r fits =
    recipes_made (λ x. recipes_request.Send x.0 (behind_first body)) (both ppid anything fits.0) r fits.2
asked_for are primary.S7F5 body r fits = recipes_made recipes_request.Ask (ppid fits.0) r fits.2
asked_for are primary.S7F17 body r fits = recipes_made recipes_request.Delete (each ppid fits.0) r fits.2
asked_for are primary.S7F19 body r fits = subst IsAsked (sym fits.1) tt
asked_for are primary.S10F3 body r fits =
    made (λ x. tables_request.Display x.0 x.1) (λ t. tt) (both code text fits.0) r fits.2
asked_for are primary.S10F5 body r fits =
    made (λ x. tables_request.DisplayLines x.0 x.1) (λ t. tt) (both code (each text) fits.0) r fits.2

-- what was found is a request of some message
found_asked :
    (are : ParametersAreRead) (stream function : ℕ) (body : List ℕ) (found : Option Request)
    → IsFound (Asks stream function body) found → IfSome found IsAsked
found_asked are stream function body None is = tt
found_asked are stream function body (Some r) is = go (primary_with stream function) is
  where
    go : (p : Option Primary) → AsksFor p body r → IsAsked r
    go None asks = absurd asks
    go (Some p) asks = asked_for are p body r asks

-- of a call that may run out of memory
pub answer_asked :
    {E : Type 0} (are : ParametersAreRead) (stream function : ℕ) (body : List ℕ) (r : Result (Option Request) E)
    → IfOk r (λ found. IsFound (Asks stream function body) found) → IfOk r (λ found. IfSome found IsAsked)
answer_asked are stream function body (Ok found) is = found_asked are stream function body found is
answer_asked are stream function body (Err e) is = tt
