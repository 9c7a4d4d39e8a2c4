-- Kept lists worked by computing.
use Rattle.std.proofs.Common.{◌≡◌, refl, ap, ℕ, [], ◌∷◌, Some, arith}
use Rattle.std.specs.Option.{unwrap_or}
use Rattle.secs_items.specs.Reading.{format_at, head_at, item_at, size_at}
use Rattle.gem_reports.specs.Events.{links_in}
use Rattle.gem_shapes.specs.declared.request.Request.TheVariants as request
use Rattle.gem_shapes.specs.declared.request.TablesRequest.TheVariants as tables_request
use Rattle.gem_vars.specs.Tables.{constant_in}
use Rattle.setup_store.specs.Entries.{Entry}
use Rattle.setup_store.specs.Worked.{constants, linked, ten}
use Rattle.setup_store.proofs.WorkedLists.{out_L, out_U1}
use Rattle.equipment_tables.specs.declared.plan.EquipmentPlan.{EquipmentPlan}
use Rattle.equipment_tables.specs.Requests.{request_of}
use Rattle.equipment_tables.specs.Setup.{SetupState, TellsTheSame}
use Rattle.equipment_tables.specs.WorkedSetup.{SetupsAreAsWorked, forgets_links, linked_past, newest_alone, set_past, with_one}

-- what each primary asks for

asks_ten :
    request_of ten.stream ten.function ten.body
    ≡ Some (request.OfTables (tables_request.Define 0 (record { rptid = 10; vids = 1 ∷ [] } ∷ [])))
unfolding item_at head_at format_at size_at
asks_ten = simp (out_L, out_U1) refl

asks_linked :
    request_of linked.stream linked.function linked.body
    ≡ Some (request.OfTables (tables_request.Link 0 (record { ceid = 1; rptids = 10 ∷ [] } ∷ [])))
unfolding item_at head_at format_at size_at
asks_linked = simp (out_L, out_U1) refl

abbrev first : Entry
first = constants ((2, 0) ∷ (3, 1) ∷ [])

abbrev second : Entry
second = constants ((3, 0) ∷ [])

asks_first :
    request_of first.stream first.function first.body
    ≡ Some (request.OfTables (tables_request.SetConstants ((2, 0) ∷ (3, 1) ∷ [])))
unfolding item_at head_at format_at size_at
asks_first = simp (out_L, out_U1) refl

asks_second :
    request_of second.stream second.function second.body
    ≡ Some (request.OfTables (tables_request.SetConstants ((3, 0) ∷ [])))
unfolding item_at head_at format_at size_at
asks_second = simp (out_L, out_U1) refl

-- how many links a setup has
abbrev links_of : SetupState → ℕ
links_of s = links_in s.reports.events

forgotten : (plan : EquipmentPlan) → TellsTheSame forgets_links → ⊥
forgotten plan law =
    let told = ap links_of (law (with_one plan) [] linked_past) in
    let same : 0 ≡ 1 = simp (asks_ten, asks_linked) at told in omega (arith, same)

-- whether the spool may become active
abbrev second_of : SetupState → ℕ
second_of s = unwrap_or (constant_in (record { variables = []; constants = s.constants }) 2) 9

alone : (plan : EquipmentPlan) → TellsTheSame newest_alone → ⊥
alone plan law =
    let told = ap second_of (law (with_one plan) [] set_past) in
    let same : 1 ≡ 0 = simp (asks_first, asks_second) at told in omega (arith, same)

pub as_worked : SetupsAreAsWorked
as_worked = record {
  kept_so = λ plan. simp (asks_ten, asks_linked) refl;
  kept_once = λ plan. simp (asks_ten, asks_linked) refl;
  forgotten = forgotten;
  alone = alone;
}
