-- The lengths of the parts make that of the body, which is that of the history.

use Rattle.std.proofs.Common.{refl, sym, ◌∙◌, ap, subst, List, [], ◌∷◌, ℕ, length, map, nat_eq, arith}
use Rattle.std.proofs.lemmas.List.{length-map}
use Rattle.std.specs.Map.{lookup}
use Rattle.std.specs.Option.{option_map, unwrap_or}
use Rattle.secs_items.specs.declared.item.Item.{Item}
use Rattle.secs_items.specs.declared.item.Item.TheVariants as item
use Rattle.secs_items.specs.Items.{number_item}
use Rattle.secs_items.specs.Measures.{capped}
use Rattle.secs_items.specs.Spelling.{shortest_spelling}
use Rattle.secs_items.proofs.SpelledLengths.{together}
use Rattle.gem_vars.specs.Tables.{value_in}
use Rattle.gem_reports.specs.declared.event.Event.{Event}
use Rattle.gem_reports.specs.Bodies.{report_item}
use Rattle.gem_reports.specs.Tables.{ReportsView, StandsFor}
use Rattle.gem_reports.proofs.Kept.{kept_event}
use Rattle.gem_reports.proofs.Spelled.{event_together}
use Rattle.gem_reports.proofs.reports.Reports.event_body_len.Goals as goal

pub returns : goal.returns
returns c = λ events past stands dataid.
    let value = value_in c.args.vars.now in
    let view : ReportsView = record { events = c.self.inside.events; reports = c.self.inside.standing } in
    let one = report_item value (λ rptid. lookup (nat_eq rptid) c.self.inside.standing) in
    let links : List ℕ =
    unwrap_or (option_map (λ (event : Event). event.rptids) (lookup (nat_eq c.args.ceid) c.self.inside.events)) [] in
    let reports : Item = item.L (map one links) in
    let inner =
    c.list_len-reports.ensures (map one links)
    (length-map links one ∙ ap (λ (ids : List ℕ). length ids) (sym c.links-rptids.ensures))
    (c.report_items_len.ensures ∙ ap (λ (ids : List ℕ). capped (together (map one ids))) c.links-rptids.ensures) in
    c.list_len.ensures (number_item dataid ∷ number_item c.args.ceid ∷ reports ∷ []) refl
    (omega (arith, event_together dataid c.args.ceid reports, inner, c.saturating_add.ensures))
    ∙ ap (λ (i : Item). capped (length (shortest_spelling i)))
    (kept_event value view events past c.args.ceid dataid
    (subst (λ (v : ReportsView). StandsFor v events past) (sym c.self.view_is) stands))
