-- The first of the list that has these system bytes is the one at the place that was found.
use Rattle.std.proofs.Common.{Bool, refl, sym, ap, ◌∙◌, ℕ, ◌==◌, Some}
use Rattle.std.specs.Option.{option_map}
use Rattle.transact.proofs.Places.{found-none, read-found}
use Rattle.trace_log.specs.Names.{Spooled}
use Rattle.tool_core.proofs.awaiting.take_awaiting.Goals as goal

abbrev has : {A : Type 0} → (A → ℕ) → ℕ → A → Bool
has number system one = number one == system

pub returns-in_default-clause-found : goal.returns-in_default-clause-found
returns-in_default-clause-found g c =
    ap (option_map g.A.Awaiting.message)
    (sym (found-none (has g.A.Awaiting.number c.args.system) c.args.kept.now.items
    (sym c.in_default.is ∙ c.place_of.ensures.place)))

pub returns-clause-found : goal.returns-clause-found
returns-clause-found g c =
    let kept = c.args.kept.now.items in
    ap (λ (message : Spooled). Some message) c.into_message.ensures
    ∙ ap (option_map g.A.Awaiting.message)
    (read-found (has g.A.Awaiting.number c.args.system) kept kept c.in-Some.place c.remove.result refl
    c.remove.ensures.value (sym c.in-Some.is ∙ c.place_of.ensures.place))
