use Rattle.std.proofs.Common.{◌≡◌, ap, subst, sym, true}
use Rattle.std.specs.Prelude.{Err, Ok}
use Rattle.message_end.specs.Ends.{input_of}
use Rattle.tool_core.specs.Node.{node_of}
use Rattle.tool_core.specs.declared.own.Tool.{Tool}
use Rattle.equipment_node.specs.Held.{HasMoved, IsIn, Moves, of_disk, view_in}
use Rattle.equipment_node.specs.Stepped.{BothBack, BreaksAfter, CallsAfter, KeeperUnasked, RecipesAfter}
use Rattle.equipment_node.proofs.Ending.{keeps-its, moved-on, stops-back, stops-breaks, stops-calls, stops-recipes}
use Rattle.equipment_node.proofs.Ending.{stops-so, stops-unasked, tells-kept}
use Rattle.equipment_node.proofs.Seated.{any-node}
use Rattle.equipment_node.proofs.SpentMoves.{moved-by-cause}
use Rattle.equipment_node.proofs.equipment.Equipment.step.Goals as goal

-- ---- it goes on

pub returns-in-Ok-clause-moves : goal.returns-in-Ok-clause-moves
returns-in-Ok-clause-moves g c in_state =
    let was = subst (λ h. IsIn g.D.Disk g.K.RecipeKeeper h) (sym c.self.view_is) in_state in
    subst (λ h. HasMoved g.D.Disk g.K.RecipeKeeper h (input_of c.args.input) c.args.now c.step_on.new.out
    (record { tool = c.step_on.new.tool; spool = c.in-Ok.spool; keeper = c.step_on.new.keeper }))
    c.self.view_is
    (moved-on g.D.Disk g.K.RecipeKeeper
    (record { tool = c.self.inside.tool.value; spool = c.self.inside.spool; keeper = c.self.inside.keeper })
    (input_of c.args.input) c.args.now was c.step_on.new.out
    (record { tool = c.step_on.new.tool; spool = c.in-Ok.spool; keeper = c.step_on.new.keeper })
    c.self.invariant.1
    (c.in-Ok.ensures.steps
    (view_in g.D.Disk g.K.RecipeKeeper
    (record { tool = c.self.inside.tool.value; spool = c.self.inside.spool; keeper = c.self.inside.keeper }))
    (ap (λ (t : Tool). node_of t) c.deref_mut.ensures.value) was.on was.told
    (keeps-its g.D.Disk g.K.RecipeKeeper
    (record { tool = c.self.inside.tool.value; spool = c.self.inside.spool; keeper = c.self.inside.keeper })
    (input_of c.args.input) c.args.now was c.self.invariant.1))
    (c.in-Ok.ensures.recipes
    (view_in g.D.Disk g.K.RecipeKeeper
    (record { tool = c.self.inside.tool.value; spool = c.self.inside.spool; keeper = c.self.inside.keeper }))
    (ap (λ (t : Tool). node_of t) c.deref_mut.ensures.value) was.on was.told)
    c.in-Ok.ensures.back.1 c.in-Ok.ensures.unasked)

pub returns-in-Ok-clause-recipes : goal.returns-in-Ok-clause-recipes
returns-in-Ok-clause-recipes g c in_state =
    let was = subst (λ h. IsIn g.D.Disk g.K.RecipeKeeper h) (sym c.self.view_is) in_state in
    subst
    (λ h.
    g.K.RecipeKeeper.offers_is h.keeper ≡ true
    → RecipesAfter g.D.Disk g.K.RecipeKeeper h (input_of c.args.input) c.args.now
    (Ok (record { tool = c.step_on.new.tool; spool = c.in-Ok.spool; keeper = c.step_on.new.keeper })))
    c.self.view_is
    (λ offers.
    c.in-Ok.ensures.recipes
    (view_in g.D.Disk g.K.RecipeKeeper
    (record { tool = c.self.inside.tool.value; spool = c.self.inside.spool; keeper = c.self.inside.keeper }))
    (ap (λ (t : Tool). node_of t) c.deref_mut.ensures.value) was.on was.told
    (tells-kept g.D.Disk g.K.RecipeKeeper
    (record { tool = c.self.inside.tool.value; spool = c.self.inside.spool; keeper = c.self.inside.keeper })
    (input_of c.args.input) c.args.now was offers))

pub returns-in-Ok-clause-calls : goal.returns-in-Ok-clause-calls
returns-in-Ok-clause-calls g c in_state =
    let was = subst (λ h. IsIn g.D.Disk g.K.RecipeKeeper h) (sym c.self.view_is) in_state in
    subst
    (λ h.
    CallsAfter g.D.Disk g.K.RecipeKeeper h (input_of c.args.input) c.args.now
    (Ok (record { tool = c.step_on.new.tool; spool = c.in-Ok.spool; keeper = c.step_on.new.keeper })))
    c.self.view_is
    (c.in-Ok.ensures.calls
    (view_in g.D.Disk g.K.RecipeKeeper
    (record { tool = c.self.inside.tool.value; spool = c.self.inside.spool; keeper = c.self.inside.keeper }))
    (ap (λ (t : Tool). node_of t) c.deref_mut.ensures.value) was.on was.told)

pub returns-in-Ok-clause-spent : goal.returns-in-Ok-clause-spent
returns-in-Ok-clause-spent g c in_state =
    moved-by-cause g.D.Disk g.K.RecipeKeeper _ (input_of c.args.input) c.args.now c.step_on.new.out in_state
    (Ok (record { tool = c.step_on.new.tool; spool = c.in-Ok.spool; keeper = c.step_on.new.keeper }))
    (returns-in-Ok-clause-moves g c in_state)

pub returns-in-Ok-clause-breaks : goal.returns-in-Ok-clause-breaks
returns-in-Ok-clause-breaks g c in_state =
    let was = subst (λ h. IsIn g.D.Disk g.K.RecipeKeeper h) (sym c.self.view_is) in_state in
    subst
    (λ h.
    BreaksAfter g.D.Disk g.K.RecipeKeeper h (input_of c.args.input) c.args.now c.step_on.new.out.notes
    (Ok (record { tool = c.step_on.new.tool; spool = c.in-Ok.spool; keeper = c.step_on.new.keeper })))
    c.self.view_is
    (c.in-Ok.ensures.breaks
    (view_in g.D.Disk g.K.RecipeKeeper
    (record { tool = c.self.inside.tool.value; spool = c.self.inside.spool; keeper = c.self.inside.keeper }))
    (ap (λ (t : Tool). node_of t) c.deref_mut.ensures.value) was.on was.told)

pub returns-in-Ok-clause-back : goal.returns-in-Ok-clause-back
returns-in-Ok-clause-back g c =
    subst
    (λ h.
    BothBack g.D.Disk g.K.RecipeKeeper h
    (Ok (record { tool = c.step_on.new.tool; spool = c.in-Ok.spool; keeper = c.step_on.new.keeper })))
    c.self.view_is c.in-Ok.ensures.back

pub returns-in-Ok-clause-unasked : goal.returns-in-Ok-clause-unasked
returns-in-Ok-clause-unasked g c =
    subst
    (λ h.
    KeeperUnasked g.K.RecipeKeeper h
    (Ok (record { tool = c.step_on.new.tool; spool = c.in-Ok.spool; keeper = c.step_on.new.keeper })))
    c.self.view_is c.in-Ok.ensures.unasked

-- ---- it stops

pub returns-in-Err-clause-moves : goal.returns-in-Err-clause-moves
returns-in-Err-clause-moves g c in_state =
    let was = subst (λ h. IsIn g.D.Disk g.K.RecipeKeeper h) (sym c.self.view_is) in_state in
    subst (λ h. Moves g.D.Disk g.K.RecipeKeeper h (input_of c.args.input) c.args.now c.step_on.new.out
    (Err (of_disk c.with_keeper.result)))
    c.self.view_is
    (stops-so g.D.Disk g.K.RecipeKeeper
    (record { tool = c.self.inside.tool.value; spool = c.self.inside.spool; keeper = c.self.inside.keeper })
    (input_of c.args.input) c.args.now was c.step_on.new.keeper c.in-Err.ended c.with_keeper.result
    c.with_keeper.ensures.disk
    c.with_keeper.ensures.keeper c.step_on.new.out
    (any-node g.D.Disk
    (view_in g.D.Disk g.K.RecipeKeeper
    (record { tool = c.self.inside.tool.value; spool = c.self.inside.spool; keeper = c.self.inside.keeper }))
    (input_of c.args.input) c.args.now (node_of c.step_on.new.tool) (node_of c.self.inside.tool.value)
    c.step_on.new.out c.in-Err.ended
    (c.in-Err.ensures.steps
    (view_in g.D.Disk g.K.RecipeKeeper
    (record { tool = c.self.inside.tool.value; spool = c.self.inside.spool; keeper = c.self.inside.keeper }))
    (ap (λ (t : Tool). node_of t) c.deref_mut.ensures.value) was.on was.told
    (keeps-its g.D.Disk g.K.RecipeKeeper
    (record { tool = c.self.inside.tool.value; spool = c.self.inside.spool; keeper = c.self.inside.keeper })
    (input_of c.args.input) c.args.now was c.self.invariant.1))))

pub returns-in-Err-clause-recipes : goal.returns-in-Err-clause-recipes
returns-in-Err-clause-recipes g c in_state =
    let was = subst (λ h. IsIn g.D.Disk g.K.RecipeKeeper h) (sym c.self.view_is) in_state in
    subst
    (λ h.
    g.K.RecipeKeeper.offers_is h.keeper ≡ true
    → RecipesAfter g.D.Disk g.K.RecipeKeeper h (input_of c.args.input) c.args.now (Err c.with_keeper.result))
    c.self.view_is
    (λ offers.
    stops-recipes g.D.Disk g.K.RecipeKeeper
    (record { tool = c.self.inside.tool.value; spool = c.self.inside.spool; keeper = c.self.inside.keeper })
    (input_of c.args.input) c.args.now was c.step_on.new.keeper c.in-Err.ended c.with_keeper.result
    c.with_keeper.ensures.disk
    c.with_keeper.ensures.keeper
    (c.in-Err.ensures.recipes
    (view_in g.D.Disk g.K.RecipeKeeper
    (record { tool = c.self.inside.tool.value; spool = c.self.inside.spool; keeper = c.self.inside.keeper }))
    (ap (λ (t : Tool). node_of t) c.deref_mut.ensures.value) was.on was.told
    (tells-kept g.D.Disk g.K.RecipeKeeper
    (record { tool = c.self.inside.tool.value; spool = c.self.inside.spool; keeper = c.self.inside.keeper })
    (input_of c.args.input) c.args.now was offers)))

pub returns-in-Err-clause-calls : goal.returns-in-Err-clause-calls
returns-in-Err-clause-calls g c in_state =
    let was = subst (λ h. IsIn g.D.Disk g.K.RecipeKeeper h) (sym c.self.view_is) in_state in
    subst (λ h. CallsAfter g.D.Disk g.K.RecipeKeeper h (input_of c.args.input) c.args.now (Err c.with_keeper.result))
    c.self.view_is
    (stops-calls g.D.Disk g.K.RecipeKeeper
    (record { tool = c.self.inside.tool.value; spool = c.self.inside.spool; keeper = c.self.inside.keeper })
    (input_of c.args.input) c.args.now was c.step_on.new.keeper c.in-Err.ended c.with_keeper.result
    c.with_keeper.ensures.disk
    c.with_keeper.ensures.keeper
    (c.in-Err.ensures.calls
    (view_in g.D.Disk g.K.RecipeKeeper
    (record { tool = c.self.inside.tool.value; spool = c.self.inside.spool; keeper = c.self.inside.keeper }))
    (ap (λ (t : Tool). node_of t) c.deref_mut.ensures.value) was.on was.told))

pub returns-in-Err-clause-spent : goal.returns-in-Err-clause-spent
returns-in-Err-clause-spent g c in_state =
    moved-by-cause g.D.Disk g.K.RecipeKeeper _ (input_of c.args.input) c.args.now c.step_on.new.out in_state
    (Err (of_disk c.with_keeper.result)) (returns-in-Err-clause-moves g c in_state)

pub returns-in-Err-clause-breaks : goal.returns-in-Err-clause-breaks
returns-in-Err-clause-breaks g c in_state =
    let was = subst (λ h. IsIn g.D.Disk g.K.RecipeKeeper h) (sym c.self.view_is) in_state in
    subst
    (λ h. BreaksAfter g.D.Disk g.K.RecipeKeeper h (input_of c.args.input) c.args.now c.step_on.new.out.notes
    (Err c.with_keeper.result))
    c.self.view_is
    (stops-breaks g.D.Disk g.K.RecipeKeeper
    (record { tool = c.self.inside.tool.value; spool = c.self.inside.spool; keeper = c.self.inside.keeper })
    (input_of c.args.input) c.args.now was c.step_on.new.keeper c.in-Err.ended c.with_keeper.result
    c.with_keeper.ensures.disk
    c.with_keeper.ensures.keeper c.step_on.new.out.notes
    (c.in-Err.ensures.breaks
    (view_in g.D.Disk g.K.RecipeKeeper
    (record { tool = c.self.inside.tool.value; spool = c.self.inside.spool; keeper = c.self.inside.keeper }))
    (ap (λ (t : Tool). node_of t) c.deref_mut.ensures.value) was.on was.told))

pub returns-in-Err-clause-back : goal.returns-in-Err-clause-back
returns-in-Err-clause-back g c =
    subst (λ h. BothBack g.D.Disk g.K.RecipeKeeper h (Err c.with_keeper.result)) c.self.view_is
    (stops-back g.D.Disk g.K.RecipeKeeper
    (record { tool = c.self.inside.tool.value; spool = c.self.inside.spool; keeper = c.self.inside.keeper })
    c.step_on.new.keeper c.in-Err.ended c.with_keeper.result c.with_keeper.ensures.disk
    c.with_keeper.ensures.keeper c.in-Err.ensures.back)

pub returns-in-Err-clause-unasked : goal.returns-in-Err-clause-unasked
returns-in-Err-clause-unasked g c =
    subst (λ h. KeeperUnasked g.K.RecipeKeeper h (Err c.with_keeper.result)) c.self.view_is
    (stops-unasked g.D.Disk g.K.RecipeKeeper
    (record { tool = c.self.inside.tool.value; spool = c.self.inside.spool; keeper = c.self.inside.keeper })
    c.step_on.new.keeper c.in-Err.ended c.with_keeper.result c.with_keeper.ensures.disk
    c.with_keeper.ensures.keeper c.in-Err.ensures.unasked)
