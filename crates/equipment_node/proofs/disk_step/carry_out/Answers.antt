use Rattle.std.proofs.Common.{◌≡◌, ap, sym, subst, ◌∙◌, ℕ, List, Option}
use Rattle.gem_spool.specs.declared.count.Count.{Count}
use Rattle.gem_spool.specs.declared.works.Work.{Work}
use Rattle.gem_spool.specs.Standing.{count_of}
use Rattle.gem_spool.specs.Works.{AreDue, AreSizedOn, counts_after}
use Rattle.spool_ledger.specs.Ledger.{LedgerView, carried_out, stood_count}
use Rattle.spool_ledger.specs.Sizes.{AreSizedBy, all_sizes_after}
use Rattle.tool_core.specs.Node.{node_of}
use Rattle.equipment_node.specs.Amid.{Carries, setup_if}
use Rattle.equipment_node.proofs.Sizing.{sized-on}
use Rattle.equipment_node.proofs.disk_step.carry_out.Goals as goal

pub carry_all-requires : goal.carry_all-requires
carry_all-requires g c = record {
  due =
      subst (λ (works : List Work). AreDue (count_of c.args.spool.spool) works) (sym c.as_slice.ensures)
      (subst (λ (n : Count). AreDue n c.take_works-works.result) (sym c.requires.counted.count)
      c.take_works-works.ensures.due);
  sized =
      subst (λ (works : List Work). AreSizedOn g.D.Disk c.args.spool.spool works) (sym c.as_slice.ensures)
      (sized-on g.D.Disk c.args.spool.spool c.args.tool.now.own.ledger.stood.sizes c.take_works-works.result
      c.requires.counted.sizes c.take_works-works.ensures.sized);
  holds = c.requires.holds;
  room = c.bytes_to_keep.ensures.room;
}

pub returns-clause-fit : goal.returns-clause-fit
returns-clause-fit g c = record {
  sized =
      subst (λ (works : List Work). AreSizedBy c.args.tool.now.own.ledger.stood.sizes works)
      c.take_works-works.ensures.works c.take_works-works.ensures.sized;
  come_to =
      subst
      (λ (works : List Work).
      counts_after (stood_count c.args.tool.now.own.ledger) works
      ≡ stood_count (carried_out c.args.tool.now.own.ledger))
      c.take_works-works.ensures.works
      (c.take_works-works.ensures.come_to ∙ ap stood_count c.take_works-works.ensures.next);
  leave =
      subst
      (λ (works : List Work).
      all_sizes_after c.args.tool.now.own.ledger.stood.sizes works ≡ c.args.tool.now.own.ledger.sizes)
      c.take_works-works.ensures.works
      (c.take_works-works.ensures.leave
      ∙ ap (λ (ledger : LedgerView). ledger.stood.sizes) c.take_works-works.ensures.next);
}

pub returns-clause-works : goal.returns-clause-works
returns-clause-works g c =
    subst
    (λ (works : List Work).
    Carries g.D.Disk c.args.spool works (setup_if c.args.keeps (node_of c.args.tool.now).own) c.args.out.now
    c.carry_all.new.out c.carry_all.result)
    (c.as_slice.ensures ∙ c.take_works-works.ensures.works)
    (subst
    (λ (setup : Option (List ℕ)).
    Carries g.D.Disk c.args.spool c.as_slice.result.now setup c.args.out.now c.carry_all.new.out c.carry_all.result)
    c.bytes_to_keep.ensures.are c.carry_all.ensures.works)
