use Rattle.std.proofs.Common.{ap, inr, ◌∙◌}
use Rattle.journal_node.proofs.Starting.{over-ready, version-two}
use Rattle.journal_node.proofs.journal_host.start_over.Goals as goal

pub start_ready-requires : goal.start_ready-requires
start_ready-requires g c = record {
  plan = c.requires.plan;
  out = c.requires.out;
  version = ap (λ h. h.spool.version) c.new.ensures.made
      ∙ version-two g.D.Disk c.args.spool c.in-Ok.spool c.in-Ok.ensures;
}

pub returns-in-Ok : goal.returns-in-Ok
returns-in-Ok g c =
    over-ready g.D.Disk c.args.plan c.args.spool c.in-Ok.spool c.new.result c.start_ready.new.out c.start_ready.result
    c.in-Ok.ensures (ap (λ h. h.spool) c.new.ensures.made) c.new.ensures.stands c.start_ready.ensures

pub returns-in-Err : goal.returns-in-Err
returns-in-Err g c = inr (record { up = c.in-Err.ensures; empty = c.requires.out })
