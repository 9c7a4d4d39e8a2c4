-- A start that goes on is run; one that is refused gives its outcome, with the disk as it left it.

use Rattle.std.proofs.Common.{ℕ, ap, ltb, inl, inr, refl, sym, ◌∙◌}
use Rattle.gl_base.specs.declared.side.Side.TheVariants as side
use Rattle.gemline_app.proofs.Connecting.{uncalled}
use Rattle.gemline_app.proofs.Equipping.{refused_as, refused_same, run_counts, run_same, start_refuses}
use Rattle.tool_app.specs.Tool.{outcome_of_run}
use Rattle.tool_app.proofs.running.run_over.Goals as goal

pub returns-in-Ok-clause-came : goal.returns-in-Ok-clause-came
returns-in-Ok-clause-came g c =
    inr (record {
      ended = c.run_linked-ended.result.0;
      outcome_is =
          c.outcome_of.ensures
          ∙ ap (λ (n : ℕ). outcome_of_run (ltb n c.faults.result) c.run_linked-ended.result.0)
          (c.faults-faults.ensures ∙ ap g.B.Beside.faults c.beside.ensures)
          ∙ ap (λ (n : ℕ). outcome_of_run (ltb (g.B.Beside.faults c.args.told.now.beside) n) c.run_linked-ended.result.0)
          (c.faults.ensures ∙ ap g.B.Beside.faults c.beside-in-Ok.ensures);
      was = record {
        counts =
            run_counts g.D.Disk c.args.raw.disk c.in-Ok.equipment.spool.spool.disk c.run_linked-ended.result.1 _ _ _ _
            c.run_linked-ended.result.0 c.in-Ok.ensures.disk c.run_linked-ended.ensures.counts;
        sound = λ s told. c.in-Ok.ensures.finds s told;
        ran = λ s told.
            let begun = c.in-Ok.ensures.begins s told in
            record {
              start = begun.gone.step;
              started = begun.gone.is;
              ran =
                  c.run_linked-ended.ensures.runs (begun.in_state (c.requires.bytes s told) (λ offers. absurd (cc)))
                  begun.gone.step
                  begun.gone.next_is (sym begun.gone.notes ∙ sym c.as_slice-notes.ensures);
            };
      };
    })

pub returns-in-Ok-clause-same_disk : goal.returns-in-Ok-clause-same_disk
returns-in-Ok-clause-same_disk g c =
    run_same g.D.Disk c.args.raw.disk c.in-Ok.equipment.spool.spool.disk c.run_linked-ended.result.1 _ _ _ _
    c.run_linked-ended.result.0 c.in-Ok.ensures.disk.same_disk c.run_linked-ended.ensures.counts

pub returns-clause-came : goal.returns-clause-came
returns-clause-came g c =
    inl (
      refused_as g.D.Disk c.args.raw.disk c.in-Err.why c.not_started.result.0 c.not_started.result.1
          c.not_started.ensures.outcome c.not_started.ensures.disk
          (start_refuses g.D.Disk c.args.plan.now c.args.raw.disk c.start.new.out c.in-Err.why
          (λ s told. c.in-Err.ensures.begins s told) (λ s told. c.in-Err.ensures.finds s told) c.in-Err.ensures.disk),
      record {
        uncalled = record { told = refl; moment = refl; health = refl; connected = refl };
        written = record { received = refl; health = refl };
      },
    )

pub returns-clause-same_disk : goal.returns-clause-same_disk
returns-clause-same_disk g c =
    refused_same g.D.Disk c.args.raw.disk c.in-Err.why c.not_started.result.1 c.not_started.ensures.disk
    c.in-Err.ensures.disk

pub returns-clause-connects : goal.returns-clause-connects
returns-clause-connects g c = uncalled g.L.Link side.Equipment c.args.address.now c.args.link.now
