-- The file was attached and is run over, or it couldn't be attached.

use Rattle.std.proofs.Common.{inl, inr, refl, ◌∙◌}
use Rattle.spool_show.proofs.SpoolFiles.{attached}
use Rattle.gemline_app.specs.Equipment.{HoldsLeft, tool}
use Rattle.gemline_app.proofs.Filing.{spool_same}
use Rattle.gl_base.specs.declared.side.Side.TheVariants as side
use Rattle.gemline_app.proofs.Connecting.{uncalled}
use Rattle.disk_base.proofs.Told.{attached_tells}
use Rattle.gemline_app.proofs.equipment.run_file.Goals as goal

pub returns-in-Done-clause-came : goal.returns-in-Done-clause-came
returns-in-Done-clause-came g c =
    inr (
      c.run_attached.ensures.file ∙ c.in-Done.ensures.file,
      spool_same tool HoldsLeft _ _ _ _ _ (attached c.in-Done.ensures.told) refl c.in-Done.ensures.cause.same refl refl
          c.run_attached.ensures.runs,
    )

pub returns-in-Failed-clause-came : goal.returns-in-Failed-clause-came
returns-in-Failed-clause-came g c =
    inl (record {
      outcome_is = refl;
      rose = c.in-Failed.ensures.cause.rose;
      told = attached c.in-Failed.ensures.told;
      file = c.in-Failed.ensures.file;
      idle = record {
        uncalled = record { told = refl; moment = refl; health = refl; connected = refl };
        written = record { received = refl; health = refl };
      };
    })

pub run_attached-requires-clause-bytes : goal.run_attached-requires-clause-bytes
run_attached-requires-clause-bytes g c = c.in-Done.ensures.bytes

pub returns-in-Failed-clause-connects : goal.returns-in-Failed-clause-connects
returns-in-Failed-clause-connects g c = uncalled g.L.Link side.Equipment c.args.address.now c.args.link.now

pub returns-in-Done-clause-tells : goal.returns-in-Done-clause-tells
returns-in-Done-clause-tells g c = c.run_attached.ensures.tells ∙ attached_tells _ _ c.in-Done.ensures.told

pub returns-in-Failed-clause-tells : goal.returns-in-Failed-clause-tells
returns-in-Failed-clause-tells g c = attached_tells _ _ c.in-Failed.ensures.told
