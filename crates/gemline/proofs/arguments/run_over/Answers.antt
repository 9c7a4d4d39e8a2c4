-- A run over the words behind the program's name, or the refusal where the system gave none.

use Rattle.std.proofs.Common.{◌∙◌, refl, List, Result, inl, map, string_bytes, subst, sym}
use Rattle.std.specs.declared.alloc.Global.{Global}
use Rattle.std.specs.declared.io.Error.{Error}
use Rattle.std.specs.declared.string.String.{String}
use Rattle.gl_base.specs.Told.{files_told, sink_told, source_told}
use Rattle.spool_show.specs.Told.{disk_told}
use Rattle.gemline_app.specs.Gemline.{IsRun}
use Rattle.gemline_app.specs.LinkTold.{link_told}
use Rattle.gemline.specs.Arguments.{Arguments, RunsOver}
use Rattle.gemline.proofs.arguments.run_over.Goals as goal

-- the words are those behind the program's name
pub returns-in-Ok-words_of : goal.returns-in-Ok-words_of
returns-in-Ok-words_of g c =
    subst (λ (given : Result Arguments Error). RunsOver given
    (source_told g.R.Source c.args.input.now c.gemline.new.input)
    (files_told g.F.Files c.args.files.now c.gemline.new.files)
    (disk_told g.D.Disk c.args.disk.now c.gemline.new.disk)
    (link_told g.L.Link c.args.link.now c.gemline.new.link)
    (sink_told g.W.Sink c.args.out.now c.gemline.new.out)
    (sink_told g.E.Sink c.args.err.now c.gemline.new.err)
    c.gemline.result) (sym c.in-Ok.is)
    (inl (subst (λ (all : List (String Global)). IsRun (map string_bytes all)
    (source_told g.R.Source c.args.input.now c.gemline.new.input)
    (files_told g.F.Files c.args.files.now c.gemline.new.files)
    (disk_told g.D.Disk c.args.disk.now c.gemline.new.disk)
    (link_told g.L.Link c.args.link.now c.gemline.new.link)
    (sink_told g.W.Sink c.args.out.now c.gemline.new.out)
    (sink_told g.E.Sink c.args.err.now c.gemline.new.err)
    c.gemline.result) (c.deref.ensures.value ∙ c.in-Ok-words_of.ensures) c.gemline.ensures.run))

-- there are none
pub returns-in-Err : goal.returns-in-Err
returns-in-Err g c =
    subst (λ (given : Result Arguments Error). RunsOver given
    (source_told g.R.Source c.args.input.now c.args.input.now)
    (files_told g.F.Files c.args.files.now c.args.files.now)
    (disk_told g.D.Disk c.args.disk.now c.args.disk.now)
    (link_told g.L.Link c.args.link.now c.args.link.now)
    (sink_told g.W.Sink c.args.out.now c.args.out.now)
    (sink_told g.E.Sink c.args.err.now c.refuse.new.err)
    c.refuse.result) (sym c.in-Err.is)
    (record {
      status_is = c.refuse.ensures.status;
      input = record { left = refl; health = refl };
      unread = record { told = refl; health = refl };
      unused = record { told = refl; faults = refl; file = refl };
      uncalled = record { told = refl; moment = refl; health = refl; connected = refl };
      written = record { received = refl; health = refl };
      line = c.refuse.ensures.line;
    })
