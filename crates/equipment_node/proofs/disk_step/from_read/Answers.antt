use Rattle.std.proofs.Common.{ap, refl, subst, ℕ, [], ◌∷◌, None, Some}
use Rattle.std.specs.Prelude.{Ok}
use Rattle.tool_step.specs.Disk.{standing_in}
use Rattle.message_end.specs.Parts.{Node}
use Rattle.tool_core.specs.Node.{node_of, own_of}
use Rattle.tool_step.specs.Own.{OwnView}
use Rattle.tool_step.specs.declared.kind.Kind.{Kind}
use Rattle.equipment_node.specs.Amid.{disk_worked}
use Rattle.tool_step.specs.Losses.{losses_of}
use Rattle.spool_works.proofs.Called.{made-same}
use Rattle.spool_works.specs.DiskCalls.{HasCalled}
use Rattle.spool_works.specs.DiskWorks.DiskWork.{ReadOldest}
use Rattle.equipment_node.specs.Breaking.{BreaksBy}
use Rattle.equipment_node.proofs.HandingBack.{kept-still}
use Rattle.equipment_node.proofs.LastParts.{asked-is, asked-oldest, none-asked, number-is, served-done, with-node}
use Rattle.equipment_node.proofs.Offering.{asked-offers, offers-if}
use Rattle.equipment_node.proofs.Readying.{asked-owes, asked-ready}
use Rattle.equipment_node.proofs.StepCalls.{reads-by, some-asked}
use Rattle.equipment_node.proofs.StepBreaks.{passes-none, reads-breaks}
use Rattle.equipment_node.proofs.disk_step.from_read.Goals as goal

pub read_oldest-requires : goal.read_oldest-requires
read_oldest-requires g c = record {
  ready =
      asked-ready g.D.Disk c.args.spool.spool (node_of c.args.tool.now) (node_of c.next_unload.new.self)
      c.requires.ready c.in-Some.ensures.own;
  owes =
      asked-owes (node_of c.args.tool.now) (node_of c.next_unload.new.self) c.requires.owes c.in-Some.ensures.own;
}

pub returns-in-None-clause-ready : goal.returns-in-None-clause-ready
returns-in-None-clause-ready g c =
    asked-ready g.D.Disk c.args.spool.spool (node_of c.args.tool.now) (node_of c.next_unload.new.self)
    c.requires.ready c.in-None.ensures.own

pub returns-in-Some-clause-reads : goal.returns-in-Some-clause-reads
returns-in-Some-clause-reads g c t out now at =
    c.read_oldest.ensures.reads t out now
    (asked-is (node_of c.args.tool.now) (node_of c.next_unload.new.self) t at.node_is c.in-Some.ensures.own
    c.in-Some.ensures.core)
    (number-is (node_of c.args.tool.now) t at.node_is (Some c.in-Some.number) c.in-Some.ensures.number)
    (with-node g.D.Disk t (node_of c.args.tool.now) out c.args.spool at)

pub returns-in-None-clause-reads : goal.returns-in-None-clause-reads
returns-in-None-clause-reads g c t out now at =
    let asked = asked-is (node_of c.args.tool.now) (node_of c.next_unload.new.self) t at.node_is c.in-None.ensures.own
    c.in-None.ensures.core in (
      ap (λ (n : Node OwnView Kind). n.own.owed) asked,
      λ new after result does.
          served-done g.D.Disk now t (node_of c.next_unload.new.self) new out after c.args.spool None
          (with-node g.D.Disk t (node_of c.args.tool.now) out c.args.spool at) asked
          (none-asked g.D.Disk t (number-is (node_of c.args.tool.now) t at.node_is None c.in-None.ensures.number))
          result does,
    )

pub returns-in-Some-clause-calls : goal.returns-in-Some-clause-calls
returns-in-Some-clause-calls g c t out at =
    let some = number-is (node_of c.args.tool.now) t at.node_is (Some c.in-Some.number) c.in-Some.ensures.number in
    reads-by g.D.Disk t disk_worked c.args.spool.spool.disk c.read_oldest.result (Some c.in-Some.number) some
    (subst
    (λ (slots : ℕ).
    HasCalled g.D.Disk disk_worked c.args.spool.spool.disk (standing_in t.next) (ReadOldest slots ∷ [])
    c.read_oldest.result)
    (asked-oldest (node_of c.args.tool.now) (node_of c.next_unload.new.self) t at.node_is c.in-Some.ensures.own
    c.in-Some.ensures.core)
    (c.read_oldest.ensures.calls (standing_in t.next) at.clear.stands
    (some-asked g.D.Disk c.args.spool.spool t c.in-Some.number at.clear some)))

pub returns-in-None-clause-calls : goal.returns-in-None-clause-calls
returns-in-None-clause-calls g c t out at =
    reads-by g.D.Disk t disk_worked c.args.spool.spool.disk (Ok (c.args.spool, None)) None
    (number-is (node_of c.args.tool.now) t at.node_is None c.in-None.ensures.number)
    (made-same g.D.Disk c.args.spool.spool.disk c.args.spool.spool.disk refl)

pub returns-in-Some-clause-disk : goal.returns-in-Some-clause-disk
returns-in-Some-clause-disk g c = c.read_oldest.ensures.disk

pub returns-in-None-clause-disk : goal.returns-in-None-clause-disk
returns-in-None-clause-disk g c = kept-still g.D.Disk c.args.spool.spool.disk

pub returns-in-Some-clause-breaks : goal.returns-in-Some-clause-breaks
returns-in-Some-clause-breaks g c t out at s =
    let some = number-is (node_of c.args.tool.now) t at.node_is (Some c.in-Some.number) c.in-Some.ensures.number in
    reads-breaks g.D.Disk s t disk_worked c.args.spool.spool.disk out.notes c.read_oldest.result
    (Some c.in-Some.number) some
    (subst
    (λ (slots : ℕ).
    BreaksBy g.D.Disk disk_worked c.args.spool.spool.disk
    (losses_of s (standing_in t.next) [] (ReadOldest slots ∷ []) t.notes) out.notes c.read_oldest.result)
    (asked-oldest (node_of c.args.tool.now) (node_of c.next_unload.new.self) t at.node_is c.in-Some.ensures.own
    c.in-Some.ensures.core)
    (c.read_oldest.ensures.breaks s (standing_in t.next) at.clear.stands
    (some-asked g.D.Disk c.args.spool.spool t c.in-Some.number at.clear some) at.told t.notes out.notes at.notes))

pub returns-in-None-clause-breaks : goal.returns-in-None-clause-breaks
returns-in-None-clause-breaks g c t out at s =
    reads-breaks g.D.Disk s t disk_worked c.args.spool.spool.disk out.notes (Ok (c.args.spool, None)) None
    (number-is (node_of c.args.tool.now) t at.node_is None c.in-None.ensures.number)
    (passes-none g.D.Disk c.args.spool.spool.disk c.args.spool.spool.disk refl)

pub returns-in-Some-clause-offers : goal.returns-in-Some-clause-offers
returns-in-Some-clause-offers g c =
    offers-if (own_of c.args.tool.now.own) (own_of c.next_unload.new.self.own) c.read_oldest.result
    (asked-offers (node_of c.args.tool.now) (node_of c.next_unload.new.self) c.in-Some.ensures.own)

pub returns-in-None-clause-offers : goal.returns-in-None-clause-offers
returns-in-None-clause-offers g c =
    asked-offers (node_of c.args.tool.now) (node_of c.next_unload.new.self) c.in-None.ensures.own
