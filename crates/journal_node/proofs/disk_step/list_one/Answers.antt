use Rattle.std.proofs.Common.{ℕ, List, ◌++◌, refl, ap, ◌∙◌}
use Rattle.std.specs.Int.{to_be_bytes, w32}
use Rattle.spool_law.specs.Listing.{record_of}
use Rattle.journal_node.proofs.Acting.{fit-is}
use Rattle.journal_node.proofs.disk_step.list_one.Goals as goal

pub list_fitting-requires : goal.list_fitting-requires
list_fitting-requires g c = record {
  version = c.requires.version;
  listed = c.requires.listed;
  entry = (c.in-Ok.ensures ∙ ap (λ (body : List ℕ). to_be_bytes w32 c.args.message.now.system
      ++ body) c.as_slice.ensures);
  fits =
      fit-is c.args.journal (record_of c.args.message.now) c.count.result c.len.result c.in-Ok.entry _
      c.count.ensures.count c.len.ensures (c.in-Ok.ensures ∙ ap (λ
      (body : List ℕ). to_be_bytes w32 c.args.message.now.system ++ body) c.as_slice.ensures) c.in-Fits.ensures;
}

pub returns-in-Full-clause-lists : goal.returns-in-Full-clause-lists
returns-in-Full-clause-lists g c = (
  fit-is c.args.journal (record_of c.args.message.now) c.count.result c.len.result c.in-Ok.entry _
      c.count.ensures.count c.len.ensures (c.in-Ok.ensures ∙ ap (λ
      (body : List ℕ). to_be_bytes w32 c.args.message.now.system ++ body) c.as_slice.ensures) c.in-Full.ensures,
  refl,
  c.retire-in-Full.ensures.disk,
)

pub returns-in-NumbersSpent-clause-lists : goal.returns-in-NumbersSpent-clause-lists
returns-in-NumbersSpent-clause-lists g c = (
  fit-is c.args.journal (record_of c.args.message.now) c.count.result c.len.result c.in-Ok.entry _
      c.count.ensures.count c.len.ensures (c.in-Ok.ensures ∙ ap (λ
      (body : List ℕ). to_be_bytes w32 c.args.message.now.system ++ body) c.as_slice.ensures) c.in-NumbersSpent.ensures,
  refl,
  c.retire-in-NumbersSpent.ensures.disk,
)
