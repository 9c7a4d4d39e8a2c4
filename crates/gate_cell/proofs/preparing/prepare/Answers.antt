-- The value goes into the spare copy: what a crash leaves, which calls are listed, and what is prepared then.

use Rattle.std.proofs.Common.{length, ℕ, ◌+◌, ◌<◌, ◌≤◌, not, refl, sym, ap, subst, ◌∙◌, inl, inr, rules, arith}
use Rattle.disk_base.specs.Calls.{read_call, with_call}
use Rattle.disk_base.specs.declared.disk.DiskAnswer.TheVariants.{Done, Failed}
use Rattle.disk_base.specs.Faults.{IsLeftOut}
use Rattle.disk_base.proofs.Listings.{listed_behind}
use Rattle.disk_base.proofs.Stretches.{fault_behind, left_out_behind, lists_on}
use Rattle.gate_cell.proofs.Values.{logs_spare, place_is, prepared_is, prepares, settles_spare, told_before, untold}
use Rattle.gate_cell.proofs.preparing.prepare.Goals as goal

pub returns-in-Failed-clause-told : goal.returns-in-Failed-clause-told
returns-in-Failed-clause-told g c = λ s told.
    prepares s c.args.at (c.requires.settled s told) c.args.value _ Failed (inl (c.in-Failed.ensures.told ∙ told))

pub returns-in-Failed-settle-clause-told : goal.returns-in-Failed-settle-clause-told
returns-in-Failed-settle-clause-told g c = λ s told.
    let there = (place_is s c.args.at _ _ c.copy_place.result _ c.names_second-second.result c.place_in-gate_place.ensures (c.in-Done.ensures.bytes s told) (search rules) c.names_second-second.ensures c.copy_place.ensures c.place_in-copy.ensures) in
    prepares s c.args.at (c.requires.settled s told) c.args.value _ Failed
    (settles_spare _ _ _ s c.args.at c.args.value _ _ told c.read.ensures.told there.1 c.copy_bytes.ensures.bytes Failed c.in-Failed-settle.ensures.told)

pub returns-in-Failed-settle-clause-calls : goal.returns-in-Failed-settle-clause-calls
returns-in-Failed-settle-clause-calls g c = λ s told.
    let there = (place_is s c.args.at _ _ c.copy_place.result _ c.names_second-second.result c.place_in-gate_place.ensures (c.in-Done.ensures.bytes s told) (search rules) c.names_second-second.ensures c.copy_place.ensures c.place_in-copy.ensures) in
    inr (logs_spare s c.args.at c.args.value _ _ there.1 c.copy_bytes.ensures.bytes
    (IsLeftOut (g.D.Disk.health c.read.new.self) (g.D.Disk.health c.settle.new.disk))
    (λ made n. IsLeftOut (g.D.Disk.health c.args.disk) (g.D.Disk.health c.settle.new.disk) (1 + made) n)
    (λ made n few short is. left_out_behind _ _ 1 0 c.in-Done.ensures.cause _ made n (1 + made) n (omega arith) (omega arith) is) _ _ _ Failed (c.in-Done.ensures.calls ∙ ap (λ (n : ℕ). with_call (read_call n 1 Done) (g.D.Disk.calls c.args.disk)) c.place_in-gate_place.ensures) c.in-Failed-settle.ensures.calls)

pub returns-in-Failed-settle-clause-cause : goal.returns-in-Failed-settle-clause-cause
returns-in-Failed-settle-clause-cause g c =
    fault_behind _ _ 1 0 c.in-Done.ensures.cause _ 2 3 _ ((g.D.Disk.health c.args.disk).room < 8) (omega arith)
    (λ less. omega (arith, less, c.copy_bytes.ensures.len, c.in-Done.ensures.cause.room_left)) c.in-Failed-settle.ensures.cause

pub returns-in-Failed-settle-clause-listed : goal.returns-in-Failed-settle-clause-listed
returns-in-Failed-settle-clause-listed g c =
    λ going. listed_behind (c.read.ensures.listed going) (c.settle.ensures.listed (lists_on _ _ 1 0 c.in-Done.ensures.cause going))

pub returns-in-Done-settle-clause-told : goal.returns-in-Done-settle-clause-told
returns-in-Done-settle-clause-told g c = λ s told.
    let there = (place_is s c.args.at _ _ c.copy_place.result _ c.names_second-second.result c.place_in-gate_place.ensures (c.in-Done.ensures.bytes s told) (search rules) c.names_second-second.ensures c.copy_place.ensures c.place_in-copy.ensures) in
    prepares s c.args.at (c.requires.settled s told) c.args.value _ Done
    (settles_spare _ _ _ s c.args.at c.args.value _ _ told c.read.ensures.told there.1 c.copy_bytes.ensures.bytes Done c.in-Done-settle.ensures.told)

pub returns-in-Done-settle-clause-calls : goal.returns-in-Done-settle-clause-calls
returns-in-Done-settle-clause-calls g c = λ s told.
    let there = (place_is s c.args.at _ _ c.copy_place.result _ c.names_second-second.result c.place_in-gate_place.ensures (c.in-Done.ensures.bytes s told) (search rules) c.names_second-second.ensures c.copy_place.ensures c.place_in-copy.ensures) in
    (logs_spare s c.args.at c.args.value _ _ there.1 c.copy_bytes.ensures.bytes
    (IsLeftOut (g.D.Disk.health c.read.new.self) (g.D.Disk.health c.settle.new.disk))
    (λ made n. IsLeftOut (g.D.Disk.health c.args.disk) (g.D.Disk.health c.settle.new.disk) (1 + made) n)
    (λ made n few short is. left_out_behind _ _ 1 0 c.in-Done.ensures.cause _ made n (1 + made) n (omega arith) (omega arith) is) _ _ _ Done (c.in-Done.ensures.calls ∙ ap (λ (n : ℕ). with_call (read_call n 1 Done) (g.D.Disk.calls c.args.disk)) c.place_in-gate_place.ensures) c.in-Done-settle.ensures.calls)

pub returns-in-Done-settle-clause-listed : goal.returns-in-Done-settle-clause-listed
returns-in-Done-settle-clause-listed g c =
    λ going. listed_behind (c.read.ensures.listed going) (c.settle.ensures.listed (lists_on _ _ 1 0 c.in-Done.ensures.cause going))

pub invariant_of-result : goal.invariant_of-result
invariant_of-result g c = record {
  within = subst (λ (n : ℕ). c.args.at + 17 ≤ n) (sym (c.settle.ensures.size ∙ c.read.ensures.size)) c.requires.within;
  spare = λ t after.
      let old = told_before _ _ _ t c.in-Done-settle.ensures.told after in
      let s = old.0 in
      let told = sym c.read.ensures.told ∙ old.1 in
      let there = (place_is s c.args.at _ _ c.copy_place.result _ c.names_second-second.result c.place_in-gate_place.ensures (c.in-Done.ensures.bytes s told) (search rules) c.names_second-second.ensures c.copy_place.ensures c.place_in-copy.ensures) in
      (prepared_is s c.args.at (c.requires.settled s told) c.args.value _ t (not c.names_second-second.result) there.0 (c.ranges.value.fits)
      (settles_spare _ _ _ s c.args.at c.args.value _ _ told c.read.ensures.told there.1 c.copy_bytes.ensures.bytes Done c.in-Done-settle.ensures.told) after).0;
}

pub returns-in-Done-settle-clause-value : goal.returns-in-Done-settle-clause-value
returns-in-Done-settle-clause-value g c = (
  refl,
  λ t after.
      let old = told_before _ _ _ t c.in-Done-settle.ensures.told after in
      let s = old.0 in
      let told = sym c.read.ensures.told ∙ old.1 in
      let there = (place_is s c.args.at _ _ c.copy_place.result _ c.names_second-second.result c.place_in-gate_place.ensures (c.in-Done.ensures.bytes s told) (search rules) c.names_second-second.ensures c.copy_place.ensures c.place_in-copy.ensures) in
      (prepared_is s c.args.at (c.requires.settled s told) c.args.value _ t (not c.names_second-second.result) there.0 (c.ranges.value.fits)
      (settles_spare _ _ _ s c.args.at c.args.value _ _ told c.read.ensures.told there.1 c.copy_bytes.ensures.bytes Done c.in-Done-settle.ensures.told) after).1,
)

pub returns-in-Done-settle-clause-second : goal.returns-in-Done-settle-clause-second
returns-in-Done-settle-clause-second g c = λ s told.
    (place_is s c.args.at _ _ c.copy_place.result _ c.names_second-second.result c.place_in-gate_place.ensures (c.in-Done.ensures.bytes s told) (search rules) c.names_second-second.ensures c.copy_place.ensures c.place_in-copy.ensures).0

pub returns-in-Failed-settle-clause-untold : goal.returns-in-Failed-settle-clause-untold
returns-in-Failed-settle-clause-untold g c = λ none. untold _ _ c.place_in-copy.result c.copy_bytes.result Failed (c.read.ensures.told ∙ none) c.in-Failed-settle.ensures.told

pub returns-in-Done-settle-clause-untold : goal.returns-in-Done-settle-clause-untold
returns-in-Done-settle-clause-untold g c = λ none. untold _ _ c.place_in-copy.result c.copy_bytes.result Done (c.read.ensures.told ∙ none) c.in-Done-settle.ensures.told
