-- The two calls are listed one behind the other, and one of them is the cause of a fault.

use Rattle.std.proofs.Common.{arith, length}
use Rattle.disk_base.proofs.Listings.{listed_behind}
use Rattle.disk_base.proofs.Stretches.{both_logged, cause_behind, fault_wider, lists_on}
use Rattle.disk_base.proofs.settling.settle.Goals as goal

pub returns-clause-calls : goal.returns-clause-calls
returns-clause-calls g c =
    both_logged _ _ _ c.args.at c.args.bytes.now _ _ _ c.sync.result c.in-Done.ensures.cause c.in-Done.ensures.calls c.sync.ensures.calls

pub returns-clause-cause : goal.returns-clause-cause
returns-clause-cause g c =
    cause_behind _ _ 1 (length c.args.bytes.now) c.in-Done.ensures.cause _ 1 0 2 (length c.args.bytes.now) _ _ c.sync.result (omega arith)
    (omega arith) (λ none. absurd none) c.sync.ensures.cause

pub returns-in-Failed-clause-cause : goal.returns-in-Failed-clause-cause
returns-in-Failed-clause-cause g c =
    fault_wider _ _ 1 2 _ _ (omega arith) (λ less. less) c.in-Failed.ensures.cause

pub returns-clause-listed : goal.returns-clause-listed
returns-clause-listed g c =
    λ going. listed_behind (c.write.ensures.listed going) (c.sync.ensures.listed (lists_on _ _ 1 _ c.in-Done.ensures.cause going))
