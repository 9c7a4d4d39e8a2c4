-- By the version, which is one of two.

use Rattle.std.proofs.Common.{◌≡◌, ◌⊎◌, ◌*◌, ℕ, ⊎_elim, arith}
use Rattle.spool_file.specs.Reading.{reading_answer}
use Rattle.spool_file.proofs.FileLooks.{version_looks}
use Rattle.spool_file.proofs.Stretches.{read_wider}
use Rattle.spool_file.proofs.slots.read_slots.Goals as goal

-- the other version
two : (version : ℕ) → (version ≡ 1) ⊎ (version ≡ 2) → (version ≡ 1 → ⊥) → version ≡ 2
two version either other = ⊎_elim (λ one. absurd (other one)) (λ is. is) either

pub read_chain-requires-clause-version : goal.read_chain-requires-clause-version
read_chain-requires-clause-version g c = two c.args.frame.version c.requires.frame.version c.if-frame-eq1.false

pub returns-then-frame-eq1-clause-reads : goal.returns-then-frame-eq1-clause-reads
returns-then-frame-eq1-clause-reads g c =
    read_wider _ _ _ _ (2 * c.args.frame.slots) (3 * c.args.frame.slots) (reading_answer c.read_even.result) (omega arith)
    c.read_even.ensures.reads

pub returns-then-frame-eq1-clause-exact : goal.returns-then-frame-eq1-clause-exact
returns-then-frame-eq1-clause-exact g c s told none =
    version_looks c.args.frame.slots c.if-frame-eq1.true (c.read_even.ensures.exact s told none)

pub returns-else-frame-eq1-clause-exact : goal.returns-else-frame-eq1-clause-exact
returns-else-frame-eq1-clause-exact g c s told none =
    version_looks c.args.frame.slots (two c.args.frame.version c.requires.frame.version c.if-frame-eq1.false)
    (c.read_chain.ensures.exact s told none)
