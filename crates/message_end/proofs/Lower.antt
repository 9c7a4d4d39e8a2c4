-- What lower crates promise, at hand where no function can be called: in the law of an impl.
use Rattle.line_end.proofs.Kept.{kept, kept-new}
use Rattle.line_end.proofs.Small.{step_facts}
use Rattle.message_flow.proofs.Making.{go-in-blocks, whole-fit}
use Rattle.message_flow.proofs.Standing.{goes-on}
use Rattle.message_end.proofs.Steps.{Laws}

pub lower : Laws
lower = record {
  small = step_facts;
  kept = record { new = kept-new; next = kept };
  standing = goes-on;
  whole = whole-fit;
  in_blocks = go-in-blocks;
}
