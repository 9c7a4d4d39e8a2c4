use Rattle.std.proofs.Common.{refl, sym}
use Rattle.message_end.specs.Ends.{input_of}
use Rattle.equipment_node.proofs.Making.{next-made}
use Rattle.equipment_node.proofs.disk_step.step_on.Goals as goal

pub returns-in-Ok-clause-steps : goal.returns-in-Ok-clause-steps
returns-in-Ok-clause-steps g c s node_is on told keeps =
    let acted = c.in-Ok.ensures.acts s node_is on told keeps in
    record {
      step = acted.step;
      is = acted.is;
      node_is = sym acted.at.node_is;
      on = record {
        clear = acted.at.clear;
        made = next-made s (input_of c.args.input) c.args.now acted.step on.made c.requires.input acted.is;
      };
      told = acted.at.told;
      notes = acted.at.notes;
      written = acted.at.written;
    }

pub returns-in-Err-clause-steps : goal.returns-in-Err-clause-steps
returns-in-Err-clause-steps g c s node_is on told keeps =
    c.in-Err.ensures.acts s node_is on told keeps
    (record { line = c.clear.new.self; notes = c.whole_step.new.out.notes }) refl
    c.clear.ensures

pub returns-in-Ok-clause-calls : goal.returns-in-Ok-clause-calls
returns-in-Ok-clause-calls g c s node_is on told = c.in-Ok.ensures.calls s node_is on told

pub returns-in-Err-clause-calls : goal.returns-in-Err-clause-calls
returns-in-Err-clause-calls g c s node_is on told = c.in-Err.ensures.calls s node_is on told

pub returns-in-Ok-clause-back : goal.returns-in-Ok-clause-back
returns-in-Ok-clause-back g c = c.in-Ok.ensures.back

pub returns-in-Err-clause-back : goal.returns-in-Err-clause-back
returns-in-Err-clause-back g c = c.in-Err.ensures.back

pub returns-in-Ok-clause-breaks : goal.returns-in-Ok-clause-breaks
returns-in-Ok-clause-breaks g c s node_is on told = c.in-Ok.ensures.breaks s node_is on told

pub returns-in-Err-clause-breaks : goal.returns-in-Err-clause-breaks
returns-in-Err-clause-breaks g c s node_is on told = c.in-Err.ensures.breaks s node_is on told

pub returns-in-Ok-clause-recipes : goal.returns-in-Ok-clause-recipes
returns-in-Ok-clause-recipes g c = c.in-Ok.ensures.recipes

pub returns-in-Ok-clause-unasked : goal.returns-in-Ok-clause-unasked
returns-in-Ok-clause-unasked g c = c.in-Ok.ensures.unasked

pub returns-in-Err-clause-recipes : goal.returns-in-Err-clause-recipes
returns-in-Err-clause-recipes g c = c.in-Err.ensures.recipes

pub returns-in-Err-clause-unasked : goal.returns-in-Err-clause-unasked
returns-in-Err-clause-unasked g c = c.in-Err.ensures.unasked
