-- The set has the same identifiers.

use Rattle.std.proofs.Common.{◌∙◌, ap}
use Rattle.setup_store.specs.Entries.{entry_of}
use Rattle.setup_store.specs.Kept.{are_among, named_by}
use Rattle.setup_store.proofs.KeptEntries.{among_same}
use Rattle.setup_store.proofs.kept.are_among.Goals as goal

pub returns : goal.returns
returns c = λ all same.
    c.are_some_in.ensures ∙ ap (are_among c.args.ids.now.keys) (c.as_slice-2.ensures ∙ c.in_ok-named_by.ensures)
    ∙ among_same c.args.ids.now.keys all (named_by (entry_of c.args.old.now)) same
