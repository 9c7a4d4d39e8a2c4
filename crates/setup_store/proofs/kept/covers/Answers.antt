-- The set is empty where the identifiers are none.

use Rattle.std.proofs.Common.{◌==◌, refl, ap, length}
use Rattle.std.proofs.lemmas.Bool.{eqb-true, false_from_ne_true}
use Rattle.setup_store.specs.Entries.{entry_of}
use Rattle.setup_store.specs.Kept.{named_by}
use Rattle.setup_store.proofs.KeptEntries.{all_covered, some_covered}
use Rattle.setup_store.proofs.kept.covers.Goals as goal

pub returns-then-is_empty : goal.returns-then-is_empty
returns-then-is_empty c = λ all same.
    all_covered c.args.ids.now.keys all (named_by (entry_of c.args.old.now)) same
    (ap (λ n. n == 0) (c.if-is_empty.ensures.0 refl))

pub returns : goal.returns
returns c = λ all same.
    some_covered c.are_among.result c.args.ids.now.keys all (named_by (entry_of c.args.old.now)) same
    (false_from_ne_true (length c.args.ids.now.keys == 0)
    (λ e. let no = c.if-is_empty.ensures.1 (eqb-true (length c.args.ids.now.keys) 0 e) in cc))
    (c.are_among.ensures all same)
