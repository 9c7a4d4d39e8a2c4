-- What a plan file means, by its document or by having none.
use Rattle.std.proofs.Common.{◌≡◌, sym, ap, ◌∙◌, ℕ, inl, inr, List, Some, Result, Ok, Err}
use Rattle.equipment_tables.specs.declared.plan.Plans.{Plans}
use Rattle.toml.specs.Data.{Members}
use Rattle.gem_config.specs.declared.fault.ConfigFault.{ConfigFault}
use Rattle.gem_config.specs.declared.fault.ConfigFault.TheVariants as fault
use Rattle.gem_config.specs.Plans.{IsDocument, IsReadAs, Means, plans_of}
use Rattle.gem_config.specs.Reading.{Gives, Read}
use Rattle.gem_config.proofs.FittingPlans.{plans_fit}

one_document : (text : List ℕ) (d e : Members) → IsDocument text d → IsDocument text e → d ≡ e
one_document text d e a b = let both : Some d ≡ Some e = sym a.parsed ∙ b.parsed in cc

-- all that a text with a document can mean
only_by : (text : List ℕ) (document : Members) → IsDocument text document → (read : Read Plans) → Means text read
    → read ≡ plans_of document
only_by text document is read (inl m) = sym m.2 ∙ ap plans_of (one_document text m.0 document m.1 is)
only_by text document is read (inr m) = absurd (m.0 document is)

pub by_document : (text : List ℕ) (document : Members) → IsDocument text document → (result : Result Plans ConfigFault)
    → Gives result (plans_of document) → IsReadAs text result
by_document text document is (Ok plans) gives = record {
  found = inl (document, is, gives);
  fits = plans_fit document plans gives;
  refuses = tt;
  only = λ read m. only_by text document is read m ∙ gives;
}
by_document text document is (Err e) gives = record {
  found = tt;
  fits = tt;
  refuses = λ real. inl (document, is, gives real);
  only = λ read m real. only_by text document is read m ∙ gives real;
}
