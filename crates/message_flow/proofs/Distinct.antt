-- No two of the messages that are kept have the same key.
use Rattle.std.proofs.Common.{◌≡◌, refl, ap, sym, ◌∙◌, Bool, true, false, cond, ℕ, ◌+◌, List, [], ◌∷◌, ◌++◌, All, Option, Some, None}
use Rattle.std.specs.List.{find, fold, position_or_len, remove}
use Rattle.std.proofs.lemmas.List.Elements.{All-nil, All-push, All-weaker}
use Rattle.block_codec.specs.Block.{BlockView}
use Rattle.block_codec.specs.declared.header.Header.{Header}
use Rattle.message_flow.specs.declared.flow.Flow.{Flow}
use Rattle.message_flow.specs.declared.flow.Flow.TheVariants.{Part, Whole, Duplicate, Foreign, Unexpected, TooLong, Crowded}
use Rattle.message_flow.specs.declared.partial.Partial.{Partial}
use Rattle.message_flow.specs.Assembly.{flow_of, next_partial, has_key, is_due, with_part, new_partial, partials_after, without_key}
use Rattle.message_flow.specs.Entries.{FlowEntry, Kept, kept_after, next_kept}
use Rattle.message_flow.specs.Entries.FlowEntry.{Dropped, Given}
use Rattle.message_flow.specs.Key.{same_key}
use Rattle.message_flow.specs.Receiver.{Receiver}
use Rattle.message_flow.proofs.Firsts.{All-find, All-replace, All-without, removed, replace-first, replaced, without-first}
use Rattle.message_flow.proofs.Keys.{key-left, key-self}

abbrev pub IsOther : Partial → Partial → Type 0
IsOther partial other = same_key partial.header other.header ≡ false

abbrev pub AreDistinct : List Partial → Type 0
AreDistinct [] = Unit {0}
AreDistinct (partial ∷ rest) = All (IsOther partial) rest × AreDistinct rest

distinct-without : (test : Partial → Bool) (partials : List Partial) → AreDistinct partials
    → AreDistinct (without-first test partials)
distinct-without test [] are = tt
distinct-without test (partial ∷ rest) are =
    elim (test partial) as (λ b. AreDistinct (cond b rest (partial ∷ without-first test rest))) [
      | true ↦ are.1
      | false ↦ (All-without test (IsOther partial) rest are.0, distinct-without test rest are.1)
    ]

distinct-replace :
    (added : Partial) (partials : List Partial) → AreDistinct partials
    → AreDistinct (replace-first (has_key added.header) added partials)
distinct-replace added [] are = tt
distinct-replace added (partial ∷ rest) are =
    go (same_key partial.header added.header) refl (distinct-replace added rest are.1)
  where
    go : (b : Bool) → same_key partial.header added.header ≡ b
        → AreDistinct (replace-first (has_key added.header) added rest)
        → AreDistinct (cond b (added ∷ rest) (partial ∷ replace-first (has_key added.header) added rest))
    go true is after = (
      All-weaker (IsOther partial) (IsOther added)
          (λ x other. sym (key-left partial.header added.header x.header is) ∙ other) rest are.0,
      are.1,
    )
    go false is after = (All-replace (has_key added.header) (IsOther partial) added rest is are.0, after)

distinct-push :
    (added : Partial) (partials : List Partial) → find (has_key added.header) partials ≡ None → AreDistinct partials
    → AreDistinct (partials ++ added ∷ [])
distinct-push added [] none are = (All-nil (IsOther added), tt)
distinct-push added (partial ∷ rest) none are =
    go (same_key partial.header added.header) refl (λ more. distinct-push added rest more are.1) none
  where
    go : (b : Bool) → same_key partial.header added.header ≡ b
        → (find (has_key added.header) rest ≡ None → AreDistinct (rest ++ added ∷ []))
        → cond b (Some partial) (find (has_key added.header) rest) ≡ None → AreDistinct (partial ∷ rest ++ added ∷ [])
    go true is after found = absurd (cc)
    go false is after found = (All-push (IsOther partial) rest added are.0 is, after found)

distinct-joined :
    (partials : List Partial) (block : BlockView) (deadline : ℕ) (found : Option Partial)
    → find (has_key block.header) partials ≡ found → AreDistinct partials
    → AreDistinct (with_part found partials block deadline)
distinct-joined partials block deadline None none are =
    distinct-push (new_partial block deadline) partials none are
distinct-joined partials block deadline (Some found) is are =
    rw (replaced (has_key block.header) (next_partial found block deadline) partials)
    (distinct-replace (next_partial found block deadline) partials are)

distinct-without_key : (header : Header) (partials : List Partial) → AreDistinct partials
    → AreDistinct (without_key header partials)
distinct-without_key header partials are =
    rw (removed (has_key header) partials) (distinct-without (has_key header) partials are)

distinct-partials :
    (partials : List Partial) (block : BlockView) (deadline : ℕ) (flow : Flow)
    → AreDistinct partials → AreDistinct (partials_after partials block deadline flow)
distinct-partials partials block deadline Part are = distinct-joined partials block deadline _ refl are
distinct-partials partials block deadline (Whole message check) are = distinct-without_key block.header partials are
distinct-partials partials block deadline Duplicate are = are
distinct-partials partials block deadline (Foreign address) are = are
distinct-partials partials block deadline Unexpected are = distinct-without_key block.header partials are
distinct-partials partials block deadline TooLong are = distinct-without_key block.header partials are
distinct-partials partials block deadline Crowded are = are

pub distinct-next : (receiver : Receiver) (kept : Kept) (entry : FlowEntry) → AreDistinct kept.partials
    → AreDistinct (next_kept receiver kept entry).partials
distinct-next receiver kept (Given block now) are =
    distinct-partials kept.partials block (now + receiver.t4) (flow_of receiver kept.last kept.partials block) are
distinct-next receiver kept (Dropped header now) are = distinct-without_key header kept.partials are

distinct-fold :
    (receiver : Receiver) (entries : List FlowEntry) (kept : Kept) → AreDistinct kept.partials
    → AreDistinct (fold (next_kept receiver) kept entries).partials
distinct-fold receiver [] kept are = are
distinct-fold receiver (entry ∷ entries) kept are =
    distinct-fold receiver entries (next_kept receiver kept entry) (distinct-next receiver kept entry are)

pub distinct-after : (receiver : Receiver) (entries : List FlowEntry)
    → AreDistinct (kept_after receiver entries).partials
distinct-after receiver entries = distinct-fold receiver entries _ tt

-- of distinct messages the first that is due is the one of its key
due-first :
    (now : ℕ) (partials : List Partial) (due : Partial) → AreDistinct partials → find (is_due now) partials ≡ Some due
    → without-first (is_due now) partials ≡ without-first (has_key due.header) partials
due-first now [] due are found = refl
due-first now (partial ∷ rest) due are found = go (is_due now partial) (due-first now rest due are.1) found
  where
    go : (b : Bool)
        → (find (is_due now) rest ≡ Some due
        → without-first (is_due now) rest ≡ without-first (has_key due.header) rest)
        → cond b (Some partial) (find (is_due now) rest) ≡ Some due
        → cond b rest (partial ∷ without-first (is_due now) rest)
        ≡ cond (same_key partial.header due.header) rest (partial ∷ without-first (has_key due.header) rest)
    go true next is =
        let same : partial ≡ due = cc in
        let key : same_key partial.header due.header ≡ true = rw (← same) (key-self partial.header) in
        rw key refl
    go false next is =
        rw (All-find (is_due now) (IsOther partial) rest due are.0 is) (ap (λ ys. partial ∷ ys) (next is))

pub due-dropped :
    (now : ℕ) (partials : List Partial) (due : Partial) → AreDistinct partials → find (is_due now) partials ≡ Some due
    → remove partials (position_or_len (is_due now) partials) ≡ without_key due.header partials
due-dropped now partials due are found =
    removed (is_due now) partials ∙ due-first now partials due are found ∙ sym (removed (has_key due.header) partials)
