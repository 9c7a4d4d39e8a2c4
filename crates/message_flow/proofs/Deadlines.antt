-- What is kept as to T4 is what is looked back for.
use Rattle.std.proofs.Common.{◌≡◌, ◌≢◌, refl, sym, ◌∙◌, ap, arith, Bool, true, false, cond, ℕ, ◌≤◌, List, [], ◌∷◌, map, min, nat_lt, reverse, All, Option, Some, None}
use Rattle.std.specs.List.{find, fold, reduce}
use Rattle.std.proofs.Math.Nat.{min-eq_left, min-eq_right, min-le_left, min-le_right}
use Rattle.std.proofs.lemmas.Bool.{ltb-false, ltb-true}
use Rattle.std.proofs.lemmas.List.Elements.{All-nil, All-cons, All-head, All-tail}
use Rattle.block_codec.specs.Block.{BlockView}
use Rattle.block_codec.specs.declared.header.Header.{Header}
use Rattle.message_flow.specs.declared.partial.Partial.{Partial}
use Rattle.message_flow.specs.Assembly.{AssemblyView, has_key, header_so_far, is_due}
use Rattle.message_flow.specs.Deadlines.{IsDeadlineAfter, IsDeadlineAt, deadline_of, dropped_at, has_come, newest_of}
use Rattle.message_flow.specs.Entries.{FlowEntry, Kept, StandsFor, kept_after}
use Rattle.message_flow.specs.History.{Met, met_of, newest_header, open_blocks, open_firsts}
use Rattle.message_flow.specs.Key.{same_key}
use Rattle.message_flow.specs.Laws.{AreFirsts, deadline_so_far}
use Rattle.message_flow.specs.Receiver.{Receiver}
use Rattle.message_flow.proofs.Agreement.{Agrees, agrees-after, find-same-key}
use Rattle.message_flow.proofs.Distinct.{AreDistinct, IsOther}
use Rattle.message_flow.proofs.Firsts.{All-find}
use Rattle.message_flow.proofs.Keys.{key-self}

-- a message is the one that is found by its own key
abbrev pub IsFoundIn : List Partial → Partial → Type 0
IsFoundIn partials partial = find (has_key partial.header) partials ≡ Some partial

found-behind :
    (partial : Partial) (rest some : List Partial) → All (IsOther partial) some → All (IsFoundIn rest) some
    → All (IsFoundIn (partial ∷ rest)) some
found-behind partial rest [] others found = All-nil (IsFoundIn (partial ∷ rest))
found-behind partial rest (other ∷ some) others found =
    let differ : same_key partial.header other.header ≡ false = All-head (IsOther partial) other some others in
    All-cons (IsFoundIn (partial ∷ rest)) other some (rw differ (All-head (IsFoundIn rest) other some found))
    (found-behind partial rest some (All-tail (IsOther partial) other some others)
    (All-tail (IsFoundIn rest) other some found))

each-found : (partials : List Partial) → AreDistinct partials → All (IsFoundIn partials) partials
each-found [] are = All-nil (IsFoundIn [])
each-found (partial ∷ rest) are =
    All-cons (IsFoundIn (partial ∷ rest)) partial rest (rw (key-self partial.header) refl)
    (found-behind partial rest rest are.0 (each-found rest are.1))

-- ---- the least deadline

-- a message with this deadline is found by its own key
record IsReached (all : List Partial) (moment : ℕ) : Type 0 where
  pub partial : Partial
  pub found : IsFoundIn all partial
  pub its : partial.deadline ≡ moment

reached-min : (all : List Partial) (a b : ℕ) → IsReached all a → IsReached all b → IsReached all (min a b)
reached-min all a b reached other = go (nat_lt b a) refl
  where
    go : (t : Bool) → nat_lt b a ≡ t → IsReached all (min a b)
    go true less = rw (min-eq_right (let h = ltb-true b a less in let le : b ≤ a = omega arith in le)) other
    go false more = rw (min-eq_left (ltb-false b a more)) reached

record IsLeast (all partials : List Partial) (first moment : ℕ) : Type 0 where
  pub reached : IsReached all moment
  pub at_most : moment ≤ first
  pub least : All (λ partial. moment ≤ partial.deadline) partials

fold-least :
    (all partials : List Partial) (first : ℕ) → IsReached all first → All (IsFoundIn all) partials
    → IsLeast all partials first (fold min first (map (λ partial. partial.deadline) partials))
fold-least all [] first reached found =
    record { reached = reached; at_most = omega arith; least = All-nil (λ partial. first ≤ partial.deadline) }
fold-least all (partial ∷ rest) first reached found =
    let its : IsReached all partial.deadline =
    record { partial = partial; found = All-head (IsFoundIn all) partial rest found; its = refl } in
    let less = fold-least all rest (min first partial.deadline) (reached-min all first partial.deadline reached its)
    (All-tail (IsFoundIn all) partial rest found) in
    let left = min-le_left first partial.deadline in
    let right = min-le_right first partial.deadline in
    let most = less.at_most in
    record {
      reached = less.reached;
      at_most = omega arith;
      least = All-cons (λ (p : Partial). fold min (min first partial.deadline)
          (map (λ (q : Partial). q.deadline) rest) ≤ p.deadline)
          partial rest (omega arith) less.least;
    }

-- what is found of a key is among the messages
least-found :
    (partials : List Partial) (moment : ℕ) (header : Header) (found : Option Partial) (other : ℕ)
    → All (λ partial. moment ≤ partial.deadline) partials → find (has_key header) partials ≡ found
    → deadline_so_far found ≡ Some other → moment ≤ other
least-found partials moment header None other least is e = absurd (cc)
least-found partials moment header (Some partial) other least is e =
    let same : partial.deadline ≡ other = cc in
    rw (← same) (All-find (has_key header) (λ (p : Partial). moment ≤ p.deadline) partials partial least is)

no-blocks : (blocks : List BlockView) → None ≡ newest_header blocks → blocks ≡ []
no-blocks [] e = refl
no-blocks (block ∷ before) e = absurd (cc)

some-blocks : (blocks : List BlockView) (header : Header) → newest_header blocks ≡ Some header → blocks ≢ []
some-blocks [] header e none = absurd (cc)
some-blocks (block ∷ before) header e none = absurd (cc)

deadline-is :
    (receiver : Receiver) (met : List Met) (last : Option Header) (partials : List Partial)
    → Agrees receiver (record { last = last; partials = partials }) met
    → IsDeadlineAfter receiver met (reduce min (map (λ partial. partial.deadline) partials))
deadline-is receiver met last [] agrees = λ header. no-blocks (open_blocks header met) (agrees.each header).header
deadline-is receiver met last (partial ∷ rest) agrees =
    let all = partial ∷ rest in
    let found = each-found all agrees.distinct in
    let its : IsReached all partial.deadline =
    record { partial = partial; found = All-head (IsFoundIn all) partial rest found; its = refl } in
    let least = fold-least all rest partial.deadline its (All-tail (IsFoundIn all) partial rest found) in
    let key = least.reached.partial in
    record {
      key = key.header;
      is_open = some-blocks (open_blocks key.header met) key.header
          (sym (agrees.each key.header).header ∙ ap header_so_far least.reached.found);
      reached = sym (agrees.each key.header).deadline_is ∙ ap deadline_so_far least.reached.found
          ∙ ap (λ (n : ℕ). Some n) least.reached.its;
      least = λ header other e.
          least-found all _ header _ other
          (All-cons (λ (p : Partial). fold min partial.deadline (map (λ (q : Partial). q.deadline) rest) ≤ p.deadline)
          partial rest least.at_most least.least) refl ((agrees.each header).deadline_is ∙ e);
    }

-- ---- the message that is dropped

-- message by message, what is looked back for with the key of the first block
abbrev AreEnds : Receiver → List Met → List Partial → List Header → Type 0
AreEnds receiver met [] [] = Unit {0}
AreEnds receiver met [] (header ∷ headers) = ⊥
AreEnds receiver met (partial ∷ partials) [] = ⊥
AreEnds receiver met (partial ∷ partials) (header ∷ headers) =
    (newest_header (open_blocks header met) ≡ Some partial.header)
    × (deadline_of receiver header met ≡ Some partial.deadline)
    × AreEnds receiver met partials headers

are-ends :
    (receiver : Receiver) (kept : Kept) (met : List Met) → Agrees receiver kept met
    → (partials : List Partial) (headers : List Header)
    → All (IsFoundIn kept.partials) partials → AreFirsts partials headers → AreEnds receiver met partials headers
are-ends receiver kept met agrees [] [] found are = tt
are-ends receiver kept met agrees [] (header ∷ headers) found are = absurd are
are-ends receiver kept met agrees (partial ∷ partials) [] found are = absurd are
are-ends receiver kept met agrees (partial ∷ partials) (header ∷ headers) found are =
    let e : find (has_key header) kept.partials ≡ Some partial =
    find-same-key partial.header header kept.partials are.0
    ∙ All-head (IsFoundIn kept.partials) partial partials found in (
      sym (agrees.each header).header ∙ ap header_so_far e,
      sym (agrees.each header).deadline_is ∙ ap deadline_so_far e,
      are-ends receiver kept met agrees partials headers
          (All-tail (IsFoundIn kept.partials) partial partials found) are.1,
    )

first-due :
    (receiver : Receiver) (met : List Met) (now : ℕ) (partials : List Partial) (headers : List Header)
    → AreEnds receiver met partials headers
    → header_so_far (find (is_due now) partials)
    ≡ newest_of met (find (λ first. has_come now (deadline_of receiver first met)) headers)
first-due receiver met now [] [] are = refl
first-due receiver met now [] (header ∷ headers) are = absurd are
first-due receiver met now (partial ∷ partials) [] are = absurd are
first-due receiver met now (partial ∷ partials) (header ∷ headers) are =
    rw (are.1) (go (is_due now partial) (first-due receiver met now partials headers are.2))
  where
    go : (t : Bool)
        → header_so_far (find (is_due now) partials)
        ≡ newest_of met (find (λ first. has_come now (deadline_of receiver first met)) headers)
        → header_so_far (cond t (Some partial) (find (is_due now) partials))
        ≡ newest_of met (cond t (Some header) (find (λ first. has_come now (deadline_of receiver first met)) headers))
    go true next = sym are.0
    go false next = next

-- ---- after all entries

pub deadline-kept :
    (receiver : Receiver) (entries : List FlowEntry)
    → IsDeadlineAt receiver entries
    (reduce min (map (λ partial. partial.deadline) (kept_after receiver entries).partials))
deadline-kept receiver entries = deadline-is receiver _ _ _ (agrees-after receiver entries)

pub due-kept :
    (receiver : Receiver) (entries : List FlowEntry) (now : ℕ)
    → header_so_far (find (is_due now) (kept_after receiver entries).partials) ≡ dropped_at receiver entries now
due-kept receiver entries now =
    let kept = kept_after receiver entries in
    let met = met_of receiver (reverse entries) in
    let agrees = agrees-after receiver entries in
    first-due receiver met now kept.partials (open_firsts met)
    (are-ends receiver kept met agrees kept.partials (open_firsts met)
    (each-found kept.partials agrees.distinct) agrees.firsts)

pub deadline_stands :
    (assembly : AssemblyView) (entries : List FlowEntry) → StandsFor assembly entries
    → IsDeadlineAt assembly.receiver entries (reduce min (map (λ partial. partial.deadline) assembly.partials))
deadline_stands assembly entries stands = rw stands.partials (deadline-kept assembly.receiver entries)

pub dropped_stands :
    (assembly : AssemblyView) (entries : List FlowEntry) (now : ℕ) → StandsFor assembly entries
    → header_so_far (find (is_due now) assembly.partials) ≡ dropped_at assembly.receiver entries now
dropped_stands assembly entries now stands = rw stands.partials (due-kept assembly.receiver entries now)
