-- What a call of the line leaves of its state, and what it may tell.
use Rattle.std.proofs.Common.{if◌then◌else◌, ◌≡◌, inl, inr, refl, sym, subst, arith, Bool, true, false, ℕ, ◌+◌, ◌<◌, ◌≤◌, List, [], ◌∷◌, ◌++◌, length, nat_lt, All, slice_index}
use Rattle.std.proofs.lemmas.Bool.Decides.{nat_tests}
use Rattle.std.proofs.lemmas.List.{length-drop, length-take}
use Rattle.std.proofs.lemmas.List.Elements.{All-append, All-cons, All-drop, All-nil, All-take}
use Rattle.block_codec.specs.Block.{BlockView, IsBlock}
use Rattle.block_codec.proofs.Parts.{counted_block-block}
use Rattle.line_end.specs.declared.event.LineEvent.TheVariants.{Arrived}
use Rattle.line_end.specs.declared.event.Phase.{Phase}
use Rattle.line_end.specs.declared.event.Phase.TheVariants.{Idle, Gathering}
use Rattle.line_end.specs.Frames.{block_in, counted_in, is_frame, sum_cause}
use Rattle.line_end.specs.Laws.{IsGathered, StatesAreKept, StepsAreSmall}
use Rattle.line_end.specs.Runs.{CanCall, taken_by}
use Rattle.line_end.specs.State.{LineState}
use Rattle.line_end.specs.Step.{LineCall, arrives, gathered_in, gathers, is_due, line_row, line_step, quietly, settles}
use Rattle.line_end.specs.Step.LineCall.{Take, Tick}
use Rattle.line_end.specs.Step.LineInput.{Character, Deadline}
use Rattle.message_end.specs.History.{IsLine}

abbrev AreBytes : List ℕ → Type 0
AreBytes bytes = All (λ byte. byte < 256) bytes

-- ---- what a call leaves

bytes-gathered :
    (old taken new : List ℕ) → AreBytes old → AreBytes taken → IsGathered old taken new → AreBytes new
bytes-gathered old taken new are_old are_taken (inl same) =
    subst (λ (bytes : List ℕ). AreBytes bytes) (sym same) are_old
bytes-gathered old taken new are_old are_taken (inr (inl none)) =
    subst (λ (bytes : List ℕ). AreBytes bytes) (sym none) (All-nil (λ byte. byte < 256))
bytes-gathered old taken new are_old are_taken (inr (inr (inl first))) =
    subst (λ (bytes : List ℕ). AreBytes bytes) (sym first) are_taken
bytes-gathered old taken new are_old are_taken (inr (inr (inr more))) =
    subst (λ (bytes : List ℕ). AreBytes bytes) (sym more) (All-append (λ byte. byte < 256) old taken are_old are_taken)

pub line-call :
    (small : StepsAreSmall) (kept : StatesAreKept) (line : LineState) (call : LineCall) → IsLine line
    → CanCall line call
    → AreBytes (taken_by call) → IsLine (line_step line call).next
line-call small kept line call is can bytes = record {
  state = kept.next line call is.state can;
  bytes = bytes-gathered line.gathered (taken_by call) _ is.bytes bytes (small line call).gathered;
}

-- ---- a block arrives

record IsRead (all : List ℕ) (s : LineState) (now : ℕ) (block : BlockView) : Type 0 where
  idle : (gathered_in all s now).next.phase ≡ Idle
  is : block ≡ block_in all
  whole : nat_lt (length all) (slice_index all 0 + 3) ≡ false

read :
    (all : List ℕ) (s : LineState) (now : ℕ) (block : BlockView) → (gathered_in all s now).event ≡ Arrived block
    → IsRead all s now block
read all s now block is = go (nat_lt (length all) (slice_index all 0 + 3)) (is_frame all) refl refl is
  where
    go : (more framed : Bool) → nat_lt (length all) (slice_index all 0 + 3) ≡ more → is_frame all ≡ framed
        → (if more then gathers all s now else if framed then arrives (block_in all) s else settles
        (sum_cause all) s now).event
        ≡ Arrived block
        → IsRead all s now block
    go true framed a b told = absurd (cc)
    go false false a b told = absurd (cc)
    go false true a b told = record { idle = rw (a, b) refl; is = cc; whole = a }

-- the block in bytes of a frame, the length byte of which is from 10 to 254
block-read :
    (all : List ℕ) → AreBytes all → 10 ≤ slice_index all 0 → slice_index all 0 ≤ 254
    → slice_index all 0 + 3 ≤ length all → IsBlock (block_in all)
unfolding block_in
block-read all bytes least most long =
    counted_block-block (counted_in all) (simp (length-take, length-drop) (omega arith))
    (simp (length-take, length-drop) (omega arith))
    (All-take (λ byte. byte < 256) _ _ (All-drop (λ byte. byte < 256) 1 all bytes))

first-byte : (gathered : List ℕ) (byte : ℕ) → 0 < length gathered
    → slice_index (gathered ++ byte ∷ []) 0 ≡ slice_index gathered 0
first-byte [] byte some = absurd (omega arith)
first-byte (x ∷ xs) byte some = refl

pub record IsArrival (s : LineState) (byte now : ℕ) (block : BlockView) : Type 0 where
  pub idle : (line_step s (Take byte now)).next.phase ≡ Idle
  pub is_block : IsBlock block

pub arrival :
    (small : StepsAreSmall) (s : LineState) (byte now : ℕ) (block : BlockView) → IsLine s → byte < 256
    → (line_step s (Take byte now)).event ≡ Arrived block → IsArrival s byte now block
arrival small s byte now block is below told =
    let phase = ((small s (Take byte now)).arrived block told).0 in
    let got = read (s.gathered ++ byte ∷ []) s now block
    (subst (λ (p : Phase). (line_row p (Character byte) s now).event ≡ Arrived block) phase told) in
    let begun = is.state.gathering phase in
    let first = first-byte s.gathered byte begun.some in
    let least = begun.at_least_10 in
    let most = begun.at_most_254 in
    let missing = begun.missing in
    let bytes = All-append (λ (b : ℕ). b < 256) s.gathered (byte ∷ []) is.bytes
    (All-cons (λ (b : ℕ). b < 256) byte [] below (All-nil (λ (b : ℕ). b < 256))) in
    let whole = got.whole in
    record {
      idle = subst (λ (p : Phase). (line_row p (Character byte) s now).next.phase ≡ Idle) (sym phase) got.idle;
      is_block = rw got.is (block-read (s.gathered ++ byte ∷ []) bytes (omega arith) (omega arith)
          (grind (arith, nat_tests, whole)));
    }

-- no block arrives as time passes
pub tick-arrives :
    (small : StepsAreSmall) (s : LineState) (now : ℕ) (block : BlockView)
    → (line_step s (Tick now)).event ≡ Arrived block → ⊥
tick-arrives small s now block told =
    let phase = ((small s (Tick now)).arrived block told).0 in
    go (is_due s.deadline now)
    (subst (λ (p : Phase).
    (if is_due s.deadline now then line_row p Deadline s now else quietly s).event ≡ Arrived block) phase told)
  where
    go : (due : Bool) → (if due then line_row Gathering Deadline s now else quietly s).event ≡ Arrived block → ⊥
    go true is = absurd (cc)
    go false is = absurd (cc)
