-- The blocks of a message in their order, and its text in them.
use Rattle.std.proofs.Common.{◌≡◌, ◌≢◌, refl, ap, sym, ◌∙◌, arith, ◌<◌, ◌≤◌, ◌⊎◌, inl, inr, ℕ, zero, suc, ◌+◌, ◌-◌, ◌*◌, ◌/◌, ◌%◌, List, [], ◌∷◌, ◌++◌, drop, length, map, max, min, slice_get, take, Some}
use Rattle.std.specs.List.{flat_map, range_with_len}
use Rattle.std.proofs.Math.Nat.{div-add-mod, le-min, max-eq_left, min-eq_left, min-le_left, mod-lt, zero-add}
use Rattle.std.proofs.lemmas.Bool.{eqb-true, eq-eqb}
use Rattle.std.proofs.lemmas.List.{append-nil, append_assoc, drop-take, length-drop, length-take, take-append-drop, take-take, take_all}
use Rattle.block_codec.specs.Block.{BlockView}
use Rattle.block_codec.specs.Protocol.{longest_body, longest_text, most_blocks}
use Rattle.gl_base.specs.declared.side.Side.{Side}
use Rattle.message_flow.specs.declared.message.Message.{Message}
use Rattle.message_flow.specs.Blocks.{block_count, numbered_block}
use Rattle.message_flow.specs.Laws.{BlocksAreNumbered, BlocksCarryText}

length-numbered : (f : ℕ → BlockView) (from count : ℕ) → length (map f (range_with_len from count)) ≡ count
length-numbered f from zero = refl
length-numbered f from (suc count) = ap suc (length-numbered f (from + 1) count)

get-numbered :
    (f : ℕ → BlockView) (from count place : ℕ) → place < count
    → slice_get (map f (range_with_len from count)) place ≡ Some (f (place + from))
get-numbered f from zero place less = absurd (omega arith)
get-numbered f from (suc count) zero less = ap (λ n. Some (f n)) (omega arith)
get-numbered f from (suc count) (suc place) less =
    get-numbered f (from + 1) count place (omega arith) ∙ ap (λ n. Some (f n)) (omega arith)

pub numbered : BlocksAreNumbered
numbered = record {
  count = λ side device message. length-numbered (numbered_block side device message) 1 (block_count message);
  each = λ side device message place less. get-numbered (numbered_block side device message) 1
      (block_count message) place less;
}

-- ---- the text in the blocks

-- how many blocks a text of so many bytes has: they hold it, and all but the last are full
record IsCount (bytes count : ℕ) : Type 0 where
  pub some : 1 ≤ count
  pub holds : bytes ≤ longest_body * count
  pub full : (longest_body * (count - 1) < bytes) ⊎ (count ≡ 1)

is-count-of : (bytes whole rest : ℕ) → longest_body * whole + rest ≡ bytes + (longest_body - 1) → rest < longest_body
    → IsCount bytes (max whole 1)
is-count-of bytes zero rest e less = record { some = omega arith; holds = omega arith; full = inr refl }
is-count-of bytes (suc whole) rest e less =
    let most : max (suc whole) 1 ≡ suc whole = max-eq_left (omega arith) in
    rw most (record { some = omega arith; holds = omega arith; full = inl (omega arith) })

is-count : (message : Message) → IsCount (length message.body) (block_count message)
is-count message =
    is-count-of (length message.body) ((length message.body + (longest_body - 1)) / longest_body)
    ((length message.body + (longest_body - 1)) % longest_body)
    (div-add-mod (length message.body + (longest_body - 1)) longest_body)
    (mod-lt (length message.body + (longest_body - 1)) (omega arith))

few-of : (bytes count : ℕ) → IsCount bytes count → bytes ≤ longest_text → count ≤ most_blocks
few-of bytes count is short = go is.full
  where
    go : (longest_body * (count - 1) < bytes) ⊎ (count ≡ 1) → count ≤ most_blocks
    go (inl full) = omega arith
    go (inr one) = omega arith

pub few-blocks : (message : Message) → length message.body ≤ longest_text → block_count message ≤ most_blocks
few-blocks message short = few-of (length message.body) (block_count message) (is-count message) short

pub take-plus : (n m : ℕ) (xs : List ℕ) → take (n + m) xs ≡ take n xs ++ take m (drop n xs)
take-plus n m xs =
    sym (take-append-drop n (take (n + m) xs))
    ∙ ap (λ (ys : List ℕ). ys ++ drop n (take (n + m) xs)) (take-take n (n + m) xs (omega arith))
    ∙ ap (λ (ys : List ℕ). take n xs ++ ys) (drop-take n m xs)

-- the next 244 bytes behind those of the blocks before
pub take-block : (number : ℕ) (body : List ℕ)
    → take (longest_body * number) body ++ take longest_body (drop (longest_body * (number + 1 - 1)) body)
    ≡ take (longest_body * (number + 1)) body
take-block number body =
    let e : number + 1 - 1 ≡ number = omega arith in
    let f : longest_body * number + longest_body ≡ longest_body * (number + 1) = omega arith in
    rw e (sym (take-plus (longest_body * number) longest_body body) ∙ ap (λ n. take n body) f)

joined-from :
    (side : Side) (device : ℕ) (message : Message) (from count : ℕ)
    → take (longest_body * from) message.body
    ++ flat_map (λ (block : BlockView). block.body)
    (map (numbered_block side device message) (range_with_len (from + 1) count))
    ≡ take (longest_body * (from + count)) message.body
joined-from side device message from zero =
    let e : from + 0 ≡ from = omega arith in
    append-nil (take (longest_body * from) message.body) ∙ ap (λ n. take (longest_body * n) message.body) (sym e)
joined-from side device message from (suc count) =
    let e : from + 1 + count ≡ from + suc count = omega arith in
    sym (append_assoc (take (longest_body * from) message.body)
    (take longest_body (drop (longest_body * (from + 1 - 1)) message.body))
    (flat_map (λ (block : BlockView). block.body)
    (map (numbered_block side device message) (range_with_len (from + 1 + 1) count))))
    ∙ ap (λ (bytes : List ℕ). bytes ++ flat_map (λ (block : BlockView). block.body)
    (map (numbered_block side device message) (range_with_len (from + 1 + 1) count))) (take-block from message.body)
    ∙ joined-from side device message (from + 1) count
    ∙ ap (λ n. take (longest_body * n) message.body) e

pub take-count : (message : Message) → take (longest_body * block_count message) message.body ≡ message.body
take-count message = take_all (longest_body * block_count message) message.body (is-count message).holds

pub length-block : (number : ℕ) (body : List ℕ)
    → length (take longest_body (drop (longest_body * (number - 1)) body))
    ≡ min longest_body (length body - longest_body * (number - 1))
length-block number body = length-take longest_body (drop (longest_body * (number - 1)) body)
    ∙ ap (min longest_body) (length-drop (longest_body * (number - 1)) body)

full-block :
    (number : ℕ) (body : List ℕ) (count : ℕ) → IsCount (length body) count → 1 ≤ number → number < count
    → length (take longest_body (drop (longest_body * (number - 1)) body)) ≡ longest_body
full-block number body count is some less = length-block number body ∙ go is.full
  where
    go : (longest_body * (count - 1) < length body) ⊎ (count ≡ 1)
        → min longest_body (length body - longest_body * (number - 1)) ≡ longest_body
    go (inl full) = min-eq_left (omega arith)
    go (inr one) = absurd (omega arith)

some-text : (body : List ℕ) → body ≢ [] → 1 ≤ length body
some-text [] some = absurd (some refl)
some-text (byte ∷ rest) some = omega arith

last-block :
    (body : List ℕ) (count : ℕ) → IsCount (length body) count → 1 ≤ length body
    → 1 ≤ length (take longest_body (drop (longest_body * (count - 1)) body))
last-block body count is some = rw (length-block count body) (go is.full)
  where
    go : (longest_body * (count - 1) < length body) ⊎ (count ≡ 1)
        → 1 ≤ min longest_body (length body - longest_body * (count - 1))
    go (inl full) = le-min (omega arith) (omega arith)
    go (inr one) = le-min (omega arith) (omega arith)

pub carries : BlocksCarryText
carries = λ side device message.
    let is = is-count message in
    record {
      joined = joined-from side device message 0 (block_count message)
          ∙ ap (λ n. take (longest_body * n) message.body) (zero-add (block_count message)) ∙ take-count message;
      full = λ number some less. full-block number message.body (block_count message) is some less;
      last_at_most = rw (length-block (block_count message) message.body) (min-le_left longest_body _);
      last_at_least = λ some. last-block message.body (block_count message) is (some-text message.body some);
      last = λ number. (λ e. eqb-true _ _ e, λ e. eq-eqb _ _ e);
    }
