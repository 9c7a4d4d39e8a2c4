-- The blocks of one message that come in order.
use Rattle.std.proofs.Common.{◌≡◌, refl, sym, ◌∙◌, ap, subst, arith, ◌<◌, ◌≤◌, ◌⊎◌, inl, inr, Bool, true, false, cond, ◌==◌, ℕ, zero, suc, ◌+◌, ◌-◌, ◌*◌, List, ◌∷◌, ◌++◌, drop, length, min, reverse, take, Option, None}
use Rattle.std.proofs.Math.Nat.{min-le_right}
use Rattle.std.proofs.lemmas.Bool.{and_from, and_left, and_right, eq-eqb, eqb-true, le-ltb, lt-leb, ne_eqb}
use Rattle.std.proofs.lemmas.List.{length-append, length-take, reverse-reverse}
use Rattle.block_codec.specs.Block.{BlockView}
use Rattle.block_codec.specs.Protocol.{longest_body}
use Rattle.block_codec.specs.declared.header.Header.{Header}
use Rattle.gl_base.specs.declared.side.Side.{Side}
use Rattle.message_flow.specs.declared.flow.Flow.{Flow}
use Rattle.message_flow.specs.declared.flow.Flow.TheVariants.{Part, Duplicate, Crowded}
use Rattle.message_flow.specs.declared.message.Message.{Message}
use Rattle.message_flow.specs.Arrivals.{CanBegin, HaveCome, IsOfOther, first_blocks, part_or_whole}
use Rattle.message_flow.specs.Arrivals.HaveCome.{again, start, between, next}
use Rattle.message_flow.specs.Assembly.{is_crowded, is_next, flow_behind, message_of, whole_with}
use Rattle.message_flow.specs.Blocks.{block_count, header_of, numbered_block}
use Rattle.message_flow.specs.Entries.{FlowEntry}
use Rattle.message_flow.specs.Entries.FlowEntry.{Dropped, Given}
use Rattle.message_flow.specs.History.{Met, is_cut, flow_after, last_given, met_of, newest_header, open_blocks, open_firsts, part_of, text_of}
use Rattle.message_flow.specs.History.Met.{Arrived, TimedOut}
use Rattle.message_flow.specs.Key.{is_given, same_header}
use Rattle.message_flow.specs.Laws.{MessagesComeWhole}
use Rattle.message_flow.specs.Receiver.{Receiver, is_foreign}
use Rattle.message_flow.proofs.Agreement.{open-other, open-part, part-none, part-some}
use Rattle.message_flow.proofs.Keys.{beq-self, key-self}
use Rattle.message_flow.proofs.Numbered.{take-block, take-count}

one-more-block :
    (side : Side) (device : ℕ) (message : Message) (number : ℕ)
    → first_blocks side device message (number + 1)
    ≡ numbered_block side device message (number + 1) ∷ first_blocks side device message number
one-more-block side device message number =
    let e : number + 1 ≡ suc number = omega arith in
    ap (first_blocks side device message) e

text-first : (side : Side) (device : ℕ) (message : Message) (number : ℕ)
    → text_of (first_blocks side device message number) ≡ take (longest_body * number) message.body
text-first side device message zero = refl
text-first side device message (suc number) =
    let e : number + 1 ≡ suc number = omega arith in
    ap (λ (bytes : List ℕ). bytes ++ take longest_body (drop (longest_body * (number + 1 - 1)) message.body))
    (text-first side device message number)
    ∙ take-block number message.body ∙ ap (λ n. take (longest_body * n) message.body) e

header-self : (a : Header) → same_header a a ≡ true
header-self a = and_from _ _ (and_from _ _ (key-self a) (beq-self a.last)) (eq-eqb a.number a.number refl)

other-number : (a b : Header) → a.number + 1 ≡ b.number → same_header a b ≡ false
other-number a b e = and_right _ _ (ne_eqb a.number b.number (λ same. omega arith))

-- ready for the block behind this number
record IsReady (side : Side) (device : ℕ) (message : Message) (met : List Met) (number : ℕ) : Type 0 where
  pub open_are : open_blocks (header_of side device message 1) met ≡ first_blocks side device message number
  pub fresh : is_given (last_given met) (header_of side device message (number + 1)) ≡ false
  pub room : (1 ≤ number) ⊎ ((length (open_firsts met) < 16) ⊎ (block_count message ≡ 1))

record IsUnderWay (receiver : Receiver) (side : Side) (device : ℕ) (message : Message) (met : List Met) (number : ℕ)
    (just : Bool) : Type 0 where
  pub some : 1 ≤ number
  pub fits : length message.body ≤ receiver.max_body
  pub own : is_foreign receiver (header_of side device message 1) ≡ false
  pub ready : number < block_count message → IsReady side device message met number
  pub given : just ≡ true → is_given (last_given met) (header_of side device message number) ≡ true

-- ---- what the next block is

judged-is :
    (receiver : Receiver) (before : Option Header) (body : List ℕ) (open_count : ℕ) (block : BlockView)
    → is_next before block.header ≡ true → length body + length block.body ≤ receiver.max_body
    → (block.header.last ≡ true) ⊎ (is_crowded before open_count ≡ false)
    → flow_behind receiver before body open_count block
    ≡ cond block.header.last (whole_with (message_of block.header (body ++ block.body))) Part
judged-is receiver before body open_count block follows short room =
    rw (follows, le-ltb receiver.max_body (length body + length block.body) short) (go block.header.last room)
  where
    go : (last : Bool) → (last ≡ true) ⊎ (is_crowded before open_count ≡ false)
        → cond last (whole_with (message_of block.header (body ++ block.body)))
        (cond (is_crowded before open_count) Crowded Part)
        ≡ cond last (whole_with (message_of block.header (body ++ block.body))) Part
    go true some = refl
    go false (inl is) = absurd (cc)
    go false (inr is) = rw is refl

is-next-first :
    (side : Side) (device : ℕ) (message : Message) (number : ℕ)
    → is_next (newest_header (first_blocks side device message number)) (header_of side device message (number + 1))
    ≡ true
is-next-first side device message zero = refl
is-next-first side device message (suc number) =
    let e : suc number + 1 ≡ number + 1 + 1 = omega arith in eq-eqb (suc number + 1) (number + 1 + 1) e

not-crowded :
    (side : Side) (device : ℕ) (message : Message) (number open_count : ℕ)
    → (1 ≤ number) ⊎ ((open_count < 16) ⊎ (block_count message ≡ 1))
    → (number + 1 == block_count message ≡ true)
    ⊎ (is_crowded (newest_header (first_blocks side device message number)) open_count ≡ false)
not-crowded side device message zero open_count (inl some) = absurd (omega arith)
not-crowded side device message zero open_count (inr (inl few)) = inr (lt-leb 16 open_count few)
not-crowded side device message zero open_count (inr (inr one)) = inl (eq-eqb 1 (block_count message) (sym one))
not-crowded side device message (suc number) open_count room = inr refl

pub text-next :
    (side : Side) (device : ℕ) (message : Message) (number : ℕ)
    → text_of (first_blocks side device message number) ++ (numbered_block side device message (number + 1)).body
    ≡ take (longest_body * (number + 1)) message.body
text-next side device message number =
    ap (λ (bytes : List ℕ). bytes ++ take longest_body (drop (longest_body * (number + 1 - 1)) message.body))
    (text-first side device message number)
    ∙ take-block number message.body

short-next :
    (side : Side) (device : ℕ) (message : Message) (number most : ℕ) → length message.body ≤ most
    → length (text_of (first_blocks side device message number)) + length
    (numbered_block side device message (number + 1)).body ≤ most
short-next side device message number most fits =
    let text = first_blocks side device message number in
    let block = numbered_block side device message (number + 1) in
    let e : length (text_of text) + length block.body ≡ min (longest_body * (number + 1)) (length message.body) =
    sym (length-append (text_of text) block.body) ∙ ap length (text-next side device message number)
    ∙ length-take (longest_body * (number + 1)) message.body in
    let less = min-le_right (longest_body * (number + 1)) (length message.body) in
    rw e (omega arith)

pub whole-next :
    (side : Side) (device : ℕ) (message : Message) (number : ℕ) (t : Bool) → number + 1 == block_count message ≡ t
    → cond t (whole_with (message_of (header_of side device message (number + 1))
    (text_of (first_blocks side device message number) ++ (numbered_block side device message (number + 1)).body))) Part
    ≡ cond t (whole_with message) Part
whole-next side device message number false e = refl
whole-next side device message number true e =
    let all : text_of (first_blocks side device message number) ++
    (numbered_block side device message (number + 1)).body ≡ message.body =
    text-next side device message number ∙ ap (λ n. take (longest_body * n) message.body) (eqb-true _ _ e)
    ∙ take-count message in
    ap (λ (bytes : List ℕ). whole_with (message_of (header_of side device message (number + 1)) bytes)) all

flow-next :
    (receiver : Receiver) (side : Side) (device : ℕ) (message : Message) (met : List Met) (number : ℕ)
    → length message.body ≤ receiver.max_body → is_foreign receiver (header_of side device message 1) ≡ false
    → IsReady side device message met number
    → flow_after receiver met (numbered_block side device message (number + 1)) ≡ part_or_whole message (number + 1)
flow-next receiver side device message met number fits own ready =
    rw (ready.fresh, own, ready.open_are)
    (judged-is receiver (newest_header (first_blocks side device message number))
    (text_of (first_blocks side device message number))
    (length (open_firsts met)) (numbered_block side device message (number + 1))
    (is-next-first side device message number)
    (short-next side device message number receiver.max_body fits)
    (not-crowded side device message number (length (open_firsts met)) ready.room)
    ∙ whole-next side device message number _ refl)

flow-again :
    (receiver : Receiver) (met : List Met) (block : BlockView) → is_given (last_given met) block.header ≡ true
    → flow_after receiver met block ≡ Duplicate
flow-again receiver met block given = rw given refl

-- ---- one entry more

after-next :
    (receiver : Receiver) (side : Side) (device : ℕ) (message : Message) (met : List Met) (number now : ℕ)
    → length message.body ≤ receiver.max_body → is_foreign receiver (header_of side device message 1) ≡ false
    → IsReady side device message met number
    → IsUnderWay receiver side device message
    (Arrived (numbered_block side device message (number + 1)) now
    (flow_after receiver met (numbered_block side device message (number + 1))) ∷ met)
    (number + 1) true
after-next receiver side device message met number now fits own ready =
    let block = numbered_block side device message (number + 1) in
    let key = header_of side device message 1 in
    record {
      some = omega arith;
      fits = fits;
      own = own;
      ready = λ less.
          let part : flow_after receiver met block ≡ Part =
          flow-next receiver side device message met number fits own ready
          ∙ ap (λ t. cond t (whole_with message) Part)
          (ne_eqb (number + 1) (block_count message) (λ same. omega arith)) in
          record {
            open_are = ap (λ flow. open_blocks key (Arrived block now flow ∷ met)) part
                ∙ open-part (part_of key) block key block now met (part-some block _ (and_from _ _ (key-self key) refl))
                ∙ ap (λ (blocks : List BlockView). block ∷ blocks) ready.open_are
                ∙ sym (one-more-block side device message number);
            fresh = other-number block.header (header_of side device message (number + 1 + 1)) refl;
            room = inl (omega arith);
          };
      given = λ just. header-self block.header;
    }

-- an entry that is no cut of the key, and no part of it, with another block given last
ready-still :
    (side : Side) (device : ℕ) (message : Message) (met : List Met) (entry : Met) (number : ℕ) → 1 ≤ number
    → is_cut (header_of side device message 1) entry ≡ false → part_of (header_of side device message 1) entry ≡ None
    → is_given (last_given (entry ∷ met)) (header_of side device message (number + 1)) ≡ false
    → IsReady side device message met number → IsReady side device message (entry ∷ met) number
ready-still side device message met entry number some uncut none fresh ready =
    let key = header_of side device message 1 in
    record {
      open_are = open-other (part_of key) key entry met uncut none ∙ ready.open_are;
      fresh = fresh;
      room =
          inl some;
    }

after-again :
    (receiver : Receiver) (side : Side) (device : ℕ) (message : Message) (met : List Met) (number now : ℕ)
    → IsUnderWay receiver side device message met number true
    → IsUnderWay receiver side device message
    (Arrived (numbered_block side device message number) now
    (flow_after receiver met (numbered_block side device message number)) ∷ met)
    number true
after-again receiver side device message met number now is =
    let block = numbered_block side device message number in
    subst (λ (flow : Flow). IsUnderWay receiver side device message (Arrived block now flow ∷ met) number true)
    (sym (flow-again receiver met block (is.given refl)))
    (record {
      some = is.some;
      fits = is.fits;
      own = is.own;
      ready = λ less.
          ready-still side device message met (Arrived block now Duplicate) number is.some (and_right _ _ refl)
          (part-none block _ (and_right _ _ refl))
          (other-number block.header (header_of side device message (number + 1)) refl) (is.ready less);
      given = λ just. header-self block.header;
    })

after-other :
    (receiver : Receiver) (side : Side) (device : ℕ) (message : Message) (entries : List FlowEntry) (number : ℕ)
    (just : Bool) (entry : FlowEntry)
    → IsOfOther (header_of side device message 1) entry
    → IsUnderWay receiver side device message (met_of receiver entries) number just
    → IsUnderWay receiver side device message (met_of receiver (entry ∷ entries)) number false
after-other receiver side device message entries number just (Given block now) other is =
    let met = met_of receiver entries in
    record {
      some = is.some;
      fits = is.fits;
      own = is.own;
      ready = λ less.
          ready-still side device message met (Arrived block now (flow_after receiver met block)) number is.some
          (and_left _ _ other)
          (part-none block _ (and_left _ _ other))
          (and_left _ _ (and_left _ _ other)) (is.ready less);
      given = λ just. absurd (cc);
    }
after-other receiver side device message entries number just (Dropped header now) other is =
    let met = met_of receiver entries in
    record {
      some = is.some;
      fits = is.fits;
      own = is.own;
      ready = λ less.
          ready-still side device message met (TimedOut header now) number is.some other refl (is.ready less).fresh
          (is.ready less);
      given = λ just. absurd (cc);
    }

-- ---- all of them

ready-first :
    (receiver : Receiver) (side : Side) (device : ℕ) (message : Message) (before : List FlowEntry)
    → CanBegin receiver side device message before → IsReady side device message (met_of receiver before) 0
ready-first receiver side device message before can =
    record { open_are = can.none_open; fresh = can.not_given; room = inr can.room }

under-way :
    (receiver : Receiver) (side : Side) (device : ℕ) (message : Message) (entries : List FlowEntry) (number : ℕ)
    (just : Bool)
    → HaveCome receiver side device message entries number just
    → IsUnderWay receiver side device message (met_of receiver entries) number just
under-way receiver side device message _ _ _ (start before now can) =
    after-next receiver side device message (met_of receiver before) 0 now can.fits can.own
    (ready-first receiver side device message before can)
under-way receiver side device message _ _ _ (next before number just now come less) =
    let is = under-way receiver side device message before number just come in
    after-next receiver side device message (met_of receiver before) number now is.fits is.own (is.ready less)
under-way receiver side device message _ _ _ (again before number now come) =
    after-again receiver side device message (met_of receiver before) number now
    (under-way receiver side device message before number true come)
under-way receiver side device message _ _ _ (between before number just entry come other) =
    after-other receiver side device message before number just entry other
    (under-way receiver side device message before number just come)

-- what is looked back for in entries, the newest first
pub flow-back :
    (receiver : Receiver) (entries : List FlowEntry) (block : BlockView)
    → flow_after receiver (met_of receiver (reverse (reverse entries))) block
    ≡ flow_after receiver (met_of receiver entries) block
flow-back receiver entries block =
    ap (λ (es : List FlowEntry). flow_after receiver (met_of receiver es) block) (reverse-reverse entries)

pub comes-whole : MessagesComeWhole
comes-whole = λ receiver side device message. record {
  first = λ before can.
      flow-back receiver before (numbered_block side device message 1)
      ∙ flow-next receiver side device message (met_of receiver before) 0 can.fits can.own
      (ready-first receiver side device message before can);
  next = λ before number just come less.
      let is = under-way receiver side device message before number just come in
      flow-back receiver before (numbered_block side device message (number + 1))
      ∙ flow-next receiver side device message (met_of receiver before) number is.fits is.own (is.ready less);
  again = λ before number come.
      let is = under-way receiver side device message before number true come in
      flow-back receiver before (numbered_block side device message number)
      ∙ flow-again receiver (met_of receiver before) (numbered_block side device message number) (is.given refl);
}
