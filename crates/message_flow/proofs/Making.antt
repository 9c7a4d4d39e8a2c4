-- The messages that blocks make, and the blocks in which messages go.
use Rattle.std.proofs.Common.{◌≡◌, refl, sym, ◌∙◌, ap, subst, arith, ◌<◌, ◌≤◌, inl, inr, Bool, true, false, cond, ◌&&◌, ℕ, ◌+◌, ◌*◌, ◌-◌, nat_lt, All, List, [], ◌∷◌, ◌++◌, length, take, Some, None}
use Rattle.std.specs.List.{cons_option}
use Rattle.std.proofs.Math.Nat.{min-le_left}
use Rattle.std.proofs.lemmas.Bool.{and_parts, eqb-true}
use Rattle.std.proofs.lemmas.List.Elements.{All-append, All-cons, All-drop, All-head, All-nil, All-tail, All-take, All-weaker}
use Rattle.block_codec.specs.Block.{BlockView, IsBlock}
use Rattle.block_codec.specs.Protocol.{longest_body}
use Rattle.block_codec.specs.declared.header.Header.{Header}
use Rattle.gl_base.specs.declared.side.Side.{Side}
use Rattle.message_flow.specs.declared.flow.Flow.{Flow}
use Rattle.message_flow.specs.declared.flow.Flow.TheVariants.{Part, Whole, Duplicate, Foreign, Unexpected, TooLong, Crowded}
use Rattle.message_flow.specs.declared.message.Message.{Message}
use Rattle.message_flow.specs.Arrivals.{AreBlocksOf, IsBlockOf, first_blocks}
use Rattle.message_flow.specs.Assembly.{WholeFits, is_crowded, is_next, message_of, whole_with}
use Rattle.message_flow.specs.Blocks.{block_count, header_of, numbered_block}
use Rattle.message_flow.specs.Entries.{FlowEntry, blocks_in}
use Rattle.message_flow.specs.Entries.FlowEntry.{Dropped, Given}
use Rattle.message_flow.specs.History.{Met, is_cut, is_part, flow_after, last_given, met_of, newest_header, open_blocks, open_firsts, part_of, text_of}
use Rattle.message_flow.specs.History.Met.{Arrived, TimedOut}
use Rattle.message_flow.specs.Key.{is_given, same_key}
use Rattle.message_flow.specs.Laws.{AreNumbered, BlocksMakeMessages, IsNextNumber, MessagesGoInBlocks, WholeMessagesFit}
use Rattle.message_flow.specs.Receiver.{Receiver, address_of, is_foreign}
use Rattle.message_flow.proofs.Agreement.{open-cut, open-other, open-uncut}
use Rattle.message_flow.proofs.Arrivals.{flow-back, text-next}
use Rattle.message_flow.proofs.Fitting.{behind-fits, chosen-fits}
use Rattle.message_flow.proofs.Missed.{whole-numbered}
use Rattle.message_flow.proofs.Numbered.{few-blocks, length-block, take-count}
use Rattle.secs_items.specs.Checking.{Checking, check_of}

-- ---- the open blocks of a key have what all blocks that were given have, and the key

abbrev IsOpen : (BlockView → Type 0) → Header → BlockView → Type 0
IsOpen P header block = P block × (same_key block.header header ≡ true)

open-one :
    (P : BlockView → Type 0) (header : Header) (block : BlockView) (now : ℕ) (flow : Flow) (met : List Met) → P block
    → All (IsOpen P header) (open_blocks header met)
    → All (IsOpen P header) (open_blocks header (Arrived block now flow ∷ met))
open-one P header block now flow met is all = go (is_cut header (Arrived block now flow)) refl
  where
    joins : (t : Bool) → same_key block.header header && is_part flow ≡ t
        → All (IsOpen P header) (cons_option (cond t (Some block) None) (open_blocks header met))
    joins true part = All-cons (IsOpen P header) block (open_blocks header met)
        (is, (and_parts (same_key block.header header) (is_part flow) part).0) all
    joins false none = all

    go : (t : Bool) → is_cut header (Arrived block now flow) ≡ t
        → All (IsOpen P header) (open_blocks header (Arrived block now flow ∷ met))
    go true cut =
        let e : open_blocks header (Arrived block now flow ∷ met) ≡ [] =
        open-cut (part_of header) header (Arrived block now flow) met cut in
        rw e (All-nil (IsOpen P header))
    go false uncut =
        let e : open_blocks header (Arrived block now flow ∷ met)
        ≡ cons_option (part_of header (Arrived block now flow)) (open_blocks header met) =
        open-uncut (part_of header) header (Arrived block now flow) met uncut in
        rw e (joins (same_key block.header header && is_part flow) refl)

open-dropped :
    (P : BlockView → Type 0) (header dropped : Header) (now : ℕ) (met : List Met)
    → All (IsOpen P header) (open_blocks header met)
    → All (IsOpen P header) (open_blocks header (TimedOut dropped now ∷ met))
open-dropped P header dropped now met all = go (same_key dropped header) refl
  where
    go : (t : Bool) → same_key dropped header ≡ t
        → All (IsOpen P header) (open_blocks header (TimedOut dropped now ∷ met))
    go true cut =
        let e : open_blocks header (TimedOut dropped now ∷ met) ≡ [] =
        open-cut (part_of header) header (TimedOut dropped now) met cut in
        rw e (All-nil (IsOpen P header))
    go false uncut =
        let e : open_blocks header (TimedOut dropped now ∷ met) ≡ open_blocks header met =
        open-other (part_of header) header (TimedOut dropped now) met uncut refl in
        rw e all

open-each :
    (P : BlockView → Type 0) (receiver : Receiver) (header : Header) (entries : List FlowEntry)
    → All P (blocks_in entries)
    → All (IsOpen P header) (open_blocks header (met_of receiver entries))
open-each P receiver header [] all = All-nil (IsOpen P header)
open-each P receiver header (Given block now ∷ entries) all =
    open-one P header block now _ (met_of receiver entries) (All-head P block (blocks_in entries) all)
    (open-each P receiver header entries (All-tail P block (blocks_in entries) all))
open-each P receiver header (Dropped dropped now ∷ entries) all =
    open-dropped P header dropped now (met_of receiver entries) (open-each P receiver header entries all)

-- ---- where they are of one message they are its first ones

are-first :
    (side : Side) (device : ℕ) (message : Message) (blocks : List BlockView) → AreNumbered blocks
    → All (IsBlockOf side device message) blocks → blocks ≡ first_blocks side device message (length blocks)
are-first side device message [] are of = refl
are-first side device message (block ∷ before) are of =
    let one = All-head (IsBlockOf side device message) block before of in
    let e : one.number ≡ length before + 1 = sym (ap (λ (b : BlockView). b.header.number) one.is) ∙ are.0 in
    let same : block ≡ numbered_block side device message (length before + 1) =
    one.is ∙ ap (numbered_block side device message) e in
    ap (λ (b : BlockView). b ∷ before) same
    ∙ ap (λ (blocks : List BlockView). numbered_block side device message (length before + 1) ∷ blocks)
    (are-first side device message before are.1 (All-tail (IsBlockOf side device message) block before of))

open-first :
    (receiver : Receiver) (entries : List FlowEntry) (side : Side) (device : ℕ) (message : Message) (header : Header)
    → AreBlocksOf side device message header entries
    → open_blocks header (met_of receiver entries)
    ≡ first_blocks side device message (length (open_blocks header (met_of receiver entries)))
open-first receiver entries side device message header of =
    let P = λ (block : BlockView). same_key block.header header ≡ true → IsBlockOf side device message block in
    are-first side device message (open_blocks header (met_of receiver entries))
    (whole-numbered.parts receiver entries header)
    (All-weaker (IsOpen P header) (IsBlockOf side device message) (λ block is. is.0 is.1) _
    (open-each P receiver header entries of))

-- ---- what is known where a message is whole

record IsWholeBy (given last : Bool) (message whole : Message) (check : Checking) : Type 0 where
  pub given_is : given ≡ false
  pub last_is : last ≡ true
  pub same : message ≡ whole
  pub check_is : check_of message.body ≡ check

whole-by :
    (address : ℕ) (message whole : Message) (check : Checking) (given foreign follows long last crowded : Bool)
    → cond given Duplicate (cond foreign (Foreign address)
    (cond follows (cond long TooLong (cond last (whole_with message) (cond crowded Crowded Part))) Unexpected))
    ≡ Whole whole check
    → IsWholeBy given last message whole check
whole-by address message whole check true foreign follows long last crowded e = absurd (cc)
whole-by address message whole check false true follows long last crowded e = absurd (cc)
whole-by address message whole check false false false long last crowded e = absurd (cc)
whole-by address message whole check false false true true last crowded e = absurd (cc)
whole-by address message whole check false false true false true crowded e =
    record { given_is = refl; last_is = refl; same = cc; check_is = cc }
whole-by address message whole check false false true false false true e = absurd (cc)
whole-by address message whole check false false true false false false e = absurd (cc)

whole-of :
    (receiver : Receiver) (met : List Met) (block : BlockView) (whole : Message) (check : Checking)
    → flow_after receiver met block ≡ Whole whole check
    → IsWholeBy (is_given (last_given met) block.header) block.header.last
    (message_of block.header (text_of (open_blocks block.header met) ++ block.body)) whole check
whole-of receiver met block whole check e =
    whole-by (address_of block.header)
    (message_of block.header (text_of (open_blocks block.header met) ++ block.body)) whole check
    (is_given (last_given met) block.header) (is_foreign receiver block.header)
    (is_next (newest_header (open_blocks block.header met)) block.header)
    (nat_lt receiver.max_body (length (text_of (open_blocks block.header met)) + length block.body)) block.header.last
    (is_crowded (newest_header (open_blocks block.header met)) (length (open_firsts met))) e

follows :
    (number : ℕ) (blocks : List BlockView) (block : BlockView) → block.header.number ≡ number → 1 ≤ number
    → IsNextNumber blocks block → number ≡ length blocks + 1
follows number blocks block e some (inl next) = sym e ∙ next
follows number blocks block e some (inr only) = absurd (let none = only.0 in omega arith)

-- ---- the whole message is the one that was sent

record IsMade (message : Message) (number : ℕ) (given : Bool) (whole : Message) (check : Checking) : Type 0 where
  pub whole_is : whole ≡ message
  pub check_is : check ≡ check_of message.body
  pub last : number ≡ block_count message
  pub new : given ≡ false

made :
    (receiver : Receiver) (entries : List FlowEntry) (side : Side) (device : ℕ) (message : Message) (number : ℕ)
    (whole : Message) (check : Checking)
    → 1 ≤ number → AreBlocksOf side device message (header_of side device message number) entries
    → flow_after receiver (met_of receiver entries) (numbered_block side device message number) ≡ Whole whole check
    → IsMade message number
    (is_given (last_given (met_of receiver entries)) (header_of side device message number)) whole check
made receiver entries side device message number whole check some of e =
    let met = met_of receiver entries in
    let block = numbered_block side device message number in
    let blocks = open_blocks block.header met in
    let by = whole-of receiver met block whole check e in
    let first : blocks ≡ first_blocks side device message (length blocks) =
    open-first receiver entries side device message block.header of in
    let next : number ≡ length blocks + 1 =
    follows number blocks block refl some
    (whole-numbered.whole receiver entries block whole check (flow-back receiver entries block ∙ e)) in
    let last : number ≡ block_count message = eqb-true number (block_count message) by.last_is in
    let text : text_of blocks ++ block.body ≡ message.body =
    ap (λ (bs : List BlockView). text_of bs ++ block.body) first
    ∙ ap (λ n. text_of (first_blocks side device message (length blocks)) ++
    (numbered_block side device message n).body) next
    ∙ text-next side device message (length blocks)
    ∙ ap (λ n. take (longest_body * n) message.body) (sym next ∙ last) ∙ take-count message in
    record {
      whole_is = sym by.same ∙ ap (message_of block.header) text;
      check_is = sym by.check_is ∙ ap check_of text;
      last = last;
      new = by.given_is;
    }

made-of :
    (receiver : Receiver) (entries : List FlowEntry) (side : Side) (device : ℕ) (message : Message) (block : BlockView)
    (whole : Message) (check : Checking)
    (number : ℕ) → 1 ≤ number → block ≡ numbered_block side device message number
    → AreBlocksOf side device message block.header entries
    → flow_after receiver (met_of receiver entries) block ≡ Whole whole check
    → IsMade message number (is_given (last_given (met_of receiver entries)) block.header) whole check
made-of receiver entries side device message block whole check number some is of e =
    rw is
    (made receiver entries side device message number whole check some
    (subst (λ (b : BlockView). AreBlocksOf side device message b.header entries) is of)
    (ap (flow_after receiver (met_of receiver entries)) (sym is) ∙ e))

pub make-messages : BlocksMakeMessages
make-messages = λ receiver entries side device message. record {
  open_are = λ header of. open-first receiver entries side device message header of;
  whole_is = λ block whole check one of e.
      let is = made-of receiver entries side device message block whole check one.number one.first one.is of e in
      (is.whole_is, one.is ∙ ap (numbered_block side device message) is.last, is.new, is.check_is);
}

-- ---- parts in their ranges

text-bytes : (blocks : List BlockView) → All IsBlock blocks → All (λ byte. byte < 256) (text_of blocks)
text-bytes [] are = All-nil (λ byte. byte < 256)
text-bytes (block ∷ before) are =
    All-append (λ byte. byte < 256) (text_of before) block.body (text-bytes before (All-tail IsBlock block before are))
    (All-head IsBlock block before are).bytes

pub whole-fit : WholeMessagesFit
whole-fit = λ receiver entries block whole check is are one e.
    let met = met_of receiver entries in
    let by = whole-of receiver met block whole check e in
    let fits = subst (WholeFits receiver.max_body) e
    (chosen-fits receiver.max_body (address_of block.header) (is_given (last_given met) block.header)
    (is_foreign receiver block.header) _ (behind-fits receiver _ _ _ block is one.header.fits)) in
    let blocks = All-weaker (IsOpen IsBlock block.header) IsBlock (λ b is_open. is_open.0) _
    (open-each IsBlock receiver block.header entries are) in
    let bytes = All-append (λ byte. byte < 256) _ block.body
    (text-bytes (open_blocks block.header met) blocks) one.bytes in (
      record {
        fits = fits.0;
        function = subst (λ (m : Message). m.function < 256) by.same one.header.function;
        system = subst (λ (m : Message). m.system < 4294967296) by.same one.header.system;
        bytes = subst (λ (m : Message). All (λ byte. byte < 256) m.body) by.same bytes;
      },
      fits.1,
    )

pub go-in-blocks : MessagesGoInBlocks
go-in-blocks = λ side device message number below is some most.
    let few = few-blocks message is.fits.body in
    record {
      header = record {
        fits = record { device = below; stream = is.fits.stream; number = omega arith };
        function = is.function;
        system = is.system;
      };
      at_most_244 = rw (length-block number message.body) (min-le_left longest_body _);
      bytes = All-take (λ byte. byte < 256) longest_body _
          (All-drop (λ byte. byte < 256) (longest_body * (number - 1)) _ is.bytes);
    }
