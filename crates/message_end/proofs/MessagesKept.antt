-- What the messages that wait, and the block that is held, keep as an end goes on: each lemma over the fields that it
-- speaks of.
use Rattle.std.proofs.Common.{◌≡◌, ◌⊎◌, inl, inr, refl, sym, ap, ◌∙◌, subst, arith, Bool, true, false, cond, ◌==◌, ◌&&◌, ℕ, ◌+◌, ◌%◌, ◌<◌, ◌≤◌, List, [], ◌∷◌, ◌++◌, length, map, Some, None, Option}
use Rattle.std.specs.Bool.{beq}
use Rattle.std.proofs.lemmas.Option.{same_Some}
use Rattle.std.proofs.lemmas.List.{map-append}
use Rattle.std.proofs.lemmas.Bool.{eq-eqb, ne_eqb}
use Rattle.std.proofs.lemmas.Bool.Decides.{nat_tests}
use Rattle.block_codec.specs.Block.{BlockView}
use Rattle.block_codec.specs.declared.header.Header.{Header}
use Rattle.message_flow.specs.declared.message.Message.{Message}
use Rattle.message_flow.specs.declared.waiting.Waiting.{Waiting}
use Rattle.gl_base.specs.declared.side.Side.{Side}
use Rattle.line_end.specs.Laws.{IsHeld}
use Rattle.line_end.specs.Step.{LineCall}
use Rattle.message_flow.specs.Blocks.{block_count, header_of}
use Rattle.message_flow.specs.Message.{IsMessage, is_primary}
use Rattle.message_flow.specs.Outgoing.{OutgoingView, after_block, with_message, without_first}
use Rattle.message_flow.specs.Waiting.{is_named}
use Rattle.message_flow.proofs.Firsts.{without-first}
use Rattle.transact.specs.Matching.{matches}
use Rattle.message_end.specs.Core.{is_held_answered, is_waiting_answered, waiting_primary, without_answered}
use Rattle.message_end.specs.Doings.{IsNoSend}
use Rattle.message_end.specs.History.{AreApart, AreNew, AreWaiting, HeldIs, IsItem, IsOpen, Item, waiting_of}
use Rattle.message_end.specs.Own.{Giving, Has, Heard, IsReplyTo, given_of, sent_at}
use Rattle.message_end.proofs.Lists.{apart-cut, apart-less, apart-snoc, cut, has-cut, has-less, has-snoc, map-cut, map-less, none-left, one-place, place-below, sent-more, sent-newest}
use Rattle.message_end.proofs.Members.{has-map, has-mapped, found-in, found-none}

some-block : (message : Message) → 0 < block_count message
some-block message = omega arith

-- ---- messages wait

-- some wait no longer
pub waiting-cut :
    {side : Side} (sents : List Message) (gave : List Giving) (heard : List Heard) (waiting : List Waiting)
    (a b : ℕ) → a ≤ b
    → AreWaiting side sents gave heard waiting → AreWaiting side sents gave heard (cut a b waiting)
waiting-cut sents gave heard waiting a b least is = record {
  items = cut a b is.items;
  are = ap (cut a b) is.are ∙ map-cut waiting_of a b is.items least;
  apart = apart-cut a b is.items least is.apart;
  each = λ item has. is.each item (has-cut a b is.items item least has);
  places = is.places;
  afters = is.afters;
}

pub waiting-less :
    {side : Side} (sents : List Message) (gave : List Giving) (heard : List Heard) (waiting : List Waiting)
    (test : Waiting → Bool)
    → AreWaiting side sents gave heard waiting → AreWaiting side sents gave heard (without_first test waiting)
waiting-less sents gave heard waiting test is = record {
  items = without-first (λ item. test (waiting_of item)) is.items;
  are = ap (without_first test) is.are ∙ map-less waiting_of test is.items;
  apart = apart-less (λ item. test (waiting_of item)) is.items is.apart;
  each = λ item has. is.each item (has-less (λ item. test (waiting_of item)) is.items item has);
  places = is.places;
  afters = is.afters;
}

item-sent :
    {side : Side} (sents : List Message) (gave : List Giving) (heard : List Heard) (newer : Message) (item : Item)
    → IsItem side sents gave heard item → IsItem side (newer ∷ sents) gave heard item
item-sent sents gave heard newer item is = record {
  sent = sent-more item.place sents item.waiting.message newer is.sent;
  left = is.left;
  gone = is.gone;
  most = is.most;
  open_is = is.open_is;
  fits = is.fits;
}

-- of a message that isn't sent yet none was given
given-none :
    (place : ℕ) (gave : List Giving) → ((giving : Giving) → Has gave giving → giving.place < place)
    → 0 ≡ given_of place gave
given-none place [] below = refl
given-none place (giving ∷ before) below =
    let less = below giving (inl refl) in
    let other : (place == giving.place) ≡ false = ne_eqb place giving.place (λ e. omega arith) in
    rw other (given-none place before (λ one has. below one (inr has)))

-- one more is sent
pub waiting-sent :
    {side : Side} (sents : List Message) (gave : List Giving) (heard : List Heard) (waiting : List Waiting)
    (message : Message)
    → IsMessage message → AreWaiting side sents gave heard waiting
    → AreWaiting side (message ∷ sents) gave heard (with_message waiting message)
waiting-sent {side} sents gave heard waiting message fits is =
    let new : Item = record { place = length sents; waiting = record { message = message; gone = 0 } } in
    record {
      items = is.items ++ new ∷ [];
      are = ap (λ all. with_message all message) is.are ∙ sym (map-append waiting_of is.items (new ∷ []));
      apart = apart-snoc is.items new is.apart
          (λ item has same. let below = place-below item.place sents item.waiting.message
          (is.each item has).sent in omega arith);
      each = λ item has. go item (has-snoc is.items new item has);
      places = λ giving has. let below = is.places giving has in omega arith;
      afters = λ one has. let below = is.afters one has in omega arith;
    }
  where
    newest : IsItem side (message ∷ sents) gave heard
        (record { place = length sents; waiting = record { message = message; gone = 0 } })
    newest = record {
      sent = sent-newest sents message;
      left = some-block message;
      gone = given-none (length sents) gave is.places;
      most = λ number has. let below = is.places _ has in absurd (omega arith);
      open_is = λ primary one has reply. is.afters one has;
      fits = fits;
    }

    go : (item : Item)
        → Has is.items item ⊎ (item ≡ record { place = length sents; waiting = record { message = message; gone = 0 } })
        → IsItem side (message ∷ sents) gave heard item
    go item (inl has) = item-sent sents gave heard message item (is.each item has)
    go item (inr same) = subst (λ (i : Item). IsItem side (message ∷ sents) gave heard i) (sym same) newest

-- a block of another message has come
open-heard :
    (side : Side) (heard : List Heard) (one : Heard) (place : ℕ) (message : Message) → IsOpen side heard place message
    → (is_primary message ≡ true → IsReplyTo side message one.header → ⊥)
    → IsOpen side (one ∷ heard) place message
open-heard side heard one place message open_is none = λ primary other has reply. go primary other has reply
  where
    go : is_primary message ≡ true → (other : Heard) → Has (one ∷ heard) other → IsReplyTo side message other.header
        → other.after ≤ place
    go primary other (inl same) reply =
        absurd (none primary (subst (λ (h : Heard). IsReplyTo side message h.header) same reply))
    go primary other (inr has) reply = open_is primary other has reply

item-heard :
    {side : Side} (sents : List Message) (gave : List Giving) (heard : List Heard) (one : Heard) (item : Item)
    → IsItem side sents gave heard item
    → (is_primary item.waiting.message ≡ true → IsReplyTo side item.waiting.message one.header → ⊥)
    → IsItem side sents gave (one ∷ heard) item
item-heard {side} sents gave heard one item is none = record {
  sent = is.sent;
  left = is.left;
  gone = is.gone;
  most = is.most;
  open_is = open-heard side heard one item.place item.waiting.message is.open_is none;
  fits = is.fits;
}

afters-heard :
    (sents : List Message) (heard : List Heard) (header : Header)
    → ((one : Heard) → Has heard one → one.after ≤ length sents)
    → (one : Heard) → Has (record { header = header; after = length sents } ∷ heard) one → one.after ≤ length sents
afters-heard sents heard header are one (inl same) = let e = ap (λ (h : Heard). h.after) same in omega arith
afters-heard sents heard header are one (inr has) = are one has

-- a waiting message of this name
named :
    (waiting : Waiting) (system : ℕ) → is_named true system waiting ≡ true
    → (is_primary waiting.message ≡ true) × (waiting.message.system ≡ system)
named waiting system is = go (is_primary waiting.message) (waiting.message.system == system) refl refl is
  where
    go : (p q : Bool) → is_primary waiting.message ≡ p → (waiting.message.system == system) ≡ q
        → (beq p true && q) ≡ true
        → (is_primary waiting.message ≡ true) × (waiting.message.system ≡ system)
    go true true primary same passes = (primary, grind (arith, nat_tests, same))
    go true false primary same passes = absurd (cc)
    go false q primary same passes = absurd (cc)

is-named :
    (waiting : Waiting) (system : ℕ) → is_primary waiting.message ≡ true → waiting.message.system ≡ system
    → is_named true system waiting ≡ true
is-named waiting system primary same =
    ap (λ p. beq p true && (waiting.message.system == system)) primary ∙ eq-eqb waiting.message.system system same

first-holds : (a b c d e : Bool) → (a && b && c && d && e) ≡ true → a ≡ true
first-holds true b c d e all = refl
first-holds false b c d e all = absurd (cc)

-- a block of a reply has the primary's system bytes
pub reply-system :
    (side : Side) (message : Message) (header : Header) → IsReplyTo side message header → message.system ≡ header.system
reply-system side message header reply =
    let same = first-holds (header.system == message.system) _ _ _ _ reply in grind (arith, nat_tests, same)

-- the primary that a block of a reply answers, where it waits, is the one that is found
answered-found :
    {side : Side} (sents : List Message) (gave : List Giving) (heard : List Heard) (out : OutgoingView)
    (header : Header)
    → out.side ≡ side → AreNew sents → (is : AreWaiting side sents gave heard out.waiting)
    → (item : Item) → Has is.items item → is_primary item.waiting.message ≡ true
    → IsReplyTo side item.waiting.message header
    → is_waiting_answered header out (waiting_primary header.system out) ≡ true
answered-found {side} sents gave heard out header on new is item has primary reply =
    go (waiting_primary header.system out) refl
  where
    name : is_named true header.system item.waiting ≡ true
    name = is-named item.waiting header.system primary (reply-system side item.waiting.message header reply)

    here : Has out.waiting item.waiting
    here = subst (λ (ws : List Waiting). Has ws item.waiting) (sym is.are) (has-map waiting_of is.items item has)

    same_message : (w : Waiting) → (i : Item) × Has is.items i × (w ≡ waiting_of i)
        → is_named true header.system w ≡ true
        → w.message ≡ item.waiting.message
    same_message w from passes =
        let i = from.0 in
        let of_i = named i.waiting header.system (ap (is_named true header.system) (sym from.2) ∙ passes) in
        let at_i = (is.each i from.1).sent in
        let at_item = (is.each item has).sent in
        let place = one-place sents new i.place item.place i.waiting.message item.waiting.message at_i at_item of_i.0
        primary
        (of_i.1 ∙ sym (reply-system side item.waiting.message header reply)) in
        let equal : Some i.waiting.message ≡ Some item.waiting.message =
        sym at_i ∙ ap (λ p. sent_at p sents) place ∙ at_item in
        ap (λ (x : Waiting). x.message) from.2 ∙ same_Some _ _ equal

    go : (found : Option Waiting) → waiting_primary header.system out ≡ found
        → is_waiting_answered header out found ≡ true
    go None none =
        let e = sym name ∙ found-none (is_named true header.system) out.waiting item.waiting none here in absurd (cc)
    go (Some w) some =
        let of_w = found-in (is_named true header.system) out.waiting w some in
        let from = has-mapped waiting_of is.items w (subst (λ (ws : List Waiting). Has ws w) is.are of_w.0) in
        let same = same_message w from of_w.1 in
        ap (λ (s : Side). matches (header_of s out.device w.message (block_count w.message)) header) on
        ∙ ap (λ (m : Message). matches (header_of side out.device m (block_count m)) header) same
        ∙ reply

-- a block has come, and a primary of which it answers waits no longer
pub waiting-answered :
    {side : Side} (sents : List Message) (gave : List Giving) (heard : List Heard) (out : OutgoingView)
    (header : Header)
    → out.side ≡ side → AreNew sents → AreWaiting side sents gave heard out.waiting
    → AreWaiting side sents gave (record { header = header; after = length sents } ∷ heard)
    (without_answered (is_waiting_answered header out (waiting_primary header.system out)) header.system out).waiting
waiting-answered {side} sents gave heard out header on new is =
    go (is_waiting_answered header out (waiting_primary header.system out)) refl
  where
    test : Item → Bool
    test item = is_named true header.system (waiting_of item)

    one : (a b : Item) → Has is.items a → Has is.items b → test a ≡ true → test b ≡ true → a.place ≡ b.place
    one a b has_a has_b is_a is_b =
        let of_a = named a.waiting header.system is_a in
        let of_b = named b.waiting header.system is_b in
        one-place sents new a.place b.place a.waiting.message b.waiting.message (is.each a has_a).sent
        (is.each b has_b).sent
        of_a.0 of_b.0 (of_a.1 ∙ sym of_b.1)

    gone : (item : Item) → Has (without-first test is.items) item → is_primary item.waiting.message ≡ true
        → IsReplyTo side item.waiting.message header → ⊥
    gone item has primary reply =
        let e = none-left test is.items is.apart one item has in
        let name = is-named item.waiting header.system primary (reply-system side item.waiting.message header reply) in
        absurd (cc)

    go : (answered : Bool) → is_waiting_answered header out (waiting_primary header.system out) ≡ answered
        → AreWaiting side sents gave (record { header = header; after = length sents } ∷ heard)
        (without_answered answered header.system out).waiting
    go true e = record {
      items = without-first test is.items;
      are = ap (without_first (is_named true header.system)) is.are
          ∙ map-less waiting_of (is_named true header.system) is.items;
      apart = apart-less test is.items is.apart;
      each =
          λ item has. item-heard sents gave heard _ item (is.each item (has-less test is.items item has))
          (gone item has);
      places = is.places;
      afters = afters-heard sents heard header is.afters;
    }
    go false e = record {
      items = is.items;
      are = is.are;
      apart = is.apart;
      each = λ item has. item-heard sents gave heard _ item (is.each item has)
          (λ primary reply.
          let found = answered-found sents gave heard out header on new is item has primary reply in absurd (cc));
      places = is.places;
      afters = afters-heard sents heard header is.afters;
    }

-- ---- a block goes to the line

pub record IsNext
    (side : Side) (sents : List Message) (gave : List Giving) (heard : List Heard) (first : Waiting)
    (rest : List Waiting)
    : Type 0 where
  pub place : ℕ
  pub sent : sent_at place sents ≡ Some first.message
  pub next : first.gone + 1 ≡ given_of place gave + 1
  pub last : first.gone + 1 ≤ block_count first.message
  pub once : Has gave (record { place = place; number = first.gone + 1 }) → ⊥
  pub open_is : IsOpen side heard place first.message
  pub fits : IsMessage first.message
  pub after :
      AreWaiting side sents (record { place = place; number = first.gone + 1 } ∷ gave) heard (after_block first rest)

item-gave :
    {side : Side} (sents : List Message) (gave : List Giving) (heard : List Heard) (giving : Giving) (item : Item)
    → IsItem side sents gave heard item → (item.place ≡ giving.place → ⊥) → IsItem side sents (giving ∷ gave) heard item
item-gave {side} sents gave heard giving item is other = record {
  sent = is.sent;
  left = is.left;
  gone =
      (let not_here : (item.place == giving.place) ≡ false =
      ne_eqb item.place giving.place other in rw not_here is.gone);
  most = λ number has. go number has;
  open_is = is.open_is;
  fits = is.fits;
}
  where
    go : (number : ℕ) → Has (giving ∷ gave) (record { place = item.place; number = number })
        → number ≤ item.waiting.gone
    go number (inl same) = absurd (other (ap (λ (g : Giving). g.place) same))
    go number (inr has) = is.most number has

item-turned :
    {side : Side} (sents : List Message) (gave : List Giving) (heard : List Heard) (item : Item)
    → IsItem side sents gave heard item
    → (item.waiting.gone + 1 == block_count item.waiting.message) ≡ false
    → IsItem side sents (record { place = item.place; number = item.waiting.gone + 1 } ∷ gave) heard
    (record { place = item.place; waiting = record { message = item.waiting.message; gone = item.waiting.gone + 1 } })
item-turned {side} sents gave heard item is more = record {
  sent = is.sent;
  left = (let left = is.left in grind (arith, nat_tests, more, left));
  gone =
      (let here : (item.place == item.place) ≡ true =
      eq-eqb item.place item.place refl in rw here (ap (λ n. n + 1) is.gone));
  most = λ number has. go number has;
  open_is = is.open_is;
  fits = is.fits;
}
  where
    go : (number : ℕ)
        → Has (record { place = item.place; number = item.waiting.gone + 1 } ∷ gave)
        (record { place = item.place; number = number })
        → number ≤ item.waiting.gone + 1
    go number (inl same) = let e = ap (λ (g : Giving). g.number) same in omega arith
    go number (inr has) = let least = is.most number has in omega arith

pub waiting-gave :
    {side : Side} (sents : List Message) (gave : List Giving) (heard : List Heard) (first : Waiting)
    (rest : List Waiting)
    → AreWaiting side sents gave heard (first ∷ rest) → IsNext side sents gave heard first rest
waiting-gave {side} sents gave heard first rest is = go is.items is.are is.apart is.each
  where
    go : (items : List Item) → first ∷ rest ≡ map waiting_of items → AreApart items
        → ((item : Item) → Has items item → IsItem side sents gave heard item)
        → IsNext side sents gave heard first rest
    go [] are apart each = absurd (cc)
    go (item ∷ items) are apart each =
        let is_first : first ≡ item.waiting = cc in
        let are_rest : rest ≡ map waiting_of items = cc in
        subst (λ (w : Waiting). IsNext side sents gave heard w rest) (sym is_first)
        (subst (λ (ws : List Waiting). IsNext side sents gave heard item.waiting ws) (sym are_rest)
        (next item items apart each))
      where
        next : (item : Item) (items : List Item) → AreApart (item ∷ items)
            → ((other : Item) → Has (item ∷ items) other → IsItem side sents gave heard other)
            → IsNext side sents gave heard item.waiting (map waiting_of items)
        next item items apart each =
            let is_item = each item (inl refl) in
            let left = is_item.left in
            record {
              place = item.place;
              sent = is_item.sent;
              next = ap (λ n. n + 1) is_item.gone;
              last = omega arith;
              once = λ has. let least = is_item.most _ has in omega arith;
              open_is = is_item.open_is;
              fits = is_item.fits;
              after = turn (item.waiting.gone + 1 == block_count item.waiting.message) refl;
            }
          where
            giving : Giving
            giving = record { place = item.place; number = item.waiting.gone + 1 }

            others : (other : Item) → Has items other → IsItem side sents (giving ∷ gave) heard other
            others other has = item-gave sents gave heard giving other (each other (inr has)) (apart.0 other has)

            placed : (g : Giving) → Has (giving ∷ gave) g → g.place < length sents
            placed g (inl same) =
                let below = place-below item.place sents item.waiting.message (each item (inl refl)).sent in
                let e = ap (λ (x : Giving). x.place) same in
                omega arith
            placed g (inr has) = is.places g has

            turned : Item
            turned = record {
              place = item.place;
              waiting = record { message = item.waiting.message; gone = item.waiting.gone + 1 };
            }

            each_turned : (item.waiting.gone + 1 == block_count item.waiting.message) ≡ false → (other : Item)
                → Has items other ⊎ (other ≡ turned) → IsItem side sents (giving ∷ gave) heard other
            each_turned more other (inl has) = others other has
            each_turned more other (inr same) =
                subst (λ (i : Item). IsItem side sents (giving ∷ gave) heard i) (sym same)
                (item-turned sents gave heard item (each item (inl refl)) more)

            turn : (ended : Bool) → (item.waiting.gone + 1 == block_count item.waiting.message) ≡ ended
                → AreWaiting side sents (giving ∷ gave) heard
                (cond ended (map waiting_of items) (map waiting_of items ++ turned.waiting ∷ []))
            turn true is_ended = record {
              items = items;
              are = refl;
              apart = apart.1;
              each = others;
              places = placed;
              afters = is.afters;
            }
            turn false is_ended = record {
              items = items ++ turned ∷ [];
              are = sym (map-append waiting_of items (turned ∷ []));
              apart = apart-snoc items turned apart.1 apart.0;
              each = λ other has. each_turned is_ended other (has-snoc items turned other has);
              places = placed;
              afters = is.afters;
            }

-- ---- the held block

pub held-none :
    {side : Side} (sents : List Message) (gave : List Giving) (heard : List Heard) → HeldIs side sents gave heard None
held-none sents gave heard = λ block is. absurd (cc)

pub held-sent :
    {side : Side} (sents : List Message) (gave : List Giving) (heard : List Heard) (held : Option BlockView)
    (newer : Message)
    → HeldIs side sents gave heard held → HeldIs side (newer ∷ sents) gave heard held
held-sent sents gave heard held newer is = λ block holds.
    let old = is block holds in
    record {
      giving = old.giving;
      before = old.before;
      message = old.message;
      newest = old.newest;
      sent = sent-more old.giving.place sents old.message newer old.sent;
      device = old.device;
      header = old.header;
      open_is = old.open_is;
    }

-- it isn't of the primary that was answered
not-held :
    (side : Side) (block : BlockView) (message : Message) (device number : ℕ) (header : Header)
    → block.header ≡ header_of side device message number
    → is_held_answered header (Some block) ≡ false → is_primary message ≡ true → IsReplyTo side message header → ⊥
not-held side block message device number header is other primary reply =
    let both : is_held_answered header (Some block) ≡ true =
    ap (λ (h : Header). h.function % 2 == 1 && matches h header) is
    ∙ ap (λ b. b && matches (header_of side device message number) header) primary ∙ reply in
    let e = sym both ∙ other in absurd (cc)

pub held-answered :
    {side : Side} (sents : List Message) (gave : List Giving) (heard : List Heard) (held : Option BlockView)
    (header : Header)
    → is_held_answered header held ≡ false → HeldIs side sents gave heard held
    → HeldIs side sents gave (record { header = header; after = length sents } ∷ heard) held
held-answered {side} sents gave heard held header other is = λ block holds.
    let old = is block holds in
    record {
      giving = old.giving;
      before = old.before;
      message = old.message;
      newest = old.newest;
      sent = old.sent;
      device = old.device;
      header = old.header;
      open_is = open-heard side heard _ old.giving.place old.message old.open_is
          (not-held side block old.message old.device old.giving.number header old.header
          (ap (is_held_answered header) (sym holds) ∙ other));
    }

pub held-call :
    {side : Side} (sents : List Message) (gave : List Giving) (heard : List Heard) (old new : Option BlockView)
    (call : LineCall)
    → IsNoSend call → IsHeld old call new → HeldIs side sents gave heard old → HeldIs side sents gave heard new
held-call {side} sents gave heard old new call no_send (inl same) is =
    subst (λ (o : Option BlockView). HeldIs side sents gave heard o) (sym same) is
held-call {side} sents gave heard old new call no_send (inr (inl none)) is =
    subst (λ (o : Option BlockView). HeldIs side sents gave heard o) (sym none) (held-none sents gave heard)
held-call sents gave heard old new call no_send (inr (inr sent)) is =
    absurd (subst (λ (c : LineCall). IsNoSend c) sent.2 no_send)
