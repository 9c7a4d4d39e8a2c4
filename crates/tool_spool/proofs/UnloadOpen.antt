-- What is open of an unload: the transactions of messages of the spool, and how they agree with the message that the
-- ledger has under way, with the last try that was noted and with the number that is drawn.
use Rattle.std.proofs.Common.{◌≡◌, refl, sym, ap, subst, ◌∙◌, inl, inr, ◌⊎◌, arith, ◌<◌, ◌≤◌, ◌==◌, ◌&&◌, nat_lt, Bool, true, false, ℕ, List, [], ◌∷◌, ◌++◌, length, Option, Some, None, cond}
use Rattle.std.proofs.lemmas.Bool.Decides.{nat_tests}
use Rattle.std.specs.List.{find, position_or_len}
use Rattle.block_codec.specs.declared.header.Header.{Header}
use Rattle.message_flow.specs.declared.message.Message.{Message}
use Rattle.message_flow.proofs.Firsts.{removed, replace-first, replaced, without-first}
use Rattle.transact.specs.declared.begun.Begun.{Begun}
use Rattle.transact.specs.Transactions.{TransactionsView, with_deadline, with_found, without_first as without}
use Rattle.message_end.specs.Own.{Has}
use Rattle.spool_law.specs.Shelf.{Shelf, Told, Tried, told_with}
use Rattle.spool_ledger.specs.declared.unload.Tried.{Tried as UnderWay}
use Rattle.spool_ledger.specs.Ledger.{LedgerView}
use Rattle.spool_ledger.specs.Unloading.{is_numbered, is_oldest_tried, tried_in}
use Rattle.trace_log.specs.Names.{Spooled}
use Rattle.tool_step.specs.declared.kind.Kind.{Kind}
use Rattle.tool_step.specs.declared.kind.Kind.TheVariants as kind
use Rattle.tool_step.specs.Own.{event_report}

-- ---- transactions of the spool

-- a message of the spool, and whether it is the S6F5 that asks for a grant
abbrev pub asks_grant : Kind → Option Bool
asks_grant kind.Unload = Some false
asks_grant kind.UnloadGrant = Some true
asks_grant _ = None

abbrev pub Open : Type 0
Open = List (Bool × Header)

abbrev pub with_open : Option Bool → Header → Open → Open
with_open None header more = more
with_open (Some asks) header more = (asks, header) ∷ more

-- of each that is open whether it asks for a grant, and its header
abbrev pub unloads_in : List (Begun Kind) → Open
unloads_in [] = []
unloads_in (begun ∷ rest) = with_open (asks_grant begun.kind) begun.header (unloads_in rest)

-- as before, or fewer
abbrev pub IsLess : Open → Open → Type 0
IsLess old new = (new ≡ old) ⊎ (length new < length old)

-- ---- what is under way

abbrev pub tried_at : ℕ → ℕ → Option Tried
tried_at number system = Some (record { number = number; system = system })

-- this is the header of a block of the message that is to go out with these system bytes
pub record IsHeaderOf (header : Header) (system : ℕ) (told : List Told) : Type 0 where
  pub message : Spooled
  pub is : told_with system told ≡ Some message
  pub system_is : header.system ≡ system
  pub stream_is : header.stream ≡ message.stream
  pub function_is : header.function ≡ message.function

-- it went, and is open or has ended; or it waits for a grant under the number that is drawn for it
abbrev pub MayGo : Option (List ℕ) → ℕ → List Told → Option ℕ → Open → Type 0
MayGo None system told drawn opened =
    (opened ≡ []) ⊎ ((header : Header) × (opened ≡ (false, header) ∷ []) × IsHeaderOf header system told)
MayGo (Some body) system told drawn opened =
    (drawn ≡ Some system) × (told_with system told ≡ Some (event_report body))
    × ((opened ≡ []) ⊎ ((other : Header) × (opened ≡ (true, other) ∷ [])))

-- the last try is its own, while it stands first; or it has left
pub record IsUnderWay
    (under : UnderWay) (first : ℕ) (shelf : Shelf) (drawn : Option ℕ) (opened : Open)
    : Type 0 where
  pub system : ℕ
  pub stands :
      (under.number < first)
      ⊎ ((under.number ≡ first) × (shelf.tried ≡ Some (record { number = first; system = system })))
  pub goes : MayGo under.waiting system shelf.told drawn opened

-- where no message is under way, no transaction of the spool is open
abbrev pub IsOpen : Option UnderWay → ℕ → Shelf → Option ℕ → Open → Type 0
IsOpen None first shelf drawn opened = opened ≡ []
IsOpen (Some under) first shelf drawn opened = IsUnderWay under first shelf drawn opened

-- a message has this header
pub record HasHeader (header : Header) (message : Message) : Type 0 where
  pub system : message.system ≡ header.system
  pub stream : message.stream ≡ header.stream
  pub function : message.function ≡ header.function
  pub wait : message.wait ≡ header.wait

-- ---- fewer

pub less-both : (one two three : Open) → IsLess one two → IsLess two three → IsLess one three
less-both one two three (inl a) (inl b) = inl (b ∙ a)
less-both one two three (inl a) (inr b) = let e = ap (λ (o : Open). length o) a in inr (omega (arith, b, e))
less-both one two three (inr a) (inl b) = let e = ap (λ (o : Open). length o) b in inr (omega (arith, a, e))
less-both one two three (inr a) (inr b) = inr (omega (arith, a, b))

less-with : (asks : Option Bool) (header : Header) (old new : Open) → IsLess old new
    → IsLess (with_open asks header old) (with_open asks header new)
less-with None header old new less = less
less-with (Some asks) header old new (inl same) = inl (ap (λ (o : Open). (asks, header) ∷ o) same)
less-with (Some asks) header old new (inr less) = inr (omega (arith, less))

less-out : (asks : Option Bool) (header : Header) (more : Open) → IsLess (with_open asks header more) more
less-out None header more = inl refl
less-out (Some asks) header more = inr (omega arith)

pub without-less :
    (test : Begun Kind → Bool) (begun : List (Begun Kind))
    → IsLess (unloads_in begun) (unloads_in (without-first test begun))
without-less test [] = inl refl
without-less test (first ∷ begun) = go (test first) (without-less test begun)
  where
    go : (is : Bool) → IsLess (unloads_in begun) (unloads_in (without-first test begun))
        → IsLess (unloads_in (first ∷ begun)) (unloads_in (cond is begun (first ∷ without-first test begun)))
    go true rest = less-out (asks_grant first.kind) first.header (unloads_in begun)
    go false rest =
        less-with (asks_grant first.kind) first.header (unloads_in begun)
        (unloads_in (without-first test begun)) rest

pub ends-less : (test : Begun Kind → Bool) (t : TransactionsView Kind)
    → IsLess (unloads_in t.begun) (unloads_in (without test t).begun)
ends-less test t =
    subst (λ (begun : List (Begun Kind)). IsLess (unloads_in t.begun) (unloads_in begun)) (sym (removed test t.begun))
    (without-less test t.begun)

-- ---- a timer

same-open : (one other : Begun Kind) (rest : Open) → one ≡ other
    → with_open (asks_grant one.kind) one.header rest ≡ with_open (asks_grant other.kind) other.header rest
same-open one other rest same = ap (λ (b : Begun Kind). with_open (asks_grant b.kind) b.header rest) same

replaced-same :
    (test : Begun Kind → Bool) (deadline : Option ℕ) (begun : List (Begun Kind)) (found : Begun Kind)
    → find test begun ≡ Some found
    → unloads_in (replace-first test (record found { deadline = deadline }) begun) ≡ unloads_in begun
replaced-same test deadline [] found is = refl
replaced-same test deadline (first ∷ begun) found is =
    go (test first) is (λ later. replaced-same test deadline begun found later)
  where
    inj : (x y : Begun Kind) → Some x ≡ Some y → x ≡ y
    inj x y e = cc

    go : (b : Bool) → cond b (Some first) (find test begun) ≡ Some found
        → (find test begun ≡ Some found
        → unloads_in (replace-first test (record found { deadline = deadline }) begun) ≡ unloads_in begun)
        → unloads_in (cond b (record found { deadline = deadline } ∷ begun)
        (first ∷ replace-first test (record found { deadline = deadline }) begun))
        ≡ unloads_in (first ∷ begun)
    go true is more = same-open found first (unloads_in begun) (sym (inj first found is))
    go false is more = ap (λ (o : Open). with_open (asks_grant first.kind) first.header o) (more is)

pub timed-same :
    (test : Begun Kind → Bool) (deadline : Option ℕ) (t : TransactionsView Kind)
    → unloads_in (with_deadline test deadline t).begun ≡ unloads_in t.begun
timed-same test deadline t = go (find test t.begun) refl
  where
    go : (found : Option (Begun Kind)) → find test t.begun ≡ found
        → unloads_in (with_found found (position_or_len test t.begun) deadline t.begun) ≡ unloads_in t.begun
    go None e = refl
    go (Some found) e =
        ap (λ (begun : List (Begun Kind)). unloads_in begun)
        (replaced test (record found { deadline = deadline }) t.begun)
        ∙ replaced-same test deadline t.begun found e

-- ---- one more

with-append : (asks : Option Bool) (header : Header) (one two : Open)
    → with_open asks header (one ++ two) ≡ with_open asks header one ++ two
with-append None header one two = refl
with-append (Some asks) header one two = refl

pub last-open :
    (begun : List (Begun Kind)) (last : Begun Kind)
    → unloads_in (begun ++ last ∷ [])
    ≡ unloads_in begun ++ with_open (asks_grant last.kind) last.header []
last-open [] last = refl
last-open (first ∷ begun) last =
    ap (λ (o : Open). with_open (asks_grant first.kind) first.header o) (last-open begun last)
    ∙ with-append (asks_grant first.kind) first.header (unloads_in begun)
    (with_open (asks_grant last.kind) last.header [])

-- ---- one that ends

less-more : (asks : Option Bool) (header : Header) (old new : Open) → length new < length old
    → length (with_open asks header new) < length (with_open asks header old)
less-more None header old new less = less
less-more (Some asks) header old new less = omega (arith, less)

fewer-out : (asks : Option Bool) (flag : Bool) (header : Header) (more : Open) → asks ≡ Some flag
    → length more < length (with_open asks header more)
fewer-out None flag header more is = absurd (cc)
fewer-out (Some asks) flag header more is = omega arith

-- with one of the spool there are fewer
pub found-fewer :
    (test : Begun Kind → Bool) (begun : List (Begun Kind)) (found : Begun Kind) (flag : Bool)
    → find test begun ≡ Some found → asks_grant found.kind ≡ Some flag
    → length (unloads_in (without-first test begun)) < length (unloads_in begun)
found-fewer test [] found flag is of = absurd (cc)
found-fewer test (first ∷ begun) found flag is of =
    go (test first) is (λ later. found-fewer test begun found flag later of)
  where
    inj : (x y : Begun Kind) → Some x ≡ Some y → x ≡ y
    inj x y e = cc

    go : (b : Bool) → cond b (Some first) (find test begun) ≡ Some found
        → (find test begun ≡ Some found → length (unloads_in (without-first test begun)) < length (unloads_in begun))
        → length (unloads_in (cond b begun (first ∷ without-first test begun))) < length (unloads_in (first ∷ begun))
    go true is more =
        fewer-out (asks_grant first.kind) flag first.header (unloads_in begun)
        (ap (λ (b : Begun Kind). asks_grant b.kind) (inj first found is) ∙ of)
    go false is more =
        less-more (asks_grant first.kind) first.header (unloads_in begun)
        (unloads_in (without-first test begun)) (more is)

pub found-open :
    (test : Begun Kind → Bool) (begun : List (Begun Kind)) (found : Begun Kind) (flag : Bool)
    → find test begun ≡ Some found → asks_grant found.kind ≡ Some flag
    → Has (unloads_in begun) (flag, found.header)
found-open test [] found flag is of = absurd (cc)
found-open test (first ∷ begun) found flag is of =
    go (test first) is (λ later. found-open test begun found flag later of)
  where
    inj : (x y : Begun Kind) → Some x ≡ Some y → x ≡ y
    inj x y e = cc

    more-has : (asks : Option Bool) (header : Header) (opened : Open) (one : Bool × Header) → Has opened one
        → Has (with_open asks header opened) one
    more-has None header opened one has = has
    more-has (Some asks) header opened one has = inr has

    is-first : (asks : Option Bool) (header : Header) (opened : Open) → asks ≡ Some flag
        → Has (with_open asks header opened) (flag, header)
    is-first None header opened is = absurd (cc)
    is-first (Some asks) header opened is =
        inl (ap (λ (a : Bool). (a, header)) (sym (same asks flag is)))
      where
        same : (x y : Bool) → Some x ≡ Some y → x ≡ y
        same x y e = cc

    go : (b : Bool) → cond b (Some first) (find test begun) ≡ Some found
        → (find test begun ≡ Some found → Has (unloads_in begun) (flag, found.header))
        → Has (unloads_in (first ∷ begun)) (flag, found.header)
    go true is more =
        subst (λ (b : Begun Kind). Has (with_open (asks_grant b.kind) b.header (unloads_in begun))
        (flag, found.header))
        (sym (inj first found is)) (is-first (asks_grant found.kind) found.header (unloads_in begun) of)
    go false is more =
        more-has (asks_grant first.kind) first.header (unloads_in begun) (flag, found.header) (more is)

-- ---- what is under way, as other things change

none-left : (opened : Open) → length opened < 1 → opened ≡ []
none-left [] less = refl
none-left (one ∷ opened) less = absurd (omega (arith, less))

-- one at most
pub at-most-one :
    (under : Option UnderWay) (first : ℕ) (shelf : Shelf) (drawn : Option ℕ) (opened : Open)
    → IsOpen under first shelf drawn opened → length opened ≤ 1
at-most-one None first shelf drawn opened is = let e = ap (λ (o : Open). length o) is in omega (arith, e)
at-most-one (Some under) first shelf drawn opened is = go under.waiting is.goes
  where
    go : (waiting : Option (List ℕ)) → MayGo waiting is.system shelf.told drawn opened → length opened ≤ 1
    go None (inl same) = let e = ap (λ (o : Open). length o) same in omega (arith, e)
    go None (inr same) = let e = ap (λ (o : Open). length o) same.1 in omega (arith, e)
    go (Some body) (drawn_is, told_is, inl same) = let e = ap (λ (o : Open). length o) same in omega (arith, e)
    go (Some body) (drawn_is, told_is, inr same) = let e = ap (λ (o : Open). length o) same.1 in omega (arith, e)

-- where one ends, none is left
pub none-behind :
    (under : Option UnderWay) (first : ℕ) (shelf : Shelf) (drawn : Option ℕ) (old new : Open)
    → IsOpen under first shelf drawn old → length new < length old → new ≡ []
none-behind under first shelf drawn old new is less =
    let most = at-most-one under first shelf drawn old is in none-left new (omega (arith, less, most))

pub open-less :
    (under : Option UnderWay) (first : ℕ) (shelf : Shelf) (drawn : Option ℕ) (old new : Open) → IsLess old new
    → IsOpen under first shelf drawn old → IsOpen under first shelf drawn new
open-less under first shelf drawn old new (inl same) is = subst (IsOpen under first shelf drawn) (sym same) is
open-less under first shelf drawn old new (inr less) is =
    subst (IsOpen under first shelf drawn) (sym (none-behind under first shelf drawn old new is less)) (ended under is)
  where
    ended : (under : Option UnderWay) → IsOpen under first shelf drawn old → IsOpen under first shelf drawn []
    ended None is = refl
    ended (Some under) is = record { system = is.system; stands = is.stands; goes = go under.waiting is.goes }
      where
        go : (waiting : Option (List ℕ)) → MayGo waiting is.system shelf.told drawn old
            → MayGo waiting is.system shelf.told drawn []
        go None goes = inl refl
        go (Some body) (drawn_is, told_is, opened) = (drawn_is, told_is, inl refl)

-- the oldest number and the last try stay, or the oldest leaves
abbrev pub Moves : ℕ → ℕ → Shelf → Shelf → Type 0
Moves before first old new = ((first ≡ before) × (new.tried ≡ old.tried)) ⊎ (before < first)

pub moves-both : (one two three : ℕ) (a b c : Shelf) → Moves one two a b → Moves two three b c → Moves one three a c
moves-both one two three a b c (inl first) (inl second) = inl (second.0 ∙ first.0, second.1 ∙ first.1)
moves-both one two three a b c (inl first) (inr second) = let e = first.0 in inr (omega (arith, e, second))
moves-both one two three a b c (inr first) (inl second) = let e = second.0 in inr (omega (arith, e, first))
moves-both one two three a b c (inr first) (inr second) = inr (omega (arith, first, second))

pub open-moved :
    (under : Option UnderWay) (before first : ℕ) (old new : Shelf) (drawn : Option ℕ) (opened : Open)
    → new.told ≡ old.told → Moves before first old new → IsOpen under before old drawn opened
    → IsOpen under first new drawn opened
open-moved None before first old new drawn opened told moves is = is
open-moved (Some under) before first old new drawn opened told moves is = record {
  system = is.system;
  stands = go is.stands moves;
  goes = subst (λ (t : List Told). MayGo under.waiting is.system t drawn opened) (sym told) is.goes;
}
  where
    Stands : ℕ → Shelf → Type 0
    Stands first shelf =
        (under.number < first)
        ⊎ ((under.number ≡ first) × (shelf.tried ≡ Some (record { number = first; system = is.system })))

    go : Stands before old → Moves before first old new → Stands first new
    go (inl below) (inl same) = let e = same.0 in inl (omega (arith, below, e))
    go (inl below) (inr more) = inl (omega (arith, below, more))
    go (inr at) (inr more) = let e = at.0 in inl (omega (arith, e, more))
    go (inr at) (inl same) = inr (
      at.0 ∙ sym same.0,
      same.1 ∙ at.1
          ∙ ap (λ (n : ℕ). tried_at n is.system) (sym same.0),
    )

-- ---- its reply

-- the last try was of this one, which stands first still, and with the header's system bytes goes out its message
pub record IsLastTried (v : LedgerView) (shelf : Shelf) (header : Header) : Type 0 where
  pub tried : shelf.tried ≡ Some (record { number = v.first; system = header.system })
  pub header_is : IsHeaderOf header header.system shelf.told

-- a message of the spool that is open is the last that was tried, where it stands first still
pub last-tried :
    (v : LedgerView) (shelf : Shelf) (drawn : Option ℕ) (opened : Open) (header : Header)
    → IsOpen (tried_in v.unload) v.first shelf drawn opened → Has opened (false, header) → is_oldest_tried v ≡ true
    → IsLastTried v shelf header
last-tried v shelf drawn opened header is has oldest = go (tried_in v.unload) is oldest
  where
    numbered : (len : ℕ) (same : Bool) → (nat_lt 0 len && same) ≡ true → same ≡ true
    numbered len true e = refl
    numbered len false e = grind (arith, nat_tests, e)

    IsIt : ℕ → Type 0
    IsIt system = (system ≡ header.system) × IsHeaderOf header system shelf.told

    named : (system : ℕ) (other : Header) → IsHeaderOf other system shelf.told
        → Has {X = Bool × Header} ((false, other) ∷ []) (false, header) → IsIt system
    named system other of (inl same) =
        let e : header ≡ other = ap (λ (p : Bool × Header). p.1) same in (
          sym of.system_is ∙ ap (λ (h : Header). h.system) (sym e),
          subst (λ (h : Header). IsHeaderOf h system shelf.told) (sym e) of,
        )
    named system other of (inr none) = absurd none

    no-grant : (other : Header) → Has {X = Bool × Header} ((true, other) ∷ []) (false, header) → ⊥
    no-grant other (inl e) = let wrong = ap (λ (p : Bool × Header). p.0) e in cc
    no-grant other (inr none) = none

    sent : (waiting : Option (List ℕ)) (system : ℕ) → MayGo waiting system shelf.told drawn opened → IsIt system
    sent None system (inl none) = absurd (subst (λ (o : Open). Has o (false, header)) none has)
    sent None system (inr same) =
        named system same.0 same.2 (subst (λ (o : Open). Has o (false, header)) same.1 has)
    sent (Some body) system (drawn_is, told_is, inl none) =
        absurd (subst (λ (o : Open). Has o (false, header)) none has)
    sent (Some body) system (drawn_is, told_is, inr same) =
        absurd (no-grant same.0 (subst (λ (o : Open). Has o (false, header)) same.1 has))

    stands : (under : UnderWay) (is : IsUnderWay under v.first shelf drawn opened) → (under.number == v.first) ≡ true
        → (under.number < v.first)
        ⊎ ((under.number ≡ v.first) × (shelf.tried ≡ Some (record { number = v.first; system = is.system })))
        → IsLastTried v shelf header
    stands under is same (inl below) = absurd (grind (arith, nat_tests, same, below))
    stands under is same (inr at) =
        let it = sent under.waiting is.system is.goes in
        record {
          tried = at.1 ∙ ap (λ (n : ℕ). tried_at v.first n) it.0;
          header_is = subst (λ (n : ℕ). IsHeaderOf header n shelf.told) it.0 it.1;
        }

    go : (under : Option UnderWay) → IsOpen under v.first shelf drawn opened
        → (nat_lt 0 (length v.sizes) && is_numbered v.first under) ≡ true
        → IsLastTried v shelf header
    go None is oldest = absurd (let e = numbered (length v.sizes) false oldest in cc)
    go (Some under) is oldest = stands under is (numbered (length v.sizes) (under.number == v.first) oldest) is.stands
