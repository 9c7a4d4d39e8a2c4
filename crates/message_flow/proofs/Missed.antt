-- The open blocks of a key are numbered from 1, and each of them was given since number 1 was.
use Rattle.std.proofs.Common.{◌≡◌, ◌≢◌, refl, sym, ◌∙◌, ap, subst, arith, ◌≤◌, ◌⊎◌, inl, inr, Bool, true, false, cond, ◌&&◌, ◌||◌, ◌==◌, ℕ, suc, ◌+◌, nat_lt, List, [], ◌∷◌, ◌++◌, length, reverse, Option, Some, None}
use Rattle.std.specs.List.{cons_option}
use Rattle.std.proofs.lemmas.Bool.{and_from, and_left, and_parts, and_right, both_ways, eq-eqb, eqb-false, eqb-true, ltb-false, ltb-true, ne_eqb, or_cases}
use Rattle.block_codec.specs.Block.{BlockView}
use Rattle.block_codec.specs.declared.header.Header.{Header}
use Rattle.message_flow.specs.declared.flow.Flow.{Flow}
use Rattle.message_flow.specs.declared.flow.Flow.TheVariants.{Part, Whole, Duplicate, Foreign, Unexpected, TooLong, Crowded}
use Rattle.message_flow.specs.declared.message.Message.{Message}
use Rattle.message_flow.specs.Arrivals.{is_given_since}
use Rattle.message_flow.specs.Assembly.{is_crowded, is_next, message_of, whole_with}
use Rattle.message_flow.specs.Blocks.{block_count, numbered_block}
use Rattle.message_flow.specs.Entries.{FlowEntry}
use Rattle.message_flow.specs.Entries.FlowEntry.{Dropped, Given}
use Rattle.message_flow.specs.History.{Met, is_cut, is_end, flow_after, flow_at, is_part, last_given, met_of, newest_header, open_blocks, open_firsts, part_of, text_of}
use Rattle.message_flow.specs.History.Met.{Arrived, TimedOut}
use Rattle.message_flow.specs.Key.{is_given, same_key}
use Rattle.message_flow.specs.Laws.{AreNumbered, IsNextNumber, LeftOutIsMissed, WholeIsNumbered}
use Rattle.message_flow.specs.Receiver.{Receiver, address_of, is_foreign}
use Rattle.message_flow.proofs.Agreement.{open-cut, open-other, open-part, open-uncut, part-none, part-some}
use Rattle.message_flow.proofs.Arrivals.{flow-back}
use Rattle.message_flow.proofs.Keys.{key-left, key-right, key-same, key-self}
use Rattle.secs_items.specs.Checking.{Checking}

-- ---- what is known where a block is this

abbrev Facts : Receiver → List Met → BlockView → Flow → Type 0
Facts receiver met block Part =
    (is_foreign receiver block.header ≡ false)
    × (is_next (newest_header (open_blocks block.header met)) block.header ≡ true)
    × (block.header.last ≡ false)
Facts receiver met block (Whole message check) =
    (is_next (newest_header (open_blocks block.header met)) block.header ≡ true) × (block.header.last ≡ true)
Facts receiver met block Duplicate = is_given (last_given met) block.header ≡ true
Facts receiver met block (Foreign address) = is_foreign receiver block.header ≡ true
Facts receiver met block Unexpected = Unit {0}
Facts receiver met block TooLong = Unit {0}
Facts receiver met block Crowded =
    is_crowded (newest_header (open_blocks block.header met)) (length (open_firsts met)) ≡ true

facts-by :
    (receiver : Receiver) (met : List Met) (block : BlockView) (address : ℕ) (message : Message)
    (given foreign follows long last crowded : Bool)
    → is_given (last_given met) block.header ≡ given → is_foreign receiver block.header ≡ foreign
    → is_next (newest_header (open_blocks block.header met)) block.header ≡ follows → block.header.last ≡ last
    → is_crowded (newest_header (open_blocks block.header met)) (length (open_firsts met)) ≡ crowded
    → Facts receiver met block
    (cond given Duplicate (cond foreign (Foreign address)
    (cond follows (cond long TooLong (cond last (whole_with message) (cond crowded Crowded Part))) Unexpected)))
facts-by receiver met block address message true foreign follows long last crowded g f n l c = g
facts-by receiver met block address message false true follows long last crowded g f n l c = f
facts-by receiver met block address message false false false long last crowded g f n l c = tt
facts-by receiver met block address message false false true true last crowded g f n l c = tt
facts-by receiver met block address message false false true false true crowded g f n l c = (n, l)
facts-by receiver met block address message false false true false false true g f n l c = c
facts-by receiver met block address message false false true false false false g f n l c = (f, n, l)

facts : (receiver : Receiver) (met : List Met) (block : BlockView)
    → Facts receiver met block (flow_after receiver met block)
facts receiver met block =
    facts-by receiver met block (address_of block.header)
    (message_of block.header (text_of (open_blocks block.header met) ++ block.body))
    (is_given (last_given met) block.header) (is_foreign receiver block.header)
    (is_next (newest_header (open_blocks block.header met)) block.header)
    (nat_lt receiver.max_body (length (text_of (open_blocks block.header met)) + length block.body)) block.header.last
    (is_crowded (newest_header (open_blocks block.header met)) (length (open_firsts met))) refl refl refl refl refl

-- ---- of one key

record IsCounted (receiver : Receiver) (header : Header) (entries : List FlowEntry) (met : List Met) : Type 0 where
  pub numbered : AreNumbered (open_blocks header met)
  pub since : (number : ℕ) → 1 ≤ number → number ≤ length (open_blocks header met)
      → is_given_since header number entries ≡ true
  pub first : (last : Header) → last_given met ≡ Some last → same_key last header ≡ true → last.number ≡ 1
      → length (open_blocks header met) ≤ 1
  pub own : is_foreign receiver header ≡ true → open_blocks header met ≡ []

-- nothing is open
none-counted :
    (receiver : Receiver) (header : Header) (entries : List FlowEntry) (met : List Met) → open_blocks header met ≡ []
    → IsCounted receiver header entries met
none-counted receiver header entries met none = record {
  numbered = rw none tt;
  since = λ number some less. absurd (let e = ap length none in omega arith);
  first = λ last given same one. rw none (omega arith);
  own = λ foreign. none;
}

-- a block that is the next of its message, and the last where its number is 0
record IsFollowing (blocks : List BlockView) (block : BlockView) : Type 0 where
  pub number : IsNextNumber blocks block
  pub last : block.header.number ≡ 0 → block.header.last ≡ true

next-number :
    (blocks : List BlockView) (block : BlockView) → AreNumbered blocks
    → is_next (newest_header blocks) block.header ≡ true
    → IsFollowing blocks block
next-number [] block are next = go (or_cases _ _ next)
  where
    go : ((block.header.number == 1) ≡ true) ⊎ (((block.header.number == 0) && block.header.last) ≡ true)
        → IsFollowing [] block
    go (inl one) = let e = eqb-true _ _ one in record { number = inl e; last = λ none. absurd (omega arith) }
    go (inr only) =
        let both = and_parts _ _ only in
        record { number = inr (eqb-true _ _ both.0, refl); last = λ none. both.1 }
next-number (before ∷ earlier) block are next =
    let e = eqb-true block.header.number (before.header.number + 1) next in
    let f = are.0 in
    let g : length (before ∷ earlier) ≡ length earlier + 1 = omega arith in
    record {
      number = inl (rw g (let h : block.header.number ≡ length earlier + 1 + 1 = omega arith in h));
      last = λ none. absurd (omega arith);
    }

-- ---- one entry more

given-other :
    (header : Header) (number now : ℕ) (block : BlockView) (entries : List FlowEntry)
    → same_key block.header header ≡ false
    → is_given_since header number (Given block now ∷ entries) ≡ is_given_since header number entries
given-other header number now block entries differ = rw differ refl

given-itself :
    (header : Header) (number now : ℕ) (block : BlockView) (entries : List FlowEntry)
    → same_key block.header header ≡ true
    → block.header.number ≡ number → is_given_since header number (Given block now ∷ entries) ≡ true
given-itself header number now block entries same e = rw (same, eq-eqb block.header.number number e) refl

given-before :
    (header : Header) (number now : ℕ) (block : BlockView) (entries : List FlowEntry)
    → same_key block.header header ≡ true
    → block.header.number ≢ 1 → is_given_since header number entries ≡ true
    → is_given_since header number (Given block now ∷ entries) ≡ true
given-before header number now block entries same other given =
    rw (same, ne_eqb block.header.number 1 other, given) (go (block.header.number == number))
  where
    go : (t : Bool) → (t || true) ≡ true
    go true = refl
    go false = refl

-- a block of the key with the number behind the open ones: each number up to its own was given since
since-next :
    (receiver : Receiver) (header : Header) (entries : List FlowEntry) (met : List Met) (block : BlockView) (now : ℕ)
    → IsCounted receiver header entries met → same_key block.header header ≡ true
    → block.header.number ≡ length (open_blocks header met) + 1
    → (number : ℕ) → 1 ≤ number → number ≤ length (open_blocks header met) + 1
    → is_given_since header number (Given block now ∷ entries) ≡ true
since-next receiver header entries met block now is same e number some less =
    go (nat_lt number block.header.number) refl
  where
    go : (t : Bool) → nat_lt number block.header.number ≡ t
        → is_given_since header number (Given block now ∷ entries) ≡ true
    go true below =
        let h = ltb-true _ _ below in
        given-before header number now block entries same (λ one. absurd (omega arith))
        (is.since number some (omega arith))
    go false above =
        let h = ltb-false _ _ above in given-itself header number now block entries same (omega arith)

-- an entry that changes nothing of the key and is of another one
counted-other :
    (receiver : Receiver) (header : Header) (entries : List FlowEntry) (met : List Met) (block : BlockView) (now : ℕ)
    (flow : Flow)
    → same_key block.header header ≡ false → IsCounted receiver header entries met
    → IsCounted receiver header (Given block now ∷ entries) (Arrived block now flow ∷ met)
counted-other receiver header entries met block now flow differ is =
    let still : open_blocks header (Arrived block now flow ∷ met) ≡ open_blocks header met =
    open-other (part_of header) header (Arrived block now flow) met (and_left _ _ differ)
    (part-none block _ (and_left _ _ differ)) in
    record {
      numbered = rw still is.numbered;
      since = λ number some less.
          given-other header number now block entries differ
          ∙ is.since number some (let e = ap length still in omega arith);
      first = λ last e same one.
          absurd (let h : block.header ≡ last = cc in both_ways _ differ (rw h same));
      own = λ foreign. still ∙ is.own foreign;
    }

counted-part :
    (receiver : Receiver) (header : Header) (entries : List FlowEntry) (met : List Met) (block : BlockView) (now : ℕ)
    → same_key block.header header ≡ true → is_foreign receiver header ≡ false
    → block.header.number ≡ length (open_blocks header met) + 1 → IsCounted receiver header entries met
    → IsCounted receiver header (Given block now ∷ entries) (Arrived block now Part ∷ met)
counted-part receiver header entries met block now same own e is =
    let grown : open_blocks header (Arrived block now Part ∷ met) ≡ block ∷ open_blocks header met =
    open-part (part_of header) block header block now met (part-some block _ (and_from _ _ same refl)) in
    record {
      numbered = rw grown (e, is.numbered);
      since = λ number some less.
          since-next receiver header entries met block now is same e number some
          (let f : length (open_blocks header (Arrived block now Part ∷ met))
          ≡ suc (length (open_blocks header met)) = ap length grown in
          omega arith);
      first = λ last g key one.
          let h : block.header ≡ last = cc in
          let number = ap (λ (a : Header). a.number) h in
          let f : length (open_blocks header (Arrived block now Part ∷ met)) ≡ suc (length (open_blocks header met)) =
          ap length grown in
          omega arith;
      own = λ foreign. absurd (both_ways _ own foreign);
    }

-- ---- headers of one key

cuts-same : (a b : Header) (entry : Met) → same_key a b ≡ true → is_cut a entry ≡ is_cut b entry
cuts-same a b (Arrived block now flow) same = ap (λ t. t && is_end flow) (key-right block.header a b same)
cuts-same a b (TimedOut dropped now) same = key-right dropped a b same

part-same : (a b : Header) (entry : Met) → same_key a b ≡ true → part_of a entry ≡ part_of b entry
part-same a b (Arrived block now flow) same =
    ap (λ t. cond (t && is_part flow) (Some block) None) (key-right block.header a b same)
part-same a b (TimedOut dropped now) same = refl

open-same : (a b : Header) (met : List Met) → same_key a b ≡ true → open_blocks a met ≡ open_blocks b met
open-same a b [] same = refl
open-same a b (entry ∷ met) same = go (is_cut a entry) refl (open-same a b met same)
  where
    go : (t : Bool) → is_cut a entry ≡ t → open_blocks a met ≡ open_blocks b met
        → open_blocks a (entry ∷ met) ≡ open_blocks b (entry ∷ met)
    go true cut next =
        open-cut (part_of a) a entry met cut
        ∙ sym (open-cut (part_of b) b entry met (sym (cuts-same a b entry same) ∙ cut))
    go false uncut next =
        open-uncut (part_of a) a entry met uncut
        ∙ ap (λ (part : Option BlockView). cons_option part (open_blocks a met)) (part-same a b entry same)
        ∙ ap (cons_option (part_of b entry)) next
        ∙ sym (open-uncut (part_of b) b entry met (sym (cuts-same a b entry same) ∙ uncut))

foreign-same : (receiver : Receiver) (a b : Header) → same_key a b ≡ true
    → is_foreign receiver a ≡ is_foreign receiver b
foreign-same receiver a b h = let same = key-same a b h in rw (same.from_equipment, same.device) refl

-- ---- an entry of the key

-- the block that came last, once more, where at most one block is open if its number is 1
repeated :
    (header : Header) (number now : ℕ) (block : BlockView) (entries : List FlowEntry) (count : ℕ)
    → same_key block.header header ≡ true
    → (block.header.number ≡ 1 → count ≤ 1) → 1 ≤ number → number ≤ count → is_given_since header number entries ≡ true
    → is_given_since header number (Given block now ∷ entries) ≡ true
repeated header number now block entries count same few some less given = go (block.header.number == number) refl
  where
    go : (t : Bool) → (block.header.number == number) ≡ t
        → is_given_since header number (Given block now ∷ entries) ≡ true
    go true e = given-itself header number now block entries same (eqb-true _ _ e)
    go false e =
        given-before header number now block entries same
        (λ one. let f = few one in eqb-false _ _ e (let g : block.header.number ≡ number = omega arith in g)) given

record IsGivenLast (last : Option Header) (header : Header) : Type 0 where
  pub given : Header
  pub is : last ≡ Some given
  pub same : same_key given header ≡ true
  pub number : given.number ≡ header.number

given-last : (last : Option Header) (header : Header) → is_given last header ≡ true → IsGivenLast last header
given-last None header e = absurd (cc)
given-last (Some given) header e =
    let both = and_parts _ _ e in
    record { given = given; is = refl; same = (and_parts _ _ both.0).0; number = eqb-true _ _ both.1 }

no-crowd : (blocks : List BlockView) (count : ℕ) → is_crowded (newest_header blocks) count ≡ true → blocks ≡ []
no-crowd [] count e = refl
no-crowd (block ∷ before) count e = absurd (cc)

counted-again :
    (receiver : Receiver) (header : Header) (entries : List FlowEntry) (met : List Met) (block : BlockView) (now : ℕ)
    → same_key block.header header ≡ true → IsGivenLast (last_given met) block.header
    → IsCounted receiver header entries met
    → IsCounted receiver header (Given block now ∷ entries) (Arrived block now Duplicate ∷ met)
counted-again receiver header entries met block now same again is =
    let still : open_blocks header (Arrived block now Duplicate ∷ met) ≡ open_blocks header met =
    open-other (part_of header) header (Arrived block now Duplicate) met (and_right _ _ refl)
    (part-none block _ (and_right _ _ refl)) in
    let key : same_key again.given header ≡ true = key-left again.given block.header header again.same ∙ same in
    let few : block.header.number ≡ 1 → length (open_blocks header met) ≤ 1 =
    λ one. is.first again.given again.is key (again.number ∙ one) in
    record {
      numbered = rw still is.numbered;
      since = λ number some less.
          repeated header number now block entries (length (open_blocks header met)) same few some
          (let e = ap length still in omega arith) (is.since number some (let e = ap length still in omega arith));
      first = λ last e same-key one.
          let h : block.header ≡ last = cc in
          let g = few (ap (λ (a : Header). a.number) h ∙ one) in
          let f = ap length still in
          omega arith;
      own = λ foreign. still ∙ is.own foreign;
    }

counted-same :
    (receiver : Receiver) (header : Header) (entries : List FlowEntry) (met : List Met) (block : BlockView) (now : ℕ)
    (flow : Flow)
    → same_key block.header header ≡ true → Facts receiver met block flow → IsCounted receiver header entries met
    → IsCounted receiver header (Given block now ∷ entries) (Arrived block now flow ∷ met)
counted-same receiver header entries met block now Part same facts is =
    go (next-number (open_blocks header met) block is.numbered
    (subst (λ (blocks : List BlockView). is_next (newest_header blocks) block.header ≡ true)
    (open-same block.header header met same) facts.1))
  where
    step : IsFollowing (open_blocks header met) block → IsNextNumber (open_blocks header met) block
        → IsCounted receiver header (Given block now ∷ entries) (Arrived block now Part ∷ met)
    step following (inl e) =
        counted-part receiver header entries met block now same
        (sym (foreign-same receiver block.header header same) ∙ facts.0) e is
    step following (inr only) = absurd (both_ways _ facts.2 (following.last only.0))

    go : IsFollowing (open_blocks header met) block
        → IsCounted receiver header (Given block now ∷ entries) (Arrived block now Part ∷ met)
    go following = step following following.number
counted-same receiver header entries met block now (Whole message check) same facts is =
    none-counted receiver header _ _
    (open-cut (part_of header) header (Arrived block now (Whole message check)) met (and_from _ _ same refl))
counted-same receiver header entries met block now Unexpected same facts is =
    none-counted receiver header _ _
    (open-cut (part_of header) header (Arrived block now Unexpected) met (and_from _ _ same refl))
counted-same receiver header entries met block now TooLong same facts is =
    none-counted receiver header _ _
    (open-cut (part_of header) header (Arrived block now TooLong) met (and_from _ _ same refl))
counted-same receiver header entries met block now (Foreign address) same facts is =
    none-counted receiver header _ _
    (open-other (part_of header) header (Arrived block now (Foreign address)) met (and_right _ _ refl)
    (part-none block _ (and_right _ _ refl))
    ∙ is.own (sym (foreign-same receiver block.header header same) ∙ facts))
counted-same receiver header entries met block now Crowded same facts is =
    none-counted receiver header _ _
    (open-other (part_of header) header (Arrived block now Crowded) met (and_right _ _ refl)
    (part-none block _ (and_right _ _ refl))
    ∙ sym (open-same block.header header met same) ∙ no-crowd (open_blocks block.header met) _ facts)
counted-same receiver header entries met block now Duplicate same facts is =
    counted-again receiver header entries met block now same (given-last (last_given met) block.header facts) is

counted-dropped :
    (receiver : Receiver) (header dropped : Header) (now : ℕ) (entries : List FlowEntry) (met : List Met) (t : Bool)
    → same_key dropped header ≡ t
    → IsCounted receiver header entries met
    → IsCounted receiver header (Dropped dropped now ∷ entries) (TimedOut dropped now ∷ met)
counted-dropped receiver header dropped now entries met true same is =
    none-counted receiver header _ _ (open-cut (part_of header) header (TimedOut dropped now) met same)
counted-dropped receiver header dropped now entries met false differ is =
    let still : open_blocks header (TimedOut dropped now ∷ met) ≡ open_blocks header met =
    open-other (part_of header) header (TimedOut dropped now) met differ refl in
    record {
      numbered = rw still is.numbered;
      since = λ number some less. is.since number some (let e = ap length still in omega arith);
      first = λ last e same one. let f = is.first last e same one in let g = ap length still in omega arith;
      own = λ foreign. still ∙ is.own foreign;
    }

counted : (receiver : Receiver) (header : Header) (entries : List FlowEntry)
    → IsCounted receiver header entries (met_of receiver entries)
counted receiver header [] = none-counted receiver header [] [] refl
counted receiver header (Given block now ∷ entries) =
    go (same_key block.header header) refl (counted receiver header entries)
  where
    go : (t : Bool) → same_key block.header header ≡ t → IsCounted receiver header entries (met_of receiver entries)
        → IsCounted receiver header (Given block now ∷ entries) (met_of receiver (Given block now ∷ entries))
    go true same is =
        let met = met_of receiver entries in
        counted-same receiver header entries met block now (flow_after receiver met block) same
        (facts receiver met block) is
    go false differ is =
        let met = met_of receiver entries in
        counted-other receiver header entries met block now (flow_after receiver met block) differ is
counted receiver header (Dropped dropped now ∷ entries) =
    counted-dropped receiver header dropped now entries (met_of receiver entries) (same_key dropped header) refl
    (counted receiver header entries)

-- ---- the law

whole-number :
    (receiver : Receiver) (before : List FlowEntry) (block : BlockView)
    → is_next (newest_header (open_blocks block.header (met_of receiver before))) block.header ≡ true
    → IsNextNumber (open_blocks block.header (met_of receiver before)) block
whole-number receiver before block next =
    (next-number (open_blocks block.header (met_of receiver before)) block
    (counted receiver block.header before).numbered next).number

each-given :
    (receiver : Receiver) (before : List FlowEntry) (block : BlockView) (now : ℕ) (number : ℕ) → 1 ≤ number
    → number ≤ block.header.number
    → IsNextNumber (open_blocks block.header (met_of receiver before)) block
    → is_given_since block.header number (Given block now ∷ before) ≡ true
each-given receiver before block now number some less (inl e) =
    since-next receiver block.header before (met_of receiver before) block now (counted receiver block.header before)
    (key-self block.header) e number some (omega arith)
each-given receiver before block now number some less (inr only) = absurd (let e = only.0 in omega arith)

whole-facts :
    (receiver : Receiver) (before : List FlowEntry) (block : BlockView) (whole : Message) (check : Checking)
    → flow_at receiver (reverse before) block ≡ Whole whole check
    → (is_next (newest_header (open_blocks block.header (met_of receiver before))) block.header ≡ true)
    × (block.header.last ≡ true)
whole-facts receiver before block whole check e =
    subst (Facts receiver (met_of receiver before) block) (sym (flow-back receiver before block) ∙ e)
    (facts receiver (met_of receiver before) block)

pub whole-numbered : WholeIsNumbered
whole-numbered = record {
  parts = λ receiver before header. (counted receiver header before).numbered;
  whole = λ receiver before block whole check e. whole-number receiver before block
      (whole-facts receiver before block whole check e).0;
}

pub left-out : LeftOutIsMissed
left-out = record {
  each_given = λ receiver before block now whole check e number some less.
      each-given receiver before block now number some less
      (whole-number receiver before block (whole-facts receiver before block whole check e).0);
  left_out = λ receiver before side device message number missed now some less lacks whole check e.
      let block = numbered_block side device message number in
      let facts = whole-facts receiver before block whole check e in
      let last = eqb-true number (block_count message) facts.1 in
      both_ways _ lacks
      (each-given receiver before block now missed some (omega arith) (whole-number receiver before block facts.0));
}
