-- What is kept agrees with what is looked back for.
use Rattle.std.proofs.Common.{◌≡◌, refl, sym, ◌∙◌, ap, subst, suc, take, Bool, true, false, not, cond, ◌&&◌, ℕ, ◌+◌, List, [], ◌∷◌, ◌++◌, length, filter, All, Option, Some, None, reverse}
use Rattle.std.specs.List.{before_first, cons_option, filter_map, find, position_or_len}
use Rattle.std.proofs.lemmas.List.{append-nil, reverse-append, reverse-reverse}
use Rattle.std.proofs.lemmas.List.Elements.{All-head, All-tail, All-weaker}
use Rattle.std.proofs.lemmas.List.Folds.{find-append}
use Rattle.std.proofs.lemmas.Bool.{and_from, and_left, and_right, not_from_false}
use Rattle.std.specs.Option.{option_or}
use Rattle.block_codec.specs.Block.{BlockView}
use Rattle.block_codec.specs.declared.header.Header.{Header}
use Rattle.message_flow.specs.declared.flow.Flow.{Flow}
use Rattle.message_flow.specs.declared.flow.Flow.TheVariants.{Part, Whole, Duplicate, Foreign, Unexpected, TooLong, Crowded}
use Rattle.message_flow.specs.declared.partial.Partial.{Partial}
use Rattle.message_flow.specs.Assembly.{body_so_far, check_so_far, flow_of, next_partial, has_key, header_so_far, with_part, new_partial, partials_after, without_key}
use Rattle.message_flow.specs.Deadlines.{deadline_of, moment_of, t4_end}
use Rattle.message_flow.specs.Entries.{FlowEntry, Kept, kept_after, next_kept}
use Rattle.message_flow.specs.Entries.FlowEntry.{Dropped, Given}
use Rattle.message_flow.specs.History.{Met, is_cut, is_end, first_of, first_part, flow_after, is_part, last_given, met_of, newest_header, open_blocks, open_firsts, part_of, text_check, text_of}
use Rattle.message_flow.specs.History.Met.{Arrived, TimedOut}
use Rattle.message_flow.specs.Key.{same_key}
use Rattle.message_flow.specs.Laws.{AreFirsts, deadline_so_far}
use Rattle.message_flow.specs.Receiver.{Receiver}
use Rattle.message_flow.proofs.Distinct.{AreDistinct, IsOther, distinct-next}
use Rattle.message_flow.proofs.Firsts.{one-more, removed, replace-first, replaced, without-first}
use Rattle.message_flow.proofs.Keys.{key-left, key-right, key-self, key-turned}
use Rattle.message_flow.proofs.Kept.{kept_push}
use Rattle.secs_items.specs.Checking.{check_of}

-- one entry more in front
before_first-cons :
    {X : Type 0} (test : X → Bool) (x : X) (xs : List X)
    → before_first test (x ∷ xs) ≡ cond (test x) [] (x ∷ before_first test xs)
before_first-cons test x xs =
    elim (test x) as (λ b. take (cond (not b) (1 + position_or_len test xs) 0) (x ∷ xs)
    ≡ cond b [] (x ∷ before_first test xs))
    [ true ↦ refl | false ↦ ap (λ n. take n (x ∷ xs)) (one-more (position_or_len test xs)) ]

-- what entries after the last cut of a key give: nothing where the newest is a cut of it
pub open-cut :
    {X : Type 0} (f : Met → Option X) (header : Header) (entry : Met) (met : List Met) → is_cut header entry ≡ true
    → filter_map f (before_first (is_cut header) (entry ∷ met)) ≡ []
open-cut f header entry met cut =
    ap (filter_map f) (before_first-cons (is_cut header) entry met
    ∙ ap (λ (b : Bool). cond b [] (entry ∷ before_first (is_cut header) met)) cut)

-- and else what the newest gives in front of the others
pub open-uncut :
    {X : Type 0} (f : Met → Option X) (header : Header) (entry : Met) (met : List Met) → is_cut header entry ≡ false
    → filter_map f (before_first (is_cut header) (entry ∷ met))
    ≡ cons_option (f entry) (filter_map f (before_first (is_cut header) met))
open-uncut f header entry met uncut =
    ap (filter_map f) (before_first-cons (is_cut header) entry met
    ∙ ap (λ (b : Bool). cond b [] (entry ∷ before_first (is_cut header) met)) uncut)

-- for a key: the header of its last block, its text so far with its check, and when T4 runs out on it
pub record IsSoFar (found : Option Partial) (blocks : List BlockView) (deadline : Option ℕ) : Type 0 where
  pub header : header_so_far found ≡ newest_header blocks
  pub body : body_so_far found ≡ text_of blocks
  pub check : check_so_far found ≡ text_check blocks
  pub deadline_is : deadline_so_far found ≡ deadline

pub record Agrees (receiver : Receiver) (kept : Kept) (met : List Met) : Type 0 where
  pub last : kept.last ≡ last_given met
  pub each : (header : Header)
      → IsSoFar (find (has_key header) kept.partials) (open_blocks header met) (deadline_of receiver header met)
  pub firsts : AreFirsts kept.partials (open_firsts met)
  pub distinct : AreDistinct kept.partials

pub firsts-length : (partials : List Partial) (headers : List Header) → AreFirsts partials headers
    → length partials ≡ length headers
firsts-length [] [] are = refl
firsts-length [] (header ∷ headers) are = absurd are
firsts-length (partial ∷ partials) [] are = absurd are
firsts-length (partial ∷ partials) (header ∷ headers) are = ap suc (firsts-length partials headers are.1)

pub flow-same :
    (receiver : Receiver) (kept : Kept) (met : List Met) (block : BlockView) → Agrees receiver kept met
    → flow_of receiver kept.last kept.partials block ≡ flow_after receiver met block
flow-same receiver kept met block agrees =
    rw (
      agrees.last,
      (agrees.each block.header).header,
      (agrees.each block.header).body,
      firsts-length kept.partials
          (open_firsts met) agrees.firsts,
    ) refl

-- ---- what is found of a key after a change of the kept messages

find-without-other :
    (header other : Header) (partials : List Partial) → same_key header other ≡ false
    → find (has_key other) (without-first (has_key header) partials) ≡ find (has_key other) partials
find-without-other header other [] differ = refl
find-without-other header other (partial ∷ rest) differ =
    go (same_key partial.header header) refl (find-without-other header other rest differ)
  where
    go : (b : Bool) → same_key partial.header header ≡ b
        → find (has_key other) (without-first (has_key header) rest) ≡ find (has_key other) rest
        → find (has_key other) (cond b rest (partial ∷ without-first (has_key header) rest))
        ≡ cond (same_key partial.header other) (Some partial) (find (has_key other) rest)
    go true is next =
        let no : same_key partial.header other ≡ false = key-left partial.header header other is ∙ differ in
        rw no refl
    go false is next = ap (λ (found : Option Partial). cond (same_key partial.header other) (Some partial) found) next

-- where all are other than a header, none has its key
find-among-others : (partial : Partial) (header : Header) (rest : List Partial) → same_key partial.header header ≡ true
    → All (IsOther partial) rest → find (has_key header) rest ≡ None
find-among-others partial header [] is all = refl
find-among-others partial header (other ∷ rest) is all =
    let differ : same_key partial.header other.header ≡ false = All-head (IsOther partial) other rest all in
    let turned : same_key other.header header ≡ false =
    key-turned partial.header other.header header is differ in
    rw turned (find-among-others partial header rest is (All-tail (IsOther partial) other rest all))

find-without-same :
    (header other : Header) (partials : List Partial) → same_key header other ≡ true → AreDistinct partials
    → find (has_key other) (without-first (has_key header) partials) ≡ None
find-without-same header other [] same are = refl
find-without-same header other (partial ∷ rest) same are =
    go (same_key partial.header header) refl (find-without-same header other rest same are.1)
  where
    go : (b : Bool) → same_key partial.header header ≡ b
        → find (has_key other) (without-first (has_key header) rest) ≡ None
        → find (has_key other) (cond b rest (partial ∷ without-first (has_key header) rest)) ≡ None
    go true is next =
        find-among-others partial other rest (sym (key-right partial.header header other same) ∙ is) are.0
    go false is next =
        let no : same_key partial.header other ≡ false = sym (key-right partial.header header other same) ∙ is in
        rw no next

find-replace-same :
    (added : Partial) (other : Header) (partials : List Partial) (found : Partial) → same_key added.header other ≡ true
    → find (has_key added.header) partials ≡ Some found
    → find (has_key other) (replace-first (has_key added.header) added partials) ≡ Some added
find-replace-same added other [] found same is = absurd (cc)
find-replace-same added other (partial ∷ rest) found same is =
    go (same_key partial.header added.header) refl (find-replace-same added other rest found same) is
  where
    go : (b : Bool) → same_key partial.header added.header ≡ b
        → (find (has_key added.header) rest ≡ Some found
        → find (has_key other) (replace-first (has_key added.header) added rest) ≡ Some added)
        → cond b (Some partial) (find (has_key added.header) rest) ≡ Some found
        → find (has_key other) (cond b (added ∷ rest) (partial ∷ replace-first (has_key added.header) added rest))
        ≡ Some added
    go true key next is = rw same refl
    go false key next is =
        let no : same_key partial.header other ≡ false = sym (key-right partial.header added.header other same) ∙ key in
        rw no (next is)

find-replace-other :
    (added : Partial) (other : Header) (partials : List Partial) → same_key added.header other ≡ false
    → find (has_key other) (replace-first (has_key added.header) added partials) ≡ find (has_key other) partials
find-replace-other added other [] differ = refl
find-replace-other added other (partial ∷ rest) differ =
    go (same_key partial.header added.header) refl (find-replace-other added other rest differ)
  where
    go : (b : Bool) → same_key partial.header added.header ≡ b
        → find (has_key other) (replace-first (has_key added.header) added rest) ≡ find (has_key other) rest
        → find (has_key other) (cond b (added ∷ rest) (partial ∷ replace-first (has_key added.header) added rest))
        ≡ cond (same_key partial.header other) (Some partial) (find (has_key other) rest)
    go true is next =
        let no : same_key partial.header other ≡ false = key-left partial.header added.header other is ∙ differ in
        rw (differ, no) refl
    go false is next = ap (λ (found : Option Partial). cond (same_key partial.header other) (Some partial) found) next

find-push :
    (added : Partial) (other : Header) (partials : List Partial)
    → find (has_key other) (partials ++ added ∷ [])
    ≡ option_or (find (has_key other) partials) (cond (same_key added.header other) (Some added) None)
find-push added other partials = find-append (has_key other) partials (added ∷ [])

pub find-same-key : (header other : Header) (partials : List Partial) → same_key header other ≡ true
    → find (has_key other) partials ≡ find (has_key header) partials
find-same-key header other [] same = refl
find-same-key header other (partial ∷ rest) same =
    rw (key-right partial.header header other same, find-same-key header other rest same) refl

option_or-none : (found : Option Partial) → option_or found None ≡ found
option_or-none None = refl
option_or-none (Some partial) = refl

-- ---- one key, one entry more

so-far-as :
    (found other : Option Partial) (blocks others : List BlockView) (deadline same : Option ℕ)
    → IsSoFar found blocks deadline
    → other ≡ found → others ≡ blocks → same ≡ deadline → IsSoFar other others same
so-far-as found other blocks others deadline same is e f g = rw (e, f, g) is

-- an entry that is no cut of the key and gives nothing
pub open-other :
    {X : Type 0} (f : Met → Option X) (header : Header) (entry : Met) (met : List Met) → is_cut header entry ≡ false
    → f entry ≡ None
    → filter_map f (before_first (is_cut header) (entry ∷ met)) ≡ filter_map f (before_first (is_cut header) met)
open-other {X} f header entry met uncut none =
    open-uncut f header entry met uncut
    ∙ ap (λ (x : Option X). cons_option x (filter_map f (before_first (is_cut header) met))) none

pub part-none : {X : Type 0} (x : X) (t : Bool) → t ≡ false → cond t (Some x) None ≡ None
part-none x t e = rw e refl

pub part-some : {X : Type 0} (x : X) (t : Bool) → t ≡ true → cond t (Some x) None ≡ Some x
part-some x t e = rw e refl

each-passed :
    (receiver : Receiver) (kept : Kept) (met : List Met) (block : BlockView) (now : ℕ) (flow : Flow) (header : Header)
    → Agrees receiver kept met → is_end flow ≡ false → is_part flow ≡ false
    → IsSoFar (find (has_key header) kept.partials) (open_blocks header (Arrived block now flow ∷ met))
    (deadline_of receiver header (Arrived block now flow ∷ met))
each-passed receiver kept met block now flow header agrees ends part =
    so-far-as _ _ _ _ _ _ (agrees.each header) refl
    (open-other (part_of header) header (Arrived block now flow) met (and_right _ _ ends)
    (part-none block _ (and_right _ _ part)))
    (ap (t4_end receiver)
    (open-other (moment_of header) header (Arrived block now flow) met (and_right _ _ ends)
    (part-none now _ (and_right _ _ part))))

each-cut :
    (receiver : Receiver) (kept : Kept) (met : List Met) (entry : Met) (key header : Header) (t : Bool)
    → Agrees receiver kept met
    → same_key key header ≡ t → is_cut header entry ≡ t → part_of header entry ≡ None → moment_of header entry ≡ None
    → IsSoFar (find (has_key header) (without_key key kept.partials)) (open_blocks header (entry ∷ met))
    (deadline_of receiver header (entry ∷ met))
each-cut receiver kept met entry key header true agrees same cut none never =
    so-far-as None _ [] _ None _ (record { header = refl; body = refl; check = refl; deadline_is = refl })
    (ap (find (has_key header)) (removed (has_key key) kept.partials)
    ∙ find-without-same key header kept.partials same agrees.distinct)
    (open-cut (part_of header) header entry met cut)
    (ap (t4_end receiver) (open-cut (moment_of header) header entry met cut))
each-cut receiver kept met entry key header false agrees same cut none never =
    so-far-as _ _ _ _ _ _ (agrees.each header)
    (ap (find (has_key header)) (removed (has_key key) kept.partials)
    ∙ find-without-other key header kept.partials same)
    (open-other (part_of header) header entry met cut none)
    (ap (t4_end receiver) (open-other (moment_of header) header entry met cut never))

and-true-right : (t b : Bool) → b ≡ true → t && b ≡ t
and-true-right true b e = e
and-true-right false b e = refl

each-ended :
    (receiver : Receiver) (kept : Kept) (met : List Met) (block : BlockView) (now : ℕ) (flow : Flow) (header : Header)
    → Agrees receiver kept met → is_end flow ≡ true → is_part flow ≡ false
    → IsSoFar (find (has_key header) (without_key block.header kept.partials))
    (open_blocks header (Arrived block now flow ∷ met))
    (deadline_of receiver header (Arrived block now flow ∷ met))
each-ended receiver kept met block now flow header agrees ends part =
    each-cut receiver kept met (Arrived block now flow) block.header header (same_key block.header header) agrees refl
    (and-true-right _ _ ends) (part-none block _ (and_right _ _ part)) (part-none now _ (and_right _ _ part))

-- what is found of a key after a part: the part's message where it has the key
find-joined-other :
    (partials : List Partial) (block : BlockView) (deadline : ℕ) (header : Header) (found : Option Partial)
    → same_key block.header header ≡ false
    → find (has_key header) (with_part found partials block deadline) ≡ find (has_key header) partials
find-joined-other partials block deadline header None differ =
    find-push (new_partial block deadline) header partials
    ∙ ap (λ (b : Bool). option_or (find (has_key header) partials)
    (cond b (Some (new_partial block deadline)) None)) differ
    ∙ option_or-none (find (has_key header) partials)
find-joined-other partials block deadline header (Some found) differ =
    ap (find (has_key header)) (replaced (has_key block.header) (next_partial found block deadline) partials)
    ∙ find-replace-other (next_partial found block deadline) header partials differ

part-so-far :
    (partials : List Partial) (block : BlockView) (deadline : ℕ) (header : Header) (found : Option Partial)
    (blocks : List BlockView)
    (before : Option ℕ) → find (has_key block.header) partials ≡ found → same_key block.header header ≡ true
    → IsSoFar (find (has_key header) partials) blocks before
    → IsSoFar (find (has_key header) (with_part found partials block deadline)) (block ∷ blocks) (Some deadline)
part-so-far partials block deadline header None blocks before is same so_far =
    let e : find (has_key header) partials ≡ None = find-same-key block.header header partials same ∙ is in
    let text : [] ≡ text_of blocks = sym (ap body_so_far e) ∙ so_far.body in
    let there : find (has_key header) (partials ++ new_partial block deadline ∷ [])
    ≡ Some (new_partial block deadline) =
    find-push (new_partial block deadline) header partials ∙ rw (e, same) refl in
    rw there (record {
      header = refl;
      body = ap (λ (bytes : List ℕ). bytes ++ block.body) text;
      check = ap (λ (bytes : List ℕ). Some (check_of (bytes ++ block.body))) text;
      deadline_is = refl;
    })
part-so-far partials block deadline header (Some found) blocks before is same so_far =
    let e : find (has_key header) partials ≡ Some found = find-same-key block.header header partials same ∙ is in
    let text : found.body ≡ text_of blocks = sym (ap body_so_far e) ∙ so_far.body in
    let there : find (has_key header) (with_part (Some found) partials block deadline)
    ≡ Some (next_partial found block deadline) =
    ap (find (has_key header)) (replaced (has_key block.header) (next_partial found block deadline) partials)
    ∙ find-replace-same (next_partial found block deadline) header partials found same is in
    rw there (record {
      header = refl;
      body = ap (λ (bytes : List ℕ). bytes ++ block.body) text;
      check = ap (λ (bytes : List ℕ). Some (check_of (bytes ++ block.body))) text;
      deadline_is = refl;
    })

-- what a part gives, in front of what the entries before it give
pub open-part :
    {X : Type 0} (f : Met → Option X) (x : X) (header : Header) (block : BlockView) (now : ℕ) (met : List Met)
    → f (Arrived block now Part) ≡ Some x
    → filter_map f (before_first (is_cut header) (Arrived block now Part ∷ met))
    ≡ x ∷ filter_map f (before_first (is_cut header) met)
open-part {X} f x header block now met e =
    open-uncut f header (Arrived block now Part) met (and_right _ _ refl)
    ∙ ap (λ (y : Option X). cons_option y (filter_map f (before_first (is_cut header) met))) e

each-part :
    (receiver : Receiver) (kept : Kept) (met : List Met) (block : BlockView) (now : ℕ) (header : Header) (t : Bool)
    → Agrees receiver kept met → same_key block.header header ≡ t
    → IsSoFar (find (has_key header)
    (with_part (find (has_key block.header) kept.partials) kept.partials block (now + receiver.t4)))
    (open_blocks header (Arrived block now Part ∷ met)) (deadline_of receiver header (Arrived block now Part ∷ met))
each-part receiver kept met block now header true agrees same =
    so-far-as _ _ _ _ _ _
    (part-so-far kept.partials block (now + receiver.t4) header _ (open_blocks header met) _ refl same
    (agrees.each header)) refl
    (open-part (part_of header) block header block now met (part-some block _ (and_from _ _ same refl)))
    (ap (t4_end receiver)
    (open-part (moment_of header) now header block now met (part-some now _ (and_from _ _ same refl))))
each-part receiver kept met block now header false agrees differ =
    so-far-as _ _ _ _ _ _ (agrees.each header)
    (find-joined-other kept.partials block (now + receiver.t4) header
    (find (has_key block.header) kept.partials) differ)
    (open-other (part_of header) header (Arrived block now Part) met (and_right _ _ refl)
    (part-none block _ (and_left _ _ differ)))
    (ap (t4_end receiver)
    (open-other (moment_of header) header (Arrived block now Part) met (and_right _ _ refl)
    (part-none now _ (and_left _ _ differ))))

-- ---- the first blocks, one entry more

filter-all : (test : Header → Bool) (headers : List Header) → ((header : Header) → test header ≡ true)
    → filter test headers ≡ headers
filter-all test [] all = refl
filter-all test (header ∷ headers) all =
    rw (all header) (ap (λ (hs : List Header). header ∷ hs) (filter-all test headers all))

firsts-passed :
    (receiver : Receiver) (kept : Kept) (met : List Met) (block : BlockView) (now : ℕ) (flow : Flow)
    → Agrees receiver kept met
    → is_end flow ≡ false → is_part flow ≡ false
    → open_firsts (Arrived block now flow ∷ met) ≡ open_firsts met
firsts-passed receiver kept met block now flow agrees ends part =
    let kept_all : filter (λ first. not (is_cut first (Arrived block now flow))) (open_firsts met) ≡ open_firsts met =
    filter-all _ _ (λ header. not_from_false _ (and_right _ _ ends)) in
    rw (kept_all, part) (append-nil (open_firsts met))

firsts-push :
    (partials : List Partial) (headers : List Header) (added : Partial) (header : Header) → AreFirsts partials headers
    → same_key added.header header ≡ true → AreFirsts (partials ++ added ∷ []) (headers ++ header ∷ [])
firsts-push [] [] added header are same = (same, tt)
firsts-push [] (other ∷ headers) added header are same = absurd are
firsts-push (partial ∷ partials) [] added header are same = absurd are
firsts-push (partial ∷ partials) (other ∷ headers) added header are same =
    (are.0, firsts-push partials headers added header are.1 same)

firsts-replace :
    (added : Partial) (partials : List Partial) (headers : List Header) → AreFirsts partials headers
    → AreFirsts (replace-first (has_key added.header) added partials) headers
firsts-replace added [] headers are = are
firsts-replace added (partial ∷ partials) [] are = absurd are
firsts-replace added (partial ∷ partials) (header ∷ headers) are =
    go (same_key partial.header added.header) refl (firsts-replace added partials headers are.1)
  where
    go : (b : Bool) → same_key partial.header added.header ≡ b
        → AreFirsts (replace-first (has_key added.header) added partials) headers
        → AreFirsts (cond b (added ∷ partials) (partial ∷ replace-first (has_key added.header) added partials))
        (header ∷ headers)
    go true is next = (sym (key-left partial.header added.header header is) ∙ are.0, are.1)
    go false is next = (are.0, next)

-- a cut of a key that no message has keeps all
filter-others :
    (key : Header) (partials : List Partial) (headers : List Header) → AreFirsts partials headers
    → All (λ partial. same_key key partial.header ≡ false) partials
    → filter (λ first. not (same_key key first)) headers ≡ headers
filter-others key [] [] are all = refl
filter-others key [] (header ∷ headers) are all = absurd are
filter-others key (partial ∷ partials) [] are all = absurd are
filter-others key (partial ∷ partials) (header ∷ headers) are all =
    let differ : same_key key header ≡ false =
    sym (key-right key partial.header header are.0)
    ∙ All-head (λ (p : Partial). same_key key p.header ≡ false) partial partials all in
    rw differ (ap (λ (hs : List Header). header ∷ hs)
    (filter-others key partials headers are.1
    (All-tail (λ (p : Partial). same_key key p.header ≡ false) partial partials all)))

firsts-cut :
    (key : Header) (partials : List Partial) (headers : List Header) → AreFirsts partials headers → AreDistinct partials
    → AreFirsts (without-first (has_key key) partials) (filter (λ first. not (same_key key first)) headers)
firsts-cut key [] [] are distinct = tt
firsts-cut key [] (header ∷ headers) are distinct = absurd are
firsts-cut key (partial ∷ partials) [] are distinct = absurd are
firsts-cut key (partial ∷ partials) (header ∷ headers) are distinct =
    go (same_key partial.header key) refl (firsts-cut key partials headers are.1 distinct.1)
  where
    go : (b : Bool) → same_key partial.header key ≡ b
        → AreFirsts (without-first (has_key key) partials) (filter (λ first. not (same_key key first)) headers)
        → AreFirsts (cond b partials (partial ∷ without-first (has_key key) partials))
        (cond (not (same_key key header)) (header ∷ filter (λ first. not (same_key key first)) headers)
        (filter (λ first. not (same_key key first)) headers))
    go true is next =
        let same : same_key key header ≡ true = sym (key-left partial.header key header is) ∙ are.0 in
        let others : All (λ (p : Partial). same_key key p.header ≡ false) partials =
        All-weaker (IsOther partial) (λ (p : Partial). same_key key p.header ≡ false)
        (λ p other. sym (key-left partial.header key p.header is) ∙ other) partials distinct.0 in
        rw (same, filter-others key partials headers are.1 others) are.1
    go false is next =
        let differ : same_key key header ≡ false = key-turned partial.header key header are.0 is in
        rw differ (are.0, next)

filter-same : (test other : Header → Bool) (headers : List Header) → ((header : Header) → test header ≡ other header)
    → filter test headers ≡ filter other headers
filter-same test other [] same = refl
filter-same test other (header ∷ headers) same = rw (same header, filter-same test other headers same) refl

firsts-ended :
    (receiver : Receiver) (kept : Kept) (met : List Met) (entry : Met) (key : Header) → Agrees receiver kept met
    → ((header : Header) → is_cut header entry ≡ same_key key header) → first_of entry met ≡ []
    → AreFirsts (without_key key kept.partials) (open_firsts (entry ∷ met))
firsts-ended receiver kept met entry key agrees cut none =
    let e : open_firsts (entry ∷ met) ≡ filter (λ first. not (same_key key first)) (open_firsts met) =
    ap (λ (hs : List Header). filter (λ first. not (is_cut first entry)) (open_firsts met) ++ hs) none
    ∙ append-nil _ ∙ filter-same _ _ (open_firsts met) (λ header. ap not (cut header)) in
    rw (e, removed (has_key key) kept.partials)
    (firsts-cut key kept.partials (open_firsts met) agrees.firsts agrees.distinct)

firsts-joined :
    (receiver : Receiver) (kept : Kept) (met : List Met) (block : BlockView) (deadline : ℕ) (found : Option Partial)
    (blocks : List BlockView) → Agrees receiver kept met
    → header_so_far found ≡ newest_header blocks
    → AreFirsts (with_part found kept.partials block deadline) (open_firsts met ++ first_part true block.header blocks)
firsts-joined receiver kept met block deadline None [] agrees e =
    firsts-push kept.partials (open_firsts met) (new_partial block deadline) block.header agrees.firsts
    (key-self block.header)
firsts-joined receiver kept met block deadline None (before ∷ blocks) agrees e = absurd (cc)
firsts-joined receiver kept met block deadline (Some found) [] agrees e = absurd (cc)
firsts-joined receiver kept met block deadline (Some found) (before ∷ blocks) agrees e =
    rw (append-nil (open_firsts met), replaced (has_key block.header) (next_partial found block deadline) kept.partials)
    (firsts-replace (next_partial found block deadline) kept.partials (open_firsts met) agrees.firsts)

firsts-part :
    (receiver : Receiver) (kept : Kept) (met : List Met) (block : BlockView) (now deadline : ℕ)
    → Agrees receiver kept met
    → AreFirsts (with_part (find (has_key block.header) kept.partials) kept.partials block deadline)
    (open_firsts (Arrived block now Part ∷ met))
firsts-part receiver kept met block now deadline agrees =
    let kept_all : filter (λ first. not (is_cut first (Arrived block now Part))) (open_firsts met) ≡ open_firsts met =
    filter-all _ _ (λ header. not_from_false _ (and_right _ _ refl)) in
    rw kept_all
    (firsts-joined receiver kept met block deadline (find (has_key block.header) kept.partials)
    (open_blocks block.header met) agrees
    (agrees.each block.header).header)

-- ---- all of it, one entry more

agrees-flow :
    (receiver : Receiver) (kept : Kept) (met : List Met) (block : BlockView) (now : ℕ) (flow : Flow)
    → Agrees receiver kept met
    → AreDistinct (partials_after kept.partials block (now + receiver.t4) flow)
    → Agrees receiver (record {
      last = Some block.header;
      partials =
          partials_after kept.partials block (now + receiver.t4) flow;
    }) (Arrived block now flow ∷ met)
agrees-flow receiver kept met block now Part agrees distinct = record {
  last = refl;
  each = λ header. each-part receiver kept met block now header (same_key block.header header) agrees refl;
  firsts = firsts-part receiver kept met block now (now + receiver.t4) agrees;
  distinct = distinct;
}
agrees-flow receiver kept met block now (Whole message check) agrees distinct = record {
  last = refl;
  each = λ header. each-ended receiver kept met block now (Whole message check) header agrees refl refl;
  firsts = firsts-ended receiver kept met (Arrived block now (Whole message check)) block.header agrees
      (λ header. and-true-right _ _ refl) refl;
  distinct = distinct;
}
agrees-flow receiver kept met block now Unexpected agrees distinct = record {
  last = refl;
  each = λ header. each-ended receiver kept met block now Unexpected header agrees refl refl;
  firsts = firsts-ended receiver kept met (Arrived block now Unexpected) block.header agrees
      (λ header. and-true-right _ _ refl) refl;
  distinct = distinct;
}
agrees-flow receiver kept met block now TooLong agrees distinct = record {
  last = refl;
  each = λ header. each-ended receiver kept met block now TooLong header agrees refl refl;
  firsts = firsts-ended receiver kept met (Arrived block now TooLong) block.header agrees
      (λ header. and-true-right _ _ refl) refl;
  distinct = distinct;
}
agrees-flow receiver kept met block now Duplicate agrees distinct = record {
  last = refl;
  each = λ header. each-passed receiver kept met block now Duplicate header agrees refl refl;
  firsts = rw (firsts-passed receiver kept met block now Duplicate agrees refl refl) agrees.firsts;
  distinct = distinct;
}
agrees-flow receiver kept met block now (Foreign address) agrees distinct = record {
  last = refl;
  each = λ header. each-passed receiver kept met block now (Foreign address) header agrees refl refl;
  firsts = rw (firsts-passed receiver kept met block now (Foreign address) agrees refl refl) agrees.firsts;
  distinct = distinct;
}
agrees-flow receiver kept met block now Crowded agrees distinct = record {
  last = refl;
  each = λ header. each-passed receiver kept met block now Crowded header agrees refl refl;
  firsts = rw (firsts-passed receiver kept met block now Crowded agrees refl refl) agrees.firsts;
  distinct = distinct;
}

agrees-next :
    (receiver : Receiver) (kept : Kept) (before : List FlowEntry) (entry : FlowEntry)
    → Agrees receiver kept (met_of receiver before)
    → Agrees receiver (next_kept receiver kept entry) (met_of receiver (entry ∷ before))
agrees-next receiver kept before (Given block now) agrees =
    let met = met_of receiver before in
    rw (flow-same receiver kept met block agrees)
    (agrees-flow receiver kept met block now (flow_after receiver met block) agrees
    (rw (← flow-same receiver kept met block agrees) (distinct-next receiver kept (Given block now) agrees.distinct)))
agrees-next receiver kept before (Dropped header now) agrees =
    let met = met_of receiver before in
    record {
      last = agrees.last;
      each = λ other. each-cut receiver kept met (TimedOut header now) header other
          (same_key header other) agrees refl refl refl refl;
      firsts = firsts-ended receiver kept met (TimedOut header now) header agrees (λ other. refl) refl;
      distinct = distinct-next receiver kept (Dropped header now) agrees.distinct;
    }

agrees-start : (receiver : Receiver) → Agrees receiver (record { last = None; partials = [] }) []
agrees-start receiver = record {
  last = refl;
  each = λ header. record { header = refl; body = refl; check = refl; deadline_is = refl };
  firsts = tt;
  distinct = tt;
}

-- after each list of entries, the newest first
agrees-back : (receiver : Receiver) (entries : List FlowEntry)
    → Agrees receiver (kept_after receiver (reverse entries)) (met_of receiver entries)
agrees-back receiver [] = agrees-start receiver
agrees-back receiver (entry ∷ before) =
    let e : kept_after receiver (reverse (entry ∷ before))
    ≡ next_kept receiver (kept_after receiver (reverse before)) entry =
    ap (kept_after receiver) (reverse-append (entry ∷ []) before) ∙ kept_push receiver (reverse before) entry in
    rw e (agrees-next receiver (kept_after receiver (reverse before)) before entry (agrees-back receiver before))

pub agrees-after : (receiver : Receiver) (entries : List FlowEntry)
    → Agrees receiver (kept_after receiver entries) (met_of receiver (reverse entries))
agrees-after receiver entries =
    subst (λ (es : List FlowEntry). Agrees receiver (kept_after receiver es) (met_of receiver (reverse entries)))
    (reverse-reverse entries)
    (agrees-back receiver (reverse entries))
