-- What a check of bytes says: what reading would find from a point on changes with one byte more only as the point does.
use Rattle.std.proofs.Common.{◌≡◌, ℕ, zero, suc, ◌+◌, ◌-◌, ◌*◌, ◌%◌, ◌<◌, Bool, true, false, not, cond, eqb, ltb, ◌&&◌, List, [], ◌∷◌, ◌++◌, length, take, drop, Some, Result, Ok, Err, refl, sym, ap, subst, ◌∙◌, arith}
use Rattle.std.specs.List.{fold}
use Rattle.std.proofs.lemmas.Bool.{ne_eqb}
use Rattle.std.proofs.lemmas.Bool.Decides.{nat_tests}
use Rattle.std.proofs.lemmas.List.Sums.{fold-append}
use Rattle.secs_items.specs.declared.item_fault.ItemFault.{ItemFault}
use Rattle.secs_items.specs.declared.item_fault.ItemFault.TheVariants as fault
use Rattle.secs_items.specs.declared.kind.Kind.{Kind}
use Rattle.secs_items.specs.declared.point.Point.{Point}
use Rattle.secs_items.specs.declared.point.Point.TheVariants as point
use Rattle.secs_items.specs.declared.verdict.Verdict.TheVariants as verdict
use Rattle.secs_items.specs.Checking.{Checking, before_lengths, behind_format, behind_head, behind_item, behind_leaf, check_of, fault_now, fed_with, step_at, unfed, verdict_by, verdict_now, verdict_of, with_byte}
use Rattle.secs_items.specs.Kinds.{is_list, unit_of}
use Rattle.secs_items.specs.Limits.{max_depth}
use Rattle.secs_items.specs.Reading.{◌>>=◌, Head, after_content, after_each, after_item, fault_after, first_fault, format_at, head_at, size_at}
use Rattle.secs_items.proofs.HeadLaws.{format_takes}
use Rattle.secs_items.proofs.ItemSteps.{after_no_head}

abbrev Skipper : Type 0
Skipper = List ℕ → Result (List ℕ) ItemFault

bind_bind : {A B C : Type 0} (r : Result A ItemFault) (f : A → Result B ItemFault) (g : B → Result C ItemFault)
    → ((r >>= f) >>= g) ≡ (r >>= λ x. f x >>= g)
bind_bind (Ok x) f g = refl
bind_bind (Err e) f g = refl

bind_ok : {A : Type 0} (r : Result A ItemFault) → (r >>= λ x. Ok x) ≡ r
bind_ok (Ok x) = refl
bind_ok (Err e) = refl

-- ---- what reading would find from a point on

-- behind an item
abbrev behind : ℕ → List ℕ → Skipper
behind total [] bytes = Ok bytes
behind total (more ∷ lists) bytes =
    after_each (after_item total (max_depth - suc (length lists))) more bytes >>= behind total lists

-- behind a head
abbrev from_head : ℕ → List ℕ → Head → Result (List ℕ) ItemFault
from_head total lists h = after_content (after_item total (max_depth - suc (length lists))) h >>= behind total lists

-- a head of so many length bytes, which has this length in these bytes
abbrev head_by : ℕ → ℕ → Kind → ℕ → List ℕ → Bool → Result Head ItemFault
head_by total at kind size rest short =
    cond short (Err (fault.Short total)) (cond (not (eqb (size % unit_of kind) 0)) (Err (fault.Uneven at)) (cond (not (is_list kind) && ltb (length rest) size) (Err (fault.Short total)) (Ok (record { kind = kind; size = size; rest = rest }))))

-- the head whose last so many length bytes stand at the front, with the number of those before them
abbrev sized : ℕ → ℕ → Kind → ℕ → ℕ → List ℕ → Result Head ItemFault
sized total at kind count size bytes =
    head_by total at kind (fold (λ n byte. 256 * n + byte) size (take count bytes)) (drop count bytes) (ltb (length bytes) count)

abbrev reads : ℕ → List ℕ → Point → Skipper
reads total lists point.Format bytes = after_item total (max_depth - length lists) bytes >>= behind total lists
reads total lists (point.Three at kind) bytes = sized total at kind 3 0 bytes >>= from_head total lists
reads total lists (point.Two at kind high) bytes = sized total at kind 2 high bytes >>= from_head total lists
reads total lists (point.One at kind high) bytes = sized total at kind 1 high bytes >>= from_head total lists
reads total lists (point.Content more) bytes =
    cond (ltb (length bytes) (suc more)) (Err (fault.Short total)) (behind total lists (drop (suc more) bytes))
reads total lists point.Whole bytes = Ok bytes
reads total lists (point.Broken e) bytes = Err e

abbrev reads_on : ℕ → Checking → Skipper
reads_on total c = reads total c.lists c.point

-- ---- behind an item

behind_is : (total fed : ℕ) (lists rest : List ℕ) → behind total lists rest ≡ reads_on total (behind_item fed lists) rest
behind_is total fed [] rest = refl
behind_is total fed (zero ∷ lists) rest = behind_is total fed lists rest
behind_is total fed (suc more ∷ lists) rest =
    bind_bind (after_item total (max_depth - suc (length lists)) rest) (after_each (after_item total (max_depth - suc (length lists))) more) (behind total lists)

-- ---- length bytes

lt_suc : (a b : ℕ) → ltb (suc a) (suc b) ≡ ltb a b
lt_suc a b = grind (arith, nat_tests)

sized_one : (total at : ℕ) (kind : Kind) (count size byte : ℕ) (rest : List ℕ)
    → sized total at kind (suc count) size (byte ∷ rest) ≡ sized total at kind count (256 * size + byte) rest
sized_one total at kind count size byte rest =
    ap (head_by total at kind (fold (λ n byte. 256 * n + byte) (256 * size + byte) (take count rest)) (drop count rest)) (lt_suc (length rest) count)

lt_zero : (a : ℕ) → ltb a 0 ≡ false
lt_zero a = grind (arith, nat_tests)

sized_none : (total at : ℕ) (kind : Kind) (size : ℕ) (rest : List ℕ) → sized total at kind 0 size rest ≡ head_by total at kind size rest false
sized_none total at kind size rest = ap (head_by total at kind size rest) (lt_zero (length rest))

leaf_is : (total fed at : ℕ) (lists : List ℕ) (kind : Kind) (size : ℕ) (rest : List ℕ) (short : Bool) → ltb (length rest) size ≡ short
    → (cond short (Err (fault.Short total)) (Ok (drop size rest)) >>= behind total lists) ≡ reads_on total (behind_leaf fed lists size) rest
leaf_is total fed at lists kind zero rest true e = absurd (cc (e, lt_zero (length rest)))
leaf_is total fed at lists kind zero rest false e = behind_is total fed lists rest
leaf_is total fed at lists kind (suc more) rest true e = rw e refl
leaf_is total fed at lists kind (suc more) rest false e = rw e refl

content_list : (after : Skipper) (h : Head) → is_list h.kind ≡ true → after_content after h ≡ after_each after h.size h.rest
content_list after h listed = rw listed refl

content_leaf : (after : Skipper) (h : Head) → is_list h.kind ≡ false → after_content after h ≡ Ok (drop h.size h.rest)
content_leaf after h leaf = rw leaf refl

list_behind : (total : ℕ) (lists : List ℕ) (h : Head) → is_list h.kind ≡ true → from_head total lists h ≡ behind total (h.size ∷ lists) h.rest
list_behind total lists h listed =
    ap (λ (r : Result (List ℕ) ItemFault). r >>= behind total lists) (content_list (after_item total (max_depth - suc (length lists))) h listed)

leaf_behind : (total : ℕ) (lists : List ℕ) (h : Head) → is_list h.kind ≡ false → from_head total lists h ≡ behind total lists (drop h.size h.rest)
leaf_behind total lists h leaf =
    ap (λ (r : Result (List ℕ) ItemFault). r >>= behind total lists) (content_leaf (after_item total (max_depth - suc (length lists))) h leaf)

-- by whether the length is uneven, and whether it is a list's
head_cases : (total fed at : ℕ) (lists : List ℕ) (kind : Kind) (size : ℕ) (rest : List ℕ) (odd listed : Bool)
    → not (eqb (size % unit_of kind) 0) ≡ odd → is_list kind ≡ listed
    → (head_by total at kind size rest false >>= from_head total lists) ≡ reads_on total (behind_head fed lists at kind size) rest
head_cases total fed at lists kind size rest true listed odd list = rw odd refl
head_cases total fed at lists kind size rest false true odd list =
    rw (odd, list) (list_behind total lists (record { kind = kind; size = size; rest = rest }) list ∙ behind_is total fed (size ∷ lists) rest)
head_cases total fed at lists kind size rest false false odd list =
    rw (odd, list) (short_or (ltb (length rest) size) ∙ leaf_is total fed at lists kind size rest (ltb (length rest) size) refl)
  where
    short_or : (b : Bool) → (cond b (Err (fault.Short total)) (Ok (record { kind = kind; size = size; rest = rest })) >>= from_head total lists)
        ≡ (cond b (Err (fault.Short total)) (Ok (drop size rest)) >>= behind total lists)
    short_or true = refl
    short_or false = leaf_behind total lists (record { kind = kind; size = size; rest = rest }) list

-- the last length byte
one_is : (total fed at : ℕ) (lists : List ℕ) (kind : Kind) (high byte : ℕ) (rest : List ℕ)
    → (sized total at kind 1 high (byte ∷ rest) >>= from_head total lists) ≡ reads_on total (behind_head fed lists at kind (256 * high + byte)) rest
one_is total fed at lists kind high byte rest =
    let n = 256 * high + byte in
    ap (λ (r : Result Head ItemFault). r >>= from_head total lists) (sized_one total at kind 0 high byte rest ∙ sized_none total at kind n rest)
    ∙ head_cases total fed at lists kind n rest (not (eqb (n % unit_of kind) 0)) (is_list kind) refl refl

-- ---- a format byte

-- heads are of the kind that was asked for
same_behind : (total at : ℕ) (kind : Kind) (size : ℕ) (rest : List ℕ) (short odd lacks : Bool) (f g : Head → Result (List ℕ) ItemFault)
    → ((h : Head) → h.kind ≡ kind → f h ≡ g h)
    → (cond short (Err (fault.Short total)) (cond odd (Err (fault.Uneven at)) (cond lacks (Err (fault.Short total)) (Ok (record { kind = kind; size = size; rest = rest })))) >>= f)
    ≡ (cond short (Err (fault.Short total)) (cond odd (Err (fault.Uneven at)) (cond lacks (Err (fault.Short total)) (Ok (record { kind = kind; size = size; rest = rest })))) >>= g)
same_behind total at kind size rest true odd lacks f g same = refl
same_behind total at kind size rest false true lacks f g same = refl
same_behind total at kind size rest false false true f g same = refl
same_behind total at kind size rest false false false f g same = same (record { kind = kind; size = size; rest = rest }) refl

size_is : (total at : ℕ) (kind : Kind) (count : ℕ) (bytes : List ℕ) → size_at total at kind count bytes ≡ sized total at kind count 0 bytes
unfolding size_at
size_is total at kind count bytes = refl

head_is : (total depth format : ℕ) (bytes : List ℕ) (kind : Kind) (count : ℕ) → format_at (total - suc (length bytes)) depth format ≡ Ok (kind, count)
    → head_at total depth (format ∷ bytes) ≡ sized total (total - suc (length bytes)) kind count 0 bytes
unfolding head_at
head_is total depth format bytes kind count e = rw e (size_is total (total - suc (length bytes)) kind count bytes)

no_head_is : (total depth format : ℕ) (bytes : List ℕ) (e : ItemFault) → format_at (total - suc (length bytes)) depth format ≡ Err e
    → head_at total depth (format ∷ bytes) ≡ Err e
unfolding head_at
no_head_is total depth format bytes e h = rw h refl

no_list : (b : Bool) → (b ≡ true → 0 < 0) → b ≡ false
no_list true deep = absurd (omega (arith, deep refl))
no_list false deep = refl

-- an item of which the format byte is known
item_is : (total depth format : ℕ) (bytes : List ℕ) (kind : Kind) (count : ℕ) → format_at (total - suc (length bytes)) depth format ≡ Ok (kind, count)
    → after_item total depth (format ∷ bytes) ≡ (sized total (total - suc (length bytes)) kind count 0 bytes >>= after_content (after_item total (depth - 1)))
unfolding after_item
item_is total zero format bytes kind count e =
    let at = total - suc (length bytes) in
    let size = fold (λ (n : ℕ) (byte : ℕ). 256 * n + byte) 0 (take count bytes) in
    let rest = drop count bytes in
    let leaf = no_list (is_list kind) (format_takes at zero format (kind, count) e).deep in
    rw (head_is total zero format bytes kind count e)
    (same_behind total at kind size rest (ltb (length bytes) count) (not (eqb (size % unit_of kind) 0)) (not (is_list kind) && ltb (length rest) size) (λ h. Ok (drop h.size h.rest)) (after_content (after_item total 0)) (λ h same. sym (content_leaf (after_item total 0) h (ap is_list same ∙ leaf))))
item_is total (suc depth) format bytes kind count e =
    let less : suc depth - 1 ≡ depth = omega arith in
    rw (less, head_is total (suc depth) format bytes kind count e) refl

-- so many length bytes are to come
lengths_are : (total at : ℕ) (lists : List ℕ) (kind : Kind) (count : ℕ) (rest : List ℕ) → (count ≡ 0 → ⊥) → count < 4
    → (sized total at kind count 0 rest >>= from_head total lists) ≡ reads total lists (before_lengths at kind count) rest
lengths_are total at lists kind zero rest some few = absurd (some refl)
lengths_are total at lists kind (suc zero) rest some few = refl
lengths_are total at lists kind (suc (suc zero)) rest some few = refl
lengths_are total at lists kind (suc (suc (suc zero))) rest some few = refl
lengths_are total at lists kind (suc (suc (suc (suc n)))) rest some few = absurd (omega (arith, few))

format_cases : (total at byte : ℕ) (lists rest : List ℕ) (r : Result (Kind × ℕ) ItemFault) → at ≡ total - suc (length rest)
    → format_at at (max_depth - length lists) byte ≡ r
    → (after_item total (max_depth - length lists) (byte ∷ rest) >>= behind total lists) ≡ reads total lists (behind_format at r) rest
format_cases total at byte lists rest (Err e) place h =
    let d = max_depth - length lists in
    let none = after_no_head total d (byte ∷ rest) e (no_head_is total d byte rest e (subst (λ (n : ℕ). format_at n d byte ≡ Err e) place h)) in
    ap (λ (r : Result (List ℕ) ItemFault). r >>= behind total lists) none
format_cases total at byte lists rest (Ok x) place h =
    let d = max_depth - length lists in
    let less : d - 1 ≡ max_depth - suc (length lists) = omega arith in
    let t = format_takes at d byte x h in
    let item = item_is total d byte rest x.0 x.1 (subst (λ (n : ℕ). format_at n d byte ≡ Ok x) place h) in
    ap (λ (r : Result (List ℕ) ItemFault). r >>= behind total lists) item
    ∙ bind_bind (sized total (total - suc (length rest)) x.0 x.1 0 rest) (after_content (after_item total (d - 1))) (behind total lists)
    ∙ ap (λ (n : ℕ). sized total (total - suc (length rest)) x.0 x.1 0 rest >>= λ h. after_content (after_item total n) h >>= behind total lists) less
    ∙ ap (λ (n : ℕ). sized total n x.0 x.1 0 rest >>= from_head total lists) (sym place)
    ∙ lengths_are total at lists x.0 x.1 rest t.some t.few

-- ---- one byte more

lt_one : (a : ℕ) → ltb (suc a) 1 ≡ false
lt_one a = grind (arith, nat_tests)

one_more : (total at : ℕ) (lists rest : List ℕ) (p : Point) (byte : ℕ) → at + suc (length rest) ≡ total
    → fault_after total (reads total lists p (byte ∷ rest)) ≡ fault_after total (reads_on total (step_at at lists p byte) rest)
one_more total at lists rest point.Format byte place =
    ap (fault_after total) (format_cases total at byte lists rest (format_at at (max_depth - length lists) byte) (omega (arith, place)) refl)
one_more total at lists rest (point.Three p kind) byte place =
    let low : 256 * 0 + byte ≡ byte = omega arith in
    ap (λ (r : Result Head ItemFault). fault_after total (r >>= from_head total lists)) (sized_one total p kind 2 0 byte rest)
    ∙ ap (λ (n : ℕ). fault_after total (sized total p kind 2 n rest >>= from_head total lists)) low
one_more total at lists rest (point.Two p kind high) byte place =
    ap (λ (r : Result Head ItemFault). fault_after total (r >>= from_head total lists)) (sized_one total p kind 1 high byte rest)
one_more total at lists rest (point.One p kind high) byte place =
    ap (fault_after total) (one_is total (at + 1) p lists kind high byte rest)
one_more total at lists rest (point.Content zero) byte place =
    ap (λ (b : Bool). fault_after total (cond b (Err (fault.Short total)) (behind total lists rest))) (lt_one (length rest))
    ∙ ap (fault_after total) (behind_is total (at + 1) lists rest)
one_more total at lists rest (point.Content (suc more)) byte place =
    ap (λ (b : Bool). fault_after total (cond b (Err (fault.Short total)) (behind total lists (drop (suc more) rest)))) (lt_suc (length rest) (suc more))
one_more total at lists rest point.Whole byte place =
    let here : total - suc (length rest) ≡ at = omega (arith, place) in
    ap (λ (n : ℕ). Some (fault.Trailing n)) here
one_more total at lists rest (point.Broken e) byte place = refl

-- ---- how many bytes came

head_counts : (fed : ℕ) (lists : List ℕ) (at : ℕ) (kind : Kind) (size : ℕ) (odd listed : Bool) → not (eqb (size % unit_of kind) 0) ≡ odd
    → is_list kind ≡ listed → (behind_head fed lists at kind size).fed ≡ fed
head_counts fed lists at kind size true listed odd list = rw odd refl
head_counts fed lists at kind size false true odd list = rw (odd, list) refl
head_counts fed lists at kind zero false false odd list = rw (odd, list) refl
head_counts fed lists at kind (suc size) false false odd list = rw (odd, list) refl

pub step_counts : (at : ℕ) (lists : List ℕ) (p : Point) (byte : ℕ) → (step_at at lists p byte).fed ≡ at + 1
step_counts at lists point.Format byte = refl
step_counts at lists (point.Three p kind) byte = refl
step_counts at lists (point.Two p kind high) byte = refl
step_counts at lists (point.One p kind high) byte =
    let n = 256 * high + byte in
    head_counts (at + 1) lists p kind n (not (eqb (n % unit_of kind) 0)) (is_list kind) refl refl
step_counts at lists (point.Content zero) byte = refl
step_counts at lists (point.Content (suc more)) byte = refl
step_counts at lists point.Whole byte = refl
step_counts at lists (point.Broken e) byte = refl

pub counts : (c : Checking) (bytes : List ℕ) → (fed_with c bytes).fed ≡ c.fed + length bytes
counts c [] = omega arith
counts c (byte ∷ bytes) =
    omega (arith, counts (with_byte c byte) bytes, step_counts c.fed c.lists c.point byte)

-- ---- all bytes

lt_none : (more : ℕ) → ltb 0 (suc more) ≡ true
lt_none more = grind (arith, nat_tests)

pub no_byte : (total depth : ℕ) → head_at total depth [] ≡ Err (fault.Short total)
unfolding head_at
no_byte total depth = refl

at_end : (total fed : ℕ) (lists : List ℕ) (p : Point) → fed ≡ total → fault_after total (reads total lists p []) ≡ fault_now fed p
at_end total fed lists point.Format e =
    rw (after_no_head total (max_depth - length lists) [] (fault.Short total) (no_byte total (max_depth - length lists)), e) refl
at_end total fed lists (point.Three at kind) e = rw e refl
at_end total fed lists (point.Two at kind high) e = rw e refl
at_end total fed lists (point.One at kind high) e = rw e refl
at_end total fed lists (point.Content more) e = rw (lt_none more, e) refl
at_end total fed lists point.Whole e = refl
at_end total fed lists (point.Broken f) e = refl

reads_is : (total : ℕ) (rest : List ℕ) (c : Checking) → c.fed + length rest ≡ total
    → fault_after total (reads_on total c rest) ≡ fault_now (fed_with c rest).fed (fed_with c rest).point
reads_is total [] c place = at_end total c.fed c.lists c.point (omega (arith, place))
reads_is total (byte ∷ rest) c place =
    one_more total c.fed c.lists rest c.point byte place
    ∙ reads_is total rest (with_byte c byte) (omega (arith, place, step_counts c.fed c.lists c.point byte))

-- in any cutting the fault is the first one of all that was fed
pub checks : (bytes : List ℕ) → first_fault bytes ≡ fault_now (check_of bytes).fed (check_of bytes).point
unfolding first_fault check_of
checks bytes =
    ap (fault_after (length bytes)) (sym (bind_ok (after_item (length bytes) max_depth bytes)))
    ∙ reads_is (length bytes) bytes unfed (omega arith)

pub check_none : check_of [] ≡ unfed
unfolding check_of
check_none = refl

pub fed_is : (bytes : List ℕ) → (check_of bytes).fed ≡ length bytes
unfolding check_of
fed_is bytes =
    let all : 0 + length bytes ≡ length bytes = omega arith in
    counts unfed bytes ∙ all

pub verdict_is : (bytes : List ℕ) → verdict_now (check_of bytes) ≡ verdict_of bytes
verdict_is [] = by_zero (check_of []).fed (fed_is [])
  where
    by_zero : (n : ℕ) → n ≡ 0 → cond (eqb n 0) verdict.Empty (verdict_by (fault_now (check_of []).fed (check_of []).point)) ≡ verdict.Empty
    by_zero n e = rw e refl
verdict_is (byte ∷ bytes) =
    let c = check_of (byte ∷ bytes) in
    let some : eqb (suc (length bytes)) 0 ≡ false = ne_eqb (suc (length bytes)) 0 (λ (e : suc (length bytes) ≡ 0). omega (arith, e)) in
    ap (λ (b : Bool). cond b verdict.Empty (verdict_by (fault_now c.fed c.point))) (ap (λ (n : ℕ). eqb n 0) (fed_is (byte ∷ bytes)) ∙ some)
    ∙ ap verdict_by (sym (checks (byte ∷ bytes)))

-- ---- pieces

pub cut_anywhere : (past piece : List ℕ) → check_of (past ++ piece) ≡ fed_with (check_of past) piece
unfolding check_of
cut_anywhere past piece = fold-append with_byte unfed past piece
