-- Where reading stops at a head, and so where it stops at all.
use Rattle.std.proofs.Common.{◌≡◌, ℕ, zero, suc, ◌+◌, ◌-◌, ◌*◌, ◌/◌, ◌%◌, ◌<◌, ◌≤◌, Bool, true, false, not, cond, eqb, ltb, ◌&&◌, List, [], ◌∷◌, ◌++◌, length, take, drop, Option, Some, None, Result, Ok, Err, refl, sym, ap, subst, ◌∙◌, append_assoc, length-append, length-take, arith}
use Rattle.std.proofs.lemmas.Bool.{eqb-true, le-ltb, ltb-true, ltb-false}
use Rattle.std.proofs.lemmas.List.{drop_all, take-append-drop, take_at}
use Rattle.std.proofs.lemmas.List.Sums.{fold-append}
use Rattle.secs_items.specs.declared.item_fault.ItemFault.{ItemFault}
use Rattle.secs_items.specs.declared.item_fault.ItemFault.TheVariants as fault
use Rattle.secs_items.specs.declared.kind.Kind.{Kind}
use Rattle.secs_items.specs.declared.kind.Kind.TheVariants as kind
use Rattle.secs_items.specs.Kinds.{code_of, is_list, kind_with, unit_of}
use Rattle.secs_items.specs.Reading.{◌>>=◌, Head, after_content, after_each, after_item, format_at, head_at, number_from, size_at}
use Rattle.secs_items.specs.Spelling.{IsHead}
use Rattle.secs_items.proofs.Faults.{Skipper}
use Rattle.secs_items.proofs.HeadLaws.{TakesFormat, TakesHead, format_again, format_takes, head_again, head_takes, holds}
use Rattle.secs_items.proofs.ItemSteps.{after_head, after_no_head}
use Rattle.secs_items.proofs.Numbers.{bytes_fit, each_byte}
use Rattle.secs_items.proofs.Stops.{AllBytes, Goes, ItemStops, Stops, StopsAt, behind, both_bytes, each_stops, empties, empties_bytes, empties_pass, front_bytes, nothing_goes, zeros, zeros_bytes, zeros_long}

-- ---- a format byte with which no item begins

-- which fault it is, whose place alone tells where the byte stands
record FormatFault (depth at format : ℕ) (e : ItemFault) : Type 0 where
  named : ℕ → ItemFault
  same : named at ≡ e
  anywhere : (place : ℕ) → format_at place depth format ≡ Err (named place)
  stops : (after : Skipper) (total : ℕ) (bytes : List ℕ) → StopsAt after total bytes at (λ f. 0) → Stops after total bytes (named at)

abbrev format_by : ℕ → Bool → Bool → Kind × ℕ → Result (Kind × ℕ) ItemFault
format_by at none deep x = cond none (Err (fault.NoLengthBytes at)) (cond deep (Err (fault.TooDeep at)) (Ok x))

format_of : (depth format : ℕ) (k : Kind) (none deep : Bool) → kind_with (format / 4) ≡ Some k → eqb (format % 4) 0 ≡ none
    → (is_list k && eqb depth 0) ≡ deep → (place : ℕ) → format_at place depth format ≡ format_by place none deep (k, format % 4)
unfolding format_at
format_of depth format k none deep found no_lengths too_deep place = rw (found, no_lengths, too_deep) refl

format_unknown : (depth format : ℕ) → kind_with (format / 4) ≡ None → (place : ℕ) → format_at place depth format ≡ Err (fault.BadCode place)
unfolding format_at
format_unknown depth format none place = rw none refl

known_fault : (depth at format : ℕ) (e : ItemFault) (k : Kind) (none deep : Bool)
    → ((place : ℕ) → format_at place depth format ≡ format_by place none deep (k, format % 4)) → format_at at depth format ≡ Err e
    → FormatFault depth at format e
known_fault depth at format e k true deep reads h =
    let same : fault.NoLengthBytes at ≡ e = cc (reads at) in
    record { named = λ place. fault.NoLengthBytes place; same = same; anywhere = reads; stops = λ after total bytes s. s }
known_fault depth at format e k false true reads h =
    let same : fault.TooDeep at ≡ e = cc (reads at) in
    record { named = λ place. fault.TooDeep place; same = same; anywhere = reads; stops = λ after total bytes s. s }
known_fault depth at format e k false false reads h = absurd (cc (reads at))

format_fault : (depth at format : ℕ) (e : ItemFault) (o : Option Kind) → kind_with (format / 4) ≡ o → format_at at depth format ≡ Err e
    → FormatFault depth at format e
format_fault depth at format e None none h =
    let reads = format_unknown depth format none in
    let same : fault.BadCode at ≡ e = cc (reads at) in
    record { named = λ place. fault.BadCode place; same = same; anywhere = reads; stops = λ after total bytes s. s }
format_fault depth at format e (Some k) found h =
    known_fault depth at format e k (eqb (format % 4) 0) (is_list k && eqb depth 0) (format_of depth format k (eqb (format % 4) 0) (is_list k && eqb depth 0) found refl refl) h

head_faults : (total depth format : ℕ) (bytes : List ℕ) (e : ItemFault) → format_at (total - suc (length bytes)) depth format ≡ Err e
    → head_at total depth (format ∷ bytes) ≡ Err e
unfolding head_at
head_faults total depth format bytes e h = rw h refl

format_stops : (total depth format : ℕ) (bytes : List ℕ) (e : ItemFault) → suc (length bytes) ≤ total
    → format_at (total - suc (length bytes)) depth format ≡ Err e → Stops (after_item 0 depth) total (format ∷ bytes) e
format_stops total depth format bytes e within h =
    let at = total - suc (length bytes) in
    let f = format_fault depth at format e (kind_with (format / 4)) refl h in
    subst (Stops (after_item 0 depth) total (format ∷ bytes)) f.same
    (f.stops (after_item 0 depth) total (format ∷ bytes) (record {
      before = [];
      format = format;
      lengths = [];
      rest = bytes;
      parts = refl;
      place = omega (arith, within);
      counted = refl;
      goes = nothing_goes depth;
      never =
          λ more. let place = 0 - suc (length more) in (f.named place, after_no_head 0 depth (format ∷ more) (f.named place) (head_faults 0 depth format more (f.named place) (f.anywhere place)));
    }))

-- ---- length bytes, or content, that go on

-- so many bytes, or items, that a head wants
filling_by : (depth : ℕ) (k : Kind) (n : ℕ) (b : Bool) → is_list k ≡ b
    → AllBytes (cond b (empties n) (zeros n)) × (b ≡ false → n ≤ length (cond b (empties n) (zeros n)))
    × (cond b (after_each (after_item 0 depth) n (cond b (empties n) (zeros n))) (Ok (drop n (cond b (empties n) (zeros n)))) ≡ Ok [])
filling_by depth k n true listed = (empties_bytes n, (λ leaf. absurd cc), empties_pass depth n)
filling_by depth k n false leaf =
    (zeros_bytes n, (λ other. omega (arith, zeros_long n)), ap Ok (drop_all n (zeros n) (omega (arith, zeros_long n))))

-- a whole head with whole content behind it
head_goes : (depth : ℕ) (k : Kind) (lengths content : List ℕ) → (length lengths ≡ 0 → ⊥) → length lengths ≤ 3 → AllBytes lengths
    → (is_list k ≡ true → 0 < depth) → number_from lengths % unit_of k ≡ 0
    → (is_list k ≡ false → number_from lengths ≤ length content)
    → after_content (after_item 0 (depth - 1)) (record { kind = k; size = number_from lengths; rest = content }) ≡ Ok []
    → after_item 0 depth ((4 * code_of k + length lengths) ∷ (lengths ++ content)) ≡ Ok []
head_goes depth k lengths content some few fit deep even whole passed =
    let n = number_from lengths in
    let front = (4 * code_of k + length lengths) ∷ lengths in
    let head : IsHead k n front = record { lengths = lengths; holds = holds lengths some few (bytes_fit lengths fit); placed = refl } in
    after_head 0 depth (front ++ content) (record { kind = k; size = n; rest = content }) deep (head_again 0 depth k n front content head deep even whole) ∙ passed

thousandfold : (k : Kind) (n : ℕ) → (256 * n + 0) % unit_of k ≡ 0
thousandfold kind.L n = omega arith
thousandfold kind.B n = omega arith
thousandfold kind.Bool n = omega arith
thousandfold kind.A n = omega arith
thousandfold kind.J n = omega arith
thousandfold kind.I1 n = omega arith
thousandfold kind.I2 n = omega arith
thousandfold kind.I4 n = omega arith
thousandfold kind.I8 n = omega arith
thousandfold kind.U1 n = omega arith
thousandfold kind.U2 n = omega arith
thousandfold kind.U4 n = omega arith
thousandfold kind.U8 n = omega arith
thousandfold kind.F4 n = omega arith
thousandfold kind.F8 n = omega arith

-- a length byte is missing: with 0 as the last one the length suits every kind
lengths_missing : (depth format : ℕ) (k : Kind) (count : ℕ) (bytes : List ℕ) → TakesFormat depth format (k, count) → AllBytes (format ∷ bytes)
    → length bytes < count → Goes (after_item 0 depth) (format ∷ bytes)
lengths_missing depth format k count bytes t fit short =
    let some = zeros (count - length bytes - 1) in
    let lengths = bytes ++ (some ++ 0 ∷ []) in
    let long : length lengths ≡ count =
    omega (arith, length-append bytes (some ++ 0 ∷ []), length-append some (0 ∷ []), zeros_long (count - length bytes - 1), short) in
    let few : length lengths ≤ 3 = omega (arith, long, t.few) in
    let fits : AllBytes lengths =
    both_bytes bytes (some ++ 0 ∷ []) fit.1 (both_bytes some (0 ∷ []) (zeros_bytes (count - length bytes - 1)) (omega arith, tt)) in
    let number : number_from lengths ≡ 256 * number_from (bytes ++ some) + 0 =
    ap number_from (sym (append_assoc bytes some (0 ∷ []))) ∙ fold-append (λ (n : ℕ) (byte : ℕ). 256 * n + byte) 0 (bytes ++ some) (0 ∷ []) in
    let even : number_from lengths % unit_of k ≡ 0 = ap (λ (n : ℕ). n % unit_of k) number ∙ thousandfold k (number_from (bytes ++ some)) in
    let n = number_from lengths in
    let more = cond (is_list k) (empties n) (zeros n) in
    let f = filling_by (depth - 1) k n (is_list k) refl in
    let whole =
    head_goes depth k lengths more (λ (none : length lengths ≡ 0). omega (arith, long, none, short)) few fits t.deep even f.1 f.2 in
    let placed : 4 * code_of k + length lengths ≡ format = ap (λ (n : ℕ). 4 * code_of k + n) long ∙ sym t.placed in
    let regrouped : lengths ++ more ≡ bytes ++ ((some ++ 0 ∷ []) ++ more) = append_assoc bytes (some ++ 0 ∷ []) more in
    ((some ++ 0 ∷ []) ++ more, (fit.0, subst AllBytes regrouped (both_bytes lengths more fits f.0)), ap (λ (bs : List ℕ). after_item 0 depth (format ∷ bs)) (sym regrouped) ∙ ap (λ (b : ℕ). after_item 0 depth (b ∷ (lengths ++ more))) (sym placed) ∙ whole)

-- content is missing, of an item that is no list
content_missing : (depth format : ℕ) (k : Kind) (count : ℕ) (bytes : List ℕ) → TakesFormat depth format (k, count) → AllBytes (format ∷ bytes)
    → count ≤ length bytes → number_from (take count bytes) % unit_of k ≡ 0 → is_list k ≡ false
    → length (drop count bytes) < number_from (take count bytes) → Goes (after_item 0 depth) (format ∷ bytes)
content_missing depth format k count bytes t fit enough even leaf short =
    let lengths = take count bytes in
    let rest = drop count bytes in
    let n = number_from lengths in
    let more = zeros (n - length rest) in
    let parts : lengths ++ rest ≡ bytes = take-append-drop count bytes in
    let all = subst AllBytes (sym parts) fit.1 in
    let long : length lengths ≡ count = omega (arith, length-take count bytes, enough) in
    let filled : length (rest ++ more) ≡ n = omega (arith, length-append rest more, zeros_long (n - length rest), short) in
    let passed : after_content (after_item 0 (depth - 1)) (record { kind = k; size = n; rest = rest ++ more }) ≡ Ok [] =
    rw leaf (ap Ok (drop_all n (rest ++ more) (omega (arith, filled)))) in
    let whole =
    head_goes depth k lengths (rest ++ more) (λ (none : length lengths ≡ 0). t.some (omega (arith, long, none))) (omega (arith, long, t.few)) (front_bytes lengths rest all) t.deep even (λ (other : is_list k ≡ false). omega (arith, filled)) passed in
    let placed : 4 * code_of k + length lengths ≡ format = ap (λ (n : ℕ). 4 * code_of k + n) long ∙ sym t.placed in
    let regrouped : lengths ++ (rest ++ more) ≡ bytes ++ more = sym (append_assoc lengths rest more) ∙ ap (λ (bs : List ℕ). bs ++ more) parts in
    (more, (fit.0, both_bytes bytes more fit.1 (zeros_bytes (n - length rest))), ap (λ (bs : List ℕ). after_item 0 depth (format ∷ bs)) (sym regrouped) ∙ ap (λ (b : ℕ). after_item 0 depth (b ∷ (lengths ++ (rest ++ more)))) (sym placed) ∙ whole)

-- ---- a length that doesn't suit the kind

format_known : (place depth format : ℕ) (k : Kind) (count : ℕ) → TakesFormat depth format (k, count)
    → format_at place depth format ≡ Ok (k, count)
format_known place depth format k count t =
    ap (format_at place depth) t.placed ∙ format_again place depth k count (omega (arith, positive count t.some)) t.few t.deep
  where
    positive : (n : ℕ) → (n ≡ 0 → ⊥) → 0 < n
    positive zero h = absurd (h refl)
    positive (suc n) h = omega arith

head_known : (total depth format : ℕ) (bytes : List ℕ) (k : Kind) (count : ℕ) → format_at (total - suc (length bytes)) depth format ≡ Ok (k, count)
    → head_at total depth (format ∷ bytes) ≡ size_at total (total - suc (length bytes)) k count bytes
unfolding head_at
head_known total depth format bytes k count e = rw e refl

size_uneven : (total at : ℕ) (k : Kind) (count : ℕ) (lengths more : List ℕ) → length lengths ≡ count
    → not (eqb (number_from lengths % unit_of k) 0) ≡ true → size_at total at k count (lengths ++ more) ≡ Err (fault.Uneven at)
unfolding size_at
size_uneven total at k count lengths more long odd =
    let enough : ltb (length (lengths ++ more)) count ≡ false = le-ltb _ _ (omega (arith, length-append lengths more, long)) in
    rw (enough, take_at lengths more count long, odd) refl

uneven_stops : (total depth format : ℕ) (k : Kind) (count : ℕ) (bytes : List ℕ) → TakesFormat depth format (k, count) → suc (length bytes) ≤ total
    → count ≤ length bytes → not (eqb (number_from (take count bytes) % unit_of k) 0) ≡ true
    → StopsAt (after_item 0 depth) total (format ∷ bytes) (total - suc (length bytes)) (λ f. f % 4)
uneven_stops total depth format k count bytes t within enough odd =
    let lengths = take count bytes in
    let long : length lengths ≡ count = omega (arith, length-take count bytes, enough) in
    record {
      before = [];
      format = format;
      lengths = lengths;
      rest = drop count bytes;
      parts = ap (λ (bs : List ℕ). format ∷ bs) (sym (take-append-drop count bytes));
      place = omega (arith, within);
      counted = omega (arith, long, t.placed, t.few);
      goes = nothing_goes depth;
      never =
          λ more. let place = 0 - suc (length (lengths ++ more)) in (fault.Uneven place, after_no_head 0 depth (format ∷ (lengths ++ more)) (fault.Uneven place) (head_known 0 depth format (lengths ++ more) k count (format_known place depth format k count t) ∙ size_uneven 0 place k count lengths more long odd));
    }

-- ---- a head

leaf_lacks : (k : Kind) (b : Bool) → (not (is_list k) && b) ≡ true → (is_list k ≡ false) × (b ≡ true)
leaf_lacks k b h = by_list (is_list k) h
  where
    by_list : (l : Bool) → (not l && b) ≡ true → (l ≡ false) × (b ≡ true)
    by_list true h = absurd cc
    by_list false h = (refl, h)

odd_not : (b : Bool) → not b ≡ false → b ≡ true
odd_not true e = refl
odd_not false e = absurd cc

size_stops : (total depth format : ℕ) (k : Kind) (count : ℕ) (bytes : List ℕ) (e : ItemFault) (short odd lacks : Bool) → TakesFormat depth format (k, count)
    → AllBytes (format ∷ bytes) → suc (length bytes) ≤ total → ltb (length bytes) count ≡ short
    → not (eqb (number_from (take count bytes) % unit_of k) 0) ≡ odd
    → (not (is_list k) && ltb (length (drop count bytes)) (number_from (take count bytes))) ≡ lacks
    → cond short (Err (fault.Short total)) (cond odd (Err (fault.Uneven (total - suc (length bytes)))) (cond {A = Result Head ItemFault} lacks (Err (fault.Short total)) (Ok (record { kind = k; size = number_from (take count bytes); rest = drop count bytes })))) ≡ Err e
    → Stops (after_item 0 depth) total (format ∷ bytes) e
size_stops total depth format k count bytes e true odd lacks t fit within is_short is_odd is_lacking h =
    let same : fault.Short total ≡ e = cc in
    subst (Stops (after_item 0 depth) total (format ∷ bytes)) same (refl, lengths_missing depth format k count bytes t fit (ltb-true (length bytes) count is_short))
size_stops total depth format k count bytes e false true lacks t fit within is_short is_odd is_lacking h =
    let same : fault.Uneven (total - suc (length bytes)) ≡ e = cc in
    subst (Stops (after_item 0 depth) total (format ∷ bytes)) same (uneven_stops total depth format k count bytes t within (ltb-false (length bytes) count is_short) is_odd)
size_stops total depth format k count bytes e false false true t fit within is_short is_odd is_lacking h =
    let same : fault.Short total ≡ e = cc in
    let l = leaf_lacks k (ltb (length (drop count bytes)) (number_from (take count bytes))) is_lacking in
    let even = eqb-true (number_from (take count bytes) % unit_of k) 0 (odd_not (eqb (number_from (take count bytes) % unit_of k) 0) is_odd) in
    subst (Stops (after_item 0 depth) total (format ∷ bytes)) same (refl, content_missing depth format k count bytes t fit (ltb-false (length bytes) count is_short) even l.0 (ltb-true (length (drop count bytes)) (number_from (take count bytes)) l.1))
size_stops total depth format k count bytes e false false false t fit within is_short is_odd is_lacking h = absurd cc

size_read : (total depth format : ℕ) (k : Kind) (count : ℕ) (bytes : List ℕ) (e : ItemFault) → TakesFormat depth format (k, count)
    → AllBytes (format ∷ bytes) → suc (length bytes) ≤ total → size_at total (total - suc (length bytes)) k count bytes ≡ Err e
    → Stops (after_item 0 depth) total (format ∷ bytes) e
unfolding size_at
size_read total depth format k count bytes e t fit within h =
    size_stops total depth format k count bytes e (ltb (length bytes) count) (not (eqb (number_from (take count bytes) % unit_of k) 0)) (not (is_list k) && ltb (length (drop count bytes)) (number_from (take count bytes))) t fit within refl refl refl h

head_read : (total depth format : ℕ) (bytes : List ℕ) (e : ItemFault) (r : Result (Kind × ℕ) ItemFault) → AllBytes (format ∷ bytes)
    → suc (length bytes) ≤ total → format_at (total - suc (length bytes)) depth format ≡ r
    → (r >>= λ f. size_at total (total - suc (length bytes)) f.0 f.1 bytes) ≡ Err e → Stops (after_item 0 depth) total (format ∷ bytes) e
head_read total depth format bytes e (Err d) fit within read h =
    let same : d ≡ e = cc in
    format_stops total depth format bytes e within (read ∙ ap Err same)
head_read total depth format bytes e (Ok f) fit within read h =
    size_read total depth format f.0 f.1 bytes e (format_takes (total - suc (length bytes)) depth format f read) fit within h

head_stops : (total depth : ℕ) (bytes : List ℕ) (e : ItemFault) → AllBytes bytes → length bytes ≤ total → head_at total depth bytes ≡ Err e
    → Stops (after_item 0 depth) total bytes e
unfolding head_at
head_stops total depth [] e fit within h =
    let same : fault.Short total ≡ e = cc in subst (Stops (after_item 0 depth) total []) same (refl, nothing_goes depth)
head_stops total depth (format ∷ bytes) e fit within h =
    head_read total depth format bytes e (format_at (total - suc (length bytes)) depth format) fit within refl h

-- ---- an item

list_stops : (depth : ℕ) → ItemStops depth → (total : ℕ) (bytes : List ℕ) (h : Head) (e : ItemFault) → AllBytes bytes → length bytes ≤ total
    → TakesHead (suc depth) bytes h → is_list h.kind ≡ true → after_each (after_item total depth) h.size h.rest ≡ Err e
    → Stops (after_item 0 (suc depth)) total bytes e
list_stops depth one total bytes h e fit within t listed bad =
    let read : (x : List ℕ) → after_item 0 (suc depth) (t.front ++ x) ≡ after_each (after_item 0 depth) h.size x = λ x. list_read depth h t.front x t.is_head listed t.even in
    let less : length h.rest ≤ total = omega (arith, ap length t.parts, length-append t.front h.rest, within) in
    let rest_fits = each_byte h.rest t.rest_fits in
    behind (after_each (after_item 0 depth) h.size) (after_item 0 (suc depth)) total t.front bytes h.rest e t.parts
    (λ f g. (g.0, subst AllBytes (sym (append_assoc t.front f g.0)) (both_bytes t.front (f ++ g.0) (front_bytes t.front h.rest (subst AllBytes t.parts fit)) g.1), rw (append_assoc t.front f g.0, read (f ++ g.0)) g.2))
    (λ f d broken. read f ∙ broken) (each_stops depth one total h.size h.rest e rest_fits less bad)
  where
    list_read : (depth : ℕ) (h : Head) (front x : List ℕ) → IsHead h.kind h.size front → is_list h.kind ≡ true → h.size % unit_of h.kind ≡ 0
        → after_item 0 (suc depth) (front ++ x) ≡ after_each (after_item 0 depth) h.size x
    list_read depth h front x is listed even =
        let made : Head = record { kind = h.kind; size = h.size; rest = x } in
        let less : suc depth - 1 ≡ depth = omega arith in
        after_head 0 (suc depth) (front ++ x) made (λ (yes : is_list h.kind ≡ true). omega arith) (head_again 0 (suc depth) h.kind h.size front x is (λ (yes : is_list h.kind ≡ true). omega arith) even (λ (leaf : is_list h.kind ≡ false). absurd cc)) ∙ rw (less, listed) refl

content_stops : (depth : ℕ) → ItemStops depth → (total : ℕ) (bytes : List ℕ) (h : Head) (e : ItemFault) (b : Bool) → AllBytes bytes → length bytes ≤ total
    → TakesHead (suc depth) bytes h → is_list h.kind ≡ b
    → cond b (after_each (after_item total depth) h.size h.rest) (Ok (drop h.size h.rest)) ≡ Err e
    → Stops (after_item 0 (suc depth)) total bytes e
content_stops depth one total bytes h e true fit within t listed bad = list_stops depth one total bytes h e fit within t listed bad
content_stops depth one total bytes h e false fit within t leaf bad = absurd cc

item_read : (total depth : ℕ) (bytes : List ℕ) (e : ItemFault) (r : Result Head ItemFault) (content : Head → Result (List ℕ) ItemFault) → AllBytes bytes
    → length bytes ≤ total → head_at total depth bytes ≡ r
    → ((h : Head) → TakesHead depth bytes h → content h ≡ Err e → Stops (after_item 0 depth) total bytes e)
    → (r >>= content) ≡ Err e → Stops (after_item 0 depth) total bytes e
item_read total depth bytes e (Err d) content fit within read behind_head h =
    let same : d ≡ e = cc in
    head_stops total depth bytes e fit within (read ∙ ap Err same)
item_read total depth bytes e (Ok h) content fit within read behind_head bad =
    behind_head h (head_takes total depth bytes h (bytes_fit bytes fit) read) bad

pub item_stops : (depth : ℕ) → ItemStops depth
unfolding after_item
item_stops zero total bytes e fit within h =
    item_read total 0 bytes e (head_at total 0 bytes) (λ h. Ok (drop h.size h.rest)) fit within refl (λ h t bad. absurd cc) h
item_stops (suc depth) total bytes e fit within h =
    item_read total (suc depth) bytes e (head_at total (suc depth) bytes) (after_content (after_item total depth)) fit within refl (λ head t bad. content_stops depth (item_stops depth) total bytes head e (is_list head.kind) fit within t refl bad) h
