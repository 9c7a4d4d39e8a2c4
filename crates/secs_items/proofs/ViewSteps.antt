-- The view at the front of bytes, and the views in a list.
use Rattle.std.proofs.Common.{◌≡◌, ℕ, zero, suc, ◌*◌, ◌+◌, ◌-◌, ◌/◌, ◌%◌, ◌<◌, Bool, true, false, cond, List, [], ◌∷◌, ◌++◌, length, take, drop, Some, Result, Ok, Err, refl, sym, ap, subst, ◌∙◌, append_assoc, length-append, length-drop, length-take, arith}
use Rattle.std.specs.Prelude.{slice_get}
use Rattle.std.proofs.Math.Nat.{mul_comm}
use Rattle.std.proofs.lemmas.List.{append-nil, take-append-drop, take_at}
use Rattle.std.proofs.lemmas.Nat.{div-add-mod'}
use Rattle.secs_items.specs.declared.item.Item.{Item, out-Item}
use Rattle.secs_items.specs.declared.item.Item.TheVariants as item
use Rattle.secs_items.specs.declared.item_fault.ItemFault.{ItemFault}
use Rattle.secs_items.specs.declared.kind.Kind.{Kind}
use Rattle.secs_items.specs.Kinds.{is_list, unit_of}
use Rattle.secs_items.specs.Layers.{kind_of, length_of, items_of}
use Rattle.secs_items.specs.Reading.{Head, after_content, after_each, after_item, head_at, item_at, items_at, leaf_of}
use Rattle.secs_items.specs.Spelling.{SpellsEach, SpellsWithin}
use Rattle.secs_items.specs.Views.{IsWhole, ShowsChild, ShowsFront, Viewed, item_in, items_read}
use Rattle.secs_items.proofs.Faults.{each_rest, item_rest, rest_of}
use Rattle.secs_items.proofs.HeadLaws.{TakesHead, head_takes}
use Rattle.secs_items.proofs.ItemLaws.{each_again, each_takes, head_as, is_L, item_again, item_takes}
use Rattle.secs_items.proofs.ItemSteps.{after_head, item_leaf, item_list}
use Rattle.secs_items.proofs.Numbers.{IsBytes}
use Rattle.secs_items.proofs.Viewing.{items_count, items_in, items_left, kind_in, length_in, no_items_in, read_as}

abbrev pub shown_as : Head → ℕ → ℕ → List ℕ → Viewed
shown_as h count inner content = record { item = item_in h.kind count inner content; content = content }

-- what the view of the first so many bytes behind a head says
pub record IsFront (total depth : ℕ) (bytes : List ℕ) (h : Head) (rest : List ℕ) (count inner : ℕ) (content : List ℕ) : Type 0 where
  pub whole : IsWhole h.kind count inner content
  pub read : item_at total depth bytes ≡ Ok (item_in h.kind count inner content, rest)
  pub behind : h.rest ≡ content ++ rest

units : (unit n count : ℕ) → n % unit ≡ 0 → count ≡ n / unit → unit * count ≡ n
units unit n count even e =
    let whole : n / unit * unit ≡ n = omega (arith, div-add-mod' n unit, even) in
    ap (λ (k : ℕ). unit * k) e ∙ mul_comm unit (n / unit) ∙ whole

leaf_in : (k : Kind) (count depth : ℕ) (content : List ℕ) → is_list k ≡ false → item_in k count depth content ≡ leaf_of k content
leaf_in k count depth content leaf = rw leaf refl

list_in : (k : Kind) (count depth : ℕ) (content : List ℕ) → is_list k ≡ true
    → item_in k count depth content ≡ item.L (items_read (items_at (item_at 0 depth) count content))
list_in k count depth content listed = rw listed refl

front_leaf : (total depth : ℕ) (bytes : List ℕ) (h : Head) (rest : List ℕ) (count inner n : ℕ) → TakesHead depth bytes h
    → head_at total depth bytes ≡ Ok h → is_list h.kind ≡ false → drop h.size h.rest ≡ rest → n + length rest ≡ length h.rest
    → count ≡ h.size / unit_of h.kind
    → IsFront total depth bytes h rest count inner (take n h.rest)
front_leaf total depth bytes h rest count inner n t head leaf e split counted =
    let small = t.whole leaf in
    let len : length (drop h.size h.rest) ≡ length rest = ap length e in
    let same : n ≡ h.size = omega (arith, length-drop h.size h.rest, len, small, split) in
    let content : take n h.rest ≡ take h.size h.rest = ap (λ (k : ℕ). take k h.rest) same in
    record {
      whole = record {
        items = λ listed. absurd cc;
        elements = λ other. omega (arith, length-take n h.rest, units (unit_of h.kind) h.size count t.even counted, same, small);
      };
      read = item_leaf total depth bytes h head leaf ∙ rw (leaf_in h.kind count inner (take n h.rest) leaf, content, e) refl;
      behind = sym (take-append-drop h.size h.rest) ∙ rw (← content, e) refl;
    }

whole_list : (inner d count size : ℕ) (content front : List ℕ) (items : List Item) → inner ≡ d → content ≡ front → count ≡ size → length items ≡ size
    → items_at (item_at 0 d) (length items) (front ++ []) ≡ Ok (items, [])
    → items_at (item_at 0 inner) count content ≡ Ok (items, [])
whole_list inner d count size content front items less same counted long again =
    rw (less, same, counted) (subst (λ (n : ℕ). items_at (item_at 0 d) n front ≡ Ok (items, [])) long (subst (λ (bs : List ℕ). items_at (item_at 0 d) (length items) bs ≡ Ok (items, [])) (append-nil front) again))

front_list : (total depth : ℕ) (bytes : List ℕ) (h : Head) (rest : List ℕ) (count inner n : ℕ) → TakesHead depth bytes h
    → head_at total depth bytes ≡ Ok h → is_list h.kind ≡ true → after_each (after_item total (depth - 1)) h.size h.rest ≡ Ok rest
    → n + length rest ≡ length h.rest → count ≡ h.size / unit_of h.kind → inner ≡ depth - 1
    → IsFront total depth bytes h rest count inner (take n h.rest)
front_list total depth bytes h rest count inner n t head listed e split counted less =
    let d = depth - 1 in
    let e2 = items_left total d h.size h.rest rest e in
    let taken = each_takes (item_at total d) (SpellsWithin d) (item_takes total d) h.size h.rest (e2.0, rest) t.rest_fits e2.1 in
    let front = taken.0.front in
    let long : length front ≡ n = omega (arith, ap length taken.0.parts, length-append front rest, split) in
    let content : take n h.rest ≡ front = ap (take n) taken.0.parts ∙ take_at front rest n long in
    let one : unit_of h.kind ≡ 1 = ap unit_of (is_L h.kind listed) in
    let size : count ≡ h.size = counted ∙ ap (λ (u : ℕ). h.size / u) one ∙ omega arith in
    let again : items_at (item_at 0 d) (length e2.0) (front ++ []) ≡ Ok (e2.0, []) =
    each_again (item_at 0 d) (SpellsWithin d) (item_again 0 d) e2.0 front [] taken.0.spelled in
    let whole : items_at (item_at 0 inner) count (take n h.rest) ≡ Ok (e2.0, []) =
    whole_list inner d count h.size (take n h.rest) front e2.0 less content size taken.1 again in
    record {
      whole = record {
        items = λ yes. each_rest (item_at 0 inner) (after_item 0 inner) (item_rest 0 inner) count (take n h.rest) ∙ ap rest_of whole;
        elements = λ other. absurd cc;
      };
      read = item_list total depth bytes h (t.deep listed) head listed ∙ rw (e2.1, list_in h.kind count inner (take n h.rest) listed, whole) refl;
      behind = taken.0.parts ∙ ap (λ (bs : List ℕ). bs ++ rest) (sym content);
    }

by_kind : (total depth : ℕ) (bytes : List ℕ) (h : Head) (rest : List ℕ) (count inner n : ℕ) (b : Bool) → is_list h.kind ≡ b → TakesHead depth bytes h
    → head_at total depth bytes ≡ Ok h → cond b (after_each (after_item total (depth - 1)) h.size h.rest) (Ok (drop h.size h.rest)) ≡ Ok rest
    → n + length rest ≡ length h.rest → count ≡ h.size / unit_of h.kind → inner ≡ depth - 1
    → IsFront total depth bytes h rest count inner (take n h.rest)
by_kind total depth bytes h rest count inner n true listed t head e split counted less =
    front_list total depth bytes h rest count inner n t head listed e split counted less
by_kind total depth bytes h rest count inner n false leaf t head e split counted less =
    let same : drop h.size h.rest ≡ rest = cc in
    front_leaf total depth bytes h rest count inner n t head leaf same split counted

pub view_front : (total depth : ℕ) (bytes : List ℕ) (h : Head) (rest : List ℕ) (count inner n : ℕ) → IsBytes bytes → head_at total depth bytes ≡ Ok h
    → after_content (after_item total (depth - 1)) h ≡ Ok rest → n + length rest ≡ length h.rest → count ≡ h.size / unit_of h.kind → inner ≡ depth - 1
    → IsFront total depth bytes h rest count inner (take n h.rest)
view_front total depth bytes h rest count inner n fits head e split counted less =
    by_kind total depth bytes h rest count inner n (is_list h.kind) refl (head_takes total depth bytes h fits head) head e split counted less

pub view_shows : (total depth : ℕ) (bytes : List ℕ) (h : Head) (rest : List ℕ) (count inner : ℕ) (content : List ℕ) → IsBytes bytes
    → head_at total depth bytes ≡ Ok h → count ≡ h.size / unit_of h.kind → IsFront total depth bytes h rest count inner content
    → ShowsFront bytes (shown_as h count inner content) rest
view_shows total depth bytes h rest count inner content fits head counted f =
    let t = head_takes total depth bytes h fits head in
    let x = out-Item (item_in h.kind count inner content) in
    record {
      head = t.front;
      is_head = head_as h.kind (kind_of x) h.size (length_of x) t.front (kind_in h.kind count inner content) (length_in h.kind count inner content f.whole ∙ units (unit_of h.kind) h.size count t.even counted) t.is_head;
      parts = t.parts ∙ ap (λ (bs : List ℕ). t.front ++ bs) f.behind;
    }

-- ---- the views in a list

pub record HasAt (Spelled : Item → List ℕ → Type 0) (items : List Item) (content : List ℕ) (place : ℕ) : Type 0 where
  pub before : List ℕ
  pub front : List ℕ
  pub after : List ℕ
  pub here : Item
  pub parts : content ≡ before ++ (front ++ after)
  pub first : SpellsEach Spelled (take place items) before
  pub spelled : Spelled here front
  pub at : slice_get items place ≡ Some here

has_at : (Spelled : Item → List ℕ → Type 0) (items : List Item) (content : List ℕ) (place : ℕ) → place < length items
    → SpellsEach Spelled items content → HasAt Spelled items content place
has_at Spelled [] content place lt s = absurd (omega arith)
has_at Spelled (i ∷ items) content zero lt s =
    record { before = []; front = s.0; after = s.1; here = i; parts = s.2; first = refl; spelled = s.3; at = refl }
has_at Spelled (i ∷ items) content (suc place) lt s =
    let others = has_at Spelled items s.1 place (omega arith) s.4 in
    record {
      before = s.0 ++ others.before;
      front = others.front;
      after = others.after;
      here = others.here;
      parts = s.2 ∙ ap (λ (bs : List ℕ). s.0 ++ bs) others.parts ∙ sym (append_assoc s.0 others.before (others.front ++ others.after));
      first = (s.0, others.before, refl, s.3, others.first);
      spelled = others.spelled;
      at = others.at;
    }

passed_over : (total depth n place : ℕ) (content before others : List ℕ) (items : List Item) → content ≡ before ++ others → n ≡ place
    → items_at (item_at total depth) n (before ++ others) ≡ Ok (items, others) → after_each (after_item total depth) place content ≡ Ok others
passed_over total depth n place content before others items parts long passed =
    let e : items_at (item_at total depth) place content ≡ Ok (items, others) =
    rw parts (subst (λ (k : ℕ). items_at (item_at total depth) k (before ++ others) ≡ Ok (items, others)) long passed) in
    each_rest (item_at total depth) (after_item total depth) (item_rest total depth) place content ∙ ap rest_of e

-- the item at a place, and how it is reached by passing over those before it
pub record HasChild (depth count total : ℕ) (content : List ℕ) (place : ℕ) : Type 0 where
  pub before : List ℕ
  pub others : List ℕ
  pub after : List ℕ
  pub here : Item
  pub skipped : after_each (after_item total depth) place content ≡ Ok others
  pub read : item_at total depth others ≡ Ok (here, after)
  pub parts : content ≡ before ++ others
  pub first : SpellsEach (SpellsWithin depth) (take place (items_read (items_at (item_at 0 depth) count content))) before
  pub at : slice_get (items_read (items_at (item_at 0 depth) count content)) place ≡ Some here

pub has_child : (depth count total : ℕ) (content : List ℕ) (place : ℕ) → IsBytes content → after_each (after_item 0 depth) count content ≡ Ok []
    → place < length (items_read (items_at (item_at 0 depth) count content)) → HasChild depth count total content place
has_child depth count total content place fits whole lt =
    let e = items_left 0 depth count content [] whole in
    let items = e.0 in
    let same : items_read (items_at (item_at 0 depth) count content) ≡ items = read_as (items_at (item_at 0 depth) count content) items [] e.1 in
    let taken = each_takes (item_at 0 depth) (SpellsWithin depth) (item_takes 0 depth) count content (items, []) fits e.1 in
    let spelled : SpellsEach (SpellsWithin depth) items content =
    subst (SpellsEach (SpellsWithin depth) items) (sym (taken.0.parts ∙ append-nil taken.0.front)) taken.0.spelled in
    let lt2 : place < length items = subst (λ (is : List Item). place < length is) same lt in
    let h = has_at (SpellsWithin depth) items content place lt2 spelled in
    let passed =
    each_again (item_at total depth) (SpellsWithin depth) (item_again total depth) (take place items) h.before (h.front ++ h.after) h.first in
    let long : length (take place items) ≡ place = omega (arith, length-take place items, lt2) in
    record {
      before = h.before;
      others = h.front ++ h.after;
      after = h.after;
      here = h.here;
      skipped = passed_over total depth (length (take place items)) place content h.before (h.front ++ h.after) (take place items) h.parts long passed;
      read = item_again total depth h.here h.front h.after h.spelled;
      parts = h.parts;
      first = subst (λ (is : List Item). SpellsEach (SpellsWithin depth) (take place is) h.before) (sym same) h.first;
      at = subst (λ (is : List Item). slice_get is place ≡ Some h.here) (sym same) h.at;
    }

-- ---- what goes wrong behind a head

no_rest : {A : Type 0} (r : Result (A × List ℕ) ItemFault) (e : ItemFault) → rest_of r ≡ Err e → r ≡ Err e
no_rest (Ok x) e h = absurd cc
no_rest (Err f) e h = cc

pub skip_fault : (total depth : ℕ) (bytes : List ℕ) (h : Head) (e : ItemFault) → (is_list h.kind ≡ true → 0 < depth)
    → head_at total depth bytes ≡ Ok h → after_content (after_item total (depth - 1)) h ≡ Err e → item_at total depth bytes ≡ Err e
skip_fault total depth bytes h e deep head fault =
    no_rest (item_at total depth bytes) e (sym (item_rest total depth bytes) ∙ after_head total depth bytes h deep head ∙ fault)

listed_by : (k : Kind) (count depth : ℕ) (content : List ℕ) (place : ℕ) (b : Bool) → is_list k ≡ b
    → place < length (items_of (out-Item (item_in k count depth content))) → b ≡ true
listed_by k count depth content place true e lt = refl
listed_by k count depth content place false e lt = absurd (omega (arith, lt, ap length (no_items_in k count depth content e)))

-- what has an item at a place is a list
pub is_listed : (k : Kind) (count depth : ℕ) (content : List ℕ) (place : ℕ) → place < length (items_of (out-Item (item_in k count depth content)))
    → is_list k ≡ true
is_listed k count depth content place lt = listed_by k count depth content place (is_list k) refl lt

-- ---- the child that a view gives

pub record ChildOf (self : Viewed) (depth total place : ℕ) (content : List ℕ) : Type 0 where
  pub before : List ℕ
  pub others : List ℕ
  pub after : List ℕ
  pub here : Item
  pub skipped : after_each (after_item total depth) place content ≡ Ok others
  pub read : item_at total depth others ≡ Ok (here, after)
  pub parts : self.content ≡ before ++ others
  pub first : SpellsEach (SpellsWithin depth) (take place (items_of (out-Item self.item))) before
  pub at : slice_get (items_of (out-Item self.item)) place ≡ Some here

child_in : (k : Kind) (count depth total place : ℕ) (content : List ℕ) → IsWhole k count depth content
    → place < length (items_of (out-Item (item_in k count depth content))) → IsBytes content
    → ChildOf (record { item = item_in k count depth content; content = content }) depth total place content
child_in k count depth total place content whole lt fits =
    let listed = is_listed k count depth content place lt in
    let items = items_in k count depth content listed in
    let h = has_child depth count total content place fits (whole.items listed) (subst (λ (is : List Item). place < length is) items lt) in
    record {
      before = h.before;
      others = h.others;
      after = h.after;
      here = h.here;
      skipped = h.skipped;
      read = h.read;
      parts = h.parts;
      first = subst (λ (is : List Item). SpellsEach (SpellsWithin depth) (take place is) h.before) (sym items) h.first;
      at = subst (λ (is : List Item). slice_get is place ≡ Some h.here) (sym items) h.at;
    }

pub child_of : (k : Kind) (count depth total place : ℕ) (inside : List ℕ) (self : Viewed) (content : List ℕ)
    → ◌≡◌ {A = Viewed} (record { item = item_in k count depth inside; content = inside }) self → IsWhole k count depth inside
    → place < length (items_of (out-Item self.item)) → content ≡ self.content → IsBytes content
    → ChildOf self depth total place content
child_of k count depth total place inside self content shown whole lt same fits =
    let at : content ≡ inside = same ∙ sym (ap (λ (w : Viewed). w.content) shown) in
    let lt2 = subst (λ (w : Viewed). place < length (items_of (out-Item w.item))) (sym shown) lt in
    let made = child_in k count depth total place inside whole lt2 (subst IsBytes at fits) in
    subst (λ (bs : List ℕ). ChildOf self depth total place bs) (sym at) (subst (λ (w : Viewed). ChildOf w depth total place inside) shown made)

pub ok_err : {A : Type 0} (r : Result A ItemFault) (x : A) (e : ItemFault) → r ≡ Ok x → r ≡ Err e → ⊥
ok_err r x e good bad = cc

pub same_ok : {A : Type 0} (r : Result A ItemFault) (x y : A) → r ≡ Ok x → r ≡ Ok y → x ≡ y
same_ok r x y one other = cc

-- the child is read behind the items before it
pub child_read : (self : Viewed) (depth total place : ℕ) (content rest : List ℕ) (h : ChildOf self depth total place content)
    → after_each (after_item total depth) place content ≡ Ok rest → item_at total depth rest ≡ Ok (h.here, h.after)
child_read self depth total place content rest h passed =
    subst (λ (bs : List ℕ). item_at total depth bs ≡ Ok (h.here, h.after)) (same_ok (after_each (after_item total depth) place content) h.others rest h.skipped passed) h.read

pub child_is : (self : Viewed) (depth total place : ℕ) (content rest : List ℕ) (h : ChildOf self depth total place content) (i : Item) (after : List ℕ)
    → after_each (after_item total depth) place content ≡ Ok rest → item_at total depth rest ≡ Ok (i, after)
    → slice_get (items_of (out-Item self.item)) place ≡ Some i
child_is self depth total place content rest h i after passed read =
    let mine : Item × List ℕ = (h.here, h.after) in
    let theirs : Item × List ℕ = (i, after) in
    h.at ∙ ap (λ (p : Item × List ℕ). Some p.0) (same_ok (item_at total depth rest) mine theirs (child_read self depth total place content rest h passed) read)

pub child_shown : (self child : Viewed) (depth total place : ℕ) (content rest after : List ℕ) (h : ChildOf self depth total place content)
    → after_each (after_item total depth) place content ≡ Ok rest → ShowsFront rest child after → ShowsChild self place child
child_shown self child depth total place content rest after h passed shown =
    record {
      before = h.before;
      after = after;
      front = rest;
      items_before = (depth, h.first);
      shown = shown;
      parts = h.parts ∙ ap (λ (bs : List ℕ). h.before ++ bs) (same_ok (after_each (after_item total depth) place content) h.others rest h.skipped passed);
    }

-- ---- the whole item

-- items that are read from a view's content are the viewed list's, whatever the total
pub read_whole : (depth count total : ℕ) (content rest : List ℕ) (items : List Item) → IsBytes content
    → after_each (after_item 0 depth) count content ≡ Ok [] → items_at (item_at total depth) count content ≡ Ok (items, rest)
    → items_read (items_at (item_at 0 depth) count content) ≡ items
read_whole depth count total content rest items fits whole read =
    let e = items_left 0 depth count content [] whole in
    let taken = each_takes (item_at 0 depth) (SpellsWithin depth) (item_takes 0 depth) count content (e.0, []) fits e.1 in
    let again = each_again (item_at total depth) (SpellsWithin depth) (item_again total depth) e.0 taken.0.front [] taken.0.spelled in
    let here : items_at (item_at total depth) count content ≡ Ok (e.0, []) =
    subst (λ (n : ℕ). items_at (item_at total depth) n content ≡ Ok (e.0, [])) (items_count (item_at 0 depth) count content (e.0, []) e.1)
    (subst (λ (bs : List ℕ). items_at (item_at total depth) (length e.0) bs ≡ Ok (e.0, [])) (sym taken.0.parts) again) in
    read_as (items_at (item_at 0 depth) count content) e.0 [] e.1
    ∙ ap (λ (p : List Item × List ℕ). p.0) (same_ok (items_at (item_at total depth) count content) (e.0, []) (items, rest) here read)

pub item_whole : (k : Kind) (count depth total : ℕ) (inside content rest : List ℕ) (items : List Item) (self : Viewed)
    → record { item = item_in k count depth inside; content = inside } ≡ self → IsWhole k count depth inside → is_list k ≡ true
    → content ≡ self.content → IsBytes content → items_at (item_at total depth) count content ≡ Ok (items, rest)
    → item.L items ≡ self.item
item_whole k count depth total inside content rest items self view whole listed same fits read =
    let e : content ≡ inside = same ∙ sym (ap (λ (v : Viewed). v.content) view) in
    let here : items_at (item_at total depth) count inside ≡ Ok (items, rest) =
    subst (λ (bs : List ℕ). items_at (item_at total depth) count bs ≡ Ok (items, rest)) e read in
    let bytes : IsBytes inside = subst IsBytes e fits in
    ap item.L (sym (read_whole depth count total inside rest items bytes (whole.items listed) here))
    ∙ sym (list_in k count depth inside listed) ∙ ap (λ (v : Viewed). v.item) view
