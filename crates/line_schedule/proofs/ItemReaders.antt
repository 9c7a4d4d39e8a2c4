-- Items and bodies of a line, read.
use Rattle.std.proofs.Common.{◌≡◌, ℕ, Bool, true, false, cond, inl, inr, List, [], ◌++◌, Option, Some, None, Result, Ok, Err, refl, sym, ap, subst, ◌∙◌}
use Rattle.std.specs.Prelude.{codes, bytes_eq}
use Rattle.std.specs.Option.{option_and_then}
use Rattle.secs_items.specs.declared.encode_fault.EncodeFault.{EncodeFault}
use Rattle.secs_items.specs.declared.item.Item.{Item, out-Item}
use Rattle.secs_items.specs.declared.item.Item.TheOpen.{Item-F}
use Rattle.secs_items.specs.declared.item.Item.TheVariants as item
use Rattle.secs_items.specs.declared.item.Item.TheVariants.{rolls-A}
use Rattle.secs_items.specs.declared.item.Item.TheViews.{out-roll-Item, roll-Item, roll-out-Item}
use Rattle.secs_items.specs.Encoding.{encode_fault}
use Rattle.secs_items.specs.Spelling.{shortest_spelling}
use Rattle.secs_text.specs.declared.text_fault.TextFault.{TextFault}
use Rattle.secs_text.specs.Grammar.{ReadsAs}
use Rattle.secs_text.specs.Faults.{HasFault}
use Rattle.secs_text.specs.Reading.{fault_of, item_at, kind_at, read_text, read_within}
use Rattle.secs_text.proofs.FaultLaws.{met_fault}
use Rattle.secs_text.proofs.TextLaws.{as_read, reads_as}
use Rattle.line_schedule.specs.Grammar.{IsBody, IsItem}
use Rattle.line_schedule.specs.Items.{body_in, bytes_of, bytes_of_layer, found, item_in, spelling_of, text_in, unless_fault}
use Rattle.line_schedule.proofs.Readers.{IsReaderOf, word_there}

-- ---- items

item_found : (text : List ℕ) (item : Item) (r : Result Item TextFault) → read_text text ≡ r → found r ≡ Some item →
    ReadsAs text item
item_found text item (Ok read) e h = let same : read ≡ item = cc in reads_as text item (e ∙ ap (λ (i : Item). Ok i) same)
item_found text item (Err f) e h = absurd cc

item_there : (text : List ℕ) (item : Item) → item_in text ≡ Some item → ReadsAs text item
item_there text item e = item_found text item (read_text text) refl e

item_again : (text : List ℕ) (item : Item) → ReadsAs text item → item_in text ≡ Some item
item_again text item r = ap found (as_read text item r)

pub an_item : IsReaderOf item_in IsItem
an_item = record { there = λ item text e. item_there text item e; again = λ item text r. item_again text item r }

no_item_by : (r : Result Item TextFault) (e : TextFault) → fault_of r ≡ Some e → found r ≡ None
no_item_by (Ok item) e h = absurd cc
no_item_by (Err f) e h = refl

-- a text that has a fault reads as none
pub no_item : (text : List ℕ) (e : TextFault) → HasFault text e → item_in text ≡ None
no_item text e has = no_item_by (read_text text) e (met_fault text e has)

-- ---- texts

bytes_there : (x : Item-F Item) (i : Item) (bytes : List ℕ) → roll-Item x ≡ i → bytes_of_layer x ≡ Some bytes → i ≡ item.A bytes
bytes_there (Item-F.A found) i bytes rolls h =
    let same : found ≡ bytes = cc in sym rolls ∙ rolls-A found ∙ ap (λ (s : List ℕ). item.A s) same
bytes_there _ i bytes rolls h = absurd cc

bytes_again : (bytes : List ℕ) → bytes_of (item.A bytes) ≡ Some bytes
bytes_again bytes =
    let opened : out-Item (item.A bytes) ≡ Item-F.A bytes =
    ap out-Item (sym (rolls-A bytes)) ∙ out-roll-Item (Item-F.A bytes) in
    ap bytes_of_layer opened

pub a_text : IsReaderOf text_in (λ bytes. IsItem (item.A bytes))
a_text = record {
  there = λ bytes text h. there bytes text (item_in text) refl h;
  again = λ bytes text r. rw (item_again text (item.A bytes) r) (bytes_again bytes);
} where
  there : (bytes text : List ℕ) (o : Option Item) → item_in text ≡ o → option_and_then bytes_of o ≡ Some bytes →
      ReadsAs text (item.A bytes)
  there bytes text None e h = absurd cc
  there bytes text (Some i) e h =
      subst (λ (j : Item). ReadsAs text j) (bytes_there (out-Item i) i bytes (roll-out-Item i) h) (item_there text i e)

-- ---- bodies

spelling_there : (item : Item) (bytes : List ℕ) (fault : Option EncodeFault) → encode_fault item ≡ fault →
    unless_fault fault (shortest_spelling item) ≡ Some bytes → (encode_fault item ≡ None) × (bytes ≡ shortest_spelling item)
spelling_there item bytes None e h = let same : shortest_spelling item ≡ bytes = cc in (e, sym same)
spelling_there item bytes (Some f) e h = absurd cc

hyphen : item_in (codes "-") ≡ None
unfolding read_within item_at kind_at
hyphen = refl

pub a_body : IsReaderOf body_in IsBody
a_body = record {
  there = λ body text h. there body text (bytes_eq text (codes "-")) refl h;
  again = λ body text b. again body text b;
} where
  item_there-body : (body text : List ℕ) (o : Option Item) → item_in text ≡ o → option_and_then spelling_of o ≡ Some body →
      IsBody body text
  item_there-body body text None e h = absurd cc
  item_there-body body text (Some i) e h =
      let s = spelling_there i body (encode_fault i) refl h in inr (i, item_there text i e, s.0, s.1)

  there : (body text : List ℕ) (t : Bool) → bytes_eq text (codes "-") ≡ t →
      cond t (Some []) (option_and_then spelling_of (item_in text)) ≡ Some body → IsBody body text
  there body text true e h = let same : [] ≡ body = cc in inl (word_there (codes "-") text e, sym same)
  there body text false e h = item_there-body body text (item_in text) refl h

  spelled : (body text : List ℕ) (t : Bool) → bytes_eq text (codes "-") ≡ t → (item : Item) → item_in text ≡ Some item →
      spelling_of item ≡ Some body → cond t (Some []) (option_and_then spelling_of (item_in text)) ≡ Some body
  spelled body text true e item is spells =
      absurd (let none : item_in text ≡ None = ap item_in (word_there (codes "-") text e) ∙ hyphen in cc)
  spelled body text false e item is spells = rw is spells

  again : (body text : List ℕ) → IsBody body text → body_in text ≡ Some body
  again body text (inl (hyphen_is, none)) = ap body_in hyphen_is ∙ ap (λ (s : List ℕ). Some s) (sym none)
  again body text (inr (item, reads, faultless, same)) =
      let spells : spelling_of item ≡ Some body = rw faultless (ap (λ (s : List ℕ). Some s) (sym same)) in
      spelled body text (bytes_eq text (codes "-")) refl item (item_again text item reads) spells

-- no body begins so
pub no_body_behind_w : (rest : List ℕ) → body_in (codes "W " ++ rest) ≡ None
unfolding read_within item_at kind_at
no_body_behind_w rest = refl
