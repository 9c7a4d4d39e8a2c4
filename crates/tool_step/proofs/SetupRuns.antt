-- The worked setups, computed from what is read of their bodies and from the texts of their codes.
use Rattle.std.proofs.Common.{◌≡◌, refl, sym, ◌∙◌, ap, ◌+◌, ◌&&◌, true, false, nat_lt, ℕ, Bool, List, [], ◌∷◌, length, Option, Some, None}
use Rattle.std.specs.Option.{option_and_then, option_or}
use Rattle.equipment_tables.proofs.Bodies.{body_is}
use Rattle.equipment_tables.specs.declared.answers.Answer.TheVariants as answer
use Rattle.equipment_tables.specs.Answers.{spelled_body}
use Rattle.gem_shapes.specs.Answers.{code_item}
use Rattle.gem_shapes.specs.Asked.{request_of}
use Rattle.gem_shapes.specs.declared.request.Request.{Request}
use Rattle.gem_shapes.specs.declared.request.Request.TheVariants as request
use Rattle.gem_shapes.specs.declared.request.TablesRequest.TheVariants as tables_request
use Rattle.secs_items.specs.declared.item.Item.{Item, out-Item}
use Rattle.secs_items.specs.declared.item.Item.TheFolds.{fold-roll-Item}
use Rattle.secs_items.specs.declared.item.Item.TheOpen.{Item-F}
use Rattle.secs_items.specs.declared.item.Item.TheVariants as item
use Rattle.secs_items.specs.declared.item.Item.TheVariants.{rolls-B, rolls-Bool}
use Rattle.secs_items.specs.declared.item.Item.TheViews.{out-roll-Item, roll-Item}
use Rattle.secs_items.specs.Encoding.{encode_fault, fault_within, first_of, long_fault}
use Rattle.secs_items.specs.Layers.{items_of, kind_of, length_of}
use Rattle.secs_items.specs.Reading.{format_at, head_at, item_at, size_at}
use Rattle.secs_items.specs.Spelling.{shortest_head, shortest_layer, shortest_spelling}
use Rattle.setup_store.proofs.WorkedLists.{out_L, out_U1}
use Rattle.setup_store.specs.Entries.{Entry}
use Rattle.setup_store.specs.Kept.{change_in, kept_by}
use Rattle.setup_store.specs.Worked.{define, eleven, events, linked, ten}
use Rattle.spool_file.specs.Sizes.{slots_for}
use Rattle.tool_step.specs.Disk.{works_behind}
use Rattle.tool_step.specs.Equipment.{EquipmentView}
use Rattle.tool_step.specs.Messages.{heard_turn, keep_turn, read_turn, recorded_turn}
use Rattle.tool_step.specs.Own.{OwnView, ToolTurn}
use Rattle.tool_step.specs.Setup.{next_setup}
use Rattle.tool_step.specs.WorkedSetup.{IsKeptSo, IsNotKept, IsSetUpSo, anew, asked, defines, deletes, ended, filling, full, own_behind, stops_in, tool_with, turn_at, turned}

-- ---- what is read

opened : (x : Item-F Item) (i : Item) → roll-Item x ≡ i → out-Item i ≡ x
opened x i rolls = ap out-Item (sym rolls) ∙ out-roll-Item x

out_B : (xs : List ℕ) → out-Item (item.B xs) ≡ Item-F.B xs
out_B xs = opened (Item-F.B xs) (item.B xs) (rolls-B xs)

out_Bool : (xs : List ℕ) → out-Item (item.Bool xs) ≡ Item-F.Bool xs
out_Bool xs = opened (Item-F.Bool xs) (item.Bool xs) (rolls-Bool xs)

reads_ten : request_of 2 33 ten.body ≡ Some (defines 10)
unfolding item_at head_at format_at size_at
reads_ten = simp (out_L, out_U1) refl

reads_eleven : request_of 2 33 eleven.body ≡ Some (defines 11)
unfolding item_at head_at format_at size_at
reads_eleven = simp (out_L, out_U1) refl

reads_none : request_of 2 33 (define []).body ≡ Some deletes
unfolding item_at head_at format_at size_at
reads_none = simp (out_L, out_U1) refl

reads_link :
    request_of 2 35 linked.body
    ≡ Some (request.OfTables (tables_request.Link 0 (record { ceid = 1; rptids = 10 ∷ [] } ∷ [])))
unfolding item_at head_at format_at size_at
reads_link = simp (out_L, out_U1) refl

reads_events : request_of 2 37 (events 1 []).body ≡ Some (request.OfTables (tables_request.EnableEvents true []))
unfolding item_at head_at format_at size_at
reads_events = simp (out_L, out_Bool) refl

-- ---- the texts of codes

spells_code : (code : ℕ) → shortest_spelling (code_item code) ≡ 33 ∷ 1 ∷ code ∷ []
spells_code code =
    ap shortest_spelling (sym (rolls-B (code ∷ [])))
    ∙ fold-roll-Item (List ℕ) shortest_layer (Item-F.B (code ∷ []))

no_fault : (code : ℕ) → encode_fault (code_item code) ≡ None
unfolding encode_fault
no_fault code =
    ap (λ (x : Item-F Item). option_or (long_fault 0 (length_of x))
    (first_of (fault_within 63) (0 + length (shortest_head (kind_of x) (length_of x))) (items_of x)))
    (out_B (code ∷ []))

pub text_is : (code : ℕ) → nat_lt code 256 ≡ true
    → spelled_body 4096 (code_item code) ≡ answer.Body (33 ∷ 1 ∷ code ∷ [])
text_is code is_byte =
    sym (body_is 4096 (code_item code) (33 ∷ 1 ∷ code ∷ [])
    (ap (λ (bytes : List ℕ). nat_lt 4096 (length bytes)) (spells_code code)) (no_fault code)
    (ap (λ b. b && true) is_byte) (sym (spells_code code)))

-- ---- one that is kept

abbrev s : EquipmentView
s = tool_with (Some [])

next_ten : (wait : Bool) (system : ℕ) → next_setup (defines 10) (asked wait system ten) s.node.own ≡ Some (ten ∷ [])
unfolding slots_for
next_ten wait system =
    ap (λ (r : Option Request). Some (kept_by (option_and_then change_in r) [] ten)) reads_ten

turn_ten : (wait : Bool) → turn_at (defines 10) (asked wait 5 ten) s
    ≡ recorded_turn (asked wait 5 ten) (keep_turn (ten ∷ []) (defines 10) (asked wait 5 ten) s.node.own)
unfolding slots_for
turn_ten wait =
    ap (λ (next : Option (List Entry)). heard_turn next 0 (defines 10) (asked wait 5 ten) s.node.own)
    (next_ten wait 5)

pub is-kept-so : IsKeptSo
unfolding slots_for
is-kept-so = record {
  read = λ header. ap (λ r. read_turn 0 r header (asked true 5 ten) s.node.own) reads_ten;
  notes =
      ap (λ (turn : ToolTurn). (ended (turned turn (asked true 5 ten) s)).notes) (turn_ten true)
      ∙ simp (text_is 0 refl) refl;
  works = ap (λ (turn : ToolTurn). works_behind (turned turn (asked true 5 ten) s)) (turn_ten true);
  stops = ap (λ (turn : ToolTurn). stops_in (turned turn (asked true 5 ten) s)) (turn_ten true);
  file =
      ap (λ (turn : ToolTurn). (ended (turned turn (asked true 5 ten) s)).next.file.setup.bytes) (turn_ten true)
      ∙ simp (text_is 0 refl) refl;
  list =
      ap (λ (turn : ToolTurn). (ended (turned turn (asked true 5 ten) s)).next.node.own.setup) (turn_ten true)
      ∙ simp (text_is 0 refl) refl;
  unasked =
      ap (λ (turn : ToolTurn). (ended (turned turn (asked false 5 ten) s)).notes) (turn_ten false)
      ∙ simp (text_is 0 refl) refl;
}

pub is-not-kept : IsNotKept
unfolding slots_for
is-not-kept = record {
  refused = simp (text_is 3 refl) refl;
  no_work = simp (text_is 3 refl) refl;
  no_area = simp (text_is 0 refl) refl;
  none_asked = simp (text_is 0 refl) refl;
  fits = refl;
  over = refl;
  unkept =
      ap (λ (r : Option Request). heard_turn (Some (kept_by (option_and_then change_in r) (filling ∷ []) ten)) 0
      (defines 10) (asked true 5 ten) full.node.own) reads_ten;
  define = simp (text_is 1 refl) refl;
  link = simp (text_is 1 refl) refl;
  other = refl;
}

-- ---- three of them

-- what is kept beside the core behind the first of them, and behind the second
abbrev one : OwnView
one = (keep_turn (ten ∷ []) (defines 10) (asked true 5 ten) s.node.own).own

abbrev two : OwnView
two = (keep_turn [] deletes (asked true 6 (define [])) one).own

last-alone : anew.setup ≡ Some (eleven ∷ [])
unfolding slots_for
last-alone =
    ap (λ (own : OwnView). (own_behind (defines 11) (asked true 7 eleven)
    (own_behind deletes (asked true 6 (define [])) own)).setup) (ap (λ (turn : ToolTurn). turn.own) (turn_ten true))
    ∙ ap (λ (r : Option Request). (own_behind (defines 11) (asked true 7 eleven)
    (heard_turn (Some (kept_by (option_and_then change_in r) (ten ∷ []) (define []))) 0 deletes
    (asked true 6 (define [])) one).own).setup) reads_none
    ∙ ap (λ (r : Option Request).
    (heard_turn (Some (kept_by (option_and_then change_in r) [] eleven)) 0 (defines 11) (asked true 7 eleven)
    two).own.setup) reads_eleven

-- ---- a start

pub is-set-up-so : IsSetUpSo
unfolding slots_for
is-set-up-so = record {
  last_alone = last-alone;
  notes = simp (reads_ten, reads_link, reads_events) refl;
  list = refl;
  none = refl;
  enabled = simp (reads_ten, reads_link, reads_events) refl;
  told = λ value. simp (reads_ten, reads_link, reads_events) refl;
}
