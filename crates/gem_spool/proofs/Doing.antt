-- That works done in turn make what they say.
use Rattle.std.proofs.Common.{◌≡◌, inl, inr, ℕ, ◌+◌, ◌-◌, ◌<◌, List, [], ◌∷◌, ◌++◌, drop, length, sum_by, Some, Ok}
use Rattle.std.proofs.Common.{refl, sym, ap, subst, length-append, ◌∙◌, arith}
use Rattle.std.proofs.lemmas.List.Sums.{sum_by-append, sum_by-cons}
use Rattle.disk_base.specs.Story.{Story}
use Rattle.disk_base.specs.declared.disk.Disk as disk
use Rattle.gem_spool.specs.Spool.{HasList, numbered, put_in}
use Rattle.gem_spool.specs.declared.count.Count.{Count}
use Rattle.gem_spool.specs.Standing.{Standing, Stands, count_in, count_of}
use Rattle.gem_spool.specs.Works.{AreDue, AreSized, Does, IsDue, IsSized, count_after, counts_after, file_after}
use Rattle.gem_spool.specs.Works.{floor_above, len_after, list_after, lists_after, next_after, oldest_width}
use Rattle.gem_spool.specs.Works.{standing_after, standings_after, used_after}
use Rattle.gem_spool.specs.declared.spool.GemSpool.{GemSpool}
use Rattle.gem_spool.specs.declared.works.Work.{Work}
use Rattle.gem_spool.specs.declared.works.Work.TheVariants as work
use Rattle.gem_spool.proofs.Lists.{clear_list, clear_told, drop_list, drop_told, put_list, put_told}
use Rattle.spool_file.specs.File.{Ends, SpoolFile, file_in}
use Rattle.spool_file.specs.Run.{IsChainFrom}
use Rattle.spool_file.specs.Sizes.{slots_for}
use Rattle.spool_file.specs.Slot.{Message, width}
use Rattle.spool_file.proofs.Runs.{chain_last}
use Rattle.spool_slots.specs.Changes.{Clears}
use Rattle.spool_slots.specs.Files.{cleared_in, dropped_in, with_floor_moved, with_message, with_shut}
use Rattle.spool_slots.specs.Files.{without_first}
use Rattle.spool_slots.specs.Spool.{SpoolView}

-- ---- numbers

-- each has its turn
pub due_at : (c : Count) (xs : List Work) (one : Work) (rest : List Work) → AreDue c (xs ++ one ∷ rest) →
    IsDue (counts_after c xs) one
due_at c [] one rest due = due.0
due_at c (x ∷ xs) one rest due = due_at (count_after c x) xs one rest due.1

-- one more has its turn behind them
pub due_more : (c : Count) (xs : List Work) (one : Work) → AreDue c xs → IsDue (counts_after c xs) one →
    AreDue c (xs ++ one ∷ [])
due_more c [] one due last = (last, tt)
due_more c (x ∷ xs) one due last = (due.0, due_more (count_after c x) xs one due.1 last)

same_len : (next : ℕ) (list : List Message) (one : Work) →
    len_after (length list) one ≡ length (list_after next list one)
same_len next list (work.Put stream function body) =
    omega (arith, length-append list (record { number = next; stream = stream; function = function; body = body } ∷ []))
same_len next [] (work.DropOldest slots) = refl
same_len next (message ∷ list) (work.DropOldest slots) = omega arith
same_len next list work.Purge = refl

-- and the slots that they take, where a drop frees those of the first
same_used : (next : ℕ) (list : List Message) (one : Work) → IsSized list one →
    used_after (sum_by width list) one ≡ sum_by width (list_after next list one)
same_used next list (work.Put stream function body) sized =
    let message : Message = record { number = next; stream = stream; function = function; body = body } in
    sym (sum_by-append width list (message ∷ [])
    ∙ ap (λ (n : ℕ). sum_by width list + n) (sum_by-cons width message [] ∙ omega arith))
same_used next [] (work.DropOldest slots) sized = omega arith
same_used next (message ∷ list) (work.DropOldest slots) sized =
    let all = sum_by-cons width message list in omega (arith, all, sized)
same_used next list work.Purge sized = refl

-- the numbers of a list that works change are changed likewise
abbrev counted : Standing → Work → (len used : ℕ) → Count
counted st one len used = record {
  version = st.file.version;
  slots = st.file.slots;
  next = next_after st.next one;
  len = len;
  used = used;
}

pub count_keeps : (st : Standing) (one : Work) → IsSized st.file.list one →
    count_after (count_in st) one ≡ count_in (standing_after st one)
count_keeps st one sized =
    ap (λ (n : ℕ). counted st one n (used_after (sum_by width st.file.list) one)) (same_len st.next st.file.list one)
    ∙ ap (λ (n : ℕ). counted st one (length (list_after st.next st.file.list one)) n)
    (same_used st.next st.file.list one sized)

pub counts_keep : (st : Standing) (works : List Work) → AreSized st.next st.file.list works →
    counts_after (count_in st) works ≡ count_in (standings_after st works)
counts_keep st [] sized = refl
counts_keep st (one ∷ works) sized =
    ap (λ (c : Count). counts_after c works) (count_keeps st one sized.0)
    ∙ counts_keep (standing_after st one) works sized.1

-- each frees what it says
pub sized_at : (next : ℕ) (list : List Message) (xs : List Work) (one : Work) (rest : List Work) →
    AreSized next list (xs ++ one ∷ rest) → IsSized (lists_after next list xs) one
sized_at next list [] one rest sized = sized.0
sized_at next list (x ∷ xs) one rest sized =
    sized_at (next_after next x) (list_after next list x) xs one rest sized.1

pub sized_front : (next : ℕ) (list : List Message) (xs rest : List Work) → AreSized next list (xs ++ rest) →
    AreSized next list xs
sized_front next list [] rest sized = tt
sized_front next list (x ∷ xs) rest sized =
    (sized.0, sized_front (next_after next x) (list_after next list x) xs rest sized.1)

-- ---- one work

module _ {D : Type 0} (members : disk.Ghosts D) where
  abbrev made : (version slots next len used : ℕ) → Count
  made version slots next len used =
      record { version = version; slots = slots; next = next; len = len; used = used }

  pub count_is : (v : SpoolView D) (version slots next len used : ℕ) → v.version ≡ version → v.slots ≡ slots →
      v.next ≡ next → v.len ≡ len → v.next - v.first ≡ used →
      count_of v ≡ record { version = version; slots = slots; next = next; len = len; used = used }
  count_is v version slots next len used a b c d e =
      ap (λ (n : ℕ). made n v.slots v.next v.len (v.next - v.first)) a
      ∙ ap (λ (n : ℕ). made version n v.next v.len (v.next - v.first)) b
      ∙ ap (λ (n : ℕ). made version slots n v.len (v.next - v.first)) c
      ∙ ap (λ (n : ℕ). made version slots next n (v.next - v.first)) d
      ∙ ap (λ (n : ℕ). made version slots next len n) e

  -- a spool that was emptied
  record IsEmptied (v w : SpoolView D) : Type 0 where
    pub version : w.version ≡ v.version
    pub slots : w.slots ≡ v.slots
    pub next : w.next ≡ v.next
    pub first : w.first ≡ w.next
    pub len : w.len ≡ 0
    pub mark : w.mark ≡ v.mark

  clear_view : (v w : SpoolView D) → Clears members v (Ok w) → IsEmptied v w
  clear_view v w (inl none) = record {
    version = ap (λ (x : SpoolView D). x.version) none.2;
    slots = ap (λ (x : SpoolView D). x.slots) none.2;
    next = ap (λ (x : SpoolView D). x.next) none.2;
    first = ap (λ (x : SpoolView D). x.first) none.2 ∙ none.1 ∙ sym (ap (λ (x : SpoolView D). x.next) none.2);
    len = ap (λ (x : SpoolView D). x.len) none.2 ∙ none.0;
    mark = ap (λ (x : SpoolView D). x.mark) none.2;
  }
  clear_view v w (inr moved) = record {
    version = ap (λ (x : SpoolView D). x.version) moved.1;
    slots = ap (λ (x : SpoolView D). x.slots) moved.1;
    next = ap (λ (x : SpoolView D). x.next) moved.1;
    first = ap (λ (x : SpoolView D). x.first) moved.1 ∙ sym (ap (λ (x : SpoolView D). x.next) moved.1);
    len = ap (λ (x : SpoolView D). x.len) moved.1;
    mark = ap (λ (x : SpoolView D). x.mark) moved.1;
  }

  pub does_count : (g h : GemSpool D) (one : Work) → Does members g one (Ok h) →
      count_of h.spool ≡ count_after (count_of g.spool) one
  does_count g h (work.Put stream function body) done =
      let view = ap (λ (x : GemSpool D). x.spool) done.3 in
      let first : h.spool.first ≡ g.spool.first = ap (λ (x : SpoolView D). x.first) view in
      let next : h.spool.next ≡ g.spool.next + slots_for (length body) = ap (λ (x : SpoolView D). x.next) view in
      let from = done.1.1.0.room.from in
      count_is h.spool g.spool.version g.spool.slots (g.spool.next + slots_for (length body)) (g.spool.len + 1)
      (g.spool.next - g.spool.first + slots_for (length body)) (ap (λ (x : SpoolView D). x.version) view)
      (ap (λ (x : SpoolView D). x.slots) view) next (ap (λ (x : SpoolView D). x.len) view)
      (omega (arith, first, next, from))
  does_count g h (work.DropOldest slots) done =
      let view = done.0.1 in
      let first : h.spool.first ≡ g.spool.first + slots = ap (λ (x : SpoolView D). x.first) view in
      let next : h.spool.next ≡ g.spool.next = ap (λ (x : SpoolView D). x.next) view in
      count_is h.spool g.spool.version g.spool.slots g.spool.next (g.spool.len - 1)
      (g.spool.next - g.spool.first - slots) (ap (λ (x : SpoolView D). x.version) view)
      (ap (λ (x : SpoolView D). x.slots) view) next (ap (λ (x : SpoolView D). x.len) view) (omega (arith, first, next))
  does_count g h work.Purge done =
      let view = clear_view g.spool h.spool done.0 in
      let first = view.first in
      count_is h.spool g.spool.version g.spool.slots g.spool.next 0 0 view.version view.slots view.next view.len
      (omega (arith, first))

  pub does_mark : (g h : GemSpool D) (one : Work) → Does members g one (Ok h) → h.spool.mark ≡ g.spool.mark
  does_mark g h (work.Put stream function body) done = ap (λ (x : GemSpool D). x.spool.mark) done.3
  does_mark g h (work.DropOldest slots) done = ap (λ (x : SpoolView D). x.mark) done.0.1
  does_mark g h work.Purge done = (clear_view g.spool h.spool done.0).mark

  pub does_active : (g h : GemSpool D) (one : Work) → Does members g one (Ok h) → h.active ≡ g.active
  does_active g h (work.Put stream function body) done = ap (λ (x : GemSpool D). x.active) done.3
  does_active g h (work.DropOldest slots) done = done.1
  does_active g h work.Purge done = done.1

  -- a disk that tells its bytes told them before
  pub does_told : (g h : GemSpool D) (one : Work) → Does members g one (Ok h) → (t : Story) →
      members.told h.spool.disk ≡ Some t → (s : Story) × (members.told g.spool.disk ≡ Some s)
  does_told g h (work.Put stream function body) done t told =
      let mid = done.1 in
      put_told members g.spool stream function body mid.0 h.spool mid.1 mid.2 t told
  does_told g h (work.DropOldest slots) done t told =
      drop_told members g.spool h.spool done.0.0 (λ s u told_s told_u. done.0.2 s u told_s told_u) t told
  does_told g h work.Purge done t told = clear_told members g.spool h.spool done.0 t told

  pub does_list : (g h : GemSpool D) (one : Work) → Does members g one (Ok h) → (list : List Message) →
      HasList members g.spool list → HasList members h.spool (list_after g.spool.next list one)
  does_list g h (work.Put stream function body) done list has =
      let mid = done.1 in
      put_list members g.spool stream function body done.0.fits mid.0 h.spool mid.1 mid.2 list has
  does_list g h (work.DropOldest slots) done list has =
      drop_list members g.spool h.spool done.0.0 (λ s u told_s told_u. done.0.2 s u told_s told_u) list has
  does_list g h work.Purge done list has = clear_list members g.spool h.spool done.0

  pub next_count : (g h : GemSpool D) (one : Work) (st : Standing) → count_of g.spool ≡ count_in st →
      IsSized st.file.list one → Does members g one (Ok h) → count_of h.spool ≡ count_in (standing_after st one)
  next_count g h one st count sized done =
      does_count g h one done ∙ ap (λ (c : Count). count_after c one) count ∙ count_keeps st one sized

  -- the file that stands is that of the list in hand
  pub same_file : (v : SpoolView D) (st : Standing) → Stands members v st → (s : Story) → members.told v.disk ≡ Some s →
      st.file ≡ file_in s.now.bytes
  same_file v st stands s told = (stands.file s told).stands.is

  pub next_is : (v : SpoolView D) (st : Standing) → Stands members v st → v.next ≡ st.next
  next_is v st stands = ap (λ (c : Count). c.next) stands.count

  pub len_is : (v : SpoolView D) (st : Standing) → Stands members v st → v.len ≡ length st.file.list
  len_is v st stands = ap (λ (c : Count). c.len) stands.count

  -- the file with a message more
  pub put_file : (v : SpoolView D) (st : Standing) (stream function : ℕ) (body : List ℕ) → Stands members v st →
      (s : Story) → members.told v.disk ≡ Some s →
      put_in (numbered v stream function body) s.now.bytes
      ≡ (standing_after st (work.Put stream function body)).file
  put_file v st stream function body stands s told =
      let message = numbered v stream function body in
      ap (λ (f : SpoolFile). with_message message (with_shut message.number (width message) f))
      (sym (same_file v st stands s told))
      ∙ ap (λ (n : ℕ). file_after n st.file (work.Put stream function body)) (next_is v st stands)

  pub drop_file : (v : SpoolView D) (st : Standing) (slots : ℕ) → Stands members v st → (s : Story) →
      members.told v.disk ≡ Some s → dropped_in s.now.bytes ≡ (standing_after st (work.DropOldest slots)).file
  drop_file v st slots stands s told = ap without_first (sym (same_file v st stands s told))

  -- and the file without any, whose floor was moved
  pub clear_file : (v : SpoolView D) (st : Standing) → Stands members v st → 0 < v.len → (s : Story) →
      members.told v.disk ≡ Some s → cleared_in v.next s.now.bytes ≡ (standing_after st work.Purge).file
  clear_file v st stands some s told =
      ap (λ (f : SpoolFile). with_floor_moved v.next f) (sym (same_file v st stands s told))
      ∙ ap (λ (n : ℕ). with_floor_moved n st.file) (next_is v st stands)
      ∙ moved st.file.list (subst (λ (n : ℕ). 0 < n) (len_is v st stands) some)
    where
      moved : (list : List Message) → 0 < length list →
          with_floor_moved st.next st.file
          ≡ record (with_floor_moved st.next st.file) { floor = floor_above st.next list st.file.floor }
      moved [] none = absurd (omega (arith, none))
      moved (message ∷ list) some = refl

  -- of an empty list a purge makes the same file
  pub none_file : (st : Standing) → length st.file.list ≡ 0 → (standing_after st work.Purge).file ≡ st.file
  none_file st none = go st.file.list none refl
    where
      go : (list : List Message) → length list ≡ 0 → st.file.list ≡ list → (standing_after st work.Purge).file ≡ st.file
      go [] none is =
          ap (λ (l : List Message). record st.file { floor = floor_above st.next l st.file.floor; list = [] }) is
          ∙ ap (λ (l : List Message). record st.file { list = l }) (sym is)
      go (message ∷ list) none is = absurd (omega (arith, none))

  does_file : (g h : GemSpool D) (one : Work) (st : Standing) → Stands members g.spool st →
      Does members g one (Ok h) → (t : Story) → members.told h.spool.disk ≡ Some t →
      Ends t (standing_after st one).file
  does_file g h (work.Put stream function body) st stands done t told =
      let old = does_told g h (work.Put stream function body) done t told in
      subst (λ (f : SpoolFile). Ends t f) (put_file g.spool st stream function body stands old.0 old.1)
      (done.4 old.0 t old.1 told)
  does_file g h (work.DropOldest slots) st stands done t told =
      let old = does_told g h (work.DropOldest slots) done t told in
      subst (λ (f : SpoolFile). Ends t f) (drop_file g.spool st slots stands old.0 old.1) (done.0.2 old.0 t old.1 told)
  does_file g h work.Purge st stands done t told = go done.0
    where
      go : Clears members g.spool (Ok h.spool) → Ends t (standing_after st work.Purge).file
      go (inl none) =
          subst (λ (f : SpoolFile). Ends t f)
          (sym (none_file st (sym (len_is g.spool st stands) ∙ none.0)))
          (stands.file t (sym (ap (λ (x : SpoolView D). members.told x.disk) none.2) ∙ told))
      go (inr moved) =
          let old = clear_told members g.spool h.spool (inr moved) t told in
          subst (λ (f : SpoolFile). Ends t f) (clear_file g.spool st stands moved.0.0 old.0 old.1)
          (moved.0.1.1 old.0 t old.1 told)

  -- the chain without its first message
  rest_chain : (first next slots : ℕ) (list : List Message) → IsChainFrom first next list → 0 < length list →
      slots ≡ oldest_width list → IsChainFrom (first + slots) next (drop 1 list)
  rest_chain first next slots [] chain some sized = absurd (omega (arith, some))
  rest_chain first next slots (message ∷ list) chain some sized =
      subst (λ (n : ℕ). IsChainFrom (first + n) next list) (sym sized) chain.1

  does_chain : (g h : GemSpool D) (one : Work) (st : Standing) → Stands members g.spool st →
      IsSized st.file.list one → Does members g one (Ok h) →
      IsChainFrom h.spool.first h.spool.next (list_after st.next st.file.list one)
  does_chain g h (work.Put stream function body) st stands sized done =
      let view = ap (λ (x : GemSpool D). x.spool) done.3 in
      let message : Message = record { number = st.next; stream = stream; function = function; body = body } in
      let first : h.spool.first ≡ g.spool.first = ap (λ (x : SpoolView D). x.first) view in
      let next : h.spool.next ≡ g.spool.next + slots_for (length body) = ap (λ (x : SpoolView D). x.next) view in
      subst (λ (n : ℕ). IsChainFrom n h.spool.next (st.file.list ++ message ∷ [])) (sym first)
      (subst (λ (n : ℕ). IsChainFrom g.spool.first n (st.file.list ++ message ∷ [])) (sym next)
      (chain_last g.spool.first g.spool.next st.file.list message stands.chain (sym (next_is g.spool st stands))))
  does_chain g h (work.DropOldest slots) st stands sized done =
      let view = done.0.1 in
      let first : h.spool.first ≡ g.spool.first + slots = ap (λ (x : SpoolView D). x.first) view in
      let next : h.spool.next ≡ g.spool.next = ap (λ (x : SpoolView D). x.next) view in
      subst (λ (n : ℕ). IsChainFrom n h.spool.next (drop 1 st.file.list)) (sym first)
      (subst (λ (n : ℕ). IsChainFrom (g.spool.first + slots) n (drop 1 st.file.list)) (sym next)
      (rest_chain g.spool.first g.spool.next slots st.file.list stands.chain
      (subst (λ (n : ℕ). 0 < n) (len_is g.spool st stands) done.0.0.some) sized))
  does_chain g h work.Purge st stands sized done = (clear_view g.spool h.spool done.0).first

  pub does_stands : (g h : GemSpool D) (one : Work) (st : Standing) → Stands members g.spool st →
      IsSized st.file.list one → Does members g one (Ok h) → Stands members h.spool (standing_after st one)
  does_stands g h one st stands sized done = record {
    count = next_count g h one st stands.count sized done;
    mark = does_mark g h one done ∙ stands.mark;
    chain = does_chain g h one st stands sized done;
    file = λ t told. does_file g h one st stands done t told;
  }
