-- A put up to its last gate: what a crash finds while it is made, and the spool behind it.
use Rattle.std.proofs.Common.{◌≡◌, ◌⊎◌, inl, inr, ℕ, zero, suc, ◌+◌, ◌^◌, ◌%◌, ◌<◌, ◌≤◌, ◌==◌, Bool, false}
use Rattle.std.proofs.Common.{if◌then◌else◌, List, [], ◌∷◌, ◌++◌, length, slice_index, Option, Some, None, Ok, ◌∙◌}
use Rattle.std.proofs.Common.{refl, sym, ap, subst, arith}
use Rattle.std.proofs.lemmas.Bool.{cases_eq}
use Rattle.std.proofs.lemmas.Bool.Decides.{nat_tests}
use Rattle.std.proofs.lemmas.List.Sums.{fold-append}
use Rattle.std.proofs.lemmas.Nat.{mod_below}
use Rattle.std.specs.Option.{option_map}
use Rattle.disk_base.specs.Calls.{DiskCall, sync_call}
use Rattle.disk_base.specs.Listed.{next_story}
use Rattle.disk_base.specs.Story.{Story, bytes_at}
use Rattle.disk_base.specs.Through.{GoesThrough, Through}
use Rattle.disk_base.specs.declared.disk.Disk as disk
use Rattle.disk_base.specs.declared.disk.DiskAnswer.{DiskAnswer}
use Rattle.disk_base.specs.declared.disk.DiskAnswer.TheVariants.{Done, Failed}
use Rattle.disk_base.proofs.Moments.{now_is, only_now, starts, through_both, through_more}
use Rattle.spool_file.specs.File.{Ends, SpoolFile, StandsFor, file_in, floor_in, frame_in, gates_below, slots_in}
use Rattle.spool_file.specs.Reading.{most_slots}
use Rattle.spool_file.specs.Sizes.{slots_for}
use Rattle.spool_file.specs.Slot.{head_break, is_open, slot_in, slot_message, slot_place}
use Rattle.spool_file.specs.declared.recovery.Known.{Known}
use Rattle.spool_file.specs.declared.slot.Frame.{Frame}
use Rattle.spool_file.specs.declared.slot.SlotHead.{SlotHead}
use Rattle.spool_file.proofs.BodySizes.{some_slots, within_body, within_version}
use Rattle.spool_file.proofs.Fronts.{made_frame}
use Rattle.spool_file.proofs.Runs.{places_differ}
use Rattle.spool_file.proofs.Sound.{is_good}
use Rattle.spool_slots.specs.Calls.{gate_looks, gate_shuts, number_place, part_bytes, part_calls, part_place, part_writes}
use Rattle.spool_slots.specs.Calls.{stage_calls, synced}
use Rattle.spool_slots.specs.Carried.{CarriesOut, story_behind}
use Rattle.spool_slots.specs.Changes.{HasMade, HasRoomFor, HasStaged, IsSame, IsSameBar, Stages}
use Rattle.spool_slots.specs.Changes.{open_gates}
use Rattle.spool_slots.specs.Files.{gates_shut, shut_in, with_gates}
use Rattle.spool_slots.specs.Losses.{opens}
use Rattle.spool_slots.specs.Put.{AreGates, DifferInRow, FailsAtShuts, GoesToParts, IsBehindGate}
use Rattle.spool_slots.specs.Put.{IsOpenGate, IsPutting, opens_in, shut_steps}
use Rattle.spool_slots.specs.Spool.{HasParts, IsSpool, IsStagedSpool, Rests, in_hand, staged}
use Rattle.spool_slots.proofs.Carrying.{made_before, made_then}
use Rattle.spool_slots.proofs.Going.{IsBut, KeepsEach, but_starts, carries_through, row_done}
use Rattle.spool_slots.proofs.Lasting.{frame_is, rests_for}
use Rattle.spool_slots.proofs.Parts.{head_now, message_now, message_with, parts_keep, there_to}
use Rattle.spool_slots.proofs.Putting.{others_same, putting_stands}
use Rattle.spool_slots.proofs.Rows.{opens_by_file, row_shut}
use Rattle.spool_slots.proofs.Shuts.{IsClosedTo, bools, bools_same, closed_to, length-bools, opens_at, opens_bools}
use Rattle.spool_slots.proofs.Shuts.{shuts_are, shuts_keep, synced_bytes, synced_settled}

pub length-open : (number n : ℕ) (file : SpoolFile) → length (open_gates number n file) ≡ n
length-open number zero file = refl
length-open number (suc n) file = ap suc (length-open (number + 1) n file)

abbrev story_or : Story → Option Story → Story
story_or other None = other
story_or other (Some s) = s

abbrev IsDone : DiskAnswer → Type 0
IsDone Done = Unit {0}
IsDone Failed = ⊥

pub not_failed : Done ≡ Failed → ⊥
not_failed is = subst IsDone is tt

-- a story that is told behind two rows comes from one
pub told_back : (o : Option Story) (f g : Story → Story) (t : Story) → option_map g (option_map f o) ≡ Some t →
    (s : Story) × (o ≡ Some s) × (g (f s) ≡ t)
told_back None f g t is = absurd (grind (arith, is))
told_back (Some s) f g t is = (s, refl, ap (story_or t) is)

-- a message that has room
module _ {D : Type 0} (members : disk.Ghosts D) (d d' : D) (k : Known) (is : IsSpool members (in_hand d k))
    (stream function : ℕ) (body : List ℕ) (room : HasRoomFor (in_hand d k) (length body)) where
  abbrev size : ℕ
  size = slots_for (length body)

  abbrev parts : List DiskCall
  parts = part_calls k.slots k.next stream function body

  abbrev looks : List DiskCall
  looks = gate_looks k.slots k.next size

  abbrev shuts : List ℕ → List DiskCall
  shuts gates = synced (shut_steps k.slots k.next size gates)

  -- which gates were open, by what was read
  abbrev pub seen_open : List ℕ → List Bool
  seen_open gates = bools (λ p. opens (slice_index gates p)) size

  -- ---- the calls

  pub row_is : (gates : List ℕ) →
      (looks ++ shuts gates) ++ parts ≡ stage_calls k.slots k.next (seen_open gates) stream function body
  row_is gates =
      ap (λ (row : List DiskCall). (looks ++ synced row) ++ parts)
      (shuts_are k.slots k.next (λ p. opens (slice_index gates p)) size)
      ∙ ap (λ (n : ℕ). (gate_looks k.slots k.next n ++ synced (gate_shuts k.slots k.next (seen_open gates))) ++ parts)
      (sym (length-bools (λ p. opens (slice_index gates p)) size))

  abbrev MadeAs : List Bool → DiskAnswer → Type 0
  MadeAs stale answer = HasMade members d d' (stage_calls k.slots k.next stale stream function body) answer

  looks_made : (stale : List Bool) → length stale ≡ size → CarriesOut members d d' looks Failed → MadeAs stale Failed
  looks_made stale long row =
      let closing = synced (gate_shuts k.slots k.next stale) in
      subst (λ (n : ℕ). HasMade members d d' ((gate_looks k.slots k.next n ++ closing) ++ parts) Failed) (sym long)
      (made_before members d d' (looks ++ closing) parts (made_before members d d' looks closing row.made))

  shuts_made : (gates : List ℕ) (looked : D) → CarriesOut members d looked looks Done →
      CarriesOut members looked d' (shuts gates) Failed → MadeAs (seen_open gates) Failed
  shuts_made gates looked first second =
      subst (λ (row : List DiskCall). HasMade members d d' row Failed) (row_is gates)
      (made_before members d d' (looks ++ shuts gates) parts
      (made_then members d looked d' looks (shuts gates) Failed first.made second.made))

  parts_made : (gates : List ℕ) (answer : DiskAnswer) →
      GoesToParts members d d' k.slots k.next size gates parts answer → MadeAs (seen_open gates) answer
  parts_made gates answer goes =
      subst (λ (row : List DiskCall). HasMade members d d' row answer) (row_is gates)
      (made_then members d goes.shut d' (looks ++ shuts gates) parts answer
      (made_then members d goes.looked goes.shut looks (shuts gates) Done goes.looks.made goes.shuts.made)
      goes.parts.made)

  -- ---- the slots

  some : 1 ≤ size
  some = some_slots (length body)

  differ : DifferInRow k.slots k.next size
  differ p q p_less q_less same = by_case (cases_eq p q) where
    by_case : (p ≡ q) ⊎ (p ≡ q → ⊥) → p ≡ q
    by_case (inl here) = here
    by_case (inr other) = absurd (places_differ (k.next + p) (k.next + q) k.next k.slots (omega arith)
        (omega (arith, p_less, room.free, is.from)) (omega arith) (omega (arith, q_less, room.free, is.from))
        (λ e. other (omega (arith, e))) same)

  module _ (s : Story) (told : members.told d ≡ Some s) where
    abbrev bytes : List ℕ
    bytes = s.now.bytes

    abbrev Open : ℕ → Type 0
    Open = IsOpenGate k.slots k.next (opens_in bytes k.slots k.next size)

    abbrev Behind : ℕ → Type 0
    Behind = IsBehindGate k.slots k.next size

    rests : Rests s k
    rests = is.rests s told

    fits : (p : ℕ) → number_place k.slots (k.next + p) + 4096 ≤ length bytes
    fits p =
        let below = mod_below (k.next + p) k.slots (omega (arith, is.some)) in omega (arith, below, rests.inside)

    -- the gates that were read are those of the file
    pub seen_is : (gates : List ℕ) → AreGates (members.told d) k.slots k.next size gates →
        seen_open gates ≡ open_gates k.next size (file_in bytes)
    seen_is gates are =
        bools_same (λ p. opens (slice_index gates p)) (λ p. opens_at bytes k.slots (k.next + p)) size
        (λ p below. ap opens (are s told p below))
        ∙ sym (opens_bools bytes k.slots k.next size)
        ∙ ap (λ (n : ℕ). opens_in bytes n k.next size) rests.slots_are
        ∙ sym (opens_by_file bytes (subst (λ (n : ℕ). 1 ≤ n) rests.slots_are is.some) k.next size)

    -- ---- what bytes stand for meanwhile

    -- a place isn't both a gate and behind one
    gate_or_behind : (i j place : ℕ) → slot_place i < place → place < slot_place i + 4096 → place ≡ slot_place j → ⊥
    gate_or_behind i j place from to same = omega (arith, from, to, same)

    pub open_putting : (image : List ℕ) → IsBut Open bytes image → IsPutting k.slots k.next size bytes image
    open_putting image but = record {
      long = but.long;
      kept = λ place none_behind none_open. but.kept place none_open;
      closed = inr (λ place behind. but.kept place (λ gate.
          gate_or_behind ((k.next + behind.0) % k.slots) ((k.next + gate.0) % k.slots) place behind.2 behind.3 gate.3));
    }

    module _ (now : List ℕ) (shut : IsClosedTo bytes k.slots k.next size now) (open_only : IsBut Open bytes now)
        (image : List ℕ) (but : IsBut Behind now image) where
      pub closed_in : (p : ℕ) → p < size → opens (slice_index image (number_place k.slots (k.next + p))) ≡ false
      closed_in p below =
          ap opens (but.kept (number_place k.slots (k.next + p)) (λ behind.
          gate_or_behind ((k.next + behind.0) % k.slots) ((k.next + p) % k.slots)
          (number_place k.slots (k.next + p)) behind.2 behind.3 refl))
          ∙ shut.closed p below

      pub parts_putting : IsPutting k.slots k.next size bytes image
      parts_putting = record {
        long = but.long ∙ shut.long;
        kept = λ place none_behind none_open. but.kept place none_behind ∙ open_only.kept place none_open;
        closed = inl closed_in;
      }

    pub putting_bar : (image : List ℕ) → IsPutting k.slots k.next size bytes image → IsSameBar bytes image
    putting_bar image put =
        (gates_below (slot_in image) k.slots, putting_stands s k rests is.room size room.free image put)

    pub shut_stands : (image : List ℕ) → IsPutting k.slots k.next size bytes image →
        ((p : ℕ) → p < size → opens (slice_index image (number_place k.slots (k.next + p))) ≡ false) →
        StandsFor image (shut_in k.next size bytes)
    shut_stands image put closed =
        let gates = row_shut (slot_in bytes) (slot_in image) k.slots k.next size
        (λ j below none. ap is_open (others_same s k rests is.room size room.free image put j below none))
        (λ j below row. ap (λ (i : ℕ). opens (slice_index image (slot_place i))) row.2 ∙ closed row.0 row.1) in
        subst (λ (all : List Bool). StandsFor image (with_gates all (file_in bytes)))
        (gates ∙ ap (λ (n : ℕ). gates_shut n k.next size (gates_below (slot_in bytes) n)) rests.slots_are)
        (putting_stands s k rests is.room size room.free image put)

    -- ---- where the looks failed, or the 00s

    pub looks_hold : members.told d' ≡ members.told d → GoesThrough s (members.told d') (IsSame bytes)
    looks_hold same = (
      s,
      same ∙ told,
      starts s (IsSame bytes) (λ image left.
          subst (IsSame bytes) (sym (only_now s.now image rests.settled left))
          (record { sound = rests.sound; is = refl })),
    )

    module _ (gates : List ℕ) (are : AreGates (members.told d) k.slots k.next size gates) where
      abbrev shut_row : List DiskCall
      shut_row = shuts gates

      keeps : KeepsEach (IsBut Open bytes) (length bytes) shut_row
      keeps = shuts_keep s k.slots k.next size gates (are s told) fits

      pub shuts_hold : (looked : D) (answer : DiskAnswer) → members.told looked ≡ members.told d →
          CarriesOut members looked d' shut_row answer → GoesThrough s (members.told d') (IsSameBar bytes)
      shuts_hold looked answer same row =
          let goes = carries_through members looked d' shut_row answer s s (IsBut Open bytes) row (same ∙ told)
          (but_starts s Open rests.settled) keeps in (
            goes.0,
            goes.1,
            through_more s goes.0 (IsBut Open bytes) (IsSameBar bytes)
                (λ image but. putting_bar image (open_putting image but)) goes.2,
          )

      -- ---- behind the 00s

      abbrev shut_story : Story
      shut_story = story_behind shut_row s

      abbrev mid : List ℕ
      mid = shut_story.now.bytes

      through_shuts : Through s shut_story (IsBut Open bytes) × (length mid ≡ length bytes)
      through_shuts =
          row_done s (IsBut Open bytes) (length bytes) shut_row s refl keeps (but_starts s Open rests.settled)

      pub mid_settled : shut_story.now.loose ≡ []
      mid_settled = synced_settled (shut_steps k.slots k.next size gates) s rests.settled

      pub mid_shut : IsClosedTo bytes k.slots k.next size mid
      mid_shut =
          subst (IsClosedTo bytes k.slots k.next size) (sym (synced_bytes (shut_steps k.slots k.next size gates) s))
          (closed_to s k.slots k.next size gates (are s told) fits size (omega arith))

      pub mid_open : IsBut Open bytes mid
      mid_open = through_shuts.0.last mid (now_is shut_story.now)

      mid_fits : (p : ℕ) → number_place k.slots (k.next + p) + 4096 ≤ length mid
      mid_fits p = omega (arith, fits p, mid_shut.long)

      keeps_on : KeepsEach (IsBut Behind mid) (length mid) parts
      keeps_on = parts_keep shut_story k.slots k.next stream function body size mid_fits

      pub shut_told : (looked shut : D) → members.told looked ≡ members.told d →
          CarriesOut members looked shut shut_row Done → members.told shut ≡ Some shut_story
      shut_told looked shut same row =
          row.goes ∙ ap (λ (o : Option Story). option_map (story_behind shut_row) o) (same ∙ told)

      pub parts_go : (shut : D) (answer : DiskAnswer) → members.told shut ≡ Some shut_story →
          CarriesOut members shut d' parts answer → GoesThrough shut_story (members.told d') (IsBut Behind mid)
      parts_go shut answer here row =
          carries_through members shut d' parts answer shut_story shut_story (IsBut Behind mid) row here
          (but_starts shut_story Behind mid_settled) keeps_on

      pub parts_hold : (shut : D) (answer : DiskAnswer) → members.told shut ≡ Some shut_story →
          CarriesOut members shut d' parts answer → GoesThrough s (members.told d') (IsSameBar bytes)
      parts_hold shut answer here row =
          let goes = parts_go shut answer here row in (
            goes.0,
            goes.1,
            through_both s shut_story goes.0 (IsSameBar bytes)
                (through_more s shut_story (IsBut Open bytes) (IsSameBar bytes)
                (λ image but. putting_bar image (open_putting image but)) through_shuts.0)
                (through_more shut_story goes.0 (IsBut Behind mid) (IsSameBar bytes)
                (λ image but. putting_bar image (parts_putting mid mid_shut mid_open image but)) goes.2),
          )

      -- what a crash leaves from there on
      pub behind_stands : (image : List ℕ) → IsBut Behind mid image → StandsFor image (shut_in k.next size bytes)
      behind_stands image but =
          shut_stands image (parts_putting mid mid_shut mid_open image but) (closed_in mid mid_shut mid_open image but)

      -- ---- behind all of it

      abbrev writes : List DiskCall
      writes = part_writes k.slots k.next stream function body size

      abbrev end : Story
      end = story_behind parts shut_story

      end_is : end ≡ story_behind (sync_call Done ∷ []) (story_behind writes shut_story)
      end_is = fold-append next_story shut_story writes (sync_call Done ∷ [])

      pub end_settled : end.now.loose ≡ []
      end_settled = ap (λ (t : Story). t.now.loose) end_is

      end_bytes : end.now.bytes ≡ (story_behind writes shut_story).now.bytes
      end_bytes = ap (λ (t : Story). t.now.bytes) end_is

      end_but : IsBut Behind mid end.now.bytes
      end_but =
          (row_done shut_story (IsBut Behind mid) (length mid) parts shut_story refl keeps_on
          (but_starts shut_story Behind mid_settled)).0.last end.now.bytes (now_is end.now)

      pub end_stands : StandsFor end.now.bytes (shut_in k.next size bytes)
      end_stands = behind_stands end.now.bytes end_but

      end_there : (p : ℕ) → p < size →
          bytes_at end.now.bytes (number_place k.slots (k.next + p) + part_place p)
          (length (part_bytes k.next stream function body p)) ≡ part_bytes k.next stream function body p
      end_there p below =
          subst (λ (now : List ℕ). bytes_at now (number_place k.slots (k.next + p) + part_place p)
          (length (part_bytes k.next stream function body p)) ≡ part_bytes k.next stream function body p) (sym end_bytes)
          ((there_to shut_story k.slots k.next stream function body size mid_fits differ size (omega arith)).1 p below)

      end_fits : (p : ℕ) → number_place k.slots (k.next + p) + 4096 ≤ length end.now.bytes
      end_fits p = omega (arith, mid_fits p, end_but.long)

      module _ (few : stream < 128) (odd : function % 2 ≡ 1) where
        low : k.next < 2 ^ 64
        low = omega (arith, room.number)

        short : length body < 2 ^ 32
        short = let less = within_body k.version k.slots (length body) room.short in omega (arith, less)

        abbrev j : ℕ
        j = k.next % k.slots

        end_head : (slot_in end.now.bytes j).head
            ≡ record { number = k.next; stream = stream; function = function; len = length body }
        end_head =
            head_now end.now.bytes k.slots k.next stream function body low few short is.some end_fits end_there

        -- the message
        pub end_message : slot_message (slots_in end.now.bytes) (slot_in end.now.bytes) j
            ≡ message_with k.next stream function body
        end_message =
            subst (λ (n : ℕ). slot_message n (slot_in end.now.bytes) j ≡ message_with k.next stream function body)
            (rests.slots_are ∙ ap (λ (file : SpoolFile). file.slots) end_stands.is)
            (message_now end.now.bytes k.slots k.next stream function body low few short is.some end_fits end_there)

        end_frame : made_frame k.version k.slots (floor_in bytes) ≡ frame_in end.now.bytes
        end_frame =
            frame_is s k rests is.room
            ∙ ap (λ (file : SpoolFile). made_frame file.version file.slots file.floor.value) end_stands.is

        pub end_parts : HasParts end k.slots k.next size
        end_parts = record {
          closed = λ p below. closed_in mid mid_shut mid_open end.now.bytes end_but p below;
          fields =
              subst (λ (f : Frame). head_break f j (slot_in end.now.bytes j).head ≡ None) end_frame
              (ap (λ (h : SlotHead). head_break (made_frame k.version k.slots (floor_in bytes)) j h) end_head
              ∙ is_good (made_frame k.version k.slots (floor_in bytes)) j
              (record { number = k.next; stream = stream; function = function; len = length body })
              (record {
                short = room.short;
                place = refl;
                number = room.number;
                function = grind (arith, nat_tests, odd);
              }));
          number = ap (λ (h : SlotHead). h.number) end_head;
          size_is = ap (λ (h : SlotHead). slots_for h.len) end_head;
        }

        pub end_rests : Rests end k
        end_rests =
            rests_for end (shut_in k.next size bytes) k end_settled
            (omega (arith, rests.inside, end_but.long, mid_shut.long)) end_stands rests.version_is rests.slots_are
            rests.mark_is rests.low rests.chain rests.count

  -- ---- all of it, whether the disk tells or not

  pub looks_staged : members.told d' ≡ members.told d → CarriesOut members d d' looks Failed →
      HasStaged members (in_hand d k) stream function body d' Failed
  looks_staged same row = by_told (members.told d) refl where
    by_told : (o : Option Story) → members.told d ≡ o →
        HasStaged members (in_hand d k) stream function body d' Failed
    by_told None untold = record {
      room = room;
      stale = seen_open [];
      long = length-bools (λ p. opens (slice_index [] p)) size;
      stale_is = λ s told. absurd (grind (arith, untold, told));
      images = λ s told. absurd (grind (arith, untold, told));
      made = looks_made (seen_open []) (length-bools (λ p. opens (slice_index [] p)) size) row;
    }
    by_told (Some s) told = record {
      room = room;
      stale = open_gates k.next size (file_in s.now.bytes);
      long = length-open k.next size (file_in s.now.bytes);
      stale_is = λ t told'.
          ap (λ (u : Story). open_gates k.next size (file_in u.now.bytes)) (ap (story_or s) (sym told ∙ told'));
      images = λ t told'.
          let goes = looks_hold t told' same in (
            goes.0,
            goes.1,
            through_more t goes.0 (IsSame t.now.bytes) (IsSameBar t.now.bytes)
                (λ image stands. ((file_in t.now.bytes).gates, stands)) goes.2,
          );
      made = looks_made (open_gates k.next size (file_in s.now.bytes)) (length-open k.next size (file_in s.now.bytes)) row;
    }

  pub shuts_staged : (gates : List ℕ) → AreGates (members.told d) k.slots k.next size gates →
      FailsAtShuts members d d' k.slots k.next size gates Failed →
      HasStaged members (in_hand d k) stream function body d' Failed
  shuts_staged gates are fails = record {
    room = room;
    stale = seen_open gates;
    long = length-bools (λ p. opens (slice_index gates p)) size;
    stale_is = λ s told. seen_is s told gates are;
    images = λ s told. shuts_hold s told gates are fails.looked Failed fails.told fails.shuts;
    made = shuts_made gates fails.looked fails.looks fails.shuts;
  }

  pub parts_staged : (gates : List ℕ) (answer : DiskAnswer) → AreGates (members.told d) k.slots k.next size gates →
      GoesToParts members d d' k.slots k.next size gates parts answer →
      HasStaged members (in_hand d k) stream function body d' answer
  parts_staged gates answer are goes = record {
    room = room;
    stale = seen_open gates;
    long = length-bools (λ p. opens (slice_index gates p)) size;
    stale_is = λ s told. seen_is s told gates are;
    images = λ s told.
        parts_hold s told gates are goes.shut answer (shut_told s told gates are goes.looked goes.shut goes.told goes.shuts)
        goes.parts;
    made = parts_made gates answer goes;
  }

  -- ---- it was all done

  module _ (gates : List ℕ) (are : AreGates (members.told d) k.slots k.next size gates)
      (goes : GoesToParts members d d' k.slots k.next size gates parts Done) (few : stream < 128)
      (odd : function % 2 ≡ 1) where
    came : (t : Story) → members.told d' ≡ Some t →
        (s : Story) × (members.told d ≡ Some s) × (story_behind parts (story_behind (shuts gates) s) ≡ t)
    came t told' =
        told_back (members.told d) (story_behind (shuts gates)) (story_behind parts) t
        (ap (λ (o : Option Story). option_map (story_behind parts) o)
        (ap (λ (o : Option Story). option_map (story_behind (shuts gates)) o) (sym goes.told) ∙ sym goes.shuts.goes)
        ∙ sym goes.parts.goes ∙ told')

    pub staged_spool : IsStagedSpool members (staged d' k size)
    staged_spool = record {
      spool = record {
        version = is.version;
        some = is.some;
        most = is.most;
        fits = subst (λ (n : ℕ). slot_place k.slots ≤ n) (sym (parts_made gates Done goes).size) is.fits;
        from = is.from;
        none = is.none;
        even = is.even;
        room = is.room;
        numbers = is.numbers;
        mark_most = is.mark_most;
        rests = λ t told'.
            let s = came t told' in
            subst (λ (u : Story). Rests u k) s.2 (end_rests s.0 s.1 gates are few odd);
      };
      some = some;
      single = λ one. by_version one (within_version k.version k.slots (length body) room.short);
      free = room.free;
      number = room.number;
      parts = λ t told'.
          let s = came t told' in
          subst (λ (u : Story). HasParts u k.slots k.next size) s.2 (end_parts s.0 s.1 gates are few odd);
    } where
      by_version : k.version ≡ 1 → size ≤ most_slots k.version → size ≡ 1
      by_version one less =
          let most : size ≤ 1 = subst (λ (v : ℕ). size ≤ (if v == 1 then 1 else 257)) one less in
          omega (arith, most, some)

    pub stages : Stages members (in_hand d k) stream function body (Ok (staged d' k size))
    stages = (
      parts_staged gates Done are goes,
      refl,
      λ s t told told'.
          let here = shut_told s told gates are goes.looked goes.shut goes.told goes.shuts in
          let same : story_behind parts (story_behind (shuts gates) s) ≡ t =
          ap (story_or t) (sym (ap (λ (o : Option Story). option_map (story_behind parts) o) here)
          ∙ sym goes.parts.goes ∙ told') in
          subst (λ (u : Story). Ends u (shut_in k.next size s.now.bytes)) same
          (record { settled = end_settled s told gates are; stands = end_stands s told gates are }),
      λ t told'.
          let s = came t told' in
          subst (λ (u : Story). slot_message (slots_in u.now.bytes) (slot_in u.now.bytes) (k.next % k.slots)
          ≡ message_with k.next stream function body) s.2 (end_message s.0 s.1 gates are few odd),
    )
