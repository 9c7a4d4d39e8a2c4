-- A file of version 1 is made one of version 2: what a crash finds meanwhile, and the spool behind it.
use Rattle.std.proofs.Common.{◌≡◌, inl, inr, ℕ, zero, suc, ◌+◌, ◌<◌, ◌≤◌, Bool, true, false, if◌then◌else◌}
use Rattle.std.proofs.Common.{List, [], ◌∷◌, get_or, length, length-append, slice_index, Option, Some, None, Ok, ◌∙◌}
use Rattle.std.proofs.Common.{refl, sym, ap, subst, arith}
use Rattle.std.proofs.lemmas.List.{get_or-take}
use Rattle.std.specs.Option.{option_map}
use Rattle.disk_base.specs.Calls.{DiskCall}
use Rattle.disk_base.specs.Faults.{IsPlanned}
use Rattle.disk_base.specs.Story.{Story, with_part, with_sync, with_write}
use Rattle.disk_base.specs.Through.{EachImage, GoesThrough, Through}
use Rattle.disk_base.specs.declared.disk.Disk as disk
use Rattle.disk_base.specs.declared.disk.DiskAnswer.{DiskAnswer}
use Rattle.disk_base.specs.declared.disk.DiskAnswer.TheVariants.{Done, Failed}
use Rattle.disk_base.proofs.Marks.{length-part}
use Rattle.disk_base.proofs.Moments.{through_both, through_more}
use Rattle.gate_cell.specs.Cell.{names_second}
use Rattle.spool_file.specs.File.{Ends, SpoolFile, StandsFor, file_in, version_in}
use Rattle.spool_file.specs.Front.{front_in, front_size, version_gate}
use Rattle.spool_file.specs.Logs.{written_by}
use Rattle.spool_file.specs.Slot.{slot_place}
use Rattle.spool_file.specs.declared.recovery.Known.{Known}
use Rattle.spool_slots.specs.Calls.{byte_calls, upgrade_calls}
use Rattle.spool_slots.specs.Carried.{CarriesOut}
use Rattle.spool_slots.specs.Changes.{HasLostUpgrade, HasMade, HasUpgraded, HoldsThrough, IsSameOr, Upgrades}
use Rattle.spool_slots.specs.Files.{upgraded_in}
use Rattle.spool_slots.specs.Losses.{IsSure, LeavesByGate, file_left}
use Rattle.spool_slots.specs.Spool.{IsSpool, Rests, in_hand}
use Rattle.spool_slots.specs.Work.{FailsFirst, GoesOn, WritesVersion}
use Rattle.spool_slots.proofs.Carrying.{made_before, made_then, sure_less}
use Rattle.spool_slots.proofs.Lasting.{lasts, one_byte, rests_for}
use Rattle.spool_slots.proofs.Lost.{ChosenLaw, by_byte, planned_wider}
use Rattle.spool_slots.proofs.OneByte.{byte_leaves, byte_settles}
use Rattle.spool_slots.proofs.StagedPuts.{not_failed, told_back}
use Rattle.spool_slots.proofs.Upgrading.{even_stands, name_stands, upgraded_stands}

get_any : (xs : List ℕ) (i a b : ℕ) → i < length xs → get_or xs i a ≡ get_or xs i b
get_any [] i a b below = absurd (omega (arith, below))
get_any (x ∷ xs) zero a b below = refl
get_any (x ∷ xs) (suc i) a b below = get_any xs i a b (omega (arith, below))

even_gate : (b : Bool) → ◌≡◌ {A = ℕ} (if b then 2 else 1) 1 → b ≡ false
even_gate true is = absurd (omega (arith, is))
even_gate false is = refl

abbrev story_or : Story → Option Story → Story
story_or other None = other
story_or other (Some s) = s

same_story : (o : Option Story) (s t : Story) → o ≡ Some s → o ≡ Some t → s ≡ t
same_story o s t one two = ap (story_or s) (sym one ∙ two)

module _ {D : Type 0} (members : disk.Ghosts D) (d d' : D) (k : Known) (is : IsSpool members (in_hand d k))
    (one : k.version ≡ 1) where
  abbrev pub two : Known
  two = record {
    version = 2;
    slots = k.slots;
    first = k.first;
    next = k.next;
    len = k.len;
    mark = k.mark;
  }

  -- ---- the gate

  module _ (s : Story) (told : members.told d ≡ Some s) where
    abbrev bytes : List ℕ
    bytes = s.now.bytes

    rests : Rests s k
    rests = is.rests s told

    was_one : version_in bytes ≡ 1
    was_one = sym rests.version_is ∙ one

    gate_inside : 46 + 1 ≤ length bytes
    gate_inside = omega (arith, rests.inside, is.some)

    by_gate : (gate : ℕ) (b : Bool) → names_second gate ≡ b →
        StandsFor (with_part bytes 46 (gate ∷ [])) (file_left b (upgraded_in bytes) (file_in bytes))
    by_gate gate true odd = upgraded_stands bytes gate rests.sound was_one odd
    by_gate gate false even = even_stands bytes gate rests.sound was_one even

    either : (b : Bool) (image : List ℕ) → StandsFor image (file_left b (upgraded_in bytes) (file_in bytes)) →
        IsSameOr upgraded_in bytes image
    either true image stands = inr stands
    either false image stands = inl stands

    gate_leaves : (gate : ℕ) → IsSameOr upgraded_in bytes (with_part bytes 46 (gate ∷ []))
    gate_leaves gate = either (names_second gate) (with_part bytes 46 (gate ∷ [])) (by_gate gate (names_second gate) refl)

    gate_was : names_second (slice_index bytes 46) ≡ false
    gate_was =
        ap names_second (sym (get_or-take front_size bytes version_gate 1 (omega arith)
        ∙ get_any bytes 46 1 0 (omega (arith, gate_inside))))
        ∙ even_gate (names_second (get_or (front_in bytes) version_gate 1)) was_one

    -- behind it the file has version 2
    abbrev gated : Story
    gated = with_sync (with_write 46 (1 ∷ []) s)

    gated_stands : StandsFor gated.now.bytes (upgraded_in bytes)
    gated_stands = upgraded_stands bytes 1 rests.sound was_one refl

    is_two : version_in gated.now.bytes ≡ 2
    is_two = sym (ap (λ (file : SpoolFile). file.version) gated_stands.is)

    gated_long : length gated.now.bytes ≡ length bytes
    gated_long = length-part bytes (1 ∷ []) 46 gate_inside

    -- ---- and then the name

    letter_stands : (letter : ℕ) → StandsFor (with_part gated.now.bytes 7 (letter ∷ [])) (upgraded_in bytes)
    letter_stands letter =
        subst (λ (file : SpoolFile). StandsFor (with_part gated.now.bytes 7 (letter ∷ [])) file) (sym gated_stands.is)
        (name_stands gated.now.bytes letter is_two gated_stands.sound)

    abbrev named : Story
    named = with_sync (with_write 7 (50 ∷ []) gated)

    pub named_ends : Ends named (upgraded_in bytes)
    named_ends = record { settled = refl; stands = letter_stands 50 }

    pub named_rests : Rests named two
    named_rests =
        rests_for named (upgraded_in bytes) two refl
        (omega (
          arith,
          rests.inside,
          gated_long,
          length-part gated.now.bytes (50 ∷ []) 7 (omega (arith, gated_long, gate_inside)),
        )) (letter_stands 50) refl rests.slots_are rests.mark_is rests.low rests.chain rests.count

  -- ---- the images

  gate_holds : (mid : D) (answer : DiskAnswer) → CarriesOut members d mid (byte_calls 46 1) answer →
      HoldsThrough (members.told d) (members.told mid) (IsSameOr upgraded_in)
  gate_holds mid answer row =
      lasts (members.told d) (members.told mid) 46 (1 ∷ []) answer (IsSameOr upgraded_in)
      (λ s told. (rests s told).settled) gate_inside
      (λ s told. one_byte s.now.bytes 46 (IsSameOr upgraded_in s.now.bytes) (gate_leaves s told))
      (byte_settles members d mid 46 1 answer row)

  gated_told : (mid : D) → CarriesOut members d mid (byte_calls 46 1) Done → (s : Story) → members.told d ≡ Some s →
      members.told mid ≡ Some (with_sync (with_write 46 (1 ∷ []) s))
  gated_told mid row s told =
      byte_settles members d mid 46 1 Done row
      ∙ ap (λ (o : Option Story). option_map (λ u. with_sync (with_write 46 (1 ∷ []) u)) o) told

  -- from there on it is of version 2 at every moment
  name_goes : (mid : D) (answer : DiskAnswer) → CarriesOut members mid d' (byte_calls 7 50) answer →
      (s : Story) (told : members.told d ≡ Some s) → members.told mid ≡ Some (gated s told) →
      GoesThrough (gated s told) (members.told d') (λ image. StandsFor image (upgraded_in s.now.bytes))
  name_goes mid answer row s told here =
      lasts (members.told mid) (members.told d') 7 (50 ∷ []) answer
      (λ before image. StandsFor image (upgraded_in s.now.bytes))
      (λ u told_u. ap (λ (v : Story). v.now.loose) (same_story (members.told mid) u (gated s told) told_u here))
      (λ u told_u. subst (λ (v : Story). 7 + 1 ≤ length v.now.bytes)
      (same_story (members.told mid) (gated s told) u here told_u)
      (omega (arith, gated_long s told, gate_inside s told)))
      (λ u told_u. subst (λ (v : Story). (part : List ℕ) → length part ≡ 1 →
      StandsFor (with_part v.now.bytes 7 part) (upgraded_in s.now.bytes))
      (same_story (members.told mid) (gated s told) u here told_u)
      (one_byte (gated s told).now.bytes 7 (λ image. StandsFor image (upgraded_in s.now.bytes)) (letter_stands s told)))
      (byte_settles members mid d' 7 50 answer row) (gated s told) here

  upgrade_images : (answer : DiskAnswer) → WritesVersion members d d' answer →
      HoldsThrough (members.told d) (members.told d') (IsSameOr upgraded_in)
  upgrade_images answer (inl fails) s told = gate_holds d' Failed fails.first s told
  upgrade_images answer (inr goes) s told =
      let first = gate_holds goes.mid Done goes.first s told in
      let here = gated_told goes.mid goes.first s told in
      let same = same_story (members.told goes.mid) first.0 (gated s told) first.1 here in
      let second = name_goes goes.mid answer goes.then_more s told here in (
        second.0,
        second.1,
        through_both s (gated s told) second.0 (IsSameOr upgraded_in s.now.bytes)
            (subst (λ (u : Story). Through s u (IsSameOr upgraded_in s.now.bytes)) same first.2)
            (through_more (gated s told) second.0 (λ image. StandsFor image (upgraded_in s.now.bytes))
            (IsSameOr upgraded_in s.now.bytes) (λ image stands. inr stands) second.2),
      )

  upgrade_made : (answer : DiskAnswer) → WritesVersion members d d' answer →
      HasMade members d d' upgrade_calls answer
  upgrade_made answer (inl fails) =
      subst (λ (a : DiskAnswer). HasMade members d d' upgrade_calls a) (sym fails.failed)
      (made_before members d d' (byte_calls 46 1) (byte_calls 7 50) fails.first.made)
  upgrade_made answer (inr goes) =
      made_then members d goes.mid d' (byte_calls 46 1) (byte_calls 7 50) answer goes.first.made goes.then_more.made

  pub upgrade_does : (answer : DiskAnswer) → WritesVersion members d d' answer →
      HasUpgraded members (in_hand d k) d' answer
  upgrade_does answer row = record { images = upgrade_images answer row; made = upgrade_made answer row }

  -- ---- where it failed, by the call

  gate_planned : FailsFirst members d d' (byte_calls 46 1) Failed →
      IsSure (members.health d) (members.health d') 4 2 → IsPlanned (members.health d) 2
  gate_planned fails sure =
      let stop = fails.first.goes in
      let split = ap (length {A = DiskCall}) stop.split in
      let long = length-append stop.before (stop.call ∷ stop.rest) in
      planned_wider (members.health d) (length stop.before + 1) 2 (omega (arith, split, long))
      (stop.planned (sure_less (members.health d) (members.health d') (length (byte_calls 46 1))
      (written_by (byte_calls 46 1)) 4 2 (omega arith) (omega arith) sure))

  gate_lost : ChosenLaw → FailsFirst members d d' (byte_calls 46 1) Failed →
      IsSure (members.health d) (members.health d') 4 2 →
      LeavesByGate (members.told d) (members.told d') names_second upgraded_in
  gate_lost chosen fails sure =
      by_byte (members.told d) (members.told d') 46 1 names_second upgraded_in gate_was refl
      (λ s told other. by_gate s told other (names_second other) refl)
      (byte_leaves members d d' 46 1 fails.first
      (sure_less (members.health d) (members.health d') 2 1 4 2 (omega arith) (omega arith) sure) chosen
      (λ s told. (rests s told).settled) (λ s told. omega (arith, gate_inside s told)))

  name_lost : GoesOn members d d' (byte_calls 46 1) (byte_calls 7 50) Failed → (s t : Story) →
      members.told d ≡ Some s → members.told d' ≡ Some t →
      EachImage (λ image. StandsFor image (upgraded_in s.now.bytes)) t.now
  name_lost goes s t told told' =
      let went = name_goes goes.mid Failed goes.then_more s told (gated_told goes.mid goes.first s told) in
      subst (λ (u : Story). EachImage (λ image. StandsFor image (upgraded_in s.now.bytes)) u.now)
      (same_story (members.told d') went.0 t went.1 told') went.2.last

  pub upgrade_lost : ChosenLaw → WritesVersion members d d' Failed → HasLostUpgrade members (in_hand d k) d'
  upgrade_lost chosen (inl fails) = record {
    early = λ sure planned. gate_lost chosen fails sure;
    late = λ sure none. absurd (none (gate_planned fails sure));
  }
  upgrade_lost chosen (inr goes) = record {
    early = λ sure planned. absurd (goes.first.made.calls.cause.unplanned planned);
    late = λ sure none. name_lost goes;
  }

  -- ---- it was done

  module _ (goes : GoesOn members d d' (byte_calls 46 1) (byte_calls 7 50) Done) where
    came : (t : Story) → members.told d' ≡ Some t → (s : Story) × (members.told d ≡ Some s)
        × (with_sync (with_write 7 (50 ∷ []) (with_sync (with_write 46 (1 ∷ []) s))) ≡ t)
    came t told' =
        told_back (members.told d) (λ s. with_sync (with_write 46 (1 ∷ []) s))
        (λ s. with_sync (with_write 7 (50 ∷ []) s)) t
        (ap (λ (o : Option Story). option_map (λ s. with_sync (with_write 7 (50 ∷ []) s)) o)
        (sym (byte_settles members d goes.mid 46 1 Done goes.first))
        ∙ sym (byte_settles members goes.mid d' 7 50 Done goes.then_more) ∙ told')

    pub upgrade_spool : IsSpool members (in_hand d' two)
    upgrade_spool = record {
      version = inr refl;
      some = is.some;
      most = is.most;
      fits = subst (λ (n : ℕ). slot_place k.slots ≤ n) (sym (upgrade_made Done (inr goes)).size) is.fits;
      from = is.from;
      none = is.none;
      even = λ first. absurd (omega (arith, first));
      room = is.room;
      numbers = is.numbers;
      mark_most = is.mark_most;
      rests = λ t told'.
          let s = came t told' in subst (λ (u : Story). Rests u two) s.2 (named_rests s.0 s.1);
    }

    pub upgrades : Upgrades members (in_hand d k) (Ok (in_hand d' two))
    upgrades = (
      upgrade_does Done (inr goes),
      refl,
      λ s t told told'.
          let one = came t told' in
          let same = same_story (members.told d) one.0 s one.1 told in
          subst (λ (u : Story). Ends t (upgraded_in u.now.bytes)) same
          (subst (λ (u : Story). Ends u (upgraded_in one.0.now.bytes)) one.2 (named_ends one.0 one.1)),
    )

  -- whichever way it went
  pub version_spool : WritesVersion members d d' Done → IsSpool members (in_hand d' two)
  version_spool (inl fails) = absurd (not_failed fails.failed)
  version_spool (inr goes) = upgrade_spool goes

  pub version_done : WritesVersion members d d' Done → Upgrades members (in_hand d k) (Ok (in_hand d' two))
  version_done (inl fails) = absurd (not_failed fails.failed)
  version_done (inr goes) = upgrades goes
