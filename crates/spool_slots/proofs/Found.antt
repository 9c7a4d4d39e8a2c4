-- A spool of what was found, and one of a new file.
use Rattle.std.proofs.Common.{◌≡◌, ℕ, ◌≤◌, List, [], length, Option, Some, None, refl, sym, ap, subst, ◌∙◌, arith, inr}
use Rattle.std.specs.Option.{option_map}
use Rattle.disk_base.specs.Story.{Story, with_sync}
use Rattle.disk_base.specs.declared.disk.Disk as disk
use Rattle.spool_file.specs.Area.{first_of}
use Rattle.spool_file.specs.File.{Ends, SpoolFile, file_in, frame_in}
use Rattle.spool_file.specs.Format.{empty_file}
use Rattle.spool_file.specs.Reading.{KnownFits, KnownIs}
use Rattle.spool_file.specs.Run.{IsChainFrom}
use Rattle.spool_file.specs.Slot.{slot_in, slot_place}
use Rattle.spool_file.specs.declared.recovery.Known.{Known}
use Rattle.spool_file.proofs.Sound.{first_low}
use Rattle.spool_file.proofs.Wholes.{sound_kept}
use Rattle.spool_slots.specs.Spool.{IsSpool, Rests, in_hand}

pub rests_of : (s : Story) (known : Known) → s.now.loose ≡ [] → slot_place known.slots ≤ length s.now.bytes →
    KnownIs s.now.bytes known →
    Rests s known
rests_of s known settled inside is =
    let frame = frame_in s.now.bytes in
    record {
      settled = settled;
      sound = is.0;
      inside = inside;
      version_is = is.1;
      slots_are = is.2;
      mark_is = is.3;
      low = subst (λ n. frame.floor ≤ n) (sym is.4) (first_low frame (slot_in s.now.bytes) frame.slots);
      chain =
          subst (λ n. IsChainFrom n known.next (file_in s.now.bytes).list) (sym is.4)
          (subst (λ n. IsChainFrom (first_of frame.floor (file_in s.now.bytes).list) n (file_in s.now.bytes).list)
          (sym is.5) (sound_kept s.now.bytes is.0).kept.chain);
      count = is.6;
    }

abbrev loose_of : Option Story → List (ℕ × ℕ)
loose_of None = []
loose_of (Some s) = s.now.loose

loose_synced : (o : Option Story) → loose_of (option_map with_sync o) ≡ []
loose_synced None = refl
loose_synced (Some s) = refl

-- nothing is loose behind a sync
pub synced : (before after : Option Story) (s : Story) → after ≡ option_map with_sync before → after ≡ Some s →
    s.now.loose ≡ []
synced before after s is here = ap loose_of (sym here ∙ is) ∙ loose_synced before

pub spool_of : {D : Type 0} (members : disk.Ghosts D) (here : D) (known : Known) →
    KnownFits (members.size_is here) known →
    ((s : Story) → members.told here ≡ Some s → Rests s known) → IsSpool members (in_hand here known)
spool_of members here known fits rests = record {
  version = fits.version;
  some = fits.some;
  most = fits.most;
  fits = fits.fits;
  from = fits.from;
  none = fits.none;
  even = fits.even;
  room = fits.room;
  numbers = omega (arith, fits.room, fits.first, fits.most);
  mark_most = fits.mark;
  rests = rests;
}

-- a new file is taken up
pub empty_spool : {D : Type 0} (members : disk.Ghosts D) (d : D) (slots : ℕ) → 1 ≤ slots → slots ≤ 65535 →
    slot_place slots ≤ members.size_is d →
    ((t : Story) → members.told d ≡ Some t → Ends t (empty_file slots)) →
    ((t : Story) → members.told d ≡ Some t → length t.now.bytes ≡ members.size_is d) →
    IsSpool members (in_hand d (record { version = 2; slots = slots; first = 0; next = 0; len = 0; mark = 0 }))
empty_spool members d slots some most fits ends sized = record {
  version = inr refl;
  some = some;
  most = most;
  fits = fits;
  from = omega arith;
  none = λ empty. refl;
  even = λ one. refl;
  room = omega arith;
  numbers = omega arith;
  mark_most = omega arith;
  rests = λ t told. let is = (ends t told).stands.is in
      record {
        settled = (ends t told).settled;
        sound = (ends t told).stands.sound;
        inside = omega (arith, fits, sized t told);
        version_is = ap (λ (f : SpoolFile). f.version) is;
        slots_are = ap (λ (f : SpoolFile). f.slots) is;
        mark_is = ap (λ (f : SpoolFile). f.mark.value) is;
        low = subst (λ (f : SpoolFile). f.floor.value ≤ 0) is (omega arith);
        chain = subst (λ (f : SpoolFile). IsChainFrom 0 0 f.list) is refl;
        count = ap (λ (f : SpoolFile). length f.list) is;
      };
}
