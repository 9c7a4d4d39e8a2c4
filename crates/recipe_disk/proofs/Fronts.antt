-- The front of a file, as it was read.
use Rattle.std.proofs.Common.{◌≡◌, sym, ap, subst, ◌∙◌, ℕ, List, length, min, take, Option, None, Some}
use Rattle.std.proofs.lemmas.List.{take_min}
use Rattle.disk_base.specs.Story.{Story, bytes_at}
use Rattle.disk_base.specs.declared.disk.Disk as disk
use Rattle.disk_base.specs.declared.disk.DiskAnswer.TheVariants.{Done}
use Rattle.spool_file.specs.Reading.{IsBreak}
use Rattle.recipe_disk.specs.File.{front_break, front_in, slots_in, slots_of}
use Rattle.recipe_disk.specs.Reading.{Finds, FrontSays, HasLooked, reading_answer}
use Rattle.recipe_disk.specs.declared.reading.Reading.{Reading}
use Rattle.recipe_disk.specs.declared.reading.Reading.TheVariants as reading

whole : (size : ℕ) (front : List ℕ) → length front ≡ min 12 size → (bytes : List ℕ) → length bytes ≡ size →
    front ≡ bytes_at bytes 0 (length front) → front ≡ front_in bytes
whole size front long bytes sized read =
    read
    ∙ ap (λ (n : ℕ). take n bytes) (long ∙ ap (λ (n : ℕ). min 12 n) (sym sized))
    ∙ take_min 12 bytes

-- what was read is the front of the bytes
pub front_is : (told : Option Story) (size : ℕ) (front : List ℕ) (result : Reading ℕ) → length front ≡ min 12 size →
    ((s : Story) → told ≡ Some s → length s.now.bytes ≡ size) →
    ((s : Story) → told ≡ Some s → front ≡ bytes_at s.now.bytes 0 (length front)) → FrontSays front size result →
    Finds told (λ bytes. front_break (front_in bytes) (length bytes)) (λ bytes slots. slots ≡ slots_in bytes) result
front_is told size front (reading.Whole slots) long sized read says = λ s is.
    subst (λ f. (front_break f (length s.now.bytes) ≡ None) × (slots ≡ slots_of f))
    (whole size front long s.now.bytes (sized s is) (read s is))
    (subst (λ n. (front_break front n ≡ None) × (slots ≡ slots_of front)) (sym (sized s is)) says)
front_is told size front (reading.Broken break) long sized read says = λ s is.
    let same = whole size front long s.now.bytes (sized s is) (read s is) in
    subst (λ f. IsBreak s.now.bytes (front_break f (length s.now.bytes)) break) same
    (subst (λ n. IsBreak s.now.bytes (front_break front n) break) (sym (sized s is)) (says s.now.bytes (sized s is) same))
front_is told size front reading.Failed long sized read says = absurd says

-- the reading itself has not failed
pub front_read : {D : Type 0} (members : disk.Ghosts D) (a b : D) (front : List ℕ) (size : ℕ) (result : Reading ℕ) → FrontSays front size result → HasLooked members a b Done →
    HasLooked members a b (reading_answer result)
front_read members a b front size (reading.Whole slots) says looked = looked
front_read members a b front size (reading.Broken break) says looked = looked
front_read members a b front size reading.Failed says looked = absurd says
