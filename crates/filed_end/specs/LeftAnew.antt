-- That behind whole steps nothing of the disk is lost: a proof, which stands here since an impl cites it.
use Rattle.std.proofs.Common.{◌≡◌, refl, ℕ, false, Option, Some, None}
use Rattle.std.specs.Prelude.{is_some}
use Rattle.disk_base.specs.MemDisk.{DiskState}
use Rattle.disk_base.specs.declared.cut.CutChoice.{CutChoice}
use Rattle.filed_end.specs.Form.{Form}
use Rattle.filed_end.specs.InMemory.{anew_over, state_in}

pub settled_over :
    {N P S C : Type 0} (form : Form N P S C) (plan : P) (going : Option N) (lost : Option DiskState)
    → is_some lost ≡ false → (choice : CutChoice) (now : ℕ)
    → anew_over form plan going lost choice now ≡ form.machine.restart (state_in form plan going) now
settled_over form plan going None same choice now = refl
settled_over form plan going (Some one) same choice now = absurd (cc)
