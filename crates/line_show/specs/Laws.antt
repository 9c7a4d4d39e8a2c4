-- What holds of all captures.
use Rattle.std.specs.Prelude.{◌≡◌, ◌≢◌, ◌<◌, ◌++◌, ℕ, List, [], All, codes, Some}
use Rattle.secs_items.specs.declared.item.Item.{Item}
use Rattle.secs_items.specs.declared.item_fault.ItemFault.{ItemFault}
use Rattle.secs_items.specs.Reading.{first_fault}
use Rattle.secs_items.specs.Spelling.{Spells}
use Rattle.secs_text.specs.Text.{text_of}
use Rattle.line_show.specs.Bodies.{body_text, fault_text}
use Rattle.line_show.specs.Capture.{Piece, Reads}
use Rattle.line_show.specs.declared.capture.Ending.{Ending}

-- each capture is pieces and an ending
abbrev pub CapturesRead : Type 0
CapturesRead =
    (capture : List ℕ) → All (λ byte. byte < 256) capture
    → (pieces : List Piece) × (ending : Ending) × Reads capture pieces ending

-- and in one way only
abbrev pub CapturesReadInOneWay : Type 0
CapturesReadInOneWay =
    (capture : List ℕ) (a b : List Piece) (ending_a ending_b : Ending)
    → Reads capture a ending_a → Reads capture b ending_b → (a ≡ b) × (ending_a ≡ ending_b)

-- of a message's text stands the text of the item that it spells, or its first fault (SEMI E5, item)
pub record BodiesAreShown : Type 0 where
  pub items : (item : Item) (body : List ℕ) → Spells item body → body_text body ≡ text_of item
  pub faults :
      (body : List ℕ) (fault : ItemFault) → body ≢ [] → first_fault body ≡ Some fault
      → body_text body ≡ codes "bad " ++ fault_text fault
