-- The starts and waits of a spawner as they are told, and how the logic stores them.
use Rattle.do_told.specs.declared.children.Child.TheVariants as child
use Rattle.std.specs.Prelude.{◌≡◌, ℕ, ℤ, List, [], Option, Some, None, refl}
use Rattle.std.specs.Coded.{Coded, code_by, coded×, coded_list, coded_ℕ, coded_ℤ, coded_option}
use Rattle.do_lab.specs.Told.{Spawned, Started, Waited}
use Rattle.do_told.specs.declared.children.Child.{Child}

-- a start or a wait as a spawner tells it
abbrev pub spawned_of : Child → Spawned
spawned_of (child.Started words None) = Started words.now None
spawned_of (child.Started words (Some id)) = Started words.now (Some id.0)
spawned_of (child.Waited id status) = Waited id.0 status

-- the words and the child of a start, or the child and the status of a wait
abbrev Parts : Type 0
Parts = Option (ℕ × Option ℤ) × (List (List ℕ) × Option ℕ)

abbrev to_parts : Spawned → Parts
to_parts (Started words child) = (None, (words, child))
to_parts (Waited child status) = (Some (child, status), ([], None))

abbrev from_parts : Parts → Spawned
from_parts (None, (words, child)) = Started words child
from_parts (Some (child, status), rest) = Waited child status

-- a start or a wait is what its parts come back to
pub spawned_again : (s : Spawned) → from_parts (to_parts s) ≡ s
spawned_again (Started words child) = refl
spawned_again (Waited child status) = refl

abbrev pub spawned_code : Coded Spawned
spawned_code = code_by Parts
    (coded× (coded_option (coded× coded_ℕ (coded_option coded_ℤ)))
    (coded× (coded_list (coded_list coded_ℕ)) (coded_option coded_ℕ)))
    to_parts from_parts spawned_again
