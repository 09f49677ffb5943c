-- What the empty text spells.
use Rattle.std.{proofs.Common.{◌≡◌, ℕ, List, [], refl, Result, Ok, Err}, specs.Prelude.IfOk}
use Rattle.do_script.specs.{Assembly.{HasNoFault, IsCodeOf, scope}, Listing.Listing}
use Rattle.do_script.specs.Program.{program}
use Rattle.do_world.specs.Worlds.{no_code}

-- it has no line with a fault
nothing_wrong : HasNoFault (scope [] [] []) (program [])
unfolding program
nothing_wrong k = refl

-- and so has an empty list of names
pub empty_has_no_fault : (slots classes : List (List ℕ)) → slots ≡ [] → classes ≡ []
    → HasNoFault (scope slots classes []) (program [])
empty_has_no_fault slots classes s c = rw (s, c) nothing_wrong

-- it spells no instruction
spells_none : (code : Listing) → IsCodeOf [] [] [] code → code ≡ no_code
unfolding program
spells_none code is = λ i. record {
  instructions = is.instructions.made i;
  slots = is.slots_given i;
  classes = is.classes_given i;
}

-- what is answered as its code is the empty one
pub empty_is_code : {E : Type 0} (slots classes : List (List ℕ)) (result : Result Listing E)
    → slots ≡ [] → classes ≡ [] → IfOk result (IsCodeOf slots classes [])
    → IfOk result (λ code. code ≡ no_code)
empty_is_code slots classes (Ok code) s c is = spells_none code (rw (s, c) at is)
empty_is_code slots classes (Err e) s c is = is
