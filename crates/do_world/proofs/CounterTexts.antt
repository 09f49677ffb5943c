-- What the texts of the counter world's methods spell.
use Rattle.std.proofs.Common.{◌≡◌, ℕ, zero, suc, List, [], ◌∷◌, refl}
use Rattle.std.specs.Prelude.{codes, IfOk, Result, Ok, Err}
use Rattle.do_grammar.specs.{Dec.{dec_in, int_in}, Names.is_selector, Quoted.quoted_at}
use Rattle.do_script.specs.{InstructionNames.form_of, Operands.instruction, Program.program}
use Rattle.do_script.specs.{Quoted.quoted_size, Words.{first_word, words}}
use Rattle.do_script.specs.{Assembly.{HasNoFault, IsCodeOf, scope}, Listing.Listing}
use Rattle.do_world.specs.Counter.{add_code, class_names, go_code}

-- the text of `add:`
abbrev pub add_text : List ℕ
add_text = codes "get l1 value\nadd l1 l1 l0\nset value l1\nreturn l1"

-- the text of `go:`
abbrev pub go_text : List ℕ
go_text = codes "num l1 7002\nroot l2 l1\nsend l3 l2 add: l0\nsay l3\nreturn l3"

-- the name of a counter's slot
abbrev pub slot_names : List (List ℕ)
slot_names = codes "value" ∷ []

-- no line of `add:` has a fault
add_is_good : HasNoFault (scope slot_names class_names add_text) (program add_text)
unfolding program words first_word quoted_size quoted_at dec_in form_of instruction
add_is_good zero = refl
add_is_good (suc zero) = refl
add_is_good (suc (suc zero)) = refl
add_is_good (suc (suc (suc zero))) = refl
add_is_good (suc (suc (suc (suc k)))) = refl

-- no line of `go:` has a fault
go_is_good : HasNoFault (scope [] class_names go_text) (program go_text)
unfolding program words first_word quoted_size quoted_at dec_in int_in is_selector form_of
    instruction
go_is_good zero = refl
go_is_good (suc zero) = refl
go_is_good (suc (suc zero)) = refl
go_is_good (suc (suc (suc zero))) = refl
go_is_good (suc (suc (suc (suc zero)))) = refl
go_is_good (suc (suc (suc (suc (suc k))))) = refl

-- what `add:` spells is its code
add_spells : (code : Listing) → IsCodeOf slot_names class_names add_text code → code ≡ add_code
unfolding program words first_word quoted_size quoted_at dec_in form_of instruction
add_spells code is = λ i. record {
  instructions = is.instructions.made i;
  slots = is.slots_given i;
  classes = is.classes_given i;
}

-- what `go:` spells is its code
go_spells : (code : Listing) → IsCodeOf [] class_names go_text code → code ≡ go_code
unfolding program words first_word quoted_size quoted_at dec_in int_in is_selector form_of
    instruction
go_spells code is = λ i. record {
  instructions = is.instructions.made i;
  slots = is.slots_given i;
  classes = is.classes_given i;
}

-- `add:` has no fault where the names are those of its class and world
pub add_has_no_fault : (slots classes : List (List ℕ))
    → slots ≡ slot_names → classes ≡ class_names
    → HasNoFault (scope slots classes add_text) (program add_text)
add_has_no_fault slots classes s c = rw (s, c) add_is_good

-- nor has `go:`
pub go_has_no_fault : (slots classes : List (List ℕ)) → slots ≡ [] → classes ≡ class_names
    → HasNoFault (scope slots classes go_text) (program go_text)
go_has_no_fault slots classes s c = rw (s, c) go_is_good

-- what is answered as a code of `add:` is its code
pub add_is_code : {E : Type 0} (slots classes : List (List ℕ)) (result : Result Listing E)
    → slots ≡ slot_names → classes ≡ class_names
    → IfOk result (IsCodeOf slots classes add_text) → IfOk result (λ code. code ≡ add_code)
add_is_code slots classes (Ok code) s c is = add_spells code (rw (s, c) at is)
add_is_code slots classes (Err e) s c is = is

-- and so is what is answered as a code of `go:`
pub go_is_code : {E : Type 0} (slots classes : List (List ℕ)) (result : Result Listing E)
    → slots ≡ [] → classes ≡ class_names
    → IfOk result (IsCodeOf slots classes go_text) → IfOk result (λ code. code ≡ go_code)
go_is_code slots classes (Ok code) s c is = go_spells code (rw (s, c) at is)
go_is_code slots classes (Err e) s c is = is
