-- What a name and a selector have in them.
use Rattle.std.proofs.Common.{◌≡◌, ℕ, Bool, true, false, List, refl}
use Rattle.std.specs.{Prelude.◌&&◌, List.list_all}
use Rattle.do_grammar.specs.{Words.Without, Names.{goes_in_name, goes_in_selector, is_name}}
use Rattle.do_grammar.{specs.Names.is_selector, proofs.texts.WordBytes.Without-passes}

-- both hold, so the first does
left_of : (a b : Bool) → (a && b) ≡ true → a ≡ true
left_of true b e = refl
left_of false b e = absurd cc

-- both hold, so the second does
right_of : (a b : Bool) → (a && b) ≡ true → b ≡ true
right_of true b e = e
right_of false b e = absurd cc

-- a name has only bytes that go in one
pub name_bytes : (text : List ℕ) → is_name text ≡ true → list_all goes_in_name text ≡ true
unfolding is_name
name_bytes text h = right_of _ _ (left_of _ _ h)

-- a selector has only bytes that go in one
pub selector_bytes : (text : List ℕ) → is_selector text ≡ true
    → list_all goes_in_selector text ≡ true
unfolding is_selector
selector_bytes text h = right_of _ _ (left_of _ _ (left_of _ _ (left_of _ _ h)))

-- a byte that goes in no name, or in no selector, stands in none
pub Without-name : (end : ℕ) (text : List ℕ) → goes_in_name end ≡ false → is_name text ≡ true
    → Without end text
Without-name end text off h = Without-passes goes_in_name end text off (name_bytes text h)

-- the same of a selector
pub Without-selector : (end : ℕ) (text : List ℕ) → goes_in_selector end ≡ false
    → is_selector text ≡ true → Without end text
Without-selector end text off h =
    Without-passes goes_in_selector end text off (selector_bytes text h)
