-- A program, as the listings of its methods by class and by place there.
use Rattle.std.specs.{Prelude.{ℕ, ◌≤◌, List, length}, List.AllZip}
use Rattle.do_class.specs.Class.{Class}
use Rattle.do_script.specs.Listing.{Listing, IsValid}

-- valid code for a class of so many slots in a table of so many classes
pub record Suits (slots classes : ℕ) (code : Listing) : Type 0 where
  pub valid : IsValid code
  pub few_slots : code.slots ≤ slots
  pub few_classes : code.classes ≤ classes

-- one code for each method of a class, in a table of so many classes
abbrev pub HasCodes : ℕ → List Listing → Class → Type 0
HasCodes classes codes class =
    AllZip (λ code method. Suits (length class.slots) classes code) codes class.methods

-- one code for each method of the table, which names only slots and classes that are there
abbrev pub IsMadeFor : List (List Listing) → List Class → Type 0
IsMadeFor codes table = AllZip (HasCodes (length table)) codes table
