-- A class, as a contract sees it.
use Rattle.std.specs.Prelude.{◌≡◌, ℕ, ◌≤◌, List, length, map, Option, IsTrue}
use Rattle.std.specs.{List.{All, IsDistinct, position}, Str.bytes_eq}
use Rattle.do_sig.specs.Calls.{arg_count}
use Rattle.do_grammar.specs.Names.{is_selector, colons}
use Rattle.do_class.specs.declared.{ids.Slot.Slot, method.Method.Method}

-- a class: its name, and its slots and its methods in order
pub record Class : Type 0 where
  pub name : List ℕ
  pub slots : List Slot
  pub methods : List Method

-- the selectors of methods, in order
abbrev pub selectors_of : List Method → List (List ℕ)
selectors_of methods = map (λ m. m.selector) methods

-- What the methods of a class are: at most 64, no two of one selector, and each selector one of the
-- grammar, with a colon for each argument.
pub record AreMethods (methods : List Method) : Type 0 where
  pub few : length methods ≤ 64
  pub distinct : IsDistinct bytes_eq (selectors_of methods)
  pub selectors : All (λ m. IsTrue (is_selector m.selector)) methods
  pub colons : All (λ m. colons m.selector ≡ arg_count m.signature) methods

-- a class within the limits
pub record IsClass (c : Class) : Type 0 where
  pub slots : length c.slots ≤ 16
  pub methods : AreMethods c.methods

-- the place of a text in a list, the first where there are several
abbrev pub place_of : List ℕ → List (List ℕ) → Option ℕ
place_of text texts = position (bytes_eq text) texts
