-- The instructions by name.
use Rattle.std.specs.{Prelude.{ℕ, List, [], ◌∷◌, Option, Some, None, cond, map}, Str.bytes_eq}
use Rattle.do_script.specs.declared.form.Form.{Form}
use Rattle.do_script.specs.declared.instruction_names.TheConstants.{INSTRUCTION_NAMES}

-- the rows of the table: each instruction's name and form
abbrev pub rows : List (List ℕ × Form)
rows = map (λ row. (row.0.now, row.1)) INSTRUCTION_NAMES

-- the form of the first row of a name
abbrev pub form_in : List (List ℕ × Form) → List ℕ → Option Form
form_in [] name = None
form_in (row ∷ more) name = cond (bytes_eq row.0 name) (Some row.1) (form_in more name)

-- the form that the table has under a name
unfoldable pub form_of : List ℕ → Option Form
form_of name = form_in rows name
