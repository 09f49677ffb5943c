-- The texts of `--help` and `--version`.
use Rattle.std.specs.Prelude.{ℕ, List, [], ◌∷◌, ◌++◌, ◌==◌, codes, if◌then◌else◌, length}
use Rattle.std.specs.List.{flat_map}
use Rattle.do_cli.specs.declared.form.{Kind.Kind, Form.Form, TheConstants.FORMS}
use Rattle.do_cli.specs.declared.help.TheConstants.{HEAD, FOOT, VERSION}
use Rattle.do_cli.specs.Forms.{deed_of, kinds_of, more_of, name_of, placeholder}

-- the words of a form behind its name, a space in front of each
abbrev pub words_text : List Kind → List ℕ
words_text kinds = flat_map (λ kind. 32 ∷ placeholder kind) kinds

-- the words of a form behind its name, and two dots where more may follow
abbrev pub form_words : Form → List ℕ
form_words form =
    words_text (kinds_of form) ++ (if length (more_of form) == 0 then [] else codes "..")

-- two lines: the words of a form, and what it does
abbrev pub form_text : Form → List ℕ
form_text form =
    codes "  " ++ name_of form ++ form_words form ++ codes "\n      " ++ deed_of form ++ codes "\n"

-- the lines of each form
abbrev pub forms_text : List Form → List ℕ
forms_text forms = flat_map form_text forms

-- the text of `--help`
abbrev pub help_text : List ℕ
help_text = HEAD.now ++ forms_text FORMS ++ FOOT.now

-- the text of `--version`
abbrev pub version_text : List ℕ
version_text = VERSION.now
