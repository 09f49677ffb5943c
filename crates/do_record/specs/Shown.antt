-- Which lines show something of a node.
use Rattle.std.specs.Prelude.{Bool, false, ◌&&◌, ◌||◌, ℕ, ◌==◌, List as Listed, Option, Some, None}
use Rattle.std.specs.{Prelude.{if◌then◌else◌, codes}, Str.bytes_eq}
use Rattle.do_grammar.specs.{Names.is_selector, Words.{◌>>?◌, word}}
use Rattle.do_sched.specs.Reading.{port_at}
use Rattle.do_record.specs.Value.{is_object, is_quoted, is_value}

-- the name of an exception without a text
abbrev pub is_plain_exception : Listed ℕ → Bool
is_plain_exception t =
    bytes_eq t (codes "Type") || bytes_eq t (codes "Range") || bytes_eq t (codes "Deep")
    || bytes_eq t (codes "NotUnderstood") || bytes_eq t (codes "ConnectionDied")
    || bytes_eq t (codes "NotVended") || bytes_eq t (codes "TooLarge")
    || bytes_eq t (codes "TimedOut")

-- the exception of a program, behind its first word
abbrev pub is_user_exception : Option (Listed ℕ × Listed ℕ) → Bool
is_user_exception None = false
is_user_exception (Some w) = bytes_eq w.0 (codes "User") && is_quoted w.1

-- an exception
abbrev pub is_exception : Listed ℕ → Bool
is_exception t = is_plain_exception t || is_user_exception (word 32 t)

-- what is taken, where it is one word
abbrev pub is_plain_took : Listed ℕ → Bool
is_plain_took t =
    bytes_eq t (codes "reply") || bytes_eq t (codes "rootask") || bytes_eq t (codes "rootanswer")
    || bytes_eq t (codes "settled") || bytes_eq t (codes "end")

-- what is taken, where it is two words
abbrev pub is_long_took : Listed ℕ → Listed ℕ → Bool
is_long_took first rest =
    if bytes_eq first (codes "call") || bytes_eq first (codes "oneway") then is_selector rest
    else (if bytes_eq first (codes "raised") then is_exception rest
    else (if bytes_eq first (codes "ask") || bytes_eq first (codes "granted")
    || bytes_eq first (codes "gone") || bytes_eq first (codes "left") then is_object rest
    else false))

-- by the words
abbrev pub is_took_by : Listed ℕ → Option (Listed ℕ × Listed ℕ) → Bool
is_took_by t None = is_plain_took t
is_took_by t (Some w) = is_long_took w.0 w.1

-- what is taken
abbrev pub is_took : Listed ℕ → Bool
is_took t = is_took_by t (word 32 t)

-- the bytes behind a port, where it is the node's
abbrev pub behind_own : ℕ → Option ℕ → Listed ℕ → Option (Listed ℕ)
behind_own port None rest = None
behind_own port (Some p) rest = if p == port then Some rest else None

-- the bytes behind the node's port and a space
abbrev pub behind_port : ℕ → Listed ℕ → Option (Listed ℕ)
behind_port port bytes = word 32 bytes >>? λ w. behind_own port (port_at w.0) w.1

-- what is there passes
abbrev pub passes_there : (Listed ℕ → Bool) → Option (Listed ℕ) → Bool
passes_there test None = false
passes_there test (Some rest) = test rest

-- what is shown behind the node's port
abbrev pub is_of_port : ℕ → (Listed ℕ → Bool) → Listed ℕ → Bool
is_of_port port test bytes = passes_there test (behind_port port bytes)

-- what is shown, by its first word
abbrev pub is_shown_by : ℕ → Option (Listed ℕ × Listed ℕ) → Bool
is_shown_by port None = false
is_shown_by port (Some w) =
    if bytes_eq w.0 (codes "took") then is_took w.1
    else (if bytes_eq w.0 (codes "free") then is_object w.1
    else (if bytes_eq w.0 (codes "say") || bytes_eq w.0 (codes "return")
    then is_of_port port is_value w.1
    else (if bytes_eq w.0 (codes "raise") then is_of_port port is_exception w.1 else false)))

-- a line that shows something of a node
abbrev pub is_shown : ℕ → Listed ℕ → Bool
is_shown port text = is_shown_by port (word 32 text)
