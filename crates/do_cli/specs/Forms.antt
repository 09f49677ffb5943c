-- The forms of the words of the command line.
use Rattle.do_cli.specs.declared.command.Command.TheVariants as command
use Rattle.std.specs.Prelude.{ℕ, suc, nat_le, max, ◌==◌, ◌&&◌, ◌||◌, not, if◌then◌else◌, Bool, List}
use Rattle.std.specs.Prelude.{[], ◌∷◌, ◌++◌, length, replicate, codes, Option, Some, None, false}
use Rattle.std.specs.{Prelude.is_some, Str.bytes_eq}
use Rattle.do_grammar.specs.Dec.{dec_in}
use Rattle.do_cli.specs.declared.{command.Command.Command, form.Kind.Kind}
use Rattle.do_cli.specs.declared.form.Kind.TheVariants.{World, Schedule, Record, Number, Count}
use Rattle.do_cli.specs.declared.form.{Kind.TheVariants.{Port, Starts, Turns, Plan}, Form.Form}
use Rattle.do_cli.specs.declared.form.Form.TheVariants.{Replay, Leaks, Weave, Upgrade, Make, Node}
use Rattle.do_cli.specs.declared.form.{Form.TheVariants.{Lab, Help, Version}, TheConstants.FORMS}

-- a file's name: 1 to 4,096 bytes, of which the first is neither a dash nor a colon
abbrev pub names_file : List ℕ → Bool
names_file [] = false
names_file (b ∷ bytes) = nat_le (length (b ∷ bytes)) 4096 && not (b == 45) && not (b == 58)

-- the name of a built-in world
abbrev pub names_builtin : List ℕ → Bool
names_builtin word = bytes_eq word (codes ":counter") || bytes_eq word (codes ":mesh")

-- the number that a word of a kind is, in decimal digits
abbrev pub number_in : Kind → List ℕ → Option ℕ
number_in Number word = dec_in 0 18446744073709551615 word
number_in Count word = dec_in 1 100000 word
number_in Port word = dec_in 1 65535 word
number_in Turns word = dec_in 1 1099511627776 word
number_in kind word = None

-- a word is of a kind
abbrev pub is_of : Kind → List ℕ → Bool
is_of World word = names_builtin word || names_file word
is_of Schedule word = names_file word
is_of Record word = names_file word
is_of Number word = is_some (number_in Number word)
is_of Count word = is_some (number_in Count word)
is_of Port word = is_some (number_in Port word)
is_of Starts word = names_file word
is_of Turns word = is_some (number_in Turns word)
is_of Plan word = names_file word

-- how the help writes a word of a kind
abbrev pub placeholder : Kind → List ℕ
placeholder World = codes "WORLD"
placeholder Schedule = codes "SCHEDULE"
placeholder Record = codes "RECORD"
placeholder Number = codes "NUMBER"
placeholder Count = codes "COUNT"
placeholder Port = codes "PORT"
placeholder Starts = codes "STARTS"
placeholder Turns = codes "TURNS"
placeholder Plan = codes "PLAN"

-- the first word of a form
abbrev pub name_of : Form → List ℕ
name_of Replay = codes "replay"
name_of Leaks = codes "leaks"
name_of Weave = codes "weave"
name_of Upgrade = codes "upgrade"
name_of Make = codes "make"
name_of Node = codes "node"
name_of Lab = codes "lab"
name_of Help = codes "--help"
name_of Version = codes "--version"

-- what each of its words behind the first is that must be there
abbrev pub kinds_of : Form → List Kind
kinds_of Replay = World ∷ Schedule ∷ []
kinds_of Leaks = World ∷ Schedule ∷ []
kinds_of Weave = World ∷ Record ∷ []
kinds_of Upgrade = Schedule ∷ []
kinds_of Make = Number ∷ Count ∷ []
kinds_of Node = Port ∷ World ∷ Starts ∷ Turns ∷ []
kinds_of Lab = Plan ∷ []
kinds_of Help = []
kinds_of Version = []

-- what each of the words is that may stand behind those
abbrev pub more_of : Form → List Kind
more_of Weave = replicate 63 Record
more_of form = []

-- what its command does, as the help tells it
abbrev pub deed_of : Form → List ℕ
deed_of Replay = codes "replays a schedule over a world, and writes its transcript"
deed_of Leaks = codes "replays a schedule, and writes what nothing can reach then"
deed_of Weave = codes "writes one schedule that gives these records of nodes again"
deed_of Upgrade = codes "writes a schedule of version 1 anew in version 2"
deed_of Make = codes "replays a schedule that a number generates, and writes a summary"
deed_of Node = codes "serves one node of a world over TCP, and writes its record"
deed_of Lab = codes "starts the nodes of a plan as processes, and writes how each ended"
deed_of Help = codes "writes this text"
deed_of Version = codes "writes the program's name and version"

-- how many of the first words are of these kinds, one by one
abbrev pub fitting : List Kind → List (List ℕ) → ℕ
fitting (kind ∷ kinds) (word ∷ words) = if is_of kind word then suc (fitting kinds words) else 0
fitting kinds words = 0

-- with how many of the first words a form goes on
abbrev pub going : Form → List (List ℕ) → ℕ
going form [] = 0
going form (word ∷ words) =
    if bytes_eq word (name_of form) then suc (fitting (kinds_of form ++ more_of form) words) else 0

-- with how many of the first words the form goes on that goes on with most
abbrev pub furthest : List Form → List (List ℕ) → ℕ
furthest [] words = 0
furthest (form ∷ forms) words = max (going form words) (furthest forms words)

-- the words are at least as many as the form has, and it goes on with all of them
abbrev pub follows : Form → List (List ℕ) → Bool
follows form words =
    nat_le (suc (length (kinds_of form))) (length words) && going form words == length words

-- the command of `make` with these two numbers
abbrev pub made : Option ℕ → Option ℕ → Option Command
made (Some number) (Some count) = Some (command.Make number count)
made number count = None

-- the command of `node` with this port, world and starts and these turns
abbrev pub served : Option ℕ → List ℕ → List ℕ → Option ℕ → Option Command
served (Some port) world starts (Some turns) = Some (command.Node port world starts turns)
served port world starts turns = None

-- the command of a form whose words these are
abbrev pub command_by : Form → List (List ℕ) → Option Command
command_by Replay (name ∷ world ∷ schedule ∷ []) = Some (command.Replay world schedule)
command_by Leaks (name ∷ world ∷ schedule ∷ []) = Some (command.Leaks world schedule)
command_by Weave (name ∷ world ∷ files) = Some (command.Weave world files)
command_by Upgrade (name ∷ schedule ∷ []) = Some (command.Upgrade schedule)
command_by Make (name ∷ number ∷ count ∷ []) =
    made (number_in Number number) (number_in Count count)
command_by Node (name ∷ port ∷ world ∷ starts ∷ turns ∷ []) =
    served (number_in Port port) world starts (number_in Turns turns)
command_by Lab (name ∷ plan ∷ []) = Some (command.Lab plan)
command_by Help (name ∷ []) = Some command.Help
command_by Version (name ∷ []) = Some command.Version
command_by form words = None

-- how many records a command names
abbrev pub records_in : Command → ℕ
records_in (command.Weave world files) = length files
records_in asked = 0

-- the command of the first form that words follow
abbrev pub command_among : List Form → List (List ℕ) → Option Command
command_among [] words = None
command_among (form ∷ forms) words =
    if follows form words then command_by form words else command_among forms words

-- the command that words ask for, if they are of a form
unfoldable pub command_in : List (List ℕ) → Option Command
command_in words = command_among FORMS words

-- the first word, from 1, at which no form goes on; a missing one stands behind the last, a surplus
-- one behind the form's
unfoldable pub stuck_at : List (List ℕ) → ℕ
stuck_at words = suc (furthest FORMS words)
