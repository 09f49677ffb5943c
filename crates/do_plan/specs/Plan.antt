-- The lines of plans: how they are spelled, which are good, and which one a text spells.
use Rattle.std.specs.Prelude.{ℕ, ◌≤◌, ◌^◌, Bool, List as Listed, ◌∷◌, ◌++◌, IsTrue, codes, Option}
use Rattle.std.specs.{Prelude.{Some, None, if◌then◌else◌, not, ◌&&◌, ◌||◌, nat_eq}, List.list_any}
use Rattle.std.specs.Fmt.{decimal}
use Rattle.do_cli.specs.Forms.{names_file, names_builtin}
use Rattle.do_grammar.specs.{Dec.dec_in, Words.{◌>>?◌, word}}
use Rattle.do_sched.specs.{Good.IsPort, Reading.port_at}
use Rattle.do_plan.specs.{declared.plan.PlanLine.PlanLine, Form.Form, Reading.on_word}

-- ---- what a plan is

-- a byte stands in a word
abbrev pub holds : ℕ → Listed ℕ → Bool
holds byte text = list_any (λ b. nat_eq b byte) text

-- neither a space nor a line feed stands in a text
abbrev pub is_one_word : Listed ℕ → Bool
is_one_word text = not (holds 32 text) && not (holds 10 text)

-- a file's name, as on the command line, that is one word
abbrev pub is_file : Listed ℕ → Bool
is_file text = names_file text && is_one_word text

-- a built-in world, or a file's name
abbrev pub is_world : Listed ℕ → Bool
is_world text = names_builtin text || is_file text

-- a line without its line feed
abbrev pub plan_spelling : PlanLine → Listed ℕ
plan_spelling l =
    codes "node " ++ decimal l.port ++ 32 ∷ (l.world ++ 32 ∷ (l.starts ++ 32 ∷ decimal l.turns))

-- a line that may stand in a plan
pub record IsPlanLine (l : PlanLine) : Type 0 where
  pub at_port : IsPort l.port
  pub world : IsTrue (is_world l.world)
  pub starts : IsTrue (is_file l.starts)
  pub least : 1 ≤ l.turns
  pub most : l.turns ≤ 2 ^ 40

-- plans: 1 to 64 lines behind `plan 1`
abbrev pub plan_form : Form PlanLine
plan_form = record {
  header = codes "plan 1";
  spelling = plan_spelling;
  IsGood = IsPlanLine;
  least = 1;
  most = 64;
}

-- ---- which line a text spells

-- a file's name, and a number of turns
abbrev pub served_at : ℕ → Listed ℕ → Listed ℕ × Listed ℕ → Option PlanLine
served_at port world w =
    if is_file w.0
    then (dec_in 1 1099511627776 w.1 >>? λ n.
    Some (record { port = port; world = world; starts = w.0; turns = n })) else None

-- a world, and what stands behind it
abbrev pub files_at : ℕ → Listed ℕ × Listed ℕ → Option PlanLine
files_at port w = if is_world w.0 then (word 32 w.1 >>? served_at port w.0) else None

-- a node's number, and what stands behind it
abbrev pub node_at : Listed ℕ × Listed ℕ → Option PlanLine
node_at w = port_at w.0 >>? λ p. word 32 w.1 >>? files_at p

-- the line that a text spells, if it spells one
unfoldable pub plan_at : Listed ℕ → Option PlanLine
plan_at text =
    word 32 text >>? λ w. on_word (codes "node") w.0 (word 32 w.1 >>? node_at) None
