-- Which instruction a name's form and the words behind the name make.
use Rattle.do_script.specs.declared.instruction.Instruction.TheVariants as made
use Rattle.do_script.specs.declared.form.OneLocal as one
use Rattle.do_script.specs.declared.form.OneLocal.TheVariants as ones
use Rattle.do_script.specs.declared.form.TwoLocals as two
use Rattle.do_script.specs.declared.form.TwoLocals.TheVariants as twos
use Rattle.do_script.specs.declared.form.ThreeLocals as three
use Rattle.do_script.specs.declared.form.ThreeLocals.TheVariants as threes
use Rattle.std.specs.Prelude.{◌==◌, ℕ, ◌+◌, List, [], ◌∷◌, length, Option, Some, None, Result, Ok}
use Rattle.std.specs.{Prelude.{Err, if◌then◌else◌}, Option.{ok_or, option_map}, Str.bytes_eq}
use Rattle.do_grammar.specs.{Dec.{dec_in, int_in}, Names.{is_name, is_selector, colons}}
use Rattle.do_script.specs.declared.{instruction.Instruction.Instruction, form.Form.Form}
use Rattle.do_script.specs.declared.form.Form.TheVariants.{Nothing, One, Two, Three, Number, Text}
use Rattle.do_script.specs.declared.form.Form.TheVariants.{Get, Set, New, Send, Jump, IfNot, Catch}
use Rattle.do_script.specs.declared.{labels.Label.Label, fault.Kind.Kind}
use Rattle.do_script.specs.declared.fault.Kind.TheVariants.{Op, Local, Jump as NoPlace}
use Rattle.do_script.specs.{Fault.◌>>=◌, Quoted.quoted_in}

-- the names that a method's code can use: its class's slots, the classes, and where its labels are
-- first defined
pub record Scope : Type 0 where
  pub slots : List (List ℕ)
  pub classes : List (List ℕ)
  pub label : List ℕ → Option Label

-- the instructions with one local
abbrev pub with_one : one.OneLocal → ℕ → Instruction
with_one ones.Nil d = made.Nil d
with_one ones.Own d = made.Own d
with_one ones.List d = made.List d
with_one ones.Vend s = made.Vend s
with_one ones.Say s = made.Say s
with_one ones.Return s = made.Return s
with_one ones.Raise s = made.Raise s

-- the instructions with two locals
abbrev pub with_two : two.TwoLocals → ℕ → ℕ → Instruction
with_two twos.Move d s = made.Move d s
with_two twos.Push d s = made.Push d s
with_two twos.Count d a = made.Count d a
with_two twos.Root d p = made.Root d p

-- the instructions with three locals
abbrev pub with_three : three.ThreeLocals → ℕ → ℕ → ℕ → Instruction
with_three threes.Add d a b = made.Add d a b
with_three threes.Subtract d a b = made.Subtract d a b
with_three threes.Multiply d a b = made.Multiply d a b
with_three threes.Less d a b = made.Less d a b
with_three threes.Same d a b = made.Same d a b
with_three threes.Item d a i = made.Item d a i

-- `l0` to `l15`
abbrev pub local : List ℕ → Result ℕ Kind
local [] = Err Local
local (b ∷ bytes) = if b == 108 then ok_or (dec_in 0 15 bytes) Local else Err Local

-- the locals that all the words name
abbrev pub locals : List (List ℕ) → Result (List ℕ) Kind
locals [] = Ok []
locals (w ∷ ws) = local w >>= λ k. locals ws >>= λ ks. Ok (k ∷ ks)

-- the place of a word among names, the first of which stands at a place
abbrev pub place_from : ℕ → List (List ℕ) → List ℕ → Option ℕ
place_from k [] w = None
place_from k (name ∷ names) w = if bytes_eq name w then Some k else place_from (k + 1) names w

-- the place of a word that is one of the names
abbrev pub named : List (List ℕ) → List ℕ → Result ℕ Kind
named names w = ok_or (place_from 0 names w) Op

-- `@` and a name
abbrev pub label : List ℕ → Result (List ℕ) Kind
label [] = Err Op
label (b ∷ name) = if b == 64 then (if is_name name then Ok name else Err Op) else Err Op

-- the place of a label that is defined
abbrev pub place : Scope → List ℕ → Result ℕ Kind
place s name = ok_or (option_map (λ l. l.place) (s.label name)) NoPlace

-- a selector with as many colons as there are locals
abbrev pub selector : List ℕ → ℕ → Result (List ℕ) Kind
selector w n = if is_selector w then (if colons w == n then Ok w else Err Op) else Err Op

-- no words, and then this value
abbrev pub no_word : {A : Type 0} → List (List ℕ) → A → Result A Kind
no_word [] x = Ok x
no_word (w ∷ ws) x = Err Op

-- one word and no others
abbrev pub one_word : List (List ℕ) → Result (List ℕ) Kind
one_word [] = Err Op
one_word (a ∷ ws) = no_word ws a

-- two words and no others
abbrev pub two_words : List (List ℕ) → Result (List ℕ × List ℕ) Kind
two_words [] = Err Op
two_words (a ∷ ws) = one_word ws >>= λ b. Ok (a, b)

-- three words and no others
abbrev pub three_words : List (List ℕ) → Result (List ℕ × List ℕ × List ℕ) Kind
three_words [] = Err Op
three_words (a ∷ ws) = two_words ws >>= λ x. Ok (a, x.0, x.1)

-- three words, and all those behind them
abbrev pub message_words : List (List ℕ) → Result (List ℕ × List ℕ × List ℕ × List (List ℕ)) Kind
message_words (d ∷ t ∷ w ∷ ws) = Ok (d, t, w, ws)
message_words _ = Err Op

-- the instruction that a form makes of the words behind its name. Of several faults the operands'
-- number and forms come first, then the locals, then the labels
unfoldable pub instruction : Scope → Form → List (List ℕ) → Result Instruction Kind
instruction s Nothing ws = no_word ws made.EndCatch
instruction s (One op) ws = one_word ws >>= λ a. local a >>= λ d. Ok (with_one op d)
instruction s (Two op) ws =
    two_words ws >>= λ x. local x.0 >>= λ d. local x.1 >>= λ a. Ok (with_two op d a)
instruction s (Three op) ws =
    three_words ws >>= λ x. local x.0 >>= λ d. local x.1 >>= λ a. local x.2 >>= λ b. Ok
    (with_three op d a b)
instruction s Number ws =
    two_words ws >>= λ x. ok_or (int_in x.1) Op >>= λ z. local x.0 >>= λ d. Ok (made.Number d z)
instruction s Text ws =
    two_words ws >>= λ x. ok_or (quoted_in x.1) Op >>= λ t. local x.0 >>= λ d. Ok (made.Text d t)
instruction s Get ws =
    two_words ws >>= λ x. named s.slots x.1 >>= λ k. local x.0 >>= λ d. Ok (made.Get d k)
instruction s Set ws =
    two_words ws >>= λ x. named s.slots x.0 >>= λ k. local x.1 >>= λ a. Ok (made.Set k a)
instruction s New ws =
    two_words ws >>= λ x. named s.classes x.1 >>= λ c. local x.0 >>= λ d. Ok (made.New d c)
instruction s Send ws =
    message_words ws >>= λ x. selector x.2
    (length x.3) >>= λ w. local x.0 >>= λ d. local x.1 >>= λ t. locals x.3 >>= λ ks. Ok
    (made.Send d t w ks)
instruction s Jump ws =
    one_word ws >>= λ w. label w >>= λ name. place s name >>= λ p. Ok (made.Jump p)
instruction s IfNot ws =
    two_words ws >>= λ x. label x.1 >>= λ name. local x.0 >>= λ a. place s name >>= λ p. Ok
    (made.IfNot a p)
instruction s Catch ws =
    two_words ws >>= λ x. label x.1 >>= λ name. local x.0 >>= λ d. place s name >>= λ p. Ok
    (made.Catch d p)
