-- What is answered to words that ask for no command.
use Rattle.do_cli.specs.declared.fault.WordFault.TheVariants as words
use Rattle.do_given.specs.declared.status.Status.TheVariants as answer
use Rattle.std.proofs.Common.{◌≡◌, ◌↔◌, ℕ, List, Some, None, Err, refl, subst, sym}
use Rattle.std.specs.Prelude.{IfSome, IsErrOf}
use Rattle.do_cli.specs.{Forms.{command_in, stuck_at}, declared.command.Command.Command}
use Rattle.do_cli.specs.declared.fault.WordFault.{WordFault}

-- the words ask for no command, and this one is the first at fault
abbrev IsStuck : List (List ℕ) → ℕ → Type 0
IsStuck ws word = (command_in ws ≡ None) × (word ≡ stuck_at ws)

-- a reader of words answers so exactly where they are stuck
abbrev Reads : List (List ℕ) → WordFault → Type 0
Reads ws fault =
    (word : ℕ) → IsErrOf {T = Command} (Err fault) (words.Usage word) ↔ IsStuck ws word

-- the word at fault is told
pub usage_told : (ws : List (List ℕ)) (n : ℕ) → Reads ws (words.Usage n)
    → (word : ℕ) → (answer.Usage n ≡ answer.Usage word) ↔ IsStuck ws word
usage_told ws n reads word = (
  λ told. (reads word).0 (cc),
  λ stuck. told_as_read ((reads word).1 stuck),
)
  where
    told_as_read : IsErrOf {T = Command} (Err (words.Usage n)) (words.Usage word)
        → answer.Usage n ≡ answer.Usage word
    told_as_read e = cc

-- nothing is told of them where memory ran out
pub memory_told : (ws : List (List ℕ)) → Reads ws words.Memory
    → (word : ℕ) → (answer.Memory ≡ answer.Usage word) ↔ IsStuck ws word
memory_told ws reads word = (λ told. absurd (cc), λ stuck. absurd (no ((reads word).1 stuck)))
  where
    no : IsErrOf {T = Command} (Err words.Memory) (words.Usage word) → ⊥
    no e = cc

-- they ask for no command
pub no_command : (ws : List (List ℕ)) (n : ℕ) (command : Command) → Reads ws (words.Usage n)
    → command_in ws ≡ Some command → ⊥
no_command ws n command reads asks =
    let none : command_in ws ≡ None = ((reads n).0 refl).0 in
    cc

-- so what is said of the command that they ask for holds
pub none_asked : (ws : List (List ℕ)) (n : ℕ) (P : Command → Type 0) → Reads ws (words.Usage n)
    → IfSome (command_in ws) P
none_asked ws n P reads = subst (λ c. IfSome c P) (sym ((reads n).0 refl).0) tt
