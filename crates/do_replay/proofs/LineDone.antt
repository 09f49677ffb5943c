-- One line more was done.
use Rattle.std.proofs.Common.{◌≡◌, ℕ, List, ◌∷◌, ◌++◌, Option, sym, subst}
use Rattle.do_class.specs.Class.{Class}
use Rattle.do_machine.specs.{check.Blocks.events_of, run.Run.Acting}
use Rattle.do_sched.specs.declared.line.Line.{Line}
use Rattle.do_network.specs.{Net.Net, Wired.{net_line_step, wired_block, wired_lines}}
use Rattle.do_agreement.specs.Along.{EventsSendSpelled}
use Rattle.do_output.proofs.SentIsPrefix.{IsAhead}
use Rattle.do_replay.proofs.BlocksToCome.{ahead_block, rest_from}
use Rattle.do_replay.proofs.SpelledSoFar.{SpelledSoFar, spelled_next}

-- A line was done in a network, its block was added to a text, and all that was sent has a spelling
pub record LineDone (table : List Class) (act : Acting) (M K : Net) (line : Line)
    (waiting longer : List ℕ) : Type 0 where
  pub text : longer
      ≡ waiting ++ wired_lines table (wired_block line (net_line_step table act M line))
  pub net : K ≡ (net_line_step table act M line).net
  pub spelled : EventsSendSpelled table act M (events_of line)

-- What waits and what is left to do make up the whole, and in what was done all has a spelling
pub record GoesOn (table : List Class) (act : Acting) (N : Net) (lines : List Line)
    (before now : Option (List ℕ)) (waiting whole : List ℕ) (M : Net) (left : List Line) : Type 0
  where
    pub written : IsAhead before now waiting (rest_from table act M left) whole
    pub spelled : SpelledSoFar table act N lines M left

-- so it goes on, where a line more was done
pub line_done : (table : List Class) (act a : Acting) (N M K : Net) (lines left : List Line)
    (before now : Option (List ℕ)) (waiting whole : List ℕ) (line : Line) (rest : List Line)
    (text : List ℕ) → a ≡ act → left ≡ line ∷ rest → LineDone table a M K line waiting text →
    IsAhead before now waiting (rest_from table act M left) whole →
    SpelledSoFar table act N lines M left →
    GoesOn table act N lines before now text whole K rest
line_done table act a N M K lines left before now waiting whole line rest text same is did ahead
    s =
    let d : LineDone table act M K line waiting text =
    subst (λ b. LineDone table b M K line waiting text) same did in
    record {
      written = subst (λ k. IsAhead before now text (rest_from table act k rest) whole) (sym d.net)
          (ahead_block before now waiting text whole table act M line left rest is d.text ahead);
      spelled = spelled_next table act N M K lines left rest line is d.net d.spelled s;
    }
