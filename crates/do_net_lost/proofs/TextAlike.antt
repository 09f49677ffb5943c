-- What nothing can reach in a network is written as in the state for which it stands.
use Rattle.std.proofs.Common.{◌≡◌, ◌∙◌, ◌++◌, List, [], ◌∷◌, ap, map, refl, subst}
use Rattle.std.specs.{Prelude.codes, List.AllByRecursion}
use Rattle.do_class.specs.Class.{Class}
use Rattle.do_leaks.specs.{Leaks.leaks, declared.leak.Leak.Leak}
use Rattle.do_lines.specs.Lines.{joined}
use Rattle.do_lost.specs.Named.{named, quiet}
use Rattle.do_lost.specs.Text.{leak_line, leak_told, leaks_text, lost_text, quiet_line}
use Rattle.do_machine.specs.{State.class_of, check.Snapshot.snapshot, declared.state.State.State}
use Rattle.do_machine.specs.run.Run.{Acting}
use Rattle.do_net.specs.OneMachine.{StandsFor}
use Rattle.do_network.specs.Net.{Net}
use Rattle.do_net_named.specs.Lost.{HasClassesOf, net_class, net_still}
use Rattle.do_net_named.proofs.StandsNamed.{classes_as_one, leaks_as_one, still_as_one}
use Rattle.do_net_lost.specs.Text.{net_lost_text}

-- the lines of what is lost
lines_so : (table : List Class) (N : Net) (S : State) (ls : List Leak) →
    AllByRecursion (HasClassesOf N S) ls →
    map (leak_line table (net_class N)) ls ≡ map (leak_line table (class_of S)) ls
lines_so table N S [] a = refl
lines_so table N S (l ∷ ls) a =
    let class = a.0.0 in
    let holder = a.0.1 in
    let rest = lines_so table N S ls a.1 in
    λ i. leak_told table l (class i) (holder i) ∷ rest i

-- the texts are one
pub text_as_one : (table : List Class) (act : Acting) (N : Net) (S : State) →
    StandsFor table act N S → net_lost_text table N ≡ lost_text table S
text_as_one table act N S stands =
    let lost : List Leak = leaks (snapshot S) (named S) in
    let same = leaks_as_one table act N S stands in
    ap (leaks_text table (net_still N) (net_class N)) same
    ∙ ap (λ b. leaks_text table b (net_class N) lost) (still_as_one table act N S stands)
    ∙ ap (λ ls. joined (codes "leaks 1" ∷ quiet_line (quiet S) ∷ []) ++ joined ls
    ++ joined (codes "end" ∷ []))
    (lines_so table N S lost (subst (AllByRecursion (HasClassesOf N S)) same
    (classes_as_one table act N S stands)))
