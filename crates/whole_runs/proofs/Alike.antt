-- Behaviours of one program decide alike.
use Rattle.std.{proofs.Common.{◌≡◌, List, [], ◌∷◌, ◌++◌, ap, sym, ◌∙◌}, specs.List.AllByRecursion}
use Rattle.do_behave.specs.Script.{script}
use Rattle.do_script.specs.Listing.{Listing}
use Rattle.do_net.specs.Net.{AreAlike}
use Rattle.whole_runs.specs.{Counters.AreOf, declared.counting.Counting.Counting}

-- one more is of the program
pub counts_more : (program : List (List Listing)) (m : Counting) (makers : List Counting) →
    AreOf program makers → m.program ≡ program → AreOf program (makers ++ m ∷ [])
counts_more program m [] all is = (is, tt)
counts_more program m (n ∷ makers) all is = (all.0, counts_more program m makers all.1 is)

-- all of one program decide as the first
pub count_alike : (program : List (List Listing)) (makers : List Counting) →
    AreOf program makers → AreAlike (λ c. script c.program) makers
count_alike program [] all = tt
count_alike program (m ∷ makers) all = alike makers all.1
  where
    alike : (ms : List Counting) → AreOf program ms →
        AllByRecursion (λ n. script n.program ≡ script m.program) ms
    alike [] each = tt
    alike (n ∷ ms) each = (ap script (each.0 ∙ sym all.0), alike ms each.1)
