-- Names counted or taken off: none, one lot after another, and the same names in other words.
use Rattle.std.proofs.Common.{◌≡◌, ℕ, ◌+◌, ◌≤◌, arith, sym, ◌∙◌}
use Rattle.do_base.specs.names.Names.{ObjectName}
use Rattle.do_part.specs.{Holding.{CanTally, Tallied}, declared.holders.Holders.Holders}
use Rattle.do_part.specs.declared.tally.Tally.{Tally, TheVariants.{More, Less}}
use Rattle.do_part.proofs.Steps.{came-none, came-as, came-then, can-less, can-rest, go-less}
use Rattle.do_part.proofs.Steps.{go-rest}

-- where there is no name, nothing changes
pub tallied-none : (by : Tally) (a : Holders) (f : ObjectName → ℕ) (s : ℕ)
    → ((o : ObjectName) → f o ≡ 0) → s ≡ 0 → Tallied by a a f s
tallied-none More a f s none zero = record {
  came = came-none a f none;
  positive = λ pos. pos;
  spare = omega (arith, zero);
  names = omega (arith, zero);
}
tallied-none Less a f s none zero = record {
  went = came-none a f none;
  positive = λ pos. pos;
  spare = omega arith;
  names = omega arith;
}

-- the same names in other words
pub tallied-as : (by : Tally) (a b : Holders) (d f : ObjectName → ℕ) (s t : ℕ)
    → Tallied by a b d s → ((o : ObjectName) → f o ≡ d o) → t ≡ s → Tallied by a b f t
tallied-as More a b d f s t done same size = record {
  came = came-as a b d f done.came same;
  positive = done.positive;
  spare = let x = done.spare in omega (arith, x, size);
  names = let x = done.names in omega (arith, x, size);
}
tallied-as Less a b d f s t done same size = record {
  went = came-as b a d f done.went same;
  positive = done.positive;
  spare = done.spare;
  names = done.names;
}

-- some names, and then others
pub tallied-then : (by : Tally) (a b c : Holders) (d e f : ObjectName → ℕ) (s t u : ℕ)
    → Tallied by a b d s → Tallied by b c e t → ((o : ObjectName) → f o ≡ d o + e o) → u ≡ s + t
    → Tallied by a c f u
tallied-then More a b c d e f s t u first second sum size = record {
  came = came-then a b c d e f first.came second.came sum;
  positive = λ pos. second.positive (first.positive pos);
  spare = let x = first.spare in let y = second.spare in omega (arith, x, y, size);
  names = let x = first.names in let y = second.names in omega (arith, x, y, size);
}
tallied-then Less a b c d e f s t u first second sum size = record {
  went = came-then c b a e d f second.went first.went (λ o. let x = sum o in omega arith);
  positive = λ pos. second.positive (first.positive pos);
  spare = let x = first.spare in let y = second.spare in omega (arith, x, y);
  names = second.names ∙ first.names;
}

-- the node is the same
pub tallied-node : (by : Tally) (a b : Holders) (d : ObjectName → ℕ) (s : ℕ) → Tallied by a b d s
    → b.node ≡ a.node
tallied-node More a b d s done = done.came.node
tallied-node Less a b d s done = sym done.went.node

-- where names can be counted, fewer can
pub tally-less : (by : Tally) (a : Holders) (f e : ObjectName → ℕ) (s u : ℕ) → CanTally by a f s
    → ((o : ObjectName) → e o ≤ f o) → u ≤ s → CanTally by a e u
tally-less More a f e s u can less fewer = can-less a f e s u can less fewer
tally-less Less a f e s u can less fewer = go-less a f e can less

-- where names can be counted, and some were, the others can
pub tally-rest : (by : Tally) (a b : Holders) (f d e : ObjectName → ℕ) (s t u : ℕ)
    → CanTally by a f s → Tallied by a b d t → ((o : ObjectName) → d o + e o ≤ f o) → t + u ≤ s
    → CanTally by b e u
tally-rest More a b f d e s t u can done less fewer =
    can-rest a b f d e s t u can done.came done.spare done.names less fewer
tally-rest Less a b f d e s t u can done less fewer = go-rest a b f d e can done.went less
