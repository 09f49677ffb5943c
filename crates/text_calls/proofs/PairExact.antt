-- Two numbers in order are read exactly.
use Rattle.std.proofs.Common.{◌≡◌, ℕ, List, ◌++◌, refl, ap, ◌∙◌, arith}
use Rattle.do_grammar.specs.{Reader.mapped, Forms.{Then, Mapped}, Num.{num, num_at, Num}}
use Rattle.text_calls.specs.Pair.{Pair, pair_at}
use Rattle.do_grammar.proofs.reads.ExactReader.{Reads, Reads-then, Reads-as}
use Rattle.do_grammar.proofs.{reads.FormsExact.Reads-mapped, texts.NumExact.Reads-num}

pub Reads-pair : {K : Type 0} (why : K) → Reads Pair (pair_at why)
unfolding pair_at
Reads-pair why =
    Reads-as (Then (Num 1 9) second) Pair (pair_at why) (pair_at why) there back (λ bytes. refl)
    (Reads-then (Num 1 9) second (num_at why 1 9) (λ a. mapped (λ b. (a, b)) (num_at why a 9))
    (Reads-num why 1 9 (omega arith) (omega arith))
    (λ a text g.
    Reads-mapped (λ b. (a, b)) (Num a 9) (num_at why a 9)
    (Reads-num why a 9 g.at_most (omega arith))))
  where
    second : ℕ → List ℕ → ℕ × ℕ → Type 0
    second = λ a. Mapped (λ b. (a, b)) (Num a 9)

    there : (text : List ℕ) (x : ℕ × ℕ) → Then (Num 1 9) second text x → Pair text x
    there text x g =
        let a : g.value ≡ x.0 = ap (λ (p : ℕ × ℕ). p.0) g.second.same in
        let b : g.second.value ≡ x.1 = ap (λ (p : ℕ × ℕ). p.1) g.second.same in
        let least = g.first.at_least in
        let order = g.second.spelled.at_least in
        let most = g.second.spelled.at_most in
        record {
          spelled = g.parts ∙ ap (λ (w : List ℕ). w ++ g.back) (g.first.spelled ∙ ap num a)
              ∙ ap (λ (w : List ℕ). num x.0 ++ w) (g.second.spelled.spelled ∙ ap num b);
          at_least = omega arith;
          in_order = omega arith;
          at_most = omega arith;
        }

    back : (text : List ℕ) (x : ℕ × ℕ) → Pair text x → Then (Num 1 9) second text x
    back text x g =
        let order = g.in_order in
        let most = g.at_most in
        record {
          value = x.0;
          front = num x.0;
          back = num x.1;
          parts = g.spelled;
          first = record { spelled = refl; at_least = g.at_least; at_most = omega arith };
          second = record {
            value = x.1;
            spelled = record { spelled = refl; at_least = g.in_order; at_most = g.at_most };
            same = refl;
          };
        }
