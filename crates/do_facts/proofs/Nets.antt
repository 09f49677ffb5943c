-- Nets after what nodes take and post.
use Rattle.std.proofs.Common.{◌≡◌, ◌==◌, ◌++◌, ℕ, Bool, true, false, cond, List, [], length, drop}
use Rattle.std.proofs.{Common.{refl, ap, ◌∙◌, arith, append_assoc}, lemmas.Bool.eqb-true}
use Rattle.std.proofs.lemmas.Bool.Decides.{nat_tests}
use mathlib.Core.Path.{fun_ext}
use Rattle.do_facts.specs.Net.{Net, Note, StandFirst, atoms_of, net_after, total, wires_after}
use Rattle.do_facts.specs.Net.{with_part}
use Rattle.do_facts.proofs.Notes.{atoms_behind, first_dropped, total-append, wire_same, wire_twice}

module _ {P : Type 0} (port : ℕ) (parts : ℕ → P) where
  -- the part that a node has now
  pub part_here : (p : P) → with_part port p parts port ≡ p
  part_here p = grind (arith, nat_tests)

  -- a part is replaced, and then again
  pub part_twice : (p q : P) →
      with_part port q (with_part port p parts) ≡ with_part port q parts
  part_twice p q = fun_ext (λ x. go x (x == port))
    where
      go : (x : ℕ) (b : Bool) → cond b q (cond b p (parts x)) ≡ cond b q (parts x)
      go x true = refl
      go x false = refl

  -- a part is replaced by itself
  pub part_same : with_part port (parts port) parts ≡ parts
  part_same = fun_ext (λ x. grind (arith, nat_tests))

module _ {P A : Type 0} (port : ℕ) (net : Net P A) where
  -- a node moves, and then again
  pub net_twice : (p q : P) (taken sent more others : List (Note A)) →
      net_after port q more others (net_after port p taken sent net)
      ≡ net_after port q (taken ++ more) (sent ++ others) net
  net_twice p q taken sent more others =
      let wires = wires_after port more others (wires_after port taken sent net.wire) in
      ap (λ f. record { part = f; wire = wires }) (part_twice port net.part p q)
      ∙ ap (λ w. record { part = with_part port q net.part; wire = w })
      (fun_ext (λ x. fun_ext (λ y. wire_twice port net.wire taken sent more others x y)))

  -- a node does nothing
  pub net_same : net_after port (net.part port) [] [] net ≡ net
  net_same =
      ap (λ f. record { part = f; wire = wires_after port [] [] net.wire })
      (part_same port net.part)
      ∙ ap (λ w. record net { wire = w })
      (fun_ext (λ x. fun_ext (λ y. wire_same port net.wire x y)))

  module _ (taken more : List (Note A)) (first : StandFirst port (taken ++ more) net) where
    -- what is taken first stands first
    pub former_first : StandFirst port taken net
    former_first x h =
        let r = first x h in (
          atoms_of x more ++ r.0,
          r.1 ∙ ap (λ zs. zs ++ r.0) (atoms_behind x taken more)
              ∙ append_assoc (atoms_of x taken) (atoms_of x more) r.0,
        )

    -- and once it is taken, what is taken next
    pub latter_first : (p : P) (sent : List (Note A)) →
        StandFirst port more (net_after port p taken sent net)
    unfolding former_first
    latter_first p sent x h =
        let r = first x h in
        let rest = atoms_of x more ++ r.0 in
        let whole = (former_first x h).1 in (
          r.0,
          ap (λ b. cond b (net.wire x port ++ atoms_of port sent)
              (cond (port == port) (drop (length (atoms_of x taken)) (net.wire x port))
              (net.wire x port))) h
              ∙ ap (λ b. cond b (drop (length (atoms_of x taken)) (net.wire x port)) (net.wire x
              port))
              (same port)
              ∙ ap (λ zs. drop (length (atoms_of x taken)) zs) whole
              ∙ first_dropped (atoms_of x taken) rest,
        )
      where
        same : (n : ℕ) → (n == n) ≡ true
        same n = grind (arith, nat_tests)

  module _ (taken sent : List (Note A)) (first : StandFirst port taken net) (f : A → ℕ)
      (none : (y : ℕ) → total f (atoms_of y taken) ≡ 0)
      (nothing : (y : ℕ) → total f (atoms_of y sent) ≡ 0) where
    -- a sum along a wire to which nothing that is taken or posted adds is as it was
    pub total_stays : (x y : ℕ) →
        total f (wires_after port taken sent net.wire x y) ≡ total f (net.wire x y)
    total_stays x y = go (x == port) refl (y == port) refl
      where
        go : (b : Bool) → (x == port) ≡ b → (c : Bool) → (y == port) ≡ c →
            total f (cond b (net.wire x y ++ atoms_of y sent)
            (cond c (drop (length (atoms_of x taken)) (net.wire x y)) (net.wire x y)))
            ≡ total f (net.wire x y)
        go true h c k =
            omega (arith, total-append f (net.wire x y) (atoms_of y sent), nothing y)
        go false h false k = refl
        go false h true k =
            let r = first x h in
            let e : net.wire x y ≡ atoms_of x taken ++ r.0 =
            ap (net.wire x) (eqb-true y port k) ∙ r.1 in
            ap (λ w. total f (drop (length (atoms_of x taken)) w)) e
            ∙ ap (total f) (first_dropped (atoms_of x taken) r.0)
            ∙ omega (arith, ap (total f) e, total-append f (atoms_of x taken) r.0, none x)
