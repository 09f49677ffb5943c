-- An effect that takes nothing accounts for what its node held.
use Rattle.std.proofs.Common.{◌≡◌, ◌++◌, ◌+◌, ℕ, Bool, true, false, List, [], ◌∷◌, refl, ap, ◌∙◌}
use Rattle.std.proofs.Common.{subst, arith}
use Rattle.do_machine.specs.declared.{node.Node.Node, state.Effect.Effect}
use Rattle.do_facts.specs.{Net.{Note, atoms_of, total}, Moves.{Mays, afters, all_posts, all_takes}}
use Rattle.do_facts.specs.{View.{AreMoves, posted}, links.{Facts.told_of, Links.{Atom, Links}}}
use Rattle.do_facts.specs.links.{Links.{links, links_of}, Moves.{Move, link_rules, moved, opens}}
use Rattle.do_facts.{specs.links.Moves.{posts, takes}, proofs.Notes.{atoms_behind, total-append}}
use Rattle.do_agreement.specs.Accounted.{Accounted, given, told, worth_of}
use Rattle.do_agreement.proofs.counts.MovesAccount.{accounts_moved, apart}

-- either a test passes or it fails
pub either_way : {P : Type 0} (b : Bool) → (b ≡ true → P) → (b ≡ false → P) → P
either_way true x y = x refl
either_way false x y = y refl

-- of nothing both parts are nothing
none_of_both : {X : Type 0} (xs ys : List X) → xs ++ ys ≡ [] → (xs ≡ []) × (ys ≡ [])
none_of_both [] ys h = (refl, h)
none_of_both (x ∷ xs) ys h = absurd (cc)

module _ (h s c : ℕ) where
  module _ (p r q : Links) (sent more : List (Note Atom)) (x : Accounted h s c p r sent)
      (y : Accounted h s c r q more) where
    -- what is given back by both
    given_both : given h s c (sent ++ more) ≡ given h s c sent + given h s c more
    given_both =
        ap (total (worth_of h s c)) (atoms_behind h sent more)
        ∙ total-append (worth_of h s c) (atoms_of h sent) (atoms_of h more)

    -- what is told by both
    told_both : told h s c (sent ++ more) ≡ told h s c sent + told h s c more
    told_both =
        ap (total (told_of s)) (atoms_behind h sent more)
        ∙ total-append (told_of s) (atoms_of h sent) (atoms_of h more)

    -- an end that is open was open before
    open_before : opens q h ≡ true → opens r h ≡ true
    open_before o = either_way (opens r h) (λ k. k) (λ k. absurd (apart o (y.shut k).0))

    -- one effect after another
    both : Accounted h s c p q (sent ++ more)
    both = record {
      still = λ o. omega (arith, x.still (open_before o), y.still o, given_both);
      quiet = λ o. omega (arith, x.quiet (open_before o), y.quiet o, told_both);
      untold = λ o k t. either_way (opens r h)
          (λ l. omega (arith, x.still l, y.untold l k (omega (arith, t, told_both)), given_both))
          (λ l. omega (
            arith,
            x.untold o l (omega (arith, t, told_both)),
            (y.shut l).1,
            given_both,
          ));
      ended = λ o k t. either_way (opens r h)
          (λ l. omega (
            arith,
            x.still l,
            y.ended l k (omega (arith, t, told_both, x.quiet l)),
            given_both,
          ))
          (λ l. omega (
            arith,
            x.ended o l (omega (arith, t, told_both, (y.shut l).2)),
            (y.shut l).1,
            given_both,
          ));
      shut = λ o.
          let first = x.shut o in
          let then = y.shut first.0 in (
            then.0,
            omega (arith, first.1, then.1, given_both),
            omega (arith, first.2, then.2, told_both),
          );
    }

  -- moves that take nothing
  moves_account : (vs : List Move) (p : Links) → Mays link_rules p vs →
      all_takes link_rules vs ≡ [] →
      Accounted h s c p (afters link_rules p vs) (all_posts link_rules p vs)
  moves_account [] p m e = record {
    still = λ o. omega arith;
    quiet = λ o. refl;
    untold = λ o k t. absurd (apart o k);
    ended = λ o k t. absurd (apart o k);
    shut = λ o. (o, refl, refl);
  }
  moves_account (v ∷ vs) p m e =
      let none = none_of_both (takes v) (all_takes link_rules vs) e in
      both p (moved p v) (afters link_rules (moved p v) vs) (posts p v)
      (all_posts link_rules (moved p v) vs) (accounts_moved h s c p v m.0 none.0)
      (moves_account vs (moved p v) m.1 none.1)

  -- an effect that takes nothing
  pub effect_accounts : (n : Node) (e : Effect) → AreMoves links link_rules n [] e →
      Accounted h s c (links_of n) (links_of e.node) (posted links e.sent)
  effect_accounts n e moves =
      subst (λ q. Accounted h s c (links_of n) q (posted links e.sent)) moves.reaches
      (subst (Accounted h s c (links_of n) (afters link_rules (links_of n) moves.moves))
      moves.posts (moves_account moves.moves (links_of n) moves.may moves.takes))
