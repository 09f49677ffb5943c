-- A home's counts stay right by what a peer gives back.
use Rattle.std.proofs.Common.{◌≡◌, ◌++◌, ◌+◌, ◌<◌, ℕ, Bool, true, cond, List, sym, ap, ◌∙◌, arith}
use Rattle.std.specs.Prelude.{nat_lt}
use Rattle.do_export.specs.Counts.{count_of}
use Rattle.do_machine.specs.{declared.state.Effect.Effect, Objects.object_at}
use Rattle.do_machine.specs.State.{holds, is_open}
use Rattle.do_network.specs.{Counting.counted, Own.Own, fits.Counted.Counted}
use Rattle.do_network.specs.fits.Notes.{Note, exports_of, returns_of, tells_of, total}
use Rattle.do_facts.specs.{View.posted, links.Links.{links, links_of}}
use Rattle.do_agreement.specs.{Accounted.{AccountsFor, given, told, worth}, NotesSent.notes_to}
use Rattle.do_agreement.proofs.counts.{MovesAccount.apart, EffectAccounts.either_way}
use Rattle.do_agreement.proofs.counts.ReturnsSent.{held_count, returned, told_sent}
use Rattle.do_agreement.proofs.pairs.NotesAsAtoms.{total_behind}

-- what was received is worth as much where it is held
worth_all : (c : ℕ) (b : Bool) → nat_lt 0 c ≡ b → cond b c 0 ≡ c
worth_all c b e = grind (arith, e)

-- what is held was received
some_worth : (c g : ℕ) (b : Bool) → nat_lt 0 c ≡ b → g + 1 ≡ cond b 1 0 → 0 < c
some_worth c g b e h = grind (arith, e, h)

module _ (p q : Own) (e : Effect) (account : AccountsFor q.node.port p.node e)
    (same : e.node.port ≡ p.node.port) (there back : List Note)
    (fit : Counted q p there back)
    (held : (s : ℕ) → nat_lt 0 (count_of p.received q.node.port s)
    ≡ holds p.node (object_at q.node.port s))
    (silent : is_open p.node q.node.port ≡ true → (s : ℕ) → total (tells_of s) back ≡ 0) where
  -- the home
  abbrev h : ℕ
  h = q.node.port

  -- what the node sent to the home
  abbrev new : List Note
  new = notes_to p.received h e.sent

  -- how often the node received an object of the home
  abbrev had : ℕ → ℕ
  had s = count_of p.received h s

  -- what is given back, behind what was
  back_given : (s : ℕ) → total (returns_of s) (back ++ new)
      ≡ total (returns_of s) back + given h s (had s) (posted links e.sent)
  back_given s =
      total_behind (returns_of s) back new
      ∙ ap (λ k. total (returns_of s) back + k) (returned p.received h s e.sent)

  -- what is told, behind what was
  back_told : (s c : ℕ) → total (tells_of s) (back ++ new)
      ≡ total (tells_of s) back + told h s c (posted links e.sent)
  back_told s c =
      total_behind (tells_of s) back new
      ∙ ap (λ k. total (tells_of s) back + k) (told_sent p.received h s c e.sent)

  -- an end that is open was open
  was_open : is_open e.node h ≡ true → is_open p.node h ≡ true
  was_open o =
      either_way (is_open p.node h) (λ k. k) (λ k. absurd (apart o ((account 0 0).shut k).0))

  -- the home's end towards the node, by its port
  towards : {b : Bool} → is_open q.node e.node.port ≡ b → is_open q.node p.node.port ≡ b
  towards o = ap (λ x. is_open q.node x) (sym same) ∙ o

  -- the home's count, by the node's port
  count_is : (s : ℕ) → count_of q.counts e.node.port s ≡ count_of q.counts p.node.port s
  count_is s = ap (λ x. count_of q.counts x s) same

  -- the names under way, by the node's port
  names_are : (s : ℕ) → total (exports_of h e.node.port s) there
      ≡ total (exports_of h p.node.port s) there
  names_are s = ap (λ x. total (exports_of h x s) there) same

  -- what the node had is worth so much
  had_is : (s : ℕ) → worth h s (had s) (links_of p.node) ≡ had s
  had_is s = worth_all (had s) (holds p.node (object_at h s)) (held s)

  -- the home's counts stay right
  pub returns_counted : Counted q (counted p e) there (back ++ new)
  returns_counted = record {
    agree = λ o k s.
        omega (
          arith,
          fit.agree (towards o) (was_open k) s,
          count_is s,
          names_are s,
          had_is s,
          (account s (had s)).still k,
          back_given s,
          held_count e.node p.received h s,
        );
    ended = λ o k s. record {
      untold = λ t. either_way (is_open p.node h)
          (λ l. omega (
            arith,
            fit.agree (towards o) l s,
            count_is s,
            names_are s,
            had_is s,
            (account s (had s)).untold l k (omega (arith, t, back_told s (had s))),
            back_given s,
          ))
          (λ l. omega (
            arith,
            (fit.ended (towards o) l s).untold (omega (arith, t, back_told s (had s))),
            count_is s,
            names_are s,
            ((account s (had s)).shut l).1,
            back_given s,
          ));
      told = λ t. either_way (is_open p.node h)
          (λ l.
          let some : 0 < told h s (had s) (posted links e.sent) =
          omega (arith, t, silent l s, back_told s (had s)) in
          omega (
            arith,
            fit.agree (towards o) l s,
            count_is s,
            names_are s,
            had_is s,
            (account s (had s)).ended l k some,
            some_worth (had s) _ _ (held s) ((account s 1).ended l k some),
            back_given s,
          ))
          (λ l.
          let none = ((account s (had s)).shut l).2 in
          omega (
            arith,
            (fit.ended (towards o) l s).told (omega (arith, t, none, back_told s (had s))),
            count_is s,
            names_are s,
            ((account s (had s)).shut l).1,
            back_given s,
          ));
    };
    closed = λ o s.
        let none = fit.closed (towards o) s in (
          count_is s ∙ none.0,
          ap (λ x. count_of q.received x s) same ∙ none.1,
        );
    silent = λ o s. fit.silent (towards o) s;
  }
