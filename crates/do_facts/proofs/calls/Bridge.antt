-- Every rule of a step is moves of its node's calls.
use Rattle.std.proofs.Common.{◌≡◌, ◌==◌, ◌∙◌, ℕ, Bool, true, false, cond, not, List, [], ◌∷◌}
use Rattle.std.{proofs.Common.{filter, refl, ap, sym, arith}, specs.List.list_any}
use Rattle.std.proofs.lemmas.Bool.{eqb-true, Decides.nat_tests}
use Rattle.do_facts.specs.{Net.atoms_of, calls.{Calls.{Atom, Calls, calls}, Moves.AreShaped}}
use Rattle.do_facts.specs.calls.Moves.{Asks, Closes, Gives, Move, Refuses, Replies, call_rules, may}
use Rattle.do_facts.{specs.calls.Moves.{moved, note, opens, posts}, proofs.Bridge.Bridge}
use Rattle.do_facts.proofs.calls.{StacksShaped.shaped_moved, RulesAreMoves.{by_closing, by_leaving}}
use Rattle.do_facts.proofs.calls.RulesAreMoves.{by_run, by_start, by_take, by_time_out}

module _ (p : Calls) (peer : ℕ) (h : opens p peer ≡ false) where
  -- nothing goes to another peer than one over an open end
  note_elsewhere : (to : ℕ) (x : Atom) → opens p to ≡ true → atoms_of peer (note to x) ≡ []
  note_elsewhere to x o = go (to == peer) refl
    where
      go : (b : Bool) → (to == peer) ≡ b → cond b (x ∷ []) [] ≡ []
      go true e = absurd (no (ap (opens p) (sym (eqb-true to peer e)) ∙ o))
        where
          no : opens p peer ≡ true → ⊥
          no k = cc
      go false e = refl

  -- an end that is closed stays so
  closed_stays : (other : ℕ) (ps : List ℕ) → list_any (λ x. x == peer) ps ≡ false →
      list_any (λ x. x == peer) (filter (λ x. not (x == other)) ps) ≡ false
  closed_stays other [] k = refl
  closed_stays other (q ∷ ps) k = grind (arith, nat_tests, k, closed_stays other ps)

  -- a move opens no end, and posts nothing over a closed one
  closed_moved : (v : Move) → may p v →
      (opens (moved p v) peer ≡ false) × (atoms_of peer (posts p v) ≡ [])
  closed_moved (Asks to root) m = (h, note_elsewhere to _ m.2)
  closed_moved (Refuses from number) m = (h, note_elsewhere from _ m)
  closed_moved (Gives from number) m = (h, note_elsewhere from _ m)
  closed_moved (Replies to number) m = (h, note_elsewhere to _ m.1)
  closed_moved (Closes other) m = (closed_stays other p.open_to h, refl)
  closed_moved _ m = (h, refl)

-- the stack of these calls is shaped
abbrev pub IsShaped : Calls → Type 0
IsShaped p = AreShaped p.stack

-- all rules
pub call_bridge : Bridge calls call_rules IsShaped
call_bridge = record {
  opens = λ n peer. refl;
  loss = refl;
  stays = λ p v ok may. shaped_moved p v ok may;
  closed = λ p v peer may h. closed_moved p peer h v may;
  start = λ table selector values n ok. by_start table selector values n;
  run = λ act c ok. by_run act c;
  gives_up = λ n ok. by_time_out n;
  take = λ c from item ends ok. by_take c from ends item;
  close = λ n peer ends ok. by_closing peer n ends;
  leave = λ entry n ok. by_leaving entry n;
}
