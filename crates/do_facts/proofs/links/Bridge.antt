-- Every rule of a step is moves of its node's links.
use Rattle.std.proofs.Common.{◌≡◌, ◌==◌, ℕ, Bool, true, false, cond, not, List, [], ◌∷◌, filter}
use Rattle.std.{proofs.Common.{refl, ap, ◌∙◌, sym, arith}, specs.List.list_any}
use Rattle.std.proofs.lemmas.Bool.{eqb-true, Decides.nat_tests}
use Rattle.std.specs.Prelude.{None, Option, Some}
use Rattle.do_base.specs.names.Names.{TokenName}
use Rattle.do_machine.specs.{declared.{node.Node.Node, state.Effect.Effect}, Start.start_effect}
use Rattle.do_machine.specs.{ends.TimeOut.time_out, run.Run.run_effect}
use Rattle.do_facts.specs.{Net.atoms_of, links.Links.{Atom, Links, links}}
use Rattle.do_facts.specs.links.Moves.{Asks, Closes, Ends, GivesUp, Grants, Leaves, Lends, Mentions}
use Rattle.do_facts.specs.links.Moves.{Misses, Move, Names, Receives, Refuses, Returns, link_rules}
use Rattle.do_facts.specs.links.{Moves.{may, moved, note, opens, posts, telling}, Sound.IsSound}
use Rattle.do_facts.specs.View.{AreMovesIf}
use Rattle.do_facts.proofs.{Bridge.Bridge, links.Acts.{act_rules, runs_moves}}
use Rattle.do_facts.proofs.links.{PartsAreSound.sound_moved, RulesAreMoves.{by_closing, by_leaving}}
use Rattle.do_facts.proofs.links.RulesAreMoves.{by_run, by_start, by_take, by_time_out}

module _ (p : Links) (peer : ℕ) (h : opens p peer ≡ false) where
  -- nothing goes to another peer than one over an open end
  note_elsewhere : (to : ℕ) (x : Atom) → opens p to ≡ true → atoms_of peer (note to x) ≡ []
  note_elsewhere to x o = go (to == peer) refl
    where
      go : (b : Bool) → (to == peer) ≡ b → cond b (x ∷ []) [] ≡ []
      go true e = absurd (no (ap (opens p) (sym (eqb-true to peer e)) ∙ o))
        where
          no : opens p peer ≡ true → ⊥
          no k = cc
      go false e = refl

  -- nor is a lender told that can't be told
  telling_elsewhere : (told : Bool) (token : TokenName) → opens p token.lender ≡ told →
      atoms_of peer (telling told token) ≡ []
  telling_elsewhere true token o = note_elsewhere token.lender _ o
  telling_elsewhere false token o = refl

  -- an end that is closed stays so
  closed_stays : (other : ℕ) (ps : List ℕ) → list_any (λ x. x == peer) ps ≡ false →
      list_any (λ x. x == peer) (filter (λ x. not (x == other)) ps) ≡ false
  closed_stays other [] k = refl
  closed_stays other (q ∷ ps) k = grind (arith, nat_tests, k, closed_stays other ps)

  -- a move opens no end, and posts nothing over a closed one
  closed_moved : (v : Move) → may p v →
      (opens (moved p v) peer ≡ false) × (atoms_of peer (posts p v) ≡ [])
  closed_moved (Names to serial) m = (h, note_elsewhere to _ m.0)
  closed_moved (Mentions to serial) m = (h, note_elsewhere to _ m.0)
  closed_moved (Lends to o) m = (h, note_elsewhere to _ m.0)
  closed_moved (Leaves o) m = (h, note_elsewhere o.node _ m.0)
  closed_moved (Closes other) m = (closed_stays other p.open_to h, note_elsewhere other _ m)
  closed_moved (GivesUp w told) m = (h, telling_elsewhere told w.token m.2)
  closed_moved (Asks from o token) m = (h, note_elsewhere o.node _ m.1)
  closed_moved (Returns from o token) m = (h, note_elsewhere from _ m.0)
  closed_moved (Grants from serial token) m = (h, note_elsewhere from _ m.0)
  closed_moved (Refuses from serial token) m = (h, note_elsewhere from _ m.0)
  closed_moved (Receives from serial token told) m = (h, telling_elsewhere told token m.1)
  closed_moved (Misses from serial token told) m = (h, telling_elsewhere told token m.1)
  closed_moved (Ends from serials) m = (closed_stays from p.open_to h, note_elsewhere from _ m)
  closed_moved _ m = (h, refl)

-- an effect that is moves while nothing is freed is moves, where there is one
moves_if : (n : Node) (e : Option Effect) → AreMovesIf links act_rules n e →
    AreMovesIf links link_rules n e
moves_if n None h = tt
moves_if n (Some e) h = runs_moves h

-- all rules
pub link_bridge : Bridge links link_rules IsSound
link_bridge = record {
  opens = λ n peer. refl;
  loss = refl;
  stays = λ p v ok may. sound_moved p ok v may;
  closed = λ p v peer may h. closed_moved p peer h v may;
  start = λ table selector values n ok.
      moves_if n (start_effect table selector values n) (by_start table selector values n ok);
  run = λ act c ok. moves_if c.node (run_effect act c) (by_run act c ok);
  gives_up = λ n ok. moves_if n (time_out n) (by_time_out n ok);
  take = λ c from item ends ok. runs_moves (by_take c from ends item ok);
  close = λ n peer ends ok. runs_moves (by_closing peer n ends ok);
  leave = λ entry n ok. by_leaving entry n ok;
}
