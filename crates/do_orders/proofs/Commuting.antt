-- Steps of two nodes commute, part by part.
use Rattle.std.proofs.Common.{◌≡◌, ◌==◌, ℕ, false, sym, ap, ◌∙◌}
use Rattle.do_machine.specs.{Commit.commit, declared.state.{Effect.Effect, State.State}}
use Rattle.do_orders.specs.Moves.{Move, Source, Stands, done, effected, taken_off}
use Rattle.do_orders.proofs.Moving.{both_off, effects_apart, off_and_effect, stands_behind}
use Rattle.do_orders.proofs.Moving.{stands_off, turned_round}

module _ (k : Move) (p : ℕ) (apart : (p == k.port) ≡ false) (S : State)
    (there : Stands k.port k.source S) where
  -- what a node has of queues stays behind a step of another
  pub stands_after : (a : Source) → Stands p a S → Stands p a (done k S)
  stands_after a own =
      let off : Stands p a (taken_off k.port k.source S) =
      stands_off p k.port a k.source S apart there own in
      let behind : Stands p a (effected k S) =
      stands_behind p k.port a k.effect (taken_off k.port k.source S) off in
      stands_behind p k.port a k.leaves (effected k S) behind

  -- it takes off the same before and after
  pub off_past : (a : Source) → Stands p a S →
      taken_off p a (done k S) ≡ done k (taken_off p a S)
  off_past a own =
      let T = taken_off k.port k.source S in
      let off : Stands p a T = stands_off p k.port a k.source S apart there own in
      let behind : Stands p a (effected k S) =
      stands_behind p k.port a k.effect T off in
      off_and_effect p k.port a k.leaves (effected k S) apart behind
      ∙ ap (commit k.port k.leaves) (off_and_effect p k.port a k.effect T apart off
      ∙ ap (commit k.port k.effect) (both_off p k.port a k.source S apart))

  -- an effect is the same before and after
  pub effect_past : (e : Effect) → commit p e (done k S) ≡ done k (commit p e S)
  effect_past e =
      let T = taken_off k.port k.source S in
      effects_apart p k.port e k.leaves (effected k S) apart
      ∙ ap (commit k.port k.leaves) (effects_apart p k.port e k.effect T apart
      ∙ ap (commit k.port k.effect)
      (sym (off_and_effect k.port p k.source e S (turned_round p k.port apart) there)))

module _ (m k : Move) (apart : (m.port == k.port) ≡ false) (S : State)
    (own : Stands m.port m.source S) (there : Stands k.port k.source S) where
  -- what the second takes off stands where the first took off
  pub there_off : Stands k.port k.source (taken_off m.port m.source S)
  there_off =
      stands_off k.port m.port k.source m.source S (turned_round m.port k.port apart) own there

  -- and where the effect of the first is committed
  pub there_effected : Stands k.port k.source (effected m S)
  there_effected =
      stands_behind k.port m.port k.source m.effect (taken_off m.port m.source S) there_off

  -- the effect of the first, with what it takes off, is the same before and after
  pub effected_past : effected m (done k S) ≡ done k (effected m S)
  effected_past =
      ap (commit m.port m.effect) (off_past k m.port apart S there m.source own)
      ∙ effect_past k m.port apart (taken_off m.port m.source S) there_off m.effect

  -- two steps come to one state in either order
  pub done_past : done m (done k S) ≡ done k (done m S)
  done_past =
      ap (commit m.port m.leaves) effected_past
      ∙ effect_past k m.port apart (effected m S) there_effected m.leaves
