-- A step of a site is what its effect does, and then what it leaves.
use Rattle.std.proofs.Common.{◌≡◌, List, [], ◌∷◌, ◌++◌, refl, sym, append_assoc}
use Rattle.std.specs.Prelude.{fold}
use Rattle.do_machine.specs.declared.state.Effect.{Effect}
use Rattle.do_network.specs.{Frames.Posted, Links.{Outbox, sending}, Site.site_move}
use Rattle.do_effects.specs.Doing.{Doing, cleared, does, effected, moved}

-- frames behind others are sent behind them
pub fold_behind : (o : Outbox) (xs ys : List Posted) →
    fold sending o (xs ++ ys) ≡ fold sending (fold sending o xs) ys
fold_behind o [] ys = refl
fold_behind o (x ∷ xs) ys = fold_behind (sending o x) xs ys

-- what an effect does, and then what is left, is the site's move
pub step_moves : (d : Doing) (e : Effect) →
    moved (does d e) (cleared (does d e).own) ≡ moved d (site_move d.own e)
step_moves d e =
    let q = effected d.own e in
    let l = cleared q.own in
    λ j. record {
      own = l.own;
      out = (sym (fold_behind d.out q.posted l.posted)) j;
      shown = (append_assoc d.shown q.shown l.shown) j;
    }
