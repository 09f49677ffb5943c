-- The next line of starts, used or not.
use Rattle.std.proofs.Common.{◌≡◌, ℕ, suc, ◌+◌, ◌<◌, ◌≤◌, true, false, List, [], ◌∷◌, length, drop}
use Rattle.std.proofs.{Common.{get_or, refl, sym, ap, ◌∙◌, arith, add-one}, Math.Seq.drop-cons}
use Rattle.std.proofs.lemmas.Grind.{common_steps}
use Rattle.do_plan.specs.declared.starts.StartLine.{StartLine}
use Rattle.do_serve.specs.declared.{log.Log.Log, turning.Turned.TheVariants.{Went, Polls}}
use Rattle.do_serve.specs.{Rules.{Rules, Outgoing}, Peers.Peer, Serving.{idle_turn, line_turn}}
use Rattle.do_serve.specs.Turning.{server_of, server_with, TurnsTo, UsesLine}

-- the line at a place and those behind it
pub line_here : (starts : List StartLine) (at : ℕ) (line : StartLine) → at < length starts
    → line ≡ get_or starts at line → drop at starts ≡ line ∷ drop (at + 1) starts
line_here starts at line lt is =
    rw add-one
    (drop-cons starts at line lt ∙ ap (λ (w : StartLine). w ∷ drop (suc at) starts) (sym is))

-- behind the last line there is none
pub no_line : (starts : List StartLine) (at : ℕ) → length starts ≤ at → drop at starts ≡ []
no_line starts at le = grind (arith, common_steps, le)

module _ {Part : Type 0} (rules : Rules Part) (part : Part) (waiting : List Outgoing)
    (before : Log) (peers : List Peer) (starts : List StartLine) (at : ℕ)
    (idle : rules.is_idle part ≡ true) where
  -- a line is used
  pub uses_line : (line : StartLine) (part' : Part) (waiting' : List Outgoing) (after : Log)
      → drop at starts ≡ line ∷ drop (at + 1) starts
      → UsesLine (line_turn rules before.node (line ∷ drop (at + 1) starts)
      (server_with part waiting before peers (line ∷ drop (at + 1) starts))) part waiting part'
      waiting' before after peers (drop (at + 1) starts) true
      → TurnsTo (idle_turn rules before.node (server_of part waiting before peers starts at))
      (server_of part waiting before peers starts at)
      (server_of part' waiting' after peers starts (at + 1)) before.text after.text Went
  uses_line line part' waiting' after here u = rw (idle, here, u.1) (refl, u.2)

  -- no line is used
  pub uses_none : (line : StartLine) (part' : Part) (waiting' : List Outgoing) (after : Log)
      → drop at starts ≡ line ∷ drop (at + 1) starts
      → UsesLine (line_turn rules before.node (line ∷ drop (at + 1) starts)
      (server_with part waiting before peers (line ∷ drop (at + 1) starts))) part waiting part'
      waiting' before after peers (drop (at + 1) starts) false
      → TurnsTo (idle_turn rules before.node (server_of part waiting before peers starts at))
      (server_of part waiting before peers starts at)
      (server_of part' waiting' after peers starts at) before.text after.text Polls
  uses_none line part' waiting' after here u = rw (idle, here, u.0, u.1, u.2, u.3) (refl, refl)
