use Rattle.do_part.proofs.part.Part.close_end.Goals as goal
use Rattle.std.proofs.Common.{◌≡◌, ◌∙◌, ℕ, Option, subst, sym}
use Rattle.std.specs.Prelude.{MatchOption, remove}
use Rattle.do_export.specs.Counts.{HasNoneFrom}
use Rattle.do_part.specs.{Owned.Owned, Seen.own_of}
use Rattle.do_part.proofs.Closed.{closed_is, other_ends, port_place, sound_closed}

-- the part is sound without an end to whose peer no entry is left
pub invariant_of-self : goal.invariant_of-self
invariant_of-self c =
    let i = c.self.inside in
    let is = closed_is c.args.peer i.ends c.self.invariant.apart c.place-place.result
    (c.place-place.ensures.index ∙ port_place c.args.peer i.ends) in
    let at = subst (λ (o : Option ℕ). MatchOption o (i.ends ≡ other_ends c.args.peer i.ends)
    (λ at. remove i.ends at ≡ other_ends c.args.peer i.ends)) c.in-Some.is is in
    sound_closed i c.self.invariant c.args.peer
    (subst (λ (v : Owned). HasNoneFrom v.own.counts c.args.peer 0) (sym c.self.view_is) c.requires)
    c.remove.new.self (c.remove.ensures ∙ at)

-- the ends are those to other peers
pub returns-in-Some-clause-own : goal.returns-in-Some-clause-own
returns-in-Some-clause-own c =
    let i = c.self.inside in
    let is = closed_is c.args.peer i.ends c.self.invariant.apart c.place-place.result
    (c.place-place.ensures.index ∙ port_place c.args.peer i.ends) in
    let at = subst (λ (o : Option ℕ). MatchOption o (i.ends ≡ other_ends c.args.peer i.ends)
    (λ at. remove i.ends at ≡ other_ends c.args.peer i.ends)) c.in-Some.is is in
    rw (← c.self.view_is) (λ j. record (own_of i) {
      node = record (own_of i).node { open_to = (c.remove.ensures ∙ at) j };
    })

-- where no end is towards the peer, the ends are those to other peers
pub returns-in_default-clause-own : goal.returns-in_default-clause-own
returns-in_default-clause-own c =
    let i = c.self.inside in
    let is = closed_is c.args.peer i.ends c.self.invariant.apart c.place-place.result
    (c.place-place.ensures.index ∙ port_place c.args.peer i.ends) in
    let same = subst (λ (o : Option ℕ). MatchOption o (i.ends ≡ other_ends c.args.peer i.ends)
    (λ at. remove i.ends at ≡ other_ends c.args.peer i.ends)) c.in_default.is is in
    rw (← c.self.view_is) (λ j. record (own_of i) {
      node = record (own_of i).node { open_to = same j };
    })
