use Rattle.do_streams.proofs.streams.Streams.next_frame.Goals as goal
use Rattle.std.proofs.Common.{◌≡◌, ◌∷◌, ◌++◌, ap, subst, sym, ◌∙◌, List, Option}
use Rattle.do_network.specs.Spelled.{IsSpelledSending}
use Rattle.do_streams.specs.declared.spelled.Spelled.{Spelled}
use Rattle.do_streams.specs.Streamed.{Streamed, outbox_of, sending_of, spelled_first}
use Rattle.do_streams.proofs.streams.Streams.next_frame.Goals.{After-forget}

-- what was spelled is the oldest that waits
is_oldest : (c : After-forget) → c.args.self.now.frames ≡ sending_of c.in-Some.next
    ∷ (spelled_first c.forget.new.spelled
    ++ (outbox_of c.spell_if_none.new.ends c.spell_if_none.new.waiting.frames).sent)
is_oldest c =
    sym (ap (λ (v : Streamed). v.frames) c.self.view_is)
    ∙ sym c.in_ok-spell_if_none.ensures.sent
    ∙ ap (λ (o : Option Spelled). spelled_first o
    ++ (outbox_of c.spell_if_none.new.ends c.spell_if_none.new.waiting.frames).sent) c.in-Some.is
    ∙ ap (λ (o : Option Spelled). sending_of c.in-Some.next ∷ (spelled_first o
    ++ (outbox_of c.spell_if_none.new.ends c.spell_if_none.new.waiting.frames).sent))
    (sym c.forget.ensures)

-- equal lists begin with the same
heads_alike : {X : Type 0} {x y : X} {xs ys : List X} → x ∷ xs ≡ y ∷ ys → x ≡ y
heads_alike e = cc

-- and is what is taken out
pub returns-clause-which : goal.returns-clause-which
returns-clause-which c = (
  sending_of c.in-Some.next,
  is_oldest (goal.at.returns-clause-which c).After-forget,
  c.in_ok-to.ensures.to,
  c.in_ok-to.ensures.bytes,
)

-- so what is taken out has a spelling
pub returns-clause-spelled : goal.returns-clause-spelled
returns-clause-spelled c = λ s first.
    subst (IsSpelledSending c.args.table.now c.args.me)
    (heads_alike (sym (is_oldest (goal.at.returns-clause-spelled c).After-forget) ∙ first))
    c.in_ok-to.ensures.spelled

-- the ends stay ordered where what was spelled is fetched
pub invariant_of-self : goal.invariant_of-self
invariant_of-self c = record {
  known = c.spell_if_none.ensures.known c.self.inside.classes c.self.invariant.known;
  order = c.spell_if_none.ensures.ordered;
  placed = c.spell_if_none.ensures.placed;
}

-- where nothing waits
pub invariant_of-self-in_default : goal.invariant_of-self-in_default
invariant_of-self-in_default c = record {
  known = c.spell_if_none.ensures.known c.self.inside.classes c.self.invariant.known;
  order = c.spell_if_none.ensures.ordered;
  placed = c.spell_if_none.ensures.placed;
}

-- where there is no memory for its bytes
pub invariant_of-self-in_err-to : goal.invariant_of-self-in_err-to
invariant_of-self-in_err-to c = record {
  known = c.spell_if_none.ensures.known c.self.inside.classes c.self.invariant.known;
  order = c.spell_if_none.ensures.ordered;
  placed = c.spell_if_none.ensures.placed;
}

-- and where there is none to spell it
pub invariant_of-self-2 : goal.invariant_of-self-2
invariant_of-self-2 c = record {
  known = c.spell_if_none.ensures.known c.self.inside.classes c.self.invariant.known;
  order = c.spell_if_none.ensures.ordered;
  placed = c.spell_if_none.ensures.placed;
}
