-- What is fetched of a site, one after another.
use Rattle.std.proofs.Common.{◌≡◌, List, [], ◌++◌, ap, sym, subst, ◌∙◌}
use Rattle.do_base.specs.declared.events.shown.Shown.{Shown}
use Rattle.do_network.specs.declared.input.Input.{Input}
use Rattle.std.specs.List.{AllByRecursion}
use Rattle.do_net.specs.Lanes.{IsSent}
use Rattle.do_network.specs.Spelled.{SentSpelled}
use Rattle.do_net.specs.Seen.{IsSpelledBy, Seen, site_handled, with_handled}
use Rattle.do_net.proofs.FramesToldApart.{step_told}

-- a site of which all lines are fetched
abbrev silent : Seen → Seen
silent s = record s { shown = [] }

-- a site goes on from one to another, with what was shown
pub record Shows (s : Seen) (before : List Shown) (t : Seen) (now : List Shown) : Type 0 where
  pub site : record t { shown = [] } ≡ record s { shown = [] }
  pub shown : now ++ t.shown ≡ before ++ s.shown

-- what is to be fetched after an input is told apart
pub sent_ready : (s t u : Seen) (input : Input) → s.frames ≡ [] →
    t ≡ with_handled s (site_handled s input) → u ≡ record t { shown = [] } →
    AllByRecursion IsSent u.frames
sent_ready s t u input none is_t is_u =
    let sent = (site_handled s input).sent in
    let told : AllByRecursion IsSent (s.frames ++ sent) =
    subst (λ fs. AllByRecursion IsSent (fs ++ sent)) (sym none)
    (step_told s.table s.act s.part input) in
    subst (λ (v : Seen). AllByRecursion IsSent v.frames) (sym (is_u ∙ ap silent is_t)) told

-- what was sent for an input has a spelling where all that was to be fetched after it has
pub sent_spelled : (s t u : Seen) (input : Input) → s.frames ≡ [] →
    t ≡ with_handled s (site_handled s input) → u ≡ record t { shown = [] } →
    AllByRecursion (IsSpelledBy u) u.frames → SentSpelled s.table (site_handled s input)
sent_spelled s t u input none is_t is_u spelled =
    let h = site_handled s input in
    let all = subst (λ (v : Seen). AllByRecursion (IsSpelledBy v) v.frames)
    (is_u ∙ ap silent is_t) spelled in
    subst (λ fs. AllByRecursion (IsSpelledBy (with_handled s h)) (fs ++ h.sent)) none all
