-- What a site does at once is two effects, one after the other.
use Rattle.std.proofs.Common.{◌≡◌, ◌++◌, ℕ, List, [], ◌∷◌, fold, refl, sym, ap, ◌∙◌, append_assoc}
use Rattle.std.proofs.Common.{append-nil}
use mathlib.Core.Path.{fun_ext}
use Rattle.do_machine.specs.{declared.state.Effect.Effect, held.Leaving.leaving}
use Rattle.do_network.specs.{declared.input.Done.Done, Frames.{Posted, all_posted}, Links.Link}
use Rattle.do_network.specs.Links.{Outbox, Part, Sending, all_sent, link_to, sending, sendings}
use Rattle.do_network.specs.{Net.{Net, Place, change_place}, Own.is_counted, Site.Handled}
use Rattle.do_network.specs.{Site.{handled, site_move}, Step.{net_moved, place_after, with_sending}}
use Rattle.do_agreement.specs.NetCommit.{effected, net_commit}
use Rattle.do_agreement.proofs.places.{KeyedLists.fold_behind, PlacesChanged.place_twice}

-- what was sent before stands before what is sent
pub sent_before : (a b : List Sending) (links : List Link) (xs : List Posted) →
    fold sending (record { links = links; sent = a ++ b }) xs
    ≡ record {
      links = (fold sending (record { links = links; sent = b }) xs).links;
      sent = a ++ (fold sending (record { links = links; sent = b }) xs).sent;
    }
sent_before a b links [] = refl
sent_before a b links (x ∷ xs) =
    let next = sending (record { links = links; sent = b }) x in
    ap (λ s. fold sending (record { links = next.links; sent = s }) xs)
    (append_assoc a b (sendings x (link_to links x.to)))
    ∙ sent_before a next.sent next.links xs

-- frames are sent, and then others
pub sent_twice : (links : List Link) (xs ys : List Posted) →
    let first = all_sent links xs in
    let then_ = all_sent first.links ys in
    all_sent links (xs ++ ys) ≡ record { links = then_.links; sent = first.sent ++ then_.sent }
sent_twice links xs ys =
    let first = all_sent links xs in
    fold_behind sending (record { links = links; sent = [] }) xs ys
    ∙ ap (λ s. fold sending (record { links = first.links; sent = s }) ys)
    (sym (append-nil first.sent))
    ∙ sent_before first.sent [] first.links ys

module _ (port : ℕ) (p : Part) (e : Effect) (done : Done) (N : Net) where
  -- the site after the first effect
  abbrev mid : Part
  mid = (effected p e).part

  -- what it leaves then
  abbrev then_left : Effect
  then_left = leaving (is_counted mid.own) mid.own.node

  -- what the site does at once
  abbrev all : Handled
  all = handled p done (site_move p.own e)

  -- its place afterwards
  place_is : (x : Place) →
      place_after (effected mid then_left) (place_after (effected p e) x) ≡ place_after all x
  place_is x =
      let first = effected p e in
      let second = effected mid then_left in
      let out = sent_twice p.links (all_posted p.own.received e.sent)
      (all_posted mid.own.received then_left.sent) in
      ap (λ cs. record x { part = second.part; channels = cs })
      (sym (fold_behind with_sending x.channels first.sent second.sent))
      ∙ sym (ap (λ (o : Outbox). record x {
        part = record { own = second.part.own; links = o.links };
        channels = fold with_sending x.channels o.sent;
      }) out)

  -- the network afterwards
  pub two_commits : (net_moved port N all).net
      ≡ net_commit port mid then_left (net_commit port p e N)
  two_commits =
      sym (place_twice port (place_after (effected p e)) (place_after (effected mid then_left))
      (λ x. refl) N
      ∙ ap (λ f. change_place port f N) (fun_ext place_is))
