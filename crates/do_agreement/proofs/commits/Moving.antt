-- A node of a network moves, by an effect and by what it leaves then, in a network that shows a
-- state but for that node.
use Rattle.std.proofs.Common.{◌≡◌, ◌==◌, ◌++◌, ℕ, Bool, true, false, List, refl, sym, ap, ◌∙◌}
use Rattle.std.{proofs.Common.subst, specs.{Prelude.{Some, option_map}, List.AllByRecursion}}
use mathlib.Core.Path.{fun_ext}
use Rattle.do_class.specs.Class.{Class}
use Rattle.do_machine.specs.declared.{node.Node.Node, state.{Effect.Effect, State.State}}
use Rattle.do_machine.specs.{Commit.commit, Context.around, Entry.has_entry, Objects.object_at}
use Rattle.do_machine.specs.{State.is_open, held.Leaving.leaving}
use Rattle.do_facts.specs.links.{Links.links_of, Sound.IsSound}
use Rattle.do_facts.proofs.machine.follows.Follows.{by_leaving}
use Rattle.do_network.specs.{Frames.all_posted, Links.Part, Net.{Net, Place, part_at, place_at}}
use Rattle.do_network.specs.{Own.is_counted, Site.moves, Spelled.{IsSpelledSending, SentSpelled}}
use Rattle.do_network.specs.{Step.place_after, fits.Notes.Note}
use Rattle.do_agreement.specs.{CountsFit.{CountsFit, none_closes}, IsEffectOf.IsEffectOf}
use Rattle.do_agreement.specs.{NetCommit.{effected, net_commit, with_sent}, Shows.{Shows, ShowsBut}}
use Rattle.do_agreement.specs.Tallies.{left_after}
use Rattle.do_agreement.proofs.commits.{CommitFits.commit_fits, CommitShows.commit_shows}
use Rattle.do_agreement.proofs.{commits.EntriesJudged.counts_judge, places.PlacesChanged.place_here}
use Rattle.do_agreement.proofs.{places.StepAsCommits.sent_twice, sites.RuleEffects.leaving_effect}

-- a state that is shown is shown but for a node
pub shown_but : (port : ℕ) (N : Net) (under_way : ℕ → ℕ → List Note) (S : State) →
    Shows N under_way S → (p : Part) → part_at N port ≡ Some p →
    ShowsBut port p.own.node N under_way S
shown_but port N under_way S shows p there = record {
  ports = shows.ports;
  here = sym (shows.nodes port) ∙ ap (option_map (λ (r : Part). r.own.node)) there;
  nodes = λ other ne. shows.nodes other;
  queues = shows.queues;
}

-- what holds where the node of a port has an effect: the counts fit but for the ends that it closes
-- by it, and the state is shown but for the node
pub record Commits (table : List Class) (port : ℕ) (n : Node) (N : Net)
    (under_way : ℕ → ℕ → List Note) (T : State) (closes : ℕ → ℕ → Bool) (pl : Place) (e : Effect)
    : Type 0 where
  pub fit : CountsFit table N under_way closes
  pub shows : ShowsBut port n N under_way T
  pub there : place_at N port ≡ Some pl
  pub is : IsEffectOf pl.part.own.node e
  pub shuts : (m : ℕ) → closes port m ≡ true → is_open e.node m ≡ false
  pub others : (a m : ℕ) → (port == a) ≡ false → closes a m ≡ false

module _ {table : List Class} {port : ℕ} {n : Node} {N : Net} {under_way : ℕ → ℕ → List Note}
    {T : State} {closes : ℕ → ℕ → Bool} {pl : Place} {e : Effect}
    (commits : Commits table port n N under_way T closes pl e) where
  -- the site
  abbrev pub p : Part
  p = pl.part

  -- it is there
  pub site_there : part_at N port ≡ Some p
  site_there = ap (option_map (λ x. x.part)) commits.there

  -- the site after the effect
  abbrev pub mid : Part
  mid = (effected p e).part

  -- the network after the effect
  abbrev pub M : Net
  M = net_commit port p e N

  -- the state after the effect
  abbrev pub U : State
  U = commit port e T

  -- what is under way after the effect
  abbrev pub between : ℕ → ℕ → List Note
  between = with_sent port p.own.received e.sent under_way

  -- the place of the site then
  pub mid_there : place_at M port ≡ Some (place_after (effected p e) pl)
  mid_there = place_here port (place_after (effected p e)) (λ x. refl) N pl commits.there

  -- the site then
  pub part_there : part_at M port ≡ Some mid
  part_there = ap (option_map (λ x. x.part)) mid_there

  -- the state is shown
  pub mid_shows : Shows M between U
  mid_shows = commit_shows port n N under_way T commits.shows pl commits.there e

  -- so it is shown but for the node
  pub mid_shows_but : ShowsBut port e.node M between U
  mid_shows_but = shown_but port M between U mid_shows mid part_there

  -- and the counts fit, where what the site sends has a spelling
  pub mid_fit : AllByRecursion (IsSpelledSending table port) (effected p e).sent →
      CountsFit table M between none_closes
  mid_fit sent =
      commit_fits table port N under_way closes commits.fit pl commits.there e commits.is sent
      commits.shuts commits.others

  -- ---- what the node leaves then

  -- the site is of the port still
  port_after : (moves p e).part.own.node.port ≡ port
  port_after =
      (by_leaving (is_counted mid.own) e.node).grows.port ∙ commits.is.same
      ∙ (commits.fit.owns port p site_there).port_is

  -- what the site sends in all are two lists
  two_lists : (moves p e).sent ≡ (effected p e).sent ++ (effected mid (left_after p.own e)).sent
  two_lists =
      ap (λ o. o.sent) (sent_twice p.links (all_posted p.own.received e.sent)
      (all_posted mid.own.received (left_after p.own e).sent))

  -- which have spellings where it has
  pub halves : SentSpelled table (moves p e) → AllByRecursion (IsSpelledSending table port)
      ((effected p e).sent ++ (effected mid (left_after p.own e)).sent)
  halves spelled =
      subst (AllByRecursion (IsSpelledSending table port)) two_lists
      (subst (λ k. AllByRecursion (IsSpelledSending table k) (moves p e).sent) port_after spelled)

  -- and it has where they have
  pub whole : AllByRecursion (IsSpelledSending table port)
      ((effected p e).sent ++ (effected mid (left_after p.own e)).sent) →
      SentSpelled table (moves p e)
  whole spelled =
      subst (λ k. AllByRecursion (IsSpelledSending table k) (moves p e).sent) (sym port_after)
      (subst (AllByRecursion (IsSpelledSending table port)) (sym two_lists) spelled)

  module _ (sound : IsSound (links_of e.node))
      (sent : AllByRecursion (IsSpelledSending table port) (effected p e).sent) where
    -- what the site counts tells the entries
    judged : (peer serial : ℕ) → is_counted mid.own peer serial
        ≡ has_entry U peer (object_at e.node.port serial)
    judged peer serial =
        counts_judge table port e.node M between U none_closes (mid_fit sent) mid_shows_but mid
        part_there (λ k. refl) (λ k. refl) peer serial
        ∙ ap (λ k. has_entry U peer (object_at k serial))
        (sym ((mid_fit sent).owns port mid part_there).port_is)

    -- so it leaves what the machine's node leaves
    pub left_alike : left_after p.own e ≡ leaving (around U e.node).entry e.node
    left_alike =
        ap (λ entry. leaving entry e.node)
        (fun_ext (λ peer. fun_ext (λ serial. judged peer serial)))

    -- and that is an effect of the node, which closes nothing
    pub leaves : Commits table port e.node M between U none_closes
        (place_after (effected p e) pl) (left_after p.own e)
    leaves =
        let fits = mid_fit sent in
        record {
          fit = fits;
          shows = mid_shows_but;
          there = mid_there;
          is = leaving_effect e.node (is_counted mid.own) sound
              (fits.owns port mid part_there).reached;
          shuts = λ m c. absurd (never c);
          others = λ a m ne. refl;
        }
      where
        never : false ≡ true → ⊥
        never c = cc
