-- A move of a node is moves of what it has of foreign objects.
use Rattle.do_facts.specs.nodes.Cause as cause
use Rattle.do_machine.specs.declared.item.Item.TheVariants as items
use Rattle.do_facts.specs.links.Links as seen_as
use Rattle.do_facts.specs.links.Moves as link
use Rattle.do_facts.specs.nodes.Moves as moves
use Rattle.do_facts.specs.nodes.After as does
use Rattle.do_facts.proofs.Chains.{both_pass}
use Rattle.std.proofs.Common.{◌≡◌, ◌++◌, ◌||◌, Bool, true, false, List, [], ◌∷◌, map, refl, sym, ap}
use Rattle.std.{proofs.Common.{◌∙◌, ◌==◌, ◌+◌, length, subst}, specs.List.list_any}
use Rattle.std.proofs.lemmas.List.Folds.{list_any-append}
use Rattle.do_base.specs.names.Names.{ObjectName, TokenName}
use Rattle.do_packet.specs.Met.{has_object, same_object}
use Rattle.do_machine.specs.declared.{node.Node.Node, state.{Effect.Effect, Parcel.Parcel}}
use Rattle.do_machine.specs.Lists.{change_first}
use Rattle.do_machine.specs.held.Refers.{heap_objects, node_objects, stack_objects}
use Rattle.do_machine.specs.run.{Changes.with_writes, Fresh.with_serials}
use Rattle.do_facts.specs.{Net.Note, Moves.{Runs, Rules}, View.{AreMoves, posted}}
use Rattle.do_facts.specs.links.Links.{Links, links, links_of}
use Rattle.do_facts.specs.links.{Moves.{is_in_use, is_there, link_rules}, Sound.IsSound}
use Rattle.do_facts.proofs.{Runs.{moves_once, stands}, links.HeapsGrow.{grown_made, grown_written}}
use Rattle.do_facts.proofs.links.{HeapsGrow.kept_before, PartsAreSound.sound_moved}
use Rattle.do_facts.specs.nodes.{Atoms.Atom, Judged.Judge, May.{may, rules}, View.nodes}
use Rattle.do_facts.specs.nodes.{Moves.{Move, Wrote}, After.{after, posts, takes}}
use Rattle.do_facts.proofs.nodes.{Projected.{runs_seen, seen}, Walks.{DoesTo, runs_of, Does}}
use Rattle.do_base.specs.declared.events.shown.Shown.{Shown}
use Rattle.do_facts.proofs.links.Acts.{IsAct, act_rules, effect_rules, runs_acts, runs_freely}
use Rattle.do_facts.proofs.{links.NodeAtoms.{item_seen, link_atoms}, nodes.ItemsSeen.sent_seen}

-- a lender that is told, or not
told_seen : (told : Bool) (token : TokenName) →
    seen link_atoms (does.telling told token) ≡ link.telling told token
told_seen true token = refl
told_seen false token = refl

-- an object is among those of a list as often as the list says
named_by : {X : Type 0} (of : X → ObjectName) (o : ObjectName) (xs : List X) →
    has_object (map of xs) o ≡ list_any (λ x. same_object o (of x)) xs
named_by of o [] = refl
named_by of o (x ∷ xs) = ap (λ b. same_object o (of x) || b) (named_by of o xs)

-- an object that a node does not refer to is neither lent nor asked for
not_in_use : (n : Node) (o : ObjectName) → has_object (node_objects n) o ≡ false →
    is_in_use (links_of n) o ≡ false
not_in_use n o h =
    let named = heap_objects n.heap ++ stack_objects n.stack in
    let lent = map (λ l. l.object) n.lent in
    let asked = map (λ w. w.object) n.asked in
    ap (λ b. b || list_any (λ w. same_object o w.object) n.asked)
    (sym (named_by (λ l. l.object) o n.lent))
    ∙ ap (λ b. has_object lent o || b) (sym (named_by (λ w. w.object) o n.asked))
    ∙ latter (has_object named o) (has_object lent o) (has_object asked o)
    (sym (list_any-append (same_object o) (named ++ lent) asked
    ∙ ap (λ b. b || has_object asked o) (list_any-append (same_object o) named lent))
    ∙ h)
  where
    latter : (a b c : Bool) → ((a || b) || c) ≡ false → (b || c) ≡ false
    latter true b c e = absurd (cc)
    latter false b c e = e

-- a test does not both pass and fail
apart : {b : Bool} → b ≡ true → b ≡ false → ⊥
apart h k = cc

-- the rules by which links move by an effect
abbrev rules_of : Judge → Rules Links seen_as.Atom link.Move
rules_of j = effect_rules (cause.frees j.cause)

-- a node is sound
abbrev pub Sound : Node → Type 0
Sound n = IsSound (links_of n)

module _ (j : Judge) (first : Sound j.first) where
  -- a move of a node is moves of what it has of foreign objects, which stays sound
  abbrev Seen : Node → Move → Type 0
  Seen n v =
      Sound (after n v) × Runs (rules_of j) (links_of n) (seen link_atoms (takes v))
      (links_of (after n v)) (seen link_atoms (posts n v))

  module _ (n : Node) (ok : Sound n) where
    -- one move of it
    abbrev One : link.Move → Type 0
    One v =
        IsSound (link.moved (links_of n) v)
        × Runs (rules_of j) (links_of n) (link.takes v) (link.moved (links_of n) v)
        (link.posts (links_of n) v)

    -- one that may free objects
    strikes : (v : link.Move) → link.may (links_of n) v →
        (cause.frees j.cause ≡ false → IsAct v) → One v
    strikes v m acts =
        (sound_moved (links_of n) ok v m, moves_once (rules_of j) (links_of n) v (m, acts))

    -- one that frees none
    one : (v : link.Move) → IsAct v → link.may (links_of n) v → One v
    one v acts m = strikes v m (λ f. acts)

    -- none
    none : Sound n × Runs (rules_of j) (links_of n) [] (links_of n) []
    none = (ok, stands (rules_of j) (links_of n))

    -- one that may tell a lender
    telling : (v : link.Move) → IsAct v → link.may (links_of n) v → (told : Bool)
        (token : TokenName) → link.posts (links_of n) v ≡ link.telling told token →
        IsSound (link.moved (links_of n) v)
        × Runs (rules_of j) (links_of n) (link.takes v) (link.moved (links_of n) v)
        (seen link_atoms (does.telling told token))
    telling v acts m told token h = (
      (one v acts m).0,
      subst (λ xs. Runs (rules_of j) (links_of n) (link.takes v) (link.moved (links_of n) v) xs)
          (h ∙ sym (told_seen told token)) (one v acts m).1,
    )

    -- each move
    pub each : (v : Move) → may j n v → Seen n v
    each (moves.Steps t pc locals handler writes) m =
        let serial = t.top.object.serial in
        one (link.Stores (change_first (λ x. x.serial == serial) (with_writes writes) n.heap)
        n.next_serial) tt (grown_written (links_of n) ok.given serial writes)
    each (moves.Makes t made into pc) m =
        one (link.Stores (n.heap ++ with_serials n.next_serial (made ∷ [])) (n.next_serial + 1)) tt
        (grown_made (links_of n) ok.given (made ∷ []))
    each (moves.Speaks to serial) m =
        one (link.Mentions to serial) tt (m.1, both_pass _ _ m.3 m.1)
    each (moves.Names to serial class) m = one (link.Names to serial) tt (m.0, m.1.able)
    each (moves.Mentions to serial) m =
        one (link.Mentions to serial) tt (m.0, both_pass _ _ m.1 m.0)
    each (moves.Lends to o class) m = one (link.Lends to o) tt (m.0, m.1.able.0)
    each (moves.Closes peer) m = one (link.Closes peer) tt m.0
    each (moves.GivesUp w told) m =
        telling (link.GivesUp w told) tt (m.0, m.2 first.asked, m.1) told w.token refl
    each (moves.Hears from serial) m = one (link.Hears from serial) tt m
    each (moves.Unpacks from packet copies) m =
        one (link.Stores (n.heap ++ with_serials n.next_serial copies)
        (n.next_serial + length copies)) tt (grown_made (links_of n) ok.given copies)
    each (moves.Holds from serial class) m = one (link.Holds from serial) tt m
    each (moves.IsNamed from serial) m = one (link.Hears from serial) tt m
    each (moves.Asks from o class token) m = one (link.Asks from o token) tt m
    each (moves.AsksOnce from o class token) m = one (link.AsksOnce from o token) tt m
    each (moves.Returns from o class token) m = one (link.Returns from o token) tt m
    each (moves.Receives k (items.Reply number packet) answer) m = none
    each (moves.Receives k (items.RootAnswer number packet) answer) m = none
    each (moves.Receives k (items.Raised number e) answer) m = none
    each (moves.Receives k _ answer) m = absurd m.1
    each (moves.Grants from serial token) m = one (link.Grants from serial token) tt m
    each (moves.Lacks from serial token) m = one (link.Refuses from serial token) tt m
    each (moves.Gains from serial token told) m =
        telling (link.Receives from serial token told) tt m told token refl
    each (moves.Misses from serial token told) m =
        telling (link.Misses from serial token told) tt m told token refl
    each (moves.Frees from serial) m = one (link.Frees from serial) tt m
    each (moves.Settles from number) m = one (link.Settles from number) tt m
    each (moves.Parts from serials) m = one (link.Ends from serials) tt m.0
    each (moves.Strikes heap shown) m =
        strikes (link.Strikes heap)
        (λ s h. kept_before j.sees.entry n s (subst (λ x. is_there x s ≡ true) m.1 h))
        (λ f. absurd (apart m.0 f))
    each (moves.Leaves o) m =
        let q = m.2 first in one (link.Leaves o) tt (q.0, q.1, not_in_use n o m.1)
    each _ m = none

-- moves of a sound node are moves of what it has of foreign objects
moved_links : (j : Judge) → Sound j.first → {taken : List (Note Atom)} {written : List Wrote}
    {shown : List Shown} (q : Node) (sent : List Parcel) →
    Does j j.first taken written q sent shown →
    Runs (rules_of j) (links_of j.first) (seen link_atoms taken) (links_of q) (posted links sent)
moved_links j ok {taken} q sent d =
    subst (λ xs. Runs (rules_of j) (links_of j.first) (seen link_atoms taken) (links_of q) xs)
    (sent_seen links link_atoms item_seen sent)
    (runs_seen (rules j) (rules_of j) links_of link_atoms Sound (λ n v s m. each j ok n s v m)
    j.first taken q (posted nodes sent) ok (runs_of j d.walk))

-- they are moves of links
pub links_move : (j : Judge) → Sound j.first → {taken : List (Note Atom)}
    {written : List Wrote} (e : Effect) → DoesTo j j.first taken written e →
    AreMoves links link_rules j.first (seen link_atoms taken) e
links_move j ok e d = runs_freely (cause.frees j.cause) (moved_links j ok e.node e.sent d)

-- where the effect frees nothing, they free nothing
pub links_act : (j : Judge) → Sound j.first → cause.frees j.cause ≡ false →
    {taken : List (Note Atom)} {written : List Wrote} {shown : List Shown} (q : Node)
    (sent : List Parcel) → Does j j.first taken written q sent shown →
    Runs act_rules (links_of j.first) (seen link_atoms taken) (links_of q) (posted links sent)
links_act j ok acts q sent d =
    runs_acts (cause.frees j.cause) acts (moved_links j ok q sent d)
