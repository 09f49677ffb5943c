-- Names of a peer's message that are received one after another.
use Rattle.do_frames.specs.declared.frame.Frame.TheVariants as frames
use Rattle.std.proofs.Common.{◌≡◌, ℕ, Bool, true, false, List, [], ◌∷◌, refl, ap, sym, ◌∙◌, fold}
use Rattle.std.specs.List.{filter_map, list_any}
use Rattle.do_base.specs.names.Names.{ObjectName}
use Rattle.do_class.specs.declared.{ids.ClassId.ClassId, packet.Name.Name}
use Rattle.do_class.specs.declared.packet.Name.TheVariants.{Lent, Mine, Yours}
use Rattle.do_import.specs.ByObject.{ClassMap, first_kept, object_of}
use Rattle.do_machine.specs.declared.{node.{Node.Node, Wanted.Wanted}, state.Effect.Effect}
use Rattle.do_machine.specs.{Effect.{each, ◌>>=◌}, State.{is_known, is_open}}
use Rattle.do_machine.specs.lend.Asking.{asking, same_wanted, wanted, with_wanted}
use Rattle.do_machine.specs.take.{Receipt.receiving_name, Take.holding}
use Rattle.do_network.specs.{Counting.{classed_name, of_known, with_class}, Links.sending}
use Rattle.do_effects.specs.Doing.{Doing, effected, moved}
use Rattle.do_effects.specs.Taking.{HasClasses, exports, gains, got_names, receiving_names}
use Rattle.do_effects.{specs.Tidy.IsTidy, proofs.Alone.tidy_after}
use Rattle.do_effects.proofs.KeptRows.{agree_all, agree_dropped, kept_agree, kept_there}
use Rattle.do_effects.proofs.NamesAsk.{names_node, closed_asking, asked_asking, new_asking}
use Rattle.do_effects.proofs.{StaysUnknown.stays_unknown, NamesAlone.{mine_alone, yours_alone}}
use Rattle.do_effects.proofs.NamesAlone.{closed_alone, asked_alone, new_alone, asked_known}

module _ (d : Doing) (from : ℕ) (xs : List Name) (tidy : IsTidy d.own) (knows : HasClasses d.own)
    (opened : is_open d.own.node from ≡ true) where
  -- names are received behind a lent object, by what asking for it does
  behind_asking : (o : ObjectName) (class : ClassId) (token : ℕ) (a : Effect) →
      asking (wanted o from token) (holding (exports from d.own.node.port xs) d.own.node) ≡ a →
      gains from (Lent o class token ∷ xs) d
      ≡ moved d (effected (got_names from (Lent o class token ∷ xs) d.own)
      (a >>= each (receiving_name from) xs))
  behind_asking o class token a e =
      ap (λ (x : Effect). moved d (effected (got_names from (Lent o class token ∷ xs) d.own)
      (x >>= each (receiving_name from) xs))) e

  -- the classes are the same in the end without that of an object which does not become known
  closed_classes : (o : ObjectName) (class : ClassId) → is_open d.own.node o.node ≡ false →
      of_known (receiving_names from xs d.own.node).node
      (fold with_class (first_kept d.own.classes o class) (filter_map (classed_name from) xs))
      ≡ of_known (receiving_names from xs d.own.node).node
      (fold with_class d.own.classes (filter_map (classed_name from) xs))
  closed_classes o class closed = go (is_known d.own.node o) refl
    where
      -- the node once the names were received
      later : Node
      later = (receiving_names from xs d.own.node).node

      -- whether the object is known or not
      go : (b : Bool) → is_known d.own.node o ≡ b →
          of_known later
          (fold with_class (first_kept d.own.classes o class) (filter_map (classed_name from) xs))
          ≡ of_known later
          (fold with_class d.own.classes (filter_map (classed_name from) xs))
      go true is = ap (λ (c : ClassMap). of_known later
          (fold with_class c (filter_map (classed_name from) xs)))
          (kept_there d.own.classes o class (sym (knows o) ∙ is))
      go false is = kept_agree (λ q. is_known later (object_of q)) _ _
          (agree_all (λ q. is_known later (object_of q)) (filter_map (classed_name from) xs) _ _
          (agree_dropped (λ q. is_known later (object_of q)) d.own.classes o class
          (stays_unknown from xs d.own.node o opened closed is)))

  -- so for a lent object
  lent_first : (o : ObjectName) (class : ClassId) (token : ℕ) →
      gains from (Lent o class token ∷ xs) d
      ≡ gains from xs (gains from (Lent o class token ∷ []) d)
  lent_first o class token = go (is_open d.own.node o.node) refl
    where
      -- the node that holds what the names export
      m : Node
      m = holding (exports from d.own.node.port xs) d.own.node

      -- what is asked for
      w : Wanted
      w = wanted o from token

      -- with an open home, whether the same was asked for or not
      by_asked : is_open d.own.node o.node ≡ true → (b : Bool) →
          list_any (same_wanted w) d.own.node.asked ≡ b →
          gains from (Lent o class token ∷ xs) d
          ≡ gains from xs (gains from (Lent o class token ∷ []) d)
      by_asked home true asked =
          behind_asking o class token _ (asked_asking w m home asked)
          ∙ ap (λ (c : ClassMap). gains from xs (record d { own = record d.own { classes = c } }))
          (kept_there d.own.classes o class (sym (knows o)
          ∙ asked_known d from tidy o class token asked))
          ∙ ap (gains from xs) (sym (asked_alone d from tidy o class token knows home asked))
      by_asked home false asked =
          behind_asking o class token _ (new_asking w m home asked)
          ∙ ap (gains from xs) (sym (new_alone d from tidy o class token home asked))

      -- with an open home or a closed one
      go : (b : Bool) → is_open d.own.node o.node ≡ b →
          gains from (Lent o class token ∷ xs) d
          ≡ gains from xs (gains from (Lent o class token ∷ []) d)
      go true home = by_asked home (list_any (same_wanted w) d.own.node.asked) refl
      go false closed =
          let next : Doing = record d {
            out = sending d.out (record { to = from; frame = frames.Settle token });
          } in
          behind_asking o class token _ (closed_asking w m closed opened)
          ∙ (λ j. record (gains from xs next) {
            own = record (gains from xs next).own { classes = closed_classes o class closed j };
          })
          ∙ ap (gains from xs) (sym (closed_alone d from tidy o class token knows opened closed))

  -- names that are received after one are received behind it
  pub gains_first : (x : Name) → gains from (x ∷ xs) d ≡ gains from xs (gains from (x ∷ []) d)
  gains_first (Mine serial class) =
      ap (gains from xs) (sym (mine_alone d from tidy serial class))
  gains_first (Yours serial) = ap (gains from xs) (sym (yours_alone d from tidy serial))
  gains_first (Lent o class token) = lent_first o class token

-- only what is held and asked for changes where names are received
pub gains_node : (a d : Doing) (from : ℕ) (xs : List Name) → a ≡ gains from xs d →
    a.own.node
    ≡ record d.own.node { held = a.own.node.held; asked = a.own.node.asked }
gains_node a d from xs is =
    let e = ap (λ (x : Doing). x.own.node) is
    ∙ names_node from xs (holding (exports from d.own.node.port xs) d.own.node) in
    e ∙ λ j. record d.own.node {
      held = sym (ap (λ (n : Node). n.held) e) j;
      asked = sym (ap (λ (n : Node). n.asked) e) j;
    }

-- after names are received a node is tidy
pub tidy_gains : (a d : Doing) (from : ℕ) (xs : List Name) → a ≡ gains from xs d → IsTidy a.own
tidy_gains a d from xs is =
    tidy_after a d (got_names from xs d.own) (receiving_names from xs d.own.node) is

-- a tidy node is tidy once it asked a home for an object
pub new_tidy : (d : Doing) (from : ℕ) (tidy : IsTidy d.own) (o : ObjectName) (class : ClassId)
    (token : ℕ) → is_open d.own.node o.node ≡ true →
    list_any (same_wanted (wanted o from token)) d.own.node.asked ≡ false →
    IsTidy (record d.own {
      node = with_wanted (wanted o from token) d.own.node;
      classes = first_kept d.own.classes o class;
    })
new_tidy d from tidy o class token home asked =
    tidy_gains _ d from (Lent o class token ∷ [])
    (sym (new_alone d from tidy o class token home asked))
