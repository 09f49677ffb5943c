-- One name of a peer, received alone.
use Rattle.do_frames.specs.declared.frame.Frame.TheVariants as frames
use Rattle.std.proofs.Common.{◌≡◌, ◌||◌, ◌+◌, ℕ, Bool, true, false, List, [], ◌∷◌, refl, ap, sym}
use Rattle.std.{proofs.Common.{◌∙◌, inl, inr}, specs.List.list_any, proofs.lemmas.List.append-nil}
use Rattle.std.proofs.lemmas.List.Sorted.{list_any-IsPermutation}
use Rattle.do_base.specs.names.Names.{ObjectName}
use Rattle.do_class.specs.declared.ids.ClassId.{ClassId}
use Rattle.do_class.specs.declared.packet.Name.TheVariants.{Lent, Mine, Yours}
use Rattle.do_export.specs.Counts.{count_of}
use Rattle.do_import.specs.ByObject.{added, first_kept, object_of}
use Rattle.do_machine.specs.declared.{node.{Node.Node, Wanted.Wanted}, state.Effect.Effect}
use Rattle.do_machine.specs.{Effect.{each, ◌>>=◌}, Objects.object_at, State.{has_asked, holds}}
use Rattle.do_machine.specs.{State.{is_known, is_open}, lend.Asking.{asking, same_wanted, wanted}}
use Rattle.do_machine.specs.{lend.Asking.{wanted_lt, with_wanted}, take.Receipt.receiving_name}
use Rattle.do_machine.{specs.take.Take.holding, proofs.Bools.{or_cases, or_left, or_right}}
use Rattle.do_machine.proofs.{Having.has_joined_all, Inserting.inserted_moves}
use Rattle.do_network.specs.{Counting.of_known, Links.sending}
use Rattle.do_packet.specs.Met.{has_object, same_object}
use Rattle.do_effects.specs.{Doing.{Doing, effected, moved}, Taking.{HasClasses, gains, got_names}}
use Rattle.do_effects.{specs.Tidy.IsTidy, proofs.KeptRows.{agree_dropped, first_stays, kept_agree}}
use Rattle.do_effects.proofs.{KeptRows.{kept_there, put_kept}, NamesAsk.{and_first, same_self}}
use Rattle.do_effects.proofs.NamesAsk.{closed_asking, asked_asking, new_asking}

module _ (d : Doing) (from : ℕ) (tidy : IsTidy d.own) where
  -- an object of the peer is held, and counted as received once more
  pub mine_alone : (serial : ℕ) (class : ClassId) →
      gains from (Mine serial class ∷ []) d
      ≡ record d {
        own = record d.own {
          node = holding (object_at from serial ∷ []) d.own.node;
          received = added d.own.received (object_at from serial);
          classes = first_kept d.own.classes (object_at from serial) class;
        };
      }
  mine_alone serial class = λ j. record {
    own = record {
      node = m;
      counts = tidy.counts j;
      received = put_kept d.own.received (λ q. holds n (object_of q)) (λ q. holds m (object_of q))
          (from, serial) (count_of d.own.received from serial + 1) grows held tidy.received j;
      classes = first_stays d.own.classes (λ q. is_known n (object_of q))
          (λ q. is_known m (object_of q)) (object_at from serial) class known
          (or_left (holds m (object_at from serial)) _ held) tidy.classes j;
    };
    out = d.out;
    shown = append-nil d.shown j;
  }
    where
      -- the node before
      n : Node
      n = d.own.node

      -- the node that holds the object
      m : Node
      m = holding (object_at from serial ∷ []) n

      -- it holds the object
      held : holds m (object_at from serial) ≡ true
      held = has_joined_all n.held (object_at from serial ∷ []) (object_at from serial)
          ∙ ap (λ b. (b || false) || holds n (object_at from serial))
          (same_self (object_at from serial))

      -- it holds what it held
      grows : (q : ℕ × ℕ) → holds n (object_of q) ≡ true → holds m (object_of q) ≡ true
      grows q is = has_joined_all n.held (object_at from serial ∷ []) (object_of q)
          ∙ or_right (has_object (object_at from serial ∷ []) (object_of q)) _ is

      -- and knows what it knew
      known : (q : ℕ × ℕ) → is_known n (object_of q) ≡ true → is_known m (object_of q) ≡ true
      known q is = elim (or_cases (holds n (object_of q)) (has_asked n (object_of q)) is) [
        | inl h ↦ or_left (holds m (object_of q)) _ (grows q h)
        | inr h ↦ or_right (holds m (object_of q)) _ h
      ]

  -- an own object changes nothing
  pub yours_alone : (serial : ℕ) → gains from (Yours serial ∷ []) d ≡ d
  yours_alone serial = λ j. record {
    own = record {
      node = d.own.node;
      counts = tidy.counts j;
      received = tidy.received j;
      classes = tidy.classes j;
    };
    out = d.out;
    shown = append-nil d.shown j;
  }

  module _ (o : ObjectName) (class : ClassId) (token : ℕ) where
    -- what is received of a lent object, by what asking for it does
    by_asking : (a : Effect) →
        asking (wanted o from token) d.own.node ≡ a →
        gains from (Lent o class token ∷ []) d
        ≡ moved d (effected (got_names from (Lent o class token ∷ []) d.own)
        (a >>= each (receiving_name from) []))
    by_asking a e =
        ap (λ (x : Effect). moved d (effected (got_names from (Lent o class token ∷ []) d.own)
        (x >>= each (receiving_name from) []))) e

    -- a lend is over whose home is closed
    pub closed_alone : HasClasses d.own → is_open d.own.node from ≡ true →
        is_open d.own.node o.node ≡ false →
        gains from (Lent o class token ∷ []) d
        ≡ record d {
          out = sending d.out (record { to = from; frame = frames.Settle token });
        }
    closed_alone knows opened closed =
        by_asking _ (closed_asking (wanted o from token) d.own.node closed opened)
        ∙ λ j. record {
          own = record {
            node = d.own.node;
            counts = tidy.counts j;
            received = tidy.received j;
            classes = classes (is_known d.own.node o) refl j;
          };
          out = sending d.out (record { to = from; frame = frames.Settle token });
          shown = append-nil d.shown j;
        }
      where
        -- whether the object is known or not, its class changes nothing
        classes : (b : Bool) → is_known d.own.node o ≡ b →
            of_known d.own.node (first_kept d.own.classes o class) ≡ d.own.classes
        classes true is =
            ap (of_known d.own.node) (kept_there d.own.classes o class (sym (knows o) ∙ is))
            ∙ tidy.classes
        classes false is =
            kept_agree (λ q. is_known d.own.node (object_of q)) _ _
            (agree_dropped (λ q. is_known d.own.node (object_of q)) d.own.classes o class is)
            ∙ tidy.classes

    -- what is asked for is known
    pub asked_known : list_any (same_wanted (wanted o from token)) d.own.node.asked ≡ true →
        is_known d.own.node o ≡ true
    asked_known is = or_right (holds d.own.node o) _ (go d.own.node.asked is)
      where
        -- so for each list of asks
        go : (ws : List Wanted) → list_any (same_wanted (wanted o from token)) ws ≡ true →
            list_any (λ w. same_object o w.object) ws ≡ true
        go [] h = h
        go (w ∷ ws) h = elim (or_cases (same_wanted (wanted o from token) w) _ h) [
          | inl s ↦ or_left (same_object o w.object) _ (and_first (same_object o w.object) _ _ s)
          | inr s ↦ or_right (same_object o w.object) _ (go ws s)
        ]

    -- nothing is done for what is asked for already
    pub asked_alone : HasClasses d.own → is_open d.own.node o.node ≡ true →
        list_any (same_wanted (wanted o from token)) d.own.node.asked ≡ true →
        gains from (Lent o class token ∷ []) d ≡ d
    asked_alone knows home asked =
        by_asking _ (asked_asking (wanted o from token) d.own.node home asked)
        ∙ λ j. record {
          own = record {
            node = d.own.node;
            counts = tidy.counts j;
            received = tidy.received j;
            classes = (ap (of_known d.own.node) (kept_there d.own.classes o class
                (sym (knows o) ∙ asked_known asked)) ∙ tidy.classes) j;
          };
          out = d.out;
          shown = append-nil d.shown j;
        }

    -- the home is asked for an object
    pub new_alone : is_open d.own.node o.node ≡ true →
        list_any (same_wanted (wanted o from token)) d.own.node.asked ≡ false →
        gains from (Lent o class token ∷ []) d
        ≡ record d {
          own = record d.own {
            node = with_wanted (wanted o from token) d.own.node;
            classes = first_kept d.own.classes o class;
          };
          out = sending d.out (record {
            to = o.node;
            frame = frames.Retain o.serial (record { lender = from; number = token });
          });
        }
    new_alone home asked =
        by_asking _ (new_asking (wanted o from token) d.own.node home asked)
        ∙ λ j. record {
          own = record {
            node = m;
            counts = tidy.counts j;
            received = tidy.received j;
            classes = first_stays d.own.classes (λ q. is_known d.own.node (object_of q))
                (λ q. is_known m (object_of q)) o class known itself tidy.classes j;
          };
          out = sending d.out (record {
            to = o.node;
            frame = frames.Retain o.serial (record { lender = from; number = token });
          });
          shown = append-nil d.shown j;
        }
      where
        -- the node that asked for the object
        m : Node
        m = with_wanted (wanted o from token) d.own.node

        -- it asked for that and for what it asked for before
        asks : (x : ObjectName) →
            has_asked m x ≡ (same_object x o || has_asked d.own.node x)
        asks x = sym (list_any-IsPermutation (λ v. same_object x v.object)
            (wanted o from token ∷ d.own.node.asked) m.asked
            (inserted_moves wanted_lt (wanted o from token) d.own.node.asked))

        -- so it knows the object
        itself : is_known m o ≡ true
        itself = or_right (holds m o) _ (asks o
            ∙ ap (λ b. b || has_asked d.own.node o) (same_self o))

        -- and what it knew
        known : (q : ℕ × ℕ) → is_known d.own.node (object_of q) ≡ true →
            is_known m (object_of q) ≡ true
        known q is =
            elim (or_cases (holds d.own.node (object_of q)) (has_asked d.own.node (object_of q))
            is) [
              | inl h ↦ or_left (holds m (object_of q)) _ h
              | inr h ↦ or_right (holds m (object_of q)) _
                  (asks (object_of q) ∙ or_right (same_object (object_of q) o) _ h)
            ]
