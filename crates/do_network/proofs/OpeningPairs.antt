-- Two sites as a network opens, and the channel between them.
use Rattle.std.specs.FinMap as map_of
use Rattle.std.proofs.Common.{◌≡◌, ℕ, true, false, List, [], ◌∷◌, map, refl, ap, sym, ◌∙◌, ◌==◌}
use Rattle.std.{proofs.Common.{◌+◌, arith}, specs.Prelude.{length, nat_lt, unwrap_or}}
use Rattle.std.specs.{List.list_any, FinMap.{get-empty, len-empty, len-entries}}
use Rattle.do_class.specs.Class.{Class}
use Rattle.do_export.specs.Counts.{Counts, count_of, entry_cmp}
use Rattle.do_import.specs.ByObject.{object_of}
use Rattle.do_machine.specs.{declared.state.Seat.Seat, World.opening_by}
use Rattle.do_network.specs.{Links.Part, Net.{Net, channel, channel_to, opening_channel}}
use Rattle.do_network.specs.Net.{opening_link, opening_part, opening_place}
use Rattle.do_network.specs.fits.Fits.{ChannelFits, OwnFits, PairFits}
use Rattle.do_network.proofs.ListSearch.{not_other, other_found}

-- nothing is counted where there are no counts
no_counts : (peer serial : ℕ) → count_of map_of.empty peer serial ≡ 0
no_counts peer serial = ap (λ o. unwrap_or o 0) (get-empty entry_cmp (peer, serial))

-- a list of no length is empty
no_length : {X : Type 0} (xs : List X) → length xs ≡ 0 → xs ≡ []
no_length [] e = refl
no_length (x ∷ xs) e = absurd (omega arith)

-- counts without an entry
abbrev nothing : Counts
nothing = map_of.empty

-- no objects stand in counts without an entry
no_objects : map object_of (map_of.keys nothing) ≡ []
no_objects =
    ap (λ es. map object_of (map (λ e. e.0) es))
    (no_length _ (sym (len-entries nothing) ∙ len-empty entry_cmp ℕ))

module _ (table : List Class) (all : List ℕ) where
  -- a site as it opens
  abbrev pub at : Seat → Part
  at s = opening_part table all s

  -- the site of a seat, as it opens
  pub own_fits : (ss : List Seat) (s : Seat) → OwnFits (opening_by table ss) s.node (at s).own
  own_fits ss s = record {
    port_is = refl;
    apart = not_other s.node all;
    held = no_objects;
    received = λ o. ap (λ n. nat_lt 0 n) (no_counts o.node o.serial);
    classes = λ o. get-empty entry_cmp (o.node, o.serial);
  }

  -- two sites as they open
  pub pair_fits : (s t : Seat) → PairFits (at s).own (at t).own [] []
  pair_fits s t =
      let none = no_counts in
      record {
        counted = record {
          agree = λ open_here open_there serial. none t.node serial
              ∙ sym (ap (λ n. n + 0) (none s.node serial));
          ended = λ open_here closed_there serial. record {
            untold = λ silent. none t.node serial;
            told = λ said. absurd (omega (arith, said));
          };
          closed = λ shut serial. (none t.node serial, none t.node serial);
          silent = λ open_here serial. refl;
        };
        lends = λ o number. record {
          alone = omega arith;
          kept = λ open_here lent. absurd cc;
          whole = λ open_here open_there lent. absurd cc;
          unknown = λ open_here lent. refl;
          settled = λ open_here lent. refl;
          fresh = λ late. (refl, refl);
        };
        asks = λ serial token open_here. refl;
        calls = λ number. record {
          method = λ open_here. omega arith;
          root = λ open_here. omega arith;
          fresh = λ late. (refl, refl);
        };
      }

  -- the channel between two sites
  pub channel_fits : (N : Net) (s t : Seat) → (t.node == s.node) ≡ false →
      (s.node == t.node) ≡ false →
      list_any (λ x. t.node == x) all ≡ true → list_any (λ x. s.node == x) all ≡ true →
      channel N s.node t.node
      ≡ channel_to t.node (opening_place table all s) →
      ChannelFits table N s.node t.node (at s) (at t) []
  channel_fits N s t apart apart' there here is = record {
    between = opening_channel t.node;
    stands = is
        ∙ other_found opening_channel (λ c. c.to) (λ x. refl) s.node t.node apart all there;
    writer = opening_link t.node;
    writes = other_found opening_link (λ l. l.peer) (λ x. refl) s.node t.node apart all there;
    reader = opening_link s.node;
    reads = other_found opening_link (λ l. l.peer) (λ x. refl) t.node s.node apart' all here;
    carries = record {
      tables = record {
        front = [];
        read = λ r. refl;
        behind = refl;
        recent = record { few = omega arith; differ = tt };
        known = tt;
      };
      waiting = refl;
      greeting = refl;
      spelled = tt;
    };
  }
