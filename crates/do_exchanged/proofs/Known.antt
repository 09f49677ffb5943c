-- What is known of nodes and of the network that does what they did.
use Rattle.std.proofs.Common.{◌≡◌, ◌≢◌, ◌==◌, ◌++◌, ◌⊎◌, ℕ, Bool, true, false, List, [], map, refl}
use Rattle.std.proofs.Common.{sym, ap, ◌∙◌, subst, inl, inr, append-nil, arith}
use Rattle.std.specs.Prelude.{None, Option, Some, slice_get, slice_set, unwrap_or}
use Rattle.std.proofs.lemmas.Bool.{cases_eq, eqb-true, Decides.nat_tests}
use mathlib.Core.Path.{fun_ext}
use Rattle.do_class.specs.Class.{Class}
use Rattle.do_machine.specs.run.Run.{Acting}
use Rattle.do_net.specs.Seen.{Seen, at_rest}
use Rattle.do_network.specs.{declared.input.Input.Input, Net.{Net, Place, place_at}}
use Rattle.do_network.specs.{Site.{Handled, enabled_input, passed}, Step.{net_moved, place_after}}
use Rattle.do_agreement.proofs.places.PlacesChanged.{place_elsewhere, place_here, some_is}
use Rattle.do_serve.specs.{Hosting.{outgoing, site_moved, site_rules}, Rules.Moved}
use Rattle.do_weave.proofs.Places.{get_set_other, get_set_same}
use Rattle.do_exchanged.specs.Exchange.{Doing, frame_from, having_done}
use Rattle.do_exchanged.proofs.{Drawn.Drawn, Flows.Flows, Sites.{input_flows, input_sends}}

-- ports that differ
apart_numbers : (n m : ℕ) → n ≢ m → (n == m) ≡ false
apart_numbers n m other = go (n == m) refl
  where
    go : (b : Bool) → (n == m) ≡ b → b ≡ false
    go false e = refl
    go true e = absurd (other (eqb-true n m e))

-- what is found once an element of a list was changed: it, or another one
pub looked : {X : Type 0} (xs : List X) (k j : ℕ) (a x old : X) → slice_get xs k ≡ Some old →
    slice_get (slice_set xs k a) j ≡ Some x →
    ((j ≡ k) × (x ≡ a)) ⊎ ((j ≢ k) × (slice_get xs j ≡ Some x))
looked xs k j a x old there found = elim (cases_eq j k) [
  | inl same ↦ inl (
    same,
    some_is x a (sym found ∙ ap (slice_get (slice_set xs k a)) same
        ∙ get_set_same xs k old a there),
  )
  | inr other ↦ inr (other, sym (get_set_other xs k j a other) ∙ found)
]

module _ (table : List Class) (act : Acting) where
  -- the site of a node stands in the network
  pub record Stands (N : Net) (d : Doing Seen) : Type 0 where
    pub place : Place
    pub there : place_at N d.port ≡ Some place
    pub is : d.part ≡ at_rest table act place.part

  -- The sites of nodes stand in the network, and what is in each channel was sent and not taken
  pub record Known (N : Net) (nodes : List (Doing Seen)) : Type 0 where
    pub stands : (k : ℕ) (d : Doing Seen) → slice_get nodes k ≡ Some d → Stands N d
    pub flows : (j k : ℕ) (t g : Doing Seen) → slice_get nodes j ≡ Some t →
        slice_get nodes k ≡ Some g → (g.port == t.port) ≡ false → (y : Place) →
        place_at N g.port ≡ Some y →
        Flows t.port (t.taken g.port) y.part.links y.channels g.sent
    pub each : (x : ℕ) (y : Place) → place_at N x ≡ Some y →
        (k : ℕ) × (d : Doing Seen) × (slice_get nodes k ≡ Some d) × (d.port ≡ x)
    pub apart : (j k : ℕ) (t g : Doing Seen) → slice_get nodes j ≡ Some t →
        slice_get nodes k ≡ Some g → t.port ≡ g.port → j ≡ k

  -- a node that is to do other inputs
  abbrev pub with_after : Doing Seen → List Input → Doing Seen
  with_after d rest = record d { after = rest }

  -- a node whose input came to this
  abbrev pub after_input : Doing Seen → Input → List Input → Handled → Doing Seen
  after_input d i rest h = record {
    port = d.port;
    part = at_rest table act h.part;
    sent = d.sent ++ map outgoing h.sent;
    taken = λ x. d.taken x ++ frame_from x i h.done;
    after = rest;
  }

  -- a node that did its next input, by what that came to
  having_moved : (d : Doing Seen) (i : Input) (rest : List Input) (m : Moved Seen) → Doing Seen
  having_moved d i rest m = record {
    port = d.port;
    part = m.part;
    sent = d.sent ++ m.frames;
    taken = λ x. d.taken x ++ frame_from x i m.done;
    after = rest;
  }

  module _ (N : Net) (d : Doing Seen) (s : Stands N d) (i : Input) (rest : List Input) where
    -- what the input comes to
    pub comes_to : (found : Option Handled) → enabled_input table act s.place.part i ≡ found →
        site_rules.step d.part i
        ≡ site_moved (at_rest table act s.place.part) (unwrap_or found (passed s.place.part))
    comes_to found is =
        ap (λ (x : Seen). site_rules.step x i) s.is
        ∙ ap (λ o. site_moved (at_rest table act s.place.part)
        (unwrap_or o (passed s.place.part))) is

    -- one that is enabled
    pub done_is : (h : Handled) → enabled_input table act s.place.part i ≡ Some h →
        having_done site_rules d i rest ≡ after_input d i rest h
    done_is h is = ap (λ (m : Moved Seen). record {
      port = d.port;
      part = m.part;
      sent = d.sent ++ m.frames;
      taken = λ x. d.taken x ++ frame_from x i m.done;
      after = rest;
    }) (comes_to (Some h) is)

    -- one that is not
    pub skipped_is : enabled_input table act s.place.part i ≡ None →
        having_done site_rules d i rest ≡ with_after d rest
    skipped_is is =
        ap (λ (m : Moved Seen). record {
          port = d.port;
          part = m.part;
          sent = d.sent ++ m.frames;
          taken = λ x. d.taken x ++ frame_from x i m.done;
          after = rest;
        }) (comes_to None is)
        ∙ ap (λ p. record {
          port = d.port;
          part = p;
          sent = d.sent ++ [];
          taken = λ x. d.taken x ++ [];
          after = rest;
        }) (sym s.is)
        ∙ ap (λ fs. record {
          port = d.port;
          part = d.part;
          sent = fs;
          taken = λ x. d.taken x ++ [];
          after = rest;
        }) (append-nil d.sent)
        ∙ ap (λ f. record {
          port = d.port;
          part = d.part;
          sent = d.sent;
          taken = f;
          after = rest;
        }) (fun_ext (λ x. append-nil (d.taken x)))

  module _ (N : Net) (nodes : List (Doing Seen)) (known : Known N nodes) (place : ℕ)
      (d : Doing Seen) (at : slice_get nodes place ≡ Some d) (rest : List Input) where
    -- the same with other inputs to do
    abbrev later : Doing Seen
    later = with_after d rest

    -- a node afterwards was one before, of the same port and the same state
    was_before : (k : ℕ) (e : Doing Seen) → slice_get (slice_set nodes place later) k ≡ Some e →
        (b : Doing Seen) × (slice_get nodes k ≡ Some b) × (e ≡ with_after b e.after)
    was_before k e found = elim (looked nodes place k later e d at found) [
      | inl same ↦ (
        d,
        ap (slice_get nodes) same.0 ∙ at,
        same.1 ∙ ap (λ (x : Doing Seen). with_after d x.after) (sym same.1),
      )
      | inr other ↦ (e, other.1, refl)
    ]

    -- a node that skips an input
    pub known_still : Known N (slice_set nodes place later)
    known_still = record {
      stands = λ k e found.
          let b = was_before k e found in
          let s = known.stands k b.0 b.1 in
          subst (Stands N) (sym b.2)
          (record { place = s.place; there = s.there; is = s.is });
      flows = λ j k t g found_t found_g other y there.
          let a = was_before j t found_t in
          let b = was_before k g found_g in
          let port_t = ap (λ (x : Doing Seen). x.port) a.2 in
          let port_g = ap (λ (x : Doing Seen). x.port) b.2 in
          subst (λ (x : Doing Seen). Flows x.port (x.taken g.port) y.part.links y.channels g.sent)
          (sym a.2)
          (subst (λ (x : Doing Seen). Flows a.0.port (a.0.taken x.port) y.part.links y.channels
          x.sent) (sym b.2)
          (known.flows j k a.0 b.0 a.1 b.1
          (ap (λ n. n == a.0.port) (sym port_g) ∙ ap (λ n. g.port == n) (sym port_t) ∙ other) y
          (ap (place_at N) (sym port_g) ∙ there)));
      each = λ x y there.
          let r = known.each x y there in
          elim (cases_eq r.0 place) [
            | inl same ↦ (
              place,
              later,
              get_set_same nodes place d later at,
              ap (λ (e : Doing Seen). e.port)
                  (some_is d r.1 (sym at ∙ ap (slice_get nodes) (sym same) ∙ r.2)) ∙ r.3,
            )
            | inr other ↦ (r.0, r.1, get_set_other nodes place r.0 later other ∙ r.2, r.3)
          ];
      apart = λ j k t g found_t found_g same.
          let a = was_before j t found_t in
          let b = was_before k g found_g in
          known.apart j k a.0 b.0 a.1 b.1
          (sym (ap (λ (x : Doing Seen). x.port) a.2) ∙ same ∙ ap (λ (x : Doing Seen). x.port) b.2);
    }

    module _ (i : Input) (h : Handled)
        (does : enabled_input table act (known.stands place d at).place.part i ≡ Some h) (M : Net)
        (drawn : Drawn N M d.port i h.done) where
      -- its place
      abbrev pl : Place
      pl = (known.stands place d at).place

      -- the node afterwards
      abbrev now : Doing Seen
      now = after_input d i rest h

      -- the network afterwards
      abbrev K : Net
      K = (net_moved d.port M h).net

      -- its place is there before it sends
      own_there : place_at M d.port ≡ Some pl
      own_there = drawn.own ∙ (known.stands place d at).there

      -- and afterwards
      own_now : place_at K d.port ≡ Some (place_after h pl)
      own_now = place_here d.port (place_after h) (λ y. refl) M pl own_there

      -- another is as it was
      other_now : (x : ℕ) → (d.port == x) ≡ false → place_at K x ≡ place_at M x
      other_now x other = place_elsewhere d.port (place_after h) (λ y. refl) M x other

      -- other nodes have other ports
      other_port : (k : ℕ) (e : Doing Seen) → k ≢ place → slice_get nodes k ≡ Some e →
          (d.port == e.port) ≡ false
      other_port k e other found =
          apart_numbers d.port e.port (λ same.
          other (sym (known.apart place k d e at found same)))

      -- the site of another
      stands_then : (k : ℕ) (e : Doing Seen) → k ≢ place → slice_get nodes k ≡ Some e → Stands K e
      stands_then k e other found =
          let s = known.stands k e found in
          let y = drawn.still e.port s.place s.there in
          let was = drawn.was e.port y.0 y.1 in
          let same : was.place ≡ s.place = some_is was.place s.place (sym was.there ∙ s.there) in
          record {
            place = y.0;
            there = other_now e.port (other_port k e other found) ∙ y.1;
            is = s.is ∙ ap (λ (z : Place). at_rest table act z.part) (sym same)
                ∙ ap (at_rest table act) (sym was.part);
          }

      -- what another sent
      other_flows : (j k : ℕ) (t g : Doing Seen) →
          slice_get (slice_set nodes place now) j ≡ Some t → k ≢ place →
          slice_get nodes k ≡ Some g → (g.port == t.port) ≡ false → (y : Place) →
          place_at M g.port ≡ Some y →
          Flows t.port (t.taken g.port) y.part.links y.channels g.sent
      other_flows j k t g found_t other found_g differ y there =
          let was = drawn.was g.port y there in
          elim (looked nodes place j now t d at found_t) [
            | inl same ↦
                let k_d = flipped_so k g other found_g in
                subst (λ (x : Doing Seen). Flows x.port (x.taken g.port) y.part.links y.channels
                g.sent) (sym same.1)
                (subst (λ p. Flows d.port (d.taken g.port ++ frame_from g.port i h.done) p.links
                y.channels g.sent) (sym was.part)
                (was.mine (d.taken g.port) g.sent
                (known.flows place k d g at found_g k_d was.place was.there)))
            | inr at_j ↦
                subst (λ p. Flows t.port (t.taken g.port) p.links y.channels g.sent)
                (sym was.part)
                (was.others t.port (t.taken g.port) g.sent (other_port j t at_j.0 at_j.1)
                (known.flows j k t g at_j.1 found_g differ was.place was.there))
          ]
        where
          -- it is apart from the node
          flipped_so : (k : ℕ) (g : Doing Seen) → k ≢ place → slice_get nodes k ≡ Some g →
              (g.port == d.port) ≡ false
          flipped_so k g other found =
              apart_numbers g.port d.port (λ same. other (known.apart k place g d found at same))

      -- what the node itself sent
      own_flows : (j : ℕ) (t : Doing Seen) → slice_get (slice_set nodes place now) j ≡ Some t →
          (d.port == t.port) ≡ false → (y : Place) → place_at K d.port ≡ Some y →
          Flows t.port (t.taken d.port) y.part.links y.channels now.sent
      own_flows j t found_t differ y there = elim (looked nodes place j now t d at found_t) [
        | inl same ↦ absurd (never (ap (λ (x : Doing Seen). d.port == x.port) (sym same.1) ∙ differ))
        | inr at_j ↦
            subst (λ (z : Place). Flows t.port (t.taken d.port) z.part.links z.channels now.sent)
            (some_is (place_after h pl) y (sym own_now ∙ there))
            (input_flows pl.part h (input_sends pl.part table act i h does) t.port
            (t.taken d.port) pl.channels d.sent
            (known.flows j place t d at_j.1 at differ pl (known.stands place d at).there))
      ]
        where
          never : (d.port == d.port) ≡ false → ⊥
          never e = grind (arith, nat_tests, e)

      -- what is known afterwards
      pub known_then : Known K (slice_set nodes place now)
      known_then = record {
        stands = λ k e found. elim (looked nodes place k now e d at found) [
          | inl same ↦ subst (Stands K) (sym same.1)
              (record { place = place_after h pl; there = own_now; is = refl })
          | inr other ↦ stands_then k e other.0 other.1
        ];
        flows = λ j k t g found_t found_g differ y there.
            elim (looked nodes place k now g d at found_g) [
              | inl same ↦
                  subst (λ (x : Doing Seen). Flows t.port (t.taken x.port) y.part.links y.channels
                  x.sent) (sym same.1)
                  (own_flows j t found_t (ap (λ (x : Doing Seen). x.port == t.port) (sym same.1)
                  ∙ differ) y (ap (λ (x : Doing Seen). place_at K x.port) (sym same.1) ∙ there))
              | inr other ↦
                  other_flows j k t g found_t other.0 other.1 differ y
                  (sym (other_now g.port (other_port k g other.0 other.1)) ∙ there)
            ];
        each = λ x y there. elim (cases_eq d.port x) [
          | inl same ↦ (place, now, get_set_same nodes place d now at, same)
          | inr other ↦
              let was = drawn.was x y
              (sym (other_now x (apart_numbers d.port x other)) ∙ there) in
              let r = known.each x was.place was.there in (
                r.0,
                r.1,
                get_set_other nodes place r.0 now (λ same.
                    other (ap (λ (e : Doing Seen). e.port)
                    (some_is d r.1 (sym at ∙ ap (slice_get nodes) (sym same) ∙ r.2)) ∙ r.3))
                    ∙ r.2,
                r.3,
              )
        ];
        apart = λ j k t g found_t found_g same.
            let a = port_before j t found_t in
            let b = port_before k g found_g in
            known.apart j k a.0 b.0 a.1 b.1 (a.2 ∙ same ∙ sym b.2);
      }
        where
          -- a node of the same port was there
          port_before : (j : ℕ) (t : Doing Seen) →
              slice_get (slice_set nodes place now) j ≡ Some t →
              (b : Doing Seen) × (slice_get nodes j ≡ Some b) × (b.port ≡ t.port)
          port_before j t found = elim (looked nodes place j now t d at found) [
            | inl same ↦ (
              d,
              ap (slice_get nodes) same.0 ∙ at,
              ap (λ (x : Doing Seen). x.port) (sym same.1),
            )
            | inr other ↦ (t, other.1, refl)
          ]
