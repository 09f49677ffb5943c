-- A network from which an input took what it takes.
use Rattle.std.proofs.Common.{◌≡◌, ◌==◌, ◌++◌, ℕ, Bool, true, false, cond, List, [], ◌∷◌, refl, sym}
use Rattle.std.proofs.Common.{ap, ◌∙◌, subst, append_assoc, append-nil, drop}
use Rattle.std.{specs.Prelude.{Some, option_map}, proofs.lemmas.Bool.eqb-true}
use Rattle.do_frames.specs.{Pieces.{some_frame, stream_of}, declared.frame.RawFrame.RawFrame}
use Rattle.do_network.specs.declared.input.Done.{Done, TheVariants.{Closed, Moved, Skipped}}
use Rattle.do_network.specs.{declared.input.Input.{Input, TheVariants.{Ended, Frame}}, Links.Link}
use Rattle.do_network.specs.Net.{Carried, Channel, Lost, Net, Place, Whole, change_place}
use Rattle.do_network.specs.{Net.{channel_to, place_at, with_channel}, Step.{advanced, with_loss}}
use Rattle.do_agreement.proofs.places.KeyedLists.{found_changed, found_elsewhere}
use Rattle.do_agreement.proofs.places.PlacesChanged.{place_elsewhere, place_here, some_is}
use Rattle.do_agreement.proofs.places.Numbers.{same_number}
use Rattle.do_serve.specs.Rules.{Outgoing}
use Rattle.do_exchanged.{specs.Exchange.frame_from, proofs.Flows.{Flows, whole}}

-- A place was this before: its site is the same, what it sent to others is as it was, and of what
-- it sent to the port the input took a frame at most
pub record Was (N : Net) (port : ℕ) (i : Input) (d : Done) (x : ℕ) (y : Place) : Type 0 where
  pub place : Place
  pub there : place_at N x ≡ Some place
  pub part : y.part ≡ place.part
  pub others : (to : ℕ) (taken : List RawFrame) (sent : List Outgoing) → (port == to) ≡ false →
      Flows to taken place.part.links place.channels sent →
      Flows to taken place.part.links y.channels sent
  pub mine : (taken : List RawFrame) (sent : List Outgoing) →
      Flows port taken place.part.links place.channels sent →
      Flows port (taken ++ frame_from x i d) place.part.links y.channels sent

-- The network from which an input of a port took what it takes
pub record Drawn (N M : Net) (port : ℕ) (i : Input) (d : Done) : Type 0 where
  pub own : place_at M port ≡ place_at N port
  pub was : (x : ℕ) (y : Place) → place_at M x ≡ Some y → Was N port i d x y
  pub still : (x : ℕ) (z : Place) → place_at N x ≡ Some z → (y : Place) × (place_at M x ≡ Some y)

-- nothing more was taken
none_taken : (to : ℕ) (taken more : List RawFrame) (links : List Link) (cs : List Channel)
    (sent : List Outgoing) → more ≡ [] → Flows to taken links cs sent →
    Flows to (taken ++ more) links cs sent
none_taken to taken more links cs sent none f =
    subst (λ fs. Flows to fs links cs sent)
    (sym (ap (λ w. taken ++ w) none ∙ append-nil taken)) f

-- an input that takes nothing
pub drawn_none : (N : Net) (port : ℕ) (i : Input) (d : Done) →
    ((x : ℕ) → frame_from x i d ≡ []) → Drawn N N port i d
drawn_none N port i d none = record {
  own = refl;
  was = λ x y there. record {
    place = y;
    there = there;
    part = refl;
    others = λ to taken sent apart f. f;
    mine = λ taken sent f.
        none_taken port taken (frame_from x i d) y.part.links y.channels sent (none x) f;
  };
  still = λ x z there. (z, there);
}

module _ (N : Net) (port from : ℕ) (apart : (from == port) ≡ false) (change : Channel → Channel)
    (keeps : (c : Channel) → (change c).to ≡ c.to) (i : Input) (d : Done) where
  -- the network with the channel from a peer changed
  abbrev M : Net
  M = change_place from (with_channel port change) N

  -- what was sent to others is as it was
  others_flow : (z : Place) (to : ℕ) (taken : List RawFrame) (sent : List Outgoing) →
      (port == to) ≡ false → Flows to taken z.part.links z.channels sent →
      Flows to taken z.part.links (with_channel port change z).channels sent
  others_flow z to taken sent other f = record {
    writer = f.writer;
    writes = f.writes;
    between = f.between;
    stands = found_elsewhere (λ c. c.to) change keeps port to other z.channels ∙ f.stands;
    left = f.left;
    waiting = f.waiting;
    begun = f.begun;
    bytes = f.bytes;
  }

  -- the input took what it takes of the peer, and nothing of others
  pub drawn_from : (pf : Place) → place_at N from ≡ Some pf →
      ((taken : List RawFrame) (sent : List Outgoing) →
      Flows port taken pf.part.links pf.channels sent →
      Flows port (taken ++ frame_from from i d) pf.part.links
      (with_channel port change pf).channels sent) →
      ((x : ℕ) → (from == x) ≡ false → frame_from x i d ≡ []) → Drawn N M port i d
  drawn_from pf sender takes none = record {
    own = place_elsewhere from (with_channel port change) (λ y. refl) N port apart;
    was = λ x y there. go x y there (from == x) refl;
    still = λ x z there. still x z there (from == x) refl;
  }
    where
      go : (x : ℕ) (y : Place) → place_at M x ≡ Some y → (b : Bool) → (from == x) ≡ b →
          Was N port i d x y
      go x y there true e =
          let is : from ≡ x = eqb-true from x e in
          let here : with_channel port change pf ≡ y = some_is (with_channel port change pf) y
          (sym (place_here from (with_channel port change) (λ y. refl) N pf sender)
          ∙ ap (place_at M) is ∙ there) in
          subst (λ z. Was N port i d z y) is
          (subst (Was N port i d from) here (record {
            place = pf;
            there = sender;
            part = refl;
            others = others_flow pf;
            mine = takes;
          }))
      go x y there false e = record {
        place = y;
        there = sym (place_elsewhere from (with_channel port change) (λ y. refl) N x e) ∙ there;
        part = refl;
        others = λ to taken sent other f. f;
        mine = λ taken sent f.
            none_taken port taken (frame_from x i d) y.part.links y.channels sent (none x e) f;
      }

      still : (x : ℕ) (z : Place) → place_at N x ≡ Some z → (b : Bool) → (from == x) ≡ b →
          (y : Place) × (place_at M x ≡ Some y)
      still x z there true e = (
        with_channel port change pf,
        subst (λ w. place_at M w ≡ Some (with_channel port change pf)) (eqb-true from x e)
            (place_here from (with_channel port change) (λ y. refl) N pf sender),
      )
      still x z there false e =
          (z, place_elsewhere from (with_channel port change) (λ y. refl) N x e ∙ there)

-- frames of which this stands first begin with its frame
whole_first : (left : List RawFrame) (f : RawFrame) (rest : List Carried) →
    whole left ≡ Whole f ∷ rest →
    (more : List RawFrame) × (left ≡ f ∷ more) × (rest ≡ whole more)
whole_first [] f rest e = absurd (cc)
whole_first (g ∷ gs) f rest e = (gs, ap (λ z. z ∷ gs) (cc), cc)

-- a frame is taken
pub drawn_frame : (N : Net) (port from : ℕ) (apart : (from == port) ≡ false) (pf : Place) →
    place_at N from ≡ Some pf → (c : Channel) → channel_to port pf ≡ Some c → (f : RawFrame)
    (rest : List Carried) → c.waiting ≡ Whole f ∷ rest → (d : Done) →
    ((x : ℕ) → frame_from x (Frame from f) d ≡ cond (from == x) (f ∷ []) []) →
    Drawn N (change_place from (with_channel port (advanced (Whole f))) N) port (Frame from f) d
drawn_frame N port from apart pf sender c stands f rest waits d gives =
    drawn_from N port from apart (advanced (Whole f)) (λ c. refl) (Frame from f) d pf sender takes
    (λ x other. gives x ∙ ap (λ b. cond b (f ∷ []) []) other)
  where
    takes : (taken : List RawFrame) (sent : List Outgoing) →
        Flows port taken pf.part.links pf.channels sent →
        Flows port (taken ++ frame_from from (Frame from f) d) pf.part.links
        (with_channel port (advanced (Whole f)) pf).channels sent
    takes taken sent s =
        let same : s.between ≡ c = some_is s.between c (sym s.stands ∙ stands) in
        let first = whole_first s.left f rest
        (sym s.waiting ∙ ap (λ (k : Channel). k.waiting) same ∙ waits) in
        let one : taken ++ s.left ≡ (taken ++ f ∷ []) ++ first.0 =
        ap (λ w. taken ++ w) first.1 ∙ sym (append_assoc taken (f ∷ []) first.0) in
        subst (λ w. Flows port (taken ++ w) pf.part.links
        (with_channel port (advanced (Whole f)) pf).channels sent)
        (sym (gives from ∙ ap (λ b. cond b (f ∷ []) []) (same_number from))) (record {
          writer = s.writer;
          writes = s.writes;
          between = advanced (Whole f) s.between;
          stands = found_changed (λ c. c.to) (advanced (Whole f)) (λ c. refl) port pf.channels
              ∙ ap (option_map (advanced (Whole f))) s.stands;
          left = first.0;
          waiting = ap (drop 1) (s.waiting ∙ ap whole first.1);
          begun = s.begun ∙ ap some_frame one;
          bytes = s.bytes ∙ ap (λ fs. stream_of fs []) one;
        })

-- a channel whose rest was lost, and that loss taken
abbrev pub ended_channel : Channel → Channel
ended_channel c = advanced Lost (with_loss 0 c)

-- an end without notice takes nothing
pub drawn_end : (N : Net) (port from : ℕ) (apart : (from == port) ≡ false) (pf : Place) →
    place_at N from ≡ Some pf → (d : Done) →
    Drawn N (change_place from (with_channel port ended_channel) N) port (Ended from) d
drawn_end N port from apart pf sender d =
    drawn_from N port from apart ended_channel (λ c. refl) (Ended from) d pf sender takes
    (λ x other. nothing x d)
  where
    nothing : (x : ℕ) (d : Done) → frame_from x (Ended from) d ≡ []
    nothing x Moved = refl
    nothing x Skipped = refl
    nothing x (Closed peer fault) = refl

    takes : (taken : List RawFrame) (sent : List Outgoing) →
        Flows port taken pf.part.links pf.channels sent →
        Flows port (taken ++ frame_from from (Ended from) d) pf.part.links
        (with_channel port ended_channel pf).channels sent
    takes taken sent s =
        none_taken port taken (frame_from from (Ended from) d) pf.part.links
        (with_channel port ended_channel pf).channels sent (nothing from d) (record {
          writer = s.writer;
          writes = s.writes;
          between = ended_channel s.between;
          stands = found_changed (λ c. c.to) ended_channel (λ c. refl) port pf.channels
              ∙ ap (option_map ended_channel) s.stands;
          left = s.left;
          waiting = s.waiting;
          begun = s.begun;
          bytes = s.bytes;
        })
