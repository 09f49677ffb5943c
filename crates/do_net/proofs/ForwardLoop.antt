-- What is sent over the channels of a site.
use Rattle.std.proofs.Common.{◌≡◌, ◌==◌, Bool, true, false, cond, List, [], ◌∷◌, ◌++◌, fold, map}
use Rattle.std.proofs.Common.{refl, ap, sym, subst, ◌∙◌, Some, append_assoc}
use Rattle.do_machine.specs.Lists.{change_first}
use Rattle.do_network.specs.{declared.wire.Wire.Wire, Links.{Framed, Greeting, Piece, Sending}}
use Rattle.do_network.specs.{Links.piece_bytes, Net.{Channel, Whole, change_channel}}
use Rattle.do_network.specs.Step.{carrying, wire_of, with_sending}
use Rattle.std.specs.List.{AllByRecursion}
use Rattle.do_net.specs.{Hosts.{FetchesWire, Hosting, forwarded}, Lanes.{IsSent, IsToldApart}}
use Rattle.do_net.specs.{Lanes.laden, Seen.{FetchesSpelled, IsSpelledBy, Seen}}

-- changes that are alike change a list alike
change_alike : {X : Type 0} (p : X → Bool) (f g : X → X) → ((x : X) → f x ≡ g x) →
    (xs : List X) → change_first p f xs ≡ change_first p g xs
change_alike p f g h [] = refl
change_alike p f g h (x ∷ xs) =
    elim (p x) as (λ b. cond b (f x ∷ xs) (x ∷ change_first p f xs)
    ≡ cond b (g x ∷ xs) (x ∷ change_first p g xs)) [
      | true ↦ ap (λ y. y ∷ xs) (h x)
      | false ↦ ap (λ ys. x ∷ ys) (change_alike p f g h xs)
    ]

-- what is sent stands behind the rest as what it is
piece_stands : (x : Piece) → IsToldApart x → (c : Channel) →
    laden (piece_bytes x) c ≡ carrying x c
piece_stands Greeting h c = refl
piece_stands (Framed g f) h c =
    ap (λ b. cond b (record c { greeting = true })
    (record c { waiting = c.waiting ++ Whole f ∷ [] })) h

-- and so it goes into the channel to its peer
sent_goes : (s : Sending) → IsSent s → (cs : List Channel) →
    change_channel s.to (laden (piece_bytes s.piece)) cs ≡ with_sending cs s
sent_goes s h cs =
    change_alike (λ c. s.to == c.to) (laden (piece_bytes s.piece)) (carrying s.piece)
    (piece_stands s.piece h) cs

-- a site of which a frame was fetched and went into its channel
abbrev pub with_sent : Hosting → Wire → Hosting
with_sent y w = record y { channels = change_channel w.to (laden w.bytes) y.channels }

-- a frame that was fetched and went into its channel leaves what comes of all frames
forward_same : (x y z : Hosting) (w : Wire) → AllByRecursion IsSent x.site.frames →
    FetchesWire x y (Some w) → z ≡ with_sent y w → forwarded z ≡ forwarded x
forward_same x y z w told f e =
    let s = f.0 in
    let ys = y.site.frames in
    let first : x.site.frames ≡ s ∷ ys = f.1.0 in
    let is_sent : IsSent s = (subst (AllByRecursion IsSent) first told).0 in
    let left : List Channel → List Sending → Hosting =
    (λ cs ss. record x {
      site = record x.site { frames = [] };
      channels = fold with_sending cs ss;
    }) in
    ap forwarded e ∙ ap (λ v. forwarded (with_sent v w)) f.1.1.1
    ∙ ap (λ v. left (change_channel v.to (laden v.bytes) x.channels) ys) f.1.1.0
    ∙ ap (λ cs. left cs ys) (sent_goes s is_sent x.channels)
    ∙ sym (ap (left x.channels) first)

-- the frames that are left are told apart too
forward_told : (x y z : Hosting) (w : Wire) → AllByRecursion IsSent x.site.frames →
    FetchesWire x y (Some w) → z ≡ with_sent y w → AllByRecursion IsSent z.site.frames
forward_told x y z w told f e =
    let left : AllByRecursion IsSent y.site.frames = (subst (AllByRecursion IsSent) f.1.0 told).1 in
    subst (λ (v : Hosting). AllByRecursion IsSent v.site.frames) (sym e) left

-- what was sent and what is left to be fetched are the same
forward_wires : (x y z : Hosting) (w : Wire) (before between : List Wire) →
    FetchesWire x y (Some w) → z ≡ with_sent y w → between ≡ before ++ w ∷ [] →
    between ++ map (wire_of z.port) z.site.frames ≡ before ++ map (wire_of x.port) x.site.frames
forward_wires x y z w before between f e more =
    let ys = y.site.frames in
    let s = f.0 in
    let port : y.port ≡ x.port = ap (λ (v : Hosting). v.port) f.1.1.1 in
    ap (λ (v : Hosting). between ++ map (wire_of v.port) v.site.frames) e
    ∙ ap (λ p. between ++ map (wire_of p) ys) port
    ∙ ap (λ ws. ws ++ map (wire_of x.port) ys) more
    ∙ append_assoc before (w ∷ []) (map (wire_of x.port) ys)
    ∙ ap (λ v. before ++ v ∷ map (wire_of x.port) ys) f.1.1.0
    ∙ ap (λ fs. before ++ map (wire_of x.port) fs) (sym f.1.0)

-- what a site has not fetched has a spelling
abbrev AllSpelled : Seen → Type 0
AllSpelled s = AllByRecursion (IsSpelledBy s) s.frames

-- what was to be fetched has a spelling where what is left then has
forward_spelled : (x y z : Hosting) (w : Wire) → FetchesWire x y (Some w) → z ≡ with_sent y w →
    FetchesSpelled x.site y.site (Some w) → AllSpelled z.site → AllSpelled x.site
forward_spelled x y z w f e spelled left =
    let site : z.site ≡ y.site = ap (λ (v : Hosting). v.site) e in
    let same = ap (λ (v : Hosting). v.site) f.1.1.1 in
    let behind = subst (λ (s : Seen). AllByRecursion (IsSpelledBy s) y.site.frames) same
    (subst AllSpelled site left) in
    subst (AllByRecursion (IsSpelledBy x.site)) (sym f.1.0) (spelled f.0 f.1.0, behind)

-- a site goes on from one to another, with what was sent
pub record Forwards (x : Hosting) (before : List Wire) (z : Hosting) (now : List Wire)
    : Type 0 where
  pub told : AllByRecursion IsSent z.site.frames
  pub host : forwarded z ≡ forwarded x
  pub wires : now ++ map (wire_of z.port) z.site.frames
      ≡ before ++ map (wire_of x.port) x.site.frames
  pub spelled : AllSpelled z.site → AllSpelled x.site

-- a frame more
pub forwards_more : (u x y z : Hosting) (first before between : List Wire) (w : Wire) →
    Forwards u first x before → FetchesWire x y (Some w) → z ≡ with_sent y w →
    between ≡ before ++ w ∷ [] → FetchesSpelled x.site y.site (Some w) →
    Forwards u first z between
forwards_more u x y z first before between w so_far f e more spelled = record {
  told = forward_told x y z w so_far.told f e;
  host = forward_same x y z w so_far.told f e ∙ so_far.host;
  wires = forward_wires x y z w before between f e more ∙ so_far.wires;
  spelled = λ left. so_far.spelled (forward_spelled x y z w f e spelled left);
}
