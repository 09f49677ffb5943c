-- What a site sends stands in its channels, and its bytes behind those that it sent before.
use Rattle.std.proofs.Common.{◌≡◌, ◌==◌, ◌++◌, ℕ, Bool, true, false, cond, List, [], ◌∷◌, map}
use Rattle.std.proofs.Common.{filter, fold, refl, sym, ap, ◌∙◌, subst, append_assoc, append-nil}
use Rattle.std.specs.{Prelude.{None, Option, Some, find, option_map}, List.flat_map}
use Rattle.std.proofs.lemmas.{Bool.eqb-true, Grind.flat_map-append, List.map-append}
use Rattle.std.proofs.lemmas.List.Elements.{filter-append}
use Rattle.do_frames.specs.{declared.frame.{Frame.Frame, RawFrame.RawFrame}, Frames.raw}
use Rattle.do_frames.specs.{Frames.raw_spelling, Pieces.{some_frame, stream_of}, Streams.hello}
use Rattle.do_network.specs.{Frames.Posted, Links.{Framed, Greeting, Link, Outbox, Piece, Sending}}
use Rattle.do_network.specs.Links.{all_sent, change_link, link_to, piece_bytes, sending, sendings}
use Rattle.do_network.specs.Net.{Carried, Channel, Whole, change_channel}
use Rattle.do_network.specs.Step.{carrying, with_sending}
use Rattle.do_agreement.proofs.channels.SendsCarried.{sent_over}
use Rattle.do_agreement.proofs.places.KeyedLists.{fold_behind, found_changed, found_elsewhere}
use Rattle.do_agreement.proofs.places.Numbers.{same_number}
use Rattle.do_serve.specs.{Hosting.outgoing, Rules.Outgoing}
use Rattle.do_exchanged.specs.Exchange.{bytes_for}
use Rattle.do_exchanged.proofs.Spellings.{some_more, stream_first, stream_more}

-- the bytes for a peer of frames and others
pub bytes_both : (to : ℕ) (xs ys : List Outgoing) →
    bytes_for to (xs ++ ys) ≡ bytes_for to xs ++ bytes_for to ys
bytes_both to xs ys =
    let mine : Outgoing → Bool = λ f. f.to == to in
    ap (flat_map (λ f. f.bytes)) (filter-append mine xs ys)
    ∙ flat_map-append (λ (f : Outgoing). f.bytes) (filter mine xs) (filter mine ys)

-- pieces for a peer
abbrev pub pieces_to : ℕ → List Piece → List Sending
pieces_to to ps = map (λ (piece : Piece). record { to = to; piece = piece }) ps

-- their bytes
pieces_here : (to : ℕ) (ps : List Piece) →
    bytes_for to (map outgoing (pieces_to to ps)) ≡ flat_map piece_bytes ps
pieces_here to [] = refl
pieces_here to (p ∷ ps) =
    let rest : List Outgoing = filter (λ f. f.to == to) (map outgoing (pieces_to to ps)) in
    let here : Outgoing = record { to = to; bytes = piece_bytes p } in
    ap (λ b. flat_map (λ (f : Outgoing). f.bytes) (cond b (here ∷ rest) rest)) (same_number to)
    ∙ ap (λ w. piece_bytes p ++ w) (pieces_here to ps)

-- none of them is for another
pieces_elsewhere : (other to : ℕ) → (other == to) ≡ false → (ps : List Piece) →
    bytes_for to (map outgoing (pieces_to other ps)) ≡ []
pieces_elsewhere other to apart [] = refl
pieces_elsewhere other to apart (p ∷ ps) =
    let rest : List Outgoing = filter (λ f. f.to == to) (map outgoing (pieces_to other ps)) in
    let here : Outgoing = record { to = other; bytes = piece_bytes p } in
    ap (λ b. flat_map (λ (f : Outgoing). f.bytes) (cond b (here ∷ rest) rest)) apart
    ∙ pieces_elsewhere other to apart ps

-- frames as they stand in a channel
abbrev pub whole : List RawFrame → List Carried
whole fs = map (λ f. Whole f) fs

module _ (to : ℕ) (taken : List RawFrame) where
  -- A link and a channel to a peer have frames that the peer did not take. Behind those that it
  -- took, their bytes are those that were sent
  pub record Flows (links : List Link) (cs : List Channel) (sent : List Outgoing) : Type 0 where
    pub writer : Link
    pub writes : link_to links to ≡ Some writer
    pub between : Channel
    pub stands : find (λ c. to == c.to) cs ≡ Some between
    pub left : List RawFrame
    pub waiting : between.waiting ≡ whole left
    pub begun : writer.greeted ≡ some_frame (taken ++ left)
    pub bytes : bytes_for to sent ≡ stream_of (taken ++ left) []

  module _ (links : List Link) (cs : List Channel) (sent : List Outgoing)
      (s : Flows links cs sent) where
    module _ (f : Frame) where
      -- the frame as it is spelled
      abbrev r : RawFrame
      r = raw s.writer.sent f

      -- it stands behind the others
      waits_more : s.between.waiting ++ Whole r ∷ [] ≡ whole (s.left ++ r ∷ [])
      waits_more =
          ap (λ w. w ++ Whole r ∷ []) s.waiting
          ∙ sym (map-append (λ f. Whole f) s.left (r ∷ []))

      -- the stream has begun
      begun_more : true ≡ some_frame (taken ++ (s.left ++ r ∷ []))
      begun_more =
          sym (ap some_frame (sym (append_assoc taken s.left (r ∷ [])))
          ∙ some_more (taken ++ s.left) r)

      -- its bytes stand behind the others
      bytes_more : (ps : List Piece) →
          stream_of ((taken ++ s.left) ++ r ∷ []) []
          ≡ stream_of (taken ++ s.left) [] ++ flat_map piece_bytes ps →
          bytes_for to (sent ++ map outgoing (pieces_to to ps))
          ≡ stream_of (taken ++ (s.left ++ r ∷ [])) []
      bytes_more ps more =
          bytes_both to sent (map outgoing (pieces_to to ps))
          ∙ ap (λ w. bytes_for to sent ++ w) (pieces_here to ps)
          ∙ ap (λ w. w ++ flat_map piece_bytes ps) s.bytes
          ∙ sym more
          ∙ ap (λ fs. stream_of fs []) (append_assoc taken s.left (r ∷ []))

      -- the channel with it
      abbrev framed : Channel → Channel
      framed c = carrying (Framed f r) c

      -- over a stream that has begun
      later : s.writer.greeted ≡ true →
          Flows (change_link to (sent_over f) links) (change_channel to framed cs)
          (sent ++ map outgoing (pieces_to to (Framed f r ∷ [])))
      later greeted = record {
        writer = sent_over f s.writer;
        writes = found_changed (λ l. l.peer) (sent_over f) (λ l. refl) to links
            ∙ ap (option_map (sent_over f)) s.writes;
        between = framed s.between;
        stands = found_changed (λ c. c.to) framed (λ c. refl) to cs
            ∙ ap (option_map framed) s.stands;
        left = s.left ++ r ∷ [];
        waiting = waits_more;
        begun = begun_more;
        bytes = bytes_more (Framed f r ∷ [])
            (stream_more (taken ++ s.left) r (sym s.begun ∙ greeted)
            ∙ ap (λ w. stream_of (taken ++ s.left) [] ++ w) (sym (append-nil (raw_spelling r))));
      }

      -- over one that begins with it
      first : s.writer.greeted ≡ false →
          Flows (change_link to (sent_over f) links)
          (change_channel to framed (change_channel to (carrying Greeting) cs))
          (sent ++ map outgoing (pieces_to to (Greeting ∷ Framed f r ∷ [])))
      first greeted = record {
        writer = sent_over f s.writer;
        writes = found_changed (λ l. l.peer) (sent_over f) (λ l. refl) to links
            ∙ ap (option_map (sent_over f)) s.writes;
        between = framed (carrying Greeting s.between);
        stands = found_changed (λ c. c.to) framed (λ c. refl) to
            (change_channel to (carrying Greeting) cs)
            ∙ ap (option_map framed) (found_changed (λ c. c.to) (carrying Greeting) (λ c. refl) to
            cs ∙ ap (option_map (carrying Greeting)) s.stands);
        left = s.left ++ r ∷ [];
        waiting = waits_more;
        begun = begun_more;
        bytes = bytes_more (Greeting ∷ Framed f r ∷ [])
            (stream_first (taken ++ s.left) r (sym s.begun ∙ greeted)
            ∙ ap (λ w. stream_of (taken ++ s.left) [] ++ (hello ++ w))
            (sym (append-nil (raw_spelling r))));
      }

      -- over either
      sent_here : (b : Bool) → s.writer.greeted ≡ b →
          Flows (change_link to (sent_over f) links)
          (fold with_sending cs (pieces_to to (cond b (Framed f r ∷ [])
          (Greeting ∷ Framed f r ∷ []))))
          (sent ++ map outgoing (pieces_to to (cond b (Framed f r ∷ [])
          (Greeting ∷ Framed f r ∷ []))))
      sent_here true e = later e
      sent_here false e = first e

    -- what is sent to another changes nothing of it
    sent_elsewhere : (other : ℕ) → (other == to) ≡ false → (f : Frame) (ps : List Piece) →
        Flows (change_link other (sent_over f) links) (fold with_sending cs (pieces_to other ps))
        (sent ++ map outgoing (pieces_to other ps))
    sent_elsewhere other apart f ps = record {
      writer = s.writer;
      writes = found_elsewhere (λ l. l.peer) (sent_over f) (λ l. refl) other to apart links
          ∙ s.writes;
      between = s.between;
      stands = none ps cs ∙ s.stands;
      left = s.left;
      waiting = s.waiting;
      begun = s.begun;
      bytes = bytes_both to sent (map outgoing (pieces_to other ps))
          ∙ ap (λ w. bytes_for to sent ++ w) (pieces_elsewhere other to apart ps)
          ∙ append-nil (bytes_for to sent) ∙ s.bytes;
    }
      where
        keeps : (piece : Piece) (c : Channel) → (carrying piece c).to ≡ c.to
        keeps Greeting c = refl
        keeps (Framed g r) c = refl

        none : (qs : List Piece) (ds : List Channel) →
            find (λ c. to == c.to) (fold with_sending ds (pieces_to other qs))
            ≡ find (λ c. to == c.to) ds
        none [] ds = refl
        none (q ∷ qs) ds =
            none qs (change_channel other (carrying q) ds)
            ∙ found_elsewhere (λ c. c.to) (carrying q) (keeps q) other to apart ds

    module _ (x : Posted) where
      -- one frame is sent, over the link that is found
      abbrev OneMore : ℕ → Option Link → Type 0
      OneMore z found =
          Flows (change_link z (sent_over x.frame) links)
          (fold with_sending cs (sendings x found)) (sent ++ map outgoing (sendings x found))

      -- to another
      to_another : (x.to == to) ≡ false → (found : Option Link) → OneMore x.to found
      to_another apart None = sent_elsewhere x.to apart x.frame []
      to_another apart (Some l) =
          sent_elsewhere x.to apart x.frame (cond l.greeted (Framed x.frame (raw l.sent x.frame) ∷ [])
          (Greeting ∷ Framed x.frame (raw l.sent x.frame) ∷ []))

      -- to the peer
      to_peer : x.to ≡ to → OneMore x.to (link_to links x.to)
      to_peer is =
          subst (λ z. OneMore z (link_to links z)) (sym is)
          (subst (OneMore to) (sym s.writes)
          (subst (λ z. Flows (change_link to (sent_over x.frame) links)
          (fold with_sending cs (pieces_to z (cond s.writer.greeted (Framed x.frame (r x.frame) ∷ [])
          (Greeting ∷ Framed x.frame (r x.frame) ∷ []))))
          (sent ++ map outgoing (pieces_to z (cond s.writer.greeted
          (Framed x.frame (r x.frame) ∷ []) (Greeting ∷ Framed x.frame (r x.frame) ∷ []))))) (sym is)
          (sent_here x.frame s.writer.greeted refl)))

      -- to either
      one_sent : (b : Bool) → (x.to == to) ≡ b → OneMore x.to (link_to links x.to)
      one_sent true e = to_peer (eqb-true x.to to e)
      one_sent false e = to_another e (link_to links x.to)

  -- frames are sent in their order
  all_flow : (xs : List Posted) (o : Outbox) (cs : List Channel) (sent : List Outgoing) →
      Flows o.links (fold with_sending cs o.sent) (sent ++ map outgoing o.sent) →
      Flows (fold sending o xs).links (fold with_sending cs (fold sending o xs).sent)
      (sent ++ map outgoing (fold sending o xs).sent)
  all_flow [] o cs sent s = s
  all_flow (x ∷ xs) o cs sent s =
      let now = sendings x (link_to o.links x.to) in
      let links = change_link x.to (sent_over x.frame) o.links in
      all_flow xs (sending o x) cs sent
      (subst (λ ds. Flows links ds (sent ++ map outgoing (o.sent ++ now)))
      (sym (fold_behind with_sending cs o.sent now))
      (subst (Flows links (fold with_sending (fold with_sending cs o.sent) now))
      (append_assoc sent (map outgoing o.sent) (map outgoing now)
      ∙ ap (λ w. sent ++ w) (sym (map-append outgoing o.sent now)))
      (one_sent o.links (fold with_sending cs o.sent) (sent ++ map outgoing o.sent) s x
      (x.to == to) refl)))

  -- so all that a site sends at once flows behind what it sent before
  pub sent_flows : (links : List Link) (xs : List Posted) (cs : List Channel)
      (sent : List Outgoing) → Flows links cs sent →
      Flows (all_sent links xs).links (fold with_sending cs (all_sent links xs).sent)
      (sent ++ map outgoing (all_sent links xs).sent)
  sent_flows links xs cs sent s =
      all_flow xs (record { links = links; sent = [] }) cs sent
      (subst (Flows links cs) (sym (append-nil sent)) s)
