-- Frames that are sent in their order, and what the oldest of them is.
use Rattle.std.proofs.Common.{◌≡◌, ℕ, Bool, true, false, cond, List, [], ◌∷◌, ◌++◌, map, Some}
use Rattle.std.proofs.Common.{Option, refl, ap, sym, ◌∙◌, append_assoc, ◌==◌}
use Rattle.std.specs.{Prelude.{slice_get, slice_set, fold}, List.position}
use Rattle.std.proofs.lemmas.{Bool.eqb-true, List.map-append}
use Rattle.do_frames.specs.{declared.frame.Frame.Frame, Frames.{after_frame, raw}}
use Rattle.do_network.specs.{Frames.Posted, Links.{Framed, Greeting, Link, Outbox, Piece, Sending}}
use Rattle.do_network.specs.Links.{all_sent, change_link, link_to, sending, sendings}
use Rattle.do_machine.proofs.FirstPlace.{found_at, found_map, found_passes, put_first}
use Rattle.do_streams.specs.declared.{end.{End.End, Outgoing.Outgoing}, spelled.Spelled.Spelled}
use Rattle.do_streams.specs.Streamed.{link_of, outbox, outbox_of, posted_of, spelled_first}
use Rattle.do_streams.specs.{Streamed.streamed_of, Waits.Waits}
use Rattle.do_streams.proofs.FirstChanged.{change_again, change_found, found_changed, put_mapped}

-- the same is sent behind what was sent before
pub sent_behind : (links : List Link) (a b : List Sending) (xs : List Posted) →
    fold sending (record { links = links; sent = a ++ b }) xs
    ≡ record {
      links = (fold sending (record { links = links; sent = b }) xs).links;
      sent = a ++ (fold sending (record { links = links; sent = b }) xs).sent;
    }
sent_behind links a b [] = refl
sent_behind links a b (x ∷ xs) =
    let now = sendings x (link_to links x.to) in
    let after = sending (record { links = links; sent = b }) x in
    ap (λ (s : List Sending). fold sending (record { links = after.links; sent = s }) xs)
    (append_assoc a b now)
    ∙ sent_behind after.links a (b ++ now) xs

-- one more is sent behind all others
pub one_more : (o : Outbox) (xs : List Posted) (x : Posted) →
    fold sending o (xs ++ x ∷ []) ≡ sending (fold sending o xs) x
one_more o [] x = refl
one_more o (y ∷ ys) x = one_more (sending o y) ys x

-- the link once a frame was sent
abbrev pub sent_over : Frame → Link → Link
sent_over f l = record l { sent = after_frame l.sent f; greeted = true }

-- the link whose stream has begun
abbrev greet : Link → Link
greet l = record l { greeted = true }

-- the pieces of a frame, by whether the stream has begun
abbrev pieces_by : Frame → Link → Bool → List Piece
pieces_by f l greeted = let framed = Framed f (raw l.sent f) in
    cond greeted (framed ∷ []) (Greeting ∷ framed ∷ [])

-- pieces that are sent to a peer
abbrev sent_to : ℕ → List Piece → List Sending
sent_to to ps = map (λ piece. record { to = to; piece = piece }) ps

-- where the stream has not begun, the greeting is sent first, and the rest as if it had
pub greeting_first : (links : List Link) (x : Posted) (xs : List Posted) (l : Link) →
    link_to links x.to ≡ Some l → l.greeted ≡ false →
    all_sent links (x ∷ xs) ≡ record {
      links = (all_sent (change_link x.to (λ k. record k { greeted = true }) links) (x ∷ xs)).links;
      sent = record { to = x.to; piece = Greeting }
          ∷ (all_sent (change_link x.to (λ k. record k { greeted = true }) links) (x ∷ xs)).sent;
    }
greeting_first links x xs l found new =
    ap (λ (o : Outbox). fold sending o xs) before
    ∙ sent_behind over (greeting ∷ []) (framed ∷ []) xs
    ∙ sym (ap (λ (o : Outbox). with_greeting (fold sending o xs)) after)
  where
    -- whether a link is that with the peer
    at : Link → Bool
    at k = x.to == k.peer

    -- the links once the frame was sent
    over : List Link
    over = change_link x.to (sent_over x.frame) links

    -- the links once the greeting was sent
    begun : List Link
    begun = change_link x.to greet links

    -- the greeting, to the peer
    greeting : Sending
    greeting = record { to = x.to; piece = Greeting }

    -- the frame, to the peer
    framed : Sending
    framed = record { to = x.to; piece = Framed x.frame (raw l.sent x.frame) }

    -- an outbox that sends the greeting first
    with_greeting : Outbox → Outbox
    with_greeting o = record { links = o.links; sent = greeting ∷ o.sent }

    -- what is sent of the frame where the stream has not begun
    before : sending (record { links = links; sent = [] }) x
        ≡ record { links = over; sent = greeting ∷ framed ∷ [] }
    before = ap (λ s. record { links = over; sent = s })
        (ap (sendings x) found
        ∙ ap (λ b. sent_to x.to (pieces_by x.frame l b)) new)

    -- what is sent of the frame once the stream has begun
    after : sending (record { links = begun; sent = [] }) x
        ≡ record { links = over; sent = framed ∷ [] }
    after = λ j. record {
      links = change_again at greet (sent_over x.frame) (λ k. refl) links j;
      sent = sendings x (found_changed at greet (λ k. refl) links l found j);
    }

-- where it has begun, the frame is sent first, and the rest by the names that it named
pub frame_first : (links : List Link) (x : Posted) (xs : List Posted) (l : Link) →
    link_to links x.to ≡ Some l → l.greeted ≡ true →
    all_sent links (x ∷ xs) ≡ record {
      links = (all_sent (change_link x.to
          (λ k. record k { sent = after_frame k.sent x.frame }) links) xs).links;
      sent = record { to = x.to; piece = Framed x.frame (raw l.sent x.frame) }
          ∷ (all_sent (change_link x.to
          (λ k. record k { sent = after_frame k.sent x.frame }) links) xs).sent;
    }
frame_first links x xs l found begun =
    ap (λ (o : Outbox). fold sending o xs) before
    ∙ sent_behind over (framed ∷ []) [] xs
    ∙ ap (λ (ls : List Link). with_frame (all_sent ls xs)) same
  where
    -- the link once it named what the frame names
    named : Link → Link
    named k = record k { sent = after_frame k.sent x.frame }

    -- the links once the frame was sent
    over : List Link
    over = change_link x.to (sent_over x.frame) links

    -- the frame, to the peer
    framed : Sending
    framed = record { to = x.to; piece = Framed x.frame (raw l.sent x.frame) }

    -- an outbox that sends the frame first
    with_frame : Outbox → Outbox
    with_frame o = record { links = o.links; sent = framed ∷ o.sent }

    -- what is sent of the frame where the stream has begun
    before : sending (record { links = links; sent = [] }) x
        ≡ record { links = over; sent = framed ∷ [] }
    before = ap (λ s. record { links = over; sent = s })
        (ap (sendings x) found
        ∙ ap (λ b. sent_to x.to (pieces_by x.frame l b)) begun)

    -- a stream that has begun stays so
    same : over ≡ change_link x.to named links
    same = change_found (λ k. x.to == k.peer) (sent_over x.frame) named links l found
        (λ j. record l { sent = after_frame l.sent x.frame; greeted = sym begun j })

module _ (ends : List End) (peer at : ℕ) (e f : End)
    (place : position (λ (d : End). peer == d.peer) ends ≡ Some at)
    (there : slice_get ends at ≡ Some e) where
  -- the link with a peer
  pub found : link_to (map link_of ends) peer ≡ Some (link_of e)
  found = found_map (λ (d : End). peer == d.peer) link_of (λ l. peer == l.peer) (λ d. refl)
      ends e (found_at (λ (d : End). peer == d.peer) ends at e place there)

  -- its end is that with the peer
  pub to_peer : e.peer ≡ peer
  to_peer = sym (eqb-true peer e.peer (found_passes (λ (d : End). peer == d.peer) ends e
      (found_at (λ (d : End). peer == d.peer) ends at e place there)))

  -- the links once the end was changed
  pub changed : (g : Link → Link) → g (link_of e) ≡ link_of f →
      change_link peer g (map link_of ends) ≡ map link_of (slice_set ends at f)
  changed g h =
      change_found (λ l. peer == l.peer) g (λ l. link_of f) (map link_of ends) (link_of e) found h
      ∙ sym (put_mapped (λ (d : End). peer == d.peer) link_of (λ l. peer == l.peer) (λ d. refl)
      f ends)
      ∙ sym (ap (map link_of) (put_first (λ (d : End). peer == d.peer) ends at f place))

module _ (ends : List End) (x : Outgoing) (xs : List Outgoing) (at : ℕ) (e f : End)
    (place : position (λ (d : End). x.to == d.peer) ends ≡ Some at)
    (there : slice_get ends at ≡ Some e) where
  -- the greeting is what is sent first, where the stream has not begun
  pub next_greets : e.greeted ≡ false → f ≡ record e { greeted = true } →
      outbox_of ends (x ∷ xs) ≡ record {
        links = (outbox_of (slice_set ends at f) (x ∷ xs)).links;
        sent = record { to = e.peer; piece = Greeting }
            ∷ (outbox_of (slice_set ends at f) (x ∷ xs)).sent;
      }
  next_greets new is =
      greeting_first (map link_of ends) (posted_of x) (map posted_of xs) (link_of e)
      (found ends x.to at e f place there) new
      ∙ (λ j. record {
        links = (all_sent (changed ends x.to at e f place there greet (sym (ap link_of is)) j)
            (posted_of x ∷ map posted_of xs)).links;
        sent = record { to = sym (to_peer ends x.to at e f place there) j; piece = Greeting }
            ∷ (all_sent (changed ends x.to at e f place there greet (sym (ap link_of is)) j)
            (posted_of x ∷ map posted_of xs)).sent;
      })

  -- the frame is what is sent first, where the stream has begun
  pub next_spells : e.greeted ≡ true →
      f ≡ record e { sent = after_frame e.sent x.frame } →
      outbox_of ends (x ∷ xs) ≡ record {
        links = (outbox_of (slice_set ends at f) xs).links;
        sent = record { to = x.to; piece = Framed x.frame (raw e.sent x.frame) }
            ∷ (outbox_of (slice_set ends at f) xs).sent;
      }
  next_spells begun is =
      frame_first (map link_of ends) (posted_of x) (map posted_of xs) (link_of e)
      (found ends x.to at e f place there) begun
      ∙ (λ j. record {
        links = (all_sent (changed ends x.to at e f place there
            (λ k. record k { sent = after_frame k.sent x.frame })
            (sym (ap link_of is)) j) (map posted_of xs)).links;
        sent = record { to = x.to; piece = Framed x.frame (raw e.sent x.frame) }
            ∷ (all_sent (changed ends x.to at e f place there
            (λ k. record k { sent = after_frame k.sent x.frame })
            (sym (ap link_of is)) j) (map posted_of xs)).sent;
      })

-- a frame that is posted behind all that wait is sent behind all that is sent of them
pub posts : (ends : List End) (spelled : Option Spelled) (was later : Waits) (classes : ℕ)
    (x : Outgoing) → later.frames ≡ was.frames ++ x ∷ [] →
    outbox (streamed_of ends spelled later classes)
    ≡ sending (outbox (streamed_of ends spelled was classes)) (posted_of x)
posts ends spelled was later classes x e =
    (λ j. record { links = (step j).links; sent = spelled_first spelled ++ (step j).sent })
    ∙ (λ j. record {
      links = (sending before (posted_of x)).links;
      sent = (sym (append_assoc (spelled_first spelled) before.sent
          (sendings (posted_of x) (link_to before.links x.to)))) j;
    })
  where
    -- what is sent of the frames that waited before
    before : Outbox
    before = outbox_of ends was.frames

    -- one more frame is sent behind these
    step : outbox_of ends later.frames ≡ sending before (posted_of x)
    step = ap (outbox_of ends) e
        ∙ ap (all_sent (map link_of ends)) (map-append posted_of was.frames (x ∷ []))
        ∙ one_more (record { links = map link_of ends; sent = [] }) (map posted_of was.frames)
        (posted_of x)
