-- What a site sends stands in its channels, spelled, behind what was sent before.
use Rattle.std.proofs.Common.{◌≡◌, ◌==◌, ◌++◌, ℕ, Bool, true, false, cond, List, [], ◌∷◌, map}
use Rattle.std.proofs.Common.{filter, fold, refl, sym, ap, ◌∙◌, subst, append_assoc, append-nil}
use Rattle.std.specs.Prelude.{None, Option, Some, find, not, option_map, ◌&&◌}
use Rattle.std.{specs.List.AllByRecursion, proofs.lemmas.Bool.eqb-true}
use Rattle.do_class.specs.Class.{Class}
use Rattle.do_coder.specs.{declared.recent.pair.Pair.Pair, Packets.surroundings}
use Rattle.do_export.specs.Counts.{Counts}
use Rattle.do_frames.specs.{declared.frame.Frame.Frame, Frames.{IsFrame, after_frame, raw}}
use Rattle.do_machine.specs.declared.state.Parcel.{Parcel}
use Rattle.do_network.specs.{Frames.{Posted, all_posted, posted}, Links.{Framed, Greeting, Link}}
use Rattle.do_network.specs.Links.{Outbox, Piece, change_link, link_to, sending, sendings}
use Rattle.do_network.specs.Net.{Channel, Lost, Whole, change_channel}
use Rattle.do_network.specs.{Step.{carrying, with_sending}, fits.Channels.Carries}
use Rattle.do_network.specs.fits.Notes.{Note, carried, names_behind, note_frame}
use Rattle.do_agreement.specs.{CountsFit.MarksFit, NotesSent.{note_sent, notes_to}}
use Rattle.do_agreement.proofs.places.KeyedLists.{fold_behind, found_changed, found_elsewhere}

-- the names behind what is under way and one more frame
names_more : (table : List Pair) (xs : List Note) (x : Note) → x.lost ≡ false →
    names_behind table (xs ++ x ∷ []) ≡ after_frame (names_behind table xs) (note_frame x)
names_more table [] x e = ap (λ b. cond b table (after_frame table (note_frame x))) e
names_more table (y ∷ xs) x e =
    names_more (cond y.lost table (after_frame table (note_frame y))) xs x e

-- what is under way and one more frame, spelled
carried_more : (table : List Pair) (xs : List Note) (x : Note) → x.lost ≡ false →
    carried table (xs ++ x ∷ [])
    ≡ carried table xs ++ Whole (raw (names_behind table xs) (note_frame x)) ∷ []
carried_more table [] x e =
    ap (λ b. cond b (Lost ∷ []) (Whole (raw table (note_frame x)) ∷ [])) e
carried_more table (y ∷ xs) x e =
    go y.lost (carried_more table xs x e) (carried_more (after_frame table (note_frame y)) xs x e)
  where
    f : Frame
    f = note_frame y

    go : (b : Bool) →
        carried table (xs ++ x ∷ [])
        ≡ carried table xs ++ Whole (raw (names_behind table xs) (note_frame x)) ∷ [] →
        carried (after_frame table f) (xs ++ x ∷ [])
        ≡ carried (after_frame table f) xs
        ++ Whole (raw (names_behind (after_frame table f) xs) (note_frame x)) ∷ [] →
        cond b (Lost ∷ carried table (xs ++ x ∷ []))
        (Whole (raw table f) ∷ carried (after_frame table f) (xs ++ x ∷ []))
        ≡ cond b (Lost ∷ carried table xs) (Whole (raw table f) ∷ carried (after_frame table f) xs)
        ++ Whole (raw (names_behind (cond b table (after_frame table f)) xs) (note_frame x)) ∷ []
    go true h k = ap (λ ys. Lost ∷ ys) h
    go false h k = ap (λ ys. Whole (raw table f) ∷ ys) k

-- all of these and one more
all_more : {X : Type 0} (P : X → Type 0) (xs : List X) (x : X) → AllByRecursion P xs → P x →
    AllByRecursion P (xs ++ x ∷ [])
all_more P [] x all now = (now, tt)
all_more P (y ∷ xs) x all now = (all.0, all_more P xs x all.1 now)

-- a link once a frame was sent over it
abbrev pub sent_over : Frame → Link → Link
sent_over f l = record l { sent = after_frame l.sent f; greeted = true }

module _ (table : List Class) (from to : ℕ) (reads : Bool) (r : Link) where
  -- a link and a channel to the peer carry what is under way
  pub record CarriesTo (links : List Link) (cs : List Channel) (xs : List Note) : Type 0 where
    pub writer : Link
    pub writes : link_to links to ≡ Some writer
    pub between : Channel
    pub stands : find (λ c. to == c.to) cs ≡ Some between
    pub carries : Carries table from to reads writer r between xs
    pub marks : MarksFit writer between xs

  module _ (links : List Link) (cs : List Channel) (xs : List Note) (s : CarriesTo links cs xs)
    where
      module _ (x : Note) (new : x.lost ≡ false)
          (spelled : IsFrame (surroundings table from to) (note_frame x)) where
        -- the frame
        abbrev f : Frame
        f = note_frame x

        -- the frame stands behind the others
        carries_more : (c : Channel) →
            c.waiting ≡ s.between.waiting ++ Whole (raw s.writer.sent f) ∷ [] →
            c.begun ≡ s.between.begun → c.greeting ≡ not s.between.begun →
            Carries table from to reads (sent_over f s.writer) r c (xs ++ x ∷ [])
        carries_more c waits begun greets =
            let t = s.carries.tables in
            record {
              tables = record {
                front = t.front;
                read = t.read;
                behind = names_more t.front xs x new ∙ ap (λ n. after_frame n f) t.behind;
                recent = t.recent;
                known = t.known;
              };
              waiting = waits ∙ ap (λ ys. ys ++ Whole (raw s.writer.sent f) ∷ []) s.carries.waiting
                  ∙ ap (λ n. carried t.front xs ++ Whole (raw n f) ∷ []) (sym t.behind)
                  ∙ sym (carried_more t.front xs x new);
              greeting = greets ∙ ap not (sym begun);
              spelled = all_more _ xs x s.carries.spelled spelled;
            }

        -- it is no mark of a loss, and the stream has begun
        marks_more : (c : Channel) → MarksFit (sent_over f s.writer) c (xs ++ x ∷ [])
        marks_more c = record {
          lost = all_more _ xs x s.marks.lost (λ e. absurd (both new e));
          unbegun = λ e. absurd (both e refl);
        }
          where
            both : {b : Bool} → b ≡ false → b ≡ true → ⊥
            both h k = cc

        -- the channel once the frame stands in it
        abbrev framed : Channel → Channel
        framed c = carrying (Framed f (raw s.writer.sent f)) c

        -- over a stream that has begun
        later : s.writer.greeted ≡ true → CarriesTo (change_link to (sent_over f) links)
            (change_channel to framed cs) (xs ++ x ∷ [])
        later greeted = record {
          writer = sent_over f s.writer;
          writes = found_changed (λ l. l.peer) (sent_over f) (λ l. refl) to links
              ∙ ap (option_map (sent_over f)) s.writes;
          between = framed s.between;
          stands = found_changed (λ c. c.to) framed (λ c. refl) to cs
              ∙ ap (option_map framed) s.stands;
          carries = carries_more (framed s.between) refl refl
              (s.carries.greeting ∙ ap (λ b. b && not s.between.begun) greeted);
          marks = marks_more (framed s.between);
        }

        -- the channel once the greeting and the frame stand in it
        abbrev greeted_framed : Channel → Channel
        greeted_framed c = framed (carrying Greeting c)

        -- over a stream that begins with it
        first : s.writer.greeted ≡ false → CarriesTo (change_link to (sent_over f) links)
            (change_channel to framed (change_channel to (carrying Greeting) cs)) (xs ++ x ∷ [])
        first greeted = record {
          writer = sent_over f s.writer;
          writes = found_changed (λ l. l.peer) (sent_over f) (λ l. refl) to links
              ∙ ap (option_map (sent_over f)) s.writes;
          between = greeted_framed s.between;
          stands = found_changed (λ c. c.to) framed (λ c. refl) to
              (change_channel to (carrying Greeting) cs)
              ∙ ap (option_map framed) (found_changed (λ c. c.to) (carrying Greeting) (λ c. refl) to
              cs)
              ∙ ap (λ o. option_map framed (option_map (carrying Greeting) o)) s.stands;
          carries = carries_more (greeted_framed s.between) refl refl
              (sym (ap not (s.marks.unbegun greeted).0));
          marks = marks_more (greeted_framed s.between);
        }

        -- over either
        sent_here : (b : Bool) → s.writer.greeted ≡ b →
            CarriesTo (change_link to (sent_over f) links)
            (fold with_sending cs (map (λ (piece : Piece). record { to = to; piece = piece })
            (cond b (Framed f (raw s.writer.sent f) ∷ [])
            (Greeting ∷ Framed f (raw s.writer.sent f) ∷ [])))) (xs ++ x ∷ [])
        sent_here true e = later e
        sent_here false e = first e

      -- what is sent to another peer changes neither
      sent_elsewhere : (other : ℕ) → (other == to) ≡ false → (f : Frame) (ps : List Piece) →
          CarriesTo (change_link other (sent_over f) links)
          (fold with_sending cs (map (λ (piece : Piece). record { to = other; piece = piece }) ps))
          xs
      sent_elsewhere other apart f ps = record {
        writer = s.writer;
        writes = found_elsewhere (λ l. l.peer) (sent_over f) (λ l. refl) other to apart links
            ∙ s.writes;
        between = s.between;
        stands = none ps cs ∙ s.stands;
        carries = s.carries;
        marks = s.marks;
      }
        where
          keeps : (piece : Piece) (c : Channel) → (carrying piece c).to ≡ c.to
          keeps Greeting c = refl
          keeps (Framed g r) c = refl

          none : (qs : List Piece) (ds : List Channel) →
              find (λ c. to == c.to) (fold with_sending ds
              (map (λ (piece : Piece). record { to = other; piece = piece }) qs))
              ≡ find (λ c. to == c.to) ds
          none [] ds = refl
          none (q ∷ qs) ds =
              none qs (change_channel other (carrying q) ds)
              ∙ found_elsewhere (λ c. c.to) (carrying q) (keeps q) other to apart ds

      -- nothing is sent where there is no link
      sent_nowhere : (other : ℕ) → (other == to) ≡ false → (x : Posted) → x.to ≡ other →
          (found : Option Link) →
          CarriesTo (change_link other (sent_over x.frame) links)
          (fold with_sending cs (sendings x found)) xs
      sent_nowhere other apart x is found = go found
        where
          go : (o : Option Link) → CarriesTo (change_link other (sent_over x.frame) links)
              (fold with_sending cs (sendings x o)) xs
          go (Some l) =
              subst (λ z. CarriesTo (change_link other (sent_over x.frame) links)
              (fold with_sending cs (map (λ (piece : Piece). record { to = z; piece = piece })
              (cond l.greeted (Framed x.frame (raw l.sent x.frame) ∷ [])
              (Greeting ∷ Framed x.frame (raw l.sent x.frame) ∷ [])))) xs) (sym is)
              (sent_elsewhere other apart x.frame (cond l.greeted
              (Framed x.frame (raw l.sent x.frame) ∷ [])
              (Greeting ∷ Framed x.frame (raw l.sent x.frame) ∷ [])))
          go None = sent_elsewhere other apart x.frame []

  module _ (received : Counts) where
    -- parcels as notes to the peer, by the first of them
    abbrev notes_by : Bool → Parcel → List Parcel → List Note
    notes_by b x ps =
        map (note_sent received) (cond b (x ∷ filter (λ y. y.to == to) ps)
        (filter (λ y. y.to == to) ps))

    -- parcels are sent in their order
    pub all_carried : (ps : List Parcel) (o : Outbox) (cs : List Channel) (xs : List Note) →
        CarriesTo o.links (fold with_sending cs o.sent) xs →
        AllByRecursion (λ x. IsFrame (surroundings table from to) (note_frame x))
        (notes_to received to ps) →
        CarriesTo (fold sending o (all_posted received ps)).links
        (fold with_sending cs (fold sending o (all_posted received ps)).sent)
        (xs ++ notes_to received to ps)
    all_carried [] o cs xs s spelled =
        subst (CarriesTo o.links (fold with_sending cs o.sent)) (sym (append-nil xs)) s
    all_carried (x ∷ ps) o cs xs s spelled =
        go (x.to == to) refl (λ ys. all_carried ps after cs ys) spelled
      where
        here : Posted
        here = posted received x

        after : Outbox
        after = sending o here

        -- the channels before the first of them
        before : List Channel
        before = fold with_sending cs o.sent

        -- all the others
        Rest : List Note → Type 0
        Rest ys = CarriesTo (fold sending after (all_posted received ps)).links
            (fold with_sending cs (fold sending after (all_posted received ps)).sent) ys

        -- the first is sent to the peer
        one_more : List Link → ℕ → Option Link → Type 0
        one_more links z found =
            CarriesTo (change_link z (sent_over here.frame) links)
            (fold with_sending before (sendings here found)) (xs ++ note_sent received x ∷ [])

        go : (b : Bool) → (x.to == to) ≡ b →
            ((ys : List Note) → CarriesTo after.links (fold with_sending cs after.sent) ys →
            AllByRecursion (λ y. IsFrame (surroundings table from to) (note_frame y))
            (notes_to received to ps) → Rest (ys ++ notes_to received to ps)) →
            AllByRecursion (λ y. IsFrame (surroundings table from to) (note_frame y))
            (notes_by b x ps) → Rest (xs ++ notes_by b x ps)
        go true e rest all =
            let is : x.to ≡ to = eqb-true x.to to e in
            subst Rest (append_assoc xs (note_sent received x ∷ []) (notes_to received to ps))
            (rest (xs ++ note_sent received x ∷ [])
            (subst (λ ds. CarriesTo after.links ds (xs ++ note_sent received x ∷ []))
            (sym (fold_behind with_sending cs o.sent (sendings here (link_to o.links x.to))))
            (subst (λ z. one_more o.links z (link_to o.links z)) (sym is)
            (subst (one_more o.links to) (sym s.writes)
            (subst (λ z. CarriesTo (change_link to (sent_over here.frame) o.links)
            (fold with_sending before (map (λ (piece : Piece). record { to = z; piece = piece })
            (cond s.writer.greeted (Framed here.frame (raw s.writer.sent here.frame) ∷ [])
            (Greeting ∷ Framed here.frame (raw s.writer.sent here.frame) ∷ []))))
            (xs ++ note_sent received x ∷ [])) (sym is)
            (sent_here o.links before xs s (note_sent received x) refl all.0 s.writer.greeted
            refl))))) all.1)
        go false e rest all =
            rest xs
            (subst (λ ds. CarriesTo after.links ds xs)
            (sym (fold_behind with_sending cs o.sent (sendings here (link_to o.links x.to))))
            (sent_nowhere o.links before xs s x.to e here refl (link_to o.links x.to))) all
