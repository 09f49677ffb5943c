-- What is left of records while nodes do what these say, one block after another.
use Rattle.std.proofs.Common.{◌≡◌, ◌≢◌, ◌+◌, ◌++◌, ℕ, suc, Bool, true, false, List, [], ◌∷◌, length}
use Rattle.std.proofs.Common.{map, refl, sym, ap, ◌∙◌, subst, inl, inr, Ok, append_assoc, arith}
use Rattle.std.{proofs.Common.take, specs.Prelude.{None, Some, nat_eq, option_and_then, option_map}}
use Rattle.std.specs.{Prelude.{slice_get, slice_set}, Str.bytes_eq}
use Rattle.std.proofs.lemmas.{Bool.{and_from, cases_eq, Decides.nat_tests}, List.length-append}
use Rattle.do_base.specs.declared.events.shown.Shown.{Shown}
use Rattle.do_lines.specs.{Lines.joined, Shown.shown_text}
use Rattle.do_machine.specs.declared.state.{State.State, Stepped.Stepped}
use Rattle.do_net.specs.Seen.{Seen}
use Rattle.do_record.specs.{Grammar.lines_in, Recorded.recorded, Spelling.block_text}
use Rattle.do_record.specs.declared.parts.{Block.Block, Record.Record, RecordLine.RecordLine}
use Rattle.do_serve.specs.Hosting.{site_rules}
use Rattle.do_weave.proofs.Places.{get_set_other, get_set_same, one_there}
use Rattle.do_weave.{proofs.Woven.{ThreadsApart, still_apart}, specs.{Inputs.tried, Rules.Rules}}
use Rattle.do_weave.specs.Threads.{advanced, is_cut, next_block, threads_of}
use Rattle.do_weave.specs.Weaving.{Turn, agreed, agrees, ended, threads_after, turn_of, unless_left}
use Rattle.do_recorded.specs.Inputs.{block_at, blocks_of}
use Rattle.do_exchanged.{specs.Exchange.Doing, proofs.Known.looked}

-- what a list is of
abbrev element_of : {X : Type 0} → List X → Type 0
element_of {X} xs = X

-- a thread, of which the weaver keeps the name to itself
abbrev pub Thread : Type 0
Thread = element_of (threads_of [])

-- bytes are themselves
bytes_same : (xs : List ℕ) → bytes_eq xs xs ≡ true
bytes_same [] = refl
bytes_same (x ∷ xs) = and_from (nat_eq x x) (bytes_eq xs xs) (one x) (bytes_same xs)
  where
    one : (x : ℕ) → nat_eq x x ≡ true
    one x = grind (arith, nat_tests)

-- what was shown is what is said, also where this may be a beginning
said_same : (cut : Bool) (xs : List ℕ) → agrees cut xs xs ≡ true
said_same true xs = ap (bytes_eq xs) (take_all xs) ∙ bytes_same xs
  where
    take_all : (ys : List ℕ) → take (length ys) ys ≡ ys
    take_all [] = refl
    take_all (y ∷ ys) = ap (λ zs. y ∷ zs) (take_all ys)
said_same false xs = bytes_same xs

-- behind all that there is nothing
past_all : {X : Type 0} (xs : List X) → slice_get (xs ++ []) (length xs) ≡ None
past_all [] = refl
past_all (x ∷ xs) = past_all xs

-- behind these stands the first of the others
first_behind : {X : Type 0} (xs : List X) (y : X) (ys : List X) →
    slice_get (xs ++ y ∷ ys) (length xs) ≡ Some y
first_behind [] y ys = refl
first_behind (x ∷ xs) y ys = first_behind xs y ys

module _ (records : List Record) where
  -- the thread of a node's record stands where its blocks are those that the node is to do
  pub record NodeLeft (threads : List Thread) (k : ℕ) (d : Doing Seen) : Type 0 where
    pub place : ℕ
    pub at : ℕ
    pub there : slice_get threads place ≡ Some (record { port = d.port; index = k; at = at })
    pub before : List Block
    pub line : ℕ
    pub whole : Bool
    pub is : slice_get records k ≡ Some (recorded d.port
        (before ++ blocks_of site_rules d.port line d.part d.after) whole)
    pub count : length before ≡ at

  -- So it is with each node, and each thread is that of a node
  pub record Left (threads : List Thread) (nodes : List (Doing Seen)) : Type 0 where
    pub nodes_left : (k : ℕ) (d : Doing Seen) → slice_get nodes k ≡ Some d → NodeLeft threads k d
    pub each : (place : ℕ) (t : Thread) → slice_get threads place ≡ Some t →
        (k : ℕ) × (d : Doing Seen) × (slice_get nodes k ≡ Some d) × (t.port ≡ d.port)
    pub apart : ThreadsApart threads

  -- where no thread has a block left, nothing contradicts
  ended_all : (threads : List Thread) → ((place : ℕ) (t : Thread) →
      slice_get threads place ≡ Some t → next_block records t ≡ None) →
      ended records threads ≡ Ok []
  ended_all [] none = refl
  ended_all (t ∷ ts) none =
      ap (λ o. unless_left t o (ended records ts)) (none 0 t refl)
      ∙ ended_all ts (λ place. none (suc place))

  -- so it is where no node has more to do
  pub all_ended : (threads : List Thread) (nodes : List (Doing Seen)) → Left threads nodes →
      ((k : ℕ) (d : Doing Seen) → slice_get nodes k ≡ Some d → d.after ≡ []) →
      ended records threads ≡ Ok []
  all_ended threads nodes left over = ended_all threads none
    where
      none : (place : ℕ) (t : Thread) → slice_get threads place ≡ Some t →
          next_block records t ≡ None
      none place t there =
          let r = left.each place t there in
          let n = left.nodes_left r.0 r.1 r.2 in
          let last : next_block records (record { port = r.1.port; index = r.0; at = n.at })
          ≡ None =
          ap (option_and_then (λ (q : Record). slice_get q.blocks n.at)) n.is
          ∙ ap (λ is. slice_get (n.before ++ blocks_of site_rules r.1.port n.line r.1.part is) n.at)
          (over r.0 r.1 r.2)
          ∙ ap (slice_get (n.before ++ [])) (sym n.count) ∙ past_all n.before in
          elim (cases_eq place n.place) [
            | inl same ↦
                ap (next_block records) (one_there t _
                (sym there ∙ ap (slice_get threads) same ∙ n.there)) ∙ last
            | inr other ↦ absurd (left.apart place n.place t _ there n.there other r.3)
          ]

  -- a node that does nothing that a record has, and that is to do other inputs
  pub left_still : (threads : List Thread) (nodes : List (Doing Seen)) → Left threads nodes →
      (place : ℕ) (d e : Doing Seen) → slice_get nodes place ≡ Some d → e.port ≡ d.port →
      ((line : ℕ) → blocks_of site_rules d.port line d.part d.after
      ≡ blocks_of site_rules e.port line e.part e.after) →
      Left threads (slice_set nodes place e)
  left_still threads nodes left place d e at same_port same_blocks = record {
    nodes_left = λ k x found. elim (looked nodes place k e x d at found) [
      | inl same ↦ subst (NodeLeft threads k) (sym same.1) (own k same.0)
      | inr other ↦ left.nodes_left k x other.1
    ];
    each = λ p t there.
        let r = left.each p t there in
        elim (cases_eq r.0 place) [
          | inl same ↦ (
            place,
            e,
            get_set_same nodes place d e at,
            r.3 ∙ ap (λ (x : Doing Seen). x.port) (one_there r.1 d
                (sym r.2 ∙ ap (slice_get nodes) same ∙ at)) ∙ sym same_port,
          )
          | inr other ↦ (r.0, r.1, get_set_other nodes place r.0 e other ∙ r.2, r.3)
        ];
    apart = left.apart;
  }
    where
      own : (k : ℕ) → k ≡ place → NodeLeft threads k e
      own k same =
          let n = left.nodes_left k d (ap (slice_get nodes) same ∙ at) in
          record {
            place = n.place;
            at = n.at;
            there = n.there
                ∙ ap (λ p. Some (record { port = p; index = k; at = n.at })) (sym same_port);
            before = n.before;
            line = n.line;
            whole = n.whole;
            is = n.is
                ∙ ap (λ bs. Some (recorded d.port (n.before ++ bs) n.whole)) (same_blocks n.line)
                ∙ ap (λ p. Some (recorded p (n.before
                ++ blocks_of site_rules e.port n.line e.part e.after) n.whole)) (sym same_port);
            count = n.count;
          }

  module _ (R : Rules) (S : State) (threads : List Thread) (nodes : List (Doing Seen))
      (left : Left threads nodes) (k : ℕ) (d e : Doing Seen) (at : slice_get nodes k ≡ Some d)
      (same_port : e.port ≡ d.port) (input : RecordLine) (shown : List Shown)
      (next : (line : ℕ) → blocks_of site_rules d.port line d.part d.after
      ≡ block_at d.port line input shown ∷ blocks_of site_rules e.port
      (line + lines_in (block_text d.port (block_at d.port line input shown))) e.part e.after)
      (s : Stepped) (was : tried R S d.port input ≡ Some s) (shows : s.outcome.shown ≡ shown) where
    -- what is left of the node's record
    abbrev n : NodeLeft threads k d
    n = left.nodes_left k d at

    -- its thread
    abbrev own : Thread
    own = record { port = d.port; index = k; at = n.at }

    -- its next block
    abbrev block : Block
    block = block_at d.port n.line input shown

    -- the blocks behind it
    abbrev rest : List Block
    rest = blocks_of site_rules e.port (n.line + lines_in (block_text d.port block)) e.part e.after

    -- the record is what it was
    now_is : slice_get records k ≡ Some (recorded d.port (n.before ++ block ∷ rest) n.whole)
    now_is = n.is ∙ ap (λ bs. Some (recorded d.port (n.before ++ bs) n.whole)) (next n.line)

    -- the block is the thread's next
    next_is : next_block records own ≡ Some block
    next_is =
        ap (option_and_then (λ (q : Record). slice_get q.blocks n.at)) now_is
        ∙ ap (slice_get (n.before ++ block ∷ rest)) (sym n.count)
        ∙ first_behind n.before block rest

    -- the turn
    abbrev pub turn : Turn
    turn = record { place = n.place; thread = own; block = block; stepped = s }

    -- it is one
    pub turn_is : turn_of R S records n.place own ≡ Some turn
    turn_is =
        ap (λ x. option_and_then (λ (b : Block). option_map
        (λ (q : Stepped). record { place = n.place; thread = own; block = b; stepped = q })
        (tried R S d.port b.input)) x) next_is
        ∙ ap (option_map (λ (q : Stepped).
        record { place = n.place; thread = own; block = block; stepped = q })) was

    -- it shows what the block says
    pub turn_agrees : agreed records turn ≡ true
    turn_agrees =
        ap (λ xs. agrees (is_cut records own) (joined (map (shown_text d.port) xs)) block.shown)
        shows
        ∙ said_same (is_cut records own) block.shown

    -- the threads afterwards
    abbrev pub then_threads : List Thread
    then_threads = threads_after turn threads

    -- the node's thread
    own_then : slice_get then_threads n.place ≡ Some (advanced own)
    own_then = get_set_same threads n.place own (advanced own) n.there

    -- what is left of the node's record then
    own_left : NodeLeft then_threads k e
    own_left = record {
      place = n.place;
      at = n.at + 1;
      there = own_then
          ∙ ap (λ p. Some (record { port = p; index = k; at = n.at + 1 })) (sym same_port);
      before = n.before ++ block ∷ [];
      line = n.line + lines_in (block_text d.port block);
      whole = n.whole;
      is = now_is
          ∙ ap (λ bs. Some (recorded d.port bs n.whole))
          (sym (append_assoc n.before (block ∷ []) rest))
          ∙ ap (λ p. Some (recorded p ((n.before ++ block ∷ []) ++ rest) n.whole)) (sym same_port);
      count = let more = length-append n.before (block ∷ []) in
          let c = n.count in omega (arith, more, c);
    }

    -- what is left of another's
    other_left : (j : ℕ) (x : Doing Seen) → j ≢ k → slice_get nodes j ≡ Some x →
        NodeLeft then_threads j x
    other_left j x other found =
        let m = left.nodes_left j x found in
        record {
          place = m.place;
          at = m.at;
          there = get_set_other threads n.place m.place (advanced own) (λ same.
              other (ap (λ (t : Thread). t.index) (one_there _ own
              (sym m.there ∙ ap (slice_get threads) same ∙ n.there)))) ∙ m.there;
          before = m.before;
          line = m.line;
          whole = m.whole;
          is = m.is;
          count = m.count;
        }

    -- what is left of all then
    pub left_then : Left then_threads (slice_set nodes k e)
    left_then = record {
      nodes_left = λ j x found. elim (looked nodes k j e x d at found) [
        | inl same ↦
            subst (λ i. NodeLeft then_threads i x) (sym same.0)
            (subst (NodeLeft then_threads k) (sym same.1) own_left)
        | inr other ↦ other_left j x other.0 other.1
      ];
      each = λ p t there. elim (looked threads n.place p (advanced own) t own n.there there) [
        | inl same ↦ (
          k,
          e,
          get_set_same nodes k d e at,
          ap (λ (u : Thread). u.port) same.1 ∙ sym same_port,
        )
        | inr other ↦
            let r = left.each p t other.1 in
            elim (cases_eq r.0 k) [
              | inl same ↦ (
                k,
                e,
                get_set_same nodes k d e at,
                r.3 ∙ ap (λ (x : Doing Seen). x.port) (one_there r.1 d
                    (sym r.2 ∙ ap (slice_get nodes) same ∙ at)) ∙ sym same_port,
              )
              | inr apart ↦ (r.0, r.1, get_set_other nodes k r.0 e apart ∙ r.2, r.3)
            ]
      ];
      apart = still_apart R records S threads left.apart turn n.place n.there refl
          (record { next = next_is; was = was });
    }
