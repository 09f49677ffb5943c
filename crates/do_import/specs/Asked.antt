-- The asks of a node that are not answered yet.
use Rattle.std.specs.FinMap as map
use Rattle.std.specs.Prelude.{◌≡◌, ◌<◌, ℕ, None, IsSome, ◌==◌, ◌&&◌, count_by, refl}
use Rattle.std.specs.{Coded.{Coded, code_by, coded×, coded_ℕ}, Ordering.{on, then_cmp}}
use Rattle.std.specs.declared.cmp.Ordering.{Ordering, TheVariants.Less}
use Rattle.do_base.specs.names.Names.{ObjectName, TokenName}
use Rattle.do_class.specs.declared.ids.ClassId.{ClassId}
use Rattle.do_export.specs.Counts.{Counts, IsPositive, count_of, entry_cmp}

-- an ask's home, lender, token number and serial
abbrev pub AskKey : Type 0
AskKey = (ℕ × ℕ) × (ℕ × ℕ)

-- the key of the ask for an object by a token
abbrev pub ask_key : ObjectName → TokenName → AskKey
ask_key o t = ((o.node, t.lender), (t.number, o.serial))

-- asks are in the order of homes, lenders, token numbers and serials
abbrev pub ask_cmp : AskKey → AskKey → Ordering
ask_cmp = then_cmp (on (λ k. k.0) entry_cmp) (on (λ k. k.1) entry_cmp)

-- the class of each ask's object
abbrev pub AskMap : Type 0
AskMap = map.FinMap ask_cmp ClassId

-- the asks, and how many more fit with no memory taken
pub record Asked : Type 0 where
  pub asks : AskMap
  pub spare : ℕ

-- how a class is coded, by its place in the table
abbrev pub class_code : Coded ClassId
class_code = code_by ℕ coded_ℕ (λ c. c.0) (λ n. record { 0 = n }) (λ _. refl)

-- how the asks are coded, with their room
abbrev pub asked_code : Coded Asked
asked_code = code_by (AskMap × ℕ)
    (coded× (map.code (coded× (coded× coded_ℕ coded_ℕ) (coded× coded_ℕ coded_ℕ)) class_code)
    coded_ℕ) (λ a. (a.asks, a.spare)) (λ p. record { asks = p.0; spare = p.1 }) (λ _. refl)

-- no ask has this home; a lender is a node, whose port is above 0
abbrev pub HasNoAsk : AskMap → ℕ → Type 0
HasNoAsk asks home =
    (lender number serial : ℕ) → 0 < lender
    → map.get asks ((home, lender), (number, serial)) ≡ None

-- the first ask of its home
pub record IsLowestAsk (asks : AskMap) (o : ObjectName) (t : TokenName) : Type 0 where
  pub there : IsSome (map.get asks (ask_key o t))
  pub none_below : (lender number serial : ℕ) → 0 < lender
      → ask_cmp ((o.node, lender), (number, serial)) (ask_key o t) ≡ Less
      → map.get asks ((o.node, lender), (number, serial)) ≡ None

-- how many asks are of an object, by its home and serial
abbrev pub asks_of : AskMap → ℕ × ℕ → ℕ
asks_of asks q = count_by (λ k. (q.0 == k.0.0) && (q.1 == k.1.1)) (map.keys asks)

-- these are the counts of something by object, and none is 0
pub record AreCounts (counts : Counts) (many : ℕ × ℕ → ℕ) : Type 0 where
  pub counted : (q : ℕ × ℕ) → count_of counts q.0 q.1 ≡ many q
  pub positive : IsPositive counts

-- these are the counts of the asks by object
abbrev pub CountsAsks : Counts → AskMap → Type 0
CountsAsks asked asks = AreCounts asked (asks_of asks)
