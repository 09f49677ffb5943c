-- A map by foreign objects.
use Rattle.std.specs.FinMap as map
use Rattle.std.specs.Prelude.{ℕ, Bool, not, ◌||◌, ◌==◌, if◌then◌else◌, refl}
use Rattle.std.specs.Coded.{Coded, code_by, coded×, coded_ℕ}
use Rattle.do_base.specs.names.Names.{ObjectName}
use Rattle.do_class.specs.declared.ids.ClassId.{ClassId}
use Rattle.do_export.specs.Counts.{Counts, entry_cmp, count_of, raised, lowered}

-- a value for each object, by home and serial, and how many more fit with no memory taken
pub record Rows (V : Type 0) : Type 0 where
  pub rows : map.FinMap entry_cmp V
  pub spare : ℕ

-- how such a map is coded, with its room
abbrev pub rows_code : {V : Type 0} → Coded V → Coded (Rows V)
rows_code {V} code = code_by (map.FinMap entry_cmp V × ℕ)
    (coded× (map.code (coded× coded_ℕ coded_ℕ) code) coded_ℕ) (λ r. (r.rows, r.spare))
    (λ p. record { rows = p.0; spare = p.1 }) (λ _. refl)

-- the object of a home and a serial
abbrev pub object_of : ℕ × ℕ → ObjectName
object_of k = record { node = k.0; serial = k.1 }

-- the counts with one more at an object
abbrev pub added : Counts → ObjectName → Counts
added counts o = raised counts o.node o.serial

-- the counts with one less at an object; where there is none, none is taken off
abbrev pub taken_off : Counts → ObjectName → Counts
taken_off counts o =
    if count_of counts o.node o.serial == 0 then counts else lowered counts o.node o.serial 1

-- the class of each object
abbrev pub ClassMap : Type 0
ClassMap = map.FinMap entry_cmp ClassId

-- the classes with that of an object, where they have none of it
abbrev pub first_kept : ClassMap → ObjectName → ClassId → ClassMap
first_kept classes o class = if map.contains_key classes (o.node, o.serial) then classes
    else map.insert classes (o.node, o.serial) class

-- the classes without that of an object, unless it stays
abbrev pub left_of : ClassMap → ObjectName → Bool → ClassMap
left_of classes o stays = if stays then classes else map.remove classes (o.node, o.serial)

-- the classes without those of a node's objects, but of those that are counted
abbrev pub home_ended : ClassMap → ℕ → Counts → ClassMap
home_ended classes home counts =
    map.retain_keys classes (λ k. not (k.0 == home) || map.contains_key counts k)
