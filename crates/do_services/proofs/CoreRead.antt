-- Services that are read one by one, and tested, are a core's.
use Rattle.std.proofs.Common.{◌≡◌, Bool, true, false, ◌&&◌, nat_le, List as Listed, length, map}
use Rattle.std.proofs.Common.{Option, Some, None, refl, sym}
use Rattle.std.specs.{Prelude.if◌then◌else◌, List.list_all}
use Rattle.do_grammar.specs.Words.{◌>>?◌}
use Rattle.do_table.specs.Entries.{are_distinct, once}
use Rattle.do_services.specs.Core.{Entry, few_services, is_entry, keyed, of_core}
use Rattle.do_services.specs.declared.service.Service.{Service}

-- a last test that passes leaves the first
last_passes : (es : Listed Entry) (few : Bool)
    → (if few && true then Some es else None) ≡ (if few then Some es else None)
last_passes es true = refl
last_passes es false = refl

-- and one that fails leaves nothing
last_fails : (es : Listed Entry) (few : Bool) → None ≡ (if few && false then Some es else None)
last_fails es true = refl
last_fails es false = refl

-- what each test says of entries that stand under their items
tests_agree : (es : Listed Entry) (all distinct : Bool) → all ≡ true
    → (if nat_le (length es) 256 && (all && distinct) then Some es else None)
    ≡ ((if distinct then Some es else None) >>? few_services)
tests_agree es true true is = last_passes es (nat_le (length es) 256)
tests_agree es true false is = sym (last_fails es (nat_le (length es) 256))
tests_agree es false distinct is = cc

-- entries that are tested in turn are tested as a core's
pub core_read : (o : Option (Listed Service))
    → ((ss : Listed Service) → o ≡ Some ss → list_all is_entry (map keyed ss) ≡ true)
    → (o >>? λ ss. of_core (map keyed ss))
    ≡ (o >>? (λ ss. once (map keyed ss)) >>? few_services)
core_read None good = refl
core_read (Some ss) good =
    let es = map keyed ss in
    tests_agree es (list_all is_entry es) (are_distinct es) (good ss refl)
