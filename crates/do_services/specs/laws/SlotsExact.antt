-- The slots of a core are read as that core, and only slots of a core are read.
use Rattle.std.proofs.Common.{◌≡◌, ℕ, pos, true, ◌&&◌, nat_lt, List as Listed, [], ◌∷◌, Option}
use Rattle.std.proofs.Common.{Some, None, map, refl, sym, ◌∙◌, ap, IsTrue}
use Rattle.std.specs.{Prelude.if◌then◌else◌, List.{All, list_all}, Option.IfSome, Str.bytes_eq}
use Rattle.std.proofs.lemmas.{Bool.{and_parts, and_from}, List.Elements.{All-map, All-weaker}}
use Rattle.std.proofs.lemmas.{List.Sums.AllPass-from_list_all, Slice.Eq.bytes_eq-Decides}
use Rattle.do_base.specs.{values.Kinds.{text, items}, declared.values.value.Value.{Value, List}}
use Rattle.do_base.specs.declared.values.value.Value.TheVariants.{Num, Text}
use Rattle.do_grammar.specs.Words.{◌>>?◌}
use Rattle.do_native_acts.specs.{Ports.port_in, Rows.{rows_in, listed}}
use Rattle.do_native_acts.specs.laws.KindLaws.{some_same, found_of, text_of_Text, text_read}
use Rattle.do_native_acts.specs.laws.KindLaws.{items_of_List, items_read, passed, then_is}
use Rattle.do_native_acts.specs.laws.{PortLaws.{port_of_Num, port_read}, RowLaws.read_shown}
use Rattle.do_native_acts.specs.{laws.RowLaws.{rows_hold, shown_read}, Types.{are_types, types_in}}
use Rattle.do_native_acts.specs.laws.TypeLaws.{types_back, types_shown}
use Rattle.do_table.specs.laws.TableLaws.{same_name, table_parts}
use Rattle.do_services.specs.Core.{Entry, are_services, from_slots, is_entry, is_message}
use Rattle.do_services.specs.Core.{is_service, keyed, message_in, of_core, row, service_in}
use Rattle.do_services.specs.Core.{service_of, texts_value, to_slots}
use Rattle.do_services.specs.declared.service.Service.{Service}

-- what can be a service, in parts
pub record IsService (s : Service) : Type 0 where
  pub message : is_message s.message ≡ true
  pub port : (nat_lt 0 s.port && nat_lt s.port 65536) ≡ true
  pub send : are_types s.send ≡ true
  pub returned : are_types s.returned ≡ true

-- the parts of a service
pub service_is : (s : Service) → is_service s ≡ true → IsService s
service_is s is =
    let port = nat_lt 0 s.port && nat_lt s.port 65536 in
    let types = are_types s.send && are_types s.returned in
    let first = and_parts (is_message s.message) (port && types) is in
    let second = and_parts port types first.1 in
    let third = and_parts (are_types s.send) (are_types s.returned) second.1 in
    record { message = first.0; port = second.0; send = third.0; returned = third.1 }

-- and what has these parts is one
pub is_service_of : (s : Service) → IsService s → is_service s ≡ true
is_service_of s is =
    let port = nat_lt 0 s.port && nat_lt s.port 65536 in
    let types = are_types s.send && are_types s.returned in
    and_from (is_message s.message) (port && types) is.message
    (and_from port types is.port
    (and_from (are_types s.send) (are_types s.returned) is.send is.returned))

-- a message is read as it was shown
message_shown : (m : Listed ℕ) → is_message m ≡ true → message_in (Text m) ≡ Some m
message_shown m is = then_is _ (text_of_Text m) ∙ ap (λ b. if b then Some m else None) is

-- and shown as it was read
message_back : (v : Value) (m : Listed ℕ) → message_in v ≡ Some m
    → (Text m ≡ v) × (is_message m ≡ true)
message_back v m is =
    let found = found_of (text v) _ m is in
    let known = passed found.0 m is_message (is_message found.0) refl found.2 in
    (ap (λ (s : Listed ℕ). Text s) (sym known.0) ∙ text_read v found.0 found.1, known.1)

-- a service is read as it was shown
pub service_shown : (s : Service) → is_service s ≡ true → service_in (row s) ≡ Some s
service_shown s is =
    let parts = service_is s is in
    then_is _ (items_of_List _) ∙ then_is _ (text_of_Text s.item)
    ∙ then_is _ (message_shown s.message parts.message) ∙ then_is _ (port_of_Num s.port parts.port)
    ∙ then_is _ (types_shown s.send parts.send) ∙ then_is _ (types_shown s.returned parts.returned)

-- six items that are the same are the same items
same_items : {a b c d e f u v w x y z : Value} → a ≡ u → b ≡ v → c ≡ w → d ≡ x → e ≡ y → f ≡ z
    → a ∷ b ∷ c ∷ d ∷ e ∷ f ∷ [] ≡ u ∷ v ∷ w ∷ x ∷ y ∷ z ∷ []
same_items p q r s t u = cc

-- a service is shown as the items that it was read from
row_items : (vs : Listed Value) (s : Service) → service_of vs ≡ Some s
    → (Text s.item ∷ Text s.message ∷ Num (pos s.port) ∷ texts_value s.send
    ∷ texts_value s.returned ∷ s.user ∷ [] ≡ vs) × (is_service s ≡ true)
row_items [] s is = cc
row_items (a ∷ []) s is = cc
row_items (a ∷ b ∷ []) s is = cc
row_items (a ∷ b ∷ c ∷ []) s is = cc
row_items (a ∷ b ∷ c ∷ d ∷ []) s is = cc
row_items (a ∷ b ∷ c ∷ d ∷ e ∷ []) s is = cc
row_items (a ∷ b ∷ c ∷ d ∷ e ∷ f ∷ []) s is =
    let i = found_of (text a) _ s is in
    let m = found_of (message_in b) _ s i.2 in
    let p = found_of (port_in c) _ s m.2 in
    let t = found_of (types_in d) _ s p.2 in
    let r = found_of (types_in e) _ s t.2 in
    let same : record {
      item = i.0;
      message = m.0;
      port = p.0;
      send = t.0;
      returned = r.0;
      user = f;
    } ≡ s = some_same r.2 in
    let message = message_back b m.0 m.1 in
    let port = port_read c p.0 p.1 in
    let send = types_back d t.0 t.1 in
    let returned = types_back e r.0 r.1 in (
      ap (λ (x : Service). Text x.item ∷ Text x.message ∷ Num (pos x.port) ∷ texts_value x.send
          ∷ texts_value x.returned ∷ x.user ∷ []) (sym same)
          ∙ same_items (text_read a i.0 i.1) message.0 port.0 send.0 returned.0 refl,
      ap is_service (sym same) ∙ is_service_of (record {
        item = i.0;
        message = m.0;
        port = p.0;
        send = t.0;
        returned = r.0;
        user = f;
      }) (record {
        message = message.1;
        port = port.1;
        send = send.1;
        returned = returned.1;
      }),
    )
row_items (a ∷ b ∷ c ∷ d ∷ e ∷ f ∷ g ∷ vs) s is = cc

-- a service is shown as it was read
pub service_back : (v : Value) (s : Service) → service_in v ≡ Some s → row s ≡ v
service_back v s is =
    let found = found_of (items v) service_of s is in
    ap List (row_items found.0 s found.2).0 ∙ items_read v found.0 found.1

-- what is read is a service
pub service_good : (v : Value) (s : Service) → service_in v ≡ Some s → is_service s ≡ true
service_good v s is =
    let found = found_of (items v) service_of s is in (row_items found.0 s found.2).1

-- services that stand under their items are those of the rows
entries_keyed : (es : Listed Entry) → list_all is_entry es ≡ true
    → map keyed (map (λ (e : Entry). e.1) es) ≡ es
entries_keyed [] all = refl
entries_keyed (e ∷ es) all =
    let first = and_parts (is_entry e) (list_all is_entry es) all in
    let parts = and_parts (bytes_eq e.0 e.1.item) (is_service e.1) first.0 in
    ap (λ x. x ∷ map keyed (map (λ (y : Entry). y.1) es))
    (ap (λ n. (n, e.1)) (sym (same_name e.0 e.1.item parts.0)))
    ∙ ap (λ xs. e ∷ xs) (entries_keyed es first.1)

-- the rows of entries are those of their services
rows_of : (es : Listed Entry)
    → map (λ (e : Entry). row e.1) es ≡ map row (map (λ (e : Entry). e.1) es)
rows_of [] = refl
rows_of (e ∷ es) = ap (λ xs. row e.1 ∷ xs) (rows_of es)

-- each service of entries is read as it was shown
services_read : (es : Listed Entry) → list_all is_entry es ≡ true
    → All (λ s. service_in (row s) ≡ Some s) (map (λ (e : Entry). e.1) es)
services_read es all =
    let read = λ (s : Service). service_in (row s) ≡ Some s in
    All-map read (λ (e : Entry). e.1) es
    (All-weaker (λ (e : Entry). is_entry e ≡ true) (λ (e : Entry). read e.1)
    (λ e is. service_shown e.1 ((and_parts (bytes_eq e.0 e.1.item) (is_service e.1) is).1)) es
    (AllPass-from_list_all is_entry es all))

-- the entries of a core stand under their items
pub entries_of : (es : Listed Entry) → are_services es ≡ true → list_all is_entry es ≡ true
entries_of es is =
    (table_parts 256 is_entry es is).1

-- the slots of a core are read as that core
pub from_to : (es : Listed Entry) → IsTrue (are_services es) → from_slots (to_slots es) ≡ Some es
from_to es is =
    let all = entries_of es is in
    let ss = map (λ (e : Entry). e.1) es in
    ap (λ vs. rows_in service_in (listed vs) >>? λ xs. of_core (map keyed xs)) (rows_of es)
    ∙ then_is _ (read_shown service_in row ss (services_read es all))
    ∙ ap of_core (entries_keyed es all) ∙ ap (λ b. if b then Some es else None) is

-- the services of services with their items are they
services_of : (ss : Listed Service) → map (λ (e : Entry). row e.1) (map keyed ss) ≡ map row ss
services_of [] = refl
services_of (s ∷ ss) = ap (λ vs. row s ∷ vs) (services_of ss)

-- only slots of a core are read
pub to_from : (slots : Listed Value) (es : Listed Entry) → from_slots slots ≡ Some es
    → (to_slots es ≡ slots) × IsTrue (are_services es)
to_from [] es is = cc
to_from (slot ∷ []) es is =
    let ss = found_of (rows_in service_in slot) _ es is in
    let entries = map keyed ss.0 in
    let known = passed entries es are_services (are_services entries) refl ss.2 in (
      ap to_slots (sym known.0) ∙ ap (λ vs. listed vs ∷ []) (services_of ss.0)
          ∙ ap (λ v. v ∷ []) (shown_read service_in row service_back slot ss.0 ss.1),
      known.1,
    )
to_from (v ∷ w ∷ vs) es is = cc

-- so slots that are read are shown again as they were
pub read_back : (slots : Listed Value) (es : Listed Entry) → from_slots slots ≡ Some es
    → to_slots es ≡ slots
read_back slots es is = (to_from slots es is).0

-- whatever is read is shown again
pub exact_read : (slots : Listed Value) (o : Option (Listed Entry)) → o ≡ from_slots slots
    → IfSome o (λ es. to_slots es ≡ slots)
exact_read slots None is = tt
exact_read slots (Some es) is = read_back slots es (sym is)

-- a service stands under its own item
pub own_entry : (s : Service) → is_service s ≡ true → is_entry (keyed s) ≡ true
own_entry s good =
    and_from (bytes_eq s.item s.item) (is_service s) ((bytes_eq-Decides s.item s.item).1 refl) good

-- and so does each of them
own_entries : (ss : Listed Service) → list_all is_service ss ≡ true
    → list_all is_entry (map keyed ss) ≡ true
own_entries [] all = refl
own_entries (s ∷ ss) all =
    let parts = and_parts (is_service s) (list_all is_service ss) all in
    and_from (is_entry (keyed s)) (list_all is_entry (map keyed ss)) (own_entry s parts.0)
    (own_entries ss parts.1)

-- what is read of a slot stands under its items
pub rows_good : (slot : Value) (ss : Listed Service) → rows_in service_in slot ≡ Some ss
    → list_all is_entry (map keyed ss) ≡ true
rows_good slot ss is = own_entries ss (rows_hold service_in is_service service_good slot ss is)
