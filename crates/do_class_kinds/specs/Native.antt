-- The slots and the methods that classes of each kind have by themselves.
use Rattle.std.specs.{Prelude.{ℕ, false, List, [], ◌∷◌, map, codes}, List.filter_map}
use Rattle.do_class.specs.declared.{ids.Slot.Slot, method.Method.Method}
use Rattle.do_class_kinds.specs.{Methods.method_said, declared.kind.Kind.Kind}
use Rattle.do_class_kinds.specs.declared.kind.Kind.TheVariants.{Script, Names, Pasteboard, Services}
use Rattle.do_class_kinds.specs.declared.kind.Kind.TheVariants.{Center, Checker}

-- the names of a kind's slots
abbrev pub slot_names : Kind → List (List ℕ)
slot_names Script = []
slot_names Names = codes "names" ∷ []
slot_names Pasteboard =
    codes "count" ∷ codes "owner" ∷ codes "types" ∷ codes "data" ∷ codes "boards" ∷ []
slot_names Services = codes "services" ∷ []
slot_names Center = codes "regs" ∷ codes "suspended" ∷ codes "queues" ∷ []
slot_names Checker = codes "target" ∷ []

-- the slots of a kind, of which none is copied
abbrev pub native_slots : Kind → List Slot
native_slots kind = map (λ name. record { name = name; copy = false }) (slot_names kind)

-- the selector and the types of each method of a kind
abbrev pub spellings : Kind → List (List ℕ × List ℕ)
spellings Script = []
spellings Names =
    (codes "register:port:", codes "B@:*S")
    ∷ (codes "lookup:", codes "S@:*")
    ∷ (codes "unregister:", codes "B@:*")
    ∷ []
spellings Pasteboard =
    (codes "declareTypes:owner:", codes "q@:@@")
    ∷ (codes "addTypes:owner:", codes "q@:@@")
    ∷ (codes "setData:forType:count:", codes "B@:@*q")
    ∷ (codes "dataForType:", codes "@@:*")
    ∷ (codes "types", codes "@@:")
    ∷ (codes "changeCount", codes "q@:")
    ∷ (codes "availableTypeFromArray:", codes "@@:@")
    ∷ (codes "pasteboardNamed:", codes "@@:*")
    ∷ []
spellings Services =
    (codes "addService:", codes "B@:@")
    ∷ (codes "removeService:", codes "B@:*")
    ∷ (codes "services", codes "@@:")
    ∷ (codes "serviceNamed:", codes "@@:*")
    ∷ (codes "performService:pasteboard:error:", codes "B@:*@o^@")
    ∷ []
spellings Center =
    (codes "addObserver:selector:name:object:suspensionBehavior:", codes "v@:@*@@q")
    ∷ (codes "removeObserver:name:object:", codes "v@:@@@")
    ∷ (codes "setSuspended:for:", codes "v@:B@")
    ∷ (codes "postNotificationName:object:userInfo:deliverImmediately:", codes "v@:*@@B")
    ∷ []
spellings Checker = (codes "guard:", codes "v@:@") ∷ []

-- the methods of a kind
unfoldable pub native_methods : Kind → List Method
native_methods kind = filter_map (λ m. method_said m.0 m.1) (spellings kind)
