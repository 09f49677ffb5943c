-- Notifications and deliveries: what they may be, and as values.
use Rattle.std.specs.Prelude.{ℕ, zero, suc, Bool, true, false, ◌&&◌, nat_le, Option, Some, None}
use Rattle.std.specs.{Prelude.{List as Listed, [], ◌∷◌, length, if◌then◌else◌}, List.list_all}
use Rattle.do_base.specs.values.Kinds.{text}
use Rattle.do_base.specs.declared.values.value.Value.{Value, List, out-Value, fold-Value}
use Rattle.do_base.specs.declared.values.value.Value.{TheOpen.Value-F, TheVariants.{Nil, Text, Obj}}
use Rattle.do_grammar.specs.Words.{◌>>?◌}
use Rattle.do_center.specs.declared.notes.{Note.Note, Delivery.Delivery}

-- a text of at most 255 bytes
abbrev pub is_short : Listed ℕ → Bool
is_short s = nat_le (length s) 255

-- no text, or one of at most 255 bytes
abbrev pub is_label : Option (Listed ℕ) → Bool
is_label None = true
is_label (Some s) = is_short s

-- the label that a level of a value is
abbrev label_level : Value-F Value → Option (Option (Listed ℕ))
label_level Value-F.Nil = Some None
label_level (Value-F.Text s) = if is_short s then Some (Some s) else None
label_level _ = None

-- the label that a value is
abbrev pub label_in : Value → Option (Option (Listed ℕ))
label_in v = label_level (out-Value v)

-- a label as a value
abbrev pub label_value : Option (Listed ℕ) → Value
label_value None = Nil
label_value (Some s) = Text s

abbrev info_step : Value-F (ℕ → Bool) → ℕ → Bool
info_step (Value-F.Obj o) depth = false
info_step (Value-F.List items) zero = false
info_step (Value-F.List items) (suc depth) = list_all (λ within. within depth) items
info_step _ depth = true

-- no object is named, and no more than so many lists stand inside one another
abbrev pub info_within : Value → ℕ → Bool
info_within = fold-Value (ℕ → Bool) info_step

-- a notification within the limits
abbrev pub is_note : Note → Bool
is_note n = is_short n.name && is_label n.object && info_within n.info 4

-- the name of a notification that a value is
abbrev pub posted_name : Value → Option (Listed ℕ)
posted_name v = text v >>? λ s. if is_short s then Some s else None

-- user information, where it is within the limits
abbrev pub info_in : Value → Option Value
info_in v = if info_within v 4 then Some v else None

-- the notification that three values are
abbrev pub note_in : Value → Value → Value → Option Note
note_in name object info =
    posted_name name >>? λ s. label_in object >>? λ o. info_in info >>? λ i.
    Some (record { name = s; object = o; info = i })

-- a delivery as a value
abbrev pub delivery_value : Delivery → Value
delivery_value d =
    List (Obj d.observer ∷ Text d.selector ∷ Text d.note.name ∷ label_value d.note.object
    ∷ d.note.info ∷ [])
