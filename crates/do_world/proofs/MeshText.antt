-- The document that the text of the mesh world is, and that it says that world without a fault.
-- All of it is evaluation.
use Rattle.std.proofs.Common.{◌≡◌, ℕ, List, refl}
use Rattle.std.specs.{Prelude.{Some, None, pos, codes, ◌++◌, ⊤}, Str.{is_utf8, chars}}
use Rattle.toml.specs.Data.{Items, Members, array, integer, item, member, no_items, no_members}
use Rattle.toml.{specs.Data.{string, table}, proofs.OnLiterals.toml_on_literals}
use Rattle.do_grammar.specs.{Dec.dec_in, Names.{is_name, is_selector}, Quoted.quoted_at}
use Rattle.do_sig.specs.reading.Outermost.{encoding_at, outermost_at}
use Rattle.do_sig.specs.reading.{Signatures.{args_at, bare_at, signature_at}, Types.type_at}
use Rattle.do_document.specs.Checks.{list_fault, misfit, missing, required, unknown, first_among}
use Rattle.do_document.specs.ClassFaults.{class_checks, count_fault, entry_checks, method_checks}
use Rattle.do_document.specs.ClassFaults.{methods_fault, neither, parts_fault, signature_fault}
use Rattle.do_document.specs.ClassFaults.{slots_fault, types_fault, class_fault}
use Rattle.do_document.specs.Classes.{classes_in, kind_of, methods_in, rules_in, slots_in}
use Rattle.do_document.specs.Document.{members_at, tables_at, text_at, texts_at}
use Rattle.do_script.specs.{InstructionNames.form_of, Operands.instruction, Program.program}
use Rattle.do_script.specs.{Quoted.quoted_size, Words.{first_word, words}}
use Rattle.do_world.specs.Faults.{class_codes_fault, code_fault, seat_checks, tables_fault}
use Rattle.do_world.specs.Faults.{codes_fault, seat_fault, text_fault, top_fault}
use Rattle.do_class.specs.Table.{names_of}
use Rattle.do_world.specs.Mesh.{mesh_text, mesh_world}
use Rattle.do_world.specs.Reading.{IsWorldText, document, first_fault, world_in}
use Rattle.do_world.specs.Worlds.{class_codes, code_text, world_of}

-- a method with a code
abbrev pub coded_table : List ℕ → List ℕ → List ℕ → Members
coded_table selector types code = member (codes "code") (string code)
    (member (codes "selector") (string selector) (member (codes "types") (string types) no_members))

-- a method without one
abbrev pub bare_table : List ℕ → List ℕ → Members
bare_table selector types =
    member (codes "selector") (string selector) (member (codes "types") (string types) no_members)

-- the text of the code of `go:`
abbrev pub begin_text : List ℕ
begin_text = codes "root l1 l0\nnew l2 Item\nset a l2\nsend l3 l1 hold: l2\n"
    ++ codes "get l4 b\nsend l3 l1 pass: l4\nsend l3 l1 copy: l2\n"

-- the class of items
abbrev pub item_table : Members
item_table = member (codes "name") (string (codes "Item"))
    (member (codes "slots") (array (item (string (codes "link copy")) no_items)) no_members)

-- the methods of peers
abbrev pub peer_methods : Items
peer_methods = item (table (coded_table (codes "go:") (codes "v@:S") begin_text))
    (item (table (coded_table (codes "hold:") (codes "v@:@") (codes "set b l0")))
    (item (table (coded_table (codes "pass:") (codes "v@:@") (codes "set a l0")))
    (item (table (bare_table (codes "copy:") (codes "v@:O@"))) no_items)))

-- the class of peers
abbrev pub peer_table : Members
peer_table = member (codes "method") (array peer_methods)
    (member (codes "name") (string (codes "Peer"))
    (member (codes "slots")
    (array (item (string (codes "a")) (item (string (codes "b")) no_items))) no_members))

-- a node with a peer
abbrev pub node_table : ℕ → Members
node_table port = member (codes "port") (integer (pos port))
    (member (codes "root") (string (codes "Peer")) no_members)

-- the whole document
abbrev pub mesh_document : Members
mesh_document =
    member (codes "class") (array (item (table item_table) (item (table peer_table) no_items)))
    (member (codes "node")
    (array (item (table (node_table 7001)) (item (table (node_table 7002))
    (item (table (node_table 7003)) (item (table (node_table 7004)) no_items)))))
    (member (codes "version") (integer (pos 1)) no_members))

-- the text is this document
is_document : document mesh_text ≡ Some mesh_document
unfolding toml_on_literals document mesh_text is_utf8 chars
is_document = refl

-- what names and types are read with
unfoldable types_on_literals : ⊤
unfolding is_name is_selector outermost_at encoding_at args_at bare_at signature_at type_at
types_on_literals = tt

-- what codes are read with
unfoldable codes_on_literals : ⊤
unfolding dec_in quoted_at quoted_size form_of instruction program first_word words
codes_on_literals = tt

-- what lists and texts are read with
unfoldable lists_on_literals : ⊤
unfolding members_at tables_at text_at texts_at class_codes code_text
lists_on_literals = tt

-- what a document's parts are read with
unfoldable parts_on_literals : ⊤
unfolding types_on_literals lists_on_literals classes_in kind_of methods_in rules_in slots_in
parts_on_literals = tt

-- what is looked at in each part
unfoldable checks_on_literals : ⊤
unfolding list_fault misfit missing required unknown class_checks parts_fault slots_fault
checks_on_literals = tt

-- what is looked at in a class's methods
unfoldable methods_on_literals : ⊤
unfolding count_fault entry_checks method_checks methods_fault signature_fault types_fault neither
methods_on_literals = tt

-- its parts are those of the mesh
says_mesh : world_of mesh_document ≡ mesh_world
unfolding parts_on_literals codes_on_literals
says_mesh = refl

-- what stands at its top is good
top_good : top_fault mesh_document ≡ None
unfolding parts_on_literals checks_on_literals tables_fault top_fault
top_good = refl

-- and so are its classes
classes_good : first_among class_fault (tables_at (codes "class") mesh_document) ≡ None
unfolding parts_on_literals checks_on_literals methods_on_literals
classes_good = refl

-- and their codes
codes_good : first_among (codes_fault (names_of (classes_in mesh_document)))
    (tables_at (codes "class") mesh_document) ≡ None
unfolding parts_on_literals codes_on_literals misfit text_fault class_codes_fault code_fault
codes_good = refl

-- and its nodes
nodes_good : first_among (seat_fault (classes_in mesh_document))
    (tables_at (codes "node") mesh_document) ≡ None
unfolding parts_on_literals checks_on_literals seat_checks
nodes_good = refl

-- so the text is a world's, and says the mesh
pub mesh_is_text : IsWorldText mesh_text mesh_world
unfolding first_fault world_in
mesh_is_text = record {
  good = rw (is_document, top_good, classes_good, codes_good, nodes_good) refl;
  says = rw (is_document, says_mesh) refl;
}
