-- Parts of declarations that functions of their own read.
use Rattle.std.specs.Prelude.{Bool, false, [], ◌∷◌, Option, Some, None}
use Rattle.icn_tree.specs.declared.token.Kind.{Kind}
use Rattle.icn_tree.specs.declared.tree.DeclItem.{DeclItem}
use Rattle.icn_tree.specs.declared.tree.LocalKind.{LocalKind}
use Rattle.icn_tree.specs.Trees.{LocalDecl}
use Rattle.icn_tree.specs.Phrases.{place_of}
use Rattle.icn_expr.specs.Automata.{behind}
use Rattle.icn_parse.specs.FileReading.{◌>>=◌, Reads, is_comma, is_semicolon, item_of, name_of, sign_read, some_read}

-- a comma stands next
abbrev pub is_comma_next : Option Kind → Bool
is_comma_next None = false
is_comma_next (Some kind) = is_comma kind

-- the item that stands next
abbrev pub item_read : Reads DeclItem
item_read [] = None
item_read (token ∷ tokens) = item_of token >>= λ item. Some (item, tokens)

-- the names behind one word of names
abbrev pub locals_one : LocalKind → Reads LocalDecl
locals_one kind tokens = some_read name_of (behind tokens) >>= λ names. sign_read is_semicolon names.1
    >>= λ rest. Some (record { place = place_of tokens; kind = kind; names = names.0 }, rest)
