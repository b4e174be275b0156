-- A file of few tokens has room for the numbers that the code of its procedures takes.
use Rattle.std.proofs.Common.{◌≤◌, ◌<◌, ℕ, suc, ◌+◌, Bool, true, false, List, [], ◌∷◌, length, arith}
use Rattle.std.proofs.Math.Bool.{Bool-set}
use Rattle.std.proofs.Math.Logic.{∥∥₁_elim}
use Rattle.icn_tree.specs.declared.tree.Name.{Name}
use Rattle.icn_tree.specs.declared.tree.DeclItem.{DeclItem}
use Rattle.icn_tree.specs.declared.tree.DeclItem.TheVariants as Items
use Rattle.icn_tree.specs.Phrases.{Phrase}
use Rattle.icn_tree.specs.Grammar.{identifier}
use Rattle.icn_tree.specs.Declarations.{MoreWithCommas, WithCommas, SpellsMaybeNames, SpellsItem, SpellsParameters, SpellsLocals, SpellsInitial, SpellsBody, SpellsDeclaration, SpellsFile}
use Rattle.icn_tree.specs.Trees.{Initial, NoInitial, Initially, Trees, NoTrees, More, LocalDecl, Declaration, Global, Link, Invocable, Record, ProcedureOf}
use Rattle.icn_translate.specs.NumbersTaken.{all_numbers, initial_numbers, local_numbers, procedure_numbers, HaveRoom}
use Rattle.icn_decls.specs.CheckedTexts.{IsSpelled}
use Rattle.icn_units.proofs.WrittenFiles.{of_outcome}
use Rattle.icn_units.proofs.WrittenTrees.{nat_le_of_le, le_of_nat_le}
use Rattle.icn_units.proofs.RoomOfTrees.{Room, room_less, room_nothing, room_sign_at, room_sign, room_then, room_part, tree_room, weight_by}

commas_room : {A : Type 0} (spells : A → Phrase) → ((x : A) → Room 16 (spells x)) → (xs : List A)
    → Room (length xs) (MoreWithCommas spells xs)
commas_room spells h [] = room_nothing
commas_room spells h (x ∷ xs) =
    room_less (room_then (room_sign _) (room_then (h x) (commas_room spells h xs))) (omega arith)

all_room : {A : Type 0} (spells : A → Phrase) → ((x : A) → Room 16 (spells x)) → (xs : List A)
    → Room (length xs) (WithCommas spells xs)
all_room spells h [] = record { holds = λ here after s. absurd s }
all_room spells h (x ∷ xs) = room_less (room_then (h x) (commas_room spells h xs)) (omega arith)

name_room : (name : Name) → Room 16 (identifier name)
name_room name = room_sign_at name.place _

maybe_names_room : (names : List Name) → Room (length names) (SpellsMaybeNames names)
maybe_names_room [] = room_nothing
maybe_names_room (name ∷ names) = all_room identifier name_room (name ∷ names)

item_room : (item : DeclItem) → Room 16 (SpellsItem item)
item_room (Items.Identifier name) = name_room name
item_room (Items.Text name) = room_sign_at name.place _

parameters_room : (names : List Name) (b : Bool) → Room (length names) (SpellsParameters names b)
parameters_room names false = maybe_names_room names
parameters_room names true =
    room_less (room_then (all_room identifier name_room names) (room_then (room_sign _) (room_sign _))) (omega arith)

locals_room : (locals : List LocalDecl) → Room (local_numbers locals) (SpellsLocals locals)
locals_room [] = room_nothing
locals_room (l ∷ others) = room_less
    (room_then (room_sign_at l.place _) (room_then (all_room identifier name_room l.names)
    (room_then (room_sign _) (locals_room others)))) (omega arith)

initial_room : (initial : Initial) → Room (initial_numbers initial) (SpellsInitial initial)
initial_room NoInitial = room_nothing
initial_room (Initially place value) = room_less
    (room_then (room_sign_at place _) (room_then (room_part 1 (tree_room value)) (room_sign _))) (omega arith)

body_room : (body : Trees) → Room (all_numbers body) (SpellsBody body)
body_room NoTrees = room_nothing
body_room (More e es) =
    room_less (room_then (room_part 0 (tree_room e)) (room_then (room_sign _) (body_room es))) (omega arith)

-- what a declaration takes, and a file
abbrev declaration_numbers : Declaration → ℕ
declaration_numbers (Global place names) = 0
declaration_numbers (Link place items) = 0
declaration_numbers (Invocable place items) = 0
declaration_numbers (Record place name fields) = 0
declaration_numbers (ProcedureOf p) = procedure_numbers p

abbrev file_numbers : List Declaration → ℕ
file_numbers [] = 0
file_numbers (declaration ∷ others) = declaration_numbers declaration + file_numbers others

declaration_room : (declaration : Declaration) → Room (declaration_numbers declaration) (SpellsDeclaration declaration)
declaration_room (Global place names) =
    room_less (room_then (room_sign_at place _) (all_room identifier name_room names)) (omega arith)
declaration_room (Link place items) =
    room_less (room_then (room_sign_at place _) (all_room SpellsItem item_room items)) (omega arith)
declaration_room (Invocable place items) =
    room_less (room_then (room_sign_at place _) (all_room SpellsItem item_room items)) (omega arith)
declaration_room (Record place name fields) = room_less
    (room_then (room_sign_at place _) (room_then (name_room name)
    (room_then (room_sign _) (room_then (maybe_names_room fields) (room_sign _))))) (omega arith)
declaration_room (ProcedureOf p) = room_less
    (room_then (room_sign_at p.place _) (room_then (name_room p.name)
    (room_then (room_sign _) (room_then (parameters_room p.parameters p.is_variadic)
    (room_then (room_sign _) (room_then (room_sign _)
    (room_then (locals_room p.locals) (room_then (initial_room p.initial)
    (room_then (body_room p.body) (room_sign _)))))))))) (omega arith)

file_room : (file : List Declaration) → Room (file_numbers file) (SpellsFile file)
file_room [] = room_nothing
file_room (declaration ∷ others) = room_then (declaration_room declaration) (file_room others)

each_room : (file : List Declaration) → file_numbers file < 4294967296 → HaveRoom file
each_room [] h = tt
each_room (Global place names ∷ others) h = (tt, each_room others (omega (arith, h)))
each_room (Link place items ∷ others) h = (tt, each_room others (omega (arith, h)))
each_room (Invocable place items ∷ others) h = (tt, each_room others (omega (arith, h)))
each_room (Record place name fields ∷ others) h = (tt, each_room others (omega (arith, h)))
each_room (ProcedureOf p ∷ others) h = (omega (arith, h), each_room others (omega (arith, h)))

spelled_numbers : (file : List Declaration) → IsSpelled file → file_numbers file < 4294967296
spelled_numbers file h = omega
    (arith, h.scanned.few, weight_by h.tokens, (file_room file).holds h.tokens [] (of_outcome h.tokens file h.tree))

-- a bound that something gives of which it is only known that there is one: a bound is a test
le_known : (a b : ℕ) {X : Type 0} → ∥ X ∥₁ → (X → a ≤ b) → a ≤ b
le_known a b h f = le_of_nat_le a b (∥∥₁_elim h (Bool-set _ _) (λ x. nat_le_of_le a b (f x)))

-- The numbers of the code of a file that is spelled so have 32 bits.
pub spelled_room : (file : List Declaration) → IsSpelled file → HaveRoom file
spelled_room file spelled = each_room file (spelled_numbers file spelled)

-- The same where it is only known that there is a spelling.
pub checked_room : (file : List Declaration) → ∥ IsSpelled file ∥₁ → HaveRoom file
checked_room file h = each_room file (le_known (suc (file_numbers file)) 4294967296 h (spelled_numbers file))
