-- Which tokens a declaration spells, and which a program text.
use Rattle.std.specs.Prelude.{Bool, true, false, List, [], ◌∷◌}
use Rattle.icn_tree.specs.declared.token.Kind.TheVariants.{Text as TextKind}
use Rattle.icn_tree.specs.declared.token.Token.{Token}
use Rattle.icn_tree.specs.declared.token.Word.{Word}
use Rattle.icn_tree.specs.declared.token.Word.TheVariants as Words
use Rattle.icn_tree.specs.declared.token.Punctuation.TheVariants.{OpenParenthesis, CloseParenthesis, OpenBracket, CloseBracket, Comma, Semicolon}
use Rattle.icn_tree.specs.declared.tree.Name.{Name}
use Rattle.icn_tree.specs.declared.tree.DeclItem.{DeclItem}
use Rattle.icn_tree.specs.declared.tree.DeclItem.TheVariants.{Identifier, Text}
use Rattle.icn_tree.specs.declared.tree.LocalKind.{LocalKind}
use Rattle.icn_tree.specs.declared.tree.LocalKind.TheVariants.{Local, Static}
use Rattle.icn_tree.specs.Trees.{Tree, Trees, NoTrees, More, LocalDecl, Initial, NoInitial, Initially, Declaration, Global, Link, Invocable, Record, ProcedureOf}
use Rattle.icn_tree.specs.Phrases.{Phrase, nothing, sign_at, ◌⨾◌}
use Rattle.icn_tree.specs.Grammar.{Part, Spells, identifier, mark, word, word_at}

-- , x , x
abbrev pub MoreWithCommas : {A : Type 0} → (A → Phrase) → List A → Phrase
MoreWithCommas spells [] = nothing
MoreWithCommas spells (x ∷ xs) = mark Comma ⨾ spells x ⨾ MoreWithCommas spells xs

-- x , x
abbrev pub WithCommas : {A : Type 0} → (A → Phrase) → List A → Phrase
WithCommas spells [] = λ here after. ⊥
WithCommas spells (x ∷ xs) = spells x ⨾ MoreWithCommas spells xs

-- ID , ID
abbrev pub SpellsNames : List Name → Phrase
SpellsNames names = WithCommas identifier names

-- none, or ID , ID
abbrev pub SpellsMaybeNames : List Name → Phrase
SpellsMaybeNames [] = nothing
SpellsMaybeNames (name ∷ names) = SpellsNames (name ∷ names)

-- ID, STRING
abbrev pub SpellsItem : DeclItem → Phrase
SpellsItem (Identifier name) = identifier name
SpellsItem (Text name) = sign_at name.place (TextKind name.text)

-- none, ID , ID or ID , ID [ ]
abbrev pub SpellsParameters : List Name → Bool → Phrase
SpellsParameters names false = SpellsMaybeNames names
SpellsParameters names true = SpellsNames names ⨾ mark OpenBracket ⨾ mark CloseBracket

-- the word that a declaration of locals begins with
abbrev pub local_word : LocalKind → Word
local_word Local = Words.Local
local_word Static = Words.Static

-- local ID , ID ; and so with static, any number of them
abbrev pub SpellsLocals : List LocalDecl → Phrase
SpellsLocals [] = nothing
SpellsLocals (locals ∷ others) = word_at locals.place (local_word locals.kind) ⨾ SpellsNames locals.names
    ⨾ mark Semicolon ⨾ SpellsLocals others

-- none, or initial e ;
abbrev pub SpellsInitial : Initial → Phrase
SpellsInitial NoInitial = nothing
SpellsInitial (Initially place value) =
    word_at place Words.Initial ⨾ Part 1 value (Spells value) ⨾ mark Semicolon

-- n ; n ;
abbrev pub SpellsBody : Trees → Phrase
SpellsBody NoTrees = nothing
SpellsBody (More tree trees) = Part 0 tree (Spells tree) ⨾ mark Semicolon ⨾ SpellsBody trees

-- the tokens of a declaration, by its production
abbrev pub SpellsDeclaration : Declaration → Phrase
-- global ID , ID
SpellsDeclaration (Global place names) = word_at place Words.Global ⨾ SpellsNames names
-- link item , item
SpellsDeclaration (Link place items) = word_at place Words.Link ⨾ WithCommas SpellsItem items
-- invocable item , item
SpellsDeclaration (Invocable place items) = word_at place Words.Invocable ⨾ WithCommas SpellsItem items
-- record ID ( ID , ID )
SpellsDeclaration (Record place name fields) = word_at place Words.Record ⨾ identifier name
    ⨾ mark OpenParenthesis ⨾ SpellsMaybeNames fields ⨾ mark CloseParenthesis
-- procedure ID ( parameters ) ; locals initial body end
SpellsDeclaration (ProcedureOf p) = word_at p.place Words.Procedure ⨾ identifier p.name ⨾ mark OpenParenthesis
    ⨾ SpellsParameters p.parameters p.is_variadic ⨾ mark CloseParenthesis ⨾ mark Semicolon
    ⨾ SpellsLocals p.locals ⨾ SpellsInitial p.initial ⨾ SpellsBody p.body ⨾ word Words.End

-- the tokens of a file: those of its declarations, one behind the other
abbrev pub SpellsFile : List Declaration → Phrase
SpellsFile [] = nothing
SpellsFile (declaration ∷ others) = SpellsDeclaration declaration ⨾ SpellsFile others

-- these declarations are the tree of these tokens
abbrev pub IsTreeOf : List Declaration → List Token → Type 0
IsTreeOf declarations tokens = SpellsFile declarations tokens []

-- this declaration alone is the tree of these tokens
abbrev pub IsDeclarationOf : Declaration → List Token → Type 0
IsDeclarationOf declaration tokens = SpellsDeclaration declaration tokens []

-- this expression, which may be empty, is the tree of these tokens
abbrev pub IsExpressionOf : Tree → List Token → Type 0
IsExpressionOf tree tokens = Part 0 tree (Spells tree) tokens []

-- these tokens have a tree
abbrev pub HasTree : List Token → Type 0
HasTree tokens = (declarations : List Declaration) × IsTreeOf declarations tokens

-- these tokens spell one declaration
abbrev pub SpellDeclaration : List Token → Type 0
SpellDeclaration tokens = (declaration : Declaration) × IsDeclarationOf declaration tokens
