-- How declarations are read from the left, over values that stand for trees.
use Rattle.std.specs.Prelude.{ℕ, zero, suc, Bool, true, false, List, [], ◌∷◌, length, Option, Some, None}
use Rattle.icn_tree.specs.declared.token.Kind.{Kind}
use Rattle.icn_tree.specs.declared.token.Kind.TheVariants.{Identifier as IdentifierKind, Text as TextKind, Word as WordKind, Punctuation as PunctuationKind}
use Rattle.icn_tree.specs.declared.token.Token.{Token}
use Rattle.icn_tree.specs.declared.token.Word.TheVariants as Words
use Rattle.icn_tree.specs.declared.token.Punctuation.TheVariants.{OpenParenthesis, OpenBracket, Comma, Semicolon}
use Rattle.icn_tree.specs.declared.tree.Place.{Place}
use Rattle.icn_tree.specs.declared.tree.Name.{Name}
use Rattle.icn_tree.specs.declared.tree.DeclItem.{DeclItem}
use Rattle.icn_tree.specs.declared.tree.DeclItem.TheVariants as Items
use Rattle.icn_tree.specs.declared.tree.LocalKind.{LocalKind}
use Rattle.icn_tree.specs.declared.tree.LocalKind.TheVariants.{Local, Static}
use Rattle.icn_tree.specs.Trees.{LocalDecl}
use Rattle.icn_tree.specs.Phrases.{next, place_of}
use Rattle.icn_expr.specs.Automata.{Builds, behind, is_close_parenthesis, is_close_bracket}
use Rattle.icn_expr.specs.Reading.{expression_read}

infixl 10 ◌>>=◌
-- goes on with what was found, where something was
abbrev pub ◌>>=◌ : {A B : Type 0} → Option A → (A → Option B) → Option B
None >>= f = None
(Some x) >>= f = f x

-- reads something in front of the tokens, and leaves the tokens behind it; or it does not stand there
abbrev pub Reads : Type 0 → Type 0
Reads A = List Token → Option (A × List Token)

-- the kind of a comma
abbrev pub is_comma : Kind → Bool
is_comma (PunctuationKind Comma) = true
is_comma _ = false

-- a semicolon stands next
abbrev pub is_semicolon : Option Kind → Bool
is_semicolon (Some (PunctuationKind Semicolon)) = true
is_semicolon _ = false

-- an opening parenthesis stands next
abbrev pub is_open_parenthesis : Option Kind → Bool
is_open_parenthesis (Some (PunctuationKind OpenParenthesis)) = true
is_open_parenthesis _ = false

-- an opening bracket stands next
abbrev pub is_open_bracket : Option Kind → Bool
is_open_bracket (Some (PunctuationKind OpenBracket)) = true
is_open_bracket _ = false

-- the word `initial` stands next
abbrev pub is_initial : Option Kind → Bool
is_initial (Some (WordKind Words.Initial)) = true
is_initial _ = false

-- the word `end` stands next
abbrev pub is_end : Option Kind → Bool
is_end (Some (WordKind Words.End)) = true
is_end _ = false

-- the kind of local declaration whose word stands next, if one does
abbrev pub local_kind : Option Kind → Option LocalKind
local_kind (Some (WordKind Words.Local)) = Some Local
local_kind (Some (WordKind Words.Static)) = Some Static
local_kind _ = None

-- an identifier as a name at this place
abbrev pub name_at : Kind → Place → Option Name
name_at (IdentifierKind text) place = Some (record { text = text; place = place })
name_at _ place = None

-- a token that is an identifier, as a name
abbrev pub name_of : Token → Option Name
name_of token = name_at token.kind (record { line = token.line; file = token.file })

-- an identifier or a text as an item of a declaration, at this place
abbrev pub item_at : Kind → Place → Option DeclItem
item_at (IdentifierKind text) place = Some (Items.Identifier (record { text = text; place = place }))
item_at (TextKind text) place = Some (Items.Text (record { text = text; place = place }))
item_at _ place = None

-- a token that `link` or `invocable` may have, an identifier or a string, as an item
abbrev pub item_of : Token → Option DeclItem
item_of token = item_at token.kind (record { line = token.line; file = token.file })

-- a token that passes a test
abbrev pub sign_by : Bool → List Token → Option (List Token)
sign_by true tokens = Some (behind tokens)
sign_by false tokens = None

-- a token that passes a test stands next, and is read
abbrev pub sign_read : (Option Kind → Bool) → List Token → Option (List Token)
sign_read test tokens = sign_by (test (next tokens)) tokens

-- one in front of others, where each of them is found
abbrev pub in_front : {A : Type 0} → Option A → Option (List A × List Token) → Option (List A × List Token)
in_front None others = None
in_front (Some x) others = others >>= λ found. Some (x ∷ found.0, found.1)

-- one more in front of others where a comma stands next, and else none
abbrev pub further_by : {A : Type 0} → Bool → Option A → Option (List A × List Token) → List Token
    → Option (List A × List Token)
further_by true x others tokens = in_front x others
further_by false x others tokens = Some ([], tokens)

-- what stands behind commas
abbrev pub further : {A : Type 0} → (Token → Option A) → Reads (List A)
further of [] = Some ([], [])
further of (token ∷ []) = further_by (is_comma token.kind) None None (token ∷ [])
further of (token ∷ x ∷ rest) = further_by (is_comma token.kind) (of x) (further of rest) (token ∷ x ∷ rest)

-- one or more, with commas between them
abbrev pub some_read : {A : Type 0} → (Token → Option A) → Reads (List A)
some_read of [] = None
some_read of (token ∷ tokens) = in_front (of token) (further of tokens)

-- no name where the list is closed, or one or more
abbrev pub names_by : Bool → Reads (List Name)
names_by true tokens = Some ([], tokens)
names_by false tokens = some_read name_of tokens

-- none, or one or more, up to a closing parenthesis
abbrev pub maybe_names : Reads (List Name)
maybe_names tokens = names_by (is_close_parenthesis (next tokens)) tokens

-- the brackets of a last parameter that collects, where they stand next
abbrev pub variadic_by : Bool → List Name → List Token → Option (List Name × Bool × List Token)
variadic_by true names tokens =
    sign_read is_close_bracket (behind tokens) >>= λ rest. Some (names, true, rest)
variadic_by false names tokens = Some (names, false, tokens)

-- the parameters of a procedure, and whether the last one collects
abbrev pub parameters_read : List Token → Option (List Name × Bool × List Token)
parameters_read tokens =
    maybe_names tokens >>= λ names. variadic_by (is_open_bracket (next names.1)) names.0 names.1

-- one local declaration in front of others, where one stands next, and else none
abbrev pub locals_by : Option LocalKind → Reads (List LocalDecl) → Reads (List LocalDecl)
locals_by None others tokens = Some ([], tokens)
locals_by (Some kind) others tokens =
    some_read name_of (behind tokens) >>= λ names. sign_read is_semicolon names.1 >>= λ rest. others rest
    >>= λ found. Some (record { place = place_of tokens; kind = kind; names = names.0 } ∷ found.0, found.1)

-- in so many steps
abbrev pub locals_read : ℕ → Reads (List LocalDecl)
locals_read zero tokens = None
locals_read (suc n) tokens = locals_by (local_kind (next tokens)) (locals_read n) tokens

-- the `initial` clause where its word stands next, and else none
abbrev pub initial_by : {V L C : Type 0} → Builds V L C → Bool → Reads (Option (Place × V))
initial_by make true tokens = expression_read make 1 (behind tokens)
    >>= λ value. sign_read is_semicolon value.1 >>= λ rest. Some (Some (place_of tokens, value.0), rest)
initial_by make false tokens = Some (None, tokens)

-- the `initial` clause of a procedure, if it has one
abbrev pub initial_read : {V L C : Type 0} → Builds V L C → Reads (Option (Place × V))
initial_read make tokens = initial_by make (is_initial (next tokens)) tokens

-- the body is over at `end`, or one expression more stands in it
abbrev pub body_by : {V L C : Type 0} → Builds V L C → Bool → (L → Reads L) → L → Reads L
body_by make true others done tokens = Some (done, tokens)
body_by make false others done tokens = expression_read make 0 tokens
    >>= λ value. sign_read is_semicolon value.1 >>= λ rest. others (make.with_element done value.0) rest

-- the expressions up to the end of the procedure, behind those that were read
abbrev pub body_read : {V L C : Type 0} → Builds V L C → ℕ → L → Reads L
body_read make zero done tokens = None
body_read make (suc n) done tokens = body_by make (is_end (next tokens)) (body_read make n) done tokens

-- a procedure, with values that stand for its trees
pub record ProcedureOver (V L : Type 0) : Type 0 where
  pub place : Place
  pub name : Name
  pub parameters : List Name
  pub is_variadic : Bool
  pub locals : List LocalDecl
  pub initial : Option (Place × V)
  pub body : L

-- a declaration, with values that stand for its trees
pub data DeclarationOver (V L : Type 0) : Type 0 where
  GlobalOver : Place → List Name → DeclarationOver V L
  LinkOver : Place → List DeclItem → DeclarationOver V L
  InvocableOver : Place → List DeclItem → DeclarationOver V L
  RecordOver : Place → Name → List Name → DeclarationOver V L
  ProcedureIs : ProcedureOver V L → DeclarationOver V L

-- one name
abbrev pub name_read : Reads Name
name_read [] = None
name_read (token ∷ tokens) = name_of token >>= λ name. Some (name, tokens)

-- the head of a procedure, behind its word
abbrev pub head_read : List Token → Option (Name × (List Name × Bool) × List Token)
head_read tokens = do
  name ← name_read tokens
  opened ← sign_read is_open_parenthesis name.1
  parameters ← parameters_read opened
  closed ← sign_read is_close_parenthesis parameters.2
  rest ← sign_read is_semicolon closed
  Some (name.0, (parameters.0, parameters.1), rest)

-- what stands behind the word `procedure`: the head, local declarations, `initial`, and the body up to `end`
abbrev pub procedure_read : {V L C : Type 0} → Builds V L C → Place → Reads (DeclarationOver V L)
procedure_read make place tokens = do
  head ← head_read tokens
  locals ← locals_read (suc (length head.2)) head.2
  initial ← initial_read make locals.1
  body ← body_read make (suc (length initial.1)) make.no_elements initial.1
  rest ← sign_read is_end body.1
  Some (
    ProcedureIs (record {
      place = place;
      name = head.0;
      parameters = head.1.0;
      is_variadic = head.1.1;
      locals = locals.0;
      initial = initial.0;
      body = body.0;
    }),
    rest,
  )

-- what stands behind the word `record`: the name, and the names of the fields in parentheses
abbrev pub record_read : {V L : Type 0} → Place → Reads (DeclarationOver V L)
record_read place tokens = do
  name ← name_read tokens
  opened ← sign_read is_open_parenthesis name.1
  fields ← maybe_names opened
  rest ← sign_read is_close_parenthesis fields.1
  Some (RecordOver place name.0 fields.0, rest)

-- a declaration by the word that it begins with
abbrev pub declaration_by : {V L C : Type 0} → Builds V L C → Option Kind → Place
    → Reads (DeclarationOver V L)
declaration_by make (Some (WordKind Words.Global)) place tokens =
    some_read name_of tokens >>= λ names. Some (GlobalOver place names.0, names.1)
declaration_by make (Some (WordKind Words.Link)) place tokens =
    some_read item_of tokens >>= λ items. Some (LinkOver place items.0, items.1)
declaration_by make (Some (WordKind Words.Invocable)) place tokens =
    some_read item_of tokens >>= λ items. Some (InvocableOver place items.0, items.1)
declaration_by make (Some (WordKind Words.Record)) place tokens = record_read place tokens
declaration_by make (Some (WordKind Words.Procedure)) place tokens = procedure_read make place tokens
declaration_by make _ place tokens = None

-- one declaration, by the word that it begins with
abbrev pub declaration_read : {V L C : Type 0} → Builds V L C → Reads (DeclarationOver V L)
declaration_read make tokens = declaration_by make (next tokens) (place_of tokens) (behind tokens)

-- all declarations, in so many steps
abbrev pub file_read : {V L C : Type 0} → Builds V L C → ℕ → List Token → Option (List (DeclarationOver V L))
file_read make n [] = Some []
file_read make zero (token ∷ tokens) = None
file_read make (suc n) (token ∷ tokens) = declaration_read make (token ∷ tokens)
    >>= λ first. file_read make n first.1 >>= λ others. Some (first.0 ∷ others)
