-- The reader finds each declaration.
use Rattle.std.proofs.Common.{◌≡◌, Bool, true, false, ◌⊎◌, inl, inr, List, [], ◌∷◌, Option, Some, None, refl, sym, ap, subst, ◌∙◌, arith}
use Rattle.std.proofs.lemmas.Bool.{false≢true}
use Rattle.icn_tree.specs.declared.token.Kind.{Kind}
use Rattle.icn_tree.specs.declared.token.Kind.TheVariants.{Identifier as IdentifierKind, Text as TextKind, Word as WordKind, Punctuation as PunctuationKind}
use Rattle.icn_tree.specs.declared.token.Token.{Token}
use Rattle.icn_tree.specs.declared.token.Word.TheVariants as Words
use Rattle.icn_tree.specs.declared.token.Punctuation.TheVariants.{OpenParenthesis, CloseParenthesis, OpenBracket, CloseBracket, Comma, Semicolon}
use Rattle.icn_tree.specs.declared.tree.Place.{Place}
use Rattle.icn_tree.specs.declared.tree.Name.{Name}
use Rattle.icn_tree.specs.declared.tree.DeclItem.{DeclItem}
use Rattle.icn_tree.specs.declared.tree.DeclItem.TheVariants as Items
use Rattle.icn_tree.specs.declared.tree.LocalKind.{LocalKind}
use Rattle.icn_tree.specs.declared.tree.LocalKind.TheVariants.{Local, Static}
use Rattle.icn_tree.specs.Trees.{Tree, Trees, Empty, NoTrees, More, LocalDecl, Initial, NoInitial, Initially, Procedure, Declaration, Global, Link, Invocable, Record, ProcedureOf}
use Rattle.icn_tree.specs.Levels.{begins, goes_on, is_present}
use Rattle.icn_tree.specs.Phrases.{Phrase, next, place_of, token_at, sign}
use Rattle.icn_tree.specs.Grammar.{Part, Spells, identifier}
use Rattle.icn_tree.specs.Declarations.{MoreWithCommas, WithCommas, SpellsNames, SpellsMaybeNames, SpellsItem, SpellsParameters, local_word, SpellsLocals, SpellsInitial, SpellsBody, SpellsDeclaration}
use Rattle.icn_tree.proofs.Reading.{behind, name_here, is_comma, name_of, item_of, further_by, further, some_read, local_kind, is_initial, is_end, is_close, is_open_bracket, locals_by, body_by, initial_by, maybe_names, names_read, variadic_by, parameters_read, procedure_by, declaration_by, declaration_read}
use Rattle.icn_tree.proofs.ReaderResults.{Gives, gives_at_once, gives_then, gives_same, goes_on_locals, goes_on_body}
use Rattle.icn_tree.proofs.ExpressionsFound.{part_started, part_before, is_nonempty, started_begins, behind_sign, next_sign, ends_at}
use Rattle.icn_tree.proofs.OneExpressionTree.{every_tree_found, optional_found}

abbrev pub is_comma_next : Option Kind → Bool
is_comma_next None = false
is_comma_next (Some kind) = is_comma kind

-- a phrase of one token, from which this is taken
abbrev IsOne : {A : Type 0} → (Token → A) → (A → Phrase) → Type 0
IsOne {A} of spells = (x : A) (here after : List Token) → spells x here after → (token : Token) × (here ≡ token ∷ after) × (of token ≡ x)

one_name : IsOne name_of identifier
one_name name here after s = (token_at name.place (IdentifierKind name.text), s, refl)

one_item : IsOne item_of SpellsItem
one_item (Items.Identifier name) here after s = (token_at name.place (IdentifierKind name.text), s, refl)
one_item (Items.Text name) here after s = (token_at name.place (TextKind name.text), s, refl)

further_stops : {A : Type 0} (of : Token → A) (after : List Token) → is_comma_next (next after) ≡ false → further of after ≡ ([], after)
further_stops of [] e = refl
further_stops of (token ∷ []) e = refl
further_stops of (token ∷ x ∷ rest) e = ap (λ b. further_by b (of x) (token ∷ x ∷ rest) (further of rest)) e

further_found : {A : Type 0} (of : Token → A) (spells : A → Phrase) → IsOne of spells → (xs : List A) (here after : List Token)
    → MoreWithCommas spells xs here after → is_comma_next (next after) ≡ false → further of here ≡ (xs, after)
further_found of spells one [] here after s e = ap (further of) s ∙ further_stops of after e
further_found {A} of spells one (x ∷ xs) here after s e =
    let o = one x s.0 s.2.0 s.2.1 in
    ap (further of) (s.1.1 ∙ ap (λ tokens. token_at s.1.0 (PunctuationKind Comma) ∷ tokens) o.1)
    ∙ ap (λ (others : List A × List Token). (of o.0 ∷ others.0, others.1)) (further_found of spells one xs s.2.0 after s.2.2 e)
    ∙ ap (λ y. (y ∷ xs, after)) o.2

some_found : {A : Type 0} (of : Token → A) (spells : A → Phrase) → IsOne of spells → (xs : List A) (here after : List Token) → WithCommas spells xs here after
    → is_comma_next (next after) ≡ false → some_read of here ≡ (xs, after)
some_found of spells one [] here after s e = absurd s
some_found {A} of spells one (x ∷ xs) here after s e =
    let o = one x here s.0 s.1 in
    ap (some_read of) o.1
    ∙ ap (λ (others : List A × List Token). (of o.0 ∷ others.0, others.1)) (further_found of spells one xs s.0 after s.2 e)
    ∙ ap (λ y. (y ∷ xs, after)) o.2

no_comma : (kind : Kind) (here after : List Token) → sign kind here after → is_comma kind ≡ false → is_comma_next (next here) ≡ false
no_comma kind here after s e = ap is_comma_next (next_sign kind here after s) ∙ e

-- local and static names
local_kind_of : (kind : LocalKind) → local_kind (Some (WordKind (local_word kind))) ≡ Some kind
local_kind_of Local = refl
local_kind_of Static = refl

locals_found : (locals : List LocalDecl) (here after : List Token) → SpellsLocals locals here after → local_kind (next after) ≡ None
    → Gives (λ self. self.locals here) (locals, after)
locals_found [] here after s e =
    goes_on_locals here ([], after)
    (gives_at_once _ _ (λ self. ap (λ kind. locals_by kind self here) (ap (λ tokens. local_kind (next tokens)) s ∙ e) ∙ ap (λ tokens. Some ([], tokens)) s))
locals_found (first ∷ others) here after s e =
    let names = s.2 in
    let end = names.2 in
    let its_kind : local_kind (next here) ≡ Some first.kind = ap (λ tokens. local_kind (next tokens)) s.1 ∙ local_kind_of first.kind in
    let read : some_read name_of (behind here) ≡ (first.names, names.0) = ap (λ tokens. some_read name_of (behind tokens)) s.1
    ∙ some_found name_of identifier one_name first.names s.0 names.0 names.1 (no_comma (PunctuationKind Semicolon) names.0 end.0 end.1 refl) in
    let left : behind (some_read name_of (behind here)).1 ≡ end.0 = ap (λ (r : List Name × List Token). behind r.1) read
    ∙ behind_sign (PunctuationKind Semicolon) names.0 end.0 end.1 in
    goes_on_locals here (first ∷ others, after) (gives_same (λ self. ap (λ kind. locals_by kind self here) its_kind)
    (gives_then _ _ (subst (λ (t : List Token). Gives (λ self. self.locals t) (others, after)) (sym left) (locals_found others end.0 after end.2 e))
    (gives_at_once _ _ (λ self.
    ap (λ (r : List Name × List Token). Some (record { place = place_of here; kind = first.kind; names = r.0 } ∷ others, after)) read
    ∙ ap (λ (tokens : List Token). Some (record { place = place_of tokens; kind = first.kind; names = first.names } ∷ others, after)) s.1))))

-- the expressions of a body
present_first : (tree : Tree) → is_present tree ≡ true → (here middle : List Token) → Part 0 tree (Spells tree) here middle → goes_on 1 (next middle) ≡ false
    → begins (next here) ≡ true
present_first tree present here middle p e =
    let whole : Part 1 tree (Spells tree) here middle =
    record { fits = is_nonempty tree here middle p.spells present; spells = p.spells; longest = p.longest } in
    started_begins 1 here (tree, middle) (part_started 1 tree (every_tree_found tree) (omega arith) here middle whole e)

optional_first : (tree : Tree) (here middle : List Token) → Part 0 tree (Spells tree) here middle → goes_on 1 (next middle) ≡ false
    → (begins (next here) ≡ true) ⊎ (here ≡ middle)
optional_first Empty here middle p e = inr p.spells
optional_first tree here middle p e = inl (present_first tree refl here middle p e)

-- what stands first in an expression with a semicolon
opens : (P : Option Kind → Type 0) → ((kind : Option Kind) → begins kind ≡ true → P kind) → P (Some (PunctuationKind Semicolon)) → (here middle : List Token)
    → P (next middle) → (begins (next here) ≡ true) ⊎ (here ≡ middle) → P (next here)
opens P b semicolon here middle m (inl e) = b (next here) e
opens P b semicolon here middle m (inr e) = subst (λ tokens. P (next tokens)) (sym e) m

element_opens : (P : Option Kind → Type 0) → ((kind : Option Kind) → begins kind ≡ true → P kind) → P (Some (PunctuationKind Semicolon))
    → (tree : Tree) (here middle after : List Token) → Part 0 tree (Spells tree) here middle → sign (PunctuationKind Semicolon) middle after → P (next here)
element_opens P b semicolon tree here middle after p s =
    opens P b semicolon here middle (subst P (sym (next_sign (PunctuationKind Semicolon) middle after s)) semicolon)
    (optional_first tree here middle p (ends_at 1 (PunctuationKind Semicolon) middle after s refl))

body_opens : (P : Option Kind → Type 0) → ((kind : Option Kind) → begins kind ≡ true → P kind) → P (Some (PunctuationKind Semicolon))
    → (trees : Trees) (here after : List Token) → SpellsBody trees here after → P (next after) → P (next here)
body_opens P b semicolon NoTrees here after s e = subst (λ tokens. P (next tokens)) (sym s) e
body_opens P b semicolon (More tree trees) here after s e = element_opens P b semicolon tree here s.0 s.2.0 s.1 s.2.1

begins_no_local : (kind : Option Kind) → begins kind ≡ true → local_kind kind ≡ None
begins_no_local (Some (WordKind Words.Local)) e = absurd (false≢true e)
begins_no_local (Some (WordKind Words.Static)) e = absurd (false≢true e)
begins_no_local _ e = refl

begins_no_initial : (kind : Option Kind) → begins kind ≡ true → is_initial kind ≡ false
begins_no_initial (Some (WordKind Words.Initial)) e = absurd (false≢true e)
begins_no_initial _ e = refl

begins_no_end : (kind : Option Kind) → begins kind ≡ true → is_end kind ≡ false
begins_no_end (Some (WordKind Words.End)) e = absurd (false≢true e)
begins_no_end _ e = refl

body_found : (trees : Trees) (here after : List Token) → SpellsBody trees here after → is_end (next after) ≡ true
    → Gives (λ self. self.body here) (trees, after)
body_found NoTrees here after s e =
    goes_on_body here (NoTrees, after)
    (gives_at_once _ _ (λ self. ap (λ b. body_by b self here) (ap (λ tokens. is_end (next tokens)) s ∙ e) ∙ ap (λ tokens. Some (NoTrees, tokens)) s))
body_found (More tree trees) here after s e =
    let semicolon : Kind = PunctuationKind Semicolon in
    let end = s.2 in
    let no_end : is_end (next here) ≡ false = element_opens (λ kind. is_end kind ≡ false) begins_no_end refl tree here s.0 end.0 s.1 end.1 in
    goes_on_body here (More tree trees, after) (gives_same (λ self. ap (λ b. body_by b self here) no_end)
    (gives_then _ _ (optional_found tree here s.0 s.1 (ends_at 1 semicolon s.0 end.0 end.1 refl))
    (gives_then _ _ (subst (λ (t : List Token). Gives (λ self. self.body t) (trees, after)) (sym (behind_sign semicolon s.0 end.0 end.1))
    (body_found trees end.0 after end.2 e)) (gives_at_once _ _ (λ self. refl)))))

initial_found : (initial : Initial) (here after : List Token) → SpellsInitial initial here after → is_initial (next after) ≡ false
    → Gives (λ self. initial_by (is_initial (next here)) self here) (initial, after)
initial_found NoInitial here after s e =
    gives_at_once _ _ (λ self. ap (λ b. initial_by b self here) (ap (λ tokens. is_initial (next tokens)) s ∙ e) ∙ ap (λ tokens. Some (NoInitial, tokens)) s)
initial_found (Initially place value) here after s e =
    let semicolon : Kind = PunctuationKind Semicolon in
    let end = s.2 in
    subst (λ (t : List Token). Gives (λ self. initial_by (is_initial (next t)) self t) (Initially place value, after)) (sym s.1)
    (gives_then _ _ (part_before 1 value (every_tree_found value) (omega arith) semicolon s.0 end.0 after end.1 end.2 refl)
    (gives_at_once _ _ (λ self. ap (λ tokens. Some (Initially place value, tokens)) (behind_sign semicolon end.0 after end.2))))

-- Parameters and fields

first_no_close : (name : Name) (here after : List Token) → identifier name here after → is_close (next here) ≡ false
first_no_close name here after s = ap (λ tokens. is_close (next tokens)) s

some_names_found : (names : List Name) (here after : List Token) → SpellsNames names here after → is_comma_next (next after) ≡ false
    → names_read here ≡ (names, after)
some_names_found [] here after s e = absurd s
some_names_found (name ∷ names) here after s e =
    ap (λ b. maybe_names b here) (first_no_close name here s.0 s.1) ∙ some_found name_of identifier one_name (name ∷ names) here after s e

names_found : (names : List Name) (here middle after : List Token) → SpellsMaybeNames names here middle → sign (PunctuationKind CloseParenthesis) middle after
    → names_read here ≡ (names, middle)
names_found [] here middle after s e =
    let closes : is_close (next middle) ≡ true = ap is_close (next_sign (PunctuationKind CloseParenthesis) middle after e) in
    ap (λ b. maybe_names b here) (ap (λ tokens. is_close (next tokens)) s ∙ closes) ∙ ap (λ tokens. ([], tokens)) s
names_found (name ∷ names) here middle after s e =
    some_names_found (name ∷ names) here middle s (no_comma (PunctuationKind CloseParenthesis) middle after e refl)

parameters_found : (names : List Name) (variadic : Bool) (here middle after : List Token) → SpellsParameters names variadic here middle
    → sign (PunctuationKind CloseParenthesis) middle after → parameters_read here ≡ (names, variadic, middle)
parameters_found names false here middle after s e =
    ap (λ (r : List Name × List Token). variadic_by (is_open_bracket (next r.1)) r) (names_found names here middle after s e)
    ∙ ap (λ b. variadic_by b (names, middle)) (ap is_open_bracket (next_sign (PunctuationKind CloseParenthesis) middle after e))
parameters_found names true here middle after s e =
    let open_bracket : Kind = PunctuationKind OpenBracket in
    let brackets = s.2 in
    ap (λ (r : List Name × List Token). variadic_by (is_open_bracket (next r.1)) r)
    (some_names_found names here s.0 s.1 (no_comma open_bracket s.0 brackets.0 brackets.1 refl))
    ∙ ap (λ b. variadic_by b (names, s.0)) (ap is_open_bracket (next_sign open_bracket s.0 brackets.0 brackets.1))
    ∙ ap (λ tokens. (names, true, tokens))
    (ap behind (behind_sign open_bracket s.0 brackets.0 brackets.1) ∙ behind_sign (PunctuationKind CloseBracket) brackets.0 middle brackets.2)

-- Declarations

global_found : (place : Place) (names : List Name) (here after : List Token) → SpellsDeclaration (Global place names) here after
    → is_comma_next (next after) ≡ false → Gives (λ self. declaration_read self here) (Global place names, after)
global_found place names here after s e =
    gives_at_once _ _ (λ self. ap (λ tokens. declaration_by (next tokens) self (place_of tokens) (behind tokens)) s.1
    ∙ ap (λ (r : List Name × List Token). Some (Global place r.0, r.1)) (some_found name_of identifier one_name names s.0 after s.2 e))

link_found : (place : Place) (items : List DeclItem) (here after : List Token) → SpellsDeclaration (Link place items) here after
    → is_comma_next (next after) ≡ false → Gives (λ self. declaration_read self here) (Link place items, after)
link_found place items here after s e =
    gives_at_once _ _ (λ self. ap (λ tokens. declaration_by (next tokens) self (place_of tokens) (behind tokens)) s.1
    ∙ ap (λ (r : List DeclItem × List Token). Some (Link place r.0, r.1)) (some_found item_of SpellsItem one_item items s.0 after s.2 e))

invocable_found : (place : Place) (items : List DeclItem) (here after : List Token) → SpellsDeclaration (Invocable place items) here after
    → is_comma_next (next after) ≡ false → Gives (λ self. declaration_read self here) (Invocable place items, after)
invocable_found place items here after s e =
    gives_at_once _ _ (λ self. ap (λ tokens. declaration_by (next tokens) self (place_of tokens) (behind tokens)) s.1
    ∙ ap (λ (r : List DeclItem × List Token). Some (Invocable place r.0, r.1)) (some_found item_of SpellsItem one_item items s.0 after s.2 e))

-- a name and an opening parenthesis
past_name : (name : Name) (here middle after : List Token) → identifier name here middle → sign (PunctuationKind OpenParenthesis) middle after
    → behind (behind here) ≡ after
past_name name here middle after s e = ap (λ tokens. behind (behind tokens)) s ∙ behind_sign (PunctuationKind OpenParenthesis) middle after e

record_found : (place : Place) (name : Name) (fields : List Name) (here after : List Token) → SpellsDeclaration (Record place name fields) here after
    → Gives (λ self. declaration_read self here) (Record place name fields, after)
record_found place name fields here after s =
    let r = s.2 in
    let q = r.2 in
    let o = q.2 in
    let read : names_read (behind (behind s.0)) ≡ (fields, o.0) = ap names_read (past_name name s.0 r.0 q.0 r.1 q.1)
    ∙ names_found fields q.0 o.0 after o.1 o.2 in
    gives_at_once _ _ (λ self. ap (λ tokens. declaration_by (next tokens) self (place_of tokens) (behind tokens)) s.1
    ∙ ap (λ (n : Name). Some (Record place n (names_read (behind (behind s.0))).0, behind (names_read (behind (behind s.0))).1)) (ap name_here r.1)
    ∙ ap (λ (r : List Name × List Token). Some (Record place name r.0, behind r.1)) read
    ∙ ap (λ tokens. Some (Record place name fields, tokens)) (behind_sign (PunctuationKind CloseParenthesis) o.0 after o.2))

-- what stands behind the head of a procedure
inner_found : (p : Procedure) (middle b5 b6 b7 b8 b9 after : List Token) → sign (PunctuationKind CloseParenthesis) middle b5
    → sign (PunctuationKind Semicolon) b5 b6 → SpellsLocals p.locals b6 b7 → SpellsInitial p.initial b7 b8 → SpellsBody p.body b8 b9
    → sign (WordKind Words.End) b9 after
    → Gives (λ self. procedure_by self p.place p.name (p.parameters, p.is_variadic, middle)) (ProcedureOf p, after)
inner_found p middle b5 b6 b7 b8 b9 after close semicolon locals initial body end =
    let end_next : next b9 ≡ Some (WordKind Words.End) = next_sign (WordKind Words.End) b9 after end in
    let inside : behind (behind middle) ≡ b6 = ap behind (behind_sign (PunctuationKind CloseParenthesis) middle b5 close)
    ∙ behind_sign (PunctuationKind Semicolon) b5 b6 semicolon in
    let no_initial : is_initial (next b8)
    ≡ false = body_opens (λ kind. is_initial kind ≡ false) begins_no_initial refl p.body b8 b9 body (ap is_initial end_next) in
    let no_local : local_kind (next b8) ≡ None = body_opens (λ kind. local_kind kind ≡ None) begins_no_local refl p.body b8 b9 body (ap local_kind end_next) in
    gives_then _ _ (subst (λ (t : List Token). Gives (λ self. self.locals t) (p.locals, b7)) (sym inside)
    (locals_found p.locals b6 b7 locals (initial_opens p.initial b7 b8 initial no_local)))
    (gives_then _ _ (initial_found p.initial b7 b8 initial no_initial)
    (gives_then _ _ (body_found p.body b8 b9 body (ap is_end end_next))
    (gives_at_once _ _ (λ self. ap (λ tokens. Some (ProcedureOf p, tokens)) (behind_sign (WordKind Words.End) b9 after end)))))
  where
    initial_opens : (initial : Initial) (here after : List Token) → SpellsInitial initial here after → local_kind (next after) ≡ None
        → local_kind (next here) ≡ None
    initial_opens NoInitial here after s e = ap (λ tokens. local_kind (next tokens)) s ∙ e
    initial_opens (Initially place value) here after s e = ap (λ tokens. local_kind (next tokens)) s.1

procedure_found : (p : Procedure) (here after : List Token) → SpellsDeclaration (ProcedureOf p) here after
    → Gives (λ self. declaration_read self here) (ProcedureOf p, after)
procedure_found p here after s =
    let r = s.2 in
    let q = r.2 in
    let o = q.2 in
    let m = o.2 in
    let l = m.2 in
    let k = l.2 in
    let j = k.2 in
    let i = j.2 in
    let read : parameters_read (behind (behind s.0)) ≡ (p.parameters, p.is_variadic, o.0) = ap parameters_read (past_name p.name s.0 r.0 q.0 r.1 q.1)
    ∙ parameters_found p.parameters p.is_variadic q.0 o.0 m.0 o.1 m.1 in
    gives_same (λ self. ap (λ tokens. declaration_by (next tokens) self (place_of tokens) (behind tokens)) s.1
    ∙ ap (λ (n : Name). procedure_by self p.place n (parameters_read (behind (behind s.0)))) (ap name_here r.1)
    ∙ ap (procedure_by self p.place p.name) read)
    (inner_found p o.0 m.0 l.0 k.0 j.0 i.0 after m.1 l.1 k.1 j.1 i.1 i.2)

pub declaration_found : (declaration : Declaration) (here after : List Token) → SpellsDeclaration declaration here after → is_comma_next (next after) ≡ false
    → Gives (λ self. declaration_read self here) (declaration, after)
declaration_found (Global place names) = global_found place names
declaration_found (Link place items) = link_found place items
declaration_found (Invocable place items) = invocable_found place items
declaration_found (Record place name fields) = λ here after s e. record_found place name fields here after s
declaration_found (ProcedureOf p) = λ here after s e. procedure_found p here after s
