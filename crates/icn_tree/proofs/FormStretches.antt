-- What each form and each declaration takes.
use Rattle.std.proofs.Common.{◌≡◌, ℕ, ◌≤◌, Bool, true, false, List, [], ◌∷◌, ◌++◌, length, Option, Some, None, inl, inr, refl, sym, ap, ◌∙◌, arith}
use Rattle.icn_tree.specs.declared.token.Kind.TheVariants.{Identifier as IdentifierKind, Text as TextKind, Word as WordKind, Operator as OperatorKind, Punctuation as PunctuationKind}
use Rattle.icn_tree.specs.declared.token.Token.{Token}
use Rattle.icn_tree.specs.declared.token.Word.{Word}
use Rattle.icn_tree.specs.declared.token.Word.TheVariants as Words
use Rattle.icn_tree.specs.declared.token.Operator.{Operator}
use Rattle.icn_tree.specs.declared.token.Operator.TheVariants.{Ampersand, Dot}
use Rattle.icn_tree.specs.declared.token.Punctuation.{Punctuation}
use Rattle.icn_tree.specs.declared.token.Punctuation.TheVariants.{OpenParenthesis, CloseParenthesis, OpenBracket, CloseBracket, OpenBrace, CloseBrace, Comma, Semicolon, Colon}
use Rattle.icn_tree.specs.declared.tree.Place.{Place}
use Rattle.icn_tree.specs.declared.tree.Name.{Name}
use Rattle.icn_tree.specs.declared.tree.DeclItem.{DeclItem}
use Rattle.icn_tree.specs.declared.tree.DeclItem.TheVariants as Items
use Rattle.icn_tree.specs.declared.tree.Literal.{Literal}
use Rattle.icn_tree.specs.declared.tree.Literal.TheVariants.{Integer, Text, Cset}
use Rattle.icn_tree.specs.declared.tree.LocalKind.{LocalKind}
use Rattle.icn_tree.specs.declared.tree.LocalKind.TheVariants.{Local, Static}
use Rattle.icn_tree.specs.declared.tree.Infix.{Infix}
use Rattle.icn_tree.specs.declared.tree.Infix.TheVariants.{Plain as PlainInfix, Augmented}
use Rattle.icn_tree.specs.declared.tree.LoopKind.{LoopKind}
use Rattle.icn_tree.specs.declared.tree.LoopKind.TheVariants as Loops
use Rattle.icn_tree.specs.Trees.{Tree, Trees, Clause, Clauses, Empty, Constant, Identifier, Keyword, Parentheses, Listing, Compound, Call, CoCall, Subscript, Section, Field, Prefix, Not, Binary, To, If, Case, Loop, Repeat, Create, Next, Fail, Break, Return, Suspend, Absent, Present, NoTrees, More, Default, Guarded, NoClauses, MoreClauses, LocalDecl, Initial, NoInitial, Initially, Declaration, Global, Link, Invocable, Record, ProcedureOf}
use Rattle.icn_tree.specs.Levels.{infix_level, infix_kind, left_level, right_level, level_of, prefix_of}
use Rattle.icn_tree.specs.Phrases.{Phrase, token_at, sign_at, sign, ◌⨾◌}
use Rattle.icn_tree.specs.Pieces.{kind_declares, word_declares}
use Rattle.icn_tree.specs.Grammar.{Part, Spells, SpellsList, SpellsMore, SpellsClause, SpellsClauses, SpellsMoreClauses, identifier, keyword, infix_sign, before, IsPrefix, Separator, ByComma, BySemicolon, separator, literal_kind, section_sign, loop_word, word_at}
use Rattle.icn_tree.specs.Declarations.{MoreWithCommas, WithCommas, SpellsNames, SpellsMaybeNames, SpellsItem, SpellsParameters, local_word, SpellsLocals, SpellsInitial, SpellsBody, SpellsDeclaration}
use Rattle.icn_tree.proofs.Reading.{behind}
use Rattle.icn_tree.proofs.TokenStretches.{Plain, Frame, Framed, Alike, less, bound, seq, seq_second, free_seq, seq_end, nothing_framed, sign_at_framed, sign_framed, starts_framed, part_framed}

-- the least number of tokens of a tree
abbrev pub least_of : Tree → ℕ
least_of Empty = 0
least_of _ = 1

abbrev pub FramedTree : Tree → Type 0
FramedTree tree = Framed (least_of tree) false (Spells tree)

some_tokens : (tree : Tree) → 12 ≤ level_of tree → 1 ≤ least_of tree
some_tokens Empty h = absurd (omega arith)
some_tokens _ h = omega arith

at_mark : (place : Place) (punctuation : Punctuation) → Framed 1 false (sign_at place (PunctuationKind punctuation))
at_mark place punctuation = bound (sign_at_framed place (PunctuationKind punctuation) refl)

by_mark : (punctuation : Punctuation) → Framed 1 false (sign (PunctuationKind punctuation))
by_mark punctuation = bound (sign_framed (PunctuationKind punctuation) refl)

at_word : (place : Place) (reserved : Word) → word_declares reserved ≡ false → Framed 1 false (sign_at place (WordKind reserved))
at_word place reserved e = bound (sign_at_framed place (WordKind reserved) e)

by_word : (reserved : Word) → word_declares reserved ≡ false → Framed 1 false (sign (WordKind reserved))
by_word reserved e = bound (sign_framed (WordKind reserved) e)

plain_literal : (literal : Literal) → kind_declares (literal_kind literal) ≡ false
plain_literal (Integer n) = refl
plain_literal (Text bytes) = refl
plain_literal (Cset set) = refl

plain_infix : (operator : Infix) → kind_declares (infix_kind operator) ≡ false
plain_infix (PlainInfix operator) = refl
plain_infix (Augmented operator) = refl

plain_loop : (kind : LoopKind) → word_declares (loop_word kind) ≡ false
plain_loop Loops.While = refl
plain_loop Loops.Until = refl
plain_loop Loops.Every = refl

identifier_framed : (name : Name) → Framed 1 true (identifier name)
identifier_framed name = sign_at_framed name.place (IdentifierKind name.text) refl

keyword_framed : (name : Name) → Framed 1 false (keyword name)
keyword_framed name = record { frames = framed_at }
  where
    framed_at : (here after : List Token) → keyword name here after → Frame 1 false (keyword name) here after
    framed_at here after (inl s) =
        record { taken = token_at name.place (IdentifierKind name.text) ∷ []; is = s; enough = omega arith; plain = (refl, tt); again = λ other e. inl refl }
    framed_at here after (inr s) = record {
      taken = token_at name.place (WordKind Words.Fail) ∷ [];
      is = s.1;
      enough = omega arith;
      plain = (refl, tt);
      again = λ other e. inr (s.0, refl);
    }

infix_framed : (operator : Infix) → Framed 1 false (infix_sign operator)
infix_framed operator = record {
  frames = λ here after s. record {
    taken = token_at s.1.0 (infix_kind operator) ∷ [];
    is = s.1.1;
    enough = omega arith;
    plain = (plain_infix operator, tt);
    again = λ other e. (s.0, (s.1.0, refl));
  };
}

abbrev first_or : Token → List Token → Token
first_or token [] = token
first_or token (first ∷ tokens) = first

prefix_at : (place : Place) (operator : Operator) (operand : Tree)
    → (here middle after : List Token) (characters : Operator) (others : Option Operator) (rest : List Token) → prefix_of characters ≡ Some (operator, others)
    → here ≡ token_at place (OperatorKind characters) ∷ rest → middle ≡ before place others rest → Part 12 operand (Spells operand) middle after
    → (taken : List Token) → middle ≡ taken ++ after → 1 ≤ length taken → Plain taken
    → ((other : List Token) → Alike other after → Part 12 operand (Spells operand) (taken ++ other) other)
    → Frame 1 false (IsPrefix place operator ⨾ Part 12 operand (Spells operand)) here after
prefix_at place operator operand here middle after characters None rest f e m p taken is enough plain again = record {
  taken = token_at place (OperatorKind characters) ∷ taken;
  is = e ∙ ap (λ tokens. token_at place (OperatorKind characters) ∷ tokens) (sym m ∙ is);
  enough = omega arith;
  plain = (refl, plain);
  again = λ other a.
      (taken ++ other, record { characters = characters; others = None; behind = taken ++ other; first = f; is_here = refl; is_after = refl }, again other a);
}
prefix_at place operator operand here middle after characters (Some other_operator) rest f e m p [] is enough plain again = absurd (omega arith)
prefix_at place operator operand here middle after characters (Some other_operator) rest f e m p (token ∷ taken) is enough plain again = record {
  taken = token_at place (OperatorKind characters) ∷ taken;
  is = e ∙ ap (λ tokens. token_at place (OperatorKind characters) ∷ tokens) (ap behind (sym m ∙ is));
  enough = omega arith;
  plain = (refl, plain.1);
  again = λ other a. (
    token ∷ (taken ++ other),
    record {
      characters = characters;
      others = Some other_operator;
      behind = taken ++ other;
      first = f;
      is_here = refl;
      is_after = ap (λ t. t ∷ (taken ++ other)) (ap (first_or token) (sym is ∙ m));
    },
    again other a,
  );
}

prefix_framed : (place : Place) (operator : Operator) (operand : Tree) → FramedTree operand
    → Framed 1 false (IsPrefix place operator ⨾ Part 12 operand (Spells operand))
prefix_framed place operator operand f = record {
  frames = λ here after s.
      let i = s.1 in
      let a = (part_framed 12 operand f).frames s.0 after s.2 in
      prefix_at place operator operand here s.0 after i.characters i.others i.behind i.first i.is_here i.is_after s.2 a.taken a.is
      (omega (arith, a.enough, some_tokens operand s.2.fits)) a.plain a.again;
}

no_phrase : {l : ℕ} {free : Bool} → Framed l free (λ here after. ⊥)
no_phrase = record { frames = λ here after s. absurd s }

part : (level : ℕ) (tree : Tree) → FramedTree tree → Framed 0 false (Part level tree (Spells tree))
part level tree f = less 0 (omega arith) (part_framed level tree f)

mutual
  pub framed : (tree : Tree) → FramedTree tree
  framed Empty = bound nothing_framed
  framed (Constant place literal) = bound (sign_at_framed place (literal_kind literal) (plain_literal literal))
  framed (Identifier name) = bound (identifier_framed name)
  framed (Keyword place name) = seq (bound (sign_at_framed place (OperatorKind Ampersand) refl)) (keyword_framed name)
  framed (Parentheses place elements) = seq (at_mark place OpenParenthesis) (seq (framed_list ByComma elements) (by_mark CloseParenthesis))
  framed (Listing place elements) = seq (at_mark place OpenBracket) (seq (framed_list ByComma elements) (by_mark CloseBracket))
  framed (Compound place exprs) = seq (at_mark place OpenBrace) (seq (framed_list BySemicolon exprs) (by_mark CloseBrace))
  framed (Call place callee arguments) = starts_framed place
      (seq_second (part 13 callee (framed callee)) (seq (by_mark OpenParenthesis) (seq (framed_list ByComma arguments) (by_mark CloseParenthesis))))
  framed (CoCall place callee arguments) =
      starts_framed place (seq_second (part 13 callee (framed callee)) (seq (by_mark OpenBrace) (seq (framed_list ByComma arguments) (by_mark CloseBrace))))
  framed (Subscript place subject subscripts) = starts_framed place
      (seq_second (part 13 subject (framed subject)) (seq (by_mark OpenBracket) (seq (framed_list ByComma subscripts) (by_mark CloseBracket))))
  framed (Section place kind subject from to) = starts_framed place (seq_second (part 13 subject (framed subject))
      (seq (by_mark OpenBracket) (seq (part 1 from (framed from)) (seq (by_mark (section_sign kind)) (seq (part 1 to (framed to)) (by_mark CloseBracket))))))
  framed (Field place subject name) =
      starts_framed place (seq_second (part 13 subject (framed subject)) (seq (bound (sign_framed (OperatorKind Dot) refl)) (bound (identifier_framed name))))
  framed (Prefix place operator operand) = prefix_framed place operator operand (framed operand)
  framed (Not place operand) = seq (at_word place Words.Not refl) (part 12 operand (framed operand))
  framed (Binary place operator left right) = starts_framed place (seq_second (part (left_level (infix_level operator)) left (framed left))
      (seq (infix_framed operator) (part (right_level (infix_level operator)) right (framed right))))
  framed (To place from to Absent) = starts_framed place (seq_second (part 4 from (framed from)) (seq (by_word Words.To refl) (part 5 to (framed to))))
  framed (To place from to (Present by)) = starts_framed place
      (seq_second (part 4 from (framed from)) (seq (by_word Words.To refl) (seq (part 5 to (framed to)) (seq (by_word Words.By refl) (part 5 by (framed by))))))
  framed (If place condition first Absent) =
      seq (at_word place Words.If refl) (seq (part 1 condition (framed condition)) (seq (by_word Words.Then refl) (part 1 first (framed first))))
  framed (If place condition first (Present other)) = seq (at_word place Words.If refl) (seq (part 1 condition (framed condition))
      (seq (by_word Words.Then refl) (seq (part 1 first (framed first)) (seq (by_word Words.Else refl) (part 1 other (framed other))))))
  framed (Case place subject clauses) = seq (at_word place Words.Case refl)
      (seq (part 1 subject (framed subject)) (seq (by_word Words.Of refl) (seq (by_mark OpenBrace) (seq (framed_clauses clauses) (by_mark CloseBrace)))))
  framed (Loop place kind control Absent) = seq (at_word place (loop_word kind) (plain_loop kind)) (part 1 control (framed control))
  framed (Loop place kind control (Present body)) =
      seq (at_word place (loop_word kind) (plain_loop kind)) (seq (part 1 control (framed control)) (seq (by_word Words.Do refl) (part 1 body (framed body))))
  framed (Repeat place body) = seq (at_word place Words.Repeat refl) (part 1 body (framed body))
  framed (Create place body) = seq (at_word place Words.Create refl) (part 1 body (framed body))
  framed (Next place) = at_word place Words.Next refl
  framed (Fail place) = at_word place Words.Fail refl
  framed (Break place value) = seq (at_word place Words.Break refl) (part 0 value (framed value))
  framed (Return place value) = seq (at_word place Words.Return refl) (part 0 value (framed value))
  framed (Suspend place value Absent) = seq (at_word place Words.Suspend refl) (part 0 value (framed value))
  framed (Suspend place value (Present body)) =
      seq (at_word place Words.Suspend refl) (seq (part 0 value (framed value)) (seq (by_word Words.Do refl) (part 1 body (framed body))))

  pub framed_list : (by : Separator) (trees : Trees) → Framed 0 false (SpellsList by trees)
  framed_list by NoTrees = no_phrase
  framed_list by (More tree trees) = seq (part 0 tree (framed tree)) (framed_more by trees)

  pub framed_more : (by : Separator) (trees : Trees) → Framed 0 false (SpellsMore by trees)
  framed_more by NoTrees = bound nothing_framed
  framed_more by (More tree trees) = less 0 (omega arith) (seq (by_mark (separator by)) (seq (part 0 tree (framed tree)) (framed_more by trees)))

  pub framed_clause : (clause : Clause) → Framed 0 false (SpellsClause clause)
  framed_clause (Default place value) = less 0 (omega arith) (seq (at_word place Words.Default refl) (seq (by_mark Colon) (part 1 value (framed value))))
  framed_clause (Guarded place guard value) = starts_framed place (seq (part 1 guard (framed guard)) (seq (by_mark Colon) (part 1 value (framed value))))

  pub framed_clauses : (clauses : Clauses) → Framed 0 false (SpellsClauses clauses)
  framed_clauses NoClauses = no_phrase
  framed_clauses (MoreClauses clause clauses) = seq (framed_clause clause) (framed_more_clauses clauses)

  pub framed_more_clauses : (clauses : Clauses) → Framed 0 false (SpellsMoreClauses clauses)
  framed_more_clauses NoClauses = bound nothing_framed
  framed_more_clauses (MoreClauses clause clauses) = less 0 (omega arith) (seq (by_mark Semicolon) (seq (framed_clause clause) (framed_more_clauses clauses)))

-- Declarations

free_mark : (punctuation : Punctuation) → Framed 1 true (sign (PunctuationKind punctuation))
free_mark punctuation = sign_framed (PunctuationKind punctuation) refl

more_framed : {A : Type 0} (spells : A → Phrase) → ((x : A) → Framed 1 true (spells x)) → (xs : List A) → Framed 0 true (MoreWithCommas spells xs)
more_framed spells f [] = nothing_framed
more_framed spells f (x ∷ xs) = less 0 (omega arith) (free_seq (free_mark Comma) (free_seq (f x) (more_framed spells f xs)))

some_framed : {A : Type 0} (spells : A → Phrase) → ((x : A) → Framed 1 true (spells x)) → (xs : List A) → Framed 0 true (WithCommas spells xs)
some_framed spells f [] = no_phrase
some_framed spells f (x ∷ xs) = less 0 (omega arith) (free_seq (f x) (more_framed spells f xs))

names_framed : (names : List Name) → Framed 0 true (SpellsNames names)
names_framed names = some_framed identifier identifier_framed names

maybe_names_framed : (names : List Name) → Framed 0 true (SpellsMaybeNames names)
maybe_names_framed [] = nothing_framed
maybe_names_framed (name ∷ names) = names_framed (name ∷ names)

item_framed : (item : DeclItem) → Framed 1 true (SpellsItem item)
item_framed (Items.Identifier name) = identifier_framed name
item_framed (Items.Text name) = sign_at_framed name.place (TextKind name.text) refl

parameters_framed : (names : List Name) (variadic : Bool) → Framed 0 true (SpellsParameters names variadic)
parameters_framed names false = maybe_names_framed names
parameters_framed names true = free_seq (names_framed names) (free_seq (free_mark OpenBracket) (free_mark CloseBracket))

plain_local : (kind : LocalKind) → word_declares (local_word kind) ≡ false
plain_local Local = refl
plain_local Static = refl

locals_framed : (locals : List LocalDecl) → Framed 0 true (SpellsLocals locals)
locals_framed [] = nothing_framed
locals_framed (first ∷ others) = less 0 (omega arith) (free_seq (sign_at_framed first.place (WordKind (local_word first.kind)) (plain_local first.kind))
    (free_seq (names_framed first.names) (free_seq (free_mark Semicolon) (locals_framed others))))

initial_framed : (initial : Initial) → Framed 0 true (SpellsInitial initial)
initial_framed NoInitial = nothing_framed
initial_framed (Initially place value) =
    less 0 (omega arith) (free_seq (sign_at_framed place (WordKind Words.Initial) refl) (seq_end (part 1 value (framed value)) (free_mark Semicolon)))

body_framed : (trees : Trees) → Framed 0 true (SpellsBody trees)
body_framed NoTrees = nothing_framed
body_framed (More tree trees) = less 0 (omega arith) (seq_end (part 0 tree (framed tree)) (free_seq (free_mark Semicolon) (body_framed trees)))

-- what a declaration takes: a word that begins it, and then no such word
pub record DeclarationFrame (p : Phrase) (here after : List Token) : Type 0 where
  pub first : Token
  pub taken : List Token
  pub is : here ≡ first ∷ (taken ++ after)
  pub plain : Plain taken
  pub again : (other : List Token) → p (first ∷ (taken ++ other)) other

declared : {l : ℕ} (place : Place) (reserved : Word) {rest : Phrase} → Framed l true rest → (here after : List Token)
    → (word_at place reserved ⨾ rest) here after → DeclarationFrame (word_at place reserved ⨾ rest) here after
declared place reserved f here after s =
    let a = f.frames s.0 after s.2 in
    record {
      first = token_at place (WordKind reserved);
      taken = a.taken;
      is = s.1 ∙ ap (λ tokens. token_at place (WordKind reserved) ∷ tokens) a.is;
      plain = a.plain;
      again = λ other. (a.taken ++ other, refl, a.again other tt);
    }

pub declaration_framed : (declaration : Declaration) (here after : List Token) → SpellsDeclaration declaration here after
    → DeclarationFrame (SpellsDeclaration declaration) here after
declaration_framed (Global place names) = declared place Words.Global (names_framed names)
declaration_framed (Link place items) = declared place Words.Link (some_framed SpellsItem item_framed items)
declaration_framed (Invocable place items) = declared place Words.Invocable (some_framed SpellsItem item_framed items)
declaration_framed (Record place name fields) = declared place Words.Record
    (free_seq (identifier_framed name) (free_seq (free_mark OpenParenthesis) (free_seq (maybe_names_framed fields) (free_mark CloseParenthesis))))
declaration_framed (ProcedureOf p) = declared p.place Words.Procedure (free_seq (identifier_framed p.name) (free_seq (free_mark OpenParenthesis)
    (free_seq (parameters_framed p.parameters p.is_variadic) (free_seq (free_mark CloseParenthesis) (free_seq (free_mark Semicolon)
    (free_seq (locals_framed p.locals) (free_seq (initial_framed p.initial) (free_seq (body_framed p.body) (sign_framed (WordKind Words.End) refl)))))))))
