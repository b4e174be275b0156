-- What stands before a procedure's expressions is read exactly.
use Rattle.std.proofs.Common.{◌≡◌, ℕ, zero, suc, ◌≤◌, Bool, true, false, List, [], ◌∷◌, length, Option, Some, None, refl, sym, ap, subst, ◌∙◌, arith}
use Rattle.std.proofs.lemmas.Option.{none-some, same_Some}
use Rattle.std.proofs.lemmas.Bool.{false≢true}
use Rattle.icn_tree.specs.declared.token.Kind.{Kind}
use Rattle.icn_tree.specs.declared.token.Kind.TheVariants.{Word as WordKind, Punctuation as PunctuationKind}
use Rattle.icn_tree.specs.declared.token.Token.{Token}
use Rattle.icn_tree.specs.declared.token.Word.TheVariants as Words
use Rattle.icn_tree.specs.declared.token.Punctuation.TheVariants.{OpenParenthesis, CloseParenthesis, OpenBracket, CloseBracket, Semicolon}
use Rattle.icn_tree.specs.declared.tree.Name.{Name}
use Rattle.icn_tree.specs.declared.tree.LocalKind.{LocalKind}
use Rattle.icn_tree.specs.declared.tree.LocalKind.TheVariants.{Local, Static}
use Rattle.icn_tree.specs.Trees.{LocalDecl}
use Rattle.icn_tree.specs.Phrases.{Phrase, next, place_of, token_at, sign_at, sign, ◌⨾◌}
use Rattle.icn_tree.specs.Grammar.{identifier}
use Rattle.icn_tree.specs.Declarations.{MoreWithCommas, SpellsNames, SpellsMaybeNames, SpellsParameters, local_word, SpellsLocals}
use Rattle.icn_expr.specs.Automata.{behind, is_close_parenthesis, is_close_bracket}
use Rattle.icn_parse.specs.FileReading.{◌>>=◌, Reads, is_semicolon, is_open_parenthesis, is_open_bracket, is_initial, is_end, local_kind, name_of, sign_read, some_read, names_by, maybe_names, variadic_by, parameters_read, locals_by, locals_read, name_read, head_read}
use Rattle.icn_parse.proofs.NamesExact.{bind_parts, is_comma_next, one_name, next_sign, behind_sign, some_found, some_sound, Tests, sign_found, sign_sound, no_comma}

pub bind_of_some : {A B : Type 0} (o : Option A) (f : A → Option B) (x : A) (r : Option B) → o ≡ Some x → f x ≡ r → (o >>= f) ≡ r
bind_of_some o f x r e g = ap (λ p. p >>= f) e ∙ g

-- Signs

pub semicolon_tests : Tests is_semicolon (PunctuationKind Semicolon)
semicolon_tests = record { passes = refl; alone = alone_at; none = refl }
  where
    alone_at : (k : Kind) → is_semicolon (Some k) ≡ true → k ≡ PunctuationKind Semicolon
    alone_at (PunctuationKind Semicolon) e = refl
    alone_at _ e = absurd (false≢true e)

pub open_parenthesis_tests : Tests is_open_parenthesis (PunctuationKind OpenParenthesis)
open_parenthesis_tests = record { passes = refl; alone = alone_at; none = refl }
  where
    alone_at : (k : Kind) → is_open_parenthesis (Some k) ≡ true → k ≡ PunctuationKind OpenParenthesis
    alone_at (PunctuationKind OpenParenthesis) e = refl
    alone_at _ e = absurd (false≢true e)

pub close_parenthesis_tests : Tests is_close_parenthesis (PunctuationKind CloseParenthesis)
close_parenthesis_tests = record { passes = refl; alone = alone_at; none = refl }
  where
    alone_at : (k : Kind) → is_close_parenthesis (Some k) ≡ true → k ≡ PunctuationKind CloseParenthesis
    alone_at (PunctuationKind CloseParenthesis) e = refl
    alone_at _ e = absurd (false≢true e)

pub open_bracket_tests : Tests is_open_bracket (PunctuationKind OpenBracket)
open_bracket_tests = record { passes = refl; alone = alone_at; none = refl }
  where
    alone_at : (k : Kind) → is_open_bracket (Some k) ≡ true → k ≡ PunctuationKind OpenBracket
    alone_at (PunctuationKind OpenBracket) e = refl
    alone_at _ e = absurd (false≢true e)

pub close_bracket_tests : Tests is_close_bracket (PunctuationKind CloseBracket)
close_bracket_tests = record { passes = refl; alone = alone_at; none = refl }
  where
    alone_at : (k : Kind) → is_close_bracket (Some k) ≡ true → k ≡ PunctuationKind CloseBracket
    alone_at (PunctuationKind CloseBracket) e = refl
    alone_at _ e = absurd (false≢true e)

pub initial_tests : Tests is_initial (WordKind Words.Initial)
initial_tests = record { passes = refl; alone = alone_at; none = refl }
  where
    alone_at : (k : Kind) → is_initial (Some k) ≡ true → k ≡ WordKind Words.Initial
    alone_at (WordKind Words.Initial) e = refl
    alone_at _ e = absurd (false≢true e)

pub end_tests : Tests is_end (WordKind Words.End)
end_tests = record { passes = refl; alone = alone_at; none = refl }
  where
    alone_at : (k : Kind) → is_end (Some k) ≡ true → k ≡ WordKind Words.End
    alone_at (WordKind Words.End) e = refl
    alone_at _ e = absurd (false≢true e)

-- a sign at the place where it stands
pub sign_here : (token : Token) (tokens : List Token) (kind : Kind) → token.kind ≡ kind → sign_at (place_of (token ∷ tokens)) kind (token ∷ tokens) tokens
sign_here token tokens kind e = ap (λ k. record { kind = k; line = token.line; file = token.file } ∷ tokens) e

pub sign_at_place : (test : Option Kind → Bool) (kind : Kind) → Tests test kind → (here : List Token) → test (next here) ≡ true
    → sign_at (place_of here) kind here (behind here)
sign_at_place test kind t [] e = absurd (false≢true (sym t.none ∙ e))
sign_at_place test kind t (token ∷ tokens) e = sign_here token tokens kind (t.alone token.kind e)

pub sign_shorter : (kind : Kind) (here after : List Token) → sign kind here after → length here ≡ suc (length after)
sign_shorter kind here after s = ap length s.1

-- Names

more_shorter : (names : List Name) (here after : List Token) → MoreWithCommas identifier names here after → length after ≤ length here
more_shorter [] here after s = omega (arith, ap length s)
more_shorter (name ∷ names) here after s = omega (arith, ap length s.1.1, ap length s.2.1, more_shorter names s.2.0 after s.2.2)

pub names_shorter : (names : List Name) (here after : List Token) → SpellsNames names here after → suc (length after) ≤ length here
names_shorter [] here after s = absurd s
names_shorter (name ∷ names) here after s = omega (arith, ap length s.1, more_shorter names s.0 after s.2)

some_names_found : (names : List Name) (here after : List Token) → SpellsNames names here after → is_comma_next (next after) ≡ false
    → maybe_names here ≡ Some (names, after)
some_names_found [] here after s e = absurd s
some_names_found (name ∷ names) here after s e =
    ap (λ b. names_by b here) (ap (λ tokens. is_close_parenthesis (next tokens)) s.1) ∙ some_found name_of identifier one_name (name ∷ names) here after s e

pub maybe_found : (names : List Name) (here middle after : List Token) → SpellsMaybeNames names here middle
    → sign (PunctuationKind CloseParenthesis) middle after → maybe_names here ≡ Some (names, middle)
maybe_found [] here middle after s e =
    ap (λ b. names_by b here) (ap (λ tokens. is_close_parenthesis (next tokens)) s
    ∙ ap is_close_parenthesis (next_sign (PunctuationKind CloseParenthesis) middle after e)) ∙ ap (λ tokens. Some ([], tokens)) s
maybe_found (name ∷ names) here middle after s e =
    some_names_found (name ∷ names) here middle s (no_comma (PunctuationKind CloseParenthesis) middle after e refl)

maybe_of_names : (names : List Name) (here after : List Token) → SpellsNames names here after → SpellsMaybeNames names here after
maybe_of_names [] here after s = absurd s
maybe_of_names (name ∷ names) here after s = s

maybe_by : (b : Bool) (here : List Token) (names : List Name) (after : List Token) → names_by b here ≡ Some (names, after) → SpellsMaybeNames names here after
maybe_by true here names after e = subst (λ (r : List Name × List Token). SpellsMaybeNames r.0 here r.1) (same_Some ([], here) (names, after) e) refl
maybe_by false here names after e = maybe_of_names names here after (some_sound name_of identifier one_name here names after e).spelled

pub maybe_sound : (here : List Token) (names : List Name) (after : List Token) → maybe_names here ≡ Some (names, after) → SpellsMaybeNames names here after
maybe_sound here names after e = maybe_by (is_close_parenthesis (next here)) here names after e

-- Parameters

pub parameters_found : (names : List Name) (variadic : Bool) (here middle after : List Token) → SpellsParameters names variadic here middle
    → sign (PunctuationKind CloseParenthesis) middle after → parameters_read here ≡ Some (names, variadic, middle)
parameters_found names false here middle after s e =
    bind_of_some (maybe_names here) (λ found. variadic_by (is_open_bracket (next found.1)) found.0 found.1) (names, middle) (Some (names, false, middle))
    (maybe_found names here middle after s e)
    (ap (λ b. variadic_by b names middle) (ap is_open_bracket (next_sign (PunctuationKind CloseParenthesis) middle after e)))
parameters_found names true here middle after s e =
    let brackets = s.2 in
    bind_of_some (maybe_names here) (λ found. variadic_by (is_open_bracket (next found.1)) found.0 found.1) (names, s.0) (Some (names, true, middle))
    (some_names_found names here s.0 s.1 (no_comma (PunctuationKind OpenBracket) s.0 brackets.0 brackets.1 refl))
    (ap (λ b. variadic_by b names s.0) (ap is_open_bracket (next_sign (PunctuationKind OpenBracket) s.0 brackets.0 brackets.1))
    ∙ bind_of_some (sign_read is_close_bracket (behind s.0)) (λ rest. Some (names, true, rest)) middle (Some (names, true, middle))
    (ap (sign_read is_close_bracket) (behind_sign (PunctuationKind OpenBracket) s.0 brackets.0 brackets.1)
    ∙ sign_found is_close_bracket (PunctuationKind CloseBracket) close_bracket_tests brackets.0 middle brackets.2) refl)

not_both : (kind : Option Kind) → is_close_parenthesis kind ≡ true → is_open_bracket kind ≡ true → ⊥
not_both (Some (PunctuationKind OpenBracket)) e f = false≢true e
not_both _ e f = false≢true f

bracket_names : (b : Bool) (here : List Token) (names : List Name) (middle : List Token) → is_close_parenthesis (next here) ≡ b
    → names_by b here ≡ Some (names, middle) → is_open_bracket (next middle) ≡ true → SpellsNames names here middle
bracket_names true here names middle c e o =
    absurd (not_both (next here) c (ap (λ (r : List Name × List Token). is_open_bracket (next r.1)) (same_Some ([], here) (names, middle) e) ∙ o))
bracket_names false here names middle c e o = (some_sound name_of identifier one_name here names middle e).spelled

variadic_sound : (b : Bool) (here : List Token) (read : List Name) (middle : List Token) (names : List Name) (variadic : Bool) (after : List Token)
    → maybe_names here ≡ Some (read, middle) → is_open_bracket (next middle) ≡ b
    → variadic_by b read middle ≡ Some (names, variadic, after) → SpellsParameters names variadic here after
variadic_sound true here read middle names variadic after m o e =
    let r = bind_parts (sign_read is_close_bracket (behind middle)) (λ rest. Some (read, true, rest)) (names, variadic, after) e in
    subst (λ (p : List Name × Bool × List Token). SpellsParameters p.0 p.1 here p.2) (same_Some (read, true, r.0) (names, variadic, after) r.2) (
      middle,
      bracket_names (is_close_parenthesis (next here)) here read middle refl m o,
      (
        behind middle,
        (place_of middle, sign_at_place is_open_bracket (PunctuationKind OpenBracket) open_bracket_tests middle o),
        sign_sound is_close_bracket (PunctuationKind CloseBracket) close_bracket_tests (behind middle) r.0 r.1,
      ),
    )
variadic_sound false here read middle names variadic after m o e =
    subst (λ (p : List Name × Bool × List Token). SpellsParameters p.0 p.1 here p.2) (same_Some (read, false, middle) (names, variadic, after) e)
    (maybe_sound here read middle m)

pub parameters_sound : (here : List Token) (names : List Name) (variadic : Bool) (after : List Token) → parameters_read here ≡ Some (names, variadic, after)
    → SpellsParameters names variadic here after
parameters_sound here names variadic after e =
    let r = bind_parts (maybe_names here) (λ found. variadic_by (is_open_bracket (next found.1)) found.0 found.1) (names, variadic, after) e in
    variadic_sound (is_open_bracket (next r.0.1)) here r.0.0 r.0.1 names variadic after r.1 refl r.2

-- Local and static names

local_kind_of : (kind : LocalKind) → local_kind (Some (WordKind (local_word kind))) ≡ Some kind
local_kind_of Local = refl
local_kind_of Static = refl

pub locals_found : (locals : List LocalDecl) (here after : List Token) (n : ℕ) → length here ≤ n → SpellsLocals locals here after
    → local_kind (next after) ≡ None
    → locals_read (suc n) here ≡ Some (locals, after)
locals_found [] here after n h s e =
    ap (λ kind. locals_by kind (locals_read n) here) (ap (λ tokens. local_kind (next tokens)) s ∙ e) ∙ ap (λ tokens. Some ([], tokens)) s
locals_found (first ∷ others) here after zero h s e = absurd (omega (arith, h, ap length s.1))
locals_found (first ∷ others) here after (suc n) h s e =
    let names = s.2 in
    let end = names.2 in
    let shorter : length end.0
    ≤ n = omega (arith, h, ap length s.1, names_shorter first.names s.0 names.0 names.1, sign_shorter (PunctuationKind Semicolon) names.0 end.0 end.1) in
    ap (locals_read (suc (suc n))) s.1
    ∙ ap (λ kind. locals_by kind (locals_read (suc n)) (token_at first.place (WordKind (local_word first.kind)) ∷ s.0)) (local_kind_of first.kind)
    ∙ bind_of_some _ _ (first.names, names.0)
    _ (some_found name_of identifier one_name first.names s.0 names.0 names.1 (no_comma (PunctuationKind Semicolon) names.0 end.0 end.1 refl))
    (bind_of_some _ _ end.0 _ (sign_found is_semicolon (PunctuationKind Semicolon) semicolon_tests names.0 end.0 end.1)
    (bind_of_some _ _ (others, after) _ (locals_found others end.0 after n shorter end.2 e) refl))

local_word_of : (kind : LocalKind) (k : Kind) → local_kind (Some k) ≡ Some kind → k ≡ WordKind (local_word kind)
local_word_of kind (WordKind Words.Local) e = ap (λ l. WordKind (local_word l)) (same_Some Local kind e)
local_word_of kind (WordKind Words.Static) e = ap (λ l. WordKind (local_word l)) (same_Some Static kind e)
local_word_of kind _ e = absurd (none-some kind e)

local_here : (kind : LocalKind) (here : List Token) → local_kind (next here) ≡ Some kind
    → sign_at (place_of here) (WordKind (local_word kind)) here (behind here)
local_here kind [] e = absurd (none-some kind e)
local_here kind (token ∷ tokens) e = sign_here token tokens (WordKind (local_word kind)) (local_word_of kind token.kind e)

locals_step : (k : Option LocalKind) (here : List Token) (others : Reads (List LocalDecl)) → local_kind (next here) ≡ k
    → ((rest : List Token) (found : List LocalDecl) (after : List Token) → others rest ≡ Some (found, after) → SpellsLocals found rest after)
    → (locals : List LocalDecl) (after : List Token) → locals_by k others here ≡ Some (locals, after) → SpellsLocals locals here after
locals_step None here others l f locals after e =
    subst (λ (r : List LocalDecl × List Token). SpellsLocals r.0 here r.1) (same_Some ([], here) (locals, after) e) refl
locals_step (Some kind) here others l f locals after e =
    let names = bind_parts (some_read name_of (behind here)) _ (locals, after) e in
    let end = bind_parts (sign_read is_semicolon names.0.1) _ (locals, after) names.2 in
    let found = bind_parts (others end.0) _ (locals, after) end.2 in
    subst (λ (r : List LocalDecl × List Token). SpellsLocals r.0 here r.1)
    (same_Some (record { place = place_of here; kind = kind; names = names.0.0 } ∷ found.0.0, found.0.1) (locals, after) found.2) (
      behind here,
      local_here kind here l,
      (
        names.0.1,
        (some_sound name_of identifier one_name (behind here) names.0.0 names.0.1 names.1).spelled,
        (end.0, sign_sound is_semicolon (PunctuationKind Semicolon) semicolon_tests names.0.1 end.0 end.1, f end.0 found.0.0 found.0.1 found.1),
      ),
    )

pub locals_sound : (n : ℕ) (here : List Token) (locals : List LocalDecl) (after : List Token) → locals_read n here ≡ Some (locals, after)
    → SpellsLocals locals here after
locals_sound zero here locals after e = absurd (none-some (locals, after) e)
locals_sound (suc n) here locals after e = locals_step (local_kind (next here)) here (locals_read n) refl (locals_sound n) locals after e

-- Heads

pub name_found : (name : Name) (here after : List Token) → identifier name here after → name_read here ≡ Some (name, after)
name_found name here after s = ap name_read s

pub name_sound : (here : List Token) (name : Name) (after : List Token) → name_read here ≡ Some (name, after) → identifier name here after
name_sound [] name after e = absurd (none-some (name, after) e)
name_sound (token ∷ tokens) name after e =
    let r = bind_parts (name_of token) (λ found. Some (found, tokens)) (name, after) e in
    subst (λ (p : Name × List Token). identifier p.0 (token ∷ tokens) p.1) (same_Some (r.0, tokens) (name, after) r.2) (one_name.sound r.0 token tokens r.1)

-- what stands between the word of a procedure and its local names
abbrev pub SpellsHead : Name → List Name → Bool → Phrase
SpellsHead name parameters variadic = identifier name ⨾ sign (PunctuationKind OpenParenthesis) ⨾ SpellsParameters parameters variadic
    ⨾ sign (PunctuationKind CloseParenthesis) ⨾ sign (PunctuationKind Semicolon)

pub head_found : (name : Name) (parameters : List Name) (variadic : Bool) (here after : List Token) → SpellsHead name parameters variadic here after
    → head_read here ≡ Some (name, (parameters, variadic), after)
head_found name parameters variadic here after s =
    let opened = s.2 in
    let inner = opened.2 in
    let closed = inner.2 in
    bind_of_some _ _ (name, s.0) _ (name_found name here s.0 s.1)
    (bind_of_some _ _ opened.0 _ (sign_found is_open_parenthesis (PunctuationKind OpenParenthesis) open_parenthesis_tests s.0 opened.0 opened.1)
    (bind_of_some _ _ (parameters, variadic, inner.0) _ (parameters_found parameters variadic opened.0 inner.0 closed.0 inner.1 closed.1)
    (bind_of_some _ _ closed.0 _ (sign_found is_close_parenthesis (PunctuationKind CloseParenthesis) close_parenthesis_tests inner.0 closed.0 closed.1)
    (bind_of_some _ _ after _ (sign_found is_semicolon (PunctuationKind Semicolon) semicolon_tests closed.0 after closed.2) refl))))

pub head_sound : (here : List Token) (name : Name) (parameters : List Name) (variadic : Bool) (after : List Token)
    → head_read here ≡ Some (name, (parameters, variadic), after) → SpellsHead name parameters variadic here after
head_sound here name parameters variadic after e =
    let whole : Name × (List Name × Bool) × List Token = (name, (parameters, variadic), after) in
    let n = bind_parts (name_read here) _ whole e in
    let o = bind_parts (sign_read is_open_parenthesis n.0.1) _ whole n.2 in
    let p = bind_parts (parameters_read o.0) _ whole o.2 in
    let c = bind_parts (sign_read is_close_parenthesis p.0.2) _ whole p.2 in
    let s = bind_parts (sign_read is_semicolon c.0) _ whole c.2 in
    subst (λ (r : Name × (List Name × Bool) × List Token). SpellsHead r.0 r.1.0 r.1.1 here r.2) (same_Some (n.0.0, (p.0.0, p.0.1), s.0) whole s.2) (
      n.0.1,
      name_sound here n.0.0 n.0.1 n.1,
      (
        o.0,
        sign_sound is_open_parenthesis (PunctuationKind OpenParenthesis) open_parenthesis_tests n.0.1 o.0 o.1,
        (
          p.0.2,
          parameters_sound o.0 p.0.0 p.0.1 p.0.2 p.1,
          (
            c.0,
            sign_sound is_close_parenthesis (PunctuationKind CloseParenthesis) close_parenthesis_tests p.0.2 c.0 c.1,
            sign_sound is_semicolon (PunctuationKind Semicolon) semicolon_tests c.0 s.0 s.1,
          ),
        ),
      ),
    )
