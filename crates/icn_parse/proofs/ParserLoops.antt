-- The loops of the parser: what was read so far, and what is left, is what all of it is.
use Rattle.std.proofs.Common.{◌≡◌, ℕ, zero, suc, ◌<◌, ◌≤◌, true, false, List, [], ◌∷◌, ◌++◌, length, map, Option, Some, None, refl, sym, ap, ◌∙◌, arith, append_assoc, append-nil}
use Rattle.std.proofs.lemmas.Bool.{false≢true}
use Rattle.std.proofs.lemmas.Option.{none-some, same_Some}
use Rattle.icn_tree.specs.declared.token.Kind.TheVariants.{Punctuation as PunctuationKind}
use Rattle.icn_tree.specs.declared.token.Token.{Token}
use Rattle.icn_tree.specs.declared.token.Punctuation.TheVariants.{Semicolon}
use Rattle.icn_tree.specs.declared.tree.DeclItem.{DeclItem}
use Rattle.icn_tree.specs.declared.tree.LocalKind.{LocalKind}
use Rattle.icn_tree.specs.declared.tree.Name.{Name}
use Rattle.icn_tree.specs.Phrases.{next, place_of}
use Rattle.icn_tree.specs.Trees.{LocalDecl}
use Rattle.icn_expr.specs.Automata.{behind}
use Rattle.icn_parse.specs.FileReading.{◌>>=◌, is_semicolon, item_of, name_of, name_read, sign_read, in_front, further_by, further, some_read, local_kind, locals_by, locals_read}
use Rattle.icn_parse.specs.PartReading.{is_comma_next, item_read, locals_one}
use Rattle.icn_parse.proofs.NamesExact.{bind_parts, one_name, some_sound}
use Rattle.icn_parse.proofs.HeadsExact.{names_shorter, semicolon_tests, sign_shorter}
use Rattle.icn_parse.proofs.NamesExact.{sign_sound}

-- what stands behind what was read
abbrev pub behind_all : {A : Type 0} → List A → Option (List A × List Token) → Option (List A × List Token)
behind_all xs None = None
behind_all xs (Some found) = Some (xs ++ found.0, found.1)

pub behind_both : {A : Type 0} (xs ys : List A) (others : Option (List A × List Token)) → behind_all xs (behind_all ys others) ≡ behind_all (xs ++ ys) others
behind_both xs ys None = refl
behind_both xs ys (Some found) = ap (λ all. Some (all, found.1)) (sym (append_assoc xs ys found.0))

pub behind_end : {A : Type 0} (xs : List A) (rest : List Token) → behind_all xs (Some ([], rest)) ≡ Some (xs, rest)
behind_end xs rest = ap (λ all. Some (all, rest)) (append-nil xs)

-- One or more with commas between them

-- one token is read
abbrev one_read : {A : Type 0} → (Token → Option A) → List Token → Option (A × List Token)
one_read of [] = None
one_read of (token ∷ tokens) = of token >>= λ x. Some (x, tokens)

name_is_one : (tokens : List Token) → name_read tokens ≡ one_read name_of tokens
name_is_one [] = refl
name_is_one (token ∷ tokens) = refl

item_is_one : (tokens : List Token) → item_read tokens ≡ one_read item_of tokens
item_is_one [] = refl
item_is_one (token ∷ tokens) = refl

front_is_behind : {A : Type 0} (x : A) (others : Option (List A × List Token)) → in_front (Some x) others ≡ behind_all (x ∷ []) others
front_is_behind x None = refl
front_is_behind x (Some found) = refl

one_some : {A : Type 0} (of : Token → Option A) (token : Token) (tokens after : List Token) (x : A) (y : Option A) → of token ≡ y
    → ◌>>=◌ {B = A × List Token} y (λ z. Some (z, tokens)) ≡ Some (x, after) → (of token ≡ Some x) × (tokens ≡ after)
one_some {A} of token tokens after x None f e = absurd (none-some (x, after) e)
one_some {A} of token tokens after x (Some y) f e =
    let same = same_Some (y, tokens) (x, after) e in
    (f ∙ ap (λ (r : A × List Token). Some r.0) same, ap (λ (r : A × List Token). r.1) same)

one_none : {A : Type 0} (of : Token → Option A) (token : Token) (tokens : List Token) (y : Option A) → of token ≡ y
    → ◌>>=◌ {B = A × List Token} y (λ z. Some (z, tokens)) ≡ None → of token ≡ None
one_none of token tokens None f e = f
one_none of token tokens (Some y) f e = absurd (none-some (y, tokens) (sym e))

begun : {A : Type 0} (of : Token → Option A) (tokens rest : List Token) (x : A) → one_read of tokens ≡ Some (x, rest)
    → some_read of tokens ≡ behind_all (x ∷ []) (further of rest)
begun of [] rest x e = absurd (none-some (x, rest) e)
begun of (token ∷ tokens) rest x e =
    let o = one_some of token tokens rest x (of token) refl e in
    ap (λ y. in_front y (further of tokens)) o.0 ∙ front_is_behind x (further of tokens) ∙ ap (λ t. behind_all (x ∷ []) (further of t)) o.1

not_begun : {A : Type 0} (of : Token → Option A) (tokens : List Token) → one_read of tokens ≡ None → some_read of tokens ≡ None
not_begun of [] e = refl
not_begun of (token ∷ tokens) e = ap (λ y. in_front y (further of tokens)) (one_none of token tokens (of token) refl e)

one_more : {A : Type 0} (of : Token → Option A) (rest others : List Token) (x : A) → is_comma_next (next rest) ≡ true
    → one_read of (behind rest) ≡ Some (x, others) → further of rest ≡ behind_all (x ∷ []) (further of others)
one_more of [] others x c e = absurd (false≢true c)
one_more of (token ∷ []) others x c e = absurd (none-some (x, others) e)
one_more of (token ∷ y ∷ rest) others x c e =
    let o = one_some of y rest others x (of y) refl e in
    ap (λ b. further_by b (of y) (further of rest) (token ∷ y ∷ rest)) c ∙ ap (λ z. in_front z (further of rest)) o.0 ∙ front_is_behind x (further of rest)
    ∙ ap (λ t. behind_all (x ∷ []) (further of t)) o.1

not_more : {A : Type 0} (of : Token → Option A) (rest : List Token) → is_comma_next (next rest) ≡ true → one_read of (behind rest) ≡ None
    → further of rest ≡ None
not_more of [] c e = absurd (false≢true c)
not_more of (token ∷ []) c e = ap (λ b. further_by b None None (token ∷ [])) c
not_more of (token ∷ y ∷ rest) c e =
    ap (λ b. further_by b (of y) (further of rest) (token ∷ y ∷ rest)) c ∙ ap (λ z. in_front z (further of rest)) (one_none of y rest (of y) refl e)

no_more : {A : Type 0} (of : Token → Option A) (rest : List Token) → is_comma_next (next rest) ≡ false → further of rest ≡ Some ([], rest)
no_more of [] c = refl
no_more of (token ∷ []) c = ap (λ b. further_by b None None (token ∷ [])) c
no_more of (token ∷ y ∷ rest) c = ap (λ b. further_by b (of y) (further of rest) (token ∷ y ∷ rest)) c

-- the loop of names
pub names_begun : (tokens rest : List Token) (x : Name) → name_read tokens ≡ Some (x, rest)
    → some_read name_of tokens ≡ behind_all (x ∷ []) (further name_of rest)
names_begun tokens rest x e = begun name_of tokens rest x (sym (name_is_one tokens) ∙ e)

pub names_more : (whole : Option (List Name × List Token)) (done : List Name) (rest others : List Token) (x : Name)
    → whole ≡ behind_all done (further name_of rest) → is_comma_next (next rest) ≡ true → name_read (behind rest) ≡ Some (x, others)
    → whole ≡ behind_all (done ++ x ∷ []) (further name_of others)
names_more whole done rest others x so c e =
    so ∙ ap (behind_all done) (one_more name_of rest others x c (sym (name_is_one (behind rest)) ∙ e)) ∙ behind_both done (x ∷ []) (further name_of others)

pub names_end : (whole : Option (List Name × List Token)) (done : List Name) (rest : List Token) → whole ≡ behind_all done (further name_of rest)
    → is_comma_next (next rest) ≡ false → whole ≡ Some (done, rest)
names_end whole done rest so c = so ∙ ap (behind_all done) (no_more name_of rest c) ∙ behind_end done rest

-- the loop of items
pub items_begun : (tokens rest : List Token) (x : DeclItem) → item_read tokens ≡ Some (x, rest)
    → some_read item_of tokens ≡ behind_all (x ∷ []) (further item_of rest)
items_begun tokens rest x e = begun item_of tokens rest x (sym (item_is_one tokens) ∙ e)

pub items_more : (whole : Option (List DeclItem × List Token)) (done : List DeclItem) (rest others : List Token) (x : DeclItem)
    → whole ≡ behind_all done (further item_of rest) → is_comma_next (next rest) ≡ true → item_read (behind rest) ≡ Some (x, others)
    → whole ≡ behind_all (done ++ x ∷ []) (further item_of others)
items_more whole done rest others x so c e =
    so ∙ ap (behind_all done) (one_more item_of rest others x c (sym (item_is_one (behind rest)) ∙ e)) ∙ behind_both done (x ∷ []) (further item_of others)

-- The loop of locals and statics

-- so many steps from here are what all of it is
pub record LocalsSo (tokens : List Token) (done : List LocalDecl) (rest : List Token) : Type 0 where
  pub steps : ℕ
  pub enough : length rest ≤ steps
  pub is : locals_read (suc (length tokens)) tokens ≡ behind_all done (locals_read (suc steps) rest)

pub locals_shorter : (kind : LocalKind) (rest others : List Token) (l : LocalDecl) → locals_one kind rest ≡ Some (l, others) → length others < length rest
locals_shorter kind rest others l e =
    let n = bind_parts (some_read name_of (behind rest)) _ (l, others) e in
    let s = bind_parts (sign_read is_semicolon n.0.1) _ (l, others) n.2 in
    let same : s.0
    ≡ others = ap (λ (r : LocalDecl × List Token). r.1) (same_Some (record { place = place_of rest; kind = kind; names = n.0.0 }, s.0) (l, others) s.2) in
    let f = some_sound name_of _ one_name (behind rest) n.0.0 n.0.1 n.1 in
    omega (
      arith,
      names_shorter n.0.0 (behind rest) n.0.1 f.spelled,
      sign_shorter (PunctuationKind Semicolon) n.0.1 s.0 (sign_sound is_semicolon (PunctuationKind Semicolon) semicolon_tests n.0.1 s.0 s.1),
      ap length same,
      behind_shorter rest,
    )
  where
    behind_shorter : (tokens : List Token) → length (behind tokens) ≤ length tokens
    behind_shorter [] = omega arith
    behind_shorter (token ∷ tokens) = omega arith

with_others : (l : LocalDecl) (others : Option (List LocalDecl × List Token)) → (others >>= λ found. Some (l ∷ found.0, found.1)) ≡ behind_all (l ∷ []) others
with_others l None = refl
with_others l (Some found) = refl

locals_step : (kind : LocalKind) (reads : List Token → Option (List LocalDecl × List Token)) (rest others : List Token) (l : LocalDecl)
    → locals_one kind rest ≡ Some (l, others) → locals_by (Some kind) reads rest ≡ behind_all (l ∷ []) (reads others)
locals_step kind reads rest others l e =
    let n = bind_parts (some_read name_of (behind rest)) _ (l, others) e in
    let s = bind_parts (sign_read is_semicolon n.0.1) _ (l, others) n.2 in
    let same = same_Some (record { place = place_of rest; kind = kind; names = n.0.0 }, s.0) (l, others) s.2 in
    ap (λ (o : Option (List Name × List Token)). o >>= λ names. sign_read is_semicolon names.1
    >>= λ r. reads r >>= λ found. Some (record { place = place_of rest; kind = kind; names = names.0 } ∷ found.0, found.1)) n.1
    ∙ ap (λ (o : Option (List Token)). o >>= λ r. reads r >>= λ found. Some (record { place = place_of rest; kind = kind; names = n.0.0 } ∷ found.0, found.1))
    s.1
    ∙ ap (λ (r : LocalDecl × List Token). reads r.1 >>= λ found. Some (r.0 ∷ found.0, found.1)) same
    ∙ with_others l (reads others)

pub locals_more : (tokens : List Token) (done : List LocalDecl) (rest others : List Token) (kind : LocalKind) (l : LocalDecl) → LocalsSo tokens done rest
    → local_kind (next rest) ≡ Some kind → locals_one kind rest ≡ Some (l, others) → LocalsSo tokens (done ++ l ∷ []) others
locals_more tokens done rest others kind l so k e = by_steps so.steps so.enough so.is
  where
    by_steps : (steps : ℕ) → length rest ≤ steps → locals_read (suc (length tokens)) tokens ≡ behind_all done (locals_read (suc steps) rest)
        → LocalsSo tokens (done ++ l ∷ []) others
    by_steps zero h is = absurd (omega (arith, h, locals_shorter kind rest others l e))
    by_steps (suc steps) h is = record {
      steps = steps;
      enough = omega (arith, h, locals_shorter kind rest others l e);
      is = is ∙ ap (behind_all done) (ap (λ k. locals_by k (locals_read (suc steps)) rest) k ∙ locals_step kind (locals_read (suc steps)) rest others l e)
          ∙ behind_both done (l ∷ []) (locals_read (suc steps) others);
    }

pub locals_begun : (tokens : List Token) → LocalsSo tokens [] tokens
locals_begun tokens = record { steps = length tokens; enough = omega arith; is = nothing_behind (locals_read (suc (length tokens)) tokens) }
  where
    nothing_behind : (o : Option (List LocalDecl × List Token)) → o ≡ behind_all [] o
    nothing_behind None = refl
    nothing_behind (Some found) = refl

pub map_last : {A B : Type 0} (f : A → B) (xs : List A) (x : A) → map f (xs ++ x ∷ []) ≡ map f xs ++ f x ∷ []
map_last f [] x = refl
map_last f (y ∷ xs) x = ap (λ ys. f y ∷ ys) (map_last f xs x)
