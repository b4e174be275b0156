-- Names and items are read exactly as the grammar has them.
use Rattle.std.proofs.Common.{◌≡◌, Bool, true, false, List, [], ◌∷◌, Option, Some, None, refl, sym, ap, subst, ◌∙◌}
use Rattle.std.proofs.lemmas.Option.{none-some, same_Some}
use Rattle.std.proofs.lemmas.Bool.{false≢true}
use Rattle.icn_tree.specs.declared.token.Kind.{Kind}
use Rattle.icn_tree.specs.declared.token.Kind.TheVariants.{Identifier as IdentifierKind, Text as TextKind, Punctuation as PunctuationKind}
use Rattle.icn_tree.specs.declared.token.Token.{Token}
use Rattle.icn_tree.specs.declared.token.Punctuation.TheVariants.{Comma}
use Rattle.icn_tree.specs.declared.tree.Place.{Place}
use Rattle.icn_tree.specs.declared.tree.Name.{Name}
use Rattle.icn_tree.specs.declared.tree.DeclItem.{DeclItem}
use Rattle.icn_tree.specs.declared.tree.DeclItem.TheVariants as Items
use Rattle.icn_tree.specs.Phrases.{Phrase, next, token_at, sign}
use Rattle.icn_tree.specs.Grammar.{identifier, mark}
use Rattle.icn_tree.specs.Declarations.{MoreWithCommas, WithCommas, SpellsItem}
use Rattle.icn_expr.specs.Automata.{behind}
use Rattle.icn_parse.specs.FileReading.{◌>>=◌, is_comma, name_at, name_of, item_at, item_of, sign_by, sign_read, in_front, further_by, further, some_read}

-- both steps of a reading that gave something gave something
pub bind_parts : {A B : Type 0} (o : Option A) (f : A → Option B) (y : B) → (o >>= f) ≡ Some y → (x : A) × (o ≡ Some x) × (f x ≡ Some y)
bind_parts None f y e = absurd (none-some y e)
bind_parts (Some x) f y e = (x, refl, e)

abbrev pub is_comma_next : Option Kind → Bool
is_comma_next None = false
is_comma_next (Some kind) = is_comma kind

-- one token is read exactly where it is spelled
pub record One {A : Type 0} (of : Token → Option A) (spells : A → Phrase) : Type 0 where
  pub reads : (x : A) (here after : List Token) → spells x here after → (token : Token) × (here ≡ token ∷ after) × (of token ≡ Some x)
  pub sound : (x : A) (token : Token) (after : List Token) → of token ≡ Some x → spells x (token ∷ after) after

name_sound : (name : Name) (kind : Kind) (place : Place) (after : List Token) → name_at kind place ≡ Some name
    → identifier name (token_at place kind ∷ after) after
name_sound name (IdentifierKind text) place after e =
    subst (λ n. identifier n (token_at place (IdentifierKind text) ∷ after) after) (same_Some (record { text = text; place = place }) name e) refl
name_sound name _ place after e = absurd (none-some name e)

pub one_name : One name_of identifier
one_name = record {
  reads = λ name here after s. (token_at name.place (IdentifierKind name.text), s, refl);
  sound = λ name token after e. name_sound name token.kind (record { line = token.line; file = token.file }) after e;
}

item_reads : (item : DeclItem) (here after : List Token) → SpellsItem item here after → (token : Token) × (here ≡ token ∷ after) × (item_of token ≡ Some item)
item_reads (Items.Identifier name) here after s = (token_at name.place (IdentifierKind name.text), s, refl)
item_reads (Items.Text name) here after s = (token_at name.place (TextKind name.text), s, refl)

item_sound : (item : DeclItem) (kind : Kind) (place : Place) (after : List Token) → item_at kind place ≡ Some item
    → SpellsItem item (token_at place kind ∷ after) after
item_sound item (IdentifierKind text) place after e = subst (λ i. SpellsItem i (token_at place (IdentifierKind text) ∷ after) after)
    (same_Some (Items.Identifier (record { text = text; place = place })) item e) refl
item_sound item (TextKind text) place after e =
    subst (λ i. SpellsItem i (token_at place (TextKind text) ∷ after) after) (same_Some (Items.Text (record { text = text; place = place })) item e) refl
item_sound item _ place after e = absurd (none-some item e)

pub one_item : One item_of SpellsItem
one_item = record {
  reads = item_reads;
  sound = λ item token after e. item_sound item token.kind (record { line = token.line; file = token.file }) after e;
}

pub next_sign : (kind : Kind) (here after : List Token) → sign kind here after → next here ≡ Some kind
next_sign kind here after s = ap next s.1

pub behind_sign : (kind : Kind) (here after : List Token) → sign kind here after → behind here ≡ after
behind_sign kind here after s = ap behind s.1

further_stops : {A : Type 0} (of : Token → Option A) (after : List Token) → is_comma_next (next after) ≡ false → further of after ≡ Some ([], after)
further_stops of [] e = refl
further_stops of (token ∷ []) e = ap (λ b. further_by b None None (token ∷ [])) e
further_stops of (token ∷ x ∷ rest) e = ap (λ b. further_by b (of x) (further of rest) (token ∷ x ∷ rest)) e

further_found : {A : Type 0} (of : Token → Option A) (spells : A → Phrase) → One of spells → (xs : List A) (here after : List Token)
    → MoreWithCommas spells xs here after → is_comma_next (next after) ≡ false → further of here ≡ Some (xs, after)
further_found of spells one [] here after s e = ap (further of) s ∙ further_stops of after e
further_found of spells one (x ∷ xs) here after s e =
    let o = one.reads x s.0 s.2.0 s.2.1 in
    ap (further of) (s.1.1 ∙ ap (λ tokens. token_at s.1.0 (PunctuationKind Comma) ∷ tokens) o.1)
    ∙ ap (λ y. in_front y (further of s.2.0)) o.2
    ∙ ap (in_front (Some x)) (further_found of spells one xs s.2.0 after s.2.2 e)

pub some_found : {A : Type 0} (of : Token → Option A) (spells : A → Phrase) → One of spells → (xs : List A) (here after : List Token)
    → WithCommas spells xs here after → is_comma_next (next after) ≡ false → some_read of here ≡ Some (xs, after)
some_found of spells one [] here after s e = absurd s
some_found of spells one (x ∷ xs) here after s e =
    let o = one.reads x here s.0 s.1 in
    ap (some_read of) o.1 ∙ ap (λ y. in_front y (further of s.0)) o.2 ∙ ap (in_front (Some x)) (further_found of spells one xs s.0 after s.2 e)

-- what was read behind commas
pub record Further {A : Type 0} (spells : List A → Phrase) (xs : List A) (here after : List Token) : Type 0 where
  pub spelled : spells xs here after
  pub stops : is_comma_next (next after) ≡ false

comma_token : (token : Token) → is_comma token.kind ≡ true → (tokens : List Token) → mark Comma (token ∷ tokens) tokens
comma_token token e tokens = comma_at token.kind (record { line = token.line; file = token.file }) e tokens
  where
    comma_at : (kind : Kind) (place : Place) → is_comma kind ≡ true → (tokens : List Token) → mark Comma (token_at place kind ∷ tokens) tokens
    comma_at (PunctuationKind Comma) place e tokens = (place, refl)
    comma_at _ place e tokens = absurd (false≢true e)

same_further : {A : Type 0} (spells : List A → Phrase) (here : List Token) (xs ys : List A) (after rest : List Token)
    → ◌≡◌ {A = List A × List Token} (xs, after) (ys, rest) → Further spells xs here after → Further spells ys here rest
same_further {A} spells here xs ys after rest e f = subst (λ (r : List A × List Token). Further spells r.0 here r.1) e f

further_step : {A : Type 0} (of : Token → Option A) (spells : A → Phrase) → One of spells
    → (comma : Bool) (token x : Token) (rest : List Token) (y : Option A) (others : Option (List A × List Token)) → is_comma token.kind ≡ comma → of x ≡ y
    → ((ys : List A) (r : List Token) → others ≡ Some (ys, r) → Further (MoreWithCommas spells) ys rest r)
    → (xs : List A) (after : List Token) → further_by comma y others (token ∷ x ∷ rest) ≡ Some (xs, after)
    → Further (MoreWithCommas spells) xs (token ∷ x ∷ rest) after
further_step of spells one true token x rest None others c o f xs after e = absurd (none-some (xs, after) e)
further_step of spells one true token x rest (Some y) None c o f xs after e = absurd (none-some (xs, after) e)
further_step of spells one true token x rest (Some y) (Some found) c o f xs after e =
    let g = f found.0 found.1 refl in
    same_further (MoreWithCommas spells) (token ∷ x ∷ rest) (y ∷ found.0) xs found.1 after (same_Some (y ∷ found.0, found.1) (xs, after) e)
    (record { spelled = (x ∷ rest, comma_token token c (x ∷ rest), (rest, one.sound y x rest o, g.spelled)); stops = g.stops })
further_step of spells one false token x rest y others c o f xs after e =
    same_further (MoreWithCommas spells) (token ∷ x ∷ rest) [] xs (token ∷ x ∷ rest) after (same_Some ([], token ∷ x ∷ rest) (xs, after) e)
    (record { spelled = refl; stops = c })

last_step : {A : Type 0} (spells : A → Phrase) (comma : Bool) (token : Token) → is_comma token.kind ≡ comma → (xs : List A) (after : List Token)
    → further_by comma None None (token ∷ []) ≡ Some (xs, after) → Further (MoreWithCommas spells) xs (token ∷ []) after
last_step spells true token c xs after e = absurd (none-some (xs, after) e)
last_step spells false token c xs after e =
    same_further (MoreWithCommas spells) (token ∷ []) [] xs (token ∷ []) after (same_Some ([], token ∷ []) (xs, after) e) (record { spelled = refl; stops = c })

further_sound : {A : Type 0} (of : Token → Option A) (spells : A → Phrase) → One of spells → (here : List Token) (xs : List A) (after : List Token)
    → further of here ≡ Some (xs, after) → Further (MoreWithCommas spells) xs here after
further_sound of spells one [] xs after e =
    same_further (MoreWithCommas spells) [] [] xs [] after (same_Some ([], []) (xs, after) e) (record { spelled = refl; stops = refl })
further_sound of spells one (token ∷ []) xs after e = last_step spells (is_comma token.kind) token refl xs after e
further_sound of spells one (token ∷ x ∷ rest) xs after e =
    further_step of spells one (is_comma token.kind) token x rest (of x) (further of rest) refl refl (further_sound of spells one rest) xs after e

some_step : {A : Type 0} (of : Token → Option A) (spells : A → Phrase)
    → One of spells → (token : Token) (tokens : List Token) (y : Option A) (others : Option (List A × List Token)) → of token ≡ y → further of tokens ≡ others
    → (xs : List A) (after : List Token) → in_front y others ≡ Some (xs, after) → Further (WithCommas spells) xs (token ∷ tokens) after
some_step of spells one token tokens None others o f xs after e = absurd (none-some (xs, after) e)
some_step of spells one token tokens (Some y) None o f xs after e = absurd (none-some (xs, after) e)
some_step of spells one token tokens (Some y) (Some found) o f xs after e =
    let g = further_sound of spells one tokens found.0 found.1 f in
    same_further (WithCommas spells) (token ∷ tokens) (y ∷ found.0) xs found.1 after (same_Some (y ∷ found.0, found.1) (xs, after) e)
    (record { spelled = (tokens, one.sound y token tokens o, g.spelled); stops = g.stops })

pub some_sound : {A : Type 0} (of : Token → Option A) (spells : A → Phrase) → One of spells → (here : List Token) (xs : List A) (after : List Token)
    → some_read of here ≡ Some (xs, after) → Further (WithCommas spells) xs here after
some_sound of spells one [] xs after e = absurd (none-some (xs, after) e)
some_sound of spells one (token ∷ tokens) xs after e = some_step of spells one token tokens (of token) (further of tokens) refl refl xs after e

-- Signs

kind_of : (token : Token) (tokens : List Token) (kind : Kind) → token.kind ≡ kind → sign kind (token ∷ tokens) tokens
kind_of token tokens kind e = (record { line = token.line; file = token.file }, ap (λ k. record { kind = k; line = token.line; file = token.file } ∷ tokens) e)

-- a test that one kind of token passes
pub record Tests (test : Option Kind → Bool) (kind : Kind) : Type 0 where
  pub passes : test (Some kind) ≡ true
  pub alone : (k : Kind) → test (Some k) ≡ true → k ≡ kind
  pub none : test None ≡ false

pub sign_found : (test : Option Kind → Bool) (kind : Kind) → Tests test kind → (here after : List Token) → sign kind here after
    → sign_read test here ≡ Some after
sign_found test kind t here after s =
    ap (λ b. sign_by b here) (ap test (next_sign kind here after s) ∙ t.passes) ∙ ap (λ tokens. Some tokens) (behind_sign kind here after s)

sign_at_next : (test : Option Kind → Bool) (kind : Kind) → Tests test kind → (here : List Token) → test (next here) ≡ true → sign kind here (behind here)
sign_at_next test kind t [] e = absurd (false≢true (sym t.none ∙ e))
sign_at_next test kind t (token ∷ tokens) e = kind_of token tokens kind (t.alone token.kind e)

sign_by_sound : (test : Option Kind → Bool) (kind : Kind) → Tests test kind → (b : Bool) (here after : List Token) → test (next here) ≡ b
    → sign_by b here ≡ Some after → sign kind here after
sign_by_sound test kind t true here after f e = subst (λ tokens. sign kind here tokens) (same_Some (behind here) after e) (sign_at_next test kind t here f)
sign_by_sound test kind t false here after f e = absurd (none-some after e)

-- a sign that is read is one of the grammar
pub sign_sound : (test : Option Kind → Bool) (kind : Kind) → Tests test kind → (here after : List Token) → sign_read test here ≡ Some after
    → sign kind here after
sign_sound test kind t here after e = sign_by_sound test kind t (test (next here)) here after refl e

pub no_comma : (kind : Kind) (here after : List Token) → sign kind here after → is_comma kind ≡ false → is_comma_next (next here) ≡ false
no_comma kind here after s e = ap is_comma_next (next_sign kind here after s) ∙ e
