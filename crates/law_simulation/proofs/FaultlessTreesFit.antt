-- A tree that breaks no rule fits where it stands, if what it mentions stands in the tables: one line a form.
use Rattle.std.proofs.Common.{◌≡◌, ◌||◌, ℕ, Bool, true, false, List, [], ◌∷◌, ◌++◌, Some, None, refl, sym, subst, inl, inr}
use Rattle.std.specs.Prelude.{◌⊎◌, slice_get, if◌then◌else◌}
use Rattle.std.specs.List.{list_any}
use Rattle.std.specs.Str.{bytes_eq}
use Rattle.std.proofs.lemmas.Bool.{false≢true}
use Rattle.icn_text.specs.Keywords.{keyword_name}
use Rattle.icn_text.specs.declared.keyword.Keyword.{Keyword as KeywordNamed}
use Rattle.icn_text.specs.declared.keyword.TheConstants.Keyword.{ALL as keywords_of_all}
use Rattle.icn_tree.specs.declared.token.Operator.{Operator}
use Rattle.icn_tree.specs.declared.token.Operator.TheVariants as Signs
use Rattle.icn_tree.specs.declared.tree.Place.{Place}
use Rattle.icn_tree.specs.declared.tree.Name.{Name}
use Rattle.icn_tree.specs.declared.tree.Literal.{Literal}
use Rattle.icn_tree.specs.declared.tree.Literal.TheVariants as Literals
use Rattle.icn_tree.specs.declared.tree.Infix.{Infix}
use Rattle.icn_tree.specs.declared.tree.Infix.TheVariants.{Plain, Augmented}
use Rattle.icn_tree.specs.declared.tree.LoopKind.{LoopKind}
use Rattle.icn_tree.specs.declared.tree.LoopKind.TheVariants.{While, Until, Every}
use Rattle.icn_tree.specs.TokenBounds.{is_augmented}
use Rattle.icn_tree.specs.Trees.{Tree, Trees, MaybeTree, Clauses, Initial, NoInitial, Initially, Empty, Constant, Identifier, Keyword, Parentheses, Listing, Compound, Call, CoCall, Subscript, Section, Field, Prefix, Not, Binary, To, If, Case, Loop, Repeat, Create, Next, Fail, Break, Return, Suspend, Absent, Present, NoTrees, More, Default, Guarded, NoClauses, MoreClauses, elements_of}
use Rattle.icn_parse.specs.Outcomes.{keywords, keywords_if, all_keywords, clauses_keywords, initial_keywords, is_known, first_unknown}
use Rattle.icn_decls.specs.Contexts.{BrokenRule, Context, outermost, create_context, enter_loop, leave_loop, result_faults, break_faults, next_faults}
use Rattle.icn_decls.specs.Faults.{faults, maybe_faults, all_faults, clauses_faults, initial_faults, next_in_control}
use Rattle.icn_value.specs.declared.cset.Cset.{Cset}
use Rattle.icn_value.specs.Values.{Chars, Val, Var, Whole}
use Rattle.icn_meaning.specs.Program.{meaning_of, index_of}
use Rattle.icn_meaning.specs.Calls.{fields_in}
use Rattle.icn_meaning.specs.Evaluate.{literal, keyword_among, step_of}
use Rattle.icn_meaning.specs.Succeed.{default_of}
use Rattle.icn_run.specs.Step.{field_index, members_of}
use Rattle.law_simulation.specs.Translation.{SymbolTable, literal_code}
use Rattle.law_simulation.specs.Linkage.{Linkage, Loads, l_integer, l_string, l_cset}
use Rattle.law_simulation.specs.Mentions.{TableMention, AnInteger, AText, ASet, AField, literal_mention, mentions, all_mentions, maybe_mentions, step_mentions, guarded_mentions, default_mentions, initial_mentions}
use Rattle.law_simulation.specs.StandingCode.{Nest, top, in_create, in_mark, in_scan, in_loop, in_control, in_each, Proper, w_top, w_mark, w_scan, w_loop, w_control, w_each, is_empty}
use Rattle.law_simulation.specs.Translatable.{outside, HasLoop, h_mark, h_scan, h_loop, h_control, h_each, HasNext, x_mark, x_scan, x_loop, x_each, Fits, fits_empty, fits_constant, fits_identifier, fits_keyword, fits_last, fits_before, fits_final, fits_passed, fits_bounded, fits_listing, fits_call, fits_cocall, fits_subscript, fits_section, fits_field, fits_prefix, fits_activate, fits_repeated, fits_not, fits_both, fits_scan, fits_or, fits_limit, fits_infix, fits_at, fits_bang, fits_update_both, fits_update_scan, fits_update_at, fits_update, fits_to, fits_if, fits_if_else, fits_case, fits_while, fits_until, fits_every, fits_repeat, fits_create, fits_next, fits_fail, fits_break, fits_return, fits_suspend, FitsAll, fits_nil, fits_cons, FitsBodies, fits_no_body, fits_body, FitsMaybe, fits_absent, fits_present, FitsDefault, fits_no_default, fits_default, FitsCases, fits_no_case, fits_other, fits_guard, FitsRest, fits_end, fits_skipped, fits_more, FitsRoutine, fits_plain, fits_blank, fits_initial}
use Rattle.law_simulation.proofs.FirstMentions.{test_by}
use Rattle.law_simulation.proofs.TreeForms.{is_before, is_between, IsInfix, FormedInitial, Formed, FormedMaybe, FormedSome, FormedAll, FormedClauses}

-- What is open around a place, as the rules see it and as the code does

data Around : Nest → Context → Type 0 where
  r_top : Around top outermost
  r_create : Around in_create create_context
  r_mark : {n : Nest} {c : Context} → Around n c → Around (in_mark n) c
  r_scan : {n : Nest} {c : Context} → Around n c → Around (in_scan n) c
  r_loop : {n : Nest} {c : Context} {l g : ℕ} → Around n c → Around (in_loop l g n) (enter_loop true c)
  r_control : {n : Nest} {c : Context} {l g : ℕ} → Around n c → Around (in_control l g n) (enter_loop false c)
  r_each : {n : Nest} {c : Context} {l g : ℕ} → Around n c → Around (in_each l g n) (enter_loop true c)

-- a result may be given in a procedure, outside `create`
proper : {n : Nest} {c : Context} (place : Place) → Around n c → result_faults c place ≡ [] → Proper n
proper place r_top h = w_top
proper place r_create h = absurd (cc)
proper place (r_mark r) h = w_mark (proper place r h)
proper place (r_scan r) h = w_scan (proper place r h)
proper place (r_loop r) h = w_loop (proper place r h)
proper place (r_control r) h = w_control (proper place r h)
proper place (r_each r) h = w_each (proper place r h)

-- `break` stands in a loop
has_loop : {n : Nest} {c : Context} (place : Place) → Around n c → break_faults c place ≡ [] → HasLoop n
has_loop place r_top h = absurd (cc)
has_loop place r_create h = absurd (cc)
has_loop place (r_mark r) h = h_mark (has_loop place r h)
has_loop place (r_scan r) h = h_scan (has_loop place r h)
has_loop place (r_loop r) h = h_loop
has_loop place (r_control r) h = h_control
has_loop place (r_each r) h = h_each

-- `next` stands in a loop, but not in the control expression of `every`
has_next : {n : Nest} {c : Context} (place : Place) → Around n c → next_faults c place ≡ [] → HasNext n
has_next place r_top h = absurd (cc)
has_next place r_create h = absurd (cc)
has_next place (r_mark r) h = x_mark (has_next place r h)
has_next place (r_scan r) h = x_scan (has_next place r h)
has_next place (r_loop r) h = x_loop
has_next place (r_control r) h = absurd (cc)
has_next place (r_each r) h = x_each

-- the operand of `break` stands outside the loop
outer : {n : Nest} {c : Context} → Around n c → Around (outside n) (leave_loop c)
outer r_top = r_top
outer r_create = r_create
outer (r_mark r) = outer r
outer (r_scan r) = outer r
outer (r_loop r) = r
outer (r_control r) = r
outer (r_each r) = r

-- Operators, by what they are before an operand, between two, and before `:=`

fit_prefix : {L : Linkage} {N : SymbolTable} {j : ℕ} {n : Nest} {e : Tree} (place : Place) (o : Operator)
    → is_before o ≡ true → Fits L N j n e → Fits L N j (in_mark n) e → Fits L N j n (Prefix place o e)
fit_prefix place Signs.At h e m = fits_activate e
fit_prefix place Signs.Bar h e m = fits_repeated m
fit_prefix place Signs.Slash h e m = fits_prefix refl e
fit_prefix place Signs.Backslash h e m = fits_prefix refl e
fit_prefix place Signs.Dot h e m = fits_prefix refl e
fit_prefix place Signs.Plus h e m = fits_prefix refl e
fit_prefix place Signs.Minus h e m = fits_prefix refl e
fit_prefix place Signs.Star h e m = fits_prefix refl e
fit_prefix place Signs.Tilde h e m = fits_prefix refl e
fit_prefix place Signs.Bang h e m = fits_prefix refl e
fit_prefix place Signs.Question h e m = fits_prefix refl e
fit_prefix place Signs.Equal h e m = fits_prefix refl e
fit_prefix place Signs.Caret h e m = fits_prefix refl e
fit_prefix place _ h e m = absurd (false≢true h)

fit_plain : {L : Linkage} {N : SymbolTable} {j : ℕ} {n : Nest} {a b : Tree} (place : Place) (o : Operator)
    → is_between o ≡ true → Fits L N j n a → Fits L N j (in_mark n) a → Fits L N j n b
    → Fits L N j (in_scan n) b → Fits L N j n (Binary place (Plain o) a b)
fit_plain place Signs.Ampersand h a m b s = fits_both a b
fit_plain place Signs.Question h a m b s = fits_scan a s
fit_plain place Signs.Bar h a m b s = fits_or m b
fit_plain place Signs.Backslash h a m b s = fits_limit m b
fit_plain place Signs.At h a m b s = fits_at a b
fit_plain place Signs.Bang h a m b s = fits_bang a b
fit_plain place Signs.Dot h a m b s = absurd (false≢true h)
fit_plain place Signs.Tilde h a m b s = absurd (false≢true h)
fit_plain place _ h a m b s = fits_infix refl a b

fit_update : {L : Linkage} {N : SymbolTable} {j : ℕ} {n : Nest} {a b : Tree} (place : Place) (o : Operator)
    → is_augmented o ≡ true → Fits L N j n a → Fits L N j n b → Fits L N j (in_scan n) b
    → Fits L N j n (Binary place (Augmented o) a b)
fit_update place Signs.Ampersand h a b s = fits_update_both a b
fit_update place Signs.Question h a b s = fits_update_scan a s
fit_update place Signs.At h a b s = fits_update_at a b
fit_update place Signs.Assign h a b s = absurd (false≢true h)
fit_update place Signs.Swap h a b s = absurd (false≢true h)
fit_update place Signs.ReversibleAssign h a b s = absurd (false≢true h)
fit_update place Signs.ReversibleSwap h a b s = absurd (false≢true h)
fit_update place Signs.Bang h a b s = absurd (false≢true h)
fit_update place Signs.Backslash h a b s = absurd (false≢true h)
fit_update place Signs.Bar h a b s = absurd (false≢true h)
fit_update place Signs.Dot h a b s = absurd (false≢true h)
fit_update place Signs.Tilde h a b s = absurd (false≢true h)
fit_update place _ h a b s = fits_update refl a b

fit_infix : {L : Linkage} {N : SymbolTable} {j : ℕ} {n : Nest} {a b : Tree} (place : Place) (o : Infix)
    → IsInfix o → Fits L N j n a → Fits L N j (in_mark n) a → Fits L N j n b → Fits L N j (in_scan n) b
    → Fits L N j n (Binary place o a b)
fit_infix place (Plain o) h a m b s = fit_plain place o h a m b s
fit_infix place (Augmented o) h a m b s = fit_update place o h a b s

-- Forms whose parts are known to fit

fit_if : {L : Linkage} {N : SymbolTable} {j : ℕ} {n : Nest} {c a : Tree} {b : MaybeTree} (place : Place)
    → Fits L N j (in_mark n) c → Fits L N j n a → FitsMaybe L N j n b → Fits L N j n (If place c a b)
fit_if place c a fits_absent = fits_if c a
fit_if place c a (fits_present b) = fits_if_else c a b

-- the nests of a loop's control expression and of its body
abbrev control_in : LoopKind → ℕ → ℕ → Nest → Nest
control_in While l g n = in_loop l g n
control_in Until l g n = in_loop l g n
control_in Every l g n = in_control l g n

abbrev body_in : LoopKind → ℕ → ℕ → Nest → Nest
body_in While l g n = in_loop l g n
body_in Until l g n = in_loop l g n
body_in Every l g n = in_each l g n

around_control : {n : Nest} {c : Context} (l g : ℕ) (kind : LoopKind) → Around n c
    → Around (control_in kind l g n) (enter_loop (next_in_control kind) c)
around_control l g While r = r_loop r
around_control l g Until r = r_loop r
around_control l g Every r = r_control r

around_body : {n : Nest} {c : Context} (l g : ℕ) (kind : LoopKind) → Around n c
    → Around (body_in kind l g n) (enter_loop true c)
around_body l g While r = r_loop r
around_body l g Until r = r_loop r
around_body l g Every r = r_each r

fit_loop : {L : Linkage} {N : SymbolTable} {j : ℕ} {n : Nest} {e : Tree} {b : MaybeTree} (place : Place)
    (kind : LoopKind) → ((l g : ℕ) → Fits L N j (in_mark (control_in kind l g n)) e)
    → ((l g : ℕ) → FitsMaybe L N j (in_mark (body_in kind l g n)) b) → Fits L N j n (Loop place kind e b)
fit_loop place While e b = fits_while e b
fit_loop place Until e b = fits_until e b
fit_loop place Every e b = fits_every e b

fit_subscript : {L : Linkage} {N : SymbolTable} {j : ℕ} {n : Nest} {e : Tree} (place : Place) (is : Trees)
    → FormedSome is → Fits L N j n e → FitsAll L N j n is → Fits L N j n (Subscript place e is)
fit_subscript place NoTrees f e h = absurd f
fit_subscript place (More i is) f e h = fits_subscript e h

conjunction_of : {L : Linkage} {N : SymbolTable} {j : ℕ} {n : Nest} {e : Tree} {es : Trees} (place : Place)
    → Fits L N j n e → FitsAll L N j n es → Fits L N j n (Parentheses place (More e es))
conjunction_of place e fits_nil = fits_last e
conjunction_of place e (fits_cons d ds) = fits_before e (conjunction_of place d ds)

fit_conjunction : {L : Linkage} {N : SymbolTable} {j : ℕ} {n : Nest} (place : Place) (es : Trees) → FormedSome es
    → FitsAll L N j n es → Fits L N j n (Parentheses place es)
fit_conjunction place NoTrees f h = absurd f
fit_conjunction place (More e es) f (fits_cons h hs) = conjunction_of place h hs

is_the_empty : (e : Tree) → is_empty e ≡ true → e ≡ Empty
is_the_empty Empty h = refl
is_the_empty _ h = absurd (false≢true h)

compound_of : {L : Linkage} {N : SymbolTable} {j : ℕ} {n : Nest} (place : Place) (e : Tree) (es : Trees)
    → Fits L N j (in_mark n) e → Fits L N j n e → FitsAll L N j (in_mark n) es → FitsAll L N j n es
    → Fits L N j n (Compound place (More e es))
compound_of place e NoTrees m h ms hs = fits_final h
compound_of {L} {N} {j} {n} place e (More d ds) m h (fits_cons m' ms) (fits_cons h' hs) =
    let later = compound_of place d ds m' h' ms hs in
    test_by (is_empty e) (λ t. subst (λ (e : Tree). Fits L N j n (Compound place (More e (More d ds))))
    (sym (is_the_empty e t)) (fits_passed later)) (λ t. fits_bounded t m later)

fit_compound : {L : Linkage} {N : SymbolTable} {j : ℕ} {n : Nest} (place : Place) (es : Trees) → FormedSome es
    → FitsAll L N j (in_mark n) es → FitsAll L N j n es → Fits L N j n (Compound place es)
fit_compound place NoTrees f ms hs = absurd f
fit_compound place (More e es) f (fits_cons m ms) (fits_cons h hs) = compound_of place e es m h ms hs

-- the elements of a list are the list, or none
elements_are : (es : Trees) → (elements_of es ≡ es) ⊎ (elements_of es ≡ NoTrees)
elements_are NoTrees = inl refl
elements_are (More Empty NoTrees) = inr refl
elements_are (More Empty (More d ds)) = inl refl
elements_are (More e es) = inl refl

elements_all : {L : Linkage} {N : SymbolTable} {j : ℕ} {n : Nest} (es : Trees) → (elements_of es ≡ es)
    ⊎ (elements_of es ≡ NoTrees) → FitsAll L N j n es → FitsAll L N j n (elements_of es)
elements_all {L} {N} {j} {n} es (inl e) h = subst (λ es. FitsAll L N j n es) (sym e) h
elements_all {L} {N} {j} {n} es (inr e) h = subst (λ es. FitsAll L N j n es) (sym e) fits_nil

elements_bodies : {L : Linkage} {N : SymbolTable} {j : ℕ} (es : Trees) → (elements_of es ≡ es)
    ⊎ (elements_of es ≡ NoTrees) → FitsBodies L N j es → FitsBodies L N j (elements_of es)
elements_bodies {L} {N} {j} es (inl e) h = subst (λ es. FitsBodies L N j es) (sym e) h
elements_bodies {L} {N} {j} es (inr e) h = subst (λ es. FitsBodies L N j es) (sym e) fits_no_body

formed_all : (es : Trees) → FormedSome es → FormedAll es
formed_all NoTrees f = tt
formed_all (More e es) f = f

-- Keywords

among_by : (text : List ℕ) (all : List KeywordNamed)
    → list_any (λ k. bytes_eq text (keyword_name k)) all ≡ true
    → (word : KeywordNamed) × (keyword_among text all ≡ Some word)
among_by text [] h = absurd (false≢true h)
among_by text (k ∷ all) h = by (bytes_eq text (keyword_name k)) h (among_by text all)
  where
    by : (b : Bool) → (b || list_any (λ k. bytes_eq text (keyword_name k)) all) ≡ true
        → (list_any (λ k. bytes_eq text (keyword_name k)) all ≡ true
        → (word : KeywordNamed) × (keyword_among text all ≡ Some word))
        → (word : KeywordNamed) × ((if b then Some k else keyword_among text all) ≡ Some word)
    by true h next = (k, refl)
    by false h next = next h

known_by : (b : Bool) (place : Place) → (if b then None else Some place) ≡ None → b ≡ true
known_by true place h = refl
known_by false place h = absurd (cc)

-- What the rules leave of a part

-- each of these mentions stands in the tables
abbrev pub AllKept : (TableMention → Type 0) → List TableMention → Type 0
AllKept Kept [] = Unit {0}
AllKept Kept (mention ∷ others) = Kept mention × AllKept Kept others

-- no rule is broken, no keyword is unknown, and each mention stands in the tables
pub record Clean (Kept : TableMention → Type 0) (broken : List BrokenRule) (names : List Name)
    (mentioned : List TableMention) : Type 0 where
  pub faultless : broken ≡ []
  pub known : first_unknown names ≡ None
  pub kept : AllKept Kept mentioned

pub none_before : (F G : List BrokenRule) → F ++ G ≡ [] → F ≡ []
none_before [] G h = refl
none_before (x ∷ F) G h = absurd (cc)

pub none_behind : (F G : List BrokenRule) → F ++ G ≡ [] → G ≡ []
none_behind [] G h = h
none_behind (x ∷ F) G h = absurd (cc)

known_before : (K H : List Name) → first_unknown (K ++ H) ≡ None → first_unknown K ≡ None
known_before [] H h = refl
known_before (x ∷ K) H h = by (is_known x.text) h (known_before K H)
  where
    by : (b : Bool) → (if b then first_unknown (K ++ H) else Some x.place) ≡ None
        → (first_unknown (K ++ H) ≡ None → first_unknown K ≡ None)
        → (if b then first_unknown K else Some x.place) ≡ None
    by true h next = next h
    by false h next = absurd (cc)

known_behind : (K H : List Name) → first_unknown (K ++ H) ≡ None → first_unknown H ≡ None
known_behind [] H h = h
known_behind (x ∷ K) H h = by (is_known x.text) h (known_behind K H)
  where
    by : (b : Bool) → (if b then first_unknown (K ++ H) else Some x.place) ≡ None
        → (first_unknown (K ++ H) ≡ None → first_unknown H ≡ None) → first_unknown H ≡ None
    by true h next = next h
    by false h next = absurd (cc)

pub kept_before : (Kept : TableMention → Type 0) (M S : List TableMention) → AllKept Kept (M ++ S) → AllKept Kept M
kept_before Kept [] S h = tt
kept_before Kept (x ∷ M) S h = (h.0, kept_before Kept M S h.1)

pub kept_behind : (Kept : TableMention → Type 0) (M S : List TableMention) → AllKept Kept (M ++ S) → AllKept Kept S
kept_behind Kept [] S h = h
kept_behind Kept (x ∷ M) S h = kept_behind Kept M S h.1

module _ {Kept : TableMention → Type 0} where
  -- of two parts of one of the three lists the first, and the second
  faults_before : {F : List BrokenRule} {K : List Name} {M : List TableMention} (G : List BrokenRule)
      → Clean Kept (F ++ G) K M → Clean Kept F K M
  faults_before {F} G x = record { faultless = none_before F G x.faultless; known = x.known; kept = x.kept }

  faults_behind : {G : List BrokenRule} {K : List Name} {M : List TableMention} (F : List BrokenRule)
      → Clean Kept (F ++ G) K M → Clean Kept G K M
  faults_behind {G} F x = record { faultless = none_behind F G x.faultless; known = x.known; kept = x.kept }

  names_before : {F : List BrokenRule} {K : List Name} {M : List TableMention} (H : List Name)
      → Clean Kept F (K ++ H) M → Clean Kept F K M
  names_before {K = K} H x = record
      { faultless = x.faultless; known = known_before K H x.known; kept = x.kept }

  names_behind : {F : List BrokenRule} {H : List Name} {M : List TableMention} (K : List Name)
      → Clean Kept F (K ++ H) M → Clean Kept F H M
  names_behind {H = H} K x = record
      { faultless = x.faultless; known = known_behind K H x.known; kept = x.kept }

  mentions_before : {F : List BrokenRule} {K : List Name} {M : List TableMention} (S : List TableMention)
      → Clean Kept F K (M ++ S) → Clean Kept F K M
  mentions_before {M = M} S x = record
      { faultless = x.faultless; known = x.known; kept = kept_before Kept M S x.kept }

  mentions_behind : {F : List BrokenRule} {K : List Name} {S : List TableMention} (M : List TableMention)
      → Clean Kept F K (M ++ S) → Clean Kept F K S
  mentions_behind {S = S} M x = record
      { faultless = x.faultless; known = x.known; kept = kept_behind Kept M S x.kept }

  -- of two parts of all three the first, and the second
  before : {F : List BrokenRule} {K : List Name} {M : List TableMention} (G : List BrokenRule) (H : List Name)
      (S : List TableMention) → Clean Kept (F ++ G) (K ++ H) (M ++ S) → Clean Kept F K M
  before G H S x = faults_before G (names_before H (mentions_before S x))

  behind : {G : List BrokenRule} {H : List Name} {S : List TableMention} (F : List BrokenRule) (K : List Name)
      (M : List TableMention) → Clean Kept (F ++ G) (K ++ H) (M ++ S) → Clean Kept G H S
  behind F K M x = faults_behind F (names_behind K (mentions_behind M x))

-- the operands of an operator; a limit is mentioned before what it limits
plain_parts : {Kept : TableMention → Type 0} (c : Context) (place : Place) (o : Operator) (a b : Tree)
    → Clean Kept (faults c a ++ faults c b) (keywords a ++ keywords b) (mentions (Binary place (Plain o) a b))
    → Clean Kept (faults c a) (keywords a) (mentions a) × Clean Kept (faults c b) (keywords b) (mentions b)
plain_parts c place Signs.Backslash a b x = (
  faults_before _ (names_before _ (mentions_behind _ x)),
  faults_behind _
      (names_behind _ (mentions_before _ x)),
)
plain_parts c place _ a b x = (before _ _ _ x, behind _ _ _ x)

operand_parts : {Kept : TableMention → Type 0} (c : Context) (place : Place) (o : Infix) (a b : Tree)
    → Clean Kept (faults c a ++ faults c b) (keywords a ++ keywords b) (mentions (Binary place o a b))
    → Clean Kept (faults c a) (keywords a) (mentions a) × Clean Kept (faults c b) (keywords b) (mentions b)
operand_parts c place (Plain o) a b x = plain_parts c place o a b x
operand_parts c place (Augmented o) a b x = (before _ _ _ x, behind _ _ _ x)

-- The instruction of what is kept takes it from its table.
abbrev pub IsKept : Linkage → SymbolTable → TableMention → Type 0
IsKept L N (AnInteger n) = slice_get L.tables.integers (N.integer n) ≡ Some n
IsKept L N (AText bytes) = slice_get L.tables.strings (N.string bytes) ≡ Some bytes
IsKept L N (ASet members) = (set : Cset) × (slice_get L.tables.csets (N.set members) ≡ Some set)
    × (members_of set ≡ members)
IsKept L N (AField name) = Unit {0}

-- each name of a procedure has the instruction of its variable, and each field is told by its number
pub record AreNamed (L : Linkage) (N : SymbolTable) (j : ℕ) : Type 0 where
  pub variables : (name : List ℕ) → Loads L j (N.variable name) (Var (Whole (meaning_of L.program j name)))
  pub fields : (name : List ℕ) (kind : ℕ)
      → index_of name (fields_in (slice_get L.program.kinds kind)) ≡ field_index L.tables (N.field name) kind

module _ (L : Linkage) (N : SymbolTable) (j : ℕ) (named : AreNamed L N j) where
  abbrev CleanHere : List BrokenRule → List Name → List TableMention → Type 0
  CleanHere broken names mentioned = Clean (IsKept L N) broken names mentioned

  loads_literal : (v : Literal) → IsKept L N (literal_mention v)
      → Loads L j (literal_code N v) (Val (literal v))
  loads_literal (Literals.Integer n) h = l_integer h
  loads_literal (Literals.Text bytes) h = l_string h
  loads_literal (Literals.Cset members) h =
      subst (λ (m : List ℕ). Loads L j (literal_code N (Literals.Cset members)) (Val (Chars m))) h.2
      (l_cset h.1)

  fit_keyword : {n : Nest} (place : Place) (name : Name) → first_unknown (name ∷ []) ≡ None
      → Fits L N j n (Keyword place name)
  fit_keyword place name h =
      let found = among_by name.text keywords_of_all (known_by (is_known name.text) name.place h) in
      fits_keyword found.1

  fit_field : {n : Nest} (place : Place) (x : Tree) (name : Name) → Fits L N j n x
      → Fits L N j n (Field place x name)
  fit_field place x name h = fits_field h (named.fields name.text)

  mutual
    fit : (e : Tree) {n : Nest} {c : Context} → Around n c → Formed e
        → CleanHere (faults c e) (keywords e) (mentions e) → Fits L N j n e
    fit Empty r f x = fits_empty
    fit (Constant place v) r f x = fits_constant (loads_literal v x.kept.0)
    fit (Identifier name) r f x = fits_identifier (named.variables name.text)
    fit (Keyword place name) r f x = fit_keyword place name x.known
    fit (Parentheses place es) r f x = fit_conjunction place es f (fit_all es r (formed_all es f) x)
    fit (Listing place es) r f x = fits_listing
        (elements_all es (elements_are es) (fit_all es r (formed_all es f) x))
    fit (Compound place es) r f x =
        fit_compound place es f (fit_all es (r_mark r) (formed_all es f) x) (fit_all es r (formed_all es f) x)
    fit (Call place g es) r f x = fits_call (fit g r f.0 (before _ _ _ x))
        (elements_all es (elements_are es) (fit_all es r (formed_all es f.1) (behind _ _ _ x)))
    fit (CoCall place g es) r f x =
        fits_cocall (fit g r f.0 (before _ _ _ x))
        (elements_bodies es (elements_are es) (fit_bodies es (formed_all es f.1) (behind _ _ _ x)))
    fit (Subscript place e is) r f x =
        fit_subscript place is f.1 (fit e r f.0 (before _ _ _ x))
        (fit_all is r (formed_all is f.1) (behind _ _ _ x))
    fit (Section place kind e a b) r f x =
        fits_section (fit e r f.0 (before _ _ _ x)) (fit a r f.1 (before _ _ _ (behind _ _ _ x)))
        (fit b r f.2 (behind _ _ _ (behind _ _ _ x)))
    fit (Field place e name) r f x = fit_field place e name (fit e r f (mentions_before _ x))
    fit (Prefix place o e) r f x = fit_prefix place o f.0 (fit e r f.1 x) (fit e (r_mark r) f.1 x)
    fit (Not place e) r f x = fits_not (fit e (r_mark r) f x)
    fit (Binary place o a b) {c = c} r f x = let p = operand_parts c place o a b x in
        fit_infix place o f.0 (fit a r f.1 p.0) (fit a (r_mark r) f.1 p.0) (fit b r f.2 p.1)
        (fit b (r_scan r) f.2 p.1)
    fit (To place a b by) r f x = fits_to (fit a r f.0 (before _ _ _ x))
        (fit b r f.1 (before _ _ _ (behind _ _ _ x)))
        (fit_step by place r f.2 (behind _ _ _ (behind _ _ _ x)))
    fit (If place e a b) r f x = fit_if place (fit e (r_mark r) f.0 (before _ _ _ x))
        (fit a r f.1 (before _ _ _ (behind _ _ _ x))) (fit_maybe b r f.2 (behind _ _ _ (behind _ _ _ x)))
    fit (Case place e cases) r f x =
        fits_case (fit e (r_mark r) f.0 (before _ _ _ x))
        (fit_cases cases false r f.1 (mentions_before _ (behind _ _ _ x)))
        (fit_default cases false r f.1 (mentions_behind _ (behind _ _ _ x)))
    fit (Loop place kind e b) r f x =
        fit_loop place kind (λ l g. fit e (r_mark (around_control l g kind r)) f.0 (before _ _ _ x))
        (λ l g. fit_maybe b (r_mark (around_body l g kind r)) f.1 (behind _ _ _ x))
    fit (Repeat place b) r f x = fits_repeat (λ l g. fit b (r_mark (r_loop r)) f x)
    fit (Create place e) r f x = fits_create (fit e (r_mark r_create) f x)
    fit (Next place) r f x = fits_next (has_next place r x.faultless)
    fit (Fail place) r f x = fits_fail (proper place r x.faultless)
    fit (Break place e) r f x = fits_break (has_loop place r (none_before _ _ x.faultless))
        (fit e (outer r) f (faults_behind _ x))
    fit (Return place e) r f x = fits_return (proper place r (none_before _ _ x.faultless))
        (fit e (r_mark r) f (faults_behind _ x))
    fit (Suspend place e b) r f x =
        fits_suspend (proper place r (none_before _ _ x.faultless))
        (fit e (r_mark r) f.0 (before _ _ _ (faults_behind _ x)))
        (fit_maybe b (r_mark (r_mark r)) f.1 (behind _ _ _ (faults_behind _ x)))

    fit_all : (es : Trees) {n : Nest} {c : Context} → Around n c → FormedAll es
        → CleanHere (all_faults c es) (all_keywords es) (all_mentions es) → FitsAll L N j n es
    fit_all NoTrees r f x = fits_nil
    fit_all (More e es) r f x = fits_cons (fit e r f.0 (before _ _ _ x)) (fit_all es r f.1 (behind _ _ _ x))

    fit_bodies : (es : Trees) → FormedAll es
        → CleanHere (all_faults create_context es) (all_keywords es) (all_mentions es) → FitsBodies L N j es
    fit_bodies NoTrees f x = fits_no_body
    fit_bodies (More e es) f x = fits_body (fit e (r_mark r_create) f.0 (before _ _ _ x))
        (fit_bodies es f.1 (behind _ _ _ x))

    fit_maybe : (b : MaybeTree) {n : Nest} {c : Context} → Around n c → FormedMaybe b
        → CleanHere (maybe_faults c b) (keywords_if b) (maybe_mentions b) → FitsMaybe L N j n b
    fit_maybe Absent r f x = fits_absent
    fit_maybe (Present b) r f x = fits_present (fit b r f x)

    fit_step : (by : MaybeTree) {n : Nest} {c : Context} (place : Place) → Around n c → FormedMaybe by
        → CleanHere (maybe_faults c by) (keywords_if by) (step_mentions by) → Fits L N j n (step_of place by)
    fit_step Absent place r f x = fits_constant (l_integer x.kept.0)
    fit_step (Present by) place r f x = fit by r f x

    fit_cases : (cases : Clauses) {n : Nest} {c : Context} (b : Bool) → Around n c → FormedClauses cases
        → CleanHere (clauses_faults c b cases) (clauses_keywords cases) (guarded_mentions cases)
        → FitsCases L N j n cases
    fit_cases NoClauses b r f x = fits_no_case
    fit_cases (MoreClauses (Default place e) cases) b r f x =
        fits_other (fit_cases cases true r f.1 (faults_behind _ (names_behind _ x)))
    fit_cases (MoreClauses (Guarded place g e) cases) b r f x =
        fits_guard (fit g (r_mark r) f.0.0 (before _ _ _ (before _ _ _ x)))
        (fit e r f.0.1 (behind _ _ _ (before _ _ _ x))) (fit_cases cases b r f.1 (behind _ _ _ x))

    fit_default : (cases : Clauses) {n : Nest} {c : Context} (b : Bool) → Around n c → FormedClauses cases
        → CleanHere (clauses_faults c b cases) (clauses_keywords cases) (default_mentions cases)
        → FitsDefault L N j n (default_of cases)
    fit_default NoClauses b r f x = fits_no_default
    fit_default (MoreClauses (Default place e) cases) b r f x =
        fits_default (fit e r f.0 (faults_behind _ (faults_before _ (names_before _ x))))
    fit_default (MoreClauses (Guarded place g e) cases) b r f x =
        fit_default cases b r f.1 (faults_behind _ (names_behind _ x))

  fit_rest : (es : Trees) → FormedAll es
      → CleanHere (all_faults outermost es) (all_keywords es) (all_mentions es) → FitsRest L N j es
  fit_rest NoTrees f x = fits_end
  fit_rest (More e es) f x =
      let later = fit_rest es f.1 (behind _ _ _ x) in
      test_by (is_empty e) (λ h. subst (λ (e : Tree). FitsRest L N j (More e es)) (sym (is_the_empty e h))
      (fits_skipped later)) (λ h. fits_more h (fit e (r_mark r_top) f.0 (before _ _ _ x)) later)

  -- a procedure
  pub fit_routine : (initial : Initial) (es : Trees) → FormedInitial initial → FormedAll es
      → CleanHere (initial_faults initial ++ all_faults outermost es)
      (initial_keywords initial ++ all_keywords es) (initial_mentions initial ++ all_mentions es)
      → FitsRoutine L N j initial es
  fit_routine NoInitial es f g x = fits_plain (fit_rest es g x)
  fit_routine (Initially place e) es f g x =
      let later = fit_rest es g (behind _ _ _ x) in
      test_by (is_empty e) (λ h. subst (λ (e : Tree). FitsRoutine L N j (Initially place e) es)
      (sym (is_the_empty e h)) (fits_blank later))
      (λ h. fits_initial h (fit e (r_mark r_top) f (before _ _ _ x)) later)
