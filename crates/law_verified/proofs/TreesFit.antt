-- The trees of files that break no rule fit.
use Rattle.std.proofs.Common.{◌≡◌, ℕ, Bool, true, false, List, [], ◌∷◌, Some, refl, sym, subst}
use Rattle.icn_text.specs.declared.op.Op.{Op}
use Rattle.icn_tree.specs.declared.token.Operator.{Operator}
use Rattle.icn_tree.specs.declared.tree.Place.{Place}
use Rattle.icn_tree.specs.Trees as T
use Rattle.icn_tree.specs.Trees.{Tree, Trees, MaybeTree, Clauses, Absent, Present, NoTrees, More, Default, Guarded, NoClauses, MoreClauses, elements_of, Initial}
use Rattle.icn_meaning.specs.Operators.{prefix_op, infix_op, update_op}
use Rattle.icn_meaning.specs.Evaluate.{step_of}
use Rattle.icn_meaning.specs.Succeed.{default_of}
use Rattle.law_simulation.specs.Translation.{SymbolTable, form_of, update_of, prefix_of}
use Rattle.law_simulation.specs.Linkage.{Linkage, f_field}
use Rattle.law_simulation.specs.StandingCode.{Nest, top, in_create, in_mark, in_scan, in_loop, in_control, in_each, Proper, w_top, w_mark, w_scan, w_loop, w_control, w_each}
use Rattle.law_simulation.specs.Translatable.{outside, HasLoop, h_mark, h_scan, h_loop, h_control, h_each, HasNext, x_mark, x_scan, x_loop, x_each, Fits, fits_empty, fits_constant, fits_identifier, fits_keyword, fits_last, fits_before, fits_final, fits_passed, fits_bounded, fits_listing, fits_call, fits_cocall, fits_subscript, fits_section, fits_field, fits_prefix, fits_activate, fits_repeated, fits_not, fits_both, fits_scan, fits_or, fits_limit, fits_infix, fits_at, fits_bang, fits_update_both, fits_update_scan, fits_update_at, fits_update, fits_to, fits_if, fits_if_else, fits_case, fits_while, fits_until, fits_every, fits_repeat, fits_create, fits_next, fits_fail, fits_break, fits_return, fits_suspend, FitsAll, fits_nil, fits_cons, FitsBodies, fits_no_body, fits_body, FitsMaybe, fits_absent, fits_present, FitsDefault, fits_no_default, fits_default, FitsCases, fits_no_case, fits_other, fits_guard, FitsRest, fits_end, fits_skipped, fits_more, FitsRoutine, fits_plain, fits_blank, fits_initial}
use Rattle.law_simulation.proofs.OperatorForms.{prefix_is, prefix_arity, infix_is, infix_arity, update_is, update_arity}
use Rattle.law_verified.specs.FittingTrees.{x_both, x_scan as i_scan, x_either, x_limit, x_at, x_bang, Infixes, x_op, u_both, u_scan, u_at, Augments, u_op, Prefixes, p_at, p_bar, p_op, IsKeyword, k_word, Fit, FitAll, FitCreates, FitBy, FitMaybe, FitClauses, FitDefault, MayNext}
use Rattle.law_verified.specs.TranslationLaws.{FitInitial}

-- the open loops, each with whether `next` may stand there
abbrev loops : Nest → List Bool
loops top = []
loops in_create = []
loops (in_mark n) = loops n
loops (in_scan n) = loops n
loops (in_loop l g n) = true ∷ loops n
loops (in_control l g n) = false ∷ loops n
loops (in_each l g n) = true ∷ loops n

-- whether it is in no co-expression's body
abbrev proper : Nest → Bool
proper top = true
proper in_create = false
proper (in_mark n) = proper n
proper (in_scan n) = proper n
proper (in_loop l g n) = proper n
proper (in_control l g n) = proper n
proper (in_each l g n) = proper n

is_proper : {n : Nest} → Proper n → proper n ≡ true
is_proper w_top = refl
is_proper (w_mark w) = is_proper w
is_proper (w_scan w) = is_proper w
is_proper (w_loop w) = is_proper w
is_proper (w_control w) = is_proper w
is_proper (w_each w) = is_proper w

may_next : {n : Nest} → HasNext n → MayNext (loops n)
may_next (x_mark h) = may_next h
may_next (x_scan h) = may_next h
may_next x_loop = refl
may_next x_each = refl

-- a `break` leaves the innermost loop
breaks : (L : Linkage) (j : ℕ) (N : SymbolTable) {n : Nest} (place : Place) (e : Tree) → HasLoop n → Fit L j N (loops (outside n)) (proper (outside n)) e
    → Fit L j N (loops n) (proper n) (T.Break place e)
breaks L j N place e (h_mark h) f = breaks L j N place e h f
breaks L j N place e (h_scan h) f = breaks L j N place e h f
breaks L j N place e h_loop f = f
breaks L j N place e h_control f = f
breaks L j N place e h_each f = f

-- Operators

before : (o : Operator) {op : Op} → prefix_op o ≡ Some op → Prefixes o (prefix_of o)
before o e = subst (λ form. Prefixes o form) (sym (prefix_is o e)) (p_op e (prefix_arity o e))

between : (o : Operator) {op : Op} → infix_op o ≡ Some op → Infixes o (form_of o)
between o e = subst (λ form. Infixes o form) (sym (infix_is o e)) (x_op e (infix_arity o e))

augmented : (o : Operator) {op : Op} → update_op o ≡ Some op → Augments o (update_of o)
augmented o e = subst (λ form. Augments o form) (sym (update_is o e)) (u_op e (update_arity o e))

module _ (L : Linkage) (j : ℕ) (N : SymbolTable) where
  -- a list of one empty expression has no element
  all_of : (B : List Bool) (c : Bool) (es : Trees) → FitAll L j N B c (elements_of es) → FitAll L j N B c es
  all_of B c NoTrees f = f
  all_of B c (More T.Empty NoTrees) f = (tt, tt)
  all_of B c (More T.Empty (More e es)) f = f
  all_of B c (More e es) f = f

  creates_of : (es : Trees) → FitCreates L j N (elements_of es) → FitCreates L j N es
  creates_of NoTrees f = f
  creates_of (More T.Empty NoTrees) f = (tt, tt)
  creates_of (More T.Empty (More e es)) f = f
  creates_of (More e es) f = f

  by_of : (B : List Bool) (c : Bool) (place : Place) (by : MaybeTree) → Fit L j N B c (step_of place by) → FitBy L j N B c by
  by_of B c place Absent f = f
  by_of B c place (Present e) f = f

  -- the first default
  default_of_cases : (cases : Clauses) (B : List Bool) (c : Bool) → FitMaybe L j N B c (default_of cases) → FitDefault L j N B c cases
  default_of_cases NoClauses B c f = tt
  default_of_cases (MoreClauses (Default place e) cases) B c f = f
  default_of_cases (MoreClauses (Guarded place e b) cases) B c f = default_of_cases cases B c f

  mutual
    pub fit : {n : Nest} {e : Tree} → Fits L N j n e → Fit L j N (loops n) (proper n) e
    fit fits_empty = tt
    fit (fits_constant l) = l
    fit (fits_identifier l) = l
    fit (fits_keyword {word = word} e) = subst (λ found. IsKeyword found) (sym e) (k_word word)
    fit (fits_last f) = (tt, (fit f, tt))
    fit (fits_before f g) = (tt, (fit f, (fit g).1))
    fit (fits_final f) = (tt, (fit f, tt))
    fit (fits_passed g) = (tt, (tt, (fit g).1))
    fit (fits_bounded b f g) = (tt, (fit f, (fit g).1))
    fit (fits_listing f) = all_of _ _ _ (fit_all f)
    fit (fits_call f g) = (fit f, all_of _ _ _ (fit_all g))
    fit (fits_cocall f g) = (fit f, creates_of _ (fit_bodies g))
    fit (fits_subscript f g) = (fit f, tt, fit_all g)
    fit (fits_section f g h) = (fit f, fit g, fit h)
    fit (fits_field f g) = (fit f, f_field g)
    fit (fits_prefix {o = o} e f) = (before o e, fit f)
    fit (fits_activate f) = (p_at, fit f)
    fit (fits_repeated f) = (p_bar, fit f)
    fit (fits_not f) = fit f
    fit (fits_both f g) = (x_both, fit f, fit g)
    fit (fits_scan f g) = (i_scan, fit f, fit g)
    fit (fits_or f g) = (x_either, fit f, fit g)
    fit (fits_limit f g) = (x_limit, fit f, fit g)
    fit (fits_infix {o = o} e f g) = (between o e, fit f, fit g)
    fit (fits_at f g) = (x_at, fit f, fit g)
    fit (fits_bang f g) = (x_bang, fit f, fit g)
    fit (fits_update_both f g) = (u_both, fit f, fit g)
    fit (fits_update_scan f g) = (u_scan, fit f, fit g)
    fit (fits_update_at f g) = (u_at, fit f, fit g)
    fit (fits_update {o = o} e f g) = (augmented o e, fit f, fit g)
    fit (fits_to {place = place} {by = by} f g h) = (fit f, fit g, by_of _ _ place by (fit h))
    fit (fits_if f g) = (fit f, fit g, tt)
    fit (fits_if_else f g h) = (fit f, fit g, fit h)
    fit (fits_case {cases = cases} f g h) = (fit f, fit_cases g, default_of_cases cases _ _ (fit_default h))
    fit (fits_while f g) = (fit (f 0 0), fit_maybe (g 0 0))
    fit (fits_until f g) = (fit (f 0 0), fit_maybe (g 0 0))
    fit (fits_every f g) = (fit (f 0 0), fit_maybe (g 0 0))
    fit (fits_repeat f) = fit (f 0 0)
    fit (fits_create f) = fit f
    fit (fits_next h) = may_next h
    fit (fits_fail w) = is_proper w
    fit (fits_break {place = place} {e = e} h f) = breaks L j N place e h (fit f)
    fit (fits_return w f) = (is_proper w, fit f)
    fit (fits_suspend w f g) = (is_proper w, fit f, fit_maybe g)

    fit_all : {n : Nest} {es : Trees} → FitsAll L N j n es → FitAll L j N (loops n) (proper n) es
    fit_all fits_nil = tt
    fit_all (fits_cons f g) = (fit f, fit_all g)

    fit_bodies : {es : Trees} → FitsBodies L N j es → FitCreates L j N es
    fit_bodies fits_no_body = tt
    fit_bodies (fits_body f g) = (fit f, fit_bodies g)

    fit_maybe : {n : Nest} {b : MaybeTree} → FitsMaybe L N j n b → FitMaybe L j N (loops n) (proper n) b
    fit_maybe fits_absent = tt
    fit_maybe (fits_present f) = fit f

    fit_default : {n : Nest} {b : MaybeTree} → FitsDefault L N j n b → FitMaybe L j N (loops n) (proper n) b
    fit_default fits_no_default = tt
    fit_default (fits_default f) = fit f

    fit_cases : {n : Nest} {cases : Clauses} → FitsCases L N j n cases → FitClauses L j N (loops n) (proper n) cases
    fit_cases fits_no_case = tt
    fit_cases (fits_other g) = (tt, fit_cases g)
    fit_cases (fits_guard f g h) = ((fit f, fit g), fit_cases h)

  fit_rest : {es : Trees} → FitsRest L N j es → FitAll L j N [] true es
  fit_rest fits_end = tt
  fit_rest (fits_skipped g) = (tt, fit_rest g)
  fit_rest (fits_more b f g) = (fit f, fit_rest g)

  -- the `initial` and the body of a procedure
  pub fit_routine : {initial : Initial} {body : Trees} → FitsRoutine L N j initial body → FitInitial L j N initial × FitAll L j N [] true body
  fit_routine (fits_plain f) = (tt, fit_rest f)
  fit_routine (fits_blank f) = (tt, fit_rest f)
  fit_routine (fits_initial b f g) = (fit f, fit_rest g)
