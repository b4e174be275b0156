-- From what is read to the outcome of the tokens.
use Rattle.std.proofs.Common.{◌≡◌, ℕ, max, Bool, true, false, cond, nat_le, inl, inr, List, [], ◌∷◌, ◌++◌, length, map, Option, Some, None, refl, sym, ap, subst, ◌∙◌, arith, append_assoc, append-nil}
use Rattle.std.proofs.lemmas.Bool.{false≢true, leb-false, leb-true, lt-leb, le-leb}
use Rattle.std.proofs.lemmas.Option.{none-some, same_Some}
use Rattle.std.specs.Option.{option_map}
use Rattle.icn_tree.specs.declared.token.Token.{Token}
use Rattle.icn_tree.specs.declared.tree.Place.{Place}
use Rattle.icn_tree.specs.declared.tree.Name.{Name}
use Rattle.icn_tree.specs.Trees.{Tree, Trees, Clauses, Initial, NoInitial, Initially, Procedure, Declaration, Global, Link, Invocable, Record, ProcedureOf}
use Rattle.icn_tree.specs.Declarations.{IsTreeOf, HasTree}
use Rattle.icn_tree.proofs.OneFileTree.{one_file}
use Rattle.icn_expr.specs.Capped.{WithHeight, capped_at, builds_with_height, kept_tree}
use Rattle.icn_expr.specs.Heights.{height, highest, initial_height, procedure_height}
use Rattle.icn_expr.proofs.CappedRuns.{capped_shows, shown_tree, shown_trees}
use Rattle.icn_parse.specs.FileReading.{file_read}
use Rattle.icn_parse.specs.KeptDeclarations.{CappedProcedure, CappedDeclaration, IsKept, IsTooHigh, finish_initial, finish_procedure, finish, high_with, done_with, kept_declarations}
use Rattle.icn_parse.specs.Outcomes.{ProfileFault, UnknownKeyword, Parsed, NoProgram, TooHigh, Faulty, IsTree, IsOutcome, no_program, too_high, faulty, is_tree, first_too_high, first_fault}
use Rattle.icn_tree.specs.declared.rule.Rule.{Rule}
use Rattle.icn_tree.specs.declared.rule.Rule.TheVariants.{S1}
use Rattle.icn_tree.specs.Phrases.{place_of}
use Rattle.icn_tree.specs.Pieces.{pieces}
use Rattle.icn_parse.specs.declared.fault.ParseFault.{ParseFault}
use Rattle.icn_parse.specs.declared.fault.ParseFault.TheVariants.{Broken}
use Rattle.icn_parse.specs.declared.check.Unfit.{Unfit}
use Rattle.icn_parse.specs.declared.check.Unfit.TheVariants as U
use Rattle.icn_parse.specs.declared.stop.ParseStop.{ParseStop}
use Rattle.icn_parse.specs.declared.stop.ParseStop.TheVariants.{NotHere, NoMemory}
use Rattle.icn_parse.specs.Views.{ReadsNothing, Breaks, DecidesTree, IsLowTree, UnspelledAt, broken_by, fault_at, fault_of_unfit}
use Rattle.icn_parse.proofs.DeclarationsExact as Exact
use Rattle.icn_parse.proofs.FirstUnspelled.{one_unspelled, some_unspelled, unspelled_no_tree}

-- what the code keeps of a declaration
abbrev shown : Declaration → CappedDeclaration
shown = Exact.shown_declaration (WithHeight Tree) (WithHeight Trees) (WithHeight Clauses) builds_with_height capped_shows

kept_by : {A : Type 0} (x : A) (h : ℕ) (b : Bool) → nat_le h 2000 ≡ b → kept_tree (capped_at x h) ≡ cond b (Some x) None
kept_by x h true e = ap (λ b. kept_tree (cond b (Some (x, h)) None)) e
kept_by x h false e = ap (λ b. kept_tree (cond b (Some (x, h)) None)) e

kept_at : {A : Type 0} (x : A) (h : ℕ) → kept_tree (capped_at x h) ≡ cond (nat_le h 2000) (Some x) None
kept_at x h = kept_by x h (nat_le h 2000) refl

finish_first : (initial : Initial)
    → finish_initial (Exact.shown_initial (WithHeight Tree) (WithHeight Trees) (WithHeight Clauses) builds_with_height capped_shows initial)
    ≡ cond (nat_le (initial_height initial) 2000) (Some initial) None
finish_first NoInitial = refl
finish_first (Initially place value) = ap (λ v. option_map (Initially place) (kept_tree v)) (shown_tree value)
    ∙ ap (option_map (Initially place)) (kept_at value (height value)) ∙ within (nat_le (height value) 2000)
  where
    within : (b : Bool) → option_map (Initially place) (cond b (Some value) None) ≡ cond b (Some (Initially place value)) None
    within true = refl
    within false = refl

-- a procedure is kept exactly where none of its trees is too high
both_low : (h k : ℕ) → nat_le h 2000 ≡ true → nat_le k 2000 ≡ true → nat_le (max h k) 2000 ≡ true
both_low h k e f = le-leb (max h k) 2000 (omega (arith, leb-true h 2000 e, leb-true k 2000 f))

first_high : (h k : ℕ) → nat_le h 2000 ≡ false → nat_le (max h k) 2000 ≡ false
first_high h k e = lt-leb (max h k) 2000 (omega (arith, leb-false h 2000 e))

second_high : (h k : ℕ) → nat_le k 2000 ≡ false → nat_le (max h k) 2000 ≡ false
second_high h k e = lt-leb (max h k) 2000 (omega (arith, leb-false k 2000 e))

by_heights : (p : Procedure) (a b : Bool) → nat_le (initial_height p.initial) 2000 ≡ a → nat_le (highest p.body) 2000 ≡ b
    → (over : CappedProcedure) → over.name ≡ p.name → finish_procedure over (Some p.initial) (Some p.body) ≡ IsKept (ProcedureOf p)
    → finish_procedure over (cond a (Some p.initial) None) (cond b (Some p.body) None)
    ≡ cond (nat_le (procedure_height p) 2000) (IsKept (ProcedureOf p)) (IsTooHigh p.name.place)
by_heights p true true e f over n h =
    h ∙ ap (λ c. cond c (IsKept (ProcedureOf p)) (IsTooHigh p.name.place)) (sym (both_low (initial_height p.initial) (highest p.body) e f))
by_heights p true false e f over n h = ap (λ (name : Name). IsTooHigh name.place) n
    ∙ ap (λ c. cond c (IsKept (ProcedureOf p)) (IsTooHigh p.name.place)) (sym (second_high (initial_height p.initial) (highest p.body) f))
by_heights p false true e f over n h = ap (λ (name : Name). IsTooHigh name.place) n
    ∙ ap (λ c. cond c (IsKept (ProcedureOf p)) (IsTooHigh p.name.place)) (sym (first_high (initial_height p.initial) (highest p.body) e))
by_heights p false false e f over n h = ap (λ (name : Name). IsTooHigh name.place) n
    ∙ ap (λ c. cond c (IsKept (ProcedureOf p)) (IsTooHigh p.name.place)) (sym (first_high (initial_height p.initial) (highest p.body) e))

finish_shown : (p : Procedure) → finish (shown (ProcedureOf p)) ≡ cond (nat_le (procedure_height p) 2000) (IsKept (ProcedureOf p)) (IsTooHigh p.name.place)
finish_shown p =
    let over : CappedProcedure = record {
      place = p.place;
      name = p.name;
      parameters = p.parameters;
      is_variadic = p.is_variadic;
      locals = p.locals;
      initial = Exact.shown_initial (WithHeight Tree) (WithHeight Trees) (WithHeight Clauses) builds_with_height capped_shows p.initial;
      body = capped_shows.trees p.body;
    } in
    ap (λ i. finish_procedure over i (kept_tree (capped_shows.trees p.body))) (finish_first p.initial)
    ∙ ap (λ b. finish_procedure over (cond (nat_le (initial_height p.initial) 2000) (Some p.initial) None) (kept_tree b)) (shown_trees p.body)
    ∙ ap (finish_procedure over (cond (nat_le (initial_height p.initial) 2000) (Some p.initial) None)) (kept_at p.body (highest p.body))
    ∙ by_heights p (nat_le (initial_height p.initial) 2000) (nat_le (highest p.body) 2000) refl refl over refl refl

-- the first tree that is too high is found
high_stays : (place : Place) (done : List Declaration) (file : List CappedDeclaration) → (kept_declarations (Some place) done file).0 ≡ Some place
high_stays place done [] = refl
high_stays place done (declaration ∷ others) = high_stays place (done_with done (finish declaration)) others

-- what is gathered of the tree of some tokens
pub record Gathers (done file : List Declaration) (all : Option Place × List Declaration) : Type 0 where
  pub high : all.0 ≡ first_too_high file
  pub tree : first_too_high file ≡ None → all.1 ≡ done ++ file

gathers_more : (done : List Declaration) (declaration : Declaration) (others : List Declaration) → first_too_high (declaration ∷ others) ≡ first_too_high others
    → Gathers (done ++ declaration ∷ []) others (kept_declarations None (done ++ declaration ∷ []) (map shown others))
    → Gathers done (declaration ∷ others) (kept_declarations None (done ++ declaration ∷ []) (map shown others))
gathers_more done declaration others first g = record {
  high = g.high ∙ sym first;
  tree = λ n. g.tree (sym first ∙ n) ∙ append_assoc done (declaration ∷ []) others;
}

gathers_procedure : (done : List Declaration) (p : Procedure) (others : List Declaration) (b : Bool) → nat_le (procedure_height p) 2000 ≡ b
    → Gathers (done ++ ProcedureOf p ∷ []) others (kept_declarations None (done ++ ProcedureOf p ∷ []) (map shown others))
    → Gathers done (ProcedureOf p ∷ others) (kept_declarations None done (map shown (ProcedureOf p ∷ others)))
gathers_procedure done p others true e g =
    let f : finish (shown (ProcedureOf p)) ≡ IsKept (ProcedureOf p) = finish_shown p ∙ ap (λ c. cond c (IsKept (ProcedureOf p)) (IsTooHigh p.name.place)) e in
    let same = ap (λ x. kept_declarations (high_with None x) (done_with done x) (map shown others)) f in
    let first : first_too_high (ProcedureOf p ∷ others) ≡ first_too_high others = ap (λ c. cond c (first_too_high others) (Some p.name.place)) e in
    record {
      high = ap (λ (a : Option Place × List Declaration). a.0) same ∙ g.high ∙ sym first;
      tree = λ n. ap (λ (a : Option Place × List Declaration). a.1) same ∙ g.tree (sym first ∙ n) ∙ append_assoc done (ProcedureOf p ∷ []) others;
    }
gathers_procedure done p others false e g =
    let f : finish (shown (ProcedureOf p)) ≡ IsTooHigh p.name.place = finish_shown p ∙ ap (λ c. cond c (IsKept (ProcedureOf p)) (IsTooHigh p.name.place)) e in
    let first : first_too_high (ProcedureOf p ∷ others) ≡ Some p.name.place = ap (λ c. cond c (first_too_high others) (Some p.name.place)) e in
    record {
      high = ap (λ x. (kept_declarations (high_with None x) (done_with done x) (map shown others)).0) f ∙ high_stays p.name.place done (map shown others)
          ∙ sym first;
      tree = λ n. absurd (none-some p.name.place (sym n ∙ first));
    }

gathers : (done file : List Declaration) → Gathers done file (kept_declarations None done (map shown file))
gathers done [] = record { high = refl; tree = λ e. sym (append-nil done) }
gathers done (ProcedureOf p ∷ others) = gathers_procedure done p others (nat_le (procedure_height p) 2000) refl (gathers (done ++ ProcedureOf p ∷ []) others)
gathers done (Global place names ∷ others) = gathers_more done (Global place names) others refl (gathers (done ++ Global place names ∷ []) others)
gathers done (Link place items ∷ others) = gathers_more done (Link place items) others refl (gathers (done ++ Link place items ∷ []) others)
gathers done (Invocable place items ∷ others) = gathers_more done (Invocable place items) others refl (gathers (done ++ Invocable place items ∷ []) others)
gathers done (Record place name fields ∷ others) =
    gathers_more done (Record place name fields) others refl (gathers (done ++ Record place name fields ∷ []) others)

-- the tree of the tokens, behind what was read
pub record IsRead (tokens : List Token) (all : Option Place × List Declaration) : Type 0 where
  pub file : List Declaration
  pub is : IsTreeOf file tokens
  pub gathers : Gathers [] file all

pub read_sound : (tokens : List Token) (n : ℕ) (all : Option Place × List Declaration)
    → option_map (kept_declarations None []) (file_read builds_with_height n tokens) ≡ Some all → IsRead tokens all
read_sound tokens n all e = by_read (file_read builds_with_height n tokens) refl e
  where
    by_read : (read : Option (List CappedDeclaration)) → file_read builds_with_height n tokens ≡ read → option_map (kept_declarations None []) read ≡ Some all
        → IsRead tokens all
    by_read None r e = absurd (none-some all e)
    by_read (Some found) r e =
        let s = Exact.file_sound (WithHeight Tree) (WithHeight Trees) (WithHeight Clauses) builds_with_height capped_shows tokens n found r in
        let same : kept_declarations None [] (map shown s.0) ≡ all = ap (kept_declarations None []) (sym s.2)
        ∙ same_Some (kept_declarations None [] found) all e in
        record { file = s.0; is = s.1; gathers = subst (Gathers [] s.0) same (gathers [] s.0) }

pub nothing_read : (tokens : List Token) → file_read builds_with_height (length tokens) tokens ≡ None → HasTree tokens → ⊥
nothing_read tokens e h =
    none-some _ (sym e
    ∙ Exact.file_found (WithHeight Tree) (WithHeight Trees) (WithHeight Clauses) builds_with_height capped_shows h.0 tokens (length tokens) (omega arith) h.1)

-- no tree is too high
pub low_tree : (tokens : List Token) (n : ℕ) (decls : List Declaration)
    → option_map (kept_declarations None []) (file_read builds_with_height n tokens) ≡ Some (None, decls) → IsLowTree tokens decls
low_tree tokens n decls e =
    let r = read_sound tokens n (None, decls) e in
    let none : first_too_high r.file ≡ None = sym r.gathers.high in
    let same : decls ≡ r.file = r.gathers.tree none in
    subst (IsLowTree tokens) (sym same) (r.is, none)

pub high_tree : (tokens : List Token) (n : ℕ) (place : Place) (decls : List Declaration)
    → option_map (kept_declarations None []) (file_read builds_with_height n tokens) ≡ Some (Some place, decls) → IsOutcome tokens (TooHigh place)
high_tree tokens n place decls e =
    let r = read_sound tokens n (Some place, decls) e in
    too_high r.file place r.is (sym r.gathers.high)

-- what the tree of some tokens comes to
abbrev outcome_by : Option Place → Option ProfileFault → List Declaration → Parsed
outcome_by (Some place) fault file = TooHigh place
outcome_by None (Some fault) file = Faulty fault
outcome_by None None file = IsTree file

abbrev pub outcome_of : List Declaration → Parsed
outcome_of file = outcome_by (first_too_high file) (first_fault file) file

pub tree_outcome : (tokens : List Token) (file : List Declaration) (outcome : Parsed) → IsTreeOf file tokens → IsOutcome tokens outcome
    → outcome ≡ outcome_of file
tree_outcome tokens file _ s (no_program piece u) = absurd (unspelled_no_tree tokens piece u (file, s))
tree_outcome tokens file _ s (too_high f place t h) =
    let same : f ≡ file = one_file f file tokens t s in
    ap (λ p. outcome_by p (first_fault file) file) (sym (sym (ap first_too_high same) ∙ h))
tree_outcome tokens file _ s (faulty f fault t n h) =
    let same : f ≡ file = one_file f file tokens t s in
    ap (λ p. outcome_by p (Some fault) file) (sym (sym (ap first_too_high same) ∙ n))
    ∙ ap (λ g. outcome_by (first_too_high file) g file) (sym (sym (ap first_fault same) ∙ h))
tree_outcome tokens file _ s (is_tree f t n m) =
    let same : f ≡ file = one_file f file tokens t s in
    ap IsTree same ∙ ap (λ p. outcome_by p None file) (sym (sym (ap first_too_high same) ∙ n))
    ∙ ap (λ g. outcome_by (first_too_high file) g file) (sym (sym (ap first_fault same) ∙ m))

pub is_outcome : (tokens : List Token) (file : List Declaration) → IsTreeOf file tokens → IsOutcome tokens (outcome_of file)
is_outcome tokens file s = by_place (first_too_high file) (first_fault file) refl refl
  where
    by_place : (place : Option Place) (fault : Option ProfileFault) → first_too_high file ≡ place → first_fault file ≡ fault
        → IsOutcome tokens (outcome_by place fault file)
    by_place (Some place) fault h f = too_high file place s h
    by_place None (Some fault) h f = faulty file fault s h f
    by_place None None h f = is_tree file s h f

-- no program, and where the piece begins at which that shows
no_program_at : (tokens : List Token) (place : Place) → UnspelledAt tokens place → IsOutcome tokens (NoProgram place)
no_program_at tokens place u = subst (λ p. IsOutcome tokens (NoProgram p)) u.2 (no_program u.0 u.1)

-- whether tokens have a tree shows in what is read of them
pub tree_decided : (tokens : List Token) → (b : Bool) × DecidesTree tokens b
tree_decided tokens = by_read (file_read builds_with_height (length tokens) tokens) refl
  where
    by_read : (read : Option (List CappedDeclaration)) → file_read builds_with_height (length tokens) tokens ≡ read → (b : Bool) × DecidesTree tokens b
    by_read None r = (false, nothing_read tokens r)
    by_read (Some found) r =
        let s = Exact.file_sound (WithHeight Tree) (WithHeight Trees) (WithHeight Clauses) builds_with_height capped_shows tokens (length tokens) found r in
        (true, (s.0, s.1))

pub some_outcome : (tokens : List Token) → (outcome : Parsed) × IsOutcome tokens outcome
some_outcome tokens = by_read (file_read builds_with_height (length tokens) tokens) refl
  where
    by_read : (read : Option (List CappedDeclaration)) → file_read builds_with_height (length tokens) tokens ≡ read
        → (outcome : Parsed) × IsOutcome tokens outcome
    by_read None r =
        let found = some_unspelled tree_decided (length tokens) tokens (omega arith) (nothing_read tokens r) in
        (NoProgram found.0, no_program_at tokens found.0 found.1)
    by_read (Some found) r =
        let s = Exact.file_sound (WithHeight Tree) (WithHeight Trees) (WithHeight Clauses) builds_with_height capped_shows tokens (length tokens) found r in
        (outcome_of s.0, is_outcome tokens s.0 s.1)

pub one_outcome : (tokens : List Token) (a b : Parsed) → IsOutcome tokens a → IsOutcome tokens b → a ≡ b
one_outcome tokens _ _ (no_program p u) (no_program q v) =
    ap (λ piece. NoProgram (place_of piece)) (one_unspelled (pieces tokens) p q u v)
one_outcome tokens _ b (too_high f place t h) o = tree_outcome tokens f (TooHigh place) t (too_high f place t h) ∙ sym (tree_outcome tokens f b t o)
one_outcome tokens _ b (faulty f fault t n h) o = tree_outcome tokens f (Faulty fault) t (faulty f fault t n h) ∙ sym (tree_outcome tokens f b t o)
one_outcome tokens _ b (is_tree f t n m) o = tree_outcome tokens f (IsTree f) t (is_tree f t n m) ∙ sym (tree_outcome tokens f b t o)
one_outcome tokens _ _ (no_program piece u) (too_high f place t h) = absurd (unspelled_no_tree tokens piece u (f, t))
one_outcome tokens _ _ (no_program piece u) (faulty f fault t m h) = absurd (unspelled_no_tree tokens piece u (f, t))
one_outcome tokens _ _ (no_program piece u) (is_tree f t m k) = absurd (unspelled_no_tree tokens piece u (f, t))

pub tree_read : (file : List Declaration) (tokens : List Token) → IsTreeOf file tokens → first_too_high file ≡ None → first_fault file ≡ None
    → (outcome : Parsed) → IsOutcome tokens outcome → outcome ≡ IsTree file
tree_read file tokens s n m outcome o = one_outcome tokens outcome (IsTree file) o (is_tree file s n m)

-- the faults of the code

is_not_here : ParseStop → Bool
is_not_here NotHere = true
is_not_here NoMemory = false

not_here_differs : ◌≡◌ {A = ParseStop} NotHere NoMemory → ⊥
unfolding is_not_here
not_here_differs e = false≢true (sym (ap is_not_here e))

pub broken_as : (IsIt : Parsed → Type 0) (outcome : Parsed) (rule : Rule) (place : Place) (fault : ParseFault) → fault ≡ Broken rule place.file place.line
    → broken_by outcome ≡ Some (rule, place) → IsIt outcome → Breaks IsIt fault
broken_as IsIt outcome rule place fault e b o = subst (Breaks IsIt) (sym e) (outcome, o, b)

-- tokens of which declarations are read have a tree
pub tree_of_read : (tokens : List Token) (n : ℕ) (all : Option Place × List Declaration)
    → option_map (kept_declarations None []) (file_read builds_with_height n tokens) ≡ Some all → HasTree tokens
tree_of_read tokens n all e = let r = read_sound tokens n all e in (r.file, r.is)

-- tokens of which nothing is read have no tree
pub not_read : (tokens : List Token) (stop : ParseStop) → stop ≡ NotHere → ReadsNothing (file_read builds_with_height (length tokens) tokens) stop
    → HasTree tokens → ⊥
not_read tokens stop e (inl is) = absurd (not_here_differs (sym e ∙ is))
not_read tokens stop e (inr is) = nothing_read tokens is

pub unspelled_breaks : (tokens : List Token) (place : Place) (fault : ParseFault) → UnspelledAt tokens place → fault ≡ Broken S1 place.file place.line
    → Breaks (IsOutcome tokens) fault
unspelled_breaks tokens place fault u e = broken_as (IsOutcome tokens) (NoProgram place) S1 place fault e refl (no_program_at tokens place u)

pub unfit_breaks : (tokens : List Token) (file : List Declaration) (unfit : Unfit) → IsLowTree tokens file → Some (fault_at unfit) ≡ first_fault file
    → Breaks (IsOutcome tokens) (fault_of_unfit unfit)
unfit_breaks tokens file (U.UnknownKeyword place) t e = (Faulty (UnknownKeyword place), faulty file (UnknownKeyword place) t.0 t.1 (sym e), refl)
