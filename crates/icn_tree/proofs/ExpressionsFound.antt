-- The reader finds each meant expression.
use Rattle.std.proofs.Common.{◌≡◌, ℕ, zero, suc, ◌≤◌, Bool, true, false, ◌&&◌, List, [], ◌∷◌, Option, Some, refl, sym, ap, subst, ◌∙◌, arith, le_trans}
use Rattle.std.proofs.lemmas.Bool.{and_left, false≢true}
use Rattle.std.proofs.lemmas.Option.{none-some}
use Rattle.icn_tree.specs.declared.token.Kind.{Kind}
use Rattle.icn_tree.specs.declared.token.Kind.TheVariants.{Word as WordKind, Punctuation as PunctuationKind}
use Rattle.icn_tree.specs.declared.token.Token.{Token}
use Rattle.icn_tree.specs.declared.token.Word.TheVariants as Words
use Rattle.icn_tree.specs.declared.token.Punctuation.TheVariants.{Semicolon, Colon}
use Rattle.icn_tree.specs.declared.tree.Place.{Place}
use Rattle.icn_tree.specs.Trees.{Tree, Trees, Clause, Clauses, Empty, Binary, Absent, Present, NoTrees, More, Default, Guarded, NoClauses, MoreClauses}
use Rattle.icn_tree.specs.Levels.{level_of, is_present, kind_begins, begins, goes_on}
use Rattle.icn_tree.specs.Wants.{wants}
use Rattle.icn_tree.specs.Phrases.{next, place_of, token_at, sign}
use Rattle.icn_tree.specs.Grammar.{Part, Spells, SpellsList, SpellsMore, SpellsClause, SpellsClauses, SpellsMoreClauses, Separator, ByComma, BySemicolon, separator}
use Rattle.icn_tree.proofs.Reading.{Readers, readers, behind, more_by, more_clauses_by, maybe_read, operand, list_read, start, start_by, optional_by, climb_by, climb_step, is_separator, is_default, clause_by, clauses_read}
use Rattle.icn_tree.proofs.ReaderResults.{Gives, gives_at_once, gives_then, gives_same, reads, climbs, goes_on_list, goes_on_clauses}
use Rattle.icn_tree.proofs.LevelFacts.{edge, level_edge, goes_on_up}

-- a meant tree is found from its first token on, with whatever goes on with it
abbrev pub Found : Tree → Type 0
Found tree = (level : ℕ) (here after : List Token) (result : Tree × List Token) → 1 ≤ level → level ≤ level_of tree → Spells tree here after
    → wants tree (next after) ≡ false → goes_on (edge tree) (next after) ≡ false
    → Gives (λ self. self.climb level (place_of here) tree after) result → Gives (λ self. start self level here) result

pub stops : (level : ℕ) (place : Place) (tree : Tree) (after : List Token) → goes_on level (next after) ≡ false
    → Gives (λ self. climb_step self level place tree after) (tree, after)
stops level place tree [] e = gives_at_once _ _ (λ self. refl)
stops level place tree (token ∷ tokens) e = gives_at_once _ _ (λ self. ap (λ b. climb_by b self level place tree token tokens) e)

-- a part is read where what follows does not go on with it
pub part_started : (level : ℕ) (tree : Tree) → Found tree → 1 ≤ level → (here after : List Token) → Part level tree (Spells tree) here after
    → goes_on level (next after) ≡ false → Gives (λ self. start self level here) (tree, after)
part_started level tree found one here after p e =
    found level here after (tree, after) one p.fits p.spells p.longest (goes_on_up level (edge tree) (le_trans p.fits (level_edge tree)) (next after) e)
    (climbs level (place_of here) tree after (tree, after) (stops level (place_of here) tree after e))

pub part_read : (level : ℕ) (tree : Tree) → Found tree → 1 ≤ level → (here after : List Token) → Part level tree (Spells tree) here after
    → goes_on level (next after) ≡ false → Gives (λ self. self.read level here) (tree, after)
part_read zero tree found one here after p e = absurd (omega arith)
part_read (suc level) tree found one here after p e = reads (suc level) here (tree, after) (part_started (suc level) tree found one here after p e)

pub is_nonempty : (tree : Tree) (here after : List Token) → Spells tree here after → is_present tree ≡ true → 1 ≤ level_of tree
is_nonempty Empty here after s e = absurd (false≢true e)
is_nonempty (Binary place operator left right) here after s e = s.1.2.1.0
is_nonempty _ here after s e = omega arith

pub started_by : (b : Bool) (self : Readers) (level : ℕ) (place : Place) (kind : Kind) (tokens : List Token) (result : Tree × List Token)
    → start_by b self level place kind tokens ≡ Some result → b ≡ true
started_by true self level place kind tokens result e = refl
started_by false self level place kind tokens result e = absurd (none-some result e)

pub started_here : (self : Readers) (level : ℕ) (here : List Token) (result : Tree × List Token) → start self level here ≡ Some result
    → begins (next here) ≡ true
started_here self level [] result e = absurd (none-some result e)
started_here self level (token ∷ tokens) result e =
    started_by (kind_begins token.kind) self level (record { line = token.line; file = token.file }) token.kind tokens result e

-- what is started begins an expression
pub started_begins : (level : ℕ) (here : List Token) (result : Tree × List Token) → Gives (λ self. start self level here) result → begins (next here) ≡ true
started_begins level here result g = started_here (readers g.steps) level here result (g.is g.steps (omega arith))

pub optional_present : (here : List Token) (result : Tree × List Token) → Gives (λ self. start self 1 here) result → Gives (λ self. self.read 0 here) result
optional_present here result g = reads 0 here result (gives_same (λ self. ap (λ b. optional_by b self here) (started_begins 1 here result g)) g)

pub present_ends : (b : Bool) → (b && true) ≡ false → b ≡ false
present_ends true e = e
present_ends false e = refl

pub present_read : (tree : Tree) → Found tree → is_present tree ≡ true → (here after : List Token) → Part 0 tree (Spells tree) here after
    → goes_on 1 (next after) ≡ false → Gives (λ self. self.read 0 here) (tree, after)
present_read tree found present here after p e =
    let whole : Part 1 tree (Spells tree) here after = record { fits = is_nonempty tree here after p.spells present; spells = p.spells; longest = p.longest } in
    optional_present here (tree, after) (part_started 1 tree found (omega arith) here after whole e)

pub optional_read : (tree : Tree) → Found tree → (here after : List Token) → Part 0 tree (Spells tree) here after
    → (goes_on 1 (next after) && is_present tree) ≡ false → Gives (λ self. self.read 0 here) (tree, after)
optional_read Empty found here after p e = reads 0 here (Empty, after) (gives_at_once _ _ (λ self.
    ap (λ b. optional_by b self here) (ap (λ tokens. begins (next tokens)) p.spells ∙ p.longest) ∙ ap (λ tokens. Some (Empty, tokens)) p.spells))
optional_read tree found here after p e = present_read tree found refl here after p (present_ends (goes_on 1 (next after)) e)

-- signs
pub behind_sign : (kind : Kind) (here after : List Token) → sign kind here after → behind here ≡ after
behind_sign kind here after s = ap behind s.1

pub next_sign : (kind : Kind) (here after : List Token) → sign kind here after → next here ≡ Some kind
next_sign kind here after s = ap next s.1

pub ends_at : (level : ℕ) (kind : Kind) (here after : List Token) → sign kind here after → goes_on level (Some kind) ≡ false → goes_on level (next here) ≡ false
ends_at level kind here after s e = ap (goes_on level) (next_sign kind here after s) ∙ e

-- a part and the sign behind it
pub part_before : (level : ℕ) (tree : Tree) → Found tree → 1 ≤ level
    → (kind : Kind) (here middle after : List Token) → Part level tree (Spells tree) here middle → sign kind middle after → goes_on level (Some kind) ≡ false
    → Gives (λ self. self.read level here) (tree, middle)
part_before level tree found one kind here middle after p s e = part_read level tree found one here middle p (ends_at level kind middle after s e)

-- a part behind a sign
pub behind_read : (level : ℕ) (kind : Kind) (here after : List Token) (result : Tree × List Token) → sign kind here after
    → Gives (λ self. self.read level after) result → Gives (λ self. self.read level (behind here)) result
behind_read level kind here after result s g = subst (λ tokens. Gives (λ self. self.read level tokens) result) (sym (behind_sign kind here after s)) g

pub maybe_absent : (b : Bool) (level : ℕ) (tokens : List Token) → b ≡ false → Gives (λ self. maybe_read b (self.read level) tokens) (Absent, tokens)
maybe_absent b level tokens e = gives_at_once _ _ (λ self. ap (λ c. maybe_read c (self.read level) tokens) e)

pub maybe_present : (b : Bool) (level : ℕ) (kind : Kind) (here middle : List Token) (tree : Tree) (after : List Token) → b ≡ true → sign kind here middle
    → Gives (λ self. self.read level middle) (tree, after) → Gives (λ self. maybe_read b (self.read level) here) (Present tree, after)
maybe_present b level kind here middle tree after e s g = gives_same (λ self. ap (λ c. maybe_read c (self.read level) here) e)
    (gives_then _ _ (behind_read level kind here middle (tree, after) s g) (gives_at_once _ _ (λ self. refl)))

-- a form that begins with a token of its own
pub begun : (place : Place) (kind : Kind) (level : ℕ) (rest : List Token) (tree : Tree) (after : List Token) (result : Tree × List Token)
    → kind_begins kind ≡ true → Gives (λ self. operand self place kind rest) (tree, after)
    → Gives (λ self. self.climb level place tree after) result → Gives (λ self. start self level (token_at place kind ∷ rest)) result
begun place kind level rest tree after result b g h =
    gives_same (λ self. ap (λ c. start_by c self level place kind rest) b)
    (gives_then (λ self. operand self place kind rest) (λ found self. self.climb level place found.0 found.1) g h)

pub begun_at : (place : Place) (kind : Kind) (level : ℕ) (here rest : List Token) (tree : Tree) (after : List Token) (result : Tree × List Token)
    → here ≡ token_at place kind ∷ rest → kind_begins kind ≡ true → Gives (λ self. operand self place kind rest) (tree, after)
    → Gives (λ self. self.climb level (place_of here) tree after) result → Gives (λ self. start self level here) result
begun_at place kind level here rest tree after result e b g =
    subst (λ tokens. Gives (λ self. self.climb level (place_of tokens) tree after) result → Gives (λ self. start self level tokens) result) (sym e)
    (begun place kind level rest tree after result b g)

-- Lists

abbrev pub FoundList : Trees → Type 0
FoundList trees = (by : Separator) (here after : List Token) → SpellsList by trees here after → is_separator by (next after) ≡ false
    → goes_on 1 (next after) ≡ false → Gives (λ self. list_read self by here) (trees, after)

abbrev pub FoundMore : Trees → Type 0
FoundMore trees = (by : Separator) (here after : List Token) → SpellsMore by trees here after → is_separator by (next after) ≡ false
    → goes_on 1 (next after) ≡ false → Gives (λ self. self.more by here) (trees, after)

pub separates : (by : Separator) → is_separator by (Some (PunctuationKind (separator by))) ≡ true
separates ByComma = refl
separates BySemicolon = refl

pub separator_ends : (by : Separator) → goes_on 1 (Some (PunctuationKind (separator by))) ≡ false
separator_ends ByComma = refl
separator_ends BySemicolon = refl

-- what stands before further elements
pub more_next : (P : Option Kind → Type 0) (by : Separator) (trees : Trees) (here after : List Token) → SpellsMore by trees here after → P (next after)
    → P (Some (PunctuationKind (separator by))) → P (next here)
more_next P by NoTrees here after s p q = subst (λ tokens. P (next tokens)) (sym s) p
more_next P by (More tree trees) here after s p q = subst P (sym (next_sign (PunctuationKind (separator by)) here s.0 s.1)) q

pub list_found : (tree : Tree) (trees : Trees) → Found tree → FoundMore trees → FoundList (More tree trees)
list_found tree trees f m by here after s e ends =
    let first_ends : goes_on 1 (next s.0) ≡ false = more_next (λ kind. goes_on 1 kind ≡ false) by trees s.0 after s.2 ends (separator_ends by) in
    gives_then _ _ (optional_read tree f here s.0 s.1 (and_left (goes_on 1 (next s.0)) (is_present tree) first_ends))
    (gives_then _ _ (m by s.0 after s.2 e ends) (gives_at_once _ _ (λ self. refl)))

pub no_more_found : FoundMore NoTrees
no_more_found by here after s e ends =
    goes_on_list by here (NoTrees, after)
    (gives_at_once _ _ (λ self. ap (λ b. more_by b self by here) (ap (λ tokens. is_separator by (next tokens)) s ∙ e)
    ∙ ap (λ tokens. Some (NoTrees, tokens)) s))

pub more_found : (tree : Tree) (trees : Trees) → Found tree → FoundMore trees → FoundMore (More tree trees)
more_found tree trees f m by here after s e ends =
    let kind : Kind = PunctuationKind (separator by) in
    let list : Gives (λ self. list_read self by s.0) (More tree trees, after) = list_found tree trees f m by s.0 after s.2 e ends in
    let moved : Gives (λ self. list_read self by (behind here)) (More tree trees, after) =
    subst (λ tokens. Gives (λ self. list_read self by tokens) (More tree trees, after)) (sym (behind_sign kind here s.0 s.1)) list in
    goes_on_list by here (More tree trees, after)
    (gives_same (λ self. ap (λ b. more_by b self by here) (ap (is_separator by) (next_sign kind here s.0 s.1) ∙ separates by)) moved)

-- Clauses

abbrev pub FoundClause : Clause → Type 0
FoundClause clause = (here after : List Token) → SpellsClause clause here after → goes_on 1 (next after) ≡ false
    → Gives (λ self. clause_by (is_default (next here)) self here) (clause, after)

abbrev pub FoundClauses : Clauses → Type 0
FoundClauses clauses = (here after : List Token) → SpellsClauses clauses here after → is_separator BySemicolon (next after) ≡ false
    → goes_on 1 (next after) ≡ false → Gives (λ self. clauses_read self here) (clauses, after)

abbrev pub FoundMoreClauses : Clauses → Type 0
FoundMoreClauses clauses = (here after : List Token) → SpellsMoreClauses clauses here after → is_separator BySemicolon (next after) ≡ false
    → goes_on 1 (next after) ≡ false → Gives (λ self. self.more_clauses here) (clauses, after)

pub begins_not_default : (kind : Option Kind) → begins kind ≡ true → is_default kind ≡ false
begins_not_default (Some (WordKind Words.Default)) e = absurd (false≢true e)
begins_not_default _ e = refl

pub default_found : (place : Place) (value : Tree) → Found value → FoundClause (Default place value)
default_found place value f here after s ends =
    subst (λ tokens. Gives (λ self. clause_by (is_default (next tokens)) self tokens) (Default place value, after)) (sym s.1)
    (gives_then _ _ (behind_read 1 (PunctuationKind Colon) s.0 s.2.0 (value, after) s.2.1 (part_read 1 value f (omega arith) s.2.0 after s.2.2 ends))
    (gives_at_once _ _ (λ self. refl)))

pub guarded_found : (place : Place) (guard value : Tree) → Found guard → Found value → FoundClause (Guarded place guard value)
guarded_found place guard value g f here after s ends =
    let kind : Kind = PunctuationKind Colon in
    let no_default : is_default (next here) ≡ false = begins_not_default (next here)
    (started_begins 1 here (guard, s.1.0) (part_started 1 guard g (omega arith) here s.1.0 s.1.1 (ends_at 1 kind s.1.0 s.1.2.0 s.1.2.1 refl))) in
    gives_same (λ self. ap (λ b. clause_by b self here) no_default)
    (gives_then _ _ (part_before 1 guard g (omega arith) kind here s.1.0 s.1.2.0 s.1.1 s.1.2.1 refl)
    (gives_then _ _ (behind_read 1 kind s.1.0 s.1.2.0 (value, after) s.1.2.1 (part_read 1 value f (omega arith) s.1.2.0 after s.1.2.2 ends))
    (gives_at_once _ _ (λ self. ap (λ p. Some (Guarded p guard value, after)) s.0))))

pub more_clauses_next : (P : Option Kind → Type 0) (further : Clauses) (here after : List Token) → SpellsMoreClauses further here after → P (next after)
    → P (Some (PunctuationKind Semicolon)) → P (next here)
more_clauses_next P NoClauses here after s p q = subst (λ tokens. P (next tokens)) (sym s) p
more_clauses_next P (MoreClauses clause others) here after s p q = subst P (sym (next_sign (PunctuationKind Semicolon) here s.0 s.1)) q

pub clauses_found : (clause : Clause) (clauses : Clauses) → FoundClause clause → FoundMoreClauses clauses → FoundClauses (MoreClauses clause clauses)
clauses_found clause clauses f m here after s e ends =
    gives_then _ _ (f here s.0 s.1 (more_clauses_next (λ kind. goes_on 1 kind ≡ false) clauses s.0 after s.2 ends refl))
    (gives_then _ _ (m s.0 after s.2 e ends) (gives_at_once _ _ (λ self. refl)))

pub no_more_clauses_found : FoundMoreClauses NoClauses
no_more_clauses_found here after s e ends =
    goes_on_clauses here (NoClauses, after) (gives_at_once _ _ (λ self.
    ap (λ b. more_clauses_by b self here) (ap (λ tokens. is_separator BySemicolon (next tokens)) s ∙ e) ∙ ap (λ tokens. Some (NoClauses, tokens)) s))

pub more_clauses_found : (clause : Clause) (clauses : Clauses) → FoundClause clause → FoundMoreClauses clauses → FoundMoreClauses (MoreClauses clause clauses)
more_clauses_found clause clauses f m here after s e ends =
    let kind : Kind = PunctuationKind Semicolon in
    let list : Gives (λ self. clauses_read self s.0) (MoreClauses clause clauses, after) = clauses_found clause clauses f m s.0 after s.2 e ends in
    let moved : Gives (λ self. clauses_read self (behind here)) (MoreClauses clause clauses, after) =
    subst (λ tokens. Gives (λ self. clauses_read self tokens) (MoreClauses clause clauses, after)) (sym (behind_sign kind here s.0 s.1)) list in
    goes_on_clauses here (MoreClauses clause clauses, after)
    (gives_same (λ self. ap (λ b. more_clauses_by b self here) (ap (is_separator BySemicolon) (next_sign kind here s.0 s.1))) moved)
