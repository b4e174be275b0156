-- A scope and the names of a procedure that agree: what its variables are; and what keywords are in both translations.
use Rattle.std.proofs.Common.{◌≡◌, ℕ, ◌+◌, ℤ, Bool, true, false, List, [], ◌∷◌, ◌++◌, length, Option, Some, refl, sym, ap, subst, ◌∙◌, append_assoc, length-append, if◌then◌else◌, map, arith}
use Rattle.std.specs.List.{list_any, position_or_len}
use Rattle.std.specs.Str.{bytes_eq}
use Rattle.std.proofs.lemmas.Slice.Eq.{bytes_eq-Decides}
use Rattle.icn_text.specs.Keywords.{keyword_name}
use Rattle.icn_text.specs.declared.keyword.Keyword.{Keyword}
use Rattle.icn_text.specs.declared.keyword.Keyword.TheVariants as K
use Rattle.icn_text.specs.declared.keyword.TheConstants.Keyword.{ALL as keywords}
use Rattle.icn_tree.specs.Spellings.{lookup_text}
use Rattle.icn_code.specs.declared.instr.Instr.{Instr}
use Rattle.icn_code.specs.declared.instr.Instr.TheVariants as I
use Rattle.icn_unit.specs.declared.unit.UnitInstr.TheVariants as U
use Rattle.icn_unit.specs.UnitOperands.{keyword_of}
use Rattle.icn_translate.specs.Drafts.{put_variable, name_index}
use Rattle.icn_translate.specs.Instructions.{literal_instr, keyword_instr}
use Rattle.icn_tree.specs.declared.tree.Literal.{Literal}
use Rattle.icn_tree.specs.declared.tree.Literal.TheVariants as Literals
use Rattle.icn_meaning.specs.Evaluate.{keyword_among}
use Rattle.icn_link.specs.Resolving.{Scope, resolved_one, resolve}
use Rattle.law_simulation.specs.Translation as X
use Rattle.law_link.proofs.CodeSteps.{Front, Gives, no_facts, resolved-more, placed_split}

-- The scope of a procedure with these names stands for what its names stand for.
pub record AgreeOn (S : Scope) (N : X.SymbolTable) (F : List (List ℕ)) : Type 0 where
  pub integer : (n : ℤ) → S.integer n ≡ N.integer n
  pub string : (bytes : List ℕ) → S.string bytes ≡ N.string bytes
  pub set : (members : List ℕ) → S.set members ≡ N.set members
  pub field : (name : List ℕ) → S.field name ≡ N.field name
  pub variable : (name : List ℕ) → list_any (bytes_eq name) F ≡ true → S.variable (name_index F name) ≡ N.variable name

-- Where a name stands

same_bytes : (name : List ℕ) → bytes_eq name name ≡ true
same_bytes name = (bytes_eq-Decides name name).1 refl

-- among names that others stand behind
record Stands (test : List ℕ → Bool) (place : ℕ) (all : List (List ℕ)) : Type 0 where
  pub there : list_any test all ≡ true
  pub first : place ≡ position_or_len test all

stands_here : (test : List ℕ → Bool) (name : List ℕ) (rest : List (List ℕ)) → test name ≡ true → Stands test 0 (name ∷ rest)
stands_here test name rest e = record { there = rw e refl; first = rw e refl }

stands_later : (test : List ℕ → Bool) (name : List ℕ) (rest : List (List ℕ)) (place : ℕ) → test name ≡ false → Stands test place rest
    → Stands test (1 + place) (name ∷ rest)
stands_later test name rest place e h = record { there = rw e h.there; first = let k = h.first in rw e (omega arith) }

old_stands : (test : List ℕ → Bool) (names rest : List (List ℕ)) → list_any test names ≡ true → Stands test (position_or_len test names) (names ++ rest)
old_stands test [] rest h = absurd (cc)
old_stands test (name ∷ names) rest h = by (test name) refl (old_stands test names rest)
  where
    by : (b : Bool) → test name ≡ b → (list_any test names ≡ true → Stands test (position_or_len test names) (names ++ rest))
        → Stands test (position_or_len test (name ∷ names)) (name ∷ names ++ rest)
    by true e later = rw e (stands_here test name (names ++ rest) e)
    by false e later = rw e (stands_later test name (names ++ rest) (position_or_len test names) e (later (rw e at h)))

new_stands : (test : List ℕ → Bool) (names : List (List ℕ)) (new : List ℕ) (rest : List (List ℕ)) → list_any test names ≡ false → test new ≡ true
    → Stands test (position_or_len test names) ((names ++ new ∷ []) ++ rest)
new_stands test [] new rest h e = stands_here test new rest e
new_stands test (name ∷ names) new rest h t = by (test name) refl (λ k. new_stands test names new rest k t)
  where
    by : (b : Bool) → test name ≡ b → (list_any test names ≡ false → Stands test (position_or_len test names) ((names ++ new ∷ []) ++ rest))
        → Stands test (position_or_len test (name ∷ names)) ((name ∷ names ++ new ∷ []) ++ rest)
    by true e later = absurd (let k = rw e at h in cc)
    by false e later = rw e (stands_later test name ((names ++ new ∷ []) ++ rest) (position_or_len test names) e (later (rw e at h)))

name_stands : (names F : List (List ℕ)) (name : List ℕ) (b : Bool) → list_any (bytes_eq name) names ≡ b
    → Front (if b then names else names ++ name ∷ []) F → Stands (bytes_eq name) (name_index names name) F × Front names F
name_stands names F name true e h = (
  subst (λ (all : List (List ℕ)). Stands (bytes_eq name) (name_index names name) all) h.is
      (old_stands (bytes_eq name) names h.rest e),
  h,
)
name_stands names F name false e h = (
  subst (λ (all : List (List ℕ)). Stands (bytes_eq name) (name_index names name) all) h.is (new_stands (bytes_eq name) names name h.rest e (same_bytes name)),
  record { rest = name ∷ h.rest; is = sym (append_assoc names (name ∷ []) h.rest) ∙ h.is },
)

-- Keywords

keyword_found : (name : List ℕ) (ks : List Keyword) → lookup_text (map (λ keyword. (keyword_name keyword, keyword)) ks) name ≡ keyword_among name ks
keyword_found name [] = refl
keyword_found name (k ∷ ks) = ap (λ (found : Option Keyword). if bytes_eq name (keyword_name k) then Some k else found) (keyword_found name ks)

pub keyword_is : (name : List ℕ) → keyword_of name ≡ keyword_among name keywords
unfolding keyword_of
keyword_is name = keyword_found name keywords

module _ (S : Scope) where
  pub keyword_same : (word : Keyword) → resolved_one S (keyword_instr word) ≡ X.keyword_instr word ∷ []
  keyword_same K.Fail = refl
  keyword_same word = refl

  pub literal_code_is : (N : X.SymbolTable) (F : List (List ℕ)) → AgreeOn S N F → (v : Literal) → resolved_one S (literal_instr v) ≡ X.literal_code N v ∷ []
  literal_code_is N F agree (Literals.Integer n) = ap (λ k. I.Int k ∷ []) (agree.integer n)
  literal_code_is N F agree (Literals.Text bytes) = ap (λ k. I.Str k ∷ []) (agree.string bytes)
  literal_code_is N F agree (Literals.Cset members) = ap (λ k. I.Cset k ∷ []) (agree.set members)

-- the variable of a name
pub puts_variable : {S : Scope} {N : X.SymbolTable} {F : List (List ℕ)} {W : List X.LoopExits} {E : List ℕ} → AgreeOn S N F → (name : List ℕ)
    → Gives S F W E (put_variable name) 1 (λ p. N.variable name ∷ []) no_facts
unfolding put_variable
puts_variable {S = S} {N = N} {F = F} agree name = record {
  long = λ d.
      let k = U.Var (name_index d.names name) in
      ap length (resolved-more S d.instrs k) ∙ long (resolve S d.instrs) (resolved_one S k) refl;
  at = λ d h.
      let k = name_index d.names name in
      let known = name_stands d.names F name (list_any (bytes_eq name) d.names) refl h.names in
      let same : S.variable k ≡ N.variable name = ap S.variable known.0.first ∙ agree.variable name known.0.there in
      record {
        before = record { placed = (placed_split S 0 d.instrs (U.Var k) h.placed).0; names = known.1; loops = h.loops; ends = h.ends };
        is = resolved-more S d.instrs (U.Var k) ∙ ap (λ i. resolve S d.instrs ++ i ∷ []) same;
        known = tt;
      };
}
  where
    long : (xs ys : List Instr) → length ys ≡ 1 → length (xs ++ ys) ≡ length xs + 1
    long xs ys e = let l = length-append xs ys in omega arith
