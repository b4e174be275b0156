-- The counts of elements in the code of a procedure have 32 bits, where its numbers have: a list has no more elements than numbers.
use Rattle.std.proofs.Common.{◌≡◌, ℕ, ◌+◌, ◌<◌, ◌≤◌, Bool, true, false, List, [], ◌∷◌, ◌++◌, Option, None, Some, refl, ap, ◌∙◌, arith}
use Rattle.std.specs.List.{list_all}
use Rattle.std.proofs.lemmas.List.Folds.{list_all-append}
use Rattle.icn_text.specs.declared.keyword.Keyword.{Keyword as KeywordNamed}
use Rattle.icn_text.specs.declared.keyword.Keyword.TheVariants as K
use Rattle.icn_text.specs.declared.op.Op.TheVariants as O
use Rattle.icn_tree.specs.declared.tree.Infix.{Infix}
use Rattle.icn_tree.specs.declared.tree.Infix.TheVariants.{Plain, Augmented}
use Rattle.icn_tree.specs.declared.tree.Literal.{Literal}
use Rattle.icn_tree.specs.declared.tree.Literal.TheVariants as Literals
use Rattle.icn_tree.specs.declared.tree.LoopKind.{LoopKind}
use Rattle.icn_tree.specs.declared.tree.LoopKind.TheVariants.{While, Until, Every}
use Rattle.icn_tree.specs.declared.tree.Place.{Place}
use Rattle.icn_tree.specs.Trees.{Procedure, Initial, NoInitial, Initially, Tree, MaybeTree, Trees, Clauses, Empty, Constant, Identifier, Keyword, Parentheses, Listing, Compound, Call, CoCall, Subscript, Section, Field, Prefix, Not, Binary, To, If, Case, Loop, Repeat, Create, Next, Fail, Break, Return, Suspend, Absent, Present, NoTrees, More, Default, Guarded, NoClauses, MoreClauses}
use Rattle.icn_unit.specs.declared.unit.UnitInstr.{UnitInstr}
use Rattle.icn_unit.specs.declared.unit.UnitInstr.TheVariants as I
use Rattle.icn_unit.specs.UnitOperands.{keyword_of}
use Rattle.icn_unit.specs.UnitRules.{is_number}
use Rattle.icn_translate.specs.declared.builder.LoopLabels.{LoopLabels}
use Rattle.icn_translate.specs.declared.forms.InfixForm.{InfixForm}
use Rattle.icn_translate.specs.declared.forms.InfixForm.TheVariants.{Both, Scanning, Either, Limiting, Activating, Spreading, Operating}
use Rattle.icn_translate.specs.declared.forms.UpdateForm.{UpdateForm}
use Rattle.icn_translate.specs.declared.forms.UpdateForm.TheVariants.{Both as UpdatesBoth, Scanning as UpdatesScanning, Activating as UpdatesActivating, Operating as UpdatesOperating}
use Rattle.icn_translate.specs.declared.forms.PrefixForm.{PrefixForm}
use Rattle.icn_translate.specs.declared.forms.PrefixForm.TheVariants.{Activation, Repetition, Operation}
use Rattle.icn_translate.specs.Drafts.{Draft, ◌▹◌, put, next_label, with_label, with_number, put_variable, no_ways, in_loop, outside_loop, innermost, aside, put_next, put_last, case_end, in_case, outside_case, put_end}
use Rattle.icn_translate.specs.Instructions.{literal_instr, keyword_instr, section_op, infix_form, update_form, prefix_form}
use Rattle.icn_translate.specs.NumbersTaken.{numbers, all_numbers, maybe_numbers, clause_numbers, initial_numbers, procedure_numbers}
use Rattle.icn_translate.specs.OpenMarks.{OpenMarks, Outermost, Marked, Looped, Controlled, Each, is_loopless, is_nextless, unmarks_for_break, unmarks_for_next, around}
use Rattle.icn_translate.specs.ProcCodes.{first_draft, proc_code}
use Rattle.icn_translate.specs.Translation.{count_of, is_empty, is_nothing, is_no_element, elements, bounded_code, create_code, if_mark, either_step, control_part, in_control, in_body, back, loop_end, keyword_code, prefix_by, plain_form, update, augmented_form, case_of, looped_body, translate, operands, arguments, conjunction, conjuncts, compound, creations, other_creations, subscripts, to_step, otherwise, looped_part, suspended_part, guarded_part, default_part, initially, body}
use Rattle.icn_units.proofs.WrittenTrees.{and_intro, nat_le_of_le}
use Rattle.law_link.proofs.Mentioning.{label_instrs, in_instrs, out_instrs, in_case_instrs, out_case_instrs}

-- what the instruction counts has 32 bits
abbrev pub count_fits : UnitInstr → Bool
count_fits (I.Llist n) = is_number n
count_fits (I.Invoke n) = is_number n
count_fits i = true

-- how many elements a list has

counted : (es : Trees) → count_of es ≤ all_numbers es
counted NoTrees = omega arith
counted (More e es) = let rest : count_of es ≤ all_numbers es = counted es in omega (arith, rest)

some_elements : (e : Tree) (es : Trees) → elements (More e es) ≤ all_numbers (More e es)
some_elements Empty NoTrees = omega arith
some_elements Empty (More e es) = counted (More Empty (More e es))
some_elements e es = counted (More e es)

elements_few : (es : Trees) → elements es ≤ all_numbers es
elements_few NoTrees = omega arith
elements_few (More e es) = some_elements e es

elements_fit : (es : Trees) → all_numbers es < 4294967296 → is_number (elements es) ≡ true
elements_fit es h = nat_le_of_le (elements es) 4294967295 (omega (arith, elements_few es, h))

-- Steps

-- where the counts of one draft fit, so do those of the other
record Fits (d e : Draft) : Type 0 where
  fits : list_all count_fits d.instrs ≡ true → list_all count_fits e.instrs ≡ true

-- a step that adds counts that fit wherever it begins
record FitsAlways (step : Draft → Draft) : Type 0 where
  fit : (d : Draft) → Fits d (step d)

infixl 10 ◌▸◌
abbrev ◌▸◌ : {A B : Type 0} → A → (A → B) → B
a ▸ f = f a

from : (d : Draft) → Fits d d
from d = record { fits = λ h. h }

one_more : (is : List UnitInstr) (i : UnitInstr) → count_fits i ≡ true → list_all count_fits is ≡ true → list_all count_fits (is ++ i ∷ []) ≡ true
one_more is i h g = list_all-append count_fits is (i ∷ []) ∙ and_intro g (and_intro h refl)

put_fits : (i : UnitInstr) (d : Draft) → count_fits i ≡ true → list_all count_fits d.instrs ≡ true → list_all count_fits (put i d).instrs ≡ true
unfolding put
put_fits i d h g = one_more d.instrs i h g

module _ {d e : Draft} where
  puts : (i : UnitInstr) → count_fits i ≡ true → Fits d e → Fits d (put i e)
  puts i h c = record { fits = λ g. put_fits i e h (c.fits g) }

  -- what leaves the instructions
  same : {f : Draft} → f.instrs ≡ e.instrs → Fits d e → Fits d f
  same h c = record { fits = λ g. ap (list_all count_fits) h ∙ c.fits g }

  on : {step : Draft → Draft} → FitsAlways step → Fits d e → Fits d (step e)
  on r c = record { fits = λ g. (r.fit e).fits (c.fits g) }

  label : Fits d e → Fits d (with_label e)
  label c = same (label_instrs e) c

  inner : (w : LoopLabels) → Fits d e → Fits d (in_loop w e)
  inner w c = same (in_instrs w e) c

  outer : Fits d e → Fits d (outside_loop e)
  outer c = same (out_instrs e) c

  case_inner : (end : Option ℕ) → Fits d e → Fits d (in_case end e)
  case_inner end c = same (in_case_instrs end e) c

  case_outer : Fits d e → Fits d (outside_case e)
  case_outer c = same (out_case_instrs e) c

numbered : {d e : Draft} (k : Option ℕ) → Fits d e → Fits d (with_number k e)
numbered None c = label c
numbered (Some n) c = c

-- a new label, and an instruction that goes to it
labelled : {d e : Draft} (word : ℕ → UnitInstr) → ((l : ℕ) → count_fits (word l) ≡ true) → Fits d e
    → Fits d (put (word (next_label e)) (with_label e))
labelled {e = e} word h c = label c ▸ puts (word (next_label e)) (h (next_label e))

-- the labels of the innermost loop and case
next_put : {d e : Draft} (word : ℕ → UnitInstr) → ((l : ℕ) → count_fits (word l) ≡ true) → Fits d e → Fits d (put_next word e)
next_put {e = e} word h c = outer c ▸ numbered (innermost e).next ▸ inner _ ▸ puts _ (h _)

last_put : {d e : Draft} (word : ℕ → UnitInstr) → ((l : ℕ) → count_fits (word l) ≡ true) → Fits d e → Fits d (put_last word e)
last_put {e = e} word h c = outer c ▸ numbered (innermost e).last ▸ inner _ ▸ puts _ (h _)

end_put : {d e : Draft} (word : ℕ → UnitInstr) → ((l : ℕ) → count_fits (word l) ≡ true) → Fits d e → Fits d (put_end word e)
end_put {e = e} word h c = case_outer c ▸ numbered (case_end e) ▸ case_inner _ ▸ puts _ (h _)

nothing : FitsAlways (λ d. d)
nothing = record { fit = from }

put_always : (i : UnitInstr) → count_fits i ≡ true → FitsAlways (put i)
put_always i h = record { fit = λ d. from d ▸ puts i h }

then_always : {s t : Draft → Draft} → FitsAlways s → FitsAlways t → FitsAlways (λ d. t (s d))
then_always r q = record { fit = λ d. from d ▸ on r ▸ on q }

then_put : {s : Draft → Draft} (i : UnitInstr) → count_fits i ≡ true → FitsAlways s → FitsAlways (λ d. put i (s d))
then_put i h r = record { fit = λ d. from d ▸ on r ▸ puts i h }

put_then : {s : Draft → Draft} (i : UnitInstr) → count_fits i ≡ true → FitsAlways s → FitsAlways (λ d. s (put i d))
put_then i h r = record { fit = λ d. from d ▸ puts i h ▸ on r }

variable_fits : (name : List ℕ) (d : Draft) → list_all count_fits d.instrs ≡ true → list_all count_fits (put_variable name d).instrs ≡ true
unfolding put_variable
variable_fits name d h = one_more d.instrs (I.Var _) refl h

variable_always : (name : List ℕ) → FitsAlways (put_variable name)
variable_always name = record { fit = λ d. record { fits = variable_fits name d } }

bounded : {s : Draft → Draft} → FitsAlways s → FitsAlways (bounded_code s)
bounded r = record { fit = λ d. from d ▸ labelled I.Mark (λ l. refl) ▸ on r ▸ puts I.Unmark refl ▸ puts (I.Lab _) refl }

created : {s : Draft → Draft} → FitsAlways s → FitsAlways (create_code s)
created r = record {
  fit = λ d. from d ▸ labelled I.Create (λ l. refl) ▸ labelled I.Mark (λ l. refl) ▸ on r
      ▸ puts I.Coret refl ▸ puts I.Efail refl ▸ puts (I.Lab _) refl ▸ puts I.Cofail refl ▸ puts (I.Lab _) refl;
}

either_always : (is : Bool) {s t : Draft → Draft} → FitsAlways s → FitsAlways t → FitsAlways (either_step is s t)
either_always true r q = r
either_always false r q = q

if_always : (is : Bool) {s : Draft → Draft} → FitsAlways s → FitsAlways (λ d. elim is as (λ is. Draft) [ true ↦ d | false ↦ s d ])
if_always true r = nothing
if_always false r = r

unmarks_for_break_always : (o : OpenMarks) → FitsAlways (unmarks_for_break o)
unmarks_for_break_always Outermost = nothing
unmarks_for_break_always (Marked o) = then_always (put_always I.Unmark refl) (unmarks_for_break_always o)
unmarks_for_break_always (Looped o) = nothing
unmarks_for_break_always (Controlled o) = put_always I.Unmark refl
unmarks_for_break_always (Each o) = put_always I.Unmark refl

unmarks_for_next_always : (o : OpenMarks) → FitsAlways (unmarks_for_next o)
unmarks_for_next_always Outermost = nothing
unmarks_for_next_always (Marked o) = then_always (put_always I.Unmark refl) (unmarks_for_next_always o)
unmarks_for_next_always (Looped o) = nothing
unmarks_for_next_always (Controlled o) = nothing
unmarks_for_next_always (Each o) = nothing

-- Literals and keywords

literal_fits : (v : Literal) → count_fits (literal_instr v) ≡ true
literal_fits (Literals.Integer n) = refl
literal_fits (Literals.Text bytes) = refl
literal_fits (Literals.Cset members) = refl

keyword_fits : (k : KeywordNamed) → count_fits (keyword_instr k) ≡ true
keyword_fits K.Fail = refl
keyword_fits k = refl

keyword_always : (found : Option KeywordNamed) → FitsAlways (keyword_code found)
keyword_always None = nothing
keyword_always (Some k) = put_always (keyword_instr k) (keyword_fits k)

-- Operators

prefix_always : (form : Option PrefixForm) {operand marked : Draft → Draft} → FitsAlways operand → FitsAlways marked
    → FitsAlways (prefix_by form operand marked)
prefix_always None r q = nothing
prefix_always (Some Activation) r q = then_put I.Coact refl (put_then I.Pnull refl r)
prefix_always (Some Repetition) r q = record {
  fit = λ d. from d ▸ label ▸ puts (I.Lab _) refl ▸ puts I.Mark0 refl ▸ on q ▸ puts (I.Chfail _) refl ▸ puts I.Esusp refl;
}
prefix_always (Some (Operation op)) r q = then_put (I.Op op) refl r

plain_always : (form : Option InfixForm) {a marked b : Draft → Draft} → FitsAlways a → FitsAlways marked → FitsAlways b
    → FitsAlways (plain_form form a marked b)
plain_always None a m b = nothing
plain_always (Some Both) a m b = record { fit = λ d. from d ▸ on a ▸ puts I.Pop refl ▸ on b }
plain_always (Some Scanning) a m b = record { fit = λ d. from d ▸ on a ▸ puts I.Bscan refl ▸ on b ▸ puts I.Escan refl }
plain_always (Some Either) a m b = record {
  fit = λ d. from d ▸ labelled I.Mark (λ l. refl) ▸ on m ▸ puts I.Esusp refl ▸ labelled I.Goto (λ l. refl)
      ▸ puts (I.Lab _) refl ▸ on b ▸ puts (I.Lab _) refl;
}
plain_always (Some Limiting) a m b = record { fit = λ d. from d ▸ on b ▸ puts I.Limit refl ▸ on m ▸ puts I.Lsusp refl }
plain_always (Some Activating) a m b = then_put I.Coact refl (then_always a b)
plain_always (Some Spreading) a m b = then_put I.Appl refl (then_always a b)
plain_always (Some (Operating op)) a m b = then_put (I.Op op) refl (then_always a b)

update_always : (i : UnitInstr) → count_fits i ≡ true → {a b : Draft → Draft} → FitsAlways a → FitsAlways b → FitsAlways (update i a b)
update_always i h a b = record { fit = λ d. from d ▸ on a ▸ puts I.Dup refl ▸ on b ▸ puts i h ▸ puts (I.Op O.Assign) refl }

augmented_always : (form : Option UpdateForm) {a b : Draft → Draft} → FitsAlways a → FitsAlways b → FitsAlways (augmented_form form a b)
augmented_always None a b = nothing
augmented_always (Some UpdatesBoth) a b = then_put (I.Op O.Assign) refl (then_always a b)
augmented_always (Some UpdatesScanning) a b = record {
  fit = λ d. from d ▸ on a ▸ puts I.Dup refl ▸ puts I.Bscan refl ▸ on b ▸ puts I.Escan refl ▸ puts (I.Op O.Assign) refl;
}
augmented_always (Some UpdatesActivating) a b = update_always I.Coact refl a b
augmented_always (Some (UpdatesOperating op)) a b = update_always (I.Op op) refl a b

binary_always : (o : OpenMarks) (place : Place) (infix_ : Infix) (a b : Tree) → FitsAlways (translate o a)
    → FitsAlways (translate (Marked o) a) → FitsAlways (translate o b) → FitsAlways (translate o (Binary place infix_ a b))
binary_always o place (Plain operator) a b x m y = plain_always (infix_form operator) x m y
binary_always o place (Augmented operator) a b x m y = augmented_always (update_form operator) x y

-- Loops and cases

looped : {s : Draft → Draft} → FitsAlways s → FitsAlways (looped_body s)
looped r = record { fit = λ d. from d ▸ next_put I.Mark (λ l. refl) ▸ on r ▸ puts I.Unmark refl }

ended : {d e : Draft} (i : UnitInstr) → count_fits i ≡ true → Fits d e → Fits d (loop_end i e)
ended i h c = next_put I.Lab (λ l. refl) c ▸ puts i h ▸ last_put I.Lab (λ l. refl) ▸ outer

kinds_always : (kind : LoopKind) {c s : Draft → Draft} → FitsAlways c → FitsAlways s
    → FitsAlways (λ d. d ▹ control_part kind c ▹ s ▹ loop_end (back kind (next_label d)))
kinds_always While r q = record {
  fit = λ d. from d ▸ label ▸ puts (I.Lab _) refl ▸ inner no_ways ▸ puts I.Mark0 refl ▸ on r
      ▸ puts I.Unmark refl ▸ on q ▸ ended (I.Loop _) refl;
}
kinds_always Until r q = record {
  fit = λ d. from d ▸ label ▸ puts (I.Lab _) refl ▸ inner no_ways ▸ labelled I.Mark (λ l. refl) ▸ on r
      ▸ puts I.Unmark refl ▸ puts I.Efail refl ▸ puts (I.Lab _) refl ▸ on q ▸ ended (I.Loop _) refl;
}
kinds_always Every r q = record {
  fit = λ d. from d ▸ inner no_ways ▸ puts I.Mark0 refl ▸ on r ▸ puts I.Pop refl ▸ on q ▸ ended I.Efail refl;
}

loop_always : {s : Draft → Draft} → FitsAlways s
    → FitsAlways (λ d. d ▹ with_label ▹ put (I.Lab (next_label d)) ▹ in_loop no_ways ▹ s ▹ loop_end (I.Loop (next_label d)))
loop_always r = record { fit = λ d. from d ▸ label ▸ puts (I.Lab _) refl ▸ inner no_ways ▸ on r ▸ ended (I.Loop _) refl }

aside_always : {s : Draft → Draft} → FitsAlways s → FitsAlways (aside s)
aside_always r = record { fit = λ d. from d ▸ outer ▸ on r ▸ inner _ }

next_always : (o : OpenMarks) → FitsAlways (λ d. d ▹ unmarks_for_next o ▹ put_next I.Goto)
next_always o = let r = unmarks_for_next_always o in record { fit = λ d. from d ▸ on r ▸ next_put I.Goto (λ l. refl) }

break_always : {s : Draft → Draft} (o : OpenMarks) → FitsAlways s → FitsAlways (λ d. d ▹ unmarks_for_break o ▹ aside s ▹ put_last I.Goto)
break_always o r = let p = unmarks_for_break_always o in let q = aside_always r in
    record { fit = λ d. from d ▸ on p ▸ on q ▸ last_put I.Goto (λ l. refl) }

case_always : {g s : Draft → Draft} → FitsAlways g → FitsAlways s → FitsAlways (case_of g s)
case_always r q = record {
  fit = λ d. from d ▸ case_inner None ▸ on r ▸ puts I.Pop refl ▸ on q ▸ end_put I.Lab (λ l. refl) ▸ case_outer;
}

-- Forms

mutual
  tree_fits : (o : OpenMarks) (e : Tree) → numbers e < 4294967296 → FitsAlways (translate o e)
  tree_fits o Empty h = put_always I.Pnull refl
  tree_fits o (Constant place value) h = put_always (literal_instr value) (literal_fits value)
  tree_fits o (Identifier name) h = variable_always name.text
  tree_fits o (Keyword place name) h = keyword_always (keyword_of name.text)
  tree_fits o (Parentheses place es) h = conjunction_fits o es h
  tree_fits o (Listing place es) h = then_put (I.Llist (elements es)) (elements_fit es h) (arguments_fit o es h)
  tree_fits o (Compound place es) h = compound_fits o es h
  tree_fits o (Call place e es) h = then_put (I.Invoke (elements es)) (elements_fit es (omega (arith, h)))
      (then_always (tree_fits o e (omega (arith, h))) (arguments_fit o es (omega (arith, h))))
  tree_fits o (CoCall place e es) h = then_put (I.Invoke 1) refl (then_put (I.Llist (elements es)) (elements_fit es (omega (arith, h)))
      (then_always (tree_fits o e (omega (arith, h))) (creations_fit es (omega (arith, h)))))
  tree_fits o (Subscript place e es) h = then_always (tree_fits o e (omega (arith, h))) (subscripts_fit o es (omega (arith, h)))
  tree_fits o (Section place kind e i j) h = then_put (I.Op (section_op kind)) refl
      (then_always (then_always (tree_fits o e (omega (arith, h))) (tree_fits o i (omega (arith, h)))) (tree_fits o j (omega (arith, h))))
  tree_fits o (Field place e name) h = then_always (tree_fits o e h) (put_always (I.Field name.text) refl)
  tree_fits o (Prefix place operator e) h =
      prefix_always (prefix_form operator) (tree_fits o e (omega (arith, h))) (tree_fits (Marked o) e (omega (arith, h)))
  tree_fits o (Not place e) h = let r = tree_fits (Marked o) e (omega (arith, h)) in record {
    fit = λ d. from d ▸ labelled I.Mark (λ l. refl) ▸ on r ▸ puts I.Unmark refl ▸ puts I.Efail refl
        ▸ puts (I.Lab _) refl ▸ puts I.Pnull refl;
  }
  tree_fits o (Binary place infix_ a b) h = binary_always o place infix_ a b (tree_fits o a (omega (arith, h)))
      (tree_fits (Marked o) a (omega (arith, h))) (tree_fits o b (omega (arith, h)))
  tree_fits o (To place a b by) h = then_put (I.Op O.ToBy) refl
      (then_always (then_always (tree_fits o a (omega (arith, h))) (tree_fits o b (omega (arith, h)))) (to_step_fits o by (omega (arith, h))))
  tree_fits o (If place e a b) h =
      branches_fit o b (omega (arith, h)) (tree_fits (Marked o) e (omega (arith, h))) (tree_fits o a (omega (arith, h)))
  tree_fits o (Case place e clauses) h = let r = tree_fits (Marked o) e (omega (arith, h)) in
      let q = case_always (guarded_fit o clauses (omega (arith, h))) (default_fits o clauses (omega (arith, h))) in
      record { fit = λ d. from d ▸ puts I.Mark0 refl ▸ on r ▸ puts I.Eret refl ▸ on q }
  tree_fits o (Loop place kind e b) h =
      kinds_always kind (tree_fits (in_control kind o) e (omega (arith, h))) (looped_part_fits (Marked (in_body kind o)) b (omega (arith, h)))
  tree_fits o (Repeat place b) h = loop_always (looped (tree_fits (Marked (Looped o)) b (omega (arith, h))))
  tree_fits o (Create place e) h = created (tree_fits Outermost e (omega (arith, h)))
  tree_fits o (Next place) h = if_always (is_nextless o) (next_always o)
  tree_fits o (Fail place) h = put_always I.Pfail refl
  tree_fits o (Break place e) h = if_always (is_loopless o) (break_always o (tree_fits (around o) e (omega (arith, h))))
  tree_fits o (Return place e) h = let r = tree_fits (Marked o) e (omega (arith, h)) in record {
    fit = λ d. from d ▸ labelled I.Mark (λ l. refl) ▸ on r ▸ puts I.Pret refl ▸ puts (I.Lab _) refl ▸ puts I.Pfail refl;
  }
  tree_fits o (Suspend place e b) h = let r = tree_fits (Marked o) e (omega (arith, h)) in
      let q = suspended_part_fits (Marked (Marked o)) b (omega (arith, h)) in
      record { fit = λ d. from d ▸ puts I.Mark0 refl ▸ on r ▸ puts I.Psusp refl ▸ puts I.Pop refl ▸ on q ▸ puts I.Efail refl }

  operands_fit : (o : OpenMarks) (es : Trees) → all_numbers es < 4294967296 → FitsAlways (operands o es)
  operands_fit o NoTrees h = nothing
  operands_fit o (More e es) h = then_always (tree_fits o e (omega (arith, h))) (operands_fit o es (omega (arith, h)))

  arguments_fit : (o : OpenMarks) (es : Trees) → all_numbers es < 4294967296 → FitsAlways (arguments o es)
  arguments_fit o NoTrees h = nothing
  arguments_fit o (More e es) h = if_always (is_no_element (More e es))
      (then_always (tree_fits o e (omega (arith, h))) (operands_fit o es (omega (arith, h))))

  conjunction_fits : (o : OpenMarks) (es : Trees) → all_numbers es < 4294967296 → FitsAlways (conjunction o es)
  conjunction_fits o NoTrees h = nothing
  conjunction_fits o (More e es) h = then_always (tree_fits o e (omega (arith, h))) (conjuncts_fit o es (omega (arith, h)))

  conjuncts_fit : (o : OpenMarks) (es : Trees) → all_numbers es < 4294967296 → FitsAlways (conjuncts o es)
  conjuncts_fit o NoTrees h = nothing
  conjuncts_fit o (More e es) h = then_always (put_then I.Pop refl (tree_fits o e (omega (arith, h)))) (conjuncts_fit o es (omega (arith, h)))

  compound_fits : (o : OpenMarks) (es : Trees) → all_numbers es < 4294967296 → FitsAlways (compound o es)
  compound_fits o NoTrees h = nothing
  compound_fits o (More e es) h = then_always (either_always (is_nothing es) (tree_fits o e (omega (arith, h)))
      (if_always (is_empty e) (bounded (tree_fits (Marked o) e (omega (arith, h)))))) (compound_fits o es (omega (arith, h)))

  creations_fit : (es : Trees) → all_numbers es < 4294967296 → FitsAlways (creations es)
  creations_fit NoTrees h = nothing
  creations_fit (More e es) h = if_always (is_no_element (More e es))
      (then_always (created (tree_fits Outermost e (omega (arith, h)))) (other_creations_fit es (omega (arith, h))))

  other_creations_fit : (es : Trees) → all_numbers es < 4294967296 → FitsAlways (other_creations es)
  other_creations_fit NoTrees h = nothing
  other_creations_fit (More e es) h =
      then_always (created (tree_fits Outermost e (omega (arith, h)))) (other_creations_fit es (omega (arith, h)))

  subscripts_fit : (o : OpenMarks) (es : Trees) → all_numbers es < 4294967296 → FitsAlways (subscripts o es)
  subscripts_fit o NoTrees h = nothing
  subscripts_fit o (More e es) h =
      then_always (then_put (I.Op O.Subscript) refl (tree_fits o e (omega (arith, h)))) (subscripts_fit o es (omega (arith, h)))

  to_step_fits : (o : OpenMarks) (by : MaybeTree) → maybe_numbers by < 4294967296 → FitsAlways (to_step o by)
  to_step_fits o Absent h = put_always (I.Int _) refl
  to_step_fits o (Present e) h = tree_fits o e h

  branches_fit : (o : OpenMarks) (b : MaybeTree) → maybe_numbers b < 4294967296 → {condition first : Draft → Draft} → FitsAlways condition
      → FitsAlways first → FitsAlways (λ d. d ▹ if_mark b ▹ condition ▹ put I.Unmark ▹ first ▹ otherwise o b (next_label d))
  branches_fit o Absent h r q = record { fit = λ d. from d ▸ puts I.Mark0 refl ▸ on r ▸ puts I.Unmark refl ▸ on q }
  branches_fit o (Present b) h r q = let p = tree_fits o b h in record {
    fit = λ d. from d ▸ labelled I.Mark (λ l. refl) ▸ on r ▸ puts I.Unmark refl ▸ on q
        ▸ labelled I.Goto (λ l. refl) ▸ puts (I.Lab _) refl ▸ on p ▸ puts (I.Lab _) refl;
  }

  looped_part_fits : (o : OpenMarks) (b : MaybeTree) → maybe_numbers b < 4294967296 → FitsAlways (looped_part o b)
  looped_part_fits o Absent h = nothing
  looped_part_fits o (Present b) h = looped (tree_fits o b h)

  suspended_part_fits : (o : OpenMarks) (b : MaybeTree) → maybe_numbers b < 4294967296 → FitsAlways (suspended_part o b)
  suspended_part_fits o Absent h = record { fit = λ d. from d ▸ label ▸ puts (I.Lab _) refl }
  suspended_part_fits o (Present b) h = bounded (tree_fits o b h)

  guarded_fit : (o : OpenMarks) (clauses : Clauses) → clause_numbers clauses < 4294967296 → FitsAlways (guarded_part o clauses)
  guarded_fit o NoClauses h = nothing
  guarded_fit o (MoreClauses (Default place e) clauses) h = guarded_fit o clauses (omega (arith, h))
  guarded_fit o (MoreClauses (Guarded place s b) clauses) h =
      let r = tree_fits (Marked o) s (omega (arith, h)) in
      let q = tree_fits o b (omega (arith, h)) in
      let p = guarded_fit o clauses (omega (arith, h)) in
      record {
        fit = λ d. from d ▸ labelled I.Mark (λ l. refl) ▸ puts I.Ccase refl ▸ on r ▸ puts (I.Op O.Equivalent) refl
            ▸ puts I.Unmark refl ▸ puts I.Pop refl ▸ on q ▸ end_put I.Goto (λ l. refl) ▸ puts (I.Lab _) refl ▸ on p;
      }

  default_fits : (o : OpenMarks) (clauses : Clauses) → clause_numbers clauses < 4294967296 → FitsAlways (default_part o clauses)
  default_fits o NoClauses h = put_always I.Efail refl
  default_fits o (MoreClauses (Default place e) clauses) h = tree_fits o e (omega (arith, h))
  default_fits o (MoreClauses (Guarded place s b) clauses) h = default_fits o clauses (omega (arith, h))

-- Procedures

initially_fits : (initial : Initial) → initial_numbers initial < 4294967296 → FitsAlways (initially initial)
initially_fits NoInitial h = nothing
initially_fits (Initially place e) h = let r = tree_fits Outermost e (omega (arith, h)) in record {
  fit = λ d. from d ▸ labelled I.Init (λ l. refl) ▸ puts (I.Mark _) refl ▸ on r ▸ puts I.Unmark refl ▸ puts (I.Lab _) refl;
}

body_fits : (es : Trees) → all_numbers es < 4294967296 → FitsAlways (body es)
body_fits NoTrees h = nothing
body_fits (More e es) h =
    then_always (if_always (is_empty e) (bounded (tree_fits Outermost e (omega (arith, h))))) (body_fits es (omega (arith, h)))

pub counts_fit : (procedure : Procedure) → procedure_numbers procedure < 4294967296 → list_all count_fits (proc_code procedure).instrs ≡ true
counts_fit procedure h =
    let code = then_put I.Pfail refl (then_always (initially_fits procedure.initial (omega (arith, h))) (body_fits procedure.body (omega (arith, h)))) in
    (code.fit (first_draft procedure)).fits refl
