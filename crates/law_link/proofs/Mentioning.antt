-- What each form of a tree adds to a draft: what its instructions take from tables, and the names that it uses, in order.
use Rattle.std.proofs.Common.{◌≡◌, ℕ, suc, Bool, true, false, List, [], ◌∷◌, ◌++◌, length, Option, None, Some, refl, sym, ap, ◌∙◌, append_assoc, append-nil, map}
use Rattle.std.specs.List.{flat_map}
use Rattle.std.specs.Option.{option_map_or}
use Rattle.std.proofs.lemmas.Bool.{false≢true}
use Rattle.std.proofs.lemmas.Grind.{flat_map-append}
use Rattle.std.proofs.lemmas.List.{map-append}
use Rattle.icn_text.specs.declared.keyword.Keyword.{Keyword as KeywordNamed}
use Rattle.icn_text.specs.declared.keyword.Keyword.TheVariants as K
use Rattle.icn_text.specs.declared.op.Op.TheVariants as O
use Rattle.icn_tree.specs.declared.token.Operator.{Operator}
use Rattle.icn_tree.specs.declared.token.Operator.TheVariants as Signs
use Rattle.icn_tree.specs.declared.tree.Infix.{Infix}
use Rattle.icn_tree.specs.declared.tree.Infix.TheVariants.{Plain, Augmented}
use Rattle.icn_tree.specs.declared.tree.Literal.{Literal}
use Rattle.icn_tree.specs.declared.tree.Literal.TheVariants as Literals
use Rattle.icn_tree.specs.declared.tree.LoopKind.{LoopKind}
use Rattle.icn_tree.specs.declared.tree.LoopKind.TheVariants.{While, Until, Every}
use Rattle.icn_tree.specs.declared.tree.Place.{Place}
use Rattle.icn_tree.specs.NameSets.{NameTest}
use Rattle.icn_tree.specs.TokenBounds.{is_augmented}
use Rattle.icn_tree.specs.Trees.{Procedure, Initial, NoInitial, Initially, Tree, MaybeTree, Trees, Clauses, Empty, Constant, Identifier, Keyword, Parentheses, Listing, Compound, Call, CoCall, Subscript, Section, Field, Prefix, Not, Binary, To, If, Case, Loop, Repeat, Create, Next, Fail, Break, Return, Suspend, Absent, Present, NoTrees, More, Default, Guarded, NoClauses, MoreClauses}
use Rattle.icn_decls.specs.Contexts.{Context, outermost, create_context, enter_loop, leave_loop, others}
use Rattle.icn_decls.specs.Faults.{faults, maybe_faults, all_faults, clauses_faults, initial_faults, procedure_faults, next_in_control}
use Rattle.icn_unit.specs.declared.unit.UnitInstr.{UnitInstr}
use Rattle.icn_unit.specs.declared.unit.UnitInstr.TheVariants as I
use Rattle.icn_unit.specs.UnitOperands.{keyword_of}
use Rattle.icn_link.specs.Mentions as Unit
use Rattle.icn_meaning.specs.Program.{names_in, names_in_all, names_in_maybe, names_in_guarded, names_in_default, names_in_initial}
use Rattle.law_simulation.specs.Mentions.{TableMention, AnInteger, AText, ASet, AField, literal_mention, mentions, all_mentions, maybe_mentions, step_mentions, guarded_mentions, default_mentions, initial_mentions}
use Rattle.law_simulation.proofs.TreeForms.{is_before, is_between, IsInfix, Formed, FormedMaybe, FormedSome, FormedAll, FormedClauses, FormedInitial}
use Rattle.icn_translate.specs.declared.builder.LoopLabels.{LoopLabels}
use Rattle.icn_translate.specs.declared.forms.InfixForm.{InfixForm}
use Rattle.icn_translate.specs.declared.forms.InfixForm.TheVariants.{Both, Scanning, Either, Limiting, Activating, Spreading, Operating}
use Rattle.icn_translate.specs.declared.forms.UpdateForm.{UpdateForm}
use Rattle.icn_translate.specs.declared.forms.UpdateForm.TheVariants.{Both as UpdatesBoth, Scanning as UpdatesScanning, Activating as UpdatesActivating, Operating as UpdatesOperating}
use Rattle.icn_translate.specs.declared.forms.PrefixForm.{PrefixForm}
use Rattle.icn_translate.specs.declared.forms.PrefixForm.TheVariants.{Activation, Repetition, Operation}
use Rattle.icn_translate.specs.Drafts.{Draft, ◌▹◌, put, next_label, with_label, with_number, with_name, with_names, name_index, put_variable, no_ways, in_loop, outside_loop, innermost, aside, put_next, put_last, case_end, in_case, outside_case, put_end}
use Rattle.icn_translate.specs.Instructions.{literal_instr, keyword_instr, section_op, infix_form, update_form, prefix_form}
use Rattle.icn_translate.specs.OpenMarks.{OpenMarks, Outermost, Marked, Looped, Controlled, Each, is_loopless, is_nextless, unmarks_for_break, unmarks_for_next, around}
use Rattle.icn_translate.specs.Translation.{is_empty, is_nothing, is_no_element, elements, bounded_code, create_code, if_mark, unless_empty, either_step, control_part, in_control, in_body, back, loop_end, keyword_code, prefix_by, plain_form, update, augmented_form, case_of, looped_body, translate, operands, arguments, conjunction, conjuncts, compound, creations, other_creations, subscripts, to_step, otherwise, looped_part, suspended_part, guarded_part, default_part, initially, body}
use Rattle.icn_units.proofs.KeptByForms.{none_before, none_behind, break_inside}
use Rattle.law_link.proofs.CodeLaw.{trees_faultless}
use Rattle.law_link.proofs.CodeOpen.{loops_in, loop_is_open, loops_around}
use Rattle.law_link.proofs.FirstsOnce.{names_more, place_stays}

-- what an instruction of a unit takes from a table, as the first law has it
abbrev pub taken : Unit.Mention → List TableMention
taken Unit.NoMention = []
taken (Unit.AnInteger n) = AnInteger n ∷ []
taken (Unit.AText bytes) = AText bytes ∷ []
taken (Unit.ASet members) = ASet members ∷ []
taken (Unit.AField name) = AField name ∷ []
taken (Unit.Operands count) = []

abbrev pub taken_by : UnitInstr → List TableMention
taken_by i = taken (Unit.mention_of i)

abbrev pub taken_in : List UnitInstr → List TableMention
taken_in instrs = flat_map taken_by instrs

-- the place of the name that it uses, if it uses one
abbrev pub places_by : UnitInstr → List ℕ
places_by i = option_map_or (λ place. place ∷ []) (Unit.name_used i) []

abbrev pub places_in : List UnitInstr → List ℕ
places_in instrs = flat_map places_by instrs

abbrev taken_and_used : UnitInstr → List TableMention × List ℕ
taken_and_used i = (taken_by i, places_by i)

abbrev nothing : List TableMention × List ℕ
nothing = ([], [])

-- it takes nothing from tables, and uses no name
abbrev IsPlain : UnitInstr → Type 0
IsPlain i = taken_and_used i ≡ nothing

-- From one draft to the other this was taken from tables, and these names were used, one by each instruction that uses one, whatever
-- names come behind.
pub record Adds (d e : Draft) (ms : List TableMention) (ns : List (List ℕ)) : Type 0 where
  pub mentions : taken_in e.instrs ≡ taken_in d.instrs ++ ms
  pub names : e.names ≡ with_names d.names ns
  pub used : (more : List (List ℕ)) → places_in e.instrs ≡ places_in d.instrs ++ map (name_index (with_names e.names more)) ns

-- a step that adds this wherever it begins
pub record AddsAlways (ms : List TableMention) (ns : List (List ℕ)) (step : Draft → Draft) : Type 0 where
  pub adds : (d : Draft) → Adds d (step d) ms ns

infixl 10 ◌▸◌
abbrev ◌▸◌ : {A B : Type 0} → A → (A → B) → B
a ▸ f = f a

from : (d : Draft) → Adds d d [] []
from d = record {
  mentions = sym (append-nil (taken_in d.instrs));
  names = refl;
  used = λ more. sym (append-nil (places_in d.instrs));
}

taken_more : (is : List UnitInstr) (i : UnitInstr) → taken_in (is ++ i ∷ []) ≡ taken_in is ++ taken_by i
taken_more is i = flat_map-append taken_by is (i ∷ []) ∙ ap (λ ms. taken_in is ++ ms) (append-nil (taken_by i))

places_more : (is : List UnitInstr) (i : UnitInstr) → places_in (is ++ i ∷ []) ≡ places_in is ++ places_by i
places_more is i = flat_map-append places_by is (i ∷ []) ∙ ap (λ ps. places_in is ++ ps) (append-nil (places_by i))

put_taken : (i : UnitInstr) (d : Draft) → taken_in (put i d).instrs ≡ taken_in d.instrs ++ taken_by i
unfolding put
put_taken i d = taken_more d.instrs i

put_places : (i : UnitInstr) (d : Draft) → places_in (put i d).instrs ≡ places_in d.instrs ++ places_by i
unfolding put
put_places i d = places_more d.instrs i

put_names : (i : UnitInstr) (d : Draft) → (put i d).names ≡ d.names
unfolding put
put_names i d = refl

same_names : (d e : Draft) (ns : List (List ℕ)) → e.names ≡ with_names d.names ns → e.names ≡ with_names d.names (ns ++ [])
same_names d e ns h = h ∙ ap (with_names d.names) (sym (append-nil ns))

-- the places of the names that were used behind a draft, where these are all names
abbrev places_among : Draft → List (List ℕ) → List (List ℕ) → List ℕ
places_among d ns names = places_in d.instrs ++ map (name_index names) ns

module _ {d e : Draft} {ms : List TableMention} {ns : List (List ℕ)} where
  unused : (i : UnitInstr) → places_by i ≡ [] → Adds d e ms ns → (more : List (List ℕ))
      → places_in (put i e).instrs ≡ places_among d ns (with_names (put i e).names more)
  unused i h c more = put_places i e ∙ ap (λ l. places_in e.instrs ++ l) h ∙ append-nil (places_in e.instrs) ∙ c.used more
      ∙ ap (λ names. places_among d ns (with_names names more)) (sym (put_names i e))

  -- an instruction
  puts : (i : UnitInstr) → places_by i ≡ [] → Adds d e ms ns → Adds d (put i e) (ms ++ taken_by i) ns
  puts i h c = record {
    mentions = put_taken i e ∙ ap (λ l. l ++ taken_by i) c.mentions ∙ append_assoc (taken_in d.instrs) ms (taken_by i);
    names = put_names i e ∙ c.names;
    used = unused i h c;
  }

  -- one that takes nothing from tables and uses no name
  plainly : (i : UnitInstr) → IsPlain i → Adds d e ms ns → Adds d (put i e) ms ns
  plainly i h c = record {
    mentions = put_taken i e ∙ ap (λ (b : List TableMention × List ℕ). taken_in e.instrs ++ b.0) h ∙ append-nil (taken_in e.instrs) ∙ c.mentions;
    names = put_names i e ∙ c.names;
    used = unused i (ap (λ (b : List TableMention × List ℕ). b.1) h) c;
  }

  -- what leaves instructions and names
  same : {f : Draft} → f.instrs ≡ e.instrs → f.names ≡ e.names → Adds d e ms ns → Adds d f ms ns
  same h g c = record {
    mentions = ap taken_in h ∙ c.mentions;
    names = g ∙ c.names;
    used = λ more. ap places_in h ∙ c.used more ∙ ap (λ names. places_among d ns (with_names names more)) (sym g);
  }

  on : {ks : List TableMention} {bs : List (List ℕ)} {step : Draft → Draft} → AddsAlways ks bs step → Adds d e ms ns
      → Adds d (step e) (ms ++ ks) (ns ++ bs)
  on {ks = ks} {bs = bs} {step = step} r c = let a = r.adds e in record {
    mentions = a.mentions ∙ ap (λ l. l ++ ks) c.mentions ∙ append_assoc (taken_in d.instrs) ms ks;
    names = a.names ∙ ap (λ l. with_names l bs) c.names ∙ names_more d.names ns bs;
    used = λ more.
        let all = with_names (step e).names more in
        let known : with_names e.names (bs ++ more) ≡ all =
        sym (names_more e.names bs more) ∙ ap (λ names. with_names names more) (sym a.names) in
        a.used more
        ∙ ap (λ l. l ++ map (name_index all) bs) (c.used (bs ++ more) ∙ ap (places_among d ns) known)
        ∙ append_assoc (places_in d.instrs) (map (name_index all) ns) (map (name_index all) bs)
        ∙ ap (λ l. places_in d.instrs ++ l) (sym (map-append (name_index all) ns bs));
  }

  so : {ms' : List TableMention} {ns' : List (List ℕ)} → ms ≡ ms' → ns ≡ ns' → Adds d e ms ns → Adds d e ms' ns'
  so h g c = record {
    mentions = c.mentions ∙ ap (λ l. taken_in d.instrs ++ l) h;
    names = c.names ∙ ap (with_names d.names) g;
    used = λ more. c.used more ∙ ap (λ l. places_in d.instrs ++ map (name_index (with_names e.names more)) l) g;
  }

-- Steps that leave instructions and names

pub label_instrs : (d : Draft) → (with_label d).instrs ≡ d.instrs
unfolding with_label
label_instrs d = refl

label_names : (d : Draft) → (with_label d).names ≡ d.names
unfolding with_label
label_names d = refl

pub in_instrs : (w : LoopLabels) (d : Draft) → (in_loop w d).instrs ≡ d.instrs
unfolding in_loop
in_instrs w d = refl

in_names : (w : LoopLabels) (d : Draft) → (in_loop w d).names ≡ d.names
unfolding in_loop
in_names w d = refl

pub out_instrs : (d : Draft) → (outside_loop d).instrs ≡ d.instrs
unfolding outside_loop
out_instrs d = refl

out_names : (d : Draft) → (outside_loop d).names ≡ d.names
unfolding outside_loop
out_names d = refl

pub in_case_instrs : (end : Option ℕ) (d : Draft) → (in_case end d).instrs ≡ d.instrs
unfolding in_case
in_case_instrs end d = refl

in_case_names : (end : Option ℕ) (d : Draft) → (in_case end d).names ≡ d.names
unfolding in_case
in_case_names end d = refl

pub out_case_instrs : (d : Draft) → (outside_case d).instrs ≡ d.instrs
unfolding outside_case
out_case_instrs d = refl

out_case_names : (d : Draft) → (outside_case d).names ≡ d.names
unfolding outside_case
out_case_names d = refl

module _ {d e : Draft} {ms : List TableMention} {ns : List (List ℕ)} where
  label : Adds d e ms ns → Adds d (with_label e) ms ns
  label c = same (label_instrs e) (label_names e) c

  numbers : (k : Option ℕ) → Adds d e ms ns → Adds d (with_number k e) ms ns
  numbers None c = label c
  numbers (Some n) c = c

  inner : (w : LoopLabels) → Adds d e ms ns → Adds d (in_loop w e) ms ns
  inner w c = same (in_instrs w e) (in_names w e) c

  outer : Adds d e ms ns → Adds d (outside_loop e) ms ns
  outer c = same (out_instrs e) (out_names e) c

  case_inner : (end : Option ℕ) → Adds d e ms ns → Adds d (in_case end e) ms ns
  case_inner end c = same (in_case_instrs end e) (in_case_names end e) c

  case_outer : Adds d e ms ns → Adds d (outside_case e) ms ns
  case_outer c = same (out_case_instrs e) (out_case_names e) c

-- a new label, and an instruction that goes to it
labelled : {d e : Draft} {ms : List TableMention} {ns : List (List ℕ)} (word : ℕ → UnitInstr)
    → ((l : ℕ) → IsPlain (word l)) → Adds d e ms ns → Adds d (put (word (next_label e)) (with_label e)) ms ns
labelled {e = e} word h c = label c ▸ plainly (word (next_label e)) (h (next_label e))

-- the labels of the innermost loop and case
next_label_put : {d e : Draft} {ms : List TableMention} {ns : List (List ℕ)} (word : ℕ → UnitInstr)
    → ((l : ℕ) → IsPlain (word l)) → Adds d e ms ns → Adds d (put_next word e) ms ns
next_label_put {e = e} word h c =
    outer c ▸ numbers (innermost e).next ▸ inner _ ▸ plainly _ (h _)

last_label_put : {d e : Draft} {ms : List TableMention} {ns : List (List ℕ)} (word : ℕ → UnitInstr)
    → ((l : ℕ) → IsPlain (word l)) → Adds d e ms ns → Adds d (put_last word e) ms ns
last_label_put {e = e} word h c =
    outer c ▸ numbers (innermost e).last ▸ inner _ ▸ plainly _ (h _)

end_label_put : {d e : Draft} {ms : List TableMention} {ns : List (List ℕ)} (word : ℕ → UnitInstr)
    → ((l : ℕ) → IsPlain (word l)) → Adds d e ms ns → Adds d (put_end word e) ms ns
end_label_put {e = e} word h c =
    case_outer c ▸ numbers (case_end e) ▸ case_inner _ ▸ plainly _ (h _)

-- Steps that forms share

nothing_adds : AddsAlways [] [] (λ d. d)
nothing_adds = record { adds = from }

put_adds : (i : UnitInstr) → places_by i ≡ [] → AddsAlways (taken_by i) [] (put i)
put_adds i h = record { adds = λ d. from d ▸ puts i h }

plain_adds : (i : UnitInstr) → IsPlain i → AddsAlways [] [] (put i)
plain_adds i h = record { adds = λ d. from d ▸ plainly i h }

then_adds : {ks bs : List TableMention} {ms ns : List (List ℕ)} {s t : Draft → Draft} → AddsAlways ks ms s → AddsAlways bs ns t
    → AddsAlways (ks ++ bs) (ms ++ ns) (λ d. t (s d))
then_adds r q = record { adds = λ d. from d ▸ on r ▸ on q }

then_put : {ks : List TableMention} {ms : List (List ℕ)} {s : Draft → Draft} (i : UnitInstr) → IsPlain i
    → AddsAlways ks ms s → AddsAlways ks ms (λ d. put i (s d))
then_put i h r = record { adds = λ d. from d ▸ on r ▸ plainly i h }

put_then : {ks : List TableMention} {ms : List (List ℕ)} {s : Draft → Draft} (i : UnitInstr) → IsPlain i
    → AddsAlways ks ms s → AddsAlways ks ms (λ d. s (put i d))
put_then i h r = record { adds = λ d. from d ▸ plainly i h ▸ on r }

always_as : {ks bs : List TableMention} {ms ns : List (List ℕ)} {s : Draft → Draft} → ks ≡ bs → ms ≡ ns
    → AddsAlways ks ms s → AddsAlways bs ns s
always_as h g r = record { adds = λ d. r.adds d ▸ so h g }

variable_taken : (name : List ℕ) (d : Draft) → taken_in (put_variable name d).instrs ≡ taken_in d.instrs ++ []
unfolding put_variable
variable_taken name d = taken_more d.instrs (I.Var _)

variable_names : (name : List ℕ) (d : Draft) → (put_variable name d).names ≡ with_name d.names name
unfolding put_variable
variable_names name d = refl

variable_places : (name : List ℕ) (d : Draft)
    → places_in (put_variable name d).instrs ≡ places_in d.instrs ++ name_index d.names name ∷ []
unfolding put_variable
variable_places name d = places_more d.instrs (I.Var _)

variable_adds : (name : List ℕ) → AddsAlways [] (name ∷ []) (put_variable name)
variable_adds name = record {
  adds = λ d. record {
    mentions = variable_taken name d;
    names = variable_names name d;
    used = λ more. variable_places name d
        ∙ ap (λ place. places_in d.instrs ++ place ∷ []) (place_stays d.names name more
        ∙ ap (λ names. name_index (with_names names more) name) (sym (variable_names name d)));
  };
}

bounded_adds : {ks : List TableMention} {ms : List (List ℕ)} {s : Draft → Draft} → AddsAlways ks ms s → AddsAlways ks ms (bounded_code s)
bounded_adds r = record { adds = λ d. from d ▸ labelled I.Mark (λ l. refl) ▸ on r ▸ plainly I.Unmark refl ▸ plainly (I.Lab _) refl }

created_adds : {ks : List TableMention} {ms : List (List ℕ)} {s : Draft → Draft} → AddsAlways ks ms s → AddsAlways ks ms (create_code s)
created_adds r = record {
  adds = λ d. from d ▸ labelled I.Create (λ l. refl) ▸ labelled I.Mark (λ l. refl) ▸ on r
      ▸ plainly I.Coret refl ▸ plainly I.Efail refl ▸ plainly (I.Lab _) refl ▸ plainly I.Cofail refl
      ▸ plainly (I.Lab _) refl;
}

-- one step or another that add the same
either_adds : {ks : List TableMention} {ms : List (List ℕ)} (is : Bool) {s t : Draft → Draft} → AddsAlways ks ms s
    → AddsAlways ks ms t → AddsAlways ks ms (either_step is s t)
either_adds true r q = r
either_adds false r q = q

-- nothing, where nothing is added
if_adds : {ks : List TableMention} {ms : List (List ℕ)} (is : Bool) {s : Draft → Draft} → (is ≡ true → (ks ≡ []) × (ms ≡ []))
    → AddsAlways ks ms s → AddsAlways ks ms (λ d. elim is as (λ is. Draft) [ true ↦ d | false ↦ s d ])
if_adds true h r = let none = h refl in always_as (sym none.0) (sym none.1) nothing_adds
if_adds false h r = r

empty_none : (e : Tree) → is_empty e ≡ true → (mentions e ≡ []) × (names_in e ≡ [])
empty_none Empty h = (refl, refl)
empty_none e h = absurd (cc)

unless_adds : (e : Tree) {s : Draft → Draft} → AddsAlways (mentions e) (names_in e) s
    → AddsAlways (mentions e) (names_in e) (unless_empty e s)
unless_adds e r = if_adds (is_empty e) (empty_none e) r

no_element : (e : Tree) (es : Trees) → is_no_element (More e es) ≡ true
    → (all_mentions (More e es) ≡ []) × (names_in_all (More e es) ≡ [])
no_element Empty NoTrees h = (refl, refl)
no_element Empty (More e es) h = absurd (cc)
no_element e es h = absurd (cc)

unmarks_for_break_add : (o : OpenMarks) → AddsAlways [] [] (unmarks_for_break o)
unmarks_for_break_add Outermost = nothing_adds
unmarks_for_break_add (Marked o) = then_adds (plain_adds I.Unmark refl) (unmarks_for_break_add o)
unmarks_for_break_add (Looped o) = nothing_adds
unmarks_for_break_add (Controlled o) = plain_adds I.Unmark refl
unmarks_for_break_add (Each o) = plain_adds I.Unmark refl

unmarks_for_next_add : (o : OpenMarks) → AddsAlways [] [] (unmarks_for_next o)
unmarks_for_next_add Outermost = nothing_adds
unmarks_for_next_add (Marked o) = then_adds (plain_adds I.Unmark refl) (unmarks_for_next_add o)
unmarks_for_next_add (Looped o) = nothing_adds
unmarks_for_next_add (Controlled o) = nothing_adds
unmarks_for_next_add (Each o) = nothing_adds

-- Literals and keywords

literal_unused : (v : Literal) → places_by (literal_instr v) ≡ []
literal_unused (Literals.Integer n) = refl
literal_unused (Literals.Text bytes) = refl
literal_unused (Literals.Cset members) = refl

literal_taken : (v : Literal) → taken_by (literal_instr v) ≡ literal_mention v ∷ []
literal_taken (Literals.Integer n) = refl
literal_taken (Literals.Text bytes) = refl
literal_taken (Literals.Cset members) = refl

keyword_taken : (k : KeywordNamed) → IsPlain (keyword_instr k)
keyword_taken K.Fail = refl
keyword_taken k = refl

keyword_adds : (found : Option KeywordNamed) → AddsAlways [] [] (keyword_code found)
keyword_adds None = nothing_adds
keyword_adds (Some k) = plain_adds (keyword_instr k) (keyword_taken k)

-- Operators

-- the form is there: its operator stands in its place
abbrev IsThere : {A : Type 0} → Option A → Type 0
IsThere None = ⊥
IsThere (Some form) = Unit {0}

before_there : (operator : Operator) → is_before operator ≡ true → IsThere (prefix_form operator)
before_there Signs.Dot h = tt
before_there Signs.Bang h = tt
before_there Signs.At h = tt
before_there Signs.Bar h = tt
before_there Signs.Plus h = tt
before_there Signs.Minus h = tt
before_there Signs.Star h = tt
before_there Signs.Slash h = tt
before_there Signs.Backslash h = tt
before_there Signs.Caret h = tt
before_there Signs.Tilde h = tt
before_there Signs.Equal h = tt
before_there Signs.Question h = tt
before_there operator h = absurd (cc)

between_there : (operator : Operator) → is_between operator ≡ true → IsThere (infix_form operator)
between_there Signs.Dot h = absurd (cc)
between_there Signs.Tilde h = absurd (cc)
between_there operator h = tt

augmented_there : (operator : Operator) → is_augmented operator ≡ true → IsThere (update_form operator)
augmented_there Signs.Bang h = absurd (cc)
augmented_there Signs.Backslash h = absurd (cc)
augmented_there Signs.Bar h = absurd (cc)
augmented_there Signs.Dot h = absurd (cc)
augmented_there Signs.Tilde h = absurd (cc)
augmented_there Signs.Assign h = absurd (cc)
augmented_there Signs.Swap h = absurd (cc)
augmented_there Signs.ReversibleAssign h = absurd (cc)
augmented_there Signs.ReversibleSwap h = absurd (cc)
augmented_there operator h = tt

prefix_adds : {ks : List TableMention} {ms : List (List ℕ)} (form : Option PrefixForm) → IsThere form → {operand marked : Draft → Draft} → AddsAlways ks ms operand
    → AddsAlways ks ms marked → AddsAlways ks ms (prefix_by form operand marked)
prefix_adds None h r q = absurd h
prefix_adds (Some Activation) h r q = then_put I.Coact refl (put_then I.Pnull refl r)
prefix_adds (Some Repetition) h r q = record {
  adds = λ d. from d ▸ label ▸ plainly (I.Lab _) refl ▸ plainly I.Mark0 refl ▸ on q
      ▸ plainly (I.Chfail _) refl ▸ plainly I.Esusp refl;
}
prefix_adds (Some (Operation op)) h r q = then_put (I.Op op) refl r

-- what is added in which order
abbrev in_order : {A : Type 0} → Option InfixForm → List A → List A → List A
in_order None xs ys = xs ++ ys
in_order (Some Limiting) xs ys = ys ++ xs
in_order (Some Both) xs ys = xs ++ ys
in_order (Some Scanning) xs ys = xs ++ ys
in_order (Some Either) xs ys = xs ++ ys
in_order (Some Activating) xs ys = xs ++ ys
in_order (Some Spreading) xs ys = xs ++ ys
in_order (Some (Operating op)) xs ys = xs ++ ys

plain_mentions : (place : Place) (operator : Operator) (a b : Tree)
    → in_order (infix_form operator) (mentions a) (mentions b) ≡ mentions (Binary place (Plain operator) a b)
plain_mentions place Signs.Backslash a b = refl
plain_mentions place operator a b = refl

plain_names : (place : Place) (operator : Operator) (a b : Tree)
    → in_order (infix_form operator) (names_in a) (names_in b) ≡ names_in (Binary place (Plain operator) a b)
plain_names place Signs.Backslash a b = refl
plain_names place operator a b = refl

plain_form_adds : {ks bs : List TableMention} {ms ns : List (List ℕ)} (form : Option InfixForm) → IsThere form → {a marked b : Draft → Draft} → AddsAlways ks ms a
    → AddsAlways ks ms marked → AddsAlways bs ns b → AddsAlways (in_order form ks bs) (in_order form ms ns) (plain_form form a marked b)
plain_form_adds None h a m b = absurd h
plain_form_adds (Some Both) h a m b = record { adds = λ d. from d ▸ on a ▸ plainly I.Pop refl ▸ on b }
plain_form_adds (Some Scanning) h a m b = record { adds = λ d. from d ▸ on a ▸ plainly I.Bscan refl ▸ on b ▸ plainly I.Escan refl }
plain_form_adds (Some Either) h a m b = record {
  adds = λ d. from d ▸ labelled I.Mark (λ l. refl) ▸ on m ▸ plainly I.Esusp refl ▸ labelled I.Goto (λ l. refl)
      ▸ plainly (I.Lab _) refl ▸ on b ▸ plainly (I.Lab _) refl;
}
plain_form_adds (Some Limiting) h a m b = record { adds = λ d. from d ▸ on b ▸ plainly I.Limit refl ▸ on m ▸ plainly I.Lsusp refl }
plain_form_adds (Some Activating) h a m b = then_put I.Coact refl (then_adds a b)
plain_form_adds (Some Spreading) h a m b = then_put I.Appl refl (then_adds a b)
plain_form_adds (Some (Operating op)) h a m b = then_put (I.Op op) refl (then_adds a b)

update_adds : {ks bs : List TableMention} {ms ns : List (List ℕ)} (i : UnitInstr) → IsPlain i → {a b : Draft → Draft} → AddsAlways ks ms a
    → AddsAlways bs ns b → AddsAlways (ks ++ bs) (ms ++ ns) (update i a b)
update_adds i h a b = record {
  adds = λ d. from d ▸ on a ▸ plainly I.Dup refl ▸ on b ▸ plainly i h ▸ plainly (I.Op O.Assign) refl;
}

augmented_form_adds : {ks bs : List TableMention} {ms ns : List (List ℕ)} (form : Option UpdateForm) → IsThere form → {a b : Draft → Draft}
    → AddsAlways ks ms a → AddsAlways bs ns b → AddsAlways (ks ++ bs) (ms ++ ns) (augmented_form form a b)
augmented_form_adds None h a b = absurd h
augmented_form_adds (Some UpdatesBoth) h a b = then_put (I.Op O.Assign) refl (then_adds a b)
augmented_form_adds (Some UpdatesScanning) h a b = record {
  adds = λ d. from d ▸ on a ▸ plainly I.Dup refl ▸ plainly I.Bscan refl ▸ on b ▸ plainly I.Escan refl
      ▸ plainly (I.Op O.Assign) refl;
}
augmented_form_adds (Some UpdatesActivating) h a b = update_adds I.Coact refl a b
augmented_form_adds (Some (UpdatesOperating op)) h a b = update_adds (I.Op op) refl a b

binary_adds : (o : OpenMarks) (place : Place) (infix_ : Infix) (a b : Tree) → IsInfix infix_
    → AddsAlways (mentions a) (names_in a) (translate o a) → AddsAlways (mentions a) (names_in a) (translate (Marked o) a)
    → AddsAlways (mentions b) (names_in b) (translate o b)
    → AddsAlways (mentions (Binary place infix_ a b)) (names_in (Binary place infix_ a b)) (translate o (Binary place infix_ a b))
binary_adds o place (Plain operator) a b f x m y = always_as (plain_mentions place operator a b) (plain_names place operator a b)
    (plain_form_adds (infix_form operator) (between_there operator f) x m y)
binary_adds o place (Augmented operator) a b f x m y = augmented_form_adds (update_form operator) (augmented_there operator f) x y

-- Loops and cases

looped_adds : {ks : List TableMention} {ms : List (List ℕ)} {s : Draft → Draft} → AddsAlways ks ms s → AddsAlways ks ms (looped_body s)
looped_adds r = record { adds = λ d. from d ▸ next_label_put I.Mark (λ l. refl) ▸ on r ▸ plainly I.Unmark refl }

ended : {d e : Draft} {ms : List TableMention} {ns : List (List ℕ)} (i : UnitInstr) → IsPlain i → Adds d e ms ns
    → Adds d (loop_end i e) ms ns
ended i h c = next_label_put I.Lab (λ l. refl) c ▸ plainly i h ▸ last_label_put I.Lab (λ l. refl) ▸ outer

kinds_add : {ks bs : List TableMention} {ms ns : List (List ℕ)} (kind : LoopKind) {c s : Draft → Draft} → AddsAlways ks ms c → AddsAlways bs ns s
    → AddsAlways (ks ++ bs) (ms ++ ns) (λ d. d ▹ control_part kind c ▹ s ▹ loop_end (back kind (next_label d)))
kinds_add While r q = record {
  adds = λ d. from d ▸ label ▸ plainly (I.Lab _) refl ▸ inner no_ways ▸ plainly I.Mark0 refl ▸ on r
      ▸ plainly I.Unmark refl ▸ on q ▸ ended (I.Loop _) refl;
}
kinds_add Until r q = record {
  adds = λ d. from d ▸ label ▸ plainly (I.Lab _) refl ▸ inner no_ways ▸ labelled I.Mark (λ l. refl) ▸ on r
      ▸ plainly I.Unmark refl ▸ plainly I.Efail refl ▸ plainly (I.Lab _) refl ▸ on q ▸ ended (I.Loop _) refl;
}
kinds_add Every r q = record {
  adds = λ d. from d ▸ inner no_ways ▸ plainly I.Mark0 refl ▸ on r
      ▸ plainly I.Pop refl ▸ on q ▸ ended I.Efail refl;
}

loop_adds : {ks : List TableMention} {ms : List (List ℕ)} {s : Draft → Draft} → AddsAlways ks ms s
    → AddsAlways ks ms (λ d. d ▹ with_label ▹ put (I.Lab (next_label d)) ▹ in_loop no_ways ▹ s ▹ loop_end (I.Loop (next_label d)))
loop_adds r = record {
  adds = λ d. from d ▸ label ▸ plainly (I.Lab _) refl ▸ inner no_ways ▸ on r ▸ ended (I.Loop _) refl;
}

aside_adds : {ks : List TableMention} {ms : List (List ℕ)} {s : Draft → Draft} → AddsAlways ks ms s → AddsAlways ks ms (aside s)
aside_adds r = record { adds = λ d. from d ▸ outer ▸ on r ▸ inner _ }

case_adds : {ks bs : List TableMention} {ms ns : List (List ℕ)} {g s : Draft → Draft} → AddsAlways ks ms g → AddsAlways bs ns s
    → AddsAlways (ks ++ bs) (ms ++ ns) (case_of g s)
case_adds r q = record {
  adds = λ d. from d ▸ case_inner None ▸ on r ▸ plainly I.Pop refl ▸ on q ▸ end_label_put I.Lab (λ l. refl) ▸ case_outer;
}

next_adds : (o : OpenMarks) → AddsAlways [] [] (λ d. d ▹ unmarks_for_next o ▹ put_next I.Goto)
next_adds o = let r = unmarks_for_next_add o in record { adds = λ d. from d ▸ on r ▸ next_label_put I.Goto (λ l. refl) }

break_adds : {ks : List TableMention} {ms : List (List ℕ)} {s : Draft → Draft} (o : OpenMarks) → AddsAlways ks ms s
    → AddsAlways ks ms (λ d. d ▹ unmarks_for_break o ▹ aside s ▹ put_last I.Goto)
break_adds o r = let p = unmarks_for_break_add o in let q = aside_adds r in
    record { adds = λ d. from d ▸ on p ▸ on q ▸ last_label_put I.Goto (λ l. refl) }

-- the loops that are open in the parts of a loop
loops_in_control : (kind : LoopKind) (o : OpenMarks) → loops_in (in_control kind o) ≡ suc (loops_in o)
loops_in_control While o = refl
loops_in_control Until o = refl
loops_in_control Every o = refl

loops_in_body : (kind : LoopKind) (o : OpenMarks) → loops_in (in_body kind o) ≡ suc (loops_in o)
loops_in_body While o = refl
loops_in_body Until o = refl
loops_in_body Every o = refl

some_formed : (es : Trees) → FormedSome es → FormedAll es
some_formed NoTrees h = absurd h
some_formed (More e es) h = h

-- Forms

-- what a step adds of a tree
abbrev AddsTree : Tree → (Draft → Draft) → Type 0
AddsTree e step = AddsAlways (mentions e) (names_in e) step

abbrev AddsTrees : Trees → (Draft → Draft) → Type 0
AddsTrees es step = AddsAlways (all_mentions es) (names_in_all es) step

abbrev AddsMaybe : MaybeTree → (Draft → Draft) → Type 0
AddsMaybe e step = AddsAlways (maybe_mentions e) (names_in_maybe e) step

mutual
  pub tree_adds : (o : OpenMarks) (c : Context) (e : Tree) → Formed e → faults c e ≡ [] → length c.loops ≡ loops_in o → AddsTree e (translate o e)
  tree_adds o c Empty f x w = plain_adds I.Pnull refl
  tree_adds o c (Constant place value) f x w = always_as (literal_taken value) refl (put_adds (literal_instr value) (literal_unused value))
  tree_adds o c (Identifier name) f x w = variable_adds name.text
  tree_adds o c (Keyword place name) f x w = keyword_adds (keyword_of name.text)
  tree_adds o c (Parentheses place es) f x w = conjunction_adds o c es (some_formed es f) x w
  tree_adds o c (Listing place es) f x w = then_put (I.Llist (elements es)) refl (arguments_add o c es (some_formed es f) x w)
  tree_adds o c (Compound place es) f x w = compound_adds o c es (some_formed es f) x w
  tree_adds o c (Call place e es) f x w = then_put (I.Invoke (elements es)) refl
      (then_adds (tree_adds o c e f.0 (none_before _ _ x) w) (arguments_add o c es (some_formed es f.1) (none_behind _ _ x) w))
  tree_adds o c (CoCall place e es) f x w = then_put (I.Invoke 1) refl (then_put (I.Llist (elements es)) refl
      (then_adds (tree_adds o c e f.0 (none_before _ _ x) w) (creations_add es (some_formed es f.1) (none_behind _ _ x))))
  tree_adds o c (Subscript place e es) f x w =
      then_adds (tree_adds o c e f.0 (none_before _ _ x) w) (subscripts_add o c es (some_formed es f.1) (none_behind _ _ x) w)
  tree_adds o c (Section place kind e i j) f x w = always_as (append_assoc (mentions e) (mentions i) (mentions j)) refl
      (then_put (I.Op (section_op kind)) refl
      (then_adds (then_adds (tree_adds o c e f.0 (none_before _ _ x) w) (tree_adds o c i f.1 (none_before _ _ (none_behind _ _ x)) w))
      (tree_adds o c j f.2 (none_behind _ _ (none_behind _ _ x)) w)))
  tree_adds o c (Field place e name) f x w = always_as refl (append-nil (names_in e))
      (then_adds (tree_adds o c e f x w) (put_adds (I.Field name.text) refl))
  tree_adds o c (Prefix place operator e) f x w =
      prefix_adds (prefix_form operator) (before_there operator f.0) (tree_adds o c e f.1 x w) (tree_adds (Marked o) c e f.1 x w)
  tree_adds o c (Not place e) f x w = let r = tree_adds (Marked o) c e f x w in record {
    adds = λ d. from d ▸ labelled I.Mark (λ l. refl) ▸ on r ▸ plainly I.Unmark refl ▸ plainly I.Efail refl
        ▸ plainly (I.Lab _) refl ▸ plainly I.Pnull refl;
  }
  tree_adds o c (Binary place infix_ a b) f x w = binary_adds o place infix_ a b f.0 (tree_adds o c a f.1 (none_before _ _ x) w)
      (tree_adds (Marked o) c a f.1 (none_before _ _ x) w) (tree_adds o c b f.2 (none_behind _ _ x) w)
  tree_adds o c (To place a b by) f x w = always_as (append_assoc (mentions a) (mentions b) (step_mentions by)) refl
      (then_put (I.Op O.ToBy) refl
      (then_adds (then_adds (tree_adds o c a f.0 (none_before _ _ x) w) (tree_adds o c b f.1 (none_before _ _ (none_behind _ _ x)) w))
      (to_step_adds o c by f.2 (none_behind _ _ (none_behind _ _ x)) w)))
  tree_adds o c (If place e a b) f x w = branches_add o c b f.2 (none_behind _ _ (none_behind _ _ x)) w
      (tree_adds (Marked o) c e f.0 (none_before _ _ x) w) (tree_adds o c a f.1 (none_before _ _ (none_behind _ _ x)) w)
  tree_adds o c (Case place e clauses) f x w = let r = tree_adds (Marked o) c e f.0 (none_before _ _ x) w in
      let q = case_adds (guarded_adds o c false clauses f.1 (none_behind _ _ x) w) (default_part_adds o c false clauses f.1 (none_behind _ _ x) w) in
      always_as refl (sym (append_assoc (names_in e) (names_in_guarded clauses) (names_in_default clauses)))
      (record { adds = λ d. from d ▸ plainly I.Mark0 refl ▸ on r ▸ plainly I.Eret refl ▸ on q })
  tree_adds o c (Loop place kind e b) f x w = kinds_add kind
      (tree_adds (in_control kind o) (enter_loop (next_in_control kind) c) e f.0 (none_before _ _ x) (ap suc w ∙ sym (loops_in_control kind o)))
      (looped_part_adds (Marked (in_body kind o)) (enter_loop true c) b f.1 (none_behind _ _ x) (ap suc w ∙ sym (loops_in_body kind o)))
  tree_adds o c (Repeat place b) f x w = loop_adds (looped_adds (tree_adds (Marked (Looped o)) (enter_loop true c) b f x (ap suc w)))
  tree_adds o c (Create place e) f x w = created_adds (tree_adds Outermost create_context e f x refl)
  tree_adds o c (Next place) f x w = if_adds (is_nextless o) (λ h. (refl, refl)) (next_adds o)
  tree_adds o c (Fail place) f x w = plain_adds I.Pfail refl
  tree_adds o c (Break place e) f x w =
      let n = length (others c.loops) in
      let open_here : loops_in o ≡ suc n = sym w ∙ break_inside c.in_create c.loops place (none_before _ _ x) in
      if_adds (is_loopless o) (λ h. absurd (false≢true (sym (loop_is_open o n open_here) ∙ h)))
      (break_adds o (tree_adds (around o) (leave_loop c) e f (none_behind _ _ x) (sym (loops_around o n open_here))))
  tree_adds o c (Return place e) f x w = let r = tree_adds (Marked o) c e f (none_behind _ _ x) w in record {
    adds = λ d. from d ▸ labelled I.Mark (λ l. refl) ▸ on r ▸ plainly I.Pret refl ▸ plainly (I.Lab _) refl
        ▸ plainly I.Pfail refl;
  }
  tree_adds o c (Suspend place e b) f x w =
      let r = tree_adds (Marked o) c e f.0 (none_before _ _ (none_behind _ _ x)) w in
      let q = suspended_part_adds (Marked (Marked o)) c b f.1 (none_behind _ _ (none_behind _ _ x)) w in
      record {
        adds = λ d. from d ▸ plainly I.Mark0 refl ▸ on r ▸ plainly I.Psusp refl ▸ plainly I.Pop refl ▸ on q
            ▸ plainly I.Efail refl;
      }

  operands_add : (o : OpenMarks) (c : Context) (es : Trees) → FormedAll es → all_faults c es ≡ [] → length c.loops ≡ loops_in o
      → AddsTrees es (operands o es)
  operands_add o c NoTrees f x w = nothing_adds
  operands_add o c (More e es) f x w = then_adds (tree_adds o c e f.0 (none_before _ _ x) w) (operands_add o c es f.1 (none_behind _ _ x) w)

  arguments_add : (o : OpenMarks) (c : Context) (es : Trees) → FormedAll es → all_faults c es ≡ [] → length c.loops ≡ loops_in o
      → AddsTrees es (arguments o es)
  arguments_add o c NoTrees f x w = nothing_adds
  arguments_add o c (More e es) f x w = if_adds (is_no_element (More e es)) (no_element e es)
      (then_adds (tree_adds o c e f.0 (none_before _ _ x) w) (operands_add o c es f.1 (none_behind _ _ x) w))

  conjunction_adds : (o : OpenMarks) (c : Context) (es : Trees) → FormedAll es → all_faults c es ≡ [] → length c.loops ≡ loops_in o
      → AddsTrees es (conjunction o es)
  conjunction_adds o c NoTrees f x w = nothing_adds
  conjunction_adds o c (More e es) f x w =
      then_adds (tree_adds o c e f.0 (none_before _ _ x) w) (conjuncts_add o c es f.1 (none_behind _ _ x) w)

  conjuncts_add : (o : OpenMarks) (c : Context) (es : Trees) → FormedAll es → all_faults c es ≡ [] → length c.loops ≡ loops_in o
      → AddsTrees es (conjuncts o es)
  conjuncts_add o c NoTrees f x w = nothing_adds
  conjuncts_add o c (More e es) f x w =
      then_adds (put_then I.Pop refl (tree_adds o c e f.0 (none_before _ _ x) w)) (conjuncts_add o c es f.1 (none_behind _ _ x) w)

  compound_adds : (o : OpenMarks) (c : Context) (es : Trees) → FormedAll es → all_faults c es ≡ [] → length c.loops ≡ loops_in o
      → AddsTrees es (compound o es)
  compound_adds o c NoTrees f x w = nothing_adds
  compound_adds o c (More e es) f x w = then_adds (either_adds (is_nothing es) (tree_adds o c e f.0 (none_before _ _ x) w)
      (unless_adds e (bounded_adds (tree_adds (Marked o) c e f.0 (none_before _ _ x) w)))) (compound_adds o c es f.1 (none_behind _ _ x) w)

  creations_add : (es : Trees) → FormedAll es → all_faults create_context es ≡ [] → AddsTrees es (creations es)
  creations_add NoTrees f x = nothing_adds
  creations_add (More e es) f x = if_adds (is_no_element (More e es)) (no_element e es)
      (then_adds (created_adds (tree_adds Outermost create_context e f.0 (none_before _ _ x) refl)) (other_creations_add es f.1 (none_behind _ _ x)))

  other_creations_add : (es : Trees) → FormedAll es → all_faults create_context es ≡ [] → AddsTrees es (other_creations es)
  other_creations_add NoTrees f x = nothing_adds
  other_creations_add (More e es) f x =
      then_adds (created_adds (tree_adds Outermost create_context e f.0 (none_before _ _ x) refl)) (other_creations_add es f.1 (none_behind _ _ x))

  subscripts_add : (o : OpenMarks) (c : Context) (es : Trees) → FormedAll es → all_faults c es ≡ [] → length c.loops ≡ loops_in o
      → AddsTrees es (subscripts o es)
  subscripts_add o c NoTrees f x w = nothing_adds
  subscripts_add o c (More e es) f x w =
      then_adds (then_put (I.Op O.Subscript) refl (tree_adds o c e f.0 (none_before _ _ x) w)) (subscripts_add o c es f.1 (none_behind _ _ x) w)

  to_step_adds : (o : OpenMarks) (c : Context) (by : MaybeTree) → FormedMaybe by → maybe_faults c by ≡ [] → length c.loops ≡ loops_in o
      → AddsAlways (step_mentions by) (names_in_maybe by) (to_step o by)
  to_step_adds o c Absent f x w = put_adds (I.Int _) refl
  to_step_adds o c (Present e) f x w = tree_adds o c e f x w

  branches_add : (o : OpenMarks) (c : Context) (b : MaybeTree) → FormedMaybe b → maybe_faults c b ≡ [] → length c.loops ≡ loops_in o
      → {ks bs : List TableMention} {ms ns : List (List ℕ)}
      → {condition first : Draft → Draft} → AddsAlways ks ms condition → AddsAlways bs ns first
      → AddsAlways (ks ++ (bs ++ maybe_mentions b)) (ms ++ ns ++ names_in_maybe b)
      (λ d. d ▹ if_mark b ▹ condition ▹ put I.Unmark ▹ first ▹ otherwise o b (next_label d))
  branches_add o c Absent f x w {ks = ks} {bs = bs} {ms = ms} {ns = ns} r q =
      always_as (ap (λ l. ks ++ l) (sym (append-nil bs))) (sym (append-nil (ms ++ ns)))
      (record { adds = λ d. from d ▸ plainly I.Mark0 refl ▸ on r ▸ plainly I.Unmark refl ▸ on q })
  branches_add o c (Present b) f x w {ks = ks} {bs = bs} r q = let p = tree_adds o c b f x w in
      always_as (append_assoc ks bs (mentions b)) refl
      (record {
        adds = λ d. from d ▸ labelled I.Mark (λ l. refl) ▸ on r ▸ plainly I.Unmark refl ▸ on q
            ▸ labelled I.Goto (λ l. refl) ▸ plainly (I.Lab _) refl ▸ on p ▸ plainly (I.Lab _) refl;
      })

  looped_part_adds : (o : OpenMarks) (c : Context) (b : MaybeTree) → FormedMaybe b → maybe_faults c b ≡ [] → length c.loops ≡ loops_in o
      → AddsMaybe b (looped_part o b)
  looped_part_adds o c Absent f x w = nothing_adds
  looped_part_adds o c (Present b) f x w = looped_adds (tree_adds o c b f x w)

  suspended_part_adds : (o : OpenMarks) (c : Context) (b : MaybeTree) → FormedMaybe b → maybe_faults c b ≡ [] → length c.loops ≡ loops_in o
      → AddsMaybe b (suspended_part o b)
  suspended_part_adds o c Absent f x w = record { adds = λ d. from d ▸ label ▸ plainly (I.Lab _) refl }
  suspended_part_adds o c (Present b) f x w = bounded_adds (tree_adds o c b f x w)

  guarded_adds : (o : OpenMarks) (c : Context) (has : Bool) (clauses : Clauses) → FormedClauses clauses → clauses_faults c has clauses ≡ []
      → length c.loops ≡ loops_in o
      → AddsAlways (guarded_mentions clauses) (names_in_guarded clauses) (guarded_part o clauses)
  guarded_adds o c has NoClauses f x w = nothing_adds
  guarded_adds o c has (MoreClauses (Default place e) clauses) f x w = guarded_adds o c true clauses f.1 (none_behind _ _ x) w
  guarded_adds o c has (MoreClauses (Guarded place s b) clauses) f x w =
      let r = tree_adds (Marked o) c s f.0.0 (none_before _ _ (none_before _ _ x)) w in
      let q = tree_adds o c b f.0.1 (none_behind _ _ (none_before _ _ x)) w in
      let p = guarded_adds o c has clauses f.1 (none_behind _ _ x) w in
      record {
        adds = λ d. from d ▸ labelled I.Mark (λ l. refl) ▸ plainly I.Ccase refl ▸ on r ▸ plainly (I.Op O.Equivalent) refl
            ▸ plainly I.Unmark refl ▸ plainly I.Pop refl ▸ on q ▸ end_label_put I.Goto (λ l. refl)
            ▸ plainly (I.Lab _) refl ▸ on p;
      }

  default_part_adds : (o : OpenMarks) (c : Context) (has : Bool) (clauses : Clauses) → FormedClauses clauses → clauses_faults c has clauses ≡ []
      → length c.loops ≡ loops_in o
      → AddsAlways (default_mentions clauses) (names_in_default clauses) (default_part o clauses)
  default_part_adds o c has NoClauses f x w = plain_adds I.Efail refl
  default_part_adds o c has (MoreClauses (Default place e) rest) f x w = tree_adds o c e f.0 (none_behind _ _ (none_before _ _ x)) w
  default_part_adds o c has (MoreClauses (Guarded place s b) clauses) f x w = default_part_adds o c has clauses f.1 (none_behind _ _ x) w

-- Procedures

pub initially_adds : (initial : Initial) → FormedInitial initial → initial_faults initial ≡ []
    → AddsAlways (initial_mentions initial) (names_in_initial initial) (initially initial)
initially_adds NoInitial f x = nothing_adds
initially_adds (Initially place e) f x = let r = tree_adds Outermost outermost e f x refl in record {
  adds = λ d. from d ▸ labelled I.Init (λ l. refl) ▸ plainly (I.Mark _) refl ▸ on r ▸ plainly I.Unmark refl ▸ plainly (I.Lab _) refl;
}

pub body_adds : (es : Trees) → FormedAll es → all_faults outermost es ≡ [] → AddsTrees es (body es)
body_adds NoTrees f x = nothing_adds
body_adds (More e es) f x = then_adds (unless_adds e (bounded_adds (tree_adds Outermost outermost e f.0 (none_before _ _ x) refl)))
    (body_adds es f.1 (none_behind _ _ x))

-- the whole of a procedure's code
pub code_adds : (met : NameTest) (procedure : Procedure) → procedure_faults met procedure ≡ [] → FormedInitial procedure.initial
    → FormedAll procedure.body → (d : Draft)
    → Adds d (d ▹ initially procedure.initial ▹ body procedure.body ▹ put I.Pfail)
    (initial_mentions procedure.initial ++ all_mentions procedure.body)
    (names_in_initial procedure.initial ++ names_in_all procedure.body)
code_adds met procedure x f g d =
    let trees = trees_faultless met procedure x in
    (then_put I.Pfail refl (then_adds (initially_adds procedure.initial f trees.0) (body_adds procedure.body g trees.1))).adds d
