-- The names of a draft: those of before stand first, no two are the same, and each variable is one of them.
use Rattle.std.proofs.Common.{◌≡◌, ℕ, Bool, true, false, not, ◌&&◌, ◌||◌, List, [], ◌∷◌, ◌++◌, Option, None, Some, refl, sym, ap, ◌∙◌, subst, append_assoc, if◌then◌else◌}
use Rattle.std.specs.List.{list_any}
use Rattle.std.specs.Str.{bytes_eq}
use Rattle.std.proofs.lemmas.Slice.Eq.{bytes_eq-Decides}
use Rattle.icn_unit.specs.declared.unit.UnitInstr.{UnitInstr}
use Rattle.icn_unit.specs.declared.unit.UnitInstr.TheVariants as I
use Rattle.icn_unit.specs.UnitRules.{names_differ}
use Rattle.icn_translate.specs.declared.builder.LoopLabels.{LoopLabels}
use Rattle.icn_translate.specs.Drafts.{Draft, put, with_label, with_number, with_name, with_names, put_variable, no_ways, in_loop, outside_loop, innermost, with_next, put_next, with_last, put_last, case_end, in_case, outside_case, with_end, put_end}
use Rattle.icn_translate.specs.Translation.{loop_end}
use Rattle.icn_units.proofs.DraftChains.{Keeps}

-- Lists of names that differ

append_none : (names : List (List ℕ)) → names ++ [] ≡ names
append_none [] = refl
append_none (name ∷ names) = ap (λ rest. name ∷ rest) (append_none names)

any_last : {A : Type 0} (p : A → Bool) (xs : List A) (x : A) → list_any p (xs ++ x ∷ []) ≡ (list_any p xs || p x)
any_last p [] x = by (p x)
  where
    by : (b : Bool) → (b || false) ≡ b
    by true = refl
    by false = refl
any_last p (y ∷ xs) x = by (p y) (any_last p xs x)
  where
    by : (b : Bool) → list_any p (xs ++ x ∷ []) ≡ (list_any p xs || p x) → (b || list_any p (xs ++ x ∷ []))
        ≡ ((b || list_any p xs) || p x)
    by true h = refl
    by false h = h

other_way : (a b : List ℕ) → bytes_eq a b ≡ false → bytes_eq b a ≡ false
other_way a b h = by (bytes_eq b a) refl
  where
    by : (t : Bool) → bytes_eq b a ≡ t → t ≡ false
    by false e = refl
    by true e = absurd (let same = (bytes_eq-Decides b a).0 e in let back = (bytes_eq-Decides a b).1 (sym same) in
        cc)

pub both_of : (b t : Bool) → (b && t) ≡ true → (b ≡ true) × (t ≡ true)
both_of true t h = (refl, h)
both_of false t h = absurd (cc)

pub neither_of : (b t : Bool) → (b || t) ≡ false → (b ≡ false) × (t ≡ false)
neither_of true t h = absurd (cc)
neither_of false t h = (refl, h)

pub nor_of : (b t : Bool) → b ≡ false → t ≡ false → (b || t) ≡ false
nor_of true t h g = absurd (cc)
nor_of false t h g = g

pub is_not : (b t : Bool) → b ≡ false → t ≡ true → (not b && t) ≡ true
is_not true t h g = absurd (cc)
is_not false t h g = g

pub was_not : (b : Bool) → not b ≡ true → b ≡ false
was_not true h = absurd (cc)
was_not false h = refl

pub differ_last : (names : List (List ℕ)) (name : List ℕ) → names_differ names ≡ true
    → list_any (bytes_eq name) names ≡ false → names_differ (names ++ name ∷ []) ≡ true
differ_last [] name h g = refl
differ_last (other ∷ names) name h g =
    let parts = both_of (not (list_any (λ y. bytes_eq other y) names)) (names_differ names) h in
    let new = neither_of (bytes_eq name other) (list_any (bytes_eq name) names) g in
    is_not (list_any (λ y. bytes_eq other y) (names ++ name ∷ [])) (names_differ (names ++ name ∷ []))
    (any_last (λ y. bytes_eq other y) names name
    ∙ nor_of (list_any (λ y. bytes_eq other y) names) (bytes_eq other name)
    (was_not (list_any (λ y. bytes_eq other y) names) parts.0) (other_way name other new.0))
    (differ_last names name parts.1 new.1)

-- none of the names before one of several that differ is that one
any_none : {A : Type 0} (p : A → Bool) (xs : List A) (x : A) (ys : List A) → list_any p (xs ++ x ∷ ys) ≡ false → p x
    ≡ false
any_none p [] x ys h = (neither_of (p x) (list_any p ys) h).0
any_none p (y ∷ xs) x ys h = any_none p xs x ys (neither_of (p y) (list_any p (xs ++ x ∷ ys)) h).1

pub new_among : (names : List (List ℕ)) (name : List ℕ) (rest : List (List ℕ)) → names_differ (names ++ name ∷ rest)
    ≡ true → list_any (bytes_eq name) names ≡ false
new_among [] name rest h = refl
new_among (other ∷ names) name rest h =
    let parts = both_of (not (list_any (λ y. bytes_eq other y) (names ++ name ∷ rest)))
    (names_differ (names ++ name ∷ rest)) h in
    nor_of (bytes_eq name other) (list_any (bytes_eq name) names)
    (other_way other name (any_none (λ y. bytes_eq other y) names name rest
    (was_not (list_any (λ y. bytes_eq other y) (names ++ name ∷ rest)) parts.0)))
    (new_among names name rest parts.1)

-- names that differ, each once, are these
pub once_each : (done names : List (List ℕ)) → names_differ (done ++ names) ≡ true → with_names done names ≡ done
    ++ names
once_each done [] h = sym (append_none done)
once_each done (name ∷ names) h =
    let new : with_name done name ≡ done ++ name ∷ [] =
    ap (λ b. if b then done else done ++ name ∷ []) (new_among done name names h) in
    let same : (done ++ name ∷ []) ++ names ≡ done ++ name ∷ names = append_assoc done (name ∷ []) names in
    ap (λ d. with_names d names) new ∙ once_each (done ++ name ∷ []) names
    (subst (λ (l : List (List ℕ)). names_differ l ≡ true) (sym same) h) ∙ same

-- A chain of steps

-- the names of before are the first, those that differ still do, and each variable is that of a name
pub record Names (d e : Draft) (ns : List ℕ) : Type 0 where
  pub rest : List (List ℕ)
  pub first : e.names ≡ d.names ++ rest
  pub differ : names_differ d.names ≡ true → names_differ e.names ≡ true

same_names : (d e : Draft) (ns : List ℕ) → e.names ≡ d.names → Names d e ns
same_names d e ns h = record {
  rest = [];
  first = h
      ∙ sym (append_none d.names);
  differ = λ k. subst (λ (l : List (List ℕ)). names_differ l ≡ true) (sym h) k;
}

names_then : (d e f : Draft) (ns ms : List ℕ) → Names d e ns → Names e f ms → Names d f ns
names_then d e f ns ms p q = record {
  rest = p.rest ++ q.rest;
  first = q.first ∙ ap (λ l. l ++ q.rest) p.first ∙ append_assoc d.names p.rest q.rest;
  differ = λ k. q.differ (p.differ k);
}

put_names : (i : UnitInstr) (d : Draft) → (put i d).names ≡ d.names
unfolding put
put_names i d = refl

label_names : (d : Draft) → (with_label d).names ≡ d.names
unfolding with_label
label_names d = refl

numbered_names : (k : Option ℕ) (d : Draft) → (with_number k d).names ≡ d.names
numbered_names None d = label_names d
numbered_names (Some n) d = refl

in_names : (w : LoopLabels) (d : Draft) → (in_loop w d).names ≡ d.names
unfolding in_loop
in_names w d = refl

out_names : (d : Draft) → (outside_loop d).names ≡ d.names
unfolding outside_loop
out_names d = refl

in_case_names : (end : Option ℕ) (d : Draft) → (in_case end d).names ≡ d.names
unfolding in_case
in_case_names end d = refl

out_case_names : (d : Draft) → (outside_case d).names ≡ d.names
unfolding outside_case
out_case_names d = refl

next_names : (d : Draft) → (with_next d).names ≡ d.names
next_names d = in_names _ (with_number (innermost d).next (outside_loop d))
    ∙ numbered_names (innermost d).next (outside_loop d) ∙ out_names d

last_names : (d : Draft) → (with_last d).names ≡ d.names
last_names d = in_names _ (with_number (innermost d).last (outside_loop d))
    ∙ numbered_names (innermost d).last (outside_loop d) ∙ out_names d

end_names : (d : Draft) → (with_end d).names ≡ d.names
end_names d = in_case_names _ (with_number (case_end d) (outside_case d))
    ∙ numbered_names (case_end d) (outside_case d) ∙ out_case_names d

loop_names : (i : UnitInstr) (d : Draft) → (loop_end i d).names ≡ d.names
loop_names i d =
    let d2 = put_next I.Lab d in
    let d3 = put i d2 in
    out_names (put_last I.Lab d3) ∙ put_names _ (with_last d3) ∙ last_names d3 ∙ put_names i d2
    ∙ put_names _ (with_next d) ∙ next_names d

case_names : (d : Draft) → (outside_case (put_end I.Lab d)).names ≡ d.names
case_names d = out_case_names (put_end I.Lab d) ∙ put_names _ (with_end d) ∙ end_names d

with_name_differ : (names : List (List ℕ)) (name : List ℕ) (b : Bool) → list_any (bytes_eq name) names ≡ b
    → names_differ names ≡ true
    → names_differ (if b then names else names ++ name ∷ []) ≡ true
with_name_differ names name true e h = h
with_name_differ names name false e h = differ_last names name h e

with_name_rest : (names : List (List ℕ)) (name : List ℕ) (b : Bool) → (rest : List (List ℕ))
    × ((if b then names else names ++ name ∷ []) ≡ names ++ rest)
with_name_rest names name true = ([], sym (append_none names))
with_name_rest names name false = (name ∷ [], refl)

variable_names : (name : List ℕ) (d : Draft) → (put_variable name d).names ≡ with_name d.names name
unfolding put_variable
variable_names name d = refl

variable_step : (name : List ℕ) (d : Draft) → Names d (put_variable name d) []
variable_step name d =
    let b = list_any (bytes_eq name) d.names in
    let r = with_name_rest d.names name b in
    record {
      rest = r.0;
      first = variable_names name d ∙ r.1;
      differ = λ h. subst (λ (l : List (List ℕ)). names_differ l ≡ true) (sym (variable_names name d))
          (with_name_differ d.names name b refl h);
    }

-- a step that leaves the names
then_same : (d e f : Draft) (ns : List ℕ) → Names d e ns → f.names ≡ e.names → Names d f ns
then_same d e f ns p h = names_then d e f ns [] p (same_names e f [] h)

pub naming : Keeps
naming = record {
  asks = false;
  passes = λ bytes. true;
  Leads = Names;
  Inside = λ n d. Unit {0};
  InCase = λ d. Unit {0};
  May = λ d i. Unit {0};
  none = λ d. same_names d d [] refl;
  joined = λ d e f ns p q. names_then d e f ns [] p q;
  plain = λ d i p o. tt;
  fresh = λ d i p. tt;
  may_later = λ d e ns i p m. tt;
  may_behind = λ d i j m. tt;
  may_inside = λ d w i m. tt;
  numbered = λ d e ns p. let q = then_same d e (with_label e) ns p (label_names e) in
      record { rest = q.rest; first = q.first; differ = q.differ };
  instr = λ d e ns i m p. then_same d e (put i e) ns p (put_names i e);
  place = λ d e n ns p. let q = then_same d e (put (I.Lab n) e) (n ∷ ns) p (put_names (I.Lab n) e) in
      record { rest = q.rest; first = q.first; differ = q.differ };
  second_place = λ d e m n ns p. let q = then_same d e (put (I.Lab n) e) (m ∷ n ∷ ns) p (put_names (I.Lab n) e) in
      record { rest = q.rest; first = q.first; differ = q.differ };
  variable = λ d e ns name o p. names_then d e (put_variable name e) ns [] p (variable_step name e);
  inside_none = λ d. tt;
  inside_later = λ d e ns n p h. tt;
  inside_loop = λ d w n h. tt;
  inside_case = λ d end n h. tt;
  inside_outer = λ d n h. tt;
  next_mark = λ d e ns n h p. then_same d e (put_next I.Mark e) ns p (put_names _ (with_next e) ∙ next_names e);
  next_goto = λ d e ns n h p. then_same d e (put_next I.Goto e) ns p (put_names _ (with_next e) ∙ next_names e);
  last_goto = λ d e ns n h p. then_same d e (put_last I.Goto e) ns p (put_names _ (with_last e) ∙ last_names e);
  aside_loop = λ d e f ns n h p q. names_then d f (in_loop (innermost e) f) ns []
      (names_then d (outside_loop e) f ns [] (then_same d e (outside_loop e) ns p (out_names e)) q)
      (same_names f (in_loop (innermost e) f) [] (in_names (innermost e) f));
  loop = λ d e f ns i p q m. names_then d f (loop_end i f) ns []
      (names_then d (in_loop no_ways e) f ns []
      (then_same d e (in_loop no_ways e) ns p (in_names no_ways e)) q)
      (same_names f (loop_end i f) [] (loop_names i f));
  case_begins = λ d end. tt;
  case_later = λ d e ns p h. tt;
  end_goto = λ d e ns h p. then_same d e (put_end I.Goto e) ns p (put_names _ (with_end e) ∙ end_names e);
  case = λ d e f ns p q. names_then d f (outside_case (put_end I.Lab f)) ns []
      (names_then d (in_case None e) f ns [] (then_same d e (in_case None e) ns p (in_case_names None e)) q)
      (same_names f (outside_case (put_end I.Lab f)) [] (case_names f));
}

pub are_named : (d e : Draft) (ns : List ℕ) → naming.Leads d e ns → Names d e ns
unfolding naming
are_named d e ns p = p

pub naming_asks : naming.asks ≡ false
unfolding naming
naming_asks = refl
