-- The bases that were looked for.
use Rattle.std.proofs.Common.{◌≡◌, ◌≤◌, ℕ, suc, ◌+◌, ◌-◌, ◌⊎◌, inl, inr, Bool, true, false, not, ◌||◌, if◌then◌else◌, List, [], ◌∷◌, ◌++◌, Option, None, Some, refl, sym, ap, subst, ◌∙◌, arith, le_trans}
use Rattle.std.specs.Prelude.{Vec}
use Rattle.std.specs.List.{flat_map, list_any}
use Rattle.std.specs.Option.{option_map, option_or}
use Rattle.std.specs.Str.{bytes_eq}
use Rattle.std.proofs.lemmas.List.Folds.{list_any-append}
use Rattle.std.proofs.lemmas.Option.{none-some, same_Some}
use Rattle.std.proofs.lemmas.Slice.Eq.{bytes_eq-Decides}
use Rattle.indexmap.specs.IndexSet.{insert_key}
use Rattle.icn_host.specs.Counts.{Rose, one_more}
use Rattle.icn_unit.specs.PlainUnits.{PlainDecl, Global, Procedure, Link, Invocable, Record, UnitRead}
use Rattle.icn_link.specs.declared.fault.LinkFault.{LinkFault}
use Rattle.icn_link.specs.declared.fault.LinkFault.TheVariants.{K2}
use Rattle.icn_link.specs.FirstMentions.{with_text, with_texts}
use Rattle.icn_link.specs.LinkFaults.{base_of, missing_unit, missing_by, missing_fault, missing_from, missing_in, unit_names}
use Rattle.icont_units.specs.Loading.{IsMissed, Knows, texts_in}
use Rattle.icont_units.specs.Units.{link_in, links_of}

-- Tests

or_false : (x : Bool) → (x || false) ≡ x
or_false true = refl
or_false false = refl

or_true : (x : Bool) → (x || true) ≡ true
or_true true = refl
or_true false = refl

or_held : (x y : Bool) → (y ≡ true → x ≡ true) → x ≡ (x || y)
or_held true y h = refl
or_held false true h = h refl
or_held false false h = refl

or_or : (x y z : Bool) → ((x || y) || z) ≡ (x || (y || z))
or_or true y z = refl
or_or false y z = refl

or_cases : (x y : Bool) → (x || y) ≡ true → (x ≡ true) ⊎ (y ≡ true)
or_cases true y h = inl refl
or_cases false y h = inr h

or_left : (x y : Bool) → (x || y) ≡ false → x ≡ false
or_left true y h = h
or_left false y h = refl

or_right : (x y : Bool) → (x || y) ≡ false → y ≡ false
or_right true y h = absurd (true-false h) where
  true-false : true ≡ false → ⊥
  true-false e = cc
or_right false y h = h

pub not_true : (x : Bool) → true ≡ not x → x ≡ false
not_true true h = h
not_true false h = refl

pub not_false : (x : Bool) → false ≡ not x → x ≡ true
not_false true h = refl
not_false false h = h

-- Members of a table of texts

behind : (base other : List ℕ) (known : List (List ℕ))
    → list_any (bytes_eq other) (known ++ base ∷ []) ≡ (list_any (bytes_eq other) known || bytes_eq other base)
behind base other known = list_any-append (bytes_eq other) known (base ∷ [])
    ∙ ap (λ t. list_any (bytes_eq other) known || t) (or_false (bytes_eq other base))

one_among : (known : List (List ℕ)) (text name : List ℕ)
    → list_any (bytes_eq name) (with_text known text) ≡ (list_any (bytes_eq name) known || bytes_eq name text)
one_among known text name = by (list_any (bytes_eq text) known) refl
  where
    by : (test : Bool) → list_any (bytes_eq text) known ≡ test
        → list_any (bytes_eq name) (if test then known else known ++ text ∷ []) ≡
        (list_any (bytes_eq name) known || bytes_eq name text)
    by true e = or_held (list_any (bytes_eq name) known) (bytes_eq name text)
        (λ same. ap (λ t. list_any (bytes_eq t) known) ((bytes_eq-Decides name text).0 same) ∙ e)
    by false e = behind text name known

among : (known texts : List (List ℕ)) (name : List ℕ)
    → list_any (bytes_eq name) (with_texts known texts) ≡ (list_any (bytes_eq name) known || list_any (bytes_eq name) texts)
among known [] name = sym (or_false (list_any (bytes_eq name) known))
among known (text ∷ texts) name =
    among (with_text known text) texts name
    ∙ ap (λ t. t || list_any (bytes_eq name) texts) (one_among known text name)
    ∙ or_or (list_any (bytes_eq name) known) (bytes_eq name text) (list_any (bytes_eq name) texts)

-- what was entered is known
pub is_known : (k bases known : List (List ℕ)) (name : List ℕ) → known ≡ with_texts k bases
    → list_any (bytes_eq name) bases ≡ true → list_any (bytes_eq name) known ≡ true
is_known k bases known name is t =
    ap (list_any (bytes_eq name)) is ∙ (among k bases name
    ∙ (ap (λ x. list_any (bytes_eq name) k || x) t ∙ or_true (list_any (bytes_eq name) k)))

pub with_both : (known a b : List (List ℕ)) → with_texts (with_texts known a) b ≡ with_texts known (a ++ b)
with_both known [] b = refl
with_both known (text ∷ a) b = with_both (with_text known text) a b

pub with_new : (known : List (List ℕ)) (base : List ℕ) → list_any (bytes_eq base) known ≡ false
    → with_text known base ≡ known ++ base ∷ []
with_new known base e = ap (λ test. if test then known else known ++ base ∷ []) e

pub with_known : (known : List (List ℕ)) (base : List ℕ) → list_any (bytes_eq base) known ≡ true → with_text known base ≡ known
with_known known base e = ap (λ test. if test then known else known ++ base ∷ []) e

-- A set of owned texts, seen as a list

any_seen : {Y : Type 0} (text : List ℕ) (keys : List (Vec ℕ Y))
    → list_any (λ key. bytes_eq text key.items) keys ≡ list_any (bytes_eq text) (texts_in keys)
any_seen text [] = refl
any_seen text (key ∷ keys) = ap (λ found. bytes_eq text key.items || found) (any_seen text keys)

pub texts_behind : {Y : Type 0} (keys : List (Vec ℕ Y)) (key : Vec ℕ Y)
    → texts_in (keys ++ key ∷ []) ≡ texts_in keys ++ key.items ∷ []
texts_behind [] key = refl
texts_behind (other ∷ keys) key = ap (λ texts. other.items ∷ texts) (texts_behind keys key)

seen_by : {Y : Type 0} (test : Bool) (keys : List (Vec ℕ Y)) (key : Vec ℕ Y)
    → texts_in (if test then keys else keys ++ key ∷ []) ≡ (if test then texts_in keys else texts_in keys ++ key.items ∷ [])
seen_by true keys key = refl
seen_by false keys key = texts_behind keys key

-- a text that is inserted stands once
pub entered : {Y : Type 0} (keys new : List (Vec ℕ Y)) (key : Vec ℕ Y) (base : List ℕ) → key.items ≡ base
    → new ≡ insert_key (λ a b. bytes_eq a.items b.items) keys key → texts_in new ≡ with_text (texts_in keys) base
entered keys new key base is e =
    ap texts_in e ∙ (seen_by (list_any (λ other. bytes_eq key.items other.items) keys) keys key
    ∙ ap (λ test. if test then texts_in keys else texts_in keys ++ key.items ∷ []) (any_seen key.items keys))
    ∙ ap (with_text (texts_in keys)) is

pub is_new : {Y : Type 0} (keys : List (Vec ℕ Y)) (key : Vec ℕ Y) (base : List ℕ) (found : Bool) → key.items ≡ base
    → found ≡ not (list_any (λ other. bytes_eq key.items other.items) keys)
    → found ≡ not (list_any (bytes_eq base) (texts_in keys))
is_new keys key base found is e = e ∙ ap not (any_seen key.items keys ∙ ap (λ text. list_any (bytes_eq text) (texts_in keys)) is)

-- What is known

-- at first the bases that have a unit, and no others
pub knows_units : (IsLost : List ℕ → Type 0) (units : List UnitRead) (known : List (List ℕ))
    → known ≡ with_texts [] (unit_names units) → Knows IsLost units known
knows_units IsLost units known is = record {
  met = λ base t. inl (sym (same base) ∙ t);
  new = λ base t. sym (same base) ∙ t;
} where
  same : (base : List ℕ) → list_any (bytes_eq base) known ≡ list_any (bytes_eq base) (unit_names units)
  same base = ap (list_any (bytes_eq base)) is ∙ among [] (unit_names units) base

weaker : {A B C : Type 0} → (B → C) → A ⊎ B → A ⊎ C
weaker f (inl a) = inl a
weaker f (inr b) = inr (f b)

pub knows_weaker : (IsLost IsGone : List ℕ → Type 0) (units : List UnitRead) (known : List (List ℕ))
    → ((base : List ℕ) → IsLost base → IsGone base)
    → Knows IsLost units known → Knows IsGone units known
knows_weaker IsLost IsGone units known f k = record { met = λ base t. weaker (f base) (k.met base t); new = k.new }

-- a base that was not there
pub knows_lost : (IsLost : List ℕ → Type 0) (units : List UnitRead) (known : List (List ℕ)) (base : List ℕ) → IsLost base
    → Knows IsLost units known → Knows IsLost units (known ++ base ∷ [])
knows_lost IsLost units known base lost k = record {
  met = λ other t. met other (or_cases (list_any (bytes_eq other) known) (bytes_eq other base)
      (sym (behind base other known) ∙ t));
  new = λ other t. k.new other (or_left (list_any (bytes_eq other) known) (bytes_eq other base)
      (sym (behind base other known) ∙ t));
} where
  met : (other : List ℕ) → (list_any (bytes_eq other) known ≡ true) ⊎ (bytes_eq other base ≡ true)
      → (list_any (bytes_eq other) (unit_names units) ≡ true) ⊎ IsLost other
  met other (inl t) = k.met other t
  met other (inr t) = inr (subst IsLost (sym ((bytes_eq-Decides other base).0 t)) lost)

names_behind : (units : List UnitRead) (unit : UnitRead) → unit_names (units ++ unit ∷ []) ≡ unit_names units ++ unit.name ∷ []
names_behind [] unit = refl
names_behind (first ∷ units) unit = ap (λ names. first.name ∷ names) (names_behind units unit)

-- a base whose unit was read
pub knows_unit : (IsLost : List ℕ → Type 0) (units more : List UnitRead) (known : List (List ℕ)) (base : List ℕ)
    (unit : UnitRead) → unit.name ≡ base
    → more ≡ units ++ unit ∷ [] → Knows IsLost units known → Knows IsLost more (known ++ base ∷ [])
knows_unit IsLost units more known base unit named is k = record {
  met = λ other t. met other (or_cases (list_any (bytes_eq other) known) (bytes_eq other base)
      (sym (behind base other known) ∙ t));
  new = λ other t. new other (sym (behind base other known) ∙ t);
} where
  among_more : (other : List ℕ) → list_any (bytes_eq other)
      (unit_names more) ≡ (list_any (bytes_eq other) (unit_names units) || bytes_eq other base)
  among_more other =
      ap (λ us. list_any (bytes_eq other) (unit_names us)) is ∙ ap (list_any (bytes_eq other)) (names_behind units unit)
      ∙ behind unit.name other (unit_names units) ∙ ap
      (λ name. list_any (bytes_eq other) (unit_names units) || bytes_eq other name) named

  still : (other : List ℕ) → (list_any (bytes_eq other) (unit_names units) ≡ true) ⊎ IsLost other
      → (list_any (bytes_eq other) (unit_names more) ≡ true) ⊎ IsLost other
  still other (inl t) = inl (among_more other ∙ ap (λ x. x || bytes_eq other base) t)
  still other (inr lost) = inr lost

  met : (other : List ℕ) → (list_any (bytes_eq other) known ≡ true) ⊎ (bytes_eq other base ≡ true)
      → (list_any (bytes_eq other) (unit_names more) ≡ true) ⊎ IsLost other
  met other (inl t) = still other (k.met other t)
  met other (inr t) = inl (among_more other ∙ (ap (λ x. list_any (bytes_eq other) (unit_names units) || x) t
      ∙ or_true (list_any (bytes_eq other) (unit_names units))))

  new : (other : List ℕ) → (list_any (bytes_eq other) known || bytes_eq other base) ≡ false
      → list_any (bytes_eq other) (unit_names more) ≡ false
  new other t =
      among_more other
      ∙ (ap (λ x. x || bytes_eq other base) (k.new other (or_left (list_any (bytes_eq other) known) (bytes_eq other base) t))
      ∙ or_right (list_any (bytes_eq other) known) (bytes_eq other base) t)

-- Counts

grows_more : (m n : ℕ) → m ≤ n → one_more m ≤ one_more n
grows_more m n h = grind arith

pub rose_later : (start before now : ℕ) → before ≤ now → Rose start before → Rose start now
rose_later start before now h r = omega (arith, h, r)

pub rose_now : (start before now : ℕ) → start ≤ before → Rose before now → Rose start now
rose_now start before now h r = le_trans (grows_more start before h) r

pub missed_later : (start before now : ℕ) → before ≤ now → (base : List ℕ) → IsMissed start before base → IsMissed start now base
missed_later start before now h base (inl r) = inl (rose_later start before now h r)
missed_later start before now h base (inr t) = inr t

-- The first base that has no unit

pub record IsLinked (names : List (List ℕ)) (bases : List (List ℕ)) (name : List ℕ) : Type 0 where
  pub linked : list_any (bytes_eq name) bases ≡ true
  pub absent : list_any (bytes_eq name) names ≡ false

linked_by : (names : List (List ℕ)) (decl : PlainDecl) (name : List ℕ) → missing_by names decl ≡ Some name
    → IsLinked names (link_in decl) name
linked_by names (Link text) name e = by (list_any (bytes_eq (base_of text)) names) refl e where
  by : (test : Bool) → list_any (bytes_eq (base_of text)) names ≡ test
      → (if test then None else Some (base_of text)) ≡ Some name → IsLinked names (base_of text ∷ []) name
  by true t e = absurd (none-some name e)
  by false t e =
      let same : base_of text ≡ name = same_Some (base_of text) name e in
      record {
        linked = ap (λ x. x || false) ((bytes_eq-Decides name (base_of text)).1 (sym same));
        absent = subst (λ base. list_any (bytes_eq base) names ≡ false) same t;
      }
linked_by names (Invocable text) name e = absurd (none-some name e)
linked_by names (Global other) name e = absurd (none-some name e)
linked_by names (Procedure other) name e = absurd (none-some name e)
linked_by names (Record other fields) name e = absurd (none-some name e)

linked_first : (names a b : List (List ℕ)) (name : List ℕ) → IsLinked names a name → IsLinked names (a ++ b) name
linked_first names a b name l = record {
  linked = list_any-append (bytes_eq name) a b ∙ ap (λ x. x || list_any (bytes_eq name) b) l.linked;
  absent = l.absent;
}

linked_then : (names a b : List (List ℕ)) (name : List ℕ) → IsLinked names b name → IsLinked names (a ++ b) name
linked_then names a b name l = record {
  linked = list_any-append (bytes_eq name) a b ∙ (ap (λ x. list_any (bytes_eq name) a || x) l.linked
      ∙ or_true (list_any (bytes_eq name) a));
  absent = l.absent;
}

linked_or : (names : List (List ℕ)) (decl : PlainDecl) (decls : List PlainDecl) (name : List ℕ) (found : Option (List ℕ))
    → missing_by names decl ≡ found
    → (missing_in names decls ≡ Some name → IsLinked names (flat_map link_in decls) name)
    → option_or found (missing_in names decls) ≡ Some name → IsLinked names (link_in decl ++ flat_map link_in decls) name
linked_or names decl decls name None m rest f = linked_then names (link_in decl) (flat_map link_in decls) name (rest f)
linked_or names decl decls name (Some other) m rest f = linked_first names (link_in decl) (flat_map link_in decls)
    name (linked_by names decl name (m ∙ f))

linked_in : (names : List (List ℕ)) (decls : List PlainDecl) (name : List ℕ) → missing_in names decls ≡ Some name
    → IsLinked names (flat_map link_in decls) name
linked_in names [] name e = absurd (none-some name e)
linked_in names (decl ∷ decls) name e = linked_or names decl decls name (missing_by names decl) refl
    (linked_in names decls name) e

told_name : (place unit : ℕ) (a b : List ℕ) → ◌≡◌ {A = Option LinkFault} (Some (K2 place a)) (Some (K2 unit b)) → a ≡ b
told_name place unit a b e = ap (λ fault. elim fault [ Some f ↦ name_of f | None ↦ a ]) e where
  name_of : LinkFault → List ℕ
  name_of (K2 unit name) = name
  name_of _ = a

linked_unit : (names : List (List ℕ)) (place : ℕ) (first : UnitRead) (units : List UnitRead) (unit : ℕ)
    (name : List ℕ) (found : Option (List ℕ))
    → missing_in names first.decls ≡ found
    → (missing_from names (suc place) units ≡ Some (K2 unit name) → IsLinked names (flat_map links_of units) name)
    → option_or (option_map (missing_fault place) found) (missing_from names (suc place) units) ≡ Some (K2 unit name)
    → IsLinked names (links_of first ++ flat_map links_of units) name
linked_unit names place first units unit name None m rest f = linked_then names (links_of first)
    (flat_map links_of units) name (rest f)
linked_unit names place first units unit name (Some other) m rest f =
    linked_first names (links_of first) (flat_map links_of units) name
    (linked_in names first.decls name (m ∙ ap Some (told_name place unit other name f)))

linked_from : (names : List (List ℕ)) (place : ℕ) (units : List UnitRead) (unit : ℕ) (name : List ℕ)
    → missing_from names place units ≡ Some (K2 unit name)
    → IsLinked names (flat_map links_of units) name
linked_from names place [] unit name e = absurd (none-some (K2 unit name) e)
linked_from names place (first ∷ units) unit name e =
    linked_unit names place first units unit name (missing_in names first.decls) refl
    (linked_from names (suc place) units unit name) e

pub first_linked : (units : List UnitRead) (unit : ℕ) (name : List ℕ) → missing_unit units ≡ Some (K2 unit name)
    → IsLinked (unit_names units) (flat_map links_of units) name
first_linked units unit name e = linked_from (unit_names units) 0 units unit name e
