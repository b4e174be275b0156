-- What numbers hold: a new number, and one whose cell changes in place.
use Rattle.std.proofs.Common.{◌≡◌, ◌≢◌, ℕ, zero, suc, Bool, true, false, if◌then◌else◌, ◌<◌, List, [], ◌∷◌, ◌++◌, length, Option, Some, None, refl, sym, ap, ◌∙◌, subst, arith, length-append}
use Rattle.std.specs.Prelude.{slice_get, slice_set, slice_index_or, ◌==◌}
use Rattle.std.specs.Option.{option_map}
use Rattle.std.proofs.lemmas.Bool.{eqb-true, eqb-false}
use Rattle.std.proofs.lemmas.List.{length-set}
use Rattle.icn_run.specs.Rows.{Value, Null}
use Rattle.icn_run.specs.Calls.{Pair, Scan}
use Rattle.icn_run.specs.Stacks.{Cell, local as c_local, limit as c_limit, suspension as c_suspension}
use Rattle.icn_run.specs.Chains.{fixed, flagged, because, scanning, forget_label, label_of}
use Rattle.law_stacks.specs.Rendered.{CellName, activation_name, flag_name, limit_name, saved_name, Content, Flag, Changed, Count, Saved, Locals, values_of, Memory, content_of, flag_kept, activation_kept, limit_kept, saved_kept, NCell, n_base, n_call, n_local, n_mark, n_limit, n_suspension, n_operand, RenderedWorld, IsOwned, shown_label, count_of, saved_in, shown_cell, render, Ok, AllOk, Next}
use Rattle.law_stacks.proofs.CellLists.{some_injective, none_is_not_some, get_more, get_seam, get_set_same, get_set_other}

-- the number of a cell is one of these
abbrev pub Uses : (CellName → Type 0) → NCell → Type 0
Uses Q (n_base p a n) = Q (activation_name a)
Uses Q (n_call p a n level r q) = Q (activation_name a)
Uses Q (n_local a i) = Q (activation_name a)
Uses Q (n_mark (fixed l) r) = Unit {0}
Uses Q (n_mark (flagged l f q) r) = Q (flag_name f)
Uses Q (n_limit n r) = Q (limit_name n)
Uses Q (n_suspension (because why) r q) = Unit {0}
Uses Q (n_suspension (scanning n) r q) = Q (saved_name n)
Uses Q (n_operand item) = Unit {0}

-- from one world to another these numbers of stack s hold what they held
abbrev pub Moves : (CellName → Type 0) → ℕ → RenderedWorld → RenderedWorld → Type 0
Moves Q s w w' = (n : CellName) (h : ℕ) (k : Content) → Q n → IsOwned w n s h k → IsOwned w' n s h k

pub ok_moves : (Q : CellName → Type 0) (s h : ℕ) (w w' : RenderedWorld) → Moves Q s w w' → (c : NCell) → Uses Q c → Ok w s h c → Ok w' s h c
ok_moves Q s h w w' m (n_base p a n) u o = (o.0, m (activation_name a) h (Locals o.0) u o.1, o.2)
ok_moves Q s h w w' m (n_call p a n level r q) u o = (o.0, m (activation_name a) h (Locals o.0) u o.1, o.2)
ok_moves Q s h w w' m (n_local a i) u o = (o.0, o.1, m (activation_name a) o.1 (Locals o.0) u o.2, o.3, o.4)
ok_moves Q s h w w' m (n_mark (fixed l) r) u o = tt
ok_moves Q s h w w' m (n_mark (flagged l f q) r) u o = (o.0, m (flag_name f) h o.0 u o.1, o.2)
ok_moves Q s h w w' m (n_limit n r) u o = (o.0, m (limit_name n) h (Count o.0) u o.1)
ok_moves Q s h w w' m (n_suspension (because why) r q) u o = tt
ok_moves Q s h w w' m (n_suspension (scanning n) r q) u o = (o.0, m (saved_name n) h (Saved o.0) u o.1)
ok_moves Q s h w w' m (n_operand item) u o = tt

abbrev shown_local : Option Content → ℕ → Cell
shown_local k i = c_local (slice_index_or (values_of k) i Null)

pub shown_moves : (Q : CellName → Type 0) (s h : ℕ) (w w' : RenderedWorld) → Moves Q s w w' → (c : NCell) → Uses Q c → Ok w s h c
    → shown_cell w'.kept c ≡ shown_cell w.kept c
shown_moves Q s h w w' m (n_base p a n) u o = refl
shown_moves Q s h w w' m (n_call p a n level r q) u o = refl
shown_moves Q s h w w' m (n_local a i) u o = let n = m (activation_name a) o.1 (Locals o.0) u o.2 in ap (λ k. shown_local k i) (n.holds ∙ sym o.2.holds)
shown_moves Q s h w w' m (n_mark (fixed l) r) u o = refl
shown_moves Q s h w w' m (n_mark (flagged l f q) r) u o = let n = m (flag_name f) h o.0 u o.1 in ap (λ k. shown_label k l q r) (n.holds ∙ sym o.1.holds)
shown_moves Q s h w w' m (n_limit n r) u o = let x = m (limit_name n) h (Count o.0) u o.1 in ap (λ k. c_limit (count_of k) r) (x.holds ∙ sym o.1.holds)
shown_moves Q s h w w' m (n_suspension (because why) r q) u o = refl
shown_moves Q s h w w' m (n_suspension (scanning n) r q) u o =
    let x = m (saved_name n) h (Saved o.0) u o.1 in ap (λ k. c_suspension (Scan (saved_in k)) r q) (x.holds ∙ sym o.1.holds)
shown_moves Q s h w w' m (n_operand item) u o = refl

pub uses_all : (c : NCell) → Uses (λ n. Unit {0}) c
uses_all (n_base p a n) = tt
uses_all (n_call p a n level r q) = tt
uses_all (n_local a i) = tt
uses_all (n_mark (fixed l) r) = tt
uses_all (n_mark (flagged l f q) r) = tt
uses_all (n_limit n r) = tt
uses_all (n_suspension (because why) r q) = tt
uses_all (n_suspension (scanning n) r q) = tt
uses_all (n_operand item) = tt

abbrev pub UsesAll : (CellName → Type 0) → List NCell → Type 0
UsesAll Q [] = Unit {0}
UsesAll Q (c ∷ cs) = Uses Q c × UsesAll Q cs

pub use_all : (cs : List NCell) → UsesAll (λ n. Unit {0}) cs
use_all [] = tt
use_all (c ∷ cs) = (uses_all c, use_all cs)

-- cells whose numbers hold what they held are well formed still
pub all_moves : (Q : CellName → Type 0) (s : ℕ) (w w' : RenderedWorld) → Moves Q s w w' → (cs : List NCell) → UsesAll Q cs → AllOk w s cs → AllOk w' s cs
all_moves Q s w w' m [] u o = tt
all_moves Q s w w' m (c ∷ cs) u o = (ok_moves Q s (suc (length cs)) w w' m c u.0 o.0, all_moves Q s w w' m cs u.1 o.1)

-- cells whose numbers hold what they held show the same
pub render_moves : (Q : CellName → Type 0) (s : ℕ) (w w' : RenderedWorld) → Moves Q s w w' → (cs : List NCell) → UsesAll Q cs → AllOk w s cs
    → render w'.kept cs ≡ render w.kept cs
render_moves Q s w w' m [] u o = refl
render_moves Q s w w' m (c ∷ cs) u o =
    ap (λ x. x ∷ render w'.kept cs) (shown_moves Q s (suc (length cs)) w w' m c u.0 o.0)
    ∙ ap (λ l. shown_cell w.kept c ∷ l) (render_moves Q s w w' m cs u.1 o.1)

-- What changes

-- a world with one more name
pub record Made (w w' : RenderedWorld) (n : CellName) (s h : ℕ) (k : Content) : Type 0 where
  pub keeps : (m : CellName) (t b : ℕ) (v : Content) → IsOwned w m t b v → IsOwned w' m t b v
  pub new : IsOwned w' n s h k

-- a world where a name that held one thing holds another
pub record Change (w w' : RenderedWorld) (n : CellName) (old k : Content) : Type 0 where
  pub others : (m : CellName) (t b : ℕ) (v : Content) → m ≢ n → IsOwned w m t b v → IsOwned w' m t b v
  pub itself : (s h : ℕ) → IsOwned w n s h old → IsOwned w' n s h k

pub made_moves : {w w' : RenderedWorld} {n : CellName} {s h : ℕ} {k : Content} → Made w w' n s h k → (t : ℕ) → Moves (λ n. Unit {0}) t w w'
made_moves d t m b v u o = d.keeps m t b v o

-- a world in which a number was made follows
pub made_next : {w w' : RenderedWorld} {n : CellName} {s h : ℕ} {k : Content} → Made w w' n s h k → Next s w w'
made_next d t m b v u o = d.keeps m t b v o

pub change_moves : {w w' : RenderedWorld} {n : CellName} {old k : Content} → Change w w' n old k → (t : ℕ) → Moves (λ m. m ≢ n) t w w'
change_moves d t m b v u o = d.others m t b v u o

unlike : (n m : ℕ) → n ≢ m → (n == m) ≡ false
unlike n m d = by_test (n == m) refl
  where
    by_test : (b : Bool) → (n == m) ≡ b → (n == m) ≡ false
    by_test true e = absurd (d (eqb-true n m e))
    by_test false e = e

alike : (n : ℕ) → (n == n) ≡ true
alike n = by_test (n == n) refl
  where
    by_test : (b : Bool) → (n == n) ≡ b → (n == n) ≡ true
    by_test true e = e
    by_test false e = absurd (eqb-false n n e refl)

pub longer : {A B : Type 0} (xs : List A) (ys : List B) (x : A) (y : B) → length xs ≡ length ys → length (xs ++ x ∷ []) ≡ length (ys ++ y ∷ [])
longer xs ys x y e = omega (arith, length-append xs (x ∷ []), length-append ys (y ∷ []))

get_end : {A : Type 0} (xs : List A) → slice_get xs (length xs) ≡ None
get_end [] = refl
get_end (x ∷ xs) = get_end xs

map_more : {A B : Type 0} (f : A → B) (xs : List A) (y : A) (n : ℕ) (v : B) → option_map f (slice_get xs n) ≡ Some v
    → option_map f (slice_get (xs ++ y ∷ []) n) ≡ Some v
map_more f [] y n v e = none_is_not_some v e
map_more f (x ∷ xs) y zero v e = e
map_more f (x ∷ xs) y (suc n) v e = map_more f xs y n v e

abbrev pub stack_of : Option (ℕ × ℕ) → ℕ
stack_of (Some p) = p.0
stack_of None = 0

abbrev pub height_of : Option (ℕ × ℕ) → ℕ
height_of (Some p) = p.1
height_of None = 0

-- one number is shown in one stack at one height
pub one_stack : (w : RenderedWorld) (n : CellName) (s t h b : ℕ) (k v : Content) → IsOwned w n s h k → IsOwned w n t b v → s ≡ t
one_stack w n s t h b k v o p = ap stack_of (sym o.owner ∙ p.owner)

-- a number is owned at one height alone
pub one_height : (w : RenderedWorld) (n : CellName) (s t h b : ℕ) (k v : Content) → IsOwned w n s h k → IsOwned w n t b v → h ≡ b
one_height w n s t h b k v o p = ap height_of (sym o.owner ∙ p.owner)

pub one_kept : (w : RenderedWorld) (n : CellName) (s t h b : ℕ) (k v : Content) → IsOwned w n s h k → IsOwned w n t b v → k ≡ v
one_kept w n s t h b k v o p = some_injective (sym o.holds ∙ p.holds)

pub change_next : {w w' : RenderedWorld} {n : CellName} {old k : Content} (s h : ℕ) → IsOwned w n s h old → Change w w' n old k → Next s w w'
change_next {w} {n = n} {old} s h o d t m b v u p = d.others m t b v (λ e. u (sym (one_stack w n s t h b old v o (subst (λ m. IsOwned w m t b v) e p)))) p

-- what a name holds stands in its list

unmapped : {A B : Type 0} (f : A → B) (g : B → Option A) → ((x : A) → g (f x) ≡ Some x) → (o : Option A) (y : B) → option_map f o ≡ Some y → o ≡ g y
unmapped f g l None y e = none_is_not_some y e
unmapped f g l (Some x) y e = sym (l x) ∙ ap g (some_injective e)

abbrev the_values : Content → Option (List Value)
the_values (Locals values) = Some values
the_values k = None

abbrev the_count : Content → Option ℕ
the_count (Count n) = Some n
the_count k = None

abbrev the_pair : Content → Option Pair
the_pair (Saved pair) = Some pair
the_pair k = None

pub got_values : (F : Memory) (a : ℕ) (vs : List Value) → content_of F (activation_name a) ≡ Some (Locals vs) → slice_get F.activations a ≡ Some vs
got_values F a vs e = unmapped activation_kept the_values (λ x. refl) (slice_get F.activations a) (Locals vs) e

pub got_count : (F : Memory) (n count : ℕ) → content_of F (limit_name n) ≡ Some (Count count) → slice_get F.limits n ≡ Some count
got_count F n count e = unmapped limit_kept the_count (λ x. refl) (slice_get F.limits n) (Count count) e

pub got_pair : (F : Memory) (n : ℕ) (pair : Pair) → content_of F (saved_name n) ≡ Some (Saved pair) → slice_get F.saved n ≡ Some pair
got_pair F n pair e = unmapped saved_kept the_pair (λ x. refl) (slice_get F.saved n) (Saved pair) e

pub index_got : {A : Type 0} (xs : List A) (n : ℕ) (x d : A) → slice_get xs n ≡ Some x → slice_index_or xs n d ≡ x
index_got [] n x d e = none_is_not_some x e
index_got (y ∷ xs) zero x d e = some_injective e
index_got (y ∷ xs) (suc n) x d e = index_got xs n x d e

-- how a flag is held
pub data FlagAt (F : Memory) (n : ℕ) : Content → Type 0 where
  is_up : slice_get F.flags n ≡ Some true → FlagAt F n (Flag true)
  is_down : slice_get F.flags n ≡ Some false → label_of n F.relabels ≡ None → FlagAt F n (Flag false)
  is_labelled : (label : ℕ) → slice_get F.flags n ≡ Some false → label_of n F.relabels ≡ Some label → FlagAt F n (Changed label)

pub flag_at : (F : Memory) (n : ℕ) (k : Content) → content_of F (flag_name n) ≡ Some k → FlagAt F n k
flag_at F n k e = by_flag (slice_get F.flags n) refl (ap (λ o. option_map (flag_kept (label_of n F.relabels)) o) refl ∙ e)
  where
    by_label : (l : Option ℕ) → label_of n F.relabels ≡ l → slice_get F.flags n ≡ Some false → Some (flag_kept l false) ≡ Some k → FlagAt F n k
    by_label None g f e = subst (FlagAt F n) (some_injective e) (is_down f g)
    by_label (Some label) g f e = subst (FlagAt F n) (some_injective e) (is_labelled label f g)

    by_flag : (o : Option Bool) → slice_get F.flags n ≡ o → option_map (flag_kept (label_of n F.relabels)) o ≡ Some k → FlagAt F n k
    by_flag None f e = none_is_not_some k e
    by_flag (Some true) f e = subst (FlagAt F n) (some_injective e) (is_up f)
    by_flag (Some false) f e = by_label (label_of n F.relabels) refl f e

pub flag_there : (F : Memory) (n : ℕ) (k : Content) → FlagAt F n k → (b : Bool) × (slice_get F.flags n ≡ Some b)
flag_there F n k (is_up f) = (true, f)
flag_there F n k (is_down f g) = (false, f)
flag_there F n k (is_labelled label f g) = (false, f)

-- Other labels

label_self : (n : ℕ) (rs : List (ℕ × ℕ)) → label_of n (forget_label n rs) ≡ None
label_self n [] = refl
label_self n (entry ∷ rs) = by_test (label_self n rs) (entry.0 == n) refl
  where
    by_test : label_of n (forget_label n rs) ≡ None → (b : Bool) → (entry.0 == n) ≡ b
        → label_of n (if b then forget_label n rs else (entry ∷ forget_label n rs)) ≡ None
    by_test i true e = i
    by_test i false e = ap (λ b. if b then Some entry.1 else label_of n (forget_label n rs)) e ∙ i

label_other : (n m : ℕ) (rs : List (ℕ × ℕ)) → m ≢ n → label_of m (forget_label n rs) ≡ label_of m rs
label_other n m [] d = refl
label_other n m (entry ∷ rs) d = by_test (label_other n m rs d) (entry.0 == n) refl
  where
    by_test : label_of m (forget_label n rs) ≡ label_of m rs → (b : Bool) → (entry.0 == n) ≡ b
        → label_of m (if b then forget_label n rs else (entry ∷ forget_label n rs)) ≡ label_of m (entry ∷ rs)
    by_test i true e = i ∙ sym (ap (λ b. if b then Some entry.1 else label_of m rs) (unlike entry.0 m (λ j. d (sym j ∙ eqb-true entry.0 n e))))
    by_test i false e = ap (λ l. if entry.0 == m then Some entry.1 else l) i

-- New names

module _ (w : RenderedWorld) (s h : ℕ) where
  abbrev F : Memory
  F = w.kept

  abbrev pub made_locals : List Value → RenderedWorld
  made_locals vs = record w {
    kept = record F { activations = F.activations ++ vs ∷ [] };
    owners = record w.owners { activations = w.owners.activations ++ (s, h) ∷ [] };
    same_activations = longer w.owners.activations F.activations (s, h) vs w.same_activations;
  }

  abbrev pub made_limit : ℕ → RenderedWorld
  made_limit count = record w {
    kept = record F { limits = F.limits ++ count ∷ [] };
    owners = record w.owners { limits = w.owners.limits ++ (s, h) ∷ [] };
    same_limits = longer w.owners.limits F.limits (s, h) count w.same_limits;
  }

  abbrev pub made_saved : Pair → RenderedWorld
  made_saved pair = record w {
    kept = record F { saved = F.saved ++ pair ∷ [] };
    owners = record w.owners { saved = w.owners.saved ++ (s, h) ∷ [] };
    same_saved = longer w.owners.saved F.saved (s, h) pair w.same_saved;
  }

  abbrev pub made_flag : RenderedWorld
  made_flag = record w {
    kept = record F { flags = F.flags ++ false ∷ [] };
    owners = record w.owners { flags = w.owners.flags ++ (s, h) ∷ [] };
    same_flags = longer w.owners.flags F.flags (s, h) false w.same_flags;
    unlabelled = λ n up. w.unlabelled n (λ e. up (get_more F.flags false n false e));
  }

  new_owner : {A : Type 0} (owners : List (ℕ × ℕ)) (xs : List A) → length owners ≡ length xs → slice_get (owners ++ (s, h) ∷ []) (length xs) ≡ Some (s, h)
  new_owner owners xs e = ap (slice_get (owners ++ (s, h) ∷ [])) (sym e) ∙ get_seam owners (s, h) []

  pub locals_made : (vs : List Value) → Made w (made_locals vs) (activation_name (length F.activations)) s h (Locals vs)
  locals_made vs = record {
    keeps = keeps;
    new = record {
      owner = new_owner w.owners.activations F.activations w.same_activations;
      holds = ap (option_map activation_kept) (get_seam F.activations vs []);
    };
  }
    where
      keeps : (m : CellName) (t b : ℕ) (v : Content) → IsOwned w m t b v → IsOwned (made_locals vs) m t b v
      keeps (activation_name n) t b v o =
          record { owner = get_more w.owners.activations (s, h) n (t, b) o.owner; holds = map_more activation_kept F.activations vs n v o.holds }
      keeps (flag_name n) t b v o = record { owner = o.owner; holds = o.holds }
      keeps (limit_name n) t b v o = record { owner = o.owner; holds = o.holds }
      keeps (saved_name n) t b v o = record { owner = o.owner; holds = o.holds }

  pub limit_made : (count : ℕ) → Made w (made_limit count) (limit_name (length F.limits)) s h (Count count)
  limit_made count = record {
    keeps = keeps;
    new = record { owner = new_owner w.owners.limits F.limits w.same_limits; holds = ap (option_map limit_kept) (get_seam F.limits count []) };
  }
    where
      keeps : (m : CellName) (t b : ℕ) (v : Content) → IsOwned w m t b v → IsOwned (made_limit count) m t b v
      keeps (limit_name n) t b v o = record { owner = get_more w.owners.limits (s, h) n (t, b) o.owner; holds = map_more limit_kept F.limits count n v o.holds }
      keeps (flag_name n) t b v o = record { owner = o.owner; holds = o.holds }
      keeps (activation_name n) t b v o = record { owner = o.owner; holds = o.holds }
      keeps (saved_name n) t b v o = record { owner = o.owner; holds = o.holds }

  pub saved_made : (pair : Pair) → Made w (made_saved pair) (saved_name (length F.saved)) s h (Saved pair)
  saved_made pair = record {
    keeps = keeps;
    new = record { owner = new_owner w.owners.saved F.saved w.same_saved; holds = ap (option_map saved_kept) (get_seam F.saved pair []) };
  }
    where
      keeps : (m : CellName) (t b : ℕ) (v : Content) → IsOwned w m t b v → IsOwned (made_saved pair) m t b v
      keeps (saved_name n) t b v o = record { owner = get_more w.owners.saved (s, h) n (t, b) o.owner; holds = map_more saved_kept F.saved pair n v o.holds }
      keeps (flag_name n) t b v o = record { owner = o.owner; holds = o.holds }
      keeps (limit_name n) t b v o = record { owner = o.owner; holds = o.holds }
      keeps (activation_name n) t b v o = record { owner = o.owner; holds = o.holds }

  pub flag_made : Made w made_flag (flag_name (length F.flags)) s h (Flag false)
  flag_made = record {
    keeps = keeps;
    new = record {
      owner = new_owner w.owners.flags F.flags w.same_flags;
      holds = ap (option_map (flag_kept (label_of (length F.flags) F.relabels))) (get_seam F.flags false []) ∙ ap (λ l. Some (flag_kept l false)) none_new;
    };
  }
    where
      none_new : label_of (length F.flags) F.relabels ≡ None
      none_new = w.unlabelled (length F.flags) (λ e. none_is_not_some false (sym (get_end F.flags) ∙ e))

      keeps : (m : CellName) (t b : ℕ) (v : Content) → IsOwned w m t b v → IsOwned made_flag m t b v
      keeps (flag_name n) t b v o =
          record { owner = get_more w.owners.flags (s, h) n (t, b) o.owner; holds = map_more (flag_kept (label_of n F.relabels)) F.flags false n v o.holds }
      keeps (saved_name n) t b v o = record { owner = o.owner; holds = o.holds }
      keeps (limit_name n) t b v o = record { owner = o.owner; holds = o.holds }
      keeps (activation_name n) t b v o = record { owner = o.owner; holds = o.holds }

-- Names that hold another thing

abbrev pub put_locals : RenderedWorld → ℕ → List Value → RenderedWorld
put_locals w n vs = record w {
  kept = record w.kept { activations = slice_set w.kept.activations n vs };
  same_activations = w.same_activations ∙ sym (length-set w.kept.activations n vs);
}

abbrev pub put_count : RenderedWorld → ℕ → ℕ → RenderedWorld
put_count w n count =
    record w { kept = record w.kept { limits = slice_set w.kept.limits n count }; same_limits = w.same_limits ∙ sym (length-set w.kept.limits n count) }

abbrev pub put_saved : RenderedWorld → ℕ → Pair → RenderedWorld
put_saved w n pair =
    record w { kept = record w.kept { saved = slice_set w.kept.saved n pair }; same_saved = w.same_saved ∙ sym (length-set w.kept.saved n pair) }

pub locals_put : (w : RenderedWorld) (n : ℕ) (us vs : List Value) → Change w (put_locals w n vs) (activation_name n) (Locals us) (Locals vs)
locals_put w n us vs = record {
  others = others;
  itself = λ s h o.
      record { owner = o.owner; holds = ap (option_map activation_kept) (get_set_same w.kept.activations n us vs (got_values w.kept n us o.holds)) };
}
  where
    others : (m : CellName) (t b : ℕ) (v : Content) → m ≢ activation_name n → IsOwned w m t b v → IsOwned (put_locals w n vs) m t b v
    others (activation_name m) t b v d o =
        record { owner = o.owner; holds = ap (option_map activation_kept) (get_set_other w.kept.activations m n vs (λ e. d (ap activation_name e))) ∙ o.holds }
    others (flag_name m) t b v d o = record { owner = o.owner; holds = o.holds }
    others (limit_name m) t b v d o = record { owner = o.owner; holds = o.holds }
    others (saved_name m) t b v d o = record { owner = o.owner; holds = o.holds }

pub count_put : (w : RenderedWorld) (n old count : ℕ) → Change w (put_count w n count) (limit_name n) (Count old) (Count count)
count_put w n old count = record {
  others = others;
  itself = λ s h o. record { owner = o.owner; holds = ap (option_map limit_kept) (get_set_same w.kept.limits n old count (got_count w.kept n old o.holds)) };
}
  where
    others : (m : CellName) (t b : ℕ) (v : Content) → m ≢ limit_name n → IsOwned w m t b v → IsOwned (put_count w n count) m t b v
    others (limit_name m) t b v d o =
        record { owner = o.owner; holds = ap (option_map limit_kept) (get_set_other w.kept.limits m n count (λ e. d (ap limit_name e))) ∙ o.holds }
    others (flag_name m) t b v d o = record { owner = o.owner; holds = o.holds }
    others (activation_name m) t b v d o = record { owner = o.owner; holds = o.holds }
    others (saved_name m) t b v d o = record { owner = o.owner; holds = o.holds }

pub saved_put : (w : RenderedWorld) (n : ℕ) (old pair : Pair) → Change w (put_saved w n pair) (saved_name n) (Saved old) (Saved pair)
saved_put w n old pair = record {
  others = others;
  itself = λ s h o. record { owner = o.owner; holds = ap (option_map saved_kept) (get_set_same w.kept.saved n old pair (got_pair w.kept n old o.holds)) };
}
  where
    others : (m : CellName) (t b : ℕ) (v : Content) → m ≢ saved_name n → IsOwned w m t b v → IsOwned (put_saved w n pair) m t b v
    others (saved_name m) t b v d o =
        record { owner = o.owner; holds = ap (option_map saved_kept) (get_set_other w.kept.saved m n pair (λ e. d (ap saved_name e))) ∙ o.holds }
    others (flag_name m) t b v d o = record { owner = o.owner; holds = o.holds }
    others (activation_name m) t b v d o = record { owner = o.owner; holds = o.holds }
    others (limit_name m) t b v d o = record { owner = o.owner; holds = o.holds }

-- a flag changes, and the labels of others stay
module _ (w : RenderedWorld) (n : ℕ) (up : Bool) (labels : List (ℕ × ℕ)) (others_stay : (m : ℕ) → m ≢ n → label_of m labels ≡ label_of m w.kept.relabels)
    (own : (slice_get (slice_set w.kept.flags n up) n ≡ Some false → ⊥) → label_of n labels ≡ None) where
  pub none_labelled : (m : ℕ) → (slice_get (slice_set w.kept.flags n up) m ≡ Some false → ⊥) → label_of m labels ≡ None
  none_labelled m f = by_test (m == n) refl
    where
      by_test : (b : Bool) → (m == n) ≡ b → label_of m labels ≡ None
      by_test true e =
          let i = eqb-true m n e in subst (λ m. (slice_get (slice_set w.kept.flags n up) m ≡ Some false → ⊥) → label_of m labels ≡ None) (sym i) own f
      by_test false e = let d : m ≢ n = eqb-false m n e in others_stay m d ∙ w.unlabelled m (λ g. f (get_set_other w.kept.flags m n up d ∙ g))

  abbrev pub put_flag : RenderedWorld
  put_flag = record w {
    kept = record w.kept { flags = slice_set w.kept.flags n up; relabels = labels };
    same_flags = w.same_flags ∙ sym (length-set w.kept.flags n up);
    unlabelled = none_labelled;
  }

  pub flag_put : (old k : Content) (b : Bool) → slice_get w.kept.flags n ≡ Some b → flag_kept (label_of n labels) up ≡ k → Change w put_flag (flag_name n) old k
  flag_put old k b g e = record {
    others = others;
    itself = λ s h o. record { owner = o.owner; holds = ap (option_map (flag_kept (label_of n labels))) (get_set_same w.kept.flags n b up g) ∙ ap Some e };
  }
    where
      others : (m : CellName) (t b : ℕ) (v : Content) → m ≢ flag_name n → IsOwned w m t b v → IsOwned put_flag m t b v
      others (flag_name m) t b v d o = let d2 : m ≢ n = λ i. d (ap flag_name i) in
          record {
            owner = o.owner;
            holds = ap (option_map (flag_kept (label_of m labels))) (get_set_other w.kept.flags m n up d2)
                ∙ ap (λ l. option_map (flag_kept l) (slice_get w.kept.flags m)) (others_stay m d2) ∙ o.holds;
          }
      others (saved_name m) t b v d o = record { owner = o.owner; holds = o.holds }
      others (activation_name m) t b v d o = record { owner = o.owner; holds = o.holds }
      others (limit_name m) t b v d o = record { owner = o.owner; holds = o.holds }

-- the flag is raised
pub label_up : (w : RenderedWorld) (n m : ℕ) → m ≢ n → label_of m (forget_label n w.kept.relabels) ≡ label_of m w.kept.relabels
label_up w n m d = label_other n m w.kept.relabels d

pub own_up : (w : RenderedWorld) (n : ℕ) → label_of n (forget_label n w.kept.relabels) ≡ None
own_up w n = label_self n w.kept.relabels

-- it gets another label
pub label_set : (w : RenderedWorld) (n label m : ℕ) → m ≢ n → label_of m ((n, label) ∷ forget_label n w.kept.relabels) ≡ label_of m w.kept.relabels
label_set w n label m d =
    ap (λ b. if b then Some label else label_of m (forget_label n w.kept.relabels)) (unlike n m (λ e. d (sym e))) ∙ label_other n m w.kept.relabels d

pub own_set : (w : RenderedWorld) (n label : ℕ) → label_of n ((n, label) ∷ forget_label n w.kept.relabels) ≡ Some label
own_set w n label = ap (λ b. if b then Some label else label_of n (forget_label n w.kept.relabels)) (alike n)

abbrev pub IsLocals : Content → Type 0
IsLocals (Locals values) = Unit {0}
IsLocals k = ⊥

-- the cells at other heights have other numbers, where the cell that changes is not of locals
pub uses_other : (w : RenderedWorld) (n : CellName) (s h b : ℕ) (old : Content) → IsOwned w n s h old → (IsLocals old → ⊥) → (c : NCell) → b ≢ h → Ok w s b c
    → Uses (λ m. m ≢ n) c
uses_other w n s h b old o nl (n_base p a k) d x =
    λ e. nl (subst IsLocals (sym (one_kept w n s s h b old (Locals x.0) o (subst (λ m. IsOwned w m s b (Locals x.0)) e x.1))) tt)
uses_other w n s h b old o nl (n_call p a k level r q) d x =
    λ e. nl (subst IsLocals (sym (one_kept w n s s h b old (Locals x.0) o (subst (λ m. IsOwned w m s b (Locals x.0)) e x.1))) tt)
uses_other w n s h b old o nl (n_local a i) d x =
    λ e. nl (subst IsLocals (sym (one_kept w n s s h x.1 old (Locals x.0) o (subst (λ m. IsOwned w m s x.1 (Locals x.0)) e x.2))) tt)
uses_other w n s h b old o nl (n_mark (fixed l) r) d x = tt
uses_other w n s h b old o nl (n_mark (flagged l f q) r) d x = λ e. d (sym (one_height w n s s h b old x.0 o (subst (λ m. IsOwned w m s b x.0) e x.1)))
uses_other w n s h b old o nl (n_limit m r) d x = λ e. d (sym (one_height w n s s h b old (Count x.0) o (subst (λ m. IsOwned w m s b (Count x.0)) e x.1)))
uses_other w n s h b old o nl (n_suspension (because why) r q) d x = tt
uses_other w n s h b old o nl (n_suspension (scanning m) r q) d x =
    λ e. d (sym (one_height w n s s h b old (Saved x.0) o (subst (λ m. IsOwned w m s b (Saved x.0)) e x.1)))
uses_other w n s h b old o nl (n_operand item) d x = tt

-- all cells but one
pub ok_part : (w : RenderedWorld) (s : ℕ) (above : List NCell) (below : List NCell) → AllOk w s (above ++ below) → AllOk w s below
ok_part w s [] below o = o
ok_part w s (c ∷ above) below o = ok_part w s above below o.1

pub uses_below : (w : RenderedWorld) (n : CellName) (s h : ℕ) (old : Content) → IsOwned w n s h old → (IsLocals old → ⊥) → (cs : List NCell) → length cs < h
    → AllOk w s cs
    → UsesAll (λ m. m ≢ n) cs
uses_below w n s h old o nl [] lt x = tt
uses_below w n s h old o nl (c ∷ cs) lt x =
    (uses_other w n s h (suc (length cs)) old o nl c (λ e. omega arith) x.0, uses_below w n s h old o nl cs (omega arith) x.1)

-- a cell in the midst changes
module _ {w w' : RenderedWorld} {n : CellName} (s h : ℕ) {old k : Content} (d : Change w w' n old k) (o : IsOwned w n s h old) (nl : IsLocals old → ⊥) where
  pub put_shown : (c : NCell) (x : Cell) → shown_cell w'.kept c ≡ x → (above below : List NCell) → h ≡ suc (length below)
      → AllOk w s (above ++ c ∷ below) → render w'.kept (above ++ c ∷ below) ≡ render w.kept above ++ x ∷ render w.kept below
  put_shown c x e [] below g y =
      ap (λ z. z ∷ render w'.kept below) e
      ∙ ap (λ l. x ∷ l) (render_moves (λ m. m ≢ n) s w w' (change_moves d s) below (uses_below w n s h old o nl below (omega arith) y.1) y.1)
  put_shown c x e (z ∷ above) below g y =
      ap (λ z. z ∷ render w'.kept (above ++ c ∷ below)) (shown_moves (λ m. m ≢ n) s (suc (length (above ++ c ∷ below))) w w' (change_moves d s) z
      (uses_other w n s h (suc (length (above ++ c ∷ below))) old o nl z (λ e. omega (arith, length-append above (c ∷ below))) y.0) y.0)
      ∙ ap (λ l. shown_cell w.kept z ∷ l) (put_shown c x e above below g y.1)

  pub put_ok : (c : NCell) → Ok w' s h c → (above below : List NCell) → h ≡ suc (length below) → AllOk w s (above ++ c ∷ below)
      → AllOk w' s (above ++ c ∷ below)
  put_ok c y [] below g x =
      (subst (λ h. Ok w' s h c) g y, all_moves (λ m. m ≢ n) s w w' (change_moves d s) below (uses_below w n s h old o nl below (omega arith) x.1) x.1)
  put_ok c y (z ∷ above) below g x = (
    ok_moves (λ m. m ≢ n) s (suc (length (above ++ c ∷ below))) w w' (change_moves d s) z
        (uses_other w n s h (suc (length (above ++ c ∷ below))) old o nl z (λ e. omega (arith, length-append above (c ∷ below))) x.0) x.0,
    put_ok c y above below g x.1,
  )
