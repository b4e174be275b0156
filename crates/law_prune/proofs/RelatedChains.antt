-- Stacks of linked marks in both runs: their calls keep them related.
use Rattle.std.proofs.Common.{◌≡◌, ℕ, zero, suc, Bool, true, false, List, [], ◌∷◌, ◌++◌, length, Option, Some, None, refl, ap, ◌∙◌, subst, if◌then◌else◌}
use Rattle.std.specs.Prelude.{◌==◌, pred, slice_get, slice_index_or, slice_set}
use Rattle.std.specs.Option.{option_map}
use Rattle.icn_value.specs.Values.{Value, Item}
use Rattle.icn_defs.specs.Rows.{Residual}
use Rattle.icn_run.specs.Calls.{Pair, Why, Alt, Op as Operating, Scan, Escan, Proc, MarkDrop, NoMark, Goes, Repeats, Outside, Calls}
use Rattle.icn_run.specs.Chains as L
use Rattle.icn_run.specs.Chains.{Chain, chain, Suspensions, none, suspension, Outer, base, call, mark, limit, Label, fixed, flagged, Reason, because, scanning, Frame, at_base, in_call, LinkedStack, WaitingChain, frame_of, linked_calls, outer_of, scans_of}
use Rattle.law_prune.proofs.RelatedValues.{ValueTo}
use Rattle.law_prune.proofs.RelatedLists.{Both, OptionTo, both_append, both_cons, both_index, both_length, both_nil, both_set, each_to, neither}
use Rattle.law_prune.proofs.RelatedSettings.{Renaming, ItemTo, ResidualTo}

-- two things on each side, related one by one
pub record Paired {A B C D : Type 0} (P : A → C → Type 0) (Q : B → D → Type 0) (x : A × B) (y : C × D) : Type 0 where
  pub first : P x.0 y.0
  pub second : Q x.1 y.1

-- the same is left where the innermost mark is dropped
pub data DropTo {M : Type 0} (Now : M → M → Type 0) : MarkDrop M → MarkDrop M → Type 0 where
  no_mark_to : DropTo Now NoMark NoMark
  goes_to : {m n : M} → Now m n → DropTo Now (Goes m) (Goes n)
  repeats_to : {m n : M} → Now m n → DropTo Now (Repeats m) (Repeats n)
  outside_to : {m n : M} → Now m n → DropTo Now (Outside m) (Outside n)

module _ (R : Renaming) where
  pub data WhyTo : Why → Why → Type 0 where
    alt_to : WhyTo Alt Alt
    op_to : {r s : Residual} → ResidualTo R r s → WhyTo (Operating r) (Operating s)
    scan_to : (pair : Pair) → WhyTo (Scan pair) (Scan pair)
    escan_to : WhyTo Escan Escan
    proc_to : WhyTo Proc Proc

  -- Calls of stacks that keep these related: the one that runs, those that wait, and one before anything runs on it.
  pub record CallsTo {K M : Type 0} (C D : Calls K M) : Type 1 where
    pub Now : M → M → Type 0
    pub Away : K → K → Type 0
    pub Blank : M → M → Type 0
    pub blank : (m n : M) → Now m n → Blank m n
    pub blank_locals : (m n : M) → Blank m n → Both (ValueTo R.To) (C.locals m) (D.locals n)
    pub blank_set : (vs ws : List Value) (m n : M) → Both (ValueTo R.To) vs ws → Blank m n → Blank (C.set_locals vs m) (D.set_locals ws n)
    pub kept : (m n : M) → Now m n → Away (C.kept m) (D.kept n)
    pub taken_up : (k j : K) (m n : M) → Away k j → Now m n → Now (C.taken_up k m) (D.taken_up j n)
    pub begin : (p q : ℕ) (vs ws : List Value) (address : ℕ) (m n : M) → R.To p q → Both (ValueTo R.To) vs ws → Blank m n
        → Now (C.begin p vs address m) (D.begin q ws address n)
    pub proc : (m n : M) → Now m n → R.To (C.proc m) (D.proc n)
    pub level : (m n : M) → Now m n → C.level m ≡ D.level n
    pub is_base : (m n : M) → Now m n → C.is_base m ≡ D.is_base n
    pub locals : (m n : M) → Now m n → Both (ValueTo R.To) (C.locals m) (D.locals n)
    pub set_locals : (vs ws : List Value) (m n : M) → Both (ValueTo R.To) vs ws → Now m n → Now (C.set_locals vs m) (D.set_locals ws n)
    pub address : (m n : M) → Now m n → C.address m ≡ D.address n
    pub go : (address : ℕ) (m n : M) → Now m n → Now (C.go address m) (D.go address n)
    pub go_whole : (address : ℕ) (m : M) → C.proc (C.go address m) ≡ C.proc m
    pub go_left : (address : ℕ) (n : M) → D.proc (D.go address n) ≡ D.proc n
    pub push : (x y : Item) (m n : M) → ItemTo R x y → Now m n → Now (C.push x m) (D.push y n)
    pub pop : (m n : M) → Now m n → OptionTo (Paired (ItemTo R) Now) (C.pop m) (D.pop n)
    pub take : (count : ℕ) (m n : M) → Now m n → OptionTo (Paired (Both (ItemTo R)) Now) (C.take count m) (D.take count n)
    pub below : (m n : M) → Now m n → OptionTo (ItemTo R) (C.below m) (D.below n)
    pub mark : (label : Option ℕ) (m n : M) → Now m n → Now (C.mark label m) (D.mark label n)
    pub limit : (count : ℕ) (m n : M) → Now m n → Now (C.limit count m) (D.limit count n)
    pub relabel : (label : ℕ) (m n : M) → Now m n → OptionTo Now (C.relabel label m) (D.relabel label n)
    pub count_down : (m n : M) → Now m n → OptionTo (Paired (λ (a b : ℕ). a ≡ b) Now) (C.count_down m) (D.count_down n)
    pub unmark : (m n : M) → Now m n → OptionTo (Paired Now (λ (a b : Option Pair). a ≡ b)) (C.unmark m) (D.unmark n)
    pub drop_mark : (m n : M) → Now m n → DropTo Now (C.drop_mark m) (D.drop_mark n)
    pub suspend : (w u : Why) (m n : M) → WhyTo w u → Now m n → Now (C.suspend w m) (D.suspend u n)
    pub suspend_mark : (m n : M) → Now m n → OptionTo Now (C.suspend_mark m) (D.suspend_mark n)
    pub suspend_proc : (m n : M) → Now m n → OptionTo Now (C.suspend_proc m) (D.suspend_proc n)
    pub resume : (m n : M) → Now m n → OptionTo (Paired WhyTo Now) (C.resume m) (D.resume n)
    pub swap_newest : (pair : Pair) (m n : M) → Now m n → OptionTo (Paired (λ (a b : Pair). a ≡ b) Now) (C.swap_newest pair m) (D.swap_newest pair n)
    pub swap_oldest : (pair : Pair) (m n : M) → Now m n → OptionTo (Paired (λ (a b : Pair). a ≡ b) Now) (C.swap_oldest pair m) (D.swap_oldest pair n)
    pub enter : (p q : ℕ) (vs ws : List Value) (m n : M) → R.To p q → Both (ValueTo R.To) vs ws → Now m n → Now (C.enter p vs m) (D.enter q ws n)
    pub leave : (m n : M) → Now m n → OptionTo Now (C.leave m) (D.leave n)

  -- Chains

  pub data ReasonTo : Reason → Reason → Type 0 where
    because_to : {w u : Why} → WhyTo w u → ReasonTo (because w) (because u)
    scanning_to : (n : ℕ) → ReasonTo (scanning n) (scanning n)

  mutual
    pub data ChainTo : Chain → Chain → Type 0 where
      chain_to : {xs ys : List Item} {s t : Suspensions} {o p : Outer} (scans : List ℕ) → Both (ItemTo R) xs ys → SuspensionsTo s t → OuterTo o p
          → ChainTo (chain xs s scans o) (chain ys t scans p)

    pub data SuspensionsTo : Suspensions → Suspensions → Type 0 where
      none_to : SuspensionsTo none none
      suspension_to : {r s : Reason} {c d : Chain} (address : ℕ) → ReasonTo r s → ChainTo c d
          → SuspensionsTo (suspension r address c) (suspension s address d)

    pub data OuterTo : Outer → Outer → Type 0 where
      base_to : {p q : ℕ} (activation : ℕ) → R.To p q → OuterTo (base p activation) (base q activation)
      call_to : {p q : ℕ} {c d : Chain} (activation level address : ℕ) → R.To p q → ChainTo c d
          → OuterTo (call p activation level address c) (call q activation level address d)
      mark_to : {c d : Chain} (label : Label) → ChainTo c d → OuterTo (mark label c) (mark label d)
      limit_to : {c d : Chain} (count : ℕ) → ChainTo c d → OuterTo (limit count c) (limit count d)

  pub data FrameTo : Frame → Frame → Type 0 where
    at_base_to : {p q : ℕ} (activation : ℕ) → R.To p q → FrameTo (at_base p activation) (at_base q activation)
    in_call_to : {p q : ℕ} {c d : Chain} (activation level address : ℕ) → R.To p q → ChainTo c d
        → FrameTo (in_call p activation level address c) (in_call q activation level address d)

  outer_frame : (o p : Outer) → OuterTo o p → FrameTo (frame_of o) (frame_of p)
  outer_frame o p (base_to activation t) = at_base_to activation t
  outer_frame o p (call_to activation level address t c) = in_call_to activation level address t c
  outer_frame o p (mark_to label (chain_to {o = a} {p = b} scans i s t)) = outer_frame a b t
  outer_frame o p (limit_to count (chain_to {o = a} {p = b} scans i s t)) = outer_frame a b t

  outer_to : (c d : Chain) → ChainTo c d → OuterTo (outer_of c) (outer_of d)
  outer_to c d (chain_to scans i s o) = o

  scans_same : (c d : Chain) → ChainTo c d → scans_of c ≡ scans_of d
  scans_same c d (chain_to scans i s o) = refl

  -- what changes, on both sides
  pub record CellsTo (m n : LinkedStack) : Type 0 where
    pub address : m.address ≡ n.address
    pub activations : Both (Both (ValueTo R.To)) m.activations n.activations
    pub flags : m.flags ≡ n.flags
    pub relabels : m.relabels ≡ n.relabels
    pub limits : m.limits ≡ n.limits
    pub saved : m.saved ≡ n.saved

  -- a stack of linked marks, and what it is in the run of the pruned code
  pub record StackTo (m n : LinkedStack) : Type 0 where
    pub chain : ChainTo m.chain n.chain
    pub cells : CellsTo m n

  pub record WaitingTo (k j : WaitingChain) : Type 0 where
    pub chain : ChainTo k.chain j.chain
    pub address : k.address ≡ j.address

  pub record BlankTo (m n : LinkedStack) : Type 0 where
    pub activation : L.activation_of (L.frame m) ≡ L.activation_of (L.frame n)
    pub cells : CellsTo m n

  frame_to : (m n : LinkedStack) → StackTo m n → FrameTo (L.frame m) (L.frame n)
  frame_to m n h = outer_frame _ _ (outer_to m.chain n.chain h.chain)

  activation_same : (f g : Frame) → FrameTo f g → L.activation_of f ≡ L.activation_of g
  activation_same f g (at_base_to a t) = refl
  activation_same f g (in_call_to a l p t c) = refl

  level_same : (f g : Frame) → FrameTo f g → L.level_of f ≡ L.level_of g
  level_same f g (at_base_to a t) = refl
  level_same f g (in_call_to a l p t c) = refl

  base_same : (f g : Frame) → FrameTo f g → L.is_base_frame f ≡ L.is_base_frame g
  base_same f g (at_base_to a t) = refl
  base_same f g (in_call_to a l p t c) = refl

  proc_of_to : (f g : Frame) → FrameTo f g → R.To (L.proc_of f) (L.proc_of g)
  proc_of_to f g (at_base_to a t) = t
  proc_of_to f g (in_call_to a l p t c) = t

  -- the same with other chains
  chained : (c d : Chain) (m n : LinkedStack) → ChainTo c d → CellsTo m n → StackTo (L.with_chain c m) (L.with_chain d n)
  chained c d m n t h = record {
    chain = t;
    cells = record {
      address = h.address;
      activations = h.activations;
      flags = h.flags;
      relabels = h.relabels;
      limits = h.limits;
      saved = h.saved;
    };
  }

  blank_of : (m n : LinkedStack) → StackTo m n → BlankTo m n
  blank_of m n h = record { activation = activation_same _ _ (frame_to m n h); cells = h.cells }

  locals_to : (m n : LinkedStack) → BlankTo m n → Both (ValueTo R.To) (L.locals m) (L.locals n)
  locals_to m n h =
      subst (λ (k : ℕ). Both (ValueTo R.To) (L.locals m) (slice_index_or n.activations k [])) h.activation
      (both_index (Both (ValueTo R.To)) m.activations n.activations (L.activation_of (L.frame m)) [] [] h.cells.activations both_nil)

  activations_set : (vs ws : List Value) (m n : LinkedStack) → Both (ValueTo R.To) vs ws → BlankTo m n
      → Both (Both (ValueTo R.To)) (slice_set m.activations (L.activation_of (L.frame m)) vs) (slice_set n.activations (L.activation_of (L.frame n)) ws)
  activations_set vs ws m n g h =
      subst (λ (k : ℕ). Both (Both (ValueTo R.To)) (slice_set m.activations (L.activation_of (L.frame m)) vs) (slice_set n.activations k ws)) h.activation
      (both_set (Both (ValueTo R.To)) m.activations n.activations (L.activation_of (L.frame m)) vs ws h.cells.activations g)

  cells_set : (vs ws : List Value) (m n : LinkedStack) → Both (ValueTo R.To) vs ws → BlankTo m n → CellsTo (L.set_locals vs m) (L.set_locals ws n)
  cells_set vs ws m n g h = record {
    address = h.cells.address;
    activations = activations_set vs ws m n g h;
    flags = h.cells.flags;
    relabels = h.cells.relabels;
    limits = h.cells.limits;
    saved = h.cells.saved;
  }

  begun_to : (p q : ℕ) (vs ws : List Value) (address : ℕ) (m n : LinkedStack) → R.To p q → Both (ValueTo R.To) vs ws → BlankTo m n
      → StackTo (L.begin p vs address m) (L.begin q ws address n)
  begun_to p q vs ws address m n t g h = record {
    chain = subst (λ (k : ℕ). ChainTo (chain [] none [] (base p (length m.activations))) (chain [] none [] (base q k)))
        (both_length (Both (ValueTo R.To)) m.activations n.activations h.cells.activations) (chain_to [] both_nil none_to (base_to (length m.activations) t));
    cells = record {
      address = refl;
      activations = both_append (Both (ValueTo R.To)) _ _ _ _ h.cells.activations (both_cons g both_nil);
      flags = h.cells.flags;
      relabels = h.cells.relabels;
      limits = h.cells.limits;
      saved = h.cells.saved;
    };
  }

  push_to : (x y : Item) (c d : Chain) → ItemTo R x y → ChainTo c d → ChainTo (L.push_on x c) (L.push_on y d)
  push_to x y c d g (chain_to scans i s o) = chain_to scans (both_cons g i) s o

  pop_to : (m n : LinkedStack) (c d : Chain) → ChainTo c d → CellsTo m n → OptionTo (Paired (ItemTo R) StackTo) (L.pop_from m c) (L.pop_from n d)
  pop_to m n c d (chain_to scans both_nil s o) h = neither
  pop_to m n c d (chain_to scans (both_cons g i) s o) h = each_to (record { first = g; second = chained _ _ m n (chain_to scans i s o) h })

  top_to : (count : ℕ) (xs ys us zs : List Item) → Both (ItemTo R) xs ys → Both (ItemTo R) us zs
      → OptionTo (Paired (Both (ItemTo R)) (Both (ItemTo R))) (L.take_top count xs us) (L.take_top count ys zs)
  top_to zero xs ys us zs h g = each_to (record { first = g; second = h })
  top_to (suc count) xs ys us zs both_nil g = neither
  top_to (suc count) xs ys us zs (both_cons h t) g = top_to count _ _ _ _ t (both_cons h g)

  take_to : (count : ℕ) (m n : LinkedStack) (c d : Chain) → ChainTo c d → CellsTo m n
      → OptionTo (Paired (Both (ItemTo R)) StackTo) (L.take_from count m c) (L.take_from count n d)
  take_to count m n c d (chain_to {xs} {ys} {s = u} {t = z} {o = a} {p = b} scans i s o) h = by _ _ (top_to count xs ys [] [] i both_nil)
    where
      by : (x y : Option (List Item × List Item)) → OptionTo (Paired (Both (ItemTo R)) (Both (ItemTo R))) x y
          → OptionTo (Paired (Both (ItemTo R)) StackTo) (option_map (λ parts. (parts.0, L.with_chain (chain parts.1 u scans a) m)) x)
          (option_map (λ parts. (parts.0, L.with_chain (chain parts.1 z scans b) n)) y)
      by x y neither = neither
      by x y (each_to g) = each_to (record { first = g.first; second = chained _ _ m n (chain_to scans g.second s o) h })

  first_to : (c d : Chain) → ChainTo c d → OptionTo (ItemTo R) (L.first_of_chain c) (L.first_of_chain d)
  first_to c d (chain_to scans both_nil s o) = neither
  first_to c d (chain_to scans (both_cons g i) s o) = each_to g

  below_to : (o p : Outer) → OuterTo o p → OptionTo (ItemTo R) (L.below_outer o) (L.below_outer p)
  below_to o p (base_to a t) = neither
  below_to o p (call_to a l q t c) = first_to _ _ c
  below_to o p (mark_to label c) = first_to _ _ c
  below_to o p (limit_to count c) = first_to _ _ c

  -- Marks

  inner_to : (c d : Chain) (o p : Outer) → ChainTo c d → OuterTo o p → ChainTo (chain [] none (scans_of c) o) (chain [] none (scans_of d) p)
  inner_to c d o p (chain_to scans i s t) g = chain_to scans both_nil none_to g

  mark_pushed : (label : Label) (m n : LinkedStack) → StackTo m n → StackTo (L.push_mark label m) (L.push_mark label n)
  mark_pushed label m n h = chained _ _ m n (inner_to m.chain n.chain _ _ h.chain (mark_to label h.chain)) h.cells

  flags_to : (m n : LinkedStack) (fs : List Bool) → StackTo m n → StackTo (record m { flags = fs }) (record n { flags = fs })
  flags_to m n fs h = record {
    chain = h.chain;
    cells = record {
      address = h.cells.address;
      activations = h.cells.activations;
      flags = refl;
      relabels = h.cells.relabels;
      limits = h.cells.limits;
      saved = h.cells.saved;
    };
  }

  flagged_to : (label : Option ℕ) (m n : LinkedStack) (fs gs : List Bool) (a b : ℕ) → fs ≡ gs → a ≡ b → StackTo m n
      → StackTo (record (L.push_mark (flagged label (length fs) a) m) { flags = fs ++ false ∷ [] })
      (record (L.push_mark (flagged label (length gs) b) n) { flags = gs ++ false ∷ [] })
  flagged_to label m n fs gs a b e g h =
      subst (λ (z : List Bool). StackTo (record (L.push_mark (flagged label (length fs) a) m) { flags = fs ++ false ∷ [] })
      (record (L.push_mark (flagged label (length z) b) n) { flags = z ++ false ∷ [] })) e
      (subst (λ (z : ℕ). StackTo (record (L.push_mark (flagged label (length fs) a) m) { flags = fs ++ false ∷ [] })
      (record (L.push_mark (flagged label (length fs) z) n) { flags = fs ++ false ∷ [] })) g
      (flags_to _ _ (fs ++ false ∷ []) (mark_pushed (flagged label (length fs) a) m n h)))

  -- marks are opened alike where labels may change at the same addresses
  module _ (repeats others : ℕ → ℕ → Bool) (agree : (p q address : ℕ) → R.To p q → repeats p address ≡ others q address) where
    opened_by : (t u : Bool) (label : Option ℕ) (m n : LinkedStack) → t ≡ u → StackTo m n
        → StackTo (if t then record (L.push_mark (flagged label (length m.flags) (pred m.address)) m) { flags = m.flags ++ false ∷ [] }
        else L.push_mark (fixed label) m)
        (if u then record (L.push_mark (flagged label (length n.flags) (pred n.address)) n) { flags = n.flags ++ false ∷ [] } else L.push_mark (fixed label) n)
    opened_by true true label m n e h = flagged_to label m n m.flags n.flags (pred m.address) (pred n.address) h.cells.flags (ap pred h.cells.address) h
    opened_by true false label m n e h = absurd (cc)
    opened_by false true label m n e h = absurd (cc)
    opened_by false false label m n e h = mark_pushed (fixed label) m n h

    pub opened_to : (label : Option ℕ) (m n : LinkedStack) → StackTo m n → StackTo (L.open_mark repeats label m) (L.open_mark others label n)
    opened_to label m n h = opened_by _ _ label m n
        (agree _ _ (pred m.address) (proc_of_to _ _ (frame_to m n h)) ∙ ap (λ (k : ℕ). others (L.proc_of (L.frame n)) (pred k)) h.cells.address) h

  limit_opened : (count : ℕ) (m n : LinkedStack) (ks js : List ℕ) → ks ≡ js → StackTo m n
      → StackTo (record m { chain = chain [] none (scans_of m.chain) (limit (length ks) m.chain); limits = ks ++ count ∷ [] })
      (record n { chain = chain [] none (scans_of n.chain) (limit (length js) n.chain); limits = js ++ count ∷ [] })
  limit_opened count m n ks js e h =
      subst (λ (z : List ℕ). StackTo (record m { chain = chain [] none (scans_of m.chain) (limit (length ks) m.chain); limits = ks ++ count ∷ [] })
      (record n { chain = chain [] none (scans_of n.chain) (limit (length z) n.chain); limits = z ++ count ∷ [] })) e
      (record {
        chain = inner_to m.chain n.chain _ _ h.chain (limit_to (length ks) h.chain);
        cells = record {
          address = h.cells.address;
          activations = h.cells.activations;
          flags = h.cells.flags;
          relabels = h.cells.relabels;
          limits = refl;
          saved = h.cells.saved;
        };
      })

  relabelled_to : (t : Bool) (label flag : ℕ) (m n : LinkedStack) → StackTo m n → StackTo (L.relabelled_if t label flag m) (L.relabelled_if t label flag n)
  relabelled_to true label flag m n h = record {
    chain = h.chain;
    cells = record {
      address = h.cells.address;
      activations = h.cells.activations;
      flags = ap (λ (fs : List Bool). slice_set fs flag true) h.cells.flags;
      relabels = ap (L.forget_label flag) h.cells.relabels;
      limits = h.cells.limits;
      saved = h.cells.saved;
    };
  }
  relabelled_to false label flag m n h = record {
    chain = h.chain;
    cells = record {
      address = h.cells.address;
      activations = h.cells.activations;
      flags = ap (λ (fs : List Bool). slice_set fs flag false) h.cells.flags;
      relabels = ap (λ (rs : List (ℕ × ℕ)). (flag, label) ∷ L.forget_label flag rs) h.cells.relabels;
      limits = h.cells.limits;
      saved = h.cells.saved;
    };
  }

  relabel_to : (label : ℕ) (m n : LinkedStack) (o p : Outer) → OuterTo o p → StackTo m n → OptionTo StackTo (L.relabel_in label m o) (L.relabel_in label n p)
  relabel_to label m n o p (base_to a t) h = neither
  relabel_to label m n o p (call_to a l q t c) h = neither
  relabel_to label m n o p (mark_to (fixed old) c) h = neither
  relabel_to label m n o p (mark_to (flagged old flag place) c) h = each_to (relabelled_to (label == place) label flag m n h)
  relabel_to label m n o p (limit_to count c) h = neither

  results_same : (k : ℕ) (m n : LinkedStack) → StackTo m n → L.results_left k m ≡ L.results_left k n
  results_same k m n h = ap (λ (ls : List ℕ). pred (slice_index_or ls k 0)) h.cells.limits

  count_to : (m n : LinkedStack) (o p : Outer) → OuterTo o p → StackTo m n
      → OptionTo (Paired (λ (a b : ℕ). a ≡ b) StackTo) (L.count_in m o) (L.count_in n p)
  count_to m n o p (base_to a t) h = neither
  count_to m n o p (call_to a l q t c) h = neither
  count_to m n o p (mark_to label c) h = neither
  count_to m n o p (limit_to k c) h = each_to (record {
    first = results_same k m n h;
    second = record {
      chain = h.chain;
      cells = record {
        address = h.cells.address;
        activations = h.cells.activations;
        flags = h.cells.flags;
        relabels = h.cells.relabels;
        limits = ap (λ (ls : List ℕ). slice_set ls k (pred (slice_index_or ls k 0))) h.cells.limits;
        saved = h.cells.saved;
      };
    };
  })

  -- Open scans

  pair_same : (m n : LinkedStack) (o p : Option ℕ) → o ≡ p → StackTo m n → L.pair_at m o ≡ L.pair_at n p
  pair_same m n o p e h = ap (L.pair_at m) e
      ∙ ap (λ (ps : List Pair). option_map (λ (k : ℕ). slice_index_or ps k (record { subject = []; position = 1 })) p) h.cells.saved

  swap_to : (pair : Pair) (m n : LinkedStack) (o : Option ℕ) → StackTo m n
      → OptionTo (Paired (λ (a b : Pair). a ≡ b) StackTo) (L.swap_at pair m o) (L.swap_at pair n o)
  swap_to pair m n None h = neither
  swap_to pair m n (Some k) h = each_to (record {
    first = ap (λ (ps : List Pair). slice_index_or ps k (record { subject = []; position = 1 })) h.cells.saved;
    second = record {
      chain = h.chain;
      cells = record {
        address = h.cells.address;
        activations = h.cells.activations;
        flags = h.cells.flags;
        relabels = h.cells.relabels;
        limits = h.cells.limits;
        saved = ap (λ (ps : List Pair). slice_set ps k pair) h.cells.saved;
      };
    };
  })

  swap_by : (pair : Pair) (m n : LinkedStack) (o p : Option ℕ) → o ≡ p → StackTo m n
      → OptionTo (Paired (λ (a b : Pair). a ≡ b) StackTo) (L.swap_at pair m o) (L.swap_at pair n p)
  swap_by pair m n o p e h =
      subst (λ (z : Option ℕ). OptionTo (Paired (λ (a b : Pair). a ≡ b) StackTo) (L.swap_at pair m o) (L.swap_at pair n z)) e (swap_to pair m n o h)

  -- Dropping a mark

  unmarked_to : (m n : LinkedStack) (c d : Chain) → ChainTo c d → StackTo m n
      → OptionTo (Paired StackTo (λ (a b : Option Pair). a ≡ b)) (L.unmark_in m c) (L.unmark_in n d)
  unmarked_to m n c d t h = each_to (record {
    first = chained c d m n t h.cells;
    second = pair_same m n _ _ (ap (λ (s : List ℕ). L.oldest (L.first_scan s) (scans_of m.chain)) (scans_same c d t)
        ∙ ap (L.oldest (L.first_scan (scans_of d))) (scans_same m.chain n.chain h.chain)) h;
  })

  unmark_to : (m n : LinkedStack) (o p : Outer) → OuterTo o p → StackTo m n
      → OptionTo (Paired StackTo (λ (a b : Option Pair). a ≡ b)) (L.unmark_from m o) (L.unmark_from n p)
  unmark_to m n o p (base_to a t) h = neither
  unmark_to m n o p (call_to a l q t c) h = neither
  unmark_to m n o p (mark_to label c) h = unmarked_to m n _ _ c h
  unmark_to m n o p (limit_to k c) h = unmarked_to m n _ _ c h

  placed_to : (m n : LinkedStack) (c d : Chain) (address : ℕ) → ChainTo c d → StackTo m n
      → StackTo (record m { chain = c; address = address }) (record n { chain = d; address = address })
  placed_to m n c d address t h = record {
    chain = t;
    cells = record {
      address = refl;
      activations = h.cells.activations;
      flags = h.cells.flags;
      relabels = h.cells.relabels;
      limits = h.cells.limits;
      saved = h.cells.saved;
    };
  }

  dropped_to : (m n : LinkedStack) (c d : Chain) (label : Option ℕ) → ChainTo c d → StackTo m n
      → DropTo StackTo (L.dropped_to m c label) (L.dropped_to n d label)
  dropped_to m n c d (Some label) t h = goes_to (placed_to m n c d label t h)
  dropped_to m n c d None t h = outside_to (chained c d m n t h.cells)

  dropped_by : (m n : LinkedStack) (c d : Chain) (label o : Option ℕ) → ChainTo c d → StackTo m n
      → DropTo StackTo (L.dropped_by m c label o) (L.dropped_by n d label o)
  dropped_by m n c d label (Some other) t h = repeats_to (placed_to m n c d other t h)
  dropped_by m n c d label None t h = dropped_to m n c d label t h

  again_to : (label : Option ℕ) (flag address : ℕ) (c d : Chain) (m n : LinkedStack) (b : Bool) → ChainTo c d → StackTo m n
      → DropTo StackTo (L.repeat_mark label flag address c m b) (L.repeat_mark label flag address d n b)
  again_to label flag address c d m n true t h = repeats_to (record {
    chain = inner_to c d _ _ t (mark_to (flagged label flag address) t);
    cells = record {
      address = refl;
      activations = h.cells.activations;
      flags = ap (λ (fs : List Bool). slice_set fs flag false) h.cells.flags;
      relabels = h.cells.relabels;
      limits = h.cells.limits;
      saved = h.cells.saved;
    };
  })
  again_to label flag address c d m n false t h =
      subst (λ (rs : List (ℕ × ℕ)). DropTo StackTo (L.dropped_by m c label (L.label_of flag m.relabels)) (L.dropped_by n d label (L.label_of flag rs)))
      h.cells.relabels (dropped_by m n c d label (L.label_of flag m.relabels) t h)

  drop_to : (m n : LinkedStack) (o p : Outer) → OuterTo o p → StackTo m n → DropTo StackTo (L.drop_from m o) (L.drop_from n p)
  drop_to m n o p (base_to a t) h = no_mark_to
  drop_to m n o p (call_to a l q t c) h = no_mark_to
  drop_to m n o p (mark_to (fixed label) c) h = dropped_to m n _ _ label c h
  drop_to m n o p (mark_to {c = x} {d = y} (flagged label flag place) c) h =
      subst (λ (fs : List Bool). DropTo StackTo (L.repeat_mark label flag place x m (slice_index_or m.flags flag false))
      (L.repeat_mark label flag place y n (slice_index_or fs flag false))) h.cells.flags
      (again_to label flag place x y m n (slice_index_or m.flags flag false) c h)
  drop_to m n o p (limit_to k c) h = outside_to (chained _ _ m n c h.cells)

  -- Suspending

  held_to : (s t : Suspensions) (c d : Chain) → SuspensionsTo s t → ChainTo c d → ChainTo (L.suspend_in s c) (L.suspend_in t d)
  held_to s t c d g (chain_to scans i old o) = chain_to scans i g o

  without_scan_to : (c d : Chain) → ChainTo c d → ChainTo (L.without_scan c) (L.without_scan d)
  without_scan_to c d (chain_to [] i s o) = chain_to [] i s o
  without_scan_to c d (chain_to (k ∷ scans) i s o) = chain_to scans i s o

  with_scan_to : (k : ℕ) (c d : Chain) → ChainTo c d → ChainTo (L.with_scan k c) (L.with_scan k d)
  with_scan_to k c d (chain_to scans i s o) = chain_to (k ∷ scans) i s o

  suspension_here : (r s : Reason) (m n : LinkedStack) → ReasonTo r s → StackTo m n
      → SuspensionsTo (suspension r m.address m.chain) (suspension s n.address n.chain)
  suspension_here r s m n g h =
      subst (λ (k : ℕ). SuspensionsTo (suspension r m.address m.chain) (suspension s k n.chain)) h.cells.address (suspension_to m.address g h.chain)

  suspended_to : (w u : Why) (m n : LinkedStack) → WhyTo w u → StackTo m n
      → StackTo (L.with_chain (L.suspend_in (suspension (because w) m.address m.chain) m.chain) m)
      (L.with_chain (L.suspend_in (suspension (because u) n.address n.chain) n.chain) n)
  suspended_to w u m n g h = chained _ _ m n (held_to _ _ m.chain n.chain (suspension_here (because w) (because u) m n (because_to g) h) h.chain) h.cells

  scan_suspended : (pair : Pair) (m n : LinkedStack) (ps qs : List Pair) → ps ≡ qs → StackTo m n
      → StackTo (record m {
        chain = L.with_scan (length ps) (L.suspend_in (suspension (scanning (length ps)) m.address m.chain) m.chain);
        saved = ps ++ pair ∷ [];
      }) (record n {
        chain = L.with_scan (length qs) (L.suspend_in (suspension (scanning (length qs)) n.address n.chain) n.chain);
        saved = qs ++ pair ∷ [];
      })
  scan_suspended pair m n ps qs e h =
      subst (λ (z : List Pair). StackTo (record m {
        chain = L.with_scan (length ps) (L.suspend_in (suspension (scanning (length ps)) m.address m.chain) m.chain);
        saved = ps ++ pair ∷ [];
      }) (record n {
        chain = L.with_scan (length z) (L.suspend_in (suspension (scanning (length z)) n.address n.chain) n.chain);
        saved = z ++ pair ∷ [];
      })) e (record {
        chain = with_scan_to (length ps) _ _
            (held_to _ _ m.chain n.chain (suspension_here (scanning (length ps)) (scanning (length ps)) m n (scanning_to (length ps)) h) h.chain);
        cells = record {
          address = h.cells.address;
          activations = h.cells.activations;
          flags = h.cells.flags;
          relabels = h.cells.relabels;
          limits = h.cells.limits;
          saved = refl;
        };
      })

  suspend_to : (w u : Why) (m n : LinkedStack) → WhyTo w u → StackTo m n → StackTo (L.suspend w m) (L.suspend u n)
  suspend_to w u m n alt_to h = suspended_to Alt Alt m n alt_to h
  suspend_to w u m n (op_to g) h = suspended_to _ _ m n (op_to g) h
  suspend_to w u m n (scan_to pair) h = scan_suspended pair m n m.saved n.saved h.cells.saved h
  suspend_to w u m n escan_to h =
      chained _ _ m n (without_scan_to _ _ (held_to _ _ m.chain n.chain (suspension_here (because Escan) (because Escan) m n (because_to escan_to) h) h.chain))
      h.cells
  suspend_to w u m n proc_to h = suspended_to Proc Proc m n proc_to h

  outer_suspended : (m n : LinkedStack) (o p : Outer) → OuterTo o p → StackTo m n → OptionTo StackTo (L.suspend_outer m o) (L.suspend_outer n p)
  outer_suspended m n o p (base_to a t) h = neither
  outer_suspended m n o p (call_to a l q t c) h = neither
  outer_suspended m n o p (mark_to label c) h =
      each_to (chained _ _ m n (held_to _ _ _ _ (suspension_here (because Alt) (because Alt) m n (because_to alt_to) h) c) h.cells)
  outer_suspended m n o p (limit_to k c) h =
      each_to (chained _ _ m n (held_to _ _ _ _ (suspension_here (because Alt) (because Alt) m n (because_to alt_to) h) c) h.cells)

  frame_suspended : (m n : LinkedStack) (f g : Frame) → FrameTo f g → StackTo m n → OptionTo StackTo (L.suspend_frame m f) (L.suspend_frame n g)
  frame_suspended m n f g (at_base_to a t) h = neither
  frame_suspended m n f g (in_call_to a l address t c) h =
      each_to (placed_to m n _ _ address (held_to _ _ _ _ (suspension_here (because Proc) (because Proc) m n (because_to proc_to) h) c) h)

  why_to : (r s : Reason) (m n : LinkedStack) → ReasonTo r s → StackTo m n → WhyTo (L.why_of r m) (L.why_of s n)
  why_to r s m n (because_to g) h = g
  why_to r s m n (scanning_to k) h =
      subst (λ (ps : List Pair). WhyTo (Scan (L.saved_at m k)) (Scan (slice_index_or ps k (record { subject = []; position = 1 })))) h.cells.saved
      (scan_to (L.saved_at m k))

  resume_to : (m n : LinkedStack) (c d : Chain) → ChainTo c d → StackTo m n → OptionTo (Paired WhyTo StackTo) (L.resume_from m c) (L.resume_from n d)
  resume_to m n c d (chain_to scans i none_to o) h = neither
  resume_to m n c d (chain_to scans i (suspension_to address r t) o) h =
      each_to (record { first = why_to _ _ m n r h; second = placed_to m n _ _ address t h })

  -- Calls

  entered_to : (p q : ℕ) (vs ws : List Value) (m n : LinkedStack) (a b l k x y : ℕ) → a ≡ b → l ≡ k → x ≡ y → R.To p q → Both (ValueTo R.To) vs ws → StackTo m n
      → StackTo (record m { chain = chain [] none [] (call p a l x m.chain); address = 0; activations = m.activations ++ vs ∷ [] })
      (record n { chain = chain [] none [] (call q b k y n.chain); address = 0; activations = n.activations ++ ws ∷ [] })
  entered_to p q vs ws m n a b l k x y e f g t i h =
      let Enters : ℕ → ℕ → ℕ → Type 0 = λ c d z. StackTo
      (record m { chain = chain [] none [] (call p a l x m.chain); address = 0; activations = m.activations ++ vs ∷ [] })
      (record n { chain = chain [] none [] (call q c d z n.chain); address = 0; activations = n.activations ++ ws ∷ [] }) in
      subst (λ (c : ℕ). Enters c k y) e (subst (λ (d : ℕ). Enters a d y) f (subst (λ (z : ℕ). Enters a l z) g (record {
        chain = chain_to [] both_nil none_to (call_to a l x t h.chain);
        cells = record {
          address = refl;
          activations = both_append (Both (ValueTo R.To)) _ _ _ _ h.cells.activations (both_cons i both_nil);
          flags = h.cells.flags;
          relabels = h.cells.relabels;
          limits = h.cells.limits;
          saved = h.cells.saved;
        };
      })))

  enter_to : (p q : ℕ) (vs ws : List Value) (m n : LinkedStack) → R.To p q → Both (ValueTo R.To) vs ws → StackTo m n
      → StackTo (L.enter p vs m) (L.enter q ws n)
  enter_to p q vs ws m n t i h = entered_to p q vs ws m n _ _ _ _ _ _ (both_length (Both (ValueTo R.To)) m.activations n.activations h.cells.activations)
      (ap suc (level_same _ _ (frame_to m n h))) h.cells.address t i h

  leave_to : (m n : LinkedStack) (f g : Frame) → FrameTo f g → StackTo m n → OptionTo StackTo (L.leave_frame m f) (L.leave_frame n g)
  leave_to m n f g (at_base_to a t) h = neither
  leave_to m n f g (in_call_to a l address t c) h = each_to (placed_to m n _ _ address c h)

  module _ (repeats others : ℕ → ℕ → Bool) (agree : (p q address : ℕ) → R.To p q → repeats p address ≡ others q address) where
    pub linked_to : CallsTo (linked_calls repeats) (linked_calls others)
    linked_to = record {
      Now = StackTo;
      Away = WaitingTo;
      Blank = BlankTo;
      blank = blank_of;
      blank_locals = locals_to;
      blank_set = λ vs ws m n g h. record { activation = h.activation; cells = cells_set vs ws m n g h };
      kept = λ m n h. record { chain = h.chain; address = h.cells.address };
      taken_up = λ k j m n g h. record {
        chain = g.chain;
        cells = record {
          address = g.address;
          activations = h.cells.activations;
          flags = h.cells.flags;
          relabels = h.cells.relabels;
          limits = h.cells.limits;
          saved = h.cells.saved;
        };
      };
      begin = begun_to;
      proc = λ m n h. proc_of_to _ _ (frame_to m n h);
      level = λ m n h. level_same _ _ (frame_to m n h);
      is_base = λ m n h. base_same _ _ (frame_to m n h);
      locals = λ m n h. locals_to m n (blank_of m n h);
      set_locals = λ vs ws m n g h. record { chain = h.chain; cells = cells_set vs ws m n g (blank_of m n h) };
      address = λ m n h. h.cells.address;
      go = λ address m n h. placed_to m n m.chain n.chain address h.chain h;
      go_whole = λ address m. refl;
      go_left = λ address n. refl;
      push = λ x y m n g h. chained _ _ m n (push_to x y m.chain n.chain g h.chain) h.cells;
      pop = λ m n h. pop_to m n m.chain n.chain h.chain h.cells;
      take = λ count m n h. take_to count m n m.chain n.chain h.chain h.cells;
      below = λ m n h. below_to _ _ (outer_to m.chain n.chain h.chain);
      mark = opened_to repeats others agree;
      limit = λ count m n h. limit_opened count m n m.limits n.limits h.cells.limits h;
      relabel = λ label m n h. relabel_to label m n _ _ (outer_to m.chain n.chain h.chain) h;
      count_down = λ m n h. count_to m n _ _ (outer_to m.chain n.chain h.chain) h;
      unmark = λ m n h. unmark_to m n _ _ (outer_to m.chain n.chain h.chain) h;
      drop_mark = λ m n h. drop_to m n _ _ (outer_to m.chain n.chain h.chain) h;
      suspend = suspend_to;
      suspend_mark = λ m n h. outer_suspended m n _ _ (outer_to m.chain n.chain h.chain) h;
      suspend_proc = λ m n h. frame_suspended m n _ _ (frame_to m n h) h;
      resume = λ m n h. resume_to m n m.chain n.chain h.chain h;
      swap_newest = λ pair m n h. swap_by pair m n _ _ (ap (λ (s : List ℕ). slice_get s 0) (scans_same m.chain n.chain h.chain)) h;
      swap_oldest = λ pair m n h. swap_by pair m n _ _ (ap (L.oldest None) (scans_same m.chain n.chain h.chain)) h;
      enter = enter_to;
      leave = λ m n h. leave_to m n _ _ (frame_to m n h) h;
    }

    -- before anything runs
    pub at_empty : linked_to.Blank L.empty L.empty
    unfolding linked_to
    at_empty = record {
      activation = refl;
      cells = record { address = refl; activations = both_nil; flags = refl; relabels = refl; limits = refl; saved = refl };
    }
