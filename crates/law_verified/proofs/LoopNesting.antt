-- Labels and what leads back: no label leads into the middle of a loop from before it.
use Rattle.std.proofs.Common.{◌≡◌, ℕ, zero, suc, ◌+◌, ◌<◌, ◌≤◌, Bool, true, false, ◌⊎◌, inl, inr, List, [], ◌∷◌, ◌++◌, length, refl, sym, subst, arith, length-append}
use Rattle.icn_code.specs.declared.instr.Instr.{Instr}
use Rattle.icn_code.specs.declared.instr.Instr.TheVariants as I
use Rattle.law_simulation.specs.Translation.{LoopExits, ways}
use Rattle.law_verified.specs.Noted.{Note, NotedShape, without_mark, unmarks}
use Rattle.law_verified.proofs.UnmarkLengths.{false_is_not_true}

-- the label forward of an instruction
pub data ForwardLabel : Instr → ℕ → Type 0 where
  forward_mark : {l : ℕ} → ForwardLabel (I.Mark l) l
  forward_goto : {l : ℕ} → ForwardLabel (I.Goto l) l
  forward_init : {l : ℕ} → ForwardLabel (I.Init l) l
  forward_create : {l : ℕ} → ForwardLabel (I.Create l) l

-- the label backward of an instruction
pub data BackwardLabel : Instr → ℕ → Type 0 where
  backward_loop : {l : ℕ} → BackwardLabel (I.Loop l) l
  backward_chfail : {l : ℕ} → BackwardLabel (I.Chfail l) l

abbrev pub is_plain : Instr → Bool
is_plain (I.Mark l) = false
is_plain (I.Goto l) = false
is_plain (I.Init l) = false
is_plain (I.Create l) = false
is_plain (I.Loop l) = false
is_plain (I.Chfail l) = false
is_plain i = true

pub plain_not_forward : {i : Instr} {m : ℕ} → is_plain i ≡ true → ForwardLabel i m → ⊥
plain_not_forward e forward_mark = false_is_not_true e
plain_not_forward e forward_goto = false_is_not_true e
plain_not_forward e forward_init = false_is_not_true e
plain_not_forward e forward_create = false_is_not_true e

pub plain_not_backward : {i : Instr} {m : ℕ} → is_plain i ≡ true → BackwardLabel i m → ⊥
plain_not_backward e backward_loop = false_is_not_true e
plain_not_backward e backward_chfail = false_is_not_true e

lead_no_back : {i : Instr} {m l : ℕ} → ForwardLabel i m → BackwardLabel i l → ⊥
lead_no_back forward_mark b = elim b [ ]
lead_no_back forward_goto b = elim b [ ]
lead_no_back forward_init b = elim b [ ]
lead_no_back forward_create b = elim b [ ]

one_lead : {i : Instr} {m l : ℕ} → ForwardLabel i m → ForwardLabel i l → l ≡ m
one_lead forward_mark forward_mark = refl
one_lead forward_goto forward_goto = refl
one_lead forward_init forward_init = refl
one_lead forward_create forward_create = refl

pub one_backward_label : {i : Instr} {m l : ℕ} → BackwardLabel i m → BackwardLabel i l → l ≡ m
one_backward_label backward_loop backward_loop = refl
one_backward_label backward_chfail backward_chfail = refl

-- a way out of an open loop
pub data IsWayOut (m : ℕ) : List LoopExits → Type 0 where
  out_last : {l g : ℕ} {W : List LoopExits} → m ≡ l → IsWayOut m (ways l g ∷ W)
  out_next : {l g : ℕ} {W : List LoopExits} → m ≡ g → IsWayOut m (ways l g ∷ W)
  out_outer : {w : LoopExits} {W : List LoopExits} → IsWayOut m W → IsWayOut m (w ∷ W)

-- the ways out of open loops lie at a place or behind it
pub record WaysAhead (t : ℕ) (W : List LoopExits) : Type 0 where
  pub most : (m : ℕ) → IsWayOut m W → t ≤ m

pub ways_ahead : {t t' : ℕ} {W : List LoopExits} → t' ≤ t → WaysAhead t W → WaysAhead t' W
ways_ahead h a = record { most = λ m i. let r = a.most m i in omega arith }

abbrev Labels : List LoopExits → ℕ → List Note → Type 0
Labels W q [] = Unit {0}
Labels W q (x ∷ xs) = ((m : ℕ) → ForwardLabel x.instr m → (m ≤ q) ⊎ IsWayOut m W) × Labels W q xs

abbrev pub Regions : ℕ → ℕ → List Note → Type 0
Regions lo p [] = Unit {0}
Regions lo p (x ∷ xs) = ((l : ℕ) → BackwardLabel x.instr l → (lo ≤ l) × (l ≤ p)) × Regions lo (suc p) xs

-- from the place a the label m leads into the middle of nothing that stands from q
abbrev pub Passes : ℕ → ℕ → ℕ → List Note → Type 0
Passes a m q [] = Unit {0}
Passes a m q (y ∷ ys) = ((l : ℕ) → BackwardLabel y.instr l → a < l → (m ≤ l) ⊎ (q < m)) × Passes a m (suc q) ys

pub record Pass (a m q : ℕ) (ys : List Note) : Type 0 where
  pub is : Passes a m q ys

abbrev pub Clear : ℕ → List Note → Type 0
Clear p [] = Unit {0}
Clear p (x ∷ xs) = ((m : ℕ) → ForwardLabel x.instr m → Passes p m (suc p) xs) × Clear (suc p) xs

-- code that labels leave only by a way out, and in which none enters a loop in the middle
pub record WellNested (W : List LoopExits) (p : ℕ) (xs : List Note) (q : ℕ) : Type 0 where
  pub ends : p + length xs ≡ q
  pub labels : Labels W q xs
  pub regions : Regions p p xs
  pub clear : Clear p xs

labels_to : (W W' : List LoopExits) (q q' : ℕ) (xs : List Note) → ((m : ℕ) → (m ≤ q) ⊎ IsWayOut m W → (m ≤ q') ⊎ IsWayOut m W') → Labels W q xs
    → Labels W' q' xs
labels_to W W' q q' [] f h = tt
labels_to W W' q q' (x ∷ xs) f h = (λ m e. f m (h.0 m e), labels_to W W' q q' xs f h.1)

labels_more : (W : List LoopExits) (q q' : ℕ) → q ≤ q' → (m : ℕ) → (m ≤ q) ⊎ IsWayOut m W → (m ≤ q') ⊎ IsWayOut m W
labels_more W q q' h m (inl e) = inl (omega arith)
labels_more W q q' h m (inr e) = inr e

labels_append : (W : List LoopExits) (q : ℕ) (xs ys : List Note) → Labels W q xs → Labels W q ys → Labels W q (xs ++ ys)
labels_append W q [] ys h k = k
labels_append W q (x ∷ xs) ys h k = (h.0, labels_append W q xs ys h.1 k)

regions_to : (lo lo' p : ℕ) (xs : List Note) → lo' ≤ lo → Regions lo p xs → Regions lo' p xs
regions_to lo lo' p [] e h = tt
regions_to lo lo' p (x ∷ xs) e h = (λ l b. (let r = (h.0 l b).0 in omega arith, (h.0 l b).1), regions_to lo lo' (suc p) xs e h.1)

regions_append : (lo p q : ℕ) (xs ys : List Note) → p + length xs ≡ q → Regions lo p xs → Regions lo q ys → Regions lo p (xs ++ ys)
regions_append lo p q [] ys e h k = subst (λ q. Regions lo q ys) (omega arith) k
regions_append lo p q (x ∷ xs) ys e h k = (h.0, regions_append lo (suc p) q xs ys (omega arith) h.1 k)

passes_append : (a m p q : ℕ) (xs ys : List Note) → p + length xs ≡ q → Passes a m p xs → Passes a m q ys → Passes a m p (xs ++ ys)
passes_append a m p q [] ys e h k = subst (λ q. Passes a m q ys) (omega arith) k
passes_append a m p q (x ∷ xs) ys e h k = (h.0, passes_append a m (suc p) q xs ys (omega arith) h.1 k)

-- what ends before the label, and what begins behind it
ends_before : (a m p : ℕ) (xs : List Note) → p + length xs ≤ m → Passes a m p xs
ends_before a m p [] h = tt
ends_before a m p (x ∷ xs) h = (λ l b w. inr (omega arith), ends_before a m (suc p) xs (omega arith))

begins_after : (a m lo p : ℕ) (xs : List Note) → m ≤ lo → Regions lo p xs → Passes a m p xs
begins_after a m lo p [] h r = tt
begins_after a m lo p (x ∷ xs) h r = (λ l b w. inl (let s = (r.0 l b).0 in omega arith), begins_after a m lo (suc p) xs h r.1)

clear_append : (W : List LoopExits) (p q t : ℕ) (xs ys : List Note) → p + length xs ≡ q → q + length ys ≡ t → WaysAhead t W → Labels W q xs → Regions q q ys
    → Clear p xs
    → Clear q ys → Clear p (xs ++ ys)
clear_append W p q t [] ys e f a l r c d = subst (λ q. Clear q ys) (omega arith) d
clear_append W p q t (x ∷ xs) ys e f a l r c d =
    (λ m i. passes_append p m (suc p) q xs ys (omega arith) (c.0 m i) (over m (l.0 m i)), clear_append W (suc p) q t xs ys (omega arith) f a l.1 r c.1 d)
  where
    over : (m : ℕ) → (m ≤ q) ⊎ IsWayOut m W → Passes p m q ys
    over m (inl h) = begins_after p m q q ys h r
    over m (inr i) = let h = a.most m i in ends_before p m q ys (omega arith)

-- pieces that are well nested are so one behind the other
pub nested_append : {W : List LoopExits} {p q t : ℕ} {xs ys : List Note} → WellNested W p xs q → WellNested W q ys t → WaysAhead t W
    → WellNested W p (xs ++ ys) t
nested_append {W = W} {p = p} {q = q} {t = t} {xs = xs} {ys = ys} n m a = let en = n.ends in let em = m.ends in let la = length-append xs ys in record {
  ends = omega arith;
  labels = labels_append W t xs ys (labels_to W W q t xs (labels_more W q t (omega arith)) n.labels) m.labels;
  regions = regions_append p p q xs ys en n.regions (regions_to q p q ys (omega arith) m.regions);
  clear = clear_append W p q t xs ys en em a n.labels m.regions n.clear m.clear;
}

-- no code is well nested
pub nested_nil : {W : List LoopExits} {p : ℕ} (q : ℕ) → p ≡ q → WellNested W p [] q
nested_nil q e = record { ends = omega arith; labels = tt; regions = tt; clear = tt }

-- an instruction without a label in front
pub nested_plain : {W : List LoopExits} {p q : ℕ} {xs : List Note} (x : Note) → is_plain x.instr ≡ true → WellNested W (suc p) xs q → WellNested W p (x ∷ xs) q
nested_plain {p = p} {xs = xs} x e n = let en = n.ends in record {
  ends = omega arith;
  labels = (λ m i. absurd (plain_not_forward e i), n.labels);
  regions = (λ l b. absurd (plain_not_backward e b), regions_to (suc p) p (suc p) xs (omega arith) n.regions);
  clear = (λ m i. absurd (plain_not_forward e i), n.clear);
}

-- a label to a place that the rest has, or its end
pub nested_forward : {W : List LoopExits} {p q : ℕ} {xs : List Note} (x : Note) {l : ℕ} (m : ℕ) → ForwardLabel x.instr l → l ≡ m → m ≤ q → Pass p m (suc p) xs
    → WellNested W (suc p) xs q
    → WellNested W p (x ∷ xs) q
nested_forward {W = W} {p = p} {q = q} {xs = xs} x {l = l} m i e h s n = let en = n.ends in record {
  ends = omega arith;
  labels = (λ m' i'. inl (let u = one_lead i i' in omega arith), n.labels);
  regions = (λ l b. absurd (lead_no_back i b), regions_to (suc p) p (suc p) xs (omega arith) n.regions);
  clear = (λ m' i'. subst (λ m. Passes p m (suc p) xs) (let u = one_lead i i' in omega arith) s.is, n.clear);
}

-- a way out
pub nested_out : {W : List LoopExits} {p : ℕ} (x : Note) {l : ℕ} → ForwardLabel x.instr l → IsWayOut l W → WellNested W p (x ∷ []) (suc p)
nested_out {W = W} {p = p} x {l = l} i w = record {
  ends = omega arith;
  labels = (λ m i'. inr (subst (λ m. IsWayOut m W) (sym (one_lead i i')) w), tt);
  regions = (λ l b. absurd (lead_no_back i b), tt);
  clear = (λ m i'. tt, tt);
}

pub pass_before : {W : List LoopExits} {q t a m : ℕ} {xs ys : List Note} → WellNested W q xs t → t ≤ m → Pass a m t ys → Pass a m q (xs ++ ys)
pass_before {q = q} {t = t} {a = a} {m = m} {xs = xs} {ys = ys} n h s =
    let en = n.ends in record { is = passes_append a m q t xs ys en (ends_before a m q xs (omega arith)) s.is }

pub after : {W : List LoopExits} {q t a m : ℕ} {xs ys : List Note} → WellNested W q xs t → m ≤ q → Pass a m t ys → Pass a m q (xs ++ ys)
after {q = q} {t = t} {a = a} {m = m} {xs = xs} {ys = ys} n h s = record { is = passes_append a m q t xs ys n.ends (begins_after a m q q xs h n.regions) s.is }

pub lies_before : {W : List LoopExits} {q t a m : ℕ} {xs : List Note} → WellNested W q xs t → t ≤ m → Pass a m q xs
lies_before {q = q} {a = a} {m = m} {xs = xs} n h = let en = n.ends in record { is = ends_before a m q xs (omega arith) }

pub pass_after : {W : List LoopExits} {q t a m : ℕ} {xs : List Note} → WellNested W q xs t → m ≤ q → Pass a m q xs
pass_after {q = q} {a = a} {m = m} {xs = xs} n h = record { is = begins_after a m q q xs h n.regions }

pub pass_plain : {a m q : ℕ} {ys : List Note} (x : Note) → is_plain x.instr ≡ true → Pass a m (suc q) ys → Pass a m q (x ∷ ys)
pass_plain x e s = record { is = (λ l b w. absurd (plain_not_backward e b), s.is) }

pub pass_forward : {a m q : ℕ} {ys : List Note} (x : Note) {l : ℕ} → ForwardLabel x.instr l → Pass a m (suc q) ys → Pass a m q (x ∷ ys)
pass_forward x i s = record { is = (λ l b w. absurd (lead_no_back i b), s.is) }

pub nested_over : {a m q : ℕ} → Pass a m q []
nested_over = record { is = tt }

clear_back : (lo p q : ℕ) (xs : List Note) (x : Note) → lo ≤ p → p + length xs ≡ q → ((l : ℕ) → BackwardLabel x.instr l → l ≡ lo)
    → ((m : ℕ) → ForwardLabel x.instr m → ⊥)
    → Clear p xs → Clear p (xs ++ (x ∷ []))
clear_back lo p q [] x h e b f c = (λ m i. tt, tt)
clear_back lo p q (y ∷ ys) x h e b f c = (
  λ m i. passes_append p m (suc p) q ys (x ∷ []) (omega arith) (c.0 m i) (λ l k w. absurd (let u = b l k in omega arith), tt),
  clear_back lo (suc p) q ys x (omega arith) (omega arith) b f c.1,
)

-- what leads back to the first place
pub nested_back : {W W' : List LoopExits} {p q : ℕ} {xs : List Note} (x : Note) → ((l : ℕ) → BackwardLabel x.instr l → l ≡ p)
    → ((m : ℕ) → ForwardLabel x.instr m → ⊥)
    → ((m : ℕ) → (m ≤ q) ⊎ IsWayOut m W → (m ≤ suc q) ⊎ IsWayOut m W') → WellNested W p xs q → WellNested W' p (xs ++ (x ∷ [])) (suc q)
nested_back {W = W} {W' = W'} {p = p} {q = q} {xs = xs} x b f g n = let en = n.ends in let la = length-append xs (x ∷ []) in record {
  ends = omega arith;
  labels = labels_append W' (suc q) xs (x ∷ []) (labels_to W W' q (suc q) xs g n.labels) (λ m i. absurd (f m i), tt);
  regions = regions_append p p q xs (x ∷ []) en n.regions (λ l k. let u = b l k in (omega arith, omega arith), tt);
  clear = clear_back p p q xs x (omega arith) en b f n.clear;
}

pub way_stays : (W : List LoopExits) (q : ℕ) (m : ℕ) → (m ≤ q) ⊎ IsWayOut m W → (m ≤ suc q) ⊎ IsWayOut m W
way_stays W q m (inl h) = inl (omega arith)
way_stays W q m (inr h) = inr h

-- out of a loop that ends here
pub ways_left : (W : List LoopExits) (q l g : ℕ) → l ≡ suc q → g ≡ q → (m : ℕ) → (m ≤ q) ⊎ IsWayOut m (ways l g ∷ W) → (m ≤ suc q) ⊎ IsWayOut m W
ways_left W q l g e f m (inl h) = inl (omega arith)
ways_left W q l g e f m (inr (out_last h)) = inl (omega arith)
ways_left W q l g e f m (inr (out_next h)) = inl (omega arith)
ways_left W q l g e f m (inr (out_outer i)) = inr i

wide : (W W' : List LoopExits) (q : ℕ) → ((m : ℕ) → IsWayOut m W → IsWayOut m W') → (m : ℕ) → (m ≤ q) ⊎ IsWayOut m W → (m ≤ q) ⊎ IsWayOut m W'
wide W W' q f m (inl h) = inl h
wide W W' q f m (inr i) = inr (f m i)

pub nested_wider : {W : List LoopExits} (W' : List LoopExits) {p q : ℕ} {xs : List Note} → ((m : ℕ) → IsWayOut m W → IsWayOut m W') → WellNested W p xs q
    → WellNested W' p xs q
nested_wider {W = W} W' {p = p} {q = q} {xs = xs} f n =
    record { ends = n.ends; labels = labels_to W W' q q xs (wide W W' q f) n.labels; regions = n.regions; clear = n.clear }

pub nested_to : {W : List LoopExits} {p q : ℕ} {xs : List Note} (q' : ℕ) → q ≡ q' → WellNested W p xs q → WellNested W p xs q'
nested_to {W = W} {p = p} {xs = xs} q' e n = subst (λ q. WellNested W p xs q) e n

pub chfail_leads : {l m : ℕ} → ForwardLabel (I.Chfail l) m → ⊥
chfail_leads i = elim i [ ]

pub loop_leads : {l m : ℕ} → ForwardLabel (I.Loop l) m → ⊥
loop_leads i = elim i [ ]

pub none_in : {m : ℕ} → IsWayOut m [] → ⊥
none_in i = elim i [ ]

pub no_ways_ahead : {t : ℕ} → WaysAhead t []
no_ways_ahead = record { most = λ m i. absurd (none_in i) }

pub ahead_loop : {W : List LoopExits} (q l g : ℕ) → q ≤ l → q ≤ g → WaysAhead q W → WaysAhead q (ways l g ∷ W)
ahead_loop {W = W} q l g h k a = record { most = λ m i. at_most m i }
  where
    at_most : (m : ℕ) → IsWayOut m (ways l g ∷ W) → q ≤ m
    at_most m (out_last e) = omega arith
    at_most m (out_next e) = omega arith
    at_most m (out_outer i) = a.most m i

pub ahead_outer : {t : ℕ} {w : LoopExits} {W : List LoopExits} → WaysAhead t (w ∷ W) → WaysAhead t W
ahead_outer a = record { most = λ m i. a.most m (out_outer i) }

inner : (W : List LoopExits) (q l : ℕ) → l ≤ q → (m : ℕ) → (m ≤ q) ⊎ IsWayOut m (ways l l ∷ W) → (m ≤ q) ⊎ IsWayOut m W
inner W q l h m (inl e) = inl e
inner W q l h m (inr (out_last e)) = inl (omega arith)
inner W q l h m (inr (out_next e)) = inl (omega arith)
inner W q l h m (inr (out_outer i)) = inr i

pub narrow : {W : List LoopExits} {p q : ℕ} {xs : List Note} (l : ℕ) → l ≤ q → WellNested (ways l l ∷ W) p xs q → WellNested W p xs q
narrow {W = W} {p = p} {q = q} {xs = xs} l h n =
    record { ends = n.ends; labels = labels_to (ways l l ∷ W) W q q xs (inner W q l h) n.labels; regions = n.regions; clear = n.clear }

pub unmarks_neat : (W : List LoopExits) (n : ℕ) (s : NotedShape) (p : ℕ) → WellNested W p (unmarks n s) (p + n)
unmarks_neat W zero s p = nested_nil _ (omega arith)
unmarks_neat W (suc n) s p = nested_plain _ refl (nested_to _ (omega arith) (unmarks_neat W n (without_mark s) (suc p)))
