-- What is fine here is fine for the verifier.
use Rattle.std.proofs.Common.{◌≡◌, ℕ, zero, suc, ◌+◌, ◌≤◌, Bool, true, false, not, ◌&&◌, nat_lt, List, ◌∷◌, map, Option, Some, None, refl, sym, ap, ◌∙◌, subst, arith}
use Rattle.std.specs.Prelude.{slice_get, unwrap_or}
use Rattle.law_simulation.specs.Translation as C
use Rattle.std.specs.Option.{option_map}
use Rattle.std.proofs.lemmas.Bool.{le-ltb, lt-ltb}
use Rattle.icn_code.specs.declared.instr.Instr.{Instr}
use Rattle.icn_verify.specs.Shapes.{PlainShape}
use Rattle.icn_verify.specs.Given as V
use Rattle.law_verified.specs.Noted.{NotedKind, Marked, Limited, NotedShape, Note, more, many, procedure}
use Rattle.law_verified.specs.Verified.{u_null, u_int, u_str, u_cset, u_local, u_static, u_global, u_keyword, TakesOperands, t_op, t_list, t_field, t_invoke, t_appl, t_coact, Fine, f_push, f_pop, f_dup, f_takes, f_mark, f_mark0, f_unmark, f_eret, f_esusp, f_limit, f_lsusp, f_efail, f_chfail, f_goto, f_loop, f_bscan, f_escan, f_ccase, f_init, f_psusp, f_pret, f_pfail, f_create, f_coret, f_cofail}
use Rattle.law_verified.specs.TranslationLaws.{At, shape_at, HasNotedShapes}
use Rattle.law_verified.specs.VerifierShapes.{kind_of, plain_level, plain, plain_at, CodesHaveShapes}
use Rattle.law_verified.proofs.VerifiedProcedures.{codes_verified}

-- with so many operands and scans in the innermost level, and with so many operands in the level around it
abbrev ops : NotedShape → ℕ → PlainShape
ops s n =
    record { in_create = s.in_create; inner = record { kind = kind_of s.inner.kind; operands = n; scans = s.inner.scans }; outer = map plain_level s.outer }

abbrev both : NotedShape → ℕ → ℕ → PlainShape
both s n m = record { in_create = s.in_create; inner = record { kind = kind_of s.inner.kind; operands = n; scans = m }; outer = map plain_level s.outer }

abbrev under : NotedKind → NotedShape → ℕ → PlainShape
under k s n = record {
  in_create = s.in_create;
  inner = record { kind = kind_of k; operands = 0; scans = 0 };
  outer = record { kind = kind_of s.inner.kind; operands = n; scans = s.inner.scans } ∷ map plain_level s.outer;
}

enough : (k m : ℕ) → m ≤ k → (not (nat_lt k m) && true) ≡ true
enough k m h = ap (λ b. not b && true) (le-ltb k m h)

enough_and : (k m : ℕ) (b : Bool) → m ≤ k → b ≡ true → (not (nat_lt k m) && b) ≡ true
enough_and k m b h e = ap (λ c. not (nat_lt k m) && c) e ∙ enough k m h

outside : (k m : ℕ) (b : Bool) → m ≤ k → b ≡ false → (not (nat_lt k m) && not b) ≡ true
outside k m b h e = enough_and k m (not b) h (ap not e)

many_ops : (n : ℕ) (s : NotedShape) → plain (many n s) ≡ ops s (n + s.inner.operands)
many_ops zero s = ap (ops s) (omega arith)
many_ops (suc n) s = ap (λ (t : PlainShape). record t { inner = record t.inner { operands = suc t.inner.operands } }) (many_ops n s) ∙ ap (ops s) (omega arith)

pub none_is_not_some : {T : Type 0} {s : T} → None ≡ Some s → ⊥
none_is_not_some e = subst (λ o. elim o as (λ x. Type 0) [ None ↦ Unit {0} | Some y ↦ ⊥ ]) e tt

module _ (instrs : List Instr) (xs : List Note) where
  abbrev IsFine : ℕ → PlainShape → Type 0
  IsFine p t = V.IsFine instrs (plain_at xs) p t

  arrive : {p : ℕ} (q : ℕ) {s : NotedShape} (t : PlainShape) → At xs p s → p ≡ q → plain s ≡ t → plain_at xs q ≡ Some t
  arrive q t h e f = ap (λ y. option_map plain y) (ap (λ q. shape_at xs q) (sym e) ∙ h) ∙ ap Some f

  takes_fine : (p n : ℕ) {i : Instr} (s : NotedShape) → TakesOperands i n → slice_get instrs p ≡ Some i → At xs (suc p) (more s)
      → IsFine p (ops s (n + s.inner.operands))
  takes_fine p n s t_op st h =
      record { instr = _; stands = st; fit = enough _ _ (omega arith); on = arrive _ _ h (omega arith) (ap (ops s) (omega arith)); onward = tt; backward = tt }
  takes_fine p n s t_list st h =
      record { instr = _; stands = st; fit = enough _ _ (omega arith); on = arrive _ _ h (omega arith) (ap (ops s) (omega arith)); onward = tt; backward = tt }
  takes_fine p n s t_field st h =
      record { instr = _; stands = st; fit = enough _ _ (omega arith); on = arrive _ _ h (omega arith) (ap (ops s) (omega arith)); onward = tt; backward = tt }
  takes_fine p n s t_invoke st h =
      record { instr = _; stands = st; fit = enough _ _ (omega arith); on = arrive _ _ h (omega arith) (ap (ops s) (omega arith)); onward = tt; backward = tt }
  takes_fine p n s t_appl st h =
      record { instr = _; stands = st; fit = enough _ _ (omega arith); on = arrive _ _ h (omega arith) (ap (ops s) (omega arith)); onward = tt; backward = tt }
  takes_fine p n s t_coact st h =
      record { instr = _; stands = st; fit = enough _ _ (omega arith); on = arrive _ _ h (omega arith) (ap (ops s) (omega arith)); onward = tt; backward = tt }

  pub is_fine : (p : ℕ) (i : Instr) (s : NotedShape) → slice_get instrs p ≡ Some i → Fine (At xs) p i s → IsFine p (plain s)
  is_fine p i s st (f_push _ u_null h) =
      record { instr = _; stands = st; fit = enough _ _ (omega arith); on = arrive _ _ h (omega arith) (ap (ops s) (omega arith)); onward = tt; backward = tt }
  is_fine p i s st (f_push _ u_int h) =
      record { instr = _; stands = st; fit = enough _ _ (omega arith); on = arrive _ _ h (omega arith) (ap (ops s) (omega arith)); onward = tt; backward = tt }
  is_fine p i s st (f_push _ u_str h) =
      record { instr = _; stands = st; fit = enough _ _ (omega arith); on = arrive _ _ h (omega arith) (ap (ops s) (omega arith)); onward = tt; backward = tt }
  is_fine p i s st (f_push _ u_cset h) =
      record { instr = _; stands = st; fit = enough _ _ (omega arith); on = arrive _ _ h (omega arith) (ap (ops s) (omega arith)); onward = tt; backward = tt }
  is_fine p i s st (f_push _ u_local h) =
      record { instr = _; stands = st; fit = enough _ _ (omega arith); on = arrive _ _ h (omega arith) (ap (ops s) (omega arith)); onward = tt; backward = tt }
  is_fine p i s st (f_push _ u_static h) =
      record { instr = _; stands = st; fit = enough _ _ (omega arith); on = arrive _ _ h (omega arith) (ap (ops s) (omega arith)); onward = tt; backward = tt }
  is_fine p i s st (f_push _ u_global h) =
      record { instr = _; stands = st; fit = enough _ _ (omega arith); on = arrive _ _ h (omega arith) (ap (ops s) (omega arith)); onward = tt; backward = tt }
  is_fine p i s st (f_push _ u_keyword h) =
      record { instr = _; stands = st; fit = enough _ _ (omega arith); on = arrive _ _ h (omega arith) (ap (ops s) (omega arith)); onward = tt; backward = tt }
  is_fine p i _ st (f_pop s h) =
      record { instr = _; stands = st; fit = enough _ _ (omega arith); on = arrive _ _ h (omega arith) (ap (ops s) (omega arith)); onward = tt; backward = tt }
  is_fine p i _ st (f_dup s h) =
      record { instr = _; stands = st; fit = enough _ _ (omega arith); on = arrive _ _ h (omega arith) (ap (ops s) (omega arith)); onward = tt; backward = tt }
  is_fine p i _ st (f_takes n s t h) = subst (λ t. IsFine p t) (sym (many_ops n s)) (takes_fine p n s t st h)
  is_fine p i s st (f_mark _ h hl lt) = record {
    instr = _;
    stands = st;
    fit = enough _ _ (omega arith);
    on = arrive _ _ h (omega arith) (ap (under Marked s) (omega arith));
    onward = (lt, arrive _ _ hl refl refl);
    backward = tt;
  }
  is_fine p i s st (f_mark0 _ h) = record {
    instr = _;
    stands = st;
    fit = enough _ _ (omega arith);
    on = arrive _ _ h (omega arith) (ap (under Marked s) (omega arith));
    onward = tt;
    backward = tt;
  }
  is_fine p i _ st (f_unmark k s h) =
      record { instr = _; stands = st; fit = enough _ _ (omega arith); on = arrive _ _ h (omega arith) (ap (ops s) (omega arith)); onward = tt; backward = tt }
  is_fine p i _ st (f_eret s h) =
      record { instr = _; stands = st; fit = refl; on = arrive _ _ h (omega arith) (ap (ops s) (omega arith)); onward = tt; backward = tt }
  is_fine p i _ st (f_esusp s h) =
      record { instr = _; stands = st; fit = refl; on = arrive _ _ h (omega arith) (ap (ops s) (omega arith)); onward = tt; backward = tt }
  is_fine p i _ st (f_limit s h) = record {
    instr = _;
    stands = st;
    fit = enough _ _ (omega arith);
    on = arrive _ _ h (omega arith) (ap (under Limited s) (omega arith));
    onward = tt;
    backward = tt;
  }
  is_fine p i _ st (f_lsusp s h) =
      record { instr = _; stands = st; fit = refl; on = arrive _ _ h (omega arith) (ap (ops s) (omega arith)); onward = tt; backward = tt }
  is_fine p i s st (f_efail _) = record { instr = _; stands = st; fit = enough _ _ (omega arith); on = tt; onward = tt; backward = tt }
  is_fine p i _ st (f_chfail s h hl le) =
      record { instr = _; stands = st; fit = refl; on = arrive _ _ h (omega arith) refl; onward = tt; backward = (le, arrive _ _ hl refl refl) }
  is_fine p i s st (f_goto _ hl lt) =
      record { instr = _; stands = st; fit = enough _ _ (omega arith); on = tt; onward = (lt, arrive _ _ hl refl (ap (ops s) (omega arith))); backward = tt }
  is_fine p i s st (f_loop _ hl le) =
      record { instr = _; stands = st; fit = enough _ _ (omega arith); on = tt; onward = tt; backward = (le, arrive _ _ hl refl refl) }
  is_fine p i _ st (f_bscan s h) = record {
    instr = _;
    stands = st;
    fit = enough _ _ (omega arith);
    on = arrive _ _ h (omega arith) (ap (λ n. both s n (suc s.inner.scans)) (omega arith) ∙ ap (both s _) (omega arith));
    onward = tt;
    backward = tt;
  }
  is_fine p i _ st (f_escan s h) = record {
    instr = _;
    stands = st;
    fit = enough_and (suc s.inner.operands) 1 (nat_lt 0 (suc s.inner.scans)) (omega arith) (lt-ltb 0 (suc s.inner.scans) (omega arith));
    on = arrive _ _ h (omega arith) (ap (λ n. both s n s.inner.scans) (omega arith) ∙ ap (both s _) (omega arith));
    onward = tt;
    backward = tt;
  }
  is_fine p i _ st (f_ccase s h) = record {
    instr = _;
    stands = st;
    fit = enough_and 0 0 (nat_lt 0 (suc s.inner.operands)) (omega arith) (lt-ltb 0 (suc s.inner.operands) (omega arith));
    on = arrive _ _ h (omega arith) refl;
    onward = tt;
    backward = tt;
  }
  is_fine p i s st (f_init _ nc h hl lt) = record {
    instr = _;
    stands = st;
    fit = outside s.inner.operands 0 s.in_create (omega arith) nc;
    on = arrive _ _ h (omega arith) (ap (ops s) (omega arith));
    onward = (lt, arrive _ _ hl refl (ap (ops s) (omega arith)));
    backward = tt;
  }
  is_fine p i _ st (f_psusp s nc h) = record {
    instr = _;
    stands = st;
    fit = outside (suc s.inner.operands) 1 s.in_create (omega arith) nc;
    on = arrive _ _ h (omega arith) (ap (ops s) (omega arith));
    onward = tt;
    backward = tt;
  }
  is_fine p i _ st (f_pret s nc) =
      record { instr = _; stands = st; fit = outside (suc s.inner.operands) 1 s.in_create (omega arith) nc; on = tt; onward = tt; backward = tt }
  is_fine p i s st (f_pfail _ nc) =
      record { instr = _; stands = st; fit = outside s.inner.operands 0 s.in_create (omega arith) nc; on = tt; onward = tt; backward = tt }
  is_fine p i s st (f_create _ h hl lt) = record {
    instr = _;
    stands = st;
    fit = enough _ _ (omega arith);
    on = arrive _ _ h (omega arith) refl;
    onward = (lt, arrive _ _ hl refl (ap (ops s) (omega arith)));
    backward = tt;
  }
  is_fine p i _ st (f_coret s ic h) = record {
    instr = _;
    stands = st;
    fit = enough_and (suc s.inner.operands) 1 s.in_create (omega arith) ic;
    on = arrive _ _ h (omega arith) (ap (ops s) (omega arith));
    onward = tt;
    backward = tt;
  }
  is_fine p i s st (f_cofail _ ic) =
      record { instr = _; stands = st; fit = enough_and s.inner.operands 0 s.in_create (omega arith) ic; on = tt; onward = tt; backward = tt }

-- what is verified here has shapes for the verifier
pub codes_have_shapes : CodesHaveShapes
codes_have_shapes L j N i es f g =
    let r = codes_verified L j N i es f g in let xs = procedure N i es in
    record { start = ap (λ y. option_map plain y) r.begins; each = λ p t e. found p (shape_at xs p) refl t e r }
  where
    found : (p : ℕ) (o : Option NotedShape) → shape_at (procedure N i es) p ≡ o → (t : PlainShape) → option_map plain (shape_at (procedure N i es) p) ≡ Some t
        → HasNotedShapes (C.procedure N i es) (procedure N i es) → V.IsFine (C.procedure N i es) (plain_at (procedure N i es)) p t
    found p None w t e r = absurd (none_is_not_some (ap (λ y. option_map plain y) (sym w) ∙ e))
    found p (Some s) w t e r = let d = r.each p s w in
        subst (λ t. V.IsFine (C.procedure N i es) (plain_at (procedure N i es)) p t) (ap (λ y. unwrap_or y t) (ap (λ y. option_map plain y) (sym w) ∙ e))
        (is_fine (C.procedure N i es) (procedure N i es) p d.0 s d.1 d.2)
