-- Procedures: what is read is spelled so, and what is spelled so is read again.
use Rattle.std.proofs.Common.{◌≡◌, ℕ, ◌≤◌, ◌<◌, Bool, true, false, cond, List, [], ◌∷◌, ◌++◌, length, map, Result, Ok, Err, refl, sym, ap, subst, ◌∙◌, append_assoc, arith}
use Rattle.std.specs.Prelude.{nat_le, nat_lt}
use Rattle.std.specs.List.{flat_map, list_all}
use Rattle.std.specs.Int.{Width, to_le_bytes}
use Rattle.std.proofs.lemmas.Bool.{ltb-true, lt-ltb, leb-true, le-leb, and_parts, and_from, cond-true}
use Rattle.std.proofs.lemmas.List.Concat.{flat_map-cons}
use Rattle.icn_tree.specs.declared.rule.Rule.{Rule}
use Rattle.icn_tree.specs.declared.rule.Rule.TheVariants.{I4}
use Rattle.icn_code.specs.declared.instr.Instr.{Instr}
use Rattle.icn_code.specs.Codes.{Proc}
use Rattle.icn_image.specs.declared.head.ImageHead.{ImageHead}
use Rattle.icn_image.specs.Fronts.{FrontTables, head_of, with_instrs, scope_of}
use Rattle.icn_image.specs.Readers.{◌>>=◌, number_at, count_at, times}
use Rattle.icn_image.specs.Reading.{has_proc, have_procs, heads_at, heads_from, instr_at, proc_at, procs_at}
use Rattle.icn_image.specs.Spelling.{table, head, instruction, body}
use Rattle.icn_image.proofs.SpelledFields.{IsBytes, bind_parts, done_injective, passed_parts, Takes, takes_then, IsWide, number_reads, times_takes, times_again}
use Rattle.icn_image.proofs.SpelledInstructions.{IsBounded, names_below, instr_reads}
use Rattle.icn_image.proofs.SpelledHeads.{HeadIsBounded, head_fits, head_bounded, head_statics, heads_from_take, heads_from_again}

-- the tables in front are within their bounds
pub record FrontIsBounded (limit : ℕ) (front : FrontTables) : Type 0 where
  pub strings : length front.strings < limit
  pub csets : length front.csets < limit
  pub integers : length front.integers < limit
  pub fields : length front.fields ≤ 65535
  pub records : length front.records ≤ 65535
  pub globals : length front.globals < limit

scope_bounded : (limit : ℕ) (front : FrontTables) (proc : ImageHead) → 65536 ≤ limit → FrontIsBounded limit front → HeadIsBounded proc
    → IsBounded limit (scope_of front proc)
scope_bounded limit front proc room f h = record {
  room = room;
  integers = omega (arith, f.integers);
  strings = omega (arith, f.strings);
  csets = omega (arith, f.csets);
  globals = omega (arith, f.globals);
  fields = omega (arith, f.fields, room);
  variables = omega (arith, h.variables, room);
  statics = omega (arith, h.statics, room);
  labels = h.instrs;
}

-- ---- heads

test_passed : {A : Type 0} (b : Bool) (d : Rule) (r : Result A Rule) (y : A) → cond b r (Err d) ≡ Ok y → (b ≡ true) × (r ≡ Ok y)
test_passed true d r y e = (refl, e)
test_passed false d r y e = absurd cc

pub record HeadsTaken (w : Width) (limit : ℕ) (front : FrontTables) (bytes : List ℕ) (x : List ImageHead × List ℕ) : Type 0 where
  pub took : Takes bytes (table w (head w) x.0) x.1
  pub few : length x.0 < limit
  pub within : length x.0 ≤ 16777216
  pub together : head_statics x.0 ≤ 4294967295
  pub have : list_all (λ g. has_proc (length x.0) g.start) front.globals ≡ true
  pub fit : list_all (head_fits (length front.strings)) x.0 ≡ true

pub heads_take : (w : Width) (limit : ℕ) → IsWide w limit → (front : FrontTables) → length front.strings ≤ limit → (bytes : List ℕ)
    (x : List ImageHead × List ℕ) → IsBytes bytes → heads_at w front bytes ≡ Ok x → HeadsTaken w limit front bytes x
unfolding heads_at have_procs count_at
heads_take w limit wide front few bytes x fits e =
    let c = bind_parts (count_at w 16777216 bytes) (λ n. cond (have_procs n.0 front.globals) (heads_from w (length front.strings) 0 n.0 n.1) (Err I4)) x e in
    let n = bind_parts (number_at w bytes) (λ n. cond (nat_le n.0 16777216) (Ok n) (Err I4)) c.0 c.1 in
    let within = passed_parts (nat_le n.0.0 16777216) I4 n.0 c.0 n.2 in
    let t = (number_reads w limit wide).takes bytes n.0 fits n.1 in
    let same : n.0 ≡ c.0 = within.1 in
    let g = test_passed (have_procs c.0.0 front.globals) I4 (heads_from w (length front.strings) 0 c.0.0 c.0.1) x c.2 in
    let u : Takes bytes (to_le_bytes w c.0.0) c.0.1 × (nat_lt c.0.0 limit ≡ true) × (nat_le c.0.0 16777216 ≡ true) =
    subst (λ (y : ℕ × List ℕ). Takes bytes (to_le_bytes w y.0) y.1 × (nat_lt y.0 limit ≡ true) × (nat_le y.0 16777216 ≡ true)) same (t.0, t.1, within.0) in
    let s = heads_from_take w limit wide (length front.strings) few 0 c.0.0 (omega arith) c.0.1 x u.0.rest_fits g.1 in
    let both = takes_then bytes (to_le_bytes w c.0.0) c.0.1 (flat_map (head w) x.0) x.1 u.0 s.took in
    record {
      took = rw s.count both;
      few = omega (arith, s.count, ltb-true _ _ u.1);
      within = omega (arith, s.count, leb-true _ _ u.2);
      together = omega (arith, s.together);
      have = rw s.count g.0;
      fit = s.fit;
    }

pub heads_again : (w : Width) (limit : ℕ) → IsWide w limit → (front : FrontTables) → length front.strings ≤ limit → (heads : List ImageHead) (rest : List ℕ)
    → length heads < limit → length heads ≤ 16777216 → head_statics heads ≤ 4294967295
    → list_all (λ g. has_proc (length heads) g.start) front.globals ≡ true
    → list_all (head_fits (length front.strings)) heads ≡ true → heads_at w front (table w (head w) heads ++ rest) ≡ Ok (heads, rest)
unfolding heads_at have_procs count_at
heads_again w limit wide front few heads rest few_heads within together have fit =
    ap (heads_at w front) (append_assoc (to_le_bytes w (length heads)) (flat_map (head w) heads) rest)
    ∙ (ap (λ s. (s >>= λ n. cond (nat_le n.0 16777216) (Ok n) (Err I4))
    >>= λ n. cond (have_procs n.0 front.globals) (heads_from w (length front.strings) 0 n.0 n.1) (Err I4))
    ((number_reads w limit wide).again (length heads) (flat_map (head w) heads ++ rest) (lt-ltb _ _ few_heads))
    ∙ (ap (λ s. s >>= λ n. cond (have_procs n.0 front.globals) (heads_from w (length front.strings) 0 n.0 n.1) (Err I4))
    (cond-true (nat_le (length heads) 16777216) (Ok (length heads, flat_map (head w) heads ++ rest)) (Err I4) (le-leb _ _ within))
    ∙ (cond-true (have_procs (length heads) front.globals) (heads_from w (length front.strings) 0 (length heads) (flat_map (head w) heads ++ rest)) (Err I4) have
    ∙ heads_from_again w limit wide (length front.strings) few 0 heads rest fit (omega (arith, together)))))

-- ---- bodies

-- the instructions of a procedure name what is there
abbrev pub body_fits : ℕ → FrontTables → Proc → Bool
body_fits limit front proc = list_all (names_below limit (scope_of front (head_of proc))) proc.instrs

proc_takes : (w : Width) (limit : ℕ) → IsWide w limit → (front : FrontTables) → FrontIsBounded limit front → (proc : ImageHead) → HeadIsBounded proc
    → (bytes : List ℕ) (x : Proc × List ℕ) → IsBytes bytes → proc_at w front proc bytes ≡ Ok x
    → Takes bytes (body w x.0) x.1 × (head_of x.0 ≡ proc) × (body_fits limit front x.0 ≡ true)
unfolding proc_at
proc_takes w limit wide front bounded proc short bytes x fits e =
    let a = bind_parts (times (instr_at w (scope_of front proc)) proc.instrs bytes) (λ instrs. Ok (with_instrs proc instrs.0, instrs.1)) x e in
    let s = times_takes Instr (instr_at w (scope_of front proc)) (instruction w) (names_below limit (scope_of front proc))
    (instr_reads w limit wide (scope_of front proc) (scope_bounded limit front proc wide.room bounded short)) proc.instrs bytes a.0 fits a.1 in
    let same : head_of (with_instrs proc a.0.0) ≡ proc = ap (λ (n : ℕ). record proc { instrs = n }) s.1 in
    subst (λ (y : Proc × List ℕ). Takes bytes (body w y.0) y.1 × (head_of y.0 ≡ proc) × (body_fits limit front y.0 ≡ true))
    (done_injective (with_instrs proc a.0.0, a.0.1) x a.2)
    (s.0, same, subst (λ (h : ImageHead). list_all (names_below limit (scope_of front h)) a.0.0 ≡ true) (sym same) s.2)

proc_again : (w : Width) (limit : ℕ) → IsWide w limit → (front : FrontTables) → FrontIsBounded limit front → (proc : Proc) → HeadIsBounded (head_of proc) → (rest : List ℕ)
    → body_fits limit front proc ≡ true → proc_at w front (head_of proc) (body w proc ++ rest) ≡ Ok (proc, rest)
unfolding proc_at
proc_again w limit wide front bounded proc short rest fit =
    ap (λ s. s >>= λ instrs. Ok (with_instrs (head_of proc) instrs.0, instrs.1))
    (times_again Instr (instr_at w (scope_of front (head_of proc))) (instruction w) (names_below limit (scope_of front (head_of proc)))
    (instr_reads w limit wide (scope_of front (head_of proc)) (scope_bounded limit front (head_of proc) wide.room bounded short)) proc.instrs rest fit)

pub record ProcsTaken (w : Width) (limit : ℕ) (front : FrontTables) (heads : List ImageHead) (bytes : List ℕ) (x : List Proc × List ℕ) : Type 0 where
  pub took : Takes bytes (flat_map (body w) x.0) x.1
  pub same : map head_of x.0 ≡ heads
  pub fit : list_all (body_fits limit front) x.0 ≡ true

pub procs_take : (w : Width) (limit : ℕ) → IsWide w limit → (front : FrontTables) → FrontIsBounded limit front → (heads : List ImageHead)
    → list_all (head_fits (length front.strings)) heads ≡ true → (bytes : List ℕ) (x : List Proc × List ℕ) → IsBytes bytes → procs_at w front heads bytes ≡ Ok x
    → ProcsTaken w limit front heads bytes x
unfolding procs_at
procs_take w limit wide front bounded [] fit bytes x fits e =
    subst (λ (y : List Proc × List ℕ). ProcsTaken w limit front [] bytes y) (done_injective ([], bytes) x e)
    (record { took = record { parts = refl; rest_fits = fits }; same = refl; fit = refl })
procs_take w limit wide front bounded (proc ∷ heads) fit bytes x fits e =
    let p = and_parts (head_fits (length front.strings) proc) (list_all (head_fits (length front.strings)) heads) fit in
    let a = bind_parts (proc_at w front proc bytes) (λ first. procs_at w front heads first.1 >>= λ others. Ok (first.0 ∷ others.0, others.1)) x e in
    let b = bind_parts (procs_at w front heads a.0.1) (λ others. Ok (a.0.0 ∷ others.0, others.1)) x a.2 in
    let first = proc_takes w limit wide front bounded proc (head_bounded (length front.strings) proc p.0) bytes a.0 fits a.1 in
    let second = procs_take w limit wide front bounded heads p.1 a.0.1 b.0 first.0.rest_fits b.1 in
    let both = takes_then bytes (body w a.0.0) a.0.1 (flat_map (body w) b.0.0) b.0.1 first.0 second.took in
    subst (λ (y : List Proc × List ℕ). ProcsTaken w limit front (proc ∷ heads) bytes y) (done_injective (a.0.0 ∷ b.0.0, b.0.1) x b.2)
    (record {
      took = rw flat_map-cons both;
      same = ap (λ (h : ImageHead). h ∷ map head_of b.0.0) first.1 ∙ ap (λ (hs : List ImageHead). proc ∷ hs) second.same;
      fit = and_from (body_fits limit front a.0.0) (list_all (body_fits limit front) b.0.0) first.2 second.fit;
    })

pub procs_again : (w : Width) (limit : ℕ) → IsWide w limit → (front : FrontTables) → FrontIsBounded limit front → (procs : List Proc) (rest : List ℕ)
    → list_all (head_fits (length front.strings)) (map head_of procs) ≡ true → list_all (body_fits limit front) procs ≡ true
    → procs_at w front (map head_of procs) (flat_map (body w) procs ++ rest) ≡ Ok (procs, rest)
unfolding procs_at
procs_again w limit wide front bounded [] rest heads fit = refl
procs_again w limit wide front bounded (proc ∷ procs) rest heads fit =
    let p = and_parts (head_fits (length front.strings) (head_of proc)) (list_all (head_fits (length front.strings)) (map head_of procs)) heads in
    let q = and_parts (body_fits limit front proc) (list_all (body_fits limit front) procs) fit in
    let regrouped : flat_map (body w) (proc ∷ procs) ++ rest ≡ body w proc ++ (flat_map (body w) procs ++ rest) = ap (λ (t : List ℕ). t ++ rest)
    (flat_map-cons (body w) proc procs) ∙ append_assoc (body w proc) (flat_map (body w) procs) rest in
    ap (procs_at w front (map head_of (proc ∷ procs))) regrouped
    ∙ (ap (λ s. s >>= λ first. procs_at w front (map head_of procs) first.1 >>= λ others. Ok (first.0 ∷ others.0, others.1))
    (proc_again w limit wide front bounded proc (head_bounded (length front.strings) (head_of proc) p.0) (flat_map (body w) procs ++ rest) q.0)
    ∙ ap (λ s. s >>= λ others. Ok (proc ∷ others.0, others.1)) (procs_again w limit wide front bounded procs rest p.1 q.1))
