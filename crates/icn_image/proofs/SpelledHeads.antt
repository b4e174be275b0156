-- Heads of procedures: what is read is spelled so, and what is spelled so is read again.
use Rattle.std.proofs.Common.{◌≡◌, ℕ, zero, suc, ◌+◌, ◌^◌, ◌<◌, ◌≤◌, Bool, true, false, not, cond, eqb, ◌&&◌, ◌||◌, List, [], ◌∷◌, ◌++◌, length, Ok, Err, refl, ap, subst, ◌∙◌, append_assoc, arith}
use Rattle.std.specs.Prelude.{nat_lt, nat_le}
use Rattle.std.specs.List.{flat_map, list_all, sum_by}
use Rattle.std.specs.Int.{Width, w32, to_le_bytes}
use Rattle.std.proofs.lemmas.List.Concat.{flat_map-cons}
use Rattle.std.proofs.lemmas.List.Sums.{sum_by-cons}
use Rattle.std.proofs.lemmas.Bool.{ltb-true, lt-ltb, leb-true, le-leb, and_parts, and_from, eqb-true, cond-true}
use Rattle.icn_tree.specs.declared.rule.Rule.TheVariants.{I3, I4}
use Rattle.icn_image.specs.declared.head.ImageHead.{ImageHead}
use Rattle.icn_image.specs.Readers.{◌>>=◌, number_at, count_at, index_at}
use Rattle.icn_image.specs.Reading.{collects_at, locals_at, statics_at, head_at, heads_from}
use Rattle.icn_image.specs.Spelling.{flag, head}
use Rattle.icn_image.proofs.SpelledFields.{IsBytes, IsBytes-rest, bind_parts, done, done_injective, passed_parts, Takes, takes_then, IsWide, wide32, number_reads, count_reads, place_reads}

-- ---- whether a parameter collects

may_collect : ℕ → Bool → Bool
may_collect parameters collects = not collects || nat_lt 0 parameters

flag_takes : (parameters f : ℕ) (bytes : List ℕ) (x : Bool × List ℕ) (t u : Bool) → IsBytes (f ∷ bytes) → eqb f 0 ≡ t → (eqb f 1 && nat_lt 0 parameters) ≡ u
    → cond t (Ok (false, bytes)) (cond u (Ok (true, bytes)) (Err I3)) ≡ Ok x
    → Takes (f ∷ bytes) (flag x.0 ∷ []) x.1 × (may_collect parameters x.0 ≡ true)
unfolding may_collect
flag_takes parameters f bytes x true u fits at_0 at_1 e =
    subst (λ (y : Bool × List ℕ). Takes (f ∷ bytes) (flag y.0 ∷ []) y.1 × (may_collect parameters y.0 ≡ true)) (done_injective (false, bytes) x e)
    (record { parts = ap (λ (k : ℕ). k ∷ bytes) (eqb-true f 0 at_0); rest_fits = IsBytes-rest f bytes fits }, refl)
flag_takes parameters f bytes x false true fits at_0 at_1 e =
    let p = and_parts (eqb f 1) (nat_lt 0 parameters) at_1 in
    subst (λ (y : Bool × List ℕ). Takes (f ∷ bytes) (flag y.0 ∷ []) y.1 × (may_collect parameters y.0 ≡ true)) (done_injective (true, bytes) x e)
    (record { parts = ap (λ (k : ℕ). k ∷ bytes) (eqb-true f 1 p.0); rest_fits = IsBytes-rest f bytes fits }, p.1)
flag_takes parameters f bytes x false false fits at_0 at_1 e = absurd cc

collects_takes : (parameters : ℕ) (bytes : List ℕ) (x : Bool × List ℕ) → IsBytes bytes → collects_at parameters bytes ≡ Ok x
    → Takes bytes (flag x.0 ∷ []) x.1 × (may_collect parameters x.0 ≡ true)
unfolding collects_at
collects_takes parameters [] x fits e = absurd cc
collects_takes parameters (f ∷ bytes) x fits e = flag_takes parameters f bytes x (eqb f 0) (eqb f 1 && nat_lt 0 parameters) fits refl refl e

collects_again : (parameters : ℕ) (collects : Bool) (rest : List ℕ) → may_collect parameters collects ≡ true
    → collects_at parameters (flag collects ∷ rest) ≡ Ok (collects, rest)
unfolding collects_at may_collect
collects_again parameters false rest may = refl
collects_again parameters true rest may = cond-true (nat_lt 0 parameters) (Ok (true, rest)) (Err I3) may

-- ---- the other locals

locals_takes : (w : Width) (limit : ℕ) → IsWide w limit → (parameters : ℕ) (bytes : List ℕ) (x : ℕ × List ℕ) → IsBytes bytes → locals_at w parameters bytes ≡ Ok x
    → Takes bytes (to_le_bytes w x.0) x.1 × (nat_le (parameters + x.0) 65535 ≡ true)
unfolding locals_at
locals_takes w limit wide parameters bytes x fits e =
    let a = bind_parts (number_at w bytes) (λ n. cond (nat_le (parameters + n.0) 65535) (Ok n) (Err I4)) x e in
    let t = (number_reads w limit wide).takes bytes a.0 fits a.1 in
    let g = passed_parts (nat_le (parameters + a.0.0) 65535) I4 a.0 x a.2 in
    subst (λ (y : ℕ × List ℕ). Takes bytes (to_le_bytes w y.0) y.1 × (nat_le (parameters + y.0) 65535 ≡ true)) g.1 (t.0, g.0)

locals_again : (w : Width) (limit : ℕ) → IsWide w limit → (parameters locals : ℕ) (rest : List ℕ) → nat_le (parameters + locals) 65535 ≡ true
    → locals_at w parameters (to_le_bytes w locals ++ rest) ≡ Ok (locals, rest)
unfolding locals_at
locals_again w limit wide parameters locals rest few =
    ap (λ r. r >>= λ n. cond (nat_le (parameters + n.0) 65535) (Ok n) (Err I4))
    ((number_reads w limit wide).again locals rest (lt-ltb _ _ (omega (arith, leb-true (parameters + locals) 65535 few, wide.room))))
    ∙ cond-true (nat_le (parameters + locals) 65535) (Ok (locals, rest)) (Err I4) few

-- ---- the statics

statics_takes : (w : Width) (limit : ℕ) → IsWide w limit → (before : ℕ) (bytes : List ℕ) (x : ℕ × List ℕ) → IsBytes bytes → statics_at w before bytes ≡ Ok x
    → Takes bytes (to_le_bytes w x.0) x.1 × (nat_le x.0 65535 ≡ true) × (nat_le (before + x.0) 4294967295 ≡ true)
unfolding statics_at
statics_takes w limit wide before bytes x fits e =
    let a = bind_parts (count_at w 65535 bytes) (λ n. cond (nat_le (before + n.0) 4294967295) (Ok n) (Err I4)) x e in
    let t = (count_reads w limit wide 65535 (omega (arith, wide.room))).takes bytes a.0 fits a.1 in
    let g = passed_parts (nat_le (before + a.0.0) 4294967295) I4 a.0 x a.2 in
    subst (λ (y : ℕ × List ℕ). Takes bytes (to_le_bytes w y.0) y.1 × (nat_le y.0 65535 ≡ true) × (nat_le (before + y.0) 4294967295 ≡ true)) g.1 (t.0, t.1, g.0)

statics_again : (w : Width) (limit : ℕ) → IsWide w limit → (before statics : ℕ) (rest : List ℕ) → nat_le statics 65535 ≡ true
    → nat_le (before + statics) 4294967295 ≡ true → statics_at w before (to_le_bytes w statics ++ rest) ≡ Ok (statics, rest)
unfolding statics_at
statics_again w limit wide before statics rest few within =
    ap (λ r. r >>= λ n. cond (nat_le (before + n.0) 4294967295) (Ok n) (Err I4))
    ((count_reads w limit wide 65535 (omega (arith, wide.room))).again statics rest few)
    ∙ cond-true (nat_le (before + statics) 4294967295) (Ok (statics, rest)) (Err I4) within

-- ---- heads

abbrev pub head_fits : ℕ → ImageHead → Bool
head_fits strings proc =
    nat_lt proc.name strings && (not proc.collects || nat_lt 0 proc.parameters) && nat_le (proc.parameters + proc.locals) 65535 && nat_le proc.statics 65535
    && nat_lt proc.instrs (2 ^ 32)

head_parts : (strings : ℕ) (proc : ImageHead) → head_fits strings proc ≡ true
    → (nat_lt proc.name strings ≡ true) × (may_collect proc.parameters proc.collects ≡ true) × (nat_le (proc.parameters + proc.locals) 65535 ≡ true)
    × (nat_le proc.statics 65535 ≡ true) × (nat_lt proc.instrs (2 ^ 32) ≡ true)
unfolding may_collect
head_parts strings proc fit =
    let a = and_parts (nat_lt proc.name strings && (not proc.collects || nat_lt 0 proc.parameters) && nat_le (proc.parameters + proc.locals) 65535
    && nat_le proc.statics 65535) (nat_lt proc.instrs (2 ^ 32)) fit in
    let b = and_parts (nat_lt proc.name strings && (not proc.collects || nat_lt 0 proc.parameters) && nat_le (proc.parameters + proc.locals) 65535)
    (nat_le proc.statics 65535) a.0 in
    let c = and_parts (nat_lt proc.name strings && (not proc.collects || nat_lt 0 proc.parameters)) (nat_le (proc.parameters + proc.locals) 65535) b.0 in
    let d = and_parts (nat_lt proc.name strings) (not proc.collects || nat_lt 0 proc.parameters) c.0 in
    (d.0, d.1, c.1, b.1, a.1)

head_joined : (strings : ℕ) (proc : ImageHead) → nat_lt proc.name strings ≡ true → may_collect proc.parameters proc.collects ≡ true
    → nat_le (proc.parameters + proc.locals) 65535 ≡ true → nat_le proc.statics 65535 ≡ true → nat_lt proc.instrs (2 ^ 32) ≡ true → head_fits strings proc ≡ true
unfolding may_collect
head_joined strings proc name collects locals statics instrs =
    and_from (nat_lt proc.name strings && (not proc.collects || nat_lt 0 proc.parameters) && nat_le (proc.parameters + proc.locals) 65535 && nat_le proc.statics 65535)
    (nat_lt proc.instrs (2 ^ 32))
    (and_from (nat_lt proc.name strings && (not proc.collects || nat_lt 0 proc.parameters) && nat_le (proc.parameters + proc.locals) 65535) (nat_le proc.statics 65535)
    (and_from (nat_lt proc.name strings && (not proc.collects || nat_lt 0 proc.parameters)) (nat_le (proc.parameters + proc.locals) 65535)
    (and_from (nat_lt proc.name strings) (not proc.collects || nat_lt 0 proc.parameters) name collects) locals) statics) instrs

-- within its bounds
pub record HeadIsBounded (proc : ImageHead) : Type 0 where
  pub variables : proc.parameters + proc.locals ≤ 65535
  pub statics : proc.statics ≤ 65535
  pub instrs : proc.instrs < 2 ^ 32

pub head_bounded : (strings : ℕ) (proc : ImageHead) → head_fits strings proc ≡ true → HeadIsBounded proc
head_bounded strings proc fit =
    let p = head_parts strings proc fit in
    record { variables = leb-true _ _ p.2; statics = leb-true _ _ p.3; instrs = ltb-true _ _ p.4 }

head_whole : (w : Width) (before strings name parameters : ℕ) (collects : Bool) (locals statics instrs : ℕ) (bytes a b c d f g : List ℕ) (x : ImageHead × List ℕ)
    → Takes bytes (to_le_bytes w name) a → Takes a (to_le_bytes w parameters) b → Takes b (flag collects ∷ []) c
    → Takes c (to_le_bytes w locals) d → Takes d (to_le_bytes w statics) f → Takes f (to_le_bytes w32 instrs) g → nat_lt name strings ≡ true
    → may_collect parameters collects ≡ true → nat_le (parameters + locals) 65535 ≡ true → nat_le statics 65535 ≡ true → nat_lt instrs (2 ^ 32) ≡ true
    → nat_le (before + statics) 4294967295 ≡ true
    → done (record { name = name; parameters = parameters; collects = collects; locals = locals; statics = statics; instrs = instrs }, g) ≡ Ok x
    → Takes bytes (head w x.0) x.1 × (head_fits strings x.0 ≡ true) × (nat_le (before + x.0.statics) 4294967295 ≡ true)
head_whole w before strings name parameters collects locals statics instrs bytes a b c d f g x ta tb tc td tf tg fit_name fit_collects fit_locals fit_statics
    fit_instrs within e =
    let made : ImageHead = record { name = name; parameters = parameters; collects = collects; locals = locals; statics = statics; instrs = instrs } in
    let efg = takes_then d (to_le_bytes w statics) f (to_le_bytes w32 instrs) g tf tg in
    let edg = takes_then c (to_le_bytes w locals) d (to_le_bytes w statics ++ to_le_bytes w32 instrs) g td efg in
    let ecg = takes_then b (flag collects ∷ []) c (to_le_bytes w locals ++ (to_le_bytes w statics ++ to_le_bytes w32 instrs)) g tc edg in
    let ebg = takes_then a (to_le_bytes w parameters) b
    (flag collects ∷ (to_le_bytes w locals ++ (to_le_bytes w statics ++ to_le_bytes w32 instrs))) g tb ecg in
    let eag = takes_then bytes (to_le_bytes w name) a
    (to_le_bytes w parameters ++ (flag collects ∷ (to_le_bytes w locals ++ (to_le_bytes w statics ++ to_le_bytes w32 instrs)))) g ta ebg in
    subst (λ (y : ImageHead × List ℕ). Takes bytes (head w y.0) y.1 × (head_fits strings y.0 ≡ true) × (nat_le (before + y.0.statics) 4294967295 ≡ true))
    (done_injective (made, g) x e) (eag, head_joined strings made fit_name fit_collects fit_locals fit_statics fit_instrs, within)

head_takes : (w : Width) (limit : ℕ) → IsWide w limit → (strings : ℕ) → strings ≤ limit → (before : ℕ) (bytes : List ℕ) (x : ImageHead × List ℕ) → IsBytes bytes
    → head_at w strings before bytes ≡ Ok x
    → Takes bytes (head w x.0) x.1 × (head_fits strings x.0 ≡ true) × (nat_le (before + x.0.statics) 4294967295 ≡ true)
unfolding head_at
head_takes w limit wide strings few before bytes x fits e =
    let a = bind_parts (index_at w strings bytes) (λ name. number_at w name.1 >>= λ parameters. collects_at parameters.0 parameters.1
    >>= λ collects. locals_at w parameters.0 collects.1 >>= λ locals. statics_at w before locals.1 >>= λ statics. number_at w32 statics.1 >>= λ instrs.
    Ok (record { name = name.0; parameters = parameters.0; collects = collects.0; locals = locals.0; statics = statics.0; instrs = instrs.0 }, instrs.1)) x e in
    let b = bind_parts (number_at w a.0.1) (λ parameters. collects_at parameters.0 parameters.1
    >>= λ collects. locals_at w parameters.0 collects.1 >>= λ locals. statics_at w before locals.1 >>= λ statics. number_at w32 statics.1 >>= λ instrs. Ok
    (record { name = a.0.0; parameters = parameters.0; collects = collects.0; locals = locals.0; statics = statics.0; instrs = instrs.0 }, instrs.1)) x a.2 in
    let c = bind_parts (collects_at b.0.0 b.0.1)
    (λ collects. locals_at w b.0.0 collects.1 >>= λ locals. statics_at w before locals.1 >>= λ statics. number_at w32 statics.1 >>= λ instrs.
    Ok (record { name = a.0.0; parameters = b.0.0; collects = collects.0; locals = locals.0; statics = statics.0; instrs = instrs.0 }, instrs.1)) x b.2 in
    let d = bind_parts (locals_at w b.0.0 c.0.1) (λ locals. statics_at w before locals.1 >>= λ statics. number_at w32 statics.1 >>= λ instrs.
    Ok (record { name = a.0.0; parameters = b.0.0; collects = c.0.0; locals = locals.0; statics = statics.0; instrs = instrs.0 }, instrs.1)) x c.2 in
    let f = bind_parts (statics_at w before d.0.1) (λ statics. number_at w32 statics.1
    >>= λ instrs. Ok (record { name = a.0.0; parameters = b.0.0; collects = c.0.0; locals = d.0.0; statics = statics.0; instrs = instrs.0 }, instrs.1)) x d.2 in
    let g = bind_parts (number_at w32 f.0.1)
    (λ instrs. Ok (record { name = a.0.0; parameters = b.0.0; collects = c.0.0; locals = d.0.0; statics = f.0.0; instrs = instrs.0 }, instrs.1)) x f.2 in
    let ta = (place_reads w limit wide strings few).takes bytes a.0 fits a.1 in
    let tb = (number_reads w limit wide).takes a.0.1 b.0 ta.0.rest_fits b.1 in
    let tc = collects_takes b.0.0 b.0.1 c.0 tb.0.rest_fits c.1 in
    let td = locals_takes w limit wide b.0.0 c.0.1 d.0 tc.0.rest_fits d.1 in
    let tf = statics_takes w limit wide before d.0.1 f.0 td.0.rest_fits f.1 in
    let tg = (number_reads w32 (2 ^ 32) wide32).takes f.0.1 g.0 tf.0.rest_fits g.1 in
    head_whole w before strings a.0.0 b.0.0 c.0.0 d.0.0 f.0.0 g.0.0 bytes a.0.1 b.0.1 c.0.1 d.0.1 f.0.1 g.0.1 x ta.0 tb.0 tc.0 td.0 tf.0 tg.0 ta.1 tc.1 td.1
    tf.1 tg.1 tf.2 g.2

head_again : (w : Width) (limit : ℕ) → IsWide w limit → (strings : ℕ) → strings ≤ limit → (before : ℕ) (proc : ImageHead) (rest : List ℕ) → head_fits strings proc ≡ true
    → nat_le (before + proc.statics) 4294967295 ≡ true → head_at w strings before (head w proc ++ rest) ≡ Ok (proc, rest)
unfolding head_at
head_again w limit wide strings few before proc rest fit within =
    let p = head_parts strings proc fit in
    let few_parameters : nat_lt proc.parameters limit ≡ true = lt-ltb _ _ (omega (arith, leb-true (proc.parameters + proc.locals) 65535 p.2, wide.room)) in
    let f : List ℕ = to_le_bytes w32 proc.instrs ++ rest in
    let d : List ℕ = to_le_bytes w proc.statics ++ f in
    let c : List ℕ = to_le_bytes w proc.locals ++ d in
    let b : List ℕ = flag proc.collects ∷ c in
    let a : List ℕ = to_le_bytes w proc.parameters ++ b in
    let regrouped : head w proc ++ rest ≡ to_le_bytes w proc.name ++ a = simp append_assoc in
    ap (head_at w strings before) regrouped ∙ rw (
      (place_reads w limit wide strings few).again proc.name a p.0,
      (number_reads w limit wide).again proc.parameters b few_parameters,
      collects_again proc.parameters proc.collects c p.1,
      locals_again w limit wide proc.parameters proc.locals d p.2,
      statics_again w limit wide before proc.statics f p.3 within,
      (number_reads w32 (2 ^ 32) wide32).again proc.instrs rest p.4,
    ) refl

-- ---- the heads of all procedures

-- how many statics the procedures of these heads have together
abbrev pub head_statics : List ImageHead → ℕ
head_statics heads = sum_by (λ head. head.statics) heads

pub record HeadsRead (w : Width) (strings before n : ℕ) (bytes : List ℕ) (x : List ImageHead × List ℕ) : Type 0 where
  pub took : Takes bytes (flat_map (head w) x.0) x.1
  pub count : length x.0 ≡ n
  pub fit : list_all (head_fits strings) x.0 ≡ true
  pub together : before + head_statics x.0 ≤ 4294967295

pub heads_from_take : (w : Width) (limit : ℕ) → IsWide w limit → (strings : ℕ) → strings ≤ limit → (before n : ℕ) → before ≤ 4294967295
    → (bytes : List ℕ) (x : List ImageHead × List ℕ) → IsBytes bytes → heads_from w strings before n bytes ≡ Ok x → HeadsRead w strings before n bytes x
unfolding heads_from
heads_from_take w limit wide strings few before zero within bytes x fits e =
    subst (λ (y : List ImageHead × List ℕ). HeadsRead w strings before 0 bytes y) (done_injective ([], bytes) x e)
    (record { took = record { parts = refl; rest_fits = fits }; count = refl; fit = refl; together = omega (arith, within) })
heads_from_take w limit wide strings few before (suc n) within bytes x fits e =
    let a = bind_parts (head_at w strings before bytes)
    (λ first. heads_from w strings (before + first.0.statics) n first.1 >>= λ others. Ok (first.0 ∷ others.0, others.1)) x e in
    let b = bind_parts (heads_from w strings (before + a.0.0.statics) n a.0.1) (λ others. Ok (a.0.0 ∷ others.0, others.1)) x a.2 in
    let first = head_takes w limit wide strings few before bytes a.0 fits a.1 in
    let second = heads_from_take w limit wide strings few (before + a.0.0.statics) n (leb-true _ _ first.2) a.0.1 b.0 first.0.rest_fits b.1 in
    let both = takes_then bytes (head w a.0.0) a.0.1 (flat_map (head w) b.0.0) b.0.1 first.0 second.took in
    subst (λ (y : List ImageHead × List ℕ). HeadsRead w strings before (suc n) bytes y) (done_injective (a.0.0 ∷ b.0.0, b.0.1) x b.2)
    (record {
      took = rw flat_map-cons both;
      count = ap suc second.count;
      fit = and_from (head_fits strings a.0.0) (list_all (head_fits strings) b.0.0) first.1 second.fit;
      together = omega (arith, second.together, sum_by-cons (λ (h : ImageHead). h.statics) a.0.0 b.0.0);
    })

pub heads_from_again : (w : Width) (limit : ℕ) → IsWide w limit → (strings : ℕ) → strings ≤ limit → (before : ℕ) (heads : List ImageHead) (rest : List ℕ)
    → list_all (head_fits strings) heads ≡ true → before + head_statics heads ≤ 4294967295
    → heads_from w strings before (length heads) (flat_map (head w) heads ++ rest) ≡ Ok (heads, rest)
unfolding heads_from
heads_from_again w limit wide strings few before [] rest fit together = refl
heads_from_again w limit wide strings few before (proc ∷ heads) rest fit together =
    let p = and_parts (head_fits strings proc) (list_all (head_fits strings) heads) fit in
    let sum : head_statics (proc ∷ heads) ≡ proc.statics + head_statics heads = sum_by-cons (λ (h : ImageHead). h.statics) proc heads in
    let within : nat_le (before + proc.statics) 4294967295 ≡ true = le-leb _ _ (omega (arith, together, sum)) in
    let regrouped : flat_map (head w) (proc ∷ heads) ++ rest ≡ head w proc ++ (flat_map (head w) heads ++ rest) = ap (λ (t : List ℕ). t ++ rest)
    (flat_map-cons (head w) proc heads) ∙ append_assoc (head w proc) (flat_map (head w) heads) rest in
    ap (heads_from w strings before (suc (length heads))) regrouped
    ∙ (ap (λ s. s >>= λ first. heads_from w strings (before + first.0.statics) (length heads) first.1 >>= λ others. Ok (first.0 ∷ others.0, others.1))
    (head_again w limit wide strings few before proc (flat_map (head w) heads ++ rest) p.0 within)
    ∙ ap (λ s. s >>= λ others. Ok (proc ∷ others.0, others.1))
    (heads_from_again w limit wide strings few (before + proc.statics) heads rest p.1 (omega (arith, together, sum))))
