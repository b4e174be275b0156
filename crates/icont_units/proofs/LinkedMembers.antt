-- The members that are linked, one more at a time.
use Rattle.std.proofs.Common.{◌≡◌, ◌≤◌, ◌<◌, ◌⊎◌, inl, inr, ℕ, zero, suc, ◌+◌, Bool, true, false, List, [], ◌∷◌, ◌++◌, length, map, take, drop, get_or, Some, Result, Ok, Err, OnOk, IfErr, refl, sym, ap, subst, ◌∙◌, append_assoc, append-nil, le_refl, le_trans, arith}
use Rattle.std.specs.Prelude.{IsErrAnd, Vec}
use Rattle.std.specs.List.{flat_map, list_any}
use Rattle.std.specs.Str.{bytes_eq, is_utf8}
use Rattle.std.proofs.lemmas.Grind.{flat_map-append}
use Rattle.std.proofs.lemmas.List.{length-map, map-append, take-append-drop, take_more}
use Rattle.icn_host.specs.Counts.{HasCause}
use Rattle.icn_host.specs.FileMaps.{FileMap}
use Rattle.icn_unit.specs.declared.unit.Unit.{Unit as HeldUnit}
use Rattle.icn_unit.specs.declared.unit.UnitDecl.{UnitDecl}
use Rattle.icn_unit.specs.PlainUnits.{UnitRead}
use Rattle.icn_unit.specs.UnitViews.{decl_seen}
use Rattle.icn_link.specs.declared.fault.LinkFault.TheVariants.{K2}
use Rattle.icn_link.specs.FirstMentions.{with_text, with_texts}
use Rattle.icn_link.specs.LinkFaults.{missing_unit, unit_names}
use Rattle.icn_link.specs.Units.{unit_seen, units_seen}
use Rattle.icn_answer.specs.declared.answer.Answer.{Answer}
use Rattle.icn_answer.specs.declared.answer.Answer.TheVariants.{NoMemory}
use Rattle.icn_answer.specs.Answers.{IsFault}
use Rattle.icont_units.specs.declared.members.Members.{Members}
use Rattle.icont_units.specs.FetchedFiles.{HeldAre}
use Rattle.icont_units.specs.Loading.{Adds, AreSought, MembersGrow, IsGathered, IsMissed, IsSought, Knows, RefusesBases, HoldsMembers, kept_units, links_at, texts_in, with_ucode, with_units}
use Rattle.icont_units.specs.Units.{AreJudged, FromUcode, Gather, all as gather_all, known as gather_known, absent as gather_absent, refused as gather_refused, read as gather_read, IsAbsent, Member, is_there, link_in, links_in, links_of}
use Rattle.icont_units.proofs.KnownBases.{first_linked, is_known, knows_lost, knows_unit, knows_units, knows_weaker, missed_later, rose_now, texts_behind, with_both, with_known, with_new}
use Rattle.icont_units.proofs.NamedMembers.{ucode_added}

abbrev units_in : Members → List UnitRead
units_in held = units_seen held.units.items

-- Lists

moved : {files : FileMap} {result : Result (List Member) Answer} (a b : List Member) (ms ns : List (List ℕ)) → a ≡ b
    → ms ≡ ns → Gather files a ms result → Gather files b ns result
moved {files} {result} a b ms ns e f h = subst (λ members. Gather files members ns result) e
    (subst (λ mentioned. Gather files a mentioned result) f h)

with_both_units : (members : List Member) (a b : List UnitRead)
    → with_units (with_units members a) b ≡ with_units members (a ++ b)
with_both_units members a b =
    append_assoc members (map (λ unit. FromUcode unit) a) (map (λ unit. FromUcode unit) b)
    ∙ ap (λ more. members ++ more) (sym (map-append (λ unit. FromUcode unit) a b))

one_linked : (unit : UnitRead) → flat_map links_of (unit ∷ []) ≡ links_of unit
one_linked unit = append-nil (links_of unit)

-- Nothing was looked for

pub grows_none : (now : ℕ) (held : Members) (bases : List (List ℕ)) → MembersGrow now now held held bases bases []
grows_none now held bases = record {
  later = le_refl now;
  added = [];
  units = sym (append-nil (units_in held));
  stands = λ before s. subst (λ members. HoldsMembers held members) (sym (append-nil before)) s;
  known = refl;
  missed = λ start l k. k;
}

-- One after the other

pub adds_then : (files : FileMap) (old mid new : Members) (a b : List (List ℕ)) → Adds files old mid a
    → Adds files mid new b → Adds files old new (a ++ b)
adds_then files old mid new a b x y = record {
  added = x.added ++ y.added;
  units = y.units ∙ (ap (λ units. units ++ y.added) x.units ∙ append_assoc (units_in old) x.added y.added);
  stands = λ before s. subst (λ members. HoldsMembers new members) (with_both_units before x.added y.added)
      (y.stands (with_units before x.added) (x.stands before s));
  gathers = gathers;
} where
  gathers : (before : List Member) (rest : List (List ℕ)) (result : Result (List Member) Answer) → HoldsMembers old before
      → Gather files (with_units before (x.added ++ y.added)) (rest ++ flat_map links_of (x.added ++ y.added))
      result → Gather files before ((a ++ b) ++ rest) result
  gathers before rest result s h =
      let last = moved (with_units before (x.added ++ y.added)) (with_units (with_units before x.added) y.added)
      (rest ++ flat_map links_of (x.added ++ y.added)) ((rest ++ flat_map links_of x.added) ++ flat_map links_of y.added)
      (sym (with_both_units before x.added y.added))
      (ap (λ more. rest ++ more) (flat_map-append links_of x.added y.added)
      ∙ sym (append_assoc rest (flat_map links_of x.added) (flat_map links_of y.added))) h in
      let second = y.gathers (with_units before x.added) (rest ++ flat_map links_of x.added) result (x.stands before s) last in
      let first = moved (with_units before x.added) (with_units before x.added)
      (b ++ (rest ++ flat_map links_of x.added)) ((b ++ rest) ++ flat_map links_of x.added) refl
      (sym (append_assoc b rest (flat_map links_of x.added))) second in
      moved before before (a ++ (b ++ rest)) ((a ++ b) ++ rest) refl (sym (append_assoc a b rest))
      (x.gathers before (b ++ rest) result s first)

pub grows_then : (before between now : ℕ) (old mid new : Members) (k l m a b : List (List ℕ))
    → MembersGrow before between old mid k l a → MembersGrow between now mid new l m b
    → MembersGrow before now old new k m (a ++ b)
grows_then before between now old mid new k l m a b x y = record {
  later = le_trans x.later y.later;
  added = x.added ++ y.added;
  units = y.units ∙ (ap (λ units. units ++ y.added) x.units ∙ append_assoc (units_in old) x.added y.added);
  stands = λ members s. subst (λ all. HoldsMembers new all) (with_both_units members x.added y.added)
      (y.stands (with_units members x.added) (x.stands members s));
  known = y.known ∙ (ap (λ bases. with_texts bases b) x.known ∙ with_both k a b);
  missed = λ start h begun. y.missed start (le_trans h x.later) (x.missed start h begun);
}

pub refused_first : (files : FileMap) (old : Members) (a b : List (List ℕ)) (answer : Answer)
    → IsFault answer ⊎ RefusesBases files old a answer
    → IsFault answer ⊎ RefusesBases files old (a ++ b) answer
refused_first files old a b answer (inl fault) = inl fault
refused_first files old a b answer (inr x) = inr (record {
  gathers = λ before rest s. moved before before (a ++ (b ++ rest)) ((a ++ b) ++ rest) refl
      (sym (append_assoc a b rest)) (x.gathers before (b ++ rest) s);
})

pub refused_then : (files : FileMap) (old mid : Members) (a b : List (List ℕ)) (answer : Answer)
    → Adds files old mid a → IsFault answer ⊎ RefusesBases files mid b answer
    → IsFault answer ⊎ RefusesBases files old (a ++ b) answer
refused_then files old mid a b answer x (inl fault) = inl fault
refused_then files old mid a b answer x (inr y) = inr (record { gathers = gathers }) where
  gathers : (before : List Member) (rest : List (List ℕ)) → HoldsMembers old before
      → Gather files before ((a ++ b) ++ rest) (Err answer)
  gathers before rest s =
      let second = y.gathers (with_units before x.added) (rest ++ flat_map links_of x.added) (x.stands before s) in
      let first = moved (with_units before x.added) (with_units before x.added)
      (b ++ (rest ++ flat_map links_of x.added)) ((b ++ rest) ++ flat_map links_of x.added) refl
      (sym (append_assoc b rest (flat_map links_of x.added))) second in
      moved before before (a ++ (b ++ rest)) ((a ++ b) ++ rest) refl (sym (append_assoc a b rest))
      (x.gathers before (b ++ rest) (Err answer) s first)

-- One base

there_so : (held : Members) (before : List Member) (base : List ℕ) (test : Bool) → HoldsMembers held before
    → list_any (bytes_eq base) (unit_names (units_in held)) ≡ test
    → is_there before base ≡ test
there_so held before base test s t = ap (λ units. list_any (bytes_eq base) (unit_names units)) (sym s.units) ∙ t

-- a base that has a unit, or that is not there
adds_nothing : (files : FileMap) (held : Members) (base : List ℕ)
    → ((before : List Member) (rest : List (List ℕ)) (result : Result (List Member) Answer) → HoldsMembers held before
    → Gather files before rest result → Gather files before (base ∷ rest) result)
    → Adds files held held (base ∷ [])
adds_nothing files held base step = record {
  added = [];
  units = sym (append-nil (units_in held));
  stands = λ before s. subst (λ members. HoldsMembers held members) (sym (append-nil before)) s;
  gathers = λ before rest result s h.
      step before rest result s (moved (with_units before []) before (rest ++ flat_map links_of []) rest
      (append-nil before) (append-nil rest) h);
}

adds_known : (files : FileMap) (held : Members) (base : List ℕ)
    → list_any (bytes_eq base) (unit_names (units_in held)) ≡ true → Adds files held held (base ∷ [])
adds_known files held base t = adds_nothing files held base
    (λ before rest result s h. gather_known before base rest result (there_so held before base true s t) h)

adds_absent : (files : FileMap) (held : Members) (base : List ℕ) (there : Bool)
    → list_any (bytes_eq base) (unit_names (units_in held)) ≡ there → IsAbsent files base
    → Adds files held held (base ∷ [])
adds_absent files held base true t is = adds_known files held base t
adds_absent files held base false t is = adds_nothing files held base
    (λ before rest result s h. gather_absent before base rest result (there_so held before base false s t) is h)

adds_met : (files : FileMap) (held : Members) (base : List ℕ)
    → (list_any (bytes_eq base) (unit_names (units_in held)) ≡ true) ⊎ IsAbsent files base
    → Adds files held held (base ∷ [])
adds_met files held base (inl t) = adds_known files held base t
adds_met files held base (inr is) = adds_absent files held base (list_any (bytes_eq base) (unit_names (units_in held))) refl is

units_pushed : (old new : Members) (unit : UnitRead) → kept_units new ≡ with_ucode (kept_units old) unit
    → units_in new ≡ units_in old ++ unit ∷ []
units_pushed old new unit e = ap (λ kept. kept.units) e

adds_unit : (files : FileMap) (old new : Members) (base : List ℕ) (unit : UnitRead)
    → list_any (bytes_eq base) (unit_names (units_in old)) ≡ false
    → HeldAre files base (λ first second. AreJudged base first second (Ok unit))
    → kept_units new ≡ with_ucode (kept_units old) unit → Adds files old new (base ∷ [])
adds_unit files old new base unit t is e = record {
  added = unit ∷ [];
  units = units_pushed old new unit e;
  stands = λ before s. ucode_added old new before unit s e;
  gathers = λ before rest result s h.
      gather_read before base rest is.0 is.1.0 unit result (there_so old before base false s t) is.1.1.0 is.1.1.1
      (moved (with_units before (unit ∷ [])) (before ++ FromUcode unit ∷ []) (rest ++ flat_map links_of (unit ∷ []))
      (rest ++ links_of unit) refl (ap (λ more. rest ++ more) (one_linked unit)) h);
}

refuses_unit : (files : FileMap) (old : Members) (base : List ℕ) (answer : Answer)
    → list_any (bytes_eq base) (unit_names (units_in old)) ≡ false
    → HeldAre files base (λ first second. AreJudged base first second (Err answer)) → RefusesBases files old (base ∷ []) answer
refuses_unit files old base answer t is = record {
  gathers = λ before rest s. gather_refused before base rest is.0 is.1.0 answer (there_so old before base false s t)
      is.1.1.0 is.1.1.1;
}

-- What a base that is new comes to

pub none_sought : (files : FileMap) (held : Members) (base : List ℕ) (bases : List (List ℕ)) → IsAbsent files base
    → Knows (IsAbsent files) (units_in held) bases
    → Adds files held held (base ∷ []) × Knows (IsAbsent files) (units_in held) (bases ++ base ∷ [])
none_sought files held base bases is k = (
  adds_absent files held base (list_any (bytes_eq base) (unit_names (units_in held))) refl is,
  knows_lost
      (IsAbsent files) (units_in held) bases base is k,
)

pub unit_sought : {A : Type 0} (files : FileMap) (old new : Members) (base : List ℕ) (bases : List (List ℕ))
    (unit : HeldUnit) (result : Result A Answer)
    → HeldAre files base (λ first second. AreJudged base first second (Ok (unit_seen unit))) → unit.name ≡ base
    → OnOk result (kept_units new ≡ with_ucode (kept_units old) (unit_seen unit)) → IfErr result (λ answer. answer ≡ NoMemory)
    → list_any (bytes_eq base) bases ≡ false → Knows (IsAbsent files) (units_in old) bases
    → IsSought files old new (base ∷ []) (bases ++ base ∷ []) result
unit_sought files old new base bases unit (Ok done) is named added want new_base k = (
  adds_unit files old new base (unit_seen unit) (k.new base new_base) is added,
  knows_unit (IsAbsent files) (units_in old) (units_in new) bases base (unit_seen unit) named
      (units_pushed old new (unit_seen unit) added) k,
)
unit_sought files old new base bases unit (Err answer) is named added want new_base k = inl (subst IsFault (sym want) refl)

pub fault_sought : (files : FileMap) (old : Members) (base : List ℕ) (bases : List (List ℕ)) (answer : Answer)
    → IsFault answer ⊎ HeldAre files base (λ first second. AreJudged base first second (Err answer))
    → list_any (bytes_eq base) bases ≡ false → Knows (IsAbsent files) (units_in old) bases
    → IsFault answer ⊎ RefusesBases files old (base ∷ []) answer
fault_sought files old base bases answer (inl fault) new_base k = inl fault
fault_sought files old base bases answer (inr is) new_base k = inr (refuses_unit files old base answer (k.new base new_base) is)

-- the same whatever the files tell
pub none_grows : (before now : ℕ) (held : Members) (base : List ℕ) (bases : List (List ℕ))
    → HasCause before now (is_utf8 base ≡ true)
    → list_any (bytes_eq base) bases ≡ false → MembersGrow before now held held bases (bases ++ base ∷ []) (base ∷ [])
none_grows before now held base bases counts new_base = record {
  later = counts.later;
  added = [];
  units = sym (append-nil (units_in held));
  stands = λ members s. subst (λ all. HoldsMembers held all) (sym (append-nil members)) s;
  known = sym (with_new bases base new_base);
  missed = λ start l k. knows_lost (IsMissed start now) (units_in held) bases base (lost start l (is_utf8 base) refl)
      (knows_weaker (IsMissed start before) (IsMissed start now) (units_in held) bases
      (missed_later start before now counts.later) k);
} where
  lost : (start : ℕ) → start ≤ before → (test : Bool) → is_utf8 base ≡ test → IsMissed start now base
  lost start l true t = inl (rose_now start before now l (counts.rose t))
  lost start l false t = inr t

pub unit_grows : {A : Type 0} (before now : ℕ) (old new : Members) (base : List ℕ) (bases : List (List ℕ))
    (unit : HeldUnit) (result : Result A Answer) → before ≤ now
    → unit.name ≡ base → OnOk result (kept_units new ≡ with_ucode (kept_units old) (unit_seen unit))
    → list_any (bytes_eq base) bases ≡ false
    → OnOk result (MembersGrow before now old new bases (bases ++ base ∷ []) (base ∷ []))
unit_grows before now old new base bases unit (Ok done) later named added new_base = record {
  later = later;
  added = unit_seen unit ∷ [];
  units = units_pushed old new (unit_seen unit) added;
  stands = λ members s. ucode_added old new members (unit_seen unit) s added;
  known = sym (with_new bases base new_base);
  missed = λ start l k.
      knows_unit (IsMissed start now) (units_in old) (units_in new) bases base (unit_seen unit) named
      (units_pushed old new (unit_seen unit) added)
      (knows_weaker (IsMissed start before) (IsMissed start now) (units_in old) bases (missed_later start before now later) k);
}
unit_grows before now old new base bases unit (Err answer) later named added new_base = tt

-- a base that was looked for before
pub met_sought : (files : FileMap) (held : Members) (base : List ℕ) (old new : List (List ℕ))
    → list_any (bytes_eq base) old ≡ true → new ≡ with_text old base
    → Knows (IsAbsent files) (units_in held) old → Adds files held held (base ∷ []) × Knows (IsAbsent files) (units_in held) new
met_sought files held base old new t e k = (
  adds_met files held base (k.met base t),
  subst (λ bases. Knows (IsAbsent files) (units_in held) bases)
      (sym (e ∙ with_known old base t)) k,
)

-- The bases of one unit after the other

taken_suc : (units : List UnitRead) (place : ℕ) → place < length units
    → flat_map links_of (take (suc place) units) ≡ flat_map links_of (take place units) ++ links_at units place
taken_suc [] place l = absurd (omega (arith, l))
taken_suc (unit ∷ units) zero l = one_linked unit
taken_suc (unit ∷ units) (suc place) l =
    ap (λ more. links_of unit ++ more) (taken_suc units place (omega (arith, l)))
    ∙ sym (append_assoc (links_of unit) (flat_map links_of (take place units)) (links_at units place))

dropped_suc : (units : List UnitRead) (place : ℕ) → place < length units
    → flat_map links_of (drop place units) ≡ links_at units place ++ flat_map links_of (drop (suc place) units)
dropped_suc [] place l = absurd (omega (arith, l))
dropped_suc (unit ∷ units) zero l = refl
dropped_suc (unit ∷ units) (suc place) l = dropped_suc units place (omega (arith, l))

-- more units behind leave the first ones as they are
taken_more : (units more : List UnitRead) (place : ℕ) → place ≤ length units → take place (units ++ more) ≡ take place units
taken_more units more zero l = refl
taken_more [] more (suc place) l = absurd (omega (arith, l))
taken_more (unit ∷ units) more (suc place) l = ap (λ taken. unit ∷ taken) (taken_more units more place (omega (arith, l)))

dropped_more : (units more : List UnitRead) (place : ℕ) → place ≤ length units
    → drop place (units ++ more) ≡ drop place units ++ more
dropped_more units more zero l = refl
dropped_more [] more (suc place) l = absurd (omega (arith, l))
dropped_more (unit ∷ units) more (suc place) l = dropped_more units more place (omega (arith, l))

all_taken : (units : List UnitRead) (place : ℕ) → length units ≤ place → take place units ≡ units
all_taken [] zero l = refl
all_taken [] (suc place) l = refl
all_taken (unit ∷ units) zero l = absurd (omega (arith, l))
all_taken (unit ∷ units) (suc place) l = ap (λ taken. unit ∷ taken) (all_taken units place (omega (arith, l)))

none_left : (units : List UnitRead) (place : ℕ) → length units ≤ place → drop place units ≡ []
none_left [] zero l = refl
none_left [] (suc place) l = refl
none_left (unit ∷ units) zero l = absurd (omega (arith, l))
none_left (unit ∷ units) (suc place) l = none_left units place (omega (arith, l))

-- What comes of the links of the units from a place on comes of the links of all that were there at first.
pub record GatheredSo (files : FileMap) (old now : Members) (place : ℕ) : Type 0 where
  pub added : List UnitRead
  pub stands : (before : List Member) → HoldsMembers old before → HoldsMembers now (with_units before added)
  pub gathers : (before : List Member) (result : Result (List Member) Answer) → HoldsMembers old before
      → Gather files (with_units before added) (flat_map links_of (drop place (units_in now))) result
      → Gather files before (links_in before) result

pub gathered_none : (files : FileMap) (held : Members) → GatheredSo files held held 0
gathered_none files held = record {
  added = [];
  stands = λ before s. subst (λ members. HoldsMembers held members) (sym (append-nil before)) s;
  gathers = λ before result s h. moved (with_units before []) before (flat_map links_of (units_in held))
      (links_in before) (append-nil before) (ap (flat_map links_of) s.units) h;
}

pub gathered_more : (files : FileMap) (old now new : Members) (place next : ℕ) → next ≡ suc place
    → place < length (units_in now) → GatheredSo files old now place
    → Adds files now new (links_at (units_in now) place) → GatheredSo files old new next
gathered_more files old now new place next is l x y = record {
  added = x.added ++ y.added;
  stands = λ before s. subst (λ members. HoldsMembers new members) (with_both_units before x.added y.added)
      (y.stands (with_units before x.added) (x.stands before s));
  gathers = gathers;
} where
  left : flat_map links_of (drop next (units_in new)) ≡ flat_map links_of (drop (suc place) (units_in now)) ++
      flat_map links_of y.added
  left =
      ap (λ n. flat_map links_of (drop n (units_in new))) is ∙ ap (λ units. flat_map links_of (drop (suc place) units)) y.units
      ∙ ap (flat_map links_of) (dropped_more (units_in now) y.added (suc place) (omega (arith, l)))
      ∙ flat_map-append links_of (drop (suc place) (units_in now)) y.added

  gathers : (before : List Member) (result : Result (List Member) Answer) → HoldsMembers old before
      → Gather files (with_units before (x.added ++ y.added)) (flat_map links_of (drop next (units_in new))) result
      → Gather files before (links_in before) result
  gathers before result s h =
      let last = moved (with_units before (x.added ++ y.added)) (with_units (with_units before x.added) y.added)
      (flat_map links_of (drop next (units_in new)))
      (flat_map links_of (drop (suc place) (units_in now)) ++ flat_map links_of y.added)
      (sym (with_both_units before x.added y.added)) left h in
      let first = y.gathers (with_units before x.added) (flat_map links_of (drop (suc place) (units_in now))) result
      (x.stands before s) last in
      x.gathers before result s (moved (with_units before x.added) (with_units before x.added) _ _ refl
      (sym (dropped_suc (units_in now) place l)) first)

pub gathered_refused : (files : FileMap) (old now : Members) (place : ℕ) (before : List Member) (answer : Answer)
    → place < length (units_in now) → GatheredSo files old now place
    → IsFault answer ⊎ RefusesBases files now (links_at (units_in now) place) answer → HoldsMembers old before
    → IsFault answer ⊎ Gather files before (links_in before) (Err answer)
gathered_refused files old now place before answer l x (inl fault) s = inl fault
gathered_refused files old now place before answer l x (inr y) s =
    inr (x.gathers before (Err answer) s (moved (with_units before x.added) (with_units before x.added)
    (links_at (units_in now) place ++ flat_map links_of (drop (suc place) (units_in now)))
    (flat_map links_of (drop place (units_in now))) refl (sym (dropped_suc (units_in now) place l))
    (y.gathers (with_units before x.added) (flat_map links_of (drop (suc place) (units_in now))) (x.stands before s))))

pub gathered_all : (files : FileMap) (old now : Members) (place : ℕ) (before : List Member)
    → length (units_in now) ≤ place → GatheredSo files old now place → HoldsMembers old before
    → (members : List Member) × (Gather files before (links_in before) (Ok members) × HoldsMembers now members)
gathered_all files old now place before l x s = (
  with_units before x.added,
  (
    x.gathers before (Ok (with_units before x.added)) s
        (moved (with_units before x.added) (with_units before x.added) []
        (flat_map links_of (drop place (units_in now))) refl
        (sym (ap (flat_map links_of) (none_left (units_in now) place l)))
        (gather_all (with_units before x.added))),
    x.stands before s,
  ),
)

-- the same whatever the files tell
pub grown_more : (before between later : ℕ) (old now new : Members) (k l m : List (List ℕ)) (place next : ℕ)
    → next ≡ suc place → place < length (units_in now)
    → MembersGrow before between old now k l (flat_map links_of (take place (units_in now)))
    → MembersGrow between later now new l m (links_at (units_in now) place)
    → MembersGrow before later old new k m (flat_map links_of (take next (units_in new)))
grown_more before between later old now new k l m place next is small x y =
    subst (λ bases. MembersGrow before later old new k m bases) (sym same)
    (grows_then before between later old now new k l m _ _ x y) where
      same : flat_map links_of (take next (units_in new)) ≡ flat_map links_of (take place (units_in now)) ++
          links_at (units_in now) place
      same =
          ap (λ n. flat_map links_of (take n (units_in new))) is
          ∙ ap (λ units. flat_map links_of (take (suc place) units)) y.units
          ∙ ap (flat_map links_of) (taken_more (units_in now) y.added (suc place) (omega (arith, small)))
          ∙ taken_suc (units_in now) place small

pub are_sought : (before now : ℕ) (old new : Members) (k l : List (List ℕ)) (place : ℕ)
    → length (units_in new) ≤ place → k ≡ with_texts [] (unit_names (units_in old))
    → MembersGrow before now old new k l (flat_map links_of (take place (units_in new))) → AreSought before now (units_in new)
are_sought before now old new k l place end first x = record { missed = missed } where
  knows : Knows (IsMissed before now) (units_in new) l
  knows = x.missed before (le_refl before) (knows_units (IsMissed before before) (units_in old) k first)

  all_known : l ≡ with_texts k (flat_map links_of (units_in new))
  all_known = x.known ∙ ap (λ units. with_texts k (flat_map links_of units)) (all_taken (units_in new) place end)

  of_met : (name : List ℕ) → list_any (bytes_eq name) (unit_names (units_in new)) ≡ false
      → (list_any (bytes_eq name) (unit_names (units_in new)) ≡ true) ⊎ IsMissed before now name
      → IsMissed before now name
  of_met name f (inl t) = absurd (both (sym f ∙ t)) where
    both : false ≡ true → ⊥
    both e = cc
  of_met name f (inr m) = m

  missed : (unit : ℕ) (name : List ℕ) → missing_unit (units_in new) ≡ Some (K2 unit name) → IsMissed before now name
  missed unit name e =
      let found = first_linked (units_in new) unit name e in
      of_met name found.absent (knows.met name (is_known k (flat_map links_of (units_in new)) l name all_known found.linked))

-- Refusals that are passed on

pub sought_passed : {A : Type 0} (files : FileMap) (old new : Members) (bases known : List (List ℕ))
    (answer : Answer) (result : Result A Answer)
    → IsErrAnd result (λ passed. passed ≡ answer) → IsFault answer ⊎ RefusesBases files old bases answer
    → IsSought files old new bases known result
sought_passed files old new bases known answer (Ok done) is h = absurd is
sought_passed files old new bases known answer (Err passed) is h = rw is h

pub gathered_passed : {A : Type 0} (files : FileMap) (before : List Member) (held : Members) (answer : Answer)
    (result : Result A Answer)
    → IsErrAnd result (λ passed. passed ≡ answer) → IsFault answer
    ⊎ Gather files before (links_in before) (Err answer) → IsGathered files before (links_in before) held result
gathered_passed files before held answer (Ok done) is h = absurd is
gathered_passed files before held answer (Err passed) is h = rw is h

-- the base at a place of those that are looked for
pub texts_taken : {Y : Type 0} (bases : List (Vec ℕ Y)) (i : ℕ) (item : Vec ℕ Y) → i < length bases → item ≡ get_or bases i item
    → texts_in (take (i + 1) bases) ≡ texts_in (take i bases) ++ item.items ∷ []
texts_taken {Y} bases i item l is =
    ap texts_in (take_more bases i item l) ∙ (texts_behind (take i bases) (get_or bases i item)
    ∙ ap (λ (base : Vec ℕ Y). texts_in (take i bases) ++ base.items ∷ []) (sym is))

pub texts_split : {Y : Type 0} (bases : List (Vec ℕ Y)) (i : ℕ) (item : Vec ℕ Y) → i < length bases → item ≡ get_or bases i item
    → texts_in bases ≡ (texts_in (take i bases) ++ item.items ∷ []) ++ texts_in (drop (i + 1) bases)
texts_split {Y} bases i item l is =
    ap texts_in (sym (take-append-drop (i + 1) bases))
    ∙ (map-append (λ (text : Vec ℕ Y). text.items) (take (i + 1) bases) (drop (i + 1) bases)
    ∙ ap (λ front. front ++ texts_in (drop (i + 1) bases)) (texts_taken bases i item l is))

-- a base of several that is refused
pub refused_at : {Y : Type 0} (files : FileMap) (old now : Members) (bases : List (Vec ℕ Y)) (i : ℕ)
    (item : Vec ℕ Y) (answer : Answer) → i < length bases → item ≡ get_or bases i item
    → Adds files old now (texts_in (take i bases)) → IsFault answer ⊎ RefusesBases files now (item.items ∷ []) answer
    → IsFault answer ⊎ RefusesBases files old (texts_in bases) answer
refused_at files old now bases i item answer l is x y =
    subst (λ all. IsFault answer ⊎ RefusesBases files old all answer) (sym (texts_split bases i item l is))
    (refused_first files old (texts_in (take i bases) ++ item.items ∷ []) (texts_in (drop (i + 1) bases)) answer
    (refused_then files old now (texts_in (take i bases)) (item.items ∷ []) answer x y))

pub adds_next : {Y : Type 0} (files : FileMap) (old now new : Members) (bases : List (Vec ℕ Y)) (i : ℕ)
    (item : Vec ℕ Y) → i < length bases → item ≡ get_or bases i item
    → Adds files old now (texts_in (take i bases)) → Adds files now new (item.items ∷ [])
    → Adds files old new (texts_in (take (i + 1) bases))
adds_next files old now new bases i item l is x y =
    subst (λ all. Adds files old new all) (sym (texts_taken bases i item l is))
    (adds_then files old now new (texts_in (take i bases)) (item.items ∷ []) x y)

pub grows_next : {Y : Type 0} (before between later : ℕ) (old now new : Members) (k l m : List (List ℕ))
    (bases : List (Vec ℕ Y)) (i : ℕ) (item : Vec ℕ Y) → i < length bases
    → item ≡ get_or bases i item → MembersGrow before between old now k l (texts_in (take i bases))
    → MembersGrow between later now new l m (item.items ∷ [])
    → MembersGrow before later old new k m (texts_in (take (i + 1) bases))
grows_next before between later old now new k l m bases i item small is x y =
    subst (λ all. MembersGrow before later old new k m all) (sym (texts_taken bases i item small is))
    (grows_then before between later old now new k l m (texts_in (take i bases)) (item.items ∷ []) x y)

-- The unit at a place

links_there : (units : List HeldUnit) (place : ℕ) (other : HeldUnit) → place < length units
    → links_at (units_seen units) place ≡ links_of (unit_seen (get_or units place other))
links_there [] place other l = absurd (omega (arith, l))
links_there (unit ∷ units) zero other l = refl
links_there (unit ∷ units) (suc place) other l = links_there units place other (omega (arith, l))

pub unit_links : (units : List HeldUnit) (place : ℕ) (unit : HeldUnit) (decls : List UnitDecl)
    (bases : List (List ℕ)) → place < length units → unit ≡ get_or units place unit
    → decls ≡ unit.decls.items → bases ≡ flat_map link_in (map decl_seen decls) → bases ≡ links_at (units_seen units) place
unit_links units place unit decls bases l is same e =
    e ∙ (ap (λ list. flat_map link_in (map decl_seen list)) same
    ∙ (ap (λ (held : HeldUnit). links_of (unit_seen held)) is ∙ sym (links_there units place unit l)))

pub held_small : (units : List HeldUnit) (place : ℕ) → place < length units → place < length (units_seen units)
held_small units place l = subst (λ n. place < n) (sym (length-map units unit_seen)) l

pub held_end : (units : List HeldUnit) (place : ℕ) → length units ≤ place → length (units_seen units) ≤ place
held_end units place l = subst (λ n. n ≤ place) (sym (length-map units unit_seen)) l
