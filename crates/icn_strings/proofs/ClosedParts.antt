-- Parts in front and chunks behind them, as one list of parts.
use Rattle.std.proofs.Common.{inl, inr, ◌≡◌, ◌∙◌, sym, ap, subst, ◌+◌, Bool, true, false, ◌||◌, List, [], ◌∷◌, ◌++◌, length, get_or, arith, length-append, append-nil, append_assoc}
use Rattle.std.specs.Prelude.{Result, Ok, Err, OnErr, OnOk}
use Rattle.std.specs.List.{All, AllPairs, list_any}
use Rattle.std.proofs.lemmas.Bool.{true≢false}
use Rattle.std.proofs.lemmas.List.{get_or_append_left, get_or-append-add, map_push}
use Rattle.std.proofs.lemmas.List.Folds.{list_any-append}
use Rattle.icn_strings.specs.declared.chunk.Chunk.{Chunk}
use Rattle.icn_strings.specs.Parts.{RegionPart, part}
use Rattle.icn_strings.specs.Chunks.{part_of_chunk, parts_of_chunks}
use Rattle.icn_strings.proofs.HeldRanges.{by_first, either_way}

-- what an answer says, said otherwise
pub on_ok : {A E P Q : Type 0} (result : Result A E) → (P → Q) → OnOk result P → OnOk result Q
on_ok (Ok done) f is = f is
on_ok (Err why) f is = tt

-- what holds anyway
pub always : {A E P : Type 0} (result : Result A E) → P → OnOk result P
always (Ok done) is = is
always (Err why) is = tt

pub refused : {A E P : Type 0} (result : Result A E) → P → OnErr result P
refused (Ok done) is = tt
refused (Err why) is = is

-- a chunk more
pub with_chunk : (packed : List RegionPart) (chunks : List Chunk) (new : Chunk)
    → packed ++ parts_of_chunks (chunks ++ new ∷ []) ≡ (packed ++ parts_of_chunks chunks) ++ part_of_chunk new ∷ []
with_chunk packed chunks new =
    ap (λ (parts : List RegionPart). packed ++ parts) (map_push part_of_chunk chunks new)
    ∙ sym (append_assoc packed (parts_of_chunks chunks) (part_of_chunk new ∷ []))

-- a part more in front, where there are no chunks
pub with_front : (packed after now : List RegionPart) (chunks : List Chunk) (new : RegionPart) → chunks ≡ [] → packed ++ parts_of_chunks chunks ≡ now
    → after ≡ packed ++ new ∷ [] → after ++ parts_of_chunks chunks ≡ now ++ new ∷ []
with_front packed after now chunks new none view added =
    let same : now ≡ packed =
    sym view ∙ (ap (λ (cs : List Chunk). packed ++ parts_of_chunks cs) none ∙ append-nil packed) in
    ap (λ (cs : List Chunk). after ++ parts_of_chunks cs) none
    ∙ (append-nil after ∙ (added ∙ ap (λ (parts : List RegionPart). parts ++ new ∷ []) (sym same)))

-- one more behind
pub with_behind : (packed before after now : List RegionPart) (new : RegionPart) → packed ++ before ≡ now → after ≡ before ++ new ∷ []
    → packed ++ after ≡ now ++ new ∷ []
with_behind packed before after now new view added =
    ap (λ (parts : List RegionPart). packed ++ parts) added
    ∙ (sym (append_assoc packed before (new ∷ [])) ∙ ap (λ (parts : List RegionPart). parts ++ new ∷ []) view)

-- what holds of all holds of those in front, and of those behind

pub pairs_front : (R : RegionPart → RegionPart → Type 0) (xs ys : List RegionPart) → AllPairs R (xs ++ ys) → AllPairs R xs
pairs_front R xs ys are i j d less within =
    let long = length-append xs ys in
    subst (λ (one : RegionPart). R one (get_or xs j d)) (get_or_append_left xs ys d i (omega (arith, less, within)))
    (subst (λ (other : RegionPart). R (get_or (xs ++ ys) i d) other) (get_or_append_left xs ys d j within)
    (are i j d less (omega (arith, within, long))))

pub pairs_behind : (R : RegionPart → RegionPart → Type 0) (xs ys : List RegionPart) → AllPairs R (xs ++ ys) → AllPairs R ys
pairs_behind R xs ys are i j d less within =
    let long = length-append xs ys in
    subst (λ (one : RegionPart). R one (get_or ys j d)) (get_or-append-add xs ys i d)
    (subst (λ (other : RegionPart). R (get_or (xs ++ ys) (length xs + i) d) other) (get_or-append-add xs ys j d)
    (are (length xs + i) (length xs + j) d (omega (arith, less)) (omega (arith, within, long))))

pub all_front : (P : RegionPart → Type 0) (xs ys : List RegionPart) → All P (xs ++ ys) → All P xs
all_front P xs ys are k d within =
    let long = length-append xs ys in
    subst P (get_or_append_left xs ys d k within) (are k d (omega (arith, within, long)))

pub all_behind : (P : RegionPart → Type 0) (xs ys : List RegionPart) → All P (xs ++ ys) → All P ys
all_behind P xs ys are k d within =
    let long = length-append xs ys in
    subst P (get_or-append-add xs ys k d) (are (length xs + k) d (omega (arith, within, long)))

-- what is found in front, or else behind

pub any_front : (p : RegionPart → Bool) (xs ys : List RegionPart) → list_any p xs ≡ true → true ≡ list_any p (xs ++ ys)
any_front p xs ys is = sym (list_any-append p xs ys ∙ by_first (list_any p xs) (list_any p ys) is)

pub any_behind : (p : RegionPart → Bool) (xs ys : List RegionPart) → list_any p xs ≡ false → list_any p ys ≡ list_any p (xs ++ ys)
any_behind p xs ys off = sym (list_any-append p xs ys ∙ ap (λ b. b || list_any p ys) off)

pub found_front : (p : RegionPart → Bool) (xs ys : List RegionPart) → list_any p (xs ++ ys) ≡ true → list_any p ys ≡ false → list_any p xs ≡ true
found_front p xs ys is off =
    elim (either_way (list_any p xs) (list_any p ys) (sym (list_any-append p xs ys) ∙ is)) [
      | inl here ↦ here
      | inr there ↦ absurd (true≢false (sym there ∙ off))
    ]
