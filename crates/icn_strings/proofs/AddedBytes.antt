-- What chunks have of all bytes that were written, as more are.
use Rattle.std.proofs.Common.{◌≡◌, ◌∙◌, ℕ, zero, suc, ◌+◌, ◌-◌, ◌^◌, ◌<◌, ◌≤◌, true, List, [], ◌∷◌, ◌++◌, length, take, drop, refl, sym, ap, subst, arith, inl, inr, ◌||◌, length-append, length-drop, append-nil, append_assoc}
use Rattle.std.specs.Prelude.{Result, Ok, OnOk, is_ok, if◌then◌else◌}
use Rattle.std.specs.List.{All, list_any}
use Rattle.std.proofs.lemmas.Bool.{cases_lt}
use Rattle.std.proofs.lemmas.List.{length-take-le, take_all, drop_all, take-append-le, drop-append-le, take-append-drop, drop-take, drop-drop, take-take}
use Rattle.std.proofs.Math.Seq.{drop-append_seam}
use Rattle.std.proofs.lemmas.List.Elements.{All-push, All-weaker}
use Rattle.std.proofs.lemmas.List.Quantifiers.{all_pairs_push}
use Rattle.std.proofs.lemmas.List.Folds.{Any-from_list_any}
use Rattle.icn_strings.specs.declared.byte_range.ByteRange.{ByteRange}
use Rattle.icn_strings.specs.declared.chunk.Chunk.{Chunk}
use Rattle.icn_strings.specs.Parts.{RegionPart, holds, end_of, EndsBefore, HasItsPart}
use Rattle.icn_strings.specs.Chunks.{part_of_chunk, IsLast, AreSoundChunks}
use Rattle.icn_strings.specs.Ranges.{IsPart}
use Rattle.icn_strings.proofs.HeldRanges.{LiesIn, lies, either_way}

-- what a call leaves that had room, where it is said with a case for each answer
pub did : {A E X : Type 0} (r : Result A E) (x : A) (new good bad : X) → r ≡ Ok x → new ≡ (if is_ok r then good else bad) → new ≡ good
did r x new good bad is same = same ∙ ap (λ q. if is_ok q then good else bad) is

pub came : {A E : Type 0} (r : Result A E) (x : A) {P : Type 0} → r ≡ Ok x → OnOk r P → P
came r x {P} is h = subst (λ q. OnOk q P) is h

-- room for two parts is room for the second once the first is there
pub room_behind : (len len' cap cap' n m : ℕ) → len' ≡ len + n → cap ≤ cap' → len + (n + m) ≤ cap → len' + m ≤ cap'
room_behind len len' cap cap' n m is more room = omega (arith, is, more, room)

-- where the end of a list was written anew
pub end_put : (xs ys : List ℕ) (a k : ℕ) → length xs ≤ a + k → take a xs ++ (ys ++ drop k (drop a xs)) ≡ take a xs ++ ys
end_put xs ys a k ends =
    ap (λ zs. take a xs ++ (ys ++ zs)) (drop_all k (drop a xs) (rw length-drop (omega (arith, ends)))) ∙ ap (λ zs. take a xs ++ zs) (append-nil ys)

-- bytes that lie within stay where more is appended
pub within_stays : (n at : ℕ) (had more : List ℕ) → (0 < n → at + n ≤ length had) → take n (drop at (had ++ more)) ≡ take n (drop at had)
within_stays zero at had more h = refl
within_stays (suc n) at had more h =
    let within : at + suc n ≤ length had = h (omega arith) in
    let start : at ≤ length had = omega arith in
    let rest : suc n ≤ length (drop at had) = simp length-drop (omega arith) in
    rw (drop-append-le at had more start) (take-append-le (suc n) (drop at had) more rest)

-- none are appended
pub none_added : (had more : List ℕ) (n : ℕ) → n ≡ 0 → had ≡ had ++ take n more
none_added had more n is = sym (ap (λ k. had ++ take k more) is ∙ append-nil had)

-- there are as many bytes as the range says
pub as_many : (xs : List ℕ) (at n : ℕ) → (0 < n → at + n ≤ length xs) → length (take n (drop at xs)) ≡ n
as_many xs at zero within = length-take-le zero (drop at xs) (omega arith)
as_many xs at (suc n) within = length-take-le (suc n) (drop at xs) (rw length-drop (omega (arith, within (omega arith))))

-- a part of a part
part_of_part : (xs : List ℕ) (first size start len : ℕ) → first ≤ start → start + len ≤ first + size
    → take len (drop (start - first) (take size (drop first xs))) ≡ take len (drop start xs)
part_of_part xs first size start len from to =
    let before : ℕ = start - first in
    let behind : ℕ = size - before in
    let sizes : size ≡ before + behind = omega arith in
    let starts : first + before ≡ start = omega arith in
    let within : len ≤ behind = omega arith in
    ap (λ n. take len (drop before (take n (drop first xs)))) sizes
    ∙ (ap (λ ys. take len ys) (drop-take before behind (drop first xs) ∙ ap (λ ys. take behind ys) (drop-drop before first xs))
    ∙ (take-take len behind (drop (first + before) xs) within ∙ ap (λ at. take len (drop at xs)) starts))

-- the bytes of a part are its part of the bytes
pub part_bytes_of : (xs : List ℕ) (part whole : ByteRange) → IsPart part whole
    → take part.len (drop part.start xs) ≡ take part.len (drop (part.start - whole.start) (take whole.len (drop whole.start xs)))
part_bytes_of xs part whole is = sym (part_of_part xs whole.start whole.len part.start part.len is.from is.to)

-- a part of few bytes is short
pub part_short : (xs : List ℕ) (at n most : ℕ) → length xs < most → length (take n (drop at xs)) < most
part_short xs at n most h =
    elim (cases_lt (length (drop at xs)) n) [
      | inl beyond ↦
          (let all : length (take n (drop at xs)) ≡ length (drop at xs) = ap length (take_all n (drop at xs) (omega arith)) in omega (arith, length-drop at xs))
      | inr within ↦ omega (arith, length-take-le n (drop at xs) within, length-drop at xs)
    ]

-- the bytes of a range in a part that holds it
pub part_is : (all : List ℕ) (part : RegionPart) (range : ByteRange) → HasItsPart all part → holds range part ≡ true
    → take range.len (drop (range.start - part.first) part.bytes) ≡ take range.len (drop range.start all)
part_is all part range agrees is =
    let lay : LiesIn range part = lies range part is in
    ap (λ ys. take range.len (drop (range.start - part.first) ys)) agrees.bytes
    ∙ part_of_part all part.first (length part.bytes) range.start range.len lay.from lay.to

-- a part agrees with more
agrees_more : (all more : List ℕ) (part : RegionPart) → HasItsPart all part → HasItsPart (all ++ more) part
agrees_more all more part is = record {
  within = rw length-append (omega (arith, is.within));
  bytes = is.bytes ∙ sym (within_stays (length part.bytes) part.first all more (λ _. is.within));
}

-- the last chunk ends where all bytes end
pub last_ends : (all : List ℕ) (chunk : Chunk) → IsLast all chunk → chunk.first + length chunk.bytes.items ≡ length all
last_ends all chunk is =
    let long : length chunk.bytes.items ≡ length all - chunk.first = ap (λ (ys : List ℕ). length ys) is.bytes ∙ length-drop chunk.first all in
    omega (arith, is.from, long)

-- it has its part of them
pub last_agrees : (all : List ℕ) (chunk : Chunk) → IsLast all chunk → HasItsPart all (part_of_chunk chunk)
last_agrees all chunk is =
    let long : length chunk.bytes.items ≡ length (drop chunk.first all) = ap (λ (ys : List ℕ). length ys) is.bytes in
    let ends : chunk.first + length chunk.bytes.items ≤ length all = omega (arith, last_ends all chunk is) in
    record {
      within = ends;
      bytes = is.bytes ∙ sym (take_all (length chunk.bytes.items) (drop chunk.first all) (omega (arith, long)));
    }

-- what lies before it, and then its bytes, are all bytes
pub written_more : (all more : List ℕ) (chunk new : Chunk) → IsLast all chunk → new.first ≡ chunk.first
    → new.bytes.items ≡ chunk.bytes.items ++ more → take new.first all ++ new.bytes.items ≡ all ++ more
written_more all more chunk new is first bytes =
    ap (λ n. take n all ++ new.bytes.items) first
    ∙ (ap (λ ys. take chunk.first all ++ ys) (bytes ∙ ap (λ ys. ys ++ more) is.bytes)
    ∙ (sym (append_assoc (take chunk.first all) (drop chunk.first all) more)
    ∙ ap (λ ys. ys ++ more) (take-append-drop chunk.first all)))

last_more : (all more : List ℕ) (chunk new : Chunk) → IsLast all chunk → new.first ≡ chunk.first
    → new.bytes.items ≡ chunk.bytes.items ++ more → IsLast (all ++ more) new
last_more all more chunk new is first bytes = record {
  from = rw length-append (omega (arith, first, is.from));
  bytes =
      bytes
      ∙ (ap (λ ys. ys ++ more) is.bytes
      ∙ (sym (drop-append-le chunk.first all more is.from) ∙ ap (λ n. drop n (all ++ more)) (sym first)));
}

-- the chunks are sound once more bytes are written into the last one
sound_added : (all more : List ℕ) (closed : List RegionPart) (last new : Chunk) (sum limit : ℕ) → AreSoundChunks all closed last sum limit
    → new.first ≡ last.first → new.bytes.items ≡ last.bytes.items ++ more → length all + length more < 2 ^ 63 - 1
    → AreSoundChunks (all ++ more) closed new sum limit
sound_added all more closed last new sum limit is first bytes few = record {
  agree = All-weaker (HasItsPart all) (HasItsPart (all ++ more)) (λ chunk agrees. agrees_more all more chunk agrees) closed is.agree;
  order = is.order;
  before =
      All-weaker (λ (part : RegionPart). end_of part ≤ last.first) (λ (part : RegionPart). end_of part ≤ new.first)
      (λ part ends. subst (λ n. end_of part ≤ n) (sym first) ends) closed
      is.before;
  ends = last_more all more last new is.ends first bytes;
  short = rw length-append few;
  within = is.within;
}

pub sound_more : (all whole more : List ℕ) (closed : List RegionPart) (last new : Chunk) (sum limit : ℕ) → AreSoundChunks all closed last sum limit
    → new.first ≡ last.first → new.bytes.items ≡ last.bytes.items ++ more → whole ≡ all ++ more → length all + length more < 2 ^ 63 - 1
    → AreSoundChunks whole closed new sum limit
sound_more all whole more closed last new sum limit is first bytes same few =
    subst (λ ys. AreSoundChunks ys closed new sum limit) (sym same) (sound_added all more closed last new sum limit is first bytes few)

-- and once another chunk follows
sound_opened : (all : List ℕ) (closed : List RegionPart) (last new : Chunk) (sum limit : ℕ) → AreSoundChunks all closed last sum limit
    → new.first ≡ length all → new.bytes.items ≡ [] → AreSoundChunks all (closed ++ part_of_chunk last ∷ []) new sum limit
sound_opened all closed last new sum limit is first none =
    let behind : last.first + length last.bytes.items ≤ new.first = omega (arith, first, last_ends all last is.ends) in
    record {
      agree = All-push (HasItsPart all) closed (part_of_chunk last) is.agree (last_agrees all last is.ends);
      order = all_pairs_push EndsBefore closed (part_of_chunk last) is.order is.before;
      before =
          All-push (λ (part : RegionPart). end_of part ≤ new.first) closed (part_of_chunk last)
          (All-weaker (HasItsPart all) (λ (part : RegionPart). end_of part ≤ new.first) (λ part is. subst (λ n. end_of part ≤ n) (sym first) is.within) closed
          is.agree) behind;
      ends = record { from = omega (arith, first); bytes = none ∙ sym (drop_all new.first all (omega (arith, first))) };
      short = is.short;
      within = is.within;
    }

pub sound_closed : (all : List ℕ) (closed parts : List RegionPart) (last new : Chunk) (sum limit : ℕ) → AreSoundChunks all closed last sum limit
    → parts ≡ closed ++ part_of_chunk last ∷ [] → new.first ≡ length all → new.bytes.items ≡ [] → AreSoundChunks all parts new sum limit
sound_closed all closed parts last new sum limit is same first none =
    subst (λ cs. AreSoundChunks all cs new sum limit) (sym same) (sound_opened all closed last new sum limit is first none)

-- the chunks are sound where they are the same
pub sound_same : (all : List ℕ) (closed parts : List RegionPart) (last new : Chunk) (sum limit : ℕ) → AreSoundChunks all closed last sum limit
    → parts ≡ closed → new ≡ last → AreSoundChunks all parts new sum limit
sound_same all closed parts last new sum limit is same same_last =
    subst (λ (ps : List RegionPart). AreSoundChunks all ps new sum limit) (sym same)
    (subst (λ (chunk : Chunk). AreSoundChunks all closed chunk sum limit) (sym same_last) is)

sound_empty : (last : Chunk) (limit : ℕ) → last.first ≡ 0 → last.bytes.items ≡ [] → AreSoundChunks [] [] last 0 limit
sound_empty last limit first none =
    let from : last.first ≤ 0 = omega (arith, first) in
    let short : 0 < 2 ^ 63 - 1 = omega arith in
    record {
      agree = λ k d within. absurd (omega (arith, within));
      order = λ i j d less within. absurd (omega (arith, within));
      before = λ k d within. absurd (omega (arith, within));
      ends = record { from = from; bytes = none ∙ sym (drop_all last.first [] (omega arith)) };
      short = short;
      within = omega arith;
    }

-- where nothing was written, the chunks are sound
pub sound_new : (all : List ℕ) (closed : List RegionPart) (last : Chunk) (limit : ℕ) → all ≡ [] → closed ≡ [] → last.first ≡ 0 → last.bytes.items ≡ []
    → AreSoundChunks all closed last 0 limit
sound_new all closed last limit none no_chunk first empty =
    subst (λ (ys : List ℕ). AreSoundChunks ys closed last 0 limit) (sym none)
    (subst (λ (cs : List RegionPart). AreSoundChunks [] cs last 0 limit) (sym no_chunk) (sound_empty last limit first empty))

within_any : (all : List ℕ) (parts : List RegionPart) (range : ByteRange) → All (HasItsPart all) parts → list_any (holds range) parts ≡ true
    → range.start + range.len ≤ length all
within_any all parts range are is =
    let found = Any-from_list_any (holds range) parts is in
    let lay : LiesIn range found.1 = lies range found.1 found.4 in
    let part : HasItsPart all found.1 = subst (λ (part : RegionPart). HasItsPart all part) found.3 (are found.0 found.1 found.2) in
    let ends : found.1.first + length found.1.bytes ≤ length all = part.within in
    omega (arith, lay.to, ends)

-- what is held lies within all bytes
pub within_all : (all : List ℕ) (closed : List RegionPart) (last : Chunk) (range : ByteRange) → All (HasItsPart all) closed → IsLast all last
    → (holds range (part_of_chunk last) || list_any (holds range) closed) ≡ true → range.start + range.len ≤ length all
within_all all closed last range are ends is =
    elim (either_way (holds range (part_of_chunk last)) (list_any (holds range) closed) is) [
      | inl here ↦
          (let lay : LiesIn range (part_of_chunk last) = lies range (part_of_chunk last) here in
          omega (arith, lay.to, last_ends all last ends))
      | inr there ↦ within_any all closed range are there
    ]

-- the bytes that were written last
pub last_bytes : (all whole more : List ℕ) (at n : ℕ) → whole ≡ all ++ more → at ≡ length all → n ≡ length more → take n (drop at whole) ≡ more
last_bytes all whole more at n same start size =
    ap (λ ys. take n (drop at ys)) same
    ∙ (ap (λ k. take n (drop k (all ++ more))) start
    ∙ (ap (λ ys. take n ys) (drop-append_seam all more) ∙ take_all n more (omega arith)))

-- the bytes of a range that ends where all end, and those that were written behind
pub behind_bytes : (all whole more : List ℕ) (at n m : ℕ) → whole ≡ all ++ more → at + n ≡ length all → m ≡ length more
    → take (n + m) (drop at whole) ≡ take n (drop at all) ++ more
behind_bytes all whole more at n m same ends size =
    let rest : length (drop at all) ≡ n = rw length-drop (omega arith) in
    let start : at ≤ length all = omega arith in
    let both : length (drop at all ++ more) ≡ n + m = rw length-append (omega (arith, rest)) in
    ap (λ ys. take (n + m) (drop at ys)) same
    ∙ (ap (λ ys. take (n + m) ys) (drop-append-le at all more start)
    ∙ (take_all (n + m) (drop at all ++ more) (omega (arith, both)) ∙ ap (λ ys. ys ++ more) (sym (take_all n (drop at all) (omega (arith, rest))))))
