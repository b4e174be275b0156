use Rattle.std.proofs.Common.{◌≡◌, ◌∙◌, ℕ, suc, ◌-◌, ◌<◌, List, [], ◌∷◌, ◌++◌, length, slice_index_or, sym, ap, subst, arith}
use Rattle.std.proofs.lemmas.List.{get_or_default}
use Rattle.icn_heap.specs.KindRows.{all_kinds}
use Rattle.icn_heap.proofs.KindRows.{front_left, front_set, set_full, split_last}
use Rattle.icn_heap.proofs.kinds.RecordKinds.pop.Goals as goal

some_row : (rows : List (List ℕ)) (kinds : List ℕ) → all_kinds rows ≡ kinds → 0 < length kinds → 0 < length rows
some_row [] kinds is some = absurd (let none = ap length is in omega (arith, none, some))
some_row (row ∷ rows) kinds is some = omega arith

pub invariant_of-self-else-len-eq1 : goal.invariant_of-self-else-len-eq1
invariant_of-self-else-len-eq1 c =
    let rows = c.self.inside.rows in
    let count : c.len-last.result ≡ length rows.items = (let all = rows.ok.0 in let same = c.len-last.ensures in omega (arith, all, same)) in
    let any = some_row rows.items c.args.self.now c.self.view_is c.requires in
    let last = c.len-last.result - 1 in
    let next : suc last ≡ length rows.items = omega (arith, count, any) in
    let there : last < length rows.items = omega (arith, next) in
    let row : c.index_mut.result.now ≡ slice_index_or rows.items last [] = c.index_mut.ensures.value
    ∙ get_or_default rows.items last c.index_mut.result.now [] there in
    let seen : c.index.result.now ≡ slice_index_or rows.items last [] = c.index.ensures ∙ get_or_default rows.items last c.index.result.now [] there in
    let some = c.self.invariant.some last [] there in
    let few = c.self.invariant.few last [] there in
    let size = ap length row in
    let seen_size = ap length seen in
    let less = c.pop.ensures.count in
    let more = c.if-len-eq1.false in
    let measured = c.len.ensures in
    set_full rows.items c.self.invariant last c.pop.new.self next (omega (arith, some, size, seen_size, less, more, measured))
    (omega (arith, few, size, less))

pub returns-then-len-eq1 : goal.returns-then-len-eq1
returns-then-len-eq1 c = λ kinds kind is.
    let rows = c.self.inside.rows in
    let count : c.len-last.result ≡ length rows.items = (let all = rows.ok.0 in let same = c.len-last.ensures in omega (arith, all, same)) in
    let any = some_row rows.items c.args.self.now c.self.view_is c.requires in
    let last = c.len-last.result - 1 in
    let next : suc last ≡ length rows.items = omega (arith, count, any) in
    let there : last < length rows.items = omega (arith, next) in
    let seen : c.index.result.now ≡ slice_index_or rows.items last [] = c.index.ensures ∙ get_or_default rows.items last c.index.result.now [] there in
    let seen_size = ap length seen in
    let one = c.if-len-eq1.true in
    let measured = c.len.ensures in
    ap all_kinds c.truncate.ensures.items
    ∙ front_left rows.items last next (omega (arith, seen_size, one, measured)) kinds kind (c.self.view_is ∙ is)

pub returns-else-len-eq1 : goal.returns-else-len-eq1
returns-else-len-eq1 c = λ kinds kind is.
    let rows = c.self.inside.rows in
    let count : c.len-last.result ≡ length rows.items = (let all = rows.ok.0 in let same = c.len-last.ensures in omega (arith, all, same)) in
    let any = some_row rows.items c.args.self.now c.self.view_is c.requires in
    let last = c.len-last.result - 1 in
    let next : suc last ≡ length rows.items = omega (arith, count, any) in
    let there : last < length rows.items = omega (arith, next) in
    let row : c.index_mut.result.now ≡ slice_index_or rows.items last [] = c.index_mut.ensures.value
    ∙ get_or_default rows.items last c.index_mut.result.now [] there in
    let old = c.index_mut.result.now in
    let some : 0 < length old = subst (λ (one : List ℕ). 0 < length one) (sym row) (c.self.invariant.some last [] there) in
    let parts = split_last old some in
    let new : c.pop.new.self ≡ parts.0 = c.pop.ensures.rest parts.0 parts.1.0 parts.1.1 in
    front_set rows.items last parts.1.0 c.pop.new.self next (sym row ∙ (parts.1.1 ∙ ap (λ (one : List ℕ). one ++ parts.1.0 ∷ []) (sym new))) kinds kind
    (c.self.view_is ∙ is)
