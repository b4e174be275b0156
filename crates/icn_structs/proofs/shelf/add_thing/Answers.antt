use Rattle.std.proofs.Common.{◌≡◌, ◌<◌, ◌+◌, ◌-◌, ◌%◌, suc, sym, ap, subst, List, length, arith}
use Rattle.std.proofs.lemmas.List.{get_or_read}
use Rattle.std.proofs.lemmas.Result.{on_ok_weaker}
use Rattle.icn_structs.specs.PlacedThings.{AreInRows, IsLevel}
use Rattle.icn_structs.specs.Shelves.{ShelfView, empty_view}
use Rattle.icn_structs.proofs.ShelfRows.{last_not_full, last_rows, last_shelf, level_of_one, rows_more, some_row}
use Rattle.icn_structs.proofs.shelf.add_thing.Goals as goal

pub returns-then-len-eq0-clause-rows : goal.returns-then-len-eq0-clause-rows
returns-then-len-eq0-clause-rows g c =
    let rows = c.args.rows.now.items in
    let one : length c.in_ok-row.row.shelf.things ≡ 1 = ap (λ (row : ShelfView g.row.T.Denot). length row.shelf.things) c.in_ok-row.ensures in
    subst (λ (some : List (ShelfView g.row.T.Denot)). AreInRows (c.args.len + 1) some) (sym c.in_ok-push.ensures.items)
    (rows_more c.args.len rows empty_view c.requires.rows c.in_ok-row.row c.if-len-eq0.true one
    (subst IsLevel (sym c.in_ok-row.ensures) (level_of_one c.args.thing)) c.requires.room)

pub push-requires-2 : goal.push-requires-2
push-requires-2 g c =
    let rows = c.args.rows.now.items in
    let some = some_row c.args.len rows empty_view c.requires.rows (omega (arith, c.if-len-eq0.false)) in
    let last : suc (c.len-last.result - 1) ≡ length rows = omega (arith, some, c.len-last.ensures, c.args.rows.now.ok) in
    let odd : 0 < c.args.len % 128 = omega (arith, c.if-len-eq0.false) in
    let found = get_or_read rows (c.len-last.result - 1) c.index_mut.result.now (omega (arith, last)) c.index_mut.ensures.value empty_view in
    let low = last_not_full c.args.len rows empty_view c.requires.rows (c.len-last.result - 1) last odd in
    let same = ap (λ (row : ShelfView g.row.T.Denot). length row.shelf.things) found in
    omega (arith, low, same)

pub returns-clause-rows : goal.returns-clause-rows
returns-clause-rows g c =
    let rows = c.args.rows.now.items in
    let some = some_row c.args.len rows empty_view c.requires.rows (omega (arith, c.if-len-eq0.false)) in
    let last : suc (c.len-last.result - 1) ≡ length rows = omega (arith, some, c.len-last.ensures, c.args.rows.now.ok) in
    let odd : 0 < c.args.len % 128 = omega (arith, c.if-len-eq0.false) in
    let found = get_or_read rows (c.len-last.result - 1) c.index_mut.result.now (omega (arith, last)) c.index_mut.ensures.value empty_view in
    on_ok_weaker c.push-2.result (λ is.
    last_rows c.args.len rows empty_view c.requires.rows (c.len-last.result - 1) c.args.thing c.index_mut.result.now c.push-2.new.self last odd found is
    c.requires.room) c.push-2.ensures.added

pub returns-clause-added : goal.returns-clause-added
returns-clause-added g c =
    let rows = c.args.rows.now.items in
    let some = some_row c.args.len rows empty_view c.requires.rows (omega (arith, c.if-len-eq0.false)) in
    let last : suc (c.len-last.result - 1) ≡ length rows = omega (arith, some, c.len-last.ensures, c.args.rows.now.ok) in
    let odd : 0 < c.args.len % 128 = omega (arith, c.if-len-eq0.false) in
    let found = get_or_read rows (c.len-last.result - 1) c.index_mut.result.now (omega (arith, last)) c.index_mut.ensures.value empty_view in
    on_ok_weaker c.push-2.result (λ is.
    last_shelf c.args.len rows empty_view c.requires.rows (c.len-last.result - 1) c.args.thing c.index_mut.result.now c.push-2.new.self last found is)
    c.push-2.ensures.added
