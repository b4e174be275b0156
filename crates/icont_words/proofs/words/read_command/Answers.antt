use Rattle.std.proofs.Common.{map, string_bytes, subst, sym}
use Rattle.std.proofs.lemmas.Result.{err_from_is_err_and}
use Rattle.icont_words.specs.Words.{Asks, ComeTo}
use Rattle.icont_words.specs.Matched.{order_seen}
use Rattle.icont_words.proofs.WordOutcomes.{read, read_faulty, read_task, unread}
use Rattle.icont_words.proofs.words.read_command.Goals as goal

pub returns-in_err-matches : goal.returns-in_err-matches
returns-in_err-matches c =
    let p = err_from_is_err_and c.from_residual.result c.from_residual.ensures.1 in
    rw (p.1, p.2) (unread (map string_bytes c.args.words.now)
    (map string_bytes c.split_at_run.result.0.now) c.in_err-matches.field-0.0 c.split_at_run.ensures.before c.in_err-matches.ensures)

pub returns-in-Some : goal.returns-in-Some
returns-in-Some c =
    let m = c.in_ok-matches.ensures in
    read_faulty (map string_bytes c.args.words.now) (order_seen c.in_ok-order.order) c.in-Some.kind c.in-Some.ensures
    (read (map string_bytes c.args.words.now) (map string_bytes c.split_at_run.result.0.now) m.0
    (order_seen c.in_ok-order.order) _ c.split_at_run.ensures.before
    c.split_at_run.ensures.behind m.1 (c.in_ok-order.ensures m.0 m.2))

pub returns : goal.returns
returns c =
    let m = c.in_ok-matches.ensures in
    subst (λ task. ComeTo (map string_bytes c.args.words.now) (Asks task)) (sym c.task_of.ensures)
    (read_task (map string_bytes c.args.words.now) (order_seen c.in_ok-order.order) c.in-None.ensures
    (read (map string_bytes c.args.words.now) (map string_bytes c.split_at_run.result.0.now) m.0
    (order_seen c.in_ok-order.order) _ c.split_at_run.ensures.before
    c.split_at_run.ensures.behind m.1 (c.in_ok-order.ensures m.0 m.2)))
