use Rattle.std.proofs.Common.{◌∙◌, ◌<◌, ◌^◌, ◌≤◌, arith, length, refl, rules}
use Rattle.clap.specs.Lexer.{usize_max}
use Rattle.clap.specs.Words.{app_of, kind_of}
use Rattle.icont_words.proofs.ClapAgrees.{matched, unmatched}
use Rattle.icont_words.proofs.command.matches.Goals as goal

pub returns-in-Ok : goal.returns-in-Ok
returns-in-Ok c =
    let small : length c.args.words.now < 2 ^ 64 = search rules in
    let room : length c.args.words.now ≤ usize_max = omega (arith, small) in
    matched (app_of c.in_ok-command.field-0) c.args.words.now c.in_ok-command.ensures room c.in-Ok.matches
    c.in-Ok.ensures.matches c.in-Ok.ensures.kinds

pub returns : goal.returns
returns c =
    let small : length c.args.words.now < 2 ^ 64 = search rules in
    let room : length c.args.words.now ≤ usize_max = omega (arith, small) in (
      refl,
      unmatched (app_of c.in_ok-command.field-0) c.args.words.now c.in_ok-command.ensures room (kind_of c.in-Err.error)
          (λ e. c.in_default.not-OutOfMemory (c.kind.ensures ∙ e)) c.in-Err.ensures.kinds,
    )
