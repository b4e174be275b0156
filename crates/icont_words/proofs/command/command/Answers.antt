use Rattle.std.proofs.Common.{◌≡◌, ◌∙◌, rules, ap, ap₂, codes}
use Rattle.std.proofs.lemmas.Result.{IfOk-weaker}
use Rattle.clap.specs.Words.{app_of, new_app, rule_of, with_rule}
use Rattle.clap.specs.Simple.{app_of_fields}
use Rattle.icont_words.specs.Command.{file_rule, no_help, units_rule}
use Rattle.icont_words.proofs.Arguments.{file_is}
use Rattle.icont_words.proofs.command.command.Goals as goal

pub returns : goal.returns
returns c =
    let units_is : rule_of c.action-units.result ≡ units_rule = search rules in
    let named : rule_of c.new-2.result ≡ _ = c.new-2.ensures.rule in
    let files_are : rule_of c.num_args-file.result ≡ file_rule =
    file_is c.new-2.result c.num_args-file.result named c.num_args-file.ensures.0 c.num_args-file.ensures.1 in
    let start_is : app_of c.disable_help_flag.result ≡ no_help (new_app (codes "icont")) =
    ap app_of_fields c.disable_help_flag.ensures ∙ ap no_help c.new-3.ensures.app in
    let one = c.in_ok-arg.ensures.shape (search rules) ∙ ap₂ with_rule start_is units_is in
    let two = c.in_ok-arg-2.ensures.shape (search rules) ∙ ap₂ with_rule one c.with_value.ensures.rule in
    let three = c.in_ok-arg-3.ensures.shape (search rules) ∙ ap₂ with_rule two c.with_value-2.ensures.rule in
    let four = c.in_ok-arg-4.ensures.shape (search rules) ∙ ap₂ with_rule three c.with_value-3.ensures.rule in
    IfOk-weaker c.arg-5.result _ _ (λ r h. h.shape (search rules) ∙ ap₂ with_rule four files_are) c.arg-5.ensures
