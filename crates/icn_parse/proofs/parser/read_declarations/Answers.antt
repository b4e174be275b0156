use Rattle.std.proofs.Common.{Some, length, map, refl, ap, ◌∙◌}
use Rattle.icn_tree.specs.declared.rule.Rule.TheVariants.{S2}
use Rattle.icn_tree.specs.TreeOf.{declaration_of}
use Rattle.icn_parse.specs.Outcomes.{TooHigh, IsOutcome}
use Rattle.icn_parse.proofs.ReadOutcomes.{broken_as, high_tree, low_tree, not_read, unspelled_breaks}
use Rattle.icn_parse.proofs.parser.read_declarations.Goals as goal

pub returns-in-Some : goal.returns-in-Some
returns-in-Some c =
    broken_as (IsOutcome c.args.tokens.now) (TooHigh c.in-Some.place) S2 c.in-Some.place c.at.result c.at.ensures refl
    (high_tree c.args.tokens.now (length c.args.tokens.now) c.in-Some.place (map declaration_of c.in-Ok.all.decls.items)
    (c.in-Ok.ensures ∙ ap (λ high. Some (high, map declaration_of c.in-Ok.all.decls.items)) c.in-Some.is))

pub returns-in-None : goal.returns-in-None
returns-in-None c =
    low_tree c.args.tokens.now (length c.args.tokens.now) (map declaration_of c.in-Ok.all.decls.items)
    (c.in-Ok.ensures ∙ ap (λ high. Some (high, map declaration_of c.in-Ok.all.decls.items)) c.in-None.is)

pub unspelled_place-requires : goal.unspelled_place-requires
unspelled_place-requires c = record { none = not_read c.args.tokens.now _ c.in-Err-NotHere.field-0-is c.in-Err-NotHere.ensures }

pub returns-in_ok-place-in-Err-NotHere : goal.returns-in_ok-place-in-Err-NotHere
returns-in_ok-place-in-Err-NotHere c =
    unspelled_breaks c.args.tokens.now c.in_ok-place-in-Err-NotHere.place c.at-in-Err-NotHere.result c.in_ok-place-in-Err-NotHere.ensures c.at-in-Err-NotHere.ensures
