-- What an argument is read as.
use Rattle.std.proofs.Common.{◌≡◌, ◌∙◌, ap, ap₂, codes, Option, None, Some, IsSomeAnd}
use Rattle.clap.specs.Lexer.{usize_max}
use Rattle.clap.specs.Words.{Rule, new_rule, rule_of}
use Rattle.clap.specs.declared.builder.arg.Arg.{Arg}
use Rattle.clap.specs.declared.builder.range.ValueRange.{ValueRange}
use Rattle.icont_words.specs.Command.{file_rule}

abbrev any_number : ValueRange
any_number = record { start_inclusive = 0; end_inclusive = usize_max }

some_is : (o : Option ValueRange) → IsSomeAnd o (λ r. r ≡ any_number) → o ≡ Some any_number
some_is None h = absurd h
some_is (Some r) h = ap Some h

pub file_is : (a b : Arg) → rule_of a ≡ new_rule (codes "file") → b ≡ record a { num_vals = b.num_vals }
    → IsSomeAnd b.num_vals (λ r. r ≡ any_number)
    → rule_of b ≡ file_rule
file_is a b named is range =
    ap rule_of is ∙ ap₂ (λ (r : Rule) (o : Option ValueRange). record r { range = o }) named (some_is b.num_vals range)
