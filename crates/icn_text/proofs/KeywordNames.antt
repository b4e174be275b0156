-- Each keyword stands in the list of all at the place of its number; the rest is said of that list.
use Rattle.std.proofs.Common.{◌≡◌, ◌≢◌, ◌≤◌, ◌<◌, ◌+◌, ◌-◌, ◌∙◌, zero, ℕ, Bool, true, false, cond, eqb, List as Items, [], ◌∷◌, length, Option, Some, refl, sym, ap, get_or, lit<}
use Rattle.std.specs.Prelude.{nat_le}
use Rattle.std.specs.List.{list_all}
use Rattle.std.specs.Option.{option_map_or}
use Rattle.std.specs.Str.{bytes_eq}
use Rattle.std.proofs.lemmas.Bool.{eqb-true, leb-true}
use Rattle.icn_text.specs.declared.keyword.Keyword.{Keyword}
use Rattle.icn_text.specs.declared.keyword.Keyword.TheVariants.{Ascii, Cset, Current, Digits, Errout, Fail, Input, Lcase, Letters, Level, Main, Null, Output, Pos, Random, Source, Subject, Ucase, Error, ErrorNumber, ErrorValue, ErrorText}
use Rattle.icn_text.specs.declared.keyword.TheConstants.Keyword.{ALL}
use Rattle.icn_text.specs.Keywords.{keyword_number, keyword_name}
use Rattle.icn_text.proofs.Listed as listed

keyword_at : (any default : Keyword) → get_or ALL (keyword_number any - 1) default ≡ any
keyword_at Ascii default = refl
keyword_at Cset default = refl
keyword_at Current default = refl
keyword_at Digits default = refl
keyword_at Errout default = refl
keyword_at Fail default = refl
keyword_at Input default = refl
keyword_at Lcase default = refl
keyword_at Letters default = refl
keyword_at Level default = refl
keyword_at Main default = refl
keyword_at Null default = refl
keyword_at Output default = refl
keyword_at Pos default = refl
keyword_at Random default = refl
keyword_at Source default = refl
keyword_at Subject default = refl
keyword_at Ucase default = refl
keyword_at Error default = refl
keyword_at ErrorNumber default = refl
keyword_at ErrorValue default = refl
keyword_at ErrorText default = refl

-- what all of the list pass is passed by each
pub every_keyword : (test : Keyword → Bool) → list_all test ALL ≡ true → (any : Keyword) → test any ≡ true
every_keyword = listed.each_passes keyword_number ALL (lit< tt) keyword_at

-- what is found under the number of one is this one
pub keyword_found : (found : Option Keyword) (any : Keyword) → option_map_or (λ x. eqb (keyword_number x) (keyword_number any)) found false ≡ true
    → found ≡ Some any
keyword_found = listed.found_again keyword_number ALL (lit< tt) keyword_at

pub keyword_within : (any : Keyword) → keyword_number any ≤ length ALL
keyword_within any = leb-true (keyword_number any) (length ALL) (every_keyword (λ x. nat_le (keyword_number x) (length ALL)) refl any)

-- one more is looked at, which has another name
pub no_more : (index : ℕ) (default : Keyword) (name found : Items ℕ) → found ≡ keyword_name (get_or ALL index default) → bytes_eq found name ≡ false
    → ((any : Keyword) → keyword_number any ≤ index → keyword_name any ≢ name) → (any : Keyword) → keyword_number any ≤ index + 1 → keyword_name any ≢ name
no_more = listed.no_more keyword_number ALL (lit< tt) keyword_at keyword_name

-- the number of the first that has this name
number_of : Items Keyword → Items ℕ → ℕ
number_of [] name = zero
number_of (any ∷ others) name = cond (bytes_eq (keyword_name any) name) (keyword_number any) (number_of others name)

number_found : (any : Keyword) → number_of ALL (keyword_name any) ≡ keyword_number any
unfolding number_of
number_found any =
    eqb-true (number_of ALL (keyword_name any)) (keyword_number any) (every_keyword (λ x. eqb (number_of ALL (keyword_name x)) (keyword_number x)) refl any)

pub one_name : (a b : Keyword) → keyword_name a ≡ keyword_name b → a ≡ b
one_name a b same = listed.one_number keyword_number ALL (lit< tt) keyword_at a b (sym (number_found a) ∙ ap (number_of ALL) same ∙ number_found b)
