-- The number of each leads back to it.
use Rattle.std.proofs.Common.{◌≡◌, eqb, false, Some as Found, refl}
use Rattle.std.specs.Option.{option_map_or}
use Rattle.icn_text.specs.declared.keyword.Keyword.{Keyword}
use Rattle.icn_text.specs.Keywords.{keyword_number}
use Rattle.icn_text.proofs.KeywordNames.{every_keyword, keyword_found}
use Rattle.icn_defs.specs.Numbers.{keyword_of}

pub keyword_back : (any : Keyword) → keyword_of (keyword_number any) ≡ Found any
keyword_back any =
    keyword_found (keyword_of (keyword_number any)) any
    (every_keyword (λ x. option_map_or (λ y. eqb (keyword_number y) (keyword_number x)) (keyword_of (keyword_number x)) false) refl any)
