use Rattle.std.proofs.Common.{◌≢◌, ◌≤◌}
use Rattle.icn_text.specs.declared.keyword.Keyword.{Keyword}
use Rattle.icn_text.specs.Keywords.{keyword_number, keyword_name}
use Rattle.icn_text.proofs.keyword.keyword_named.Given as goal

-- none of those looked at has the name
abbrev pub invariant-loop-found : goal.invariant-loop-found
invariant-loop-found l = (any : Keyword) → keyword_number any ≤ l.found-index → keyword_name any ≢ l.name
