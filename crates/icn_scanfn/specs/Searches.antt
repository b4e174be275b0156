-- What searches are given, and what they do with it.
use Rattle.std.specs.Prelude.{◌+◌, ◌&&◌, ℕ, true, nat_lt, List, [], ◌∷◌, length, codes}
use Rattle.std.specs.List.{prefix_len}
use Rattle.icn_value.specs.Values.{Value, Chars}
use Rattle.icn_value.specs.Members.{members_of}
use Rattle.icn_defs.specs.Arguments.{arg, arg_or, cset, string}
use Rattle.icn_defs.specs.Conversions.{contains, members}
use Rattle.icn_defs.specs.Rows.{◌>>=◌, ◌>>◌, Row, Finds, costs_texts, fails_unless}
use Rattle.icn_defs.specs.Scanning.{SearchedText, among_from, balanced_from, between, byte_behind, ends_of, found_from, gives_position, region_from, stands}
use Rattle.icn_scanfn.specs.Regions.{charged_region}
use Rattle.icn_scanfn.specs.declared.balancing.Sets.{Sets as HeldSets}

-- Arguments

-- the bytes of a cset, and a text with two positions
abbrev pub cset_search : List Value → Finds (List ℕ × SearchedText)
cset_search args next = do
  bytes ← cset (arg args 0)
  region ← charged_region args 1
  next (bytes, region)

-- a text, and another one with two positions
abbrev pub text_search : List Value → Finds (List ℕ × SearchedText)
text_search args next = do
  wanted ← string (arg args 0)
  region ← region_from args 1
  costs_texts (arg args 0 ∷ arg args 1 ∷ [])
  next (wanted, region)

-- what `bal` looks for, the bytes that open and those that close
pub record Sets : Type 0 where
  pub wanted : List ℕ
  pub opening : List ℕ
  pub closing : List ℕ

-- the members of three csets
abbrev pub sets_of : HeldSets → Sets
sets_of sets = record {
  wanted = members_of sets.wanted;
  opening = members_of sets.opening;
  closing = members_of sets.closing;
}

-- the first three arguments of `bal`: all bytes and the brackets, where they are null
abbrev pub balanced_sets : List Value → Finds Sets
balanced_sets args next = do
  wanted ← cset (arg_or (Chars (members (λ byte. true))) args 0)
  opening ← cset (arg_or (Chars (codes "(")) args 1)
  closing ← cset (arg_or (Chars (codes ")")) args 2)
  next (record { wanted = wanted; opening = opening; closing = closing })

-- The rest of each row

-- the place behind the first byte, where it is of the cset
abbrev pub any_in : List ℕ → SearchedText → Row
any_in bytes region = do
  ends ← ends_of region
  fails_unless (nat_lt ends.0 ends.1 && contains bytes (byte_behind region.text ends.0))
  gives_position (ends.0 + 1)

-- the place behind the first bytes that are of the cset
abbrev pub many_in : List ℕ → SearchedText → Row
many_in bytes region = do
  ends ← ends_of region
  let count = prefix_len (contains bytes) (between region.text ends.0 ends.1)
  fails_unless (nat_lt 0 count)
  gives_position (ends.0 + count)

-- the place behind a text that stands at the first position
abbrev pub match_in : List ℕ → SearchedText → Row
match_in wanted region = do
  ends ← ends_of region
  fails_unless (stands wanted region.text ends.0 ends.1)
  gives_position (ends.0 + length wanted)

-- the places at which a text stands
abbrev pub find_in : List ℕ → SearchedText → Row
find_in wanted region = do
  ends ← ends_of region
  found_from wanted region.text ends.0 ends.1

-- the places before the bytes of a cset
abbrev pub upto_in : List ℕ → SearchedText → Row
upto_in bytes region = do
  ends ← ends_of region
  among_from bytes region.text ends.0 ends.1

-- the balanced places before the bytes of a cset
abbrev pub balanced_in : Sets → SearchedText → Row
balanced_in sets region = do
  ends ← ends_of region
  balanced_from sets.wanted sets.opening sets.closing region.text ends.0 ends.1 0
