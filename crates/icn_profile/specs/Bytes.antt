-- Bytes that source texts, literals and images of values give a sense to.
use Rattle.std.specs.Prelude.{ℕ}

-- `"`
abbrev pub double_quote : ℕ
double_quote = 34

-- `#`
abbrev pub number_sign : ℕ
number_sign = 35

-- `'`
abbrev pub single_quote : ℕ
single_quote = 39

-- `.`
abbrev pub full_stop : ℕ
full_stop = 46

-- `\`
abbrev pub backslash : ℕ
backslash = 92

-- `^`
abbrev pub caret : ℕ
caret = 94

-- `_`
abbrev pub underscore : ℕ
underscore = 95
