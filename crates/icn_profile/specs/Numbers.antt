-- The numbers of the profile.
use Rattle.std.specs.Prelude.{ℕ}

-- Source

-- how many bytes a file of a program has at most, and so have all lines that a named file gives
abbrev pub most_bytes_of_source : ℕ
most_bytes_of_source = 16777216

-- the greatest number that `$line` can give to a line
abbrev pub greatest_line_operand : ℕ
greatest_line_operand = 999999999

-- the greatest number of a line of a file: that one, and as many lines as a file has bytes
abbrev pub greatest_line : ℕ
greatest_line = 1016777216

-- how many bytes a name or a literal has at most
abbrev pub most_bytes_of_name : ℕ
most_bytes_of_name = 65535

-- how many digits such a literal has at most in ucode, two a byte
abbrev pub most_hexadecimal_digits : ℕ
most_hexadecimal_digits = 131070

-- the greatest integer
abbrev pub greatest_integer : ℕ
greatest_integer = 9223372036854775807

-- how high a tree is at most
abbrev pub highest_tree : ℕ
highest_tree = 2000

-- how many names one declaration has at most: the fields of a record; the parameters, locals and statics of a procedure
abbrev pub most_names : ℕ
most_names = 65535

-- Code

-- how many entries a table of a linked program has at most
abbrev pub most_entries : ℕ
most_entries = 16777216

-- how many fields a code has at most, how many records, and how many fields one of them has
abbrev pub most_fields : ℕ
most_fields = 65535

-- how many parameters and other locals a procedure of a code has together at most, and how many statics
abbrev pub most_variables : ℕ
most_variables = 65535

-- how many procedures a code has at most
abbrev pub most_procedures : ℕ
most_procedures = 16777216

-- how many statics all procedures of a code have together at most
abbrev pub most_statics : ℕ
most_statics = 4294967295

-- the numbers of code are below this one: they have 32 bits
abbrev pub number_limit : ℕ
number_limit = 4294967296

-- how many instructions a linked program has at most
abbrev pub most_instructions : ℕ
most_instructions = 16777216

-- how many bytes each of the two texts of a unit has at most
abbrev pub most_bytes_of_ucode : ℕ
most_bytes_of_ucode = 268435456

-- the greatest number in ucode
abbrev pub greatest_number : ℕ
greatest_number = 4294967295

-- how many bytes an image has at most
abbrev pub most_bytes_of_image : ℕ
most_bytes_of_image = 1073741824

-- how many bytes of a file are read at most to tell whether it is an image: one more than that
abbrev pub most_bytes_told_of_image : ℕ
most_bytes_told_of_image = 1073741825

-- the numbers in an image of the first version are below this one: they have 16 bits
abbrev pub number_limit_of_first_image : ℕ
number_limit_of_first_image = 65536

-- Runs

-- how many turns a run may be allowed, and how many it is where nothing is said
abbrev pub most_turns : ℕ
most_turns = 18446744073709551615

-- how many bytes of strings a run may be allowed, and how many it is where nothing is said
abbrev pub most_strings : ℕ
most_strings = 1099511627776

-- how many bytes of strings it is where nothing is said
abbrev pub default_strings : ℕ
default_strings = 268435456

-- how many cells of structures a run may be allowed, and how many it is where nothing is said
abbrev pub most_cells : ℕ
most_cells = 4294967295

-- how many cells it is where nothing is said
abbrev pub default_cells : ℕ
default_cells = 16777216

-- how many bytes a file has at most that a program opens to read it or to add to it
abbrev pub most_bytes_of_opened : ℕ
most_bytes_of_opened = 268435456

-- how deep calls may be allowed to be, and how deep they may be where nothing is said
abbrev pub most_levels : ℕ
most_levels = 4294967295

-- how deep they may be where nothing is said
abbrev pub default_levels : ℕ
default_levels = 20000

-- the greatest number of a program that is made by its number
abbrev pub greatest_program : ℕ
greatest_program = 2000
