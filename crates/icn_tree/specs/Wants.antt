-- What a form could take in of the tokens behind it.
use Rattle.std.specs.Prelude.{Bool, false, ◌&&◌, ◌||◌, Option}
use Rattle.icn_tree.specs.declared.token.Kind.{Kind}
use Rattle.icn_tree.specs.Trees.{Tree, Empty, To, If, Loop, Repeat, Create, Break, Return, Suspend, Absent, Present}
use Rattle.icn_tree.specs.Levels.{is_present, begins, goes_on, is_else, is_do, is_by}

-- The form could take the next token in as part of its own last operand, its `else`, its `do` or its `by`. What its operand
-- could take in, that operand says.
abbrev pub wants : Tree → Option Kind → Bool
wants Empty next = begins next
wants (Break place value) next = goes_on 1 next && is_present value
wants (Return place value) next = goes_on 1 next && is_present value
wants (Suspend place value Absent) next = is_do next || (goes_on 1 next && is_present value)
wants (Suspend place value (Present body)) next = goes_on 1 next
wants (If place condition first Absent) next = is_else next || goes_on 1 next
wants (If place condition first (Present other)) next = goes_on 1 next
wants (Loop place kind control Absent) next = is_do next || goes_on 1 next
wants (Loop place kind control (Present body)) next = goes_on 1 next
wants (Repeat place body) next = goes_on 1 next
wants (Create place body) next = goes_on 1 next
wants (To place from to Absent) next = is_by next
wants _ next = false
