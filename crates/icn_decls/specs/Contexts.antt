-- What stands round a place of a procedure.
use Rattle.std.specs.Prelude.{Bool, true, false, List, [], ◌∷◌, if◌then◌else◌}
use Rattle.icn_tree.specs.declared.rule.Rule.TheVariants.{C2, C3, C4}
use Rattle.icn_tree.specs.declared.rule.Rule.{Rule}
use Rattle.icn_tree.specs.declared.tree.Place.{Place}

-- A rule that is broken at a place.
pub record BrokenRule : Type 0 where
  pub rule : Rule
  pub place : Place

-- Whether a place stands in a `create`, and the loops round it up to that `create` or the procedure, the innermost first:
-- each by whether `next` may stand there.
pub record Context : Type 0 where
  pub in_create : Bool
  pub loops : List Bool

-- in a procedure, outside its loops
abbrev pub outermost : Context
outermost = record { in_create = false; loops = [] }

-- what a co-expression evaluates
abbrev pub create_context : Context
create_context = record { in_create = true; loops = [] }

-- in one more loop, where `next` may stand or not
abbrev pub enter_loop : Bool → Context → Context
enter_loop next context = record { in_create = context.in_create; loops = next ∷ context.loops }

-- the loops outside the innermost one
abbrev pub others : List Bool → List Bool
others [] = []
others (loop ∷ loops) = loops

-- outside the innermost loop
abbrev pub leave_loop : Context → Context
leave_loop context = record { in_create = context.in_create; loops = others context.loops }

-- this rule is broken at this place
abbrev pub fault : Rule → Place → List BrokenRule
fault rule place = record { rule = rule; place = place } ∷ []

-- `return`, `fail` and `suspend`
abbrev pub result_faults : Context → Place → List BrokenRule
result_faults context place = if context.in_create then fault C4 place else []

-- a word of loops with no loop to belong to
abbrev pub loopless : Bool → Rule → Place → List BrokenRule
loopless in_create rule place = if in_create then fault C4 place else fault rule place

-- a `break` breaks no rule in a loop
abbrev pub break_by : Bool → List Bool → Place → List BrokenRule
break_by in_create [] place = loopless in_create C2 place
break_by in_create (loop ∷ loops) place = []

-- the rules that a `break` breaks in this context
abbrev pub break_faults : Context → Place → List BrokenRule
break_faults context place = break_by context.in_create context.loops place

-- a `next` breaks no rule in a loop where it may stand
abbrev pub next_by : Bool → List Bool → Place → List BrokenRule
next_by in_create [] place = loopless in_create C3 place
next_by in_create (next ∷ loops) place = if next then [] else fault C3 place

-- the rules that a `next` breaks in this context
abbrev pub next_faults : Context → Place → List BrokenRule
next_faults context place = next_by context.in_create context.loops place
