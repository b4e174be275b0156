-- What is kept of the declarations that are read.
use Rattle.std.specs.Prelude.{List, [], ◌∷◌, ◌++◌, Option, Some, None}
use Rattle.std.specs.Option.{option_map}
use Rattle.icn_tree.specs.declared.tree.Place.{Place}
use Rattle.icn_tree.specs.Trees.{Tree, Trees, Initial, NoInitial, Initially, Declaration, Global, Link, Invocable, Record, ProcedureOf}
use Rattle.icn_expr.specs.Capped.{WithHeight, kept_tree}
use Rattle.icn_parse.specs.FileReading.{ProcedureOver, DeclarationOver, GlobalOver, LinkOver, InvocableOver, RecordOver, ProcedureIs}

-- a procedure whose trees are kept up to a height, and are else known by being too high
abbrev pub CappedProcedure : Type 0
CappedProcedure = ProcedureOver (WithHeight Tree) (WithHeight Trees)

-- a declaration whose trees are kept up to a height
abbrev pub CappedDeclaration : Type 0
CappedDeclaration = DeclarationOver (WithHeight Tree) (WithHeight Trees)

-- a declaration without a tree that is too high, or the name of the procedure that has one
pub data Finish : Type 0 where
  IsKept : Declaration → Finish
  IsTooHigh : Place → Finish

-- the `initial` clause of a procedure, unless its tree is too high
abbrev pub finish_initial : Option (Place × WithHeight Tree) → Option Initial
finish_initial None = Some NoInitial
finish_initial (Some initial) = option_map (Initially initial.0) (kept_tree initial.1)

-- a procedure is kept where each of its trees is, and is else too high at its name
abbrev pub finish_procedure : CappedProcedure → Option Initial → Option Trees → Finish
finish_procedure p (Some initial) (Some body) = IsKept (ProcedureOf (record {
  place = p.place;
  name = p.name;
  parameters = p.parameters;
  is_variadic = p.is_variadic;
  locals = p.locals;
  initial = initial;
  body = body;
}))
finish_procedure p _ _ = IsTooHigh p.name.place

-- a declaration is kept, unless a tree of it is too high
abbrev pub finish : CappedDeclaration → Finish
finish (GlobalOver place names) = IsKept (Global place names)
finish (LinkOver place items) = IsKept (Link place items)
finish (InvocableOver place items) = IsKept (Invocable place items)
finish (RecordOver place name fields) = IsKept (Record place name fields)
finish (ProcedureIs p) = finish_procedure p (finish_initial p.initial) (kept_tree p.body)

-- where the first tree that is too high stands
abbrev pub high_with : Option Place → Finish → Option Place
high_with (Some place) finish = Some place
high_with None (IsTooHigh place) = Some place
high_with None (IsKept declaration) = None

-- what is kept so far, with this declaration where it is kept
abbrev pub done_with : List Declaration → Finish → List Declaration
done_with done (IsKept declaration) = done ++ declaration ∷ []
done_with done (IsTooHigh place) = done

-- what is kept in the end, behind what was kept so far
abbrev pub kept_declarations : Option Place → List Declaration → List CappedDeclaration
    → Option Place × List Declaration
kept_declarations high done [] = (high, done)
kept_declarations high done (declaration ∷ others) =
    kept_declarations (high_with high (finish declaration)) (done_with done (finish declaration)) others
