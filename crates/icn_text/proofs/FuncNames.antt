-- Each function stands in the list of all at the place of its number; the rest is said of that list.
use Rattle.std.proofs.Common.{◌≡◌, ◌≢◌, ◌≤◌, ◌<◌, ◌+◌, ◌-◌, ◌∙◌, zero, ℕ, Bool, true, false, cond, eqb, List as Items, [], ◌∷◌, length, Option, Some, refl, sym, ap, get_or, lit<}
use Rattle.std.specs.Prelude.{nat_le, nat_lt, pred}
use Rattle.std.specs.List.{list_all}
use Rattle.std.specs.Option.{option_map_or}
use Rattle.std.specs.Str.{bytes_eq}
use Rattle.std.proofs.lemmas.Bool.{eqb-true, leb-true, ltb-true}
use Rattle.icn_text.specs.declared.func.Func.{Func}
use Rattle.icn_text.specs.declared.func.Func.TheVariants.{Abs, Any, Bal, Center, Char, Copy, Cset, Delete, Exit, Find, Get, Iand, Icom, Image, Insert, Integer, Ior, Ishift, Ixor, Key, Left, List, Many, Map, Match, Member, Move, Numeric, Ord, Pop, Pos, Pull, Push, Put, Read, Reads, Repl, Reverse, Right, Seq, Set, Sort, Stop, String, Tab, Table, Trim, TypeOf, Upto, Write, Writes, ErrorClear, Open, Close, Proc, Args}
use Rattle.icn_text.specs.declared.func.TheConstants.Func.{ALL}
use Rattle.icn_text.specs.Funcs.{func_number, func_name}
use Rattle.icn_text.proofs.Listed as listed

func_at : (any default : Func) → get_or ALL (func_number any - 1) default ≡ any
func_at Abs default = refl
func_at Any default = refl
func_at Bal default = refl
func_at Center default = refl
func_at Char default = refl
func_at Copy default = refl
func_at Cset default = refl
func_at Delete default = refl
func_at Exit default = refl
func_at Find default = refl
func_at Get default = refl
func_at Iand default = refl
func_at Icom default = refl
func_at Image default = refl
func_at Insert default = refl
func_at Integer default = refl
func_at Ior default = refl
func_at Ishift default = refl
func_at Ixor default = refl
func_at Key default = refl
func_at Left default = refl
func_at List default = refl
func_at Many default = refl
func_at Map default = refl
func_at Match default = refl
func_at Member default = refl
func_at Move default = refl
func_at Numeric default = refl
func_at Ord default = refl
func_at Pop default = refl
func_at Pos default = refl
func_at Pull default = refl
func_at Push default = refl
func_at Put default = refl
func_at Read default = refl
func_at Reads default = refl
func_at Repl default = refl
func_at Reverse default = refl
func_at Right default = refl
func_at Seq default = refl
func_at Set default = refl
func_at Sort default = refl
func_at Stop default = refl
func_at String default = refl
func_at Tab default = refl
func_at Table default = refl
func_at Trim default = refl
func_at TypeOf default = refl
func_at Upto default = refl
func_at Write default = refl
func_at Writes default = refl
func_at ErrorClear default = refl
func_at Open default = refl
func_at Close default = refl
func_at Proc default = refl
func_at Args default = refl

-- what all of the list pass is passed by each
pub every_func : (test : Func → Bool) → list_all test ALL ≡ true → (any : Func) → test any ≡ true
every_func = listed.each_passes func_number ALL (lit< tt) func_at

-- what is found under the number of one is this one
pub func_found : (found : Option Func) (any : Func) → option_map_or (λ x. eqb (func_number x) (func_number any)) found false ≡ true → found ≡ Some any
func_found = listed.found_again func_number ALL (lit< tt) func_at

pub func_within : (any : Func) → func_number any ≤ length ALL
func_within any = leb-true (func_number any) (length ALL) (every_func (λ x. nat_le (func_number x) (length ALL)) refl any)

-- the number from 0 on is below how many there are
pub func_below : (any : Func) → pred (func_number any) < length ALL
func_below any = ltb-true (pred (func_number any)) (length ALL) (every_func (λ x. nat_lt (pred (func_number x)) (length ALL)) refl any)

-- one more is looked at, which has another name
pub no_more : (index : ℕ) (default : Func) (name found : Items ℕ) → found ≡ func_name (get_or ALL index default) → bytes_eq found name ≡ false
    → ((any : Func) → func_number any ≤ index → func_name any ≢ name) → (any : Func) → func_number any ≤ index + 1 → func_name any ≢ name
no_more = listed.no_more func_number ALL (lit< tt) func_at func_name

-- the number of the first that has this name
number_of : Items Func → Items ℕ → ℕ
number_of [] name = zero
number_of (any ∷ others) name = cond (bytes_eq (func_name any) name) (func_number any) (number_of others name)

number_found : (any : Func) → number_of ALL (func_name any) ≡ func_number any
unfolding number_of
number_found any = eqb-true (number_of ALL (func_name any)) (func_number any) (every_func (λ x. eqb (number_of ALL (func_name x)) (func_number x)) refl any)

pub one_name : (a b : Func) → func_name a ≡ func_name b → a ≡ b
one_name a b same = listed.one_number func_number ALL (lit< tt) func_at a b (sym (number_found a) ∙ ap (number_of ALL) same ∙ number_found b)
