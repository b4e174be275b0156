-- What the automaton finds in front of some tokens is exactly a part by the grammar.
use Rattle.std.proofs.Common.{◌≡◌, ℕ, zero, suc, ◌≤◌, Bool, true, false, ◌&&◌, List, [], ◌∷◌, Option, Some, None, refl, sym, ap, subst, ◌∙◌, arith}
use Rattle.std.proofs.lemmas.Option.{none-some, same_Some}
use Rattle.icn_tree.specs.declared.token.Token.{Token}
use Rattle.icn_tree.specs.Trees.{Tree, Trees, Clauses}
use Rattle.icn_tree.specs.Grammar.{Part, Spells}
use Rattle.icn_expr.proofs.Automaton.{ReadingState, Starting, Climbing, Closing, Finished, Broken, run}
use Rattle.icn_expr.specs.Automata as G
use Rattle.icn_expr.specs.Automata.{Builds}
use Rattle.icn_expr.specs.Reading.{steps_left, result, expression_read}
use Rattle.icn_expr.proofs.MeantParts.{Leads, one_more, part_read, optional_read}
use Rattle.icn_expr.proofs.Complete.{every_tree_found}
use Rattle.icn_expr.proofs.ReadByGrammar.{Ends, ends_alone}
use Rattle.icn_expr.proofs.Sound.{reads_part}
use Rattle.icn_expr.proofs.SameSteps.{Shows, shown, run_shown}
use Rattle.icn_expr.proofs.AutomatonEnds.{comes_to}

closed : (tree : Tree) (present : Bool) (after : List Token) → Leads (Closing tree present [] after) tree after
unfolding run
closed tree present after = one_more _ tree after (record { steps = 0; is = refl })

leads : (level : ℕ) (tree : Tree) (here after : List Token) → Part level tree (Spells tree) here after → Ends level tree after
    → Leads (Starting level [] here) tree after
leads zero tree here after p e = optional_read tree (every_tree_found tree) [] here after tree after p e (closed tree _ after)
leads (suc level) tree here after p e =
    part_read level tree (every_tree_found tree) [] here after tree after p (ends_alone level tree here after p e) (closed tree true after)

-- a part in front of the tokens
pub record IsPart {V : Type 0} (show : Tree → V) (level : ℕ) (value : V) (here after : List Token) : Type 0 where
  pub tree : Tree
  pub part : Part level tree (Spells tree) here after
  pub ends : Ends level tree after
  pub is : value ≡ show tree

module _ (V L C : Type 0) (make : Builds V L C) (show : Shows V L C make) where
  pub expression_found : (level : ℕ) (tree : Tree) (here after : List Token) → Part level tree (Spells tree) here after → Ends level tree after
      → expression_read make level here ≡ Some (show.tree tree, after)
  expression_found level tree here after p e =
      let l = leads level tree here after p e in
      let there : G.run make l.steps (G.Starting level [] here)
      ≡ G.Finished (show.tree tree) after = sym (run_shown V L C make show l.steps (Starting level [] here)) ∙ ap (shown V L C make show) l.is in
      ap result (comes_to V L C make l.steps (G.Starting level [] here) (show.tree tree) after there)

  finished_at : (state : ReadingState) (value : V) (after : List Token) → result (shown V L C make show state) ≡ Some (value, after)
      → (tree : Tree) × (state ≡ Finished tree after) × (value ≡ show.tree tree)
  finished_at (Starting level frames tokens) value after e = absurd (none-some (value, after) e)
  finished_at (Climbing level place tree frames tokens) value after e = absurd (none-some (value, after) e)
  finished_at (Closing tree present frames tokens) value after e = absurd (none-some (value, after) e)
  finished_at (Finished tree tokens) value after e =
      let same = same_Some (show.tree tree, tokens) (value, after) e in
      (tree, ap (λ (r : V × List Token). Finished tree r.1) same, sym (ap (λ (r : V × List Token). r.0) same))
  finished_at Broken value after e = absurd (none-some (value, after) e)

  pub expression_sound : (level : ℕ) (here after : List Token) (value : V) → level ≤ 12 → expression_read make level here ≡ Some (value, after)
      → IsPart show.tree level value here after
  expression_sound level here after value bound e =
      let n : ℕ = steps_left {V = V} {L = L} {C = C} (G.Starting level [] here) in
      let f = finished_at (run n (Starting level [] here)) value after (ap result (run_shown V L C make show n (Starting level [] here)) ∙ e) in
      let s = reads_part level here after f.0 n bound f.1 in
      record { tree = f.0; part = s.0; ends = s.1; is = f.2 }
