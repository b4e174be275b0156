-- The words that rows are made of do not look at the bound of turns.
use Rattle.std.proofs.Common.{◌≡◌, ℕ, Bool, true, false, List, [], ◌∷◌, length, Option, Some, None, refl, ap, ◌∙◌}
use Rattle.std.specs.Prelude.{ℤ, pos, negsuc, Result, Ok, Err, if◌then◌else◌}
use Rattle.icn_text.specs.declared.arithmetic.Arith.{Arith}
use Rattle.icn_value.specs.Values.{Value, Text, File, Input, Output, Errout, Opened, Root, Global, Static, Local, Element, Field, Key, Keyword, KeywordVariable, Subject, Position, Random, ErrorCount, Variable, Whole, Part, Item, Val, Var}
use Rattle.icn_value.specs.Store.{Heap, OpenedFile, Setting, having_heap, having_position, having_subject}
use Rattle.icn_value.specs.declared.mode.FileMode.{FileMode}
use Rattle.icn_value.specs.declared.mode.FileMode.TheVariants.{ToRead, ToWrite, ToAdd}
use Rattle.icn_defs.specs.Conversions.{integer_of, position_of, form_of, text_made, text_of}
use Rattle.icn_defs.specs.Files.{content_by, new_file_of}
use Rattle.icn_defs.specs.InputOutput.{WriteArgument, Puts, Selects, line_put, piece_of, pieces, put_on, put_pieces, puts_line, takes_output}
use Rattle.icn_defs.specs.Lines.{bytes_from, line_from, next_bytes, next_line, next_opened_bytes, next_opened_line}
use Rattle.icn_defs.specs.OpenFiles.{Readable, FromInput, FromOpened, closed_in, readable}
use Rattle.icn_defs.specs.ReadAndAssign.{assigns_both, assigns_keyword, assigns_or, assigns_root, costs_unless, move_part, moved_by_left, moved_by_right, reads, reads_root, reads_text, stores, the_value, the_values, the_variable}
use Rattle.icn_defs.specs.Rows.{Row, Mover, Neither, Left, Right, Residual, builds, changes, changes_heap, check, costs_bytes, costs_cells, costs_made, costs_text, costs_texts, ends, fails, fails_unless, gives, gives_list, gives_value, here, natural, new_list_of, number_or_error, present, suspends, thing_or_failure, wrong}
use Rattle.law_bounds.specs.BoundedTurns.{OverlooksBound, heap_under, outcome_under, setting_under}
use Rattle.law_bounds.proofs.HeapViews.{readable_alike, root_alike, takes_alike}

module _ (bound : ℕ) where
  abbrev pub Overlooks : Row → Type 0
  Overlooks row = OverlooksBound bound row

  -- Ends

  pub o_fails : Overlooks fails
  o_fails = record { same = λ a. refl }

  pub o_gives : (i : Item) → Overlooks (gives i)
  o_gives i = record { same = λ a. refl }

  pub o_value : (v : Value) → Overlooks (gives_value v)
  o_value v = record { same = λ a. refl }

  pub o_suspends : (i : Item) (r : Residual) → Overlooks (suspends i r)
  o_suspends i r = record { same = λ a. refl }

  pub o_wrong : (k : ℕ) (v : Option Value) → Overlooks (wrong k v)
  o_wrong k v = record { same = λ a. refl }

  pub o_ends : (k : ℕ) → Overlooks (ends k)
  o_ends k = record { same = λ a. refl }

  -- Checks

  pub w_check : (t : Bool) (k : ℕ) (v : Option Value) (next : Row) → Overlooks next → Overlooks (check t k v next)
  w_check true k v next f = record { same = λ a. f.same a }
  w_check false k v next f = record { same = λ a. refl }

  pub w_present : {A : Type 0} (o : Option A) (k : ℕ) (v : Option Value) (next : A → Row) → ((x : A) → Overlooks (next x))
      → Overlooks (present o k v next)
  w_present (Some x) k v next f = record { same = λ a. (f x).same a }
  w_present None k v next f = record { same = λ a. refl }

  pub w_computed : (o : Result ℤ Arith) (next : ℤ → Row) → ((x : ℤ) → Overlooks (next x)) → Overlooks (number_or_error o next)
  w_computed (Ok x) next f = record { same = λ a. (f x).same a }
  w_computed (Err k) next f = record { same = λ a. refl }

  pub w_passing : (t : Bool) (next : Row) → Overlooks next → Overlooks (fails_unless t next)
  w_passing true next f = record { same = λ a. f.same a }
  w_passing false next f = record { same = λ a. refl }

  pub w_found : {A : Type 0} (o : Option A) (next : A → Row) → ((x : A) → Overlooks (next x)) → Overlooks (thing_or_failure o next)
  w_found (Some x) next f = record { same = λ a. (f x).same a }
  w_found None next f = record { same = λ a. refl }

  pub w_natural : (k : ℤ) (v : Value) (next : ℕ → Row) → ((x : ℕ) → Overlooks (next x)) → Overlooks (natural k v next)
  w_natural (pos k) v next f = record { same = λ a. (f k).same a }
  w_natural (negsuc k) v next f = record { same = λ a. refl }

  -- The setting

  -- what goes on with the setting goes on alike under the bound
  pub w_here : (next : Setting → Row) → ((a : Setting) → next (setting_under bound a) ≡ next a) → ((a : Setting) → Overlooks (next a)) → Overlooks (here next)
  w_here next e f = record { same = λ a. ap (λ (row : Row). row (setting_under bound a)) (e a) ∙ (f a).same a }

  pub w_changes : (change : Setting → Setting) (next : Row) → ((a : Setting) → change (setting_under bound a) ≡ setting_under bound (change a))
      → Overlooks next → Overlooks (changes change next)
  w_changes change next e f = record { same = λ a. ap next (e a) ∙ f.same (change a) }

  pub w_heap : (change : Heap → Heap) (next : Row) → ((h : Heap) → change (heap_under bound h) ≡ heap_under bound (change h)) → Overlooks next
      → Overlooks (changes_heap change next)
  w_heap change next e f = record {
    same = λ a. ap (λ (h : Heap). next (record a { world = record a.world { heap = h } })) (e a.world.heap)
        ∙ f.same (having_heap change a);
  }

pub ruleset checks = (
  refl,
  o_fails,
  o_gives,
  o_value,
  o_suspends,
  o_wrong,
  o_ends,
  w_check,
  w_present,
  w_computed,
  w_passing,
  w_found,
  w_natural,
  w_here,
  w_changes,
  w_heap,
)

module _ (bound : ℕ) where
  -- Charges

  pub w_bytes : (n : ℕ) (next : Row) → Overlooks bound next → Overlooks bound (costs_bytes n next)
  w_bytes n next f = w_here bound _ (λ a. refl) (λ a. w_check bound _ _ _ _ (w_heap bound _ _ (λ h. refl) f))

  pub w_cells : (n : ℕ) (next : Row) → Overlooks bound next → Overlooks bound (costs_cells n next)
  w_cells n next f = w_here bound _ (λ a. refl) (λ a. w_check bound _ _ _ _ (w_heap bound _ _ (λ h. refl) f))

  pub w_made : (o : Option (List ℕ)) (next : Row) → Overlooks bound next → Overlooks bound (costs_made o next)
  w_made None next f = f
  w_made (Some text) next f = w_bytes (length text) next f

  pub w_text : (v : Value) (next : Row) → Overlooks bound next → Overlooks bound (costs_text v next)
  w_text v next f = w_made (text_made (form_of v)) next f

  pub w_texts : (vs : List Value) (next : Row) → Overlooks bound next → Overlooks bound (costs_texts vs next)
  w_texts [] next f = f
  w_texts (v ∷ vs) next f = w_text v (costs_texts vs next) (w_texts vs next f)

  pub w_builds : (text : List ℕ) → Overlooks bound (builds text)
  w_builds text = w_bytes (length text) (gives_value (Text text)) (o_value bound (Text text))

pub ruleset charges = (checks, w_bytes, w_cells, w_made, w_text, w_texts, w_builds)

module _ (bound : ℕ) where
  pub w_new_list : (items : List Value) (next : Value → Row) → ((v : Value) → Overlooks bound (next v)) → Overlooks bound (new_list_of items next)
  w_new_list items next f = search (charges, f) depth 12

  pub w_list : (items : List Value) → Overlooks bound (gives_list items)
  w_list items = w_new_list items _ (λ v. o_value bound v)

  -- Reading variables

  pub w_root : (root : Root) (next : Value → Row) → ((v : Value) → Overlooks bound (next v)) → Overlooks bound (reads_root root next)
  w_root root next f = w_here bound _ (λ a. ap (λ (o : Option Value). present o 205 None next) (root_alike bound a root)) (λ a. w_present bound _ _ _ _ f)

  pub w_reads_text : (root : Root) (place size : ℕ) (next : List ℕ → Row) → ((text : List ℕ) → Overlooks bound (next text))
      → Overlooks bound (reads_text root place size next)
  w_reads_text root place size next f = search (charges, w_root, f) depth 12

  pub w_reads : (x : Variable) (next : Value → Row) → ((v : Value) → Overlooks bound (next v)) → Overlooks bound (reads x next)
  w_reads (Whole root) next f = w_root root next f
  w_reads (Part root place size) next f = w_reads_text root place size _ (λ text. f _)

  pub w_value : (x : Item) (next : Value → Row) → ((v : Value) → Overlooks bound (next v)) → Overlooks bound (the_value x next)
  w_value (Val v) next f = f v
  w_value (Var x) next f = w_reads x next f

  pub w_values : (xs : List Item) (next : List Value → Row) → ((vs : List Value) → Overlooks bound (next vs)) → Overlooks bound (the_values xs next)
  w_values [] next f = f []
  w_values (x ∷ xs) next f =
      w_value x (λ v. the_values xs (λ vs. next (v ∷ vs))) (λ v. w_values xs (λ vs. next (v ∷ vs)) (λ vs. f (v ∷ vs)))

  pub w_variable : (x : Item) (next : Variable → Row) → ((y : Variable) → Overlooks bound (next y)) → Overlooks bound (the_variable x next)
  w_variable (Val v) next f = o_wrong bound 111 (Some v)
  w_variable (Var x) next f = f x

  -- Assigning

  w_position : (refused : Row) (value : Value) (next : Row) → Overlooks bound refused → Overlooks bound next
      → Overlooks bound (assigns_keyword refused Position value next)
  w_position refused value next r f = record { same = λ a. by_number a (integer_of value) refl }
    where
      by_place : (a : Setting) (k : ℤ) → integer_of value ≡ Some k → (o : Option ℕ) → position_of k (length a.world.subject) ≡ o
          → assigns_keyword refused Position value next (setting_under bound a) ≡ outcome_under bound (assigns_keyword refused Position value next a)
      by_place a k is None g = rw is (rw g (r.same a))
      by_place a k is (Some place) g = rw is (rw g (f.same (having_position place a)))

      by_number : (a : Setting) (o : Option ℤ) → integer_of value ≡ o
          → assigns_keyword refused Position value next (setting_under bound a) ≡ outcome_under bound (assigns_keyword refused Position value next a)
      by_number a None is = rw is refl
      by_number a (Some k) is = by_place a k is (position_of k (length a.world.subject)) refl

  pub w_keyword : (refused : Row) (word : KeywordVariable) (value : Value) (next : Row) → Overlooks bound refused → Overlooks bound next
      → Overlooks bound (assigns_keyword refused word value next)
  w_keyword refused Subject value next r f =
      w_present bound (text_of value) 103 (Some value) _ (λ text. w_text bound value _ (w_changes bound (having_subject text) _ (λ a. refl) f))
  w_keyword refused Position value next r f = w_position refused value next r f
  w_keyword refused Random value next r f = search (charges, f) depth 12
  w_keyword refused ErrorCount value next r f = search (charges, f) depth 12

  pub w_unless : (t : Bool) (next : Row) → Overlooks bound next → Overlooks bound (costs_unless t next)
  w_unless true next f = f
  w_unless false next f = w_cells bound 1 next f

  pub w_stores : (id : ℕ) (key value : Value) (next : Row) → Overlooks bound next → Overlooks bound (stores id key value next)
  w_stores id key value next f = w_here bound _ (λ a. refl) (λ a. w_unless _ _ (w_heap bound _ _ (λ h. refl) f))

  pub w_assigns_root : (refused : Row) (root : Root) (value : Value) (next : Row) → Overlooks bound refused → Overlooks bound next
      → Overlooks bound (assigns_root refused root value next)
  w_assigns_root refused (Global place) value next r f = search (charges, f) depth 12
  w_assigns_root refused (Static place) value next r f = search (charges, f) depth 12
  w_assigns_root refused (Local place) value next r f = search (charges, f) depth 12
  w_assigns_root refused (Element id number) value next r f = w_here bound _ (λ a. refl) (λ a. w_check bound _ _ _ _ (w_heap bound _ _ (λ h. refl) f))
  w_assigns_root refused (Field id place) value next r f = search (charges, f) depth 12
  w_assigns_root refused (Key table key) value next r f = w_stores table key value next f
  w_assigns_root refused (Keyword word) value next r f = w_keyword refused word value next r f

  pub w_assigns : (refused : Row) (x : Variable) (value : Value) (next : Variable → Row) → Overlooks bound refused → ((y : Variable) → Overlooks bound (next y))
      → Overlooks bound (assigns_or refused x value next)
  w_assigns refused (Whole root) value next r f = w_assigns_root refused root value (next (Whole root)) r (f (Whole root))
  w_assigns refused (Part root place size) value next r f = w_present bound (text_of value) 103 (Some value) _ (λ new. w_reads_text root place size _
      (λ text. w_text bound value _ (w_bytes bound _ _ (w_assigns_root refused root _ _ r (f (Part root place (length new)))))))

  -- Exchanging

  w_moved : (old new : ℕ) (x : Variable) (next : Variable → Row) → ((y : Variable) → Overlooks bound (next y)) → Overlooks bound (move_part old new x next)
  w_moved old new (Whole root) next f = f (Whole root)
  w_moved old new (Part root place size) next f = search (charges, f)

  w_moved_left : (m : Mover) (old new : ℕ) (x : Variable) (next : Variable → Row) → ((y : Variable) → Overlooks bound (next y))
      → Overlooks bound (moved_by_left m old new x next)
  w_moved_left Neither old new x next f = f x
  w_moved_left Left old new x next f = w_moved old new x next f
  w_moved_left Right old new x next f = f x

  w_moved_right : (m : Mover) (old new : ℕ) (x : Variable) (next : Variable → Row) → ((y : Variable) → Overlooks bound (next y))
      → Overlooks bound (moved_by_right m old new x next)
  w_moved_right Neither old new x next f = f x
  w_moved_right Left old new x next f = f x
  w_moved_right Right old new x next f = w_moved old new x next f

  pub w_both : (refused : Row) (m : Mover) (x y : Variable) (v w : Value) (next : Variable × Variable → Row) → Overlooks bound refused
      → ((p : Variable × Variable) → Overlooks bound (next p)) → Overlooks bound (assigns_both refused m x y v w next)
  w_both refused m x y v w next r f = w_assigns refused x v _ r (λ now. w_moved_left m _ _ y _ (λ y'. w_assigns refused y' w _ r
      (λ now'. w_moved_right m _ _ now _ (λ x'. f (x', now')))))

  -- Reading and writing

  pub w_line : (next : List ℕ → Row) → ((line : List ℕ) → Overlooks bound (next line)) → Overlooks bound (next_line next)
  w_line next f = search (charges, f) depth 14

  pub w_some_bytes : (count : ℕ) (next : List ℕ → Row) → ((bytes : List ℕ) → Overlooks bound (next bytes)) → Overlooks bound (next_bytes count next)
  w_some_bytes count next f = search (charges, f) depth 14

  w_opened_line : (number : ℕ) (next : List ℕ → Row) → ((line : List ℕ) → Overlooks bound (next line)) → Overlooks bound (next_opened_line number next)
  w_opened_line number next f = search (charges, f) depth 14

  w_opened_bytes : (number count : ℕ) (next : List ℕ → Row) → ((bytes : List ℕ) → Overlooks bound (next bytes))
      → Overlooks bound (next_opened_bytes number count next)
  w_opened_bytes number count next f = search (charges, f) depth 14

  pub w_readable : (file : File) (named : Value) (next : Readable → Row) → ((from : Readable) → Overlooks bound (next from))
      → Overlooks bound (readable file named next)
  w_readable file named next f = w_here bound _ (λ a. ap (λ (o : Option Readable). present o 212 (Some named) next) (readable_alike bound a.world.heap file))
      (λ a. w_present bound _ _ _ _ f)

  pub w_line_from : (from : Readable) (next : List ℕ → Row) → ((line : List ℕ) → Overlooks bound (next line)) → Overlooks bound (line_from from next)
  w_line_from FromInput next f = w_line next f
  w_line_from (FromOpened number) next f = w_opened_line number next f

  pub w_bytes_from : (count : ℕ) (from : Readable) (next : List ℕ → Row) → ((bytes : List ℕ) → Overlooks bound (next bytes))
      → Overlooks bound (bytes_from count from next)
  w_bytes_from count FromInput next f = w_some_bytes count next f
  w_bytes_from count (FromOpened number) next f = w_opened_bytes number count next f

  -- what is put goes where it goes
  puts_alike : (file : File) (text : List ℕ) (a : Setting) → put_on file text (setting_under bound a) ≡ setting_under bound (put_on file text a)
  puts_alike Input text a = refl
  puts_alike Output text a = refl
  puts_alike Errout text a = refl
  puts_alike (Opened number) text a = refl

  -- the same pieces are put, and the last of them in the same place
  record PutsAlike (newline : List ℕ) (is_first : Bool) (parts : List WriteArgument) (file : File) (a : Setting) : Type 0 where
    same : put_pieces newline is_first parts file (setting_under bound a)
        ≡ ((put_pieces newline is_first parts file a).0, setting_under bound (put_pieces newline is_first parts file a).1)

  pieces_alike : (newline : List ℕ) (is_first : Bool) (parts : List WriteArgument) (file : File) (a : Setting) → PutsAlike newline is_first parts file a
  pieces_alike newline is_first [] file a = record { same = refl }
  pieces_alike newline is_first (Puts text ∷ parts) file a = record {
    same = ap (λ (s : Setting). put_pieces newline false parts file s) (puts_alike file text a)
        ∙ (pieces_alike newline false parts file (put_on file text a)).same;
  }
  pieces_alike newline is_first (Selects other ∷ parts) file a =
      let text = if is_first then [] else newline in
      record {
        same = ap (λ (s : Setting). put_pieces newline false parts other s) (puts_alike file text a)
            ∙ (pieces_alike newline false parts other (put_on file text a)).same;
      }

  line_alike : (newline : List ℕ) (is_first : Bool) (parts : List WriteArgument) (file : File) (a : Setting)
      → line_put newline is_first parts file (setting_under bound a) ≡ setting_under bound (line_put newline is_first parts file a)
  line_alike newline is_first parts file a =
      let end = put_pieces newline is_first parts file a in
      ap (λ (p : File × Setting). put_on p.0 newline p.1) (pieces_alike newline is_first parts file a).same ∙ puts_alike end.0 newline end.1

  -- the arguments are checked alike
  checked_alike : (t : Bool) (v : Value) (next next' : Row) (a : Setting) → next' (setting_under bound a) ≡ outcome_under bound (next a)
      → check t 213 (Some v) next' (setting_under bound a) ≡ outcome_under bound (check t 213 (Some v) next a)
  checked_alike true v next next' a e = e
  checked_alike false v next next' a e = refl

  piece_alike : (heap : Heap) (v : Value) (o : Option WriteArgument) (next next' : WriteArgument → Row) (a : Setting)
      → ((p : WriteArgument) → next' p (setting_under bound a) ≡ outcome_under bound (next p a))
      → present o 109 (Some v) (λ p. check (takes_output (heap_under bound heap) p) 213 (Some v) (next' p)) (setting_under bound a)
      ≡ outcome_under bound (present o 109 (Some v) (λ p. check (takes_output heap p) 213 (Some v) (next p)) a)
  piece_alike heap v None next next' a f = refl
  piece_alike heap v (Some p) next next' a f =
      ap (λ (t : Bool). check t 213 (Some v) (next' p) (setting_under bound a)) (takes_alike bound heap p)
      ∙ checked_alike (takes_output heap p) v (next p) (next' p) a (f p)

  pieces_checked : (heap : Heap) (vs : List Value) (next : List WriteArgument → Row) → ((ps : List WriteArgument) → Overlooks bound (next ps))
      → (a : Setting) → pieces (heap_under bound heap) vs next (setting_under bound a) ≡ outcome_under bound (pieces heap vs next a)
  pieces_checked heap [] next f a = (f []).same a
  pieces_checked heap (v ∷ vs) next f a = piece_alike heap v (piece_of v) (λ p. pieces heap vs (λ ps. next (p ∷ ps)))
      (λ p. pieces (heap_under bound heap) vs (λ ps. next (p ∷ ps))) a
      (λ p. pieces_checked heap vs (λ ps. next (p ∷ ps)) (λ ps. f (p ∷ ps)) a)

  pub w_puts : (newline : List ℕ) (file : File) (vs : List Value) (next : Row) → Overlooks bound next → Overlooks bound (puts_line newline file vs next)
  w_puts newline file vs next f = record {
    same = λ a. pieces_checked a.world.heap vs (λ ps. changes (line_put newline true ps file) next)
        (λ ps. w_changes bound _ _ (line_alike newline true ps file) f) a;
  }

  -- Opening and closing

  pub w_content : (mode : FileMode) (name : List ℕ) (next : List ℕ → Row) → ((content : List ℕ) → Overlooks bound (next content))
      → Overlooks bound (content_by mode name next)
  w_content ToRead name next f = search (charges, f) depth 14
  w_content ToWrite name next f = f []
  w_content ToAdd name next f = search (charges, f) depth 14

  pub w_new_file : (file : OpenedFile) (next : Value → Row) → ((v : Value) → Overlooks bound (next v)) → Overlooks bound (new_file_of file next)
  w_new_file file next f = search (charges, f) depth 12

  closed_alike : (file : File) (a : Setting) → closed_in file (setting_under bound a) ≡ setting_under bound (closed_in file a)
  closed_alike Input a = refl
  closed_alike Output a = refl
  closed_alike Errout a = refl
  closed_alike (Opened number) a = refl

  pub w_closes : (file : File) (next : Row) → Overlooks bound next → Overlooks bound (changes (closed_in file) next)
  w_closes file next f = w_changes bound _ _ (closed_alike file) f

pub ruleset words = (
  charges,
  w_new_list,
  w_list,
  w_reads,
  w_value,
  w_variable,
  w_unless,
  w_stores,
  w_assigns,
  w_both,
  w_readable,
  w_line_from,
  w_bytes_from,
  w_puts,
  w_content,
  w_new_file,
  w_closes,
)
