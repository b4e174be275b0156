-- A line whose words are replaced, read with the texts that are read again on a stack.
use Rattle.std.proofs.Common.{◌≡◌, ℕ, ◌+◌, ◌-◌, ◌*◌, ◌<◌, ◌≤◌, zero, suc, Bool, true, false, cond, if◌then◌else◌, ◌&&◌, not, nat_lt, List, [], ◌∷◌, ◌++◌, length, take, drop, reverse, Option, None, Some, Bor, refl, sym, ap, ◌∙◌, arith, append_assoc, ◌^◌, ◌⊎◌, inl, inr, subst}
use Rattle.std.specs.Prelude.{is_some}
use Rattle.std.specs.Cmp.Lexicographic.{nat_list_eq_equiv}
use Rattle.std.proofs.lemmas.Bool.{false≢true}
use Rattle.std.proofs.Math.Nat.{mul-le-mul_right}
use Rattle.std.proofs.lemmas.Bool.Decides.{nat_tests}
use Rattle.std.proofs.lemmas.Option.{none-some}
use Rattle.std.proofs.lemmas.List.{reverse-append, length-append, append-nil, length-drop}
use Rattle.std.specs.List.{prefix_len}
use Rattle.std.specs.Map.{lookup}
use Rattle.std.specs.Str.{bytes_eq}
use Rattle.icn_prep.specs.declared.literal.LiteralState.{LiteralState}
use Rattle.icn_prep.specs.declared.literal.LiteralState.TheVariants.{Outside, Inside, Joining, Escape, Control, Comment}
use Rattle.icn_prep.specs.LiteralStates.{after}
use Rattle.icn_prep.specs.Replacement.{ReplacedText, behind, begins_word, as_it_stands, read_from, word_read, replace_words}
use Rattle.icn_prep.specs.DefinedNames.{TextOf, without}
use Rattle.icn_tree.specs.Characters.{continues_identifier}
use Rattle.icn_prep.specs.Words.{first_word, behind_word}

-- a name that is switched off, and what stands behind it
abbrev pub Outer : Type 0
Outer = Bor (List ℕ) × Bor (List ℕ)

-- the texts that are left when these names are switched off, the innermost first
abbrev pub texts_left : TextOf → List Outer → TextOf
texts_left texts [] = texts
texts_left texts (o ∷ outer) = without (texts_left texts outer) o.0.now

-- what comes of a text and of all that stands behind it, where so many names are left
abbrev pub pending : ℕ → TextOf → List Outer → LiteralState → List ℕ → ReplacedText
pending n texts [] state rest = replace_words n texts state rest
pending n texts (o ∷ outer) state rest =
    let read = replace_words n (texts_left texts (o ∷ outer)) state rest in
    behind read.bytes (pending (suc n) texts outer read.state o.1.now)

behind_behind : (a b : List ℕ) (read : ReplacedText) → behind (a ++ b) read ≡ behind a (behind b read)
behind_behind a b read = ap (λ bytes. let r : ReplacedText = record { bytes = bytes; state = read.state } in r) (append_assoc a b read.bytes)

-- what comes first of a text comes first of all
pub pending_by : (n : ℕ) (texts : TextOf) (outer : List Outer) (state onward : LiteralState) (rest left front : List ℕ)
    → replace_words n (texts_left texts outer) state rest ≡ behind front (replace_words n (texts_left texts outer) onward left)
    → pending n texts outer state rest ≡ behind front (pending n texts outer onward left)
pending_by n texts [] state onward rest left front h = h
pending_by n texts (o ∷ outer) state onward rest left front h =
    ap (λ read. behind read.bytes (pending (suc n) texts outer read.state o.1.now)) h
    ∙ behind_behind front (replace_words n (texts_left texts (o ∷ outer)) onward left).bytes
    (pending (suc n) texts outer (replace_words n (texts_left texts (o ∷ outer)) onward left).state o.1.now)

-- bytes that were taken are skipped
skips : (becomes : List ℕ → ReplacedText) (n : ℕ) (state : LiteralState) (rest : List ℕ)
    → read_from becomes n state rest ≡ read_from becomes zero state (drop n rest)
skips becomes zero state rest = refl
skips becomes (suc n) state [] = refl
skips becomes (suc n) state (b ∷ rest) = skips becomes n state rest

-- a byte that begins no word
byte_by : (becomes : List ℕ → ReplacedText) (state : LiteralState) (b : ℕ) (rest : List ℕ) → begins_word state b ≡ false
    → read_from becomes zero state (b ∷ rest) ≡ behind (b ∷ []) (read_from becomes zero (after state b) rest)
byte_by becomes state b rest h = rw h refl

pub byte_read : (n : ℕ) (texts : TextOf) (state : LiteralState) (b : ℕ) (rest : List ℕ) → begins_word state b ≡ false
    → replace_words n texts state (b ∷ rest) ≡ behind (b ∷ []) (replace_words n texts (after state b) rest)
byte_read zero texts state b rest h = byte_by as_it_stands state b rest h
byte_read (suc n) texts state b rest h = byte_by (λ word. word_read (replace_words n) texts word (texts word)) state b rest h

-- a word at the front
word_by : (becomes : List ℕ → ReplacedText) (state : LiteralState) (b : ℕ) (rest : List ℕ) → begins_word state b ≡ true
    → let count = prefix_len continues_identifier rest in let read = becomes (b ∷ take count rest) in
    read_from becomes zero state (b ∷ rest) ≡ behind read.bytes (read_from becomes zero read.state (drop count rest))
word_by becomes state b rest h =
    let count = prefix_len continues_identifier rest in
    let read = becomes (b ∷ take count rest) in
    rw h (ap (behind read.bytes) (skips becomes count read.state rest))

pub begun : (state : LiteralState) (b : ℕ) → begins_word state b ≡ true → (state ≡ Outside) × (continues_identifier b ≡ true)
begun Outside b h = (refl, h)
begun (Inside q) b h = absurd (false≢true h)
begun (Joining q) b h = absurd (false≢true h)
begun (Escape q) b h = absurd (false≢true h)
begun (Control q) b h = absurd (false≢true h)
begun Comment b h = absurd (false≢true h)

-- what a word becomes, where so many names are left
abbrev becomes : ℕ → TextOf → List ℕ → ReplacedText
becomes zero texts word = as_it_stands word
becomes (suc n) texts word = word_read (replace_words n) texts word (texts word)

word_front : (n : ℕ) (texts : TextOf) (b : ℕ) (rest : List ℕ) → continues_identifier b ≡ true
    → let count = prefix_len continues_identifier rest in let read = becomes n texts (b ∷ take count rest) in
    replace_words n texts Outside (b ∷ rest) ≡ behind read.bytes (replace_words n texts read.state (drop count rest))
word_front zero texts b rest h = word_by as_it_stands Outside b rest h
word_front (suc n) texts b rest h = word_by (λ word. word_read (replace_words n) texts word (texts word)) Outside b rest h

front_by : (b : ℕ) (rest : List ℕ) (first : Bool) → first ≡ true
    → (take (cond first (1 + prefix_len continues_identifier rest) 0) (b ∷ rest) ≡ b ∷ take (prefix_len continues_identifier rest) rest)
    × (drop (cond first (1 + prefix_len continues_identifier rest) 0) (b ∷ rest) ≡ drop (prefix_len continues_identifier rest) rest)
front_by b rest first h =
    let same : 1 + prefix_len continues_identifier rest ≡ suc (prefix_len continues_identifier rest) = omega arith in
    (rw (h, same) refl, rw (h, same) refl)

front_of : (b : ℕ) (rest : List ℕ) → continues_identifier b ≡ true
    → (first_word (b ∷ rest) ≡ b ∷ take (prefix_len continues_identifier rest) rest)
    × (behind_word (b ∷ rest) ≡ drop (prefix_len continues_identifier rest) rest)
front_of b rest h = front_by b rest (continues_identifier b) h

-- a word at the front, by the code's cut
pub word_first : (n : ℕ) (texts : TextOf) (b : ℕ) (others rest word left : List ℕ) → continues_identifier b ≡ true → rest ≡ b ∷ others → word ≡ first_word rest
    → left ≡ behind_word rest
    → let read = becomes n texts word in replace_words n texts Outside rest ≡ behind read.bytes (replace_words n texts read.state left)
word_first n texts b others rest word left h is w l =
    let parts = front_of b others h in
    let here : word ≡ b ∷ take (prefix_len continues_identifier others) others = w ∙ (ap first_word is ∙ parts.0) in
    let there : left ≡ drop (prefix_len continues_identifier others) others = l ∙ (ap behind_word is ∙ parts.1) in
    rw (is, here, there) (word_front n texts b others h)

-- switching off more names, the outer ones first
left_append : (texts : TextOf) (xs ys : List Outer) → texts_left texts (xs ++ ys) ≡ texts_left (texts_left texts ys) xs
left_append texts [] ys = refl
left_append texts (o ∷ xs) ys = ap (λ (left : TextOf). without left o.0.now) (left_append texts xs ys)

abbrev is_off : List ℕ → List Outer → Bool
is_off word entries = is_some (lookup (λ name. bytes_eq word name.now) entries)

nothing : (b : Bool) → let none : Option (List ℕ) = None in cond b none none ≡ none
nothing true = refl
nothing false = refl

off_by : (here : Bool) (there : Bool) (o : Outer) (found : Option (Bor (List ℕ))) (text : Option (List ℕ)) → is_some found ≡ there
    → cond there None (cond here None text) ≡ cond (is_some (cond here (Some o.1) found)) None text
off_by true there o found text e = nothing there
off_by false there o found text e = ap (λ b. cond b None text) (sym e)

-- the text of a word that is left, by a look among the names that are switched off
pub left_at : (entries : List Outer) (texts : TextOf) (word : List ℕ) → texts_left texts (reverse entries) word ≡ cond (is_off word entries) None (texts word)
left_at [] texts word = refl
left_at (o ∷ entries) texts word =
    ap (λ es. texts_left texts es word) (reverse-append (o ∷ []) entries)
    ∙ (ap (λ (left : TextOf). left word) (left_append texts (reverse entries) (o ∷ []))
    ∙ (left_at entries (without texts o.0.now) word
    ∙ (ap (λ here. cond (is_off word entries) None (cond here None (texts word))) (nat_list_eq_equiv.symm o.0.now word)
    ∙ off_by (bytes_eq word o.0.now) (is_off word entries) o (lookup (λ name. bytes_eq word name.now) entries) (texts word) refl)))

-- how reading a line stands
pub record ReadSo (count : ℕ) (texts : TextOf) (literal : LiteralState) (line : List ℕ) (most : ℕ) (given : List ℕ) (entries : List Outer)
    (state : LiteralState) (rest : List ℕ) : Type 0 where
  pub whole : replace_words count texts literal line ≡ behind given (pending (count - length entries) texts (reverse entries) state rest)
  pub within : length given ≤ most
  pub depth : length entries ≤ count

read_none : (n : ℕ) (texts : TextOf) (state : LiteralState) → replace_words n texts state [] ≡ (let r : ReplacedText = record { bytes = []; state = state } in
    r)
read_none zero texts state = refl
read_none (suc n) texts state = refl

-- a text ended, and no other stands round it
pub so_ends : (count : ℕ) (texts : TextOf) (literal : LiteralState) (line : List ℕ) (most : ℕ) (given : List ℕ) (entries : List Outer) (state : LiteralState)
    (rest : List ℕ)
    → ReadSo count texts literal line most given entries state rest → entries ≡ [] → rest ≡ []
    → replace_words count texts literal line ≡ (let r : ReplacedText = record { bytes = given; state = state } in r)
so_ends count texts literal line most given entries state rest so none end =
    let at_end : replace_words count texts literal line ≡ behind given (pending (count - length entries) texts (reverse entries) state rest) = so.whole in
    at_end
    ∙ (ap (λ es. behind given (pending (count - length es) texts (reverse es) state rest)) none
    ∙ (ap (λ r. behind given (replace_words (count - 0) texts state r)) end
    ∙ (ap (behind given) (read_none (count - 0) texts state)
    ∙ ap (λ bytes. let r : ReplacedText = record { bytes = bytes; state = state } in r) (append-nil given))))

reversed : (entries others : List Outer) (o : Outer) → entries ≡ others ++ o ∷ [] → reverse entries ≡ o ∷ reverse others
reversed entries others o is = ap reverse is ∙ reverse-append others (o ∷ [])

-- a text ended, and what stands behind its name comes next
pub so_pops : (count : ℕ) (texts : TextOf) (literal : LiteralState) (line : List ℕ) (most : ℕ) (given : List ℕ) (entries others : List Outer) (o : Outer)
    (state : LiteralState) (rest : List ℕ)
    → ReadSo count texts literal line most given entries state rest → entries ≡ others ++ o ∷ [] → rest ≡ []
    → ReadSo count texts literal line most given others state o.1.now
so_pops count texts literal line most given entries others o state rest so is end =
    let len : length entries ≡ length others + 1 = ap length is ∙ length-append others (o ∷ []) in
    let deep : length entries ≤ count = so.depth in
    let level : suc (count - length entries) ≡ count - length others = omega arith in
    let n = count - length entries in
    record {
      whole =
          so.whole
          ∙ (ap (λ es. behind given (pending n texts es state rest)) (reversed entries others o is)
          ∙ (ap (λ r. behind given (pending n texts (o ∷ reverse others) state r)) end
          ∙ (ap (λ (read : ReplacedText). behind given (behind read.bytes (pending (suc n) texts (reverse others) read.state o.1.now)))
          (read_none n (texts_left texts (o ∷ reverse others)) state)
          ∙ ap (λ m. behind given (pending m texts (reverse others) state o.1.now)) level)));
      within = so.within;
      depth = omega arith;
    }

becomes_by : (n : ℕ) (texts : TextOf) (word : List ℕ) → (n ≡ 0) ⊎ (texts word ≡ None) → becomes n texts word ≡ as_it_stands word
becomes_by zero texts word h = refl
becomes_by (suc n) texts word (inl h) = absurd (omega arith)
becomes_by (suc n) texts word (inr h) = ap (word_read (replace_words n) texts word) h

-- whether a word has a text that it is replaced by, as the code looks
abbrev pub chosen : ℕ → TextOf → List Outer → List ℕ → Option (List ℕ)
chosen count texts entries word = if nat_lt (length entries) count && not (is_off word entries) then texts word else None

stays_by : (n count len : ℕ) (low off : Bool) (text left : Option (List ℕ)) → (low ≡ false → n ≡ 0) → left ≡ cond off None text
    → None ≡ cond (low && not off) text None → (n ≡ 0) ⊎ (left ≡ None)
stays_by n count len false off text left none is h = inl (none refl)
stays_by n count len true true text left none is h = inr is
stays_by n count len true false text left none is h = inr (is ∙ sym h)

stays : (count : ℕ) (texts : TextOf) (entries : List Outer) (word : List ℕ) → None ≡ chosen count texts entries word
    → becomes (count - length entries) (texts_left texts (reverse entries)) word ≡ as_it_stands word
stays count texts entries word h =
    becomes_by (count - length entries) (texts_left texts (reverse entries)) word
    (stays_by (count - length entries) count (length entries) (nat_lt (length entries) count) (is_off word entries) (texts word)
    (texts_left texts (reverse entries) word)
    (λ low. grind (arith, nat_tests)) (left_at entries texts word) h)

pub record Goes (count : ℕ) (texts : TextOf) (entries : List Outer) (word text : List ℕ) : Type 0 where
  pub low : length entries < count
  pub on : is_off word entries ≡ false
  pub has : texts_left texts (reverse entries) word ≡ Some text

goes_by : (low off : Bool) (text : Option (List ℕ)) (found : List ℕ) → Some found ≡ cond (low && not off) text None
    → (low ≡ true) × (off ≡ false) × (text ≡ Some found)
goes_by false off text found h = absurd (none-some found (sym h))
goes_by true true text found h = absurd (none-some found (sym h))
goes_by true false text found h = (refl, refl, sym h)

pub goes : (count : ℕ) (texts : TextOf) (entries : List Outer) (word text : List ℕ) → Some text ≡ chosen count texts entries word
    → Goes count texts entries word text
goes count texts entries word text h =
    let parts = goes_by (nat_lt (length entries) count) (is_off word entries) (texts word) text h in
    record {
      low = (let low : nat_lt (length entries) count ≡ true = parts.0 in grind (arith, nat_tests));
      on = parts.1;
      has = left_at entries texts word ∙ (ap (λ off. cond off None (texts word)) parts.1 ∙ parts.2);
    }

-- a word that stays
pub word_stays : (count : ℕ) (texts : TextOf) (entries : List Outer) (b : ℕ) (others rest word left : List ℕ) → continues_identifier b ≡ true
    → rest ≡ b ∷ others → word ≡ first_word rest → left ≡ behind_word rest
    → None ≡ chosen count texts entries word
    → pending (count - length entries) texts (reverse entries) Outside rest
    ≡ behind word (pending (count - length entries) texts (reverse entries) Outside left)
word_stays count texts entries b others rest word left h is w l none =
    let n = count - length entries in
    let t = texts_left texts (reverse entries) in
    pending_by n texts (reverse entries) Outside Outside rest left word
    (word_first n t b others rest word left h is w l
    ∙ ap (λ (read : ReplacedText). behind read.bytes (replace_words n t read.state left)) (stays count texts entries word none))

pub byte_stays : (count : ℕ) (texts : TextOf) (entries : List Outer) (state : LiteralState) (b : ℕ) (others rest : List ℕ) → begins_word state b ≡ false
    → rest ≡ b ∷ others
    → pending (count - length entries) texts (reverse entries) state rest
    ≡ behind (b ∷ []) (pending (count - length entries) texts (reverse entries) (after state b) others)
byte_stays count texts entries state b others rest h is =
    let n = count - length entries in
    let t = texts_left texts (reverse entries) in
    pending_by n texts (reverse entries) state (after state b) rest others (b ∷ [])
    (ap (replace_words n t state) is ∙ byte_read n t state b others h)

-- bytes that stay join the given ones
pub so_gives : (count : ℕ) (texts : TextOf) (literal : LiteralState) (line : List ℕ) (most : ℕ) (given : List ℕ) (entries : List Outer)
    (state onward : LiteralState) (rest left front : List ℕ)
    → ReadSo count texts literal line most given entries state rest
    → pending (count - length entries) texts (reverse entries) state rest ≡ behind front (pending (count - length entries) texts (reverse entries) onward left)
    → length given + length front ≤ most → ReadSo count texts literal line most (given ++ front) entries onward left
so_gives count texts literal line most given entries state onward rest left front so step l =
    let len = length-append given front in
    record {
      whole = so.whole ∙ (ap (behind given) step ∙ sym (behind_behind given front (pending (count - length entries) texts (reverse entries) onward left)));
      within = omega arith;
      depth = so.depth;
    }

-- there are more bytes than may be given
pub so_long : (count : ℕ) (texts : TextOf) (literal : LiteralState) (line : List ℕ) (most : ℕ) (given : List ℕ) (entries : List Outer)
    (state onward : LiteralState) (rest left front : List ℕ)
    → ReadSo count texts literal line most given entries state rest
    → pending (count - length entries) texts (reverse entries) state rest ≡ behind front (pending (count - length entries) texts (reverse entries) onward left)
    → most < length given + length front → most < length (replace_words count texts literal line).bytes
so_long count texts literal line most given entries state onward rest left front so step l =
    let p = pending (count - length entries) texts (reverse entries) onward left in
    let whole : (replace_words count texts literal line).bytes
    ≡ given ++ (front ++ p.bytes) = ap (λ (read : ReplacedText). read.bytes) (so.whole ∙ ap (behind given) step) in
    let len : length (replace_words count texts literal line).bytes ≡ length given + (length front + length p.bytes) = ap length whole
    ∙ (length-append given (front ++ p.bytes) ∙ ap (λ n. length given + n) (length-append front p.bytes)) in
    omega arith

-- a word is replaced: its text comes next
pub so_pushes : (count : ℕ) (texts : TextOf) (literal : LiteralState) (line : List ℕ) (most : ℕ) (given : List ℕ) (entries : List Outer) (b : ℕ)
    (others rest : List ℕ) (word left : Bor (List ℕ)) (text : List ℕ)
    → ReadSo count texts literal line most given entries Outside rest → continues_identifier b ≡ true → rest ≡ b ∷ others → word.now ≡ first_word rest
    → left.now ≡ behind_word rest
    → Goes count texts entries word.now text → ReadSo count texts literal line most given (entries ++ (word, left) ∷ []) Outside text
so_pushes count texts literal line most given entries b others rest word left text so h is w l g =
    let es = reverse entries in
    let t = texts_left texts es in
    let m = count - (length entries + 1) in
    let len : length (entries ++ (word, left) ∷ []) ≡ length entries + 1 = length-append entries ((word, left) ∷ []) in
    let low : length entries < count = g.low in
    let level : count - length entries ≡ suc m = omega arith in
    let read = replace_words m (without t word.now) Outside text in
    let step : pending (suc m) texts es Outside rest ≡ pending m texts ((word, left) ∷ es) Outside text =
    pending_by (suc m) texts es Outside read.state rest left.now read.bytes
    (word_first (suc m) t b others rest word.now left.now h is w l
    ∙ ap (λ found. let r = word_read (replace_words m) t word.now found in behind r.bytes (replace_words (suc m) t r.state left.now)) g.has) in
    record {
      whole =
          so.whole
          ∙ (ap (λ n. behind given (pending n texts es Outside rest)) level
          ∙ (ap (behind given) step
          ∙ (ap (λ (os : List Outer). behind given (pending m texts os Outside text)) (sym (reversed (entries ++ (word, left) ∷ []) entries (word, left) refl))
          ∙ ap (λ n. behind given (pending (count - n) texts (reverse (entries ++ (word, left) ∷ [])) Outside text)) (sym len))));
      within = so.within;
      depth = omega arith;
    }

-- how much work is left: at most so much for each byte of a text, where so many names are left
abbrev pub weight : ℕ → ℕ
weight zero = 1
weight (suc n) = 2 + 2 ^ 64 * weight n

abbrev pub work_behind : ℕ → List Outer → ℕ
work_behind n [] = 0
work_behind n (o ∷ outer) = 1 + length o.1.now * weight (suc n) + work_behind (suc n) outer

abbrev pub work_left : ℕ → List Outer → List ℕ → ℕ
work_left count entries rest = length rest * weight (count - length entries) + work_behind (count - length entries) (reverse entries)

weight_some : (n : ℕ) → 0 < weight n
weight_some zero = omega arith
weight_some (suc n) = omega arith

pub less_bytes : (count : ℕ) (entries : List Outer) (rest left : List ℕ) → length left < length rest
    → work_left count entries left < work_left count entries rest
less_bytes count entries rest left l =
    let w = weight (count - length entries) in
    let some : 0 < w = weight_some (count - length entries) in
    let more : (length left + 1) * w ≤ length rest * w = mul-le-mul_right w (omega arith) in
    omega arith

fewer : (a b before after w : ℕ) → before ≡ 0 * w + (1 + a + b) → after ≡ a + b → after < before
fewer a b before after w now next = omega arith

less_by : (before after x y : ℕ) → before ≡ x → after ≡ y → y < x → after < before
less_by before after x y now next l = omega arith

paid : (a b t w x k u : ℕ) → k ≡ 2 + u → (a + 1) * k ≤ b * k → t * w ≤ u → t * w + (1 + a * k + x) < b * k + x
paid a b t w x k u is more less = omega arith

pub less_names : (count : ℕ) (entries : List Outer) (rest : List ℕ) (word left : Bor (List ℕ)) (text : List ℕ) → length entries < count
    → length left.now < length rest → length text < 2 ^ 64
    → work_left count (entries ++ (word, left) ∷ []) text < work_left count entries rest
less_names count entries rest word left text low l short =
    let m = count - (length entries + 1) in
    let len : length (entries ++ (word, left) ∷ []) ≡ length entries + 1 = length-append entries ((word, left) ∷ []) in
    let level : count - length entries ≡ suc m = omega arith in
    let es = reverse entries in
    let now : work_left count entries rest ≡ length rest * weight (suc m) + work_behind (suc m) es =
    ap (λ n. length rest * weight n + work_behind n es) level in
    let next : work_left count (entries ++ (word, left) ∷ []) text ≡ length text * weight m + (1 + length left.now * weight (suc m) + work_behind (suc m) es) =
    ap (λ n. length text * weight (count - n) + work_behind (count - n) (reverse (entries ++ (word, left) ∷ []))) len
    ∙ ap (λ os. length text * weight m + work_behind m os) (reversed (entries ++ (word, left) ∷ []) entries (word, left) refl) in
    less_by _ _ _ _ now next
    (paid (length left.now) (length rest) (length text) (weight m) (work_behind (suc m) es) (weight (suc m)) (2 ^ 64 * weight m) refl
    (mul-le-mul_right (weight (suc m)) (omega arith)) (mul-le-mul_right (weight m) (omega arith)))

pub none_left : (n : ℕ) → (0 < n → ⊥) → n ≡ 0
none_left zero h = refl
none_left (suc n) h = absurd (h (omega arith))

pub not_found : {X : Type 0} (found : Option X) → is_some found ≡ false → found ≡ None
not_found None h = refl
not_found (Some x) h = absurd (false≢true (sym h))

-- the same where a word begins
pub word_given : (count : ℕ) (texts : TextOf) (entries : List Outer) (state : LiteralState) (b : ℕ) (others rest word left : List ℕ)
    → begins_word state b ≡ true → rest ≡ b ∷ others
    → word ≡ first_word rest → left ≡ behind_word rest → None ≡ chosen count texts entries word
    → pending (count - length entries) texts (reverse entries) state rest ≡ behind word (pending (count - length entries) texts (reverse entries) state left)
word_given count texts entries state b others rest word left h is w l none =
    let parts = begun state b h in
    rw parts.0 (word_stays count texts entries b others rest word left parts.1 is w l none)

pub word_replaced : (count : ℕ) (texts : TextOf) (literal : LiteralState) (line : List ℕ) (most : ℕ) (given : List ℕ) (entries : List Outer)
    (state : LiteralState) (b : ℕ) (others rest : List ℕ) (word left : Bor (List ℕ)) (text : List ℕ)
    → ReadSo count texts literal line most given entries state rest → begins_word state b ≡ true → rest ≡ b ∷ others → word.now ≡ first_word rest
    → left.now ≡ behind_word rest
    → Some text ≡ chosen count texts entries word.now → ReadSo count texts literal line most given (entries ++ (word, left) ∷ []) state text
word_replaced count texts literal line most given entries state b others rest word left text so h is w l some =
    let parts = begun state b h in
    let so' : ReadSo count texts literal line most given entries Outside rest = subst (λ s. ReadSo count texts literal line most given entries s rest) parts.0
    so in
    subst (λ s. ReadSo count texts literal line most given (entries ++ (word, left) ∷ []) s text) (sym parts.0)
    (so_pushes count texts literal line most given entries b others rest word left text so' parts.1 is w l (goes count texts entries word.now text some))

-- what stands behind a word is shorter
pub shorter : (state : LiteralState) (b : ℕ) (others rest left : List ℕ) → begins_word state b ≡ true → rest ≡ b ∷ others → left ≡ behind_word rest
    → length left < length rest
shorter state b others rest left h is l =
    let parts = front_of b others (begun state b h).1 in
    let there : length left ≡ length others - prefix_len continues_identifier others = ap length (l ∙ (ap behind_word is ∙ parts.1))
    ∙ length-drop (prefix_len continues_identifier others) others in
    let len : length rest ≡ suc (length others) = ap length is in
    omega arith
