-- Keys are equal exactly where the values are the same that they stand for.
use Rattle.std.proofs.Common.{◌≡◌, refl, sym, ap, subst, ℕ, ℤ, pos, Bool, true, false, List, []}
use Rattle.std.proofs.lemmas.Bool.Decides.{Decides-eqb, Decides-int_eq}
use Rattle.std.proofs.lemmas.Slice.Eq.{bytes_eq-Decides}
use Rattle.icn_value.specs.Values.{File, Value, Integer as IntegerValue, Text as TextValue, Chars as CharsValue, Std as StdValue, Procedure, ARecord, AList, ASet, ATable, ACoexp}
use Rattle.std.specs.Ordering.{is_eq}
use Rattle.icn_value.specs.Sameness.{ValueRank, file_rank, same, shape_cmp, shape_of}
use Rattle.icn_value.specs.Members.{members_of}
use Rattle.icn_value.specs.declared.cset.Cset.{Cset}
use Rattle.icn_value.proofs.SameValues.{same_is, same_self}
use Rattle.icn_value.proofs.CsetMembers.{words_alike}
use Rattle.icn_heap.specs.Keys.{file_of, key_value, IsKey}
use Rattle.icn_heap.specs.KeyTests.{key_eq}
use Rattle.icn_heap.specs.declared.key.Key.{Key}
use Rattle.icn_heap.specs.declared.key.Key.TheVariants.{Null, Integer, Text, Chars, Std, Proc, Rec, List as ListKey, Set, Table, Coexp}

pub by_tests : (b c : Bool) → (b ≡ true → c ≡ true) → (c ≡ true → b ≡ true) → b ≡ c
by_tests true c to back = sym (to refl)
by_tests false true to back = back refl
by_tests false false to back = refl

decided : (a b : Value) (test : Bool) → (a ≡ b → test ≡ true) → (test ≡ true → a ≡ b) → same a b ≡ test
decided a b test to back = by_tests (same a b) test (λ is. to (same_is a b is)) (λ is. rw (back is) (same_self b))

number_in : Value → ℕ
number_in (Procedure n) = n
number_in (ARecord n) = n
number_in (AList n) = n
number_in (ASet n) = n
number_in (ATable n) = n
number_in (ACoexp n) = n
number_in value = 0

integer_in : Value → ℤ
integer_in (IntegerValue n) = n
integer_in value = pos 0

bytes_in : Value → List ℕ
bytes_in (TextValue bytes) = bytes
bytes_in (CharsValue bytes) = bytes
bytes_in value = []

rank_in : Value → ℕ
rank_in (StdValue file) = file_rank file
rank_in value = 0

-- files of one rank are one file
same_files : (a b : File) → file_rank a ≡ file_rank b → StdValue a ≡ StdValue b
same_files a b is =
    same_is (StdValue a) (StdValue b) (subst (λ (n : ℕ). is_eq (shape_cmp (shape_of (StdValue a))
    (let ranked : ValueRank = record { rank = 4; text = []; number = pos n } in ranked)) ≡ true) is (same_self (StdValue a)))

same_cset : (a b : Cset) → a.words ≡ b.words → a ≡ b
same_cset a b is = ap (λ words. let c : Cset = record { words = words } in c) is

pub same_keys : (a b : Key) → IsKey a → IsKey b → same (key_value a) (key_value b) ≡ key_eq a b
unfolding key_eq number_in integer_in bytes_in rank_in
same_keys Null Null is is' = refl
same_keys (Integer a) (Integer b) is is' = decided _ _ _ (λ e. (Decides-int_eq a b).1 (ap integer_in e)) (λ t. ap IntegerValue ((Decides-int_eq a b).0 t))
same_keys (Text a) (Text b) is is' =
    decided _ _ _ (λ e. (bytes_eq-Decides a.items b.items).1 (ap bytes_in e)) (λ t. ap TextValue ((bytes_eq-Decides a.items b.items).0 t))
same_keys (Chars a) (Chars b) is is' =
    decided _ _ _
    (λ e. (bytes_eq-Decides a.words b.words).1 (words_alike a b is.formed.length is'.formed.length is.formed.words is'.formed.words (ap bytes_in e)))
    (λ t. ap (λ cset. CharsValue (members_of cset)) (same_cset a b ((bytes_eq-Decides a.words b.words).0 t)))
same_keys (Std a) (Std b) is is' =
    decided _ _ _
    (λ e. (Decides-eqb (file_rank (file_of a)) (file_rank (file_of b))).1 (ap rank_in e))
    (λ t. same_files (file_of a) (file_of b) ((Decides-eqb (file_rank (file_of a)) (file_rank (file_of b))).0 t))
same_keys (Proc a) (Proc b) is is' = decided _ _ _ (λ e. (Decides-eqb a b).1 (ap number_in e)) (λ t. ap Procedure ((Decides-eqb a b).0 t))
same_keys (Rec a) (Rec b) is is' = decided _ _ _ (λ e. (Decides-eqb a b).1 (ap number_in e)) (λ t. ap ARecord ((Decides-eqb a b).0 t))
same_keys (ListKey a) (ListKey b) is is' = decided _ _ _ (λ e. (Decides-eqb a b).1 (ap number_in e)) (λ t. ap AList ((Decides-eqb a b).0 t))
same_keys (Set a) (Set b) is is' = decided _ _ _ (λ e. (Decides-eqb a b).1 (ap number_in e)) (λ t. ap ASet ((Decides-eqb a b).0 t))
same_keys (Table a) (Table b) is is' = decided _ _ _ (λ e. (Decides-eqb a b).1 (ap number_in e)) (λ t. ap ATable ((Decides-eqb a b).0 t))
same_keys (Coexp a) (Coexp b) is is' = decided _ _ _ (λ e. (Decides-eqb a b).1 (ap number_in e)) (λ t. ap ACoexp ((Decides-eqb a b).0 t))
same_keys a b is is' = refl
