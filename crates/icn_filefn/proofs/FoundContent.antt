-- What a file holds as it is opened, as the row finds it.
use Rattle.std.proofs.Common.{◌≡◌, ◌∙◌, refl, sym, ap, subst, ℕ, zero, suc, ◌+◌, ◌≤◌, nat_le, Bool, true, false, List, [], ◌∷◌, length, take, Option, None, Some, Ok, Err, Vec, unwrap_or, if◌then◌else◌, option_map, arith, length-take, leb-true}
use Rattle.std.specs.Prelude.{IfSome}
use Rattle.std.specs.Map.{update}
use Rattle.std.specs.Str.{bytes_eq}
use Rattle.std.proofs.lemmas.Bool.{le-leb}
use Rattle.std.proofs.lemmas.Slice.Eq.{bytes_eq-Decides}
use Rattle.icn_host.specs.FileMaps.{FileMap, NotHeld, Reads}
use Rattle.icn_profile.specs.Numbers.{most_bytes_of_opened}
use Rattle.icn_value.specs.declared.mode.FileMode.{FileMode}
use Rattle.icn_value.specs.declared.mode.FileMode.TheVariants.{ToRead, ToWrite, ToAdd}
use Rattle.icn_value.specs.Store.{Setting, no_files}
use Rattle.icn_defs.specs.Files.{content_by}
use Rattle.icn_defs.specs.OpenFiles.{is_read_by}
use Rattle.icn_defs.specs.Rows.{Fails, Row, fails_unless, thing_or_failure}
use Rattle.icn_vars.specs.declared.outcome.Halt.TheVariants.{FileFault, NoMemory, WriteFault}
use Rattle.icn_filefn.specs.OpenParts.{FindsContent, FindsOfSome, setting_after_finding}

-- What the row finds under a name

-- this is there
row_there : (mode : FileMode) → (mode ≡ ToWrite → ⊥) → (name bytes : List ℕ) (s : Setting) → s.outside.files name ≡ Some bytes
    → (next : List ℕ → Row) → content_by mode name next s
    ≡ fails_unless (nat_le (length bytes) most_bytes_of_opened) (next bytes) (setting_after_finding mode name s)
row_there ToRead asked name bytes s is next =
    ap (λ (found : Option (List ℕ)). thing_or_failure found
    (λ content. fails_unless (nat_le (length content) most_bytes_of_opened) (next content)) (setting_after_finding ToRead name s)) is
row_there ToWrite asked name bytes s is next = absurd (asked refl)
row_there ToAdd asked name bytes s is next =
    ap (λ (found : Option (List ℕ)). fails_unless (nat_le (length (unwrap_or found [])) most_bytes_of_opened) (next (unwrap_or found []))
    (setting_after_finding ToAdd name s)) is

-- nothing is there
absent_read : (name : List ℕ) (s : Setting) → s.outside.files name ≡ None → (next : List ℕ → Row)
    → content_by ToRead name next s ≡ Fails (setting_after_finding ToRead name s)
absent_read name s is next =
    ap (λ (found : Option (List ℕ)). thing_or_failure found
    (λ content. fails_unless (nat_le (length content) most_bytes_of_opened) (next content)) (setting_after_finding ToRead name s)) is

absent_added : (name : List ℕ) (s : Setting) → s.outside.files name ≡ None → (next : List ℕ → Row)
    → content_by ToAdd name next s ≡ next [] (setting_after_finding ToAdd name s)
absent_added name s is next =
    ap (λ (found : Option (List ℕ)). fails_unless (nat_le (length (unwrap_or found [])) most_bytes_of_opened) (next (unwrap_or found []))
    (setting_after_finding ToAdd name s)) is

-- How much was read

taken_whole : (count : ℕ) (bytes : List ℕ) → length bytes ≤ count → take count bytes ≡ bytes
taken_whole zero [] few = refl
taken_whole zero (byte ∷ bytes) few = absurd (omega arith)
taken_whole (suc count) [] few = refl
taken_whole (suc count) (byte ∷ bytes) few = ap (λ (rest : List ℕ). byte ∷ rest) (taken_whole count bytes (omega arith))

-- where so many bytes at most were asked for and one more, and no more than these came, all came
whole_length : (most : ℕ) (bytes content : List ℕ) → content ≡ take (most + 1) bytes → length content ≤ most → length bytes ≤ most
whole_length most bytes content is few =
    let size : length content ≡ length (take (most + 1) bytes) = ap length is in omega (arith, size, few, length-take (most + 1) bytes)

whole_read : (most : ℕ) (bytes content : List ℕ) → content ≡ take (most + 1) bytes → length content ≤ most → content ≡ bytes
whole_read most bytes content is few =
    is ∙ taken_whole (most + 1) bytes (let less = whole_length most bytes content is few in omega arith)

long_read : (most : ℕ) (bytes content : List ℕ) → content ≡ take (most + 1) bytes → nat_le (length content) most ≡ false → nat_le (length bytes) most ≡ false
long_read most bytes content is more = by (nat_le (length bytes) most) refl
  where
    by : (t : Bool) → nat_le (length bytes) most ≡ t → nat_le (length bytes) most ≡ false
    by true few =
        let size : length content ≡ length (take (most + 1) bytes) = ap length is in
        let less : length bytes ≤ most = leb-true (length bytes) most few in
        absurd (clash (sym (le-leb (length content) most (omega (arith, size, less, length-take (most + 1) bytes))) ∙ more))
      where
        clash : true ≡ false → ⊥
        clash e = cc
    by false few = few

-- Files of which what is told is true

-- a name holds this, and no other name anything
abbrev alone : List ℕ → Option (List ℕ) → FileMap
alone name content = update bytes_eq no_files name content

holds_alone : (name : List ℕ) (content : Option (List ℕ)) → alone name content name ≡ content
holds_alone name content = rw ((bytes_eq-Decides name name).1 refl) refl

-- some files hold bytes under the name of which these are the first
pub record FoundSo (name content : List ℕ) (held : Option FileMap) : Type 0 where
  pub files : FileMap
  pub allowed : IfSome held (λ told. (n : List ℕ) → told n ≡ files n)
  pub bytes : List ℕ
  pub there : files name ≡ Some bytes
  pub taken : content ≡ take (most_bytes_of_opened + 1) bytes

pub found_so : (name content : List ℕ) (held : Option FileMap) → Reads held name (most_bytes_of_opened + 1) [] content
    → length content ≤ most_bytes_of_opened + 1 → FoundSo name content held
found_so name content None reads few = record {
  files = alone name (Some content);
  allowed = tt;
  bytes = content;
  there = holds_alone name (Some content);
  taken = sym (taken_whole (most_bytes_of_opened + 1) content few);
}
found_so name content (Some files) reads few = record {
  files = files;
  allowed = λ n. refl;
  bytes = reads.0;
  there = reads.1;
  taken = reads.2;
}

-- some files hold nothing under it
pub record AbsentSo (name : List ℕ) (held : Option FileMap) : Type 0 where
  pub files : FileMap
  pub allowed : IfSome held (λ told. (n : List ℕ) → told n ≡ files n)
  pub there : files name ≡ None

pub absent_so : (name : List ℕ) (held : Option FileMap) → NotHeld held name → AbsentSo name held
absent_so name None none = record { files = no_files; allowed = tt; there = refl }
absent_so name (Some files) none = record { files = files; allowed = λ n. refl; there = none }

told_files : (held : Option FileMap) → IfSome held (λ told. (n : List ℕ) → told n ≡ unwrap_or held no_files n)
told_files None = tt
told_files (Some files) = λ n. refl

module _ {A : Type 0} (mode : FileMode) (name : List ℕ) (held : Option FileMap) where
  -- a file that is written anew is not looked for
  pub finds_new : mode ≡ ToWrite → (content : Vec ℕ A) → content.items ≡ [] → FindsOfSome mode name held (Ok (Some content))
  finds_new is content empty = record {
    files = unwrap_or held no_files;
    allowed = told_files held;
    finds = λ s told next. subst (λ (m : FileMode). content_by m name next s ≡ next content.items (setting_after_finding m name s)) (sym is)
        (ap (λ (bytes : List ℕ). next bytes s) (sym empty));
  }

  -- a fault or want of memory says nothing of it
  pub finds_fault : FindsOfSome {A = A} mode name held (Err FileFault)
  finds_fault = record { files = unwrap_or held no_files; allowed = told_files held; finds = λ s told. tt }

  pub finds_write_fault : FindsOfSome {A = A} mode name held (Err WriteFault)
  finds_write_fault = record { files = unwrap_or held no_files; allowed = told_files held; finds = λ s told. tt }

  pub finds_want : FindsOfSome {A = A} mode name held (Err NoMemory)
  finds_want = record { files = unwrap_or held no_files; allowed = told_files held; finds = λ s told. tt }

  module _ (asked : mode ≡ ToWrite → ⊥) where
    finds_by : (content : List ℕ) (so : FoundSo name content held) (t : Bool) → nat_le (length content) most_bytes_of_opened ≡ t
        → (found : Option (Vec ℕ A)) → option_map (λ given. given.items) found ≡ (if t then Some content else None)
        → (s : Setting) → ((n : List ℕ) → s.outside.files n ≡ so.files n) → FindsContent mode name s (Ok found)
    finds_by content so true few (Some given) same s told = λ next.
        let here : content ≡ so.bytes = whole_read most_bytes_of_opened so.bytes content so.taken (leb-true (length content) most_bytes_of_opened few) in
        let items : given.items ≡ content = inside same in
        row_there mode asked name so.bytes s (told name ∙ so.there) next
        ∙ ap (λ (t : Bool). fails_unless t (next so.bytes) (setting_after_finding mode name s))
        (le-leb (length so.bytes) most_bytes_of_opened (whole_length most_bytes_of_opened so.bytes content so.taken
        (leb-true (length content) most_bytes_of_opened few)))
        ∙ ap (λ (bytes : List ℕ). next bytes (setting_after_finding mode name s)) (sym (items ∙ here))
      where
        inside : {a b : List ℕ} → Some a ≡ Some b → a ≡ b
        inside e = cc
    finds_by content so true few None same s told = absurd (never content same)
      where
        never : (c : List ℕ) → (let none : Option (List ℕ) = None in none) ≡ Some c → ⊥
        never c e = cc
    finds_by content so false more (Some given) same s told = absurd (never given.items same)
      where
        never : (c : List ℕ) → Some c ≡ (let none : Option (List ℕ) = None in none) → ⊥
        never c e = cc
    finds_by content so false more None same s told = λ next.
        row_there mode asked name so.bytes s (told name ∙ so.there) next
        ∙ ap (λ (t : Bool). fails_unless t (next so.bytes) (setting_after_finding mode name s))
        (long_read most_bytes_of_opened so.bytes content so.taken more)

    -- it was read
    pub finds_read : (content : List ℕ) → FoundSo name content held → (found : Option (Vec ℕ A))
        → option_map (λ given. given.items) found ≡ (if nat_le (length content) most_bytes_of_opened then Some content else None)
        → FindsOfSome mode name held (Ok found)
    finds_read content so found same = record {
      files = so.files;
      allowed = so.allowed;
      finds = λ s told. finds_by content so (nat_le (length content) most_bytes_of_opened) refl found same s told;
    }

  absent_by : (m : FileMode) → (m ≡ ToWrite → ⊥) → (found : Option (Vec ℕ A))
      → option_map (λ given. given.items) found ≡ (if is_read_by m then None else Some [])
      → (s : Setting) → s.outside.files name ≡ None → FindsContent m name s (Ok found)
  absent_by ToRead asked None same s none = λ next. absent_read name s none next
  absent_by ToRead asked (Some given) same s none = absurd (never given.items same)
    where
      never : (c : List ℕ) → Some c ≡ (let none : Option (List ℕ) = None in none) → ⊥
      never c e = cc
  absent_by ToWrite asked found same s none = absurd (asked refl)
  absent_by ToAdd asked None same s none = absurd (never [] same)
    where
      never : (c : List ℕ) → (let none : Option (List ℕ) = None in none) ≡ Some c → ⊥
      never c e = cc
  absent_by ToAdd asked (Some given) same s none = λ next.
      absent_added name s none next ∙ ap (λ (bytes : List ℕ). next bytes (setting_after_finding ToAdd name s)) (sym (inside same))
    where
      inside : {a b : List ℕ} → Some a ≡ Some b → a ≡ b
      inside e = cc

  -- there was none
  pub finds_absent : (mode ≡ ToWrite → ⊥) → AbsentSo name held → (found : Option (Vec ℕ A))
      → option_map (λ given. given.items) found ≡ (if is_read_by mode then None else Some [])
      → FindsOfSome mode name held (Ok found)
  finds_absent asked so found same = record {
    files = so.files;
    allowed = so.allowed;
    finds = λ s told. absent_by mode asked found same s (told name ∙ so.there);
  }
