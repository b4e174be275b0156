-- What holds of the parts of a segment.
use Rattle.std.specs.Prelude.{◌≡◌, ℕ, List, length}
use denote.RawPtr.{Ptr}

-- where the block begins, its places, and the right to free it belong to one block of 256 places of one allocator
pub record IsBlock {A X : Type 0} (alloc : A) (start at : Ptr) (places : List X) (deed : Ptr) (count : ℕ) (owner : A) : Type 0 where
  pub begins : at ≡ start
  pub long : length places ≡ 256
  pub freed : deed ≡ start
  pub counted : count ≡ 256
  pub owned : owner ≡ alloc
