-- What both outputs still keep behind a call.
use Rattle.std.specs.Prelude.{◌≡◌, ℕ}
use Rattle.icn_answer.specs.declared.answer.Answer.{Answer}
use Rattle.icn_answer.specs.Answers.{IsFault}

-- how many bytes are pending of the output, and of the error output
pub record PendingBytes : Type 0 where
  pub output : ℕ
  pub errors : ℕ

-- so many of each
abbrev pub pending_bytes : ℕ → ℕ → PendingBytes
pending_bytes output errors = record { output = output; errors = errors }

-- Where nothing was pending before, and no fault is answered, nothing is pending behind.
abbrev pub LeavesSettled : Answer → PendingBytes → PendingBytes → Type 0
LeavesSettled answer before after = before.output ≡ 0 → before.errors ≡ 0 → (IsFault answer → ⊥)
    → (after.output ≡ 0) × (after.errors ≡ 0)
