use Rattle.std.proofs.Common.{◌≡◌, ◌∙◌, ◌≤◌, ◌++◌, ℕ, List, length, take, sym, ap, append_assoc}
use Rattle.std.proofs.lemmas.List.{take-append-le}
use Rattle.icn_strings.specs.Parts.{RegionPart}
use Rattle.icn_strings.specs.Chunks.{parts_of_chunks}
use Rattle.icn_strings.proofs.ClosedParts.{refused}
use Rattle.icn_strings.proofs.closed.Closed.put_behind.Goals as goal

-- the first parts of the block, and others behind them
behind : (packed old_chunks fresh chunks now other : List RegionPart) (after : List RegionPart) (same : ℕ) → packed ++ old_chunks ≡ now
    → fresh ++ chunks ≡ other → same ≤ length packed → after ≡ take same packed ++ fresh → after ++ chunks ≡ take same now ++ other
behind packed old_chunks fresh chunks now other after same view view_other within is =
    ap (λ (parts : List RegionPart). parts ++ chunks) is
    ∙ (append_assoc (take same packed) fresh chunks
    ∙ (ap (λ (parts : List RegionPart). take same packed ++ parts) view_other
    ∙ ap (λ (parts : List RegionPart). parts ++ other)
    (sym (take-append-le same packed old_chunks within) ∙ ap (λ (parts : List RegionPart). take same parts) view)))

pub returns-then-same-eq0-clause-put : goal.returns-then-same-eq0-clause-put
returns-then-same-eq0-clause-put c = c.fresh.view_is ∙ sym (ap (λ (n : ℕ). take n c.args.self.now ++ c.args.fresh) c.if-same-eq0.true)

pub returns-in_err-put_behind-clause-unchanged : goal.returns-in_err-put_behind-clause-unchanged
returns-in_err-put_behind-clause-unchanged c =
    refused c.from_residual.result
    (ap (λ (parts : List RegionPart). parts ++ parts_of_chunks c.self.inside.chunks.items) c.in_err-put_behind.ensures.unchanged ∙ c.self.view_is)

pub returns-clause-put : goal.returns-clause-put
returns-clause-put c =
    behind c.self.inside.packed (parts_of_chunks c.self.inside.chunks.items) c.fresh.inside.packed (parts_of_chunks c.fresh.inside.chunks.items)
    c.args.self.now c.args.fresh _ c.args.same c.self.view_is c.fresh.view_is c.in_ok-put_behind.ensures.within c.in_ok-put_behind.ensures.put
