use Rattle.std.proofs.Common.{◌≡◌, ◌∙◌, sym, ap}
use Rattle.icn_strfn.specs.declared.layouts.Layout.{Layout}
use Rattle.icn_strfn.specs.declared.layouts.Layout.TheVariants.{Left, Right, Center}
use Rattle.icn_strfn.specs.Layouts.{laid_out}
use Rattle.icn_strfn.proofs.MadePieces.{left_field, right_field, center_field}
use Rattle.icn_strfn.proofs.layouts.field_of.Goals as goal

pub returns-in-Left-clause-field : goal.returns-in-Left-clause-field
returns-in-Left-clause-field c text fill same =
    let chosen : laid_out Left text c.args.width fill ≡ laid_out c.args.layout text c.args.width fill =
    ap (λ (layout : Layout). laid_out layout text c.args.width fill) (sym c.in-Left.is) in
    left_field text fill c.args.len c.args.width c.saturating_sub-missing.result c.saturating_sub-lost.result same c.saturating_sub-missing.ensures
    c.saturating_sub-lost.ensures
    ∙ chosen

pub returns-in-Right-clause-field : goal.returns-in-Right-clause-field
returns-in-Right-clause-field c text fill same =
    let chosen : laid_out Right text c.args.width fill ≡ laid_out c.args.layout text c.args.width fill =
    ap (λ (layout : Layout). laid_out layout text c.args.width fill) (sym c.in-Right.is) in
    right_field text fill c.args.len c.args.width c.saturating_sub-missing.result c.saturating_sub-lost.result same c.saturating_sub-missing.ensures
    c.saturating_sub-lost.ensures
    ∙ chosen

pub returns-in-Center-clause-field : goal.returns-in-Center-clause-field
returns-in-Center-clause-field c text fill same =
    let chosen : laid_out Center text c.args.width fill ≡ laid_out c.args.layout text c.args.width fill =
    ap (λ (layout : Layout). laid_out layout text c.args.width fill) (sym c.in-Center.is) in
    center_field text fill c.args.len c.args.width c.saturating_sub-missing.result c.saturating_sub-lost.result same c.saturating_sub-missing.ensures
    c.saturating_sub-lost.ensures
    ∙ chosen
