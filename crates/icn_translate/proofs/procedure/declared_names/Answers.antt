use Rattle.std.proofs.Common.{◌≡◌, length, map, ap, arith}
use Rattle.std.specs.List.{flat_map}
use Rattle.icn_tree.specs.TreeOf.{locals_of}
use Rattle.icn_translate.specs.NumbersTaken.{local_numbers}
use Rattle.icn_translate.specs.ProcCodes.{local_texts, texts_of}
use Rattle.icn_translate.proofs.DraftStarts.{all_declared}
use Rattle.icn_translate.proofs.procedure.declared_names.Goals as goal

pub returns-clause-names : goal.returns-clause-names
returns-clause-names c =
    all_declared (map (λ name. name.now) c.new-names.result.keys) (map (λ name. name.now) c.enter_names.new.names.keys)
    (map (λ name. name.now) c.enter_locals.new.names.keys)
    (texts_of c.args.procedure.now.parameters.items) (flat_map local_texts (map locals_of c.args.procedure.now.locals.items)) _ _
    (ap (map (λ name. name.now)) c.new-names.ensures.empty) (ap texts_of c.deref.ensures.value)
    (ap (λ rows. flat_map local_texts (map locals_of rows)) c.deref-2.ensures.value)
    c.in_ok-enter_names.ensures.names c.in_ok-enter_locals.ensures.names

pub returns-clause-given : goal.returns-clause-given
returns-clause-given c =
    let none : length c.new-names.result.keys ≡ 0 = ap length c.new-names.ensures.empty in
    let first : length c.deref.result.now ≡ length c.args.procedure.now.parameters.items = ap length c.deref.ensures.value in
    let others : local_numbers (map locals_of c.deref-2.result.now) ≡ local_numbers (map locals_of c.args.procedure.now.locals.items) =
    ap (λ rows. local_numbers (map locals_of rows)) c.deref-2.ensures.value in
    omega (arith, none, first, others, c.in_ok-enter_names.ensures.given, c.in_ok-enter_locals.ensures.given)

pub enter_names-requires : goal.enter_names-requires
enter_names-requires c =
    let none : length c.new-names.result.keys ≡ 0 = ap length c.new-names.ensures.empty in
    let first : length c.deref.result.now ≡ length c.args.procedure.now.parameters.items = ap length c.deref.ensures.value in
    omega (arith, none, first, c.requires)

pub enter_locals-requires : goal.enter_locals-requires
enter_locals-requires c =
    let none : length c.new-names.result.keys ≡ 0 = ap length c.new-names.ensures.empty in
    let first : length c.deref.result.now ≡ length c.args.procedure.now.parameters.items = ap length c.deref.ensures.value in
    let others : local_numbers (map locals_of c.deref-2.result.now) ≡ local_numbers (map locals_of c.args.procedure.now.locals.items) =
    ap (λ rows. local_numbers (map locals_of rows)) c.deref-2.ensures.value in
    omega (arith, none, first, others, c.in_ok-enter_names.ensures.given, c.requires)
