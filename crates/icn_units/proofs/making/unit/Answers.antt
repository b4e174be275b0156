use Rattle.std.proofs.Common.{◌≡◌, true, map, ap, sym, subst, ◌∙◌}
use Rattle.std.specs.List.{list_all}
use Rattle.icn_tree.specs.TreeOf.{declaration_of, declarations_of}
use Rattle.icn_translate.specs.FileUnits.{proc_codes, unit_decls}
use Rattle.icn_translate.specs.NumbersTaken.{HaveRoom}
use Rattle.icn_unit.specs.UnitViews.{decl_seen, proc_seen}
use Rattle.icn_units.specs.TypeBounds.{bytes_fit, numbers_fit}
use Rattle.icn_units.proofs.RoomOfFiles.{checked_room}
use Rattle.icn_units.proofs.RulesKept.{checked_keeps_rules}
use Rattle.icn_units.proofs.making.unit.Goals as goal

pub invariant_of-result : goal.invariant_of-result
invariant_of-result c =
    let procs = map proc_seen c.in_ok-procs.procs.items in
    let decls = map decl_seen c.in_ok-decls.decls.items in
    record {
      rules = checked_keeps_rules (declarations_of c.file-text.result.now) c.file-text.ensures.spelled c.file-text.ensures.context procs decls
          (c.in_ok-procs.ensures ∙ ap (λ ds. proc_codes (map declaration_of ds)) c.deref.ensures.value)
          (c.in_ok-decls.ensures ∙ ap (λ ds. unit_decls (map declaration_of ds)) c.deref-2.ensures.value)
          (subst (λ ps. list_all numbers_fit (map proc_seen ps) ≡ true) c.deref-3.ensures.value c.codes_fit.ensures)
          (subst (λ ds. list_all bytes_fit (map decl_seen ds) ≡ true) c.deref-4.ensures.value c.decls_fit.ensures);
    }

pub proc_codes-requires : goal.proc_codes-requires
proc_codes-requires c = record {
  room = subst (λ ds. HaveRoom (map declaration_of ds)) (sym c.deref.ensures.value)
      (checked_room (declarations_of c.file-text.result.now) c.file-text.ensures.spelled);
}
