use Rattle.std.proofs.Common.{◌≡◌, ◌∙◌, map, slice_index_or, slice_set, sym, ap}
use Rattle.std.proofs.Math.ListN.{get_or-map}
use Rattle.std.proofs.lemmas.List.{map-set, set-get_or}
use Rattle.icn_heap.specs.Records.{kind_of, no_fields}
use Rattle.icn_heap.proofs.fields.RecordShelf.set_field.Goals as goal

pub invariant_of-self : goal.invariant_of-self
invariant_of-self c =
    let things = c.self.inside.shelf.shelf.things in
    let rec = c.args.rec in
    let kind : kind_of c.set.new.self ≡ slice_index_or (map kind_of things) rec (kind_of no_fields) =
    ap kind_of c.set.ensures ∙ (ap kind_of (c.at_mut.ensures.thing no_fields) ∙ sym (get_or-map kind_of things rec no_fields)) in
    record {
      are = c.self.invariant.are
          ∙ (sym (set-get_or (map kind_of things) rec (kind_of no_fields))
          ∙ (ap (slice_set (map kind_of things) rec) (sym kind) ∙ sym (map-set kind_of things rec c.set.new.self)));
    }
