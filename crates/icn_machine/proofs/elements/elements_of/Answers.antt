use Rattle.std.proofs.Common.{[], sym, ◌∙◌, subst}
use Rattle.icn_value.specs.declared.val.Val.{Val}
use Rattle.icn_heap.specs.Extents.{IsLive}
use Rattle.icn_heap.specs.Heaps.{extent_of}
use Rattle.icn_vars.specs.Worlds.{reach_of}
use Rattle.icn_machine.specs.Invoking.{FindsElements}
use Rattle.icn_machine.proofs.ElementSteps.{no_elements, wants_memory}
use Rattle.icn_machine.proofs.elements.elements_of.Goals as goal

pub list_items-requires : goal.list_items-requires
list_items-requires c = subst (λ (x : Val). IsLive (extent_of c.args.world.now.heap) x) c.in-List.is c.requires

pub record_items-requires : goal.record_items-requires
record_items-requires c = subst (λ (x : Val). IsLive (extent_of c.args.world.now.heap) x) c.in-Rec.is c.requires

pub returns-in-List-clause-elements : goal.returns-in-List-clause-elements
returns-in-List-clause-elements c =
    subst (λ (x : Val). FindsElements c.args.world.now x c.list_items.new.items.items c.list_items.result) (sym c.in-List.is) c.list_items.ensures.elements

pub returns-in-List-clause-halt : goal.returns-in-List-clause-halt
returns-in-List-clause-halt c = wants_memory (reach_of c.args.world.now []) c.list_items.result c.list_items.ensures.halt

pub returns-in-Rec-clause-elements : goal.returns-in-Rec-clause-elements
returns-in-Rec-clause-elements c =
    subst (λ (x : Val). FindsElements c.args.world.now x c.record_items.new.items.items c.record_items.result) (sym c.in-Rec.is) c.record_items.ensures.elements

pub returns-in-Rec-clause-halt : goal.returns-in-Rec-clause-halt
returns-in-Rec-clause-halt c = wants_memory (reach_of c.args.world.now []) c.record_items.result c.record_items.ensures.halt

pub returns-in-Null-clause-elements : goal.returns-in-Null-clause-elements
returns-in-Null-clause-elements c =
    no_elements c.args.world.now c.args.from c.args.items.now.items (λ id e. let both = sym c.in-Null.is ∙ e in cc)
    (λ id e. let both = sym c.in-Null.is ∙ e in cc)

pub returns-in-Integer-clause-elements : goal.returns-in-Integer-clause-elements
returns-in-Integer-clause-elements c =
    no_elements c.args.world.now c.args.from c.args.items.now.items (λ id e. let both = sym c.in-Integer.is ∙ e in cc)
    (λ id e. let both = sym c.in-Integer.is ∙ e in cc)

pub returns-in-Text-clause-elements : goal.returns-in-Text-clause-elements
returns-in-Text-clause-elements c =
    no_elements c.args.world.now c.args.from c.args.items.now.items (λ id e. let both = sym c.in-Text.is ∙ e in cc)
    (λ id e. let both = sym c.in-Text.is ∙ e in cc)

pub returns-in-Chars-clause-elements : goal.returns-in-Chars-clause-elements
returns-in-Chars-clause-elements c =
    no_elements c.args.world.now c.args.from c.args.items.now.items (λ id e. let both = sym c.in-Chars.is ∙ e in cc)
    (λ id e. let both = sym c.in-Chars.is ∙ e in cc)

pub returns-in-Std-clause-elements : goal.returns-in-Std-clause-elements
returns-in-Std-clause-elements c =
    no_elements c.args.world.now c.args.from c.args.items.now.items (λ id e. let both = sym c.in-Std.is ∙ e in cc)
    (λ id e. let both = sym c.in-Std.is ∙ e in cc)

pub returns-in-Proc-clause-elements : goal.returns-in-Proc-clause-elements
returns-in-Proc-clause-elements c =
    no_elements c.args.world.now c.args.from c.args.items.now.items (λ id e. let both = sym c.in-Proc.is ∙ e in cc)
    (λ id e. let both = sym c.in-Proc.is ∙ e in cc)

pub returns-in-Set-clause-elements : goal.returns-in-Set-clause-elements
returns-in-Set-clause-elements c =
    no_elements c.args.world.now c.args.from c.args.items.now.items (λ id e. let both = sym c.in-Set.is ∙ e in cc)
    (λ id e. let both = sym c.in-Set.is ∙ e in cc)

pub returns-in-Table-clause-elements : goal.returns-in-Table-clause-elements
returns-in-Table-clause-elements c =
    no_elements c.args.world.now c.args.from c.args.items.now.items (λ id e. let both = sym c.in-Table.is ∙ e in cc)
    (λ id e. let both = sym c.in-Table.is ∙ e in cc)

pub returns-in-Coexp-clause-elements : goal.returns-in-Coexp-clause-elements
returns-in-Coexp-clause-elements c =
    no_elements c.args.world.now c.args.from c.args.items.now.items (λ id e. let both = sym c.in-Coexp.is ∙ e in cc)
    (λ id e. let both = sym c.in-Coexp.is ∙ e in cc)
