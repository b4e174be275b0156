use Rattle.std.proofs.Common.{◌≡◌, true, length, [], ◌∷◌, sym, ap, ◌∙◌}
use Rattle.std.proofs.lemmas.List.{length-map}
use Rattle.icn_code.specs.Codes.{records_of, procs_of, proc_of}
use Rattle.icn_code.specs.Rules.{keeps_rules, is_start}
use Rattle.test_code.proofs.KnownCodes.{test_rules}
use Rattle.test_code.proofs.verify.codes.code_of.Goals as goal

pub invariant_of-result : goal.invariant_of-result
invariant_of-result c =
    let main = c.in_ok-from_slice.ensures in
    let write = c.in_ok-from_slice-2.ensures in
    let hi = c.in_ok-from_slice-3.ensures in
    let strings = c.in_ok-vec.ensures.items in
    let integers = c.in_ok-vec-2.ensures.items in
    let fields = c.in_ok-vec-3.ensures.items in
    let globals = c.in_ok-vec-4.ensures.items in
    let csets = c.new.ensures.items in
    let records = c.new-2.ensures.items in
    let starts : is_start 0 (length (procs_of c.args.procs.items)) c.first_start.result ≡ true =
    ap (λ n. is_start 0 n c.first_start.result) (length-map c.args.procs.items proc_of ∙ sym (ap length c.deref.ensures.value)) ∙ c.first_start.ensures in
    record {
      rules =
          (λ i. keeps_rules (record {
            strings = (strings ∙ (λ j. main j ∷ write j ∷ hi j ∷ [])) i;
            csets = csets i;
            integers = integers i;
            fields = fields i;
            records = records_of (records i);
            globals = globals i;
            procs = procs_of c.args.procs.items;
          }))
          ∙ test_rules c.first_start.result (procs_of c.args.procs.items) starts c.requires.known;
    }
