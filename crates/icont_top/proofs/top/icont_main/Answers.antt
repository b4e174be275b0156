use Rattle.std.proofs.Common.{map}
use Rattle.std.specs.Prelude.{string_bytes}
use Rattle.std.specs.Option.{option_map}
use Rattle.icn_run_answer.proofs.CountCauses.{faultless_of}
use Rattle.icn_run_answer.proofs.Reports.{line_of_reports}
use Rattle.icn_answer.proofs.ToldContent.{if_some_elim, if_some_intro}
use Rattle.icont_words.specs.declared.words.Task.TheVariants as Held
use Rattle.icont_words.specs.Asking.{run_seen}
use Rattle.icont_words.specs.Words.{Generate, Link, Translate}
use Rattle.icont_top.proofs.AnswersGiven.{task_commanded}
use Rattle.icont_top.proofs.WholeCommand.{answered_of, complete_by, headline_of, link_misses, names_asked, number_misses, outcome_of, ran_of, task_asked, units_miss, words_called, words_done, words_end, words_miss, words_reported, words_tell, written_of}
use Rattle.icn_text.specs.WordTexts.{texts}
use Rattle.icont_top.proofs.top.icont_main.Goals as goal

pub returns-in-Ok-Translate-clause-outcome : goal.returns-in-Ok-Translate-clause-outcome
returns-in-Ok-Translate-clause-outcome g c =
    outcome_of (map string_bytes c.args.words.now) c.translate_answer.result _ _ (g.F.Files.state c.args.files.now).held
    (c.translate_answer.ensures.done (map string_bytes c.args.words.now) (g.I.Source.left c.args.input.now) (g.I.Source.counts c.args.input.now)
    (g.O.Sink.state c.args.out.now)
    (names_asked (map string_bytes c.args.words.now) Translate c.deref.result.now c.in-Ok-Translate.names.items c.deref.ensures.value
    (task_asked (map string_bytes c.args.words.now) c.in-Ok-Translate.field-0 (Held.Translate c.in-Ok-Translate.names) c.in-Ok-Translate.field-0-is
    c.in-Ok-Translate.ensures)))

pub returns-in-Ok-Translate-clause-headline : goal.returns-in-Ok-Translate-clause-headline
returns-in-Ok-Translate-clause-headline g c written =
    headline_of (map string_bytes c.args.words.now) c.translate_answer.result _ _ (g.F.Files.state c.args.files.now).held
    (c.translate_answer.ensures.done (map string_bytes c.args.words.now) (g.I.Source.left c.args.input.now) (g.I.Source.counts c.args.input.now)
    (g.O.Sink.state c.args.out.now)
    (names_asked (map string_bytes c.args.words.now) Translate c.deref.result.now c.in-Ok-Translate.names.items c.deref.ensures.value
    (task_asked (map string_bytes c.args.words.now) c.in-Ok-Translate.field-0 (Held.Translate c.in-Ok-Translate.names) c.in-Ok-Translate.field-0-is
    c.in-Ok-Translate.ensures))) written

pub returns-in-Ok-Translate-clause-answered : goal.returns-in-Ok-Translate-clause-answered
returns-in-Ok-Translate-clause-answered g c =
    answered_of (map string_bytes c.args.words.now) c.translate_answer.result _ _ (g.F.Files.state c.args.files.now).held
    (c.translate_answer.ensures.done (map string_bytes c.args.words.now) (g.I.Source.left c.args.input.now) (g.I.Source.counts c.args.input.now)
    (g.O.Sink.state c.args.out.now)
    (names_asked (map string_bytes c.args.words.now) Translate c.deref.result.now c.in-Ok-Translate.names.items c.deref.ensures.value
    (task_asked (map string_bytes c.args.words.now) c.in-Ok-Translate.field-0 (Held.Translate c.in-Ok-Translate.names) c.in-Ok-Translate.field-0-is
    c.in-Ok-Translate.ensures)))

pub returns-in-Ok-Translate-clause-ran : goal.returns-in-Ok-Translate-clause-ran
returns-in-Ok-Translate-clause-ran g c =
    ran_of (map string_bytes c.args.words.now) c.translate_answer.result _ _ (g.F.Files.state c.args.files.now).held
    (c.translate_answer.ensures.done (map string_bytes c.args.words.now) (g.I.Source.left c.args.input.now) (g.I.Source.counts c.args.input.now)
    (g.O.Sink.state c.args.out.now)
    (names_asked (map string_bytes c.args.words.now) Translate c.deref.result.now c.in-Ok-Translate.names.items c.deref.ensures.value
    (task_asked (map string_bytes c.args.words.now) c.in-Ok-Translate.field-0 (Held.Translate c.in-Ok-Translate.names) c.in-Ok-Translate.field-0-is
    c.in-Ok-Translate.ensures)))

pub returns-in-Ok-Translate-clause-complete : goal.returns-in-Ok-Translate-clause-complete
returns-in-Ok-Translate-clause-complete g c =
    complete_by (map string_bytes c.args.words.now) c.translate_answer.result _ _ c.one_reading.ensures.one c.one_fault.ensures.one_fault
    c.one_fault.ensures.no_fault (g.F.Files.state c.args.files.now).held
    (c.translate_answer.ensures.done (map string_bytes c.args.words.now) (g.I.Source.left c.args.input.now) (g.I.Source.counts c.args.input.now)
    (g.O.Sink.state c.args.out.now)
    (names_asked (map string_bytes c.args.words.now) Translate c.deref.result.now c.in-Ok-Translate.names.items c.deref.ensures.value
    (task_asked (map string_bytes c.args.words.now) c.in-Ok-Translate.field-0 (Held.Translate c.in-Ok-Translate.names) c.in-Ok-Translate.field-0-is
    c.in-Ok-Translate.ensures)))

pub returns-in-Ok-Translate-clause-line : goal.returns-in-Ok-Translate-clause-line
returns-in-Ok-Translate-clause-line g c =
    line_of_reports c.translate_answer.ensures.reported

pub returns-in-Ok-Translate-clause-fault_line : goal.returns-in-Ok-Translate-clause-fault_line
returns-in-Ok-Translate-clause-fault_line g c =
    c.translate_answer.ensures.reported

pub returns-in-Ok-Translate-clause-faultless : goal.returns-in-Ok-Translate-clause-faultless
returns-in-Ok-Translate-clause-faultless g c =
    faultless_of c.translate_answer.result (c.translate_answer.ensures.causes (g.I.Source.left c.args.input.now) (g.I.Source.counts
    c.args.input.now) (g.O.Sink.state c.args.out.now))

pub returns-in-Ok-Translate-clause-command : goal.returns-in-Ok-Translate-clause-command
returns-in-Ok-Translate-clause-command g c =
    task_commanded c.one_reading.ensures.one (map string_bytes c.args.words.now) (Translate (texts c.deref.result.now)) c.translate_answer.result
    (names_asked (map string_bytes c.args.words.now) Translate c.deref.result.now c.in-Ok-Translate.names.items c.deref.ensures.value
    (task_asked (map string_bytes c.args.words.now) c.in-Ok-Translate.field-0 (Held.Translate c.in-Ok-Translate.names) c.in-Ok-Translate.field-0-is
    c.in-Ok-Translate.ensures)) c.translate_answer.ensures.command

pub returns-in-Ok-Translate-clause-links : goal.returns-in-Ok-Translate-clause-links
returns-in-Ok-Translate-clause-links g c =
    if_some_intro (g.F.Files.state c.args.files.now).held _ (λ held e. units_miss c.one_reading.ensures.one (map string_bytes c.args.words.now) (texts
    c.deref.result.now) held
    (names_asked (map string_bytes c.args.words.now) Translate c.deref.result.now c.in-Ok-Translate.names.items c.deref.ensures.value
    (task_asked (map string_bytes c.args.words.now) c.in-Ok-Translate.field-0 (Held.Translate c.in-Ok-Translate.names) c.in-Ok-Translate.field-0-is
    c.in-Ok-Translate.ensures)))

pub returns-in-Ok-Translate-clause-causes : goal.returns-in-Ok-Translate-clause-causes
returns-in-Ok-Translate-clause-causes g c =
    c.translate_answer.ensures.causes (g.I.Source.left c.args.input.now) (g.I.Source.counts c.args.input.now) (g.O.Sink.state c.args.out.now)

pub returns-in-Ok-Link-clause-outcome : goal.returns-in-Ok-Link-clause-outcome
returns-in-Ok-Link-clause-outcome g c =
    outcome_of (map string_bytes c.args.words.now) c.link_answer.result _ _ (g.F.Files.state c.args.files.now).held
    (c.link_answer.ensures.done (map string_bytes c.args.words.now) (names_asked (map string_bytes c.args.words.now) (λ names. Link names
    (option_map (λ name. name.now) c.in-Ok-Link.image) (option_map run_seen c.in-Ok-Link.run'))
    c.deref-in-Ok-Link.result.now c.in-Ok-Link.names.items c.deref-in-Ok-Link.ensures.value
    (task_asked (map string_bytes c.args.words.now) c.in-Ok-Link.field-0 (Held.Link c.in-Ok-Link.names c.in-Ok-Link.image c.in-Ok-Link.run')
    c.in-Ok-Link.field-0-is c.in-Ok-Link.ensures)))

pub returns-in-Ok-Link-clause-headline : goal.returns-in-Ok-Link-clause-headline
returns-in-Ok-Link-clause-headline g c written =
    headline_of (map string_bytes c.args.words.now) c.link_answer.result _ _ (g.F.Files.state c.args.files.now).held
    (c.link_answer.ensures.done (map string_bytes c.args.words.now) (names_asked (map string_bytes c.args.words.now) (λ names. Link names
    (option_map (λ name. name.now) c.in-Ok-Link.image) (option_map run_seen c.in-Ok-Link.run'))
    c.deref-in-Ok-Link.result.now c.in-Ok-Link.names.items c.deref-in-Ok-Link.ensures.value
    (task_asked (map string_bytes c.args.words.now) c.in-Ok-Link.field-0 (Held.Link c.in-Ok-Link.names c.in-Ok-Link.image c.in-Ok-Link.run')
    c.in-Ok-Link.field-0-is c.in-Ok-Link.ensures))) written

pub returns-in-Ok-Link-clause-answered : goal.returns-in-Ok-Link-clause-answered
returns-in-Ok-Link-clause-answered g c =
    answered_of (map string_bytes c.args.words.now) c.link_answer.result _ _ (g.F.Files.state c.args.files.now).held
    (c.link_answer.ensures.done (map string_bytes c.args.words.now) (names_asked (map string_bytes c.args.words.now) (λ names. Link names
    (option_map (λ name. name.now) c.in-Ok-Link.image) (option_map run_seen c.in-Ok-Link.run'))
    c.deref-in-Ok-Link.result.now c.in-Ok-Link.names.items c.deref-in-Ok-Link.ensures.value
    (task_asked (map string_bytes c.args.words.now) c.in-Ok-Link.field-0 (Held.Link c.in-Ok-Link.names c.in-Ok-Link.image c.in-Ok-Link.run')
    c.in-Ok-Link.field-0-is c.in-Ok-Link.ensures)))

pub returns-in-Ok-Link-clause-ran : goal.returns-in-Ok-Link-clause-ran
returns-in-Ok-Link-clause-ran g c =
    ran_of (map string_bytes c.args.words.now) c.link_answer.result _ _ (g.F.Files.state c.args.files.now).held
    (c.link_answer.ensures.done (map string_bytes c.args.words.now) (names_asked (map string_bytes c.args.words.now) (λ names. Link names
    (option_map (λ name. name.now) c.in-Ok-Link.image) (option_map run_seen c.in-Ok-Link.run'))
    c.deref-in-Ok-Link.result.now c.in-Ok-Link.names.items c.deref-in-Ok-Link.ensures.value
    (task_asked (map string_bytes c.args.words.now) c.in-Ok-Link.field-0 (Held.Link c.in-Ok-Link.names c.in-Ok-Link.image c.in-Ok-Link.run')
    c.in-Ok-Link.field-0-is c.in-Ok-Link.ensures)))

pub returns-in-Ok-Link-clause-complete : goal.returns-in-Ok-Link-clause-complete
returns-in-Ok-Link-clause-complete g c =
    complete_by (map string_bytes c.args.words.now) c.link_answer.result _ _ c.one_reading.ensures.one c.one_fault.ensures.one_fault
    c.one_fault.ensures.no_fault (g.F.Files.state c.args.files.now).held
    (c.link_answer.ensures.done (map string_bytes c.args.words.now) (names_asked (map string_bytes c.args.words.now) (λ names. Link names
    (option_map (λ name. name.now) c.in-Ok-Link.image) (option_map run_seen c.in-Ok-Link.run'))
    c.deref-in-Ok-Link.result.now c.in-Ok-Link.names.items c.deref-in-Ok-Link.ensures.value
    (task_asked (map string_bytes c.args.words.now) c.in-Ok-Link.field-0 (Held.Link c.in-Ok-Link.names c.in-Ok-Link.image c.in-Ok-Link.run')
    c.in-Ok-Link.field-0-is c.in-Ok-Link.ensures)))

pub returns-in-Ok-Link-clause-line : goal.returns-in-Ok-Link-clause-line
returns-in-Ok-Link-clause-line g c = line_of_reports c.link_answer.ensures.reported

pub returns-in-Ok-Link-clause-faultless : goal.returns-in-Ok-Link-clause-faultless
returns-in-Ok-Link-clause-faultless g c = faultless_of c.link_answer.result c.link_answer.ensures.leaves.causes

pub returns-in-Ok-Link-clause-command : goal.returns-in-Ok-Link-clause-command
returns-in-Ok-Link-clause-command g c =
    task_commanded c.one_reading.ensures.one (map string_bytes c.args.words.now) (Link (texts c.deref-in-Ok-Link.result.now) (option_map (λ name.
    name.now) c.in-Ok-Link.image) (option_map run_seen c.in-Ok-Link.run')) c.link_answer.result
    (names_asked (map string_bytes c.args.words.now) (λ names. Link names (option_map (λ name. name.now) c.in-Ok-Link.image) (option_map run_seen
    c.in-Ok-Link.run'))
    c.deref-in-Ok-Link.result.now c.in-Ok-Link.names.items c.deref-in-Ok-Link.ensures.value
    (task_asked (map string_bytes c.args.words.now) c.in-Ok-Link.field-0 (Held.Link c.in-Ok-Link.names c.in-Ok-Link.image c.in-Ok-Link.run')
    c.in-Ok-Link.field-0-is c.in-Ok-Link.ensures)) c.link_answer.ensures.command

pub returns-in-Ok-Link-clause-links : goal.returns-in-Ok-Link-clause-links
returns-in-Ok-Link-clause-links g c =
    if_some_intro (g.F.Files.state c.args.files.now).held _ (λ held e. link_misses c.one_reading.ensures.one (map string_bytes c.args.words.now) (texts
    c.deref-in-Ok-Link.result.now) _ _ held
    (names_asked (map string_bytes c.args.words.now) (λ names. Link names (option_map (λ name. name.now) c.in-Ok-Link.image) (option_map run_seen
    c.in-Ok-Link.run'))
    c.deref-in-Ok-Link.result.now c.in-Ok-Link.names.items c.deref-in-Ok-Link.ensures.value
    (task_asked (map string_bytes c.args.words.now) c.in-Ok-Link.field-0 (Held.Link c.in-Ok-Link.names c.in-Ok-Link.image c.in-Ok-Link.run')
    c.in-Ok-Link.field-0-is c.in-Ok-Link.ensures)) (if_some_elim _ (g.F.Files.state c.args.files.now).held held e c.link_answer.ensures.links))

pub returns-in-Ok-Generate-clause-outcome : goal.returns-in-Ok-Generate-clause-outcome
returns-in-Ok-Generate-clause-outcome g c =
    outcome_of (map string_bytes c.args.words.now) c.generate_answer.result _ _ (g.F.Files.state c.args.files.now).held
    (c.generate_answer.ensures.done (map string_bytes c.args.words.now) (task_asked (map string_bytes c.args.words.now) c.in-Ok-Generate.field-0
    (Held.Generate c.in-Ok-Generate.number c.in-Ok-Generate.turns) c.in-Ok-Generate.field-0-is c.in-Ok-Generate.ensures))

pub returns-in-Ok-Generate-clause-headline : goal.returns-in-Ok-Generate-clause-headline
returns-in-Ok-Generate-clause-headline g c written =
    headline_of (map string_bytes c.args.words.now) c.generate_answer.result _ _ (g.F.Files.state c.args.files.now).held
    (c.generate_answer.ensures.done (map string_bytes c.args.words.now) (task_asked (map string_bytes c.args.words.now) c.in-Ok-Generate.field-0
    (Held.Generate c.in-Ok-Generate.number c.in-Ok-Generate.turns) c.in-Ok-Generate.field-0-is c.in-Ok-Generate.ensures)) written

pub returns-in-Ok-Generate-clause-answered : goal.returns-in-Ok-Generate-clause-answered
returns-in-Ok-Generate-clause-answered g c =
    answered_of (map string_bytes c.args.words.now) c.generate_answer.result _ _ (g.F.Files.state c.args.files.now).held
    (c.generate_answer.ensures.done (map string_bytes c.args.words.now) (task_asked (map string_bytes c.args.words.now) c.in-Ok-Generate.field-0
    (Held.Generate c.in-Ok-Generate.number c.in-Ok-Generate.turns) c.in-Ok-Generate.field-0-is c.in-Ok-Generate.ensures))

pub returns-in-Ok-Generate-clause-ran : goal.returns-in-Ok-Generate-clause-ran
returns-in-Ok-Generate-clause-ran g c =
    ran_of (map string_bytes c.args.words.now) c.generate_answer.result _ _ (g.F.Files.state c.args.files.now).held
    (c.generate_answer.ensures.done (map string_bytes c.args.words.now) (task_asked (map string_bytes c.args.words.now) c.in-Ok-Generate.field-0
    (Held.Generate c.in-Ok-Generate.number c.in-Ok-Generate.turns) c.in-Ok-Generate.field-0-is c.in-Ok-Generate.ensures))

pub returns-in-Ok-Generate-clause-complete : goal.returns-in-Ok-Generate-clause-complete
returns-in-Ok-Generate-clause-complete g c =
    complete_by (map string_bytes c.args.words.now) c.generate_answer.result _ _ c.one_reading.ensures.one c.one_fault.ensures.one_fault
    c.one_fault.ensures.no_fault (g.F.Files.state c.args.files.now).held
    (c.generate_answer.ensures.done (map string_bytes c.args.words.now) (task_asked (map string_bytes c.args.words.now) c.in-Ok-Generate.field-0
    (Held.Generate c.in-Ok-Generate.number c.in-Ok-Generate.turns) c.in-Ok-Generate.field-0-is c.in-Ok-Generate.ensures))

pub returns-in-Ok-Generate-clause-line : goal.returns-in-Ok-Generate-clause-line
returns-in-Ok-Generate-clause-line g c = line_of_reports c.generate_answer.ensures.reported

pub returns-in-Ok-Generate-clause-faultless : goal.returns-in-Ok-Generate-clause-faultless
returns-in-Ok-Generate-clause-faultless g c =
    faultless_of c.generate_answer.result c.generate_answer.ensures.leaves.causes

pub returns-in-Ok-Generate-clause-command : goal.returns-in-Ok-Generate-clause-command
returns-in-Ok-Generate-clause-command g c =
    task_commanded c.one_reading.ensures.one (map string_bytes c.args.words.now) (Generate c.in-Ok-Generate.number c.in-Ok-Generate.turns)
    c.generate_answer.result
    (task_asked (map string_bytes c.args.words.now) c.in-Ok-Generate.field-0 (Held.Generate c.in-Ok-Generate.number c.in-Ok-Generate.turns)
    c.in-Ok-Generate.field-0-is c.in-Ok-Generate.ensures) c.generate_answer.ensures.command

pub returns-in-Ok-Generate-clause-links : goal.returns-in-Ok-Generate-clause-links
returns-in-Ok-Generate-clause-links g c =
    if_some_intro (g.F.Files.state c.args.files.now).held _ (λ held e. number_misses c.one_reading.ensures.one (map string_bytes c.args.words.now)
    c.in-Ok-Generate.number c.in-Ok-Generate.turns held
    (task_asked (map string_bytes c.args.words.now) c.in-Ok-Generate.field-0 (Held.Generate c.in-Ok-Generate.number c.in-Ok-Generate.turns)
    c.in-Ok-Generate.field-0-is c.in-Ok-Generate.ensures))

pub returns-in-Err-clause-outcome : goal.returns-in-Err-clause-outcome
returns-in-Err-clause-outcome g c =
    outcome_of (map string_bytes c.args.words.now) c.refuse.result _ _ (g.F.Files.state c.args.files.now).held
    (words_done (map string_bytes c.args.words.now) c.in-Err.fault c.words_answer.result c.refuse.result c.words_answer.ensures
    c.refuse.ensures.line (g.F.Files.state c.args.files.now) (g.I.Source.left c.args.input.now) (g.I.Source.counts c.args.input.now) (g.O.Sink.state
    c.args.out.now)
    c.in-Err.ensures)

pub returns-in-Err-clause-headline : goal.returns-in-Err-clause-headline
returns-in-Err-clause-headline g c written =
    headline_of (map string_bytes c.args.words.now) c.refuse.result _ _ (g.F.Files.state c.args.files.now).held
    (words_done (map string_bytes c.args.words.now) c.in-Err.fault c.words_answer.result c.refuse.result c.words_answer.ensures
    c.refuse.ensures.line (g.F.Files.state c.args.files.now) (g.I.Source.left c.args.input.now) (g.I.Source.counts c.args.input.now) (g.O.Sink.state
    c.args.out.now)
    c.in-Err.ensures) written

pub returns-in-Err-clause-answered : goal.returns-in-Err-clause-answered
returns-in-Err-clause-answered g c =
    answered_of (map string_bytes c.args.words.now) c.refuse.result _ _ (g.F.Files.state c.args.files.now).held
    (words_done (map string_bytes c.args.words.now) c.in-Err.fault c.words_answer.result c.refuse.result c.words_answer.ensures
    c.refuse.ensures.line (g.F.Files.state c.args.files.now) (g.I.Source.left c.args.input.now) (g.I.Source.counts c.args.input.now) (g.O.Sink.state
    c.args.out.now)
    c.in-Err.ensures)

pub returns-in-Err-clause-ran : goal.returns-in-Err-clause-ran
returns-in-Err-clause-ran g c =
    ran_of (map string_bytes c.args.words.now) c.refuse.result _ _ (g.F.Files.state c.args.files.now).held
    (words_done (map string_bytes c.args.words.now) c.in-Err.fault c.words_answer.result c.refuse.result c.words_answer.ensures
    c.refuse.ensures.line (g.F.Files.state c.args.files.now) (g.I.Source.left c.args.input.now) (g.I.Source.counts c.args.input.now) (g.O.Sink.state
    c.args.out.now)
    c.in-Err.ensures)

pub returns-in-Err-clause-complete : goal.returns-in-Err-clause-complete
returns-in-Err-clause-complete g c =
    complete_by (map string_bytes c.args.words.now) c.refuse.result _ _ c.one_reading.ensures.one c.one_fault.ensures.one_fault
    c.one_fault.ensures.no_fault (g.F.Files.state c.args.files.now).held
    (words_done (map string_bytes c.args.words.now) c.in-Err.fault c.words_answer.result c.refuse.result c.words_answer.ensures
    c.refuse.ensures.line (g.F.Files.state c.args.files.now) (g.I.Source.left c.args.input.now) (g.I.Source.counts c.args.input.now) (g.O.Sink.state
    c.args.out.now)
    c.in-Err.ensures)

pub returns-in-Err-clause-causes : goal.returns-in-Err-clause-causes
returns-in-Err-clause-causes g c =
    words_end (map string_bytes c.args.words.now) c.in-Err.fault c.words_answer.result c.refuse.result c.words_answer.ensures c.refuse.ensures.line
    (g.F.Files.state c.args.files.now)
    (g.I.Source.counts c.args.input.now) (g.I.Source.left c.args.input.now) (g.O.Sink.state c.args.out.now)

pub returns-in-Err-clause-faultless : goal.returns-in-Err-clause-faultless
returns-in-Err-clause-faultless g c =
    faultless_of c.refuse.result (words_end (map string_bytes c.args.words.now) c.in-Err.fault c.words_answer.result c.refuse.result
    c.words_answer.ensures c.refuse.ensures.line (g.F.Files.state c.args.files.now)
    (g.I.Source.counts c.args.input.now) (g.I.Source.left c.args.input.now) (g.O.Sink.state c.args.out.now))

pub returns-in-Err-clause-line : goal.returns-in-Err-clause-line
returns-in-Err-clause-line g c =
    line_of_reports (words_reported (map string_bytes c.args.words.now) c.in-Err.fault c.words_answer.result c.refuse.result c.words_answer.ensures
    c.refuse.ensures.line)

pub returns-in-Err-clause-fault_line : goal.returns-in-Err-clause-fault_line
returns-in-Err-clause-fault_line g c =
    words_reported (map string_bytes c.args.words.now) c.in-Err.fault c.words_answer.result c.refuse.result c.words_answer.ensures
    c.refuse.ensures.line

pub returns-in-Err-clause-command : goal.returns-in-Err-clause-command
returns-in-Err-clause-command g c =
    words_called (map string_bytes c.args.words.now) c.in-Err.fault c.words_answer.result c.refuse.result c.words_answer.ensures c.refuse.ensures.line
    c.one_reading.ensures.one c.in-Err.ensures

pub returns-in-Err-clause-links : goal.returns-in-Err-clause-links
returns-in-Err-clause-links g c =
    if_some_intro (g.F.Files.state c.args.files.now).held _ (λ held e. words_miss (map string_bytes c.args.words.now) c.in-Err.fault c.words_answer.result
    c.refuse.result c.words_answer.ensures c.refuse.ensures.line
    c.one_reading.ensures.one held c.in-Err.ensures)

pub returns-in-Ok-Translate-clause-written : goal.returns-in-Ok-Translate-clause-written
returns-in-Ok-Translate-clause-written g c =
    written_of (map string_bytes c.args.words.now) c.translate_answer.result _ _ (g.F.Files.state c.args.files.now).held
    (c.translate_answer.ensures.done (map string_bytes c.args.words.now) (g.I.Source.left c.args.input.now) (g.I.Source.counts c.args.input.now)
    (g.O.Sink.state c.args.out.now)
    (names_asked (map string_bytes c.args.words.now) Translate c.deref.result.now c.in-Ok-Translate.names.items c.deref.ensures.value
    (task_asked (map string_bytes c.args.words.now) c.in-Ok-Translate.field-0 (Held.Translate c.in-Ok-Translate.names) c.in-Ok-Translate.field-0-is
    c.in-Ok-Translate.ensures)))

pub returns-in-Ok-Link-clause-written : goal.returns-in-Ok-Link-clause-written
returns-in-Ok-Link-clause-written g c =
    written_of (map string_bytes c.args.words.now) c.link_answer.result _ _ (g.F.Files.state c.args.files.now).held
    (c.link_answer.ensures.done (map string_bytes c.args.words.now) (names_asked (map string_bytes c.args.words.now) (λ names. Link names
    (option_map (λ name. name.now) c.in-Ok-Link.image) (option_map run_seen c.in-Ok-Link.run'))
    c.deref-in-Ok-Link.result.now c.in-Ok-Link.names.items c.deref-in-Ok-Link.ensures.value
    (task_asked (map string_bytes c.args.words.now) c.in-Ok-Link.field-0 (Held.Link c.in-Ok-Link.names c.in-Ok-Link.image c.in-Ok-Link.run')
    c.in-Ok-Link.field-0-is c.in-Ok-Link.ensures)))

pub returns-in-Ok-Generate-clause-written : goal.returns-in-Ok-Generate-clause-written
returns-in-Ok-Generate-clause-written g c =
    written_of (map string_bytes c.args.words.now) c.generate_answer.result _ _ (g.F.Files.state c.args.files.now).held
    (c.generate_answer.ensures.done (map string_bytes c.args.words.now) (task_asked (map string_bytes c.args.words.now) c.in-Ok-Generate.field-0
    (Held.Generate c.in-Ok-Generate.number c.in-Ok-Generate.turns) c.in-Ok-Generate.field-0-is c.in-Ok-Generate.ensures))

pub returns-in-Err-clause-written : goal.returns-in-Err-clause-written
returns-in-Err-clause-written g c =
    written_of (map string_bytes c.args.words.now) c.refuse.result _ _ (g.F.Files.state c.args.files.now).held
    (words_done (map string_bytes c.args.words.now) c.in-Err.fault c.words_answer.result c.refuse.result c.words_answer.ensures
    c.refuse.ensures.line (g.F.Files.state c.args.files.now) (g.I.Source.left c.args.input.now) (g.I.Source.counts c.args.input.now) (g.O.Sink.state
    c.args.out.now)
    c.in-Err.ensures)

pub returns-in-Ok-Translate-clause-input : goal.returns-in-Ok-Translate-clause-input
returns-in-Ok-Translate-clause-input g c = if_some_intro (g.I.Source.left c.args.input.now) _ (λ left d. (0, d))

pub returns-in-Err-clause-input : goal.returns-in-Err-clause-input
returns-in-Err-clause-input g c = if_some_intro (g.I.Source.left c.args.input.now) _ (λ left d. (0, d))

pub returns-in-Ok-Link-clause-causes : goal.returns-in-Ok-Link-clause-causes
returns-in-Ok-Link-clause-causes g c = c.link_answer.ensures.leaves.causes

pub returns-in-Ok-Link-clause-input : goal.returns-in-Ok-Link-clause-input
returns-in-Ok-Link-clause-input g c = c.link_answer.ensures.leaves.input

pub returns-in-Ok-Link-clause-refused : goal.returns-in-Ok-Link-clause-refused
returns-in-Ok-Link-clause-refused g c = c.link_answer.ensures.leaves.refused

pub returns-in-Ok-Link-clause-unread : goal.returns-in-Ok-Link-clause-unread
returns-in-Ok-Link-clause-unread g c = c.link_answer.ensures.leaves.unread

pub returns-in-Ok-Link-clause-uncalled : goal.returns-in-Ok-Link-clause-uncalled
returns-in-Ok-Link-clause-uncalled g c = c.link_answer.ensures.leaves.uncalled

pub returns-in-Ok-Generate-clause-causes : goal.returns-in-Ok-Generate-clause-causes
returns-in-Ok-Generate-clause-causes g c = c.generate_answer.ensures.leaves.causes

pub returns-in-Ok-Generate-clause-input : goal.returns-in-Ok-Generate-clause-input
returns-in-Ok-Generate-clause-input g c = c.generate_answer.ensures.leaves.input

pub returns-in-Ok-Generate-clause-refused : goal.returns-in-Ok-Generate-clause-refused
returns-in-Ok-Generate-clause-refused g c = c.generate_answer.ensures.leaves.refused

pub returns-in-Ok-Generate-clause-unread : goal.returns-in-Ok-Generate-clause-unread
returns-in-Ok-Generate-clause-unread g c = c.generate_answer.ensures.leaves.unread

pub returns-in-Ok-Generate-clause-uncalled : goal.returns-in-Ok-Generate-clause-uncalled
returns-in-Ok-Generate-clause-uncalled g c = c.generate_answer.ensures.leaves.uncalled

-- What is pending

pub returns-in-Ok-Translate-clause-settled : goal.returns-in-Ok-Translate-clause-settled
returns-in-Ok-Translate-clause-settled g c = c.translate_answer.ensures.settled (g.O.Sink.pending c.args.out.now)

pub returns-in-Ok-Link-clause-settled : goal.returns-in-Ok-Link-clause-settled
returns-in-Ok-Link-clause-settled g c = c.link_answer.ensures.settled

pub returns-in-Ok-Generate-clause-settled : goal.returns-in-Ok-Generate-clause-settled
returns-in-Ok-Generate-clause-settled g c = c.generate_answer.ensures.settled

pub returns-in-Err-clause-settled : goal.returns-in-Err-clause-settled
returns-in-Err-clause-settled g c o e n = (o, c.refuse.ensures.settled n)

-- A linked file that is told not to be there

pub returns-in-Ok-Translate-clause-missed : goal.returns-in-Ok-Translate-clause-missed
returns-in-Ok-Translate-clause-missed g c none = c.translate_answer.ensures.missed

pub returns-in-Ok-Link-clause-missed : goal.returns-in-Ok-Link-clause-missed
returns-in-Ok-Link-clause-missed g c none = c.link_answer.ensures.missed

pub returns-in-Ok-Generate-clause-missed : goal.returns-in-Ok-Generate-clause-missed
returns-in-Ok-Generate-clause-missed g c none =
    absurd (none (
      c.in-Ok-Generate.number,
      (
        c.in-Ok-Generate.turns,
        task_asked (map string_bytes c.args.words.now) c.in-Ok-Generate.field-0
            (Held.Generate c.in-Ok-Generate.number c.in-Ok-Generate.turns) c.in-Ok-Generate.field-0-is c.in-Ok-Generate.ensures,
      ),
    ))

pub returns-in-Err-clause-missed : goal.returns-in-Err-clause-missed
returns-in-Err-clause-missed g c none =
    words_tell (map string_bytes c.args.words.now) c.in-Err.fault c.words_answer.result c.refuse.result c.words_answer.ensures c.refuse.ensures.line
