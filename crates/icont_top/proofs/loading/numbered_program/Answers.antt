use Rattle.std.proofs.Common.{inl}
use Rattle.icont_top.proofs.LoadedProgram.{number_base}
use Rattle.icont_top.proofs.loading.numbered_program.Goals as goal

pub returns-in-Ok-make-clause-program : goal.returns-in-Ok-make-clause-program
returns-in-Ok-make-clause-program c =
    let comes = c.in-Ok.ensures.comes in (
      comes.0,
      (
        comes.1.0,
        (
          (λ unit name missed. inl tt),
          record {
            made = c.in-Ok-make.ensures.made comes.0 comes.1.1;
            base = number_base c.args.number comes.0 comes.1.0;
          },
        ),
      ),
    )
