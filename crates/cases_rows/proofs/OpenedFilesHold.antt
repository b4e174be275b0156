-- Each case of the table holds, by computing.
use Rattle.std.proofs.Common.{refl}
use Rattle.std.specs.Char.{encode_utf8}
use Rattle.std.specs.Fmt.{digits}
use Rattle.std.specs.List.{AllByRecursion}
use Rattle.std.specs.Str.{chars, is_utf8}
use Rattle.cases_rows.specs.Cases.{CaseHolds}
use Rattle.cases_rows.specs.OpenedFiles.{opened_files}

pub opened_files_hold : AllByRecursion CaseHolds opened_files
unfolding chars digits encode_utf8 is_utf8
opened_files_hold = (
  record { saw = refl; facts = refl },
  (
    record { saw = refl; facts = refl },
    (
      record { saw = refl; facts = refl },
      (
        record { saw = refl; facts = refl },
        (
          record { saw = refl; facts = refl },
          (
            record { saw = refl; facts = refl },
            (
              record { saw = refl; facts = refl },
              (
                record { saw = refl; facts = refl },
                (
                  record { saw = refl; facts = refl },
                  (
                    record { saw = refl; facts = refl },
                    (
                      record { saw = refl; facts = refl },
                      (
                        record { saw = refl; facts = refl },
                        (
                          record { saw = refl; facts = refl },
                          (
                            record { saw = refl; facts = refl },
                            (
                              record { saw = refl; facts = refl },
                              (
                                record { saw = refl; facts = refl },
                                (
                                  record { saw = refl; facts = refl },
                                  (
                                    record { saw = refl; facts = refl },
                                    (
                                      record { saw = refl; facts = refl },
                                      (
                                        record { saw = refl; facts = refl },
                                        (
                                          record { saw = refl; facts = refl },
                                          (
                                            record { saw = refl; facts = refl },
                                            (
                                              record { saw = refl; facts = refl },
                                              (
                                                record { saw = refl; facts = refl },
                                                (
                                                  record { saw = refl; facts = refl },
                                                  (
                                                    record { saw = refl; facts = refl },
                                                    (
                                                      record { saw = refl; facts = refl },
                                                      (
                                                        record { saw = refl; facts = refl },
                                                        (
                                                          record { saw = refl; facts = refl },
                                                          (
                                                            record { saw = refl; facts = refl },
                                                            (
                                                              record { saw = refl; facts = refl },
                                                              (
                                                                record { saw = refl; facts = refl },
                                                                (
                                                                  record { saw = refl; facts = refl },
                                                                  (
                                                                    record { saw = refl; facts = refl },
                                                                    (
                                                                      record { saw = refl; facts = refl },
                                                                      (
                                                                        record { saw = refl; facts = refl },
                                                                        (
                                                                          record { saw = refl; facts = refl },
                                                                          (
                                                                            record { saw = refl; facts = refl },
                                                                            (
                                                                              record { saw = refl; facts = refl },
                                                                              (
                                                                                record { saw = refl; facts = refl },
                                                                                tt,
                                                                              ),
                                                                            ),
                                                                          ),
                                                                        ),
                                                                      ),
                                                                    ),
                                                                  ),
                                                                ),
                                                              ),
                                                            ),
                                                          ),
                                                        ),
                                                      ),
                                                    ),
                                                  ),
                                                ),
                                              ),
                                            ),
                                          ),
                                        ),
                                      ),
                                    ),
                                  ),
                                ),
                              ),
                            ),
                          ),
                        ),
                      ),
                    ),
                  ),
                ),
              ),
            ),
          ),
        ),
      ),
    ),
  ),
)
