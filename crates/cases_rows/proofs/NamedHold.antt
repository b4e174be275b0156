-- Each case of the table holds, by computing.
use Rattle.std.proofs.Common.{refl}
use Rattle.std.specs.Char.{encode_utf8}
use Rattle.std.specs.Fmt.{digits}
use Rattle.std.specs.List.{AllByRecursion}
use Rattle.std.specs.Str.{chars, is_utf8}
use Rattle.cases_rows.specs.Cases.{CaseHolds}
use Rattle.cases_rows.specs.Named.{named_values}

pub named_values_hold : AllByRecursion CaseHolds named_values
unfolding chars digits encode_utf8 is_utf8
named_values_hold = (
  record { saw = refl; facts = refl },
  (
    record { saw = refl; facts = refl },
    (
      record { saw = refl; facts = refl },
      (
        record { saw = refl; facts = refl },
        (
          record { saw = refl; facts = refl },
          (
            record { saw = refl; facts = refl },
            (
              record { saw = refl; facts = refl },
              (
                record { saw = refl; facts = refl },
                (
                  record { saw = refl; facts = refl },
                  (
                    record { saw = refl; facts = refl },
                    (
                      record { saw = refl; facts = refl },
                      (
                        record { saw = refl; facts = refl },
                        (
                          record { saw = refl; facts = refl },
                          (
                            record { saw = refl; facts = refl },
                            (
                              record { saw = refl; facts = refl },
                              (
                                record { saw = refl; facts = refl },
                                (
                                  record { saw = refl; facts = refl },
                                  (
                                    record { saw = refl; facts = refl },
                                    (
                                      record { saw = refl; facts = refl },
                                      (
                                        record { saw = refl; facts = refl },
                                        (
                                          record { saw = refl; facts = refl },
                                          (
                                            record { saw = refl; facts = refl },
                                            (
                                              record { saw = refl; facts = refl },
                                              (
                                                record { saw = refl; facts = refl },
                                                (
                                                  record { saw = refl; facts = refl },
                                                  (
                                                    record { saw = refl; facts = refl },
                                                    (
                                                      record { saw = refl; facts = refl },
                                                      (
                                                        record { saw = refl; facts = refl },
                                                        (
                                                          record { saw = refl; facts = refl },
                                                          (
                                                            record { saw = refl; facts = refl },
                                                            (
                                                              record { saw = refl; facts = refl },
                                                              (
                                                                record { saw = refl; facts = refl },
                                                                (
                                                                  record { saw = refl; facts = refl },
                                                                  (
                                                                    record { saw = refl; facts = refl },
                                                                    (
                                                                      record { saw = refl; facts = refl },
                                                                      (
                                                                        record { saw = refl; facts = refl },
                                                                        tt,
                                                                      ),
                                                                    ),
                                                                  ),
                                                                ),
                                                              ),
                                                            ),
                                                          ),
                                                        ),
                                                      ),
                                                    ),
                                                  ),
                                                ),
                                              ),
                                            ),
                                          ),
                                        ),
                                      ),
                                    ),
                                  ),
                                ),
                              ),
                            ),
                          ),
                        ),
                      ),
                    ),
                  ),
                ),
              ),
            ),
          ),
        ),
      ),
    ),
  ),
)
