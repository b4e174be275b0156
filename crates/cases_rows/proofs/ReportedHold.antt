-- Each report and each keyword of the tables is as it stands there, by computing.
use Rattle.std.proofs.Common.{refl}
use Rattle.std.specs.Fmt.{digits}
use Rattle.std.specs.List.{AllByRecursion}
use Rattle.cases_rows.specs.Reported.{IsGiven, IsReported, reports, words}

pub reports_hold : AllByRecursion IsReported reports
unfolding digits
reports_hold = (
  record { is = refl },
  (
    record { is = refl },
    (
      record { is = refl },
      (
        record { is = refl },
        (
          record { is = refl },
          (
            record { is = refl },
            (
              record { is = refl },
              (
                record { is = refl },
                (
                  record { is = refl },
                  (
                    record { is = refl },
                    (
                      record { is = refl },
                      (
                        record { is = refl },
                        (
                          record { is = refl },
                          (
                            record { is = refl },
                            (
                              record { is = refl },
                              (
                                record { is = refl },
                                (
                                  record { is = refl },
                                  (
                                    record { is = refl },
                                    (
                                      record { is = refl },
                                      (
                                        record { is = refl },
                                        (
                                          record { is = refl },
                                          (
                                            record { is = refl },
                                            (
                                              record { is = refl },
                                              (
                                                record { is = refl },
                                                (
                                                  record { is = refl },
                                                  (
                                                    record { is = refl },
                                                    (
                                                      record { is = refl },
                                                      (
                                                        record { is = refl },
                                                        (
                                                          record { is = refl },
                                                          (
                                                            record { is = refl },
                                                            (
                                                              record { is = refl },
                                                              (
                                                                record { is = refl },
                                                                (
                                                                  record { is = refl },
                                                                  (
                                                                    record { is = refl },
                                                                    (
                                                                      record { is = refl },
                                                                      (
                                                                        record { is = refl },
                                                                        tt,
                                                                      ),
                                                                    ),
                                                                  ),
                                                                ),
                                                              ),
                                                            ),
                                                          ),
                                                        ),
                                                      ),
                                                    ),
                                                  ),
                                                ),
                                              ),
                                            ),
                                          ),
                                        ),
                                      ),
                                    ),
                                  ),
                                ),
                              ),
                            ),
                          ),
                        ),
                      ),
                    ),
                  ),
                ),
              ),
            ),
          ),
        ),
      ),
    ),
  ),
)

pub words_hold : AllByRecursion IsGiven words
words_hold = (
  record { is = refl },
  (
    record { is = refl },
    (
      record { is = refl },
      (
        record { is = refl },
        (
          record { is = refl },
          (
            record { is = refl },
            (
              record { is = refl },
              (
                record { is = refl },
                (
                  record { is = refl },
                  (
                    record { is = refl },
                    (
                      record { is = refl },
                      (
                        record { is = refl },
                        (
                          record { is = refl },
                          (
                            record { is = refl },
                            (
                              record { is = refl },
                              (
                                record { is = refl },
                                (
                                  record { is = refl },
                                  (
                                    record { is = refl },
                                    (
                                      record { is = refl },
                                      (
                                        record { is = refl },
                                        (
                                          record { is = refl },
                                          (
                                            record { is = refl },
                                            tt,
                                          ),
                                        ),
                                      ),
                                    ),
                                  ),
                                ),
                              ),
                            ),
                          ),
                        ),
                      ),
                    ),
                  ),
                ),
              ),
            ),
          ),
        ),
      ),
    ),
  ),
)
