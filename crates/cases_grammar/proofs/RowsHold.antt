-- Each row holds by the definition.
use Rattle.std.proofs.Common.{◌≡◌, ℕ, true, false, leb, List, Some, None, inl, inr, refl}
use Rattle.std.proofs.lemmas.Bool.{leb-true}
use Rattle.std.specs.List.{AllByRecursion}
use Rattle.icn_tree.specs.declared.token.Token.{Token}
use Rattle.icn_tree.specs.declared.token.Operator.TheVariants as O
use Rattle.icn_tree.specs.Trees.{Tree}
use Rattle.icn_tree.specs.Levels.{level_of}
use Rattle.icn_tree.specs.Wants.{wants}
use Rattle.icn_tree.specs.Phrases.{next}
use Rattle.icn_tree.specs.Grammar.{Part, Spells}
use Rattle.cases_grammar.specs.Rows.{at, Holds, atoms, suffixes, forms, levels, groups, prefixes, nearest, operands, FileHolds, files}

part : {level : ℕ} {tree : Tree} {here after : List Token} → leb level (level_of tree) ≡ true → Spells tree here after → wants tree (next after) ≡ false
    → Part level tree (Spells tree) here after
part {level} {tree} fits spells longest = record { fits = leb-true level (level_of tree) fits; spells = spells; longest = longest }

pub atoms_hold : AllByRecursion Holds atoms
atoms_hold = (
  part refl refl refl,
  (
    part refl refl refl,
    (
      part refl refl refl,
      (
        part refl refl refl,
        (
          part refl refl refl,
          (
            part refl (_, refl, inl refl) refl,
            (
              part refl (_, refl, inr (refl, refl)) refl,
              (
                part refl refl refl,
                (
                  part refl refl refl,
                  (
                    part refl (_, refl, (_, (_, (part refl refl refl), refl), (at 2, refl))) refl,
                    (
                      part refl (_, refl, (_, (_, (part refl refl refl), refl), (at 3, refl))) refl,
                      (
                        part refl (_, refl, (_, (_, (part refl refl refl), (_, (at 3, refl), (_, (part refl refl refl), refl))), (at 5, refl))) refl,
                        (
                          part refl (_, refl, (_, (_, (part refl refl refl), refl), (at 2, refl))) refl,
                          (
                            part refl (_, refl, (_, (_, (part refl refl refl), (_, (at 3, refl), (_, (part refl refl refl), refl))), (at 5, refl))) refl,
                            (
                              part refl (_, refl, (_, (_, (part refl refl refl), (_, (at 2, refl), (_, (part refl refl refl), refl))), (at 3, refl))) refl,
                              (
                                part refl (_, refl, (_, (_, (part refl refl refl), refl), (at 2, refl))) refl,
                                (
                                  part refl (_, refl, (_, (_, (part refl refl refl), (_, (at 2, refl), (_, (part refl refl refl), refl))), (at 3, refl))) refl,
                                  (
                                    part refl
                                        (_, refl, (_, (_, (part refl refl refl), (_, (at 3, refl), (_, (part refl refl refl), refl))), (at 5, refl))) refl,
                                    (
                                      part refl
                                          (_, refl, (_, (_, (part refl refl refl), (_, (at 3, refl), (_, (part refl refl refl), refl))), (at 4, refl))) refl,
                                      tt,
                                    ),
                                  ),
                                ),
                              ),
                            ),
                          ),
                        ),
                      ),
                    ),
                  ),
                ),
              ),
            ),
          ),
        ),
      ),
    ),
  ),
)

pub suffixes_hold : AllByRecursion Holds suffixes
suffixes_hold = (
  part refl (refl, (_, (part refl refl refl), (_, (at 2, refl), (_, (_, (part refl refl refl), refl), (at 3, refl))))) refl,
  (
    part refl (refl, (_, (part refl refl refl), (_, (at 2, refl), (_, (_, (part refl refl refl), (_, (at 4, refl), (_, (part refl refl refl), refl))), (at 6, refl))))) refl,
    (
      part refl (refl, (_, (part refl refl refl), (_, (at 2, refl), (_, (_, (part refl refl refl), (_, (at 3, refl), (_, (part refl refl refl), refl))), (at 5, refl))))) refl,
      (
        part refl (refl, (_, (part refl refl refl), (_, (at 2, refl), (_, (_, (part refl refl refl), refl), (at 3, refl))))) refl,
        (
          part refl (refl, (_, (part refl refl refl), (_, (at 2, refl), (_, (_, (part refl refl refl), (_, (at 4, refl), (_, (part refl refl refl), refl))), (at 6, refl))))) refl,
          (
            part refl (refl, (_, (part refl refl refl), (_, (at 2, refl), (_, (_, (part refl refl refl), refl), (at 3, refl))))) refl,
            (
              part refl (refl, (_, (part refl refl refl), (_, (at 2, refl), (_, (_, (part refl refl refl), refl), (at 4, refl))))) refl,
              (
                part refl (refl, (_, (part refl refl refl), (_, (at 2, refl), (_, (_, (part refl refl refl), (_, (at 4, refl), (_, (part refl refl refl), refl))), (at 6, refl))))) refl,
                (
                  part refl (refl, (_, (part refl refl refl), (_, (at 2, refl), (_, (part refl refl refl), (_, (at 4, refl), (_, (part refl refl refl), (at 6, refl))))))) refl,
                  (
                    part refl (refl, (_, (part refl refl refl), (_, (at 2, refl), (_, (part refl refl refl), (_, (at 4, refl), (_, (part refl refl refl), (at 6, refl))))))) refl,
                    (
                      part refl (refl, (_, (part refl refl refl), (_, (at 2, refl), (_, (part refl refl refl), (_, (at 4, refl), (_, (part refl refl refl), (at 6, refl))))))) refl,
                      (
                        part refl (refl, (_, (part refl refl refl), (_, (at 2, refl), refl))) refl,
                        (
                          part refl (refl, (_, (part refl (refl, (_, (part refl (refl, (_, (part refl refl refl), (_, (at 2, refl), refl))) refl), (_, (at 4, refl), (_, (_, (part refl refl refl), refl), (at 6, refl))))) refl), (_, (at 7, refl), (_, (_, (part refl refl refl), refl), (at 9, refl))))) refl,
                          (
                            part refl (refl, (_, (part refl (refl, (_, (part refl refl refl), (_, (at 2, refl), (_, (_, (part refl refl refl), refl), (at 4, refl))))) refl), (_, (at 5, refl), (_, (_, (part refl refl refl), refl), (at 7, refl))))) refl,
                            (
                              part refl (refl, (_, (part refl (_, refl, (_, (_, (part refl refl refl), refl), (at 3, refl))) refl), (_, (at 4, refl), (_, (_, (part refl refl refl), refl), (at 6, refl))))) refl,
                              (
                                part refl (refl, (_, (part refl refl refl), (_, (at 2, refl), (_, (part refl (refl, (_, (part refl refl refl), (_, (leb-true 1 _ refl, (at 4, refl)), (part refl refl refl)))) refl), (_, (at 6, refl), (_, (part refl refl refl), (at 8, refl))))))) refl,
                                tt,
                              ),
                            ),
                          ),
                        ),
                      ),
                    ),
                  ),
                ),
              ),
            ),
          ),
        ),
      ),
    ),
  ),
)

pub forms_hold : AllByRecursion Holds forms
forms_hold = (
  part refl (_, refl, (part refl refl refl)) refl,
  (
    part refl (refl, (_, (part refl refl refl), (_, (at 2, refl), (part refl refl refl)))) refl,
    (
      part refl (refl, (_, (part refl refl refl), (_, (at 2, refl), (_, (part refl refl refl), (_, (at 4, refl), (part refl refl refl)))))) refl,
      (
        part refl (_, refl, (_, (part refl refl refl), (_, (at 3, refl), (part refl refl refl)))) refl,
        (
          part refl (_, refl, (_, (part refl refl refl), (_, (at 3, refl), (_, (part refl refl refl), (_, (at 5, refl), (part refl refl refl)))))) refl,
          (
            part refl (_, refl, (_, (part refl refl refl), (_, (at 3, refl), (_, (at 4, refl), (_, (_, (_, refl, (_, (at 6, refl), (part refl refl refl))), refl), (at 8, refl)))))) refl,
            (
              part refl (_, refl, (_, (part refl refl refl), (_, (at 3, refl), (_, (at 4, refl), (_, (_, (refl, (_, (part refl refl refl), (_, (at 6, refl), (part refl refl refl)))), (_, (at 8, refl), (_, (_, refl, (_, (at 10, refl), (part refl refl refl))), refl))), (at 12, refl)))))) refl,
              (
                part refl (_, refl, (_, (part refl refl refl), (_, (at 3, refl), (_, (at 4, refl), (_, (_, (refl, (_, (part refl (refl, (_, (part refl refl refl), (_, (leb-true 1 _ refl, (at 6, refl)), (part refl refl refl)))) refl), (_, (at 8, refl), (part refl refl refl)))), refl), (at 10, refl)))))) refl,
                (
                  part refl (_, refl, (part refl refl refl)) refl,
                  (
                    part refl (_, refl, (_, (part refl refl refl), (_, (at 3, refl), (part refl refl refl)))) refl,
                    (
                      part refl (_, refl, (_, (part refl refl refl), (_, (at 3, refl), (part refl refl refl)))) refl,
                      (
                        part refl (_, refl, (part refl refl refl)) refl,
                        (
                          part refl (_, refl, (_, (part refl refl refl), (_, (at 3, refl), (part refl refl refl)))) refl,
                          (
                            part refl (_, refl, (part refl refl refl)) refl,
                            (
                              part refl (_, refl, (part refl refl refl)) refl,
                              (
                                part refl (_, refl, (part refl refl refl)) refl,
                                (
                                  part refl (_, refl, (part refl refl refl)) refl,
                                  (
                                    part refl (_, refl, (part refl refl refl)) refl,
                                    (
                                      part refl (_, refl, (part refl refl refl)) refl,
                                      (
                                        part refl (_, refl, (part refl refl refl)) refl,
                                        (
                                          part refl (_, refl, (part refl refl refl)) refl,
                                          (
                                            part refl (_, refl, (_, (part refl refl refl), (_, (at 3, refl), (part refl refl refl)))) refl,
                                            (
                                              part refl (_, refl, (_, (part refl refl refl), (_, (at 2, refl), (part refl refl refl)))) refl,
                                              tt,
                                            ),
                                          ),
                                        ),
                                      ),
                                    ),
                                  ),
                                ),
                              ),
                            ),
                          ),
                        ),
                      ),
                    ),
                  ),
                ),
              ),
            ),
          ),
        ),
      ),
    ),
  ),
)

pub levels_hold : AllByRecursion Holds levels
levels_hold = (
  part refl (refl, (_, (part refl refl refl), (_, (leb-true 1 _ refl, (at 2, refl)), (part refl (refl, (_, (part refl refl refl), (_, (leb-true 1 _ refl, (at 4, refl)), (part refl refl refl)))) refl)))) refl,
  (
    part refl (refl, (_, (part refl (refl, (_, (part refl refl refl), (_, (leb-true 1 _ refl, (at 2, refl)), (part refl refl refl)))) refl), (_, (leb-true 1 _ refl, (at 4, refl)), (part refl refl refl)))) refl,
    (
      part refl (refl, (_, (part refl refl refl), (_, (leb-true 1 _ refl, (at 2, refl)), (part refl (refl, (_, (part refl refl refl), (_, (leb-true 1 _ refl, (at 4, refl)), (part refl refl refl)))) refl)))) refl,
      (
        part refl (refl, (_, (part refl (refl, (_, (part refl refl refl), (_, (leb-true 1 _ refl, (at 2, refl)), (part refl refl refl)))) refl), (_, (leb-true 1 _ refl, (at 4, refl)), (part refl refl refl)))) refl,
        (
          part refl (refl, (_, (part refl refl refl), (_, (leb-true 1 _ refl, (at 2, refl)), (part refl (refl, (_, (part refl refl refl), (_, (at 4, refl), (part refl refl refl)))) refl)))) refl,
          (
            part refl (refl, (_, (part refl (refl, (_, (part refl refl refl), (_, (at 2, refl), (part refl refl refl)))) refl), (_, (leb-true 1 _ refl, (at 4, refl)), (part refl refl refl)))) refl,
            (
              part refl (refl, (_, (part refl refl refl), (_, (at 2, refl), (part refl (refl, (_, (part refl refl refl), (_, (leb-true 1 _ refl, (at 4, refl)), (part refl refl refl)))) refl)))) refl,
              (
                part refl (refl, (_, (part refl (refl, (_, (part refl refl refl), (_, (leb-true 1 _ refl, (at 2, refl)), (part refl refl refl)))) refl), (_, (at 4, refl), (part refl refl refl)))) refl,
                (
                  part refl (refl, (_, (part refl refl refl), (_, (leb-true 1 _ refl, (at 2, refl)), (part refl (refl, (_, (part refl refl refl), (_, (leb-true 1 _ refl, (at 4, refl)), (part refl refl refl)))) refl)))) refl,
                  (
                    part refl (refl, (_, (part refl (refl, (_, (part refl refl refl), (_, (leb-true 1 _ refl, (at 2, refl)), (part refl refl refl)))) refl), (_, (leb-true 1 _ refl, (at 4, refl)), (part refl refl refl)))) refl,
                    (
                      part refl (refl, (_, (part refl refl refl), (_, (leb-true 1 _ refl, (at 2, refl)), (part refl (refl, (_, (part refl refl refl), (_, (leb-true 1 _ refl, (at 4, refl)), (part refl refl refl)))) refl)))) refl,
                      (
                        part refl (refl, (_, (part refl (refl, (_, (part refl refl refl), (_, (leb-true 1 _ refl, (at 2, refl)), (part refl refl refl)))) refl), (_, (leb-true 1 _ refl, (at 4, refl)), (part refl refl refl)))) refl,
                        (
                          part refl (refl, (_, (part refl refl refl), (_, (leb-true 1 _ refl, (at 2, refl)), (part refl (refl, (_, (part refl refl refl), (_, (leb-true 1 _ refl, (at 4, refl)), (part refl refl refl)))) refl)))) refl,
                          (
                            part refl (refl, (_, (part refl (refl, (_, (part refl refl refl), (_, (leb-true 1 _ refl, (at 2, refl)), (part refl refl refl)))) refl), (_, (leb-true 1 _ refl, (at 4, refl)), (part refl refl refl)))) refl,
                            (
                              part refl (refl, (_, (part refl refl refl), (_, (leb-true 1 _ refl, (at 2, refl)), (part refl (refl, (_, (part refl refl refl), (_, (leb-true 1 _ refl, (at 4, refl)), (part refl refl refl)))) refl)))) refl,
                              (
                                part refl (refl, (_, (part refl (refl, (_, (part refl refl refl), (_, (leb-true 1 _ refl, (at 2, refl)), (part refl refl refl)))) refl), (_, (leb-true 1 _ refl, (at 4, refl)), (part refl refl refl)))) refl,
                                (
                                  part refl (refl, (_, (part refl refl refl), (_, (leb-true 1 _ refl, (at 2, refl)), (part refl (refl, (_, (part refl refl refl), (_, (leb-true 1 _ refl, (at 4, refl)), (part refl refl refl)))) refl)))) refl,
                                  (
                                    part refl (refl, (_, (part refl (refl, (_, (part refl refl refl), (_, (leb-true 1 _ refl, (at 2, refl)), (part refl refl refl)))) refl), (_, (leb-true 1 _ refl, (at 4, refl)), (part refl refl refl)))) refl,
                                    (
                                      part refl (refl, (_, (part refl refl refl), (_, (leb-true 1 _ refl, (at 2, refl)), (part refl (refl, (_, (part refl refl refl), (_, (leb-true 1 _ refl, (at 4, refl)), (part refl refl refl)))) refl)))) refl,
                                      (
                                        part refl (refl, (_, (part refl (refl, (_, (part refl refl refl), (_, (leb-true 1 _ refl, (at 2, refl)), (part refl refl refl)))) refl), (_, (leb-true 1 _ refl, (at 4, refl)), (part refl refl refl)))) refl,
                                        (
                                          part refl (refl, (_, (part refl refl refl), (_, (leb-true 1 _ refl, (at 2, refl)), (part refl (_, record { characters = O.Minus; others = None; behind = _; first = refl; is_here = refl; is_after = refl }, (part refl refl refl)) refl)))) refl,
                                          (
                                            part refl (refl, (_, (part refl (_, record { characters = O.Minus; others = None; behind = _; first = refl; is_here = refl; is_after = refl }, (part refl refl refl)) refl), (_, (leb-true 1 _ refl, (at 3, refl)), (part refl refl refl)))) refl,
                                            (
                                              part refl (_, record { characters = O.Minus; others = None; behind = _; first = refl; is_here = refl; is_after = refl }, (part refl (refl, (_, (part refl refl refl), (_, (at 3, refl), refl))) refl)) refl,
                                              (
                                                part refl (_, record { characters = O.Minus; others = None; behind = _; first = refl; is_here = refl; is_after = refl }, (part refl (refl, (_, (part refl refl refl), (_, (at 3, refl), (_, (_, (part refl refl refl), refl), (at 5, refl))))) refl)) refl,
                                                (
                                                  part refl (_, refl, (part refl (refl, (_, (part refl refl refl), (_, (at 3, refl), (_, (_, (part refl refl refl), refl), (at 5, refl))))) refl)) refl,
                                                  (
                                                    part refl (refl, (_, (part refl refl refl), (_, (leb-true 1 _ refl, (at 2, refl)), (part refl (_, refl, (_, (_, (part refl (refl, (_, (part refl refl refl), (_, (leb-true 1 _ refl, (at 5, refl)), (part refl refl refl)))) refl), refl), (at 7, refl))) refl)))) refl,
                                                    tt,
                                                  ),
                                                ),
                                              ),
                                            ),
                                          ),
                                        ),
                                      ),
                                    ),
                                  ),
                                ),
                              ),
                            ),
                          ),
                        ),
                      ),
                    ),
                  ),
                ),
              ),
            ),
          ),
        ),
      ),
    ),
  ),
)

pub groups_hold : AllByRecursion Holds groups
groups_hold = (
  part refl (refl, (_, (part refl (refl, (_, (part refl refl refl), (_, (leb-true 1 _ refl, (at 2, refl)), (part refl refl refl)))) refl), (_, (leb-true 1 _ refl, (at 4, refl)), (part refl refl refl)))) refl,
  (
    part refl (refl, (_, (part refl (refl, (_, (part refl refl refl), (_, (leb-true 1 _ refl, (at 2, refl)), (part refl refl refl)))) refl), (_, (leb-true 1 _ refl, (at 4, refl)), (part refl refl refl)))) refl,
    (
      part refl (refl, (_, (part refl refl refl), (_, (leb-true 1 _ refl, (at 2, refl)), (part refl (refl, (_, (part refl refl refl), (_, (leb-true 1 _ refl, (at 4, refl)), (part refl refl refl)))) refl)))) refl,
      (
        part refl (refl, (_, (part refl refl refl), (_, (leb-true 1 _ refl, (at 2, refl)), (part refl (refl, (_, (part refl refl refl), (_, (leb-true 1 _ refl, (at 4, refl)), (part refl refl refl)))) refl)))) refl,
        (
          part refl (refl, (_, (part refl refl refl), (_, (leb-true 1 _ refl, (at 2, refl)), (part refl (refl, (_, (part refl refl refl), (_, (leb-true 1 _ refl, (at 4, refl)), (part refl refl refl)))) refl)))) refl,
          (
            part refl (refl, (_, (part refl (refl, (_, (part refl refl refl), (_, (at 2, refl), (part refl refl refl)))) refl), (_, (at 4, refl), (part refl refl refl)))) refl,
            (
              part refl (refl, (_, (part refl refl refl), (_, (leb-true 1 _ refl, (at 2, refl)), (part refl (refl, (_, (part refl refl refl), (_, (leb-true 1 _ refl, (at 4, refl)), (part refl refl refl)))) refl)))) refl,
              (
                part refl (refl, (_, (part refl (refl, (_, (part refl refl refl), (_, (leb-true 1 _ refl, (at 2, refl)), (part refl refl refl)))) refl), (_, (leb-true 1 _ refl, (at 4, refl)), (part refl refl refl)))) refl,
                (
                  part refl (refl, (_, (part refl (refl, (_, (part refl refl refl), (_, (leb-true 1 _ refl, (at 2, refl)), (part refl refl refl)))) refl), (_, (leb-true 1 _ refl, (at 4, refl)), (part refl refl refl)))) refl,
                  (
                    part refl (refl, (_, (part refl (refl, (_, (part refl refl refl), (_, (leb-true 1 _ refl, (at 2, refl)), (part refl refl refl)))) refl), (_, (leb-true 1 _ refl, (at 4, refl)), (part refl refl refl)))) refl,
                    (
                      part refl (refl, (_, (part refl (refl, (_, (part refl refl refl), (_, (leb-true 1 _ refl, (at 2, refl)), (part refl refl refl)))) refl), (_, (leb-true 1 _ refl, (at 4, refl)), (part refl refl refl)))) refl,
                      (
                        part refl (refl, (_, (part refl refl refl), (_, (leb-true 1 _ refl, (at 2, refl)), (part refl (refl, (_, (part refl refl refl), (_, (leb-true 1 _ refl, (at 4, refl)), (part refl refl refl)))) refl)))) refl,
                        (
                          part refl (refl, (_, (part refl (refl, (_, (part refl refl refl), (_, (leb-true 1 _ refl, (at 2, refl)), (part refl refl refl)))) refl), (_, (leb-true 1 _ refl, (at 4, refl)), (part refl refl refl)))) refl,
                          (
                            part refl (refl, (_, (part refl (refl, (_, (part refl refl refl), (_, (leb-true 1 _ refl, (at 2, refl)), (part refl refl refl)))) refl), (_, (leb-true 1 _ refl, (at 4, refl)), (part refl refl refl)))) refl,
                            (
                              part refl (refl, (_, (part refl (refl, (_, (part refl refl refl), (_, (leb-true 1 _ refl, (at 2, refl)), (part refl refl refl)))) refl), (_, (leb-true 1 _ refl, (at 4, refl)), (part refl refl refl)))) refl,
                              tt,
                            ),
                          ),
                        ),
                      ),
                    ),
                  ),
                ),
              ),
            ),
          ),
        ),
      ),
    ),
  ),
)

pub prefixes_hold : AllByRecursion Holds prefixes
prefixes_hold = (
  part refl (
    _,
    record { characters = O.Bar; others = None; behind = _; first = refl; is_here = refl; is_after = refl },
    (part refl (_, record { characters = O.Bar; others = None; behind = _; first = refl; is_here = refl; is_after = refl }, (part refl refl refl)) refl),
  ) refl,
  (
    part refl (
      _,
      record { characters = O.BarBar; others = Some O.Bar; behind = _; first = refl; is_here = refl; is_after = refl },
      (part refl (_, record { characters = O.Bar; others = None; behind = _; first = refl; is_here = refl; is_after = refl }, (part refl refl refl)) refl),
    ) refl,
    (
      part refl (_, record { characters = O.BarBarBar; others = Some O.BarBar; behind = _; first = refl; is_here = refl; is_after = refl }, (part refl (_, record { characters = O.BarBar; others = Some O.Bar; behind = _; first = refl; is_here = refl; is_after = refl }, (part refl (_, record { characters = O.Bar; others = None; behind = _; first = refl; is_here = refl; is_after = refl }, (part refl refl refl)) refl)) refl)) refl,
      (
        part refl (_, record { characters = O.PlusPlus; others = Some O.Plus; behind = _; first = refl; is_here = refl; is_after = refl }, (part refl (_, record { characters = O.Plus; others = None; behind = _; first = refl; is_here = refl; is_after = refl }, (part refl refl refl)) refl)) refl,
        (
          part refl (_, record { characters = O.MinusMinus; others = Some O.Minus; behind = _; first = refl; is_here = refl; is_after = refl }, (part refl (_, record { characters = O.Minus; others = None; behind = _; first = refl; is_here = refl; is_after = refl }, (part refl refl refl)) refl)) refl,
          (
            part refl (_, record { characters = O.StarStar; others = Some O.Star; behind = _; first = refl; is_here = refl; is_after = refl }, (part refl (_, record { characters = O.Star; others = None; behind = _; first = refl; is_here = refl; is_after = refl }, (part refl refl refl)) refl)) refl,
            (
              part refl (_, record { characters = O.NotEqual; others = Some O.Equal; behind = _; first = refl; is_here = refl; is_after = refl }, (part refl (_, record { characters = O.Equal; others = None; behind = _; first = refl; is_here = refl; is_after = refl }, (part refl refl refl)) refl)) refl,
              (
                part refl (_, record { characters = O.NotEqualEqual; others = Some O.EqualEqual; behind = _; first = refl; is_here = refl; is_after = refl }, (part refl (_, record { characters = O.EqualEqual; others = Some O.Equal; behind = _; first = refl; is_here = refl; is_after = refl }, (part refl (_, record { characters = O.Equal; others = None; behind = _; first = refl; is_here = refl; is_after = refl }, (part refl refl refl)) refl)) refl)) refl,
                (
                  part refl (_, record { characters = O.NotEqualEqualEqual; others = Some O.EqualEqualEqual; behind = _; first = refl; is_here = refl; is_after = refl }, (part refl (_, record { characters = O.EqualEqualEqual; others = Some O.EqualEqual; behind = _; first = refl; is_here = refl; is_after = refl }, (part refl (_, record { characters = O.EqualEqual; others = Some O.Equal; behind = _; first = refl; is_here = refl; is_after = refl }, (part refl (_, record { characters = O.Equal; others = None; behind = _; first = refl; is_here = refl; is_after = refl }, (part refl refl refl)) refl)) refl)) refl))
                      refl,
                  (
                    part refl (_, record { characters = O.EqualEqual; others = Some O.Equal; behind = _; first = refl; is_here = refl; is_after = refl }, (part refl (_, record { characters = O.Equal; others = None; behind = _; first = refl; is_here = refl; is_after = refl }, (part refl refl refl)) refl)) refl,
                    (
                      part refl (_, record { characters = O.EqualEqualEqual; others = Some O.EqualEqual; behind = _; first = refl; is_here = refl; is_after = refl }, (part refl (_, record { characters = O.EqualEqual; others = Some O.Equal; behind = _; first = refl; is_here = refl; is_after = refl }, (part refl (_, record { characters = O.Equal; others = None; behind = _; first = refl; is_here = refl; is_after = refl }, (part refl refl refl)) refl)) refl)) refl,
                      (
                        part refl (refl, (_, (part refl refl refl), (_, (leb-true 1 _ refl, (at 2, refl)), (part refl (_, record { characters = O.Plus; others = None; behind = _; first = refl; is_here = refl; is_after = refl }, (part refl refl refl)) refl)))) refl,
                        (
                          part refl (refl, (_, (part refl refl refl), (_, (leb-true 1 _ refl, (at 2, refl)), (part refl refl refl)))) refl,
                          (
                            part refl (refl, (_, (part refl refl refl), (_, (leb-true 1 _ refl, (at 2, refl)), (part refl (_, record { characters = O.Minus; others = None; behind = _; first = refl; is_here = refl; is_after = refl }, (part refl (_, record { characters = O.Minus; others = None; behind = _; first = refl; is_here = refl; is_after = refl }, (part refl refl refl)) refl)) refl)))) refl,
                            (
                              part refl (_, record { characters = O.Dot; others = None; behind = _; first = refl; is_here = refl; is_after = refl }, (part refl (refl, (_, (part refl refl refl), (_, (at 3, refl), refl))) refl)) refl,
                              (
                                part refl (_, record { characters = O.Minus; others = None; behind = _; first = refl; is_here = refl; is_after = refl }, (part refl (_, refl, (part refl refl refl)) refl)) refl,
                                (
                                  part refl (_, refl, (part refl (_, record { characters = O.MinusMinus; others = Some O.Minus; behind = _; first = refl; is_here = refl; is_after = refl }, (part refl (_, record { characters = O.Minus; others = None; behind = _; first = refl; is_here = refl; is_after = refl }, (part refl refl refl)) refl)) refl)) refl,
                                  tt,
                                ),
                              ),
                            ),
                          ),
                        ),
                      ),
                    ),
                  ),
                ),
              ),
            ),
          ),
        ),
      ),
    ),
  ),
)

pub nearest_hold : AllByRecursion Holds nearest
nearest_hold = (
  part refl (_, refl, (_, (part refl refl refl), (_, (at 3, refl), (part refl (_, refl, (_, (part refl refl refl), (_, (at 6, refl), (_, (part refl refl refl), (_, (at 8, refl), (part refl refl refl)))))) refl)))) refl,
  (
    part refl (_, refl, (_, (part refl refl refl), (_, (at 3, refl), (_, (part refl refl refl), (_, (at 5, refl), (part refl (_, refl, (_, (part refl refl refl), (_, (at 8, refl), (part refl refl refl)))) refl)))))) refl,
    (
      part refl (_, refl, (_, (part refl (_, refl, (_, (part refl refl refl), (_, (at 4, refl), (_, (part refl refl refl), (_, (at 6, refl), (part refl refl refl)))))) refl), (_, (at 8, refl), (part refl refl refl)))) refl,
      (
        part refl (_, refl, (_, (part refl refl refl), (_, (at 3, refl), (part refl (_, refl, (_, (part refl refl refl), (_, (at 6, refl), (part refl refl refl)))) refl)))) refl,
        (
          part refl (_, refl, (_, (part refl (_, refl, (_, (part refl refl refl), (_, (at 4, refl), (part refl refl refl)))) refl), (_, (at 6, refl), (part refl refl refl)))) refl,
          (
            part refl (_, refl, (part refl (_, refl, (_, (part refl refl refl), (_, (at 3, refl), (part refl refl refl)))) refl)) refl,
            (
              part refl (_, refl, (part refl (_, refl, (_, (part refl refl refl), (_, (at 4, refl), (part refl refl refl)))) refl)) refl,
              (
                part refl (_, refl, (part refl (_, refl, (_, (part refl refl refl), (_, (at 4, refl), (part refl refl refl)))) refl)) refl,
                (
                  part refl (_, refl, (_, (part refl (refl, (_, (part refl refl refl), (_, (at 3, refl), (_, (part refl refl refl), (_, (at 5, refl), (part refl refl refl)))))) refl), (_, (at 7, refl), (part refl refl refl)))) refl,
                  (
                    part refl (refl, (_, (part refl (refl, (_, (part refl refl refl), (_, (at 2, refl), (part refl refl refl)))) refl), (_, (at 4, refl), (_, (part refl refl refl), (_, (at 6, refl), (part refl refl refl)))))) refl,
                    (
                      part refl (refl, (_, (part refl refl refl), (_, (at 2, refl), (part refl (_, refl, (part refl (refl, (_, (part refl refl refl), (_, (at 5, refl), (_, (part refl refl refl), (_, (at 7, refl), (part refl refl refl)))))) refl)) refl)))) refl,
                      (
                        part refl (_, refl, (_, (part refl refl refl), (_, (at 3, refl), (part refl (refl, (_, (part refl refl refl), (_, (leb-true 1 _ refl, (at 5, refl)), (part refl refl refl)))) refl)))) refl,
                        (
                          part refl (refl, (_, (part refl refl refl), (_, (leb-true 1 _ refl, (at 2, refl)), (part refl (_, refl, (_, (part refl refl refl), (_, (at 5, refl), (part refl (refl, (_, (part refl refl refl), (_, (leb-true 1 _ refl, (at 7, refl)), (part refl refl refl)))) refl)))) refl)))) refl,
                          (
                            part refl
                                (_, refl, (part refl (refl, (_, (part refl refl refl), (_, (leb-true 1 _ refl, (at 3, refl)), (part refl refl refl)))) refl))
                                refl,
                            (
                              part refl
                                  (_, refl, (part refl (refl, (_, (part refl refl refl), (_, (leb-true 1 _ refl, (at 3, refl)), (part refl refl refl)))) refl))
                                  refl,
                              (
                                part refl (_, refl, (_, (part refl refl refl), (_, (at 3, refl), (part refl (refl, (_, (part refl refl refl), (_, (leb-true 1 _ refl, (at 5, refl)), (part refl refl refl)))) refl)))) refl,
                                (
                                  part refl (_, refl, (part refl (_, refl, (_, (part refl refl refl), (_, (at 4, refl), (part refl refl refl)))) refl)) refl,
                                  (
                                    part refl (refl, (_, (part refl (_, refl, (_, (_, (part refl (_, refl, (_, (part refl refl refl), (_, (at 4, refl), (part refl refl refl)))) refl), refl), (at 6, refl))) refl), (_, (leb-true 1 _ refl, (at 7, refl)), (part refl refl refl)))) refl,
                                    tt,
                                  ),
                                ),
                              ),
                            ),
                          ),
                        ),
                      ),
                    ),
                  ),
                ),
              ),
            ),
          ),
        ),
      ),
    ),
  ),
)

pub operands_hold : AllByRecursion Holds operands
operands_hold = (
  part refl (
    _,
    refl,
    (part refl (_, record { characters = O.Plus; others = None; behind = _; first = refl; is_here = refl; is_after = refl }, (part refl refl refl)) refl),
  ) refl,
  (
    part refl (_, refl, (part refl (_, refl, inl refl) refl)) refl,
    (
      part refl (_, refl, (part refl (_, record { characters = O.Equal; others = None; behind = _; first = refl; is_here = refl; is_after = refl }, (part refl refl refl)) refl)) refl,
      (
        part refl (_, refl, (part refl (_, refl, (_, (_, (part refl refl refl), refl), (at 4, refl))) refl)) refl,
        (
          part refl (_, refl, (part refl (_, refl, (_, (_, (part refl refl refl), refl), (at 4, refl))) refl)) refl,
          (
            part refl (_, refl, (part refl (_, refl, (_, (_, (part refl refl refl), refl), (at 4, refl))) refl)) refl,
            (
              part refl (_, refl, (part refl (_, refl, (part refl refl refl)) refl)) refl,
              (
                part refl (_, refl, (part refl refl refl)) refl,
                (
                  part refl (_, refl, (part refl (refl, (_, (part refl refl refl), (_, (leb-true 1 _ refl, (at 3, refl)), (part refl refl refl)))) refl)) refl,
                  (
                    part refl
                        (_, refl, (part refl (refl, (_, (part refl refl refl), (_, (at 3, refl), (_, (_, (part refl refl refl), refl), (at 5, refl))))) refl))
                        refl,
                    (
                      part refl
                          (_, refl, (part refl (refl, (_, (part refl refl refl), (_, (leb-true 1 _ refl, (at 3, refl)), (part refl refl refl)))) refl)) refl,
                      (
                        part refl (_, refl, (part refl (_, record { characters = O.Dot; others = None; behind = _; first = refl; is_here = refl; is_after = refl }, (part refl refl refl)) refl)) refl,
                        (
                          part refl (_, refl, (part refl (refl, (_, (part refl refl refl), (_, (at 3, refl), refl))) refl)) refl,
                          (
                            part refl (_, refl, (part refl (_, refl, (part refl refl refl)) refl)) refl,
                            (
                              part refl
                                  (refl, (_, (part refl (_, refl, (part refl refl refl)) refl), (_, (leb-true 1 _ refl, (at 2, refl)), (part refl refl refl))))
                                  refl,
                              (
                                part refl (refl, (_, (part refl (_, refl, (part refl refl refl)) refl), (_, (leb-true 1 _ refl, (at 2, refl)), (part refl refl refl)))) refl,
                                (
                                  part refl (refl, (_, (part refl (_, refl, (part refl refl refl)) refl), (_, (at 2, refl), (part refl refl refl)))) refl,
                                  (
                                    part refl (refl, (_, (part refl (_, refl, (part refl refl refl)) refl), (_, (leb-true 1 _ refl, (at 2, refl)), (part refl (_, refl, (part refl refl refl)) refl)))) refl,
                                    (
                                      part refl (_, refl, (part refl (_, refl, (part refl refl refl)) refl)) refl,
                                      (
                                        part refl (_, refl, (part refl (_, record { characters = O.BarBar; others = Some O.Bar; behind = _; first = refl; is_here = refl; is_after = refl }, (part refl (_, record { characters = O.Bar; others = None; behind = _; first = refl; is_here = refl; is_after = refl }, (part refl refl refl)) refl)) refl)) refl,
                                        (
                                          part refl (refl, (_, (part refl (_, refl, (part refl refl refl)) refl), (_, (leb-true 1 _ refl, (at 2, refl)), (part refl refl refl)))) refl,
                                          (
                                            part refl (_, refl, (_, (_, (part refl (_, refl, (part refl refl refl)) refl), (_, (at 3, refl), (_, (part refl refl refl), refl))), (at 5, refl))) refl,
                                            (
                                              part refl (_, refl, (_, (_, (part refl (_, refl, (part refl refl refl)) refl), (_, (at 3, refl), (_, (part refl refl refl), refl))), (at 5, refl))) refl,
                                              (
                                                part refl
                                                    (_, refl, (_, (part refl (_, refl, (part refl refl refl)) refl), (_, (at 3, refl), (part refl refl refl))))
                                                    refl,
                                                (
                                                  part refl (_, refl, (_, (part refl refl refl), (_, (at 3, refl), (_, (part refl (_, refl, (part refl refl refl)) refl), (_, (at 5, refl), (part refl refl refl)))))) refl,
                                                  (
                                                    part refl (_, refl, (_, (part refl (_, refl, (part refl refl refl)) refl), (_, (at 3, refl), (part refl refl refl)))) refl,
                                                    (
                                                      part refl (_, refl, (_, (part refl (_, refl, (part refl refl refl)) refl), (_, (at 3, refl), (_, (at 4, refl), (_, (_, (_, refl, (_, (at 6, refl), (part refl refl refl))), refl), (at 8, refl)))))) refl,
                                                      (
                                                        part refl (refl, (_, (part refl refl refl), (_, (at 2, refl), (_, (part refl (_, refl, (part refl refl refl)) refl), (_, (at 4, refl), (_, (part refl refl refl), (at 6, refl))))))) refl,
                                                        (
                                                          part refl (refl, (_, (part refl refl refl), (_, (leb-true 1 _ refl, (at 2, refl)), (part refl (_, refl, (part refl (refl, (_, (part refl refl refl), (_, (leb-true 1 _ refl, (at 5, refl)), (part refl refl refl)))) refl)) refl)))) refl,
                                                          (
                                                            part refl (refl, (_, (part refl (_, refl, (_, (_, (part refl (_, refl, (part refl refl refl)) refl), refl), (at 4, refl))) refl), (_, (leb-true 1 _ refl, (at 5, refl)), (part refl refl refl)))) refl,
                                                            tt,
                                                          ),
                                                        ),
                                                      ),
                                                    ),
                                                  ),
                                                ),
                                              ),
                                            ),
                                          ),
                                        ),
                                      ),
                                    ),
                                  ),
                                ),
                              ),
                            ),
                          ),
                        ),
                      ),
                    ),
                  ),
                ),
              ),
            ),
          ),
        ),
      ),
    ),
  ),
)

pub files_hold : AllByRecursion FileHolds files
files_hold = (
  refl,
  (
    (_, (_, refl, (_, refl, refl)), refl),
    (
      (_, (_, refl, (_, refl, (_, (at 3, refl), (_, refl, refl)))), (_, (_, refl, (_, refl, (_, (at 7, refl), (_, refl, refl)))), refl)),
      (
        (_, (_, refl, (_, refl, (_, (at 3, refl), (_, refl, refl)))), refl),
        (
          (_, (_, refl, (_, refl, (_, (at 3, refl), (_, refl, (at 4, refl))))), refl),
          (
            (_, (_, refl, (_, refl, (_, (at 3, refl), (_, (_, refl, (_, (at 5, refl), (_, refl, refl))), (at 7, refl))))), refl),
            (
              (_, (_, refl, (_, refl, (_, (at 3, refl), (_, refl, (_, (at 4, refl), (_, (at 5, refl), (_, refl, (_, refl, (_, refl, (at 6, refl)))))))))), refl),
              (
                (_, (_, refl, (_, refl, (_, (at 3, refl), (_, (_, refl, (_, (at 5, refl), (_, refl, refl))), (_, (at 7, refl), (_, (at 8, refl), (_, refl, (_, refl, (_, refl, (at 9, refl)))))))))), refl),
                (
                  (_, (_, refl, (_, refl, (_, (at 3, refl), (_, (_, (_, refl, refl), (_, (at 5, refl), (at 6, refl))), (_, (at 7, refl), (_, (at 8, refl), (_, refl, (_, refl, (_, refl, (at 9, refl)))))))))), refl),
                  (
                    (_, (_, refl, (_, refl, (_, (at 3, refl), (_, (_, (_, refl, (_, (at 5, refl), (_, refl, refl))), (_, (at 7, refl), (at 8, refl))), (_, (at 9, refl), (_, (at 10, refl), (_, refl, (_, refl, (_, refl, (at 11, refl)))))))))), refl),
                    (
                      (_, (_, refl, (_, refl, (_, (at 3, refl), (_, refl, (_, (at 4, refl), (_, (at 5, refl), (_, (_, refl, (_, (_, refl, (_, (at 8, refl), (_, refl, refl))), (_, (at 10, refl), (_, refl, (_, (_, refl, refl), (_, (at 13, refl), refl)))))), (_, (_, refl, (_, (part refl (refl, (_, (part refl refl refl), (_, (leb-true 1 _ refl, (at 16, refl)), (part refl refl refl)))) refl), (at 18, refl))), (_, (_, (part refl refl refl), (_, (at 20, refl), refl)), (at 21, refl)))))))))), refl),
                      (
                        (_, (_, refl, (_, refl, (_, (at 3, refl), (_, refl, (_, (at 4, refl), (_, (at 5, refl), (_, (_, refl, (_, (_, refl, refl), (_, (at 8, refl), (_, refl, (_, (_, refl, refl), (_, (at 11, refl), refl)))))), (_, refl, (_, refl, (at 12, refl)))))))))), refl),
                        (
                          (_, (_, refl, (_, refl, (_, (at 3, refl), (_, refl, (_, (at 4, refl), (_, (at 5, refl), (_, refl, (_, refl, (_, (_, (part refl refl refl), (_, (at 6, refl), (_, (part refl (_, refl, (part refl refl refl)) refl), (_, (at 8, refl), (_, (part refl refl refl), (_, (at 10, refl), refl)))))), (at 11, refl)))))))))), refl),
                          (
                            (_, (_, refl, (_, refl, (_, (at 3, refl), (_, refl, (_, (at 4, refl), (_, (at 5, refl), (_, refl, (_, (_, refl, (_, (part refl refl refl), (at 8, refl))), (_, refl, (at 9, refl)))))))))), (_, (_, refl, (_, refl, refl)), refl)),
                            (
                              (_, (_, refl, (_, refl, (_, (at 3, refl), (_, refl, (_, (at 4, refl), (_, (at 5, refl), (_, refl, (_, refl, (_, (_, (part refl (_, refl, (part refl refl refl)) refl), (_, (at 7, refl), refl)), (at 8, refl)))))))))), (_, (_, refl, (_, refl, (_, (at 11, refl), (_, refl, (_, (at 12, refl), (_, (at 13, refl), (_, refl, (_, refl, (_, refl, (at 14, refl)))))))))), (_, (_, refl, (_, refl, (_, (at 17, refl), (_, (_, refl, refl), (at 19, refl))))), refl))),
                              tt,
                            ),
                          ),
                        ),
                      ),
                    ),
                  ),
                ),
              ),
            ),
          ),
        ),
      ),
    ),
  ),
)
