-- The host's view at boot needs three entries.
use Rattle.std.proofs.Common.{arith}
use Rattle.std.proofs.lemmas.Bool.Decides.{nat_tests}
use Rattle.pmp_match.specs.Meaning.{Needs}
use Rattle.library_tests.specs.BootList.{boot_view}
use Rattle.prefix_tree.specs.Trees.{TreeMeansAt}
use Rattle.library_tests.specs.WorkedTrees.{boot_tree}
use Rattle.entry_planner.proofs.Needed.{needed}

boot_tree_means : TreeMeansAt boot_view 44 0 boot_tree
boot_tree_means = (
  (
    (
      (
        (
          (
            (
              (
                (
                  (
                    (
                      (
                        (
                          (
                            (
                              (
                                (
                                  (
                                    (
                                      (
                                        (
                                          (
                                            (
                                              (
                                                (
                                                  (
                                                    (
                                                      (
                                                        (λ i h. grind (arith, nat_tests)),
                                                        (
                                                          (
                                                            (
                                                              (
                                                                (
                                                                  (
                                                                    (
                                                                      (
                                                                        (
                                                                          (
                                                                            (
                                                                              (
                                                                                (
                                                                                  (
                                                                                    (
                                                                                      ((λ i h. grind (arith, nat_tests)), (λ i h. grind (arith, nat_tests))),
                                                                                      (λ i h. grind (arith, nat_tests)),
                                                                                    ),
                                                                                    (λ i h. grind (arith, nat_tests)),
                                                                                  ),
                                                                                  (λ i h. grind (arith, nat_tests)),
                                                                                ),
                                                                                (λ i h. grind (arith, nat_tests)),
                                                                              ),
                                                                              (λ i h. grind (arith, nat_tests)),
                                                                            ),
                                                                            (λ i h. grind (arith, nat_tests)),
                                                                          ),
                                                                          (λ i h. grind (arith, nat_tests)),
                                                                        ),
                                                                        (λ i h. grind (arith, nat_tests)),
                                                                      ),
                                                                      (λ i h. grind (arith, nat_tests)),
                                                                    ),
                                                                    (λ i h. grind (arith, nat_tests)),
                                                                  ),
                                                                  (λ i h. grind (arith, nat_tests)),
                                                                ),
                                                                (λ i h. grind (arith, nat_tests)),
                                                              ),
                                                              (λ i h. grind (arith, nat_tests)),
                                                            ),
                                                            (λ i h. grind (arith, nat_tests)),
                                                          ),
                                                          (λ i h. grind (arith, nat_tests)),
                                                        ),
                                                      ),
                                                      (λ i h. grind (arith, nat_tests)),
                                                    ),
                                                    (λ i h. grind (arith, nat_tests)),
                                                  ),
                                                  (
                                                    (
                                                      (
                                                        (
                                                          (
                                                            (
                                                              (
                                                                (
                                                                  (
                                                                    ((λ i h. grind (arith, nat_tests)), (λ i h. grind (arith, nat_tests))),
                                                                    (λ i h. grind (arith, nat_tests)),
                                                                  ),
                                                                  (λ i h. grind (arith, nat_tests)),
                                                                ),
                                                                (λ i h. grind (arith, nat_tests)),
                                                              ),
                                                              (λ i h. grind (arith, nat_tests)),
                                                            ),
                                                            (λ i h. grind (arith, nat_tests)),
                                                          ),
                                                          (λ i h. grind (arith, nat_tests)),
                                                        ),
                                                        (λ i h. grind (arith, nat_tests)),
                                                      ),
                                                      (λ i h. grind (arith, nat_tests)),
                                                    ),
                                                    (λ i h. grind (arith, nat_tests)),
                                                  ),
                                                ),
                                                (λ i h. grind (arith, nat_tests)),
                                              ),
                                              (λ i h. grind (arith, nat_tests)),
                                            ),
                                            (λ i h. grind (arith, nat_tests)),
                                          ),
                                          (λ i h. grind (arith, nat_tests)),
                                        ),
                                        (λ i h. grind (arith, nat_tests)),
                                      ),
                                      (λ i h. grind (arith, nat_tests)),
                                    ),
                                    (λ i h. grind (arith, nat_tests)),
                                  ),
                                  (λ i h. grind (arith, nat_tests)),
                                ),
                                (λ i h. grind (arith, nat_tests)),
                              ),
                              (λ i h. grind (arith, nat_tests)),
                            ),
                            (λ i h. grind (arith, nat_tests)),
                          ),
                          (λ i h. grind (arith, nat_tests)),
                        ),
                        (λ i h. grind (arith, nat_tests)),
                      ),
                      (λ i h. grind (arith, nat_tests)),
                    ),
                    (λ i h. grind (arith, nat_tests)),
                  ),
                  (λ i h. grind (arith, nat_tests)),
                ),
                (λ i h. grind (arith, nat_tests)),
              ),
              (λ i h. grind (arith, nat_tests)),
            ),
            (λ i h. grind (arith, nat_tests)),
          ),
          (λ i h. grind (arith, nat_tests)),
        ),
        (λ i h. grind (arith, nat_tests)),
      ),
      (λ i h. grind (arith, nat_tests)),
    ),
    (λ i h. grind (arith, nat_tests)),
  ),
  (λ i h. grind (arith, nat_tests)),
)

pub boot_needs : Needs boot_view 3
boot_needs = needed boot_view boot_tree boot_tree_means
