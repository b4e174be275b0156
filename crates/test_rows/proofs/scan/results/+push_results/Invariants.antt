use Rattle.test_rows.proofs.scan.results.+push_results.Given as goal

abbrev pub decreases-push_results : goal.decreases-push_results
decreases-push_results l = l.left
