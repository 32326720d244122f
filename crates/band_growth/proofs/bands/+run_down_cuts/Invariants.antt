use Rattle.band_growth.proofs.bands.+run_down_cuts.Given as goal

abbrev pub decreases-run_down_cuts : goal.decreases-run_down_cuts
decreases-run_down_cuts l = l.rows
