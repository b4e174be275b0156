use Rattle.icn_text.proofs.arithmetic.+magnitude_power.Given as goal

abbrev pub decreases-magnitude_power : goal.decreases-magnitude_power
decreases-magnitude_power l = l.exponent
