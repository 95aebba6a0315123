use Rattle.file_hints.proofs.certificate_reasons.+fault_in.Given as goal

abbrev pub decreases-fault_in : goal.decreases-fault_in
decreases-fault_in l = l.log2
