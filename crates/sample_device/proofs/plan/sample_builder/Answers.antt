use Rattle.sample_device.proofs.plan.sample_builder.Goals as goal

-- red and blue aren't in the cluster of autogain and gain
pub returns-in-Err-cluster-clause-err : goal.returns-in-Err-cluster-clause-err
returns-in-Err-cluster-clause-err g c =
    let refused = c.in-Err-cluster.ensures.err.1 in
    rw (c.in_default.ensures.ok.2, c.in_ok-builder.ensures.ok) at refused

-- nor is the button in one of the two
pub returns-in-Err-cluster-2-clause-err : goal.returns-in-Err-cluster-2-clause-err
returns-in-Err-cluster-2-clause-err g c =
    let refused = c.in-Err-cluster-2.ensures.err.1 in
    rw (c.in_default-cluster.ensures.ok.2, c.in_default.ensures.ok.2, c.in_ok-builder.ensures.ok) at refused

-- nor brightness in one of the three
pub returns-in-Err-cluster-3-clause-err : goal.returns-in-Err-cluster-3-clause-err
returns-in-Err-cluster-3-clause-err g c =
    let refused = c.in-Err-cluster-3.ensures.err.1 in
    rw (c.in_default-cluster-2.ensures.ok.2, c.in_default-cluster.ensures.ok.2, c.in_default.ensures.ok.2, c.in_ok-builder.ensures.ok) at refused
