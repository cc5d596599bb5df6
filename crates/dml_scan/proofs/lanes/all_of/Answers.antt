use Rattle.dml_scan.proofs.lanes.all_of.Goals as goal

pub returns : goal.returns
returns c =
    let front = c.both.ensures in
    let back = c.both-2.ensures in
    let all = c.both-3.ensures in (
      λ full. (let both = all.0 full in ((front.0 both.0).0, (front.0 both.0).1, (back.0 both.1).0, (back.0 both.1).1)),
      λ fulls. all.1 (front.1 (fulls.0, fulls.1), back.1 (fulls.2, fulls.3)),
    )
