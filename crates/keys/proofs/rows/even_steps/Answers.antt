use Rattle.std.proofs.Common.{◌≡◌, true, length, arith}
use Rattle.keys.proofs.Stepwise.{Halved, evens, halves}
use Rattle.keys.proofs.rows.even_steps.Goals as goal

pub returns : goal.returns
returns g c =
    let gap = g.K.SpacedKey.gap in
    let row = c.args.row.now in
    let forward : c.all.result ≡ true → Halved gap row (length row) = λ e i d h. grind arith in
    let backward : Halved gap row (length row) → c.all.result ≡ true = λ halved. grind arith in
    (λ e. evens gap g.met.K.SpacedKey.adds row (forward e), λ even. backward (halves gap g.met.K.SpacedKey.adds row even))
