use Rattle.std.proofs.Common.{◌≡◌, true, arith}
use Rattle.std.proofs.lemmas.Grind.{common_steps}
use Rattle.keys.specs.Rows.{Rising}
use Rattle.keys.proofs.Stepwise.{ascends}
use Rattle.keys.proofs.rows.rising.Goals as goal

pub returns : goal.returns
returns g c =
    let order = g.K.Ord.cmp in
    let row = c.args.row.now in
    let each : c.all.result ≡ true → Rising order row = λ e i d h. grind (arith, common_steps) in
    let back : Rising order row → c.all.result ≡ true = λ rising. grind (arith, common_steps) in
    record { next = (each, back); later = λ e. ascends order g.met.K.Ord.total.trans row (each e) }
