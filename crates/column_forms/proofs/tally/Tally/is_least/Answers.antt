use Rattle.std.proofs.lemmas.Bool.{eqb-true, eq-eqb}
use Rattle.column_forms.proofs.Best.{own_is_least}
use Rattle.column_forms.proofs.tally.Tally.is_least.Goals as goal

pub returns : goal.returns
returns c = λ section values named t s.
    let own = own_is_least c.args.classes section values c.args.self.now c.args.column c.best.result named t s (c.best.ensures section values named t s) in
    (λ is. own.0 (eqb-true c.best.result.form c.args.column.form is), λ least. eq-eqb c.best.result.form c.args.column.form (own.1 least))
